-- What writes that wait for a sync may come to.
use Rattle.std.proofs.Common.{◌≡◌, inl, inr, refl, sym, ap, subst, ◌∙◌, ℕ, ◌+◌, ◌-◌, ◌<◌, ◌≤◌, ◌^◌, max, Bool, true, List, [], ◌∷◌, ◌++◌, length, take, drop, replicate, length-append, arith}
use Rattle.std.specs.Prelude.{◌&&◌}
use Rattle.std.proofs.lemmas.List.{take_all, drop-drop, length-take, length-replicate}
use Rattle.ic_base.specs.declared.events.Fill.TheVariants.{Old, Byte}
use Rattle.def_log.specs.Torn.{Write, written, all_written, torn}
use Rattle.def_log.specs.Images.{IsTorn, TornFrom, MayLeave, Elapses}
use Rattle.def_log.proofs.Moments.{elapses_weaker, elapses_then}
use Rattle.def_log.proofs.Stops.{length-written, GoesOn, at_first, goes_on}
use Rattle.ic_disk.specs.Past.{filled}
use Rattle.ic_disk.specs.TornLaws.{may_none}
use Rattle.ic_disk.specs.TornDisks.{AreReached, AreShort, CanArrive, TornBy, need, total, ends, is_none_held}

-- what a shorter write comes to, a longer one may
pub torn_more : (at count more : ℕ) (old image : List ℕ) → count ≤ more → IsTorn at count old image → IsTorn at more old image
torn_more at count more old image le torn =
    let all : at + count + (more - count) ≡ at + more = omega (arith, le) in
    record {
      before = torn.before;
      behind = ap (λ n. drop n image) (sym all) ∙ sym (drop-drop (more - count) (at + count) image) ∙ ap (drop (more - count)) torn.behind ∙ drop-drop (more - count) (at + count) old ∙ ap (λ n. drop n old) all;
      no_shorter = torn.no_shorter;
      no_longer = omega (arith, le, torn.no_longer);
      bytes = torn.bytes;
    }

-- the last write of all
pub may_last : (writes : List Write) (w : Write) (was image : List ℕ) → MayLeave was (writes ++ w ∷ []) image → (mid : List ℕ) × MayLeave was writes mid × IsTorn w.0 (length w.1) mid image
may_last [] w was image may = (was, refl, let at_end : image ≡ may.0 = may.2 in let P : List ℕ → Type 0 = IsTorn w.0 (length w.1) was in subst P (sym at_end) may.1)
may_last (v ∷ writes) w was image may = let rest = may_last writes w may.0 image may.2 in (rest.0, (may.0, may.1, rest.1), rest.2)

-- where all bytes arrive, nothing is torn
pub torn_all : (file : List ℕ) (writes : List Write) (keep : ℕ) → total writes ≤ keep → torn file writes keep Old ≡ all_written file writes
torn_all file [] keep le = refl
torn_all file (w ∷ writes) keep le =
    ap (λ (l : List ℕ). torn (written file w.0 l) writes (keep - length w.1) Old) (take_all keep w.1 (omega (arith, le)))
    ∙ torn_all (written file w.0 w.1) writes (keep - length w.1) (omega (arith, le))

-- a byte in place of each one that doesn't arrive
pub torn_filled : (file : List ℕ) (writes : List Write) (keep byte : ℕ) → torn file writes keep (Byte byte) ≡ all_written file (filled keep byte writes)
torn_filled file [] keep byte = refl
torn_filled file (w ∷ writes) keep byte = torn_filled (written file w.0 (take keep w.1 ++ replicate (length w.1 - keep) byte)) writes (keep - length w.1) byte

-- writes that stand one behind the other can arrive as far as one likes
goes_to : (whole file : List ℕ) (writes : List Write) (keep : ℕ) → GoesOn whole file keep Old → AreReached whole writes → CanArrive keep file writes
goes_to whole file [] keep goes reached = tt
goes_to whole file (w ∷ writes) keep goes reached = (
  λ some. elim goes [ inl long ↦ omega (arith, long, reached.0) | inr none ↦ absurd (omega (arith, some, none)) ],
  goes_to (written whole w.0 w.1) (written file w.0 (take keep w.1)) writes (keep - length w.1) (goes_on whole file w.1 w.0 keep Old goes reached.0) reached.1,
)

pub can_arrive : (file : List ℕ) (writes : List Write) (keep : ℕ) → AreReached file writes → CanArrive keep file writes
can_arrive file writes keep reached = goes_to file file writes keep (at_first file keep Old) reached

-- writes of the same lengths reach as far
filled_length : (keep byte : ℕ) (bytes : List ℕ) → length (take keep bytes ++ replicate (length bytes - keep) byte) ≡ length bytes
filled_length keep byte bytes = omega (arith, length-append (take keep bytes) (replicate (length bytes - keep) byte), length-take keep bytes, length-replicate (length bytes - keep) byte)

pub filled_reached : (file other : List ℕ) (writes : List Write) (keep byte : ℕ) → length file ≡ length other → AreReached file writes → AreReached other (filled keep byte writes)
filled_reached file other [] keep byte same reached = tt
filled_reached file other (w ∷ writes) keep byte same reached =
    let place : w.0 ≤ length other = omega (arith, same, reached.0) in
    let bytes : List ℕ = take keep w.1 ++ replicate (length w.1 - keep) byte in
    let long : length (written file w.0 w.1) ≡ length (written other w.0 bytes) =
    omega (arith, length-written file w.1 w.0 reached.0, length-written other bytes w.0 place, filled_length keep byte w.1, same) in
    (place, filled_reached (written file w.0 w.1) (written other w.0 bytes) writes (keep - length w.1) byte long reached.1)

pub filled_need : (writes : List Write) (keep byte : ℕ) → need (filled keep byte writes) ≡ need writes
filled_need [] keep byte = refl
filled_need (w ∷ writes) keep byte = omega (arith, filled_length keep byte w.1, filled_need writes (keep - length w.1) byte)

pub filled_count : (writes : List Write) (keep byte : ℕ) → length (filled keep byte writes) ≡ length writes
filled_count [] keep byte = refl
filled_count (w ∷ writes) keep byte = omega (arith, filled_count writes (keep - length w.1) byte)

pub filled_total : (writes : List Write) (keep byte : ℕ) → total (filled keep byte writes) ≡ total writes
filled_total [] keep byte = refl
filled_total (w ∷ writes) keep byte = omega (arith, filled_length keep byte w.1, filled_total writes (keep - length w.1) byte)

pub filled_short : (writes : List Write) (keep byte : ℕ) → AreShort writes → AreShort (filled keep byte writes)
filled_short [] keep byte short = short
filled_short (w ∷ writes) keep byte short = (omega (arith, short.0, filled_length keep byte w.1), filled_short writes (keep - length w.1) byte short.1)

pub filled_leaves : (writes : List Write) (keep byte : ℕ) (was image : List ℕ) → MayLeave was (filled keep byte writes) image → MayLeave was writes image
filled_leaves [] keep byte was image may = may
filled_leaves (w ∷ writes) keep byte was image may =
    let P : ℕ → Type 0 = λ n. IsTorn w.0 n was may.0 in
    (may.0, subst P (filled_length keep byte w.1) may.1, filled_leaves writes (keep - length w.1) byte may.0 image may.2)

-- one write more
pub reached_more : (file : List ℕ) (writes : List Write) (w : Write) → AreReached file writes → w.0 ≤ length (all_written file writes) → AreReached file (writes ++ w ∷ [])
reached_more file [] w reached le = (le, tt)
reached_more file (v ∷ writes) w reached le = (reached.0, reached_more (written file v.0 v.1) writes w reached.1 le)

pub short_more : (writes : List Write) (w : Write) → AreShort writes → w.0 + length w.1 < 2 ^ 64 → AreShort (writes ++ w ∷ [])
short_more [] w short fits = (fits, tt)
short_more (v ∷ writes) w short fits = (short.0, short_more writes w short.1 fits)

pub need_more : (writes : List Write) (w : Write) → need (writes ++ w ∷ []) ≡ need writes + (length w.1 + 32)
need_more [] w = omega arith
need_more (v ∷ writes) w = omega (arith, need_more writes w)

-- a write, and the writes behind it
module _ {D : Type 0} (moment : D → ℕ) (left_since : D → ℕ → List ℕ → Type 0) (may_leave : D → List ℕ → Type 0) (old : D) (w : Write) (writes all : List Write) (e : w ∷ writes ≡ all) where
  pub first_arrives : (mid : D) → Elapses moment left_since may_leave (TornFrom w.0 (length w.1) (may_leave old)) old mid → Elapses moment left_since may_leave (TornBy all (may_leave old)) old mid
  first_arrives mid time =
      let P : List Write → Type 0 = λ l. Elapses moment left_since may_leave (TornBy l (may_leave old)) old mid in
      subst P e (elapses_weaker moment left_since may_leave old mid (TornFrom w.0 (length w.1) (may_leave old)) (TornBy (w ∷ writes) (may_leave old))
      (λ image came. (came.0, came.1, (image, came.2, may_none writes image))) time)

  pub rest_arrives : (mid new : D) → Elapses moment left_since may_leave (TornFrom w.0 (length w.1) (may_leave old)) old mid → Elapses moment left_since may_leave (TornBy writes (may_leave mid)) mid new
      → Elapses moment left_since may_leave (TornBy all (may_leave old)) old new
  rest_arrives mid new time after =
      let P : List Write → Type 0 = λ l. Elapses moment left_since may_leave (TornBy l (may_leave old)) old new in
      let later = elapses_weaker moment left_since may_leave mid new (TornBy writes (may_leave mid)) (TornBy (w ∷ writes) (may_leave old))
      (λ image came. let first = time.now came.0 came.1 in (first.0, first.1, (came.0, first.2, came.2))) after in
      subst P e (elapses_then moment left_since may_leave old mid new (TornFrom w.0 (length w.1) (may_leave old)) (TornBy (w ∷ writes) (may_leave old)) time later
      (λ image came. (came.0, came.1, (image, came.2, may_none writes image))))

-- where a file ends behind all writes
pub all_written_length : (file : List ℕ) (writes : List Write) → AreReached file writes → length (all_written file writes) ≡ max (length file) (ends writes)
all_written_length file [] reached = omega arith
all_written_length file (w ∷ writes) reached = omega (arith, all_written_length (written file w.0 w.1) writes reached.1, length-written file w.1 w.0 reached.0)

-- where no write is held
pub none_held : (writes : List Write) (other : Bool) → (is_none_held writes && other) ≡ true → (writes ≡ []) × (other ≡ true)
none_held [] other e = (refl, e)
none_held (w ∷ writes) other e = cc
