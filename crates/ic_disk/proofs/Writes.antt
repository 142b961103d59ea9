-- The writes of a disk in memory, and what it held between them.
use Rattle.std.proofs.Common.{◌≡◌, inl, inr, ℕ, zero, suc, ◌+◌, ◌≤◌, List, [], ◌∷◌, ◌++◌, ◌-◌, ◌*◌, length, take, drop, replicate, sum_by, Bool, true, false, refl, sym, ap, subst, ◌∙◌, arith}
use Rattle.std.specs.Prelude.{not, nat_le, ◌||◌, ◌==◌}
use Rattle.std.proofs.lemmas.Bool.{cases_lt}
use Rattle.std.proofs.lemmas.Bool.Decides.{nat_tests}
use Rattle.std.proofs.lemmas.List.{take_all, drop_all, append-nil, take-append-le, drop-append-le, length-take-le, length-drop, length-append}
use Rattle.std.proofs.lemmas.List.Sums.{sum_by-cons}
use Rattle.def_log.specs.Torn.{Write, written, all_written}
use Rattle.def_log.specs.Images.{Elapses}
use Rattle.ic_disk.specs.Memory.{MemoryDisk, writes_made, IsThere, WasThere}
use Rattle.ic_disk.specs.TornDisks.{is_none_held, total, need}
use Rattle.ic_disk.specs.Past.{filled, writes_of, HeldSince, LeftSince}

nonzero : (n : ℕ) → (suc n == 0) ≡ false
nonzero n = grind (arith, nat_tests)

-- one write more
pub writes_of-push : (places : List (ℕ × ℕ)) (at : ℕ) (bytes more : List ℕ) → sum_by (λ place. place.1) places ≡ length bytes
    → writes_of (places ++ (at, length more) ∷ []) (bytes ++ more) ≡ writes_of places bytes ++ (at, more) ∷ []
writes_of-push [] at [] more e = ap (λ (l : List ℕ). (at, l) ∷ []) (take_all (length more) more (omega arith))
writes_of-push [] at (b ∷ bytes) more e = absurd (omega (arith, e))
writes_of-push (place ∷ places) at bytes more e =
    let sum = sum_by-cons (λ (p : ℕ × ℕ). p.1) place places in
    let fits : place.1 ≤ length bytes = omega (arith, e, sum) in
    let rest : sum_by (λ (p : ℕ × ℕ). p.1) places ≡ length (drop place.1 bytes) = omega (arith, e, sum, length-drop place.1 bytes) in
    ap (λ (l : List ℕ). (place.0, l) ∷ writes_of (places ++ (at, length more) ∷ []) (drop place.1 (bytes ++ more))) (take-append-le place.1 bytes more fits)
    ∙ ap (λ (l : List ℕ). (place.0, take place.1 bytes) ∷ writes_of (places ++ (at, length more) ∷ []) l) (drop-append-le place.1 bytes more fits)
    ∙ ap (λ (l : List Write). (place.0, take place.1 bytes) ∷ l) (writes_of-push places at (drop place.1 bytes) more rest)

pub need-writes_of : (places : List (ℕ × ℕ)) (bytes : List ℕ) → sum_by (λ place. place.1) places ≡ length bytes → need (writes_of places bytes) ≡ length places * 32 + length bytes
need-writes_of [] bytes e = omega (arith, e)
need-writes_of (place ∷ places) bytes e =
    let sum = sum_by-cons (λ (p : ℕ × ℕ). p.1) place places in
    let fits : place.1 ≤ length bytes = omega (arith, e, sum) in
    omega (arith, length-take-le place.1 bytes fits, need-writes_of places (drop place.1 bytes) (omega (arith, e, sum, length-drop place.1 bytes)), e, sum, length-drop place.1 bytes)

pub length-writes_of : (places : List (ℕ × ℕ)) (bytes : List ℕ) → length (writes_of places bytes) ≡ length places
length-writes_of [] bytes = refl
length-writes_of (place ∷ places) bytes = omega (arith, length-writes_of places (drop place.1 bytes))

-- the first write, and those behind it
pub writes_of-first : (places others : List (ℕ × ℕ)) (place : ℕ × ℕ) (bytes front rest : List ℕ) → places ≡ place ∷ others → front ≡ take place.1 bytes → rest ≡ drop place.1 bytes
    → (place.0, front) ∷ writes_of others rest ≡ writes_of places bytes
writes_of-first places others place bytes front rest e f r =
    ap (λ (l : List ℕ). (place.0, l) ∷ writes_of others rest) f ∙ ap (λ (l : List ℕ). (place.0, take place.1 bytes) ∷ writes_of others l) r ∙ ap (λ (l : List (ℕ × ℕ)). writes_of l bytes) (sym e)

-- whether there is a write, and how many bytes all have
pub is_none-writes_of : (places : List (ℕ × ℕ)) (bytes : List ℕ) → is_none_held (writes_of places bytes) ≡ (length places == 0)
is_none-writes_of [] bytes = refl
is_none-writes_of (place ∷ places) bytes = let more = nonzero (length places) in sym more

pub total-writes_of : (places : List (ℕ × ℕ)) (bytes : List ℕ) → sum_by (λ place. place.1) places ≡ length bytes → total (writes_of places bytes) ≡ length bytes
total-writes_of [] bytes e = e
total-writes_of (place ∷ places) bytes e =
    let sum = sum_by-cons (λ (p : ℕ × ℕ). p.1) place places in
    let fits : place.1 ≤ length bytes = omega (arith, e, sum) in
    omega (arith, length-take-le place.1 bytes fits, total-writes_of places (drop place.1 bytes) (omega (arith, e, sum, length-drop place.1 bytes)), e, sum, length-drop place.1 bytes)

-- what a slice of all of a vector's bytes is written back as
pub written_back : (count : ℕ) (new old : List ℕ) → length new ≡ length old → count ≡ length old → take count (new ++ drop (length new) old) ≡ new
written_back count new old same all = ap (λ (l : List ℕ). take count (new ++ l)) (drop_all (length new) old (omega (arith, same))) ∙ ap (take count) (append-nil new) ∙ take_all count new (omega (arith, same, all))

-- bytes of which the first stay, and this byte stands in place of each other one
module _ (byte : ℕ) where
  abbrev stood : ℕ → List ℕ → List ℕ
  stood keep [] = []
  stood zero (x ∷ bytes) = byte ∷ stood zero bytes
  stood (suc keep) (x ∷ bytes) = x ∷ stood keep bytes

  stood-is : (keep : ℕ) (bytes : List ℕ) → stood keep bytes ≡ take keep bytes ++ replicate (length bytes - keep) byte
  stood-is zero [] = let none : 0 ≡ length {A = ℕ} [] - 0 = omega arith in ap (λ n. replicate n byte) none
  stood-is (suc keep) [] = let none : 0 ≡ length {A = ℕ} [] - suc keep = omega arith in ap (λ n. replicate n byte) none
  stood-is zero (x ∷ bytes) =
      let more : replicate (suc (length bytes)) byte ≡ byte ∷ replicate (length bytes) byte = refl in
      let same : length bytes - 0 ≡ length bytes = omega arith in
      let all : length (x ∷ bytes) - 0 ≡ suc (length bytes) = omega arith in
      ap (λ (l : List ℕ). byte ∷ l) (stood-is zero bytes ∙ ap (λ n. replicate n byte) same) ∙ sym more ∙ ap (λ n. replicate n byte) (sym all)
  stood-is (suc keep) (x ∷ bytes) =
      let same : length bytes - keep ≡ length (x ∷ bytes) - suc keep = omega arith in
      ap (λ (l : List ℕ). x ∷ l) (stood-is keep bytes ∙ ap (λ n. take keep bytes ++ replicate n byte) same)

  stood-take : (keep count : ℕ) (bytes : List ℕ) → take count (stood keep bytes) ≡ stood keep (take count bytes)
  stood-take keep zero bytes = refl
  stood-take keep (suc count) [] = refl
  stood-take zero (suc count) (x ∷ bytes) = ap (λ (l : List ℕ). byte ∷ l) (stood-take zero count bytes)
  stood-take (suc keep) (suc count) (x ∷ bytes) = ap (λ (l : List ℕ). x ∷ l) (stood-take keep count bytes)

  stood-drop : (keep count : ℕ) (bytes : List ℕ) → drop count (stood keep bytes) ≡ stood (keep - count) (drop count bytes)
  stood-drop keep zero bytes = ap (λ n. stood n bytes) (omega arith)
  stood-drop keep (suc count) [] = refl
  stood-drop zero (suc count) (x ∷ bytes) = stood-drop zero count bytes ∙ ap (λ n. stood n (drop count bytes)) (omega arith)
  stood-drop (suc keep) (suc count) (x ∷ bytes) = stood-drop keep count bytes ∙ ap (λ n. stood n (drop count bytes)) (omega arith)

  filled_by : (places : List (ℕ × ℕ)) (keep : ℕ) (bytes : List ℕ) → sum_by (λ place. place.1) places ≡ length bytes → writes_of places (stood keep bytes) ≡ filled keep byte (writes_of places bytes)
  filled_by [] keep bytes e = refl
  filled_by (place ∷ places) keep bytes e =
      let sum = sum_by-cons (λ (p : ℕ × ℕ). p.1) place places in
      let fits : place.1 ≤ length bytes = omega (arith, e, sum) in
      let rest : sum_by (λ (p : ℕ × ℕ). p.1) places ≡ length (drop place.1 bytes) = omega (arith, e, sum, length-drop place.1 bytes) in
      let long : length (take place.1 bytes) ≡ place.1 = length-take-le place.1 bytes fits in
      ap (λ (l : List ℕ). (place.0, l) ∷ writes_of places (drop place.1 (stood keep bytes))) (stood-take keep place.1 bytes ∙ stood-is keep (take place.1 bytes))
      ∙ ap (λ (l : List ℕ). (place.0, take keep (take place.1 bytes) ++ replicate (length (take place.1 bytes) - keep) byte) ∷ writes_of places l) (stood-drop keep place.1 bytes)
      ∙ ap (λ (l : List Write). (place.0, take keep (take place.1 bytes) ++ replicate (length (take place.1 bytes) - keep) byte) ∷ l) (filled_by places (keep - place.1) (drop place.1 bytes) rest)
      ∙ ap (λ n. (place.0, take keep (take place.1 bytes) ++ replicate (length (take place.1 bytes) - keep) byte) ∷ filled (keep - n) byte (writes_of places (drop place.1 bytes))) (sym long)

  pub writes_of-filled : (places : List (ℕ × ℕ)) (keep : ℕ) (bytes : List ℕ) → sum_by (λ place. place.1) places ≡ length bytes
      → writes_of places (take keep bytes ++ replicate (length bytes - keep) byte) ≡ filled keep byte (writes_of places bytes)
  writes_of-filled places keep bytes e = ap (writes_of places) (sym (stood-is keep bytes)) ∙ filled_by places keep bytes e

pub all_written-push : (first : List ℕ) (writes : List Write) (w : Write) → all_written first (writes ++ w ∷ []) ≡ written (all_written first writes) w.0 w.1
all_written-push first [] w = refl
all_written-push first (v ∷ writes) w = all_written-push (written first v.0 v.1) writes w

-- a write that isn't refused for its length
pub fits : (failed : Bool) (count room : ℕ) → (failed || not (nat_le count room)) ≡ false → count ≤ room
fits true count room e = cc
fits false count room e = grind (arith, nat_tests)

module _ (old new : MemoryDisk) (w : Write) (held : old.bytes ≡ all_written old.first old.writes) (same : new.first ≡ old.first) (more : new.writes ≡ old.writes ++ w ∷ []) where
  longer : length new.writes ≡ length old.writes + 1
  longer = ap length more ∙ length-append old.writes (w ∷ [])

  -- what was held after no more writes than there were
  so_far : (count : ℕ) → count ≤ length old.writes → all_written new.first (take count new.writes) ≡ all_written old.first (take count old.writes)
  so_far count le =
      ap (λ (l : List ℕ). all_written l (take count new.writes)) same
      ∙ ap (λ (l : List Write). all_written old.first (take count l)) more
      ∙ ap (all_written old.first) (take-append-le count old.writes (w ∷ []) le)

  just_before : all_written new.first (take (length old.writes) new.writes) ≡ old.bytes
  just_before = so_far (length old.writes) (omega arith) ∙ ap (all_written old.first) (take_all (length old.writes) old.writes (omega arith)) ∙ sym held

  held_before : (time : ℕ) (image : List ℕ) → HeldSince new.first new.writes time image → LeftSince old.bytes old.first old.writes time image
  held_before time image had = elim (cases_lt had.0 (length old.writes)) [
    | inl earlier ↦ inr (had.0, had.1, earlier, had.3 ∙ so_far had.0 (omega arith))
    | inr last ↦
        let count : had.0 ≡ length old.writes = omega (arith, had.2, longer) in
        inl (had.3 ∙ ap (λ n. all_written new.first (take n new.writes)) count ∙ just_before)
  ]

  -- a write takes a moment
  pub write_elapses : (P : List ℕ → Type 0) → P new.bytes → Elapses writes_made WasThere IsThere P old new
  write_elapses P here = record {
    later = omega (arith, longer);
    no_more = λ time image le left. elim left [ inl now ↦ inr (subst P (sym now) here) | inr had ↦ inl (held_before time image had) ];
    kept = λ time image le left. elim left [
      | inl now ↦ inr (length old.writes, le, omega (arith, longer), now ∙ sym just_before)
      | inr had ↦ inr (had.0, had.1, omega (arith, longer, had.2), had.3 ∙ sym (so_far had.0 (omega (arith, had.2))))
    ];
    now = λ image now. subst P (sym now) here;
  }
