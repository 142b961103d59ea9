-- The records over a log, before and behind its calls.
use Rattle.std.proofs.Common.{◌≡◌, ◌∙◌, sym, ap, refl, subst, arith, ℕ, ◌+◌, ◌<◌, ◌≤◌, true, false, List, [], ◌∷◌, ◌++◌, length, take, drop}
use Rattle.std.specs.Prelude.{Ok, not, ◌&&◌, ◌==◌}
use Rattle.std.specs.List.{AllByRecursion}
use Rattle.std.proofs.Math.Logic.{∥∥₁_map}
use Rattle.std.proofs.Math.Seq.{drop-length, take-length}
use Rattle.std.proofs.lemmas.Bool.{lt-ltb, le-ltb}
use Rattle.std.proofs.lemmas.Grind.{flat_map-append}
use Rattle.std.proofs.lemmas.List.{append-nil, take-append-drop, drop-append-le}
use Rattle.std.proofs.lemmas.List.Sums.{sum_by-append}
use Rattle.ic_base.specs.declared.limits.TheConstants.{LOG_BYTES}
use Rattle.ic_base.specs.declared.record.Record.{Record}
use Rattle.def_log.specs.Changes.{IsOfSame, IsForced}
use Rattle.def_log.specs.Frame.{fingerprint_in, owner_in}
use Rattle.def_log.specs.Log.{log_of}
use Rattle.def_log.specs.Spelling.{spelling, spellings, Fits}
use Rattle.def_state.specs.Positions.{record_length, end_of}
use Rattle.def_step.specs.Pcom.{Log as Split, force_log}
use Rattle.def_step.specs.Room.{is_empty, has_no_room}
use Rattle.ic_gate.specs.RecordCalls.{size_with}
use Rattle.ic_gate.specs.RecordFiles.{records_from, ReadsOn}
use Rattle.ic_gate.proofs.Lengths.{spellings-length}
use Rattle.ic_gate.proofs.RecordFiles.{no_bytes, reads_forced}

-- the records of which so many are forced
abbrev pub split_at : ℕ → List Record → Split
split_at n rs = record { forced = take n rs; buffered = drop n rs }

pub all_fit : (xs ys : List Record) → AllByRecursion Fits xs → AllByRecursion Fits ys → AllByRecursion Fits (xs ++ ys)
all_fit [] ys a b = b
all_fit (x ∷ xs) ys a b = (a.0, all_fit xs ys a.1 b)

-- the bytes that wait, with those of records more
pub waits_with : (n : ℕ) (rs adds : List Record) (old new bytes : List ℕ) → n ≤ length rs → old ≡ spellings (drop n rs) → bytes ≡ spellings adds → new ≡ old ++ bytes → new ≡ spellings (drop n (rs ++ adds))
waits_with n rs adds old new bytes few is spelled appended =
    appended ∙ ap (λ l. l ++ bytes) is ∙ ap (λ l. spellings (drop n rs) ++ l) spelled
    ∙ sym (flat_map-append spelling (drop n rs) adds) ∙ ap spellings (sym (drop-append-le n rs adds few))

pub fits_with : (n : ℕ) (rs adds : List Record) → n ≤ length rs → ∥ AllByRecursion Fits (drop n rs) ∥₁ → AllByRecursion Fits adds → ∥ AllByRecursion Fits (drop n (rs ++ adds)) ∥₁
fits_with n rs adds few fit more =
    let P : List Record → Type 0 = λ l. ∥ AllByRecursion Fits l ∥₁ in
    subst P (sym (drop-append-le n rs adds few)) (∥∥₁_map fit (λ f. all_fit (drop n rs) adds f more))

-- the size of a log with what waits
pub length_waiting : (bytes : List ℕ) (rs : List Record) → bytes ≡ spellings rs → length bytes ≡ end_of rs
length_waiting bytes rs is = ap length is ∙ spellings-length rs

pub end_with : (n : ℕ) (rs : List Record) → end_of (take n rs) + end_of (drop n rs) ≡ end_of rs
end_with n rs = sym (sum_by-append record_length (take n rs) (drop n rs)) ∙ ap end_of (take-append-drop n rs)

-- records that are added and have room, or haven't
pub has_room : (size : ℕ) (waiting adds : List Record) → (length (spellings waiting) + length (spellings adds) + (size + 5) ≤ LOG_BYTES) → (not (is_empty adds) && has_no_room size (waiting ++ adds)) ≡ false
has_room size waiting [] le = refl
has_room size waiting (r ∷ rs) le = by waiting refl
  where
    by : (ws : List Record) → ws ≡ waiting → (true && has_no_room size (ws ++ r ∷ rs)) ≡ false
    by [] is =
        let none : length (spellings waiting) ≡ 0 = ap (λ l. length (spellings l)) (sym is) in
        le-ltb LOG_BYTES (size + 5 + end_of (r ∷ rs)) (omega (arith, le, none, spellings-length (r ∷ rs)))
    by (w ∷ ws) is =
        let same : length (spellings waiting) ≡ end_of (w ∷ ws) = ap (λ l. length (spellings l)) (sym is) ∙ spellings-length (w ∷ ws) in
        le-ltb LOG_BYTES (size + 5 + end_of (w ∷ ws ++ r ∷ rs)) (omega (arith, le, same, spellings-length (r ∷ rs), sum_by-append record_length (w ∷ ws) (r ∷ rs)))

pub lacks_room : (size : ℕ) (waiting adds : List Record) → is_empty adds ≡ false → LOG_BYTES < length (spellings waiting) + length (spellings adds) + (size + 5) → (not (is_empty adds) && has_no_room size (waiting ++ adds)) ≡ true
lacks_room size waiting [] some lt = cc
lacks_room size waiting (r ∷ rs) some lt = by waiting refl
  where
    by : (ws : List Record) → ws ≡ waiting → (true && has_no_room size (ws ++ r ∷ rs)) ≡ true
    by [] is =
        let none : length (spellings waiting) ≡ 0 = ap (λ l. length (spellings l)) (sym is) in
        lt-ltb LOG_BYTES (size + 5 + end_of (r ∷ rs)) (omega (arith, lt, none, spellings-length (r ∷ rs)))
    by (w ∷ ws) is =
        let same : length (spellings waiting) ≡ end_of (w ∷ ws) = ap (λ l. length (spellings l)) (sym is) ∙ spellings-length (w ∷ ws) in
        lt-ltb LOG_BYTES (size + 5 + end_of (w ∷ ws ++ r ∷ rs)) (omega (arith, lt, same, spellings-length (r ∷ rs), sum_by-append record_length (w ∷ ws) (r ∷ rs)))

pub some_records : (rs : List Record) → false ≡ (length rs == 0) → is_empty rs ≡ false
some_records [] e = absurd (cc e)
some_records (r ∷ rs) e = refl

-- the size behind a force of what waits
pub size_behind : (old new : ℕ) (bytes : List ℕ) (rs : List Record) → bytes ≡ spellings rs → (bytes ≡ [] → new ≡ old) → (0 < length bytes → new ≡ old + 5 + length bytes) → new ≡ size_with old rs
size_behind old new bytes [] is none some = none is
size_behind old new bytes (r ∷ rs) is none some =
    let long : length bytes ≡ end_of (r ∷ rs) = length_waiting bytes (r ∷ rs) is in
    some (by bytes is) ∙ ap (λ n. old + 5 + n) long
  where
    by : (bytes : List ℕ) → bytes ≡ spellings (r ∷ rs) → 0 < length bytes
    by [] is = let none : r ∷ rs ≡ [] = no_bytes (r ∷ rs) (sym is) in cc
    by (b ∷ bs) is = omega arith

-- behind all records none waits
pub none_waits : (n : ℕ) (rs : List Record) → n ≡ length rs → drop n rs ≡ []
none_waits n rs is = ap (λ m. drop m rs) is ∙ drop-length rs

-- the log has all records, once those that waited are forced
pub reads_behind : (start : ℕ) (old new : List ℕ) (at : ℕ) (payload : List ℕ) (n : ℕ) (rs : List Record) → ∥ AllByRecursion Fits (drop n rs) ∥₁ → payload ≡ spellings (drop n rs) → records_from start old ≡ Ok (take n rs)
    → (payload ≡ [] → new ≡ old) → (0 < length payload → IsForced start old new at payload) → ReadsOn start old (take n rs) new rs
reads_behind start old new at [] n rs fits bytes is idle batch =
    let none = no_bytes (drop n rs) (sym bytes) in
    let all : take n rs ≡ rs = sym (append-nil (take n rs)) ∙ ap (λ l. take n rs ++ l) (sym none) ∙ take-append-drop n rs in
    record {
      walk = ap (records_from start) (idle refl) ∙ is ∙ ap (λ (l : List Record). Ok l) all;
      whole = λ front e. ap log_of (idle refl) ∙ e ∙ ap (λ (l : List Record). Ok (front ++ l)) all;
    }
reads_behind start old new at (b ∷ payload) n rs fits bytes is idle batch =
    subst (ReadsOn start old (take n rs) new) (take-append-drop n rs) (reads_forced start old new at (b ∷ payload) (take n rs) (drop n rs) fits bytes is (batch (omega arith)))

-- and it is that of the same component
pub same_behind : (start : ℕ) (old new : List ℕ) (at : ℕ) (payload : List ℕ) → (payload ≡ [] → new ≡ old) → (0 < length payload → IsForced start old new at payload) → IsOfSame old new
same_behind start old new at [] idle batch = record { fingerprint = ap fingerprint_in (idle refl); owner = ap owner_in (idle refl) }
same_behind start old new at (b ∷ payload) idle batch = (batch (omega arith)).same

-- the position behind them
pub end_behind : (n : ℕ) (rs : List Record) (forced : ℕ) (payload : List ℕ) → forced ≡ end_of (take n rs) → payload ≡ spellings (drop n rs) → forced + length payload ≡ end_of rs
end_behind n rs forced payload ended waiting = omega (arith, ended, length_waiting payload (drop n rs) waiting, end_with n rs)

-- all of them are forced
pub all_forced : (n m : ℕ) (rs : List Record) → n ≡ length rs → split_at n rs ≡ force_log (split_at m rs)
all_forced n m rs is =
    let front : take n rs ≡ take m rs ++ drop m rs = ap (λ i. take i rs) is ∙ take-length rs ∙ sym (take-append-drop m rs) in
    let none : drop n rs ≡ [] = none_waits n rs is in
    ap (λ l. record { forced = l; buffered = drop n rs }) front ∙ ap (λ l. record { forced = take m rs ++ drop m rs; buffered = l }) none
