-- Records that are read one after another, up to and with the first that waits.
use Rattle.std.proofs.Common.{◌≡◌, ◌∙◌, ◌+◌, ◌<◌, ◌≤◌, ℕ, Bool, true, false, cond, List, [], ◌∷◌, ◌++◌, length, drop, get_or, Some, ap, sym, refl, arith, length-drop}
use Rattle.std.specs.Prelude.{◌==◌, is_some, slice_get}
use Rattle.std.proofs.lemmas.List.{append_assoc, drop_more}
use Rattle.std.proofs.lemmas.Option.{slice_get_within, get_or_from_slice_get}
use Rattle.ic_base.specs.declared.record.Record.{Record}
use Rattle.ic_base.specs.declared.record.Record.TheVariants.{Take, TakeWhole, Input, Value, Outcome, Released, Shown, Checkpoint, Epoch, Decided}
use Rattle.def_step.specs.Replay.{waits_for}
use Rattle.ic_gate.specs.Encoding.{tag_of}
use Rattle.ic_gate.proofs.Encodings.{some_at}
use Rattle.ic_replay.specs.Quiet.{are_quiet, up_to_waiting}

-- the records from a place on begin with the one there
pub begins_with : (rs : List Record) (i : ℕ) (r : Record) → slice_get rs i ≡ Some r → drop i rs ≡ r ∷ drop (i + 1) rs
begins_with rs i r at = drop_more rs i r (slice_get_within rs i r at) ∙ ap (λ x. x ∷ drop (i + 1) rs) (get_or_from_slice_get rs i r r at)

-- the record that was read is the one there
pub reads : (rs : List Record) (i : ℕ) (r : Record) → slice_get rs i ≡ Some r → r ≡ get_or rs i r
reads rs i r at = sym (get_or_from_slice_get rs i r r at)

-- a record that waits, or plays a handler, decides
decides : (r : Record) (rs : List Record) → tag_of r ≤ 5 → are_quiet (r ∷ rs) ≡ (tag_of r == 1)
decides (Take from k stamp) rs h = refl
decides (TakeWhole from k stamp handler args) rs h = refl
decides (Input stamp handler args) rs h = refl
decides (Value n place session value) rs h = refl
decides (Outcome stamp n abort) rs h = refl
decides (Released to k) rs h = absurd (omega (arith, h))
decides (Shown m) rs h = absurd (omega (arith, h))
decides (Checkpoint image) rs h = absurd (omega (arith, h))
decides (Epoch epoch) rs h = absurd (omega (arith, h))
decides (Decided stamp c n writes) rs h = absurd (omega (arith, h))

pub decided_at : (rs : List Record) (i : ℕ) (r : Record) → slice_get rs i ≡ Some r → tag_of r ≤ 5 → are_quiet (drop i rs) ≡ (tag_of r == 1)
decided_at rs i r at h = ap are_quiet (begins_with rs i r at) ∙ decides r (drop (i + 1) rs) h

-- another doesn't
passes : (r : Record) (rs : List Record) → 5 < tag_of r → are_quiet (r ∷ rs) ≡ are_quiet rs
passes (Take from k stamp) rs h = absurd (omega (arith, h))
passes (TakeWhole from k stamp handler args) rs h = absurd (omega (arith, h))
passes (Input stamp handler args) rs h = absurd (omega (arith, h))
passes (Value n place session value) rs h = absurd (omega (arith, h))
passes (Outcome stamp n abort) rs h = absurd (omega (arith, h))
passes (Released to k) rs h = refl
passes (Shown m) rs h = refl
passes (Checkpoint image) rs h = refl
passes (Epoch epoch) rs h = refl
passes (Decided stamp c n writes) rs h = refl

pub passed_at : (rs : List Record) (i : ℕ) (r : Record) → slice_get rs i ≡ Some r → 5 < tag_of r → are_quiet (drop i rs) ≡ are_quiet (drop (i + 1) rs)
passed_at rs i r at h = ap are_quiet (begins_with rs i r at) ∙ passes r (drop (i + 1) rs) h

-- one more record of a run, which waits and is the last, or doesn't
pub run_ends : (rs run : List Record) (i : ℕ) (r : Record) → slice_get rs i ≡ Some r → is_some (waits_for r) ≡ true → run ++ up_to_waiting (drop i rs) ≡ run ++ r ∷ []
run_ends rs run i r at waits =
    ap (λ xs. run ++ up_to_waiting xs) (begins_with rs i r at)
    ∙ ap (λ (b : Bool). run ++ r ∷ cond b [] (up_to_waiting (drop (i + 1) rs))) waits

pub run_goes_on : (rs run : List Record) (i : ℕ) (r : Record) → slice_get rs i ≡ Some r → is_some (waits_for r) ≡ false → run ++ up_to_waiting (drop i rs) ≡ (run ++ r ∷ []) ++ up_to_waiting (drop (i + 1) rs)
run_goes_on rs run i r at waits =
    ap (λ xs. run ++ up_to_waiting xs) (begins_with rs i r at)
    ∙ ap (λ (b : Bool). run ++ r ∷ cond b [] (up_to_waiting (drop (i + 1) rs))) waits
    ∙ sym (append_assoc run (r ∷ []) (up_to_waiting (drop (i + 1) rs)))

-- a run that is walked beside all records
module _ (rs run : List Record) (next d : ℕ) (same : drop d run ≡ up_to_waiting (drop next rs)) where
  begins : (r : Record) → slice_get rs next ≡ Some r → drop d run ≡ r ∷ cond (is_some (waits_for r)) [] (up_to_waiting (drop (next + 1) rs))
  begins r at = same ∙ ap up_to_waiting (begins_with rs next r at)

  -- it has the next one
  pub has_next : next < length rs → d < length run
  has_next within =
      let at = some_at rs next within in
      omega (arith, length-drop d run, ap (length {A = Record}) (begins at.0 at.1))

  pub next_there : next < length rs → (r : Record) → r ≡ get_or run d r → slice_get rs next ≡ Some r
  next_there within r read =
      let at = some_at rs next within in
      let first : get_or run d r ∷ drop (d + 1) run ≡ at.0 ∷ cond (is_some (waits_for at.0)) [] (up_to_waiting (drop (next + 1) rs)) = sym (drop_more run d r (has_next within)) ∙ begins at.0 at.1 in
      let is : get_or run d r ≡ at.0 = cc first in
      at.1 ∙ ap (λ x. Some x) (sym (read ∙ is))

  pub next_behind : (r : Record) → slice_get rs next ≡ Some r → is_some (waits_for r) ≡ false → drop (d + 1) run ≡ up_to_waiting (drop (next + 1) rs)
  next_behind r at waits =
      let within = has_next (slice_get_within rs next r at) in
      let first : get_or run d r ∷ drop (d + 1) run ≡ r ∷ cond (is_some (waits_for r)) [] (up_to_waiting (drop (next + 1) rs)) = sym (drop_more run d r within) ∙ begins r at in
      let rest : drop (d + 1) run ≡ cond (is_some (waits_for r)) [] (up_to_waiting (drop (next + 1) rs)) = cc first in
      rest ∙ ap (λ (b : Bool). cond b [] (up_to_waiting (drop (next + 1) rs))) waits

  pub next_read : next < length rs → (r : Record) → r ≡ get_or run d r → r ≡ get_or rs next r
  next_read within r read = reads rs next r (next_there within r read)
