-- A device's fault by the names of the log's refusals, and the device calls of a force.
use Rattle.std.proofs.Common.{inl, ◌≡◌, refl, ◌∙◌, ap, sym, subst, cond, ℕ, ◌+◌, ◌-◌, ◌<◌, ◌≤◌, Bool, true, false, List, [], ◌∷◌, ◌++◌, length, drop, Option, Some, arith}
use Rattle.std.specs.Prelude.{Result, Ok, Err, option_map, nat_lt, ◌==◌, ◌||◌}
use Rattle.std.proofs.lemmas.Bool.{le-ltb}
use Rattle.std.proofs.lemmas.Bool.Decides.{nat_tests}
use Rattle.ic_disk.specs.declared.disk.DiskError.{DiskError}
use Rattle.ic_disk.specs.declared.disk.DiskError.TheVariants as disk
use Rattle.ic_gate.specs.declared.refusals.LoadWhy.{LoadWhy}
use Rattle.ic_gate.specs.declared.refusals.LoadWhy.TheVariants as load
use Rattle.ic_gate.specs.declared.refusals.ForceRefused.{ForceRefused}
use Rattle.ic_gate.specs.declared.refusals.ForceRefused.TheVariants as force
use Rattle.def_log.specs.Loads.{behind_gate}
use Rattle.ic_gate.specs.Calls.{gated_calls, force_writes, slot_writes}
use Rattle.ic_base.specs.declared.limits.TheConstants.{FIRST_GATE, LOG_BYTES, SLOTS}
use Rattle.def_log.specs.Changes.{IsTornWrite, IsOldOrForced, IsOldOrMarked, gate_from, is_start}
use Rattle.def_log.specs.Directory.{slots_in}
use Rattle.def_log.specs.Gated.{gate_opened, batch_write, slot_write}
use Rattle.def_log.proofs.Frames.{IsPayload}
use Rattle.def_log.specs.Frame.{batches_at, frame_of}
use Rattle.def_log.proofs.Keeps.{span_fits}
use Rattle.std.proofs.lemmas.List.{length-drop}
use Rattle.def_log.proofs.Forces.{gate_parts, gate_of_whole, force_reads}
use Rattle.def_log.proofs.Tails.{frame_parts}
use Rattle.ic_base.specs.declared.record.Batch.{Batch}
use Rattle.def_log.specs.Sizes.{span, gate_behind, size_in}
use Rattle.ic_gate.specs.Refusals.{why_of}

same_error : {T : Type 0} (e : DiskError) → ◌≡◌ {A = Result T DiskError} (Err e) (Err disk.Failed) → e ≡ disk.Failed
same_error e f = cc

-- what fails a load
pub fails_load : {T U : Type 0} (e : DiskError) → ◌≡◌ {A = Result T DiskError} (Err e) (Err disk.Failed) → ◌≡◌ {A = Result U LoadWhy} (Err (why_of e)) (Err load.Failed)
fails_load {T} {U} e f = ap (λ (x : DiskError). let r : Result U LoadWhy = Err (why_of x) in r) (same_error {T = T} e f)

-- what fails a force
pub fails_force : {T U : Type 0} (e : DiskError) (why : ForceRefused) → (e ≡ disk.Failed → why ≡ force.Failed) → ◌≡◌ {A = Result T DiskError} (Err e) (Err disk.Failed) → ◌≡◌ {A = Result U ForceRefused} (Err why) (Err force.Failed)
fails_force {T} {U} e why is f = ap (λ (x : ForceRefused). let r : Result U ForceRefused = Err x in r) (is (same_error {T = T} e f))

-- the calls of a batch are those of a force
pub batch_calls : (closed : Bool) (gate : ℕ) (payload bytes : List ℕ) → closed ≡ false → 0 < length payload → bytes ≡ behind_gate payload
    → gated_calls (record { gate = gate; bytes = bytes } ∷ []) ≡ cond closed [] (gated_calls (force_writes (gate + 1) payload))
batch_calls true gate payload bytes is_open some is = absurd (cc is_open)
batch_calls false gate [] bytes is_open some is = absurd (omega (arith, some))
batch_calls false gate (b ∷ payload) bytes is_open some is =
    let back : gate + 1 - 1 ≡ gate = omega arith in
    ap (λ (l : List ℕ). gated_calls (record { gate = gate; bytes = l } ∷ [])) is
    ∙ ap (λ n. gated_calls (batch_write n (b ∷ payload) ∷ [])) (sym back)

-- and so are the bytes that they leave
pub opened_by : (old new : List ℕ) (gate : ℕ) (payload bytes : List ℕ) → bytes ≡ behind_gate payload → new ≡ gate_opened old (record { gate = gate; bytes = bytes }) → new ≡ gate_opened old (batch_write gate payload)
opened_by old new gate payload bytes is wrote = wrote ∙ ap (λ (l : List ℕ). gate_opened old (record { gate = gate; bytes = l })) is

-- and what a crash may leave
pub reads : (start gate : ℕ) (old p : List ℕ) (at_gate : gate_from start old ≡ Some gate) (begun : is_start start (slots_in old) ≡ true) (high : FIRST_GATE ≤ start) (is : IsPayload p) (fits : gate + 6 + length p ≤ LOG_BYTES)
    → (bytes new : List ℕ) → bytes ≡ behind_gate p → IsTornWrite (record { gate = gate; bytes = bytes }) old new → IsOldOrForced start old (gate + 1 + 4) p new
reads start gate old p at_gate begun high is fits bytes new same torn =
    let five : gate + 5 ≡ gate + 1 + 4 = omega arith in
    subst (λ n. IsOldOrForced start old n p new) five (force_reads start gate old at_gate begun high p is fits new (subst (λ (l : List ℕ). IsTornWrite (record { gate = gate; bytes = l }) old new) same torn))

-- the same bytes are the same log
pub same_self : (start : ℕ) (old : List ℕ) (at : ℕ) (payload image : List ℕ) → image ≡ old → IsOldOrForced start old at payload image
same_self start old at payload image e = subst (IsOldOrForced start old at payload) (sym e) (inl (record { batches = λ bs f. f; tail = refl; slots = refl; same = record { fingerprint = refl; owner = refl } }))

-- and so for a mark
pub mark_self : (start : ℕ) (old : List ℕ) (offset : ℕ) (image : List ℕ) → image ≡ old → IsOldOrMarked start old offset image
mark_self start old offset image e = subst (IsOldOrMarked start old offset) (sym e) (inl (record { batches = λ bs f. f; tail = refl; slots = refl; same = record { fingerprint = refl; owner = refl } }))

-- the calls of a slot are those of a mark
pub slot_calls : (closed : Bool) (slots : List ℕ) (last : Option ℕ) (used offset : ℕ) → closed ≡ false → last ≡ Some offset → used ≡ length slots → used < SLOTS
    → gated_calls (slot_write used offset ∷ []) ≡ cond closed [] (gated_calls (slot_writes slots last))
slot_calls true slots last used offset is_open is count few = absurd (cc is_open)
slot_calls false slots last used offset is_open is count few =
    let lt : length slots < SLOTS = omega (arith, count, few) in
    let here : nat_lt (length slots) SLOTS ≡ true = grind (arith, nat_tests) in
    ap (λ k. gated_calls (slot_write k offset ∷ [])) count
    ∙ ap (λ t. gated_calls (cond t (slot_write (length slots) offset ∷ []) [])) (sym here)
    ∙ ap (λ o. gated_calls (slot_writes slots o)) (sym is)

-- with all slots open there are none
pub no_calls : (closed : Bool) (slots : List ℕ) (last : Option ℕ) (offset : ℕ) → last ≡ Some offset → length slots ≡ SLOTS → cond closed [] (gated_calls (slot_writes slots last)) ≡ []
no_calls true slots last offset is all = refl
no_calls false slots last offset is all =
    let past : nat_lt (length slots) SLOTS ≡ false = le-ltb _ _ (omega (arith, all)) in
    ap (λ o. gated_calls (slot_writes slots o)) is ∙ ap (λ t. gated_calls (cond t (slot_write (length slots) offset ∷ []) [])) past

-- the closed gate lies in the file
pub gate_inside : (start gate : ℕ) (bytes : List ℕ) → gate_from start bytes ≡ Some gate → (start ≤ gate) × (gate < length bytes)
gate_inside start gate bytes e =
    let tail = gate_parts start (batches_at start bytes) gate e in
    (omega (arith, tail.2), omega (arith, tail.2, span_fits (length bytes) start (drop start bytes) tail.0 tail.1, length-drop start bytes))

-- one open slot more
pub starts_on : (start : ℕ) (slots : List ℕ) (offset : ℕ) → is_start start slots ≡ true → is_start start (slots ++ offset ∷ []) ≡ true
starts_on start [] offset e = at (start == offset)
  where
    at : (t : Bool) → t || (start == FIRST_GATE) ≡ true
    at true = refl
    at false = e
starts_on start (o ∷ slots) offset e = at (λ d. starts_on start slots offset d) (start == o) e
  where
    at : (is_start start slots ≡ true → is_start start (slots ++ offset ∷ []) ≡ true) → (t : Bool) → t || is_start start slots ≡ true → t || is_start start (slots ++ offset ∷ []) ≡ true
    at on true d = refl
    at on false d = on d

-- the size of a log whose whole frame is whole
pub size_of_whole : (start gate size : ℕ) (bytes : List ℕ) → gate_from start bytes ≡ Some gate → is_start start (slots_in bytes) ≡ true → size_in bytes ≡ Some size → size ≡ gate + 1
size_of_whole start gate size bytes at_gate begun e = at (frame_of bytes) refl e
  where
    same : (a b : ℕ) → ◌≡◌ {A = Option ℕ} (Some a) (Some b) → a ≡ b
    same a b e = cc

    at : (r : Result (List Batch) ℕ) → frame_of bytes ≡ r → option_map (λ gate. gate + 1) (gate_behind FIRST_GATE r) ≡ Some size → size ≡ gate + 1
    at (Ok bs) f d = omega (arith, same (FIRST_GATE + span bs + 1) size d, gate_of_whole start gate bytes at_gate begun bs (frame_parts bytes bs f))
    at (Err place) f d = absurd (cc d)

-- a place that is told
pub bad_same : (a b : ℕ) → load.Bad b ≡ load.Bad a → a ≡ b
bad_same a b e = cc
