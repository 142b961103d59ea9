-- What a log whose header was read holds from its tail's gate on.
use Rattle.std.proofs.Common.{◌⊎◌, ◌≡◌, ◌∙◌, ap, sym, refl, inl, inr, ℕ, zero, suc, ◌+◌, ◌<◌, ◌≤◌, Bool, true, false, cond, List, [], ◌∷◌, length, get_or, take, drop, Option, Some, None, arith}
use Rattle.std.specs.Prelude.{Result, Ok, unwrap_or, Err, nat_lt, nat_le, bytes_eq, not, ◌&&◌, ◌==◌}
use Rattle.std.proofs.lemmas.Bool.Decides.{nat_tests}
use Rattle.std.proofs.lemmas.List.{length-drop}
use Rattle.ic_base.specs.declared.limits.TheConstants.{FIRST_GATE, LOG_BYTES}
use Rattle.ic_base.specs.declared.record.Batch.{Batch}
use Rattle.def_log.specs.Directory.{slot_place, last_slot, last_offset}
use Rattle.def_log.specs.Frame.{letters, first_difference, behind_letters, behind_header, batches_from, batches_at, owner_in}
use Rattle.def_log.specs.Loads.{of_owner, tail_frame_for}
use Rattle.def_log.specs.Log.{◌>>=◌, placed_by}
use Rattle.def_log.specs.Tail.{tail_gate, tail_slot, batches_by, tail_frame_of}
use Rattle.def_log.proofs.Frames.{header_passed}
use Rattle.def_log.proofs.Tails.{enough}
use Rattle.ic_disk.specs.declared.disk.Disk.{Ghosts}
use Rattle.ic_gate.specs.Gates.{AreBelow}
use Rattle.ic_gate.specs.Reading.{HasHeader, is_open_front, batches_behind, IsAtRest, HoldsTail, ReadsTail, RefusesToRead, RefusesToLoadTail}
use Rattle.ic_gate.specs.RecordLoads.{RefusesTailRecords, placed_behind}
use Rattle.ic_gate.specs.Refusals.{IsNotForeign, IsOfFrame}
use Rattle.ic_gate.specs.declared.refusals.LoadWhy.{LoadWhy}
use Rattle.ic_gate.specs.declared.refusals.LoadWhy.TheVariants.{Bad, Foreign, Failed, Stopped, Memory}
use Rattle.ic_gate.proofs.Fronts.{front_of, carried}
use Rattle.law_marks.proofs.Owners.{owned}

module _ (given : List ℕ) (owner : ℕ) (slots file : List ℕ) (short : length file ≤ LOG_BYTES) (h : HasHeader given owner slots file) where
  -- the frame of the tail, behind the header
  pub tail_frame_is : tail_frame_of file ≡ batches_by (last_slot slots) (last_offset FIRST_GATE slots) file
  unfolding tail_frame_of
  tail_frame_is =
      header_passed (batches_by (tail_slot file) (tail_gate file) file) file short h.long h.same
      ∙ ap (λ l. batches_by (last_slot l) (last_offset FIRST_GATE l) file) h.slots_same

  pub tail_for_is : tail_frame_for owner file ≡ batches_by (last_slot slots) (last_offset FIRST_GATE slots) file
  tail_for_is = owned owner file (tail_frame_of file) h.owner_same ∙ tail_frame_is

-- a gate that isn't there isn't open
none_there : (gate : ℕ) (file : List ℕ) → length file ≤ gate → (get_or file gate 0 == 1) ≡ false
none_there gate [] le = refl
none_there zero (b ∷ file) le = absurd (omega (arith, le))
none_there (suc n) (b ∷ file) le = none_there n file (omega (arith, le))

-- the gate that the slot names isn't one
pub no_gate : (place gate : ℕ) (file : List ℕ) → (gate < FIRST_GATE) ⊎ (length file < gate) → batches_by (Some place) gate file ≡ Err place
no_gate place gate file (inl low) =
    let t : nat_le FIRST_GATE gate ≡ false = grind (arith, nat_tests) in
    ap (λ b. cond (b && (get_or file gate 0 == 1)) (batches_at gate file) (Err place)) t
no_gate place gate file (inr past) = ap (λ b. cond (nat_le FIRST_GATE gate && b) (batches_at gate file) (Err place)) (none_there gate file (omega (arith, past))) ∙ at (nat_le FIRST_GATE gate)
  where
    at : (t : Bool) → cond (t && false) (batches_at gate file) (Err place) ≡ Err place
    at true = refl
    at false = refl

-- the front of what stands from the gate on
front_there : (gate : ℕ) (file : List ℕ) → is_open_front (drop gate file) ≡ (get_or file gate 0 == 1)
front_there gate [] = at gate
  where
    at : (n : ℕ) → is_open_front (drop n []) ≡ false
    at zero = refl
    at (suc n) = refl
front_there zero (b ∷ file) = refl
front_there (suc n) (b ∷ file) = front_there n file

-- the batches from the gate on are those of the tail
pub rest_is : (slot : Option ℕ) (gate : ℕ) (file bytes : List ℕ) → FIRST_GATE ≤ gate → bytes ≡ drop gate file → batches_behind slot gate bytes ≡ batches_by slot gate file
rest_is slot gate file bytes high is = ap (batches_behind slot gate) is ∙ at slot
  where
    walk : batches_from (length (drop gate file)) gate (drop gate file) ≡ batches_at gate file
    walk = enough (length (drop gate file)) (length file) gate (drop gate file) (omega arith) (omega (arith, length-drop gate file))

    at : (slot : Option ℕ) → batches_behind slot gate (drop gate file) ≡ batches_by slot gate file
    at None = walk
    at (Some place) =
        let t : nat_le FIRST_GATE gate ≡ true = grind (arith, nat_tests) in
        ap (λ b. cond b (batches_from (length (drop gate file)) gate (drop gate file)) (Err place)) (front_there gate file)
        ∙ ap (λ r. cond (get_or file gate 0 == 1) r (Err place)) walk
        ∙ ap (λ b. cond (b && (get_or file gate 0 == 1)) (batches_at gate file) (Err place)) (sym t)

-- a file that passes the limit
pub tail_too_long : (owner : ℕ) (bytes : List ℕ) → LOG_BYTES < length bytes → tail_frame_for owner bytes ≡ Err LOG_BYTES
unfolding tail_frame_of
tail_too_long owner bytes long =
    let past : nat_lt LOG_BYTES (length bytes) ≡ true = grind (arith, nat_tests) in
    let none : nat_le (length bytes) LOG_BYTES ≡ false = grind (arith, nat_tests) in
    ap (λ t. cond ((t && (nat_le FIRST_GATE (length bytes) && bytes_eq (take 8 bytes) letters)) && not (owner_in bytes == owner)) (Err 40) (tail_frame_of bytes)) none
    ∙ ap (λ t. cond t (Err LOG_BYTES) (behind_letters (batches_by (tail_slot bytes) (tail_gate bytes) bytes) bytes (first_difference letters (take 8 bytes)))) past

-- a header that is refused refuses the tail
pub tail_carried : (owner : ℕ) (file : List ℕ) → length file ≤ LOG_BYTES → (place : ℕ) → ((behind : Result (List Batch) ℕ) → of_owner owner (front_of file) (behind_header behind (front_of file)) ≡ Err place)
    → tail_frame_for owner file ≡ Err place
unfolding tail_frame_of
tail_carried owner file short place bad = carried owner file short place bad (batches_by (tail_slot file) (tail_gate file) file)

-- a file that isn't read refuses its tail
pub tail_read_refused : {D : Type 0} (d : Ghosts D) (old new : D) (given : List ℕ) (owner : ℕ) (why : LoadWhy) → RefusesToRead d old new why → RefusesToLoadTail d old given owner new why
tail_read_refused d old new given owner (Bad place) r = record {
  frame = λ t. tail_too_long owner (d.seen old) (r.1 t) ∙ ap (λ (n : ℕ). Err n) (sym r.0);
  not_foreign = λ t kept f. absurd (omega (arith, f.0.short, r.1 t));
  bytes = r.2;
  calls = inr (r.3, r.0, r.1);
}
tail_read_refused d old new given owner (Foreign kept) r = absurd r
tail_read_refused d old new given owner Failed r = r
tail_read_refused d old new given owner Stopped r = r
tail_read_refused d old new given owner Memory r = r

-- a gate of the tail that the file doesn't reach is refused at its slot
pub gate_refused : (slots file : List ℕ) (slot : Option ℕ) (count place gate : ℕ) → FIRST_GATE ≤ length file → count ≡ length file → slot ≡ last_slot slots → gate ≡ last_offset FIRST_GATE slots → (gate < FIRST_GATE) ⊎ (count < gate)
    → place ≡ unwrap_or slot count → batches_by (last_slot slots) (last_offset FIRST_GATE slots) file ≡ Err place
gate_refused [] file slot count place gate long many same at (inl low) is = absurd (omega (arith, low, at))
gate_refused [] file slot count place gate long many same at (inr past) is = absurd (omega (arith, past, at, long, many))
gate_refused (o ∷ os) file slot count place gate long many same at bad is =
    no_gate (slot_place (length os)) (last_offset o os) file (elim bad [ inl low ↦ inl (omega (arith, low, at)) | inr past ↦ inr (omega (arith, past, at, many)) ])
    ∙ ap (λ (n : ℕ). Err n) (sym (is ∙ ap (λ s. unwrap_or s count) same))

module _ {D : Type 0} (d : Ghosts D) (old new : D) (given : List ℕ) (owner : ℕ) (slots : List ℕ) (slot : Option ℕ) (gate : ℕ) (header : d.tells old → HasHeader given owner slots (d.seen old)) (short : d.tells old → length (d.seen old) ≤ LOG_BYTES)
    (same : slot ≡ last_slot slots) (at : gate ≡ last_offset FIRST_GATE slots) (rests : IsAtRest d old new) where
  -- no log of another scenario has such a header
  own : d.tells old → IsNotForeign given (d.seen old)
  own t kept foreign = foreign.2 (foreign.1 ∙ (header t).fingerprint_same)

  pub gate_not_there : (count place : ℕ) → d.calls old + 3 ≤ d.calls new → (d.tells old → count ≡ length (d.seen old)) → (gate < FIRST_GATE) ⊎ (count < gate) → place ≡ unwrap_or slot count → RefusesToLoadTail d old given owner new (Bad place)
  gate_not_there count place three many bad is = record {
    frame = λ t. tail_for_is given owner slots (d.seen old) (short t) (header t) ∙ gate_refused slots (d.seen old) slot count place gate (header t).long (many t) same at bad is;
    not_foreign = own;
    bytes = rests.bytes;
    calls = inl three;
  }

-- the bytes of a tail were read
module _ {D : Type 0} (d : Ghosts D) (old new : D) (given : List ℕ) (owner : ℕ) (slots : List ℕ) (gate : ℕ) (slot : Option ℕ) (bytes : List ℕ) (h : HoldsTail d old given owner slots gate slot bytes new) where
  of_own : d.tells old → IsNotForeign given (d.seen old)
  of_own t kept foreign = foreign.2 (foreign.1 ∙ (h.header t).fingerprint_same)

  behind : d.tells old → batches_by (last_slot slots) (last_offset FIRST_GATE slots) (d.seen old) ≡ batches_behind slot gate bytes
  behind t =
      ap (λ s. batches_by s (last_offset FIRST_GATE slots) (d.seen old)) (sym h.slot_used)
      ∙ ap (λ g. batches_by slot g (d.seen old)) (sym h.begun)
      ∙ sym (rest_is slot gate (d.seen old) bytes h.high (h.there t))

  frame_there : d.tells old → tail_frame_for owner (d.seen old) ≡ batches_behind slot gate bytes
  frame_there t = tail_for_is given owner slots (d.seen old) (h.short t) (h.header t) ∙ behind t

  slot_there : d.tells old → tail_slot (d.seen old) ≡ slot
  slot_there t = ap last_slot (h.header t).slots_same ∙ sym h.slot_used

  pub reads_tail : (bs : List Batch) → batches_behind slot gate bytes ≡ Ok bs → AreBelow LOG_BYTES bs → ReadsTail d old given owner bs slots gate slot new
  reads_tail bs read below = record {
    log = record {
      bytes = h.rests.bytes;
      fingerprint_same = λ t. (h.header t).fingerprint_same;
      owner_same = λ t. (h.header t).owner_same;
      images = h.rests.images;
      settled = h.settled;
    };
    frame = λ t. tail_frame_is given owner slots (d.seen old) (h.short t) (h.header t) ∙ behind t ∙ read;
    slots_same = λ t. (h.header t).slots_same;
    gate = λ t. ap (last_offset FIRST_GATE) (h.header t).slots_same ∙ sym h.begun;
    slot_used = slot_there;
    below = below;
  }

  -- facts on each cause are a case for each cause
  pub batches_refused : (why : LoadWhy) → ((place : ℕ) → why ≡ Bad place → batches_behind slot gate bytes ≡ Err place) → IsOfFrame why → RefusesToLoadTail d old given owner new why
  batches_refused (Bad place) bad is = record {
    frame = λ t. frame_there t ∙ bad place refl;
    not_foreign = of_own;
    bytes = h.rests.bytes;
    calls = inl h.calls;
  }
  batches_refused (Foreign kept) bad is = absurd is
  batches_refused Failed bad is = absurd is
  batches_refused Stopped bad is = absurd is
  batches_refused Memory bad is = h.rests

  pub records_refused : (why : LoadWhy) → ((place : ℕ) → why ≡ Bad place → placed_behind slot gate bytes ≡ Err place) → IsOfFrame why → RefusesTailRecords d old given owner new why
  records_refused (Bad place) bad is = record {
    place = λ t.
        ap (λ (f : Result (List Batch) ℕ). f >>= λ bs. placed_by (tail_slot (d.seen old)) bs) (frame_there t)
        ∙ ap (λ (s : Option ℕ). batches_behind slot gate bytes >>= λ bs. placed_by s bs) (slot_there t)
        ∙ bad place refl;
    not_foreign = of_own;
    bytes = h.rests.bytes;
  }
  records_refused (Foreign kept) bad is = absurd is
  records_refused Failed bad is = absurd is
  records_refused Stopped bad is = absurd is
  records_refused Memory bad is = record { bytes = h.rests.bytes; images = h.rests.images }
