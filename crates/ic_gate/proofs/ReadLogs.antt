-- A log whose bytes are walked where they lie, and its records.
use Rattle.std.proofs.Common.{◌≡◌, ℕ, ◌+◌, ◌-◌, ◌≤◌, List, length, take, drop, Option, Some, None, refl, sym, ap, subst, ◌∙◌, true, arith}
use Rattle.std.specs.Prelude.{Result, Ok, Err}
use Rattle.ic_base.specs.declared.limits.TheConstants.{FIRST_GATE, LOG_BYTES}
use Rattle.ic_base.specs.declared.record.Batch.{Batch}
use Rattle.def_log.specs.Changes.{counted, gate_from, forced_from}
use Rattle.def_log.specs.Directory.{first_slot, slots_in, first_bad_slot, unless_bad}
use Rattle.def_log.specs.Frame.{letters, any_batch, batches_from, first_difference, with_slots, frame_of, fingerprint_in, owner_in, IsForeign}
use Rattle.def_log.specs.Images.{LeavesJust}
use Rattle.def_log.specs.Loads.{frame_for, placed_log_for}
use Rattle.def_log.specs.Log.{Placed, placed_with, ◌>>=◌}
use Rattle.def_log.specs.Sizes.{span, payload_count, gate_behind}
use Rattle.ic_disk.specs.Disk.{Keeps}
use Rattle.ic_disk.specs.declared.disk.Disk.{Ghosts}
use Rattle.ic_gate.specs.Calls.{Loads, IsOver}
use Rattle.ic_gate.specs.Gates.{batches_with}
use Rattle.ic_gate.specs.Logs.{slots_of}
use Rattle.ic_gate.specs.Reading.{IsAtRest, Reads, Stands}
use Rattle.ic_gate.specs.RecordLoads.{AreRead, FailsToRead, HoldRecords, ReadsRecords, LoadsRecords, RefusesRecords}
use Rattle.ic_gate.specs.Refusals.{IsNotForeign, IsOfFile, IsOfFrame}
use Rattle.ic_gate.specs.declared.log.Log.{Log}
use Rattle.ic_gate.specs.declared.refusals.LoadWhy.{LoadWhy}
use Rattle.ic_gate.specs.declared.refusals.LoadWhy.TheVariants.{Bad, Foreign, Failed, Stopped, Memory}
use Rattle.ic_gate.proofs.Headers.{frame_is, frame_for_is, walk_slice, load_gate, load_count}
use Rattle.ic_gate.proofs.ReadBatches.{frame_below}
use Rattle.ic_gate.proofs.RecordLoads.{with_records}

-- these batches end at the gate, with so many payload bytes, and each of the slots names one of them
pub record End (slots : List ℕ) (start : ℕ) (read : Result (List Batch) ℕ) (gate forced : ℕ) : Type 0 where
  pub batches : List Batch
  pub are : read ≡ Ok batches
  pub named : with_slots slots read ≡ Ok batches
  pub gate_is : gate ≡ start + span batches
  pub forced_is : forced ≡ payload_count batches

some_same : (a b : ℕ) → ◌≡◌ {A = Option ℕ} (Some a) (Some b) → b ≡ a
some_same a b e = cc

pub end : (slots : List ℕ) (start gate forced : ℕ) (read : Result (List Batch) ℕ) → gate_behind start (with_slots slots read) ≡ Some gate → counted (with_slots slots read) ≡ Some forced → End slots start read gate forced
end slots start gate forced (Err place) e f = absurd (cc e)
end slots start gate forced (Ok bs) e f = by (first_bad_slot any_batch first_slot slots bs) refl e f
  where
    by : (bad : Option ℕ) → first_bad_slot any_batch first_slot slots bs ≡ bad → gate_behind start (unless_bad bad bs) ≡ Some gate → counted (unless_bad bad bs) ≡ Some forced → End slots start (Ok bs) gate forced
    by (Some place) is d g = absurd (cc d)
    by None is d g = record { batches = bs; are = refl; named = ap (λ (o : Option ℕ). unless_bad o bs) is; gate_is = some_same (start + span bs) gate d; forced_is = some_same (payload_count bs) forced g }

-- what fails to be read is no other scenario's, and no device
pub not_foreign : (read : Result (List Placed) ℕ) (why : LoadWhy) (kept : List ℕ) → FailsToRead read why → why ≡ Foreign kept → ⊥
not_foreign read why kept fails is = let none : FailsToRead read (Foreign kept) = subst (FailsToRead read) is fails in none

pub fails_in_file : (read : Result (List Placed) ℕ) (why : LoadWhy) → FailsToRead read why → IsOfFile why
fails_in_file read (Bad place) fails = tt
fails_in_file read (Foreign kept) fails = absurd fails
fails_in_file read Failed fails = absurd fails
fails_in_file read Stopped fails = absurd fails
fails_in_file read Memory fails = tt

pub fails_in_frame : (read : Result (List Placed) ℕ) (why : LoadWhy) → FailsToRead read why → IsOfFrame why
fails_in_frame read (Bad place) fails = tt
fails_in_frame read (Foreign kept) fails = absurd fails
fails_in_frame read Failed fails = absurd fails
fails_in_frame read Stopped fails = absurd fails
fails_in_frame read Memory fails = tt

-- a frame that is refused has no records
pub frame_refused : (owner : ℕ) (bytes : List ℕ) (place : ℕ) → frame_for owner bytes ≡ Err place → placed_log_for owner bytes ≡ Err place
frame_refused owner bytes place e = ap (λ (f : Result (List Batch) ℕ). f >>= λ bs. placed_with (slots_in bytes) bs) e

-- behind a header that was passed
module _ (owner : ℕ) (bytes : List ℕ) (short : length bytes ≤ LOG_BYTES) (long : FIRST_GATE ≤ length bytes) (same : first_difference letters (take 8 bytes) ≡ None) (own : owner_in bytes ≡ owner) (slots : List ℕ) (listed : slots ≡ slots_in bytes) where
  abbrev rest : List ℕ
  rest = take (length bytes - FIRST_GATE) (drop FIRST_GATE bytes)

  walked : with_slots (slots_in bytes) (batches_from (length rest) FIRST_GATE rest) ≡ batches_with slots FIRST_GATE rest
  walked = ap (λ (s : List ℕ). with_slots s (batches_from (length rest) FIRST_GATE rest)) (sym listed)

  whole : frame_of bytes ≡ batches_with slots FIRST_GATE rest
  whole = frame_is owner bytes short long same own ∙ ap (with_slots (slots_in bytes)) (walk_slice bytes _ refl) ∙ walked

  whole_for : frame_for owner bytes ≡ batches_with slots FIRST_GATE rest
  whole_for = frame_for_is owner bytes short long same own ∙ ap (with_slots (slots_in bytes)) (walk_slice bytes _ refl) ∙ walked

  pub walk_refused : (place : ℕ) → batches_with slots FIRST_GATE rest ≡ Err place → placed_log_for owner bytes ≡ Err place
  walk_refused place e = frame_refused owner bytes place (whole_for ∙ e)

  module _ (gate forced : ℕ) (ends : End slots FIRST_GATE (batches_from (length rest) FIRST_GATE rest) gate forced) where
    pub records_refused : (why : LoadWhy) → FailsToRead (placed_with slots ends.batches) why → (place : ℕ) → why ≡ Bad place → placed_log_for owner bytes ≡ Err place
    records_refused why fails place is =
        let bad : placed_with slots ends.batches ≡ Err place = subst (FailsToRead (placed_with slots ends.batches)) is fails in
        ap (λ (f : Result (List Batch) ℕ). f >>= λ bs. placed_with (slots_in bytes) bs) (whole_for ∙ ends.named)
        ∙ ap (λ (s : List ℕ). placed_with s ends.batches) (sym listed) ∙ bad

    pub held : (records : List Placed) → AreRead (placed_with slots ends.batches) (payload_count ends.batches) records → HoldRecords bytes gate forced slots records
    held records are = record { batches = ends.batches; frame = whole ∙ ends.named; slots_same = sym listed; gate_is = ends.gate_is; forced_is = ends.forced_is; are_read = are }

module _ {D : Type 0} (d : Ghosts D) where
  -- what was read is refused for a cause
  pub refused : (old new : D) (given read : List ℕ) (owner : ℕ) (why : LoadWhy) → (d.tells old → read ≡ d.seen old) → IsAtRest d old new
      → ((place : ℕ) → why ≡ Bad place → placed_log_for owner read ≡ Err place)
      → ((place : ℕ) → why ≡ Bad place → IsNotForeign given read)
      → ((kept : List ℕ) → why ≡ Foreign kept → IsForeign given read kept)
      → IsOfFile why → RefusesRecords d old given owner new why
  refused old new given read owner (Bad place) told rests bad not foreign is = record {
    place = λ t. ap (placed_log_for owner) (sym (told t)) ∙ bad place refl;
    not_foreign = λ t. subst (IsNotForeign given) (told t) (not place refl);
    bytes = rests.bytes;
  }
  refused old new given read owner (Foreign kept) told rests bad not foreign is = λ t. (subst (λ (l : List ℕ). IsForeign given l kept) (told t) (foreign kept refl), rests.bytes t)
  refused old new given read owner Failed told rests bad not foreign is = absurd is
  refused old new given read owner Stopped told rests bad not foreign is = absurd is
  refused old new given read owner Memory told rests bad not foreign is = rests

  -- and what was read holds a log that the disk holds
  pub reads : (old new : D) (given read : List ℕ) (owner gate forced : ℕ) (slots : List ℕ) (records : List Placed) → (d.tells old → read ≡ d.seen old) → (d.tells old → d.seen new ≡ d.seen old)
      → fingerprint_in read ≡ given → owner_in read ≡ owner → (d.keeps old → LeavesJust (d.may_leave new) (d.seen old)) → d.settled new ≡ true
      → HoldRecords read gate forced slots records → ReadsRecords d old given owner gate forced slots records new
  reads old new given read owner gate forced slots records told same fingerprint own images settled held = record {
    batches = held.batches;
    read = record {
      log = record {
        bytes = same;
        fingerprint_same = λ t. ap fingerprint_in (sym (told t)) ∙ fingerprint;
        owner_same = λ t. ap owner_in (sym (told t)) ∙ own;
        images = images;
        settled = settled;
      };
      frame = λ t. ap frame_of (sym (told t)) ∙ held.frame;
      slots_same = λ t. ap slots_in (sym (told t)) ∙ held.slots_same;
      below = frame_below read held.batches held.frame;
    };
    gate_is = held.gate_is;
    forced_is = held.forced_is;
    are_read = held.are_read;
  }

  module _ (old new : D) (given : List ℕ) (owner gate forced : ℕ) (slots : List ℕ) (records : List Placed) (r : ReadsRecords d old given owner gate forced slots records new) where
    -- the log that was read stands on the disk
    pub stands : Keeps d old new → ((disk : D) → d.keeps disk → d.tells disk) → Stands d new FIRST_GATE gate forced slots
    stands kept keeping_tells = record {
      at_gate = λ t. (let told : d.tells old = kept.tells.1 t in ap (gate_from FIRST_GATE) (r.read.log.bytes told) ∙ load_gate FIRST_GATE gate (d.seen old) r.batches refl r.gate_is (r.read.frame told));
      counted = λ t. (let told : d.tells old = kept.tells.1 t in ap (forced_from FIRST_GATE) (r.read.log.bytes told) ∙ load_count FIRST_GATE forced (d.seen old) r.batches refl r.forced_is (r.read.frame told));
      listed = λ t. (let told : d.tells old = kept.tells.1 t in ap slots_in (r.read.log.bytes told) ∙ r.read.slots_same told);
      durable = λ keeps. (let kept_old : d.keeps old = kept.keeps.1 keeps in subst (LeavesJust (d.may_leave new)) (sym (r.read.log.bytes (keeping_tells old kept_old))) (r.read.log.images kept_old));
      settled = r.read.log.settled;
    }

    -- and is loaded with its records
    pub loads : (log : Log D d) → IsOver d new FIRST_GATE gate forced slots log → LoadsRecords d old given owner (log, records)
    loads log over =
        let reads_slots : Reads d old given owner r.batches (slots_of log) new = subst (λ (s : List ℕ). Reads d old given owner r.batches s new) (sym over.slots) r.read in
        let of_batches : Loads d old given owner (log, r.batches) = record {
          read = subst (λ (disk : D). Reads d old given owner r.batches (slots_of log) disk) (sym over.disk_same) reads_slots;
          size = omega (arith, over.size, r.gate_is);
          start = over.start;
          forced = over.forced ∙ r.forced_is;
          rest = over.rest;
        } in
        with_records d old given owner log r.batches slots records of_batches (sym over.slots) r.are_read
