-- What is loaded, and why nothing is.
use Rattle.std.proofs.Common.{◌≡◌, ◌∙◌, ap, sym, refl, arith, ℕ, ◌+◌, List, Some, None, option_map}
use Rattle.std.specs.Prelude.{Result, Ok, Err}
use Rattle.ic_base.specs.declared.limits.TheConstants.{FIRST_GATE}
use Rattle.ic_base.specs.declared.record.Batch.{Batch}
use Rattle.def_log.specs.Directory.{first_slot, slots_in, first_bad_slot, unless_bad}
use Rattle.def_log.specs.Frame.{frame_of}
use Rattle.def_log.specs.Log.{Placed, placed_in, placed_with, ends_with_checkpoint, ◌>>=◌}
use Rattle.def_log.specs.Loads.{placed_log_for}
use Rattle.def_log.specs.Sizes.{gate_behind, size_in, span, payload_count}
use Rattle.def_log.proofs.Tails.{frame_parts}
use Rattle.law_marks.proofs.Owners.{owned}
use Rattle.ic_disk.specs.declared.disk.Disk.{Ghosts}
use Rattle.ic_gate.specs.Calls.{Loads}
use Rattle.ic_gate.specs.Logs.{size_of, slots_of}
use Rattle.ic_gate.specs.Reading.{RefusesToLoad}
use Rattle.ic_gate.specs.declared.log.Log.{Log}
use Rattle.ic_gate.specs.declared.refusals.LoadWhy.{LoadWhy}
use Rattle.ic_gate.specs.declared.refusals.LoadWhy.TheVariants.{Bad, Foreign, Failed, Stopped, Memory}
use Rattle.ic_gate.specs.RecordFiles.{placed_from}
use Rattle.ic_gate.specs.RecordLoads.{AreRead, FailsToRead, LoadsRecords, RefusesRecords}
use Rattle.ic_gate.proofs.Walks.{places_walk, placed_alone}

-- behind records that were read, the slots are looked at
abbrev judged : List ℕ → List Batch → Result (List Placed) ℕ → Result (List Placed) ℕ
judged slots bs read = read >>= λ rs. unless_bad (first_bad_slot ends_with_checkpoint first_slot slots bs) rs

-- records that aren't read, and slots that name others
pub unread : (slots : List ℕ) (bs : List Batch) (why : LoadWhy) → FailsToRead (placed_in bs) why → FailsToRead (placed_with slots bs) why
unread slots bs (Bad place) fails = ap (judged slots bs) fails
unread slots bs (Foreign kept) fails = fails
unread slots bs Failed fails = fails
unread slots bs Stopped fails = fails
unread slots bs Memory fails = fails

pub idle : (slots : List ℕ) (bs : List Batch) (rs : List Placed) (place : ℕ) → placed_in bs ≡ Ok rs → first_bad_slot ends_with_checkpoint first_slot slots bs ≡ Some place → placed_with slots bs ≡ Err place
idle slots bs rs place read bad = ap (judged slots bs) read ∙ ap (λ o. unless_bad o rs) bad

-- all slots name batches that end with a Checkpoint
pub judged_well : (slots : List ℕ) (bs : List Batch) (rs : List Placed) (count : ℕ) → first_bad_slot ends_with_checkpoint first_slot slots bs ≡ None → AreRead (placed_in bs) count rs → AreRead (placed_with slots bs) count rs
judged_well slots bs rs count good are = record { are = ap (judged slots bs) are.are ∙ ap (λ o. unless_bad o rs) good; fit = are.fit; long = are.long }

module _ {D : Type 0} (d : Ghosts D) where
  -- the size of the log in its file
  sized : (disk : D) (given : List ℕ) (owner : ℕ) (log : Log D d) (batches : List Batch) → Loads d disk given owner (log, batches) → d.tells disk → size_in (d.seen disk) ≡ Some (size_of log)
  sized disk given owner log batches loads told =
      let long : FIRST_GATE + span batches + 1 ≡ size_of log = omega (arith, loads.size) in
      ap (λ f. option_map (λ gate. gate + 1) (gate_behind FIRST_GATE f)) (loads.read.frame told) ∙ ap (λ (n : ℕ). Some n) long

  -- the batches of the log, with the slots of its file
  slotted : (disk : D) (given : List ℕ) (owner : ℕ) (log : Log D d) (batches : List Batch) (slots : List ℕ) → Loads d disk given owner (log, batches) → slots ≡ slots_of log → d.tells disk
      → (frame : Result (List Batch) ℕ) → frame ≡ frame_of (d.seen disk) → (frame >>= λ bs. placed_with (slots_in (d.seen disk)) bs) ≡ placed_with slots batches
  slotted disk given owner log batches slots loads same told frame is =
      ap (λ (f : Result (List Batch) ℕ). f >>= λ bs. placed_with (slots_in (d.seen disk)) bs) (is ∙ loads.read.frame told)
      ∙ ap (λ s. placed_with s batches) (loads.read.slots_same told ∙ sym same)

  -- the log that was loaded, with the records of its batches
  pub with_records : (disk : D) (given : List ℕ) (owner : ℕ) (log : Log D d) (batches : List Batch) (slots : List ℕ) (records : List Placed) → Loads d disk given owner (log, batches) → slots ≡ slots_of log
      → AreRead (placed_with slots batches) (payload_count batches) records → LoadsRecords d disk given owner (log, records)
  with_records disk given owner log batches slots records loads same are = record {
    read = λ told. slotted disk given owner log batches slots loads same told (frame_of (d.seen disk)) refl ∙ are.are;
    bytes = loads.read.log.bytes;
    own = loads.read.log.fingerprint_same;
    owner_same = loads.read.log.owner_same;
    sized = sized disk given owner log batches loads;
    start = loads.start;
    walk = λ told. ap (λ n. placed_from n (d.seen disk)) loads.start ∙ places_walk FIRST_GATE (d.seen disk) batches records (frame_parts (d.seen disk) batches (loads.read.frame told)).batches_same (placed_alone (first_bad_slot ends_with_checkpoint first_slot slots batches) (placed_in batches) records are.are);
    fit = are.fit;
    forced = loads.forced ∙ are.long;
    buffered = loads.rest.buffered;
    is_open = loads.rest.is_open;
  }

  -- a refusal of the log is one of its records
  pub not_loaded : (old : D) (given : List ℕ) (owner : ℕ) (new : D) (why : LoadWhy) → RefusesToLoad d old given owner new why → RefusesRecords d old given owner new why
  not_loaded old given owner new (Bad place) refused = record {
    place = λ told. ap (λ (f : Result (List Batch) ℕ). f >>= λ bs. placed_with (slots_in (d.seen old)) bs) (refused.frame told);
    not_foreign = refused.not_foreign;
    bytes = refused.bytes;
  }
  not_loaded old given owner new (Foreign kept) refused = λ told. (refused.told told, refused.bytes told)
  not_loaded old given owner new Failed refused = refused
  not_loaded old given owner new Stopped refused = refused
  not_loaded old given owner new Memory refused = refused

  -- records that were loaded are those of the component's log
  pub read_of_own : (disk : D) (given : List ℕ) (owner : ℕ) (loaded : Log D d × List Placed) → LoadsRecords d disk given owner loaded → d.tells disk → placed_log_for owner (d.seen disk) ≡ Ok loaded.1
  read_of_own disk given owner loaded loads told =
      ap (λ (f : Result (List Batch) ℕ). f >>= λ bs. placed_with (slots_in (d.seen disk)) bs) (owned owner (d.seen disk) (frame_of (d.seen disk)) (loads.owner_same told)) ∙ loads.read told
