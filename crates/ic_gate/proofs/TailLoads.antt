-- What a load of a log's tail comes to, and why nothing is loaded.
use Rattle.std.proofs.Common.{◌≡◌, ◌∙◌, ap, sym, refl, subst, arith, ℕ, ◌+◌, true, List, ◌++◌, Option, Some, option_map}
use Rattle.std.specs.Prelude.{Result, Ok, Err}
use Rattle.ic_base.specs.declared.record.Batch.{Batch}
use Rattle.ic_base.specs.declared.record.Record.{Record}
use Rattle.def_log.specs.Changes.{gate_from, forced_from, is_start}
use Rattle.def_log.specs.Directory.{slots_in}
use Rattle.def_log.specs.Images.{LeavesJust}
use Rattle.def_log.specs.Log.{◌>>=◌, Placed, placed_in, placed_by, idle_slot, placed_tail_of, tail_of, log_of, records_in}
use Rattle.def_log.specs.Loads.{placed_tail_for}
use Rattle.def_log.specs.Sizes.{span, payload_count}
use Rattle.def_log.specs.Tail.{tail_slot, tail_gate, tail_frame_of}
use Rattle.def_log.proofs.Tails.{tail_is_end}
use Rattle.law_marks.proofs.Owners.{owned}
use Rattle.ic_disk.specs.Disk.{Keeps}
use Rattle.ic_disk.specs.declared.disk.Disk.{Ghosts}
use Rattle.ic_gate.specs.Calls.{LoadsTail, IsOver}
use Rattle.ic_gate.specs.Logs.{start_of, slots_of}
use Rattle.ic_gate.specs.Reading.{Stands, ReadsTail, RefusesToLoadTail}
use Rattle.ic_gate.specs.RecordFiles.{placed_from}
use Rattle.ic_gate.specs.RecordLoads.{AreRead, ReadsTailRecords, LoadsTailRecords, RefusesTailRecords}
use Rattle.ic_gate.specs.declared.log.Log.{Log}
use Rattle.ic_gate.specs.declared.refusals.LoadWhy.{LoadWhy}
use Rattle.ic_gate.specs.declared.refusals.LoadWhy.TheVariants.{Bad, Foreign, Failed, Stopped, Memory}
use Rattle.ic_gate.proofs.Headers.{tail_gate_is, tail_count_is, tail_starts, tail_walk}
use Rattle.ic_gate.proofs.Naming.{size_of_whole}
use Rattle.ic_gate.proofs.Walks.{places_walk, placed_alone}

module _ {D : Type 0} (d : Ghosts D) (disk : D) (given : List ℕ) (owner : ℕ) (log : Log D d) (batches : List Batch) (slot : Option ℕ) (loads : LoadsTail d disk given owner (log, batches, slot)) where
  -- the batches of the tail, with its slot
  by_slot : d.tells disk → (frame : Result (List Batch) ℕ) → frame ≡ tail_frame_of (d.seen disk) → (frame >>= λ bs. placed_by (tail_slot (d.seen disk)) bs) ≡ placed_by slot batches
  by_slot told frame is =
      ap (λ (f : Result (List Batch) ℕ). f >>= λ bs. placed_by (tail_slot (d.seen disk)) bs) (is ∙ loads.read.frame told)
      ∙ ap (λ s. placed_by s batches) (loads.read.slot_used told)

  -- the closed gate behind the tail
  gate_there : d.tells disk → gate_from (start_of log) (d.seen disk) ≡ Some (start_of log + span batches)
  gate_there told = tail_gate_is (start_of log) (start_of log + span batches) (d.seen disk) batches (loads.read.gate told) refl (loads.read.frame told)

  -- the log that was loaded, with the records of its tail's batches
  pub with_tail : (records : List Placed) → AreRead (placed_by slot batches) (payload_count batches) records → LoadsTailRecords d disk given owner (log, records)
  with_tail records are = record {
    read = λ told. by_slot told (tail_frame_of (d.seen disk)) refl ∙ are.are;
    bytes = loads.read.log.bytes;
    own = loads.read.log.fingerprint_same;
    owner_same = loads.read.log.owner_same;
    sized = λ told. ap (option_map (λ gate. gate + 1)) (gate_there told) ∙ ap (λ (n : ℕ). Some n) (sym loads.size);
    of_file = λ told size e.
        let begun : is_start (start_of log) (slots_in (d.seen disk)) ≡ true = ap (λ n. is_start n (slots_in (d.seen disk))) (sym (loads.read.gate told)) ∙ tail_starts (slots_in (d.seen disk)) in
        size_of_whole (start_of log) (start_of log + span batches) size (d.seen disk) (gate_there told) begun e ∙ sym loads.size;
    start = loads.read.gate;
    walk = λ told. ap (λ n. placed_from n (d.seen disk)) (sym (loads.read.gate told)) ∙ places_walk (tail_gate (d.seen disk)) (d.seen disk) batches records (tail_walk (d.seen disk) batches (loads.read.frame told)) (placed_alone (idle_slot slot batches) (placed_in batches) records are.are);
    fit = are.fit;
    forced = loads.forced ∙ are.long;
    buffered = loads.rest.buffered;
    is_open = loads.rest.is_open;
  }

module _ {D : Type 0} (d : Ghosts D) (old new : D) (given : List ℕ) (owner start gate forced : ℕ) (slots : List ℕ) (records : List Placed) (r : ReadsTailRecords d old given owner start gate forced slots records new) where
  -- the log whose tail was read stands on the disk
  pub tail_stands : Keeps d old new → ((disk : D) → d.keeps disk → d.tells disk) → Stands d new start gate forced slots
  tail_stands kept keeping_tells = record {
    at_gate = λ t. (let told : d.tells old = kept.tells.1 t in ap (gate_from start) (r.read.log.bytes told) ∙ tail_gate_is start gate (d.seen old) r.batches (r.read.gate told) r.gate_is (r.read.frame told));
    counted = λ t. (let told : d.tells old = kept.tells.1 t in ap (forced_from start) (r.read.log.bytes told) ∙ tail_count_is start forced (d.seen old) r.batches (r.read.gate told) r.forced_is (r.read.frame told));
    listed = λ t. (let told : d.tells old = kept.tells.1 t in ap slots_in (r.read.log.bytes told) ∙ r.read.slots_same told);
    durable = λ keeps. (let kept_old : d.keeps old = kept.keeps.1 keeps in subst (LeavesJust (d.may_leave new)) (sym (r.read.log.bytes (keeping_tells old kept_old))) (r.read.log.images kept_old));
    settled = r.read.log.settled;
  }

  -- and is loaded with the tail's records
  pub tail_loads : (log : Log D d) → IsOver d new start gate forced slots log → LoadsTailRecords d old given owner (log, records)
  tail_loads log over =
      let of_slots : ReadsTail d old given owner r.batches (slots_of log) start r.slot new = subst (λ (s : List ℕ). ReadsTail d old given owner r.batches s start r.slot new) (sym over.slots) r.read in
      let from_start : ReadsTail d old given owner r.batches (slots_of log) (start_of log) r.slot new = subst (λ (n : ℕ). ReadsTail d old given owner r.batches (slots_of log) n r.slot new) (sym over.start) of_slots in
      let of_batches : LoadsTail d old given owner (log, r.batches, r.slot) = record {
        read = subst (λ (disk : D). ReadsTail d old given owner r.batches (slots_of log) (start_of log) r.slot disk) (sym over.disk_same) from_start;
        size = omega (arith, over.size, over.start, r.gate_is);
        forced = over.forced ∙ r.forced_is;
        rest = over.rest;
      } in
      with_tail d old given owner log r.batches r.slot of_batches records r.are_read

-- a refusal of the tail is one of its records
pub tail_not_loaded : {D : Type 0} (d : Ghosts D) (old : D) (given : List ℕ) (owner : ℕ) (new : D) (why : LoadWhy) → RefusesToLoadTail d old given owner new why → RefusesTailRecords d old given owner new why
tail_not_loaded d old given owner new (Bad place) refused = record {
  place = λ told. ap (λ (f : Result (List Batch) ℕ). f >>= λ bs. placed_by (tail_slot (d.seen old)) bs) (refused.frame told);
  not_foreign = refused.not_foreign;
  bytes = refused.bytes;
}
tail_not_loaded d old given owner new (Foreign kept) refused = λ told. (refused.told told, refused.bytes told)
tail_not_loaded d old given owner new Failed refused = refused
tail_not_loaded d old given owner new Stopped refused = refused
tail_not_loaded d old given owner new Memory refused = refused

module _ {D : Type 0} (d : Ghosts D) (disk : D) (given : List ℕ) (owner : ℕ) (loaded : Log D d × List Placed) (loads : LoadsTailRecords d disk given owner loaded) (told : d.tells disk) where
  -- records that were loaded are those of the component's tail
  pub tail_of_own : placed_tail_for owner (d.seen disk) ≡ Ok loaded.1
  tail_of_own =
      ap (λ (f : Result (List Batch) ℕ). f >>= λ bs. placed_by (tail_slot (d.seen disk)) bs) (owned owner (d.seen disk) (tail_frame_of (d.seen disk)) (loads.owner_same told)) ∙ loads.read told

  pub tail_read : tail_of (d.seen disk) ≡ Ok (records_in loaded.1)
  tail_read = ap (λ (r : Result (List Placed) ℕ). r >>= λ ps. Ok (records_in ps)) (loads.read told)

  same : (a b : List Record) → ◌≡◌ {A = Result (List Record) ℕ} (Ok a) (Ok b) → a ≡ b
  same a b e = cc

  -- where the whole log is read, its records end with them
  pub tail_behind : (rs : List Record) → log_of (d.seen disk) ≡ Ok rs → (front : List Record) × (rs ≡ front ++ records_in loaded.1)
  tail_behind rs e =
      let t = tail_is_end (d.seen disk) rs e in
      (t.0, t.3 ∙ ap (λ l. t.0 ++ l) (same t.1 (records_in loaded.1) (sym t.2 ∙ tail_read)))

-- the records of a tail with their places are those from its gate on
pub tail_places : (bytes : List ℕ) (ps : List Placed) → placed_tail_of bytes ≡ Ok ps → placed_from (tail_gate bytes) bytes ≡ Ok ps
tail_places bytes ps e = at (tail_frame_of bytes) refl e
  where
    at : (r : Result (List Batch) ℕ) → tail_frame_of bytes ≡ r → (r >>= λ bs. placed_by (tail_slot bytes) bs) ≡ Ok ps → placed_from (tail_gate bytes) bytes ≡ Ok ps
    at (Ok bs) f d = places_walk (tail_gate bytes) bytes bs ps (tail_walk bytes bs f) (placed_alone (idle_slot (tail_slot bytes) bs) (placed_in bs) ps d)
    at (Err place) f d = absurd (cc d)
