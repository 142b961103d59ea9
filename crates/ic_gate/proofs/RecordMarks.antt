-- The records of a log whose last batch is marked.
use Rattle.std.proofs.Common.{◌≡◌, ◌∙◌, sym, ap, refl, subst, inl, inr, arith, cond, ℕ, ◌+◌, ◌-◌, ◌<◌, Bool, true, false, List, [], ◌∷◌, ◌++◌, length, Option, Some, None}
use Rattle.std.specs.Prelude.{Result, Ok, Err, is_some, unwrap_or, OnOk, IfErr}
use Rattle.std.specs.List.{AllByRecursion}
use Rattle.std.specs.Coded.{Coded-set, coded_list, coded_result, coded_ℕ}
use Rattle.std.proofs.Math.Logic.{∥∥₁_elim}
use Rattle.std.proofs.lemmas.Bool.{cases_lt, false≢true}
use Rattle.std.proofs.lemmas.List.{length-append, append_assoc}
use Rattle.ic_base.specs.contracts.record.Record.{the_row}
use Rattle.ic_base.specs.declared.limits.TheConstants.{FIRST_GATE, SLOTS}
use Rattle.ic_base.specs.declared.record.Record.{Record}
use Rattle.def_log.specs.Changes.{IsOfSame, IsForced, IsOldOrMarked, gate_from, is_start}
use Rattle.def_log.specs.Directory.{slots_in}
use Rattle.def_log.specs.Frame.{batches_at}
use Rattle.def_log.specs.Log.{end_with_checkpoint, log_of}
use Rattle.def_log.specs.Sizes.{gate_behind, gate_in}
use Rattle.def_log.specs.Spelling.{spelling, spellings, Fits}
use Rattle.def_log.proofs.Forces.{gate_of_whole}
use Rattle.def_log.proofs.Tails.{frame_parts, log_parts}
use Rattle.law_marks.proofs.Marks.{marks-records}
use Rattle.law_marks.proofs.Reading.{spelled-some}
use Rattle.ic_disk.specs.declared.disk.Disk.{Ghosts}
use Rattle.def_log.specs.Gated.{GatedWrite, mark_writes}
use Rattle.ic_disk.specs.Stops.{Writes, Syncs}
use Rattle.ic_gate.specs.Calls.{Marks, FailsToForce, gated_calls, force_writes}
use Rattle.ic_gate.specs.RecordCalls.{record_writes}
use Rattle.ic_gate.specs.RecordFiles.{records_from, ReadsOn}
use Rattle.ic_gate.specs.Logs.{disk_of, start_of, forced_of, buffered_of, slots_of, is_closed}
use Rattle.ic_gate.specs.declared.log.Log.{Log}
use Rattle.ic_gate.specs.declared.refusals.ForceRefused.{ForceRefused}
use Rattle.ic_gate.specs.declared.refusals.ForceRefused.TheVariants as force
use Rattle.ic_gate.proofs.Naming.{mark_self}
use Rattle.ic_gate.proofs.RecordFiles.{reads_forced}
use Rattle.ic_gate.proofs.Walks.{same_walk}

-- records of which the last is a Checkpoint have bytes
pub some_bytes : (rs : List Record) → end_with_checkpoint rs ≡ true → 0 < length (spellings rs)
some_bytes [] e = absurd (cc e)
some_bytes (r ∷ rs) e = omega (arith, spelled-some r, length-append (spelling r) (spellings rs))

pub some_is : (o : Option ℕ) → is_some o ≡ true → o ≡ Some (unwrap_or o 0)
some_is (Some n) e = refl
some_is None e = absurd (cc e)

-- the closed gate of a log that is read is the one behind its whole frame
gate_stands : (start gate : ℕ) (old : List ℕ) (before : List Record) → log_of old ≡ Ok before → gate_from start old ≡ Some gate → is_start start (slots_in old) ≡ true → gate_in old ≡ Some gate
gate_stands start gate old before reads at_gate begun =
    let l = log_parts old before reads in
    ap (gate_behind FIRST_GATE) l.frame ∙ ap (λ (n : ℕ). Some n) (sym (gate_of_whole start gate old at_gate begun l.bs (frame_parts old l.bs l.frame)))

-- behind a batch that ends with a Checkpoint the records are read, its mark whole or not
pub reads_marked : (start gate at : ℕ) (old mid image : List ℕ) (before added : List Record) (payload : List ℕ) → ∥ AllByRecursion Fits added ∥₁ → payload ≡ spellings added → end_with_checkpoint added ≡ true → log_of old ≡ Ok before
    → gate_from start old ≡ Some gate → is_start start (slots_in old) ≡ true → at ≡ gate + 5 → IsForced start old mid at payload → IsOldOrMarked start mid gate image → log_of image ≡ Ok (before ++ added)
reads_marked start gate at old mid image before added payload fits bytes ends reads at_gate begun place forced marked =
    ∥∥₁_elim fits (Coded-set (coded_result (coded_list the_row.coded) coded_ℕ) _ _)
    (λ fit. marks-records start gate old mid image before added fit ends reads (gate_stands start gate old before reads at_gate begun) (subst (λ (n : ℕ). IsForced start old mid n (spellings added)) place (subst (λ (l : List ℕ). IsForced start old mid at l) bytes forced)) marked)

-- its batches from a gate on are the same
pub walk_marked : (start : ℕ) (old new : List ℕ) (offset : ℕ) → IsOldOrMarked start old offset new → batches_at start new ≡ batches_at start old
walk_marked start old new offset (inl same) = same.tail
walk_marked start old new offset (inr marked) = marked.tail

-- and so from a gate on
pub reads_marked_from : (start gate at : ℕ) (old mid image : List ℕ) (before added : List Record) (payload : List ℕ) → ∥ AllByRecursion Fits added ∥₁ → payload ≡ spellings added → end_with_checkpoint added ≡ true → records_from start old ≡ Ok before
    → gate_from start old ≡ Some gate → is_start start (slots_in old) ≡ true → at ≡ gate + 5 → IsForced start old mid at payload → IsOldOrMarked start mid gate image → ReadsOn start old before image (before ++ added)
reads_marked_from start gate at old mid image before added payload fits bytes ends is at_gate begun place forced marked = record {
  walk = same_walk start mid image (walk_marked start mid image gate marked) ∙ (reads_forced start old mid at payload before added fits bytes is forced).walk;
  whole = λ front e. reads_marked start gate at old mid image (front ++ before) added payload fits bytes ends e at_gate begun place forced marked ∙ ap (λ (l : List Record). Ok l) (append_assoc front before added);
}

pub of_marked : (start : ℕ) (old new : List ℕ) (offset : ℕ) → IsOldOrMarked start old offset new → IsOfSame old new
of_marked start old new offset (inl same) = same.same
of_marked start old new offset (inr marked) = marked.same

module _ {D : Type 0} {d : Ghosts D} (old new : Log D d) (offset : ℕ) (opened : is_closed old ≡ false) where
  -- an open log was marked, or all its slots were open
  pub is_marked : (r : Result (Unit {0}) ForceRefused) → OnOk r (Marks old new offset) → IfErr r (FailsToForce old new) → is_closed new ≡ false → d.tells (disk_of old) → IsOldOrMarked (start_of old) (d.seen (disk_of old)) offset (d.seen (disk_of new))
  is_marked (Ok u) step fails up told = elim (cases_lt (length (slots_of old)) SLOTS) [
    | inl few ↦ inr (step.marked told few)
    | inr all ↦ mark_self (start_of old) (d.seen (disk_of old)) offset (d.seen (disk_of new)) (ap d.seen (step.all_open all))
  ]
  is_marked (Err force.Failed) step fails up told = absurd (false≢true (sym up ∙ fails.0.closes))
  is_marked (Err force.Stopped) step fails up told = absurd (false≢true (sym up ∙ fails.0.closes))
  is_marked (Err force.Closed) step fails up told = absurd (false≢true (sym opened ∙ fails.0))

  -- what is buffered, what is forced, and where it begins, stays
  pub buffered_stays : (r : Result (Unit {0}) ForceRefused) → OnOk r (Marks old new offset) → IfErr r (FailsToForce old new) → (buffered_of new ≡ buffered_of old) × (forced_of new ≡ forced_of old) × (start_of new ≡ start_of old)
  buffered_stays (Ok u) step fails = (step.buffered, step.forced, step.start)
  buffered_stays (Err force.Failed) step fails = (fails.0.buffered, fails.0.forced, fails.0.start)
  buffered_stays (Err force.Stopped) step fails = (fails.0.buffered, fails.0.forced, fails.0.start)
  buffered_stays (Err force.Closed) step fails = absurd (false≢true (sym opened ∙ fails.0))

-- calls of writes, one after the other
pub gated_then : (ws vs : List GatedWrite) → gated_calls (ws ++ vs) ≡ gated_calls ws ++ gated_calls vs
gated_then [] vs = refl
gated_then (w ∷ ws) vs = ap (λ cs. Writes (w.gate + 1) w.bytes ∷ Syncs ∷ Writes w.gate (1 ∷ []) ∷ Syncs ∷ cs) (gated_then ws vs)

-- the calls of a force: those of the batch, and those of a mark where it ends with a Checkpoint
pub batch_then : (size used : ℕ) (records : List Record) (b : Bool) → end_with_checkpoint records ≡ b → gated_calls (record_writes size used records) ≡ gated_calls (force_writes size (spellings records)) ++ gated_calls (cond b (mark_writes used (size - 1)) [])
batch_then size used records b is = gated_then (force_writes size (spellings records)) (cond (end_with_checkpoint records) (mark_writes used (size - 1)) []) ∙ ap (λ t. gated_calls (force_writes size (spellings records)) ++ gated_calls (cond t (mark_writes used (size - 1)) [])) is
