-- What waits for the next force can stand in the file.
use Rattle.std.proofs.Common.{◌≡◌, ◌∙◌, sym, ap, subst, ℕ, ◌+◌, ◌<◌, ◌≤◌, Bool, true, List, length, arith}
use Rattle.std.specs.Prelude.{Result, Ok, Err, OnOk}
use Rattle.ic_base.specs.declared.limits.TheConstants.{LOG_BYTES}
use Rattle.ic_base.specs.declared.record.Record.{Record}
use Rattle.def_step.specs.Pcom.{Log as Split, force_log}
use Rattle.ic_disk.specs.declared.disk.Disk.{Ghosts}
use Rattle.ic_gate.specs.declared.refusals.StepRefused.{StepRefused}
use Rattle.ic_gate.specs.RecordCalls.{size_with, Appends, StaysWhere, Forces}
use Rattle.ic_gate.specs.RecordCommits.{adding, split_if, forced_if, CanTake, Commits}
use Rattle.ic_gate.specs.RecordFiles.{CanStand}
use Rattle.ic_gate.specs.RecordLogs.{records_of, size_of}
use Rattle.ic_gate.specs.declared.record_log.RecordLog.{RecordLog}

pub waits_well : {D : Type 0} {d : Ghosts D} (l : RecordLog D d) → CanStand (size_of l) (records_of l).buffered
waits_well l =
    let Has : List ℕ → Type 0 = λ bs. 0 < length bs → size_of l + 5 + length bs ≤ LOG_BYTES in
    record { fits = l.fitting; room = subst Has l.waiting (λ some. omega (arith, l.log.fits some)) }

-- what was added could be
pub took_well : {D : Type 0} {d : Ghosts D} (old mid : RecordLog D d) (adds : List Record) → Appends old adds mid → StaysWhere old mid → CanTake old adds
took_well old mid adds a stays =
    let Stands : List Record → Type 0 = λ b. CanStand (size_of old) b in
    let At : ℕ → Type 0 = λ s. CanStand s (records_of mid).buffered in
    record { room = a.room; stands = subst Stands a.buffered (subst At stays.size (waits_well mid)) }

-- what was added, and is forced
pub committed : {D : Type 0} {d : Ghosts D} (old mid new : RecordLog D d) (adds : List Record) (is : Bool) → is ≡ true → Appends old adds mid → StaysWhere old mid → (r : Result (Unit {0}) StepRefused) → OnOk r (Forces mid new) → OnOk r (Commits old adds is new)
committed old mid new adds is forces a stays (Err why) f = tt
committed old mid new adds is forces a stays (Ok u) f =
    let now : records_of mid ≡ adding (records_of old) adds =
    ap (λ (l : List Record). let s : Split = record { forced = l; buffered = (records_of mid).buffered } in s) a.forced
    ∙ ap (λ (l : List Record). let s : Split = record { forced = (records_of old).forced; buffered = l } in s) a.buffered in
    record {
      records = f.records ∙ ap force_log now ∙ sym (ap (λ b. split_if b (adding (records_of old) adds)) forces);
      takes = took_well old mid adds a stays;
      size = f.size ∙ ap (λ n. size_with n (records_of mid).buffered) stays.size ∙ ap (size_with (size_of old)) (a.buffered ∙ sym (ap (λ b. forced_if b (adding (records_of old) adds)) forces));
      is_open = f.is_open;
    }
