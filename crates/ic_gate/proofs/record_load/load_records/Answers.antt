use Rattle.std.proofs.Common.{◌≡◌, ◌∙◌, ap, sym, subst, true, ℕ, List, Some}
use Rattle.def_log.specs.Log.{Placed}
use Rattle.ic_disk.specs.Disk.{Makes}
use Rattle.ic_disk.proofs.Disks.{makes_named}
use Rattle.ic_gate.specs.Readers.{with_places}
use Rattle.ic_gate.specs.Reading.{load_calls}
use Rattle.ic_gate.specs.RecordLoads.{LoadsRecords}
use Rattle.ic_gate.proofs.LoadedPlaces.{as_many, beside}
use Rattle.ic_gate.proofs.ReadLogs.{stands, loads}
use Rattle.ic_gate.proofs.Headers.{first_starts}
use Rattle.ic_gate.proofs.record_load.load_records.Goals as goal

pub of-records-requires : goal.of-records-requires
of-records-requires g c =
    let e = (c.in-Ok.ensures {u = tt}).step in
    as_many c.in-Ok.read.reader e.placed e.same (e.placed_same ∙ ap (λ (l : List ℕ). with_places (Some l) e.placed) c.new.ensures)

pub over-log-requires-clause-stands : goal.over-log-requires-clause-stands
over-log-requires-clause-stands g c =
    let e = c.in-Ok.ensures {u = tt} in
    let read = c.in-Ok.read in
    stands g.D.Disk c.args.disk c.read_records.new.disk c.args.fingerprint.now c.args.owner read.closed.at read.closed.forced read.directory e.step.placed e.step.reads e.disk g.met.D.Disk.keeping_tells

pub over-log-requires-clause-begun : goal.over-log-requires-clause-begun
over-log-requires-clause-begun g c = first_starts c.in-Ok.read.directory

pub returns-in-Ok-clause-step : goal.returns-in-Ok-clause-step
returns-in-Ok-clause-step g c =
    let e = (c.in-Ok.ensures {u = tt}).step in
    let read = c.in-Ok.read in
    let same : c.of-records.result ≡ e.placed = beside read.reader e.placed e.same (e.placed_same ∙ ap (λ (l : List ℕ). with_places (Some l) e.placed) c.new.ensures) c.of-records.result c.of-records.ensures in
    subst (λ (l : List Placed). LoadsRecords g.D.Disk c.args.disk c.args.fingerprint.now c.args.owner (c.over-log.result, l)) (sym same)
    (loads g.D.Disk c.args.disk c.read_records.new.disk c.args.fingerprint.now c.args.owner read.closed.at read.closed.forced read.directory e.placed e.reads c.over-log.result c.over-log.ensures)

pub returns-in-Ok-clause-calls : goal.returns-in-Ok-clause-calls
returns-in-Ok-clause-calls g c =
    let P : g.row.D.Denot → Type 0 = λ x. Makes g.D.Disk load_calls true ⊥ c.args.disk x in
    subst P (sym c.over-log.ensures.disk_same) (makes_named _ (λ fault. cc) (c.in-Ok.ensures {u = tt}).calls)
