use Rattle.std.proofs.Common.{◌∙◌, ap, sym, subst, true}
use Rattle.def_log.specs.Changes.{is_start}
use Rattle.ic_disk.specs.Disk.{Makes}
use Rattle.ic_disk.proofs.Disks.{makes_named}
use Rattle.ic_gate.specs.Reading.{tail_calls}
use Rattle.ic_gate.proofs.Headers.{tail_starts}
use Rattle.ic_gate.proofs.TailLoads.{tail_stands, tail_loads}
use Rattle.ic_gate.proofs.tail_load.load_tail_records.Goals as goal

pub over-requires-clause-stands : goal.over-requires-clause-stands
over-requires-clause-stands g c =
    let e = c.in-Ok.ensures {u = tt} in
    let read = c.in-Ok.read in
    tail_stands g.D.Disk c.args.disk c.read_tail_records.new.disk c.args.fingerprint.now c.args.owner read.start read.closed.at read.closed.forced read.directory read.records e.step e.disk g.met.D.Disk.keeping_tells

pub over-requires-clause-begun : goal.over-requires-clause-begun
over-requires-clause-begun g c = ap (λ n. is_start n c.in-Ok.read.directory) (c.in-Ok.ensures {u = tt}).begun ∙ tail_starts c.in-Ok.read.directory

pub returns-in-Ok-clause-step : goal.returns-in-Ok-clause-step
returns-in-Ok-clause-step g c =
    let e = c.in-Ok.ensures {u = tt} in
    let read = c.in-Ok.read in
    tail_loads g.D.Disk c.args.disk c.read_tail_records.new.disk c.args.fingerprint.now c.args.owner read.start read.closed.at read.closed.forced read.directory read.records e.step c.over.result c.over.ensures

pub returns-in-Ok-clause-calls : goal.returns-in-Ok-clause-calls
returns-in-Ok-clause-calls g c =
    let P : g.row.D.Denot → Type 0 = λ x. Makes g.D.Disk tail_calls true ⊥ c.args.disk x in
    subst P (sym c.over.ensures.disk_same) (makes_named _ (λ fault. cc) (c.in-Ok.ensures {u = tt}).calls)
