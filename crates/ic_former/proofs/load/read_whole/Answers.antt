use Rattle.std.proofs.Common.{◌∷◌, []}
use Rattle.std.proofs.lemmas.Result.{err_from_is_err_and}
use Rattle.ic_disk.specs.Disk.{Keeps, Makes}
use Rattle.ic_disk.specs.Stops.{Reads}
use Rattle.ic_disk.proofs.Disks.{Keeps-trans, makes_one, makes_at_most, makes_then, makes_part, makes_named, makes_refused}
use Rattle.ic_former.proofs.Naming.{fails_load}
use Rattle.ic_former.proofs.load.read_whole.Goals as goal

pub returns-in_err-length-clause-calls : goal.returns-in_err-length-clause-calls
returns-in_err-length-clause-calls g c =
    let p = err_from_is_err_and c.from_residual-in_err-length.result c.from_residual-in_err-length.ensures.1 in
    let s = c.in_ok-sync.ensures {u = tt} in
    let l = c.in_err-length.ensures {u = tt} in
    let kept : Keeps g.D.Disk c.args.disk.now c.sync.new.self = record { tells = s.tells; keeps = s.keeps; later = s.cause.later } in
    rw (p.1, p.2) (makes_named _ (fails_load c.in_err-length.field-0.0) (makes_part (Reads ∷ []) (makes_then kept (makes_one s.calls s.stop) (makes_one l.calls l.stop))))

pub returns-then-length-gt-FORMER_LOG_BYTES-clause-calls : goal.returns-then-length-gt-FORMER_LOG_BYTES-clause-calls
returns-then-length-gt-FORMER_LOG_BYTES-clause-calls g c =
    let s = c.in_ok-sync.ensures {u = tt} in
    let l = c.in_ok-length.ensures {u = tt} in
    let kept : Keeps g.D.Disk c.args.disk.now c.sync.new.self = record { tells = s.tells; keeps = s.keeps; later = s.cause.later } in
    makes_part (Reads ∷ []) (makes_refused _ (makes_then kept (makes_one s.calls s.stop) (makes_one l.calls l.stop)))

pub returns-in_err-read_at-clause-calls : goal.returns-in_err-read_at-clause-calls
returns-in_err-read_at-clause-calls g c =
    let p = err_from_is_err_and c.from_residual-in_err-read_at.result c.from_residual-in_err-read_at.ensures.1 in
    let s = c.in_ok-sync.ensures {u = tt} in
    let l = c.in_ok-length.ensures {u = tt} in
    let r = c.in_err-read_at.ensures {u = tt} in
    let kept : Keeps g.D.Disk c.args.disk.now c.sync.new.self = record { tells = s.tells; keeps = s.keeps; later = s.cause.later } in
    let keeps : Keeps g.D.Disk c.sync.new.self c.length.new.self = record { tells = l.tells; keeps = l.keeps; later = l.cause.later } in
    let read : Makes g.D.Disk (Reads ∷ []) _ _ c.length.new.self c.read_at.new.self = makes_at_most r.at_most r.stop in
    rw (p.1, p.2) (makes_named _ (fails_load c.in_err-read_at.field-0.0) (makes_then (Keeps-trans kept keeps) (makes_then kept (makes_one s.calls s.stop) (makes_one l.calls l.stop)) read))

pub returns-clause-calls : goal.returns-clause-calls
returns-clause-calls g c =
    let s = c.in_ok-sync.ensures {u = tt} in
    let l = c.in_ok-length.ensures {u = tt} in
    let r = c.in_ok-read_at.ensures {u = tt} in
    let kept : Keeps g.D.Disk c.args.disk.now c.sync.new.self = record { tells = s.tells; keeps = s.keeps; later = s.cause.later } in
    let keeps : Keeps g.D.Disk c.sync.new.self c.length.new.self = record { tells = l.tells; keeps = l.keeps; later = l.cause.later } in
    makes_named _ (λ fault. cc) (makes_then (Keeps-trans kept keeps) (makes_then kept (makes_one s.calls s.stop) (makes_one l.calls l.stop)) (makes_one r.calls r.stop))
