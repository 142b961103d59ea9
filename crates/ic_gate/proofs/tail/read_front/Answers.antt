use Rattle.std.proofs.Common.{◌∷◌, [], ◌∙◌, ap, List, ℕ, length, take, drop, arith}
use Rattle.std.proofs.lemmas.Result.{err_from_is_err_and}
use Rattle.ic_disk.specs.Disk.{Keeps, Makes}
use Rattle.ic_disk.specs.Stops.{Reads}
use Rattle.ic_disk.proofs.Disks.{Keeps-trans, makes_one, makes_at_most, makes_then, makes_part, makes_named, makes_refused}
use Rattle.ic_gate.proofs.Fronts.{front_read}
use Rattle.ic_gate.proofs.Naming.{fails_load}
use Rattle.ic_gate.proofs.tail.read_front.Goals as goal

pub returns-in_err-length-clause-calls : goal.returns-in_err-length-clause-calls
returns-in_err-length-clause-calls g c =
    let p = err_from_is_err_and c.from_residual-in_err-length.result c.from_residual-in_err-length.ensures.1 in
    let s = c.in_ok-sync.ensures {u = tt} in
    let l = c.in_err-length.ensures {u = tt} in
    let kept : Keeps g.D.Disk c.args.disk.now c.sync.new.self = record { tells = s.tells; keeps = s.keeps; later = s.cause.later } in
    rw (p.1, p.2) (makes_named _ (fails_load c.in_err-length.field-0.0) (makes_part (Reads ∷ []) (makes_then kept (makes_one s.calls s.stop) (makes_one l.calls l.stop))))

pub returns-then-length-gt-LOG_BYTES-clause-calls : goal.returns-then-length-gt-LOG_BYTES-clause-calls
returns-then-length-gt-LOG_BYTES-clause-calls g c =
    let s = c.in_ok-sync.ensures {u = tt} in
    let l = c.in_ok-length.ensures {u = tt} in
    let kept : Keeps g.D.Disk c.args.disk.now c.sync.new.self = record { tells = s.tells; keeps = s.keeps; later = s.cause.later } in
    makes_part (Reads ∷ []) (makes_refused _ (makes_then kept (makes_one s.calls s.stop) (makes_one l.calls l.stop)))

pub returns-in_err-front-clause-calls : goal.returns-in_err-front-clause-calls
returns-in_err-front-clause-calls g c =
    let p = err_from_is_err_and c.from_residual-in_err-front.result c.from_residual-in_err-front.ensures.1 in
    let s = c.in_ok-sync.ensures {u = tt} in
    let l = c.in_ok-length.ensures {u = tt} in
    let r = c.in_err-front.ensures {u = tt} in
    let kept : Keeps g.D.Disk c.args.disk.now c.sync.new.self = record { tells = s.tells; keeps = s.keeps; later = s.cause.later } in
    let keeps : Keeps g.D.Disk c.sync.new.self c.length.new.self = record { tells = l.tells; keeps = l.keeps; later = l.cause.later } in
    let read : Makes g.D.Disk (Reads ∷ []) _ _ c.length.new.self c.read_at.new.self = makes_at_most r.at_most r.stop in
    rw (p.1, p.2) (makes_named _ (fails_load c.in_err-front.field-0.0) (makes_then (Keeps-trans kept keeps) (makes_then kept (makes_one s.calls s.stop) (makes_one l.calls l.stop)) read))

pub returns-clause-calls : goal.returns-clause-calls
returns-clause-calls g c =
    let s = c.in_ok-sync.ensures {u = tt} in
    let l = c.in_ok-length.ensures {u = tt} in
    let r = c.in_ok-front.ensures {u = tt} in
    let kept : Keeps g.D.Disk c.args.disk.now c.sync.new.self = record { tells = s.tells; keeps = s.keeps; later = s.cause.later } in
    let keeps : Keeps g.D.Disk c.sync.new.self c.length.new.self = record { tells = l.tells; keeps = l.keeps; later = l.cause.later } in
    makes_named _ (λ fault. cc) (makes_then (Keeps-trans kept keeps) (makes_then kept (makes_one s.calls s.stop) (makes_one l.calls l.stop)) (makes_one r.calls r.stop))

pub returns-clause-bytes : goal.returns-clause-bytes
returns-clause-bytes g c t =
    let s = c.in_ok-sync.ensures {u = tt} in
    let l = c.in_ok-length.ensures {u = tt} in
    let r = c.in_ok-front.ensures {u = tt} in
    let told = s.tells.0 t in
    let same = l.seen told ∙ s.seen t in
    r.bytes (l.tells.0 told) ∙ ap (λ (f : List ℕ). take c.min.result (drop 0 f)) same ∙ front_read (g.D.Disk.seen c.args.disk.now) c.min.result (omega (arith, c.min.ensures, l.value told, ap length (s.seen t)))
