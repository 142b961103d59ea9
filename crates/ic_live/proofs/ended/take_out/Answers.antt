use Rattle.std.proofs.Common.{◌∙◌, ◌++◌, ◌∷◌, [], ap, rules, arith, length-append}
use Rattle.ic_live.specs.Berthed.{berthed}
use Rattle.ic_live.specs.Berths.{BerthHolds}
use Rattle.ic_live.proofs.Endings.{ended-none, ended-next}
use Rattle.ic_live.proofs.ended.take_out.Goals as goal

pub loop-lock-init : goal.loop-lock-init
loop-lock-init g c = (
  ended-none (BerthHolds g.X.Held.node g.X.Held.which g.X.Held.file g.X.Held.tells g.X.Held.is_over g.X.Held.has_disk g.X.Held.faults g.X.Held.fails g.N.Scene.program g.N.Scene.fingerprint g.N.Scene.plan g.N.Scene.lane g.N.Scene.began g.M.Mark.honest g.N.Scene.fingerprint (berthed g.N.Scene.program))
      c.new.result c.new-2.result c.new-3.result c.new-4.result c.new-5.result c.new.ensures c.new-2.ensures c.new-3.ensures c.new-4.ensures c.new-5.ensures,
  (search (rules, arith)),
)

pub loop-lock-preserved : goal.loop-lock-preserved
loop-lock-preserved g c =
    let e = c.loop-lock.ended in
    let n = c.keep.new.ended in
    let k = c.in_ok-keep.ensures in
    let p = c.into_parts.ensures in (
      ended-next (BerthHolds g.X.Held.node g.X.Held.which g.X.Held.file g.X.Held.tells g.X.Held.is_over g.X.Held.has_disk g.X.Held.faults g.X.Held.fails g.N.Scene.program g.N.Scene.fingerprint g.N.Scene.plan g.N.Scene.lane g.N.Scene.began g.M.Mark.honest g.N.Scene.fingerprint (berthed g.N.Scene.program))
          e.components n.components e.progresses n.progresses e.refusals n.refusals e.ins n.ins e.outs n.outs c.into_inner-berth.result c.loop-lock.invariant.0 (search rules) p.holds
          (k.components ∙ ap (λ z. e.components ++ z ∷ []) p.component)
          (k.progresses ∙ ap (λ z. e.progresses ++ z ∷ []) p.progress)
          (k.refusals ∙ ap (λ z. e.refusals ++ z ∷ []) p.refused)
          (k.ins ∙ ap (λ z. e.ins ++ z ∷ []) p.ins)
          (k.outs ∙ ap (λ z. e.outs ++ z ∷ []) p.outs),
      (search (rules, arith, length-append)),
    )
