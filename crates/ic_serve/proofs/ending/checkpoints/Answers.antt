use Rattle.std.proofs.Common.{ap, sym, subst, arith, true, false, List}
use Rattle.std.proofs.lemmas.List.{append-nil}
use Rattle.std.specs.List.{AllByRecursion}
use Rattle.ic_base.specs.Programs.{is_pcom}
use Rattle.ic_base.specs.declared.events.Event.{Event}
use Rattle.ic_run.specs.Agendas.{MayCome}
use Rattle.ic_serve.proofs.Checkpoints.{checkpoint-at, all-more, one-checkpoint, all-checkpoints, not-pcom}
use Rattle.ic_serve.proofs.ending.checkpoints.Goals as goal
use Rattle.ic_serve.proofs.ending.checkpoints.Goals.{in-Pcom+in_ok-push, in_default}

pub loop-i-init : goal.loop-i-init
loop-i-init c = (subst (λ l. AllByRecursion (MayCome c.args.program.now) l) (sym c.in_ok-events.ensures.items) tt, c.in_ok-events.ensures.items)

pub loop-i-preserved : goal.loop-i-preserved
loop-i-preserved c =
    let P : List Event → Type 0 = λ l. AllByRecursion (MayCome c.args.program.now) l in
    elim c.match-components-i.branch [
      | in-Pcom+in_ok-push w ↦
          rw w.events-is (
            subst P (sym w.in_ok-push.ensures.items)
                (all-more (MayCome c.args.program.now) c.loop-i.events.items _ c.loop-i.invariant.0 (checkpoint-at c.args.program.now c.as_slice-components.result.now c.as_slice-components.ensures c.loop-i.i _ c.loop-i-test.true w.in-Pcom.is)),
            one-checkpoint c.as_slice-components.result.now c.args.program.now.components c.as_slice-components.ensures c.loop-i.i _ c.loop-i.events.items w.push.new.self.items c.loop-i-test.true c.loop-i.invariant.1 true (ap is_pcom w.in-Pcom.is) w.in_ok-push.ensures.items,
          )
      | in_default w ↦ rw w.events-is (c.loop-i.invariant.0, one-checkpoint c.as_slice-components.result.now c.args.program.now.components c.as_slice-components.ensures c.loop-i.i _ c.loop-i.events.items c.loop-i.events.items c.loop-i-test.true c.loop-i.invariant.1 false (not-pcom _ w.in_default.not-Pcom) (sym (append-nil c.loop-i.events.items)))
    ]

pub returns : goal.returns
returns c = record { events = all-checkpoints c.args.program.now c.as_slice-components.result.now c.as_slice-components.ensures c.loop-i.i c.loop-i.events.items (omega (arith, c.loop-i-test.false)) c.loop-i.invariant.1; may = c.loop-i.invariant.0 }
