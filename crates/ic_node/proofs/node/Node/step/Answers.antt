use Rattle.std.proofs.Common.{◌∙◌, sym, ap, subst, []}
use Rattle.std.proofs.lemmas.Bool.{not-true}
use Rattle.ic_pcom.specs.Views as pcoms
use Rattle.ic_tcom.specs.Views as tcoms
use Rattle.ic_node.specs.Calling.{call_of}
use Rattle.ic_node.specs.Nodes.{node_with, disk_in}
use Rattle.ic_node.specs.Sittings.{AreWritable}
use Rattle.ic_node.specs.Standing.{com_in}
use Rattle.ic_node.specs.Steps.{idle_answer, is_live, HoldsForced, StepsOn, Counts}
use Rattle.ic_node.specs.declared.node.Node.TheVariants.{Per, Tra}
use Rattle.ic_node.proofs.Earlier.{counts_over}
use Rattle.ic_node.proofs.Steps.{serves_gets, live_kind, pcom_stays, tcom_stays, tra_counts}
use Rattle.ic_node.proofs.node.Node.step.Goals as goal

pub pcom_step-requires-clause-open : goal.pcom_step-requires-clause-open
pcom_step-requires-clause-open g c =
    not-true (pcoms.is_closed c.in-Per.pcom) (ap is_live (sym c.in-Per.is) ∙ c.requires.live)

pub tcom_step-requires-clause-open : goal.tcom_step-requires-clause-open
tcom_step-requires-clause-open g c =
    not-true (tcoms.is_closed c.in-Tra.tcom) (ap is_live (sym c.in-Tra.is) ∙ c.requires.live)

pub tcom_step-requires-clause-fit : goal.tcom_step-requires-clause-fit
tcom_step-requires-clause-fit g c =
    subst (λ n. ∥ AreWritable n ∥₁) c.in-Tra.is c.requires.fit

pub unreachable-requires : goal.unreachable-requires
unreachable-requires g c =
    serves_gets (tcoms.component_of c.in-Tra.tcom) c.args.number c.args.call.now (ap (λ n. idle_answer (node_with [] n) c.args.number (call_of c.args.call.now)) (sym c.in-Tra.is) ∙ c.requires.busy []) c.in_default-call.not-Gets

pub unreachable-unreachable : goal.unreachable-unreachable
unreachable-unreachable g c =
    c.unreachable.result

pub unreachable-requires-in_default : goal.unreachable-requires-in_default
unreachable-requires-in_default g c =
    live_kind c.args.self.now c.requires.live c.in_default.not-Per c.in_default.not-Tra

pub unreachable-unreachable-in_default : goal.unreachable-unreachable-in_default
unreachable-unreachable-in_default g c =
    c.unreachable-in_default.result

pub returns-in-Per-clause-step : goal.returns-in-Per-clause-step
returns-in-Per-clause-step g c =
    λ who kept stands. subst (λ n. StepsOn g.D.Disk c.args.program.now (com_in who n) (node_with kept n) (disk_in n) c.args.number (call_of c.args.call.now) (node_with kept (Per c.pcom_step.new.pcom)) (disk_in (Per c.pcom_step.new.pcom)) c.pcom_step.result) (sym c.in-Per.is)
    (c.pcom_step.ensures.step kept (subst (λ n. HoldsForced g.D.Disk (node_with kept n) (disk_in n)) c.in-Per.is stands))

pub returns-in-Per-clause-live : goal.returns-in-Per-clause-live
returns-in-Per-clause-live g c =
    pcom_stays c.args.self.now c.in-Per.pcom c.pcom_step.new.pcom c.pcom_step.result c.in-Per.is c.pcom_step.ensures.up

pub returns-in-Per-clause-steps : goal.returns-in-Per-clause-steps
returns-in-Per-clause-steps g c =
    λ kept. subst (λ n. Counts c.args.steps.now c.pcom_step.new.steps (node_with kept n) (node_with kept (Per c.pcom_step.new.pcom)) c.pcom_step.result) (sym c.in-Per.is)
    (counts_over c.args.steps.now c.pcom_step.new.steps kept (pcoms.component_of c.in-Per.pcom) (pcoms.component_of c.pcom_step.new.pcom) c.pcom_step.result c.pcom_step.ensures.steps)

pub returns-in-Gets-clause-step : goal.returns-in-Gets-clause-step
returns-in-Gets-clause-step g c =
    λ who kept stands. subst (λ n. StepsOn g.D.Disk c.args.program.now (com_in who n) (node_with kept n) (disk_in n) c.args.number (call_of c.args.call.now) (node_with kept (Tra c.tcom_step.new.tcom)) (disk_in (Tra c.tcom_step.new.tcom)) c.tcom_step.result) (sym c.in-Tra.is)
    (subst (λ k. StepsOn g.D.Disk c.args.program.now (com_in who (Tra c.in-Tra.tcom)) (node_with kept (Tra c.in-Tra.tcom)) (disk_in (Tra c.in-Tra.tcom)) c.args.number (call_of k) (node_with kept (Tra c.tcom_step.new.tcom)) (disk_in (Tra c.tcom_step.new.tcom)) c.tcom_step.result) (sym c.in-Gets.is) c.tcom_step.ensures.step)

pub returns-in-Gets-clause-live : goal.returns-in-Gets-clause-live
returns-in-Gets-clause-live g c =
    tcom_stays c.args.self.now c.in-Tra.tcom c.tcom_step.new.tcom c.tcom_step.result c.in-Tra.is c.tcom_step.ensures.up

pub returns-in-Gets-clause-steps : goal.returns-in-Gets-clause-steps
returns-in-Gets-clause-steps g c =
    λ kept. tra_counts c.args.steps.now (node_with kept c.args.self.now) (tcoms.component_of c.tcom_step.new.tcom) c.tcom_step.result
