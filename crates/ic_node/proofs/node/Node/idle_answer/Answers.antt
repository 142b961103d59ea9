use Rattle.std.proofs.Common.{◌∙◌, sym, ap, Some}
use Rattle.ic_tcom.specs.Views as tcoms
use Rattle.ic_node.specs.Calling.{call_of}
use Rattle.ic_node.specs.Nodes.{node_with}
use Rattle.ic_node.specs.Steps.{idle_answer}
use Rattle.def_step.specs.World.{Serves}
use Rattle.ic_node.proofs.Steps.{serves_idle}
use Rattle.ic_node.proofs.node.Node.idle_answer.Goals as goal

pub returns-in-Per : goal.returns-in-Per
returns-in-Per g c =
    λ kept. ap (λ n. idle_answer (node_with kept n) c.args.number (call_of c.args.call.now)) (sym c.in-Per.is)

pub returns-in-Gets : goal.returns-in-Gets
returns-in-Gets g c =
    λ kept. ap (λ k. idle_answer (Serves (tcoms.component_of c.in-Tra.field-0)) c.args.number (call_of k)) (sym c.in-Gets.is) ∙ ap (λ n. idle_answer (node_with kept n) c.args.number (call_of c.args.call.now)) (sym c.in-Tra.is)

pub returns-in_default : goal.returns-in_default
returns-in_default g c =
    λ kept. serves_idle (tcoms.component_of c.in-Tra.field-0) c.args.number c.args.call.now c.in_default.not-Gets ∙ ap (λ n. idle_answer (node_with kept n) c.args.number (call_of c.args.call.now)) (sym c.in-Tra.is)

pub returns-in-Off : goal.returns-in-Off
returns-in-Off g c =
    λ kept. ap Some c.answer_down.ensures ∙ ap (λ n. idle_answer (node_with kept n) c.args.number (call_of c.args.call.now)) (sym c.in-Off.is)

pub returns-in-Ext : goal.returns-in-Ext
returns-in-Ext g c =
    λ kept. ap (λ n. idle_answer (node_with kept n) c.args.number (call_of c.args.call.now)) (sym c.in-Ext.is)
