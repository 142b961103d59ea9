use Rattle.std.proofs.Common.{◌∙◌, sym, ap, Some, None}
use Rattle.ic_node.specs.Nodes.{disk_in}
use Rattle.ic_node.specs.Steps.{with_script, reached_on}
use Rattle.ic_node.proofs.Steps.{per_same, tra_same, off_same, node_same}
use Rattle.ic_node.proofs.node.Node+TornDisk+D.disarm.Goals as goal

pub returns-in-Per-clause-disk : goal.returns-in-Per-clause-disk
returns-in-Per-clause-disk g c =
    ap Some c.disarm.ensures.disk ∙ ap (λ n. with_script None (disk_in n)) (sym c.in-Per.is)

pub returns-in-Per-clause-same : goal.returns-in-Per-clause-same
returns-in-Per-clause-same g c =
    per_same c.args.self.now c.in-Per.pcom c.disarm.new.self c.in-Per.is c.disarm.ensures.same

pub returns-in-Per-clause-reached : goal.returns-in-Per-clause-reached
returns-in-Per-clause-reached g c =
    c.disarm.ensures.reached ∙ ap (λ n. reached_on (disk_in n)) (sym c.in-Per.is)

pub returns-in-Tra-clause-disk : goal.returns-in-Tra-clause-disk
returns-in-Tra-clause-disk g c =
    ap Some c.disarm-in-Tra.ensures.disk ∙ ap (λ n. with_script None (disk_in n)) (sym c.in-Tra.is)

pub returns-in-Tra-clause-same : goal.returns-in-Tra-clause-same
returns-in-Tra-clause-same g c =
    tra_same c.args.self.now c.in-Tra.tcom c.disarm-in-Tra.new.self c.in-Tra.is c.disarm-in-Tra.ensures.same

pub returns-in-Tra-clause-reached : goal.returns-in-Tra-clause-reached
returns-in-Tra-clause-reached g c =
    c.disarm-in-Tra.ensures.reached ∙ ap (λ n. reached_on (disk_in n)) (sym c.in-Tra.is)

pub returns-in-Off-clause-disk : goal.returns-in-Off-clause-disk
returns-in-Off-clause-disk g c =
    ap Some c.disarm-in-Off.ensures.after ∙ ap (λ n. with_script None (disk_in n)) (sym c.in-Off.is)

pub returns-in-Off-clause-same : goal.returns-in-Off-clause-same
returns-in-Off-clause-same g c =
    off_same c.args.self.now c.in-Off.disk c.disarm-in-Off.new.self c.in-Off.is

pub returns-in-Off-clause-reached : goal.returns-in-Off-clause-reached
returns-in-Off-clause-reached g c =
    c.disarm-in-Off.ensures.reached ∙ ap (λ n. reached_on (disk_in n)) (sym c.in-Off.is)

pub returns-in-Ext-clause-disk : goal.returns-in-Ext-clause-disk
returns-in-Ext-clause-disk g c =
    ap disk_in c.in-Ext.is ∙ ap (λ n. with_script None (disk_in n)) (sym c.in-Ext.is)

pub returns-in-Ext-clause-same : goal.returns-in-Ext-clause-same
returns-in-Ext-clause-same g c =
    node_same c.args.self.now

pub returns-in-Ext-clause-reached : goal.returns-in-Ext-clause-reached
returns-in-Ext-clause-reached g c =
    ap (λ n. reached_on (disk_in n)) (sym c.in-Ext.is)
