use Rattle.std.proofs.Common.{◌∙◌, sym, ap, Some}
use Rattle.ic_disk.specs.Armings.{set_by}
use Rattle.ic_node.specs.Nodes.{disk_in}
use Rattle.ic_node.specs.Steps.{with_script}
use Rattle.ic_node.proofs.Steps.{per_same, tra_same, off_same, node_same}
use Rattle.ic_node.proofs.node.Node+TornDisk+D.arm.Goals as goal

pub returns-in-Per-clause-disk : goal.returns-in-Per-clause-disk
returns-in-Per-clause-disk g c =
    ap Some c.arm.ensures.disk ∙ ap (λ n. with_script (Some (set_by c.args.stop)) (disk_in n)) (sym c.in-Per.is)

pub returns-in-Per-clause-same : goal.returns-in-Per-clause-same
returns-in-Per-clause-same g c =
    per_same c.args.self.now c.in-Per.pcom c.arm.new.self c.in-Per.is c.arm.ensures.same

pub returns-in-Tra-clause-disk : goal.returns-in-Tra-clause-disk
returns-in-Tra-clause-disk g c =
    ap Some c.arm-in-Tra.ensures.disk ∙ ap (λ n. with_script (Some (set_by c.args.stop)) (disk_in n)) (sym c.in-Tra.is)

pub returns-in-Tra-clause-same : goal.returns-in-Tra-clause-same
returns-in-Tra-clause-same g c =
    tra_same c.args.self.now c.in-Tra.tcom c.arm-in-Tra.new.self c.in-Tra.is c.arm-in-Tra.ensures.same

pub returns-in-Off-clause-disk : goal.returns-in-Off-clause-disk
returns-in-Off-clause-disk g c =
    ap Some c.arm-in-Off.ensures ∙ ap (λ n. with_script (Some (set_by c.args.stop)) (disk_in n)) (sym c.in-Off.is)

pub returns-in-Off-clause-same : goal.returns-in-Off-clause-same
returns-in-Off-clause-same g c =
    off_same c.args.self.now c.in-Off.disk c.arm-in-Off.new.self c.in-Off.is

pub returns-in-Ext-clause-disk : goal.returns-in-Ext-clause-disk
returns-in-Ext-clause-disk g c =
    ap disk_in c.in-Ext.is ∙ ap (λ n. with_script (Some (set_by c.args.stop)) (disk_in n)) (sym c.in-Ext.is)

pub returns-in-Ext-clause-same : goal.returns-in-Ext-clause-same
returns-in-Ext-clause-same g c =
    node_same c.args.self.now
