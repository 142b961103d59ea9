use Rattle.std.proofs.Common.{◌≡◌, ◌∙◌, ◌+◌, sym, ap, subst, length, List, Result, Err}
use Rattle.ic_base.specs.declared.record.Record.{Record}
use Rattle.ic_disk.proofs.Disks.{makes_named}
use Rattle.ic_gate.specs.declared.refusals.StepRefused.{StepRefused}
use Rattle.ic_gate.specs.declared.refusals.StepRefused.TheVariants.{Failed}
use Rattle.def_step.specs.Pcom.{Gets}
use Rattle.ic_pcom.specs.Stepping.{packet_refusal, FailsToGet}
use Rattle.ic_pcom.specs.declared.step.PacketRefused.{PacketRefused}
use Rattle.ic_pcom.specs.declared.step.PacketRefused.TheVariants as packet
use Rattle.ic_pcom.specs.declared.step.Step.{Step}
use Rattle.ic_pcom.proofs.Steps.{plays_none, gets_fails}
use Rattle.ic_pcom.proofs.Still.{keeps_log, leaves_still}
use Rattle.ic_pcom.proofs.pcom.Pcom.on_packet.Goals as goal

pub returns-in_default-clause-crash : goal.returns-in_default-clause-crash
returns-in_default-clause-crash g c =
    let p = c.args.self.now in
    let law = g.met.D.Disk in
    leaves_still {D = g.row.D.Denot} {d = g.D.Disk} p c.args.program.now (Gets c.args.p.now) c.requires.open law.only_now law.keeping_tells

pub returns-in-Ok-follow-clause-calls : goal.returns-in-Ok-follow-clause-calls
returns-in-Ok-follow-clause-calls g c = makes_named _ (λ h. cc) ((c.in-Ok-follow.ensures {u = tt}).calls c.args.program.now (Gets c.args.p.now) (c.in-Ok.ensures {u = tt}).decided)

pub returns-in-Ok-follow-clause-steps : goal.returns-in-Ok-follow-clause-steps
returns-in-Ok-follow-clause-steps g c =
    let is = plays_none c.args.program.now c.args.self.now (Gets c.args.p.now) c.follow.new.self c.in-Ok-follow.told (sym c.is_replaying.ensures ∙ c.if-is_replaying.false) ((c.in-Ok-follow.ensures {u = tt}).step c.args.program.now (Gets c.args.p.now) (c.in-Ok.ensures {u = tt}).decided) in
    ap (λ (rest : List Record). c.args.steps.now + length rest) is

pub returns-in-Err-clause-refused : goal.returns-in-Err-clause-refused
returns-in-Err-clause-refused g c =
    let Fails : PacketRefused → Type 0 = λ x. FailsToGet c.args.program.now c.args.self.now c.args.p.now c.follow.new.self x in
    subst Fails (sym c.packet_refusal.ensures) (gets_fails c.args.program.now c.args.self.now c.args.p.now c.follow.new.self c.in-Err.why ((c.in-Err.ensures {u = tt}).refused c.args.program.now (Gets c.args.p.now) (c.in-Ok.ensures {u = tt}).decided))

failed_so : (why : StepRefused) (x : PacketRefused) → x ≡ packet_refusal why → ◌≡◌ {A = Result Step StepRefused} (Err why) (Err Failed) → ◌≡◌ {A = Result Step PacketRefused} (Err x) (Err packet.Failed)
failed_so why x is failed = let same : why ≡ Failed = cc in ap Err (is ∙ ap packet_refusal same)

pub returns-in-Err-clause-calls : goal.returns-in-Err-clause-calls
returns-in-Err-clause-calls g c = makes_named _ (failed_so c.in-Err.why _ c.packet_refusal.ensures) ((c.in-Err.ensures {u = tt}).calls c.args.program.now (Gets c.args.p.now) (c.in-Ok.ensures {u = tt}).decided)

pub returns-in_default-clause-log : goal.returns-in_default-clause-log
returns-in_default-clause-log g c = keeps_log c.args.self.now c.requires.open
