use Rattle.def_step.specs.Tcom.{tcom_step}
use Rattle.ic_tcom.specs.EngineState.{over}
use Rattle.ic_tcom.proofs.Decisions.{held_on}
use Rattle.ic_tcom.proofs.Fullness.{if_exact}
use Rattle.ic_tcom.proofs.engine.Engine.serve.Goals as goal

pub returns-clause-full : goal.returns-clause-full
returns-clause-full c = if_exact (λ log. tcom_step c.args.program.now c.args.t (over log c.args.self.now.held) c.args.p.now) c.args.self.now.held c.on_packet.new.self.held c.on_packet.ensures.limits c.on_packet.result c.on_packet.ensures.step

pub returns-clause-keeps : goal.returns-clause-keeps
returns-clause-keeps c = λ log h. held_on log c.args.self.now.held c.on_packet.new.self.held c.on_packet.ensures.on h
