use Rattle.ic_settle.specs.Policies.{intervals_of}
use Rattle.ic_serve.specs.declared.telling.Form.TheVariants.{Following}
use Rattle.ic_serve.proofs.Settled.{gathered-settles}
use Rattle.ic_serve.proofs.stretch.settle.Goals as goal

pub gather-requires-clause-ready : goal.gather-requires-clause-ready
gather-requires-clause-ready g c = record { events = c.requires.events; last = tt }

pub returns-in-Ok-clause-world : goal.returns-in-Ok-clause-world
returns-in-Ok-clause-world g c =
    gathered-settles c.args.texts.now.program (intervals_of c.args.texts.now.policy) c.args.texts.now.policy.report Following c.args.events.now c.args.service.now c.gather.new.service c.args.world.now c.gather.new.world c.requires.events c.requires.world.few c.in-Ok.ensures.done

pub returns-in-Err-clause-cut : goal.returns-in-Err-clause-cut
returns-in-Err-clause-cut g c = (c.in-Err.cut, c.why_of_cut.ensures, c.requires.events, c.in-Err.ensures.cut)
