use Rattle.std.proofs.Common.{ap}
use Rattle.ic_pcom.specs.Views.{component_of, com_of}
use Rattle.ic_turn.proofs.Rules.{resends-counted}
use Rattle.ic_turn.proofs.choosing.would_resend.Goals as goal

pub returns : goal.returns
returns g c = λ program to.
    let d = c.in_ok-told.ensures.step program in
    resends-counted program to (com_of c.args.pcom.now) (component_of c.args.pcom.now) d.result c.in_ok-told.told.puts c.len.result d.step (ap (λ t. t.puts) d.tells) c.len.ensures
