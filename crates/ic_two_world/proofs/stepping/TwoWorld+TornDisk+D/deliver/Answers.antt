use Rattle.std.proofs.Common.{◌≤◌, sym, subst, length}
use Rattle.ic_base.specs.declared.limits.TheConstants.{PACKETS}
use Rattle.ic_moves.specs.Networks.{Network}
use Rattle.ic_two_world.proofs.stepping.TwoWorld+TornDisk+D.deliver.Goals as goal

pub act-requires-clause-stand : goal.act-requires-clause-stand
act-requires-clause-stand g c = λ k x e. (c.requires.going.seated k x e).stands

pub act-requires-clause-stop : goal.act-requires-clause-stop
act-requires-clause-stop g c = c.requires.stop

pub act-requires-clause-few : goal.act-requires-clause-few
act-requires-clause-few g c =
    let P : Network → Type 0 = λ k. length k.packets ≤ PACKETS in
    subst P (sym c.take_off.ensures) c.requires.going.few
