use Rattle.std.proofs.Common.{◌∙◌, ap}
use Rattle.std.specs.Prelude.{slice_get}
use Rattle.ic_two_world.specs.Views.{ruling_if_up_in}
use Rattle.ic_two_world.proofs.Read.{ruling-is}
use Rattle.ic_two_world.proofs.world.TwoWorld.ruling.Goals as goal

pub returns : goal.returns
returns g c = c.ruling_if_up.ensures ∙ ap (λ l. ruling_if_up_in c.args.n (slice_get l 0)) c.as_slice.ensures.value ∙ ruling-is g.D.Disk c.args.self.now c.requires c.args.n
