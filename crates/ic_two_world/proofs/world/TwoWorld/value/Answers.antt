use Rattle.std.proofs.Common.{◌∙◌, ap}
use Rattle.std.specs.Prelude.{slice_get}
use Rattle.ic_two_world.specs.Views.{value_if_up_in}
use Rattle.ic_two_world.proofs.Read.{value-is}
use Rattle.ic_two_world.proofs.world.TwoWorld.value.Goals as goal

pub returns : goal.returns
returns g c =
    c.value_if_up.ensures ∙ ap (λ l. value_if_up_in c.args.key (slice_get l c.from.result)) c.as_slice.ensures.value
    ∙ ap (λ i. value_if_up_in c.args.key (slice_get c.args.self.now.seats.items i)) c.from.ensures ∙ value-is g.D.Disk c.args.self.now c.requires c.args.book c.args.key
