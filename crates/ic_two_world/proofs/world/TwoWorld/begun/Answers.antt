use Rattle.std.proofs.Common.{◌∙◌, ap}
use Rattle.std.specs.Prelude.{slice_get, unwrap_or}
use Rattle.ic_two_world.specs.Views.{begun_if_up_in}
use Rattle.ic_two_world.proofs.Read.{begun-is}
use Rattle.ic_two_world.proofs.world.TwoWorld.begun.Goals as goal

pub returns : goal.returns
returns g c = c.unwrap_or.ensures ∙ ap (λ o. unwrap_or o 0) (c.begun_if_up.ensures ∙ ap (λ l. begun_if_up_in (slice_get l 0)) c.as_slice.ensures.value) ∙ begun-is g.D.Disk c.args.self.now c.requires
