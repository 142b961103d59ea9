use Rattle.std.proofs.Common.{◌∙◌, ap, List}
use Rattle.std.specs.Prelude.{slice_get, option_and_then}
use Rattle.def_two.specs.declared.moves.Packet2.{Packet2}
use Rattle.def_two.specs.World.{nth, first_number}
use Rattle.ic_moves.specs.Networks.{Network}
use Rattle.ic_moves.proofs.Waiting.{oldest_now}
use Rattle.ic_moves.proofs.network.Network2.oldest.Goals as goal

pub returns : goal.returns
returns c =
    c.packet_in.ensures
    ∙ ap (λ (ps : List Packet2). slice_get ps c.first_waiting-at.result) c.as_slice-2.ensures.value
    ∙ oldest_now c.self.inside.packets.items c.self.inside.waits.items c.as_slice.result.now c.self.inside.passed.items c.self.inside.first c.first_waiting-at.result c.self.invariant c.as_slice.ensures.value
    c.first_waiting-at.ensures.passed c.first_waiting-at.ensures.here c.first_waiting-at.ensures.within
    ∙ ap (λ (v : Network). option_and_then (nth v.packets) (first_number v.waiting)) c.self.view_is
