use Rattle.std.proofs.Common.{◌≡◌, ◌∙◌, sym, ap, ℕ, ◌+◌, true, false, List, length, arith}
use Rattle.ic_network.specs.Lanes.{numbers_from, waits_as, without_wait}
use Rattle.ic_network.specs.Networks.{Network, without_wait_in}
use Rattle.ic_network.proofs.Counting.{fewer-wait, as-many-wait}
use Rattle.ic_network.proofs.Listing.{listed-off}
use Rattle.ic_network.proofs.Sorting.{sorted-off}
use Rattle.ic_network.proofs.network.Network.take_off.Goals as goal

pub overflow_sub-self : goal.overflow_sub-self
overflow_sub-self c = omega (arith, c.self.invariant.counted, fewer-wait c.args.number c.self.inside.lanes.waits (sym c.take_off.ensures.waited ∙ c.if-take_off.true))

pub invariant_of-self : goal.invariant_of-self
invariant_of-self c =
    let less = fewer-wait c.args.number c.self.inside.lanes.waits (sym c.take_off.ensures.waited ∙ c.if-take_off.true) in
    sorted-off c.args.number _ _ _ _ _ _ _ c.self.invariant c.take_off.ensures.lanes c.take_off.ensures.waits (omega (arith, c.self.invariant.counted, less))

pub returns-then-take_off-clause-off : goal.returns-then-take_off-clause-off
returns-then-take_off-clause-off c =
    let P : List ℕ → Network = λ ws. record { packets = c.self.inside.packets.items; waiting = ws } in
    ap P (ap (numbers_from 1) c.take_off.ensures.waits ∙ listed-off c.args.number c.self.inside.lanes.waits)
    ∙ ap (λ v. without_wait_in v.network c.args.number) c.self.view_is

pub returns-else-take_off-clause-off : goal.returns-else-take_off-clause-off
returns-else-take_off-clause-off c =
    let P : List ℕ → Network = λ ws. record { packets = c.self.inside.packets.items; waiting = ws } in
    ap P (ap (numbers_from 1) c.take_off.ensures.waits ∙ listed-off c.args.number c.self.inside.lanes.waits)
    ∙ ap (λ v. without_wait_in v.network c.args.number) c.self.view_is
