use Rattle.std.proofs.Common.{◌≡◌, ◌∙◌, sym, ap, ◌+◌, ◌-◌, ◌<◌, true, cond, length, arith, Some, None}
use Rattle.std.specs.Prelude.{◌&&◌, slice_get}
use Rattle.std.proofs.lemmas.Bool.{ne_eqb, and_left, and_right}
use Rattle.def_step.specs.World as world
use Rattle.def_step.specs.World.{goes}
use Rattle.ic_network.specs.Lanes.{is_waiting, if_some, IsFirst}
use Rattle.ic_network.specs.Networks.{in_world}
use Rattle.ic_network.proofs.Sorting.{walked, passed, read-packet, waits-number}
use Rattle.ic_network.proofs.network.Network.walk.Goals as goal
use Rattle.ic_network.proofs.network.Network.walk.Goals.{else-does_wait-via-then-does_wait+else-goes, else-does_wait-via-else-does_wait}

pub returns-then-goes : goal.returns-then-goes
returns-then-goes c =
    let packets = c.self.inside.packets.items in
    let waits = c.self.inside.lanes.waits in
    let place = c.loop-place.place in
    let within : place < length packets = omega (arith, c.loop-place-test.true, c.count-place-end.ensures.count, ap (λ v. length v.network.packets) c.self.view_is) in
    let read : slice_get packets place ≡ Some c.index.result.now = read-packet packets place c.index.result.now within c.index.ensures in
    let waiting : is_waiting waits place ≡ true = sym (waits-number waits place) ∙ sym c.does_wait.ensures ∙ c.if-does_wait.true in
    let here : (is_waiting waits place && goes c.args.from c.args.to (slice_get packets place)) ≡ true = ap (λ b. b && goes c.args.from c.args.to (slice_get packets place)) waiting ∙ ap (goes c.args.from c.args.to) read ∙ sym c.goes.ensures ∙ c.if-goes.true in
    let first : IsFirst (λ k. is_waiting waits k && goes c.args.from c.args.to (slice_get packets k)) 0 (length waits) (place + 1) = record {
      some = λ p. (omega arith, omega (arith, within, c.self.invariant.waits_len), let same : place + 1 - 1 ≡ place = omega arith in ap (λ k. is_waiting waits k && goes c.args.from c.args.to (slice_get packets k)) same ∙ here);
      before = λ k a b f. let l = f (omega arith) in c.loop-place.invariant k (omega arith);
    } in
    let some : if_some (place + 1) ≡ Some (place + 1) = ap (λ b. cond b None (Some (place + 1))) (ne_eqb (place + 1) 0 (λ e. omega arith)) in
    sym some ∙ walked packets waits c.args.from c.args.to (place + 1) first ∙ ap (λ v. world.oldest_of (in_world v.network) c.args.from c.args.to) c.self.view_is

pub loop-place-preserved : goal.loop-place-preserved
loop-place-preserved c =
    let packets = c.self.inside.packets.items in
    let waits = c.self.inside.lanes.waits in
    let place = c.loop-place.place in
    let within : place < length packets = omega (arith, c.loop-place-test.true, c.count-place-end.ensures.count, ap (λ v. length v.network.packets) c.self.view_is) in
    passed packets waits c.args.from c.args.to place c.loop-place.invariant (elim c.else-does_wait.branch [
      | else-does_wait-via-then-does_wait+else-goes w ↦ and_right (is_waiting waits place) (goes c.args.from c.args.to (slice_get packets place)) (ap (goes c.args.from c.args.to) (read-packet packets place w.index.result.now within w.index.ensures) ∙ sym w.goes.ensures ∙ w.if-goes.false)
      | else-does_wait-via-else-does_wait w ↦ and_left (is_waiting waits place) (goes c.args.from c.args.to (slice_get packets place)) (sym (waits-number waits place) ∙ sym c.does_wait.ensures ∙ w.if-does_wait.false)
    ])

pub returns : goal.returns
returns c =
    let packets = c.self.inside.packets.items in
    let waits = c.self.inside.lanes.waits in
    let first : IsFirst (λ k. is_waiting waits k && goes c.args.from c.args.to (slice_get packets k)) 0 (length waits) 0 = record {
      some = λ p. absurd (omega arith);
      before = λ k a b f. c.loop-place.invariant k (omega (arith, b, c.self.invariant.waits_len, c.loop-place-test.false, c.count-place-end.ensures.count, ap (λ v. length v.network.packets) c.self.view_is, c.loop-place.auto.place-end));
    } in
    walked packets waits c.args.from c.args.to 0 first ∙ ap (λ v. world.oldest_of (in_world v.network) c.args.from c.args.to) c.self.view_is
