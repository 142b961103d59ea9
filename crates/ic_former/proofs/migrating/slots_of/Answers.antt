use Rattle.std.proofs.Common.{◌≡◌, ◌∙◌, ap, sym, refl, ℕ, ◌+◌, ◌<◌, List, length, get_or, drop, arith}
use Rattle.ic_base.specs.declared.record.Batch.{Batch}
use Rattle.def_former.specs.Migrated.{payloads_of}
use Rattle.def_former.proofs.Records.{ends_anywhere}
use Rattle.ic_former.proofs.Building.{span-next, span-take, payloads-drop, slots_with, one_step, ends_here, few_still}
use Rattle.ic_former.proofs.migrating.slots_of.Goals as goal

pub loop-i-init : goal.loop-i-init
loop-i-init c = record {
  all = sym (ap (λ l. slots_with l 9257 (payloads_of c.args.log.now.batches)) c.new-slots.ensures.items);
  place = refl;
  few = omega (arith, ap length c.new-slots.ensures.items);
}

pub overflow_add-gate : goal.overflow_add-gate
overflow_add-gate c =
    let bs = c.args.log.now.batches in
    let i = c.loop-i.i in
    let other = c.index-batches-i.result in
    let lt : i < length bs = omega (arith, c.loop-i-test.true, ap length c.as_slice-batches.ensures) in
    let len : c.len.result ≡ length (get_or bs i other).payload = c.len.ensures ∙ ap (λ (l : List Batch). length (get_or l i other).payload) c.as_slice-batches.ensures in
    omega (arith, len, span-next bs i other lt, span-take bs (i + 1), c.args.log.now.small)

pub overflow_add-gate-in-loop-i : goal.overflow_add-gate-in-loop-i
overflow_add-gate-in-loop-i c =
    let bs = c.args.log.now.batches in
    let i = c.loop-i.i in
    let other = c.index-batches-i.result in
    let lt : i < length bs = omega (arith, c.loop-i-test.true, ap length c.as_slice-batches.ensures) in
    let len : c.len.result ≡ length (get_or bs i other).payload = c.len.ensures ∙ ap (λ (l : List Batch). length (get_or l i other).payload) c.as_slice-batches.ensures in
    omega (arith, len, span-next bs i other lt, span-take bs (i + 1), c.args.log.now.small, c.loop-i.invariant.place)

pub loop-i-preserved : goal.loop-i-preserved
loop-i-preserved c =
    let bs = c.args.log.now.batches in
    let i = c.loop-i.i in
    let other = c.index-batches-i.result in
    let b : Batch = get_or bs i other in
    let slots = c.loop-i.slots.items in
    let gate = c.loop-i.gate in
    let rest : List (List ℕ) = payloads_of (drop (i + 1) bs) in
    let lt : i < length bs = omega (arith, c.loop-i-test.true, ap length c.as_slice-batches.ensures) in
    let len : c.len.result ≡ length b.payload = c.len.ensures ∙ ap (λ (l : List Batch). length (get_or l i other).payload) c.as_slice-batches.ensures in
    let ends = ends_here c.as_slice-ends.result.now bs i _ other (c.as_slice-ends.ensures.value ∙ c.args.log.now.same) lt in
    let there : gate + 5 + length b.payload ≡ gate + (5 + c.len.result) = omega (arith, len) in
    record {
      all =
          c.loop-i.invariant.all ∙ ap (slots_with slots gate) (payloads-drop bs i other lt)
          ∙ one_step slots gate b.payload rest _ (ends_anywhere (gate + 5) b.at b.payload ∙ sym ends)
          ∙ ap (λ l. slots_with l (gate + 5 + length b.payload) rest) (sym c.in_ok-add_slot.ensures)
          ∙ ap (λ g. slots_with c.add_slot.new.slots.items g rest) there;
      place = omega (arith, c.loop-i.invariant.place, len, span-next bs i other lt);
      few = few_still _ gate slots _ c.in_ok-add_slot.ensures c.loop-i.invariant.few;
    }
