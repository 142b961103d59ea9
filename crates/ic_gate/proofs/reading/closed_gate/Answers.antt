use Rattle.std.proofs.Common.{◌≡◌, ◌∙◌, ap, sym, refl, ◌-◌, ◌≤◌, ℕ, Some, drop, length, arith}
use Rattle.std.specs.Prelude.{Ok}
use Rattle.std.proofs.lemmas.Result.{err_from_is_err_and}
use Rattle.def_log.specs.Loading.{first_batch}
use Rattle.ic_gate.specs.Gates.{batch_behind}
use Rattle.ic_gate.proofs.Naming.{bad_same}
use Rattle.ic_gate.proofs.ReadBatches.{from_rest, found_in}
use Rattle.ic_gate.proofs.ClosedGates.{none_walked, walk_on, next_inside, walk_refused, slot_refused, gate_is, forced_is}
use Rattle.ic_gate.proofs.reading.closed_gate.Goals as goal

pub loop-payload-init : goal.loop-payload-init
loop-payload-init c = record {
  walked = none_walked c.args.start c.args.bytes.now c.args.slots.now;
  few = omega arith;
  inside = omega arith;
  named = omega arith;
}

pub returns-in_err-payload-clause-bad : goal.returns-in_err-payload-clause-bad
returns-in_err-payload-clause-bad c =
    let p = err_from_is_err_and c.from_residual.result c.from_residual.ensures.1 in
    let l = c.loop-payload in
    let bytes = c.args.bytes.now in
    let past = l.at - c.args.start in
    let inside : past ≤ length bytes = omega (arith, l.invariant.inside) in
    rw (p.1, p.2) (λ place e. walk_refused c.args.start bytes c.args.slots.now l.at l.forced l.named l.invariant.walked inside place (from_rest bytes l.at past _ (c.in_err-payload.ensures.bad place e)))

pub loop-payload-preserved : goal.loop-payload-preserved
loop-payload-preserved c =
    let l = c.loop-payload in
    let bytes = c.args.bytes.now in
    let slots = c.args.slots.now in
    let past = l.at - c.args.start in
    let inside : past ≤ length bytes = omega (arith, l.invariant.inside) in
    let batch = batch_behind l.at c.in-Some.payload.now in
    let found : first_batch l.at (drop past bytes) ≡ Ok (Some batch) = found_in bytes l.at past _ _ c.in_ok-payload.ensures.found c.in-Some.is in
    record {
      walked = walk_on c.args.start bytes slots l.at l.forced l.named l.invariant.walked inside batch c.count_named-named.result found (c.count_named-named.ensures.on batch refl);
      few = omega (arith, l.invariant.few);
      inside = next_inside c.args.start bytes slots l.at l.forced l.named l.invariant.walked inside batch found;
      named = c.count_named-named.ensures.named;
    }

pub returns-in-Some-first_unnamed-clause-bad : goal.returns-in-Some-first_unnamed-clause-bad
returns-in-Some-first_unnamed-clause-bad c place e =
    let l = c.loop-payload in
    let bytes = c.args.bytes.now in
    let slots = c.args.slots.now in
    let past = l.at - c.args.start in
    let inside : past ≤ length bytes = omega (arith, l.invariant.inside) in
    slot_refused c.args.start bytes slots l.at l.forced l.named l.invariant.walked inside (found_in bytes l.at past _ _ c.in_ok-payload.ensures.found c.in_default.is) place
    (sym c.first_unnamed.ensures ∙ c.in-Some-first_unnamed.is ∙ ap (λ (n : ℕ). Some n) (sym (bad_same place c.in-Some-first_unnamed.place e)))

pub returns-in-None-clause-at : goal.returns-in-None-clause-at
returns-in-None-clause-at c =
    let l = c.loop-payload in
    let bytes = c.args.bytes.now in
    let past = l.at - c.args.start in
    let inside : past ≤ length bytes = omega (arith, l.invariant.inside) in
    gate_is c.args.start bytes c.args.slots.now l.at l.forced l.named l.invariant.walked inside (found_in bytes l.at past _ _ c.in_ok-payload.ensures.found c.in_default.is) (sym c.first_unnamed.ensures ∙ c.in-None.is)

pub returns-in-None-clause-forced : goal.returns-in-None-clause-forced
returns-in-None-clause-forced c =
    let l = c.loop-payload in
    let bytes = c.args.bytes.now in
    let past = l.at - c.args.start in
    let inside : past ≤ length bytes = omega (arith, l.invariant.inside) in
    forced_is c.args.start bytes c.args.slots.now l.at l.forced l.named l.invariant.walked inside (found_in bytes l.at past _ _ c.in_ok-payload.ensures.found c.in_default.is) (sym c.first_unnamed.ensures ∙ c.in-None.is)
