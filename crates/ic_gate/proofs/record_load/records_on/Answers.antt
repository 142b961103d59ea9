use Rattle.std.proofs.Common.{◌≡◌, ◌∙◌, ap, sym, refl, subst, ℕ, List, ◌-◌, ◌<◌, ◌≤◌, ◌+◌, None, Some, take, drop, length, arith}
use Rattle.std.specs.Prelude.{Ok}
use Rattle.std.proofs.lemmas.Result.{err_from_is_err_and}
use Rattle.std.proofs.lemmas.List.{length-drop}
use Rattle.def_log.specs.Frame.{batches_from}
use Rattle.def_log.specs.Loading.{first_batch}
use Rattle.def_log.specs.Log.{placed_at, placed_with, ends_with_checkpoint}
use Rattle.def_log.proofs.Keeps.{is_whole}
use Rattle.ic_gate.specs.Gates.{batch_behind}
use Rattle.ic_gate.specs.Readers.{IsReadOn}
use Rattle.ic_gate.specs.RecordLoads.{FailsToRead}
use Rattle.ic_gate.proofs.ReadBatches.{found_same}
use Rattle.ic_gate.proofs.Readers.{payload_is}
use Rattle.ic_gate.proofs.RecordWalks.{none_walked, no_batches, gate_refused, next_inside, more_behind, batch_refused, slot_refused, records_read}
use Rattle.ic_gate.proofs.record_load.records_on.Goals as goal

pub loop-all-init : goal.loop-all-init
loop-all-init c = record {
  read = none_walked c.args.reader c.args.start c.args.slots.now;
  high = omega arith;
  inside = omega arith;
  few = omega arith;
}

pub payload_at-requires : goal.payload_at-requires
payload_at-requires c =
    let l = c.loop-all in
    let past = l.gate - c.args.start in
    let long : length c.rest.result.now ≡ length (drop past c.args.reader.rest) = ap length (c.rest.ensures ∙ l.invariant.read.left) in
    omega (arith, long, length-drop past c.args.reader.rest, c.requires.short, l.invariant.high, l.invariant.inside)

pub returns-in_err-payload-clause-refused : goal.returns-in_err-payload-clause-refused
returns-in_err-payload-clause-refused c =
    let p = err_from_is_err_and c.from_residual.result c.from_residual.ensures.1 in
    let l = c.loop-all in
    let r = l.invariant.read in
    let rest = c.args.reader.rest in
    let start = c.args.start in
    let slots = c.args.slots.now in
    let past : l.gate - start ≤ length rest = omega (arith, l.invariant.inside) in
    rw (p.1, p.2) (λ bs is. no_batches c.in_err-payload.field-0.0 (batches_from (length rest) start rest) c.in_err-payload.ensures.why
    (λ place e. gate_refused start rest slots l.gate l.so_far r.records r.are past place (ap (first_batch l.gate) (sym (c.rest.ensures ∙ r.left)) ∙ c.in_err-payload.ensures.bad place e)) bs is (placed_with slots bs))

pub read_on-requires-clause-inside : goal.read_on-requires-clause-inside
read_on-requires-clause-inside c =
    let l = c.loop-all in
    let r = l.invariant.read in
    let rest = c.args.reader.rest in
    let start = c.args.start in
    let past : l.gate - start ≤ length rest = omega (arith, l.invariant.inside) in
    let payload = c.in-Some.payload.now in
    let found : first_batch l.gate (drop (l.gate - start) rest) ≡ Ok (Some (batch_behind l.gate c.in-Some.payload.now)) = ap (first_batch l.gate) (sym (c.rest.ensures ∙ r.left)) ∙ found_same l.gate c.rest.result.now _ _ c.in_ok-payload.ensures.found c.in-Some.is in
    omega (arith, (is_whole l.gate (drop (l.gate - start) rest) (batch_behind l.gate payload) found).fits, ap length r.left)

pub read_on-requires-clause-below : goal.read_on-requires-clause-below
read_on-requires-clause-below c =
    let l = c.loop-all in
    let r = l.invariant.read in
    let rest = c.args.reader.rest in
    let start = c.args.start in
    let past : l.gate - start ≤ length rest = omega (arith, l.invariant.inside) in
    let payload = c.in-Some.payload.now in
    let found : first_batch l.gate (drop (l.gate - start) rest) ≡ Ok (Some (batch_behind l.gate c.in-Some.payload.now)) = ap (first_batch l.gate) (sym (c.rest.ensures ∙ r.left)) ∙ found_same l.gate c.rest.result.now _ _ c.in_ok-payload.ensures.found c.in-Some.is in
    let next : l.gate + (5 + length payload) ≤ start + length rest = next_inside start rest c.args.slots.now l.gate l.so_far r.records r.are past (batch_behind l.gate payload) found in
    omega (arith, next, c.requires.short)

pub returns-in_err-more-clause-refused : goal.returns-in_err-more-clause-refused
returns-in_err-more-clause-refused c =
    let p = err_from_is_err_and c.from_residual-in_err-more.result c.from_residual-in_err-more.ensures.1 in
    let l = c.loop-all in
    let r = l.invariant.read in
    let rest = c.args.reader.rest in
    let start = c.args.start in
    let past : l.gate - start ≤ length rest = omega (arith, l.invariant.inside) in
    let payload = c.in-Some.payload.now in
    let found : first_batch l.gate (drop (l.gate - start) rest) ≡ Ok (Some (batch_behind l.gate c.in-Some.payload.now)) = ap (first_batch l.gate) (sym (c.rest.ensures ∙ r.left)) ∙ found_same l.gate c.rest.result.now _ _ c.in_ok-payload.ensures.found c.in-Some.is in
    let there : take (length payload) (drop 5 l.all.rest) ≡ payload = ap (λ (x : List ℕ). take (length payload) (drop 5 x)) r.left ∙ sym (payload_is l.gate (drop (l.gate - start) rest) (batch_behind l.gate payload) found) in
    let why = c.in_err-more.field-0.0 in
    rw (p.1, p.2) (batch_refused start rest c.args.slots.now l.gate l.so_far r.records r.are past (batch_behind l.gate payload) found why (subst (λ (x : List ℕ). FailsToRead (placed_at (l.gate + 5) x) why) there ((c.in_err-more.ensures {u = tt}).refused)))

pub loop-all-smaller : goal.loop-all-smaller
loop-all-smaller c =
    let l = c.loop-all in
    let r = l.invariant.read in
    let rest = c.args.reader.rest in
    let start = c.args.start in
    let past : l.gate - start ≤ length rest = omega (arith, l.invariant.inside) in
    let payload = c.in-Some.payload.now in
    let found : first_batch l.gate (drop (l.gate - start) rest) ≡ Ok (Some (batch_behind l.gate c.in-Some.payload.now)) = ap (first_batch l.gate) (sym (c.rest.ensures ∙ r.left)) ∙ found_same l.gate c.rest.result.now _ _ c.in_ok-payload.ensures.found c.in-Some.is in
    let next : l.gate + (5 + length payload) ≤ start + length rest = next_inside start rest c.args.slots.now l.gate l.so_far r.records r.are past (batch_behind l.gate payload) found in
    let less : start + length rest - (l.gate + (5 + length payload)) < start + length rest - l.gate = omega (arith, next) in
    less

pub loop-all-preserved : goal.loop-all-preserved
loop-all-preserved c =
    let l = c.loop-all in
    let r = l.invariant.read in
    let rest = c.args.reader.rest in
    let start = c.args.start in
    let past : l.gate - start ≤ length rest = omega (arith, l.invariant.inside) in
    let payload = c.in-Some.payload.now in
    let found : first_batch l.gate (drop (l.gate - start) rest) ≡ Ok (Some (batch_behind l.gate c.in-Some.payload.now)) = ap (first_batch l.gate) (sym (c.rest.ensures ∙ r.left)) ∙ found_same l.gate c.rest.result.now _ _ c.in_ok-payload.ensures.found c.in-Some.is in
    let next : l.gate + (5 + length payload) ≤ start + length rest = next_inside start rest c.args.slots.now l.gate l.so_far r.records r.are past (batch_behind l.gate payload) found in
    let there : take (length payload) (drop 5 l.all.rest) ≡ payload = ap (λ (x : List ℕ). take (length payload) (drop 5 x)) r.left ∙ sym (payload_is l.gate (drop (l.gate - start) rest) (batch_behind l.gate payload) found) in
    let b = batch_behind l.gate payload in
    let more = c.in_ok-more.more in
    let e = c.in_ok-more.ensures {u = tt} in
    let read : IsReadOn l.all (placed_at b.at b.payload) (length b.payload) more = subst (λ (x : List ℕ). IsReadOn l.all (placed_at (l.gate + 5) x) (length payload) more) there e.read in
    let ends : ends_with_checkpoint b ≡ c.in_ok-more.ends = sym (e.ends ∙ ap (λ (x : List ℕ). ends_with_checkpoint (batch_behind l.gate x)) there) in
    record {
      read = more_behind start rest c.args.slots.now l.gate l.so_far r.records r.are past b found c.args.reader l.all more c.named-so_far.result r.behind r.placed_behind r.left read e.rest (c.named-so_far.ensures.on b refl ends);
      high = omega (arith, l.invariant.high);
      inside = next;
      few = c.named-so_far.ensures.named;
    }

pub returns-in-Some-unnamed-clause-refused : goal.returns-in-Some-unnamed-clause-refused
returns-in-Some-unnamed-clause-refused c bs is =
    let l = c.loop-all in
    let r = l.invariant.read in
    let rest = c.args.reader.rest in
    let start = c.args.start in
    let past : l.gate - start ≤ length rest = omega (arith, l.invariant.inside) in
    let none : first_batch l.gate (drop (l.gate - start) rest) ≡ Ok None = ap (first_batch l.gate) (sym (c.rest.ensures ∙ r.left)) ∙ found_same l.gate c.rest.result.now _ _ c.in_ok-payload.ensures.found c.in_default.is in
    slot_refused start rest c.args.slots.now l.gate l.so_far r.records r.are past none bs is c.in-Some-unnamed.place (sym c.unnamed.ensures ∙ c.in-Some-unnamed.is)

pub returns-in-None-clause-read : goal.returns-in-None-clause-read
returns-in-None-clause-read c bs is =
    let l = c.loop-all in
    let r = l.invariant.read in
    let rest = c.args.reader.rest in
    let start = c.args.start in
    let past : l.gate - start ≤ length rest = omega (arith, l.invariant.inside) in
    let none : first_batch l.gate (drop (l.gate - start) rest) ≡ Ok None = ap (first_batch l.gate) (sym (c.rest.ensures ∙ r.left)) ∙ found_same l.gate c.rest.result.now _ _ c.in_ok-payload.ensures.found c.in_default.is in
    record {
      placed = r.records;
      are_read = records_read start rest c.args.slots.now l.gate l.so_far r.records r.are past none bs is (sym c.unnamed.ensures ∙ c.in-None.is);
      behind = r.behind;
      placed_behind = r.placed_behind;
    }
