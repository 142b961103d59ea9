use Rattle.std.proofs.Common.{◌≡◌, ◌∙◌, ap, ◌++◌, [], ◌∷◌, refl, true, false, ℕ, ◌+◌, ◌-◌, ◌<◌, length, arith}
use Rattle.std.specs.Prelude.{◌==◌}
use Rattle.std.proofs.lemmas.Bool.Decides.{nat_tests}
use Rattle.def_log.proofs.Takes.{IsBytes}
use Rattle.ic_gate.proofs.Readers.{none_marked, marked_on, marks_end, all_marked}
use Rattle.ic_gate.proofs.batch_reader.mark_records.Goals as goal

none_left : (n : ℕ) → true ≡ (n == 0) → n ≡ 0
none_left n e = grind (arith, nat_tests)

some_left : (n : ℕ) → false ≡ (n == 0) → 0 < n
some_left n e = grind (arith, nat_tests)

pub loop-rest-init : goal.loop-rest-init
loop-rest-init c =
    let bytes : IsBytes c.args.payload.now = λ i. let f = c.type_inv.payload i in omega arith in
    none_marked c.args.ends.now c.args.kinds.now c.args.places.now c.args.kept c.args.at c.args.payload.now c.args.payload.now refl bytes

pub overflow_sub-place : goal.overflow_sub-place
overflow_sub-place c = omega (arith, c.loop-rest.invariant.done)

pub overflow_sub-payload : goal.overflow_sub-payload
overflow_sub-payload c = omega (arith, c.loop-rest.invariant.done, (c.in-Ok.ensures {u = tt}).less)

pub loop-rest-preserved-in_ok-push_place-in-Ok : goal.loop-rest-preserved-in_ok-push_place-in-Ok
loop-rest-preserved-in_ok-push_place-in-Ok c =
    let m = c.loop-rest.invariant in
    let read = c.in-Ok.ensures {u = tt} in
    marked_on c.args.ends.now c.args.kinds.now c.args.places.now c.args.kept c.args.at c.args.payload.now c.loop-rest.rest.now c.loop-rest.ends c.loop-rest.kinds c.loop-rest.places c.loop-rest.checkpoint m c.in-Ok.stored c.in-Ok.more.now c.push_end.new.ends c.push.new.self c.push_place.new.places c.is_checkpoint-checkpoint.result
    (c.args.at + (length c.args.payload.now - length c.loop-rest.rest.now)) (some_left (length c.loop-rest.rest.now) c.loop-rest-test.ensures) read.reads read.fit refl ((c.in_ok-push_end-in-Ok.ensures {u = tt}).ok) ((c.in_ok-push-in-Ok.ensures {u = tt}).ok ∙ ap (λ (k : ℕ). c.loop-rest.kinds ++ k ∷ []) c.kind_of.ensures) (c.in_ok-push_place-in-Ok.ensures {u = tt})
    c.is_checkpoint-checkpoint.ensures

pub loop-rest-preserved-in_ok-push_place-in-Ok-2 : goal.loop-rest-preserved-in_ok-push_place-in-Ok-2
loop-rest-preserved-in_ok-push_place-in-Ok-2 c =
    let m = c.loop-rest.invariant in
    let read = c.in-Ok.ensures {u = tt} in
    marked_on c.args.ends.now c.args.kinds.now c.args.places.now c.args.kept c.args.at c.args.payload.now c.loop-rest.rest.now c.loop-rest.ends c.loop-rest.kinds c.loop-rest.places c.loop-rest.checkpoint m c.in-Ok.stored c.in-Ok.more.now c.push_end.new.ends c.push.new.self c.push_place.new.places c.is_checkpoint-checkpoint.result
    (c.args.at + (length c.args.payload.now - length c.loop-rest.rest.now)) (some_left (length c.loop-rest.rest.now) c.loop-rest-test.ensures) read.reads read.fit refl ((c.in_ok-push_end-in-Ok.ensures {u = tt}).ok) ((c.in_ok-push-in-Ok.ensures {u = tt}).ok ∙ ap (λ (k : ℕ). c.loop-rest.kinds ++ k ∷ []) c.kind_of.ensures) (c.in_ok-push_place-in-Ok.ensures {u = tt})
    c.is_checkpoint-checkpoint.ensures

pub loop-rest-preserved : goal.loop-rest-preserved
loop-rest-preserved c =
    let m = c.loop-rest.invariant in
    let read = c.in-Ok.ensures {u = tt} in
    marked_on c.args.ends.now c.args.kinds.now c.args.places.now c.args.kept c.args.at c.args.payload.now c.loop-rest.rest.now c.loop-rest.ends c.loop-rest.kinds c.loop-rest.places c.loop-rest.checkpoint m c.in-Ok.stored c.in-Ok.more.now c.push_end.new.ends c.push.new.self c.push_place.new.places c.is_checkpoint-checkpoint.result
    (c.args.at + (length c.args.payload.now - length c.loop-rest.rest.now)) (some_left (length c.loop-rest.rest.now) c.loop-rest-test.ensures) read.reads read.fit refl ((c.in_ok-push_end-in-Ok.ensures {u = tt}).ok) ((c.in_ok-push-in-Ok.ensures {u = tt}).ok ∙ ap (λ (k : ℕ). c.loop-rest.kinds ++ k ∷ []) c.kind_of.ensures) (c.in_ok-push_place-in-Ok.ensures {u = tt})
    c.is_checkpoint-checkpoint.ensures

pub returns-in-Err-Cut-clause-refused : goal.returns-in-Err-Cut-clause-refused
returns-in-Err-Cut-clause-refused c =
    let none = rw c.in-Err-Cut.field-0-is at (c.in-Err-Cut.ensures {u = tt}).reads in
    marks_end c.args.ends.now c.args.kinds.now c.args.places.now c.args.kept c.args.at c.args.payload.now c.loop-rest.rest.now c.loop-rest.ends c.loop-rest.kinds c.loop-rest.places c.loop-rest.checkpoint c.loop-rest.invariant
    (some_left (length c.loop-rest.rest.now) c.loop-rest-test.ensures) none

pub returns-clause-read : goal.returns-clause-read
returns-clause-read c =
    let bytes : IsBytes c.args.payload.now = λ i. let f = c.type_inv.payload i in omega arith in
    all_marked c.args.ends.now c.args.kinds.now c.args.places.now c.args.kept c.args.at c.args.payload.now c.loop-rest.rest.now c.loop-rest.ends c.loop-rest.kinds c.loop-rest.places c.loop-rest.checkpoint c.loop-rest.invariant
    (none_left (length c.loop-rest.rest.now) c.loop-rest-test.ensures) bytes
