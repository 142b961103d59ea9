use Rattle.std.proofs.Common.{◌∙◌, ap, ◌∷◌}
use Rattle.ic_eval.specs.Views.{seen, part_seen}
use Rattle.ic_eval.proofs.Turns.{aborted_turn, committed_turn, present_turn}
use Rattle.ic_eval.proofs.evaluation.+play.Goals as goal

pub played_one-returns-in_ok-played_send-in-Send-clause-played :
    goal.played_one-returns-in_ok-played_send-in-Send-clause-played
played_one-returns-in_ok-played_send-in-Send-clause-played t c =
    rw c.in-Send.is ((c.in_ok-played_send-in-Send.ensures {u = tt}).played c.args.handling.now.answers.now c.args.handling.now.done.now (part_seen c.args.part.now))

pub played_one-returns-in_ok-played_out-in-Out-clause-played :
    goal.played_one-returns-in_ok-played_out-in-Out-clause-played
played_one-returns-in_ok-played_out-in-Out-clause-played t c =
    rw c.in-Out.is ((c.in_ok-played_out-in-Out.ensures {u = tt}).played c.args.handling.now.answers.now c.args.handling.now.done.now (part_seen c.args.part.now))

pub played_one-returns-in-Get-clause-played : goal.played_one-returns-in-Get-clause-played
played_one-returns-in-Get-clause-played t c =
    rw c.in-Get.is (c.played_get.ensures.played c.args.handling.now.args c.args.handling.now.answers.now c.args.handling.now.done.now)

pub played_one-returns-in-Put-clause-played : goal.played_one-returns-in-Put-clause-played
played_one-returns-in-Put-clause-played t c =
    rw c.in-Put.is (c.played_put.ensures.played c.args.handling.now.answers.now c.args.handling.now.done.now)

pub played_one-returns-in-Need-clause-played : goal.played_one-returns-in-Need-clause-played
played_one-returns-in-Need-clause-played t c =
    rw c.in-Need.is (c.played_need.ensures c.args.handling.now.answers.now c.args.handling.now.done.now)

pub played_one-returns-in-Some-Aborted-clause-played : goal.played_one-returns-in-Some-Aborted-clause-played
played_one-returns-in-Some-Aborted-clause-played t c =
    let known = c.in-Some-Aborted.ensures {u = tt} in
    rw (aborted_turn c.args.handling.now.args c.args.handling.now.answers.now c.args.s.now c.in-Txn.t c.in-Txn.body c.in-Txn.other (part_seen c.args.part.now) (seen c.args.course.now c.args.handling.now.done.now) (seen c.next_result.new.course c.args.handling.now.done.now) c.in-Txn.is (known.some ∙ ap (λ d. d ∷ (seen c.next_result.new.course c.args.handling.now.done.now).left) c.in-Some-Aborted.field-0-is) known.kept, ← c.deref-in-Some-Aborted.ensures.value) c.played_list-in-Some-Aborted.ensures.played

pub played_one-returns-in-Some-Committed-clause-played : goal.played_one-returns-in-Some-Committed-clause-played
played_one-returns-in-Some-Committed-clause-played t c =
    let known = c.in-Some-Committed.ensures {u = tt} in
    rw (committed_turn c.args.handling.now.args c.args.handling.now.answers.now c.in-Some-Committed.values c.args.s.now c.in-Txn.t c.in-Txn.body c.in-Txn.other (part_seen c.args.part.now) (seen c.args.course.now c.args.handling.now.done.now) (seen c.next_result.new.course c.args.handling.now.done.now) c.in-Txn.is (known.some ∙ ap (λ d. d ∷ (seen c.next_result.new.course c.args.handling.now.done.now).left) c.in-Some-Committed.field-0-is) known.kept, ← c.as_slice-answers.ensures) c.played_part.ensures.played

pub played_one-returns-in_ok-r-in-None-clause-played : goal.played_one-returns-in_ok-r-in-None-clause-played
played_one-returns-in_ok-r-in-None-clause-played t c =
    let known = c.in-None.ensures {u = tt} in
    rw (present_turn c.args.handling.now.args c.args.handling.now.answers.now c.args.s.now c.in-Txn.t c.in-Txn.body c.in-Txn.other (part_seen c.args.part.now) (seen c.args.course.now c.args.handling.now.done.now) (seen c.next_result.new.course c.args.handling.now.done.now) c.in-Txn.is known.none known.none_taken, ← (c.in_ok-r-in-None.ensures {u = tt}).played) (c.answer_or_ready.ensures (seen c.played_part-in-None.new.course c.args.handling.now.done.now))
