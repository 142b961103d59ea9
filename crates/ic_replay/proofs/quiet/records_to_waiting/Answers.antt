use Rattle.std.proofs.Common.{◌≡◌, ◌∙◌, ◌+◌, ◌++◌, ap, sym, arith, List, [], drop}
use Rattle.std.proofs.lemmas.List.{append-nil, drop_all}
use Rattle.ic_base.specs.declared.record.Record.{Record}
use Rattle.ic_replay.specs.Quiet.{up_to_waiting}
use Rattle.ic_replay.proofs.Runs.{run_ends, run_goes_on}
use Rattle.ic_replay.proofs.quiet.records_to_waiting.Goals as goal
use Rattle.ic_replay.proofs.quiet.records_to_waiting.Goals.{else-loop-i-test, then-loop-i-test+in_ok-stored+in_ok-push+then-last}

pub loop-i-preserved : goal.loop-i-preserved
loop-i-preserved c =
    let rs = c.args.records.now in
    let goes = run_goes_on rs c.loop-i.run c.loop-i.i c.in_ok-stored.stored (c.in_ok-stored.ensures {u = tt}) (sym c.waits-last.ensures ∙ c.if-last.false) in
    ap (λ (xs : List Record). xs ++ up_to_waiting (drop (c.loop-i.i + 1) rs)) (c.in_ok-push.ensures.ok) ∙ sym goes ∙ c.loop-i.invariant

pub returns : goal.returns
returns c =
    let rs = c.args.records.now in
    elim c.loop-i-test.branch [
      | else-loop-i-test w ↦
          let none : drop c.loop-i.i rs ≡ [] = drop_all c.loop-i.i rs (omega (arith, c.len-i-end.ensures.count, w.loop-i-test.false)) in
          w.run-is ∙ sym (append-nil c.loop-i.run) ∙ ap (λ (xs : List Record). c.loop-i.run ++ up_to_waiting xs) (sym none) ∙ c.loop-i.invariant
      | then-loop-i-test+in_ok-stored+in_ok-push+then-last w ↦
          w.run-is ∙ w.in_ok-push.ensures.ok ∙ sym (run_ends rs c.loop-i.run c.loop-i.i w.in_ok-stored.stored (w.in_ok-stored.ensures {u = tt}) (sym w.waits-last.ensures ∙ w.if-last.true)) ∙ c.loop-i.invariant
    ]
