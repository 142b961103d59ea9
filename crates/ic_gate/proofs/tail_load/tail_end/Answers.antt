use Rattle.std.proofs.Common.{◌≡◌, ◌∙◌, sym, subst, ℕ, List, Some, length}
use Rattle.std.specs.Prelude.{Result, Err, IfOk, IfErr}
use Rattle.ic_base.specs.declared.record.Batch.{Batch}
use Rattle.def_log.specs.Changes.{counted}
use Rattle.def_log.specs.Frame.{batches_from}
use Rattle.def_log.specs.Sizes.{gate_behind}
use Rattle.ic_gate.specs.declared.refusals.LoadWhy.TheVariants.{Bad}
use Rattle.ic_gate.proofs.TailWalks.{no_slots}
use Rattle.ic_gate.proofs.tail_load.tail_end.Goals as goal

pub returns-clause-at : goal.returns-clause-at
returns-clause-at c =
    let start = c.args.start in
    let bytes = c.args.bytes.now in
    subst (λ (r : Result (List Batch) ℕ). IfOk c.closed_gate.result (λ closed. gate_behind start r ≡ Some closed.at))
    (no_slots (batches_from (length bytes) start bytes) ∙ sym (c.in_ok-check_gate.ensures.open start)) c.closed_gate.ensures.at

pub returns-clause-forced : goal.returns-clause-forced
returns-clause-forced c =
    let start = c.args.start in
    let bytes = c.args.bytes.now in
    subst (λ (r : Result (List Batch) ℕ). IfOk c.closed_gate.result (λ closed. counted r ≡ Some closed.forced))
    (no_slots (batches_from (length bytes) start bytes) ∙ sym (c.in_ok-check_gate.ensures.open start)) c.closed_gate.ensures.forced

pub returns-clause-bad : goal.returns-clause-bad
returns-clause-bad c =
    let start = c.args.start in
    let bytes = c.args.bytes.now in
    subst (λ (r : Result (List Batch) ℕ). IfErr c.closed_gate.result (λ why. (place : ℕ) → why ≡ Bad place → r ≡ Err place))
    (no_slots (batches_from (length bytes) start bytes) ∙ sym (c.in_ok-check_gate.ensures.open start)) c.closed_gate.ensures.bad
