use Rattle.std.proofs.Common.{◌≡◌, ◌∙◌, sym, ap, Bool, true, false, ◌+◌, ◌<◌, ◌≤◌, cond, take, length, arith}
use Rattle.std.proofs.lemmas.List.{take_all}
use Rattle.std.proofs.lemmas.Option.{get_or_from_slice_get}
use Rattle.ic_base.specs.declared.messages.ComId.{ComId}
use Rattle.def_plain.specs.History.{log_entries}
use Rattle.ic_gate.proofs.Encodings.{some_at}
use Rattle.ic_node.proofs.Entries.{one_counted}
use Rattle.ic_node.proofs.counting.entries_in.Goals as goal
use Rattle.ic_node.proofs.counting.entries_in.Goals.{then-gives, else-gives}

pub overflow_add-n : goal.overflow_add-n
overflow_add-n c = omega (arith, c.loop-i.invariant.1, c.loop-i-test.true, c.len-i-end.ensures.few)

pub loop-i-preserved : goal.loop-i-preserved
loop-i-preserved c =
    let kind = c.args.kind in
    let rs = c.args.records.now in
    let i = c.loop-i.i in
    let n = c.loop-i.n in
    let within : i < length rs = omega (arith, c.loop-i-test.true, c.len-i-end.ensures.count) in
    let at = some_at rs i within in
    let r = at.0 in
    let read = sym (get_or_from_slice_get rs i r r at.1) in
    let next : (b : Bool) → c.is_entry_at-gives.result ≡ b → c.if-gives.n ≡ n + cond b 1 0 → (t : ComId) → c.if-gives.n ≡ length (log_entries kind t (take (i + 1) rs)) =
    λ b is now t. now ∙ ap (λ m. m + cond b 1 0) (c.loop-i.invariant.0 t)
    ∙ ap (λ (z : Bool). length (log_entries kind t (take i rs)) + cond z 1 0) (sym is ∙ c.is_entry_at-gives.ensures r at.1 t) ∙ sym (one_counted kind t rs i r within read) in
    elim c.if-gives.branch [
      | then-gives w ↦ (next true w.if-gives.true w.n-is, omega (arith, w.n-is, c.loop-i.invariant.1))
      | else-gives w ↦ (next false w.if-gives.false (omega (arith, w.n-is)), omega (arith, w.n-is, c.loop-i.invariant.1))
    ]

pub returns-clause-count : goal.returns-clause-count
returns-clause-count c = λ t.
    let rs = c.args.records.now in
    let all : length rs ≤ c.loop-i.i = omega (arith, c.loop-i-test.false, c.len-i-end.ensures.count) in
    c.loop-i.invariant.0 t ∙ ap (λ l. length (log_entries c.args.kind t l)) (take_all c.loop-i.i rs all)

pub returns-clause-few : goal.returns-clause-few
returns-clause-few c = omega (arith, c.loop-i.invariant.1, c.loop-i.auto.i-end, c.len-i-end.ensures.few)
