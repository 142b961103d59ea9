use Rattle.std.proofs.Common.{◌≡◌, ◌∙◌, ap, sym, subst, rules, not, List, ◌==◌, ℕ, filter, None}
use Rattle.std.specs.Prelude.{IfSome, Option}
use Rattle.std.specs.Vec.{with_items}
use Rattle.std.proofs.lemmas.Fn.{filter_same}
use Rattle.std.proofs.lemmas.List.{with_items_is, places}
use Rattle.def_two.specs.declared.moves.Move.{Move}
use Rattle.def_two.specs.declared.states.BookState.{BookState}
use Rattle.def_two.specs.declared.states.End.{End}
use Rattle.def_two.specs.declared.moves.Record2.TheVariants as records
use Rattle.def_two.specs.Moves.{numbered}
use Rattle.def_two.specs.Book.{booked, is_ended, end_of, values_ended}
use Rattle.law_two.proofs.Books.{record_facts}
use Rattle.law_two.proofs.Lists.{front, not-true, is-none}
use Rattle.ic_moves.specs.declared.book.BookCore.{BookCore}
use Rattle.ic_moves.specs.Cores.{state_of, MayChange}
use Rattle.ic_moves.proofs.Entering.{ends_ready, may_change, of_log_as}
use Rattle.ic_moves.proofs.book.BookCore.enter_ended.Goals as goal

pub end_values-requires : goal.end_values-requires
end_values-requires c =
    let old = c.args.self.now in
    let f = c.requires.of_log in
    let is = c.numbered-readied.ensures ∙ ap (numbered c.args.n) c.as_slice.ensures.value in
    subst (λ (values : List ℕ). IfSome c.numbered-readied.result (MayChange old.number values)) (sym c.deref_mut.ensures.value)
    (may_change old.number f.opening (state_of old) c.args.n c.args.yes f.facts c.requires.next c.numbered-readied.result (sym is))

pub returns-clause-of_log : goal.returns-clause-of_log
returns-clause-of_log c =
    let old = c.args.self.now in
    let x = state_of old in
    let n = c.args.n in
    let agreed = c.args.yes in
    let r = records.Ended n agreed in
    let f = c.requires.of_log in
    let unended : end_of x n ≡ None = is-none (end_of x n) (not-true (is_ended x n) (front (not (is_ended x n)) _ c.requires.next)) in
    let kept = filter_same _ (λ (m : Move). not (n == m.n)) _ (λ x b k h. search rules) _ _ c.retain.ensures.filtered in
    let is = c.numbered-readied.ensures ∙ ap (numbered n) c.as_slice.ensures.value in
    let changed : c.end_values.new.values ≡ values_ended old.number agreed (numbered n x.readied) x.values =
    c.end_values.ensures ∙ ap (λ (o : Option Move). values_ended old.number agreed o c.deref_mut.result.now) is ∙ ap (values_ended old.number agreed (numbered n x.readied)) c.deref_mut.ensures.value in
    let values : (with_items old.values c.end_values.new.values).items ≡ values_ended old.number agreed (numbered n x.readied) x.values =
    with_items_is old.values c.end_values.new.values (search (rules, places)) ∙ changed in
    let new : BookCore = record { number = old.number; values = with_items old.values c.end_values.new.values; readied = old.readied; ended = c.push_reserved.new.self; ready = c.retain.new.self } in
    let as_book : List ℕ → List End → BookState = λ v es. record { values = v; readied = x.readied; ended = es } in
    let state : state_of new ≡ booked old.number x r = ap (λ v. as_book v c.push_reserved.new.self.items) values ∙ ap (as_book (values_ended old.number agreed (numbered n x.readied) x.values)) c.push_reserved.ensures.items in
    of_log_as new (booked old.number x r) f.opening state
    (kept ∙ ap (filter (λ (m : Move). not (n == m.n))) f.ready ∙ sym (ends_ready x n agreed unended)) (record_facts old.number f.opening x r f.facts c.requires.next)
