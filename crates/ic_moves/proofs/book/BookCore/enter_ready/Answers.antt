use Rattle.std.proofs.Common.{◌∙◌, ap, sym, List, ◌∷◌, [], ◌++◌, is_some}
use Rattle.std.proofs.lemmas.List.{append-nil}
use Rattle.def_two.specs.declared.moves.Move.{Move}
use Rattle.def_two.specs.declared.moves.Record2.TheVariants as records
use Rattle.def_two.specs.Book.{booked}
use Rattle.law_two.proofs.Books.{record_facts}
use Rattle.ic_moves.specs.Cores.{state_of}
use Rattle.ic_moves.proofs.Entering.{one_ready, none_ready, of_log_as}
use Rattle.ic_moves.proofs.book.BookCore.enter_ready.Goals as goal

pub returns-then-is_some-clause-of_log : goal.returns-then-is_some-clause-of_log
returns-then-is_some-clause-of_log c =
    let old = c.args.self.now in
    let x = state_of old in
    let r = records.Ready c.args.m in
    let ended = sym (ap is_some c.end_of.ensures) ∙ sym c.is_some.ensures ∙ c.if-is_some.true in
    let f = c.requires.of_log in
    of_log_as _ (booked old.number x r) f.opening (ap (λ (l : List Move). record x { readied = l }) c.push_reserved.ensures.items)
    (f.ready ∙ sym (append-nil _) ∙ sym (none_ready x c.args.m ended)) (record_facts old.number f.opening x r f.facts c.requires.next)

pub returns-clause-of_log : goal.returns-clause-of_log
returns-clause-of_log c =
    let old = c.args.self.now in
    let x = state_of old in
    let r = records.Ready c.args.m in
    let ended = sym (ap is_some c.end_of.ensures) ∙ sym c.is_some.ensures ∙ c.if-is_some.false in
    let f = c.requires.of_log in
    of_log_as _ (booked old.number x r) f.opening (ap (λ (l : List Move). record x { readied = l }) c.push_reserved-2.ensures.items)
    (c.push_reserved-3.ensures.items ∙ ap (λ (l : List Move). l ++ c.args.m ∷ []) f.ready ∙ sym (one_ready x c.args.m ended)) (record_facts old.number f.opening x r f.facts c.requires.next)
