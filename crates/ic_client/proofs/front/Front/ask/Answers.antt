use Rattle.std.proofs.Common.{◌≡◌, ◌∙◌, ap, sym, ℕ, ℤ, List, map, Option, option_map}
use Rattle.std.specs.Prelude.{IfErr, Result, Ok, Err}
use Rattle.std.specs.Option.{option_copied}
use Rattle.std.proofs.lemmas.Option.{none-some}
use Rattle.def_client.specs.Fronts.{Front, Taken, Request, taken_under, asked_of, ask, replied}
use Rattle.ic_client.specs.Fronts.{taken_of}
use Rattle.ic_client.specs.declared.front.Row.{Row}
use Rattle.ic_client.proofs.Kept.{none-taken, found-taken, answer_by, ask-found, differs-by-handler, differs-by-values, answer-same}
use Rattle.def_client.specs.declared.asked.Asked.TheVariants.{New}
use Rattle.ic_client.proofs.front.Front.ask.Goals as goal
use Rattle.ic_client.proofs.front.Front.ask.Goals.{in-Some, in-None, then-row-handler-via-then-row-handler, then-row-handler-via-else-row-handler+then-ne}

on-err : {A E : Type 0} (r : Result A E) (P : Type 0) → P → IfErr r (λ _. P)
on-err (Ok x) P p = tt
on-err (Err e) P p = p

pub returns-in_default-clause-answer : goal.returns-in_default-clause-answer
returns-in_default-clause-answer c =
    let front : Front = c.args.self.now.taken in
    let es = c.self.inside.taken.entries in
    let view : front ≡ map taken_of es = sym (ap (λ v. v.taken) c.self.view_is) in
    let r : Request = record { who = c.args.c; handler = c.args.handler; args = c.args.args } in
    sym (ap (λ (o : Option Taken). asked_of o r) (elim c.match-numbers_of.branch [
      | in-Some w ↦
          ap (λ (f : Front). taken_under f c.args.c c.args.args) view
          ∙ found-taken c.args.c c.args.args w.in-Some.numbers (sym c.numbers_of.ensures ∙ w.in-Some.is) es c.self.invariant.0
          ∙ ap (option_map (λ (x : Row). taken_of (w.in-Some.numbers, x))) (sym w.get-row.ensures.value ∙ ap option_copied (sym w.row-is ∙ c.in_default.is))
      | in-None w ↦ none-taken c.args.c c.args.args front (sym c.numbers_of.ensures ∙ w.in-None.is)
    ]))

pub returns-in_err-reserve-clause-memory : goal.returns-in_err-reserve-clause-memory
returns-in_err-reserve-clause-memory c =
    let front : Front = c.args.self.now.taken in
    let es = c.self.inside.taken.entries in
    let view : front ≡ map taken_of es = sym (ap (λ v. v.taken) c.self.view_is) in
    let r : Request = record { who = c.args.c; handler = c.args.handler; args = c.args.args } in
    on-err c.from_residual.result (ask front r ≡ New) (ap (λ (o : Option Taken). asked_of o r) (elim c.match-numbers_of.branch [
      | in-Some w ↦
          ap (λ (f : Front). taken_under f c.args.c c.args.args) view
          ∙ found-taken c.args.c c.args.args w.in-Some.numbers (sym c.numbers_of.ensures ∙ w.in-Some.is) es c.self.invariant.0
          ∙ ap (option_map (λ (x : Row). taken_of (w.in-Some.numbers, x))) (sym w.get-row.ensures.value ∙ ap option_copied (sym w.row-is ∙ c.in_default.is))
      | in-None w ↦ none-taken c.args.c c.args.args front (sym c.numbers_of.ensures ∙ w.in-None.is)
    ]))

pub returns-then-row-handler-clause-answer : goal.returns-then-row-handler-clause-answer
returns-then-row-handler-clause-answer c =
    let front : Front = c.args.self.now.taken in
    let es = c.self.inside.taken.entries in
    let view : front ≡ map taken_of es = sym (ap (λ v. v.taken) c.self.view_is) in
    let row : Row = c.in-Some-row.row.now in
    let handler : ℕ = c.args.handler in
    let args : List ℤ = c.args.args in
    let found : ask front (record { who = c.args.c; handler = handler; args = args }) ≡ answer_by handler args row = elim c.match-numbers_of.branch [
      | in-Some w ↦ ask-found front es c.args.c handler args w.in-Some.numbers row view c.self.invariant.0 (sym c.numbers_of.ensures ∙ w.in-Some.is) (sym w.get-row.ensures.value ∙ ap option_copied (sym w.row-is ∙ c.in-Some-row.is))
      | in-None w ↦ absurd (none-some c.in-Some-row.row (sym w.row-is ∙ c.in-Some-row.is))
    ] in
    sym (found ∙ elim c.then-row-handler.branch [
      | then-row-handler-via-then-row-handler w ↦ differs-by-handler handler args row w.if-row-handler.true
      | then-row-handler-via-else-row-handler+then-ne w ↦ differs-by-values handler args row (w.if-ne.ensures {u = tt})
    ])

pub returns-in-Some-reply-clause-answer : goal.returns-in-Some-reply-clause-answer
returns-in-Some-reply-clause-answer c =
    let front : Front = c.args.self.now.taken in
    let es = c.self.inside.taken.entries in
    let view : front ≡ map taken_of es = sym (ap (λ v. v.taken) c.self.view_is) in
    let row : Row = c.in-Some-row.row.now in
    let handler : ℕ = c.args.handler in
    let args : List ℤ = c.args.args in
    let found : ask front (record { who = c.args.c; handler = handler; args = args }) ≡ answer_by handler args row = elim c.match-numbers_of.branch [
      | in-Some w ↦ ask-found front es c.args.c handler args w.in-Some.numbers row view c.self.invariant.0 (sym c.numbers_of.ensures ∙ w.in-Some.is) (sym w.get-row.ensures.value ∙ ap option_copied (sym w.row-is ∙ c.in-Some-row.is))
      | in-None w ↦ absurd (none-some c.in-Some-row.row (sym w.row-is ∙ c.in-Some-row.is))
    ] in
    sym (found ∙ answer-same handler args row c.if-row-handler.false (c.if-ne.ensures {u = tt}) ∙ ap replied c.in-Some-reply.is)

pub returns-in-None-reply-clause-answer : goal.returns-in-None-reply-clause-answer
returns-in-None-reply-clause-answer c =
    let front : Front = c.args.self.now.taken in
    let es = c.self.inside.taken.entries in
    let view : front ≡ map taken_of es = sym (ap (λ v. v.taken) c.self.view_is) in
    let row : Row = c.in-Some-row.row.now in
    let handler : ℕ = c.args.handler in
    let args : List ℤ = c.args.args in
    let found : ask front (record { who = c.args.c; handler = handler; args = args }) ≡ answer_by handler args row = elim c.match-numbers_of.branch [
      | in-Some w ↦ ask-found front es c.args.c handler args w.in-Some.numbers row view c.self.invariant.0 (sym c.numbers_of.ensures ∙ w.in-Some.is) (sym w.get-row.ensures.value ∙ ap option_copied (sym w.row-is ∙ c.in-Some-row.is))
      | in-None w ↦ absurd (none-some c.in-Some-row.row (sym w.row-is ∙ c.in-Some-row.is))
    ] in
    sym (found ∙ answer-same handler args row c.if-row-handler.false (c.if-ne.ensures {u = tt}) ∙ ap replied c.in-None-reply.is)
