use Rattle.std.proofs.Common.{◌≡◌, List, [], ℕ, sym, ◌+◌, length, ap, subst, ◌∙◌, arith, IsOk}
use Rattle.def_syntax.specs.Text.{lines_of, numbered}
use Rattle.def_syntax.specs.Scope.{Scope, empty_scope}
use Rattle.def_syntax.specs.Lines.{Line}
use Rattle.def_syntax.specs.Scenario.{checked, all_named}
use Rattle.ic_syntax.specs.Views.{builder_lines}
use Rattle.ic_syntax.specs.BuilderStates.{state_of}
use Rattle.ic_syntax.specs.Passes.{with_front}
use Rattle.ic_syntax.proofs.Leading.{ends_at_top}
use Rattle.ic_syntax.specs.Places.{LeadsTo, at_top}
use Rattle.ic_syntax.proofs.Walks.{named_ok, named_err, named_all, checked_named, takes_first, no_front, refuses}
use Rattle.ic_syntax.proofs.walk.second_pass.Goals as goal

pub name_line-requires-clause-taken : goal.name_line-requires-clause-taken
name_line-requires-clause-taken c =
    let last = length (lines_of c.args.text.now) + 1 in
    takes_first last c.loop-line.number c.loop-line.seen _ _
    (subst IsOk (ap (λ (ls : List (List ℕ)). checked last c.loop-line.seen (numbered c.loop-line.number ls)) c.in-Some.ensures.line) c.loop-line.invariant.taken)

pub returns-in-Err-clause-err : goal.returns-in-Err-clause-err
returns-in-Err-clause-err c =
    refuses _ c.loop-line.number c.in-Err.unnamed.0 c.refused.result c.refused.ensures.memory c.refused.ensures.other
    (λ not. c.loop-line.invariant.goes_on ∙ ap (λ (ls : List (List ℕ)). with_front (builder_lines c.loop-line.draft) (all_named c.args.all.now c.loop-line.seen (numbered c.loop-line.number ls))) c.in-Some.ensures.line
    ∙ named_err c.args.all.now c.loop-line.number c.loop-line.seen c.in-Err.unnamed.0 _ _ (builder_lines c.loop-line.draft) (c.in-Err.ensures.err not))

pub loop-line-init : goal.loop-line-init
loop-line-init c =
    let last = length (lines_of c.args.text.now) + 1 in
    let lines = numbered 1 (lines_of c.args.text.now) in
    let seen : empty_scope ≡ c.nothing-seen.result = sym c.nothing-seen.ensures in record {
      bounded = omega arith;
      taken = subst (λ (s : Scope). IsOk (checked last s lines)) seen c.requires.taken;
      spot = subst (λ (s : Scope). LeadsTo s (state_of c.new-draft.result.place)) seen (subst (LeadsTo empty_scope) (sym c.new-draft.ensures.state) at_top);
      goes_on =
          no_front (all_named c.args.all.now empty_scope lines) ∙ ap (λ (s : Scope). with_front [] (all_named c.args.all.now s lines)) seen
          ∙ ap (λ (front : List Line). with_front front (all_named c.args.all.now c.nothing-seen.result lines)) (sym c.new-draft.ensures.lines);
    }

pub loop-line-preserved : goal.loop-line-preserved
loop-line-preserved c = record {
  bounded = omega (arith, c.loop-line.invariant.bounded, c.in-Some.ensures.less);
  taken =
      subst IsOk
      (ap (λ (ls : List (List ℕ)). checked (length (lines_of c.args.text.now) + 1) c.loop-line.seen (numbered c.loop-line.number ls)) c.in-Some.ensures.line
      ∙ checked_named c.args.all.now (length (lines_of c.args.text.now) + 1) c.loop-line.number c.loop-line.seen c.name_line.new.seen _ _ (builder_lines c.loop-line.draft) (builder_lines c.in-Ok.longer) c.in-Ok.ensures.ok)
      c.loop-line.invariant.taken;
  spot = c.in-Ok.ensures.spot;
  goes_on =
      c.loop-line.invariant.goes_on ∙ ap (λ (ls : List (List ℕ)). with_front (builder_lines c.loop-line.draft) (all_named c.args.all.now c.loop-line.seen (numbered c.loop-line.number ls))) c.in-Some.ensures.line
      ∙ named_ok c.args.all.now c.loop-line.number c.loop-line.seen c.name_line.new.seen _ _ (builder_lines c.loop-line.draft) (builder_lines c.in-Ok.longer) c.in-Ok.ensures.ok;
}

pub returns-clause-ok : goal.returns-clause-ok
returns-clause-ok c =
    c.loop-line.invariant.goes_on ∙ ap (λ (ls : List (List ℕ)). with_front (builder_lines c.loop-line.draft) (all_named c.args.all.now c.loop-line.seen (numbered c.loop-line.number ls))) c.in_default.ensures.line
    ∙ named_all c.args.all.now c.loop-line.seen (builder_lines c.loop-line.draft)

pub returns-clause-spot : goal.returns-clause-spot
returns-clause-spot c =
    let last = length (lines_of c.args.text.now) + 1 in
    ends_at_top last c.loop-line.seen (state_of c.loop-line.draft.place)
    (subst IsOk (ap (λ (ls : List (List ℕ)). checked last c.loop-line.seen (numbered c.loop-line.number ls)) c.in_default.ensures.line) c.loop-line.invariant.taken) c.loop-line.invariant.spot
