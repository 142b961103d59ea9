use Rattle.std.proofs.Common.{◌+◌, ◌≤◌, List, length, take, All, sym, subst, ◌∙◌, arith}
use Rattle.std.proofs.lemmas.List.{length-take-le}
use Rattle.std.proofs.lemmas.List.Elements.{All-push}
use Rattle.ic_tokens.specs.declared.scan.Token.{Token}
use Rattle.def_syntax.specs.Text.{all_tokens, words_from, pieces}
use Rattle.ic_tokens.specs.Views.{seen_tokens, HasItsKind, fixed_if}
use Rattle.ic_tokens.proofs.Scanning.{IsFound, ArePlaced, word_inside, found_blank, found_push, found_none, found_all, placed_blank, placed_push, placed_all, kind_here}
use Rattle.ic_tokens.proofs.scan.words_in.Goals as goal
use Rattle.ic_tokens.proofs.scan.words_in.Goals.{then-length-gt0+in-Some+in_ok-push-in-Some, else-length-gt0}

pub returns-in-None-clause-err : goal.returns-in-None-clause-err
returns-in-None-clause-err c =
    let inside = word_inside c.args.line.now c.args.end c.loop-place.place c.word_length-length.result c.loop-place-test.true c.requires c.word_length-length.ensures.inside in
    found_none (fixed_if c.args.fixed) c.args.line.now c.args.end c.loop-place.place c.word_length-length.result _ _ c.word_length-length.ensures.place c.if-length-gt0.true inside c.requires c.in-None.ensures.token c.loop-place.invariant.found

pub loop-place-preserved : goal.loop-place-preserved
loop-place-preserved c =
    let inside = word_inside c.args.line.now c.args.end c.loop-place.place c.word_length-length.result c.loop-place-test.true c.requires c.word_length-length.ensures.inside in
    let AllInside : List Token → Type 0 = λ ts. All (λ t. t.place + t.length ≤ length c.args.line.now) ts in
    let text = take c.args.end c.args.line.now in
    let words = fixed_if c.args.fixed in
    let StillFound : List Token → Type 0 = λ ts. IsFound words text (c.loop-place.place + (c.word_length-length.result + 1)) (seen_tokens c.args.line.now ts) (all_tokens words (words_from 0 (pieces text))) in
    elim c.if-length-gt0.branch [
      | then-length-gt0+in-Some+in_ok-push-in-Some w ↦ (
          let pushed = w.tokens-is ∙ w.in_ok-push-in-Some.ensures.ok in
          record {
            found = found_push (fixed_if c.args.fixed) c.args.line.now c.args.end c.loop-place.place c.word_length-length.result w.in-Some.kind _ _ _ c.word_length-length.ensures.place w.if-length-gt0.true inside c.requires w.in-Some.ensures.token pushed c.loop-place.invariant.found;
            placed = placed_push c.args.line.now c.args.end c.loop-place.place c.word_length-length.result w.in-Some.kind _ _ _ c.word_length-length.ensures.place w.if-length-gt0.true inside c.requires pushed c.loop-place.invariant.placed;
            kinds = subst (All (HasItsKind c.args.line.now)) (sym pushed) (All-push (HasItsKind c.args.line.now) c.loop-place.tokens _ c.loop-place.invariant.kinds (kind_here c.args.line.now c.loop-place.place c.word_length-length.result w.in-Some.kind w.in-Some.ensures.kind));
            inside = subst AllInside (sym pushed) (All-push (λ (t : Token). t.place + t.length ≤ length c.args.line.now) c.loop-place.tokens _ c.loop-place.invariant.inside (omega (arith, inside)));
            near = omega (arith, inside);
          })
      | else-length-gt0 w ↦ record {
        found =
            subst StillFound (sym w.tokens-is)
            (found_blank (fixed_if c.args.fixed) (take c.args.end c.args.line.now) c.loop-place.place c.word_length-length.result _ _ c.word_length-length.ensures.place w.if-length-gt0.false c.loop-place.invariant.found);
        placed =
            subst (λ (ts : List Token). ArePlaced c.args.line.now text (c.loop-place.place + (c.word_length-length.result + 1)) ts (words_from 0 (pieces text))) (sym w.tokens-is)
            (placed_blank c.args.line.now text c.loop-place.place c.word_length-length.result _ _ c.word_length-length.ensures.place w.if-length-gt0.false c.loop-place.invariant.placed);
        kinds = subst (All (HasItsKind c.args.line.now)) (sym w.tokens-is) c.loop-place.invariant.kinds;
        inside = subst AllInside (sym w.tokens-is) c.loop-place.invariant.inside;
        near = omega (arith, inside);
      }
    ]

pub returns-clause-ok : goal.returns-clause-ok
returns-clause-ok c = found_all (fixed_if c.args.fixed) (take c.args.end c.args.line.now) c.loop-place.place _ _ (rw (length-take-le c.args.end c.args.line.now c.requires) c.loop-place-test.false) c.loop-place.invariant.found

pub returns-clause-places : goal.returns-clause-places
returns-clause-places c = placed_all c.args.line.now (take c.args.end c.args.line.now) c.loop-place.place _ _ (rw (length-take-le c.args.end c.args.line.now c.requires) c.loop-place-test.false) c.loop-place.invariant.placed
