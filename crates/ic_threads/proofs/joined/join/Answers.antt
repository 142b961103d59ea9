use Rattle.std.proofs.Common.{◌∙◌, sym, ap, subst, length, flat_map, List}
use Rattle.ic_base.specs.declared.messages.ComId.{ComId}
use Rattle.ic_base.specs.declared.messages.Output.{Output}
use Rattle.ic_live.specs.Ended.{AreReturned}
use Rattle.ic_joins.specs.Assembling.{IsAssembled, IsJoined}
use Rattle.ic_joins.specs.Showing.{showings_of}
use Rattle.ic_turn.specs.Progresses.{left_of}
use Rattle.ic_turn.specs.declared.progress.Progress.{Progress}
use Rattle.ic_threads.specs.Counting.{counted, with_all}
use Rattle.ic_threads.proofs.joined.join.Goals as goal

pub showings_of-requires : goal.showings_of-requires
showings_of-requires g c = ap length c.as_slice-progresses.ensures ∙ c.requires.returned.progresses ∙ sym (ap length c.as_slice.ensures)

pub showings_of-requires-2 : goal.showings_of-requires-2
showings_of-requires-2 g c = ap length c.as_slice-progresses.ensures ∙ c.requires.returned.progresses ∙ sym (ap length c.as_slice-2.ensures)

pub assemble-requires-clause-returned : goal.assemble-requires-clause-returned
assemble-requires-clause-returned g c = subst (λ ps. AreReturned c.args.texts.now.program c.args.texts.now.fingerprint c.args.returned.components ps) (sym c.as_slice-progresses.ensures) c.requires.returned

pub returns : goal.returns
returns g c =
    let r = c.args.texts.now in
    let xs = c.args.returned.components in
    let ps = c.args.returned.progresses in
    let all = c.as_slice-progresses.ensures in
    record {
      assembled = subst (λ (s : List (ComId × Output)). IsAssembled r.program r.fingerprint xs s c.in_ok-world.world) (c.in_ok-before.ensures ∙ ap (showings_of c.as_slice-2.result.now) all ∙ ap (λ ys. showings_of ys ps) c.as_slice-2.ensures) c.in_ok-world.ensures.step;
      joined = subst (λ (qs : List Progress). IsJoined r.program r.fingerprint xs qs c.in_ok-world.world) all c.in_ok-world.ensures.joined;
      left = c.in_ok-left.ensures ∙ ap (flat_map left_of) all;
      shown = c.in_ok-shown.ensures ∙ ap (showings_of c.as_slice.result.now) all ∙ ap (λ ys. showings_of ys ps) c.as_slice.ensures;
      tally = record { none = c.in-Some.ensures.0; nothing = c.in-Some.ensures.1; is = c.in-Some.ensures.3 ∙ ap (λ qs. with_all c.in-Some.ensures.0 (counted qs)) all };
      played = c.in-Some-played_in.ensures ∙ ap (λ qs. (counted qs).played) all;
    }
