use Rattle.std.proofs.Common.{◌≡◌, ◌∙◌, ◌++◌, ◌∷◌, [], ap, rules, not, false, List}
use Rattle.std.proofs.lemmas.Fn.{filter_same}
use Rattle.std.proofs.lemmas.List.Kept.{AllPairs-filter}
use Rattle.std.proofs.lemmas.List.Quantifiers.{all_pairs_push}
use Rattle.ic_base.specs.Programs.{same_com}
use Rattle.def_step.specs.Tcom.{Verdict}
use Rattle.ic_tcom.specs.Last.{with_last}
use Rattle.ic_tcom.specs.Roomy.{Roomy}
use Rattle.ic_tcom.proofs.Decisions.{others, others_differ}
use Rattle.ic_tcom.proofs.last.Last.put.Goals as goal

pub invariant_of-self : goal.invariant_of-self
invariant_of-self c =
    let xs = c.self.inside.list.items in
    let P = λ (v w : Verdict). same_com v.peer w.peer ≡ false in
    rw (c.push_reserved.ensures.items, filter_same _ (λ (w : Verdict). not (same_com c.args.verdict.peer w.peer)) _ (λ x b k h. search rules) _ _ c.retain.ensures.filtered)
    (all_pairs_push P (others c.args.verdict xs) c.args.verdict (AllPairs-filter P _ _ c.self.invariant) (others_differ c.args.verdict xs))

pub returns : goal.returns
returns c =
    c.push_reserved.ensures.items
    ∙ ap (λ xs. xs ++ c.args.verdict ∷ []) (filter_same _ (λ (w : Verdict). not (same_com c.args.verdict.peer w.peer)) _ (λ x b k h. search rules) _ _ c.retain.ensures.filtered)
    ∙ ap (λ (v : Roomy (List Verdict)). with_last c.args.verdict v.held) c.self.view_is
