use Rattle.std.proofs.Common.{◌≡◌, ◌∙◌, ap, rules, not, false, filter, List}
use Rattle.std.proofs.lemmas.Fn.{filter_same}
use Rattle.std.proofs.lemmas.List.Kept.{AllPairs-filter}
use Rattle.ic_base.specs.Programs.{same_com}
use Rattle.def_step.specs.Tcom.{Sitting, sits_for}
use Rattle.ic_tcom.specs.Roomy.{Roomy}
use Rattle.ic_tcom.proofs.sittings.Sittings.end.Goals as goal

pub invariant_of-self : goal.invariant_of-self
invariant_of-self c =
    rw (filter_same _ (λ (s : Sitting). not (sits_for c.args.peer c.args.n s)) _ (λ x b k h. search rules) _ _ c.retain.ensures.filtered)
    (AllPairs-filter (λ (r t : Sitting). same_com r.peer t.peer ≡ false) _ _ c.self.invariant)

pub returns : goal.returns
returns c =
    filter_same _ (λ (s : Sitting). not (sits_for c.args.peer c.args.n s)) _ (λ x b k h. search rules) _ _ c.retain.ensures.filtered
    ∙ ap (λ (v : Roomy (List Sitting)). filter (λ (s : Sitting). not (sits_for c.args.peer c.args.n s)) v.held) c.self.view_is
