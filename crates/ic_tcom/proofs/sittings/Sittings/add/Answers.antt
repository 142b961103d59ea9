use Rattle.std.proofs.Common.{◌≡◌, ◌∙◌, ap, false, List, find, get_or}
use Rattle.std.proofs.lemmas.List.Quantifiers.{all_pairs_push}
use Rattle.ic_base.specs.Programs.{same_com}
use Rattle.def_step.specs.Tcom.{Sitting}
use Rattle.ic_tcom.specs.Roomy.{Roomy}
use Rattle.ic_tcom.proofs.Sessions.{none_found}
use Rattle.ic_tcom.proofs.Among.{com_sym}
use Rattle.ic_tcom.proofs.sittings.Sittings.add.Goals as goal

pub invariant_of-self : goal.invariant_of-self
invariant_of-self c =
    let xs = c.self.inside.list.items in
    let of_it = λ (s : Sitting). same_com c.args.sitting.peer s.peer in
    rw c.push_reserved.ensures.items (all_pairs_push (λ (r t : Sitting). same_com r.peer t.peer ≡ false) xs c.args.sitting c.self.invariant
    (λ k d within. com_sym (get_or xs k d).peer c.args.sitting.peer ∙ none_found of_it xs (ap (λ (v : Roomy (List Sitting)). find of_it v.held) c.self.view_is ∙ c.requires.new) k d within))
