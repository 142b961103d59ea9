use Rattle.std.proofs.Common.{◌∙◌, ap, sym, subst, ℕ}
use Rattle.def_step.specs.Settle.{first_number}
use Rattle.ic_network.specs.Lanes.{numbers_from, is_waiting, IsFirst}
use Rattle.ic_network.proofs.Listing.{listed-first}
use Rattle.ic_network.proofs.lanes.Lanes.oldest.Goals as goal

pub returns : goal.returns
returns c =
    let P : ℕ → Type 0 = λ n. IsFirst (is_waiting c.self.inside.waits.items) 0 n c.self.inside.oldest in
    c.some_number.ensures
    ∙ listed-first c.self.inside.waits.items c.self.inside.oldest (subst P (sym c.self.invariant.waits_len) c.self.invariant.first)
    ∙ ap (λ v. first_number (numbers_from 1 v.waits)) c.self.view_is
