use Rattle.std.proofs.Common.{◌∙◌}
use Rattle.ic_two.proofs.ChiefServing.{counted_same}
use Rattle.ic_two.proofs.chief.Chief.note.Goals as goal

pub invariant_of-self : goal.invariant_of-self
invariant_of-self g c =
    let old = c.args.self.now in
    let same = c.reserve.ensures.same in
    record { state = same.docket ∙ old.state; counted = counted_same old.core c.reserve.new.self same old.counted }

pub invariant_of-self-2 : goal.invariant_of-self-2
invariant_of-self-2 g c =
    let old = c.args.self.now in
    let same = c.reserve.ensures.same in
    record { state = c.hear.ensures.docket ∙ same.docket ∙ old.state; counted = c.hear.ensures.counted (counted_same old.core c.reserve.new.self same old.counted) }
