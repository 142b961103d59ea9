-- The front of the smallest story: a request is taken, its reply is shown, it comes again, and once with other values.
use Rattle.std.proofs.Common.{◌≡◌, refl, ℕ, false, [], ◌∷◌, Option, Some, None}
use Rattle.std.specs.Prelude.{pos}
use Rattle.ic_base.specs.declared.messages.ComId.{ComId}
use Rattle.ic_base.specs.declared.messages.Output.{Output}
use Rattle.ic_base.specs.declared.events.Answer.TheVariants as answers
use Rattle.ic_base.specs.declared.events.What.{What}
use Rattle.ic_base.specs.declared.events.What.TheVariants as whats
use Rattle.ic_base.specs.declared.events.Answer.{Answer}
use Rattle.ic_base.specs.declared.events.Trace.{Trace}
use Rattle.def_client.specs.declared.asked.Asked.TheVariants.{New, Pending, Again, Differs}
use Rattle.def_client.specs.Fronts.{Request, Front, ask, saw}

abbrev till : ComId
till = record { 0 = 1 }

abbrev desk : ComId
desk = record { 0 = 0 }

abbrev paid : ℕ → Request
paid n = record { who = till; handler = 0; args = pos 1 ∷ pos 1 ∷ pos n ∷ [] }

abbrev trace : What → Answer → Option Output → Trace
trace what answer shown = record { event = record { what = what; stop = None }; answer = answer; puts = []; first_put = 1; shown = elim shown [ None ↦ None | Some o ↦ Some (o, false) ]; aborted = None }

abbrev taken : Front
taken = saw [] (trace (whats.Input till 0 (paid 5).args) answers.Taken None)

abbrev lost : Front
lost = saw [] (trace (whats.Input till 0 (paid 5).args) answers.Lost None)

abbrev replied : Front
replied = saw taken (trace (whats.Emit till) answers.Ended (Some (record { m = 1; to = desk; args = pos 1 ∷ pos 1 ∷ pos 5 ∷ [] })))

first : ask [] (paid 5) ≡ New
first = refl

again-pending : ask taken (paid 5) ≡ Pending
again-pending = refl

lost-is-new : ask lost (paid 5) ≡ New
lost-is-new = refl

again-replied : ask replied (paid 5) ≡ Again 1 (pos 1 ∷ pos 1 ∷ pos 5 ∷ [])
again-replied = refl

other-values : ask replied (paid 6) ≡ Differs
other-values = refl

before-a-reply : ask taken (paid 6) ≡ Differs
before-a-reply = refl
