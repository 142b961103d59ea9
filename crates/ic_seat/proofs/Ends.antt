-- What is known where a call ends: why it was cut off, and what the answers of a book are.
use Rattle.std.proofs.Common.{◌≡◌, ◌∙◌, refl, sym, ap, Bool, true, false, not, List, [], ◌∷◌, ◌++◌, Option, Some, None}
use Rattle.std.specs.Prelude.{option_to_list}
use Rattle.def_two.specs.declared.moves.Packet2.{Packet2}
use Rattle.def_two.specs.Chief.{Hears}
use Rattle.ic_gate.specs.declared.refusals.StepRefused.{StepRefused}
use Rattle.ic_gate.specs.declared.refusals.StepRefused.TheVariants as step
use Rattle.ic_seat.specs.Refusing.{step_refusal}
use Rattle.ic_seat.specs.Seats.{call_of}
use Rattle.ic_seat.specs.declared.call.Call2.{Call2}
use Rattle.ic_seat.specs.declared.call.Call2.TheVariants as calls

pub up-of : (t : Bool) → false ≡ not t → t ≡ true
up-of true e = refl
up-of false e = absurd (cc)

pub down-of : (t : Bool) → true ≡ not t → t ≡ false
down-of true e = absurd (cc)
down-of false e = refl

pub never-both : {A : Type 0} (t : Bool) → t ≡ true → t ≡ false → A
never-both t p q = let no : true ≡ false = sym p ∙ q in absurd (cc)

-- a step that isn't refused was cut off
pub cut-off : (why : StepRefused) (hit : Bool) → step_refusal why hit ≡ None → (why ≡ step.Stopped) × (hit ≡ true)
cut-off step.Full hit e = absurd (cc)
cut-off step.Memory hit e = absurd (cc)
cut-off step.Failed hit e = absurd (cc)
cut-off step.Stopped true e = (refl, refl)
cut-off step.Stopped false e = absurd (cc)

pub hears-of : (k : Call2) (p : Packet2) → call_of k ≡ Hears p → k ≡ calls.Hears p
hears-of (calls.Begins m) p e = absurd (cc)
hears-of (calls.Hears q) p e = let same : q ≡ p = cc in ap calls.Hears same
hears-of calls.Resends p e = absurd (cc)

-- one packet at most is answered
pub answered-some : (answer : Option Packet2) (p : Packet2) (none all : List Packet2) → answer ≡ Some p → none ≡ [] → all ≡ none ++ p ∷ [] → all ≡ option_to_list answer
answered-some answer p none all is empty added = added ∙ ap (λ l. l ++ p ∷ []) empty ∙ ap option_to_list (sym is)

pub answered-none : (answer : Option Packet2) (all : List Packet2) → answer ≡ None → all ≡ [] → all ≡ option_to_list answer
answered-none answer all is empty = empty ∙ ap option_to_list (sym is)

pub none-of : (o : Option Packet2) → ((p : Packet2) → o ≡ Some p → ⊥) → o ≡ None
none-of None e = refl
none-of (Some p) e = absurd (e p refl)
