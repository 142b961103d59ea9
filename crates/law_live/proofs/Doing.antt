-- The serial phase does all that is left.
use Rattle.std.proofs.Common.{◌≡◌, refl, ◌∙◌, ap, sym, subst, ℕ, Bool, true, false, ◌&&◌, cond, List, [], ◌∷◌, Option, Some, None, option_map, ◌⊎◌, inl, inr}
use Rattle.std.specs.Prelude.{MatchOption, ⊤}
use Rattle.ic_base.specs.declared.messages.ComId.{ComId}
use Rattle.ic_base.specs.declared.events.Event.{Event}
use Rattle.ic_base.specs.declared.events.What.{What}
use Rattle.ic_base.specs.declared.scenario.Program.{Program}
use Rattle.def_step.specs.Settle.{PolicyIntervals, asked_of, or_else, policy_for, next_event, settling_event}
use Rattle.def_step.specs.World.{World}
use Rattle.def_run.specs.Executions.{Agenda, Next, Executes, agenda_behind, first_of, without_taking, settling, is_input, scheduled, unless_asked, next}
use Rattle.def_run.specs.SystemStates.{SystemState, Transition, last_state, without_stop}
use Rattle.def_live.specs.Serial.{agenda_left}
use Rattle.law_live.specs.Doing.{DoAll, SerialPhasesDoAll}

-- the event is the next one of the list, or is asked for, and the list stays
abbrev Doing : World → PolicyIntervals → Option ComId → List Event → Next → Type 0
Doing w x last left n = (left ≡ n.event ∷ n.left) ⊎ ((option_map without_stop (settling_event w x last) ≡ Some n.event) × (n.left ≡ left))

abbrev MayDo : World → PolicyIntervals → Option ComId → List Event → Option Next → Type 0
MayDo w x last left o = MatchOption o ⊤ (Doing w x last left)

settling-does : (w : World) (x : PolicyIntervals) (last : Option ComId) (left : List Event) → policy_for w x last ≡ None → MayDo w x last left (settling w left)
settling-does w x last left none = at (next_event w) refl
  where
    at : (o : Option What) → next_event w ≡ o → MayDo w x last left (option_map (without_taking left) o)
    at None is = tt
    at (Some what) is = inr (ap (option_map without_stop) (ap (λ q. or_else q (next_event w)) none ∙ is), refl)

first-does : (w : World) (x : PolicyIntervals) (last : Option ComId) (left : List Event) (m n : Option Next) → MayDo w x last left m → MayDo w x last left n → MayDo w x last left (first_of m n)
first-does w x last left None n f g = g
first-does w x last left (Some z) n f g = f

cond-does : (w : World) (x : PolicyIntervals) (last : Option ComId) (left : List Event) (b : Bool) (m n : Option Next) → MayDo w x last left m → MayDo w x last left n → MayDo w x last left (cond b m n)
cond-does w x last left true m n f g = f
cond-does w x last left false m n f g = g

next-does : (w : World) (x : PolicyIntervals) (a : Agenda) (n : Next) → a.halts ≡ false → next w x a ≡ Some n → Doing w x a.last a.left n
next-does w x a n goes is = subst (λ o. MayDo w x a.last a.left o) is (by-policy (policy_for w x a.last) refl)
  where
    -- nothing is asked for
    at : policy_for w x a.last ≡ None → (l : List Event) → MayDo w x a.last l (elim l [ e ∷ left ↦ scheduled w a.settles_first e left | [] ↦ cond a.halts None (settling w []) ])
    at none [] = subst (λ h. MayDo w x a.last [] (cond h None (settling w []))) (sym goes) (settling-does w x a.last [] none)
    at none (e ∷ left) = first-does w x a.last (e ∷ left) (cond (a.settles_first && is_input e.what) (settling w (e ∷ left)) None) (Some (record { event = e; left = left }))
        (cond-does w x a.last (e ∷ left) (a.settles_first && is_input e.what) (settling w (e ∷ left)) None (settling-does w x a.last (e ∷ left) none) tt) (inl refl)

    by-policy : (o : Option What) → policy_for w x a.last ≡ o → MayDo w x a.last a.left (first_of (option_map (without_taking a.left) o) (unless_asked w a))
    by-policy (Some what) asked = inr (ap (option_map without_stop) (ap (λ q. or_else q (next_event w)) asked), refl)
    by-policy None asked = at asked a.left

-- where nothing is next, nothing is left
none-left : (w : World) (x : PolicyIntervals) (a : Agenda) → next w x a ≡ None → a.left ≡ []
none-left w x a e = at a.left (second (option_map (without_taking a.left) (policy_for w x a.last)) (unless_asked w a) e)
  where
    second : (m n : Option Next) → first_of m n ≡ None → n ≡ None
    second None n k = k
    second (Some z) n k = absurd (cc k)

    some : (m : Option Next) (z : Next) → first_of m (Some z) ≡ None → ⊥
    some None z k = absurd (cc k)
    some (Some y) z k = absurd (cc k)

    at : (l : List Event) → ◌≡◌ {A = Option Next} (elim l [ e ∷ left ↦ scheduled w a.settles_first e left | [] ↦ cond a.halts None (settling w []) ]) None → l ≡ []
    at [] k = refl
    at (z ∷ left) k = absurd (some (cond (a.settles_first && is_input z.what) (settling w (z ∷ left)) None) (record { event = z; left = left }) k)

does-all : (program : Program) (fingerprint : List ℕ) (x : PolicyIntervals) (a b : Agenda) (p : SystemState) (vs : List Transition) → a.halts ≡ false → Executes program fingerprint x a p vs b → next (last_state p vs).world x b ≡ None → DoAll x a.left p a.last vs
does-all program fingerprint x a b p [] goes runs none = ap (λ (z : Agenda). z.left) runs ∙ none-left p.world x b none
does-all program fingerprint x a b p (v ∷ vs) goes runs none = at (next-does p.world x a (record { event = v.trace.event; left = runs.0 }) goes runs.1) (does-all program fingerprint x (agenda_behind a runs.0 v.trace) b v.state vs goes runs.3 none)
  where
    at : Doing p.world x a.last a.left (record { event = v.trace.event; left = runs.0 }) → DoAll x runs.0 v.state (asked_of v.trace.event.what v.trace.answer) vs → DoAll x a.left p a.last (v ∷ vs)
    at (inl is) rest = inl (runs.0, is, rest)
    at (inr d) rest = inr (d.0, subst (λ l. DoAll x l v.state (asked_of v.trace.event.what v.trace.answer) vs) d.1 rest)

pub serial_phases_do_all : SerialPhasesDoAll
serial_phases_do_all program fingerprint x events p vs run = does-all program fingerprint x (agenda_left events) run.agenda p vs refl run.executes run.nothing
