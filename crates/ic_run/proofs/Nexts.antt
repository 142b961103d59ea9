-- The event that is next: what settles, or the schedule's next event.
use Rattle.std.proofs.Common.{◌≡◌, ◌∙◌, sym, ap, refl, Bool, true, false, cond, ◌⊎◌, inl, inr, List, [], ◌∷◌, length, arith, Option, Some, None, option_map}
use Rattle.std.proofs.lemmas.Option.{same_Some}
use Rattle.ic_base.specs.declared.messages.ComId.{ComId}
use Rattle.ic_base.specs.declared.events.Event.{Event}
use Rattle.ic_base.specs.declared.events.What.{What}
use Rattle.def_run.specs.Executions.{Next, first_of, without_taking, settling, scheduled, unless_asked, next, whole_agenda}
use Rattle.def_run.specs.Executions as executions
use Rattle.def_run.specs.SystemStates.{without_stop}
use Rattle.def_step.specs.Settle.{PolicyIntervals, or_else, policy_for, next_event, settling_event}
use Rattle.def_step.specs.World.{World}
use Rattle.law_replay.proofs.Lists.{none-some}

abbrev pub agenda_with : List Event → Bool → Option ComId → executions.Agenda
agenda_with left halts last = record { left = left; halts = halts; settles_first = false; last = last }

module _ (w : World) (x : PolicyIntervals) (left : List Event) (halts : Bool) (last : Option ComId) where
  abbrev pub IsNext : Next → Type 0
  IsNext n = ((what : What) × (settling_event w x last ≡ Some what) × (n ≡ without_taking left what)) ⊎ (left ≡ n.event ∷ n.left)

  abbrev from_schedule : List Event → Option Next
  from_schedule l = elim l [ e ∷ rest ↦ scheduled w false e rest | [] ↦ cond halts None (settling w []) ]

  module _ (n : Next) where
    settled : (h : Option What) → next_event w ≡ h → policy_for w x last ≡ None → left ≡ [] → option_map (without_taking []) h ≡ Some n → IsNext n
    settled None is none empty f = none-some n f
    settled (Some what) is none empty f =
        inl (what, ap (λ p. or_else p (next_event w)) none ∙ is, sym (same_Some (without_taking [] what) n f) ∙ ap (λ l. without_taking l what) (sym empty))

    behind : (b : Bool) → policy_for w x last ≡ None → left ≡ [] → cond b None (settling w []) ≡ Some n → IsNext n
    behind true none empty f = none-some n f
    behind false none empty f = settled (next_event w) refl none empty f

    unasked : (l : List Event) → left ≡ l → policy_for w x last ≡ None → from_schedule l ≡ Some n → IsNext n
    unasked [] is none f = behind halts none is f
    unasked (e ∷ rest) is none f = inr (is ∙ ap (λ m. m.event ∷ m.left) (same_Some (record { event = e; left = rest }) n f))

    asked : (o : Option What) → policy_for w x last ≡ o → first_of (option_map (without_taking left) o) (from_schedule left) ≡ Some n → IsNext n
    asked (Some what) is f = inl (what, ap (λ p. or_else p (next_event w)) is, sym (same_Some (without_taking left what) n f))
    asked None is f = unasked left refl is f

    pub next-is : next w x (agenda_with left halts last) ≡ Some n → IsNext n
    next-is f = asked (policy_for w x last) refl f

-- what is none behind a map was none before it
pub none-mapped : {A : Type 0} (o : Option A) → None ≡ o → o ≡ None
none-mapped o e = sym e

no-items : {A : Type 0} (xs : List A) → length xs ≡ 0 → xs ≡ []
no-items [] e = refl
no-items (x ∷ xs) e = absurd (omega (arith, e))

-- behind the schedule, where the policy asks nothing and the run doesn't halt, what settles is next
pub settles-next : (w : World) (x : PolicyIntervals) (left : List Event) (halts : Bool) (last : Option ComId) (e : Event) → None ≡ option_map without_stop (policy_for w x last) → length left ≡ 0 → halts ≡ false → Some e ≡ option_map without_stop (next_event w)
    → Some (record { event = e; left = left }) ≡ next w x (agenda_with left halts last)
settles-next w x left halts last e none empty going is = policy (policy_for w x last) none
  where
    event : (h : Option What) → Some e ≡ option_map without_stop h → Some (record { event = e; left = [] }) ≡ option_map (without_taking []) h
    event None f = absurd (cc)
    event (Some what) f = ap (λ v. Some (record { event = v; left = [] })) (same_Some e (without_stop what) f)

    schedule : (l : List Event) → l ≡ [] → Some (record { event = e; left = l }) ≡ from_schedule w x left halts last l
    schedule l f = ap (λ m. Some (record { event = e; left = m })) f ∙ event (next_event w) is ∙ ap (λ b. cond b None (settling w [])) (sym going) ∙ ap (from_schedule w x left halts last) (sym f)

    policy : (o : Option What) → None ≡ option_map without_stop o → Some (record { event = e; left = left }) ≡ first_of (option_map (without_taking left) o) (from_schedule w x left halts last left)
    policy None f = schedule left (no-items left empty)
    policy (Some what) f = absurd (cc)
