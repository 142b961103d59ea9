-- The event that is next is such as may come.
use Rattle.std.proofs.Common.{◌≡◌, refl, subst, Bool, true, false, ◌&&◌, not, cond, List, [], ◌∷◌, length, Option, Some, None, option_map, option_and_then}
use Rattle.std.specs.Prelude.{Contains, MatchOption, ⊤, nat_lt}
use Rattle.ic_base.specs.declared.messages.ComId.{ComId}
use Rattle.ic_base.specs.declared.events.Event.{Event}
use Rattle.ic_base.specs.declared.events.What.{What}
use Rattle.ic_base.specs.declared.events.What.TheVariants.{Input, Deliver, Lose, Packet as Numbered, Force, Checkpoint, Resend, Emit, Crash, Recover}
use Rattle.ic_base.specs.declared.scenario.Program.{Program}
use Rattle.def_step.specs.Pcom.{Pcom, is_replaying, in_hand, all_of}
use Rattle.def_step.specs.Replay.{behind_checkpoint}
use Rattle.def_step.specs.Settle.{PolicyIntervals, reaches, pcom_policy, node_of, policy_for, or_else, delivery, lowest, oldest, soonest, is_down, has_due, has_in_hand, owes, buffered, next_event}
use Rattle.def_step.specs.World.{World}
use Rattle.def_run.specs.SystemStates.{without_stop}
use Rattle.def_run.specs.Executions.{Agenda, Next, first_of, without_taking, settling, is_input, scheduled, unless_asked, next}
use Rattle.law_replay.proofs.Lists.{in-head, in-tail}
use Rattle.law_syntax.specs.Events.{IsEvent}
use Rattle.law_run.specs.Executions.{MayCome}

no-input : (program : Program) (what : What) → is_input what ≡ false → IsEvent program (without_stop what)
no-input program (Input c handler args) e = absurd (cc e)
no-input program (Deliver from to) e = record { handler = tt; values = tt; stop = tt }
no-input program (Lose from to) e = record { handler = tt; values = tt; stop = tt }
no-input program (Numbered i) e = record { handler = tt; values = tt; stop = tt }
no-input program (Force c) e = record { handler = tt; values = tt; stop = tt }
no-input program (Checkpoint c) e = record { handler = tt; values = tt; stop = tt }
no-input program (Resend c) e = record { handler = tt; values = tt; stop = tt }
no-input program (Emit c) e = record { handler = tt; values = tt; stop = tt }
no-input program (Crash c) e = record { handler = tt; values = tt; stop = tt }
no-input program (Recover c) e = record { handler = tt; values = tt; stop = tt }

-- what settles and what the policy asks for is no input
abbrev pub Quiet : Option What → Type 0
Quiet o = MatchOption o ⊤ (λ what. is_input what ≡ false)

or-quiet : (a b : Option What) → Quiet a → Quiet b → Quiet (or_else a b)
or-quiet None b f g = g
or-quiet (Some what) b f g = f

map-quiet : {A : Type 0} (f : A → What) (o : Option A) → ((x : A) → is_input (f x) ≡ false) → Quiet (option_map f o)
map-quiet f None q = tt
map-quiet f (Some x) q = q x

pub next-quiet : (w : World) → Quiet (next_event w)
next-quiet w =
    let helps = option_map Resend (lowest (owes w) w) in
    let hand = option_map Resend (lowest has_in_hand w) in
    let soon = option_map Resend (soonest w) in
    let forced = option_map Force (lowest (λ n. nat_lt 0 (buffered n)) w) in
    let due = option_map Emit (lowest has_due w) in
    let old = option_map delivery (oldest w) in
    or-quiet (option_map Recover (lowest is_down w)) (or_else old (or_else due (or_else forced (or_else soon (or_else hand helps))))) (map-quiet Recover (lowest is_down w) (λ c. refl))
    (or-quiet old (or_else due (or_else forced (or_else soon (or_else hand helps)))) (map-quiet delivery (oldest w) (λ p. refl))
    (or-quiet due (or_else forced (or_else soon (or_else hand helps))) (map-quiet Emit (lowest has_due w) (λ c. refl))
    (or-quiet forced (or_else soon (or_else hand helps)) (map-quiet Force (lowest (λ n. nat_lt 0 (buffered n)) w) (λ c. refl))
    (or-quiet soon (or_else hand helps) (map-quiet Resend (soonest w) (λ c. refl))
    (or-quiet hand helps (map-quiet Resend (lowest has_in_hand w) (λ c. refl)) (map-quiet Resend (lowest (owes w) w) (λ c. refl)))))))

cond-quiet : (b : Bool) (x y : Option What) → Quiet x → Quiet y → Quiet (cond b x y)
cond-quiet true x y f g = f
cond-quiet false x y f g = g

pub policy-quiet : (w : World) (x : PolicyIntervals) (last : Option ComId) → Quiet (policy_for w x last)
policy-quiet w x None = tt
policy-quiet w x (Some c) = at (node_of w c)
  where
    at : (o : Option Pcom) → Quiet (option_and_then (pcom_policy x c) o)
    at None = tt
    at (Some p) =
        let more = not (in_hand p) && reaches x.checkpoint_every (length (behind_checkpoint (all_of p.log))) in
        let points = cond more (Some (Checkpoint c)) None in
        let full = reaches x.force_every (length p.log.buffered) in
        cond-quiet (is_replaying p) None (cond full (Some (Force c)) points) tt (cond-quiet full (Some (Force c)) points refl (cond-quiet more (Some (Checkpoint c)) None refl tt))

-- the event that is next, and those that are left behind it
pub record Comes (program : Program) (n : Next) : Type 0 where
  pub event : IsEvent program n.event
  pub left : (e : Event) → Contains n.left e → IsEvent program e

abbrev pub MayBe : Program → Option Next → Type 0
MayBe program o = MatchOption o ⊤ (Comes program)

quiet-comes : (program : Program) (left : List Event) (o : Option What) → ((e : Event) → Contains left e → IsEvent program e) → Quiet o → MayBe program (option_map (without_taking left) o)
quiet-comes program left None may q = tt
quiet-comes program left (Some what) may q = record { event = no-input program what q; left = may }

first-comes : (program : Program) (a b : Option Next) → MayBe program a → MayBe program b → MayBe program (first_of a b)
first-comes program None b f g = g
first-comes program (Some n) b f g = f

cond-comes : (program : Program) (b : Bool) (x y : Option Next) → MayBe program x → MayBe program y → MayBe program (cond b x y)
cond-comes program true x y f g = f
cond-comes program false x y f g = g

pub next-comes : (program : Program) (w : World) (x : PolicyIntervals) (a : Agenda) → MayCome program a → MayBe program (next w x a)
next-comes program w x a may = first-comes program (option_map (without_taking a.left) (policy_for w x a.last)) (unless_asked w a) (quiet-comes program a.left (policy_for w x a.last) may (policy-quiet w x a.last)) (at a.left may)
  where
    at : (l : List Event) → ((e : Event) → Contains l e → IsEvent program e) → MayBe program (elim l [ e ∷ left ↦ scheduled w a.settles_first e left | [] ↦ cond a.halts None (settling w []) ])
    at [] m = cond-comes program a.halts None (settling w []) tt (quiet-comes program [] (next_event w) m (next-quiet w))
    at (e ∷ left) m = first-comes program (cond (a.settles_first && is_input e.what) (settling w (e ∷ left)) None) (Some (record { event = e; left = left }))
        (cond-comes program (a.settles_first && is_input e.what) (settling w (e ∷ left)) None (quiet-comes program (e ∷ left) (next_event w) m (next-quiet w)) tt)
        (record { event = m e (in-head e left); left = λ f h. m f (in-tail e f left h) })

pub next-is : (program : Program) (w : World) (x : PolicyIntervals) (a : Agenda) (n : Next) → MayCome program a → next w x a ≡ Some n → Comes program n
next-is program w x a n may e = subst (λ o. MayBe program o) e (next-comes program w x a may)
