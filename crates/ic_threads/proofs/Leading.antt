-- The serial phase goes one event further.
use Rattle.std.proofs.Common.{◌≡◌, ◌∙◌, refl, sym, ap, subst, ℕ, ◌≤◌, Bool, true, false, cond, List, [], ◌∷◌, ◌++◌, Option, Some, None, option_map}
use Rattle.std.specs.Prelude.{IfSome, IfOk, IfErr, Result, Ok, Err, length, ◌<◌}
use Rattle.std.specs.List.{AllByRecursion}
use Rattle.std.proofs.lemmas.Option.{same_Some}
use Rattle.ic_base.specs.declared.events.Event.{Event}
use Rattle.ic_base.specs.declared.events.Trace.{Trace}
use Rattle.ic_base.specs.declared.events.What.{What}
use Rattle.ic_base.specs.declared.messages.ComId.{ComId}
use Rattle.ic_base.specs.declared.refusals.WorldRefused.{WorldRefused}
use Rattle.ic_base.specs.declared.scenario.Program.{Program}
use Rattle.def_run.specs.CoreSteps.{CoreStep}
use Rattle.def_run.specs.Executions as executions
use Rattle.def_run.specs.Executions.{Executes, Next, next, first_of, settling, without_taking, is_input, agenda_behind}
use Rattle.def_run.specs.SystemStates.{SystemState, Transition}
use Rattle.def_step.specs.Settle.{PolicyIntervals, policy_for, next_event}
use Rattle.def_step.specs.World.{World as Definition, happens}
use Rattle.ic_disk.specs.TornDisks.{Torn}
use Rattle.ic_disk.specs.Torns.{torn}
use Rattle.ic_disk.specs.declared.disk.Disk.{Ghosts}
use Rattle.ic_run.specs.Advancing as plain
use Rattle.ic_run.specs.Agendas.{agenda_of, IsReady, MayCome}
use Rattle.ic_run.specs.Running.{Follows, Goes, Leads}
use Rattle.ic_run.specs.declared.agenda.Agenda.{Agenda}
use Rattle.ic_run.proofs.More.{executes-more, follows-more}
use Rattle.ic_run.proofs.Onward.{leads-of, leads-then}
use Rattle.ic_run.proofs.Worlds.{goes-nowhere, goes-further, tells-on}
use Rattle.ic_world.specs.Acting.{GREATEST}
use Rattle.ic_world.specs.Allowing.{IsMadeFor}
use Rattle.ic_world.specs.Standing.{ArePlaced}
use Rattle.ic_world.specs.Views.{components_of, world_of, state_of, print_of, played_of, is_over, Tells}
use Rattle.ic_world.specs.declared.world.World.{World}
use Rattle.ic_threads.specs.Serial.{is_input_first, left_of, AdvancesBy, Advances, FailsToAdvance}

-- which event is next -----------------------------------------------------------------------------------------

-- where no input is, it is that of a run
pub next-plain : (w : Definition) (x : PolicyIntervals) (a : Agenda) → is_input_first a.left.now ≡ false → next w x (left_of a) ≡ next w x (agenda_of a)
next-plain w x a e = by a.left.now e
  where
    by : (es : List Event) → is_input_first es ≡ false → next w x (record { left = es; halts = a.halts; settles_first = true; last = a.last }) ≡ next w x (record { left = es; halts = a.halts; settles_first = false; last = a.last })
    by [] f = refl
    by (e ∷ es) f = ap (λ b. first_of (option_map (without_taking (e ∷ es)) (policy_for w x a.last)) (first_of (cond b (settling w (e ∷ es)) None) (Some (record { event = e; left = es })))) f

-- what the policy asks for, or what settles, and nothing of the list
module _ (w : Definition) (x : PolicyIntervals) (last : Option ComId) where
  abbrev pub unlisted : List Event → Option Next
  unlisted left = first_of (option_map (without_taking left) (policy_for w x last)) (settling w left)

  -- it is the same whatever is left of the list
  pub unlisted-some : (left : List Event) (n : Next) → unlisted [] ≡ Some n → unlisted left ≡ Some (record { event = n.event; left = left })
  unlisted-some left n e = by (policy_for w x last) (next_event w) e
    where
      by : (p q : Option What) → first_of (option_map (without_taking []) p) (option_map (without_taking []) q) ≡ Some n → first_of (option_map (without_taking left) p) (option_map (without_taking left) q) ≡ Some (record { event = n.event; left = left })
      by (Some what) q f = ap (λ (o : Event). Some (record { event = o; left = left })) (ap (λ (z : Next). z.event) (same_Some (without_taking [] what) n f))
      by None (Some what) f = ap (λ (o : Event). Some (record { event = o; left = left })) (ap (λ (z : Next). z.event) (same_Some (without_taking [] what) n f))
      by None None f = absurd (cc f)

  pub unlisted-none : (left : List Event) → unlisted [] ≡ None → unlisted left ≡ None
  unlisted-none left e = by (policy_for w x last) (next_event w) e
    where
      by : (p q : Option What) → first_of (option_map (without_taking []) p) (option_map (without_taking []) q) ≡ None → first_of (option_map (without_taking left) p) (option_map (without_taking left) q) ≡ None
      by (Some what) q f = absurd (cc f)
      by None (Some what) f = absurd (cc f)
      by None None f = refl

  -- before an input that comes first
  pub first-some : (halts : Bool) (left : List Event) (n : Next) → is_input_first left ≡ true → unlisted left ≡ Some n → next w x (record { left = left; halts = halts; settles_first = true; last = last }) ≡ Some n
  first-some halts [] n e f = absurd (cc e)
  first-some halts (i ∷ es) n e f =
      ap (λ b. first_of (option_map (without_taking (i ∷ es)) (policy_for w x last)) (first_of (cond b (settling w (i ∷ es)) None) (Some (record { event = i; left = es })))) e
      ∙ by (option_map (without_taking (i ∷ es)) (policy_for w x last)) (settling w (i ∷ es)) f
    where
      by : (p q : Option Next) → first_of p q ≡ Some n → first_of p (first_of q (Some (record { event = i; left = es }))) ≡ Some n
      by (Some z) q g = g
      by None (Some z) g = g
      by None None g = absurd (cc g)

  -- and where nothing is to be done before it
  pub first-none : (halts : Bool) (left : List Event) → is_input_first left ≡ true → unlisted left ≡ None → next w x (record { left = left; halts = halts; settles_first = true; last = last }) ≡ next w x (record { left = left; halts = halts; settles_first = false; last = last })
  first-none halts [] e f = absurd (cc e)
  first-none halts (i ∷ es) e f =
      ap (λ b. first_of (option_map (without_taking (i ∷ es)) (policy_for w x last)) (first_of (cond b (settling w (i ∷ es)) None) (Some (record { event = i; left = es })))) e
      ∙ by (option_map (without_taking (i ∷ es)) (policy_for w x last)) (settling w (i ∷ es)) f
    where
      by : (p q : Option Next) → first_of p q ≡ None → first_of p (first_of q (Some (record { event = i; left = es }))) ≡ first_of p (Some (record { event = i; left = es }))
      by (Some z) q g = refl
      by None (Some z) g = absurd (cc g)
      by None None g = refl

-- one event ---------------------------------------------------------------------------------------------------

module _ {D : Type 0} (b : Ghosts D) (only_now : (disk : D) (image : List ℕ) → b.keeps disk → b.left_since disk (b.moment disk) image → b.may_leave disk image) (tells : (disk : D) → b.keeps disk → b.tells disk) (program : Program) (x : PolicyIntervals) (old new : World (Torn D) (torn b)) (made : IsMadeFor program (world_of old)) (going : is_over old ≡ false) (placed : ArePlaced (components_of old)) (few : played_of old ≤ GREATEST) where
  leads-so : (one two : Agenda) (t : Trace) → plain.AdvancesBy program x one two old new t → Leads program old (record { trace = t; state = state_of new } ∷ []) new
  leads-so one two t by = leads-of (goes-further program x (agenda_of one) old old new [] one two t (goes-nowhere b only_now tells program x (agenda_of one) old made going placed few) by)

  -- as a run does
  pub plain-advances : (one two : Agenda) (o : Option Trace) → next (world_of old) x (left_of one) ≡ next (world_of old) x (agenda_of one) → plain.Advances program x one two old new o → Advances program x one two old new o
  plain-advances one two None same a = (same ∙ a.0, a.1)
  plain-advances one two (Some t) same a = record {
    left = a.left;
    next = same ∙ a.next;
    steps = a.steps;
    behind = ap (λ (z : executions.Agenda). record z { settles_first = true }) a.behind;
    ready = a.ready;
    leads = leads-so one two t a;
  }

  -- what settles before an input, or is asked for by the policy
  pub settles-advances : (a s s_new : Agenda) (two : Agenda) (t : Trace) → is_input_first a.left.now ≡ true → s.left.now ≡ [] → s.halts ≡ false → s.last ≡ a.last → two.left.now ≡ a.left.now → two.halts ≡ a.halts → two.last ≡ s_new.last → IsReady program old a → plain.AdvancesBy program x s s_new old new t → AdvancesBy program x a two old new t
  settles-advances a s s_new two t input none on last left halts asked ready by =
      let now = world_of old in
      let P : List Event × Bool × Option ComId → Type 0 = λ z. next now x (record { left = z.0; halts = z.1; settles_first = false; last = z.2 }) ≡ Some (record { event = t.event; left = by.left }) in
      let first = unlisted-some now x a.last a.left.now (record { event = t.event; left = by.left }) (subst P (λ i. (none i, on i, last i)) by.next) in
      record {
        left = a.left.now;
        next = first-some now x a.last a.halts a.left.now (record { event = t.event; left = a.left.now }) input first;
        steps = by.steps;
        behind = (let Q : List Event × Bool × Option ComId → executions.Agenda = λ z. record { left = z.0; halts = z.1; settles_first = true; last = z.2 } in ap Q (λ i. (left i, halts i, (asked ∙ ap (λ (z : executions.Agenda). z.last) by.behind) i)));
        ready = record { events = subst (λ es. AllByRecursion (MayCome program) es) (sym left) ready.events; last = subst (λ o. IfSome o (λ (c : ComId). c.0 < length (components_of new))) (sym asked) by.ready.last };
        leads = leads-so s s_new t by;
      }

-- nothing settles before an input: then it is that of a run
pub nothing-first : (w : Definition) (x : PolicyIntervals) (a s : Agenda) → is_input_first a.left.now ≡ true → s.left.now ≡ [] → s.halts ≡ false → s.last ≡ a.last → next w x (agenda_of s) ≡ None → next w x (left_of a) ≡ next w x (agenda_of a)
nothing-first w x a s input none on last e =
    let P : List Event × Bool × Option ComId → Type 0 = λ z. next w x (record { left = z.0; halts = z.1; settles_first = false; last = z.2 }) ≡ None in
    first-none w x a.last a.halts a.left.now input (unlisted-none w x a.last a.left.now (subst P (λ i. (none i, on i, last i)) e))

-- it isn't done
module _ {D : Type 0} (b : Ghosts D) {d : Ghosts (Torn D)} (program : Program) (x : PolicyIntervals) (old new : World (Torn D) d) where
  pub plain-fails : (a : Agenda) (why : WorldRefused) → next (world_of old) x (left_of a) ≡ next (world_of old) x (agenda_of a) → plain.FailsToAdvance b program x a old new why → FailsToAdvance b program x a old new why
  plain-fails a why same f = record { event = f.event; left = f.left; next = same ∙ f.next; fails = f.fails; disks = f.disks; crash = f.crash }

  pub settles-fails : (a s : Agenda) (why : WorldRefused) → is_input_first a.left.now ≡ true → s.left.now ≡ [] → s.halts ≡ false → s.last ≡ a.last → plain.FailsToAdvance b program x s old new why → FailsToAdvance b program x a old new why
  settles-fails a s why input none on last f =
      let now = world_of old in
      let P : List Event × Bool × Option ComId → Type 0 = λ z. next now x (record { left = z.0; halts = z.1; settles_first = false; last = z.2 }) ≡ Some (record { event = f.event; left = f.left }) in
      let first = unlisted-some now x a.last a.left.now (record { event = f.event; left = f.left }) (subst P (λ i. (none i, on i, last i)) f.next) in
      record { event = f.event; left = a.left.now; next = first-some now x a.last a.halts a.left.now (record { event = f.event; left = a.left.now }) input first; fails = f.fails; disks = f.disks; crash = f.crash }

-- one event behind others -------------------------------------------------------------------------------------

module _ {D : Type 0} {d : Ghosts D} (program : Program) (x : PolicyIntervals) (a : executions.Agenda) (old mid new : World D d) (vs : List Transition) (one two : Agenda) (t : Trace) (g : Goes program x a old vs (left_of one) mid) (by : AdvancesBy program x one two mid new t) where
  abbrev pub transition : Transition
  transition = record { trace = t; state = state_of new }

  executes-so : Tells old → Executes program (print_of old) x a (state_of old) (vs ++ transition ∷ []) (left_of two)
  executes-so told =
      let P : SystemState → Type 0 = λ s. next s.world x (left_of one) ≡ Some (record { event = t.event; left = by.left }) in
      let Q : SystemState → Type 0 = λ s. CoreStep program (print_of old) s t.event t (state_of new) in
      let R : List ℕ → Type 0 = λ print. CoreStep program print (state_of mid) t.event t (state_of new) in
      executes-more program (print_of old) x a (state_of old) vs (left_of one) transition by.left (left_of two) (g.executes told) (subst P (sym g.ends) by.next)
      (subst Q (sym g.ends) (subst R g.disks.print (by.steps.core (tells-on old mid g.disks told)))) (sym by.behind)

  follows-so : Follows program x a (state_of old) (vs ++ transition ∷ []) (left_of two)
  follows-so =
      let P : SystemState → Type 0 = λ s. next s.world x (left_of one) ≡ Some (record { event = t.event; left = by.left }) in
      let Q : SystemState → Type 0 = λ s. happens program s.world t.event by.steps.outcome ≡ Some (record { world = world_of new; trace = t }) in
      follows-more program x a (state_of old) vs (left_of one) transition by.left by.steps.outcome (left_of two) g.follows (subst P (sym g.ends) by.next) (subst Q (sym g.ends) by.steps.happens) (sym by.behind)

  pub goes-so : Goes program x a old (vs ++ transition ∷ []) (left_of two) new
  goes-so =
      let l = leads-then program old mid new vs (transition ∷ []) (leads-of g) by.leads in
      record { executes = executes-so; follows = follows-so; ends = l.ends; disks = l.disks; others = l.others; crash = l.crash; received = l.received; played = l.played; made = l.made; going = l.going }

-- what holds of each answer of a call
pub ok-maps : {T E : Type 0} {P Q : T → Type 0} (r : Result T E) → IfOk r P → ((t : T) → P t → Q t) → IfOk r Q
ok-maps (Ok t) p f = f t p
ok-maps (Err e) p f = tt

pub err-maps : {T E : Type 0} {P Q : E → Type 0} (r : Result T E) → IfErr r P → ((e : E) → P e → Q e) → IfErr r Q
err-maps (Ok t) p f = tt
err-maps (Err e) p f = f e p

-- a run that goes on isn't halted where it wasn't
pub still-on : {D : Type 0} {d : Ghosts D} (program : Program) (x : PolicyIntervals) (one two : Agenda) (old new : World D d) (o : Option Trace) → one.halts ≡ false → plain.Advances program x one two old new o → IfSome o (λ t. two.halts ≡ false)
still-on program x one two old new None on a = tt
still-on program x one two old new (Some t) on a = ap (λ (z : executions.Agenda). z.halts) a.behind ∙ on

-- nothing was left to do
pub nothing-done : {D : Type 0} {d : Ghosts D} (program : Program) (x : PolicyIntervals) (one two : Agenda) (old new : World D d) (o : Option Trace) → o ≡ None → plain.Advances program x one two old new o → (next (world_of old) x (agenda_of one) ≡ None) × (new ≡ old)
nothing-done program x one two old new o is a = let P : Option Trace → Type 0 = λ o. plain.Advances program x one two old new o in subst P is a
