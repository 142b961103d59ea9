-- The event that is next is one that the world may be given, and leaves less to do.
use Rattle.std.proofs.Common.{◌≡◌, ◌∙◌, sym, ap, subst, refl, inl, inr, ℕ, ◌<◌, ◌≤◌, true, false, ◌||◌, List, ◌∷◌, length, arith, Option, Some, None}
use Rattle.std.specs.Prelude.{slice_get, IfSome, IsSomeAnd, IsTrue, nat_le}
use Rattle.std.specs.List.{AllByRecursion}
use Rattle.std.proofs.lemmas.Bool.Decides.{nat_tests}
use Rattle.std.proofs.lemmas.List.{length-map}
use Rattle.ic_base.specs.declared.events.Event.{Event}
use Rattle.ic_base.specs.declared.events.Stop.{Stop}
use Rattle.ic_base.specs.declared.events.Trace.{Trace}
use Rattle.ic_base.specs.declared.events.What.{What}
use Rattle.ic_base.specs.declared.events.What.TheVariants as whats
use Rattle.ic_base.specs.declared.limits.TheConstants.{PACKETS}
use Rattle.ic_base.specs.declared.messages.ComId.{ComId}
use Rattle.ic_base.specs.declared.messages.Kind.{Kind}
use Rattle.ic_base.specs.declared.messages.Kind.TheVariants.{Pcom, Tcom, Xcom}
use Rattle.ic_base.specs.declared.scenario.Component.{Component}
use Rattle.ic_base.specs.declared.scenario.Program.{Program}
use Rattle.ic_base.specs.Programs.{declares, is_pcom, is_tcom}
use Rattle.def_run.specs.Executions as executions
use Rattle.def_run.specs.Executions.{next, agenda_behind}
use Rattle.def_run.specs.SystemStates.{has_disk, without_stop}
use Rattle.def_step.specs.Settle.{PolicyIntervals, asked_of}
use Rattle.def_step.specs.World.{Node, After, is_reached, node_at, happens}
use Rattle.def_syntax.specs.Allowed.{Handles, MayHappen}
use Rattle.def_syntax.specs.Schedule as texts
use Rattle.def_syntax.specs.Schedule.{is_inside}
use Rattle.ic_disk.specs.declared.disk.Disk.{Ghosts}
use Rattle.ic_run.specs.Advancing.{AdvancesBy}
use Rattle.ic_run.specs.Agendas.{agenda_of, next_of, MayCome, IsReady, IsNearer}
use Rattle.ic_run.specs.declared.agenda.Agenda.{Agenda}
use Rattle.ic_run.specs.declared.agenda.Coming.{Coming}
use Rattle.ic_node.specs.Doing.{IsAllowed}
use Rattle.ic_node.specs.Views.{node_of}
use Rattle.ic_settle.proofs.Allowed.{settling-allowed, settling-lowers}
use Rattle.ic_world.proofs.Lists.{get-within}
use Rattle.ic_world.proofs.Tasks.{event-told}
use Rattle.ic_world.specs.Allowing.{is_kept, IsMadeFor, is_allowed}
use Rattle.ic_world.specs.Stepping.{Steps, KeepsDisks, CrashLeavesLogs}
use Rattle.ic_world.specs.Views.{components_of, world_of}
use Rattle.ic_world.specs.declared.world.World.{World}
use Rattle.law_syntax.specs.Events.{IsCounted}
use Rattle.ic_run.proofs.Asked.{asked-disk}
use Rattle.ic_run.proofs.Nexts.{IsNext, next-is, agenda_with}

-- a schedule's event --------------------------------------------------------------------------------

inside : (kind : Kind) → IsTrue (is_inside kind) → (is_pcom kind || is_tcom kind) ≡ true
inside Pcom k = refl
inside Tcom k = refl
inside Xcom k = absurd (cc)

inside-disk : (program : Program) (c : ComId) → IsSomeAnd (slice_get program.components c.0) (λ x. IsTrue (is_inside x.kind)) → has_disk program c ≡ true
inside-disk program c k = by (slice_get program.components c.0) refl k
  where
    by : (o : Option Component) → slice_get program.components c.0 ≡ o → IsSomeAnd o (λ x. IsTrue (is_inside x.kind)) → has_disk program c ≡ true
    by None is h = absurd h
    by (Some x) is h = ap (λ o. declares (λ y. is_pcom y.kind) o || declares (λ y. is_tcom y.kind) o) is ∙ inside x.kind h

pub may-allowed : (program : Program) (what : What) → MayHappen program what → is_allowed program what ≡ true
may-allowed program (whats.Input c handler args) k = inside-disk program c (by (slice_get program.components c.0) k.holds)
  where
    pcom : (kind : Kind) → IsTrue (texts.is_pcom kind) → IsTrue (is_inside kind)
    pcom Pcom h = h
    pcom Tcom h = absurd (cc)
    pcom Xcom h = h

    by : (o : Option Component) → IsSomeAnd o (Handles handler (length args)) → IsSomeAnd o (λ x. IsTrue (is_inside x.kind))
    by None h = h
    by (Some x) h = pcom x.kind h.0
may-allowed program (whats.Deliver from to) k = inside-disk program to k.1.holds
may-allowed program (whats.Lose from to) k = inside-disk program to k.1.holds
may-allowed program (whats.Packet n) k = refl
may-allowed program (whats.Force c) k = inside-disk program c k.holds
may-allowed program (whats.Checkpoint c) k = inside-disk program c k.holds
may-allowed program (whats.Resend c) k = inside-disk program c k.holds
may-allowed program (whats.Emit c) k = inside-disk program c k.holds
may-allowed program (whats.Crash c) k = inside-disk program c k.holds
may-allowed program (whats.Recover c) k = inside-disk program c k.holds

counted : (s : Option Stop) → IsCounted s → IsAllowed s
counted None k = tt
counted (Some stop) k = omega (arith, k)

unreached : (s : Option Stop) → IsAllowed s → is_reached s 0 ≡ false
unreached None k = refl
unreached (Some stop) k = none stop.call k
  where
    none : (n : ℕ) → 1 ≤ n → nat_le n 0 ≡ false
    none n some = grind (arith, nat_tests)

some-node : (o : Option Node) → is_kept o ≡ true → (node : Node) × (o ≡ Some node)
some-node None k = absurd (cc)
some-node (Some node) k = (node, refl)

module _ {D : Type 0} {d : Ghosts D} (program : Program) (w : World D d) (x : PolicyIntervals) (a : Agenda) (n : Coming) (made : IsMadeFor program (world_of w)) (ready : IsReady program w a) (is : next (world_of w) x (agenda_of a) ≡ Some (next_of n)) where
  abbrev Comes : Type 0
  Comes = IsNext (world_of w) x a.left.now a.halts a.last (next_of n)

  comes : Comes
  comes = next-is (world_of w) x a.left.now a.halts a.last (next_of n) is

  all-may : a.left.now ≡ n.event ∷ n.left.now → AllByRecursion (MayCome program) (n.event ∷ n.left.now)
  all-may from = let P : List Event → Type 0 = λ l. AllByRecursion (MayCome program) l in subst P from ready.events

  pub next-allowed : is_allowed program n.event.what ≡ true
  next-allowed = by comes
    where
      by : Comes → is_allowed program n.event.what ≡ true
      by (inl c) =
          let P : Event → Type 0 = λ e. is_allowed program e.what ≡ true in
          subst P (sym (ap (λ (m : executions.Next). m.event) c.2)) (settling-allowed program (world_of w) made x a.last c.0 c.1)
      by (inr c) = may-allowed program n.event.what (all-may c).0.allowed

  pub next-stop : IsAllowed n.event.stop
  next-stop = by comes
    where
      by : Comes → IsAllowed n.event.stop
      by (inl c) =
          let P : Event → Type 0 = λ e. IsAllowed e.stop in
          subst P (sym (ap (λ (m : executions.Next). m.event) c.2)) tt
      by (inr c) = counted n.event.stop (all-may c).0.event.stop

  left-may : AllByRecursion (MayCome program) n.left.now
  left-may = by comes
    where
      by : Comes → AllByRecursion (MayCome program) n.left.now
      by (inl c) =
          let P : List Event → Type 0 = λ l. AllByRecursion (MayCome program) l in
          subst P (sym (ap (λ (m : executions.Next). m.left) c.2)) ready.events
      by (inr c) = (all-may c).1

  module _ (b : Agenda) (new : World D d) (t : Trace) (steps : Steps program w n.event new t) (few : length (world_of new).packets ≤ PACKETS) (left : b.left.now ≡ n.left.now) (halts : b.halts ≡ a.halts) (last : b.last ≡ asked_of t.event.what t.answer) where
    event-is : t.event ≡ n.event
    event-is = event-told program (world_of w) n.event steps.outcome (record { world = world_of new; trace = t }) steps.happens

    last-within : IfSome b.last (λ c. c.0 < length (components_of new))
    last-within = let P : Option ComId → Type 0 = λ o. IfSome o (λ c. c.0 < length (components_of new)) in subst P (sym last) (by (asked_of t.event.what t.answer) refl)
      where
        by : (o : Option ComId) → asked_of t.event.what t.answer ≡ o → IfSome o (λ c. c.0 < length (components_of new))
        by None asked = tt
        by (Some c) asked =
            let has = asked-disk program (world_of w) n.event steps.outcome (record { world = world_of new; trace = t }) steps.happens made next-allowed (unreached n.event.stop next-stop) c (ap (λ (e : Event). asked_of e.what t.answer) (sym event-is) ∙ asked) in
            let node = some-node (node_at (world_of new) c) (steps.made.kept c ∙ has) in
            omega (arith, get-within (world_of new).nodes c.0 node.0 node.1, length-map (components_of new) (λ y. node_of y))

    nearer-by : Comes → IsNearer b new a w
    nearer-by (inl c) =
        let same : n.event ≡ without_stop c.0 = ap (λ (m : executions.Next). m.event) c.2 in
        let here : n.left.now ≡ a.left.now = ap (λ (m : executions.Next). m.left) c.2 in
        let after : After = record { world = world_of new; trace = t } in
        let P : Event → Type 0 = λ e. happens program (world_of w) e steps.outcome ≡ Some after in
        inr (ap (λ (l : List Event). length l) (left ∙ here), settling-lowers program (world_of w) made x a.last c.0 c.1 steps.outcome after (subst P same steps.happens) few)
    nearer-by (inr c) = inl (shorter b.left.now n.left.now a.left.now n.event left c)
      where
        shorter : (bs ns olds : List Event) (e : Event) → bs ≡ ns → olds ≡ e ∷ ns → length bs < length olds
        shorter bs ns olds e same more = omega (arith, ap (λ (l : List Event). length l) same, ap (λ (l : List Event). length l) more)

    behind-is : agenda_of b ≡ agenda_behind (agenda_of a) n.left.now t
    behind-is =
        ap (λ l. agenda_with l b.halts b.last) left ∙ ap (λ h. agenda_with n.left.now h b.last) halts ∙ ap (λ o. agenda_with n.left.now a.halts o) last

    pub advances-by : KeepsDisks w n.event.what new → CrashLeavesLogs program w n.event.what new → AdvancesBy program x a b w new t
    advances-by disks crash =
        let P : Event → Type 0 = λ e. next (world_of w) x (agenda_of a) ≡ Some (record { event = e; left = n.left.now }) in
        let Q : Event → Type 0 = λ e. Steps program w e new t in
        let R : Event → Type 0 = λ e. KeepsDisks w e.what new in
        let S : Event → Type 0 = λ e. CrashLeavesLogs program w e.what new in
        let L : List Event → Type 0 = λ l. AllByRecursion (MayCome program) l in
        record {
          left = n.left.now;
          next = subst P (sym event-is) is;
          steps = subst Q (sym event-is) steps;
          behind = behind-is;
          ready = record { events = subst L (sym left) left-may; last = last-within };
          nearer = nearer-by comes;
          disks = subst R (sym event-is) disks;
          crash = subst S (sym event-is) crash;
        }
