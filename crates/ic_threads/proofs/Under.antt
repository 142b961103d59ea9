-- The serial phase on its way: what it did was counted, and what it showed was kept.
use Rattle.std.proofs.Common.{◌≡◌, ◌∙◌, sym, ap, subst, ℕ, ◌≤◌, false, List, [], ◌∷◌, ◌++◌, append_assoc, Option, Some, None}
use Rattle.std.specs.Prelude.{IfSome, length, ◌<◌, true}
use Rattle.std.specs.List.{AllByRecursion}
use Rattle.std.proofs.lemmas.Grind.{flat_map-append}
use Rattle.std.proofs.lemmas.List.{append-nil}
use Rattle.ic_base.specs.declared.events.Event.{Event}
use Rattle.ic_base.specs.declared.events.Trace.{Trace}
use Rattle.ic_base.specs.declared.messages.ComId.{ComId}
use Rattle.ic_base.specs.declared.messages.Output.{Output}
use Rattle.ic_base.specs.declared.refusals.WorldRefused.{WorldRefused}
use Rattle.ic_base.specs.declared.scenario.Program.{Program}
use Rattle.def_live.specs.Serial.{agenda_left}
use Rattle.def_run.specs.Executions as executions
use Rattle.def_run.specs.Executions.{next}
use Rattle.def_run.specs.SystemStates.{Transition, traces_of}
use Rattle.def_step.specs.Settle.{PolicyIntervals}
use Rattle.ic_disk.specs.TornDisks.{Torn}
use Rattle.ic_disk.specs.Torns.{torn}
use Rattle.ic_disk.specs.declared.disk.Disk.{Ghosts}
use Rattle.ic_run.specs.Agendas.{IsReady, MayCome}
use Rattle.ic_node.specs.Views.{disk_of}
use Rattle.ic_run.specs.Running.{Goes, KeepsAll}
use Rattle.ic_run.specs.Tallies.{Counts}
use Rattle.ic_run.specs.declared.agenda.Agenda.{Agenda}
use Rattle.ic_run.specs.declared.tally.Tally.{Tally}
use Rattle.ic_run.proofs.More.{traces-more}
use Rattle.ic_run.proofs.Ways.{kept-then}
use Rattle.ic_run.proofs.Worlds.{goes-nowhere, crash-further, between}
use Rattle.ic_world.specs.Acting.{GREATEST}
use Rattle.ic_world.specs.Allowing.{IsMadeFor}
use Rattle.ic_world.specs.Standing.{ArePlaced}
use Rattle.ic_world.specs.Views.{components_of, world_of, state_of, played_of, is_over}
use Rattle.ic_world.specs.declared.world.World.{World}
use Rattle.ic_threads.specs.Serial.{left_of, shown_by_trace, shown_along, AdvancesBy, Advances, FailsToAdvance, DoesLeft, WasRefused}
use Rattle.ic_threads.proofs.Leading.{goes-so}

module _ {D : Type 0} {d : Ghosts D} where
  keeps-then : (old mid new : World D d) → KeepsAll old mid → KeepsAll mid new → KeepsAll old new
  keeps-then old mid new first second = record {
    print = second.print ∙ first.print;
    count = second.count ∙ first.count;
    kept = λ k x y at now.
        let z = between old mid k x first.count at in
        kept-then d (disk_of x) (disk_of z.0) (disk_of y) (first.kept k x z.0 at z.1) (second.kept k z.0 y z.1 now);
  }

  pub record IsUnderWay (program : Program) (x : PolicyIntervals) (was : Tally) (left : List Event) (old new : World D d) (before after : List (ComId × Output)) (agenda : Agenda) (tally : Tally) : Type 0 where
    pub transitions : List Transition
    pub goes : Goes program x (agenda_left left) old transitions (left_of agenda) new
    pub counts : (told : List Trace) → Counts told was → Counts (told ++ traces_of transitions) tally
    pub shown : after ≡ before ++ shown_along (traces_of transitions)
    pub ready : IsReady program new agenda
    pub settles : agenda.halts ≡ false

  module _ (program : Program) (x : PolicyIntervals) (was : Tally) (left : List Event) (old mid new : World D d) (before now after : List (ComId × Output)) (one two : Agenda) (tally more : Tally) (run : IsUnderWay program x was left old mid before now one tally) (t : Trace) (by : AdvancesBy program x one two mid new t) where
    abbrev last : Transition
    last = record { trace = t; state = state_of new }

    pub under-further : two.halts ≡ false → ((ts : List Trace) → Counts ts tally → Counts (ts ++ t ∷ []) more) → after ≡ now ++ shown_by_trace t → IsUnderWay program x was left old new before after two more
    under-further on counts added =
        let ts = traces_of run.transitions in
        let P : List Trace → Type 0 = λ l. Counts l more in
        record {
          transitions = run.transitions ++ last ∷ [];
          goes = goes-so program x (agenda_left left) old mid new run.transitions one two t run.goes by;
          counts = λ told c. subst P (append_assoc told ts (t ∷ []) ∙ ap (λ (l : List Trace). told ++ l) (sym (traces-more run.transitions last))) (counts (told ++ ts) (run.counts told c));
          shown =
              added ∙ ap (λ l. l ++ shown_by_trace t) run.shown
              ∙ append_assoc before (shown_along ts) (shown_by_trace t)
              ∙ ap (λ l. before ++ (shown_along ts ++ l)) (sym (append-nil (shown_by_trace t)))
              ∙ ap (λ l. before ++ l) (sym (flat_map-append shown_by_trace ts (t ∷ [])))
              ∙ ap (λ l. before ++ shown_along l) (sym (traces-more run.transitions last));
          ready = by.ready;
          settles = on;
        }

  -- all disks are kept one event further
  pub under-kept : (program : Program) (x : PolicyIntervals) (was : Tally) (left : List Event) (old mid new : World D d) (before now : List (ComId × Output)) (one two : Agenda) (tally : Tally) (t : Trace) → IsUnderWay program x was left old mid before now one tally → AdvancesBy program x one two mid new t → KeepsAll old new
  under-kept program x was left old mid new before now one two tally t run by = keeps-then old mid new run.goes.disks by.leads.disks

  -- all is done
  pub under-done : (program : Program) (x : PolicyIntervals) (was : Tally) (left : List Event) (old mid new : World D d) (before after : List (ComId × Output)) (one : Agenda) (tally : Tally) → IsUnderWay program x was left old mid before after one tally → next (world_of mid) x (left_of one) ≡ None → new ≡ mid → DoesLeft program x was left old new before after tally
  under-done program x was left old mid new before after one tally run nothing same =
      let done : DoesLeft program x was left old mid before after tally = record { transitions = run.transitions; agenda = left_of one; goes = run.goes; nothing = nothing; counts = run.counts; shown = run.shown } in
      subst (λ (w : World D d). DoesLeft program x was left old w before after tally) (sym same) done

module _ {D : Type 0} (b : Ghosts D) {d : Ghosts (Torn D)} where
  pub under-refused : (program : Program) (x : PolicyIntervals) (was : Tally) (left : List Event) (old mid new : World (Torn D) d) (before after : List (ComId × Output)) (one : Agenda) (tally : Tally) (why : WorldRefused) → IsUnderWay program x was left old mid before after one tally → FailsToAdvance b program x one mid new why → WasRefused b program x left old new why
  under-refused program x was left old mid new before after one tally why run f = record {
    transitions = run.transitions;
    agenda = left_of one;
    now = mid;
    goes = run.goes;
    event = f.event;
    rest = f.left;
    next = f.next;
    fails = f.fails;
    disks = f.disks;
    crash = crash-further program old mid new run.transitions f.event.what run.goes.ends run.goes.disks run.goes.crash f.crash;
  }

-- where it begins
module _ {D : Type 0} (b : Ghosts D) (only_now : (disk : D) (image : List ℕ) → b.keeps disk → b.left_since disk (b.moment disk) image → b.may_leave disk image) (tells : (disk : D) → b.keeps disk → b.tells disk) where
  pub under-begins : (program : Program) (x : PolicyIntervals) (was : Tally) (left : List Event) (w : World (Torn D) (torn b)) (before : List (ComId × Output)) (agenda : Agenda)
      → IsMadeFor program (world_of w) → is_over w ≡ false → ArePlaced (components_of w) → played_of w ≤ GREATEST → agenda.left.now ≡ left → agenda.halts ≡ false → agenda.last ≡ None → AllByRecursion (MayCome program) left → IsUnderWay program x was left w w before before agenda was
  under-begins program x was left w before agenda made going placed few all on none events = record {
    transitions = [];
    goes = subst (λ (a : executions.Agenda). Goes program x (agenda_left left) w [] a w) is (goes-nowhere b only_now tells program x (agenda_left left) w made going placed few);
    counts = λ told c. let P : List Trace → Type 0 = λ ts. Counts ts was in subst P (sym (append-nil told)) c;
    shown = sym (append-nil before);
    ready = record { events = subst (λ es. AllByRecursion (MayCome program) es) (sym all) events; last = subst (λ o. IfSome o (λ (c : ComId). c.0 < length (components_of w))) (sym none) tt };
    settles = on;
  }
    where
      is : agenda_left left ≡ left_of agenda
      is = λ i. record { left = sym all i; halts = sym on i; settles_first = true; last = sym none i }

-- an event that was done
pub advanced-left : {D : Type 0} {d : Ghosts D} (program : Program) (x : PolicyIntervals) (one two : Agenda) (old new : World D d) (o : Option Trace) (t : Trace) → o ≡ Some t → Advances program x one two old new o → AdvancesBy program x one two old new t
advanced-left program x one two old new o t is by = let P : Option Trace → Type 0 = λ o. Advances program x one two old new o in subst P is by
