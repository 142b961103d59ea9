-- The serial phase behind the joins: the events that are left, the world being settled before each input and at the end.
use Rattle.std.specs.Prelude.{◌≡◌, Bool, true, false, List, [], ◌∷◌, ◌++◌, map, flat_map, option_to_list, Option, Some, None}
use Rattle.ic_base.specs.declared.events.Event.{Event}
use Rattle.ic_base.specs.declared.events.Trace.{Trace}
use Rattle.ic_base.specs.declared.messages.ComId.{ComId}
use Rattle.ic_base.specs.declared.messages.Output.{Output}
use Rattle.ic_base.specs.declared.refusals.WorldRefused.{WorldRefused}
use Rattle.ic_base.specs.declared.scenario.Program.{Program}
use Rattle.def_live.specs.Serial.{agenda_left}
use Rattle.def_run.specs.Executions as executions
use Rattle.def_run.specs.Executions.{next, agenda_behind}
use Rattle.def_run.specs.SystemStates.{Transition, traces_of}
use Rattle.def_step.specs.Settle.{PolicyIntervals, asked_of}
use Rattle.ic_disk.specs.TornDisks.{Torn}
use Rattle.ic_disk.specs.declared.disk.Disk.{Ghosts}
use Rattle.ic_run.specs.Agendas.{agenda_of, IsReady}
use Rattle.ic_run.specs.Running.{Goes, Leads, KeepsAll, CrashLeavesWay}
use Rattle.ic_run.specs.Tallies.{Counts}
use Rattle.ic_run.specs.declared.agenda.Agenda.{Agenda}
use Rattle.ic_run.specs.declared.running.Cut.{Cut}
use Rattle.ic_run.specs.declared.running.Cut.TheVariants as cuts
use Rattle.ic_run.specs.declared.tally.Tally.{Tally}
use Rattle.ic_world.specs.Stepping.{Steps, KeepsDisks, CrashLeavesLogs, FailsToStep}
use Rattle.ic_world.specs.Views.{world_of, state_of}
use Rattle.ic_world.specs.declared.world.World.{World}

-- what the event of a trace shows, by its component
abbrev pub shown_by_trace : Trace → List (ComId × Output)
shown_by_trace t = elim (asked_of t.event.what t.answer) [ None ↦ [] | Some c ↦ map (λ (s : Output × Bool). (c, s.0)) (option_to_list t.shown) ]

abbrev pub shown_along : List Trace → List (ComId × Output)
shown_along ts = flat_map shown_by_trace ts

-- whether the next of these events is an input
abbrev pub is_input_first : List Event → Bool
is_input_first [] = false
is_input_first (e ∷ es) = executions.is_input e.what

-- what is left, as the definitions have it: before each input the world is settled
abbrev pub left_of : Agenda → executions.Agenda
left_of a = record (agenda_of a) { settles_first = true }

module _ {D : Type 0} {d : Ghosts D} where
  -- The event that is next was done.
  pub record AdvancesBy (program : Program) (x : PolicyIntervals) (a b : Agenda) (old new : World D d) (t : Trace) : Type 0 where
    pub left : List Event
    pub next : next (world_of old) x (left_of a) ≡ Some (record { event = t.event; left = left })
    pub steps : Steps program old t.event new t
    pub behind : left_of b ≡ agenda_behind (left_of a) left t
    pub ready : IsReady program new b
    pub leads : Leads program old (record { trace = t; state = state_of new } ∷ []) new

  -- nothing is left to do, or the next event was done
  abbrev pub Advances : Program → PolicyIntervals → Agenda → Agenda → World D d → World D d → Option Trace → Type 0
  Advances program x a b old new None = (next (world_of old) x (left_of a) ≡ None) × (new ≡ old)
  Advances program x a b old new (Some t) = AdvancesBy program x a b old new t

module _ {D : Type 0} (b : Ghosts D) {d : Ghosts (Torn D)} where
  -- the event that is next isn't done
  pub record FailsToAdvance (program : Program) (x : PolicyIntervals) (a : Agenda) (old new : World (Torn D) d) (why : WorldRefused) : Type 0 where
    pub event : Event
    pub left : List Event
    pub next : next (world_of old) x (left_of a) ≡ Some (record { event = event; left = left })
    pub fails : FailsToStep b program old event new why
    pub disks : KeepsDisks old event.what new
    pub crash : CrashLeavesLogs program old event.what new

module _ {D : Type 0} {d : Ghosts D} where
  -- All that is left was done: it was counted with what was counted before, and what it showed stands behind what was shown before.
  pub record DoesLeft (program : Program) (x : PolicyIntervals) (was : Tally) (left : List Event) (old new : World D d) (before after : List (ComId × Output)) (tally : Tally) : Type 0 where
    pub transitions : List Transition
    pub agenda : executions.Agenda
    pub goes : Goes program x (agenda_left left) old transitions agenda new
    pub nothing : next (world_of new) x agenda ≡ None
    pub counts : (told : List Trace) → Counts told was → Counts (told ++ traces_of transitions) tally
    pub shown : after ≡ before ++ shown_along (traces_of transitions)

module _ {D : Type 0} (b : Ghosts D) {d : Ghosts (Torn D)} where
  -- An event was refused behind these transitions; or memory was wanting, and all disks are kept
  pub record WasRefused (program : Program) (x : PolicyIntervals) (left : List Event) (old new : World (Torn D) d) (why : WorldRefused) : Type 0 where
    pub transitions : List Transition
    pub agenda : executions.Agenda
    pub now : World (Torn D) d
    pub goes : Goes program x (agenda_left left) old transitions agenda now
    pub event : Event
    pub rest : List Event
    pub next : next (world_of now) x agenda ≡ Some (record { event = event; left = rest })
    pub fails : FailsToStep b program now event new why
    pub disks : KeepsDisks now event.what new
    pub crash : CrashLeavesWay program old transitions (Some event.what) new

  abbrev pub WasCut : Program → PolicyIntervals → List Event → World (Torn D) d → World (Torn D) d → Cut → Type 0
  WasCut program x left old new (cuts.Refused why) = WasRefused program x left old new why
  WasCut program x left old new cuts.Print = ⊥
  WasCut program x left old new cuts.Memory = KeepsAll old new
