-- A run over the disks of the components: the world that opens over them, and what is done in it.
use Rattle.std.specs.Prelude.{◌≡◌, ◌⊎◌, ℕ, not, List, [], ◌∷◌, length, None, Result, Ok, Err}
use Rattle.def_run.specs.Executions.{Agenda, next, whole_agenda}
use Rattle.def_run.specs.SystemStates.{Transition, traces_of}
use Rattle.ic_base.specs.declared.scenario.Program.{Program}
use Rattle.ic_disk.specs.TornDisks.{Torn}
use Rattle.ic_disk.specs.declared.disk.Disk as disk
use Rattle.ic_disk.specs.declared.sink.Sink as sink
use Rattle.ic_run.specs.Running.{pieces_of, event_pieces, Goes, AllOutlast, WasCut}
use Rattle.ic_run.specs.declared.running.Cut.{Cut}
use Rattle.ic_report.specs.Outputs.{Puts}
use Rattle.ic_report.specs.declared.ending.Why.{Why}
use Rattle.ic_report.specs.declared.ending.Why.TheVariants.{Memory}
use Rattle.ic_settle.specs.Policies.{intervals_of}
use Rattle.ic_plan.specs.declared.run_texts.RunTexts.{RunTexts}
use Rattle.ic_disk.specs.Torns.{torn}
use Rattle.ic_world.specs.Opening as opens
use Rattle.ic_world.specs.Opening.{disks_under}
use Rattle.ic_world.specs.declared.opening.StartRefused.{StartRefused}
use Rattle.ic_world.specs.Views.{world_of, state_of}
use Rattle.ic_world.specs.declared.world.World.{World}
use Rattle.ic_run.specs.Summaries.{summary_in, report_pieces, FailsToTell}
use Rattle.ic_run.specs.Whys.{why_of_start, why_of_cut}
use Rattle.ic_run.specs.declared.opening.Opening.{Opening}
use Rattle.ic_run.specs.declared.opening.Opening.TheVariants.{Anew, Found}

-- the lines of its events, in order
abbrev pub lines_of : RunTexts → List Transition → List (List ℕ)
lines_of r vs = event_pieces r.program r.policy.report 1 (traces_of vs)

-- all that a schedule asks for
abbrev pub agenda_of : RunTexts → Agenda
agenda_of r = whole_agenda r.schedule.events r.schedule.halts

module _ {D : Type 0} {d : disk.Ghosts D} {K : Type 0} (k : sink.Ghosts K) where
  -- all that was to be done was done, and the whole report was printed
  pub record RunsWhole (r : RunTexts) (old new : World D d) (before after : K) : Type 0 where
    pub transitions : List Transition
    pub agenda : Agenda
    pub goes : Goes r.program (intervals_of r.policy) (agenda_of r) old transitions agenda new
    pub nothing : next (world_of new) (intervals_of r.policy) agenda ≡ None
    pub printed : Puts k (report_pieces r.program r.policy.report (not r.schedule.halts) (state_of old) transitions) before after
    pub outlast : AllOutlast k r.program (lines_of r) old new before transitions None

  -- all that was to be done was done, and its lines were printed, but not the summary
  pub record IsUnsummed (r : RunTexts) (old new : World D d) (before after : K) (why : Why) : Type 0 where
    pub transitions : List Transition
    pub agenda : Agenda
    pub goes : Goes r.program (intervals_of r.policy) (agenda_of r) old transitions agenda new
    pub nothing : next (world_of new) (intervals_of r.policy) agenda ≡ None
    pub mid : K
    pub printed : Puts k (event_pieces r.program r.policy.report 1 (traces_of transitions)) before mid
    pub fails : FailsToTell k (summary_in r.program (not r.schedule.halts) (state_of old) transitions ∷ []) mid after why
    pub outlast : AllOutlast k r.program (lines_of r) old new before transitions None

module _ {D : Type 0} (b : disk.Ghosts D) {d : disk.Ghosts (Torn D)} {K : Type 0} (k : sink.Ghosts K) where
  -- an event was refused, or its lines weren't printed, and this is how it is told
  pub record IsCut (r : RunTexts) (old new : World (Torn D) d) (before after : K) (why : Why) : Type 0 where
    pub cut : Cut
    pub told : why ≡ why_of_cut r.fingerprint cut
    pub was : WasCut b k r.program (intervals_of r.policy) (pieces_of r.program r.policy.report) 0 (agenda_of r) old new before after cut

  -- why a run ends before its end
  abbrev pub RunsShort : RunTexts → World (Torn D) d → World (Torn D) d → K → K → Why → Type 0
  RunsShort r old new before after why = IsCut r old new before after why ⊎ IsUnsummed k r old new before after why

module _ {D : Type 0} (b : disk.Ghosts D) where
  -- the world that opens over the disks of the components, and why there is none; where logs are found, a crash meanwhile leaves no more
  abbrev pub Opens : Opening → Program → List ℕ → List D → World (Torn D) (torn b) → Type 0
  Opens Anew program fingerprint disks new = opens.Starts b program fingerprint disks new
  Opens Found program fingerprint disks new = opens.Finds b program fingerprint disks new

  abbrev pub FailsToOpen : Opening → Program → List ℕ → List D → StartRefused D → Type 0
  FailsToOpen Anew program fingerprint disks refused = opens.FailsToStart b program disks refused
  FailsToOpen Found program fingerprint disks refused = opens.FailsToFind b program fingerprint disks refused × opens.EachMeets (opens.LeavesNoMore b) disks refused.disks.items

  module _ {K : Type 0} (k : sink.Ghosts K) where
    -- a world opened and was run, and its disks are handed back
    pub record RunsIn (Ran : World (Torn D) (torn b) → World (Torn D) (torn b) → Type 0) (r : RunTexts) (opening : Opening) (disks now : List D) : Type 0 where
      pub old : World (Torn D) (torn b)
      pub new : World (Torn D) (torn b)
      pub opens : Opens opening r.program r.fingerprint disks old
      pub ran : Ran old new
      pub back : now ≡ disks_under new.components.items
      pub long : length r.fingerprint ≡ 32

    -- no world opened, and this is how it is told
    pub record IsUnopened (r : RunTexts) (opening : Opening) (disks now : List D) (why : Why) : Type 0 where
      pub refused : StartRefused D
      pub told : why ≡ why_of_start r.fingerprint refused.why
      pub fails : FailsToOpen opening r.program r.fingerprint disks refused
      pub back : now ≡ refused.disks.items

    -- Nothing was done, for want of memory
    pub record IsUntried (disks now : List D) (before after : K) (why : Why) : Type 0 where
      pub memory : why ≡ Memory
      pub stay : now ≡ disks
      pub silent : after ≡ before

    -- a run over the disks of the components
    abbrev pub RunsOver : RunTexts → Opening → List D → List D → K → K → Result Unit Why → Type 0
    RunsOver r opening disks now before after (Ok _) = RunsIn (λ old new. RunsWhole k r old new before after) r opening disks now
    RunsOver r opening disks now before after (Err why) =
        IsUntried disks now before after why ⊎ (((after ≡ before) × IsUnopened r opening disks now why)
        ⊎ RunsIn (λ old new. RunsShort b k r old new before after why) r opening disks now)
