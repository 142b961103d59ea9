-- A run with clients over the disks of the components: the world that starts over them, and what is done in it.
use Rattle.std.specs.Prelude.{◌≡◌, ◌⊎◌, not, List, [], ◌∷◌, map, Result, Ok, Err}
use Rattle.def_client.specs.Clients.{Item, item_of}
use Rattle.ic_clients.specs.Moments.{done_in}
use Rattle.ic_clients.specs.Working.{RanClients, ClientsCut}
use Rattle.ic_disk.specs.TornDisks.{Torn}
use Rattle.ic_disk.specs.declared.disk.Disk as disk
use Rattle.ic_disk.specs.declared.sink.Sink as sink
use Rattle.ic_plan.specs.declared.run_texts.RunTexts.{RunTexts}
use Rattle.ic_report.specs.Outputs.{Puts}
use Rattle.ic_report.specs.declared.ending.Why.{Why}
use Rattle.ic_run.specs.Summaries.{summary_in, FailsToTell}
use Rattle.ic_run.specs.Whys.{why_of_cut}
use Rattle.ic_run.specs.Worlds.{RunsIn, IsUnopened, IsUntried}
use Rattle.ic_run.specs.declared.opening.Opening.TheVariants.{Anew}
use Rattle.ic_run.specs.declared.running.Cut.{Cut}
use Rattle.ic_run.specs.declared.tally.Tally.{Tally}
use Rattle.ic_settle.specs.Policies.{intervals_of}
use Rattle.ic_world.specs.Views.{state_of}
use Rattle.ic_world.specs.declared.world.World.{World}

-- the items of a schedule: each input is a request
abbrev pub items_of : RunTexts → List Item
items_of r = map item_of r.schedule.events

module _ {D : Type 0} {d : disk.Ghosts D} {K : Type 0} (k : sink.Ghosts K) where
  -- all items were worked off, what settles was done unless the run halts, and the whole report was printed
  pub record RunsWhole (r : RunTexts) (old new : World D d) (before after : K) : Type 0 where
    pub tally : Tally
    pub mid : K
    pub ran : RanClients k r.program (intervals_of r.policy) r.policy.report (items_of r) r.schedule.halts old new before mid tally
    pub summary : Puts k (summary_in r.program (not r.schedule.halts) (state_of old) (done_in ran.moments) ∷ []) mid after

  -- all that was done, and its lines were printed, but not the summary
  pub record IsUnsummed (r : RunTexts) (old new : World D d) (before after : K) (why : Why) : Type 0 where
    pub tally : Tally
    pub mid : K
    pub ran : RanClients k r.program (intervals_of r.policy) r.policy.report (items_of r) r.schedule.halts old new before mid tally
    pub fails : FailsToTell k (summary_in r.program (not r.schedule.halts) (state_of old) (done_in ran.moments) ∷ []) mid after why

module _ {D : Type 0} (b : disk.Ghosts D) {d : disk.Ghosts (Torn D)} {K : Type 0} (k : sink.Ghosts K) where
  -- it goes no further, and this is how it is told
  pub record IsCut (r : RunTexts) (old new : World (Torn D) d) (before after : K) (why : Why) : Type 0 where
    pub cut : Cut
    pub told : why ≡ why_of_cut r.fingerprint cut
    pub was : ClientsCut b k r.program (intervals_of r.policy) r.policy.report (items_of r) r.schedule.halts old new before after cut

  -- why a run ends before its end
  abbrev pub RunsShort : RunTexts → World (Torn D) d → World (Torn D) d → K → K → Why → Type 0
  RunsShort r old new before after why = IsCut r old new before after why ⊎ IsUnsummed k r old new before after why

module _ {D : Type 0} (b : disk.Ghosts D) {K : Type 0} (k : sink.Ghosts K) where
  -- a run over the disks of the components
  abbrev pub RunsOver : RunTexts → List D → List D → K → K → Result Unit Why → Type 0
  RunsOver r disks now before after (Ok _) = RunsIn b k (λ old new. RunsWhole k r old new before after) r Anew disks now
  RunsOver r disks now before after (Err why) =
      IsUntried b k disks now before after why ⊎ (((after ≡ before) × IsUnopened b k r Anew disks now why)
      ⊎ RunsIn b k (λ old new. RunsShort b k r old new before after why) r Anew disks now)
