-- A run with a standby over the disks of the components: the world that starts over them, and what is done in it.
use Rattle.std.specs.Prelude.{◌≡◌, ◌<◌, ◌⊎◌, ℕ, ◌+◌, not, List, [], ◌∷◌, Result, Ok, Err}
use Rattle.def_report.specs.Summaries.{summary_lines}
use Rattle.ic_disk.specs.TornDisks.{Torn}
use Rattle.ic_disk.specs.declared.disk.Disk as disk
use Rattle.ic_disk.specs.declared.sink.Sink as sink
use Rattle.ic_failover.specs.Carrying.{Stage, WentThrough, FailsToCarryAll, FailsToSettle}
use Rattle.ic_failover.specs.Sides.{first_beside}
use Rattle.ic_failover.specs.declared.texts.FailoverTexts.{FailoverTexts}
use Rattle.ic_plan.specs.declared.run_texts.RunTexts.{RunTexts}
use Rattle.ic_report.specs.Outputs.{Puts}
use Rattle.ic_report.specs.declared.ending.Why.{Why}
use Rattle.ic_report.specs.declared.ending.Why.TheVariants.{Print, Memory}
use Rattle.ic_run.specs.Summaries.{summed, FailsToTell}
use Rattle.ic_run.specs.Tallies.{Counts}
use Rattle.ic_run.specs.Whys.{why_of_cut}
use Rattle.ic_run.specs.Worlds.{RunsIn, IsUnopened, IsUntried}
use Rattle.ic_run.specs.declared.opening.Opening.TheVariants.{Anew}
use Rattle.ic_run.specs.declared.running.Cut.{Cut}
use Rattle.ic_run.specs.declared.running.Cut.TheVariants as cuts
use Rattle.ic_run.specs.declared.tally.Tally.{Tally}
use Rattle.ic_world.specs.Acting.{GREATEST}
use Rattle.ic_world.specs.Views.{world_of, played_of}
use Rattle.ic_world.specs.declared.world.World.{World}

-- as the texts of a run whose schedule has no events
abbrev pub as_texts : FailoverTexts → RunTexts
as_texts r = record { program = r.program; fingerprint = r.fingerprint; schedule = record { events = []; halts = r.orders.halts }; policy = r.policy }

module _ {D : Type 0} {d : disk.Ghosts D} where
  -- what a run came to, with the records that the world played and those that were shipped
  abbrev pub summary_with : FailoverTexts → Tally → ℕ → World D d → List ℕ
  summary_with r tally shipped w = summary_lines r.program (summed r.program (not r.orders.halts) tally (played_of w + shipped) (world_of w))

module _ {D : Type 0} {d : disk.Ghosts D} {K : Type 0} where
  -- a world and an output before anything is done, with a standby that has played nothing and nothing counted
  pub record Begins (r : FailoverTexts) (w : World D d) (out : K) (a : Stage d K) : Type 0 where
    pub world : a.world ≡ w
    pub beside : a.beside ≡ first_beside r.program r.who
    pub counts : Counts [] a.tally
    pub numbered : a.tally.events ≡ 0
    pub out_is : a.out ≡ out

  module _ (k : sink.Ghosts K) (r : FailoverTexts) (old new : World D d) (before : K) where
    -- all was done that was to be done
    pub record RunsThrough (mid : K) (shipped : ℕ) (tally : Tally) : Type 0 where
      pub first : Stage d K
      pub begins : Begins r old before first
      pub went : WentThrough k r first new mid shipped tally

    -- and the whole report was printed
    pub record RunsWhole (after : K) : Type 0 where
      pub tally : Tally
      pub shipped : ℕ
      pub mid : K
      pub through : RunsThrough mid shipped tally
      -- the records that were played can be counted
      pub few : played_of new < GREATEST
      pub summary : Puts k (summary_with r tally shipped new ∷ []) mid after

    -- but the summary wasn't printed
    pub record IsUnsummed (after : K) (why : Why) : Type 0 where
      pub tally : Tally
      pub shipped : ℕ
      pub mid : K
      pub through : RunsThrough mid shipped tally
      pub fails : FailsToTell k (summary_with r tally shipped new ∷ []) mid after why

module _ {D : Type 0} (b : disk.Ghosts D) {d : disk.Ghosts (Torn D)} {K : Type 0} (k : sink.Ghosts K) where
  -- it goes no further: an order isn't carried out, or what settles isn't done, or not told
  pub record StopsShort (r : FailoverTexts) (old new : World (Torn D) d) (before after : K) (cut : Cut) : Type 0 where
    pub first : Stage d K
    pub begins : Begins r old before first
    pub was : FailsToCarryAll b k r first new after cut ⊎ FailsToSettle b k r first new after cut

  -- the output failed, or memory is wanting; that may be so for a standby, before anything is done
  abbrev pub RunsUntold : FailoverTexts → World (Torn D) d → World (Torn D) d → K → K → Why → Type 0
  RunsUntold r old new before after why =
      ((why ≡ Print) × StopsShort r old new before after cuts.Print) ⊎ (((why ≡ Memory) × StopsShort r old new before after cuts.Memory)
      ⊎ (IsUnsummed k r old new before after why ⊎ ((why ≡ Memory) × (new ≡ old) × (after ≡ before))))

  -- it goes no further, and this is how it is told
  pub record IsCut (r : FailoverTexts) (old new : World (Torn D) d) (before after : K) (why : Why) : Type 0 where
    pub cut : Cut
    pub told : why ≡ why_of_cut r.fingerprint cut
    pub short : StopsShort r old new before after cut

  -- why a run ends before its end; there may be no memory for a standby
  abbrev pub RunsShort : FailoverTexts → World (Torn D) d → World (Torn D) d → K → K → Why → Type 0
  RunsShort r old new before after why = IsCut r old new before after why ⊎ (IsUnsummed k r old new before after why ⊎ ((why ≡ Memory) × (new ≡ old) × (after ≡ before)))

module _ {D : Type 0} (b : disk.Ghosts D) {K : Type 0} (k : sink.Ghosts K) where
  -- a run over the disks of the components
  abbrev pub RunsOver : FailoverTexts → List D → List D → K → K → Result Unit Why → Type 0
  RunsOver r disks now before after (Ok _) = RunsIn b k (λ old new. RunsWhole k r old new before after) (as_texts r) Anew disks now
  RunsOver r disks now before after (Err why) =
      IsUntried b k disks now before after why ⊎ (((after ≡ before) × IsUnopened b k (as_texts r) Anew disks now why)
      ⊎ RunsIn b k (λ old new. RunsShort b k r old new before after why) (as_texts r) Anew disks now)
