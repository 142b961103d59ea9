-- How a run with clients over a world ends, with its summary.
use Rattle.std.proofs.Common.{◌≡◌, ap, subst, refl, ℕ, ◌<◌, List, [], ◌∷◌}
use Rattle.std.specs.Prelude.{not}
use Rattle.def_report.specs.Summaries.{summary_lines}
use Rattle.def_run.specs.Reports.{played_in}
use Rattle.def_run.specs.SystemStates.{SystemState}
use Rattle.ic_disk.specs.declared.disk.Disk as disk
use Rattle.ic_disk.specs.declared.sink.Sink as sink
use Rattle.ic_plan.specs.declared.run_texts.RunTexts.{RunTexts}
use Rattle.ic_report.specs.Outputs.{Puts}
use Rattle.ic_report.specs.declared.ending.Why.{Why}
use Rattle.ic_report.specs.declared.ending.Why.TheVariants.{Fault as AFault, Print, Memory}
use Rattle.ic_run.specs.Summaries.{summed, summary_in, FailsToTell}
use Rattle.ic_run.specs.declared.tally.Tally.{Tally}
use Rattle.ic_run.proofs.Summaries.{summary-same, exact}
use Rattle.ic_settle.specs.Policies.{intervals_of}
use Rattle.ic_world.specs.Acting.{GREATEST}
use Rattle.ic_world.specs.Views.{world_of, state_of, played_of}
use Rattle.ic_world.specs.declared.world.World.{World}
use Rattle.ic_clients.specs.Moments.{done_in}
use Rattle.ic_clients.specs.Working.{RanClients}
use Rattle.ic_clients.specs.Worlds.{items_of, RunsWhole, IsUnsummed}

module _ (r : RunTexts) {D : Type 0} {d : disk.Ghosts D} {K : Type 0} (k : sink.Ghosts K) (old new : World D d) (before mid after : K) (tally : Tally) (ran : RanClients k r.program (intervals_of r.policy) r.policy.report (items_of r) r.schedule.halts old new before mid tally) (unplayed : played_of old ≡ 0) where
  -- the lines of the summary that is printed
  abbrev pub lines : List ℕ
  lines = summary_lines r.program (summed r.program (not r.schedule.halts) tally (played_of new) (world_of new))

  lines-are : played_of new < GREATEST → lines ≡ summary_in r.program (not r.schedule.halts) (state_of old) (done_in ran.moments)
  lines-are few =
      ap (summary_lines r.program) (summary-same r.program (not r.schedule.halts) (state_of old) (done_in ran.moments) (world_of new) tally (played_of new) ran.counts
      (ap (λ (s : SystemState). s.world) ran.leads.ends) (exact (played_of old) (played_in (state_of old) (done_in ran.moments)) (played_of new) ran.leads.played unplayed few))

  pub run-whole : Puts k (lines ∷ []) mid after → played_of new < GREATEST → RunsWhole k r old new before after
  run-whole summary few = record { tally = tally; mid = mid; ran = ran; summary = subst (λ l. Puts k (l ∷ []) mid after) (lines-are few) summary }

  pub run-unsummed : (why : Why) → FailsToTell k (lines ∷ []) mid after why → (why ≡ Print → played_of new < GREATEST) → IsUnsummed k r old new before after why
  run-unsummed why fails few = record { tally = tally; mid = mid; ran = ran; fails = by why fails few }
    where
      by : (w : Why) → FailsToTell k (lines ∷ []) mid after w → (w ≡ Print → played_of new < GREATEST) → FailsToTell k (summary_in r.program (not r.schedule.halts) (state_of old) (done_in ran.moments) ∷ []) mid after w
      by (AFault fault) f g = absurd f
      by Print f g = subst (λ l. FailsToTell k (l ∷ []) mid after Print) (lines-are (g refl)) f
      by Memory f g = f
