-- How a run over a world ends, with its summary.
use Rattle.std.proofs.Common.{◌≡◌, ap, subst, refl, ℕ, suc, ◌<◌, List, [], ◌∷◌, None}
use Rattle.std.specs.Prelude.{not}
use Rattle.def_report.specs.Summaries.{summary_lines}
use Rattle.def_run.specs.Executions.{Agenda}
use Rattle.def_run.specs.Reports.{played_in}
use Rattle.def_run.specs.SystemStates.{SystemState, traces_of}
use Rattle.ic_disk.specs.TornDisks.{Torn}
use Rattle.ic_disk.specs.declared.disk.Disk as disk
use Rattle.ic_disk.specs.declared.sink.Sink as sink
use Rattle.ic_run.specs.Running.{pieces_of, event_pieces, lines_behind, Goes, AllOutlast, Executed, WasCut}
use Rattle.ic_run.specs.Tallies.{Counts}
use Rattle.ic_run.specs.declared.running.Cut.{Cut}
use Rattle.ic_run.specs.declared.tally.Tally.{Tally}
use Rattle.ic_report.specs.Outputs.{Puts}
use Rattle.ic_report.specs.declared.ending.Why.{Why}
use Rattle.ic_report.specs.declared.ending.Why.TheVariants.{Fault as AFault, Print, Memory}
use Rattle.ic_report.proofs.Outputs.{puts_then}
use Rattle.ic_settle.specs.Policies.{intervals_of}
use Rattle.ic_plan.specs.declared.run_texts.RunTexts.{RunTexts}
use Rattle.ic_world.specs.Acting.{GREATEST}
use Rattle.ic_world.specs.Views.{world_of, state_of, played_of}
use Rattle.ic_world.specs.declared.world.World.{World}
use Rattle.ic_run.specs.Summaries.{summed, summary_in, FailsToTell}
use Rattle.ic_run.specs.Worlds.{RunsWhole, IsUnsummed, lines_of, agenda_of}
use Rattle.ic_run.proofs.Summaries.{summary-same, exact}

-- From a tally that counts nothing, with the schedule as the agenda ------------------------------------

module _ (r : RunTexts) (a : Agenda) (none : Tally) (all : a ≡ agenda_of r) (first : none.events ≡ 0) where
  module _ {D : Type 0} (b : disk.Ghosts D) {d : disk.Ghosts (Torn D)} {K : Type 0} (k : sink.Ghosts K) where
    pub cut-anew : (old new : World (Torn D) d) (before after : K) (cut : Cut) → WasCut b k r.program (intervals_of r.policy) (pieces_of r.program r.policy.report) none.events a old new before after cut → WasCut b k r.program (intervals_of r.policy) (pieces_of r.program r.policy.report) 0 (agenda_of r) old new before after cut
    cut-anew old new before after cut was =
        subst (λ n. WasCut b k r.program (intervals_of r.policy) (pieces_of r.program r.policy.report) n (agenda_of r) old new before after cut) first
        (subst (λ z. WasCut b k r.program (intervals_of r.policy) (pieces_of r.program r.policy.report) none.events z old new before after cut) all was)

  module _ {D : Type 0} {d : disk.Ghosts D} {K : Type 0} (k : sink.Ghosts K) (old new : World D d) (before mid after : K) (tally : Tally) where
    -- the lines of the summary that is printed
    abbrev pub lines : List ℕ
    lines = summary_lines r.program (summed r.program (not r.schedule.halts) tally (played_of new) (world_of new))

    module _ (nothing : Counts [] none) (done : Executed k r.program (intervals_of r.policy) (pieces_of r.program r.policy.report) none a old new before mid tally) (unplayed : played_of old ≡ 0) where
      lines-are : played_of new < GREATEST → lines ≡ summary_in r.program (not r.schedule.halts) (state_of old) done.transitions
      lines-are few =
          ap (summary_lines r.program) (summary-same r.program (not r.schedule.halts) (state_of old) done.transitions (world_of new) tally (played_of new) (done.counts [] nothing)
          (ap (λ (s : SystemState). s.world) done.goes.ends) (exact (played_of old) (played_in (state_of old) done.transitions) (played_of new) done.goes.played unplayed few))

      goes : Goes r.program (intervals_of r.policy) (agenda_of r) old done.transitions done.agenda new
      goes = subst (λ z. Goes r.program (intervals_of r.policy) z old done.transitions done.agenda new) all done.goes

      printed : Puts k (event_pieces r.program r.policy.report 1 (traces_of done.transitions)) before mid
      printed = subst (λ n. Puts k (event_pieces r.program r.policy.report (suc n) (traces_of done.transitions)) before mid) first done.printed

      outlast : AllOutlast k r.program (lines_of r) old new before done.transitions None
      outlast = subst (λ n. AllOutlast k r.program (lines_behind (pieces_of r.program r.policy.report) n) old new before done.transitions None) first done.outlast

      pub run-whole : Puts k (lines ∷ []) mid after → played_of new < GREATEST → RunsWhole k r old new before after
      run-whole summary few = record {
        transitions = done.transitions;
        agenda = done.agenda;
        goes = goes;
        nothing = done.nothing;
        printed = puts_then k (event_pieces r.program r.policy.report 1 (traces_of done.transitions)) (summary_in r.program (not r.schedule.halts) (state_of old) done.transitions ∷ []) before mid after printed (subst (λ l. Puts k (l ∷ []) mid after) (lines-are few) summary);
        outlast = outlast;
      }

      pub run-unsummed : (why : Why) → FailsToTell k (lines ∷ []) mid after why → (why ≡ Print → played_of new < GREATEST) → IsUnsummed k r old new before after why
      run-unsummed why fails few = record {
        transitions = done.transitions;
        agenda = done.agenda;
        goes = goes;
        nothing = done.nothing;
        mid = mid;
        printed = printed;
        fails = by why fails few;
        outlast = outlast;
      }
        where
          by : (w : Why) → FailsToTell k (lines ∷ []) mid after w → (w ≡ Print → played_of new < GREATEST) → FailsToTell k (summary_in r.program (not r.schedule.halts) (state_of old) done.transitions ∷ []) mid after w
          by (AFault fault) f g = absurd f
          by Print f g = subst (λ l. FailsToTell k (l ∷ []) mid after Print) (lines-are (g refl)) f
          by Memory f g = f
