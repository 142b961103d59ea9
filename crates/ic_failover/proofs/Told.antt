-- How a run with a standby over a world ends, with its summary.
use Rattle.std.proofs.Common.{◌≡◌, refl, ap, sym, subst, ℕ, Some, ◌<◌, [], ◌∷◌, OnOk, IfErr}
use Rattle.std.specs.Prelude.{Result, Ok, Err}
use Rattle.ic_base.specs.declared.messages.ComId.{ComId}
use Rattle.ic_base.specs.declared.scenario.Program.{Program}
use Rattle.def_standby.specs.Standbys as definition
use Rattle.def_standby.specs.Standbys.{Arises, first_standby}
use Rattle.ic_standby.specs.Views.{standby_of, com_of}
use Rattle.ic_standby.specs.declared.standby.Standby.{Standby}
use Rattle.ic_failover.specs.declared.side.Side.TheVariants.{Stands}
use Rattle.ic_disk.specs.declared.disk.Disk as disk
use Rattle.ic_disk.specs.declared.sink.Sink as sink
use Rattle.ic_failover.specs.Carrying.{WentThrough, stage_of}
use Rattle.ic_failover.specs.Sides.{IsOwn, beside_of, first_beside}
use Rattle.ic_failover.specs.Worlds.{Begins, RunsWhole, IsUnsummed, summary_with}
use Rattle.ic_failover.specs.declared.side.Side.{Side}
use Rattle.ic_failover.specs.declared.texts.FailoverTexts.{FailoverTexts}
use Rattle.ic_report.specs.Outputs.{Puts}
use Rattle.ic_report.specs.declared.ending.Why.{Why}
use Rattle.ic_run.specs.Summaries.{FailsToTell}
use Rattle.ic_run.specs.Tallies.{Counts}
use Rattle.ic_run.specs.declared.tally.Tally.{Tally}
use Rattle.ic_world.specs.Acting.{GREATEST}
use Rattle.ic_world.specs.Views.{played_of}
use Rattle.ic_world.specs.declared.world.World.{World}

module _ {D : Type 0} {d : disk.Ghosts D} {K : Type 0} (k : sink.Ghosts K) (r : FailoverTexts) (old new : World D d) (before mid after : K) (side : Side) (none : Tally) (fresh : beside_of side ≡ first_beside r.program r.who) (counts : Counts [] none) (first : none.events ≡ 0) where
  pub begins_there : Begins r old before (stage_of old side none before)
  begins_there = record { world = refl; beside = fresh; counts = counts; numbered = first; out_is = refl }

  module _ (shipped : ℕ) (tally : Tally) (went : WentThrough k r (stage_of old side none before) new mid shipped tally) where
    pub run_whole : {T : Type 0} (result : Result T Why) → OnOk result (Puts k (summary_with r tally shipped new ∷ []) mid after) → OnOk result (played_of new < GREATEST) → OnOk result (RunsWhole k r old new before after)
    run_whole (Ok x) summary few = record { tally = tally; shipped = shipped; mid = mid; through = record { first = stage_of old side none before; begins = begins_there; went = went }; few = few; summary = summary }
    run_whole (Err why) summary few = tt

    pub run_unsummed : {T : Type 0} (result : Result T Why) → IfErr result (FailsToTell k (summary_with r tally shipped new ∷ []) mid after) → IfErr result (IsUnsummed k r old new before after)
    run_unsummed (Ok x) fails = tt
    run_unsummed (Err why) fails = record { tally = tally; shipped = shipped; mid = mid; through = record { first = stage_of old side none before; begins = begins_there; went = went }; fails = fails }

-- a standby that has played nothing is one of its component
pub own_first : (program : Program) (c : ComId) (s : Standby) → standby_of s ≡ first_standby program c → com_of s ≡ c → IsOwn program c (Stands s)
own_first program c s first which = (which, subst (λ (z : definition.Standby). Arises program c z.state) (sym first) (record { shipments = []; made = refl }))

pub fresh_first : (program : Program) (c : ComId) (s : Standby) → standby_of s ≡ first_standby program c → beside_of (Stands s) ≡ first_beside program c
fresh_first program c s first = ap (λ (z : definition.Standby). record { side = Some z; shipped = z.have }) first
