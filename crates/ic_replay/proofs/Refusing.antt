-- How the refusal of a layer below is that of a replay.
use Rattle.std.proofs.Common.{◌∙◌, ◌+◌, ℕ, List, drop, ap}
use Rattle.std.specs.Option.{option_map, option_and_then}
use Rattle.ic_base.specs.declared.messages.ComId.{ComId}
use Rattle.ic_base.specs.declared.scenario.Program.{Program}
use Rattle.ic_base.specs.declared.record.Record.{Record}
use Rattle.def_state.specs.Vol.{Vol}
use Rattle.def_step.specs.Replay.{recovery_misfit, play_records, misfit_from, behind_checkpoint, passed_over}
use Rattle.ic_replay.specs.declared.refusals.ReplayRefused.{ReplayRefused}
use Rattle.ic_replay.specs.declared.refusals.ReplayRefused.TheVariants.{Misfit, Memory}
use Rattle.ic_replay.specs.Playing.{StopPlaying, counted_from}
use Rattle.ic_replay.specs.Starting.{StartsAt}
use Rattle.ic_replay.specs.Replaying.{FailsToBegin}
use Rattle.ic_replay.proofs.Checkpoints.{passed_is}

-- where the records behind the last checkpoint aren't played, there is no replay
pub fails_to_begin : (program : Program) (c : ComId) (records : List Record) (first : ℕ) (v : Vol) (why : ReplayRefused) → StartsAt program c records first v → StopPlaying program c records v first why → FailsToBegin program c records why
fails_to_begin program c records first v (Misfit i) begins ends = (
  ap (option_and_then (λ (w : Vol). play_records program c w (behind_checkpoint records))) begins.state ∙ ap (play_records program c v) begins.behind ∙ ends.0,
  ap (recovery_misfit program c records) begins.state
      ∙ ap (λ (rs : List Record). option_map (λ i. passed_over records + i) (misfit_from program c v rs)) begins.behind
      ∙ ap (λ n. counted_from n (misfit_from program c v (drop first records))) (passed_is records first begins.behind begins.within)
      ∙ ends.1,
  ends.2,
)
fails_to_begin program c records first v Memory begins ends = tt
