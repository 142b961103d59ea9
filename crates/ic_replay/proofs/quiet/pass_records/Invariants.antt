use Rattle.std.proofs.Common.{◌≡◌, ◌+◌, ◌-◌, true, drop}
use Rattle.def_state.specs.Vol.{numbers_fit}
use Rattle.def_step.specs.Replay as replay
use Rattle.ic_ckpt.specs.Views.{seen}
use Rattle.ic_replay.specs.Playing.{counted_from}
use Rattle.ic_replay.specs.Quiet.{are_quiet, up_to_waiting}
use Rattle.ic_replay.proofs.quiet.pass_records.Given as goal

abbrev pub invariant-loop-next : goal.invariant-loop-next
invariant-loop-next g l = record {
  playing : replay.play_records l.program l.«com» (seen l.fn.state) (drop l.first l.records) ≡ replay.play_records l.program l.«com» (seen l.state) (drop l.next l.records);
  place : counted_from l.first (replay.misfit_from l.program l.«com» (seen l.fn.state) (drop l.first l.records)) ≡ counted_from l.next (replay.misfit_from l.program l.«com» (seen l.state) (drop l.next l.records));
  limits : numbers_fit (seen l.state) ≡ true;
  steps : l.steps + l.first ≡ l.fn.steps + l.next;
  quiet : are_quiet (drop l.next l.records) ≡ true;
  run : drop (l.next - l.first) l.run ≡ up_to_waiting (drop l.next l.records);
}
