use Rattle.std.proofs.Common.{◌≡◌, ◌+◌, true, drop}
use Rattle.def_standby.specs.Standbys.{contents_among, play_all, stops_at}
use Rattle.def_state.specs.Vol.{numbers_fit}
use Rattle.ic_ckpt.specs.Views.{seen}
use Rattle.ic_replay.specs.Playing.{counted_from}
use Rattle.ic_standby.proofs.play.play_through.Given as goal

abbrev pub invariant-loop-next : goal.invariant-loop-next
invariant-loop-next g l = record {
  playing : play_all l.program l.«com» (contents_among l.«com» l.msgs) (seen l.fn.state) (drop l.have l.records) ≡ play_all l.program l.«com» (contents_among l.«com» l.msgs) (seen l.state) (drop l.next l.records);
  place : counted_from l.have (stops_at l.program l.«com» (contents_among l.«com» l.msgs) (seen l.fn.state) (drop l.have l.records)) ≡ counted_from l.next (stops_at l.program l.«com» (contents_among l.«com» l.msgs) (seen l.state) (drop l.next l.records));
  limits : numbers_fit (seen l.state) ≡ true;
  steps : l.steps + l.have ≡ l.fn.steps + l.next;
}
