use Rattle.std.proofs.Common.{◌≡◌, ◌+◌, ◌≤◌, length, false, []}
use Rattle.def_syntax.specs.Text.{lines_of, numbered}
use Rattle.def_two.specs.Script.{reads_lines}
use Rattle.ic_script.specs.Reading.{IsSound}
use Rattle.ic_script.specs.Views.{read_so_far}
use Rattle.ic_script.proofs.Lines.{IsRead}
use Rattle.ic_script.proofs.script.read_lines.Given as goal

abbrev pub invariant-loop-line : goal.invariant-loop-line
invariant-loop-line l = record {
  near : l.number + length l.rest ≤ length l.bytes + 1;
  count : l.number + length (lines_of l.rest) ≡ length (lines_of l.bytes) + 1;
  read : IsRead (read_so_far l.so_far) l.so_far.events (numbered l.number (lines_of l.rest)) (reads_lines (record { books = []; moves = 0; in_events = false }) (numbered 1 (lines_of l.bytes)));
  sound : IsSound l.so_far;
}

abbrev pub decreases-loop-line : goal.decreases-loop-line
decreases-loop-line l = length l.rest
