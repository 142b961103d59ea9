use Rattle.std.proofs.Common.{◌≡◌}
use Rattle.def_play.specs.Ledger.{whole_part}
use Rattle.def_plain.specs.Cell.{hand_played}
use Rattle.ic_model.specs.Views.{talk_seen}
use Rattle.ic_model.proofs.Talking.{part_behind}
use Rattle.ic_model.proofs.whole.whole_part.Given as goal

abbrev pub invariant-loop : goal.invariant-loop
invariant-loop l = part_behind (hand_played l.program l.«com» l.pcom l.hand) l.counter (talk_seen l.talk) ≡ whole_part (hand_played l.program l.«com» l.pcom l.hand) l.fn.ledger
