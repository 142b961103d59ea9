use Rattle.std.proofs.Common.{◌≡◌, drop}
use Rattle.std.specs.Prelude.{find}
use Rattle.def_standby.specs.Standbys.{goes_to}
use Rattle.ic_standby.proofs.play.content_among.Given as goal

abbrev pub invariant-loop-msg : goal.invariant-loop-msg
invariant-loop-msg l = find (goes_to l.«com» l.from l.k) l.msgs ≡ find (goes_to l.«com» l.from l.k) (drop l.msg-index l.msgs)
