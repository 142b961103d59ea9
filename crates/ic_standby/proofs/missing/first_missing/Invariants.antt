use Rattle.std.proofs.Common.{◌≡◌, drop}
use Rattle.def_standby.specs.Standbys.{first_missing, contents_among}
use Rattle.ic_standby.proofs.missing.first_missing.Given as goal

abbrev pub invariant-loop-stored : goal.invariant-loop-stored
invariant-loop-stored l = first_missing (contents_among l.«com» l.msgs) l.records ≡ first_missing (contents_among l.«com» l.msgs) (drop l.stored-index l.records)
