use Rattle.std.proofs.Common.{◌≡◌, ◌≤◌, length}
use Rattle.std.specs.Vec.{vec_len, vec_capacity}
use Rattle.ic_migrate.proofs.Formers.{ReadTo}
use Rattle.ic_migrate.proofs.reading.read_all.Given as goal

abbrev pub invariant-loop-i : goal.invariant-loop-i
invariant-loop-i g l = record {
  so_far : ReadTo g.D.Disk l.fingerprint l.coms l.fn.disks l.i l.disks l.logs.items;
  len : vec_len l.logs ≡ l.i;
  room : length l.coms ≤ vec_capacity l.logs;
  within : l.i ≤ length l.coms;
}
