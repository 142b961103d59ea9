use Rattle.std.proofs.Common.{◌≤◌, vec_len}
use Rattle.ic_disk.proofs.file_texts.read_whole.Given as goal

abbrev pub invariant-pieces : goal.invariant-pieces
invariant-pieces g l = vec_len l.text ≤ l.limit
