use Rattle.std.proofs.Common.{◌≡◌, length, map}
use Rattle.std.specs.List.{range_with_len}
use Rattle.ic_host.specs.Files.{log_file}
use Rattle.ic_host.proofs.disks_of.Given as goal

abbrev pub invariant-loop-index : goal.invariant-loop-index
invariant-loop-index l = (length l.disks.items ≡ l.index) × (map (λ d. d.name) l.disks.items ≡ map (log_file l.fn.program l.fn.ending) (range_with_len 0 l.index))
