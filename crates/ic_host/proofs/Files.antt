-- The log files of components, one after another.
use Rattle.std.proofs.Common.{◌≡◌, ◌∙◌, ap, sym, arith, ℕ, ◌+◌, List, [], ◌∷◌, ◌++◌, length, map}
use Rattle.std.specs.List.{range_with_len}
use Rattle.std.proofs.lemmas.List.{map_push, length-append}
use Rattle.std.proofs.lemmas.List.FromFn.{map-range_with_len_more}
use Rattle.ic_disk.specs.Memory.{HostDisk}
use Rattle.ic_host.specs.Files.{log_file}

-- behind the disks of the first components comes that of the next one
pub named_on : (program ending : List ℕ) (disks : List HostDisk) (disk : HostDisk) (n : ℕ) → map (λ d. d.name) disks ≡ map (log_file program ending) (range_with_len 0 n) → disk.name ≡ log_file program ending n → map (λ (d : HostDisk). d.name) (disks ++ disk ∷ []) ≡ map (log_file program ending) (range_with_len 0 (n + 1))
named_on program ending disks disk n before is =
    map_push (λ (d : HostDisk). d.name) disks disk ∙ ap (λ names. names ++ disk.name ∷ []) before
    ∙ ap (λ name. map (log_file program ending) (range_with_len 0 n) ++ name ∷ []) is ∙ sym (map-range_with_len_more (log_file program ending) 0 n n (omega arith))

pub one_more : (disks : List HostDisk) (disk : HostDisk) (n : ℕ) → length disks ≡ n → length (disks ++ disk ∷ []) ≡ n + 1
one_more disks disk n is = length-append disks (disk ∷ []) ∙ ap (λ m. m + 1) is
