-- How often devices have failed, and the status of a call that did all it was asked for.
use Rattle.std.specs.Prelude.{ℕ, List, map, Option, is_some, if◌then◌else◌}
use Rattle.std.specs.List.{position, zip}
use Rattle.ic_disk.specs.Causes.{has_risen}
use Rattle.ic_disk.specs.declared.disk.Disk as disk
use Rattle.ic_disk.specs.declared.sink.Sink as sink
use Rattle.ic_disk.specs.declared.texts.Texts as texts

-- the counts of faults of the texts, of the output and of each disk
pub record Counts : Type 0 where
  pub texts : ℕ
  pub output : ℕ
  pub disks : List ℕ

module _ {T : Type 0} (t : texts.Ghosts T) {K : Type 0} (k : sink.Ghosts K) {D : Type 0} (b : disk.Ghosts D) where
  abbrev pub counts_of : T → K → List D → Counts
  counts_of texts out disks = record { texts = t.faults texts; output = k.faults out; disks = map b.faults disks }

  -- the first disk whose count rose, if one did
  abbrev pub first_risen : List ℕ → List D → Option ℕ
  first_risen counts disks = position (λ p. has_risen p.0 (b.faults p.1)) (zip counts disks)

  -- 0 where no count has risen since these; else the status of a fault of the texts, of a disk or of the output
  abbrev pub status_since : Counts → T → K → List D → ℕ
  status_since counts texts out disks =
      if has_risen counts.texts (t.faults texts) then 8 else
      (if is_some (first_risen counts.disks disks) then 10 else
      (if has_risen counts.output (k.faults out) then 9 else 0))
