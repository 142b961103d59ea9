-- Records of which the kinds are kept, and the bytes until they are dropped.
use Rattle.std.specs.Prelude.{◌≡◌, ℕ, ◌+◌, List, [], ◌∷◌, length, map, Option, Some, None, IfSome}
use Rattle.std.specs.List.{AllByRecursion}
use Rattle.ic_base.specs.declared.record.Record.{Record}
use Rattle.ic_base.specs.declared.record.Record.TheVariants.{Take, TakeWhole, Input, Value, Outcome, Released, Shown, Checkpoint, Epoch, Decided}
use Rattle.def_log.specs.Log.{Placed, records_in, records_of}
use Rattle.def_log.specs.Spelling.{spelling, spellings, Fits}
use Rattle.ic_gate.specs.RecordFiles.{read_or_none}
use Rattle.ic_gate.specs.RecordLoads.{LoadsRecords}
use Rattle.ic_gate.specs.declared.log.Log.{Log}
use Rattle.ic_disk.specs.declared.disk.Disk.{Ghosts}

-- the number of a record's kind, with which its spelling begins
abbrev pub tag_of : Record → ℕ
tag_of (Take from k stamp) = 1
tag_of (TakeWhole from k stamp handler xs) = 2
tag_of (Input stamp handler xs) = 3
tag_of (Value n place s x) = 4
tag_of (Outcome stamp n abort) = 5
tag_of (Released to k) = 6
tag_of (Shown m) = 7
tag_of (Checkpoint image) = 8
tag_of (Epoch epoch) = 9
tag_of (Decided stamp c n writes) = 10

-- what stays of a record whose bytes are dropped: that number, but an outcome that aborted has one of its own
abbrev pub kind_of : Record → ℕ
kind_of (Take from k stamp) = 1
kind_of (TakeWhole from k stamp handler xs) = 2
kind_of (Input stamp handler xs) = 3
kind_of (Value n place s x) = 4
kind_of (Outcome stamp n None) = 5
kind_of (Outcome stamp n (Some cause)) = 11
kind_of (Released to k) = 6
kind_of (Shown m) = 7
kind_of (Checkpoint image) = 8
kind_of (Epoch epoch) = 9
kind_of (Decided stamp c n writes) = 10

-- where each of some records ends among their bytes
abbrev pub ends_of : List Record → List ℕ
ends_of [] = []
ends_of (r ∷ rs) = length (spelling r) ∷ map (λ end. length (spelling r) + end) (ends_of rs)

-- the records that bytes are, or none
abbrev pub decoded : List ℕ → List Record
decoded bytes = read_or_none (records_of bytes)

-- the bytes are these records, which end here among them
pub record Encode (bytes ends : List ℕ) (rs : List Record) : Type 0 where
  pub spelled : bytes ≡ spellings rs
  pub fit : AllByRecursion Fits rs
  pub ended : ends ≡ ends_of rs

-- the kinds are those of these records, and so are the bytes, where they are there
pub record AreKept (rs : List Record) (kinds : List ℕ) (spelled : Option (List Record)) : Type 0 where
  pub kinds_are : kinds ≡ map kind_of rs
  pub spelled_are : IfSome spelled (λ all. all ≡ rs)

module _ {D : Type 0} (d : Ghosts D) where
  -- the log that stands on the disk is loaded with its records, without their places
  pub record LoadsEncoded (old : D) (fingerprint : List ℕ) (owner : ℕ) (loaded : Log D d × List Record) : Type 0 where
    pub placed : List Placed
    pub loads : LoadsRecords d old fingerprint owner (loaded.0, placed)
    pub same : loaded.1 ≡ records_in placed
