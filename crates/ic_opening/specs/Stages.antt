-- How a new log comes to stand on its disk.
use Rattle.std.specs.Prelude.{◌≡◌, ◌+◌, ◌≤◌, ℕ, List, [], length, slice_get, Some}
use Rattle.def_log.specs.Images.{LeavesJust}
use Rattle.def_former.specs.Opening.{unopened, IsUnopened, IsWholeOrRefused}
use Rattle.ic_disk.specs.Disk.{Keeps, CrashLeaves}
use Rattle.ic_disk.specs.declared.disk.Disk.{Ghosts}
use Rattle.ic_opening.specs.Disks.{IsAtRest}

-- what holds of the log at a place
abbrev pub OfLog : List (List ℕ) → ℕ → (List ℕ → Type 0) → Type 0
OfLog logs i P = (log : List ℕ) → slice_get logs i ≡ Some log → P log

-- the room that the writes of a log take
abbrev pub room_for : List ℕ → ℕ
room_for log = length log + 97

module _ {D : Type 0} (d : Ghosts D) where
  -- the disk has room for the log, and no byte was written
  pub record HasRoom (log : List ℕ) (old new : D) : Type 0 where
    pub seen : d.tells old → d.seen new ≡ d.seen old
    pub room : room_for log ≤ d.spare new

  -- within the writing of all but the first letter a crash leaves nothing that is taken for a log
  pub record MayHoldPart (old new : D) : Type 0 where
    pub kept : Keeps d old new
    pub crash : IsAtRest d old → CrashLeaves d old new IsUnopened

  -- all but the first letter stands
  pub record HoldsUnopened (log : List ℕ) (old new : D) : Type 0 where
    pub seen : d.tells old → d.seen new ≡ unopened log
    pub rest : d.keeps old → LeavesJust (d.may_leave new) (d.seen new)
    pub room : 33 ≤ d.spare new

  -- within the writing of the first letter a crash leaves the whole log, or nothing that is taken for one
  pub record MayHold (log : List ℕ) (old new : D) : Type 0 where
    pub kept : Keeps d old new
    pub crash : IsAtRest d old → CrashLeaves d old new (IsWholeOrRefused log)

  -- the log stands
  pub record Holds (log : List ℕ) (old new : D) : Type 0 where
    pub seen : d.tells old → d.seen new ≡ log
    pub rest : d.keeps old → LeavesJust (d.may_leave new) (d.seen new)

  module _ (logs : List (List ℕ)) where
    -- the same of each of several disks, by its place
    abbrev pub has_room : ℕ → D → D → Type 0
    has_room i old new = OfLog logs i (λ log. HasRoom log old new)

    abbrev pub may_hold_part : ℕ → D → D → Type 0
    may_hold_part i old new = MayHoldPart old new

    abbrev pub holds_unopened : ℕ → D → D → Type 0
    holds_unopened i old new = OfLog logs i (λ log. HoldsUnopened log old new)

    abbrev pub may_hold : ℕ → D → D → Type 0
    may_hold i old new = OfLog logs i (λ log. MayHold log old new)

    abbrev pub holds : ℕ → D → D → Type 0
    holds i old new = OfLog logs i (λ log. Holds log old new)

    -- the disks are blank and have room
    abbrev pub AreBlankWithRoom : List D → Type 0
    AreBlankWithRoom disks = (i : ℕ) (log : List ℕ) (disk : D) → slice_get logs i ≡ Some log → slice_get disks i ≡ Some disk → (d.tells disk → d.seen disk ≡ []) × (room_for log ≤ d.spare disk)

    -- all but the first letters stand, and there is room for these
    abbrev pub AreUnopened : List D → Type 0
    AreUnopened disks = (i : ℕ) (log : List ℕ) (disk : D) → slice_get logs i ≡ Some log → slice_get disks i ≡ Some disk → (d.tells disk → d.seen disk ≡ unopened log) × (33 ≤ d.spare disk)
