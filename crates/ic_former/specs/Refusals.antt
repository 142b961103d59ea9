-- What may refuse a log of the former format.
use Rattle.std.specs.Prelude.{ℕ, List}
use Rattle.def_former.specs.Frame.{IsFormerForeign}
use Rattle.ic_disk.specs.declared.disk.DiskError.{DiskError}
use Rattle.ic_disk.specs.declared.disk.DiskError.TheVariants as disk
use Rattle.ic_former.specs.declared.refusals.LoadWhy.{LoadWhy}
use Rattle.ic_former.specs.declared.refusals.LoadWhy.TheVariants.{Bad, Foreign, Failed, Stopped, Memory}

-- what a device's refusal is to a load
abbrev pub why_of : DiskError → LoadWhy
why_of disk.Failed = Failed
why_of disk.Stopped = Stopped
why_of disk.Memory = Memory

-- the log is of no other scenario
abbrev pub IsNotForeign : List ℕ → List ℕ → Type 0
IsNotForeign given bytes = (kept : List ℕ) → ¬ IsFormerForeign given bytes kept

-- a place of the frame or want of memory, and no device
abbrev pub IsOfFrame : LoadWhy → Type 0
IsOfFrame (Bad place) = Unit {0}
IsOfFrame (Foreign kept) = ⊥
IsOfFrame Failed = ⊥
IsOfFrame Stopped = ⊥
IsOfFrame Memory = Unit {0}

-- what a file holds or want of memory, and no device
abbrev pub IsOfFile : LoadWhy → Type 0
IsOfFile (Bad place) = Unit {0}
IsOfFile (Foreign kept) = Unit {0}
IsOfFile Failed = ⊥
IsOfFile Stopped = ⊥
IsOfFile Memory = Unit {0}
