-- Records with the places at which they begin, and the limits that a record's writer keeps to.
use Rattle.std.specs.Prelude.{◌≡◌, ◌≤◌, ◌<◌, ◌^◌, ℕ, List, ◌++◌, length, Option, Some, None, Result, Ok}
use Rattle.std.specs.List.{AllByRecursion}
use Rattle.ic_base.specs.declared.limits.TheConstants.{GREATEST_NUMBER, REQUESTS}
use Rattle.ic_base.specs.declared.messages.AbortCause.{AbortCause}
use Rattle.ic_base.specs.declared.messages.AbortCause.TheVariants as causes
use Rattle.ic_base.specs.declared.record.Record.{Record}
use Rattle.ic_base.specs.declared.record.Record.TheVariants.{Take, TakeWhole, Input, Value, Outcome, Released, Shown, Checkpoint, Epoch, Decided}
use Rattle.def_log.specs.Log.{Placed}
use Rattle.def_log.specs.Spelling.{IsCount, IsCom, Fits}

-- the fields of the record are as a log has them
abbrev pub PlacedFits : Placed → Type 0
PlacedFits r = Fits r.1

-- behind the records before stand those that were read
pub record AreMore (before : List Placed) (read : Result (List Placed) ℕ) (all : List Placed) : Type 0 where
  pub more : List Placed
  pub are : read ≡ Ok more
  pub fit : AllByRecursion PlacedFits more
  pub behind : all ≡ before ++ more

abbrev pub IsCountedCause : Option AbortCause → Type 0
IsCountedCause None = Unit {0}
IsCountedCause (Some (causes.Need line)) = Unit {0}
IsCountedCause (Some (causes.Held holder n)) = IsCom holder × IsCount n
IsCountedCause (Some (causes.Epoch old present)) = (old ≤ GREATEST_NUMBER) × (present ≤ GREATEST_NUMBER)

-- no number of the record passes its limit; what its types hold anyway isn't said
abbrev pub IsCounted : Record → Type 0
IsCounted (Take from k stamp) = IsCom from × IsCount k × (stamp ≤ GREATEST_NUMBER)
IsCounted (TakeWhole from k stamp handler args) = IsCom from × IsCount k × (stamp ≤ GREATEST_NUMBER)
IsCounted (Input stamp handler args) = stamp ≤ GREATEST_NUMBER
IsCounted (Value n place s x) = IsCount n × (s.epoch ≤ GREATEST_NUMBER) × (s.counter ≤ GREATEST_NUMBER)
IsCounted (Outcome stamp n abort) = (stamp ≤ GREATEST_NUMBER) × IsCount n × IsCountedCause abort
IsCounted (Released to k) = IsCom to × IsCount k
IsCounted (Shown m) = IsCount m
IsCounted (Checkpoint image) = length image < 2 ^ 32
IsCounted (Epoch epoch) = epoch ≤ GREATEST_NUMBER
IsCounted (Decided stamp c n writes) = (stamp ≤ GREATEST_NUMBER) × IsCom c × IsCount n × (length writes ≤ REQUESTS)
