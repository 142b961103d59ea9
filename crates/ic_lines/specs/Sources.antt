-- What the sources of lines hold.
use Rattle.std.specs.Prelude.{ℕ, Bool, List}
use Rattle.ic_disk.specs.Calls.{Tally}

-- a text in memory: the bytes that are left, and the calls
pub record MemoryLines : Type 0 where
  pub left : List ℕ
  pub calls : Tally

-- a reader, how often a read failed, and whether one did so
pub record LinesOf (B : Type 0) : Type 0 where
  pub reader : B
  pub faults : ℕ
  pub broken : Bool
