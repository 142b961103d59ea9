-- What a table holds, and for how many more it has room.
use Rattle.std.specs.Prelude.{ℕ}

-- a table is seen as what it holds, beside its room: so many entries can be added without a growth
pub record WithRoom (A : Type 0) : Type 0 where
  pub seen : A
  pub spare : ℕ
