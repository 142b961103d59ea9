-- A value beside the room that it has.
use Rattle.std.specs.Prelude.{ℕ}

-- what is held, and how much more it can hold without memory
pub record Roomy (A : Type 0) : Type 0 where
  pub held : A
  pub spare : ℕ
