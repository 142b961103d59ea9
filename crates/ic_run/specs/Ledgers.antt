-- The ledger in which the steps of recoveries are counted.
use Rattle.std.specs.Prelude.{◌≡◌, ◌<◌, ℕ}

-- a blank has the name and the parts of a ledger, and at least one part, so that the ledger can be made of it
pub record IsBlankOf (name parts blank_name blank_parts : ℕ) : Type 0 where
  pub named : blank_name ≡ name
  pub counted : blank_parts ≡ parts
  pub some : 0 < blank_parts
