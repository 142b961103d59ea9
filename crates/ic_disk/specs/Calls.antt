-- The calls of a memory form, of which some fail by their numbers.
use Rattle.std.specs.Prelude.{ℕ, ◌+◌, ◌-◌, ◌^◌, ◌==◌, min, List, Bool, if◌then◌else◌}
use Rattle.std.specs.List.{list_any}

-- the numbers, from 1, of the calls that fail; how many calls were made, and how many failed
pub record Tally : Type 0 where
  pub failing : List ℕ
  pub made : ℕ
  pub faults : ℕ

-- before the first call
abbrev pub no_calls : List ℕ → Tally
no_calls failing = record { failing = failing; made = 0; faults = 0 }

-- a count gone up by one; it stands still at 2^64 - 1
abbrev pub one_more : ℕ → ℕ
one_more n = min (n + 1) (2 ^ 64 - 1)

-- whether the next call fails by its number
abbrev pub fails_next : Tally → Bool
fails_next t = list_any (λ n. n == one_more t.made) t.failing

-- the counts after one more call, which failed or not
abbrev pub after_call : Bool → Tally → Tally
after_call failed t = record t { made = one_more t.made; faults = if failed then one_more t.faults else t.faults }
