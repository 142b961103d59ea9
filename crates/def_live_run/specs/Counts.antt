-- What the berths of a live run count together for its summary.
use Rattle.std.specs.Prelude.{ℕ, ◌+◌, Bool, true, false, List, [], ◌∷◌, count_by, sum_by}
use Rattle.ic_base.specs.declared.messages.ComId.{ComId}
use Rattle.ic_base.specs.declared.events.Answer.{Answer}
use Rattle.ic_base.specs.declared.events.Answer.TheVariants as answers
use Rattle.ic_base.specs.declared.scenario.Program.{Program}
use Rattle.def_run.specs.Reports.{played_by}
use Rattle.def_live.specs.Turns.{Berth, coms_from}
use Rattle.def_live.specs.Runs.{Live, last_live}

-- the input with this answer was taken; it was kept or lost at a stop; it was missed
abbrev pub was_taken : Answer → Bool
was_taken answers.Taken = true
was_taken _ = false

abbrev pub was_kept : Answer → Bool
was_kept answers.Kept = true
was_kept _ = false

abbrev pub was_lost : Answer → Bool
was_lost answers.Lost = true
was_lost _ = false

abbrev pub was_missed : Answer → Bool
was_missed answers.MissedDown = true
was_missed answers.MissedReplaying = true
was_missed answers.MissedBusy = true
was_missed _ = false

-- what became of the inputs that the berths did, and the records that recoveries played
pub record Counts : Type 0 where
  pub taken : ℕ
  pub kept : ℕ
  pub lost : ℕ
  pub missed : ℕ
  pub played : ℕ

-- the answers of all berths for which a test holds
abbrev pub answered : (Answer → Bool) → (ComId → Berth) → List ComId → ℕ
answered test berths coms = sum_by (λ c. count_by test (berths c).answers) coms

-- the records played along turns and flushes, each by the component that made it
abbrev pub played_along : Live → List (ComId × Live) → ℕ
played_along s [] = 0
played_along s (x ∷ xs) = played_by (s.berths x.0).part.node (x.1.berths x.0).part.node + played_along x.1 xs

abbrev pub counts_with : (ComId → Berth) → List ComId → ℕ → Counts
counts_with berths coms played = record {
  taken = answered was_taken berths coms;
  kept = answered was_kept berths coms;
  lost = answered was_lost berths coms;
  missed = answered was_missed berths coms;
  played = played;
}

-- what these turns and flushes came to
abbrev pub counts_of : Program → Live → List (ComId × Live) → Counts
counts_of program s xs = counts_with (last_live s xs).berths (coms_from 0 program.components) (played_along s xs)
