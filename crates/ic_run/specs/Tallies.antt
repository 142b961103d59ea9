-- What the events of a run are counted for.
use Rattle.std.specs.Prelude.{◌≡◌, suc, ◌<◌, ◌≤◌, ◌^◌, List, length, count_by}
use Rattle.ic_base.specs.declared.events.Trace.{Trace}
use Rattle.def_run.specs.Reports.{is_taken, is_kept, is_lost, is_missed, shows_first, shows_again}
use Rattle.ic_run.specs.declared.tally.Tally.{Tally}

-- Each is the number of the traces for which the report counts it. Each trace has a number of its own; others may be taken by what was told
-- of no event.
pub record Counts (traces : List Trace) (t : Tally) : Type 0 where
  pub events : length traces ≤ t.events
  pub taken : t.taken ≡ count_by is_taken traces
  pub kept : t.kept ≡ count_by is_kept traces
  pub lost : t.lost ≡ count_by is_lost traces
  pub missed : t.missed ≡ count_by is_missed traces
  pub first : t.first ≡ count_by shows_first traces
  pub again : t.again ≡ count_by shows_again traces

-- one event more is numbered, and its number is a u32
abbrev pub IsOneMore : Tally → Tally → Type 0
IsOneMore t now = (now.events ≡ suc t.events) × (now.events < 2 ^ 32)
