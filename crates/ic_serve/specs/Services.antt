-- What a served run keeps beside its world.
use Rattle.std.specs.Prelude.{◌≡◌, ℕ, List, [], ◌++◌}
use Rattle.ic_base.specs.declared.events.Trace.{Trace}
use Rattle.ic_run.specs.Tallies.{Counts}
use Rattle.ic_serve.specs.declared.service.Service.{Service}

-- these bytes were appended to what isn't put yet, and of what is told of the run all else stays
pub record Adds (text : List ℕ) (was now : Service) : Type 0 where
  pub piece : now.piece.items ≡ was.piece.items ++ text
  pub front : now.front.taken ≡ was.front.taken
  pub counts : (traces : List Trace) → Counts traces was.tally → Counts traces now.tally
  pub played : now.played ≡ was.played
  pub lines : now.lines ≡ was.lines

-- nothing is read, done or told
pub record IsNew (s : Service) : Type 0 where
  pub front : s.front.taken ≡ []
  pub counts : Counts [] s.tally
  pub first : s.tally.events ≡ 0
  pub played : s.played ≡ 0
  pub lines : s.lines ≡ 0
  pub piece : s.piece.items ≡ []
