-- What the two passes answer.
use Rattle.std.specs.Prelude.{◌≡◌, ℕ, List, ◌++◌, Result, Ok, Err}
use Rattle.ic_base.specs.declared.refusals.Cause.{Cause}
use Rattle.ic_base.specs.declared.refusals.Cause.TheVariants.{Memory}
use Rattle.ic_base.specs.declared.refusals.ScenarioRefused.{ScenarioRefused}
use Rattle.def_syntax.specs.Scope.{Declared, Scope}
use Rattle.def_syntax.specs.Lines.{Line}
use Rattle.def_syntax.specs.Text.{◌>>=◌}
use Rattle.def_syntax.specs.Scenario.{Refusal, named, seen_behind}

-- want of memory stands at line 0; any other refusal is that of the reading, with its line and cause
pub record Refuses {A : Type 0} (read : Result A Refusal) (e : ScenarioRefused) : Type 0 where
  pub memory : e.cause ≡ Memory → e.line ≡ 0
  pub other : (e.cause ≡ Memory → ⊥) → read ≡ Err (e.line, e.cause)

-- the lines of a program so far, and what is seen
abbrev pub Course : Type 0
Course = List Line × Scope

abbrev pub course : List Line → List Line → Scope → Course
course before ls seen = (before ++ ls, seen)

-- both behind one more line of the text
abbrev pub behind_line : List Declared → ℕ → List ℕ → Course → Result Course Cause
behind_line all n line c = do
  ls ← named all c.1 n line
  next ← seen_behind c.1 line
  Ok (course c.0 ls next)

-- these lines, and those read behind them
abbrev pub with_front : List Line → Result (List Line) Refusal → Result (List Line) Refusal
with_front front rest = rest >>= (λ ls. Ok (front ++ ls))
