-- What a text stands for as a scenario: the lines of a program, or the line and the cause for which it is refused.
use Rattle.std.specs.Prelude.{◌≡◌, ◌+◌, Option, None, Some, ℕ, List, [], ◌∷◌, ◌++◌, length, reverse, Result, Ok, Err, nat_lt, if◌then◌else◌}
use Rattle.ic_base.specs.declared.limits.TheConstants.{TEXT_BYTES}
use Rattle.ic_base.specs.declared.scenario.Program.{Program}
use Rattle.ic_base.specs.declared.refusals.Cause.{Cause}
use Rattle.ic_base.specs.declared.refusals.Cause.TheVariants.{Limit, Structure}
use Rattle.def_syntax.specs.Text.{◌>>=◌, lines_of, numbered}
use Rattle.def_syntax.specs.SyntaxLines.{SyntaxLine, line_item}
use Rattle.def_syntax.specs.Scope.{Declared, Frame, Scope, empty_scope, scope_with}
use Rattle.def_syntax.specs.Names.{resolved}
use Rattle.def_syntax.specs.Lines.{Line, program_lines}

-- the line and the cause
abbrev pub Refusal : Type 0
Refusal = ℕ × Cause

-- what holds of a line, with its number where it is refused
abbrev pub at_line : {A : Type 0} → ℕ → Result A Cause → Result A Refusal
at_line n (Ok x) = Ok x
at_line n (Err cause) = Err (n, cause)

abbrev pub seen_if : Scope → Option SyntaxLine → Result Scope Cause
seen_if seen None = Ok seen
seen_if seen (Some item) = scope_with seen item

-- what is seen behind a line
unfoldable pub seen_behind : Scope → List ℕ → Result Scope Cause
seen_behind seen line = do
  said ← line_item line
  seen_if seen said

-- the end of the text, at the line behind the last: no component is open
abbrev pub at_end : ℕ → List Frame → Scope → Result Scope Refusal
at_end last [] seen = Ok seen
at_end last (f ∷ fs) seen = Err (last, Structure)

-- the first pass: what is seen behind all lines, or the least line that is refused by itself or by the lines before it
unfoldable pub checked : ℕ → Scope → List (ℕ × List ℕ) → Result Scope Refusal
checked last seen [] = at_end last seen.frames seen
checked last seen (l ∷ ls) = do
  next ← at_line l.0 (seen_behind seen l.1)
  checked last next ls

abbrev pub resolved_if : List Declared → Scope → ℕ → Option SyntaxLine → Result (List Line) Cause
resolved_if all seen n None = Ok []
resolved_if all seen n (Some item) = resolved all seen n item

-- what the line of this number stands for
unfoldable pub named : List Declared → Scope → ℕ → List ℕ → Result (List Line) Cause
named all seen n line = do
  said ← line_item line
  resolved_if all seen n said

-- the second pass: what all lines stand for, or the least one with a name that stands for nothing or a wrong number of operands
unfoldable pub all_named : List Declared → Scope → List (ℕ × List ℕ) → Result (List Line) Refusal
all_named all seen [] = Ok []
all_named all seen (l ∷ ls) = do
  lines ← at_line l.0 (named all seen l.0 l.1)
  next ← at_line l.0 (seen_behind seen l.1)
  rest ← all_named all next ls
  Ok (lines ++ rest)

-- the lines of the program for which a text stands, or its refusal: the second pass begins where the first refuses nothing
unfoldable pub scenario_of : List ℕ → Result (List Line) Refusal
scenario_of text =
    if nat_lt TEXT_BYTES (length text) then Err (0, Limit)
    else (let lines = numbered 1 (lines_of text) in do
      seen ← checked (length lines + 1) empty_scope lines
      all_named (reverse seen.components) empty_scope lines)

-- the text is a scenario, of this program
abbrev pub IsScenario : List ℕ → Program → Type 0
IsScenario text p = scenario_of text ≡ Ok (program_lines p)

-- the text is refused at this line for this cause
abbrev pub IsRefused : List ℕ → ℕ → Cause → Type 0
IsRefused text line cause = scenario_of text ≡ Err (line, cause)
