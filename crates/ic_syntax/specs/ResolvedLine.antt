-- What a line stands for, as the second pass finds it.
use Rattle.std.specs.Prelude.{◌≡◌, List, [], ◌∷◌, Option, Some, None, Result, Ok, Err}
use Rattle.ic_base.specs.declared.refusals.Cause.{Cause}
use Rattle.ic_base.specs.declared.refusals.Cause.TheVariants.{Memory, Unknown}
use Rattle.def_syntax.specs.Lines as grammar
use Rattle.ic_items.specs.declared.fault.Fault.{Fault}
use Rattle.ic_items.specs.Views.{Fails}
use Rattle.ic_syntax.specs.declared.program_line.Line.{Line}
use Rattle.ic_syntax.specs.Views.{line_seen}
use Rattle.ic_syntax.specs.declared.resolve.ResolvedLine.{ResolvedLine}
use Rattle.ic_syntax.specs.declared.resolve.ResolvedLine.TheVariants.{Nothing, One, Two}

abbrev pub said_lines : ResolvedLine → List grammar.Line
said_lines Nothing = []
said_lines (One l) = line_seen l ∷ []
said_lines (Two l m) = line_seen l ∷ line_seen m ∷ []

-- what a name stands for is what the grammar says; where that is nothing the cause is Unknown, or want of memory
abbrev pub Means : {X Y : Type 0} → (X → Y) → Option Y → Result X Fault → Type 0
Means seen given (Ok x) = given ≡ Some (seen x)
Means seen given (Err e) = (e.0 ≡ Memory → ⊥) → (given ≡ None) × (e.0 ≡ Unknown)

-- the same where nothing is allocated, so that memory is never wanting
abbrev pub MeansInPlace : {X Y : Type 0} → (X → Y) → Option Y → Result X Fault → Type 0
MeansInPlace seen given (Ok x) = given ≡ Some (seen x)
MeansInPlace seen given (Err e) = (given ≡ None) × (e.0 ≡ Unknown)

-- a line stands for these lines, or is refused, or memory is wanting
abbrev pub Stands : Result (List grammar.Line) Cause → Result ResolvedLine Fault → Type 0
Stands given (Ok said) = given ≡ Ok (said_lines said)
Stands given (Err e) = Fails given e.0

-- the same of one line
abbrev pub StandsAlone : Result (List grammar.Line) Cause → Result Line Fault → Type 0
StandsAlone given (Ok line) = given ≡ Ok (line_seen line ∷ [])
StandsAlone given (Err e) = Fails given e.0

-- the same where nothing is allocated
abbrev pub StandsInPlace : Result (List grammar.Line) Cause → Result Line Fault → Type 0
StandsInPlace given (Ok line) = given ≡ Ok (line_seen line ∷ [])
StandsInPlace given (Err e) = given ≡ Err e.0
