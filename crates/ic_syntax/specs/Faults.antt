-- Why a text is refused, by its lines: the least line that is at fault decides.
use Rattle.std.specs.Prelude.{◌≡◌, ◌<◌, ◌≤◌, ◌+◌, ℕ, List, [], ◌∷◌, ◌++◌, length, reverse, Ok, Err}
use Rattle.ic_base.specs.declared.limits.TheConstants.{TEXT_BYTES}
use Rattle.ic_base.specs.declared.refusals.Cause.{Cause}
use Rattle.ic_base.specs.declared.refusals.Cause.TheVariants.{Limit, Structure}
use Rattle.def_syntax.specs.Text.{lines_of}
use Rattle.def_syntax.specs.Scope.{Declared, Scope, empty_scope}
use Rattle.def_syntax.specs.Lines.{Line}
use Rattle.def_syntax.specs.Scenario.{seen_behind, named}

-- each of these lines may stand behind what is seen, and this is seen behind them
pub data Stand : Scope → List (List ℕ) → Scope → Type 0 where
  none_stand : {s : Scope} → Stand s [] s
  one_stands : {s t u : Scope} {l : List ℕ} {ls : List (List ℕ)} → seen_behind s l ≡ Ok t → Stand t ls u → Stand s (l ∷ ls) u

-- each of these lines, numbered from this one on, stands for lines of a program, where all these components are declared
pub data Mean (all : List Declared) : ℕ → Scope → List (List ℕ) → Scope → Type 0 where
  none_mean : {n : ℕ} {s : Scope} → Mean all n s [] s
  one_means : {n : ℕ} {s t u : Scope} {l : List ℕ} {ls : List (List ℕ)} {meant : List Line} → named all s n l ≡ Ok meant → seen_behind s l ≡ Ok t → Mean all (n + 1) t ls u → Mean all n s (l ∷ ls) u

-- the line of this number may not stand there for this cause, and all lines in front of it stand
pub record IsMisplaced (lines : List (List ℕ)) (n : ℕ) (cause : Cause) : Type 0 where
  pub front : List (List ℕ)
  pub here : List ℕ
  pub back : List (List ℕ)
  pub seen : Scope
  pub cut : lines ≡ front ++ here ∷ back
  pub number : n ≡ 1 + length front
  pub stand : Stand empty_scope front seen
  pub fault : seen_behind seen here ≡ Err cause

-- the line of this number stands for nothing for this cause, and all lines in front of it stand for something
pub record IsMisnamed (all : List Declared) (lines : List (List ℕ)) (n : ℕ) (cause : Cause) : Type 0 where
  pub front : List (List ℕ)
  pub here : List ℕ
  pub back : List (List ℕ)
  pub seen : Scope
  pub cut : lines ≡ front ++ here ∷ back
  pub number : n ≡ 1 + length front
  pub mean : Mean all 1 empty_scope front seen
  pub fault : named all seen n here ≡ Err cause

-- why a text is refused, and at which line: its length; else the least line that may not stand there; else, where it ends inside
-- a component, the line behind the last; else the least line that stands for nothing
pub data HasFault (text : List ℕ) : ℕ → Cause → Type 0 where
  too_long : TEXT_BYTES < length text → HasFault text 0 Limit
  misplaced : {n : ℕ} {cause : Cause} → length text ≤ TEXT_BYTES → IsMisplaced (lines_of text) n cause → HasFault text n cause
  open_end : {seen : Scope} → length text ≤ TEXT_BYTES → Stand empty_scope (lines_of text) seen → 0 < length seen.frames → HasFault text (length (lines_of text) + 1) Structure
  misnamed : {n : ℕ} {cause : Cause} {seen : Scope} → length text ≤ TEXT_BYTES → Stand empty_scope (lines_of text) seen → seen.frames ≡ [] → IsMisnamed (reverse seen.components) (lines_of text) n cause → HasFault text n cause
