-- A scenario is what the grammar gives, and its program passes no limit.
use Rattle.std.proofs.Common.{◌≡◌, ◌≤◌, ◌+◌, ℕ, zero, suc, List, [], ◌∷◌, replicate, None, Ok, refl, ap, sym, subst}
use Rattle.ic_base.specs.declared.limits.TheConstants.{TEXT_BYTES}
use Rattle.std.proofs.lemmas.List.{length-replicate}
use Rattle.ic_base.specs.declared.scenario.Program.{Program}
use Rattle.def_syntax.specs.Lines.{program_lines}
use Rattle.def_syntax.specs.Scenario.{IsScenario, scenario_of}
use Rattle.def_syntax.specs.Text.{lines_of, pieces}
use Rattle.def_syntax.specs.SyntaxLines.{line_item}
use Rattle.def_syntax.specs.Bounds.{KeepsLimits}
use Rattle.def_syntax.specs.Grammar.{IsWritten, Says, no_line, blank_line, no_component}
use Rattle.def_syntax.proofs.Fitting.{fit_components}
use Rattle.def_syntax.proofs.Bounding.{lists_limited}
use Rattle.def_syntax.proofs.ShortNames.{says_short}
use Rattle.def_syntax.proofs.Grammars.{is_derived}
use Rattle.def_syntax.proofs.Whole.{is_read}

pub is_written : (text : List ℕ) (p : Program) → IsScenario text p → IsWritten text p
is_written text p e = is_derived text (program_lines p) e

pub keeps_limits : (text : List ℕ) (p : Program) → IsScenario text p → KeepsLimits p
keeps_limits text p e = let d = is_written text p e in lists_limited p (fit_components 0 0 0 d.components (says_short d.said) 0)

-- a text of line ends alone
empty_lines : (n : ℕ) → lines_of (replicate n 10) ≡ replicate n []
unfolding lines_of
empty_lines zero = refl
empty_lines (suc n) = ap (λ (ls : List (List ℕ)). [] ∷ ls) (empty_lines n)

blank : line_item [] ≡ Ok None
unfolding line_item pieces
blank = refl

nothing_said : (n k : ℕ) → Says n (replicate k []) []
nothing_said n zero = no_line
nothing_said n (suc k) = blank_line blank (nothing_said (n + 1) k)

-- it may be as long as any text
pub blank_text : (n : ℕ) → n ≤ TEXT_BYTES → scenario_of (replicate n 10) ≡ Ok []
blank_text n h = is_read (replicate n 10) [] (record {
  short = subst (λ k. k ≤ TEXT_BYTES) (sym (length-replicate n 10)) h;
  all = [];
  items = [];
  said = subst (λ (ls : List (List ℕ)). Says 1 ls []) (sym (empty_lines n)) (nothing_said 1 n);
  components = no_component refl;
})
