-- What is printed at the end.
use Rattle.std.specs.Prelude.{ℕ, zero, suc, ◌+◌, List, [], ◌∷◌, ◌++◌, map, Option, Some, None, option_map, unwrap_or, slice_get, codes, decimal}
use Rattle.std.specs.List.{flat_map, range_with_len}
use Rattle.def_report.specs.Words.{line}
use Rattle.def_two.specs.declared.moves.Cause2.{Cause2}
use Rattle.def_two.specs.declared.moves.Cause2.TheVariants.{Short, Over}
use Rattle.def_two.specs.declared.moves.Ruling.{Ruling}
use Rattle.def_two.specs.declared.moves.Ruling.TheVariants.{Yes, No}
use Rattle.def_two.specs.World.{World2, begun, ruling, book_at}
use Rattle.def_two.specs.Script.{NamedBook, TheScript, openings_of}

-- the name of a component: the chief's is `chief`
abbrev pub name_of : TheScript → ℕ → List ℕ
name_of s zero = codes "chief"
name_of s (suc b) = unwrap_or (option_map (λ x. x.0) (slice_get s.books b)) []

abbrev pub cause_words : Cause2 → List (List ℕ)
cause_words (Short value held) = codes "short" ∷ decimal value ∷ decimal held ∷ []
cause_words (Over value held) = codes "over" ∷ decimal value ∷ decimal held ∷ []

abbrev pub ruling_words : TheScript → Option Ruling → List (List ℕ)
ruling_words s None = []
ruling_words s (Some Yes) = codes "yes" ∷ []
ruling_words s (Some (No b cause)) = codes "no" ∷ name_of s b ∷ cause_words cause

-- a move with its decision; none where it isn't decided
abbrev pub move_line : TheScript → World2 → ℕ → List ℕ
move_line s w n = line (codes "move" ∷ decimal n ∷ ruling_words s (ruling w n))

abbrev pub move_lines : TheScript → World2 → List ℕ
move_lines s w = flat_map (move_line s w) (range_with_len 1 (begun w))

-- each book with its values
abbrev pub book_lines : TheScript → World2 → ℕ → List NamedBook → List ℕ
book_lines s w b [] = []
book_lines s w b (x ∷ xs) = line (codes "book" ∷ x.0 ∷ map decimal (book_at (openings_of s) w b).values) ++ book_lines s w (b + 1) xs

-- all lines of a run that did all that was to be done
abbrev pub two_lines : TheScript → World2 → List ℕ
two_lines s w = move_lines s w ++ book_lines s w 1 s.books ++ line (codes "settled" ∷ [])
