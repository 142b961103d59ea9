-- The lines at the end of a run.
use Rattle.std.specs.Prelude.{ℕ, ℤ, List, [], ◌∷◌, ◌++◌, if◌then◌else◌, codes, decimal}
use Rattle.std.specs.Fmt.{signed_decimal}
use Rattle.ic_base.specs.declared.messages.Kind.{Kind}
use Rattle.ic_base.specs.declared.messages.Kind.TheVariants.{Pcom, Tcom, Xcom}
use Rattle.ic_base.specs.declared.scenario.Component.{Component}
use Rattle.ic_base.specs.declared.scenario.Program.{Program}
use Rattle.ic_base.specs.declared.report.Stand.{Stand}
use Rattle.ic_base.specs.declared.report.Stand.TheVariants as stands
use Rattle.ic_base.specs.declared.report.Summary.{Summary}
use Rattle.def_report.specs.Words.{line}

-- the word of a component's kind, and what it holds values of
abbrev pub kind_word : Kind → List ℕ
kind_word Pcom = codes "pcom"
kind_word Tcom = codes "tcom"
kind_word Xcom = codes "xcom"

abbrev pub cells_of : Component → List (List ℕ × ℤ)
cells_of c = elim c.kind [ Pcom ↦ c.vars | Tcom ↦ c.keys | Xcom ↦ [] ]

-- each name with its value
abbrev pub cell_words : List (List ℕ × ℤ) → List ℤ → List (List ℕ)
cell_words (x ∷ xs) (v ∷ vs) = (x.0 ++ 61 ∷ signed_decimal v) ∷ cell_words xs vs
cell_words xs vs = []

-- the line of a component: its values only where it is up
abbrev pub stand_line : Component → Stand → List ℕ
stand_line c (stands.Up vs) = line (kind_word c.kind ∷ c.name ∷ codes "up" ∷ cell_words (cells_of c) vs)
stand_line c stands.Replaying = line (kind_word c.kind ∷ c.name ∷ codes "replaying" ∷ [])
stand_line c stands.Down = line (kind_word c.kind ∷ c.name ∷ codes "down" ∷ [])
stand_line c stands.External = []

abbrev pub stand_lines : List Component → List Stand → List ℕ
stand_lines (c ∷ cs) (s ∷ ss) = stand_line c s ++ stand_lines cs ss
stand_lines cs ss = []

abbrev pub inputs_line : Summary → List ℕ
inputs_line s = line (codes "inputs" ∷ codes "taken" ∷ decimal s.taken ∷ codes "kept" ∷ decimal s.kept ∷ codes "lost" ∷ decimal s.lost ∷ codes "missed" ∷ decimal s.missed ∷ [])

abbrev pub outputs_line : Summary → List ℕ
outputs_line s = line (codes "outputs" ∷ codes "first" ∷ decimal s.first ∷ codes "again" ∷ decimal s.again ∷ [])

-- what a whole run came to
abbrev pub summary_lines : Program → Summary → List ℕ
summary_lines p s =
    inputs_line s ++ outputs_line s ++ stand_lines p.components s.states ++ line (codes "played" ∷ decimal s.played ∷ [])
    ++ line (codes "history" ∷ decimal s.history ∷ []) ++ line ((if s.settled then codes "settled" else codes "halted") ∷ [])

-- a component's values in the crash-free world
abbrev pub plain_line : Component → List ℤ → List ℕ
plain_line c vs = elim c.kind [ Xcom ↦ [] | _ ↦ line (kind_word c.kind ∷ c.name ∷ cell_words (cells_of c) vs) ]

abbrev pub plain_lines : List Component → List (List ℤ) → List ℕ
plain_lines (c ∷ cs) (vs ∷ vss) = plain_line c vs ++ plain_lines cs vss
plain_lines cs vss = []

-- the values of each component, the number of outputs and of entries of a legal history
abbrev pub audit_lines : Program → List (List ℤ) → ℕ → ℕ → List ℕ
audit_lines p values outputs history =
    plain_lines p.components values ++ line (codes "outputs" ∷ decimal outputs ∷ []) ++ line (codes "history" ∷ decimal history ∷ []) ++ line (codes "legal" ∷ [])
