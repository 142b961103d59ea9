-- The lines of a migration.
use Rattle.std.specs.Prelude.{ℕ, List, [], ◌∷◌, ◌++◌, length, codes, decimal}
use Rattle.ic_base.specs.declared.messages.ComId.{ComId}
use Rattle.ic_base.specs.declared.scenario.Program.{Program}
use Rattle.def_report.specs.Words.{line, name_of}

-- the line of a component with this new log
abbrev pub migrated_line : Program → ComId → List ℕ → List ℕ
migrated_line program c log = line (codes "migrated" ∷ name_of program c ∷ decimal (length log) ∷ [])

-- those of several, in order
abbrev pub migrated_lines : Program → List ComId → List (List ℕ) → List ℕ
migrated_lines program (c ∷ coms) (log ∷ logs) = migrated_line program c log ++ migrated_lines program coms logs
migrated_lines program coms logs = []
