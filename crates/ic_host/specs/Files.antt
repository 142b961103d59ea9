-- The files of the host over which a program runs.
use Rattle.std.specs.Prelude.{ℕ, ◌/◌, ◌%◌, List, ◌++◌, codes, decimal}

-- the name of a program's log file of a component with this ending, as icrun.07.log2
abbrev pub log_file : List ℕ → List ℕ → ℕ → List ℕ
log_file program ending n = program ++ codes "." ++ decimal (n / 10) ++ decimal (n % 10) ++ codes "." ++ ending
