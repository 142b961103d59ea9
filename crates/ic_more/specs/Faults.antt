-- The last line of a call that was refused, and its status.
use Rattle.std.specs.Prelude.{ℕ, List, [], ◌∷◌, ◌++◌, Option, Some, None, codes, decimal}
use Rattle.def_report.specs.Faults.{hex, cause_text}
use Rattle.def_two.specs.Printed.{name_of}
use Rattle.def_two.specs.Script.{TheScript}
use Rattle.ic_more.specs.declared.ending.Fault2.{Fault2}
use Rattle.ic_more.specs.declared.ending.Fault2.TheVariants as faults

-- a component's name, where there is a script
abbrev pub name_if : Option TheScript → ℕ → List ℕ
name_if None c = []
name_if (Some s) c = name_of s c

-- what a last line says
abbrev pub fault_text : Option TheScript → Fault2 → List ℕ
fault_text s faults.Usage = codes "usage: two SCRIPT, clients SCENARIO SCHEDULE [POLICY], standby COM SCENARIO SCHEDULE [POLICY]"
fault_text s (faults.Script line cause) = codes "bad script at line " ++ decimal line ++ codes ": " ++ cause_text cause
fault_text s (faults.Foreign c kept given) = codes "foreign log of " ++ name_if s c ++ codes ": kept " ++ hex kept ++ codes " given " ++ hex given
fault_text s (faults.Bad c place) = codes "bad log of " ++ name_if s c ++ codes " at " ++ decimal place
fault_text s faults.Packets = codes "limit of packets"
fault_text s (faults.LogFull c) = codes "limit of log " ++ name_if s c
fault_text s faults.Read = codes "read fault"
fault_text s (faults.Disk c) = codes "disk fault of " ++ name_if s c
fault_text s (faults.NotBlank c) = codes "log of " ++ name_if s c ++ codes " is not blank"

-- the last line, behind the program's name
abbrev pub fault_line : Option TheScript → Fault2 → List ℕ
fault_line s fault = codes "icmore: " ++ fault_text s fault ++ 10 ∷ []

-- the status that goes with a last line
abbrev pub status_of : Fault2 → ℕ
status_of faults.Usage = 2
status_of (faults.Script line cause) = 3
status_of (faults.Foreign c kept given) = 5
status_of (faults.Bad c place) = 6
status_of faults.Packets = 7
status_of (faults.LogFull c) = 7
status_of faults.Read = 8
status_of (faults.Disk c) = 10
status_of (faults.NotBlank c) = 11
