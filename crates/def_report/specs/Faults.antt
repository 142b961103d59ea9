-- The last line of a run that was refused, and its status.
use Rattle.std.specs.Prelude.{ℕ, List, [], ◌∷◌, ◌++◌, flat_map, Option, Some, None, ◌/◌, ◌%◌, codes, decimal, if◌then◌else◌, bytes_eq}
use Rattle.std.specs.Fmt.{digit_glyph}
use Rattle.std.specs.Prelude.{false}
use Rattle.ic_base.specs.declared.messages.ComId.{ComId}
use Rattle.ic_base.specs.declared.scenario.Program.{Program}
use Rattle.ic_base.specs.declared.refusals.Cause.{Cause}
use Rattle.ic_base.specs.declared.refusals.Cause.TheVariants as causes
use Rattle.ic_base.specs.declared.refusals.PolicyRefused.{PolicyRefused}
use Rattle.ic_base.specs.declared.refusals.PolicyRefused.TheVariants as policies
use Rattle.ic_base.specs.declared.report.Fault.{Fault}
use Rattle.ic_base.specs.declared.report.Fault.TheVariants as faults
use Rattle.def_report.specs.Words.{name_of}

-- two lower-case digits for each byte
abbrev pub hex : List ℕ → List ℕ
hex bytes = flat_map (λ b. digit_glyph false (b / 16) ∷ digit_glyph false (b % 16) ∷ []) bytes

-- why a text is refused, in words; want of memory has no line
abbrev pub cause_text : Cause → List ℕ
cause_text causes.Limit = codes "limit"
cause_text causes.NotText = codes "not text"
cause_text causes.Word = codes "bad word"
cause_text causes.Structure = codes "bad structure"
cause_text causes.Twice = codes "name twice"
cause_text causes.Unknown = codes "unknown name"
cause_text causes.Arity = codes "wrong number of arguments"
cause_text causes.Memory = []

abbrev pub policy_text : PolicyRefused → List ℕ
policy_text policies.NotToml = codes "not TOML"
policy_text policies.Unknown = codes "unknown key"
policy_text policies.Kind = codes "wrong kind"
policy_text policies.Range = codes "out of range"
policy_text policies.Memory = []

-- the words that a program takes
abbrev pub usage_text : List ℕ → List ℕ
usage_text tool =
    if bytes_eq tool (codes "iclive") then codes "usage: SCENARIO PLAN [POLICY]"
    else codes "usage: run SCENARIO SCHEDULE [POLICY], resume SCENARIO SCHEDULE [POLICY], audit SCENARIO, make NUMBER, migrate SCENARIO"

-- a component's name, where there is a program
abbrev pub name_if : Option Program → ComId → List ℕ
name_if None c = []
name_if (Some p) c = name_of p c

-- what a last line says
abbrev pub fault_text : List ℕ → Option Program → Fault → List ℕ
fault_text tool p faults.Usage = usage_text tool
fault_text tool p (faults.Scenario line cause) = codes "bad scenario at line " ++ decimal line ++ codes ": " ++ cause_text cause
fault_text tool p (faults.Schedule line cause) = codes "bad schedule at line " ++ decimal line ++ codes ": " ++ cause_text cause
fault_text tool p (faults.Policy why) = codes "bad policy: " ++ policy_text why
fault_text tool p (faults.Foreign c kept given) = codes "foreign log of " ++ name_if p c ++ codes ": kept " ++ hex kept ++ codes " given " ++ hex given
fault_text tool p (faults.Bad c place) = codes "bad log of " ++ name_if p c ++ codes " at " ++ decimal place
fault_text tool p (faults.Illegal entry) = codes "illegal history at entry " ++ decimal entry
fault_text tool p faults.Receipts = codes "limit of receipts"
fault_text tool p faults.Packets = codes "limit of packets"
fault_text tool p (faults.LogFull c) = codes "limit of log " ++ name_if p c
fault_text tool p faults.Read = codes "read fault"
fault_text tool p (faults.Disk c) = codes "disk fault of " ++ name_if p c
fault_text tool p (faults.NotBlank c) = codes "log of " ++ name_if p c ++ codes " is not blank"

-- the last line, behind the program's name
abbrev pub fault_line : List ℕ → Option Program → Fault → List ℕ
fault_line tool p fault = tool ++ codes ": " ++ fault_text tool p fault ++ 10 ∷ []

-- the status that goes with a last line
abbrev pub status_of : Fault → ℕ
status_of faults.Usage = 2
status_of (faults.Scenario line cause) = 3
status_of (faults.Schedule line cause) = 4
status_of (faults.Policy why) = 4
status_of (faults.Foreign c kept given) = 5
status_of (faults.Bad c place) = 6
status_of (faults.Illegal entry) = 6
status_of faults.Receipts = 7
status_of faults.Packets = 7
status_of (faults.LogFull c) = 7
status_of faults.Read = 8
status_of (faults.Disk c) = 10
status_of (faults.NotBlank c) = 11
