-- The lines of one event.
use Rattle.std.specs.Prelude.{ℕ, suc, List, [], ◌∷◌, ◌++◌, map, Bool, Option, Some, None, if◌then◌else◌, codes, decimal}
use Rattle.std.specs.Fmt.{signed_decimal}
use Rattle.ic_base.specs.declared.messages.ComId.{ComId}
use Rattle.ic_base.specs.declared.messages.AbortCause.{AbortCause}
use Rattle.ic_base.specs.declared.messages.Output.{Output}
use Rattle.ic_base.specs.declared.messages.Packet.{Packet}
use Rattle.ic_base.specs.declared.scenario.Program.{Program}
use Rattle.ic_base.specs.declared.events.What.{What}
use Rattle.ic_base.specs.declared.events.What.TheVariants as whats
use Rattle.ic_base.specs.declared.events.Answer.{Answer}
use Rattle.ic_base.specs.declared.events.Answer.TheVariants as answers
use Rattle.ic_base.specs.declared.events.Trace.{Trace}
use Rattle.ic_base.specs.declared.report.ReportLevel.{ReportLevel}
use Rattle.ic_base.specs.declared.report.ReportLevel.TheVariants as levels
use Rattle.def_report.specs.Words.{spaced, line, name_of, event_words, answer_words, packet_words, cause_words, sender_of, receiver_of}

-- the component of an event: of a delivery or a loss the receiver
abbrev pub component_of : What → Answer → Option ComId
component_of (whats.Input c h xs) a = Some c
component_of (whats.Deliver from to) a = Some to
component_of (whats.Lose from to) a = Some to
component_of (whats.Packet number) (answers.Packet n packet fate) = Some (receiver_of packet)
component_of (whats.Packet number) a = None
component_of (whats.Force c) a = Some c
component_of (whats.Checkpoint c) a = Some c
component_of (whats.Resend c) a = Some c
component_of (whats.Emit c) a = Some c
component_of (whats.Crash c) a = Some c
component_of (whats.Recover c) a = Some c

abbrev pub its_name : Program → Trace → List ℕ
its_name p t = elim (component_of t.event.what t.answer) [ None ↦ [] | Some c ↦ name_of p c ]

-- the number of an event, the event and its answer
abbrev pub event_line : Program → ℕ → Trace → List ℕ
event_line p number t = spaced (decimal number ∷ event_words p t.event) ++ codes ": " ++ line (answer_words p t.answer)

-- a packet that was put out, by its number, link and name
abbrev pub put_line : Program → ℕ → Packet → List ℕ
put_line p number packet = line (codes "put" ∷ decimal number ∷ name_of p (sender_of packet) ∷ name_of p (receiver_of packet) ∷ packet_words p packet)

-- the packets that were put out, numbered from this one on
abbrev pub put_lines : Program → ℕ → List Packet → List ℕ
put_lines p number [] = []
put_lines p number (x ∷ xs) = put_line p number x ++ put_lines p (suc number) xs

-- an abort that was recorded
abbrev pub abort_line : Program → List ℕ → Option (ℕ × AbortCause) → List ℕ
abort_line p name None = []
abort_line p name (Some x) = line (codes "abort" ∷ name ∷ decimal x.0 ∷ cause_words p x.1)

-- an output shown by a component, by the name of its receiver: again where it was shown before
abbrev pub showing_line : Program → List ℕ → Output → Bool → List ℕ
showing_line p name output before = line ((if before then codes "again" else codes "out") ∷ name_of p output.to ∷ name ∷ decimal output.m ∷ map signed_decimal output.args)

abbrev pub shown_line : Program → List ℕ → Option (Output × Bool) → List ℕ
shown_line p name None = []
shown_line p name (Some x) = showing_line p name x.0 x.1

-- what stands at the levels full and brief
abbrev pub brief_lines : Program → Trace → List ℕ
brief_lines p t = abort_line p (its_name p t) t.aborted ++ shown_line p (its_name p t) t.shown

-- the lines of an event at a level
abbrev pub trace_lines : Program → ℕ → Trace → ReportLevel → List ℕ
trace_lines p number t levels.Full = event_line p number t ++ put_lines p t.first_put t.puts ++ brief_lines p t
trace_lines p number t levels.Brief = brief_lines p t
trace_lines p number t levels.Summary = []

-- the lines of events in order, numbered from this one on
abbrev pub run_lines : Program → ℕ → List Trace → ReportLevel → List ℕ
run_lines p number [] level = []
run_lines p number (t ∷ ts) level = trace_lines p number t level ++ run_lines p (suc number) ts level
