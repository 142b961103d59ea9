-- The texts of two inputs around a crash.
use Rattle.std.specs.Prelude.{◌≡◌, pos, negsuc, List, [], ◌∷◌, true, false, Some, None, codes, refl}
use Rattle.std.specs.Fmt.{digits}
use Rattle.ic_base.specs.declared.messages.Kind.TheVariants.{Pcom}
use Rattle.ic_base.specs.declared.messages.ComId.{ComId}
use Rattle.ic_base.specs.declared.messages.Packet.TheVariants as packets
use Rattle.ic_base.specs.declared.messages.AbortCause.TheVariants as causes
use Rattle.ic_base.specs.declared.events.Fill.TheVariants.{Old}
use Rattle.ic_base.specs.declared.events.What.TheVariants as whats
use Rattle.ic_base.specs.declared.events.Fate.TheVariants as fates
use Rattle.ic_base.specs.declared.events.Answer.TheVariants as answers
use Rattle.ic_base.specs.declared.events.Trace.{Trace}
use Rattle.ic_base.specs.declared.events.Answer.{Answer}
use Rattle.ic_base.specs.declared.events.What.{What}
use Rattle.ic_base.specs.declared.scenario.Body.{Body}
use Rattle.ic_base.specs.declared.scenario.Program.{Program}
use Rattle.ic_base.specs.declared.report.ReportLevel.TheVariants as levels
use Rattle.ic_base.specs.declared.report.Stand.TheVariants as stands
use Rattle.ic_base.specs.declared.refusals.Cause.TheVariants as causes_of_text
use Rattle.ic_base.specs.declared.report.Fault.TheVariants as faults
use Rattle.def_report.specs.Faults.{fault_line, hex}
use Rattle.def_report.specs.Lines.{trace_lines, run_lines}
use Rattle.def_report.specs.Summaries.{summary_lines, audit_lines}

-- one Pcom with one variable and one handler, whatever its body
abbrev pub tally : Body → Program
tally body = record { components = record { name = codes "tally"; kind = Pcom; immediate = false; vars = (codes "total", pos 0) ∷ []; keys = []; handlers = record { name = codes "add"; params = 1; body = body } ∷ [] } ∷ [] }

abbrev pub did : What → Answer → Trace
did what answer = record { event = record { what = what; stop = None }; answer = answer; puts = []; first_put = 1; shown = None; aborted = None }

abbrev pub it : ComId
it = record { 0 = 0 }

abbrev pub around_a_crash : List Trace
around_a_crash = did (whats.Input it 0 (pos 5 ∷ [])) answers.Taken ∷ did (whats.Crash it) answers.Ended ∷ did (whats.Recover it) answers.Up ∷ did (whats.Input it 0 (pos 7 ∷ [])) answers.Taken ∷ []

pub around_a_crash-lines : (body : Body) → run_lines (tally body) 1 around_a_crash levels.Full ≡ codes "1 input tally add 5: taken\n2 crash tally: done\n3 recover tally: up\n4 input tally add 7: taken\n"
unfolding digits
around_a_crash-lines body = refl

pub around_a_crash-summary : (body : Body) → summary_lines (tally body) (record { taken = 2; kept = 0; lost = 0; missed = 0; first = 0; again = 0; states = stands.Up (pos 12 ∷ []) ∷ []; played = 1; history = 2; settled = true })
    ≡ codes "inputs taken 2 kept 0 lost 0 missed 0\noutputs first 0 again 0\npcom tally up total=12\nplayed 1\nhistory 2\nsettled\n"
unfolding digits
around_a_crash-summary body = refl

pub audit-lines : (body : Body) → audit_lines (tally body) ((pos 12 ∷ []) ∷ []) 0 2 ≡ codes "pcom tally total=12\noutputs 0\nhistory 2\nlegal\n"
unfolding digits
audit-lines body = refl

-- a stop with all three parts
pub stop-line : (body : Body) → trace_lines (tally body) 2 (record { event = record { what = whats.Input it 0 (pos 7 ∷ []); stop = Some (record { call = 1; keep = 0; fill = Old }) }; answer = answers.Lost; puts = []; first_put = 1; shown = None; aborted = None }) levels.Full
    ≡ codes "2 input tally add 7 stop 1 0 old: lost\n"
unfolding digits
stop-line body = refl

-- a delivery, a packet put out, an abort and an output
pub delivery-lines : (body : Body) → trace_lines (tally body) 7 (record { event = record { what = whats.Packet 3; stop = None }; answer = answers.Packet 3 (packets.Stable it it 2) fates.Used; puts = packets.Fetch it it 4 ∷ []; first_put = 9; shown = Some (record { m = 1; to = it; args = negsuc 1 ∷ [] }, true); aborted = Some (1, causes.Held it 2) }) levels.Full
    ≡ codes "7 packet 3: 3 stable 2 used\nput 9 tally tally fetch 4\nabort tally 1 held tally 2\nagain tally tally 1 -2\n"
unfolding digits
delivery-lines body = refl

pub bad-line : (body : Body) → fault_line (codes "icrun") (Some (tally body)) (faults.Bad it 70) ≡ codes "icrun: bad log of tally at 70\n"
unfolding digits
bad-line body = refl

pub name-line : fault_line (codes "icrun") None (faults.Scenario 4 causes_of_text.Unknown) ≡ codes "icrun: bad scenario at line 4: unknown name\n"
unfolding digits
name-line = refl

pub hex-example : hex (227 ∷ 176 ∷ 7 ∷ []) ≡ codes "e3b007"
hex-example = refl
