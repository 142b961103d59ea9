-- What the lines of a source ask for.
use Rattle.std.specs.Prelude.{◌≡◌, ◌≤◌, ⊤, ℕ, suc, Option, Some, None, IfSome, Result, Ok, Err}
use Rattle.def_serve.specs.Lines.{Line, Refused}
use Rattle.def_serve.specs.Reading.{served_line}
use Rattle.ic_base.specs.declared.refusals.Cause.{Cause}
use Rattle.ic_base.specs.declared.refusals.Cause.TheVariants.{Structure, Limit}
use Rattle.ic_base.specs.declared.scenario.Program.{Program}
use Rattle.ic_base.specs.declared.report.Fault.TheVariants as faults
use Rattle.ic_disk.specs.Causes.{Rose}
use Rattle.ic_lines.specs.Lines.{first_read, behind_line}
use Rattle.ic_lines.specs.declared.lines.Lines as source
use Rattle.ic_lines.specs.declared.lines.Read.{Read}
use Rattle.ic_lines.specs.declared.lines.Read.TheVariants as reads
use Rattle.ic_plan.specs.Served.{line_seen, event_in}
use Rattle.ic_report.specs.declared.ending.Why.{Why}
use Rattle.ic_report.specs.declared.ending.Why.TheVariants.{Fault, Print, Memory}
use Rattle.ic_run.specs.Agendas.{MayCome}
use Rattle.ic_serve.specs.declared.line.Line as code
use Rattle.ic_serve.specs.declared.line.Line.TheVariants.{Served, Bad}
use Rattle.ic_serve.specs.declared.service.Service.{Service}

-- the most bytes of a line
abbrev pub LINE_BYTES : ℕ
LINE_BYTES = 4096

-- what a line asks for, or the line of its number that is refused
abbrev pub or_refused : ℕ → Result (Option Line) Cause → Option Line
or_refused number (Ok line) = line
or_refused number (Err cause) = Some (Refused number cause)

-- the line of a number that was read, if it has tokens; one that no byte 10 ends isn't done, since its writer may have died within it
abbrev pub line_read : Program → ℕ → Read → Option Line
line_read program number (reads.Line bytes) = or_refused number (served_line program bytes)
line_read program number (reads.Unterminated bytes) = Some (Refused number Structure)
line_read program number reads.TooLong = Some (Refused number Limit)

-- the same, as it is kept without its number
abbrev pub line_as : ℕ → code.Line → Line
line_as number (Served line) = line_seen line
line_as number (Bad cause) = Refused number cause

-- the event of a line, if it comes to one, may come
abbrev pub MayBeServed : Program → code.Line → Type 0
MayBeServed program (Served line) = IfSome (event_in line) (MayCome program)
MayBeServed program (Bad cause) = ⊤

-- a line that was read is counted
abbrev pub IsCounted : Option Read → Service → Service → Type 0
IsCounted None was now = now ≡ was
IsCounted (Some read) was now = now ≡ record was { lines = suc was.lines }

module _ {I : Type 0} (i : source.Ghosts I) where
  -- a line was taken off a source, or nothing was left
  pub record Reads (line : Option Read) (was now : I) : Type 0 where
    pub read : i.tells was → line ≡ first_read LINE_BYTES (i.left was)
    pub rest : i.tells was → i.left now ≡ behind_line (i.left was)
    pub tells : i.tells was → i.tells now
    pub later : i.faults was ≤ i.faults now

  -- The next line was read, if there is one, and counted.
  pub record ReadsNext (was now : I) (before after : Service) (read : Option Read) : Type 0 where
    pub reads : Reads read was now
    pub counted : IsCounted read before after

  -- why it wasn't: a read failed; or memory is wanting
  abbrev pub FailsToRead : I → I → Why → Type 0
  FailsToRead was now (Fault faults.Read) = Rose (i.faults was) (i.faults now)
  FailsToRead was now (Fault fault) = ⊥
  FailsToRead was now Print = ⊥
  FailsToRead was now Memory = ⊤
