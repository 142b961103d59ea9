-- What is prepared is what the record does.
use Rattle.std.specs.Prelude.{◌≡◌, true, ℕ, ℤ, Option, Some, None}
use Rattle.ic_base.specs.declared.messages.ComId.{ComId}
use Rattle.ic_base.specs.declared.messages.Msg.{Msg}
use Rattle.ic_base.specs.declared.messages.Session.{Session}
use Rattle.ic_base.specs.declared.messages.AbortCause.{AbortCause}
use Rattle.ic_base.specs.declared.played.Played.TheVariants.{NeedFails}
use Rattle.ic_base.specs.declared.scenario.Program.{Program}
use Rattle.ic_base.specs.declared.record.Record.{Record}
use Rattle.ic_base.specs.declared.record.Record.TheVariants.{Value, Outcome}
use Rattle.def_state.specs.Vol.{Vol, record_in}
use Rattle.ic_replay.specs.Preparing.{preparation, has_content}
use Rattle.ic_replay.specs.Applying.{applied}

-- a record that is applied as it was prepared, with the content of the message that it takes
abbrev pub AppliesTheRecord : Type 0
AppliesTheRecord = (program : Program) (c : ComId) (at : ℕ) (content : Option Msg) (v : Vol) (r : Record) → has_content content r ≡ true →
    applied c at (preparation program c content v r) v r ≡ record_in program c at content v r

-- an abort for a need that fails with a value, prepared and applied without the value's record, does what both do
abbrev pub AppliesTheNeed : Type 0
AppliesTheNeed = (program : Program) (c : ComId) (at behind : ℕ) (v : Vol) (n place : ℕ) (session : Session) (value : ℤ) (t : ComId) (line stamp : ℕ) (cause : AbortCause) →
    (preparation program c None v (Value n place session value)).played ≡ Some (NeedFails t line) →
    applied c behind (preparation program c None v (Outcome stamp n (Some cause))) v (Outcome stamp n (Some cause))
    ≡ record_in program c behind None (record_in program c at None v (Value n place session value)) (Outcome stamp n (Some cause))
