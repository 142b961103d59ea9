-- What a refusal of a plain run says.
use Rattle.std.specs.Prelude.{◌≡◌, List, Err, ⊤}
use Rattle.ic_base.specs.declared.messages.Entry.{Entry}
use Rattle.ic_base.specs.declared.scenario.Program.{Program}
use Rattle.def_plain.specs.Plain.{plain_run_of}
use Rattle.ic_model.specs.declared.refusals.PlainRefused.{PlainRefused}
use Rattle.ic_model.specs.declared.refusals.PlainRefused.TheVariants.{Illegal, Memory}

-- the first entry that has no step; want of memory says nothing of the history
abbrev pub IsIllegal : Program → List Entry → PlainRefused → Type 0
IsIllegal program entries (Illegal i) = plain_run_of program entries ≡ Err i
IsIllegal program entries Memory = ⊤
