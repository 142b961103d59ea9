-- A front that is built again from logs, with the first request of each number.
use Rattle.std.specs.Prelude.{List}
use Rattle.ic_base.specs.declared.messages.ComId.{ComId}
use Rattle.ic_base.specs.declared.messages.Output.{Output}
use Rattle.ic_base.specs.declared.record.Record.{Record}
use Rattle.ic_base.specs.declared.record.Record.TheVariants.{Input, Shown}
use Rattle.def_plain.specs.Plain.{counted}
use Rattle.def_client.specs.Fronts.{Front}
use Rattle.def_client.specs.Rebuilding.{shows_if}
use Rattle.ic_client.specs.Seeing.{takes_first}

-- what a record of c tells such a front
abbrev pub saw_first_record : ComId → List Output → Front → Record → Front
saw_first_record c outs front (Input stamp handler args) = takes_first (record { who = c; handler = handler; args = args }) front
saw_first_record c outs front (Shown m) = shows_if c (counted outs m) front
saw_first_record c outs front _ = front
