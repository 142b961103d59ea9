use Rattle.law_table.proofs.Rows.{forcings, checkpointings, resendings, emittings}
use Rattle.law_table.proofs.upkeep_is_as_asked.Goals as goal

pub returns : goal.returns
returns c = record { force = forcings; checkpoint = checkpointings; resend = resendings; emit = emittings }
