use Rattle.law_found.proofs.Inputs.{logs_of_inputs_are_sound, logs_of_inputs_are_plain, audit_tells_the_run}
use Rattle.law_found.proofs.logs_of_inputs_are_sound.Goals as goal

pub returns : goal.returns
returns c = record { sound = logs_of_inputs_are_sound; values = logs_of_inputs_are_plain; audit = audit_tells_the_run }
