use Rattle.ic_opening.proofs.Writes.{some}
use Rattle.ic_opening.proofs.writing.open_one.Goals as goal

pub write_first_letter-requires-clause-some : goal.write_first_letter-requires-clause-some
write_first_letter-requires-clause-some g c = some c.args.log.now c.requires.log

pub returns-in-Err-clause-may : goal.returns-in-Err-clause-may
returns-in-Err-clause-may g c = record { kept = c.write_first_letter.ensures.disk; crash = λ rest. c.write_first_letter.ensures.crash rest c.requires.log.first }
