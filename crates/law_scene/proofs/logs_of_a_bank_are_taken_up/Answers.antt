use Rattle.law_scene.proofs.Bank.{files_are_taken_up}
use Rattle.law_scene.proofs.Numbers.{numbers_have_bytes}
use Rattle.law_scene.proofs.logs_of_a_bank_are_taken_up.Goals as goal

pub returns-clause-files : goal.returns-clause-files
returns-clause-files c = files_are_taken_up

pub returns-clause-numbers : goal.returns-clause-numbers
returns-clause-numbers c = numbers_have_bytes
