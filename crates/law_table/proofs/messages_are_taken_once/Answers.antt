use Rattle.law_table.proofs.Rows.{new_messages, known_messages, busy_messages}
use Rattle.law_table.proofs.messages_are_taken_once.Goals as goal

pub returns : goal.returns
returns c = record { fresh = new_messages; known = known_messages; busy = busy_messages }
