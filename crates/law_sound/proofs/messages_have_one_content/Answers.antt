use Rattle.law_sound.proofs.Messages.{messages_are_plain, received_are_plain, one_content}
use Rattle.law_sound.proofs.messages_have_one_content.Goals as goal

pub returns : goal.returns
returns c = record { put_out = messages_are_plain; received = received_are_plain; one = one_content }
