-- What stands behind the first word of a line.
use Rattle.std.specs.Prelude.{List, Option}
use Rattle.def_syntax.specs.Text.{Token}
use Rattle.def_two.specs.Script.{ScriptLine, book_of, move_of, deliver_of, packet_of, lose_of, crash_of, recover_of, resend_of}
use Rattle.ic_script.specs.declared.form.Form.{Form}
use Rattle.ic_script.specs.declared.form.Form.TheVariants.{Book, Move, Deliver, Packet, Lose, Crash, Recover, Resend}

abbrev pub form_of : Form → List Token → Option ScriptLine
form_of Book = book_of
form_of Move = move_of
form_of Deliver = deliver_of
form_of Packet = packet_of
form_of Lose = lose_of
form_of Crash = crash_of
form_of Recover = recover_of
form_of Resend = resend_of
