-- Words behind a text.
use Rattle.std.specs.Prelude.{ℕ, ℤ, List, [], ◌∷◌, ◌++◌, map, codes, decimal}
use Rattle.std.specs.Fmt.{signed_decimal}
use Rattle.ic_base.specs.declared.messages.Output.{Output}
use Rattle.ic_base.specs.declared.messages.Packet.{Packet}
use Rattle.ic_base.specs.declared.report.Summary.{Summary}
use Rattle.ic_base.specs.declared.scenario.Component.{Component}
use Rattle.ic_base.specs.declared.scenario.Program.{Program}
use Rattle.def_report.specs.Words.{name_of, packet_words, sender_of, receiver_of}
use Rattle.def_report.specs.Summaries.{cells_of, cell_words}
use Rattle.ic_base.specs.declared.events.Event.{Event}
use Rattle.def_client.specs.Clients.{Item, Plain, item_of}
use Rattle.ic_report.specs.declared.lines.Form.{Form}
use Rattle.ic_report.specs.declared.lines.Form.TheVariants as forms

-- a text and each of the words behind it, with a blank before each
abbrev pub said : List ℕ → List (List ℕ) → List ℕ
said text [] = text
said text (w ∷ ws) = said (text ++ 32 ∷ w) ws

-- the words of a packet that was put out, behind `put`
abbrev pub put_words : Program → ℕ → Packet → List (List ℕ)
put_words p number packet = decimal number ∷ name_of p (sender_of packet) ∷ name_of p (receiver_of packet) ∷ packet_words p packet

-- the words of an output that was shown, behind `out` or `again`
abbrev pub showing_words : Program → List ℕ → Output → List (List ℕ)
showing_words p name output = name_of p output.to ∷ name ∷ decimal output.m ∷ map signed_decimal output.args

-- the counts of inputs, behind `inputs`
abbrev pub input_words : Summary → List (List ℕ)
input_words s = codes "taken" ∷ decimal s.taken ∷ codes "kept" ∷ decimal s.kept ∷ codes "lost" ∷ decimal s.lost ∷ codes "missed" ∷ decimal s.missed ∷ []

-- the counts of outputs, behind `outputs`
abbrev pub output_words : Summary → List (List ℕ)
output_words s = codes "first" ∷ decimal s.first ∷ codes "again" ∷ decimal s.again ∷ []

-- the words of a component that is up, behind its kind
abbrev pub up_words : Component → List ℤ → List (List ℕ)
up_words c values = c.name ∷ codes "up" ∷ cell_words (cells_of c) values

-- the words of a component of the crash-free world, behind its kind
abbrev pub plain_words : Component → List ℤ → List (List ℕ)
plain_words c values = c.name ∷ cell_words (cells_of c) values

-- an event, told in a form
abbrev pub item_in : Form → Event → Item
item_in forms.Event e = Plain e
item_in forms.Item e = item_of e
