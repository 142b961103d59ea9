-- A recovery gives the facts of a Pcom that comes up.
use Rattle.std.specs.Prelude.{◌≡◌, ℕ, true, false, List, [], Some, Contains, is_none}
use Rattle.ic_base.specs.declared.messages.ComId.{ComId}
use Rattle.ic_base.specs.declared.messages.Packet.{Packet}
use Rattle.ic_base.specs.declared.scenario.Program.{Program}
use Rattle.ic_base.specs.declared.record.Record.{Record}
use Rattle.ic_base.specs.declared.record.Record.TheVariants.{Checkpoint}
use Rattle.def_state.specs.Outbox.{Held}
use Rattle.def_state.specs.Shelf
use Rattle.def_state.specs.Hist.{Hist}
use Rattle.def_state.specs.Image.{image_of, read_image}
use Rattle.def_state.specs.Vol.{Vol}
use Rattle.def_state.specs.Mirrors.{Mirrors, vol_of}
use Rattle.def_facts.specs.Logs.{Stands}
use Rattle.def_facts.specs.Pcom.{state_after}
use Rattle.law_image.specs.Readable.{HasImage}

-- a state that was read from an image: all is due, and nothing is marked
pub record ReadsBack (v : Vol) (h : Hist) : Type 0 where
  pub mirrors : Mirrors v h
  pub held_due : (x : Held) → Contains v.outbox.held x → x.at ≡ 0
  pub held_plain : (x : Held) → Contains v.outbox.held x → x.stable ≡ false
  pub shelved_due : (x : Shelf.Waiting) → Contains v.shelf.waiting x → x.at ≡ 0
  pub none_open : v.inbox.receipts ≡ []
  pub ended_at : v.ended_at ≡ 0

-- the images in a log are read back as the states of the records before them
abbrev pub ImagesRead : Program → ComId → List Packet → List Record → Type 0
ImagesRead program c received log = (pre post : List Record) (image : List ℕ) (h : Hist) (v : Vol) → Stands log pre (Checkpoint image) post → state_after program c received pre ≡ Some h → image ≡ image_of (vol_of h) → is_none h.plain.hand ≡ true → read_image program c image ≡ Some v → ReadsBack v h

-- each state of which a log has an image has one: each field of it has its bytes
abbrev pub HaveImages : Program → ComId → List Packet → List Record → Type 0
HaveImages program c received log = (pre post : List Record) (image : List ℕ) (h : Hist) → Stands log pre (Checkpoint image) post → state_after program c received pre ≡ Some h → is_none h.plain.hand ≡ true → HasImage c (vol_of h)

-- such images are read back
abbrev pub ImagesAreRead : Type 0
ImagesAreRead = (program : Program) (c : ComId) (received : List Packet) (log : List Record) → HaveImages program c received log → ImagesRead program c received log
