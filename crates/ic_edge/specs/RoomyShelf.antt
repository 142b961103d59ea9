-- A shelf beside the room that it has.
use Rattle.std.specs.Prelude.{ℕ, List, map}
use Rattle.ic_base.specs.declared.messages.Output.{Output}
use Rattle.def_state.specs.Shelf.{Shelf, Waiting}

-- the outputs that aren't shown, and for how many more there is room
pub record RoomyShelf : Type 0 where
  pub shelf : Shelf
  pub spare : ℕ

-- an output that an image holds is due
abbrev pub due_at_once : Output → Waiting
due_at_once output = record { output = output; at = 0 }

abbrev pub of_image : ℕ → List Output → Shelf
of_image made outputs = record { waiting = map due_at_once outputs; made = made }
