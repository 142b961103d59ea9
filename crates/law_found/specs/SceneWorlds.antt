-- The scene as a world in which all components are up.
use Rattle.std.specs.Prelude.{false, true, pos, [], ◌∷◌, ◌++◌}
use Rattle.std.specs.declared.alloc.Global.{Global}
use Rattle.ic_base.specs.declared.messages.Level.TheVariants as levels
use Rattle.def_plain.specs.Scenes.{com_at}
use Rattle.def_state.specs.Mirrors.{vol_of, taken_of}
use Rattle.def_step.specs.Pcom.{Pcom}
use Rattle.def_step.specs.Tcom.{Tcom, Book}
use Rattle.def_step.specs.World.{World, Serves, Runs}
use Rattle.def_facts.specs.World.{IsExplainedBy}
use Rattle.law_found.specs.Trade.{trade, bought, told, the_note, bank_log, buyer_log, clerk_log, bank_sent, buyer_sent, clerk_sent, trade_past}

abbrev pub the_book : Book
the_book = record { ledger = pos 30 ∷ []; decided = record { peer = com_at 1; n = 1; stamp = 2 } ∷ []; epoch = 1; clock = 2 }

abbrev pub bank : Tcom
bank = record { records = bank_log; book = the_book; counter = 1; sittings = []; least = [] }

-- the buyer still holds its message, which is stable at the clerk
abbrev pub buyer : Pcom
buyer = record {
  log = record { forced = buyer_log; buffered = [] };
  vol = record (vol_of bought) { outbox = record { held = record { msg = the_note; at = 0; put = true; stable = true } ∷ []; links = (vol_of bought).outbox.links } };
  rest = [];
}

-- the clerk's receipt of it is open
abbrev pub clerk : Pcom
clerk = record {
  log = record { forced = clerk_log; buffered = [] };
  vol = record (vol_of told) {
    inbox = record { taken = taken_of told; receipts = record { name = record { peer = com_at 1; k = 1 }; at = 0; covered = false; told = levels.Stable } ∷ [] };
  };
  rest = [];
}

abbrev pub trade_world : World
trade_world = record { nodes = Serves bank ∷ Runs buyer ∷ Runs clerk ∷ []; packets = bank_sent ++ buyer_sent ++ clerk_sent; waiting = []; showings = [] }

-- it is explained
abbrev pub WorldIsExplained : Type 0
WorldIsExplained = (a : Global) → IsExplainedBy (trade a) [] (λ c. 0) trade_world trade_past
