-- A Pcom that holds only the tail of its log, beside one that holds all of it: the records before the tail change where later ones end, and
-- nothing of what a step does.
use Rattle.std.specs.Prelude.{◌≡◌, ℕ, zero, suc, ◌+◌, true, List, ◌++◌, map, option_map}
use Rattle.ic_base.specs.declared.messages.ComId.{ComId}
use Rattle.ic_base.specs.declared.record.Record.{Record}
use Rattle.ic_base.specs.declared.scenario.Program.{Program}
use Rattle.def_state.specs.Positions.{end_of}
use Rattle.def_state.specs.Outbox.{Outbox, Held}
use Rattle.def_state.specs.Inbox.{Inbox, Receipt}
use Rattle.def_state.specs.Shelf.{Shelf, Waiting}
use Rattle.def_state.specs.Vol.{Vol}
use Rattle.def_step.specs.Replay.{has_image}
use Rattle.def_step.specs.Pcom.{Pcom, Call, StepResult, pcom_step, recover_pcom, is_full}

-- a position in the tail as one in a log that has n more bytes before it; at 0 stands what a recovery found
abbrev pub shifted : ℕ → ℕ → ℕ
shifted n zero = zero
shifted n (suc at) = n + suc at

abbrev pub shifted_held : ℕ → Held → Held
shifted_held n h = record h { at = shifted n h.at }

abbrev pub shifted_outbox : ℕ → Outbox → Outbox
shifted_outbox n o = record o { held = map (shifted_held n) o.held }

abbrev pub shifted_receipt : ℕ → Receipt → Receipt
shifted_receipt n r = record r { at = shifted n r.at }

abbrev pub shifted_inbox : ℕ → Inbox → Inbox
shifted_inbox n i = record i { receipts = map (shifted_receipt n) i.receipts }

abbrev pub shifted_waiting : ℕ → Waiting → Waiting
shifted_waiting n w = record w { at = shifted n w.at }

abbrev pub shifted_shelf : ℕ → Shelf → Shelf
shifted_shelf n s = record s { waiting = map (shifted_waiting n) s.waiting }

abbrev pub shifted_vol : ℕ → Vol → Vol
shifted_vol n v = record v {
  outbox = shifted_outbox n v.outbox;
  inbox = shifted_inbox n v.inbox;
  shelf = shifted_shelf n v.shelf;
  ended_at = shifted n v.ended_at;
}

-- the Pcom with these records before its log
abbrev pub with_earlier : List Record → Pcom → Pcom
with_earlier earlier p = record {
  log = record { forced = earlier ++ p.log.forced; buffered = p.log.buffered };
  vol = shifted_vol (end_of earlier) p.vol;
  rest = p.rest;
}

abbrev pub told_with_earlier : List Record → StepResult → StepResult
told_with_earlier earlier x = record x { pcom = with_earlier earlier x.pcom }

-- each call does the same on the tail as on the whole log, and has room for the same
abbrev pub StepsByTail : Type 0
StepsByTail = (program : Program) (c : ComId) (earlier : List Record) (p : Pcom) (call : Call)
    → (pcom_step program c (with_earlier earlier p) call ≡ option_map (told_with_earlier earlier) (pcom_step program c p call))
    × ((size : ℕ) → is_full program c size (with_earlier earlier p) call ≡ is_full program c size p call)

-- a component that comes up over the tail is the one that comes up over the whole log
abbrev pub ComesUpByTail : Type 0
ComesUpByTail = (program : Program) (c : ComId) (earlier tail : List Record) → has_image tail ≡ true
    → recover_pcom program c (earlier ++ tail) ≡ option_map (told_with_earlier earlier) (recover_pcom program c tail)
