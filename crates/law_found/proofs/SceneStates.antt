-- The states to which the logs of the scene replay, record by record.
use Rattle.std.proofs.Common.{◌≡◌, refl, ◌∙◌, ap, ℕ, pos, cond, ◌&&◌, [], ◌∷◌, ◌++◌, Option, Some, None, option_map, option_and_then, is_none}
use Rattle.std.specs.declared.alloc.Global.{Global}
use Rattle.ic_base.specs.declared.messages.AbortCause.TheVariants.{Held}
use Rattle.ic_base.specs.declared.messages.ComId.{ComId}
use Rattle.ic_base.specs.declared.messages.Done.TheVariants.{Committed, Aborted}
use Rattle.ic_base.specs.declared.played.Played.{Played}
use Rattle.ic_base.specs.declared.scenario.Program.{Program}
use Rattle.ic_base.specs.declared.record.Record.TheVariants.{Take, Input, Value, Outcome, Checkpoint}
use Rattle.def_plain.specs.declared.world.PlainPcom.{PlainPcom}
use Rattle.def_plain.specs.Cell.{Touch, TakesMessage, TakesInput, SeesAbort, SeesCommit, cell_step, come_to, new_in_hand}
use Rattle.def_plain.specs.Scenes.{com_at}
use Rattle.def_plain.proofs.Steps.{cell-input, cell-message}
use Rattle.def_state.specs.Fits.{failed_line}
use Rattle.def_state.specs.Hist.{Hist, Contents, apply, apply_all, after, first_hist, first_plain, recorded, played_on, moved_well, is_at_request, numbers_fit, hand_plays, first_stage, begun_with, staged, new_messages, new_outputs, last_ended}
use Rattle.def_state.specs.Image.{image_of}
use Rattle.def_state.specs.Mirrors.{vol_of}
use Rattle.def_state.specs.Txn.{tcom_of, answered_in}
use Rattle.def_facts.specs.Logs.{contents_in}
use Rattle.law_found.specs.Trade.{trade, the_session, asking, ready, bought, refused, failed, told, buyer_log, clerk_log, buyer_received, clerk_received, SceneReplays}
use Rattle.law_found.proofs.ScenePlays.{buy-plays, book-plays, note-plays}

-- the state behind a play, by what the hand comes to
abbrev moved-by : ComId → ℕ → Hist → PlainPcom → Option Played → Hist
moved-by c stamp h p o = record {
  plain = p;
  clock = stamp;
  sent = h.sent ++ new_messages c stamp h p;
  held = h.held ++ new_messages c stamp h p;
  unshown = h.unshown ++ new_outputs h p;
  shown = h.shown;
  last = h.last;
  stage = first_stage o;
  now = [];
  begun = h.begun ++ begun_with p p.hand (tcom_of (first_stage o));
}

abbrev well-by : ComId → ℕ → Hist → PlainPcom → Option Played → Option Hist
well-by c stamp h p o = cond (numbers_fit (moved-by c stamp h p o) && is_at_request o) (Some (moved-by c stamp h p o)) None

moves : (program : Program) (c : ComId) (stamp : ℕ) (h : Hist) (t : Touch) (p : PlainPcom) (o : Option Played) (g : Hist) → cell_step program c h.plain t ≡ Some p → option_map (hand_plays program c p.vars []) p.hand ≡ o → well-by c stamp h p o ≡ Some g → played_on program c h stamp (Some t) ≡ Some g
moves program c stamp h t p o g step plays is =
    ap (option_and_then (moved_well program c h stamp)) step ∙ ap (well-by c stamp h p) plays ∙ is

-- the buyer -------------------------------------------------------------------------------------------------

abbrev k1 : Contents
k1 = contents_in buyer_received

pub asks : (a : Global) → apply (trade a) (com_at 1) k1 (first_hist (trade a) (com_at 1)) (Input 1 0 (pos 30 ∷ [])) ≡ Some asking
asks a =
    moves (trade a) (com_at 1) 1 (first_hist (trade a) (com_at 1)) (TakesInput 0 (pos 30 ∷ [])) asking.plain _ asking
    (cell-input (trade a) (com_at 1) (first_plain (trade a) (com_at 1)) 0 (pos 30 ∷ []) _ refl (buy-plays a (pos 0 ∷ []) (pos 30 ∷ []) [] []))
    (ap (λ r. Some r) (buy-plays a (pos 0 ∷ []) (pos 30 ∷ []) [] [])) refl

pub readies : (a : Global) → apply (trade a) (com_at 1) k1 asking (Value 1 0 the_session (pos 30)) ≡ Some ready
readies a = ap (λ r. Some (record asking { now = pos 30 ∷ []; stage = staged (answered_in asking.stage the_session) (Some r) })) (buy-plays a (pos 0 ∷ []) (pos 30 ∷ []) [] (pos 30 ∷ []))

pub buys : (a : Global) → apply (trade a) (com_at 1) k1 ready (Outcome 3 1 None) ≡ Some bought
buys a =
    moves (trade a) (com_at 1) 3 (last_ended ready) (SeesCommit 1 (pos 30 ∷ [])) bought.plain None bought
    (ap (λ r. Some (come_to (record asking.plain { hand = Some (record (new_in_hand 0 (pos 30 ∷ [])) { done = Committed (pos 30 ∷ []) ∷ [] }) }) r)) (buy-plays a (pos 0 ∷ []) (pos 30 ∷ []) (Committed (pos 30 ∷ []) ∷ []) []))
    refl refl

pub buyer-asked : (a : Global) → after (trade a) (com_at 1) k1 (Input 1 0 (pos 30 ∷ []) ∷ []) ≡ Some asking
buyer-asked a = asks a

pub buyer-ready : (a : Global) → after (trade a) (com_at 1) k1 (Input 1 0 (pos 30 ∷ []) ∷ Value 1 0 the_session (pos 30) ∷ []) ≡ Some ready
buyer-ready a = ap (λ o. apply_all (trade a) (com_at 1) k1 o (Value 1 0 the_session (pos 30) ∷ [])) (asks a) ∙ readies a

pub buyer-bought : (a : Global) → after (trade a) (com_at 1) k1 (Input 1 0 (pos 30 ∷ []) ∷ Value 1 0 the_session (pos 30) ∷ Outcome 3 1 None ∷ []) ≡ Some bought
buyer-bought a = ap (λ o. apply_all (trade a) (com_at 1) k1 o (Outcome 3 1 None ∷ [])) (buyer-ready a) ∙ buys a

-- the checkpoint changes nothing
pub buyer-replays : (a : Global) → after (trade a) (com_at 1) k1 buyer_log ≡ Some bought
buyer-replays a = ap (λ o. apply_all (trade a) (com_at 1) k1 o (Checkpoint (image_of (vol_of bought)) ∷ [])) (buyer-bought a)

-- the clerk -------------------------------------------------------------------------------------------------

abbrev k2 : Contents
k2 = contents_in clerk_received

pub refuses : (a : Global) → apply (trade a) (com_at 2) k2 (first_hist (trade a) (com_at 2)) (Input 1 0 (pos 50 ∷ [])) ≡ Some refused
refuses a =
    moves (trade a) (com_at 2) 1 (first_hist (trade a) (com_at 2)) (TakesInput 0 (pos 50 ∷ [])) refused.plain _ refused
    (cell-input (trade a) (com_at 2) (first_plain (trade a) (com_at 2)) 0 (pos 50 ∷ []) _ refl (book-plays a (pos 0 ∷ []) (pos 50 ∷ []) [] []))
    (ap (λ r. Some r) (book-plays a (pos 0 ∷ []) (pos 50 ∷ []) [] [])) refl

pub fails : (a : Global) → apply (trade a) (com_at 2) k2 refused (Outcome 2 1 (Some (Held (com_at 1) 1))) ≡ Some failed
fails a =
    ap (λ r. cond (is_none (failed_line r)) (recorded (trade a) (com_at 2) k2 refused (Outcome 2 1 (Some (Held (com_at 1) 1)))) None) (book-plays a (pos 0 ∷ []) (pos 50 ∷ []) [] [])
    ∙ moves (trade a) (com_at 2) 2 (last_ended refused) (SeesAbort 1) failed.plain None failed
    (ap (λ r. Some (come_to (record refused.plain { hand = Some (record (new_in_hand 0 (pos 50 ∷ [])) { done = Aborted ∷ [] }) }) r)) (book-plays a (pos 0 ∷ []) (pos 50 ∷ []) (Aborted ∷ []) []))
    refl refl

pub tells : (a : Global) → apply (trade a) (com_at 2) k2 failed (Take (com_at 1) 1 4) ≡ Some told
tells a =
    moves (trade a) (com_at 2) 4 failed (TakesMessage (com_at 1) 1 1 (pos 30 ∷ [])) told.plain None told
    (cell-message (trade a) (com_at 2) failed.plain (com_at 1) 1 1 (pos 30 ∷ []) _ refl (note-plays a (pos 1 ∷ []) (pos 30 ∷ []) [] []))
    refl refl

pub clerk-refused : (a : Global) → after (trade a) (com_at 2) k2 (Input 1 0 (pos 50 ∷ []) ∷ []) ≡ Some refused
clerk-refused a = refuses a

pub clerk-failed : (a : Global) → after (trade a) (com_at 2) k2 (Input 1 0 (pos 50 ∷ []) ∷ Outcome 2 1 (Some (Held (com_at 1) 1)) ∷ []) ≡ Some failed
clerk-failed a = ap (λ o. apply_all (trade a) (com_at 2) k2 o (Outcome 2 1 (Some (Held (com_at 1) 1)) ∷ [])) (refuses a) ∙ fails a

pub clerk-replays : (a : Global) → after (trade a) (com_at 2) k2 clerk_log ≡ Some told
clerk-replays a = ap (λ o. apply_all (trade a) (com_at 2) k2 o (Take (com_at 1) 1 4 ∷ [])) (clerk-failed a) ∙ tells a

pub scene_replays : SceneReplays
scene_replays a = (buyer-replays a, clerk-replays a)
