-- Which calls receive something.
use Rattle.std.proofs.Common.{◌≡◌, ◌∙◌, ap, refl, ℕ, Bool, true, false, cond, List, Option, Some, None, ℤ}
use Rattle.std.specs.Prelude.{◌&&◌, not}
use Rattle.ic_base.specs.declared.messages.ComId.{ComId}
use Rattle.ic_base.specs.declared.messages.Msg.{Msg}
use Rattle.ic_base.specs.declared.messages.Output.{Output}
use Rattle.ic_base.specs.declared.messages.Decision.{Decision}
use Rattle.ic_base.specs.declared.messages.Decision.TheVariants.{Committed, Aborted}
use Rattle.ic_base.specs.declared.messages.Session.{Session}
use Rattle.ic_base.specs.declared.messages.Packet.{Packet}
use Rattle.ic_base.specs.declared.messages.Packet.TheVariants.{Data, Stable, Installed, Fetch, Op, OpReply, Commit, Outcome, Drop}
use Rattle.ic_base.specs.declared.scenario.Program.{Program}
use Rattle.def_state.specs.Inbox as Inbox
use Rattle.def_state.specs.Outbox as Outbox
use Rattle.def_state.specs.Shelf as Shelf
use Rattle.def_state.specs.Txn as Txn
use Rattle.def_state.specs.Vol.{Vol}
use Rattle.def_step.specs.Calls.{takes_one, node_receives}
use Rattle.def_step.specs.Packets.{fits_pcom}
use Rattle.def_step.specs.Pcom.{Pcom, Effects, Call, Gives, Gets, Checkpoints, Emits, decide, nothing_at_all, on_packet, on_data, on_reply, on_outcome, on_emit, is_replaying, in_hand, forced_end, Changed, Same}
use Rattle.def_step.specs.World.{Runs}

-- the call takes something
abbrev pub takes : Program → ComId → Pcom → Call → Bool
takes program c p call = takes_one (decide program c p call).word

fits-or-not : (fits : Bool) (e : Effects) → takes_one e.word ≡ false → takes_one (cond fits e nothing_at_all).word ≡ false
fits-or-not true e h = h
fits-or-not false e h = refl

word-of : (b : Bool) (e f : Effects) → takes_one (cond b e f).word ≡ cond b (takes_one e.word) (takes_one f.word)
word-of true e f = refl
word-of false e f = refl

pub takes-input : (program : Program) (c : ComId) (p : Pcom) (handler : ℕ) (args : List ℤ) → takes program c p (Gives handler args) ≡ not (in_hand p)
takes-input program c p handler args = word-of (in_hand p) _ _ ∙ by (in_hand p)
  where
    by : (b : Bool) → cond b false true ≡ not b
    by true = refl
    by false = refl

pub takes-data : (program : Program) (c : ComId) (p : Pcom) (m : Msg) → takes program c p (Gets (Data m)) ≡ (fits_pcom program c (Data m) && (not (Inbox.is_taken p.vol.inbox (record { peer = m.from; k = m.k })) && not (in_hand p)))
takes-data program c p m =
    word-of (fits_pcom program c (Data m)) (on_data program c p m) nothing_at_all
    ∙ ap (λ z. cond (fits_pcom program c (Data m)) z false) (word-of (Inbox.is_taken p.vol.inbox (record { peer = m.from; k = m.k })) _ _ ∙ ap (λ z. cond (Inbox.is_taken p.vol.inbox (record { peer = m.from; k = m.k })) false z) (word-of (in_hand p) _ _))
    ∙ by (fits_pcom program c (Data m)) (Inbox.is_taken p.vol.inbox (record { peer = m.from; k = m.k })) (in_hand p)
  where
    by : (f t h : Bool) → cond f (cond t false (cond h false true)) false ≡ (f && (not t && not h))
    by false t h = refl
    by true true h = refl
    by true false true = refl
    by true false false = refl

stable-none : (b : Bool) → takes_one (cond b Changed Same) ≡ false
stable-none true = refl
stable-none false = refl

reply-none : (program : Program) (c : ComId) (v : Vol) (n place : ℕ) (session : Session) (o : Option ℤ) → takes_one (on_reply program c v n place session o).word ≡ false
reply-none program c v n place session None = refl
reply-none program c v n place session (Some value) = refl

outcome-none : (v : Vol) (o : Option Decision) → takes_one (on_outcome v o).word ≡ false
outcome-none v None = refl
outcome-none v (Some (Committed stamp)) = refl
outcome-none v (Some (Aborted cause)) = refl

-- a packet that is no message is never taken
abbrev pub IsData : Packet → Bool
IsData (Data m) = true
IsData p = false

pub takes-no_other : (program : Program) (c : ComId) (p : Pcom) (q : Packet) → IsData q ≡ false → takes program c p (Gets q) ≡ false
takes-no_other program c p (Data m) e = absurd (cc)
takes-no_other program c p (Stable from to k) e = fits-or-not (fits_pcom program c (Stable from to k)) (on_packet program c p (Stable from to k)) (stable-none (Outbox.may_become_stable p.vol.outbox (record { peer = from; k = k })))
takes-no_other program c p (Installed from to k) e = fits-or-not (fits_pcom program c (Installed from to k)) (on_packet program c p (Installed from to k)) (word-of (Outbox.is_held p.vol.outbox (record { peer = from; k = k })) _ _ ∙ by (Outbox.is_held p.vol.outbox (record { peer = from; k = k })))
  where
    by : (b : Bool) → cond b false false ≡ false
    by true = refl
    by false = refl
takes-no_other program c p (Fetch from to k) e = fits-or-not (fits_pcom program c (Fetch from to k)) (on_packet program c p (Fetch from to k)) refl
takes-no_other program c p (Op from to n place session request) e = fits-or-not (fits_pcom program c (Op from to n place session request)) nothing_at_all refl
takes-no_other program c p (OpReply from to n place session value) e =
    fits-or-not (fits_pcom program c (OpReply from to n place session value)) (on_packet program c p (OpReply from to n place session value)) (reply-none program c p.vol n place session (Txn.reply p.vol.txn (OpReply from to n place session value)))
takes-no_other program c p (Commit from to n place session stamp) e = fits-or-not (fits_pcom program c (Commit from to n place session stamp)) nothing_at_all refl
takes-no_other program c p (Outcome from to n place session decision) e =
    fits-or-not (fits_pcom program c (Outcome from to n place session decision)) (on_packet program c p (Outcome from to n place session decision)) (outcome-none p.vol (Txn.outcome p.vol.txn (Outcome from to n place session decision)))
takes-no_other program c p (Drop from to n) e = fits-or-not (fits_pcom program c (Drop from to n)) nothing_at_all refl

pub takes-no_checkpoint : (program : Program) (c : ComId) (p : Pcom) → takes program c p Checkpoints ≡ false
takes-no_checkpoint program c p = word-of (in_hand p) _ _ ∙ by (in_hand p)
  where
    by : (b : Bool) → cond b false false ≡ false
    by true = refl
    by false = refl

pub takes-no_output : (program : Program) (c : ComId) (p : Pcom) → takes program c p Emits ≡ false
takes-no_output program c p = by (Shelf.next_due p.vol.shelf (forced_end p))
  where
    by : (o : Option Output) → takes_one (on_emit o).word ≡ false
    by None = refl
    by (Some o) = refl

-- what is up receives what it takes
pub receives-of : (program : Program) (c : ComId) (p : Pcom) (call : Call) (replays taken : Bool) → is_replaying p ≡ replays → takes program c p call ≡ taken → node_receives program c call (Runs p) ≡ (not replays && taken)
receives-of program c p call replays taken r t = ap (λ b. not b && takes program c p call) r ∙ ap (λ b. not replays && b) t
