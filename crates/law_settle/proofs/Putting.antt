-- What a Pcom puts out goes to components that have a disk, and its step keeps it so.
use Rattle.std.proofs.Common.{◌≡◌, refl, ℕ, ◌+◌, Bool, true, false, cond, ◌&&◌, List, [], ◌∷◌, map, filter, ℤ, Option, Some, None, option_map, nat_le}
use Rattle.std.specs.Prelude.{⊤, MatchOption, option_to_list, find, max}
use Rattle.std.specs.List.{AllByRecursion}
use Rattle.ic_base.specs.declared.messages.ComId.{ComId}
use Rattle.ic_base.specs.declared.messages.Msg.{Msg}
use Rattle.ic_base.specs.declared.messages.Output.{Output}
use Rattle.ic_base.specs.declared.messages.Decision.{Decision}
use Rattle.ic_base.specs.declared.messages.Decision.TheVariants.{Committed, Aborted}
use Rattle.ic_base.specs.declared.messages.Session.{Session}
use Rattle.ic_base.specs.declared.messages.Level.{Level}
use Rattle.ic_base.specs.declared.messages.Level.TheVariants as levels
use Rattle.ic_base.specs.declared.messages.Packet.{Packet}
use Rattle.ic_base.specs.declared.messages.Packet.TheVariants.{Data, Stable, Installed, Fetch, Op, OpReply, Commit, Outcome, Drop}
use Rattle.ic_base.specs.declared.scenario.Program.{Program}
use Rattle.ic_base.specs.declared.record.Record.TheVariants.{Take, TakeWhole, Input, Released, Checkpoint}
use Rattle.ic_base.specs.Programs.{is_immediate, is_other_pcom}
use Rattle.def_state.specs.Names.{Identity}
use Rattle.def_state.specs.Outbox
use Rattle.def_state.specs.Outbox.{Outbox, Held, mark_put, mark_stable, is_due, is_unstable, is_held_as}
use Rattle.def_state.specs.Inbox
use Rattle.def_state.specs.Inbox.{Inbox, Receipt, after_ack, told_as, level_of, is_loud, cover_one}
use Rattle.def_state.specs.Shelf
use Rattle.def_state.specs.Txn
use Rattle.def_state.specs.Txn.{Stage, Idle, Waiting, Answered, Committing, tcom_of, pending_at}
use Rattle.def_state.specs.Image.{image_of}
use Rattle.def_state.specs.Vol.{Vol, regenerated, with_put_mark}
use Rattle.def_step.specs.Packets.{fits_pcom}
use Rattle.def_step.specs.Pcom.{Pcom, forced_end, log_end, in_hand, Call, Gives, Gets, Forces, Checkpoints, Resends, Emits, Effects, just_tail, nothing_at_all, take_record, level_answer, on_data, on_installed, on_reply, on_outcome, on_packet, on_emit, need_records, fails_with, decide, drop_packet, all_owed, marked, force_if, cover_if, after_tail, ack_at, ack_packet, owes_drop, tail_packets, Busy, Took, Changed}
use Rattle.law_settle.specs.Kept.{HasDisk, GoesToKept, NamesKept}
use Rattle.law_settle.proofs.Addresses.{PeerKept, other-kept}
use Rattle.law_settle.proofs.Tables.{all-map, all-filter, all-kept}
use Rattle.law_settle.proofs.Walks.{all-append}
use Rattle.law_replay.proofs.Lists.{front}

-- marks -------------------------------------------------------------------------------------------

pub marked-names : (program : Program) (p : Pcom) (o : Option Identity) → NamesKept program p.vol → NamesKept program (marked p o).vol
marked-names program p None x = x
marked-names program p (Some y) x = record { held = all-map (λ h. HasDisk program h.msg.to) (λ h. HasDisk program h.msg.to) (mark_stable y) (λ h k. k) p.vol.outbox.held x.held; receipts = x.receipts; last = x.last; open_on = x.open_on }

told-names : (program : Program) (forced : ℕ) (rs : List Receipt) → AllByRecursion (λ r. HasDisk program r.name.peer) rs → AllByRecursion (λ r. HasDisk program r.name.peer) (Inbox.all_told (record { taken = []; receipts = rs }) forced).receipts
told-names program forced rs x = all-kept (λ r. HasDisk program r.name.peer) (after_ack forced) keeps rs x
  where
    as-told : (r : Receipt) (l : Level) → HasDisk program r.name.peer → MatchOption (told_as r l) ⊤ (λ z. HasDisk program z.name.peer)
    as-told r levels.Nothing z = z
    as-told r levels.Taken z = z
    as-told r levels.Stable z = z
    as-told r levels.Installed z = tt

    loud : (r : Receipt) (b : Bool) → HasDisk program r.name.peer → MatchOption (cond b (told_as r (level_of forced r)) (Some r)) ⊤ (λ z. HasDisk program z.name.peer)
    loud r true z = as-told r (level_of forced r) z
    loud r false z = z

    keeps : (r : Receipt) → HasDisk program r.name.peer → MatchOption (after_ack forced r) ⊤ (λ z. HasDisk program z.name.peer)
    keeps r z = loud r (is_loud forced r) z

pub tail-names : (program : Program) (p : Pcom) → NamesKept program p.vol → NamesKept program (after_tail p).vol
tail-names program p x = record {
  held = all-map (λ h. HasDisk program h.msg.to) (λ h. HasDisk program h.msg.to) (mark_put (forced_end p)) (λ h k. k) p.vol.outbox.held x.held;
  receipts = told-names program (forced_end p) p.vol.inbox.receipts x.receipts;
  last = x.last;
  open_on = x.open_on;
}

pub force-names : (program : Program) (b : Bool) (p : Pcom) → NamesKept program p.vol → NamesKept program (force_if b p).vol
force-names program true p x = x
force-names program false p x = x

pub cover-names : (program : Program) (b : Bool) (p : Pcom) → NamesKept program p.vol → NamesKept program (cover_if b p).vol
cover-names program false p x = x
cover-names program true p x = record { held = x.held; receipts = all-map (λ r. HasDisk program r.name.peer) (λ r. HasDisk program r.name.peer) (cover_one (log_end p)) (λ r k. k) p.vol.inbox.receipts x.receipts; last = x.last; open_on = x.open_on }

pub regenerated-names : (program : Program) (v : Vol) → NamesKept program v → NamesKept program (regenerated v)
regenerated-names program v x = record { held = all-map (λ h. HasDisk program h.msg.to) (λ h. HasDisk program h.msg.to) with_put_mark (λ h k. k) v.outbox.held x.held; receipts = x.receipts; last = x.last; open_on = x.open_on }

-- packets -----------------------------------------------------------------------------------------

unfoldable pub AllKept : Program → List Packet → Type 0
AllKept program ps = AllByRecursion (GoesToKept program) ps

cond-all : {A : Type 0} (P : A → Type 0) (b : Bool) (xs ys : List A) → AllByRecursion P xs → AllByRecursion P ys → AllByRecursion P (cond b xs ys)
cond-all P true xs ys x y = x
cond-all P false xs ys x y = y

find-all : {A : Type 0} (P : A → Type 0) (test : A → Bool) (xs : List A) → AllByRecursion P xs → MatchOption (find test xs) ⊤ P
find-all P test [] h = tt
find-all P test (x ∷ xs) h = at (test x) (find-all P test xs h.1)
  where
    at : (b : Bool) → MatchOption (find test xs) ⊤ P → MatchOption (cond b (Some x) (find test xs)) ⊤ P
    at true more = h.0
    at false more = more

messages-kept : (program : Program) (test : Held → Bool) (hs : List Held) → AllByRecursion (λ h. HasDisk program h.msg.to) hs → AllKept program (map Data (map (λ h. h.msg) (filter test hs)))
unfolding AllKept
messages-kept program test hs x =
    all-map (λ m. HasDisk program m.to) (GoesToKept program) Data (λ m k. k) (map (λ (h : Held). h.msg) (filter test hs))
    (all-map (λ h. HasDisk program h.msg.to) (λ m. HasDisk program m.to) (λ (h : Held). h.msg) (λ h k. k) (filter test hs) (all-filter (λ h. HasDisk program h.msg.to) test hs x))

pub fetched-kept : (program : Program) (test : Held → Bool) (hs : List Held) → AllByRecursion (λ h. HasDisk program h.msg.to) hs → AllKept program (map Data (option_to_list (option_map (λ h. h.msg) (find test hs))))
unfolding AllKept
fetched-kept program test hs x = at (find test hs) (find-all (λ h. HasDisk program h.msg.to) test hs x)
  where
    at : (o : Option Held) → MatchOption o ⊤ (λ h. HasDisk program h.msg.to) → AllByRecursion (GoesToKept program) (map Data (option_to_list (option_map (λ (h : Held). h.msg) o)))
    at None h = tt
    at (Some m) h = (h, tt)

ack-kept : (program : Program) (c : ComId) (x : Identity) (l : Level) → HasDisk program x.peer → GoesToKept program (ack_at c x l)
ack-kept program c x levels.Nothing h = h
ack-kept program c x levels.Taken h = h
ack-kept program c x levels.Stable h = h
ack-kept program c x levels.Installed h = h

pub drops-kept : (program : Program) (c : ComId) (o : Option (ComId × ℕ)) → MatchOption o ⊤ (λ x. HasDisk program x.0) → AllKept program (map (drop_packet c) (option_to_list o))
unfolding AllKept
drops-kept program c None h = tt
drops-kept program c (Some x) h = (h, tt)

pending-kept : (program : Program) (c : ComId) (n clock : ℕ) (s : Stage) → MatchOption (tcom_of s) ⊤ (HasDisk program) → AllKept program (option_to_list (pending_at c n clock s))
unfolding AllKept
pending-kept program c n clock Idle h = tt
pending-kept program c n clock (Waiting t p r q) h = (h, tt)
pending-kept program c n clock (Answered t p r q) h = (h, tt)
pending-kept program c n clock (Committing t p r) h = (h, tt)

pub tail-kept : (program : Program) (c : ComId) (came : Bool) (p : Pcom) → NamesKept program p.vol → AllKept program (tail_packets c came p)
unfolding AllKept
tail-kept program c came p x =
    all-append (GoesToKept program) _ _
    (all-append (GoesToKept program) _ _
    (all-append (GoesToKept program) _ _
    (all-map (λ a. HasDisk program a.name.peer) (GoesToKept program) (ack_packet c) (λ a k. ack-kept program c a.name a.level k) (Inbox.acks p.vol.inbox (forced_end p))
    (all-map (λ r. HasDisk program r.name.peer) (λ a. HasDisk program a.name.peer) (Inbox.ack_of (forced_end p)) (λ r k. k) (filter (is_loud (forced_end p)) p.vol.inbox.receipts) (all-filter (λ r. HasDisk program r.name.peer) (is_loud (forced_end p)) p.vol.inbox.receipts x.receipts)))
    (messages-kept program (is_due (forced_end p)) p.vol.outbox.held x.held))
    (cond-all (GoesToKept program) (owes_drop p) (map (drop_packet c) (option_to_list p.vol.txn.last)) [] (drops-kept program c p.vol.txn.last x.last) tt))
    (cond-all (GoesToKept program) came (option_to_list (Txn.pending c p.vol.txn p.vol.clock)) [] (pending-kept program c p.vol.txn.begun p.vol.clock p.vol.txn.stage x.open_on) tt)

owed-kept : (program : Program) (c : ComId) (p : Pcom) → NamesKept program p.vol → AllKept program (all_owed c p)
unfolding AllKept
owed-kept program c p x =
    all-append (GoesToKept program) _ _
    (all-append (GoesToKept program) _ _
    (messages-kept program (is_unstable (forced_end p)) p.vol.outbox.held x.held)
    (cond-all (GoesToKept program) (nat_le p.vol.ended_at (forced_end p)) (map (drop_packet c) (option_to_list p.vol.txn.last)) [] (drops-kept program c p.vol.txn.last x.last) tt))
    (pending-kept program c p.vol.txn.begun p.vol.clock p.vol.txn.stage x.open_on)

-- what is decided ---------------------------------------------------------------------------------

pub record ChoiceKept (program : Program) (d : Effects) : Type 0 where
  pub adds : AllByRecursion (PeerKept program) d.adds
  pub answers : AllByRecursion (GoesToKept program) d.answers

level-kept : (program : Program) (c : ComId) (m : Msg) (l : Level) → HasDisk program m.from → AllByRecursion (GoesToKept program) (level_answer c m l)
level-kept program c m levels.Nothing h = tt
level-kept program c m levels.Taken h = tt
level-kept program c m levels.Stable h = (h, tt)
level-kept program c m levels.Installed h = (h, tt)

take-kept : (program : Program) (c : ComId) (v : Vol) (m : Msg) → HasDisk program m.from → PeerKept program (take_record program c v m)
take-kept program c v m h = at (is_immediate program c)
  where
    at : (b : Bool) → PeerKept program (cond b (TakeWhole m.from m.k (max v.clock m.stamp + 1) m.handler m.args) (Take m.from m.k (max v.clock m.stamp + 1)))
    at true = h
    at false = h

data-kept : (program : Program) (c : ComId) (p : Pcom) (m : Msg) → HasDisk program m.from → ChoiceKept program (on_data program c p m)
data-kept program c p m h = at (Inbox.is_taken p.vol.inbox (record { peer = m.from; k = m.k })) (in_hand p)
  where
    at : (taken b : Bool) → ChoiceKept program (cond taken (record just_tail { answers = level_answer c m (Inbox.level p.vol.inbox (record { peer = m.from; k = m.k }) (forced_end p)) }) (cond b (record nothing_at_all { word = Busy }) (record just_tail { word = Took; content = Some m; adds = take_record program c p.vol m ∷ []; forces = is_immediate program c })))
    at true b = record { adds = tt; answers = level-kept program c m (Inbox.level p.vol.inbox (record { peer = m.from; k = m.k }) (forced_end p)) h }
    at false true = record { adds = tt; answers = tt }
    at false false = record { adds = (take-kept program c p.vol m h, tt); answers = tt }

installed-kept : (program : Program) (p : Pcom) (x : Identity) → ChoiceKept program (on_installed p x)
installed-kept program p x = at (Outbox.is_held p.vol.outbox x)
  where
    at : (b : Bool) → ChoiceKept program (cond b (record just_tail { adds = Released x.peer x.k ∷ []; word = Changed }) just_tail)
    at true = record { adds = (tt, tt); answers = tt }
    at false = record { adds = tt; answers = tt }

reply-kept : (program : Program) (c : ComId) (v : Vol) (n place : ℕ) (session : Session) (o : Option ℤ) → ChoiceKept program (on_reply program c v n place session o)
reply-kept program c v n place session None = record { adds = tt; answers = tt }
reply-kept program c v n place session (Some value) = record { adds = (tt, at (fails_with program c v value)); answers = tt }
  where
    at : (o : Option ℕ) → AllByRecursion (PeerKept program) (need_records v o)
    at None = tt
    at (Some line) = (tt, tt)

outcome-kept : (program : Program) (v : Vol) (o : Option Decision) → ChoiceKept program (on_outcome v o)
outcome-kept program v None = record { adds = tt; answers = tt }
outcome-kept program v (Some (Committed stamp)) = record { adds = (tt, tt); answers = tt }
outcome-kept program v (Some (Aborted cause)) = record { adds = (tt, tt); answers = tt }

none-kept : (program : Program) → ChoiceKept program nothing_at_all
none-kept program = record { adds = tt; answers = tt }

packet-kept : (program : Program) (c : ComId) (p : Pcom) (packet : Packet) → NamesKept program p.vol → fits_pcom program c packet ≡ true → ChoiceKept program (on_packet program c p packet)
unfolding AllKept
packet-kept program c p (Data m) x e = data-kept program c p m (other-kept program c m.from (front (is_other_pcom program c m.from) _ e))
packet-kept program c p (Stable from to k) x e = record { adds = tt; answers = tt }
packet-kept program c p (Installed from to k) x e = installed-kept program p (record { peer = from; k = k })
packet-kept program c p (Fetch from to k) x e = record { adds = tt; answers = fetched-kept program (λ h. is_held_as (record { peer = from; k = k }) h && nat_le h.at (forced_end p)) p.vol.outbox.held x.held }
packet-kept program c p (OpReply from to n place session value) x e = reply-kept program c p.vol n place session (Txn.reply p.vol.txn (OpReply from to n place session value))
packet-kept program c p (Outcome from to n place session decision) x e = outcome-kept program p.vol (Txn.outcome p.vol.txn (Outcome from to n place session decision))
packet-kept program c p (Op from to n place session request) x e = none-kept program
packet-kept program c p (Commit from to n place session stamp) x e = none-kept program
packet-kept program c p (Drop from to n) x e = none-kept program

pub choice-kept : (program : Program) (c : ComId) (p : Pcom) (call : Call) → NamesKept program p.vol → ChoiceKept program (decide program c p call)
unfolding AllKept
choice-kept program c p (Gives handler args) x = at (in_hand p)
  where
    at : (b : Bool) → ChoiceKept program (cond b nothing_at_all (record just_tail { word = Took; adds = Input (p.vol.clock + 1) handler args ∷ []; forces = true }))
    at true = none-kept program
    at false = record { adds = (tt, tt); answers = tt }
choice-kept program c p (Gets packet) x = at (fits_pcom program c packet) refl
  where
    at : (b : Bool) → fits_pcom program c packet ≡ b → ChoiceKept program (cond b (on_packet program c p packet) nothing_at_all)
    at true e = packet-kept program c p packet x e
    at false e = none-kept program
choice-kept program c p Forces x = record { adds = tt; answers = tt }
choice-kept program c p Checkpoints x = at (in_hand p)
  where
    at : (b : Bool) → ChoiceKept program (cond b nothing_at_all (record just_tail { adds = Checkpoint (image_of p.vol) ∷ []; forces = true; covers = true }))
    at true = none-kept program
    at false = record { adds = (tt, tt); answers = tt }
choice-kept program c p Resends x = record { adds = tt; answers = owed-kept program c p x }
choice-kept program c p Emits x = at (Shelf.next_due p.vol.shelf (forced_end p))
  where
    at : (o : Option Output) → ChoiceKept program (on_emit o)
    at None = none-kept program
    at (Some o) = record { adds = (tt, tt); answers = tt }
