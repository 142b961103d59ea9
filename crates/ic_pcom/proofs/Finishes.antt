-- A step behind its records.
use Rattle.std.proofs.Common.{◌≡◌, ◌∙◌, ap, refl, ℕ, ◌+◌, ◌≤◌, Bool, true, false, cond, List, ◌++◌, length, drop, arith}
use Rattle.std.specs.Prelude.{◌||◌, filter}
use Rattle.std.proofs.lemmas.List.{length-map}
use Rattle.ic_base.specs.declared.messages.ComId.{ComId}
use Rattle.def_state.specs.Vol.{Vol}
use Rattle.def_state.specs.Inbox as inbox
use Rattle.def_state.specs.Outbox as sent
use Rattle.def_step.specs.Pcom.{Pcom, Log, Effects, force_if, cover_if, force_where, must_force, came_to_first, came_further, told, after_tail, tail_packets}
use Rattle.ic_gate.specs.RecordCommits.{split_if, forced_if}
use Rattle.ic_pcom.specs.Carrying.{up, put_with, finished}
use Rattle.ic_pcom.specs.Landing.{HasPacketRoom}
use Rattle.ic_base.specs.declared.messages.Packet.{Packet}
use Rattle.std.proofs.Math.Seq.{drop-append_seam, drop-length}

force_if-is : (b : Bool) (l : Log) (w : Vol) → up (split_if b l) w ≡ force_if b (up l w)
force_if-is true l w = refl
force_if-is false l w = refl

cover_if-is : (b : Bool) (l : Log) (w : Vol) → up l (cover_if b (up l w)).vol ≡ cover_if b (up l w)
cover_if-is true l w = refl
cover_if-is false l w = refl

txn_kept : (b f : Bool) (l : Log) (w : Vol) → (cover_if b (force_if f (up l w))).vol.txn ≡ w.txn
txn_kept true true l w = refl
txn_kept true false l w = refl
txn_kept false true l w = refl
txn_kept false false l w = refl

module _ (c : ComId) (v w : Vol) (e : Effects) (came must : Bool) (old new : Log) (x : Vol) where
  pub finishes : must ≡ (e.forces || must_force v w) → ((u : Vol) → u.txn ≡ w.txn → came ≡ (came_to_first v u || came_further v u))
      → new ≡ split_if must old → x ≡ (cover_if e.covers (up new w)).vol → put_with c came e (up new x) ≡ finished c v e (up old w)
  finishes forces comes is covers =
      let q : Pcom = force_where v e (up old w) in
      let here : up new w ≡ force_if (e.forces || must_force v w) (up old w) = ap (λ l. up l w) is ∙ force_if-is must old w ∙ ap (λ b. force_if b (up old w)) forces in
      let there : up new x ≡ q = ap (up new) covers ∙ cover_if-is e.covers new w ∙ ap (cover_if e.covers) here in
      ap (put_with c came e) there ∙ ap (λ b. put_with c b e q) (comes q.vol (txn_kept e.covers (e.forces || must_force v w) old w))

-- room for each receipt that has something to tell, and for each message that is due, is room for what is told and put out
pub room_enough : (came : Bool) (n capacity forced : ℕ) (v : Vol) → HasPacketRoom false came forced n capacity v → n + length (inbox.acks v.inbox forced) + length (sent.due_messages v.outbox forced) + cond v.owes_drop 1 0 + cond came 1 0 ≤ capacity
room_enough came n capacity forced v room =
    omega (arith, room, length-map (filter (inbox.is_loud forced) v.inbox.receipts) (inbox.ack_of forced), length-map (filter (sent.is_due forced) v.outbox.held) (λ h. h.msg))

-- what is forced
pub log_where : (c : ComId) (v w : Vol) (e : Effects) (l : Log) → (finished c v e (up l w)).pcom.log ≡ split_if (e.forces || must_force v w) l
log_where c v w e l =
    let q = force_where v e (up l w) in
    put e.is_quiet q e.answers (e.answers ++ tail_packets c (came_to_first v q.vol || came_further v q.vol) q) ∙ forced e.covers (e.forces || must_force v w)
  where
    put : (b : Bool) (q : Pcom) (xs ys : List Packet) → (cond b (told q xs e) (told (after_tail q) ys e)).pcom.log ≡ q.log
    put true q xs ys = refl
    put false q xs ys = refl

    forced : (b f : Bool) → (cover_if b (force_if f (up l w))).log ≡ split_if f l
    forced true true = refl
    forced true false = refl
    forced false true = refl
    forced false false = refl

-- the records that it forces
pub batch_is : (b : Bool) (l : Log) → drop (length l.forced) (split_if b l).forced ≡ forced_if b l
batch_is true l = drop-append_seam l.forced l.buffered
batch_is false l = drop-length l.forced
