-- What is done behind a commit, and what is then put out and told.
use Rattle.std.proofs.Common.{◌≡◌, ◌∙◌, sym, ap, refl, subst, ℕ, ◌-◌, ◌<◌, Bool, true, false, cond, List, [], ◌∷◌, ◌++◌, length, map, arith, Some, Option}
use Rattle.std.specs.Prelude.{get_or}
use Rattle.std.proofs.lemmas.List.{length-map}
use Rattle.ic_base.specs.declared.messages.ComId.{ComId}
use Rattle.ic_base.specs.declared.messages.Packet.{Packet}
use Rattle.ic_base.specs.declared.record.Record.{Record}
use Rattle.def_state.specs.Inbox
use Rattle.def_state.specs.Positions.{end_of}
use Rattle.def_state.specs.Vol.{Vol, numbers_fit}
use Rattle.def_step.specs.Pcom.{Pcom, Log, Effects, told, after_tail, tail_packets, all_of, cover_if}
use Rattle.ic_ckpt.specs.Views.{seen}
use Rattle.ic_ckpt.specs.declared.state.State.{State}
use Rattle.ic_index.proofs.Passing.{passing-few}
use Rattle.ic_pcom.specs.declared.effects.Effects.{Effects as Decided}
use Rattle.ic_replay.specs.Applying.{applied}
use Rattle.ic_replay.specs.declared.prepared.Prepared.{Prepared}
use Rattle.ic_pcom.specs.Carrying.{last_in, led_by, put_with, up}
use Rattle.ic_pcom.specs.Landing.{landed, covered_if, HasPacketRoom, MayApply, MayLand}
use Rattle.ic_pcom.specs.Stages.{HasPeers}
use Rattle.ic_pcom.specs.Views.{told_of}
use Rattle.ic_pcom.specs.declared.plan.Plan.{Plan}
use Rattle.ic_pcom.specs.declared.plan.Plan.TheVariants.{Adds}
use Rattle.ic_pcom.proofs.Lasts.{last-at}

-- what is told of a step, by its fields
pub told_put : (c : ComId) (came : Bool) (e : Effects) (p : Pcom) → told_of (record { pcom = (put_with c came e p).pcom; puts = (put_with c came e p).puts; word = e.word; shown = e.shown; aborted = e.aborted }) ≡ told_of (put_with c came e p)
told_put c came e p = by e.is_quiet p (after_tail p) e.answers (e.answers ++ tail_packets c came p)
  where
    by : (b : Bool) (q r : Pcom) (xs ys : List Packet) → told_of (record { pcom = (cond b (told q xs e) (told r ys e)).pcom; puts = (cond b (told q xs e) (told r ys e)).puts; word = e.word; shown = e.shown; aborted = e.aborted }) ≡ told_of (cond b (told q xs e) (told r ys e))
    by true q r xs ys = refl
    by false q r xs ys = refl

-- the last record may be applied
some_last : (c : ComId) (at : ℕ) (s : State) (rs : List Record) (e : Decided) (p : Prepared) → MayLand c at s (last_in rs) (Adds e p) → 0 < length rs
some_last c at s [] e p may = absurd may
some_last c at s (r ∷ rs) e p may = omega arith

module _ (c : ComId) (at : ℕ) (s : State) (rs : List Record) (e : Decided) (p : Prepared) (plan : Plan) (r : Record) (adds : plan ≡ Adds e p) (given : MayLand c at s (last_in rs) plan) (is : r ≡ get_or rs (length rs - 1) r) where
  may : MayLand c at s (last_in rs) (Adds e p)
  may = let May : Plan → Type 0 = λ x. MayLand c at s (last_in rs) x in subst May adds given

  last : last_in rs ≡ Some r
  last = last-at rs r (some_last c at s rs e p may) is

  pub may_apply : MayApply c at s p r
  may_apply = let May : Option Record → Type 0 = λ o. MayLand c at s o (Adds e p) in subst May last may

  pub applied_lands : applied c at p (seen s) r ≡ landed c at (seen s) rs plan
  applied_lands = ap (λ (o : Option Record). led_by c at p (seen s) o) (sym last) ∙ ap (λ (x : Plan). landed c at (seen s) rs x) (sym adds)

-- covered receipts
pub covered_is : (b : Bool) (end : ℕ) (v : Vol) (l : Log) → end_of (all_of l) ≡ end → covered_if b end v ≡ (cover_if b (up l v)).vol
covered_is true end v l is = ap (λ (n : ℕ). record v { inbox = Inbox.cover v.inbox n }) (sym is)
covered_is false end v l is = refl

pub covered_room : (b came : Bool) (forced end : ℕ) (v : Vol) (n capacity : ℕ) → HasPacketRoom b came forced n capacity v → HasPacketRoom false came forced n capacity (covered_if b end v)
covered_room true came forced end v n capacity room = omega (arith, room, passing-few (Inbox.is_loud forced) (map (Inbox.cover_one end) v.inbox.receipts), length-map v.inbox.receipts (Inbox.cover_one end))
covered_room false came forced end v n capacity room = room

-- what is put out and covered brings no sender and passes no limit
pub put_peers : (c : ComId) (came : Bool) (e : Effects) (l : Log) (w : Vol) → HasPeers w → HasPeers (put_with c came e (up l (cover_if e.covers (up l w)).vol)).pcom.vol
put_peers c came e l w peers = by e.is_quiet e.covers
  where
    by : (q b : Bool) → HasPeers (cond q (told (up l (cover_if b (up l w)).vol) e.answers e) (told (after_tail (up l (cover_if b (up l w)).vol)) (e.answers ++ tail_packets c came (up l (cover_if b (up l w)).vol)) e)).pcom.vol
    by true true = peers
    by true false = peers
    by false true = peers
    by false false = peers

pub put_fits : (c : ComId) (came : Bool) (e : Effects) (l : Log) (w : Vol) → numbers_fit w ≡ true → numbers_fit (put_with c came e (up l (cover_if e.covers (up l w)).vol)).pcom.vol ≡ true
put_fits c came e l w fits = by e.is_quiet e.covers
  where
    by : (q b : Bool) → numbers_fit (cond q (told (up l (cover_if b (up l w)).vol) e.answers e) (told (after_tail (up l (cover_if b (up l w)).vol)) (e.answers ++ tail_packets c came (up l (cover_if b (up l w)).vol)) e)).pcom.vol ≡ true
    by true true = fits
    by true false = fits
    by false true = fits
    by false false = fits
