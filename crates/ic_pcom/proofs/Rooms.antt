-- How many receipts and messages there are more once a record is applied.
use Rattle.std.proofs.Common.{◌≡◌, ◌∙◌, sym, ap, refl, ℕ, ◌+◌, ◌<◌, ◌≤◌, Bool, true, false, cond, List, [], ◌∷◌, ◌++◌, length, length-append, arith, Option, Some, None}
use Rattle.std.specs.Prelude.{◌||◌, filter, nat_le, not}
use Rattle.std.proofs.lemmas.Bool.{and_left, and_right, lt-leb}
use Rattle.ic_base.specs.declared.messages.ComId.{ComId}
use Rattle.ic_base.specs.declared.messages.Send.{Send}
use Rattle.ic_base.specs.declared.played.Played.{Played}
use Rattle.ic_base.specs.declared.played.Played.TheVariants.{Asks, Ready, NeedFails, Ends}
use Rattle.ic_base.specs.declared.record.Record.{Record}
use Rattle.ic_base.specs.declared.record.Record.TheVariants.{Take, TakeWhole, Input, Value, Outcome, Released, Shown, Checkpoint, Epoch, Decided}
use Rattle.ic_base.specs.declared.messages.Level.TheVariants.{Nothing}
use Rattle.def_state.specs.Inbox.{Inbox, Receipt, is_loud}
use Rattle.def_state.specs.Outbox as sent
use Rattle.def_state.specs.Outbox.{Outbox, is_due, is_held_as, mark_stable}
use Rattle.def_state.specs.Names.{Identity}
use Rattle.def_state.specs.Vol.{Vol}
use Rattle.ic_replay.specs.Applying.{entered, applied, come_to_if, receipts_of, sends_of}
use Rattle.ic_replay.specs.declared.prepared.Prepared.{Prepared}
use Rattle.ic_in.specs.Views.{is_waiting}
use Rattle.ic_in.proofs.Louds.{loud-is}
use Rattle.ic_index.proofs.Passing.{passing-left, passing-more, passing-same}
use Rattle.ic_pcom.specs.Carrying.{marked_in}
use Rattle.ic_pcom.specs.Landing.{HasPacketRoom, MayReach, may_tell}
use Rattle.ic_pcom.specs.Telling.{HasRoomFor, drops_behind}
use Rattle.ic_pcom.specs.declared.telling.Outgoing.{Outgoing}

-- one more that doesn't pass
none_more : {A : Type 0} (test : A → Bool) (xs : List A) (x : A) → test x ≡ false → length (filter test (xs ++ x ∷ [])) ≤ length (filter test xs)
none_more test [] x is = by (test x) is
  where
    by : (b : Bool) → b ≡ false → length (cond b (x ∷ []) []) ≤ 0
    by true e = absurd (cc)
    by false e = omega arith
none_more test (y ∷ ys) x is = by (test y) (none_more test ys x is)
  where
    by : (b : Bool) → length (filter test (ys ++ x ∷ [])) ≤ length (filter test ys) → length (cond b (y ∷ filter test (ys ++ x ∷ [])) (filter test (ys ++ x ∷ []))) ≤ length (cond b (y ∷ filter test ys) (filter test ys))
    by true rest = omega (arith, rest)
    by false rest = rest

-- what isn't forced yet isn't due, and has nothing to tell
not_due_yet : (forced : ℕ) (h : sent.Held) → forced < h.at → is_due forced h ≡ false
not_due_yet forced h later = and_right (not h.put) (nat_le h.at forced) (lt-leb h.at forced later)

not_loud_yet : (forced : ℕ) (r : Receipt) → forced < r.at → is_loud forced r ≡ false
not_loud_yet forced r later = loud-is forced r ∙ and_left (nat_le r.at forced) (is_waiting r) (lt-leb r.at forced later)

-- each message that is sent is one more at most that is due, and none where the log isn't forced up to it
sent_most : (c : ComId) (forced clock at : ℕ) (o : Outbox) (ss : List Send) → length (filter (is_due forced) (sent.send_all c clock at o ss).held) ≤ length (filter (is_due forced) o.held) + length ss
sent_most c forced clock at o [] = omega arith
sent_most c forced clock at o (s ∷ ss) =
    let m = sent.next_message c clock o s in
    omega (arith, sent_most c forced clock at (sent.add o m at) ss, passing-more (is_due forced) o.held (record { msg = m; at = at; put = false; stable = false }))

sent_none : (c : ComId) (forced clock at : ℕ) (o : Outbox) (ss : List Send) → forced < at → length (filter (is_due forced) (sent.send_all c clock at o ss).held) ≤ length (filter (is_due forced) o.held)
sent_none c forced clock at o [] later = omega arith
sent_none c forced clock at o (s ∷ ss) later =
    let m = sent.next_message c clock o s in
    let h : sent.Held = record { msg = m; at = at; put = false; stable = false } in
    omega (arith, sent_none c forced clock at (sent.add o m at) ss later, none_more (is_due forced) o.held h (not_due_yet forced h later))

sent_more : (c : ComId) (forces : Bool) (forced clock at : ℕ) (o : Outbox) (ss : List Send) → (forces ≡ false → forced < at) → length (filter (is_due forced) (sent.send_all c clock at o ss).held) ≤ length (filter (is_due forced) o.held) + cond forces (length ss) 0
sent_more c true forced clock at o ss later = sent_most c forced clock at o ss
sent_more c false forced clock at o ss later = omega (arith, sent_none c forced clock at o ss (later refl))

played_receipts : (c : ComId) (at : ℕ) (v : Vol) (o : Option Played) → (come_to_if c at v o).inbox ≡ v.inbox
played_receipts c at v None = refl
played_receipts c at v (Some (Ends vars sends outs)) = refl
played_receipts c at v (Some (Asks t request)) = refl
played_receipts c at v (Some (Ready t)) = refl
played_receipts c at v (Some (NeedFails t line)) = refl

played_messages : (c : ComId) (forces : Bool) (forced at : ℕ) (v : Vol) (o : Option Played) → (forces ≡ false → forced < at) → length (filter (is_due forced) (come_to_if c at v o).outbox.held) ≤ length (filter (is_due forced) v.outbox.held) + cond forces (length (sends_of o)) 0
played_messages c forces forced at v None later = omega arith
played_messages c forces forced at v (Some (Ends vars sends outs)) later = sent_more c forces forced v.clock at v.outbox sends later
played_messages c forces forced at v (Some (Asks t request)) later = omega arith
played_messages c forces forced at v (Some (Ready t)) later = omega arith
played_messages c forces forced at v (Some (NeedFails t line)) later = omega arith

played_drops : (c : ComId) (at : ℕ) (v : Vol) (o : Option Played) → (come_to_if c at v o).owes_drop ≡ v.owes_drop
played_drops c at v None = refl
played_drops c at v (Some (Ends vars sends outs)) = refl
played_drops c at v (Some (Asks t request)) = refl
played_drops c at v (Some (Ready t)) = refl
played_drops c at v (Some (NeedFails t line)) = refl

-- one receipt more may have something to tell, and none where it isn't covered, nor forced
told_more : (covers forces : Bool) (forced : ℕ) (rs : List Receipt) (r : Receipt) → (forces ≡ false → forced < r.at) → length (may_tell covers forced (rs ++ r ∷ [])) ≤ length (may_tell covers forced rs) + cond (covers || forces) 1 0
told_more true forces forced rs r later = omega (arith, length-append rs (r ∷ []))
told_more false true forced rs r later = passing-more (is_loud forced) rs r
told_more false false forced rs r later = omega (arith, none_more (is_loud forced) rs r (not_loud_yet forced r (later refl)))

entered_receipts : (covers forces : Bool) (forced at : ℕ) (p : Prepared) (v : Vol) (r : Record) → (forces ≡ false → forced < at) → length (may_tell covers forced (entered at p v r).inbox.receipts) ≤ length (may_tell covers forced v.inbox.receipts) + cond (covers || forces) (receipts_of r) 0
entered_receipts covers forces forced at p v (Take from k stamp) later = told_more covers forces forced v.inbox.receipts (record { name = record { peer = from; k = k }; at = at; covered = false; told = Nothing }) later
entered_receipts covers forces forced at p v (TakeWhole from k stamp handler args) later = told_more covers forces forced v.inbox.receipts (record { name = record { peer = from; k = k }; at = at; covered = true; told = Nothing }) later
entered_receipts covers forces forced at p v (Input stamp handler args) later = omega arith
entered_receipts covers forces forced at p v (Value n place session value) later = omega arith
entered_receipts covers forces forced at p v (Outcome stamp n abort) later = omega arith
entered_receipts covers forces forced at p v (Released to k) later = omega arith
entered_receipts covers forces forced at p v (Shown m) later = omega arith
entered_receipts covers forces forced at p v (Checkpoint image) later = omega arith
entered_receipts covers forces forced at p v (Epoch a) later = omega arith
entered_receipts covers forces forced at p v (Decided a b c d) later = omega arith

entered_messages : (forced at : ℕ) (p : Prepared) (v : Vol) (r : Record) → length (filter (is_due forced) (entered at p v r).outbox.held) ≤ length (filter (is_due forced) v.outbox.held)
entered_messages forced at p v (Take from k stamp) = omega arith
entered_messages forced at p v (TakeWhole from k stamp handler args) = omega arith
entered_messages forced at p v (Input stamp handler args) = omega arith
entered_messages forced at p v (Value n place session value) = omega arith
entered_messages forced at p v (Outcome stamp n abort) = omega arith
entered_messages forced at p v (Released to k) = passing-left (is_due forced) (λ h. not (is_held_as (record { peer = to; k = k }) h)) v.outbox.held
entered_messages forced at p v (Shown m) = omega arith
entered_messages forced at p v (Checkpoint image) = omega arith
entered_messages forced at p v (Epoch a) = omega arith
entered_messages forced at p v (Decided a b c d) = omega arith

entered_drops : (at : ℕ) (p : Prepared) (v : Vol) (r : Record) → (entered at p v r).owes_drop ≡ drops_behind v r
entered_drops at p v (Take from k stamp) = refl
entered_drops at p v (TakeWhole from k stamp handler args) = refl
entered_drops at p v (Input stamp handler args) = refl
entered_drops at p v (Value n place session value) = refl
entered_drops at p v (Outcome stamp n abort) = refl
entered_drops at p v (Released to k) = refl
entered_drops at p v (Shown m) = refl
entered_drops at p v (Checkpoint image) = refl
entered_drops at p v (Epoch a) = refl
entered_drops at p v (Decided a b c d) = refl

-- a record that isn't forced ends behind what is
pub not_yet : (b : Bool) (before at forced : ℕ) → MayReach b before forced → before < at → b ≡ false → forced < at
not_yet true before at forced reach later is = absurd (cc)
not_yet false before at forced reach later is = omega (arith, reach, later)

-- room that was made for what a record adds and what is sent is room for the state behind the record
pub room_behind : (c : ComId) (o : Outgoing) (forced at : ℕ) (p : Prepared) (v : Vol) (r : Record) (n capacity : ℕ) → o.receipts ≡ receipts_of r → o.messages ≡ length (sends_of p.played) → o.drops ≡ drops_behind v r → (o.forces ≡ false → forced < at) → HasRoomFor o forced n capacity v → HasPacketRoom o.covers o.came forced n capacity (applied c at p v r)
room_behind c o forced at p v r n capacity receipts messages drops later room =
    let w = entered at p v r in
    omega (arith, room, ap (λ k. cond (o.covers || o.forces) k 0) receipts, ap (λ k. cond o.forces k 0) messages, entered_receipts o.covers o.forces forced at p v r later, entered_messages forced at p v r, ap (λ (i : Inbox). length (may_tell o.covers forced i.receipts)) (played_receipts c at w p.played), played_messages c o.forces forced at w p.played later, ap {B = ℕ} (λ b. cond b 1 0) (played_drops c at w p.played ∙ entered_drops at p v r ∙ sym drops))

-- a mark makes no message more
pub room_marked : (m : Option Identity) (o : Outgoing) (forced : ℕ) (v : Vol) (n capacity : ℕ) → o.drops ≡ v.owes_drop → HasRoomFor o forced n capacity v → HasPacketRoom o.covers o.came forced n capacity (marked_in m v)
room_marked None o forced v n capacity drops room = omega (arith, room, ap {B = ℕ} (λ b. cond b 1 0) drops)
room_marked (Some x) o forced v n capacity drops room = omega (arith, room, ap {B = ℕ} (λ b. cond b 1 0) drops, passing-same (mark_stable x) (is_due forced) (λ h. refl) v.outbox.held)
