-- Positions that are counted from another beginning: each test and each change of a state is the same.
use Rattle.std.proofs.Common.{◌≡◌, refl, sym, ap, ◌∙◌, ℕ, zero, suc, ◌+◌, ◌≤◌, Bool, true, false, cond, not, ◌&&◌, ◌||◌, ◌==◌, nat_le, List, [], ◌∷◌, ◌++◌, map, filter, length, Option, Some, None, arith}
use Rattle.std.specs.Prelude.{ℤ, nat_lt, filter_map, find, option_map}
use Rattle.std.specs.List.{list_any, flat_map, cons_option, AllByRecursion}
use Rattle.std.specs.Int.{w32, to_be_bytes}
use Rattle.std.proofs.lemmas.Bool.{leb-true, leb-false, le-leb, lt-leb}
use Rattle.ic_base.specs.declared.messages.ComId.{ComId}
use Rattle.ic_base.specs.declared.messages.Msg.{Msg}
use Rattle.ic_base.specs.declared.messages.Send.{Send}
use Rattle.ic_base.specs.declared.messages.Out.{Out}
use Rattle.ic_base.specs.declared.messages.Level.{Level}
use Rattle.ic_base.specs.declared.messages.Level.TheVariants as levels
use Rattle.ic_base.specs.declared.scenario.Program.{Program}
use Rattle.ic_base.specs.declared.played.Played.{Played}
use Rattle.ic_base.specs.declared.played.Played.TheVariants.{Asks, Ready, NeedFails, Ends}
use Rattle.ic_base.specs.declared.record.Record.{Record}
use Rattle.ic_base.specs.declared.record.Record.TheVariants.{Take, TakeWhole, Input, Value, Outcome, Released, Shown, Checkpoint, Epoch, Decided}
use Rattle.def_log.specs.Spelling.{number, value}
use Rattle.def_plain.specs.declared.world.InHand.{InHand}
use Rattle.def_state.specs.Names.{Identity, same_identity}
use Rattle.def_state.specs.Fits.{fits, is_number_of}
use Rattle.def_state.specs.Outbox
use Rattle.def_state.specs.Outbox.{Outbox, Held, is_held_as, is_due, mark_put, mark_stable, is_unstable, next_message}
use Rattle.def_state.specs.Inbox
use Rattle.def_state.specs.Inbox.{Inbox, Receipt, level_of, level_found, cover_one, is_loud, ack_of, after_ack, told_as}
use Rattle.def_state.specs.Shelf
use Rattle.def_state.specs.Shelf.{Shelf, Waiting}
use Rattle.def_state.specs.Txn
use Rattle.def_state.specs.Hist.{hand_plays}
use Rattle.def_state.specs.Image.{image_of, counted, listed, last_bytes, output_bytes, message_bytes, link_bytes, sender_bytes, senders_of}
use Rattle.def_state.specs.Vol.{Vol, end_txn, standing, come_to, play_hand, play_on, record_in, take_named, with_put_mark, regenerated}
use Rattle.law_settle.specs.Represented.{TablesFit, HeldFits, ShelvedFits, ReceiptFits}
use Rattle.law_tail.specs.Wholes.{shifted, shifted_held, shifted_outbox, shifted_receipt, shifted_inbox, shifted_waiting, shifted_shelf, shifted_vol}

-- lists whose elements are changed -------------------------------------------------------------

filter-changed : {A : Type 0} (f : A → A) (p q : A → Bool) → ((x : A) → q (f x) ≡ p x) → (xs : List A) → filter q (map f xs) ≡ map f (filter p xs)
filter-changed f p q same [] = refl
filter-changed {A} f p q same (x ∷ xs) = ap (λ t. cond t (f x ∷ filter q (map f xs)) (filter q (map f xs))) (same x) ∙ at (p x) (filter-changed f p q same xs)
  where
    at : (t : Bool) → filter q (map f xs) ≡ map f (filter p xs) → cond t (f x ∷ filter q (map f xs)) (filter q (map f xs)) ≡ map f (cond t (x ∷ filter p xs) (filter p xs))
    at true rest = ap (λ ys. f x ∷ ys) rest
    at false rest = rest

find-changed : {A : Type 0} (f : A → A) (p q : A → Bool) → ((x : A) → q (f x) ≡ p x) → (xs : List A) → find q (map f xs) ≡ option_map f (find p xs)
find-changed f p q same [] = refl
find-changed {A} f p q same (x ∷ xs) = ap (λ t. cond t (Some (f x)) (find q (map f xs))) (same x) ∙ at (p x) (find-changed f p q same xs)
  where
    at : (t : Bool) → find q (map f xs) ≡ option_map f (find p xs) → cond t (Some (f x)) (find q (map f xs)) ≡ option_map f (cond t (Some x) (find p xs))
    at true rest = refl
    at false rest = rest

any-changed : {A : Type 0} (f : A → A) (p q : A → Bool) → ((x : A) → q (f x) ≡ p x) → (xs : List A) → list_any q (map f xs) ≡ list_any p xs
any-changed f p q same [] = refl
any-changed f p q same (x ∷ xs) = ap (λ t. t || list_any q (map f xs)) (same x) ∙ ap (λ t. p x || t) (any-changed f p q same xs)

-- what is read off each element stays
read-changed : {A B : Type 0} (f : A → A) (g h : A → B) → ((x : A) → h (f x) ≡ g x) → (xs : List A) → map h (map f xs) ≡ map g xs
read-changed f g h same [] = refl
read-changed f g h same (x ∷ xs) = ap (λ y. y ∷ map h (map f xs)) (same x) ∙ ap (λ ys. g x ∷ ys) (read-changed f g h same xs)

-- two changes, one after the other
both-changed : {A : Type 0} (f g h : A → A) → ((x : A) → h (f x) ≡ f (g x)) → (xs : List A) → map h (map f xs) ≡ map f (map g xs)
both-changed f g h same [] = refl
both-changed f g h same (x ∷ xs) = ap (λ y. y ∷ map h (map f xs)) (same x) ∙ ap (λ ys. f (g x) ∷ ys) (both-changed f g h same xs)

kept-changed : {A : Type 0} (f : A → A) (p q : A → Option A) → ((x : A) → q (f x) ≡ option_map f (p x)) → (xs : List A) → filter_map q (map f xs) ≡ map f (filter_map p xs)
kept-changed f p q same [] = refl
kept-changed {A} f p q same (x ∷ xs) = ap (λ o. cons_option o (filter_map q (map f xs))) (same x) ∙ at (p x) (kept-changed f p q same xs)
  where
    at : (o : Option A) → filter_map q (map f xs) ≡ map f (filter_map p xs) → cons_option (option_map f o) (filter_map q (map f xs)) ≡ map f (cons_option o (filter_map p xs))
    at None rest = rest
    at (Some y) rest = ap (λ ys. f y ∷ ys) rest

-- what is read off an element that may be there
read-if : {A B : Type 0} (f : A → A) (g h : A → B) → ((x : A) → h (f x) ≡ g x) → (o : Option A) → option_map h (option_map f o) ≡ option_map g o
read-if f g h same None = refl
read-if f g h same (Some x) = ap (λ y. Some y) (same x)

map-last : {A : Type 0} (f : A → A) (xs : List A) (x : A) → map f xs ++ f x ∷ [] ≡ map f (xs ++ x ∷ [])
map-last f [] x = refl
map-last f (y ∷ ys) x = ap (λ zs. f y ∷ zs) (map-last f ys x)

-- positions ------------------------------------------------------------------------------------

le-both : (n a b : ℕ) → nat_le (n + a) (n + b) ≡ nat_le a b
le-both n a b = at (nat_le a b) refl
  where
    at : (t : Bool) → nat_le a b ≡ t → nat_le (n + a) (n + b) ≡ nat_le a b
    at true e = le-leb (n + a) (n + b) (omega (arith, leb-true a b e)) ∙ sym e
    at false e = lt-leb (n + a) (n + b) (omega (arith, leb-false a b e)) ∙ sym e

-- a position is forced exactly where its shifted one is
pub le-shifted : (n at forced : ℕ) → nat_le (shifted n at) (n + forced) ≡ nat_le at forced
le-shifted n zero forced = le-leb 0 (n + forced) (omega arith) ∙ sym (le-leb 0 forced (omega arith))
le-shifted n (suc at) forced = le-both n (suc at) forced

-- the outbox -----------------------------------------------------------------------------------

pub held-shifted : (n : ℕ) (o : Outbox) (x : Identity) → Outbox.is_held (shifted_outbox n o) x ≡ Outbox.is_held o x
held-shifted n o x = any-changed (shifted_held n) (is_held_as x) (is_held_as x) (λ h. refl) o.held

pub may-shifted : (n : ℕ) (o : Outbox) (x : Identity) → Outbox.may_become_stable (shifted_outbox n o) x ≡ Outbox.may_become_stable o x
may-shifted n o x = any-changed (shifted_held n) (λ h. is_held_as x h && not h.stable) (λ h. is_held_as x h && not h.stable) (λ h. refl) o.held

pub due-shifted : (n : ℕ) (o : Outbox) (forced : ℕ) → Outbox.due_messages (shifted_outbox n o) (n + forced) ≡ Outbox.due_messages o forced
due-shifted n o forced =
    ap (λ hs. map (λ (h : Held). h.msg) hs) (filter-changed (shifted_held n) (is_due forced) (is_due (n + forced)) (λ h. ap (λ t. not h.put && t) (le-shifted n h.at forced)) o.held)
    ∙ read-changed (shifted_held n) (λ (h : Held). h.msg) (λ (h : Held). h.msg) (λ h. refl) (filter (is_due forced) o.held)

pub unstable-shifted : (n : ℕ) (o : Outbox) (forced : ℕ) → Outbox.unstable (shifted_outbox n o) (n + forced) ≡ Outbox.unstable o forced
unstable-shifted n o forced =
    ap (λ hs. map (λ (h : Held). h.msg) hs) (filter-changed (shifted_held n) (is_unstable forced) (is_unstable (n + forced)) (λ h. ap (λ t. not h.stable && t) (le-shifted n h.at forced)) o.held)
    ∙ read-changed (shifted_held n) (λ (h : Held). h.msg) (λ (h : Held). h.msg) (λ h. refl) (filter (is_unstable forced) o.held)

pub fetch-shifted : (n : ℕ) (o : Outbox) (x : Identity) (forced : ℕ) → Outbox.fetch (shifted_outbox n o) x (n + forced) ≡ Outbox.fetch o x forced
fetch-shifted n o x forced =
    ap (λ h. option_map (λ (y : Held). y.msg) h)
    (find-changed (shifted_held n) (λ h. is_held_as x h && nat_le h.at forced) (λ h. is_held_as x h && nat_le h.at (n + forced)) (λ h. ap (λ t. is_held_as x h && t) (le-shifted n h.at forced)) o.held)
    ∙ read-if (shifted_held n) (λ (y : Held). y.msg) (λ (y : Held). y.msg) (λ h. refl) (find (λ h. is_held_as x h && nat_le h.at forced) o.held)

pub put-shifted : (n : ℕ) (o : Outbox) (forced : ℕ) → Outbox.all_put (shifted_outbox n o) (n + forced) ≡ shifted_outbox n (Outbox.all_put o forced)
put-shifted n o forced =
    ap (λ hs. record o { held = hs }) (both-changed (shifted_held n) (mark_put forced) (mark_put (n + forced)) (λ h. ap (λ t. record h { at = shifted n h.at; put = cond t true h.put }) (le-shifted n h.at forced)) o.held)

pub stable-shifted : (n : ℕ) (o : Outbox) (x : Identity) → Outbox.stable (shifted_outbox n o) x ≡ shifted_outbox n (Outbox.stable o x)
stable-shifted n o x = ap (λ hs. record o { held = hs }) (both-changed (shifted_held n) (mark_stable x) (mark_stable x) (λ h. refl) o.held)

installed-shifted : (n : ℕ) (o : Outbox) (x : Identity) → Outbox.installed (shifted_outbox n o) x ≡ shifted_outbox n (Outbox.installed o x)
installed-shifted n o x = ap (λ hs. record o { held = hs }) (filter-changed (shifted_held n) (λ h. not (is_held_as x h)) (λ h. not (is_held_as x h)) (λ h. refl) o.held)

add-shifted : (n : ℕ) (o : Outbox) (m : Msg) (at : ℕ) → Outbox.add (shifted_outbox n o) m (shifted n at) ≡ shifted_outbox n (Outbox.add o m at)
add-shifted n o m at = ap (λ hs. record (Outbox.add o m at) { held = hs }) (map-last (shifted_held n) o.held (record { msg = m; at = at; put = false; stable = false }))

send-shifted : (c : ComId) (n clock at : ℕ) (o : Outbox) (ss : List Send) → Outbox.send_all c clock (shifted n at) (shifted_outbox n o) ss ≡ shifted_outbox n (Outbox.send_all c clock at o ss)
send-shifted c n clock at o [] = refl
send-shifted c n clock at o (s ∷ ss) =
    ap (λ x. Outbox.send_all c clock (shifted n at) x ss) (add-shifted n o (next_message c clock o s) at)
    ∙ send-shifted c n clock at (Outbox.add o (next_message c clock o s) at) ss

-- the inbox ------------------------------------------------------------------------------------

level-of-shifted : (n forced : ℕ) (r : Receipt) → level_of (n + forced) (shifted_receipt n r) ≡ level_of forced r
level-of-shifted n forced r = ap (λ t. cond t (cond r.covered levels.Installed levels.Stable) levels.Taken) (le-shifted n r.at forced)

pub level-shifted : (n : ℕ) (i : Inbox) (x : Identity) (forced : ℕ) → Inbox.level (shifted_inbox n i) x (n + forced) ≡ Inbox.level i x forced
level-shifted n i x forced =
    ap (λ o. level_found (option_map (level_of (n + forced)) o) (Inbox.is_taken i x)) (find-changed (shifted_receipt n) (λ r. same_identity x r.name) (λ r. same_identity x r.name) (λ r. refl) i.receipts)
    ∙ ap (λ o. level_found o (Inbox.is_taken i x)) (read-if (shifted_receipt n) (level_of forced) (level_of (n + forced)) (level-of-shifted n forced) (find (λ r. same_identity x r.name) i.receipts))

took-shifted : (n : ℕ) (i : Inbox) (x : Identity) (at : ℕ) (whole : Bool) → Inbox.took (shifted_inbox n i) x (shifted n at) whole ≡ shifted_inbox n (Inbox.took i x at whole)
took-shifted n i x at whole = ap (λ rs. record (Inbox.took i x at whole) { receipts = rs }) (map-last (shifted_receipt n) i.receipts (record { name = x; at = at; covered = whole; told = levels.Nothing }))

pub cover-shifted : (n : ℕ) (i : Inbox) (at : ℕ) → Inbox.cover (shifted_inbox n i) (n + at) ≡ shifted_inbox n (Inbox.cover i at)
cover-shifted n i at =
    ap (λ rs. record i { receipts = rs }) (both-changed (shifted_receipt n) (cover_one at) (cover_one (n + at)) (λ r. ap (λ t. record r { at = shifted n r.at; covered = cond t true r.covered }) (le-shifted n r.at at)) i.receipts)

loud-shifted : (n forced : ℕ) (r : Receipt) → is_loud (n + forced) (shifted_receipt n r) ≡ is_loud forced r
loud-shifted n forced r = ap (λ l. nat_le 2 (Inbox.rank l) && nat_lt (Inbox.rank r.told) (Inbox.rank l)) (level-of-shifted n forced r)

pub acks-shifted : (n : ℕ) (i : Inbox) (forced : ℕ) → Inbox.acks (shifted_inbox n i) (n + forced) ≡ Inbox.acks i forced
acks-shifted n i forced =
    ap (λ rs. map (ack_of (n + forced)) rs) (filter-changed (shifted_receipt n) (is_loud forced) (is_loud (n + forced)) (loud-shifted n forced) i.receipts)
    ∙ read-changed (shifted_receipt n) (ack_of forced) (ack_of (n + forced)) (λ r. ap (λ l. record { name = r.name; level = l }) (level-of-shifted n forced r)) (filter (is_loud forced) i.receipts)

ack-shifted : (n forced : ℕ) (r : Receipt) → after_ack (n + forced) (shifted_receipt n r) ≡ option_map (shifted_receipt n) (after_ack forced r)
ack-shifted n forced r =
    ap (λ t. cond t (told_as (shifted_receipt n r) (level_of (n + forced) (shifted_receipt n r))) (Some (shifted_receipt n r))) (loud-shifted n forced r)
    ∙ ap (λ l. cond (is_loud forced r) (told_as (shifted_receipt n r) l) (Some (shifted_receipt n r))) (level-of-shifted n forced r)
    ∙ at (is_loud forced r) (level_of forced r)
  where
    at : (t : Bool) (l : Level) → cond t (told_as (shifted_receipt n r) l) (Some (shifted_receipt n r)) ≡ option_map (shifted_receipt n) (cond t (told_as r l) (Some r))
    at false l = refl
    at true levels.Nothing = refl
    at true levels.Taken = refl
    at true levels.Stable = refl
    at true levels.Installed = refl

pub told-shifted : (n : ℕ) (i : Inbox) (forced : ℕ) → Inbox.all_told (shifted_inbox n i) (n + forced) ≡ shifted_inbox n (Inbox.all_told i forced)
told-shifted n i forced = ap (λ rs. record i { receipts = rs }) (kept-changed (shifted_receipt n) (after_ack forced) (after_ack (n + forced)) (ack-shifted n forced) i.receipts)

-- the shelf ------------------------------------------------------------------------------------

pub next-shifted : (n : ℕ) (s : Shelf) (forced : ℕ) → Shelf.next_due (shifted_shelf n s) (n + forced) ≡ Shelf.next_due s forced
next-shifted n s forced =
    ap (λ w. option_map (λ (y : Waiting). y.output) w) (find-changed (shifted_waiting n) (λ w. nat_le w.at forced) (λ w. nat_le w.at (n + forced)) (λ w. le-shifted n w.at forced) s.waiting)
    ∙ read-if (shifted_waiting n) (λ (y : Waiting). y.output) (λ (y : Waiting). y.output) (λ w. refl) (find (λ w. nat_le w.at forced) s.waiting)

oldest-shifted : (n : ℕ) (s : Shelf) → Shelf.oldest (shifted_shelf n s) ≡ Shelf.oldest s
oldest-shifted n s =
    ap (λ w. option_map (λ (y : Waiting). y.output.m) w) (find-changed (shifted_waiting n) (λ w. nat_le 0 w.output.m) (λ w. nat_le 0 w.output.m) (λ w. refl) s.waiting)
    ∙ read-if (shifted_waiting n) (λ (y : Waiting). y.output.m) (λ (y : Waiting). y.output.m) (λ w. refl) (find (λ w. nat_le 0 w.output.m) s.waiting)

shown-shifted : (n : ℕ) (s : Shelf) (m : ℕ) → Shelf.shown (shifted_shelf n s) m ≡ shifted_shelf n (Shelf.shown s m)
shown-shifted n s m = ap (λ ws. record s { waiting = ws }) (filter-changed (shifted_waiting n) (λ w. not (w.output.m == m)) (λ w. not (w.output.m == m)) (λ w. refl) s.waiting)

outs-shifted : (n at : ℕ) (s : Shelf) (os : List Out) → Shelf.add_all (shifted n at) (shifted_shelf n s) os ≡ shifted_shelf n (Shelf.add_all at s os)
outs-shifted n at s [] = refl
outs-shifted n at s (o ∷ os) =
    ap (λ ws. Shelf.add_all (shifted n at) (record { waiting = ws; made = s.made + 1 }) os) (map-last (shifted_waiting n) s.waiting (record { output = record { m = s.made + 1; to = o.to; args = o.args }; at = at }))
    ∙ outs-shifted n at (Shelf.add s o at) os

-- the whole state ------------------------------------------------------------------------------

come-shifted : (c : ComId) (n at : ℕ) (v : Vol) (x : Played) → come_to c (shifted n at) (shifted_vol n v) x ≡ shifted_vol n (come_to c at v x)
come-shifted c n at v (Ends vars sends outs) =
    ap (λ o. record (shifted_vol n (come_to c at v (Ends vars sends outs))) { outbox = o; shelf = Shelf.add_all (shifted n at) (shifted_shelf n v.shelf) outs }) (send-shifted c n v.clock at v.outbox sends)
    ∙ ap (λ s. record (shifted_vol n (come_to c at v (Ends vars sends outs))) { shelf = s }) (outs-shifted n at v.shelf outs)
come-shifted c n at v (Asks t request) = refl
come-shifted c n at v (Ready t) = refl
come-shifted c n at v (NeedFails t line) = refl

hand-shifted : (program : Program) (c : ComId) (n at : ℕ) (v : Vol) (o : Option InHand) → play_hand program c (shifted n at) (shifted_vol n v) o ≡ shifted_vol n (play_hand program c at v o)
hand-shifted program c n at v None = refl
hand-shifted program c n at v (Some hand) = come-shifted c n at v (hand_plays program c v.vars v.now hand)

on-shifted : (program : Program) (c : ComId) (n at : ℕ) (v : Vol) → play_on program c (shifted n at) (shifted_vol n v) ≡ shifted_vol n (play_on program c at v)
on-shifted program c n at v = hand-shifted program c n at v v.hand

took-on : (program : Program) (c : ComId) (n at : ℕ) (v : Vol) (x : Identity) (whole : Bool) (stamp handler : ℕ) (args : List ℤ)
    → play_on program c (shifted n at) (record (shifted_vol n v) { inbox = Inbox.took (shifted_inbox n v.inbox) x (shifted n at) whole; clock = stamp; hand = Some (record { handler = handler; args = args; done = [] }); now = [] })
    ≡ shifted_vol n (play_on program c at (record v { inbox = Inbox.took v.inbox x at whole; clock = stamp; hand = Some (record { handler = handler; args = args; done = [] }); now = [] }))
took-on program c n at v x whole stamp handler args =
    ap (λ i. play_on program c (shifted n at) (record (shifted_vol n v) { inbox = i; clock = stamp; hand = Some (record { handler = handler; args = args; done = [] }); now = [] })) (took-shifted n v.inbox x at whole)
    ∙ on-shifted program c n at (record v { inbox = Inbox.took v.inbox x at whole; clock = stamp; hand = Some (record { handler = handler; args = args; done = [] }); now = [] })

named-shifted : (program : Program) (c : ComId) (n at : ℕ) (v : Vol) (from : ComId) (k stamp : ℕ) (o : Option Msg)
    → take_named program c (shifted n at) (shifted_vol n v) from k stamp o ≡ shifted_vol n (take_named program c at v from k stamp o)
named-shifted program c n at v from k stamp None = refl
named-shifted program c n at v from k stamp (Some m) = took-on program c n at v (record { peer = from; k = k }) false stamp m.handler m.args

-- a record does the same
pub record-shifted : (program : Program) (c : ComId) (n at : ℕ) (content : Option Msg) (v : Vol) (r : Record)
    → record_in program c (shifted n at) content (shifted_vol n v) r ≡ shifted_vol n (record_in program c at content v r)
record-shifted program c n at content v (Take from k stamp) = named-shifted program c n at v from k stamp content
record-shifted program c n at content v (TakeWhole from k stamp handler args) = took-on program c n at v (record { peer = from; k = k }) true stamp handler args
record-shifted program c n at content v (Input stamp handler args) = on-shifted program c n at (record v { clock = stamp; hand = Some (record { handler = handler; args = args; done = [] }); now = [] })
record-shifted program c n at content v (Value m place session value) = on-shifted program c n at (record v { now = v.now ++ value ∷ []; txn = Txn.take_reply v.txn session })
record-shifted program c n at content v (Outcome stamp m abort) = on-shifted program c n at (end_txn v stamp at abort)
record-shifted program c n at content v (Released to k) = ap (λ o. record (shifted_vol n v) { outbox = o }) (installed-shifted n v.outbox (record { peer = to; k = k }))
record-shifted program c n at content v (Shown m) = ap (λ s. record (shifted_vol n v) { shelf = s }) (shown-shifted n v.shelf m)
record-shifted program c n at content v (Checkpoint image) = refl
record-shifted program c n at content v (Epoch epoch) = refl
record-shifted program c n at content v (Decided stamp d m writes) = refl

-- and is a misfit where it was one
pub fits-shifted : (program : Program) (c : ComId) (n : ℕ) (v : Vol) (r : Record) → fits program c (standing program c (shifted_vol n v)) r ≡ fits program c (standing program c v) r
fits-shifted program c n v (Take from k stamp) = refl
fits-shifted program c n v (TakeWhole from k stamp handler args) = refl
fits-shifted program c n v (Input stamp handler args) = refl
fits-shifted program c n v (Value m place session value) = refl
fits-shifted program c n v (Outcome stamp m abort) = refl
fits-shifted program c n v (Released to k) = held-shifted n v.outbox (record { peer = to; k = k })
fits-shifted program c n v (Shown m) = ap (λ o. is_number_of o m) (oldest-shifted n v.shelf)
fits-shifted program c n v (Checkpoint image) = refl
fits-shifted program c n v (Epoch epoch) = refl
fits-shifted program c n v (Decided stamp d m writes) = refl

pub regenerated-shifted : (n : ℕ) (v : Vol) → regenerated (shifted_vol n v) ≡ shifted_vol n (regenerated v)
regenerated-shifted n v = ap (λ hs. record (shifted_vol n (regenerated v)) { outbox = record v.outbox { held = hs } }) (both-changed (shifted_held n) with_put_mark with_put_mark (λ h. refl) v.outbox.held)

-- images ---------------------------------------------------------------------------------------

listed-changed : {A : Type 0} (f : A → A) (g : A → List ℕ) → ((x : A) → g (f x) ≡ g x) → (xs : List A) → listed g (map f xs) ≡ listed g xs
listed-changed {A} f g same xs = ap (λ n. to_be_bytes w32 n ++ flat_map g (map f xs)) (lengths xs) ∙ ap (λ bs. to_be_bytes w32 (length xs) ++ bs) (flats xs)
  where
    lengths : (ys : List A) → length (map f ys) ≡ length ys
    lengths [] = refl
    lengths (y ∷ ys) = ap suc (lengths ys)

    flats : (ys : List A) → flat_map g (map f ys) ≡ flat_map g ys
    flats [] = refl
    flats (y ∷ ys) = ap (λ bs. bs ++ flat_map g (map f ys)) (same y) ∙ ap (λ bs. g y ++ bs) (flats ys)

-- the image of a state doesn't tell positions
pub image-shifted : (n : ℕ) (v : Vol) → image_of (shifted_vol n v) ≡ image_of v
image-shifted n v =
    ap (λ bs. number v.clock ++ counted value v.vars ++ number v.txn.begun ++ last_bytes v.txn.last ++ number v.shelf.made ++ bs ++ counted link_bytes v.outbox.links ++ listed (λ (h : Held). message_bytes h.msg) (map (shifted_held n) v.outbox.held) ++ counted sender_bytes (senders_of v.inbox))
    (listed-changed (shifted_waiting n) (λ (w : Waiting). output_bytes w.output) (λ w. refl) v.shelf.waiting)
    ∙ ap (λ bs. number v.clock ++ counted value v.vars ++ number v.txn.begun ++ last_bytes v.txn.last ++ number v.shelf.made ++ listed (λ (w : Waiting). output_bytes w.output) v.shelf.waiting ++ counted link_bytes v.outbox.links ++ bs ++ counted sender_bytes (senders_of v.inbox))
    (listed-changed (shifted_held n) (λ (h : Held). message_bytes h.msg) (λ h. refl) v.outbox.held)

-- what a recovery begins with stands at 0
none-before : (n at : ℕ) → at ≤ 0 → shifted n at ≡ at
none-before n zero le = refl
none-before n (suc at) le = absurd (omega (arith, le))

all-there : {A : Type 0} (P : A → Type 0) (f : A → A) → ((x : A) → P x → f x ≡ x) → (xs : List A) → AllByRecursion P xs → map f xs ≡ xs
all-there P f same [] all = refl
all-there P f same (x ∷ xs) all = ap (λ y. y ∷ map f xs) (same x all.0) ∙ ap (λ ys. x ∷ ys) (all-there P f same xs all.1)

pub fixed : (n : ℕ) (v : Vol) → TablesFit 0 v → shifted_vol n v ≡ v
fixed n v t =
    ap (λ hs. record (shifted_vol n v) { outbox = record v.outbox { held = hs } }) (all-there (HeldFits v.outbox 0) (shifted_held n) (λ h x. ap (λ at. record h { at = at }) (none-before n h.at x.within)) v.outbox.held t.held)
    ∙ ap (λ rs. record v { inbox = record v.inbox { receipts = rs }; shelf = shifted_shelf n v.shelf; ended_at = shifted n v.ended_at }) (all-there (ReceiptFits v.inbox 0) (shifted_receipt n) (λ r x. ap (λ at. record r { at = at }) (none-before n r.at x.within)) v.inbox.receipts t.receipts)
    ∙ ap (λ ws. record v { shelf = record v.shelf { waiting = ws }; ended_at = shifted n v.ended_at }) (all-there (ShelvedFits v.shelf 0) (shifted_waiting n) (λ w x. ap (λ at. record w { at = at }) (none-before n w.at x.within)) v.shelf.waiting t.shelved)
    ∙ ap (λ at. record v { ended_at = at }) (none-before n v.ended_at t.ended)
