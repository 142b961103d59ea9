-- A force, a checkpoint, a resend, and what comes from a Tcom.
use Rattle.std.proofs.Common.{◌≡◌, refl, ◌∙◌, ap, sym, subst, ℕ, suc, ◌+◌, ◌<◌, ◌≤◌, max, Bool, true, false, cond, not, ◌&&◌, ◌||◌, ◌==◌, nat_le, ◌⊎◌, inl, inr, ⊎_elim, List, [], ◌∷◌, ◌++◌, map, filter, length, ℤ, Option, Some, None, option_and_then, option_to_list, is_some, arith}
use Rattle.std.specs.Prelude.{Contains, IsSomeAnd, IsSome, IsTrue}
use Rattle.std.specs.List.{list_any, flat_map}
use Rattle.std.specs.Int.{w32, to_be_bytes}
use Rattle.std.proofs.lemmas.Bool.{and_parts}
use Rattle.std.proofs.lemmas.List.Elements.{Contains-append_cases}
use Rattle.std.proofs.lemmas.Option.{none-some, same_Some}
use Rattle.ic_base.specs.declared.messages.ComId.{ComId}
use Rattle.ic_base.specs.declared.messages.Msg.{Msg}
use Rattle.ic_base.specs.declared.messages.Output.{Output}
use Rattle.ic_base.specs.declared.messages.Session.{Session}
use Rattle.ic_base.specs.declared.messages.Decision.{Decision}
use Rattle.ic_base.specs.declared.messages.Decision.TheVariants.{Committed, Aborted}
use Rattle.ic_base.specs.declared.messages.Packet.{Packet}
use Rattle.ic_base.specs.declared.messages.Packet.TheVariants.{Data, Outcome}
use Rattle.ic_base.specs.declared.scenario.Program.{Program}
use Rattle.ic_base.specs.declared.record.Record.{Record}
use Rattle.ic_base.specs.declared.record.Record.TheVariants.{Checkpoint}
use Rattle.ic_base.specs.declared.record.Record.TheVariants as records
use Rattle.ic_base.specs.Programs.{same_com}
use Rattle.def_log.specs.Spelling.{number, value}
use Rattle.def_state.specs.Names.{Identity, Numbers, is_session}
use Rattle.def_state.specs.Inbox
use Rattle.def_state.specs.Inbox.{Receipt, cover_one}
use Rattle.def_state.specs.Outbox
use Rattle.def_state.specs.Outbox.{Held, is_unstable}
use Rattle.def_state.specs.Shelf
use Rattle.def_state.specs.Txn
use Rattle.def_state.specs.Txn.{Txn, Stage, Idle, Waiting, Answered, Committing, is_idle, is_committing, is_on, tcom_of, accepts, same_place}
use Rattle.def_state.specs.Hist.{Hist, Begun, opened}
use Rattle.def_state.specs.Image.{image_of, counted, listed, last_bytes, output_bytes, message_bytes, link_bytes, sender_bytes, senders_of}
use Rattle.def_state.specs.Vol.{Vol}
use Rattle.def_state.specs.Mirrors.{Mirrors, vol_of}
use Rattle.def_step.specs.Replay.{has_image, image_in}
use Rattle.def_step.specs.Pcom.{Pcom, Effects, all_of, force_log, force_if, append, cover_if, log_end, forced_end, drop_packet, last_drop, all_owed, just_tail, nothing_at_all, on_outcome, Same}
use Rattle.def_facts.specs.Logs.{contents_in, has_outcome, is_kept, receives_whole, receives_name}
use Rattle.def_facts.specs.Pcom.{state_after, begun_in, place_of, Place}
use Rattle.law_replay.proofs.Truth.{opened-grows}
use Rattle.law_replay.proofs.Lists.{same-com, equal-numbers, true-false, empty, at_most}
use Rattle.law_replay.proofs.Lists.{head-or-tail}
use Rattle.law_pcom.specs.Keeping.{Follows, receives}
use Rattle.law_pcom.specs.Upkeep.{UpFacts}
use Rattle.law_pcom.proofs.Living.{lives, open_begun}
use Rattle.law_pcom.proofs.Following.{Behind, behind, taken-received}
use Rattle.law_pcom.proofs.Tailing.{outcome-begun}
use Rattle.law_pcom.proofs.Upkeep.{Remarks, follows-remarked, marks-remarked}
use Rattle.law_pcom.proofs.Parts.{all-append, all-forced, half-of, half-forced, MayPut, put-kept, pending-fresh}
use Rattle.law_pcom.proofs.Steps.{AtStep, Keeps, quiet, answering, adding, one-record}
use Rattle.law_replay.proofs.Members.{map-has, filter-has}

no-put : (program : Program) (c : ComId) (received : List Packet) (q : Pcom) (x : Packet) → Contains [] x → MayPut program c received q x
no-put program c received q x h = empty x h

-- a force -------------------------------------------------------------------------------------------

pub forces : (program : Program) (c : ComId) (sent received : List Packet) (p : Pcom) (s : AtStep program c sent received p) → Keeps program c sent received p (record just_tail { forces = true })
forces program c sent received p s =
    let up = half-forced program c sent received p (half-of program c sent received p s.up) s.up.logs.ends_well in
    put-kept program c sent received p.vol (record just_tail { forces = true }) (record p { log = force_log p.log }) refl up (s.pending sent received (record p { log = force_log p.log }) up) (no-put program c received (record p { log = force_log p.log }))

-- a checkpoint --------------------------------------------------------------------------------------

listed-map : {A B : Type 0} (f : B → List ℕ) (g : A → B) (xs : List A) → listed (λ x. f (g x)) xs ≡ listed f (map g xs)
listed-map f g xs = ap (λ n. to_be_bytes w32 n ++ flat_map (λ x. f (g x)) xs) (lengths xs) ∙ ap (λ bs. to_be_bytes w32 (length (map g xs)) ++ bs) (flats xs)
  where
    lengths : (ys : List _) → length ys ≡ length (map g ys)
    lengths [] = refl
    lengths (y ∷ ys) = ap suc (lengths ys)

    flats : (ys : List _) → flat_map (λ x. f (g x)) ys ≡ flat_map f (map g ys)
    flats [] = refl
    flats (y ∷ ys) = ap (λ bs. f (g y) ++ bs) (flats ys)

-- the image, of what two states have alike
abbrev imaged : ℕ → List ℤ → Txn → ℕ → List Output → Numbers → List Msg → List Identity → List ℕ
imaged clock vars txn made outs links msgs taken =
    number clock ++ counted value vars
    ++ number txn.begun ++ last_bytes txn.last
    ++ number made ++ listed output_bytes outs
    ++ counted link_bytes links ++ listed message_bytes msgs
    ++ counted sender_bytes (senders_of (record { taken = taken; receipts = [] }))

image-is : (v : Vol) → image_of v ≡ imaged v.clock v.vars v.txn v.shelf.made (map (λ (w : Shelf.Waiting). w.output) v.shelf.waiting) v.outbox.links (map (λ (h : Held). h.msg) v.outbox.held) v.inbox.taken
image-is v =
    ap (λ bs. number v.clock ++ counted value v.vars ++ number v.txn.begun ++ last_bytes v.txn.last ++ number v.shelf.made ++ bs ++ counted link_bytes v.outbox.links ++ listed (λ (h : Held). message_bytes h.msg) v.outbox.held ++ counted sender_bytes (senders_of v.inbox))
    (listed-map output_bytes (λ (w : Shelf.Waiting). w.output) v.shelf.waiting)
    ∙ ap (λ bs. number v.clock ++ counted value v.vars ++ number v.txn.begun ++ last_bytes v.txn.last ++ number v.shelf.made ++ listed output_bytes (map (λ (w : Shelf.Waiting). w.output) v.shelf.waiting) ++ counted link_bytes v.outbox.links ++ bs ++ counted sender_bytes (senders_of v.inbox))
    (listed-map message_bytes (λ (h : Held). h.msg) v.outbox.held)

-- states that mirror one have one image
pub image-mirrored : (v w : Vol) (h : Hist) → Mirrors v h → Mirrors w h → image_of v ≡ image_of w
image-mirrored v w h m n = image-is v ∙ to v m ∙ sym (image-is w ∙ to w n)
  where
    to : (u : Vol) → Mirrors u h → imaged u.clock u.vars u.txn u.shelf.made (map (λ (x : Shelf.Waiting). x.output) u.shelf.waiting) u.outbox.links (map (λ (x : Held). x.msg) u.outbox.held) u.inbox.taken ≡ imaged h.clock h.plain.vars w.txn v.shelf.made h.unshown v.outbox.links h.held v.inbox.taken
    to u k =
        ap (λ x. imaged x u.vars u.txn u.shelf.made (map (λ (y : Shelf.Waiting). y.output) u.shelf.waiting) u.outbox.links (map (λ (y : Held). y.msg) u.outbox.held) u.inbox.taken) k.clock
        ∙ ap (λ x. imaged h.clock x u.txn u.shelf.made (map (λ (y : Shelf.Waiting). y.output) u.shelf.waiting) u.outbox.links (map (λ (y : Held). y.msg) u.outbox.held) u.inbox.taken) k.vars
        ∙ ap (λ x. imaged h.clock h.plain.vars x u.shelf.made (map (λ (y : Shelf.Waiting). y.output) u.shelf.waiting) u.outbox.links (map (λ (y : Held). y.msg) u.outbox.held) u.inbox.taken) (k.txn ∙ sym n.txn)
        ∙ ap (λ x. imaged h.clock h.plain.vars w.txn x (map (λ (y : Shelf.Waiting). y.output) u.shelf.waiting) u.outbox.links (map (λ (y : Held). y.msg) u.outbox.held) u.inbox.taken) (k.made ∙ sym m.made)
        ∙ ap (λ x. imaged h.clock h.plain.vars w.txn v.shelf.made x u.outbox.links (map (λ (y : Held). y.msg) u.outbox.held) u.inbox.taken) k.waiting
        ∙ ap (λ x. imaged h.clock h.plain.vars w.txn v.shelf.made h.unshown x (map (λ (y : Held). y.msg) u.outbox.held) u.inbox.taken) (k.links ∙ sym m.links)
        ∙ ap (λ x. imaged h.clock h.plain.vars w.txn v.shelf.made h.unshown v.outbox.links x u.inbox.taken) k.held
        ∙ ap (λ x. imaged h.clock h.plain.vars w.txn v.shelf.made h.unshown v.outbox.links h.held x) (k.taken ∙ sym m.taken)

pub vol-mirrors : (h : Hist) → Mirrors (vol_of h) h
vol-mirrors h = record { vars = refl; clock = refl; hand = refl; now = refl; txn = refl; held = msgs h.held; links = refl; taken = refl; waiting = outs h.unshown; made = refl }
  where
    msgs : (ms : List Msg) → map (λ (x : Held). x.msg) (map (λ m. record { msg = m; at = 0; put = true; stable = false }) ms) ≡ ms
    msgs [] = refl
    msgs (m ∷ ms) = ap (λ l. m ∷ l) (msgs ms)

    outs : (xs : List Output) → map (λ (x : Shelf.Waiting). x.output) (map (λ o. record { output = o; at = 0 }) xs) ≡ xs
    outs [] = refl
    outs (o ∷ os) = ap (λ l. o ∷ l) (outs os)

image-last : (xs : List Record) (image : List ℕ) → has_image (xs ++ Checkpoint image ∷ []) ≡ true
image-last [] image = refl
image-last (x ∷ xs) image = at (is_some (image_in x)) (image-last xs image)
  where
    at : (b : Bool) → has_image (xs ++ Checkpoint image ∷ []) ≡ true → cond b true (has_image (xs ++ Checkpoint image ∷ [])) ≡ true
    at true e = refl
    at false e = e

-- before a checkpoint each receipt is kept
pub kept-all : (xs : List Record) (image : List ℕ) (x : Identity) → list_any (receives x) xs ≡ true → is_kept (xs ++ Checkpoint image ∷ []) x ≡ true
kept-all [] image x e = true-false e
kept-all (r ∷ rs) image x e = at (receives_whole x r) (receives_name x r) e (image-last rs image) (kept-all rs image x)
  where
    at : (a b : Bool) → ((a || b) || list_any (receives x) rs) ≡ true → has_image (rs ++ Checkpoint image ∷ []) ≡ true → (list_any (receives x) rs ≡ true → is_kept (rs ++ Checkpoint image ∷ []) x ≡ true) → ((a || (b && has_image (rs ++ Checkpoint image ∷ []))) || is_kept (rs ++ Checkpoint image ∷ []) x) ≡ true
    at true b f g more = refl
    at false true f g more = ap (λ y. y || is_kept (rs ++ Checkpoint image ∷ []) x) g
    at false false f g more = more f

cover-remarks : (v : Vol) (at : ℕ) → Remarks v (record v { inbox = Inbox.cover v.inbox at })
cover-remarks v at = record {
  held = λ x y. (x, y, refl, refl);
  receipts = λ x y. let z = map-has (cover_one at) v.inbox.receipts x y in (z.0, z.1, ap (λ (w : Receipt). w.name) z.2, ap (λ (w : Receipt). w.at) z.2);
  taken = refl;
  shelf = refl;
  last = refl;
  ended_at = refl;
  mirrors = λ h m. record { vars = m.vars; clock = m.clock; hand = m.hand; now = m.now; txn = m.txn; held = m.held; links = m.links; taken = m.taken; waiting = m.waiting; made = m.made };
}

up-cover : (program : Program) (c : ComId) (sent received : List Packet) (q : Pcom) → ((x : Identity) → Contains q.vol.inbox.taken x → IsTrue (is_kept (all_of q.log) x)) → ((x : Identity) → Contains q.vol.inbox.taken x → IsTrue (is_kept q.log.forced x)) → UpFacts program c sent received q → UpFacts program c sent received (cover_if true q)
up-cover program c sent received q all forced f = record {
  rest = f.rest;
  logs = f.logs;
  follows = follows-remarked program c received q.vol (cover_if true q).vol (all_of q.log) (cover-remarks q.vol (log_end q)) f.follows.stable_received (λ x y may. all x y) f.follows;
  marks = marks-remarked program c received q.vol (cover_if true q).vol q.log.forced (cover-remarks q.vol (log_end q)) (λ x y may. forced x y) f.marks;
  txn = record { open_begun = f.txn.open_begun; committing_forced = f.txn.committing_forced };
  inputs = f.inputs;
}

abbrev checkpoint : Vol → Effects
checkpoint v = record just_tail { adds = Checkpoint (image_of v) ∷ []; forces = true; covers = true }

pub checkpoints : (program : Program) (c : ComId) (sent received : List Packet) (p : Pcom) (s : AtStep program c sent received p) (b : Bool) → IsSome (state_after program c received (all_of p.log ++ (cond b nothing_at_all (checkpoint p.vol)).adds)) → Keeps program c sent received p (cond b nothing_at_all (checkpoint p.vol))
checkpoints program c sent received p s true some = quiet program c sent received p s Same [] (no-put program c received p)
checkpoints program c sent received p s false some =
    put-kept program c sent received p.vol (checkpoint p.vol) (cover_if true (force_if true (append program c None p (Checkpoint (image_of p.vol))))) refl covered
    (s.pending sent received (cover_if true (force_if true (append program c None p (Checkpoint (image_of p.vol))))) covered) (no-put program c received (cover_if true (force_if true (append program c None p (Checkpoint (image_of p.vol))))))
  where
    f : Follows program c received p.vol (all_of p.log)
    f = s.up.follows

    up : UpFacts program c sent received (force_if true (append program c None p (Checkpoint (image_of p.vol))))
    up = one-record program c sent received p s None (Checkpoint (image_of p.vol)) true refl tt some (image-mirrored p.vol (vol_of s.up.follows.state) s.up.follows.state s.up.follows.mirrors (vol-mirrors s.up.follows.state)) (λ e. true-false (sym e))

    kept : (x : Identity) → Contains p.vol.inbox.taken x → is_kept (all_of p.log ++ Checkpoint (image_of p.vol) ∷ []) x ≡ true
    kept x y = kept-all (all_of p.log) (image_of p.vol) x ((lives program c (contents_in received) (all_of p.log) s.up.follows.state s.up.follows.is_state).received x.peer x.k (taken-received s.up.follows.state x (subst (λ xs. Contains xs x) s.up.follows.mirrors.taken y)))

    forced : (x : Identity) → Contains p.vol.inbox.taken x → is_kept (all_of (append program c None p (Checkpoint (image_of p.vol))).log) x ≡ true
    forced x y = subst (λ l. is_kept l x ≡ true) (sym (all-append program c None p (Checkpoint (image_of p.vol)))) (kept x y)

    covered : UpFacts program c sent received (cover_if true (force_if true (append program c None p (Checkpoint (image_of p.vol)))))
    covered = up-cover program c sent received (force_if true (append program c None p (Checkpoint (image_of p.vol))))
        (λ x y. subst (λ l. is_kept l x ≡ true) (sym (all-forced (append program c None p (Checkpoint (image_of p.vol))))) (forced x y)) forced up

-- a resend ------------------------------------------------------------------------------------------

pub drop-true : (program : Program) (c : ComId) (sent received : List Packet) (p : Pcom) → UpFacts program c sent received p → (e : ComId × ℕ) → p.vol.txn.last ≡ Some e → p.vol.ended_at ≤ forced_end p → MayPut program c received p (drop_packet c e)
drop-true program c sent received p up e is le = record { is_true = (refl, has, begun); fresh = λ n f. true-false f }
  where
    b : Behind program c received p.log.forced (all_of p.log) up.follows.state
    b = behind program c received p.log.forced p.log.buffered up.follows.state up.follows.is_state

    has : has_outcome p.log.forced e.1 ≡ true
    has = (up.marks.ended_stands e.0 e.1 is).1 le

    begun : IsSomeAnd (begun_in program c received p.log.forced e.1) (λ y. y.tcom ≡ e.0)
    begun =
        let old = outcome-begun program c (contents_in received) p.log.forced b.state e.1 b.is_state has in
        let now = (lives program c (contents_in received) (all_of p.log) up.follows.state up.follows.is_state).last_begun e.0 e.1 (sym (ap (λ y. y.last) up.follows.mirrors.txn) ∙ is) in
        let same : old.0 ≡ now.0 = same_Some old.0 now.0 (sym (opened-grows b.state up.follows.state e.1 old.0 b.grows old.1) ∙ now.1) in
        subst (λ o. IsSomeAnd o (λ (y : Begun). y.tcom ≡ e.0)) (sym (ap (option_and_then (λ y. opened y e.1)) b.is_state ∙ old.1)) (ap (λ (y : Begun). y.tcom) same ∙ now.2)

pub owed : (program : Program) (c : ComId) (sent received : List Packet) (p : Pcom) (s : AtStep program c sent received p) (x : Packet) → Contains (all_owed c p) x → MayPut program c received p x
owed program c sent received p s x h = by (Contains-append_cases (map Data (Outbox.unstable p.vol.outbox (forced_end p)) ++ last_drop c p) (option_to_list (Txn.pending c p.vol.txn p.vol.clock)) x h)
  where
    drops : (b : Bool) → nat_le p.vol.ended_at (forced_end p) ≡ b → Contains (cond b (map (drop_packet c) (option_to_list p.vol.txn.last)) []) x → MayPut program c received p x
    drops false le k = empty x k
    drops true le k = at p.vol.txn.last refl k
      where
        at : (o : Option (ComId × ℕ)) → p.vol.txn.last ≡ o → Contains (map (drop_packet c) (option_to_list o)) x → MayPut program c received p x
        at None is z = empty x z
        at (Some e) is z = ⊎_elim (λ same. subst (MayPut program c received p) same (drop-true program c sent received p s.up e is (at_most p.vol.ended_at (forced_end p) le))) (λ w. empty x w) (head-or-tail (drop_packet c e) x [] z)

    front : Contains (map Data (Outbox.unstable p.vol.outbox (forced_end p))) x ⊎ Contains (last_drop c p) x → MayPut program c received p x
    front (inl k) =
        let a = map-has Data (Outbox.unstable p.vol.outbox (forced_end p)) x k in
        let r = map-has (λ (z : Held). z.msg) (filter (is_unstable (forced_end p)) p.vol.outbox.held) a.0 a.1 in
        let y = filter-has (is_unstable (forced_end p)) p.vol.outbox.held r.0 r.1 in
        subst (MayPut program c received p) (ap Data r.2 ∙ a.2) (record { is_true = (s.up.marks.held_stands r.0 y.0).1 (at_most r.0.at (forced_end p) (and_parts (not r.0.stable) (nat_le r.0.at (forced_end p)) y.1).1); fresh = λ n f. true-false f })
    front (inr k) = drops (nat_le p.vol.ended_at (forced_end p)) refl k

    asked : (o : Option Packet) → Txn.pending c p.vol.txn p.vol.clock ≡ o → Contains (option_to_list o) x → MayPut program c received p x
    asked None e k = empty x k
    asked (Some y) e k = ⊎_elim (λ same. subst (MayPut program c received p) same (record { is_true = s.pending sent received p s.up y e; fresh = pending-fresh program c sent received p y s.up e })) (λ w. empty x w) (head-or-tail y x [] k)

    by : Contains (map Data (Outbox.unstable p.vol.outbox (forced_end p)) ++ last_drop c p) x ⊎ Contains (option_to_list (Txn.pending c p.vol.txn p.vol.clock)) x → MayPut program c received p x
    by (inl k) = front (Contains-append_cases (map Data (Outbox.unstable p.vol.outbox (forced_end p))) (last_drop c p) x k)
    by (inr k) = asked (Txn.pending c p.vol.txn p.vol.clock) refl k

pub resends : (program : Program) (c : ComId) (sent received : List Packet) (p : Pcom) (s : AtStep program c sent received p) → Keeps program c sent received p (record nothing_at_all { answers = all_owed c p })
resends program c sent received p s = quiet program c sent received p s Same (all_owed c p) (owed program c sent received p s)

-- an outcome ----------------------------------------------------------------------------------------

-- the transaction that waits for this Tcom was begun on it
pub begun-on : (program : Program) (c : ComId) (received : List Packet) (v : Vol) (all : List Record) (f : Follows program c received v all) (from : ComId) → is_on v.txn.stage from ≡ true → (b : Begun) × (begun_in program c received all v.txn.begun ≡ Some b) × (b.tcom ≡ from)
begun-on program c received v all f from e =
    let t = tcom v.txn.stage e in
    let b = open_begun program c (contents_in received) all f.state from f.is_state (ap tcom_of (sym (ap (λ x. x.stage) f.mirrors.txn)) ∙ t) in
    (b.0, ap (option_and_then (λ h. opened h v.txn.begun)) f.is_state ∙ ap (opened f.state) (ap (λ x. x.begun) f.mirrors.txn) ∙ b.1, b.2)
  where
    tcom : (s : Stage) → is_on s from ≡ true → tcom_of s ≡ Some from
    tcom Idle y = true-false y
    tcom (Waiting t p s q) y = ap (λ x. Some x) (sym (same-com from t y))
    tcom (Answered t p s q) y = ap (λ x. Some x) (sym (same-com from t y))
    tcom (Committing t p s) y = ap (λ x. Some x) (sym (same-com from t y))

pub chosen : {A : Type 0} (b : Bool) (x y : A) → cond b (Some x) None ≡ Some y → (b ≡ true) × (x ≡ y)
chosen true x y e = (refl, same_Some x y e)
chosen false x y e = absurd (none-some y e)

pub is-same-session : (s : Option Session) (t : Session) → is_session s t ≡ true → s ≡ Some t
is-same-session None t e = true-false e
is-same-session (Some s) t e =
    let b = and_parts (s.epoch == t.epoch) (s.counter == t.counter) e in
    ap (λ x. Some x) (at s t (equal-numbers s.epoch t.epoch b.0) (equal-numbers s.counter t.counter b.1))
  where
    at : (a b : Session) → a.epoch ≡ b.epoch → a.counter ≡ b.counter → a ≡ b
    at a b f g = ap (λ x. record { epoch = x; counter = a.counter }) f ∙ ap (λ x. record { epoch = b.epoch; counter = x }) g

abbrev the_place : ComId → ℕ → Option Session → Place
the_place t p s = record { tcom = t; place = p; session = s }

named-place : (t : ComId) (p : ℕ) (s : Session) (from : ComId) (place : ℕ) (session : Option Session) → same_com from t ≡ true → ((p == place) && is_session session s) ≡ true → Some (the_place t p (Some s)) ≡ Some (the_place from place session)
named-place t p s from place session e f =
    let b = and_parts (p == place) (is_session session s) f in
    ap (λ x. Some (the_place x p (Some s))) (sym (same-com from t e))
    ∙ ap (λ x. Some (the_place from x (Some s))) (equal-numbers p place b.0)
    ∙ ap (λ x. Some (the_place from place x)) (sym (is-same-session session s b.1))

-- where it waits is where the packet says
waits-at : (s : Stage) (from : ComId) (place : ℕ) (session : Option Session) → is_on s from ≡ true → same_place s place session ≡ true → place_of s ≡ Some (record { tcom = from; place = place; session = session })
waits-at Idle from place session e f = true-false e
waits-at (Waiting t p None q) from place None e f = ap (λ x. Some (record { tcom = x; place = p; session = None })) (sym (same-com from t e)) ∙ ap (λ x. Some (record { tcom = from; place = x; session = None })) (equal-numbers p place f)
waits-at (Waiting t p None q) from place (Some r) e f = true-false f
waits-at (Waiting t p (Some s) q) from place session e f = named-place t p s from place session e f
waits-at (Answered t p s q) from place session e f = named-place t p s from place session e f
waits-at (Committing t p s) from place session e f = named-place t p s from place session e f

pub outcomes : (program : Program) (c : ComId) (sent received : List Packet) (p : Pcom) (s : AtStep program c sent received p) (from : ComId) (n place : ℕ) (session : Option Session) (decision : Decision) → Contains received (Outcome from c n place session decision) →
    (o : Option Decision) → Txn.outcome p.vol.txn (Outcome from c n place session decision) ≡ o → IsSome (state_after program c received (all_of p.log ++ (on_outcome p.vol o).adds)) → Keeps program c sent received p (on_outcome p.vol o)
outcomes program c sent received p s from n place session decision is None e some = answering program c sent received p p s just_tail refl refl refl refl refl refl s.up (no-put program c received p)
outcomes program c sent received p s from n place session decision is (Some d) e some = by decision d same is accepted some
  where
    x : ((is_on p.vol.txn.stage from && ((n == p.vol.txn.begun) && accepts p.vol.txn.stage place session decision)) ≡ true) × (decision ≡ d)
    x = chosen (is_on p.vol.txn.stage from && ((n == p.vol.txn.begun) && accepts p.vol.txn.stage place session decision)) decision d e

    same : decision ≡ d
    same = x.1

    on : is_on p.vol.txn.stage from ≡ true
    on = (and_parts (is_on p.vol.txn.stage from) ((n == p.vol.txn.begun) && accepts p.vol.txn.stage place session decision) x.0).0

    rest : ((n == p.vol.txn.begun) && accepts p.vol.txn.stage place session decision) ≡ true
    rest = (and_parts (is_on p.vol.txn.stage from) ((n == p.vol.txn.begun) && accepts p.vol.txn.stage place session decision) x.0).1

    number_is : n ≡ p.vol.txn.begun
    number_is = equal-numbers n p.vol.txn.begun (and_parts (n == p.vol.txn.begun) (accepts p.vol.txn.stage place session decision) rest).0

    accepted : accepts p.vol.txn.stage place session decision ≡ true
    accepted = (and_parts (n == p.vol.txn.begun) (accepts p.vol.txn.stage place session decision) rest).1

    b : (y : Begun) × (begun_in program c received (all_of p.log) p.vol.txn.begun ≡ Some y) × (y.tcom ≡ from)
    b = begun-on program c received p.vol (all_of p.log) s.up.follows from on

    above : (clock stamp : ℕ) → stamp < max clock stamp + 1
    above clock stamp = omega arith

    by : (a d : Decision) → a ≡ d → Contains received (Outcome from c n place session a) → accepts p.vol.txn.stage place session a ≡ true → IsSome (state_after program c received (all_of p.log ++ (on_outcome p.vol (Some d)).adds)) → Keeps program c sent received p (on_outcome p.vol (Some d))
    by a (Committed stamp) eq got acc y =
        adding program c sent received p s (on_outcome p.vol (Some (Committed stamp))) (records.Outcome (max p.vol.clock stamp + 1) p.vol.txn.begun None) refl refl refl refl refl refl tt y
        (subst (λ o. IsSomeAnd o (λ (z : Begun). (decided : ℕ) × (at : ℕ) × (ses : Option Session) × (decided < max p.vol.clock stamp + 1) × Contains received (Outcome z.tcom c p.vol.txn.begun at ses (Committed decided)))) (sym b.1)
        (stamp, place, session, above p.vol.clock stamp, subst (λ t. Contains received (Outcome t c p.vol.txn.begun place session (Committed stamp))) (sym b.2) (subst (λ k. Contains received (Outcome from c k place session (Committed stamp))) number_is (subst (λ z. Contains received (Outcome from c n place session z)) eq got))))
        (λ f. (λ i. refl, refl))
    by a (Aborted cause) eq got acc y =
        adding program c sent received p s (on_outcome p.vol (Some (Aborted cause))) (records.Outcome (p.vol.clock + 1) p.vol.txn.begun (Some cause)) refl refl refl refl refl refl tt y
        (λ no_need asked. subst (λ o. IsSomeAnd o (λ (z : Place). Contains received (Outcome z.tcom c p.vol.txn.begun z.place z.session (Aborted cause))))
        (sym (ap (option_and_then (λ z. place_of z.stage)) s.up.follows.is_state ∙ ap place_of (sym (ap (λ z. z.stage) s.up.follows.mirrors.txn)) ∙ waits-at p.vol.txn.stage from place session on (ap (accepts p.vol.txn.stage place session) (sym eq) ∙ acc)))
        (subst (λ k. Contains received (Outcome from c k place session (Aborted cause))) number_is (subst (λ z. Contains received (Outcome from c n place session z)) eq got)))
        (λ f. (λ i. refl, refl))
