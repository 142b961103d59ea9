-- A Pcom that replays keeps its facts.
use Rattle.std.proofs.Common.{◌≡◌, refl, ◌∙◌, ap, sym, subst, ℕ, ◌+◌, ◌≤◌, Bool, true, false, cond, not, ◌&&◌, nat_le, ⊎_elim, List, [], ◌∷◌, ◌++◌, map, length, find, Option, Some, None, option_map, option_and_then, option_to_list, is_some}
use Rattle.std.specs.Prelude.{Contains, IsSomeAnd, IsSome}
use Rattle.std.specs.List.{list_any}
use Rattle.std.proofs.lemmas.Bool.{and_parts}
use Rattle.std.proofs.lemmas.List.{append-nil, append_assoc}
use Rattle.std.proofs.lemmas.List.Elements.{Contains-push, Contains-append_left}
use Rattle.std.proofs.lemmas.Option.{none-some, same_Some}
use Rattle.ic_base.specs.declared.messages.ComId.{ComId}
use Rattle.ic_base.specs.declared.messages.Msg.{Msg}
use Rattle.ic_base.specs.declared.messages.Packet.{Packet}
use Rattle.ic_base.specs.declared.messages.Packet.TheVariants.{Data, Stable, Installed, Fetch, Op, OpReply, Commit, Outcome, Drop}
use Rattle.ic_base.specs.declared.scenario.Program.{Program}
use Rattle.ic_base.specs.declared.record.Record.{Record}
use Rattle.ic_base.specs.declared.record.Record.TheVariants as records
use Rattle.def_state.specs.Names.{Identity, same_identity}
use Rattle.def_state.specs.Positions.{end_of}
use Rattle.def_state.specs.Outbox
use Rattle.def_state.specs.Outbox.{Held, is_held_as}
use Rattle.def_state.specs.Shelf
use Rattle.def_state.specs.Txn.{is_idle}
use Rattle.def_state.specs.Hist.{Hist, apply, apply_all, outputs_of, number_outputs, opened}
use Rattle.def_state.specs.Vol.{Vol, record_in, regenerated, numbers_fit, with_put_mark}
use Rattle.def_state.specs.Mirrors.{Mirrors}
use Rattle.def_step.specs.Packets.{fits_pcom}
use Rattle.def_step.specs.Replay.{Playing, feed, play_records, has_image}
use Rattle.def_step.specs.Pcom.{Pcom, Log, Call, Gives, Gets, Forces, Checkpoints, Resends, Emits, StepResult, all_of, is_replaying, is_empty, replay_step, packet_at_replay, is_needed, needed, needed_fetch, fetch_packet, stays, told, fed, stands_at, standing_at, nothing_at_all, after_tail, tail_packets, forced_end, decide, carry_out, pcom_step}
use Rattle.def_facts.specs.Logs.{IsConsistent, contents_in, has_outcome, is_input, ends_txn, commits}
use Rattle.def_facts.specs.Pcom.{state_after, begun_in, IsTrueOf, IsAtTake, PcomLogFacts, VolatileFacts}
use Rattle.law_replay.specs.Growing.{Grows}
use Rattle.law_replay.proofs.Prefixes.{prefix-contains}
use Rattle.law_replay.proofs.Growing.{prefixes_replay, states_grow}
use Rattle.law_replay.proofs.Truth.{opened-grows}
use Rattle.law_replay.proofs.Lists.{some-of, true-false, empty, same-identity, at_most}
use Rattle.law_replay.proofs.Receiving.{pcoms_receive, pcoms_put, section-state}
use Rattle.law_replay.proofs.Lists.{open-content, in-head, in-tail}
use Rattle.law_replay.proofs.Lists.{head-or-tail}
use Rattle.law_pcom.specs.Mirroring.{IsContentOf, NoPartEnds}
use Rattle.law_pcom.specs.Keeping.{Lives, Follows}
use Rattle.law_pcom.specs.Upkeep.{UpFacts}
use Rattle.law_pcom.specs.Stepping.{got, IsFor, StepKept}
use Rattle.law_pcom.specs.Replaying.{Plays}
use Rattle.law_pcom.proofs.Lists.{false-true}
use Rattle.law_pcom.proofs.Living.{lives, numbered-append}
use Rattle.law_pcom.proofs.Following.{taken-received, marks-forced, behind}
use Rattle.law_pcom.proofs.Upkeep.{Remarks, follows-remarked, up-tail, of-up}
use Rattle.law_pcom.proofs.Parts.{txn-forced, open-there, up-put, tail-fresh}
use Rattle.law_pcom.proofs.Tailing.{tail-true}
use Rattle.law_pcom.proofs.Steps.{content-is}
use Rattle.law_pcom.proofs.Plays.{plays-append, next-applied, no-image, comes}
use Rattle.law_replay.proofs.Members.{map-has, any-front, map-in, found}

-- in and out ----------------------------------------------------------------------------------------

some-rest : (p : Pcom) → is_replaying p ≡ true → (r : Record) × (rs : List Record) × (p.rest ≡ r ∷ rs)
some-rest p e = at p.rest e
  where
    at : (l : List Record) → not (is_empty l) ≡ true → (r : Record) × (rs : List Record) × (l ≡ r ∷ rs)
    at [] f = true-false f
    at (r ∷ rs) f = (r, rs, refl)

-- the facts of a Pcom over a log that is all forced, of which some is played
pub plays-volatile : (program : Program) (c : ComId) (received : List Packet) (p : Pcom) (played : List Record) → Plays program c received p.vol played p.log.forced → p.log.forced ≡ played ++ p.rest → p.log.buffered ≡ [] → IsAtTake p.rest → IsSome (state_after program c received p.log.forced) → is_replaying p ≡ true → VolatileFacts program c p received
plays-volatile program c received p played f all none waits some up = record {
  played = played;
  rest_stands = whole ∙ all;
  mirrors = subst (λ o. IsSomeAnd o (Mirrors p.vol)) (sym f.is_state) f.mirrors;
  rest_waits = waits;
  rest_forced = λ is. none;
  inputs_forced = ap (list_any is_input) none;
  held_at = λ x y. (subst (λ l. x.at ≤ end_of l) (sym whole) (f.held_within x y), (λ s. f.held_within x y, λ le. there (λ h. Contains h.sent x.msg) (λ g. prefix-contains f.state.sent b.0.sent x.msg g.sent) (l.held_sent x.msg (subst (λ ms. Contains ms x.msg) f.mirrors.held (map-in (λ (z : Held). z.msg) p.vol.outbox.held x y)))));
  shelved_at = λ x y. (subst (λ l. x.at ≤ end_of l) (sym whole) (f.shelved_within x y), (λ s. f.shelved_within x y, λ le. there (λ h. Contains (outputs_of h) x.output) (λ g z. subst (λ os. Contains os x.output) (sym (ap (number_outputs 1) g.outs.1 ∙ numbered-append 1 f.state.plain.outs g.outs.0)) (Contains-append_left (outputs_of f.state) (number_outputs (length f.state.plain.outs + 1) g.outs.0) x.output z)) (l.unshown_made x.output (subst (λ os. Contains os x.output) f.mirrors.waiting (map-in (λ (z : Shelf.Waiting). z.output) p.vol.shelf.waiting x y)))));
  received_at = λ x y. (subst (λ l. x.at ≤ end_of l) (sym whole) (f.received_within x y), (λ s. f.received_within x y, λ le. there (λ h. Contains h.plain.receipts (x.name.peer, x.name.k)) (λ g. prefix-contains f.state.plain.receipts b.0.plain.receipts (x.name.peer, x.name.k) g.receipts) (taken-received f.state x.name (subst (λ xs. Contains xs x.name) f.mirrors.taken (f.receipt_taken x y)))));
  ended_at = λ t n y. (subst (λ l. p.vol.ended_at ≤ end_of l) (sym whole) (f.ended_within t n y), (λ s. f.ended_within t n y, λ le. subst (λ l. has_outcome l n ≡ true) (sym all) (any-front (ends_txn n) played p.rest (l.last_ended t n (sym (ap (λ z. z.last) f.mirrors.txn) ∙ y)))));
  receipt_taken = f.receipt_taken;
  stable_received = f.stable_received;
  installed_kept = f.kept;
  open_begun = λ is. opened_there is;
  committing_forced = λ still. false-true (is_replaying p) still up;
}
  where
    whole : all_of p.log ≡ p.log.forced
    whole = ap (λ l. p.log.forced ++ l) none ∙ append-nil p.log.forced

    l : Lives program c played f.state
    l = lives program c (contents_in received) played f.state f.is_state

    b : (h : Hist) × ((state_after program c received p.log.forced ≡ Some h) × Grows f.state h)
    b =
        let g = some-of (state_after program c received p.log.forced) some in
        let y = prefixes_replay program c (contents_in received) played p.rest g.0 (ap (state_after program c received) (sym all) ∙ g.1) in
        (g.0, (g.1, states_grow program c (contents_in received) p.rest f.state g.0 (ap (λ o. apply_all program c (contents_in received) o p.rest) (sym f.is_state ∙ y.1) ∙ y.2)))

    there : (P : Hist → Type 0) → (Grows f.state b.0 → P f.state → P b.0) → P f.state → IsSomeAnd (state_after program c received p.log.forced) P
    there P goes x = subst (λ o. IsSomeAnd o P) (sym b.1.0) (goes b.1.1 x)

    opened_there : is_idle p.vol.txn.stage ≡ false → IsSome (begun_in program c received p.log.forced p.vol.txn.begun)
    opened_there is =
        let x = open-there program c received p.vol played f.state f.is_state f.mirrors is in
        let y = some-of (begun_in program c received played p.vol.txn.begun) x in
        ap is_some (ap (option_and_then (λ h. opened h p.vol.txn.begun)) b.1.0 ∙ opened-grows f.state b.0 p.vol.txn.begun y.0 b.1.1 (sym (ap (option_and_then (λ h. opened h p.vol.txn.begun)) f.is_state) ∙ y.1))

pub plays-of : (program : Program) (c : ComId) (received : List Packet) (p : Pcom) (f : VolatileFacts program c p received) → p.log.buffered ≡ [] → Plays program c received p.vol f.played p.log.forced
plays-of program c received p f none = record {
  state = state.0;
  is_state = state.1;
  mirrors = state.2;
  held_within = λ x y. subst (λ l. x.at ≤ end_of l) whole (f.held_at x y).0;
  shelved_within = λ x y. subst (λ l. x.at ≤ end_of l) whole (f.shelved_at x y).0;
  received_within = λ x y. subst (λ l. x.at ≤ end_of l) whole (f.received_at x y).0;
  ended_within = λ t n y. subst (λ l. p.vol.ended_at ≤ end_of l) whole (f.ended_at t n y).0;
  receipt_taken = f.receipt_taken;
  stable_received = f.stable_received;
  kept = f.installed_kept;
}
  where
    whole : all_of p.log ≡ p.log.forced
    whole = ap (λ l. p.log.forced ++ l) none ∙ append-nil p.log.forced

    state : (h : Hist) × (state_after program c received f.played ≡ Some h) × Mirrors p.vol h
    state = open-content (Mirrors p.vol) (state_after program c received f.played) f.mirrors

pub plays-receives : (program : Program) (c : ComId) (received more : List Packet) (v : Vol) (played forced : List Record) → Plays program c received v played forced → Plays program c (received ++ more) v played forced
plays-receives program c received more v played forced f = record {
  state = f.state;
  is_state = section-state program c received more played f.state f.is_state;
  mirrors = f.mirrors;
  held_within = f.held_within;
  shelved_within = f.shelved_within;
  received_within = f.received_within;
  ended_within = f.ended_within;
  receipt_taken = f.receipt_taken;
  stable_received = λ x y s. Contains-append_left received more (Stable x.msg.to c x.msg.k) (f.stable_received x y s);
  kept = f.kept;
}

-- what is known of a Pcom that replays, in a step
record AtReplay (program : Program) (c : ComId) (sent received : List Packet) (p : Pcom) : Type 0 where
  no_end : NoPartEnds program
  up : is_replaying p ≡ true
  logs : PcomLogFacts program c p.log.forced (all_of p.log) sent received
  played : List Record
  plays : Plays program c received p.vol played p.log.forced
  all : p.log.forced ≡ played ++ p.rest
  none : p.log.buffered ≡ []
  waits : IsAtTake p.rest
  some : IsSome (state_after program c received p.log.forced)

pub logs-put : (program : Program) (c : ComId) (forced all : List Record) (sent received : List Packet) (ps : List Packet) → ((x : Packet) → Contains ps x → IsTrueOf program c forced received x × ((n : ℕ) → commits n x ≡ false)) → PcomLogFacts program c forced all sent received → PcomLogFacts program c forced all (sent ++ ps) received
logs-put program c forced all sent received [] may f = subst (λ l. PcomLogFacts program c forced all l received) (sym (append-nil sent)) f
logs-put program c forced all sent received (p ∷ ps) may f =
    let m = may p (in-head p ps) in
    subst (λ l. PcomLogFacts program c forced all l received) (append_assoc sent (p ∷ []) ps)
    (logs-put program c forced all (sent ++ p ∷ []) received ps (λ x h. may x (in-tail p x ps h)) (pcoms_put program c forced all sent received p m.0 (λ n e. false-true (commits n p) (m.1 n) e) f))

-- it stays where it is
staying : (program : Program) (c : ComId) (sent received : List Packet) (p : Pcom) (s : AtReplay program c sent received p) (puts : List Packet) (t : StepResult) → ((x : Packet) → Contains puts x → IsTrueOf program c p.log.forced received x × ((n : ℕ) → commits n x ≡ false)) → stays p puts ≡ Some t → StepKept program c sent received t
staying program c sent received p s puts t may e = subst (StepKept program c sent received) (same_Some (told p puts nothing_at_all) t e)
    (logs-put program c p.log.forced (all_of p.log) sent received puts may s.logs, plays-volatile program c received p s.played s.plays s.all s.none s.waits s.some s.up)

fetch-true : (program : Program) (c : ComId) (sent received : List Packet) (p : Pcom) (s : AtReplay program c sent received p) (x : Identity) (y : Packet) → Contains (map Data (option_to_list (Outbox.fetch p.vol.outbox x (forced_end p)))) y → IsTrueOf program c p.log.forced received y × ((n : ℕ) → commits n y ≡ false)
fetch-true program c sent received p s x y h = at (find (λ z. is_held_as x z && nat_le z.at (forced_end p)) p.vol.outbox.held) refl h
  where
    f : VolatileFacts program c p received
    f = plays-volatile program c received p s.played s.plays s.all s.none s.waits s.some s.up

    at : (o : Option Held) → find (λ z. is_held_as x z && nat_le z.at (forced_end p)) p.vol.outbox.held ≡ o → Contains (map Data (option_to_list (option_map (λ (z : Held). z.msg) o))) y → IsTrueOf program c p.log.forced received y × ((n : ℕ) → commits n y ≡ false)
    at None e k = empty y k
    at (Some m) e k = ⊎_elim
        (λ same. let z = found (λ w. is_held_as x w && nat_le w.at (forced_end p)) p.vol.outbox.held m e in
        subst (λ q. IsTrueOf program c p.log.forced received q × ((n : ℕ) → commits n q ≡ false)) same ((f.held_at m z.0).1.1 (at_most m.at (forced_end p) (and_parts (is_held_as x m) (nat_le m.at (forced_end p)) z.1).1), λ n. refl))
        (λ w. empty y w) (head-or-tail (Data m.msg) y [] k)

pub asks-true : (program : Program) (c : ComId) (received : List Packet) (forced : List Record) (o : Option Identity) (y : Packet) → Contains (map (fetch_packet c) (option_to_list o)) y → IsTrueOf program c forced received y × ((n : ℕ) → commits n y ≡ false)
asks-true program c received forced o y h = let z = map-has (fetch_packet c) (option_to_list o) y h in subst (λ q. IsTrueOf program c forced received q × ((n : ℕ) → commits n q ≡ false)) z.2 (refl, λ n. refl)

-- the replay has ended, or waits again
map-marked : (xs : List Held) → map (λ (x : Held). x.msg) (map with_put_mark xs) ≡ map (λ (x : Held). x.msg) xs
map-marked [] = refl
map-marked (x ∷ xs) = ap (λ ms. x.msg ∷ ms) (map-marked xs)

regenerated-remarks : (v : Vol) → Remarks v (regenerated v)
regenerated-remarks v = record {
  held = λ x y. let z = map-has with_put_mark v.outbox.held x y in (z.0, z.1, ap (λ (w : Held). w.msg) z.2, ap (λ (w : Held). w.at) z.2);
  receipts = λ x y. (x, y, refl, refl);
  taken = refl;
  shelf = refl;
  last = refl;
  ended_at = refl;
  mirrors = λ h m. record { vars = m.vars; clock = m.clock; hand = m.hand; now = m.now; txn = m.txn; held = map-marked v.outbox.held ∙ m.held; links = m.links; taken = m.taken; waiting = m.waiting; made = m.made };
}

follows-of : (program : Program) (c : ComId) (received : List Packet) (v : Vol) (played forced : List Record) → Plays program c received v played forced → forced ≡ played → Follows program c received v forced
follows-of program c received v played forced f same = record {
  state = f.state;
  is_state = ap (state_after program c received) same ∙ f.is_state;
  mirrors = f.mirrors;
  held_within = f.held_within;
  shelved_within = f.shelved_within;
  received_within = f.received_within;
  ended_within = f.ended_within;
  receipt_taken = f.receipt_taken;
  stable_received = f.stable_received;
  kept = f.kept;
}

-- a component that has played all its records
pub up-again : (program : Program) (c : ComId) (sent received : List Packet) (log : Log) (v : Vol) (played : List Record) → log.buffered ≡ [] → Plays program c received v played log.forced → log.forced ≡ played → PcomLogFacts program c log.forced (all_of log) sent received → UpFacts program c sent received (record { log = log; vol = regenerated v; rest = [] })
up-again program c sent received log v played none f same logs = record {
  rest = refl;
  logs = logs;
  follows = subst (Follows program c received (regenerated v)) (sym whole) now;
  marks = marks-forced program c received (regenerated v) log.forced now;
  txn = let x = txn-forced program c received (regenerated v) log.forced now in record { open_begun = x.open_begun; committing_forced = x.committing_forced };
  inputs = ap (list_any is_input) none;
}
  where
    whole : all_of log ≡ log.forced
    whole = ap (λ l. log.forced ++ l) none ∙ append-nil log.forced

    now : Follows program c received (regenerated v) log.forced
    now = follows-remarked program c received v (regenerated v) log.forced (regenerated-remarks v)
        (λ x y s. let z = map-has with_put_mark v.outbox.held x y in subst (λ (m : Msg). Contains received (Stable m.to c m.k)) (ap (λ (w : Held). w.msg) z.2) (f.stable_received z.0 z.1 (ap (λ (w : Held). w.stable) z.2 ∙ s)))
        (λ x y may. f.kept x y may) (follows-of program c received v played log.forced f same)

fed-kept : (program : Program) (c : ComId) (sent received : List Packet) (log : Log) (v : Vol) (rest played : List Record) → log.buffered ≡ [] → Plays program c received v played log.forced → log.forced ≡ played ++ rest → IsAtTake rest → IsSome (state_after program c received log.forced) → PcomLogFacts program c log.forced (all_of log) sent received →
    StepKept program c sent received (fed c (standing_at log v rest))
fed-kept program c sent received log v [] played none f all waits some logs =
    let q : Pcom = record { log = log; vol = regenerated v; rest = [] } in
    let up = up-again program c sent received log v played none f (all ∙ append-nil played) logs in
    let done = up-tail program c (sent ++ tail_packets c false q) received q
    (up-put program c sent received q (tail_packets c false q) (λ x h. record {
      is_true = tail-true program c received false q (all_of q.log) up.follows (behind program c received q.log.forced q.log.buffered up.follows.state up.follows.is_state) up.marks (λ e. true-false e) x h;
      fresh = tail-fresh program c sent received false q x up h;
    }) up)
    in
    (done.logs, of-up program c (sent ++ tail_packets c false q) received (after_tail q) done)
fed-kept program c sent received log v (r ∷ rs) played none f all waits some logs =
    (subst (λ l. PcomLogFacts program c log.forced (all_of log) l received) (sym (append-nil sent)) logs, plays-volatile program c received (record { log = log; vol = v; rest = r ∷ rs }) played f all none waits some refl)

abbrev identity_named : ComId → ℕ → Identity
identity_named from k = record { peer = from; k = k }

feeding : (program : Program) (c : ComId) (sent received : List Packet) (p : Pcom) (s : AtReplay program c sent received p) (m : Msg) (rest : List Record) (t : StepResult) → p.rest ≡ rest → contents_in received m.from m.k ≡ Some m → is_needed rest m ≡ true → option_map (λ x. fed c (stands_at p.log x)) (feed program c p.vol m rest) ≡ Some t → StepKept program c sent received t
feeding program c sent received p s m [] t is content need e = false-true (is_replaying p) (ap (λ rs. not (is_empty rs)) is) s.up
feeding program c sent received p s m (r ∷ rs) t is content need e = by (numbers_fit (record_in program c 0 (Some m) p.vol r)) e
  where
    all : p.log.forced ≡ s.played ++ r ∷ rs
    all = s.all ∙ ap (λ l. s.played ++ l) is

    g : (h : Hist) × (apply program c (contents_in received) s.plays.state r ≡ Some h)
    g = next-applied program c received s.played rs p.log.forced r s.plays.state s.plays.is_state all s.some

    content_is : (y : Record) → is_needed (y ∷ rs) m ≡ true → IsContentOf (contents_in received) y (Some m)
    content_is (records.Take from k stamp) n = named (same_identity (record { peer = from; k = k }) (record { peer = m.from; k = m.k })) refl n
      where
        named : (b : Bool) → same_identity (record { peer = from; k = k }) (record { peer = m.from; k = m.k }) ≡ b → is_some (cond b (Some (identity_named from k)) None) ≡ true → contents_in received from k ≡ Some m
        named true same z = subst (λ (i : Identity). contents_in received i.peer i.k ≡ Some m) (sym (same-identity (record { peer = from; k = k }) (record { peer = m.from; k = m.k }) same)) content
        named false same z = true-false z
    content_is (records.TakeWhole from k stamp handler args) n = tt
    content_is (records.Input stamp handler args) n = tt
    content_is (records.Value k place session value) n = tt
    content_is (records.Outcome stamp k abort) n = tt
    content_is (records.Released to k) n = tt
    content_is (records.Shown k) n = tt
    content_is (records.Checkpoint image) n = tt
    content_is (records.Epoch epoch) n = tt
    content_is (records.Decided stamp d k writes) n = tt

    image : has_image (r ∷ rs) ≡ false
    image = (subst (λ l. IsAtTake l) is s.waits).1

    next : Plays program c received (record_in program c 0 (Some m) p.vol r) (s.played ++ r ∷ []) p.log.forced
    next = plays-append program c received (Some m) p.vol s.played rs p.log.forced r s.plays g.0 (all ∙ sym (append_assoc s.played (r ∷ []) rs)) s.no_end (content_is r need) g.1

    played_on : (o : Option Playing) → play_records program c (record_in program c 0 (Some m) p.vol r) rs ≡ o → option_map (λ x. fed c (stands_at p.log x)) o ≡ Some t → StepKept program c sent received t
    played_on None k z = absurd (none-some t z)
    played_on (Some x) k z =
        let y = comes program c received p.log.forced s.no_end s.some (record_in program c 0 (Some m) p.vol r) (s.played ++ r ∷ []) rs x next (all ∙ sym (append_assoc s.played (r ∷ []) rs)) (no-image r rs image) k in
        subst (StepKept program c sent received) (same_Some (fed c (stands_at p.log x)) t z) (fed-kept program c sent received p.log x.vol x.rest y.played s.none y.plays y.is y.waits s.some s.logs)

    by : (b : Bool) → option_map (λ x. fed c (stands_at p.log x)) (cond b (play_records program c (record_in program c 0 (Some m) p.vol r) rs) None) ≡ Some t → StepKept program c sent received t
    by true z = played_on (play_records program c (record_in program c 0 (Some m) p.vol r) rs) refl z
    by false z = absurd (none-some t z)

nothing-true : (program : Program) (c : ComId) (received : List Packet) (forced : List Record) (x : Packet) → Contains [] x → IsTrueOf program c forced received x × ((n : ℕ) → commits n x ≡ false)
nothing-true program c received forced x h = empty x h

by_packet : (program : Program) (c : ComId) (sent received : List Packet) (p : Pcom) (s : AtReplay program c sent received p) (packet : Packet) (t : StepResult) → IsConsistent received → Contains received packet → packet_at_replay program c p packet ≡ Some t → StepKept program c sent received t
by_packet program c sent received p s (Data m) t same here e = at (is_needed p.rest m) refl e
  where
    at : (b : Bool) → is_needed p.rest m ≡ b → cond b (option_map (λ x. fed c (stands_at p.log x)) (feed program c p.vol m p.rest)) (stays p []) ≡ Some t → StepKept program c sent received t
    at true need z = feeding program c sent received p s m p.rest t refl (content-is received m same here) need z
    at false need z = staying program c sent received p s [] t (nothing-true program c received p.log.forced) z
by_packet program c sent received p s (Fetch from to k) t same here e = staying program c sent received p s (map Data (option_to_list (Outbox.fetch p.vol.outbox (record { peer = from; k = k }) (forced_end p)))) t (fetch-true program c sent received p s (record { peer = from; k = k })) e
by_packet program c sent received p s (Stable from to k) t same here e = staying program c sent received p s [] t (nothing-true program c received p.log.forced) e
by_packet program c sent received p s (Installed from to k) t same here e = staying program c sent received p s [] t (nothing-true program c received p.log.forced) e
by_packet program c sent received p s (Op from to n place session request) t same here e = staying program c sent received p s [] t (nothing-true program c received p.log.forced) e
by_packet program c sent received p s (OpReply from to n place session value) t same here e = staying program c sent received p s [] t (nothing-true program c received p.log.forced) e
by_packet program c sent received p s (Commit from to n place session stamp) t same here e = staying program c sent received p s [] t (nothing-true program c received p.log.forced) e
by_packet program c sent received p s (Outcome from to n place session decision) t same here e = staying program c sent received p s [] t (nothing-true program c received p.log.forced) e
by_packet program c sent received p s (Drop from to n) t same here e = staying program c sent received p s [] t (nothing-true program c received p.log.forced) e

by_call : (program : Program) (c : ComId) (sent received : List Packet) (p : Pcom) (call : Call) (t : StepResult) → AtReplay program c sent (received ++ got call) p → IsConsistent (received ++ got call) → replay_step program c p call ≡ Some t → StepKept program c sent (received ++ got call) t
by_call program c sent received p (Gives handler args) t s same e = staying program c sent (received ++ []) p s [] t (nothing-true program c (received ++ []) p.log.forced) e
by_call program c sent received p Forces t s same e = staying program c sent (received ++ []) p s [] t (nothing-true program c (received ++ []) p.log.forced) e
by_call program c sent received p Checkpoints t s same e = staying program c sent (received ++ []) p s [] t (nothing-true program c (received ++ []) p.log.forced) e
by_call program c sent received p Emits t s same e = staying program c sent (received ++ []) p s [] t (nothing-true program c (received ++ []) p.log.forced) e
by_call program c sent received p Resends t s same e = staying program c sent (received ++ []) p s (needed_fetch c p.rest) t (asks-true program c (received ++ []) p.log.forced (needed p.rest)) e
by_call program c sent received p (Gets packet) t s same e = at (fits_pcom program c packet) e
  where
    at : (b : Bool) → cond b (packet_at_replay program c p packet) (stays p []) ≡ Some t → StepKept program c sent (received ++ packet ∷ []) t
    at true z = by_packet program c sent (received ++ packet ∷ []) p s packet t same (Contains-push received packet) z
    at false z = staying program c sent (received ++ packet ∷ []) p s [] t (nothing-true program c (received ++ packet ∷ []) p.log.forced) z

-- a step of a Pcom that replays
abbrev pub ReplaysKeep : Type 0
ReplaysKeep = (program : Program) (c : ComId) (sent received : List Packet) (p : Pcom) (call : Call) (t : StepResult) → NoPartEnds program → is_replaying p ≡ true → IsFor c call → IsConsistent (received ++ got call) →
    PcomLogFacts program c p.log.forced (all_of p.log) sent received → VolatileFacts program c p received → pcom_step program c p call ≡ Some t → StepKept program c sent (received ++ got call) t

pub replays_keep : ReplaysKeep
replays_keep program c sent received p call t no_end up for same logs f e =
    by_call program c sent received p call t (record {
      no_end = no_end;
      up = up;
      logs = now;
      played = f.played;
      plays = plays-receives program c received (got call) p.vol f.played p.log.forced (plays-of program c received p f none);
      all = sym whole ∙ f.rest_stands;
      none = none;
      waits = f.rest_waits;
      some = subst (λ l. IsSome (state_after program c (received ++ got call) l)) whole now.whole.replays;
    }) same (ap (λ b. cond b (replay_step program c p call) (Some (carry_out program c p (decide program c p call)))) (sym up) ∙ e)
  where
    none : p.log.buffered ≡ []
    none = f.rest_forced up

    whole : all_of p.log ≡ p.log.forced
    whole = ap (λ l. p.log.forced ++ l) (f.rest_forced up) ∙ append-nil p.log.forced

    now : PcomLogFacts program c p.log.forced (all_of p.log) sent (received ++ got call)
    now = pcoms_receive program c p.log.forced (all_of p.log) sent received (got call) same logs
