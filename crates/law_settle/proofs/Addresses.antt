-- A record keeps it so that a state names components that have a disk.
use Rattle.std.proofs.Common.{◌≡◌, refl, ℕ, Bool, true, false, cond, not, List, [], ◌∷◌, ◌++◌, ℤ, Option, Some, None}
use Rattle.std.specs.Prelude.{⊤, MatchOption, Contains, nat_lt}
use Rattle.std.specs.List.{AllByRecursion}
use Rattle.ic_base.specs.declared.messages.ComId.{ComId}
use Rattle.ic_base.specs.declared.messages.Msg.{Msg}
use Rattle.ic_base.specs.declared.messages.Request.{Request}
use Rattle.ic_base.specs.declared.messages.Send.{Send}
use Rattle.ic_base.specs.declared.messages.Session.{Session}
use Rattle.ic_base.specs.declared.messages.Level.TheVariants as levels
use Rattle.ic_base.specs.declared.played.Played.{Played}
use Rattle.ic_base.specs.declared.played.Played.TheVariants.{Asks, Ready, NeedFails, Ends}
use Rattle.ic_base.specs.declared.scenario.Program.{Program}
use Rattle.ic_base.specs.declared.record.Record.{Record}
use Rattle.ic_base.specs.declared.record.Record.TheVariants.{Take, TakeWhole, Input, Value, Outcome, Released, Shown, Checkpoint, Epoch, Decided}
use Rattle.ic_base.specs.Programs.{same_com, is_a_pcom, is_a_tcom, is_other_pcom, is_immediate, has_handler}
use Rattle.def_plain.specs.declared.world.InHand.{InHand}
use Rattle.def_state.specs.Fits.{Standing, fits, may_take}
use Rattle.def_state.specs.Hist.{hand_plays}
use Rattle.def_state.specs.Outbox
use Rattle.def_state.specs.Outbox.{Outbox, Held, next_message, send_all}
use Rattle.def_state.specs.Txn
use Rattle.def_state.specs.Txn.{Stage, Idle, Waiting, Answered, Committing, tcom_of, asking, readied, answered_in, last_of, is_idle}
use Rattle.def_state.specs.Vol.{Vol, come_to, play_hand, play_on, take_in_hand, receive, end_txn, record_in}
use Rattle.def_step.specs.Replay.{waits_for}
use Rattle.def_facts.specs.Playable.{IsPlayable}
use Rattle.law_settle.specs.Represented.{HandFits}
use Rattle.law_settle.specs.Kept.{HasDisk, NamesKept}
use Rattle.law_settle.proofs.Hands.{some_fits}
use Rattle.law_settle.proofs.Tables.{all-push, all-filter}
use Rattle.law_replay.proofs.Lists.{front, back, or-left, or-right, in-head, in-tail}

pub pcom-kept : (program : Program) (d : ComId) → is_a_pcom program d ≡ true → HasDisk program d
pcom-kept program d e = or-left (is_a_pcom program d) (is_a_tcom program d) e

pub other-kept : (program : Program) (c d : ComId) → is_other_pcom program c d ≡ true → HasDisk program d
other-kept program c d e = pcom-kept program d (front (is_a_pcom program d) (not (same_com c d)) e)

pub tcom-kept : (program : Program) (t : ComId) → is_a_tcom program t ≡ true → HasDisk program t
tcom-kept program t e = or-right (is_a_pcom program t) (is_a_tcom program t) e

-- a message that a record takes comes from such a component
abbrev pub PeerKept : Program → Record → Type 0
PeerKept program (Take from k stamp) = HasDisk program from
PeerKept program (TakeWhole from k stamp handler args) = HasDisk program from
PeerKept program _ = ⊤

pub fits_kept : (program : Program) (c : ComId) (s : Standing) (r : Record) → fits program c s r ≡ true → PeerKept program r
fits_kept program c s (Take from k stamp) e =
    other-kept program c from (front (is_other_pcom program c from) _ (back (not (is_immediate program c)) _ (back s.is_free _ (back (nat_lt s.clock stamp) (may_take program c s false from k) e))))
fits_kept program c s (TakeWhole from k stamp handler args) e =
    other-kept program c from (front (is_other_pcom program c from) _ (back (is_immediate program c) _ (back s.is_free _ (front (may_take program c s true from k) (has_handler program c handler args) (back (nat_lt s.clock stamp) _ e)))))
fits_kept program c s (Input stamp handler args) e = tt
fits_kept program c s (Value n place session value) e = tt
fits_kept program c s (Outcome stamp n abort) e = tt
fits_kept program c s (Released to k) e = tt
fits_kept program c s (Shown m) e = tt
fits_kept program c s (Checkpoint image) e = tt
fits_kept program c s (Epoch epoch) e = tt
fits_kept program c s (Decided stamp d n writes) e = tt

pub waits_kept : (program : Program) (r : Record) → PeerKept program r → MatchOption (waits_for r) ⊤ (λ x. HasDisk program x.peer)
waits_kept program (Take from k stamp) h = h
waits_kept program (TakeWhole from k stamp handler args) h = tt
waits_kept program (Input stamp handler args) h = tt
waits_kept program (Value n place session value) h = tt
waits_kept program (Outcome stamp n abort) h = tt
waits_kept program (Released to k) h = tt
waits_kept program (Shown m) h = tt
waits_kept program (Checkpoint image) h = tt
waits_kept program (Epoch epoch) h = tt
waits_kept program (Decided stamp d n writes) h = tt

-- what is sent
sends-kept : (program : Program) (c : ComId) (clock at : ℕ) (o : Outbox) (ss : List Send) → ((s : Send) → Contains ss s → HasDisk program s.to) → AllByRecursion (λ h. HasDisk program h.msg.to) o.held → AllByRecursion (λ h. HasDisk program h.msg.to) (send_all c clock at o ss).held
sends-kept program c clock at o [] h x = x
sends-kept program c clock at o (s ∷ ss) h x =
    let m : Msg = next_message c clock o s in
    sends-kept program c clock at (Outbox.add o m at) ss (λ t k. h t (in-tail s t ss k))
    (all-push (λ y. HasDisk program y.msg.to) o.held (record { msg = m; at = at; put = false; stable = false }) x (h s (in-head s ss)))

-- stages
OnKept : Program → Stage → Type 0
OnKept program s = MatchOption (tcom_of s) ⊤ (HasDisk program)

asking-kept : (program : Program) (s : Stage) (q : Request) → OnKept program s → OnKept program (asking s q)
unfolding OnKept
asking-kept program Idle q h = h
asking-kept program (Waiting t p r x) q h = h
asking-kept program (Answered t p r x) q h = h
asking-kept program (Committing t p r) q h = h

readied-kept : (program : Program) (s : Stage) → OnKept program s → OnKept program (readied s)
unfolding OnKept
readied-kept program Idle h = h
readied-kept program (Waiting t p r x) h = h
readied-kept program (Answered t p r x) h = h
readied-kept program (Committing t p r) h = h

answered-kept : (program : Program) (s : Stage) (session : Session) → OnKept program s → OnKept program (answered_in s session)
unfolding OnKept
answered-kept program Idle session h = h
answered-kept program (Waiting t p r x) session h = h
answered-kept program (Answered t p r x) session h = h
answered-kept program (Committing t p r) session h = h

last-kept : (program : Program) (x : Txn.Txn) → MatchOption x.last ⊤ (λ y. HasDisk program y.0) → OnKept program x.stage → MatchOption (last_of x (tcom_of x.stage)) ⊤ (λ y. HasDisk program y.0)
unfolding OnKept
last-kept program x last h = at (tcom_of x.stage) h
  where
    at : (o : Option ComId) → MatchOption o ⊤ (HasDisk program) → MatchOption (last_of x o) ⊤ (λ y. HasDisk program y.0)
    at None k = last
    at (Some t) k = k

-- a play
come-kept : (program : Program) (c : ComId) (at : ℕ) (v : Vol) (hand : InHand) (r : Played) → IsPlayable program → v.hand ≡ Some hand → hand_plays program c v.vars v.now hand ≡ r → HandFits program c (come_to c at v r) → NamesKept program v → NamesKept program (come_to c at v r)
unfolding OnKept
come-kept program c at v hand (Ends vars sends outs) good is e fits x = record {
  held = sends-kept program c v.clock at v.outbox sends (λ s k. other-kept program c s.to (good.sends_fit c hand.handler v.vars hand.args hand.done v.now vars sends outs e s k).0) x.held;
  receipts = x.receipts;
  last = x.last;
  open_on = x.open_on;
}
come-kept program c at v hand (Asks t q) good is e fits x = by (is_idle v.txn.stage)
  where
    by : (b : Bool) → NamesKept program (record v { txn = cond b (Txn.begin v.txn t q) (Txn.ask v.txn q) })
    by true = record { held = x.held; receipts = x.receipts; last = x.last; open_on = tcom-kept program t (good.asks_keys c hand.handler v.vars hand.args hand.done v.now t q (some_fits program c (come_to c at v (Asks t q)) hand is fits).results e).0 }
    by false = record { held = x.held; receipts = x.receipts; last = x.last; open_on = asking-kept program v.txn.stage q x.open_on }
come-kept program c at v hand (Ready t) good is e fits x = record { held = x.held; receipts = x.receipts; last = x.last; open_on = readied-kept program v.txn.stage x.open_on }
come-kept program c at v hand (NeedFails t line) good is e fits x = x

play-kept : (program : Program) (c : ComId) (at : ℕ) (v : Vol) → IsPlayable program → HandFits program c (play_on program c at v) → NamesKept program v → NamesKept program (play_on program c at v)
play-kept program c at v good fits x = by v.hand refl fits
  where
    by : (o : Option InHand) → v.hand ≡ o → HandFits program c (play_hand program c at v o) → NamesKept program (play_hand program c at v o)
    by None is f = x
    by (Some hand) is f = come-kept program c at v hand (hand_plays program c v.vars v.now hand) good is refl f x

taken-kept : (program : Program) (stamp handler : ℕ) (args : List ℤ) (v : Vol) → NamesKept program v → NamesKept program (take_in_hand v stamp handler args)
taken-kept program stamp handler args v x = record { held = x.held; receipts = x.receipts; last = x.last; open_on = x.open_on }

received-kept : (program : Program) (at k : ℕ) (from : ComId) (whole : Bool) (v : Vol) → HasDisk program from → NamesKept program v → NamesKept program (receive v from k at whole)
received-kept program at k from whole v h x = record {
  held = x.held;
  receipts = all-push (λ r. HasDisk program r.name.peer) v.inbox.receipts (record { name = record { peer = from; k = k }; at = at; covered = whole; told = levels.Nothing }) x.receipts h;
  last = x.last;
  open_on = x.open_on;
}

pub record_keeps_names : (program : Program) (c : ComId) (at : ℕ) (content : Option Msg) (v : Vol) (r : Record) → IsPlayable program → HandFits program c (record_in program c at content v r) → PeerKept program r → NamesKept program v → NamesKept program (record_in program c at content v r)
unfolding OnKept
record_keeps_names program c at None v (Take from k stamp) good fits h x = x
record_keeps_names program c at (Some m) v (Take from k stamp) good fits h x =
    play-kept program c at (take_in_hand (receive v from k at false) stamp m.handler m.args) good fits (taken-kept program stamp m.handler m.args (receive v from k at false) (received-kept program at k from false v h x))
record_keeps_names program c at content v (TakeWhole from k stamp handler args) good fits h x =
    play-kept program c at (take_in_hand (receive v from k at true) stamp handler args) good fits (taken-kept program stamp handler args (receive v from k at true) (received-kept program at k from true v h x))
record_keeps_names program c at content v (Input stamp handler args) good fits h x = play-kept program c at (take_in_hand v stamp handler args) good fits (taken-kept program stamp handler args v x)
record_keeps_names program c at content v (Value n place session value) good fits h x =
    play-kept program c at (record v { now = v.now ++ value ∷ []; txn = Txn.take_reply v.txn session }) good fits
    (record { held = x.held; receipts = x.receipts; last = x.last; open_on = answered-kept program v.txn.stage session x.open_on })
record_keeps_names program c at content v (Outcome stamp n abort) good fits h x =
    play-kept program c at (end_txn v stamp at abort) good fits (record { held = x.held; receipts = x.receipts; last = last-kept program v.txn x.last x.open_on; open_on = tt })
record_keeps_names program c at content v (Released to k) good fits h x = record { held = all-filter (λ y. HasDisk program y.msg.to) _ v.outbox.held x.held; receipts = x.receipts; last = x.last; open_on = x.open_on }
record_keeps_names program c at content v (Shown m) good fits h x = record { held = x.held; receipts = x.receipts; last = x.last; open_on = x.open_on }
record_keeps_names program c at content v (Checkpoint image) good fits h x = x
record_keeps_names program c at content v (Epoch epoch) good fits h x = x
record_keeps_names program c at content v (Decided stamp d n writes) good fits h x = x
