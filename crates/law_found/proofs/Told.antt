-- The facts of a Pcom over found logs: of each prefix of its log, and of what it put out.
use Rattle.std.proofs.Common.{◌≡◌, refl, ◌∙◌, ap, sym, subst, ℕ, ◌<◌, nat_lt, Bool, true, false, cond, ◌&&◌, ◌==◌, List, [], ◌∷◌, ◌++◌, length, ℤ, Option, Some, None, option_and_then, is_some, arith, inl, inr}
use Rattle.std.specs.Prelude.{Contains, IsTrue, IsFalse, IsSomeAnd, MatchOption, ⊤}
use Rattle.std.proofs.lemmas.List.{append-nil}
use Rattle.std.proofs.lemmas.List.Elements.{Contains-append_right}
use Rattle.std.proofs.lemmas.Option.{same_Some}
use Rattle.ic_base.specs.declared.messages.ComId.{ComId}
use Rattle.ic_base.specs.declared.messages.Msg.{Msg}
use Rattle.ic_base.specs.declared.messages.Session.{Session}
use Rattle.ic_base.specs.declared.messages.AbortCause.{AbortCause}
use Rattle.ic_base.specs.declared.messages.Decision.TheVariants.{Committed, Aborted}
use Rattle.ic_base.specs.declared.messages.Packet.{Packet}
use Rattle.ic_base.specs.declared.messages.Packet.TheVariants as packets
use Rattle.ic_base.specs.declared.played.Played.TheVariants.{Ready}
use Rattle.ic_base.specs.declared.scenario.Program.{Program}
use Rattle.ic_base.specs.declared.record.Record.{Record}
use Rattle.ic_base.specs.declared.record.Record.TheVariants.{Take, TakeWhole, Value, Outcome, Released, Checkpoint, Decided}
use Rattle.def_plain.specs.Plain.{PlainWorld}
use Rattle.def_plain.specs.History.{entry, history_of}
use Rattle.ic_base.specs.declared.messages.Act.TheVariants as acts
use Rattle.ic_base.specs.declared.messages.Entry.{Entry}
use Rattle.ic_base.specs.Programs.{same_com, is_a_pcom, is_a_tcom}
use Rattle.def_state.specs.Txn.{Stage, Idle, Waiting, Answered, Committing, tcom_of, is_awaited_at, is_idle, is_committing}
use Rattle.def_state.specs.Hist.{Hist, Begun, Contents, after, apply_all, first_hist, standing_of, opened, plays_again}
use Rattle.def_state.specs.Mirrors.{vol_of}
use Rattle.def_state.specs.Image.{image_of}
use Rattle.def_step.specs.Packets.{sender_of}
use Rattle.def_facts.specs.Logs.{Logs, log_at, Stands, contents_in, commits, has_commit, has_outcome, ends_txn, before_outcome, values_of, in_places, decisions_on, decides_txn}
use Rattle.def_facts.specs.Pcom.{state_after, begun_in, PrefixFacts, is_need, place_of, IsNeedOutcome}
use Rattle.def_facts.specs.Sound.{contents_of, state_in, IsSent}
use Rattle.law_found.specs.Past.{packets_told}
use Rattle.law_replay.proofs.Lists.{front as fst-true, clash, self-com, some-at as and-some}
use Rattle.law_replay.proofs.Lists.{back as snd-true}
use Rattle.law_replay.proofs.Growing.{states_grow, applied_twice}
use Rattle.law_replay.proofs.Truth.{opened-grows}
use Rattle.law_replay.proofs.Lists.{before-all}
use Rattle.law_replay.proofs.Lists.{in-head, equal-numbers, open-content}
use Rattle.law_replay.proofs.Lists.{contains-split}
use Rattle.law_replay.proofs.Ending.{ending, before-ending}
use Rattle.law_replay.proofs.Hands.{open_is_in_hand}
use Rattle.law_found.proofs.Walk.{Known}
use Rattle.law_found.proofs.Walking.{answers-before}
use Rattle.law_found.proofs.SoundLogs.{AtRecord, at-record, taken-from, whole-from, the-state, decision-entry}
use Rattle.law_found.proofs.Sound.{decided-com, not-aborted, decides-tcom, known}
use Rattle.law_replay.proofs.Talked.{Opened, StageIs}
use Rattle.law_replay.proofs.Talks.{states-talk}
use Rattle.law_found.proofs.Past.{in-received, from-sent, begun_of, TakesIt, Origin, origin, reply-told, outcome-told, installed-told}
use Rattle.law_replay.specs.Growing.{Grows, IsInHand}
use Rattle.def_state.specs.Hist.{hand_plays}
use Rattle.law_found.proofs.Pcoms.{Found, past_told, arrives, state-same, txn-open}
use Rattle.law_replay.proofs.Members.{any-has, mapped-keeps}

-- options ---------------------------------------------------------------------------------------------

-- the commit of a decided transaction -------------------------------------------------------------------

-- before its outcome a decided transaction commits with the answers that the log has
pub record Commits (program : Program) (logs : Logs) (w : PlainWorld) (t c : ComId) (n : ℕ) : Type 0 where
  pub begun : Begun
  pub is_begun : begun_of program logs w c n ≡ Some begun
  pub on : begun.tcom ≡ t
  pub session : Session
  pub values : List ℤ
  pub gots : values_of (log_at logs c) n ≡ in_places 0 session values
  pub some : 0 < length values
  pub plays : plays_again program c begun values ≡ Ready t
  pub state : Hist
  pub back : List Record
  pub split : log_at logs c ≡ before_outcome (log_at logs c) n ++ back
  pub is_state : after program c (contents_of w c) (before_outcome (log_at logs c) n) ≡ Some state
  pub stage : state.stage ≡ Committing t (length values) session
  pub number : state.plain.begun ≡ n

-- where a transaction commits
committing : (program : Program) (logs : Logs) (w : PlainWorld) → Found program logs w → (t c : ComId) (n : ℕ) → IsTrue (is_a_pcom program c) → (front back : List Record) → before_outcome (log_at logs c) n ≡ front → log_at logs c ≡ front ++ back → (h : Hist) → after program c (contents_of w c) front ≡ Some h →
    values_of (log_at logs c) n ≡ values_of front n → (s : Stage) → h.stage ≡ s → is_committing s ≡ true → tcom_of s ≡ Some t → h.plain.begun ≡ n → Commits program logs w t c n
committing program logs w f t c n is front back cut split h is_h same Idle st ok tc num = clash false ok refl
committing program logs w f t c n is front back cut split h is_h same (Waiting u p s q) st ok tc num = clash false ok refl
committing program logs w f t c n is front back cut split h is_h same (Answered u p s q) st ok tc num = clash false ok refl
committing program logs w f t c n is front back cut split h is_h same (Committing u p s) st ok tc num = record {
  begun = the;
  is_begun = ap (option_and_then (λ z. opened z n)) g.1 ∙ opened-grows h g.0 n the grow (ap (opened h) (sym num) ∙ z.2.0 ∙ ap (λ v. Some (record { tcom = v; handler = x.0.hand.handler; vars = h.plain.vars; args = x.0.hand.args; done = x.0.hand.done })) u-is);
  on = refl;
  session = s;
  values = h.now;
  gots = same ∙ ap (values_of front) (sym num) ∙ x.4;
  some = subst (λ i. 0 < i) (sym x.1) x.2;
  plays = x.3 ∙ ap Ready on;
  state = h;
  back = back;
  split = split ∙ ap (λ l. l ++ back) (sym cut);
  is_state = ap (after program c (contents_of w c)) cut ∙ is_h;
  stage = st ∙ ap (λ v. Committing v p s) on ∙ ap (λ i. Committing t i s) (sym x.1);
  number = num;
}
  where
    on : u ≡ t
    on = same_Some u t tc

    g : (z : Hist) × (state_in program logs w c ≡ Some z)
    g = let y = the-state program logs w f.sound c is in (y.0, y.1)

    grow : Grows h g.0
    grow = states_grow program c (contents_of w c) back h g.0 (sym (applied_twice program c (contents_of w c) (Some (first_hist program c)) front back ∙ ap (λ o. apply_all program c (contents_of w c) o back) is_h) ∙ ap (after program c (contents_of w c)) (sym split) ∙ g.1)

    x : (x : Opened program c h.plain u) × (length h.now ≡ p) × (0 < p) × (hand_plays program c h.plain.vars h.now x.hand ≡ Ready u) × (values_of front h.plain.begun ≡ in_places 0 s h.now)
    x = subst (StageIs program c (values_of front h.plain.begun) h.plain h.now) st (states-talk program c (contents_of w c) front h f.play is_h).stage

    z : (v : ComId) × (tcom_of h.stage ≡ Some v) × IsInHand v front h x.0.hand
    z = open_is_in_hand program c (contents_of w c) front h x.0.hand is_h x.0.is_hand

    u-is : z.0 ≡ t
    u-is = same_Some z.0 t (sym z.1 ∙ ap tcom_of st ∙ tc)

    the : Begun
    the = record { tcom = t; handler = x.0.hand.handler; vars = h.plain.vars; args = x.0.hand.args; done = x.0.hand.done }

pub commits-of : (program : Program) (logs : Logs) (w : PlainWorld) → Found program logs w → (t c : ComId) (n a : ℕ) → IsTrue (is_a_tcom program t) → Contains (decisions_on (log_at logs t) c n) a → Commits program logs w t c n
commits-of program logs w f t c n a is_t h = by (has_outcome (log_at logs c) n) refl
  where
    k : Contents
    k = contents_of w c

    is : IsTrue (is_a_pcom program c)
    is = decided-com program logs w f.sound t c n a is_t h

    g : (z : Hist) × (state_in program logs w c ≡ Some z)
    g = let y = the-state program logs w f.sound c is in (y.0, y.1)

    kn : Known program logs w c
    kn = known program logs w f.list f.sound c is

    this : Contains (history_of program logs) (entry t a (acts.Commit c n))
    this = decision-entry program logs t c n a is_t h

    by : (b : Bool) → has_outcome (log_at logs c) n ≡ b → Commits program logs w t c n
    by false never =
        let x = open-content (λ (q : Hist). IsTrue (is_committing q.stage) × (tcom_of q.stage ≡ Some t) × (q.plain.begun ≡ n)) (state_in program logs w c) (f.sound.unrecorded t c n a h never) in
        committing program logs w f t c n is (log_at logs c) [] (before-all (ends_txn n) (log_at logs c) never) (sym (append-nil (log_at logs c))) x.0 x.1 refl x.0.stage refl x.2.0 x.2.1 x.2.2
    by true has =
        let y = kn.tells t n a this has in
        at y.0 (contains-split (log_at logs c) (Outcome y.0 n None) y.1)
      where
        at : (s : ℕ) → ((pre : List Record) × (post : List Record) × (log_at logs c ≡ pre ++ Outcome s n None ∷ post)) → Commits program logs w t c n
        at s z =
            let end = ending program c k z.0 z.1 s n None g.0 (ap (after program c k) (sym z.2) ∙ g.1) in
            let r = at-record program c k (log_at logs c) z.0 z.1 (Outcome s n None) g.0 g.1 z.2 in
            let cut : before_outcome (log_at logs c) n ≡ z.0 = ap (λ l. before_outcome l n) z.2 ∙ before-ending z.0 z.1 s n None end.first in
            let same : r.before ≡ end.state = same_Some r.before end.state (sym r.is_before ∙ end.is_state) in
            let busy : is_idle end.state.stage ≡ false = committing-busy end.state.stage end.may in
            let o = txn-open program c k z.0 end.state end.is_state busy in
            committing program logs w f t c n is z.0 (Outcome s n None ∷ z.1) cut z.2 end.state end.is_state
            (answers-before program c k (log_at logs c) z.0 z.1 r.before r.behind g.0 s n None z.2 r.applied r.tail) end.state.stage refl end.may
            (o.2 ∙ ap Some (tcom-is s z.0 z.1 z.2 end.state end.is_state end.number o.0 o.1)) (sym end.number)
          where
            committing-busy : (q : Stage) → is_committing q ≡ true → is_idle q ≡ false
            committing-busy Idle e = clash false e refl
            committing-busy (Waiting u p v q) e = refl
            committing-busy (Answered u p v q) e = refl
            committing-busy (Committing u p v) e = refl

            tcom-is : (s : ℕ) (pre post : List Record) → log_at logs c ≡ pre ++ Outcome s n None ∷ post → (h2 : Hist) → after program c k pre ≡ Some h2 → n ≡ h2.plain.begun → (b : Begun) → opened h2 h2.plain.begun ≡ Some b → b.tcom ≡ t
            tcom-is s pre post st h2 is_h num b op =
                let x = open-content (λ (v : Begun). (at : ℕ) × Contains (decisions_on (log_at logs v.tcom) c n) at × (at < s)) (begun_of program logs w c n) (f.sound.commit_decided c pre post n s st) in
                let grow = states_grow program c k (Outcome s n None ∷ post) h2 g.0 (sym (applied_twice program c k (Some (first_hist program c)) pre (Outcome s n None ∷ post) ∙ ap (λ o. apply_all program c k o (Outcome s n None ∷ post)) is_h) ∙ ap (after program c k) (sym st) ∙ g.1) in
                let final : begun_of program logs w c n ≡ Some b = ap (option_and_then (λ z. opened z n)) g.1 ∙ opened-grows h2 g.0 n b grow (ap (opened h2) num ∙ op) in
                let same : x.0 ≡ b = same_Some x.0 b (sym x.1 ∙ final) in
                let is_x = decides-tcom program logs w f.list f.sound x.0.tcom c n x.2.0 x.2.1 in
                ap (λ (v : Begun). v.tcom) (sym same) ∙ sym (ap (λ (v : Entry). v.com) (kn.once t x.0.tcom n a x.2.0 this (decision-entry program logs x.0.tcom c n x.2.0 is_x x.2.1)))

-- a transaction whose Commit was told isn't aborted
pub commit-sent : (program : Program) (logs : Logs) (w : PlainWorld) → Found program logs w → (c : ComId) (n : ℕ) → has_commit ((past_told program logs w).sent c) n ≡ true → (t : ComId) × (a : ℕ) × IsTrue (is_a_tcom program t) × Contains (decisions_on (log_at logs t) c n) a
commit-sent program logs w f c n has =
    let x = any-has (commits n) ((past_told program logs w).sent c) has in
    let y = from-sent (packets_told program logs w) c x.0 x.1 in
    at x.0 x.2 y.1 (origin program logs w x.0 y.0)
  where
    both : (u v : Bool) → u ≡ true → v ≡ true → u && v ≡ true
    both true v p q = q
    both false v p q = p

    self : (m : ℕ) → (m == m) ≡ true
    self m = grind arith

    at : (p : Packet) → commits n p ≡ true → sender_of p ≡ c → Origin program logs w p → (t : ComId) × (a : ℕ) × IsTrue (is_a_tcom program t) × Contains (decisions_on (log_at logs t) c n) a
    at (packets.Commit from t m place session asked) e s o =
        let r = Decided o.stamp from m o.writes in
        let d = mapped-keeps (decides_txn c n) (log_at logs t) r o.stamp o.stands (ap (λ b. cond b (Some o.stamp) None) (both (same_com c from) (n == m) (ap (same_com c) s ∙ self-com c) e)) in
        (t, o.stamp, decides-tcom program logs w f.list f.sound t c n o.stamp d, d)
    at (packets.Data m) e s o = clash false e refl
    at (packets.Stable from to k) e s o = clash false e refl
    at (packets.Installed from to k) e s o = clash false e refl
    at (packets.Fetch from to k) e s o = clash false e refl
    at (packets.Op from to m place session q) e s o = clash false e refl
    at (packets.OpReply from to m place session v) e s o = clash false e refl
    at (packets.Outcome from to m place session d) e s o = clash false e refl
    at (packets.Drop from to m) e s o = clash false e refl

pub not-committed : {B : Type 0} (program : Program) (logs : Logs) (w : PlainWorld) → Found program logs w → (c : ComId) (n stamp : ℕ) (cause : AbortCause) → Contains (log_at logs c) (Outcome stamp n (Some cause)) → has_commit ((past_told program logs w).sent c) n ≡ true → B
not-committed program logs w f c n stamp cause h has = let x = commit-sent program logs w f c n has in not-aborted program logs w f.sound x.0 c n x.1 stamp cause x.2 x.3 h

-- the facts of each prefix --------------------------------------------------------------------------------

stamped-sent : (program : Program) (logs : Logs) (w : PlainWorld) → Found program logs w → (c s : ComId) (k stamp : ℕ) (Says : Msg → Type 0) → TakesIt (log_at logs c) s k → IsTrue (is_a_pcom program s) → IsSent (state_in program logs w s) c k stamp Says →
    (m : Msg) × (contents_in ((past_told program logs w).received c) s k ≡ Some m) × (m.stamp < stamp) × Says m
stamped-sent program logs w f c s k stamp Says takes is_s e =
    let x = open-content (λ (q : Hist). (m : Msg) × Contains q.sent m × (m.to ≡ c) × (m.k ≡ k) × (m.stamp < stamp) × Says m) (state_in program logs w s) e in
    let y = x.2 in
    (y.0, arrives program logs w f c s k takes is_s x.0 x.1 y.0 y.1 y.2 y.3, y.4, y.5)

pub prefix-facts : (program : Program) (logs : Logs) (w : PlainWorld) → Found program logs w → (c : ComId) → IsTrue (is_a_pcom program c) → PrefixFacts program c (log_at logs c) ((past_told program logs w).sent c) ((past_told program logs w).received c)
prefix-facts program logs w f c is = record {
  replays = ap is_some (state-same program logs w f c is (log_at logs c) [] (sym (append-nil (log_at logs c))) ∙ g.1);
  take_received = take_received;
  whole_received = whole_received;
  image_is = λ pre post image st. subst (λ o. IsSomeAnd o (λ h. image ≡ image_of (vol_of h))) (sym (state-same program logs w f c is pre (Checkpoint image ∷ post) st)) (f.sound.image_is c pre post image st);
  value_received = value_received;
  commit_received = commit_received;
  abort_received = abort_received;
  release_received = λ pre post d k st. in-received (packets_told program logs w) c (packets.Installed d c k) (installed-told program logs w c d k (stands pre post (Released d k) st)) refl;
  need_recorded = λ pre post n place session value r st.
      subst (λ o. IsSomeAnd o (λ h. MatchOption (standing_of program c h).failed ⊤ (λ line. IsNeedOutcome n line r))) (sym (state-same program logs w f c is (pre ++ Value n place session value ∷ []) (r ∷ post) st)) (f.sound.need_recorded c pre post n place session value r st);
}
  where
    k : Contents
    k = contents_of w c

    received : List Packet
    received = (past_told program logs w).received c

    g : (z : Hist) × (state_in program logs w c ≡ Some z)
    g = let y = the-state program logs w f.sound c is in (y.0, y.1)

    stands : (pre post : List Record) (r : Record) → Stands (log_at logs c) pre r post → Contains (log_at logs c) r
    stands pre post r st = subst (λ l. Contains l r) (sym st) (Contains-append_right pre (r ∷ post) r (in-head r post))

    take_received : (pre post : List Record) (s : ComId) (i stamp : ℕ) → Stands (log_at logs c) pre (Take s i stamp) post → IsSomeAnd (contents_in received s i) (λ m. m.stamp < stamp)
    take_received pre post s i stamp st =
        let h = stands pre post (Take s i stamp) st in
        let x = stamped-sent program logs w f c s i stamp (λ m. ⊤) (inl (stamp, h)) (taken-from program c k (log_at logs c) g.0 s i stamp g.1 h) (f.sound.take_sent c s pre post i stamp st) in
        and-some (λ (m : Msg). m.stamp < stamp) (contents_in received s i) x.0 x.1 x.2

    whole_received : (pre post : List Record) (s : ComId) (i stamp handler : ℕ) (args : List ℤ) → Stands (log_at logs c) pre (TakeWhole s i stamp handler args) post → IsSomeAnd (contents_in received s i) (λ m. (m.stamp < stamp) × (m.handler ≡ handler) × (m.args ≡ args))
    whole_received pre post s i stamp handler args st =
        let h = stands pre post (TakeWhole s i stamp handler args) st in
        let x = stamped-sent program logs w f c s i stamp (λ m. (m.handler ≡ handler) × (m.args ≡ args)) (inr (stamp, handler, args, h)) (whole-from program c k (log_at logs c) g.0 s i stamp handler args g.1 h) (f.sound.whole_sent c s pre post i stamp handler args st) in
        and-some (λ (m : Msg). (m.stamp < stamp) × (m.handler ≡ handler) × (m.args ≡ args)) (contents_in received s i) x.0 x.1 (x.2, x.3.0, x.3.1)

    -- how the transaction of a record was begun, before it and at last
    begun-there : (pre post : List Record) (r : Record) (n : ℕ) → Stands (log_at logs c) pre r post → (x : AtRecord program c k pre r post g.0) → n ≡ x.before.plain.begun → is_idle x.before.stage ≡ false → (b : Begun) × (begun_in program c received pre n ≡ Some b) × (begun_of program logs w c n ≡ Some b)
    begun-there pre post r n st x num busy =
        let o = txn-open program c k pre x.before x.is_before busy in
        let here : opened x.before n ≡ Some o.0 = ap (opened x.before) num ∙ o.1 in
        let grow = states_grow program c k (r ∷ post) x.before g.0 (ap (λ z. apply_all program c k z post) x.applied ∙ x.tail) in
        (o.0, ap (option_and_then (λ h. opened h n)) (state-same program logs w f c is pre (r ∷ post) st ∙ x.is_before) ∙ here, ap (option_and_then (λ h. opened h n)) g.1 ∙ opened-grows x.before g.0 n o.0 grow here)

    awaited-busy : (s : Stage) (place : ℕ) (session : Session) → is_awaited_at s place session ≡ true → is_idle s ≡ false
    awaited-busy Idle place session e = clash false e refl
    awaited-busy (Waiting t p s q) place session e = refl
    awaited-busy (Answered t p s q) place session e = refl
    awaited-busy (Committing t p s) place session e = refl

    committing-busy : (q : Stage) → is_committing q ≡ true → is_idle q ≡ false
    committing-busy Idle e = clash false e refl
    committing-busy (Waiting u p v q) e = refl
    committing-busy (Answered u p v q) e = refl
    committing-busy (Committing u p v) e = refl

    value_received : (pre post : List Record) (n place : ℕ) (session : Session) (value : ℤ) → Stands (log_at logs c) pre (Value n place session value) post → IsSomeAnd (begun_in program c received pre n) (λ b. Contains received (packets.OpReply b.tcom c n place session value))
    value_received pre post n place session value st =
        let x = at-record program c k (log_at logs c) pre post (Value n place session value) g.0 g.1 st in
        let y = begun-there pre post (Value n place session value) n st x (equal-numbers n x.before.plain.begun (fst-true (n == x.before.plain.begun) (is_awaited_at x.before.stage place session) x.fit)) (awaited-busy x.before.stage place session (snd-true (n == x.before.plain.begun) (is_awaited_at x.before.stage place session) x.fit)) in
        and-some (λ (b : Begun). Contains received (packets.OpReply b.tcom c n place session value)) (begun_in program c received pre n) y.0 y.1
        (in-received (packets_told program logs w) c (packets.OpReply y.0.tcom c n place session value) (reply-told program logs w c n place session value y.0 (stands pre post (Value n place session value) st) y.2) refl)

    commit_received : (pre post : List Record) (n stamp : ℕ) → Stands (log_at logs c) pre (Outcome stamp n None) post →
        IsSomeAnd (begun_in program c received pre n) (λ b. (decided : ℕ) × (place : ℕ) × (session : Option Session) × (decided < stamp) × Contains received (packets.Outcome b.tcom c n place session (Committed decided)))
    commit_received pre post n stamp st =
        let x = at-record program c k (log_at logs c) pre post (Outcome stamp n None) g.0 g.1 st in
        let fit = snd-true (nat_lt x.before.clock stamp) ((n == x.before.plain.begun) && is_committing x.before.stage) x.fit in
        let y = begun-there pre post (Outcome stamp n None) n st x (equal-numbers n x.before.plain.begun (fst-true (n == x.before.plain.begun) (is_committing x.before.stage) fit)) (committing-busy x.before.stage (snd-true (n == x.before.plain.begun) (is_committing x.before.stage) fit)) in
        let d = open-content (λ (v : Begun). (at : ℕ) × Contains (decisions_on (log_at logs v.tcom) c n) at × (at < stamp)) (begun_of program logs w c n) (f.sound.commit_decided c pre post n stamp st) in
        let same : d.0 ≡ y.0 = same_Some d.0 y.0 (sym d.1 ∙ y.2) in
        and-some (λ (b : Begun). (decided : ℕ) × (place : ℕ) × (session : Option Session) × (decided < stamp) × Contains received (packets.Outcome b.tcom c n place session (Committed decided))) (begun_in program c received pre n) y.0 y.1
        (d.2.0, 0, None, d.2.2, in-received (packets_told program logs w) c (packets.Outcome y.0.tcom c n 0 None (Committed d.2.0)) (outcome-told program logs w c n stamp d.2.0 y.0 (stands pre post (Outcome stamp n None) st) y.2 (subst (λ (v : Begun). Contains (decisions_on (log_at logs v.tcom) c n) d.2.0) same d.2.1)) refl)

    abort_received : (pre post : List Record) (n stamp : ℕ) (cause : AbortCause) → Stands (log_at logs c) pre (Outcome stamp n (Some cause)) post → IsFalse (is_need cause) → IsTrue (has_commit ((past_told program logs w).sent c) n) →
        IsSomeAnd (option_and_then (λ h. place_of h.stage) (state_after program c received pre)) (λ p. Contains received (packets.Outcome p.tcom c n p.place p.session (Aborted cause)))
    abort_received pre post n stamp cause st need has =
        not-committed program logs w f c n stamp cause (stands pre post (Outcome stamp n (Some cause)) st) has
