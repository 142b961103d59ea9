-- The records of a Pcom touch it in the order of the history, and a message is sent before it is taken.
use Rattle.std.proofs.Common.{◌≡◌, refl, ◌∙◌, ap, sym, subst, ℕ, ◌≤◌, ◌<◌, nat_lt, Bool, true, false, ◌&&◌, ◌||◌, ◌==◌, List, [], ◌∷◌, ◌++◌, filter_map, Option, Some, None, arith, ◌⊎◌, inl, inr}
use Rattle.std.specs.Prelude.{Contains, IsSomeAnd, IsTrue, MatchOption, ⊤}
use Rattle.std.specs.List.{cons_option}
use Rattle.std.proofs.lemmas.List.{append_assoc}
use Rattle.std.proofs.lemmas.List.Elements.{Contains-append_right}
use Rattle.std.proofs.lemmas.List.Folds.{list_any-append}
use Rattle.std.proofs.lemmas.Option.{same_Some}
use Rattle.ic_base.specs.declared.messages.ComId.{ComId}
use Rattle.ic_base.specs.declared.messages.Entry.{Entry}
use Rattle.ic_base.specs.declared.messages.Msg.{Msg}
use Rattle.ic_base.specs.declared.messages.Act.TheVariants as acts
use Rattle.ic_base.specs.declared.messages.Session.{Session}
use Rattle.ic_base.specs.declared.messages.Decision.TheVariants.{Committed}
use Rattle.ic_base.specs.declared.messages.Packet.{Packet}
use Rattle.ic_base.specs.declared.messages.Packet.TheVariants as packets
use Rattle.ic_base.specs.declared.scenario.Program.{Program}
use Rattle.ic_base.specs.declared.record.Record.{Record}
use Rattle.ic_base.specs.declared.record.Record.TheVariants.{Take, TakeWhole, Input, Value, Outcome, Released, Shown, Checkpoint, Epoch, Decided}
use Rattle.ic_base.specs.Programs.{is_a_pcom, is_a_tcom}
use Rattle.def_plain.specs.History.{entry, pcom_entry, is_before}
use Rattle.def_state.specs.Hist.{Hist, Begun, Contents, apply, apply_all, after, first_hist, standing_of}
use Rattle.def_facts.specs.Logs.{Logs, log_at, Stands, contents_in, ends_txn, has_outcome, before_outcome, decisions_on}
use Rattle.def_facts.specs.Pcom.{state_after, begun_in, IsTrueOf}
use Rattle.def_facts.specs.Tcom.{is_answer}
use Rattle.def_facts.specs.World.{IsBelow, Past}
use Rattle.law_replay.specs.Closing.{IsClosed}
use Rattle.law_replay.specs.Growing.{record_stamp}
use Rattle.law_replay.proofs.Committing.{outcomes_close}
use Rattle.law_replay.proofs.Ending.{Ending, ending, before-ending, idle-ends}
use Rattle.law_replay.proofs.Growing.{apply_none, prefixes_replay}
use Rattle.law_replay.proofs.Lists.{none-some, some-of, open-content, in-head, contains-split}
use Rattle.law_replay.proofs.Sends.{stamp-moves, stamps_are_below, messages_have_moments}
use Rattle.law_sound.specs.Order.{Explains, touching, commit_of, Rises, TouchesRise, SendsStandBefore, WasSent}
use Rattle.law_sound.proofs.Deciding.{commits_are_decisions}
use Rattle.law_sound.proofs.Sent.{contents_agree}
use Rattle.law_replay.proofs.Members.{mapped-has}

-- a Tcom puts out answers and outcomes
pub by-tcom : (program : Program) (found logs : Logs) (past : Past) → Explains program found logs past → (s : ComId) (p : Packet) → is_answer p ≡ true → Contains (past.sent s) p → IsTrue (is_a_tcom program s)
by-tcom program found logs past f s p answer x = at (is_a_tcom program s) refl (is_a_pcom program s) refl
  where
    never : {B : Type 0} (q : Packet) (received : List Packet) → is_answer q ≡ true → IsTrueOf program s (log_at logs s) received q → B
    never (packets.OpReply from to n place session value) received e t = absurd t
    never (packets.Outcome from to n place session d) received e t = absurd t
    never (packets.Data m) received e t = absurd (cc)
    never (packets.Stable from to k) received e t = absurd (cc)
    never (packets.Installed from to k) received e t = absurd (cc)
    never (packets.Fetch from to k) received e t = absurd (cc)
    never (packets.Op from to n place session q) received e t = absurd (cc)
    never (packets.Commit from to n place session stamp) received e t = absurd (cc)
    never (packets.Drop from to n) received e t = absurd (cc)

    nothing : {B : Type 0} → past.sent s ≡ [] → B
    nothing e = absurd (none (subst (λ l. Contains l p) e x))
      where
        none : Contains [] p → ⊥
        none (k, lt, is) = omega (arith, lt)

    at : (a : Bool) → is_a_tcom program s ≡ a → (b : Bool) → is_a_pcom program s ≡ b → IsTrue (is_a_tcom program s)
    at true is b bs = is
    at false is true bs = never p (past.received s) answer ((f.pcoms s bs).lasting.packets_true p x)
    at false is false bs = nothing (f.others s bs is).1

-- the decision that a recorded commit tells
pub record Told (program : Program) (logs : Logs) (c : ComId) (n stamp : ℕ) : Type 0 where
  pub tcom : ComId
  pub at : ℕ
  pub is_tcom : IsTrue (is_a_tcom program tcom)
  pub decision : Contains (decisions_on (log_at logs tcom) c n) at
  pub below : at < stamp
  pub commit : commit_of program logs c n ≡ Some (entry tcom at (acts.Commit c n))

pub told : (program : Program) (found logs : Logs) (past : Past) → Explains program found logs past → (c : ComId) → IsTrue (is_a_pcom program c) → (pre post : List Record) (n stamp : ℕ) → Stands (log_at logs c) pre (Outcome stamp n None) post → Told program logs c n stamp
told program found logs past f c is pre post n stamp st =
    let y = open-content (λ (b : Begun). (decided : ℕ) × (place : ℕ) × (session : Option Session) × (decided < stamp) × Contains (past.received c) (packets.Outcome b.tcom c n place session (Committed decided))) (begun_in program c (past.received c) pre n) ((f.pcoms c is).whole.commit_received pre post n stamp st) in
    let b = y.0 in
    let sent = (f.network c (packets.Outcome b.tcom c n y.2.1 y.2.2 (Committed y.2.0)) y.2.4).1 in
    let is_tcom = by-tcom program found logs past f b.tcom (packets.Outcome b.tcom c n y.2.1 y.2.2 (Committed y.2.0)) refl sent in
    let d = (f.tcoms b.tcom is_tcom).1.commits_stand c n y.2.1 y.2.2 y.2.0 sent in
    record { tcom = b.tcom; at = y.2.0; is_tcom = is_tcom; decision = d; below = y.2.3; commit = commits_are_decisions program found logs past f b.tcom c n y.2.0 is_tcom d }

-- how a record touches: by its own entry, or by telling a commit
abbrev pub Touched : Program → Logs → ComId → Record → Entry → Type 0
Touched program logs c r e =
    ((pcom_entry c r ≡ Some e) × (record_stamp r ≡ Some e.stamp) × (e.com ≡ c)) ⊎ ((stamp : ℕ) × (n : ℕ) × (r ≡ Outcome stamp n None) × (commit_of program logs c n ≡ Some e))

pub touched : (program : Program) (logs : Logs) (c : ComId) (r : Record) (e : Entry) → touching program logs c r ≡ Some e → Touched program logs c r e
touched program logs c (Take from k stamp) e is = inl (is, ap (λ (x : Entry). Some x.stamp) (same_Some (entry c stamp (acts.Take from k)) e is), ap (λ (x : Entry). x.com) (sym (same_Some (entry c stamp (acts.Take from k)) e is)))
touched program logs c (TakeWhole from k stamp handler args) e is = inl (is, ap (λ (x : Entry). Some x.stamp) (same_Some (entry c stamp (acts.Take from k)) e is), ap (λ (x : Entry). x.com) (sym (same_Some (entry c stamp (acts.Take from k)) e is)))
touched program logs c (Input stamp handler args) e is = inl (is, ap (λ (x : Entry). Some x.stamp) (same_Some (entry c stamp (acts.Input handler args)) e is), ap (λ (x : Entry). x.com) (sym (same_Some (entry c stamp (acts.Input handler args)) e is)))
touched program logs c (Outcome stamp n None) e is = inr (stamp, n, refl, is)
touched program logs c (Outcome stamp n (Some cause)) e is = inl (is, ap (λ (x : Entry). Some x.stamp) (same_Some (entry c stamp (acts.Abort n)) e is), ap (λ (x : Entry). x.com) (sym (same_Some (entry c stamp (acts.Abort n)) e is)))
touched program logs c (Value n place session value) e is = none-some e is
touched program logs c (Released to k) e is = none-some e is
touched program logs c (Shown m) e is = none-some e is
touched program logs c (Checkpoint image) e is = none-some e is
touched program logs c (Epoch epoch) e is = none-some e is
touched program logs c (Decided stamp d n writes) e is = none-some e is

-- the entry isn't above the record's own stamp
stamped : (program : Program) (found logs : Logs) (past : Past) → Explains program found logs past → (c : ComId) → IsTrue (is_a_pcom program c) → (pre post : List Record) (r : Record) (e : Entry) → Stands (log_at logs c) pre r post → Touched program logs c r e →
    (s : ℕ) × (record_stamp r ≡ Some s) × (e.stamp ≤ s)
stamped program found logs past f c is pre post r e st (inl x) = (e.stamp, x.1, self e.stamp)
  where
    self : (n : ℕ) → n ≤ n
    self n = omega arith
stamped program found logs past f c is pre post r e st (inr x) =
    let t = told program found logs past f c is pre post x.1 x.0 (subst (λ z. Stands (log_at logs c) pre z post) x.2 st) in
    let same : entry t.tcom t.at (acts.Commit c x.1) ≡ e = same_Some (entry t.tcom t.at (acts.Commit c x.1)) e (sym t.commit ∙ x.3) in
    let stamp : t.at ≡ e.stamp = ap (λ (z : Entry). z.stamp) same in
    (x.0, ap record_stamp x.2, omega (arith, t.below, stamp))

below-before : (s : ℕ) (c : ComId) (d : ℕ) (t : ComId) (e x : Entry) → e.stamp ≡ s → e.com ≡ c → x.stamp ≡ d → x.com ≡ t → IsBelow s c d t → is_before e x ≡ true
below-before s c d t e x a b p q (inl lt) = ap (λ v. v || ((e.stamp == x.stamp) && nat_lt e.com.0 x.com.0)) (less e.stamp x.stamp (omega (arith, lt, a, p)))
  where
    less : (m n : ℕ) → m < n → nat_lt m n ≡ true
    less m n l = grind arith
below-before s c d t e x a b p q (inr y) =
    let one : (e.stamp == x.stamp) ≡ true = equal e.stamp x.stamp (a ∙ y.0 ∙ sym p) in
    let two : nat_lt e.com.0 x.com.0 ≡ true = less e.com.0 x.com.0 (subst (λ (z : ComId). z.0 < x.com.0) (sym b) (subst (λ (z : ComId). c.0 < z.0) (sym q) y.1)) in
    last (nat_lt e.stamp x.stamp) (e.stamp == x.stamp) (nat_lt e.com.0 x.com.0) one two
  where
    less : (m n : ℕ) → m < n → nat_lt m n ≡ true
    less m n l = grind arith

    equal : (m n : ℕ) → m ≡ n → (m == n) ≡ true
    equal m n l = grind arith

    last : (u v w : Bool) → v ≡ true → w ≡ true → u || (v && w) ≡ true
    last true v w g h = refl
    last false true w g h = h
    last false false w g h = absurd (cc)

stamp-before : (e x : Entry) → e.stamp < x.stamp → is_before e x ≡ true
stamp-before e x lt = ap (λ v. v || ((e.stamp == x.stamp) && nat_lt e.com.0 x.com.0)) (less e.stamp x.stamp lt)
  where
    less : (m n : ℕ) → m < n → nat_lt m n ≡ true
    less m n l = grind arith

-- two records of a log, one behind the other
pub pair : (program : Program) (found logs : Logs) (past : Past) → Explains program found logs past → (c : ComId) → IsTrue (is_a_pcom program c) → (pre mid post : List Record) (r q : Record) (e x : Entry) →
    log_at logs c ≡ pre ++ r ∷ (mid ++ q ∷ post) → touching program logs c r ≡ Some e → touching program logs c q ≡ Some x → is_before e x ≡ true
pair program found logs past f c is pre mid post r q e x log te tx = by (touched program logs c q x tx)
  where
    k : Contents
    k = contents_in (past.received c)

    g : (z : Hist) × (after program c k (log_at logs c) ≡ Some z)
    g = some-of (after program c k (log_at logs c)) (f.pcoms c is).whole.replays

    first : Touched program logs c r e
    first = touched program logs c r e te

    s : (n : ℕ) × (record_stamp r ≡ Some n) × (e.stamp ≤ n)
    s = stamped program found logs past f c is pre (mid ++ q ∷ post) r e log first

    h : (z : Hist) × (after program c k pre ≡ Some z) × (apply_all program c k (Some z) (r ∷ (mid ++ q ∷ post)) ≡ Some g.0)
    h = prefixes_replay program c k pre (r ∷ (mid ++ q ∷ post)) g.0 (sym (ap (after program c k) log) ∙ g.1)

    -- behind r the clock is at its stamp
    later : (n : ℕ) → record_stamp q ≡ Some n → e.stamp < n
    later n own = at (apply program c k h.0 r) refl h.2
      where
        at : (o : Option Hist) → apply program c k h.0 r ≡ o → apply_all program c k o (mid ++ q ∷ post) ≡ Some g.0 → e.stamp < n
        at None was z = none-some g.0 (sym (apply_none program c k (mid ++ q ∷ post)) ∙ z)
        at (Some y) was z =
            let m = stamp-moves program c k h.0 y r s.0 was s.1 in
            let b = stamps_are_below program c k (mid ++ q ∷ post) y g.0 q n z (Contains-append_right mid (q ∷ post) q (in-head q post)) own in
            omega (arith, s.2, m.1, b.0)

    front : List Record
    front = pre ++ r ∷ mid

    whole : log_at logs c ≡ front ++ q ∷ post
    whole = log ∙ sym (append_assoc pre (r ∷ mid) (q ∷ post))

    in-front : Contains front r
    in-front = Contains-append_right pre (r ∷ mid) r (in-head r mid)

    commits : (stamp n : ℕ) → q ≡ Outcome stamp n None → commit_of program logs c n ≡ Some x → is_before e x ≡ true
    commits stamp n same cx = how first
      where
        st : Stands (log_at logs c) front (Outcome stamp n None) post
        st = subst (λ z. Stands (log_at logs c) front z post) same whole

        t : Told program logs c n stamp
        t = told program found logs past f c is front post n stamp st

        it : entry t.tcom t.at (acts.Commit c n) ≡ x
        it = same_Some (entry t.tcom t.at (acts.Commit c n)) x (sym t.commit ∙ cx)

        end : Ending program c k front stamp n None
        end = ending program c k front post stamp n None g.0 (sym (ap (after program c k) st) ∙ g.1)

        before : before_outcome (log_at logs c) n ≡ front
        before = ap (λ l. before_outcome l n) st ∙ before-ending front post stamp n None end.first

        how : Touched program logs c r e → is_before e x ≡ true
        how (inl y) =
            below-before e.stamp c t.at t.tcom e x refl y.2 (ap (λ (z : Entry). z.stamp) (sym it)) (ap (λ (z : Entry). z.com) (sym it))
            (subst (λ o. MatchOption o ⊤ (λ z. IsBelow z.stamp c t.at t.tcom)) y.0 (f.in_order.own t.tcom c n t.at t.decision r (subst (λ l. Contains l r) (sym before) in-front)))
        how (inr y) =
            let u = told program found logs past f c is pre (mid ++ q ∷ post) y.1 y.0 (subst (λ z. Stands (log_at logs c) pre z (mid ++ q ∷ post)) y.2 log) in
            let me : entry u.tcom u.at (acts.Commit c y.1) ≡ e = same_Some (entry u.tcom u.at (acts.Commit c y.1)) e (sym u.commit ∙ y.3) in
            below-before u.at u.tcom t.at t.tcom e x (ap (λ (z : Entry). z.stamp) (sym me)) (ap (λ (z : Entry). z.com) (sym me)) (ap (λ (z : Entry). z.stamp) (sym it)) (ap (λ (z : Entry). z.com) (sym it))
            (f.in_order.earlier t.tcom u.tcom c n y.1 t.at u.at t.decision u.decision (smaller y.0 y.1 y.2))
          where
            self : (m : ℕ) → (m == m) ≡ true
            self m = grind arith

            right : (a b v : Bool) → b ≡ true → a || (b || v) ≡ true
            right true b v z = refl
            right false b v z = ap (λ w. w || v) z

            smaller : (stamp2 m : ℕ) → r ≡ Outcome stamp2 m None → m < n
            smaller stamp2 m is_r = closed (outcomes_close program c k front m (first_hist program c) end.state end.is_state has)
              where
                has : has_outcome front m ≡ true
                has = list_any-append (ends_txn m) pre (r ∷ mid) ∙ right (has_outcome pre m) (ends_txn m r) (has_outcome mid m) (ap (ends_txn m) is_r ∙ self m)

                closed : IsClosed m end.state → m < n
                closed (inl lt) = omega (arith, lt, end.number)
                closed (inr z) = idle-ends end.state.stage (standing_of program c end.state).failed None z.1 end.may

    by : Touched program logs c q x → is_before e x ≡ true
    by (inl y) = stamp-before e x (later x.stamp y.1)
    by (inr y) = commits y.0 y.1 y.2 y.3

rises : (program : Program) (found logs : Logs) (past : Past) → Explains program found logs past → (c : ComId) → IsTrue (is_a_pcom program c) → (pre rest : List Record) → log_at logs c ≡ pre ++ rest → Rises (filter_map (touching program logs c) rest)
rises program found logs past f c is pre [] log = tt
rises program found logs past f c is pre (r ∷ rest) log = at (touching program logs c r) refl (rises program found logs past f c is (pre ++ r ∷ []) rest (log ∙ sym (append_assoc pre (r ∷ []) rest)))
  where
    at : (o : Option Entry) → touching program logs c r ≡ o → Rises (filter_map (touching program logs c) rest) → Rises (cons_option o (filter_map (touching program logs c) rest))
    at None te more = more
    at (Some e) te more = (behind, more)
      where
        behind : (x : Entry) → Contains (filter_map (touching program logs c) rest) x → is_before e x ≡ true
        behind x h =
            let z = mapped-has (touching program logs c) rest x h in
            let w = contains-split rest z.0 z.1 in
            pair program found logs past f c is pre w.0 w.1 r z.0 e x (log ∙ ap (λ l. pre ++ r ∷ l) w.2) te z.2

pub touches_rise : TouchesRise
touches_rise program found logs past f c is = rises program found logs past f c is [] (log_at logs c) refl

-- where the message that was received was sent
abbrev pub SentBefore : Program → Logs → Past → ComId → ComId → ℕ → ℕ → Msg → Type 0
SentBefore program logs past c s k stamp m =
    (front : List Record) × (back : List Record) × (log_at logs s ≡ front ++ back)
    × IsSomeAnd (state_after program s (past.received s) front) (λ h. Contains h.sent m)
    × ((r : Record) → Contains front r → MatchOption (touching program logs s r) ⊤ (λ e. e.stamp < stamp))

pub sent-before : (program : Program) (found logs : Logs) (past : Past) → Explains program found logs past → (c s : ComId) (k stamp : ℕ) (Says : Msg → Type 0) → (m : WasSent program logs past c s k stamp Says) → SentBefore program logs past c s k stamp m.0
sent-before program found logs past f c s k stamp Says m =
    (z.0, z.1, z.3, subst (λ o. IsSomeAnd o (λ (h : Hist). Contains h.sent m.0)) (sym z.4) z.5, below)
  where
    y : (h : Hist) × (state_after program s (past.received s) (log_at logs s) ≡ Some h) × Contains h.sent m.0
    y = open-content (λ (h : Hist). Contains h.sent m.0) (state_after program s (past.received s) (log_at logs s)) m.8

    z : (front : List Record) × (back : List Record) × (h : Hist) × (log_at logs s ≡ front ++ back) × (after program s (contents_in (past.received s)) front ≡ Some h) × Contains h.sent m.0 × (h.clock ≡ m.0.stamp)
    z = messages_have_moments program s (contents_in (past.received s)) (log_at logs s) y.0 m.0 y.1 y.2

    below : (r : Record) → Contains z.0 r → MatchOption (touching program logs s r) ⊤ (λ e. e.stamp < stamp)
    below r h = at (touching program logs s r) refl
      where
        at : (o : Option Entry) → touching program logs s r ≡ o → MatchOption o ⊤ (λ e. e.stamp < stamp)
        at None te = tt
        at (Some e) te =
            let w = contains-split z.0 r h in
            let t = stamped program found logs past f s m.7 w.0 (w.1 ++ z.1) r e (z.3 ∙ ap (λ l. l ++ z.1) w.2 ∙ append_assoc w.0 (r ∷ w.1) z.1) (touched program logs s r e te) in
            let b = stamps_are_below program s (contents_in (past.received s)) z.0 (first_hist program s) z.2 r t.0 z.4 h t.1 in
            omega (arith, t.2, b.1, z.6, m.5)

pub sends_stand_before : SendsStandBefore
sends_stand_before program found logs past f c s pre post k stamp is st =
    let m = contents_agree program found logs past f c s pre post k stamp is st in
    let z = sent-before program found logs past f c s k stamp (λ x. ⊤) m in
    (z.0, z.1, m.0, z.2, m.1, m.3, m.4, z.3, z.4)
