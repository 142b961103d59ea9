-- The facts of a Tcom over found logs, and the whole.
use Rattle.std.proofs.Common.{◌≡◌, refl, ◌∙◌, ap, sym, subst, ℕ, suc, ◌+◌, ◌<◌, ◌≤◌, Bool, true, false, cond, ◌&&◌, ◌==◌, List, ◌∷◌, ◌++◌, length, map, filter_map, take, slice_get, ℤ, Some, None, option_map, option_and_then, arith, ◌⊎◌, inl, inr}
use Rattle.std.specs.Prelude.{Contains, IsTrue, IsSomeAnd}
use Rattle.std.proofs.lemmas.List.{append_assoc}
use Rattle.std.proofs.lemmas.List.Elements.{Contains-append_right}
use Rattle.std.proofs.lemmas.Option.{same_Some, slice_get_within as get-less}
use Rattle.ic_base.specs.declared.limits.TheConstants.{REQUESTS}
use Rattle.ic_base.specs.declared.messages.ComId.{ComId}
use Rattle.ic_base.specs.declared.messages.Request.{Request}
use Rattle.ic_base.specs.declared.messages.Packet.{Packet}
use Rattle.ic_base.specs.declared.messages.Packet.TheVariants as packets
use Rattle.ic_base.specs.declared.played.Played.{Played}
use Rattle.ic_base.specs.declared.played.Played.TheVariants.{Asks}
use Rattle.ic_base.specs.declared.scenario.Program.{Program}
use Rattle.ic_base.specs.declared.record.Record.{Record}
use Rattle.ic_base.specs.declared.record.Record.TheVariants.{Value, Decided}
use Rattle.def_plain.specs.Plain.{PlainWorld}
use Rattle.def_plain.specs.History.{entry}
use Rattle.ic_base.specs.declared.messages.Act.TheVariants as acts
use Rattle.ic_base.specs.declared.messages.Entry.{Entry}
use Rattle.ic_base.specs.Programs.{same_com, is_a_pcom, is_a_tcom}
use Rattle.def_state.specs.Hist.{Begun, after, apply_all, first_hist, opened, plays_again}
use Rattle.def_step.specs.Tcom.{Book, book_of, first_book}
use Rattle.def_facts.specs.Logs.{Logs, log_at, Stands, values_of, Got, in_places, decisions_on, decides_txn}
use Rattle.def_facts.specs.Sound.{contents_of}
use Rattle.law_found.specs.Past.{packets_told, session_at}
use Rattle.law_replay.proofs.Lists.{none-some, self-com, some-at as and-some, get-within}
use Rattle.law_replay.proofs.Growing.{states_grow, applied_twice}
use Rattle.law_replay.proofs.Truth.{opened-grows}
use Rattle.law_replay.proofs.Lists.{in-head, same-com}
use Rattle.law_replay.proofs.Lists.{contains-split}
use Rattle.law_replay.proofs.Hands.{open_is_in_hand}
use Rattle.law_found.proofs.Runs.{then-is}
use Rattle.law_found.proofs.SoundLogs.{the-state, the-ledger-book}
use Rattle.law_found.proofs.Sound.{decided-com}
use Rattle.law_replay.specs.Asking.{AreAsked}
use Rattle.law_found.proofs.Past.{in-received, from-sent, begun_of, origin, op-told, commit-told}
use Rattle.law_found.proofs.Pcoms.{Found, past_told, value-in, value-stands, values-are, Asked, asked-of}
use Rattle.law_found.proofs.Told.{Commits, commits-of}
use Rattle.std.specs.Prelude.{Ok, Result, Err, slice_set}
use Rattle.std.specs.Result.{IsOkAnd}
use Rattle.def_play.specs.Ledger.{Talk, whole_part, answered, answers_on, puts_of, first_talk, AsksInTurn}
use Rattle.def_play.proofs.Talks.{whole_part_asks}
use Rattle.def_plain.specs.declared.world.PlainPcom.{PlainPcom}
use Rattle.def_plain.specs.declared.world.PlainCom.TheVariants as coms
use Rattle.def_plain.specs.Cell.{SeesCommit, is_com, hand_played}
use Rattle.def_plain.specs.Plain.{ledger_at, plain_step, touched, part_on, part_in_hand, said_with, run_from, plain_run_of}
use Rattle.def_plain.specs.History.{tcom_entry}
use Rattle.law_sound.specs.Order.{Rises}
use Rattle.law_sound.proofs.Rising.{Below, to-below, below-never, tcom-rises}
use Rattle.law_sound.proofs.Reaching.{rises-split}
use Rattle.law_sound.proofs.Decided.{filter-pair}
use Rattle.law_found.proofs.Runs.{run-step}
use Rattle.law_found.proofs.SoundLogs.{sound-rises}
use Rattle.law_found.proofs.Ordered.{AtCommit, at-commit}
use Rattle.law_found.proofs.Ledgers.{LedgerHere, LedgerTurn, ledger-turn, LedgerAt, ledger-at}
use Rattle.def_facts.specs.Tcom.{DecidedFacts, RequestsReceived, RepliesAre}
use Rattle.std.proofs.lemmas.List.{length-append}
use Rattle.law_found.proofs.Putting.{two-splits, first-got, answers-long, asks-at}
use Rattle.law_replay.proofs.Members.{mapped-keeps}
use Rattle.law_replay.proofs.Talked.{map-places}

-- a decision --------------------------------------------------------------------------------------------

-- what the whole part was at a decision
pub record Whole (program : Program) (logs : Logs) (w : PlainWorld) (t c : ComId) (n stamp : ℕ) (pre : List Record) (writes : List (ℕ × ℤ)) : Type 0 where
  pub book-there : Book
  pub is_book : book_of program t pre ≡ Some book-there
  pub requests : List Request
  pub few : length requests ≤ REQUESTS
  pub writes_are : writes ≡ puts_of requests
  pub answers : map (λ (g : Got). g.value) (values_of (log_at logs c) n) ≡ answers_on book-there.ledger requests
  pub play : List ℤ → Played
  pub asks : AsksInTurn play t (first_talk book-there.ledger) requests
  pub plays : (b : Begun) → begun_of program logs w c n ≡ Some b → (vs : List ℤ) → plays_again program c b vs ≡ play vs

abbrev pub same-result : PlainWorld → Result PlainWorld ℕ
same-result u = Ok u

pub same-ok : (u v : PlainWorld) → same-result u ≡ same-result v → u ≡ v
same-ok u v e = ap (value u) e
  where
    value : PlainWorld → Result PlainWorld ℕ → PlainWorld
    value d (Ok x) = x
    value d (Err x) = d

pub whole-at : (program : Program) (logs : Logs) (w : PlainWorld) → Found program logs w → (t c : ComId) (n stamp : ℕ) (pre post : List Record) (writes : List (ℕ × ℤ)) → IsTrue (is_a_tcom program t) → Stands (log_at logs t) pre (Decided stamp c n writes) post → Whole program logs w t c n stamp pre writes
whole-at program logs w f t c n stamp pre post writes is_t st = by (ledger-turn program logs w f.sound t is_t world commit z.back here refl refl order)
  where
    both : (u v : Bool) → u ≡ true → v ≡ true → u && v ≡ true
    both true v p q = q
    both false v p q = p

    self : (m : ℕ) → (m == m) ≡ true
    self m = grind arith

    commit : Entry
    commit = entry t stamp (acts.Commit c n)

    d : Contains (decisions_on (log_at logs t) c n) stamp
    d = mapped-keeps (decides_txn c n) (log_at logs t) (Decided stamp c n writes) stamp (subst (λ l. Contains l (Decided stamp c n writes)) (sym st) (Contains-append_right pre (Decided stamp c n writes ∷ post) (Decided stamp c n writes) (in-head (Decided stamp c n writes) post)))
        (ap (λ b. cond b (Some stamp) None) (both (same_com c c) (n == n) (self-com c) (self n)))

    z : AtCommit program logs w c t n stamp
    z = at-commit program logs w f.list f.sound t c n stamp is_t d

    world : PlainWorld
    world = z.at.world

    y : LedgerAt program logs w t z.front (commit ∷ z.back)
    y = ledger-at program logs w f.sound t is_t z.front (commit ∷ z.back) z.split

    here : LedgerHere program logs t world (commit ∷ z.back)
    here = subst (λ u. LedgerHere program logs t u (commit ∷ z.back)) (same-ok y.world world (sym y.run ∙ z.at.run)) y.here

    order : (e : Entry) → Contains z.back e → Below commit e
    order = (rises-split z.front z.back commit (subst Rises z.split (sound-rises program logs w f.sound))).1

    is_c : IsTrue (is_a_pcom program c)
    is_c = decided-com program logs w f.sound t c n stamp is_t d

    -- the step of the commit
    step : (v : PlainWorld) × (plain_step program world commit ≡ Some v) × (run_from program (z.at.place + 1) v z.back ≡ Ok w)
    step = run-step program z.at.place world w commit z.back z.at.onward

    x : (x : Talk) × (part_on program world t c ≡ Some x) × (option_map (λ u. slice_set u t.0 (coms.Tcom x.ledger)) (touched program world c (SeesCommit n x.answers)) ≡ Some step.0)
    x = then-is (λ (x : Talk). option_map (λ u. slice_set u t.0 (coms.Tcom x.ledger)) (touched program world c (SeesCommit n x.answers))) (part_on program world t c) step.0 step.1

    p : (l : List ℤ) × (ledger_at world t ≡ Some l) × (option_and_then (λ play. option_and_then (said_with t) (whole_part play l)) (part_in_hand program world c) ≡ Some x.0)
    p = then-is (λ l. option_and_then (λ play. option_and_then (said_with t) (whole_part play l)) (part_in_hand program world c)) (ledger_at world t) x.0 x.1

    the-play : List ℤ → Played
    the-play = hand_played program c z.here.now.plain z.txn.hand

    in-hand : part_in_hand program world c ≡ Some the-play
    in-hand = ap (option_and_then (λ (q : PlainPcom). option_map (hand_played program c q) q.hand)) z.here.cell ∙ ap (option_map (hand_played program c z.here.now.plain)) z.txn.is_hand

    q : option_and_then (said_with t) (whole_part the-play p.0) ≡ Some x.0
    q = ap (option_and_then (λ play. option_and_then (said_with t) (whole_part play p.0))) (sym in-hand) ∙ p.2

    k : (b : ComId × Talk) × (whole_part the-play p.0 ≡ Some b) × (said_with t b ≡ Some x.0)
    k = then-is (said_with t) (whole_part the-play p.0) x.0 q

    said : k.0 ≡ (t, x.0)
    said = at (is_com k.0.0 t) refl k.2
      where
        at : (v : Bool) → is_com k.0.0 t ≡ v → cond v (Some k.0.1) None ≡ Some x.0 → k.0 ≡ (t, x.0)
        at false g h = none-some x.0 h
        at true g h = ap (λ d. (d, k.0.1)) (same-com k.0.0 t g) ∙ ap (λ d. (t, d)) (same_Some k.0.1 x.0 h)

    asks : (qs : List Request) × ((length qs ≤ REQUESTS) × (x.0 ≡ answered p.0 qs) × AsksInTurn the-play t (first_talk p.0) qs)
    asks = whole_part_asks the-play t p.0 x.0 (k.1 ∙ ap Some said)

    told : (writes ≡ puts_of x.0.asked) × (map (λ (g : Got). g.value) (values_of (log_at logs c) n) ≡ x.0.answers)
    told = at (plain_run_of program z.front) z.at.run (f.sound.decided_whole t c pre post stamp n writes st z.front (z.back, stamp, z.split))
      where
        at : (o : Result PlainWorld ℕ) → o ≡ Ok world → IsOkAnd o (λ v. IsSomeAnd (part_on program v t c) (λ q. (writes ≡ puts_of q.asked) × (map (λ g. g.value) (values_of (log_at logs c) n) ≡ q.answers))) → (writes ≡ puts_of x.0.asked) × (map (λ (g : Got). g.value) (values_of (log_at logs c) n) ≡ x.0.answers)
        at o is h =
            let h2 = subst (λ q. IsOkAnd q (λ v. IsSomeAnd (part_on program v t c) (λ q. (writes ≡ puts_of q.asked) × (map (λ g. g.value) (values_of (log_at logs c) n) ≡ q.answers)))) is h in
            subst (λ q. IsSomeAnd q (λ q. (writes ≡ puts_of q.asked) × (map (λ g. g.value) (values_of (log_at logs c) n) ≡ q.answers))) x.1 h2

    -- the part is played as it was begun
    plays : (b : Begun) → begun_of program logs w c n ≡ Some b → (vs : List ℤ) → plays_again program c b vs ≡ the-play vs
    plays b is vs =
        let g = the-state program logs w f.sound c is_c in
        let o = open_is_in_hand program c (contents_of w c) z.here.done z.here.now z.txn.hand z.here.is_now z.txn.is_hand in
        let grow = states_grow program c (contents_of w c) z.here.rest z.here.now g.0 (sym (applied_twice program c (contents_of w c) (Some (first_hist program c)) z.here.done z.here.rest ∙ ap (λ o. apply_all program c (contents_of w c) o z.here.rest) z.here.is_now) ∙ ap (after program c (contents_of w c)) (sym z.here.split) ∙ g.1) in
        let the : Begun = record { tcom = o.0; handler = z.txn.hand.handler; vars = z.here.now.plain.vars; args = z.txn.hand.args; done = z.txn.hand.done } in
        let final : begun_of program logs w c n ≡ Some the = ap (option_and_then (λ h. opened h n)) g.1 ∙ opened-grows z.here.now g.0 n the grow (ap (opened z.here.now) (sym z.txn.is_begun) ∙ o.2.0) in
        ap (λ (v : Begun). plays_again program c v vs) (same_Some b the (sym is ∙ final))

    by : LedgerTurn program logs t here.done here.rest here.book-there.ledger commit → Whole program logs w t c n stamp pre writes
    by u = record {
      book-there = u.mid;
      is_book = ap (book_of program t) front-is ∙ u.is_mid;
      requests = asks.0;
      few = asks.1.0;
      writes_are = told.0 ∙ ap (λ (o : Talk). puts_of o.asked) asks.1.1;
      answers = told.1 ∙ ap (λ (o : Talk). o.answers) asks.1.1 ∙ ap (λ l. answers_on l asks.0) ledger-is;
      play = the-play;
      asks = subst (λ l. AsksInTurn the-play t (first_talk l) asks.0) ledger-is asks.1.2;
      plays = plays;
    }
      where
        ledger-is : p.0 ≡ u.mid.ledger
        ledger-is = same_Some p.0 here.book-there.ledger (sym p.1 ∙ here.ledger) ∙ sym u.same

        g : (b : Book) × (book_of program t (log_at logs t) ≡ Some b)
        g = the-ledger-book program logs w f.sound t is_t

        other : log_at logs t ≡ (here.done ++ u.skip) ++ u.r ∷ u.post
        other = here.split ∙ ap (λ l. here.done ++ l) u.rest_is ∙ sym (append_assoc here.done u.skip (u.r ∷ u.post))

        -- no entry stands twice
        twice : {B : Type 0} (xs ys : List Record) (a b : Record) → log_at logs t ≡ xs ++ b ∷ ys → Contains xs a → tcom_entry t a ≡ Some commit → tcom_entry t b ≡ Some commit → B
        twice xs ys a b split h ea eb =
            let v = contains-split xs a h in
            let low = to-below commit commit (filter-pair t v.0 v.1 ys a b commit commit (subst (λ l. Rises (filter_map (tcom_entry t) l)) (split ∙ ap (λ l. l ++ b ∷ ys) v.2 ∙ append_assoc v.0 (a ∷ v.1) (b ∷ ys)) (tcom-rises program t (log_at logs t) (first_book program t) g.0 g.1)) ea eb) in
            below-never commit commit low low

        front-is : pre ≡ here.done ++ u.skip
        front-is = which (two-splits pre (here.done ++ u.skip) (Decided stamp c n writes) u.r post u.post (sym st ∙ other))
          where
            which : (pre ≡ here.done ++ u.skip) ⊎ (Contains (here.done ++ u.skip) (Decided stamp c n writes) ⊎ Contains pre u.r) → pre ≡ here.done ++ u.skip
            which (inl same) = same
            which (inr (inl h)) = twice (here.done ++ u.skip) u.post (Decided stamp c n writes) u.r other h refl u.entry_is
            which (inr (inr h)) = twice pre post u.r (Decided stamp c n writes) st h u.entry_is refl

pub decided-facts : (program : Program) (logs : Logs) (w : PlainWorld) → Found program logs w → (t : ComId) → IsTrue (is_a_tcom program t) → (pre post : List Record) (stamp : ℕ) (c : ComId) (n : ℕ) (writes : List (ℕ × ℤ)) → Stands (log_at logs t) pre (Decided stamp c n writes) post →
    IsSomeAnd (book_of program t pre) (λ b. DecidedFacts t (length (log_at logs t)) ((past_told program logs w).sent t) ((past_told program logs w).received t) pre b stamp c n writes)
decided-facts program logs w f t is_t pre post stamp c n writes st =
    and-some (λ (b : Book). DecidedFacts t (length (log_at logs t)) sent received pre b stamp c n writes) (book_of program t pre) x.book-there x.is_book (record {
      place = length (values_of (log_at logs c) n);
      session = m.session;
      asked_at = m.state.clock;
      commit_received = in-received (packets_told program logs w) t (packets.Commit c t n (length (values_of (log_at logs c) n)) m.session m.state.clock)
          (subst (λ s. Contains (packets_told program logs w) (packets.Commit c t n (length (values_of (log_at logs c) n)) s m.state.clock)) first.2
          (commit-told program logs w c t n stamp writes m.state first.0 stands m.is_state (ap (λ l. slice_get l 0) m.gots ∙ first.1))) refl;
      stamp_above = λ old. absurd (late old);
      in_epoch = λ old. absurd (late old);
      requests = x.requests;
      few = x.few;
      requests_received = requests;
      writes_are = x.writes_are;
      replies_are = replies;
    })
  where
    sent : List Packet
    sent = (past_told program logs w).sent t

    received : List Packet
    received = (past_told program logs w).received t

    both : (u v : Bool) → u ≡ true → v ≡ true → u && v ≡ true
    both true v p q = q
    both false v p q = p

    self : (i : ℕ) → (i == i) ≡ true
    self i = grind arith

    stands : Contains (log_at logs t) (Decided stamp c n writes)
    stands = subst (λ l. Contains l (Decided stamp c n writes)) (sym st) (Contains-append_right pre (Decided stamp c n writes ∷ post) (Decided stamp c n writes) (in-head (Decided stamp c n writes) post))

    d : Contains (decisions_on (log_at logs t) c n) stamp
    d = mapped-keeps (decides_txn c n) (log_at logs t) (Decided stamp c n writes) stamp stands (ap (λ b. cond b (Some stamp) None) (both (same_com c c) (n == n) (self-com c) (self n)))

    is_c : IsTrue (is_a_pcom program c)
    is_c = decided-com program logs w f.sound t c n stamp is_t d

    x : Whole program logs w t c n stamp pre writes
    x = whole-at program logs w f t c n stamp pre post writes is_t st

    m : Commits program logs w t c n
    m = commits-of program logs w f t c n stamp is_t d

    first : (g : Got) × (slice_get (in_places 0 m.session m.values) 0 ≡ Some g) × (g.session ≡ m.session)
    first = first-got m.session m.values m.some

    late : length (log_at logs t) ≤ length pre → ⊥
    late old = never (length pre) (length post) (subst (λ i. i ≤ length pre) (ap length st ∙ length-append pre (Decided stamp c n writes ∷ post)) old)
      where
        never : (i j : ℕ) → i + suc j ≤ i → ⊥
        never i j l = omega (arith, l)

    a0 : Asked program logs w c n
    a0 = asked-of program logs w f c is_c n

    a : Asked program logs w c n
    a = record { session = m.session; values = m.values; gots = m.gots; asked = subst (AreAsked program c (begun_of program logs w c n)) (sym (values-are program logs w c n a0) ∙ ap (map (λ (g : Got). g.value)) m.gots ∙ map-places 0 m.session m.values) a0.asked }

    values : m.values ≡ answers_on x.book-there.ledger x.requests
    values = sym (map-places 0 m.session m.values) ∙ ap (map (λ (g : Got). g.value)) (sym m.gots) ∙ x.answers

    replies : RepliesAre t c sent n m.session (answers_on x.book-there.ledger x.requests)
    replies i v h =
        let y = from-sent (packets_told program logs w) t (packets.OpReply t c n i m.session v) h in
        let o = origin program logs w (packets.OpReply t c n i m.session v) y.0 in
        ap (λ l. slice_get l i) (sym values) ∙ (value-in program logs w c n a i m.session v o.stands).0

    requests : RequestsReceived t c received n m.session x.requests
    requests i q e = (session_at i m.session, at-session, in-received (packets_told program logs w) t (packets.Op c t n i (session_at i m.session) q) there refl)
      where
        later : (j : ℕ) → 0 < j → (j == 0) ≡ false
        later j lt = grind (arith, lt)

        at-session : 0 < i → session_at i m.session ≡ Some m.session
        at-session lt = ap (λ b. cond b None (Some m.session)) (later i lt)

        v : (v : ℤ) × (slice_get m.values i ≡ Some v)
        v = get-within m.values i (subst (λ j. i < j) (sym (ap length values ∙ answers-long x.book-there.ledger x.requests)) (get-less x.requests i q e))

        st2 : Contains (log_at logs c) (Value n i m.session v.0)
        st2 = value-stands program logs w c n a i v.0 v.1

        b : (b : Begun) × (r : Request) × (begun_of program logs w c n ≡ Some b) × IsTrue (is_a_tcom program b.tcom) × (plays_again program c b (take i m.values) ≡ Asks b.tcom r)
        b = a.asked i (get-less m.values i v.0 v.1)

        asked : (u : ComId) × (x.play (take i (answers_on x.book-there.ledger x.requests)) ≡ Asks u q)
        asked = asks-at x.play t (first_talk x.book-there.ledger) x.requests i q x.asks e

        plays : plays_again program c b.0 (take i m.values) ≡ Asks asked.0 q
        plays = x.plays b.0 b.2 (take i m.values) ∙ ap (λ l. x.play (take i l)) values ∙ asked.1

        on : b.0.tcom ≡ t
        on = ap (λ (z : Begun). z.tcom) (same_Some b.0 m.begun (sym b.2 ∙ m.is_begun)) ∙ m.on

        there : Contains (packets_told program logs w) (packets.Op c t n i (session_at i m.session) q)
        there =
            subst (λ u. Contains (packets_told program logs w) (packets.Op c u n i (session_at i m.session) q)) on
            (op-told program logs w c n i m.session v.0 b.0 asked.0 q st2 b.2 (ap (λ l. plays_again program c b.0 (take i l)) (values-are program logs w c n a) ∙ plays))
