-- A commit of the history has a step of the crash-free world.
use Rattle.std.proofs.Common.{◌≡◌, refl, ◌∙◌, ap, sym, subst, ℕ, ◌≤◌, Bool, true, false, cond, ◌&&◌, ◌==◌, List, [], ◌∷◌, ◌++◌, length, map, filter_map, slice_get, slice_set, ℤ, Option, Some, None, option_map, option_and_then, is_none, ◌⊎◌, inl, inr}
use Rattle.std.specs.Prelude.{Contains, IsSomeAnd, IsTrue}
use Rattle.std.proofs.lemmas.List.{append_assoc}
use Rattle.std.proofs.lemmas.List.Elements.{Contains-append_left, Contains-append_right, Contains-append_cases, Contains-push, Contains-push_cases}
use Rattle.std.proofs.lemmas.Option.{same_Some}
use Rattle.ic_base.specs.declared.limits.TheConstants.{REQUESTS}
use Rattle.ic_base.specs.declared.messages.ComId.{ComId}
use Rattle.ic_base.specs.declared.messages.Entry.{Entry}
use Rattle.ic_base.specs.declared.messages.Act.TheVariants as acts
use Rattle.ic_base.specs.declared.messages.Request.{Request}
use Rattle.ic_base.specs.declared.messages.Kind.{Kind}
use Rattle.ic_base.specs.declared.messages.Kind.TheVariants as kinds
use Rattle.ic_base.specs.declared.scenario.Component.{Component}
use Rattle.ic_base.specs.declared.scenario.Program.{Program}
use Rattle.ic_base.specs.declared.record.Record.{Record}
use Rattle.ic_base.specs.declared.record.Record.TheVariants.{Decided}
use Rattle.ic_base.specs.Programs.{same_com, is_a_pcom, is_a_tcom, is_tcom}
use Rattle.def_play.specs.Ledger.{Talk, first_talk, AsksInTurn, answers_on, answered, ledger_after_all, puts_of, whole_part}
use Rattle.def_play.proofs.Talks.{whole_part_of}
use Rattle.def_plain.specs.declared.world.PlainPcom.{PlainPcom}
use Rattle.def_plain.specs.declared.world.InHand.{InHand}
use Rattle.def_plain.specs.declared.world.PlainCom.{PlainCom}
use Rattle.def_plain.specs.declared.world.PlainCom.TheVariants as coms
use Rattle.def_plain.specs.Cell.{SeesCommit, cell_step, hand_played, provided}
use Rattle.def_plain.specs.Plain.{PlainWorld, pcom_at, ledger_at, as_ledger, plain_step, touched as touched_world, part_on, part_in_hand, said_with}
use Rattle.def_plain.specs.History.{entry, entry_of, tcom_entry, history_of}
use Rattle.def_state.specs.Hist.{Hist, Begun, Contents, opened, plays_again}
use Rattle.def_step.specs.Tcom.{Book, booked, book_of, first_book, write_all}
use Rattle.def_facts.specs.Logs.{Logs, log_at, Stands, contents_in, values_of, Got, decisions_on, decides_txn}
use Rattle.def_facts.specs.Pcom.{begun_in}
use Rattle.def_facts.specs.World.{Past}
use Rattle.law_replay.proofs.Committing.{hands_are_open}
use Rattle.law_replay.proofs.Hands.{open_is_in_hand}
use Rattle.law_replay.proofs.Lists.{none-some, some-of, in-head, in-tail, same-com, equal-numbers, at-some, contains-split, self-number, clash, both-true, apart-coms}
use Rattle.law_sound.specs.Order.{Explains, DecisionAgrees, Rises, is_commit_of}
use Rattle.law_sound.proofs.Deciding.{declared-tcom}
use Rattle.law_sound.proofs.Decisions.{answers_agree}
use Rattle.law_sound.proofs.Histories.{history_has_entries}
use Rattle.law_sound.proofs.Positions.{Touched, touched}
use Rattle.law_sound.proofs.Rising.{Below, to-below, below-never, tcom-stamp, tcom-rises}
use Rattle.law_sound.specs.Assembly.{is_own, PcomReached, TcomReached, IsReached, CommitsHaveSteps}
use Rattle.law_sound.proofs.Reaching.{find-passes, stays-there}
use Rattle.law_sound.proofs.Stepping.{set-same, set-other, is-there, pcom-set, pcom-other, ledger-other, not-both, touch-step, own-is}
use Rattle.law_sound.proofs.Decided.{written, filter-pair, Deciding, deciding}
use Rattle.law_sound.proofs.Committing.{Ready, ready}
use Rattle.law_replay.proofs.Members.{mapped-keeps}

-- the part as the crash-free world plays it ------------------------------------------------------------

-- the hand of a Pcom that commits, with the answers that it has
record Holding (program : Program) (logs : Logs) (past : Past) (c : ComId) (n : ℕ) (state : Hist) : Type 0 where
  hand : InHand
  is_hand : state.plain.hand ≡ Some hand
  tcom : ComId
  is_begun : begun_in program c (past.received c) (log_at logs c) n ≡ Some (record { tcom = tcom; handler = hand.handler; vars = state.plain.vars; args = hand.args; done = hand.done })
  now : map (λ g. g.value) (values_of (log_at logs c) n) ≡ state.now

holding : (program : Program) (found logs : Logs) (past : Past) (c : ComId) (n : ℕ) (front : List Entry) (e : Entry) (w : PlainWorld) → (h : Ready program found logs past c n front e w) → Holding program logs past c n h.state
holding program found logs past c n front e w h = by h.state.plain.hand refl
  where
    k : Contents
    k = contents_in (past.received c)

    by : (o : Option InHand) → h.state.plain.hand ≡ o → Holding program logs past c n h.state
    by None u = clash (is_none h.state.plain.hand) (ap is_none u) (hands_are_open program c k h.log h.state h.is_state ∙ h.open_now)
    by (Some x) u =
        let z = open_is_in_hand program c k h.log h.state x h.is_state u in
        record {
          hand = x;
          is_hand = u;
          tcom = z.0;
          is_begun = h.lasts (record { tcom = z.0; handler = x.handler; vars = h.state.plain.vars; args = x.args; done = x.done }) (ap (option_and_then (λ s. opened s n)) h.is_state ∙ ap (opened h.state) (sym h.begun) ∙ z.2.0);
          now = ap (map (λ (g : Got). g.value)) h.values ∙ ap (λ i. map (λ (g : Got). g.value) (values_of h.log i)) (sym h.begun) ∙ z.2.1;
        }

the-part : (program : Program) (w : PlainWorld) (t c : ComId) (ledger : List ℤ) (p : PlainPcom) (hand : InHand) (qs : List Request) → ledger_at w t ≡ Some ledger → pcom_at w c ≡ Some p → p.hand ≡ Some hand → length qs ≤ REQUESTS →
    AsksInTurn (hand_played program c p hand) t (first_talk ledger) qs → part_on program w t c ≡ Some (answered ledger qs)
the-part program w t c ledger p hand qs a b d few asks =
    ap (option_and_then (λ l. option_and_then (λ play. option_and_then (said_with t) (whole_part play l)) (part_in_hand program w c))) a
    ∙ ap (λ o. option_and_then (λ play. option_and_then (said_with t) (whole_part play ledger)) (option_and_then (λ (x : PlainPcom). option_map (hand_played program c x) x.hand) o)) b
    ∙ ap (λ o. option_and_then (λ play. option_and_then (said_with t) (whole_part play ledger)) (option_map (hand_played program c p) o)) d
    ∙ ap (option_and_then (said_with t)) (whole_part_of (hand_played program c p hand) t ledger qs few asks)
    ∙ ap (λ v. provided v (answered ledger qs)) (self-number t.0)

-- the step --------------------------------------------------------------------------------------------

after-commit : PlainWorld → ComId → ComId → PlainPcom → List ℤ → PlainWorld
after-commit w t c p ledger = slice_set (slice_set w c.0 (coms.Pcom p)) t.0 (coms.Tcom ledger)

commit-step : (program : Program) (w : PlainWorld) (t c : ComId) (n a : ℕ) (ledger now : List ℤ) (p later : PlainPcom) (qs : List Request) → part_on program w t c ≡ Some (answered ledger qs) → pcom_at w c ≡ Some p → answers_on ledger qs ≡ now → cell_step program c p (SeesCommit n now) ≡ Some later →
    plain_step program w (entry t a (acts.Commit c n)) ≡ Some (after-commit w t c later (ledger_after_all ledger qs))
unfolding after-commit
commit-step program w t c n a ledger now p later qs part cell same steps =
    ap (option_and_then (λ (x : Talk). option_map (λ u. slice_set u t.0 (coms.Tcom x.ledger)) (touched_world program w c (SeesCommit n x.answers)))) part
    ∙ ap (option_map (λ u. slice_set u t.0 (coms.Tcom (ledger_after_all ledger qs)))) (ap (λ l. touched_world program w c (SeesCommit n l)) same ∙ touch-step program w c (SeesCommit n now) p later cell steps)

-- all that a commit needs and makes
pub record Commitment (program : Program) (found logs : Logs) (past : Past) (front : List Entry) (e : Entry) (w : PlainWorld) (t c : ComId) (n a : ℕ) (writes : List (ℕ × ℤ)) : Type 0 where
  tcom : TcomReached program logs t front w
  decides : Deciding program logs t tcom.done tcom.left tcom.book.ledger (Decided a c n writes)
  pcom : Ready program found logs past c n front e w
  ledger : List ℤ
  writes_it : write_all decides.before.ledger writes ≡ ledger
  had : ledger_at w t ≡ Some decides.before.ledger
  step : plain_step program w (entry t a (acts.Commit c n)) ≡ Some (after-commit w t c pcom.later ledger)
  -- the requests that the decision serves
  pub asked : List Request
  pub on : List ℤ
  pub part : part_on program w t c ≡ Some (answered on asked)
  pub puts : writes ≡ puts_of asked
  pub values : map (λ g. g.value) (values_of (log_at logs c) n) ≡ answers_on on asked

pub commitment : (program : Program) (found logs : Logs) (past : Past) → Explains program found logs past → (front back : List Entry) (e : Entry) (w : PlainWorld) → history_of program logs ≡ front ++ e ∷ back → IsReached program logs past front w →
    (t c : ComId) (n a : ℕ) (writes : List (ℕ × ℤ)) → IsTrue (is_a_tcom program t) → Contains (log_at logs t) (Decided a c n writes) → e ≡ entry t a (acts.Commit c n) → Commitment program found logs past front e w t c n a writes
commitment program found logs past f front back e w split reached t c n a writes is_t inside e_is =
    let q = reached.tcoms t is_t in
    let d = deciding program found logs past f front back e w split t is_t q (Decided a c n writes) inside (ap Some (sym e_is)) in
    let st : Stands (log_at logs t) (q.done ++ d.skip) (Decided a c n writes) d.rest = q.split ∙ ap (λ l. q.done ++ l) d.left_is ∙ sym (append_assoc q.done d.skip (Decided a c n writes ∷ d.rest)) in
    let agrees : DecisionAgrees program logs past t c n writes d.before.ledger =
    at-some (λ (b : Book). DecisionAgrees program logs past t c n writes b.ledger) (book_of program t (q.done ++ d.skip)) d.before d.is_before_book (answers_agree program found logs past f t c (q.done ++ d.skip) d.rest a n writes is_t st)
    in
    let dec : Contains (decisions_on (log_at logs t) c n) a =
    mapped-keeps (decides_txn c n) (log_at logs t) (Decided a c n writes) a inside (ap (λ b. cond b (Some a) None) (both-true (same_com c c) (n == n) (self-number c.0) (self-number n)))
    in
    finish q d agrees.0 agrees.1 (ready program found logs past f front back e w split t c n a is_t agrees.0 (q.done ++ d.skip) d.rest writes st dec e_is (reached.pcoms c agrees.0))
  where
    Agrees : List ℤ → Begun → Type 0
    Agrees ledger b =
        (requests : List Request) × (b.tcom ≡ t) × (writes ≡ puts_of requests) × (length requests ≤ REQUESTS)
        × (map (λ g. g.value) (values_of (log_at logs c) n) ≡ answers_on ledger requests)
        × AsksInTurn (plays_again program c b) t (first_talk ledger) requests

    finish : (q : TcomReached program logs t front w) → (d : Deciding program logs t q.done q.left q.book.ledger (Decided a c n writes)) → IsTrue (is_a_pcom program c) →
        IsSomeAnd (begun_in program c (past.received c) (log_at logs c) n) (λ b.
        (requests : List Request) × (b.tcom ≡ t) × (writes ≡ puts_of requests) × (length requests ≤ REQUESTS)
        × (map (λ g. g.value) (values_of (log_at logs c) n) ≡ answers_on d.before.ledger requests)
        × AsksInTurn (plays_again program c b) t (first_talk d.before.ledger) requests) →
        Ready program found logs past c n front e w → Commitment program found logs past front e w t c n a writes
    finish q d is_c agrees h = make (holding program found logs past c n front e w h)
      where
        make : Holding program logs past c n h.state → Commitment program found logs past front e w t c n a writes
        make x = record {
          tcom = q;
          decides = d;
          pcom = h;
          ledger = ledger_after_all d.before.ledger asked.0;
          writes_it = ap (write_all d.before.ledger) asked.2 ∙ written d.before.ledger asked.0;
          had = had;
          step = commit-step program w t c n a d.before.ledger h.state.now h.state.plain h.later asked.0 (the-part program w t c d.before.ledger h.state.plain x.hand asked.0 had h.cell x.is_hand asked.3 asked.5) h.cell (sym asked.4 ∙ x.now) h.steps;
          asked = asked.0;
          on = d.before.ledger;
          part = the-part program w t c d.before.ledger h.state.plain x.hand asked.0 had h.cell x.is_hand asked.3 asked.5;
          puts = asked.2;
          values = asked.4;
        }
          where
            asked : Agrees d.before.ledger (record { tcom = x.tcom; handler = x.hand.handler; vars = h.state.plain.vars; args = x.hand.args; done = x.hand.done })
            asked = at-some (Agrees d.before.ledger) (begun_in program c (past.received c) (log_at logs c) n) (record { tcom = x.tcom; handler = x.hand.handler; vars = h.state.plain.vars; args = x.hand.args; done = x.hand.done }) x.is_begun agrees

            had : ledger_at w t ≡ Some d.before.ledger
            had = q.ledger ∙ ap Some (sym d.same)

commit-com : (x c : ComId) (m n : ℕ) → same_com x c && (m == n) ≡ true → c.0 ≡ x.0
commit-com x c m n u = sym (equal-numbers x.0 c.0 (first (same_com x c) (m == n) u))
  where
    first : (i j : Bool) → i && j ≡ true → i ≡ true
    first true j k = refl
    first false j k = k

pcoms-go : (program : Program) (found logs : Logs) (past : Past) (front : List Entry) (e : Entry) (w : PlainWorld) → IsReached program logs past front w → (t c : ComId) (n a : ℕ) (writes : List (ℕ × ℤ)) → e ≡ entry t a (acts.Commit c n) →
    (m : Commitment program found logs past front e w t c n a writes) → (x : ComId) → IsTrue (is_a_pcom program x) → PcomReached program logs past x (front ++ e ∷ []) (after-commit w t c m.pcom.later m.ledger)
unfolding after-commit
pcoms-go program found logs past front e w reached t c n a writes e_is m x is_x = at (same_com c x) refl
  where
    mid : PlainWorld
    mid = slice_set w c.0 (coms.Pcom m.pcom.later)

    p : PcomReached program logs past x front w
    p = reached.pcoms x is_x

    flip : t.0 ≡ c.0 → ⊥
    flip same = not-both w c t m.pcom.state.plain m.decides.before.ledger (sym same) m.pcom.cell m.had

    of-commit : (o : Record) → (c.0 ≡ x.0 → ⊥) → Touched program logs x o e → ⊥
    of-commit o apart (inl u) = clash (is_own e.act) (own-is x o e u.0) (ap (λ (k : Entry). is_own k.act) e_is)
    of-commit o apart (inr u) = apart (commit-com x c u.1 n (sym (ap (λ (k : Entry). is_commit_of x u.1 k.act) e_is) ∙ (find-passes (λ (k : Entry). is_commit_of x u.1 k.act) (history_of program logs) e u.3).0))

    at : (b : Bool) → same_com c x ≡ b → PcomReached program logs past x (front ++ e ∷ []) (slice_set mid t.0 (coms.Tcom m.ledger))
    at true same = subst (λ u. PcomReached program logs past u (front ++ e ∷ []) (slice_set mid t.0 (coms.Tcom m.ledger))) (same-com c x same) (m.pcom.reached (slice_set mid t.0 (coms.Tcom m.ledger)) (pcom-other mid t c (coms.Tcom m.ledger) flip ∙ pcom-set w c m.pcom.state.plain m.pcom.later m.pcom.cell))
    at false other =
        stays-there program logs past x front e w (slice_set mid t.0 (coms.Tcom m.ledger)) (λ o u. of-commit o (apart-coms c x other) (touched program logs x o e u))
        (pcom-other mid t x (coms.Tcom m.ledger) (λ u. not-both w x t p.cell m.decides.before.ledger (sym u) p.is_cell m.had) ∙ pcom-other w c x (coms.Pcom m.pcom.later) (apart-coms c x other)) p

tcom-goes : (program : Program) (found logs : Logs) (past : Past) → Explains program found logs past → (front : List Entry) (e : Entry) (w : PlainWorld) → (t c : ComId) (n a : ℕ) (writes : List (ℕ × ℤ)) → IsTrue (is_a_tcom program t) → e ≡ entry t a (acts.Commit c n) →
    (m : Commitment program found logs past front e w t c n a writes) → TcomReached program logs t (front ++ e ∷ []) (after-commit w t c m.pcom.later m.ledger)
unfolding after-commit
tcom-goes program found logs past f front e w t c n a writes is_t e_is m = record {
  done = (q.done ++ d.skip) ++ r ∷ [];
  left = d.rest;
  split = st ∙ sym (append_assoc (q.done ++ d.skip) (r ∷ []) d.rest);
  inside = λ o x i k. within o x k (Contains-push_cases (q.done ++ d.skip) r o i);
  outside = λ o x i k j. without o x i k (Contains-push_cases front e x j);
  book = booked d.before r;
  is_book = d.behind;
  ledger = ap (option_and_then as_ledger) (set-same mid t.0 (coms.Tcom m.ledger) there.0 (set-other w c.0 t.0 (coms.Pcom m.pcom.later) apart ∙ there.1)) ∙ ap Some (sym m.writes_it);
}
  where
    r : Record
    r = Decided a c n writes

    q : TcomReached program logs t front w
    q = m.tcom

    d : Deciding program logs t m.tcom.done m.tcom.left m.tcom.book.ledger (Decided a c n writes)
    d = m.decides

    te : tcom_entry t r ≡ Some e
    te = ap Some (sym e_is)

    mid : PlainWorld
    mid = slice_set w c.0 (coms.Pcom m.pcom.later)

    st : Stands (log_at logs t) (q.done ++ d.skip) r d.rest
    st = q.split ∙ ap (λ l. q.done ++ l) d.left_is ∙ sym (append_assoc q.done d.skip (r ∷ d.rest))

    apart : c.0 ≡ t.0 → ⊥
    apart same = not-both w c t m.pcom.state.plain d.before.ledger same m.pcom.cell m.had

    there : (x : PlainCom) × (slice_get w t.0 ≡ Some x) × (as_ledger x ≡ Some d.before.ledger)
    there = is-there as_ledger (slice_get w t.0) d.before.ledger m.had

    within : (o : Record) (x : Entry) → tcom_entry t o ≡ Some x → Contains (q.done ++ d.skip) o ⊎ (r ≡ o) → Contains (front ++ e ∷ []) x
    within o x k (inr same) = subst (Contains (front ++ e ∷ [])) (same_Some e x (sym te ∙ ap (tcom_entry t) same ∙ k)) (Contains-push front e)
    within o x k (inl i) = which (Contains-append_cases q.done d.skip o i)
      where
        which : Contains q.done o ⊎ Contains d.skip o → Contains (front ++ e ∷ []) x
        which (inl j) = Contains-append_left front (e ∷ []) x (q.inside o x j k)
        which (inr j) = absurd (d.quiet o x j k)

    without : (o : Record) (x : Entry) → Contains d.rest o → tcom_entry t o ≡ Some x → Contains front x ⊎ (e ≡ x) → ⊥
    without o x i k (inl j) = q.outside o x (subst (λ l. Contains l o) (sym d.left_is) (Contains-append_right d.skip (r ∷ d.rest) o (in-tail r o d.rest i))) k j
    without o x i k (inr same) =
        let s = contains-split d.rest o i in
        let all = some-of (book_of program t (log_at logs t)) (f.tcoms t is_t).1.reads in
        let shape : log_at logs t ≡ (q.done ++ d.skip) ++ r ∷ (s.0 ++ o ∷ s.1) = st ∙ ap (λ l. (q.done ++ d.skip) ++ r ∷ l) s.2 in
        let low = to-below e x (filter-pair t (q.done ++ d.skip) s.0 s.1 r o e x (subst (λ l. Rises (filter_map (tcom_entry t) l)) shape (tcom-rises program t (log_at logs t) (first_book program t) all.0 all.1)) te k) in
        let b = subst (Below e) (sym same) low in
        below-never e e b b

other-tcom : (program : Program) (logs : Logs) (u : ComId) (front : List Entry) (e : Entry) (w v : PlainWorld) → (e.com.0 ≡ u.0 → ⊥) → (o : TcomReached program logs u front w) → ledger_at v u ≡ Some o.book.ledger → TcomReached program logs u (front ++ e ∷ []) v
other-tcom program logs u front e w v apart o ledger = record {
  done = o.done;
  left = o.left;
  split = o.split;
  inside = λ k x i j. Contains-append_left front (e ∷ []) x (o.inside k x i j);
  outside = λ k x i j m. which k x i j (Contains-push_cases front e x m);
  book = o.book;
  is_book = o.is_book;
  ledger = ledger;
}
  where
    which : (k : Record) (x : Entry) → Contains o.left k → tcom_entry u k ≡ Some x → Contains front x ⊎ (e ≡ x) → ⊥
    which k x i j (inl m) = o.outside k x i j m
    which k x i j (inr same) = apart (ap (λ (m : ComId). m.0) (ap (λ (m : Entry). m.com) same ∙ (tcom-stamp u k x j).6))

stays : (w : PlainWorld) (t c u : ComId) (p : PlainPcom) (ledger : List ℤ) → (t.0 ≡ u.0 → ⊥) → (c.0 ≡ u.0 → ⊥) → ledger_at (after-commit w t c p ledger) u ≡ ledger_at w u
unfolding after-commit
stays w t c u p ledger a b = ledger-other (slice_set w c.0 (coms.Pcom p)) t u (coms.Tcom ledger) a ∙ ledger-other w c u (coms.Pcom p) b

tcoms-go : (program : Program) (found logs : Logs) (past : Past) → Explains program found logs past → (front : List Entry) (e : Entry) (w : PlainWorld) → IsReached program logs past front w → (t c : ComId) (n a : ℕ) (writes : List (ℕ × ℤ)) → IsTrue (is_a_tcom program t) → e ≡ entry t a (acts.Commit c n) →
    (m : Commitment program found logs past front e w t c n a writes) → (u : ComId) → IsTrue (is_a_tcom program u) → TcomReached program logs u (front ++ e ∷ []) (after-commit w t c m.pcom.later m.ledger)
tcoms-go program found logs past f front e w reached t c n a writes is_t e_is m u is_u = at (same_com t u) refl
  where
    at : (b : Bool) → same_com t u ≡ b → TcomReached program logs u (front ++ e ∷ []) (after-commit w t c m.pcom.later m.ledger)
    at true same = subst (λ k. TcomReached program logs k (front ++ e ∷ []) (after-commit w t c m.pcom.later m.ledger)) (same-com t u same) (tcom-goes program found logs past f front e w t c n a writes is_t e_is m)
    at false other =
        let o = reached.tcoms u is_u in
        other-tcom program logs u front e w (after-commit w t c m.pcom.later m.ledger) (λ k. apart-coms t u other (sym (ap (λ (x : Entry). x.com.0) e_is) ∙ k)) o
        (stays w t c u m.pcom.later m.ledger (apart-coms t u other) (λ k. not-both w c u m.pcom.state.plain o.book.ledger k m.pcom.cell o.ledger) ∙ o.ledger)

pub commits_have_steps : CommitsHaveSteps
commits_have_steps program found logs past f front back e w split act reached = by z.1.kind refl z.5
  where
    z : (d : ComId) × (x : Component) × (r : Record) × (slice_get program.components d.0 ≡ Some x) × Contains (log_at logs d) r × (entry_of x.kind d r ≡ Some e)
    z = history_has_entries program logs e (subst (λ l. Contains l e) (sym split) (Contains-append_right front (e ∷ back) e (in-head e back)))

    tcom : IsTrue (is_a_tcom program z.0) → tcom_entry z.0 z.2 ≡ Some e → (v : PlainWorld) × (plain_step program w e ≡ Some v) × IsReached program logs past (front ++ e ∷ []) v
    tcom is_t is_e =
        let y = tcom-stamp z.0 z.2 e is_e in
        let e_is : e ≡ entry z.0 y.0 (acts.Commit y.1 y.2) = sym (same_Some (entry z.0 y.0 (acts.Commit y.1 y.2)) e (ap (tcom_entry z.0) (sym y.4) ∙ is_e)) in
        all y.0 y.1 y.2 y.3 (subst (Contains (log_at logs z.0)) y.4 z.4) e_is
      where
        all : (a : ℕ) (c : ComId) (n : ℕ) (writes : List (ℕ × ℤ)) → Contains (log_at logs z.0) (Decided a c n writes) → e ≡ entry z.0 a (acts.Commit c n) → (v : PlainWorld) × (plain_step program w e ≡ Some v) × IsReached program logs past (front ++ e ∷ []) v
        all a c n writes inside e_is =
            let m = commitment program found logs past f front back e w split reached z.0 c n a writes is_t inside e_is in (
              after-commit w z.0 c m.pcom.later m.ledger,
              ap (plain_step program w) e_is ∙ m.step,
              record {
                pcoms = pcoms-go program found logs past front e w reached z.0 c n a writes e_is m;
                tcoms = tcoms-go program found logs past f front e w reached z.0 c n a writes is_t e_is m;
              },
            )

    by : (k : Kind) → z.1.kind ≡ k → entry_of k z.0 z.2 ≡ Some e → (v : PlainWorld) × (plain_step program w e ≡ Some v) × IsReached program logs past (front ++ e ∷ []) v
    by kinds.Pcom same is = clash (is_own e.act) (own-is z.0 z.2 e is) act
    by kinds.Tcom same is = tcom (declared-tcom program z.0 z.1 z.3 (ap is_tcom same)) is
    by kinds.Xcom same is = none-some e is
