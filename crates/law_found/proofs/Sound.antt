-- What sound logs say of each Pcom, and where it stands at each place of their history.
use Rattle.std.proofs.Common.{◌≡◌, refl, ◌∙◌, ap, sym, subst, ℕ, ◌+◌, ◌<◌, Bool, true, false, ◌&&◌, ◌==◌, List, [], ◌∷◌, ◌++◌, map, ℤ, Option, Some, None, option_and_then, arith, ◌⊎◌, inl, inr}
use Rattle.std.specs.Prelude.{Contains, IsTrue, IsSomeAnd, Ok, Err, Result}
use Rattle.std.specs.Result.{IsOkAnd}
use Rattle.std.proofs.lemmas.List.{append_assoc, append-nil}
use Rattle.std.proofs.lemmas.List.Elements.{Contains-append_right, filter-append}
use Rattle.std.proofs.lemmas.Option.{same_Some}
use Rattle.ic_base.specs.declared.messages.ComId.{ComId}
use Rattle.ic_base.specs.declared.messages.Msg.{Msg}
use Rattle.ic_base.specs.declared.messages.Send.{Send}
use Rattle.ic_base.specs.declared.messages.Entry.{Entry}
use Rattle.ic_base.specs.declared.messages.Act.TheVariants as acts
use Rattle.ic_base.specs.declared.messages.AbortCause.{AbortCause}
use Rattle.ic_base.specs.declared.scenario.Program.{Program}
use Rattle.ic_base.specs.declared.record.Record.TheVariants.{TakeWhole, Outcome, Decided}
use Rattle.ic_base.specs.Programs.{same_com, is_a_pcom, is_a_tcom}
use Rattle.def_play.specs.Ledger.{Talk, puts_of}
use Rattle.def_plain.specs.declared.world.PlainPcom.{PlainPcom}
use Rattle.def_plain.specs.Cell.{is_com}
use Rattle.def_plain.specs.Plain.{PlainWorld, pcom_at, plain_step, message_of, part_on, run_from, plain_run_of, on_link, counted, first_world}
use Rattle.def_plain.specs.History.{entry, history_of}
use Rattle.def_state.specs.Txn.{is_committing, tcom_of}
use Rattle.def_state.specs.Hist.{Hist, Begun, first_hist, first_plain, opened}
use Rattle.def_step.specs.Tcom.{first_book}
use Rattle.def_facts.specs.Logs.{Logs, log_at, values_of, has_outcome, decisions_on}
use Rattle.def_facts.specs.Sound.{contents_of, state_in, history_before, is_unrecorded, IsSound}
use Rattle.law_found.specs.Past.{IsLogList}
use Rattle.law_sound.specs.Assembly.{is_own}
use Rattle.law_sound.specs.Order.{Rises}
use Rattle.law_replay.proofs.Lists.{in-head, in-tail, open-content, self-com, clash}
use Rattle.law_replay.proofs.Numbers.{sent_are_numbered, counted-front}
use Rattle.law_replay.proofs.Lists.{empty}
use Rattle.law_sound.proofs.Deciding.{decision-record}
use Rattle.law_replay.proofs.Lists.{contains-split}
use Rattle.law_sound.proofs.Reaching.{rises-split}
use Rattle.law_sound.proofs.Stepping.{the-send}
use Rattle.law_sound.proofs.Agreeing.{before-rest}
use Rattle.law_found.proofs.Runs.{then-is, run-step, run-more, run-grows, ends-once}
use Rattle.law_found.proofs.Walk.{Known, Here, IsOver}
use Rattle.law_found.proofs.Walking.{next-here}
use Rattle.law_found.proofs.SoundLogs.{only-one, some-length, no-decision, whole-from, the-outcome, decided-pcom, decision-entry, entry-decision, own-stands, own-record, the-ledger-book, the-state, sound-rises, first-there}
use Rattle.law_sound.proofs.Outputs.{run-rest}

-- messages --------------------------------------------------------------------------------------------

pub message-lasts : (program : Program) (i : ℕ) (u w : PlainWorld) (es : List Entry) (s c : ComId) (k : ℕ) (m : Send) → run_from program i u es ≡ Ok w → message_of u s c k ≡ Some m → message_of w s c k ≡ Some m
message-lasts program i u w es s c k m run e =
    let x = then-is (λ p. counted (on_link c p.sent) k) (pcom_at u s) m e in
    let y = run-grows program i u w es s x.0 run x.1 in
    ap (option_and_then (λ (q : PlainPcom). counted (on_link c q.sent) k)) y.1 ∙ ap (λ l. counted (on_link c l) k) y.2.1
    ∙ ap (λ l. counted l k) (filter-append (λ (z : Send). is_com z.to c) x.0.sent y.2.0) ∙ counted-front (on_link c x.0.sent) (on_link c y.2.0) k m x.2

-- a message that a Pcom sent is that of the crash-free world
pub sent-in-world : (program : Program) (logs : Logs) (w : PlainWorld) → IsSound program logs w → (s : ComId) → IsTrue (is_a_pcom program s) → (h : Hist) → state_in program logs w s ≡ Some h → (m : Msg) → Contains h.sent m → (m.from ≡ s) × (message_of w s m.to m.k ≡ Some (the-send m))
sent-in-world program logs w sound s is h e m i = (numbered.0, at (plain_run_of program (history_before program logs s)) refl (subst (λ (z : Hist). IsOkAnd (plain_run_of program (history_before program logs s)) (λ v. pcom_at v s ≡ Some z.plain)) (same_Some g.0 h (sym g.1 ∙ e)) g.2))
  where
    g : (z : Hist) × (state_in program logs w s ≡ Some z) × IsOkAnd (plain_run_of program (history_before program logs s)) (λ v. pcom_at v s ≡ Some z.plain)
    g = the-state program logs w sound s is

    numbered : (m.from ≡ s) × (counted (on_link m.to h.plain.sent) m.k ≡ Some (record { to = m.to; handler = m.handler; args = m.args }))
    numbered = sent_are_numbered program s (contents_of w s) (log_at logs s) h m e i

    at : (o : Result PlainWorld ℕ) → plain_run_of program (history_before program logs s) ≡ o → IsOkAnd o (λ v. pcom_at v s ≡ Some h.plain) → message_of w s m.to m.k ≡ Some (the-send m)
    at (Err n) is_run z = absurd z
    at (Ok v) is_run z =
        let b = before-rest (λ (x : Entry). is_unrecorded (log_at logs s) s x.act) (history_of program logs) in
        let r = run-rest program 0 (first_world program) v w (history_before program logs s) b.0 is_run (ap (run_from program 0 (first_world program)) (sym b.1) ∙ sound.legal) in
        message-lasts program r.0 v w b.0 s m.to m.k (the-send m) r.1 (ap (option_and_then (λ (q : PlainPcom). counted (on_link m.to q.sent) m.k)) z ∙ numbered.1)

-- transactions ----------------------------------------------------------------------------------------

pub decided-com : (program : Program) (logs : Logs) (w : PlainWorld) → IsSound program logs w → (t c : ComId) (n a : ℕ) → IsTrue (is_a_tcom program t) → Contains (decisions_on (log_at logs t) c n) a → IsTrue (is_a_pcom program c)
decided-com program logs w sound t c n a is h =
    let r = decision-record (log_at logs t) c n a h in
    let b = the-ledger-book program logs w sound t is in
    decided-pcom program t (log_at logs t) (first_book program t) b.0 c n a r.0 b.1 r.1

pub not-aborted : {B : Type 0} (program : Program) (logs : Logs) (w : PlainWorld) → IsSound program logs w → (t c : ComId) (n a s : ℕ) (cause : AbortCause) → IsTrue (is_a_tcom program t) → Contains (decisions_on (log_at logs t) c n) a → Contains (log_at logs c) (Outcome s n (Some cause)) → B
not-aborted program logs w sound t c n a s cause is h k =
    let is_c = decided-com program logs w sound t c n a is h in
    ends-once program 0 (first_world program) w (history_of program logs) c (first_plain program c) n (entry t a (acts.Commit c n)) (entry c s (acts.Abort n)) sound.legal (first-there program c is_c)
    (decision-entry program logs t c n a is h) (own-stands program logs c (Outcome s n (Some cause)) (entry c s (acts.Abort n)) is_c k refl)
    (both (same_com c c) (n == n) (self-com c) (self n)) (both (same_com c c) (n == n) (self-com c) (self n)) (λ same. clash true refl (ap (λ (z : Entry). is_own z.act) (sym same)))
  where
    both : (u v : Bool) → u ≡ true → v ≡ true → u && v ≡ true
    both true v p q = q
    both false v p q = p

    self : (m : ℕ) → (m == m) ≡ true
    self m = grind arith

-- a decision stands in the log of a Tcom
pub decides-tcom : (program : Program) (logs : Logs) (w : PlainWorld) → IsLogList program logs → IsSound program logs w → (t c : ComId) (n a : ℕ) → Contains (decisions_on (log_at logs t) c n) a → IsTrue (is_a_tcom program t)
decides-tcom program logs w list sound t c n a h = by (is_a_tcom program t) refl (is_a_pcom program t) refl
  where
    by : (b : Bool) → is_a_tcom program t ≡ b → (d : Bool) → is_a_pcom program t ≡ d → IsTrue (is_a_tcom program t)
    by true is d is_d = is
    by false is true is_d = let g = the-state program logs w sound t is_d in no-decision program t (contents_of w t) (log_at logs t) g.0 c n a g.1 h
    by false is false is_d = empty a (subst (λ l. Contains (decisions_on l c n) a) (list.others t is_d is) h)

pub known : (program : Program) (logs : Logs) (w : PlainWorld) → IsLogList program logs → IsSound program logs w → (c : ComId) → IsTrue (is_a_pcom program c) → Known program logs w c
known program logs w list sound c is = record {
  is = is;
  last = g.0;
  is_last = g.1;
  whole = whole;
  tells = tells;
  once = λ t u n a b h k. let x = entry-decision program logs t c n a h in let y = entry-decision program logs u c n b k in once t u n a b x.1 y.1;
  open_last = open_last;
  decided = decided;
  answers = answers;
}
  where
    g : (z : Hist) × (state_in program logs w c ≡ Some z) × IsOkAnd (plain_run_of program (history_before program logs c)) (λ v. pcom_at v c ≡ Some z.plain)
    g = the-state program logs w sound c is

    whole : (s : ComId) (k stamp handler : ℕ) (args : List ℤ) → Contains (log_at logs c) (TakeWhole s k stamp handler args) → (m : Send) → message_of w s c k ≡ Some m → (m.handler ≡ handler) × (m.args ≡ args)
    whole s k stamp handler args h m there =
        let z = contains-split (log_at logs c) (TakeWhole s k stamp handler args) h in
        let is_s = whole-from program c (contents_of w c) (log_at logs c) g.0 s k stamp handler args g.1 h in
        let x = open-content (λ (q : Hist). (m : Msg) × Contains q.sent m × (m.to ≡ c) × (m.k ≡ k) × (m.stamp < stamp) × ((m.handler ≡ handler) × (m.args ≡ args))) (state_in program logs w s) (sound.whole_sent c s z.0 z.1 k stamp handler args z.2) in
        same x.0 x.1 x.2 is_s
      where
        same : (q : Hist) → state_in program logs w s ≡ Some q → ((n : Msg) × Contains q.sent n × (n.to ≡ c) × (n.k ≡ k) × (n.stamp < stamp) × ((n.handler ≡ handler) × (n.args ≡ args))) → IsTrue (is_a_pcom program s) → (m.handler ≡ handler) × (m.args ≡ args)
        same q is_q y is_s =
            let z = (sent-in-world program logs w sound s is_s q is_q y.0 y.1).1 in
            let eq : the-send y.0 ≡ m = same_Some (the-send y.0) m (sym z ∙ ap (λ d. message_of w s d y.0.k) y.2 ∙ ap (message_of w s c) y.3 ∙ there) in
            (ap (λ (v : Send). v.handler) (sym eq) ∙ y.5.0, ap (λ (v : Send). v.args) (sym eq) ∙ y.5.1)

    tells : (t : ComId) (n a : ℕ) → Contains (history_of program logs) (entry t a (acts.Commit c n)) → has_outcome (log_at logs c) n ≡ true → (s : ℕ) × Contains (log_at logs c) (Outcome s n None)
    tells t n a h has = at x.0 x.1 x.2
      where
        x : (s : ℕ) × (abort : Option AbortCause) × Contains (log_at logs c) (Outcome s n abort)
        x = the-outcome (log_at logs c) n has

        at : (s : ℕ) (abort : Option AbortCause) → Contains (log_at logs c) (Outcome s n abort) → (s : ℕ) × Contains (log_at logs c) (Outcome s n None)
        at s None k = (s, k)
        at s (Some cause) k = let y = entry-decision program logs t c n a h in not-aborted program logs w sound t c n a s cause y.0 y.1 k

    once : (t u : ComId) (n a b : ℕ) → Contains (decisions_on (log_at logs t) c n) a → Contains (decisions_on (log_at logs u) c n) b → entry t a (acts.Commit c n) ≡ entry u b (acts.Commit c n)
    once t u n a b h k =
        let x = sound.decided_once t u c n (some-length (decisions_on (log_at logs t) c n) a h) (some-length (decisions_on (log_at logs u) c n) b k) in
        let y = only-one (decisions_on (log_at logs t) c n) a b x.1 h (subst (λ v. Contains (decisions_on (log_at logs v) c n) b) (sym x.0) k) in
        ap (λ v. entry v a (acts.Commit c n)) x.0 ∙ ap (λ v. entry u v (acts.Commit c n)) y

    open_last : (t : ComId) (n a : ℕ) → Contains (history_of program logs) (entry t a (acts.Commit c n)) → has_outcome (log_at logs c) n ≡ false → g.0.plain.begun ≡ n
    open_last t n a h never =
        let y = entry-decision program logs t c n a h in
        let x = open-content (λ (q : Hist). IsTrue (is_committing q.stage) × (tcom_of q.stage ≡ Some t) × (q.plain.begun ≡ n)) (state_in program logs w c) (sound.unrecorded t c n a y.1 never) in
        ap (λ (q : Hist). q.plain.begun) (same_Some g.0 x.0 (sym g.1 ∙ x.1)) ∙ x.2.2

    decided : (s n : ℕ) → Contains (log_at logs c) (Outcome s n None) → (t : ComId) × (a : ℕ) × Contains (history_of program logs) (entry t a (acts.Commit c n)) × (a < s)
    decided s n h =
        let z = contains-split (log_at logs c) (Outcome s n None) h in
        let x = open-content (λ (b : Begun). (at : ℕ) × Contains (decisions_on (log_at logs b.tcom) c n) at × (at < s)) (option_and_then (λ h. opened h n) (state_in program logs w c)) (sound.commit_decided c z.0 z.1 n s z.2) in
        let y = x.2 in
        (x.0.tcom, y.0, decision-entry program logs x.0.tcom c n y.0 (decides-tcom program logs w list sound x.0.tcom c n y.0 y.1) y.1, y.2)

    answers : (t : ComId) (n a : ℕ) (front back : List Entry) (v : PlainWorld) (x : Talk) → history_of program logs ≡ front ++ entry t a (acts.Commit c n) ∷ back → plain_run_of program front ≡ Ok v → part_on program v t c ≡ Some x → map (λ g. g.value) (values_of (log_at logs c) n) ≡ x.answers
    answers t n a front back v x split run part =
        let y = entry-decision program logs t c n a (subst (λ l. Contains l (entry t a (acts.Commit c n))) (sym split) (Contains-append_right front (entry t a (acts.Commit c n) ∷ back) (entry t a (acts.Commit c n)) (in-head (entry t a (acts.Commit c n)) back))) in
        let r = decision-record (log_at logs t) c n a y.1 in
        let z = contains-split (log_at logs t) (Decided a c n r.0) r.1 in
        at r.0 (plain_run_of program front) run (part_on program v t c) part (sound.decided_whole t c z.0 z.1 a n r.0 z.2 front (back, a, split))
      where
        at : (writes : List (ℕ × ℤ)) (o : Result PlainWorld ℕ) → o ≡ Ok v → (p : Option Talk) → p ≡ Some x → IsOkAnd o (λ u. IsSomeAnd (part_on program u t c) (λ q. (writes ≡ puts_of q.asked) × (map (λ g. g.value) (values_of (log_at logs c) n) ≡ q.answers))) → map (λ g. g.value) (values_of (log_at logs c) n) ≡ x.answers
        at writes o is_o p is_p z =
            let y = subst (λ q. IsOkAnd q (λ u. IsSomeAnd (part_on program u t c) (λ q. (writes ≡ puts_of q.asked) × (map (λ g. g.value) (values_of (log_at logs c) n) ≡ q.answers)))) is_o z in
            (subst (λ q. IsSomeAnd q (λ q. (writes ≡ puts_of q.asked) × (map (λ g. g.value) (values_of (log_at logs c) n) ≡ q.answers))) part y).1

-- the run -----------------------------------------------------------------------------------------------

-- the Pcom behind the first entries of the history
pub record StandsAt (program : Program) (logs : Logs) (w : PlainWorld) (c : ComId) (front back : List Entry) : Type 0 where
  pub world : PlainWorld
  pub run : plain_run_of program front ≡ Ok world
  pub place : ℕ
  pub onward : run_from program place world back ≡ Ok w
  pub stands : Here program logs w c world back ⊎ IsOver c back

walk : (program : Program) (logs : Logs) (w : PlainWorld) (c : ComId) → Known program logs w c → Rises (history_of program logs) → (front es back : List Entry) → history_of program logs ≡ front ++ (es ++ back) → StandsAt program logs w c front (es ++ back) → StandsAt program logs w c (front ++ es) back
walk program logs w c k rises front [] back split a = subst (λ l. StandsAt program logs w c l back) (sym (append-nil front)) a
walk program logs w c k rises front (e ∷ es) back split a =
    subst (λ l. StandsAt program logs w c l back) (append_assoc front (e ∷ []) es)
    (walk program logs w c k rises (front ++ e ∷ []) es back (split ∙ sym (append_assoc front (e ∷ []) (es ++ back)))
    (record { world = s.0; run = run-more program 0 (first_world program) a.world s.0 front e a.run s.1; place = a.place + 1; onward = s.2; stands = by a.stands }))
  where
    s : (u : PlainWorld) × (plain_step program a.world e ≡ Some u) × (run_from program (a.place + 1) u (es ++ back) ≡ Ok w)
    s = run-step program a.place a.world w e (es ++ back) a.onward

    by : Here program logs w c a.world (e ∷ (es ++ back)) ⊎ IsOver c (e ∷ (es ++ back)) → Here program logs w c s.0 (es ++ back) ⊎ IsOver c (es ++ back)
    by (inl h) = next-here program logs w c k front (es ++ back) (es ++ back) a.world s.0 e split refl a.run s.1 (rises-split front (es ++ back) e (subst Rises split rises)).1 (λ y i. subst (λ l. Contains l y) (sym split) (Contains-append_right front (e ∷ (es ++ back)) y i))
        (λ d j m x. message-lasts program a.place a.world w (e ∷ (es ++ back)) d c j m a.onward x) h
    by (inr o) = inr (λ y i. o y (in-tail e y (es ++ back) i))

pub stands-at : (program : Program) (logs : Logs) (w : PlainWorld) → IsLogList program logs → IsSound program logs w → (c : ComId) → IsTrue (is_a_pcom program c) → (front back : List Entry) → history_of program logs ≡ front ++ back → StandsAt program logs w c front back
stands-at program logs w list sound c is front back split = walk program logs w c k (sound-rises program logs w sound) [] front back split (subst (StandsAt program logs w c []) split start)
  where
    k : Known program logs w c
    k = known program logs w list sound c is

    commit_in : (t : ComId) (n a : ℕ) → Contains (history_of program logs) (entry t a (acts.Commit c n)) → (b : Bool) → has_outcome (log_at logs c) n ≡ b → ((s : ℕ) × Contains (log_at logs c) (Outcome s n None)) ⊎ (has_outcome (log_at logs c) n ≡ false)
    commit_in t n a h true e = inl (k.tells t n a h e)
    commit_in t n a h false e = inr e

    start : StandsAt program logs w c [] (history_of program logs)
    start = record {
      world = first_world program;
      run = refl;
      place = 0;
      onward = sound.legal;
      stands = inl (record {
        done = [];
        rest = log_at logs c;
        split = refl;
        now = first_hist program c;
        is_now = refl;
        cell = first-there program c is;
        own_in = λ e h here own. own-record program logs c e h here own;
        own_out = λ r e h own. own-stands program logs c r e is h own;
        commit_in = λ t n a h. commit_in t n a h (has_outcome (log_at logs c) n) refl;
        commit_out = λ s n h. k.decided s n h;
      });
    }
