-- How the crash-free world comes on along the history.
use Rattle.std.proofs.Common.{◌≡◌, refl, ◌∙◌, ap, sym, subst, ℕ, ◌<◌, Bool, true, false, cond, not, ◌&&◌, ◌==◌, List, [], ◌∷◌, ◌++◌, length, find, slice_get, Option, Some, None, option_to_list, arith, ◌⊎◌, inl, inr}
use Rattle.std.specs.Prelude.{Contains, IsTrue, MatchOption, ⊤}
use Rattle.std.proofs.lemmas.List.{append_assoc}
use Rattle.std.proofs.lemmas.List.Elements.{Contains-append_left, Contains-append_right, Contains-append_cases, Contains-push, Contains-push_cases}
use Rattle.std.proofs.lemmas.Option.{same_Some}
use Rattle.std.proofs.lemmas.List.Folds.{list_any_at}
use Rattle.ic_base.specs.declared.messages.ComId.{ComId}
use Rattle.ic_base.specs.declared.messages.Entry.{Entry}
use Rattle.ic_base.specs.declared.messages.Act.{Act}
use Rattle.ic_base.specs.declared.messages.Act.TheVariants as acts
use Rattle.ic_base.specs.declared.messages.Kind.{Kind}
use Rattle.ic_base.specs.declared.messages.Kind.TheVariants as kinds
use Rattle.ic_base.specs.declared.scenario.Component.{Component}
use Rattle.ic_base.specs.declared.scenario.Program.{Program}
use Rattle.ic_base.specs.declared.record.Record.{Record}
use Rattle.ic_base.specs.declared.record.Record.TheVariants.{Take, TakeWhole, Input, Value, Outcome, Released, Shown, Checkpoint, Epoch, Decided}
use Rattle.ic_base.specs.Programs.{same_com, is_a_pcom, is_a_tcom, is_pcom, is_tcom, declares}
use Rattle.def_plain.specs.declared.world.PlainPcom.{PlainPcom}
use Rattle.def_plain.specs.Cell.{Touch, cell_step}
use Rattle.def_plain.specs.Plain.{PlainWorld, pcom_at}
use Rattle.def_plain.specs.History.{entry, entry_of, history_of}
use Rattle.def_state.specs.Txn.{is_idle}
use Rattle.def_state.specs.Fits.{fits}
use Rattle.def_state.specs.Hist.{Hist, Contents, apply, apply_all, after, first_hist, recorded, standing_of, touch_of, touches, cells}
use Rattle.def_state.proofs.Touches.{plain-cells}
use Rattle.def_facts.specs.Logs.{Logs, log_at, Stands, contents_in, ends_txn, has_outcome, before_outcome, decisions_on, decides_txn}
use Rattle.def_facts.specs.Pcom.{state_after, IsCommittingAt}
use Rattle.def_facts.specs.Tcom.{DecidedFacts}
use Rattle.def_facts.specs.Sound.{is_unrecorded}
use Rattle.def_facts.specs.World.{IsBelow, Past}
use Rattle.def_step.specs.Tcom.{Book, book_of}
use Rattle.law_replay.specs.Closing.{IsClosed}
use Rattle.law_replay.proofs.Committing.{outcomes_close}
use Rattle.law_replay.proofs.Growing.{apply_none, applied_twice, prefixes_replay}
use Rattle.law_replay.proofs.Lists.{none-some, front as fst-true, back as snd-true, some-of, before-all, open-content, in-head, in-tail, empty, head-or-tail, contains-split, passed}
use Rattle.law_replay.proofs.Prefixes.{prefix-self}
use Rattle.law_sound.specs.Order.{Explains, Rises, touching, is_commit_of}
use Rattle.law_sound.proofs.Deciding.{decision-record, commits-is, declared-tcom}
use Rattle.law_sound.proofs.Decisions.{agreed}
use Rattle.law_sound.proofs.Histories.{history_has_entries, entries_are_in_history}
use Rattle.law_sound.proofs.Positions.{told, Touched, touched, pair}
use Rattle.law_sound.proofs.Rising.{Below, to-below, below-never, history_rises}
use Rattle.law_sound.specs.Assembly.{PcomReached}
use Rattle.law_replay.proofs.Members.{mapped-keeps}

-- order -------------------------------------------------------------------------------------------

pub rises-split : (front back : List Entry) (e : Entry) → Rises (front ++ e ∷ back) → ((x : Entry) → Contains front x → Below x e) × ((x : Entry) → Contains back x → Below e x)
rises-split [] back e r = ((λ x h. empty x h), (λ x h. to-below e x (r.0 x h)))
rises-split (y ∷ ys) back e r =
    let more = rises-split ys back e r.1 in
    ((λ x h. by x (head-or-tail y x ys h) more.0), more.1)
  where
    by : (x : Entry) → (y ≡ x) ⊎ Contains ys x → ((z : Entry) → Contains ys z → Below z e) → Below x e
    by x (inl a) m = subst (λ z. Below z e) a (to-below y e (r.0 e (Contains-append_right ys (e ∷ back) e (in-head e back))))
    by x (inr b) m = m x b

pub find-passes : {A : Type 0} (test : A → Bool) (xs : List A) (x : A) → find test xs ≡ Some x → (test x ≡ true) × Contains xs x
find-passes test [] x e = none-some x e
find-passes test (y ∷ ys) x e = at (test y) refl e (find-passes test ys x)
  where
    at : (b : Bool) → test y ≡ b → cond b (Some y) (find test ys) ≡ Some x → (find test ys ≡ Some x → (test x ≡ true) × Contains ys x) → (test x ≡ true) × Contains (y ∷ ys) x
    at true is f more = let s = same_Some y x f in (subst (λ z. test z ≡ true) s is, subst (Contains (y ∷ ys)) s (in-head y ys))
    at false is f more = let z = more f in (z.0, in-tail y x ys z.1)

pub the-pcom : (program : Program) (c : ComId) → IsTrue (is_a_pcom program c) → (x : Component) × (slice_get program.components c.0 ≡ Some x) × (x.kind ≡ kinds.Pcom)
the-pcom program c is = at (slice_get program.components c.0) is
  where
    kind : (k : Kind) → is_pcom k ≡ true → k ≡ kinds.Pcom
    kind kinds.Pcom e = refl
    kind kinds.Tcom e = absurd (cc)
    kind kinds.Xcom e = absurd (cc)

    at : (o : Option Component) → declares (λ d. is_pcom d.kind) o ≡ true → (x : Component) × (o ≡ Some x) × (x.kind ≡ kinds.Pcom)
    at None e = absurd (cc)
    at (Some x) e = (x, refl, kind x.kind e)

-- an entry that touches c stands in the history
pub touching-stands : (program : Program) (logs : Logs) (c : ComId) (r : Record) (e : Entry) → IsTrue (is_a_pcom program c) → Contains (log_at logs c) r → touching program logs c r ≡ Some e → Contains (history_of program logs) e
touching-stands program logs c r e is h te = by (touched program logs c r e te)
  where
    by : Touched program logs c r e → Contains (history_of program logs) e
    by (inl x) = let d = the-pcom program c is in entries_are_in_history program logs e c d.0 r d.1 h (ap (λ k. entry_of k c r) d.2 ∙ x.0)
    by (inr x) = (find-passes (λ (z : Entry). is_commit_of c x.1 z.act) (history_of program logs) e x.3).1

-- what a commit that isn't recorded tells ------------------------------------------------------------

-- the Pcom commits a decided transaction that it hasn't ended
pub committing-at : (program : Program) (found logs : Logs) (past : Past) → Explains program found logs past → (t c : ComId) (n a : ℕ) → IsTrue (is_a_tcom program t) → Contains (decisions_on (log_at logs t) c n) a → has_outcome (log_at logs c) n ≡ false →
    (h : Hist) × (state_after program c (past.received c) (log_at logs c) ≡ Some h) × (h.plain.begun ≡ n) × (is_idle h.stage ≡ false)
committing-at program found logs past f t c n a is h never =
    let r = decision-record (log_at logs t) c n a h in
    let s = contains-split (log_at logs t) (Decided a c n r.0) r.1 in
    let y = open-content (λ (b : Book). DecidedFacts t (length (log_at found t)) (past.sent t) (past.received t) s.0 b a c n r.0) (book_of program t s.0) ((f.tcoms t is).1.decisions s.0 s.1 a c n r.0 s.2) in
    let d = y.2 in
    let x = agreed program found logs past f t c s.0 y.0 a n r.0 d in
    let z = open-content (IsCommittingAt t n d.place d.session d.asked_at) (state_after program c (past.received c) (before_outcome (log_at logs c) n)) x.ready.5 in
    (z.0, ap (state_after program c (past.received c)) (sym (before-all (ends_txn n) (log_at logs c) never)) ∙ z.1, z.2.1, ap is_idle z.2.0)

pub unrecorded-is : (log : List Record) (c : ComId) (act : Act) → is_unrecorded log c act ≡ true → (n : ℕ) × (is_commit_of c n act ≡ true) × (has_outcome log n ≡ false)
unrecorded-is log c (acts.Commit d n) e =
    (n, both (same_com c d) (n == n) (fst-true (same_com c d) (not (has_outcome log n)) e) (self n), flip (has_outcome log n) (snd-true (same_com c d) (not (has_outcome log n)) e))
  where
    self : (m : ℕ) → (m == m) ≡ true
    self m = grind arith

    both : (u v : Bool) → u ≡ true → v ≡ true → u && v ≡ true
    both true v p q = q
    both false v p q = p

    flip : (v : Bool) → not v ≡ true → v ≡ false
    flip true p = absurd (cc)
    flip false p = refl
unrecorded-is log c (acts.Take s k) e = absurd (cc)
unrecorded-is log c (acts.Input h args) e = absurd (cc)
unrecorded-is log c (acts.Abort n) e = absurd (cc)

to-entry : (s : ℕ) (c : ComId) (d : ℕ) (t : ComId) (x y : Entry) → x.stamp ≡ s → x.com ≡ c → y.stamp ≡ d → y.com ≡ t → IsBelow s c d t → Below x y
to-entry s c d t x y a b p q (inl lt) = inl (omega (arith, lt, a, p))
to-entry s c d t x y a b p q (inr z) = inr (a ∙ z.0 ∙ sym p, subst (λ (v : ComId). v.0 < y.com.0) (sym b) (subst (λ (v : ComId). c.0 < v.0) (sym q) z.1))

-- all that touches c stands before a commit that it hasn't recorded
pub unrecorded-last : (program : Program) (found logs : Logs) (past : Past) → Explains program found logs past → (c : ComId) → IsTrue (is_a_pcom program c) → (r : Record) (x y : Entry) →
    Contains (log_at logs c) r → touching program logs c r ≡ Some x → Contains (history_of program logs) y → is_unrecorded (log_at logs c) c y.act ≡ true → Below x y
unrecorded-last program found logs past f c is r x y inside tx stands un = by (touched program logs c r x tx)
  where
    u : (n : ℕ) × (is_commit_of c n y.act ≡ true) × (has_outcome (log_at logs c) n ≡ false)
    u = unrecorded-is (log_at logs c) c y.act un

    n : ℕ
    n = u.0

    q : (t : ComId) × (z : Component) × (w : Record) × (slice_get program.components t.0 ≡ Some z) × Contains (log_at logs t) w × (entry_of z.kind t w ≡ Some y)
    q = history_has_entries program logs y stands

    d : (is_tcom q.1.kind ≡ true) × (a : ℕ) × (decides_txn c n q.2 ≡ Some a) × (y ≡ entry q.0 a (acts.Commit c n))
    d = commits-is q.1 q.0 c n q.2 y q.5 u.1

    is_t : IsTrue (is_a_tcom program q.0)
    is_t = declared-tcom program q.0 q.1 q.3 d.0

    dec : Contains (decisions_on (log_at logs q.0) c n) d.1
    dec = mapped-keeps (decides_txn c n) (log_at logs q.0) q.2 d.1 q.4 d.2

    s : (pre : List Record) × (post : List Record) × (log_at logs c ≡ pre ++ r ∷ post)
    s = contains-split (log_at logs c) r inside

    whole : before_outcome (log_at logs c) n ≡ log_at logs c
    whole = before-all (ends_txn n) (log_at logs c) u.2

    by : Touched program logs c r x → Below x y
    by (inl z) =
        to-entry x.stamp c d.1 q.0 x y refl z.2 (ap (λ (v : Entry). v.stamp) d.3) (ap (λ (v : Entry). v.com) d.3)
        (subst (λ o. MatchOption o ⊤ (λ v. IsBelow v.stamp c d.1 q.0)) z.0 (f.in_order.own q.0 c n d.1 dec r (subst (λ l. Contains l r) (sym whole) inside)))
    by (inr z) =
        let t = told program found logs past f c is s.0 s.1 z.1 z.0 (subst (λ v. Stands (log_at logs c) s.0 v s.1) z.2 s.2) in
        let me : entry t.tcom t.at (acts.Commit c z.1) ≡ x = same_Some (entry t.tcom t.at (acts.Commit c z.1)) x (sym t.commit ∙ z.3) in
        to-entry t.at t.tcom d.1 q.0 x y (ap (λ (v : Entry). v.stamp) (sym me)) (ap (λ (v : Entry). v.com) (sym me)) (ap (λ (v : Entry). v.stamp) d.3) (ap (λ (v : Entry). v.com) d.3)
        (f.in_order.earlier q.0 t.tcom c n z.1 d.1 t.at dec t.decision (smaller z.0 z.1 z.2))
      where
        smaller : (stamp m : ℕ) → r ≡ Outcome stamp m None → m < n
        smaller stamp m is_r = closed (outcomes_close program c (contents_in (past.received c)) (log_at logs c) m (first_hist program c) h.0 h.1 has)
          where
            h : (g : Hist) × (state_after program c (past.received c) (log_at logs c) ≡ Some g) × (g.plain.begun ≡ n) × (is_idle g.stage ≡ false)
            h = committing-at program found logs past f q.0 c n d.1 is_t dec u.2

            ends : (m == m) ≡ true
            ends = grind arith

            has : has_outcome (log_at logs c) m ≡ true
            has = list_any_at (ends_txn m) (log_at logs c) inside.0 r inside.1 (ap (ends_txn m) (inside.2 ∙ is_r) ∙ ends)

            clash : {B : Type 0} (v : Bool) → v ≡ true → v ≡ false → B
            clash true a b = absurd (cc)
            clash false a b = absurd (cc)

            closed : IsClosed m h.0 → m < n
            closed (inl lt) = omega (arith, lt, h.2)
            closed (inr v) = clash (is_idle h.0.stage) v.1 h.3

-- records that touch nothing ------------------------------------------------------------------------

record-stays : (program : Program) (found logs : Logs) (past : Past) → Explains program found logs past → (c : ComId) → IsTrue (is_a_pcom program c) → (pre post : List Record) (h g : Hist) (r : Record) → Stands (log_at logs c) pre r post →
    ((x : Entry) → touching program logs c r ≡ Some x → ⊥) → recorded program c (contents_in (past.received c)) h r ≡ Some g → g.plain ≡ h.plain
record-stays program found logs past f c is pre post h g (Take from k stamp) st never e = absurd (never (entry c stamp (acts.Take from k)) refl)
record-stays program found logs past f c is pre post h g (TakeWhole from k stamp handler args) st never e = absurd (never (entry c stamp (acts.Take from k)) refl)
record-stays program found logs past f c is pre post h g (Input stamp handler args) st never e = absurd (never (entry c stamp (acts.Input handler args)) refl)
record-stays program found logs past f c is pre post h g (Outcome stamp n None) st never e = let t = told program found logs past f c is pre post n stamp st in absurd (never (entry t.tcom t.at (acts.Commit c n)) t.commit)
record-stays program found logs past f c is pre post h g (Outcome stamp n (Some cause)) st never e = absurd (never (entry c stamp (acts.Abort n)) refl)
record-stays program found logs past f c is pre post h g (Value n place session value) st never e = ap (λ (z : Hist). z.plain) (sym (same_Some _ g e))
record-stays program found logs past f c is pre post h g (Released to k) st never e = ap (λ (z : Hist). z.plain) (sym (same_Some _ g e))
record-stays program found logs past f c is pre post h g (Shown m) st never e = ap (λ (z : Hist). z.plain) (sym (same_Some _ g e))
record-stays program found logs past f c is pre post h g (Checkpoint image) st never e = ap (λ (z : Hist). z.plain) (sym (same_Some h g e))
record-stays program found logs past f c is pre post h g (Epoch epoch) st never e = none-some g e
record-stays program found logs past f c is pre post h g (Decided stamp d n writes) st never e = none-some g e

pub plain-stays : (program : Program) (found logs : Logs) (past : Past) → Explains program found logs past → (c : ComId) → IsTrue (is_a_pcom program c) → (pre rs post : List Record) (h g : Hist) → log_at logs c ≡ pre ++ (rs ++ post) →
    ((r : Record) (x : Entry) → Contains rs r → touching program logs c r ≡ Some x → ⊥) → apply_all program c (contents_in (past.received c)) (Some h) rs ≡ Some g → g.plain ≡ h.plain
plain-stays program found logs past f c is pre [] post h g log never e = ap (λ (z : Hist). z.plain) (sym (same_Some h g e))
plain-stays program found logs past f c is pre (r ∷ rs) post h g log never e =
    at (apply program c (contents_in (past.received c)) h r) refl e
    (λ y. plain-stays program found logs past f c is (pre ++ r ∷ []) rs post y g (log ∙ sym (append_assoc pre (r ∷ []) (rs ++ post))) (λ q x k. never q x (in-tail r q rs k)))
  where
    at : (o : Option Hist) → apply program c (contents_in (past.received c)) h r ≡ o → apply_all program c (contents_in (past.received c)) o rs ≡ Some g →
        ((y : Hist) → apply_all program c (contents_in (past.received c)) (Some y) rs ≡ Some g → g.plain ≡ y.plain) → g.plain ≡ h.plain
    at None was k more = none-some g (sym (apply_none program c (contents_in (past.received c)) rs) ∙ k)
    at (Some y) was k more =
        more y k ∙ record-stays program found logs past f c is pre (rs ++ post) h y r log (λ x. never r x (in-head r rs)) (passed (fits program c (standing_of program c h) r) (recorded program c (contents_in (past.received c)) h r) y was).1

-- the next record that touches ------------------------------------------------------------------------

pub record Next (program : Program) (logs : Logs) (past : Past) (c : ComId) (done left : List Record) (plain : PlainPcom) (r : Record) : Type 0 where
  pub skip : List Record
  pub rest : List Record
  pub left_is : left ≡ skip ++ r ∷ rest
  pub quiet : (q : Record) (x : Entry) → Contains skip q → touching program logs c q ≡ Some x → ⊥
  pub before : Hist
  pub is_before_state : state_after program c (past.received c) (done ++ skip) ≡ Some before
  pub same : before.plain ≡ plain
  pub behind : Hist
  pub applied : apply program c (contents_in (past.received c)) before r ≡ Some behind

pub next : (program : Program) (found logs : Logs) (past : Past) → Explains program found logs past → (c : ComId) → IsTrue (is_a_pcom program c) → (front back : List Entry) (e : Entry) (w : PlainWorld) → history_of program logs ≡ front ++ e ∷ back →
    (p : PcomReached program logs past c front w) → (r : Record) → Contains (log_at logs c) r → touching program logs c r ≡ Some e → Next program logs past c p.done p.left p.state.plain r
next program found logs past f c is front back e w split p r inside te = in-left where-it-is
  where
    order : ((x : Entry) → Contains front x → Below x e) × ((x : Entry) → Contains back x → Below e x)
    order = rises-split front back e (subst Rises split (history_rises program found logs past f))

    k : Contents
    k = contents_in (past.received c)

    where-it-is : Contains p.left r
    where-it-is = by (Contains-append_cases p.done p.left r (subst (λ l. Contains l r) p.split inside))
      where
        by : Contains p.done r ⊎ Contains p.left r → Contains p.left r
        by (inl a) = let b = order.0 e (p.inside r e a te) in below-never e e b b
        by (inr b) = b

    in-left : Contains p.left r → Next program logs past c p.done p.left p.state.plain r
    in-left h = step (apply program c k middle.0 r) refl middle.2
      where
        s : (pre : List Record) × (post : List Record) × (p.left ≡ pre ++ r ∷ post)
        s = contains-split p.left r h

        log : log_at logs c ≡ p.done ++ (s.0 ++ r ∷ s.1)
        log = p.split ∙ ap (λ l. p.done ++ l) s.2

        quiet : (q : Record) (x : Entry) → Contains s.0 q → touching program logs c q ≡ Some x → ⊥
        quiet q x hq tq = by (Contains-append_cases front (e ∷ back) x (subst (λ l. Contains l x) split stands))
          where
            v : (pre : List Record) × (post : List Record) × (s.0 ≡ pre ++ q ∷ post)
            v = contains-split s.0 q hq

            in-log : Contains (log_at logs c) q
            in-log = subst (λ l. Contains l q) (sym log) (Contains-append_right p.done (s.0 ++ r ∷ s.1) q (Contains-append_left s.0 (r ∷ s.1) q hq))

            stands : Contains (history_of program logs) x
            stands = touching-stands program logs c q x is in-log tq

            shape : log_at logs c ≡ (p.done ++ v.0) ++ q ∷ (v.1 ++ r ∷ s.1)
            shape = log ∙ ap (λ l. p.done ++ (l ++ r ∷ s.1)) v.2 ∙ ap (λ l. p.done ++ l) (append_assoc v.0 (q ∷ v.1) (r ∷ s.1)) ∙ sym (append_assoc p.done v.0 (q ∷ (v.1 ++ r ∷ s.1)))

            earlier : Below x e
            earlier = to-below x e (pair program found logs past f c is (p.done ++ v.0) v.1 s.1 q r x e shape tq te)

            left-has : Contains p.left q
            left-has = subst (λ l. Contains l q) (sym s.2) (Contains-append_left s.0 (r ∷ s.1) q hq)

            last : (e ≡ x) ⊎ Contains back x → ⊥
            last (inl same) = let b = subst (λ z. Below z e) (sym same) earlier in below-never e e b b
            last (inr b) = below-never x e earlier (order.1 x b)

            by : Contains front x ⊎ Contains (e ∷ back) x → ⊥
            by (inl a) = p.outside q x left-has tq a
            by (inr b) = last (head-or-tail e x back b)

        g : (z : Hist) × (after program c k (log_at logs c) ≡ Some z)
        g = some-of (after program c k (log_at logs c)) (f.pcoms c is).whole.replays

        middle : (z : Hist) × (after program c k (p.done ++ s.0) ≡ Some z) × (apply_all program c k (Some z) (r ∷ s.1) ≡ Some g.0)
        middle = prefixes_replay program c k (p.done ++ s.0) (r ∷ s.1) g.0 (ap (after program c k) (append_assoc p.done s.0 (r ∷ s.1) ∙ sym log) ∙ g.1)

        skipped : apply_all program c k (Some p.state) s.0 ≡ Some middle.0
        skipped = sym (applied_twice program c k (Some (first_hist program c)) p.done s.0 ∙ ap (λ o. apply_all program c k o s.0) p.is_state) ∙ middle.1

        same : middle.0.plain ≡ p.state.plain
        same = plain-stays program found logs past f c is p.done s.0 (r ∷ s.1) p.state middle.0 log quiet skipped

        step : (o : Option Hist) → apply program c k middle.0 r ≡ o → apply_all program c k o s.1 ≡ Some g.0 → Next program logs past c p.done p.left p.state.plain r
        step None was z = none-some g.0 (sym (apply_none program c k s.1) ∙ z)
        step (Some y) was z = record { skip = s.0; rest = s.1; left_is = s.2; quiet = quiet; before = middle.0; is_before_state = middle.1; same = same; behind = y; applied = was }

-- the Pcom has come to the record
pub advance : (program : Program) (found logs : Logs) (past : Past) → Explains program found logs past → (c : ComId) → IsTrue (is_a_pcom program c) → (front back : List Entry) (e : Entry) (w v : PlainWorld) → history_of program logs ≡ front ++ e ∷ back →
    (p : PcomReached program logs past c front w) → (r : Record) → touching program logs c r ≡ Some e → (n : Next program logs past c p.done p.left p.state.plain r) → pcom_at v c ≡ Some n.behind.plain → PcomReached program logs past c (front ++ e ∷ []) v
advance program found logs past f c is front back e w v split p r te n there = record {
  done = (p.done ++ n.skip) ++ r ∷ [];
  left = n.rest;
  split = p.split ∙ ap (λ l. p.done ++ l) n.left_is ∙ sym (append_assoc p.done n.skip (r ∷ n.rest)) ∙ sym (append_assoc (p.done ++ n.skip) (r ∷ []) n.rest);
  inside = λ q x h tq. within q x tq (Contains-push_cases (p.done ++ n.skip) r q h);
  outside = λ q x h tq a. without q x h tq (Contains-push_cases front e x a);
  state = n.behind;
  is_state = applied_twice program c k (Some (first_hist program c)) (p.done ++ n.skip) (r ∷ []) ∙ ap (λ o. apply_all program c k o (r ∷ [])) n.is_before_state ∙ n.applied;
  cell = n.behind.plain;
  is_cell = there;
  grows = prefix-self n.behind.plain.sent;
  exact = λ all. refl;
}
  where
    k : Contents
    k = contents_in (past.received c)

    within : (q : Record) (x : Entry) → touching program logs c q ≡ Some x → Contains (p.done ++ n.skip) q ⊎ (r ≡ q) → Contains (front ++ e ∷ []) x
    within q x tq (inr same) = subst (Contains (front ++ e ∷ [])) (same_Some e x (sym te ∙ ap (touching program logs c) same ∙ tq)) (Contains-push front e)
    within q x tq (inl h) = by (Contains-append_cases p.done n.skip q h)
      where
        by : Contains p.done q ⊎ Contains n.skip q → Contains (front ++ e ∷ []) x
        by (inl a) = Contains-append_left front (e ∷ []) x (p.inside q x a tq)
        by (inr b) = absurd (n.quiet q x b tq)

    without : (q : Record) (x : Entry) → Contains n.rest q → touching program logs c q ≡ Some x → Contains front x ⊎ (e ≡ x) → ⊥
    without q x h tq (inl a) = p.outside q x (subst (λ l. Contains l q) (sym n.left_is) (Contains-append_right n.skip (r ∷ n.rest) q (in-tail r q n.rest h))) tq a
    without q x h tq (inr same) =
        let v2 = contains-split n.rest q h in
        let shape : log_at logs c ≡ (p.done ++ n.skip) ++ r ∷ (v2.0 ++ q ∷ v2.1) = p.split ∙ ap (λ l. p.done ++ l) n.left_is ∙ sym (append_assoc p.done n.skip (r ∷ n.rest)) ∙ ap (λ l. (p.done ++ n.skip) ++ r ∷ l) v2.2 in
        let b = subst (Below e) (sym same) (to-below e x (pair program found logs past f c is (p.done ++ n.skip) v2.0 v2.1 r q e x shape te tq)) in
        below-never e e b b

-- before an entry that touches c by a record, the crash-free world has c exactly where its log leads
pub is-exact : (program : Program) (found logs : Logs) (past : Past) → Explains program found logs past → (c : ComId) → IsTrue (is_a_pcom program c) → (front back : List Entry) (e : Entry) (w : PlainWorld) → history_of program logs ≡ front ++ e ∷ back →
    (p : PcomReached program logs past c front w) → (r : Record) → Contains (log_at logs c) r → touching program logs c r ≡ Some e → p.cell ≡ p.state.plain
is-exact program found logs past f c is front back e w split p r inside te = p.exact (λ y h. at (is_unrecorded (log_at logs c) c y.act) y h refl)
  where
    order : ((x : Entry) → Contains front x → Below x e) × ((x : Entry) → Contains back x → Below e x)
    order = rises-split front back e (subst Rises split (history_rises program found logs past f))

    at : (b : Bool) (y : Entry) → Contains front y → is_unrecorded (log_at logs c) c y.act ≡ b → is_unrecorded (log_at logs c) c y.act ≡ false
    at false y h un = un
    at true y h un =
        let stands : Contains (history_of program logs) y = subst (λ l. Contains l y) (sym split) (Contains-append_left front (e ∷ back) y h) in
        below-never e y (unrecorded-last program found logs past f c is r e y inside te stands un) (order.0 y h)

-- a Pcom that the entry doesn't touch stays where it is
pub stays-there : (program : Program) (logs : Logs) (past : Past) (c : ComId) (front : List Entry) (e : Entry) (w v : PlainWorld) → ((r : Record) → touching program logs c r ≡ Some e → ⊥) → pcom_at v c ≡ pcom_at w c → PcomReached program logs past c front w → PcomReached program logs past c (front ++ e ∷ []) v
stays-there program logs past c front e w v never same p = record {
  done = p.done;
  left = p.left;
  split = p.split;
  inside = λ r x h t. Contains-append_left front (e ∷ []) x (p.inside r x h t);
  outside = λ r x h t a. by r x h t (Contains-push_cases front e x a);
  state = p.state;
  is_state = p.is_state;
  cell = p.cell;
  is_cell = same ∙ p.is_cell;
  grows = p.grows;
  exact = λ all. p.exact (λ x h. all x (Contains-append_left front (e ∷ []) x h));
}
  where
    by : (r : Record) (x : Entry) → Contains p.left r → touching program logs c r ≡ Some x → Contains front x ⊎ (e ≡ x) → ⊥
    by r x h t (inl a) = p.outside r x h t a
    by r x h t (inr b) = never r (t ∙ ap Some (sym b))

-- what the record says to the cell is its step
pub cell-by : (program : Program) (c : ComId) (k : Contents) (h g : Hist) (r : Record) (t : Touch) → touch_of k h.now r ≡ Some t → apply program c k h r ≡ Some g → cell_step program c h.plain t ≡ Some g.plain
cell-by program c k h g r t is e =
    sym (ap (λ o. cells program c (Some h.plain) (option_to_list o ++ touches program c k (apply program c k h r) [])) is ∙ ap (λ o. cells program c (Some h.plain) ((t ∷ []) ++ touches program c k o [])) e)
    ∙ plain-cells program c k (r ∷ []) h g e
