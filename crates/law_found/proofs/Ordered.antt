-- Sound logs are in order.
use Rattle.std.proofs.Common.{◌≡◌, refl, ◌∙◌, ap, sym, subst, ℕ, ◌+◌, ◌<◌, ◌≤◌, Bool, true, false, ◌&&◌, ◌==◌, List, [], ◌∷◌, ◌++◌, Option, Some, None, cond, arith, ◌⊎◌, inl, inr}
use Rattle.std.specs.Prelude.{Contains, IsTrue, MatchOption, ⊤, Ok}
use Rattle.std.proofs.lemmas.List.{append_assoc}
use Rattle.std.proofs.lemmas.List.Elements.{Contains-append_right, Contains-append_cases}
use Rattle.std.proofs.lemmas.Option.{same_Some}
use Rattle.ic_base.specs.declared.messages.ComId.{ComId}
use Rattle.ic_base.specs.declared.messages.Entry.{Entry}
use Rattle.ic_base.specs.declared.messages.Act.{Act}
use Rattle.ic_base.specs.declared.messages.Act.TheVariants as acts
use Rattle.ic_base.specs.declared.messages.AbortCause.{AbortCause}
use Rattle.ic_base.specs.declared.scenario.Program.{Program}
use Rattle.ic_base.specs.declared.record.Record.{Record}
use Rattle.ic_base.specs.declared.record.Record.TheVariants.{Outcome}
use Rattle.ic_base.specs.Programs.{same_com, is_a_pcom, is_a_tcom}
use Rattle.def_plain.specs.Plain.{PlainWorld, plain_step, run_from}
use Rattle.def_plain.specs.History.{entry, pcom_entry, history_of}
use Rattle.def_state.specs.Hist.{Contents, first_hist}
use Rattle.def_facts.specs.Logs.{Logs, log_at, ends_txn, before, before_outcome, decisions_on}
use Rattle.def_facts.specs.Sound.{contents_of, IsSound}
use Rattle.def_facts.specs.World.{IsBelow}
use Rattle.law_replay.specs.Growing.{record_stamp}
use Rattle.law_found.specs.Past.{IsLogList}
use Rattle.law_sound.specs.Assembly.{is_own}
use Rattle.law_sound.specs.Order.{Rises}
use Rattle.law_found.specs.Touching.{touches_com}
use Rattle.law_replay.proofs.Lists.{in-head, in-tail, self-com, clash}
use Rattle.law_replay.proofs.Lists.{head-or-tail}
use Rattle.law_replay.proofs.Sends.{stamp-moves, stamps_are_below}
use Rattle.law_replay.proofs.Lists.{empty}
use Rattle.law_replay.proofs.Lists.{contains-split}
use Rattle.law_sound.proofs.Rising.{Below, own-entry}
use Rattle.law_sound.proofs.Reaching.{rises-split}
use Rattle.law_sound.proofs.Stepping.{own-is}
use Rattle.law_found.specs.Order.{LogsAreInOrder, DecidedIsNotAborted}
use Rattle.law_found.proofs.Runs.{Closed, InTxn, StepOf, step-of, ending-says, ends-in-txn, none-ends, run-step}
use Rattle.law_found.proofs.Walk.{is_touch, entry-touch, Known, Here, IsOver, Turn, in-rest, turn-below}
use Rattle.law_found.proofs.Walking.{txn-turn}
use Rattle.law_found.proofs.SoundLogs.{decision-entry, own-stands, sound-rises}
use Rattle.law_found.proofs.Sound.{decided-com, not-aborted, decides-tcom, known, stands-at, StandsAt}
use Rattle.law_replay.proofs.Members.{contains_any as any-has}

-- what stands before the first item that passes
before-in : {A : Type 0} (test : A → Bool) (xs : List A) (x : A) → Contains (before test xs) x → Contains xs x
before-in test [] x h = h
before-in test (y ∷ ys) x h = at (test y) h (before-in test ys x)
  where
    at : (b : Bool) → Contains (cond b [] (y ∷ before test ys)) x → (Contains (before test ys) x → Contains ys x) → Contains (y ∷ ys) x
    at true k more = empty x k
    at false k more = by (head-or-tail y x (before test ys) k)
      where
        by : (y ≡ x) ⊎ Contains (before test ys) x → Contains (y ∷ ys) x
        by (inl a) = subst (Contains (y ∷ ys)) a (in-head y ys)
        by (inr b) = in-tail y x ys (more b)

before-within : {A : Type 0} (test : A → Bool) (xs ys : List A) (y x : A) → test y ≡ true → Contains (before test (xs ++ y ∷ ys)) x → Contains xs x
before-within test [] ys y x is h = subst (λ b. Contains (cond b [] (y ∷ before test ys)) x) is h
before-within test (z ∷ zs) ys y x is h = at (test z) h (before-within test zs ys y x is)
  where
    at : (b : Bool) → Contains (cond b [] (z ∷ before test (zs ++ y ∷ ys))) x → (Contains (before test (zs ++ y ∷ ys)) x → Contains zs x) → Contains (z ∷ zs) x
    at true k more = empty x k
    at false k more = by (head-or-tail z x (before test (zs ++ y ∷ ys)) k)
      where
        by : (z ≡ x) ⊎ Contains (before test (zs ++ y ∷ ys)) x → Contains (z ∷ zs) x
        by (inl a) = subst (Contains (z ∷ zs)) a (in-head z zs)
        by (inr b) = in-tail z x zs (more b)

-- where the Pcom stands before a commit: its transaction is open there
pub record AtCommit (program : Program) (logs : Logs) (w : PlainWorld) (c t : ComId) (n a : ℕ) : Type 0 where
  pub front : List Entry
  pub back : List Entry
  pub split : history_of program logs ≡ front ++ entry t a (acts.Commit c n) ∷ back
  pub at : StandsAt program logs w c front (entry t a (acts.Commit c n) ∷ back)
  pub here : Here program logs w c at.world (entry t a (acts.Commit c n) ∷ back)
  pub txn : InTxn n here.now.plain

pub at-commit : (program : Program) (logs : Logs) (w : PlainWorld) → IsLogList program logs → IsSound program logs w → (t c : ComId) (n a : ℕ) → IsTrue (is_a_tcom program t) → Contains (decisions_on (log_at logs t) c n) a → AtCommit program logs w c t n a
at-commit program logs w list sound t c n a is h = by s.stands
  where
    e : Entry
    e = entry t a (acts.Commit c n)

    z : (front : List Entry) × (back : List Entry) × (history_of program logs ≡ front ++ e ∷ back)
    z = contains-split (history_of program logs) e (decision-entry program logs t c n a is h)

    s : StandsAt program logs w c z.0 (e ∷ z.1)
    s = stands-at program logs w list sound c (decided-com program logs w sound t c n a is h) z.0 (e ∷ z.1) z.2

    step : (v : PlainWorld) × (plain_step program s.world e ≡ Some v) × (run_from program (s.place + 1) v z.1 ≡ Ok w)
    step = run-step program s.place s.world w e z.1 s.onward

    both : (u v : Bool) → u ≡ true → v ≡ true → u && v ≡ true
    both true v p q = q
    both false v p q = p

    self : (m : ℕ) → (m == m) ≡ true
    self m = grind arith

    by : Here program logs w c s.world (e ∷ z.1) ⊎ IsOver c (e ∷ z.1) → AtCommit program logs w c t n a
    by (inr o) = clash (touches_com c e) (self-com c) (o e (in-head e z.1))
    by (inl h2) = record { front = z.0; back = z.1; split = z.2; at = s; here = h2; txn = txn (step-of program s.world step.0 c e h2.now.plain step.1 h2.cell) }
      where
        txn : StepOf program s.world step.0 c e.com e.act h2.now.plain → InTxn n h2.now.plain
        txn (inl x) = clash (same_com c c) (self-com c) x.0
        txn (inr x) = ends-in-txn program c h2.now.plain x.cell n x.touch (ending-says program s.world c t (acts.Commit c n) x.touch n (both (same_com c c) (n == n) (self-com c) (self n)) x.says) x.steps

below-is : (e x : Entry) (c : ComId) → e.com ≡ c → Below e x → IsBelow e.stamp c x.stamp x.com
below-is e x c same (inl lt) = inl lt
below-is e x c same (inr z) = inr (z.0, subst (λ (d : ComId). d.0 < x.com.0) same z.1)

own-before : (program : Program) (logs : Logs) (w : PlainWorld) → IsLogList program logs → IsSound program logs w → (t c : ComId) (n a : ℕ) → IsTrue (is_a_tcom program t) → Contains (decisions_on (log_at logs t) c n) a → (r : Record) → Contains (before_outcome (log_at logs c) n) r →
    (e : Entry) → pcom_entry c r ≡ Some e → IsBelow e.stamp c a t
own-before program logs w list sound t c n a is h r inside e own = which (Contains-append_cases z.front (commit ∷ z.back) e (subst (λ l. Contains l e) z.split stands))
  where
    commit : Entry
    commit = entry t a (acts.Commit c n)

    k : Contents
    k = contents_of w c

    is_c : IsTrue (is_a_pcom program c)
    is_c = decided-com program logs w sound t c n a is h

    kn : Known program logs w c
    kn = known program logs w list sound c is_c

    z : AtCommit program logs w c t n a
    z = at-commit program logs w list sound t c n a is h

    stands : Contains (history_of program logs) e
    stands = own-stands program logs c r e is_c (before-in (ends_txn n) (log_at logs c) r inside) own

    order : ((x : Entry) → Contains z.front x → Below x commit) × ((x : Entry) → Contains z.back x → Below commit x)
    order = rises-split z.front z.back commit (subst Rises z.split (sound-rises program logs w sound))

    self : (m : ℕ) → (m == m) ≡ true
    self m = grind arith

    late : Contains z.back e → ⊥
    late i = last (txn-turn program logs w c kn z.at.world (commit ∷ z.back) z.here n z.txn (any-has is_touch z.here.rest q.0 q.1 (entry-touch c q.0 e q.2)))
      where
        q : (r : Record) × Contains z.here.rest r × (pcom_entry c r ≡ Some e)
        q = z.here.own_in e (in-tail commit e z.back i) (own-entry c r e own).1 (own-is c r e own)

        last : ((x : Turn program c k z.here.now kn.last z.here.done z.here.rest) × (s : ℕ) × (abort : Option AbortCause) × (x.r ≡ Outcome s n abort)) → ⊥
        last x = omega (arith, high, low, moved)
          where
            s : ℕ
            s = x.1

            stamp : record_stamp x.0.r ≡ Some s
            stamp = ap record_stamp x.3

            same-stamp : (j l : ℕ) → Some j ≡ Some l → j ≤ l
            same-stamp j l f = let g : j ≡ l = same_Some j l f in omega (arith, g)

            above : (j l : ℕ) → j < l → j ≤ l
            above j l f = omega (arith, f)

            high : s ≤ e.stamp
            high = in-rest program c k z.here.now kn.last z.here.done z.here.rest x.0 q.0 q.1 (entry-touch c q.0 e q.2) (λ same. same-stamp s e.stamp (sym stamp ∙ ap record_stamp same ∙ (own-entry c q.0 e q.2).0))
                (λ j. above s e.stamp (turn-below program c k z.here.now kn.last z.here.done z.here.rest x.0 q.0 s e.stamp stamp j (own-entry c q.0 e q.2).0))

            shape : log_at logs c ≡ (z.here.done ++ x.0.skip) ++ Outcome s n x.2 ∷ x.0.post
            shape = z.here.split ∙ ap (λ l. z.here.done ++ l) x.0.rest_is ∙ sym (append_assoc z.here.done x.0.skip (x.0.r ∷ x.0.post)) ∙ ap (λ y. (z.here.done ++ x.0.skip) ++ y ∷ x.0.post) x.3

            early : Contains (z.here.done ++ x.0.skip) r
            early = before-within (ends_txn n) (z.here.done ++ x.0.skip) x.0.post (Outcome s n x.2) r (self n) (subst (λ l. Contains (before_outcome l n) r) shape inside)

            low : e.stamp ≤ x.0.mid.clock
            low = (stamps_are_below program c k (z.here.done ++ x.0.skip) (first_hist program c) x.0.mid r e.stamp x.0.is_mid early (own-entry c r e own).0).1

            moved : x.0.mid.clock < s
            moved = (stamp-moves program c k x.0.mid x.0.behind x.0.r s x.0.applied stamp).0

    last-two : (commit ≡ e) ⊎ Contains z.back e → IsBelow e.stamp c a t
    last-two (inl same) = clash (is_own e.act) (own-is c r e own) (ap (λ (x : Entry). is_own x.act) (sym same))
    last-two (inr i) = absurd (late i)

    which : Contains z.front e ⊎ Contains (commit ∷ z.back) e → IsBelow e.stamp c a t
    which (inl i) = below-is e commit c (own-entry c r e own).1 (order.0 e i)
    which (inr i) = last-two (head-or-tail commit e z.back i)

earlier-before : (program : Program) (logs : Logs) (w : PlainWorld) → IsLogList program logs → IsSound program logs w → (t u c : ComId) (n m a b : ℕ) → IsTrue (is_a_tcom program t) → IsTrue (is_a_tcom program u) →
    Contains (decisions_on (log_at logs t) c n) a → Contains (decisions_on (log_at logs u) c m) b → m < n → IsBelow b u a t
earlier-before program logs w list sound t u c n m a b is_t is_u h k lt = which (Contains-append_cases z.front (commit ∷ z.back) earlier (subst (λ l. Contains l earlier) z.split (decision-entry program logs u c m b is_u k)))
  where
    commit : Entry
    commit = entry t a (acts.Commit c n)

    earlier : Entry
    earlier = entry u b (acts.Commit c m)

    z : AtCommit program logs w c t n a
    z = at-commit program logs w list sound t c n a is_t h

    order : ((x : Entry) → Contains z.front x → Below x commit) × ((x : Entry) → Contains z.back x → Below commit x)
    order = rises-split z.front z.back commit (subst Rises z.split (sound-rises program logs w sound))

    both : (x y : Bool) → x ≡ true → y ≡ true → x && y ≡ true
    both true y p q = q
    both false y p q = p

    self : (j : ℕ) → (j == j) ≡ true
    self j = grind arith

    closed : Closed m z.here.now.plain
    closed = inl (omega (arith, lt, z.txn.is_begun))

    last-two : (commit ≡ earlier) ⊎ Contains z.back earlier → IsBelow b u a t
    last-two (inl same) = absurd (differs (number same))
      where
        number : commit ≡ earlier → n ≡ m
        number f = ap (λ (x : Entry). num x.act) f
          where
            num : Act → ℕ
            num (acts.Commit d i) = i
            num _ = 0

        differs : n ≡ m → ⊥
        differs f = omega (arith, f, lt)
    last-two (inr i) =
        none-ends program z.at.place z.at.world w (commit ∷ z.back) c z.here.now.plain m earlier z.at.onward z.here.cell closed (in-tail commit earlier z.back i) (both (same_com c c) (m == m) (self-com c) (self m))

    which : Contains z.front earlier ⊎ Contains (commit ∷ z.back) earlier → IsBelow b u a t
    which (inl i) = below-is earlier commit u refl (order.0 earlier i)
    which (inr i) = last-two (head-or-tail commit earlier z.back i)

pub logs_are_in_order : LogsAreInOrder
logs_are_in_order program logs w list sound = record {
  own = λ t c n a h r inside. own t c n a h r inside (pcom_entry c r) refl;
  earlier = λ t u c n m a b h k lt. earlier-before program logs w list sound t u c n m a b (decides-tcom program logs w list sound t c n a h) (decides-tcom program logs w list sound u c m b k) h k lt;
}
  where
    own : (t c : ComId) (n a : ℕ) → Contains (decisions_on (log_at logs t) c n) a → (r : Record) → Contains (before_outcome (log_at logs c) n) r → (o : Option Entry) → pcom_entry c r ≡ o → MatchOption o ⊤ (λ e. IsBelow e.stamp c a t)
    own t c n a h r inside None is = tt
    own t c n a h r inside (Some e) is = own-before program logs w list sound t c n a (decides-tcom program logs w list sound t c n a h) h r inside e is

pub decided_is_not_aborted : DecidedIsNotAborted
decided_is_not_aborted program logs w sound t c n a s cause pre post is h st = not-aborted program logs w sound t c n a s cause is h (subst (λ l. Contains l (Outcome s n (Some cause))) (sym st) (Contains-append_right pre (Outcome s n (Some cause) ∷ post) (Outcome s n (Some cause)) (in-head (Outcome s n (Some cause)) post)))
