-- A commit of the history has a step of the crash-free world.
use Rattle.std.proofs.Common.{◌≡◌, refl, ◌∙◌, ap, sym, subst, ℕ, Bool, true, false, not, ◌||◌, ◌==◌, List, [], ◌∷◌, ◌++◌, ℤ, Option, Some, None, is_none, ◌⊎◌, inl, inr}
use Rattle.std.specs.Prelude.{Contains, IsSome, IsTrue}
use Rattle.std.proofs.lemmas.List.{append_assoc, append-nil}
use Rattle.std.proofs.lemmas.List.Elements.{Contains-append_left, Contains-append_right, Contains-append_cases, Contains-push, filter_map-append}
use Rattle.std.proofs.lemmas.Option.{same_Some}
use Rattle.ic_base.specs.declared.messages.ComId.{ComId}
use Rattle.ic_base.specs.declared.messages.Entry.{Entry}
use Rattle.ic_base.specs.declared.messages.Act.TheVariants as acts
use Rattle.ic_base.specs.declared.messages.AbortCause.{AbortCause}
use Rattle.ic_base.specs.declared.messages.Done.{Done}
use Rattle.ic_base.specs.declared.scenario.Program.{Program}
use Rattle.ic_base.specs.declared.record.Record.{Record}
use Rattle.ic_base.specs.declared.record.Record.TheVariants.{Take, TakeWhole, Input, Value, Outcome, Released, Shown, Checkpoint, Epoch, Decided}
use Rattle.ic_base.specs.Programs.{same_com, is_a_pcom, is_a_tcom}
use Rattle.def_plain.specs.declared.world.PlainPcom.{PlainPcom}
use Rattle.def_plain.specs.declared.world.InHand.{InHand}
use Rattle.def_plain.specs.Cell.{SeesCommit, cell_step, provided, plays_on, transaction_ends}
use Rattle.def_plain.specs.Plain.{PlainWorld, pcom_at}
use Rattle.def_plain.specs.History.{entry, history_of}
use Rattle.def_state.specs.Txn.{is_idle}
use Rattle.def_state.specs.Hist.{Hist, Begun, Contents, apply_all, after, first_hist, standing_of}
use Rattle.def_facts.specs.Logs.{Logs, log_at, IsPrefixOf, Stands, contents_in, ends_txn, has_outcome, values_of, got_in, decisions_on, decides_txn}
use Rattle.def_facts.specs.Pcom.{state_after, begun_in}
use Rattle.def_facts.specs.Sound.{is_unrecorded}
use Rattle.def_facts.specs.World.{Past}
use Rattle.law_replay.specs.Closing.{IsClosed}
use Rattle.law_replay.proofs.Closing.{closed_stay_closed}
use Rattle.law_replay.proofs.Committing.{hands_are_open, outcomes_close}
use Rattle.law_replay.proofs.Ending.{Ending, ending, idle-ends}
use Rattle.law_replay.proofs.Growing.{applied_twice, cell-grows}
use Rattle.law_replay.proofs.Lists.{some-of, in-head, in-tail, equal-numbers, head-or-tail, contains-split, self-number, clash, both-true}
use Rattle.law_replay.proofs.Truth.{longer, begun-lasts}
use Rattle.law_sound.specs.Order.{Explains, Rises, touching}
use Rattle.law_sound.proofs.Aborting.{none_decided_and_aborted}
use Rattle.law_sound.proofs.Deciding.{commits_are_decisions, decided_once, commits-is, declared-tcom}
use Rattle.law_sound.proofs.Histories.{history_has_entries}
use Rattle.law_sound.proofs.Rising.{Below, below-never, history_rises}
use Rattle.law_sound.specs.Assembly.{PcomReached}
use Rattle.law_sound.proofs.Reaching.{rises-split, touching-stands, plain-stays, committing-at, unrecorded-is, unrecorded-last, Next, next, advance, is-exact, cell-by}
use Rattle.law_replay.proofs.Members.{mapped-keeps}

-- the state in which the Pcom is, with the transaction committing --------------------------------------

pub record Ready (program : Program) (found logs : Logs) (past : Past) (c : ComId) (n : ℕ) (front : List Entry) (e : Entry) (w : PlainWorld) : Type 0 where
  pub log : List Record
  pub state : Hist
  pub is_state : state_after program c (past.received c) log ≡ Some state
  pub cell : pcom_at w c ≡ Some state.plain
  pub begun : state.plain.begun ≡ n
  pub open_now : is_idle state.stage ≡ false
  pub lasts : (b : Begun) → begun_in program c (past.received c) log n ≡ Some b → begun_in program c (past.received c) (log_at logs c) n ≡ Some b
  pub values : values_of (log_at logs c) n ≡ values_of log n
  -- with its answers it comes to a cell, and is reached there
  pub later : PlainPcom
  pub steps : cell_step program c state.plain (SeesCommit n state.now) ≡ Some later
  pub reached : (v : PlainWorld) → pcom_at v c ≡ Some later → PcomReached program logs past c (front ++ e ∷ []) v

pub ready : (program : Program) (found logs : Logs) (past : Past) → Explains program found logs past → (front back : List Entry) (e : Entry) (w : PlainWorld) → history_of program logs ≡ front ++ e ∷ back →
    (t c : ComId) (n a : ℕ) → IsTrue (is_a_tcom program t) → IsTrue (is_a_pcom program c) → (pre post : List Record) (writes : List (ℕ × ℤ)) → Stands (log_at logs t) pre (Decided a c n writes) post → Contains (decisions_on (log_at logs t) c n) a → e ≡ entry t a (acts.Commit c n) →
    PcomReached program logs past c front w → Ready program found logs past c n front e w
ready program found logs past f front back e w split t c n a is_t is_c pre post writes st dec e_is p = at (has_outcome (log_at logs c) n) refl
  where
    k : Contents
    k = contents_in (past.received c)

    order : ((x : Entry) → Contains front x → Below x e) × ((x : Entry) → Contains back x → Below e x)
    order = rises-split front back e (subst Rises split (history_rises program found logs past f))

    g : (z : Hist) × (after program c k (log_at logs c) ≡ Some z)
    g = some-of (after program c k (log_at logs c)) (f.pcoms c is_c).whole.replays

    the-outcome : (log : List Record) → has_outcome log n ≡ true → (stamp : ℕ) × (abort : Option AbortCause) × Contains log (Outcome stamp n abort)
    the-outcome [] h = clash false h refl
    the-outcome (r ∷ rs) h = by (ends_txn n r) refl h (the-outcome rs)
      where
        is-outcome : (q : Record) → ends_txn n q ≡ true → (stamp : ℕ) × (abort : Option AbortCause) × (q ≡ Outcome stamp n abort)
        is-outcome (Outcome stamp m abort) z = (stamp, abort, ap (λ i. Outcome stamp i abort) (sym (equal-numbers n m z)))
        is-outcome (Take from i stamp) z = clash false z refl
        is-outcome (TakeWhole from i stamp handler args) z = clash false z refl
        is-outcome (Input stamp handler args) z = clash false z refl
        is-outcome (Value m place session value) z = clash false z refl
        is-outcome (Released to i) z = clash false z refl
        is-outcome (Shown m) z = clash false z refl
        is-outcome (Checkpoint image) z = clash false z refl
        is-outcome (Epoch epoch) z = clash false z refl
        is-outcome (Decided stamp d m ws) z = clash false z refl

        by : (b : Bool) → ends_txn n r ≡ b → b || has_outcome rs n ≡ true → (has_outcome rs n ≡ true → (stamp : ℕ) × (abort : Option AbortCause) × Contains rs (Outcome stamp n abort)) → (stamp : ℕ) × (abort : Option AbortCause) × Contains (r ∷ rs) (Outcome stamp n abort)
        by true z u more = let y = is-outcome r z in (y.0, y.1, subst (Contains (r ∷ rs)) y.2 (in-head r rs))
        by false z u more = let y = more u in (y.0, y.1, in-tail r (Outcome y.0 n y.1) rs y.2)

    -- the Pcom has recorded the commit
    recorded : (stamp : ℕ) (abort : Option AbortCause) → Contains (log_at logs c) (Outcome stamp n abort) → Ready program found logs past c n front e w
    recorded stamp (Some cause) inside = let s = contains-split (log_at logs c) (Outcome stamp n (Some cause)) inside in absurd (none_decided_and_aborted program found logs past f t c pre post s.0 s.1 a stamp n writes cause is_t st s.2)
    recorded stamp None inside = record {
      log = p.done ++ m.skip;
      state = m.before;
      is_state = m.is_before_state;
      cell = p.is_cell ∙ ap Some (is-exact program found logs past f c is_c front back e w split p r inside te ∙ sym m.same);
      begun = sym end.0;
      open_now = not-idle (is_idle m.before.stage) refl;
      lasts = λ b h. subst (λ l. begun_in program c (past.received c) l n ≡ Some b) (sym shape) (begun-lasts program c (past.received c) (p.done ++ m.skip) (r ∷ m.rest) (longer program c (past.received c) (p.done ++ m.skip) (r ∷ m.rest) (subst (λ l. IsSome (state_after program c (past.received c) l)) shape (f.pcoms c is_c).whole.replays)) n b h);
      values = ap (λ l. values_of l n) shape ∙ filter_map-append (got_in n) (p.done ++ m.skip) (r ∷ m.rest) ∙ ap (λ l. values_of (p.done ++ m.skip) n ++ l) no-more ∙ append-nil (values_of (p.done ++ m.skip) n);
      later = m.behind.plain;
      steps = cell-by program c k m.before m.behind r (SeesCommit n m.before.now) refl m.applied;
      reached = λ v there. advance program found logs past f c is_c front back e w v split p r te m there;
    }
      where
        r : Record
        r = Outcome stamp n None

        te : touching program logs c r ≡ Some e
        te = commits_are_decisions program found logs past f t c n a is_t dec ∙ ap Some (sym e_is)

        m : Next program logs past c p.done p.left p.state.plain r
        m = next program found logs past f c is_c front back e w split p r inside te

        shape : log_at logs c ≡ (p.done ++ m.skip) ++ r ∷ m.rest
        shape = p.split ∙ ap (λ l. p.done ++ l) m.left_is ∙ sym (append_assoc p.done m.skip (r ∷ m.rest))

        end0 : Ending program c k (p.done ++ m.skip) stamp n None
        end0 = ending program c k (p.done ++ m.skip) m.rest stamp n None g.0 (sym (ap (after program c k) shape) ∙ g.1)

        same-state : end0.state ≡ m.before
        same-state = same_Some end0.state m.before (sym end0.is_state ∙ m.is_before_state)

        end : (number : n ≡ m.before.plain.begun) × (m.before ≡ m.before)
        end = (end0.number ∙ ap (λ (z : Hist). z.plain.begun) same-state, refl)

        not-idle : (b : Bool) → is_idle m.before.stage ≡ b → b ≡ false
        not-idle true z = idle-ends end0.state.stage (standing_of program c end0.state).failed None (ap (λ (y : Hist). is_idle y.stage) same-state ∙ z) end0.may
        not-idle false z = refl

        rest-steps : apply_all program c k (Some m.behind) m.rest ≡ Some g.0
        rest-steps =
            sym (applied_twice program c k (Some (first_hist program c)) (p.done ++ m.skip) (r ∷ m.rest) ∙ ap (λ o. apply_all program c k o (r ∷ m.rest)) m.is_before_state ∙ ap (λ o. apply_all program c k o m.rest) m.applied) ∙ ap (after program c k) (sym shape) ∙ g.1

        closed : IsClosed n m.behind
        closed = outcomes_close program c k (r ∷ []) n m.before m.behind m.applied (ap (λ b. b || false) (self-number n))

        no-more : values_of (r ∷ m.rest) n ≡ []
        no-more = (closed_stay_closed program c k m.rest n m.behind g.0 closed rest-steps).1

    -- it hasn't
    unrecorded : has_outcome (log_at logs c) n ≡ false → Ready program found logs past c n front e w
    unrecorded never = record {
      log = log_at logs c;
      state = h.0;
      is_state = h.1;
      cell = p.is_cell ∙ ap Some (exact ∙ sym plain);
      begun = h.2;
      open_now = h.3;
      lasts = λ b z. z;
      values = refl;
      later = moved.0;
      steps = moved.1;
      reached = λ v there. record {
        done = p.done;
        left = p.left;
        split = p.split;
        inside = λ r x i u. Contains-append_left front (e ∷ []) x (p.inside r x i u);
        outside = λ r x i u z. quiet r x i u;
        state = p.state;
        is_state = p.is_state;
        cell = moved.0;
        is_cell = there;
        grows = subst (λ (z : PlainPcom). IsPrefixOf z.sent moved.0.sent) plain (cell-grows program c h.0.plain moved.0 (SeesCommit n h.0.now) moved.1).sent;
        exact = λ all. clash (is_unrecorded (log_at logs c) c e.act) un (all e (Contains-push front e));
      };
    }
      where
        h : (z : Hist) × (state_after program c (past.received c) (log_at logs c) ≡ Some z) × (z.plain.begun ≡ n) × (is_idle z.stage ≡ false)
        h = committing-at program found logs past f t c n a is_t dec never

        un : is_unrecorded (log_at logs c) c e.act ≡ true
        un = ap (λ (z : Entry). is_unrecorded (log_at logs c) c z.act) e_is ∙ both-true (same_com c c) (not (has_outcome (log_at logs c) n)) (self-number c.0) (ap not never)

        stands-e : Contains (history_of program logs) e
        stands-e = subst (λ l. Contains l e) (sym split) (Contains-append_right front (e ∷ back) e (in-head e back))

        quiet : (r : Record) (x : Entry) → Contains p.left r → touching program logs c r ≡ Some x → ⊥
        quiet r x i u = which (Contains-append_cases front (e ∷ back) x (subst (λ l. Contains l x) split stands))
          where
            in-log : Contains (log_at logs c) r
            in-log = subst (λ l. Contains l r) (sym p.split) (Contains-append_right p.done p.left r i)

            stands : Contains (history_of program logs) x
            stands = touching-stands program logs c r x is_c in-log u

            low : Below x e
            low = unrecorded-last program found logs past f c is_c r x e in-log u stands-e un

            last : (e ≡ x) ⊎ Contains back x → ⊥
            last (inl same) = let b = subst (λ z. Below z e) (sym same) low in below-never e e b b
            last (inr b) = below-never x e low (order.1 x b)

            which : Contains front x ⊎ Contains (e ∷ back) x → ⊥
            which (inl z) = p.outside r x i u z
            which (inr z) = last (head-or-tail e x back z)

        plain : h.0.plain ≡ p.state.plain
        plain =
            plain-stays program found logs past f c is_c p.done p.left [] p.state h.0 (p.split ∙ ap (λ l. p.done ++ l) (sym (append-nil p.left))) quiet
            (sym (applied_twice program c k (Some (first_hist program c)) p.done p.left ∙ ap (λ o. apply_all program c k o p.left) p.is_state) ∙ ap (after program c k) (sym p.split) ∙ h.1)

        exact : p.cell ≡ p.state.plain
        exact = p.exact (λ y i. by y i (is_unrecorded (log_at logs c) c y.act) refl)
          where
            by : (y : Entry) → Contains front y → (b : Bool) → is_unrecorded (log_at logs c) c y.act ≡ b → is_unrecorded (log_at logs c) c y.act ≡ false
            by y i false z = z
            by y i true z =
                let u = unrecorded-is (log_at logs c) c y.act z in
                let q = history_has_entries program logs y (subst (λ l. Contains l y) (sym split) (Contains-append_left front (e ∷ back) y i)) in
                let d = commits-is q.1 q.0 c u.0 q.2 y q.5 u.1 in
                let is_q = declared-tcom program q.0 q.1 q.3 d.0 in
                let dec2 = mapped-keeps (decides_txn c u.0) (log_at logs q.0) q.2 d.1 q.4 d.2 in
                let h2 = committing-at program found logs past f q.0 c u.0 d.1 is_q dec2 u.2 in
                let same_n : u.0 ≡ n = sym h2.2 ∙ ap (λ (v : Hist). v.plain.begun) (same_Some h2.0 h.0 (sym h2.1 ∙ h.1)) ∙ h.2 in
                let one = decided_once program found logs past f q.0 t c n d.1 a is_q is_t (subst (λ i2. Contains (decisions_on (log_at logs q.0) c i2) d.1) same_n dec2) dec in
                let same_y : y ≡ e = d.3 ∙ ap (λ i2. entry q.0 d.1 (acts.Commit c i2)) same_n ∙ ap (λ v. entry v d.1 (acts.Commit c n)) one.0 ∙ ap (λ v. entry t v (acts.Commit c n)) one.1 ∙ sym e_is in
                let b2 = order.0 e (subst (Contains front) same_y i) in
                below-never e e b2 b2

        moved : (q : PlainPcom) × (cell_step program c h.0.plain (SeesCommit n h.0.now) ≡ Some q)
        moved = by h.0.plain.hand refl
          where
            by : (o : Option InHand) → h.0.plain.hand ≡ o → (q : PlainPcom) × (cell_step program c h.0.plain (SeesCommit n h.0.now) ≡ Some q)
            by None z = clash (is_none h.0.plain.hand) (ap is_none z) (hands_are_open program c k (log_at logs c) h.0 h.1 ∙ h.3)
            by (Some hand) z = (
              plays_on program c h.0.plain (record hand { done = hand.done ++ Done.Committed h.0.now ∷ [] }),
              ap (transaction_ends program c h.0.plain n (Done.Committed h.0.now)) z ∙ ap (λ b. provided b (plays_on program c h.0.plain (record hand { done = hand.done ++ Done.Committed h.0.now ∷ [] }))) (ap (λ i. i == n) h.2 ∙ self-number n),
            )

    at : (b : Bool) → has_outcome (log_at logs c) n ≡ b → Ready program found logs past c n front e w
    at true has = let o = the-outcome (log_at logs c) has in recorded o.0 o.1 o.2
    at false never = unrecorded never
