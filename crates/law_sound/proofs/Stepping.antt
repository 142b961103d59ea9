-- An own entry of the history has a step of the crash-free world.
use Rattle.std.proofs.Common.{◌≡◌, refl, ◌∙◌, ap, sym, subst, ℕ, zero, suc, ◌<◌, Bool, true, false, ◌==◌, List, [], ◌∷◌, ◌++◌, slice_get, slice_set, ℤ, Option, Some, None, option_map, option_and_then, arith, ◌⊎◌, inl, inr}
use Rattle.std.specs.Prelude.{Contains, IsTrue, MatchOption, ⊤}
use Rattle.std.proofs.lemmas.List.Elements.{Contains-append_left, Contains-append_right, Contains-append_cases, Contains-push_cases, filter-append}
use Rattle.std.proofs.lemmas.Option.{same_Some}
use Rattle.ic_base.specs.declared.messages.ComId.{ComId}
use Rattle.ic_base.specs.declared.messages.Msg.{Msg}
use Rattle.ic_base.specs.declared.messages.Send.{Send}
use Rattle.ic_base.specs.declared.messages.Entry.{Entry}
use Rattle.ic_base.specs.declared.messages.Act.{Act}
use Rattle.ic_base.specs.declared.messages.Act.TheVariants as acts
use Rattle.ic_base.specs.declared.messages.Kind.{Kind}
use Rattle.ic_base.specs.declared.messages.Kind.TheVariants as kinds
use Rattle.ic_base.specs.declared.scenario.Component.{Component}
use Rattle.ic_base.specs.declared.scenario.Program.{Program}
use Rattle.ic_base.specs.declared.record.Record.{Record}
use Rattle.ic_base.specs.declared.record.Record.TheVariants.{Take, TakeWhole, Input, Value, Outcome, Released, Shown, Checkpoint, Epoch, Decided}
use Rattle.ic_base.specs.Programs.{same_com, is_a_pcom, is_a_tcom, is_pcom, declares}
use Rattle.def_plain.specs.declared.world.PlainPcom.{PlainPcom}
use Rattle.def_plain.specs.declared.world.PlainCom.{PlainCom}
use Rattle.def_plain.specs.declared.world.PlainCom.TheVariants as coms
use Rattle.def_plain.specs.Cell.{Touch, TakesMessage, TakesInput, SeesAbort, cell_step, is_com}
use Rattle.def_plain.specs.Plain.{PlainWorld, as_pcom, as_ledger, pcom_at, ledger_at, touched as touched_world, plain_step, message_of, on_link, counted}
use Rattle.def_plain.specs.History.{entry, entry_of, pcom_entry, tcom_entry, history_of}
use Rattle.def_state.specs.Hist.{Hist, Contents, apply_all, after, first_hist, touch_of}
use Rattle.def_facts.specs.Logs.{Logs, log_at, contents_in}
use Rattle.def_facts.specs.Pcom.{state_after}
use Rattle.def_facts.specs.World.{Past}
use Rattle.law_replay.proofs.Growing.{applied_twice, prefixes_replay, states_grow}
use Rattle.law_replay.proofs.Lists.{none-some, open-content, in-head, same-com, head-or-tail, contains-split, true-false, clash}
use Rattle.law_replay.proofs.Numbers.{sent_are_numbered, counted-front}
use Rattle.law_replay.proofs.Prefixes.{prefix-contains}
use Rattle.law_sound.specs.Order.{Explains, WasSent, Rises, touching, is_commit_of}
use Rattle.law_sound.proofs.Histories.{history_has_entries}
use Rattle.law_sound.proofs.Positions.{Touched, touched, sent-before, SentBefore}
use Rattle.law_sound.proofs.Rising.{Below, below-never, own-entry, history_rises, tcom-stamp}
use Rattle.law_sound.proofs.Sent.{contents_agree, whole_contents_agree}
use Rattle.law_sound.specs.Assembly.{PcomReached, TcomReached, IsReached, is_own, OwnEntriesHaveSteps}
use Rattle.law_sound.proofs.Reaching.{rises-split, find-passes, touching-stands, plain-stays, Next, next, advance, is-exact, stays-there, cell-by}

-- the crash-free world, changed in one place ---------------------------------------------------------

pub set-same : {A : Type 0} (xs : List A) (i : ℕ) (x y : A) → slice_get xs i ≡ Some y → slice_get (slice_set xs i x) i ≡ Some x
set-same [] i x y e = none-some y e
set-same (z ∷ xs) zero x y e = refl
set-same (z ∷ xs) (suc i) x y e = set-same xs i x y e

pub set-other : {A : Type 0} (xs : List A) (i j : ℕ) (x : A) → (i ≡ j → ⊥) → slice_get (slice_set xs i x) j ≡ slice_get xs j
set-other [] i j x apart = refl
set-other (z ∷ xs) zero zero x apart = absurd (apart refl)
set-other (z ∷ xs) zero (suc j) x apart = refl
set-other (z ∷ xs) (suc i) zero x apart = refl
set-other (z ∷ xs) (suc i) (suc j) x apart = set-other xs i j x (λ e. apart (ap suc e))

pub is-there : {A : Type 0} (f : PlainCom → Option A) (o : Option PlainCom) (y : A) → option_and_then f o ≡ Some y → (x : PlainCom) × (o ≡ Some x) × (f x ≡ Some y)
is-there f None y e = none-some y e
is-there f (Some x) y e = (x, refl, e)

pub pcom-set : (w : PlainWorld) (c : ComId) (cell p : PlainPcom) → pcom_at w c ≡ Some cell → pcom_at (slice_set w c.0 (coms.Pcom p)) c ≡ Some p
pcom-set w c cell p e = let x = is-there as_pcom (slice_get w c.0) cell e in ap (option_and_then as_pcom) (set-same w c.0 (coms.Pcom p) x.0 x.1)

pub pcom-other : (w : PlainWorld) (c d : ComId) (x : PlainCom) → (c.0 ≡ d.0 → ⊥) → pcom_at (slice_set w c.0 x) d ≡ pcom_at w d
pcom-other w c d x apart = ap (option_and_then as_pcom) (set-other w c.0 d.0 x apart)

pub ledger-other : (w : PlainWorld) (c : ComId) (t : ComId) (x : PlainCom) → (c.0 ≡ t.0 → ⊥) → ledger_at (slice_set w c.0 x) t ≡ ledger_at w t
ledger-other w c t x apart = ap (option_and_then as_ledger) (set-other w c.0 t.0 x apart)

-- no place holds both a Pcom and a ledger
pub not-both : {B : Type 0} (w : PlainWorld) (c t : ComId) (cell : PlainPcom) (l : List ℤ) → c.0 ≡ t.0 → pcom_at w c ≡ Some cell → ledger_at w t ≡ Some l → B
not-both w c t cell l same a b =
    let x = is-there as_pcom (slice_get w c.0) cell a in
    let y = is-there as_ledger (slice_get w t.0) l b in
    by x.0 x.2 (ap as_ledger (same_Some x.0 y.0 (sym x.1 ∙ ap (slice_get w) same ∙ y.1)) ∙ y.2)
  where
    by : {B : Type 0} (z : PlainCom) → as_pcom z ≡ Some cell → as_ledger z ≡ Some l → B
    by (coms.Pcom p) u v = none-some l v
    by (coms.Tcom m) u v = none-some cell u
    by coms.Xcom u v = none-some cell u

pub touch-step : (program : Program) (w : PlainWorld) (c : ComId) (t : Touch) (cell p : PlainPcom) → pcom_at w c ≡ Some cell → cell_step program c cell t ≡ Some p → touched_world program w c t ≡ Some (slice_set w c.0 (coms.Pcom p))
touch-step program w c t cell p a b =
    ap (λ o. option_map (λ q. slice_set w c.0 (coms.Pcom q)) (option_and_then (λ q. cell_step program c q t) o)) a ∙ ap (option_map (λ q. slice_set w c.0 (coms.Pcom q))) b

-- two fronts of one list ------------------------------------------------------------------------------

fronts : {A : Type 0} (xs us ys vs : List A) → xs ++ us ≡ ys ++ vs → ((z : List A) × (ys ≡ xs ++ z)) ⊎ ((z : List A) × (xs ≡ ys ++ z) × (vs ≡ z ++ us))
fronts [] us ys vs e = inl (ys, refl)
fronts (x ∷ xs) us [] vs e = inr (x ∷ xs, refl, sym e)
fronts {A} (x ∷ xs) us (y ∷ ys) vs e = by (fronts xs us ys vs (ap tail_of e))
  where
    head_of : List A → A
    head_of [] = x
    head_of (z ∷ zs) = z

    tail_of : List A → List A
    tail_of [] = []
    tail_of (z ∷ zs) = zs

    same : x ≡ y
    same = ap head_of e

    by : ((z : List A) × (ys ≡ xs ++ z)) ⊎ ((z : List A) × (xs ≡ ys ++ z) × (vs ≡ z ++ us)) → ((z : List A) × (y ∷ ys ≡ (x ∷ xs) ++ z)) ⊎ ((z : List A) × (x ∷ xs ≡ (y ∷ ys) ++ z) × (vs ≡ z ++ us))
    by (inl a) = inl (a.0, ap (λ v. v ∷ ys) (sym same) ∙ ap (λ l. x ∷ l) a.1)
    by (inr b) = inr (b.0, ap (λ v. v ∷ xs) same ∙ ap (λ l. y ∷ l) b.1, b.2)

-- the message that an entry takes ------------------------------------------------------------------------

abbrev pub the-send : Msg → Send
the-send m = record { to = m.to; handler = m.handler; args = m.args }

pub message-there : (program : Program) (found logs : Logs) (past : Past) → Explains program found logs past → (front back : List Entry) (e : Entry) (w : PlainWorld) → history_of program logs ≡ front ++ e ∷ back →
    (c s : ComId) (k : ℕ) (Says : Msg → Type 0) → (m : WasSent program logs past c s k e.stamp Says) → PcomReached program logs past s front w → message_of w s c k ≡ Some (the-send m.0)
message-there program found logs past f front back e w split c s k Says m p =
    ap (option_and_then (λ q. counted (on_link c q.sent) k)) p.is_cell
    ∙ ap (λ (z : ComId). counted (on_link z p.cell.sent) k) (sym m.3) ∙ ap (counted (on_link m.0.to p.cell.sent)) (sym m.4) ∙ in-cell
  where
    kk : Contents
    kk = contents_in (past.received s)

    order : ((x : Entry) → Contains front x → Below x e) × ((x : Entry) → Contains back x → Below e x)
    order = rises-split front back e (subst Rises split (history_rises program found logs past f))

    z : SentBefore program logs past c s k e.stamp m.0
    z = sent-before program found logs past f c s k e.stamp Says m

    h : (g : Hist) × (state_after program s (past.received s) z.0 ≡ Some g) × Contains g.sent m.0
    h = open-content (λ (g : Hist). Contains g.sent m.0) (state_after program s (past.received s) z.0) z.3

    in-state : counted (on_link m.0.to p.state.plain.sent) m.0.k ≡ Some (record { to = m.0.to; handler = m.0.handler; args = m.0.args })
    in-state = by (fronts z.0 z.1 p.done p.left (sym z.2 ∙ p.split))
      where
        by : ((l : List Record) × (p.done ≡ z.0 ++ l)) ⊎ ((l : List Record) × (z.0 ≡ p.done ++ l) × (p.left ≡ l ++ z.1)) → counted (on_link m.0.to p.state.plain.sent) m.0.k ≡ Some (record { to = m.0.to; handler = m.0.handler; args = m.0.args })
        by (inl a) =
            let r = prefixes_replay program s kk z.0 a.0 p.state (sym (ap (after program s kk) a.1) ∙ p.is_state) in
            let grow = states_grow program s kk a.0 r.0 p.state r.2 in
            let same : h.0 ≡ r.0 = same_Some h.0 r.0 (sym h.1 ∙ r.1) in
            (sent_are_numbered program s kk p.done p.state m.0 p.is_state (prefix-contains r.0.sent p.state.sent m.0 grow.sent (subst (λ (g : Hist). Contains g.sent m.0) same h.2))).1
        by (inr b) =
            let steps : apply_all program s kk (Some p.state) b.0 ≡ Some h.0 =
            sym (applied_twice program s kk (Some (first_hist program s)) p.done b.0 ∙ ap (λ o. apply_all program s kk o b.0) p.is_state) ∙ sym (ap (after program s kk) b.1) ∙ h.1
            in
            let plain : h.0.plain ≡ p.state.plain = plain-stays program found logs past f s m.7 p.done b.0 z.1 p.state h.0 (p.split ∙ ap (λ l. p.done ++ l) b.2) quiet steps in
            ap (λ (q : PlainPcom). counted (on_link m.0.to q.sent) m.0.k) (sym plain) ∙ (sent_are_numbered program s kk z.0 h.0 m.0 h.1 h.2).1
          where
            quiet : (r : Record) (x : Entry) → Contains b.0 r → touching program logs s r ≡ Some x → ⊥
            quiet r x hr tx = which (Contains-append_cases front (e ∷ back) x (subst (λ l. Contains l x) split stands))
              where
                in-front : Contains z.0 r
                in-front = subst (λ l. Contains l r) (sym b.1) (Contains-append_right p.done b.0 r hr)

                in-left : Contains p.left r
                in-left = subst (λ l. Contains l r) (sym b.2) (Contains-append_left b.0 z.1 r hr)

                in-log : Contains (log_at logs s) r
                in-log = subst (λ l. Contains l r) (sym z.2) (Contains-append_left z.0 z.1 r in-front)

                stands : Contains (history_of program logs) x
                stands = touching-stands program logs s r x m.7 in-log tx

                low : x.stamp < e.stamp
                low = subst (λ o. MatchOption o ⊤ (λ y. y.stamp < e.stamp)) tx (z.4 r in-front)

                last : (e ≡ x) ⊎ Contains back x → ⊥
                last (inl same) = omega (arith, low, ap (λ (y : Entry). y.stamp) same)
                last (inr k2) = below-never x e (inl low) (order.1 x k2)

                which : Contains front x ⊎ Contains (e ∷ back) x → ⊥
                which (inl a2) = p.outside r x in-left tx a2
                which (inr b2) = last (head-or-tail e x back b2)

    in-cell : counted (on_link m.0.to p.cell.sent) m.0.k ≡ Some (record { to = m.0.to; handler = m.0.handler; args = m.0.args })
    in-cell =
        ap (λ l. counted (on_link m.0.to l) m.0.k) p.grows.1 ∙ ap (λ l. counted l m.0.k) (filter-append (λ y. is_com y.to m.0.to) p.state.plain.sent p.grows.0)
        ∙ counted-front (on_link m.0.to p.state.plain.sent) (on_link m.0.to p.grows.0) m.0.k (record { to = m.0.to; handler = m.0.handler; args = m.0.args }) in-state

-- a step of one Pcom ------------------------------------------------------------------------------------

pub own-is : (c : ComId) (r : Record) (e : Entry) → pcom_entry c r ≡ Some e → is_own e.act ≡ true
own-is c (Take from k stamp) e is = ap (λ (x : Entry). is_own x.act) (sym (same_Some (entry c stamp (acts.Take from k)) e is))
own-is c (TakeWhole from k stamp handler args) e is = ap (λ (x : Entry). is_own x.act) (sym (same_Some (entry c stamp (acts.Take from k)) e is))
own-is c (Input stamp handler args) e is = ap (λ (x : Entry). is_own x.act) (sym (same_Some (entry c stamp (acts.Input handler args)) e is))
own-is c (Outcome stamp n None) e is = none-some e is
own-is c (Outcome stamp n (Some cause)) e is = ap (λ (x : Entry). is_own x.act) (sym (same_Some (entry c stamp (acts.Abort n)) e is))
own-is c (Value n place session value) e is = none-some e is
own-is c (Released to k) e is = none-some e is
own-is c (Shown m) e is = none-some e is
own-is c (Checkpoint image) e is = none-some e is
own-is c (Epoch epoch) e is = none-some e is
own-is c (Decided stamp d n writes) e is = none-some e is

pub commit-no : {B : Type 0} (c : ComId) (n : ℕ) (act : Act) → is_commit_of c n act ≡ true → is_own act ≡ true → B
commit-no c n (acts.Commit d m) p q = true-false q
commit-no c n (acts.Take s k) p q = true-false p
commit-no c n (acts.Input h args) p q = true-false p
commit-no c n (acts.Abort m) p q = true-false p

-- the touch of an own record, and the step of the crash-free world
record Doing (program : Program) (w : PlainWorld) (e : Entry) (c : ComId) (k : Contents) (now : List ℤ) (r : Record) : Type 0 where
  touch : Touch
  is_touch : touch_of k now r ≡ Some touch
  is_step : plain_step program w e ≡ touched_world program w c touch

own-touching : (program : Program) (logs : Logs) (c : ComId) (r : Record) (e : Entry) → pcom_entry c r ≡ Some e → touching program logs c r ≡ Some e
own-touching program logs c (Take from k stamp) e is = is
own-touching program logs c (TakeWhole from k stamp handler args) e is = is
own-touching program logs c (Input stamp handler args) e is = is
own-touching program logs c (Outcome stamp n None) e is = none-some e is
own-touching program logs c (Outcome stamp n (Some cause)) e is = is
own-touching program logs c (Value n place session value) e is = none-some e is
own-touching program logs c (Released to k) e is = none-some e is
own-touching program logs c (Shown m) e is = none-some e is
own-touching program logs c (Checkpoint image) e is = none-some e is
own-touching program logs c (Epoch epoch) e is = none-some e is
own-touching program logs c (Decided stamp d n writes) e is = none-some e is

doing : (program : Program) (found logs : Logs) (past : Past) → Explains program found logs past → (front back : List Entry) (e : Entry) (w : PlainWorld) → history_of program logs ≡ front ++ e ∷ back → IsReached program logs past front w →
    (c : ComId) → IsTrue (is_a_pcom program c) → (now : List ℤ) (r : Record) → Contains (log_at logs c) r → pcom_entry c r ≡ Some e → Doing program w e c (contents_in (past.received c)) now r
doing program found logs past f front back e w split reached c is now (Take from n stamp) inside own =
    let same : entry c stamp (acts.Take from n) ≡ e = same_Some (entry c stamp (acts.Take from n)) e own in
    let s = contains-split (log_at logs c) (Take from n stamp) inside in
    let m = contents_agree program found logs past f c from s.0 s.1 n e.stamp is (s.2 ∙ ap (λ v. s.0 ++ Take from n v ∷ s.1) (ap (λ (x : Entry). x.stamp) same)) in
    let there = message-there program found logs past f front back e w split c from n (λ x. ⊤) m (reached.pcoms from m.7) in
    record {
      touch = TakesMessage from n m.0.handler m.0.args;
      is_touch = ap (option_map (λ (x : Msg). TakesMessage from n x.handler x.args)) m.1;
      is_step = ap (plain_step program w) (sym same) ∙ ap (option_and_then (λ (x : Send). touched_world program w c (TakesMessage from n x.handler x.args))) there;
    }
doing program found logs past f front back e w split reached c is now (TakeWhole from n stamp handler args) inside own =
    let same : entry c stamp (acts.Take from n) ≡ e = same_Some (entry c stamp (acts.Take from n)) e own in
    let s = contains-split (log_at logs c) (TakeWhole from n stamp handler args) inside in
    let m = whole_contents_agree program found logs past f c from s.0 s.1 n e.stamp handler args is (s.2 ∙ ap (λ v. s.0 ++ TakeWhole from n v handler args ∷ s.1) (ap (λ (x : Entry). x.stamp) same)) in
    let there = message-there program found logs past f front back e w split c from n (λ x. (x.handler ≡ handler) × (x.args ≡ args)) m (reached.pcoms from m.7) in
    record {
      touch = TakesMessage from n handler args;
      is_touch = refl;
      is_step =
          ap (plain_step program w) (sym same) ∙ ap (option_and_then (λ (x : Send). touched_world program w c (TakesMessage from n x.handler x.args))) there
          ∙ ap (λ v. touched_world program w c (TakesMessage from n v m.0.args)) m.6.0 ∙ ap (λ v. touched_world program w c (TakesMessage from n handler v)) m.6.1;
    }
doing program found logs past f front back e w split reached c is now (Input stamp handler args) inside own = record {
  touch = TakesInput handler args;
  is_touch = refl;
  is_step = ap (plain_step program w) (sym (same_Some (entry c stamp (acts.Input handler args)) e own));
}
doing program found logs past f front back e w split reached c is now (Outcome stamp n None) inside own = none-some e own
doing program found logs past f front back e w split reached c is now (Outcome stamp n (Some cause)) inside own = record {
  touch = SeesAbort n;
  is_touch = refl;
  is_step = ap (plain_step program w) (sym (same_Some (entry c stamp (acts.Abort n)) e own));
}
doing program found logs past f front back e w split reached c is now (Value n place session value) inside own = none-some e own
doing program found logs past f front back e w split reached c is now (Released to k) inside own = none-some e own
doing program found logs past f front back e w split reached c is now (Shown m) inside own = none-some e own
doing program found logs past f front back e w split reached c is now (Checkpoint image) inside own = none-some e own
doing program found logs past f front back e w split reached c is now (Epoch epoch) inside own = none-some e own
doing program found logs past f front back e w split reached c is now (Decided stamp d n writes) inside own = none-some e own

-- the Pcom of an own entry moves, and nothing else does
moves : (program : Program) (found logs : Logs) (past : Past) → Explains program found logs past → (front back : List Entry) (e : Entry) (w : PlainWorld) → history_of program logs ≡ front ++ e ∷ back → IsReached program logs past front w →
    (c : ComId) → IsTrue (is_a_pcom program c) → (r : Record) → Contains (log_at logs c) r → pcom_entry c r ≡ Some e → (v : PlainWorld) × (plain_step program w e ≡ Some v) × IsReached program logs past (front ++ e ∷ []) v
moves program found logs past f front back e w split reached c is r inside own = (v, step, record { pcoms = pcoms; tcoms = tcoms })
  where
    p : PcomReached program logs past c front w
    p = reached.pcoms c is

    te : touching program logs c r ≡ Some e
    te = own-touching program logs c r e own

    n : Next program logs past c p.done p.left p.state.plain r
    n = next program found logs past f c is front back e w split p r inside te

    d : Doing program w e c (contents_in (past.received c)) n.before.now r
    d = doing program found logs past f front back e w split reached c is n.before.now r inside own

    v : PlainWorld
    v = slice_set w c.0 (coms.Pcom n.behind.plain)

    cell : pcom_at w c ≡ Some n.before.plain
    cell = p.is_cell ∙ ap Some (is-exact program found logs past f c is front back e w split p r inside te ∙ sym n.same)

    step : plain_step program w e ≡ Some v
    step = d.is_step ∙ touch-step program w c d.touch n.before.plain n.behind.plain cell (cell-by program c (contents_in (past.received c)) n.before n.behind r d.touch d.is_touch n.applied)

    here : e.com ≡ c
    here = (own-entry c r e own).1

    pcoms : (x : ComId) → IsTrue (is_a_pcom program x) → PcomReached program logs past x (front ++ e ∷ []) v
    pcoms x is_x = at (same_com c x) refl
      where
        self : (m : ℕ) → (m == m) ≡ true
        self m = grind arith

        at : (b : Bool) → same_com c x ≡ b → PcomReached program logs past x (front ++ e ∷ []) v
        at true same = subst (λ z. PcomReached program logs past z (front ++ e ∷ []) v) (same-com c x same) (advance program found logs past f c is front back e w v split p r te n (pcom-set w c n.before.plain n.behind.plain cell))
        at false other = stays-there program logs past x front e w v never (pcom-other w c x (coms.Pcom n.behind.plain) apart) (reached.pcoms x is_x)
          where
            apart : c.0 ≡ x.0 → ⊥
            apart z = clash (same_com c x) (ap (λ m. c.0 == m) (sym z) ∙ self c.0) other

            by : (q : Record) → Touched program logs x q e → ⊥
            by q (inl a) = apart (ap (λ (z : ComId). z.0) (sym here ∙ a.2))
            by q (inr b) = commit-no x b.1 e.act (find-passes (λ (z : Entry). is_commit_of x b.1 z.act) (history_of program logs) e b.3).0 (own-is c r e own)

            never : (q : Record) → touching program logs x q ≡ Some e → ⊥
            never q t = by q (touched program logs x q e t)

    tcoms : (t : ComId) → IsTrue (is_a_tcom program t) → TcomReached program logs t (front ++ e ∷ []) v
    tcoms t is_t = record {
      done = q.done;
      left = q.left;
      split = q.split;
      inside = λ z x h u. Contains-append_left front (e ∷ []) x (q.inside z x h u);
      outside = λ z x h u a. by z x h u (Contains-push_cases front e x a);
      book = q.book;
      is_book = q.is_book;
      ledger = ledger-other w c t (coms.Pcom n.behind.plain) (λ same. not-both w c t n.before.plain q.book.ledger same cell q.ledger) ∙ q.ledger;
    }
      where
        q : TcomReached program logs t front w
        q = reached.tcoms t is_t

        by : (z : Record) (x : Entry) → Contains q.left z → tcom_entry t z ≡ Some x → Contains front x ⊎ (e ≡ x) → ⊥
        by z x h u (inl a) = q.outside z x h u a
        by z x h u (inr same) =
            let y = tcom-stamp t z x u in
            let act : is_own x.act ≡ false = ap (λ (o : Entry). is_own o.act) (sym (same_Some (entry t y.0 (acts.Commit y.1 y.2)) x (ap (tcom_entry t) (sym y.4) ∙ u))) in
            clash (is_own x.act) (ap (λ (o : Entry). is_own o.act) (sym same) ∙ own-is c r e own) act

pub own_entries_have_steps : OwnEntriesHaveSteps
own_entries_have_steps program found logs past f front back e w split own reached = by z.1.kind refl z.5
  where
    z : (c : ComId) × (x : Component) × (r : Record) × (slice_get program.components c.0 ≡ Some x) × Contains (log_at logs c) r × (entry_of x.kind c r ≡ Some e)
    z = history_has_entries program logs e (subst (λ l. Contains l e) (sym split) (Contains-append_right front (e ∷ back) e (in-head e back)))

    by : (k : Kind) → z.1.kind ≡ k → entry_of k z.0 z.2 ≡ Some e → (v : PlainWorld) × (plain_step program w e ≡ Some v) × IsReached program logs past (front ++ e ∷ []) v
    by kinds.Pcom same is = moves program found logs past f front back e w split reached z.0 (ap (declares (λ d. is_pcom d.kind)) z.3 ∙ ap is_pcom same) z.2 z.4 is
    by kinds.Tcom same is =
        let y = tcom-stamp z.0 z.2 e is in
        clash (is_own e.act) own (ap (λ (o : Entry). is_own o.act) (sym (same_Some (entry z.0 y.0 (acts.Commit y.1 y.2)) e (ap (tcom_entry z.0) (sym y.4) ∙ is))))
    by kinds.Xcom same is = none-some e is
