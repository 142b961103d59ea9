-- What sound logs say of each Pcom, and where it stands at each place of their history.
use Rattle.std.proofs.Common.{◌≡◌, refl, ◌∙◌, ap, sym, subst, ℕ, suc, ◌+◌, ◌<◌, Bool, true, false, ◌&&◌, ◌==◌, List, [], ◌∷◌, length, filter_map, slice_get, unwrap_or, ℤ, Option, Some, None, option_map, option_and_then, cond, arith, ◌⊎◌, inl, inr}
use Rattle.std.specs.Prelude.{Contains, IsTrue, IsSome}
use Rattle.std.specs.Result.{IsOkAnd}
use Rattle.std.proofs.lemmas.Option.{same_Some, slice_get-map}
use Rattle.ic_base.specs.declared.messages.ComId.{ComId}
use Rattle.ic_base.specs.declared.messages.Entry.{Entry}
use Rattle.ic_base.specs.declared.messages.Act.TheVariants as acts
use Rattle.ic_base.specs.declared.messages.Kind.{Kind}
use Rattle.ic_base.specs.declared.messages.Kind.TheVariants as kinds
use Rattle.ic_base.specs.declared.messages.AbortCause.{AbortCause}
use Rattle.ic_base.specs.declared.scenario.Component.{Component}
use Rattle.ic_base.specs.declared.scenario.Program.{Program}
use Rattle.ic_base.specs.declared.record.Record.{Record}
use Rattle.ic_base.specs.declared.record.Record.TheVariants.{Take, TakeWhole, Outcome, Decided}
use Rattle.ic_base.specs.Programs.{same_com, is_a_pcom, is_a_tcom, is_pcom, is_tcom, declares, is_other_pcom}
use Rattle.def_plain.specs.Plain.{PlainWorld, as_pcom, pcom_at, plain_run_of, first_world, first_of_kind}
use Rattle.def_plain.specs.History.{entry, entry_of, pcom_entry, tcom_entry, history_of, log_entries, entries_from}
use Rattle.def_state.specs.Fits.{fits, may_take}
use Rattle.def_state.specs.Hist.{Hist, Contents, apply, apply_all, after, first_hist, first_plain, first_cell, recorded, standing_of}
use Rattle.def_step.specs.Tcom.{Book, book, book_of, first_book, book_fits, booked}
use Rattle.def_facts.specs.Logs.{Logs, log_at, Stands, has_outcome, ends_txn, decisions_on, decides_txn}
use Rattle.def_facts.specs.Sound.{contents_of, state_in, history_before, IsSound}
use Rattle.law_sound.specs.Assembly.{is_own}
use Rattle.law_sound.specs.Order.{Rises}
use Rattle.law_replay.proofs.Lists.{none-some, front as fst-true, clash, self-com, passed}
use Rattle.law_replay.proofs.Lists.{back as snd-true}
use Rattle.law_replay.proofs.Growing.{apply_none, prefixes_replay}
use Rattle.law_replay.proofs.Lists.{open-content}
use Rattle.law_replay.proofs.Lists.{head-or-tail}
use Rattle.law_sound.proofs.Histories.{history_has_entries, entries_are_in_history}
use Rattle.law_replay.proofs.Lists.{empty}
use Rattle.law_sound.proofs.Deciding.{decision-record, commits-is, declared-tcom, the-component}
use Rattle.law_replay.proofs.Lists.{contains-split}
use Rattle.law_sound.proofs.Rising.{own-entry, in-order-rises, entries-apart, pcom-rises, tcom-rises, tcom-stamp}
use Rattle.law_sound.proofs.Reaching.{the-pcom}
use Rattle.law_replay.proofs.Members.{any-has, mapped-keeps}
use Rattle.law_replay.proofs.Records.{ends-is, book-none}

-- lists -----------------------------------------------------------------------------------------------

pub only-one : {A : Type 0} (xs : List A) (x y : A) → length xs ≡ 1 → Contains xs x → Contains xs y → x ≡ y
only-one [] x y e h k = empty x h
only-one (z ∷ []) x y e h k = by (head-or-tail z x [] h) (head-or-tail z y [] k)
  where
    by : (z ≡ x) ⊎ Contains [] x → (z ≡ y) ⊎ Contains [] y → x ≡ y
    by (inl a) (inl b) = sym a ∙ b
    by (inl a) (inr b) = empty y b
    by (inr a) b = empty x a
only-one (z ∷ u ∷ xs) x y e h k = absurd (more (length xs) e)
  where
    more : (n : ℕ) → suc (suc n) ≡ 1 → ⊥
    more n f = omega (arith, f)

pub some-length : {A : Type 0} (xs : List A) (x : A) → Contains xs x → 0 < length xs
some-length [] x h = empty x h
some-length (y ∷ ys) x h = positive (length ys)
  where
    positive : (n : ℕ) → 0 < suc n
    positive n = omega arith

-- records of a log ------------------------------------------------------------------------------------

-- where a record of a log fits
pub record AtRecord (program : Program) (c : ComId) (k : Contents) (pre : List Record) (r : Record) (post : List Record) (last : Hist) : Type 0 where
  pub before : Hist
  pub is_before : after program c k pre ≡ Some before
  pub fit : fits program c (standing_of program c before) r ≡ true
  pub behind : Hist
  pub applied : apply program c k before r ≡ Some behind
  pub tail : apply_all program c k (Some behind) post ≡ Some last

pub at-record : (program : Program) (c : ComId) (k : Contents) (log pre post : List Record) (r : Record) (last : Hist) → after program c k log ≡ Some last → Stands log pre r post → AtRecord program c k pre r post last
at-record program c k log pre post r last e st = step (apply program c k h.0 r) refl h.2
  where
    h : (x : Hist) × (after program c k pre ≡ Some x) × (apply_all program c k (Some x) (r ∷ post) ≡ Some last)
    h = prefixes_replay program c k pre (r ∷ post) last (ap (after program c k) (sym st) ∙ e)

    step : (o : Option Hist) → apply program c k h.0 r ≡ o → apply_all program c k o post ≡ Some last → AtRecord program c k pre r post last
    step None is f = none-some last (sym (apply_none program c k post) ∙ f)
    step (Some y) is f = record { before = h.0; is_before = h.1; fit = (passed (fits program c (standing_of program c h.0) r) (recorded program c k h.0 r) y is).0; behind = y; applied = is; tail = f }

-- a Pcom's log has no decision
pub no-decision : {B : Type 0} (program : Program) (c : ComId) (k : Contents) (log : List Record) (last : Hist) (d : ComId) (n a : ℕ) → after program c k log ≡ Some last → Contains (decisions_on log d n) a → B
no-decision program c k log last d n a e h =
    let r = decision-record log d n a h in
    let s = contains-split log (Decided a d n r.0) r.1 in
    clash false (at-record program c k log s.0 s.1 (Decided a d n r.0) last e s.2).fit refl

-- a message is taken from a Pcom
pub taken-from : (program : Program) (c : ComId) (k : Contents) (log : List Record) (last : Hist) (s : ComId) (i stamp : ℕ) → after program c k log ≡ Some last → Contains log (Take s i stamp) → IsTrue (is_a_pcom program s)
taken-from program c k log last s i stamp e h =
    let z = contains-split log (Take s i stamp) h in
    let x = at-record program c k log z.0 z.1 (Take s i stamp) last e z.2 in
    fst-true (is_a_pcom program s) _ (fst-true (is_other_pcom program c s) _ (snd-true _ _ (snd-true _ (_ && (is_other_pcom program c s && _)) (snd-true _ (may_take program c (standing_of program c x.before) false s i) x.fit))))

pub whole-from : (program : Program) (c : ComId) (k : Contents) (log : List Record) (last : Hist) (s : ComId) (i stamp handler : ℕ) (args : List ℤ) → after program c k log ≡ Some last → Contains log (TakeWhole s i stamp handler args) → IsTrue (is_a_pcom program s)
whole-from program c k log last s i stamp handler args e h =
    let z = contains-split log (TakeWhole s i stamp handler args) h in
    let x = at-record program c k log z.0 z.1 (TakeWhole s i stamp handler args) last e z.2 in
    fst-true (is_a_pcom program s) _ (fst-true (is_other_pcom program c s) _ (snd-true _ _ (snd-true _ (_ && (is_other_pcom program c s && _)) (fst-true (may_take program c (standing_of program c x.before) true s i) _ (snd-true _ _ x.fit)))))

pub the-outcome : (log : List Record) (n : ℕ) → has_outcome log n ≡ true → (stamp : ℕ) × (abort : Option AbortCause) × Contains log (Outcome stamp n abort)
the-outcome log n e = let x = any-has (ends_txn n) log e in let y = ends-is n x.0 x.2 in (y.0, y.1, subst (Contains log) y.2 x.1)

-- a decision is of a Pcom's transaction
pub decided-pcom : (program : Program) (t : ComId) (rs : List Record) (b g : Book) (c : ComId) (n a : ℕ) (writes : List (ℕ × ℤ)) → book program t (Some b) rs ≡ Some g → Contains rs (Decided a c n writes) → IsTrue (is_a_pcom program c)
decided-pcom program t [] b g c n a writes e h = empty (Decided a c n writes) h
decided-pcom program t (r ∷ rs) b g c n a writes e h = at (book_fits program t b r) refl e (λ y. decided-pcom program t rs y g c n a writes)
  where
    at : (o : Bool) → book_fits program t b r ≡ o → book program t (cond o (Some (booked b r)) None) rs ≡ Some g → ((y : Book) → book program t (Some y) rs ≡ Some g → Contains rs (Decided a c n writes) → IsTrue (is_a_pcom program c)) → IsTrue (is_a_pcom program c)
    at false is f more = none-some g (sym (book-none program t rs) ∙ f)
    at true is f more = by (head-or-tail r (Decided a c n writes) rs h)
      where
        by : (r ≡ Decided a c n writes) ⊎ Contains rs (Decided a c n writes) → IsTrue (is_a_pcom program c)
        by (inl same) = fst-true (is_a_pcom program c) _ (snd-true _ (is_a_pcom program c && _) (snd-true _ (_ && (is_a_pcom program c && _)) (subst (λ q. book_fits program t b q ≡ true) same is)))
        by (inr i) = more (booked b r) f i

-- the history -----------------------------------------------------------------------------------------

pub decision-entry : (program : Program) (logs : Logs) (t c : ComId) (n a : ℕ) → IsTrue (is_a_tcom program t) → Contains (decisions_on (log_at logs t) c n) a → Contains (history_of program logs) (entry t a (acts.Commit c n))
decision-entry program logs t c n a is h =
    let r = decision-record (log_at logs t) c n a h in
    let x = the-component program t is in
    entries_are_in_history program logs (entry t a (acts.Commit c n)) t x.0 (Decided a c n r.0) x.1 r.1 (ap (λ k. entry_of k t (Decided a c n r.0)) x.2)

pub entry-decision : (program : Program) (logs : Logs) (t c : ComId) (n a : ℕ) → Contains (history_of program logs) (entry t a (acts.Commit c n)) → IsTrue (is_a_tcom program t) × Contains (decisions_on (log_at logs t) c n) a
entry-decision program logs t c n a h = (subst (λ z. IsTrue (is_a_tcom program z)) (sym same-place) (declared-tcom program z.0 z.1 z.3 y.0), subst (λ u. Contains (decisions_on (log_at logs u) c n) a) (sym same-place) (subst (Contains (decisions_on (log_at logs z.0) c n)) (sym stamp) (mapped-keeps (decides_txn c n) (log_at logs z.0) z.2 y.1 z.4 y.2)))
  where
    e : Entry
    e = entry t a (acts.Commit c n)

    z : (d : ComId) × (x : Component) × (r : Record) × (slice_get program.components d.0 ≡ Some x) × Contains (log_at logs d) r × (entry_of x.kind d r ≡ Some e)
    z = history_has_entries program logs e h

    both : (u v : Bool) → u ≡ true → v ≡ true → u && v ≡ true
    both true v p q = q
    both false v p q = p

    self : (m : ℕ) → (m == m) ≡ true
    self m = grind arith

    y : (is_tcom z.1.kind ≡ true) × (b : ℕ) × (decides_txn c n z.2 ≡ Some b) × (e ≡ entry z.0 b (acts.Commit c n))
    y = commits-is z.1 z.0 c n z.2 e z.5 (both (same_com c c) (n == n) (self-com c) (self n))

    same-place : t ≡ z.0
    same-place = ap (λ (x : Entry). x.com) y.3

    stamp : a ≡ y.1
    stamp = ap (λ (x : Entry). x.stamp) y.3

pub own-stands : (program : Program) (logs : Logs) (c : ComId) (r : Record) (e : Entry) → IsTrue (is_a_pcom program c) → Contains (log_at logs c) r → pcom_entry c r ≡ Some e → Contains (history_of program logs) e
own-stands program logs c r e is h own = let d = the-pcom program c is in entries_are_in_history program logs e c d.0 r d.1 h (ap (λ k. entry_of k c r) d.2 ∙ own)

-- an own entry is of a record of its component
pub own-record : (program : Program) (logs : Logs) (c : ComId) (e : Entry) → Contains (history_of program logs) e → e.com ≡ c → is_own e.act ≡ true → (r : Record) × Contains (log_at logs c) r × (pcom_entry c r ≡ Some e)
own-record program logs c e h here own = by z.1.kind refl z.5
  where
    z : (d : ComId) × (x : Component) × (r : Record) × (slice_get program.components d.0 ≡ Some x) × Contains (log_at logs d) r × (entry_of x.kind d r ≡ Some e)
    z = history_has_entries program logs e h

    by : (k : Kind) → z.1.kind ≡ k → entry_of k z.0 z.2 ≡ Some e → (r : Record) × Contains (log_at logs c) r × (pcom_entry c r ≡ Some e)
    by kinds.Pcom same is =
        let here2 : z.0 ≡ c = sym (own-entry z.0 z.2 e is).1 ∙ here in
        (z.2, subst (λ d. Contains (log_at logs d) z.2) here2 z.4, ap (λ d. pcom_entry d z.2) (sym here2) ∙ is)
    by kinds.Tcom same is =
        let y = tcom-stamp z.0 z.2 e is in
        clash (is_own e.act) own (ap (λ (o : Entry). is_own o.act) (sym (same_Some (entry z.0 y.0 (acts.Commit y.1 y.2)) e (ap (tcom_entry z.0) (sym y.4) ∙ is))))
    by kinds.Xcom same is = none-some e is

pub the-ledger-book : (program : Program) (logs : Logs) (w : PlainWorld) → IsSound program logs w → (t : ComId) → IsTrue (is_a_tcom program t) → (b : Book) × (book_of program t (log_at logs t) ≡ Some b)
the-ledger-book program logs w sound t is = some (book_of program t (log_at logs t)) (sound.tcoms_read t is)
  where
    some : (o : Option Book) → IsSome o → (b : Book) × (o ≡ Some b)
    some None e = absurd (cc)
    some (Some b) e = (b, refl)

pub the-state : (program : Program) (logs : Logs) (w : PlainWorld) → IsSound program logs w → (c : ComId) → IsTrue (is_a_pcom program c) → (h : Hist) × (state_in program logs w c ≡ Some h) × IsOkAnd (plain_run_of program (history_before program logs c)) (λ v. pcom_at v c ≡ Some h.plain)
the-state program logs w sound c is = open-content (λ (h : Hist). IsOkAnd (plain_run_of program (history_before program logs c)) (λ v. pcom_at v c ≡ Some h.plain)) (state_in program logs w c) (sound.agrees c is)

-- no two entries share a position
pub sound-rises : (program : Program) (logs : Logs) (w : PlainWorld) → IsSound program logs w → Rises (history_of program logs)
sound-rises program logs w sound = in-order-rises (entries_from 0 program.components logs) (entries-apart 0 program.components logs each)
  where
    zero-plus : (j : ℕ) → 0 + j ≡ j
    zero-plus j = omega arith

    each : (j : ℕ) (x : Component) (log : List Record) → slice_get program.components j ≡ Some x → slice_get logs j ≡ Some log → Rises (log_entries x.kind (record { 0 = 0 + j }) log)
    each j x log is was = subst (λ k. Rises (log_entries x.kind (record { 0 = k }) log)) (sym (zero-plus j)) (by x.kind refl)
      where
        c : ComId
        c = record { 0 = j }

        here : log_at logs c ≡ log
        here = ap (λ o. unwrap_or o []) was

        by : (k : Kind) → x.kind ≡ k → Rises (log_entries k c log)
        by kinds.Pcom same =
            let g = the-state program logs w sound c (ap (declares (λ d. is_pcom d.kind)) is ∙ ap is_pcom same) in
            subst (λ l. Rises (filter_map (pcom_entry c) l)) here (pcom-rises program c (contents_of w c) (log_at logs c) (first_hist program c) g.0 g.1)
        by kinds.Tcom same =
            let g = the-ledger-book program logs w sound c (ap (declares (λ d. is_tcom d.kind)) is ∙ ap is_tcom same) in
            subst (λ l. Rises (filter_map (tcom_entry c) l)) here (tcom-rises program c (log_at logs c) (first_book program c) g.0 g.1)
        by kinds.Xcom same = nothing log
          where
            nothing : (l : List Record) → Rises (filter_map (entry_of kinds.Xcom c) l)
            nothing [] = tt
            nothing (r ∷ l) = nothing l

-- a Pcom before the first entry
pub first-there : (program : Program) (c : ComId) → IsTrue (is_a_pcom program c) → pcom_at (first_world program) c ≡ Some (first_plain program c)
first-there program c is =
    let d = the-pcom program c is in
    ap (option_and_then as_pcom) (slice_get-map (λ (x : Component). first_of_kind x.kind x) program.components c.0 ∙ ap (option_map (λ (x : Component). first_of_kind x.kind x)) d.1) ∙ ap (λ k. as_pcom (first_of_kind k d.0)) d.2 ∙ ap (λ o. Some (first_cell o)) (sym d.1)
