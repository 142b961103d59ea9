-- The order of decisions among the other records stays when the log of one component grows.
use Rattle.std.proofs.Common.{◌≡◌, refl, ◌∙◌, ap, sym, subst, ℕ, ◌<◌, ◌≤◌, Bool, true, false, cond, ◌&&◌, ◌==◌, List, [], ◌∷◌, ◌++◌, length, ℤ, Option, Some, None, is_none, ◌⊎◌, inl, inr, ⊎_elim, arith}
use Rattle.std.specs.Prelude.{Contains, IsTrue, IsSome, MatchOption, ⊤, slice_get}
use Rattle.std.specs.List.{cons_option}
use Rattle.std.proofs.lemmas.Bool.{and_parts}
use Rattle.std.proofs.lemmas.Option.{same_Some}
use Rattle.std.proofs.lemmas.List.{length-append}
use Rattle.std.proofs.lemmas.List.Elements.{Contains-append_cases, filter_map-append}
use Rattle.ic_base.specs.declared.messages.AbortCause.{AbortCause}
use Rattle.ic_base.specs.declared.messages.ComId.{ComId}
use Rattle.ic_base.specs.declared.messages.Kind.{Kind}
use Rattle.ic_base.specs.declared.messages.Kind.TheVariants as kinds
use Rattle.ic_base.specs.declared.messages.Request.{Request}
use Rattle.ic_base.specs.declared.messages.Entry.{Entry}
use Rattle.ic_base.specs.declared.messages.Packet.{Packet}
use Rattle.ic_base.specs.declared.messages.Session.{Session}
use Rattle.ic_base.specs.declared.scenario.Component.{Component}
use Rattle.ic_base.specs.declared.scenario.Program.{Program}
use Rattle.ic_base.specs.declared.record.Record.{Record}
use Rattle.ic_base.specs.declared.record.Record.TheVariants.{Outcome, Decided}
use Rattle.ic_base.specs.Programs.{same_com, is_a_pcom, is_a_tcom, declares, is_pcom, is_tcom}
use Rattle.def_play.specs.Ledger.{answers_on}
use Rattle.def_plain.specs.History.{pcom_entry}
use Rattle.def_state.specs.Txn.{Committing, is_idle}
use Rattle.def_state.specs.Hist.{Hist, Begun, apply_all, first_hist}
use Rattle.def_step.specs.Tcom.{Book, book_of, first_book}
use Rattle.def_facts.specs.Logs.{Logs, log_at, Stands, contents_in, before_outcome, has_outcome, ends_txn, decisions_on, decides_txn}
use Rattle.def_facts.specs.Pcom.{state_after, IsCommittingAt}
use Rattle.def_facts.specs.Tcom.{DecidedFacts}
use Rattle.def_facts.specs.World.{Past, InOrder, IsBelow, LogsExplained}
use Rattle.law_sound.specs.Order.{Explains}
use Rattle.law_replay.proofs.Committing.{committing_stays, hands_are_open}
use Rattle.law_replay.proofs.Growing.{prefixes_replay}
use Rattle.law_replay.proofs.Lists.{true-false, same-com, self-com, self-number, equal-numbers, some-of, open-content, empty, head-or-tail, contains-split, before-has, before-none, before-all, both-true}
use Rattle.law_replay.proofs.Prefixes.{prefix-self, prefix-trans}
use Rattle.law_replay.proofs.Sends.{stamps_are_below}
use Rattle.law_replay.proofs.Narrowing.{families_explained}
use Rattle.law_replay.proofs.Receiving.{section-state}
use Rattle.law_sound.proofs.Aborting.{decided-not-aborted, none_decided_and_aborted}
use Rattle.law_sound.proofs.Deciding.{at-most-one, decided_once, decision-record, its-tcom}
use Rattle.law_sound.proofs.Decisions.{Agreed, agreed}
use Rattle.law_sound.proofs.Positions.{told}
use Rattle.law_step.proofs.Cross.{IsWith}
use Rattle.law_step.proofs.Splits.{EndsBefore, ends-before, entry-stamp, no-decision}

-- all records explain themselves
pub all-explained : (program : Program) (found forced all : Logs) (past : Past) → LogsExplained program found forced all past → Explains program found all past
all-explained program found forced all past f =
    families_explained program found forced all all past (record { one_each = f.one_each.1; has_forced = f.forced_all; within_all = λ c. prefix-self (log_at all c); ends_well = λ c is. (f.pcoms c is).ends_well }) f

-- who decides, and whose transaction ----------------------------------------------------------------

pub not-both : {B : Type 0} (program : Program) (c : ComId) → is_a_pcom program c ≡ true → is_a_tcom program c ≡ true → B
not-both program c p t = absurd (at (slice_get program.components c.0) p t)
  where
    by : (k : Kind) → is_pcom k ≡ true → is_tcom k ≡ true → ⊥
    by kinds.Pcom x y = true-false y
    by kinds.Tcom x y = true-false x
    by kinds.Xcom x y = true-false x

    at : (o : Option Component) → declares (λ d. is_pcom d.kind) o ≡ true → declares (λ d. is_tcom d.kind) o ≡ true → ⊥
    at None a b = true-false a
    at (Some d) a b = by d.kind a b

-- what is known of a decision of these logs
record Known (program : Program) (all : Logs) (past : Past) (t c : ComId) (n at : ℕ) : Type 0 where
  is_tcom : IsTrue (is_a_tcom program t)
  is_pcom : IsTrue (is_a_pcom program c)
  state : Hist
  is_state : state_after program c (past.received c) (before_outcome (log_at all c) n) ≡ Some state
  place : ℕ
  session : Session
  stage : state.stage ≡ Committing t place session
  begun : state.plain.begun ≡ n

decides-tcom : (program : Program) (found all : Logs) (past : Past) → Explains program found all past → (t d : ComId) (n at : ℕ) → Contains (decisions_on (log_at all t) d n) at → IsTrue (is_a_tcom program t)
decides-tcom program found all past f t d n at h = by (is_a_tcom program t) refl (is_a_pcom program t) refl
  where
    by : (a : Bool) → is_a_tcom program t ≡ a → (b : Bool) → is_a_pcom program t ≡ b → IsTrue (is_a_tcom program t)
    by true is b bs = is
    by false is true bs = let g = some-of (state_after program t (past.received t) (log_at all t)) (f.pcoms t bs).whole.replays in no-decision program t (contents_in (past.received t)) (log_at all t) g.0 d n at g.1 h
    by false is false bs = empty at (subst (λ l. Contains (decisions_on l d n) at) (f.others t bs is).0 h)

agreed-known : (program : Program) (all : Logs) (past : Past) (t c : ComId) (n at place : ℕ) (session : Session) (stamp : ℕ) (a : List ℤ) (requests : List Request) → IsTrue (is_a_tcom program t) → Agreed program all past t c n place session stamp a requests → Known program all past t c n at
agreed-known program all past t c n at place session stamp a requests is x =
    let h = open-content (IsCommittingAt t n place session stamp) (state_after program c (past.received c) (before_outcome (log_at all c) n)) x.ready.5 in
    record { is_tcom = is; is_pcom = x.pcom; state = h.0; is_state = h.1; place = place; session = session; stage = h.2.0; begun = h.2.1 }

known : (program : Program) (found all : Logs) (past : Past) → Explains program found all past → (t c : ComId) (n at : ℕ) → Contains (decisions_on (log_at all t) c n) at → Known program all past t c n at
known program found all past f t c n at h =
    let is = decides-tcom program found all past f t c n at h in
    let r = decision-record (log_at all t) c n at h in
    let s = contains-split (log_at all t) (Decided at c n r.0) r.1 in
    let y = open-content (λ b. DecidedFacts t (length (log_at found t)) (past.sent t) (past.received t) s.0 b at c n r.0) (book_of program t s.0) ((f.tcoms t is).1.decisions s.0 s.1 at c n r.0 s.2) in
    agreed-known program all past t c n at y.2.place y.2.session y.2.asked_at (answers_on y.0.ledger y.2.requests) y.2.requests is (agreed program found all past f t c s.0 y.0 at n r.0 y.2)

-- a Pcom's log grows ----------------------------------------------------------------------------------

-- while it commits, no entry is added
committing-entry : (program : Program) (c : ComId) (received got : List Packet) (log more : List Record) (h g : Hist) (t : ComId) (place : ℕ) (session : Session) (n : ℕ) → state_after program c received log ≡ Some h → h.stage ≡ Committing t place session → h.plain.begun ≡ n → state_after program c (received ++ got) (log ++ more) ≡ Some g →
    (r : Record) → Contains (before_outcome more n) r → (e : Entry) → pcom_entry c r ≡ Some e → ⊥
committing-entry program c received got log more h g t place session n is stage begun now r inside e entry =
    let later = section-state program c received got log h is in
    let y = prefixes_replay program c (contents_in (received ++ got)) log more g now in
    let same : y.0 ≡ h = same_Some y.0 h (sym y.1 ∙ later) in
    let runs : apply_all program c (contents_in (received ++ got)) (Some h) more ≡ Some g = subst (λ z. apply_all program c (contents_in (received ++ got)) (Some z) more ≡ Some g) same y.2 in
    let hand : is_none h.plain.hand ≡ false = hands_are_open program c (contents_in received) log h is ∙ ap is_idle stage in
    let x = committing_stays program c (contents_in (received ++ got)) more n t place session h g stage begun hand runs in
    let z = stamps_are_below program c (contents_in (received ++ got)) (before_outcome more n) h x.1 r e.stamp x.2 inside (entry-stamp c r e entry) in
    omega (arith, z.0, z.1, x.5)

match-none : {A : Type 0} (P : A → Type 0) (o : Option A) → ((x : A) → o ≡ Some x → ⊥) → MatchOption o ⊤ P
match-none P None never = tt
match-none P (Some x) never = absurd (never x refl)

pub pcom-order : (program : Program) (found forced all : Logs) (past : Past) → LogsExplained program found forced all past → (c : ComId) (got : List Packet) (more : List Record) → IsTrue (is_a_pcom program c) → IsSome (state_after program c (past.received c ++ got) (log_at all c ++ more)) →
    (later : Logs) → IsWith all c (log_at all c ++ more) later → InOrder later
pcom-order program found forced all past f c got more is some later w = record {
  own = λ t d n at dec r b. own t d n at (old t d n at dec) r b;
  earlier = λ t u d n m at early dec before lt. f.in_order.earlier t u d n m at early (old t d n at dec) (old u d m early before) lt;
}
  where
    g : (x : Hist) × (state_after program c (past.received c ++ got) (log_at all c ++ more) ≡ Some x)
    g = some-of (state_after program c (past.received c ++ got) (log_at all c ++ more)) some

    old : (t d : ComId) (n at : ℕ) → Contains (decisions_on (log_at later t) d n) at → Contains (decisions_on (log_at all t) d n) at
    old t d n at h = by (same_com c t) refl
      where
        by : (b : Bool) → same_com c t ≡ b → Contains (decisions_on (log_at all t) d n) at
        by true same = no-decision program c (contents_in (past.received c ++ got)) (log_at all c ++ more) g.0 d n at g.1 (subst (λ l. Contains (decisions_on l d n) at) w.here (subst (λ e. Contains (decisions_on (log_at later e) d n) at) (sym (same-com c t same)) h))
        by false apart = subst (λ l. Contains (decisions_on l d n) at) (w.others t apart) h

    own : (t d : ComId) (n at : ℕ) → Contains (decisions_on (log_at all t) d n) at → (r : Record) → Contains (before_outcome (log_at later d) n) r → MatchOption (pcom_entry d r) ⊤ (λ e. IsBelow e.stamp d at t)
    own t d n at dec r b = by (same_com c d) refl
      where
        by : (s : Bool) → same_com c d ≡ s → MatchOption (pcom_entry d r) ⊤ (λ e. IsBelow e.stamp d at t)
        by false apart = f.in_order.own t d n at dec r (subst (λ l. Contains (before_outcome l n) r) (w.others d apart) b)
        by true same = at_c (has_outcome (log_at all d) n) refl
          where
            is_d : c ≡ d
            is_d = same-com c d same

            inside : Contains (before_outcome (log_at all d ++ more) n) r
            inside = subst (λ e. Contains (before_outcome (log_at all e ++ more) n) r) is_d (subst (λ l. Contains (before_outcome l n) r) w.here (subst (λ e. Contains (before_outcome (log_at later e) n) r) (sym is_d) b))

            at_c : (o : Bool) → has_outcome (log_at all d) n ≡ o → MatchOption (pcom_entry d r) ⊤ (λ e. IsBelow e.stamp d at t)
            at_c true has = f.in_order.own t d n at dec r (subst (λ l. Contains l r) (before-has (ends_txn n) (log_at all d) more has) inside)
            at_c false none = ⊎_elim
                (λ k. f.in_order.own t d n at dec r (subst (λ l. Contains l r) (sym (before-all (ends_txn n) (log_at all d) none)) k))
                (λ k. match-none (λ e. IsBelow e.stamp d at t) (pcom_entry d r) (λ e entry. new k e entry))
                (Contains-append_cases (log_at all d) (before_outcome more n) r (subst (λ l. Contains l r) (before-none (ends_txn n) (log_at all d) more none) inside))
              where
                x : Known program all past t d n at
                x = known program found all past (all-explained program found forced all past f) t d n at dec

                new : Contains (before_outcome more n) r → (e : Entry) → pcom_entry d r ≡ Some e → ⊥
                new k e entry =
                    committing-entry program d (past.received d) got (log_at all d) more x.state g.0 t x.place x.session n (ap (state_after program d (past.received d)) (sym (before-all (ends_txn n) (log_at all d) none)) ∙ x.is_state) x.stage x.begun
                    (subst (λ e2. state_after program e2 (past.received e2 ++ got) (log_at all e2 ++ more) ≡ Some g.0) is_d g.1) r k e entry

-- a Tcom's log grows ----------------------------------------------------------------------------------

-- without a decision
pub undecided-order : (program : Program) (found forced all : Logs) (past : Past) → LogsExplained program found forced all past → (t : ComId) (log : List Record) → IsTrue (is_a_tcom program t) → ((d : ComId) (n : ℕ) → decisions_on log d n ≡ decisions_on (log_at all t) d n) → (later : Logs) → IsWith all t log later → InOrder later
undecided-order program found forced all past f t log is same later w = record {
  own = λ u d n at dec r b.
      let k = known program found all past (all-explained program found forced all past f) u d n at (old u d n at dec) in
      f.in_order.own u d n at (old u d n at dec) r (subst (λ l. Contains (before_outcome l n) r) (others d k.is_pcom) b);
  earlier = λ u v d n m at early dec before lt. f.in_order.earlier u v d n m at early (old u d n at dec) (old v d m early before) lt;
}
  where
    old : (u d : ComId) (n at : ℕ) → Contains (decisions_on (log_at later u) d n) at → Contains (decisions_on (log_at all u) d n) at
    old u d n at h = by (same_com t u) refl
      where
        by : (b : Bool) → same_com t u ≡ b → Contains (decisions_on (log_at all u) d n) at
        by true s = subst (λ e. Contains (decisions_on (log_at all e) d n) at) (same-com t u s) (subst (λ l. Contains l at) (ap (λ l. decisions_on l d n) w.here ∙ same d n) (subst (λ e. Contains (decisions_on (log_at later e) d n) at) (sym (same-com t u s)) h))
        by false apart = subst (λ l. Contains (decisions_on l d n) at) (w.others u apart) h

    others : (d : ComId) → IsTrue (is_a_pcom program d) → log_at later d ≡ log_at all d
    others d pcom = by (same_com t d) refl
      where
        by : (b : Bool) → same_com t d ≡ b → log_at later d ≡ log_at all d
        by true s = not-both program d pcom (subst (λ e. is_a_tcom program e ≡ true) (same-com t d s) is)
        by false apart = w.others d apart

same-decision : (c d : ComId) (n m at stamp : ℕ) (writes : List (ℕ × ℤ)) → Contains (decisions_on (Decided stamp c n writes ∷ []) d m) at → (c ≡ d) × (n ≡ m) × (stamp ≡ at)
same-decision c d n m at stamp writes h = by (same_com d c && (m == n)) refl h
  where
    by : (b : Bool) → (same_com d c && (m == n)) ≡ b → Contains (cons_option (cond b (Some stamp) None) []) at → (c ≡ d) × (n ≡ m) × (stamp ≡ at)
    by false e k = empty at k
    by true e k =
        let y = and_parts (same_com d c) (m == n) e in
        (sym (same-com d c y.0), sym (equal-numbers m n y.1), ⊎_elim (λ z. z) (λ z. empty at z) (head-or-tail stamp at [] k))

two-of : {B : Type 0} (xs : List ℕ) (x y : ℕ) → Contains xs x → ((xs ++ y ∷ [] ≡ []) ⊎ ((a : ℕ) × (xs ++ y ∷ [] ≡ a ∷ []))) → B
two-of [] x y h e = empty x h
two-of (z ∷ zs) x y h (inl e) = absurd (cc)
two-of {B} (z ∷ zs) x y h (inr e) = at zs (ap tail e.1)
  where
    tail : List ℕ → List ℕ
    tail [] = []
    tail (a ∷ l) = l

    at : (l : List ℕ) → l ++ y ∷ [] ≡ [] → B
    at [] f = absurd (cc)
    at (a ∷ l) f = absurd (cc)

-- with a decision of this log, in a past that holds what it was made of
pub decided-order : (program : Program) (found forced all : Logs) (past : Past) → LogsExplained program found forced all past → (t c : ComId) (b : Book) (stamp n : ℕ) (writes : List (ℕ × ℤ)) → IsTrue (is_a_tcom program t) →
    DecidedFacts t (length (log_at found t)) (past.sent t) (past.received t) (log_at all t) b stamp c n writes → IsSome (book_of program t (log_at all t ++ Decided stamp c n writes ∷ [])) → (later : Logs) → IsWith all t (log_at all t ++ Decided stamp c n writes ∷ []) later → InOrder later
decided-order program found forced all past f t c b stamp n writes is d reads later w = record {
  own = λ u e m at dec r inside. ⊎_elim
      (λ k. let x = known program found all past g u e m at k in f.in_order.own u e m at k r (subst (λ l. Contains (before_outcome l m) r) (others e x.is_pcom) inside))
      (λ k. own u e m at r k (subst (λ l. Contains (before_outcome l m) r) (others e (subst (λ z. is_a_pcom program z ≡ true) k.1 new.pcom)) inside))
      (cases u e m at dec);
  earlier = λ u v e m i at early dec before lt. earlier u v e m i at early (cases u e m at dec) (cases v e i early before) lt;
}
  where
    g : Explains program found all past
    g = all-explained program found forced all past f

    new : Agreed program all past t c n d.place d.session d.asked_at (answers_on b.ledger d.requests) d.requests
    new = agreed program found all past (all-explained program found forced all past f) t c (log_at all t) b stamp n writes d

    found-within : length (log_at found t) ≤ length (log_at all t)
    found-within = let p = prefix-trans (log_at found t) (log_at forced t) (log_at all t) (f.found_forced t) (f.forced_all t) in omega (arith, ap length p.1, length-append (log_at found t) p.0)

    above : d.asked_at < stamp
    above = d.stamp_above found-within

    now : (h : Hist) × (state_after program c (past.received c) (before_outcome (log_at all c) n) ≡ Some h) × IsCommittingAt t n d.place d.session d.asked_at h
    now = open-content (IsCommittingAt t n d.place d.session d.asked_at) (state_after program c (past.received c) (before_outcome (log_at all c) n)) new.ready.5

    whole : (h : Hist) × (state_after program c (past.received c) (log_at all c) ≡ Some h)
    whole = some-of (state_after program c (past.received c) (log_at all c)) (f.pcoms c new.pcom).whole.replays

    others : (e : ComId) → IsTrue (is_a_pcom program e) → log_at later e ≡ log_at all e
    others e pcom = by (same_com t e) refl
      where
        by : (v : Bool) → same_com t e ≡ v → log_at later e ≡ log_at all e
        by true s = not-both program e pcom (subst (λ z. is_a_tcom program z ≡ true) (same-com t e s) is)
        by false apart = w.others e apart

    -- a decision of the later logs stood before, or is this one
    cases : (u e : ComId) (m at : ℕ) → Contains (decisions_on (log_at later u) e m) at → Contains (decisions_on (log_at all u) e m) at ⊎ ((t ≡ u) × (c ≡ e) × (n ≡ m) × (stamp ≡ at))
    cases u e m at h = by (same_com t u) refl
      where
        by : (v : Bool) → same_com t u ≡ v → Contains (decisions_on (log_at all u) e m) at ⊎ ((t ≡ u) × (c ≡ e) × (n ≡ m) × (stamp ≡ at))
        by false apart = inl (subst (λ l. Contains (decisions_on l e m) at) (w.others u apart) h)
        by true s = ⊎_elim (λ k. inl (subst (λ z. Contains (decisions_on (log_at all z) e m) at) (same-com t u s) k))
            (λ k. let y = same-decision c e n m at stamp writes k in inr (same-com t u s, y.0, y.1, y.2))
            (Contains-append_cases (decisions_on (log_at all t) e m) (decisions_on (Decided stamp c n writes ∷ []) e m) at
            (subst (λ l. Contains l at) (ap (λ l. decisions_on l e m) w.here ∙ filter_map-append (decides_txn e m) (log_at all t) (Decided stamp c n writes ∷ [])) (subst (λ z. Contains (decisions_on (log_at later z) e m) at) (sym (same-com t u s)) h)))

    own : (u e : ComId) (m at : ℕ) (r : Record) → (k : (t ≡ u) × (c ≡ e) × (n ≡ m) × (stamp ≡ at)) → Contains (before_outcome (log_at all e) m) r → MatchOption (pcom_entry e r) ⊤ (λ z. IsBelow z.stamp e at u)
    own u e m at r k inside =
        let here : Contains (before_outcome (log_at all c) n) r = subst (λ z. Contains (before_outcome (log_at all z) n) r) (sym k.1) (subst (λ i. Contains (before_outcome (log_at all e) i) r) (sym k.2) inside) in
        each (pcom_entry e r) (λ z entry.
        let s = (stamps_are_below program c (contents_in (past.received c)) (before_outcome (log_at all c) n) (first_hist program c) now.0 r z.stamp now.1 here (entry-stamp e r z entry)).1 in
        inl (omega (arith, s, now.2.2, above, k.3)))
      where
        each : (o : Option Entry) → ((z : Entry) → o ≡ Some z → IsBelow z.stamp e at u) → MatchOption o ⊤ (λ z. IsBelow z.stamp e at u)
        each None p = tt
        each (Some z) p = p z refl

    -- this decision stands behind those of earlier transactions
    behind : (v : ComId) (i early : ℕ) → Contains (decisions_on (log_at all v) c i) early → i < n → early < stamp
    behind v i early before lt =
        let x = known program found all past g v c i early before in
        how x (ends-before program c (contents_in (past.received c)) (log_at all c) i n x.state now.0 whole.0 whole.1 x.is_state x.begun now.1 now.2.1 lt)
      where
        how : Known program all past v c i early → EndsBefore (log_at all c) i now.0.clock → early < stamp
        how x y = by y.abort y.stands
          where
            by : (o : Option AbortCause) → Stands (log_at all c) y.front (Outcome y.at i o) y.behind → early < stamp
            by (Some cause) st =
                let r = decision-record (log_at all v) c i early before in
                let q = contains-split (log_at all v) (Decided early c i r.0) r.1 in
                absurd (none_decided_and_aborted program found all past g v c q.0 q.1 y.front y.behind early y.at i r.0 cause x.is_tcom q.2 st)
            by None st =
                let z = told program found all past g c new.pcom y.front y.behind i y.at st in
                let once = decided_once program found all past g v z.tcom c i early z.at x.is_tcom z.is_tcom before z.decision in
                omega (arith, once.1, z.below, y.early, now.2.2, above)

    -- and none of a later one stands
    none-later : (u : ComId) (m at : ℕ) → Contains (decisions_on (log_at all u) c m) at → n < m → ⊥
    none-later u m at dec lt =
        let x = known program found all past g u c m at dec in
        how x (ends-before program c (contents_in (past.received c)) (log_at all c) n m now.0 x.state whole.0 whole.1 now.1 now.2.1 x.is_state x.begun lt)
      where
        how : (x : Known program all past u c m at) → EndsBefore (log_at all c) n x.state.clock → ⊥
        how x y = by y.abort y.stands
          where
            by : (o : Option AbortCause) → Stands (log_at all c) y.front (Outcome y.at n o) y.behind → ⊥
            by (Some cause) st = decided-not-aborted program found all past g t c (log_at all t) b stamp n writes y.front y.behind y.at cause is st d (λ old later a. (found-within, a.4))
            by None st =
                let z = told program found all past g c new.pcom y.front y.behind n y.at st in
                let its = its-tcom program found all past g z.tcom c n z.at z.is_tcom z.decision in
                let same : its.0 ≡ new.begun = same_Some its.0 new.begun (sym its.1 ∙ new.is_begun) in
                let there : z.tcom ≡ t = sym its.2 ∙ ap (λ (k : Begun). k.tcom) same ∙ new.ready.1 in
                let book = some-of (book_of program t (log_at all t ++ Decided stamp c n writes ∷ [])) reads in
                two-of (decisions_on (log_at all t) c n) z.at stamp (subst (λ e. Contains (decisions_on (log_at all e) c n) z.at) there z.decision)
                (subst (λ l. (l ≡ []) ⊎ ((a : ℕ) × (l ≡ a ∷ []))) (filter_map-append (decides_txn c n) (log_at all t) (Decided stamp c n writes ∷ []) ∙ ap (λ v. decisions_on (log_at all t) c n ++ cons_option (cond v (Some stamp) None) []) (both-true (same_com c c) (n == n) (self-com c) (self-number n)))
                (at-most-one program t (log_at all t ++ Decided stamp c n writes ∷ []) (first_book program t) book.0 c n book.1))

    earlier : (u v e : ComId) (m i at early : ℕ) → Contains (decisions_on (log_at all u) e m) at ⊎ ((t ≡ u) × (c ≡ e) × (n ≡ m) × (stamp ≡ at)) → Contains (decisions_on (log_at all v) e i) early ⊎ ((t ≡ v) × (c ≡ e) × (n ≡ i) × (stamp ≡ early)) → i < m → IsBelow early v at u
    earlier u v e m i at early (inl x) (inl y) lt = f.in_order.earlier u v e m i at early x y lt
    earlier u v e m i at early (inr x) (inr y) lt = absurd (omega (arith, x.2, y.2, lt))
    earlier u v e m i at early (inr x) (inl y) lt = inl (subst (λ z. early < z) x.3 (behind v i early (subst (λ z. Contains (decisions_on (log_at all v) z i) early) (sym x.1) y) (omega (arith, x.2, lt))))
    earlier u v e m i at early (inl x) (inr y) lt = absurd (none-later u m at (subst (λ z. Contains (decisions_on (log_at all u) z m) at) (sym y.1) x) (omega (arith, y.2, lt)))
