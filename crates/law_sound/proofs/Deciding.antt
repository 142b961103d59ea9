-- A transaction is decided once, and its decision is the entry of the history that commits it.
use Rattle.std.proofs.Common.{◌≡◌, refl, ◌∙◌, ap, sym, subst, ℕ, Bool, true, false, cond, ◌&&◌, ◌==◌, List, [], ◌∷◌, find, slice_get, Option, Some, None, is_none, ◌⊎◌, inl, inr}
use Rattle.std.specs.Prelude.{Contains, IsTrue}
use Rattle.std.specs.List.{cons_option}
use Rattle.std.proofs.lemmas.Option.{same_Some}
use Rattle.ic_base.specs.declared.messages.ComId.{ComId}
use Rattle.ic_base.specs.declared.messages.Entry.{Entry}
use Rattle.ic_base.specs.declared.messages.Act.TheVariants as acts
use Rattle.ic_base.specs.declared.messages.Kind.{Kind}
use Rattle.ic_base.specs.declared.messages.Kind.TheVariants as kinds
use Rattle.ic_base.specs.declared.scenario.Component.{Component}
use Rattle.ic_base.specs.declared.scenario.Program.{Program}
use Rattle.ic_base.specs.declared.record.Record.{Record}
use Rattle.ic_base.specs.declared.record.Record.TheVariants.{Take, TakeWhole, Input, Value, Outcome, Released, Shown, Checkpoint, Epoch, Decided}
use Rattle.ic_base.specs.Programs.{same_com, is_a_tcom, is_tcom, declares}
use Rattle.def_plain.specs.History.{entry, entry_of, history_of}
use Rattle.def_state.specs.Hist.{Begun}
use Rattle.def_step.specs.Tcom.{Book, book, booked, book_fits, book_of, decided_at, is_of, first_book}
use Rattle.def_facts.specs.Logs.{Logs, log_at, decisions_on, decides_txn}
use Rattle.def_facts.specs.Pcom.{begun_in}
use Rattle.def_facts.specs.World.{Past}
use Rattle.law_replay.proofs.Lists.{none-some, front, back, some-of, open-content, equal-numbers, same-com, in-head, in-tail, head-or-tail, empty, contains-split, self-number, true-false, both-true, self-com}
use Rattle.law_sound.specs.Order.{Explains, DecisionAgrees, DecidedOnce, CommitsAreDecisions, is_commit_of}
use Rattle.law_sound.proofs.Decisions.{answers_agree}
use Rattle.law_sound.proofs.Histories.{history_has_entries, entries_are_in_history}
use Rattle.law_replay.proofs.Members.{mapped-has, mapped-keeps}
use Rattle.law_replay.proofs.Records.{book-none, found-last, found-stays}

-- the book ----------------------------------------------------------------------------------------

-- a transaction is decided in a book
IsDecided : Book → ComId → ℕ → Type 0
IsDecided b c n = is_none (decided_at b c n) ≡ false

-- one record: it keeps what is decided, and decides a transaction that wasn't
booked-keeps : (b : Book) (r : Record) (c : ComId) (n : ℕ) → IsDecided b c n → IsDecided (booked b r) c n
unfolding IsDecided
booked-keeps b (Decided stamp d m writes) c n x = found-stays b.decided (record { peer = d; n = m; stamp = stamp } ∷ []) (is_of c n) x
booked-keeps b (Epoch epoch) c n x = x
booked-keeps b (Take from k stamp) c n x = x
booked-keeps b (TakeWhole from k stamp handler args) c n x = x
booked-keeps b (Input stamp handler args) c n x = x
booked-keeps b (Value m place session value) c n x = x
booked-keeps b (Outcome stamp m abort) c n x = x
booked-keeps b (Released to k) c n x = x
booked-keeps b (Shown m) c n x = x
booked-keeps b (Checkpoint image) c n x = x

-- a record that decides (c, n)
decides-is : (c : ComId) (n : ℕ) (r : Record) (a : ℕ) → decides_txn c n r ≡ Some a → (writes : _) × (r ≡ Decided a c n writes)
decides-is c n (Decided stamp d m writes) a e = at (same_com c d) refl (n == m) refl e
  where
    at : (x : Bool) → same_com c d ≡ x → (y : Bool) → (n == m) ≡ y → cond (x && y) (Some stamp) None ≡ Some a → (w : _) × (Decided stamp d m writes ≡ Decided a c n w)
    at true p true q f = (writes, ap (λ s. Decided s d m writes) (same_Some stamp a f) ∙ ap (λ z. Decided a z m writes) (sym (same-com c d p)) ∙ ap (λ z. Decided a c z writes) (sym (equal-numbers n m q)))
    at true p false q f = none-some a f
    at false p y q f = none-some a f
decides-is c n (Epoch epoch) a e = none-some a e
decides-is c n (Take from k stamp) a e = none-some a e
decides-is c n (TakeWhole from k stamp handler args) a e = none-some a e
decides-is c n (Input stamp handler args) a e = none-some a e
decides-is c n (Value m place session value) a e = none-some a e
decides-is c n (Outcome stamp m abort) a e = none-some a e
decides-is c n (Released to k) a e = none-some a e
decides-is c n (Shown m) a e = none-some a e
decides-is c n (Checkpoint image) a e = none-some a e

-- behind a decision on (c, n) it is decided; where it is, no decision on it fits
decides-now : (b : Book) (c : ComId) (n a : ℕ) (writes : _) → IsDecided (booked b (Decided a c n writes)) c n
unfolding IsDecided
decides-now b c n a writes = found-last b.decided (record { peer = c; n = n; stamp = a }) (is_of c n) (both-true (same_com c c) (n == n) (self-com c) (self-number n))

misfit : {B : Type 0} (program : Program) (t : ComId) (b : Book) (c : ComId) (n a : ℕ) (writes : List (ℕ × _)) → IsDecided b c n → book_fits program t b (Decided a c n writes) ≡ true → B
unfolding IsDecided
misfit program t b c n a writes x e = clash (is_none (decided_at b c n)) (front (is_none (decided_at b c n)) _ (back _ _ e)) x
  where
    clash : {B : Type 0} (v : Bool) → v ≡ true → v ≡ false → B
    clash true u w = absurd (cc)
    clash false u w = absurd (cc)

stays-decided : (program : Program) (t : ComId) (rs : List Record) (b g : Book) (c : ComId) (n a : ℕ) → IsDecided b c n → book program t (Some b) rs ≡ Some g → Contains (decisions_on rs c n) a → ⊥
stays-decided program t [] b g c n a x e h = empty a h
stays-decided program t (r ∷ rs) b g c n a x e h = at (book_fits program t b r) refl e (stays-decided program t rs (booked b r) g c n a (booked-keeps b r c n x))
  where
    none : {B : Type 0} → book program t None rs ≡ Some g → B
    none f = none-some g (sym (book-none program t rs) ∙ f)

    at : (v : Bool) → book_fits program t b r ≡ v → book program t (cond v (Some (booked b r)) None) rs ≡ Some g → (book program t (Some (booked b r)) rs ≡ Some g → Contains (decisions_on rs c n) a → ⊥) → ⊥
    at false is f more = none f
    at true is f more = by (decides_txn c n r) refl h
      where
        by : (o : Option ℕ) → decides_txn c n r ≡ o → Contains (cons_option o (decisions_on rs c n)) a → ⊥
        by None was g2 = more f g2
        by (Some s) was g2 =
            let d = decides-is c n r s was in misfit program t b c n s d.0 x (subst (λ z. book_fits program t b z ≡ true) d.1 is)

-- and it does so by one record
pub at-most-one : (program : Program) (t : ComId) (rs : List Record) (b g : Book) (c : ComId) (n : ℕ) → book program t (Some b) rs ≡ Some g → (decisions_on rs c n ≡ []) ⊎ ((a : ℕ) × (decisions_on rs c n ≡ a ∷ []))
at-most-one program t [] b g c n e = inl refl
at-most-one program t (r ∷ rs) b g c n e = at (book_fits program t b r) refl e (at-most-one program t rs (booked b r) g c n)
  where
    nothing : (xs : List ℕ) → ((a : ℕ) → Contains xs a → ⊥) → xs ≡ []
    nothing [] no_item = refl
    nothing (x ∷ xs) no_item = absurd (no_item x (in-head x xs))

    at : (v : Bool) → book_fits program t b r ≡ v → book program t (cond v (Some (booked b r)) None) rs ≡ Some g →
        (book program t (Some (booked b r)) rs ≡ Some g → (decisions_on rs c n ≡ []) ⊎ ((a : ℕ) × (decisions_on rs c n ≡ a ∷ []))) → (decisions_on (r ∷ rs) c n ≡ []) ⊎ ((a : ℕ) × (decisions_on (r ∷ rs) c n ≡ a ∷ []))
    at false is f more = none-some g (sym (book-none program t rs) ∙ f)
    at true is f more = by (decides_txn c n r) refl (more f)
      where
        by : (o : Option ℕ) → decides_txn c n r ≡ o → (decisions_on rs c n ≡ []) ⊎ ((a : ℕ) × (decisions_on rs c n ≡ a ∷ [])) → (cons_option o (decisions_on rs c n) ≡ []) ⊎ ((a : ℕ) × (cons_option o (decisions_on rs c n) ≡ a ∷ []))
        by None was rest = rest
        by (Some s) was rest =
            let d = decides-is c n r s was in
            inr (s, ap (λ l. s ∷ l) (nothing (decisions_on rs c n) (λ a h. stays-decided program t rs (booked b r) g c n a (subst (λ z. IsDecided (booked b z) c n) (sym d.1) (decides-now b c n s d.0)) f h)))

-- a log decides a transaction once
once : (program : Program) (t : ComId) (rs : List Record) (b g : Book) (c : ComId) (n x y : ℕ) → book program t (Some b) rs ≡ Some g → Contains (decisions_on rs c n) x → Contains (decisions_on rs c n) y → x ≡ y
once program t [] b g c n x y e h k = empty x h
once program t (r ∷ rs) b g c n x y e h k = at (book_fits program t b r) refl e (λ f. once program t rs (booked b r) g c n x y f)
  where
    none : {B : Type 0} → book program t None rs ≡ Some g → B
    none f = none-some g (sym (book-none program t rs) ∙ f)

    at : (v : Bool) → book_fits program t b r ≡ v → book program t (cond v (Some (booked b r)) None) rs ≡ Some g → (book program t (Some (booked b r)) rs ≡ Some g → Contains (decisions_on rs c n) x → Contains (decisions_on rs c n) y → x ≡ y) → x ≡ y
    at false is f more = none f
    at true is f more = by (decides_txn c n r) refl h k
      where
        by : (o : Option ℕ) → decides_txn c n r ≡ o → Contains (cons_option o (decisions_on rs c n)) x → Contains (cons_option o (decisions_on rs c n)) y → x ≡ y
        by None was p q = more f p q
        by (Some s) was p q = same (head-or-tail s x (decisions_on rs c n) p) (head-or-tail s y (decisions_on rs c n) q)
          where
            now : IsDecided (booked b r) c n
            now = let d = decides-is c n r s was in subst (λ z. IsDecided (booked b z) c n) (sym d.1) (decides-now b c n s d.0)

            same : (s ≡ x) ⊎ Contains (decisions_on rs c n) x → (s ≡ y) ⊎ Contains (decisions_on rs c n) y → x ≡ y
            same (inl u) (inl w) = sym u ∙ w
            same (inr u) w = absurd (stays-decided program t rs (booked b r) g c n x now f u)
            same (inl u) (inr w) = absurd (stays-decided program t rs (booked b r) g c n y now f w)

pub decision-record : (log : List Record) (c : ComId) (n a : ℕ) → Contains (decisions_on log c n) a → (writes : _) × Contains log (Decided a c n writes)
decision-record log c n a h =
    let z = mapped-has (decides_txn c n) log a h in let d = decides-is c n z.0 a z.2 in (d.0, subst (Contains log) d.1 z.1)

-- the Tcom of a decision is the one with which the transaction was begun
pub its-tcom : (program : Program) (found logs : Logs) (past : Past) → Explains program found logs past → (t c : ComId) (n a : ℕ) → IsTrue (is_a_tcom program t) → Contains (decisions_on (log_at logs t) c n) a → (b : Begun) × (begun_in program c (past.received c) (log_at logs c) n ≡ Some b) × (b.tcom ≡ t)
its-tcom program found logs past f t c n a is h =
    let r = decision-record (log_at logs t) c n a h in
    let s = contains-split (log_at logs t) (Decided a c n r.0) r.1 in
    let y = open-content (λ (b : Book). DecisionAgrees program logs past t c n r.0 b.ledger) (book_of program t s.0) (answers_agree program found logs past f t c s.0 s.1 a n r.0 is s.2) in
    let z = open-content _ (begun_in program c (past.received c) (log_at logs c) n) y.2.1 in
    (z.0, z.1, z.2.1)

pub decided_once : DecidedOnce
decided_once program found logs past f t u c n x y is_t is_u h k =
    let p = its-tcom program found logs past f t c n x is_t h in
    let q = its-tcom program found logs past f u c n y is_u k in
    let same : t ≡ u = sym p.2 ∙ ap (λ (b : Begun). b.tcom) (same_Some p.0 q.0 (sym p.1 ∙ q.1)) ∙ q.2 in
    let g = some-of (book_of program t (log_at logs t)) (f.tcoms t is_t).1.reads in
    (same, once program t (log_at logs t) (first_book program t) g.0 c n x y g.1 h (subst (λ z. Contains (decisions_on (log_at logs z) c n) y) (sym same) k))

-- the commit in the history -----------------------------------------------------------------------

pub found-in : {A : Type 0} (test : A → Bool) (xs : List A) (x : A) → Contains xs x → test x ≡ true → (y : A) × (find test xs ≡ Some y) × Contains xs y × (test y ≡ true)
found-in test [] x h e = empty x h
found-in test (y ∷ ys) x h e = at (test y) refl (head-or-tail y x ys h) (λ t. found-in test ys x t e)
  where
    at :
        (b : Bool) → test y ≡ b → (y ≡ x) ⊎ Contains ys x → (Contains ys x → (z : _) × (find test ys ≡ Some z) × Contains ys z × (test z ≡ true)) →
        (z : _) × (find test (y ∷ ys) ≡ Some z) × Contains (y ∷ ys) z × (test z ≡ true)
    at true is k more = (y, ap (λ v. cond v (Some y) (find test ys)) is, in-head y ys, is)
    at false is (inl same) more = true-false (sym is ∙ ap test same ∙ e)
    at false is (inr t) more = let z = more t in (z.0, ap (λ v. cond v (Some y) (find test ys)) is ∙ z.1, in-tail y z.0 ys z.2, z.3)

-- an entry that commits (c, n) is that of a decision
pub commits-is : (x : Component) (u c : ComId) (n : ℕ) (r : Record) (e : Entry) → entry_of x.kind u r ≡ Some e → is_commit_of c n e.act ≡ true → (is_tcom x.kind ≡ true) × (a : ℕ) × (decides_txn c n r ≡ Some a) × (e ≡ entry u a (acts.Commit c n))
commits-is x u c n r e is told = at x.kind is
  where
    other : {B : Type 0} (y : Entry) → Some y ≡ Some e → is_commit_of c n y.act ≡ false → B
    other y f never = true-false (sym never ∙ ap (λ (z : Entry). is_commit_of c n z.act) (same_Some y e f) ∙ told)

    commit : (stamp : ℕ) (d : ComId) (m : ℕ) (writes : _) → Some (entry u stamp (acts.Commit d m)) ≡ Some e → (true ≡ true) × (a : ℕ) × (decides_txn c n (Decided stamp d m writes) ≡ Some a) × (e ≡ entry u a (acts.Commit c n))
    commit stamp d m writes f =
        let same : entry u stamp (acts.Commit d m) ≡ e = same_Some (entry u stamp (acts.Commit d m)) e f in
        let it : same_com c d && (n == m) ≡ true = ap (λ (z : Entry). is_commit_of c n z.act) same ∙ told in (
          refl,
          stamp,
          ap (λ b. cond b (Some stamp) None) it,
          sym same ∙ ap (λ z. entry u stamp (acts.Commit z m)) (sym (same-com c d (front (same_com c d) (n == m) it))) ∙ ap (λ z. entry u stamp (acts.Commit c z)) (sym (equal-numbers n m (back (same_com c d) (n == m) it))),
        )

    tcom : (q : Record) → entry_of kinds.Tcom u q ≡ Some e → (true ≡ true) × (a : ℕ) × (decides_txn c n q ≡ Some a) × (e ≡ entry u a (acts.Commit c n))
    tcom (Decided stamp d m writes) f = commit stamp d m writes f
    tcom (Epoch epoch) f = none-some e f
    tcom (Take from k stamp) f = none-some e f
    tcom (TakeWhole from k stamp handler args) f = none-some e f
    tcom (Input stamp handler args) f = none-some e f
    tcom (Value m place session value) f = none-some e f
    tcom (Outcome stamp m abort) f = none-some e f
    tcom (Released to k) f = none-some e f
    tcom (Shown m) f = none-some e f
    tcom (Checkpoint image) f = none-some e f

    pcom : {B : Type 0} (q : Record) → entry_of kinds.Pcom u q ≡ Some e → B
    pcom (Take from k stamp) f = other (entry u stamp (acts.Take from k)) f refl
    pcom (TakeWhole from k stamp handler args) f = other (entry u stamp (acts.Take from k)) f refl
    pcom (Input stamp handler args) f = other (entry u stamp (acts.Input handler args)) f refl
    pcom (Outcome stamp m None) f = none-some e f
    pcom (Outcome stamp m (Some cause)) f = other (entry u stamp (acts.Abort m)) f refl
    pcom (Decided stamp d m writes) f = none-some e f
    pcom (Epoch epoch) f = none-some e f
    pcom (Value m place session value) f = none-some e f
    pcom (Released to k) f = none-some e f
    pcom (Shown m) f = none-some e f
    pcom (Checkpoint image) f = none-some e f

    at : (k : Kind) → entry_of k u r ≡ Some e → (is_tcom k ≡ true) × (a : ℕ) × (decides_txn c n r ≡ Some a) × (e ≡ entry u a (acts.Commit c n))
    at kinds.Pcom f = pcom r f
    at kinds.Tcom f = tcom r f
    at kinds.Xcom f = none-some e f

pub declared-tcom : (program : Program) (u : ComId) (x : Component) → slice_get program.components u.0 ≡ Some x → is_tcom x.kind ≡ true → IsTrue (is_a_tcom program u)
declared-tcom program u x e k = ap (declares (λ d. is_tcom d.kind)) e ∙ k

pub the-component : (program : Program) (u : ComId) → IsTrue (is_a_tcom program u) → (x : Component) × (slice_get program.components u.0 ≡ Some x) × (x.kind ≡ kinds.Tcom)
the-component program u is = at (slice_get program.components u.0) is
  where
    kind : (k : Kind) → is_tcom k ≡ true → k ≡ kinds.Tcom
    kind kinds.Pcom e = true-false e
    kind kinds.Tcom e = refl
    kind kinds.Xcom e = true-false e

    at : (o : Option Component) → declares (λ d. is_tcom d.kind) o ≡ true → (x : Component) × (o ≡ Some x) × (x.kind ≡ kinds.Tcom)
    at None e = true-false e
    at (Some x) e = (x, refl, kind x.kind e)

pub commits_are_decisions : CommitsAreDecisions
commits_are_decisions program found logs past f t c n a is h =
    let r = decision-record (log_at logs t) c n a h in
    let d = the-component program t is in
    let there : Contains (history_of program logs) (entry t a (acts.Commit c n)) = entries_are_in_history program logs (entry t a (acts.Commit c n)) t d.0 (Decided a c n r.0) d.1 r.1 (ap (λ k. entry_of k t (Decided a c n r.0)) d.2) in
    let y = found-in (λ (e : Entry). is_commit_of c n e.act) (history_of program logs) (entry t a (acts.Commit c n)) there (both-true (same_com c c) (n == n) (self-com c) (self-number n)) in
    let z = history_has_entries program logs y.0 y.2 in
    let w = commits-is z.1 z.0 c n z.2 y.0 z.5 y.3 in
    let one = decided_once program found logs past f z.0 t c n w.1 a (declared-tcom program z.0 z.1 z.3 w.0) is (mapped-keeps (decides_txn c n) (log_at logs z.0) z.2 w.1 z.4 w.2) h in
    y.1 ∙ ap Some (w.3 ∙ ap (λ u. entry u w.1 (acts.Commit c n)) one.0 ∙ ap (λ s. entry t s (acts.Commit c n)) one.1)
