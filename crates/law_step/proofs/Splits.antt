-- Where the first outcome of a transaction stands in a log.
use Rattle.std.proofs.Common.{◌≡◌, refl, ◌∙◌, ap, sym, subst, ℕ, ◌<◌, ◌≤◌, Bool, true, false, cond, ◌||◌, ◌==◌, List, [], ◌∷◌, ◌++◌, length, Option, Some, None, ◌⊎◌, inl, inr, arith}
use Rattle.std.specs.Prelude.{Contains}
use Rattle.std.specs.List.{list_any}
use Rattle.std.proofs.lemmas.Option.{same_Some}
use Rattle.std.proofs.lemmas.List.{length-append}
use Rattle.ic_base.specs.declared.messages.AbortCause.{AbortCause}
use Rattle.ic_base.specs.declared.messages.ComId.{ComId}
use Rattle.ic_base.specs.declared.scenario.Program.{Program}
use Rattle.ic_base.specs.declared.record.Record.{Record}
use Rattle.ic_base.specs.declared.record.Record.TheVariants.{Take, TakeWhole, Input, Value, Outcome, Released, Shown, Checkpoint, Epoch, Decided}
use Rattle.def_plain.specs.History.{pcom_entry}
use Rattle.ic_base.specs.declared.messages.Entry.{Entry}
use Rattle.def_state.specs.Hist.{Hist, Contents, after, apply_all, first_hist}
use Rattle.def_facts.specs.Logs.{IsPrefixOf, Stands, before, before_outcome, has_outcome, ends_txn, decisions_on}
use Rattle.law_replay.specs.Growing.{record_stamp}
use Rattle.law_replay.proofs.Growing.{prefixes_replay, states_grow, apply_none}
use Rattle.law_replay.proofs.Ending.{before-ending}
use Rattle.law_replay.proofs.Hands.{begun_are_counted}
use Rattle.law_replay.proofs.Lists.{none-some, true-false, in-head, in-tail, contains-split, before-all}
use Rattle.law_replay.proofs.Records.{ends-is}
use Rattle.law_replay.proofs.Sends.{stamps_are_below}
use Rattle.law_sound.proofs.Deciding.{decision-record}

-- the first item that passes a test
pub first-of : {A : Type 0} (test : A → Bool) (xs : List A) → list_any test xs ≡ true → (front : List A) × (x : A) × (behind : List A) × (xs ≡ front ++ x ∷ behind) × (test x ≡ true) × (list_any test front ≡ false)
first-of test [] e = true-false e
first-of test (x ∷ xs) e = at (test x) refl e (first-of test xs)
  where
    at : (b : Bool) → test x ≡ b → b || list_any test xs ≡ true → (list_any test xs ≡ true → (front : List _) × (y : _) × (behind : List _) × (xs ≡ front ++ y ∷ behind) × (test y ≡ true) × (list_any test front ≡ false)) →
        (front : List _) × (y : _) × (behind : List _) × (x ∷ xs ≡ front ++ y ∷ behind) × (test y ≡ true) × (list_any test front ≡ false)
    at true is f more = ([], x, xs, refl, is, refl)
    at false is f more = let y = more f in (x ∷ y.0, y.1, y.2, ap (λ l. x ∷ l) y.3, y.4, ap (λ b. b || list_any test y.0) is ∙ y.5)

-- of two fronts of a list, one that ends before an item is within what stands before it, or has the item
pub front-or-has : {A : Type 0} (xs ys front behind : List A) (x : A) → xs ++ ys ≡ front ++ x ∷ behind → IsPrefixOf xs front ⊎ Contains xs x
front-or-has [] ys front behind x e = inl (front, refl)
front-or-has {A} (z ∷ zs) ys [] behind x e = inr (subst (Contains (z ∷ zs)) (ap head e) (in-head z zs))
  where
    head : List A → A
    head [] = z
    head (a ∷ l) = a
front-or-has {A} (z ∷ zs) ys (w ∷ ws) behind x e = by (front-or-has zs ys ws behind x (ap tail e))
  where
    head : List A → A
    head [] = z
    head (a ∷ l) = a

    tail : List A → List A
    tail [] = []
    tail (a ∷ l) = l

    by : IsPrefixOf zs ws ⊎ Contains zs x → IsPrefixOf (z ∷ zs) (w ∷ ws) ⊎ Contains (z ∷ zs) x
    by (inl p) = inl (p.0, ap (λ a. a ∷ ws) (sym (ap head e)) ∙ ap (λ l. z ∷ l) p.1)
    by (inr h) = inr (in-tail z x zs h)

pub before-front : {A : Type 0} (test : A → Bool) (xs : List A) → IsPrefixOf (before test xs) xs
before-front test [] = ([], refl)
before-front test (x ∷ xs) = at (test x) (before-front test xs)
  where
    at : (b : Bool) → IsPrefixOf (before test xs) xs → IsPrefixOf (cond b [] (x ∷ before test xs)) (x ∷ xs)
    at true p = (x ∷ xs, refl)
    at false p = (p.0, ap (λ l. x ∷ l) p.1)

-- transactions are begun along a log
pub begun-grows : (program : Program) (c : ComId) (k : Contents) (xs ys : List Record) (h g : Hist) → after program c k xs ≡ Some h → after program c k ys ≡ Some g → IsPrefixOf xs ys → h.plain.begun ≤ g.plain.begun
begun-grows program c k xs ys h g e f p =
    let y = prefixes_replay program c k xs p.0 g (ap (after program c k) (sym p.1) ∙ f) in
    let same : y.0 ≡ h = same_Some y.0 h (sym y.1 ∙ e) in
    subst (λ (z : Hist). z.plain.begun ≤ g.plain.begun) same (counts program c k p.0 y.0 g (begun-is program c k xs y.0 y.1) (begun-is program c k ys g f) y.2)
  where
    counts : (program : Program) (c : ComId) (k : Contents) (rs : List Record) (a b : Hist) → length a.begun ≡ a.plain.begun → length b.begun ≡ b.plain.begun → apply_all program c k (Some a) rs ≡ Some b → a.plain.begun ≤ b.plain.begun
    counts program c k rs a b la lb z = let q = (states_grow program c k rs a b z).begun in omega (arith, la, lb, ap length q.1, length-append a.begun q.0)

    begun-is : (program : Program) (c : ComId) (k : Contents) (rs : List Record) (a : Hist) → after program c k rs ≡ Some a → length a.begun ≡ a.plain.begun
    begun-is program c k rs a z = begun_are_counted program c k rs a z

-- a transaction begun before another has its outcome before that other one's, and no later than its clock
pub record EndsBefore (log : List Record) (m clock : ℕ) : Type 0 where
  pub front : List Record
  pub at : ℕ
  pub abort : Option AbortCause
  pub behind : List Record
  pub stands : Stands log front (Outcome at m abort) behind
  pub early : at ≤ clock

pub ends-before : (program : Program) (c : ComId) (k : Contents) (log : List Record) (m n : ℕ) (x y g : Hist) → after program c k log ≡ Some g → after program c k (before_outcome log m) ≡ Some x → x.plain.begun ≡ m → after program c k (before_outcome log n) ≡ Some y → y.plain.begun ≡ n → m < n → EndsBefore log m y.clock
ends-before program c k log m n x y g e ex bx ey by lt = at (has_outcome log m) refl
  where
    at : (b : Bool) → has_outcome log m ≡ b → EndsBefore log m y.clock
    at false none =
        let same : x ≡ g = same_Some x g (sym ex ∙ ap (after program c k) (before-all (ends_txn m) log none) ∙ e) in
        let le = begun-grows program c k (before_outcome log n) log y g ey e (before-front (ends_txn n) log) in
        absurd (omega (arith, le, ap (λ (z : Hist). z.plain.begun) same, bx, by, lt))
    at true has =
        let s = first-of (ends_txn m) log has in
        let r = ends-is m s.1 s.4 in
        let stands : log ≡ s.0 ++ Outcome r.0 m r.1 ∷ s.2 = s.3 ∙ ap (λ z. s.0 ++ z ∷ s.2) r.2 in
        let p = before-front (ends_txn n) log in
        record { front = s.0; at = r.0; abort = r.1; behind = s.2; stands = stands; early = how s.0 r.0 r.1 s.2 stands s.5 (front-or-has (before_outcome log n) p.0 s.0 s.2 (Outcome r.0 m r.1) (sym p.1 ∙ stands)) }
      where
        self : (i : ℕ) → (i == i) ≡ true
        self i = grind arith

        how : (front : List Record) (at : ℕ) (abort : Option AbortCause) (behind : List Record) → log ≡ front ++ Outcome at m abort ∷ behind → has_outcome front m ≡ false → IsPrefixOf (before_outcome log n) front ⊎ Contains (before_outcome log n) (Outcome at m abort) → at ≤ y.clock
        how front at abort behind st first (inr h) = (stamps_are_below program c k (before_outcome log n) (first_hist program c) y (Outcome at m abort) at ey h refl).1
        how front at abort behind st first (inl p) =
            let whole : before_outcome log m ≡ front = ap (λ l. before_outcome l m) st ∙ before-ending front behind at m abort first in
            let le = begun-grows program c k (before_outcome log n) front y x ey (ap (after program c k) (sym whole) ∙ ex) p in
            absurd (omega (arith, le, bx, by, lt))

-- records with entries have stamps
pub entry-stamp : (c : ComId) (r : Record) (e : Entry) → pcom_entry c r ≡ Some e → record_stamp r ≡ Some e.stamp
entry-stamp c (Take s k stamp) e is = ap (λ (z : Entry). Some z.stamp) (same_Some _ e is)
entry-stamp c (TakeWhole s k stamp handler args) e is = ap (λ (z : Entry). Some z.stamp) (same_Some _ e is)
entry-stamp c (Input stamp handler args) e is = ap (λ (z : Entry). Some z.stamp) (same_Some _ e is)
entry-stamp c (Outcome stamp n (Some cause)) e is = ap (λ (z : Entry). Some z.stamp) (same_Some _ e is)
entry-stamp c (Outcome stamp n None) e is = none-some e is
entry-stamp c (Value n place session value) e is = none-some e is
entry-stamp c (Released to k) e is = none-some e is
entry-stamp c (Shown m) e is = none-some e is
entry-stamp c (Checkpoint image) e is = none-some e is
entry-stamp c (Epoch epoch) e is = none-some e is
entry-stamp c (Decided stamp d n writes) e is = none-some e is

-- a Pcom's log has no decision
pub no-decision : {B : Type 0} (program : Program) (c : ComId) (k : Contents) (log : List Record) (g : Hist) (d : ComId) (n at : ℕ) → after program c k log ≡ Some g → Contains (decisions_on log d n) at → B
no-decision program c k log g d n at e h =
    let r = decision-record log d n at h in
    let s = contains-split log (Decided at d n r.0) r.1 in
    let y = prefixes_replay program c k s.0 (Decided at d n r.0 ∷ s.1) g (ap (after program c k) (sym s.2) ∙ e) in
    none-some g (sym (apply_none program c k s.1) ∙ y.2)
