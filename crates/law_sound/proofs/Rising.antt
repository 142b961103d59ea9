-- The merged history rises: no two of its entries share a position.
use Rattle.std.proofs.Common.{◌≡◌, refl, ◌∙◌, ap, sym, subst, ℕ, suc, ◌+◌, ◌≤◌, ◌<◌, nat_lt, Bool, true, false, cond, ◌&&◌, ◌||◌, ◌==◌, List, [], ◌∷◌, ◌++◌, filter_map, slice_get, unwrap_or, Option, Some, None, arith, ◌⊎◌, inl, inr}
use Rattle.std.specs.Prelude.{Contains, ⊤}
use Rattle.std.specs.List.{cons_option}
use Rattle.std.proofs.lemmas.List.Elements.{Contains-append_cases}
use Rattle.std.proofs.lemmas.Option.{same_Some}
use Rattle.ic_base.specs.declared.messages.ComId.{ComId}
use Rattle.ic_base.specs.declared.messages.Entry.{Entry}
use Rattle.ic_base.specs.declared.messages.Act.TheVariants as acts
use Rattle.ic_base.specs.declared.messages.Kind.{Kind}
use Rattle.ic_base.specs.declared.messages.Kind.TheVariants as kinds
use Rattle.ic_base.specs.declared.scenario.Component.{Component}
use Rattle.ic_base.specs.declared.scenario.Program.{Program}
use Rattle.ic_base.specs.declared.record.Record.{Record}
use Rattle.ic_base.specs.declared.record.Record.TheVariants.{Take, TakeWhole, Input, Value, Outcome, Released, Shown, Checkpoint, Epoch, Decided}
use Rattle.ic_base.specs.Programs.{is_pcom, is_tcom, declares}
use Rattle.def_plain.specs.History.{entry, entry_of, pcom_entry, tcom_entry, log_entries, entries_from, placed, in_order, is_before}
use Rattle.def_state.specs.Hist.{Hist, Contents, apply, apply_all, after, first_hist}
use Rattle.def_step.specs.Tcom.{Book, book, booked, book_fits, first_book}
use Rattle.def_facts.specs.Logs.{Logs, log_at, contents_in}
use Rattle.law_replay.specs.Growing.{record_stamp}
use Rattle.law_replay.proofs.Growing.{apply_none}
use Rattle.law_replay.proofs.Lists.{none-some, front, some-of, in-head, in-tail, head-or-tail, empty}
use Rattle.law_replay.proofs.Sends.{stamp-moves, stamps_are_below}
use Rattle.law_sound.specs.Order.{Rises, HistoryRises}
use Rattle.law_sound.proofs.Histories.{placed-has, in-order-has, from-has, plus-zero, plus-suc}
use Rattle.law_replay.proofs.Members.{mapped-has}
use Rattle.law_replay.proofs.Records.{book-none}

-- positions ---------------------------------------------------------------------------------------

abbrev pub Below : Entry → Entry → Type 0
Below e x = (e.stamp < x.stamp) ⊎ ((e.stamp ≡ x.stamp) × (e.com.0 < x.com.0))

less : (m n : ℕ) → m < n → nat_lt m n ≡ true
less m n l = grind arith

equal : (m n : ℕ) → m ≡ n → (m == n) ≡ true
equal m n l = grind arith

pub to-before : (e x : Entry) → Below e x → is_before e x ≡ true
to-before e x (inl lt) = ap (λ v. v || ((e.stamp == x.stamp) && nat_lt e.com.0 x.com.0)) (less e.stamp x.stamp lt)
to-before e x (inr y) = last (nat_lt e.stamp x.stamp) (e.stamp == x.stamp) (nat_lt e.com.0 x.com.0) (equal e.stamp x.stamp y.0) (less e.com.0 x.com.0 y.1)
  where
    last : (u v w : Bool) → v ≡ true → w ≡ true → u || (v && w) ≡ true
    last true v w g h = refl
    last false true w g h = h
    last false false w g h = absurd (cc)

pub to-below : (e x : Entry) → is_before e x ≡ true → Below e x
to-below e x is = at (nat_lt e.stamp x.stamp) refl (e.stamp == x.stamp) refl (nat_lt e.com.0 x.com.0) refl is
  where
    lt : (m n : ℕ) → nat_lt m n ≡ true → m < n
    lt m n l = grind arith

    eq : (m n : ℕ) → (m == n) ≡ true → m ≡ n
    eq m n l = grind arith

    at : (u : Bool) → nat_lt e.stamp x.stamp ≡ u → (v : Bool) → (e.stamp == x.stamp) ≡ v → (w : Bool) → nat_lt e.com.0 x.com.0 ≡ w → u || (v && w) ≡ true → Below e x
    at true p v q w r s = inl (lt e.stamp x.stamp p)
    at false p true q true r s = inr (eq e.stamp x.stamp q, lt e.com.0 x.com.0 r)
    at false p true q false r s = absurd (cc)
    at false p false q w r s = absurd (cc)

pub below-trans : (e x y : Entry) → Below e x → Below x y → Below e y
below-trans e x y (inl a) (inl b) = inl (omega (arith, a, b))
below-trans e x y (inl a) (inr b) = inl (omega (arith, a, b.0))
below-trans e x y (inr a) (inl b) = inl (omega (arith, a.0, b))
below-trans e x y (inr a) (inr b) = inr (a.0 ∙ b.0, omega (arith, a.1, b.1))

pub below-never : {B : Type 0} (e x : Entry) → Below e x → Below x e → B
below-never e x (inl a) (inl b) = absurd (omega (arith, a, b))
below-never e x (inl a) (inr b) = absurd (omega (arith, a, b.0))
below-never e x (inr a) (inl b) = absurd (omega (arith, a.0, b))
below-never e x (inr a) (inr b) = absurd (omega (arith, a.1, b.1))

-- lists whose entries have different positions ------------------------------------------------------

pub Differ : Entry → Entry → Type 0
Differ e x = Below e x ⊎ Below x e

pub Apart : List Entry → Type 0
Apart [] = ⊤
Apart (e ∷ es) = ((x : Entry) → Contains es x → Differ e x) × Apart es

placed-rises : (e : Entry) (xs : List Entry) → ((x : Entry) → Contains xs x → Differ e x) → Rises xs → Rises (placed is_before e xs)
unfolding Differ
placed-rises e [] differ r = ((λ x h. empty x h), tt)
placed-rises e (y ∷ ys) differ r = at (is_before y e) refl (placed-rises e ys (λ x h. differ x (in-tail y x ys h)) r.1)
  where
    first : is_before y e ≡ false → Below e y
    first never = by (differ y (in-head y ys))
      where
        by : Below e y ⊎ Below y e → Below e y
        by (inl a) = a
        by (inr b) = absurd (clash (is_before y e) (to-before y e b) never)
          where
            clash : (v : Bool) → v ≡ true → v ≡ false → ⊥
            clash true p q = cc
            clash false p q = cc

    behind-y : is_before y e ≡ true → (x : Entry) → Contains (placed is_before e ys) x → is_before y x ≡ true
    behind-y is x h = by (placed-has is_before e x ys h)
      where
        by : (e ≡ x) ⊎ Contains ys x → is_before y x ≡ true
        by (inl a) = subst (λ z. is_before y z ≡ true) a is
        by (inr b) = r.0 x b

    behind-e : is_before y e ≡ false → (x : Entry) → Contains (y ∷ ys) x → is_before e x ≡ true
    behind-e never x h = by (head-or-tail y x ys h)
      where
        by : (y ≡ x) ⊎ Contains ys x → is_before e x ≡ true
        by (inl a) = subst (λ z. is_before e z ≡ true) a (to-before e y (first never))
        by (inr b) = to-before e x (below-trans e y x (first never) (to-below y x (r.0 x b)))

    at : (v : Bool) → is_before y e ≡ v → Rises (placed is_before e ys) → Rises (cond v (y ∷ placed is_before e ys) (e ∷ y ∷ ys))
    at true is more = (behind-y is, more)
    at false never more = (behind-e never, r)

pub in-order-rises : (es : List Entry) → Apart es → Rises (in_order is_before es)
unfolding Apart
in-order-rises [] a = tt
in-order-rises (e ∷ es) a = placed-rises e (in_order is_before es) (λ x h. a.0 x (in-order-has is_before x es h)) (in-order-rises es a.1)

rises-apart : (es : List Entry) → Rises es → Apart es
unfolding Apart Differ
rises-apart [] r = tt
rises-apart (e ∷ es) r = ((λ x h. inl (to-below e x (r.0 x h))), rises-apart es r.1)

apart-append : (xs ys : List Entry) → Apart xs → Apart ys → ((x y : Entry) → Contains xs x → Contains ys y → Differ x y) → Apart (xs ++ ys)
unfolding Apart
apart-append [] ys a b cross = b
apart-append (x ∷ xs) ys a b cross = ((λ z h. at z (Contains-append_cases xs ys z h)), apart-append xs ys a.1 b (λ z y h k. cross z y (in-tail x z xs h) k))
  where
    at : (z : Entry) → Contains xs z ⊎ Contains ys z → Differ x z
    at z (inl h) = a.0 z h
    at z (inr k) = cross x z (in-head x xs) k

-- one log -----------------------------------------------------------------------------------------

pub own-entry : (c : ComId) (r : Record) (e : Entry) → pcom_entry c r ≡ Some e → (record_stamp r ≡ Some e.stamp) × (e.com ≡ c)
own-entry c (Take from k stamp) e is = (ap (λ (x : Entry). Some x.stamp) (same_Some (entry c stamp (acts.Take from k)) e is), ap (λ (x : Entry). x.com) (sym (same_Some (entry c stamp (acts.Take from k)) e is)))
own-entry c (TakeWhole from k stamp handler args) e is = (ap (λ (x : Entry). Some x.stamp) (same_Some (entry c stamp (acts.Take from k)) e is), ap (λ (x : Entry). x.com) (sym (same_Some (entry c stamp (acts.Take from k)) e is)))
own-entry c (Input stamp handler args) e is = (ap (λ (x : Entry). Some x.stamp) (same_Some (entry c stamp (acts.Input handler args)) e is), ap (λ (x : Entry). x.com) (sym (same_Some (entry c stamp (acts.Input handler args)) e is)))
own-entry c (Outcome stamp n None) e is = none-some e is
own-entry c (Outcome stamp n (Some cause)) e is = (ap (λ (x : Entry). Some x.stamp) (same_Some (entry c stamp (acts.Abort n)) e is), ap (λ (x : Entry). x.com) (sym (same_Some (entry c stamp (acts.Abort n)) e is)))
own-entry c (Value n place session value) e is = none-some e is
own-entry c (Released to k) e is = none-some e is
own-entry c (Shown m) e is = none-some e is
own-entry c (Checkpoint image) e is = none-some e is
own-entry c (Epoch epoch) e is = none-some e is
own-entry c (Decided stamp d n writes) e is = none-some e is

pub pcom-rises : (program : Program) (c : ComId) (k : Contents) (rs : List Record) (h g : Hist) → apply_all program c k (Some h) rs ≡ Some g → Rises (filter_map (pcom_entry c) rs)
pcom-rises program c k [] h g e = tt
pcom-rises program c k (r ∷ rs) h g e = at (apply program c k h r) refl e (λ y. pcom-rises program c k rs y g)
  where
    at : (o : Option Hist) → apply program c k h r ≡ o → apply_all program c k o rs ≡ Some g → ((y : Hist) → apply_all program c k (Some y) rs ≡ Some g → Rises (filter_map (pcom_entry c) rs)) → Rises (filter_map (pcom_entry c) (r ∷ rs))
    at None is f more = none-some g (sym (apply_none program c k rs) ∙ f)
    at (Some y) is f more = by (pcom_entry c r) refl
      where
        by : (o : Option Entry) → pcom_entry c r ≡ o → Rises (cons_option o (filter_map (pcom_entry c) rs))
        by None was = more y f
        by (Some e1) was = (behind, more y f)
          where
            behind : (x : Entry) → Contains (filter_map (pcom_entry c) rs) x → is_before e1 x ≡ true
            behind x h1 =
                let z = mapped-has (pcom_entry c) rs x h1 in
                let m = stamp-moves program c k h y r e1.stamp is (own-entry c r e1 was).0 in
                let b = stamps_are_below program c k rs y g z.0 x.stamp f z.1 (own-entry c z.0 x z.2).0 in
                to-before e1 x (inl (omega (arith, m.1, b.0)))

pub tcom-stamp : (t : ComId) (r : Record) (e : Entry) → tcom_entry t r ≡ Some e → (stamp : ℕ) × (c : ComId) × (n : ℕ) × (writes : _) × (r ≡ Decided stamp c n writes) × (e.stamp ≡ stamp) × (e.com ≡ t)
tcom-stamp t (Decided stamp c n writes) e is = (stamp, c, n, writes, refl, ap (λ (x : Entry). x.stamp) (sym (same_Some (entry t stamp (acts.Commit c n)) e is)), ap (λ (x : Entry). x.com) (sym (same_Some (entry t stamp (acts.Commit c n)) e is)))
tcom-stamp t (Take from k stamp) e is = none-some e is
tcom-stamp t (TakeWhole from k stamp handler args) e is = none-some e is
tcom-stamp t (Input stamp handler args) e is = none-some e is
tcom-stamp t (Outcome stamp n abort) e is = none-some e is
tcom-stamp t (Value n place session value) e is = none-some e is
tcom-stamp t (Released to k) e is = none-some e is
tcom-stamp t (Shown m) e is = none-some e is
tcom-stamp t (Checkpoint image) e is = none-some e is
tcom-stamp t (Epoch epoch) e is = none-some e is

clock-grows : (program : Program) (t : ComId) (b : Book) (r : Record) → book_fits program t b r ≡ true → b.clock ≤ (booked b r).clock
clock-grows program t b (Decided stamp c n writes) ok = less-or b.clock stamp (front (nat_lt b.clock stamp) _ ok)
  where
    less-or : (m n2 : ℕ) → nat_lt m n2 ≡ true → m ≤ n2
    less-or m n2 l = grind arith
clock-grows program t b (Epoch epoch) ok = self b.clock
  where
    self : (m : ℕ) → m ≤ m
    self m = omega arith
clock-grows program t b (Take from k stamp) ok = absurd (cc)
clock-grows program t b (TakeWhole from k stamp handler args) ok = absurd (cc)
clock-grows program t b (Input stamp handler args) ok = absurd (cc)
clock-grows program t b (Outcome stamp n abort) ok = absurd (cc)
clock-grows program t b (Value n place session value) ok = absurd (cc)
clock-grows program t b (Released to k) ok = absurd (cc)
clock-grows program t b (Shown m) ok = absurd (cc)
clock-grows program t b (Checkpoint image) ok = absurd (cc)

decided-above : (program : Program) (t : ComId) (rs : List Record) (b g : Book) (x : Entry) → book program t (Some b) rs ≡ Some g → Contains (filter_map (tcom_entry t) rs) x → b.clock < x.stamp
decided-above program t [] b g x e h = empty x h
decided-above program t (r ∷ rs) b g x e h = at (book_fits program t b r) refl e (decided-above program t rs (booked b r) g x)
  where
    at : (v : Bool) → book_fits program t b r ≡ v → book program t (cond v (Some (booked b r)) None) rs ≡ Some g → (book program t (Some (booked b r)) rs ≡ Some g → Contains (filter_map (tcom_entry t) rs) x → (booked b r).clock < x.stamp) → b.clock < x.stamp
    at false is f more = none-some g (sym (book-none program t rs) ∙ f)
    at true is f more = by (tcom_entry t r) refl h
      where
        tail : Contains (filter_map (tcom_entry t) rs) x → b.clock < x.stamp
        tail k = let a = more f k in let l = clock-grows program t b r is in omega (arith, a, l)

        lt : (m n : ℕ) → nat_lt m n ≡ true → m < n
        lt m n l = grind arith

        by : (o : Option Entry) → tcom_entry t r ≡ o → Contains (cons_option o (filter_map (tcom_entry t) rs)) x → b.clock < x.stamp
        by None was k = tail k
        by (Some e1) was k = one (head-or-tail e1 x (filter_map (tcom_entry t) rs) k)
          where
            one : (e1 ≡ x) ⊎ Contains (filter_map (tcom_entry t) rs) x → b.clock < x.stamp
            one (inl same) =
                let d = tcom-stamp t r e1 was in
                let fits : book_fits program t b (Decided d.0 d.1 d.2 d.3) ≡ true = subst (λ z. book_fits program t b z ≡ true) d.4 is in
                let low = lt b.clock d.0 (front (nat_lt b.clock d.0) _ fits) in
                omega (arith, low, d.5, ap (λ (z : Entry). z.stamp) same)
            one (inr k2) = tail k2

pub tcom-rises : (program : Program) (t : ComId) (rs : List Record) (b g : Book) → book program t (Some b) rs ≡ Some g → Rises (filter_map (tcom_entry t) rs)
tcom-rises program t [] b g e = tt
tcom-rises program t (r ∷ rs) b g e = at (book_fits program t b r) refl e (tcom-rises program t rs (booked b r) g)
  where
    at : (v : Bool) → book_fits program t b r ≡ v → book program t (cond v (Some (booked b r)) None) rs ≡ Some g → (book program t (Some (booked b r)) rs ≡ Some g → Rises (filter_map (tcom_entry t) rs)) → Rises (filter_map (tcom_entry t) (r ∷ rs))
    at false is f more = none-some g (sym (book-none program t rs) ∙ f)
    at true is f more = by (tcom_entry t r) refl
      where
        by : (o : Option Entry) → tcom_entry t r ≡ o → Rises (cons_option o (filter_map (tcom_entry t) rs))
        by None was = more f
        by (Some e1) was = (behind, more f)
          where
            behind : (x : Entry) → Contains (filter_map (tcom_entry t) rs) x → is_before e1 x ≡ true
            behind x k =
                let d = tcom-stamp t r e1 was in
                let a = decided-above program t rs (booked b r) g x f k in
                let clock : (booked b r).clock ≡ d.0 = ap (λ z. (booked b z).clock) d.4 in
                to-before e1 x (inl (omega (arith, a, clock, d.5)))

-- all logs ----------------------------------------------------------------------------------------

place-of : (i : ℕ) (xs : List Component) (logs : Logs) (e : Entry) → Contains (entries_from i xs logs) e → i ≤ e.com.0
place-of i xs logs e h = let z = from-has i xs logs e h in by z.1.kind (i + z.0) z.3 z.7 (more i z.0)
  where
    more : (m n : ℕ) → m ≤ m + n
    more m n = omega arith

    by : (k : Kind) (p : ℕ) (r : Record) → entry_of k (record { 0 = p }) r ≡ Some e → i ≤ p → i ≤ e.com.0
    by kinds.Pcom p r is le = subst (λ (z : ComId). i ≤ z.0) (sym (own-entry (record { 0 = p }) r e is).1) le
    by kinds.Tcom p r is le = subst (λ (z : ComId). i ≤ z.0) (sym (tcom-stamp (record { 0 = p }) r e is).6) le
    by kinds.Xcom p r is le = none-some e is

its-place : (k : Kind) (i : ℕ) (log : List Record) (e : Entry) → Contains (log_entries k (record { 0 = i }) log) e → e.com.0 ≡ i
its-place k i log e h = let z = mapped-has (entry_of k (record { 0 = i })) log e h in by k z.0 z.2
  where
    by : (q : Kind) (r : Record) → entry_of q (record { 0 = i }) r ≡ Some e → e.com.0 ≡ i
    by kinds.Pcom r is = ap (λ (c : ComId). c.0) (own-entry (record { 0 = i }) r e is).1
    by kinds.Tcom r is = ap (λ (c : ComId). c.0) (tcom-stamp (record { 0 = i }) r e is).6
    by kinds.Xcom r is = none-some e is

differ-com : (e x : Entry) → e.com.0 < x.com.0 → Differ e x
unfolding Differ
differ-com e x lt = at (nat_lt e.stamp x.stamp) refl (nat_lt x.stamp e.stamp) refl
  where
    to : (m n : ℕ) → nat_lt m n ≡ true → m < n
    to m n l = grind arith

    same : (m n : ℕ) → nat_lt m n ≡ false → nat_lt n m ≡ false → m ≡ n
    same m n p q = grind arith

    at : (u : Bool) → nat_lt e.stamp x.stamp ≡ u → (v : Bool) → nat_lt x.stamp e.stamp ≡ v → Below e x ⊎ Below x e
    at true p v q = inl (inl (to e.stamp x.stamp p))
    at false p true q = inr (inl (to x.stamp e.stamp q))
    at false p false q = inl (inr (same e.stamp x.stamp p q, lt))

pub entries-apart : (i : ℕ) (xs : List Component) (logs : Logs) → ((j : ℕ) (x : Component) (log : List Record) → slice_get xs j ≡ Some x → slice_get logs j ≡ Some log → Rises (log_entries x.kind (record { 0 = i + j }) log)) → Apart (entries_from i xs logs)
unfolding Apart
entries-apart i [] logs each = tt
entries-apart i (x ∷ xs) [] each = tt
entries-apart i (x ∷ xs) (log ∷ logs) each =
    apart-append (log_entries x.kind (record { 0 = i }) log) (entries_from (i + 1) xs logs)
    (rises-apart (log_entries x.kind (record { 0 = i }) log) (subst (λ k. Rises (log_entries x.kind (record { 0 = k }) log)) (sym (plus-zero i)) (each 0 x log refl refl)))
    (entries-apart (i + 1) xs logs (λ j y l a b. subst (λ k. Rises (log_entries y.kind (record { 0 = k }) l)) (sym (plus-suc i j)) (each (suc j) y l a b)))
    (λ e y h k. differ-com e y (apart-coms e.com.0 y.com.0 (its-place x.kind i log e h) (place-of (i + 1) xs logs y k)))
  where
    apart-coms : (m n : ℕ) → m ≡ i → i + 1 ≤ n → m < n
    apart-coms m n a b = omega (arith, a, b)

pub history_rises : HistoryRises
history_rises program found logs past f = in-order-rises (entries_from 0 program.components logs) (entries-apart 0 program.components logs each)
  where
    zero-plus : (j : ℕ) → 0 + j ≡ j
    zero-plus j = omega arith

    each : (j : ℕ) (x : Component) (log : List Record) → slice_get program.components j ≡ Some x → slice_get logs j ≡ Some log → Rises (log_entries x.kind (record { 0 = 0 + j }) log)
    each j x log is was = subst (λ k. Rises (log_entries x.kind (record { 0 = k }) log)) (sym (zero-plus j)) (by x.kind refl)
      where
        c : ComId
        c = record { 0 = j }

        here : log_at logs c ≡ log
        here = ap (λ o. unwrap_or o []) was

        by : (k : Kind) → x.kind ≡ k → Rises (log_entries k c log)
        by kinds.Pcom same =
            let g = some-of (after program c (contents_in (past.received c)) (log_at logs c)) (f.pcoms c (ap (declares (λ d. is_pcom d.kind)) is ∙ ap is_pcom same)).whole.replays in
            subst (λ l. Rises (filter_map (pcom_entry c) l)) here (pcom-rises program c (contents_in (past.received c)) (log_at logs c) (first_hist program c) g.0 g.1)
        by kinds.Tcom same =
            let g = some-of (book program c (Some (first_book program c)) (log_at logs c)) (f.tcoms c (ap (declares (λ d. is_tcom d.kind)) is ∙ ap is_tcom same)).1.reads in
            subst (λ l. Rises (filter_map (tcom_entry c) l)) here (tcom-rises program c (log_at logs c) (first_book program c) g.0 g.1)
        by kinds.Xcom same = nothing log
          where
            nothing : (l : List Record) → Rises (filter_map (entry_of kinds.Xcom c) l)
            nothing [] = tt
            nothing (r ∷ l) = nothing l
