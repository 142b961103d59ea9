-- Each transaction below the last that was begun has its outcome in the log, and what a book says is decided is so in its log.
use Rattle.std.proofs.Common.{◌≡◌, refl, ◌∙◌, ap, sym, subst, ℕ, ◌+◌, ◌<◌, ◌≤◌, nat_lt, Bool, true, false, cond, ◌&&◌, ◌||◌, ◌==◌, List, [], ◌∷◌, find, slice_get, Option, Some, None, is_none, option_map, option_and_then, arith, ◌⊎◌, inl, inr}
use Rattle.std.specs.Prelude.{Contains}
use Rattle.std.specs.List.{cons_option}
use Rattle.std.specs.Option.{option_or}
use Rattle.std.proofs.lemmas.List.Folds.{find-append}
use Rattle.std.proofs.lemmas.Option.{same_Some}
use Rattle.ic_base.specs.declared.messages.ComId.{ComId}
use Rattle.ic_base.specs.declared.scenario.Component.{Component}
use Rattle.ic_base.specs.declared.scenario.Program.{Program}
use Rattle.ic_base.specs.declared.record.Record.{Record}
use Rattle.ic_base.specs.declared.record.Record.TheVariants.{Take, TakeWhole, Input, Value, Outcome, Released, Shown, Checkpoint, Epoch, Decided}
use Rattle.ic_base.specs.Programs.{same_com}
use Rattle.def_plain.specs.declared.world.PlainPcom.{PlainPcom}
use Rattle.def_plain.specs.Cell.{Touch, cell_step}
use Rattle.def_state.specs.Fits.{fits, may_take}
use Rattle.def_state.specs.Hist.{Hist, Contents, after, apply, apply_all, first_hist, first_cell, recorded, played_on, moved, moved_well, is_at_request, hand_plays, numbers_fit, touch_of, standing_of, last_ended}
use Rattle.def_step.specs.Tcom.{Book, Verdict, book, booked, book_fits, book_of, decided_at, first_book, is_of}
use Rattle.def_facts.specs.Logs.{decides_txn, decisions_on, has_outcome, ends_txn}
use Rattle.law_replay.proofs.Cells.{Holds, cell-holds}
use Rattle.law_replay.proofs.Growing.{apply_none}
use Rattle.law_replay.proofs.Lists.{clash, none-some, front, back, equal-numbers, passed, in-head, in-tail}
use Rattle.law_replay.proofs.Records.{book-none}

-- outcomes ----------------------------------------------------------------------------------------

-- the n-th transaction has no outcome: it wasn't begun, or it is in hand
IsLeft : ℕ → PlainPcom → Type 0
IsLeft n p = (p.begun < n) ⊎ ((p.begun ≡ n) × (is_none p.hand ≡ false))

-- the cell has ended its handling, or has begun one transaction more, which is in hand
played-holds : (program : Program) (c : ComId) (h g : Hist) (stamp : ℕ) (t : Option Touch) → played_on program c h stamp t ≡ Some g → Holds h.plain g.plain
played-holds program c h g stamp None e = none-some g e
played-holds program c h g stamp (Some t) e = at (cell_step program c h.plain t) refl e
  where
    at : (o : Option PlainPcom) → cell_step program c h.plain t ≡ o → option_and_then (moved_well program c h stamp) o ≡ Some g → Holds h.plain g.plain
    at None is f = none-some g f
    at (Some p) is f =
        let x = passed (numbers_fit (moved program c h stamp p) && is_at_request (option_map (hand_plays program c p.vars []) p.hand)) (Some (moved program c h stamp p)) g f in
        subst (λ (y : Hist). Holds h.plain y.plain) (same_Some (moved program c h stamp p) g x.1) (cell-holds program c h.plain p t is)

-- where the n-th wasn't begun, it wasn't or is in hand behind one handling
held-left : (n : ℕ) (p q : PlainPcom) → p.begun < n → Holds p q → IsLeft n q
unfolding IsLeft
held-left n p q lt (inl x) = inl (omega (arith, lt, x.0))
held-left n p q lt (inr x) = at (nat_lt q.begun n) refl
  where
    at : (b : Bool) → nat_lt q.begun n ≡ b → (q.begun < n) ⊎ ((q.begun ≡ n) × (is_none q.hand ≡ false))
    at true is = inl (grind arith)
    at false is = inr (equal q.begun p.begun x.0 lt is, ap is_none x.2)
      where
        equal : (a b : ℕ) → a ≡ b + 1 → b < n → nat_lt a n ≡ false → a ≡ n
        equal a b e low is = let up : n ≤ a = grind arith in omega (arith, e, low, up)

-- nothing is taken while a transaction is in hand
free-left : {B : Type 0} (n : ℕ) (p : PlainPcom) → IsLeft n p → is_none p.hand ≡ true → (p.begun < n → B) → B
unfolding IsLeft
free-left n p (inl lt) free go = go lt
free-left n p (inr x) free go = clash (is_none p.hand) free x.1

left-record : (program : Program) (c : ComId) (k : Contents) (n : ℕ) (h g : Hist) (r : Record) → ends_txn n r ≡ false → IsLeft n h.plain → fits program c (standing_of program c h) r ≡ true → recorded program c k h r ≡ Some g → IsLeft n g.plain
unfolding IsLeft
left-record program c k n h g (Take from m stamp) other x ok e =
    free-left n h.plain x (front (is_none h.plain.hand) _ (back (nat_lt h.clock stamp) _ ok)) (λ lt. held-left n h.plain g.plain lt (played-holds program c h g stamp (touch_of k h.now (Take from m stamp)) e))
left-record program c k n h g (TakeWhole from m stamp handler args) other x ok e =
    free-left n h.plain x (front (is_none h.plain.hand) _ (front (may_take program c (standing_of program c h) true from m) _ (back (nat_lt h.clock stamp) _ ok))) (λ lt. held-left n h.plain g.plain lt (played-holds program c h g stamp (touch_of k h.now (TakeWhole from m stamp handler args)) e))
left-record program c k n h g (Input stamp handler args) other x ok e =
    free-left n h.plain x (front (is_none h.plain.hand) _ (back (nat_lt h.clock stamp) _ ok)) (λ lt. held-left n h.plain g.plain lt (played-holds program c h g stamp (touch_of k h.now (Input stamp handler args)) e))
left-record program c k n h g (Outcome stamp m abort) other x ok e = at x
  where
    begun : m ≡ h.plain.begun
    begun = equal-numbers m h.plain.begun (front (m == h.plain.begun) _ (back (nat_lt h.clock stamp) _ ok))

    same : (a b : ℕ) → a ≡ b → (a == b) ≡ true
    same a b e = grind arith

    at : (h.plain.begun < n) ⊎ ((h.plain.begun ≡ n) × (is_none h.plain.hand ≡ false)) → IsLeft n g.plain
    at (inl lt) = held-left n h.plain g.plain lt (played-holds program c (last_ended h) g stamp (touch_of k h.now (Outcome stamp m abort)) e)
    at (inr y) = clash (n == m) (same n m (sym (begun ∙ y.0))) other
left-record program c k n h g (Value m place session value) other x ok e = subst (λ (y : Hist). IsLeft n y.plain) (same_Some _ g e) x
left-record program c k n h g (Released to m) other x ok e = subst (λ (y : Hist). IsLeft n y.plain) (same_Some _ g e) x
left-record program c k n h g (Shown m) other x ok e = subst (λ (y : Hist). IsLeft n y.plain) (same_Some _ g e) x
left-record program c k n h g (Checkpoint image) other x ok e = subst (λ (y : Hist). IsLeft n y.plain) (same_Some _ g e) x
left-record program c k n h g (Epoch epoch) other x ok e = none-some g e
left-record program c k n h g (Decided stamp d m writes) other x ok e = none-some g e

ends-left : (program : Program) (c : ComId) (k : Contents) (rs : List Record) (n : ℕ) (h g : Hist) → IsLeft n h.plain → apply_all program c k (Some h) rs ≡ Some g → n < g.plain.begun → has_outcome rs n ≡ true
unfolding IsLeft
ends-left program c k [] n h g x e lt = absurd (over x (subst (λ (y : Hist). n < y.plain.begun) (sym (same_Some h g e)) lt))
  where
    over : (h.plain.begun < n) ⊎ ((h.plain.begun ≡ n) × (is_none h.plain.hand ≡ false)) → n < h.plain.begun → ⊥
    over (inl a) b = omega (arith, a, b)
    over (inr a) b = omega (arith, a.0, b)
ends-left program c k (r ∷ rs) n h g x e lt = at (apply program c k h r) refl e (λ y. ends-left program c k rs n y g)
  where
    at : (o : Option Hist) → apply program c k h r ≡ o → apply_all program c k o rs ≡ Some g → ((y : Hist) → IsLeft n y.plain → apply_all program c k (Some y) rs ≡ Some g → n < g.plain.begun → has_outcome rs n ≡ true) → has_outcome (r ∷ rs) n ≡ true
    at None is f more = none-some g (sym (apply_none program c k rs) ∙ f)
    at (Some y) is f more = by (ends_txn n r) refl
      where
        by : (b : Bool) → ends_txn n r ≡ b → b || has_outcome rs n ≡ true
        by true same = refl
        by false other = let p = passed (fits program c (standing_of program c h) r) (recorded program c k h r) y is in more y (left-record program c k n h y r other x p.0 p.1) f lt

first-begun : (o : Option Component) → (first_cell o).begun ≡ 0
first-begun None = refl
first-begun (Some d) = refl

-- a transaction below the last that was begun has its outcome
pub passed-ended : (program : Program) (c : ComId) (k : Contents) (rs : List Record) (n : ℕ) (g : Hist) → after program c k rs ≡ Some g → 1 ≤ n → n < g.plain.begun → has_outcome rs n ≡ true
unfolding IsLeft
passed-ended program c k rs n g e one lt = ends-left program c k rs n (first_hist program c) g (inl (below (first_cell (slice_get program.components c.0)).begun (first-begun (slice_get program.components c.0)))) e lt
  where
    below : (m : ℕ) → m ≡ 0 → m < n
    below m e = omega (arith, e, one)

-- decisions ---------------------------------------------------------------------------------------

-- what is decided behind a record was decided, or the record decides it
decided-then : (b : Book) (r : Record) (c : ComId) (n a : ℕ) → decided_at (booked b r) c n ≡ Some a → (decided_at b c n ≡ Some a) ⊎ (decides_txn c n r ≡ Some a)
decided-then b (Decided stamp d m writes) c n a e =
    at (find (is_of c n) b.decided) (same_com c d && (n == m)) (sym (ap (option_map (λ (v : Verdict). v.stamp)) (find-append (is_of c n) b.decided (record { peer = d; n = m; stamp = stamp } ∷ []))) ∙ e)
  where
    at : (o : Option Verdict) (w : Bool) → option_map (λ (v : Verdict). v.stamp) (option_or o (cond w (Some (record { peer = d; n = m; stamp = stamp })) None)) ≡ Some a → (option_map (λ (v : Verdict). v.stamp) o ≡ Some a) ⊎ (cond w (Some stamp) None ≡ Some a)
    at (Some v) w f = inl f
    at None true f = inr f
    at None false f = none-some a f
decided-then b (Epoch epoch) c n a e = inl e
decided-then b (Take from k stamp) c n a e = inl e
decided-then b (TakeWhole from k stamp handler args) c n a e = inl e
decided-then b (Input stamp handler args) c n a e = inl e
decided-then b (Value m place session value) c n a e = inl e
decided-then b (Outcome stamp m abort) c n a e = inl e
decided-then b (Released to k) c n a e = inl e
decided-then b (Shown m) c n a e = inl e
decided-then b (Checkpoint image) c n a e = inl e

decided-by-all : (program : Program) (t : ComId) (rs : List Record) (b g : Book) (c : ComId) (n a : ℕ) → book program t (Some b) rs ≡ Some g → decided_at g c n ≡ Some a → (decided_at b c n ≡ Some a) ⊎ Contains (decisions_on rs c n) a
decided-by-all program t [] b g c n a e is = inl (ap (λ (y : Book). decided_at y c n) (same_Some b g e) ∙ is)
decided-by-all program t (r ∷ rs) b g c n a e is = at (book_fits program t b r) e (λ f. decided-by-all program t rs (booked b r) g c n a f is)
  where
    there : (o : Option ℕ) → Contains (decisions_on rs c n) a → Contains (cons_option o (decisions_on rs c n)) a
    there None h = h
    there (Some s) h = in-tail s a (decisions_on rs c n) h

    first : (o : Option ℕ) → o ≡ Some a → Contains (cons_option o (decisions_on rs c n)) a
    first o f = subst (λ u. Contains (cons_option u (decisions_on rs c n)) a) (sym f) (in-head a (decisions_on rs c n))

    by : (decided_at (booked b r) c n ≡ Some a) ⊎ Contains (decisions_on rs c n) a → (decided_at b c n ≡ Some a) ⊎ Contains (decisions_on (r ∷ rs) c n) a
    by (inl f) = one (decided-then b r c n a f)
      where
        one : (decided_at b c n ≡ Some a) ⊎ (decides_txn c n r ≡ Some a) → (decided_at b c n ≡ Some a) ⊎ Contains (decisions_on (r ∷ rs) c n) a
        one (inl g) = inl g
        one (inr g) = inr (first (decides_txn c n r) g)
    by (inr h) = inr (there (decides_txn c n r) h)

    at : (v : Bool) → book program t (cond v (Some (booked b r)) None) rs ≡ Some g → (book program t (Some (booked b r)) rs ≡ Some g → (decided_at (booked b r) c n ≡ Some a) ⊎ Contains (decisions_on rs c n) a) → (decided_at b c n ≡ Some a) ⊎ Contains (decisions_on (r ∷ rs) c n) a
    at true f more = by (more f)
    at false f more = none-some g (sym (book-none program t rs) ∙ f)

-- what the book of a log says is decided is so in the log
pub decided-in-log : (program : Program) (t : ComId) (log : List Record) (b : Book) (c : ComId) (n a : ℕ) → book_of program t log ≡ Some b → decided_at b c n ≡ Some a → Contains (decisions_on log c n) a
decided-in-log program t log b c n a e is = at (decided-by-all program t log (first_book program t) b c n a e is)
  where
    at : (decided_at (first_book program t) c n ≡ Some a) ⊎ Contains (decisions_on log c n) a → Contains (decisions_on log c n) a
    at (inl f) = none-some a f
    at (inr h) = h
