-- The events of a script are lawful for its books, and its books are openings.
use Rattle.std.proofs.Common.{◌≡◌, ◌∙◌, ap, sym, refl, subst, arith, ℕ, ℤ, zero, suc, ◌+◌, ◌-◌, ◌<◌, ◌≤◌, ◌^◌, Bool, true, false, not, ◌&&◌, List, [], ◌∷◌, ◌++◌, length, get_or}
use Rattle.std.proofs.lemmas.List.{length-map}
use Rattle.std.specs.Prelude.{⊤, ◌||◌, nat_lt, nat_le, pos, Option, Some, None, option_map, option_and_then, bytes_eq, if◌then◌else◌, MatchOption}
use Rattle.std.specs.List.{AllByRecursion}
use Rattle.std.proofs.lemmas.Bool.{lt-ltb, le-leb, ltb-true, leb-false, ne_eqb}
use Rattle.std.proofs.lemmas.Slice.Eq.{bytes_eq-Decides}
use Rattle.ic_base.specs.declared.events.Stop.{Stop}
use Rattle.def_syntax.specs.SyntaxLines.{both}
use Rattle.def_two.specs.declared.script.Event2.{Event2}
use Rattle.def_two.specs.declared.script.What2.{What2}
use Rattle.def_two.specs.declared.script.What2.TheVariants as whats
use Rattle.def_two.specs.Moves.{Openings, nth_book}
use Rattle.def_two.specs.Ends.{AreOpenings}
use Rattle.def_two.specs.Runs.{is_line, IsEvent2}
use Rattle.def_two.specs.Script as script
use Rattle.def_two.specs.Script.{NamedBook, SoFar, named_from, book_named, com_named, key_in, key_named, event_of}
use Rattle.ic_script.specs.Reading.{IsRow, IsWritten, StopCounts, openings_in}
use Rattle.ic_script.proofs.Named.{StandsAt, stands_at, same_name}

-- what holds of events holds with one more of which it holds
pub all_with : (P : Event2 → Type 0) (events : List Event2) (e : Event2) → AllByRecursion P events → P e → AllByRecursion P (events ++ e ∷ [])
all_with P [] e all one = (one, tt)
all_with P (x ∷ events) e all one = (all.0, all_with P events e all.1 one)

pub rows_with : (P : NamedBook → Type 0) (books : List NamedBook) (b : NamedBook) → AllByRecursion P books → P b → AllByRecursion P (books ++ b ∷ [])
rows_with P [] b all one = (one, tt)
rows_with P (x ∷ books) b all one = (all.0, rows_with P books b all.1 one)

-- openings ------------------------------------------------------------------------------

small_at : (values : List ℕ) (key : ℕ) → AllByRecursion (λ n. n < 2 ^ 64) values → get_or values key 0 < 2 ^ 64
small_at [] key all = omega arith
small_at (v ∷ values) zero all = all.0
small_at (v ∷ values) (suc key) all = small_at values key all.1

row_at : (books : List NamedBook) (i : ℕ) → AllByRecursion IsRow books → (length (get_or (openings_in books) i []) ≤ 64) × AllByRecursion (λ n. n < 2 ^ 64) (get_or (openings_in books) i [])
row_at [] i all = (omega arith, tt)
row_at (b ∷ books) zero all = (all.0.short, all.0.fit)
row_at (b ∷ books) (suc i) all = row_at books i all.1

pub are_openings : (books : List NamedBook) → length books ≤ 8 → AllByRecursion IsRow books → AreOpenings (openings_in books)
are_openings books few all = (omega (arith, few, length-map books (λ (b : NamedBook). b.1)), values, lengths)
  where
    values : (b key : ℕ) → get_or (nth_book (openings_in books) b) key 0 < 2 ^ 64
    values zero key = omega arith
    values (suc b) key = small_at (get_or (openings_in books) b []) key (row_at books b all).1

    lengths : (b : ℕ) → length (nth_book (openings_in books) b) ≤ 64
    lengths zero = omega arith
    lengths (suc b) = (row_at books b all).0

-- events ----------------------------------------------------------------------------------

-- a book with a key that it has
record Has (x : SoFar) (name : List ℕ) (b key : ℕ) : Type 0 where
  values : List ℕ
  at : StandsAt 1 name x.books b values
  below : key < length values

some_is : {A : Type 0} (a b : A) → ◌≡◌ {A = Option A} (Some a) (Some b) → a ≡ b
some_is a b e = cc

key_found : (key i : ℕ) (values : List ℕ) (y : ℕ × ℕ) (c : Bool) → nat_lt key (length values) ≡ c → ◌≡◌ {A = Option (ℕ × ℕ)} (if c then Some (i, key) else None) (Some y) → (key < length values) × (i ≡ y.0) × (key ≡ y.1)
key_found key i values y true is e = let same = some_is (i, key) y e in (ltb-true key (length values) is, ap (λ (z : ℕ × ℕ). z.0) same, ap (λ (z : ℕ × ℕ). z.1) same)
key_found key i values y false is e = absurd (cc)

has_of : (x : SoFar) (name : List ℕ) (z : ℤ) (y : ℕ × ℕ) (o : Option (ℕ × List ℕ)) → named_from 1 name x.books ≡ o → option_and_then (key_in z) o ≡ Some y → Has x name y.0 y.1
has_of x name z y None is e = absurd (cc)
has_of x name (pos key) y (Some b) is e =
    let found = key_found key b.0 b.1 y (nat_lt key (length b.1)) refl e in
    record { values = b.1; at = subst (λ i. StandsAt 1 name x.books i b.1) found.1 (stands_at 1 name x.books b.0 b.1 is); below = subst (λ k. k < length b.1) found.2 found.0 }
has_of x name z y (Some b) is e = absurd (cc)

conj : (a b : Bool) → a ≡ true → b ≡ true → (a && b) ≡ true
conj a b e f = ap (λ z. z && b) e ∙ f

nth_is : (books : Openings) (b : ℕ) → 1 ≤ b → nth_book books b ≡ get_or books (b - 1) []
nth_is books zero some = absurd (omega (arith, some))
nth_is books (suc i) some = let same : i ≡ suc i - 1 = omega arith in ap (λ n. get_or books n []) same

-- the key is one of the book's
in_row : (x : SoFar) (name : List ℕ) (b key : ℕ) → Has x name b key → nat_lt key (length (nth_book (openings_in x.books) b)) ≡ true
in_row x name b key h =
    let row : nth_book (openings_in x.books) b ≡ h.values = nth_is (openings_in x.books) b h.at.low ∙ h.at.values in
    ap (λ (l : List ℕ). nat_lt key (length l)) row ∙ lt-ltb key (length h.values) h.below

two_books : (x : SoFar) (from to : List ℕ) (a k b l : ℕ) → bytes_eq from to ≡ false → Has x from a k → Has x to b l → (a ≡ b → ⊥)
two_books x from to a k b l apart f t same =
    let at = subst (λ i. StandsAt 1 to x.books i t.values) (sym same) t.at in
    let one = (bytes_eq-Decides from to).1 (same_name 1 from to x.books a f.values t.values f.at at) in
    let clash : true ≡ false = sym one ∙ apart in
    cc

lawful_move : (x : SoFar) (from to : List ℕ) (a k b l amount : ℕ) → length x.books ≤ 8 → bytes_eq from to ≡ false → 1 ≤ amount → amount < 2 ^ 64 → Has x from a k → Has x to b l
    → is_line (openings_in x.books) (whats.Move a k b l amount) ≡ true
lawful_move x from to a k b l amount few apart some fits f t =
    let high_from = f.at.high in
    let high_to = t.at.high in
    conj _ _
    (conj _ _
    (conj _ _ (ap not (ne_eqb a b (two_books x from to a k b l apart f t)))
    (conj _ _ (le-leb 1 a f.at.low) (conj _ _ (le-leb a 8 (omega (arith, few, high_from))) (conj _ _ (le-leb 1 b t.at.low) (conj _ _ (le-leb b 8 (omega (arith, few, high_to))) (le-leb 1 amount some))))))
    (conj _ _ (in_row x from a k f) (in_row x to b l t)))
    (lt-ltb amount (2 ^ 64) fits)

abbrev counted : Option Stop → Type 0
counted s = MatchOption s ⊤ (λ (x : Stop). 1 ≤ x.call)

counts : (s : Option Stop) → StopCounts s → counted s
counts None h = tt
counts (Some s) h = h

move_event : (x : SoFar) (from to : List ℕ) (amount : ℕ) (s : Option Stop) (o q : Option (ℕ × ℕ)) (e : Event2) → length x.books ≤ 8 → bytes_eq from to ≡ false → 1 ≤ amount → amount < 2 ^ 64 → StopCounts s
    → ((y : ℕ × ℕ) → o ≡ Some y → Has x from y.0 y.1) → ((y : ℕ × ℕ) → q ≡ Some y → Has x to y.0 y.1) → both (script.move_between amount s) o q ≡ Some e → IsEvent2 (openings_in x.books) e
move_event x from to amount s None q e few apart some fits stop f t is = absurd (cc)
move_event x from to amount s (Some a) None e few apart some fits stop f t is = absurd (cc)
move_event x from to amount s (Some a) (Some b) e few apart some fits stop f t is =
    subst (IsEvent2 (openings_in x.books)) (some_is (script.move_between amount s a b) e is) (lawful_move x from to a.0 a.1 b.0 b.1 amount few apart some fits (f a refl) (t b refl), counts s stop)

-- an event of another kind
other : (books : Openings) (what : What2) (s : Option Stop) (o : Option Event2) (e : Event2) → is_line books what ≡ true → StopCounts s → o ≡ Some (script.event s what) → o ≡ Some e → IsEvent2 books e
other books what s o e line stop one is = subst (IsEvent2 books) (some_is (script.event s what) e (sym one ∙ is)) (line, counts s stop)

pair_event : (books : Openings) (f : ℕ → ℕ → What2) (s : Option Stop) (o q : Option ℕ) (e : Event2) → ((c d : ℕ) → is_line books (f c d) ≡ true) → StopCounts s → both (λ c d. script.event s (f c d)) o q ≡ Some e → IsEvent2 books e
pair_event books f s None q e line stop is = absurd (cc)
pair_event books f s (Some c) None e line stop is = absurd (cc)
pair_event books f s (Some c) (Some d) e line stop is = other books (f c d) s (Some (script.event s (f c d))) e (line c d) stop refl is

one_event : (books : Openings) (f : ℕ → What2) (s : Option Stop) (o : Option ℕ) (e : Event2) → ((c : ℕ) → is_line books (f c) ≡ true) → StopCounts s → option_map (λ c. script.event s (f c)) o ≡ Some e → IsEvent2 books e
one_event books f s None e line stop is = absurd (cc)
one_event books f s (Some c) e line stop is = other books (f c) s (Some (script.event s (f c))) e (line c) stop refl is

-- the event of a line is lawful for the books
pub event_lawful : (x : SoFar) (l : script.ScriptLine) (e : Event2) → length x.books ≤ 8 → IsWritten l → event_of x l ≡ Some e → IsEvent2 (openings_in x.books) e
event_lawful x (script.BookOf name values) e few w is = absurd (cc)
event_lawful x (script.MoveOf from source to target amount s) e few w is =
    move_event x from to amount s (key_named x from source) (key_named x to target) e few w.0 w.1 w.2 w.3 (λ y found. has_of x from source y (book_named x from) refl found) (λ y found. has_of x to target y (book_named x to) refl found) is
event_lawful x (script.DeliverOf from to s) e few w is = pair_event (openings_in x.books) whats.Deliver s (com_named x from) (com_named x to) e (λ c d. refl) w is
event_lawful x (script.LoseOf from to) e few w is = pair_event (openings_in x.books) whats.Lose None (com_named x from) (com_named x to) e (λ c d. refl) tt is
event_lawful x (script.PacketOf n s) e few w is = other (openings_in x.books) (whats.Packet n) s (Some (script.event s (whats.Packet n))) e refl w refl is
event_lawful x (script.CrashOf name) e few w is = one_event (openings_in x.books) whats.Crash None (com_named x name) e (λ c. refl) tt is
event_lawful x (script.ResendOf name) e few w is = one_event (openings_in x.books) whats.Resend None (com_named x name) e (λ c. refl) tt is
event_lawful x (script.RecoverOf name s) e few w is = one_event (openings_in x.books) whats.Recover s (com_named x name) e (λ c. refl) w is

-- limits ----------------------------------------------------------------------------------

-- a line that may stand there passes no limit of moves
pub moves_behind : (x : SoFar) (l : script.ScriptLine) → script.is_misplaced x l ≡ false → x.moves ≤ 10000 → x.moves + script.counts l ≤ 10000
moves_behind x (script.BookOf name values) placed few = omega (arith, few)
moves_behind x (script.MoveOf from source to target amount s) placed few = by (nat_lt (length x.books) 1) (nat_le 10000 x.moves) refl placed
  where
    by : (a b : Bool) → nat_le 10000 x.moves ≡ b → (a || b) ≡ false → x.moves + 1 ≤ 10000
    by true b is clear = absurd (cc)
    by false true is clear = absurd (cc)
    by false false is clear = let low = leb-false 10000 x.moves is in omega (arith, low)
moves_behind x (script.DeliverOf from to s) placed few = omega (arith, few)
moves_behind x (script.LoseOf from to) placed few = omega (arith, few)
moves_behind x (script.PacketOf n s) placed few = omega (arith, few)
moves_behind x (script.CrashOf name) placed few = omega (arith, few)
moves_behind x (script.ResendOf name) placed few = omega (arith, few)
moves_behind x (script.RecoverOf name s) placed few = omega (arith, few)
