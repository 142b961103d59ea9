-- How the first line of a text is cut off, and read of its first bytes.
use Rattle.std.proofs.Common.{◌≡◌, ◌≢◌, ◌⊎◌, inl, inr, ℕ, zero, suc, ◌+◌, ◌-◌, ◌<◌, ◌≤◌, Bool, true, false, List, [], ◌∷◌, ◌++◌, All, Some, IfSome, length, take, drop, nat_lt, get_or, refl, sym, ap, subst, ◌∙◌, arith, append-nil, take_all, take-take, length-take-le, take-append-drop, drop_of_length-le, le_refl, ne_eqb, eq-eqb, eqb, true≢false, min, ◌&&◌, lt-ltb, eqb-true, Option, None, IsSome, zero-le, cond}
use Rattle.std.proofs.lemmas.Bool.Decides.{nat_tests}
use Rattle.std.proofs.lemmas.List.Elements.{All-nil, All-cons, All-take, All-more}
use Rattle.std.specs.Io.{StopsAt, IsEmptyOrEndsWith}
use Rattle.std.specs.Io.BufRead.{take_through, drop_through, ends_with_byte}
use Rattle.std.specs.Prelude.{unwrap_or}
use Rattle.std.proofs.BufReadLemmas.{take_through-append, drop_through-append, through_part}
use Rattle.std.proofs.Transfers.{StopsAt-take, StopsAt-append}
use Rattle.ic_lines.specs.declared.lines.Read.{Read}
use Rattle.ic_lines.specs.declared.lines.Read.TheVariants.{Line, Unterminated, TooLong}
use Rattle.ic_lines.specs.Lines.{up_to, read_of, first_read, IsShort, IsLine}

-- the first bytes of a line end it nowhere but at their last
pub stops_take : (n : ℕ) (xs : List ℕ) → StopsAt xs 10 → StopsAt (take n xs) 10
stops_take n xs stops = at (nat_lt n (length xs)) refl
  where
    at : (v : Bool) → nat_lt n (length xs) ≡ v → StopsAt (take n xs) 10
    at true e =
        let less : n < length xs = grind (arith, nat_tests, e) in
        StopsAt-take xs 10 n (omega (arith, less))
        (subst (All (λ b. b ≢ 10)) (take-take (n - 1) (length xs - 1) xs (omega (arith, less))) (All-take (λ b. b ≢ 10) (n - 1) _ stops))
    at false e =
        let all : length xs ≤ n = grind (arith, nat_tests, e) in
        subst (λ l. StopsAt l 10) (sym (take_all n xs all)) stops

-- the first bytes of what was cut before
pub take_again : {X : Type 0} (n : ℕ) (xs ys : List X) → take n (take n xs ++ ys) ≡ take n (xs ++ ys)
take_again zero xs ys = refl
take_again (suc n) [] ys = refl
take_again (suc n) (x ∷ xs) ys = ap (λ l. x ∷ l) (take_again n xs ys)

-- a line with more bytes than the limit
up_to_long : (limit : ℕ) (form : List ℕ → Read) (line : List ℕ) → limit < length line → up_to limit form line ≡ TooLong
up_to_long limit form line long = grind (arith, nat_tests, long)

-- whether a byte ends a line is whether its last byte does
ends_last : (x : ℕ) (xs : List ℕ) → ends_with_byte 10 (x ∷ xs) ≡ eqb (get_or (x ∷ xs) (length (x ∷ xs) - 1) 0) 10
ends_last x xs = ap (λ b. b && eqb (get_or (x ∷ xs) (length (x ∷ xs) - 1) 0) 10) (lt-ltb 0 (length (x ∷ xs)) (omega arith))

-- no byte ends this line
open_line : (xs : List ℕ) → All (λ b. b ≢ 10) xs → ends_with_byte 10 xs ≡ false
open_line [] none = refl
open_line (x ∷ xs) none =
    let last = length (x ∷ xs) - 1 in
    ends_last x xs ∙ ne_eqb (get_or (x ∷ xs) last 0) 10 (none last 0 (omega arith))

-- a line with more bytes than the limit and its end have
long_line : (limit : ℕ) (xs : List ℕ) → limit + 1 < length xs → read_of limit xs ≡ Some TooLong
long_line limit [] long = absurd (omega (arith, long))
long_line limit (b ∷ bs) long = at (ends_with_byte 10 (b ∷ bs)) refl
  where
    at : (v : Bool) → ends_with_byte 10 (b ∷ bs) ≡ v → read_of limit (b ∷ bs) ≡ Some TooLong
    at true e =
        let last = length (b ∷ bs) - 1 in
        rw e (ap Some (up_to_long limit Line (take last (b ∷ bs)) (omega (arith, long, length-take-le last (b ∷ bs) (omega arith)))))
    at false e = rw e (ap Some (up_to_long limit Unterminated (b ∷ bs) (omega (arith, long))))

-- a line that goes on behind as many bytes as the limit allows
open_long_line : (limit : ℕ) (xs : List ℕ) → limit < length xs → All (λ b. b ≢ 10) xs → read_of limit xs ≡ Some TooLong
open_long_line limit [] long none = absurd (omega (arith, long))
open_long_line limit (b ∷ bs) long none = rw (open_line (b ∷ bs) none) (ap Some (up_to_long limit Unterminated (b ∷ bs) long))

-- a line is read of its first bytes
pub read_of_front : (limit n : ℕ) (xs : List ℕ) → StopsAt xs 10 → (n < length xs → n ≡ limit + 1) → read_of limit (take n xs) ≡ read_of limit xs
read_of_front limit n xs stops cut = at (nat_lt n (length xs)) refl
  where
    at : (v : Bool) → nat_lt n (length xs) ≡ v → read_of limit (take n xs) ≡ read_of limit xs
    at true e =
        let less : n < length xs = grind (arith, nat_tests, e) in
        let is = cut less in
        let size = length-take-le n xs (omega (arith, less)) in
        let none = subst (All (λ b. b ≢ 10)) (take-take n (length xs - 1) xs (omega (arith, less))) (All-take (λ b. b ≢ 10) n _ stops) in
        open_long_line limit (take n xs) (omega (arith, is, size)) none ∙ sym (long_line limit xs (omega (arith, is, less)))
    at false e =
        let all : length xs ≤ n = grind (arith, nat_tests, e) in
        ap (read_of limit) (take_all n xs all)

-- a line that isn't too long
line_up_to : (limit : ℕ) (form : List ℕ → Read) (line : List ℕ) → (IsShort limit line → IsLine limit (form line)) → All (λ b. b ≢ 10) line → IsLine limit (up_to limit form line)
line_up_to limit form line is none = at (nat_lt limit (length line)) refl
  where
    at : (v : Bool) → nat_lt limit (length line) ≡ v → IsLine limit (up_to limit form line)
    at true e = rw e tt
    at false e = rw e (is (record { short = grind (arith, nat_tests, e); one = none }))

-- a line that its last byte doesn't end either
no_end : (b : ℕ) (bs : List ℕ) → StopsAt (b ∷ bs) 10 → eqb (get_or (b ∷ bs) (length (b ∷ bs) - 1) 0) 10 ≡ false → All (λ y. y ≢ 10) (b ∷ bs)
no_end b bs stops e =
    let last = length (b ∷ bs) - 1 in
    subst (All (λ y. y ≢ 10)) (take_all (last + 1) (b ∷ bs) (omega arith))
    (All-more (λ y. y ≢ 10) (b ∷ bs) last 0 (omega arith) stops (λ is. true≢false (sym (eq-eqb (get_or (b ∷ bs) last 0) 10 is) ∙ e)))

-- what is read is a line
read_is_line : (limit : ℕ) (xs : List ℕ) → StopsAt xs 10 → IfSome (read_of limit xs) (IsLine limit)
read_is_line limit [] stops = tt
read_is_line limit (b ∷ bs) stops = at (ends_with_byte 10 (b ∷ bs)) refl
  where
    at : (v : Bool) → ends_with_byte 10 (b ∷ bs) ≡ v → IfSome (read_of limit (b ∷ bs)) (IsLine limit)
    at true e = rw e (line_up_to limit Line (take (length (b ∷ bs) - 1) (b ∷ bs)) (λ short. short) stops)
    at false e =
        let whole = no_end b bs stops (sym (ends_last b bs) ∙ e) in
        rw e (line_up_to limit Unterminated (b ∷ bs) (λ short. (omega arith, short)) whole)

pub line_read : (limit : ℕ) (xs : List ℕ) (r : Option Read) → StopsAt xs 10 → r ≡ read_of limit xs → IfSome r (IsLine limit)
line_read limit xs r stops is = subst (λ o. IfSome o (IsLine limit)) (sym is) (read_is_line limit xs stops)

-- a text that no byte 10 stands in is its first line
pub whole_line : (xs : List ℕ) → All (λ b. b ≢ 10) xs → (take_through 10 xs ≡ xs) × (drop_through 10 xs ≡ [])
whole_line xs none = (
  ap (take_through 10) (sym (append-nil xs)) ∙ take_through-append 10 xs [] none ∙ append-nil xs,
  ap (drop_through 10) (sym (append-nil xs)) ∙ drop_through-append 10 xs [] none,
)

-- a text that is one line
one_line : (xs : List ℕ) → StopsAt xs 10 → (take_through 10 xs ≡ xs) × (drop_through 10 xs ≡ [])
one_line [] stops = (refl, refl)
one_line (x ∷ xs) stops = at (eqb (get_or (x ∷ xs) (length (x ∷ xs) - 1) 0) 10) refl
  where
    at : (v : Bool) → eqb (get_or (x ∷ xs) (length (x ∷ xs) - 1) 0) 10 ≡ v → (take_through 10 (x ∷ xs) ≡ x ∷ xs) × (drop_through 10 (x ∷ xs) ≡ [])
    at true e =
        let whole = through_part 10 (x ∷ xs) [] stops (λ some. eqb-true (get_or (x ∷ xs) (length (x ∷ xs) - 1) 0) 10 e) (λ none. refl) in
        (ap (take_through 10) (sym (append-nil (x ∷ xs))) ∙ whole.0, ap (drop_through 10) (sym (append-nil (x ∷ xs))) ∙ whole.1)
    at false e = whole_line (x ∷ xs) (no_end x xs stops e)

-- a piece of a text that is its first line
pub line_is_first : (line text : List ℕ) → line ≡ take (length line) text → StopsAt line 10 → IsEmptyOrEndsWith line 10 ⊎ (line ≡ text) → (length line ≡ 0 → text ≡ [])
    → (take_through 10 text ≡ line) × (drop_through 10 text ≡ drop (length line) text)
line_is_first line text front stops (inl ends) some =
    let n = length line in
    let split : text ≡ line ++ drop n text = sym (take-append-drop n text) ∙ ap (λ l. l ++ drop n text) (sym front) in
    let parts = through_part 10 line (drop n text) stops ends (λ none. ap (drop n) (some none) ∙ drop_of_length-le [] {i = n} zero-le) in
    (ap (take_through 10) split ∙ parts.0, ap (drop_through 10) split ∙ parts.1)
line_is_first line text front stops (inr whole) some =
    let one = one_line line stops in
    let behind : drop (length line) text ≡ [] = ap (drop (length line)) (sym whole) ∙ drop_of_length-le line (le_refl (length line)) in
    (ap (take_through 10) (sym whole) ∙ one.0, ap (drop_through 10) (sym whole) ∙ one.1 ∙ sym behind)

-- what is read first of a text, by the first bytes of its first line
pub read_first : (limit n : ℕ) (line text : List ℕ) → line ≡ take (length line) text → StopsAt line 10 → IsEmptyOrEndsWith line 10 ⊎ (line ≡ text) → (length line ≡ 0 → text ≡ [])
    → (n < length line → n ≡ limit + 1) → read_of limit (take n line) ≡ first_read limit text
read_first limit n line text front stops ends some cut = read_of_front limit n line stops cut ∙ ap (read_of limit) (sym (line_is_first line text front stops ends some).0)

take_min : (n : ℕ) (xs : List ℕ) → take (min (length xs) n) xs ≡ take n xs
take_min n xs = at (nat_lt n (length xs)) refl
  where
    at : (v : Bool) → nat_lt n (length xs) ≡ v → take (min (length xs) n) xs ≡ take n xs
    at true e = ap (λ k. take k xs) (grind (arith, nat_tests, e))
    at false e =
        let all : length xs ≤ n = grind (arith, nat_tests, e) in
        take_all (min (length xs) n) xs (omega (arith, all)) ∙ sym (take_all n xs all)

-- the first bytes of a piece, for which there is room behind what is kept
pub room_for : (room : ℕ) (kept piece : List ℕ) → length kept ≤ room → kept ++ take (min (length piece) (room - length kept)) piece ≡ take room (kept ++ piece)
room_for room [] piece fits = let same : room - 0 ≡ room = omega arith in ap (λ k. take (min (length piece) k) piece) same ∙ take_min room piece
room_for zero (x ∷ xs) piece fits = absurd (omega (arith, fits))
room_for (suc room) (x ∷ xs) piece fits =
    let less : suc room - suc (length xs) ≡ room - length xs = omega arith in
    ap (λ k. x ∷ (xs ++ take (min (length piece) k) piece)) less ∙ ap (λ l. x ∷ l) (room_for room xs piece (omega (arith, fits)))

-- what follows of known bytes
pub if_known : (known : Option (List ℕ)) (P Q : List ℕ → Type 0) → ((xs : List ℕ) → P xs → Q xs) → IfSome known P → IfSome known Q
if_known None P Q f h = tt
if_known (Some xs) P Q f h = f xs h

-- the first line of a text ends nowhere but at its last byte
through_stops : (xs : List ℕ) → StopsAt (take_through 10 xs) 10
through_stops [] = All-nil (λ y. y ≢ 10)
through_stops (x ∷ xs) = at (through_stops xs) (eqb x 10) refl
  where
    at : StopsAt (take_through 10 xs) 10 → (v : Bool) → eqb x 10 ≡ v → StopsAt (cond v (x ∷ []) (x ∷ take_through 10 xs)) 10
    at rest true e = All-nil (λ y. y ≢ 10)
    at rest false e = StopsAt-append (x ∷ []) (take_through 10 xs) 10 (All-cons (λ y. y ≢ 10) x [] (λ is. true≢false (sym (eq-eqb x 10 is) ∙ e)) (All-nil (λ y. y ≢ 10))) rest

-- what is read first of known bytes, by the first bytes of their first line
pub read_known : (limit n : ℕ) (known : Option (List ℕ)) (line : List ℕ) → IsSome known → IfSome known (λ xs. line ≡ take n (take_through 10 xs)) → n ≡ limit + 1
    → read_of limit line ≡ first_read limit (unwrap_or known [])
read_known limit n None line some is size = absurd (true≢false (sym some))
read_known limit n (Some xs) line some is size = ap (read_of limit) is ∙ read_of_front limit n (take_through 10 xs) (through_stops xs) (λ _. size)
