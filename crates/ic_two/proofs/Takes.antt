-- What is read of a record is its one spelling, and what stands behind it.
use Rattle.std.proofs.Common.{◌≡◌, ◌∙◌, ap, sym, refl, subst, ℕ, zero, suc, ◌<◌, ◌≤◌, ◌==◌, ◌^◌, Bool, true, false, List, [], ◌∷◌, ◌++◌, length, Option, Some, None, arith}
use Rattle.std.specs.Prelude.{nat_lt, option_map, IfSome}
use Rattle.std.specs.Int.{w8, w16, w64, to_be_bytes}
use Rattle.std.proofs.lemmas.Bool.Decides.{nat_tests}
use Rattle.std.proofs.lemmas.List.{length-append}
use Rattle.ic_base.specs.declared.limits.TheConstants.{COMPONENTS}
use Rattle.def_log.specs.Spelling.{number}
use Rattle.def_log.specs.Reading.{number_at, tested_at, count_at}
use Rattle.def_log.proofs.Takes.{IsBytes, IsBytes-rest, Takes, Takes-then, Takes-kind, came, some_is, number_takes, byte_takes, tested_takes, count_takes, wide16, wide64}
use Rattle.def_two.specs.declared.moves.Move.{Move}
use Rattle.def_two.specs.declared.moves.Cause2.{Cause2}
use Rattle.def_two.specs.declared.moves.Cause2.TheVariants.{Short, Over}
use Rattle.def_two.specs.declared.moves.Ruling.{Ruling}
use Rattle.def_two.specs.declared.moves.Ruling.TheVariants.{Yes, No}
use Rattle.def_two.specs.declared.moves.Record2.{Record2}
use Rattle.def_two.specs.declared.moves.Record2.TheVariants.{Begun, Verdict, Ready, Ended}
use Rattle.def_two.specs.Records.{move_bytes, cause_bytes, ruling_bytes, yes_byte, spelling2, MoveFits, RulingFits, Fits2, book_at, move_at, numbers_at, cause_at, no_at, ruling_at, yes_at, verdict_at, ended_at, record2_at}
use Rattle.law_two_run.proofs.Reading.{spelled-some}

abbrev some : {A : Type 0} → A → Option A
some x = Some x

abbrev nothing : {A : Type 0} → Option A
nothing = None

never : {A : Type 0} (x : A) → nothing ≡ some x → ⊥
never x e = absurd cc

book_takes : (bytes : List ℕ) (b : ℕ) (rest : List ℕ) → IsBytes bytes → book_at bytes ≡ Some (b, rest) → Takes bytes (b ∷ []) rest × (b < COMPONENTS)
unfolding book_at
book_takes bytes b rest fits e =
    let t = tested_takes w8 (λ n. nat_lt n 32) bytes b rest e in
    let test : nat_lt b 32 ≡ true = t.1 in
    let small : b < 32 = grind (arith, nat_tests) in
    ((byte_takes bytes b rest fits t.0).0, small)

move_takes : (bytes : List ℕ) (m : Move) (rest : List ℕ) → IsBytes bytes → move_at bytes ≡ Some (m, rest) → Takes bytes (move_bytes m) rest × MoveFits m
unfolding move_at
move_takes bytes m rest fits e =
    let n = came _ (count_at bytes) (m, rest) e in
    let from = came _ (book_at n.0.1) (m, rest) n.2 in
    let source = came _ (number_at w16 from.0.1) (m, rest) from.2 in
    let to = came _ (book_at source.0.1) (m, rest) source.2 in
    let target = came _ (number_at w16 to.0.1) (m, rest) to.2 in
    let amount = came _ (number_at w64 target.0.1) (m, rest) target.2 in
    let a = count_takes bytes n.0.0 n.0.1 fits n.1 in
    let b = book_takes n.0.1 from.0.0 from.0.1 a.0.rest_fits from.1 in
    let c = number_takes w16 (2 ^ 16) wide16 from.0.1 source.0.0 source.0.1 b.0.rest_fits source.1 in
    let d = book_takes source.0.1 to.0.0 to.0.1 c.0.rest_fits to.1 in
    let f = number_takes w16 (2 ^ 16) wide16 to.0.1 target.0.0 target.0.1 d.0.rest_fits target.1 in
    let g = number_takes w64 (2 ^ 64) wide64 target.0.1 amount.0.0 amount.0.1 f.0.rest_fits amount.1 in
    let last = to_be_bytes w16 target.0.0 ++ number amount.0.0 in
    let side = to.0.0 ∷ last in
    let first = to_be_bytes w16 source.0.0 ++ side in
    let t5 : Takes to.0.1 last amount.0.1 = Takes-then to.0.1 (to_be_bytes w16 target.0.0) target.0.1 (number amount.0.0) amount.0.1 f.0 g.0 in
    let t4 : Takes source.0.1 side amount.0.1 = Takes-then source.0.1 (to.0.0 ∷ []) to.0.1 last amount.0.1 d.0 t5 in
    let t3 : Takes from.0.1 first amount.0.1 = Takes-then from.0.1 (to_be_bytes w16 source.0.0) source.0.1 side amount.0.1 c.0 t4 in
    let t2 : Takes n.0.1 (from.0.0 ∷ first) amount.0.1 = Takes-then n.0.1 (from.0.0 ∷ []) from.0.1 first amount.0.1 b.0 t3 in
    let is : Move = record { n = n.0.0; from = from.0.0; source = source.0.0; to = to.0.0; target = target.0.0; amount = amount.0.0 } in
    let t1 : Takes bytes (move_bytes is) amount.0.1 = Takes-then bytes (number n.0.0) n.0.1 (from.0.0 ∷ first) amount.0.1 a.0 t2 in
    subst (λ (x : Move × List ℕ). Takes bytes (move_bytes x.0) x.1 × MoveFits x.0) (some_is (is, amount.0.1) (m, rest) amount.2) (t1, (a.1, b.1, c.1, d.1, f.1, g.1))

numbers_takes : (f : ℕ → ℕ → Cause2) (bytes : List ℕ) (cause : Cause2) (rest : List ℕ) → IsBytes bytes → numbers_at f bytes ≡ Some (cause, rest)
    → (value held : ℕ) × (cause ≡ f value held) × Takes bytes (number value ++ number held) rest × (value < 2 ^ 64) × (held < 2 ^ 64)
unfolding numbers_at
numbers_takes f bytes cause rest fits e =
    let value = came _ (number_at w64 bytes) (cause, rest) e in
    let held = came _ (number_at w64 value.0.1) (cause, rest) value.2 in
    let a = number_takes w64 (2 ^ 64) wide64 bytes value.0.0 value.0.1 fits value.1 in
    let b = number_takes w64 (2 ^ 64) wide64 value.0.1 held.0.0 held.0.1 a.0.rest_fits held.1 in
    let is = some_is (f value.0.0 held.0.0, held.0.1) (cause, rest) held.2 in
    let t : Takes bytes (number value.0.0 ++ number held.0.0) held.0.1 = Takes-then bytes (number value.0.0) value.0.1 (number held.0.0) held.0.1 a.0 b.0 in
    (value.0.0, held.0.0, sym (ap (λ (x : Cause2 × List ℕ). x.0) is), subst (λ (l : List ℕ). Takes bytes (number value.0.0 ++ number held.0.0) l) (ap (λ (x : Cause2 × List ℕ). x.1) is) t, a.1, b.1)

cause_none : (way : ℕ) (bytes : List ℕ) → 3 ≤ way → cause_at (way ∷ bytes) ≡ None
unfolding cause_at
cause_none way bytes le =
    let t1 : (way == 1) ≡ false = grind (arith, nat_tests) in
    let t2 : (way == 2) ≡ false = grind (arith, nat_tests) in
    rw (t1, t2) refl

-- a cause of a no, which is book's
abbrev CauseFits : Cause2 → Type 0
CauseFits cause = RulingFits (No 0 cause)

cause_takes : (bytes : List ℕ) (cause : Cause2) (rest : List ℕ) → IsBytes bytes → cause_at bytes ≡ Some (cause, rest) → Takes bytes (cause_bytes cause) rest × CauseFits cause
unfolding cause_at
cause_takes [] cause rest fits e = absurd cc
cause_takes (zero ∷ bytes) cause rest fits e = absurd cc
cause_takes (suc zero ∷ bytes) cause rest fits e =
    let t = numbers_takes Short bytes cause rest (IsBytes-rest 1 bytes fits) e in
    subst (λ (x : Cause2). Takes (1 ∷ bytes) (cause_bytes x) rest × CauseFits x) (sym t.2) (Takes-kind 1 _ _ _ t.3, (omega arith, t.4, t.5))
cause_takes (suc (suc zero) ∷ bytes) cause rest fits e =
    let t = numbers_takes Over bytes cause rest (IsBytes-rest 2 bytes fits) e in
    subst (λ (x : Cause2). Takes (2 ∷ bytes) (cause_bytes x) rest × CauseFits x) (sym t.2) (Takes-kind 2 _ _ _ t.3, (omega arith, t.4, t.5))
cause_takes (suc (suc (suc w)) ∷ bytes) cause rest fits e = absurd (never (cause, rest) (sym (cause_none (suc (suc (suc w))) bytes (omega arith)) ∙ e))

of_book : (book : ℕ) (cause : Cause2) → book < COMPONENTS → CauseFits cause → RulingFits (No book cause)
of_book book (Short value held) small f = (small, f.1, f.2)
of_book book (Over value held) small f = (small, f.1, f.2)

no_takes : (bytes : List ℕ) (r : Ruling) (rest : List ℕ) → IsBytes bytes → no_at bytes ≡ Some (r, rest) → Takes (0 ∷ bytes) (ruling_bytes r) rest × RulingFits r
unfolding no_at
no_takes bytes r rest fits e =
    let book = came _ (book_at bytes) (r, rest) e in
    let cause = came _ (cause_at book.0.1) (r, rest) book.2 in
    let a = book_takes bytes book.0.0 book.0.1 fits book.1 in
    let b = cause_takes book.0.1 cause.0.0 cause.0.1 a.0.rest_fits cause.1 in
    let t : Takes bytes (book.0.0 ∷ cause_bytes cause.0.0) cause.0.1 = Takes-then bytes (book.0.0 ∷ []) book.0.1 (cause_bytes cause.0.0) cause.0.1 a.0 b.0 in
    subst (λ (x : Ruling × List ℕ). Takes (0 ∷ bytes) (ruling_bytes x.0) x.1 × RulingFits x.0) (some_is (No book.0.0 cause.0.0, cause.0.1) (r, rest) cause.2)
    (Takes-kind 0 _ _ _ t, of_book book.0.0 cause.0.0 a.1 b.1)

ruling_none : (way : ℕ) (bytes : List ℕ) → 2 ≤ way → ruling_at (way ∷ bytes) ≡ None
unfolding ruling_at
ruling_none way bytes le =
    let t1 : (way == 1) ≡ false = grind (arith, nat_tests) in
    let t0 : (way == 0) ≡ false = grind (arith, nat_tests) in
    rw (t1, t0) refl

ruling_takes : (bytes : List ℕ) (r : Ruling) (rest : List ℕ) → IsBytes bytes → ruling_at bytes ≡ Some (r, rest) → Takes bytes (ruling_bytes r) rest × RulingFits r
unfolding ruling_at
ruling_takes [] r rest fits e = absurd cc
ruling_takes (zero ∷ bytes) r rest fits e = no_takes bytes r rest (IsBytes-rest 0 bytes fits) e
ruling_takes (suc zero ∷ bytes) r rest fits e =
    subst (λ (x : Ruling × List ℕ). Takes (1 ∷ bytes) (ruling_bytes x.0) x.1 × RulingFits x.0) (some_is (Yes, bytes) (r, rest) e) (record { parts = refl; rest_fits = IsBytes-rest 1 bytes fits }, tt)
ruling_takes (suc (suc w) ∷ bytes) r rest fits e = absurd (never (r, rest) (sym (ruling_none (suc (suc w)) bytes (omega arith)) ∙ e))

yes_is : (way : ℕ) → way < 2 → yes_byte (way == 1) ≡ way
yes_is zero lt = refl
yes_is (suc zero) lt = refl
yes_is (suc (suc w)) lt = absurd (omega (arith, lt))

yes_takes : (bytes : List ℕ) (agreed : Bool) (rest : List ℕ) → IsBytes bytes → yes_at bytes ≡ Some (agreed, rest) → Takes bytes (yes_byte agreed ∷ []) rest
unfolding yes_at
yes_takes bytes agreed rest fits e =
    let way = came _ (tested_at w8 (λ n. nat_lt n 2) bytes) (agreed, rest) e in
    let t = tested_takes w8 (λ n. nat_lt n 2) bytes way.0.0 way.0.1 way.1 in
    let test : nat_lt way.0.0 2 ≡ true = t.1 in
    let small : way.0.0 < 2 = grind (arith, nat_tests) in
    let a : Takes bytes (way.0.0 ∷ []) way.0.1 = (byte_takes bytes way.0.0 way.0.1 fits t.0).0 in
    let b : Takes bytes (yes_byte (way.0.0 == 1) ∷ []) way.0.1 = subst (λ (k : ℕ). Takes bytes (k ∷ []) way.0.1) (sym (yes_is way.0.0 small)) a in
    subst (λ (x : Bool × List ℕ). Takes bytes (yes_byte x.0 ∷ []) x.1) (some_is (way.0.0 == 1, way.0.1) (agreed, rest) way.2) b

verdict_takes : (bytes : List ℕ) (r : Record2) (rest : List ℕ) → IsBytes bytes → verdict_at bytes ≡ Some (r, rest) → Takes (2 ∷ bytes) (spelling2 r) rest × Fits2 r
unfolding verdict_at
verdict_takes bytes r rest fits e =
    let n = came _ (count_at bytes) (r, rest) e in
    let ruling = came _ (ruling_at n.0.1) (r, rest) n.2 in
    let a = count_takes bytes n.0.0 n.0.1 fits n.1 in
    let b = ruling_takes n.0.1 ruling.0.0 ruling.0.1 a.0.rest_fits ruling.1 in
    let t : Takes bytes (number n.0.0 ++ ruling_bytes ruling.0.0) ruling.0.1 = Takes-then bytes (number n.0.0) n.0.1 (ruling_bytes ruling.0.0) ruling.0.1 a.0 b.0 in
    subst (λ (x : Record2 × List ℕ). Takes (2 ∷ bytes) (spelling2 x.0) x.1 × Fits2 x.0) (some_is (Verdict n.0.0 ruling.0.0, ruling.0.1) (r, rest) ruling.2) (Takes-kind 2 _ _ _ t, (a.1, b.1))

ended_takes : (bytes : List ℕ) (r : Record2) (rest : List ℕ) → IsBytes bytes → ended_at bytes ≡ Some (r, rest) → Takes (4 ∷ bytes) (spelling2 r) rest × Fits2 r
unfolding ended_at
ended_takes bytes r rest fits e =
    let n = came _ (count_at bytes) (r, rest) e in
    let agreed = came _ (yes_at n.0.1) (r, rest) n.2 in
    let a = count_takes bytes n.0.0 n.0.1 fits n.1 in
    let b = yes_takes n.0.1 agreed.0.0 agreed.0.1 a.0.rest_fits agreed.1 in
    let t : Takes bytes (number n.0.0 ++ yes_byte agreed.0.0 ∷ []) agreed.0.1 = Takes-then bytes (number n.0.0) n.0.1 (yes_byte agreed.0.0 ∷ []) agreed.0.1 a.0 b in
    subst (λ (x : Record2 × List ℕ). Takes (4 ∷ bytes) (spelling2 x.0) x.1 × Fits2 x.0) (some_is (Ended n.0.0 agreed.0.0, agreed.0.1) (r, rest) agreed.2) (Takes-kind 4 _ _ _ t, a.1)

-- a record that has a move alone
mapped : {A B : Type 0} (f : A → B) (o : Option (A × List ℕ)) (y : B) (rest : List ℕ) → option_map {U = B × List ℕ} (λ (x : A × List ℕ). (f x.0, x.1)) o ≡ Some (y, rest) → (x : A) × (o ≡ Some (x, rest)) × (f x ≡ y)
mapped f None y rest e = absurd cc
mapped {A = A} f (Some x) y rest e =
    let is = some_is (f x.0, x.1) (y, rest) e in
    (x.0, ap (λ (l : List ℕ). some (x.0, l)) (ap (λ z. z.1) is), ap (λ z. z.0) is)

record_none : (kind : ℕ) (bytes : List ℕ) → 5 ≤ kind → record2_at (kind ∷ bytes) ≡ None
unfolding record2_at
record_none kind bytes le =
    let t1 : (kind == 1) ≡ false = grind (arith, nat_tests) in
    let t2 : (kind == 2) ≡ false = grind (arith, nat_tests) in
    let t3 : (kind == 3) ≡ false = grind (arith, nat_tests) in
    let t4 : (kind == 4) ≡ false = grind (arith, nat_tests) in
    rw (t1, t2, t3, t4) refl

pub record2_takes : (bytes : List ℕ) (r : Record2) (rest : List ℕ) → IsBytes bytes → record2_at bytes ≡ Some (r, rest) → Takes bytes (spelling2 r) rest × Fits2 r
unfolding record2_at
record2_takes [] r rest fits e = absurd cc
record2_takes (zero ∷ bytes) r rest fits e = absurd cc
record2_takes (suc zero ∷ bytes) r rest fits e =
    let m = mapped Begun (move_at bytes) r rest e in
    let t = move_takes bytes m.0 rest (IsBytes-rest 1 bytes fits) m.1 in
    subst (λ (x : Record2). Takes (1 ∷ bytes) (spelling2 x) rest × Fits2 x) m.2 (Takes-kind 1 _ _ _ t.0, t.1)
record2_takes (suc (suc zero) ∷ bytes) r rest fits e = verdict_takes bytes r rest (IsBytes-rest 2 bytes fits) e
record2_takes (suc (suc (suc zero)) ∷ bytes) r rest fits e =
    let m = mapped Ready (move_at bytes) r rest e in
    let t = move_takes bytes m.0 rest (IsBytes-rest 3 bytes fits) m.1 in
    subst (λ (x : Record2). Takes (3 ∷ bytes) (spelling2 x) rest × Fits2 x) m.2 (Takes-kind 3 _ _ _ t.0, t.1)
record2_takes (suc (suc (suc (suc zero))) ∷ bytes) r rest fits e = ended_takes bytes r rest (IsBytes-rest 4 bytes fits) e
record2_takes (suc (suc (suc (suc (suc k)))) ∷ bytes) r rest fits e = absurd (never (r, rest) (sym (record_none (suc (suc (suc (suc (suc k))))) bytes (omega arith)) ∙ e))

-- what a reader gives of bytes
pub read_fits : {X : Type 0} (view : X → Record2 × List ℕ) (result : Option X) (bytes : List ℕ) → IsBytes bytes → option_map view result ≡ record2_at bytes → IfSome result (λ x. Fits2 (view x).0)
read_fits view None bytes fits e = tt
read_fits view (Some x) bytes fits e = (record2_takes bytes (view x).0 (view x).1 fits (sym e)).1

pub read_less : {X : Type 0} (view : X → Record2 × List ℕ) (result : Option X) (bytes : List ℕ) → IsBytes bytes → option_map view result ≡ record2_at bytes → IfSome result (λ x. length (view x).1 < length bytes)
read_less view None bytes fits e = tt
read_less view (Some x) bytes fits e =
    let r = (view x).0 in
    let rest = (view x).1 in
    let parts : bytes ≡ spelling2 r ++ rest = (record2_takes bytes r rest fits (sym e)).0.parts in
    omega (arith, ap length parts, length-append (spelling2 r) rest, spelled-some r)
