-- Reading one value after the other, as a loop does.
use Rattle.std.proofs.Common.{◌≡◌, ℕ, suc, ◌-◌, ◌+◌, ◌≤◌, ◌<◌, List, [], ◌∷◌, ◌++◌, Option, Some, None, refl, sym, ap, ◌∙◌, append_assoc, arith, ℤ}
use Rattle.std.specs.Prelude.{option_and_then}
use Rattle.std.specs.Int.{w16}
use Rattle.std.proofs.lemmas.List.{append-nil}
use Rattle.def_log.specs.Reading.{number_at, value_at, values_at, writes_at}
use Rattle.ic_wire.specs.declared.unread.Unread.{Unread}
use Rattle.ic_wire.specs.declared.unread.Unread.TheVariants.{Cut, Memory}
use Rattle.ic_wire.specs.Gives.{Fails}
use Rattle.ic_wire.specs.Parts.{write_at}

-- a value, and those behind it
abbrev pub behind : {A : Type 0} → A → Option (List A × List ℕ) → Option (List A × List ℕ)
behind x read = option_and_then (λ xs. Some (x ∷ xs.0, xs.1)) read

-- what was read before, and what is still read
abbrev pub with_front : {A : Type 0} → List A → Option (List A × List ℕ) → Option (List A × List ℕ)
with_front front read = option_and_then (λ xs. Some (front ++ xs.0, xs.1)) read

-- so many of what one step reads
pub record Repeats {A : Type 0} (step : List ℕ → Option (A × List ℕ)) (many : ℕ → List ℕ → Option (List A × List ℕ)) : Type 0 where
  pub none : (bytes : List ℕ) → many 0 bytes ≡ Some ([], bytes)
  pub more : (n : ℕ) (bytes : List ℕ) → many (suc n) bytes ≡ option_and_then (λ x. behind x.0 (many n x.1)) (step bytes)

regroup : {A : Type 0} (front : List A) (x : A) (read : Option (List A × List ℕ)) → with_front front (behind x read) ≡ with_front (front ++ x ∷ []) read
regroup front x (Some xs) = ap (λ (ys : List _). Some (ys, xs.1)) (simp append_assoc)
regroup front x None = refl

pub goes_on : {A : Type 0} {step : List ℕ → Option (A × List ℕ)} {many : ℕ → List ℕ → Option (List A × List ℕ)} → Repeats step many → (front : List A) (count i : ℕ) (bytes : List ℕ) (x : A) (after : List ℕ) (total : Option (List A × List ℕ))
    → i < count → step bytes ≡ Some (x, after) → with_front front (many (count - i) bytes) ≡ total → with_front (front ++ x ∷ []) (many (count - (i + 1)) after) ≡ total
goes_on {A} {step} {many} repeats front count i bytes x after total lt h so_far =
    let k : count - i ≡ suc (count - (i + 1)) = omega arith in
    let one : with_front front (many (count - i) bytes) ≡ with_front (front ++ x ∷ []) (many (count - (i + 1)) after) = rw (k, repeats.more (count - (i + 1)) bytes, h) (regroup front x (many (count - (i + 1)) after)) in
    sym one ∙ so_far

pub ends : {A : Type 0} {step : List ℕ → Option (A × List ℕ)} {many : ℕ → List ℕ → Option (List A × List ℕ)} → Repeats step many → (e : Unread) (front : List A) (count i : ℕ) (bytes : List ℕ) (total : Option (List A × List ℕ))
    → i < count → Fails e (step bytes) → with_front front (many (count - i) bytes) ≡ total → Fails e total
ends repeats Memory front count i bytes total lt h so_far = tt
ends {A} {step} {many} repeats Cut front count i bytes total lt h so_far =
    let k : count - i ≡ suc (count - (i + 1)) = omega arith in
    let one : with_front front (many (count - i) bytes) ≡ None = rw (k, repeats.more (count - (i + 1)) bytes, h) refl in
    sym so_far ∙ one

pub is_done : {A : Type 0} {step : List ℕ → Option (A × List ℕ)} {many : ℕ → List ℕ → Option (List A × List ℕ)} → Repeats step many → (front : List A) (count i : ℕ) (bytes : List ℕ) (total : Option (List A × List ℕ))
    → count ≤ i → with_front front (many (count - i) bytes) ≡ total → total ≡ Some (front, bytes)
is_done {A} {step} {many} repeats front count i bytes total le so_far =
    let k : count - i ≡ 0 = omega arith in
    let one : with_front front (many (count - i) bytes) ≡ Some (front, bytes) = rw (k, repeats.none bytes) (ap (λ (ys : List A). Some (ys, bytes)) (append-nil front)) in
    sym so_far ∙ one

pub values_repeat : Repeats value_at values_at
unfolding values_at
values_repeat = record { none = λ bytes. refl; more = λ n bytes. refl }

split_value : (pair : ℤ → ℕ × ℤ) (read : Option (ℤ × List ℕ)) (g : (ℕ × ℤ) × List ℕ → Option (List (ℕ × ℤ) × List ℕ)) → option_and_then (λ x. g (pair x.0, x.1)) read ≡ option_and_then g (option_and_then (λ x. Some (pair x.0, x.1)) read)
split_value pair None g = refl
split_value pair (Some x) g = refl

split : (key : Option (ℕ × List ℕ)) (f : ℕ × List ℕ → Option (ℤ × List ℕ)) (g : (ℕ × ℤ) × List ℕ → Option (List (ℕ × ℤ) × List ℕ))
    → option_and_then (λ k. option_and_then (λ x. g ((k.0, x.0), x.1)) (f k)) key ≡ option_and_then g (option_and_then (λ k. option_and_then (λ x. Some ((k.0, x.0), x.1)) (f k)) key)
split None f g = refl
split (Some k) f g = split_value (λ x. (k.0, x)) (f k) g

pub writes_repeat : Repeats write_at writes_at
unfolding writes_at write_at
writes_repeat = record { none = λ bytes. refl; more = λ n bytes. split (number_at w16 bytes) (λ k. value_at k.1) (λ x. behind x.0 (writes_at n x.1)) }
