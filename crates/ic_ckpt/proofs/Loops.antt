-- Reading one item after the other, as a loop does.
use Rattle.std.proofs.Common.{◌≡◌, ℕ, suc, ◌-◌, ◌+◌, ◌≤◌, ◌<◌, Bool, List, [], ◌∷◌, map, Some, refl, sym, ap, ◌∙◌, arith, ℤ}
use Rattle.std.specs.Prelude.{Ok, Err, Option, ◌&&◌, nat_le}
use Rattle.std.specs.Int.{w64}
use Rattle.std.specs.List.{list_all}
use Rattle.std.proofs.lemmas.Bool.{leb-true}
use Rattle.ic_base.specs.declared.limits.TheConstants.{GREATEST_NUMBER}
use Rattle.def_log.specs.Reading.{value_at, time_at}
use Rattle.def_log.proofs.Takes.{tested_takes}
use Rattle.def_state.specs.Image.{many_at}
use Rattle.def_state.specs.ImagePlaces.{Reading, ◌>>=◌, field, items, any}
use Rattle.law_image.proofs.Fields.{goes_on}
use Rattle.law_image.proofs.Items.{value_step}
use Rattle.ic_wire.proofs.Loops.{Repeats}
use Rattle.ic_ckpt.specs.declared.misread.Misread.{Misread}
use Rattle.ic_ckpt.specs.declared.misread.Misread.TheVariants.{Left, Memory}
use Rattle.ic_ckpt.specs.Reads.{Stops}

-- a step that stops, stops all that is behind it
pub stops-bind : {A B : Type 0} (e : Misread) (r : Reading A) (f : A × List ℕ → Reading B) → Stops e r → Stops e (r >>= f)
stops-bind Memory r f h = tt
stops-bind (Left n) (Err rest) f h = h
stops-bind (Left n) (Ok x) f h = absurd cc

-- the next of so many items was read
pub items-next : {A : Type 0} (step : A → List ℕ → Reading A) (count i : ℕ) (a b : A) (bytes rest : List ℕ) (total : Reading A) → i < count → step a bytes ≡ Ok (b, rest) → items step (count - i) a bytes ≡ total → items step (count - (i + 1)) b rest ≡ total
items-next step count i a b bytes rest total lt h so_far =
    let k : count - i ≡ suc (count - (i + 1)) = omega arith in
    sym (goes_on (λ x. items step (count - (i + 1)) x.0 x.1) (step a bytes) (b, rest) h)
    ∙ ap (λ n. items step n a bytes) (sym k)
    ∙ so_far

-- or it wasn't
pub items-stop : {A : Type 0} (step : A → List ℕ → Reading A) (e : Misread) (count i : ℕ) (a : A) (bytes : List ℕ) (total : Reading A) → i < count → Stops e (step a bytes) → items step (count - i) a bytes ≡ total → Stops e total
items-stop step e count i a bytes total lt h so_far =
    let k : count - i ≡ suc (count - (i + 1)) = omega arith in
    let whole : Stops e (items step (suc (count - (i + 1))) a bytes) = stops-bind e (step a bytes) (λ x. items step (count - (i + 1)) x.0 x.1) h in
    rw (← so_far, k) whole

-- or there was none
pub items-done : {A : Type 0} (step : A → List ℕ → Reading A) (count i : ℕ) (a : A) (bytes : List ℕ) (total : Reading A) → count ≤ i → items step (count - i) a bytes ≡ total → total ≡ Ok (a, bytes)
items-done step count i a bytes total le so_far =
    let k : count - i ≡ 0 = omega arith in
    sym so_far ∙ ap (λ n. items step n a bytes) k

pub many-repeats : {A : Type 0} (read : List ℕ → Option (A × List ℕ)) → Repeats read (many_at read)
unfolding many_at
many-repeats read = record { none = λ bytes. refl; more = λ n bytes. refl }

pub value-read : (n : ℕ) (bytes : List ℕ) (x : ℤ) (rest : List ℕ) → field value_at any bytes ≡ Ok (x, rest) → value_step n bytes ≡ Ok (n + 1, rest)
value-read n bytes x rest e = goes_on _ (field value_at any bytes) (x, rest) e

-- a test of what is made of each
pub all_mapped : {A B : Type 0} (p : B → Bool) (f : A → B) (xs : List A) → list_all p (map f xs) ≡ list_all (λ x. p (f x)) xs
all_mapped p f [] = refl
all_mapped p f (x ∷ xs) = ap (λ b. p (f x) && b) (all_mapped p f xs)

-- a number that counts passes no limit
pub time-low : (bytes : List ℕ) (n : ℕ) (rest : List ℕ) → time_at bytes ≡ Some (n, rest) → n ≤ GREATEST_NUMBER
time-low bytes n rest e =
    let t = tested_takes w64 (λ n. nat_le n GREATEST_NUMBER) bytes n rest e in
    leb-true n GREATEST_NUMBER t.1
