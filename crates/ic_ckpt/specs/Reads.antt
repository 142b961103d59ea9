-- What a reader of an image answers: what reading comes to, unless memory ran out.
use Rattle.std.specs.Prelude.{◌≡◌, ℕ, List, length, Option, Some, None, Result, Ok, Err}
use Rattle.def_state.specs.ImagePlaces.{Reading}
use Rattle.ic_ckpt.specs.declared.misread.Misread.{Misread}
use Rattle.ic_ckpt.specs.declared.misread.Misread.TheVariants.{Left, Memory}

-- how many bytes are left where a field doesn't fit
abbrev pub left : {A : Type 0} → Reading A → Option ℕ
left (Ok x) = None
left (Err rest) = Some (length rest)

abbrev pub Stops : {A : Type 0} → Misread → Reading A → Type 0
Stops (Left n) reading = left reading ≡ Some n
Stops Memory reading = Unit {0}

-- a reader that answers gives what reading comes to
abbrev pub Reads : {X A : Type 0} → (X → A × List ℕ) → Result X Misread → Reading A → Type 0
Reads view (Ok x) reading = reading ≡ Ok (view x)
Reads view (Err e) reading = Stops e reading

-- a reader that answers stands where reading comes to, whatever that gives
abbrev pub Passes : {X A : Type 0} → (X → List ℕ) → Result X Misread → Reading A → Type 0
Passes {X} {A} rest (Ok x) reading = (a : A) × (reading ≡ Ok (a, rest x))
Passes rest (Err e) reading = Stops e reading
