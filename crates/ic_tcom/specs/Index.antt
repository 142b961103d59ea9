-- The stamps of decisions by Pcom and number.
use Rattle.std.specs.Prelude.{◌≡◌, ℕ, ◌==◌, ◌&&◌, Bool, List, find, option_map}
use Rattle.std.specs.HashMap.{HashMap, get}
use Rattle.def_step.specs.Tcom.{Verdict, is_of}

abbrev pub same_key : ℕ × ℕ → ℕ × ℕ → Bool
same_key x y = (x.0 == y.0) && (x.1 == y.1)

-- a look-up answers the stamp of the decision on that transaction
abbrev pub IsIndexOf : {S : Type 0} → HashMap (ℕ × ℕ) ℕ S → List Verdict → Type 0
IsIndexOf stamps verdicts = (c n : ℕ) → get same_key stamps (c, n) ≡ option_map (λ v. v.stamp) (find (is_of (record { 0 = c }) n) verdicts)
