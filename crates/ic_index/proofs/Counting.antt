-- Numbers behind one that is put.
use Rattle.std.proofs.Common.{◌≡◌, ℕ, ◌≤◌, false, [], ◌∷◌, arith}
use Rattle.std.proofs.lemmas.Bool.Decides.{nat_tests}
use Rattle.ic_base.specs.declared.messages.ComId.{ComId}
use Rattle.ic_base.specs.Programs.{same_com}
use Rattle.def_state.specs.Names.{Numbers, number_of, put_number}

pub number-put_same : (c : ComId) (n : ℕ) (xs : Numbers) → number_of 0 (put_number c n xs) c ≡ n
number-put_same c n [] = grind (arith, nat_tests)
number-put_same c n (x ∷ xs) = grind (arith, nat_tests, number-put_same c n xs)

pub number-put_other : (c d : ComId) (n : ℕ) (xs : Numbers) → same_com d c ≡ false → number_of 0 (put_number c n xs) d ≡ number_of 0 xs d
number-put_other c d n [] o = grind (arith, nat_tests)
number-put_other c d n (x ∷ xs) o = grind (arith, nat_tests, number-put_other c d n xs o)

-- a number above the one that was kept leaves none below
pub number-put_grows : (c d : ComId) (n : ℕ) (xs : Numbers) → number_of 0 xs c ≤ n → number_of 0 xs d ≤ number_of 0 (put_number c n xs) d
number-put_grows c d n [] h = grind (arith, nat_tests)
number-put_grows c d n (x ∷ xs) h = grind (arith, nat_tests, number-put_grows c d n xs)
