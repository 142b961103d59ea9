-- Which sessions a Tcom has at all.
use Rattle.std.specs.Prelude.{◌≡◌, ◌<◌, ◌≤◌, false, List, All}
use Rattle.std.specs.List.{AllPairs}
use Rattle.ic_base.specs.Programs.{same_com}
use Rattle.def_state.specs.Names.{Numbers, number_of}
use Rattle.def_step.specs.Tcom.{Sitting}

-- no two sessions are of one Pcom
abbrev pub AreOneEach : List Sitting → Type 0
AreOneEach ss = AllPairs (λ r s. same_com r.peer s.peer ≡ false) ss

-- no session serves a number above the least that is served of its Pcom
abbrev pub AreServed : Numbers → List Sitting → Type 0
AreServed least ss = All (λ s. s.n ≤ number_of 1 least s.peer) ss

-- numbers stand in the order of their components, one for each
abbrev pub AreInOrder : Numbers → Type 0
AreInOrder xs = AllPairs (λ x y. x.0.0 < y.0.0) xs
