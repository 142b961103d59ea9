-- The order of identities.
use Rattle.std.proofs.Common.{◌≡◌, ◌∙◌, ap, ℕ, true, false, arith}
use Rattle.std.proofs.lemmas.Bool.Decides.{nat_tests}
use Rattle.ic_base.specs.declared.messages.ComId.{ComId}
use Rattle.def_state.specs.Names.{Identity, same_identity}
use Rattle.def_state.specs.Inbox.{comes_before}

pub before-other : (x y : Identity) → comes_before y x ≡ true → same_identity x y ≡ false
before-other x y h = grind (arith, nat_tests)

pub behind-other : (x y : Identity) → comes_before y x ≡ true → same_identity y x ≡ false
behind-other x y h = grind (arith, nat_tests)

pub before-not_back : (x y : Identity) → comes_before y x ≡ true → comes_before x y ≡ false
before-not_back x y h = grind (arith, nat_tests)

pub before-else : (x y : Identity) → comes_before y x ≡ false → same_identity x y ≡ false → comes_before x y ≡ true
before-else x y h g = grind (arith, nat_tests)

pub before-trans : (x y z : Identity) → comes_before x y ≡ true → comes_before y z ≡ true → comes_before x z ≡ true
before-trans x y z h g = grind (arith, nat_tests)

pub same-refl : (x : Identity) → same_identity x x ≡ true
same-refl x = grind (arith, nat_tests)

pub same-sym : (x y : Identity) → same_identity x y ≡ true → same_identity y x ≡ true
same-sym x y h = grind (arith, nat_tests)

pub other-sym : (x y : Identity) → same_identity x y ≡ false → same_identity y x ≡ false
other-sym x y h = grind (arith, nat_tests)

same-parts : (x y : Identity) → same_identity x y ≡ true → (x.peer.0 ≡ y.peer.0) × (x.k ≡ y.k)
same-parts x y h = grind (arith, nat_tests)

pub same-is : (x y : Identity) → same_identity x y ≡ true → x ≡ y
same-is x y h =
    let parts = same-parts x y h in
    let peers : x.peer ≡ y.peer = ap (λ n. record { 0 = n }) parts.0 in
    let P : ComId → Identity = λ c. record { peer = c; k = x.k } in
    let K : ℕ → Identity = λ k. record { peer = y.peer; k = k } in
    ap P peers ∙ ap K parts.1
