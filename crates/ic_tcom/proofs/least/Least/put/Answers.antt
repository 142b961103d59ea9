use Rattle.std.proofs.Common.{◌≡◌, ◌∙◌, ◌<◌, Bool, true, false, eqb, ap, sym, ℕ, length, get_or, arith, cond, Result, IsOk, is_ok, vec_len}
use Rattle.std.specs.Vec.{vec_capacity}
use Rattle.std.specs.List.{insert}
use Rattle.std.proofs.lemmas.List.{get_or_default}
use Rattle.std.proofs.lemmas.Bool.Decides.{nat_tests}
use Rattle.ic_base.specs.declared.messages.ComId.{ComId}
use Rattle.ic_base.specs.Programs.{same_com}
use Rattle.def_state.specs.Names.{Numbers, put_number}
use Rattle.ic_tcom.specs.Roomy.{Roomy}
use Rattle.ic_tcom.proofs.Numbers.{place_of, put_over, put_between}
use Rattle.ic_tcom.proofs.Rising.{rising_put}
use Rattle.ic_tcom.proofs.least.Least.put.Goals as goal
use Rattle.ic_tcom.proofs.least.Least.put.Goals.{else-place-len-via-then-place-len+else-eq, else-place-len-via-else-place-len}

-- what is read at a place is there whatever stands for what is past the end
read_same : (c : ComId) (xs : Numbers) (p : ℕ) (x d : ComId × ℕ) (b : Bool) → x ≡ get_or xs p x → p < length xs → b ≡ eqb x.0.0 c.0 → same_com c (get_or xs p d).0 ≡ b
read_same c xs p x d b read within is =
    let e : get_or xs p d ≡ x = get_or_default xs p d x within ∙ sym read in
    rw (e, is) (grind (arith, nat_tests))

pub returns-then-eq : goal.returns-then-eq
returns-then-eq c =
    let xs = c.self.inside.numbers.items in
    let is = c.place_of-place.ensures.place ∙ ap (place_of c.args.c) c.deref.ensures.value in
    let within : c.place_of-place.result < length xs = omega arith in
    put_over c.args.c c.args.n xs c.place_of-place.result c.index.result.now is within (read_same c.args.c xs c.place_of-place.result c.index.result.now c.index.result.now true c.index.ensures within c.if-eq.ensures)
    ∙ ap (λ (v : Roomy Numbers). put_number c.args.c c.args.n v.held) c.self.view_is

-- a call that succeeds leaves what it says of success
kept_items : {T E : Type 0} (r : Result T E) (ys xs zs : Numbers) → IsOk r → ys ≡ cond (is_ok r) xs zs → ys ≡ xs
kept_items r ys xs zs ok is = is ∙ ap (λ b. cond b xs zs) ok

-- where none is kept of the Pcom, the number goes between
inserted : (c : goal.After-insert-kept) → c.insert-kept.new.self.items ≡ put_number c.args.c c.args.n c.self.inside.numbers.items
inserted c =
    let xs = c.self.inside.numbers.items in
    let p = c.place_of-place.result in
    let is = c.place_of-place.ensures.place ∙ ap (place_of c.args.c) c.deref.ensures.value in
    let other : (d : ComId × ℕ) → p < length xs → same_com c.args.c (get_or xs p d).0 ≡ false = λ d within. elim c.else-place-len.branch [
      | else-place-len-via-then-place-len+else-eq w ↦ read_same c.args.c xs p w.index.result.now d false w.index.ensures within w.if-eq.ensures
      | else-place-len-via-else-place-len w ↦ absurd (omega (arith, w.if-place-len.false, c.len.ensures))
    ] in
    let room : vec_len c.self.inside.numbers < vec_capacity c.self.inside.numbers = omega (arith, ap (λ (v : Roomy Numbers). v.spare) c.self.view_is, c.requires) in
    kept_items c.insert-kept.result c.insert-kept.new.self.items (insert xs p (c.args.c, c.args.n)) xs (c.insert-kept.ensures.succeeds room) c.insert-kept.ensures.items ∙ put_between c.args.c c.args.n xs p is other

pub invariant_of-self-else-place-len : goal.invariant_of-self-else-place-len
invariant_of-self-else-place-len c = rw (inserted c) (rising_put c.args.c c.args.n c.self.inside.numbers.items c.self.invariant)

pub returns-else-place-len : goal.returns-else-place-len
returns-else-place-len c = inserted c ∙ ap (λ (v : Roomy Numbers). put_number c.args.c c.args.n v.held) c.self.view_is
