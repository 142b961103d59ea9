use Rattle.std.proofs.Common.{◌≡◌, ◌∙◌, ap, sym, subst, map, None, Some}
use Rattle.std.specs.List.{AllByRecursion}
use Rattle.std.specs.Map.{lookup}
use Rattle.ic_base.specs.declared.messages.Output.{Output}
use Rattle.def_client.specs.Fronts.{Front, replies_to}
use Rattle.ic_client.specs.Fronts.{same, taken_of, numbers_in, IsNumbered}
use Rattle.ic_client.specs.declared.front.Numbers.{Numbers}
use Rattle.ic_client.specs.declared.front.Row.{Row}
use Rattle.ic_client.proofs.Kept.{none-shows, absent-stays, replied-stays, reply-kept, inserted-numbered, found-numbered}
use Rattle.ic_client.proofs.front.Front.show.Goals as goal

pub returns-in_default : goal.returns-in_default
returns-in_default c = sym (none-shows c.args.c c.args.output.now c.args.self.now.taken (sym (c.in_default.ensures {u = tt})))

pub returns-in_default-copied : goal.returns-in_default-copied
returns-in_default-copied c =
    let n : Numbers = c.in-Some.numbers in
    let o : Output = c.args.output.now in
    let numbers : numbers_in c.args.c o.args ≡ Some n = sym c.numbers_of.ensures ∙ c.in-Some.is in
    let es = c.self.inside.taken.entries in
    let view : c.args.self.now.taken ≡ map taken_of es = sym (ap (λ v. v.taken) c.self.view_is) in
    let none : lookup (same n) es ≡ None = sym c.get.ensures.value ∙ sym c.copied.ensures ∙ c.in_default-copied.is in
    view ∙ sym (absent-stays c.args.c o n numbers es c.self.invariant.0 none) ∙ ap (λ (l : Front). map (replies_to c.args.c o) l) (sym view)

pub returns-then-is_some : goal.returns-then-is_some
returns-then-is_some c =
    let n : Numbers = c.in-Some.numbers in
    let o : Output = c.args.output.now in
    let numbers : numbers_in c.args.c o.args ≡ Some n = sym c.numbers_of.ensures ∙ c.in-Some.is in
    let es = c.self.inside.taken.entries in
    let view : c.args.self.now.taken ≡ map taken_of es = sym (ap (λ v. v.taken) c.self.view_is) in
    let some : lookup (same n) es ≡ Some c.in-Some-copied.row = sym c.get.ensures.value ∙ sym c.copied.ensures ∙ c.in-Some-copied.is in
    view ∙ sym (replied-stays c.args.c o n numbers c.in-Some-copied.row es c.self.invariant.0 c.self.invariant.1 some (sym c.is_some.ensures ∙ c.if-is_some.true)) ∙ ap (λ (l : Front). map (replies_to c.args.c o) l) (sym view)

pub invariant_of-self : goal.invariant_of-self
invariant_of-self c =
    let n : Numbers = c.in-Some.numbers in
    let o : Output = c.args.output.now in
    let numbers : numbers_in c.args.c o.args ≡ Some n = sym c.numbers_of.ensures ∙ c.in-Some.is in
    let row : Row = record c.in-Some-copied.row { reply = Some (o.m, o.args) } in
    let es = c.self.inside.taken.entries in
    let some : lookup (same n) es ≡ Some c.in-Some-copied.row = sym c.get.ensures.value ∙ sym c.copied.ensures ∙ c.in-Some-copied.is in
    let put = c.in-Ok.ensures {u = tt} in
    (subst (λ l. AllByRecursion IsNumbered l) (sym put.entries) (inserted-numbered n row es (found-numbered n c.in-Some-copied.row es c.self.invariant.0 some) c.self.invariant.0), put.unique)

pub returns : goal.returns
returns c =
    let n : Numbers = c.in-Some.numbers in
    let o : Output = c.args.output.now in
    let numbers : numbers_in c.args.c o.args ≡ Some n = sym c.numbers_of.ensures ∙ c.in-Some.is in
    let es = c.self.inside.taken.entries in
    let view : c.args.self.now.taken ≡ map taken_of es = sym (ap (λ v. v.taken) c.self.view_is) in
    let some : lookup (same n) es ≡ Some c.in-Some-copied.row = sym c.get.ensures.value ∙ sym c.copied.ensures ∙ c.in-Some-copied.is in
    ap (map taken_of) (c.in-Ok.ensures {u = tt}).entries
    ∙ reply-kept c.args.c o n numbers c.in-Some-copied.row es c.self.invariant.0 c.self.invariant.1 some (sym c.is_some.ensures ∙ c.if-is_some.false)
    ∙ ap (λ (l : Front). map (replies_to c.args.c o) l) (sym view)
