use Rattle.std.proofs.Common.{◌≡◌, ◌∙◌, ap, sym, subst, cond, [], ◌∷◌, ◌++◌, map, None, Some}
use Rattle.std.specs.List.{AllByRecursion}
use Rattle.std.specs.Map.{lookup}
use Rattle.std.proofs.lemmas.List.{map-append}
use Rattle.indexmap.proofs.CallerLemmas.{insert_entry-new}
use Rattle.def_client.specs.Fronts.{Front, Taken, Request, taken_under}
use Rattle.ic_client.specs.Fronts.{same, taken_of, numbers_in, IsNumbered}
use Rattle.ic_client.specs.declared.front.Numbers.{Numbers}
use Rattle.ic_client.specs.declared.front.Row.{Row}
use Rattle.ic_client.proofs.Kept.{found-taken, inserted-numbered, some-numbered, none-numbered, who-numbered, own-numbered, not-found}
use Rattle.ic_client.proofs.front.Front.take.Goals as goal

pub returns-in_default : goal.returns-in_default
returns-in_default c =
    let front : Front = c.args.self.now.taken in
    let r : Request = record { who = c.args.c; handler = c.args.handler; args = c.args.args } in
    sym (ap (λ b. cond b (front ++ record { request = r; reply = None } ∷ []) front) (none-numbered c.args.c c.args.args (sym (c.in_default.ensures {u = tt}))))

pub invariant_of-self : goal.invariant_of-self
invariant_of-self c =
    let numbers : numbers_in c.args.c c.args.args ≡ Some c.in-Some.numbers = sym c.numbers_of.ensures ∙ c.in-Some.is in
    let row : Row = record { handler = c.args.handler; args = c.args.args; reply = None } in
    let es = c.self.inside.taken.entries in
    let put = c.in-Ok.ensures {u = tt} in
    (subst (λ l. AllByRecursion IsNumbered l) (sym put.entries) (inserted-numbered c.in-Some.numbers row es (own-numbered c.args.c c.in-Some.numbers row numbers) c.self.invariant.0), put.unique)

pub returns : goal.returns
returns c =
    let numbers : numbers_in c.args.c c.args.args ≡ Some c.in-Some.numbers = sym c.numbers_of.ensures ∙ c.in-Some.is in
    let n : Numbers = c.in-Some.numbers in
    let row : Row = record { handler = c.args.handler; args = c.args.args; reply = None } in
    let m = c.self.inside.taken in
    let put = c.in-Ok.ensures {u = tt} in
    let front : Front = c.args.self.now.taken in
    let r : Request = record { who = c.args.c; handler = c.args.handler; args = c.args.args } in
    let view : front ≡ map taken_of m.entries = sym (ap (λ v. v.taken) c.self.view_is) in
    let none : lookup (same n) m.entries ≡ None = not-found (λ (x : Row). taken_of (n, x)) (lookup (same n) m.entries) (sym (found-taken c.args.c c.args.args n numbers m.entries c.self.invariant.0) ∙ ap (λ (f : Front). taken_under f c.args.c c.args.args) (sym view) ∙ c.requires.new) in
    let own : taken_of (n, row) ≡ record { request = r; reply = None } = ap (λ w. record { request = record { who = record { 0 = w }; handler = c.args.handler; args = c.args.args }; reply = None }) (who-numbered c.args.c c.args.args n numbers) in
    ap (map taken_of) (put.entries ∙ insert_entry-new same m n row none)
    ∙ map-append taken_of m.entries ((n, row) ∷ [])
    ∙ ap (λ (t : Taken). map taken_of m.entries ++ t ∷ []) own
    ∙ ap (λ (l : Front). l ++ record { request = r; reply = None } ∷ []) (sym view)
    ∙ sym (ap (λ b. cond b (front ++ record { request = r; reply = None } ∷ []) front) (some-numbered c.args.c c.args.args n numbers))
