use Rattle.std.proofs.Common.{◌∙◌, ◌<◌, length, arith, ap, sym, rules, Option, Some, None, IsSome, OnSome}
use Rattle.std.proofs.lemmas.List.Sorted.{answers_always}
use Rattle.def_state.specs.Shelf as state
use Rattle.ic_edge.specs.RoomyShelf.{RoomyShelf}
use Rattle.def_state.specs.Shelf.{Waiting}
use Rattle.ic_edge.proofs.Waitings.{number_of, shelf_of, shown_found, shown_missed}
use Rattle.ic_edge.proofs.shelf.Shelf.shown.Goals as goal

-- what is said of a value that is there
there : (r : Option Waiting) (P : Type 0) → IsSome r → OnSome r P → P
there None P some p = absurd (search rules)
there (Some w) P some p = p

pub returns-in-Ok-clause-was_there : goal.returns-in-Ok-clause-was_there
returns-in-Ok-clause-was_there c =
    let at = c.in-Ok.ensures.position number_of (answers_always _ _ _ (λ f a r g called. search rules)) in
    let within : c.in-Ok.place < length c.self.inside.waiting.items = omega (arith, c.in-Ok.ensures.bound, c.self.inside.waiting.ok.0) in
    (shown_found c.self.inside.waiting.items c.self.invariant.0 c.self.inside.made c.args.m c.in-Ok.place within at).0
    ∙ ap (λ (v : RoomyShelf). state.is_waiting v.shelf c.args.m) c.self.view_is

pub returns-in-Ok-clause-taken_off : goal.returns-in-Ok-clause-taken_off
returns-in-Ok-clause-taken_off c =
    let at = c.in-Ok.ensures.position number_of (answers_always _ _ _ (λ f a r g called. search rules)) in
    let within : c.in-Ok.place < length c.self.inside.waiting.items = omega (arith, c.in-Ok.ensures.bound, c.self.inside.waiting.ok.0) in
    ap (λ ws. shelf_of ws c.self.inside.made) (there c.remove-shown.result _ (c.remove-shown.ensures.variant.1 c.in-Ok.ensures.bound) c.remove-shown.ensures.items)
    ∙ (shown_found c.self.inside.waiting.items c.self.invariant.0 c.self.inside.made c.args.m c.in-Ok.place within at).1
    ∙ ap (λ (v : RoomyShelf). state.shown v.shelf c.args.m) c.self.view_is

pub returns-in-Err-clause-was_there : goal.returns-in-Err-clause-was_there
returns-in-Err-clause-was_there c =
    let at = c.in-Err.ensures.position number_of (answers_always _ _ _ (λ f a r g called. search rules)) in
    (shown_missed c.self.inside.waiting.items c.self.invariant.0 c.self.inside.made c.args.m _ at).0
    ∙ ap (λ (v : RoomyShelf). state.is_waiting v.shelf c.args.m) c.self.view_is

pub returns-in-Err-clause-taken_off : goal.returns-in-Err-clause-taken_off
returns-in-Err-clause-taken_off c =
    let at = c.in-Err.ensures.position number_of (answers_always _ _ _ (λ f a r g called. search rules)) in
    sym (ap (λ (v : RoomyShelf). v.shelf) c.self.view_is) ∙
    (shown_missed c.self.inside.waiting.items c.self.invariant.0 c.self.inside.made c.args.m _ at).1
    ∙ ap (λ (v : RoomyShelf). state.shown v.shelf c.args.m) c.self.view_is
