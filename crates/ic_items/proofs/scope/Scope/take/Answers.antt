use Rattle.std.proofs.Common.{◌∙◌, List, ap, reverse}
use Rattle.def_syntax.specs.Scope.{Frame, Scope, is_twice, passes}
use Rattle.ic_items.specs.Views.{item_seen, move_seen, without_frames}
use Rattle.ic_items.proofs.Limits.{passes_without}
use Rattle.ic_items.proofs.New.{new_behind}
use Rattle.ic_items.proofs.scope.Scope.take.Goals as goal

pub note-requires-clause-new : goal.note-requires-clause-new
note-requires-clause-new c =
    let s : Scope = record { components = reverse c.self.inside.components; frames = c.self.inside.frames; params = c.self.inside.params; statements = c.self.inside.statements; gets = c.self.inside.gets; tcom = c.self.inside.tcom } in
    ap (λ (fs : List Frame). is_twice (record s { frames = fs }) (item_seen c.args.item)) c.in_ok-go.ensures.ok
    ∙ new_behind (move_seen c.args.to) s (item_seen c.args.item) (ap (λ (x : Scope). is_twice x (item_seen c.args.item)) c.self.view_is ∙ c.requires.new)

pub note-requires-clause-within : goal.note-requires-clause-within
note-requires-clause-within c =
    ap (λ (s : Scope). passes (without_frames s) (item_seen c.args.item)) c.self.view_is ∙ passes_without c.args.self.now (item_seen c.args.item) c.requires.within
