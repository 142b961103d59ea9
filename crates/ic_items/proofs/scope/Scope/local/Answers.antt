use Rattle.std.proofs.Common.{◌≡◌, ◌+◌, ◌∙◌, ◌∷◌, List, ap, sym, drop}
use Rattle.def_syntax.specs.Text.{look_up}
use Rattle.def_syntax.specs.Scope.{Frame, Scope}
use Rattle.ic_items.proofs.Lists.{local_here, local_behind}
use Rattle.ic_items.proofs.scope.Scope.local.Goals as goal

pub returns-then-is_some : goal.returns-then-is_some
returns-then-is_some c =
    let fs = c.args.self.now.frames in
    let v : c.self.inside.frames ≡ fs = ap (λ (s : Scope). s.frames) c.self.view_is in
    let e : drop c.loop-i.i fs ≡ c.at.result.now ∷ drop (c.loop-i.i + 1) fs = ap (drop c.loop-i.i) (sym v) ∙ c.at.ensures ∙ ap (λ (g : List Frame). c.at.result.now ∷ drop (c.loop-i.i + 1) g) v in
    let h : look_up c.args.name.now c.at.result.now.locals ≡ c.local-found.result = c.local-found.ensures in
    sym c.loop-i.invariant ∙ local_here c.args.name.now c.at.result.now (drop (c.loop-i.i + 1) fs) (drop c.loop-i.i fs) c.local-found.result e h (sym c.is_some.ensures ∙ c.if-is_some.true)

pub loop-i-preserved : goal.loop-i-preserved
loop-i-preserved c =
    let fs = c.args.self.now.frames in
    let v : c.self.inside.frames ≡ fs = ap (λ (s : Scope). s.frames) c.self.view_is in
    let e : drop c.loop-i.i fs ≡ c.at.result.now ∷ drop (c.loop-i.i + 1) fs = ap (drop c.loop-i.i) (sym v) ∙ c.at.ensures ∙ ap (λ (g : List Frame). c.at.result.now ∷ drop (c.loop-i.i + 1) g) v in
    let h : look_up c.args.name.now c.at.result.now.locals ≡ c.local-found.result = c.local-found.ensures in
    local_behind c.args.name.now c.at.result.now (drop (c.loop-i.i + 1) fs) (drop c.loop-i.i fs) c.local-found.result e h (sym c.is_some.ensures ∙ c.if-is_some.false) ∙ c.loop-i.invariant
