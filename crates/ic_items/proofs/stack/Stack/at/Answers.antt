use Rattle.std.proofs.Common.{◌≡◌, ◌-◌, ◌<◌, ◌∙◌, ap, arith, get_or, length, reverse}
use Rattle.std.proofs.lemmas.List.{length-reverse}
use Rattle.ic_items.proofs.Lists.{at_latest}
use Rattle.ic_items.proofs.stack.Stack.at.Goals as goal

pub returns : goal.returns
returns g c =
    let xs = c.self.inside.items.items in
    let v : reverse xs ≡ c.args.self.now = c.self.view_is in
    let n : c.args.i < length xs = omega (arith, ap length v, length-reverse xs) in
    let k : c.len.result ≡ length xs = omega (arith, c.len.ensures) in
    let e : c.index.result.now ≡ get_or xs (length xs - 1 - c.args.i) c.index.result.now = c.index.ensures ∙ ap (λ k. get_or xs (k - 1 - c.args.i) c.index.result.now) k in
    let h = at_latest xs c.args.i c.index.result.now n in cc
