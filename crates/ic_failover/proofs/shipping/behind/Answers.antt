use Rattle.std.proofs.Common.{◌∙◌, ap, arith, ◌≡◌, ◌-◌, min, length, drop}
use Rattle.std.proofs.lemmas.List.{take_all, length-drop}
use Rattle.ic_failover.proofs.Shipped.{drop_min}
use Rattle.ic_failover.proofs.shipping.behind.Goals as goal

pub returns : goal.returns
returns c =
    let rs = c.args.records.now in
    let m = c.min.result in
    let place : m ≡ min (length rs) c.args.have = grind (arith, c.min.ensures) in
    take_all (length rs - m) (drop m rs) (omega (arith, length-drop m rs)) ∙ ap (λ n. drop n rs) place ∙ drop_min rs c.args.have
