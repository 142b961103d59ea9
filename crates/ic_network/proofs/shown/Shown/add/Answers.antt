use Rattle.std.proofs.Common.{◌≡◌, ◌∙◌, ap, sym, true, false, cond}
use Rattle.std.specs.Prelude.{is_err, OnOk, Ok, Err, Result}
use Rattle.std.specs.List.{list_any}
use Rattle.def_step.specs.World.{same_showing}
use Rattle.ic_network.specs.Showings.{same_key}
use Rattle.ic_network.proofs.Showing.{any-added}
use Rattle.ic_network.proofs.shown.Shown.add.Goals as goal

on-ok : {A E : Type 0} {P : Type 0} (r : Result A E) → is_err r ≡ false → OnOk r P → P
on-ok (Ok x) e p = p
on-ok (Err x) e p = absurd (cc)

pub invariant_of-self : goal.invariant_of-self
invariant_of-self c =
    let updates = on-ok c.insert.result (sym (c.if-is_err.ensures {u = tt}).value) c.insert.ensures.updates in
    λ d m.
    updates.0 (d.0, m)
    ∙ ap (cond (same_key (c.args.from.0, c.args.output.m) (d.0, m)) true) (c.self.invariant d m)
    ∙ any-added c.self.inside.list.items c.args.from c.args.output d m
    ∙ ap (list_any (same_showing d m)) (sym c.push_reserved.ensures.items)
