use Rattle.std.proofs.Common.{◌∙◌, ap, refl, map, List, arith}
use Rattle.def_state.specs.Outbox.{Held, Outbox}
use Rattle.def_state.specs.Vol.{with_put_mark}
use Rattle.ic_out.specs.Views.{held_of}
use Rattle.ic_out.proofs.Kept.{kept-put, kept-same, held-put}
use Rattle.ic_out.proofs.outbox.Outbox.put_all.Goals as goal

pub invariant_of-self : goal.invariant_of-self
invariant_of-self c =
    let long = c.self.inside.rows.ok.0 in
    let len = c.put_rows.ensures.len in
    kept-same _ _ _ _ _ _ _ _ _ _ c.put_rows.ensures.put refl refl (omega arith) refl (kept-put c.self.inside.rows.items c.self.inside.names.seen c.self.inside.links.seen c.self.inside.first c.self.inside.quiet c.self.invariant)

pub returns-clause-put : goal.returns-clause-put
returns-clause-put c =
    let P : List Held → Outbox = λ hs. record { held = hs; links = c.self.inside.links.seen } in
    let Q : Outbox → Outbox = λ o. record { held = map with_put_mark o.held; links = o.links } in
    ap P (ap (map held_of) c.put_rows.ensures.put ∙ held-put c.self.inside.rows.items) ∙ ap (λ v. Q v.seen) c.self.view_is
