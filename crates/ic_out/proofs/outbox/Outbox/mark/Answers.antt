use Rattle.std.proofs.Common.{◌∙◌, ap, sym, subst, List}
use Rattle.std.specs.Prelude.{slice_get, slice_set}
use Rattle.std.proofs.lemmas.List.{map-set}
use Rattle.def_state.specs.Outbox.{Held, Outbox}
use Rattle.ic_out.specs.Views.{held_of, IsMarked}
use Rattle.ic_out.proofs.Finding.{kept-marked}
use Rattle.ic_out.proofs.outbox.Outbox.mark.Goals as goal

pub invariant_of-self : goal.invariant_of-self
invariant_of-self c =
    let P : List Held → Type 0 = λ hs. IsMarked (slice_get hs c.args.i) (held_of c.args.row) in
    let marked = subst P (ap (λ v. v.seen.held) (sym c.self.view_is)) c.requires in
    kept-marked c.self.inside.rows.items c.self.inside.names.seen c.self.inside.links.seen c.self.inside.first c.self.inside.quiet c.args.i c.args.row c.self.invariant marked

pub returns-clause-marked : goal.returns-clause-marked
returns-clause-marked c =
    let P : List Held → Outbox = λ hs. record { held = hs; links = c.self.inside.links.seen } in
    let Q : Outbox → Outbox = λ o. record { held = slice_set o.held c.args.i (held_of c.args.row); links = o.links } in
    ap P (map-set held_of c.self.inside.rows.items c.args.i c.args.row) ∙ ap (λ v. Q v.seen) c.self.view_is
