use Rattle.std.proofs.Common.{◌∙◌, ap, sym, subst, arith, length, ◌<◌, List}
use Rattle.std.specs.List.{list_any}
use Rattle.std.proofs.lemmas.List.{length-map}
use Rattle.def_state.specs.Names.{Identity, same_identity}
use Rattle.def_state.specs.Inbox.{Receipt}
use Rattle.ic_index.specs.Alone.{StandsAlone}
use Rattle.ic_index.proofs.Reading.{got-within}
use Rattle.ic_in.specs.Views.{receipt_of, name_of}
use Rattle.ic_in.proofs.Kept.{found-alone, found-none}
use Rattle.ic_in.proofs.inbox.Inbox.find.Goals as goal

pub returns-in_err-i-clause-none : goal.returns-in_err-i-clause-none
returns-in_err-i-clause-none c =
    λ _.
    let x : Identity = record { peer = c.args.from; k = c.args.k } in
    ap (λ v. list_any (λ z. same_identity x z.name) v.seen.receipts) (sym c.self.view_is)
    ∙ found-none c.self.inside.rows.items c.self.inside.names.seen x c.position.result c.self.invariant.named c.in_err-i.was c.position.ensures.once

pub index-requires : goal.index-requires
index-requires c =
    let x : Identity = record { peer = c.args.from; k = c.args.k } in
    let within = got-within c.self.inside.names.seen c.in_ok-i.i x c.in_ok-i.ensures.found in
    let same = ap length c.self.invariant.named in
    let long = c.self.inside.rows.ok.0 in
    omega (arith, length-map c.self.inside.rows.items name_of)

pub returns-clause-found : goal.returns-clause-found
returns-clause-found c =
    let x : Identity = record { peer = c.args.from; k = c.args.k } in
    let within = got-within c.self.inside.names.seen c.in_ok-i.i x c.in_ok-i.ensures.found in
    let same = ap length c.self.invariant.named in
    let bound : c.in_ok-i.i < length c.self.inside.rows.items = omega (arith, length-map c.self.inside.rows.items name_of) in
    let alone = found-alone c.self.inside.rows.items c.self.inside.names.seen x c.in_ok-i.i c.index.result.now c.self.invariant.named c.in_ok-i.ensures.found c.in_ok-i.ensures.once bound c.index.ensures in
    let P : List Receipt → Type 0 = λ rs. StandsAlone (λ z. same_identity x z.name) rs c.in_ok-i.i (receipt_of c.index.result.now) in
    subst P (ap (λ v. v.seen.receipts) c.self.view_is) alone
