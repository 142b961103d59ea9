use Rattle.std.proofs.Common.{◌≡◌, ◌∙◌, ap, arith}
use Rattle.std.specs.Prelude.{slice_set}
use Rattle.std.specs.List.{insert}
use Rattle.std.proofs.lemmas.Grind.{common_steps}
use Rattle.ic_index.specs.declared.sorted.Entry.{Entry}
use Rattle.ic_index.specs.Entries.{is_in_order}
use Rattle.ic_index.proofs.Searching.{put-at_place, put-between, in_order-put}
use Rattle.ic_index.proofs.sorted.Sorted.put.Goals as goal

pub returns-then-is_at-clause-put : goal.returns-then-is_at-clause-put
returns-then-is_at-clause-put g c =
    let f : Entry g.row.T.Denot = record { peer = c.args.peer; k = c.args.k; value = c.args.value } in
    ap (λ v. slice_set v.seen c.place-i.result f) c.self.view_is
    ∙ put-at_place f c.args.self.now.seen c.place-i.result c.place-i.ensures.before (cc)

pub invariant_of-self : goal.invariant_of-self
invariant_of-self g c =
    let f : Entry g.row.T.Denot = record { peer = c.args.peer; k = c.args.k; value = c.args.value } in
    let is = ap (λ v. slice_set v.seen c.place-i.result f) c.self.view_is ∙ put-at_place f c.args.self.now.seen c.place-i.result c.place-i.ensures.before (cc) in
    ap is_in_order is ∙ in_order-put f c.args.self.now.seen c.place-i.ensures.in_order

pub invariant_of-self-else-is_err : goal.invariant_of-self-else-is_err
invariant_of-self-else-is_err g c =
    let f : Entry g.row.T.Denot = record { peer = c.args.peer; k = c.args.k; value = c.args.value } in
    let inserted : c.insert.new.self.items ≡ insert c.self.inside.entries.items c.place-i.result f = grind (arith, common_steps) in
    let is = inserted ∙ ap (λ v. insert v.seen c.place-i.result f) c.self.view_is ∙ put-between f c.args.self.now.seen c.place-i.result c.place-i.ensures.before (cc) in
    ap is_in_order is ∙ in_order-put f c.args.self.now.seen c.place-i.ensures.in_order

pub returns-else-is_err-clause-put : goal.returns-else-is_err-clause-put
returns-else-is_err-clause-put g c =
    let f : Entry g.row.T.Denot = record { peer = c.args.peer; k = c.args.k; value = c.args.value } in
    let inserted : c.insert.new.self.items ≡ insert c.self.inside.entries.items c.place-i.result f = grind (arith, common_steps) in
    inserted
    ∙ ap (λ v. insert v.seen c.place-i.result f) c.self.view_is
    ∙ put-between f c.args.self.now.seen c.place-i.result c.place-i.ensures.before (cc)
