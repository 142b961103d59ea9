use Rattle.std.proofs.Common.{◌≡◌, ◌∙◌, ap, sym, subst, arith, ◌+◌, ◌<◌, false}
use Rattle.std.specs.List.{list_any}
use Rattle.def_state.specs.Names.{Identity, Numbers, number_of, same_identity, put_number}
use Rattle.def_state.specs.Inbox.{insert_identity}
use Rattle.ic_index.specs.declared.sorted.Entry.{Entry}
use Rattle.ic_index.specs.Entries.{put_entry}
use Rattle.ic_in.specs.Taken.{taken_of, IsTaken}
use Rattle.ic_in.proofs.Absorbing.{Above}
use Rattle.ic_in.proofs.Recorded.{taken-is, recorded-not}
use Rattle.ic_in.proofs.Taking.{recorded-above, taken-above, recorded-bound, taken-bound, inserted}
use Rattle.ic_in.proofs.taken.Taken.insert.Goals as goal

pub invariant_of-self : goal.invariant_of-self
invariant_of-self c =
    let bounds = c.self.inside.bounds.seen in
    let above = c.self.inside.above.seen in
    let a = c.absorb-bound.ensures in
    let next = c.if-k-bound.true ∙ ap (λ n. n + 1) c.get-bound.ensures in
    let taken = taken-bound bounds above c.absorb-bound.new.above.seen c.args.from c.args.k c.absorb-bound.result next a.rises.0 a.left a.absorbed c.self.invariant a.rises.1 a.end a.ordered in
    let P : Numbers → Type 0 = λ z. IsTaken z c.absorb-bound.new.above.seen in
    subst P (sym c.put.ensures.put) taken

pub returns-then-k-bound-clause-inserted : goal.returns-then-k-bound-clause-inserted
returns-then-k-bound-clause-inserted c =
    let bounds = c.self.inside.bounds.seen in
    let above = c.self.inside.above.seen in
    let a = c.absorb-bound.ensures in
    let next = c.if-k-bound.true ∙ ap (λ n. n + 1) c.get-bound.ensures in
    let taken = taken-bound bounds above c.absorb-bound.new.above.seen c.args.from c.args.k c.absorb-bound.result next a.rises.0 a.left a.absorbed c.self.invariant a.rises.1 a.end a.ordered in
    let x : Identity = record { peer = c.args.from; k = c.args.k } in
    let absent : list_any (same_identity x) (taken_of bounds above) ≡ false = ap (λ v. list_any (same_identity x) v.seen) c.self.view_is ∙ c.requires.new in
    ap (λ z. taken_of z c.absorb-bound.new.above.seen) c.put.ensures.put
    ∙ inserted bounds (put_number c.args.from c.absorb-bound.result bounds) above c.absorb-bound.new.above.seen x c.self.invariant taken (recorded-bound bounds above c.absorb-bound.new.above.seen c.args.from c.args.k c.absorb-bound.result next a.rises.0 a.left a.absorbed) absent
    ∙ ap (λ v. insert_identity x v.seen) c.self.view_is

pub invariant_of-self-2 : goal.invariant_of-self-2
invariant_of-self-2 c =
    let bounds = c.self.inside.bounds.seen in
    let above = c.self.inside.above.seen in
    let x : Identity = record { peer = c.args.from; k = c.args.k } in
    let absent : list_any (same_identity x) (taken_of bounds above) ≡ false = ap (λ v. list_any (same_identity x) v.seen) c.self.view_is ∙ c.requires.new in
    let past : number_of 0 bounds c.args.from < c.args.k = recorded-not bounds above x (sym (taken-is bounds above x c.self.invariant) ∙ absent) c.requires.number.0 in
    let bound = c.get-bound.ensures in
    let other = c.if-k-bound.false in
    let up : number_of 0 bounds c.args.from + 1 < c.args.k = omega arith in
    let taken = taken-above bounds above c.args.from c.args.k c.self.invariant up c.requires.number.1 in
    let P : Numbers → Type 0 = λ z. IsTaken z c.put-2.new.self.seen in
    let Q : Above → Type 0 = λ z. IsTaken (put_number c.args.from (number_of 0 bounds c.args.from) bounds) z in
    subst P (sym (c.put-3.ensures.put ∙ ap (λ n. put_number c.args.from n bounds) bound)) (subst Q (sym c.put-2.ensures.put) taken)

pub returns-clause-inserted : goal.returns-clause-inserted
returns-clause-inserted c =
    let bounds = c.self.inside.bounds.seen in
    let above = c.self.inside.above.seen in
    let x : Identity = record { peer = c.args.from; k = c.args.k } in
    let absent : list_any (same_identity x) (taken_of bounds above) ≡ false = ap (λ v. list_any (same_identity x) v.seen) c.self.view_is ∙ c.requires.new in
    let past : number_of 0 bounds c.args.from < c.args.k = recorded-not bounds above x (sym (taken-is bounds above x c.self.invariant) ∙ absent) c.requires.number.0 in
    let bound = c.get-bound.ensures in
    let other = c.if-k-bound.false in
    let up : number_of 0 bounds c.args.from + 1 < c.args.k = omega arith in
    let taken = taken-above bounds above c.args.from c.args.k c.self.invariant up c.requires.number.1 in
    let e : Entry (Unit {0}) = record { peer = c.args.from; k = c.args.k; value = tt } in
    ap (λ z. taken_of z c.put-2.new.self.seen) (c.put-3.ensures.put ∙ ap (λ n. put_number c.args.from n bounds) bound)
    ∙ ap (taken_of (put_number c.args.from (number_of 0 bounds c.args.from) bounds)) c.put-2.ensures.put
    ∙ inserted bounds (put_number c.args.from (number_of 0 bounds c.args.from) bounds) above (put_entry e above) x c.self.invariant taken (recorded-above bounds above c.args.from c.args.k) absent
    ∙ ap (λ v. insert_identity x v.seen) c.self.view_is
