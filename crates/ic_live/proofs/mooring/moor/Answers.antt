use Rattle.std.proofs.Common.{◌≡◌, refl, List, [], ◌∷◌, ◌++◌, length, sym, ap, ◌∙◌, rules, arith, length-append}
use Rattle.std.specs.Prelude.{slice_get, Some}
use Rattle.std.proofs.lemmas.List.{append-nil, length-reverse}
use Rattle.ic_lane.specs.Lanes.{Out, In}
use Rattle.ic_live.specs.Berthed.{berthed, list_of}
use Rattle.ic_node.specs.Views.{com_of}
use Rattle.ic_live.proofs.Moorings.{got, rest_more, same_place, none-left, begins-at}
use Rattle.ic_live.proofs.mooring.moor.Goals as goal

pub loop-o-init : goal.loop-o-init
loop-o-init g c = (
  c.requires.may.count,
  c.requires.may.grid.0,
  omega (arith, ap (λ (l : List _). length l) c.new-berths.ensures.items),
  ([], sym (append-nil c.args.components)),
  ([], sym (append-nil c.args.outs)),
  ([], sym (append-nil c.args.ins)),
)

pub moor_one-requires-clause-begins : goal.moor_one-requires-clause-begins
moor_one-requires-clause-begins g c =
    let N = g.N.Scene in
    let inv = c.loop-o.invariant in
    let x = c.in-Some-pop-2.component in
    let in_place : c.len.result ≡ length c.pop-in-Some.new.self = c.len.ensures
    ∙ sym (same_place c.loop-o.components c.pop-in-Some-2.new.self x c.loop-o.ins c.pop-in-Some.new.self c.in-Some-pop.i c.in-Some-pop-2.ensures.last c.in-Some-pop.ensures.last inv.1) in
    let out_place : c.len.result ≡ length c.pop.new.self = c.len.ensures
    ∙ sym (same_place c.loop-o.components c.pop-in-Some-2.new.self x c.loop-o.outs c.pop.new.self c.in-Some.o c.in-Some-pop-2.ensures.last c.in-Some.ensures.last inv.0) in
    let at_x = got c.args.components c.loop-o.components c.pop-in-Some-2.new.self inv.3.0 x c.len.result inv.3.1 c.in-Some-pop-2.ensures.last c.len.ensures in
    let at_is : slice_get c.args.ins c.len.result ≡ Some c.into_vec.result.items = got c.args.ins c.loop-o.ins c.pop-in-Some.new.self inv.5.0 c.in-Some-pop.i c.len.result inv.5.1 c.in-Some-pop.ensures.last in_place
    ∙ ap (λ (l : List In). Some l) (sym c.into_vec.ensures) in
    let at_os : slice_get c.args.outs c.len.result ≡ Some c.into_vec-in-Some.result.items = got c.args.outs c.loop-o.outs c.pop.new.self inv.4.0 c.in-Some.o c.len.result inv.4.1 c.in-Some.ensures.last out_place
    ∙ ap (λ (l : List Out). Some l) (sym c.into_vec-in-Some.ensures) in
    begins-at N.program N.fingerprint N.plan N.lane N.began g.M.Mark.honest c.args.components c.args.outs c.args.ins c.args.plan.now c.requires.may c.len.result x c.into_vec-in-Some.result.items c.into_vec.result.items at_x at_os at_is (berthed N.program) (list_of (com_of x) c.args.plan.now) refl refl

pub loop-o-preserved : goal.loop-o-preserved
loop-o-preserved g c =
    let inv = c.loop-o.invariant in
    let x = c.in-Some-pop-2.component in
    let comps = c.pop-in-Some-2.new.self in
    let is : c.push.new.self.items ≡ c.loop-o.berths.items ++ c.in_ok-berth.berth ∷ [] = search rules in (
      same_place c.loop-o.components comps x c.loop-o.outs c.pop.new.self c.in-Some.o c.in-Some-pop-2.ensures.last c.in-Some.ensures.last inv.0,
      same_place c.loop-o.components comps x c.loop-o.ins c.pop-in-Some.new.self c.in-Some-pop.i c.in-Some-pop-2.ensures.last c.in-Some-pop.ensures.last inv.1,
      omega (arith, ap (λ (l : List _). length l) is, length-append c.loop-o.berths.items (c.in_ok-berth.berth ∷ []), ap (λ (l : List _). length l) c.in-Some-pop-2.ensures.last, length-append comps (x ∷ []), inv.2),
      rest_more c.args.components c.loop-o.components comps inv.3.0 x inv.3.1 c.in-Some-pop-2.ensures.last,
      rest_more c.args.outs c.loop-o.outs c.pop.new.self inv.4.0 c.in-Some.o inv.4.1 c.in-Some.ensures.last,
      rest_more c.args.ins c.loop-o.ins c.pop-in-Some.new.self inv.5.0 c.in-Some-pop.i inv.5.1 c.in-Some-pop.ensures.last,
    )

pub returns : goal.returns
returns g c =
    let inv = c.loop-o.invariant in
    omega (arith, ap (λ (l : List _). length l) c.reverse.ensures.items, length-reverse c.loop-o.berths.items, none-left c.loop-o.outs c.in_default.ensures.some.1, inv.0, inv.2)
