use Rattle.std.proofs.Common.{◌<◌, ap, arith, List, length, refl}
use Rattle.std.proofs.lemmas.Result.{on_ok_weaker}
use Rattle.def_step.specs.Tcom.{Sitting}
use Rattle.ic_tcom.specs.Roomy.{Roomy}
use Rattle.ic_tcom.proofs.Among.{done_in_place}
use Rattle.ic_tcom.proofs.OneEach.{apart_sits}
use Rattle.ic_tcom.proofs.sittings.Sittings.take_on.Goals as goal

pub returns-clause-done : goal.returns-clause-done
returns-clause-done c =
    let xs = c.self.inside.list.items in
    let same = ap (λ (v : Roomy (List Sitting)). v.held) c.self.view_is in
    let within : c.args.place < length xs = omega (arith, ap (λ (l : List Sitting). length l) same, c.requires.there) in
    on_ok_weaker c.take_on.result (λ e. done_in_place xs _ (apart_sits xs c.self.invariant) same c.args.place (length xs) _ c.take_on.new.self c.args.ledger.now c.args.request refl within c.index_mut.ensures.value e) c.take_on.ensures.done
