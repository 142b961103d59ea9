use Rattle.std.proofs.Common.{◌≤◌, ◌+◌, ap, refl, arith, not}
use Rattle.def_state.specs.Names.{number_of}
use Rattle.def_step.specs.Tcom.{Sitting, is_below}
use Rattle.ic_tcom.proofs.OneEach.{number_rises, served_on}
use Rattle.ic_tcom.proofs.engine.Engine.on_drop.Goals as goal

pub invariant_of-self-2 : goal.invariant_of-self-2
invariant_of-self-2 c =
    let e = c.self.inside in
    let least = ap (λ xs. number_of 1 xs c.args.peer) c.in_ok-reserve.ensures.same in
    let le : number_of 1 e.least.held c.args.peer ≤ c.max-from.result = omega (arith, c.max-from.ensures, c.of.ensures, least) in (
      c.self.invariant.0,
      c.self.invariant.1,
      rw (c.end_below.ensures.ended, c.put.ensures, c.in_ok-reserve.ensures.same) (served_on c.args.peer c.max-from.result e.least.held e.sittings.held le c.self.invariant.2 (λ (s : Sitting). not (is_below c.args.peer (c.args.n + 1) s))),
    )

pub returns-clause-on : goal.returns-clause-on
returns-clause-on c =
    let e = c.self.inside in
    let least = ap (λ xs. number_of 1 xs c.args.peer) c.in_ok-reserve.ensures.same in
    let le : number_of 1 e.least.held c.args.peer ≤ c.max-from.result = omega (arith, c.max-from.ensures, c.of.ensures, least) in
    rw (← c.self.view_is, c.put.ensures, c.in_ok-reserve.ensures.same) (refl, λ d. number_rises c.args.peer d c.max-from.result e.least.held le)
