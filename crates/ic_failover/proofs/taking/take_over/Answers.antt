use Rattle.std.proofs.Common.{sym, subst, IfOk, IfErr, inr, ◌≡◌, ℕ}
use Rattle.std.proofs.lemmas.Result.{IfOk-weaker}
use Rattle.def_failover.specs.declared.note.Note.TheVariants.{Done}
use Rattle.ic_failover.specs.Sides.{beside_of, standing}
use Rattle.ic_failover.specs.Taking.{TookOver, FailsToTake, Takes}
use Rattle.ic_failover.specs.declared.side.Side.{Side}
use Rattle.ic_failover.proofs.taking.take_over.Goals as goal

pub returns-in-Stands-clause-takes : goal.returns-in-Stands-clause-takes
returns-in-Stands-clause-takes g c =
    let P : Side → Type 0 = λ s. IfOk c.take_over_by.result (λ x. Takes c.args.program.now c.args.com c.args.world.now (beside_of s) x.1 c.take_over_by.new.world (beside_of x.0)) in
    subst P (sym c.in-Stands.is)
    (IfOk-weaker c.take_over_by.result
    (λ x. (played : ℕ) × (x.1 ≡ Done played) × TookOver c.args.program.now c.args.com c.args.world.now c.take_over_by.new.world (standing c.in-Stands.standby) played (beside_of x.0))
    (λ x. Takes c.args.program.now c.args.com c.args.world.now (standing c.in-Stands.standby) x.1 c.take_over_by.new.world (beside_of x.0))
    (λ x p. inr p) c.take_over_by.ensures.took)

pub returns-in-Stands-clause-cut : goal.returns-in-Stands-clause-cut
returns-in-Stands-clause-cut g c =
    let P : Side → Type 0 = λ s. IfErr c.take_over_by.result (FailsToTake g.D.Disk c.args.program.now c.args.com c.args.world.now c.take_over_by.new.world (beside_of s)) in
    subst P (sym c.in-Stands.is) c.take_over_by.ensures.cut
