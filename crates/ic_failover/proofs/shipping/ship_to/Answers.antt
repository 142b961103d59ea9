use Rattle.std.proofs.Common.{rules, ◌≡◌, ◌∙◌, ℕ, refl, sym, subst, length}
use Rattle.std.specs.List.{AllByRecursion}
use Rattle.std.proofs.lemmas.Result.{err_from_is_err_and}
use Rattle.def_failover.specs.declared.note.Note.TheVariants.{Applied}
use Rattle.def_standby.specs.declared.orders.Order.TheVariants.{Ship}
use Rattle.ic_failover.specs.Shipping.{IsAnswered}
use Rattle.ic_failover.specs.Sides.{standing}
use Rattle.ic_standby.specs.Views.{standby_of, com_of}
use Rattle.ic_wire.specs.Placed.{IsCounted}
use Rattle.ic_world.specs.Views.{world_of}
use Rattle.ic_failover.proofs.Gathered.{behind_is}
use Rattle.ic_failover.proofs.Shipped.{all_empty}
use Rattle.ic_failover.proofs.Shipments.{none_from, some_from, applied_by, arises_by, other_by, misfit_by}
use Rattle.ic_failover.proofs.shipping.ship_to.Goals as goal

pub returns-then-is_empty-clause-answered : goal.returns-then-is_empty-clause-answered
returns-then-is_empty-clause-answered g c =
    let are = behind_is c.args.world.now c.args.com c.component.result.now (standby_of c.args.standby) c.in_ok-records.records.items c.as_slice.result.now c.behind-behind.result.now c.have-have.result c.component.ensures c.in_ok-records.ensures c.as_slice.ensures.value c.have-have.ensures c.behind-behind.ensures in
    let zero : length c.behind-behind.result.now ≡ 0 = search rules in
    let none = none_from c.behind-behind.result.now zero in
    all_empty c.args.program.now c.args.com (world_of c.args.world.now) (standby_of c.args.standby) c.requires.up c.requires.goes_on c.behind-behind.result.now are none

pub returns-then-not-are_counted-clause-cut : goal.returns-then-not-are_counted-clause-cut
returns-then-not-are_counted-clause-cut g c =
    let are = behind_is c.args.world.now c.args.com c.component.result.now (standby_of c.args.standby) c.in_ok-records.records.items c.as_slice.result.now c.behind-behind.result.now c.have-have.result c.component.ensures c.in_ok-records.ensures c.as_slice.ensures.value c.have-have.ensures c.behind-behind.ensures in
    let bad : AllByRecursion IsCounted c.behind-behind.result.now → ⊥ = λ h. search rules in
    (refl, λ all. absurd (bad (subst (λ l. AllByRecursion IsCounted l) (sym are) all)))

pub returns-in_err-spell-clause-cut : goal.returns-in_err-spell-clause-cut
returns-in_err-spell-clause-cut g c =
    let p = err_from_is_err_and c.from_residual-in_err-spell.result c.from_residual-in_err-spell.ensures.1 in
    rw (p.1, p.2) tt

pub returns-in_err-msgs-clause-cut : goal.returns-in_err-msgs-clause-cut
returns-in_err-msgs-clause-cut g c =
    let p = err_from_is_err_and c.from_residual-in_err-msgs.result c.from_residual-in_err-msgs.ensures.1 in
    rw (p.1, p.2) tt

pub returns-in-Applied-clause-answered : goal.returns-in-Applied-clause-answered
returns-in-Applied-clause-answered g c =
    let are = behind_is c.args.world.now c.args.com c.component.result.now (standby_of c.args.standby) c.in_ok-records.records.items c.as_slice.result.now c.behind-behind.result.now c.have-have.result c.component.ensures c.in_ok-records.ensures c.as_slice.ensures.value c.have-have.ensures c.behind-behind.ensures in
    let some = some_from c.behind-behind.result.now c.is_empty.result c.is_empty.ensures c.if-is_empty.false in
    let P : ℕ → Type 0 = λ n. IsAnswered c.args.program.now c.args.com (world_of c.args.world.now) Ship (standing c.args.standby) (Applied n) (standing c.in-Ok.standby) in
    subst P (sym c.have-have-in-Applied.ensures) (applied_by c.args.program.now c.args.com (world_of c.args.world.now) (standby_of c.args.standby) c.requires.up c.requires.goes_on c.behind-behind.result.now are some (com_of c.args.standby) c.requires.which c.as_slice-2.result.now (c.as_slice-2.ensures ∙ c.in_ok-msgs.ensures) c.have-have.result c.have-have.ensures c.in-Ok.answer (standby_of c.in-Ok.standby) c.in-Ok.ensures.shipped c.in-Applied.is)

pub returns-in-Applied-clause-own : goal.returns-in-Applied-clause-own
returns-in-Applied-clause-own g c =
    let are = behind_is c.args.world.now c.args.com c.component.result.now (standby_of c.args.standby) c.in_ok-records.records.items c.as_slice.result.now c.behind-behind.result.now c.have-have.result c.component.ensures c.in_ok-records.ensures c.as_slice.ensures.value c.have-have.ensures c.behind-behind.ensures in
    let some = some_from c.behind-behind.result.now c.is_empty.result c.is_empty.ensures c.if-is_empty.false in
    (c.in-Ok.ensures.which ∙ c.requires.which, arises_by c.args.program.now c.args.com (world_of c.args.world.now) (standby_of c.args.standby) c.requires.up c.requires.goes_on c.behind-behind.result.now are some (com_of c.args.standby) c.requires.which c.as_slice-2.result.now (c.as_slice-2.ensures ∙ c.in_ok-msgs.ensures) c.have-have.result c.have-have.ensures c.in-Ok.answer (standby_of c.in-Ok.standby) c.in-Ok.ensures.shipped c.in-Applied.is c.requires.arises)

pub returns-in-Ok : goal.returns-in-Ok
returns-in-Ok g c =
    let are = behind_is c.args.world.now c.args.com c.component.result.now (standby_of c.args.standby) c.in_ok-records.records.items c.as_slice.result.now c.behind-behind.result.now c.have-have.result c.component.ensures c.in_ok-records.ensures c.as_slice.ensures.value c.have-have.ensures c.behind-behind.ensures in
    let some = some_from c.behind-behind.result.now c.is_empty.result c.is_empty.ensures c.if-is_empty.false in
    record { answered = tt; own = tt; cut = (refl, λ all. other_by c.args.program.now c.args.com (world_of c.args.world.now) (standby_of c.args.standby) c.requires.up c.requires.goes_on c.behind-behind.result.now are some (com_of c.args.standby) c.requires.which c.as_slice-2.result.now (c.as_slice-2.ensures ∙ c.in_ok-msgs.ensures) c.have-have.result c.have-have.ensures c.in-Ok.answer (standby_of c.in-Ok.standby) c.in-Ok.ensures.shipped c.in_default.not-Applied) }

pub returns-in-Err-Misfit-clause-cut : goal.returns-in-Err-Misfit-clause-cut
returns-in-Err-Misfit-clause-cut g c =
    let are = behind_is c.args.world.now c.args.com c.component.result.now (standby_of c.args.standby) c.in_ok-records.records.items c.as_slice.result.now c.behind-behind.result.now c.have-have.result c.component.ensures c.in_ok-records.ensures c.as_slice.ensures.value c.have-have.ensures c.behind-behind.ensures in
    let some = some_from c.behind-behind.result.now c.is_empty.result c.is_empty.ensures c.if-is_empty.false in
    (refl, λ all. misfit_by c.args.program.now c.args.com (world_of c.args.world.now) (standby_of c.args.standby) c.requires.up c.requires.goes_on c.behind-behind.result.now are some (com_of c.args.standby) c.requires.which c.as_slice-2.result.now (c.as_slice-2.ensures ∙ c.in_ok-msgs.ensures) c.have-have.result c.have-have.ensures _ _ c.in-Err-Misfit.field-0-is c.in-Err-Misfit.ensures.refused)
