use Rattle.std.proofs.Common.{◌≡◌, ◌∙◌, ap, sym, subst, length, slice_set, arith, Some}
use Rattle.std.proofs.lemmas.List.{set-set, length-set}
use Rattle.std.proofs.lemmas.Option.{same_Some}
use Rattle.def_plain.proofs.Steps.{touched-is}
use Rattle.def_plain.specs.Plain.{touched}
use Rattle.def_plain.specs.declared.world.PlainCom.TheVariants.{Pcom, Xcom}
use Rattle.def_plain.specs.declared.world.PlainPcom.{PlainPcom}
use Rattle.ic_model.specs.Index.{AreIndexed, IsIndexOf}
use Rattle.ic_model.specs.Views.{touch_seen}
use Rattle.ic_model.proofs.Indexing.{index-within, index-is, indexed-set, pcom-within}
use Rattle.ic_model.proofs.indexed.IndexedWorld.touch.Goals as goal

pub invariant_of-self : goal.invariant_of-self
invariant_of-self c = λ d p at. c.self.invariant d p (c.taken_out.ensures.others d p at)

pub index_mut-requires : goal.index_mut-requires
index_mut-requires c = let within = index-within c.self.inside.components c.self.inside.indexes.items c.args.«com» c.from-at.result c.in-Some.pcom c.self.invariant c.in-Some.ensures.some c.from-at.ensures in omega (arith, within, c.self.inside.indexes.ok.0)

pub cell_step-requires : goal.cell_step-requires
cell_step-requires c = index-is c.self.inside.components c.self.inside.indexes.items c.args.«com» c.from-at.result c.in-Some.pcom c.index_mut.result.now c.self.invariant c.in-Some.ensures.some c.from-at.ensures c.index_mut.ensures.value

pub invariant_of-self-in_err-next : goal.invariant_of-self-in_err-next
invariant_of-self-in_err-next c =
    subst (λ w. AreIndexed w (slice_set c.self.inside.indexes.items c.from-at.result c.cell_step.new.index)) (ap (λ i. slice_set c.self.inside.components i Xcom) c.from-at.ensures ∙ sym c.in-Some.ensures.world)
    (indexed-set c.self.inside.components c.self.inside.indexes.items c.from-at.result Xcom c.cell_step.new.index c.self.invariant
    (index-within c.self.inside.components c.self.inside.indexes.items c.args.«com» c.from-at.result c.in-Some.pcom c.self.invariant c.in-Some.ensures.some c.from-at.ensures) (λ p e. absurd (cc e)))

pub replace-requires : goal.replace-requires
replace-requires c =
    let within = pcom-within c.self.inside.components c.args.com.0 c.in-Some.pcom c.in-Some.ensures.some in
    let same : length c.taken_out.new.world ≡ length c.self.inside.components = ap length c.in-Some.ensures.world ∙ length-set c.self.inside.components c.args.com.0 Xcom in omega (arith, within, same, c.from-at.ensures)

pub invariant_of-self-2 : goal.invariant_of-self-2
invariant_of-self-2 c =
    subst (λ w. AreIndexed w (slice_set c.self.inside.indexes.items c.from-at.result c.cell_step.new.index))
    (sym (c.replace.ensures.new ∙ ap (λ w. slice_set w c.from-at.result (Pcom c.in_ok-next.next)) (c.in-Some.ensures.world ∙ ap (λ i. slice_set c.self.inside.components i Xcom) (sym c.from-at.ensures)) ∙ set-set c.self.inside.components c.from-at.result Xcom (Pcom c.in_ok-next.next)))
    (indexed-set c.self.inside.components c.self.inside.indexes.items c.from-at.result (Pcom c.in_ok-next.next) c.cell_step.new.index c.self.invariant
    (index-within c.self.inside.components c.self.inside.indexes.items c.args.«com» c.from-at.result c.in-Some.pcom c.self.invariant c.in-Some.ensures.some c.from-at.ensures)
    (λ p e. subst (λ (q : PlainPcom). IsIndexOf q.receipts q.sent c.cell_step.new.index) (same_Some c.in_ok-next.next p e) c.in_ok-next.ensures.index))

pub returns-clause-step : goal.returns-clause-step
returns-clause-step c =
    let next = Pcom c.in_ok-next.next in
    let put : slice_set c.taken_out.new.world c.from-at.result next ≡ slice_set c.self.inside.components c.args.com.0 next =
    ap (λ i. slice_set c.taken_out.new.world i next) c.from-at.ensures ∙ ap (λ w. slice_set w c.args.com.0 next) c.in-Some.ensures.world ∙ set-set c.self.inside.components c.args.com.0 Xcom next in
    ap (λ w. touched c.args.program.now w c.args.«com» (touch_seen c.args.touch)) (sym c.self.view_is)
    ∙ touched-is c.args.program.now c.self.inside.components c.args.«com» c.in-Some.pcom c.in_ok-next.next (touch_seen c.args.touch) c.in-Some.ensures.some c.in_ok-next.ensures.step
    ∙ ap Some (sym (c.replace.ensures.new ∙ put))
