use Rattle.std.proofs.Common.{◌∙◌, ap, sym, refl}
use Rattle.def_plain.specs.Plain.{pcom_at}
use Rattle.def_plain.specs.declared.world.PlainCom.TheVariants.{Tcom}
use Rattle.ic_model.proofs.Indexing.{set-rest}
use Rattle.ic_model.proofs.indexed.IndexedWorld.put_ledger.Goals as goal

pub invariant_of-self : goal.invariant_of-self
invariant_of-self c = λ d p at. c.self.invariant d p (set-rest c.self.inside.components c.from.result d.0 (Tcom c.args.ledger) p refl (ap (λ w. pcom_at w d) (sym c.replace.ensures.new) ∙ at))
