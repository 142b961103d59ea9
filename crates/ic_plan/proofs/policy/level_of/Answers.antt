use Rattle.std.proofs.Common.{◌≡◌, arith, codes, refl}
use Rattle.std.proofs.lemmas.Slice.Eq.{text_from_reads}
use Rattle.ic_plan.proofs.policy.level_of.Goals as goal

pub returns-in-summary : goal.returns-in-summary
returns-in-summary c =
    let same : c.args.word.now ≡ codes "summary" =
    text_from_reads _ _ (omega arith) (omega arith, (omega arith, (omega arith, (omega arith, (omega arith, (omega arith, (omega arith, tt))))))) in
    rw same refl
