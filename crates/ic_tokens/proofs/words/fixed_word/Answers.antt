use Rattle.std.proofs.Common.{◌≡◌, arith, codes, refl}
use Rattle.std.proofs.lemmas.Slice.Eq.{text_from_reads}
use Rattle.ic_tokens.proofs.words.fixed_word.Goals as goal

pub returns-in-immediate : goal.returns-in-immediate
returns-in-immediate c =
    let same : c.args.word.now ≡ codes "immediate" =
    text_from_reads _ _ (omega arith) (omega arith, (omega arith, (omega arith, (omega arith, (omega arith, (omega arith, (omega arith, (omega arith, (omega arith, tt))))))))) in
    rw same refl
