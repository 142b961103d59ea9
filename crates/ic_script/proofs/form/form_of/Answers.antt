use Rattle.std.proofs.Common.{◌≡◌, arith, codes, refl}
use Rattle.std.proofs.lemmas.Slice.Eq.{text_from_reads}
use Rattle.ic_script.proofs.form.form_of.Goals as goal

pub returns-in-packet : goal.returns-in-packet
returns-in-packet c =
    let same : c.args.word.now ≡ codes "packet" =
    text_from_reads _ _ (omega arith) (omega arith, (omega arith, (omega arith, (omega arith, (omega arith, (omega arith, tt)))))) in
    rw same refl

pub returns-in-resend : goal.returns-in-resend
returns-in-resend c =
    let same : c.args.word.now ≡ codes "resend" =
    text_from_reads _ _ (omega arith) (omega arith, (omega arith, (omega arith, (omega arith, (omega arith, (omega arith, tt)))))) in
    rw same refl

pub returns-in-deliver : goal.returns-in-deliver
returns-in-deliver c =
    let same : c.args.word.now ≡ codes "deliver" =
    text_from_reads _ _ (omega arith) (omega arith, (omega arith, (omega arith, (omega arith, (omega arith, (omega arith, (omega arith, tt))))))) in
    rw same refl

pub returns-in-recover : goal.returns-in-recover
returns-in-recover c =
    let same : c.args.word.now ≡ codes "recover" =
    text_from_reads _ _ (omega arith) (omega arith, (omega arith, (omega arith, (omega arith, (omega arith, (omega arith, (omega arith, tt))))))) in
    rw same refl
