use Rattle.std.proofs.Common.{◌≡◌, arith, codes, refl}
use Rattle.std.proofs.lemmas.Slice.Eq.{text_from_reads}
use Rattle.ic_plan.proofs.verb.other_verb_of.Goals as goal

pub returns-in-packet : goal.returns-in-packet
returns-in-packet c =
    let same : c.args.word.now ≡ codes "packet" =
    text_from_reads _ _ (omega arith) (omega arith, (omega arith, (omega arith, (omega arith, (omega arith, (omega arith, tt)))))) in
    rw same refl

pub returns-in-resend : goal.returns-in-resend
returns-in-resend c =
    let same : c.args.word.now ≡ codes "resend" =
    text_from_reads _ _ (omega arith) (omega arith, (omega arith, (omega arith, (omega arith, (omega arith, (omega arith, tt)))))) in
    rw same refl

pub returns-in-deliver : goal.returns-in-deliver
returns-in-deliver c =
    let same : c.args.word.now ≡ codes "deliver" =
    text_from_reads _ _ (omega arith) (omega arith, (omega arith, (omega arith, (omega arith, (omega arith, (omega arith, (omega arith, tt))))))) in
    rw same refl

pub returns-in-recover : goal.returns-in-recover
returns-in-recover c =
    let same : c.args.word.now ≡ codes "recover" =
    text_from_reads _ _ (omega arith) (omega arith, (omega arith, (omega arith, (omega arith, (omega arith, (omega arith, (omega arith, tt))))))) in
    rw same refl

pub returns-in-checkpoint : goal.returns-in-checkpoint
returns-in-checkpoint c =
    let same : c.args.word.now ≡ codes "checkpoint" =
    text_from_reads _ _ (omega arith) (omega arith, (omega arith, (omega arith, (omega arith, (omega arith, (omega arith, (omega arith, (omega arith, (omega arith, (omega arith, tt)))))))))) in
    rw same refl
