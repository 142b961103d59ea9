use Rattle.std.proofs.Common.{◌∙◌, sym, ap, refl, arith}
use Rattle.std.specs.Prelude.{is_some, slice_get}
use Rattle.ic_ckpt.specs.Views.{seen}
use Rattle.ic_pcom.proofs.Images.{messages_long, outputs_long, few_outputs}
use Rattle.ic_pcom.proofs.Stands.{of_mapped, none_is}
use Rattle.ic_pcom.proofs.imaging.has_words.Goals as goal

pub returns-then-len-gt-PAST-clause-long : goal.returns-then-len-gt-PAST-clause-long
returns-then-len-gt-PAST-clause-long c is = messages_long (seen c.args.state.now) (omega (arith, c.if-len-gt-PAST.true, c.len.ensures))

pub returns-then-is_some-clause-long : goal.returns-then-is_some-clause-long
returns-then-is_some-clause-long c is =
    let v = seen c.args.state.now in
    outputs_long v (sym (of_mapped (λ w. w.output) (slice_get v.shelf.waiting 4294967295)) ∙ ap is_some (sym c.waiting.ensures) ∙ sym c.is_some.ensures ∙ c.if-is_some.true)

pub returns-clause-short : goal.returns-clause-short
returns-clause-short c is =
    let v = seen c.args.state.now in
    record {
      waiting = few_outputs v (none_is (slice_get v.shelf.waiting 4294967295) (sym (of_mapped (λ w. w.output) (slice_get v.shelf.waiting 4294967295)) ∙ ap is_some (sym c.waiting.ensures) ∙ sym c.is_some.ensures ∙ c.if-is_some.false));
      held = omega (arith, c.if-len-gt-PAST.false, c.len.ensures);
      above = c.are_short.ensures.short is;
    }

pub returns-clause-long : goal.returns-clause-long
returns-clause-long c is = c.are_short.ensures.long is (seen c.args.state.now) refl
