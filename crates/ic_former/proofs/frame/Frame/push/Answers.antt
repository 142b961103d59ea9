use Rattle.std.proofs.Common.{◌≡◌, ◌∙◌, ap, arith}
use Rattle.def_log.specs.Sizes.{span}
use Rattle.def_log.proofs.Spans.{span-push}
use Rattle.ic_former.proofs.frame.Frame.push.Goals as goal

pub invariant_of-self-2 : goal.invariant_of-self-2
invariant_of-self-2 c =
    let more : span c.push.new.self ≡ _ = ap span c.in_ok-push.ensures.ok ∙ span-push c.args.self.now.batches c.args.batch in
    omega (arith, more)
