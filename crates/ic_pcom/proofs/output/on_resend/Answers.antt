use Rattle.std.proofs.Common.{◌∙◌, ap, sym}
use Rattle.def_step.specs.Pcom.{Effects, nothing_at_all}
use Rattle.ic_pcom.proofs.output.on_resend.Goals as goal

pub returns : goal.returns
returns c log rest forced =
    let with_answers : Effects → Effects = λ e. record e { answers = c.in_ok-all_owed.field-0 } in
    ap with_answers c.nothing.ensures
    ∙ ap (λ packets. record nothing_at_all { answers = packets }) (sym (c.in_ok-all_owed.ensures log rest forced))
