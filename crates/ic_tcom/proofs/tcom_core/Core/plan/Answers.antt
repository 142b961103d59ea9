use Rattle.std.proofs.Common.{◌∙◌, ap, sym, refl}
use Rattle.ic_tcom.specs.CarriesOut.{is_full}
use Rattle.ic_tcom.proofs.tcom_core.Core.plan.Goals as goal

pub returns-in-Ok-Answered-clause-step : goal.returns-in-Ok-Answered-clause-step
returns-in-Ok-Answered-clause-step c =
    let log = c.args.self.now.records in
    let h = c.requires.keeps in
    let s = c.in-Ok-Answered.ensures {u = tt} in
    let step = rw c.in-Ok-Answered.field-0-is at s.step in (
      sym (s.full log h) ∙ ap is_full c.in-Ok-Answered.field-0-is,
      record { step = step log h; keeps = s.keeps log h; records = refl; which = refl },
    )

pub returns-in-Ok-push-clause-step : goal.returns-in-Ok-push-clause-step
returns-in-Ok-push-clause-step c =
    let log = c.args.self.now.records in
    let h = c.requires.keeps in
    let s = c.in-Ok-Decides.ensures {u = tt} in
    let step = rw c.in-Ok-Decides.field-0-is at s.step in
    let room = rw c.in-Ok-Decides.field-0-is at s.room in (
      sym (s.full log h) ∙ ap is_full c.in-Ok-Decides.field-0-is,
      record {
        step = step.2 log h;
        decision = step.1;
        room = room;
        bytes_of = (c.in-Ok.ensures {u = tt}).spelled;
        fit = (c.in-Ok.ensures {u = tt}).fit;
        records = (c.in-Ok-push.ensures {u = tt}).added;
        engine = step.0;
        which = refl;
      },
    )
