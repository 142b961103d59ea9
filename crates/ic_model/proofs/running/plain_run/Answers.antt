use Rattle.std.proofs.Common.{◌∙◌, ap, sym}
use Rattle.def_plain.specs.Plain.{pcom_at}
use Rattle.ic_model.proofs.Indexing.{first-empty}
use Rattle.ic_model.proofs.running.plain_run.Goals as goal

pub new-requires : goal.new-requires
new-requires c = λ d p at. first-empty c.args.program.now.components d p (ap (λ w. pcom_at w d) (sym c.in_ok-first_world.ensures) ∙ at)
