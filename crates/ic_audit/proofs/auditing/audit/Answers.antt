use Rattle.std.proofs.Common.{◌∙◌, ap, sym, inl, inr}
use Rattle.std.specs.Prelude.{Ok}
use Rattle.ic_audit.proofs.Sound.{sound_logs_are_audited}
use Rattle.ic_audit.proofs.auditing.audit.Goals as goal

pub returns-in-Ok-audited-clause-audit : goal.returns-in-Ok-audited-clause-audit
returns-in-Ok-audited-clause-audit g c =
    inr (record {
      program = c.in-Ok.scene.program;
      fingerprint = c.in-Ok.scene.fingerprint;
      scene = (c.in-Ok.ensures {u = tt}).scene;
      ends = inl (record {
        lines = c.as_slice.result.now;
        audit = λ told. (c.in-Ok-audited.ensures {u = tt}).lines told ∙ ap Ok (sym c.as_slice.ensures);
        prints = c.end_done.ensures;
      });
    })

pub returns-clause-audit : goal.returns-clause-audit
returns-clause-audit g c =
    inr (record {
      program = c.in-Ok.scene.program;
      fingerprint = c.in-Ok.scene.fingerprint;
      scene = (c.in-Ok.ensures {u = tt}).scene;
      ends = inr (record {
        why = c.in-Err-audited.why;
        cause = (c.in-Err-audited.ensures {u = tt}).refused;
        sound = sound_logs_are_audited _ _ _ _ _ _ (c.in-Err-audited.ensures {u = tt}).refused;
        ends = c.end_with-in-Err-audited.ensures;
      });
    })
