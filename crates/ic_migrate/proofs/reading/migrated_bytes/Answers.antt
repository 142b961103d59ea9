use Rattle.std.proofs.Common.{◌∙◌}
use Rattle.ic_migrate.proofs.Formers.{migrates}
use Rattle.ic_migrate.proofs.reading.migrated_bytes.Goals as goal

pub returns-in-Ok-clause-log : goal.returns-in-Ok-clause-log
returns-in-Ok-clause-log c = migrates c.args.fingerprint.now c.args.owner c.args.log.now.batches _ c.told-fingerprint c.args.log.now.small (c.from_vec.ensures ∙ c.in-Ok.ensures)
