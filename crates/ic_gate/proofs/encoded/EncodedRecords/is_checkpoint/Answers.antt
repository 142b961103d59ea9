use Rattle.std.proofs.Common.{◌∙◌, ap, ℕ}
use Rattle.std.specs.Prelude.{◌==◌}
use Rattle.ic_gate.proofs.Encodings.{checkpoint_tag}
use Rattle.ic_gate.proofs.encoded.EncodedRecords.is_checkpoint.Goals as goal

pub returns : goal.returns
returns c r at = ap (λ (n : ℕ). n == 8) (c.tag.ensures r at) ∙ checkpoint_tag r
