use Rattle.std.proofs.Common.{◌∙◌, sym}
use Rattle.ic_gate.proofs.Encodings.{aborted_tag, other_tag}
use Rattle.ic_gate.proofs.encoded.EncodedRecords.tag.Goals as goal

pub returns-then-kind-eq-ABORTED : goal.returns-then-kind-eq-ABORTED
returns-then-kind-eq-ABORTED c r at = aborted_tag r (sym (c.kind-kind.ensures r at) ∙ c.if-kind-eq-ABORTED.true)

pub returns-else-kind-eq-ABORTED : goal.returns-else-kind-eq-ABORTED
returns-else-kind-eq-ABORTED c r at = c.kind-kind.ensures r at ∙ other_tag r (λ e. c.if-kind-eq-ABORTED.false (c.kind-kind.ensures r at ∙ e))
