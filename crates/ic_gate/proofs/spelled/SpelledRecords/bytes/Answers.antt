use Rattle.std.proofs.Common.{◌∙◌}
use Rattle.ic_gate.proofs.Encodings.{opened}
use Rattle.ic_gate.proofs.spelled.SpelledRecords.bytes.Goals as goal

pub returns : goal.returns
returns c =
    let e = opened c.self.inside.bytes c.self.inside.ends c.args.self.now c.self.invariant c.self.view_is in
    record {
      bytes = c.as_slice.ensures ∙ e.spelled;
      fit = e.fit;
    }
