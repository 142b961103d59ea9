use Rattle.std.proofs.Common.{◌∙◌, ap, length}
use Rattle.ic_gate.proofs.Encodings.{opened, ends_of-length}
use Rattle.ic_gate.proofs.spelled.SpelledRecords.len.Goals as goal

pub returns-clause-count : goal.returns-clause-count
returns-clause-count c =
    let e = opened c.self.inside.bytes c.self.inside.ends c.args.self.now c.self.invariant c.self.view_is in
    ap length c.as_slice.ensures ∙ ap length e.ended ∙ ends_of-length c.args.self.now
