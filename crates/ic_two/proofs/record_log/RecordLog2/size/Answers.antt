use Rattle.std.proofs.Common.{◌∙◌, ap, Some, ℕ}
use Rattle.ic_two.proofs.Committed.{standing, size_there}
use Rattle.ic_two.proofs.record_log.RecordLog2.size.Goals as goal

pub returns-clause-of_file : goal.returns-clause-of_file
returns-clause-of_file g c told up =
    let s = size_there _ _ (standing {D = g.row.D.Denot} {d = g.D.Disk} c.args.self.now told up) in
    s.1 ∙ ap (λ (n : ℕ). Some n) (c.size.ensures.of_file told up s.0 s.1)
