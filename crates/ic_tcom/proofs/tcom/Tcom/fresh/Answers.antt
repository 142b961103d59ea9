use Rattle.std.proofs.Common.{◌∙◌, ap, sym}
use Rattle.std.specs.Prelude.{is_ok}
use Rattle.ic_gate.specs.RecordFiles.{read_or_none}
use Rattle.law_marks.proofs.Places.{no_records}
use Rattle.ic_tcom.proofs.tcom.Tcom.fresh.Goals as goal

pub invariant_of-result-clause-on_disk : goal.invariant_of-result-clause-on_disk
invariant_of-result-clause-on_disk g c told up = ap read_or_none (no_records _ (c.requires.blank told)) ∙ sym (c.in-Ok.ensures {u = tt}).none

pub invariant_of-result-clause-whole : goal.invariant_of-result-clause-whole
invariant_of-result-clause-whole g c told up = ap is_ok (no_records _ (c.requires.blank told))
