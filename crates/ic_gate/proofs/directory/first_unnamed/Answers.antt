use Rattle.std.proofs.Common.{◌∙◌, ap, sym, ℕ, Some, arith}
use Rattle.def_log.specs.Directory.{slot_place}
use Rattle.ic_gate.proofs.Directories.{left_over}
use Rattle.ic_gate.proofs.directory.first_unnamed.Goals as goal

pub returns : goal.returns
returns c = ap (λ (n : ℕ). Some n) c.slot_place.ensures ∙ sym (left_over c.args.slots.now c.args.named (slot_place c.args.named) (omega (arith, c.if-named-slots.false)))
