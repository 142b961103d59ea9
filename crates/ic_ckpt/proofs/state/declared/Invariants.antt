use Rattle.std.proofs.Common.{◌≡◌, take}
use Rattle.def_plain.specs.Cell.{first_values}
use Rattle.ic_ckpt.proofs.state.declared.Given as goal

abbrev pub invariant-loop-cell : goal.invariant-loop-cell
invariant-loop-cell l = l.values ≡ first_values (take l.cell-index l.cells)
