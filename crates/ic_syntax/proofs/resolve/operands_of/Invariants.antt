use Rattle.std.proofs.Common.{◌≡◌, drop, length}
use Rattle.def_syntax.specs.Names.{operands_of}
use Rattle.ic_items.specs.Views.{terms_seen}
use Rattle.ic_syntax.proofs.Reading.{behind}
use Rattle.ic_syntax.proofs.resolve.operands_of.Given as goal

abbrev pub invariant-loop-term : goal.invariant-loop-term
invariant-loop-term l = record {
  counted : length l.operands.items ≡ l.term-index;
  goes_on : operands_of l.seen (terms_seen l.terms) ≡ behind l.operands.items (operands_of l.seen (terms_seen (drop l.term-index l.terms)));
}
