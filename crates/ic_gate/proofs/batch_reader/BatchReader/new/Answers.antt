use Rattle.std.proofs.Common.{◌∙◌, sym, ap, refl, [], map, arith}
use Rattle.ic_gate.specs.Encoding.{kind_of}
use Rattle.ic_gate.proofs.Encodings.{nothing, closed, seen}
use Rattle.ic_gate.proofs.batch_reader.BatchReader.new.Goals as goal

pub invariant_of-result : goal.invariant_of-result
invariant_of-result c = record {
  encoded = closed [] c.new.result [] (nothing [] c.new.result refl c.new.ensures);
  kinds_are = c.new-2.ensures ∙ ap (map kind_of) (sym (seen [] c.new.result [] (nothing [] c.new.result refl c.new.ensures)));
  below = omega arith;
  inside = c.requires;
}

pub returns-clause-records : goal.returns-clause-records
returns-clause-records c = seen [] c.new.result [] (nothing [] c.new.result refl c.new.ensures)
