use Rattle.std.proofs.Common.{◌∙◌, sym, arith}
use Rattle.std.proofs.lemmas.Bool.{both_ways}
use Rattle.ic_world.proofs.world.World.admits.Goals as goal
use Rattle.ic_world.proofs.world.World.admits.Goals.{else-more-via-then-more+else-self-eq-RECEIPTS, else-more-via-else-more}

pub returns-then-self-eq-RECEIPTS-clause-refused : goal.returns-then-self-eq-RECEIPTS-clause-refused
returns-then-self-eq-RECEIPTS-clause-refused g c = λ none. record {
  before = c.component.result.now;
  at = c.component.ensures;
  receives = sym c.receives-more.ensures ∙ c.if-more.true;
  past = omega (arith, c.if-self-eq-RECEIPTS.true);
}

pub returns-else-more-clause-admitted : goal.returns-else-more-clause-admitted
returns-else-more-clause-admitted g c = record {
  before = c.component.result.now;
  at = c.component.ensures;
  receives = c.receives-more.ensures;
  few = λ more. elim c.else-more.branch [
    | else-more-via-then-more+else-self-eq-RECEIPTS w ↦ omega (arith, w.if-self-eq-RECEIPTS.false, c.args.self.now.receipts)
    | else-more-via-else-more w ↦ absurd (both_ways c.receives-more.result w.if-more.false more)
  ];
}
