use Rattle.ic_in.proofs.OneByOne.{tells-the_first, tells-all}
use Rattle.ic_in.proofs.laws.senders_are_told_one_by_one.Goals as goal

pub returns : goal.returns
returns c = record {
  first = tells-the_first;
  all = λ i forced n. record { acks = λ l. (tells-all n i forced l).0; told = λ l. (tells-all n i forced l).1 };
}
