use Rattle.ic_out.proofs.OneByOne.{takes-the_first, takes-all}
use Rattle.ic_out.proofs.laws.due_messages_leave_one_by_one.Goals as goal

pub returns : goal.returns
returns c = record {
  first = takes-the_first;
  all = λ o forced n. record { messages = λ l. (takes-all n o forced l).0; marks = λ l. (takes-all n o forced l).1 };
}
