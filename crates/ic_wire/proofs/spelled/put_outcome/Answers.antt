use Rattle.std.proofs.Common.{◌++◌, ◌∷◌, []}
use Rattle.def_log.specs.Spelling.{number, ending}
use Rattle.ic_wire.proofs.Ranges.{two}
use Rattle.ic_wire.proofs.spelled.put_outcome.Goals as goal

pub returns-clause-spelled : goal.returns-clause-spelled
returns-clause-spelled c =
    let numbers = number c.args.stamp ++ number c.args.n in
    let begun = two c.args.out.now.items (5 ∷ []) numbers c.push.new.self.items c.put_pair.new.out.items c.in_ok-push.ensures.items c.in_ok-put_pair.ensures in
    two c.args.out.now.items (5 ∷ numbers) (ending c.args.abort) c.put_pair.new.out.items c.put_ending.new.out.items begun c.in_ok-put_ending.ensures.spelled
