use Rattle.std.proofs.Common.{◌++◌, ◌∷◌, []}
use Rattle.def_log.specs.Spelling.{number, args}
use Rattle.ic_wire.proofs.Ranges.{two}
use Rattle.ic_wire.proofs.spelled.put_taken_whole.Goals as goal

pub returns-clause-spelled : goal.returns-clause-spelled
returns-clause-spelled c =
    let old = c.args.out.now.items in
    let sender = c.args.from.0 in
    let numbers = number c.args.k ++ number c.args.stamp in
    let first = two old (2 ∷ []) (sender ∷ []) c.push.new.self.items c.push-2.new.self.items c.in_ok-push.ensures.items c.in_ok-push-2.ensures.items in
    let second = two old (2 ∷ sender ∷ []) numbers c.push-2.new.self.items c.put_pair.new.out.items first c.in_ok-put_pair.ensures in
    two old (2 ∷ sender ∷ numbers) (c.args.handler ∷ args c.args.values.now) c.put_pair.new.out.items c.put_content.new.out.items second c.in_ok-put_content.ensures.spelled
