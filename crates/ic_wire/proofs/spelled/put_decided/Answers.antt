use Rattle.std.proofs.Common.{◌++◌, ◌∷◌, [], length}
use Rattle.std.specs.List.{flat_map}
use Rattle.std.specs.Int.{w16, to_be_bytes}
use Rattle.def_log.specs.Spelling.{number, write}
use Rattle.ic_wire.proofs.Ranges.{two}
use Rattle.ic_wire.proofs.spelled.put_decided.Goals as goal

pub returns-clause-spelled : goal.returns-clause-spelled
returns-clause-spelled c =
    let old = c.args.out.now.items in
    let stamp = number c.args.stamp in
    let pair = c.args.c.0 ∷ number c.args.n in
    let count = to_be_bytes w16 (length c.args.writes.now) in
    let first = two old (10 ∷ []) stamp c.push.new.self.items c.put_number.new.out.items c.in_ok-push.ensures.items c.in_ok-put_number.ensures in
    let second = two old (10 ∷ stamp) (c.args.c.0 ∷ []) c.put_number.new.out.items c.push-2.new.self.items first c.in_ok-push-2.ensures.items in
    let third = two old (10 ∷ (stamp ++ c.args.c.0 ∷ [])) (number c.args.n) c.push-2.new.self.items c.put_number-2.new.out.items second c.in_ok-put_number-2.ensures in
    let fourth = two old (10 ∷ (stamp ++ pair)) count c.put_number-2.new.out.items c.put_short.new.out.items third c.in_ok-put_short.ensures.spelled in
    two old (10 ∷ (stamp ++ pair ++ count)) (flat_map write c.args.writes.now) c.put_short.new.out.items c.put_writes.new.out.items fourth c.in_ok-put_writes.ensures.spelled
