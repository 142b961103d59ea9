use Rattle.std.proofs.Common.{◌++◌, ◌∷◌, []}
use Rattle.std.specs.Int.{w16, to_be_bytes}
use Rattle.def_log.specs.Spelling.{number, session, value}
use Rattle.ic_wire.proofs.Ranges.{two}
use Rattle.ic_wire.proofs.spelled.put_answer.Goals as goal

pub returns-clause-spelled : goal.returns-clause-spelled
returns-clause-spelled c =
    let begun = two c.args.out.now.items (4 ∷ []) (number c.args.n) c.push.new.self.items c.put_number.new.out.items c.in_ok-push.ensures.items c.in_ok-put_number.ensures in
    let placed = two c.args.out.now.items (4 ∷ number c.args.n) (to_be_bytes w16 c.args.place) c.put_number.new.out.items c.put_short.new.out.items begun c.in_ok-put_short.ensures.spelled in
    two c.args.out.now.items (4 ∷ (number c.args.n ++ to_be_bytes w16 c.args.place)) (session c.args.given ++ value c.args.x.now) c.put_short.new.out.items c.put_session.new.out.items placed c.in_ok-put_session.ensures.spelled
