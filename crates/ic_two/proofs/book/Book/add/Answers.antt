use Rattle.std.proofs.Common.{sym, subst, List}
use Rattle.def_two.specs.declared.moves.Record2.{Record2}
use Rattle.ic_two.specs.Books.{opening_of, records_of}
use Rattle.ic_two.specs.Views as views
use Rattle.ic_two.proofs.Kept.{Kept, of_log, same_kept, next_kept, entered}
use Rattle.ic_two.proofs.Serving.{kept_in}
use Rattle.ic_two.proofs.book.Book.add.Goals as goal

pub enter-requires-clause-of_log : goal.enter-requires-clause-of_log
enter-requires-clause-of_log g c =
    let old = c.args.self.now in
    of_log c.reserve.new.self (opening_of old) (records_of old) (same_kept old.core c.reserve.new.self (opening_of old) (records_of old) c.reserve.ensures.same (kept_in {D = g.row.D.Denot} {d = g.D.Disk} old))

pub invariant_of-self-in-Ok : goal.invariant_of-self-in-Ok
invariant_of-self-in-Ok g c =
    let old = c.args.self.now in
    let mid = c.reserve.new.self in
    let k = kept_in {D = g.row.D.Denot} {d = g.D.Disk} old in
    let next = next_kept old.core mid (opening_of old) (records_of old) c.args.r c.reserve.ensures.same k c.requires.next in
    let now = entered mid c.enter.new.self (opening_of old) (records_of old) (views.records_of c.commit.new.self) c.args.r (same_kept old.core mid (opening_of old) (records_of old) c.reserve.ensures.same k) c.enter.ensures.number c.enter.ensures.state c.enter.ensures.of_log next (c.in-Ok.ensures {u = tt}).step.records in
    record { state = now.state; ready = now.ready; good = now.good; bounded = now.bounded }

pub invariant_of-self-in-Err-1 : goal.invariant_of-self-in-Err-1
invariant_of-self-in-Err-1 g c =
    let old = c.args.self.now in
    let mid = c.reserve.new.self in
    let k = same_kept old.core mid (opening_of old) (records_of old) c.reserve.ensures.same (kept_in {D = g.row.D.Denot} {d = g.D.Disk} old) in
    let now = subst (λ (l : List Record2). Kept mid (opening_of old) l) (sym (c.in-Err.ensures {u = tt}).kept) k in
    record { state = now.state; ready = now.ready; good = now.good; bounded = now.bounded }
