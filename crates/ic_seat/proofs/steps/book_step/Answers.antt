use Rattle.std.proofs.Common.{◌∙◌, sym, ap, subst, List, Some, Ok, Err, Vec, Global}
use Rattle.def_two.specs.declared.moves.Packet2.{Packet2}
use Rattle.def_two.specs.Chief.{Call}
use Rattle.ic_seat.specs.Seats.{call_of}
use Rattle.ic_seat.specs.Steps.{StepsOver}
use Rattle.ic_seat.specs.declared.seat.Seat.TheVariants as seats
use Rattle.ic_seat.proofs.Ends.{hears-of, answered-some, answered-none, none-of}
use Rattle.ic_seat.proofs.Stepped.{book_lacks, book_idle, book_serves, book_refuses}
use Rattle.ic_seat.proofs.steps.book_step.Goals as goal
use Rattle.ic_seat.proofs.steps.book_step.Goals.{in-Some, in_default-answer}

pub returns-in_default : goal.returns-in_default
returns-in_default g c =
    let law = g.met.D.Disk in
    book_lacks {D = g.row.D.Denot} {d = g.D.Disk} c.args.book.now c.requires.open law.only_now law.keeping_tells (λ told. c.size.ensures.of_file told c.requires.open ∙ ap Some c.size.ensures.value) (call_of c.args.call.now)

pub returns-in_default-call : goal.returns-in_default-call
returns-in_default-call g c =
    let x = c.args.book.now in
    let law = g.met.D.Disk in
    let P : List Packet2 → Type 0 = λ l. StepsOver {D = g.row.D.Denot} {d = g.D.Disk} (seats.Book x) (call_of c.args.call.now) (seats.Book x) (Ok l) in
    subst P (sym (c.from_vec.ensures ∙ (c.in-Ok.ensures {u = tt}).items))
    (book_idle {D = g.row.D.Denot} {d = g.D.Disk} x c.requires.open law.only_now law.keeping_tells (λ told. c.size.ensures.of_file told c.requires.open ∙ ap Some c.size.ensures.value) (call_of c.args.call.now) (λ p e. c.in_default-call.not-Hears p (hears-of c.args.call.now p e)))

pub returns-after-answer : goal.returns-after-answer
returns-after-answer g c =
    let old = c.args.book.now in
    let new = c.on_packet.new.self in
    let e = c.on_packet.ensures in
    let ok = c.in-Ok-on_packet.ensures {u = tt} in
    let P : Call → Type 0 = λ k. StepsOver {D = g.row.D.Denot} {d = g.D.Disk} (seats.Book old) k (seats.Book new) (Ok c.from_vec-in-Ok-on_packet.result) in
    let none = (c.in-Ok.ensures {u = tt}).items in
    let is = c.from_vec-in-Ok-on_packet.ensures ∙ (elim c.match-answer.branch [
      | in-Some w ↦ answered-some c.in-Ok-on_packet.answer w.in-Some.packet c.in-Ok.puts.items c.match-answer.puts.items w.in-Some.is none (ap (λ (v : Vec Packet2 Global). v.items) w.puts-is ∙ w.push_reserved.ensures.items)
      | in_default-answer w ↦ answered-none c.in-Ok-on_packet.answer c.match-answer.puts.items (none-of c.in-Ok-on_packet.answer w.in_default-answer.not-Some) (ap (λ (v : Vec Packet2 Global). v.items) w.puts-is ∙ none)
    ]) in
    subst P (ap call_of (sym c.in-Hears.is))
    (book_serves {D = g.row.D.Denot} {d = g.D.Disk} old new c.in-Hears.p e.log (λ told. c.size.ensures.of_file told c.requires.open ∙ ap Some c.size.ensures.value) e.crash c.in-Ok-on_packet.answer c.from_vec-in-Ok-on_packet.result is ok.calls ok.step)

pub returns-in-Err : goal.returns-in-Err
returns-in-Err g c =
    let old = c.args.book.now in
    let new = c.on_packet.new.self in
    let e = c.on_packet.ensures in
    let err = c.in-Err.ensures {u = tt} in
    let P : Call → Type 0 = λ k. StepsOver {D = g.row.D.Denot} {d = g.D.Disk} (seats.Book old) k (seats.Book new) (Err c.in-Err.why) in
    subst P (ap call_of (sym c.in-Hears.is)) (book_refuses {D = g.row.D.Denot} {d = g.D.Disk} old new c.in-Hears.p e.log (λ told. c.size.ensures.of_file told c.requires.open ∙ ap Some c.size.ensures.value) e.crash c.in-Err.why err.calls err.refused)
