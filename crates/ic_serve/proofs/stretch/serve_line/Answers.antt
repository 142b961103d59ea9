use Rattle.std.proofs.Common.{sym, subst, refl, ℕ, inl, inr}
use Rattle.ic_settle.specs.Policies.{intervals_of}
use Rattle.ic_world.proofs.Durable.{files-durable}
use Rattle.ic_serve.specs.Answering.{AnswersOver}
use Rattle.ic_serve.specs.Reading.{line_as}
use Rattle.ic_serve.proofs.Results.{on-done, on-any, on-refused}
use Rattle.ic_serve.proofs.Rounds.{serves-line}
use Rattle.ic_serve.proofs.Settled.{line-may, done-settles, done-lines}
use Rattle.ic_serve.proofs.stretch.serve_line.Goals as goal

pub answer-requires-clause-going : goal.answer-requires-clause-going
answer-requires-clause-going g c = (done-settles c.args.texts.now.program (intervals_of c.args.texts.now.policy) c.args.texts.now.policy.report (line_as c.args.service.now.lines c.args.line.now) c.args.service.now c.do_line.new.service c.args.world.now c.do_line.new.world (line-may c.args.texts.now.program c.args.service.now.lines c.args.line.now c.requires.line) c.requires.world c.requires.settled c.in-Ok.ensures.done).goes_on.going

pub answer-requires-clause-settled : goal.answer-requires-clause-settled
answer-requires-clause-settled g c = (done-settles c.args.texts.now.program (intervals_of c.args.texts.now.policy) c.args.texts.now.policy.report (line_as c.args.service.now.lines c.args.line.now) c.args.service.now c.do_line.new.service c.args.world.now c.do_line.new.world (line-may c.args.texts.now.program c.args.service.now.lines c.args.line.now c.requires.line) c.requires.world c.requires.settled c.in-Ok.ensures.done).settled

pub answer-requires-clause-kept : goal.answer-requires-clause-kept
answer-requires-clause-kept g c = files-durable c.do_line.new.world (answer-requires-clause-going g c)

pub returns-in-Ok-clause-served : goal.returns-in-Ok-clause-served
returns-in-Ok-clause-served g c =
    let mid = c.do_line.new.service in
    let same = done-lines c.args.texts.now.program (intervals_of c.args.texts.now.policy) c.args.texts.now.policy.report (line_as c.args.service.now.lines c.args.line.now) c.args.service.now mid c.args.world.now c.do_line.new.world c.in-Ok.ensures.done in
    let P : ℕ → Type 0 = λ n. AnswersOver c.do_line.new.world g.K.Sink n mid c.answer.new.service c.args.out.now c.answer.new.out in
    on-done c.answer.result c.answer.ensures.answers (λ a. record { mid = mid; done = c.in-Ok.ensures.done; settled = done-settles c.args.texts.now.program (intervals_of c.args.texts.now.policy) c.args.texts.now.policy.report (line_as c.args.service.now.lines c.args.line.now) c.args.service.now c.do_line.new.service c.args.world.now c.do_line.new.world (line-may c.args.texts.now.program c.args.service.now.lines c.args.line.now c.requires.line) c.requires.world c.requires.settled c.in-Ok.ensures.done; serves = serves-line c.args.texts.now.program (intervals_of c.args.texts.now.policy) c.args.texts.now.policy.report (line_as c.args.service.now.lines c.args.line.now) c.args.service.now mid c.args.world.now c.do_line.new.world c.answer.new.service.front.taken (line-may c.args.texts.now.program c.args.service.now.lines c.args.line.now c.requires.line) c.requires.settled c.in-Ok.ensures.done a.answers.front; answers = subst P (sym same) a })

pub returns-in-Ok-clause-world : goal.returns-in-Ok-clause-world
returns-in-Ok-clause-world g c = on-any c.answer.result (done-settles c.args.texts.now.program (intervals_of c.args.texts.now.policy) c.args.texts.now.policy.report (line_as c.args.service.now.lines c.args.line.now) c.args.service.now c.do_line.new.service c.args.world.now c.do_line.new.world (line-may c.args.texts.now.program c.args.service.now.lines c.args.line.now c.requires.line) c.requires.world c.requires.settled c.in-Ok.ensures.done)

pub returns-in-Ok-clause-short : goal.returns-in-Ok-clause-short
returns-in-Ok-clause-short g c = on-refused c.answer.result c.answer.ensures.refused (λ why fails. inr ((done-settles c.args.texts.now.program (intervals_of c.args.texts.now.policy) c.args.texts.now.policy.report (line_as c.args.service.now.lines c.args.line.now) c.args.service.now c.do_line.new.service c.args.world.now c.do_line.new.world (line-may c.args.texts.now.program c.args.service.now.lines c.args.line.now c.requires.line) c.requires.world c.requires.settled c.in-Ok.ensures.done).disks, fails))

pub returns-in-Err-clause-short : goal.returns-in-Err-clause-short
returns-in-Err-clause-short g c = inl (c.in-Err.cut, c.why_of_cut.ensures, c.in-Err.ensures.cut, refl)
