use Rattle.std.proofs.Common.{refl, subst}
use Rattle.ic_world.proofs.Durable.{files-durable}
use Rattle.ic_serve.specs.Worlds.{MayComeFirst}
use Rattle.ic_serve.proofs.Results.{on-done, on-any, on-refused}
use Rattle.ic_serve.proofs.Settled.{stays-settled}
use Rattle.ic_serve.proofs.stretch.answer_first.Goals as goal

pub returns-in-Opening-clause-answers : goal.returns-in-Opening-clause-answers
returns-in-Opening-clause-answers g c = rw c.in-Opening.is (on-done c.answer.result c.answer.ensures.answers (λ a. (a, refl)))

pub returns-in-Opening-clause-world : goal.returns-in-Opening-clause-world
returns-in-Opening-clause-world g c = on-any c.answer.result (stays-settled c.args.texts.now.program c.args.world.now c.args.world.now c.requires.world c.requires.settled refl)

pub answer-requires-clause-kept : goal.answer-requires-clause-kept
answer-requires-clause-kept g c = files-durable c.args.world.now c.requires.world.going

pub returns-in-Opening-clause-short : goal.returns-in-Opening-clause-short
returns-in-Opening-clause-short g c = rw c.in-Opening.is (on-refused c.answer.result c.answer.ensures.refused (λ why f. (f, refl)))

pub serve_line-requires-clause-line : goal.serve_line-requires-clause-line
serve_line-requires-clause-line g c = subst (MayComeFirst c.args.texts.now.program) c.in-Line.is c.requires.line

pub returns-in-Line-clause-answers : goal.returns-in-Line-clause-answers
returns-in-Line-clause-answers g c = rw c.in-Line.is c.serve_line.ensures.served

pub returns-in-Line-clause-short : goal.returns-in-Line-clause-short
returns-in-Line-clause-short g c = rw c.in-Line.is c.serve_line.ensures.short
