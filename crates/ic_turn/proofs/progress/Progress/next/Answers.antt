use Rattle.std.proofs.Common.{◌∙◌, sym, ap, refl, rules, arith, length}
use Rattle.std.specs.Prelude.{slice_get}
use Rattle.std.proofs.lemmas.Option.{slice_get_read}
use Rattle.ic_turn.proofs.Lists.{next-is}
use Rattle.ic_turn.proofs.progress.Progress.next.Goals as goal

pub returns-in-Some : goal.returns-in-Some
returns-in-Some c =
    let xs = c.args.self.now.events in
    next-is xs (length c.args.self.now.answers) c.in-Some.event.now (ap (λ n. slice_get xs n) (sym c.len.ensures) ∙ slice_get_read xs (length xs) c.len.result c.in-Some.event.now refl (search (rules, arith)) (search rules))
