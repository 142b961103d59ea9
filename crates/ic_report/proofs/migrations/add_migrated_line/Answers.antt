use Rattle.std.proofs.Common.{◌++◌, ◌∙◌, ◌∷◌, [], ap, length}
use Rattle.std.specs.Prelude.{codes, decimal}
use Rattle.def_report.specs.Words.{name_of}
use Rattle.ic_report.proofs.Saying.{said-ends}
use Rattle.ic_report.proofs.migrations.add_migrated_line.Goals as goal

pub returns : goal.returns
returns c =
    let start = c.extend_from_slice.new.self.items in
    said-ends c.args.out.now.items start c.add_number.new.out.items c.push.new.self.items
    (codes "migrated") (name_of c.args.program.now c.args.«com» ∷ decimal (length c.args.log.now) ∷ [])
    c.in_ok-extend_from_slice.ensures.items
    (c.in_ok-add_number.ensures ∙ ap (λ t. t ++ 32 ∷ decimal (length c.args.log.now)) (c.in_ok-add_word.ensures ∙ ap (λ w. start ++ 32 ∷ w) c.name_of.ensures))
    c.in_ok-push.ensures.items
