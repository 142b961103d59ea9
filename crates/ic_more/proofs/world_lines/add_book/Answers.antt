use Rattle.std.proofs.Common.{◌∙◌, ap, ◌∷◌, map, codes}
use Rattle.std.specs.Prelude.{decimal}
use Rattle.def_two.specs.World.{book_at}
use Rattle.ic_report.specs.Said.{said}
use Rattle.ic_report.proofs.Saying.{said-ends}
use Rattle.ic_two_world.specs.Views.{openings_of, world_of}
use Rattle.ic_more.proofs.world_lines.add_book.Goals as goal

pub returns : goal.returns
returns g c =
    let words = map decimal (book_at (openings_of c.args.world.now) (world_of c.args.world.now) c.args.book).values in
    said-ends c.args.out.now.items c.extend_from_slice.new.self.items c.add_values.new.out.items c.push.new.self.items (codes "book") (c.args.name.now ∷ words)
    ((c.in_ok-extend_from_slice.ensures {u = tt}).items) (c.in_ok-add_values.ensures {u = tt} ∙ ap (λ t. said t words) (c.in_ok-add_word.ensures {u = tt})) ((c.in_ok-push.ensures {u = tt}).items)
