use Rattle.std.proofs.Common.{◌∙◌, ◌<◌, ◌≤◌, map, ap}
use Rattle.std.proofs.lemmas.List.Elements.{All-map}
use Rattle.ic_edge.specs.RoomyShelf.{due_at_once}
use Rattle.ic_edge.proofs.Mapped.{AllPairs-map}
use Rattle.ic_edge.proofs.Waitings.{number_of, shelf_of}
use Rattle.ic_edge.proofs.shelf.Shelf.from_parts.Goals as goal

pub invariant_of-result : goal.invariant_of-result
invariant_of-result c =
    rw (c.from_vec.ensures.items, c.in_ok-waiting.ensures, c.as_slice.ensures) (
      AllPairs-map due_at_once (λ x y. number_of x < number_of y) _ c.requires.rising,
      All-map (λ x. number_of x ≤ c.args.made) due_at_once _ c.requires.counted,
    )

pub returns : goal.returns
returns c = ap (λ ws. shelf_of ws c.args.made) (c.from_vec.ensures.items ∙ c.in_ok-waiting.ensures ∙ ap (map due_at_once) c.as_slice.ensures)
