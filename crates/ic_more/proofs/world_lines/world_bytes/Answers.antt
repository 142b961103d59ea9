use Rattle.std.proofs.Common.{◌∙◌}
use Rattle.std.proofs.lemmas.List.{length-map}
use Rattle.ic_seat.specs.Seats.{site_of}
use Rattle.ic_two_world.specs.Views.{openings_of, world_of, seats_of}
use Rattle.ic_more.proofs.Up.{are-up}
use Rattle.ic_more.proofs.world_lines.world_bytes.Goals as goal

pub add_books-requires-clause-up : goal.add_books-requires-clause-up
add_books-requires-clause-up g c =
    are-up (openings_of c.args.world.now) (world_of c.args.world.now) c.requires.nothing (length-map (seats_of c.args.world.now) site_of ∙ c.requires.going.count)
