use Rattle.law_settle.proofs.Asking.{settles_at_kept}
use Rattle.law_settle.proofs.Reaching.{first_world_puts_to_kept, found_world_puts_to_kept, events_put_to_kept, oldest_goes_to_kept}
use Rattle.law_settle.proofs.packets_go_to_components_with_disks.Goals as goal

pub returns : goal.returns
returns c = record { first = first_world_puts_to_kept; found = found_world_puts_to_kept; events = events_put_to_kept; oldest = oldest_goes_to_kept; settles = settles_at_kept }
