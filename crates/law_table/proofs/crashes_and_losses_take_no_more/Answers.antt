use Rattle.law_table.proofs.Worlds.{crashes_leave, losses_take}
use Rattle.law_table.proofs.crashes_and_losses_take_no_more.Goals as goal

pub returns : goal.returns
returns c = record { crash = crashes_leave; lose = losses_take }
