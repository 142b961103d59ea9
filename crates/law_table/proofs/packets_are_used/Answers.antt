use Rattle.law_table.proofs.Rows.{stables, installeds, fetches, replies, outcomes, strangers}
use Rattle.law_table.proofs.packets_are_used.Goals as goal

pub returns : goal.returns
returns c = record { stable = stables; installed = installeds; fetch = fetches; reply = replies; outcome = outcomes; stranger = strangers }
