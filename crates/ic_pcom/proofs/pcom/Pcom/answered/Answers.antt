use Rattle.std.proofs.Common.{◌≡◌, ◌∙◌, sym, ap, true, List}
use Rattle.std.specs.Prelude.{not, map, option_to_list}
use Rattle.ic_base.specs.declared.messages.Packet.{Packet}
use Rattle.ic_base.specs.declared.messages.Packet.TheVariants.{Data}
use Rattle.def_step.specs.Pcom as step
use Rattle.def_step.specs.Pcom.{Gets, told, nothing_at_all}
use Rattle.ic_pcom.specs.Feeding.{asked}
use Rattle.ic_pcom.specs.Views.{component_of, told_of}
use Rattle.ic_pcom.proofs.Feeds.{others_stay}
use Rattle.ic_pcom.proofs.Idle.{stays_does}
use Rattle.ic_pcom.proofs.Steps.{replays_within}
use Rattle.ic_pcom.proofs.pcom.Pcom.answered.Goals as goal

pub returns : goal.returns
returns g c =
    let p = c.args.self.now in
    let q = component_of p in
    let packet = c.args.p.now in
    let program = c.args.program.now in
    let replays : step.is_replaying q ≡ true = ap not (sym p.rests ∙ c.requires.replays) in
    let puts : c.in_ok-puts.puts.items ≡ map Data (option_to_list c.asked.result) = c.in_ok-puts.ensures in
    let makes = others_stay program p.«com» q packet replays c.requires.other in
    stays_does program p (Gets packet) (map Data (option_to_list (asked program p.«com» q packet))) nothing_at_all c.told.result makes (replays_within program p (Gets packet) replays) c.requires.open
    (c.told.ensures q ∙ ap (λ (xs : List Packet). told_of (told q xs nothing_at_all)) (puts ∙ ap (λ m. map Data (option_to_list m)) c.asked.ensures))
