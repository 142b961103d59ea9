use Rattle.std.proofs.Common.{◌≡◌, ◌∙◌, ◌+◌, ◌&&◌, true, false, List, length, ap, sym, arith}
use Rattle.std.proofs.lemmas.Bool.{and_left, lt-leb, le-leb}
use Rattle.ic_base.specs.declared.messages.Send.{Send}
use Rattle.ic_base.specs.declared.played.Played.{Played}
use Rattle.def_state.specs.Vol.{numbers_fit, come_to}
use Rattle.ic_ckpt.specs.Views.{seen}
use Rattle.ic_replay.specs.Applying.{entered}
use Rattle.ic_replay.specs.Limits.{are_within, links_behind}
use Rattle.ic_replay.proofs.Sending.{is_within}
use Rattle.ic_replay.proofs.Entering.{ends_within}
use Rattle.ic_replay.proofs.limits.is_play_within.Goals as goal

pub returns-then-made-le-GREATEST_NUMBER : goal.returns-then-made-le-GREATEST_NUMBER
returns-then-made-le-GREATEST_NUMBER c d at p clock =
    let v = seen c.args.state.now in
    let r = c.args.stored.now in
    let made : is_within (v.shelf.made + length c.in-Ends.outs) ≡ true = le-leb _ _ (omega (arith, c.made.ensures, c.len.ensures, c.saturating_add-made.ensures)) in
    c.are_sends_within.ensures ∙ ap (λ (xs : List Send). are_within (links_behind v.outbox.links xs)) c.as_slice.ensures
    ∙ sym (ap (λ b. b && are_within (links_behind v.outbox.links c.in-Ends.sends)) made)
    ∙ sym (ap (λ (x : Played). numbers_fit (come_to d at (entered at p v r) x)) c.in-Ends.is ∙ ends_within d at p v r c.in-Ends.field-0 c.in-Ends.sends c.in-Ends.outs c.requires clock)

pub returns-else-made-le-GREATEST_NUMBER : goal.returns-else-made-le-GREATEST_NUMBER
returns-else-made-le-GREATEST_NUMBER c d at p clock =
    let v = seen c.args.state.now in
    let r = c.args.stored.now in
    let past : is_within c.saturating_add-made.result ≡ false = lt-leb _ _ c.if-made-le-GREATEST_NUMBER.false in
    let made : is_within (v.shelf.made + length c.in-Ends.outs) ≡ false = lt-leb _ _ (omega (arith, c.made.ensures, c.len.ensures, c.saturating_add-made.ensures)) in
    past ∙ sym (ap (λ (x : Played). numbers_fit (come_to d at (entered at p v r) x)) c.in-Ends.is ∙ ends_within d at p v r c.in-Ends.field-0 c.in-Ends.sends c.in-Ends.outs c.requires clock ∙ and_left _ _ made)
