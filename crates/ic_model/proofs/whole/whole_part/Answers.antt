use Rattle.std.proofs.Common.{ap, sym, ◌∙◌, ◌+◌, ℤ, List, []}
use Rattle.ic_base.specs.declared.messages.Request.{Request}
use Rattle.ic_base.specs.declared.played.Played.{Played}
use Rattle.def_play.specs.Ledger.{Talk}
use Rattle.def_plain.specs.Cell.{hand_played}
use Rattle.ic_model.specs.Views.{talk_seen}
use Rattle.ic_model.proofs.Talking.{part_behind, behind_none, behind_ask, behind_ready, behind_other, behind_all}
use Rattle.ic_model.proofs.whole.whole_part.Goals as goal

abbrev told : List Request → List ℤ → List ℤ → Talk
told asked answers ledger = record { asked = asked; answers = answers; ledger = ledger }

pub loop-init : goal.loop-init
loop-init c =
    let play : List ℤ → Played = hand_played c.args.program.now c.args.«com» c.args.pcom.now c.args.hand.now in
    ap (λ asked. part_behind play 0 (told asked c.new-2.result c.args.ledger)) c.new.ensures
    ∙ ap (λ answers. part_behind play 0 (told [] answers c.args.ledger)) c.new-2.ensures
    ∙ behind_none play c.args.ledger

pub loop-preserved : goal.loop-preserved
loop-preserved c =
    let play : List ℤ → Played = hand_played c.args.program.now c.args.«com» c.args.pcom.now c.args.hand.now in
    ap (part_behind play (c.loop.counter + 1)) c.in_ok-hear-in-Asks.ensures
    ∙ sym (behind_ask play c.loop.counter (talk_seen c.loop.talk) c.in-Asks.field-0 c.in-Asks.request c.loop-test.true (sym c.in_ok-request.ensures ∙ c.in-Asks.is))
    ∙ c.loop.invariant

pub returns-in-Ready : goal.returns-in-Ready
returns-in-Ready c =
    let play : List ℤ → Played = hand_played c.args.program.now c.args.«com» c.args.pcom.now c.args.hand.now in
    sym (behind_ready play c.loop.counter (talk_seen c.loop.talk) c.in-Ready.tcom c.loop-test.true (sym c.in_ok-request.ensures ∙ c.in-Ready.is)) ∙ c.loop.invariant

pub returns-in_default : goal.returns-in_default
returns-in_default c =
    let play : List ℤ → Played = hand_played c.args.program.now c.args.«com» c.args.pcom.now c.args.hand.now in
    sym (behind_other play c.loop.counter (talk_seen c.loop.talk) c.in_ok-request.field-0 c.loop-test.true (sym c.in_ok-request.ensures) c.in_default.not-Asks c.in_default.not-Ready) ∙ c.loop.invariant

pub returns : goal.returns
returns c =
    let play : List ℤ → Played = hand_played c.args.program.now c.args.«com» c.args.pcom.now c.args.hand.now in
    sym (behind_all play c.loop.counter (talk_seen c.loop.talk) c.loop-test.false) ∙ c.loop.invariant
