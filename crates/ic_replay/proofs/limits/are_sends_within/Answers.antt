use Rattle.std.proofs.Common.{◌≡◌, ◌∙◌, ◌+◌, ◌&&◌, true, false, take, ap, sym, arith}
use Rattle.std.specs.List.{count_by}
use Rattle.std.proofs.lemmas.Bool.{and_right, lt-leb, le-leb}
use Rattle.ic_base.specs.declared.messages.Send.{Send}
use Rattle.ic_base.specs.Programs.{same_com}
use Rattle.def_state.specs.Names.{number_of}
use Rattle.ic_replay.specs.Limits.{are_within, links_behind}
use Rattle.ic_replay.proofs.Sending.{is_within, within_more, pass_all}
use Rattle.ic_replay.proofs.limits.are_sends_within.Goals as goal

pub returns-then-saturating_add-ge-GREATEST_NUMBER : goal.returns-then-saturating_add-ge-GREATEST_NUMBER
returns-then-saturating_add-ge-GREATEST_NUMBER c =
    let links = c.args.outbox.now.seen.links in
    let s = c.index-sends-i.result in
    let ss = c.args.sends.now in
    let before = count_by (λ (x : Send). same_com s.to x.to) (take c.loop-i.i ss) in
    let counted : c.sends_to-before.result ≡ before = c.sends_to-before.ensures ∙ ap (λ (x : Send). count_by (λ (y : Send). same_com x.to y.to) (take c.loop-i.i ss)) (sym c.index-sends-i.is) in
    let number : c.sent.result ≡ number_of 0 links s.to = c.sent.ensures ∙ ap (λ (x : Send). number_of 0 links x.to) (sym c.index-sends-i.is) in
    let past : is_within (number_of 0 links s.to + before + 1) ≡ false = lt-leb _ _ (omega (arith, counted, number, c.saturating_add.ensures)) in
    sym (pass_all links ss (c.loop-i.i + 1) (within_more links ss c.loop-i.i s c.loop-i-test.true c.index-sends-i.is ∙ and_right (are_within (links_behind links (take c.loop-i.i ss))) _ past))

pub loop-i-preserved : goal.loop-i-preserved
loop-i-preserved c =
    let links = c.args.outbox.now.seen.links in
    let s = c.index-sends-i.result in
    let ss = c.args.sends.now in
    let before = count_by (λ (x : Send). same_com s.to x.to) (take c.loop-i.i ss) in
    let counted : c.sends_to-before.result ≡ before = c.sends_to-before.ensures ∙ ap (λ (x : Send). count_by (λ (y : Send). same_com x.to y.to) (take c.loop-i.i ss)) (sym c.index-sends-i.is) in
    let number : c.sent.result ≡ number_of 0 links s.to = c.sent.ensures ∙ ap (λ (x : Send). number_of 0 links x.to) (sym c.index-sends-i.is) in
    let within : is_within (number_of 0 links s.to + before + 1) ≡ true = le-leb _ _ (omega (arith, counted, number, c.saturating_add.ensures)) in
    within_more links ss c.loop-i.i s c.loop-i-test.true c.index-sends-i.is ∙ ap (λ b. b && is_within (number_of 0 links s.to + before + 1)) c.loop-i.invariant ∙ within
