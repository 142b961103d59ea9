use Rattle.std.proofs.Common.{◌≡◌, ◌∙◌, sym, ap, subst, true, false, List, []}
use Rattle.std.specs.Prelude.{map, is_some, option_to_list}
use Rattle.ic_base.specs.declared.messages.Packet.{Packet}
use Rattle.def_state.specs.Vol.{Vol, numbers_fit}
use Rattle.def_step.specs.Pcom as step
use Rattle.def_step.specs.Pcom.{nothing_at_all, needed, fetch_packet}
use Rattle.ic_in.specs.Senders.{are_components}
use Rattle.ic_replay.specs.Playing.{IsWaiting}
use Rattle.ic_replay.specs.Replaying.{Replaying, identity_of}
use Rattle.ic_pcom.specs.Views.{told_of}
use Rattle.ic_pcom.proofs.Stands.{some_mapped, none_mapped, waits_or_done, waits_stage, waits_stand, done_stage, done_stands}
use Rattle.ic_pcom.proofs.recovering.stand.Goals as goal

pub returns-then-is_some-clause-stage : goal.returns-then-is_some-clause-stage
returns-then-is_some-clause-stage c =
    let r = c.args.replay in
    let Limits : Replaying → Type 0 = λ x. numbers_fit x.playing.vol ≡ true in
    let some : is_some (needed r.playing.rest) ≡ true = some_mapped identity_of c.needs-2.result (needed r.playing.rest) c.needs-2.ensures (sym c.is_some.ensures ∙ c.if-is_some.true) in
    waits_stage c.args.places r some (subst Limits c.replay.view_is c.replay.invariant.limits) c.requires.peers

pub returns-then-is_some-clause-stands : goal.returns-then-is_some-clause-stands
returns-then-is_some-clause-stands c =
    let r = c.args.replay in
    waits_stand c.args.places r (some_mapped identity_of c.needs-2.result (needed r.playing.rest) c.needs-2.ensures (sym c.is_some.ensures ∙ c.if-is_some.true))

pub returns-then-is_some-clause-told : goal.returns-then-is_some-clause-told
returns-then-is_some-clause-told c p =
    c.told-told.ensures p ∙ ap (λ (xs : List Packet). told_of (step.told p xs nothing_at_all)) (c.in_ok-puts.ensures ∙ ap (λ o. map (fetch_packet c.args.«com») (option_to_list o)) c.needs.ensures)

pub returns-clause-told : goal.returns-clause-told
returns-clause-told c p =
    c.told-told.ensures p ∙ ap (λ (xs : List Packet). told_of (step.told p xs nothing_at_all)) (c.in_ok-puts.ensures ∙ ap (λ o. map (fetch_packet c.args.«com») (option_to_list o)) c.needs.ensures)

pub returns-clause-stage : goal.returns-clause-stage
returns-clause-stage c =
    let r = c.args.replay in
    let Waits : Replaying → Type 0 = λ x. IsWaiting x.playing.vol x.playing.rest in
    let Limits : Replaying → Type 0 = λ x. numbers_fit x.playing.vol ≡ true in
    let none : is_some c.needs-2.result ≡ false = sym c.is_some.ensures ∙ c.if-is_some.false in
    let done : r.playing.rest ≡ [] = waits_or_done r.playing.vol r.playing.rest (subst Waits c.replay.view_is c.replay.invariant.waiting) (none_mapped identity_of c.needs-2.result (needed r.playing.rest) c.needs-2.ensures none) in
    let is = c.finish-state.ensures.state in
    done_stage c.args.places r c.finish-state.result.0 done (ap numbers_fit is ∙ subst Limits c.replay.view_is c.replay.invariant.limits) (ap (λ (v : Vol). are_components v.inbox.taken) is ∙ c.requires.peers)

pub returns-clause-stands : goal.returns-clause-stands
returns-clause-stands c =
    let r = c.args.replay in
    let Waits : Replaying → Type 0 = λ x. IsWaiting x.playing.vol x.playing.rest in
    let none : is_some c.needs-2.result ≡ false = sym c.is_some.ensures ∙ c.if-is_some.false in
    let done : r.playing.rest ≡ [] = waits_or_done r.playing.vol r.playing.rest (subst Waits c.replay.view_is c.replay.invariant.waiting) (none_mapped identity_of c.needs-2.result (needed r.playing.rest) c.needs-2.ensures none) in
    done_stands r c.finish-state.result.0 done c.finish-state.ensures.state
