use Rattle.std.proofs.Common.{◌≡◌, ◌∙◌, sym, ap, subst, ◌+◌, ◌≤◌, ◌++◌, true, false, cond, List, [], length, None}
use Rattle.std.specs.Prelude.{is_some}
use Rattle.std.specs.Vec.{vec_capacity}
use Rattle.ic_base.specs.declared.messages.Packet.{Packet}
use Rattle.def_state.specs.Inbox.{acks}
use Rattle.def_state.specs.Outbox.{due_messages}
use Rattle.def_state.specs.Vol.{Vol, numbers_fit, regenerated}
use Rattle.def_step.specs.Pcom as step
use Rattle.def_step.specs.Pcom.{StepResult, needed, told, after_tail, tail_packets}
use Rattle.ic_ckpt.specs.Views.{seen}
use Rattle.ic_in.specs.Senders.{are_components}
use Rattle.ic_replay.specs.Replaying.{identity_of}
use Rattle.ic_pcom.specs.Carrying.{up}
use Rattle.ic_pcom.specs.Views.{told_of}
use Rattle.ic_pcom.specs.declared.step.Step.{Step}
use Rattle.ic_pcom.proofs.Feeds.{fed_on, room_to_tell}
use Rattle.ic_pcom.proofs.Stands.{some_mapped, none_mapped, done_stage, fed_done}
use Rattle.ic_pcom.proofs.recovering.fed_to.Goals as goal

pub returns-then-is_some-clause-told : goal.returns-then-is_some-clause-told
returns-then-is_some-clause-told c log end =
    let x = c.args.replay.playing in
    let q : step.Pcom = record { log = log; vol = x.vol; rest = x.rest } in
    let waits : is_some (needed x.rest) ≡ true = some_mapped identity_of c.needs.result (needed x.rest) c.needs.ensures (sym c.is_some.ensures ∙ c.if-is_some.true) in
    c.told-told.ensures q ∙ ap (λ (xs : List Packet). told_of (record { pcom = q; puts = xs; word = step.Fed; shown = None; aborted = None })) c.requires.empty
    ∙ sym (ap told_of (fed_on c.args.«com» log x.vol x.rest waits))

pub put_out-requires : goal.put_out-requires
put_out-requires c =
    let v = c.args.replay.playing.vol in
    let n = length c.args.puts.items in
    let Room : Vol → Type 0 = λ w. n + length (acks w.inbox c.args.forced) + length (due_messages w.outbox c.args.forced) + cond w.owes_drop 1 0 + 0 ≤ vec_capacity c.args.puts in
    record { room = subst Room (sym c.finish-state.ensures.state) (room_to_tell n (vec_capacity c.args.puts) c.args.forced v (ap length c.requires.empty) c.requires.room) }

pub returns-clause-stage : goal.returns-clause-stage
returns-clause-stage c log end =
    let r = c.args.replay in
    let none : is_some c.needs.result ≡ false = sym c.is_some.ensures ∙ c.if-is_some.false in
    let done : r.playing.rest ≡ [] = c.requires.waits (none_mapped identity_of c.needs.result (needed r.playing.rest) c.needs.ensures none) in
    let w : Vol = seen c.finish-state.result.0 in
    let marked : seen c.put_out.new.state ≡ (after_tail (up log w)).vol = c.put_out.ensures.marked log [] end in
    done_stage c.args.places r c.put_out.new.state done (ap numbers_fit marked ∙ ap numbers_fit c.finish-state.ensures.state ∙ c.requires.limits)
    (ap (λ (v : Vol). are_components v.inbox.taken) marked ∙ ap (λ (v : Vol). are_components v.inbox.taken) c.finish-state.ensures.state ∙ c.requires.peers)

pub returns-clause-fed : goal.returns-clause-fed
returns-clause-fed c log end =
    let r = c.args.replay in
    let none : is_some c.needs.result ≡ false = sym c.is_some.ensures ∙ c.if-is_some.false in
    let done : r.playing.rest ≡ [] = c.requires.waits (none_mapped identity_of c.needs.result (needed r.playing.rest) c.needs.ensures none) in
    let w : Vol = seen c.finish-state.result.0 in
    let marked : seen c.put_out.new.state ≡ (after_tail (up log w)).vol = c.put_out.ensures.marked log [] end in
    ap (λ (v : Vol). up log v) (marked ∙ ap (λ (v : Vol). (after_tail (up log v)).vol) c.finish-state.ensures.state)
    ∙ sym (ap (λ (t : StepResult). t.pcom) (fed_done c.args.«com» log r.playing.vol r.playing.rest done))

pub returns-clause-told : goal.returns-clause-told
returns-clause-told c log end =
    let r = c.args.replay in
    let none : is_some c.needs.result ≡ false = sym c.is_some.ensures ∙ c.if-is_some.false in
    let done : r.playing.rest ≡ [] = c.requires.waits (none_mapped identity_of c.needs.result (needed r.playing.rest) c.needs.ensures none) in
    let w : Vol = seen c.finish-state.result.0 in
    let q : step.Pcom = after_tail (up log (regenerated r.playing.vol)) in
    let tell : List Packet → Step = λ xs. told_of (record { pcom = q; puts = xs; word = step.Fed; shown = None; aborted = None }) in
    c.told.ensures q ∙ ap tell (c.put_out.ensures.packets log [] end ∙ ap (λ (xs : List Packet). xs ++ tail_packets c.args.«com» false (up log w)) c.requires.empty ∙ ap (λ (v : Vol). tail_packets c.args.«com» false (up log v)) c.finish-state.ensures.state)
    ∙ sym (ap told_of (fed_done c.args.«com» log r.playing.vol r.playing.rest done))
