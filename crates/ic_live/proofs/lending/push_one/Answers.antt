use Rattle.std.proofs.Common.{◌≡◌, ◌∙◌, ap, sym, subst, refl, rules, length, true, List, [], ◌∷◌, take, get_or}
use Rattle.std.specs.Prelude.{slice_set}
use Rattle.std.proofs.lemmas.List.{take_more}
use Rattle.std.proofs.lemmas.Option.{slice_get_read, slice_get-get_or}
use Rattle.ic_base.specs.declared.messages.ComId.{ComId}
use Rattle.ic_base.specs.Programs.{same_com}
use Rattle.def_step.specs.Packets.{receiver_of}
use Rattle.ic_lane.specs.Lanes.{Out, IsFresh}
use Rattle.ic_live.specs.Ends.{is_among, sent_to, ArePushed}
use Rattle.ic_live.proofs.Ends.{peer-read, among-push, com-is, com-not}
use Rattle.ic_live.proofs.Pushes.{pushed-or_full}
use Rattle.ic_live.proofs.lending.push_one.Goals as goal

pub push-requires : goal.push-requires
push-requires g c =
    let there = slice_get_read c.loop-at.outs.items (length c.loop-at.outs.items) c.loop-at.at c.index_mut.result.now refl (search rules) c.index_mut.ensures.value in
    let d : ComId = get_or c.args.peers.now c.loop-at.at (record { 0 = 0 }) in
    let goes = subst (λ z. same_com z d ≡ true) c.receiver_of-to.ensures (com-is c.receiver_of-to.result d c.if-to-peers.true) in
    record {
      fresh = λ honest. subst (λ l. IsFresh l c.args.p.now)
          (ap (λ os. sent_to c.args.peers.now os (receiver_of c.args.p.now)) (sym c.loop-at.invariant.0) ∙ peer-read [] (λ (o : Out). o.sent) c.args.peers.now c.loop-at.outs.items c.loop-at.at d (receiver_of c.args.p.now) c.index_mut.result.now c.requires.apart (slice_get-get_or c.args.peers.now c.loop-at.at (record { 0 = 0 }) c.loop-at-test.true) there goes)
          (c.requires.fresh honest);
    }

pub returns-then-to-peers : goal.returns-then-to-peers
returns-then-to-peers g c =
    let there = slice_get_read c.loop-at.outs.items (length c.loop-at.outs.items) c.loop-at.at c.index_mut.result.now refl (search rules) c.index_mut.ensures.value in
    let d : ComId = get_or c.args.peers.now c.loop-at.at (record { 0 = 0 }) in
    let goes = subst (λ z. same_com z d ≡ true) c.receiver_of-to.ensures (com-is c.receiver_of-to.result d c.if-to-peers.true) in
    let pushed = pushed-or_full c.args.c c.args.peers.now c.loop-at.outs.items c.loop-at.at d c.index_mut.result.now c.push.new.self c.args.p.now c.requires.apart (slice_get-get_or c.args.peers.now c.loop-at.at (record { 0 = 0 }) c.loop-at-test.true) there c.push.ensures.lane (search rules) goes c.push.result c.push.ensures.ok c.push.ensures.full in
    let P : List Out → Type 0 = λ os. ArePushed c.args.c c.args.peers.now os (slice_set c.loop-at.outs.items c.loop-at.at c.push.new.self) (c.args.p.now ∷ []) in
    subst P c.loop-at.invariant.0 pushed

pub loop-at-preserved : goal.loop-at-preserved
loop-at-preserved g c = (
  c.loop-at.invariant.0,
  ap (λ l. is_among l c.receiver_of-to.result) (take_more c.args.peers.now c.loop-at.at (record { 0 = 0 }) c.loop-at-test.true) ∙ among-push (take c.loop-at.at c.args.peers.now) (get_or c.args.peers.now c.loop-at.at (record { 0 = 0 })) c.receiver_of-to.result c.loop-at.invariant.1 (com-not c.receiver_of-to.result (get_or c.args.peers.now c.loop-at.at (record { 0 = 0 })) c.if-to-peers.false),
)
