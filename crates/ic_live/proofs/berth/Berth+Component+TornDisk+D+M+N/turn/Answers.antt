use Rattle.std.proofs.Common.{◌≡◌, ◌∙◌, refl, sym, ap, subst, ◌+◌, List, None}
use Rattle.ic_base.specs.declared.refusals.WorldRefused.TheVariants.{Memory}
use Rattle.def_live.specs.Turns.{Pop}
use Rattle.ic_node.specs.Meeting.{CrashAdds}
use Rattle.ic_disk.specs.Torns.{torn}
use Rattle.ic_node.specs.Views.{com_of, node_of, disk_of}
use Rattle.ic_turn.specs.Choices.{intervals_of}
use Rattle.ic_turn.specs.Doing.{standing_of, choice_adds}
use Rattle.ic_turn.specs.Progresses.{left_of, turns_of, received_of, packets_of}
use Rattle.ic_work.proofs.Rests.{kept-itself, component-rests}
use Rattle.ic_turn.specs.Standings.{counted}
use Rattle.ic_live.specs.Berths.{Berthed, ActsBy, PopsBy, turn_choice}
use Rattle.ic_live.specs.Carrying.{FailsToCarryOut}
use Rattle.ic_live.specs.Ends.{AreApart}
use Rattle.ic_live.proofs.Acting.{pops-by, turn-acting, turn-ends, turn-pops}
use Rattle.ic_live.proofs.Berths.{turn-next, memory-fails}
use Rattle.ic_live.proofs.Moored.{peers-apart}
use Rattle.ic_live.proofs.Sounds.{sounds-carried}
use Rattle.ic_live.proofs.berth.Berth+Component+TornDisk+D+M+N.turn.Goals as goal

pub pops-came-requires-clause-apart : goal.pops-came-requires-clause-apart
pops-came-requires-clause-apart g c =
    let N = g.N.Scene in
    let i = c.self.inside in
    subst AreApart (sym c.as_slice-peers.ensures.value) (peers-apart (FailsToCarryOut g.D.Disk) N.program N.fingerprint N.plan N.lane N.began g.M.Mark.honest i.fingerprint i.peers.items _ c.self.invariant)

pub carry_out-requires-clause-there : goal.carry_out-requires-clause-there
carry_out-requires-clause-there g c =
    let N = g.N.Scene in
    let i = c.self.inside in
    let x = i.component in
    let going : i.refused ≡ None = ap (λ (z : Berthed _). z.refused) c.self.view_is ∙ c.requires.going in
    let came = pops-by N.program (intervals_of i.policy) (com_of x) c.com.result (node_of x) i.peers.items _ i.ins.items c.pops-came.new.ins.items c.asked-asked.result c.pops-came.result c.com.ensures c.as_slice-peers.ensures.value c.self.invariant.all_peers c.asked-asked.ensures c.pops-came.ensures.pops in
    let is = turn-next N.program (intervals_of i.policy) (com_of x) (node_of x) (turns_of i.progress) (turns_of i.progress + 1) (left_of i.progress) (left_of i.progress) came.0 c.asked-asked.result c.pops-came.result _ refl refl c.asked-asked.ensures came.2 (c.in-Ok.ensures.next N.program) in
    let m = turn-acting (FailsToCarryOut g.D.Disk) (sounds-carried g.D.Disk) N.program c.args.program.now c.requires.program N.fingerprint N.plan N.lane N.began g.M.Mark.honest i.fingerprint i.peers.items _ c.self.invariant going _ _ c.as_slice-peers.ensures.value c.pops-came.new.ins.items c.pops-came.result came c.choose_next.new.progress c.in-Ok.ensures.counted c.choose_next.ensures.received c.choose_next.ensures.packets c.choose_next.ensures.played c.has_words.ensures c.pops-came.ensures.same is in
    m.within

pub carry_out-requires-clause-own : goal.carry_out-requires-clause-own
carry_out-requires-clause-own g c =
    let N = g.N.Scene in
    let i = c.self.inside in
    let x = i.component in
    let going : i.refused ≡ None = ap (λ (z : Berthed _). z.refused) c.self.view_is ∙ c.requires.going in
    let came = pops-by N.program (intervals_of i.policy) (com_of x) c.com.result (node_of x) i.peers.items _ i.ins.items c.pops-came.new.ins.items c.asked-asked.result c.pops-came.result c.com.ensures c.as_slice-peers.ensures.value c.self.invariant.all_peers c.asked-asked.ensures c.pops-came.ensures.pops in
    let is = turn-next N.program (intervals_of i.policy) (com_of x) (node_of x) (turns_of i.progress) (turns_of i.progress + 1) (left_of i.progress) (left_of i.progress) came.0 c.asked-asked.result c.pops-came.result _ refl refl c.asked-asked.ensures came.2 (c.in-Ok.ensures.next N.program) in
    let m = turn-acting (FailsToCarryOut g.D.Disk) (sounds-carried g.D.Disk) N.program c.args.program.now c.requires.program N.fingerprint N.plan N.lane N.began g.M.Mark.honest i.fingerprint i.peers.items _ c.self.invariant going _ _ c.as_slice-peers.ensures.value c.pops-came.new.ins.items c.pops-came.result came c.choose_next.new.progress c.in-Ok.ensures.counted c.choose_next.ensures.received c.choose_next.ensures.packets c.choose_next.ensures.played c.has_words.ensures c.pops-came.ensures.same is in
    m.own

pub carry_out-requires-clause-apart : goal.carry_out-requires-clause-apart
carry_out-requires-clause-apart g c =
    let N = g.N.Scene in
    let i = c.self.inside in
    let x = i.component in
    let going : i.refused ≡ None = ap (λ (z : Berthed _). z.refused) c.self.view_is ∙ c.requires.going in
    let came = pops-by N.program (intervals_of i.policy) (com_of x) c.com.result (node_of x) i.peers.items _ i.ins.items c.pops-came.new.ins.items c.asked-asked.result c.pops-came.result c.com.ensures c.as_slice-peers.ensures.value c.self.invariant.all_peers c.asked-asked.ensures c.pops-came.ensures.pops in
    let is = turn-next N.program (intervals_of i.policy) (com_of x) (node_of x) (turns_of i.progress) (turns_of i.progress + 1) (left_of i.progress) (left_of i.progress) came.0 c.asked-asked.result c.pops-came.result _ refl refl c.asked-asked.ensures came.2 (c.in-Ok.ensures.next N.program) in
    let m = turn-acting (FailsToCarryOut g.D.Disk) (sounds-carried g.D.Disk) N.program c.args.program.now c.requires.program N.fingerprint N.plan N.lane N.began g.M.Mark.honest i.fingerprint i.peers.items _ c.self.invariant going _ _ c.as_slice-peers.ensures.value c.pops-came.new.ins.items c.pops-came.result came c.choose_next.new.progress c.in-Ok.ensures.counted c.choose_next.ensures.received c.choose_next.ensures.packets c.choose_next.ensures.played c.has_words.ensures c.pops-came.ensures.same is in
    m.apart

pub carry_out-requires-clause-once : goal.carry_out-requires-clause-once
carry_out-requires-clause-once g c =
    let N = g.N.Scene in
    let i = c.self.inside in
    let x = i.component in
    let going : i.refused ≡ None = ap (λ (z : Berthed _). z.refused) c.self.view_is ∙ c.requires.going in
    let came = pops-by N.program (intervals_of i.policy) (com_of x) c.com.result (node_of x) i.peers.items _ i.ins.items c.pops-came.new.ins.items c.asked-asked.result c.pops-came.result c.com.ensures c.as_slice-peers.ensures.value c.self.invariant.all_peers c.asked-asked.ensures c.pops-came.ensures.pops in
    let is = turn-next N.program (intervals_of i.policy) (com_of x) (node_of x) (turns_of i.progress) (turns_of i.progress + 1) (left_of i.progress) (left_of i.progress) came.0 c.asked-asked.result c.pops-came.result _ refl refl c.asked-asked.ensures came.2 (c.in-Ok.ensures.next N.program) in
    let m = turn-acting (FailsToCarryOut g.D.Disk) (sounds-carried g.D.Disk) N.program c.args.program.now c.requires.program N.fingerprint N.plan N.lane N.began g.M.Mark.honest i.fingerprint i.peers.items _ c.self.invariant going _ _ c.as_slice-peers.ensures.value c.pops-came.new.ins.items c.pops-came.result came c.choose_next.new.progress c.in-Ok.ensures.counted c.choose_next.ensures.received c.choose_next.ensures.packets c.choose_next.ensures.played c.has_words.ensures c.pops-came.ensures.same is in
    m.once

pub invariant_of-self-in-Ok-carry_out : goal.invariant_of-self-in-Ok-carry_out
invariant_of-self-in-Ok-carry_out g c =
    let N = g.N.Scene in
    let i = c.self.inside in
    let x = i.component in
    let going : i.refused ≡ None = ap (λ (z : Berthed _). z.refused) c.self.view_is ∙ c.requires.going in
    let came = pops-by N.program (intervals_of i.policy) (com_of x) c.com.result (node_of x) i.peers.items _ i.ins.items c.pops-came.new.ins.items c.asked-asked.result c.pops-came.result c.com.ensures c.as_slice-peers.ensures.value c.self.invariant.all_peers c.asked-asked.ensures c.pops-came.ensures.pops in
    let is = turn-next N.program (intervals_of i.policy) (com_of x) (node_of x) (turns_of i.progress) (turns_of i.progress + 1) (left_of i.progress) (left_of i.progress) came.0 c.asked-asked.result c.pops-came.result _ refl refl c.asked-asked.ensures came.2 (c.in-Ok.ensures.next N.program) in
    let m = turn-acting (FailsToCarryOut g.D.Disk) (sounds-carried g.D.Disk) N.program c.args.program.now c.requires.program N.fingerprint N.plan N.lane N.began g.M.Mark.honest i.fingerprint i.peers.items _ c.self.invariant going _ _ c.as_slice-peers.ensures.value c.pops-came.new.ins.items c.pops-came.result came c.choose_next.new.progress c.in-Ok.ensures.counted c.choose_next.ensures.received c.choose_next.ensures.packets c.choose_next.ensures.played c.has_words.ensures c.pops-came.ensures.same is in
    m.holds c.carry_out.new.x c.carry_out.new.progress c.carry_out.new.outs.items c.carry_out.ensures.disk c.in-Ok-carry_out.ensures.step

pub invariant_of-self-in-Err : goal.invariant_of-self-in-Err
invariant_of-self-in-Err g c =
    let N = g.N.Scene in
    let i = c.self.inside in
    let x = i.component in
    let going : i.refused ≡ None = ap (λ (z : Berthed _). z.refused) c.self.view_is ∙ c.requires.going in
    let came = pops-by N.program (intervals_of i.policy) (com_of x) c.com.result (node_of x) i.peers.items _ i.ins.items c.pops-came.new.ins.items c.asked-asked.result c.pops-came.result c.com.ensures c.as_slice-peers.ensures.value c.self.invariant.all_peers c.asked-asked.ensures c.pops-came.ensures.pops in
    let is = turn-next N.program (intervals_of i.policy) (com_of x) (node_of x) (turns_of i.progress) (turns_of i.progress + 1) (left_of i.progress) (left_of i.progress) came.0 c.asked-asked.result c.pops-came.result _ refl refl c.asked-asked.ensures came.2 (c.in-Ok.ensures.next N.program) in
    let m = turn-acting (FailsToCarryOut g.D.Disk) (sounds-carried g.D.Disk) N.program c.args.program.now c.requires.program N.fingerprint N.plan N.lane N.began g.M.Mark.honest i.fingerprint i.peers.items _ c.self.invariant going _ _ c.as_slice-peers.ensures.value c.pops-came.new.ins.items c.pops-came.result came c.choose_next.new.progress c.in-Ok.ensures.counted c.choose_next.ensures.received c.choose_next.ensures.packets c.choose_next.ensures.played c.has_words.ensures c.pops-came.ensures.same is in
    m.ends c.carry_out.new.x c.carry_out.new.progress c.carry_out.new.outs.items c.in-Err.why c.carry_out.ensures.disk c.in-Err.ensures.same c.in-Err.ensures.counts.0 c.in-Err.ensures.counts.1 c.in-Err.ensures.refused

pub invariant_of-self : goal.invariant_of-self
invariant_of-self g c =
    let N = g.N.Scene in
    let i = c.self.inside in
    let x = i.component in
    let going : i.refused ≡ None = ap (λ (z : Berthed _). z.refused) c.self.view_is ∙ c.requires.going in
    let came = pops-by N.program (intervals_of i.policy) (com_of x) c.com.result (node_of x) i.peers.items _ i.ins.items c.pops-came.new.ins.items c.asked-asked.result c.pops-came.result c.com.ensures c.as_slice-peers.ensures.value c.self.invariant.all_peers c.asked-asked.ensures c.pops-came.ensures.pops in
    turn-ends (FailsToCarryOut g.D.Disk) (sounds-carried g.D.Disk) N.program c.args.program.now c.requires.program N.fingerprint N.plan N.lane N.began g.M.Mark.honest i.fingerprint i.peers.items _ c.self.invariant going None _ c.as_slice-peers.ensures.value c.pops-came.new.ins.items c.pops-came.result came c.choose_next.new.progress (kept-itself (torn g.D.Disk) (disk_of x)) refl

pub returns-in-Ok-carry_out-clause-turn : goal.returns-in-Ok-carry_out-clause-turn
returns-in-Ok-carry_out-clause-turn g c =
    let N = g.N.Scene in
    let i = c.self.inside in
    let x = i.component in
    let going : i.refused ≡ None = ap (λ (z : Berthed _). z.refused) c.self.view_is ∙ c.requires.going in
    let came = pops-by N.program (intervals_of i.policy) (com_of x) c.com.result (node_of x) i.peers.items _ i.ins.items c.pops-came.new.ins.items c.asked-asked.result c.pops-came.result c.com.ensures c.as_slice-peers.ensures.value c.self.invariant.all_peers c.asked-asked.ensures c.pops-came.ensures.pops in
    let is = turn-next N.program (intervals_of i.policy) (com_of x) (node_of x) (turns_of i.progress) (turns_of i.progress + 1) (left_of i.progress) (left_of i.progress) came.0 c.asked-asked.result c.pops-came.result _ refl refl c.asked-asked.ensures came.2 (c.in-Ok.ensures.next N.program) in
    let m = turn-acting (FailsToCarryOut g.D.Disk) (sounds-carried g.D.Disk) N.program c.args.program.now c.requires.program N.fingerprint N.plan N.lane N.began g.M.Mark.honest i.fingerprint i.peers.items _ c.self.invariant going _ _ c.as_slice-peers.ensures.value c.pops-came.new.ins.items c.pops-came.result came c.choose_next.new.progress c.in-Ok.ensures.counted c.choose_next.ensures.received c.choose_next.ensures.packets c.choose_next.ensures.played c.has_words.ensures c.pops-came.ensures.same is in
    let p = c.args.program.now in
    let now : Berthed _ = record { place = i.place; component = c.carry_out.new.x; progress = c.carry_out.new.progress; ins = c.pops-came.new.ins.items; outs = c.carry_out.new.outs.items; policy = i.policy; refused = i.refused } in
    subst (λ (z : Berthed _). (pops : List Pop) × PopsBy p z c.pops-came.new.ins.items pops × ActsBy p N.fingerprint (turn_choice p z pops) (counted (standing_of z.component z.progress)) z now × Unit {0} × CrashAdds (choice_adds p (turn_choice p z pops) z.component) z.component c.carry_out.new.x) c.self.view_is
    (came.0, (turn-pops (FailsToCarryOut g.D.Disk) (sounds-carried g.D.Disk) N.program c.args.program.now c.requires.program N.fingerprint N.plan N.lane N.began g.M.Mark.honest i.fingerprint i.peers.items _ c.self.invariant going None _ c.as_slice-peers.ensures.value c.pops-came.new.ins.items c.pops-came.result came), m.acts c.carry_out.new.x c.carry_out.new.progress c.carry_out.new.outs.items c.in-Ok-carry_out.ensures.step, tt, m.adds c.carry_out.new.x c.carry_out.ensures.crash)

pub returns-in-Ok-carry_out-clause-disk : goal.returns-in-Ok-carry_out-clause-disk
returns-in-Ok-carry_out-clause-disk g c =
    rw (← c.self.view_is) c.carry_out.ensures.disk

pub returns-in-Err-clause-turn : goal.returns-in-Err-clause-turn
returns-in-Err-clause-turn g c =
    let N = g.N.Scene in
    let i = c.self.inside in
    let x = i.component in
    let going : i.refused ≡ None = ap (λ (z : Berthed _). z.refused) c.self.view_is ∙ c.requires.going in
    let came = pops-by N.program (intervals_of i.policy) (com_of x) c.com.result (node_of x) i.peers.items _ i.ins.items c.pops-came.new.ins.items c.asked-asked.result c.pops-came.result c.com.ensures c.as_slice-peers.ensures.value c.self.invariant.all_peers c.asked-asked.ensures c.pops-came.ensures.pops in
    let is = turn-next N.program (intervals_of i.policy) (com_of x) (node_of x) (turns_of i.progress) (turns_of i.progress + 1) (left_of i.progress) (left_of i.progress) came.0 c.asked-asked.result c.pops-came.result _ refl refl c.asked-asked.ensures came.2 (c.in-Ok.ensures.next N.program) in
    let m = turn-acting (FailsToCarryOut g.D.Disk) (sounds-carried g.D.Disk) N.program c.args.program.now c.requires.program N.fingerprint N.plan N.lane N.began g.M.Mark.honest i.fingerprint i.peers.items _ c.self.invariant going _ _ c.as_slice-peers.ensures.value c.pops-came.new.ins.items c.pops-came.result came c.choose_next.new.progress c.in-Ok.ensures.counted c.choose_next.ensures.received c.choose_next.ensures.packets c.choose_next.ensures.played c.has_words.ensures c.pops-came.ensures.same is in
    let p = c.args.program.now in
    subst (λ (z : Berthed _). (pops : List Pop) × PopsBy p z c.pops-came.new.ins.items pops × Unit {0} × FailsToCarryOut g.D.Disk p N.fingerprint (turn_choice p z pops) z.component (received_of z.progress) (packets_of z.progress) c.carry_out.new.x c.in-Err.why × CrashAdds (choice_adds p (turn_choice p z pops) z.component) z.component c.carry_out.new.x) c.self.view_is
    (came.0, (turn-pops (FailsToCarryOut g.D.Disk) (sounds-carried g.D.Disk) N.program c.args.program.now c.requires.program N.fingerprint N.plan N.lane N.began g.M.Mark.honest i.fingerprint i.peers.items _ c.self.invariant going None _ c.as_slice-peers.ensures.value c.pops-came.new.ins.items c.pops-came.result came), tt, m.refuses c.carry_out.new.x c.in-Err.why c.in-Err.ensures.refused, m.adds c.carry_out.new.x c.carry_out.ensures.crash)

pub returns-in-Err-clause-disk : goal.returns-in-Err-clause-disk
returns-in-Err-clause-disk g c =
    rw (← c.self.view_is) c.carry_out.ensures.disk

pub returns-in_default-clause-turn : goal.returns-in_default-clause-turn
returns-in_default-clause-turn g c =
    let N = g.N.Scene in
    let i = c.self.inside in
    let x = i.component in
    let going : i.refused ≡ None = ap (λ (z : Berthed _). z.refused) c.self.view_is ∙ c.requires.going in
    let came = pops-by N.program (intervals_of i.policy) (com_of x) c.com.result (node_of x) i.peers.items _ i.ins.items c.pops-came.new.ins.items c.asked-asked.result c.pops-came.result c.com.ensures c.as_slice-peers.ensures.value c.self.invariant.all_peers c.asked-asked.ensures c.pops-came.ensures.pops in
    let law = g.met.D.Disk in
    let next = turn_choice c.args.program.now (record { place = i.place; component = x; progress = i.progress; ins = i.ins.items; outs = i.outs.items; policy = i.policy; refused = i.refused }) came.0 in
    let none = memory-fails g.D.Disk c.args.program.now N.fingerprint next x (received_of i.progress) (packets_of i.progress) x in
    let rests = component-rests g.D.Disk law.only_now law.keeping_tells x (choice_adds c.args.program.now next x) (c.self.invariant.goes_on going).going in
    let p = c.args.program.now in
    subst (λ (z : Berthed _). (pops : List Pop) × PopsBy p z c.pops-came.new.ins.items pops × Unit {0} × FailsToCarryOut g.D.Disk p N.fingerprint (turn_choice p z pops) z.component (received_of z.progress) (packets_of z.progress) x Memory × CrashAdds (choice_adds p (turn_choice p z pops) z.component) z.component x) c.self.view_is (came.0, (turn-pops (FailsToCarryOut g.D.Disk) (sounds-carried g.D.Disk) N.program c.args.program.now c.requires.program N.fingerprint N.plan N.lane N.began g.M.Mark.honest i.fingerprint i.peers.items _ c.self.invariant going None _ c.as_slice-peers.ensures.value c.pops-came.new.ins.items c.pops-came.result came), tt, none, rests)

pub returns-in_default-clause-disk : goal.returns-in_default-clause-disk
returns-in_default-clause-disk g c =
    rw (← c.self.view_is) (kept-itself (torn g.D.Disk) (disk_of c.self.inside.component))
