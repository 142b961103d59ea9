use Rattle.std.proofs.Common.{◌≡◌, ◌∙◌, ap, subst, None}
use Rattle.ic_node.specs.Meeting.{CrashAdds}
use Rattle.ic_turn.specs.Doing.{standing_of, choice_adds}
use Rattle.ic_turn.specs.Progresses.{received_of, packets_of}
use Rattle.ic_live.specs.Berths.{Berthed, ActsBy, flush_choice}
use Rattle.ic_live.specs.Carrying.{FailsToCarryOut}
use Rattle.ic_live.proofs.Acting.{flush-acting}
use Rattle.ic_live.proofs.Sounds.{sounds-carried}
use Rattle.ic_live.proofs.berth.Berth+Component+TornDisk+D+M+N.flush.Goals as goal

pub carry_out-requires-clause-there : goal.carry_out-requires-clause-there
carry_out-requires-clause-there g c =
    let N = g.N.Scene in
    let i = c.self.inside in
    let going : i.refused ≡ None = ap (λ (z : Berthed _). z.refused) c.self.view_is ∙ c.requires.going in
    let m = flush-acting (FailsToCarryOut g.D.Disk) (sounds-carried g.D.Disk) N.program c.args.program.now c.requires.program N.fingerprint N.plan N.lane N.began g.M.Mark.honest i.fingerprint i.peers.items _ c.self.invariant going _ _ c.as_slice-peers.ensures.value (c.flush_choice-next.ensures N.program) in
    m.within

pub carry_out-requires-clause-own : goal.carry_out-requires-clause-own
carry_out-requires-clause-own g c =
    let N = g.N.Scene in
    let i = c.self.inside in
    let going : i.refused ≡ None = ap (λ (z : Berthed _). z.refused) c.self.view_is ∙ c.requires.going in
    let m = flush-acting (FailsToCarryOut g.D.Disk) (sounds-carried g.D.Disk) N.program c.args.program.now c.requires.program N.fingerprint N.plan N.lane N.began g.M.Mark.honest i.fingerprint i.peers.items _ c.self.invariant going _ _ c.as_slice-peers.ensures.value (c.flush_choice-next.ensures N.program) in
    m.own

pub carry_out-requires-clause-apart : goal.carry_out-requires-clause-apart
carry_out-requires-clause-apart g c =
    let N = g.N.Scene in
    let i = c.self.inside in
    let going : i.refused ≡ None = ap (λ (z : Berthed _). z.refused) c.self.view_is ∙ c.requires.going in
    let m = flush-acting (FailsToCarryOut g.D.Disk) (sounds-carried g.D.Disk) N.program c.args.program.now c.requires.program N.fingerprint N.plan N.lane N.began g.M.Mark.honest i.fingerprint i.peers.items _ c.self.invariant going _ _ c.as_slice-peers.ensures.value (c.flush_choice-next.ensures N.program) in
    m.apart

pub carry_out-requires-clause-once : goal.carry_out-requires-clause-once
carry_out-requires-clause-once g c =
    let N = g.N.Scene in
    let i = c.self.inside in
    let going : i.refused ≡ None = ap (λ (z : Berthed _). z.refused) c.self.view_is ∙ c.requires.going in
    let m = flush-acting (FailsToCarryOut g.D.Disk) (sounds-carried g.D.Disk) N.program c.args.program.now c.requires.program N.fingerprint N.plan N.lane N.began g.M.Mark.honest i.fingerprint i.peers.items _ c.self.invariant going _ _ c.as_slice-peers.ensures.value (c.flush_choice-next.ensures N.program) in
    m.once

pub invariant_of-self : goal.invariant_of-self
invariant_of-self g c =
    let N = g.N.Scene in
    let i = c.self.inside in
    let going : i.refused ≡ None = ap (λ (z : Berthed _). z.refused) c.self.view_is ∙ c.requires.going in
    let m = flush-acting (FailsToCarryOut g.D.Disk) (sounds-carried g.D.Disk) N.program c.args.program.now c.requires.program N.fingerprint N.plan N.lane N.began g.M.Mark.honest i.fingerprint i.peers.items _ c.self.invariant going _ _ c.as_slice-peers.ensures.value (c.flush_choice-next.ensures N.program) in
    m.holds c.carry_out.new.x c.carry_out.new.progress c.carry_out.new.outs.items c.carry_out.ensures.disk c.in-Ok.ensures.step

pub invariant_of-self-in-Err : goal.invariant_of-self-in-Err
invariant_of-self-in-Err g c =
    let N = g.N.Scene in
    let i = c.self.inside in
    let going : i.refused ≡ None = ap (λ (z : Berthed _). z.refused) c.self.view_is ∙ c.requires.going in
    let m = flush-acting (FailsToCarryOut g.D.Disk) (sounds-carried g.D.Disk) N.program c.args.program.now c.requires.program N.fingerprint N.plan N.lane N.began g.M.Mark.honest i.fingerprint i.peers.items _ c.self.invariant going _ _ c.as_slice-peers.ensures.value (c.flush_choice-next.ensures N.program) in
    m.ends c.carry_out.new.x c.carry_out.new.progress c.carry_out.new.outs.items c.in-Err.why c.carry_out.ensures.disk c.in-Err.ensures.same c.in-Err.ensures.counts.0 c.in-Err.ensures.counts.1 c.in-Err.ensures.refused

pub returns-in-Ok-clause-step : goal.returns-in-Ok-clause-step
returns-in-Ok-clause-step g c =
    let N = g.N.Scene in
    let i = c.self.inside in
    let going : i.refused ≡ None = ap (λ (z : Berthed _). z.refused) c.self.view_is ∙ c.requires.going in
    let m = flush-acting (FailsToCarryOut g.D.Disk) (sounds-carried g.D.Disk) N.program c.args.program.now c.requires.program N.fingerprint N.plan N.lane N.began g.M.Mark.honest i.fingerprint i.peers.items _ c.self.invariant going _ _ c.as_slice-peers.ensures.value (c.flush_choice-next.ensures N.program) in
    let p = c.args.program.now in
    let now : Berthed _ = record { place = i.place; component = c.carry_out.new.x; progress = c.carry_out.new.progress; ins = i.ins.items; outs = c.carry_out.new.outs.items; policy = i.policy; refused = i.refused } in
    subst (λ (z : Berthed _). ActsBy p N.fingerprint (flush_choice p z) (standing_of z.component z.progress) z now) c.self.view_is (m.acts c.carry_out.new.x c.carry_out.new.progress c.carry_out.new.outs.items c.in-Ok.ensures.step)

pub returns-in-Ok-clause-disk : goal.returns-in-Ok-clause-disk
returns-in-Ok-clause-disk g c = rw (← c.self.view_is) c.carry_out.ensures.disk

pub returns-in-Ok-clause-crash : goal.returns-in-Ok-clause-crash
returns-in-Ok-clause-crash g c =
    let N = g.N.Scene in
    let i = c.self.inside in
    let going : i.refused ≡ None = ap (λ (z : Berthed _). z.refused) c.self.view_is ∙ c.requires.going in
    let m = flush-acting (FailsToCarryOut g.D.Disk) (sounds-carried g.D.Disk) N.program c.args.program.now c.requires.program N.fingerprint N.plan N.lane N.began g.M.Mark.honest i.fingerprint i.peers.items _ c.self.invariant going _ _ c.as_slice-peers.ensures.value (c.flush_choice-next.ensures N.program) in
    let p = c.args.program.now in
    subst (λ (z : Berthed _). CrashAdds (choice_adds p (flush_choice p z) z.component) z.component c.carry_out.new.x) c.self.view_is (m.adds c.carry_out.new.x c.carry_out.ensures.crash)

pub returns-in-Err-clause-disk : goal.returns-in-Err-clause-disk
returns-in-Err-clause-disk g c = rw (← c.self.view_is) c.carry_out.ensures.disk

pub returns-in-Err-clause-crash : goal.returns-in-Err-clause-crash
returns-in-Err-clause-crash g c =
    let N = g.N.Scene in
    let i = c.self.inside in
    let going : i.refused ≡ None = ap (λ (z : Berthed _). z.refused) c.self.view_is ∙ c.requires.going in
    let m = flush-acting (FailsToCarryOut g.D.Disk) (sounds-carried g.D.Disk) N.program c.args.program.now c.requires.program N.fingerprint N.plan N.lane N.began g.M.Mark.honest i.fingerprint i.peers.items _ c.self.invariant going _ _ c.as_slice-peers.ensures.value (c.flush_choice-next.ensures N.program) in
    let p = c.args.program.now in
    subst (λ (z : Berthed _). CrashAdds (choice_adds p (flush_choice p z) z.component) z.component c.carry_out.new.x) c.self.view_is (m.adds c.carry_out.new.x c.carry_out.ensures.crash)

pub returns-in-Err-clause-refused : goal.returns-in-Err-clause-refused
returns-in-Err-clause-refused g c =
    let N = g.N.Scene in
    let i = c.self.inside in
    let going : i.refused ≡ None = ap (λ (z : Berthed _). z.refused) c.self.view_is ∙ c.requires.going in
    let m = flush-acting (FailsToCarryOut g.D.Disk) (sounds-carried g.D.Disk) N.program c.args.program.now c.requires.program N.fingerprint N.plan N.lane N.began g.M.Mark.honest i.fingerprint i.peers.items _ c.self.invariant going _ _ c.as_slice-peers.ensures.value (c.flush_choice-next.ensures N.program) in
    let p = c.args.program.now in
    subst (λ (z : Berthed _). FailsToCarryOut g.D.Disk p N.fingerprint (flush_choice p z) z.component (received_of z.progress) (packets_of z.progress) c.carry_out.new.x c.in-Err.why) c.self.view_is (m.refuses c.carry_out.new.x c.in-Err.why c.in-Err.ensures.refused)
