use Rattle.std.proofs.Common.{◌∙◌, ap, sym, refl, rules, arith, length, not, get_or}
use Rattle.std.proofs.lemmas.List.{length-set}
use Rattle.std.proofs.lemmas.Option.{slice_get_read, slice_get-get_or}
use Rattle.ic_base.specs.declared.messages.ComId.{ComId}
use Rattle.ic_live.proofs.Ends.{com-not}
use Rattle.ic_live.proofs.Pops.{pops-on, pops-end, pops-none, contents-set}
use Rattle.ic_live.proofs.lending.first_of.Goals as goal

pub returns-in-Some-clause-pops : goal.returns-in-Some-clause-pops
returns-in-Some-clause-pops g c =
    let x = c.pop_own.ensures.pop in
    let there = slice_get_read c.loop-at.ins.items (length c.loop-at.ins.items) c.loop-at.at c.index_mut.result.now refl (search rules) c.index_mut.ensures.value in
    let d : ComId = get_or c.args.peers.now c.loop-at.at (record { 0 = 0 }) in
    pops-end c.args.c c.args.peers.now c.args.ins.now.items c.loop-at.ins.items c.loop-at.at d (slice_get-get_or c.args.peers.now c.loop-at.at (record { 0 = 0 }) c.loop-at-test.true) c.loop-at.invariant.1
    c.index_mut.result.now c.pop_own.new.lane x.0 c.requires.apart (ap not (com-not c.args.c d c.if-c-from.false)) x.1 there c.pop_own.ensures.lane x.3 c.in-Some.p (sym c.in-Some.is ∙ x.2)

pub returns-in-Some-clause-same : goal.returns-in-Some-clause-same
returns-in-Some-clause-same g c honest all = contents-set c.loop-at.ins.items c.loop-at.at c.pop_own.new.lane (c.loop-at.invariant.2 honest all) (c.pop_own.ensures.same honest)

pub loop-at-preserved : goal.loop-at-preserved
loop-at-preserved g c =
    let d : ComId = get_or c.args.peers.now c.loop-at.at (record { 0 = 0 }) in
    let x = c.pop_own.ensures.pop in
    let there = slice_get_read c.loop-at.ins.items (length c.loop-at.ins.items) c.loop-at.at c.index_mut.result.now refl (search rules) c.index_mut.ensures.value in (
      length-set c.loop-at.ins.items c.loop-at.at c.pop_own.new.lane ∙ c.loop-at.invariant.0,
      pops-on c.args.c c.args.peers.now c.args.ins.now.items c.loop-at.ins.items c.loop-at.at d (slice_get-get_or c.args.peers.now c.loop-at.at (record { 0 = 0 }) c.loop-at-test.true) c.loop-at.invariant.1
          c.index_mut.result.now c.pop_own.new.lane x.0 c.requires.apart (ap not (com-not c.args.c d c.if-c-from.false)) x.1 there c.pop_own.ensures.lane x.3 (sym c.in_default.is ∙ x.2),
      λ honest all. contents-set c.loop-at.ins.items c.loop-at.at c.pop_own.new.lane (c.loop-at.invariant.2 honest all) (c.pop_own.ensures.same honest),
    )

pub returns-clause-pops : goal.returns-clause-pops
returns-clause-pops g c = pops-none c.args.c c.args.peers.now c.args.ins.now.items c.loop-at.ins.items c.loop-at.at (search (rules, arith)) c.loop-at.invariant.1
