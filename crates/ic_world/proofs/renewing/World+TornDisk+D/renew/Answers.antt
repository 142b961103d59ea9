use Rattle.std.proofs.Common.{◌≡◌, ◌∙◌, sym, ap, subst, refl, true, false, length, arith, rules}
use Rattle.ic_world.specs.Opening.{disks_under}
use Rattle.ic_world.specs.Standing.{HoldLogs}
use Rattle.ic_world.proofs.Acts.{at-place}
use Rattle.ic_world.proofs.Lists.{get-there}
use Rattle.ic_world.proofs.Renewals.{none-laid, one-laid, same-before, under-set, renewed, found-there}
use Rattle.ic_world.proofs.renewing.World+TornDisk+D.renew.Goals as goal

pub loop-i-init : goal.loop-i-init
loop-i-init g c = (refl, refl, none-laid g.D.Disk c.args.self.now.fingerprint c.args.self.now.components.items (c.args.self.now.placed c.requires.going) (c.args.self.now.logs c.requires.going))

pub index_mut-component-requires : goal.index_mut-component-requires
index_mut-component-requires g c = omega (arith, c.loop-i-test.true, c.len-i-end.ensures, c.loop-i.invariant.2.count, c.loop-i.self.components.ok, c.args.self.now.components.ok)

pub crashes-requires : goal.crashes-requires
crashes-requires g c =
    let xs = c.loop-i.self.components.items in
    let p = get-there xs c.loop-i.i (omega (arith, c.loop-i-test.true, c.len-i-end.ensures, c.loop-i.invariant.2.count, c.args.self.now.components.ok)) in
    let at = at-place xs c.loop-i.i c.loop-i.i p.0 c.index_mut-component.result.now p.1 refl c.index_mut-component.ensures.value in
    record { going = c.drop_bytes.ensures.over ∙ (c.loop-i.invariant.2.placed c.loop-i.i c.index_mut-component.result.now at).1 }

pub invariant_of-self-in-loop-i : goal.invariant_of-self-in-loop-i
invariant_of-self-in-loop-i g c = record {
  few = search rules;
  receipts = c.loop-i.self.receipts;
  plays = c.loop-i.self.plays;
  placed = λ going. absurd (let e : true ≡ false = sym c.loop-i.invariant.0 ∙ going in cc);
  logs = λ going. absurd (let e : true ≡ false = sym c.loop-i.invariant.0 ∙ going in cc);
  counted = λ going. absurd (let e : true ≡ false = sym c.loop-i.invariant.0 ∙ going in cc);
}

pub returns-in_default-clause-disks : goal.returns-in_default-clause-disks
returns-in_default-clause-disks g c =
    let xs = c.loop-i.self.components.items in
    let p = get-there xs c.loop-i.i (omega (arith, c.loop-i-test.true, c.len-i-end.ensures, c.loop-i.invariant.2.count, c.args.self.now.components.ok)) in
    let at = at-place xs c.loop-i.i c.loop-i.i p.0 c.index_mut-component.result.now p.1 refl c.index_mut-component.ensures.value in
    under-set g.D.Disk xs c.loop-i.i c.index_mut-component.result.now c.crashes.new.self at (c.crashes.ensures.disk ∙ c.drop_bytes.ensures.disk) ∙ c.loop-i.invariant.2.under

pub loop-i-preserved : goal.loop-i-preserved
loop-i-preserved g c =
    let xs = c.loop-i.self.components.items in
    let p = get-there xs c.loop-i.i (omega (arith, c.loop-i-test.true, c.len-i-end.ensures, c.loop-i.invariant.2.count, c.args.self.now.components.ok)) in
    let at = at-place xs c.loop-i.i c.loop-i.i p.0 c.index_mut-component.result.now p.1 refl c.index_mut-component.ensures.value in
    let e = c.drop_bytes.ensures in
    let crashed = same-before g.D.Disk c.index_mut-component.result.now c.drop_bytes.new.self c.crashes.new.self c.in-Ok.field-0 (c.in-Ok.ensures {u = tt}).step e.same e.which e.disk in (
      c.loop-i.invariant.0,
      c.loop-i.invariant.1,
      one-laid g.D.Disk c.args.self.now.fingerprint c.args.self.now.components.items c.loop-i.i xs c.loop-i.invariant.2 c.index_mut-component.result.now c.crashes.new.self at c.in-Ok.field-0 crashed,
    )

pub invariant_of-self-2 : goal.invariant_of-self-2
invariant_of-self-2 g c =
    let a = c.loop-i.invariant.2 in
    record {
      few = c.loop-i.self.few;
      receipts = omega arith;
      plays = omega arith;
      placed = λ going. a.placed;
      logs = λ going. subst (λ print. HoldLogs print c.loop-i.self.components.items) (sym c.loop-i.invariant.1) a.logs;
      counted = λ going. omega (arith, ap (λ n. length n.packets) (c.in_ok-network.ensures {u = tt}));
    }

pub returns-clause-step : goal.returns-clause-step
returns-clause-step g c program made count =
    let a = c.loop-i.invariant.2 in
    let now = c.loop-i.self.components.items in
    let empty = c.in_ok-network.ensures {u = tt} in
    let end : length now ≡ c.loop-i.i = omega (arith, c.loop-i-test.false, c.loop-i.auto.i-end, c.len-i-end.ensures, a.count, c.args.self.now.components.ok) in
    found-there g.D.Disk program c.args.self.now.fingerprint (disks_under now) (disks_under c.args.self.now.components.items) _ made.playable a.under (record {
      components = renewed g.D.Disk g.met.D.Disk.only_now program c.args.self.now.fingerprint c.args.self.now.components.items c.loop-i.i now a end (omega (arith, a.count, count)) made.kept;
      packets = ap (λ n. n.packets) empty;
      waiting = ap (λ n. n.waiting) empty;
      showings = c.new-2.ensures;
      is_own = c.loop-i.invariant.1;
      received = refl;
      played = refl;
      going = refl;
    })

pub returns-clause-disks : goal.returns-clause-disks
returns-clause-disks g c = c.loop-i.invariant.2.under
