use Rattle.std.proofs.Common.{ap, refl, arith, length}
use Rattle.ic_world.proofs.Begun.{none-begun}
use Rattle.ic_world.proofs.Makings.{kept-all, kept-at, by-all}
use Rattle.ic_world.proofs.Opened.{are-placed, hold-logs}
use Rattle.ic_world.proofs.opening.opened.Goals as goal

pub returns-in_default-clause-refused : goal.returns-in_default-clause-refused
returns-in_default-clause-refused g c = record {
  opens = record { why = λ all. tt; failed = tt; count = refl; kept = kept-at g.D.Disk c.args.disks.items c.args.disks.items (kept-all g.D.Disk c.args.disks.items) };
  kept = by-all g.D.Disk g.met.D.Disk.only_now c.args.way c.args.disks.items;
}

pub returns-in_default-clause-begun : goal.returns-in_default-clause-begun
returns-in_default-clause-begun g c fresh = none-begun g.D.Disk g.met.D.Disk.only_now c.args.program.now c.args.fingerprint _

pub invariant_of-result : goal.invariant_of-result
invariant_of-result g c =
    let made = c.in_ok-components.components.items in
    let are = (c.in_ok-components.ensures {u = tt}).step in
    record {
      few = omega (arith, are.count, c.requires.few);
      receipts = omega arith;
      plays = omega arith;
      placed = λ going. are-placed g.D.Disk c.args.way c.args.program.now c.args.fingerprint c.args.disks.items made are;
      logs = λ going. hold-logs g.D.Disk c.args.way c.args.program.now c.args.fingerprint c.args.disks.items made are;
      counted = λ going. omega (arith, ap (λ n. length n.packets) (c.in-Ok.ensures {u = tt}));
    }

pub returns-clause-step : goal.returns-clause-step
returns-clause-step g c =
    let empty = c.in-Ok.ensures {u = tt} in
    record {
      components = (c.in_ok-components.ensures {u = tt}).step;
      packets = ap (λ n. n.packets) empty;
      waiting = ap (λ n. n.waiting) empty;
      showings = c.new-2.ensures;
      is_own = refl;
      received = refl;
      played = refl;
      going = refl;
    }
