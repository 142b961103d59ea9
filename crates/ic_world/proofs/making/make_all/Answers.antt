use Rattle.std.proofs.Common.{◌∙◌, ◌++◌, ◌∷◌, subst, sym, ap, refl, arith, length, length-append}
use Rattle.std.specs.Prelude.{reverse}
use Rattle.std.proofs.lemmas.List.{length-reverse}
use Rattle.def_run.specs.Openings.{IsStartRefused}
use Rattle.ic_world.specs.Opening.{disks_under, start_why, EachMeets, AreBegun, IsStartFailed}
use Rattle.ic_world.specs.Making.{MayBeginOver, KeepsBy, AreMade, refusal_over, FailsAt}
use Rattle.ic_world.proofs.Begun.{not-asked, none-begun}
use Rattle.ic_world.proofs.Makings.{reverse-twice, put-behind, kept-all, kept-at, kept-count, by-all, by-kept, each-room}
use Rattle.ic_world.proofs.making.make_all.Goals as goal

pub returns-in_default-clause-refused : goal.returns-in_default-clause-refused
returns-in_default-clause-refused g c = record {
  opens = record { why = λ all. tt; failed = tt; count = refl; kept = kept-at g.D.Disk c.args.disks.items c.args.disks.items (kept-all g.D.Disk c.args.disks.items) };
  kept = by-all g.D.Disk g.met.D.Disk.only_now c.args.way c.args.disks.items;
}

pub returns-in_default-with_capacity-clause-refused : goal.returns-in_default-with_capacity-clause-refused
returns-in_default-with_capacity-clause-refused g c = record {
  opens = record { why = λ all. tt; failed = tt; count = refl; kept = kept-at g.D.Disk c.args.disks.items c.args.disks.items (kept-all g.D.Disk c.args.disks.items) };
  kept = by-all g.D.Disk g.met.D.Disk.only_now c.args.way c.args.disks.items;
}

pub returns-in_default-clause-begun : goal.returns-in_default-clause-begun
returns-in_default-clause-begun g c fresh = none-begun g.D.Disk g.met.D.Disk.only_now c.args.program.now c.args.fingerprint.now _

pub returns-in_default-with_capacity-clause-begun : goal.returns-in_default-with_capacity-clause-begun
returns-in_default-with_capacity-clause-begun g c fresh = none-begun g.D.Disk g.met.D.Disk.only_now c.args.program.now c.args.fingerprint.now _

pub make_each-requires-clause-may : goal.make_each-requires-clause-may
make_each-requires-clause-may g c = subst (λ l. MayBeginOver g.D.Disk c.args.way l) (sym (ap reverse c.reverse.ensures.items ∙ reverse-twice c.args.disks.items)) c.requires.may

pub take_back-requires : goal.take_back-requires
take_back-requires g c =
    let e = (c.in-Err.ensures {u = tt}).refused in
    let back = c.in-Ok.ensures {u = tt} in
    omega (
      arith,
      each-room (KeepsBy g.D.Disk c.args.way) (reverse c.reverse.new.self.items) (disks_under c.make_each.new.made.items) (reverse c.make_each.new.rest.items) c.in-Err.refused.disk.inner e.kept,
      length-reverse c.reverse.new.self.items,
      c.reverse.ensures.len,
      c.reverse.new.self.ok,
      c.args.disks.ok,
      back.len,
      back.capacity,
      c.len.ensures,
    )

pub push_reserved-requires : goal.push_reserved-requires
push_reserved-requires g c =
    let e = (c.in-Err.ensures {u = tt}).refused in
    let back = c.in-Ok.ensures {u = tt} in
    omega (
      arith,
      each-room (KeepsBy g.D.Disk c.args.way) (reverse c.reverse.new.self.items) (disks_under c.make_each.new.made.items) (reverse c.make_each.new.rest.items) c.in-Err.refused.disk.inner e.kept,
      length-reverse c.reverse.new.self.items,
      c.reverse.ensures.len,
      c.reverse.new.self.ok,
      c.args.disks.ok,
      back.len,
      back.capacity,
      c.len.ensures,
      ap length c.take_back.ensures.disks,
      length-append c.in-Ok.back.items (disks_under c.make_each.new.made.items),
      ap length back.items,
      c.take_back.ensures.room,
      c.take_back.new.back.ok,
    )

pub put_back-requires : goal.put_back-requires
put_back-requires g c =
    let e = (c.in-Err.ensures {u = tt}).refused in
    let back = c.in-Ok.ensures {u = tt} in
    omega (
      arith,
      each-room (KeepsBy g.D.Disk c.args.way) (reverse c.reverse.new.self.items) (disks_under c.make_each.new.made.items) (reverse c.make_each.new.rest.items) c.in-Err.refused.disk.inner e.kept,
      length-reverse c.reverse.new.self.items,
      length-reverse c.make_each.new.rest.items,
      c.make_each.new.rest.ok,
      c.reverse.ensures.len,
      c.reverse.new.self.ok,
      c.args.disks.ok,
      back.len,
      back.capacity,
      c.len.ensures,
      ap length c.take_back.ensures.disks,
      length-append c.in-Ok.back.items (disks_under c.make_each.new.made.items),
      ap length back.items,
      c.take_back.ensures.room,
      c.take_back.new.back.ok,
      c.push_reserved.ensures.len,
      c.push_reserved.ensures.capacity,
    )

pub returns-in-Ok-make_each-clause-step : goal.returns-in-Ok-make_each-clause-step
returns-in-Ok-make_each-clause-step g c =
    let same = ap reverse c.reverse.ensures.items ∙ reverse-twice c.args.disks.items in
    subst (λ l. AreMade g.D.Disk c.args.way c.args.program.now c.args.fingerprint.now l c.make_each.new.made.items) same (c.in-Ok-make_each.ensures {u = tt}).step

pub returns-in-Err-clause-refused : goal.returns-in-Err-clause-refused
returns-in-Err-clause-refused g c =
    let same = ap reverse c.reverse.ensures.items ∙ reverse-twice c.args.disks.items in
    let left = reverse c.make_each.new.rest.items in
    let under = disks_under c.make_each.new.made.items in
    let e = subst (λ l. FailsAt g.D.Disk c.args.way c.args.program.now c.args.fingerprint.now l c.in-Err.«com» c.in-Err.refused c.make_each.new.made.items left) same (c.in-Err.ensures {u = tt}).refused in
    let final = put-behind c.in-Ok.back.items under left c.take_back.new.back.items c.push_reserved.new.list.items c.put_back.new.back.items c.into_inner.result c.in-Err.refused.disk.inner (c.in-Ok.ensures {u = tt}).items c.take_back.ensures.disks c.push_reserved.ensures.items c.put_back.ensures c.into_inner.ensures in
    let by = subst (λ l. EachMeets (KeepsBy g.D.Disk c.args.way) c.args.disks.items l) (sym final) e.kept in
    let kept = by-kept g.D.Disk c.args.way c.args.disks.items c.put_back.new.back.items by in
    let old = c.args.disks.items in
    let new = c.put_back.new.back.items in
    let failed = subst (λ l. IsStartFailed g.D.Disk c.args.program.now old l (start_why c.in-Err.«com» c.in-Err.refused.why)) (sym final) e.failed in
    record {
      opens = record {
        why = λ all. subst (λ why. IsStartRefused (refusal_over g.D.Disk c.args.way c.args.program.now c.args.fingerprint.now old) why) (sym c.start_why.ensures) (e.why all);
        failed = subst (λ why. IsStartFailed g.D.Disk c.args.program.now old new why) (sym c.start_why.ensures) failed;
        count = sym (kept-count g.D.Disk old new kept);
        kept = kept-at g.D.Disk old new kept;
      };
      kept = by;
    }

pub returns-in-Err-clause-begun : goal.returns-in-Err-clause-begun
returns-in-Err-clause-begun g c fresh =
    let same = ap reverse c.reverse.ensures.items ∙ reverse-twice c.args.disks.items in
    let left = reverse c.make_each.new.rest.items in
    let under = disks_under c.make_each.new.made.items in
    let begun = subst (λ l. AreBegun g.D.Disk c.args.program.now c.args.fingerprint.now l (under ++ c.in-Err.refused.disk.inner ∷ left)) same ((c.in-Err.ensures {u = tt}).begun fresh) in
    let final = put-behind c.in-Ok.back.items under left c.take_back.new.back.items c.push_reserved.new.list.items c.put_back.new.back.items c.into_inner.result c.in-Err.refused.disk.inner (c.in-Ok.ensures {u = tt}).items c.take_back.ensures.disks c.push_reserved.ensures.items c.put_back.ensures c.into_inner.ensures in
    record {
      logs = subst (λ l. AreBegun g.D.Disk c.args.program.now c.args.fingerprint.now c.args.disks.items l) (sym final) begun;
      asked = λ d is. absurd (not-asked c.in-Err.«com» d c.in-Err.refused.why (sym c.start_why.ensures ∙ is));
    }
