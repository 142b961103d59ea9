use Rattle.std.proofs.Common.{◌≡◌, ◌∙◌, ◌+◌, ◌∷◌, [], subst, sym, ap, arith, length, length-append, get_or, Some}
use Rattle.std.specs.Prelude.{reverse, slice_get, drop}
use Rattle.std.proofs.lemmas.List.{length-reverse}
use Rattle.std.proofs.lemmas.Option.{slice_get-get_or}
use Rattle.def_run.specs.SystemStates.{has_disk}
use Rattle.ic_world.specs.Opening.{disks_in}
use Rattle.ic_world.specs.Making.{IsMadeOver, FailsOver, Stands, FailsAt}
use Rattle.ic_world.proofs.Makings.{stands-first, stands-step, has-here, may-here, fails-step, all-made}
use Rattle.ic_world.proofs.Begun.{begun-step}
use Rattle.ic_world.proofs.Places.{at-drop, some-left}
use Rattle.ic_world.proofs.making.make_each.Goals as goal

pub loop-i-init : goal.loop-i-init
loop-i-init g c =
    let count : length (reverse c.args.rest.now.items) ≡ disks_in c.args.program.now.components = omega (arith, length-reverse c.args.rest.now.items, c.requires.disks, c.args.rest.now.ok) in (
      subst (λ made. Stands g.D.Disk c.args.way c.args.program.now c.args.fingerprint.now (reverse c.args.rest.now.items) made (reverse c.args.rest.now.items)) (sym c.requires.none)
          (stands-first g.D.Disk c.args.way c.args.program.now c.args.fingerprint.now (reverse c.args.rest.now.items) g.met.D.Disk.only_now count),
      ap length c.requires.none,
      c.requires.room,
    )

pub next_disk-place-requires : goal.next_disk-place-requires
next_disk-place-requires g c inside =
    let xs = c.args.program.now.components in
    let made = c.loop-i.made.items in
    let d = get_or c.as_slice-components.result.now c.loop-i.i c.index-components-i.result in
    let at : slice_get xs (length made) ≡ Some d = ap (slice_get xs) c.loop-i.invariant.1 ∙ ap (λ l. slice_get l c.loop-i.i) (sym c.as_slice-components.ensures) ∙ slice_get-get_or c.as_slice-components.result.now c.loop-i.i c.index-components-i.result c.loop-i-test.true in
    omega (arith, some-left d (drop (length made + 1) xs) (reverse c.loop-i.rest.items) (c.loop-i.invariant.0.enough ∙ ap disks_in (at-drop xs (length made) d at)) inside, length-reverse c.loop-i.rest.items, c.loop-i.rest.ok)

pub made_over-requires : goal.made_over-requires
made_over-requires g c =
    let xs = c.args.program.now.components in
    let made = c.loop-i.made.items in
    let d = get_or c.as_slice-components.result.now c.loop-i.i c.index-components-i.result in
    let at : slice_get xs (length made) ≡ Some d = ap (slice_get xs) c.loop-i.invariant.1 ∙ ap (λ l. slice_get l c.loop-i.i) (sym c.as_slice-components.ensures) ∙ slice_get-get_or c.as_slice-components.result.now c.loop-i.i c.index-components-i.result c.loop-i-test.true in
    let has = has-here g.D.Disk c.args.way c.args.program.now c.args.fingerprint.now (reverse c.args.rest.now.items) made (reverse c.loop-i.rest.items) c.loop-i.invariant.0 d at c.next_disk-place.result (reverse c.next_disk-place.new.disks.items) c.next_disk-place.ensures.rest c.next_disk-place.ensures.has in
    let may = may-here g.D.Disk c.args.way c.args.program.now c.args.fingerprint.now (reverse c.args.rest.now.items) made (reverse c.loop-i.rest.items) c.loop-i.invariant.0 d at c.next_disk-place.result (reverse c.next_disk-place.new.disks.items) c.next_disk-place.ensures.rest c.next_disk-place.ensures.has c.requires.may in
    record {
      there = omega (arith, c.loop-i-test.true, ap length c.as_slice-components.ensures);
      has = has ∙ ap (λ n. has_disk c.args.program.now (record { 0 = n })) c.loop-i.invariant.1;
      may = may;
    }

pub push_reserved-requires : goal.push_reserved-requires
push_reserved-requires g c = omega (arith, c.loop-i.made.ok, c.loop-i.invariant.1, c.loop-i.invariant.2, c.loop-i-test.true, ap length c.as_slice-components.ensures)

pub returns-in-Err-clause-refused : goal.returns-in-Err-clause-refused
returns-in-Err-clause-refused g c =
    let xs = c.args.program.now.components in
    let made = c.loop-i.made.items in
    let d = get_or c.as_slice-components.result.now c.loop-i.i c.index-components-i.result in
    let at : slice_get xs (length made) ≡ Some d = ap (slice_get xs) c.loop-i.invariant.1 ∙ ap (λ l. slice_get l c.loop-i.i) (sym c.as_slice-components.ensures) ∙ slice_get-get_or c.as_slice-components.result.now c.loop-i.i c.index-components-i.result c.loop-i-test.true in
    let count : length (reverse c.args.rest.now.items) ≡ disks_in xs = omega (arith, length-reverse c.args.rest.now.items, c.requires.disks, c.args.rest.now.ok) in
    subst (λ n. FailsAt g.D.Disk c.args.way c.args.program.now c.args.fingerprint.now (reverse c.args.rest.now.items) (record { 0 = n }) c.in-Err.refused made (reverse c.next_disk-place.new.disks.items)) c.loop-i.invariant.1
    (fails-step g.D.Disk c.args.program.now c.args.fingerprint.now (reverse c.args.rest.now.items) c.args.way made (reverse c.loop-i.rest.items) c.loop-i.invariant.0 c.requires.may count d at c.next_disk-place.result (reverse c.next_disk-place.new.disks.items) c.next_disk-place.ensures.rest c.next_disk-place.ensures.has c.in-Err.refused (subst (λ n. FailsOver g.D.Disk c.args.way (record { 0 = n }) c.args.fingerprint.now c.next_disk-place.result c.in-Err.refused) (sym c.loop-i.invariant.1) (c.in-Err.ensures {u = tt}).refused))

pub returns-in-Err-clause-begun : goal.returns-in-Err-clause-begun
returns-in-Err-clause-begun g c fresh =
    begun-step g.D.Disk g.met.D.Disk.only_now g.met.D.Disk.keeping_tells c.args.program.now c.args.fingerprint.now (reverse c.args.rest.now.items) c.loop-i.made.items (reverse c.loop-i.rest.items) (reverse c.next_disk-place.new.disks.items) c.args.way fresh
    c.loop-i.invariant.0 c.next_disk-place.result c.next_disk-place.ensures.rest c.in-Err.refused (subst (λ n. FailsOver g.D.Disk c.args.way (record { 0 = n }) c.args.fingerprint.now c.next_disk-place.result c.in-Err.refused) (sym c.loop-i.invariant.1) (c.in-Err.ensures {u = tt}).refused)

pub loop-i-preserved : goal.loop-i-preserved
loop-i-preserved g c =
    let xs = c.args.program.now.components in
    let made = c.loop-i.made.items in
    let d = get_or c.as_slice-components.result.now c.loop-i.i c.index-components-i.result in
    let at : slice_get xs (length made) ≡ Some d = ap (slice_get xs) c.loop-i.invariant.1 ∙ ap (λ l. slice_get l c.loop-i.i) (sym c.as_slice-components.ensures) ∙ slice_get-get_or c.as_slice-components.result.now c.loop-i.i c.index-components-i.result c.loop-i-test.true in
    let step = subst (λ n. IsMadeOver g.D.Disk c.args.way c.args.program.now (record { 0 = n }) c.args.fingerprint.now c.next_disk-place.result c.in-Ok.x) (sym c.loop-i.invariant.1) (c.in-Ok.ensures {u = tt}).step in (
      subst (λ l. Stands g.D.Disk c.args.way c.args.program.now c.args.fingerprint.now (reverse c.args.rest.now.items) l (reverse c.next_disk-place.new.disks.items)) (sym c.push_reserved.ensures.items)
          (stands-step g.D.Disk c.args.way c.args.program.now c.args.fingerprint.now (reverse c.args.rest.now.items) made (reverse c.loop-i.rest.items) c.loop-i.invariant.0 d at c.next_disk-place.result (reverse c.next_disk-place.new.disks.items) c.next_disk-place.ensures.rest c.next_disk-place.ensures.has c.in-Ok.x step),
      omega (arith, ap length c.push_reserved.ensures.items, length-append made (c.in-Ok.x ∷ []), c.loop-i.invariant.1),
      omega (arith, c.loop-i.invariant.2, c.push_reserved.ensures.capacity),
    )

pub returns-clause-step : goal.returns-clause-step
returns-clause-step g c =
    let xs = c.args.program.now.components in
    let s = c.loop-i.invariant.0 in
    let count : length c.loop-i.made.items ≡ length xs = omega (arith, c.loop-i.invariant.1, c.loop-i.auto.i-end, c.loop-i-test.false, ap length c.as_slice-components.ensures) in
    all-made g.D.Disk c.args.way c.args.program.now c.args.fingerprint.now (reverse c.args.rest.now.items) c.loop-i.made.items (reverse c.loop-i.rest.items) s count
