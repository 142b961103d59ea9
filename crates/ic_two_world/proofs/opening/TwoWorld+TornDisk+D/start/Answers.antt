use Rattle.std.proofs.Common.{◌≡◌, ◌≤◌, ◌∙◌, refl, sym, ap, subst, arith, suc, ◌++◌, length}
use Rattle.std.specs.Prelude.{slice_get, Result, IfErr}
use Rattle.std.proofs.lemmas.List.{length-map}
use Rattle.ic_base.specs.declared.limits.TheConstants.{COMPONENTS}
use Rattle.def_two.specs.declared.script.TwoWhy.{TwoWhy}
use Rattle.ic_moves.specs.Chiefs.{openings_of}
use Rattle.ic_two_world.specs.Opening.{inner_in, disks_under, AreBlank, AreKept, AreBegun, FailsToBegin}
use Rattle.ic_two_world.proofs.Opened.{on-ok-of, whole-slice, not-begun, starts-all}
use Rattle.ic_two_world.proofs.opening.TwoWorld+TornDisk+D.start.Goals as goal

pub begin_all-requires-clause-blank : goal.begin_all-requires-clause-blank
begin_all-requires-clause-blank g c = λ k disk at.
    let given = c.args.disks.items in
    let now = c.ask_all.new.disks in
    let e = c.in_default.ensures {u = tt} in
    let kept = subst (λ l. AreKept g.D.Disk l now) c.as_mut_slice.ensures.value e.kept in
    let same = whole-slice given now c.args.disks.len c.args.disks.ok.0 (sym kept.count) in
    e.blank k disk (ap (λ l. slice_get l k) (sym (c.put_on.ensures.on.under ∙ same)) ∙ at)

pub take_back-requires : goal.take_back-requires
take_back-requires g c =
    let given = c.args.disks.items in
    let now = c.ask_all.new.disks in
    let e = c.in_default.ensures {u = tt} in
    let kept = subst (λ l. AreKept g.D.Disk l now) c.as_mut_slice.ensures.value e.kept in
    let same = whole-slice given now c.args.disks.len c.args.disks.ok.0 (sym kept.count) in
    let P : Result _ TwoWhy → Type 0 = λ r. IfErr r (FailsToBegin g.D.Disk (disks_under c.put_on.new.seats.items) c.begin_all.new.seats.items) in
    let fails = subst P c.in-Err-begin_all.is c.begin_all.ensures.refused in
    omega (
      arith,
      ap length c.put_on.ensures.empty,
      c.put_on.new.disks.ok,
      c.put_on.ensures.capacity,
      c.args.disks.ok,
      fails.kept.count,
      length-map c.begin_all.new.seats.items inner_in,
      ap length (c.put_on.ensures.on.under ∙ same),
      kept.count,
    )

pub returns-in-Err-begin_all-clause-refused : goal.returns-in-Err-begin_all-clause-refused
returns-in-Err-begin_all-clause-refused g c =
    let given = c.args.disks.items in
    let now = c.ask_all.new.disks in
    let xs = c.begin_all.new.seats.items in
    let e = c.in_default.ensures {u = tt} in
    let kept = subst (λ l. AreKept g.D.Disk l now) c.as_mut_slice.ensures.value e.kept in
    let was = subst (AreBlank g.D.Disk) c.as_mut_slice.ensures.value e.was in
    let same = whole-slice given now c.args.disks.len c.args.disks.ok.0 (sym kept.count) in
    let P : Result _ TwoWhy → Type 0 = λ r. IfErr r (FailsToBegin g.D.Disk (disks_under c.put_on.new.seats.items) xs) in
    let fails = subst P c.in-Err-begin_all.is c.begin_all.ensures.refused in
    not-begun g.D.Disk given now xs _ kept was (subst (λ l. FailsToBegin g.D.Disk l xs c.in-Err-begin_all.why) (c.put_on.ensures.on.under ∙ same) fails)
    (c.take_back.ensures ∙ ap (λ l. l ++ disks_under xs) c.put_on.ensures.empty)

pub returns-clause-step : goal.returns-clause-step
returns-clause-step g c =
    let given = c.args.disks.items in
    let now = c.ask_all.new.disks in
    let xs = c.begin_all.new.seats.items in
    let openings = openings_of c.args.script.now.books in
    let e = c.in_default.ensures {u = tt} in
    let kept = subst (λ l. AreKept g.D.Disk l now) c.as_mut_slice.ensures.value e.kept in
    let was = subst (AreBlank g.D.Disk) c.as_mut_slice.ensures.value e.was in
    let same = whole-slice given now c.args.disks.len c.args.disks.ok.0 (sym kept.count) in
    let begun = subst (λ l. AreBegun g.D.Disk openings c.args.fingerprint l xs) (c.put_on.ensures.on.under ∙ same) (on-ok-of c.begin_all.result c.in_default-begin_all.not-Err c.begin_all.ensures.step) in
    let count : length xs ≡ suc (length openings) =
    omega (arith, begun.kept.count, length-map xs inner_in, kept.count, c.requires.disks, length-map c.args.script.now.books (λ b. b.1)) in
    let bounded : length xs ≤ COMPONENTS = omega (arith, count, c.requires.openings.0) in
    starts-all g.D.Disk g.met.D.Disk.keeping_tells openings c.args.fingerprint c.begin_all.ensures.long given now kept was _ count bounded begun
    (ap openings_of (c.in-Ok.ensures {u = tt})) refl (c.in-Ok-new.ensures {u = tt})
