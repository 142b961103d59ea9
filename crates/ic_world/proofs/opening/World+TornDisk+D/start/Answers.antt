use Rattle.std.proofs.Common.{◌≡◌, ◌∙◌, sym, ap, subst, length}
use Rattle.std.specs.Prelude.{IfOk, IfErr}
use Rattle.ic_world.specs.Opening.{AllKept, EachMeets, LeavesBegun}
use Rattle.ic_world.specs.Making.{MayBeginOver, IsOnlyRead, AreBlank, IsNoneBlank, Opens, FailsToMake}
use Rattle.ic_world.specs.declared.making.Beginning.TheVariants.{Fresh, Found}
use Rattle.ic_world.proofs.Begun.{begun-none, begun-err}
use Rattle.ic_world.proofs.Explained.{starts-explained}
use Rattle.ic_world.proofs.Makings.{by-kept, kept-count, each-count}
use Rattle.ic_world.proofs.StartedWorlds.{started-ok, started-err, started-fresh, none-started, whole-slice}
use Rattle.ic_world.proofs.opening.World+TornDisk+D.start.Goals as goal

pub ask_all-requires-clause-disks : goal.ask_all-requires-clause-disks
ask_all-requires-clause-disks g c = ap length c.as_mut_slice.ensures.value ∙ c.requires.disks

pub opened-requires : goal.opened-requires
opened-requires g c =
    let given = c.args.disks.items in
    let now = c.ask_all.new.disks in
    let e = c.in_default.ensures {u = tt} in
    let read = subst (λ l. EachMeets (IsOnlyRead g.D.Disk) l now) c.as_mut_slice.ensures.value e.disks in
    let kept = by-kept g.D.Disk Found given now read in
    let blank = subst (λ l. AreBlank g.D.Disk c.args.program.now l now) c.as_mut_slice.ensures.value e.step in
    let same = whole-slice given now c.args.disks.len c.args.disks.ok.0 (kept-count g.D.Disk given now kept) in
    record {
      few = c.requires.few;
      disks = ap length same ∙ sym (kept-count g.D.Disk given now kept) ∙ c.requires.disks;
      may = subst (λ l. MayBeginOver g.D.Disk Fresh l) (sym same) blank.blank;
    }

pub returns : goal.returns
returns g c =
    let given = c.args.disks.items in
    let now = c.ask_all.new.disks in
    let e = c.in_default.ensures {u = tt} in
    let read = subst (λ l. EachMeets (IsOnlyRead g.D.Disk) l now) c.as_mut_slice.ensures.value e.disks in
    let kept = by-kept g.D.Disk Found given now read in
    let blank = subst (λ l. AreBlank g.D.Disk c.args.program.now l now) c.as_mut_slice.ensures.value e.step in
    let same = whole-slice given now c.args.disks.len c.args.disks.ok.0 (kept-count g.D.Disk given now kept) in
    let opens = subst (λ l. IfOk c.opened.result (Opens g.D.Disk Fresh c.args.program.now c.args.fingerprint l)) same c.opened.ensures.step in
    let starts = started-ok g.D.Disk c.args.program.now c.args.fingerprint now given kept blank c.requires.playable c.opened.result opens in
    record {
      step = starts;
      explained = starts-explained g.D.Disk c.args.program.now c.args.fingerprint given c.requires.playable c.opened.result starts;
      crash = started-fresh g.D.Disk c.args.program.now c.args.fingerprint now g.met.D.Disk.keeping_tells c.opened.result opens;
      refused = started-err g.D.Disk c.args.program.now c.args.fingerprint now given kept blank c.opened.result
          (subst (λ l. IfErr c.opened.result (FailsToMake g.D.Disk Fresh c.args.program.now c.args.fingerprint l)) same c.opened.ensures.refused);
      begun = begun-err g.D.Disk c.args.program.now c.args.fingerprint given now read c.opened.result (subst (λ l. IfErr c.opened.result (λ refused. Fresh ≡ Fresh → LeavesBegun g.D.Disk c.args.program.now c.args.fingerprint l refused)) same c.opened.ensures.begun);
    }

pub returns-in-Err-clause-refused : goal.returns-in-Err-clause-refused
returns-in-Err-clause-refused g c =
    let given = c.args.disks.items in
    let now = c.ask_all.new.disks in
    let e = c.in-Err.ensures {u = tt} in
    let read = subst (λ l. EachMeets (IsOnlyRead g.D.Disk) l now) c.as_mut_slice.ensures.value e.disks in
    let kept = by-kept g.D.Disk Found given now read in
    let none = subst (λ l. IsNoneBlank g.D.Disk c.args.program.now l now c.in-Err.why) c.as_mut_slice.ensures.value e.refused in
    let same = whole-slice given now c.args.disks.len c.args.disks.ok.0 (kept-count g.D.Disk given now kept) in
    none-started g.D.Disk c.args.program.now given _ (subst (λ l. AllKept g.D.Disk given l) (sym same) kept) (subst (λ l. IsNoneBlank g.D.Disk c.args.program.now given l c.in-Err.why) (sym same) none)

pub returns-in-Err-clause-begun : goal.returns-in-Err-clause-begun
returns-in-Err-clause-begun g c =
    let given = c.args.disks.items in
    let now = c.ask_all.new.disks in
    let e = c.in-Err.ensures {u = tt} in
    let read = subst (λ l. EachMeets (IsOnlyRead g.D.Disk) l now) c.as_mut_slice.ensures.value e.disks in
    let same = whole-slice given now c.args.disks.len c.args.disks.ok.0 (each-count (IsOnlyRead g.D.Disk) given now read) in
    begun-none g.D.Disk c.args.program.now c.args.fingerprint given _ (subst (λ l. EachMeets (IsOnlyRead g.D.Disk) given l) (sym same) read)
