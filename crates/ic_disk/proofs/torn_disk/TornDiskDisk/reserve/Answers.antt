use Rattle.std.proofs.Common.{ap, refl}
use Rattle.ic_disk.specs.Past.{ListedWrites}
use Rattle.ic_disk.specs.TornDisks.{Torn}
use Rattle.ic_disk.proofs.TornDisks.{left_of, torn_call, left_below, left_still}
use Rattle.ic_disk.proofs.torn_disk.TornDiskDisk.reserve.Goals as goal

pub returns-in_err-reserve-clause-crash : goal.returns-in_err-reserve-clause-crash
returns-in_err-reserve-clause-crash g c keeps =
    let d = g.D.Disk in
    let law = g.met.D.Disk in
    let inner = c.self.inside.inner in
    let held = c.self.inside.held.writes in
    let r = c.in_err-reserve.ensures {u = tt} in
    torn_call d c.args.self.now _ inner held (ap (λ (t : Torn _). t.inner) c.self.view_is) (ap (λ (t : Torn _). t.held) c.self.view_is) (d.may_leave inner) (left_of d) keeps
    r.crash (left_below d inner held) (λ kept less. left_still d inner held _ _ refl (r.seen (law.keeping_tells inner kept)) less)

pub returns-in_err-reserve-2-clause-crash : goal.returns-in_err-reserve-2-clause-crash
returns-in_err-reserve-2-clause-crash g c keeps =
    let d = g.D.Disk in
    let law = g.met.D.Disk in
    let inner = c.self.inside.inner in
    let held = c.self.inside.held.writes in
    let r = c.in_ok-reserve.ensures {u = tt} in
    let same = ap (λ (l : ListedWrites). l.writes) (c.in_err-reserve-2.ensures {u = tt}).after in
    torn_call d c.args.self.now _ inner held (ap (λ (t : Torn _). t.inner) c.self.view_is) (ap (λ (t : Torn _). t.held) c.self.view_is) (d.may_leave inner) (left_of d) keeps
    r.crash (left_below d inner held) (λ kept less. left_still d inner held _ _ same (r.seen (law.keeping_tells inner kept)) less)

pub returns-clause-crash : goal.returns-clause-crash
returns-clause-crash g c keeps =
    let d = g.D.Disk in
    let law = g.met.D.Disk in
    let inner = c.self.inside.inner in
    let held = c.self.inside.held.writes in
    let r = c.in_ok-reserve.ensures {u = tt} in
    let same = ap (λ (l : ListedWrites). l.writes) (c.in_ok-reserve-2.ensures {u = tt}).after in
    torn_call d c.args.self.now _ inner held (ap (λ (t : Torn _). t.inner) c.self.view_is) (ap (λ (t : Torn _). t.held) c.self.view_is) (d.may_leave inner) (left_of d) keeps
    r.crash (left_below d inner held) (λ kept less. left_still d inner held _ _ same (r.seen (law.keeping_tells inner kept)) less)
