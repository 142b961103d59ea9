use Rattle.std.proofs.Common.{◌∙◌, ap, sym, ◌≤◌, length, arith}
use Rattle.def_log.specs.Torn.{written, all_written}
use Rattle.def_log.specs.Images.{TornFrom}
use Rattle.def_log.proofs.Moments.{elapses_none}
use Rattle.def_log.proofs.Stops.{not_torn}
use Rattle.ic_disk.specs.TornDisks.{Torn, TornBy, need}
use Rattle.ic_disk.proofs.Writes.{all_written-push}
use Rattle.ic_disk.proofs.Tears.{need_more}
use Rattle.ic_disk.proofs.TornDisks.{left_of, torn_call, left_below, left_alone, left_more, write_leaves, more_held}
use Rattle.ic_disk.proofs.torn_disk.TornDiskDisk.write_at.Goals as goal

pub invariant_of-self : goal.invariant_of-self
invariant_of-self g c =
    let is = c.self.view_is ∙ (c.in_ok-reached.ensures {u = tt}).after in
    let kept = c.self.invariant in
    let more = more_held g.D.Disk c.args.self.now c.self.inside.inner c.self.inside.held.writes c.add.new.self.writes c.args.at c.args.bytes.now
    (ap (λ (t : Torn _). t.inner) is) (ap (λ (t : Torn _). t.held) is) c.add.ensures.writes (kept.0, kept.1, kept.2) c.requires.place c.requires.fits c.requires.spare in
    (more.0, more.1, more.2, λ stands. let refused = (c.in_ok-reached.ensures {u = tt}).stopped (sym (ap (λ (t : Torn _). t.stopped) is) ∙ stands) in absurd (cc))

pub invariant_of-self-else-reached : goal.invariant_of-self-else-reached
invariant_of-self-else-reached g c =
    let is = c.self.view_is ∙ (c.in_ok-reached.ensures {u = tt}).after in
    let kept = c.self.invariant in
    let more = more_held g.D.Disk c.args.self.now c.self.inside.inner c.self.inside.held.writes c.add.new.self.writes c.args.at c.args.bytes.now
    (ap (λ (t : Torn _). t.inner) is) (ap (λ (t : Torn _). t.held) is) c.add.ensures.writes (kept.0, kept.1, kept.2) c.requires.place c.requires.fits c.requires.spare in
    (more.0, more.1, more.2, λ stands. let refused = (c.in_ok-reached.ensures {u = tt}).stopped (sym (ap (λ (t : Torn _). t.stopped) is) ∙ stands) in absurd (cc))

pub returns-then-reached-clause-crash : goal.returns-then-reached-clause-crash
returns-then-reached-clause-crash g c keeps =
    let d = g.D.Disk in
    let law = g.met.D.Disk in
    let inner = c.self.inside.inner in
    let held = c.self.inside.held.writes in
    let more = c.add.new.self.writes in
    let is = c.self.view_is ∙ (c.in_ok-reached.ensures {u = tt}).after in
    let t = c.tear.ensures in
    let torn = left_more d inner held more c.args.at c.args.bytes.now c.add.ensures.writes in
    torn_call d c.args.self.now c.tear.new.self inner held (ap (λ (t : Torn _). t.inner) is) (ap (λ (t : Torn _). t.held) is) (TornBy more (d.may_leave inner))
    (λ i l. TornFrom c.args.at (length c.args.bytes.now) (left_of d i l)) keeps
    t.crash torn
    (λ kept less image left. torn image (less image (left_alone d c.tear.new.self.inner c.tear.new.self.held (ap (λ (t : Torn _). t.held) t.rest) (law.read_may_stay c.tear.new.self.inner (t.disk.keeps.0 kept)) image left)))

pub returns-then-reached-clause-room : goal.returns-then-reached-clause-room
returns-then-reached-clause-room g c =
    let is = c.self.view_is ∙ (c.in_ok-reached.ensures {u = tt}).after in
    let none = ap (λ (t : Torn _). need t.held) c.tear.ensures.rest in
    let more = ap need c.add.ensures.writes ∙ need_more c.self.inside.held.writes (c.args.at, c.args.bytes.now) in
    omega (arith, none, more, c.tear.ensures.room, c.tear.ensures.spare, c.add.ensures.room, ap (λ (t : Torn _). t.room) is, ap (λ (t : Torn _). g.D.Disk.spare t.inner) is, ap (λ (t : Torn _). need t.held) is)

pub returns-clause-written : goal.returns-clause-written
returns-clause-written g c told =
    let d = g.D.Disk in
    let is = c.self.view_is ∙ (c.in_ok-reached.ensures {u = tt}).after in
    ap (all_written (d.seen c.self.inside.inner)) c.add.ensures.writes ∙ all_written-push (d.seen c.self.inside.inner) c.self.inside.held.writes (c.args.at, c.args.bytes.now)
    ∙ ap (λ (t : Torn _). written (all_written (d.seen t.inner) t.held) c.args.at c.args.bytes.now) is

pub returns-clause-crash : goal.returns-clause-crash
returns-clause-crash g c keeps =
    let d = g.D.Disk in
    let law = g.met.D.Disk in
    let inner = c.self.inside.inner in
    let held = c.self.inside.held.writes in
    let more = c.add.new.self.writes in
    let is = c.self.view_is ∙ (c.in_ok-reached.ensures {u = tt}).after in
    let below = ap (λ (t : Torn _). t.inner) is in
    let place : c.args.at ≤ length (all_written (d.seen inner) held) =
    omega (arith, c.requires.place (law.keeping_tells c.args.self.now.inner keeps), ap (λ (t : Torn _). length (all_written (d.seen t.inner) t.held)) is) in
    torn_call d c.args.self.now _ inner held below (ap (λ (t : Torn _). t.held) is) (d.may_leave inner)
    (λ i l. TornFrom c.args.at (length c.args.bytes.now) (left_of d i l)) keeps
    (λ kept. elapses_none d.moment d.left_since d.may_leave inner (d.may_leave inner) (λ image may. may))
    (λ image may. (image, left_below d inner held image may, not_torn c.args.at (length c.args.bytes.now) image))
    (λ kept less. write_leaves d inner held more c.args.at c.args.bytes.now c.add.ensures.writes place (λ i. omega (arith, c.type_inv.bytes i)))

pub returns-clause-room : goal.returns-clause-room
returns-clause-room g c =
    let is = c.self.view_is ∙ (c.in_ok-reached.ensures {u = tt}).after in
    let more = ap need c.add.ensures.writes ∙ need_more c.self.inside.held.writes (c.args.at, c.args.bytes.now) in
    omega (arith, more, c.add.ensures.room, ap (λ (t : Torn _). t.room) is, ap (λ (t : Torn _). g.D.Disk.spare t.inner) is, ap (λ (t : Torn _). need t.held) is)
