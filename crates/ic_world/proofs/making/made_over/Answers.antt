use Rattle.std.proofs.Common.{◌∙◌, subst, sym, ap, []}
use Rattle.std.specs.Prelude.{◌≡◌, is_some, IfOk, IfErr}
use Rattle.ic_node.specs.Beginning.{Starts, IsFound, FailsToStart, FailsToBeFound}
use Rattle.ic_world.specs.Making.{MayBegin, MayBeginAt, IsMadeOver, FailsOver}
use Rattle.ic_world.specs.declared.making.Beginning.TheVariants.{Fresh, Found}
use Rattle.ic_world.proofs.Makings.{found-on, started-on, not-found, not-started, made-ok, made-err}
use Rattle.ic_world.proofs.making.made_over.Goals as goal

pub returns-in-None-clause-step : goal.returns-in-None-clause-step
returns-in-None-clause-step g c =
    subst (λ o. IsMadeOver g.D.Disk c.args.way c.args.program.now c.args.«com» c.args.fingerprint.now o c.outside.result) (sym c.in-None.is)
    (record { node = c.outside.ensures.node; which = c.outside.ensures.which; going = c.outside.ensures.going })

pub start-requires : goal.start-requires
start-requires g c =
    let may = subst (λ w. MayBegin g.D.Disk w c.in-Some.disk) c.in-Fresh.is (subst (λ o. MayBeginAt g.D.Disk c.args.way o) c.in-Some.is c.requires.may) in
    record {
      there = c.requires.there;
      has = sym c.requires.has ∙ ap is_some c.in-Some.is;
      blank = subst (λ x. g.D.Disk.tells x → g.D.Disk.seen x ≡ []) (sym c.new-disk.ensures.inner) may;
      new = record { held = c.new-disk.ensures.held; script = c.new-disk.ensures.script; runs = c.new-disk.ensures.stopped };
    }

pub found-requires : goal.found-requires
found-requires g c = record { new = record { held = c.new-disk.ensures.held; script = c.new-disk.ensures.script; runs = c.new-disk.ensures.stopped } }

pub returns-in-Fresh-clause-step : goal.returns-in-Fresh-clause-step
returns-in-Fresh-clause-step g c =
    let print = c.args.fingerprint.now in
    subst (λ w. IfOk c.start.result (IsMadeOver g.D.Disk w c.args.program.now c.args.«com» print c.args.place)) (sym c.in-Fresh.is)
    (made-ok g.D.Disk c.args.program.now c.args.«com» print c.new-disk.result c.in-Some.disk c.new-disk.ensures.inner c.new-disk.ensures.held Fresh c.args.place c.in-Some.is (Starts c.args.program.now c.args.«com» print)
    (started-on g.D.Disk c.args.program.now c.args.«com» print c.new-disk.result c.in-Some.disk c.new-disk.ensures.inner c.new-disk.ensures.held g.met.D.Disk.read_may_stay) c.start.result c.start.ensures.step c.start.ensures.disk)

pub returns-in-Fresh-clause-refused : goal.returns-in-Fresh-clause-refused
returns-in-Fresh-clause-refused g c =
    let print = c.args.fingerprint.now in
    subst (λ w. IfErr c.start.result (FailsOver g.D.Disk w c.args.«com» print c.args.place)) (sym c.in-Fresh.is)
    (made-err g.D.Disk c.args.program.now c.args.«com» print c.new-disk.result c.in-Some.disk c.new-disk.ensures.inner c.new-disk.ensures.held Fresh c.args.place c.in-Some.is g.met.D.Disk.read_may_stay (FailsToStart g.D.Disk c.new-disk.result)
    (not-started g.D.Disk c.args.program.now c.args.«com» print c.new-disk.result c.in-Some.disk c.new-disk.ensures.inner c.new-disk.ensures.held) c.start.result c.start.ensures.refused c.start.ensures.disk)

pub returns-in-Found-clause-step : goal.returns-in-Found-clause-step
returns-in-Found-clause-step g c =
    let print = c.args.fingerprint.now in
    subst (λ w. IfOk c.found.result (IsMadeOver g.D.Disk w c.args.program.now c.args.«com» print c.args.place)) (sym c.in-Found.is)
    (made-ok g.D.Disk c.args.program.now c.args.«com» print c.new-disk.result c.in-Some.disk c.new-disk.ensures.inner c.new-disk.ensures.held Found c.args.place c.in-Some.is (IsFound c.args.«com» print c.new-disk.result)
    (found-on g.D.Disk c.args.program.now c.args.«com» print c.new-disk.result c.in-Some.disk c.new-disk.ensures.inner c.new-disk.ensures.held g.met.D.Disk.read_may_stay) c.found.result c.found.ensures.step (c.found.ensures.disk, c.found.ensures.crash))

pub returns-in-Found-clause-refused : goal.returns-in-Found-clause-refused
returns-in-Found-clause-refused g c =
    let print = c.args.fingerprint.now in
    subst (λ w. IfErr c.found.result (FailsOver g.D.Disk w c.args.«com» print c.args.place)) (sym c.in-Found.is)
    (made-err g.D.Disk c.args.program.now c.args.«com» print c.new-disk.result c.in-Some.disk c.new-disk.ensures.inner c.new-disk.ensures.held Found c.args.place c.in-Some.is g.met.D.Disk.read_may_stay (FailsToBeFound g.D.Disk c.new-disk.result print c.args.«com».0)
    (not-found g.D.Disk c.args.program.now c.args.«com» print c.new-disk.result c.in-Some.disk c.new-disk.ensures.inner c.new-disk.ensures.held) c.found.result c.found.ensures.refused (c.found.ensures.disk, c.found.ensures.crash))
