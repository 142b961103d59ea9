use Rattle.std.proofs.Common.{ℕ, List, length, sym, subst}
use Rattle.def_log.specs.Images.{IsTorn, TornFrom}
use Rattle.def_log.proofs.Stops.{not_torn}
use Rattle.ic_disk.specs.Disk.{Keeps}
use Rattle.ic_disk.proofs.Disks.{crash_call, crash_then, makes_one, makes_then}
use Rattle.ic_disk.proofs.synced.write_through.Goals as goal

pub returns-clause-crash : goal.returns-clause-crash
returns-clause-crash g c just =
    let disk = g.D.Disk in
    let law = g.met.D.Disk in
    let old = c.args.disk.now in
    let w = c.write_at.ensures in
    let count = length c.args.bytes.now in
    let Torn : List ℕ → Type 0 = IsTorn c.args.at count (disk.seen old) in
    let whole = λ (keeps : disk.keeps old) (image : List ℕ) (may : disk.may_leave old image). subst Torn (sym (just keeps image may)) (not_torn c.args.at count (disk.seen old)) in
    let torn = λ (keeps : disk.keeps old) (image : List ℕ) (came : TornFrom c.args.at count (disk.may_leave old) image).
    subst (λ (was : List ℕ). IsTorn c.args.at count was image) (just keeps came.0 came.1) came.2 in
    let kept : Keeps disk old c.write_at.new.self = record { tells = w.tells; keeps = w.keeps; later = w.cause.later } in
    crash_then kept
    (crash_call law.only_now w.crash torn whole)
    (crash_call law.only_now c.sync.ensures.crash
    (λ keeps image may. torn (w.keeps.1 keeps) image ((w.crash (w.keeps.1 keeps)).now image may))
    (λ keeps image may. torn (w.keeps.1 keeps) image ((w.crash (w.keeps.1 keeps)).now image may)))

pub returns-clause-calls : goal.returns-clause-calls
returns-clause-calls g c =
    let w = c.in_ok-write_at.ensures {u = tt} in
    let kept : Keeps g.D.Disk c.args.disk.now c.write_at.new.self = record { tells = w.tells; keeps = w.keeps; later = w.cause.later } in
    makes_then kept (makes_one w.calls w.stop) (makes_one c.sync.ensures.calls c.sync.ensures.stop)
