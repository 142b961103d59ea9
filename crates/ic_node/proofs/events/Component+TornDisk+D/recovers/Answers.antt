use Rattle.std.proofs.Common.{◌∙◌, refl, sym, ap, subst, true, cond, ◌≤◌}
use Rattle.std.specs.Prelude.{is_ok, IfOk, IfErr}
use Rattle.def_run.specs.Reports.{played_by}
use Rattle.def_step.specs.World.{is_reached}
use Rattle.ic_node.specs.DeviceCalls.{MakesCalls, recovery_calls}
use Rattle.ic_node.specs.Recovering.{Recovers, would_begin, FailsToRecover}
use Rattle.ic_disk.specs.Torns.{torn}
use Rattle.ic_node.specs.Views.{node_of, disk_of, com_of}
use Rattle.ic_node.proofs.Cuts.{kept_self}
use Rattle.ic_node.proofs.LoadCuts.{lies_within, lies_beyond}
use Rattle.ic_node.proofs.Resting.{rests}
use Rattle.ic_node.proofs.Forced.{allowed}
use Rattle.ic_node.proofs.Stills.{idle_played}
use Rattle.ic_node.proofs.Ups.{up_stays, none_counted, none_of}
use Rattle.ic_node.proofs.DeviceCalls.{makes_none, up_makes}
use Rattle.ic_node.proofs.events.Component+TornDisk+D.recovers.Goals as goal

pub returns-then-not-is_down-clause-step : goal.returns-then-not-is_down-clause-step
returns-then-not-is_down-clause-step g c =
    let up = sym c.is_down.ensures ∙ c.if-not-is_down.true in
    up_stays g.D.Disk c.args.program.now c.args.self.now c.args.stop c.requires.going up c.just.result c.just.ensures

pub returns-then-not-is_down-clause-played : goal.returns-then-not-is_down-clause-played
returns-then-not-is_down-clause-played g c =
    idle_played (node_of c.args.self.now) c.args.steps.now

pub returns-then-not-is_down-clause-disk : goal.returns-then-not-is_down-clause-disk
returns-then-not-is_down-clause-disk g c =
    kept_self (torn g.D.Disk) (disk_of c.args.self.now)

pub returns-then-not-is_down-clause-crash : goal.returns-then-not-is_down-clause-crash
returns-then-not-is_down-clause-crash g c =
    let x = c.args.self.now in
    let law = g.met.D.Disk in
    rests g.D.Disk law.only_now law.keeping_tells x.node x.kept (would_begin c.args.program.now x) (x.durable c.requires.going) (x.whole c.requires.going) (x.on_disk c.requires.going)

pub tcom_recovers-requires-clause-down : goal.tcom_recovers-requires-clause-down
tcom_recovers-requires-clause-down g c =
    sym c.is_down.ensures ∙ c.if-not-is_down.false

pub tcom_recovers-requires-clause-beyond : goal.tcom_recovers-requires-clause-beyond
tcom_recovers-requires-clause-beyond g c =
    ap (is_reached c.args.stop) (sym (c.calls_of_load.ensures ∙ ap (λ t. cond t 3 4) (sym c.is_a_tcom.ensures ∙ c.if-is_a_tcom.true))) ∙ lies_beyond c.calls_of_load.result c.args.stop (sym c.stop_in_load.ensures ∙ none_of c.stop_in_load.result c.in_default.not-Some)

pub returns-then-is_a_tcom-clause-step : goal.returns-then-is_a_tcom-clause-step
returns-then-is_a_tcom-clause-step g c =
    c.tcom_recovers.ensures.step

pub returns-then-is_a_tcom-clause-disk : goal.returns-then-is_a_tcom-clause-disk
returns-then-is_a_tcom-clause-disk g c =
    c.tcom_recovers.ensures.disk

pub returns-then-is_a_tcom-clause-crash : goal.returns-then-is_a_tcom-clause-crash
returns-then-is_a_tcom-clause-crash g c =
    c.tcom_recovers.ensures.crash

pub returns-then-is_a_tcom-clause-refused : goal.returns-then-is_a_tcom-clause-refused
returns-then-is_a_tcom-clause-refused g c =
    c.tcom_recovers.ensures.refused

pub returns-then-is_a_tcom-clause-played : goal.returns-then-is_a_tcom-clause-played
returns-then-is_a_tcom-clause-played g c =
    none_counted c.tcom_recovers.result c.args.steps.now (played_by (node_of c.args.self.now) (node_of c.tcom_recovers.new.self)) c.tcom_recovers.ensures.played

pub stops_in_load-requires-clause-first : goal.stops_in_load-requires-clause-first
stops_in_load-requires-clause-first g c =
    let lies = lies_within c.calls_of_load.result c.args.stop c.in-Some.stop (sym c.stop_in_load.ensures ∙ c.in-Some.is) in
    allowed c.args.stop c.requires.stop c.in-Some.stop lies.0

pub stops_in_load-requires-clause-within : goal.stops_in_load-requires-clause-within
stops_in_load-requires-clause-within g c =
    let lies = lies_within c.calls_of_load.result c.args.stop c.in-Some.stop (sym c.stop_in_load.ensures ∙ c.in-Some.is) in
    subst (λ n. c.in-Some.stop.call ≤ n) c.calls_of_load.ensures lies.1

pub stops_in_load-requires-clause-down : goal.stops_in_load-requires-clause-down
stops_in_load-requires-clause-down g c =
    sym c.is_down.ensures ∙ c.if-not-is_down.false

pub pcom_recovers-requires-clause-down : goal.pcom_recovers-requires-clause-down
pcom_recovers-requires-clause-down g c =
    sym c.is_down.ensures ∙ c.if-not-is_down.false

pub pcom_recovers-requires-clause-beyond : goal.pcom_recovers-requires-clause-beyond
pcom_recovers-requires-clause-beyond g c =
    ap (is_reached c.args.stop) (sym (c.calls_of_load.ensures ∙ ap (λ t. cond t 3 4) (sym c.is_a_tcom.ensures ∙ c.if-is_a_tcom.false))) ∙ lies_beyond c.calls_of_load.result c.args.stop (sym c.stop_in_load.ensures ∙ none_of c.stop_in_load.result c.in_default.not-Some)

pub returns-in-Some-clause-step : goal.returns-in-Some-clause-step
returns-in-Some-clause-step g c =
    let lies = lies_within c.calls_of_load.result c.args.stop c.in-Some.stop (sym c.stop_in_load.ensures ∙ c.in-Some.is) in
    subst (λ o. IfOk c.stops_in_load.result (Recovers c.args.program.now c.args.self.now o c.stops_in_load.new.self)) (sym lies.0) (c.stops_in_load.ensures.step)

pub returns-in-Some-clause-disk : goal.returns-in-Some-clause-disk
returns-in-Some-clause-disk g c =
    c.stops_in_load.ensures.disk

pub returns-in-Some-clause-crash : goal.returns-in-Some-clause-crash
returns-in-Some-clause-crash g c =
    c.stops_in_load.ensures.crash

pub returns-in-Some-clause-refused : goal.returns-in-Some-clause-refused
returns-in-Some-clause-refused g c =
    let lies = lies_within c.calls_of_load.result c.args.stop c.in-Some.stop (sym c.stop_in_load.ensures ∙ c.in-Some.is) in
    subst (λ o. IfErr c.stops_in_load.result (FailsToRecover g.D.Disk c.args.program.now c.args.fingerprint.now c.args.self.now o c.stops_in_load.new.self)) (sym lies.0) (c.stops_in_load.ensures.refused)

pub returns-in-Some-clause-played : goal.returns-in-Some-clause-played
returns-in-Some-clause-played g c =
    none_counted c.stops_in_load.result c.args.steps.now (played_by (node_of c.args.self.now) (node_of c.stops_in_load.new.self)) c.stops_in_load.ensures.played

pub returns-clause-step : goal.returns-clause-step
returns-clause-step g c =
    c.pcom_recovers.ensures.step

pub returns-clause-disk : goal.returns-clause-disk
returns-clause-disk g c =
    c.pcom_recovers.ensures.disk

pub returns-clause-crash : goal.returns-clause-crash
returns-clause-crash g c =
    c.pcom_recovers.ensures.crash

pub returns-clause-refused : goal.returns-clause-refused
returns-clause-refused g c =
    c.pcom_recovers.ensures.refused

pub returns-clause-played : goal.returns-clause-played
returns-clause-played g c =
    c.pcom_recovers.ensures.played

pub returns-then-not-is_down-clause-calls : goal.returns-then-not-is_down-clause-calls
returns-then-not-is_down-clause-calls g c =
    let x = c.args.self.now in
    let up = sym c.is_down.ensures ∙ c.if-not-is_down.true in
    makes_none (λ free. recovery_calls c.args.program.now (com_of x) (node_of x)) c.args.stop x x true refl (λ is free. up_makes c.args.program.now (com_of x) (node_of x) up)

pub returns-in-Some-clause-calls : goal.returns-in-Some-clause-calls
returns-in-Some-clause-calls g c =
    let x = c.args.self.now in
    let lies = lies_within c.calls_of_load.result c.args.stop c.in-Some.stop (sym c.stop_in_load.ensures ∙ c.in-Some.is) in
    subst (λ o. MakesCalls (λ free. recovery_calls c.args.program.now (com_of x) (node_of x)) o (is_ok c.stops_in_load.result) x c.stops_in_load.new.self) (sym lies.0) c.stops_in_load.ensures.calls

pub returns-then-is_a_tcom-clause-calls : goal.returns-then-is_a_tcom-clause-calls
returns-then-is_a_tcom-clause-calls g c =
    c.tcom_recovers.ensures.calls

pub returns-clause-calls : goal.returns-clause-calls
returns-clause-calls g c =
    c.pcom_recovers.ensures.calls
