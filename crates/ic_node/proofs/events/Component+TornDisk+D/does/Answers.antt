use Rattle.std.proofs.Common.{◌∙◌, ap, subst, true, false}
use Rattle.std.proofs.lemmas.Result.{err_from_is_err_and}
use Rattle.ic_node.specs.Calling.{call_of, just_told}
use Rattle.ic_node.specs.Cutting.{IsCutOff, EndsBy}
use Rattle.ic_node.specs.DeviceCalls.{is_done}
use Rattle.ic_node.specs.Doing.{would_force}
use Rattle.ic_node.specs.Ending.{CountsPlayed}
use Rattle.ic_disk.specs.Torns.{torn}
use Rattle.ic_node.specs.Views.{node_of, disk_of}
use Rattle.ic_node.proofs.Cuts.{cut_does, cut_fails, cut_crash, cut_played, kept_twice}
use Rattle.std.specs.Prelude.{Ok, Err, nat_lt}
use Rattle.def_step.specs.World as world
use Rattle.ic_node.proofs.DeviceCalls.{ended_so, ended_cut}
use Rattle.ic_node.proofs.events.Component+TornDisk+D.does.Goals as goal

pub returns-in_err-done-clause-disk : goal.returns-in_err-done-clause-disk
returns-in_err-done-clause-disk g c =
    c.ends.ensures.disk

pub returns-in_err-done-clause-crash : goal.returns-in_err-done-clause-crash
returns-in_err-done-clause-crash g c =
    c.ends.ensures.crash

pub returns-in-Done-clause-disk : goal.returns-in-Done-clause-disk
returns-in-Done-clause-disk g c =
    c.ends.ensures.disk

pub returns-in-Done-clause-crash : goal.returns-in-Done-clause-crash
returns-in-Done-clause-crash g c =
    c.ends.ensures.crash

pub lies_down-requires : goal.lies_down-requires
lies_down-requires g c =
    let x = c.args.self.now in
    let mid = c.ends.new.self in
    let program = c.args.program.now in
    let e = c.in_ok-done.ensures {u = tt} in
    let cut : IsCutOff g.D.Disk program x c.args.stop c.args.number c.args.call.now mid = subst (λ d. EndsBy g.D.Disk program x c.args.stop c.args.number c.args.call.now mid d) c.in-Cut.is e.step in
    record { halted = cut.halted }

pub returns-in_err-lies_down-in-Cut-clause-disk : goal.returns-in_err-lies_down-in-Cut-clause-disk
returns-in_err-lies_down-in-Cut-clause-disk g c =
    kept_twice (torn g.D.Disk) (disk_of c.args.self.now) (disk_of c.ends.new.self) (disk_of c.lies_down.new.self) c.ends.ensures.disk c.lies_down.ensures.disk

pub returns-in_err-lies_down-in-Cut-clause-crash : goal.returns-in_err-lies_down-in-Cut-clause-crash
returns-in_err-lies_down-in-Cut-clause-crash g c =
    let x = c.args.self.now in
    let mid = c.ends.new.self in
    let program = c.args.program.now in
    let e = c.in_ok-done.ensures {u = tt} in
    let cut : IsCutOff g.D.Disk program x c.args.stop c.args.number c.args.call.now mid = subst (λ d. EndsBy g.D.Disk program x c.args.stop c.args.number c.args.call.now mid d) c.in-Cut.is e.step in
    cut_crash g.D.Disk program x mid c.args.stop c.args.number c.args.call.now c.requires.ready.going c.requires.ready.allowed c.ends.ensures.disk cut c.lies_down.new.self (would_force program x c.args.number c.args.call.now) c.ends.ensures.crash c.lies_down.ensures.crash

pub returns-in_ok-lies_down-in-Cut-clause-disk : goal.returns-in_ok-lies_down-in-Cut-clause-disk
returns-in_ok-lies_down-in-Cut-clause-disk g c =
    kept_twice (torn g.D.Disk) (disk_of c.args.self.now) (disk_of c.ends.new.self) (disk_of c.lies_down.new.self) c.ends.ensures.disk c.lies_down.ensures.disk

pub returns-in_ok-lies_down-in-Cut-clause-crash : goal.returns-in_ok-lies_down-in-Cut-clause-crash
returns-in_ok-lies_down-in-Cut-clause-crash g c =
    let x = c.args.self.now in
    let mid = c.ends.new.self in
    let program = c.args.program.now in
    let e = c.in_ok-done.ensures {u = tt} in
    let cut : IsCutOff g.D.Disk program x c.args.stop c.args.number c.args.call.now mid = subst (λ d. EndsBy g.D.Disk program x c.args.stop c.args.number c.args.call.now mid d) c.in-Cut.is e.step in
    cut_crash g.D.Disk program x mid c.args.stop c.args.number c.args.call.now c.requires.ready.going c.requires.ready.allowed c.ends.ensures.disk cut c.lies_down.new.self (would_force program x c.args.number c.args.call.now) c.ends.ensures.crash c.lies_down.ensures.crash

pub returns-in_err-lies_down-in-Cut-clause-refused : goal.returns-in_err-lies_down-in-Cut-clause-refused
returns-in_err-lies_down-in-Cut-clause-refused g c =
    let x = c.args.self.now in
    let mid = c.ends.new.self in
    let program = c.args.program.now in
    let e = c.in_ok-done.ensures {u = tt} in
    let cut : IsCutOff g.D.Disk program x c.args.stop c.args.number c.args.call.now mid = subst (λ d. EndsBy g.D.Disk program x c.args.stop c.args.number c.args.call.now mid d) c.in-Cut.is e.step in
    let r = err_from_is_err_and c.from_residual-in_err-lies_down-in-Cut.result c.from_residual-in_err-lies_down-in-Cut.ensures.1 in
    rw (r.1, r.2) (cut_fails g.D.Disk program x mid c.args.stop c.args.number c.args.call.now c.requires.ready.going c.requires.ready.allowed c.ends.ensures.disk cut c.args.fingerprint.now c.lies_down.new.self c.in_err-lies_down-in-Cut.field-0.0 c.in_err-lies_down-in-Cut.ensures.refused)

pub returns-in_ok-lies_down-in-Cut-clause-step : goal.returns-in_ok-lies_down-in-Cut-clause-step
returns-in_ok-lies_down-in-Cut-clause-step g c =
    let x = c.args.self.now in
    let mid = c.ends.new.self in
    let program = c.args.program.now in
    let e = c.in_ok-done.ensures {u = tt} in
    let cut : IsCutOff g.D.Disk program x c.args.stop c.args.number c.args.call.now mid = subst (λ d. EndsBy g.D.Disk program x c.args.stop c.args.number c.args.call.now mid d) c.in-Cut.is e.step in
    let lies = (c.in_ok-lies_down-in-Cut.ensures {u = tt}).step in
    let told = c.just.ensures ∙ ap just_told (c.answer_stopped.ensures ∙ ap (λ n. world.answer_stopped c.args.number (nat_lt c.forced-before.result n) (call_of c.args.call.now)) c.len.ensures.count) in
    cut_does g.D.Disk program x mid c.args.stop c.args.number c.args.call.now c.requires.ready.going c.requires.ready.allowed c.ends.ensures.disk cut c.args.fingerprint.now c.lies_down.new.self lies c.just.result c.forced-before.result c.forced-before.ensures told

pub returns-in_ok-lies_down-in-Cut-clause-played : goal.returns-in_ok-lies_down-in-Cut-clause-played
returns-in_ok-lies_down-in-Cut-clause-played g c =
    let x = c.args.self.now in
    let mid = c.ends.new.self in
    let program = c.args.program.now in
    let e = c.in_ok-done.ensures {u = tt} in
    let cut : IsCutOff g.D.Disk program x c.args.stop c.args.number c.args.call.now mid = subst (λ d. EndsBy g.D.Disk program x c.args.stop c.args.number c.args.call.now mid d) c.in-Cut.is e.step in
    let lies = (c.in_ok-lies_down-in-Cut.ensures {u = tt}).step in
    cut_played g.D.Disk program x mid c.args.stop c.args.number c.args.call.now c.requires.ready.going c.requires.ready.allowed c.ends.ensures.disk cut c.args.fingerprint.now c.lies_down.new.self lies c.args.steps.now c.ends.new.steps (subst (λ d. CountsPlayed c.args.steps.now c.ends.new.steps (node_of x) (node_of mid) d) c.in-Cut.is e.played)

pub returns-in_err-done-clause-calls : goal.returns-in_err-done-clause-calls
returns-in_err-done-clause-calls g c =
    let r = err_from_is_err_and c.from_residual.result c.from_residual.ensures.1 in
    rw (r.1) (ended_so c.args.program.now c.args.self.now c.ends.new.self c.ends.new.self c.args.stop c.args.number c.args.call.now c.requires.ready.allowed (Err c.in_err-done.field-0.0) false (λ is. cc) c.in_err-done.ensures.calls)

pub returns-in-Done-clause-calls : goal.returns-in-Done-clause-calls
returns-in-Done-clause-calls g c =
    ended_so c.args.program.now c.args.self.now c.ends.new.self c.ends.new.self c.args.stop c.args.number c.args.call.now c.requires.ready.allowed (Ok c.in_ok-done.field-0) true (λ is. ap (λ d. is_done (Ok d)) c.in-Done.is) (c.in_ok-done.ensures {u = tt}).calls

pub returns-in_err-lies_down-in-Cut-clause-calls : goal.returns-in_err-lies_down-in-Cut-clause-calls
returns-in_err-lies_down-in-Cut-clause-calls g c =
    ended_cut c.args.program.now c.args.self.now c.ends.new.self c.lies_down.new.self c.args.stop c.args.number c.args.call.now c.requires.ready.allowed (Ok c.in_ok-done.field-0) _ (ap (λ d. Ok d) c.in-Cut.is) (c.in_ok-done.ensures {u = tt}).calls c.lies_down.ensures.calls

pub returns-in_ok-lies_down-in-Cut-clause-calls : goal.returns-in_ok-lies_down-in-Cut-clause-calls
returns-in_ok-lies_down-in-Cut-clause-calls g c =
    ended_cut c.args.program.now c.args.self.now c.ends.new.self c.lies_down.new.self c.args.stop c.args.number c.args.call.now c.requires.ready.allowed (Ok c.in_ok-done.field-0) true (ap (λ d. Ok d) c.in-Cut.is) (c.in_ok-done.ensures {u = tt}).calls c.lies_down.ensures.calls
