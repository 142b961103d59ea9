use Rattle.std.proofs.Common.{refl, subst, inl}
use Rattle.ic_settle.specs.Policies.{intervals_of}
use Rattle.ic_threads.specs.Serial.{WasCut, DoesLeft}
use Rattle.ic_threads.proofs.Finished.{finishes, untold, both-ok, on-err}
use Rattle.ic_threads.specs.declared.joined.Joined.{Joined}
use Rattle.ic_threads.proofs.run.finish.Goals as goal

pub returns-in-Err-clause-cut : goal.returns-in-Err-clause-cut
returns-in-Err-clause-cut g c =
    let r = c.args.texts.now in
    inl (record {
      cut = c.in-Err.cut;
      told = c.why_of_cut.ensures;
      was = subst (λ l. WasCut g.D.Disk r.program (intervals_of r.policy) l c.args.joined.now.world c.do_left.new.world c.in-Err.cut) c.as_slice.ensures c.in-Err.ensures.cut;
      silent = refl;
    })

pub returns-clause-done : goal.returns-clause-done
returns-clause-done g c =
    let r = c.args.texts.now in
    let j = c.args.joined.now in
    let now : Joined _ _ = record { world = c.do_left.new.world; left = j.left; shown = c.do_left.new.shown; tally = j.tally; played = j.played } in
    let done = subst (λ l. DoesLeft r.program (intervals_of r.policy) c.none.result l j.world c.do_left.new.world j.shown c.do_left.new.shown c.in-Ok.serial) c.as_slice.ensures c.in-Ok.ensures.done in
    both-ok c.conclude.result c.conclude.ensures.few c.conclude.ensures.printed
    (λ few puts. finishes g.D.Disk g.K.Sink r j now c.none.result c.in-Ok.serial c.none.ensures.counts done c.args.out.now c.conclude.new.out c.in-Some.tally c.in-Some.ensures c.as_slice-2.result.now c.as_slice-2.ensures few puts)

pub returns-clause-cut : goal.returns-clause-cut
returns-clause-cut g c =
    let r = c.args.texts.now in
    let j = c.args.joined.now in
    let now : Joined _ _ = record { world = c.do_left.new.world; left = j.left; shown = c.do_left.new.shown; tally = j.tally; played = j.played } in
    let done = subst (λ l. DoesLeft r.program (intervals_of r.policy) c.none.result l j.world c.do_left.new.world j.shown c.do_left.new.shown c.in-Ok.serial) c.as_slice.ensures c.in-Ok.ensures.done in
    on-err c.conclude.result c.conclude.ensures.refused
    (λ why fails. untold g.D.Disk g.K.Sink r j now c.none.result c.in-Ok.serial c.none.ensures.counts done c.args.out.now c.conclude.new.out c.in-Some.tally c.in-Some.ensures c.as_slice-2.result.now c.as_slice-2.ensures why fails)
