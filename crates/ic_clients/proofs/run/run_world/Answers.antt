use Rattle.std.proofs.Common.{OnOk, IfErr, inl, inr}
use Rattle.std.specs.Prelude.{Result, Ok, Err}
use Rattle.ic_report.specs.declared.ending.Why.{Why}
use Rattle.ic_clients.proofs.Told.{run-whole, run-unsummed}
use Rattle.ic_clients.proofs.run.run_world.Goals as goal

both : {T : Type 0} {P Q R : Type 0} (r : Result T Why) → OnOk r P → OnOk r Q → (P → Q → R) → OnOk r R
both (Ok x) p q f = f p q
both (Err e) p q f = tt

either : {T : Type 0} {P Q R : Why → Type 0} (r : Result T Why) → IfErr r P → IfErr r Q → ((why : Why) → P why → Q why → R why) → IfErr r R
either (Ok x) p q f = tt
either (Err e) p q f = f e p q

pub returns-in-Err-clause-short : goal.returns-in-Err-clause-short
returns-in-Err-clause-short g c = inl (record { cut = c.in-Err.cut; told = c.why_of_cut.ensures; was = c.in-Err.ensures.cut })

pub returns-clause-done : goal.returns-clause-done
returns-clause-done g c =
    both c.conclude.result c.conclude.ensures.printed c.conclude.ensures.few
    (run-whole c.args.texts.now g.K.Sink c.args.world.now c.pursue_clients.new.world c.args.out.now c.pursue_clients.new.out c.conclude.new.out c.in-Ok.tally c.in-Ok.ensures.done c.requires.played)

pub returns-clause-short : goal.returns-clause-short
returns-clause-short g c =
    either c.conclude.result c.conclude.ensures.refused c.conclude.ensures.counted
    (λ why fails few. inr (run-unsummed c.args.texts.now g.K.Sink c.args.world.now c.pursue_clients.new.world c.args.out.now c.pursue_clients.new.out c.conclude.new.out c.in-Ok.tally c.in-Ok.ensures.done c.requires.played why fails few))
