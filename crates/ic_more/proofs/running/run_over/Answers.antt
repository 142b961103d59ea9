use Rattle.std.proofs.Common.{◌∙◌, sym, ap, subst, ◌++◌, arith}
use Rattle.std.proofs.lemmas.List.{length-map}
use Rattle.def_two.specs.Ends.{AreOpenings}
use Rattle.ic_script.specs.Reading.{the_script}
use Rattle.ic_two_world.specs.Opening.{inner_in, disks_under}
use Rattle.ic_two_world.specs.Views.{seats_of}
use Rattle.ic_more.specs.Runs.{RunsOver}
use Rattle.ic_more.proofs.Coming.{runs-over, no-memory, same-count}
use Rattle.ic_more.proofs.running.run_over.Goals as goal

pub returns-in_default : goal.returns-in_default
returns-in_default g c = no-memory g.D.Disk (the_script c.args.asked.now.script) c.args.asked.now.fingerprint c.args.disks.items

pub run_world-lines-requires-clause-openings : goal.run_world-lines-requires-clause-openings
run_world-lines-requires-clause-openings g c = subst AreOpenings (sym c.in-Ok-start.ensures.step.own) c.requires.openings

pub into_disks-requires : goal.into_disks-requires
into_disks-requires g c =
    let same = same-count g.D.Disk (the_script c.args.asked.now.script) c.args.asked.now.fingerprint c.in-Ok-start.world c.run_world-lines.new.world c.run_world-lines.result c.run_world-lines.ensures.done c.run_world-lines.ensures.short in
    omega (arith, same, c.in-Ok-start.ensures.step.kept.count, length-map (seats_of c.in-Ok-start.world) inner_in, c.in-Ok.ensures.len, c.in-Ok.ensures.exact, c.len.ensures)

pub returns : goal.returns
returns g c =
    let s = the_script c.args.asked.now.script in
    let print = c.args.asked.now.fingerprint in
    let disks = c.args.disks.items in
    let r = c.run_world-lines.result in
    let under = disks_under (seats_of c.run_world-lines.new.world) in
    subst (λ l. RunsOver g.D.Disk s print disks l r) (sym (c.into_disks.ensures ∙ ap (λ l. l ++ under) c.in-Ok.ensures.items))
    (runs-over g.D.Disk s print disks c.requires.openings c.requires.long c.in-Ok-start.world c.in-Ok-start.ensures.step c.run_world-lines.new.world r c.run_world-lines.ensures.done c.run_world-lines.ensures.short)
