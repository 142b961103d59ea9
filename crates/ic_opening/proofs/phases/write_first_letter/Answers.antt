use Rattle.std.proofs.Common.{take}
use Rattle.std.proofs.lemmas.List.{length-take-le}
use Rattle.ic_disk.proofs.Disks.{crash_weaker}
use Rattle.ic_opening.proofs.Letters.{letter_torn}
use Rattle.ic_opening.proofs.phases.write_first_letter.Goals as goal

pub returns-clause-crash : goal.returns-clause-crash
returns-clause-crash g c just first =
    let law = g.met.D.Disk in
    let old = c.args.disk.now in
    let log = c.args.log.now in
    let one = length-take-le 1 log c.requires.some in
    crash_weaker (λ keeps image torn. letter_torn _ log (take 1 log) image (c.requires.unopened (law.keeping_tells old keeps)) first one torn) (c.write_through.ensures.crash just)
