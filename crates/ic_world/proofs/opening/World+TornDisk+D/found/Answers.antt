use Rattle.ic_world.proofs.Explained.{found-explained}
use Rattle.ic_world.proofs.FoundWorlds.{found-ok, found-err, found-leaves}
use Rattle.ic_world.proofs.opening.World+TornDisk+D.found.Goals as goal

pub opened-requires : goal.opened-requires
opened-requires g c = record { few = c.requires.few; disks = c.requires.disks; may = λ k disk at. tt }

pub returns : goal.returns
returns g c =
    let found = found-ok g.D.Disk c.args.program.now c.args.fingerprint c.args.disks.items c.requires.playable c.opened.result c.opened.ensures.step in
    record {
      step = found;
      explained = found-explained g.D.Disk c.args.program.now c.args.fingerprint c.args.disks.items c.requires.playable c.opened.result found;
      crash = found-leaves g.D.Disk c.args.program.now c.args.fingerprint c.args.disks.items c.opened.result c.opened.ensures.step c.opened.ensures.refused;
      refused = found-err g.D.Disk c.args.program.now c.args.fingerprint c.args.disks.items c.opened.result c.opened.ensures.refused;
    }
