use Rattle.std.proofs.Common.{◌≡◌, subst, inl, inr, length, arith}
use Rattle.ic_report.specs.Ends.{EndsDone}
use Rattle.ic_script.specs.Reading.{the_script}
use Rattle.ic_more.specs.Lending.{components_of}
use Rattle.ic_more.specs.Runs.{ComesTo}
use Rattle.ic_more.proofs.Handed.{runs-this, no-room}
use Rattle.ic_more.proofs.call.run_asked.Goals as goal

pub returns-in_default : goal.returns-in_default
returns-in_default g c =
    no-room g.D.Disk g.K.Sink (the_script c.args.asked.now.script) c.args.asked.now.fingerprint c.args.disks.now.items c.take_first.new.disks.items c.args.out.now c.in_default.ensures.kept

pub returns-in-Ok-lines : goal.returns-in-Ok-lines
returns-in-Ok-lines g c =
    let s = the_script c.args.asked.now.script in
    let print = c.args.asked.now.fingerprint in
    let taken = c.in-Ok.taken.items in
    let rest = c.take_first.new.disks.items in
    let back = c.run_over-taken.result.0.items in
    let lines = c.in-Ok-lines.lines in
    let count : length taken ≡ components_of s = omega (arith, c.in-Ok.ensures.taken.long, c.len.ensures) in
    runs-this g.D.Disk g.K.Sink s print c.requires.openings c.requires.long taken rest back c.args.disks.now.items c.put_back.new.disks.items c.args.out.now c.end_done.new.out c.end_done.result c.in-Ok.ensures.taken.is count c.put_back.ensures c.run_over-taken.ensures.kept
    (inl (record {
      lines = lines;
      completed = subst (ComesTo g.D.Disk s print taken back) c.in-Ok-lines.is c.run_over-taken.ensures.comes;
      ends = subst (λ l. EndsDone g.K.Sink l c.args.out.now c.end_done.new.out c.end_done.result) c.as_slice.ensures c.end_done.ensures;
    }))

pub returns-in-Err : goal.returns-in-Err
returns-in-Err g c =
    let s = the_script c.args.asked.now.script in
    let print = c.args.asked.now.fingerprint in
    let taken = c.in-Ok.taken.items in
    let rest = c.take_first.new.disks.items in
    let back = c.run_over-taken.result.0.items in
    let count : length taken ≡ components_of s = omega (arith, c.in-Ok.ensures.taken.long, c.len.ensures) in
    runs-this g.D.Disk g.K.Sink s print c.requires.openings c.requires.long taken rest back c.args.disks.now.items c.put_back.new.disks.items c.args.out.now c.end_with.new.out c.end_with.result c.in-Ok.ensures.taken.is count c.put_back.ensures c.run_over-taken.ensures.kept
    (inr (record {
      why = c.in-Err.why;
      comes = subst (ComesTo g.D.Disk s print taken back) c.in-Err.is c.run_over-taken.ensures.comes;
      ends = c.end_with.ensures;
    }))
