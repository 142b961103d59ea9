use Rattle.std.proofs.Common.{inr}
use Rattle.ic_serve.proofs.Called.{enough}
use Rattle.ic_serve.proofs.Completing.{completes}
use Rattle.ic_serve.proofs.call.serve_named.Goals as goal

pub returns-in-Ok : goal.returns-in-Ok
returns-in-Ok g c =
    let few = enough g.D.Disk g.K.Sink c.in-Ok.asked g.I.Lines c.args.disks.now.items c.in-Ok.ensures.accepted.small.components c.requires in
    inr (record {
      asked = c.in-Ok.asked;
      texts = c.in-Ok.ensures.says;
      fit = c.in-Ok.ensures.accepted.fit;
      all_asked = c.in-Ok.ensures.all_asked;
      runs = c.serve_lines.ensures.runs;
      back = c.serve_lines.ensures.disks;
      completes = completes g.D.Disk g.K.Sink c.in-Ok.asked g.I.Lines c.args.lines.now c.args.disks.now.items c.args.out.now c.serve_lines.new.lines c.serve_lines.new.disks.items c.serve_lines.new.out c.serve_lines.result c.in-Ok.ensures.accepted.fit few c.serve_lines.ensures.runs;
    })
