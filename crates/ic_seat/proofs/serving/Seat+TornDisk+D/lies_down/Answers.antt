use Rattle.std.proofs.Common.{◌∙◌, refl, ap}
use Rattle.ic_disk.specs.TornDisks.{Torn}
use Rattle.ic_seat.proofs.Ends.{never-both}
use Rattle.ic_seat.proofs.serving.Seat+TornDisk+D.lies_down.Goals as goal
use Rattle.ic_seat.proofs.serving.Seat+TornDisk+D.lies_down.Goals.{then-stopped, else-stopped}

pub returns-clause-down : goal.returns-clause-down
returns-clause-down g c = λ stood. record {
  disk = c.if-stopped.disk;
  is = refl;
  inner = (elim c.if-stopped.branch [
    | then-stopped w ↦ ap (λ (x : Torn g.row.D.Denot). x.inner) (w.disk-is ∙ w.arm.ensures) ∙ ap (λ (x : Torn g.row.D.Denot). x.inner) w.power_on.ensures.after ∙ ap (λ (x : Torn g.row.D.Denot). x.inner) c.into_disk-disk.ensures
    | else-stopped w ↦ never-both c.is_stopped-stopped.result stood w.if-stopped.false
  ]);
  held = (elim c.if-stopped.branch [
    | then-stopped w ↦ ap (λ (x : Torn g.row.D.Denot). x.held) (w.disk-is ∙ w.arm.ensures) ∙ ap (λ (x : Torn g.row.D.Denot). x.held) w.power_on.ensures.after
    | else-stopped w ↦ never-both c.is_stopped-stopped.result stood w.if-stopped.false
  ]);
  runs = (elim c.if-stopped.branch [
    | then-stopped w ↦ ap (λ (x : Torn g.row.D.Denot). x.stopped) (w.disk-is ∙ w.arm.ensures) ∙ ap (λ (x : Torn g.row.D.Denot). x.stopped) w.power_on.ensures.after
    | else-stopped w ↦ never-both c.is_stopped-stopped.result stood w.if-stopped.false
  ]);
  script = (elim c.if-stopped.branch [
    | then-stopped w ↦ ap (λ (x : Torn g.row.D.Denot). x.script) (w.disk-is ∙ w.arm.ensures)
    | else-stopped w ↦ never-both c.is_stopped-stopped.result stood w.if-stopped.false
  ]);
}
