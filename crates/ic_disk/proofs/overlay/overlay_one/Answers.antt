use Rattle.std.proofs.Common.{◌≡◌, sym, subst, ℕ, ◌+◌, ◌-◌, min, List, length, arith}
use Rattle.def_log.specs.Torn.{written}
use Rattle.ic_disk.specs.TornDisks.{Shows}
use Rattle.ic_disk.proofs.Overlays.{shows_over}
use Rattle.ic_disk.proofs.overlay.overlay_one.Goals as goal

pub returns : goal.returns
returns c file le shows =
    let start = c.saturating_sub-start.result in
    let skip = c.saturating_sub-skip.result in
    let bytes = c.args.bytes.now in
    let shown = c.args.shown.now in
    let count : ℕ = skip + c.min-count.result - skip in
    let counts : count ≡ min (length shown - start) (length bytes - skip) = omega (arith, c.min-count.ensures) in
    let P : List ℕ → Type 0 = Shows c.args.at (written file c.args.place bytes) in
    subst P (sym c.put.ensures)
    (shows_over c.args.at c.args.place file bytes shown start skip count c.saturating_sub-start.ensures c.saturating_sub-skip.ensures c.if-shown-start.false c.if-bytes-skip.false counts le shows)
