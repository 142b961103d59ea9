use Rattle.std.proofs.Common.{refl, ap, sym, subst, ◌∙◌, ◌≤◌, List, length, arith}
use Rattle.ic_base.specs.declared.events.Fill.{Fill}
use Rattle.def_log.specs.Torn.{Write, all_written, torn}
use Rattle.def_log.specs.Images.{MayLeave}
use Rattle.ic_disk.specs.TornDisks.{AreReached, AreShort, need, total}
use Rattle.ic_disk.proofs.Tears.{torn_all, torn_filled, filled_need, filled_count, filled_short, filled_leaves, filled_reached, can_arrive}
use Rattle.ic_disk.proofs.stop_image.fit.Goals as goal

pub returns-in-Old-clause-reached : goal.returns-in-Old-clause-reached
returns-in-Old-clause-reached c file reached = can_arrive file c.args.held.now.writes c.args.armed.keep reached

pub returns-in-Byte-clause-image : goal.returns-in-Byte-clause-image
returns-in-Byte-clause-image c file =
    let old = c.args.held.now.writes in
    let new = c.fill.new.self.writes in
    let all : total new ≤ c.count.result = omega (arith, c.count.ensures) in
    torn_all file new c.count.result all ∙ ap (all_written file) c.fill.ensures.writes ∙ sym (torn_filled file old c.args.armed.keep c.in-Byte.byte)
    ∙ ap (λ (fill : Fill). torn file old c.args.armed.keep fill) (sym c.in-Byte.is)

pub returns-in-Byte-clause-reached : goal.returns-in-Byte-clause-reached
returns-in-Byte-clause-reached c file reached =
    let old = c.args.held.now.writes in
    can_arrive file c.fill.new.self.writes c.count.result (subst (AreReached file) (sym c.fill.ensures.writes) (filled_reached file file old c.args.armed.keep c.in-Byte.byte refl reached))

pub returns-in-Byte-clause-short : goal.returns-in-Byte-clause-short
returns-in-Byte-clause-short c short = let P : List Write → Type 0 = AreShort in subst P (sym c.fill.ensures.writes) (filled_short c.args.held.now.writes c.args.armed.keep c.in-Byte.byte short)

pub returns-in-Byte-clause-need : goal.returns-in-Byte-clause-need
returns-in-Byte-clause-need c = ap need c.fill.ensures.writes ∙ filled_need c.args.held.now.writes c.args.armed.keep c.in-Byte.byte

pub returns-in-Byte-clause-count : goal.returns-in-Byte-clause-count
returns-in-Byte-clause-count c = ap length c.fill.ensures.writes ∙ filled_count c.args.held.now.writes c.args.armed.keep c.in-Byte.byte

pub returns-in-Byte-clause-leaves : goal.returns-in-Byte-clause-leaves
returns-in-Byte-clause-leaves c was image may =
    let P : List Write → Type 0 = λ l. MayLeave was l image in
    filled_leaves c.args.held.now.writes c.args.armed.keep c.in-Byte.byte was image (subst P c.fill.ensures.writes may)
