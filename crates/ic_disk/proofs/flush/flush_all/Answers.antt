use Rattle.std.proofs.Common.{◌≡◌, ◌≤◌, ◌∙◌, arith}
use Rattle.ic_base.specs.declared.events.Fill.TheVariants.{Old}
use Rattle.def_log.specs.Torn.{torn}
use Rattle.std.proofs.lemmas.Result.{on_ok_weaker}
use Rattle.ic_disk.specs.TornDisks.{total}
use Rattle.ic_disk.proofs.Tears.{torn_all, can_arrive}
use Rattle.ic_disk.proofs.flush.flush_all.Goals as goal

pub flush-requires-clause-reached : goal.flush-requires-clause-reached
flush-requires-clause-reached g c told = can_arrive (g.D.Disk.seen c.args.disk.now) c.args.held.now.writes c.count-all.result (c.requires.reached told)

pub returns-clause-written : goal.returns-clause-written
returns-clause-written g c told =
    let all : total c.args.held.now.writes ≤ c.count-all.result = omega (arith, c.count-all.ensures) in
    on_ok_weaker c.flush.result (λ (is : g.D.Disk.seen c.flush.new.disk ≡ torn (g.D.Disk.seen c.args.disk.now) c.args.held.now.writes c.count-all.result Old). is ∙ torn_all (g.D.Disk.seen c.args.disk.now) c.args.held.now.writes c.count-all.result all) (c.flush.ensures.written told)
