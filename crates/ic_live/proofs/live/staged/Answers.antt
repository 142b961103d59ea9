use Rattle.std.proofs.Common.{◌∙◌, inl, rules}
use Rattle.std.proofs.Crossing.{crosses}
use denote.Param.{param}
use denote.Param.Send.{IsSend, IsSync, sendable}
use Rattle.ic_disk.specs.contracts.torn_disk.TornDisk as Torn
use Rattle.ic_disk.specs.contracts.torn_disk.TornDiskDisk.TheImpl as TornDisk
use Rattle.ic_disk.proofs.torn_disk.TornDisk.TheSendSync as torn
use Rattle.ic_node.specs.contracts.component.Component as Component
use Rattle.ic_node.proofs.component.Component.TheSendSync as component
use Rattle.ic_live.proofs.Sent.{berths-sync}
use Rattle.ic_live.proofs.live.staged.Goals as goal

pub hand_over-requires-clause-count : goal.hand_over-requires-clause-count
hand_over-requires-clause-count g c = c.in-Some.ensures ∙ c.requires.may.started.one_each

pub hand_over-requires-clause-bytes : goal.hand_over-requires-clause-bytes
hand_over-requires-clause-bytes g c = c.requires.may.bytes

pub returns-in_default-clause-refused : goal.returns-in_default-clause-refused
returns-in_default-clause-refused g c = inl c.out_of_memory.ensures

pub run_pool-requires-sync-W : goal.run_pool-requires-sync-W
run_pool-requires-sync-W g c κs within =
    let D = param 0 g.row.D in
    let X = Component.the_row (Torn.the_row D g.D.Disk) (TornDisk.ghosts D g.D.Disk TornDisk.no_dict) in
    let sends : IsSend X = search (rules, component.the_send, torn.the_send, sendable, crosses) depth 40 fits 20000 in
    let shares : IsSync (param 3 g.row.G) = search (rules, sendable) depth 10 in
    search (rules, berths-sync, sendable) depth 12
