-- The program of a live run may be shared between threads.
use denote.RattleType.{RattleType}
use denote.Ref.{NamedLft}
use denote.Param.Send.{IsSend, IsSync, sendable}
use denote.Param.SendFields.{declared_sync}
use Rattle.std.proofs.Crossing.{crosses}
use Rattle.ic_base.specs.contracts.scenario.Body as Body
use Rattle.ic_base.specs.contracts.scenario.Handler as Handler
use Rattle.ic_base.specs.contracts.scenario.Component as Component
use Rattle.ic_base.specs.contracts.scenario.Program as Program
use Rattle.ic_base.specs.contracts.lists.Items as Items
use Rattle.ic_base.proofs.scenario.Stmt.TheLaws.TheKnot as knot
use Rattle.ic_lane.specs.declared.mark.Mark as mark
use Rattle.ic_live.specs.declared.held.Held as held
use Rattle.ic_live.specs.declared.scene.Scene as scene
use Rattle.ic_live.specs.contracts.pool.Berths as Berths
use Rattle.ic_live.proofs.berth.Berth.TheSendSync as berth

pub body-sync : IsSync Body.the_row
body-sync = search (knot.crosses, sendable, crosses) depth 60 fits 20000

pub items-sync : (T : RattleType) → IsSync T → IsSync (Items.the_row T)
items-sync T s = search (sendable, crosses) depth 20

pub handler-sync : IsSync Handler.the_row
handler-sync = declared_sync Handler.the_type (search (items-sync, sendable, crosses), (search (items-sync, sendable, crosses), (body-sync, tt)))

pub component-sync : IsSync Component.the_row
component-sync = search (handler-sync, items-sync, sendable, crosses) depth 60 fits 20000

pub program-sync : IsSync Program.the_row
program-sync = search (component-sync, items-sync, sendable, crosses) depth 60 fits 20000

-- so may the berths behind their locks, with the gate
pub berths-sync : (κ : NamedLft) (X M N G : RattleType) (x : held.Ghosts X.Denot) (m : mark.Ghosts M.Denot) (n : scene.Ghosts N.Denot) → IsSend X → IsSync G → IsSync (Berths.the_row κ X M N G x m n)
berths-sync κ X M N G x m n s y = declared_sync (Berths.the_type κ X M N G x m n) (
  search (sendable, crosses) depth 20,
  (
    search (program-sync, sendable, crosses) depth 20,
    (search (berth.the_send, sendable, crosses) depth 30, (search (sendable, crosses) depth 20, (search (sendable, crosses) depth 20, tt))),
  ),
)
