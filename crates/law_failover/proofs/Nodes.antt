-- An event leaves as many components as there were.
use Rattle.std.proofs.Common.{◌≡◌, refl, ap, sym, subst, ℕ, zero, suc, List, [], ◌∷◌, length, Option, Some, None, arith}
use Rattle.std.specs.Prelude.{slice_get, option_map, option_and_then}
use Rattle.std.proofs.lemmas.Option.{same_Some}
use Rattle.ic_base.specs.declared.events.Answer.TheVariants as answers
use Rattle.ic_base.specs.declared.events.Event.{Event}
use Rattle.ic_base.specs.declared.events.What.{What}
use Rattle.ic_base.specs.declared.events.What.TheVariants.{Input, Deliver, Lose, Packet as Numbered, Force, Checkpoint, Resend, Emit, Crash, Recover}
use Rattle.ic_base.specs.declared.messages.ComId.{ComId}
use Rattle.ic_base.specs.declared.messages.Packet.{Packet}
use Rattle.ic_base.specs.declared.scenario.Program.{Program}
use Rattle.def_step.specs.Packets.{receiver_of}
use Rattle.def_step.specs.Pcom.{Call, Gives, Gets, Forces, Checkpoints, Resends, Emits}
use Rattle.def_step.specs.World.{World, DiskOutcome, Done, After, node_at, packet_at, oldest_of, takes_off, behind, unchanged, crashes, recovers, does_or_stops, calls, delivers, delivers_oldest, loses, loses_oldest, happens, happens_as}
use Rattle.law_replay.proofs.Lists.{none-some, mapped}
use Rattle.law_step.proofs.Nodes.{set-long}

-- where one of two lists of the same length has a member, so has the other
pub there-too : {A : Type 0} (xs ys : List A) (i : ℕ) (x : A) → length ys ≡ length xs → slice_get xs i ≡ Some x → (y : A) × (slice_get ys i ≡ Some y)
there-too [] ys i x same e = absurd (none-some x e)
there-too (z ∷ zs) [] i x same e = absurd (omega (arith, same))
there-too (z ∷ zs) (y ∷ ys) zero x same e = (y, refl)
there-too (z ∷ zs) (y ∷ ys) (suc i) x same e = there-too zs ys i x (omega (arith, same)) e

abbrev AsMany : World → World → Type 0
AsMany w v = length v.nodes ≡ length w.nodes

set-many : (w : World) (e : Event) (c : ComId) (o : Option Done) (a : After) → option_map (behind w e c) o ≡ Some a → AsMany w a.world
set-many w e c o a ran = let d = mapped (behind w e c) o a ran in subst (λ (v : After). AsMany w v.world) d.2 (set-long w.nodes c.0 d.0.node)

delivers-many : (program : Program) (w : World) (e : Event) (x : DiskOutcome) (i : ℕ) (o : Option Packet) (a : After) → delivers program w e x i o ≡ Some a → AsMany w a.world
delivers-many program w e x i None a ran = ap (λ (v : After). length v.world.nodes) (sym (same_Some (unchanged w e answers.Unknown) a ran))
delivers-many program w e x i (Some p) a ran = set-many (takes_off w i) e (receiver_of p) (option_and_then (λ node. does_or_stops program (receiver_of p) node e.stop x i (Gets p)) (node_at (takes_off w i) (receiver_of p))) a ran

pub happens-many : (program : Program) (w : World) (e : Event) (x : DiskOutcome) (a : After) → happens program w e x ≡ Some a → length a.world.nodes ≡ length w.nodes
happens-many program w e x a ran = by e.what ran
  where
    call : (c : ComId) (k : Call) → calls program w e x c 0 k ≡ Some a → AsMany w a.world
    call c k went = set-many w e c (option_and_then (λ node. does_or_stops program c node e.stop x 0 k) (node_at w c)) a went

    oldest : (o : Option ℕ) → delivers_oldest program w e x o ≡ Some a → AsMany w a.world
    oldest None went = ap (λ (v : After). length v.world.nodes) (sym (same_Some (unchanged w e answers.Empty) a went))
    oldest (Some i) went = delivers-many program w e x i (packet_at w i) a went

    gone : (i : ℕ) (o : Option Packet) → loses w e i o ≡ a → AsMany w a.world
    gone i None k = ap (λ (v : After). length v.world.nodes) (sym k)
    gone i (Some p) k = ap (λ (v : After). length v.world.nodes) (sym k)

    lost : (o : Option ℕ) → loses_oldest w e o ≡ a → AsMany w a.world
    lost None k = ap (λ (v : After). length v.world.nodes) (sym k)
    lost (Some i) k = gone i (packet_at w i) k

    by : (what : What) → happens_as program w e x what ≡ Some a → AsMany w a.world
    by (Input c handler args) went = call c (Gives handler args) went
    by (Deliver from to) went = oldest (oldest_of w from to) went
    by (Lose from to) went = lost (oldest_of w from to) (same_Some (loses_oldest w e (oldest_of w from to)) a went)
    by (Numbered i) went = delivers-many program w e x i (packet_at w i) a went
    by (Force c) went = call c Forces went
    by (Checkpoint c) went = call c Checkpoints went
    by (Resend c) went = call c Resends went
    by (Emit c) went = call c Emits went
    by (Crash c) went = let n = mapped (λ node. behind w e c (crashes node)) (node_at w c) a went in subst (λ (v : After). AsMany w v.world) n.2 (set-long w.nodes c.0 (crashes n.0).node)
    by (Recover c) went = set-many w e c (option_and_then (recovers program c e.stop x) (node_at w c)) a went
