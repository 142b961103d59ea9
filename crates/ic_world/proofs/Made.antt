-- A world that is made for its program stays so, and asks only components that have a disk.
use Rattle.std.proofs.Common.{◌≡◌, ◌∙◌, sym, ap, subst, ℕ, zero, suc, true, inl, inr, Some, None}
use Rattle.ic_base.specs.declared.messages.ComId.{ComId}
use Rattle.ic_base.specs.declared.messages.Packet.{Packet}
use Rattle.ic_base.specs.declared.events.Answer.TheVariants as answers
use Rattle.ic_base.specs.declared.events.Event.{Event}
use Rattle.ic_base.specs.declared.events.What.{What}
use Rattle.ic_base.specs.declared.scenario.Program.{Program}
use Rattle.def_run.specs.SystemStates.{has_disk}
use Rattle.def_step.specs.Packets.{receiver_of}
use Rattle.def_step.specs.World.{World, DiskOutcome, After, node_at, packet_at, happens}
use Rattle.law_settle.proofs.Reaching.{events_put_to_kept}
use Rattle.law_settle.proofs.Walks.{all-at}
use Rattle.law_settle.proofs.Worlds.{events_keep_represented}
use Rattle.law_settle.specs.Kept.{GoesToKept}
use Rattle.ic_world.specs.Allowing.{is_kept, IsMadeFor, is_allowed}
use Rattle.ic_world.specs.Tasks.{Task, Asks, task_of}
use Rattle.ic_work.specs.Tasks.{Work}
use Rattle.ic_world.proofs.Lists.{same-com}
use Rattle.ic_world.proofs.Tasks.{Names, task-names, NamesIn}

pub still-made : (program : Program) (w : World) (e : Event) (x : DiskOutcome) (a : After) → IsMadeFor program w → happens program w e x ≡ Some a → ((b : ComId) → is_kept (node_at a.world b) ≡ has_disk program b) → IsMadeFor program a.world
still-made program w e x a made is kept = record {
  playable = made.playable;
  kept = kept;
  represented = events_keep_represented program w e x a made.playable made.represented is;
  puts = events_put_to_kept program w e x a made.playable made.represented made.puts is;
}

-- the packet of a number goes to a component that has a disk
packet-kept : (program : Program) (w : World) → IsMadeFor program w → (i : ℕ) (p : Packet) → packet_at w i ≡ Some p → has_disk program (receiver_of p) ≡ true
packet-kept program w made zero p e = absurd (cc)
packet-kept program w made (suc i) p e = all-at (GoesToKept program) w.packets i p made.puts.packets e

-- whom the task of an event asks has a disk
pub asked-kept : (program : Program) (w after : World) (what : What) (c : ComId) (work : Work) → IsMadeFor program w → is_allowed program what ≡ true → task_of w what ≡ Asks after c work → is_kept (node_at w c) ≡ true
asked-kept program w after what c work made allowed task = by names
  where
    names : Names w what c work
    names = let P : Task → Type 0 = λ t. NamesIn w what t in subst P task (task-names w what)

    by : Names w what c work → is_kept (node_at w c) ≡ true
    by (inl n) =
        let has : has_disk program n.0 ≡ true = ap (λ o. elim o [ None ↦ true | Some z ↦ has_disk program z ]) (sym (n.1 answers.Idle)) ∙ allowed in
        ap (λ z. is_kept (node_at w z)) (sym (same-com n.0 c n.2)) ∙ made.kept n.0 ∙ has
    by (inr n) = ap (λ z. is_kept (node_at w z)) n.4 ∙ made.kept (receiver_of n.1) ∙ packet-kept program w made n.0 n.1 n.5
