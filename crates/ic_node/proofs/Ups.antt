-- A recovery of a component that isn't down does nothing.
use Rattle.std.proofs.Common.{◌≡◌, ◌∙◌, refl, sym, ap, ℕ, ◌+◌, false, Option, Some, None, arith}
use Rattle.std.specs.Prelude.{Result, Ok, Err, IfOk}
use Rattle.ic_base.specs.declared.events.Answer.TheVariants as answers
use Rattle.ic_base.specs.declared.events.Stop.{Stop}
use Rattle.ic_base.specs.declared.messages.ComId.{ComId}
use Rattle.ic_base.specs.declared.scenario.Program.{Program}
use Rattle.def_run.specs.CoreSteps.{is_stopped}
use Rattle.def_step.specs.Settle.{is_down}
use Rattle.def_step.specs.World as world
use Rattle.def_step.specs.World.{Runs, Serves, Down, External, DiskOutcome, recovers, just}
use Rattle.ic_disk.specs.TornDisks.{Torn}
use Rattle.ic_disk.specs.declared.disk.Disk.{Ghosts}
use Rattle.ic_node.specs.Calling.{done_with, just_told}
use Rattle.ic_node.specs.Recovering.{Recovers, held_by}
use Rattle.ic_disk.specs.Torns.{torn}
use Rattle.ic_node.specs.Views.{node_of, com_of, is_over}
use Rattle.ic_node.specs.declared.component.Component.{Component}
use Rattle.ic_node.specs.declared.done.Done.{Done}
use Rattle.ic_node.specs.declared.done.NodeRefused.{NodeRefused}
use Rattle.ic_node.proofs.Stills.{none_played, still_meets}

-- what isn't there
pub none_of : {A : Type 0} (o : Option A) → ((a : A) → o ≡ Some a → ⊥) → o ≡ None
none_of None not = refl
none_of (Some a) not = absurd (not a refl)

already : (program : Program) (c : ComId) (stop : Option Stop) (x : DiskOutcome) (node : world.Node) → is_down node ≡ false → recovers program c stop x node ≡ Some (just node answers.Already)
already program c stop x (Runs p) up = refl
already program c stop x (Serves t) up = refl
already program c stop x (Down rs) up = cc
already program c stop x External up = refl

-- nothing is counted where nothing is played
pub none_counted : (r : Result Done NodeRefused) (n played : ℕ) → IfOk r (λ done. played ≡ 0) → IfOk r (λ done. n ≡ n + played)
none_counted (Ok done) n played none = omega (arith, none)
none_counted (Err why) n played none = tt

module _ {D : Type 0} (b : Ghosts D) (program : Program) (old : Component (Torn D) (torn b)) (stop : Option Stop) (going : is_over old ≡ false) (up : is_down (node_of old) ≡ false) where
  pub up_stays : (done : Done) → done ≡ just_told answers.Already → Recovers program old stop old done
  up_stays done told_so = record {
    outcome = held_by old;
    step = already program (com_of old) stop (held_by old) (node_of old) up ∙ ap (λ (d : Done). Some (done_with (node_of old) d)) (sym told_so);
    meets = still_meets b program old stop _ done.answer going (ap (λ (d : Done). is_stopped d.answer) told_so);
    played = ap (λ (d : Done). d.played) told_so ∙ sym (none_played (node_of old));
    goes_on = record { same = refl; open_still = going; logs = λ told print logs. logs };
  }
