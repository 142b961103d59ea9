-- A call for which a component has nothing to do.
use Rattle.std.proofs.Common.{◌≡◌, ◌∙◌, refl, sym, ap, subst, ℕ, ◌+◌, Bool, true, false, cond, List, [], length, drop, Option, Some, None, option_map, arith}
use Rattle.std.proofs.lemmas.Bool.{le-ltb}
use Rattle.ic_base.specs.declared.events.Answer.{Answer}
use Rattle.ic_base.specs.declared.events.Stop.{Stop}
use Rattle.ic_base.specs.declared.messages.ComId.{ComId}
use Rattle.ic_base.specs.declared.record.Record.{Record}
use Rattle.ic_base.specs.declared.scenario.Program.{Program}
use Rattle.def_run.specs.CoreSteps.{forced_of, is_stopped}
use Rattle.def_run.specs.Reports.{played_by}
use Rattle.def_step.specs.Calls.{node_is_full}
use Rattle.def_step.specs.Pcom.{Call, Gives, Gets, Forces, Checkpoints, Resends, Emits}
use Rattle.def_step.specs.World as world
use Rattle.def_step.specs.World.{Runs, Serves, Down, External, does, cut_off, device_calls, force_calls, is_reached}
use Rattle.ic_disk.specs.TornDisks.{Torn}
use Rattle.ic_disk.specs.declared.disk.Disk.{Ghosts}
use Rattle.ic_node.specs.Calling.{call_of, just_told}
use Rattle.ic_node.specs.DeviceCalls.{done_calls}
use Rattle.ic_node.specs.Doing.{IsAllowed, Does}
use Rattle.ic_node.specs.Meeting.{Meets, where_told}
use Rattle.ic_node.specs.Nodes.{told_of}
use Rattle.ic_node.specs.Recovering.{held_by}
use Rattle.ic_node.specs.Steps.{idle_answer}
use Rattle.ic_disk.specs.Torns.{torn}
use Rattle.ic_node.specs.Views.{node_of, disk_of, file_of, com_of, is_over, Tells}
use Rattle.ic_node.specs.declared.component.Component.{Component}
use Rattle.ic_node.specs.declared.done.Call.{Call as Made}
use Rattle.ic_node.proofs.Cuts.{sized_so, stood}
use Rattle.ic_node.proofs.Forced.{unreached_is, allowed}
use Rattle.ic_node.proofs.NodeEnds.{goes}

-- the step leaves it as it is, whatever the size of its log
abbrev Idles : Program → ComId → world.Node → ℕ → Call → Option Answer → Type 0
Idles program c node number call None = Unit {0}
Idles program c node number call (Some a) = (does program c node number call ≡ Some (world.just node a)) × ((size : ℕ) → node_is_full program c call size node ≡ false)

each_idle : (program : Program) (c : ComId) (node : world.Node) (number : ℕ) (call : Call) → Idles program c node number call (idle_answer node number call)
each_idle program c (Runs p) number call = tt
each_idle program c (Serves x) number (Gets p) = tt
each_idle program c (Serves x) number (Gives handler args) = (refl, λ size. refl)
each_idle program c (Serves x) number Forces = (refl, λ size. refl)
each_idle program c (Serves x) number Checkpoints = (refl, λ size. refl)
each_idle program c (Serves x) number Resends = (refl, λ size. refl)
each_idle program c (Serves x) number Emits = (refl, λ size. refl)
each_idle program c (Down rs) number (Gives handler args) = (refl, λ size. refl)
each_idle program c (Down rs) number (Gets p) = (refl, λ size. refl)
each_idle program c (Down rs) number Forces = (refl, λ size. refl)
each_idle program c (Down rs) number Checkpoints = (refl, λ size. refl)
each_idle program c (Down rs) number Resends = (refl, λ size. refl)
each_idle program c (Down rs) number Emits = (refl, λ size. refl)
each_idle program c External number (Gives handler args) = (refl, λ size. refl)
each_idle program c External number (Gets p) = (refl, λ size. refl)
each_idle program c External number Forces = (refl, λ size. refl)
each_idle program c External number Checkpoints = (refl, λ size. refl)
each_idle program c External number Resends = (refl, λ size. refl)
each_idle program c External number Emits = (refl, λ size. refl)

-- one that stays makes no device call, and plays nothing
no_calls : (free : Bool) (node : world.Node) → device_calls free node node ≡ 0
no_calls free (Runs p) = ap (λ t. cond t (force_calls free (drop (length p.log.forced) p.log.forced)) 0) (le-ltb (length p.log.forced) (length p.log.forced) (omega arith))
no_calls free (Serves x) = ap (λ t. cond t 4 0) (le-ltb (length x.records) (length x.records) (omega arith))
no_calls free (Down rs) = refl
no_calls free External = refl

pub idle_calls : (program : Program) (c : ComId) (node : world.Node) (number : ℕ) (call : Call) (answer : Answer) (free : Bool) → idle_answer node number call ≡ Some answer → done_calls node (does program c node number call) free ≡ 0
idle_calls program c node number call answer free is = ap (λ (o : Option world.Done). done_calls node o free) (subst (Idles program c node number call) is (each_idle program c node number call)).0 ∙ no_calls free node

pub none_played : (node : world.Node) → played_by node node ≡ 0
none_played (Runs p) = omega arith
none_played (Serves x) = refl
none_played (Down rs) = refl
none_played External = refl

pub idle_played : (node : world.Node) (n : ℕ) → n ≡ n + played_by node node
idle_played node n = omega (arith, none_played node)

-- what a disk decides where nothing is done
pub still_meets : {D : Type 0} (b : Ghosts D) (program : Program) (old : Component (Torn D) (torn b)) (stop : Option Stop) (added : List Record) (answer : Answer) → is_over old ≡ false → is_stopped answer ≡ false
    → where_told (torn b) (disk_of old) (Meets program (com_of old) (held_by old) stop added answer (node_of old) (node_of old) (file_of old) (file_of old))
still_meets b program old stop added answer going goes_on = by (disk_of old) refl
  where
    by : (o : Option (Torn _)) → disk_of old ≡ o → where_told (torn b) o (Meets program (com_of old) (held_by old) stop added answer (node_of old) (node_of old) (file_of old) (file_of old))
    by None here = tt
    by (Some x) here = λ told.
        let tells : Tells old = subst (told_of (torn b)) (sym here) told in
        let stands = stood (torn b) old.node old.kept x here (old.whole going tells) (old.on_disk going tells) in
        record {
          found = stands;
          size = sized_so (file_of old) (forced_of (Some (node_of old))) stands;
          free = refl;
          torn = λ e. let clash : true ≡ false = sym e ∙ goes_on in absurd (cc);
          same = λ e none. refl;
        }

pub idle_does : {D : Type 0} (b : Ghosts D) (program : Program) (old : Component (Torn D) (torn b)) (stop : Option Stop) (number : ℕ) (call : Made) (answer : Answer) → IsAllowed stop → is_over old ≡ false
    → idle_answer (node_of old) number (call_of call) ≡ Some answer → Does program old stop number call old (just_told answer)
idle_does b program old stop number call answer may going is = record {
  outcome = held_by old;
  step =
      ap (option_map (cut_off stop (held_by old) (node_of old) (world.answer_stopped number false (call_of call)))) idle.0
      ∙ ap (λ t. Some (cond t (world.just (Down []) (world.answer_stopped number false (call_of call))) (world.just (node_of old) answer))) unreached;
  room = λ told size found. idle.1 size;
  meets = still_meets b program old stop _ answer going (goes program (com_of old) (node_of old) number (call_of call) (world.just (node_of old) answer) idle.0);
  played = sym (none_played (node_of old));
  goes_on = record { same = refl; open_still = going; logs = λ told print logs. logs };
}
  where
    idle : (does program (com_of old) (node_of old) number (call_of call) ≡ Some (world.just (node_of old) answer)) × ((size : ℕ) → node_is_full program (com_of old) (call_of call) size (node_of old) ≡ false)
    idle = subst (Idles program (com_of old) (node_of old) number (call_of call)) is (each_idle program (com_of old) (node_of old) number (call_of call))

    unreached : is_reached stop (device_calls (held_by old).free (node_of old) (node_of old)) ≡ false
    unreached = ap (is_reached stop) (no_calls (held_by old).free (node_of old)) ∙ unreached_is stop 0 (λ one. one) (allowed stop may)
