-- What a policy asks for at a component, as its readers tell.
use Rattle.std.specs.Prelude.{◌≡◌, ℕ, false, not, ◌&&◌, cond, Option, Some, None, option_and_then}
use native.Mathlib.Omega.{arith}
use Rattle.std.proofs.Common.{refl}
use Rattle.std.proofs.lemmas.Bool.Decides.{nat_tests}
use Rattle.ic_base.specs.declared.messages.ComId.{ComId}
use Rattle.ic_base.specs.declared.events.What.{What}
use Rattle.ic_base.specs.declared.events.What.TheVariants.{Force, Checkpoint}
use Rattle.def_step.specs.World.{Node, Runs, Serves, Down, External}
use Rattle.def_step.specs.Settle.{PolicyIntervals, reaches, pcom_policy, pcom_of, replays, buffered, has_in_hand, since_checkpoint}
use Rattle.ic_world.specs.Reading.{at_node}

-- no count reaches none
reaches-none : (every : ℕ) → reaches every 0 ≡ false
reaches-none every = grind (arith, nat_tests)

abbrev pub asked_at : PolicyIntervals → ComId → Option Node → Option What
asked_at x c o =
    cond (at_node false replays o) None
    (cond (reaches x.force_every (at_node 0 buffered o)) (Some (Force c))
    (cond (not (at_node false has_in_hand o) && reaches x.checkpoint_every (at_node 0 since_checkpoint o)) (Some (Checkpoint c)) None))

pub policy_at : (x : PolicyIntervals) (c : ComId) (o : Option Node) → option_and_then (pcom_policy x c) (option_and_then pcom_of o) ≡ asked_at x c o
policy_at x c None = rw (reaches-none x.force_every, reaches-none x.checkpoint_every) refl
policy_at x c (Some (Runs p)) = refl
policy_at x c (Some (Serves t)) = rw (reaches-none x.force_every, reaches-none x.checkpoint_every) refl
policy_at x c (Some (Down records)) = rw (reaches-none x.force_every, reaches-none x.checkpoint_every) refl
policy_at x c (Some External) = rw (reaches-none x.force_every, reaches-none x.checkpoint_every) refl
