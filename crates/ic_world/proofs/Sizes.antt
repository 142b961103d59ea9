-- The disk of a component holds its log.
use Rattle.std.proofs.Common.{◌≡◌, refl, ℕ, true, List, Some}
use Rattle.ic_base.specs.declared.messages.ComId.{ComId}
use Rattle.def_run.specs.CoreSteps.{forced_of}
use Rattle.def_run.specs.SystemStates.{KeepsLog, IsLog}
use Rattle.def_step.specs.World.{Node, Runs, Serves, Down, External}
use Rattle.ic_world.specs.Allowing.{is_kept}

pub own-log : (print : List ℕ) (c : ComId) (file : List ℕ) (node : Node) → is_kept (Some node) ≡ true → KeepsLog print c file (Some node) → IsLog print c.0 file (forced_of (Some node))
own-log print c file (Runs p) k h = h
own-log print c file (Serves t) k h = h
own-log print c file (Down records) k h = h
own-log print c file External k h = absurd (cc)

pub keeps-log : (print : List ℕ) (c : ComId) (file : List ℕ) (node : Node) → (is_kept (Some node) ≡ true → IsLog print c.0 file (forced_of (Some node))) → KeepsLog print c file (Some node)
keeps-log print c file (Runs p) h = h refl
keeps-log print c file (Serves t) h = h refl
keeps-log print c file (Down records) h = h refl
keeps-log print c file External h = tt
