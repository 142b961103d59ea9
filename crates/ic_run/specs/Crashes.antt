-- What the disks hold together where the whole machine crashes on the way of a run.
use Rattle.std.specs.Prelude.{◌≡◌, ◌⊎◌, ℕ, true, false, List, ◌++◌, Option, Some, None, Ok}
use Rattle.ic_base.specs.declared.messages.ComId.{ComId}
use Rattle.ic_base.specs.declared.events.What.{What}
use Rattle.ic_base.specs.declared.scenario.Program.{Program}
use Rattle.def_log.specs.Log.{log_of}
use Rattle.def_run.specs.CoreSteps.{forced_of, is_full_at}
use Rattle.def_run.specs.SystemStates.{SystemState, Transition, file_in, has_disk, last_state}
use Rattle.def_step.specs.World.{node_at}
use Rattle.ic_run.specs.Running.{coming}
use Rattle.ic_world.specs.Stepping.{read_by}
use Rattle.law_run.specs.Images.{AreImages}

-- an image of each disk, which reads as the records that its component has forced
abbrev pub AreAtRest : Program → SystemState → List (List ℕ) → Type 0
AreAtRest program p images = (c : ComId) → has_disk program c ≡ true → log_of (file_in images c) ≡ Ok (forced_of (node_at p.world c))

-- images that a crash may leave where this event comes, if one does: some may read as the forced records with all that the event forces
-- there, if it passes no limit
abbrev pub AreLeftAt : Program → SystemState → Option What → List (List ℕ) → Type 0
AreLeftAt program p None images = AreAtRest program p images
AreLeftAt program p (Some what) images = AreAtRest program p images ⊎ ((is_full_at program p what ≡ false) × AreImages program p what (read_by p) images)

-- images that a crash may leave at a moment on the way through these transitions, or within the event that is tried behind them
pub record AreOnWay (program : Program) (p : SystemState) (vs : List Transition) (tried : Option What) (images : List (List ℕ)) : Type 0 where
  pub front : List Transition
  pub back : List Transition
  pub is : vs ≡ front ++ back
  pub left : AreLeftAt program (last_state p front) (coming back tried) images
