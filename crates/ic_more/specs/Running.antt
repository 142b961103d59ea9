-- What a run over a world comes to before anything is printed.
use Rattle.std.specs.Prelude.{◌≡◌, ◌⊎◌, ℕ, List}
use Rattle.def_two.specs.declared.script.TwoRefused.{TwoRefused}
use Rattle.def_two.specs.Printed.{two_lines}
use Rattle.def_two.specs.Script.{TheScript}
use Rattle.ic_disk.specs.TornDisks.{Torn}
use Rattle.ic_disk.specs.Torns.{torn}
use Rattle.ic_disk.specs.declared.disk.Disk.{Ghosts}
use Rattle.ic_two_world.specs.Executing.{Executed2, WasRefused2}
use Rattle.ic_two_world.specs.Views.{world_of}
use Rattle.ic_two_world.specs.declared.world.TwoWorld.{TwoWorld}
use Rattle.ic_more.specs.Ends.{why_of_step}
use Rattle.ic_more.specs.declared.ending.Why2.{Why2}
use Rattle.ic_more.specs.declared.ending.Why2.TheVariants.{Memory}

module _ {D : Type 0} (b : Ghosts D) (s : TheScript) where
  -- all was done, and these are its lines
  pub record Tells (old new : TwoWorld (Torn D) (torn b)) (lines : List ℕ) : Type 0 where
    pub executed : Executed2 b s.events old new
    pub says : lines ≡ two_lines s (world_of new)

  -- an event wasn't done
  pub record IsCut (print : List ℕ) (old new : TwoWorld (Torn D) (torn b)) (why : Why2) : Type 0 where
    pub step : TwoRefused
    pub is : why ≡ why_of_step print step
    pub refused : WasRefused2 b s.events old new step

  -- all was done, and memory was wanting for its lines
  pub record IsUntold (old new : TwoWorld (Torn D) (torn b)) (why : Why2) : Type 0 where
    pub is : why ≡ Memory
    pub executed : Executed2 b s.events old new

  abbrev pub FailsToTell : List ℕ → TwoWorld (Torn D) (torn b) → TwoWorld (Torn D) (torn b) → Why2 → Type 0
  FailsToTell print old new why = IsCut print old new why ⊎ IsUntold old new why
