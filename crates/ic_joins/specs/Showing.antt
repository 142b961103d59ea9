-- What the components of a live run showed.
use Rattle.std.specs.Prelude.{List, [], ◌∷◌, ◌++◌, map}
use Rattle.ic_base.specs.declared.messages.ComId.{ComId}
use Rattle.ic_base.specs.declared.messages.Output.{Output}
use Rattle.ic_disk.specs.declared.disk.Disk.{Ghosts}
use Rattle.ic_node.specs.Views.{com_of}
use Rattle.ic_node.specs.declared.component.Component.{Component}
use Rattle.ic_turn.specs.Progresses.{shown_of}
use Rattle.ic_turn.specs.declared.progress.Progress.{Progress}

module _ {D : Type 0} {d : Ghosts D} where
  -- in order of component and showing
  abbrev pub showings_of : List (Component D d) → List Progress → List (ComId × Output)
  showings_of [] ps = []
  showings_of (x ∷ xs) [] = []
  showings_of (x ∷ xs) (p ∷ ps) = map (λ (o : Output). (com_of x, o)) (shown_of p) ++ showings_of xs ps
