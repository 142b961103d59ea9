-- What stands behind the joins of a live run.
use Rattle.std.specs.Prelude.{◌≡◌, List, [], flat_map}
use Rattle.ic_disk.specs.TornDisks.{Torn}
use Rattle.ic_disk.specs.Torns.{torn}
use Rattle.ic_disk.specs.declared.disk.Disk.{Ghosts}
use Rattle.ic_joins.specs.Assembling.{IsAssembled, IsJoined}
use Rattle.ic_joins.specs.Showing.{showings_of}
use Rattle.ic_node.specs.declared.component.Component.{Component}
use Rattle.ic_plan.specs.declared.run_texts.RunTexts.{RunTexts}
use Rattle.ic_run.specs.Tallies as tallies
use Rattle.ic_run.specs.declared.tally.Tally.{Tally}
use Rattle.ic_turn.specs.Progresses.{left_of}
use Rattle.ic_turn.specs.declared.progress.Progress.{Progress}
use Rattle.ic_threads.specs.Counting.{counted, with_all}
use Rattle.ic_threads.specs.declared.joined.Joined.{Joined}

-- it counts what the components did, and nothing else
pub record CountsThreads (ps : List Progress) (t : Tally) : Type 0 where
  pub none : Tally
  pub nothing : tallies.Counts [] none
  pub is : t ≡ with_all none (counted ps)

module _ {D : Type 0} (b : Ghosts D) where
  -- the world of these components, with what they left, showed and did
  pub record JoinsUp (r : RunTexts) (xs : List (Component (Torn D) (torn b))) (ps : List Progress) (j : Joined (Torn D) (torn b)) : Type 0 where
    pub assembled : IsAssembled r.program r.fingerprint xs (showings_of xs ps) j.world
    pub joined : IsJoined r.program r.fingerprint xs ps j.world
    pub left : j.left ≡ flat_map left_of ps
    pub shown : j.shown ≡ showings_of xs ps
    pub tally : CountsThreads ps j.tally
    pub played : j.played ≡ (counted ps).played
