-- The serial phase of the scene is complete, and by the laws the run ends as the crash-free world of its logs.
use Rattle.std.proofs.Common.{refl, false, true, [], Some}
use Rattle.std.specs.declared.alloc.Global.{Global}
use Rattle.def_run.specs.Executions.{IsComplete}
use Rattle.def_live.specs.Runs.{last_live}
use Rattle.def_live.specs.Serial.{agenda_left, events_left}
use Rattle.law_live.proofs.Runs.{whole_live_runs_end}
use Rattle.law_live_scene.specs.Chain.{chain, bank, print}
use Rattle.law_live_scene.specs.Scene.{TheSceneRuns, policy, first, moves, opening, transitions}
use Rattle.law_live_scene.proofs.Premises.{playable, flat, bytes, own, none-left}
use Rattle.law_live_scene.proofs.Steps.{recover-step, ask-step, again-step, commit-step, decide-step, end-step, force-step, drop-step}
use Rattle.law_live_scene.proofs.Threads.{begins, runs, all-joined, assembles, opening-kept}

complete : (a : Global) → IsComplete (chain a) print policy (agenda_left (events_left (chain a) (last_live first moves).berths)) opening transitions
complete a = record {
  agenda = record { left = []; halts = false; settles_first = true; last = Some bank };
  executes = ([], refl, recover-step a, ([], refl, ask-step a, ([], refl, again-step a, ([], refl, commit-step a, ([], refl, decide-step a, ([], refl, end-step a, ([], refl, force-step a, ([], refl, drop-step a, refl))))))));
  nothing = refl;
}

pub the_scene_runs : TheSceneRuns
the_scene_runs a = record {
  begins = begins a;
  runs = runs a;
  joined = all-joined a;
  assembles = assembles a;
  opens = refl;
  kept = opening-kept a;
  left = refl;
  complete = complete a;
  ends = whole_live_runs_end (chain a) print policy first moves opening.world.nodes [] [] opening transitions (playable a) (flat a) (bytes a) (own a) (none-left a) (begins a) (runs a) (assembles a) refl (opening-kept a) (complete a);
}
