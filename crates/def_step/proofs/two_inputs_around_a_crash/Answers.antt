use Rattle.std.proofs.Common.{◌∙◌, ap, ℕ, ℤ, pos, List, [], ◌∷◌, Option, Some, option_map, None, false, true}
use Rattle.std.specs.declared.alloc.Global.{Global}
use Rattle.ic_base.specs.declared.events.What.{What}
use Rattle.ic_base.specs.declared.events.What.TheVariants as what
use Rattle.ic_base.specs.declared.played.Played.{Played}
use Rattle.ic_base.specs.declared.record.Record.{Record}
use Rattle.ic_base.specs.declared.record.Record.TheVariants.{Input}
use Rattle.def_play.proofs.Handlers.{add_plays}
use Rattle.def_plain.specs.Scenes.{tally, com_at}
use Rattle.def_state.specs.Vol.{first_vol}
use Rattle.def_step.specs.Pcom.{Pcom, needed_fetch, nothing_at_all, stands_at, told}
use Rattle.ic_base.specs.declared.events.Answer.TheVariants as answers
use Rattle.def_step.specs.World.{World, Node, Runs, Down, behind, cut_off, done_as, input_answer, up_answer}
use Rattle.def_step.specs.Scenes.{event, run_on, values}
use Rattle.def_step.proofs.Inputs.{input_step, replayed_input}
use Rattle.def_step.proofs.two_inputs_around_a_crash.Goals as goal

abbrev records : List Record
records = Input 1 0 (pos 5 ∷ []) ∷ []

-- the tally with this total and clock, over a forced log
abbrev stands : Global → ℤ → ℕ → List Record → Pcom
stands a total clock log = record {
  log = record { forced = log; buffered = [] };
  vol = record (first_vol (tally a) (com_at 0)) { vars = total ∷ []; clock = clock };
  rest = [];
}

abbrev alone : Node → World
alone node = record { nodes = node ∷ []; packets = []; waiting = []; showings = [] }

-- the world behind an input whose handler plays so
abbrev given : Global → Pcom → ℤ → Played → Option World
given a p n r = Some (behind (alone (Runs p)) (event (what.Input (com_at 0) 0 (n ∷ []))) (com_at 0) (done_as (input_answer p) (input_step (tally a) (com_at 0) p 0 (n ∷ []) r))).world

-- the world behind the recovery
abbrev back : Global → Played → Option World
back a r =
    option_map (λ y. y.world)
    (option_map (behind (alone (Down records)) (event (what.Recover (com_at 0))) (com_at 0))
    (option_map (cut_off None (record { found = records; size = 41; free = true; left = []; is_open = false }) (Down records) answers.Stopped)
    (option_map (λ t. done_as (up_answer t.pcom) t)
    (option_map (λ x. told (stands_at (record { forced = records; buffered = [] }) x) (needed_fetch (com_at 0) x.rest) nothing_at_all)
    (replayed_input (com_at 0) (first_vol (tally a) (com_at 0)) 1 0 (pos 5 ∷ []) r)))))

abbrev last_input : List What
last_input = what.Input (com_at 0) 0 (pos 7 ∷ []) ∷ []

abbrev from_recovery : List What
from_recovery = what.Recover (com_at 0) ∷ last_input

pub returns : goal.returns
returns c = λ a.
    ap (λ w. values (run_on (tally a) w (what.Crash (com_at 0) ∷ from_recovery)) 0) (ap (given a (stands a (pos 0) 0 []) (pos 5)) (add_plays (pos 0 ∷ []) (pos 5 ∷ []) [] []))
    ∙ ap (λ w. values (run_on (tally a) w last_input) 0) (ap (back a) (add_plays (pos 0 ∷ []) (pos 5 ∷ []) [] []))
    ∙ ap (λ w. values w 0) (ap (given a (stands a (pos 5) 1 records) (pos 7)) (add_plays (pos 5 ∷ []) (pos 7 ∷ []) [] []))
