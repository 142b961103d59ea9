-- What a whole live run over disks that tell their bytes ends with.
use Rattle.std.specs.Prelude.{◌≡◌, ℕ, true, List, [], ◌++◌, flat_map, filter_map, length, slice_get, Some, None}
use Rattle.ic_base.specs.declared.events.Event.{Event}
use Rattle.ic_base.specs.declared.messages.ComId.{ComId}
use Rattle.ic_base.specs.declared.scenario.Program.{Program}
use Rattle.ic_base.specs.Programs.{is_a_pcom}
use Rattle.def_facts.specs.Logs.{log_at}
use Rattle.def_facts.specs.World.{forced_logs}
use Rattle.def_live.specs.Lists.{inputs_done}
use Rattle.def_plain.specs.Plain.{PlainWorld}
use Rattle.def_run.specs.CrashFree.{EndsCrashFree, input_in, received_by}
use Rattle.def_run.specs.SystemStates.{SystemState, Transition, KeepsLogs, traces_of}
use Rattle.def_step.specs.Settle.{IsSettled}
use Rattle.def_step.specs.World as definition
use Rattle.ic_disk.specs.declared.disk.Disk.{Ghosts}
use Rattle.ic_live.specs.Berthed.{list_of}
use Rattle.ic_node.specs.Views.{com_of}
use Rattle.ic_node.specs.declared.component.Component.{Component}
use Rattle.ic_plan.specs.declared.run_texts.RunTexts.{RunTexts}
use Rattle.ic_settle.specs.Policies.{intervals_of}
use Rattle.ic_turn.specs.Progresses.{left_of, answers_of}
use Rattle.ic_turn.specs.declared.progress.Progress.{Progress}
use Rattle.ic_world.specs.Views.{world_of, state_of}
use Rattle.ic_world.specs.declared.world.World.{World}
use Rattle.law_live.specs.Doing.{DoAll}

-- Each event of the list of a component was done in its thread, in order and with one answer, or was left. In the world at the end its log has
-- the inputs of these that were taken or kept, in their order, and behind them those that were received along the transitions.
pub record HasInputs (program : Program) (list : List Event) (c : ComId) (p : Progress) (vs : List Transition) (w : definition.World) : Type 0 where
  pub done : List Event
  pub list_is : list ≡ done ++ left_of p
  pub answered : length (answers_of p) ≡ length done
  pub inputs : is_a_pcom program c ≡ true → filter_map input_in (log_at (forced_logs w) c) ≡ inputs_done c done (answers_of p) ++ filter_map (received_by c) (traces_of vs)

module _ {D : Type 0} {d : Ghosts D} where
  -- Behind the joins of these components, in a world with this state, these transitions led to the new world.
  pub record EndsJoined (r : RunTexts) (xs : List (Component D d)) (ps : List Progress) (p : SystemState) (vs : List Transition) (new : World D d) : Type 0 where
    -- the values, ledgers, outputs, messages and commits are those of the crash-free world of the merged logs
    pub crash_free : PlainWorld
    pub ends : EndsCrashFree r.program [] (world_of new) crash_free
    -- none is down or replays, nothing waits, is due, buffered or in hand, and each message is taken
    pub settled : IsSettled (world_of new)
    -- each disk holds the log of its component
    pub logs : KeepsLogs r.fingerprint (state_of new)
    -- each event of each list was done once: in a thread, or behind the joins
    pub inputs : (k : ℕ) (x : Component D d) (q : Progress) → slice_get xs k ≡ Some x → slice_get ps k ≡ Some q → HasInputs r.program (list_of (com_of x) r.schedule.events) (com_of x) q vs (world_of new)
    pub left : DoAll (intervals_of r.policy) (flat_map left_of ps) p None vs
