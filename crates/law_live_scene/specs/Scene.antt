-- The scene: three components in four turns, the joins, and the serial phase.
use Rattle.std.specs.Prelude.{◌≡◌, ℕ, zero, suc, pos, List, [], ◌∷◌, None}
use Rattle.std.specs.declared.alloc.Global.{Global}
use Rattle.ic_base.specs.declared.events.Answer.{Answer}
use Rattle.ic_base.specs.declared.events.Answer.TheVariants as answers
use Rattle.ic_base.specs.declared.events.Event.{Event}
use Rattle.ic_base.specs.declared.events.Fate.TheVariants as fates
use Rattle.ic_base.specs.declared.events.Trace.{Trace}
use Rattle.ic_base.specs.declared.events.What.{What}
use Rattle.ic_base.specs.declared.events.What.TheVariants as whats
use Rattle.ic_base.specs.declared.messages.ComId.{ComId}
use Rattle.ic_base.specs.declared.messages.Packet.{Packet}
use Rattle.def_plain.specs.Plain.{PlainWorld}
use Rattle.def_step.specs.Settle.{PolicyIntervals}
use Rattle.def_step.specs.World.{Node, Runs, Serves, Down, External}
use Rattle.def_run.specs.CrashFree.{EndsCrashFree}
use Rattle.def_run.specs.Executions.{IsComplete}
use Rattle.def_run.specs.SystemStates.{SystemState, Transition, KeepsLogs, last_state, without_stop}
use Rattle.def_live.specs.Assembled.{assembled, AreOf}
use Rattle.def_live.specs.Lanes.{Lane, AreJoined}
use Rattle.def_live.specs.Runs.{Live, Begins, LiveRun, last_live}
use Rattle.def_live.specs.Serial.{agenda_left, events_left}
use Rattle.def_live.specs.Turns.{Berth}
use Rattle.law_live_scene.specs.Chain.{chain, shop, till, bank, the_input, the_data, the_stable, the_op, the_reply, the_commit, the_answer, the_drop, fresh, ordered, asking, ready, ended, done, idle, serving, decided, print, no_records, shop_file, asking_file, ready_file, done_file, bank_file}

-- the policy asks for nothing
abbrev pub policy : PolicyIntervals
policy = record { force_every = 0; checkpoint_every = 0 }

abbrev pub give_order : Event
give_order = without_stop (whats.Input shop 0 (pos 3 ∷ []))

abbrev pub crash_shop : Event
crash_shop = without_stop (whats.Crash shop)

-- the threads -----------------------------------------------------------------------------------------------

abbrev pub berth : Node → List Packet → List Packet → List (List ℕ) → List Event → List Answer → ℕ → Berth
berth node sent received files left done turns = record {
  part = record { node = node; sent = sent; received = received; showings = [] };
  files = files;
  left = left;
  answers = done;
  turns = turns;
}

-- of the shop, of the till, of the bank, of no one
abbrev pub pick : {A : Type 0} → A → A → A → A → ℕ → A
pick x y z w zero = x
pick x y z w (suc zero) = y
pick x y z w (suc (suc zero)) = z
pick x y z w (suc (suc (suc n))) = w

abbrev pub nobody : Berth
nobody = berth External [] [] [] [] [] 0

abbrev pub no_lane : Lane
no_lane = record { sent = []; received = [] }

abbrev pub lane : List Packet → List Packet → Lane
lane sent received = record { sent = sent; received = received }

-- from the shop to the till, from there to the bank, and back from the bank
abbrev pub lanes_with : Lane → Lane → Lane → ℕ → ℕ → Lane
lanes_with x y z zero zero = no_lane
lanes_with x y z zero (suc zero) = x
lanes_with x y z zero (suc (suc n)) = no_lane
lanes_with x y z (suc zero) zero = no_lane
lanes_with x y z (suc zero) (suc zero) = no_lane
lanes_with x y z (suc zero) (suc (suc zero)) = y
lanes_with x y z (suc zero) (suc (suc (suc n))) = no_lane
lanes_with x y z (suc (suc zero)) zero = no_lane
lanes_with x y z (suc (suc zero)) (suc zero) = z
lanes_with x y z (suc (suc zero)) (suc (suc n)) = no_lane
lanes_with x y z (suc (suc (suc m))) n = no_lane

abbrev pub live : Berth → Berth → Berth → Lane → Lane → Lane → Live
live a b c x y z = record { berths = λ d. pick a b c nobody d.0; lanes = λ from to. lanes_with x y z from.0 to.0 }

abbrev pub shop_first : Berth
shop_first = berth (Runs (fresh (pos 0 ∷ []))) [] [] (no_records shop ∷ [] ∷ [] ∷ []) (give_order ∷ crash_shop ∷ []) [] 0

abbrev pub shop_ordered : Berth
shop_ordered = berth (Runs (ordered 19)) (the_data ∷ []) [] (shop_file ∷ [] ∷ [] ∷ []) (crash_shop ∷ []) (answers.Taken ∷ []) 1

abbrev pub shop_down : Berth
shop_down = berth (Down (the_input ∷ [])) (the_data ∷ []) [] (shop_file ∷ [] ∷ [] ∷ []) [] (answers.Taken ∷ answers.Ended ∷ []) 2

abbrev pub till_first : Berth
till_first = berth (Runs (fresh [])) [] [] ([] ∷ no_records till ∷ [] ∷ []) [] [] 0

abbrev pub bank_first : Berth
bank_first = berth (Serves idle) [] [] ([] ∷ [] ∷ no_records bank ∷ []) [] [] 0

abbrev pub bank_serving : Berth
bank_serving = berth (Serves serving) (the_reply ∷ []) (the_op ∷ []) ([] ∷ [] ∷ no_records bank ∷ []) [] [] 1

abbrev pub till_asking : Berth
till_asking = berth (Runs asking) (the_stable ∷ the_op ∷ []) (the_data ∷ []) ([] ∷ asking_file ∷ [] ∷ []) [] [] 1

abbrev pub first : Live
first = live shop_first till_first bank_first no_lane no_lane no_lane

-- The shop takes its order; the till takes the message and asks the bank, and its word to the shop meets a full lane; the bank answers; the
-- shop crashes, and nobody pops the bank's answer.
abbrev pub moves : List (ComId × Live)
moves =
    (shop, live shop_ordered till_first bank_first (lane (the_data ∷ []) []) no_lane no_lane)
    ∷ (till, live shop_ordered till_asking bank_first (lane (the_data ∷ []) (the_data ∷ [])) (lane (the_op ∷ []) []) no_lane)
    ∷ (bank, live shop_ordered till_asking bank_serving (lane (the_data ∷ []) (the_data ∷ [])) (lane (the_op ∷ []) (the_op ∷ [])) (lane (the_reply ∷ []) []))
    ∷ (shop, live shop_down till_asking bank_serving (lane (the_data ∷ []) (the_data ∷ [])) (lane (the_op ∷ []) (the_op ∷ [])) (lane (the_reply ∷ []) []))
    ∷ []

-- behind the joins ------------------------------------------------------------------------------------------

abbrev pub state : List Node → List Packet → List ℕ → List ℕ → List ℕ → SystemState
state nodes packets waiting till_file bank_file = record { world = record { nodes = nodes; packets = packets; waiting = waiting; showings = [] }; files = shop_file ∷ till_file ∷ bank_file ∷ [] }

-- what the serial phase begins with
abbrev pub opening : SystemState
opening = state (Down (the_input ∷ []) ∷ Runs asking ∷ Serves serving ∷ []) [] [] asking_file (no_records bank)

abbrev pub did : What → Answer → List Packet → ℕ → Trace
did what answer puts first_put = record { event = without_stop what; answer = answer; puts = puts; first_put = first_put; shown = None; aborted = None }

-- the shop comes up
abbrev pub up : SystemState
up = state (Runs (ordered 0) ∷ Runs asking ∷ Serves serving ∷ []) [] [] asking_file (no_records bank)

-- the till asks again, and is answered again
abbrev pub asked : SystemState
asked = state (Runs (ordered 0) ∷ Runs asking ∷ Serves serving ∷ []) (the_op ∷ []) (1 ∷ []) asking_file (no_records bank)

abbrev pub answered : SystemState
answered = state (Runs (ordered 0) ∷ Runs asking ∷ Serves serving ∷ []) (the_op ∷ the_reply ∷ []) (2 ∷ []) asking_file (no_records bank)

-- it asks to commit, which the bank decides
abbrev pub committing : SystemState
committing = state (Runs (ordered 0) ∷ Runs ready ∷ Serves serving ∷ []) (the_op ∷ the_reply ∷ the_commit ∷ []) (3 ∷ []) ready_file (no_records bank)

abbrev pub committed : SystemState
committed = state (Runs (ordered 0) ∷ Runs ready ∷ Serves (decided 1) ∷ []) (the_op ∷ the_reply ∷ the_commit ∷ the_answer ∷ []) (4 ∷ []) ready_file bank_file

-- its outcome is recorded, forced, and the bank forgets the transaction
abbrev pub told : SystemState
told = state (Runs (ordered 0) ∷ Runs ended ∷ Serves (decided 1) ∷ []) (the_op ∷ the_reply ∷ the_commit ∷ the_answer ∷ []) [] ready_file bank_file

abbrev pub forced : SystemState
forced = state (Runs (ordered 0) ∷ Runs done ∷ Serves (decided 1) ∷ []) (the_op ∷ the_reply ∷ the_commit ∷ the_answer ∷ the_drop ∷ []) (5 ∷ []) done_file bank_file

abbrev pub settled : SystemState
settled = state (Runs (ordered 0) ∷ Runs done ∷ Serves (decided 2) ∷ []) (the_op ∷ the_reply ∷ the_commit ∷ the_answer ∷ the_drop ∷ []) [] done_file bank_file

abbrev pub recover_trace : Trace
recover_trace = did (whats.Recover shop) answers.Up [] 1

abbrev pub ask_trace : Trace
ask_trace = did (whats.Resend till) answers.Ended (the_op ∷ []) 1

abbrev pub answer_trace : Trace
answer_trace = did (whats.Deliver till bank) (answers.Packet 1 the_op fates.Used) (the_reply ∷ []) 2

abbrev pub commit_trace : Trace
commit_trace = did (whats.Deliver bank till) (answers.Packet 2 the_reply fates.Used) (the_commit ∷ []) 3

abbrev pub decide_trace : Trace
decide_trace = did (whats.Deliver till bank) (answers.Packet 3 the_commit fates.Used) (the_answer ∷ []) 4

abbrev pub end_trace : Trace
end_trace = did (whats.Deliver bank till) (answers.Packet 4 the_answer fates.Used) [] 5

abbrev pub force_trace : Trace
force_trace = did (whats.Force till) answers.Ended (the_drop ∷ []) 5

abbrev pub drop_trace : Trace
drop_trace = did (whats.Deliver till bank) (answers.Packet 5 the_drop fates.Used) [] 6

abbrev pub led : Trace → SystemState → Transition
led t p = record { trace = t; state = p }

abbrev pub transitions : List Transition
transitions =
    led recover_trace up ∷ led ask_trace asked ∷ led answer_trace answered ∷ led commit_trace committing ∷ led decide_trace committed
    ∷ led end_trace told ∷ led force_trace forced ∷ led drop_trace settled ∷ []

-- it is a live run from its beginning to its end
pub record IsALiveRun (a : Global) : Type 0 where
  pub begins : Begins (chain a) print first
  pub runs : LiveRun (chain a) print policy first moves
  pub joined : AreJoined (last_live first moves).lanes
  pub assembles : AreOf (chain a) (λ c. ((last_live first moves).berths c).part) opening.world.nodes []
  pub opens : opening.world ≡ assembled opening.world.nodes []
  pub kept : KeepsLogs print opening
  pub left : events_left (chain a) (last_live first moves).berths ≡ []
  pub complete : IsComplete (chain a) print policy (agenda_left (events_left (chain a) (last_live first moves).berths)) opening transitions
  -- so by the laws it ends as the crash-free world of its merged logs
  pub ends : (v : PlainWorld) × EndsCrashFree (chain a) [] (last_state opening transitions).world v

abbrev pub TheSceneRuns : Type 0
TheSceneRuns = (a : Global) → IsALiveRun a
