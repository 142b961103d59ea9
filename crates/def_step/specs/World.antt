-- The components and the network, and what one event does to them.
use Rattle.std.specs.Prelude.{nat_lt, nat_le, ℕ, zero, suc, ◌+◌, ◌==◌, Bool, true, false, not, ◌&&◌, cond, List, [], ◌∷◌, ◌++◌, map, length, Option, Some, None, is_some, option_map, option_and_then, option_to_list, slice_get, slice_set, filter, find, drop}
use Rattle.std.specs.List.{list_any, range_with_len}
use Rattle.ic_base.specs.declared.messages.ComId.{ComId}
use Rattle.ic_base.specs.declared.messages.Output.{Output}
use Rattle.ic_base.specs.declared.messages.AbortCause.{AbortCause}
use Rattle.ic_base.specs.declared.messages.Packet.{Packet}
use Rattle.ic_base.specs.declared.messages.Packet.TheVariants.{Drop}
use Rattle.ic_base.specs.declared.events.Fate.{Fate}
use Rattle.ic_base.specs.declared.events.Fate.TheVariants as fates
use Rattle.ic_base.specs.declared.events.Answer.{Answer}
use Rattle.ic_base.specs.declared.events.Answer.TheVariants as answers
use Rattle.ic_base.specs.declared.events.Stop.{Stop}
use Rattle.ic_base.specs.declared.events.Event.{Event}
use Rattle.ic_base.specs.declared.events.What.{What}
use Rattle.ic_base.specs.declared.events.What.TheVariants.{Input, Deliver, Lose, Packet as Numbered, Force, Checkpoint, Resend, Emit, Crash, Recover}
use Rattle.ic_base.specs.declared.events.Trace.{Trace}
use Rattle.ic_base.specs.declared.scenario.Program.{Program}
use Rattle.ic_base.specs.declared.scenario.Component.{Component}
use Rattle.ic_base.specs.declared.messages.Kind.{Kind}
use Rattle.ic_base.specs.declared.messages.Kind.TheVariants as kinds
use Rattle.ic_base.specs.declared.record.Record.{Record}
use Rattle.ic_base.specs.Programs.{same_com, is_a_tcom}
use Rattle.def_log.specs.Log.{end_with_checkpoint}
use Rattle.def_step.specs.Packets.{sender_of, receiver_of, fits_tcom}
use Rattle.def_step.specs.Pcom.{Pcom, Call, Gives, Gets, Forces, Checkpoints, Resends, Emits, StepKind, Took, Fed, Busy, Changed, Same, StepResult, pcom_step, fresh_pcom, recover_pcom, is_replaying, in_hand, is_empty}
use Rattle.def_step.specs.Tcom.{Tcom, Served, tcom_step, fresh_tcom, recover_tcom}

-- a component: a Pcom or a Tcom that isn't down, one that is down with the records of its disk, or an Xcom
pub data Node : Type 0 where
  Runs : (pcom : Pcom) → Node
  Serves : (tcom : Tcom) → Node
  Down : (records : List Record) → Node
  External : Node

-- every packet ever put out, number i in place i - 1; the numbers of those that wait, the oldest first; the outputs shown
pub record World : Type 0 where
  pub nodes : List Node
  pub packets : List Packet
  pub waiting : List ℕ
  pub showings : List (ComId × Output)

-- what a disk decides: the records that a load reads and the size of the log, whether a slot of its directory is free, the records that
-- a reached stop leaves, and whether it left the gate byte of the step's batch at 1
pub record DiskOutcome : Type 0 where
  pub found : List Record
  pub size : ℕ
  pub free : Bool
  pub left : List Record
  pub is_open : Bool

-- what an event does to its component, and what is told of it
pub record Done : Type 0 where
  pub node : Node
  pub answer : Answer
  pub puts : List Packet
  pub shown : Option Output
  pub aborted : Option (ℕ × AbortCause)

-- nothing is put out
abbrev pub just : Node → Answer → Done
just node answer = record { node = node; answer = answer; puts = []; shown = None; aborted = None }

abbrev pub done_as : Answer → StepResult → Done
done_as answer t = record { node = Runs t.pcom; answer = answer; puts = t.puts; shown = t.shown; aborted = t.aborted }

-- answers -------------------------------------------------------------------------------

abbrev pub input_answer : Pcom → Answer
input_answer p = cond (is_replaying p) answers.MissedReplaying (cond (in_hand p) answers.MissedBusy answers.Taken)

abbrev pub no_packets : List Packet → Bool
no_packets [] = true
no_packets (p ∷ ps) = false

abbrev pub used_fate : List Packet → Fate
used_fate [] = fates.Ignored
used_fate (p ∷ ps) = fates.Used

abbrev pub fate_of : StepKind → List Packet → Fate
fate_of Took puts = fates.Taken
fate_of Fed puts = fates.Fed
fate_of Busy puts = fates.Busy
fate_of Changed puts = fates.Used
fate_of Same puts = used_fate puts

-- the answer that a Pcom's step gives
abbrev pub answer_of : Pcom → ℕ → Call → StepResult → Answer
answer_of p number (Gives handler args) t = input_answer p
answer_of p number (Gets packet) t = answers.Packet number packet (fate_of t.word t.puts)
answer_of p number Forces t = cond (is_empty p.log.buffered) answers.Idle answers.Ended
answer_of p number Checkpoints t = cond (is_replaying p) answers.Replaying (cond (in_hand p) answers.Busy answers.Ended)
answer_of p number Resends t = cond (no_packets t.puts) answers.Idle answers.Ended
answer_of p number Emits t = cond (is_replaying p) answers.Replaying (cond (is_some t.shown) answers.Ended answers.Idle)

-- the answer of a component that is down
abbrev pub answer_down : ℕ → Call → Answer
answer_down number (Gives handler args) = answers.MissedDown
answer_down number (Gets packet) = answers.Packet number packet fates.Down
answer_down number _ = answers.Down

-- the answer of a step that a stop cut off
abbrev pub answer_stopped : ℕ → Bool → Call → Answer
answer_stopped number is_open (Gives handler args) = cond is_open answers.Kept answers.Lost
answer_stopped number is_open (Gets packet) = answers.Packet number packet fates.Stopped
answer_stopped number is_open _ = answers.Stopped

-- a component's step -----------------------------------------------------------------------

abbrev pub is_drop : Packet → Bool
is_drop (Drop from to n) = true
is_drop _ = false

-- a Drop that fits counts as used
abbrev pub tcom_fate : Program → ComId → Packet → List Packet → Fate
tcom_fate program t p puts = cond (is_drop p && fits_tcom program t p) fates.Used (used_fate puts)

abbrev pub served_as : Program → ComId → ℕ → Packet → Served → Done
served_as program t number p s = record {
  node = Serves s.tcom;
  answer = answers.Packet number p (tcom_fate program t p s.puts);
  puts = s.puts;
  shown = None;
  aborted = None;
}

abbrev pub tcom_does : Program → ComId → Tcom → ℕ → Call → Done
tcom_does program t x number (Gets packet) = served_as program t number packet (tcom_step program t x packet)
tcom_does program t x number _ = just (Serves x) answers.Idle

abbrev pub does : Program → ComId → Node → ℕ → Call → Option Done
does program c (Runs p) number call = option_map (λ t. done_as (answer_of p number call t) t) (pcom_step program c p call)
does program c (Serves x) number call = Some (tcom_does program c x number call)
does program c (Down records) number call = Some (just (Down records) (answer_down number call))
does program c External number call = Some (just External answers.Idle)

-- The device calls of a force: four, and four more where its records end with a Checkpoint, which is then marked, if a slot of the log's
-- directory is free.
abbrev pub force_calls : Bool → List Record → ℕ
force_calls free records = cond (free && end_with_checkpoint records) 8 4

-- the device calls of a load: a Tcom reads its log once and whole, a Pcom the header and then the tail
abbrev pub load_calls : Program → ComId → ℕ
load_calls program c = cond (is_a_tcom program c) 3 4

-- the device calls of a step from one node to the next
abbrev pub device_calls : Bool → Node → Node → ℕ
device_calls free (Runs p) (Runs q) = cond (nat_lt (length p.log.forced) (length q.log.forced)) (force_calls free (drop (length p.log.forced) q.log.forced)) 0
device_calls free (Serves x) (Serves y) = cond (nat_lt (length x.records) (length y.records)) 4 0
device_calls free (Down records) (Runs q) = 4
device_calls free (Down records) (Serves y) = 7
device_calls free _ _ = 0

-- a stop is reached where the step without it makes so many device calls
abbrev pub is_reached : Option Stop → ℕ → Bool
is_reached None calls = false
is_reached (Some stop) calls = nat_le stop.call calls

-- a reached stop leaves the disk alone, and nothing is put out
abbrev pub cut_off : Option Stop → DiskOutcome → Node → Answer → Done → Done
cut_off stop x node answer d = cond (is_reached stop (device_calls x.free node d.node)) (just (Down x.left) answer) d

abbrev pub does_or_stops : Program → ComId → Node → Option Stop → DiskOutcome → ℕ → Call → Option Done
does_or_stops program c node stop x number call = option_map (cut_off stop x node (answer_stopped number x.is_open call)) (does program c node number call)

-- a crash keeps the disk alone
abbrev pub crashes : Node → Done
crashes (Runs p) = just (Down p.log.forced) answers.Ended
crashes (Serves x) = just (Down x.records) answers.Ended
crashes (Down records) = just (Down records) answers.Down
crashes External = just External answers.Down

abbrev pub up_answer : Pcom → Answer
up_answer p = cond (is_replaying p) answers.Replaying answers.Up

abbrev pub comes_up : Program → ComId → ℕ → List Record → Option Done
comes_up program c size records =
    cond (is_a_tcom program c)
    (option_map (λ x. just (Serves x) answers.Up) (recover_tcom program c size records))
    (option_map (λ t. done_as (up_answer t.pcom) t) (recover_pcom program c records))

-- the load alone makes its device calls also where it is refused
abbrev pub recovers : Program → ComId → Option Stop → DiskOutcome → Node → Option Done
recovers program c stop x (Down records) =
    cond (is_reached stop (load_calls program c)) (Some (just (Down x.left) answers.Stopped)) (option_map (cut_off stop x (Down records) answers.Stopped) (comes_up program c x.size x.found))
recovers program c stop x (Runs p) = Some (just (Runs p) answers.Already)
recovers program c stop x (Serves t) = Some (just (Serves t) answers.Already)
recovers program c stop x External = Some (just External answers.Already)

-- the world ---------------------------------------------------------------------------------

abbrev pub nth : {A : Type 0} → List A → ℕ → Option A
nth xs zero = None
nth xs (suc i) = slice_get xs i

-- the packet with this number
abbrev pub packet_at : World → ℕ → Option Packet
packet_at w i = nth w.packets i

abbrev pub node_at : World → ComId → Option Node
node_at w c = slice_get w.nodes c.0

abbrev pub goes : ComId → ComId → Option Packet → Bool
goes from to None = false
goes from to (Some p) = same_com from (sender_of p) && same_com to (receiver_of p)

-- the number of the oldest waiting packet of this pair
abbrev pub oldest_of : World → ComId → ComId → Option ℕ
oldest_of w from to = find (λ i. goes from to (packet_at w i)) w.waiting

abbrev pub no_longer : ℕ → List ℕ → List ℕ
no_longer i numbers = filter (λ j. not (i == j)) numbers

-- the packet no longer waits
abbrev pub takes_off : World → ℕ → World
takes_off w i = record w { waiting = no_longer i w.waiting }

abbrev pub same_showing : ComId → ℕ → ComId × Output → Bool
same_showing c m x = same_com c x.0 && (m == x.1.m)

-- whether this identity was shown before
abbrev pub was_shown : World → ComId → ℕ → Bool
was_shown w c m = list_any (same_showing c m) w.showings

abbrev pub showing_with : World → ComId → Output → Output × Bool
showing_with w c o = (o, was_shown w c o.m)

-- the world and the trace behind an event of c; what is put out is numbered behind all earlier packets, and waits
pub record After : Type 0 where
  pub world : World
  pub trace : Trace

abbrev pub trace_of : World → Event → ComId → Done → Trace
trace_of w e c d = record {
  event = e;
  answer = d.answer;
  puts = d.puts;
  first_put = length w.packets + 1;
  shown = option_map (showing_with w c) d.shown;
  aborted = d.aborted;
}

abbrev pub world_with : World → ComId → Done → World
world_with w c d = record {
  nodes = slice_set w.nodes c.0 d.node;
  packets = w.packets ++ d.puts;
  waiting = w.waiting ++ range_with_len (length w.packets + 1) (length d.puts);
  showings = w.showings ++ map (λ o. (c, o)) (option_to_list d.shown);
}

abbrev pub behind : World → Event → ComId → Done → After
behind w e c d = record { world = world_with w c d; trace = trace_of w e c d }

abbrev pub unchanged : World → Event → Answer → After
unchanged w e a = record {
  world = w;
  trace = record { event = e; answer = a; puts = []; first_put = length w.packets + 1; shown = None; aborted = None };
}

-- a call on the component c
abbrev pub calls : Program → World → Event → DiskOutcome → ComId → ℕ → Call → Option After
calls program w e x c number call =
    option_map (behind w e c) (option_and_then (λ node. does_or_stops program c node e.stop x number call) (node_at w c))

abbrev pub delivers : Program → World → Event → DiskOutcome → ℕ → Option Packet → Option After
delivers program w e x i None = Some (unchanged w e answers.Unknown)
delivers program w e x i (Some p) = calls program (takes_off w i) e x (receiver_of p) i (Gets p)

abbrev pub delivers_oldest : Program → World → Event → DiskOutcome → Option ℕ → Option After
delivers_oldest program w e x None = Some (unchanged w e answers.Empty)
delivers_oldest program w e x (Some i) = delivers program w e x i (packet_at w i)

abbrev pub loses : World → Event → ℕ → Option Packet → After
loses w e i None = unchanged w e answers.Empty
loses w e i (Some p) = unchanged (takes_off w i) e (answers.Packet i p fates.Lost)

abbrev pub loses_oldest : World → Event → Option ℕ → After
loses_oldest w e None = unchanged w e answers.Empty
loses_oldest w e (Some i) = loses w e i (packet_at w i)

abbrev pub happens_as : Program → World → Event → DiskOutcome → What → Option After
happens_as program w e x (Input c handler args) = calls program w e x c 0 (Gives handler args)
happens_as program w e x (Deliver from to) = delivers_oldest program w e x (oldest_of w from to)
happens_as program w e x (Lose from to) = Some (loses_oldest w e (oldest_of w from to))
happens_as program w e x (Numbered i) = delivers program w e x i (packet_at w i)
happens_as program w e x (Force c) = calls program w e x c 0 Forces
happens_as program w e x (Checkpoint c) = calls program w e x c 0 Checkpoints
happens_as program w e x (Resend c) = calls program w e x c 0 Resends
happens_as program w e x (Emit c) = calls program w e x c 0 Emits
happens_as program w e x (Crash c) = option_map (λ node. behind w e c (crashes node)) (node_at w c)
happens_as program w e x (Recover c) = option_map (behind w e c) (option_and_then (recovers program c e.stop x) (node_at w c))

-- one event, given what the disks decide; None where a log is met that is bad
abbrev pub happens : Program → World → Event → DiskOutcome → Option After
happens program w e x = happens_as program w e x e.what

-- all components up, over empty logs
abbrev pub first_node : Program → ComId → Kind → Node
first_node program c kinds.Pcom = Runs (fresh_pcom program c)
first_node program c kinds.Tcom = Serves (fresh_tcom program c)
first_node program c kinds.Xcom = External

abbrev pub first_nodes : Program → ℕ → List Component → List Node
first_nodes program i [] = []
first_nodes program i (d ∷ ds) = first_node program (record { 0 = i }) d.kind ∷ first_nodes program (i + 1) ds

abbrev pub first_world : Program → World
first_world program = record { nodes = first_nodes program 0 program.components; packets = []; waiting = []; showings = [] }
