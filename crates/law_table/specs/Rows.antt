-- What each event does to a component: the records that it adds, whether it forces the log, what it puts out, and what it leaves as it was.
use Rattle.std.specs.Prelude.{◌≡◌, ℕ, ◌+◌, max, ℤ, Bool, true, false, ◌||◌, List, [], ◌∷◌, ◌++◌, map, slice_set, Option, Some, None, option_to_list}
use Rattle.ic_base.specs.declared.messages.ComId.{ComId}
use Rattle.ic_base.specs.declared.messages.Decision.TheVariants.{Committed, Aborted}
use Rattle.ic_base.specs.declared.messages.AbortCause.{AbortCause}
use Rattle.ic_base.specs.declared.messages.AbortCause.TheVariants.{Need}
use Rattle.ic_base.specs.declared.messages.Msg.{Msg}
use Rattle.ic_base.specs.declared.messages.Output.{Output}
use Rattle.ic_base.specs.declared.messages.Packet.{Packet}
use Rattle.ic_base.specs.declared.messages.Packet.TheVariants as packets
use Rattle.ic_base.specs.declared.messages.Session.{Session}
use Rattle.ic_base.specs.declared.messages.Decision.{Decision}
use Rattle.ic_base.specs.declared.events.Event.{Event}
use Rattle.ic_base.specs.declared.events.What.TheVariants as whats
use Rattle.ic_base.specs.declared.record.Record.{Record}
use Rattle.ic_base.specs.declared.record.Record.TheVariants as records
use Rattle.ic_base.specs.declared.scenario.Program.{Program}
use Rattle.ic_base.specs.Programs.{is_immediate}
use Rattle.def_state.specs.Image.{image_of}
use Rattle.def_state.specs.Inbox
use Rattle.def_state.specs.Names.{Identity}
use Rattle.def_state.specs.Outbox
use Rattle.def_state.specs.Shelf
use Rattle.def_state.specs.Txn
use Rattle.def_step.specs.Packets.{fits_pcom}
use Rattle.def_step.specs.Pcom.{Pcom, Log, Call, Gives, Gets, Forces, Checkpoints, Resends, Emits, StepResult, all_of, all_owed, fails_with, forced_end, in_hand, is_replaying, level_answer, must_force, pcom_step, take_record}
use Rattle.def_step.specs.World.{World, Runs, Down, DiskOutcome, After, happens, node_at, oldest_of, packet_at, takes_off}

-- rows ------------------------------------------------------------------------------------------------

-- a log with more records behind its buffered ones, all forced or none of those
abbrev pub with_records : Log → List Record → Bool → Log
with_records l rs true = record { forced = all_of l ++ rs; buffered = [] }
with_records l rs false = record { forced = l.forced; buffered = l.buffered ++ rs }

-- It adds these records, and forces the whole log where the row says so, where it comes to the first request of a transaction, and where it
-- comes to its commit. It puts out these answers, and behind them what has become due.
pub record Does (p : Pcom) (t : StepResult) (adds : List Record) (forces : Bool) (answers : List Packet) : Type 0 where
  pub log : t.pcom.log ≡ with_records p.log adds (forces || must_force p.vol t.pcom.vol)
  pub puts : (due : List Packet) × (t.puts ≡ answers ++ due)

-- the component stays as it was, and puts out just these
pub record Stays (p : Pcom) (t : StepResult) (puts : List Packet) : Type 0 where
  pub same : t.pcom ≡ p
  pub just : t.puts ≡ puts
  pub silent : (t.shown ≡ None) × (t.aborted ≡ None)

-- what it shows, and the abort that it tells
abbrev pub Tells : StepResult → Option Output → Option (ℕ × AbortCause) → Type 0
Tells t shown aborted = (t.shown ≡ shown) × (t.aborted ≡ aborted)

abbrev pub IsSilent : StepResult → Type 0
IsSilent t = Tells t None None

-- a Pcom that is up does the step of a call
abbrev pub IsStep : Program → ComId → Pcom → Call → StepResult → Type 0
IsStep program c p call t = (is_replaying p ≡ false) × (pcom_step program c p call ≡ Some t)

abbrev pub names : ComId → ℕ → Identity
names peer k = record { peer = peer; k = k }

-- inputs and messages ---------------------------------------------------------------------------------

-- the record of an input has the next stamp
abbrev pub Inputs : Type 0
Inputs = (program : Program) (c : ComId) (p : Pcom) (handler : ℕ) (args : List ℤ) (t : StepResult) → IsStep program c p (Gives handler args) t →
    (in_hand p ≡ false → Does p t (records.Input (p.vol.clock + 1) handler args ∷ []) true [] × IsSilent t) × (in_hand p ≡ true → Stays p t [])

-- a message with a new number
abbrev pub IsNew : Pcom → Msg → Type 0
IsNew p m = Inbox.is_taken p.vol.inbox (names m.from m.k) ≡ false

abbrev pub NewMessages : Type 0
NewMessages = (program : Program) (c : ComId) (p : Pcom) (m : Msg) (t : StepResult) → IsStep program c p (Gets (packets.Data m)) t → fits_pcom program c (packets.Data m) ≡ true →
    IsNew p m → in_hand p ≡ false → Does p t (take_record program c p.vol m ∷ []) (is_immediate program c) [] × IsSilent t

abbrev pub BusyMessages : Type 0
BusyMessages = (program : Program) (c : ComId) (p : Pcom) (m : Msg) (t : StepResult) → IsStep program c p (Gets (packets.Data m)) t → fits_pcom program c (packets.Data m) ≡ true →
    IsNew p m → in_hand p ≡ true → Stays p t []

-- one that was taken: what is answered is the level of its receipt
abbrev pub KnownMessages : Type 0
KnownMessages = (program : Program) (c : ComId) (p : Pcom) (m : Msg) (t : StepResult) → IsStep program c p (Gets (packets.Data m)) t → fits_pcom program c (packets.Data m) ≡ true →
    Inbox.is_taken p.vol.inbox (names m.from m.k) ≡ true → Does p t [] false (level_answer c m (Inbox.level p.vol.inbox (names m.from m.k) (forced_end p))) × IsSilent t

-- other packets ---------------------------------------------------------------------------------------

abbrev pub Stables : Type 0
Stables = (program : Program) (c from to : ComId) (p : Pcom) (k : ℕ) (t : StepResult) → IsStep program c p (Gets (packets.Stable from to k)) t → fits_pcom program c (packets.Stable from to k) ≡ true →
    Does p t [] false [] × IsSilent t

-- a message that is held is released
abbrev pub Installeds : Type 0
Installeds = (program : Program) (c from to : ComId) (p : Pcom) (k : ℕ) (t : StepResult) → IsStep program c p (Gets (packets.Installed from to k)) t → fits_pcom program c (packets.Installed from to k) ≡ true →
    (Outbox.is_held p.vol.outbox (names from k) ≡ true → Does p t (records.Released from k ∷ []) false [] × IsSilent t)
    × (Outbox.is_held p.vol.outbox (names from k) ≡ false → Does p t [] false [] × IsSilent t)

-- the message is put out again, if it is held and due
abbrev pub Fetches : Type 0
Fetches = (program : Program) (c from to : ComId) (p : Pcom) (k : ℕ) (t : StepResult) → IsStep program c p (Gets (packets.Fetch from to k)) t → fits_pcom program c (packets.Fetch from to k) ≡ true →
    Does p t [] false (map packets.Data (option_to_list (Outbox.fetch p.vol.outbox (names from k) (forced_end p)))) × IsSilent t

-- an answer for which the transaction waits: its value is recorded, and right behind it the outcome, if a need fails with it
abbrev pub Replies : Type 0
Replies = (program : Program) (c from to : ComId) (p : Pcom) (n place : ℕ) (session : Session) (value answer : ℤ) (t : StepResult) → IsStep program c p (Gets (packets.OpReply from to n place session answer)) t → fits_pcom program c (packets.OpReply from to n place session answer) ≡ true →
    (Txn.reply p.vol.txn (packets.OpReply from to n place session answer) ≡ None → Does p t [] false [] × IsSilent t)
    × (Txn.reply p.vol.txn (packets.OpReply from to n place session answer) ≡ Some value → fails_with program c p.vol value ≡ None → Does p t (records.Value n place session value ∷ []) false [] × IsSilent t)
    × ((line : ℕ) → Txn.reply p.vol.txn (packets.OpReply from to n place session answer) ≡ Some value → fails_with program c p.vol value ≡ Some line →
    Does p t (records.Value n place session value ∷ records.Outcome (p.vol.clock + 1) p.vol.txn.begun (Some (Need line)) ∷ []) false [] × Tells t None (Some (p.vol.txn.begun, Need line)))

-- an outcome for which it waits is recorded: a commit with a stamp above the decision's, an abort with its cause
abbrev pub Outcomes : Type 0
Outcomes = (program : Program) (c from to : ComId) (p : Pcom) (n place : ℕ) (session : Option Session) (decision : Decision) (t : StepResult) → IsStep program c p (Gets (packets.Outcome from to n place session decision)) t → fits_pcom program c (packets.Outcome from to n place session decision) ≡ true →
    (Txn.outcome p.vol.txn (packets.Outcome from to n place session decision) ≡ None → Does p t [] false [] × IsSilent t)
    × ((stamp : ℕ) → Txn.outcome p.vol.txn (packets.Outcome from to n place session decision) ≡ Some (Committed stamp) →
    Does p t (records.Outcome (max p.vol.clock stamp + 1) p.vol.txn.begun None ∷ []) false [] × IsSilent t)
    × ((cause : AbortCause) → Txn.outcome p.vol.txn (packets.Outcome from to n place session decision) ≡ Some (Aborted cause) →
    Does p t (records.Outcome (p.vol.clock + 1) p.vol.txn.begun (Some cause) ∷ []) false [] × Tells t None (Some (p.vol.txn.begun, cause)))

abbrev pub Strangers : Type 0
Strangers = (program : Program) (c : ComId) (p : Pcom) (packet : Packet) (t : StepResult) → IsStep program c p (Gets packet) t → fits_pcom program c packet ≡ false → Stays p t []

-- upkeep ----------------------------------------------------------------------------------------------

abbrev pub Forcings : Type 0
Forcings = (program : Program) (c : ComId) (p : Pcom) (t : StepResult) → IsStep program c p Forces t → Does p t [] true [] × IsSilent t

-- the record of a checkpoint has the image of the state
abbrev pub Checkpointings : Type 0
Checkpointings = (program : Program) (c : ComId) (p : Pcom) (t : StepResult) → IsStep program c p Checkpoints t →
    (in_hand p ≡ false → Does p t (records.Checkpoint (image_of p.vol) ∷ []) true [] × IsSilent t) × (in_hand p ≡ true → Stays p t [])

abbrev pub Resendings : Type 0
Resendings = (program : Program) (c : ComId) (p : Pcom) (t : StepResult) → IsStep program c p Resends t → Stays p t (all_owed c p)

-- the next output that is due is shown
abbrev pub Emittings : Type 0
Emittings = (program : Program) (c : ComId) (p : Pcom) (t : StepResult) → IsStep program c p Emits t →
    (Shelf.next_due p.vol.shelf (forced_end p) ≡ None → Stays p t [])
    × ((o : Output) → Shelf.next_due p.vol.shelf (forced_end p) ≡ Some o → Does p t (records.Shown o.m ∷ []) false [] × Tells t (Some o) None)

-- a replay --------------------------------------------------------------------------------------------

abbrev pub Replayings : Type 0
Replayings = (program : Program) (c : ComId) (p : Pcom) (call : Call) (t : StepResult) → is_replaying p ≡ true → pcom_step program c p call ≡ Some t → (t.pcom.log ≡ p.log) × IsSilent t

-- crashes and losses ----------------------------------------------------------------------------------

abbrev pub Crashes : Type 0
Crashes = (program : Program) (w : World) (e : Event) (x : DiskOutcome) (c : ComId) (p : Pcom) (a : After) → e.what ≡ whats.Crash c → node_at w c ≡ Some (Runs p) → happens program w e x ≡ Some a →
    (a.world.nodes ≡ slice_set w.nodes c.0 (Down p.log.forced)) × (a.world.packets ≡ w.packets) × (a.world.waiting ≡ w.waiting)

abbrev pub Losses : Type 0
Losses = (program : Program) (w : World) (e : Event) (x : DiskOutcome) (from to : ComId) (number : ℕ) (packet : Packet) (a : After) → e.what ≡ whats.Lose from to → oldest_of w from to ≡ Some number → packet_at w number ≡ Some packet →
    happens program w e x ≡ Some a → a.world ≡ takes_off w number
