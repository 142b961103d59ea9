-- One step of a Pcom: decide, absorb the records, force where it must be, and put out.
use Rattle.std.specs.Prelude.{ℕ, ◌+◌, nat_le, nat_lt, max, Bool, true, false, not, ◌&&◌, ◌||◌, cond, List, [], ◌∷◌, ◌++◌, map, ℤ, Option, Some, None, is_some, option_map, option_and_then, option_to_list}
use Rattle.ic_base.specs.declared.messages.ComId.{ComId}
use Rattle.ic_base.specs.declared.messages.Msg.{Msg}
use Rattle.ic_base.specs.declared.messages.Output.{Output}
use Rattle.ic_base.specs.declared.messages.AbortCause.{AbortCause}
use Rattle.ic_base.specs.declared.messages.AbortCause.TheVariants.{Need}
use Rattle.ic_base.specs.declared.messages.Decision.{Decision}
use Rattle.ic_base.specs.declared.messages.Decision.TheVariants.{Committed, Aborted}
use Rattle.ic_base.specs.declared.messages.Session.{Session}
use Rattle.ic_base.specs.declared.messages.Packet.{Packet}
use Rattle.ic_base.specs.declared.messages.Packet.TheVariants.{Data, Stable, Installed, Fetch, OpReply, Outcome, Drop}
use Rattle.ic_base.specs.declared.scenario.Program.{Program}
use Rattle.ic_base.specs.declared.record.Record.{Record}
use Rattle.ic_base.specs.declared.record.Record.TheVariants.{Take, TakeWhole, Input, Value, Outcome as Ended, Released, Shown, Checkpoint}
use Rattle.ic_base.specs.declared.messages.Level.{Level}
use Rattle.ic_base.specs.declared.messages.Level.TheVariants.{Nothing, Taken, Stable as Stands, Installed as Kept}
use Rattle.ic_base.specs.Programs.{is_immediate}
use Rattle.def_state.specs.Names.{Identity, same_identity}
use Rattle.def_state.specs.Positions.{end_of}
use Rattle.def_state.specs.Outbox
use Rattle.def_state.specs.Inbox
use Rattle.def_state.specs.Inbox.{Ack}
use Rattle.def_state.specs.Shelf
use Rattle.def_state.specs.Txn
use Rattle.def_state.specs.Txn.{Stage, Idle, Waiting, Answered, Committing}
use Rattle.def_state.specs.Fits.{failed_line}
use Rattle.def_state.specs.Hist.{hand_plays}
use Rattle.def_state.specs.Vol.{Vol, first_vol, record_in, regenerated, numbers_fit}
use Rattle.def_state.specs.Image.{image_of}
use Rattle.def_step.specs.Packets.{fits_pcom}
pub use Rattle.def_step.specs.Room.{is_empty, has_no_room}
use Rattle.def_step.specs.Replay.{Playing, waits_for, feed, recovered}

-- a log: what the disk holds, and what waits for the next force
pub record Log : Type 0 where
  pub forced : List Record
  pub buffered : List Record

abbrev pub all_of : Log → List Record
all_of l = l.forced ++ l.buffered

abbrev pub force_log : Log → Log
force_log l = record { forced = all_of l; buffered = [] }

-- a Pcom over its log; while it replays, `rest` holds what is still to be played, the waiting Take first
pub record Pcom : Type 0 where
  pub log : Log
  pub vol : Vol
  pub rest : List Record

abbrev pub forced_end : Pcom → ℕ
forced_end p = end_of p.log.forced

abbrev pub log_end : Pcom → ℕ
log_end p = end_of (all_of p.log)

abbrev pub is_replaying : Pcom → Bool
is_replaying p = not (is_empty p.rest)

abbrev pub in_hand : Pcom → Bool
in_hand p = is_some p.vol.hand

-- with an empty log
abbrev pub fresh_pcom : Program → ComId → Pcom
fresh_pcom program c = record { log = record { forced = []; buffered = [] }; vol = first_vol program c; rest = [] }

-- the calls of a Pcom
pub data Call : Type 0 where
  Gives : (handler : ℕ) (args : List ℤ) → Call
  Gets : (packet : Packet) → Call
  Forces : Call
  Checkpoints : Call
  Resends : Call
  Emits : Call

-- what is told of a step, beside what it puts out
pub data StepKind : Type 0 where
  Took : StepKind
  Fed : StepKind
  Busy : StepKind
  Changed : StepKind
  Same : StepKind

-- what a step is to do. A quiet one puts out its answers alone, and tells no receipt
pub record Effects : Type 0 where
  pub word : StepKind
  pub marks : Option Identity
  pub content : Option Msg
  pub adds : List Record
  pub forces : Bool
  pub covers : Bool
  pub answers : List Packet
  pub is_quiet : Bool
  pub shown : Option Output
  pub aborted : Option (ℕ × AbortCause)

-- nothing but what each step puts out
abbrev pub just_tail : Effects
just_tail = record {
  word = Same;
  marks = None;
  content = None;
  adds = [];
  forces = false;
  covers = false;
  answers = [];
  is_quiet = false;
  shown = None;
  aborted = None;
}

abbrev pub nothing_at_all : Effects
nothing_at_all = record just_tail { is_quiet = true }

-- decide --------------------------------------------------------------------------------

abbrev pub level_answer : ComId → Msg → Level → List Packet
level_answer c m Nothing = []
level_answer c m Taken = []
level_answer c m Stands = Stable c m.from m.k ∷ []
level_answer c m Kept = Installed c m.from m.k ∷ []

abbrev pub take_record : Program → ComId → Vol → Msg → Record
take_record program c v m =
    cond (is_immediate program c)
    (TakeWhole m.from m.k (max v.clock m.stamp + 1) m.handler m.args)
    (Take m.from m.k (max v.clock m.stamp + 1))

-- a new message is taken unless one is in hand; one that isn't new is answered by its level
abbrev pub on_data : Program → ComId → Pcom → Msg → Effects
on_data program c p m =
    cond (Inbox.is_taken p.vol.inbox (record { peer = m.from; k = m.k }))
    (record just_tail { answers = level_answer c m (Inbox.level p.vol.inbox (record { peer = m.from; k = m.k }) (forced_end p)) })
    (cond (in_hand p)
    (record nothing_at_all { word = Busy })
    (record just_tail { word = Took; content = Some m; adds = take_record program c p.vol m ∷ []; forces = is_immediate program c }))

abbrev pub on_stable : Pcom → Identity → Effects
on_stable p x = record just_tail { marks = Some x; word = cond (Outbox.may_become_stable p.vol.outbox x) Changed Same }

abbrev pub on_installed : Pcom → Identity → Effects
on_installed p x = cond (Outbox.is_held p.vol.outbox x) (record just_tail { adds = Released x.peer x.k ∷ []; word = Changed }) just_tail

abbrev pub on_fetch : Pcom → Identity → Effects
on_fetch p x = record just_tail { answers = map Data (option_to_list (Outbox.fetch p.vol.outbox x (forced_end p))) }

-- what the part comes to with one more answer: the line at which it fails
abbrev pub fails_with : Program → ComId → Vol → ℤ → Option ℕ
fails_with program c v value = option_and_then (λ hand. failed_line (hand_plays program c v.vars (v.now ++ value ∷ []) hand)) v.hand

-- a failed need is recorded right behind the value
abbrev pub need_records : Vol → Option ℕ → List Record
need_records v None = []
need_records v (Some line) = Ended (v.clock + 1) v.txn.begun (Some (Need line)) ∷ []

abbrev pub need_abort : Vol → Option ℕ → Option (ℕ × AbortCause)
need_abort v None = None
need_abort v (Some line) = Some (v.txn.begun, Need line)

abbrev pub on_reply : Program → ComId → Vol → ℕ → ℕ → Session → Option ℤ → Effects
on_reply program c v n place session None = just_tail
on_reply program c v n place session (Some value) = record just_tail {
  word = Changed;
  adds = Value n place session value ∷ need_records v (fails_with program c v value);
  aborted = need_abort v (fails_with program c v value);
}

abbrev pub on_outcome : Vol → Option Decision → Effects
on_outcome v None = just_tail
on_outcome v (Some (Committed stamp)) = record just_tail { word = Changed; adds = Ended (max v.clock stamp + 1) v.txn.begun None ∷ [] }
on_outcome v (Some (Aborted cause)) = record just_tail {
  word = Changed;
  adds = Ended (v.clock + 1) v.txn.begun (Some cause) ∷ [];
  aborted = Some (v.txn.begun, cause);
}

abbrev pub on_packet : Program → ComId → Pcom → Packet → Effects
on_packet program c p (Data m) = on_data program c p m
on_packet program c p (Stable from to k) = on_stable p (record { peer = from; k = k })
on_packet program c p (Installed from to k) = on_installed p (record { peer = from; k = k })
on_packet program c p (Fetch from to k) = on_fetch p (record { peer = from; k = k })
on_packet program c p (OpReply from to n place session value) = on_reply program c p.vol n place session (Txn.reply p.vol.txn (OpReply from to n place session value))
on_packet program c p (Outcome from to n place session decision) = on_outcome p.vol (Txn.outcome p.vol.txn (Outcome from to n place session decision))
on_packet program c p _ = nothing_at_all

abbrev pub drop_packet : ComId → ComId × ℕ → Packet
drop_packet c x = Drop c x.0 x.1

-- the Drop of the last ended transaction, once its outcome is forced
abbrev pub last_drop : ComId → Pcom → List Packet
last_drop c p = cond (nat_le p.vol.ended_at (forced_end p)) (map (drop_packet c) (option_to_list p.vol.txn.last)) []

-- what an up Pcom owes: its due messages that aren't known to be stable, its last Drop, what is pending
abbrev pub all_owed : ComId → Pcom → List Packet
all_owed c p = (map Data (Outbox.unstable p.vol.outbox (forced_end p)) ++ last_drop c p) ++ option_to_list (Txn.pending c p.vol.txn p.vol.clock)

abbrev pub on_emit : Option Output → Effects
on_emit None = nothing_at_all
on_emit (Some o) = record just_tail { adds = Shown o.m ∷ []; shown = Some o }

abbrev pub decide : Program → ComId → Pcom → Call → Effects
decide program c p (Gives handler args) =
    cond (in_hand p) nothing_at_all (record just_tail { word = Took; adds = Input (p.vol.clock + 1) handler args ∷ []; forces = true })
decide program c p (Gets packet) = cond (fits_pcom program c packet) (on_packet program c p packet) nothing_at_all
decide program c p Forces = record just_tail { forces = true }
decide program c p Checkpoints =
    cond (in_hand p) nothing_at_all (record just_tail { adds = Checkpoint (image_of p.vol) ∷ []; forces = true; covers = true })
decide program c p Resends = record nothing_at_all { answers = all_owed c p }
decide program c p Emits = on_emit (Shelf.next_due p.vol.shelf (forced_end p))

-- absorb --------------------------------------------------------------------------------

abbrev pub marked : Pcom → Option Identity → Pcom
marked p None = p
marked p (Some x) = record p { vol = record p.vol { outbox = Outbox.stable p.vol.outbox x } }

-- the record is buffered, and does what it does
abbrev pub append : Program → ComId → Option Msg → Pcom → Record → Pcom
append program c content p r = record p {
  log = record p.log { buffered = p.log.buffered ++ r ∷ [] };
  vol = record_in program c (end_of (all_of p.log ++ r ∷ [])) content p.vol r;
}

abbrev pub absorb : Program → ComId → Option Msg → Pcom → List Record → Pcom
absorb program c content p [] = p
absorb program c content p (r ∷ rs) = absorb program c content (append program c content p r) rs

-- force ---------------------------------------------------------------------------------

abbrev pub place_of : Stage → ℕ
place_of Idle = 0
place_of (Waiting t place session request) = place
place_of (Answered t place session request) = place
place_of (Committing t place session) = place

-- a step from v to w came to a first request
abbrev pub came_to_first : Vol → Vol → Bool
came_to_first v w = nat_lt v.txn.begun w.txn.begun

-- it came to a later request or to the end of the part
abbrev pub came_further : Vol → Vol → Bool
came_further v w = nat_lt (place_of v.txn.stage) (place_of w.txn.stage)

abbrev pub must_force : Vol → Vol → Bool
must_force v w = came_to_first v w || (came_further v w && Txn.is_committing w.txn.stage)

abbrev pub force_if : Bool → Pcom → Pcom
force_if true p = record p { log = force_log p.log }
force_if false p = p

-- a checkpoint covers every receipt
abbrev pub cover_if : Bool → Pcom → Pcom
cover_if true p = record p { vol = record p.vol { inbox = Inbox.cover p.vol.inbox (log_end p) } }
cover_if false p = p

-- put out -------------------------------------------------------------------------------

abbrev pub ack_at : ComId → Identity → Level → Packet
ack_at c x Nothing = Stable c x.peer x.k
ack_at c x Taken = Stable c x.peer x.k
ack_at c x Stands = Stable c x.peer x.k
ack_at c x Kept = Installed c x.peer x.k

abbrev pub ack_packet : ComId → Ack → Packet
ack_packet c a = ack_at c a.name a.level

abbrev pub owes_drop : Pcom → Bool
owes_drop p = p.vol.owes_drop && nat_le p.vol.ended_at (forced_end p)

-- acknowledgements, messages that are due, the owed Drop, and the request or Commit that the step came to
abbrev pub tail_packets : ComId → Bool → Pcom → List Packet
tail_packets c came p =
    ((map (ack_packet c) (Inbox.acks p.vol.inbox (forced_end p))
    ++ map Data (Outbox.due_messages p.vol.outbox (forced_end p)))
    ++ cond (owes_drop p) (map (drop_packet c) (option_to_list p.vol.txn.last)) [])
    ++ cond came (option_to_list (Txn.pending c p.vol.txn p.vol.clock)) []

-- what was put out is marked so
abbrev pub after_tail : Pcom → Pcom
after_tail p = record p {
  vol = record p.vol {
    inbox = Inbox.all_told p.vol.inbox (forced_end p);
    outbox = Outbox.all_put p.vol.outbox (forced_end p);
    owes_drop = p.vol.owes_drop && not (owes_drop p);
  };
}

-- the step ------------------------------------------------------------------------------

-- the component after its step, and what is told of it
pub record StepResult : Type 0 where
  pub pcom : Pcom
  pub puts : List Packet
  pub word : StepKind
  pub shown : Option Output
  pub aborted : Option (ℕ × AbortCause)

abbrev pub told : Pcom → List Packet → Effects → StepResult
told p puts d = record { pcom = p; puts = puts; word = d.word; shown = d.shown; aborted = d.aborted }

abbrev pub put_out : ComId → Vol → Effects → Pcom → StepResult
put_out c before d p =
    cond d.is_quiet
    (told p d.answers d)
    (told (after_tail p) (d.answers ++ tail_packets c (came_to_first before p.vol || came_further before p.vol) p) d)

abbrev pub force_where : Vol → Effects → Pcom → Pcom
force_where before d p = cover_if d.covers (force_if (d.forces || must_force before p.vol) p)

abbrev pub absorb_choice : Program → ComId → Effects → Pcom → Pcom
absorb_choice program c d p = absorb program c d.content (marked p d.marks) d.adds

abbrev pub carry_out : Program → ComId → Pcom → Effects → StepResult
carry_out program c p d = put_out c p.vol d (force_where p.vol d (absorb_choice program c d p))

-- replaying -----------------------------------------------------------------------------

abbrev pub needed : List Record → Option Identity
needed [] = None
needed (r ∷ rs) = waits_for r

abbrev pub fetch_packet : ComId → Identity → Packet
fetch_packet c x = Fetch c x.peer x.k

abbrev pub needed_fetch : ComId → List Record → List Packet
needed_fetch c rest = map (fetch_packet c) (option_to_list (needed rest))

-- the state behind a replay that is finished, and as it is in one that isn't
abbrev pub standing_at : Log → Vol → List Record → Pcom
standing_at log v [] = record { log = log; vol = regenerated v; rest = [] }
standing_at log v (r ∷ rs) = record { log = log; vol = v; rest = r ∷ rs }

abbrev pub stands_at : Log → Playing → Pcom
stands_at log x = standing_at log x.vol x.rest

-- a step that ends the replay tells the receipts, one that doesn't puts out nothing
abbrev pub fed : ComId → Pcom → StepResult
fed c p =
    cond (is_replaying p)
    (told p [] (record nothing_at_all { word = Fed }))
    (told (after_tail p) (tail_packets c false p) (record just_tail { word = Fed }))

abbrev pub is_needed : List Record → Msg → Bool
is_needed rest m = is_some (option_and_then (λ x. cond (same_identity x (record { peer = m.from; k = m.k })) (Some x) None) (needed rest))

abbrev pub stays : Pcom → List Packet → Option StepResult
stays p puts = Some (told p puts nothing_at_all)

abbrev pub packet_at_replay : Program → ComId → Pcom → Packet → Option StepResult
packet_at_replay program c p (Data m) =
    cond (is_needed p.rest m) (option_map (λ x. fed c (stands_at p.log x)) (feed program c p.vol m p.rest)) (stays p [])
packet_at_replay program c p (Fetch from to k) = stays p (map Data (option_to_list (Outbox.fetch p.vol.outbox (record { peer = from; k = k }) (forced_end p))))
packet_at_replay program c p _ = stays p []

abbrev pub replay_step : Program → ComId → Pcom → Call → Option StepResult
replay_step program c p (Gets packet) = cond (fits_pcom program c packet) (packet_at_replay program c p packet) (stays p [])
replay_step program c p Resends = stays p (needed_fetch c p.rest)
replay_step program c p _ = stays p []

-- one call; None where a replay meets a misfit
abbrev pub pcom_step : Program → ComId → Pcom → Call → Option StepResult
pcom_step program c p call =
    cond (is_replaying p) (replay_step program c p call) (Some (carry_out program c p (decide program c p call)))

-- a component that comes up over these records, all forced, with the Fetch that it may need
abbrev pub recover_pcom : Program → ComId → List Record → Option StepResult
recover_pcom program c records =
    option_map
    (λ x. told (stands_at (record { forced = records; buffered = [] }) x) (needed_fetch c x.rest) nothing_at_all)
    (recovered program c records)

-- refusals ------------------------------------------------------------------------------

-- the step would pass the log's limit or a number's limit; `size` is the log's size on its disk
abbrev pub is_full : Program → ComId → ℕ → Pcom → Call → Bool
is_full program c size p call =
    not (is_replaying p)
    && not (is_empty (decide program c p call).adds)
    && (has_no_room size (absorb_choice program c (decide program c p call) p).log.buffered || not (numbers_fit (absorb_choice program c (decide program c p call) p).vol))

-- an input isn't taken while it replays or has a message in hand; what it is told in any other case is a step
abbrev pub misses_input : Pcom → Bool
misses_input p = is_replaying p || in_hand p
