-- What is done next to settle a world, and what the policy asks for.
use Rattle.std.specs.Prelude.{◌≡◌, ℕ, ◌+◌, ◌*◌, ◌^◌, ◌-◌, nat_le, nat_lt, Bool, true, false, not, ◌&&◌, ◌||◌, cond, List, [], ◌∷◌, fold, length, Option, Some, None, is_some, option_map, option_and_then, sum_by, count_by}
use Rattle.ic_base.specs.declared.limits.TheConstants.{PACKETS}
use Rattle.std.specs.List.{list_any}
use Rattle.ic_base.specs.declared.messages.ComId.{ComId}
use Rattle.ic_base.specs.declared.messages.Msg.{Msg}
use Rattle.ic_base.specs.declared.messages.Packet.{Packet}
use Rattle.ic_base.specs.declared.events.Answer.{Answer}
use Rattle.ic_base.specs.declared.events.Answer.TheVariants as answers
use Rattle.ic_base.specs.declared.events.What.{What}
use Rattle.ic_base.specs.declared.events.What.TheVariants.{Input, Deliver, Lose, Packet as Numbered, Force, Checkpoint, Resend, Emit, Crash, Recover}
use Rattle.ic_base.specs.declared.record.Record.{Record}
use Rattle.def_state.specs.Outbox
use Rattle.def_state.specs.Inbox
use Rattle.def_state.specs.Shelf
use Rattle.def_step.specs.Packets.{sender_of, receiver_of}
use Rattle.def_step.specs.Replay.{stamp_waiting, behind_checkpoint}
use Rattle.def_step.specs.Pcom.{Pcom, all_of, forced_end, is_replaying, in_hand}
use Rattle.def_step.specs.World.{World, Node, Runs, Down, packet_at, node_at}

-- what is asked of a component; false, 0 and none of one that is no Pcom or is down ---------------

abbrev pub is_down : Node → Bool
is_down (Down records) = true
is_down _ = false

abbrev pub pcom_of : Node → Option Pcom
pcom_of (Runs p) = Some p
pcom_of _ = None

abbrev pub passes : (Pcom → Bool) → Option Pcom → Bool
passes test None = false
passes test (Some p) = test p

abbrev pub amount : (Pcom → ℕ) → Option Pcom → ℕ
amount f None = 0
amount f (Some p) = f p

abbrev pub replays : Node → Bool
replays node = passes is_replaying (pcom_of node)

abbrev pub has_in_hand : Node → Bool
has_in_hand node = passes in_hand (pcom_of node)

abbrev pub shows : Pcom → Bool
shows p = not (is_replaying p) && is_some (Shelf.next_due p.vol.shelf (forced_end p))

-- it is up and an output is due
abbrev pub has_due : Node → Bool
has_due node = passes shows (pcom_of node)

abbrev pub buffered : Node → ℕ
buffered node = amount (λ p. length p.log.buffered) (pcom_of node)

-- the records behind its last checkpoint
abbrev pub since_checkpoint : Node → ℕ
since_checkpoint node = amount (λ p. length (behind_checkpoint (all_of p.log))) (pcom_of node)

abbrev pub first_stamp : List Record → Option ℕ
first_stamp [] = None
first_stamp (r ∷ rs) = stamp_waiting r

-- the stamp of the Take that it waits at
abbrev pub waits_at : Node → Option ℕ
waits_at node = option_and_then (λ p. first_stamp p.rest) (pcom_of node)

abbrev pub node_of : World → ComId → Option Pcom
node_of w c = option_and_then pcom_of (node_at w c)

-- the message isn't taken by its receiver, which runs
abbrev pub is_missed : World → Msg → Bool
is_missed w m = passes (λ p. not (Inbox.is_taken p.vol.inbox (record { peer = m.from; k = m.k }))) (node_of w m.to)

-- it holds a due message without a stable mark which its receiver hasn't taken
abbrev pub owes : World → Node → Bool
owes w node = passes (λ p. list_any (is_missed w) (Outbox.unstable p.vol.outbox (forced_end p))) (pcom_of node)

-- the next event ------------------------------------------------------------------------------

abbrev pub first_from : ℕ → (Node → Bool) → List Node → Option ComId
first_from i test [] = None
first_from i test (n ∷ ns) = cond (test n) (Some (record { 0 = i })) (first_from (i + 1) test ns)

-- the lowest component that passes a test
abbrev pub lowest : (Node → Bool) → World → Option ComId
lowest test w = first_from 0 test w.nodes

-- a component that replays, with the stamp that it waits at
pub record Waits : Type 0 where
  pub stamp : ℕ
  pub who : ComId

abbrev pub sooner : Option ℕ → ℕ → Option Waits → Option Waits
sooner None i other = other
sooner (Some stamp) i None = Some (record { stamp = stamp; who = record { 0 = i } })
sooner (Some stamp) i (Some x) = Some (cond (nat_le stamp x.stamp) (record { stamp = stamp; who = record { 0 = i } }) x)

abbrev pub soonest_from : ℕ → List Node → Option Waits
soonest_from i [] = None
soonest_from i (n ∷ ns) = sooner (waits_at n) i (soonest_from (i + 1) ns)

-- the replaying component that waits at the least stamp, the lowest of several
abbrev pub soonest : World → Option ComId
soonest w = option_map (λ x. x.who) (soonest_from 0 w.nodes)

abbrev pub first_number : List ℕ → Option ℕ
first_number [] = None
first_number (i ∷ is) = Some i

abbrev pub delivery : Packet → What
delivery p = Deliver (sender_of p) (receiver_of p)

-- the oldest waiting packet
abbrev pub oldest : World → Option Packet
oldest w = option_and_then (packet_at w) (first_number w.waiting)

abbrev pub or_else : Option What → Option What → Option What
or_else None other = other
or_else (Some e) other = Some e

abbrev pub next_event : World → Option What
next_event w =
    or_else (option_map Recover (lowest is_down w))
    (or_else (option_map delivery (oldest w))
    (or_else (option_map Emit (lowest has_due w))
    (or_else (option_map Force (lowest (λ n. nat_lt 0 (buffered n)) w))
    (or_else (option_map Resend (soonest w))
    (or_else (option_map Resend (lowest has_in_hand w)) (option_map Resend (lowest (owes w) w)))))))

-- nothing is outstanding
pub record IsSettled (w : World) : Type 0 where
  pub all_up : list_any (λ n. is_down n || replays n) w.nodes ≡ false
  pub none_waits : w.waiting ≡ []
  pub none_due : list_any has_due w.nodes ≡ false
  pub none_buffered : list_any (λ n. nat_lt 0 (buffered n)) w.nodes ≡ false
  pub none_in_hand : list_any has_in_hand w.nodes ≡ false
  pub none_missed : list_any (λ n. passes (λ p. list_any (λ h. is_missed w h.msg) p.vol.outbox.held) (pcom_of n)) w.nodes ≡ false

-- policy --------------------------------------------------------------------------------------

-- how many buffered records ask for a force, and how many since a checkpoint for the next one; 0 asks for none
pub record PolicyIntervals : Type 0 where
  pub force_every : ℕ
  pub checkpoint_every : ℕ

abbrev pub reaches : ℕ → ℕ → Bool
reaches every count = nat_lt 0 every && nat_le every count

abbrev pub pcom_policy : PolicyIntervals → ComId → Pcom → Option What
pcom_policy x c p =
    cond (is_replaying p) None
    (cond (reaches x.force_every (length p.log.buffered)) (Some (Force c))
    (cond (not (in_hand p) && reaches x.checkpoint_every (length (behind_checkpoint (all_of p.log)))) (Some (Checkpoint c)) None))

abbrev pub next_policy : World → PolicyIntervals → ComId → Option What
next_policy w x c = option_and_then (pcom_policy x c) (node_of w c)

-- the component that the policy is asked of behind an event
abbrev pub asked_of : What → Answer → Option ComId
asked_of (Input c handler args) a = Some c
asked_of (Deliver from to) a = Some to
asked_of (Lose from to) a = Some to
asked_of (Numbered i) (answers.Packet j p fate) = Some (receiver_of p)
asked_of (Numbered i) a = None
asked_of (Force c) a = Some c
asked_of (Checkpoint c) a = Some c
asked_of (Resend c) a = Some c
asked_of (Emit c) a = Some c
asked_of (Crash c) a = Some c
asked_of (Recover c) a = Some c

abbrev pub policy_for : World → PolicyIntervals → Option ComId → Option What
policy_for w x None = None
policy_for w x (Some c) = next_policy w x c

-- one settling event: that of the policy where there is one
abbrev pub settling_event : World → PolicyIntervals → Option ComId → Option What
settling_event w x last = or_else (policy_for w x last) (next_event w)

-- the measure ---------------------------------------------------------------------------------

abbrev pub unshown : Node → ℕ
unshown node = amount (λ p. length p.vol.shelf.waiting) (pcom_of node)

-- what each settling event lowers, compared from the first member on: the packets still allowed, the components that are down,
-- the waiting packets, the outputs not shown, the buffered records, the records since a checkpoint
abbrev pub left : World → List ℕ
left w =
    (PACKETS - length w.packets) ∷ count_by is_down w.nodes ∷ length w.waiting
    ∷ sum_by unshown w.nodes ∷ sum_by buffered w.nodes ∷ sum_by since_checkpoint w.nodes ∷ []

-- the same as one number: each member is a digit below 2 ^ 80
abbrev pub measure : World → ℕ
measure w = fold (λ n x. n * 2 ^ 80 + x) 0 (left w)
