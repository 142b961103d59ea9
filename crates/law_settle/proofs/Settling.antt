-- Each event that settling gives lowers what is left.
use Rattle.std.proofs.Common.{◌≡◌, refl, ap, sym, subst, ℕ, ◌<◌, ◌≤◌, nat_le, nat_lt, Bool, true, false, cond, not, ◌&&◌, length, Option, Some, None, option_map, option_and_then, is_some, arith, ◌⊎◌, inl, inr}
use Rattle.ic_base.specs.declared.limits.TheConstants.{PACKETS}
use Rattle.std.proofs.lemmas.Option.{same_Some}
use Rattle.ic_base.specs.declared.messages.ComId.{ComId}
use Rattle.ic_base.specs.declared.messages.Output.{Output}
use Rattle.ic_base.specs.declared.events.What.{What}
use Rattle.ic_base.specs.declared.events.What.TheVariants.{Force, Checkpoint, Resend, Emit, Recover}
use Rattle.ic_base.specs.declared.scenario.Program.{Program}
use Rattle.def_state.specs.Shelf
use Rattle.def_step.specs.Replay.{behind_checkpoint}
use Rattle.def_step.specs.Pcom.{Pcom, all_of, forced_end, is_replaying, in_hand}
use Rattle.def_step.specs.World.{World, Node, Runs, Serves, Down, External, DiskOutcome, After, node_at, happens}
use Rattle.def_step.specs.Settle.{PolicyIntervals, is_down, pcom_of, has_due, buffered, is_missed, owes, has_in_hand, waits_at, lowest, soonest, oldest, delivery, or_else, next_event, reaches, pcom_policy, policy_for}
use Rattle.law_settle.specs.Measure.{CanSettle, AllCanSettle, without_stop, SettlingLowersWhatIsLeft}
use Rattle.law_settle.proofs.Finding.{found_lowest, found_soonest, none_soonest}
use Rattle.law_settle.proofs.Lowering.{Lowered, force-lowers, checkpoint-lowers, emit-lowers}
use Rattle.law_settle.proofs.Sending.{live_where, replay_resend_lowers, hand_resend_lowers, owed_resend_lowers, delivery_event_lowers, recovery_lowers}
use Rattle.law_replay.proofs.Lists.{true-false, none-some, front, back, unmapped, mapped}

-- what every case ends with
Goal : Program → World → What → Type 0
Goal program w what = (x : DiskOutcome) (a : After) → happens program w (without_stop what) x ≡ Some a → length a.world.packets ≤ PACKETS → Lowered w a

chosen : (o other : Option What) (y : What) → or_else o other ≡ Some y → (o ≡ Some y) ⊎ ((o ≡ None) × (other ≡ Some y))
chosen None other y e = inr (refl, e)
chosen (Some z) other y e = inl e

-- nodes that pass a test --------------------------------------------------------------------------

recover-case : (program : Program) (w : World) (what : What) → option_map Recover (lowest is_down w) ≡ Some what → Goal program w what
unfolding Goal
recover-case program w what e x a h short = go found.0 found.1 found.2
  where
    m : (c : ComId) × (lowest is_down w ≡ Some c) × (Recover c ≡ what)
    m = mapped Recover (lowest is_down w) what e

    found : (n : Node) × (node_at w m.0 ≡ Some n) × (is_down n ≡ true)
    found = found_lowest is_down w m.0 m.1

    go : (n : Node) → node_at w m.0 ≡ Some n → is_down n ≡ true → Lowered w a
    go (Down records) is down = recovery_lowers program w x m.0 records a is (subst (λ z. happens program w (without_stop z) x ≡ Some a) (sym m.2) h) short
    go (Runs p) is down = true-false down
    go (Serves t) is down = true-false down
    go External is down = true-false down

deliver-case : (program : Program) (w : World) (what : What) → option_map delivery (oldest w) ≡ Some what → Goal program w what
unfolding Goal
deliver-case program w what e x a h short =
    let m = mapped delivery (oldest w) what e in delivery_event_lowers program w x m.0 a m.1 (subst (λ z. happens program w (without_stop z) x ≡ Some a) (sym m.2) h) short

emit-case : (program : Program) (w : World) (what : What) → option_map Emit (lowest has_due w) ≡ Some what → Goal program w what
unfolding Goal
emit-case program w what e x a h short = go found.0 found.1 found.2
  where
    m : (c : ComId) × (lowest has_due w ≡ Some c) × (Emit c ≡ what)
    m = mapped Emit (lowest has_due w) what e

    found : (n : Node) × (node_at w m.0 ≡ Some n) × (has_due n ≡ true)
    found = found_lowest has_due w m.0 m.1

    unturned : (b : Bool) → not b ≡ true → b ≡ false
    unturned true f = true-false f
    unturned false f = refl

    due : (p : Pcom) (o : Option Output) → node_at w m.0 ≡ Some (Runs p) → is_replaying p ≡ false → Shelf.next_due p.vol.shelf (forced_end p) ≡ o → is_some o ≡ true → Lowered w a
    due p None is live has some = true-false some
    due p (Some o) is live has some = emit-lowers program w x m.0 p o a is live has (subst (λ z. happens program w (without_stop z) x ≡ Some a) (sym m.2) h) short

    go : (n : Node) → node_at w m.0 ≡ Some n → has_due n ≡ true → Lowered w a
    go (Runs p) is has =
        due p (Shelf.next_due p.vol.shelf (forced_end p)) is (unturned (is_replaying p) (front (not (is_replaying p)) (is_some (Shelf.next_due p.vol.shelf (forced_end p))) has)) refl (back (not (is_replaying p)) (is_some (Shelf.next_due p.vol.shelf (forced_end p))) has)
    go (Down records) is has = true-false has
    go (Serves t) is has = true-false has
    go External is has = true-false has

positive : (n : ℕ) → nat_lt 0 n ≡ true → 0 < n
positive n e = grind arith

force-case : (program : Program) (w : World) (what : What) → AllCanSettle w → option_map Force (lowest (λ n. nat_lt 0 (buffered n)) w) ≡ Some what → Goal program w what
unfolding Goal
force-case program w what can e x a h short = go found.0 found.1 found.2
  where
    m : (c : ComId) × (lowest (λ n. nat_lt 0 (buffered n)) w ≡ Some c) × (Force c ≡ what)
    m = mapped Force (lowest (λ n. nat_lt 0 (buffered n)) w) what e

    found : (n : Node) × (node_at w m.0 ≡ Some n) × (nat_lt 0 (buffered n) ≡ true)
    found = found_lowest (λ n. nat_lt 0 (buffered n)) w m.0 m.1

    live : (p : Pcom) (b : Bool) → CanSettle p → is_replaying p ≡ b → 0 < length p.log.buffered → is_replaying p ≡ false
    live p true z is some = absurd (omega (arith, ap length (z.replays_forced is), some))
    live p false z is some = is

    go : (n : Node) → node_at w m.0 ≡ Some n → nat_lt 0 (buffered n) ≡ true → Lowered w a
    go (Runs p) is has =
        let some : 0 < length p.log.buffered = positive (length p.log.buffered) has in
        force-lowers program w x m.0 p a is (live p (is_replaying p) (can m.0 p is) refl some) some (subst (λ z. happens program w (without_stop z) x ≡ Some a) (sym m.2) h) short
    go (Down records) is has = true-false has
    go (Serves t) is has = true-false has
    go External is has = true-false has

soonest-case : (program : Program) (w : World) (what : What) → option_map Resend (soonest w) ≡ Some what → Goal program w what
unfolding Goal
soonest-case program w what e x a h short = go found.0 found.1 found.2 found.3
  where
    m : (c : ComId) × (soonest w ≡ Some c) × (Resend c ≡ what)
    m = mapped Resend (soonest w) what e

    found : (n : Node) × (s : ℕ) × (node_at w m.0 ≡ Some n) × (waits_at n ≡ Some s)
    found = found_soonest w m.0 m.1

    go : (n : Node) (s : ℕ) → node_at w m.0 ≡ Some n → waits_at n ≡ Some s → Lowered w a
    go (Runs p) s is waits = replay_resend_lowers program w x m.0 p s a is waits (subst (λ z. happens program w (without_stop z) x ≡ Some a) (sym m.2) h) short
    go (Down records) s is waits = none-some s waits
    go (Serves t) s is waits = none-some s waits
    go External s is waits = none-some s waits

-- where none waits, none replays
all-live : (w : World) (c : ComId) (p : Pcom) → AllCanSettle w → soonest w ≡ None → node_at w c ≡ Some (Runs p) → is_replaying p ≡ false
all-live w c p can none is = live_where p.rest (can c p is).rest_waits (none_soonest w c (Runs p) none is)

hand-case : (program : Program) (w : World) (what : What) → AllCanSettle w → soonest w ≡ None → option_map Resend (lowest has_in_hand w) ≡ Some what → Goal program w what
unfolding Goal
hand-case program w what can none e x a h short = go found.0 found.1 found.2
  where
    m : (c : ComId) × (lowest has_in_hand w ≡ Some c) × (Resend c ≡ what)
    m = mapped Resend (lowest has_in_hand w) what e

    found : (n : Node) × (node_at w m.0 ≡ Some n) × (has_in_hand n ≡ true)
    found = found_lowest has_in_hand w m.0 m.1

    go : (n : Node) → node_at w m.0 ≡ Some n → has_in_hand n ≡ true → Lowered w a
    go (Runs p) is has = hand_resend_lowers program w x m.0 p a is (all-live w m.0 p can none is) (can m.0 p is).hand_open has (subst (λ z. happens program w (without_stop z) x ≡ Some a) (sym m.2) h) short
    go (Down records) is has = true-false has
    go (Serves t) is has = true-false has
    go External is has = true-false has

owed-case : (program : Program) (w : World) (what : What) → AllCanSettle w → soonest w ≡ None → option_map Resend (lowest (owes w) w) ≡ Some what → Goal program w what
unfolding Goal
owed-case program w what can none e x a h short = go found.0 found.1 found.2
  where
    m : (c : ComId) × (lowest (owes w) w ≡ Some c) × (Resend c ≡ what)
    m = mapped Resend (lowest (owes w) w) what e

    found : (n : Node) × (node_at w m.0 ≡ Some n) × (owes w n ≡ true)
    found = found_lowest (owes w) w m.0 m.1

    go : (n : Node) → node_at w m.0 ≡ Some n → owes w n ≡ true → Lowered w a
    go (Runs p) is has = owed_resend_lowers program w x m.0 p (is_missed w) a is (all-live w m.0 p can none is) has (subst (λ z. happens program w (without_stop z) x ≡ Some a) (sym m.2) h) short
    go (Down records) is has = true-false has
    go (Serves t) is has = true-false has
    go External is has = true-false has

-- the order of settling ---------------------------------------------------------------------------

next-case : (program : Program) (w : World) (what : What) → AllCanSettle w → next_event w ≡ Some what → Goal program w what
next-case program w what can e = first (chosen (option_map Recover (lowest is_down w)) _ what e)
  where
    owed : (option_map Resend (lowest has_in_hand w) ≡ Some what) ⊎ ((option_map Resend (lowest has_in_hand w) ≡ None) × (option_map Resend (lowest (owes w) w) ≡ Some what)) → soonest w ≡ None → Goal program w what
    owed (inl f) none = hand-case program w what can none f
    owed (inr f) none = owed-case program w what can none f.1

    hand : (option_map Resend (soonest w) ≡ Some what) ⊎ ((option_map Resend (soonest w) ≡ None) × (or_else (option_map Resend (lowest has_in_hand w)) (option_map Resend (lowest (owes w) w)) ≡ Some what)) → Goal program w what
    hand (inl f) = soonest-case program w what f
    hand (inr f) = owed (chosen (option_map Resend (lowest has_in_hand w)) (option_map Resend (lowest (owes w) w)) what f.1) (unmapped Resend (soonest w) f.0)

    forces : (option_map Force (lowest (λ n. nat_lt 0 (buffered n)) w) ≡ Some what) ⊎ ((option_map Force (lowest (λ n. nat_lt 0 (buffered n)) w) ≡ None) × (or_else (option_map Resend (soonest w)) (or_else (option_map Resend (lowest has_in_hand w)) (option_map Resend (lowest (owes w) w))) ≡ Some what)) → Goal program w what
    forces (inl f) = force-case program w what can f
    forces (inr f) = hand (chosen (option_map Resend (soonest w)) (or_else (option_map Resend (lowest has_in_hand w)) (option_map Resend (lowest (owes w) w))) what f.1)

    emits : (option_map Emit (lowest has_due w) ≡ Some what) ⊎ ((option_map Emit (lowest has_due w) ≡ None) × (or_else (option_map Force (lowest (λ n. nat_lt 0 (buffered n)) w)) (or_else (option_map Resend (soonest w)) (or_else (option_map Resend (lowest has_in_hand w)) (option_map Resend (lowest (owes w) w)))) ≡ Some what)) → Goal program w what
    emits (inl f) = emit-case program w what f
    emits (inr f) = forces (chosen (option_map Force (lowest (λ n. nat_lt 0 (buffered n)) w)) (or_else (option_map Resend (soonest w)) (or_else (option_map Resend (lowest has_in_hand w)) (option_map Resend (lowest (owes w) w)))) what f.1)

    delivers : (option_map delivery (oldest w) ≡ Some what) ⊎ ((option_map delivery (oldest w) ≡ None) × (or_else (option_map Emit (lowest has_due w)) (or_else (option_map Force (lowest (λ n. nat_lt 0 (buffered n)) w)) (or_else (option_map Resend (soonest w)) (or_else (option_map Resend (lowest has_in_hand w)) (option_map Resend (lowest (owes w) w))))) ≡ Some what)) → Goal program w what
    delivers (inl f) = deliver-case program w what f
    delivers (inr f) = emits (chosen (option_map Emit (lowest has_due w)) (or_else (option_map Force (lowest (λ n. nat_lt 0 (buffered n)) w)) (or_else (option_map Resend (soonest w)) (or_else (option_map Resend (lowest has_in_hand w)) (option_map Resend (lowest (owes w) w))))) what f.1)

    first : (option_map Recover (lowest is_down w) ≡ Some what) ⊎ ((option_map Recover (lowest is_down w) ≡ None) × (or_else (option_map delivery (oldest w)) (or_else (option_map Emit (lowest has_due w)) (or_else (option_map Force (lowest (λ n. nat_lt 0 (buffered n)) w)) (or_else (option_map Resend (soonest w)) (or_else (option_map Resend (lowest has_in_hand w)) (option_map Resend (lowest (owes w) w)))))) ≡ Some what)) → Goal program w what
    first (inl f) = recover-case program w what f
    first (inr f) = delivers (chosen (option_map delivery (oldest w)) (or_else (option_map Emit (lowest has_due w)) (or_else (option_map Force (lowest (λ n. nat_lt 0 (buffered n)) w)) (or_else (option_map Resend (soonest w)) (or_else (option_map Resend (lowest has_in_hand w)) (option_map Resend (lowest (owes w) w)))))) what f.1)

-- policy ------------------------------------------------------------------------------------------

reached : (every count : ℕ) → reaches every count ≡ true → 0 < count
reached every count e = omega (arith, positive every (front (nat_lt 0 every) (nat_le every count) e), below (back (nat_lt 0 every) (nat_le every count) e))
  where
    below : nat_le every count ≡ true → every ≤ count
    below h = grind arith

pcom-case : (program : Program) (w : World) (intervals : PolicyIntervals) (c : ComId) (p : Pcom) (what : What) → node_at w c ≡ Some (Runs p) → pcom_policy intervals c p ≡ Some what → Goal program w what
unfolding Goal
pcom-case program w intervals c p what is e x a h short = replay (is_replaying p) refl e
  where
    images : (free : Bool) → in_hand p ≡ free → (b : Bool) → reaches intervals.checkpoint_every (length (behind_checkpoint (all_of p.log))) ≡ b → is_replaying p ≡ false → cond (not free && b) (Some (Checkpoint c)) None ≡ Some what → Lowered w a
    images true hand b has live f = none-some what f
    images false hand false has live f = none-some what f
    images false hand true has live f =
        checkpoint-lowers program w x c p a is live hand (reached intervals.checkpoint_every (length (behind_checkpoint (all_of p.log))) has)
        (subst (λ z. happens program w (without_stop z) x ≡ Some a) (sym (same_Some (Checkpoint c) what f)) h) short

    forced : (b : Bool) → reaches intervals.force_every (length p.log.buffered) ≡ b → is_replaying p ≡ false
        → cond b (Some (Force c)) (cond (not (in_hand p) && reaches intervals.checkpoint_every (length (behind_checkpoint (all_of p.log)))) (Some (Checkpoint c)) None) ≡ Some what → Lowered w a
    forced true has live f = force-lowers program w x c p a is live (reached intervals.force_every (length p.log.buffered) has) (subst (λ z. happens program w (without_stop z) x ≡ Some a) (sym (same_Some (Force c) what f)) h) short
    forced false has live f = images (in_hand p) refl (reaches intervals.checkpoint_every (length (behind_checkpoint (all_of p.log)))) refl live f

    replay : (b : Bool) → is_replaying p ≡ b
        → cond b None (cond (reaches intervals.force_every (length p.log.buffered)) (Some (Force c)) (cond (not (in_hand p) && reaches intervals.checkpoint_every (length (behind_checkpoint (all_of p.log)))) (Some (Checkpoint c)) None)) ≡ Some what → Lowered w a
    replay true live f = none-some what f
    replay false live f = forced (reaches intervals.force_every (length p.log.buffered)) refl live f

policy-case : (program : Program) (w : World) (intervals : PolicyIntervals) (last : Option ComId) (what : What) → policy_for w intervals last ≡ Some what → Goal program w what
policy-case program w intervals None what e = none-some what e
policy-case program w intervals (Some c) what e = at (node_at w c) refl e
  where
    at : (o : Option Node) → node_at w c ≡ o → option_and_then (pcom_policy intervals c) (option_and_then pcom_of o) ≡ Some what → Goal program w what
    at None is f = none-some what f
    at (Some (Runs p)) is f = pcom-case program w intervals c p what is f
    at (Some (Down records)) is f = none-some what f
    at (Some (Serves t)) is f = none-some what f
    at (Some External) is f = none-some what f

pub settling_lowers : SettlingLowersWhatIsLeft
unfolding Goal
settling_lowers program w intervals last what x a can e h short = at (chosen (policy_for w intervals last) (next_event w) what e)
  where
    at : (policy_for w intervals last ≡ Some what) ⊎ ((policy_for w intervals last ≡ None) × (next_event w ≡ Some what)) → Lowered w a
    at (inl f) = policy-case program w intervals last what f x a h short
    at (inr f) = next-case program w what can f.1 x a h short
