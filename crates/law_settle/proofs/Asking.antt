-- What settles is asked of components that have a disk.
use Rattle.std.proofs.Common.{◌≡◌, refl, subst, ℕ, nat_lt, Bool, true, false, cond, not, ◌&&◌, length, Option, Some, None, option_map, option_and_then}
use Rattle.std.specs.Prelude.{⊤, MatchOption}
use Rattle.std.proofs.lemmas.Option.{same_Some}
use Rattle.ic_base.specs.declared.messages.ComId.{ComId}
use Rattle.ic_base.specs.declared.messages.Packet.{Packet}
use Rattle.ic_base.specs.declared.events.Answer.TheVariants as answers
use Rattle.ic_base.specs.declared.events.What.{What}
use Rattle.ic_base.specs.declared.events.What.TheVariants.{Force, Checkpoint, Resend, Emit, Recover}
use Rattle.ic_base.specs.declared.scenario.Program.{Program}
use Rattle.def_step.specs.Packets.{receiver_of}
use Rattle.def_step.specs.Replay.{behind_checkpoint}
use Rattle.def_step.specs.Pcom.{Pcom, all_of, is_replaying, in_hand}
use Rattle.def_step.specs.Settle.{PolicyIntervals, is_down, pcom_of, has_in_hand, has_due, buffered, waits_at, owes, lowest, soonest, delivery, oldest, or_else, next_event, reaches, pcom_policy, asked_of, policy_for, settling_event}
use Rattle.def_step.specs.World.{World, Node, Runs, Serves, Down, External, node_at}
use Rattle.law_settle.specs.Kept.{HasDisk, IsWorldPutToKept, HaveDisks, SettlesAtKept}
use Rattle.law_settle.proofs.Finding.{found_lowest, found_soonest}
use Rattle.law_settle.proofs.Reaching.{oldest_goes_to_kept}
use Rattle.law_replay.proofs.Lists.{none-some}

module _ (program : Program) where
  abbrev AtKept : What → Type 0
  AtKept what = (c : ComId) → asked_of what answers.Idle ≡ Some c → HasDisk program c

  abbrev AllAtKept : Option What → Type 0
  AllAtKept o = MatchOption o ⊤ AtKept

  or-kept : (o other : Option What) → AllAtKept o → AllAtKept other → AllAtKept (or_else o other)
  or-kept None other x y = y
  or-kept (Some what) other x y = x

  mapped-kept : (f : ComId → What) → ((c : ComId) → asked_of (f c) answers.Idle ≡ Some c) → (o : Option ComId) → ((c : ComId) → o ≡ Some c → HasDisk program c) → AllAtKept (option_map f o)
  mapped-kept f asks None h = tt
  mapped-kept f asks (Some c) h = λ d e. subst (HasDisk program) (same d e) (h c refl)
    where
      same : (d : ComId) → asked_of (f c) answers.Idle ≡ Some d → c ≡ d
      same d e = same_Some c d (subst (λ o. o ≡ Some d) (asks c) e)

  module _ (w : World) (disks : HaveDisks program w) where
    -- no test that finds a component finds an Xcom
    lowest-kept : (test : Node → Bool) → test External ≡ false → (c : ComId) → lowest test w ≡ Some c → HasDisk program c
    lowest-kept test out c e = let f = found_lowest test w c e in by f.0 f.1 f.2
      where
        by : (n : Node) → node_at w c ≡ Some n → test n ≡ true → HasDisk program c
        by (Runs p) is h = disks c (Runs p) is
        by (Serves t) is h = disks c (Serves t) is
        by (Down records) is h = disks c (Down records) is
        by External is h = absurd (cc (out, h))

    soonest-kept : (c : ComId) → soonest w ≡ Some c → HasDisk program c
    soonest-kept c e = let f = found_soonest w c e in by f.0 f.1 f.2 f.3
      where
        by : (n : Node) (s : ℕ) → node_at w c ≡ Some n → waits_at n ≡ Some s → HasDisk program c
        by (Runs p) s is h = disks c (Runs p) is
        by (Serves t) s is h = disks c (Serves t) is
        by (Down records) s is h = disks c (Down records) is
        by External s is h = none-some s h

    oldest-kept : IsWorldPutToKept program w → AllAtKept (option_map delivery (oldest w))
    oldest-kept kept = at (oldest w) refl
      where
        at : (o : Option Packet) → oldest w ≡ o → AllAtKept (option_map delivery o)
        at None e = tt
        at (Some p) e = λ c f. subst (HasDisk program) (same_Some (receiver_of p) c f) (oldest_goes_to_kept program w p kept e)

    next-kept : IsWorldPutToKept program w → AllAtKept (next_event w)
    next-kept kept =
        or-kept (option_map Recover (lowest is_down w)) _ (mapped-kept Recover (λ c. refl) (lowest is_down w) (lowest-kept is_down refl))
        (or-kept (option_map delivery (oldest w)) _ (oldest-kept kept)
        (or-kept (option_map Emit (lowest has_due w)) _ (mapped-kept Emit (λ c. refl) (lowest has_due w) (lowest-kept has_due refl))
        (or-kept (option_map Force (lowest (λ n. nat_lt 0 (buffered n)) w)) _ (mapped-kept Force (λ c. refl) (lowest (λ n. nat_lt 0 (buffered n)) w) (lowest-kept (λ n. nat_lt 0 (buffered n)) refl))
        (or-kept (option_map Resend (soonest w)) _ (mapped-kept Resend (λ c. refl) (soonest w) soonest-kept)
        (or-kept (option_map Resend (lowest has_in_hand w)) _ (mapped-kept Resend (λ c. refl) (lowest has_in_hand w) (lowest-kept has_in_hand refl))
        (mapped-kept Resend (λ c. refl) (lowest (owes w) w) (lowest-kept (owes w) refl)))))))

    policy-kept : (x : PolicyIntervals) (last : Option ComId) → AllAtKept (policy_for w x last)
    policy-kept x None = tt
    policy-kept x (Some c) = by (node_at w c) refl
      where
        own : (p : Pcom) → node_at w c ≡ Some (Runs p) → (d : ComId) → ◌≡◌ {A = Option ComId} (Some c) (Some d) → HasDisk program d
        own p is d e = subst (HasDisk program) (same_Some c d e) (disks c (Runs p) is)

        asks : (p : Pcom) → node_at w c ≡ Some (Runs p) → (replays forces images : Bool) → AllAtKept (cond replays None (cond forces (Some (Force c)) (cond images (Some (Checkpoint c)) None)))
        asks p is true forces images = tt
        asks p is false true images = own p is
        asks p is false false true = own p is
        asks p is false false false = tt

        by : (o : Option Node) → node_at w c ≡ o → AllAtKept (option_and_then (pcom_policy x c) (option_and_then pcom_of o))
        by None is = tt
        by (Some (Runs p)) is = asks p is (is_replaying p) (reaches x.force_every (length p.log.buffered)) (not (in_hand p) && reaches x.checkpoint_every (length (behind_checkpoint (all_of p.log))))
        by (Some (Serves t)) is = tt
        by (Some (Down records)) is = tt
        by (Some External) is = tt

pub settles_at_kept : SettlesAtKept
settles_at_kept program w x last what kept disks e = at (settling_event w x last) (or-kept program (policy_for w x last) (next_event w) (policy-kept program w disks x last) (next-kept program w disks kept)) e
  where
    at : (o : Option What) → AllAtKept program o → o ≡ Some what → (c : ComId) → asked_of what answers.Idle ≡ Some c → HasDisk program c
    at None h f c g = none-some what f
    at (Some z) h f c g = h c (subst (λ y. asked_of y answers.Idle ≡ Some c) (same_Some what z (flip f)) g)
      where
        flip : ◌≡◌ {A = Option What} (Some z) (Some what) → ◌≡◌ {A = Option What} (Some what) (Some z)
        flip k = cc k
