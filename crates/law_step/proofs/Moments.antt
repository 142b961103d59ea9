-- What the disks may leave at a moment of a step is sound together.
use Rattle.std.proofs.Common.{◌≡◌, refl, ◌∙◌, ap, sym, ℕ, ◌==◌, false, List, Option, Some, None, option_map, option_and_then, ◌⊎◌, inl, inr, ⊎_elim, arith}
use Rattle.std.proofs.lemmas.Option.{same_Some}
use Rattle.ic_base.specs.declared.messages.ComId.{ComId}
use Rattle.ic_base.specs.declared.messages.Packet.{Packet}
use Rattle.ic_base.specs.declared.events.Answer.TheVariants as answers
use Rattle.ic_base.specs.declared.events.Event.{Event}
use Rattle.ic_base.specs.declared.events.What.{What}
use Rattle.ic_base.specs.declared.events.What.TheVariants.{Input, Deliver, Lose, Packet as Numbered, Force, Checkpoint, Resend, Emit, Crash, Recover}
use Rattle.ic_base.specs.declared.scenario.Program.{Program}
use Rattle.ic_base.specs.declared.record.Record.{Record}
use Rattle.ic_base.specs.Programs.{same_com}
use Rattle.def_step.specs.Calls.{call_of, delivery_of}
use Rattle.def_step.specs.Packets.{receiver_of}
use Rattle.def_step.specs.Pcom.{Call, Gives, Gets, Forces, Checkpoints, Resends, Emits}
use Rattle.def_step.specs.Settle.{asked_of}
use Rattle.def_step.specs.World.{World, DiskOutcome, Done, After, node_at, packet_at, oldest_of, takes_off, behind, unchanged, does_or_stops, calls, crashes, recovers, delivers, delivers_oldest, loses, loses_oldest, happens, happens_as}
use Rattle.def_run.specs.SystemStates.{is_com, without_stop}
use Rattle.def_facts.specs.Logs.{log_at}
use Rattle.def_facts.specs.Sound.{AreSound}
use Rattle.def_facts.specs.World.{IsExplained, forced_of, forced_logs}
use Rattle.law_replay.proofs.Lists.{mapped, same-com}
use Rattle.law_sound.proofs.Explained.{cut-sound}
use Rattle.law_step.specs.Steps.{here_behind}
use Rattle.law_step.specs.Moments.{MomentsAreSound}
use Rattle.law_step.proofs.Events.{events_keep_explained}
use Rattle.law_step.proofs.Nodes.{each-com, log-other}

-- the component that acts in an event
abbrev pub actor : World → What → Option ComId
actor w (Crash c) = Some c
actor w (Recover c) = Some c
actor w what = option_map (λ x. x.who) (call_of w what)

-- the forced records of all other components stay
abbrev pub OthersStay : Option ComId → World → World → Type 0
OthersStay o w v = (e : ComId) → is_com e o ≡ false → log_at (forced_logs v) e ≡ log_at (forced_logs w) e

none-changes : (o : Option ComId) (w v : World) → w ≡ v → OthersStay o w v
none-changes o w v e d apart = ap (λ u. log_at (forced_logs u) d) (sym e)

pub turned : (c d : ComId) → same_com c d ≡ false → same_com d c ≡ false
turned c d e = numbers c.0 d.0 e
  where
    numbers : (m n : ℕ) → (m == n) ≡ false → (n == m) ≡ false
    numbers m n f = grind arith

set-others : (w : World) (e : Event) (c : ComId) (d : Done) (a : After) → behind w e c d ≡ a → OthersStay (Some c) w a.world
set-others w e c d a same f apart = ap (λ (v : After). log_at (forced_logs v.world) f) (sym same) ∙ log-other forced_of w c f d (turned f c apart)

call-others : (program : Program) (w : World) (e : Event) (x : DiskOutcome) (c : ComId) (number : ℕ) (k : Call) (a : After) → calls program w e x c number k ≡ Some a → OthersStay (Some c) w a.world
call-others program w e x c number k a ran =
    let d = mapped (behind w e c) (option_and_then (λ node. does_or_stops program c node e.stop x number k) (node_at w c)) a ran in set-others w e c d.0 a d.2

pub others_stay : (program : Program) (w : World) (e : Event) (x : DiskOutcome) (a : After) → happens program w e x ≡ Some a → OthersStay (actor w e.what) w a.world
others_stay program w e x a ran = by e.what ran
  where
    delivered : (i : ℕ) (o : Option Packet) → delivers program w e x i o ≡ Some a → OthersStay (option_map (λ x. x.who) (option_map delivery_of o)) w a.world
    delivered i None went = none-changes None w a.world (ap (λ (v : After). v.world) (same_Some (unchanged w e answers.Unknown) a went))
    delivered i (Some p) went = call-others program (takes_off w i) e x (receiver_of p) i (Gets p) a went

    by : (what : What) → happens_as program w e x what ≡ Some a → OthersStay (actor w what) w a.world
    by (Input c handler args) went = call-others program w e x c 0 (Gives handler args) a went
    by (Force c) went = call-others program w e x c 0 Forces a went
    by (Checkpoint c) went = call-others program w e x c 0 Checkpoints a went
    by (Resend c) went = call-others program w e x c 0 Resends a went
    by (Emit c) went = call-others program w e x c 0 Emits a went
    by (Numbered i) went = delivered i (packet_at w i) went
    by (Deliver from to) went = oldest (oldest_of w from to) went
      where
        oldest : (o : Option ℕ) → delivers_oldest program w e x o ≡ Some a → OthersStay (option_map (λ x. x.who) (option_map delivery_of (option_and_then (packet_at w) o))) w a.world
        oldest None k = none-changes None w a.world (ap (λ (v : After). v.world) (same_Some (unchanged w e answers.Empty) a k))
        oldest (Some i) k = delivered i (packet_at w i) k
    by (Lose from to) went = lost (oldest_of w from to) (same_Some (loses_oldest w e (oldest_of w from to)) a went)
      where
        gone : (i : ℕ) (o : Option Packet) → loses w e i o ≡ a → OthersStay None w a.world
        gone i None k = none-changes None w a.world (ap (λ (v : After). v.world) k)
        gone i (Some p) k = none-changes None (takes_off w i) a.world (ap (λ (v : After). v.world) k)

        lost : (o : Option ℕ) → loses_oldest w e o ≡ a → OthersStay None w a.world
        lost None k = none-changes None w a.world (ap (λ (v : After). v.world) k)
        lost (Some i) k = gone i (packet_at w i) k
    by (Crash c) went = let n = mapped (λ node. behind w e c (crashes node)) (node_at w c) a went in set-others w e c (crashes n.0) a n.2
    by (Recover c) went = let d = mapped (behind w e c) (option_and_then (recovers program c e.stop x) (node_at w c)) a went in set-others w e c d.0 a d.2

-- without a stop it doesn't matter what a stop leaves
abbrev pub leaving : DiskOutcome → List Record → DiskOutcome
leaving x log = record { found = x.found; size = x.size; free = x.free; left = log; is_open = x.is_open }

left-unused : (program : Program) (w : World) (x : DiskOutcome) (log : List Record) (what : What) → happens program w (without_stop what) x ≡ happens program w (without_stop what) (leaving x log)
left-unused program w x log (Input c handler args) = refl
left-unused program w x log (Deliver from to) = refl
left-unused program w x log (Lose from to) = refl
left-unused program w x log (Numbered i) = refl
left-unused program w x log (Force c) = refl
left-unused program w x log (Checkpoint c) = refl
left-unused program w x log (Resend c) = refl
left-unused program w x log (Emit c) = refl
left-unused program w x log (Crash c) = refl
left-unused program w x log (Recover c) = refl

pub moments_are_sound : MomentsAreSound
moments_are_sound program found here w what x a good flat event within loads images ran f logs left = at (asked_of what a.trace.answer) refl
  where
    -- the logs are all those before the step, or all those behind it
    sound : IsExplained program found (here_behind here w a.world) a.world → AreSound program logs
    sound g = of (actor w what) (others_stay program w (without_stop what) x a ran)
      where
        all-before : ((e : ComId) → log_at logs e ≡ log_at (forced_logs w) e) → AreSound program logs
        all-before k = cut-sound program found here w f.0 f.1 logs (left.one_each ∙ sym f.1.logs.one_each.1, λ e. inl (k e))

        of : (o : Option ComId) → OthersStay o w a.world → AreSound program logs
        of None stay = all-before (λ e. ⊎_elim (λ k. k) (λ k. k ∙ stay e refl) (left.each e))
        of (Some who) stay = by (left.each who)
          where
            others : (v : World) → ((e : ComId) → same_com who e ≡ false → log_at logs e ≡ log_at (forced_logs v) e) → log_at logs who ≡ log_at (forced_logs v) who → (e : ComId) → log_at logs e ≡ log_at (forced_logs v) e
            others v rest this = each-com who (λ e. log_at logs e ≡ log_at (forced_logs v) e) this rest

            before : (e : ComId) → same_com who e ≡ false → log_at logs e ≡ log_at (forced_logs w) e
            before e apart = ⊎_elim (λ k. k) (λ k. k ∙ stay e (turned who e apart)) (left.each e)

            by : (log_at logs who ≡ log_at (forced_logs w) who) ⊎ (log_at logs who ≡ log_at (forced_logs a.world) who) → AreSound program logs
            by (inl k) = all-before (others w before k)
            by (inr k) = cut-sound program found (here_behind here w a.world) a.world g.0 g.1 logs (left.one_each ∙ sym g.1.logs.one_each.1, λ e. inl (others a.world (λ d apart. before d apart ∙ sym (stay d (turned who d apart))) k e))

    at : (o : Option ComId) → asked_of what a.trace.answer ≡ o → AreSound program logs
    at None asked = sound (events_keep_explained program found here w (without_stop what) x a good flat event within (λ c is. absurd (cc (is, asked))) images ran f)
    at (Some who) asked =
        let y = leaving x (log_at (forced_logs w) who) in
        sound (events_keep_explained program found here w (without_stop what) y a good flat event within
        (λ c is. record {
          found = λ log down. loads c log is down;
          left = λ t. inl (ap (log_at (forced_logs w)) (sym (same-com c who (sym (ap (is_com c) asked) ∙ is))));
        }) images (sym (left-unused program w x (log_at (forced_logs w) who) what) ∙ ran) f)
