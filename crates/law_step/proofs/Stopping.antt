-- What a stop that is reached leaves: the log before the step, or the one behind it, as the byte of the gate tells.
use Rattle.std.proofs.Common.{◌≡◌, refl, ◌∙◌, ap, sym, subst, ℕ, ◌<◌, nat_le, Bool, true, false, cond, List, [], ◌++◌, drop, length, slice_get, Option, Some, None, option_map, option_and_then, ◌⊎◌, inl, inr, ⊎_elim}
use Rattle.std.proofs.lemmas.Bool.{and_parts}
use Rattle.std.proofs.lemmas.List.{drop_at}
use Rattle.std.proofs.lemmas.Option.{same_Some}
use Rattle.ic_base.specs.declared.messages.ComId.{ComId}
use Rattle.ic_base.specs.declared.messages.Packet.{Packet}
use Rattle.ic_base.specs.declared.events.Answer.{Answer}
use Rattle.ic_base.specs.declared.events.Answer.TheVariants as answers
use Rattle.ic_base.specs.declared.events.Event.{Event}
use Rattle.ic_base.specs.declared.events.Stop.{Stop}
use Rattle.ic_base.specs.declared.events.What.{What}
use Rattle.ic_base.specs.declared.events.What.TheVariants.{Input, Deliver, Lose, Packet as Numbered, Force, Checkpoint, Resend, Emit, Crash, Recover}
use Rattle.ic_base.specs.declared.scenario.Program.{Program}
use Rattle.ic_base.specs.declared.record.Record.{Record}
use Rattle.ic_base.specs.Programs.{same_com}
use Rattle.def_step.specs.Packets.{sender_of, receiver_of}
use Rattle.def_step.specs.Pcom.{Call, Gives, Gets, Forces, Checkpoints, Resends, Emits}
use Rattle.def_step.specs.Settle.{asked_of}
use Rattle.def_step.specs.World.{World, Node, Runs, Serves, Down, External, Done, DiskOutcome, After, node_at, packet_at, oldest_of, goes, takes_off, behind, unchanged, just, does, does_or_stops, answer_stopped, device_calls, is_reached, cut_off, calls, crashes, comes_up, recovers, delivers, delivers_oldest, loses, loses_oldest, happens, happens_as, load_calls}
use Rattle.def_run.specs.SystemStates.{is_of, is_com, without_stop}
use Rattle.def_run.specs.CoreSteps.{is_stopped, loads_first, would_force}
use Rattle.def_run.specs.CoreSteps.{forced_of as on_disk}
use Rattle.def_facts.specs.World.{forced_of}
use Rattle.law_replay.proofs.Lists.{none-some, mapped, same-com, self-com}
use Rattle.law_replay.proofs.Members.{found as there-is}
use Rattle.law_step.specs.Steps.{LeavesOne, LeavesByGate}
use Rattle.law_syntax.specs.Events.{IsCounted}
use Rattle.law_step.proofs.Nodes.{log-here, node-same}
use Rattle.law_step.proofs.Tearing.{IsOnDisk, Goes, does-cuts, up-cuts}

-- what the disk of the event's component has: a load reads its log; within a load a stop leaves that log, and behind it that log or,
-- with the gate's byte at 1, the one with all that the step would force
pub record Torn (program : Program) (w : World) (e : Event) (x : DiskOutcome) (c : ComId) : Type 0 where
  pub loaded : (log : List Record) → node_at w c ≡ Some (Down log) → x.found ≡ log
  pub early : (stop : Stop) → e.stop ≡ Some stop → IsOnDisk (node_at w c) → nat_le stop.call (loads_first program c (node_at w c)) ≡ true → (x.is_open ≡ false) × (x.left ≡ on_disk (node_at w c))
  pub late : (stop : Stop) → e.stop ≡ Some stop → IsOnDisk (node_at w c) → 0 < length (would_force program w e.what x c) → ((x.is_open ≡ false) × (x.left ≡ on_disk (node_at w c))) ⊎ ((x.is_open ≡ true) × (x.left ≡ on_disk (node_at w c) ++ would_force program w e.what x c))

node-disk : (node : Node) → on_disk (Some node) ≡ forced_of node
node-disk (Runs p) = refl
node-disk (Serves t) = refl
node-disk (Down log) = refl
node-disk External = refl

disk-is : (w : World) (c : ComId) (node : Node) → node_at w c ≡ Some node → on_disk (node_at w c) ≡ forced_of node
disk-is w c node is = ap on_disk is ∙ node-disk node

true-false : (b : Bool) → b ≡ true → b ≡ false → ⊥
true-false b e f = cc (e, f)

-- as the gate tells it is one of the two
pub leaves-either : (program : Program) (w : World) (e : Event) (x : DiskOutcome) (c : ComId) → LeavesByGate program w e x c → LeavesOne program w e x c
leaves-either program w e x c left = ⊎_elim (λ y. inl y.1) (λ y. inr y.1) left

-- a step that a stop cuts
leaves-one : (program : Program) (w : World) (e : Event) (x : DiskOutcome) (c : ComId) (node : Node) (d : Done) (stop : Stop) (b : After) → Torn program w e x c → e.stop ≡ Some stop → 0 < stop.call → node_at w c ≡ Some node → Goes program c node d → nat_le stop.call (device_calls x.free node d.node) ≡ true →
    happens program w (without_stop e.what) x ≡ Some b → node_at b.world c ≡ Some d.node → LeavesByGate program w e x c
leaves-one program w e x c node d stop b torn stops pos is went reached alone now = let cut = went.cuts x.free stop.call pos reached in let on = subst IsOnDisk (sym is) cut.0 in ⊎_elim
    (λ k. let y = torn.early stop stops on (ap (λ o. nat_le stop.call (loads_first program c o)) is ∙ k) in inl (y.0, y.1 ∙ disk-is w c node is ∙ sym (log-here forced_of w c node is)))
    (λ y.
    let added : List Record = y.0 in
    let old = disk-is w c node is in
    let would : would_force program w e.what x c ≡ added =
    ap (λ o. elim o [ None ↦ [] | Some a ↦ drop (length (on_disk (node_at w c))) (on_disk (node_at a.world c)) ]) alone
    ∙ ap (drop (length (on_disk (node_at w c)))) (disk-is b.world c d.node now ∙ y.1)
    ∙ ap (λ l. drop (length l) (forced_of node ++ added)) old
    ∙ drop_at (forced_of node) added (length (forced_of node)) refl in
    ⊎_elim
    (λ k. inl (k.0, k.1 ∙ old ∙ sym (log-here forced_of w c node is)))
    (λ k. inr (k.0, (b, alone, k.1 ∙ ap (λ l. l ++ would_force program w e.what x c) old ∙ ap (λ l. forced_of node ++ l) would ∙ sym y.1 ∙ sym (log-here forced_of b.world c d.node now))))
    (torn.late stop stops on (subst (λ l. 0 < length l) (sym would) y.2)))
    cut.1

-- where the answer tells of a stop, one was reached
reaching : (stop : Option Stop) (x : DiskOutcome) (node : Node) (answer : Answer) (d later : Done) → IsCounted stop → is_stopped d.answer ≡ false → is_stopped later.answer ≡ true → cut_off stop x node answer d ≡ later → (s : Stop) × (stop ≡ Some s) × (0 < s.call) × (nat_le s.call (device_calls x.free node d.node) ≡ true) × (later.answer ≡ answer)
reaching None x node answer d later counted goes_on stopped e = absurd (true-false (is_stopped later.answer) stopped (ap (λ (z : Done). is_stopped z.answer) (sym e) ∙ goes_on))
reaching (Some s) x node answer d later counted goes_on stopped e = at (nat_le s.call (device_calls x.free node d.node)) refl e
  where
    at : (b : Bool) → nat_le s.call (device_calls x.free node d.node) ≡ b → cond b (just (Down x.left) answer) d ≡ later → (r : Stop) × (Some s ≡ Some r) × (0 < r.call) × (nat_le r.call (device_calls x.free node d.node) ≡ true) × (later.answer ≡ answer)
    at true is k = (s, refl, counted, is, ap (λ (z : Done). z.answer) (sym k))
    at false is k = absurd (true-false (is_stopped later.answer) stopped (ap (λ (z : Done). is_stopped z.answer) (sym k) ∙ goes_on))

pub stops-leave : (program : Program) (w : World) (e : Event) (x : DiskOutcome) (a : After) → IsCounted e.stop → ((c : ComId) → is_of e a.trace c ≡ true → Torn program w e x c) → happens program w e x ≡ Some a → (c : ComId) → is_of e a.trace c ≡ true → is_stopped a.trace.answer ≡ true → LeavesByGate program w e x c
stops-leave program w e x a counted torn ran c is stopped = by e.what refl ran
  where
    -- the component that the event asks for
    mine : (f : ComId) → asked_of e.what a.trace.answer ≡ Some f → LeavesByGate program w e x f → LeavesByGate program w e x c
    mine f asked y = subst (LeavesByGate program w e x) (sym (same-com c f (sym (ap (is_com c) asked) ∙ is))) y

    torn-of : (f : ComId) → asked_of e.what a.trace.answer ≡ Some f → Torn program w e x f
    torn-of f asked = torn f (ap (is_com f) asked ∙ self-com f)

    call : (u : World) (f : ComId) (number : ℕ) (k : Call) → u.nodes ≡ w.nodes → (a.trace.answer ≡ answer_stopped number x.is_open k → asked_of e.what a.trace.answer ≡ Some f) →
        ((b : After) → calls program u (without_stop e.what) x f number k ≡ Some b → happens program w (without_stop e.what) x ≡ Some b) → calls program u e x f number k ≡ Some a → LeavesByGate program w e x c
    call u f number k nodes owner alone went =
        let d = mapped (behind u e f) (option_and_then (λ node. does_or_stops program f node e.stop x number k) (node_at u f)) a went in
        at (node_at u f) refl d.0 d.1 d.2
      where
        at : (o : Option Node) → node_at u f ≡ o → (d : Done) → option_and_then (λ node. does_or_stops program f node e.stop x number k) o ≡ Some d → behind u e f d ≡ a → LeavesByGate program w e x c
        at None there d g same = none-some d g
        at (Some node) there d g same =
            let z = mapped (cut_off e.stop x node (answer_stopped number x.is_open k)) (does program f node number k) d g in
            let goes_on = does-cuts program f node number k z.0 z.1 in
            let r = reaching e.stop x node (answer_stopped number x.is_open k) z.0 d counted goes_on.answer (ap (λ (v : After). is_stopped v.trace.answer) same ∙ stopped) z.2 in
            let asked = owner (ap (λ (v : After). v.trace.answer) (sym same) ∙ r.4) in
            let b : After = behind u (without_stop e.what) f z.0 in
            mine f asked (leaves-one program w e x f node z.0 r.0 b (torn-of f asked) r.1 r.2 (ap (λ l. slice_get l f.0) (sym nodes) ∙ there) goes_on r.3
            (alone b (ap (λ o. option_map (behind u (without_stop e.what) f) (option_and_then (λ n. does_or_stops program f n None x number k) o)) there
            ∙ ap (λ o. option_map (behind u (without_stop e.what) f) (option_map (cut_off None x node (answer_stopped number x.is_open k)) o)) z.1))
            (node-same u f z.0 node there))

    plain : (what : What) (f : ComId) (k : Call) → e.what ≡ what → asked_of what a.trace.answer ≡ Some f → ((b : After) → calls program w (without_stop e.what) x f 0 k ≡ Some b → happens_as program w (without_stop e.what) x what ≡ Some b) → calls program w e x f 0 k ≡ Some a → LeavesByGate program w e x c
    plain what f k same asked alone went = call w f 0 k refl (λ t. ap (λ z. asked_of z a.trace.answer) same ∙ asked) (λ b g. ap (happens_as program w (without_stop e.what) x) same ∙ alone b g) went

    quietly : (answer : Answer) → a.trace.answer ≡ answer → is_stopped answer ≡ false → LeavesByGate program w e x c
    quietly answer told f = absurd (true-false (is_stopped a.trace.answer) stopped (ap is_stopped told ∙ f))

    delivered : (i : ℕ) (o : Option Packet) → ((p : Packet) → o ≡ Some p → a.trace.answer ≡ answer_stopped i x.is_open (Gets p) → asked_of e.what a.trace.answer ≡ Some (receiver_of p)) →
        ((b : After) → delivers program w (without_stop e.what) x i o ≡ Some b → happens program w (without_stop e.what) x ≡ Some b) → delivers program w e x i o ≡ Some a → LeavesByGate program w e x c
    delivered i None owner alone went = quietly answers.Unknown (ap (λ (v : After). v.trace.answer) (sym (same_Some (unchanged w e answers.Unknown) a went))) refl
    delivered i (Some p) owner alone went = call (takes_off w i) (receiver_of p) i (Gets p) refl (owner p refl) alone went

    by : (what : What) → e.what ≡ what → happens_as program w e x what ≡ Some a → LeavesByGate program w e x c
    by (Input f handler args) same went = plain (Input f handler args) f (Gives handler args) same refl (λ b g. g) went
    by (Force f) same went = plain (Force f) f Forces same refl (λ b g. g) went
    by (Checkpoint f) same went = plain (Checkpoint f) f Checkpoints same refl (λ b g. g) went
    by (Resend f) same went = plain (Resend f) f Resends same refl (λ b g. g) went
    by (Emit f) same went = plain (Emit f) f Emits same refl (λ b g. g) went
    by (Numbered i) same went = delivered i (packet_at w i) (λ p k t. ap (λ z. asked_of z a.trace.answer) same ∙ ap (asked_of (Numbered i)) t) (λ b g. ap (happens_as program w (without_stop e.what) x) same ∙ g) went
    by (Deliver from to) same went = oldest (oldest_of w from to) refl went
      where
        to_is : (i : ℕ) (p : Packet) → oldest_of w from to ≡ Some i → packet_at w i ≡ Some p → to ≡ receiver_of p
        to_is i p o k =
            let z = there-is (λ j. goes from to (packet_at w j)) w.waiting i o in
            same-com to (receiver_of p) (and_parts (same_com from (sender_of p)) (same_com to (receiver_of p)) (subst (λ u. goes from to u ≡ true) k z.1)).1

        oldest : (o : Option ℕ) → oldest_of w from to ≡ o → delivers_oldest program w e x o ≡ Some a → LeavesByGate program w e x c
        oldest None o k = quietly answers.Empty (ap (λ (v : After). v.trace.answer) (sym (same_Some (unchanged w e answers.Empty) a k))) refl
        oldest (Some i) o k = delivered i (packet_at w i) (λ p g t. ap (λ z. asked_of z a.trace.answer) same ∙ ap (λ z. Some z) (to_is i p o g))
            (λ b g. ap (happens_as program w (without_stop e.what) x) same ∙ ap (delivers_oldest program w (without_stop e.what) x) o ∙ g) k
    by (Lose from to) same went = lost (oldest_of w from to) (same_Some (loses_oldest w e (oldest_of w from to)) a went)
      where
        gone : (i : ℕ) (o : Option Packet) → loses w e i o ≡ a → LeavesByGate program w e x c
        gone i None k = quietly answers.Empty (ap (λ (v : After). v.trace.answer) (sym k)) refl
        gone i (Some p) k = quietly _ (ap (λ (v : After). v.trace.answer) (sym k)) refl

        lost : (o : Option ℕ) → loses_oldest w e o ≡ a → LeavesByGate program w e x c
        lost None k = quietly answers.Empty (ap (λ (v : After). v.trace.answer) (sym k)) refl
        lost (Some i) k = gone i (packet_at w i) k
    by (Crash f) same went =
        let n = mapped (λ node. behind w e f (crashes node)) (node_at w f) a went in
        quietly (crashes n.0).answer (ap (λ (v : After). v.trace.answer) (sym n.2)) (crashed n.0)
      where
        crashed : (node : Node) → is_stopped (crashes node).answer ≡ false
        crashed (Runs p) = refl
        crashed (Serves t) = refl
        crashed (Down log) = refl
        crashed External = refl
    by (Recover f) same went =
        let d = mapped (behind w e f) (option_and_then (recovers program f e.stop x) (node_at w f)) a went in
        at (node_at w f) refl d.0 d.1 d.2
      where
        asked : asked_of e.what a.trace.answer ≡ Some f
        asked = ap (λ z. asked_of z a.trace.answer) same

        still : (node : Node) (d : Done) → Some (just node answers.Already) ≡ Some d → behind w e f d ≡ a → LeavesByGate program w e x c
        still node d g k = quietly answers.Already (ap (λ (v : After). v.trace.answer) (sym k) ∙ ap (λ (z : Done). z.answer) (sym (same_Some (just node answers.Already) d g))) refl

        at : (o : Option Node) → node_at w f ≡ o → (d : Done) → option_and_then (recovers program f e.stop x) o ≡ Some d → behind w e f d ≡ a → LeavesByGate program w e x c
        at None there d g k = none-some d g
        at (Some (Runs p)) there d g k = still (Runs p) d g k
        at (Some (Serves t)) there d g k = still (Serves t) d g k
        at (Some External) there d g k = still External d g k
        at (Some (Down log)) there d g k = load (is_reached e.stop (load_calls program f)) refl g
          where
            torn_is : Torn program w e x f
            torn_is = torn-of f asked

            within : (o : Option Stop) → e.stop ≡ o → is_reached o (load_calls program f) ≡ true → LeavesByGate program w e x f
            within None o r = absurd (cc r)
            within (Some s) o r = let y = torn_is.early s o (subst IsOnDisk (sym there) tt) (ap (λ z. nat_le s.call (loads_first program f z)) there ∙ r) in inl (y.0, y.1 ∙ disk-is w f (Down log) there ∙ sym (log-here forced_of w f (Down log) there))

            load : (t : Bool) → is_reached e.stop (load_calls program f) ≡ t → cond t (Some (just (Down x.left) answers.Stopped)) (option_map (cut_off e.stop x (Down log) answers.Stopped) (comes_up program f x.size x.found)) ≡ Some d → LeavesByGate program w e x c
            load true r g2 = mine f asked (within e.stop refl r)
            load false r g2 =
                let z = mapped (cut_off e.stop x (Down log) answers.Stopped) (comes_up program f x.size x.found) d g2 in
                let goes_on = up-cuts program f x.size log z.0 (ap (comes_up program f x.size) (sym (torn_is.loaded log there)) ∙ z.1) in
                let r2 = reaching e.stop x (Down log) answers.Stopped z.0 d counted goes_on.answer (ap (λ (v : After). is_stopped v.trace.answer) k ∙ stopped) z.2 in
                let b : After = behind w (without_stop e.what) f z.0 in
                mine f asked (leaves-one program w e x f (Down log) z.0 r2.0 b torn_is r2.1 r2.2 there goes_on r2.3
                (ap (happens_as program w (without_stop e.what) x) same
                ∙ ap (λ o. option_map (behind w (without_stop e.what) f) (option_and_then (recovers program f None x) o)) there
                ∙ ap (λ o. option_map (behind w (without_stop e.what) f) (option_map (cut_off None x (Down log) answers.Stopped) o)) z.1)
                (node-same w f z.0 (Down log) there))
