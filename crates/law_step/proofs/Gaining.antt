-- An event adds to each log the input that it tells as taken or kept, and no other.
use Rattle.std.proofs.Common.{◌≡◌, refl, ◌∙◌, ap, sym, subst, ℕ, Bool, true, false, cond, ◌&&◌, List, ◌++◌, ℤ, Option, Some, None, option_map, option_and_then, option_to_list, ◌⊎◌, inl, inr, ⊎_elim}
use Rattle.std.specs.Prelude.{filter_map, slice_get, MatchOption, ⊤}
use Rattle.std.specs.List.{list_any}
use Rattle.std.proofs.lemmas.Bool.{and_parts}
use Rattle.std.proofs.lemmas.Option.{same_Some}
use Rattle.ic_base.specs.declared.messages.ComId.{ComId}
use Rattle.ic_base.specs.declared.messages.Kind.{Kind}
use Rattle.ic_base.specs.declared.messages.Kind.TheVariants as kinds
use Rattle.ic_base.specs.declared.messages.Packet.{Packet}
use Rattle.ic_base.specs.declared.events.Answer.{Answer}
use Rattle.ic_base.specs.declared.events.Answer.TheVariants as answers
use Rattle.ic_base.specs.declared.events.Event.{Event}
use Rattle.ic_base.specs.declared.events.Fate.TheVariants as fates
use Rattle.ic_base.specs.declared.events.Stop.{Stop}
use Rattle.ic_base.specs.declared.events.What.{What}
use Rattle.ic_base.specs.declared.events.What.TheVariants.{Input, Deliver, Lose, Packet as Numbered, Force, Checkpoint, Resend, Emit, Crash, Recover}
use Rattle.ic_base.specs.declared.scenario.Component.{Component}
use Rattle.ic_base.specs.declared.scenario.Program.{Program}
use Rattle.ic_base.specs.declared.record.Record.{Record}
use Rattle.ic_base.specs.Programs.{same_com, is_a_pcom, is_a_tcom, is_pcom, declares}
use Rattle.def_step.specs.Packets.{sender_of, receiver_of}
use Rattle.def_step.specs.Pcom.{Log, Call, Gives, Gets, Forces, Checkpoints, Resends, Emits, StepResult, told, pcom_step, recover_pcom}
use Rattle.def_step.specs.Settle.{asked_of}
use Rattle.def_step.specs.Tcom.{recover_tcom}
use Rattle.def_step.specs.World.{World, Node, Runs, Serves, Down, External, Done, DiskOutcome, After, node_at, packet_at, oldest_of, goes, takes_off, world_with, behind, unchanged, just, done_as, does, does_or_stops, answer_of, answer_down, answer_stopped, up_answer, device_calls, is_reached, cut_off, calls, crashes, comes_up, recovers, delivers, delivers_oldest, loses, loses_oldest, happens, happens_as, load_calls}
use Rattle.def_run.specs.CoreSteps.{is_stopped}
use Rattle.def_run.specs.CrashFree.{input_in, is_received, received_by}
use Rattle.def_run.specs.SystemStates.{is_of, is_com, without_stop}
use Rattle.def_facts.specs.Logs.{Logs, log_at, is_input}
use Rattle.def_facts.specs.Pcom.{VolatileFacts}
use Rattle.def_facts.specs.World.{Past, IsExplainedBy, IsMirrored, forced_of, forced_logs, is_of_kind, kind_of}
use Rattle.law_replay.proofs.Lists.{none-some, true-false, mapped, same-com, self-com}
use Rattle.law_replay.proofs.Members.{found as there-is}
use Rattle.law_step.specs.Inputs.{DiskTells, EventsGainInputs}
use Rattle.law_step.specs.Steps.{LeavesByGate}
use Rattle.law_step.proofs.Calls.{unstopped}
use Rattle.law_step.proofs.Events.{stopped-answer}
use Rattle.law_step.proofs.Inputs.{input_as, Gains, Left, none-more, nothing-reached, pcom-cut}
use Rattle.law_step.proofs.Moments.{turned}
use Rattle.law_step.proofs.Nodes.{each-com, log-here, log-same, log-other}
use Rattle.law_step.proofs.Ordering.{not-both}
use Rattle.law_step.proofs.Recoveries.{comes-up}
use Rattle.law_syntax.specs.Events.{IsCounted}

-- a component -------------------------------------------------------------------------------------------------

-- a component that is a Pcom runs as one or is down
abbrev pub MayBe : Node → Type 0
MayBe (Runs p) = ⊤
MayBe (Serves x) = ⊥
MayBe (Down log) = ⊤
MayBe External = ⊥

pub pcom-may : (program : Program) (c : ComId) (node : Node) → is_of_kind (kind_of program c) (Some node) ≡ true → is_a_pcom program c ≡ true → MayBe node
pcom-may program c node kind pcom = at (slice_get program.components c.0) node kind pcom
  where
    by : (k : Kind) (n : Node) → is_of_kind (Some k) (Some n) ≡ true → is_pcom k ≡ true → MayBe n
    by k (Runs p) e f = tt
    by k (Down log) e f = tt
    by kinds.Pcom (Serves x) e f = true-false e
    by kinds.Tcom (Serves x) e f = true-false f
    by kinds.Xcom (Serves x) e f = true-false f
    by kinds.Pcom External e f = true-false e
    by kinds.Tcom External e f = true-false f
    by kinds.Xcom External e f = true-false f

    at : (o : Option Component) (n : Node) → is_of_kind (option_map (λ d. d.kind) o) (Some n) ≡ true → declares (λ d. is_pcom d.kind) o ≡ true → MayBe n
    at None n e f = true-false f
    at (Some d) n e f = by d.kind n e f

-- nothing buffered is an input
abbrev pub Unbuffered : Node → Type 0
Unbuffered (Runs p) = list_any is_input p.log.buffered ≡ false
Unbuffered node = ⊤

down-quiet : (number : ℕ) (call : Call) → input_as call (answer_down number call) ≡ None
down-quiet number (Gives handler args) = refl
down-quiet number (Gets packet) = refl
down-quiet number Forces = refl
down-quiet number Checkpoints = refl
down-quiet number Resends = refl
down-quiet number Emits = refl

-- the component's step with its stop, reached or not
node-gains : (program : Program) (c : ComId) (node : Node) (number : ℕ) (call : Call) (stop : Option Stop) (x : DiskOutcome) (later : Done) → MayBe node → Unbuffered node → IsCounted stop → ((d : Done) → does program c node number call ≡ Some d → later.answer ≡ answer_stopped number x.is_open call → Left x node d) → does_or_stops program c node stop x number call ≡ Some later → Gains node call later
node-gains program c (Runs p) number call stop x later may none counted left went =
    let d = mapped (cut_off stop x (Runs p) (answer_stopped number x.is_open call)) (does program c (Runs p) number call) later went in
    let t = mapped (λ t. done_as (answer_of p number call t) t) (pcom_step program c p call) d.0 d.1 in
    pcom-cut program c p number call t.0 stop x later counted none t.1 (λ told. left (done_as (answer_of p number call t.0) t.0) (d.1 ∙ ap (λ z. Some z) (sym t.2)) told) (ap (cut_off stop x (Runs p) (answer_stopped number x.is_open call)) t.2 ∙ d.2)
node-gains program c (Serves t) number call stop x later may none counted left went = absurd may
node-gains program c External number call stop x later may none counted left went = absurd may
node-gains program c (Down log) number call stop x later may none counted left went = at (is_reached stop 0) refl (same_Some (cut_off stop x (Down log) (answer_stopped number x.is_open call) (just (Down log) (answer_down number call))) later went)
  where
    at : (b : Bool) → is_reached stop 0 ≡ b → cond b (just (Down x.left) (answer_stopped number x.is_open call)) (just (Down log) (answer_down number call)) ≡ later → Gains (Down log) call later
    at true reached same = nothing-reached stop counted reached
    at false reached same = subst (Gains (Down log) call) same (none-more (filter_map input_in log) (filter_map input_in log) (input_as call (answer_down number call)) refl (down-quiet number call))

-- the world ---------------------------------------------------------------------------------------------------

-- the log of c gains these inputs
abbrev pub Gained : ComId → World → World → Option (ℕ × List ℤ) → Type 0
Gained c w v o = filter_map input_in (log_at (forced_logs v) c) ≡ filter_map input_in (log_at (forced_logs w) c) ++ option_to_list o

still-gained : (c : ComId) (w v : World) (o : Option (ℕ × List ℤ)) → log_at (forced_logs v) c ≡ log_at (forced_logs w) c → o ≡ None → Gained c w v o
still-gained c w v o same none = none-more (filter_map input_in (log_at (forced_logs w) c)) (filter_map input_in (log_at (forced_logs v) c)) o (ap (filter_map input_in) same) none

-- a component that keeps its log
kept-log : (w : World) (c d : ComId) (u : Done) (node : Node) → node_at w d ≡ Some node → forced_of u.node ≡ forced_of node → log_at (forced_logs (world_with w d u)) c ≡ log_at (forced_logs w) c
kept-log w c d u node there same =
    each-com d (λ z. log_at (forced_logs (world_with w d u)) z ≡ log_at (forced_logs w) z) (log-same forced_of w d u node there ∙ same ∙ sym (log-here forced_of w d node there)) (λ z apart. log-other forced_of w d z u apart) c

-- the input of a call on d, as c's
abbrev input_at : ComId → ComId → Call → Answer → Option (ℕ × List ℤ)
input_at c d call answer = cond (same_com c d) (input_as call answer) None

-- a component has records of its own, and none of them that is buffered is an input
abbrev pub IsPlain : World → ComId → Type 0
IsPlain w c = (node : Node) → node_at w c ≡ Some node → MayBe node × Unbuffered node

call-gains : (program : Program) (w : World) (e : Event) (x : DiskOutcome) (d : ComId) (number : ℕ) (call : Call) (a : After) (c : ComId) → IsPlain w c → IsCounted e.stop →
    (a.trace.answer ≡ answer_stopped number x.is_open call → ((x.is_open ≡ false) × (x.left ≡ log_at (forced_logs w) d)) ⊎ ((x.is_open ≡ true) × ((b : After) × (calls program w (without_stop e.what) x d number call ≡ Some b) × (x.left ≡ log_at (forced_logs b.world) d)))) →
    calls program w e x d number call ≡ Some a → Gained c w a.world (input_at c d call a.trace.answer)
call-gains program w e x d number call a c f counted left ran =
    let m = mapped (behind w e d) (option_and_then (λ node. does_or_stops program d node e.stop x number call) (node_at w d)) a ran in
    subst (λ (v : After). Gained c w v.world (input_at c d call v.trace.answer)) m.2 (by (node_at w d) refl m.0 m.1 (λ told. left (ap (λ (v : After). v.trace.answer) (sym m.2) ∙ told)) (same_com c d) refl)
  where
    by : (o : Option Node) → node_at w d ≡ o → (later : Done) → option_and_then (λ node. does_or_stops program d node e.stop x number call) o ≡ Some later →
        (later.answer ≡ answer_stopped number x.is_open call → ((x.is_open ≡ false) × (x.left ≡ log_at (forced_logs w) d)) ⊎ ((x.is_open ≡ true) × ((b : After) × (calls program w (without_stop e.what) x d number call ≡ Some b) × (x.left ≡ log_at (forced_logs b.world) d)))) →
        (b : Bool) → same_com c d ≡ b → Gained c w (world_with w d later) (input_at c d call later.answer)
    by None there later went leaves b which = none-some later went
    by (Some node) there later went leaves false apart =
        still-gained c w (world_with w d later) (input_at c d call later.answer) (log-other forced_of w d c later (turned c d apart)) (ap (λ z. cond z (input_as call later.answer) None) apart)
    by (Some node) there later went leaves true same =
        let one : c ≡ d = same-com c d same in
        let plain = f node (subst (λ z. node_at w z ≡ Some node) (sym one) there) in
        let gained = node-gains program d node number call e.stop x later plain.0 plain.1 counted
        (λ u does_it told. ⊎_elim (λ y. inl (y.0, y.1 ∙ log-here forced_of w d node there)) (λ y. inr (y.0, y.1.2 ∙ unstopped program w e x d number call y.1.0 node u there does_it y.1.1)) (leaves told)) went in
        ap (λ (z : ComId). filter_map input_in (log_at (forced_logs (world_with w d later)) z)) one
        ∙ ap (filter_map input_in) (log-same forced_of w d later node there)
        ∙ gained
        ∙ ap (λ l. filter_map input_in l ++ option_to_list (input_as call later.answer)) (sym (log-here forced_of w d node there))
        ∙ ap (λ (z : ComId). filter_map input_in (log_at (forced_logs w) z) ++ option_to_list (input_as call later.answer)) (sym one)
        ∙ ap (λ z. filter_map input_in (log_at (forced_logs w) c) ++ option_to_list (cond z (input_as call later.answer) None)) (sym same)

-- a crash and a recovery leave the log of a Pcom
crash-log : (node : Node) → forced_of (crashes node).node ≡ forced_of node
crash-log (Runs p) = refl
crash-log (Serves x) = refl
crash-log (Down log) = refl
crash-log External = refl

up-log : (program : Program) (c : ComId) (size : ℕ) (log : List Record) (d : Done) → is_a_pcom program c ≡ true → comes_up program c size log ≡ Some d → forced_of d.node ≡ log
up-log program c size log d pcom e = at (is_a_tcom program c) refl e
  where
    at : (b : Bool) → is_a_tcom program c ≡ b → cond b (option_map (λ x. just (Serves x) answers.Up) (recover_tcom program c size log)) (option_map (λ t. done_as (up_answer t.pcom) t) (recover_pcom program c log)) ≡ Some d → forced_of d.node ≡ log
    at true tcom g = not-both program c pcom tcom
    at false free g =
        let t = mapped (λ (t : StepResult). done_as (up_answer t.pcom) t) (recover_pcom program c log) d g in
        ap (λ (z : Done). forced_of z.node) (sym t.2) ∙ ap (λ (l : Log). l.forced) (comes-up program c log t.0 t.1).is_log

-- a recovery, its stop reached or not
recovered-log : (program : Program) (w : World) (e : Event) (x : DiskOutcome) (c : ComId) (node : Node) (d : Done) → is_a_pcom program c ≡ true → node_at w c ≡ Some node → ((log : List Record) → node ≡ Down log → x.found ≡ log) →
    (d.answer ≡ answers.Stopped → (x.left ≡ forced_of node) ⊎ ((b : After) × (option_map (behind w (without_stop e.what) c) (option_and_then (recovers program c None x) (node_at w c)) ≡ Some b) × (x.left ≡ log_at (forced_logs b.world) c))) → recovers program c e.stop x node ≡ Some d → forced_of d.node ≡ forced_of node
recovered-log program w e x c (Runs p) d pcom there found left went = ap (λ (z : Done). forced_of z.node) (sym (same_Some (just (Runs p) answers.Already) d went))
recovered-log program w e x c (Serves t) d pcom there found left went = ap (λ (z : Done). forced_of z.node) (sym (same_Some (just (Serves t) answers.Already) d went))
recovered-log program w e x c External d pcom there found left went = ap (λ (z : Done). forced_of z.node) (sym (same_Some (just External answers.Already) d went))
recovered-log program w e x c (Down log) d pcom there found left went = at (is_reached e.stop (load_calls program c)) went
  where
    loaded : (u : Done) → comes_up program c x.size x.found ≡ Some u → forced_of u.node ≡ log
    loaded u k = up-log program c x.size x.found u pcom k ∙ found log refl

    -- the log behind a recovery that isn't cut off
    came : (b : After) → option_map (behind w (without_stop e.what) c) (option_and_then (recovers program c None x) (node_at w c)) ≡ Some b → log_at (forced_logs b.world) c ≡ log
    came b k =
        let z = mapped (behind w (without_stop e.what) c) (option_map (cut_off None x (Down log) answers.Stopped) (comes_up program c x.size x.found)) b (sym (ap (λ o. option_map (behind w (without_stop e.what) c) (option_and_then (recovers program c None x) o)) there) ∙ k) in
        let u = mapped (cut_off None x (Down log) answers.Stopped) (comes_up program c x.size x.found) z.0 z.1 in
        ap (λ (v : After). log_at (forced_logs v.world) c) (sym z.2) ∙ ap (λ (v : Done). log_at (forced_logs (world_with w c v)) c) (sym u.2) ∙ log-same forced_of w c u.0 (Down log) there ∙ loaded u.0 u.1

    stopped : just (Down x.left) answers.Stopped ≡ d → forced_of d.node ≡ log
    stopped same = ap (λ (z : Done). forced_of z.node) (sym same) ∙ ⊎_elim (λ k. k) (λ y. y.2 ∙ came y.0 y.1) (left (ap (λ (z : Done). z.answer) (sym same)))

    at : (b : Bool) → cond b (Some (just (Down x.left) answers.Stopped)) (option_map (cut_off e.stop x (Down log) answers.Stopped) (comes_up program c x.size x.found)) ≡ Some d → forced_of d.node ≡ log
    at true k = stopped (same_Some (just (Down x.left) answers.Stopped) d k)
    at false k =
        let z = mapped (cut_off e.stop x (Down log) answers.Stopped) (comes_up program c x.size x.found) d k in
        cut z.0 z.1 (is_reached e.stop (device_calls x.free (Down log) z.0.node)) z.2
      where
        cut : (u : Done) → comes_up program c x.size x.found ≡ Some u → (b : Bool) → cond b (just (Down x.left) answers.Stopped) u ≡ d → forced_of d.node ≡ log
        cut u up true same = stopped same
        cut u up false same = ap (λ (z : Done). forced_of z.node) (sym same) ∙ loaded u up

-- the events --------------------------------------------------------------------------------------------------

-- a trace tells its event
pub event-told : (program : Program) (w : World) (e : Event) (x : DiskOutcome) (a : After) → happens program w e x ≡ Some a → a.trace.event ≡ e
event-told program w e x a ran = by e.what ran
  where
    quietly : (answer : Answer) (v : World) → unchanged v e answer ≡ a → a.trace.event ≡ e
    quietly answer v same = ap (λ (z : After). z.trace.event) (sym same)

    done : (v : World) (c : ComId) (o : Option Done) → option_map (behind v e c) o ≡ Some a → a.trace.event ≡ e
    done v c o went = let m = mapped (behind v e c) o a went in ap (λ (z : After). z.trace.event) (sym m.2)

    delivered : (i : ℕ) (o : Option Packet) → delivers program w e x i o ≡ Some a → a.trace.event ≡ e
    delivered i None went = quietly answers.Unknown w (same_Some (unchanged w e answers.Unknown) a went)
    delivered i (Some p) went = done (takes_off w i) (receiver_of p) _ went

    by : (what : What) → happens_as program w e x what ≡ Some a → a.trace.event ≡ e
    by (Input c handler args) went = done w c _ went
    by (Force c) went = done w c _ went
    by (Checkpoint c) went = done w c _ went
    by (Resend c) went = done w c _ went
    by (Emit c) went = done w c _ went
    by (Numbered i) went = delivered i (packet_at w i) went
    by (Deliver from to) went = oldest (oldest_of w from to) went
      where
        oldest : (o : Option ℕ) → delivers_oldest program w e x o ≡ Some a → a.trace.event ≡ e
        oldest None k = quietly answers.Empty w (same_Some (unchanged w e answers.Empty) a k)
        oldest (Some i) k = delivered i (packet_at w i) k
    by (Lose from to) went = lost (oldest_of w from to) (same_Some (loses_oldest w e (oldest_of w from to)) a went)
      where
        gone : (i : ℕ) (o : Option Packet) → loses w e i o ≡ a → a.trace.event ≡ e
        gone i None k = quietly answers.Empty w k
        gone i (Some p) k = ap (λ (z : After). z.trace.event) (sym k)

        lost : (o : Option ℕ) → loses_oldest w e o ≡ a → a.trace.event ≡ e
        lost None k = quietly answers.Empty w k
        lost (Some i) k = gone i (packet_at w i) k
    by (Crash c) went = let m = mapped (λ node. behind w e c (crashes node)) (node_at w c) a went in ap (λ (z : After). z.trace.event) (sym m.2)
    by (Recover c) went = done w c _ went

both : {X : Type 0} (a b : Bool) (x : X) → cond a (cond b (Some x) None) None ≡ cond (a && b) (Some x) None
both true b x = refl
both false b x = refl

neither : {X : Type 0} (b : Bool) → ◌≡◌ {A = Option X} (cond b None None) None
neither true = refl
neither false = refl

pub event-gains : (program : Program) (w : World) (e : Event) (x : DiskOutcome) (a : After) (c : ComId) → is_a_pcom program c ≡ true → IsPlain w c → IsCounted e.stop → ((d : ComId) → is_of e a.trace d ≡ true → DiskTells program w e x a d) → happens program w e x ≡ Some a → Gained c w a.world (received_by c a.trace)
event-gains program w e x a c pcom f counted tells ran =
    subst (Gained c w a.world) (ap (λ (z : Event). received_as z.what) (sym (event-told program w e x a ran))) (by e.what refl ran)
  where
    received_as : What → Option (ℕ × List ℤ)
    received_as what = elim what [ Input d handler args ↦ cond (same_com c d && is_received a.trace.answer) (Some (handler, args)) None | _ ↦ None ]

    leaves : (d : ComId) → is_of e a.trace d ≡ true → is_stopped a.trace.answer ≡ true → LeavesByGate program w e x d
    leaves d is k = (tells d is).left k

    mine : (what : What) (d : ComId) → e.what ≡ what → asked_of what a.trace.answer ≡ Some d → is_of e a.trace d ≡ true
    mine what d is asked = ap (λ z. is_com d (asked_of z a.trace.answer)) is ∙ ap (is_com d) asked ∙ self-com d

    call : (what : What) (v : World) (d : ComId) (number : ℕ) (k : Call) → e.what ≡ what → IsPlain v c → forced_logs v ≡ forced_logs w → (a.trace.answer ≡ answer_stopped number x.is_open k → asked_of what a.trace.answer ≡ Some d) →
        ((b : After) → happens_as program w (without_stop e.what) x what ≡ Some b → calls program v (without_stop e.what) x d number k ≡ Some b) → calls program v e x d number k ≡ Some a → Gained c v a.world (input_at c d k a.trace.answer)
    call what v d number k is g logs asked alone went =
        call-gains program v e x d number k a c g counted
        (λ t. ⊎_elim (λ y. inl (y.0, y.1 ∙ ap (λ l. log_at l d) (sym logs))) (λ y. inr (y.0, (y.1.0, alone y.1.0 (ap (happens_as program w (without_stop e.what) x) (sym is) ∙ y.1.1), y.1.2)))
        (leaves d (mine what d is (asked t)) (ap is_stopped t ∙ stopped-answer number x.is_open k)))
        went

    none-told : (v : World) (o : Option (ℕ × List ℤ)) → Gained c v a.world o → o ≡ None → Gained c v a.world None
    none-told v o g none = subst (Gained c v a.world) none g

    quietly : (v : World) → v ≡ a.world → forced_logs v ≡ forced_logs w → Gained c w a.world None
    quietly v same logs = still-gained c w a.world None (ap (λ z. log_at (forced_logs z) c) (sym same) ∙ ap (λ l. log_at l c) logs) refl

    delivered : (what : What) (i : ℕ) (o : Option Packet) → e.what ≡ what → ((p : Packet) → o ≡ Some p → a.trace.answer ≡ answers.Packet i p fates.Stopped → asked_of what a.trace.answer ≡ Some (receiver_of p)) →
        ((b : After) → happens_as program w (without_stop e.what) x what ≡ Some b → delivers program w (without_stop e.what) x i o ≡ Some b) → delivers program w e x i o ≡ Some a → Gained c w a.world None
    delivered what i None is asked alone went = quietly w (ap (λ (v : After). v.world) (same_Some (unchanged w e answers.Unknown) a went)) refl
    delivered what i (Some p) is asked alone went =
        none-told (takes_off w i) (input_at c (receiver_of p) (Gets p) a.trace.answer)
        (call what (takes_off w i) (receiver_of p) i (Gets p) is f refl (asked p refl) alone went) (neither (same_com c (receiver_of p)))

    plain : (what : What) (d : ComId) (k : Call) → e.what ≡ what → asked_of what a.trace.answer ≡ Some d → ((b : After) → happens_as program w (without_stop e.what) x what ≡ Some b → calls program w (without_stop e.what) x d 0 k ≡ Some b) → calls program w e x d 0 k ≡ Some a → Gained c w a.world (input_at c d k a.trace.answer)
    plain what d k is asked alone went = call what w d 0 k is f refl (λ t. asked) alone went

    by : (what : What) → e.what ≡ what → happens_as program w e x what ≡ Some a → Gained c w a.world (received_as what)
    by (Input d handler args) is went = subst (Gained c w a.world) (both (same_com c d) (is_received a.trace.answer) (handler, args)) (plain (Input d handler args) d (Gives handler args) is refl (λ b k. k) went)
    by (Force d) is went = none-told w (input_at c d Forces a.trace.answer) (plain (Force d) d Forces is refl (λ b k. k) went) (neither (same_com c d))
    by (Checkpoint d) is went = none-told w (input_at c d Checkpoints a.trace.answer) (plain (Checkpoint d) d Checkpoints is refl (λ b k. k) went) (neither (same_com c d))
    by (Resend d) is went = none-told w (input_at c d Resends a.trace.answer) (plain (Resend d) d Resends is refl (λ b k. k) went) (neither (same_com c d))
    by (Emit d) is went = none-told w (input_at c d Emits a.trace.answer) (plain (Emit d) d Emits is refl (λ b k. k) went) (neither (same_com c d))
    by (Numbered i) is went = delivered (Numbered i) i (packet_at w i) is (λ p k t. ap (asked_of (Numbered i)) t) (λ b k. k) went
    by (Deliver from to) is went = oldest (oldest_of w from to) refl went
      where
        to_is : (i : ℕ) (p : Packet) → oldest_of w from to ≡ Some i → packet_at w i ≡ Some p → to ≡ receiver_of p
        to_is i p o k =
            let z = there-is (λ j. goes from to (packet_at w j)) w.waiting i o in
            same-com to (receiver_of p) (and_parts (same_com from (sender_of p)) (same_com to (receiver_of p)) (subst (λ u. goes from to u ≡ true) k z.1)).1

        oldest : (o : Option ℕ) → oldest_of w from to ≡ o → delivers_oldest program w e x o ≡ Some a → Gained c w a.world None
        oldest None o k = quietly w (ap (λ (v : After). v.world) (same_Some (unchanged w e answers.Empty) a k)) refl
        oldest (Some i) o k = delivered (Deliver from to) i (packet_at w i) is (λ p g t. ap (λ z. Some z) (to_is i p o g)) (λ b g. sym (ap (delivers_oldest program w (without_stop e.what) x) o) ∙ g) k
    by (Lose from to) is went = lost (oldest_of w from to) (same_Some (loses_oldest w e (oldest_of w from to)) a went)
      where
        gone : (i : ℕ) (o : Option Packet) → loses w e i o ≡ a → Gained c w a.world None
        gone i None k = quietly w (ap (λ (v : After). v.world) k) refl
        gone i (Some p) k = quietly (takes_off w i) (ap (λ (v : After). v.world) k) refl

        lost : (o : Option ℕ) → loses_oldest w e o ≡ a → Gained c w a.world None
        lost None k = quietly w (ap (λ (v : After). v.world) k) refl
        lost (Some i) k = gone i (packet_at w i) k
    by (Crash d) is went =
        let m = mapped (λ node. behind w e d (crashes node)) (node_at w d) a went in
        subst (λ (v : After). Gained c w v.world None) m.2 (still-gained c w (world_with w d (crashes m.0)) None (kept-log w c d (crashes m.0) m.0 m.1 (crash-log m.0)) refl)
    by (Recover d) is went =
        let m = mapped (behind w e d) (option_and_then (recovers program d e.stop x) (node_at w d)) a went in
        subst (λ (v : After). Gained c w v.world None) m.2 (still-gained c w (world_with w d m.0) None (up (node_at w d) refl m.0 m.1 (ap (λ (v : After). v.trace.answer) (sym m.2)) (same_com c d) refl) refl)
      where
        asked : is_of e a.trace d ≡ true
        asked = mine (Recover d) d is refl

        up : (o : Option Node) → node_at w d ≡ o → (u : Done) → option_and_then (recovers program d e.stop x) o ≡ Some u → a.trace.answer ≡ u.answer → (b : Bool) → same_com c d ≡ b → log_at (forced_logs (world_with w d u)) c ≡ log_at (forced_logs w) c
        up None there u g told b which = none-some u g
        up (Some node) there u g told false apart = log-other forced_of w d c u (turned c d apart)
        up (Some node) there u g told true same =
            let one : c ≡ d = same-com c d same in
            kept-log w c d u node there
            (recovered-log program w e x d node u (subst (λ z. is_a_pcom program z ≡ true) one pcom) there
            (λ log k. (tells d asked).found log (there ∙ ap (λ z. Some z) k))
            (λ t. ⊎_elim (λ y. inl (y.1 ∙ log-here forced_of w d node there)) (λ y. inr (y.1.0, ap (happens_as program w (without_stop e.what) x) (sym is) ∙ y.1.1, y.1.2)) ((tells d asked).left (ap is_stopped (told ∙ t)))) g)

unbuffered : (program : Program) (found : Logs) (here : ComId → ℕ) (w : World) (past : Past) → IsExplainedBy program found here w past → (c : ComId) (node : Node) → node_at w c ≡ Some node → Unbuffered node
unbuffered program found here w past f c (Runs p) is = volatile.inputs_forced
  where
    volatile : VolatileFacts program c p (past.received c)
    volatile = subst (λ o. MatchOption o ⊤ (IsMirrored program c (past.received c))) is (f.pcoms c)
unbuffered program found here w past f c (Serves x) is = tt
unbuffered program found here w past f c (Down log) is = tt
unbuffered program found here w past f c External is = tt

pub events_gain_inputs : EventsGainInputs
events_gain_inputs program found here w e x a counted tells ran f c pcom =
    event-gains program w e x a c pcom (λ node there. (pcom-may program c node (ap (is_of_kind (kind_of program c)) (sym there) ∙ f.1.kinds c) pcom, unbuffered program found here w f.0 f.1 c node there)) counted tells ran
