-- Every event keeps a world explained.
use Rattle.std.proofs.Common.{◌≡◌, refl, ◌∙◌, ap, sym, subst, ℕ, zero, suc, ◌≤◌, Bool, true, false, cond, List, [], ◌∷◌, ◌++◌, length, slice_get, Option, Some, None, option_map, option_and_then, ◌⊎◌, inl, inr, ⊎_elim, arith}
use Rattle.std.specs.Prelude.{Contains, MatchOption, ⊤}
use Rattle.std.proofs.lemmas.Bool.{and_parts}
use Rattle.std.proofs.lemmas.List.{append-nil}
use Rattle.std.proofs.lemmas.Option.{same_Some}
use Rattle.ic_base.specs.declared.messages.ComId.{ComId}
use Rattle.ic_base.specs.declared.messages.Packet.{Packet}
use Rattle.ic_base.specs.declared.events.Answer.{Answer}
use Rattle.ic_base.specs.declared.events.Answer.TheVariants as answers
use Rattle.ic_base.specs.declared.events.Fate.TheVariants as fates
use Rattle.ic_base.specs.declared.events.Event.{Event}
use Rattle.ic_base.specs.declared.events.What.{What}
use Rattle.ic_base.specs.declared.events.What.TheVariants.{Input, Deliver, Lose, Packet as Numbered, Force, Checkpoint, Resend, Emit, Crash, Recover}
use Rattle.ic_base.specs.declared.scenario.Program.{Program}
use Rattle.ic_base.specs.declared.record.Record.{Record}
use Rattle.ic_base.specs.Programs.{same_com, is_a_pcom, is_a_tcom}
use Rattle.def_step.specs.Calls.{called, delivery_of, call_of, node_is_full}
use Rattle.def_step.specs.Packets.{sender_of, receiver_of}
use Rattle.def_step.specs.Pcom.{Pcom, Call, Gives, Gets, Forces, Checkpoints, Resends, Emits, StepResult, recover_pcom}
use Rattle.def_step.specs.Tcom.{Tcom, recover_tcom}
use Rattle.def_step.specs.Settle.{asked_of}
use Rattle.def_step.specs.World.{World, Node, Runs, Serves, Down, External, Done, DiskOutcome, After, node_at, packet_at, nth, oldest_of, goes, takes_off, world_with, behind, unchanged, just, done_as, answer_stopped, up_answer, is_reached, cut_off, calls, crashes, comes_up, recovers, delivers, delivers_oldest, loses, loses_oldest, happens, happens_as, load_calls}
use Rattle.def_run.specs.SystemStates.{is_of, is_com, without_stop}
use Rattle.def_run.specs.CoreSteps.{is_stopped}
use Rattle.def_facts.specs.Logs.{Logs, log_at}
use Rattle.def_facts.specs.Tcom.{TcomLogFacts}
use Rattle.def_facts.specs.World.{Past, IsExplained, IsExplainedBy, forced_of, forced_logs, is_of_kind, kind_of}
use Rattle.law_replay.proofs.Prefixes.{prefix-self}
use Rattle.law_replay.proofs.Lists.{none-some, empty, head-or-tail, in-head, in-tail, mapped, same-com, self-com}
use Rattle.law_replay.proofs.Members.{found as there-is}
use Rattle.law_pcom.specs.Pending.{PartsStay}
use Rattle.law_pcom.specs.Recovering.{ImagesRead}
use Rattle.law_pcom.specs.Stepping.{got}
use Rattle.law_pcom.specs.Within.{IsGiven, IsWithin}
use Rattle.law_pcom.proofs.Flat.{flat_parts_stay}
use Rattle.def_facts.specs.Flat.{HasFlatParts}
use Rattle.def_facts.specs.Playable.{IsPlayable}
use Rattle.law_step.specs.Steps.{PassesNoLimit, DiskFits, LeavesOne, ReadsImages, here_behind, EventsKeepExplained, EventsGoOn}
use Rattle.law_syntax.specs.Events.{IsEvent, HasHandler, IsCounted}
use Rattle.law_step.proofs.Calls.{Behind, NodeStep, still-node, led, led-down, cut, call-keeps}
use Rattle.law_step.proofs.Lives.{shorter, same-here, taken-off}
use Rattle.law_step.proofs.Nodes.{log-here, log-same}
use Rattle.law_step.proofs.Ordering.{not-both}
use Rattle.law_step.proofs.Recoveries.{down-pcom, comes-up, pcom-recovered, tcom-recovered}

-- nothing happens -----------------------------------------------------------------------------------------

same-world : (program : Program) (found : Logs) (here : ComId → ℕ) (w v : World) (past : Past) → w ≡ v → IsExplainedBy program found here w past → Behind program found here past w v
same-world program found here w v past e f = subst (Behind program found here past w) e (record { lives = here; past = past; explained = f; less = same-here here w; grows = λ c. prefix-self (past.received c) })

-- recoveries ----------------------------------------------------------------------------------------------

least : (n : ℕ) → 0 ≤ n
least n = omega arith

up-step : (program : Program) (found : Logs) (here : ComId → ℕ) (w : World) (past : Past) (c : ComId) (size : ℕ) (log : List Record) (d : Done) → IsExplainedBy program found here w past → node_at w c ≡ Some (Down log) → (is_a_pcom program c ≡ true → ImagesRead program c (past.received c) log) → comes_up program c size log ≡ Some d → NodeStep program found here w past c (Down log) d
up-step program found here w past c size log d f is images e = at (is_a_tcom program c) refl e
  where
    at : (b : Bool) → is_a_tcom program c ≡ b → cond b (option_map (λ x. just (Serves x) answers.Up) (recover_tcom program c size log)) (option_map (λ t. done_as (up_answer t.pcom) t) (recover_pcom program c log)) ≡ Some d → NodeStep program found here w past c (Down log) d
    at true tcom g =
        let x = mapped (λ (x : Tcom). just (Serves x) answers.Up) (recover_tcom program c size log) d g in
        let s = tcom-recovered program found here w past c size log x.0 answers.Up f is tcom x.1 in
        subst (NodeStep program found here w past c (Down log)) x.2 (record {
          got = [];
          life = 0;
          step = s;
          book = λ k. subst (λ z. TcomLogFacts program c (length (log_at found c)) x.0.records z (past.received c ++ [])) (append-nil (past.sent c)) (s.tcom k).1;
          silent = inl refl;
          lives = least 0;
        })
    at false free g =
        let t = mapped (λ (t : StepResult). done_as (up_answer t.pcom) t) (recover_pcom program c log) d g in
        let pcom : is_a_pcom program c ≡ true = down-pcom program c log (ap (is_of_kind (kind_of program c)) (sym is) ∙ f.kinds c) free in
        subst (NodeStep program found here w past c (Down log)) t.2 (record {
          got = [];
          life = 0;
          step = pcom-recovered program found here w past c log t.0 (up_answer t.0.pcom) f is pcom (images pcom) t.1;
          book = λ k. not-both program c pcom k;
          silent = inl (comes-up program c log t.0 t.1).shows;
          lives = least 0;
        })

down-disk : (log : List Record) → Down log ≡ External → ⊥
down-disk log e = cc

recovery-keeps : (program : Program) (found : Logs) (here : ComId → ℕ) (w : World) (past : Past) (e : Event) (x : DiskOutcome) (c : ComId) (a : After) → IsCounted e.stop → IsExplainedBy program found here w past → ((log : List Record) → node_at w c ≡ Some (Down log) → x.found ≡ log) →
    ((log : List Record) → node_at w c ≡ Some (Down log) → is_a_pcom program c ≡ true → ImagesRead program c (past.received c) log) →
    (a.trace.answer ≡ answers.Stopped → (x.left ≡ log_at (forced_logs w) c) ⊎ ((b : After) × (option_map (behind w (without_stop e.what) c) (option_and_then (recovers program c None x) (node_at w c)) ≡ Some b) × (x.left ≡ log_at (forced_logs b.world) c))) →
    option_map (behind w e c) (option_and_then (recovers program c e.stop x) (node_at w c)) ≡ Some a → Behind program found here past w a.world
recovery-keeps program found here w past e x c a counted f loads images left ran =
    let d = mapped (behind w e c) (option_and_then (recovers program c e.stop x) (node_at w c)) a ran in
    by (node_at w c) refl d.0 d.1 d.2
  where
    stays : (node : Node) (d : Done) → node_at w c ≡ Some node → Some (just node answers.Already) ≡ Some d → behind w e c d ≡ a → Behind program found here past w a.world
    stays node d is g same = subst (λ (v : After). Behind program found here past w v.world) same
        (subst (λ z. Behind program found here past w (world_with w c z)) (same_Some (just node answers.Already) d g)
        (let s = still-node program found here w past c node answers.Already f is in led program found here w past c node s.got (just node answers.Already) s.life f s.step s.lives))

    by : (o : Option Node) → node_at w c ≡ o → (d : Done) → option_and_then (recovers program c e.stop x) o ≡ Some d → behind w e c d ≡ a → Behind program found here past w a.world
    by None is d g same = none-some d g
    by (Some (Runs p)) is d g same = stays (Runs p) d is g same
    by (Some (Serves t)) is d g same = stays (Serves t) d is g same
    by (Some External) is d g same = stays External d is g same
    by (Some (Down log)) is d g same = subst (λ (v : After). Behind program found here past w v.world) same (at (is_reached e.stop (load_calls program c)) g)
      where
        up : (u : Done) → comes_up program c x.size x.found ≡ Some u → NodeStep program found here w past c (Down log) u
        up u k = up-step program found here w past c x.size log u f is (images log is) (ap (comes_up program c x.size) (sym (loads log is)) ∙ k)

        told : d.answer ≡ answers.Stopped → a.trace.answer ≡ answers.Stopped
        told k = ap (λ (v : After). v.trace.answer) (sym same) ∙ k

        -- the log behind a recovery that isn't cut off
        came : (b : After) → option_map (behind w (without_stop e.what) c) (option_and_then (recovers program c None x) (node_at w c)) ≡ Some b → (u : Done) × (comes_up program c x.size x.found ≡ Some u) × (log_at (forced_logs b.world) c ≡ forced_of u.node)
        came b k =
            let z = mapped (behind w (without_stop e.what) c) (option_map (cut_off None x (Down log) answers.Stopped) (comes_up program c x.size x.found)) b (sym (ap (λ o. option_map (behind w (without_stop e.what) c) (option_and_then (recovers program c None x) o)) is) ∙ k) in
            let u = mapped (cut_off None x (Down log) answers.Stopped) (comes_up program c x.size x.found) z.0 z.1 in
            (u.0, u.1, ap (λ (v : After). log_at (forced_logs v.world) c) (sym z.2) ∙ ap (λ (v : Done). log_at (forced_logs (world_with w c v)) c) (sym u.2) ∙ log-same forced_of w c u.0 (Down log) is)

        at : (b : Bool) → cond b (Some (just (Down x.left) answers.Stopped)) (option_map (cut_off e.stop x (Down log) answers.Stopped) (comes_up program c x.size x.found)) ≡ Some d → Behind program found here past w (world_with w c d)
        at true k =
            let done : just (Down x.left) answers.Stopped ≡ d = same_Some (just (Down x.left) answers.Stopped) d k in
            subst (λ z. Behind program found here past w (world_with w c z)) done (⊎_elim
            (λ y. led-down program found here w past c (Down log) (just (Down log) answers.Stopped) x.left answers.Stopped f (still-node program found here w past c (Down log) answers.Stopped f is) is (down-disk log) (inl (y ∙ log-here forced_of w c (Down log) is)))
            (λ y. let u = came y.0 y.1 in led-down program found here w past c (Down log) u.0 x.left answers.Stopped f (up u.0 u.1) is (down-disk log) (inr (y.2 ∙ u.2)))
            (left (told (ap (λ (z : Done). z.answer) (sym done)))))
        at false k =
            let z = mapped (cut_off e.stop x (Down log) answers.Stopped) (comes_up program c x.size x.found) d k in
            cut program found here w past c (Down log) z.0 d e.stop x answers.Stopped f (up z.0 z.1) is counted
            (λ t. ⊎_elim (λ y. inl (y ∙ log-here forced_of w c (Down log) is)) (λ y. let u = came y.0 y.1 in inr (y.2 ∙ u.2 ∙ ap (λ (v : Done). forced_of v.node) (same_Some u.0 z.0 (sym u.1 ∙ z.1)))) (left (told t))) z.2

-- crashes ---------------------------------------------------------------------------------------------------

crash-keeps : (program : Program) (found : Logs) (here : ComId → ℕ) (w : World) (past : Past) (e : Event) (c : ComId) (a : After) → IsExplainedBy program found here w past → option_map (λ node. behind w e c (crashes node)) (node_at w c) ≡ Some a → Behind program found here past w a.world
crash-keeps program found here w past e c a f ran =
    let n = mapped (λ node. behind w e c (crashes node)) (node_at w c) a ran in
    subst (λ (v : After). Behind program found here past w v.world) n.2 (by n.0 n.1)
  where
    downs : (node : Node) (answer : Answer) → node_at w c ≡ Some node → (node ≡ External → ⊥) → Behind program found here past w (world_with w c (just (Down (forced_of node)) answer))
    downs node answer is disk = led-down program found here w past c node (just node answer) (forced_of node) answer f (still-node program found here w past c node answer f is) is disk (inl refl)

    by : (node : Node) → node_at w c ≡ Some node → Behind program found here past w (world_with w c (crashes node))
    by (Runs p) is = downs (Runs p) answers.Ended is (λ k. cc)
    by (Serves x) is = downs (Serves x) answers.Ended is (λ k. cc)
    by (Down log) is = downs (Down log) answers.Down is (λ k. cc)
    by External is = let s = still-node program found here w past c External answers.Down f is in led program found here w past c External s.got (just External answers.Down) s.life f s.step s.lives

-- calls -----------------------------------------------------------------------------------------------------

pub stopped-answer : (n : ℕ) (b : Bool) (call : Call) → is_stopped (answer_stopped n b call) ≡ true
stopped-answer n true (Gives handler args) = refl
stopped-answer n false (Gives handler args) = refl
stopped-answer n b (Gets packet) = refl
stopped-answer n b Forces = refl
stopped-answer n b Checkpoints = refl
stopped-answer n b Resends = refl
stopped-answer n b Emits = refl

within-of : (program : Program) (w : World) (what : What) (c : ComId) (call : Call) → call_of w what ≡ Some (called c call) → PassesNoLimit program w what → (p : Pcom) → node_at w c ≡ Some (Runs p) → IsWithin program c p call
within-of program w what c call is x p there =
    subst (λ o. MatchOption o ⊤ (λ node. (size : ℕ) × (node_is_full program c call size node ≡ false))) there
    (subst (λ o. MatchOption o ⊤ (λ z. MatchOption (node_at w z.who) ⊤ (λ node. (size : ℕ) × (node_is_full program z.who z.call size node ≡ false)))) is x)

pub nth-has : {A : Type 0} (xs : List A) (i : ℕ) (x : A) → nth xs i ≡ Some x → Contains xs x
nth-has xs zero x e = none-some x e
nth-has xs (suc i) x e = at xs i e
  where
    at : (zs : List _) (j : ℕ) → slice_get zs j ≡ Some x → Contains zs x
    at [] j f = none-some x f
    at (z ∷ zs) zero f = subst (Contains (z ∷ zs)) (same_Some z x f) (in-head z zs)
    at (z ∷ zs) (suc j) f = in-tail z x zs (at zs j f)

events-lead : (program : Program) (found : Logs) (here : ComId → ℕ) (w : World) (e : Event) (x : DiskOutcome) (a : After) → IsPlayable program → HasFlatParts program → IsEvent program e → PassesNoLimit program w e.what →
    ((c : ComId) → is_of e a.trace c ≡ true → DiskFits program w e x a c) → ReadsImages program found w e.what → happens program w e x ≡ Some a → (f : IsExplained program found here w) → Behind program found here f.0 w a.world
events-lead program found here w e x a good flat own within disk images ran f = by e.what refl ran
  where
    past : Past
    past = f.0

    stay : PartsStay program
    stay = flat_parts_stay program flat

    -- what a stop leaves of the step of this event
    leaves : (c : ComId) → is_of e a.trace c ≡ true → is_stopped a.trace.answer ≡ true → LeavesOne program w e x c
    leaves c is k = (disk c is).left k

    call : (what : What) (w2 : World) (c : ComId) (number : ℕ) (k : Call) → e.what ≡ what → IsExplainedBy program found here w2 f.0 → ((y : Packet) → Contains (got k) y → (receiver_of y ≡ c) × Contains w2.packets y) → ((p : Pcom) → node_at w2 c ≡ Some (Runs p) → IsWithin program c p k) → IsGiven program c k →
        (a.trace.answer ≡ answer_stopped number x.is_open k → is_of e a.trace c ≡ true) → forced_logs w2 ≡ forced_logs w → ((b : After) → happens_as program w (without_stop e.what) x what ≡ Some b → calls program w2 (without_stop e.what) x c number k ≡ Some b) → calls program w2 e x c number k ≡ Some a → Behind program found here f.0 w2 a.world
    call what w2 c number k is g came limit given mine logs alone went =
        call-keeps program found here w2 f.0 e x c number k a good stay own.stop given limit g came
        (λ t. ⊎_elim (λ y. inl (y ∙ ap (λ l. log_at l c) (sym logs))) (λ y. inr (y.0, alone y.0 (ap (happens_as program w (without_stop e.what) x) (sym is) ∙ y.1), y.2)) (leaves c (mine t) (ap is_stopped t ∙ stopped-answer number x.is_open k)))
        went

    here_is : (what : What) (c : ComId) → e.what ≡ what → asked_of what a.trace.answer ≡ Some c → is_of e a.trace c ≡ true
    here_is what c is asked = ap (λ z. is_com c (asked_of z a.trace.answer)) is ∙ ap (is_com c) asked ∙ self-com c

    plain : (what : What) (c : ComId) (k : Call) → got k ≡ [] → e.what ≡ what → call_of w what ≡ Some (called c k) → IsGiven program c k → asked_of what a.trace.answer ≡ Some c → ((b : After) → happens_as program w (without_stop e.what) x what ≡ Some b → calls program w (without_stop e.what) x c 0 k ≡ Some b) → calls program w e x c 0 k ≡ Some a → Behind program found here f.0 w a.world
    plain what c k nothing is called_is given asked alone went =
        call what w c 0 k is f.1 (λ y h. empty y (subst (λ l. Contains l y) nothing h)) (within-of program w what c k called_is (subst (PassesNoLimit program w) is within)) given (λ t. here_is what c is asked) refl alone went

    -- a packet that is delivered
    delivered : (what : What) (i : ℕ) (p : Packet) → e.what ≡ what → packet_at w i ≡ Some p → call_of w what ≡ Some (delivery_of p) → (a.trace.answer ≡ answers.Packet i p fates.Stopped → asked_of what a.trace.answer ≡ Some (receiver_of p)) →
        ((b : After) → happens_as program w (without_stop e.what) x what ≡ Some b → calls program (takes_off w i) (without_stop e.what) x (receiver_of p) i (Gets p) ≡ Some b) → calls program (takes_off w i) e x (receiver_of p) i (Gets p) ≡ Some a → Behind program found here f.0 (takes_off w i) a.world
    delivered what i p is there called_is asked alone went =
        call what (takes_off w i) (receiver_of p) i (Gets p) is (taken-off program found here w f.0 i f.1)
        (λ y h. ⊎_elim (λ same. (ap receiver_of (sym same), subst (Contains w.packets) same (nth-has w.packets i p there))) (λ k. empty y k) (head-or-tail p y [] h))
        (within-of program w what (receiver_of p) (Gets p) called_is (subst (PassesNoLimit program w) is within)) tt (λ t. here_is what (receiver_of p) is (asked t)) refl alone went

    by_number : (what : What) (i : ℕ) (o : Option Packet) → e.what ≡ what → packet_at w i ≡ o → ((p : Packet) → o ≡ Some p → call_of w what ≡ Some (delivery_of p)) → ((p : Packet) → o ≡ Some p → a.trace.answer ≡ answers.Packet i p fates.Stopped → asked_of what a.trace.answer ≡ Some (receiver_of p)) →
        ((b : After) → happens_as program w (without_stop e.what) x what ≡ Some b → delivers program w (without_stop e.what) x i o ≡ Some b) → delivers program w e x i o ≡ Some a → Behind program found here f.0 w a.world
    by_number what i None is there called_is asked alone went = same-world program found here w a.world f.0 (ap (λ (v : After). v.world) (same_Some (unchanged w e answers.Unknown) a went)) f.1
    by_number what i (Some p) is there called_is asked alone went = widen (delivered what i p is there (called_is p refl) (asked p refl) alone went)
      where
        widen : Behind program found here f.0 (takes_off w i) a.world → Behind program found here f.0 w a.world
        widen b = record { lives = b.lives; past = b.past; explained = b.explained; less = b.less; grows = b.grows }

    by : (what : What) → e.what ≡ what → happens_as program w e x what ≡ Some a → Behind program found here f.0 w a.world
    by (Input c handler args) is went = plain (Input c handler args) c (Gives handler args) refl is refl (subst (HasHandler program) is own.handler) refl (λ b k. k) went
    by (Force c) is went = plain (Force c) c Forces refl is refl tt refl (λ b k. k) went
    by (Checkpoint c) is went = plain (Checkpoint c) c Checkpoints refl is refl tt refl (λ b k. k) went
    by (Resend c) is went = plain (Resend c) c Resends refl is refl tt refl (λ b k. k) went
    by (Emit c) is went = plain (Emit c) c Emits refl is refl tt refl (λ b k. k) went
    by (Numbered i) is went = by_number (Numbered i) i (packet_at w i) is refl (λ p k. ap (option_map delivery_of) k) (λ p k t. ap (asked_of (Numbered i)) t) (λ b k. k) went
    by (Deliver from to) is went = oldest (oldest_of w from to) refl went
      where
        to_is : (i : ℕ) (p : Packet) → oldest_of w from to ≡ Some i → packet_at w i ≡ Some p → to ≡ receiver_of p
        to_is i p o k =
            let z = there-is (λ j. goes from to (packet_at w j)) w.waiting i o in
            same-com to (receiver_of p) (and_parts (same_com from (sender_of p)) (same_com to (receiver_of p)) (subst (λ u. goes from to u ≡ true) k z.1)).1

        oldest : (o : Option ℕ) → oldest_of w from to ≡ o → delivers_oldest program w e x o ≡ Some a → Behind program found here f.0 w a.world
        oldest None o went2 = same-world program found here w a.world f.0 (ap (λ (v : After). v.world) (same_Some (unchanged w e answers.Empty) a went2)) f.1
        oldest (Some i) o went2 = by_number (Deliver from to) i (packet_at w i) is refl
            (λ p k. ap (λ u. option_map delivery_of (option_and_then (packet_at w) u)) o ∙ ap (option_map delivery_of) k)
            (λ p k t. ap (λ z. Some z) (to_is i p o k))
            (λ b k. sym (ap (delivers_oldest program w (without_stop e.what) x) o) ∙ k) went2
    by (Lose from to) is went = lost (oldest_of w from to) (same_Some (loses_oldest w e (oldest_of w from to)) a went)
      where
        gone : (i : ℕ) (o : Option Packet) → loses w e i o ≡ a → Behind program found here f.0 w a.world
        gone i None k = same-world program found here w a.world f.0 (ap (λ (v : After). v.world) k) f.1
        gone i (Some p) k = subst (λ (v : After). Behind program found here f.0 w v.world) k (record { lives = here; past = f.0; explained = taken-off program found here w f.0 i f.1; less = same-here here w; grows = λ c. prefix-self (f.0.received c) })

        lost : (o : Option ℕ) → loses_oldest w e o ≡ a → Behind program found here f.0 w a.world
        lost None k = same-world program found here w a.world f.0 (ap (λ (v : After). v.world) k) f.1
        lost (Some i) k = gone i (packet_at w i) k
    by (Crash c) is went = crash-keeps program found here w f.0 e c a f.1 went
    by (Recover c) is went =
        recovery-keeps program found here w f.0 e x c a own.stop f.1 (λ log there. (disk c mine).found log there)
        (λ log there pcom. (subst (ReadsImages program found w) is images) log here f.0 there pcom f.1)
        (λ t. ⊎_elim (λ y. inl y) (λ y. inr (y.0, ap (happens_as program w (without_stop e.what) x) (sym is) ∙ y.1, y.2)) (leaves c mine (ap is_stopped t)))
        went
      where
        mine : is_of e a.trace c ≡ true
        mine = ap (λ z. is_com c (asked_of z a.trace.answer)) is ∙ self-com c

pub events_go_on : EventsGoOn
events_go_on program found here w e x a past good flat own within disk images ran f =
    let b = events-lead program found here w e x a good flat own within disk images ran (past, f) in
    (b.past, shorter program found b.lives (here_behind here w a.world) a.world b.past b.less b.explained, b.grows)

pub events_keep_explained : EventsKeepExplained
events_keep_explained program found here w e x a good flat own within disk images ran f =
    let b = events_go_on program found here w e x a f.0 good flat own within disk images ran f.1 in (b.0, b.1)
