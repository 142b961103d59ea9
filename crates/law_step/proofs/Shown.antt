-- What an event shows is above all that its component showed in its present life.
use Rattle.std.proofs.Common.{◌≡◌, refl, ◌∙◌, ap, sym, subst, ℕ, ◌<◌, Bool, true, false, cond, List, [], drop, length, Option, Some, None, option_map, option_and_then, option_to_list, ⊎_elim, arith}
use Rattle.std.specs.Prelude.{Contains, MatchOption, ⊤}
use Rattle.std.proofs.Math.Seq.{drop-length}
use Rattle.std.proofs.lemmas.Option.{same_Some}
use Rattle.ic_base.specs.declared.messages.ComId.{ComId}
use Rattle.ic_base.specs.declared.messages.Output.{Output}
use Rattle.ic_base.specs.declared.messages.Packet.{Packet}
use Rattle.ic_base.specs.declared.events.Answer.{Answer}
use Rattle.ic_base.specs.declared.events.Answer.TheVariants as answers
use Rattle.ic_base.specs.declared.events.Event.{Event}
use Rattle.ic_base.specs.declared.events.Stop.{Stop}
use Rattle.ic_base.specs.declared.events.What.{What}
use Rattle.ic_base.specs.declared.events.What.TheVariants.{Input, Deliver, Lose, Packet as Numbered, Force, Checkpoint, Resend, Emit, Crash, Recover}
use Rattle.ic_base.specs.declared.scenario.Program.{Program}
use Rattle.ic_base.specs.declared.record.Record.{Record}
use Rattle.ic_base.specs.Programs.{same_com, is_a_pcom, is_a_tcom}
use Rattle.def_step.specs.Packets.{receiver_of}
use Rattle.def_step.specs.Pcom.{Pcom, Call, Gives, Gets, Forces, Checkpoints, Resends, Emits, StepResult, all_of, pcom_step, recover_pcom}
use Rattle.def_step.specs.Tcom.{Tcom, recover_tcom}
use Rattle.def_step.specs.World.{World, Node, Runs, Serves, Down, External, Done, DiskOutcome, After, node_at, packet_at, oldest_of, takes_off, world_with, behind, unchanged, just, done_as, does, does_or_stops, tcom_does, answer_of, answer_stopped, up_answer, device_calls, is_reached, cut_off, calls, crashes, comes_up, recovers, delivers, delivers_oldest, loses, loses_oldest, happens_as, load_calls}
use Rattle.def_facts.specs.Logs.{Logs, log_at}
use Rattle.def_facts.specs.Pcom.{state_after}
use Rattle.def_facts.specs.World.{Past, ShowingFacts, IsExplainedBy, IsMirrored, is_of_kind, kind_of, shown_by}
use Rattle.law_replay.proofs.Lists.{none-some, none-is, empty, head-or-tail, mapped, open-content, same-com}
use Rattle.law_step.specs.Steps.{newly_shown, GoesOn, ShowingsGoOn}
use Rattle.law_step.proofs.Nodes.{node-same}
use Rattle.law_step.proofs.Lives.{new-ones, taken-off}
use Rattle.law_step.proofs.PcomSteps.{runs-pcom}
use Rattle.law_step.proofs.PcomStepped.{due-next}
use Rattle.law_step.proofs.Recoveries.{comes-up}
use Rattle.law_step.proofs.Shapes.{step-shape}
use Rattle.law_step.proofs.Stepped.{shown-same, shown-other}
use Rattle.law_step.proofs.Stops.{node-logs, node-showing}

-- what a component does shows nothing, or an output above those of its life
abbrev pub Fresh : ℕ → Node → Done → Type 0
Fresh here node d = (o : Output) → d.shown ≡ Some o → (here < o.m) × ((p : Pcom) × (node ≡ Runs p)) × ((q : Pcom) × (d.node ≡ Runs q))

pub none-fresh : (here : ℕ) (node : Node) (d : Done) → d.shown ≡ None → Fresh here node d
none-fresh here node d e o is = absurd (none-is o (sym is ∙ e))

pcom-fresh : (program : Program) (found : Logs) (here : ComId → ℕ) (w : World) (past : Past) (c : ComId) (p : Pcom) (call : Call) (t : StepResult) (answer : Answer) → IsExplainedBy program found here w past → node_at w c ≡ Some (Runs p) → pcom_step program c p call ≡ Some t → Fresh (here c) (Runs p) (done_as answer t)
pcom-fresh program found here w past c p call t answer f is e o shown =
    let pcom : is_a_pcom program c ≡ true = runs-pcom program c p (ap (is_of_kind (kind_of program c)) (sym is) ∙ f.kinds c) in
    let h = open-content (λ h. ShowingFacts (log_at found c) p.log.forced (all_of p.log) (here c) h (shown_by c w.showings)) (state_after program c (past.received c) p.log.forced) (node-showing program found here w past c (Runs p) f is pcom) in
    ⊎_elim (λ y. absurd (none-is o (sym shown ∙ y.0)))
    (λ y.
    let same : y.0 ≡ o = same_Some y.0 o (sym y.1 ∙ shown) in
    let next = due-next program c (past.sent c) (past.received c) p (node-logs program found here w past c (Runs p) f is pcom) (subst (λ u. MatchOption u ⊤ (IsMirrored program c (past.received c))) is (f.pcoms c)) y.5 y.0 y.2 in
    (omega (arith, next, h.2.here_recorded, ap (λ (z : Output). z.m) same), (p, refl), (t.pcom, refl)))
    (step-shape program c p call t e).shows

does-fresh : (program : Program) (found : Logs) (here : ComId → ℕ) (w : World) (past : Past) (c : ComId) (node : Node) (number : ℕ) (call : Call) (d : Done) → IsExplainedBy program found here w past → node_at w c ≡ Some node → does program c node number call ≡ Some d → Fresh (here c) node d
does-fresh program found here w past c (Runs p) number call d f is e =
    let t = mapped (λ t. done_as (answer_of p number call t) t) (pcom_step program c p call) d e in
    subst (Fresh (here c) (Runs p)) t.2 (pcom-fresh program found here w past c p call t.0 (answer_of p number call t.0) f is t.1)
does-fresh program found here w past c (Serves x) number call d f is e = by call (same_Some (tcom_does program c x number call) d e)
  where
    by : (k : Call) → tcom_does program c x number k ≡ d → Fresh (here c) (Serves x) d
    by (Gives handler args) same = none-fresh (here c) (Serves x) d (ap (λ (v : Done). v.shown) (sym same))
    by (Gets p) same = none-fresh (here c) (Serves x) d (ap (λ (v : Done). v.shown) (sym same))
    by Forces same = none-fresh (here c) (Serves x) d (ap (λ (v : Done). v.shown) (sym same))
    by Checkpoints same = none-fresh (here c) (Serves x) d (ap (λ (v : Done). v.shown) (sym same))
    by Resends same = none-fresh (here c) (Serves x) d (ap (λ (v : Done). v.shown) (sym same))
    by Emits same = none-fresh (here c) (Serves x) d (ap (λ (v : Done). v.shown) (sym same))
does-fresh program found here w past c (Down log) number call d f is e = none-fresh (here c) (Down log) d (ap (λ (v : Done). v.shown) (sym (same_Some _ d e)))
does-fresh program found here w past c External number call d f is e = none-fresh (here c) External d (ap (λ (v : Done). v.shown) (sym (same_Some _ d e)))

pub cut-fresh : (here : ℕ) (stop : Option Stop) (x : DiskOutcome) (node : Node) (answer : Answer) (d later : Done) → Fresh here node d → cut_off stop x node answer d ≡ later → Fresh here node later
cut-fresh here stop x node answer d later f e = at (is_reached stop (device_calls x.free node d.node)) e
  where
    at : (b : Bool) → cond b (just (Down x.left) answer) d ≡ later → Fresh here node later
    at true k = none-fresh here node later (ap (λ (v : Done). v.shown) (sym k))
    at false k = subst (Fresh here node) k f

-- so is what an event of c shows
New : (ComId → ℕ) → World → World → Type 0
New here w v = (c : ComId) (o : Output) → Contains (newly_shown c w v) o → GoesOn here w v c o

new-of : (here : ComId → ℕ) (w : World) (c : ComId) (node : Node) (d : Done) → node_at w c ≡ Some node → Fresh (here c) node d → New here w (world_with w c d)
unfolding New
new-of here w c node d is fresh e o h = by (same_com c e) refl
  where
    here-only : Contains (newly_shown c w (world_with w c d)) o → GoesOn here w (world_with w c d) c o
    here-only k = at d.shown refl (subst (λ l. Contains l o) (new-ones w c c d ∙ shown-same c [] d.shown) k)
      where
        at : (u : Option Output) → d.shown ≡ u → Contains (option_to_list u) o → GoesOn here w (world_with w c d) c o
        at None g i = empty o i
        at (Some y) g i =
            let same : y ≡ o = ⊎_elim (λ z. z) (λ z. absurd (empty o z)) (head-or-tail y o [] i) in
            let f = fresh o (g ∙ ap Some same) in
            record {
              above = f.0;
              alone = new-ones w c c d ∙ shown-same c [] d.shown ∙ ap option_to_list (g ∙ ap Some same);
              ran = (f.1.0, is ∙ ap Some f.1.1);
              runs = (f.2.0, node-same w c d node is ∙ ap Some f.2.1);
            }

    by : (b : Bool) → same_com c e ≡ b → GoesOn here w (world_with w c d) e o
    by false apart = empty o (subst (λ l. Contains l o) (new-ones w c e d ∙ shown-other c e [] d.shown apart) h)
    by true same = subst (λ z. GoesOn here w (world_with w c d) z o) (same-com c e same) (here-only (subst (λ z. Contains (newly_shown z w (world_with w c d)) o) (sym (same-com c e same)) h))

same-new : (here : ComId → ℕ) (w v : World) → w.showings ≡ v.showings → New here w v
unfolding New
same-new here w v e c o h = empty o (subst (λ l. Contains (shown_by c l) o) (ap (drop (length w.showings)) (sym e) ∙ drop-length w.showings) h)

calls-new : (program : Program) (found : Logs) (here : ComId → ℕ) (w : World) (past : Past) (e : Event) (x : DiskOutcome) (c : ComId) (number : ℕ) (call : Call) (a : After) → IsExplainedBy program found here w past → calls program w e x c number call ≡ Some a → New here w a.world
calls-new program found here w past e x c number call a f ran =
    let d = mapped (behind w e c) (option_and_then (λ node. does_or_stops program c node e.stop x number call) (node_at w c)) a ran in
    by (node_at w c) refl d.0 d.1 d.2
  where
    by : (o : Option Node) → node_at w c ≡ o → (d : Done) → option_and_then (λ node. does_or_stops program c node e.stop x number call) o ≡ Some d → behind w e c d ≡ a → New here w a.world
    by None is d g same = none-some d g
    by (Some node) is d g same =
        let z = mapped (cut_off e.stop x node (answer_stopped number x.is_open call)) (does program c node number call) d g in
        subst (λ (v : After). New here w v.world) same (new-of here w c node d is (cut-fresh (here c) e.stop x node (answer_stopped number x.is_open call) z.0 d (does-fresh program found here w past c node number call z.0 f is z.1) z.2))

pub up-silent : (program : Program) (c : ComId) (size : ℕ) (log : List Record) (d : Done) → comes_up program c size log ≡ Some d → d.shown ≡ None
up-silent program c size log d e = at (is_a_tcom program c) e
  where
    at : (b : Bool) → cond b (option_map (λ x. just (Serves x) answers.Up) (recover_tcom program c size log)) (option_map (λ t. done_as (up_answer t.pcom) t) (recover_pcom program c log)) ≡ Some d → d.shown ≡ None
    at true g = let x = mapped (λ (x : Tcom). just (Serves x) answers.Up) (recover_tcom program c size log) d g in ap (λ (v : Done). v.shown) (sym x.2)
    at false g = let t = mapped (λ (t : StepResult). done_as (up_answer t.pcom) t) (recover_pcom program c log) d g in ap (λ (v : Done). v.shown) (sym t.2) ∙ (comes-up program c log t.0 t.1).shows

pub recovery-silent : (program : Program) (c : ComId) (stop : Option Stop) (x : DiskOutcome) (node : Node) (d : Done) → recovers program c stop x node ≡ Some d → d.shown ≡ None
recovery-silent program c stop x (Runs p) d e = ap (λ (v : Done). v.shown) (sym (same_Some _ d e))
recovery-silent program c stop x (Serves t) d e = ap (λ (v : Done). v.shown) (sym (same_Some _ d e))
recovery-silent program c stop x External d e = ap (λ (v : Done). v.shown) (sym (same_Some _ d e))
recovery-silent program c stop x (Down log) d e = at (is_reached stop (load_calls program c)) e
  where
    cut : (u : Done) → u.shown ≡ None → cut_off stop x (Down log) answers.Stopped u ≡ d → d.shown ≡ None
    cut u none same = by (is_reached stop (device_calls x.free (Down log) u.node)) same
      where
        by : (b : Bool) → cond b (just (Down x.left) answers.Stopped) u ≡ d → d.shown ≡ None
        by true k = ap (λ (v : Done). v.shown) (sym k)
        by false k = ap (λ (v : Done). v.shown) (sym k) ∙ none

    at : (b : Bool) → cond b (Some (just (Down x.left) answers.Stopped)) (option_map (cut_off stop x (Down log) answers.Stopped) (comes_up program c x.size x.found)) ≡ Some d → d.shown ≡ None
    at true k = ap (λ (v : Done). v.shown) (sym (same_Some _ d k))
    at false k = let z = mapped (cut_off stop x (Down log) answers.Stopped) (comes_up program c x.size x.found) d k in cut z.0 (up-silent program c x.size x.found z.0 z.1) z.2

pub crash-silent : (node : Node) → (crashes node).shown ≡ None
crash-silent (Runs p) = refl
crash-silent (Serves x) = refl
crash-silent (Down log) = refl
crash-silent External = refl

pub showings_go_on : ShowingsGoOn
unfolding New
showings_go_on program found here w e x a f ran = by e.what ran
  where
    delivered : (i : ℕ) (o : Option Packet) → delivers program w e x i o ≡ Some a → New here w a.world
    delivered i None went = same-new here w a.world (ap (λ (v : After). v.world.showings) (same_Some (unchanged w e answers.Unknown) a went))
    delivered i (Some p) went = λ c o h. let g = calls-new program found here (takes_off w i) f.0 e x (receiver_of p) i (Gets p) a (taken-off program found here w f.0 i f.1) went c o h in
        record { above = g.above; alone = g.alone; ran = g.ran; runs = g.runs }

    lost : (o : Option ℕ) → loses_oldest w e o ≡ a → w.showings ≡ a.world.showings
    lost None k = ap (λ (v : After). v.world.showings) k
    lost (Some i) k = gone (packet_at w i) k
      where
        gone : (o : Option Packet) → loses w e i o ≡ a → w.showings ≡ a.world.showings
        gone None g = ap (λ (v : After). v.world.showings) g
        gone (Some p) g = ap (λ (v : After). v.world.showings) g

    by : (what : What) → happens_as program w e x what ≡ Some a → New here w a.world
    by (Input c handler args) went = calls-new program found here w f.0 e x c 0 (Gives handler args) a f.1 went
    by (Force c) went = calls-new program found here w f.0 e x c 0 Forces a f.1 went
    by (Checkpoint c) went = calls-new program found here w f.0 e x c 0 Checkpoints a f.1 went
    by (Resend c) went = calls-new program found here w f.0 e x c 0 Resends a f.1 went
    by (Emit c) went = calls-new program found here w f.0 e x c 0 Emits a f.1 went
    by (Numbered i) went = delivered i (packet_at w i) went
    by (Deliver from to) went = oldest (oldest_of w from to) went
      where
        oldest : (o : Option ℕ) → delivers_oldest program w e x o ≡ Some a → New here w a.world
        oldest None k = same-new here w a.world (ap (λ (v : After). v.world.showings) (same_Some (unchanged w e answers.Empty) a k))
        oldest (Some i) k = delivered i (packet_at w i) k
    by (Lose from to) went = same-new here w a.world (lost (oldest_of w from to) (same_Some (loses_oldest w e (oldest_of w from to)) a went))
    by (Crash c) went =
        let n = mapped (λ node. behind w e c (crashes node)) (node_at w c) a went in
        subst (λ (v : After). New here w v.world) n.2 (new-of here w c n.0 (crashes n.0) n.1 (none-fresh (here c) n.0 (crashes n.0) (crash-silent n.0)))
    by (Recover c) went =
        let d = mapped (behind w e c) (option_and_then (recovers program c e.stop x) (node_at w c)) a went in
        subst (λ (v : After). New here w v.world) d.2 (silent (node_at w c) refl d.0 d.1)
      where
        silent : (o : Option Node) → node_at w c ≡ o → (d : Done) → option_and_then (recovers program c e.stop x) o ≡ Some d → New here w (world_with w c d)
        silent None is d k = none-some d k
        silent (Some node) is d k = new-of here w c node d is (none-fresh (here c) node d (recovery-silent program c e.stop x node d k))
