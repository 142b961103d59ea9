-- A call on a component keeps the world explained, its stop reached or not.
use Rattle.std.proofs.Common.{◌≡◌, refl, ◌∙◌, ap, sym, subst, ℕ, ◌<◌, ◌≤◌, Bool, true, false, cond, nat_le, fold, List, [], ◌∷◌, ◌++◌, length, Option, Some, None, option_map, option_and_then, option_to_list, ◌⊎◌, inl, inr, ⊎_elim, arith}
use Rattle.std.specs.Prelude.{Contains, IsTrue, MatchOption, ⊤}
use Rattle.std.proofs.lemmas.List.{append-nil}
use Rattle.std.proofs.lemmas.Option.{same_Some}
use Rattle.ic_base.specs.declared.messages.ComId.{ComId}
use Rattle.ic_base.specs.declared.messages.Output.{Output}
use Rattle.ic_base.specs.declared.messages.Packet.{Packet}
use Rattle.ic_base.specs.declared.events.Answer.{Answer}
use Rattle.ic_base.specs.declared.events.Answer.TheVariants as answers
use Rattle.ic_base.specs.declared.events.Event.{Event}
use Rattle.ic_base.specs.declared.events.Stop.{Stop}
use Rattle.ic_base.specs.declared.scenario.Program.{Program}
use Rattle.ic_base.specs.declared.record.Record.{Record}
use Rattle.ic_base.specs.Programs.{same_com, is_a_tcom}
use Rattle.def_step.specs.Packets.{receiver_of}
use Rattle.def_step.specs.Pcom.{Pcom, Call, Gives, Gets, Forces, Checkpoints, Resends, Emits, pcom_step}
use Rattle.def_step.specs.World.{World, Node, Runs, Serves, Down, External, Done, DiskOutcome, After, node_at, world_with, behind, just, done_as, tcom_does, does, does_or_stops, answer_of, answer_down, answer_stopped, device_calls, is_reached, cut_off, calls}
use Rattle.def_run.specs.SystemStates.{without_stop}
use Rattle.def_facts.specs.Logs.{Logs, log_at, IsPrefixOf}
use Rattle.def_facts.specs.Playable.{IsPlayable}
use Rattle.def_facts.specs.Tcom.{TcomLogFacts}
use Rattle.def_facts.specs.World.{Past, IsExplainedBy, IsServed, forced_of, records_of, forced_logs, is_of_kind, kind_of}
use Rattle.law_replay.proofs.Prefixes.{prefix-self}
use Rattle.law_replay.proofs.Lists.{none-some, true-false, in-head, mapped}
use Rattle.law_tcom.proofs.Recovering.{moments_keep_logs}
use Rattle.law_pcom.specs.Pending.{PartsStay}
use Rattle.law_pcom.specs.Stepping.{got}
use Rattle.law_pcom.specs.Within.{IsGiven, IsWithin}
use Rattle.law_step.specs.Steps.{life_of, here_behind}
use Rattle.law_syntax.specs.Events.{IsCounted}
use Rattle.law_step.proofs.Lives.{behind-here}
use Rattle.law_step.proofs.Nodes.{log-here, log-same}
use Rattle.law_step.proofs.Ordering.{not-both}
use Rattle.law_step.proofs.PcomSteps.{runs-pcom}
use Rattle.law_step.proofs.PcomStepped.{shown_or, pcom-stepped}
use Rattle.law_step.proofs.Shapes.{step-shape}
use Rattle.law_step.proofs.Stepped.{Stepped, stepped, past_with, here_with}
use Rattle.law_step.proofs.Stops.{still-stepped, stopped, node-book, found-within}
use Rattle.law_step.proofs.TcomStepped.{tcom-stepped}

-- a world behind, explained by some past
pub record Behind (program : Program) (found : Logs) (here : ComId → ℕ) (from : Past) (w v : World) : Type 0 where
  pub lives : ComId → ℕ
  pub past : Past
  pub explained : IsExplainedBy program found lives v past
  pub less : (c : ComId) → here_behind here w v c ≤ lives c
  -- it goes on from the past before
  pub grows : (c : ComId) → IsPrefixOf (from.received c) (past.received c)

-- what a component does, without its stop
pub record NodeStep (program : Program) (found : Logs) (here : ComId → ℕ) (w : World) (past : Past) (c : ComId) (node : Node) (d : Done) : Type 0 where
  pub got : List Packet
  pub life : ℕ
  pub step : Stepped program found w past c node got d life
  pub book : IsTrue (is_a_tcom program c) → TcomLogFacts program c (length (log_at found c)) (records_of d.node) (past.sent c) (past.received c ++ got)
  pub silent : (d.shown ≡ None) ⊎ (forced_of d.node ≡ forced_of node)
  pub lives : life_of (here c) (option_to_list d.shown) (Some node) (Some d.node) ≤ life

self : (n : ℕ) → n ≤ n
self n = omega arith

least : (n : ℕ) → 0 ≤ n
least n = omega arith

shown-life : (n : ℕ) (o : Option Output) → fold (λ m y. y.m) n (option_to_list o) ≤ shown_or n o
shown-life n None = self n
shown-life n (Some o) = self o.m

same-node-life : (n : ℕ) (node : Node) → life_of n [] (Some node) (Some node) ≤ n
same-node-life n (Runs p) = self n
same-node-life n (Serves x) = least n
same-node-life n (Down log) = least n
same-node-life n External = least n

pub still-node : (program : Program) (found : Logs) (here : ComId → ℕ) (w : World) (past : Past) (c : ComId) (node : Node) (answer : Answer) → IsExplainedBy program found here w past → node_at w c ≡ Some node → NodeStep program found here w past c node (just node answer)
still-node program found here w past c node answer f is = record {
  got = [];
  life = here c;
  step = still-stepped program found here w past c node answer f is;
  book = λ t. subst (TcomLogFacts program c (length (log_at found c)) (records_of node) (past.sent c)) (sym (append-nil (past.received c))) (node-book program found here w past c node f is t).1;
  silent = inl refl;
  lives = same-node-life (here c) node;
}

pub node-step : (program : Program) (found : Logs) (here : ComId → ℕ) (w : World) (past : Past) (c : ComId) (node : Node) (number : ℕ) (call : Call) (d : Done) → IsPlayable program → PartsStay program → IsGiven program c call → ((p : Pcom) → node ≡ Runs p → IsWithin program c p call) → IsExplainedBy program found here w past → node_at w c ≡ Some node →
    ((x : Packet) → Contains (got call) x → (receiver_of x ≡ c) × Contains w.packets x) → does program c node number call ≡ Some d → NodeStep program found here w past c node d
node-step program found here w past c (Runs p) number call d good stay given within f is came e =
    let t = mapped (λ t. done_as (answer_of p number call t) t) (pcom_step program c p call) d e in
    subst (NodeStep program found here w past c (Runs p)) t.2 (record {
      got = got call;
      life = shown_or (here c) t.0.shown;
      step = pcom-stepped program found here w past c p call t.0 (answer_of p number call t.0) good stay given (within p refl) f is came t.1;
      book = λ k. not-both program c (runs-pcom program c p (ap (is_of_kind (kind_of program c)) (sym is) ∙ f.kinds c)) k;
      silent = ⊎_elim (λ y. inl y.0) (λ y. inr y.4) (step-shape program c p call t.0 t.1).shows;
      lives = shown-life (here c) t.0.shown;
    })
node-step program found here w past c (Serves x) number call d good stay given within f is came e = by call came (same_Some (tcom_does program c x number call) d e)
  where
    by : (k : Call) → ((y : Packet) → Contains (got k) y → (receiver_of y ≡ c) × Contains w.packets y) → tcom_does program c x number k ≡ d → NodeStep program found here w past c (Serves x) d
    by (Gives handler args) came2 same = subst (NodeStep program found here w past c (Serves x)) same (still-node program found here w past c (Serves x) answers.Idle f is)
    by Forces came2 same = subst (NodeStep program found here w past c (Serves x)) same (still-node program found here w past c (Serves x) answers.Idle f is)
    by Checkpoints came2 same = subst (NodeStep program found here w past c (Serves x)) same (still-node program found here w past c (Serves x) answers.Idle f is)
    by Resends came2 same = subst (NodeStep program found here w past c (Serves x)) same (still-node program found here w past c (Serves x) answers.Idle f is)
    by Emits came2 same = subst (NodeStep program found here w past c (Serves x)) same (still-node program found here w past c (Serves x) answers.Idle f is)
    by (Gets p) came2 same =
        let y = came2 p (in-head p []) in
        let s = tcom-stepped program found here w past c x number p f is y.0 y.1 in
        subst (NodeStep program found here w past c (Serves x)) same (record {
          got = p ∷ [];
          life = here c;
          step = s;
          book = λ k.
              let z = node-book program found here w past c (Serves x) f is k in
              (moments_keep_logs program c (length (log_at found c)) x (past.sent c) (past.received c) p y.0 (within-book k) (subst (λ o. MatchOption o ⊤ (IsServed program c (past.sent c) (past.received c))) is (f.tcoms c)) z.1).1;
          silent = inl refl;
          lives = least (here c);
        })
      where
        within-book : IsTrue (is_a_tcom program c) → length (log_at found c) ≤ length x.records
        within-book k = found-within program found here w past c (Serves x) f is
node-step program found here w past c (Down log) number call d good stay given within f is came e =
    subst (NodeStep program found here w past c (Down log)) (same_Some (just (Down log) (answer_down number call)) d e) (still-node program found here w past c (Down log) (answer_down number call) f is)
node-step program found here w past c External number call d good stay given within f is came e =
    subst (NodeStep program found here w past c External) (same_Some (just External answers.Idle) d e) (still-node program found here w past c External answers.Idle f is)

-- a stop ------------------------------------------------------------------------------------------------

-- a stop that is reached is at a component that has a disk
pub reached-disk : (stop : Option Stop) (free : Bool) (node later : Node) → IsCounted stop → is_reached stop (device_calls free node later) ≡ true → node ≡ External → ⊥
reached-disk None free node later counted e is = true-false e
reached-disk (Some stop) free node later counted e is = none stop.call counted (ap (λ n. nat_le stop.call (device_calls free n later)) (sym is) ∙ e)
  where
    none : (n : ℕ) → 0 < n → nat_le n 0 ≡ true → ⊥
    none n lt f = grind (arith, lt, f)

down-life : (n : ℕ) (new : List Output) (node : Node) (log : List Record) → life_of n new (Some node) (Some (Down log)) ≤ 0
down-life n new (Runs p) log = least 0
down-life n new (Serves x) log = least 0
down-life n new (Down l) log = least 0
down-life n new External log = least 0

received-grows : (past : Past) (c : ComId) (puts got : List Packet) (e : ComId) → IsPrefixOf (past.received e) ((past_with past c puts got).received e)
received-grows past c puts came e = at (same_com c e)
  where
    at : (b : Bool) → IsPrefixOf (past.received e) (cond b (past.received e ++ came) (past.received e))
    at true = (came, refl)
    at false = prefix-self (past.received e)

-- what a component did leads to an explained world
pub led : (program : Program) (found : Logs) (here : ComId → ℕ) (w : World) (past : Past) (c : ComId) (node : Node) (got : List Packet) (d : Done) (life : ℕ) → IsExplainedBy program found here w past → Stepped program found w past c node got d life → life_of (here c) (option_to_list d.shown) (Some node) (Some d.node) ≤ life → Behind program found here past w (world_with w c d)
led program found here w past c node got d life f s le = record {
  lives = here_with here c life;
  past = past_with past c d.puts got;
  explained = stepped program found here w past c node got d life f s;
  less = behind-here here w c node d life s.is_node le;
  grows = λ e. received-grows past c d.puts got e;
}

-- cut off, it leaves its log as it was or as the step left it
pub led-down : (program : Program) (found : Logs) (here : ComId → ℕ) (w : World) (past : Past) (c : ComId) (node : Node) (d : Done) (log : List Record) (answer : Answer) → IsExplainedBy program found here w past → NodeStep program found here w past c node d → node_at w c ≡ Some node → (node ≡ External → ⊥) →
    (log ≡ forced_of node) ⊎ (log ≡ forced_of d.node) → Behind program found here past w (world_with w c (just (Down log) answer))
led-down program found here w past c node d log answer f s is disk left = ⊎_elim before after left
  where
    before : log ≡ forced_of node → Behind program found here past w (world_with w c (just (Down log) answer))
    before e = subst (λ l. Behind program found here past w (world_with w c (just (Down l) answer))) (sym e)
        (let z = still-node program found here w past c node answer f is in
        led program found here w past c node z.got (just (Down (forced_of node)) answer) 0 f (stopped program found here w past c node z.got (just node answer) z.life answer f z.step disk z.book refl) (down-life (here c) [] node (forced_of node)))

    after : log ≡ forced_of d.node → Behind program found here past w (world_with w c (just (Down log) answer))
    after e = ⊎_elim
        (λ none. subst (λ l. Behind program found here past w (world_with w c (just (Down l) answer))) (sym e)
        (led program found here w past c node s.got (just (Down (forced_of d.node)) answer) 0 f (stopped program found here w past c node s.got d s.life answer f s.step disk s.book none) (down-life (here c) [] node (forced_of d.node))))
        (λ same. before (e ∙ same)) s.silent

-- a step with its stop, reached or not
pub cut : (program : Program) (found : Logs) (here : ComId → ℕ) (w : World) (past : Past) (c : ComId) (node : Node) (d later : Done) (stop : Option Stop) (x : DiskOutcome) (answer : Answer) → IsExplainedBy program found here w past → NodeStep program found here w past c node d → node_at w c ≡ Some node → IsCounted stop →
    (later.answer ≡ answer → (x.left ≡ forced_of node) ⊎ (x.left ≡ forced_of d.node)) → cut_off stop x node answer d ≡ later → Behind program found here past w (world_with w c later)
cut program found here w past c node d later stop x answer f s is counted left e = at (is_reached stop (device_calls x.free node d.node)) refl e
  where
    at : (b : Bool) → is_reached stop (device_calls x.free node d.node) ≡ b → cond b (just (Down x.left) answer) d ≡ later → Behind program found here past w (world_with w c later)
    at false reached same = subst (λ z. Behind program found here past w (world_with w c z)) same (led program found here w past c node s.got d s.life f s.step s.lives)
    at true reached same = subst (λ z. Behind program found here past w (world_with w c z)) same
        (led-down program found here w past c node d x.left answer f s is (reached-disk stop x.free node d.node counted reached) (left (ap (λ (z : Done). z.answer) (sym same))))

-- the world behind a call without its stop
pub unstopped : (program : Program) (w : World) (e : Event) (x : DiskOutcome) (c : ComId) (number : ℕ) (call : Call) (a : After) (node : Node) (d : Done) → node_at w c ≡ Some node → does program c node number call ≡ Some d → calls program w (without_stop e.what) x c number call ≡ Some a → log_at (forced_logs a.world) c ≡ forced_of d.node
unstopped program w e x c number call a node d is does_it ran =
    let same : behind w (without_stop e.what) c d ≡ a = same_Some (behind w (without_stop e.what) c d) a
    (sym (ap (λ o. option_map (behind w (without_stop e.what) c) (option_and_then (λ n. does_or_stops program c n None x number call) o)) is ∙ ap (λ o. option_map (behind w (without_stop e.what) c) (option_map (cut_off None x node (answer_stopped number x.is_open call)) o)) does_it) ∙ ran)
    in
    ap (λ (z : After). log_at (forced_logs z.world) c) (sym same) ∙ log-same forced_of w c d node is

pub call-keeps : (program : Program) (found : Logs) (here : ComId → ℕ) (w : World) (past : Past) (e : Event) (x : DiskOutcome) (c : ComId) (number : ℕ) (call : Call) (a : After) → IsPlayable program → PartsStay program → IsCounted e.stop → IsGiven program c call → ((p : Pcom) → node_at w c ≡ Some (Runs p) → IsWithin program c p call) →
    IsExplainedBy program found here w past → ((y : Packet) → Contains (got call) y → (receiver_of y ≡ c) × Contains w.packets y) →
    (a.trace.answer ≡ answer_stopped number x.is_open call → (x.left ≡ log_at (forced_logs w) c) ⊎ ((b : After) × (calls program w (without_stop e.what) x c number call ≡ Some b) × (x.left ≡ log_at (forced_logs b.world) c))) →
    calls program w e x c number call ≡ Some a → Behind program found here past w a.world
call-keeps program found here w past e x c number call a good stay counted given within f came left ran =
    let d = mapped (behind w e c) (option_and_then (λ node. does_or_stops program c node e.stop x number call) (node_at w c)) a ran in
    by (node_at w c) refl d.0 d.1 d.2
  where
    by : (o : Option Node) → node_at w c ≡ o → (d : Done) → option_and_then (λ node. does_or_stops program c node e.stop x number call) o ≡ Some d → behind w e c d ≡ a → Behind program found here past w a.world
    by None is d f2 same = none-some d f2
    by (Some node) is d f2 same =
        let z = mapped (cut_off e.stop x node (answer_stopped number x.is_open call)) (does program c node number call) d f2 in
        let s = node-step program found here w past c node number call z.0 good stay given (λ p k. within p (is ∙ ap (λ n. Some n) k)) f is came z.1 in
        subst (λ (v : After). Behind program found here past w v.world) same
        (cut program found here w past c node z.0 d e.stop x (answer_stopped number x.is_open call) f s is counted
        (λ told. ⊎_elim (λ k. inl (k ∙ log-here forced_of w c node is)) (λ k. inr (k.2 ∙ unstopped program w e x c number call k.0 node z.0 is z.1 k.1)) (left (ap (λ (v : After). v.trace.answer) (sym same) ∙ told)))
        z.2)
