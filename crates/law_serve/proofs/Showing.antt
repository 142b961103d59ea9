-- What an event without a stop does to the log of a Pcom: its input stands behind all that was recorded before, what is shown is recorded as
-- shown, and no other event records that an output was shown.
use Rattle.std.proofs.Common.{◌≡◌, ◌∙◌, refl, ap, sym, subst, ℕ, ◌+◌, ◌≤◌, arith, Bool, true, false, cond, ◌||◌, List, [], ◌∷◌, ◌++◌, ℤ, Option, Some, None, option_map, option_and_then, is_some, ◌⊎◌, inl, inr}
use Rattle.std.specs.Prelude.{⊤}
use Rattle.std.specs.List.{list_any}
use Rattle.std.proofs.lemmas.List.{append-nil, append_assoc}
use Rattle.std.proofs.lemmas.Option.{same_Some}
use Rattle.ic_base.specs.declared.messages.ComId.{ComId}
use Rattle.ic_base.specs.declared.messages.Decision.{Decision}
use Rattle.ic_base.specs.declared.messages.Decision.TheVariants.{Committed, Aborted}
use Rattle.ic_base.specs.declared.messages.Output.{Output}
use Rattle.ic_base.specs.declared.messages.Packet.{Packet}
use Rattle.ic_base.specs.declared.messages.Session.{Session}
use Rattle.ic_base.specs.declared.messages.Packet.TheVariants as packets
use Rattle.ic_base.specs.declared.events.Answer.TheVariants as answers
use Rattle.ic_base.specs.declared.events.Event.{Event}
use Rattle.ic_base.specs.declared.events.What.{What}
use Rattle.ic_base.specs.declared.events.What.TheVariants.{Input, Deliver, Lose, Packet as Numbered, Force, Checkpoint, Resend, Emit, Crash, Recover}
use Rattle.ic_base.specs.declared.record.Record.{Record}
use Rattle.ic_base.specs.declared.record.Record.TheVariants as records
use Rattle.ic_base.specs.declared.scenario.Program.{Program}
use Rattle.ic_base.specs.Programs.{is_a_pcom, is_a_tcom}
use Rattle.def_facts.specs.Logs.{log_at, last_shown}
use Rattle.def_facts.specs.World.{forced_of, records_of, forced_logs, whole_logs, is_of_kind, kind_of}
use Rattle.def_run.specs.CrashFree.{is_received}
use Rattle.def_state.specs.Inbox
use Rattle.def_state.specs.Outbox
use Rattle.def_state.specs.Shelf
use Rattle.def_state.specs.Txn
use Rattle.def_step.specs.Calls.{Called as Asked, called, call_of, delivery_of}
use Rattle.def_step.specs.Packets.{fits_pcom}
use Rattle.def_step.specs.Pcom.{Took, Pcom, Log, Call, Gives, Gets, Forces, Checkpoints, Resends, Emits, StepResult, Effects, all_of, forced_end, in_hand, is_replaying, just_tail, nothing_at_all, on_reply, on_outcome, on_packet, decide, carry_out, force_where, absorb_choice, told, after_tail, tail_packets, came_to_first, came_further, replay_step, pcom_step, recover_pcom}
use Rattle.def_step.specs.Tcom.{recover_tcom}
use Rattle.def_step.specs.World.{World, Node, Runs, Serves, Down, External, Done, DiskOutcome, After, node_at, packet_at, oldest_of, showing_with, behind, just, does, does_or_stops, done_as, answer_of, answer_stopped, input_answer, cut_off, calls, crashes, comes_up, up_answer, happens, happens_as}
use Rattle.law_replay.proofs.Lists.{none-some, true-false, mapped}
use Rattle.law_settle.proofs.Walks.{StepsKeep, event_holds}
use Rattle.law_settle.proofs.Worlds.{anything}
use Rattle.law_step.proofs.Choices.{is_shown, none-shown}
use Rattle.law_step.proofs.Gaining.{MayBe, pcom-may}
use Rattle.law_step.proofs.Nodes.{log-same}
use Rattle.law_step.proofs.Ordering.{not-both}
use Rattle.law_step.proofs.Recoveries.{comes-up}
use Rattle.law_step.proofs.Shapes.{Shape, step-shape, carried-log}

-- only what emits shows --------------------------------------------------------------------------------

either : (b : Bool) (x y : Effects) → x.shown ≡ None → y.shown ≡ None → (cond b x y).shown ≡ None
either true x y f g = f
either false x y f g = g

module _ (program : Program) (c : ComId) (p : Pcom) where
  reply-silent : (n place : ℕ) (session : Session) (o : Option ℤ) → (on_reply program c p.vol n place session o).shown ≡ None
  reply-silent n place session None = refl
  reply-silent n place session (Some value) = refl

  outcome-silent : (o : Option Decision) → (on_outcome p.vol o).shown ≡ None
  outcome-silent None = refl
  outcome-silent (Some (Committed stamp)) = refl
  outcome-silent (Some (Aborted cause)) = refl

  packet-silent : (packet : Packet) → (on_packet program c p packet).shown ≡ None
  packet-silent (packets.Data m) = either (Inbox.is_taken p.vol.inbox (record { peer = m.from; k = m.k })) _ _ refl (either (in_hand p) _ _ refl refl)
  packet-silent (packets.Stable from to k) = refl
  packet-silent (packets.Installed from to k) = either (Outbox.is_held p.vol.outbox (record { peer = from; k = k })) _ _ refl refl
  packet-silent (packets.Fetch from to k) = refl
  packet-silent (packets.OpReply from to n place session value) = reply-silent n place session (Txn.reply p.vol.txn (packets.OpReply from to n place session value))
  packet-silent (packets.Outcome from to n place session decision) = outcome-silent (Txn.outcome p.vol.txn (packets.Outcome from to n place session decision))
  packet-silent (packets.Op from to n place session request) = refl
  packet-silent (packets.Commit from to n place session stamp) = refl
  packet-silent (packets.Drop from to n) = refl

  decide-silent : (call : Call) → (call ≡ Emits → ⊥) → (decide program c p call).shown ≡ None
  decide-silent (Gives handler args) isnt = either (in_hand p) _ _ refl refl
  decide-silent (Gets packet) isnt = either (fits_pcom program c packet) _ _ (packet-silent packet) refl
  decide-silent Forces isnt = refl
  decide-silent Checkpoints isnt = either (in_hand p) _ _ refl refl
  decide-silent Resends isnt = refl
  decide-silent Emits isnt = absurd (isnt refl)

  carried-shown : (d : Effects) → (carry_out program c p d).shown ≡ d.shown
  carried-shown d = at d.is_quiet
    where
      q : Pcom
      q = force_where p.vol d (absorb_choice program c d p)

      at : (b : Bool) → (cond b (told q d.answers d) (told (after_tail q) (d.answers ++ tail_packets c (came_to_first p.vol q.vol || came_further p.vol q.vol) q) d)).shown ≡ d.shown
      at true = refl
      at false = refl

  -- no record of it is Shown
  step-silent : (call : Call) (t : StepResult) → (call ≡ Emits → ⊥) → pcom_step program c p call ≡ Some t → (s : Shape p call t) → list_any is_shown s.adds ≡ false
  step-silent call t isnt ran s = at s.shows
    where
      going : (b : Bool) → b ≡ false → cond b (replay_step program c p call) (Some (carry_out program c p (decide program c p call))) ≡ Some t → t.shown ≡ None
      going true up f = absurd (cc up)
      going false up f = ap (λ (z : StepResult). z.shown) (sym (same_Some (carry_out program c p (decide program c p call)) t f)) ∙ carried-shown (decide program c p call) ∙ decide-silent call isnt

      at : ((t.shown ≡ None) × (list_any is_shown s.adds ≡ false)) ⊎ ((o : Output) × (t.shown ≡ Some o) × (Shelf.next_due p.vol.shelf (forced_end p) ≡ Some o) × (s.adds ≡ records.Shown o.m ∷ []) × (t.pcom.log.forced ≡ p.log.forced) × (is_replaying p ≡ false)) → list_any is_shown s.adds ≡ false
      at (inl y) = y.1
      at (inr y) = none-some y.0 (sym (going (is_replaying p) y.5 ran) ∙ y.1)

-- a log that has no more as shown ----------------------------------------------------------------------

-- forced records or all, it has no more as shown than this
abbrev pub IsLow : ℕ → Node → Type 0
IsLow high n = (last_shown (records_of n) ≤ high) × (last_shown (forced_of n) ≤ high)

no-more : (xs ys : List Record) (high : ℕ) → ys ≡ xs → last_shown xs ≤ high → last_shown ys ≤ high
no-more xs ys high same low = subst (λ l. last_shown l ≤ high) (sym same) low

pcom-low : (program : Program) (c : ComId) (p : Pcom) (call : Call) (t : StepResult) (high : ℕ) → (s : Shape p call t) → list_any is_shown s.adds ≡ false → IsLow high (Runs p) → IsLow high (Runs t.pcom)
pcom-low program c p call t high s silent low = (all, by s.forced)
  where
    all : last_shown (all_of t.pcom.log) ≤ high
    all = omega (arith, ap last_shown s.all, none-shown (all_of p.log) s.adds silent, low.0)

    by : (t.pcom.log.forced ≡ p.log.forced) ⊎ (t.pcom.log.forced ≡ all_of t.pcom.log) → last_shown t.pcom.log.forced ≤ high
    by (inl same) = no-more p.log.forced t.pcom.log.forced high same low.1
    by (inr same) = no-more (all_of t.pcom.log) t.pcom.log.forced high same all

does-low : (program : Program) (c : ComId) (n : Node) (number : ℕ) (call : Call) (d : Done) (high : ℕ) → MayBe n → (call ≡ Emits → ⊥) → does program c n number call ≡ Some d → IsLow high n → IsLow high d.node
does-low program c (Runs p) number call d high may isnt ran low =
    let t = mapped (λ t. done_as (answer_of p number call t) t) (pcom_step program c p call) d ran in
    let s = step-shape program c p call t.0 t.1 in
    subst (λ (z : Done). IsLow high z.node) t.2 (pcom-low program c p call t.0 high s (step-silent program c p call t.0 isnt t.1 s) low)
does-low program c (Serves x) number call d high may isnt ran low = absurd may
does-low program c (Down log) number call d high may isnt ran low = subst (λ (z : Done). IsLow high z.node) (same_Some _ d ran) low
does-low program c External number call d high may isnt ran low = absurd may

crash-low : (n : Node) (high : ℕ) → IsLow high n → IsLow high (crashes n).node
crash-low (Runs p) high low = (low.1, low.1)
crash-low (Serves x) high low = low
crash-low (Down log) high low = low
crash-low External high low = low

up-low : (program : Program) (c : ComId) (size : ℕ) (log : List Record) (d : Done) (high : ℕ) → is_a_pcom program c ≡ true → comes_up program c size log ≡ Some d → last_shown log ≤ high → IsLow high d.node
up-low program c size log d high pcom e low = at (is_a_tcom program c) refl e
  where
    at : (b : Bool) → is_a_tcom program c ≡ b → cond b (option_map (λ x. just (Serves x) answers.Up) (recover_tcom program c size log)) (option_map (λ t. done_as (up_answer t.pcom) t) (recover_pcom program c log)) ≡ Some d → IsLow high d.node
    at true tcom g = not-both program c pcom tcom
    at false free g =
        let t = mapped (λ (t : StepResult). done_as (up_answer t.pcom) t) (recover_pcom program c log) d g in
        let is = (comes-up program c log t.0 t.1).is_log in
        subst (λ (z : Done). IsLow high z.node) t.2 (no-more log (all_of t.0.pcom.log) high (ap all_of is ∙ append-nil log) low, no-more log t.0.pcom.log.forced high (ap (λ (l : Log). l.forced) is) low)

-- an event of which a call emits
emits-only : (w : World) (what : What) (d : ComId) (call : Call) → call_of w what ≡ Some (called d call) → call ≡ Emits → what ≡ Emit d
emits-only w (Emit c) d call e emits = ap (λ x. Emit x) (ap (λ (z : Asked). z.who) (same_Some (called c Emits) (called d call) e))
emits-only w (Input c handler args) d call e emits = let k : Gives handler args ≡ Emits = ap (λ (z : Asked). z.call) (same_Some (called c (Gives handler args)) (called d call) e) ∙ emits in absurd (cc k)
emits-only w (Force c) d call e emits = let k : Forces ≡ Emits = ap (λ (z : Asked). z.call) (same_Some (called c Forces) (called d call) e) ∙ emits in absurd (cc k)
emits-only w (Checkpoint c) d call e emits = let k : Checkpoints ≡ Emits = ap (λ (z : Asked). z.call) (same_Some (called c Checkpoints) (called d call) e) ∙ emits in absurd (cc k)
emits-only w (Resend c) d call e emits = let k : Resends ≡ Emits = ap (λ (z : Asked). z.call) (same_Some (called c Resends) (called d call) e) ∙ emits in absurd (cc k)
emits-only w (Deliver from to) d call e emits =
    let m = mapped delivery_of (option_and_then (packet_at w) (oldest_of w from to)) (called d call) e in
    let k : Gets m.0 ≡ Emits = ap (λ (z : Asked). z.call) m.2 ∙ emits in absurd (cc k)
emits-only w (Numbered i) d call e emits =
    let m = mapped delivery_of (packet_at w i) (called d call) e in
    let k : Gets m.0 ≡ Emits = ap (λ (z : Asked). z.call) m.2 ∙ emits in absurd (cc k)
emits-only w (Lose from to) d call e emits = none-some (called d call) e
emits-only w (Crash c) d call e emits = none-some (called d call) e
emits-only w (Recover c) d call e emits = none-some (called d call) e

-- the events -------------------------------------------------------------------------------------------

module _ (program : Program) (w : World) (e : Event) (x : DiskOutcome) (a : After) (none : e.stop ≡ None) (ran : happens program w e x ≡ Some a) (kinds : (d : ComId) → is_of_kind (kind_of program d) (node_at w d) ≡ true) (c : ComId) (pcom : is_a_pcom program c ≡ true) (old : Node) (there : node_at w c ≡ Some old) where
  -- where the event doesn't emit
  pub quiet-low : (high : ℕ) → (e.what ≡ Emit c → ⊥) → ((log : List Record) → old ≡ Down log → e.what ≡ Recover c → x.found ≡ log) → IsLow high old → (new : Node) → node_at a.world c ≡ Some new → IsLow high new
  quiet-low high isnt found low new now = (event_holds program P (λ q. ⊤) w e x a (record { nodes = λ d n at same. start d n at same; packets = anything w.packets }) keeps ran).nodes c new now refl
    where
      P : ComId → Node → Type 0
      P d n = d ≡ c → IsLow high n

      start : (d : ComId) (n : Node) → node_at w d ≡ Some n → d ≡ c → IsLow high n
      start d n at same = subst (IsLow high) (same_Some old n (sym there ∙ ap (node_at w) (sym same) ∙ at)) low

      keeps : StepsKeep program P (λ q. ⊤) w e x a
      keeps = record {
        left = λ d stop stopped asked. true-false (sym (ap is_some none) ∙ stop);
        crashed = λ d n k. record { node = λ same. crash-low n high (k same); puts = anything (crashes n).puts };
        done = λ d n number call y of at k f. record {
          node = λ same.
              does-low program d n number call y high (pcom-may program d n (subst (λ o. is_of_kind (kind_of program d) o ≡ true) at (kinds d)) (subst (λ z. is_a_pcom program z ≡ true) (sym same) pcom))
              (λ emits. isnt (emits-only w e.what d call of emits ∙ ap (λ z. Emit z) same)) f (k same);
          puts = anything y.puts;
        };
        up = λ d log y is at f. record {
          node = λ same.
              let here : old ≡ Down log = same_Some old (Down log) (sym there ∙ ap (node_at w) (sym same) ∙ at) in
              let had : last_shown log ≤ high = (subst (IsLow high) here low).0 in
              up-low program d x.size x.found y high (subst (λ z. is_a_pcom program z ≡ true) (sym same) pcom) f (subst (λ l. last_shown l ≤ high) (sym (found log here (is ∙ ap (λ z. Recover z) same))) had);
          puts = anything y.puts;
        };
      }

  -- a call on c, which no stop cuts off
  record Called (call : Call) : Type 0 where
    done : Done
    does : does program c old 0 call ≡ Some done
    is : behind w e c done ≡ a

  called-so : (call : Call) → calls program w e x c 0 call ≡ Some a → Called call
  called-so call went =
      let m = mapped (behind w e c) (option_and_then (λ node. does_or_stops program c node e.stop x 0 call) (node_at w c)) a went in
      let went_there : does_or_stops program c old e.stop x 0 call ≡ Some m.0 = sym (ap (option_and_then (λ node. does_or_stops program c node e.stop x 0 call)) there) ∙ m.1 in
      let free : does_or_stops program c old None x 0 call ≡ Some m.0 = subst (λ s. does_or_stops program c old s x 0 call ≡ Some m.0) none went_there in
      let y = mapped (cut_off None x old (answer_stopped 0 x.is_open call)) (does program c old 0 call) m.0 free in
      record { done = m.0; does = y.1 ∙ ap (λ z. Some z) y.2; is = m.2 }

  whole-is : (d : Done) → behind w e c d ≡ a → log_at (whole_logs a.world) c ≡ records_of d.node
  whole-is d is = ap (λ (z : After). log_at (whole_logs z.world) c) (sym is) ∙ log-same records_of w c d old there

  forced-is : (d : Done) → behind w e c d ≡ a → log_at (forced_logs a.world) c ≡ forced_of d.node
  forced-is d is = ap (λ (z : After). log_at (forced_logs z.world) c) (sym is) ∙ log-same forced_of w c d old there

  -- what it shows is recorded
  shown-by : (n : Node) (d : Done) → MayBe n → records_of old ≡ records_of n → does program c n 0 Emits ≡ Some d → behind w e c d ≡ a → (high : ℕ) → IsLow high old → ((d.shown ≡ None) × (last_shown (records_of d.node) ≤ high)) ⊎ ((o : Output) × (d.shown ≡ Some o) × (records_of d.node ≡ records_of old ++ records.Shown o.m ∷ []))
  shown-by (Runs p) d may here f is high low =
      let t = mapped (λ t. done_as (answer_of p 0 Emits t) t) (pcom_step program c p Emits) d f in
      let s = step-shape program c p Emits t.0 t.1 in
      let P : Done → Type 0 = λ z. ((z.shown ≡ None) × (last_shown (records_of z.node) ≤ high)) ⊎ ((o : Output) × (z.shown ≡ Some o) × (records_of z.node ≡ records_of old ++ records.Shown o.m ∷ [])) in
      subst P t.2 (at t.0 s s.shows)
    where
      at : (t : StepResult) (s : Shape p Emits t) → ((t.shown ≡ None) × (list_any is_shown s.adds ≡ false)) ⊎ ((o : Output) × (t.shown ≡ Some o) × (Shelf.next_due p.vol.shelf (forced_end p) ≡ Some o) × (s.adds ≡ records.Shown o.m ∷ []) × (t.pcom.log.forced ≡ p.log.forced) × (is_replaying p ≡ false))
          → ((t.shown ≡ None) × (last_shown (all_of t.pcom.log) ≤ high)) ⊎ ((o : Output) × (t.shown ≡ Some o) × (all_of t.pcom.log ≡ records_of old ++ records.Shown o.m ∷ []))
      at t s (inl y) = inl (y.0, omega (arith, ap last_shown s.all, none-shown (all_of p.log) s.adds y.1, ap last_shown here, low.0))
      at t s (inr y) = inr (y.0, y.1, s.all ∙ ap (λ l. all_of p.log ++ l) y.3 ∙ ap (λ l. l ++ records.Shown y.0.m ∷ []) (sym here))
  shown-by (Serves t) d may here f is high low = absurd may
  shown-by (Down log) d may here f is high low =
      let same : just (Down log) answers.Down ≡ d = same_Some (just (Down log) answers.Down) d f in
      inl (ap (λ (z : Done). z.shown) (sym same), no-more (records_of old) (records_of d.node) high (ap (λ (z : Done). records_of z.node) (sym same) ∙ sym here) low.0)
  shown-by External d may here f is high low = absurd may

  may-be : MayBe old
  may-be = pcom-may program c old (subst (λ o. is_of_kind (kind_of program c) o ≡ true) there (kinds c)) pcom

  pub emitted : e.what ≡ Emit c → (high : ℕ) → IsLow high old → ((a.trace.shown ≡ None) × (last_shown (log_at (whole_logs a.world) c) ≤ high)) ⊎ ((o : Output) × (again : Bool) × (a.trace.shown ≡ Some (o, again)) × (log_at (whole_logs a.world) c ≡ records_of old ++ records.Shown o.m ∷ []))
  emitted is high low = by (shown-by old k.done may-be refl k.does k.is high low)
    where
      k : Called Emits
      k = called-so Emits (sym (ap (happens_as program w e x) is) ∙ ran)

      told-is : a.trace.shown ≡ option_map (showing_with w c) k.done.shown
      told-is = ap (λ (z : After). z.trace.shown) (sym k.is)

      by : ((k.done.shown ≡ None) × (last_shown (records_of k.done.node) ≤ high)) ⊎ ((o : Output) × (k.done.shown ≡ Some o) × (records_of k.done.node ≡ records_of old ++ records.Shown o.m ∷ []))
          → ((a.trace.shown ≡ None) × (last_shown (log_at (whole_logs a.world) c) ≤ high)) ⊎ ((o : Output) × (again : Bool) × (a.trace.shown ≡ Some (o, again)) × (log_at (whole_logs a.world) c ≡ records_of old ++ records.Shown o.m ∷ []))
      by (inl y) = inl (told-is ∙ ap (option_map (showing_with w c)) y.0, no-more (records_of k.done.node) (log_at (whole_logs a.world) c) high (whole-is k.done k.is) y.1)
      by (inr y) = inr (y.0, (showing_with w c y.0).1, told-is ∙ ap (option_map (showing_with w c)) y.1, whole-is k.done k.is ∙ y.2)

  -- an input that is received stands behind all that was recorded before
  received-by : (handler : ℕ) (args : List ℤ) (n : Node) (d : Done) → MayBe n → records_of old ≡ records_of n → does program c n 0 (Gives handler args) ≡ Some d → is_received d.answer ≡ true → (stamp : ℕ) × (forced_of d.node ≡ records_of old ++ records.Input stamp handler args ∷ [])
  received-by handler args (Runs p) d may here f got =
      let t = mapped (λ t. done_as (answer_of p 0 (Gives handler args) t) t) (pcom_step program c p (Gives handler args)) d f in
      let answer : input_answer p ≡ d.answer = ap (λ (z : Done). z.answer) t.2 in
      let free = input-free (is_replaying p) (in_hand p) (ap is_received answer ∙ got) in
      let ran : carry_out program c p (decide program c p (Gives handler args)) ≡ t.0 = same_Some _ t.0 (sym (ap (λ b. cond b (replay_step program c p (Gives handler args)) (Some (carry_out program c p (decide program c p (Gives handler args))))) free.0) ∙ t.1) in
      let chosen : Effects = record just_tail { word = Took; adds = records.Input (p.vol.clock + 1) handler args ∷ []; forces = true } in
      let choice : decide program c p (Gives handler args) ≡ chosen = ap (λ b. cond b nothing_at_all chosen) free.1 in
      let log : t.0.pcom.log.forced ≡ p.log.forced ++ (p.log.buffered ++ records.Input (p.vol.clock + 1) handler args ∷ []) = ap (λ (z : StepResult). z.pcom.log.forced) (sym ran) ∙ ap (λ d. (carry_out program c p d).pcom.log.forced) choice ∙ ap (λ (l : Log). l.forced) (carried-log program c p chosen) in
      (p.vol.clock + 1, ap (λ (z : Done). forced_of z.node) (sym t.2) ∙ log ∙ sym (append_assoc p.log.forced p.log.buffered (records.Input (p.vol.clock + 1) handler args ∷ [])) ∙ ap (λ l. l ++ records.Input (p.vol.clock + 1) handler args ∷ []) (sym here))
    where
      input-free : (a b : Bool) → is_received (cond a answers.MissedReplaying (cond b answers.MissedBusy answers.Taken)) ≡ true → (a ≡ false) × (b ≡ false)
      input-free true b e = absurd (cc e)
      input-free false true e = absurd (cc e)
      input-free false false e = (refl, refl)
  received-by handler args (Serves t) d may here f got = absurd may
  received-by handler args (Down log) d may here f got = true-false (ap (λ (z : Done). is_received z.answer) (same_Some (just (Down log) answers.MissedDown) d f) ∙ got)
  received-by handler args External d may here f got = absurd may

  pub received : (handler : ℕ) (args : List ℤ) → e.what ≡ Input c handler args → is_received a.trace.answer ≡ true → (stamp : ℕ) × (log_at (forced_logs a.world) c ≡ records_of old ++ records.Input stamp handler args ∷ [])
  received handler args is got =
      let k = called-so (Gives handler args) (sym (ap (happens_as program w e x) is) ∙ ran) in
      let answered : a.trace.answer ≡ k.done.answer = ap (λ (z : After). z.trace.answer) (sym k.is) in
      let z = received-by handler args old k.done may-be refl k.does (ap is_received (sym answered) ∙ got) in
      (z.0, forced-is k.done k.is ∙ z.1)
