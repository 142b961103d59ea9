-- Along the events of a run each message that the records of a Pcom take by its identity stays among the packets.
use Rattle.std.proofs.Common.{◌≡◌, refl, ◌∙◌, ap, sym, subst, ℕ, Bool, true, false, cond, List, [], ◌∷◌, Option, Some, None, is_some, option_map, inl, inr}
use Rattle.std.specs.Prelude.{⊤, Contains, unwrap_or}
use Rattle.std.specs.List.{AllByRecursion}
use Rattle.std.proofs.lemmas.List.{append-nil}
use Rattle.std.proofs.lemmas.List.Elements.{Contains-append_left}
use Rattle.std.proofs.lemmas.Option.{same_Some}
use Rattle.ic_base.specs.declared.messages.ComId.{ComId}
use Rattle.ic_base.specs.declared.messages.Packet.{Packet}
use Rattle.ic_base.specs.declared.events.Answer.TheVariants as answers
use Rattle.ic_base.specs.declared.events.Event.{Event}
use Rattle.ic_base.specs.declared.events.What.TheVariants.{Recover}
use Rattle.ic_base.specs.declared.record.Record.{Record}
use Rattle.ic_base.specs.declared.scenario.Program.{Program}
use Rattle.ic_base.specs.Programs.{is_a_pcom, is_a_tcom}
use Rattle.def_step.specs.Calls.{called}
use Rattle.def_step.specs.Pcom.{Call, StepResult, all_of, pcom_step, recover_pcom}
use Rattle.def_step.specs.Settle.{asked_of}
use Rattle.def_step.specs.Tcom.{recover_tcom}
use Rattle.def_step.specs.World.{World, Node, Runs, Serves, Down, External, DiskOutcome, Done, After, just, done_as, answer_of, answer_down, up_answer, node_at, crashes, does, comes_up, happens}
use Rattle.def_facts.specs.Logs.{log_at}
use Rattle.def_facts.specs.World.{forced_of, records_of, forced_logs, is_of_kind, kind_of}
use Rattle.def_run.specs.CoreSteps.{is_stopped}
use Rattle.def_run.specs.SystemStates.{is_of, is_com, without_stop}
use Rattle.law_replay.proofs.Lists.{mapped, in-head, in-tail, empty, self-com, true-false}
use Rattle.law_settle.proofs.Walks.{event_holds, called_packet}
use Rattle.law_settle.proofs.Worlds.{anything}
use Rattle.law_step.specs.Inputs.{DiskTells}
use Rattle.law_step.specs.Steps.{LeavesByGate}
use Rattle.law_step.proofs.Gaining.{MayBe, pcom-may}
use Rattle.law_step.proofs.Nodes.{log-is, log-here}
use Rattle.law_step.proofs.Ordering.{not-both}
use Rattle.law_step.proofs.Recoveries.{comes-up}
use Rattle.law_failover.proofs.Taken.{AllAtHand, CallBrings, step-at-hand, call-brings}

-- of a component, wherever it stands
abbrev pub TakesAtHand : ComId → List Packet → World → Type 0
TakesAtHand c packets w = (n : Node) → node_at w c ≡ Some n → AllAtHand c packets (records_of n)

all-in : (ps all : List Packet) → ((q : Packet) → Contains ps q → Contains all q) → AllByRecursion (λ q. Contains all q) ps
all-in [] all f = tt
all-in (p ∷ ps) all f = (f p (in-head p ps), all-in ps all (λ q h. f q (in-tail p q ps h)))

-- of the records that are forced
forced-among : (c : ComId) (packets : List Packet) (n : Node) → AllAtHand c packets (records_of n) → AllAtHand c packets (forced_of n)
forced-among c packets (Runs p) f r h = f r (Contains-append_left p.log.forced p.log.buffered r h)
forced-among c packets (Serves x) f r h = f r h
forced-among c packets (Down log) f r h = f r h
forced-among c packets External f r h = f r h

forced-at-hand : (c : ComId) (packets : List Packet) (w : World) → TakesAtHand c packets w → AllAtHand c packets (log_at (forced_logs w) c)
forced-at-hand c packets w f = at (node_at w c) refl
  where
    at : (o : Option Node) → node_at w c ≡ o → AllAtHand c packets (log_at (forced_logs w) c)
    at None is = subst (AllAtHand c packets) (sym (log-is forced_of w c ∙ ap (λ o. unwrap_or (option_map forced_of o) []) is)) (λ r h. empty r h)
    at (Some n) is = subst (AllAtHand c packets) (sym (log-here forced_of w c n is)) (forced-among c packets n (f n is))

module _ (program : Program) (w : World) (c : ComId) (kinds : (d : ComId) → is_of_kind (kind_of program d) (node_at w d) ≡ true) (pcom : is_a_pcom program c ≡ true) where
  does-at-hand : (d : ComId) (n : Node) (number : ℕ) (call : Call) (y : Done) → MayBe n → CallBrings d w.packets call → does program d n number call ≡ Some y → AllAtHand d w.packets (records_of n) → AllAtHand d w.packets (records_of y.node)
  does-at-hand d (Runs p) number call y may brings ran f =
      let t = mapped (λ u. done_as (answer_of p number call u) u) (pcom_step program d p call) y ran in
      subst (λ (z : Done). AllAtHand d w.packets (records_of z.node)) t.2 (step-at-hand d w.packets program p call t.0 brings t.1 f)
  does-at-hand d (Serves x) number call y may brings ran f = absurd may
  does-at-hand d (Down log) number call y may brings ran f = subst (λ (z : Done). AllAtHand d w.packets (records_of z.node)) (same_Some (just (Down log) (answer_down number call)) y ran) f
  does-at-hand d External number call y may brings ran f = absurd may

  up-records : (d : ComId) (size : ℕ) (log : List Record) (y : Done) → is_a_pcom program d ≡ true → comes_up program d size log ≡ Some y → records_of y.node ≡ log
  up-records d size log y own e = at (is_a_tcom program d) refl e
    where
      at : (b : Bool) → is_a_tcom program d ≡ b → cond b (option_map (λ x. just (Serves x) answers.Up) (recover_tcom program d size log)) (option_map (λ t. done_as (up_answer t.pcom) t) (recover_pcom program d log)) ≡ Some y → records_of y.node ≡ log
      at true tcom g = not-both program d own tcom
      at false free g =
          let t = mapped (λ (t : StepResult). done_as (up_answer t.pcom) t) (recover_pcom program d log) y g in
          ap (λ (z : Done). records_of z.node) (sym t.2) ∙ ap all_of (comes-up program d log t.0 t.1).is_log ∙ append-nil log

  crash-at-hand : (d : ComId) (n : Node) → AllAtHand d w.packets (records_of n) → AllAtHand d w.packets (records_of (crashes n).node)
  crash-at-hand d (Runs p) f = forced-among d w.packets (Runs p) f
  crash-at-hand d (Serves x) f = f
  crash-at-hand d (Down log) f = f
  crash-at-hand d External f = f

  -- behind an event, whatever its stop leaves
  walks : (e : Event) (x : DiskOutcome) (a : After) → (is_some e.stop ≡ true → is_stopped a.trace.answer ≡ true → asked_of e.what a.trace.answer ≡ Some c → AllAtHand c w.packets x.left) → ((log : List Record) → node_at w c ≡ Some (Down log) → e.what ≡ Recover c → x.found ≡ log) →
      happens program w e x ≡ Some a → TakesAtHand c w.packets w → TakesAtHand c w.packets a.world
  walks e x a left loads ran f n now =
      (event_holds program P (λ q. ⊤) w e x a (record { nodes = λ d m there same. at d m same there; packets = anything w.packets }) (record {
        left = λ d some stopped asked same. subst (λ z. AllAtHand z w.packets x.left) (sym same) (left some stopped (asked ∙ ap (λ z. Some z) same));
        crashed = λ d m k. record { node = λ same. crash-at-hand d m (k same); puts = anything (crashes m).puts };
        done = λ d m number call y asked there k g. record {
          node = λ same.
              does-at-hand d m number call y (pcom-may program d m (ap (is_of_kind (kind_of program d)) (sym there) ∙ kinds d) (ap (is_a_pcom program) same ∙ pcom))
              (call-brings w e.what d call (λ packet is. called_packet (λ q. Contains w.packets q) w e.what d packet (all-in w.packets w.packets (λ q h. h)) (asked ∙ ap (λ k. Some (called d k)) is)) asked) g (k same);
          puts = anything y.puts;
        };
        up = λ d log y asked there g. record {
          node = λ same.
              subst (AllAtHand d w.packets) (sym (up-records d x.size x.found y (ap (is_a_pcom program) same ∙ pcom) g ∙ loads log (subst (λ z. node_at w z ≡ Some (Down log)) same there) (asked ∙ ap (λ z. Recover z) same)))
              (at d (Down log) same there);
          puts = anything y.puts;
        };
      }) ran).nodes c n now refl
    where
      P : ComId → Node → Type 0
      P d m = d ≡ c → AllAtHand d w.packets (records_of m)

      at : (d : ComId) (m : Node) → d ≡ c → node_at w d ≡ Some m → AllAtHand d w.packets (records_of m)
      at d m same there = subst (λ z. AllAtHand z w.packets (records_of m)) (sym same) (f m (subst (λ z. node_at w z ≡ Some m) same there))

  pub event-at-hand : (e : Event) (x : DiskOutcome) (a : After) → ((d : ComId) → is_of e a.trace d ≡ true → DiskTells program w e x a d) → happens program w e x ≡ Some a → TakesAtHand c w.packets w → TakesAtHand c w.packets a.world
  event-at-hand e x a tells ran f = walks e x a left loads ran f
    where
      mine : asked_of e.what a.trace.answer ≡ Some c → DiskTells program w e x a c
      mine asked = tells c (ap (is_com c) asked ∙ self-com c)

      loads : (log : List Record) → node_at w c ≡ Some (Down log) → e.what ≡ Recover c → x.found ≡ log
      loads log down is = (mine (ap (λ k. asked_of k a.trace.answer) is)).found log down

      left : is_some e.stop ≡ true → is_stopped a.trace.answer ≡ true → asked_of e.what a.trace.answer ≡ Some c → AllAtHand c w.packets x.left
      left some stopped asked = by ((mine asked).left stopped)
        where
          by : LeavesByGate program w e x c → AllAtHand c w.packets x.left
          by (inl y) = subst (AllAtHand c w.packets) (sym y.1) (forced-at-hand c w.packets w f)
          by (inr y) =
              subst (AllAtHand c w.packets) (sym y.1.2)
              (forced-at-hand c w.packets y.1.0.world (walks (without_stop e.what) x y.1.0 (λ there k asked. absurd (true-false there)) loads y.1.1 f))
