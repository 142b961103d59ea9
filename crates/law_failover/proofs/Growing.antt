-- What an event forces stands behind what was forced, its stop reached or not.
use Rattle.std.proofs.Common.{◌≡◌, refl, ◌∙◌, ap, sym, subst, ℕ, Bool, true, false, cond, List, [], ◌∷◌, ◌++◌, Option, Some, None, option_map, ⊎_elim, inl, inr}
use Rattle.std.specs.Prelude.{⊤}
use Rattle.std.proofs.lemmas.List.{append_assoc, append-nil}
use Rattle.std.proofs.lemmas.Option.{same_Some}
use Rattle.ic_base.specs.declared.messages.ComId.{ComId}
use Rattle.ic_base.specs.declared.events.Answer.{Answer}
use Rattle.ic_base.specs.declared.events.Answer.TheVariants as answers
use Rattle.ic_base.specs.declared.events.Event.{Event}
use Rattle.ic_base.specs.declared.events.What.TheVariants.{Recover}
use Rattle.ic_base.specs.declared.scenario.Program.{Program}
use Rattle.ic_base.specs.declared.record.Record.{Record}
use Rattle.ic_base.specs.declared.record.Record.TheVariants as records
use Rattle.ic_base.specs.Programs.{is_a_tcom}
use Rattle.def_step.specs.Pcom.{Pcom, Log, Call, Gives, Gets, Forces, Checkpoints, Resends, Emits, StepResult, nothing_at_all, needed_fetch, told, stands_at, pcom_step, recover_pcom}
use Rattle.def_step.specs.Replay.{recovered}
use Rattle.def_step.specs.Settle.{asked_of}
use Rattle.def_step.specs.Tcom.{Tcom, tcom_step, recover_tcom}
use Rattle.def_step.specs.World.{World, Node, Runs, Serves, Down, External, DiskOutcome, Done, After, just, done_as, answer_of, up_answer, comes_up, crashes, does, tcom_does, node_at, happens}
use Rattle.def_run.specs.SystemStates.{is_com, is_of, without_stop}
use Rattle.def_facts.specs.Logs.{IsPrefixOf, log_at}
use Rattle.def_facts.specs.World.{forced_of, forced_logs}
use Rattle.law_replay.proofs.Lists.{mapped, self-com}
use Rattle.law_run.proofs.Growing.{event_grows}
use Rattle.law_settle.proofs.Walks.{event_holds}
use Rattle.law_settle.proofs.Worlds.{anything}
use Rattle.law_step.proofs.Nodes.{log_of, log-is, log-here}
use Rattle.law_step.proofs.Recoveries.{epoch-added}
use Rattle.law_step.proofs.Shapes.{step-shape, standing-log}
use Rattle.law_step.specs.Steps.{LeavesOne, DiskFits}
use Rattle.law_tcom.proofs.Recovering.{steps_add}
use Rattle.law_failover.specs.Growing.{EventsGrowLogs}
use Rattle.law_failover.proofs.Nodes.{there-too, happens-many}

same-front : {A : Type 0} (xs ys : List A) → ys ≡ xs → IsPrefixOf xs ys
same-front xs ys e = ([], e ∙ sym (append-nil xs))

pub further : {A : Type 0} (xs ys zs : List A) → IsPrefixOf xs ys → IsPrefixOf ys zs → IsPrefixOf xs zs
further xs ys zs p q = (p.0 ++ q.0, q.1 ∙ ap (λ l. l ++ q.0) p.1 ∙ append_assoc xs p.0 q.0)

abbrev Grows : Node → Done → Type 0
Grows node d = IsPrefixOf (forced_of node) (forced_of d.node)

step-grows : (program : Program) (c : ComId) (p : Pcom) (call : Call) (t : StepResult) → pcom_step program c p call ≡ Some t → IsPrefixOf p.log.forced t.pcom.log.forced
step-grows program c p call t ran =
    let s = step-shape program c p call t ran in
    ⊎_elim (λ same. same-front p.log.forced t.pcom.log.forced same) (λ all. (p.log.buffered ++ s.adds, all ∙ s.all ∙ append_assoc p.log.forced p.log.buffered s.adds)) s.forced

does-grows : (program : Program) (c : ComId) (node : Node) (number : ℕ) (call : Call) (d : Done) → does program c node number call ≡ Some d → Grows node d
does-grows program c (Runs p) number call d e =
    let t = mapped (λ u. done_as (answer_of p number call u) u) (pcom_step program c p call) d e in subst (Grows (Runs p)) t.2 (step-grows program c p call t.0 t.1)
does-grows program c (Serves x) number call d e = subst (Grows (Serves x)) (same_Some (tcom_does program c x number call) d e) (at call)
  where
    at : (k : Call) → Grows (Serves x) (tcom_does program c x number k)
    at (Gets packet) = ((tcom_step program c x packet).adds, steps_add program c x packet)
    at (Gives handler args) = same-front x.records x.records refl
    at Forces = same-front x.records x.records refl
    at Checkpoints = same-front x.records x.records refl
    at Resends = same-front x.records x.records refl
    at Emits = same-front x.records x.records refl
does-grows program c (Down log) number call d e = subst (Grows (Down log)) (same_Some _ d e) (same-front log log refl)
does-grows program c External number call d e = subst (Grows External) (same_Some _ d e) (same-front [] [] refl)

up-grows : (program : Program) (c : ComId) (size : ℕ) (log : List Record) (d : Done) → comes_up program c size log ≡ Some d → Grows (Down log) d
up-grows program c size log d e = at (is_a_tcom program c) e
  where
    pcom : (answer : StepResult → Answer) (t : StepResult) → recover_pcom program c log ≡ Some t → Grows (Down log) (done_as (answer t) t)
    pcom answer t f =
        let y = mapped (λ y. told (stands_at (record { forced = log; buffered = [] }) y) (needed_fetch c y.rest) nothing_at_all) (recovered program c log) t f in
        subst (λ (z : StepResult). IsPrefixOf log z.pcom.log.forced) y.2 (same-front log _ (ap (λ (l : Log). l.forced) (standing-log (record { forced = log; buffered = [] }) y.0.vol y.0.rest)))

    at : (b : Bool) → cond b (option_map (λ x. just (Serves x) answers.Up) (recover_tcom program c size log)) (option_map (λ t. done_as (up_answer t.pcom) t) (recover_pcom program c log)) ≡ Some d → Grows (Down log) d
    at true f =
        let x = mapped (λ (x : Tcom). just (Serves x) answers.Up) (recover_tcom program c size log) d f in
        let y = epoch-added program c size log x.0 x.1 in subst (Grows (Down log)) x.2 (records.Epoch y.0 ∷ [], y.1)
    at false f = let t = mapped (λ (t : StepResult). done_as (up_answer t.pcom) t) (recover_pcom program c log) d f in subst (Grows (Down log)) t.2 (pcom (λ t. up_answer t.pcom) t.0 t.1)

crash-grows : (node : Node) → Grows node (crashes node)
crash-grows (Runs p) = same-front p.log.forced p.log.forced refl
crash-grows (Serves x) = same-front x.records x.records refl
crash-grows (Down log) = same-front log log refl
crash-grows External = same-front [] [] refl

-- what was forced at a place
abbrev Behind : World → ComId → Node → Type 0
Behind w c node = (old : Node) → node_at w c ≡ Some old → IsPrefixOf (forced_of old) (forced_of node)

module _ (program : Program) (w : World) (e : Event) (x : DiskOutcome) (a : After) (disk : (c : ComId) → is_of e a.trace c ≡ true → DiskFits program w e x a c) (ran : happens program w e x ≡ Some a) where
  mine : (c : ComId) → asked_of e.what a.trace.answer ≡ Some c → is_of e a.trace c ≡ true
  mine c asked = ap (is_com c) asked ∙ self-com c

  -- a recovery asks for its own component
  asks-it : (c : ComId) → e.what ≡ Recover c → asked_of e.what a.trace.answer ≡ Some c
  asks-it c is = ap (λ z. asked_of z a.trace.answer) is

  -- the log that a stop leaves
  left-grows : (c : ComId) → LeavesOne program w e x c → Behind w c (Down x.left)
  left-grows c (inl same) was is = same-front (forced_of was) x.left (same ∙ log-here forced_of w c was is)
  left-grows c (inr y) was is =
      let n = there-too w.nodes y.0.world.nodes c.0 was (happens-many program w (without_stop e.what) x y.0 y.1) is in
      subst (IsPrefixOf (forced_of was)) (sym (y.2 ∙ log-here forced_of y.0.world c n.0 n.1))
      (event_grows program w e.what x y.0 (λ d log there asked. (disk d (mine d (asks-it d asked))).found log there) y.1 c was n.0 is n.1)

  pub grows-at : (c : ComId) (old new : Node) → node_at w c ≡ Some old → node_at a.world c ≡ Some new → IsPrefixOf (forced_of old) (forced_of new)
  grows-at c old new is now =
      (event_holds program (Behind w) (λ q. ⊤) w e x a (record { nodes = λ d n there was k. same-front (forced_of was) (forced_of n) (ap forced_of (same_Some n was (sym there ∙ k))); packets = anything w.packets }) (record {
        left = λ d there stopped asked. left-grows d ((disk d (mine d asked)).left stopped);
        crashed = λ d n k. record { node = λ was f. further (forced_of was) (forced_of n) (forced_of (crashes n).node) (k was f) (crash-grows n); puts = anything (crashes n).puts };
        done = λ d n number call y asked there k f. record { node = λ was g. further (forced_of was) (forced_of n) (forced_of y.node) (k was g) (does-grows program d n number call y f); puts = anything y.puts };
        up = λ d log y asked there f. record {
          node = λ was g.
              subst (λ n. IsPrefixOf (forced_of n) (forced_of y.node)) (same_Some (Down log) was (sym there ∙ g))
              (subst (λ l. IsPrefixOf l (forced_of y.node)) ((disk d (mine d (asks-it d asked))).found log there) (up-grows program d x.size x.found y f));
          puts = anything y.puts;
        };
      }) ran).nodes c new now old is

pub events_grow_logs : EventsGrowLogs
events_grow_logs program w e x a disk ran c = at (node_at w c) refl
  where
    at : (o : Option Node) → node_at w c ≡ o → IsPrefixOf (log_at (forced_logs w) c) (log_at (forced_logs a.world) c)
    at None is = (log_at (forced_logs a.world) c, ap (λ l. l ++ log_at (forced_logs a.world) c) (sym (log-is forced_of w c ∙ ap (log_of forced_of) is)))
    at (Some old) is =
        let n = there-too w.nodes a.world.nodes c.0 old (happens-many program w e x a ran) is in
        subst (λ l. IsPrefixOf l (log_at (forced_logs a.world) c)) (sym (log-here forced_of w c old is))
        (subst (IsPrefixOf (forced_of old)) (sym (log-here forced_of a.world c n.0 n.1)) (grows-at program w e x a disk ran c old n.0 is n.1))
