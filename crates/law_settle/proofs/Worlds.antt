-- Each event keeps the world represented.
use Rattle.std.proofs.Common.{◌≡◌, subst, ℕ, zero, suc, ◌+◌, Bool, true, false, cond, List, [], ◌∷◌, slice_get, Some, option_map, arith}
use Rattle.std.specs.Prelude.{⊤}
use Rattle.std.specs.List.{AllByRecursion}
use Rattle.std.proofs.lemmas.Option.{same_Some}
use Rattle.ic_base.specs.declared.messages.ComId.{ComId}
use Rattle.ic_base.specs.declared.messages.Kind.{Kind}
use Rattle.ic_base.specs.declared.messages.Kind.TheVariants as kinds
use Rattle.ic_base.specs.declared.messages.Packet.{Packet}
use Rattle.ic_base.specs.declared.events.Answer.TheVariants as answers
use Rattle.ic_base.specs.declared.scenario.Component.{Component}
use Rattle.ic_base.specs.declared.scenario.Program.{Program}
use Rattle.ic_base.specs.declared.record.Record.{Record}
use Rattle.ic_base.specs.Programs.{is_a_tcom}
use Rattle.def_step.specs.Pcom.{Call, Gives, Gets, Forces, Checkpoints, Resends, Emits, StepResult, pcom_step, recover_pcom}
use Rattle.def_step.specs.Tcom.{recover_tcom}
use Rattle.def_step.specs.World.{World, Node, Runs, Serves, Down, External, Done, just, done_as, answer_of, node_at, does, tcom_does, crashes, up_answer, comes_up, first_node, first_nodes}
use Rattle.def_facts.specs.Playable.{IsPlayable}
use Rattle.law_settle.specs.Measure.{AllCanSettle}
use Rattle.law_settle.specs.Represented.{IsRepresented, IsWorldRepresented, FirstWorldIsRepresented, EventsKeepRepresented}
use Rattle.law_settle.proofs.Stepping.{represented_settles, step_represented, recover_represented, fresh_represented}
use Rattle.law_replay.proofs.Lists.{none-some, mapped}
use Rattle.law_settle.proofs.Walks.{event_holds}

-- of a node
abbrev pub NodeFits : Program → ComId → Node → Type 0
NodeFits program c (Runs p) = IsRepresented program c p
NodeFits program c (Serves t) = ⊤
NodeFits program c (Down records) = ⊤
NodeFits program c External = ⊤

abbrev pub NodesFit : Program → World → Type 0
NodesFit program w = (c : ComId) (n : Node) → node_at w c ≡ Some n → NodeFits program c n

pub to-nodes : (program : Program) (w : World) → IsWorldRepresented program w → NodesFit program w
to-nodes program w x c (Runs p) is = x c p is
to-nodes program w x c (Serves t) is = tt
to-nodes program w x c (Down records) is = tt
to-nodes program w x c External is = tt

pub does-fits : (program : Program) (c : ComId) (n : Node) (number : ℕ) (call : Call) (d : Done) → IsPlayable program → NodeFits program c n → does program c n number call ≡ Some d → NodeFits program c d.node
does-fits program c (Runs p) number call d good x e =
    let t = mapped (λ u. done_as (answer_of p number call u) u) (pcom_step program c p call) d e in
    subst (λ (z : Done). NodeFits program c z.node) t.2 (step_represented program c p call t.0 good x t.1)
does-fits program c (Serves y) number call d good x e = subst (λ (z : Done). NodeFits program c z.node) (same_Some _ d e) (at call)
  where
    at : (k : Call) → NodeFits program c (tcom_does program c y number k).node
    at (Gives handler args) = tt
    at (Gets packet) = tt
    at Forces = tt
    at Checkpoints = tt
    at Resends = tt
    at Emits = tt
does-fits program c (Down records) number call d good x e = subst (λ (z : Done). NodeFits program c z.node) (same_Some _ d e) tt
does-fits program c External number call d good x e = subst (λ (z : Done). NodeFits program c z.node) (same_Some _ d e) tt

pub anything : (ps : List Packet) → AllByRecursion (λ p. ⊤) ps
anything [] = tt
anything (p ∷ ps) = (tt, anything ps)

pub crash-fits : (program : Program) (c : ComId) (n : Node) → NodeFits program c (crashes n).node
crash-fits program c (Runs p) = tt
crash-fits program c (Serves t) = tt
crash-fits program c (Down records) = tt
crash-fits program c External = tt

pub up-fits : (program : Program) (c : ComId) (size : ℕ) (records : List Record) (d : Done) → IsPlayable program → comes_up program c size records ≡ Some d → NodeFits program c d.node
up-fits program c size records d good e = at (is_a_tcom program c) e
  where
    at : (b : Bool) → cond b (option_map (λ x. just (Serves x) answers.Up) (recover_tcom program c size records)) (option_map (λ t. done_as (up_answer t.pcom) t) (recover_pcom program c records)) ≡ Some d → NodeFits program c d.node
    at true f = let t = mapped (λ x. just (Serves x) answers.Up) (recover_tcom program c size records) d f in subst (λ (z : Done). NodeFits program c z.node) t.2 tt
    at false f = let t = mapped (λ (t : StepResult). done_as (up_answer t.pcom) t) (recover_pcom program c records) d f in subst (λ (z : Done). NodeFits program c z.node) t.2 (recover_represented program c records t.0 good t.1)

pub events_keep_represented : EventsKeepRepresented
events_keep_represented program w e x a good fits h c p is =
    (event_holds program (NodeFits program) (λ q. ⊤) w e x a (record { nodes = to-nodes program w fits; packets = anything w.packets }) (record {
      left = λ d there stopped asked. tt;
      crashed = λ d n k. record { node = crash-fits program d n; puts = anything (crashes n).puts };
      done = λ d n number call y asked there k f. record { node = does-fits program d n number call y good k f; puts = anything y.puts };
      up = λ d log y asked there f. record { node = up-fits program d x.size x.found y good f; puts = anything y.puts };
    }) h).nodes c (Runs p) is

-- the first world ---------------------------------------------------------------------------------

first-kind : (program : Program) (c : ComId) (k : Kind) → NodeFits program c (first_node program c k)
first-kind program c kinds.Pcom = fresh_represented program c
first-kind program c kinds.Tcom = tt
first-kind program c kinds.Xcom = tt

first-nodes-fit : (program : Program) (i : ℕ) (ds : List Component) (k : ℕ) (n : Node) → slice_get (first_nodes program i ds) k ≡ Some n → NodeFits program (record { 0 = i + k }) n
first-nodes-fit program i [] k n e = none-some n e
first-nodes-fit program i (d ∷ ds) zero n e =
    subst (λ m. NodeFits program (record { 0 = m }) n) (none-more i) (subst (NodeFits program (record { 0 = i })) (same_Some (first_node program (record { 0 = i }) d.kind) n e) (first-kind program (record { 0 = i }) d.kind))
  where
    none-more : (m : ℕ) → m ≡ m + 0
    none-more m = omega arith
first-nodes-fit program i (d ∷ ds) (suc k) n e = subst (λ m. NodeFits program (record { 0 = m }) n) (one-more i k) (first-nodes-fit program (i + 1) ds k n e)
  where
    one-more : (m j : ℕ) → m + 1 + j ≡ m + suc j
    one-more m j = omega arith

pub first_world_is_represented : FirstWorldIsRepresented
first_world_is_represented program c p is = subst (λ m. NodeFits program (record { 0 = m }) (Runs p)) (none-before c.0) (first-nodes-fit program 0 program.components c.0 (Runs p) is)
  where
    none-before : (m : ℕ) → 0 + m ≡ m
    none-before m = omega arith

-- what settling needs -----------------------------------------------------------------------------

pub represented_can_settle : (program : Program) (w : World) → IsWorldRepresented program w → AllCanSettle w
represented_can_settle program w x c p is = represented_settles program c p (x c p is)
