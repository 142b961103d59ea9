-- The world keeps it so that packets go to components that have a disk.
use Rattle.std.proofs.Common.{◌≡◌, refl, ◌∙◌, ap, sym, subst, ℕ, zero, suc, ◌+◌, Bool, true, false, cond, List, [], ◌∷◌, slice_get, Option, Some, None, option_map, option_and_then, inl, inr}
use Rattle.std.specs.Prelude.{⊤}
use Rattle.std.specs.List.{AllByRecursion}
use Rattle.std.proofs.lemmas.Option.{same_Some}
use Rattle.ic_base.specs.declared.messages.ComId.{ComId}
use Rattle.ic_base.specs.declared.messages.Packet.{Packet}
use Rattle.ic_base.specs.declared.messages.Packet.TheVariants.{Data, Stable, Installed, Fetch, Op, OpReply, Commit, Outcome, Drop}
use Rattle.ic_base.specs.declared.messages.Session.{Session}
use Rattle.ic_base.specs.declared.events.Answer.{Answer}
use Rattle.ic_base.specs.declared.events.Answer.TheVariants as answers
use Rattle.ic_base.specs.declared.scenario.Component.{Component}
use Rattle.ic_base.specs.declared.scenario.Program.{Program}
use Rattle.ic_base.specs.declared.messages.Kind.{Kind}
use Rattle.ic_base.specs.declared.messages.Kind.TheVariants as kinds
use Rattle.ic_base.specs.declared.record.Record.{Record}
use Rattle.ic_base.specs.Programs.{is_a_pcom, is_a_tcom}
use Rattle.def_step.specs.Packets.{fits_tcom, sender_of}
use Rattle.def_step.specs.Pcom.{Pcom, Call, Gives, Gets, Forces, Checkpoints, Resends, Emits, StepResult, pcom_step, recover_pcom}
use Rattle.def_step.specs.Tcom.{Tcom, Served, tcom_step, served, silent, sits_for, recover_tcom}
use Rattle.def_step.specs.World.{World, Node, Runs, Serves, Down, External, Done, just, done_as, answer_of, crashes, does, tcom_does, up_answer, comes_up, node_at, packet_at, first_node, first_nodes}
use Rattle.def_step.specs.Settle.{first_number}
use Rattle.def_run.specs.Openings.{found_node, found_nodes}
use Rattle.def_facts.specs.Playable.{IsPlayable}
use Rattle.law_settle.specs.Kept.{HasDisk, GoesToKept, PutsToKept, IsWorldPutToKept, FirstWorldPutsToKept, FoundWorldPutsToKept, EventsPutToKept, OldestGoesToKept}
use Rattle.law_settle.proofs.Addresses.{pcom-kept}
use Rattle.law_settle.proofs.Kept.{StepKept, step_kept, recover_kept, first-kept}
use Rattle.law_settle.proofs.Walks.{Holds, event_holds, all-at}
use Rattle.law_settle.proofs.Worlds.{NodeFits, to-nodes, does-fits, crash-fits, up-fits}
use Rattle.law_replay.proofs.Lists.{none-some, true-false, front, mapped}
use Rattle.law_tcom.specs.Engine.{Asks}
use Rattle.law_tcom.proofs.Leaves.{Leaves, step-leaves}
use Rattle.law_tcom.proofs.Moves.{sits-is}
use Rattle.law_replay.proofs.Members.{found}

-- a Tcom answers the Pcom that asked
sender-kept : (program : Program) (t : ComId) (p : Packet) → fits_tcom program t p ≡ true → HasDisk program (sender_of p)
sender-kept program t (Op from to n place session request) e = pcom-kept program from (front (is_a_pcom program from) _ e)
sender-kept program t (Commit from to n place session stamp) e = pcom-kept program from (front (is_a_pcom program from) _ e)
sender-kept program t (Drop from to n) e = pcom-kept program from (front (is_a_pcom program from) _ e)
sender-kept program t (Data m) e = true-false e
sender-kept program t (Stable from to k) e = true-false e
sender-kept program t (Installed from to k) e = true-false e
sender-kept program t (Fetch from to k) e = true-false e
sender-kept program t (OpReply from to n place session value) e = true-false e
sender-kept program t (Outcome from to n place session decision) e = true-false e

served-kept : (program : Program) (t : ComId) (x : Tcom) (p : Packet) → AllByRecursion (GoesToKept program) (tcom_step program t x p).puts
served-kept program t x p = at (fits_tcom program t p) refl
  where
    Kept : Served → Type 0
    Kept s = fits_tcom program t p ≡ true → AllByRecursion (GoesToKept program) s.puts

    to : (c : ComId) → sender_of p ≡ c → fits_tcom program t p ≡ true → HasDisk program c
    to c e ok = subst (HasDisk program) e (sender-kept program t p ok)

    asker : (c : ComId) (n place : ℕ) (session : Option Session) → Asks p c n place session → sender_of p ≡ c
    asker c n place session (inl z) = ap sender_of z.2
    asker c n place session (inr z) = ap sender_of z.4

    leaves : Leaves program t x p Kept
    leaves = record {
      quiet = λ ok. tt;
      told = λ c n place session stamp asks e least ok. (to c (asker c n place session asks) ok, tt);
      dropped = λ c d n e ok. tt;
      first_again = λ c d n q s e least sits ok. (to s.peer (ap sender_of e ∙ (sits-is c n s (found (sits_for c n) x.sittings s sits).1).0) ok, tt);
      first_held = λ c d n q r e least holds ok. (to c (ap sender_of e) ok, tt);
      first_done = λ c d n q e least known free none holds ok. (to c (ap sender_of e) ok, tt);
      again = λ d place q s e there lt ok. (to s.peer (ap sender_of e) ok, tt);
      held = λ d place q s r e there holds ok. (to s.peer (ap sender_of e) ok, tt);
      next = λ d q s e there lt known holds ok. (to s.peer (ap sender_of e) ok, tt);
      older = λ c n place session asks e free ok. (to c (asker c n place (Some session) asks) ok, tt);
      committed = λ d place stamp s e there pcom ok. (to s.peer (ap sender_of e) ok, tt);
    }

    at : (b : Bool) → fits_tcom program t p ≡ b → AllByRecursion (GoesToKept program) (tcom_step program t x p).puts
    at true ok = step-leaves program t x p Kept leaves ok
    at false ok = subst (λ b. AllByRecursion (GoesToKept program) (cond b (served t x p) (silent x)).puts) (sym ok) tt

-- components --------------------------------------------------------------------------------------

abbrev NodeKept : Program → ComId → Node → Type 0
NodeKept program c (Runs p) = PutsToKept program p
NodeKept program c (Serves t) = ⊤
NodeKept program c (Down records) = ⊤
NodeKept program c External = ⊤

abbrev BothFit : Program → ComId → Node → Type 0
BothFit program c n = NodeFits program c n × NodeKept program c n

abbrev DoneKept : Program → ComId → Done → Type 0
DoneKept program c d = NodeKept program c d.node × AllByRecursion (GoesToKept program) d.puts

of-step : (program : Program) (c : ComId) (answer : StepResult → Answer) (o : Option StepResult) (d : Done) → option_map (λ t. done_as (answer t) t) o ≡ Some d → ((t : StepResult) → o ≡ Some t → StepKept program t) → DoneKept program c d
of-step program c answer o d e h = let t = mapped (λ t. done_as (answer t) t) o d e in let k = h t.0 t.1 in subst (DoneKept program c) t.2 (k.pcom, k.puts)

still : (program : Program) (c : ComId) (n : Node) (d : Done) (answer : Answer) → Some (just n answer) ≡ Some d → NodeKept program c n → DoneKept program c d
still program c n d answer e h = subst (DoneKept program c) (same_Some (just n answer) d e) (h, tt)

does-kept : (program : Program) (c : ComId) (n : Node) (number : ℕ) (call : Call) (d : Done) → IsPlayable program → BothFit program c n → does program c n number call ≡ Some d → DoneKept program c d
does-kept program c (Runs p) number call d good x e = of-step program c (answer_of p number call) (pcom_step program c p call) d e (λ t f. step_kept program c p call t good x.0 x.1 f)
does-kept program c (Serves y) number call d good x e = subst (DoneKept program c) (same_Some _ d e) (at call)
  where
    at : (k : Call) → DoneKept program c (tcom_does program c y number k)
    at (Gives handler args) = (tt, tt)
    at (Gets packet) = (tt, served-kept program c y packet)
    at Forces = (tt, tt)
    at Checkpoints = (tt, tt)
    at Resends = (tt, tt)
    at Emits = (tt, tt)
does-kept program c (Down records) number call d good x e = still program c (Down records) d _ e tt
does-kept program c External number call d good x e = still program c External d answers.Idle e tt

crash-kept : (program : Program) (c : ComId) (n : Node) → DoneKept program c (crashes n)
crash-kept program c (Runs p) = (tt, tt)
crash-kept program c (Serves t) = (tt, tt)
crash-kept program c (Down records) = (tt, tt)
crash-kept program c External = (tt, tt)

up-kept : (program : Program) (c : ComId) (size : ℕ) (records : List Record) (d : Done) → IsPlayable program → comes_up program c size records ≡ Some d → DoneKept program c d
up-kept program c size records d good e = at (is_a_tcom program c) e
  where
    at : (b : Bool) → cond b (option_map (λ x. just (Serves x) answers.Up) (recover_tcom program c size records)) (option_map (λ t. done_as (up_answer t.pcom) t) (recover_pcom program c records)) ≡ Some d → DoneKept program c d
    at true f = let t = mapped (λ x. just (Serves x) answers.Up) (recover_tcom program c size records) d f in subst (DoneKept program c) t.2 (tt, tt)
    at false f = of-step program c (λ t. up_answer t.pcom) (recover_pcom program c records) d f (λ t g. recover_kept program c records t good g)

-- worlds ------------------------------------------------------------------------------------------

kept-nodes : (program : Program) (w : World) → IsWorldPutToKept program w → (c : ComId) (n : Node) → node_at w c ≡ Some n → NodeKept program c n
kept-nodes program w x c (Runs p) is = x.components c p is
kept-nodes program w x c (Serves t) is = tt
kept-nodes program w x c (Down records) is = tt
kept-nodes program w x c External is = tt

pub events_put_to_kept : EventsPutToKept
events_put_to_kept program w e x a good fits kept ran = record { packets = h.packets; components = λ c p is. (h.nodes c (Runs p) is).1 }
  where
    h : Holds (BothFit program) (GoesToKept program) a.world
    h = event_holds program (BothFit program) (GoesToKept program) w e x a (record { nodes = λ c n is. (to-nodes program w fits c n is, kept-nodes program w kept c n is); packets = kept.packets }) (record {
      left = λ c there stopped asked. (tt, tt);
      crashed = λ c n k. let z = crash-kept program c n in record { node = (crash-fits program c n, z.0); puts = z.1 };
      done = λ c n number call d asked there k f. let z = does-kept program c n number call d good k f in record { node = (does-fits program c n number call d good k.0 f, z.0); puts = z.1 };
      up = λ c log d asked there f. let z = up-kept program c x.size x.found d good f in record { node = (up-fits program c x.size x.found d good f, z.0); puts = z.1 };
    }) ran

-- where a run begins
first-node-kept : (program : Program) (c : ComId) (k : Kind) → NodeKept program c (first_node program c k)
first-node-kept program c kinds.Pcom = record { state = first-kept program c; rest = tt }
first-node-kept program c kinds.Tcom = tt
first-node-kept program c kinds.Xcom = tt

first-nodes-kept : (program : Program) (i k : ℕ) (ds : List Component) (p : Pcom) → slice_get (first_nodes program i ds) k ≡ Some (Runs p) → PutsToKept program p
first-nodes-kept program i k [] p e = none-some (Runs p) e
first-nodes-kept program i zero (d ∷ ds) p e = subst (NodeKept program (record { 0 = i })) (same_Some (first_node program (record { 0 = i }) d.kind) (Runs p) e) (first-node-kept program (record { 0 = i }) d.kind)
first-nodes-kept program i (suc k) (d ∷ ds) p e = first-nodes-kept program (i + 1) k ds p e

pub first_world_puts_to_kept : FirstWorldPutsToKept
first_world_puts_to_kept program = record { packets = tt; components = λ c p is. first-nodes-kept program 0 c.0 program.components p is }

-- none runs over logs that were found
none-found : {B : Type 0} (k : Kind) (log : List Record) (p : Pcom) → found_node k log ≡ Runs p → B
none-found kinds.Pcom log p e = absurd (cc e)
none-found kinds.Tcom log p e = absurd (cc e)
none-found kinds.Xcom log p e = absurd (cc e)

none-runs : {B : Type 0} (ds : List Component) (logs : List (List Record)) (i : ℕ) (p : Pcom) → slice_get (found_nodes ds logs) i ≡ Some (Runs p) → B
none-runs [] logs i p e = none-some (Runs p) e
none-runs (d ∷ ds) [] zero p e = none-found d.kind [] p (same_Some (found_node d.kind []) (Runs p) e)
none-runs (d ∷ ds) [] (suc i) p e = none-runs ds [] i p e
none-runs (d ∷ ds) (log ∷ logs) zero p e = none-found d.kind log p (same_Some (found_node d.kind log) (Runs p) e)
none-runs (d ∷ ds) (log ∷ logs) (suc i) p e = none-runs ds logs i p e

pub found_world_puts_to_kept : FoundWorldPutsToKept
found_world_puts_to_kept program logs = (λ c p is. none-runs program.components logs c.0 p is, record { packets = tt; components = λ c p is. none-runs program.components logs c.0 p is })

pub oldest_goes_to_kept : OldestGoesToKept
oldest_goes_to_kept program w p kept e = at (first_number w.waiting) e
  where
    at : (o : Option ℕ) → option_and_then (packet_at w) o ≡ Some p → GoesToKept program p
    at None f = none-some p f
    at (Some zero) f = none-some p f
    at (Some (suc i)) f = all-at (GoesToKept program) w.packets i p kept.packets f
