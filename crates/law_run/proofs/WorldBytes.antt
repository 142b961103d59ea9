-- Each event keeps it so that records, packets and values have their bytes.
use Rattle.std.proofs.Common.{◌≡◌, refl, ◌∙◌, ap, sym, subst, ℕ, zero, suc, ◌+◌, Bool, true, false, cond, List, [], ◌∷◌, slice_get, Option, Some, None, option_map, option_and_then, ◌⊎◌, inl, inr, is_some}
use Rattle.std.specs.Prelude.{⊤, MatchOption, Contains}
use Rattle.std.specs.List.{AllByRecursion}
use Rattle.std.proofs.lemmas.Option.{same_Some}
use Rattle.ic_base.specs.declared.messages.ComId.{ComId}
use Rattle.ic_base.specs.declared.messages.Kind.{Kind}
use Rattle.ic_base.specs.declared.messages.Kind.TheVariants as kinds
use Rattle.ic_base.specs.declared.messages.Packet.{Packet}
use Rattle.ic_base.specs.declared.events.Answer.{Answer}
use Rattle.ic_base.specs.declared.events.Answer.TheVariants as answers
use Rattle.ic_base.specs.declared.events.What.{What}
use Rattle.ic_base.specs.declared.events.What.TheVariants.{Input, Deliver, Lose, Packet as Numbered, Force, Checkpoint, Resend, Emit, Crash, Recover}
use Rattle.ic_base.specs.declared.scenario.Component.{Component}
use Rattle.ic_base.specs.declared.scenario.Program.{Program}
use Rattle.ic_base.specs.declared.record.Record.{Record}
use Rattle.ic_base.specs.Programs.{is_a_tcom, has_handler}
use Rattle.def_log.specs.Spelling.{Fits}
use Rattle.def_step.specs.Calls.{called, call_of, delivery_of, node_is_full}
use Rattle.def_step.specs.Pcom.{Call, Gives, Gets, Forces, Checkpoints, Resends, Emits, StepResult, pcom_step, recover_pcom, Pcom, is_replaying}
use Rattle.def_step.specs.Tcom.{Tcom, recover_tcom}
use Rattle.def_step.specs.World.{World, Node, Runs, Serves, Down, External, Done, just, done_as, answer_of, answer_down, up_answer, comes_up, crashes, does, tcom_does, node_at, packet_at, oldest_of, first_node, first_nodes, DiskOutcome, After, happens}
use Rattle.def_run.specs.Openings.{found_node, found_nodes, found_world}
use Rattle.law_replay.proofs.Lists.{none-some, mapped}
use Rattle.law_settle.proofs.Walks.{Holds, event_holds, called_packet}
use Rattle.law_syntax.specs.Events.{HasHandler, HasValues, IsEvent}
use Rattle.law_run.specs.ProgramBytes.{AreWords, HasBytes}
use Rattle.law_run.specs.WorldBytes.{TcomFits, NodeFits, PacketFits, FirstWorldFits, FoundWorldFits, EventsKeepBytes, WorldFits}
use Rattle.law_run.proofs.Cells.{each-of}
use Rattle.law_run.proofs.Deciding.{CallFits, Known, GotFits}
use Rattle.law_run.proofs.HasImages.{all-has}
use Rattle.law_run.proofs.Knowing.{known, got-fits}
use Rattle.law_run.proofs.StepBytes.{StepFits, step_fits, recover_fits}
use Rattle.law_run.proofs.Tcoms.{step-fits, clock-low, fresh-fits, recovered-fits}
use Rattle.ic_base.specs.declared.events.Event.{Event}
use Rattle.def_step.specs.Settle.{asked_of}
use Rattle.def_run.specs.CoreSteps.{is_stopped}
use Rattle.law_step.specs.Steps.{PassesNoLimit}

-- calls -------------------------------------------------------------------------------------------

-- an input is such as may come
abbrev GivenFits : Program → ComId → Call → Type 0
GivenFits program c (Gives handler args) = (has_handler program c handler args ≡ true) × AreWords args
GivenFits program c (Gets packet) = ⊤
GivenFits program c Forces = ⊤
GivenFits program c Checkpoints = ⊤
GivenFits program c Resends = ⊤
GivenFits program c Emits = ⊤

delivery-given : (program : Program) (o : Option Packet) → MatchOption (option_map delivery_of o) ⊤ (λ x. GivenFits program x.who x.call)
delivery-given program None = tt
delivery-given program (Some p) = tt

call-given : (program : Program) (w : World) (what : What) → HasHandler program what → HasValues what → MatchOption (call_of w what) ⊤ (λ x. GivenFits program x.who x.call)
call-given program w (Input c handler args) own words = (own, words)
call-given program w (Deliver from to) own words = delivery-given program (option_and_then (packet_at w) (oldest_of w from to))
call-given program w (Lose from to) own words = tt
call-given program w (Numbered i) own words = delivery-given program (packet_at w i)
call-given program w (Force c) own words = tt
call-given program w (Checkpoint c) own words = tt
call-given program w (Resend c) own words = tt
call-given program w (Emit c) own words = tt
call-given program w (Crash c) own words = tt
call-given program w (Recover c) own words = tt

-- what is done ------------------------------------------------------------------------------------

record DoneFits (d : Done) : Type 0 where
  node : NodeFits d.node
  puts : AllByRecursion PacketFits d.puts

of-step : (answer : StepResult → Answer) (o : Option StepResult) (d : Done) → option_map (λ t. done_as (answer t) t) o ≡ Some d → ((t : StepResult) → o ≡ Some t → StepFits t) → DoneFits d
of-step answer o d e h = let t = mapped (λ t. done_as (answer t) t) o d e in let k = h t.0 t.1 in subst DoneFits t.2 (record { node = k.log; puts = k.puts })

crash-fits : (n : Node) → NodeFits n → DoneFits (crashes n)
crash-fits (Runs p) h = record { node = h.forced; puts = tt }
crash-fits (Serves x) h = record { node = h.records; puts = tt }
crash-fits (Down log) h = record { node = h; puts = tt }
crash-fits External h = record { node = tt; puts = tt }

up-fits : (program : Program) (c : ComId) (size : ℕ) (log : List Record) (d : Done) → HasBytes program → AllByRecursion Fits log → comes_up program c size log ≡ Some d → DoneFits d
up-fits program c size log d bytes fit e = at (is_a_tcom program c) e
  where
    at : (b : Bool) → cond b (option_map (λ x. just (Serves x) answers.Up) (recover_tcom program c size log)) (option_map (λ t. done_as (up_answer t.pcom) t) (recover_pcom program c log)) ≡ Some d → DoneFits d
    at true f = let x = mapped (λ (x : Tcom). just (Serves x) answers.Up) (recover_tcom program c size log) d f in subst DoneFits x.2 (record { node = recovered-fits program c size log x.0 bytes fit x.1; puts = tt })
    at false f = of-step (λ t. up_answer t.pcom) (recover_pcom program c log) d f (λ t g. recover_fits program c log t fit g)

tcom-fits : (program : Program) (c : ComId) (x : Tcom) (number size : ℕ) (call : Call) → HasBytes program → TcomFits x → ((packet : Packet) → call ≡ Gets packet → PacketFits packet) → node_is_full program c call size (Serves x) ≡ false → DoneFits (tcom_does program c x number call)
tcom-fits program c x number size (Gets packet) bytes h got full =
    let s = step-fits program c x packet bytes (got packet refl) h in record { node = s.tcom (clock-low program c size x packet full); puts = s.puts }
tcom-fits program c x number size (Gives handler args) bytes h got full = record { node = h; puts = tt }
tcom-fits program c x number size Forces bytes h got full = record { node = h; puts = tt }
tcom-fits program c x number size Checkpoints bytes h got full = record { node = h; puts = tt }
tcom-fits program c x number size Resends bytes h got full = record { node = h; puts = tt }
tcom-fits program c x number size Emits bytes h got full = record { node = h; puts = tt }

-- of any world, with what is known of a live Pcom and of a packet
pub bytes-behind : (program : Program) (w : World) (e : Event) (x : DiskOutcome) (a : After) → HasBytes program → IsEvent program e → PassesNoLimit program w e.what → ((c : ComId) (log : List Record) → e.what ≡ Recover c → node_at w c ≡ Some (Down log) → AllByRecursion Fits x.found) →
    ((c : ComId) → is_some e.stop ≡ true → is_stopped a.trace.answer ≡ true → asked_of e.what a.trace.answer ≡ Some c → AllByRecursion Fits x.left) → ((c : ComId) (p : Pcom) → node_at w c ≡ Some (Runs p) → is_replaying p ≡ false → Known program c p.vol) →
    ((p : Packet) → Contains w.packets p → GotFits p) → WorldFits w → happens program w e x ≡ Some a → WorldFits a.world
bytes-behind program w e x a bytes event limits loads left knows got fits ran = record { nodes = h.nodes; packets = h.packets }
  where
    came : (c : ComId) (packet : Packet) → call_of w e.what ≡ Some (called c (Gets packet)) → Contains w.packets packet × PacketFits packet
    came c packet asked = called_packet (λ p. Contains w.packets p × PacketFits p) w e.what c packet (each-of (λ p. Contains w.packets p × PacketFits p) w.packets (λ p has. (has, all-has PacketFits w.packets p fits.packets has))) asked

    call-fits : (c : ComId) (call : Call) → call_of w e.what ≡ Some (called c call) → CallFits program c call
    call-fits c call asked = at call asked (subst (λ o. MatchOption o ⊤ (λ y. GivenFits program y.who y.call)) asked (call-given program w e.what event.handler event.values))
      where
        at : (k : Call) → call_of w e.what ≡ Some (called c k) → GivenFits program c k → CallFits program c k
        at (Gives handler args) is given = given
        at (Gets packet) is given = let y = came c packet is in got packet y.0
        at Forces is given = tt
        at Checkpoints is given = tt
        at Resends is given = tt
        at Emits is given = tt

    within : (c : ComId) (call : Call) (n : Node) → call_of w e.what ≡ Some (called c call) → node_at w c ≡ Some n → (size : ℕ) × (node_is_full program c call size n ≡ false)
    within c call n asked there =
        subst (λ o. MatchOption o ⊤ (λ node. (size : ℕ) × (node_is_full program c call size node ≡ false))) there
        (subst (λ o. MatchOption o ⊤ (λ y. MatchOption (node_at w y.who) ⊤ (λ node. (size : ℕ) × (node_is_full program y.who y.call size node ≡ false)))) asked limits)

    done : (c : ComId) (n : Node) (number : ℕ) (call : Call) (d : Done) → call_of w e.what ≡ Some (called c call) → node_at w c ≡ Some n → NodeFits n → does program c n number call ≡ Some d → DoneFits d
    done c (Runs p) number call d asked there k g =
        let s = within c call (Runs p) asked there in
        of-step (answer_of p number call) (pcom_step program c p call) d g (λ t r. step_fits program c s.0 p call t bytes k (λ live. knows c p there live) (call-fits c call asked) s.1 r)
    done c (Serves y) number call d asked there k g =
        let s = within c call (Serves y) asked there in
        subst DoneFits (same_Some (tcom_does program c y number call) d g) (tcom-fits program c y number s.0 call bytes k (λ packet is. (came c packet (asked ∙ ap (λ z. Some (called c z)) is)).1) s.1)
    done c (Down log) number call d asked there k g = subst DoneFits (same_Some (just (Down log) (answer_down number call)) d g) (record { node = k; puts = tt })
    done c External number call d asked there k g = subst DoneFits (same_Some (just External answers.Idle) d g) (record { node = tt; puts = tt })

    h : Holds (λ c n. NodeFits n) PacketFits a.world
    h = event_holds program (λ c n. NodeFits n) PacketFits w e x a (record { nodes = fits.nodes; packets = fits.packets }) (record {
      left = left;
      crashed = λ c n k. let y = crash-fits n k in record { node = y.node; puts = y.puts };
      done = λ c n number call d asked there k g. let y = done c n number call d asked there k g in record { node = y.node; puts = y.puts };
      up = λ c log d asked there g. let y = up-fits program c x.size x.found d bytes (loads c log asked there) g in record { node = y.node; puts = y.puts };
    }) ran

pub events_keep_bytes : EventsKeepBytes
events_keep_bytes program found here w e x a bytes good event limits loads left explained fits ran =
    bytes-behind program w e x a bytes event limits loads left
    (λ c p there live. known program found here w explained.0 c p bytes good fits explained.1 there)
    (λ packet has. got-fits program found here w explained.0 bytes fits explained.1 packet has (all-has PacketFits w.packets packet fits.packets has)) fits ran

-- where a run begins ------------------------------------------------------------------------------

first-nodes-fit : (program : Program) (i k : ℕ) (ds : List Component) (n : Node) → HasBytes program → slice_get (first_nodes program i ds) k ≡ Some n → NodeFits n
first-nodes-fit program i k [] n bytes e = none-some n e
first-nodes-fit program i zero (d ∷ ds) n bytes e = subst NodeFits (same_Some (first_node program (record { 0 = i }) d.kind) n e) (by d.kind)
  where
    by : (k : Kind) → NodeFits (first_node program (record { 0 = i }) k)
    by kinds.Pcom = record { forced = tt; buffered = tt }
    by kinds.Tcom = fresh-fits program (record { 0 = i }) bytes
    by kinds.Xcom = tt
first-nodes-fit program i (suc k) (d ∷ ds) n bytes e = first-nodes-fit program (i + 1) k ds n bytes e

pub first_world_fits : FirstWorldFits
first_world_fits program bytes = record { nodes = λ c n e. first-nodes-fit program 0 c.0 program.components n bytes e; packets = tt }

-- what is found is down, or has no disk
found-shape : (ds : List Component) (logs : List (List Record)) (i : ℕ) (n : Node) → slice_get (found_nodes ds logs) i ≡ Some n → (n ≡ External) ⊎ ((log : List Record) × (n ≡ Down log))
found-shape [] logs i n e = none-some n e
found-shape (d ∷ ds) [] zero n e = by d.kind [] n (same_Some (found_node d.kind []) n e)
  where
    by : (k : Kind) (log : List Record) (m : Node) → found_node k log ≡ m → (m ≡ External) ⊎ ((rs : List Record) × (m ≡ Down rs))
    by kinds.Pcom log m f = inr (log, sym f)
    by kinds.Tcom log m f = inr (log, sym f)
    by kinds.Xcom log m f = inl (sym f)
found-shape (d ∷ ds) [] (suc i) n e = found-shape ds [] i n e
found-shape (d ∷ ds) (log ∷ logs) zero n e = by d.kind (same_Some (found_node d.kind log) n e)
  where
    by : (k : Kind) → found_node k log ≡ n → (n ≡ External) ⊎ ((rs : List Record) × (n ≡ Down rs))
    by kinds.Pcom f = inr (log, sym f)
    by kinds.Tcom f = inr (log, sym f)
    by kinds.Xcom f = inl (sym f)
found-shape (d ∷ ds) (log ∷ logs) (suc i) n e = found-shape ds logs i n e

pub found_world_fits : FoundWorldFits
found_world_fits program logs h = record { nodes = λ c n e. at c n e (found-shape program.components logs c.0 n e); packets = tt }
  where
    at : (c : ComId) (n : Node) → node_at (found_world program logs) c ≡ Some n → (n ≡ External) ⊎ ((log : List Record) × (n ≡ Down log)) → NodeFits n
    at c n e (inl is) = subst NodeFits (sym is) tt
    at c n e (inr is) = subst NodeFits (sym is.1) (h c is.0 (e ∙ ap (λ m. Some m) is.1))
