-- Where a berth keeps the facts of its component, an event of it is refused for no bad log but a Tcom's with no next epoch, and for no foreign one.
use Rattle.std.proofs.Common.{◌≡◌, refl, sym, ap, subst, ◌∙◌, ℕ, ◌+◌, ◌<◌, true, List, [], ◌∷◌, ◌++◌, length, Option, Some, None, option_map, option_to_list}
use Rattle.std.specs.Prelude.{is_some}
use Rattle.ic_base.specs.declared.events.Event.{Event}
use Rattle.ic_base.specs.declared.events.Stop.{Stop}
use Rattle.ic_base.specs.declared.events.What.{What}
use Rattle.ic_base.specs.declared.events.What.TheVariants as whats
use Rattle.ic_base.specs.declared.limits.TheConstants.{LOG_BYTES}
use Rattle.ic_base.specs.declared.messages.ComId.{ComId}
use Rattle.ic_base.specs.declared.messages.Packet.{Packet}
use Rattle.ic_base.specs.declared.record.Record.{Record}
use Rattle.ic_base.specs.declared.refusals.Which.TheVariants.{Receipts, Packets}
use Rattle.ic_base.specs.declared.refusals.WorldRefused.{WorldRefused}
use Rattle.ic_base.specs.declared.refusals.WorldRefused.TheVariants as refused
use Rattle.ic_base.specs.declared.scenario.Program.{Program}
use Rattle.def_facts.specs.Logs.{IsConsistent}
use Rattle.def_facts.specs.Playable.{IsPlayable}
use Rattle.def_live.specs.Turns.{Berth, Choice, Unlisted, Brings, Lists, Pop, PopInTurn, ArePopsOf, brings, brought, choice, event_of, flushes, senders_of}
use Rattle.def_run.specs.Refusals.{node_refusal, down_refusal}
use Rattle.def_run.specs.SystemStates.{IsLog, KeepsLog, file_in}
use Rattle.def_step.specs.Pcom.{Call, Gets}
use Rattle.def_step.specs.Settle.{PolicyIntervals}
use Rattle.def_step.specs.World.{Node}
use Rattle.ic_disk.specs.TornDisks.{Torn}
use Rattle.ic_disk.specs.declared.disk.Disk.{Ghosts}
use Rattle.ic_lane.specs.Lanes.{In, Out}
use Rattle.ic_node.specs.Calling.{call_of}
use Rattle.ic_node.specs.Nodes.{node_with, disk_in}
use Rattle.ic_node.specs.Views.{node_of, com_of, file_of, disk_of, Tells}
use Rattle.ic_node.specs.declared.component.Component.{Component}
use Rattle.ic_node.specs.declared.done.NodeRefused.{NodeRefused}
use Rattle.ic_node.specs.declared.done.NodeRefused.TheVariants.{Full, Bad, Foreign, Failed, Memory}
use Rattle.ic_node.specs.declared.node.Node.{Node as Inside}
use Rattle.ic_node.specs.declared.node.Node.TheVariants.{Per, Tra, Off, Ext}
use Rattle.ic_turn.specs.Doing.{FailsToDoChoice}
use Rattle.ic_turn.specs.Standings.{Standing}
use Rattle.ic_turn.specs.Works as asked
use Rattle.ic_turn.proofs.Works.{file-in}
use Rattle.ic_work.specs.Components.{FailsToWork, refusal_of}
use Rattle.ic_work.specs.Tasks as tasks
use Rattle.ic_work.specs.Working.{work_of}
use Rattle.ic_work.specs.declared.work.Work.{Work}
use Rattle.ic_work.specs.declared.work.Work.TheVariants.{Calls, Crashes, Recovers}
use Rattle.law_live.proofs.Laning.{pops_are_consistent, turns_keep_lanes}
use Rattle.law_live.proofs.Meeting.{berths_meet_own_logs}
use Rattle.law_live.proofs.Runs.{chosen, flush-chosen}
use Rattle.law_live.specs.Berths.{BerthFacts}
use Rattle.law_live.specs.Bytes.{HasWords}
use Rattle.law_live.specs.Meeting.{IsOfSound, MeetsOwnLog}
use Rattle.law_replay.proofs.Lists.{self-com}
use Rattle.law_run.specs.ProgramBytes.{HasBytes}
use Rattle.ic_live.specs.Berthed.{berthed}
use Rattle.ic_live.specs.Carrying.{FailsToCarryOut}
use Rattle.ic_live.specs.Ends.{HaveOneContent, ArePopped, lanes_at}
use Rattle.ic_live.specs.Standings.{IsKept, berth_of}
use Rattle.ic_live.proofs.Pops.{popped-none}
use Rattle.ic_live.proofs.Turning.{lanes-wait, lanes-give}

-- The facts of the component before an event, where what the event brings has one content with all that was got.
pub record Readied {D : Type 0} {d : Ghosts D} (program : Program) (print : List ℕ) (x : Component D d) (next : Option Choice) : Type 0 where
  pub playable : IsPlayable program
  pub bytes : HasBytes program
  pub has : is_some (disk_of x) ≡ true
  pub told : Tells x
  pub berth : Berth
  pub here : ℕ
  pub facts : BerthFacts program print (com_of x) berth here
  pub node : berth.part.node ≡ node_of x
  pub file : file_in berth.files (com_of x) ≡ file_of x
  pub one : (y : Choice) → next ≡ Some y → IsConsistent (berth.part.received ++ brings y)

-- so whatever refuses its events is of sound logs
abbrev pub Sounds : {D : Type 0} {d : Ghosts D} → (Program → List ℕ → Option Choice → Component D d → ℕ → ℕ → Component D d → WorldRefused → Type 0) → Type 0
Sounds {D} {d} fails = (program : Program) (print : List ℕ) (x : Component D d) (next : Option Choice) (received packets : ℕ) (new : Component D d) (why : WorldRefused) → Readied program print x next → fails program print next x received packets new why → IsOfSound why

-- the facts ---------------------------------------------------------------------------------------------------

module _ {D : Type 0} {d : Ghosts D} (program : Program) (print : List ℕ) (x : Component D d) (plan : List Event) (s : Standing) (ins : List In) (outs : List Out) (node : s.node ≡ node_of x) (file : s.file ≡ file_of x) (there : (com_of x).0 < length program.components) (has : is_some (disk_of x) ≡ true) (told : Tells x) (k : IsKept program print (com_of x) plan s ins outs) where
  -- what was got, and what pops bring, has one content
  got-one : (news : List In) (pops : List Pop) (them : List ComId) → PopInTurn (com_of x) them pops → ArePopped (berthed program) ins news pops → HaveOneContent news → ((p : Packet) → brought (com_of x) pops ≡ Some p → HasWords p) → IsConsistent (k.received ++ option_to_list (brought (com_of x) pops))
  got-one news pops them turn popped contents words =
      let c = com_of x in
      let now = lanes_at c (berthed program) news outs in
      let give = lanes-give c (berthed program) ins news pops popped outs (self-com c) contents words in
      let own = turns_keep_lanes c them pops k.sent k.received [] (lanes_at c (berthed program) ins outs) now turn (lanes-wait c (berthed program) ins news pops popped outs [] (self-com c)) k.keeps.own in
      pops_are_consistent c (k.received ++ option_to_list (brought c pops)) (λ from. (now from c).received) give.one_content own.ins

  ready : (next : Option Choice) → ((y : Choice) → next ≡ Some y → IsConsistent (k.received ++ brings y)) → Readied program print x next
  ready next one = record {
    playable = k.playable;
    bytes = k.bytes;
    has = has;
    told = told;
    berth = berth_of program (com_of x) s k.sent k.received;
    here = k.here;
    facts = k.keeps.facts;
    node = node;
    file = file-in program (com_of x) s.file there ∙ file;
    one = one;
  }

  -- before a turn
  pub turn-ready : (policy : PolicyIntervals) (news : List In) (pops : List Pop) → ArePopped (berthed program) ins news pops → (HaveOneContent ins → HaveOneContent news) → ((p : Packet) → brought (com_of x) pops ≡ Some p → HasWords p) → ArePopsOf policy (com_of x) s.node (senders_of program (com_of x)) pops
      → Readied program print x (choice program policy (com_of x) s.node (s.turns + 1) s.left pops)
  turn-ready policy news pops popped contents words are =
      let c = com_of x in
      let is = chosen program policy c s.node (s.turns + 1) s.left (senders_of program c) pops k.keeps.left are in
      let one = got-one news pops is.1.0 is.1.1 popped (contents k.contents) words in
      ready (choice program policy c s.node (s.turns + 1) s.left pops) (λ y e. subst (λ l. IsConsistent (k.received ++ l)) (sym (is.0.0 y e).brings_are) one)

  -- before a flush
  pub flush-ready : Readied program print x (option_map Unlisted (flushes program (com_of x) s.node))
  flush-ready =
      let c = com_of x in
      let is = flush-chosen program c s.node [] s.left refl in
      let none : (p : Packet) → None ≡ Some p → HasWords p = λ p e. absurd (cc e) in
      let one = got-one ins [] is.1.0 is.1.1 (popped-none (berthed program) ins) k.contents none in
      ready (option_map Unlisted (flushes program c s.node)) (λ y e. subst (λ l. IsConsistent (k.received ++ l)) (sym (is.0.0 y e).brings_are) one)

-- why it is refused ---------------------------------------------------------------------------------------------

-- an event that delivers a packet brings it
asked-gets : (what : What) (number : ℕ) (call : Call) (p : Packet) → asked.asked_by what ≡ Some (tasks.Calls number call) → call ≡ Gets p → ⊥
asked-gets (whats.Input c handler args) number call p e f = cc (e, f)
asked-gets (whats.Force c) number call p e f = cc (e, f)
asked-gets (whats.Checkpoint c) number call p e f = cc (e, f)
asked-gets (whats.Resend c) number call p e f = cc (e, f)
asked-gets (whats.Emit c) number call p e f = cc (e, f)
asked-gets (whats.Crash c) number call p e f = cc e
asked-gets (whats.Recover c) number call p e f = cc e
asked-gets (whats.Deliver from to) number call p e f = cc e
asked-gets (whats.Lose from to) number call p e f = cc e
asked-gets (whats.Packet n) number call p e f = cc e

gets-brings : (y : Choice) (number : ℕ) (call : Call) (p : Packet) → asked.work_of y ≡ Some (tasks.Calls number call) → call ≡ Gets p → brings y ≡ p ∷ []
gets-brings (Unlisted what) number call p e f = absurd (asked-gets what number call p e f)
gets-brings (Lists event) number call p e f = absurd (asked-gets event.what number call p e f)
gets-brings (Brings q) number call p e f = let same : q ≡ p = cc (e, f) in ap (λ z. z ∷ []) same

module _ {D : Type 0} {d : Ghosts D} where
  -- a component with a disk has a log there
  kept-log : (print : List ℕ) (c : ComId) (file : List ℕ) (kept : List Record) (n : Inside D d) → is_some (disk_in n) ≡ true → KeepsLog print c file (Some (node_with kept n)) → (records : List Record) × IsLog print c.0 file records
  kept-log print c file kept (Per p) has k = (_, k)
  kept-log print c file kept (Tra t) has k = (_, k)
  kept-log print c file kept (Off disk) has k = (kept, k)
  kept-log print c file kept Ext has k = absurd (cc has)

  own-log : (program : Program) (print : List ℕ) (x : Component D d) (next : Option Choice) → Readied program print x next → (records : List Record) × IsLog print (com_of x).0 (file_of x) records
  own-log program print x next r =
      let P : List ℕ × Node → Type 0 = λ z. KeepsLog print (com_of x) z.0 (Some z.1) in
      kept-log print (com_of x) (file_of x) x.kept x.node r.has (subst P (λ i. (r.file i, r.node i)) r.facts.kept)

  meets : (program : Program) (print : List ℕ) (x : Component D d) (next : Option Choice) (r : Readied program print x next) → MeetsOwnLog program print (com_of x) r.berth
  meets program print x next r = berths_meet_own_logs program print (com_of x) r.berth r.here r.playable r.bytes r.facts

  recovery-sound : (program : Program) (print : List ℕ) (x : Component D d) (next : Option Choice) (r : Readied program print x next) (stop : Option Stop) (why : WorldRefused) → down_refusal program print (com_of x) stop (file_of x) (node_of x) ≡ Some why → IsOfSound why
  recovery-sound program print x next r stop why e =
      let P : List ℕ × Node → Type 0 = λ z. down_refusal program print (com_of x) stop z.0 z.1 ≡ Some why in
      (meets program print x next r).recovers stop why (subst P (λ i. (sym r.file i, sym r.node i)) e)

  call-sound : (program : Program) (print : List ℕ) (x : Component D d) (y : Choice) (r : Readied program print x (Some y)) (number : ℕ) (call : Call) (why : WorldRefused) → asked.work_of y ≡ Some (tasks.Calls number call) → node_refusal program (com_of x) (file_of x) call (node_of x) ≡ Some why → ⊥
  call-sound program print x y r number call why asks e =
      let P : List ℕ × Node → Type 0 = λ z. node_refusal program (com_of x) z.0 call z.1 ≡ Some why in
      (meets program print x (Some y) r).calls call why
      (λ p f. subst (λ l. IsConsistent (r.berth.part.received ++ l)) (gets-brings y number call p asks f) (r.one y refl))
      (subst P (λ i. (sym r.file i, sym r.node i)) e)

module _ {D : Type 0} (b : Ghosts D) {d : Ghosts (Torn D)} (program : Program) (print : List ℕ) (x new : Component (Torn D) d) (y : Choice) (r : Readied program print x (Some y)) (stop : Option Stop) where
  bad-at : (place : ℕ) (work : Work) → asked.work_of y ≡ Some (work_of work) → FailsToWork b program print x stop work new (Bad place) → place ≡ LOG_BYTES
  bad-at place (Calls number call) asks f = absurd (call-sound program print x y r number (call_of call) (refused.Bad (com_of x) place) asks (f.cause r.told))
  bad-at place Crashes asks f = absurd (cc f.0)
  bad-at place Recovers asks f = recovery-sound program print x (Some y) r stop (refused.Bad (com_of x) place) (f r.told)

  none-foreign : (kept : List ℕ) (work : Work) → FailsToWork b program print x stop work new (Foreign kept) → ⊥
  none-foreign kept (Calls number call) f = let h = f.cause r.told in h.2 (h.1 ∙ (own-log program print x (Some y) r).1.own)
  none-foreign kept Crashes f = cc f.0
  none-foreign kept Recovers f = let h = f r.told in h.2 (h.1 ∙ (own-log program print x (Some y) r).1.own)

  bad-sound : (c : ComId) (place : ℕ) (why : NodeRefused) (work : Work) → refused.Bad c place ≡ refusal_of (com_of x) why → asked.work_of y ≡ Some (work_of work) → FailsToWork b program print x stop work new why → place ≡ LOG_BYTES
  bad-sound c place (Bad at) work is asks f = let same : place ≡ at = cc is in same ∙ bad-at at work asks f
  bad-sound c place Full work is asks f = absurd (cc is)
  bad-sound c place (Foreign kept) work is asks f = absurd (cc is)
  bad-sound c place Failed work is asks f = absurd (cc is)
  bad-sound c place Memory work is asks f = absurd (cc is)

  foreign-sound : (c : ComId) (kept : List ℕ) (why : NodeRefused) (work : Work) → refused.Foreign c kept ≡ refusal_of (com_of x) why → FailsToWork b program print x stop work new why → ⊥
  foreign-sound c kept (Foreign other) work is f = none-foreign other work f
  foreign-sound c kept (Bad at) work is f = cc is
  foreign-sound c kept Full work is f = cc is
  foreign-sound c kept Failed work is f = cc is
  foreign-sound c kept Memory work is f = cc is

  choice-sound : (received packets : ℕ) (why : WorldRefused) → (stop ≡ (event_of (com_of x) y).stop) → FailsToDoChoice b program print y x received packets new why → IsOfSound why
  choice-sound received packets (refused.Limit Receipts) is f = tt
  choice-sound received packets (refused.Limit Packets) is f = tt
  choice-sound received packets (refused.LogFull c) is f = tt
  choice-sound received packets (refused.Failed c) is f = tt
  choice-sound received packets refused.Memory is f = tt
  choice-sound received packets (refused.Bad c place) is f = bad-sound c place f.node_why f.work f.is f.asks (subst (λ z. FailsToWork b program print x z f.work new f.node_why) (sym is) f.fails)
  choice-sound received packets (refused.Foreign c kept) is f = foreign-sound c kept f.node_why f.work f.is (subst (λ z. FailsToWork b program print x z f.work new f.node_why) (sym is) f.fails)

pub sounds-carried : {D : Type 0} (b : Ghosts D) {d : Ghosts (Torn D)} → Sounds (FailsToCarryOut b {d = d})
sounds-carried b program print x None received packets new why r f = subst IsOfSound (sym f) tt
sounds-carried b program print x (Some y) received packets new why r f = choice-sound b program print x new y r (event_of (com_of x) y).stop received packets why refl f
