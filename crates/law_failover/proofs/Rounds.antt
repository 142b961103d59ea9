-- Along the rounds of a run with a standby each state is explained, and the standby has played the first records that are forced.
use Rattle.std.proofs.Common.{◌≡◌, refl, ◌∙◌, ap, sym, subst, ℕ, zero, suc, ◌+◌, ◌≤◌, Bool, true, false, cond, List, [], ◌∷◌, ◌++◌, length, take, drop, Option, Some, None, ◌⊎◌, inl, inr, arith, option_map}
use Rattle.std.specs.Prelude.{⊤, fold, Contains, slice_get, slice_set}
use Rattle.std.proofs.lemmas.Bool.{cases_eq}
use Rattle.std.proofs.lemmas.List.{append-nil, length-append}
use Rattle.ic_base.specs.declared.messages.ComId.{ComId}
use Rattle.ic_base.specs.declared.messages.Kind.{Kind}
use Rattle.ic_base.specs.declared.messages.Kind.TheVariants as kinds
use Rattle.ic_base.specs.declared.scenario.Component.{Component}
use Rattle.ic_base.specs.declared.messages.Packet.{Packet}
use Rattle.ic_base.specs.declared.events.Event.{Event}
use Rattle.ic_base.specs.declared.events.Trace.{Trace}
use Rattle.ic_base.specs.declared.record.Record.{Record}
use Rattle.ic_base.specs.declared.scenario.Program.{Program}
use Rattle.ic_base.specs.Programs.{is_a_pcom, is_pcom, declares}
use Rattle.def_state.specs.Vol.{Vol}
use Rattle.def_step.specs.Pcom.{Pcom, is_replaying, all_of}
use Rattle.def_step.specs.Settle.{PolicyIntervals, is_down, replays}
use Rattle.def_step.specs.World.{World, Node, Runs, Serves, Down, External, After, node_at}
use Rattle.def_facts.specs.Logs.{Logs, log_at, IsPrefixOf}
use Rattle.def_facts.specs.Pcom.{PcomLogFacts}
use Rattle.def_facts.specs.World.{Past, IsExplained, IsExplainedBy, forced_of, records_of, forced_logs, is_of_kind, kind_of}
use Rattle.def_run.specs.CoreSteps.{CoreStep, forced_of as on_disk}
use Rattle.def_run.specs.Executions.{Agenda, Executes, agenda_behind, whole_agenda}
use Rattle.def_run.specs.SystemStates.{is_of, SystemState, Transition, KeepsLogs, last_state, traces_of}
use Rattle.def_rounds.specs.Rounds.{Turn, Happens, Answers, Leaps, Round, Ran, Told, Leapt, AreRounds, IsRound, side_behind, side_after, state_behind, state_after}
use Rattle.def_standby.specs.Standbys.{Standby, play_all, shipped_to, contents_to}
use Rattle.def_standby.specs.TakeOvers.{TakesOver, taken_over, world_over}
use Rattle.def_standby.specs.declared.orders.Order.{Order}
use Rattle.def_standby.specs.declared.orders.Order.TheVariants.{Ship, TakeOver, Run}
use Rattle.def_failover.specs.Orders.{Side, holds_of, applied, shipped, ship_all, ship_turn, taken_by, take_turn, turn, failover}
use Rattle.def_failover.specs.declared.note.Note.{Note}
use Rattle.def_failover.specs.declared.note.Note.TheVariants as notes
use Rattle.law_client.specs.Rounds.{Stands}
use Rattle.law_run.specs.ProgramBytes.{IsFit}
use Rattle.law_client.proofs.Along.{one-comes}
use Rattle.law_pcom.specs.Replaying.{Plays}
use Rattle.law_replay.proofs.Lists.{mapped, in-head, in-tail, true-false}
use Rattle.law_replay.proofs.Narrowing.{pcoms_narrow}
use Rattle.law_replay.proofs.Prefixes.{prefix-self}
use Rattle.law_run.proofs.Agendas.{next-is}
use Rattle.law_run.proofs.Steps.{core_steps_keep, disk-tells, passes-none, reads-images}
use Rattle.law_run.specs.Executions.{IsExplainedInBytes, MayCome}
use Rattle.law_run.specs.WorldBytes.{WorldFits, NodeFits}
use Rattle.law_settle.proofs.Walks.{set-here}
use Rattle.law_sound.proofs.Stepping.{set-other}
use Rattle.law_standby.proofs.Bringing.{packets_have_contents}
use Rattle.law_standby.proofs.Playing.{plays-on}
use Rattle.law_standby.proofs.Staying.{played_stays}
use Rattle.law_standby.proofs.Taking.{takes_over}
use Rattle.law_step.proofs.Causes.{events_tell_causes}
use Rattle.law_step.proofs.Events.{events_go_on}
use Rattle.law_step.proofs.Gaining.{MayBe, pcom-may}
use Rattle.law_step.proofs.Nodes.{log-here}
use Rattle.law_step.proofs.Stopping.{leaves-either}
use Rattle.law_step.proofs.Stops.{node-logs}
use Rattle.law_step.specs.Steps.{DiskFits, here_behind}
use Rattle.law_syntax.specs.Events.{IsEvent}
use Rattle.law_failover.proofs.Bringing.{running-contents}
use Rattle.law_failover.proofs.Growing.{events_grow_logs}
use Rattle.law_failover.proofs.Reaching.{TakesAtHand, event-at-hand}
use Rattle.law_failover.proofs.Taken.{AllAtHand, all-more}
use Rattle.law_failover.specs.Failover.{OrderMayCome}

-- it played the first records of a log
pub record HasPlayed (program : Program) (c : ComId) (received : List Packet) (log : List Record) (s : Standby) : Type 0 where
  pub few : s.have ≤ length log
  pub plays : Plays program c received s.state (take s.have log) log

abbrev pub SidePlays : Program → ComId → List Packet → List Record → Side → Type 0
SidePlays program c received log None = ⊤
SidePlays program c received log (Some s) = HasPlayed program c received log s

-- the state is explained by a past, and the standby beside it played what its component received in that
pub record Beside (program : Program) (fingerprint : List ℕ) (found : Logs) (c : ComId) (p : SystemState) (side : Side) : Type 0 where
  pub here : ComId → ℕ
  pub past : Past
  pub explained : IsExplainedBy program found here p.world past
  pub bytes : WorldFits p.world
  pub keeps : KeepsLogs fingerprint p
  pub beside : SidePlays program c (past.received c) (log_at (forced_logs p.world) c) side
  pub at_hand : TakesAtHand c p.world.packets p.world

pub stands-beside : (program : Program) (fingerprint : List ℕ) (found : Logs) (c : ComId) (p : SystemState) (side : Side) → Beside program fingerprint found c p side → Stands program fingerprint found p
stands-beside program fingerprint found c p side f = record { here = f.here; explained = record { explained = (f.past, f.explained); bytes = f.bytes }; keeps = f.keeps }

take-more : {A : Type 0} (n : ℕ) (xs ys : List A) → n ≤ length xs → take n (xs ++ ys) ≡ take n xs
take-more zero xs ys le = refl
take-more (suc n) [] ys le = absurd (omega (arith, le))
take-more (suc n) (x ∷ xs) ys le = ap (λ l. x ∷ l) (take-more n xs ys (omega (arith, le)))

pub take-drop : {A : Type 0} (n : ℕ) (xs : List A) → take n xs ++ drop n xs ≡ xs
take-drop zero xs = refl
take-drop (suc n) [] = refl
take-drop (suc n) (x ∷ xs) = ap (λ l. x ∷ l) (take-drop n xs)

take-all : {A : Type 0} (n : ℕ) (xs : List A) → length xs ≡ n → take n xs ≡ xs
take-all zero [] e = refl
take-all zero (x ∷ xs) e = absurd (omega (arith, e))
take-all (suc n) [] e = refl
take-all (suc n) (x ∷ xs) e = ap (λ l. x ∷ l) (take-all n xs (omega (arith, e)))

drop-long : {A : Type 0} (n : ℕ) (xs : List A) → n ≤ length xs → n + length (drop n xs) ≡ length xs
drop-long zero xs le = omega arith
drop-long (suc n) [] le = absurd (omega (arith, le))
drop-long (suc n) (x ∷ xs) le = let k = drop-long n xs (omega (arith, le)) in omega (arith, k)

pub dropped-in : {A : Type 0} (n : ℕ) (xs : List A) (x : A) → Contains (drop n xs) x → Contains xs x
dropped-in zero xs x h = h
dropped-in (suc n) [] x h = h
dropped-in (suc n) (y ∷ xs) x h = in-tail y x xs (dropped-in n xs x h)

-- what was played stays played
side-stays : (program : Program) (c : ComId) (received later : List Packet) (log now : List Record) (side : Side) → IsPrefixOf received later → IsPrefixOf log now → SidePlays program c received log side → SidePlays program c later now side
side-stays program c received later log now None more grown f = tt
side-stays program c received later log now (Some s) more grown f = record {
  few = let long = length-append log grown.0 in let e = ap length grown.1 in omega (arith, f.few, long, e);
  plays = subst (λ r. Plays program c r s.state (take s.have now) now) (sym more.1)
      (subst (λ l. Plays program c (received ++ more.0) s.state (take s.have l) l) (sym grown.1)
      (subst (λ l. Plays program c (received ++ more.0) s.state l (log ++ grown.0)) (sym (take-more s.have log grown.0 f.few)) (played_stays program c received more.0 s.state (take s.have log) log grown.0 f.plays)));
}

module _ (program : Program) (fingerprint : List ℕ) (found : Logs) (c : ComId) (fit : IsFit program) (pcom : is_a_pcom program c ≡ true) where
  -- one event
  step-beside : (p : SystemState) (v : Transition) (side : Side) → IsEvent program v.trace.event → CoreStep program fingerprint p v.trace.event v.trace v.state → Beside program fingerprint found c p side → Beside program fingerprint found c v.state side
  step-beside p v side event step f = record {
    here = here_behind f.here p.world v.state.world;
    past = later.0;
    explained = later.1;
    bytes = (core_steps_keep program fingerprint found f.here p v fit.playable fit.flat fit.bytes event f.keeps step kept).bytes;
    keeps = step.logs;
    beside = side-stays program c (f.past.received c) (later.0.received c) (log_at (forced_logs p.world) c) (log_at (forced_logs v.state.world) c) side (later.2 c)
        (events_grow_logs program p.world v.trace.event step.outcome a fits step.happens c) f.beside;
    at_hand = λ n is.
        subst (λ ps. AllAtHand c ps (records_of n)) (sym (events_tell_causes program found f.here p.world v.trace.event step.outcome a (f.past, f.explained) step.happens).grows)
        (all-more c p.world.packets v.trace.puts (records_of n)
        (event-at-hand program p.world c f.explained.kinds pcom v.trace.event step.outcome a (disk-tells program fingerprint found f.here p v fit.playable fit.bytes event f.keeps step kept) step.happens f.at_hand n is));
  }
    where
      a : After
      a = record { world = v.state.world; trace = v.trace }

      kept : IsExplainedInBytes program found f.here p.world
      kept = record { explained = (f.past, f.explained); bytes = f.bytes }

      fits : (d : ComId) → is_of v.trace.event v.trace d ≡ true → DiskFits program p.world v.trace.event step.outcome a d
      fits d is =
          let t = disk-tells program fingerprint found f.here p v fit.playable fit.bytes event f.keeps step kept d is in
          record { found = t.found; left = λ stopped. leaves-either program p.world v.trace.event step.outcome d (t.left stopped) }

      later : (past : Past) × IsExplainedBy program found (here_behind f.here p.world v.state.world) v.state.world past × ((d : ComId) → IsPrefixOf (f.past.received d) (past.received d))
      later = events_go_on program found f.here p.world v.trace.event step.outcome a f.past fit.playable fit.flat event (passes-none program fingerprint p v.trace.event.what f.keeps step.fits)
          fits
          (reads-images program found p.world v.trace.event.what fit.playable fit.bytes f.bytes) step.happens f.explained

  run-beside : (x : PolicyIntervals) (a b : Agenda) (p : SystemState) (vs : List Transition) (side : Side) → MayCome program a → Executes program fingerprint x a p vs b → Beside program fingerprint found c p side → Beside program fingerprint found c (last_state p vs) side
  run-beside x a b p [] side may runs f = f
  run-beside x a b p (v ∷ vs) side may runs f =
      let next = next-is program p.world x a _ may runs.1 in
      run-beside x (agenda_behind a runs.0 v.trace) b v.state vs side next.left runs.3 (step-beside p v side next.event runs.2 f)

  -- the facts of the forced records of a component that is up
  pub forced-facts : (here : ComId → ℕ) (w : World) (past : Past) (q : Pcom) → IsExplainedBy program found here w past → node_at w c ≡ Some (Runs q) → PcomLogFacts program c q.log.forced q.log.forced (past.sent c) (past.received c)
  forced-facts here w past q f is =
      let l = node-logs program found here w past c (Runs q) f is pcom in
      pcoms_narrow program c q.log.forced (all_of q.log) q.log.forced q.log.forced (past.sent c) (past.received c) (prefix-self q.log.forced) (prefix-self q.log.forced) (q.log.buffered, refl) l.lasting.ends_well l.lasting.ends_well l

  -- a shipment
  pub shipped-plays : (p : SystemState) (q : Pcom) (s t : Standby) → (f : Beside program fingerprint found c p (Some s)) → node_at p.world c ≡ Some (Runs q) → shipped_to program c (contents_to c p.world.packets) s (drop s.have q.log.forced) ≡ Some t
      → HasPlayed program c (f.past.received c) q.log.forced t × (t.have ≡ length q.log.forced)
  shipped-plays p q s t f is e =
      let log = q.log.forced in
      let here : log_at (forced_logs p.world) c ≡ log = log-here forced_of p.world c (Runs q) is in
      let had : HasPlayed program c (f.past.received c) log s = subst (λ l. HasPlayed program c (f.past.received c) l s) here f.beside in
      let m = mapped (λ (v : Vol). let z : Standby = record { state = v; have = s.have + length (drop s.have log) } in z) (play_all program c (contents_to c p.world.packets) s.state (drop s.have log)) t e in
      let long : t.have ≡ length log = ap (λ (z : Standby). z.have) (sym m.2) ∙ drop-long s.have log had.few in
      let through : Plays program c (f.past.received c) m.0 (take s.have log ++ drop s.have log) log =
      plays-on program c (f.past.sent c) (f.past.received c) (contents_to c p.world.packets) s.state m.0 (take s.have log) (drop s.have log) [] log (forced-facts f.here p.world f.past q f.explained is) (sym (append-nil (take s.have log ++ drop s.have log) ∙ take-drop s.have log))
      (λ r h none. running-contents program found f.here p.world f.past c q pcom f.explained is r (dropped-in s.have log r h) none) had.plays m.1 in (
        record {
          few = omega (arith, long);
          plays = subst (λ v. Plays program c (f.past.received c) v (take t.have log) log) (ap (λ (z : Standby). z.state) m.2)
              (subst (λ l. Plays program c (f.past.received c) m.0 l log) (take-drop s.have log ∙ sym (take-all t.have log (sym long))) through);
        },
        long,
      )

  -- what is told of an order leaves a standby that played
  same-side : (p : SystemState) (side behind : Side) (n note : Note) → ◌≡◌ {A = Turn Side Note} (Answers n side) (Answers note behind) → Beside program fingerprint found c p side → Beside program fingerprint found c p behind
  same-side p side behind n note e f = subst (Beside program fingerprint found c p) (is e) f
    where
      is : ◌≡◌ {A = Turn Side Note} (Answers n side) (Answers note behind) → side ≡ behind
      is k = cc

  with-side : (p : SystemState) (side behind : Side) → (f : Beside program fingerprint found c p side) → SidePlays program c (f.past.received c) (log_at (forced_logs p.world) c) behind → Beside program fingerprint found c p behind
  with-side p side behind f plays = record { here = f.here; past = f.past; explained = f.explained; bytes = f.bytes; keeps = f.keeps; beside = plays; at_hand = f.at_hand }

  -- c stands, as a Pcom
  stands-there : (w : World) → is_of_kind (kind_of program c) (node_at w c) ≡ true → (n : Node) × (node_at w c ≡ Some n) × MayBe n
  stands-there w kind = at (node_at w c) refl
    where
      none : (o : Option Component) → is_of_kind (option_map (λ d. d.kind) o) None ≡ true → declares (λ d. is_pcom d.kind) o ≡ true → ⊥
      none None e f = true-false f
      none (Some d) e f = by d.kind e
        where
          by : (k : Kind) → is_of_kind (Some k) None ≡ true → ⊥
          by kinds.Pcom k = true-false k
          by kinds.Tcom k = true-false k
          by kinds.Xcom k = true-false k

      at : (o : Option Node) → node_at w c ≡ o → (n : Node) × (node_at w c ≡ Some n) × MayBe n
      at None is = absurd (none (slice_get program.components c.0) (ap (is_of_kind (kind_of program c)) (sym is) ∙ kind) pcom)
      at (Some n) is = (n, is, pcom-may program c n (ap (is_of_kind (kind_of program c)) (sym is) ∙ kind) pcom)

  -- what comes of a shipment, by what stands there
  pub of-ship : (w : World) (side : Side) → is_of_kind (kind_of program c) (node_at w c) ≡ true → (P : Turn Side Note → Type 0) → ((log : List Record) → node_at w c ≡ Some (Down log) → P (Answers notes.Down side)) →
      ((q : Pcom) → node_at w c ≡ Some (Runs q) → P (cond (is_replaying q) (Answers notes.Replaying side) (ship_all program c w q.log.forced side))) → P (ship_turn program c w side (node_at w c))
  of-ship w side kind P down up = let n = stands-there w kind in subst (λ o. P (ship_turn program c w side o)) (sym n.1) (by n.0 n.1 n.2)
    where
      by : (n : Node) → node_at w c ≡ Some n → MayBe n → P (ship_turn program c w side (Some n))
      by (Runs q) is may = up q is
      by (Down log) is may = down log is
      by (Serves t) is may = absurd may
      by External is may = absurd may

  ship-beside : (p : SystemState) (side behind : Side) (note : Note) → ship_turn program c p.world side (node_at p.world c) ≡ Answers note behind → Beside program fingerprint found c p side → Beside program fingerprint found c p behind
  ship-beside p side behind note e f =
      of-ship p.world side (f.explained.kinds c) (λ t. t ≡ Answers note behind → Beside program fingerprint found c p behind) (λ log is k. same-side p side behind notes.Down note k f)
      (λ q is. at q is (is_replaying q)) e
    where
      told : (q : Pcom) → node_at p.world c ≡ Some (Runs q) → (s : Standby) (o : Option Standby) → side ≡ Some s → shipped_to program c (contents_to c p.world.packets) s (drop s.have q.log.forced) ≡ o → applied program c s o ≡ Answers note behind → Beside program fingerprint found c p behind
      told q is s None same ships k = same-side p (Some s) behind notes.Bad note k (subst (Beside program fingerprint found c p) same f)
      told q is s (Some t) same ships k =
          let g = subst (Beside program fingerprint found c p) same f in
          let h = (shipped-plays p q s t g is ships).0 in
          let there = with-side p (Some s) (Some t) g (subst (λ l. HasPlayed program c (g.past.received c) l t) (sym (log-here forced_of p.world c (Runs q) is)) h) in
          same-side p (Some t) behind (notes.Applied t.have) note k there

      by : (q : Pcom) → node_at p.world c ≡ Some (Runs q) → (s : Standby) (rs : List Record) → side ≡ Some s → drop s.have q.log.forced ≡ rs → shipped program c p.world rs s ≡ Answers note behind → Beside program fingerprint found c p behind
      by q is s [] same are k = same-side p (Some s) behind notes.Empty note k (subst (Beside program fingerprint found c p) same f)
      by q is s (r ∷ rs) same are k = told q is s (shipped_to program c (contents_to c p.world.packets) s (r ∷ rs)) same (ap (shipped_to program c (contents_to c p.world.packets) s) are) k

      ships : (q : Pcom) → node_at p.world c ≡ Some (Runs q) → (z : Side) → side ≡ z → ship_all program c p.world q.log.forced z ≡ Answers note behind → Beside program fingerprint found c p behind
      ships q is None same k = same-side p None behind notes.Gone note k (subst (Beside program fingerprint found c p) same f)
      ships q is (Some s) same k = by q is s (drop s.have q.log.forced) same refl k

      at : (q : Pcom) → node_at p.world c ≡ Some (Runs q) → (b : Bool) → cond b (Answers notes.Replaying side) (ship_all program c p.world q.log.forced side) ≡ Answers note behind → Beside program fingerprint found c p behind
      at q is true k = same-side p side behind notes.Replaying note k f
      at q is false k = ships q is side refl k

  take-told : (p : SystemState) (side behind : Side) (note : Note) (o : Option Node) → take_turn program c side o ≡ Answers note behind → Beside program fingerprint found c p side → Beside program fingerprint found c p behind
  take-told p side behind note o e f = at (holds_of replays o) (holds_of is_down o) e
    where
      taken : (z : Side) → side ≡ z → taken_by program c (on_disk o) z ≡ Answers note behind → Beside program fingerprint found c p behind
      taken None same k = same-side p None behind notes.Gone note k (subst (Beside program fingerprint found c p) same f)
      taken (Some s) same k = absurd (cc k)

      at : (a b : Bool) → cond a (Answers notes.Replaying side) (cond b (taken_by program c (on_disk o) side) (Answers notes.Up side)) ≡ Answers note behind → Beside program fingerprint found c p behind
      at true b k = same-side p side behind notes.Replaying note k f
      at false true k = taken side refl k
      at false false k = same-side p side behind notes.Up note k f

  -- a takeover
  pub leap-beside : (p q : SystemState) (s : Standby) (played : ℕ) → TakesOver program fingerprint c (contents_to c p.world.packets) s played p q → Beside program fingerprint found c p (Some s) → Beside program fingerprint found c q None
  leap-beside p q s played over f = record {
    here = through.0;
    past = through.1.0;
    explained = subst (λ w. IsExplainedBy program found through.0 w through.1.0) (sym over.world) through.1.1;
    bytes = subst WorldFits (sym over.world) (over-fits p.world over.records over.state over.down f.bytes);
    keeps = over.logs;
    beside = tt;
    at_hand = λ n is. subst (λ w. AllAtHand c w.packets (records_of n)) (sym over.world) (by n (subst (λ w. node_at w c ≡ Some n) over.world is));
  }
    where
      -- its records are those of the log
      by : (n : Node) → node_at (world_over p.world c (taken_over over.records over.state)) c ≡ Some n → AllAtHand c p.world.packets (records_of n)
      by n now =
          subst (λ m. AllAtHand c p.world.packets (records_of m)) (set-here p.world.nodes c.0 (Runs (taken_over over.records over.state)) n now)
          (subst (AllAtHand c p.world.packets) (sym (append-nil over.records)) (f.at_hand (Down over.records) over.down))

      log : List Record
      log = over.records

      had : HasPlayed program c (f.past.received c) log s
      had = subst (λ l. HasPlayed program c (f.past.received c) l s) (log-here forced_of p.world c (Down log) over.down) f.beside

      through : (lives : ComId → ℕ) × IsExplained program found lives (world_over p.world c (taken_over log over.state))
      through = takes_over program found f.here p.world f.past c (contents_to c p.world.packets) s.state over.state log (take s.have log) (drop s.have log) pcom f.explained over.down (sym (take-drop s.have log))
          (λ r h none. packets_have_contents program found f.here p.world f.past c log pcom f.explained over.down r (dropped-in s.have log r h) none) had.plays over.plays

      over-fits : (w : World) (rs : List Record) (v : Vol) → node_at w c ≡ Some (Down rs) → WorldFits w → WorldFits (world_over w c (taken_over rs v))
      over-fits w rs v down x = record { nodes = λ d n e. by d n e (cases_eq c.0 d.0); packets = x.packets }
        where
          by : (d : ComId) (n : Node) → node_at (world_over w c (taken_over rs v)) d ≡ Some n → (c.0 ≡ d.0) ⊎ (c.0 ≡ d.0 → ⊥) → NodeFits n
          by d n e (inl s) = subst NodeFits (set-here w.nodes c.0 (Runs (taken_over rs v)) n (subst (λ i. slice_get (slice_set w.nodes c.0 (Runs (taken_over rs v))) i ≡ Some n) (sym s) e)) (record { forced = x.nodes c (Down rs) down; buffered = tt })
          by d n e (inr o) = x.nodes d n (sym (set-other w.nodes c.0 d.0 (Runs (taken_over rs v)) o) ∙ e)

  leaps-beside : (p q : SystemState) (side : Side) (note : Note) → (failover program c fingerprint).leap side p note q → Beside program fingerprint found c p side → Beside program fingerprint found c q None
  leaps-beside p q (Some s) (notes.Done played) over f = leap-beside p q s played over f
  leaps-beside p q None (notes.Done played) over f = absurd over
  leaps-beside p q None notes.Down over f = absurd over
  leaps-beside p q None notes.Replaying over f = absurd over
  leaps-beside p q None notes.Up over f = absurd over
  leaps-beside p q None notes.Gone over f = absurd over
  leaps-beside p q None notes.Empty over f = absurd over
  leaps-beside p q None (notes.Applied n) over f = absurd over
  leaps-beside p q None notes.Bad over f = absurd over
  leaps-beside p q (Some s) notes.Down over f = absurd over
  leaps-beside p q (Some s) notes.Replaying over f = absurd over
  leaps-beside p q (Some s) notes.Up over f = absurd over
  leaps-beside p q (Some s) notes.Gone over f = absurd over
  leaps-beside p q (Some s) notes.Empty over f = absurd over
  leaps-beside p q (Some s) (notes.Applied n) over f = absurd over
  leaps-beside p q (Some s) notes.Bad over f = absurd over

  -- what comes of an order that is no event
  abbrev IsTold : Turn Side Note → Type 0
  IsTold (Happens e) = ⊥
  IsTold (Answers note behind) = ⊤
  IsTold (Leaps note behind) = ⊥

  abbrev IsQuiet : Turn Side Note → Type 0
  IsQuiet (Happens e) = ⊥
  IsQuiet (Answers note behind) = ⊤
  IsQuiet (Leaps note behind) = behind ≡ None

  ship-told : (w : World) (side : Side) (o : Option Node) → IsTold (ship_turn program c w side o)
  ship-told w side o = at (holds_of is_down o) (holds_of replays o)
    where
      told : (s : Standby) (z : Option Standby) → IsTold (applied program c s z)
      told s None = tt
      told s (Some t) = tt

      by : (s : Standby) (rs : List Record) → IsTold (shipped program c w rs s)
      by s [] = tt
      by s (r ∷ rs) = told s (shipped_to program c (contents_to c w.packets) s (r ∷ rs))

      ships : (z : Side) → IsTold (ship_all program c w (on_disk o) z)
      ships None = tt
      ships (Some s) = by s (drop s.have (on_disk o))

      at : (a b : Bool) → IsTold (cond a (Answers notes.Down side) (cond b (Answers notes.Replaying side) (ship_all program c w (on_disk o) side)))
      at true b = tt
      at false true = tt
      at false false = ships side

  told-quiet : (t : Turn Side Note) → IsTold t → IsQuiet t
  told-quiet (Happens e) h = absurd h
  told-quiet (Answers note behind) h = tt
  told-quiet (Leaps note behind) h = absurd h

  take-quiet : (side : Side) (o : Option Node) → IsQuiet (take_turn program c side o)
  take-quiet side o = at (holds_of replays o) (holds_of is_down o)
    where
      taken : (z : Side) → IsQuiet (taken_by program c (on_disk o) z)
      taken None = tt
      taken (Some s) = refl

      at : (a b : Bool) → IsQuiet (cond a (Answers notes.Replaying side) (cond b (taken_by program c (on_disk o) side) (Answers notes.Up side)))
      at true b = tt
      at false true = taken side
      at false false = tt

  -- behind a takeover none is left
  leaps-off : (w : World) (side behind : Side) (note : Note) (o : Order) → turn program c w side o ≡ Leaps note behind → behind ≡ None
  leaps-off w side behind note Ship e = subst IsQuiet e (told-quiet (ship_turn program c w side (node_at w c)) (ship-told w side (node_at w c)))
  leaps-off w side behind note TakeOver e = subst IsQuiet e (take-quiet side (node_at w c))
  leaps-off w side behind note (Run event) e = absurd (cc e)

  fold-same : (side : Side) (ts : List Trace) → fold (λ (z : Side) (t : Trace). z) side ts ≡ side
  fold-same side [] = refl
  fold-same side (t ∷ ts) = fold-same side ts

  pub happening : (w : World) (side : Side) (o : Order) (e : Event) → turn program c w side o ≡ Happens e → OrderMayCome program o → IsEvent program e
  happening w side Ship e k may = absurd (subst IsQuiet k (told-quiet (ship_turn program c w side (node_at w c)) (ship-told w side (node_at w c))))
  happening w side TakeOver e k may = absurd (subst IsQuiet k (take-quiet side (node_at w c)))
  happening w side (Run event) e k may = subst (IsEvent program) (is k) may
    where
      is : ◌≡◌ {A = Turn Side Note} (Happens event) (Happens e) → event ≡ e
      is h = cc

  -- one round
  told-beside : (p : SystemState) (side behind : Side) (note : Note) (o : Order) → turn program c p.world side o ≡ Answers note behind → Beside program fingerprint found c p side → Beside program fingerprint found c p behind
  told-beside p side behind note Ship e f = ship-beside p side behind note e f
  told-beside p side behind note TakeOver e f = take-told p side behind note (node_at p.world c) e f
  told-beside p side behind note (Run event) e f = absurd (cc e)

  pub round-beside : (x : PolicyIntervals) (p : SystemState) (side : Side) (o : Order) (r : Round Side Note) → OrderMayCome program o → IsRound (failover program c fingerprint) program fingerprint x side p o r → Beside program fingerprint found c p side
      → Beside program fingerprint found c (state_behind p r) (side_behind (failover program c fingerprint) side r)
  round-beside x p side o (Ran vs) may is f =
      subst (Beside program fingerprint found c (last_state p vs)) (sym (fold-same side (traces_of vs)))
      (run-beside x (whole_agenda (is.0 ∷ []) true) is.2.agenda p vs side (one-comes program is.0 true (happening p.world side o is.0 is.1 may)) is.2.executes f)
  round-beside x p side o (Told note behind) may is f = told-beside p side behind note o is f
  round-beside x p side o (Leapt note behind q) may is f = subst (Beside program fingerprint found c q) (sym (leaps-off p.world side behind note o is.0)) (leaps-beside p q side note is.1 f)

  pub rounds-beside : (x : PolicyIntervals) (p : SystemState) (side : Side) (os : List Order) (rs : List (Round Side Note)) → ((o : Order) → Contains os o → OrderMayCome program o) → AreRounds (failover program c fingerprint) program fingerprint x side p os rs → Beside program fingerprint found c p side
      → Beside program fingerprint found c (state_after p rs) (side_after (failover program c fingerprint) side rs)
  rounds-beside x p side [] [] may are f = f
  rounds-beside x p side [] (r ∷ rs) may are f = absurd are
  rounds-beside x p side (o ∷ os) [] may are f = absurd are
  rounds-beside x p side (o ∷ os) (r ∷ rs) may are f =
      rounds-beside x (state_behind p r) (side_behind (failover program c fingerprint) side r) os rs (λ q h. may q (in-tail o q os h)) are.1 (round-beside x p side o r (may o (in-head o os)) are.0 f)
