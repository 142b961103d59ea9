-- Behind each round the standby stands where its component's log leads, and a takeover brings the component up there.
use Rattle.std.proofs.Common.{◌≡◌, refl, ◌∙◌, ap, sym, subst, ℕ, ◌+◌, ◌≤◌, Bool, true, false, cond, List, [], ◌∷◌, ◌++◌, length, take, drop, Option, Some, None, option_map, arith, ◌⊎◌, inl, inr, ⊎_elim}
use Rattle.std.specs.Prelude.{⊤, Contains, IsSome, IsSomeAnd, MatchOption, slice_get}
use Rattle.std.specs.List.{AllByRecursion}
use Rattle.std.proofs.lemmas.List.{append-nil}
use Rattle.std.proofs.lemmas.List.Elements.{Contains-append_left, Contains-append_right}
use Rattle.ic_base.specs.declared.messages.ComId.{ComId}
use Rattle.ic_base.specs.declared.messages.Kind.{Kind}
use Rattle.ic_base.specs.declared.messages.Kind.TheVariants as kinds
use Rattle.ic_base.specs.declared.scenario.Component.{Component}
use Rattle.ic_base.specs.declared.record.Record.{Record}
use Rattle.ic_base.specs.declared.scenario.Program.{Program}
use Rattle.ic_base.specs.Programs.{is_a_pcom}
use Rattle.def_plain.specs.Plain.{PlainWorld}
use Rattle.def_log.specs.Spelling.{Fits}
use Rattle.def_state.specs.Hist.{Hist, Contents, after, apply_all, first_hist}
use Rattle.def_state.specs.Mirrors.{Mirrors}
use Rattle.def_state.specs.Vol.{Vol}
use Rattle.def_step.specs.Pcom.{Pcom, is_replaying}
use Rattle.def_step.specs.Settle.{PolicyIntervals, is_down, replays}
use Rattle.def_step.specs.World.{World, Node, Runs, Down, first_node, first_world, node_at}
use Rattle.def_facts.specs.Logs.{Logs, log_at, contents_in}
use Rattle.def_facts.specs.Pcom.{state_after as replayed, VolatileFacts}
use Rattle.def_facts.specs.Sound.{IsSound, contents_of}
use Rattle.def_facts.specs.World.{Past, IsExplainedBy, IsMirrored, forced_of, records_of, forced_logs, whole_logs}
use Rattle.def_rounds.specs.Rounds.{Turn, Answers, Round, Told, Leapt, AreRounds, IsRound, state_after}
use Rattle.def_run.specs.Openings.{IsStarted}
use Rattle.def_run.specs.CoreSteps.{forced_of as on_disk}
use Rattle.def_run.specs.SystemStates.{SystemState}
use Rattle.def_standby.specs.Standbys.{Standby, first_standby, content_of, is_missing, play_all, shipped_to, contents_to}
use Rattle.def_standby.specs.TakeOvers.{TakesOver, taken_over}
use Rattle.def_standby.specs.declared.orders.Order.{Order}
use Rattle.def_standby.specs.declared.orders.Order.TheVariants.{Ship, TakeOver, Run}
use Rattle.def_failover.specs.Orders.{Side, holds_of, applied, shipped, ship_all, ship_turn, taken_by, take_turn, turn, failover}
use Rattle.def_failover.specs.Promises.{SideStands, IsUpWith, side_behind_rounds, ServesFailover}
use Rattle.def_failover.specs.declared.note.Note.{Note}
use Rattle.def_failover.specs.declared.note.Note.TheVariants as notes
use Rattle.law_run.specs.ProgramBytes.{IsFit}
use Rattle.law_client.proofs.Along.{parts-of}
use Rattle.law_pcom.proofs.Recovering.{first-plays}
use Rattle.law_replay.proofs.Growing.{applied_twice}
use Rattle.law_replay.proofs.Lists.{empty, mapped, none-some}
use Rattle.law_replay.proofs.Narrowing.{forced_explained}
use Rattle.law_found.proofs.First.{node-at}
use Rattle.law_run.proofs.Knowing.{contents-fit}
use Rattle.law_run.specs.WorldBytes.{LogFits}
use Rattle.law_run.proofs.Starts.{starts_are_explained}
use Rattle.law_sound.proofs.Given.{Given, front-world}
use Rattle.law_sound.proofs.Stepping.{set-same}
use Rattle.law_standby.proofs.Bringing.{packets_have_contents}
use Rattle.law_step.proofs.Nodes.{log-here}
use Rattle.law_step.proofs.Stops.{node-logs}
use Rattle.law_failover.specs.Failover.{OrderMayCome, FailoverRunsServe}
use Rattle.law_failover.proofs.Rounds.{HasPlayed, Beside, take-drop, dropped-in, of-ship, forced-facts, shipped-plays, leap-beside, rounds-beside}
use Rattle.law_failover.proofs.Bringing.{running-contents}
use Rattle.law_failover.proofs.Playing.{plays-all}
use Rattle.law_failover.proofs.Taken.{AllAtHand}

least : (n : ℕ) → 0 ≤ n
least n = omega arith

some-and : {A : Type 0} (P : A → Type 0) (o : Option A) (x : A) → o ≡ Some x → P x → IsSomeAnd o P
some-and P o x e p = subst (λ z. IsSomeAnd z P) (sym e) p

module _ (program : Program) (fingerprint : List ℕ) (found : Logs) (c : ComId) (fit : IsFit program) (pcom : is_a_pcom program c ≡ true) where
  -- the contents that were received lead where those of the crash-free world of the forced records do
  front-leads : (here : ComId → ℕ) (w : World) (past : Past) (v : PlainWorld) (pre more : List Record) (P : Hist → Type 0) → IsExplainedBy program found here w past → IsSound program (forced_logs w) v → log_at (forced_logs w) c ≡ pre ++ more → IsSomeAnd (replayed program c (past.received c) pre) P
      → IsSomeAnd (after program c (contents_of v c) pre) P
  front-leads here w past v pre more P f sound split x =
      let g : Given program found (forced_logs w) past v = record { explains = forced_explained program found (forced_logs w) (whole_logs w) past f.logs; run = sound.legal } in
      front-world g c pcom pre more split P x

  side-stands : (p : SystemState) (side : Side) (v : PlainWorld) → Beside program fingerprint found c p side → IsSound program (forced_logs p.world) v → SideStands program c (forced_logs p.world) v side
  side-stands p None v f sound = tt
  side-stands p (Some s) v f sound =
      let log = log_at (forced_logs p.world) c in
      let had : HasPlayed program c (f.past.received c) log s = f.beside in
      record {
        are_forced = had.few;
        leads = front-leads f.here p.world f.past v (take s.have log) (drop s.have log) (Mirrors s.state) f.explained sound (sym (take-drop s.have log))
            (some-and (Mirrors s.state) (replayed program c (f.past.received c) (take s.have log)) had.plays.state had.plays.is_state had.plays.mirrors);
      }

  -- the number that a shipment tells
  ship-number : (p : SystemState) (side behind : Side) (have : ℕ) → ship_turn program c p.world side (node_at p.world c) ≡ Answers (notes.Applied have) behind → Beside program fingerprint found c p side → have ≡ length (log_at (forced_logs p.world) c)
  ship-number p side behind have e f =
      of-ship program fingerprint found c fit pcom p.world side (f.explained.kinds c) (λ t. t ≡ Answers (notes.Applied have) behind → have ≡ length (log_at (forced_logs p.world) c)) (λ log is k. absurd (cc k)) (λ q is. at q is (is_replaying q)) e
    where
      told : (q : Pcom) → node_at p.world c ≡ Some (Runs q) → (s : Standby) (o : Option Standby) → side ≡ Some s → shipped_to program c (contents_to c p.world.packets) s (drop s.have q.log.forced) ≡ o → applied program c s o ≡ Answers (notes.Applied have) behind → have ≡ length (log_at (forced_logs p.world) c)
      told q is s None same ships k = absurd (cc k)
      told q is s (Some t) same ships k =
          same-number t k
          ∙ (shipped-plays program fingerprint found c fit pcom p q s t (subst (Beside program fingerprint found c p) same f) is ships).1
          ∙ ap length (sym (log-here forced_of p.world c (Runs q) is))
        where
          same-number : (t : Standby) → ◌≡◌ {A = Turn Side Note} (Answers (notes.Applied t.have) (Some t)) (Answers (notes.Applied have) behind) → have ≡ t.have
          same-number t h = cc

      by : (q : Pcom) → node_at p.world c ≡ Some (Runs q) → (s : Standby) (rs : List Record) → side ≡ Some s → drop s.have q.log.forced ≡ rs → shipped program c p.world rs s ≡ Answers (notes.Applied have) behind → have ≡ length (log_at (forced_logs p.world) c)
      by q is s [] same are k = absurd (cc k)
      by q is s (r ∷ rs) same are k = told q is s (shipped_to program c (contents_to c p.world.packets) s (r ∷ rs)) same (ap (shipped_to program c (contents_to c p.world.packets) s) are) k

      ships : (q : Pcom) → node_at p.world c ≡ Some (Runs q) → (z : Side) → side ≡ z → ship_all program c p.world q.log.forced z ≡ Answers (notes.Applied have) behind → have ≡ length (log_at (forced_logs p.world) c)
      ships q is None same k = absurd (cc k)
      ships q is (Some s) same k = by q is s (drop s.have q.log.forced) same refl k

      at : (q : Pcom) → node_at p.world c ≡ Some (Runs q) → (b : Bool) → cond b (Answers notes.Replaying side) (ship_all program c p.world q.log.forced side) ≡ Answers (notes.Applied have) behind → have ≡ length (log_at (forced_logs p.world) c)
      at q is true k = absurd (cc k)
      at q is false k = ships q is side refl k

  -- what is told of a takeover that isn't made
  take-note : (side behind : Side) (o : Option Node) (note : Note) → take_turn program c side o ≡ Answers note behind → (note ≡ notes.Replaying) ⊎ ((note ≡ notes.Up) ⊎ (note ≡ notes.Gone))
  take-note side behind o note e = at (holds_of replays o) (holds_of is_down o) e
    where
      is : (m : Note) (z : Side) → ◌≡◌ {A = Turn Side Note} (Answers m z) (Answers note behind) → note ≡ m
      is m z k = cc

      taken : (z : Side) → taken_by program c (on_disk o) z ≡ Answers note behind → (note ≡ notes.Replaying) ⊎ ((note ≡ notes.Up) ⊎ (note ≡ notes.Gone))
      taken None k = inr (inr (is notes.Gone None k))
      taken (Some s) k = absurd (cc k)

      at : (a b : Bool) → cond a (Answers notes.Replaying side) (cond b (taken_by program c (on_disk o) side) (Answers notes.Up side)) ≡ Answers note behind → (note ≡ notes.Replaying) ⊎ ((note ≡ notes.Up) ⊎ (note ≡ notes.Gone))
      at true b k = inl (is notes.Replaying side k)
      at false true k = taken side k
      at false false k = inr (inl (is notes.Up side k))

  told-number : (p : SystemState) (side behind : Side) (have : ℕ) (o : Order) → turn program c p.world side o ≡ Answers (notes.Applied have) behind → Beside program fingerprint found c p side → have ≡ length (log_at (forced_logs p.world) c)
  told-number p side behind have Ship e f = ship-number p side behind have e f
  told-number p side behind have TakeOver e f = absurd (⊎_elim (λ k. cc k) (λ k. ⊎_elim (λ h. cc h) (λ h. cc h) k) (take-note side behind (node_at p.world c) (notes.Applied have) e))
  told-number p side behind have (Run event) e f = absurd (cc e)

  -- what stands in its component's log behind the records of a standby plays, where each message that it takes is at hand
  log-plays : (p : SystemState) (s : Standby) (log : List Record) → (f : Beside program fingerprint found c p (Some s)) → log_at (forced_logs p.world) c ≡ log → AllByRecursion Fits log → IsSome (replayed program c (f.past.received c) log)
      → ((r : Record) → Contains log r → (is_missing (contents_to c p.world.packets) r ≡ false) × (content_of (contents_to c p.world.packets) r ≡ content_of (contents_in (f.past.received c)) r))
      → (s.have ≤ length log) × ((w : Vol) × (play_all program c (contents_to c p.world.packets) s.state (drop s.have log) ≡ Some w))
  log-plays p s log f here fits replays hand =
      let had : HasPlayed program c (f.past.received c) log s = subst (λ l. HasPlayed program c (f.past.received c) l s) here f.beside in (
        had.few,
        plays-all program c (contents_in (f.past.received c)) (contents_to c p.world.packets) s.state (take s.have log) (drop s.have log) had.plays.state (record {
          bytes = fit.bytes;
          good = fit.playable;
          contents = contents-fit program found f.here p.world f.past fit.bytes f.bytes f.explained c;
          fit = subst (AllByRecursion Fits) (sym (take-drop s.have log)) fits;
          is = had.plays.is_state;
          takes = subst IsSome
              (ap (λ l. replayed program c (f.past.received c) l) (sym (take-drop s.have log)) ∙ applied_twice program c (contents_in (f.past.received c)) (Some (first_hist program c)) (take s.have log) (drop s.have log)
              ∙ ap (λ o. apply_all program c (contents_in (f.past.received c)) o (drop s.have log)) had.plays.is_state)
              replays;
        }) had.plays.mirrors (λ r h. hand r (dropped-in s.have log r h)),
      )

  -- so does a takeover play it
  pub down-plays : (p : SystemState) (s : Standby) (log : List Record) → Beside program fingerprint found c p (Some s) → node_at p.world c ≡ Some (Down log) → (s.have ≤ length log) × ((w : Vol) × (play_all program c (contents_to c p.world.packets) s.state (drop s.have log) ≡ Some w))
  down-plays p s log f is =
      log-plays p s log f (log-here forced_of p.world c (Down log) is) (f.bytes.nodes c (Down log) is) (node-logs program found f.here p.world f.past c (Down log) f.explained is pcom).whole.replays
      (λ r h. let near = f.at_hand (Down log) is r h in (near, packets_have_contents program found f.here p.world f.past c log pcom f.explained is r h near))

  -- no shipment fails to play
  up-plays : (p : SystemState) (side behind : Side) (q : Pcom) → node_at p.world c ≡ Some (Runs q) → Beside program fingerprint found c p side → cond (is_replaying q) (Answers notes.Replaying side) (ship_all program c p.world q.log.forced side) ≡ Answers notes.Bad behind → ⊥
  up-plays p side behind q is f e = at (is_replaying q) e
    where
      log : List Record
      log = q.log.forced

      contents : Contents
      contents = contents_to c p.world.packets

      plays : (s : Standby) → side ≡ Some s → (w : Vol) × (play_all program c contents s.state (drop s.have log) ≡ Some w)
      plays s same =
          let g = subst (Beside program fingerprint found c p) same f in
          let fits : LogFits q.log = g.bytes.nodes c (Runs q) is in
          (log-plays p s log g (log-here forced_of p.world c (Runs q) is) fits.forced (forced-facts program fingerprint found c fit pcom g.here p.world g.past q g.explained is).whole.replays
          (λ r h. let near : is_missing contents r ≡ false = g.at_hand (Runs q) is r (Contains-append_left log q.log.buffered r h) in (near, running-contents program found g.here p.world g.past c q pcom g.explained is r h near))).1

      told : (s : Standby) (o : Option Standby) → side ≡ Some s → shipped_to program c contents s (drop s.have log) ≡ o → applied program c s o ≡ Answers notes.Bad behind → ⊥
      told s (Some t) same ships h = cc h
      told s None same ships h =
          let y = plays s same in
          none-some (record { state = y.0; have = s.have + length (drop s.have log) }) (sym ships ∙ ap (option_map (λ v. record { state = v; have = s.have + length (drop s.have log) })) y.1)

      by : (s : Standby) (rs : List Record) → side ≡ Some s → drop s.have log ≡ rs → shipped program c p.world rs s ≡ Answers notes.Bad behind → ⊥
      by s [] same are h = cc h
      by s (r ∷ rs) same are h = told s (shipped_to program c contents s (r ∷ rs)) same (ap (shipped_to program c contents s) are) h

      ships : (z : Side) → side ≡ z → ship_all program c p.world log z ≡ Answers notes.Bad behind → ⊥
      ships None same h = cc h
      ships (Some s) same h = by s (drop s.have log) same refl h

      at : (b : Bool) → cond b (Answers notes.Replaying side) (ship_all program c p.world log side) ≡ Answers notes.Bad behind → ⊥
      at true h = cc h
      at false h = ships side refl h

  ship-plays : (p : SystemState) (side behind : Side) → ship_turn program c p.world side (node_at p.world c) ≡ Answers notes.Bad behind → Beside program fingerprint found c p side → ⊥
  ship-plays p side behind e f =
      of-ship program fingerprint found c fit pcom p.world side (f.explained.kinds c) (λ t. t ≡ Answers notes.Bad behind → ⊥) (λ log is k. cc k) (λ q is. up-plays p side behind q is f) e

  pub told-plays : (p : SystemState) (side behind : Side) (o : Order) → turn program c p.world side o ≡ Answers notes.Bad behind → Beside program fingerprint found c p side → ⊥
  told-plays p side behind Ship e f = ship-plays p side behind e f
  told-plays p side behind TakeOver e f = ⊎_elim (λ k. cc k) (λ k. ⊎_elim (λ h. cc h) (λ h. cc h) k) (take-note side behind (node_at p.world c) notes.Bad e)
  told-plays p side behind (Run event) e f = cc e

  -- a takeover
  record Over (p q : SystemState) (s : Standby) (played : ℕ) : Type 0 where
    log : log_at (forced_logs q.world) c ≡ log_at (forced_logs p.world) c
    number : played + s.have ≡ length (log_at (forced_logs q.world) c)
    up : (v : PlainWorld) → IsSound program (forced_logs q.world) v → IsUpWith program c (forced_logs q.world) v (node_at q.world c)

  takes-over : (p q : SystemState) (s : Standby) (played : ℕ) → TakesOver program fingerprint c (contents_to c p.world.packets) s played p q → Beside program fingerprint found c p (Some s) → Beside program fingerprint found c q None → Over p q s played
  takes-over p q s played over f g = record {
    log = now-log ∙ sym was-log;
    number = let long = ap length now-log in let had = (subst (λ l. HasPlayed program c (f.past.received c) l s) was-log f.beside).few in omega (arith, long, had, over.steps);
    up = λ v sound. subst (IsUpWith program c (forced_logs q.world) v) (sym there) (
      refl,
      front-leads g.here q.world g.past v (log_at (forced_logs q.world) c) [] (Mirrors p-over.vol) g.explained sound (sym (append-nil (log_at (forced_logs q.world) c)))
          (subst (λ l. IsSomeAnd (replayed program c (g.past.received c) l) (Mirrors p-over.vol)) (sym volatile-played ∙ sym now-log) volatile.mirrors),
    );
  }
    where
      p-over : Pcom
      p-over = taken_over over.records over.state

      was-log : log_at (forced_logs p.world) c ≡ over.records
      was-log = log-here forced_of p.world c (Down over.records) over.down

      there : node_at q.world c ≡ Some (Runs p-over)
      there = ap (λ w. node_at w c) over.world ∙ set-same p.world.nodes c.0 (Runs p-over) (Down over.records) over.down

      now-log : log_at (forced_logs q.world) c ≡ over.records
      now-log = log-here forced_of q.world c (Runs p-over) there

      volatile : VolatileFacts program c p-over (g.past.received c)
      volatile = subst (λ o. MatchOption o ⊤ (IsMirrored program c (g.past.received c))) there (g.explained.pcoms c)

      volatile-played : over.records ≡ volatile.played
      volatile-played = sym (append-nil over.records) ∙ volatile.rest_stands ∙ append-nil volatile.played

-- rounds --------------------------------------------------------------------------------------------

pub first-beside : (program : Program) (c : ComId) (fingerprint : List ℕ) (p : SystemState) (files : List (List ℕ)) → IsFit program → length fingerprint ≡ 32 → IsStarted program fingerprint files p → Beside program fingerprint [] c p (Some (first_standby program c))
first-beside program c fingerprint p files fit long start =
    let begun = starts_are_explained program fingerprint files p fit.playable fit.bytes long start in
    record {
      here = λ d. 0;
      past = begun.0.explained.0;
      explained = begun.0.explained.1;
      bytes = begun.0.bytes;
      keeps = begun.1;
      beside = record { few = least (length (log_at (forced_logs p.world) c)); plays = first-plays program c (begun.0.explained.0.received c) (log_at (forced_logs p.world) c) };
      at_hand = λ n is. none-taken n (subst (λ w. node_at w c ≡ Some n) start.world is);
    }
  where
    empty-first : (k : Kind) → records_of (first_node program c k) ≡ []
    empty-first kinds.Pcom = refl
    empty-first kinds.Tcom = refl
    empty-first kinds.Xcom = refl

    none-taken : (n : Node) → node_at (first_world program) c ≡ Some n → AllAtHand c p.world.packets (records_of n)
    none-taken n is =
        let d = mapped (λ (d : Component). first_node program c d.kind) (slice_get program.components c.0) n (sym (node-at program c) ∙ is) in
        subst (λ m. AllAtHand c p.world.packets (records_of m)) d.2 (subst (AllAtHand c p.world.packets) (sym (empty-first d.0.kind)) (λ r h. empty r h))

-- what is left behind the first rounds, and what stands there
record Behind (program : Program) (c : ComId) (fingerprint : List ℕ) (x : PolicyIntervals) (p : SystemState) (before after : List (Round Side Note)) : Type 0 where
  rest : List Order
  may-rest : (o : Order) → Contains rest o → OrderMayCome program o
  beside : Beside program fingerprint [] c (state_after p before) (side_behind_rounds program c fingerprint before)
  then : AreRounds (failover program c fingerprint) program fingerprint x (side_behind_rounds program c fingerprint before) (state_after p before) rest after

record Next (program : Program) (c : ComId) (fingerprint : List ℕ) (x : PolicyIntervals) (p : SystemState) (before : List (Round Side Note)) (r : Round Side Note) : Type 0 where
  order : Order
  beside : Beside program fingerprint [] c (state_after p before) (side_behind_rounds program c fingerprint before)
  round : IsRound (failover program c fingerprint) program fingerprint x (side_behind_rounds program c fingerprint before) (state_after p before) order r

-- from blank disks on a run keeps behind each of its rounds what it promises, also where it is refused later
pub failovers-serve : (program : Program) (c : ComId) (fingerprint : List ℕ) (x : PolicyIntervals) (orders : List Order) (p : SystemState) (rs : List (Round Side Note)) (files : List (List ℕ)) → IsFit program → is_a_pcom program c ≡ true → ((o : Order) → Contains orders o → OrderMayCome program o) → length fingerprint ≡ 32 → IsStarted program fingerprint files p →
    AreRounds (failover program c fingerprint) program fingerprint x (Some (first_standby program c)) p orders rs → ServesFailover program c fingerprint p rs
failovers-serve program c fingerprint x orders p rs files fit pcom may long start are = record {
  stands = λ before after v split sound. let y = behind before after split in side-stands program fingerprint [] c fit pcom (state_after p before) (side_behind_rounds program c fingerprint before) v y.beside sound;
  ships = λ before after have side split. let y = next before (Told (notes.Applied have) side) after split in told-number program fingerprint [] c fit pcom (state_after p before) (side_behind_rounds program c fingerprint before) side have y.order y.round y.beside;
  plays = λ before after side split. let y = next before (Told notes.Bad side) after split in told-plays program fingerprint [] c fit pcom (state_after p before) (side_behind_rounds program c fingerprint before) side y.order y.round y.beside;
  takes_over = λ before after played side q s split same.
      let y = next before (Leapt (notes.Done played) side q) after split in
      let over : TakesOver program fingerprint c (contents_to c (state_after p before).world.packets) s played (state_after p before) q =
      subst (λ (z : Side). (failover program c fingerprint).leap z (state_after p before) (notes.Done played) q) same y.round.1 in
      let z = takes-over program fingerprint [] c fit pcom (state_after p before) q s played over (subst (Beside program fingerprint [] c (state_after p before)) same y.beside)
      (leap-beside program fingerprint [] c fit pcom (state_after p before) q s played over (subst (Beside program fingerprint [] c (state_after p before)) same y.beside)) in
      (z.log, z.number, z.up);
}
  where
    first : Beside program fingerprint [] c p (Some (first_standby program c))
    first = first-beside program c fingerprint p files fit long start

    behind : (before after : List (Round Side Note)) → rs ≡ before ++ after → Behind program c fingerprint x p before after
    behind before after split =
        let y = parts-of (failover program c fingerprint) program fingerprint x (Some (first_standby program c)) p orders before after (subst (AreRounds (failover program c fingerprint) program fingerprint x (Some (first_standby program c)) p orders) split are) in
        record {
          rest = y.rest;
          may-rest = λ o h. may o (subst (λ l. Contains l o) (sym y.are) (Contains-append_right y.first y.rest o h));
          beside = rounds-beside program fingerprint [] c fit pcom x p (Some (first_standby program c)) y.first before (λ o h. may o (subst (λ l. Contains l o) (sym y.are) (Contains-append_left y.first y.rest o h))) y.begun first;
          then = y.then;
        }

    next : (before : List (Round Side Note)) (r : Round Side Note) (after : List (Round Side Note)) → rs ≡ before ++ r ∷ after → Next program c fingerprint x p before r
    next before r after split = let y = behind before (r ∷ after) split in by y.beside y.rest y.then
      where
        by : Beside program fingerprint [] c (state_after p before) (side_behind_rounds program c fingerprint before) → (os : List Order) →
            AreRounds (failover program c fingerprint) program fingerprint x (side_behind_rounds program c fingerprint before) (state_after p before) os (r ∷ after) → Next program c fingerprint x p before r
        by f [] k = absurd k
        by f (o ∷ os) k = record { order = o; beside = f; round = k.0 }

pub failover_runs_serve : FailoverRunsServe
failover_runs_serve program c fingerprint x orders halts p rs vs b = failovers-serve program c fingerprint x orders p rs b.files b.fit b.pcom b.may b.long b.started b.runs.rounds
