-- Over disks that tell their bytes no log of a Pcom is refused: by no event, no shipment and no takeover.
use Rattle.std.proofs.Common.{◌≡◌, ◌∙◌, refl, sym, ap, subst, ℕ, zero, suc, ◌≤◌, arith, Bool, true, false, cond, List, [], ◌∷◌, ◌++◌, length, drop, Option, Some, None, option_map, ◌⊎◌, inl, inr, le-ltb}
use Rattle.std.specs.Prelude.{◌&&◌, not, unwrap_or, Contains, Result, Ok, Err}
use Rattle.std.specs.List.{AllByRecursion}
use Rattle.std.proofs.lemmas.List.{length-map, append-nil}
use Rattle.std.proofs.lemmas.List.Elements.{Contains-append_right}
use Rattle.ic_base.specs.Programs.{is_a_tcom}
use Rattle.ic_base.specs.declared.limits.TheConstants.{COMPONENTS, LOG_BYTES}
use Rattle.ic_base.specs.declared.messages.ComId.{ComId}
use Rattle.ic_base.specs.declared.record.Record.{Record}
use Rattle.ic_base.specs.declared.refusals.WorldRefused.{WorldRefused}
use Rattle.ic_base.specs.declared.refusals.WorldRefused.TheVariants as refused
use Rattle.ic_base.specs.declared.scenario.Program.{Program}
use Rattle.def_failover.specs.Orders.{Side, had_by, take_turn, turn}
use Rattle.def_failover.specs.declared.note.Note.{Note}
use Rattle.def_failover.specs.declared.note.Note.TheVariants as notes
use Rattle.ic_base.specs.declared.record.Batch.{Batch}
use Rattle.def_log.specs.Directory.{slots_in}
use Rattle.def_log.specs.Frame.{fingerprint_in, owner_in, frame_of}
use Rattle.def_log.specs.Log.{Placed, placed_log_of, placed_with, log_of, records_in, ◌>>=◌}
use Rattle.def_log.specs.Sizes.{size_in}
use Rattle.def_log.specs.Spelling.{Fits}
use Rattle.def_rounds.specs.Rounds.{Turn, Answers, Leaps}
use Rattle.def_run.specs.CoreSteps.{forced_of}
use Rattle.def_run.specs.Executions.{Agenda, Executes, whole_agenda}
use Rattle.def_run.specs.Refusals.{IsRefused, met, place_of}
use Rattle.def_run.specs.SystemStates.{SystemState, Transition, IsLog, KeepsLog, KeepsLogs, file_of, last_state}
use Rattle.def_standby.specs.Standbys.{Standby, play_all, played_on, is_missing, stops_at, contents_to}
use Rattle.def_standby.specs.declared.orders.Order.{Order}
use Rattle.def_standby.specs.declared.orders.Order.TheVariants.{Ship, TakeOver, Run}
use Rattle.def_state.specs.Fits.{fits}
use Rattle.def_state.specs.Hist.{Contents}
use Rattle.def_state.specs.Vol.{Vol, standing, numbers_fit}
use Rattle.def_step.specs.Pcom.{is_replaying}
use Rattle.def_step.specs.World as definition
use Rattle.def_step.specs.World.{Runs, Serves, Down, External, node_at}
use Rattle.ic_disk.specs.TornDisks.{Torn}
use Rattle.ic_disk.specs.Torns.{torn}
use Rattle.ic_disk.specs.declared.disk.Disk as disk
use Rattle.ic_disk.specs.declared.sink.Sink as sink
use Rattle.ic_failover.proofs.Midway.{goes-mid, print-mid, tells-mid, beside-mid}
use Rattle.ic_failover.proofs.Served.{MayServe}
use Rattle.ic_failover.specs.Asking.{MayBeOrdered}
use Rattle.ic_failover.specs.Carrying.{Stage, CarriesAll, FailsToCarry, FailsToCarryAll, FailsToSettle, intervals_for, telling_for}
use Rattle.ic_failover.specs.Runs.{IsOfSoundLogs}
use Rattle.ic_failover.specs.Shipping.{FailsToShip}
use Rattle.ic_failover.specs.Taking as taking
use Rattle.ic_failover.specs.Worlds.{Begins, StopsShort}
use Rattle.ic_failover.specs.declared.texts.FailoverTexts.{FailoverTexts}
use Rattle.ic_node.specs.TakingOver as nodes
use Rattle.ic_node.specs.Views.{com_of, file_of as file_of_component}
use Rattle.ic_node.specs.declared.done.NodeRefused.{NodeRefused}
use Rattle.ic_node.specs.declared.done.NodeRefused.TheVariants as node_refused
use Rattle.ic_pcom.specs.Adopting.{stop_among, stop_place, stop_in}
use Rattle.ic_replay.specs.Playing.{counted_from}
use Rattle.ic_run.proofs.Worlds.{tells-on}
use Rattle.ic_run.specs.Lending.{lent}
use Rattle.ic_run.specs.Openings.{TheyTell}
use Rattle.ic_run.specs.Running.{WasRefused, lines_behind}
use Rattle.ic_run.specs.Worlds.{Opens}
use Rattle.ic_run.specs.declared.opening.Opening.TheVariants.{Anew}
use Rattle.ic_run.specs.declared.running.Cut.TheVariants as cuts
use Rattle.ic_wire.proofs.Counted.{counted}
use Rattle.ic_wire.specs.Placed.{IsCounted}
use Rattle.ic_work.specs.Components.{refusal_of}
use Rattle.ic_world.proofs.Lists.{get-map, same-com}
use Rattle.ic_world.specs.TakingOver.{FailsToTakeOver}
use Rattle.ic_world.specs.Views.{components_of, world_of, state_of, print_of, received_of, Tells}
use Rattle.ic_world.specs.declared.world.World.{World}
use Rattle.law_client.proofs.Along.{one-comes}
use Rattle.law_client.specs.Rounds.{Stands}
use Rattle.law_failover.proofs.Rounds.{Beside, stands-beside}
use Rattle.law_failover.proofs.Serving.{told-plays, down-plays}
use Rattle.law_marks.proofs.Owners.{owned}
use Rattle.law_replay.proofs.Lists.{none-some, passed, empty, in-head}
use Rattle.law_run.proofs.Along.{Left, at-the-end}
use Rattle.law_run.proofs.HasImages.{all-has}
use Rattle.law_run.proofs.Meeting.{events_meet_sound_logs}
use Rattle.law_run.specs.Executions.{IsExplainedInBytes, MayCome, here_along}
use Rattle.law_run.specs.Refusals.{LacksEpoch}
use Rattle.law_run.specs.WorldBytes.{NodeFits}

-- a log that plays -------------------------------------------------------------------------------

-- records that all play have none at which a standby stops
never-stops : (program : Program) (c : ComId) (contents : Contents) (v w : Vol) (rs : List Record) → play_all program c contents v rs ≡ Some w → stops_at program c contents v rs ≡ None
never-stops program c contents v w [] e = refl
never-stops program c contents v w (r ∷ rs) e =
    let now = played_on program c contents v r in
    let y = passed (fits program c (standing program c v) r && not (is_missing contents r) && numbers_fit now) (play_all program c contents now rs) w e in
    ap (λ b. cond b (option_map suc (stops_at program c contents now rs)) (Some 0)) y.0 ∙ ap (option_map suc) (never-stops program c contents now w rs y.1)

-- a file with such a log isn't refused
never-refused : (program : Program) (c : ComId) (contents : Contents) (v w : Vol) (have : ℕ) (bytes : List ℕ) (log : List Record) (place : ℕ) → owner_in bytes ≡ c.0 → log_of bytes ≡ Ok log → have ≤ length log → play_all program c contents v (drop have log) ≡ Some w → stop_in program c contents v have bytes ≡ Some place → ⊥
never-refused program c contents v w have bytes log place own reads enough plays stops =
    at (placed_log_of bytes) reads (ap (λ (f : Result (List Batch) ℕ). stop_place program c contents v have (size_in bytes) (f >>= λ bs. placed_with (slots_in bytes) bs)) (sym (owned c.0 bytes (frame_of bytes) own)) ∙ stops)
  where
    same : (rs : List Placed) → ◌≡◌ {A = Result (List Record) ℕ} (Ok (records_in rs)) (Ok log) → records_in rs ≡ log
    same rs e = cc

    at : (z : Result (List Placed) ℕ) → (z >>= λ rs. Ok (records_in rs)) ≡ Ok log → stop_place program c contents v have (size_in bytes) z ≡ Some place → ⊥
    at (Err p) e k = cc e
    at (Ok rs) e k =
        let is = same rs e in
        let long : have ≤ length rs = omega (arith, enough, ap length is, length-map rs (λ (r : Placed). r.1)) in
        let none : stop_among program c contents v have rs ≡ None =
        ap (λ o. option_map (place_of rs) (counted_from have o)) (never-stops program c contents v w (drop have (records_in rs)) (ap (λ l. play_all program c contents v (drop have l)) is ∙ plays)) in
        none-some place (sym (ap (λ b. cond b (size_in bytes) (stop_among program c contents v have rs)) (le-ltb (length rs) have long) ∙ none) ∙ k)

-- records of a log ---------------------------------------------------------------------------------

all-counted : (n : ℕ) (rs : List Record) → AllByRecursion Fits rs → AllByRecursion IsCounted (drop n rs)
all-counted zero [] h = tt
all-counted zero (r ∷ rs) h = (counted r h.0, all-counted zero rs h.1)
all-counted (suc n) [] h = tt
all-counted (suc n) (r ∷ rs) h = all-counted n rs h.1

forced-fit : (o : Option definition.Node) → ((n : definition.Node) → o ≡ Some n → NodeFits n) → AllByRecursion Fits (forced_of o)
forced-fit None f = tt
forced-fit (Some (Runs q)) f = (f (Runs q) refl).forced
forced-fit (Some (Serves t)) f = (f (Serves t) refl).records
forced-fit (Some (Down log)) f = f (Down log) refl
forced-fit (Some External) f = tt

-- a takeover is of a component that is down
taken-down : (program : Program) (c : ComId) (side behind : Side) (o : Option definition.Node) (note : Note) → take_turn program c side o ≡ Leaps note behind → (log : List Record) × (o ≡ Some (Down log))
taken-down program c side behind None note e = absurd (cc e)
taken-down program c side behind (Some (Runs q)) note e = absurd (at (is_replaying q) e)
  where
    at : (z : Bool) → ◌≡◌ {A = Turn Side Note} (cond z (Answers notes.Replaying side) (Answers notes.Up side)) (Leaps note behind) → ⊥
    at true k = cc k
    at false k = cc k
taken-down program c side behind (Some (Serves t)) note e = absurd (cc e)
taken-down program c side behind (Some (Down log)) note e = (log, refl)
taken-down program c side behind (Some External) note e = absurd (cc e)

module _ {D : Type 0} (b : disk.Ghosts D) {K : Type 0} (k : sink.Ghosts K) (r : FailoverTexts) (disks : List D) (few : length r.program.components ≤ COMPONENTS) (long : length r.fingerprint ≡ 32) (may : MayServe r) (tell : TheyTell b r.program disks) (old : World (Torn D) (torn b)) (opened : Opens b Anew r.program r.fingerprint (lent r.program.components disks) old) (before : K) (a : Stage (torn b) K) (begins : Begins r old before a)
    (os rest : List Order) (are : r.orders.orders ≡ os ++ rest) (m : Stage (torn b) K) (carried : CarriesAll k r os a m) where
  abbrev beside : Beside r.program r.fingerprint [] r.who (state_of m.world) m.beside.side
  beside = beside-mid b k r disks old opened before a begins os m carried tell long may rest are

  abbrev told : Tells m.world
  told = tells-mid b k r disks old opened before a begins os m carried tell

  abbrev print : print_of m.world ≡ r.fingerprint
  print = print-mid b k r disks old opened before a begins os m carried

  -- an event ---------------------------------------------------------------------------------------

  module _ (lines : List Transition → List (List ℕ)) (agenda : Agenda) (comes : MayCome r.program agenda) (new : World (Torn D) (torn b)) (after : K) (why : WorldRefused) (was : WasRefused b k r.program (intervals_for r) lines agenda m.world new m.out after why) where
    there : Stands r.program r.fingerprint [] (state_of m.world)
    there = stands-beside r.program r.fingerprint [] r.who (state_of m.world) m.beside.side beside

    abbrev here : ComId → ℕ
    here = here_along there.here (state_of m.world) was.transitions

    left : Left r.program r.fingerprint (intervals_for r) was.agenda [] here (last_state (state_of m.world) was.transitions) []
    left =
        let E : List ℕ → Type 0 = λ f. Executes r.program f (intervals_for r) agenda (state_of m.world) was.transitions was.agenda in
        at-the-end r.program r.fingerprint (intervals_for r) agenda was.agenda (state_of m.world) was.transitions [] there.here may.fit.playable may.fit.flat may.fit.bytes comes there.keeps (subst E print (was.goes.executes told)) there.explained

    meets : (w : WorldRefused) → met r.program (print_of was.now) (state_of was.now) was.event.stop was.event.what ≡ Some w → (t : ComId) × (w ≡ refused.Bad t LOG_BYTES) × LacksEpoch r.program (state_of was.now) was.event.what t
    meets w e =
        let now-print : print_of was.now ≡ r.fingerprint = was.goes.disks.print ∙ print in
        let M : List ℕ → Type 0 = λ f. met r.program f (state_of was.now) was.event.stop was.event.what ≡ Some w in
        events_meet_sound_logs r.program r.fingerprint [] here (state_of was.now) was.event w may.fit.playable may.fit.bytes (subst (λ (s : SystemState). KeepsLogs r.fingerprint s) was.goes.ends left.keeps)
        (subst (λ (s : SystemState). IsExplainedInBytes r.program [] here s.world) was.goes.ends left.explained) (subst M now-print e)

    pub event-sound : IsOfSoundLogs r.program why
    event-sound = by why (was.fails.why_refused (tells-on m.world was.now was.goes.disks told))
      where
        bad : (c t : ComId) (place : ℕ) → refused.Bad c place ≡ refused.Bad t LOG_BYTES → is_a_tcom r.program t ≡ true → (place ≡ LOG_BYTES) × (is_a_tcom r.program c ≡ true)
        bad c t place e tcom = (ap place-of e, subst (λ d. is_a_tcom r.program d ≡ true) (sym (ap who-of e)) tcom)
          where
            place-of : WorldRefused → ℕ
            place-of (refused.Bad d n) = n
            place-of _ = place

            who-of : WorldRefused → ComId
            who-of (refused.Bad d n) = d
            who-of _ = c

        by : (w : WorldRefused) → IsRefused r.program (print_of was.now) (state_of was.now) (received_of was.now) was.event w → IsOfSoundLogs r.program w
        by (refused.Bad c place) e = let y = meets (refused.Bad c place) e in bad c y.0 place y.1 y.2.tcom
        by (refused.Foreign c kept) e = let y = meets (refused.Foreign c kept) e in cc (y.1)
        by (refused.Limit which) e = tt
        by (refused.LogFull c) e = tt
        by (refused.Failed c) e = tt
        by refused.Memory e = tt

  -- a shipment ---------------------------------------------------------------------------------------

  ship-sound : (why : WorldRefused) → FailsToShip r.program r.who (world_of m.world) m.beside.side (cuts.Refused why) → ⊥
  ship-sound why f =
      let y = f.1 (all-counted (had_by m.beside.side) (forced_of (node_at (world_of m.world) r.who)) (forced-fit (node_at (world_of m.world) r.who) (λ n is. beside.bytes.nodes r.who n is))) in
      told-plays r.program r.fingerprint [] r.who may.fit may.pcom (state_of m.world) m.beside.side y.0 Ship y.1 beside

  -- a takeover ---------------------------------------------------------------------------------------

  module _ (new : World (Torn D) (torn b)) (standby : Standby) (stood : m.beside.side ≡ Some standby) (note : Note) (turn_is : turn r.program r.who (world_of m.world) m.beside.side TakeOver ≡ Leaps note None) (why : WorldRefused)
      (x : FailsToTakeOver b r.program m.world r.who (contents_to r.who (world_of m.world).packets) standby.state standby.have new why) where
    down : (log : List Record) × (node_at (world_of m.world) r.who ≡ Some (Down log))
    down = taken-down r.program r.who m.beside.side None (node_at (world_of m.world) r.who) note turn_is

    -- the disk of its component reads as its log
    abbrev file : List ℕ
    file = file_of (state_of m.world) r.who

    is-log : IsLog r.fingerprint r.who.0 file down.0
    is-log = subst (KeepsLog r.fingerprint r.who file) down.1 (beside.keeps r.who)

    same-file : file_of_component x.before ≡ file
    same-file = sym (ap (λ o. unwrap_or o []) (get-map (λ z. file_of_component z) (components_of m.world) r.who.0 ∙ ap (option_map (λ z. file_of_component z)) x.at))

    same-who : com_of x.before ≡ r.who
    same-who = same-com (com_of x.before) r.who (m.world.placed (goes-mid b k r disks old opened before a begins os m carried few may).going r.who.0 x.before x.at).0

    plays : (standby.have ≤ length down.0) × ((w : Vol) × (play_all r.program r.who (contents_to r.who (world_of m.world).packets) standby.state (drop standby.have down.0) ≡ Some w))
    plays = down-plays r.program r.fingerprint [] r.who may.fit may.pcom (state_of m.world) standby down.0 (subst (Beside r.program r.fingerprint [] r.who (state_of m.world)) stood beside) down.1

    pub take-sound : IsOfSoundLogs r.program why
    take-sound = subst (IsOfSoundLogs r.program) (sym x.is) (by x.node_why x.fails)
      where
        by : (w : NodeRefused) → nodes.FailsToTakeOver b r.program (print_of m.world) x.before (contents_to r.who (world_of m.world).packets) standby.state standby.have x.now w → IsOfSoundLogs r.program (refusal_of r.who w)
        by node_refused.Full f = absurd f
        by (node_refused.Bad place) f =
            let S : ComId → List ℕ → Type 0 = λ c bytes. stop_in r.program c (contents_to r.who (world_of m.world).packets) standby.state standby.have bytes ≡ Some place in
            absurd (never-refused r.program r.who (contents_to r.who (world_of m.world).packets) standby.state plays.1.0 standby.have file down.0 place is-log.owned is-log.holds plays.0 plays.1.1
            (subst (λ c. S c file) same-who (subst (λ bytes. S (com_of x.before) bytes) same-file (f (told r.who.0 x.before x.at)))))
        by (node_refused.Foreign kept) f =
            let foreign = f (told r.who.0 x.before x.at) in
            absurd (foreign.2 (foreign.1 ∙ ap fingerprint_in same-file ∙ is-log.own ∙ sym print))
        by node_refused.Failed f = tt
        by node_refused.Memory f = tt

  -- an order -----------------------------------------------------------------------------------------

  pub order-sound : (o : Order) → MayBeOrdered r.program o → (new : World (Torn D) (torn b)) (after : K) (why : WorldRefused) → FailsToCarry b k r o m new after (cuts.Refused why) → IsOfSoundLogs r.program why
  order-sound (Run e) comes new after why f = event-sound (lines_behind (telling_for r) m.tally.events) (whole_agenda (e ∷ []) true) (one-comes r.program e true comes.event) new after why f
  order-sound Ship comes new after why (inl u) = absurd u.fails
  order-sound Ship comes new after why (inr (out_is, same, f)) = absurd (ship-sound why f)
  order-sound TakeOver comes new after why (inl u) = absurd u.fails
  order-sound TakeOver comes new after why (inr f) = by f.1
    where
      by : taking.FailsToTake b r.program r.who m.world new m.beside (cuts.Refused why) → IsOfSoundLogs r.program why
      by (inl w) = subst (IsOfSoundLogs r.program) (same w.why w.is) (take-sound new w.standby w.stood w.told w.turn_is w.why w.fails)
        where
          same : (v : WorldRefused) → cuts.Refused why ≡ cuts.Refused v → v ≡ why
          same v e = cc
      by (inr z) = absurd (cc (z.0))

-- what ends a run of orders
module _ {D : Type 0} (b : disk.Ghosts D) {K : Type 0} (k : sink.Ghosts K) (r : FailoverTexts) (disks : List D) (few : length r.program.components ≤ COMPONENTS) (long : length r.fingerprint ≡ 32) (may : MayServe r) (tell : TheyTell b r.program disks) (old : World (Torn D) (torn b)) (opened : Opens b Anew r.program r.fingerprint (lent r.program.components disks) old) (before after : K) (new : World (Torn D) (torn b)) (why : WorldRefused) where
  pub short-sound : StopsShort b k r old new before after (cuts.Refused why) → IsOfSoundLogs r.program why
  short-sound s = by s.was
    where
      by : FailsToCarryAll b k r s.first new after (cuts.Refused why) ⊎ FailsToSettle b k r s.first new after (cuts.Refused why) → IsOfSoundLogs r.program why
      by (inl f) =
          order-sound b k r disks few long may tell old opened before s.first s.begins f.first (f.order ∷ f.rest) f.are f.mid f.carried f.order
          (all-has (MayBeOrdered r.program) r.orders.orders f.order may.orders (subst (λ l. Contains l f.order) (sym f.are) (Contains-append_right f.first (f.order ∷ f.rest) f.order (in-head f.order f.rest)))) new after why f.fails
      by (inr f) =
          event-sound b k r disks few long may tell old opened before s.first s.begins r.orders.orders [] (sym (append-nil r.orders.orders)) f.mid f.carried (lines_behind (telling_for r) f.mid.tally.events) (whole_agenda [] r.orders.halts) (λ e h. empty e h) new after why f.cut_off
