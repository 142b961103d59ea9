-- What a call comes to at a Pcom, as that of a component.
use Rattle.std.proofs.Common.{◌≡◌, ◌∙◌, refl, sym, ap, subst, inl, inr, ℕ, ◌+◌, ◌-◌, ◌≤◌, Bool, true, false, cond, List, [], ◌∷◌, ◌++◌, length, length-append, append_assoc, Option, Some, None, option_map, arith}
use Rattle.std.specs.Prelude.{Result, Ok, Err, not, ◌&&◌, ◌⊎◌}
use Rattle.ic_base.specs.declared.messages.ComId.{ComId}
use Rattle.ic_base.specs.declared.messages.Packet.{Packet}
use Rattle.ic_base.specs.declared.messages.Packet.TheVariants.{Data, Stable, Installed, Fetch, Op, OpReply, Commit, Outcome, Drop}
use Rattle.ic_base.specs.declared.record.Record.{Record}
use Rattle.ic_base.specs.declared.refusals.WorldRefused.TheVariants as refused
use Rattle.ic_base.specs.declared.scenario.Program.{Program}
use Rattle.def_log.specs.Changes.{is_start}
use Rattle.def_log.specs.Directory.{slots_in}
use Rattle.def_log.specs.Log.{Placed, placed_log_of, records_in, ◌>>=◌}
use Rattle.def_log.specs.Sizes.{size_in}
use Rattle.def_run.specs.Refusals.{node_refusal, place_of}
use Rattle.def_state.specs.Positions.{end_of}
use Rattle.def_step.specs.Calls.{node_is_full}
use Rattle.def_step.specs.Packets.{fits_pcom}
use Rattle.def_step.specs.Pcom as step
use Rattle.def_step.specs.Pcom.{Call, Gives, Gets, Forces, Checkpoints, Resends, Emits, StepResult, is_needed, is_replaying, all_of, is_full}
use Rattle.def_step.specs.Replay.{misfit_fed, has_image}
use Rattle.def_step.specs.Room.{is_empty}
use Rattle.def_step.specs.World as world
use Rattle.def_step.specs.World.{Runs, does}
use Rattle.law_tail.specs.Wholes.{with_earlier}
use Rattle.law_tail.proofs.Wholes.{steps-same}
use Rattle.ic_disk.specs.Disk.{CrashLeaves, Makes}
use Rattle.ic_disk.specs.declared.disk.Disk.{Ghosts}
use Rattle.ic_disk.proofs.Disks.{makes_named, crash_weaker}
use Rattle.ic_gate.specs.Calls.{gated_calls}
use Rattle.ic_gate.specs.RecordCalls.{record_writes}
use Rattle.ic_gate.proofs.LogSizes.{walk_stands}
use Rattle.ic_gate.proofs.RecordFiles.{from_front, size_there}
use Rattle.ic_gate.proofs.Walks.{records_walk}
use Rattle.ic_pcom.specs.Logs.{placed_or_none}
use Rattle.ic_pcom.specs.Stages.{is_up}
use Rattle.ic_pcom.specs.Stepping.{step_of, forced_by, batch_of, calls_of, IsFull, Does, IsUnmoved, IsBeforeOrStepped, fed_place}
use Rattle.ic_pcom.specs.Views.{component_of, com_of, disk_of, start_of, size_of, used_of, is_closed, played_of, told_of}
use Rattle.ic_pcom.specs.declared.pcom.Pcom.{Pcom}
use Rattle.ic_pcom.specs.declared.step.PacketRefused.{PacketRefused}
use Rattle.ic_pcom.specs.declared.step.PacketRefused.TheVariants as packet
use Rattle.ic_pcom.specs.declared.step.Step.{Step}
use Rattle.ic_gate.specs.RecordFiles.{IsBeforeOrBehind, CanStand}
use Rattle.ic_node.specs.Answering.{before_of, told_by}
use Rattle.ic_node.specs.Calling.{done_with}
use Rattle.ic_node.specs.Meeting.{adds_in}
use Rattle.ic_node.specs.PcomStep.{IsMade, FailsToCall, MeetsBad}
use Rattle.ic_node.specs.Steps as steps
use Rattle.ic_node.specs.Steps.{HasForced, FailsToStep, StepsOver, Counts}
use Rattle.ic_node.specs.declared.done.Done.{Done}
use Rattle.ic_node.proofs.Earlier.{does_over, done_over, adds_over, fed_over}
use Rattle.ic_node.proofs.Fronts.{IsFront, front_placed, place_behind, records_long}
use Rattle.ic_node.proofs.PcomForces.{forces_more}
use Rattle.ic_node.proofs.PcomSteps.{leaves_no_more}
use Rattle.ic_node.proofs.Tails.{image_more, same_read}
use Rattle.ic_node.proofs.Told.{told_is}

not_full : (replays more past : Bool) → replays ≡ true → (not replays && more && past) ≡ false
not_full true more past e = refl
not_full false more past e = absurd (cc e)

-- a step that meets a misfit is one of a replay
met_replaying : (replays : Bool) (o : Option StepResult) (t : StepResult) → cond replays o (Some t) ≡ None → replays ≡ true
met_replaying true o t e = refl
met_replaying false o t e = absurd (cc e)

-- the place of a misfit, as the refusals have it
fed_at : (program : Program) (c : ComId) (file : List ℕ) (start : ℕ) (earlier : List Record) (p : step.Pcom) (packet : Packet) (place : ℕ) (front : IsFront start file) → length front.front ≡ length earlier → length p.rest ≤ length (all_of p.log)
    → fed_place program c start file p packet ≡ Some place → node_refusal program c file (Gets packet) (Runs (with_earlier earlier p)) ≡ Some (refused.Bad c place)
fed_at program c file start earlier p (Data m) place front long within is =
    ap (λ o. cond fit (cond needed (option_map (λ i. refused.Bad c (elim (placed_log_of file) [ Ok records ↦ place_of records (whole_at i) | Err at ↦ at ])) o) None) None) (fed_over program c (end_of earlier) p.vol m p.rest)
    ∙ ap (λ (r : Result (List Placed) ℕ). cond fit (cond needed (option_map (λ i. refused.Bad c (elim r [ Ok records ↦ place_of records (whole_at i) | Err at ↦ at ])) misfit) None) None) front.whole
    ∙ by fit needed misfit (ap (λ (r : Result (List Placed) ℕ). cond (fit && needed) (option_map (λ i. place_of (placed_or_none r) (own_at i)) misfit) None) (sym front.walk) ∙ is)
  where
    fit : Bool
    fit = fits_pcom program c (Data m)

    needed : Bool
    needed = is_needed p.rest m

    misfit : Option ℕ
    misfit = misfit_fed program c p.vol m p.rest

    own_at : ℕ → ℕ
    own_at i = length (all_of p.log) - length p.rest + i

    whole_at : ℕ → ℕ
    whole_at i = length (all_of (with_earlier earlier p).log) - length p.rest + i

    place_same : (i : ℕ) → place_of (front.front ++ front.own) (whole_at i) ≡ place_of front.own (own_at i)
    place_same i =
        let longer : length (all_of (with_earlier earlier p).log) ≡ length earlier + length (all_of p.log) = ap length (append_assoc earlier p.log.forced p.log.buffered) ∙ length-append earlier (all_of p.log) in
        let at : whole_at i ≡ length front.front + own_at i = omega (arith, longer, long, within) in
        ap (place_of (front.front ++ front.own)) at ∙ place_behind front.front front.own (own_at i)

    at_place : (o : Option ℕ) → option_map (λ i. place_of front.own (own_at i)) o ≡ Some place → option_map (λ i. refused.Bad c (place_of (front.front ++ front.own) (whole_at i))) o ≡ Some (refused.Bad c place)
    at_place None e = cc
    at_place (Some i) e = let same : place_of front.own (own_at i) ≡ place = cc in ap (λ n. Some (refused.Bad c n)) (place_same i ∙ same)

    by : (fits needs : Bool) (o : Option ℕ) → cond (fits && needs) (option_map (λ i. place_of front.own (own_at i)) o) None ≡ Some place
        → cond fits (cond needs (option_map (λ i. refused.Bad c (place_of (front.front ++ front.own) (whole_at i))) o) None) None ≡ Some (refused.Bad c place)
    by false needs o e = cc
    by true false o e = cc
    by true true o e = at_place o e
fed_at program c file start earlier p (Stable from to k) place front long within is = cc
fed_at program c file start earlier p (Installed from to k) place front long within is = cc
fed_at program c file start earlier p (Fetch from to k) place front long within is = cc
fed_at program c file start earlier p (Op from to n place_of_op session request) place front long within is = cc
fed_at program c file start earlier p (OpReply from to n place_of_op session value) place front long within is = cc
fed_at program c file start earlier p (Commit from to n place_of_op session stamp) place front long within is = cc
fed_at program c file start earlier p (Outcome from to n place_of_op session decision) place front long within is = cc
fed_at program c file start earlier p (Drop from to n) place front long within is = cc

-- no more is left to be played than it has records
rests_within : {D : Type 0} {d : Ghosts D} (p : Pcom D d) → length (component_of p).rest ≤ length (all_of (component_of p).log)
rests_within p = by (is_up p.stage) refl
  where
    no_length : (rs : List Record) → is_empty rs ≡ true → length rs ≡ 0
    no_length [] e = refl
    no_length (r ∷ rs) e = cc

    by : (b : Bool) → is_up p.stage ≡ b → length (component_of p).rest ≤ length (all_of (component_of p).log)
    by true up = let none = no_length (component_of p).rest (sym p.rests ∙ up) in omega (arith, none)
    by false up = let all = (p.replays up).2 in omega (arith, all, length-append (component_of p).log.forced (component_of p).log.buffered)

module _ {D : Type 0} {d : Ghosts D} (keeping : (disk : D) → d.keeps disk → d.tells disk) (program : Program) (old : Pcom D d) (call : Call) (number : ℕ) (new : Pcom D d) (n m : ℕ) where
  -- no more is left to be played than there was, so what was played is the difference
  pub played_more : (told : Step) → Does program old call new told → played_of old ≤ played_of new
  played_more told does =
      let less = leaves_no_more program (com_of old) (component_of old) call does.result does.step in
      omega (arith, less, does.played, ap (λ (x : step.Pcom). length x.rest) does.leads)

  -- one step is counted for each record that was played
  pub made_counts : (told : Step) (done : Done) → IsMade program old call new n m (Ok told) → Counts n m (Runs (component_of old)) (Runs (component_of new)) (Ok done)
  made_counts told done made =
      let less = leaves_no_more program (com_of old) (component_of old) call made.step.result made.step.step in
      omega (arith, made.steps, less, ap (λ (x : step.Pcom). length x.rest) made.step.leads)

  pub unmade_counts : (why : PacketRefused) → IsMade program old call new n m (Err why) → Counts n m (Runs (component_of old)) (Runs (component_of new)) (Err why)
  unmade_counts packet.Full made = tt
  unmade_counts packet.Memory made = tt
  unmade_counts packet.Failed made = tt
  unmade_counts (packet.Bad place) made = tt
  unmade_counts packet.Stopped made = made.stopped refl

  -- its own records still have a checkpoint
  pub image_stays : (told : Step) → Does program old call new told → has_image (component_of old).log.forced ≡ true → has_image (component_of new).log.forced ≡ true
  image_stays told does is =
      let grows = ap (λ (p : step.Pcom). p.log.forced) does.leads ∙ forces_more program (com_of old) (component_of old) call does.result does.step in
      ap has_image grows ∙ image_more (component_of old).log.forced (forced_by (component_of old) (Some does.result)) is

  -- these records stand before its own in the file
  module _ (earlier : List Record) (stands : HasForced d (Runs (with_earlier earlier (component_of old))) (disk_of old)) where
    abbrev before : world.Node
    before = Runs (with_earlier earlier (component_of old))

    abbrev behind : world.Node
    behind = Runs (with_earlier earlier (component_of new))

    added : adds_in before (does program (com_of old) before number call) ≡ batch_of program old call
    added = adds_over program (com_of old) earlier (component_of old) number call

    sized : ((told : d.tells (disk_of old)) (size : ℕ) → size_in (d.seen (disk_of old)) ≡ Some size → size ≡ size_of old) → d.tells (disk_of old) → size_in (d.seen (disk_of old)) ≡ Some (size_of old)
    sized of_file told =
        let s = size_there (d.seen (disk_of old)) _ (stands told) in
        s.1 ∙ ap (λ (k : ℕ). Some k) (of_file told s.0 s.1)

    left : CrashLeaves d (disk_of old) (disk_of new) (IsBeforeOrStepped program old call)
        → CrashLeaves d (disk_of old) (disk_of new) (IsBeforeOrBehind (d.seen (disk_of old)) (earlier ++ (component_of old).log.forced) (adds_in before (does program (com_of old) before number call)))
    left leaves =
        subst (λ (rs : List Record). CrashLeaves d (disk_of old) (disk_of new) (IsBeforeOrBehind (d.seen (disk_of old)) (earlier ++ (component_of old).log.forced) rs)) (sym added)
        (crash_weaker (λ keeps image is. from_front (start_of old) (d.seen (disk_of old)) image earlier (component_of old).log.forced (batch_of program old call) (stands (keeping (disk_of old) keeps)) is) leaves)

    makes : (ok : Bool) (failed named : Type 0) → (failed → named) → Makes d (calls_of program old call) ok failed (disk_of old) (disk_of new)
        → Makes d (gated_calls (record_writes (size_of old) (used_of old) (adds_in before (does program (com_of old) before number call)))) ok named (disk_of old) (disk_of new)
    makes ok failed named is made = subst (λ (rs : List Record). Makes d (gated_calls (record_writes (size_of old) (used_of old) rs)) ok named (disk_of old) (disk_of new)) (sym added) (makes_named named is made)

    room : (size : ℕ) (full : Bool) → is_full program (com_of old) size (component_of old) call ≡ full → node_is_full program (com_of old) call size before ≡ full
    room size full is = (steps-same program (com_of old) earlier (component_of old) call).1 size ∙ is

    -- the call is made
    pub made_so : (told : Step) (played : ℕ) (done : Done) → IsMade program old call new n m (Ok told) → played ≡ played_of new - played_of old → done ≡ told_by (before_of (component_of old)) number call told played
        → StepsOver d program (com_of old) before (disk_of old) number call behind (disk_of new) (Ok done)
    made_so told played done made counted told_so =
        let x = made.step in
        let less = leaves_no_more program (com_of old) (component_of old) call x.result x.step in
        record {
          size = size_of old;
          used = used_of old;
          sized = sized made.log.of_file;
          listed = made.log.listed;
          disk = made.log.disk;
          crash = left made.crash;
          calls = makes true _ _ (λ e. cc) made.calls;
          step = record {
            step = does_over program (com_of old) earlier (component_of old) number call
                ∙ ap (option_map (done_over earlier number (component_of old) call)) x.step
                ∙ ap (λ (t : world.Done). Some (record t { node = Runs (with_earlier earlier x.result.pcom) })) (told_is (component_of old) number call x.result played)
                ∙ ap (λ (q : step.Pcom). Some (done_with (Runs (with_earlier earlier q)) (told_by (before_of (component_of old)) number call (told_of x.result) played))) (sym x.leads)
                ∙ ap (λ (s : Step). Some (done_with behind (told_by (before_of (component_of old)) number call s played))) (sym x.tells)
                ∙ ap (λ (e : Done). Some (done_with behind e)) (sym told_so);
            room = room (size_of old) false x.room;
            whose = λ tells. made.log.whose tells x.is_open;
            reads = λ tells. (made.log.log tells x.is_open).whole earlier (stands tells);
            played = ap (λ (e : Done). e.played) told_so ∙ counted ∙ omega (arith, less, x.played, ap (λ (q : step.Pcom). length q.rest) x.leads);
          };
          refused = tt;
          rests = tt;
        }

    bad_so : (place : ℕ) → is_closed old ≡ false → d.tells (disk_of old) → MeetsBad program old call place new → node_refusal program (com_of old) (d.seen (disk_of old)) call before ≡ Some (refused.Bad (com_of old) place)
    bad_so place up told bad = by call bad
      where
        begun : is_start (start_of old) (slots_in (d.seen (disk_of old))) ≡ true
        begun = ap (is_start (start_of old)) (old.log.log.listed told (old.opened up)) ∙ old.log.log.begun

        front : IsFront (start_of old) (d.seen (disk_of old))
        front = front_placed (start_of old) (d.seen (disk_of old)) _ (stands told) begun

        own : records_in front.own ≡ (component_of old).log.forced
        own = same_read _ _ (sym (records_walk (start_of old) (d.seen (disk_of old)) front.own front.walk) ∙ walk_stands old.log told (old.opened up))

        all : records_in (front.front ++ front.own) ≡ earlier ++ (component_of old).log.forced
        all = same_read _ _ (sym (ap (λ (r : Result (List Placed) ℕ). r >>= λ ps. Ok (records_in ps)) front.whole) ∙ stands told)

        long : length front.front ≡ length earlier
        long =
            let f = records_long (front.front ++ front.own) in
            let g = records_long front.own in
            omega (arith, f, g, ap length own, ap length all, length-append front.front front.own, length-append earlier (component_of old).log.forced)

        by : (x : Call) → MeetsBad program old x place new → node_refusal program (com_of old) (d.seen (disk_of old)) x before ≡ Some (refused.Bad (com_of old) place)
        by (Gets p) meets = fed_at program (com_of old) (d.seen (disk_of old)) (start_of old) earlier (component_of old) p place front long (rests_within old) (meets.place_in told)
        by (Gives handler args) meets = absurd meets
        by Forces meets = absurd meets
        by Checkpoints meets = absurd meets
        by Resends meets = absurd meets
        by Emits meets = absurd meets

    still_so : IsUnmoved old new → steps.IsUnmoved d before (disk_of old) behind (disk_of new)
    still_so still = (ap (λ q. Runs (with_earlier earlier q)) still.same, still.bytes, λ keeps. new.durable keeps still.is_open)

    fails_so : (why : PacketRefused) → is_closed old ≡ false → FailsToCall program old call new why → FailsToStep d program (com_of old) before (disk_of old) number call (size_of old) behind (disk_of new) why
    fails_so packet.Full up fails = (room (size_of old) true fails.1, still_so fails.0)
    fails_so packet.Memory up fails = (still_so fails).2
    fails_so packet.Failed up fails = fails.1
    fails_so packet.Stopped up fails = (fails.1, room (size_of old) false fails.2, subst (λ (rs : List Record). CanStand (size_of old) rs) (sym added) fails.3)
    fails_so (packet.Bad place) up fails = λ told. bad_so place up told fails

    -- a misfit is met in a replay, which passes no limit
    unfull : (x : Call) → step_of program old x ≡ None → is_full program (com_of old) (size_of old) (component_of old) x ≡ false
    unfull x none = not_full (is_replaying (component_of old)) _ _ (met_replaying (is_replaying (component_of old)) _ _ none)

    fits_so : (x : Call) → x ≡ call → IsFull program old x false → node_is_full program (com_of old) call (size_of old) before ≡ false
    fits_so x is fits = room (size_of old) false (ap (is_full program (com_of old) (size_of old) (component_of old)) (sym is) ∙ fits)

    rests_so : (x : Call) → x ≡ call → (why : PacketRefused) → FailsToCall program old x new why → (node_is_full program (com_of old) call (size_of old) before ≡ false) ⊎ steps.IsUnmoved d before (disk_of old) behind (disk_of new)
    rests_so x is packet.Full fails = inr (still_so fails.0)
    rests_so x is packet.Memory fails = inr (still_so fails)
    rests_so x is packet.Failed fails = inl (fits_so x is fails.2)
    rests_so x is packet.Stopped fails = inl (fits_so x is fails.2)
    rests_so (Gets p) is (packet.Bad place) fails = inl (fits_so (Gets p) is (unfull (Gets p) fails.none))
    rests_so (Gives handler args) is (packet.Bad place) fails = absurd fails
    rests_so Forces is (packet.Bad place) fails = absurd fails
    rests_so Checkpoints is (packet.Bad place) fails = absurd fails
    rests_so Resends is (packet.Bad place) fails = absurd fails
    rests_so Emits is (packet.Bad place) fails = absurd fails

    -- it is refused
    pub unmade_so : (why : PacketRefused) → is_closed old ≡ false → IsMade program old call new n m (Err why) → StepsOver d program (com_of old) before (disk_of old) number call behind (disk_of new) (Err why)
    unmade_so why up made = record {
      size = size_of old;
      used = used_of old;
      sized = sized made.log.of_file;
      listed = made.log.listed;
      disk = made.log.disk;
      crash = left made.crash;
      calls = makes false _ _ (λ e. let same : why ≡ packet.Failed = cc in ap (λ (w : PacketRefused). Err w) same) made.calls;
      step = tt;
      refused = fails_so why up made.refused;
      rests = rests_so call refl why made.refused;
    }
