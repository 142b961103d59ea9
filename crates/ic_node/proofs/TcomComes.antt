-- A component that is down comes up as a Tcom, or its stop cuts off the force of the next epoch's record.
use Rattle.std.proofs.Common.{◌≡◌, ◌∙◌, refl, sym, ap, subst, ◌⊎◌, inl, inr, ℕ, ◌+◌, ◌-◌, ◌≤◌, true, false, cond, List, [], ◌∷◌, ◌++◌, length, drop, length-append, Option, Some, None, option_map, arith}
use Rattle.std.specs.Prelude.{Ok, nat_le, unwrap_or}
use Rattle.std.proofs.lemmas.Bool.Decides.{nat_tests}
use Rattle.std.proofs.lemmas.List.{drop_at}
use Rattle.ic_base.specs.declared.events.Answer.TheVariants as answers
use Rattle.ic_base.specs.declared.events.Stop.{Stop}
use Rattle.ic_base.specs.declared.limits.TheConstants.{GREATEST_NUMBER, FIRST_GATE}
use Rattle.ic_base.specs.declared.messages.ComId.{ComId}
use Rattle.ic_base.specs.declared.record.Record.{Record}
use Rattle.ic_base.specs.declared.record.Record.TheVariants.{Epoch}
use Rattle.ic_base.specs.declared.scenario.Program.{Program}
use Rattle.ic_base.specs.Programs.{is_a_tcom}
use Rattle.def_log.specs.Changes.{IsOfSame}
use Rattle.def_log.specs.Frame.{fingerprint_in, owner_in}
use Rattle.def_log.specs.Log.{log_of}
use Rattle.def_log.specs.Sizes.{gate_in, size_in}
use Rattle.def_log.specs.Gated.{log_writes}
use Rattle.def_log.specs.Stops.{writes_torn, stop_torn, is_open_at}
use Rattle.law_marks.proofs.Marks.{same-records}
use Rattle.def_run.specs.CoreSteps.{forced_of, is_stopped, loads_first, IsTornAt}
use Rattle.def_run.specs.Reports.{played_by}
use Rattle.def_run.specs.SystemStates.{KeepsLog, IsLog}
use Rattle.def_step.specs.Pcom.{recover_pcom}
use Rattle.def_step.specs.Room.{has_no_room}
use Rattle.def_step.specs.Tcom.{Tcom as TcomState, Book, book_of, lacks_epoch, in_next_epoch, recover_tcom}
use Rattle.def_step.specs.World as world
use Rattle.def_step.specs.World.{load_calls, Serves, Down, DiskOutcome, recovers, comes_up, cut_off, just, is_reached, up_answer, done_as}
use Rattle.ic_disk.specs.Disk.{Keeps, CrashLeaves}
use Rattle.ic_disk.specs.TornDisks.{Torn}
use Rattle.ic_disk.specs.declared.disk.Disk.{Ghosts}
use Rattle.ic_disk.proofs.Disks.{crash_weaker}
use Rattle.ic_gate.specs.declared.refusals.LoadWhy.{LoadWhy}
use Rattle.ic_gate.specs.declared.refusals.LoadWhy.TheVariants as whys
use Rattle.ic_gate.specs.RecordFiles.{CanStand}
use Rattle.ic_gate.specs.RecordFiles.{IsBeforeOrBehind}
use Rattle.ic_tcom.specs.Recovering as tcom_recovery
use Rattle.ic_tcom.specs.Recovering.{IsBegun, IsBeforeOrBegun}
use Rattle.ic_tcom.specs.Views as tcoms
use Rattle.ic_tcom.specs.declared.tcom.Tcom.{Tcom}
use Rattle.ic_node.specs.Calling.{done_with, just_told}
use Rattle.ic_node.specs.ComingUp.{fails_to_come_up}
use Rattle.ic_node.specs.Doing.{IsAllowed}
use Rattle.ic_node.specs.Loading.{IsLoaded, fails_to_load, refusal_of}
use Rattle.ic_node.specs.Meeting.{adds_in, left_disk, IsTornBy}
use Rattle.ic_node.specs.Nodes.{node_with, disk_in, read_of, told_of}
use Rattle.ic_node.specs.Recovering.{Recovers, would_begin, held_by, FailsToRecover}
use Rattle.ic_node.specs.Sittings.{SittingsFit}
use Rattle.ic_disk.specs.Torns.{or_never, file, torn}
use Rattle.ic_node.specs.TcomComing.{TcomIsUp, TcomIsCut}
use Rattle.ic_node.specs.Views.{node_of, disk_of, file_of, com_of, is_over, Tells}
use Rattle.ic_node.specs.declared.component.Component.{Component}
use Rattle.ic_node.specs.declared.done.Done.{Done}
use Rattle.ic_node.specs.declared.node.Node.TheVariants.{Tra, Off}
use Rattle.ic_node.proofs.Cuts.{told_where, none_played, gated, not_refused}
use Rattle.ic_node.proofs.Forced.{unreached_is, reached_is, stop_is}
use Rattle.ic_node.proofs.LieDowns.{left_so}
use Rattle.ic_node.proofs.Openings.{ReadsBehind, reads_behind, still_foreign}
use Rattle.ic_node.proofs.Recoveries.{was, down, tells, old_file, kept_is, just_file, stands, same_records, load_refused, up_refused, own_there}
use Rattle.ic_node.proofs.Refusals.{tcom_refused}
use Rattle.ic_node.proofs.Reloads.{rose_before}
use Rattle.ic_node.proofs.Stands.{both_false, can_stand}
use Rattle.ic_node.proofs.Forced.{allowed}
use Rattle.ic_node.proofs.TcomUps.{next_of, comes_so}

-- a Tcom that comes up has no open session
pub no_sittings : (program : Program) (c : ComId) (size : ℕ) (records : List Record) (up : TcomState) → recover_tcom program c size records ≡ Some up → SittingsFit up.sittings
no_sittings program c size records up is = subst SittingsFit (sym (ap (λ (y : TcomState). y.sittings) (next_of program c size records up is).leads)) tt

-- the next epoch's record can stand where the log doesn't lack it
epoch_stands : (size : ℕ) (book : Book) → lacks_epoch size book ≡ false → CanStand size (Epoch (book.epoch + 1) ∷ [])
epoch_stands size book room =
    let both = both_false (has_no_room size (Epoch (book.epoch + 1) ∷ [])) (nat_le GREATEST_NUMBER book.epoch) room in
    let late : nat_le GREATEST_NUMBER book.epoch ≡ false = both.1 in
    let below : book.epoch + 1 ≤ GREATEST_NUMBER = grind (arith, nat_tests) in
    can_stand size (Epoch (book.epoch + 1) ∷ []) ∣ (below, tt) ∣₁ both.0

module _ {D : Type 0} (b : Ghosts D) (program : Program) (old : Component (Torn D) (torn b)) (x : Torn D) (is : old.node ≡ Off x) (going : is_over old ≡ false) (tcom : is_a_tcom program (com_of old) ≡ true) where
  loads : load_calls program (com_of old) ≡ 3
  loads = ap (λ t. cond t 3 4) tcom

  beyond_load : (stop : Option Stop) → is_reached stop 3 ≡ false → is_reached stop (load_calls program (com_of old)) ≡ false
  beyond_load stop beyond = ap (is_reached stop) loads ∙ beyond

  -- what a recovery of its kind comes to
  comes : (stop : Option Stop) (o : DiskOutcome) (up : TcomState) → is_reached stop 3 ≡ false → recover_tcom program (com_of old) o.size o.found ≡ Some up
      → recovers program (com_of old) stop o (node_of old) ≡ Some (cut_off stop o (Down old.kept) answers.Stopped (just (Serves up) answers.Up))
  comes stop o up beyond step =
      ap (recovers program (com_of old) stop o) (down b old x is going)
      ∙ ap (λ t. cond t (Some (just (Down o.left) answers.Stopped)) (option_map (cut_off stop o (Down old.kept) answers.Stopped) (comes_up program (com_of old) o.size o.found))) (beyond_load stop beyond)
      ∙ ap (λ t. option_map (cut_off stop o (Down old.kept) answers.Stopped) (cond t (option_map (λ u. just (Serves u) answers.Up) (recover_tcom program (com_of old) o.size o.found)) (option_map (λ u. done_as (up_answer u.pcom) u) (recover_pcom program (com_of old) o.found)))) tcom
      ∙ ap (λ r. option_map (cut_off stop o (Down old.kept) answers.Stopped) (option_map (λ u. just (Serves u) answers.Up) r)) step

  -- the record that it forces
  added : (o : DiskOutcome) (book : Book) → o.found ≡ old.kept → book_of program (com_of old) o.found ≡ Some book → lacks_epoch o.size book ≡ false
      → adds_in (node_of old) (recovers program (com_of old) None o (node_of old)) ≡ Epoch (book.epoch + 1) ∷ []
  added o book same gives room =
      ap (adds_in (node_of old)) (comes None o (in_next_epoch o.found book) refl (comes_so program (com_of old) o.size o.found book gives room))
      ∙ ap (λ n. drop (length (forced_of (Some n))) (o.found ++ Epoch (book.epoch + 1) ∷ [])) (down b old x is going)
      ∙ ap (λ rs. drop (length rs) (o.found ++ Epoch (book.epoch + 1) ∷ [])) (sym same)
      ∙ drop_at o.found (Epoch (book.epoch + 1) ∷ []) (length o.found) refl

  -- the records that were read are those that it has
  read_forced : (told : Tells old) (rs : List Record) → log_of (file b x) ≡ Ok rs → rs ≡ forced_of (Some (node_of old))
  read_forced told rs read = same_records (log_of (file b x)) rs (forced_of (Some (node_of old))) read (ap log_of (sym (old_file b old x is going)) ∙ stands b old x is going told)

  size_read : (size : ℕ) → size_in (file b x) ≡ Some size → unwrap_or (size_in (file_of old)) 0 ≡ size
  size_read size sized = ap (λ f. unwrap_or (size_in f) 0) (old_file b old x is going) ∙ ap (λ o. unwrap_or o 0) sized

  -- a crash leaves the records that it has, or these with the next epoch
  pub crash_begun : (keeping : (disk : D) → b.keeps disk → b.tells disk) (y : Torn D) (now : Option (Torn D)) → now ≡ Some y → CrashLeaves (torn b) x y (IsBeforeOrBegun (torn b) program (com_of old) x)
      → left_disk (torn b) (disk_of old) now (IsBeforeOrBehind (file_of old) (forced_of (Some (node_of old))) (would_begin program old))
  crash_begun keeping y now there left = left_so (torn b) x y (disk_of old) now _ (was b old x is going) there (crash_weaker leaves left)
    where
      told_so : b.keeps x.inner → Tells old
      told_so keeps = subst (told_of (torn b)) (sym (was b old x is going)) (keeping x.inner keeps)

      begun_so : (image : List ℕ) (told : Tells old) → IsBegun program (com_of old) (file b x) image → log_of image ≡ Ok (forced_of (Some (node_of old)) ++ would_begin program old)
      begun_so image told begun =
          let same : begun.records ≡ forced_of (Some (node_of old)) = read_forced told begun.records begun.read in
          let gives : book_of program (com_of old) (forced_of (Some (node_of old))) ≡ Some begun.book = ap (book_of program (com_of old)) (sym same) ∙ begun.gives in
          let e = gated (file_of old) (forced_of (Some (node_of old))) (stands b old x is going told) in
          let there_size : size_in (file_of old) ≡ Some (e.0 + 1) = ap (option_map (λ g. g + 1)) e.1 in
          let sized : size_in (file b x) ≡ Some (unwrap_or (size_in (file_of old)) 0) = ap size_in (sym (old_file b old x is going)) ∙ there_size ∙ ap Some (sym (ap (λ o. unwrap_or o 0) there_size)) in
          let room : lacks_epoch (unwrap_or (size_in (file_of old)) 0) begun.book ≡ false = begun.room (unwrap_or (size_in (file_of old)) 0) sized in
          begun.begun ∙ ap (λ rs. Ok (rs ++ Epoch (begun.book.epoch + 1) ∷ [])) same
          ∙ ap (λ rs. Ok (forced_of (Some (node_of old)) ++ rs)) (sym (added (held_by old) begun.book (kept_is b old x is going) gives room))

      leaves : b.keeps x.inner → (image : List ℕ) → IsBeforeOrBegun (torn b) program (com_of old) x image → IsBeforeOrBehind (file_of old) (forced_of (Some (node_of old))) (would_begin program old) image
      leaves keeps image (inl may) =
          let same : image ≡ file_of old = just_file b old x is going keeps image may ∙ sym (old_file b old x is going) in
          (record { fingerprint = ap fingerprint_in same; owner = ap owner_in same }, inl (ap log_of same ∙ stands b old x is going (told_so keeps)))
      leaves keeps image (inr (inl same)) = (
        subst (λ (f : List ℕ). IsOfSame f image) (sym (old_file b old x is going)) same.same,
        inl (same-records FIRST_GATE (file b x) image (forced_of (Some (node_of old))) (ap log_of (sym (old_file b old x is going)) ∙ stands b old x is going (told_so keeps)) same),
      )
      leaves keeps image (inr (inr begun)) = (subst (λ (f : List ℕ). IsOfSame f image) (sym (old_file b old x is going)) begun.whose, inr (begun_so image (told_so keeps) begun))

  module _ (stop : Option Stop) (may : IsAllowed stop) (beyond : is_reached stop 3 ≡ false) where
    -- why it doesn't come up
    pub tcom_up_fails : (given : List ℕ) (new : Component (Torn D) (torn b)) (y : Torn D) (why : LoadWhy) → disk_of new ≡ Some y → fails_to_come_up b (λ bytes place. tcom_recovery.bad_place program (com_of old) bytes ≡ Some place) x given y why → FailsToRecover b program given old stop new (refusal_of why)
    tcom_up_fails given new y why now fails =
        up_refused b old x is going program given stop (λ bytes place. tcom_recovery.bad_place program (com_of old) bytes ≡ Some place) (beyond_load stop beyond)
        (λ bytes place reads own not_foreign bad. tcom_refused program given (com_of old) bytes place tcom not_foreign bad) new y why now fails

    -- it is up, in the next epoch
    module _ (t : Tcom (Torn D) (torn b)) (up : TcomIsUp b program (com_of old) x (or_never stop) t) where
      unreached : is_reached stop 7 ≡ false
      unreached = unreached_is stop 7 up.later (allowed stop may)

      abbrev up_outcome : DiskOutcome
      up_outcome = record { found = up.records; size = up.size; free = (held_by old).free; left = []; is_open = false }

      -- its records are more than before
      grown : (told : Tells old) → (tcoms.component_of t).records ≡ forced_of (Some (node_of old)) → ⊥
      grown told same =
          let next = next_of program (com_of old) up.size up.records (tcoms.component_of t) up.step in
          let records = ap (λ (y : TcomState). y.records) next.leads in
          let read = read_forced told up.records (up.read (tells b old x is going told)) in
          omega (arith, ap length same, ap length records, ap length read, length-append up.records (Epoch (next.book.epoch + 1) ∷ []))

      pub tcom_recovers : (new : Component (Torn D) (torn b)) (done : Done) → new.node ≡ Tra t → com_of new ≡ com_of old → is_over new ≡ false → done ≡ just_told answers.Up → Recovers program old stop new done
      tcom_recovers new done tra same over told_so = record {
        outcome = up_outcome;
        step =
            comes stop up_outcome (tcoms.component_of t) beyond up.step
            ∙ ap (λ r. Some (cond r (just (Down []) answers.Stopped) (just (Serves (tcoms.component_of t)) answers.Up))) unreached
            ∙ ap (λ n. Some (just n answers.Up)) (sym serves)
            ∙ ap (λ (d : Done). Some (done_with (node_of new) d)) (sym told_so);
        meets = told_where (torn b) (disk_of old) _ (λ told. record {
          found = ap log_of (old_file b old x is going) ∙ up.read (tells b old x is going told);
          size = ap size_in (old_file b old x is going) ∙ up.sized (tells b old x is going told);
          free = refl;
          torn = λ e. let clash : true ≡ false = sym e ∙ ap (λ (d : Done). is_stopped d.answer) told_so in absurd (cc);
          same = λ e none. absurd (grown told (sym (ap (λ n. forced_of (Some n)) serves) ∙ none));
        });
        played = ap (λ (d : Done). d.played) told_so ∙ sym (ap (played_by (node_of old)) serves);
        goes_on = record {
          same = same;
          open_still = over;
          logs = λ told print logs.
              let log : IsLog print (com_of old).0 (file_of old) old.kept = subst (λ (n : world.Node). KeepsLog print (com_of old) (file_of old) (Some n)) (down b old x is going) logs in
              subst (λ (n : world.Node). KeepsLog print (com_of new) (file_of new) (Some n)) (sym serves) (record {
                own = ap fingerprint_in new_file ∙ (up.whose (tells b old x is going told)).fingerprint ∙ ap fingerprint_in (sym (old_file b old x is going)) ∙ log.own;
                owned = ap owner_in new_file ∙ (up.whose (tells b old x is going told)).owner ∙ ap owner_in (sym (old_file b old x is going)) ∙ log.owned ∙ sym (ap (λ (c : ComId). c.0) same);
                holds = ap log_of new_file ∙ up.log (tells b old x is going told);
              });
        };
      }
        where
          serves : node_of new ≡ Serves (tcoms.component_of t)
          serves = ap (node_with new.kept) tra

          new_file : file_of new ≡ file b (tcoms.disk_of t)
          new_file = ap (λ n. read_of (torn b) (disk_in n)) tra

    -- its stop cut it off
    module _ (y : Torn D) (kept : Keeps (torn b) x y) (cut : TcomIsCut b program (com_of old) x (or_never stop) y) where
      told_cut : Tells old → b.tells y.inner
      told_cut told = kept.tells.0 (tells b old x is going told)

      loads_so : load_calls program (com_of old) ≡ 3
      loads_so = ap (λ t. cond t 3 4) tcom

      reached : is_reached stop 7 ≡ true
      reached = reached_is stop 7 (omega (arith, cut.later)) cut.within

      stop_so : stop ≡ Some (or_never stop)
      stop_so = stop_is stop (omega (arith, cut.later))

      gate : (told : Tells old) → (gate : ℕ) × (gate_in (file_of old) ≡ Some gate)
      gate told = gated (file_of old) (forced_of (Some (node_of old))) (stands b old x is going told)

      at_gate : (told : Tells old) → cut.size ≡ (gate told).0 + 1
      at_gate told =
          let here : size_in (file_of old) ≡ Some ((gate told).0 + 1) = ap (option_map (λ g. g + 1)) (gate told).1 in
          let e : Some cut.size ≡ Some ((gate told).0 + 1) = sym (cut.sized (tells b old x is going told)) ∙ ap size_in (sym (old_file b old x is going)) ∙ here in
          cc

      image : Tells old → file b y ≡ stop_torn (or_never stop) 3 (file_of old) (log_writes (file_of old) (cut.size - 1) (Epoch (cut.book.epoch + 1) ∷ []))
      image told =
          cut.image (tells b old x is going told)
          ∙ ap (λ f. stop_torn (or_never stop) 3 f (log_writes f (cut.size - 1) (Epoch (cut.book.epoch + 1) ∷ []))) (sym (old_file b old x is going))

      behind : (told : Tells old) → ReadsBehind (file_of old) (file b y) (gate told).0 (forced_of (Some (node_of old))) (Epoch (cut.book.epoch + 1) ∷ [])
      behind told =
          let late : nat_le (or_never stop).call 3 ≡ false = let after = cut.later in grind (arith, nat_tests) in
          let at : cut.size - 1 ≡ (gate told).0 = omega (arith, at_gate told) in
          let torn_so : file b y ≡ writes_torn ((or_never stop).call - 3) (or_never stop).keep (or_never stop).fill (file_of old) (log_writes (file_of old) (gate told).0 (Epoch (cut.book.epoch + 1) ∷ [])) =
          image told
          ∙ ap (λ n. stop_torn (or_never stop) 3 (file_of old) (log_writes (file_of old) n (Epoch (cut.book.epoch + 1) ∷ []))) at
          ∙ ap (λ t. cond t (file_of old) (writes_torn ((or_never stop).call - 3) (or_never stop).keep (or_never stop).fill (file_of old) (log_writes (file_of old) (gate told).0 (Epoch (cut.book.epoch + 1) ∷ [])))) late in
          let can = subst (λ (n : ℕ). CanStand n (Epoch (cut.book.epoch + 1) ∷ [])) (at_gate told) (epoch_stands cut.size cut.book cut.room) in
          let P : List ℕ → Type 0 = λ f. ReadsBehind (file_of old) f (gate told).0 (forced_of (Some (node_of old))) (Epoch (cut.book.epoch + 1) ∷ []) in
          subst P (sym torn_so)
          (reads_behind (file_of old) (gate told).0 (forced_of (Some (node_of old))) (Epoch (cut.book.epoch + 1) ∷ []) (gate told).1 (stands b old x is going told) (omega arith) can ((or_never stop).call - 3) (or_never stop).keep (or_never stop).fill)

      reads : Tells old → (ks : List Record) × (log_of (file b y) ≡ Ok ks)
      reads told = by (behind told).read
        where
          by : (log_of (file b y) ≡ Ok (forced_of (Some (node_of old)))) ⊎ (log_of (file b y) ≡ Ok (forced_of (Some (node_of old)) ++ Epoch (cut.book.epoch + 1) ∷ [])) → (ks : List Record) × (log_of (file b y) ≡ Ok ks)
          by (inl e) = (forced_of (Some (node_of old)), e)
          by (inr e) = (forced_of (Some (node_of old)) ++ Epoch (cut.book.epoch + 1) ∷ [], e)

      -- why it isn't loaded once more is why it isn't recovered
      pub cut_fails : (given : List ℕ) (new : Component (Torn D) (torn b)) (z : Torn D) (why : LoadWhy) → disk_of new ≡ Some z → fails_to_load b y given (com_of old).0 z why → FailsToRecover b program given old stop new (refusal_of why)
      cut_fails given new z (whys.Bad place) now bad = λ told. absurd (not_refused (com_of old).0 (file b y) place (reads told).0 ((behind told).whose.owner ∙ own_there b old x is going told) (bad (told_cut told)).0 (reads told).1)
      cut_fails given new z (whys.Foreign other) now foreign = λ told. still_foreign given (file_of old) (file b y) other (forced_of (Some (node_of old))) (stands b old x is going told) (behind told).whose (foreign (told_cut told))
      cut_fails given new z whys.Failed now rose = load_refused b old x is going program given stop new z whys.Failed now (rose_before _ _ _ kept.later rose)
      cut_fails given new z whys.Stopped now below = load_refused b old x is going program given stop new z whys.Stopped now below
      cut_fails given new z whys.Memory now rests = load_refused b old x is going program given stop new z whys.Memory now rests

      module _ (given : List ℕ) (new : Component (Torn D) (torn b)) (z : Torn D) (off : new.node ≡ Off z) (loads : IsLoaded b y given (com_of old).0 (z, new.kept)) where
        abbrev outcome : DiskOutcome
        outcome = record { found = cut.records; size = cut.size; free = (held_by old).free; left = new.kept; is_open = is_open_at (file_of new) (cut.size - 1) }

        abbrev forces : List Record
        forces = adds_in (node_of old) (recovers program (com_of old) None outcome (node_of old))

        forces_epoch : Tells old → forces ≡ Epoch (cut.book.epoch + 1) ∷ []
        forces_epoch told = added outcome cut.book (read_forced told cut.records (cut.read (tells b old x is going told)) ∙ kept_is b old x is going) cut.gives cut.room

        new_down : node_of new ≡ Down new.kept
        new_down = ap (node_with new.kept) off

        same_file : Tells old → file_of new ≡ file b y
        same_file told = ap (λ n. read_of (torn b) (disk_in n)) off ∙ loads.bytes (told_cut told)

        left : Tells old → log_of (file_of new) ≡ Ok new.kept
        left told = ap log_of (same_file told) ∙ loads.read (told_cut told)

        torn_at : Tells old → IsTornAt outcome (or_never stop) (loads_first program (com_of old) (Some (node_of old))) (cut.size - 1) forces (file_of old) (file_of new)
        torn_at told = record {
          image = same_file told ∙ image told
              ∙ ap (λ n. stop_torn (or_never stop) n (file_of old) (log_writes (file_of old) (cut.size - 1) (Epoch (cut.book.epoch + 1) ∷ []))) (sym loads_so)
              ∙ ap (λ n. stop_torn (or_never stop) (loads_first program (com_of old) (Some n)) (file_of old) (log_writes (file_of old) (cut.size - 1) (Epoch (cut.book.epoch + 1) ∷ []))) (sym (down b old x is going))
              ∙ ap (λ rs. stop_torn (or_never stop) (loads_first program (com_of old) (Some (node_of old))) (file_of old) (log_writes (file_of old) (cut.size - 1) rs)) (sym (forces_epoch told));
          left = left told;
          gate_byte = refl;
        }

        -- it stays down over what its stop left
        pub cut_recovers : (done : Done) → com_of new ≡ com_of old → is_over new ≡ false → done ≡ just_told answers.Stopped → Recovers program old stop new done
        cut_recovers done same over told_so = record {
          outcome = outcome;
          step =
              comes stop outcome (in_next_epoch cut.records cut.book) beyond (comes_so program (com_of old) cut.size cut.records cut.book cut.gives cut.room)
              ∙ ap (λ r. Some (cond r (just (Down new.kept) answers.Stopped) (just (Serves (in_next_epoch cut.records cut.book)) answers.Up))) reached
              ∙ ap (λ n. Some (just n answers.Stopped)) (sym new_down)
              ∙ ap (λ (d : Done). Some (done_with (node_of new) d)) (sym told_so);
          meets = told_where (torn b) (disk_of old) _ (λ told. record {
            found = ap log_of (old_file b old x is going) ∙ cut.read (tells b old x is going told);
            size = ap size_in (old_file b old x is going) ∙ cut.sized (tells b old x is going told);
            free = refl;
            torn = λ e. subst (λ (o : Option Stop). IsTornBy outcome o (loads_first program (com_of old) (Some (node_of old))) forces (file_of old) (file_of new)) (sym stop_so) (torn_at told);
            same = λ e. let clash : true ≡ false = sym (ap (λ (d : Done). is_stopped d.answer) told_so) ∙ e in absurd (cc);
          });
          played = ap (λ (d : Done). d.played) told_so ∙ sym (none_played (node_of old) (node_of new) new.kept new_down);
          goes_on = record {
            same = same;
            open_still = over;
            logs = λ told print logs.
                let log : IsLog print (com_of old).0 (file_of old) old.kept = subst (λ (n : world.Node). KeepsLog print (com_of old) (file_of old) (Some n)) (down b old x is going) logs in
                subst (λ (n : world.Node). KeepsLog print (com_of new) (file_of new) (Some n)) (sym new_down) (record {
                  own = ap fingerprint_in (same_file told) ∙ (behind told).whose.fingerprint ∙ log.own;
                  owned = ap owner_in (same_file told) ∙ (behind told).whose.owner ∙ log.owned ∙ sym (ap (λ (c : ComId). c.0) same);
                  holds = left told;
                });
          };
        }
