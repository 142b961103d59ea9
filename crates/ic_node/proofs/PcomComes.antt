-- A component that is down comes up as a Pcom.
use Rattle.std.proofs.Common.{◌≡◌, ◌∙◌, refl, sym, ap, subst, ℕ, ◌-◌, Bool, true, false, cond, List, [], ◌∷◌, ◌++◌, length, Option, Some, None, option_map, arith}
use Rattle.std.specs.Prelude.{Ok, unwrap_or, not, ◌==◌}
use Rattle.std.proofs.lemmas.Bool.Decides.{nat_tests}
use Rattle.std.proofs.lemmas.List.{append-nil}
use Rattle.ic_base.specs.declared.events.Answer.TheVariants as answers
use Rattle.ic_base.specs.declared.events.Stop.{Stop}
use Rattle.ic_base.specs.declared.messages.ComId.{ComId}
use Rattle.ic_base.specs.declared.record.Record.{Record}
use Rattle.ic_base.specs.declared.scenario.Program.{Program}
use Rattle.ic_base.specs.Programs.{is_a_tcom}
use Rattle.def_log.specs.Frame.{fingerprint_in, owner_in}
use Rattle.def_log.specs.Log.{log_of}
use Rattle.def_log.specs.Sizes.{size_in}
use Rattle.def_run.specs.CoreSteps.{forced_of, is_stopped}
use Rattle.def_run.specs.Reports.{played_by}
use Rattle.def_run.specs.SystemStates.{KeepsLog, IsLog}
use Rattle.def_step.specs.Pcom as step
use Rattle.def_step.specs.Pcom.{StepResult, recover_pcom, all_of, is_replaying, stands_at}
use Rattle.def_step.specs.Replay.{Playing, recovered, behind_checkpoint}
use Rattle.def_step.specs.Tcom.{recover_tcom}
use Rattle.def_step.specs.World as world
use Rattle.def_step.specs.World.{load_calls, Runs, Down, DiskOutcome, recovers, comes_up, cut_off, just, is_reached, up_answer, done_as}
use Rattle.law_tail.specs.Wholes.{with_earlier, told_with_earlier}
use Rattle.ic_disk.specs.Disk.{Keeps}
use Rattle.ic_disk.specs.TornDisks.{Torn}
use Rattle.ic_disk.specs.declared.disk.Disk.{Ghosts}
use Rattle.ic_gate.specs.declared.refusals.LoadWhy.{LoadWhy}
use Rattle.ic_pcom.specs.Recovering as pcom_recovery
use Rattle.ic_pcom.specs.Views as pcoms
use Rattle.ic_pcom.specs.declared.pcom.Pcom.{Pcom}
use Rattle.ic_pcom.specs.declared.step.Step.{Step}
use Rattle.ic_node.specs.Calling.{done_with}
use Rattle.ic_node.specs.ComingUp.{PcomIsUp, fails_to_come_up, kept_before, through_last, told_up}
use Rattle.ic_node.specs.Loading.{refusal_of}
use Rattle.ic_node.specs.Nodes.{node_with, disk_in, read_of, told_of}
use Rattle.ic_node.specs.Recovering.{held_by, Recovers, FailsToRecover}
use Rattle.ic_disk.specs.Torns.{file, torn}
use Rattle.ic_node.specs.Views.{node_of, disk_of, file_of, com_of, is_over, Tells}
use Rattle.ic_node.specs.declared.component.Component.{Component}
use Rattle.ic_node.specs.declared.done.Done.{Done}
use Rattle.ic_node.specs.declared.node.Node.{Node}
use Rattle.ic_node.specs.declared.node.Node.TheVariants.{Per, Off}
use Rattle.ic_node.proofs.Cuts.{told_where}
use Rattle.ic_node.proofs.Recoveries.{was, down, tells, old_file, kept_is, stands, sized, up_refused}
use Rattle.ic_node.proofs.Refusals.{pcom_refused}
use Rattle.ic_node.proofs.Tails.{behind_whole, comes_up_so, own_all, whole_is}

-- a test of two counts
pub same_count : (m n : ℕ) (r : Bool) → r ≡ (m == n) → r ≡ true → m ≡ n
same_count m n r is e = let both : (m == n) ≡ true = sym is ∙ e in grind (arith, nat_tests)

pub not_same : (m n : ℕ) (r : Bool) → r ≡ (m == n) → r ≡ false → m ≡ n → ⊥
not_same m n r is e same = let both : (m == n) ≡ false = sym is ∙ e in grind (arith, nat_tests)

-- a component that isn't over has read as many
pub goes_same : (same : Bool) → not same ≡ false → same ≡ true
goes_same true is = refl
goes_same false is = sym is

-- a Pcom that comes up has the records of its log, all forced
stood_at : (rs : List Record) (x : Playing) → (stands_at (record { forced = rs; buffered = [] }) x).log ≡ record { forced = rs; buffered = [] }
stood_at rs x = by x.rest
  where
    by : (rest : List Record) → (step.standing_at (record { forced = rs; buffered = [] }) x.vol rest).log ≡ record { forced = rs; buffered = [] }
    by [] = refl
    by (r ∷ others) = refl

up_log : (program : Program) (c : ComId) (rs : List Record) (t : StepResult) → recover_pcom program c rs ≡ Some t → t.pcom.log ≡ record { forced = rs; buffered = [] }
up_log program c rs t is = by (recovered program c rs) is
  where
    by : (o : Option Playing) → option_map (λ x. step.told (stands_at (record { forced = rs; buffered = [] }) x) (step.needed_fetch c x.rest) step.nothing_at_all) o ≡ Some t → t.pcom.log ≡ record { forced = rs; buffered = [] }
    by None e = absurd (cc)
    by (Some x) e =
        let same : step.told (stands_at (record { forced = rs; buffered = [] }) x) (step.needed_fetch c x.rest) step.nothing_at_all ≡ t = cc in
        ap (λ (u : StepResult). u.pcom.log) (sym same) ∙ stood_at rs x

up_goes : (p : step.Pcom) → is_stopped (up_answer p) ≡ false
up_goes p = by (is_replaying p)
  where
    by : (t : Bool) → is_stopped (cond t answers.Replaying answers.Up) ≡ false
    by true = refl
    by false = refl

module _ {D : Type 0} (b : Ghosts D) (program : Program) (old : Component (Torn D) (torn b)) (x : Torn D) (is : old.node ≡ Off x) (going : is_over old ≡ false) (stop : Option Stop) (beyond : is_reached stop 4 ≡ false) (pcom : is_a_tcom program (com_of old) ≡ false) where
  beyond_load : is_reached stop (load_calls program (com_of old)) ≡ false
  beyond_load = ap (λ t. is_reached stop (cond t 3 4)) pcom ∙ beyond

  -- why it doesn't come up
  pub pcom_up_fails : (given : List ℕ) (new : Component (Torn D) (torn b)) (y : Torn D) (why : LoadWhy) → disk_of new ≡ Some y → fails_to_come_up b (λ bytes place. pcom_recovery.bad_place program (com_of old) bytes ≡ Some place) x given y why → FailsToRecover b program given old stop new (refusal_of why)
  pcom_up_fails given new y why now fails =
      up_refused b old x is going program given stop (λ bytes place. pcom_recovery.bad_place program (com_of old) bytes ≡ Some place) beyond_load
      (λ bytes place reads own not_foreign bad. pcom_refused program given (com_of old) bytes place (forced_of (Some (node_of old))) pcom reads own not_foreign bad) new y why now fails

  module _ (q : Pcom (Torn D) (torn b)) (told_step : Step) (up : PcomIsUp b program (com_of old) x (q, told_step)) where
    log_is : (pcoms.component_of q).log ≡ record { forced = up.records; buffered = [] }
    log_is = ap (λ (p : step.Pcom). p.log) up.leads ∙ up_log program (com_of old) up.records up.result up.step

    -- the records that are kept before its own
    abbrev pub before : List Record
    before = kept_before old.kept up.records

    -- where the disk tells, these and its own are those that it held
    pub whole : Tells old → old.kept ≡ before ++ up.records
    whole told = whole_is (file b x) old.kept up.records (ap log_of (sym (old_file b old x is going)) ∙ stands b old x is going told ∙ ap (λ (l : List Record). Ok l) (kept_is b old x is going)) (up.read (tells b old x is going told))

    pub reads_whole : Tells old → log_of (file_of old) ≡ Ok (before ++ up.records)
    reads_whole told = stands b old x is going told ∙ ap (λ (l : List Record). Ok l) (kept_is b old x is going ∙ whole told)

    pub forced_is : (pcoms.component_of q).log.forced ≡ up.records
    forced_is = ap (λ (l : step.Log). l.forced) log_is

    pub none_waits : (pcoms.component_of q).log.buffered ≡ []
    none_waits = ap (λ (l : step.Log). l.buffered) log_is

    module _ (old_kept : List Record) (behind : ℕ) (same : Bool) (is_old : old_kept ≡ old.kept) (is_behind : behind ≡ length (behind_checkpoint old_kept)) (compared : same ≡ (length (behind_checkpoint (all_of (pcoms.component_of q).log)) == behind)) where
      behind_old : behind ≡ length (behind_checkpoint old.kept)
      behind_old = is_behind ∙ ap (λ rs. length (behind_checkpoint rs)) is_old

      -- where it reads as many records behind the last checkpoint as were kept
      pub counted_so : same ≡ true → length (behind_checkpoint (all_of (pcoms.component_of q).log)) ≡ length (behind_checkpoint old.kept)
      counted_so equal = same_count _ behind same compared equal ∙ behind_old

      pub counted_other : same ≡ false → length (behind_checkpoint (all_of (pcoms.component_of q).log)) ≡ length (behind_checkpoint old.kept) → ⊥
      counted_other other as_many = not_same _ behind same compared other (as_many ∙ sym behind_old)

      -- those that it keeps are the ones before its own
      pub kept_so_far : (ks through : List Record) → through ≡ through_last old_kept
          → ((kept : List Record) → through ≡ through_last kept → length (behind_checkpoint (pcoms.component_of q).log.forced) ≡ length (behind_checkpoint kept) → ks ≡ kept_before kept (pcoms.component_of q).log.forced)
          → same ≡ true → ks ≡ before
      kept_so_far ks through is_through so equal =
          so old_kept is_through (sym (ap (λ rs. length (behind_checkpoint rs)) (own_all (pcoms.component_of q).log none_waits)) ∙ same_count _ behind same compared equal ∙ is_behind)
          ∙ ap (λ l. kept_before l (pcoms.component_of q).log.forced) is_old ∙ ap (kept_before old.kept) forced_is

    -- its file holds all of them
    pub up_stands : Keeps (torn b) x (pcoms.disk_of q) → b.tells (pcoms.disk_of q).inner → log_of (file b (pcoms.disk_of q)) ≡ Ok (before ++ (pcoms.component_of q).log.forced)
    up_stands keeps told =
        let h = keeps.tells.1 told in
        ap log_of (up.bytes h ∙ sym (old_file b old x is going)) ∙ reads_whole (subst (told_of (torn b)) (sym (was b old x is going)) h) ∙ ap (λ (l : List Record). Ok (before ++ l)) (sym forced_is)

    -- as many records are behind its last checkpoint as were read
    pub count_up : length (behind_checkpoint (all_of (pcoms.component_of q).log)) ≡ length (behind_checkpoint up.records)
    count_up = ap (λ l. length (behind_checkpoint (all_of l))) log_is ∙ ap (λ rs. length (behind_checkpoint rs)) (append-nil up.records)

    -- where the disk tells, these are the records that it kept
    pub count_kept : Tells old → length (behind_checkpoint (all_of (pcoms.component_of q).log)) ≡ length (behind_checkpoint old.kept)
    count_kept told = count_up ∙ behind_whole old.kept up.records (whole told)

    abbrev outcome : DiskOutcome
    outcome = record { found = before ++ up.records; size = unwrap_or (size_in (file_of old)) 0; free = (held_by old).free; left = []; is_open = false }

    -- what it played is what it is nearer to being up
    pub up_played : (ks : List Record) (node : Node (Torn D) (torn b)) → node ≡ Per q → length (behind_checkpoint (all_of (pcoms.component_of q).log)) ≡ length (behind_checkpoint old.kept) → pcoms.played_of q ≡ played_by (node_of old) (node_with ks node)
    up_played ks node per counts =
        let count = sym count_up ∙ counts in
        let less : pcoms.played_of q ≡ length (behind_checkpoint old.kept) - length (pcoms.component_of q).rest = omega (arith, up.played, count) in
        less ∙ ap (λ n. played_by n (Runs (with_earlier ks (pcoms.component_of q)))) (sym (down b old x is going)) ∙ ap (λ n. played_by (node_of old) (node_with ks n)) (sym per)

    pub pcom_recovers : (new : Component (Torn D) (torn b)) (done : Done) (played : ℕ) → new.node ≡ Per q → new.kept ≡ before → com_of new ≡ com_of old → is_over new ≡ false → length (behind_checkpoint (all_of (pcoms.component_of q).log)) ≡ length (behind_checkpoint old.kept)
        → played ≡ pcoms.played_of q → done ≡ told_up (pcoms.component_of q) told_step played → Recovers program old stop new done
    pcom_recovers new done played per kept same over counts so told_so = record {
      outcome = outcome;
      step =
          ap (recovers program (com_of old) stop outcome) (down b old x is going)
          ∙ ap (λ t. cond t (Some (just (Down []) answers.Stopped)) (option_map (cut_off stop outcome (Down old.kept) answers.Stopped) (comes_up program (com_of old) outcome.size outcome.found))) beyond_load
          ∙ ap (λ t. option_map (cut_off stop outcome (Down old.kept) answers.Stopped) (cond t (option_map (λ u. just (world.Serves u) answers.Up) (recover_tcom program (com_of old) outcome.size outcome.found)) (option_map (λ u. done_as (up_answer u.pcom) u) (recover_pcom program (com_of old) outcome.found)))) pcom
          ∙ ap (λ o. option_map (cut_off stop outcome (Down old.kept) answers.Stopped) (option_map (λ u. done_as (up_answer u.pcom) u) o)) (comes_up_so program (com_of old) old.kept up.records ∙ ap (option_map (told_with_earlier before)) up.step)
          ∙ ap (λ t. Some (cond t (just (Down []) answers.Stopped) (done_as (up_answer (with_earlier before up.result.pcom)) (told_with_earlier before up.result)))) beyond
          ∙ ap (λ (p : step.Pcom). Some (done_with (Runs (with_earlier before p)) (told_up p (pcoms.told_of up.result) played))) (sym up.leads)
          ∙ ap (λ s. Some (done_with (Runs (with_earlier before (pcoms.component_of q))) (told_up (pcoms.component_of q) s played))) (sym up.tells)
          ∙ ap (λ n. Some (done_with n (told_up (pcoms.component_of q) told_step played))) (sym runs)
          ∙ ap (λ (d : Done). Some (done_with (node_of new) d)) (sym told_so);
      meets = told_where (torn b) (disk_of old) _ (λ told. record {
        found = reads_whole told;
        size = sized b old x is going told;
        free = refl;
        torn = λ e. let clash : true ≡ false = sym e ∙ ap (λ (d : Done). is_stopped d.answer) told_so ∙ up_goes (pcoms.component_of q) in absurd (cc);
        same = λ e none. same_file told;
      });
      played = ap (λ (d : Done). d.played) told_so ∙ so ∙ played_is;
      goes_on = record {
        same = same;
        open_still = over;
        logs = λ told print logs.
            let log : IsLog print (com_of old).0 (file_of old) old.kept = subst (λ (n : world.Node). KeepsLog print (com_of old) (file_of old) (Some n)) (down b old x is going) logs in
            subst (λ (n : world.Node). KeepsLog print (com_of new) (file_of new) (Some n)) (sym runs) (record {
              own = ap fingerprint_in (same_file told) ∙ log.own;
              owned = ap owner_in (same_file told) ∙ log.owned ∙ sym (ap (λ (c : ComId). c.0) same);
              holds = ap log_of (same_file told) ∙ reads_whole told ∙ ap (λ (l : List Record). Ok (before ++ l)) (sym forced_is);
            });
      };
    }
      where
        runs : node_of new ≡ Runs (with_earlier before (pcoms.component_of q))
        runs = ap (node_with new.kept) per ∙ ap (λ ks. Runs (with_earlier ks (pcoms.component_of q))) kept

        same_file : Tells old → file_of new ≡ file_of old
        same_file told = ap (λ n. read_of (torn b) (disk_in n)) per ∙ up.bytes (tells b old x is going told) ∙ sym (old_file b old x is going)

        played_is : pcoms.played_of q ≡ played_by (node_of old) (node_of new)
        played_is = up_played new.kept new.node per counts
