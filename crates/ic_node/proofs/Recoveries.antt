-- What a recovery comes to at a component that is down.
use Rattle.std.proofs.Common.{◌≡◌, ◌∙◌, refl, sym, ap, subst, inl, inr, ℕ, ◌-◌, ◌≤◌, true, false, cond, List, Option, Some, None, option_map, arith}
use Rattle.std.specs.Prelude.{Result, Ok, nat_le, unwrap_or}
use Rattle.std.proofs.lemmas.Bool.Decides.{nat_tests}
use Rattle.ic_base.specs.declared.events.Answer.TheVariants as answers
use Rattle.ic_base.specs.declared.events.Stop.{Stop}
use Rattle.ic_base.specs.declared.messages.ComId.{ComId}
use Rattle.ic_base.specs.declared.record.Record.{Record}
use Rattle.ic_base.specs.declared.refusals.WorldRefused.TheVariants as refused
use Rattle.ic_base.specs.declared.scenario.Program.{Program}
use Rattle.def_log.specs.Frame.{fingerprint_in, IsForeign, owner_in}
use Rattle.def_log.specs.Images.{LeavesJust}
use Rattle.def_log.specs.Log.{log_of}
use Rattle.def_log.specs.Sizes.{size_in}
use Rattle.def_log.specs.Gated.{log_writes}
use Rattle.def_log.specs.Stops.{writes_torn, stop_torn, is_open_at}
use Rattle.def_run.specs.CoreSteps.{forced_of, is_stopped, loads_first}
use Rattle.def_run.specs.Refusals.{down_refusal, recovery_refusal}
use Rattle.def_run.specs.SystemStates.{KeepsLog, IsLog}
use Rattle.def_step.specs.World as world
use Rattle.def_step.specs.World.{load_calls, Down, DiskOutcome, recovers, comes_up, cut_off, just, is_reached}
use Rattle.ic_disk.specs.Disk.{Keeps, CrashLeaves}
use Rattle.ic_disk.specs.TornDisks.{Torn}
use Rattle.ic_disk.specs.declared.disk.Disk.{Ghosts}
use Rattle.ic_gate.specs.declared.refusals.LoadWhy.{LoadWhy}
use Rattle.ic_gate.specs.declared.refusals.LoadWhy.TheVariants as whys
use Rattle.ic_gate.specs.Refusals.{IsNotForeign}
use Rattle.ic_gate.proofs.RecordCrashes.{only_before}
use Rattle.ic_gate.specs.RecordFiles.{IsBeforeOrBehind}
use Rattle.ic_node.specs.Calling.{done_with, just_told}
use Rattle.ic_node.specs.ComingUp.{fails_to_come_up, FailsToLoadTail}
use Rattle.ic_node.specs.Faults.{has_fault}
use Rattle.ic_node.specs.Loading.{IsLoaded, fails_to_load, refusal_of}
use Rattle.ic_node.specs.Meeting.{adds_in, left_disk, rests_on}
use Rattle.ic_node.specs.Nodes.{node_with, disk_in, read_of, told_of}
use Rattle.ic_node.specs.Recovering.{held_by, Recovers, FailsToRecover}
use Rattle.ic_node.specs.Standing.{owner_on, keeps_of, leave_of}
use Rattle.ic_disk.specs.Torns.{file, torn}
use Rattle.ic_node.specs.Views.{node_of, disk_of, file_of, com_of, is_over, Tells}
use Rattle.ic_node.specs.declared.component.Component.{Component}
use Rattle.ic_node.specs.declared.done.Done.{Done}
use Rattle.ic_node.specs.declared.node.Node.{Node}
use Rattle.def_step.specs.Settle.{is_down}
use Rattle.ic_node.specs.declared.node.Node.TheVariants.{Per, Tra, Off, Ext}
use Rattle.ic_node.proofs.Cuts.{sized_so, stood, told_where, none_played, not_refused, own_file}
use Rattle.ic_node.proofs.Fronts.{not_refused_tail}
use Rattle.ic_node.proofs.LieDowns.{left_so}
use Rattle.ic_node.proofs.Openings.{gate_shut}

le-true : (m n : ℕ) → m ≤ n → nat_le m n ≡ true
le-true m n le = grind (arith, nat_tests)

-- one that is down is a disk
pub is_off : {D : Type 0} {d : Ghosts D} (node : Node D d) (kept : List Record) → is_down (node_with kept node) ≡ true → (x : D) × (node ≡ Off x)
is_off (Per p) kept down = cc
is_off (Tra t) kept down = cc
is_off (Off x) kept down = (x, refl)
is_off Ext kept down = cc

-- a component that is down over this disk
module _ {D : Type 0} (b : Ghosts D) (old : Component (Torn D) (torn b)) (x : Torn D) (is : old.node ≡ Off x) (going : is_over old ≡ false) where
  pub was : disk_of old ≡ Some x
  was = ap disk_in is

  pub down : node_of old ≡ Down old.kept
  down = ap (node_with old.kept) is

  pub tells : Tells old → b.tells x.inner
  tells told = subst (told_of (torn b)) was told

  pub old_file : file_of old ≡ file b x
  old_file = ap (read_of (torn b)) was

  pub stands : Tells old → log_of (file_of old) ≡ Ok (forced_of (Some (node_of old)))
  stands told = stood (torn b) old.node old.kept x was (old.whole going told) (old.on_disk going told)

  pub own_there : Tells old → owner_in (file_of old) ≡ (com_of old).0
  own_there told = own_file (torn b) (com_of old) (disk_of old) x was (old.owned going told)

  pub sized : (told : Tells old) → size_in (file_of old) ≡ Some (unwrap_or (size_in (file_of old)) 0)
  sized told = sized_so (file_of old) (forced_of (Some (node_of old))) (stands told)

  pub kept_is : forced_of (Some (node_of old)) ≡ old.kept
  kept_is = ap (λ n. forced_of (Some n)) down

  kept_there : b.tells x.inner → log_of (file b x) ≡ Ok (forced_of (Some (node_of old)))
  kept_there told = ap log_of (sym old_file) ∙ stands (subst (told_of (torn b)) (sym was) told)

  -- a crash leaves just what a read gives
  pub just_file : (torn b).keeps x → (image : List ℕ) → (torn b).may_leave x image → image ≡ file b x
  just_file keeps image may =
      let P : Option (Torn D) → Type 0 = λ o. keeps_of (torn b) o → LeavesJust (leave_of (torn b) o) (read_of (torn b) o) in
      subst P was (old.durable going) keeps image may

  -- behind what keeps its owner it is the log of the same component
  pub owned_now : (node : Node (Torn D) (torn b)) (y : Torn D) → disk_in node ≡ Some y → Keeps (torn b) x y → (b.tells x.inner → owner_in (file b y) ≡ owner_in (file b x))
      → told_of (torn b) (disk_in node) → owner_on (torn b) (com_of old).0 (disk_in node) ≡ (com_of old).0
  owned_now node y at kept same told =
      let before : b.tells x.inner = kept.tells.1 (subst (told_of (torn b)) at told) in
      ap (owner_on (torn b) (com_of old).0) at ∙ same before ∙ ap owner_in (sym old_file) ∙ own_there (subst (told_of (torn b)) (sym was) before)

  -- a crash leaves what it might have left before
  pub crash_down : (keeping : (disk : D) → b.keeps disk → b.tells disk) (added : List Record) (y : Torn D) (now : Option (Torn D)) → now ≡ Some y → CrashLeaves (torn b) x y ((torn b).may_leave x)
      → left_disk (torn b) (disk_of old) now (IsBeforeOrBehind (file_of old) (forced_of (Some (node_of old))) added)
  crash_down keeping added y now there left =
      subst (λ f. left_disk (torn b) (disk_of old) now (IsBeforeOrBehind f (forced_of (Some (node_of old))) added)) (sym old_file)
      (left_so (torn b) x y (disk_of old) now _ was there
      (only_before x y (forced_of (Some (node_of old))) added (λ disk keeps. keeping disk.inner keeps) (λ keeps. just_file keeps) kept_there left))

  -- the load isn't refused for what the file holds, but for its fingerprint
  pub load_refused : (program : Program) (given : List ℕ) (stop : Option Stop) (new : Component (Torn D) (torn b)) (y : Torn D) (why : LoadWhy) → disk_of new ≡ Some y → fails_to_load b x given (com_of old).0 y why → FailsToRecover b program given old stop new (refusal_of why)
  load_refused program given stop new y (whys.Bad place) now bad = λ told. absurd (not_refused (com_of old).0 (file b x) place (forced_of (Some (node_of old))) (ap owner_in (sym old_file) ∙ own_there told) (bad (tells told)).0 (kept_there (tells told)))
  load_refused program given stop new y (whys.Foreign kept) now foreign = λ told. subst (λ (l : List ℕ). IsForeign given l kept) (sym old_file) (foreign (tells told))
  load_refused program given stop new y whys.Failed now rose = subst (λ (o : Option (Torn D)). has_fault b o (disk_of new)) (sym was) (subst (λ (o : Option (Torn D)). has_fault b (Some x) o) (sym now) (inl rose))
  load_refused program given stop new y whys.Stopped now below = subst (λ (o : Option (Torn D)). has_fault b o (disk_of new)) (sym was) (subst (λ (o : Option (Torn D)). has_fault b (Some x) o) (sym now) (inr below))
  load_refused program given stop new y whys.Memory now rests = subst (rests_on (torn b)) (sym now) rests

  -- nor that of its tail
  pub tail_refused : (program : Program) (given : List ℕ) (stop : Option Stop) (new : Component (Torn D) (torn b)) (y : Torn D) (why : LoadWhy) → disk_of new ≡ Some y → FailsToLoadTail b x given (com_of old).0 (record { disk = y; why = why }) → FailsToRecover b program given old stop new (refusal_of why)
  tail_refused program given stop new y (whys.Bad place) now bad = λ told.
      let own : owner_in (file b x) ≡ (com_of old).0 = ap owner_in (sym old_file) ∙ own_there told in
      absurd (elim (bad (tells told)).0 [
        | inl tail ↦ not_refused_tail (com_of old).0 (file b x) place (forced_of (Some (node_of old))) own tail (kept_there (tells told))
        | inr whole ↦ not_refused (com_of old).0 (file b x) place (forced_of (Some (node_of old))) own whole (kept_there (tells told))
      ])
  tail_refused program given stop new y (whys.Foreign kept) now foreign = λ told. subst (λ (l : List ℕ). IsForeign given l kept) (sym old_file) (foreign (tells told))
  tail_refused program given stop new y whys.Failed now rose = load_refused program given stop new y whys.Failed now rose
  tail_refused program given stop new y whys.Stopped now below = load_refused program given stop new y whys.Stopped now below
  tail_refused program given stop new y whys.Memory now rests = load_refused program given stop new y whys.Memory now rests

  -- it isn't brought up where the definitions refuse what its file holds
  pub up_refused : (program : Program) (given : List ℕ) (stop : Option Stop) (IsBadAt : List ℕ → ℕ → Type 0) → is_reached stop (load_calls program (com_of old)) ≡ false
      → ((bytes : List ℕ) (place : ℕ) → log_of bytes ≡ Ok (forced_of (Some (node_of old))) → owner_in bytes ≡ (com_of old).0 → IsNotForeign given bytes → IsBadAt bytes place → recovery_refusal program given (com_of old) bytes ≡ Some (refused.Bad (com_of old) place))
      → (new : Component (Torn D) (torn b)) (y : Torn D) (why : LoadWhy) → disk_of new ≡ Some y → fails_to_come_up b IsBadAt x given y why → FailsToRecover b program given old stop new (refusal_of why)
  up_refused program given stop IsBadAt beyond defined new y (whys.Bad place) now bad = λ told.
      ap (down_refusal program given (com_of old) stop (file_of old)) down
      ∙ ap (λ t. cond t None (recovery_refusal program given (com_of old) (file_of old))) beyond
      ∙ defined (file_of old) place (stands told) (own_there told) (subst (IsNotForeign given) (sym old_file) (bad (tells told)).1) (subst (λ (f : List ℕ). IsBadAt f place) (sym old_file) (bad (tells told)).0)
  up_refused program given stop IsBadAt beyond defined new y (whys.Foreign kept) now foreign = λ told. subst (λ (l : List ℕ). IsForeign given l kept) (sym old_file) (foreign (tells told))
  up_refused program given stop IsBadAt beyond defined new y whys.Failed now rose = load_refused program given stop new y whys.Failed now rose
  up_refused program given stop IsBadAt beyond defined new y whys.Stopped now below = load_refused program given stop new y whys.Stopped now below
  up_refused program given stop IsBadAt beyond defined new y whys.Memory now rests = load_refused program given stop new y whys.Memory now rests

  -- its stop cut the load off, and it stays down
  module _ (program : Program) (stop : Stop) (within : stop.call ≤ load_calls program (com_of old)) (given : List ℕ) (new : Component (Torn D) (torn b)) (y : Torn D) (off : new.node ≡ Off y) (same : com_of new ≡ com_of old) (over : is_over new ≡ false) (loads : IsLoaded b x given (com_of old).0 (y, new.kept)) where
    hit : nat_le stop.call (load_calls program (com_of old)) ≡ true
    hit = le-true stop.call (load_calls program (com_of old)) within

    new_down : node_of new ≡ Down new.kept
    new_down = ap (node_with new.kept) off

    abbrev outcome : DiskOutcome
    outcome = record { found = forced_of (Some (node_of old)); size = unwrap_or (size_in (file_of old)) 0; free = (held_by old).free; left = new.kept; is_open = false }

    same_file : Tells old → file_of new ≡ file_of old
    same_file told = ap (λ n. read_of (torn b) (disk_in n)) off ∙ loads.bytes (tells told) ∙ sym old_file

    reads : Tells old → log_of (file_of new) ≡ Ok new.kept
    reads told = ap log_of (same_file told ∙ old_file) ∙ loads.read (tells told)

    abbrev added : List Record
    added = adds_in (node_of old) (recovers program (com_of old) None outcome (node_of old))

    pub stays_down : (done : Done) → done ≡ just_told answers.Stopped → Recovers program old (Some stop) new done
    stays_down done told_so = record {
      outcome = outcome;
      step =
          ap (recovers program (com_of old) (Some stop) outcome) down
          ∙ ap (λ t. cond t (Some (just (Down new.kept) answers.Stopped)) (option_map (cut_off (Some stop) outcome (Down old.kept) answers.Stopped) (comes_up program (com_of old) outcome.size outcome.found))) hit
          ∙ ap (λ n. Some (just n answers.Stopped)) (sym new_down)
          ∙ ap (λ (d : Done). Some (done_with (node_of new) d)) (sym told_so);
      meets = told_where (torn b) (disk_of old) _ (λ told. record {
        found = stands told;
        size = sized told;
        free = refl;
        torn = λ e. record {
          image = same_file told
              ∙ sym (ap (λ t. cond t (file_of old) (writes_torn (stop.call - load_calls program (com_of old)) stop.keep stop.fill (file_of old) (log_writes (file_of old) (outcome.size - 1) added))) hit)
              ∙ sym (ap (λ n. stop_torn stop n (file_of old) (log_writes (file_of old) (outcome.size - 1) added)) (ap (λ n. loads_first program (com_of old) (Some n)) down));
          left = reads told;
          gate_byte = sym (gate_shut (file_of old) (forced_of (Some (node_of old))) (stands told)) ∙ ap (λ f. is_open_at f (outcome.size - 1)) (sym (same_file told));
        };
        same = λ e. let clash : true ≡ false = sym (ap (λ (d : Done). is_stopped d.answer) told_so) ∙ e in absurd (cc);
      });
      played = ap (λ (d : Done). d.played) told_so ∙ sym (none_played (node_of old) (node_of new) new.kept new_down);
      goes_on = record {
        same = same;
        open_still = over;
        logs = λ told print logs.
            let log : IsLog print (com_of old).0 (file_of old) old.kept = subst (λ (n : world.Node). KeepsLog print (com_of old) (file_of old) (Some n)) down logs in
            subst (λ (n : world.Node). KeepsLog print (com_of new) (file_of new) (Some n)) (sym new_down) (record { own = ap fingerprint_in (same_file told) ∙ log.own; owned = ap owner_in (same_file told) ∙ log.owned ∙ sym (ap (λ (c : ComId). c.0) same); holds = reads told });
      };
    }

-- the records that were read are those that it kept
pub same_records : (r : Result (List Record) ℕ) (ks rs : List Record) → r ≡ Ok ks → r ≡ Ok rs → ks ≡ rs
same_records r ks rs e f = let both : ◌≡◌ {A = Result (List Record) ℕ} (Ok ks) (Ok rs) = sym e ∙ f in cc
