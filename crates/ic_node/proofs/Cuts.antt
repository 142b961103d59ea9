-- A component whose call was cut off by its stop, and lies down.
use Rattle.std.proofs.Common.{◌≡◌, ◌∙◌, refl, sym, ap, subst, ◌⊎◌, inl, inr, ℕ, ◌+◌, ◌-◌, Bool, true, false, cond, List, ◌++◌, length, Option, Some, None, option_map, arith}
use Rattle.std.specs.Prelude.{Result, Ok, Err, is_ok, nat_le, nat_lt, unwrap_or}
use Rattle.std.proofs.lemmas.Bool.Decides.{nat_tests}
use Rattle.ic_base.specs.declared.events.Stop.{Stop}
use Rattle.ic_base.specs.declared.limits.TheConstants.{FIRST_GATE}
use Rattle.ic_base.specs.declared.messages.ComId.{ComId}
use Rattle.ic_base.specs.declared.record.Batch.{Batch}
use Rattle.ic_base.specs.declared.record.Record.{Record}
use Rattle.ic_base.specs.declared.scenario.Program.{Program}
use Rattle.def_log.proofs.Tails.{log_parts}
use Rattle.def_log.specs.Directory.{slots_in}
use Rattle.def_log.specs.Frame.{frame_of, fingerprint_in, owner_in}
use Rattle.def_log.specs.Loads.{placed_log_for}
use Rattle.def_log.specs.Log.{Placed, placed_log_of, log_of, records_in, ◌>>=◌, placed_with}
use Rattle.def_log.specs.Sizes.{span, gate_behind, gate_in, size_in}
use Rattle.def_log.specs.Gated.{log_writes}
use Rattle.def_log.specs.Stops.{writes_torn, stop_torn, is_open_at}
use Rattle.law_marks.proofs.Owners.{owned}
use Rattle.def_run.specs.CoreSteps.{forced_of, is_stopped, loads_first, IsTornAt}
use Rattle.def_run.specs.Reports.{played_by}
use Rattle.def_run.specs.SystemStates.{KeepsLog}
use Rattle.def_step.specs.World as world
use Rattle.def_step.specs.World.{Down, DiskOutcome, does, cut_off, just}
use Rattle.ic_disk.specs.TornDisks.{Torn}
use Rattle.ic_disk.specs.declared.disk.Disk.{Ghosts}
use Rattle.ic_disk.proofs.Disks.{Keeps-refl, Keeps-trans, crash_weaker, crash_then}
use Rattle.ic_node.specs.Calling.{call_of, done_with, just_told}
use Rattle.ic_node.specs.Cutting.{is_halted, IsCutOff, LiesDown, FailsToLieDown}
use Rattle.ic_node.specs.Doing.{IsAllowed, Does, would_force, HasCause, FailsToDo}
use Rattle.ic_node.specs.Faults.{has_fault}
use Rattle.ic_node.specs.Meeting.{adds_in, IsTornBy, Meets, where_told, kept_disk, left_disk, KeepsDisk, CrashAdds}
use Rattle.ic_node.specs.Nodes.{node_with, disk_in, read_of, told_of}
use Rattle.ic_node.specs.Standing.{log_in, leave_of, read_or_none, owner_on}
use Rattle.ic_disk.specs.Torns.{torn}
use Rattle.ic_node.specs.Views.{node_of, disk_of, file_of, com_of, is_over, Tells}
use Rattle.ic_node.specs.declared.component.Component.{Component}
use Rattle.ic_node.specs.declared.done.Call.{Call}
use Rattle.ic_node.specs.declared.done.Call.TheVariants as calls
use Rattle.ic_node.specs.declared.done.Done.{Done}
use Rattle.ic_node.specs.declared.done.NodeRefused.{NodeRefused}
use Rattle.ic_node.specs.declared.done.NodeRefused.TheVariants.{Full, Bad, Foreign, Failed, Memory}
use Rattle.ic_node.specs.declared.node.Node.{Node}
use Rattle.ic_node.specs.declared.node.Node.TheVariants.{Per, Tra, Off, Ext}
use Rattle.ic_node.proofs.Forced.{allowed}
use Rattle.ic_node.proofs.Openings.{ReadsBehind, reads_behind, still_foreign}
use Rattle.ic_node.proofs.Reloads.{rose_before}
use Rattle.ic_node.proofs.Resting.{read_is}

-- disks that may be missing ---------------------------------------------------------------------

module _ {D : Type 0} (d : Ghosts D) where
  pub kept_twice : (x y z : Option D) → kept_disk d x y → kept_disk d y z → kept_disk d x z
  kept_twice None None None p q = tt
  kept_twice (Some x) (Some y) (Some z) p q = Keeps-trans p q
  kept_twice None None (Some z) p q = absurd q
  kept_twice None (Some y) z p q = absurd p
  kept_twice (Some x) None z p q = absurd p
  kept_twice (Some x) (Some y) None p q = absurd q

  pub kept_self : (x : Option D) → kept_disk d x x
  kept_self None = tt
  kept_self (Some x) = Keeps-refl x

  pub told_on : (x y : Option D) → kept_disk d x y → told_of d x → told_of d y
  told_on None None p told = tt
  told_on (Some x) (Some y) p told = p.tells.0 told
  told_on None (Some y) p told = absurd p
  told_on (Some x) None p told = absurd p

  pub told_where : (x : Option D) (P : Type 0) → (told_of d x → P) → where_told d x P
  told_where None P f = tt
  told_where (Some x) P f = f

  pub left_twice : (x y z : Option D) (P : List ℕ → Type 0) → kept_disk d x y → left_disk d x y P → left_disk d y z (leave_of d y) → left_disk d x z P
  left_twice None None None P kept first second = tt
  left_twice (Some x) (Some y) (Some z) P kept first second =
      crash_then kept first (crash_weaker (λ keeps image may. first.behind (kept.keeps.1 keeps) image may) second)
  left_twice None None (Some z) P kept first second = absurd second
  left_twice None (Some y) z P kept first second = absurd kept
  left_twice (Some x) None z P kept first second = absurd kept
  left_twice (Some x) (Some y) None P kept first second = absurd second

  -- the records that its file holds are those that it has forced
  pub stood : (node : Node D d) (kept : List Record) (x : D) → disk_in node ≡ Some x → is_ok (log_in d node) ≡ true → read_or_none (log_in d node) ≡ forced_of (Some (node_with kept node)) → log_of (read_of d (disk_in node)) ≡ Ok (forced_of (Some (node_with kept node)))
  stood (Per p) kept x is whole on_disk = read_is _ _ whole on_disk
  stood (Tra t) kept x is whole on_disk = read_is _ _ whole on_disk
  stood (Off disk) kept x is whole on_disk = read_is _ _ whole on_disk
  stood Ext kept x is whole on_disk = absurd (cc)

module _ {D : Type 0} (d : Ghosts D) where
  -- whose log a component's file is
  pub own_file : (c : ComId) (o : Option D) (x : D) → o ≡ Some x → owner_on d c.0 o ≡ c.0 → owner_in (read_of d o) ≡ c.0
  own_file c o x is owns = ap (λ p. owner_in (read_of d p)) is ∙ sym (ap (owner_on d c.0) is) ∙ owns

module _ {D : Type 0} (b : Ghosts D) where
  pub fault_before : (x y z : Option (Torn D)) → kept_disk (torn b) x y → has_fault b y z → has_fault b x z
  fault_before (Some x) (Some y) (Some z) kept (inl rose) = inl (rose_before _ _ _ kept.later rose)
  fault_before (Some x) (Some y) (Some z) kept (inr below) = inr below
  fault_before None None z kept fault = absurd fault
  fault_before None (Some y) z kept fault = absurd kept
  fault_before (Some x) None z kept fault = absurd kept
  fault_before (Some x) (Some y) None kept fault = absurd fault

  -- a disk that stands stopped is there, and was before
  pub there : (x y : Option (Torn D)) → kept_disk (torn b) x y → is_halted b y → (disk : Torn D) × (x ≡ Some disk)
  there (Some x) y kept halted = (x, refl)
  there None None kept halted = absurd halted
  there None (Some y) kept halted = absurd kept

-- logs --------------------------------------------------------------------------------------------

-- a log that reads has a gate
pub gated : (file : List ℕ) (fs : List Record) → log_of file ≡ Ok fs → (gate : ℕ) × (gate_in file ≡ Some gate)
gated file fs is = let l = log_parts file fs is in (FIRST_GATE + span l.bs, ap (gate_behind FIRST_GATE) l.frame)

pub sized_so : (file : List ℕ) (fs : List Record) → log_of file ≡ Ok fs → size_in file ≡ Some (unwrap_or (size_in file) 0)
sized_so file fs is =
    let gate = gated file fs is in
    let size : size_in file ≡ Some (gate.0 + 1) = ap (option_map (λ g. g + 1)) gate.1 in
    size ∙ ap Some (sym (ap (λ o. unwrap_or o 0) size))

pub not_bad : (r : Result (List Placed) ℕ) (place : ℕ) (ks : List Record) → r ≡ Err place → (r >>= λ rs. Ok (records_in rs)) ≡ Ok ks → ⊥
not_bad r place ks bad is = let clash : ◌≡◌ {A = Result (List Record) ℕ} (Err place) (Ok ks) = sym (ap (λ x. x >>= λ rs. Ok (records_in rs)) bad) ∙ is in cc

-- a component's log that reads isn't refused
pub not_refused : (owner : ℕ) (file : List ℕ) (place : ℕ) (ks : List Record) → owner_in file ≡ owner → placed_log_for owner file ≡ Err place → log_of file ≡ Ok ks → ⊥
not_refused owner file place ks same bad reads =
    not_bad (placed_log_of file) place ks (sym (ap (λ (f : Result (List Batch) ℕ). f >>= λ bs. placed_with (slots_in file) bs) (owned owner file (frame_of file) same)) ∙ bad) reads

-- whose log it is
pub own_log : {D : Type 0} {d : Ghosts D} (print : List ℕ) (c : ComId) (file : List ℕ) (node : Node D d) (kept : List Record) (x : D) → disk_in node ≡ Some x → KeepsLog print c file (Some (node_with kept node)) → (fingerprint_in file ≡ print) × (owner_in file ≡ c.0)
own_log print c file (Per p) kept x is logs = (logs.own, logs.owned)
own_log print c file (Tra t) kept x is logs = (logs.own, logs.owned)
own_log print c file (Off disk) kept x is logs = (logs.own, logs.owned)
own_log print c file Ext kept x is logs = absurd (cc)

-- what is told of a step that was cut off
pub tells_stop : (number : ℕ) (is_open : Bool) (call : Call) → is_stopped (world.answer_stopped number is_open (call_of call)) ≡ true
tells_stop number true (calls.Gives handler args) = refl
tells_stop number false (calls.Gives handler args) = refl
tells_stop number is_open (calls.Gets p) = refl
tells_stop number is_open calls.Forces = refl
tells_stop number is_open calls.Checkpoints = refl
tells_stop number is_open calls.Resends = refl
tells_stop number is_open calls.Emits = refl

pub none_played : (before after : world.Node) (ks : List Record) → after ≡ Down ks → played_by before after ≡ 0
none_played before after ks is = ap (played_by before) is

module _ {D : Type 0} (b : Ghosts D) (program : Program) (old mid : Component (Torn D) (torn b)) (stop : Option Stop) (number : ℕ) (call : Call)
    (going : is_over old ≡ false) (may : IsAllowed stop) (kept : KeepsDisk old mid) (cut : IsCutOff b program old stop number call mid) where
  here : (disk : Torn D) × (disk_of old ≡ Some disk)
  here = there b (disk_of old) (disk_of mid) kept cut.halted

  told_mid : Tells old → Tells mid
  told_mid told = told_on (torn b) (disk_of old) (disk_of mid) kept told

  forced : List Record
  forced = forced_of (Some (node_of old))

  stands : Tells old → log_of (file_of old) ≡ Ok (forced_of (Some (node_of old)))
  stands told = stood (torn b) old.node old.kept here.0 here.1 (old.whole going told) (old.on_disk going told)

  batch : List Record
  batch = adds_in (node_of old) (Some cut.would)

  gate : Tells old → (gate : ℕ) × (gate_in (file_of old) ≡ Some gate)
  gate told = gated (file_of old) (forced_of (Some (node_of old))) (stands told)

  size : (told : Tells old) → size_in (file_of old) ≡ Some ((gate told).0 + 1)
  size told = ap (option_map (λ g. g + 1)) (gate told).1

  late : nat_le cut.at.call 0 ≡ false
  late = let one = allowed stop may cut.at cut.is_stop in grind (arith, nat_tests)

  image : (told : Tells old) → file_of mid ≡ writes_torn (cut.at.call - 0) cut.at.keep cut.at.fill (file_of old) (log_writes (file_of old) (gate told).0 (adds_in (node_of old) (Some cut.would)))
  image told =
      let g = (gate told).0 in
      let adds = adds_in (node_of old) (Some cut.would) in
      cut.image told (g + 1) (size told)
      ∙ ap (λ n. stop_torn cut.at n (file_of old) (log_writes (file_of old) (g + 1 - 1) adds)) cut.first
      ∙ ap (λ n. stop_torn cut.at 0 (file_of old) (log_writes (file_of old) n adds)) (omega arith)
      ∙ ap (λ t. cond t (file_of old) (writes_torn (cut.at.call - 0) cut.at.keep cut.at.fill (file_of old) (log_writes (file_of old) g adds))) late

  behind : (told : Tells old) → ReadsBehind (file_of old) (file_of mid) (gate told).0 (forced_of (Some (node_of old))) (adds_in (node_of old) (Some cut.would))
  behind told =
      let P : List ℕ → Type 0 = λ f. ReadsBehind (file_of old) f (gate told).0 (forced_of (Some (node_of old))) (adds_in (node_of old) (Some cut.would)) in
      subst P (sym (image told))
      (reads_behind (file_of old) (gate told).0 (forced_of (Some (node_of old))) (adds_in (node_of old) (Some cut.would)) (gate told).1 (stands told) cut.some (cut.stands told ((gate told).0 + 1) (size told)) (cut.at.call - 0) cut.at.keep cut.at.fill)

  reads : Tells old → (ks : List Record) × (log_of (file_of mid) ≡ Ok ks)
  reads told = by (behind told).read
    where
      by : (log_of (file_of mid) ≡ Ok (forced_of (Some (node_of old)))) ⊎ (log_of (file_of mid) ≡ Ok (forced_of (Some (node_of old)) ++ adds_in (node_of old) (Some cut.would))) → (ks : List Record) × (log_of (file_of mid) ≡ Ok ks)
      by (inl e) = (forced_of (Some (node_of old)), e)
      by (inr e) = (forced_of (Some (node_of old)) ++ adds_in (node_of old) (Some cut.would), e)

  own_mid : Tells old → owner_in (file_of mid) ≡ (com_of mid).0
  own_mid told = (behind told).whose.owner ∙ own_file (torn b) (com_of old) (disk_of old) here.0 here.1 (old.owned going told) ∙ sym (ap (λ (c : ComId). c.0) cut.same)

  named : adds_in (node_of old) (does program (com_of old) (node_of old) number (call_of call)) ≡ adds_in (node_of old) (Some cut.would)
  named = ap (adds_in (node_of old)) cut.step

  -- why it doesn't lie down is why the call isn't done
  cut_cause : (given : List ℕ) (new : Component (Torn D) (torn b)) (why : NodeRefused) → FailsToLieDown b given mid (disk_of new) why → HasCause b program given old call new why
  cut_cause given new Full fails = absurd fails
  cut_cause given new (Bad place) fails = λ told. absurd (not_refused (com_of mid).0 (file_of mid) place (reads told).0 (own_mid told) (fails (told_mid told)) (reads told).1)
  cut_cause given new (Foreign other) fails = λ told. still_foreign given (file_of old) (file_of mid) other (forced_of (Some (node_of old))) (stands told) (behind told).whose (fails (told_mid told))
  cut_cause given new Failed fails = fault_before b (disk_of old) (disk_of mid) (disk_of new) kept fails
  cut_cause given new Memory fails = fails

  pub cut_fails : (given : List ℕ) (new : Component (Torn D) (torn b)) (why : NodeRefused) → FailsToLieDown b given mid (disk_of new) why → FailsToDo b program given old call new why
  cut_fails given new why fails = record { cause = cut_cause given new why fails; rests = inl cut.room }

  -- a crash leaves what it leaves of the call
  pub cut_crash : (new : Component (Torn D) (torn b)) (added : List Record) → CrashAdds added old mid → left_disk (torn b) (disk_of mid) (disk_of new) (leave_of (torn b) (disk_of mid)) → CrashAdds added old new
  cut_crash new added first second = left_twice (torn b) (disk_of old) (disk_of mid) (disk_of new) _ kept first second

  module _ (given : List ℕ) (new : Component (Torn D) (torn b)) (lies : LiesDown b given mid new) where
    is_open : Bool
    is_open = nat_lt (length (forced_of (Some (node_of old)))) (length new.kept)

    abbrev outcome : DiskOutcome
    outcome = record { found = forced_of (Some (node_of old)); size = unwrap_or (size_in (file_of old)) 0; free = cut.free; left = new.kept; is_open = nat_lt (length (forced_of (Some (node_of old)))) (length new.kept) }

    sized : (told : Tells old) → size_in (file_of old) ≡ Some (unwrap_or (size_in (file_of old)) 0)
    sized told = size told ∙ ap Some (sym (ap (λ o. unwrap_or o 0) (size told)))

    at_gate : (told : Tells old) → unwrap_or (size_in (file_of old)) 0 - 1 ≡ (gate told).0
    at_gate told = let e = ap (λ o. unwrap_or o 0) (size told) in omega (arith, e)

    -- no step is counted
    pub cut_played : (before after : ℕ) → after ≡ before → after ≡ before + played_by (node_of old) (node_of new)
    cut_played before after same = let none = none_played (node_of old) (node_of new) new.kept lies.down in omega (arith, same, none)

    -- the call comes to what its stop left
    pub cut_does : (done : Done) (count : ℕ) → count ≡ length (forced_of (Some (node_of old))) → done ≡ just_told (world.answer_stopped number (nat_lt count (length new.kept)) (call_of call)) → Does program old stop number call new done
    cut_does done count so told_so = record {
      outcome = outcome;
      step =
          ap (option_map (cut_off stop outcome (node_of old) (world.answer_stopped number outcome.is_open (call_of call)))) cut.step
          ∙ ap (λ t. Some (cond t (just (Down new.kept) (world.answer_stopped number outcome.is_open (call_of call))) cut.would)) cut.reached
          ∙ ap (λ n. Some (just n (world.answer_stopped number outcome.is_open (call_of call)))) (sym lies.down)
          ∙ ap (λ a. Some (just (node_of new) a)) (sym answers)
          ∙ ap (λ (d : Done). Some (done_with (node_of new) d)) (sym told_so);
      room = cut.room;
      meets = told_where (torn b) (disk_of old) _ meets;
      played = ap (λ (d : Done). d.played) told_so ∙ sym (none_played (node_of old) (node_of new) new.kept lies.down);
      goes_on = record {
        same = lies.same ∙ cut.same;
        open_still = lies.going;
        logs = λ told print logs.
            subst (λ (n : world.Node). KeepsLog print (com_of new) (file_of new) (Some n)) (sym lies.down)
            (record {
              own = ap fingerprint_in (lies.bytes (told_mid told)) ∙ (behind told).whose.fingerprint ∙ (own_log print (com_of old) (file_of old) old.node old.kept here.0 here.1 logs).0;
              owned = ap owner_in (lies.bytes (told_mid told)) ∙ (behind told).whose.owner ∙ (own_log print (com_of old) (file_of old) old.node old.kept here.0 here.1 logs).1 ∙ sym (ap (λ (c : ComId). c.0) (lies.same ∙ cut.same));
              holds = ap log_of (lies.bytes (told_mid told)) ∙ lies.read (told_mid told);
            });
      };
    }
      where
        answers : world.answer_stopped number (nat_lt count (length new.kept)) (call_of call) ≡ world.answer_stopped number outcome.is_open (call_of call)
        answers = ap (λ n. world.answer_stopped number (nat_lt n (length new.kept)) (call_of call)) so

        stopped : is_stopped done.answer ≡ true
        stopped = ap (λ (d : Done). is_stopped d.answer) told_so ∙ tells_stop number (nat_lt count (length new.kept)) call

        torn_at : Tells old → IsTornAt outcome cut.at (loads_first program (com_of old) (Some (node_of old))) (outcome.size - 1) (would_force program old number call) (file_of old) (file_of new)
        torn_at told = record {
          image = lies.bytes (told_mid told) ∙ cut.image told outcome.size (sized told) ∙ ap (λ rs. stop_torn cut.at (loads_first program (com_of old) (Some (node_of old))) (file_of old) (log_writes (file_of old) (outcome.size - 1) rs)) (sym named);
          left = ap log_of (lies.bytes (told_mid told)) ∙ lies.read (told_mid told);
          gate_byte = sym ((behind told).opened new.kept (lies.read (told_mid told))) ∙ ap (λ f. is_open_at f (gate told).0) (sym (lies.bytes (told_mid told))) ∙ ap (is_open_at (file_of new)) (sym (at_gate told));
        }

        meets : Tells old → Meets program (com_of old) outcome stop (would_force program old number call) done.answer (node_of old) (node_of new) (file_of old) (file_of new)
        meets told = record {
          found = stands told;
          size = sized told;
          free = cut.listed told;
          torn = λ e. subst (λ (o : Option Stop). IsTornBy outcome o (loads_first program (com_of old) (Some (node_of old))) (would_force program old number call) (file_of old) (file_of new)) (sym cut.is_stop) (torn_at told);
          same = λ e. let clash : true ≡ false = sym stopped ∙ e in absurd (cc);
        }
