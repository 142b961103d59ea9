-- What a call comes to at a component, by what it comes to at its node.
use Rattle.std.proofs.Common.{◌≡◌, ◌∙◌, refl, sym, ap, subst, inl, inr, ⊎_elim, ℕ, ◌-◌, Bool, true, false, cond, List, [], ◌∷◌, length, Option, Some, None, option_map}
use Rattle.std.specs.Prelude.{Result, Ok, Err, nat_lt, ◌&&◌, is_some, IfOk, IfErr}
use Rattle.ic_base.specs.declared.events.Answer.{Answer}
use Rattle.ic_base.specs.declared.events.Answer.TheVariants as answers
use Rattle.ic_base.specs.declared.events.Fate.TheVariants as fates
use Rattle.ic_base.specs.declared.events.Stop.{Stop}
use Rattle.ic_base.specs.declared.limits.TheConstants.{SLOTS}
use Rattle.ic_base.specs.declared.messages.ComId.{ComId}
use Rattle.ic_base.specs.declared.messages.Packet.{Packet}
use Rattle.ic_base.specs.declared.record.Record.{Record}
use Rattle.ic_base.specs.declared.scenario.Program.{Program}
use Rattle.def_log.specs.Changes.{IsOfSame}
use Rattle.def_log.specs.Directory.{slots_in}
use Rattle.def_log.specs.Frame.{fingerprint_in, owner_in}
use Rattle.def_log.specs.Log.{log_of}
use Rattle.def_log.specs.Sizes.{size_in}
use Rattle.def_log.specs.Gated.{log_writes}
use Rattle.def_log.specs.Stops.{stop_torn}
use Rattle.def_run.specs.CoreSteps.{forced_of, is_stopped, is_stopped_fate, loads_first}
use Rattle.def_run.specs.Refusals.{node_refusal}
use Rattle.def_run.specs.SystemStates.{KeepsLog}
use Rattle.def_step.specs.Calls.{node_is_full}
use Rattle.def_step.specs.Pcom as step
use Rattle.def_step.specs.Pcom.{Call, Gives, Gets, Forces, Checkpoints, Resends, Emits, StepKind, Took, Fed, Busy, Changed, Same, StepResult, pcom_step}
use Rattle.def_step.specs.World as world
use Rattle.def_step.specs.World.{Runs, Serves, Down, External, does, cut_off, answer_of, fate_of, used_fate, is_drop, no_packets, done_as}
use Rattle.def_step.specs.Packets.{fits_tcom}
use Rattle.ic_disk.specs.TornDisks.{Torn}
use Rattle.ic_disk.specs.declared.disk.Disk.{Ghosts}
use Rattle.ic_node.specs.Calling.{call_of, done_with}
use Rattle.ic_node.specs.Cutting.{is_halted, IsCutOff, EndsBy}
use Rattle.ic_node.specs.Doing.{IsFull, Does, HasCause, FailsToDo}
use Rattle.ic_node.specs.Ending.{HasFree, IsDone, IsCut, FailsBy, FitsOrRests}
use Rattle.ic_node.specs.Faults.{has_fault}
use Rattle.ic_node.specs.Meeting.{adds_in, rests_on, IsUnmoved}
use Rattle.ic_node.specs.Nodes.{read_of, told_of}
use Rattle.ic_node.specs.Recovering.{held_by}
use Rattle.ic_node.specs.Steps as steps
use Rattle.ic_disk.specs.Torns.{file, torn}
use Rattle.ic_node.specs.Views.{node_of, disk_of, file_of, com_of, is_over, Tells}
use Rattle.ic_node.specs.declared.component.Component.{Component}
use Rattle.ic_node.specs.declared.done.Call.{Call as Made}
use Rattle.ic_node.specs.declared.done.Done.{Done}
use Rattle.ic_node.specs.declared.done.Ended.{Ended}
use Rattle.ic_node.specs.declared.done.Ended.TheVariants as ended
use Rattle.ic_node.specs.declared.done.NodeRefused.{NodeRefused}
use Rattle.ic_node.specs.declared.done.NodeRefused.TheVariants.{Full, Bad, Foreign, Failed, Memory}
use Rattle.ic_node.proofs.Cuts.{sized_so, stood, told_where}

-- a step that is done isn't told as one that was cut off --------------------------------------------

runs_on : (word : StepKind) (puts : List Packet) → is_stopped_fate (fate_of word puts) ≡ false
runs_on Took puts = refl
runs_on Fed puts = refl
runs_on Busy puts = refl
runs_on Changed puts = refl
runs_on Same [] = refl
runs_on Same (p ∷ ps) = refl

used_on : (b : Bool) (puts : List Packet) → is_stopped_fate (cond b fates.Used (used_fate puts)) ≡ false
used_on true puts = refl
used_on false [] = refl
used_on false (p ∷ ps) = refl

one_of : (b : Bool) (x y : Answer) → is_stopped x ≡ false → is_stopped y ≡ false → is_stopped (cond b x y) ≡ false
one_of true x y e f = e
one_of false x y e f = f

pcom_on : (p : step.Pcom) (number : ℕ) (call : Call) (t : StepResult) → is_stopped (answer_of p number call t) ≡ false
pcom_on p number (Gives handler args) t =
    one_of (step.is_replaying p) answers.MissedReplaying (cond (step.in_hand p) answers.MissedBusy answers.Taken) refl (one_of (step.in_hand p) answers.MissedBusy answers.Taken refl refl)
pcom_on p number (Gets packet) t = runs_on t.word t.puts
pcom_on p number Forces t = one_of (step.is_empty p.log.buffered) answers.Idle answers.Ended refl refl
pcom_on p number Checkpoints t =
    one_of (step.is_replaying p) answers.Replaying (cond (step.in_hand p) answers.Busy answers.Ended) refl (one_of (step.in_hand p) answers.Busy answers.Ended refl refl)
pcom_on p number Resends t = one_of (no_packets t.puts) answers.Idle answers.Ended refl refl
pcom_on p number Emits t =
    one_of (step.is_replaying p) answers.Replaying (cond (is_some t.shown) answers.Ended answers.Idle) refl (one_of (is_some t.shown) answers.Ended answers.Idle refl refl)

down_on : (number : ℕ) (call : Call) → is_stopped (world.answer_down number call) ≡ false
down_on number (Gives handler args) = refl
down_on number (Gets packet) = refl
down_on number Forces = refl
down_on number Checkpoints = refl
down_on number Resends = refl
down_on number Emits = refl

abbrev Goes : Option world.Done → Type 0
Goes None = Unit {0}
Goes (Some d) = is_stopped d.answer ≡ false

each_on : (program : Program) (c : ComId) (node : world.Node) (number : ℕ) (call : Call) → Goes (does program c node number call)
each_on program c (Runs p) number call = by (pcom_step program c p call)
  where
    by : (o : Option StepResult) → Goes (option_map (λ t. done_as (answer_of p number call t) t) o)
    by None = tt
    by (Some t) = pcom_on p number call t
each_on program c (Serves x) number (Gets packet) = used_on (is_drop packet && fits_tcom program c packet) _
each_on program c (Serves x) number (Gives handler args) = refl
each_on program c (Serves x) number Forces = refl
each_on program c (Serves x) number Checkpoints = refl
each_on program c (Serves x) number Resends = refl
each_on program c (Serves x) number Emits = refl
each_on program c (Down records) number call = down_on number call
each_on program c External number call = refl

pub goes : (program : Program) (c : ComId) (node : world.Node) (number : ℕ) (call : Call) (d : world.Done) → does program c node number call ≡ Some d → is_stopped d.answer ≡ false
goes program c node number call d is = subst Goes is (each_on program c node number call)

-- the component that has this node -------------------------------------------------------------------

module _ {D : Type 0} (b : Ghosts D) (program : Program) (old new : Component (Torn D) (torn b)) (x y : Torn D) (was : disk_of old ≡ Some x) (now : disk_of new ≡ Some y)
    (going : is_over old ≡ false) (stop : Option Stop) (number : ℕ) (call : Made) where
  tells : Tells old → b.tells x.inner
  tells told = subst (told_of (torn b)) was told

  old_file : file_of old ≡ file b x
  old_file = ap (read_of (torn b)) was

  new_file : file_of new ≡ file b y
  new_file = ap (read_of (torn b)) now

  stands : Tells old → log_of (file_of old) ≡ Ok (forced_of (Some (node_of old)))
  stands told = stood (torn b) old.node old.kept x was (old.whole going told) (old.on_disk going told)

  pub node_room : (is : Bool) → (b.tells x.inner → (size : ℕ) → size_in (file b x) ≡ Some size → node_is_full program (com_of old) (call_of call) size (node_of old) ≡ is) → IsFull program old call is
  node_room is room told size found = room (tells told) size (ap size_in (sym old_file) ∙ found)

  -- whether a slot of its log's directory is free
  node_free : (free : Bool) → HasFree b x free → Tells old → free ≡ nat_lt (length (slots_in (file_of old))) SLOTS
  node_free free listed told = listed (tells told) ∙ ap (λ f. nat_lt (length (slots_in f)) SLOTS) (sym old_file)

  -- the log of the new one, which is that of the same component
  logs_on : (node after : world.Node) (fs : List Record) (print : List ℕ) (c : ComId) → (KeepsLog print c (file_of old) (Some node) → (fingerprint_in (file_of old) ≡ print) × (owner_in (file_of old) ≡ c.0)) → forced_of (Some after) ≡ fs
      → IsOfSame (file_of old) (file_of new) → log_of (file_of new) ≡ Ok fs → KeepsLog print c (file_of old) (Some node) → KeepsLog print c (file_of new) (Some after)
  logs_on node (Runs p) fs print c own forced same reads logs = record { own = same.fingerprint ∙ (own logs).0; owned = same.owner ∙ (own logs).1; holds = reads ∙ ap (λ (l : List Record). Ok l) (sym forced) }
  logs_on node (Serves t) fs print c own forced same reads logs = record { own = same.fingerprint ∙ (own logs).0; owned = same.owner ∙ (own logs).1; holds = reads ∙ ap (λ (l : List Record). Ok l) (sym forced) }
  logs_on node (Down rs) fs print c own forced same reads logs = record { own = same.fingerprint ∙ (own logs).0; owned = same.owner ∙ (own logs).1; holds = reads ∙ ap (λ (l : List Record). Ok l) (sym forced) }
  logs_on node External fs print c own forced same reads logs = tt

  -- the call is done
  pub node_done : (done : Done) → is_over new ≡ false → com_of new ≡ com_of old → (Tells new → log_of (file_of new) ≡ Ok (forced_of (Some (node_of new)))) → (Tells old → Tells new)
      → ((print : List ℕ) → KeepsLog print (com_of old) (file_of old) (Some (node_of old)) → (fingerprint_in (file_of old) ≡ print) × (owner_in (file_of old) ≡ (com_of old).0))
      → IsDone b program (com_of old) (node_of old) x stop number (call_of call) (node_of new) y done → Does program old stop number call new done
  node_done done going_on same reads on own is = record {
    outcome = record (held_by old) { free = is.free };
    step =
        ap (option_map (cut_off stop (record (held_by old) { free = is.free }) (node_of old) (world.answer_stopped number false (call_of call)))) is.step
        ∙ ap (λ t. Some (cond t (world.just (Down []) (world.answer_stopped number false (call_of call))) (done_with (node_of new) done))) is.unreached;
    room = node_room false is.room;
    meets = told_where (torn b) (disk_of old) _ (λ told. record {
      found = stands told;
      size = sized_so (file_of old) (forced_of (Some (node_of old))) (stands told);
      free = node_free is.free is.listed told;
      torn = λ e. let clash : true ≡ false = sym e ∙ goes program (com_of old) (node_of old) number (call_of call) (done_with (node_of new) done) is.step in absurd (cc);
      same = λ e none. new_file ∙ is.same (tells told) none ∙ sym old_file;
    });
    played = is.played;
    goes_on = record {
      same = same;
      open_still = going_on;
      logs = λ told print logs.
          subst (λ (c : ComId). KeepsLog print c (file_of new) (Some (node_of new))) (sym same)
          (logs_on (node_of old) (node_of new) (forced_of (Some (node_of new))) print (com_of old) (own print) refl
          (subst (λ (f : List ℕ). IsOfSame f (file_of new)) (sym old_file) (subst (λ (f : List ℕ). IsOfSame (file b x) f) (sym new_file) (is.whose (tells told)))) (reads (on told)) logs);
    };
  }

  -- its stop cut it off
  pub node_cut : loads_first program (com_of old) (Some (node_of old)) ≡ 0 → com_of new ≡ com_of old → IsCut b program (com_of old) (node_of old) x stop number (call_of call) y → IsCutOff b program old stop number call new
  node_cut first same is = record {
    free = is.free;
    listed = node_free is.free is.listed;
    would = is.would;
    step = is.step;
    at = is.at;
    is_stop = is.is_stop;
    reached = is.reached;
    room = node_room false is.room;
    stands = λ told size found. is.stands (tells told) size (ap size_in (sym old_file) ∙ found);
    image = λ told size found.
        let adds = adds_in (node_of old) (Some is.would) in
        new_file ∙ is.image (tells told) size (ap size_in (sym old_file) ∙ found)
        ∙ ap (λ f. stop_torn is.at 0 f (log_writes f (size - 1) adds)) (sym old_file)
        ∙ ap (λ n. stop_torn is.at n (file_of old) (log_writes (file_of old) (size - 1) adds)) (sym first);
    first = first;
    some = is.some;
    same = same;
    halted = subst (is_halted b) (sym now) is.halted;
  }

  -- it is as it was
  unmoved : steps.IsUnmoved (torn b) (node_of old) x (node_of new) y → IsUnmoved old new
  unmoved still = record { node = still.0; file = λ told. new_file ∙ still.1 (tells told) ∙ sym old_file; rests = subst (rests_on (torn b)) (sym now) still.2 }

  -- why it isn't done
  node_fails : (given : List ℕ) (why : NodeRefused) → FailsBy b program (com_of old) (node_of old) x (call_of call) (node_of new) y why → HasCause b program given old call new why
  node_fails given Full fails = (node_room true fails.0, unmoved fails.1)
  node_fails given (Bad place) fails = λ told. ap (λ f. node_refusal program (com_of old) f (call_of call) (node_of old)) old_file ∙ fails (tells told)
  node_fails given (Foreign kept) fails = absurd fails
  node_fails given Failed fails = subst (λ (o : Option (Torn D)). has_fault b o (disk_of new)) (sym was) (subst (λ (o : Option (Torn D)). has_fault b (Some x) o) (sym now) fails)
  node_fails given Memory fails = subst (rests_on (torn b)) (sym now) fails

  -- the same of a step that was refused
  pub cut_by : (e : Result Ended NodeRefused) → loads_first program (com_of old) (Some (node_of old)) ≡ 0 → com_of new ≡ com_of old → IfOk e (λ o. (o ≡ ended.Cut) × IsCut b program (com_of old) (node_of old) x stop number (call_of call) y) → IfOk e (EndsBy b program old stop number call new)
  cut_by (Ok (ended.Done done)) first same is = let clash : ended.Done done ≡ ended.Cut = is.0 in absurd (cc)
  cut_by (Ok ended.Cut) first same is = node_cut first same is.1
  cut_by (Err why) first same is = tt

  pub fails_by : (given : List ℕ) (e : Result Ended NodeRefused) → IfErr e (FailsBy b program (com_of old) (node_of old) x (call_of call) (node_of new) y)
      → IfErr e (λ why. FitsOrRests b program (com_of old) (node_of old) x (call_of call) (node_of new) y) → IfErr e (FailsToDo b program given old call new)
  fails_by given (Ok ended) fails rests = tt
  fails_by given (Err why) fails rests = record { cause = node_fails given why fails; rests = ⊎_elim (λ fits. inl (node_room false fits)) (λ still. inr (unmoved still)) rests }
