-- A whole live run over disks that tell their bytes ends as the crash-free world.
use Rattle.std.proofs.Common.{◌≡◌, ◌∙◌, sym, ap, subst, ◌++◌, ℕ, List, [], length, Option, Some, None, option_map, inl, inr}
use Rattle.std.specs.Prelude.{slice_get, filter_map, flat_map}
use Rattle.ic_base.specs.declared.events.Event.{Event}
use Rattle.ic_base.specs.declared.messages.ComId.{ComId}
use Rattle.ic_base.specs.declared.scenario.Component.{Component as Declared}
use Rattle.def_facts.specs.Flat.{HasFlatParts}
use Rattle.def_facts.specs.Logs.{log_at}
use Rattle.def_facts.specs.Playable.{IsPlayable}
use Rattle.def_facts.specs.World.{forced_logs, kind_of}
use Rattle.def_live.specs.Lists.{inputs_done}
use Rattle.def_live.specs.Serial.{agenda_left, events_left}
use Rattle.def_live.specs.Turns.{Berth}
use Rattle.def_run.specs.CrashFree.{EndsCrashFree, input_in, received_by}
use Rattle.def_run.specs.Executions.{Executes, IsComplete, next}
use Rattle.def_run.specs.SystemStates.{SystemState, KeepsLogs, last_state, traces_of}
use Rattle.def_step.specs.Settle.{IsSettled}
use Rattle.ic_disk.specs.TornDisks.{Torn}
use Rattle.ic_disk.specs.Torns.{torn}
use Rattle.ic_disk.specs.declared.disk.Disk as disk
use Rattle.ic_disk.specs.declared.sink.Sink as sink
use Rattle.ic_joins.specs.Assembling.{IsAssembled, StandsJoined}
use Rattle.ic_joins.specs.Showing.{showings_of}
use Rattle.ic_joins.specs.Placing.{IsPlaced}
use Rattle.ic_live.specs.Berthed.{list_of}
use Rattle.ic_live.specs.Ended.{AreReturned, AreJoined}
use Rattle.ic_live.proofs.Moored.{declared-kind}
use Rattle.ic_live.proofs.Peers.{berthed-within}
use Rattle.ic_node.specs.Nodes.{told_of}
use Rattle.ic_node.specs.Views.{com_of, Tells as ComponentTells}
use Rattle.ic_node.specs.declared.component.Component.{Component}
use Rattle.ic_plan.specs.declared.run_texts.RunTexts.{RunTexts}
use Rattle.ic_settle.specs.Policies.{intervals_of}
use Rattle.ic_turn.specs.Progresses.{left_of}
use Rattle.ic_turn.specs.declared.progress.Progress.{Progress}
use Rattle.ic_world.specs.Views.{world_of, state_of, Tells}
use Rattle.ic_world.specs.declared.world.World.{World}
use Rattle.ic_world.proofs.Makings.{no-disk}
use Rattle.law_live.specs.Doing.{DoAll}
use Rattle.law_live.proofs.Closing.{closed_runs_end, closed_runs_settle}
use Rattle.law_live.proofs.Doing.{serial_phases_do_all}
use Rattle.law_run.specs.ProgramBytes.{HasBytes}
use Rattle.ic_threads.specs.Ending.{EndsJoined}
use Rattle.ic_threads.specs.Runs.{Finishes}

module _ {D : Type 0} (b : disk.Ghosts D) (r : RunTexts) (xs : List (Component (Torn D) (torn b))) (ps : List Progress) (joined : AreJoined r.program r.fingerprint (λ c. list_of c r.schedule.events) xs ps) (old : World (Torn D) (torn b)) (a : IsAssembled r.program r.fingerprint xs (showings_of xs ps) old) where
  placed-tells : (c : ComId) (x : Component (Torn D) (torn b)) → IsPlaced r.program xs c x → ComponentTells x
  placed-tells c x (inl h) = joined.told h.0 x h.2
  placed-tells c x (inr h) = subst (λ (o : Option (Torn D)). told_of (torn b) o) (sym (no-disk b x h.1.node)) tt

  -- the disks of the assembled world tell their bytes
  pub old-tells : Tells old
  old-tells i x at = placed-tells (record { 0 = i }) x (a.placed.each (record { 0 = i }) x (ap (λ (l : List (Component (Torn D) (torn b))). slice_get l i) (sym a.assembles.same) ∙ at))

module _ {D : Type 0} (b : disk.Ghosts D) {K : Type 0} (k : sink.Ghosts K) (r : RunTexts) (playable : IsPlayable r.program) (flat : HasFlatParts r.program) (bytes : HasBytes r.program) (xs : List (Component (Torn D) (torn b))) (ps : List Progress)
    (returned : AreReturned r.program r.fingerprint xs ps) (joined : AreJoined r.program r.fingerprint (λ c. list_of c r.schedule.events) xs ps) (old new : World (Torn D) (torn b)) (before after : K) (f : Finishes b k r xs ps old new before after) where
  stands : StandsJoined r.program r.fingerprint (λ c. list_of c r.schedule.events) xs ps joined old
  stands = f.joined (λ c. list_of c r.schedule.events) joined

  run : IsComplete r.program r.fingerprint (intervals_of r.policy) (agenda_left (events_left r.program joined.berths)) (state_of old) f.transitions
  run = record {
    agenda = f.agenda;
    executes = let P : List ℕ × List Event → Type 0 = λ z. Executes r.program z.0 (intervals_of r.policy) (agenda_left z.1) (state_of old) f.transitions f.agenda in subst P (λ i. (f.assembled.assembles.is_own i, stands.left i)) (f.goes.executes (old-tells b r xs ps joined old f.assembled));
    nothing = subst (λ (s : SystemState). next s.world (intervals_of r.policy) f.agenda ≡ None) (sym f.goes.ends) f.nothing;
  }

  left-done : DoAll (intervals_of r.policy) (flat_map left_of ps) (state_of old) None f.transitions
  left-done = subst (λ (l : List Event). DoAll (intervals_of r.policy) l (state_of old) None f.transitions) (sym stands.left) (serial_phases_do_all r.program r.fingerprint (intervals_of r.policy) (events_left r.program joined.berths) (state_of old) f.transitions run)

  pub ends-joined : EndsJoined r xs ps (state_of old) f.transitions new
  ends-joined =
      let law = closed_runs_end r.program r.fingerprint (intervals_of r.policy) joined.plans joined.lanes joined.berths (world_of old).nodes (world_of old).showings (state_of old) f.transitions playable flat bytes joined.closed stands.are stands.world stands.kept run in
      let rest = closed_runs_settle r.program r.fingerprint (intervals_of r.policy) joined.plans joined.lanes joined.berths (world_of old).nodes (world_of old).showings (state_of old) f.transitions playable flat bytes joined.closed stands.are stands.world stands.kept run in
      let last : last_state (state_of old) f.transitions ≡ state_of new = f.goes.ends in
      record {
        crash_free = law.0.0;
        ends = subst (λ (s : SystemState). EndsCrashFree r.program [] s.world law.0.0) last law.0.1;
        settled = subst (λ (s : SystemState). IsSettled s.world) last rest.0;
        logs = subst (KeepsLogs r.fingerprint) last rest.1;
        inputs = λ i x q at_x at_q.
            let c = com_of x in
            let o = joined.of i x q at_x at_q in
            let d = declared-kind r.program c (berthed-within r.program i c (returned.going i x at_x).at_place) in
            let kind : kind_of r.program c ≡ Some d.0.kind = ap (option_map (λ (y : Declared). y.kind)) d.1 in
            let l = (joined.closed.keep c d.0.kind kind).list in
            record {
              done = l.done;
              list_is = sym o.list_is ∙ l.plan_is ∙ ap (λ (z : Berth). l.done ++ z.left) o.is;
              answered = ap (λ (z : Berth). length z.answers) (sym o.is) ∙ l.answered;
              inputs = λ pcom.
                  ap (λ (s : SystemState). filter_map input_in (log_at (forced_logs s.world) c)) (sym last)
                  ∙ law.1 c d.0.kind kind pcom
                  ∙ ap (λ (z : Berth). inputs_done c l.done z.answers ++ filter_map (received_by c) (traces_of f.transitions)) o.is;
            };
        left = left-done;
      }
