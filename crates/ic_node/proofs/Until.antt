-- What a step comes to at a component on whose disk a stop is set for it alone.
use Rattle.std.proofs.Common.{◌≡◌, ◌∙◌, refl, sym, ap, subst, inl, inr, ⊎_elim, ℕ, ◌-◌, ◌≤◌, Bool, true, false, List, [], length, Option, Some, None, arith}
use Rattle.std.specs.Prelude.{Result, Ok, Err, IfOk, IfErr, nat_lt}
use Rattle.ic_base.specs.declared.events.Stop.{Stop}
use Rattle.ic_base.specs.declared.limits.TheConstants.{SLOTS}
use Rattle.ic_base.specs.declared.messages.ComId.{ComId}
use Rattle.ic_base.specs.declared.record.Record.{Record}
use Rattle.ic_base.specs.declared.scenario.Program.{Program}
use Rattle.def_log.specs.Sizes.{size_in}
use Rattle.def_log.specs.Gated.{log_writes}
use Rattle.def_log.specs.Stops.{stop_torn}
use Rattle.def_log.specs.Torn.{all_written}
use Rattle.def_step.specs.Calls.{node_is_full}
use Rattle.def_step.specs.Pcom.{Call}
use Rattle.def_step.specs.World as world
use Rattle.def_step.specs.World.{does, is_reached}
use Rattle.ic_disk.specs.Armings.{set_by}
use Rattle.ic_disk.specs.Stops.{synced_after, waiting_after, image_at}
use Rattle.ic_disk.specs.TornDisks as disks
use Rattle.ic_disk.specs.TornDisks.{Torn}
use Rattle.ic_disk.specs.declared.disk.Disk.{Ghosts}
use Rattle.ic_gate.specs.Calls.{gated_calls}
use Rattle.ic_gate.specs.RecordCalls.{record_writes}
use Rattle.ic_gate.proofs.WriteStops.{records_leave_image}
use Rattle.ic_pcom.specs.declared.step.PacketRefused.{PacketRefused}
use Rattle.ic_pcom.specs.declared.step.PacketRefused.TheVariants as packet
use Rattle.ic_gate.specs.RecordFiles.{CanStand}
use Rattle.ic_node.specs.Calling.{done_with}
use Rattle.ic_node.specs.Doing.{IsAllowed}
use Rattle.ic_node.specs.Ending.{IsDone, IsCut, FailsBy, FitsOrRests, refusal_of}
use Rattle.ic_node.specs.Meeting.{adds_in}
use Rattle.ic_node.specs.Steps.{StepsOver}
use Rattle.ic_disk.specs.Torns.{or_never, file, torn}
use Rattle.ic_node.specs.declared.done.Done.{Done}
use Rattle.ic_node.specs.declared.done.Ended.{Ended}
use Rattle.ic_node.specs.declared.done.Ended.TheVariants as ended
use Rattle.ic_node.specs.declared.done.NodeRefused.{NodeRefused}
use Rattle.ic_disk.proofs.Armed.{IsArmed, runs_on, reads_on, later_on, reached_one, not_stopped, works_armed, stopped_below}
use Rattle.ic_node.proofs.Forced.{unreached_is, reached_is, stop_is, batch_some, none_added, allowed}
use Rattle.ic_node.proofs.Steps.{counted}

module _ {D : Type 0} (b : Ghosts D) (program : Program) (c : ComId) (before : world.Node) (x : Torn D) (number : ℕ) (call : Call) (stop : Option Stop) (runs : x.stopped ≡ false) (s : Torn D) (after : world.Node) where
  armed : IsArmed b (or_never stop) x (record x { script = Some (set_by (or_never stop)) })
  armed = record { set = refl; runs = runs }

  module _ (result : Result Done PacketRefused) (made : StepsOver (torn b) program c before (record x { script = Some (set_by (or_never stop)) }) number call after s result) where
    same_size : b.tells x.inner → (size : ℕ) → size_in (file b x) ≡ Some size → made.size ≡ size
    same_size told size found = let one = made.sized told in cc

    room : (is : Bool) → node_is_full program c call made.size before ≡ is → b.tells x.inner → (size : ℕ) → size_in (file b x) ≡ Some size → node_is_full program c call size before ≡ is
    room is full told size found = ap (λ n. node_is_full program c call n before) (sym (same_size told size found)) ∙ full

  -- the step is made, and its stop isn't reached
  pub done_so : (done : Done) → IsAllowed stop → StepsOver (torn b) program c before (record x { script = Some (set_by (or_never stop)) }) number call after s (Ok done)
      → IsDone b program c before x stop number call after (record s { script = Some (set_by (or_never None)) }) done
  done_so done may made =
      let is = made.step in
      let added : adds_in before (Some (done_with after done)) ≡ adds_in before (does program c before number call) = ap (adds_in before) (sym is.step) in
      let adds = counted program c before number call (done_with after done) is.step in
      let calls = gated_calls (record_writes made.size made.used (adds_in before (does program c before number call))) in
      let obeys = made.calls.stop in
      let count : length (gated_calls (record_writes made.size made.used (adds_in before (does program c before number call)))) ≡ world.device_calls (nat_lt made.used SLOTS) before after =
      ap (λ (rs : List Record). length (gated_calls (record_writes made.size made.used rs))) (sym added) ∙ adds.1 made.size made.used in
      record {
        free = nat_lt made.used SLOTS;
        listed = λ told. ap (λ n. nat_lt n SLOTS) (made.listed told);
        step = is.step;
        unreached = ap (is_reached stop) (sym count) ∙ unreached_is stop (length calls) (λ one. later_on b (b.tells x.inner) _ calls (or_never stop) x _ s armed (file b s) obeys one) (allowed stop may);
        room = room (Ok done) made false is.room;
        same = λ told same. reads_on b (b.tells x.inner) _ calls (or_never stop) x _ s armed (file b s) (λ t. t) obeys told
            ∙ ap (λ (rs : List Record). let cs = gated_calls (record_writes made.size made.used rs) in all_written (synced_after cs (b.seen x.inner) x.held) (waiting_after cs x.held))
            (sym added ∙ none_added _ _ _ adds.0 same);
        whose = is.whose;
        played = is.played;
        works = works_armed b (or_never None) s _ (record { set = refl; runs = runs_on b (b.tells x.inner) _ calls (or_never stop) x _ s armed (file b s) obeys });
      }

  -- its stop cut it off
  cut_so : x.held ≡ [] → disks.is_reached s.script ≡ true → StepsOver (torn b) program c before (record x { script = Some (set_by (or_never stop)) }) number call after s (Err packet.Stopped)
      → IsCut b program c before x stop number call (record s { script = None })
  cut_so held hit made = by (does program c before number call) refl
    where
      one : (1 ≤ (or_never stop).call) × ((or_never stop).call ≤ length (gated_calls (record_writes made.size made.used (adds_in before (does program c before number call)))))
          × (b.tells x.inner → file b s ≡ image_at (or_never stop).call (gated_calls (record_writes made.size made.used (adds_in before (does program c before number call)))) (b.seen x.inner) x.held (or_never stop).keep (or_never stop).fill)
      one = reached_one b (b.tells x.inner) _ _ (or_never stop) x _ s armed (λ e. cc) hit (file b s) made.calls.stop

      by : (o : Option world.Done) → does program c before number call ≡ o → IsCut b program c before x stop number call (record s { script = None })
      by None is = absurd (omega (arith, one.0, one.1, ap (λ o. length (gated_calls (record_writes made.size made.used (adds_in before o)))) is))
      by (Some would) is =
          let named : adds_in before (does program c before number call) ≡ adds_in before (Some would) = ap (adds_in before) is in
          let within : (or_never stop).call ≤ length (gated_calls (record_writes made.size made.used (adds_in before (Some would)))) =
          subst (λ (rs : List Record). (or_never stop).call ≤ length (gated_calls (record_writes made.size made.used rs))) named one.1 in
          let count = (counted program c before number call would is).1 made.size made.used in
          record {
            free = nat_lt made.used SLOTS;
            listed = λ told. ap (λ n. nat_lt n SLOTS) (made.listed told);
            would = would;
            step = is;
            at = or_never stop;
            is_stop = stop_is stop one.0;
            reached = ap (is_reached stop) (sym count) ∙ reached_is stop (length (gated_calls (record_writes made.size made.used (adds_in before (Some would))))) one.0 within;
            room = room (Err packet.Stopped) made false made.refused.1;
            some = batch_some made.size made.used (adds_in before (Some would)) (omega (arith, one.0, within));
            stands = λ told size found.
                subst (λ (n : ℕ). CanStand n (adds_in before (Some would))) (same_size (Err packet.Stopped) made told size found)
                (subst (λ (rs : List Record). CanStand made.size rs) named made.refused.2);
            image = λ told size found.
                records_leave_image b made.size made.used (or_never stop) x s (adds_in before (does program c before number call)) held (made.listed told) one.0 one.1 (one.2 told)
                ∙ ap (λ n. stop_torn (or_never stop) 0 (file b x) (log_writes (file b x) (n - 1) (adds_in before (does program c before number call)))) (same_size (Err packet.Stopped) made told size found)
                ∙ ap (λ (rs : List Record). stop_torn (or_never stop) 0 (file b x) (log_writes (file b x) (size - 1) rs)) named;
            halted = made.refused.0;
          }

  -- where it wasn't reached, the disk below stands stopped
  below : disks.is_reached s.script ≡ false → StepsOver (torn b) program c before (record x { script = Some (set_by (or_never stop)) }) number call after s (Err packet.Stopped) → b.stopped s.inner
  below unreached made = stopped_below b s (not_stopped b (b.tells x.inner) _ _ (or_never stop) x _ s armed (file b s) unreached made.calls.stop) made.refused.0

  -- it is refused, or its stop cut it off
  pub refused_so : (why : PacketRefused) (hit : Bool) → hit ≡ disks.is_reached s.script → x.held ≡ [] → StepsOver (torn b) program c before (record x { script = Some (set_by (or_never stop)) }) number call after s (Err why)
      → IfOk (refusal_of why hit) (λ e. (e ≡ ended.Cut) × IsCut b program c before x stop number call (record s { script = None })) × IfErr (refusal_of why hit) (FailsBy b program c before x call after (record s { script = None }))
  refused_so packet.Full hit is held made = (tt, (room (Err packet.Full) made true made.refused.0, made.refused.1))
  refused_so packet.Memory hit is held made = (tt, made.refused)
  refused_so packet.Failed hit is held made = (tt, inl made.refused)
  refused_so (packet.Bad place) hit is held made = (tt, made.refused)
  refused_so packet.Stopped true is held made = ((refl, cut_so held (sym is) made), tt)
  refused_so packet.Stopped false is held made = (tt, inr (below (sym is) made))

  -- where it is refused it would pass no limit, or nothing is done
  pub rests_so : (why : PacketRefused) (hit : Bool) → StepsOver (torn b) program c before (record x { script = Some (set_by (or_never stop)) }) number call after s (Err why)
      → IfErr (refusal_of why hit) (λ w. FitsOrRests b program c before x call after (record s { script = None }))
  rests_so why hit made = by (refusal_of why hit)
    where
      either : FitsOrRests b program c before x call after (record s { script = None })
      either = ⊎_elim (λ fits. inl (room (Err why) made false fits)) (λ still. inr still) made.rests

      by : (r : Result Ended NodeRefused) → IfErr r (λ w. FitsOrRests b program c before x call after (record s { script = None }))
      by (Ok e) = tt
      by (Err w) = either
