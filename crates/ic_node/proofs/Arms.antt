-- A step of a component that is up, on whose disk its stop is set for the step alone.
use Rattle.std.proofs.Common.{◌≡◌, ◌∙◌, refl, sym, ap, subst, ℕ, Bool, true, false, List, [], Option, Some, None}
use Rattle.std.specs.Prelude.{Result, Ok, Err, is_ok, IfOk, IfErr, length, nat_lt}
use Rattle.std.proofs.Math.Logic.{∥∥₁_map}
use Rattle.ic_base.specs.declared.events.Stop.{Stop}
use Rattle.ic_base.specs.declared.limits.TheConstants.{SLOTS}
use Rattle.ic_base.specs.declared.messages.ComId.{ComId}
use Rattle.ic_base.specs.declared.record.Record.{Record}
use Rattle.ic_base.specs.declared.scenario.Program.{Program}
use Rattle.def_log.specs.Directory.{slots_in}
use Rattle.def_log.specs.Log.{log_of}
use Rattle.def_run.specs.CoreSteps.{forced_of}
use Rattle.def_step.specs.World as world
use Rattle.def_step.specs.World.{does, is_reached}
use Rattle.ic_disk.specs.Armings.{set_by}
use Rattle.ic_disk.specs.Disk.{CrashLeaves}
use Rattle.ic_disk.specs.Stops.{Script}
use Rattle.ic_disk.specs.TornDisks as disks
use Rattle.ic_disk.specs.TornDisks.{Torn}
use Rattle.ic_disk.specs.declared.disk.Disk.{Ghosts}
use Rattle.ic_pcom.specs.declared.step.PacketRefused.{PacketRefused}
use Rattle.ic_pcom.specs.declared.step.PacketRefused.TheVariants as packet
use Rattle.ic_gate.specs.RecordFiles.{IsBeforeOrBehind}
use Rattle.ic_node.specs.Calling.{call_of}
use Rattle.ic_node.specs.Cutting.{EndsBy}
use Rattle.ic_node.specs.DeviceCalls.{EndsWith, done_calls, is_done as ends_done, made_on, made_at}
use Rattle.ic_node.specs.Doing.{IsAllowed, Does, FailsToDo, would_force}
use Rattle.ic_node.specs.Ending.{IsDone, IsCut, FailsBy, FitsOrRests, CountsPlayed, refusal_of}
use Rattle.ic_node.specs.Meeting.{kept_disk, left_disk}
use Rattle.ic_node.specs.Nodes.{node_with, disk_in, read_of, told_of}
use Rattle.ic_node.specs.Sittings.{AreWritable}
use Rattle.ic_node.specs.Standing.{is_open, is_begun, com_in, owner_on}
use Rattle.ic_node.specs.Steps.{idle_answer, is_live, IsSameNode, StaysLive, HasForced, HoldsForced, IsStep, StepsOver, StepsOn, Counts, with_script, reached_on}
use Rattle.ic_disk.specs.Torns.{or_never, torn}
use Rattle.ic_node.specs.Views.{node_of, disk_of, file_of, com_of, is_over, Tells}
use Rattle.ic_node.specs.declared.component.Component.{Component}
use Rattle.ic_node.specs.declared.done.Call.{Call}
use Rattle.ic_node.specs.declared.done.Done.{Done}
use Rattle.ic_node.specs.declared.done.Ended.{Ended}
use Rattle.ic_node.specs.declared.done.Ended.TheVariants as ended
use Rattle.ic_node.specs.declared.done.NodeRefused.{NodeRefused}
use Rattle.ic_node.specs.declared.node.Node.{Node}
use Rattle.ic_disk.proofs.Armed.{works_runs, none_held, kept_by, crash_by}
use Rattle.ic_node.proofs.DeviceCalls.{same_made, made_so, reached_so}
use Rattle.ic_node.proofs.Cuts.{own_log, stood, told_on}
use Rattle.ic_node.proofs.Firsts.{node_works}
use Rattle.ic_node.proofs.LieDowns.{kept_so, left_so}
use Rattle.ic_node.proofs.Lying.{Stands}
use Rattle.ic_node.proofs.NodeEnds.{node_done, cut_by, fails_by}
use Rattle.ic_node.proofs.Steps.{live_here, live_open, live_disk, live_first, live_stands, disk_works, disk_settles, com_with}
use Rattle.ic_node.proofs.Until.{done_so, refused_so, rests_so}

pub same_twice : {D : Type 0} {d : Ghosts D} (x y z : Node D d) → IsSameNode x y → IsSameNode y z → IsSameNode x z
same_twice x y z one two = record {
  same = λ kept. two.same kept ∙ one.same kept;
  which = λ c. two.which c ∙ one.which c;
  begun = λ kept. two.begun kept ∙ one.begun kept;
  live = two.live ∙ one.live;
  fit = λ fit. two.fit (one.fit fit);
}

pub set_twice : {D : Type 0} (u v : Option Script) (o : Option (Torn D)) → with_script u (with_script v o) ≡ with_script u o
set_twice u v None = refl
set_twice u v (Some x) = refl

-- the node is armed as n1, makes the step to n2, and then n is the same but for its stop
module _ {D : Type 0} (b : Ghosts D) (program : Program) (old : Component (Torn D) (torn b)) (going : is_over old ≡ false) (number : ℕ) (call : Call) (stop : Option Stop) (busy : idle_answer (node_of old) number (call_of call) ≡ None)
    (n1 : Node (Torn D) (torn b)) (set : disk_in n1 ≡ with_script (Some (set_by (or_never stop))) (disk_of old)) (like : IsSameNode old.node n1)
    (n2 : Node (Torn D) (torn b)) (result : Result Done PacketRefused)
    (made : (c : ComId) (kept : List Record) → HoldsForced (torn b) (node_with kept n1) (disk_in n1) → StepsOn (torn b) program (com_in c n1) (node_with kept n1) (disk_in n1) number (call_of call) (node_with kept n2) (disk_in n2) result) where
  live : is_live old.node ≡ true
  live = live_here old.node old.kept number (call_of call) (old.opened going) busy

  here : (x : Torn D) × (disk_of old ≡ Some x)
  here = live_disk old.node live

  runs : here.0.stopped ≡ false
  runs = works_runs b here.0 (disk_works old.node here.0 here.1 (old.working going))

  held : here.0.held ≡ []
  held = none_held here.0.held _ (disk_settles old.node here.0 here.1 (old.settled going))

  -- its file holds the forced records
  holds : HoldsForced (torn b) (node_with old.kept n1) (disk_in n1)
  holds =
      subst (λ (o : Option (Torn D)). HoldsForced (torn b) (node_with old.kept n1) o) (sym (set ∙ ap (with_script (Some (set_by (or_never stop)))) here.1))
      (subst (λ (m : world.Node). HasForced (torn b) m (record here.0 { script = Some (set_by (or_never stop)) })) (sym (like.same old.kept))
      (λ told.
      let there : told_of (torn b) (disk_of old) = subst (told_of (torn b)) (sym here.1) told in
      ap (λ (o : Option (Torn D)). log_of (read_of (torn b) o)) (sym here.1) ∙ stood (torn b) old.node old.kept here.0 here.1 (old.whole going there) (old.on_disk going there)))

  there : (y : Torn D) × (disk_in n2 ≡ Some y) × StepsOver (torn b) program (com_of old) (node_of old) (record here.0 { script = Some (set_by (or_never stop)) }) number (call_of call) (node_with old.kept n2) y result
  there =
      by (disk_in n2) refl
      (subst (λ (o : Option (Torn D)). StepsOn (torn b) program (com_of old) (node_of old) o number (call_of call) (node_with old.kept n2) (disk_in n2) result) (set ∙ ap (with_script (Some (set_by (or_never stop)))) here.1)
      (subst (λ (m : world.Node). StepsOn (torn b) program (com_of old) m (disk_in n1) number (call_of call) (node_with old.kept n2) (disk_in n2) result) (like.same old.kept)
      (subst (λ (c : ComId). StepsOn (torn b) program c (node_with old.kept n1) (disk_in n1) number (call_of call) (node_with old.kept n2) (disk_in n2) result) (like.which (com_of old) ∙ ap com_with (old.which going)) (made (com_of old) old.kept holds))))
    where
      by : (o : Option (Torn D)) → disk_in n2 ≡ o → StepsOn (torn b) program (com_of old) (node_of old) (Some (record here.0 { script = Some (set_by (or_never stop)) })) number (call_of call) (node_with old.kept n2) o result
          → (y : Torn D) × (disk_in n2 ≡ Some y) × StepsOver (torn b) program (com_of old) (node_of old) (record here.0 { script = Some (set_by (or_never stop)) }) number (call_of call) (node_with old.kept n2) y result
      by (Some y) is step = (y, is, step)
      by None is step = absurd step

  module _ (n : Node (Torn D) (torn b)) (v : Option Script) (unset : disk_in n ≡ with_script v (disk_in n2)) (same : IsSameNode n2 n) where
    now : disk_in n ≡ Some (record there.0 { script = v })
    now = unset ∙ ap (with_script v) there.1

    pub step_keeps : kept_disk (torn b) (disk_of old) (disk_in n)
    step_keeps = kept_so (torn b) here.0 _ (disk_of old) (disk_in n) here.1 now (kept_by b here.0 _ there.0 _ (Some (set_by (or_never stop))) v refl refl there.2.disk)

    pub step_crash : left_disk (torn b) (disk_of old) (disk_in n) (IsBeforeOrBehind (file_of old) (forced_of (Some (node_of old))) (would_force program old number call))
    step_crash =
        left_so (torn b) here.0 _ (disk_of old) (disk_in n) _ here.1 now
        (subst (λ (f : List ℕ). CrashLeaves (torn b) here.0 (record there.0 { script = v }) (IsBeforeOrBehind f (forced_of (Some (node_of old))) (would_force program old number call))) (sym (ap (read_of (torn b)) here.1))
        (crash_by b here.0 _ there.0 _ (Some (set_by (or_never stop))) v _ refl refl there.2.crash))

    -- the steps that were counted
    pub step_counts : (m k : ℕ) → Counts m k (node_with old.kept n1) (node_with old.kept n2) result → Counts m k (node_of old) (node_with old.kept n) result
    step_counts m k counts =
        subst (λ (x : world.Node). Counts m k x (node_with old.kept n) result) (like.same old.kept)
        (subst (λ (x : world.Node). Counts m k (node_with old.kept n1) x result) (sym (same.same old.kept)) counts)

    -- the device calls that were made
    pub step_makes : (new : Component (Torn D) (torn b)) → new.node ≡ n → (r : Result Ended NodeRefused) → (ends_done r ≡ true → is_ok result ≡ true) → (r ≡ Ok ended.Cut → (result ≡ Err packet.Stopped) × (reached_on (disk_in n2) ≡ true)) → EndsWith program old stop number call new r
    step_makes new is r only cut =
        let from : made_at old ≡ here.0.made = ap (made_on (torn b)) here.1 in
        let to : made_at new ≡ there.0.made = ap (λ (k : Node (Torn D) (torn b)). made_on (torn b) (disk_in k)) is ∙ ap (made_on (torn b)) now in
        let made = made_so b program (com_of old) (node_of old) here.0 number (call_of call) stop there.0 (node_with old.kept n2) runs result there.2 in
        record {
          free = nat_lt there.2.used SLOTS;
          listed = λ told.
              ap (λ (k : ℕ). nat_lt k SLOTS) (there.2.listed (subst (told_of (torn b)) here.1 told))
              ∙ ap (λ (o : Option (Torn D)). nat_lt (length (slots_in (read_of (torn b) o))) SLOTS) (sym here.1);
          made = same_made (or_never stop) _ (is_ok result) (ends_done r) here.0.made there.0.made (made_at old) (made_at new) made only from to;
          cut = λ is_cut.
              let both = cut is_cut in
              reached_at both.0 (sym (ap reached_on there.1) ∙ both.1);
        }
      where
        reached_at : (e : result ≡ Err packet.Stopped) → disks.is_reached there.0.script ≡ true → is_reached stop (done_calls (node_of old) (does program (com_of old) (node_of old) number (call_of call)) (nat_lt there.2.used SLOTS)) ≡ true
        reached_at e hit = by result there.2 e
          where
            by : (t : Result Done PacketRefused) (over : StepsOver (torn b) program (com_of old) (node_of old) (record here.0 { script = Some (set_by (or_never stop)) }) number (call_of call) (node_with old.kept n2) there.0 t) → t ≡ Err packet.Stopped
                → is_reached stop (done_calls (node_of old) (does program (com_of old) (node_of old) number (call_of call)) (nat_lt over.used SLOTS)) ≡ true
            by (Ok done) over is = cc
            by (Err packet.Full) over is = cc
            by (Err packet.Memory) over is = cc
            by (Err packet.Failed) over is = cc
            by (Err (packet.Bad place)) over is = cc
            by (Err packet.Stopped) over is = reached_so b program (com_of old) (node_of old) here.0 number (call_of call) stop there.0 (node_with old.kept n2) runs hit over

    -- the step is made
    module _ (done : Done) (ok : result ≡ Ok done) (never : v ≡ Some (set_by (or_never None))) (may : IsAllowed stop) (stays : StaysLive n1 n2) where
      is_done : IsDone b program (com_of old) (node_of old) here.0 stop number (call_of call) (node_with old.kept n2) (record there.0 { script = v }) done
      is_done =
          subst (λ (u : Option Script). IsDone b program (com_of old) (node_of old) here.0 stop number (call_of call) (node_with old.kept n2) (record there.0 { script = u }) done) (sym never)
          (done_so b program (com_of old) (node_of old) here.0 number (call_of call) stop runs there.0 (node_with old.kept n2) done may
          (subst (λ (r : Result Done PacketRefused). StepsOver (torn b) program (com_of old) (node_of old) (record here.0 { script = Some (set_by (or_never stop)) }) number (call_of call) (node_with old.kept n2) there.0 r) ok there.2))

      stays_live : is_live n ≡ true
      stays_live = same.live ∙ stays.live

      pub step_open : is_open n ≡ true
      step_open = live_open n stays_live

      pub step_which : (com_in (com_of old) n).0 ≡ (com_of old).0
      step_which = ap (λ (k : ComId). k.0) (same.which (com_of old) ∙ stays.which (com_of old) ∙ like.which (com_of old)) ∙ old.which going

      step_owned : told_of (torn b) (disk_in n) → owner_on (torn b) (com_of old).0 (disk_in n) ≡ (com_of old).0
      step_owned told =
          let before : b.tells here.0.inner = there.2.disk.tells.1 (subst (told_of (torn b)) now told) in
          ap (owner_on (torn b) (com_of old).0) now ∙ (is_done.whose before).owner ∙ sym (ap (owner_on (torn b) (com_of old).0) here.1) ∙ old.owned going (subst (told_of (torn b)) (sym here.1) before)

      step_reads : told_of (torn b) (disk_in n) → log_of (read_of (torn b) (disk_in n)) ≡ Ok (forced_of (Some (node_with old.kept n)))
      step_reads told =
          let before : b.tells here.0.inner = there.2.disk.tells.1 (subst (told_of (torn b)) now told) in
          let step = subst (λ (r : Result Done PacketRefused). IfOk r (IsStep (torn b) program (com_of old) (node_of old) (record here.0 { script = Some (set_by (or_never stop)) }) number (call_of call) there.2.size (node_with old.kept n2) there.0)) ok there.2.step in
          ap (λ (o : Option (Torn D)). log_of (read_of (torn b) o)) now ∙ step.reads before ∙ ap (λ (k : world.Node). Ok (forced_of (Some k))) (sym (same.same old.kept))

      pub step_stands : Stands (torn b) (com_of old).0 n old.kept
      step_stands = live_stands (com_of old).0 n old.kept stays_live (node_works (torn b) n _ now is_done.works) step_owned step_reads

      pub step_begun : is_begun old.kept n ≡ true
      step_begun = same.begun old.kept ∙ stays.begun old.kept (like.begun old.kept ∙ old.begun going)

      pub step_fit : ∥ AreWritable n ∥₁
      step_fit = ∥∥₁_map stays.fit same.fit

      pub step_done : (new : Component (Torn D) (torn b)) → new.node ≡ n → new.kept ≡ old.kept → com_of new ≡ com_of old → is_over new ≡ false → Does program old stop number call new done
      step_done new is kept same_com over =
          let at : disk_of new ≡ Some (record there.0 { script = v }) = ap disk_in is ∙ now in
          let after : node_of new ≡ node_with old.kept n2 = ap (λ (k : Node (Torn D) (torn b)). node_with new.kept k) is ∙ ap (λ (ks : List Record). node_with ks n) kept ∙ same.same old.kept in
          let stands : log_of (read_of (torn b) (disk_in n)) ≡ Ok (forced_of (Some (node_with old.kept n))) → log_of (file_of new) ≡ Ok (forced_of (Some (node_of new))) = λ e.
          ap (λ (k : Node (Torn D) (torn b)). log_of (read_of (torn b) (disk_in k))) is ∙ e ∙ ap (λ (k : world.Node). Ok (forced_of (Some k))) (sym (ap (λ (k : Node (Torn D) (torn b)). node_with new.kept k) is ∙ ap (λ (ks : List Record). node_with ks n) kept)) in
          let here_too : Tells new → told_of (torn b) (disk_in n) = λ told. subst (λ (k : Node (Torn D) (torn b)). told_of (torn b) (disk_in k)) is told in
          node_done b program old new here.0 (record there.0 { script = v }) here.1 at going stop number call done over same_com
          (λ told. stands (stood (torn b) n old.kept _ now (step_stands.whole (here_too told)) (step_stands.on_disk (here_too told))))
          (λ told. subst (λ (k : Node (Torn D) (torn b)). told_of (torn b) (disk_in k)) (sym is) (told_on (torn b) (disk_of old) (disk_in n) step_keeps told))
          (λ print logs. own_log print (com_of old) (file_of old) old.node old.kept here.0 here.1 logs)
          (subst (λ (k : world.Node). IsDone b program (com_of old) (node_of old) here.0 stop number (call_of call) k (record there.0 { script = v }) done) (sym after) is_done)

    -- it is refused, or its stop cut it off
    module _ (why : PacketRefused) (err : result ≡ Err why) (none : v ≡ None) (hit : Bool) (reached : hit ≡ reached_on (disk_in n2)) (new : Component (Torn D) (torn b)) (is : new.node ≡ n) (kept : new.kept ≡ old.kept) (same_com : com_of new ≡ com_of old) where
      at : disk_of new ≡ Some (record there.0 { script = v })
      at = ap disk_in is ∙ now

      after : node_of new ≡ node_with old.kept n2
      after = ap (λ (k : Node (Torn D) (torn b)). node_with new.kept k) is ∙ ap (λ (ks : List Record). node_with ks n) kept ∙ same.same old.kept

      abbrev RestsAt : Option Script → world.Node → Type 0
      RestsAt u k = IfErr (refusal_of why hit) (λ w. FitsOrRests b program (com_of old) (node_of old) here.0 (call_of call) k (record there.0 { script = u }))

      rests : RestsAt v (node_of new)
      rests =
          subst (λ (k : world.Node). RestsAt v k) (sym after)
          (subst (λ (u : Option Script). RestsAt u (node_with old.kept n2)) (sym none)
          (rests_so b program (com_of old) (node_of old) here.0 number (call_of call) stop runs there.0 (node_with old.kept n2) why hit
          (subst (λ (r : Result Done PacketRefused). StepsOver (torn b) program (com_of old) (node_of old) (record here.0 { script = Some (set_by (or_never stop)) }) number (call_of call) (node_with old.kept n2) there.0 r) err there.2)))

      abbrev EndsAt : Option Script → world.Node → Type 0
      EndsAt u k =
          IfOk (refusal_of why hit) (λ e. (e ≡ ended.Cut) × IsCut b program (com_of old) (node_of old) here.0 stop number (call_of call) (record there.0 { script = u }))
          × IfErr (refusal_of why hit) (FailsBy b program (com_of old) (node_of old) here.0 (call_of call) k (record there.0 { script = u }))

      both : EndsAt v (node_of new)
      both =
          subst (λ (k : world.Node). EndsAt v k) (sym after)
          (subst (λ (u : Option Script). EndsAt u (node_with old.kept n2)) (sym none)
          (refused_so b program (com_of old) (node_of old) here.0 number (call_of call) stop runs there.0 (node_with old.kept n2) why hit (reached ∙ ap reached_on there.1) held
          (subst (λ (r : Result Done PacketRefused). StepsOver (torn b) program (com_of old) (node_of old) (record here.0 { script = Some (set_by (or_never stop)) }) number (call_of call) (node_with old.kept n2) there.0 r) err there.2)))

      pub step_cut : (r : Result Ended NodeRefused) → r ≡ refusal_of why hit → IfOk r (EndsBy b program old stop number call new)
      step_cut r is = subst (λ x. IfOk x (EndsBy b program old stop number call new)) (sym is) (cut_by b program old new here.0 (record there.0 { script = v }) here.1 at going stop number call (refusal_of why hit) (live_first program (com_of old) old.node old.kept live) same_com both.0)

      pub step_fails : (given : List ℕ) (r : Result Ended NodeRefused) → r ≡ refusal_of why hit → IfErr r (FailsToDo b program given old call new)
      step_fails given r is = subst (λ x. IfErr x (FailsToDo b program given old call new)) (sym is) (fails_by b program old new here.0 (record there.0 { script = v }) here.1 at going stop number call given (refusal_of why hit) both.1 rests)

-- no step is counted where the stop cut it off
pub cut_counts : (why : PacketRefused) (hit : Bool) (n m : ℕ) (before after : world.Node) (r : Result Ended NodeRefused) → r ≡ refusal_of why hit → Counts n m before after (Err why) → IfOk r (CountsPlayed n m before after)
cut_counts why hit n m before after r is counts = subst (λ x. IfOk x (CountsPlayed n m before after)) (sym is) (by why hit counts)
  where
    by : (w : PacketRefused) (h : Bool) → Counts n m before after (Err w) → IfOk (refusal_of w h) (CountsPlayed n m before after)
    by packet.Full h counts = tt
    by packet.Memory h counts = tt
    by packet.Failed h counts = tt
    by (packet.Bad place) h counts = tt
    by packet.Stopped true counts = counts
    by packet.Stopped false counts = tt

-- the same stop
pub stop_set : {D : Type 0} (o : Option (Torn D)) (n : Option (Torn D)) (s t : Stop) → s ≡ t → n ≡ with_script (Some (set_by s)) o → n ≡ with_script (Some (set_by t)) o
stop_set o n s t same set = set ∙ ap (λ (u : Stop). with_script (Some (set_by u)) o) same
