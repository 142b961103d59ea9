-- Each event and each takeover of a run with a standby outlasts a crash, over worlds.
use Rattle.std.proofs.Common.{◌≡◌, ◌∙◌, sym, ap, subst, refl, ℕ, suc, ◌+◌, true, false, List, [], ◌∷◌, ◌++◌, map, length, length-append, arith, Option, Some, None, ◌⊎◌, inl, inr}
use Rattle.std.proofs.lemmas.List.{append-nil}
use Rattle.std.proofs.lemmas.Option.{same_Some}
use Rattle.ic_base.specs.declared.events.What.{What}
use Rattle.ic_base.specs.declared.events.What.TheVariants.{Crash}
use Rattle.def_failover.specs.declared.note.Note.{Note}
use Rattle.def_run.specs.CoreSteps.{forced_of, is_full_at}
use Rattle.def_run.specs.Executions.{Agenda, Executes, whole_agenda}
use Rattle.def_run.specs.SystemStates.{SystemState, Transition, last_state, traces_of}
use Rattle.def_standby.specs.declared.orders.Order.{Order}
use Rattle.def_standby.specs.declared.orders.Order.TheVariants.{Ship, TakeOver, Run}
use Rattle.ic_disk.specs.TornDisks.{Torn}
use Rattle.ic_disk.specs.Torns.{torn}
use Rattle.ic_disk.specs.declared.disk.Disk as disk
use Rattle.ic_disk.specs.declared.sink.Sink as sink
use Rattle.ic_failover.proofs.Carried.{goes_behind}
use Rattle.ic_failover.proofs.Keeping.{others_keep}
use Rattle.ic_failover.proofs.Moments.{done-append, done-did, did-length, done-here, pieces-behind, pieces-did, none-there, SplitAt, split-did, only-there}
use Rattle.ic_failover.specs.Carrying.{Stage, Carries, CarriesAll, GoesOn, IsTold, intervals_for, telling_for, note_pieces}
use Rattle.ic_failover.specs.Moments.{Moment, Did, Noted, Took, taken, step_of, done_in, moment_pieces}
use Rattle.ic_failover.specs.Sides.{Beside}
use Rattle.ic_failover.specs.Taking.{Takes, TookOver}
use Rattle.ic_failover.specs.declared.texts.FailoverTexts.{FailoverTexts}
use Rattle.ic_node.specs.Views.{node_of, disk_of, file_of}
use Rattle.ic_report.proofs.Outputs.{puts_then, puts_nothing}
use Rattle.ic_report.specs.Outputs.{Puts}
use Rattle.ic_run.proofs.Lasting.{keeps-self, fits-at, between-next, between-now}
use Rattle.ic_run.proofs.More.{last-behind}
use Rattle.ic_run.proofs.Onward.{keeps-then, crash-then, cut-of, outlasts-first, outlasts-second}
use Rattle.ic_run.proofs.Ways.{none-added, left-weaker}
use Rattle.ic_run.proofs.Worlds.{tells-on, way-rests, crash-taken}
use Rattle.ic_run.specs.Running.{all_pieces, lines_behind, KeepsAll, CrashLeavesWay, IsBetween, Outlasts, AllOutlast, Executed}
use Rattle.ic_run.specs.declared.tally.Tally.{Tally}
use Rattle.ic_work.specs.declared.work.Work.TheVariants.{Crashes}
use Rattle.ic_world.proofs.Crashes.{disks-asked}
use Rattle.ic_world.specs.Acting.{KeepsOthers}
use Rattle.ic_world.specs.Stepping.{KeepsDisks, CrashLeavesLogs, adds_at}
use Rattle.ic_world.specs.TakingOver.{CrashLeavesThem}
use Rattle.ic_world.specs.Views.{state_of, print_of, is_over, Tells}
use Rattle.ic_world.specs.declared.world.World.{World}

module _ {D : Type 0} {d : disk.Ghosts D} {K : Type 0} (k : sink.Ghosts K) (r : FailoverTexts) where
  -- each transition among these moments outlasts a crash, with the pieces of the moments before it
  abbrev pub EachOutlasts : ℕ → World D d → World D d → K → List Moment → Option What → Type 0
  EachOutlasts number old new before moments tried =
      (us ws : List Moment) (m : Moment) (v : Transition) → moments ≡ us ++ m ∷ ws → step_of r.who m ≡ Some v → Outlasts k r.program (moment_pieces r (suc number) us) old new before (done_in r.who us) v (done_in r.who ws) tried

  -- none of these passes a limit, where the disks tell
  abbrev pub EachFits : World D d → List Transition → Type 0
  EachFits old vs = Tells old → (us ws : List Transition) (v : Transition) → vs ≡ us ++ v ∷ ws → is_full_at r.program (last_state (state_of old) us) v.trace.event.what ≡ false

  -- What a crash leaves on the way through these moments, with the number of what was told before them: the disks are kept, and each
  -- transition outlasts a crash.
  pub record Lasts (number : ℕ) (old new : World D d) (before : K) (moments : List Moment) (tried : Option What) : Type 0 where
    pub disks : KeepsAll old new
    pub crash : CrashLeavesWay r.program old (done_in r.who moments) tried new
    pub outlast : EachOutlasts number old new before moments tried
    pub fits : EachFits old (done_in r.who moments)

  -- they led from one world to another, and were told
  pub record Passed (number : ℕ) (old new : World D d) (before after : K) (moments : List Moment) : Type 0 where
    pub lasts : Lasts number old new before moments None
    pub ends : last_state (state_of old) (done_in r.who moments) ≡ state_of new
    pub printed : Puts k (moment_pieces r (suc number) moments) before after

  -- transitions alone
  pub each-did : (number : ℕ) (old new : World D d) (before : K) (vs : List Transition) (tried : Option What) → AllOutlast k r.program (lines_behind (telling_for r) number) old new before vs tried → EachOutlasts number old new before (map Did vs) tried
  each-did number old new before vs tried all us ws m v is step =
      let s : SplitAt vs us ws v = split-did r.who vs us ws m v is step in
      let told : List (List ℕ) = all_pieces (telling_for r) (suc number) (traces_of s.front) in
      let pieces : moment_pieces r (suc number) us ≡ told = ap (moment_pieces r (suc number)) s.before ∙ pieces-did r (suc number) s.front in
      let front : done_in r.who us ≡ s.front = ap (done_in r.who) s.before ∙ done-did r.who s.front in
      let back : done_in r.who ws ≡ s.back = ap (done_in r.who) s.behind ∙ done-did r.who s.back in
      subst (λ (z : List (List ℕ)). Outlasts k r.program z old new before (done_in r.who us) v (done_in r.who ws) tried) (sym pieces)
      (subst (λ (z : List Transition). Outlasts k r.program told old new before z v (done_in r.who ws) tried) (sym front)
      (subst (λ (z : List Transition). Outlasts k r.program told old new before s.front v z tried) (sym back) (all s.front s.back v s.are)))

  -- of an execution
  pub lasts-did : (number : ℕ) (agenda left : Agenda) (old new : World D d) (before : K) (vs : List Transition) (tried : Option What) → (Tells old → Executes r.program (print_of old) (intervals_for r) agenda (state_of old) vs left) → KeepsAll old new → CrashLeavesWay r.program old vs tried new
      → AllOutlast k r.program (lines_behind (telling_for r) number) old new before vs tried → Lasts number old new before (map Did vs) tried
  lasts-did number agenda left old new before vs tried runs keeps way all =
      let W : List Transition → Type 0 = λ l. CrashLeavesWay r.program old l tried new in
      let same = sym (done-did r.who vs) in
      record {
        disks = keeps;
        crash = subst W same way;
        outlast = each-did number old new before vs tried all;
        fits = subst (λ l. EachFits old l) same (λ tells us ws v is. fits-at r.program (print_of old) (intervals_for r) agenda left (state_of old) us v ws (subst (λ (l : List Transition). Executes r.program (print_of old) (intervals_for r) agenda (state_of old) l left) is (runs tells)));
      }

  -- an event with what the policy asks for, or what settles
  pub passed-run : (was tally : Tally) (agenda : Agenda) (old new : World D d) (before after : K) → (x : Executed k r.program (intervals_for r) (telling_for r) was agenda old new before after tally) → Passed was.events old new before after (map Did x.transitions)
  passed-run was tally agenda old new before after x =
      let vs : List Transition = x.transitions in
      let E : List Transition → Type 0 = λ l. last_state (state_of old) l ≡ state_of new in
      record {
        lasts = lasts-did was.events agenda x.agenda old new before vs None x.goes.executes x.goes.disks x.goes.crash x.outlast;
        ends = subst E (sym (done-did r.who vs)) x.goes.ends;
        printed = subst (λ ps. Puts k ps before after) (sym (pieces-did r (suc was.events) vs)) x.printed;
      }

  module _ (number : ℕ) (old mid new : World D d) (before now : K) (ms ns : List Moment) (tried : Option What) (p : Passed number old mid before now ms) (q : Lasts (number + length ms) mid new now ns tried) where
    each-then : EachOutlasts number old new before (ms ++ ns) tried
    each-then us ws m v is step = by (cut-of ms ns us ws m is)
      where
        by : ((rest : List Moment) × (ms ≡ us ++ m ∷ rest) × (ws ≡ rest ++ ns)) ⊎ ((rest : List Moment) × (us ≡ ms ++ rest) × (ns ≡ rest ++ m ∷ ws)) → Outlasts k r.program (moment_pieces r (suc number) us) old new before (done_in r.who us) v (done_in r.who ws) tried
        by (inl l) =
            let cut : done_in r.who ms ≡ done_in r.who us ++ v ∷ done_in r.who l.0 = ap (done_in r.who) l.1 ∙ done-append r.who us (m ∷ l.0) ∙ ap (λ vs. done_in r.who us ++ vs) (done-here r.who m v l.0 step) in
            subst (λ (z : List Transition). Outlasts k r.program (moment_pieces r (suc number) us) old new before (done_in r.who us) v z tried) (sym (ap (done_in r.who) l.2 ∙ done-append r.who l.0 ns))
            (outlasts-first r.program old mid new (done_in r.who ms) (done_in r.who ns) tried p.ends p.lasts.disks q.disks q.crash k (moment_pieces r (suc number) us) before (done_in r.who us) (done_in r.who l.0) v cut (p.lasts.outlast us l.0 m v l.1 step))
        by (inr y) =
            let same : suc number + length ms ≡ suc (number + length ms) = omega arith in
            let front : List (List ℕ) = moment_pieces r (suc number) ms in
            let back : List (List ℕ) = moment_pieces r (suc (number + length ms)) y.0 in
            let pieces : moment_pieces r (suc number) us ≡ front ++ back =
            ap (moment_pieces r (suc number)) y.1 ∙ pieces-behind r (suc number) ms y.0 ∙ ap (λ n. front ++ moment_pieces r n y.0) same in
            subst (λ (z : List (List ℕ)). Outlasts k r.program z old new before (done_in r.who us) v (done_in r.who ws) tried) (sym pieces)
            (subst (λ (z : List Transition). Outlasts k r.program (front ++ back) old new before z v (done_in r.who ws) tried) (sym (ap (done_in r.who) y.1 ∙ done-append r.who ms y.0))
            (outlasts-second r.program old mid new (done_in r.who ms) (done_in r.who ns) tried p.ends p.lasts.disks q.disks q.crash k back before (done_in r.who y.0) (done_in r.who ws) v front now p.printed (q.outlast y.0 ws m v y.2 step)))

    -- none of them passes a limit
    fits-then : EachFits old (done_in r.who (ms ++ ns))
    fits-then tells us ws v is = by (cut-of (done_in r.who ms) (done_in r.who ns) us ws v (sym (done-append r.who ms ns) ∙ is))
      where
        by : ((rest : List Transition) × (done_in r.who ms ≡ us ++ v ∷ rest) × (ws ≡ rest ++ done_in r.who ns)) ⊎ ((rest : List Transition) × (us ≡ done_in r.who ms ++ rest) × (done_in r.who ns ≡ rest ++ v ∷ ws)) → is_full_at r.program (last_state (state_of old) us) v.trace.event.what ≡ false
        by (inl l) = p.lasts.fits tells us l.0 v l.1
        by (inr y) =
            let F : SystemState → Type 0 = λ s. is_full_at r.program s v.trace.event.what ≡ false in
            let there : last_state (state_of old) us ≡ last_state (state_of mid) y.0 =
            ap (last_state (state_of old)) y.1 ∙ last-behind (state_of old) (done_in r.who ms) y.0 ∙ ap (λ (s : SystemState). last_state s y.0) p.ends in
            subst F (sym there) (q.fits (tells-on old mid p.lasts.disks tells) y.0 ws v y.2)

    -- moments behind these
    pub lasts-then : Lasts number old new before (ms ++ ns) tried
    lasts-then =
        let W : List Transition → Type 0 = λ l. CrashLeavesWay r.program old l tried new in
        record {
          disks = keeps-then old mid new p.lasts.disks q.disks;
          crash = subst W (sym (done-append r.who ms ns)) (crash-then r.program old mid new (done_in r.who ms) (done_in r.who ns) tried p.ends p.lasts.disks p.lasts.crash q.crash);
          outlast = each-then;
          fits = fits-then;
        }

  pub passed-then : (number : ℕ) (old mid new : World D d) (before now after : K) (ms ns : List Moment) → Passed number old mid before now ms → Passed (number + length ms) mid new now after ns → Passed number old new before after (ms ++ ns)
  passed-then number old mid new before now after ms ns p q =
      let E : List Transition → Type 0 = λ l. last_state (state_of old) l ≡ state_of new in
      let same : suc number + length ms ≡ suc (number + length ms) = omega arith in
      let front : List (List ℕ) = moment_pieces r (suc number) ms in
      record {
        lasts = lasts-then number old mid new before now ms ns None p q.lasts;
        ends = subst E (sym (done-append r.who ms ns)) (last-behind (state_of old) (done_in r.who ms) (done_in r.who ns) ∙ ap (λ (s : SystemState). last_state s (done_in r.who ns)) p.ends ∙ q.ends);
        printed =
            subst (λ ps. Puts k ps before after) (sym (pieces-behind r (suc number) ms ns ∙ ap (λ n. front ++ moment_pieces r n ns) same))
            (puts_then k front (moment_pieces r (suc (number + length ms)) ns) before now after p.printed q.printed);
      }

-- a takeover, as it changes the disks of a world
module _ {D : Type 0} {d : disk.Ghosts D} (r : FailoverTexts) (old new : World D d) where
  pub over-disks : KeepsOthers old r.who new → KeepsDisks old (Crash r.who) new
  over-disks others = disks-asked old old new (Crash r.who) r.who Crashes refl refl refl others

  -- a crash within it leaves what is there
  pub over-logs : CrashLeavesThem old new → CrashLeavesLogs r.program old (Crash r.who) new
  over-logs them c x y at now = left-weaker d (disk_of x) (disk_of y) _ _ (λ image h. none-added (file_of x) (forced_of (Some (node_of x))) (adds_at r.program (state_of old) (Crash r.who) c) image h) (them c.0 x y at now)

module _ {D : Type 0} (b : disk.Ghosts D) (only_now : (disk : D) (image : List ℕ) → b.keeps disk → b.left_since disk (b.moment disk) image → b.may_leave disk image) (tells : (disk : D) → b.keeps disk → b.tells disk) {K : Type 0} (k : sink.Ghosts K) (r : FailoverTexts) where
  rests : (w : World (Torn D) (torn b)) → is_over w ≡ false → CrashLeavesWay r.program w [] None w
  rests w going = way-rests b only_now tells r.program w (w.placed going)

  -- at a world where nothing is done
  pub lasts-none : (number : ℕ) (w : World (Torn D) (torn b)) (out : K) → is_over w ≡ false → Lasts k r number w w out [] None
  lasts-none number w out going = record { disks = keeps-self w; crash = rests w going; outlast = λ us ws m v is step. absurd (none-there us ws m is); fits = λ told us ws v is. absurd (none-there us ws v is) }

  -- an order that is answered with no step
  passed-noted : (o : Order) (note : Note) (a m : Stage (torn b) K) → GoesOn r a.world → m.world ≡ a.world → IsTold k r o note a m → Passed k r a.tally.events a.world m.world a.out m.out (Noted o note ∷ [])
  passed-noted o note a m go same t =
      let L : World (Torn D) (torn b) → Type 0 = λ w. Lasts k r a.tally.events a.world w a.out (Noted o note ∷ []) None in
      record {
        lasts = subst L (sym same) (record {
          disks = keeps-self a.world;
          crash = rests a.world go.going;
          outlast = λ us ws n v is step. absurd (none v (sym (ap (step_of r.who) (only-there (Noted o note) n us ws is).1) ∙ step));
          fits = λ told us ws v is. absurd (none-there us ws v is);
        });
        ends = ap (λ w. state_of w) (sym same);
        printed = subst (λ ps. Puts k ps a.out m.out) (sym (append-nil (note_pieces r.policy.report (suc a.tally.events) o note))) t.printed;
      }
    where
      none : (v : Transition) → ◌≡◌ {A = Option Transition} None (Some v) → ⊥
      none v e = cc e

  -- a takeover
  module _ (number played : ℕ) (note : Note) (old new : World (Torn D) (torn b)) (out : K) (x y : Beside) (go : GoesOn r old) (over : TookOver r.program r.who old new x played y) where
    abbrev step-taken : Transition
    step-taken = taken r.who (state_of new)

    took-disks : KeepsDisks old (Crash r.who) new
    took-disks = over-disks r old new over.others

    took-logs : CrashLeavesLogs r.program old (Crash r.who) new
    took-logs = over-logs r old new over.crash

    took-tried : IsBetween r.program old new [] [] (Some (Crash r.who)) old
    took-tried = between-next r.program old old new [] (Crash r.who) refl (keeps-self old) go.made go.going took-disks took-logs

    took-crash : CrashLeavesWay r.program old (step-taken ∷ []) None new
    took-crash = crash-taken r.program old new [] step-taken took-tried.crash

    took-here : Outlasts k r.program [] old new out [] step-taken [] None
    took-here = record {
      was = old;
      held = new;
      told = out;
      before_it = record { state = refl; disks = keeps-self old; later = took-tried.later; made = go.made; going = go.going; durable = took-tried.durable; crash = took-crash };
      behind_it = between-now r.program old old new (step-taken ∷ []) refl (others_keep old new r.who over.others) over.takes.made over.takes.going (rests new over.takes.going);
      printed = puts_nothing k out;
      disks = took-disks;
      within = took-logs;
    }

    took-outlasts : (us ws : List Moment) (n : Moment) (v : Transition) → us ≡ [] → n ≡ Took note (state_of new) → ws ≡ [] → step_of r.who n ≡ Some v → Outlasts k r.program (moment_pieces r (suc number) us) old new out (done_in r.who us) v (done_in r.who ws) None
    took-outlasts us ws n v one two three step =
        let same : step-taken ≡ v = same_Some step-taken v (sym (ap (step_of r.who) two) ∙ step) in
        subst (λ (z : List Moment). Outlasts k r.program (moment_pieces r (suc number) z) old new out (done_in r.who z) v (done_in r.who ws) None) (sym one)
        (subst (λ (z : List Moment). Outlasts k r.program [] old new out [] v (done_in r.who z) None) (sym three) (subst (λ (z : Transition). Outlasts k r.program [] old new out [] z [] None) same took-here))

    pub lasts-took : Lasts k r number old new out (Took note (state_of new) ∷ []) None
    lasts-took = record {
      disks = others_keep old new r.who over.others;
      crash = took-crash;
      outlast = λ us ws n v is step. let z = only-there (Took note (state_of new)) n us ws is in took-outlasts us ws n v z.0 z.1 z.2 step;
      fits = λ told us ws v is. subst (λ (z : Transition). is_full_at r.program (last_state (state_of old) us) z.trace.event.what ≡ false) (sym (only-there step-taken v us ws is).1) refl;
    }

  passed-took : (played : ℕ) (note : Note) (a m : Stage (torn b) K) → GoesOn r a.world → TookOver r.program r.who a.world m.world a.beside played m.beside → IsTold k r TakeOver note a m → Passed k r a.tally.events a.world m.world a.out m.out (Took note (state_of m.world) ∷ [])
  passed-took played note a m go over t = record {
    lasts = lasts-took a.tally.events played note a.world m.world a.out a.beside m.beside go over;
    ends = refl;
    printed = subst (λ ps. Puts k ps a.out m.out) (sym (append-nil (note_pieces r.policy.report (suc a.tally.events) TakeOver note))) t.printed;
  }

  -- an order, and how many numbers it takes
  pub record OrderPassed (o : Order) (a m : Stage (torn b) K) : Type 0 where
    pub moments : List Moment
    pub passed : Passed k r a.tally.events a.world m.world a.out m.out moments
    pub numbered : m.tally.events ≡ a.tally.events + length moments

  pub order-passed : (o : Order) (a m : Stage (torn b) K) → GoesOn r a.world → Carries k r o a m → OrderPassed o a m
  order-passed (Run e) a m go c =
      let x = c.executed in
      record { moments = map Did x.transitions; passed = passed-run k r a.tally m.tally (whole_agenda (e ∷ []) true) a.world m.world a.out m.out x; numbered = x.numbered ∙ ap (λ n. a.tally.events + n) (sym (did-length x.transitions)) }
  order-passed Ship a m go c = record { moments = Noted Ship c.0 ∷ []; passed = passed-noted Ship c.0 a m go c.1.acts.0 c.1; numbered = omega (arith, c.1.numbered) }
  order-passed TakeOver a m go c = by c.1.acts
    where
      by : Takes r.program r.who a.world a.beside c.0 m.world m.beside → OrderPassed TakeOver a m
      by (inl t) = record { moments = Noted TakeOver c.0 ∷ []; passed = passed-noted TakeOver c.0 a m go t.0 c.1; numbered = omega (arith, c.1.numbered) }
      by (inr t) = record { moments = Took c.0 (state_of m.world) ∷ []; passed = passed-took t.0 c.0 a m go t.2 c.1; numbered = omega (arith, c.1.numbered) }

  -- all of them
  pub record AllPassed (a m : Stage (torn b) K) : Type 0 where
    pub moments : List Moment
    pub passed : Passed k r a.tally.events a.world m.world a.out m.out moments
    pub numbered : m.tally.events ≡ a.tally.events + length moments
    pub goes : GoesOn r m.world

  none-passed : (a : Stage (torn b) K) → GoesOn r a.world → AllPassed a a
  none-passed a go = record {
    moments = [];
    passed = record { lasts = lasts-none a.tally.events a.world a.out go.going; ends = refl; printed = puts_nothing k a.out };
    numbered = omega arith;
    goes = go;
  }

  pub all-passed : (os : List Order) (a m : Stage (torn b) K) → GoesOn r a.world → CarriesAll k r os a m → AllPassed a m
  all-passed [] a m go same = subst (λ z. AllPassed a z) same (none-passed a go)
  all-passed (o ∷ os) a m go c =
      let x = order-passed o a c.0 go c.1 in
      let y = all-passed os c.0 m (goes_behind k r a c.0 o c.1 go) c.2 in
      record {
        moments = x.moments ++ y.moments;
        passed = passed-then k r a.tally.events a.world c.0.world m.world a.out c.0.out m.out x.moments y.moments x.passed (subst (λ n. Passed k r n c.0.world m.world c.0.out m.out y.moments) x.numbered y.passed);
        numbered = omega (arith, x.numbered, y.numbered, length-append x.moments y.moments);
        goes = y.goes;
      }
