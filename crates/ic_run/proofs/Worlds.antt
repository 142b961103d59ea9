-- A run goes one event further.
use Rattle.std.proofs.Common.{◌≡◌, ◌∙◌, sym, ap, subst, refl, ℕ, zero, suc, ◌+◌, ◌<◌, ◌≤◌, min, false, cond, List, [], ◌∷◌, ◌++◌, length, arith, Some, None, option_map}
use Rattle.std.specs.Prelude.{slice_get}
use Rattle.std.proofs.lemmas.Option.{same_Some}
use Rattle.ic_base.specs.declared.messages.ComId.{ComId}
use Rattle.ic_base.specs.declared.events.Trace.{Trace}
use Rattle.ic_base.specs.declared.events.What.{What}
use Rattle.ic_base.specs.declared.scenario.Program.{Program}
use Rattle.def_run.specs.CoreSteps.{CoreStep}
use Rattle.def_run.specs.Executions as executions
use Rattle.def_run.specs.Executions.{Executes, next, agenda_behind, received_in}
use Rattle.def_run.specs.Reports.{played_in, played_by_all}
use Rattle.def_run.specs.SystemStates.{SystemState, Transition, last_state, is_com}
use Rattle.def_step.specs.Calls.{receives}
use Rattle.def_step.specs.Settle.{PolicyIntervals}
use Rattle.def_step.specs.World.{happens}
use Rattle.ic_disk.specs.TornDisks.{Torn}
use Rattle.ic_disk.specs.declared.disk.Disk.{Ghosts}
use Rattle.ic_run.specs.Advancing.{AdvancesBy}
use Rattle.ic_run.specs.Agendas.{agenda_of}
use Rattle.ic_run.specs.Running.{Follows, IsOnWay, AsksNone, CrashLeavesWay, KeepsAll, Goes}
use Rattle.ic_run.specs.declared.agenda.Agenda.{Agenda}
use Rattle.ic_node.specs.Meeting.{KeepsDisk, left_disk}
use Rattle.ic_disk.specs.Torns.{torn}
use Rattle.ic_node.specs.Views.{disk_of}
use Rattle.ic_node.specs.declared.component.Component.{Component}
use Rattle.ic_world.proofs.Crashes.{component-rests}
use Rattle.ic_world.proofs.Lists.{get-within}
use Rattle.ic_world.specs.Acting.{GREATEST}
use Rattle.ic_world.specs.Allowing.{IsMadeFor}
use Rattle.ic_world.specs.Standing.{ArePlaced}
use Rattle.ic_world.specs.Stepping.{KeepsDisks, CrashLeavesLogs, asked_by}
use Rattle.ic_world.specs.Views.{components_of, world_of, state_of, print_of, received_of, played_of, is_over, Tells}
use Rattle.ic_world.specs.declared.world.World.{World}
use Rattle.ic_run.proofs.More.{last-more, executes-more, follows-more, received-more, played-more, asks-more}
use Rattle.ic_run.proofs.Ways.{way-further, way-taken, way-at, kept-then, kept-same, told-behind, left-weaker, left-then}

-- what stands at a place within a list
pub get-there : {X : Type 0} (xs : List X) (i : ℕ) → i < length xs → (x : X) × (slice_get xs i ≡ Some x)
get-there [] i l = absurd (omega arith)
get-there (x ∷ xs) zero l = (x, refl)
get-there (x ∷ xs) (suc i) l = get-there xs i (omega arith)

-- a number that stands still at the greatest
pub still-more : (n m k x y most : ℕ) → m ≡ min (n + x) most → k ≡ min (m + y) most → k ≡ min (n + (x + y)) most
still-more n m k x y most first second = omega (arith, first, second)

module _ {D : Type 0} {d : Ghosts D} where
  -- the component at the same place of a world with as many
  pub between : (old mid : World D d) (k : ℕ) (x : Component D d) → length (components_of mid) ≡ length (components_of old) → slice_get (components_of old) k ≡ Some x → (y : Component D d) × (slice_get (components_of mid) k ≡ Some y)
  between old mid k x count at = get-there (components_of mid) k (omega (arith, count, get-within (components_of old) k x at))

  pub tells-on : (old mid : World D d) → KeepsAll old mid → Tells old → Tells mid
  tells-on old mid keeps tells k y at =
      let x = get-there (components_of old) k (omega (arith, keeps.count, get-within (components_of mid) k y at)) in
      told-behind d (disk_of x.0) (disk_of y) (keeps.kept k x.0 y x.1 at) (tells k x.0 x.1)

  pub keeps-more : (old mid new : World D d) (what : What) → KeepsAll old mid → KeepsDisks mid what new → KeepsAll old new
  keeps-more old mid new what first second = record {
    print = second.print ∙ first.print;
    count = second.count ∙ first.count;
    kept = λ k x y at now.
        let z = between old mid k x first.count at in
        kept-then d (disk_of x) (disk_of z.0) (disk_of y) (first.kept k x z.0 at z.1) (second.kept k z.0 y z.1 now);
  }

  -- a crash on the way, or within the event that is tried behind it
  pub crash-further : (program : Program) (old mid new : World D d) (vs : List Transition) (what : What) → last_state (state_of old) vs ≡ state_of mid → KeepsAll old mid → CrashLeavesWay program old vs None mid → CrashLeavesLogs program mid what new → CrashLeavesWay program old vs (Some what) new
  crash-further program old mid new vs what ends keeps first second c x y at now =
      let z = between old mid c.0 x keeps.count at in
      left-then d (disk_of x) (disk_of z.0) (disk_of y) (IsOnWay program (state_of old) vs (Some what) c) (keeps.kept c.0 x z.0 at z.1)
      (left-weaker d (disk_of x) (disk_of z.0) (IsOnWay program (state_of old) vs None c) (IsOnWay program (state_of old) vs (Some what) c) (λ image h. way-further program (state_of old) vs c image what h) (first c x z.0 at z.1))
      (left-weaker d (disk_of z.0) (disk_of y) _ (IsOnWay program (state_of old) vs (Some what) c) (λ image h. way-at program mid c z.0 z.1 (state_of old) vs (Some what) image ends h) (second c z.0 y z.1 now))

  pub crash-taken : (program : Program) (old new : World D d) (vs : List Transition) (v : Transition) → CrashLeavesWay program old vs (Some v.trace.event.what) new → CrashLeavesWay program old (vs ++ v ∷ []) None new
  crash-taken program old new vs v way c x y at now =
      left-weaker d (disk_of x) (disk_of y) (IsOnWay program (state_of old) vs (Some v.trace.event.what) c) (IsOnWay program (state_of old) (vs ++ v ∷ []) None c) (λ image h. way-taken program (state_of old) vs c image v h) (way c x y at now)

  module _ (program : Program) (x : PolicyIntervals) (a : executions.Agenda) (old mid new : World D d) (vs : List Transition) (one two : Agenda) (t : Trace) (g : Goes program x a old vs (agenda_of one) mid) (by : AdvancesBy program x one two mid new t) where
    abbrev pub transition : Transition
    transition = record { trace = t; state = state_of new }

    others-more : (c : ComId) → AsksNone c (state_of old) (vs ++ transition ∷ []) → (k m : Component D d) → slice_get (components_of old) c.0 ≡ Some k → slice_get (components_of new) c.0 ≡ Some m → disk_of m ≡ disk_of k
    others-more c none k m at now =
        let asks = asks-more c (state_of old) vs transition none in
        let z = between old mid c.0 k g.disks.count at in
        let P : SystemState → Type 0 = λ s. is_com c (asked_by s.world t.event.what) ≡ false in
        let same = by.disks.others c (subst P g.ends asks.1) in
        same_Some (disk_of m) (disk_of z.0) (sym (ap (option_map (λ y. disk_of y)) now) ∙ same ∙ ap (option_map (λ y. disk_of y)) z.1)
        ∙ g.others c asks.0 k z.0 at z.1

    executes-further : Tells old → Executes program (print_of old) x a (state_of old) (vs ++ transition ∷ []) (agenda_of two)
    executes-further tells =
        let P : SystemState → Type 0 = λ s. next s.world x (agenda_of one) ≡ Some (record { event = t.event; left = by.left }) in
        let Q : SystemState → Type 0 = λ s. CoreStep program (print_of old) s t.event t (state_of new) in
        let R : List ℕ → Type 0 = λ print. CoreStep program print (state_of mid) t.event t (state_of new) in
        executes-more program (print_of old) x a (state_of old) vs (agenda_of one) transition by.left (agenda_of two) (g.executes tells) (subst P (sym g.ends) by.next)
        (subst Q (sym g.ends) (subst R g.disks.print (by.steps.core (tells-on old mid g.disks tells)))) (sym by.behind)

    follows-further : Follows program x a (state_of old) (vs ++ transition ∷ []) (agenda_of two)
    follows-further =
        let P : SystemState → Type 0 = λ s. next s.world x (agenda_of one) ≡ Some (record { event = t.event; left = by.left }) in
        let Q : SystemState → Type 0 = λ s. happens program s.world t.event by.steps.outcome ≡ Some (record { world = world_of new; trace = t }) in
        follows-more program x a (state_of old) vs (agenda_of one) transition by.left by.steps.outcome (agenda_of two) g.follows (subst P (sym g.ends) by.next) (subst Q (sym g.ends) by.steps.happens) (sym by.behind)

    received-further : received_of new ≡ received_of old + received_in program (state_of old) (vs ++ transition ∷ [])
    received-further =
        let P : SystemState → ℕ = λ s. cond (receives program s.world t.event.what) 1 0 in
        omega (arith, by.steps.received, g.received, received-more program (state_of old) vs transition, ap P g.ends)

    played-further : played_of new ≡ min (played_of old + played_in (state_of old) (vs ++ transition ∷ [])) GREATEST
    played-further =
        let P : SystemState → ℕ = λ s. played_by_all s.world.nodes (world_of new).nodes in
        let more : played_in (state_of old) (vs ++ transition ∷ []) ≡ played_in (state_of old) vs + played_by_all (world_of mid).nodes (world_of new).nodes = played-more (state_of old) vs transition ∙ ap (λ n. played_in (state_of old) vs + n) (ap P g.ends) in
        still-more (played_of old) (played_of mid) (played_of new) (played_in (state_of old) vs) (played_by_all (world_of mid).nodes (world_of new).nodes) GREATEST g.played by.steps.played
        ∙ ap (λ n. min (played_of old + n) GREATEST) (sym more)

    pub goes-further : Goes program x a old (vs ++ transition ∷ []) (agenda_of two) new
    goes-further = record {
      executes = executes-further;
      follows = follows-further;
      ends = last-more (state_of old) vs transition;
      disks = keeps-more old mid new t.event.what g.disks by.disks;
      others = others-more;
      crash = crash-taken program old new vs transition (crash-further program old mid new vs t.event.what g.ends g.disks g.crash by.crash);
      received = received-further;
      played = played-further;
      made = by.steps.made;
      going = by.steps.going;
    }

-- at its beginning ----------------------------------------------------------------------------------

module _ {D : Type 0} (b : Ghosts D) (only_now : (disk : D) (image : List ℕ) → b.keeps disk → b.left_since disk (b.moment disk) image → b.may_leave disk image) (tells : (disk : D) → b.keeps disk → b.tells disk) where
  -- a crash between two events
  pub way-rests : (program : Program) (w : World (Torn D) (torn b)) → ArePlaced (components_of w) → CrashLeavesWay program w [] None w
  way-rests program w placed c y z at now =
      let P : Component (Torn D) (torn b) → Type 0 = λ v. left_disk (torn b) (disk_of y) (disk_of v) (IsOnWay program (state_of w) [] None c) in
      subst P (same_Some y z (sym at ∙ now))
      (left-weaker (torn b) (disk_of y) (disk_of y) _ (IsOnWay program (state_of w) [] None c) (λ image h. way-at program w c y at (state_of w) [] None image refl h) (component-rests b only_now tells y [] (placed c.0 y at).1))

  pub goes-nowhere : (program : Program) (x : PolicyIntervals) (a : executions.Agenda) (w : World (Torn D) (torn b)) → IsMadeFor program (world_of w) → is_over w ≡ false → ArePlaced (components_of w) → played_of w ≤ GREATEST → Goes program x a w [] a w
  goes-nowhere program x a w made going placed few = record {
    executes = λ told. refl;
    follows = refl;
    ends = refl;
    disks = record { print = refl; count = refl; kept = λ k y z at now. kept y z (same_Some y z (sym at ∙ now)) };
    others = λ c none y z at now. ap (λ v. disk_of v) (same_Some z y (sym now ∙ at));
    crash = way-rests program w placed;
    received = omega arith;
    played = omega (arith, few);
    made = made;
    going = going;
  }
    where
      kept : (y z : Component (Torn D) (torn b)) → y ≡ z → KeepsDisk y z
      kept y z same = let P : Component (Torn D) (torn b) → Type 0 = λ v. KeepsDisk y v in subst P same (kept-same (torn b) (disk_of y))
