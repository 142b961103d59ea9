-- A component of the world did its work, and what came of it is told; or it didn't.
use Rattle.std.proofs.Common.{◌≡◌, ◌∙◌, sym, ap, subst, refl, ℕ, zero, suc, ◌+◌, ◌<◌, min, Bool, true, false, cond, ◌⊎◌, inl, inr, List, [], ◌∷◌, length, map, get_or, arith, Option, Some, None, option_map, IfOk, IfErr, Result, Ok, Err}
use Rattle.std.specs.Prelude.{slice_get, slice_set, is_some}
use Rattle.std.proofs.lemmas.Bool.{cases_eq}
use Rattle.std.proofs.lemmas.List.{map-set}
use Rattle.ic_base.specs.declared.events.Event.{Event}
use Rattle.ic_base.specs.declared.events.Stop.{Stop}
use Rattle.ic_base.specs.declared.events.Trace.{Trace}
use Rattle.ic_base.specs.declared.messages.ComId.{ComId}
use Rattle.ic_base.specs.declared.refusals.Which.TheVariants.{Receipts, Packets}
use Rattle.ic_base.specs.declared.refusals.WorldRefused.{WorldRefused}
use Rattle.ic_base.specs.declared.refusals.WorldRefused.TheVariants as refused
use Rattle.ic_base.specs.declared.scenario.Program.{Program}
use Rattle.ic_base.specs.declared.limits.TheConstants.{RECEIPTS, PACKETS}
use Rattle.def_run.specs.CoreSteps.{forced_of}
use Rattle.def_run.specs.Reports.{played_by, played_by_all}
use Rattle.def_run.specs.SystemStates.{IsLog, KeepsLog}
use Rattle.def_step.specs.World as definition
use Rattle.def_step.specs.World.{Node, node_at, behind}
use Rattle.ic_disk.specs.TornDisks.{Torn}
use Rattle.ic_disk.specs.declared.disk.Disk.{Ghosts}
use Rattle.ic_node.specs.Calling.{done_with}
use Rattle.ic_node.specs.DeviceCalls.{MakesCalls}
use Rattle.ic_node.specs.Meeting.{KeepsDisk, CrashAdds, GoesOn, kept_disk}
use Rattle.ic_disk.specs.Torns.{torn}
use Rattle.ic_node.specs.Nodes as parts
use Rattle.ic_node.specs.Views as nodes
use Rattle.ic_node.specs.Views.{node_of, disk_of, com_of, is_over}
use Rattle.ic_node.specs.declared.component.Component.{Component}
use Rattle.ic_node.specs.declared.done.Done.{Done}
use Rattle.ic_node.specs.declared.done.NodeRefused.{NodeRefused}
use Rattle.ic_node.specs.declared.done.NodeRefused.TheVariants.{Full, Bad, Foreign, Failed, Memory}
use Rattle.ic_world.specs.Acting.{Acts, Admits, KeepsOthers, IsTold, FailsToTell, DidWork, PutsTooMany, FailsAt, FailsToAct, GREATEST}
use Rattle.ic_world.specs.Allowing.{is_kept}
use Rattle.ic_work.specs.Components.{Works, FailsToWork, would_add, refusal_of}
use Rattle.ic_work.specs.Tasks.{work_calls}
use Rattle.ic_world.specs.Standing.{ArePlaced, HoldLogs}
use Rattle.ic_world.specs.Views.{components_of, world_of, print_of, received_of, played_of}
use Rattle.ic_work.specs.Working.{work_of, work_receives}
use Rattle.ic_work.specs.declared.work.Work.{Work}
use Rattle.ic_world.specs.declared.world.World.{World}
use Rattle.ic_node.proofs.DeviceCalls.{makes_none, makes_less}
use Rattle.ic_world.proofs.ComponentReads.{get-read}
use Rattle.ic_world.proofs.Crashes.{component-rests}
use Rattle.ic_world.proofs.Lists.{get-within, get-set_same, get-set_other, get-map}
use Rattle.ic_world.proofs.Sizes.{own-log}
use Rattle.ic_world.proofs.WorkSteps.{component-logs, played-set, kept-or-not}

some-is : {A : Type 0} (x y : A) → Some x ≡ Some y → x ≡ y
some-is x y e = cc

length-set : {A : Type 0} (xs : List A) (i : ℕ) (y : A) → length (slice_set xs i y) ≡ length xs
length-set [] i y = refl
length-set (x ∷ xs) zero y = refl
length-set (x ∷ xs) (suc i) y = ap (λ n. suc n) (length-set xs i y)

-- what is read in a place stands there
pub at-place : {X : Type 0} (xs : List X) (place i : ℕ) (some x : X) → slice_get xs place ≡ Some some → i ≡ place → x ≡ get_or xs i x → slice_get xs place ≡ Some x
at-place xs place i some x there same read = ap (slice_get xs) (sym same) ∙ get-read xs i x (let within = get-within xs place some there in omega (arith, within, same)) read

-- the components with one in the place of another -------------------------------------------

module _ {D : Type 0} {d : Ghosts D} (xs : List (Component D d)) (i : ℕ) (x y : Component D d) (at : slice_get xs i ≡ Some x) where
  -- which of them stands in a place
  set-or-not : (k : ℕ) (z : Component D d) → slice_get (slice_set xs i y) k ≡ Some z → ((k ≡ i) × (z ≡ y)) ⊎ (slice_get xs k ≡ Some z)
  set-or-not k z e = by (cases_eq k i)
    where
      by : (k ≡ i) ⊎ (k ≡ i → ⊥) → ((k ≡ i) × (z ≡ y)) ⊎ (slice_get xs k ≡ Some z)
      by (inl s) = inl (s, some-is z y (sym e ∙ ap (λ j. slice_get (slice_set xs i y) j) s ∙ get-set_same xs i y (get-within xs i x at)))
      by (inr o) = inr (sym (get-set_other xs i k y o) ∙ e)

  pub still-placed : ArePlaced xs → com_of y ≡ com_of x → is_over y ≡ false → ArePlaced (slice_set xs i y)
  still-placed placed same going k z e = by (set-or-not k z e)
    where
      by : ((k ≡ i) × (z ≡ y)) ⊎ (slice_get xs k ≡ Some z) → ((com_of z).0 ≡ k) × (is_over z ≡ false)
      by (inl s) = (ap (λ w. (com_of w).0) s.1 ∙ ap (λ c. c.0) same ∙ (placed i x at).0 ∙ sym s.0, ap is_over s.1 ∙ going)
      by (inr o) = placed k z o

  told-before : (a b : Option D) (disk : D) → kept_disk d a b → b ≡ Some disk → d.tells disk → parts.told_of d a
  told-before None None disk k e t = tt
  told-before None (Some n) disk k e t = absurd k
  told-before (Some o) None disk k e t = absurd k
  told-before (Some o) (Some n) disk k e t = let same : n ≡ disk = some-is n disk e in let T : D → Type 0 = λ z. d.tells z in k.tells.1 (subst T (sym same) t)

  pub still-logs : (print : List ℕ) → (com_of x).0 ≡ i → HoldLogs print xs → KeepsDisk x y → GoesOn x y → HoldLogs print (slice_set xs i y)
  still-logs print here logs kept goes k z disk e own t = by (set-or-not k z e)
    where
      by : ((k ≡ i) × (z ≡ y)) ⊎ (slice_get xs k ≡ Some z) → IsLog print k (d.seen disk) (forced_of (Some (node_of z)))
      by (inr o) = logs k z disk o own t
      by (inl s) =
          let has : disk_of y ≡ Some disk = ap disk_of (sym s.1) ∙ own in
          let told : nodes.Tells x = told-before (disk_of x) (disk_of y) disk kept has t in
          let log : KeepsLog print (com_of y) (nodes.file_of y) (Some (node_of y)) = goes.logs told print (component-logs print xs (com_of x) x logs (ap (slice_get xs) here ∙ at) told) in
          let place : (com_of y).0 ≡ k = ap (λ c. c.0) goes.same ∙ here ∙ sym s.0 in
          let F : List ℕ → Type 0 = λ f. IsLog print k f (forced_of (Some (node_of y))) in
          let Z : Component D d → Type 0 = λ w. IsLog print k (d.seen disk) (forced_of (Some (node_of w))) in
          subst Z (sym s.1) (subst F (ap (parts.read_of d) has) (subst (λ (n : ℕ). IsLog print n (nodes.file_of y) (forced_of (Some (node_of y)))) place (own-log print (com_of y) (nodes.file_of y) (node_of y) (kept-or-not y ∙ ap is_some has) log)))

pub admits-same : {D : Type 0} {d : Ghosts D} (program : Program) (v w : World D d) (c : ComId) (work : Work) (more : Bool) → components_of w ≡ components_of v → received_of w ≡ received_of v → Admits program v c work more → Admits program w c work more
admits-same program v w c work more same received a = record {
  before = a.before;
  at = ap (λ xs. slice_get xs c.0) same ∙ a.at;
  receives = a.receives;
  few = λ m. let f = a.few m in omega (arith, received, f);
}

-- one component of a world ------------------------------------------------------------------------

-- what holds of the two holds of the components in that place
pub of-both : {X : Type 0} (xs ys : List X) (i : ℕ) (x y : X) → slice_get xs i ≡ Some x → ys ≡ slice_set xs i y → (P : X → X → Type 0) → P x y → (v w : X) → slice_get xs i ≡ Some v → slice_get ys i ≡ Some w → P v w
of-both {X} xs ys i x y at set P p v w a b =
    let now : slice_get ys i ≡ Some y = ap (λ zs. slice_get zs i) set ∙ get-set_same xs i y (get-within xs i x at) in
    let V : X → Type 0 = λ z. P z w in
    subst V (some-is x v (sym at ∙ a)) (subst (P x) (some-is y w (sym now ∙ b)) p)

pub adds-there : {D : Type 0} {d : Ghosts D} (program : Program) (work : Work) (xs ys : List (Component D d)) (i : ℕ) (x y : Component D d) → slice_get xs i ≡ Some x → ys ≡ slice_set xs i y → CrashAdds (would_add program x work) x y → (v w : Component D d) → slice_get xs i ≡ Some v → slice_get ys i ≡ Some w → CrashAdds (would_add program v work) v w
adds-there program work xs ys i x y at set adds = of-both xs ys i x y at set (λ v w. CrashAdds (would_add program v work) v w) adds

pub makes-there : {D : Type 0} {d : Ghosts D} (program : Program) (work : Work) (stop : Option Stop) (ok told : Bool) (xs ys : List (Component D d)) (i : ℕ) (x y : Component D d) → slice_get xs i ≡ Some x → ys ≡ slice_set xs i y → (told ≡ true → ok ≡ true)
    → MakesCalls (work_calls program (com_of x) (node_of x) (work_of work)) stop ok x y → (v w : Component D d) → slice_get xs i ≡ Some v → slice_get ys i ≡ Some w → MakesCalls (work_calls program (com_of v) (node_of v) (work_of work)) stop told v w
makes-there program work stop ok told xs ys i x y at set only made =
    of-both xs ys i x y at set (λ v w. MakesCalls (work_calls program (com_of v) (node_of v) (work_of work)) stop told v w) (makes_less (work_calls program (com_of x) (node_of x) (work_of work)) stop x y ok told only made)

-- where nothing is done no device call is made
pub makes-nowhere : {D : Type 0} {d : Ghosts D} (program : Program) (work : Work) (stop : Option Stop) (xs : List (Component D d)) (i : ℕ) (v w : Component D d) → slice_get xs i ≡ Some v → slice_get xs i ≡ Some w → MakesCalls (work_calls program (com_of v) (node_of v) (work_of work)) stop false v w
makes-nowhere {D} {d} program work stop xs i v w a n =
    let W : Component D d → Type 0 = λ z. MakesCalls (work_calls program (com_of v) (node_of v) (work_of work)) stop false v z in
    subst W (some-is v w (sym a ∙ n)) (makes_none (work_calls program (com_of v) (node_of v) (work_of work)) stop v v false refl (λ is free. cc))

-- the other components stay
pub keeps-others : {D : Type 0} {d : Ghosts D} (old new : World D d) (c : ComId) (x y : Component D d) → slice_get (components_of old) c.0 ≡ Some x → components_of new ≡ slice_set (components_of old) c.0 y → print_of new ≡ print_of old → KeepsDisk x y → KeepsOthers old c new
keeps-others old new c x y at set print kept = record {
  print = print;
  count = ap length set ∙ length-set (components_of old) c.0 y;
  kept = of-both (components_of old) (components_of new) c.0 x y at set (λ v w. KeepsDisk v w) kept;
  others = λ k o. ap (λ xs. slice_get xs k) set ∙ get-set_other (components_of old) c.0 k y o;
}

module _ {D : Type 0} {d : Ghosts D} (program : Program) (old new : World D d) (e : Event) (c : ComId) (work : Work) (x y : Component D d) (at : slice_get (components_of old) c.0 ≡ Some x) (set : components_of new ≡ slice_set (components_of old) c.0 y) where
  nodes-new : (world_of new).nodes ≡ slice_set (world_of old).nodes c.0 (node_of y)
  nodes-new = ap (map (λ z. node_of z)) set ∙ map-set (λ z. node_of z) (components_of old) c.0 y

  played-all : played_by (node_of x) (node_of y) ≡ played_by_all (world_of old).nodes (world_of new).nodes
  played-all = sym (ap (played_by_all (world_of old).nodes) nodes-new ∙ played-set (world_of old).nodes c.0 (node_of x) (node_of y) (get-map (λ z. node_of z) (components_of old) c.0 ∙ ap (option_map (λ z. node_of z)) at))

  pub played-where : (r : Result Trace WorldRefused) (before after : ℕ) → after ≡ before + played_by (node_of x) (node_of y) → IfOk r (λ t. after ≡ before + played_by_all (world_of old).nodes (world_of new).nodes)
  played-where (Ok t) before after is = is ∙ ap (λ n. before + n) played-all
  played-where (Err why) before after is = tt

  module _ (mid : World D d) (more : Bool) (done : Done) (admits : Admits program old c work more) (works : Works program x e.stop work y done) (kept : KeepsDisk x y) (same : (ns : List Node) → record (world_of mid) { nodes = ns } ≡ record (world_of old) { nodes = ns }) (received : received_of mid ≡ received_of old) (played : played_of mid ≡ played_of old) where
    before-is : admits.before ≡ x
    before-is = some-is admits.before x (sym admits.at ∙ at)

    more-is : more ≡ work_receives program c (work_of work) (node_of x)
    more-is = admits.receives ∙ ap (λ z. work_receives program c (work_of work) (node_of z)) before-is

    told-is : (t : Trace) → IsTold mid e c more done new t → behind (world_of old) e c (done_with (node_of y) done) ≡ record { world = world_of new; trace = t }
    told-is t told =
        ap (λ w. behind w e c (done_with (node_of y) done)) (sym (same (world_of old).nodes))
        ∙ told.told (world_of old).nodes (node_of y)
        ∙ (let A : List Node → definition.After = λ ns. record { world = record (world_of new) { nodes = ns }; trace = t } in ap A (sym nodes-new))

    pub acts-as_told : (r : Result Trace WorldRefused) → IfOk r (IsTold mid e c more done new) → IfOk r (Acts program old e c work new)
    acts-as_told (Err why) told = tt
    acts-as_told (Ok t) told = record {
      before = x;
      now = y;
      done = done;
      at = at;
      set = set;
      works = works;
      kept = kept;
      told = told-is t told;
      received = told.received ∙ ap (λ n. n + cond more 1 0) received ∙ ap (λ z. received_of old + cond z 1 0) more-is;
      played = told.played ∙ ap (λ n. min (n + done.played) GREATEST) played ∙ ap (λ z. min (played_of old + z) GREATEST) works.played;
      going = told.going;
    }

    pub did-work : DidWork program old e c work new
    did-work = record {
      before = x;
      now = y;
      done = done;
      at = at;
      set = set;
      works = works;
      kept = kept;
      few = λ r. admits.few (more-is ∙ r);
    }

    pub puts-too_many : PACKETS < length (world_of mid).packets + length done.puts → PutsTooMany program old e c work new
    unfolding did-work
    puts-too_many past =
        let eq = ap (λ (w : definition.World). length w.packets) (same []) in
        let beyond : PACKETS < length (world_of old).packets + length done.puts = omega (arith, past, eq) in
        record { did = did-work; past = beyond }

-- the same component adds nothing
pub adds-none : {D : Type 0} (b : Ghosts D) (only_now : (disk : D) (image : List ℕ) → b.keeps disk → b.left_since disk (b.moment disk) image → b.may_leave disk image) (tells : (disk : D) → b.keeps disk → b.tells disk)
    → (program : Program) (work : Work) (xs : List (Component (Torn D) (torn b))) (i : ℕ) (x : Component (Torn D) (torn b)) → slice_get xs i ≡ Some x → is_over x ≡ false → (v w : Component (Torn D) (torn b)) → slice_get xs i ≡ Some v → slice_get xs i ≡ Some w → CrashAdds (would_add program v work) v w
adds-none {D} b only_now tells program work xs i x at going v w a n =
    let V : Component (Torn D) (torn b) → Type 0 = λ z. CrashAdds (would_add program z work) z w in
    let W : Component (Torn D) (torn b) → Type 0 = λ z. CrashAdds (would_add program x work) x z in
    subst V (some-is x v (sym at ∙ a)) (subst W (some-is x w (sym at ∙ n)) (component-rests b only_now tells x (would_add program x work) going))

-- a component of a world whose disks have stops ----------------------------------------------

module _ {D : Type 0} (b : Ghosts D) (program : Program) (old new : World (Torn D) (torn b)) (e : Event) (c : ComId) (work : Work) (x y : Component (Torn D) (torn b)) (at : slice_get (components_of old) c.0 ≡ Some x) where
  pub fails-to_tell : (mid : World (Torn D) (torn b)) (done : Done) → DidWork program old e c work new → (PACKETS < length (world_of mid).packets + length done.puts → PutsTooMany program old e c work new) → (r : Result Trace WorldRefused) → IfErr r (FailsToTell mid done) → IfErr r (FailsToAct b program old e c work new)
  fails-to_tell mid done did many (Ok t) f = tt
  fails-to_tell mid done did many (Err (refused.Limit Receipts)) f = absurd f
  fails-to_tell mid done did many (Err (refused.Limit Packets)) f = many f
  fails-to_tell mid done did many (Err (refused.LogFull z)) f = absurd f
  fails-to_tell mid done did many (Err (refused.Bad z place)) f = absurd f
  fails-to_tell mid done did many (Err (refused.Failed z)) f = absurd f
  fails-to_tell mid done did many (Err refused.Memory) f = inr did
  fails-to_tell mid done did many (Err (refused.Foreign z kept)) f = absurd f

  pub fails-at_work : components_of new ≡ slice_set (components_of old) c.0 y → is_kept (node_at (world_of old) c) ≡ true → (more : Bool) → Admits program old c work more → (why : NodeRefused) → FailsToWork b program (print_of old) x e.stop work y why → (told : WorldRefused) → told ≡ refusal_of c why → FailsToAct b program old e c work new told
  fails-at_work set kept more admits why f told is = subst (FailsToAct b program old e c work new) (sym is) (by why f)
    where
      few : work_receives program c (work_of work) (node_of x) ≡ true → received_of old < RECEIPTS
      few r =
          let was : admits.before ≡ x = some-is admits.before x (sym admits.at ∙ at) in
          admits.few (admits.receives ∙ ap (λ z. work_receives program c (work_of work) (node_of z)) was ∙ r)

      there : (w : NodeRefused) → FailsToWork b program (print_of old) x e.stop work y w → FailsAt b program old e c work new (refusal_of c w)
      there w g = record {
        before = x;
        now = y;
        node_why = w;
        at = at;
        set = set;
        has_disk = ap is_kept (sym (get-map (λ z. node_of z) (components_of old) c.0 ∙ ap (option_map (λ z. node_of z)) at)) ∙ kept;
        is = refl;
        fails = g;
        few = few;
      }

      by : (w : NodeRefused) → FailsToWork b program (print_of old) x e.stop work y w → FailsToAct b program old e c work new (refusal_of c w)
      by Full g = there Full g
      by (Bad place) g = there (Bad place) g
      by (Foreign held) g = there (Foreign held) g
      by Failed g = there Failed g
      by Memory g = inl (there Memory g)
