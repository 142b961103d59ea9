-- A Pcom of the world that is down comes up as its standby.
use Rattle.std.proofs.Common.{◌≡◌, ◌≤◌, ◌∙◌, refl, sym, ap, subst, ℕ, zero, suc, ◌+◌, ◌-◌, min, Bool, true, false, cond, ◌⊎◌, inl, inr, List, [], ◌∷◌, ◌++◌, length, map, drop, arith, Option, Some, None, option_map}
use Rattle.std.specs.Prelude.{slice_get, slice_set, ◌&&◌, not}
use Rattle.std.specs.List.{AllByRecursion}
use Rattle.std.proofs.Math.Seq.{drop-append_seam}
use Rattle.std.proofs.lemmas.Bool.{cases_eq}
use Rattle.std.proofs.lemmas.List.{map-set}
use Rattle.std.proofs.lemmas.Option.{option_and_then_some}
use Rattle.ic_base.specs.declared.limits.TheConstants.{COMPONENTS}
use Rattle.ic_base.specs.declared.events.Event.{Event}
use Rattle.ic_base.specs.declared.events.What.TheVariants.{Crash}
use Rattle.ic_base.specs.declared.messages.ComId.{ComId}
use Rattle.ic_base.specs.declared.record.Record.{Record}
use Rattle.ic_base.specs.declared.scenario.Program.{Program}
use Rattle.ic_base.specs.Programs.{is_a_pcom}
use Rattle.def_facts.specs.Logs.{Logs}
use Rattle.def_facts.specs.World.{Past, IsExplained, IsExplainedBy}
use Rattle.def_log.specs.Spelling.{Fits}
use Rattle.def_run.specs.CoreSteps.{forced_of}
use Rattle.def_run.specs.SystemStates.{KeepsLogs, has_disk}
use Rattle.def_standby.specs.Standbys.{Arises, play_all, played_on, is_missing, ships_all}
use Rattle.def_standby.specs.TakeOvers.{TakesOver, taken_over, world_over}
use Rattle.def_state.specs.Fits.{fits}
use Rattle.def_state.specs.Hist.{Contents}
use Rattle.def_state.specs.Vol.{Vol, first_vol, numbers_fit, standing}
use Rattle.def_step.specs.Pcom.{Pcom}
use Rattle.def_step.specs.Settle.{is_down}
use Rattle.def_step.specs.World as definition
use Rattle.def_step.specs.World.{Node, Runs, Serves, Down, External, node_at}
use Rattle.ic_disk.specs.TornDisks.{Torn}
use Rattle.ic_disk.specs.Torns.{torn}
use Rattle.ic_disk.specs.declared.disk.Disk.{Ghosts}
use Rattle.ic_node.specs.Meeting.{KeepsDisk, CrashAdds, kept_disk}
use Rattle.ic_node.specs.Nodes as parts
use Rattle.ic_node.specs.TakingOver as nodes_over
use Rattle.ic_node.specs.Views as nodes
use Rattle.ic_node.specs.Views.{node_of, disk_of, com_of, is_over}
use Rattle.ic_node.specs.declared.component.Component.{Component}
use Rattle.ic_pcom.specs.Stages.{HasPeers}
use Rattle.ic_pcom.proofs.Peers.{all_peers}
use Rattle.law_pcom.specs.Replaying.{Plays}
use Rattle.law_run.specs.Executions.{IsExplainedInBytes}
use Rattle.law_run.specs.WorldBytes.{WorldFits, NodeFits}
use Rattle.law_settle.specs.Kept.{IsWorldPutToKept}
use Rattle.law_settle.specs.Represented.{IsWorldRepresented}
use Rattle.law_standby.specs.TakeOvers.{AreReceived}
use Rattle.law_standby.proofs.Representing.{take_overs_keep_represented}
use Rattle.law_standby.proofs.Taking.{takes_over}
use Rattle.ic_work.specs.declared.work.Work.TheVariants.{Crashes}
use Rattle.ic_world.specs.Acting.{GREATEST, KeepsOthers}
use Rattle.ic_world.specs.Allowing.{IsMadeFor, is_kept}
use Rattle.ic_world.specs.Reading.{at_node}
use Rattle.ic_world.specs.Standing.{ArePlaced, HoldLogs}
use Rattle.ic_world.specs.Stepping.{CrashLeavesFiles}
use Rattle.ic_world.specs.TakingOver.{TakesOn, CrashLeavesThem, LeavesSound, StaysExplained, standby_with}
use Rattle.ic_world.specs.Views.{components_of, world_of, state_of, print_of, received_of, played_of, Tells}
use Rattle.ic_world.specs.Views as views
use Rattle.ic_world.specs.declared.world.World.{World}
use Rattle.ic_world.proofs.Acts.{still-logs, of-both}
use Rattle.ic_world.proofs.Crashes.{component-rests, crash-asked, disks-asked}
use Rattle.ic_world.proofs.Durable.{files-durable}
use Rattle.ic_world.proofs.Explained.{crash-sound}
use Rattle.ic_world.proofs.Lists.{get-within, get-set_same, get-set_other, get-map, same-com}
use Rattle.ic_world.proofs.WorkSteps.{world-logs}

some-is : {A : Type 0} (x y : A) → Some x ≡ Some y → x ≡ y
some-is x y e = cc

-- what is down is a disk that holds its records
down-is : (n : Node) → is_down n ≡ true → n ≡ Down (forced_of (Some n))
down-is (Runs p) e = absurd (cc)
down-is (Serves t) e = absurd (cc)
down-is (Down records) e = refl
down-is External e = absurd (cc)

module _ {D : Type 0} {d : Ghosts D} (w : World D d) (c : ComId) (down : at_node false is_down (node_at (world_of w) c) ≡ true) where
  pub down-at : (x : Component D d) → slice_get (components_of w) c.0 ≡ Some x → is_down (node_of x) ≡ true
  down-at x at = sym (ap (at_node false is_down) (get-map (λ z. node_of z) (components_of w) c.0 ∙ ap (option_map (λ z. node_of z)) at)) ∙ down

  -- the component that is down stands in its place
  pub place : (x : Component D d) × (slice_get (components_of w) c.0 ≡ Some x)
  place = by (slice_get (components_of w) c.0) refl
    where
      by : (o : Option (Component D d)) → slice_get (components_of w) c.0 ≡ o → (x : Component D d) × (slice_get (components_of w) c.0 ≡ Some x)
      by None is = absurd (let clash : false ≡ true = sym (ap (at_node false is_down) (get-map (λ z. node_of z) (components_of w) c.0 ∙ ap (option_map (λ z. node_of z)) is)) ∙ down in cc)
      by (Some x) is = (x, is)

-- a place that is set to what stands there
set-same : {A : Type 0} (xs : List A) (i : ℕ) (x : A) → slice_get xs i ≡ Some x → slice_set xs i x ≡ xs
set-same [] i x e = refl
set-same (y ∷ ys) zero x e = ap (λ z. z ∷ ys) (sym (some-is y x e))
set-same (y ∷ ys) (suc i) x e = ap (λ zs. y ∷ zs) (set-same ys i x e)

-- shipments leave numbers within their limits and senders that a scenario may have
if-all : (f m n : Bool) (later : Option Vol) (w : Vol) → cond (f && not m && n) later None ≡ Some w → (n ≡ true) × (later ≡ Some w)
if-all true false true later w e = (refl, e)
if-all true false false later w e = absurd (cc)
if-all true true n later w e = absurd (cc)
if-all false m n later w e = absurd (cc)

all-limits : (program : Program) (c : ComId) (contents : Contents) (v : Vol) (rs : List Record) (w : Vol) → numbers_fit v ≡ true → play_all program c contents v rs ≡ Some w → numbers_fit w ≡ true
all-limits program c contents v [] w fit e = let same : v ≡ w = some-is v w e in ap numbers_fit (sym same) ∙ fit
all-limits program c contents v (r ∷ rs) w fit e =
    let now = played_on program c contents v r in
    let q = if-all (fits program c (standing program c v) r) (is_missing contents r) (numbers_fit now) (play_all program c contents now rs) w e in
    all-limits program c contents now rs w q.0 q.1

pub arisen : (program : Program) (c : ComId) (v : Vol) → length program.components ≤ COMPONENTS → Arises program c v → (numbers_fit v ≡ true) × HasPeers v
arisen program c v few a = by (first_vol program c) a.shipments refl refl a.made
  where
    by : (u : Vol) (ss : List (Contents × List Record)) → numbers_fit u ≡ true → HasPeers u → ships_all program c u ss ≡ Some v → (numbers_fit v ≡ true) × HasPeers v
    by u [] fit peers e = let same : u ≡ v = some-is u v e in (ap numbers_fit (sym same) ∙ fit, subst HasPeers same peers)
    by u (s ∷ ss) fit peers e = option_and_then_some _ (play_all program c s.0 u s.1) v e (λ w is f. by w ss (all-limits program c s.0 u s.1 w fit is) (all_peers program c s.0 u s.1 w (inr few) peers is) f)

-- which component stands in a place of the world
pub set-or-not : (w : definition.World) (c : ComId) (p : Pcom) (d : ComId) (n : Node) → node_at (world_over w c p) d ≡ Some n → c.0 ≡ d.0 → (m : Node) → node_at w c ≡ Some m → n ≡ Runs p
set-or-not w c p d n e s m there =
    some-is n (Runs p) (sym e ∙ ap (λ i. slice_get (slice_set w.nodes c.0 (Runs p)) i) (sym s) ∙ get-set_same w.nodes c.0 (Runs p) (get-within w.nodes c.0 m there))

over-fits : (w : definition.World) (c : ComId) (log : List Record) (v : Vol) → node_at w c ≡ Some (Down log) → WorldFits w → WorldFits (world_over w c (taken_over log v))
over-fits w c log v down x = record { nodes = λ d n e. by d n e (cases_eq c.0 d.0); packets = x.packets }
  where
    by : (d : ComId) (n : Node) → node_at (world_over w c (taken_over log v)) d ≡ Some n → (c.0 ≡ d.0) ⊎ (c.0 ≡ d.0 → ⊥) → NodeFits n
    by d n e (inl s) = subst NodeFits (sym (set-or-not w c (taken_over log v) d n e s (Down log) down)) (record { forced = x.nodes c (Down log) down; buffered = tt })
    by d n e (inr o) = x.nodes d n (sym (get-set_other w.nodes c.0 d.0 (Runs (taken_over log v)) (λ s. o (sym s))) ∙ e)

module _ {D : Type 0} {d : Ghosts D} (program : Program) (old new : World D d) (c : ComId) (x y : Component D d) (at : slice_get (components_of old) c.0 ≡ Some x) (set : components_of new ≡ slice_set (components_of old) c.0 y) (same : (ns : List Node) → record (world_of new) { nodes = ns } ≡ record (world_of old) { nodes = ns })
    (down : at_node false is_down (node_at (world_of old) c) ≡ true) (contents : Contents) (v : Vol) (have played : ℕ) (over : nodes_over.TakesOver program x contents v have y played) (which : com_of x ≡ c) where
  node-old : node_at (world_of old) c ≡ Some (node_of x)
  node-old = get-map (λ z. node_of z) (components_of old) c.0 ∙ ap (option_map (λ z. node_of z)) at

  is-down : node_of x ≡ Down (forced_of (Some (node_of x)))
  is-down = down-is (node_of x) (sym (ap (at_node false is_down) node-old) ∙ down)

  plays : play_all program c contents v (drop have over.found) ≡ Some over.state
  plays = ap (λ z. play_all program z contents v (drop have over.found)) (sym which) ∙ over.plays

  world-new : world_of new ≡ world_over (world_of old) c (taken_over over.found over.state)
  world-new =
      same (world_of new).nodes
      ∙ (let W : List Node → definition.World = λ ns. record (world_of old) { nodes = ns } in
      ap W (ap (map (λ z. node_of z)) set ∙ map-set (λ z. node_of z) (components_of old) c.0 y ∙ ap (slice_set (world_of old).nodes c.0) over.up))

  files-new : Tells old → (state_of new).files ≡ (state_of old).files
  files-new tells =
      ap (map (λ z. nodes.file_of z)) set ∙ map-set (λ z. nodes.file_of z) (components_of old) c.0 y
      ∙ ap (slice_set (state_of old).files c.0) (over.file (tells c.0 x at))
      ∙ set-same (state_of old).files c.0 (nodes.file_of x) (get-map (λ z. nodes.file_of z) (components_of old) c.0 ∙ ap (option_map (λ z. nodes.file_of z)) at)

  found-is : Tells old → node_at (world_of old) c ≡ Some (Down over.found)
  found-is tells = node-old ∙ ap (λ n. Some n) is-down ∙ ap (λ rs. Some (Down rs)) (sym (over.reads (tells c.0 x at)))

  told-by : (a b : Option D) → kept_disk d a b → parts.told_of d a → parts.told_of d b
  told-by None None k t = tt
  told-by None (Some n) k t = absurd k
  told-by (Some o) None k t = absurd k
  told-by (Some o) (Some n) k t = k.tells.0 t

  tells-new : KeepsDisk x y → Tells old → Tells new
  tells-new kept tells k z e = by (cases_eq k c.0)
    where
      by : (k ≡ c.0) ⊎ (k ≡ c.0 → ⊥) → nodes.Tells z
      by (inl s) =
          let is : z ≡ y = some-is z y (sym e ∙ ap (λ xs. slice_get xs k) set ∙ ap (slice_get (slice_set (components_of old) c.0 y)) s ∙ get-set_same (components_of old) c.0 y (get-within (components_of old) c.0 x at)) in
          subst (λ (u : Component D d). nodes.Tells u) (sym is) (told-by (disk_of x) (disk_of y) kept (tells c.0 x at))
      by (inr o) = tells k z (sym (get-set_other (components_of old) c.0 k y o) ∙ sym (ap (λ xs. slice_get xs k) set) ∙ e)

  pub takes-on : KeepsDisk x y → print_of new ≡ print_of old → HoldLogs (print_of old) (components_of old) → received_of new ≡ received_of old → played_of new ≡ min (played_of old + played) GREATEST → views.is_over new ≡ false
      → IsMadeFor program (world_of old) → Arises program c v → TakesOn program old c contents v have new played
  takes-on kept print logs received counts going made arises = record {
    found = over.found;
    state = over.state;
    plays = plays;
    world = world-new;
    count = over.count;
    told = λ tells. record {
      records = over.found;
      down = found-is tells;
      state = over.state;
      plays = plays;
      steps = omega (arith, over.count);
      world = world-new;
      files = files-new tells;
      logs = subst (λ (f : List ℕ). KeepsLogs f (state_of new)) print
          (world-logs new (subst (λ (f : List ℕ). HoldLogs f (components_of new)) (sym print) (subst (HoldLogs (print_of old)) (sym set) (still-logs (components_of old) c.0 x y at (print_of old) (ap (λ (z : ComId). z.0) which) logs kept over.goes_on))) (tells-new kept tells));
    };
    received = received;
    played_is = counts;
    made = subst (IsMadeFor program) (sym world-new) (record {
      playable = made.playable;
      kept = λ k. by k (cases_eq c.0 k.0);
      represented = law.0;
      puts = law.1;
    });
    going = going;
  }
    where
      p : Pcom
      p = taken_over over.found over.state

      over-world : definition.World
      over-world = world_over (world_of old) c p

      law : IsWorldRepresented program over-world × IsWorldPutToKept program over-world
      law = take_overs_keep_represented program (world_of old) c contents v over.state over.found (drop have over.found) made.playable arises plays made.represented made.puts

      here : node_at over-world c ≡ Some (Runs p)
      here = get-set_same (world_of old).nodes c.0 (Runs p) (get-within (world_of old).nodes c.0 (node_of x) node-old)

      kept-there : is_kept (node_at (world_of old) c) ≡ true
      kept-there = ap is_kept node-old ∙ ap (λ n. is_kept (Some n)) is-down

      by : (k : ComId) → (c.0 ≡ k.0) ⊎ (c.0 ≡ k.0 → ⊥) → is_kept (node_at over-world k) ≡ has_disk program k
      by k (inl s) = subst (λ (z : ComId). is_kept (node_at over-world z) ≡ has_disk program z) (same-com c k s) (ap is_kept here ∙ sym kept-there ∙ made.kept c)
      by k (inr o) = ap is_kept (get-set_other (world_of old).nodes c.0 k.0 (Runs p) (λ s. o (sym s))) ∙ made.kept k

-- what the takeover leaves is explained, and stays through a crash ------------------------------

downs : (a b : List Record) → ◌≡◌ {A = Option Node} (Some (Down a)) (Some (Down b)) → a ≡ b
downs a b e = cc

module _ {D : Type 0} {d : Ghosts D} (program : Program) (old new : World D d) (c : ComId) (contents : Contents) (v : Vol) (have played : ℕ) (on : TakesOn program old c contents v have new played) where
  pub stays-explained : is_a_pcom program c ≡ true → StaysExplained program old c contents v have new
  stays-explained pcom found here past log had rest tells fit explained there all long received was =
      let over = on.told tells in
      let log-is : over.records ≡ log = downs over.records log (sym over.down ∙ there) in
      let left : drop have log ≡ rest = ap (drop have) all ∙ ap (λ n. drop n (had ++ rest)) (sym long) ∙ drop-append_seam had rest in
      let through = takes_over program found here (world_of old) past c contents v over.state log had rest pcom explained there all received was (ap (λ rs. play_all program c contents v rs) (sym left ∙ ap (drop have) (sym log-is)) ∙ over.plays) in
      let now : world_of new ≡ world_over (world_of old) c (taken_over log over.state) = over.world ∙ ap (λ rs. world_over (world_of old) c (taken_over rs over.state)) log-is in (
        through.0,
        record {
          explained = subst (IsExplained program found through.0) (sym now) through.1;
          bytes = subst WorldFits (sym now) (over-fits (world_of old) c log over.state there fit);
        },
      )

  pub takes-durable : CrashLeavesFiles new
  takes-durable = files-durable new on.going

module _ {D : Type 0} (b : Ghosts D) (only_now : (disk : D) (image : List ℕ) → b.keeps disk → b.left_since disk (b.moment disk) image → b.may_leave disk image) (tells : (disk : D) → b.keeps disk → b.tells disk) (program : Program)
    (old new : World (Torn D) (torn b)) (c : ComId) (placed : ArePlaced (components_of old)) (others : KeepsOthers old c new) where
  pub leaves-them : (x y : Component (Torn D) (torn b)) → slice_get (components_of old) c.0 ≡ Some x → components_of new ≡ slice_set (components_of old) c.0 y → CrashAdds [] x y → CrashLeavesThem old new
  leaves-them x y at set adds k v w was now = by (cases_eq k c.0)
    where
      by : (k ≡ c.0) ⊎ (k ≡ c.0 → ⊥) → CrashAdds [] v w
      by (inl s) = of-both (components_of old) (components_of new) c.0 x y at set (λ z u. CrashAdds [] z u) adds v w (ap (slice_get (components_of old)) (sym s) ∙ was) (ap (slice_get (components_of new)) (sym s) ∙ now)
      by (inr o) =
          let is : v ≡ w = some-is v w (sym was ∙ sym (others.others k o) ∙ now) in
          let P : Component (Torn D) (torn b) → Type 0 = λ z. CrashAdds [] v z in
          subst P is (component-rests b only_now tells v [] (placed k v was).1)

  -- as a crash of that component leaves it
  pub leaves-sound : IsMadeFor program (world_of old) → CrashLeavesThem old new → LeavesSound program old new
  leaves-sound made them found here images r flat bytes explained are start =
      let crash : Event = record { what = Crash c; stop = None } in
      crash-sound program old new crash made (disks-asked old old new (Crash c) c Crashes refl refl refl others)
      (crash-asked b only_now tells program old old new (Crash c) c Crashes refl refl placed others (λ x y a n. them c.0 x y a n))
      found here images r tt (record { flat = flat; bytes = bytes; event = record { handler = tt; values = tt; stop = tt }; explained = explained }) are start
