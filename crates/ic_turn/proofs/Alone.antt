-- The work of one component is a core step of the world that has this component alone.
use Rattle.std.proofs.Common.{◌≡◌, ◌∙◌, sym, ap, subst, refl, ℕ, zero, suc, ◌<◌, ◌-◌, Bool, true, false, cond, ◌⊎◌, inl, inr, List, [], ◌∷◌, length, map, drop, arith, Option, Some, None, option_map}
use Rattle.std.specs.Prelude.{slice_get, slice_set, option_and_then, unwrap_or, ◌&&◌}
use Rattle.std.proofs.lemmas.Bool.{both_ways, cases_eq, eq-eqb}
use Rattle.std.proofs.lemmas.List.{length-map, length-set}
use Rattle.ic_base.specs.declared.messages.ComId.{ComId}
use Rattle.ic_base.specs.declared.messages.Output.{Output}
use Rattle.ic_base.specs.declared.messages.Packet.{Packet}
use Rattle.ic_base.specs.declared.events.Answer.{Answer}
use Rattle.ic_base.specs.declared.events.Event.{Event}
use Rattle.ic_base.specs.declared.events.Stop.{Stop}
use Rattle.ic_base.specs.declared.events.What.{What}
use Rattle.ic_base.specs.declared.events.What.TheVariants as whats
use Rattle.ic_base.specs.declared.record.Record.{Record}
use Rattle.ic_base.specs.declared.scenario.Component.{Component}
use Rattle.ic_base.specs.declared.scenario.Program.{Program}
use Rattle.ic_base.specs.Programs.{same_com}
use Rattle.def_log.specs.Sizes.{size_in}
use Rattle.def_run.specs.CoreSteps.{CoreStep, MeetsDisk, IsTornAt, IsTornBy, forced_of, loads_first, would_force, is_full_at, is_call_full}
use Rattle.def_run.specs.SystemStates.{SystemState, file_of, KeepsLog, is_of, is_com, without_stop}
use Rattle.def_step.specs.Calls.{called, call_of, node_is_full}
use Rattle.def_step.specs.Packets.{sender_of, receiver_of}
use Rattle.def_step.specs.Pcom.{Gets}
use Rattle.def_step.specs.Settle.{asked_of}
use Rattle.def_step.specs.World.{World, Node, External, DiskOutcome, Done, After, node_at, packet_at, oldest_of, takes_off, world_with, trace_of, behind, crashes, calls, delivers_oldest, happens, happens_as}
use Rattle.def_live.specs.Turns.{Choice, Unlisted, Brings, Lists, IsOwn, is_own, alone, event_of}
use Rattle.ic_node.specs.Meeting.{adds_in, Meets}
use Rattle.ic_node.specs.Meeting as node
use Rattle.ic_turn.specs.Works.{asked_by, work_of, called_by}
use Rattle.ic_work.specs.Tasks.{Work, Calls, Crashes, Recovers, work_done}
use Rattle.law_replay.proofs.Lists.{same-com, self-com}
use Rattle.ic_turn.proofs.Places.{get-set_same, get-set_other}

-- what an event asks of a component, in a world where the packet that it brings waits no longer
pub record Asks (program : Program) (c : ComId) (what : What) (v w : World) (work : Work) : Type 0 where
  pub happens : (e : Event) (x : DiskOutcome) → happens_as program v e x what ≡ option_map (behind w e c) (option_and_then (λ n. work_done program c e.stop x n work) (node_at w c))
  pub calls : call_of v what ≡ called_by c work
  pub asked : (a : Answer) → asked_of what a ≡ Some c
  pub nodes : w.nodes ≡ v.nodes

none-some : {A : Type 0} (x : A) → None ≡ Some x → ⊥
none-some x e = cc

some-is : {A : Type 0} (x y : A) → Some x ≡ Some y → x ≡ y
some-is x y e = cc

-- an event of the component's own
pub asks-own : (program : Program) (c : ComId) (what : What) (v : World) (work : Work) → is_own c what ≡ true → asked_by what ≡ Some work → Asks program c what v v work
asks-own program c (whats.Input d handler args) v work own is = subst (λ z. Asks program c (whats.Input z handler args) v v work) (same-com c d own) (subst (Asks program c (whats.Input c handler args) v v) (some-is _ work is) (record { happens = λ e x. refl; calls = refl; asked = λ a. refl; nodes = refl }))
asks-own program c (whats.Deliver from to) v work own is = absurd (none-some work is)
asks-own program c (whats.Lose from to) v work own is = absurd (none-some work is)
asks-own program c (whats.Packet number) v work own is = absurd (none-some work is)
asks-own program c (whats.Force d) v work own is = subst (λ z. Asks program c (whats.Force z) v v work) (same-com c d own) (subst (Asks program c (whats.Force c) v v) (some-is _ work is) (record { happens = λ e x. refl; calls = refl; asked = λ a. refl; nodes = refl }))
asks-own program c (whats.Checkpoint d) v work own is = subst (λ z. Asks program c (whats.Checkpoint z) v v work) (same-com c d own) (subst (Asks program c (whats.Checkpoint c) v v) (some-is _ work is) (record { happens = λ e x. refl; calls = refl; asked = λ a. refl; nodes = refl }))
asks-own program c (whats.Resend d) v work own is = subst (λ z. Asks program c (whats.Resend z) v v work) (same-com c d own) (subst (Asks program c (whats.Resend c) v v) (some-is _ work is) (record { happens = λ e x. refl; calls = refl; asked = λ a. refl; nodes = refl }))
asks-own program c (whats.Emit d) v work own is = subst (λ z. Asks program c (whats.Emit z) v v work) (same-com c d own) (subst (Asks program c (whats.Emit c) v v) (some-is _ work is) (record { happens = λ e x. refl; calls = refl; asked = λ a. refl; nodes = refl }))
asks-own program c (whats.Crash d) v work own is = subst (λ z. Asks program c (whats.Crash z) v v work) (same-com c d own) (subst (Asks program c (whats.Crash c) v v) (some-is _ work is) (record { happens = λ e x. crashed e (node_at v c); calls = refl; asked = λ a. refl; nodes = refl }))
  where
    crashed : (e : Event) (o : Option Node) → option_map (λ node. behind v e c (crashes node)) o ≡ option_map (behind v e c) (option_and_then (λ n. Some (crashes n)) o)
    crashed e None = refl
    crashed e (Some n) = refl
asks-own program c (whats.Recover d) v work own is = subst (λ z. Asks program c (whats.Recover z) v v work) (same-com c d own) (subst (Asks program c (whats.Recover c) v v) (some-is _ work is) (record { happens = λ e x. refl; calls = refl; asked = λ a. refl; nodes = refl }))

-- the packet that is brought
pub asks-brought : (program : Program) (c : ComId) (node : Node) (p : Packet) (shown : List Output) → receiver_of p ≡ c → let v = alone program c node (Brings p) shown in Asks program c (whats.Deliver (sender_of p) c) v (takes_off v 1) (Calls 1 (Gets p))
asks-brought program c node p shown to = record {
  happens = λ e x. ap (λ o. delivers_oldest program v e x o) first ∙ ap (λ z. calls program (takes_off v 1) e x z 1 (Gets p)) to;
  calls = ap (λ o. option_map (λ q. called (receiver_of q) (Gets q)) (option_and_then (packet_at v) o)) first ∙ ap (λ z. Some (called z (Gets p))) to;
  asked = λ a. refl;
  nodes = refl;
}
  where
    v : World
    v = alone program c node (Brings p) shown

    first : oldest_of v (sender_of p) c ≡ Some 1
    first = ap (λ b. cond b (Some 1) None) (both (same_com (sender_of p) (sender_of p)) (same_com c (receiver_of p)) (self-com (sender_of p)) (subst (λ z. same_com z (receiver_of p) ≡ true) to (self-com (receiver_of p))))
      where
        both : (a b : Bool) → a ≡ true → b ≡ true → (a && b) ≡ true
        both true b e f = f
        both false b e f = absurd (both_ways false refl e)

abbrev pub behind_world : Program → ComId → Node → Choice → List Output → World
behind_world program c node (Brings p) shown = takes_off (alone program c node (Brings p) shown) 1
behind_world program c node x shown = alone program c node x shown

pub asks-choice : (program : Program) (c : ComId) (node : Node) (x : Choice) (shown : List Output) (work : Work) → IsOwn c x → work_of x ≡ Some work → Asks program c (event_of c x).what (alone program c node x shown) (behind_world program c node x shown) work
asks-choice program c node (Unlisted what) shown work own is = asks-own program c what (alone program c node (Unlisted what) shown) work own is
asks-choice program c node (Brings p) shown work own is = subst (Asks program c (whats.Deliver (sender_of p) c) (alone program c node (Brings p) shown) (takes_off (alone program c node (Brings p) shown) 1)) (some-is _ work is) (asks-brought program c node p shown own)
asks-choice program c node (Lists e) shown work own is = asks-own program c e.what (alone program c node (Lists e) shown) work own is

-- the step -------------------------------------------------------------------------------------------------

-- what a reached stop leaves, with the stop
torn-by : (x : DiskOutcome) (stop : Option Stop) (loads : ℕ) (added : List Record) (old new : List ℕ) → node.IsTornBy x stop loads added old new → (s : Stop) × (stop ≡ Some s) × IsTornAt x s loads (x.size - 1) added old new
torn-by x None loads added old new t = absurd t
torn-by x (Some s) loads added old new t = (s, refl, t)

-- a call on the component passes no limit
abbrev pub PassesNone : Program → ComId → Node → List ℕ → Work → Type 0
PassesNone program c node file (Calls number call) = (size : ℕ) → size_in file ≡ Some size → node_is_full program c call size node ≡ false
PassesNone program c node file _ = Unit {0}

-- whoever is outside has no log
outside : (print : List ℕ) (c : ComId) (file : List ℕ) (xs : List Component) (j : ℕ) → KeepsLog print c file (slice_get (map (λ d. External) xs) j)
outside print c file [] zero = tt
outside print c file [] (suc j) = tt
outside print c file (x ∷ xs) zero = tt
outside print c file (x ∷ xs) (suc j) = outside print c file xs j

module _ (program : Program) (print : List ℕ) (c : ComId) (node : Node) (x : Choice) (shown : List Output) (work : Work) (a : Asks program c (event_of c x).what (alone program c node x shown) (behind_world program c node x shown) work)
    (o : DiskOutcome) (d : Done) (files : List (List ℕ)) (file : List ℕ) (done : work_done program c (event_of c x).stop o node work ≡ Some d) (there : c.0 < length program.components) (many : c.0 < length files) where
  abbrev pub v : World
  v = alone program c node x shown

  abbrev pub w : World
  w = behind_world program c node x shown

  abbrev pub e : Event
  e = event_of c x

  within : c.0 < length (slice_set (map (λ (y : Component). External) program.components) c.0 node)
  within = let n = length-set (map (λ (y : Component). External) program.components) c.0 node in let m = length-map program.components (λ (y : Component). External) in omega (arith, n, m, there)

  pub node-before : node_at v c ≡ Some node
  node-before = get-set_same (map (λ (y : Component). External) program.components) c.0 node (let m = length-map program.components (λ (y : Component). External) in omega (arith, m, there))

  node-mid : node_at w c ≡ Some node
  node-mid = ap (λ ns. slice_get ns c.0) a.nodes ∙ node-before

  pub node-behind : (d0 : Done) → node_at (world_with w c d0) c ≡ Some d0.node
  node-behind d0 = ap (λ ns. slice_get (slice_set ns c.0 d0.node) c.0) a.nodes ∙ get-set_same v.nodes c.0 d0.node within

  pub alone-happens : happens program v e o ≡ Some (behind w e c d)
  alone-happens = a.happens e o ∙ ap (λ n. option_map (behind w e c) (option_and_then (λ m. work_done program c e.stop o m work) n)) node-mid ∙ ap (option_map (behind w e c)) done

  abbrev pub state_before : SystemState
  state_before = record { world = v; files = files }

  abbrev pub state_behind : SystemState
  state_behind = record { world = world_with w c d; files = slice_set files c.0 file }

  file-behind : file_of state_behind c ≡ file
  file-behind = ap (λ z. unwrap_or z []) (get-set_same files c.0 file many)

  force-is : would_force program v e.what o c ≡ adds_in node (work_done program c None o node work)
  force-is = ap (forces (node_at v c)) (a.happens (without_stop e.what) o ∙ ap (λ n. option_map (behind w (without_stop e.what) c) (option_and_then (λ m. work_done program c None o m work) n)) node-mid)
      ∙ ap (λ n. forces n (option_map (behind w (without_stop e.what) c) (work_done program c None o node work))) node-before
      ∙ by (work_done program c None o node work)
    where
      forces : Option Node → Option After → List Record
      forces was z = elim z [ None ↦ [] | Some y ↦ drop (length (forced_of was)) (forced_of (node_at y.world c)) ]

      by : (z : Option Done) → forces (Some node) (option_map (behind w (without_stop e.what) c) z) ≡ adds_in node z
      by None = refl
      by (Some d0) = ap (λ n. drop (length (forced_of (Some node))) (forced_of n)) (node-behind d0)

  fits-is : PassesNone program c node (file_of state_before c) work → is_full_at program state_before e.what ≡ false
  fits-is none = ap (λ z. elim z [ None ↦ false | Some y ↦ is_call_full program state_before y ]) a.calls ∙ by work none
    where
      by : (k : Work) → PassesNone program c node (file_of state_before c) k → elim (called_by c k) [ None ↦ false | Some y ↦ is_call_full program state_before y ] ≡ false
      by (Calls number call) n =
          ap (λ z. elim z [ None ↦ false | Some m ↦ elim (size_in (file_of state_before c)) [ None ↦ false | Some s ↦ node_is_full program c call s m ] ]) node-before
          ∙ sizes (size_in (file_of state_before c)) refl
        where
          sizes : (z : Option ℕ) → size_in (file_of state_before c) ≡ z → elim z [ None ↦ false | Some s ↦ node_is_full program c call s node ] ≡ false
          sizes None is = refl
          sizes (Some s) is = n s is
      by Crashes n = refl
      by Recovers n = refl

  asked-is : (b : ComId) → is_of e (trace_of w e c d) b ≡ true → b ≡ c
  asked-is b of = same-com b c (ap (is_com b) (sym (a.asked d.answer)) ∙ of)

  meets-disk : Meets program c o e.stop (adds_in node (work_done program c None o node work)) d.answer node d.node (file_of state_before c) file → MeetsDisk program o state_before e (trace_of w e c d) c state_behind
  meets-disk m = record {
    found = m.found;
    size = m.size;
    free = m.free;
    torn = λ s. let t = torn-by o e.stop (loads_first program c (Some node)) (adds_in node (work_done program c None o node work)) (file_of state_before c) file (m.torn s) in
        let Q : Option Stop → Type 0 = λ z. IsTornBy program o state_before e c state_behind z in
        let A : Option Node → Type 0 = λ z. IsTornAt o t.0 (loads_first program c z) (o.size - 1) (would_force program v e.what o c) (file_of state_before c) (file_of state_behind c) in
        let B : List Record → Type 0 = λ rs. IsTornAt o t.0 (loads_first program c (Some node)) (o.size - 1) rs (file_of state_before c) (file_of state_behind c) in
        let C : List ℕ → Type 0 = λ f. IsTornAt o t.0 (loads_first program c (Some node)) (o.size - 1) (adds_in node (work_done program c None o node work)) (file_of state_before c) f in
        subst Q (sym t.1) (subst A (sym node-before) (subst B (sym force-is) (subst C (sym file-behind) t.2)));
    same = λ s f. file-behind ∙ m.same s (sym (ap forced_of (node-behind d)) ∙ f ∙ ap forced_of node-before);
  }

  -- a core step, given what the disk reads
  pub alone-core : PassesNone program c node (file_of state_before c) work → Meets program c o e.stop (adds_in node (work_done program c None o node work)) d.answer node d.node (file_of state_before c) file → KeepsLog print c file (Some d.node)
      → CoreStep program print state_before e (trace_of w e c d) state_behind
  alone-core none meets log = record {
    outcome = o;
    happens = alone-happens;
    fits = fits-is none;
    disk = λ b of. subst (λ z. MeetsDisk program o state_before e (trace_of w e c d) z state_behind) (sym (asked-is b of)) (meets-disk meets);
    others = λ b of. ap (λ z. unwrap_or z []) (get-set_other files c.0 b.0 file (λ s. both_ways (is_com b (asked_of e.what d.answer)) of (ap (is_com b) (a.asked d.answer) ∙ eq-eqb b.0 c.0 s)));
    logs = λ b. by b (cases_eq b.0 c.0);
  }
    where
      by : (b : ComId) → (b.0 ≡ c.0) ⊎ (b.0 ≡ c.0 → ⊥) → KeepsLog print b (file_of state_behind b) (node_at state_behind.world b)
      by b (inl s) =
          let P : ComId → Type 0 = λ z. KeepsLog print z (file_of state_behind z) (node_at state_behind.world z) in
          let A : List ℕ → Type 0 = λ f. KeepsLog print c f (node_at state_behind.world c) in
          let B : Option Node → Type 0 = λ z. KeepsLog print c file z in
          subst P (sym (let Q : ℕ → ComId = λ n. record { 0 = n } in ap Q s)) (subst A (sym file-behind) (subst B (sym (node-behind d)) log))
      by b (inr other) =
          let B : Option Node → Type 0 = λ z. KeepsLog print b (file_of state_behind b) z in
          subst B (sym (ap (λ ns. slice_get (slice_set ns c.0 d.node) b.0) a.nodes ∙ get-set_other v.nodes c.0 b.0 d.node other ∙ get-set_other (map (λ (y : Component). External) program.components) c.0 b.0 node other))
          (outside print b (file_of state_behind b) program.components b.0)
