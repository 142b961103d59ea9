-- Why a component's work isn't done is why the event isn't.
use Rattle.std.proofs.Common.{◌≡◌, ◌∙◌, sym, ap, subst, refl, ℕ, ◌+◌, ◌<◌, ◌≤◌, Bool, true, false, cond, List, [], length, arith, Some, None, option_map}
use Rattle.std.specs.Prelude.{nat_le, slice_get, unwrap_or}
use Rattle.std.proofs.lemmas.Bool.{le-leb, leb-true, false_from_ne_true}
use Rattle.std.proofs.lemmas.List.{length-append}
use Rattle.ic_base.specs.declared.limits.TheConstants.{RECEIPTS, PACKETS}
use Rattle.ic_base.specs.declared.events.Event.{Event}
use Rattle.ic_base.specs.declared.messages.ComId.{ComId}
use Rattle.ic_base.specs.declared.refusals.Which.{Which}
use Rattle.ic_base.specs.declared.refusals.Which.TheVariants.{Receipts, Packets}
use Rattle.ic_base.specs.declared.refusals.WorldRefused.{WorldRefused}
use Rattle.ic_base.specs.declared.refusals.WorldRefused.TheVariants as refused
use Rattle.ic_base.specs.declared.scenario.Program.{Program}
use Rattle.def_log.specs.Frame.{IsForeign}
use Rattle.def_log.specs.Sizes.{size_in}
use Rattle.def_run.specs.CoreSteps.{forced_of, is_full_at}
use Rattle.def_run.specs.Refusals.{IsRefused, PassesPackets, is_past_receipts, node_refusal, down_refusal}
use Rattle.def_run.specs.SystemStates.{file_of, KeepsLog}
use Rattle.def_step.specs.Calls.{node_is_full, receives}
use Rattle.def_step.specs.World.{node_at, is_reached, behind}
use Rattle.ic_disk.specs.TornDisks.{Torn}
use Rattle.ic_disk.specs.declared.disk.Disk.{Ghosts}
use Rattle.ic_node.specs.Calling.{call_of, done_with}
use Rattle.ic_node.specs.Doing.{IsFull}
use Rattle.ic_node.specs.Views as nodes
use Rattle.ic_node.specs.Views.{node_of, com_of, Tells as ComponentTells}
use Rattle.ic_node.specs.declared.component.Component.{Component}
use Rattle.ic_node.specs.declared.done.NodeRefused.{NodeRefused}
use Rattle.ic_node.specs.declared.done.NodeRefused.TheVariants.{Full, Bad, Foreign, Failed, Memory}
use Rattle.ic_world.specs.Acting.{FailsToAct, FailsAt, DidWork, PutsTooMany, ReceivesTooMuch}
use Rattle.ic_world.specs.Allowing.{is_kept, IsMadeFor, is_allowed}
use Rattle.ic_work.specs.Components.{FailsToWork, HasRoom, refusal_of}
use Rattle.ic_world.specs.Standing.{ArePlaced, HoldLogs}
use Rattle.ic_world.specs.Stepping.{IsPastCount}
use Rattle.ic_world.specs.Tasks as tasks
use Rattle.ic_world.specs.Views.{components_of, world_of, state_of, print_of, received_of, Tells}
use Rattle.ic_work.specs.Tasks as work_tasks
use Rattle.ic_work.specs.Working.{work_of, work_receives}
use Rattle.ic_work.specs.declared.work.Work.{Work}
use Rattle.ic_work.specs.declared.work.Work.TheVariants.{Calls, Crashes, Recovers}
use Rattle.ic_world.specs.declared.world.World.{World}
use Rattle.ic_world.proofs.Lists.{get-map, same-com}
use Rattle.ic_world.proofs.Refusals.{receives-is, full-is, never-full, called-is, met-call, met-recovery}
use Rattle.ic_world.proofs.Sizes.{own-log}
use Rattle.ic_work.proofs.Sizes.{sized}
use Rattle.ic_world.proofs.WorkSteps.{component-logs, work-happens, work-core}

module _ {D : Type 0} {d : Ghosts D} (program : Program) (old mid : World D d) (e : Event) (c : ComId) (work : Work) (task : tasks.task_of (world_of old) e.what ≡ tasks.Asks (world_of mid) c (work_of work)) (same : components_of mid ≡ components_of old) (before : Component D d) (at : slice_get (components_of mid) c.0 ≡ Some before) where
  in-place : slice_get (components_of old) c.0 ≡ Some before
  in-place = ap (λ xs. slice_get xs c.0) (sym same) ∙ at

  node-in_place : node_at (world_of old) c ≡ Some (node_of before)
  node-in_place = get-map (λ x. node_of x) (components_of old) c.0 ∙ ap (option_map (λ x. node_of x)) in-place

  receives-by : receives program (world_of old) e.what ≡ work_receives program c (work_of work) (node_of before)
  receives-by = receives-is program (print_of old) (state_of old) e.what e.stop (world_of mid) c (work_of work) task (node_of before) node-in_place

  few-by : received_of mid ≡ received_of old → (work_receives program c (work_of work) (node_of before) ≡ true → received_of mid < RECEIPTS) → is_past_receipts program (world_of old) (received_of old) e.what ≡ false
  few-by received few = ap (λ z. cond z (nat_le RECEIPTS (received_of old)) false) receives-by ∙ by (work_receives program c (work_of work) (node_of before)) refl
    where
      by : (z : Bool) → work_receives program c (work_of work) (node_of before) ≡ z → cond z (nat_le RECEIPTS (received_of old)) false ≡ false
      by true r = false_from_ne_true (nat_le RECEIPTS (received_of old)) (λ l. let over = leb-true RECEIPTS (received_of old) l in let under = few r in omega (arith, received))
      by false r = refl

-- one more receipt would pass its number, whatever the disks tell
past-receipts : {D : Type 0} {d : Ghosts D} (program : Program) (old mid : World D d) (e : Event) (c : ComId) (work : Work) → tasks.task_of (world_of old) e.what ≡ tasks.Asks (world_of mid) c (work_of work) → components_of mid ≡ components_of old → received_of mid ≡ received_of old → ReceivesTooMuch program mid c work
    → is_past_receipts program (world_of old) (received_of old) e.what ≡ true
past-receipts program old mid e c work task same received f =
    let past : RECEIPTS ≤ received_of mid = f.past in
    ap (λ z. cond z (nat_le RECEIPTS (received_of old)) false) (receives-by program old mid e c work task same f.before f.at ∙ f.receives) ∙ le-leb RECEIPTS (received_of old) (omega (arith, received, past))

-- the packets would pass theirs
past-packets : {D : Type 0} {d : Ghosts D} (program : Program) (old mid new : World D d) (e : Event) (c : ComId) (work : Work) → tasks.task_of (world_of old) e.what ≡ tasks.Asks (world_of mid) c (work_of work) → components_of mid ≡ components_of old → received_of mid ≡ received_of old → ArePlaced (components_of old)
    → PutsTooMany program mid e c work new → IsPastCount program (world_of old) (received_of old) e Packets
past-packets program old mid new e c work task same received placed p =
    let past : PACKETS < length (world_of mid).packets + length p.did.done.puts = p.past in (
      few-by program old mid e c work task same p.did.before p.did.at received p.did.few,
      (
        p.did.works.outcome,
        behind (world_of mid) e c (done_with (node_of p.did.now) p.did.done),
        work-happens program old mid e c work task same placed p.did.before p.did.now p.did.done p.did.at p.did.works p.did.kept,
        omega (arith, past, length-append (world_of mid).packets p.did.done.puts),
      ),
    )

pub past-count : {D : Type 0} (b : Ghosts D) {d : Ghosts (Torn D)} (program : Program) (old mid new : World (Torn D) d) (e : Event) (c : ComId) (work : Work) → tasks.task_of (world_of old) e.what ≡ tasks.Asks (world_of mid) c (work_of work) → components_of mid ≡ components_of old → received_of mid ≡ received_of old → ArePlaced (components_of old)
    → (which : Which) → FailsToAct b program mid e c work new (refused.Limit which) → IsPastCount program (world_of old) (received_of old) e which
past-count b program old mid new e c work task same received placed Receipts f = past-receipts program old mid e c work task same received f.0
past-count b program old mid new e c work task same received placed Packets f = past-packets program old mid new e c work task same received placed f

module _ {D : Type 0} (b : Ghosts D) {d : Ghosts (Torn D)} (program : Program) (old mid new : World (Torn D) d) (e : Event) (c : ComId) (work : Work) (task : tasks.task_of (world_of old) e.what ≡ tasks.Asks (world_of mid) c (work_of work)) (same : components_of mid ≡ components_of old) (received : received_of mid ≡ received_of old) (print : print_of mid ≡ print_of old) (placed : ArePlaced (components_of old)) (logs : HoldLogs (print_of old) (components_of old)) (tells : Tells old) where
  module _ (before : Component (Torn D) d) (at : slice_get (components_of mid) c.0 ≡ Some before) where
    there : slice_get (components_of old) c.0 ≡ Some before
    there = in-place program old mid e c work task same before at

    node-there : node_at (world_of old) c ≡ Some (node_of before)
    node-there = node-in_place program old mid e c work task same before at

    file-there : file_of (state_of old) c ≡ nodes.file_of before
    file-there = ap (λ o. unwrap_or o []) (get-map (λ x. nodes.file_of x) (components_of old) c.0 ∙ ap (option_map (λ x. nodes.file_of x)) there)

    which : com_of before ≡ c
    which = same-com (com_of before) c (placed c.0 before there).0

    told : ComponentTells before
    told = tells c.0 before there

    log : KeepsLog (print_of old) c (nodes.file_of before) (Some (node_of before))
    log = component-logs (print_of old) (components_of old) c before logs there told

    receives-there : receives program (world_of old) e.what ≡ work_receives program c (work_of work) (node_of before)
    receives-there = receives-by program old mid e c work task same before at

    no-foreign : is_kept (Some (node_of before)) ≡ true → (kept : List ℕ) → IsForeign (print_of old) (nodes.file_of before) kept → ⊥
    no-foreign k kept f = let own = own-log (print_of old) c (nodes.file_of before) (node_of before) k log in f.2 (f.1 ∙ own.own)

    few-receipts : (work_receives program c (work_of work) (node_of before) ≡ true → received_of mid < RECEIPTS) → is_past_receipts program (world_of old) (received_of old) e.what ≡ false
    few-receipts few = few-by program old mid e c work task same before at received few

    full-there : (is : Bool) (number : ℕ) (call : _) → work ≡ Calls number call → is_kept (Some (node_of before)) ≡ true → IsFull program before call is → is_full_at program (state_of old) e.what ≡ is
    full-there is number call w k full =
        let T : Work → Type 0 = λ z. tasks.task_of (world_of old) e.what ≡ tasks.Asks (world_of mid) c (work_of z) in
        full-is program (print_of old) (state_of old) e.what e.stop (world_of mid) c number (call_of call) (subst T w task)
        ∙ ap (λ o. elim o [ None ↦ false | Some n ↦ elim (size_in (file_of (state_of old) c)) [ None ↦ false | Some s ↦ node_is_full program c (call_of call) s n ] ]) node-there
        ∙ ap (λ f. elim (size_in f) [ None ↦ false | Some s ↦ node_is_full program c (call_of call) s (node_of before) ]) file-there
        ∙ ap (λ o. elim o [ None ↦ false | Some s ↦ node_is_full program c (call_of call) s (node_of before) ]) (sized (nodes.file_of before) (forced_of (Some (node_of before))) (own-log (print_of old) c (nodes.file_of before) (node_of before) k log).holds)
        ∙ ap (λ z. node_is_full program z (call_of call) (unwrap_or (size_in (nodes.file_of before)) 0) (node_of before)) (sym which)
        ∙ full told (unwrap_or (size_in (nodes.file_of before)) 0) (sized (nodes.file_of before) (forced_of (Some (node_of before))) (own-log (print_of old) c (nodes.file_of before) (node_of before) k log).holds)

    module _ (k : is_kept (Some (node_of before)) ≡ true) (few : work_receives program c (work_of work) (node_of before) ≡ true → received_of mid < RECEIPTS) where
      given : (kept : List ℕ) → IsForeign (print_of mid) (nodes.file_of before) kept → ⊥
      given kept f = let P : List ℕ → Type 0 = λ z. IsForeign z (nodes.file_of before) kept in no-foreign k kept (subst P print f)

      call-refused : (number : ℕ) (call : _) → work ≡ Calls number call → (now : Component (Torn D) d) (why : NodeRefused) → FailsToWork b program (print_of mid) before e.stop (Calls number call) now why → IsRefused program (print_of old) (state_of old) (received_of old) e (refusal_of c why)
      call-refused number call w now Full f =
          let T : Work → Type 0 = λ z. tasks.task_of (world_of old) e.what ≡ tasks.Asks (world_of mid) c (work_of z) in
          (few-receipts few, full-there true number call w k f.cause.0, called-is program (print_of old) (state_of old) e.what e.stop (world_of mid) c number (call_of call) (subst T w task))
      call-refused number call w now (Bad place) f =
          let T : Work → Type 0 = λ z. tasks.task_of (world_of old) e.what ≡ tasks.Asks (world_of mid) c (work_of z) in
          met-call program (print_of old) (state_of old) e.what e.stop (world_of mid) c number (call_of call) (subst T w task) (node_of before) node-there
          ∙ ap (λ z. node_refusal program c z (call_of call) (node_of before)) file-there
          ∙ ap (λ z. node_refusal program z (nodes.file_of before) (call_of call) (node_of before)) (sym which)
          ∙ f.cause told
          ∙ ap (λ z. Some (refused.Bad z place)) which
      call-refused number call w now (Foreign kept) f = absurd (given kept (f.cause told))
      call-refused number call w now Failed f = tt
      call-refused number call w now Memory f = tt

      recovery-refused : work ≡ Recovers → (now : Component (Torn D) d) (why : NodeRefused) → FailsToWork b program (print_of mid) before e.stop Recovers now why → IsRefused program (print_of old) (state_of old) (received_of old) e (refusal_of c why)
      recovery-refused w now Full f = absurd f
      recovery-refused w now (Bad place) f =
          let T : Work → Type 0 = λ z. tasks.task_of (world_of old) e.what ≡ tasks.Asks (world_of mid) c (work_of z) in
          met-recovery program (print_of old) (state_of old) e.what e.stop (world_of mid) c (subst T w task) (node_of before) node-there
          ∙ ap (λ z. down_refusal program (print_of old) c e.stop z (node_of before)) file-there
          ∙ ap (λ z. down_refusal program (print_of old) z e.stop (nodes.file_of before) (node_of before)) (sym which)
          ∙ ap (λ z. down_refusal program z (com_of before) e.stop (nodes.file_of before) (node_of before)) (sym print)
          ∙ f told
          ∙ ap (λ z. Some (refused.Bad z place)) which
      recovery-refused w now (Foreign kept) f = absurd (given kept (f told))
      recovery-refused w now Failed f = tt
      recovery-refused w now Memory f = tt

      pub work-refused : (now : Component (Torn D) d) (why : NodeRefused) → FailsToWork b program (print_of mid) before e.stop work now why → IsRefused program (print_of old) (state_of old) (received_of old) e (refusal_of c why)
      work-refused now why f = by work refl f
        where
          by : (z : Work) → work ≡ z → FailsToWork b program (print_of mid) before e.stop z now why → IsRefused program (print_of old) (state_of old) (received_of old) e (refusal_of c why)
          by (Calls number call) w g = call-refused number call w now why g
          by Crashes w g = let P : NodeRefused → Type 0 = λ z. IsRefused program (print_of old) (state_of old) (received_of old) e (refusal_of c z) in subst P (sym g.0) tt
          by Recovers w g = recovery-refused w now why g

  too-many : is_reached e.stop 0 ≡ false → IsMadeFor program (world_of old) → is_allowed program e.what ≡ true → PutsTooMany program mid e c work new → PassesPackets program (print_of old) (state_of old) e
  too-many unreached made allowed p = record {
    done = _;
    step = work-core program old mid e c work task same placed p.did.before p.did.now p.did.done p.did.at p.did.works p.did.kept unreached made allowed logs tells;
    past = omega (arith, p.past, length-append (world_of mid).packets p.did.done.puts);
  }

  -- work that is done passes no limit
  pub did-fit : is_reached e.stop 0 ≡ false → IsMadeFor program (world_of old) → is_allowed program e.what ≡ true → DidWork program mid e c work new → is_full_at program (state_of old) e.what ≡ false
  did-fit unreached made allowed p = (work-core program old mid e c work task same placed p.before p.now p.done p.at p.works p.kept unreached made allowed logs tells).fits

  -- nor does that which isn't done, where it would pass none
  pub would-fit : (why : WorldRefused) (g : FailsAt b program mid e c work new why) → HasRoom program g.before work → is_full_at program (state_of old) e.what ≡ false
  would-fit why g room = by work refl room
    where
      by : (w : Work) → work ≡ w → HasRoom program g.before w → is_full_at program (state_of old) e.what ≡ false
      by (Calls number call) w r = full-there g.before g.at false number call w g.has_disk r
      by Crashes w r = let T : Work → Type 0 = λ z. tasks.task_of (world_of old) e.what ≡ tasks.Asks (world_of mid) c (work_of z) in never-full program (state_of old) e.what (world_of mid) c work_tasks.Crashes refl (subst T w task)
      by Recovers w r = let T : Work → Type 0 = λ z. tasks.task_of (world_of old) e.what ≡ tasks.Asks (world_of mid) c (work_of z) in never-full program (state_of old) e.what (world_of mid) c work_tasks.Recovers refl (subst T w task)

  failed : (why : WorldRefused) → FailsAt b program mid e c work new why → IsRefused program (print_of old) (state_of old) (received_of old) e why
  failed why g = let P : WorldRefused → Type 0 = λ z. IsRefused program (print_of old) (state_of old) (received_of old) e z in subst P (sym g.is) (work-refused g.before g.at g.has_disk g.few g.now g.node_why g.fails)

  pub act-refused : is_reached e.stop 0 ≡ false → IsMadeFor program (world_of old) → is_allowed program e.what ≡ true → (why : WorldRefused) → FailsToAct b program mid e c work new why → IsRefused program (print_of old) (state_of old) (received_of old) e why
  act-refused unreached made allowed (refused.Limit Receipts) f = past-receipts program old mid e c work task same received f.0
  act-refused unreached made allowed (refused.Limit Packets) f = too-many unreached made allowed f
  act-refused unreached made allowed refused.Memory f = tt
  act-refused unreached made allowed (refused.LogFull x) f = failed (refused.LogFull x) f
  act-refused unreached made allowed (refused.Bad x place) f = failed (refused.Bad x place) f
  act-refused unreached made allowed (refused.Foreign x kept) f = failed (refused.Foreign x kept) f
  act-refused unreached made allowed (refused.Failed x) f = tt
