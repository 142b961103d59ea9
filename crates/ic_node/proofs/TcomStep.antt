-- What a packet comes to at a Tcom, as a step of a component.
use Rattle.std.proofs.Common.{◌≡◌, ◌∙◌, refl, sym, ap, subst, inl, inr, ℕ, ◌-◌, ◌≤◌, Bool, true, false, cond, List, [], ◌++◌, length, drop, Option, Some, None}
use Rattle.std.specs.Prelude.{Result, Ok, Err, ◌⊎◌, option_to_list}
use Rattle.std.proofs.Math.Logic.{∥∥₁_map}
use Rattle.std.proofs.lemmas.List.{append-nil, drop_at}
use Rattle.ic_base.specs.declared.events.Answer.TheVariants as answers
use Rattle.ic_base.specs.declared.limits.TheConstants.{COMPONENTS}
use Rattle.ic_base.specs.declared.messages.Packet.{Packet}
use Rattle.ic_base.specs.declared.record.Record.{Record}
use Rattle.ic_base.specs.declared.scenario.Program.{Program}
use Rattle.def_log.specs.Directory.{slots_in}
use Rattle.def_log.specs.Gated.{GatedWrite, mark_writes}
use Rattle.def_log.specs.Spelling.{spellings}
use Rattle.def_step.specs.Calls.{node_is_full}
use Rattle.def_step.specs.Pcom.{Gets}
use Rattle.def_step.specs.Tcom as tcom
use Rattle.def_step.specs.World as world
use Rattle.def_step.specs.World.{Serves, does, tcom_fate}
use Rattle.ic_disk.specs.Disk.{CrashLeaves, Makes}
use Rattle.ic_disk.specs.declared.disk.Disk.{Ghosts}
use Rattle.ic_disk.proofs.Disks.{makes_named, makes_refused}
use Rattle.ic_gate.specs.Calls.{gated_calls, force_writes}
use Rattle.ic_gate.specs.RecordCalls.{record_writes}
use Rattle.ic_gate.specs.declared.refusals.StepRefused.{StepRefused}
use Rattle.ic_gate.specs.declared.refusals.StepRefused.TheVariants as plain
use Rattle.ic_pcom.specs.Stepping.{packet_refusal}
use Rattle.ic_pcom.specs.declared.step.PacketRefused.{PacketRefused}
use Rattle.ic_pcom.specs.declared.step.PacketRefused.TheVariants as packet
use Rattle.ic_gate.specs.RecordFiles.{IsBeforeOrBehind, CanStand}
use Rattle.ic_tcom.specs.Serving as serving
use Rattle.ic_tcom.specs.Serving.{step_of, calls_of, IsFull, IsUnmoved, KeepsLog, IsBeforeOrServed, FailsToServe}
use Rattle.ic_tcom.specs.Views.{component_of, com_of, disk_of, size_of, is_closed}
use Rattle.ic_tcom.specs.declared.tcom.Tcom.{Tcom}
use Rattle.ic_node.specs.Calling.{done_with, told_served}
use Rattle.ic_node.specs.Meeting.{adds_in}
use Rattle.ic_node.specs.Sittings.{SittingsFit, AsksFit}
use Rattle.ic_node.specs.Steps as steps
use Rattle.ic_node.specs.Steps.{FailsToStep, StepsOver}
use Rattle.ic_node.specs.declared.done.Done.{Done}
use Rattle.ic_node.proofs.Growing.{tcom_grows}
use Rattle.ic_node.proofs.Sittings.{decision_fits, sittings_stay}
use Rattle.ic_node.proofs.Stands.{both_false, can_stand}

module _ {D : Type 0} {d : Ghosts D} (program : Program) (old : Tcom D d) (p : Packet) (number : ℕ) (new : Tcom D d) where
  added : adds_in (Serves (component_of old)) (does program (com_of old) (Serves (component_of old)) number (Gets p)) ≡ (step_of program old p).adds
  added = ap (drop (length (component_of old).records)) (tcom_grows program (com_of old) (component_of old) p).0 ∙ drop_at (component_of old).records (step_of program old p).adds (length (component_of old).records) refl

  left : CrashLeaves d (disk_of old) (disk_of new) (IsBeforeOrServed program old p)
      → CrashLeaves d (disk_of old) (disk_of new) (IsBeforeOrBehind (d.seen (disk_of old)) (component_of old).records (adds_in (Serves (component_of old)) (does program (com_of old) (Serves (component_of old)) number (Gets p))))
  left leaves = subst (λ (rs : List Record). CrashLeaves d (disk_of old) (disk_of new) (IsBeforeOrBehind (d.seen (disk_of old)) (component_of old).records rs)) (sym added) leaves

  -- how many slots of the log's directory are open
  abbrev used : ℕ
  used = length (slots_in (d.seen (disk_of old)))

  -- a decision isn't marked
  unmarked : record_writes (size_of old) used (step_of program old p).adds ≡ force_writes (size_of old) (spellings (step_of program old p).adds)
  unmarked =
      ap (λ t. force_writes (size_of old) (spellings (step_of program old p).adds) ++ cond t (mark_writes used (size_of old - 1)) []) (tcom_grows program (com_of old) (component_of old) p).1
      ∙ append-nil (force_writes (size_of old) (spellings (step_of program old p).adds))

  makes : (ok : Bool) (failed named : Type 0) → (failed → named) → Makes d (calls_of program old p) ok failed (disk_of old) (disk_of new)
      → Makes d (gated_calls (record_writes (size_of old) used (adds_in (Serves (component_of old)) (does program (com_of old) (Serves (component_of old)) number (Gets p))))) ok named (disk_of old) (disk_of new)
  makes ok failed named is made =
      subst (λ (ws : List GatedWrite). Makes d (gated_calls ws) ok named (disk_of old) (disk_of new)) (sym unmarked ∙ ap (λ (rs : List Record). record_writes (size_of old) used rs) (sym added)) (makes_named named is made)

  -- the packet is served
  pub served_so : (answer : Option Packet) (done : Done) → serving.Serves program old p new answer → KeepsLog old new → CrashLeaves d (disk_of old) (disk_of new) (IsBeforeOrServed program old p)
      → Makes d (calls_of program old p) true (◌≡◌ {A = Result (Option Packet) StepRefused} (Ok answer) (Err plain.Failed)) (disk_of old) (disk_of new) → done ≡ told_served program (com_of old) number p (option_to_list answer)
      → StepsOver d program (com_of old) (Serves (component_of old)) (disk_of old) number (Gets p) (Serves (component_of new)) (disk_of new) (Ok done)
  served_so answer done serves log crash calls is =
      let told : List Packet → world.Node → world.Done = λ puts node. record { node = node; answer = answers.Packet number p (tcom_fate program (com_of old) p puts); puts = puts; shown = None; aborted = None } in
      record {
        size = size_of old;
        used = used;
        sized = log.sized;
        listed = λ tells. refl;
        disk = log.disk;
        crash = left crash;
        calls = makes true _ _ (λ e. cc) calls;
        step = record {
          step = ap (λ (t : tcom.Tcom). Some (told (step_of program old p).puts (Serves t))) serves.leads ∙ ap (λ puts. Some (told puts (Serves (component_of new)))) serves.puts
              ∙ ap (λ (e : Done). Some (done_with (Serves (component_of new)) e)) (sym is);
          room = serves.room;
          whose = λ tells. log.whose tells serves.is_open;
          reads = λ tells. log.log tells serves.is_open;
          played = ap (λ (e : Done). e.played) is;
        };
        refused = tt;
        rests = tt;
      }

  -- it is served, and there is no room to tell it
  pub untold_so : (failed : Type 0) → IsFull program old p false → is_closed new ≡ false → KeepsLog old new → CrashLeaves d (disk_of old) (disk_of new) (IsBeforeOrServed program old p) → Makes d (calls_of program old p) true failed (disk_of old) (disk_of new)
      → StepsOver d program (com_of old) (Serves (component_of old)) (disk_of old) number (Gets p) (Serves (component_of new)) (disk_of new) (Err packet.Memory)
  untold_so failed room is_open log crash calls = record {
    size = size_of old;
    used = used;
    sized = log.sized;
    listed = λ tells. refl;
    disk = log.disk;
    crash = left crash;
    calls = makes false _ _ (λ e. e) (makes_refused _ calls);
    step = tt;
    refused = λ keeps. new.durable keeps is_open;
    rests = inl room;
  }

  still_so : IsUnmoved old new → steps.IsUnmoved d (Serves (component_of old)) (disk_of old) (Serves (component_of new)) (disk_of new)
  still_so still = (ap Serves still.same, still.bytes, λ keeps. new.durable keeps still.is_open)

  fails_so : (why : StepRefused) → length program.components ≤ COMPONENTS → ∥ SittingsFit (component_of old).sittings ∥₁ → FailsToServe program old p new why
      → FailsToStep d program (com_of old) (Serves (component_of old)) (disk_of old) number (Gets p) (size_of old) (Serves (component_of new)) (disk_of new) (packet_refusal why)
  fails_so plain.Full few fit fails = (fails.1, still_so fails.0)
  fails_so plain.Memory few fit fails = (still_so fails).2
  fails_so plain.Failed few fit fails = fails.1
  fails_so plain.Stopped few fit fails =
      let roomy = both_false _ _ fails.2 in
      let fits = ∥∥₁_map fit (λ f. decision_fits program few (component_of old) f (com_of old) p roomy.1) in
      (fails.1, fails.2, subst (λ (rs : List Record). CanStand (size_of old) rs) (sym added) (can_stand (size_of old) (step_of program old p).adds fits roomy.0))

  rests_so : (why : StepRefused) → FailsToServe program old p new why
      → (node_is_full program (com_of old) (Gets p) (size_of old) (Serves (component_of old)) ≡ false) ⊎ steps.IsUnmoved d (Serves (component_of old)) (disk_of old) (Serves (component_of new)) (disk_of new)
  rests_so plain.Full fails = inr (still_so fails.0)
  rests_so plain.Memory fails = inr (still_so fails)
  rests_so plain.Failed fails = inl fails.2
  rests_so plain.Stopped fails = inl fails.2

  named_so : (why : StepRefused) → ◌≡◌ {A = Result (Option Packet) StepRefused} (Err why) (Err plain.Failed) → ◌≡◌ {A = Result Done PacketRefused} (Err (packet_refusal why)) (Err packet.Failed)
  named_so plain.Failed e = refl
  named_so plain.Stopped e = cc
  named_so plain.Full e = cc
  named_so plain.Memory e = cc

  -- it is refused
  pub unserved_so : (why : StepRefused) → length program.components ≤ COMPONENTS → ∥ SittingsFit (component_of old).sittings ∥₁ → KeepsLog old new → CrashLeaves d (disk_of old) (disk_of new) (IsBeforeOrServed program old p)
      → Makes d (calls_of program old p) false (◌≡◌ {A = Result (Option Packet) StepRefused} (Err why) (Err plain.Failed)) (disk_of old) (disk_of new) → FailsToServe program old p new why
      → StepsOver d program (com_of old) (Serves (component_of old)) (disk_of old) number (Gets p) (Serves (component_of new)) (disk_of new) (Err (packet_refusal why))
  unserved_so why few fit log crash calls fails = record {
    size = size_of old;
    used = used;
    sized = log.sized;
    listed = λ tells. refl;
    disk = log.disk;
    crash = left crash;
    calls = makes false _ _ (named_so why) calls;
    step = tt;
    refused = fails_so why few fit fails;
    rests = rests_so why fails;
  }

  -- the open sessions still fit
  pub tcom_fit : (answer : Option Packet) → SittingsFit (component_of old).sittings → AsksFit p → serving.Serves program old p new answer → SittingsFit (component_of new).sittings
  tcom_fit answer fit asked serves = subst (λ (t : tcom.Tcom). SittingsFit t.sittings) serves.leads (sittings_stay (component_of old) fit program (com_of old) p asked)
