-- A step that leaves the component as it is.
use Rattle.std.proofs.Common.{◌≡◌, ◌∙◌, sym, ap, refl, Bool, true, false, cond, List, [], ◌∷◌, Some}
use Rattle.std.specs.Prelude.{not, ◌&&◌, is_some}
use Rattle.std.proofs.Math.Seq.{drop-length}
use Rattle.ic_base.specs.declared.messages.Packet.{Packet}
use Rattle.ic_base.specs.declared.record.Record.TheVariants.{Checkpoint}
use Rattle.ic_base.specs.declared.scenario.Program.{Program}
use Rattle.def_state.specs.Image.{image_of}
use Rattle.def_step.specs.Pcom.{Call, Checkpoints, Effects, told, just_tail, nothing_at_all, decide, is_replaying, in_hand}
use Rattle.ic_disk.specs.declared.disk.Disk.{Ghosts}
use Rattle.ic_gate.specs.RecordCalls.{size_with}
use Rattle.ic_gate.specs.RecordLogs.{records_of}
use Rattle.ic_pcom.specs.Carrying.{up}
use Rattle.ic_pcom.specs.Stages.{vol_of}
use Rattle.ic_pcom.specs.Stepping.{forced_by, step_of, batch_of, IsFull, Does}
use Rattle.ic_pcom.specs.Views.{component_of, com_of, size_of, is_closed, told_of}
use Rattle.ic_pcom.specs.declared.pcom.Pcom.{Pcom}
use Rattle.ic_pcom.specs.declared.step.Step.{Step}
use Rattle.ic_pcom.proofs.Planned.{up_is, stands_up}
use Rattle.ic_pcom.proofs.Steps.{replays_within, replays_idly, stands_idly, no_limit}

module _ {D : Type 0} {d : Ghosts D} (program : Program) (p : Pcom D d) (call : Call) where
  -- nothing is forced
  pub none_forced_by : (puts : List Packet) (e : Effects) → step_of program p call ≡ Some (told (component_of p) puts e) → batch_of program p call ≡ []
  none_forced_by puts e makes = ap (forced_by (component_of p)) makes ∙ drop-length (component_of p).log.forced

  -- the component stays, and this is told
  pub stays_does : (puts : List Packet) (e : Effects) (tells : Step) → step_of program p call ≡ Some (told (component_of p) puts e) → IsFull program p call false
      → is_closed p ≡ false → tells ≡ told_of (told (component_of p) puts e) → Does program p call p tells
  stays_does puts e tells makes room opened is = record {
    result = told (component_of p) puts e;
    step = makes;
    leads = refl;
    tells = is;
    room = room;
    size = ap (size_with (size_of p)) (sym (none_forced_by puts e makes));
    played = refl;
    is_open = opened;
  }

-- a checkpoint while it replays, or with something in hand
module _ {D : Type 0} {d : Ghosts D} (program : Program) (p : Pcom D d) where
  none_decided : is_some (vol_of p.stage).hand ≡ true → decide program (com_of p) (up (records_of p.log) (vol_of p.stage)) Checkpoints ≡ nothing_at_all
  none_decided held = ap (λ (b : Bool). cond b nothing_at_all (record just_tail { adds = Checkpoint (image_of (vol_of p.stage)) ∷ []; forces = true; covers = true })) held

  misses_by : (r h : Bool) → is_replaying (component_of p) ≡ r → in_hand (component_of p) ≡ h → (not r && not h) ≡ false
      → (step_of program p Checkpoints ≡ Some (told (component_of p) [] nothing_at_all)) × IsFull program p Checkpoints false
  misses_by true h replays held idle = (replays_idly program p Checkpoints replays refl, replays_within program p Checkpoints replays)
  misses_by false true replays held idle =
      let v = vol_of p.stage in
      let here = stands_up p v (up_is p replays) refl in
      (stands_idly program p Checkpoints v here (none_decided held), no_limit program p Checkpoints v nothing_at_all here (none_decided held) refl)
  misses_by false false replays held idle = cc

  pub misses : (not (is_replaying (component_of p)) && not (in_hand (component_of p))) ≡ false → (step_of program p Checkpoints ≡ Some (told (component_of p) [] nothing_at_all)) × IsFull program p Checkpoints false
  misses idle = misses_by (is_replaying (component_of p)) (in_hand (component_of p)) refl refl idle

-- else it is up, with nothing in hand
pub free_by : (r h : Bool) → (not r && not h) ≡ true → (r ≡ false) × (h ≡ false)
free_by true h is = cc
free_by false true is = cc
free_by false false is = (refl, refl)
