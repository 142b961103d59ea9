-- A checkpoint whose image no log has room for.
use Rattle.std.proofs.Common.{◌≡◌, ◌∙◌, sym, ap, refl, subst, ℕ, ◌+◌, ◌<◌, ◌≤◌, Bool, true, false, cond, List, [], ◌∷◌, ◌++◌, length, arith, Option, None}
use Rattle.std.specs.Prelude.{not, ◌&&◌, ◌||◌, is_some, nat_lt}
use Rattle.std.proofs.lemmas.Bool.{lt-ltb}
use Rattle.std.proofs.lemmas.List.Sums.{sum_by-cons}
use Rattle.ic_base.specs.declared.limits.TheConstants.{LOG_BYTES}
use Rattle.ic_base.specs.declared.played.Played.{Played}
use Rattle.ic_base.specs.declared.record.Record.{Record}
use Rattle.ic_base.specs.declared.record.Record.TheVariants.{Checkpoint}
use Rattle.ic_base.specs.declared.scenario.Program.{Program}
use Rattle.def_state.specs.Image.{image_of}
use Rattle.def_state.specs.Positions.{record_length, end_of}
use Rattle.def_state.specs.Vol.{Vol, numbers_fit}
use Rattle.def_step.specs.Pcom as step
use Rattle.def_step.specs.Pcom.{Checkpoints, Effects, all_of, decide, absorb_choice, is_full, just_tail, nothing_at_all}
use Rattle.def_step.specs.Room.{is_empty, has_no_room}
use Rattle.ic_disk.specs.declared.disk.Disk.{Ghosts}
use Rattle.ic_pcom.specs.Effects.{effects_of}
use Rattle.ic_pcom.specs.declared.effects.Effects as given
use Rattle.ic_gate.specs.declared.refusals.StepRefused.{StepRefused}
use Rattle.ic_gate.specs.declared.refusals.StepRefused.TheVariants.{Failed, Stopped, Full, Memory}
use Rattle.ic_gate.specs.RecordLogs.{records_of}
use Rattle.ic_replay.specs.Applying.{come_to_if}
use Rattle.ic_replay.specs.declared.prepared.Prepared.{Prepared}
use Rattle.ic_pcom.specs.Carrying.{absorbed, led, up}
use Rattle.ic_pcom.specs.Deciding.{IsDecided}
use Rattle.ic_pcom.specs.Imaging.{FailsToImage}
use Rattle.ic_pcom.specs.Stepping.{IsFull, FailsToStep}
use Rattle.ic_pcom.specs.Views.{component_of, com_of, size_of, is_closed}
use Rattle.ic_pcom.specs.declared.pcom.Pcom.{Pcom}
use Rattle.ic_pcom.proofs.Still.{unmoved}

-- what is decided of it
abbrev pub checkpointing : Vol → Effects
checkpointing v = record just_tail { adds = Checkpoint (image_of v) ∷ []; forces = true; covers = true }

more_behind : (rs : List Record) (image : List ℕ) → length image ≤ end_of (rs ++ Checkpoint image ∷ [])
more_behind [] image = omega (arith, sum_by-cons record_length (Checkpoint image) [])
more_behind (r ∷ rs) image = omega (arith, sum_by-cons record_length r (rs ++ Checkpoint image ∷ []), more_behind rs image)

some_behind : (rs : List Record) (r : Record) → not (is_empty (rs ++ r ∷ [])) ≡ true
some_behind [] r = refl
some_behind (s ∷ rs) r = refl

lacks : (size : ℕ) (rs : List Record) (image : List ℕ) → LOG_BYTES < length image → has_no_room size (rs ++ Checkpoint image ∷ []) ≡ true
lacks size rs image long =
    ap (λ (b : Bool). b && nat_lt LOG_BYTES (size + 5 + end_of (rs ++ Checkpoint image ∷ []))) (some_behind rs (Checkpoint image))
    ∙ lt-ltb LOG_BYTES (size + 5 + end_of (rs ++ Checkpoint image ∷ [])) (omega (arith, long, more_behind rs image))

module _ {D : Type 0} {d : Ghosts D} (program : Program) (p : Pcom D d) (v : Vol) (here : component_of p ≡ up (records_of p.log) v) (free : is_some v.hand ≡ false) where
  pub image_decided : decide program (com_of p) (up (records_of p.log) v) Checkpoints ≡ checkpointing v
  image_decided = ap (λ (b : Bool). cond b nothing_at_all (checkpointing v)) free

  too_long : LOG_BYTES < length (image_of v) → IsFull program p Checkpoints true
  too_long long =
      let q = up (records_of p.log) v in
      ap (λ (x : step.Pcom). is_full program (com_of p) (size_of p) x Checkpoints) here
      ∙ ap (λ (e : Effects). not (is_empty e.adds) && (has_no_room (size_of p) (absorb_choice program (com_of p) e q).log.buffered || not (numbers_fit (absorb_choice program (com_of p) e q).vol))) image_decided
      ∙ ap (λ (b : Bool). b || not (numbers_fit v)) (lacks (size_of p) (records_of p.log).buffered (image_of v) long)

  pub not_imaged : is_closed p ≡ false → (why : StepRefused) → FailsToImage v why → FailsToStep program p Checkpoints p why
  not_imaged opened Failed fails = absurd fails
  not_imaged opened Stopped fails = absurd fails
  not_imaged opened Full fails = (unmoved p opened, too_long fails)
  not_imaged opened Memory fails = unmoved p opened

  -- what was decided is that, and leads to the same state
  pub image_leads : (e : given.Effects) (prepared : Prepared) → effects_of e ≡ checkpointing v → prepared.played ≡ None → IsDecided program p Checkpoints e prepared
  image_leads e prepared is none =
      let l = records_of p.log in
      let r = Checkpoint (image_of v) in
      let Leads : Effects → step.Pcom → Type 0 = λ x q. absorb_choice program (com_of p) x q ≡ absorbed q x.adds (led (com_of p) prepared l q.vol x.adds) in
      let plain : Leads (checkpointing v) (up l v) = ap (λ (o : Option Played). absorbed (up l v) (r ∷ []) (come_to_if (com_of p) (end_of (all_of l ++ r ∷ [])) v o)) (sym none) in
      record {
        decides = ap (λ (q : step.Pcom). decide program (com_of p) q Checkpoints) here ∙ image_decided ∙ sym is;
        leads = subst (λ (q : step.Pcom). Leads (effects_of e) q) (sym here) (subst (λ (x : Effects). Leads x (up l v)) (sym is) plain);
      }
