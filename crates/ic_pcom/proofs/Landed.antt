-- A planned step is the step of the definition.
use Rattle.std.proofs.Common.{◌≡◌, ◌∙◌, sym, ap, refl, subst, ◌<◌, ◌⊎◌, inl, inr, Bool, true, false, List, [], ◌∷◌, ◌++◌, length, drop, arith, append_assoc, Option, Some, None}
use Rattle.std.specs.Prelude.{not, ◌||◌, ◌&&◌}
use Rattle.std.proofs.lemmas.Bool.{false≢true}
use Rattle.std.proofs.lemmas.List.{append-nil}
use Rattle.ic_base.specs.declared.record.Record.{Record}
use Rattle.ic_base.specs.declared.scenario.Program.{Program}
use Rattle.def_state.specs.Names.{Identity}
use Rattle.def_state.specs.Vol.{Vol, numbers_fit}
use Rattle.def_step.specs.Pcom as step
use Rattle.def_step.specs.Pcom.{Call, Effects, Log, pcom_step, decide, absorb, absorb_choice, carry_out, marked, is_full, all_of}
use Rattle.def_step.specs.Room.{is_empty, has_no_room}
use Rattle.ic_disk.specs.declared.disk.Disk.{Ghosts}
use Rattle.ic_pcom.specs.Effects.{effects_of}
use Rattle.ic_pcom.specs.declared.effects.Effects as decided
use Rattle.ic_gate.specs.RecordCalls.{LacksRoom}
use Rattle.ic_gate.specs.RecordCommits.{adding, split_if, CanTake}
use Rattle.ic_gate.specs.RecordFiles.{CanStand}
use Rattle.ic_gate.specs.RecordLogs.{records_of}
use Rattle.ic_replay.specs.declared.prepared.Prepared.{Prepared}
use Rattle.ic_pcom.specs.Carrying.{up, led, absorbed, marked_in, finished}
use Rattle.ic_pcom.specs.Deciding.{IsDecided, IsPlanned, MayFollow}
use Rattle.ic_pcom.specs.Landing.{effects_in, landed_behind, must_force, batch, landing}
use Rattle.ic_pcom.specs.Stepping.{forced_by, step_of, batch_of, IsFull}
use Rattle.ic_pcom.specs.Views.{component_of, com_of, size_of}
use Rattle.ic_pcom.specs.declared.pcom.Pcom.{Pcom}
use Rattle.ic_pcom.specs.declared.plan.Plan.{Plan}
use Rattle.ic_pcom.specs.declared.plan.Plan.TheVariants.{Adds, AddsNone}
use Rattle.ic_pcom.proofs.Finishes.{log_where, batch_is}
use Rattle.ic_pcom.proofs.Standing.{forced_well}
use Rattle.ic_pcom.proofs.Steps.{no_limit}

has_room : (a b n : Bool) → (a && b) ≡ false → n ≡ true → (a && (b || not n)) ≡ false
has_room true true true ab n = ab
has_room true true false ab n = ab
has_room true false true ab n = refl
has_room true false false ab n = absurd (false≢true n)
has_room false b n ab is = refl

no_room : (a b n : Bool) → (a && b) ≡ true → (a && (b || not n)) ≡ true
no_room true true n ab = refl
no_room true false n ab = absurd (false≢true ab)
no_room false b n ab = ab

passes : (a b n : Bool) → a ≡ true → n ≡ false → (a && (b || not n)) ≡ true
passes true true n a is = refl
passes true false true a is = absurd (false≢true (sym is))
passes true false false a is = refl
passes false b n a is = a

not_empty : (adds : List Record) → 0 < length adds → not (is_empty adds) ≡ true
not_empty [] some = absurd (omega (arith, some))
not_empty (r ∷ rs) some = refl

marked_is : (l : Log) (v : Vol) (m : Option Identity) → marked (up l v) m ≡ up l (marked_in m v)
marked_is l v None = refl
marked_is l v (Some x) = refl

-- a mark passes no limit
pub marked_fits : (m : Option Identity) (v : Vol) → numbers_fit (marked_in m v) ≡ numbers_fit v
marked_fits None v = refl
marked_fits (Some x) v = refl

-- nor does it begin a transaction
pub marked_txn : (m : Option Identity) (v : Vol) → (marked_in m v).txn ≡ v.txn
marked_txn None v = refl
marked_txn (Some x) v = refl

none_added : (l : Log) (adds : List Record) → adds ≡ [] → adding l adds ≡ l
none_added l adds none = ap (adding l) none ∙ ap (λ (b : List Record). record l { buffered = b }) (append-nil l.buffered)

module _ {D : Type 0} {d : Ghosts D} (program : Program) (p : Pcom D d) (call : Call) (v : Vol) (here : component_of p ≡ up (records_of p.log) v) where
  module _ (e : decided.Effects) (prepared : Prepared) (is : IsDecided program p call e prepared) where
    decides : decide program (com_of p) (up (records_of p.log) v) call ≡ effects_of e
    decides = ap (λ (q : step.Pcom). decide program (com_of p) q call) (sym here) ∙ is.decides

    leads : absorb_choice program (com_of p) (effects_of e) (up (records_of p.log) v) ≡ up (adding (records_of p.log) e.adds) (led (com_of p) prepared (records_of p.log) v e.adds)
    leads =
        let Is : step.Pcom → Type 0 = λ q. absorb_choice program (com_of p) (effects_of e) q ≡ absorbed q e.adds (led (com_of p) prepared (records_of p.log) q.vol e.adds) in
        subst Is here is.leads

    added_is : step_of program p call ≡ Some (landing (com_of p) (records_of p.log) v (Adds e prepared))
    added_is =
        ap (λ (q : step.Pcom). pcom_step program (com_of p) q call) here
        ∙ ap (λ (x : Effects). Some (finished (com_of p) v x (absorb_choice program (com_of p) x (up (records_of p.log) v)))) decides
        ∙ ap (λ (q : step.Pcom). Some (finished (com_of p) v (effects_of e) q)) leads

    full_is : is_full program (com_of p) (size_of p) (component_of p) call ≡ (not (is_empty e.adds) && (has_no_room (size_of p) ((records_of p.log).buffered ++ e.adds) || not (numbers_fit (led (com_of p) prepared (records_of p.log) v e.adds))))
    full_is =
        ap (λ (q : step.Pcom). is_full program (com_of p) (size_of p) q call) here
        ∙ ap (λ (x : Effects). not (is_empty x.adds) && (has_no_room (size_of p) (absorb_choice program (com_of p) x (up (records_of p.log) v)).log.buffered || not (numbers_fit (absorb_choice program (com_of p) x (up (records_of p.log) v)).vol))) decides
        ∙ ap (λ (q : step.Pcom). not (is_empty e.adds) && (has_no_room (size_of p) q.log.buffered || not (numbers_fit q.vol))) leads

  module _ (e : decided.Effects) (is : decide program (com_of p) (component_of p) call ≡ effects_of e) (none : e.adds ≡ []) where
    decides_none : decide program (com_of p) (up (records_of p.log) v) call ≡ effects_of e
    decides_none = ap (λ (q : step.Pcom). decide program (com_of p) q call) (sym here) ∙ is

    marked_step : step_of program p call ≡ Some (landing (com_of p) (records_of p.log) v (AddsNone e))
    marked_step =
        let l = records_of p.log in
        ap (λ (q : step.Pcom). pcom_step program (com_of p) q call) here
        ∙ ap (λ (x : Effects). Some (carry_out program (com_of p) (up l v) x)) decides_none
        ∙ ap (λ (a : List Record). Some (finished (com_of p) v (effects_of e) (absorb program (com_of p) e.content (marked (up l v) (effects_of e).marks) a))) none
        ∙ ap (λ (q : step.Pcom). Some (finished (com_of p) v (effects_of e) q)) (marked_is l v (effects_of e).marks)
        ∙ ap (λ (x : Log). Some (finished (com_of p) v (effects_of e) (up x (marked_in (effects_of e).marks v)))) (sym (none_added l e.adds none))

    none_full : IsFull program p call false
    none_full = no_limit program p call v (effects_of e) here decides_none none

  pub planned_is : (plan : Plan) → IsPlanned program p call plan → MayFollow v plan → step_of program p call ≡ Some (landing (com_of p) (records_of p.log) v plan)
  planned_is (Adds e prepared) is may = added_is e prepared is
  planned_is (AddsNone e) is none = marked_step e is none

  -- what it forces
  pub planned_batch : (plan : Plan) → IsPlanned program p call plan → MayFollow v plan → batch_of program p call ≡ batch (com_of p) (records_of p.log) v plan
  planned_batch plan is may =
      let l = records_of p.log in
      let e = effects_in plan in
      let w = landed_behind (com_of p) l v plan in
      ap (forced_by (component_of p)) (planned_is plan is may)
      ∙ ap (λ (x : Log). drop (length l.forced) x.forced) (log_where (com_of p) v w e (adding l e.adds))
      ∙ batch_is (must_force v e w) (adding l e.adds)

  -- it could stand in the file
  pub planned_stands : (plan : Plan) → IsPlanned program p call plan → MayFollow v plan → CanTake p.log (effects_in plan).adds → CanStand (size_of p) (batch_of program p call)
  planned_stands plan is may takes =
      let l = records_of p.log in
      let Stands : List Record → Type 0 = λ b. CanStand (size_of p) b in
      subst Stands (sym (planned_batch plan is may)) (forced_well (size_of p) (must_force v (effects_in plan) (landed_behind (com_of p) l v plan)) (adding l (effects_in plan).adds) takes.stands)

  -- whether it passes a limit
  pub planned_room : (plan : Plan) → IsPlanned program p call plan → MayFollow v plan → LacksRoom p.log (effects_in plan).adds false → numbers_fit (landed_behind (com_of p) (records_of p.log) v plan) ≡ true → IsFull program p call false
  planned_room (Adds e prepared) is may room fits = full_is e prepared is ∙ has_room _ _ _ room fits
  planned_room (AddsNone e) is none room fits = none_full e is none

  pub planned_full : (plan : Plan) → IsPlanned program p call plan → MayFollow v plan → numbers_fit v ≡ true → (LacksRoom p.log (effects_in plan).adds true ⊎ (numbers_fit (landed_behind (com_of p) (records_of p.log) v plan) ≡ false)) → IsFull program p call true
  planned_full (Adds e prepared) is may fits (inl lacks) = full_is e prepared is ∙ no_room _ _ _ lacks
  planned_full (Adds e prepared) is may fits (inr passing) = full_is e prepared is ∙ passes _ _ _ (not_empty e.adds may.some) passing
  planned_full (AddsNone e) is none fits (inl lacks) = absurd (false≢true (ap (λ (a : List Record). not (is_empty a) && has_no_room (size_of p) ((records_of p.log).buffered ++ a)) (sym none) ∙ lacks))
  planned_full (AddsNone e) is none fits (inr passing) = absurd (false≢true (sym passing ∙ marked_fits (effects_of e).marks v ∙ fits))

-- all records of a log behind a commit
pub all_split : (b : Bool) (l : Log) (adds : List Record) → all_of (split_if b (adding l adds)) ≡ all_of l ++ adds
all_split true l adds = append-nil (l.forced ++ (l.buffered ++ adds)) ∙ sym (append_assoc l.forced l.buffered adds)
all_split false l adds = sym (append_assoc l.forced l.buffered adds)
