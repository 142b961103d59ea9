-- A stop that is reached comes within a load, or within a force of records that stand behind those that are forced.
use Rattle.std.proofs.Common.{◌≡◌, refl, ◌∙◌, ap, sym, subst, ℕ, ◌<◌, ◌≤◌, nat_le, nat_lt, Bool, true, false, cond, ◌&&◌, List, [], ◌∷◌, ◌++◌, length, Option, Some, None, option_map, ◌⊎◌, inl, inr, ⊎_elim, arith, drop}
use Rattle.std.specs.Prelude.{is_some, ⊤}
use Rattle.std.proofs.lemmas.List.{append_assoc, length-append}
use Rattle.std.proofs.lemmas.Option.{same_Some}
use Rattle.ic_base.specs.declared.messages.ComId.{ComId}
use Rattle.ic_base.specs.declared.messages.Packet.{Packet}
use Rattle.ic_base.specs.declared.events.Answer.{Answer}
use Rattle.ic_base.specs.declared.events.Answer.TheVariants as answers
use Rattle.ic_base.specs.declared.events.Fate.TheVariants as fates
use Rattle.ic_base.specs.declared.scenario.Program.{Program}
use Rattle.ic_base.specs.declared.record.Record.{Record}
use Rattle.ic_base.specs.declared.record.Record.TheVariants as records
use Rattle.ic_base.specs.Programs.{is_a_tcom}
use Rattle.def_step.specs.Packets.{fits_tcom}
use Rattle.def_step.specs.Pcom.{Pcom, Call, Gives, Gets, Forces, Checkpoints, Resends, Emits, StepKind, Took, Fed, Busy, Changed, Same, StepResult, is_empty, is_replaying, in_hand, pcom_step, recover_pcom}
use Rattle.def_step.specs.Tcom.{Tcom, tcom_step, recover_tcom}
use Rattle.def_step.specs.World.{Node, Runs, Serves, Down, External, Done, just, done_as, does, tcom_does, is_drop, used_fate, fate_of, no_packets, answer_of, answer_down, up_answer, device_calls, comes_up, force_calls}
use Rattle.def_run.specs.CoreSteps.{is_stopped, is_stopped_fate, loads_first}
use Rattle.def_facts.specs.World.{forced_of}
use Rattle.law_replay.proofs.Lists.{mapped}
use Rattle.law_tcom.proofs.Recovering.{steps_add}
use Rattle.law_step.proofs.Recoveries.{epoch-added}
use Rattle.law_step.proofs.Shapes.{Shape, step-shape}

le-is : (m n : ℕ) → nat_le m n ≡ true → m ≤ n
le-is m n e = grind (arith, e)

lt-is : (m n : ℕ) → nat_lt m n ≡ true → m < n
lt-is m n e = grind (arith, e)

-- answers without a stop --------------------------------------------------------------------------------------

cond-goes : (b : Bool) (x y : Answer) → is_stopped x ≡ false → is_stopped y ≡ false → is_stopped (cond b x y) ≡ false
cond-goes true x y f g = f
cond-goes false x y f g = g

used-goes : (puts : List Packet) → is_stopped_fate (used_fate puts) ≡ false
used-goes [] = refl
used-goes (p ∷ ps) = refl

kind-goes : (k : StepKind) (puts : List Packet) → is_stopped_fate (fate_of k puts) ≡ false
kind-goes Took puts = refl
kind-goes Fed puts = refl
kind-goes Busy puts = refl
kind-goes Changed puts = refl
kind-goes Same puts = used-goes puts

pcom-goes : (p : Pcom) (number : ℕ) (call : Call) (t : StepResult) → is_stopped (answer_of p number call t) ≡ false
pcom-goes p number (Gives handler args) t = cond-goes (is_replaying p) answers.MissedReplaying (cond (in_hand p) answers.MissedBusy answers.Taken) refl (cond-goes (in_hand p) answers.MissedBusy answers.Taken refl refl)
pcom-goes p number (Gets packet) t = kind-goes t.word t.puts
pcom-goes p number Forces t = cond-goes (is_empty p.log.buffered) answers.Idle answers.Ended refl refl
pcom-goes p number Checkpoints t = cond-goes (is_replaying p) answers.Replaying (cond (in_hand p) answers.Busy answers.Ended) refl (cond-goes (in_hand p) answers.Busy answers.Ended refl refl)
pcom-goes p number Resends t = cond-goes (no_packets t.puts) answers.Idle answers.Ended refl refl
pcom-goes p number Emits t = cond-goes (is_replaying p) answers.Replaying (cond (is_some t.shown) answers.Ended answers.Idle) refl (cond-goes (is_some t.shown) answers.Ended answers.Idle refl refl)

tcom-goes : (program : Program) (c : ComId) (x : Tcom) (number : ℕ) (call : Call) → is_stopped (tcom_does program c x number call).answer ≡ false
tcom-goes program c x number (Gets packet) = at (is_drop packet && fits_tcom program c packet)
  where
    at : (b : Bool) → is_stopped_fate (cond b fates.Used (used_fate (tcom_step program c x packet).puts)) ≡ false
    at true = refl
    at false = used-goes (tcom_step program c x packet).puts
tcom-goes program c x number (Gives handler args) = refl
tcom-goes program c x number Forces = refl
tcom-goes program c x number Checkpoints = refl
tcom-goes program c x number Resends = refl
tcom-goes program c x number Emits = refl

down-goes : (number : ℕ) (call : Call) → is_stopped (answer_down number call) ≡ false
down-goes number (Gives handler args) = refl
down-goes number (Gets packet) = refl
down-goes number Forces = refl
down-goes number Checkpoints = refl
down-goes number Resends = refl
down-goes number Emits = refl

-- what is forced ----------------------------------------------------------------------------------------------

-- it has a disk
abbrev pub IsOnDisk : Option Node → Type 0
IsOnDisk None = ⊥
IsOnDisk (Some (Runs p)) = ⊤
IsOnDisk (Some (Serves x)) = ⊤
IsOnDisk (Some (Down log)) = ⊤
IsOnDisk (Some External) = ⊥

-- the stop comes within the load, or the step forces more
abbrev pub Cuts : Program → ComId → ℕ → Node → Done → Type 0
Cuts program c call node d = IsOnDisk (Some node) × ((nat_le call (loads_first program c (Some node)) ≡ true) ⊎ ((added : List Record) × (forced_of d.node ≡ forced_of node ++ added) × (0 < length added)))

-- what a component does without a stop: its answer tells of none, and a stop that is reached cuts it
pub record Goes (program : Program) (c : ComId) (node : Node) (d : Done) : Type 0 where
  pub answer : is_stopped d.answer ≡ false
  pub cuts : (free : Bool) (call : ℕ) → 0 < call → nat_le call (device_calls free node d.node) ≡ true → Cuts program c call node d

nothing-reached : {B : Type 0} (call : ℕ) → 0 < call → nat_le call 0 ≡ true → B
nothing-reached call pos e = absurd (over call pos (le-is call 0 e))
  where
    over : (n : ℕ) → 0 < n → n ≤ 0 → ⊥
    over n a b = omega (arith, a, b)

longer : (old new added : List Record) → new ≡ old ++ added → length old < length new → 0 < length added
longer old new added e lt = omega (arith, lt, ap length e, length-append old added)

not-longer : {B : Type 0} (old new : List Record) → new ≡ old → length old < length new → B
not-longer old new e lt = absurd (omega (arith, lt, ap length e))

pcom-cuts : (program : Program) (c : ComId) (p : Pcom) (number : ℕ) (k : Call) (t : StepResult) → pcom_step program c p k ≡ Some t → Goes program c (Runs p) (done_as (answer_of p number k t) t)
pcom-cuts program c p number k t ran = record { answer = pcom-goes p number k t; cuts = λ free call pos e. at free call pos (nat_lt (length p.log.forced) (length t.pcom.log.forced)) refl e }
  where
    s : Shape p k t
    s = step-shape program c p k t ran

    grew : length p.log.forced < length t.pcom.log.forced → (added : List Record) × (t.pcom.log.forced ≡ p.log.forced ++ added) × (0 < length added)
    grew lt = ⊎_elim (λ same. not-longer p.log.forced t.pcom.log.forced same lt)
        (λ all. let is : t.pcom.log.forced ≡ p.log.forced ++ (p.log.buffered ++ s.adds) = all ∙ s.all ∙ append_assoc p.log.forced p.log.buffered s.adds in (p.log.buffered ++ s.adds, is, longer p.log.forced t.pcom.log.forced (p.log.buffered ++ s.adds) is lt)) s.forced

    at : (free : Bool) (call : ℕ) → 0 < call → (b : Bool) → nat_lt (length p.log.forced) (length t.pcom.log.forced) ≡ b → nat_le call (cond b (force_calls free (drop (length p.log.forced) t.pcom.log.forced)) 0) ≡ true → Cuts program c call (Runs p) (done_as (answer_of p number k t) t)
    at free call pos true is e = (tt, inr (grew (lt-is (length p.log.forced) (length t.pcom.log.forced) is)))
    at free call pos false is e = nothing-reached call pos e

tcom-cuts : (program : Program) (c : ComId) (x : Tcom) (number : ℕ) (k : Call) → Goes program c (Serves x) (tcom_does program c x number k)
tcom-cuts program c x number k = record { answer = tcom-goes program c x number k; cuts = λ free call pos e. by k free call pos e }
  where
    self : (n : ℕ) → nat_lt n n ≡ false
    self n = grind arith

    none : (call : ℕ) (d : Done) → 0 < call → nat_le call (cond (nat_lt (length x.records) (length x.records)) 4 0) ≡ true → Cuts program c call (Serves x) d
    none call d pos e = nothing-reached call pos (ap (λ b. nat_le call (cond b 4 0)) (sym (self (length x.records))) ∙ e)

    by : (m : Call) (free : Bool) (call : ℕ) → 0 < call → nat_le call (device_calls free (Serves x) (tcom_does program c x number m).node) ≡ true → Cuts program c call (Serves x) (tcom_does program c x number m)
    by (Gets p) free call pos e = at (nat_lt (length x.records) (length (tcom_step program c x p).tcom.records)) refl e
      where
        at : (b : Bool) → nat_lt (length x.records) (length (tcom_step program c x p).tcom.records) ≡ b → nat_le call (cond b 4 0) ≡ true → Cuts program c call (Serves x) (tcom_does program c x number (Gets p))
        at true is f = let y = steps_add program c x p in (tt, inr ((tcom_step program c x p).adds, y, longer x.records (tcom_step program c x p).tcom.records (tcom_step program c x p).adds y (lt-is (length x.records) (length (tcom_step program c x p).tcom.records) is)))
        at false is f = nothing-reached call pos f
    by (Gives handler args) free call pos e = none call (just (Serves x) answers.Idle) pos e
    by Forces free call pos e = none call (just (Serves x) answers.Idle) pos e
    by Checkpoints free call pos e = none call (just (Serves x) answers.Idle) pos e
    by Resends free call pos e = none call (just (Serves x) answers.Idle) pos e
    by Emits free call pos e = none call (just (Serves x) answers.Idle) pos e

pub does-cuts : (program : Program) (c : ComId) (node : Node) (number : ℕ) (k : Call) (d : Done) → does program c node number k ≡ Some d → Goes program c node d
does-cuts program c (Runs p) number k d ran =
    let t = mapped (λ t. done_as (answer_of p number k t) t) (pcom_step program c p k) d ran in
    subst (Goes program c (Runs p)) t.2 (pcom-cuts program c p number k t.0 t.1)
does-cuts program c (Serves x) number k d ran = subst (Goes program c (Serves x)) (same_Some (tcom_does program c x number k) d ran) (tcom-cuts program c x number k)
does-cuts program c (Down log) number k d ran = subst (Goes program c (Down log)) (same_Some (just (Down log) (answer_down number k)) d ran) (record { answer = down-goes number k; cuts = λ free call pos e. nothing-reached call pos e })
does-cuts program c External number k d ran = subst (Goes program c External) (same_Some (just External answers.Idle) d ran) (record { answer = refl; cuts = λ free call pos e. nothing-reached call pos e })

up-goes : (q : Pcom) → is_stopped (up_answer q) ≡ false
up-goes q = cond-goes (is_replaying q) _ _ refl refl

pub up-cuts : (program : Program) (c : ComId) (size : ℕ) (log : List Record) (d : Done) → comes_up program c size log ≡ Some d → Goes program c (Down log) d
up-cuts program c size log d k = at (is_a_tcom program c) refl k
  where
    at : (b : Bool) → is_a_tcom program c ≡ b → cond b (option_map (λ x. just (Serves x) answers.Up) (recover_tcom program c size log)) (option_map (λ t. done_as (up_answer t.pcom) t) (recover_pcom program c log)) ≡ Some d → Goes program c (Down log) d
    at true is g =
        let x = mapped (λ (x : Tcom). just (Serves x) answers.Up) (recover_tcom program c size log) d g in
        let y = epoch-added program c size log x.0 x.1 in
        subst (Goes program c (Down log)) x.2 (record { answer = refl; cuts = λ free call pos e. (tt, inr (records.Epoch y.0 ∷ [], y.1, omega arith)) })
    at false is g = let t = mapped (λ (t : StepResult). done_as (up_answer t.pcom) t) (recover_pcom program c log) d g in subst (Goes program c (Down log)) t.2 (record { answer = up-goes t.0.pcom; cuts = λ free call pos e. (tt, inl (ap (λ b. nat_le call (cond b 3 4)) is ∙ e)) })
