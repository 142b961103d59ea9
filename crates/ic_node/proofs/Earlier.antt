-- A step of a Pcom over its own records, as one over all records of its log.
use Rattle.std.proofs.Common.{◌≡◌, ◌∙◌, refl, ap, ℕ, cond, List, [], ◌∷◌, ◌++◌, length, drop, Option, Some, None, option_map}
use Rattle.std.specs.Prelude.{is_some, not, ◌&&◌, Result, Ok, Err}
use Rattle.ic_base.specs.declared.messages.ComId.{ComId}
use Rattle.ic_base.specs.declared.messages.Msg.{Msg}
use Rattle.ic_base.specs.declared.record.Record.{Record}
use Rattle.ic_base.specs.declared.scenario.Program.{Program}
use Rattle.std.proofs.lemmas.List.Sums.{sum_by-append}
use Rattle.def_state.specs.Fits.{fits}
use Rattle.def_state.specs.Positions.{record_length, end_of}
use Rattle.def_state.specs.Shelf.{next_due}
use Rattle.def_state.specs.Vol.{Vol, standing, record_in}
use Rattle.def_step.specs.Pcom as step
use Rattle.def_step.specs.Pcom.{Call, Gives, Gets, Forces, Checkpoints, Resends, Emits, StepResult, pcom_step}
use Rattle.def_step.specs.Replay.{misfit_behind, misfit_at, misfit_from, misfit_fed, waits_for}
use Rattle.def_step.specs.Settle.{shows}
use Rattle.def_step.specs.World as world
use Rattle.def_step.specs.World.{Runs, does, done_as, answer_of}
use Rattle.law_tail.specs.Wholes.{shifted_vol, with_earlier, told_with_earlier}
use Rattle.law_tail.proofs.Shifted.{record-shifted, fits-shifted, next-shifted}
use Rattle.law_tail.proofs.Wholes.{steps-same}
use Rattle.ic_pcom.specs.Stepping.{forced_by}
use Rattle.ic_pcom.specs.declared.step.PacketRefused.{PacketRefused}
use Rattle.ic_pcom.specs.declared.step.PacketRefused.TheVariants as packet
use Rattle.ic_node.specs.Meeting.{adds_in}
use Rattle.ic_node.specs.Steps.{Counts}
use Rattle.ic_node.specs.declared.done.Done.{Done}

pub drop_front : (front before behind : List Record) → drop (length (front ++ before)) (front ++ behind) ≡ drop (length before) behind
drop_front [] before behind = refl
drop_front (r ∷ front) before behind = drop_front front before behind

-- the answer is the same
answer_same : (earlier : List Record) (p : step.Pcom) (number : ℕ) (call : Call) (t : StepResult) → answer_of (with_earlier earlier p) number call (told_with_earlier earlier t) ≡ answer_of p number call t
answer_same earlier p number (Gives handler args) t = refl
answer_same earlier p number (Gets packet) t = refl
answer_same earlier p number Forces t = refl
answer_same earlier p number Checkpoints t = refl
answer_same earlier p number Resends t = refl
answer_same earlier p number Emits t = refl

-- what is told, with the component over all records
abbrev pub done_over : List Record → ℕ → step.Pcom → Call → StepResult → world.Done
done_over earlier number p call t = record (done_as (answer_of p number call t) t) { node = Runs (with_earlier earlier t.pcom) }

pub does_over : (program : Program) (c : ComId) (earlier : List Record) (p : step.Pcom) (number : ℕ) (call : Call)
    → does program c (Runs (with_earlier earlier p)) number call ≡ option_map (done_over earlier number p call) (pcom_step program c p call)
does_over program c earlier p number call =
    ap (option_map (λ t. done_as (answer_of (with_earlier earlier p) number call t) t)) (steps-same program c earlier p call).0 ∙ by (pcom_step program c p call)
  where
    by : (o : Option StepResult) → option_map (λ t. done_as (answer_of (with_earlier earlier p) number call t) t) (option_map (told_with_earlier earlier) o) ≡ option_map (done_over earlier number p call) o
    by None = refl
    by (Some t) = ap (λ a. Some (done_as a (told_with_earlier earlier t))) (answer_same earlier p number call t)

-- it adds the same records
pub adds_over : (program : Program) (c : ComId) (earlier : List Record) (p : step.Pcom) (number : ℕ) (call : Call)
    → adds_in (Runs (with_earlier earlier p)) (does program c (Runs (with_earlier earlier p)) number call) ≡ forced_by p (pcom_step program c p call)
adds_over program c earlier p number call = ap (adds_in (Runs (with_earlier earlier p))) (does_over program c earlier p number call) ∙ by (pcom_step program c p call)
  where
    by : (o : Option StepResult) → adds_in (Runs (with_earlier earlier p)) (option_map (done_over earlier number p call) o) ≡ forced_by p o
    by None = refl
    by (Some t) = drop_front earlier p.log.forced t.pcom.log.forced

-- and counts the same
pub counts_over : (n m : ℕ) (earlier : List Record) (p q : step.Pcom) (r : Result Done PacketRefused) → Counts n m (Runs p) (Runs q) r → Counts n m (Runs (with_earlier earlier p)) (Runs (with_earlier earlier q)) r
counts_over n m earlier p q (Ok done) counts = counts
counts_over n m earlier p q (Err packet.Stopped) counts = counts
counts_over n m earlier p q (Err packet.Full) counts = tt
counts_over n m earlier p q (Err packet.Memory) counts = tt
counts_over n m earlier p q (Err packet.Failed) counts = tt
counts_over n m earlier p q (Err (packet.Bad place)) counts = tt

-- misfits -------------------------------------------------------------------------------------------

misfit_over : (program : Program) (c : ComId) (n : ℕ) (v : Vol) (rs : List Record) → misfit_from program c (shifted_vol n v) rs ≡ misfit_from program c v rs
misfit_over program c n v [] = refl
misfit_over program c n v (r ∷ rs) =
    ap (misfit_at program c (shifted_vol n v) r) (ap (λ w. misfit_from program c w rs) (record-shifted program c n 0 None v r) ∙ misfit_over program c n (record_in program c 0 None v r) rs)
    ∙ ap (λ t. cond t (cond (is_some (waits_for r)) None (misfit_behind (record_in program c 0 None (shifted_vol n v) r) (misfit_from program c (record_in program c 0 None v r) rs))) (Some 0)) (fits-shifted program c n v r)
    ∙ ap (λ w. cond (fits program c (standing program c v) r) (cond (is_some (waits_for r)) None (misfit_behind w (misfit_from program c (record_in program c 0 None v r) rs))) (Some 0)) (record-shifted program c n 0 None v r)

-- and meets the same misfit
pub fed_over : (program : Program) (c : ComId) (n : ℕ) (v : Vol) (m : Msg) (rs : List Record) → misfit_fed program c (shifted_vol n v) m rs ≡ misfit_fed program c v m rs
fed_over program c n v m [] = refl
fed_over program c n v m (r ∷ rs) =
    ap (λ w. misfit_behind w (misfit_from program c w rs)) (record-shifted program c n 0 (Some m) v r)
    ∙ ap (misfit_behind (record_in program c 0 (Some m) v r)) (misfit_over program c n (record_in program c 0 (Some m) v r) rs)

-- an output is due that was
pub shows_over : (earlier : List Record) (p : step.Pcom) → shows (with_earlier earlier p) ≡ shows p
shows_over earlier p =
    ap (λ n. not (step.is_replaying p) && is_some (next_due (with_earlier earlier p).vol.shelf n)) (sum_by-append record_length earlier p.log.forced)
    ∙ ap (λ o. not (step.is_replaying p) && is_some o) (next-shifted (end_of earlier) p.vol.shelf (step.forced_end p))
