-- What is told of a call at a Pcom is the answer of the definition.
use Rattle.std.proofs.Common.{◌≡◌, refl, sym, ap, ℕ, cond, List, [], ◌∷◌}
use Rattle.ic_base.specs.declared.messages.Packet.{Packet}
use Rattle.def_step.specs.Pcom as step
use Rattle.def_step.specs.Pcom.{Call, Gives, Gets, Forces, Checkpoints, Resends, Emits, StepKind, Took, Fed, Busy, Changed, Same, StepResult}
use Rattle.def_step.specs.World.{Runs, done_as, answer_of, fate_of}
use Rattle.ic_base.specs.declared.events.Answer.TheVariants as answers
use Rattle.ic_base.specs.declared.events.Fate.{Fate}
use Rattle.ic_base.specs.declared.events.Fate.TheVariants as fates
use Rattle.ic_pcom.specs.Views.{told_of, is_took, is_fed, is_busy, is_used}
use Rattle.ic_node.specs.Answering.{before_of, answer_by, told_by}
use Rattle.ic_node.specs.Calling.{done_with}

fated : (word : StepKind) (puts : List Packet) → cond (is_took word) fates.Taken (cond (is_fed word) fates.Fed (cond (is_busy word) fates.Busy (cond (is_used word puts) fates.Used fates.Ignored))) ≡ fate_of word puts
fated Took puts = refl
fated Fed puts = refl
fated Busy puts = refl
fated Changed puts = refl
fated Same [] = refl
fated Same (p ∷ ps) = refl

answered : (p : step.Pcom) (number : ℕ) (call : Call) (t : StepResult) → answer_by (before_of p) number call (told_of t) ≡ answer_of p number call t
answered p number (Gives handler args) t = refl
answered p number (Gets packet) t = ap (λ (f : Fate). answers.Packet number packet f) (fated t.word t.puts)
answered p number Forces t = refl
answered p number Checkpoints t = refl
answered p number Resends t = refl
answered p number Emits t = refl

-- the component and what is told of it are those of the step
pub told_is : (p : step.Pcom) (number : ℕ) (call : Call) (t : StepResult) (played : ℕ) → done_as (answer_of p number call t) t ≡ done_with (Runs t.pcom) (told_by (before_of p) number call (told_of t) played)
told_is p number call t played = ap (λ a. done_as a t) (sym (answered p number call t))
