-- The definitions on small logs of the former format.
use Rattle.std.specs.Prelude.{◌≡◌, ℕ, pos, List, [], ◌∷◌, ◌++◌, length, take, Ok, Err, refl}
use Rattle.ic_base.specs.declared.record.Batch.{Batch}
use Rattle.ic_base.specs.declared.record.Record.TheVariants.{Input}
use Rattle.def_log.specs.Directory.{closed_slots}
use Rattle.def_log.specs.Frame.{frame_of}
use Rattle.def_log.specs.Log.{placed_up_to}
use Rattle.def_log.specs.Reading.{record_at, input_at, checkpoint_at, args_at, value_at, values_at, tested_at}
use Rattle.def_log.proofs.Examples.{print, first_input, second_input, one_checkpoint, two_inputs}
use Rattle.def_former.specs.Frame.{former_letters, former_frame_of}
use Rattle.def_former.specs.Log.{former_log_of}
use Rattle.def_former.specs.Migrated.{slots_for, migrated}

-- the log that two inputs leave, byte by byte
abbrev pub two_before : List ℕ
two_before = former_letters ++ print ++ (1 ∷ 0 ∷ 0 ∷ 0 ∷ 19 ∷ first_input) ++ (1 ∷ 0 ∷ 0 ∷ 0 ∷ 19 ∷ second_input) ++ 0 ∷ []

abbrev pub two_batches : List Batch
two_batches = record { at = 45; payload = first_input } ∷ record { at = 69; payload = second_input } ∷ []

pub two_before-length : length two_before ≡ 89
two_before-length = refl

pub two_before-frame : former_frame_of two_before ≡ Ok two_batches
unfolding former_frame_of
two_before-frame = refl

pub two_before-log : former_log_of two_before ≡ Ok (Input 1 0 (pos 5 ∷ []) ∷ Input 2 0 (pos 7 ∷ []) ∷ [])
unfolding former_frame_of placed_up_to record_at input_at args_at value_at values_at tested_at
two_before-log = refl

-- cut within the second batch
pub cut-before : former_frame_of (take 70 two_before) ≡ Err 70
unfolding former_frame_of
cut-before = refl

-- it is migrated to the log that two inputs leave now
pub two_before-migrated : migrated print 3 two_batches ≡ two_inputs
unfolding closed_slots placed_up_to record_at input_at args_at value_at values_at tested_at
two_before-migrated = refl

-- a batch that ends with a checkpoint gets a slot
pub one_slot : slots_for (first_input ∷ one_checkpoint ∷ second_input ∷ []) ≡ 9281 ∷ []
unfolding placed_up_to record_at input_at checkpoint_at args_at value_at values_at tested_at
one_slot = refl

-- neither format reads a log of the other
pub before-now : frame_of two_before ≡ Err 7
unfolding frame_of
before-now = refl

pub now-before : former_frame_of two_inputs ≡ Err 7
unfolding former_frame_of closed_slots
now-before = refl
