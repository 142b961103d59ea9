-- The definitions on small logs.
use Rattle.std.specs.Prelude.{◌≡◌, ℕ, pos, negsuc, Some, None, List, [], ◌∷◌, ◌++◌, length, take, replicate, Ok, Err, refl}
use Rattle.ic_base.specs.declared.events.Fill.TheVariants.{Old, Byte}
use Rattle.def_log.specs.Directory.{closed_slots, slots_in}
use Rattle.def_log.specs.Frame.{frame_of, at_rest, fresh, header}
use Rattle.def_log.specs.Gated.{batch_write, slot_write}
use Rattle.def_log.specs.Loads.{Foreign, Bad, load_of}
use Rattle.def_log.specs.Stops.{writes_torn}
use Rattle.def_log.specs.Tail.{tail_frame_of}
use Rattle.def_log.specs.Torn.{written}
use Rattle.def_log.specs.Spelling.{spelling, spellings}
use Rattle.def_log.specs.Reading.{record_at, taken_at, taken_whole_at, input_at, answer_at, session_at, value_at, values_at, args_at, decided_at, writes_at, outcome_at, ending_at, need_at, held_at, epochs_at, released_at, shown_at, epoch_at, checkpoint_at, com_at, tested_at}
use Rattle.def_log.specs.Log.{placed_up_to, records_of, log_of, tail_of}
use Rattle.ic_base.specs.declared.messages.AbortCause.TheVariants as causes
use Rattle.ic_base.specs.declared.record.Record.{Record}
use Rattle.ic_base.specs.declared.record.Record.TheVariants.{Take, TakeWhole, Input, Value, Outcome, Released, Shown, Checkpoint, Epoch, Decided}

-- a fingerprint of the tests
abbrev pub print : List ℕ
print = replicate 32 7

-- two inputs of one value each
abbrev pub first_input : List ℕ
first_input = 3 ∷ 0 ∷ 0 ∷ 0 ∷ 0 ∷ 0 ∷ 0 ∷ 0 ∷ 1 ∷ 0 ∷ 1 ∷ 0 ∷ 0 ∷ 0 ∷ 0 ∷ 0 ∷ 0 ∷ 0 ∷ 5 ∷ []

abbrev pub second_input : List ℕ
second_input = 3 ∷ 0 ∷ 0 ∷ 0 ∷ 0 ∷ 0 ∷ 0 ∷ 0 ∷ 2 ∷ 0 ∷ 1 ∷ 0 ∷ 0 ∷ 0 ∷ 0 ∷ 0 ∷ 0 ∷ 0 ∷ 7 ∷ []

-- a checkpoint of an image of one byte
abbrev pub one_checkpoint : List ℕ
one_checkpoint = 8 ∷ 0 ∷ 0 ∷ 0 ∷ 1 ∷ 9 ∷ []

-- the log of component 3 that two inputs leave, byte by byte
abbrev pub two_inputs : List ℕ
two_inputs = header print 3 [] ++ (1 ∷ 0 ∷ 0 ∷ 0 ∷ 19 ∷ first_input) ++ (1 ∷ 0 ∷ 0 ∷ 0 ∷ 19 ∷ second_input) ++ 0 ∷ []

pub two_inputs-length : length two_inputs ≡ 9306
unfolding closed_slots
two_inputs-length = refl

pub fresh-length : length (fresh print 3) ≡ 9258
unfolding closed_slots
fresh-length = refl

pub two_inputs-rest : at_rest print 3 [] (first_input ∷ second_input ∷ []) ≡ two_inputs
unfolding closed_slots
two_inputs-rest = refl

pub two_inputs-frame : frame_of two_inputs ≡ Ok (record { at = 9262; payload = first_input } ∷ record { at = 9286; payload = second_input } ∷ [])
unfolding frame_of closed_slots
two_inputs-frame = refl

-- cut within the second batch, and behind the header with a closed gate
pub cut-frame : frame_of (take 9287 two_inputs) ≡ Err 9287
unfolding frame_of closed_slots
cut-frame = refl

pub empty-frame : frame_of (written (take 9258 two_inputs) 9257 (0 ∷ [])) ≡ Ok []
unfolding frame_of closed_slots
empty-frame = refl

-- no bytes, a header alone, a wrong letter
pub blank-frame : frame_of [] ≡ Err 0
unfolding frame_of
blank-frame = refl

pub header-frame : frame_of (header print 3 []) ≡ Err 9257
unfolding frame_of closed_slots
header-frame = refl

pub letter-frame : frame_of (written two_inputs 2 (0 ∷ [])) ≡ Err 2
unfolding frame_of closed_slots
letter-frame = refl

-- a batch of no bytes, and a cut length
pub no_bytes-frame : frame_of (header print 3 [] ++ 1 ∷ 0 ∷ 0 ∷ 0 ∷ 0 ∷ 0 ∷ []) ≡ Err 9258
unfolding frame_of closed_slots
no_bytes-frame = refl

pub cut_length-frame : frame_of (header print 3 [] ++ 1 ∷ 0 ∷ 0 ∷ []) ≡ Err 9260
unfolding frame_of closed_slots
cut_length-frame = refl

-- another component's number is refused behind the fingerprint
pub number-load : load_of print 4 two_inputs ≡ Bad 40
unfolding frame_of closed_slots
number-load = refl

pub foreign-load : load_of (0 ∷ print) 4 two_inputs ≡ Foreign print
unfolding frame_of closed_slots
foreign-load = refl

-- a log with a checkpoint between the two inputs, and these open slots
abbrev pub marked : List ℕ → List ℕ
marked slots = at_rest print 3 slots (first_input ∷ one_checkpoint ∷ second_input ∷ [])

pub marked-frame : frame_of (marked (9281 ∷ [])) ≡ Ok (record { at = 9262; payload = first_input } ∷ record { at = 9286; payload = one_checkpoint } ∷ record { at = 9297; payload = second_input } ∷ [])
unfolding frame_of closed_slots
marked-frame = refl

pub marked-tail_frame : tail_frame_of (marked (9281 ∷ [])) ≡ Ok (record { at = 9286; payload = one_checkpoint } ∷ record { at = 9297; payload = second_input } ∷ [])
unfolding tail_frame_of closed_slots
marked-tail_frame = refl

pub marked-log : log_of (marked (9281 ∷ [])) ≡ Ok (Input 1 0 (pos 5 ∷ []) ∷ Checkpoint (9 ∷ []) ∷ Input 2 0 (pos 7 ∷ []) ∷ [])
unfolding frame_of closed_slots placed_up_to record_at input_at checkpoint_at tested_at args_at values_at value_at
marked-log = refl

pub marked-tail : tail_of (marked (9281 ∷ [])) ≡ Ok (Checkpoint (9 ∷ []) ∷ Input 2 0 (pos 7 ∷ []) ∷ [])
unfolding tail_frame_of closed_slots placed_up_to record_at input_at checkpoint_at tested_at args_at values_at value_at
marked-tail = refl

-- a slot holds no gate; two slots don't rise; a batch doesn't end with a Checkpoint
pub no_gate-frame : frame_of (marked (9282 ∷ [])) ≡ Err 41
unfolding frame_of closed_slots
no_gate-frame = refl

pub no_gate-tail : tail_frame_of (marked (9282 ∷ [])) ≡ Err 41
unfolding tail_frame_of closed_slots
no_gate-tail = refl

pub past-tail : tail_frame_of (marked (9281 ∷ 99999 ∷ [])) ≡ Err 50
unfolding tail_frame_of closed_slots
past-tail = refl

pub not_rising-frame : frame_of (marked (9281 ∷ 9281 ∷ [])) ≡ Err 50
unfolding frame_of closed_slots
not_rising-frame = refl

pub idle-log : log_of (marked (9257 ∷ [])) ≡ Err 41
unfolding frame_of closed_slots placed_up_to record_at input_at checkpoint_at tested_at args_at values_at value_at
idle-log = refl

pub idle-tail : tail_of (marked (9257 ∷ [])) ≡ Err 41
unfolding tail_frame_of closed_slots placed_up_to record_at input_at checkpoint_at tested_at args_at values_at value_at
idle-tail = refl

-- damage before the tail is met by a load of the whole log alone
pub damaged-log : log_of (written (marked (9281 ∷ [])) 9262 (0 ∷ [])) ≡ Err 9262
unfolding frame_of closed_slots placed_up_to record_at
damaged-log = refl

pub damaged-frame : frame_of (written (marked (9281 ∷ [])) 9261 (0 ∷ [])) ≡ Err 9258
unfolding frame_of closed_slots
damaged-frame = refl

pub damaged-tail : tail_of (written (marked (9281 ∷ [])) 9261 (0 ∷ [])) ≡ Ok (Checkpoint (9 ∷ []) ∷ Input 2 0 (pos 7 ∷ []) ∷ [])
unfolding tail_frame_of closed_slots placed_up_to record_at input_at checkpoint_at tested_at args_at values_at value_at
damaged-tail = refl

-- a stop at the first write of a force: two bytes of six arrive
pub stopped-image : writes_torn 1 2 (Byte 0xff) (fresh print 3) (batch_write 9257 (0xaa ∷ []) ∷ []) ≡ header print 3 [] ++ 0 ∷ 0 ∷ 0 ∷ 0xff ∷ 0xff ∷ 0xff ∷ 0xff ∷ []
unfolding closed_slots
stopped-image = refl

pub stopped-length : length (writes_torn 1 2 (Byte 0xff) (fresh print 3) (batch_write 9257 (0xaa ∷ []) ∷ [])) ≡ 9264
unfolding closed_slots
stopped-length = refl

pub stopped-frame : frame_of (writes_torn 1 2 (Byte 0xff) (fresh print 3) (batch_write 9257 (0xaa ∷ []) ∷ [])) ≡ Ok []
unfolding frame_of closed_slots
stopped-frame = refl

-- with `Old` what didn't arrive is not there
pub old-image : writes_torn 1 2 Old (fresh print 3) (batch_write 9257 (0xaa ∷ []) ∷ []) ≡ header print 3 [] ++ 0 ∷ 0 ∷ 0 ∷ []
unfolding closed_slots
old-image = refl

-- the second write of a step is a mark, whose slot stands once its gate's byte arrives
abbrev pub checkpointed : ℕ → ℕ → List ℕ
checkpointed call keep = writes_torn call keep Old (fresh print 3) (batch_write 9257 one_checkpoint ∷ slot_write 0 9257 ∷ [])

pub mark-before : slots_in (checkpointed 7 0) ≡ []
unfolding closed_slots
mark-before = refl

pub mark-behind : slots_in (checkpointed 7 1) ≡ 9257 ∷ []
unfolding closed_slots
mark-behind = refl

pub mark-same : frame_of (checkpointed 7 0) ≡ frame_of (checkpointed 7 1)
unfolding frame_of closed_slots
mark-same = refl

pub two_inputs-log : log_of two_inputs ≡ Ok (Input 1 0 (pos 5 ∷ []) ∷ Input 2 0 (pos 7 ∷ []) ∷ [])
unfolding frame_of closed_slots placed_up_to record_at input_at tested_at args_at values_at value_at
two_inputs-log = refl

pub two_inputs-spelled : spellings (Input 1 0 (pos 5 ∷ []) ∷ Input 2 0 (pos 7 ∷ []) ∷ []) ≡ first_input ++ second_input
two_inputs-spelled = refl

-- the first byte of the first record is no kind
pub no_kind-log : log_of (written two_inputs 9262 (0 ∷ [])) ≡ Err 9262
unfolding frame_of closed_slots placed_up_to record_at
no_kind-log = refl

-- the second record of two in one batch is cut
pub second-records : records_of (first_input ++ 3 ∷ []) ≡ Err 19
unfolding placed_up_to record_at input_at tested_at args_at values_at value_at
second-records = refl

-- a taken message, whole and cut
pub taken-spelled : spelling (Take (record { 0 = 1 }) 2 9) ≡ 1 ∷ 1 ∷ 0 ∷ 0 ∷ 0 ∷ 0 ∷ 0 ∷ 0 ∷ 0 ∷ 2 ∷ 0 ∷ 0 ∷ 0 ∷ 0 ∷ 0 ∷ 0 ∷ 0 ∷ 9 ∷ []
taken-spelled = refl

pub taken-records : records_of (spelling (Take (record { 0 = 1 }) 2 9)) ≡ Ok (Take (record { 0 = 1 }) 2 9 ∷ [])
unfolding placed_up_to record_at taken_at com_at tested_at
taken-records = refl

pub cut-records : records_of (take 17 (spelling (Take (record { 0 = 1 }) 2 9))) ≡ Err 0
unfolding placed_up_to record_at taken_at com_at tested_at
cut-records = refl

-- a negative value, a decision and an ending of each kind are read again
abbrev pub others : List Record
others = Value 1 0 (record { epoch = 1; counter = 2 }) (negsuc 0) ∷ Decided 4 (record { 0 = 1 }) 1 ((0, pos 70) ∷ (1, negsuc 29) ∷ []) ∷ Outcome 5 1 None ∷ Outcome 6 2 (Some (causes.Need 9)) ∷ Outcome 7 3 (Some (causes.Held (record { 0 = 2 }) 1)) ∷ Outcome 8 4 (Some (causes.Epoch 1 2)) ∷ Released (record { 0 = 3 }) 1 ∷ Shown 1 ∷ Epoch 2 ∷ Checkpoint (9 ∷ []) ∷ TakeWhole (record { 0 = 1 }) 1 9 0 [] ∷ []

pub others-records : records_of (spellings others) ≡ Ok others
unfolding placed_up_to record_at taken_whole_at answer_at session_at value_at decided_at writes_at outcome_at ending_at need_at held_at epochs_at released_at shown_at epoch_at checkpoint_at com_at tested_at args_at values_at
others-records = refl
