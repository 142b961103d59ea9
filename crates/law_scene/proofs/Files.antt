-- What the scene's file reads.
use Rattle.std.proofs.Common.{◌≡◌, refl, ◌∙◌, ap, ℕ, ◌+◌, ◌≤◌, List, [], ◌∷◌, length, map, Some, Ok, arith}
use Rattle.std.specs.List.{AllByRecursion}
use Rattle.ic_base.specs.declared.limits.TheConstants.{FIRST_GATE}
use Rattle.ic_base.specs.declared.record.Record.{Record}
use Rattle.def_log.specs.Directory.{slots_in}
use Rattle.def_log.specs.Frame.{batches, placed, at_rest}
use Rattle.def_log.specs.Laws.{IsPayload}
use Rattle.def_log.specs.Log.{◌>>=◌, placed_in, placed_up_to, records_in}
use Rattle.def_log.specs.Reading.{record_at, input_at, tested_at, args_at, values_at, value_at}
use Rattle.def_log.specs.Sizes.{size_in, span}
use Rattle.def_log.specs.Spelling.{spelling}
use Rattle.def_run.specs.SystemStates.{IsLog}
use Rattle.law_run.proofs.Rests.{no-slots, rest-log, rest-size}
use Rattle.law_scene.specs.Tally.{one_input, both_inputs}

-- what the file of the tally reads and how long its log is
pub record Reads (f : List ℕ) (records : List Record) (bytes : ℕ) : Type 0 where
  pub log : IsLog f 0 (at_rest f 0 [] (map spelling records)) records
  pub size : size_in (at_rest f 0 [] (map spelling records)) ≡ Some bytes
  pub slots : slots_in (at_rest f 0 [] (map spelling records)) ≡ []

reads : (f : List ℕ) (log : List Record) (size : ℕ) → length f ≡ 32 → AllByRecursion IsPayload (map spelling log) → length (batches (map spelling log)) ≤ 1000 →
    (placed_in (placed FIRST_GATE (map spelling log)) >>= (λ rs. Ok (records_in rs))) ≡ Ok log → FIRST_GATE + span (placed FIRST_GATE (map spelling log)) + 1 ≡ size → Reads f log size
reads f log size long all small is span-is = record {
  log = rest-log f 0 (map spelling log) long all small log is;
  size = rest-size f 0 (map spelling log) long all small ∙ ap Some span-is;
  slots = no-slots f 0 (map spelling log) long all small;
}

pub reads_none : (f : List ℕ) → length f ≡ 32 → Reads f [] 9258
reads_none f long = reads f [] 9258 long tt (omega arith) refl refl

one-log : (placed_in (placed FIRST_GATE (map spelling one_input)) >>= (λ rs. Ok (records_in rs))) ≡ Ok one_input
unfolding placed_up_to record_at input_at tested_at args_at values_at value_at
one-log = refl

both-log : (placed_in (placed FIRST_GATE (map spelling both_inputs)) >>= (λ rs. Ok (records_in rs))) ≡ Ok both_inputs
unfolding placed_up_to record_at input_at tested_at args_at values_at value_at
both-log = refl

pub reads_one : (f : List ℕ) → length f ≡ 32 → Reads f one_input 9282
reads_one f long = reads f one_input 9282 long ((omega arith, omega arith), tt) (omega arith) one-log refl

pub reads_both : (f : List ℕ) → length f ≡ 32 → Reads f both_inputs 9306
reads_both f long = reads f both_inputs 9306 long ((omega arith, omega arith), ((omega arith, omega arith), tt)) (omega arith) both-log refl
