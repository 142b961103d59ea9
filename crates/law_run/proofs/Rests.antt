-- How a log at rest reads that has no open slot.
use Rattle.std.proofs.Common.{◌≡◌, refl, ◌∙◌, ap, ℕ, ◌+◌, ◌≤◌, List, [], ◌∷◌, ◌++◌, length, Some, option_map, arith}
use Rattle.std.specs.Prelude.{Ok, Option}
use Rattle.std.specs.List.{AllByRecursion}
use Rattle.std.proofs.lemmas.List.{append_assoc, length-append}
use Rattle.ic_base.specs.declared.limits.TheConstants.{FIRST_GATE, LOG_BYTES}
use Rattle.ic_base.specs.declared.record.Record.{Record}
use Rattle.def_log.specs.Directory.{first_slot, first_bad_slot, slots_in}
use Rattle.def_log.specs.Frame.{header, batches, placed, at_rest, frame_of}
use Rattle.def_log.specs.Laws.{IsPayload}
use Rattle.def_log.specs.Log.{◌>>=◌, ends_with_checkpoint, placed_in, records_in, log_of}
use Rattle.def_log.specs.Sizes.{gate_behind, size_in, span}
use Rattle.def_log.proofs.Frames.{length-header, slots_of_header, frame_closed}
use Rattle.def_run.specs.SystemStates.{IsLog}
use Rattle.law_syntax.proofs.Entries.{then-ok}
use Rattle.law_marks.proofs.NewLogs.{print_told, owner_told}
use Rattle.law_marks.proofs.Places.{places-whole}

module _ (f : List ℕ) (owner : ℕ) (ps : List (List ℕ)) (long : length f ≡ 32) (all : AllByRecursion IsPayload ps) (small : length (batches ps) ≤ 1000) where
  abbrev file : List ℕ
  file = at_rest f owner [] ps

  frame : frame_of file ≡ Ok (placed FIRST_GATE ps)
  frame =
      frame_closed f owner [] ps 0 [] long (record { few = omega arith; small = tt; named = refl }) all (omega arith)
      (omega (arith, small, length-header f owner [] long (omega arith), length-append (header f owner []) (batches ps ++ 0 ∷ []), length-append (batches ps) (0 ∷ [])))

  pub no-slots : slots_in file ≡ []
  no-slots = slots_of_header f owner [] long (omega arith) (batches ps ++ 0 ∷ []) tt

  pub rest-log : (log : List Record) → (placed_in (placed FIRST_GATE ps) >>= (λ rs. Ok (records_in rs))) ≡ Ok log → IsLog f owner file log
  rest-log log is =
      let rs = then-ok (placed_in (placed FIRST_GATE ps)) (λ rs. Ok (records_in rs)) log is in
      record {
        own = print_told f owner [] (batches ps ++ 0 ∷ []) long;
        owned = owner_told f owner [] (batches ps ++ 0 ∷ []) long;
        holds = ap (λ r. r >>= (λ rs. Ok (records_in rs))) (places-whole file rs.0 (record {
          bs = placed FIRST_GATE ps;
          frame = frame;
          places = rs.1;
          slots = ap (λ slots. first_bad_slot ends_with_checkpoint first_slot slots (placed FIRST_GATE ps)) no-slots;
        })) ∙ rs.2;
      }

  pub rest-size : size_in file ≡ Some (FIRST_GATE + span (placed FIRST_GATE ps) + 1)
  rest-size = ap (λ r. option_map (λ gate. gate + 1) (gate_behind FIRST_GATE r)) frame
