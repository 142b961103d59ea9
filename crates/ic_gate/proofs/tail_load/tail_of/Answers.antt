use Rattle.std.proofs.Common.{◌≡◌, ◌∙◌, ap, sym, subst, List, ℕ, [], Some, length}
use Rattle.std.specs.Prelude.{Result, Ok}
use Rattle.std.proofs.lemmas.Result.{err_from_is_err_and}
use Rattle.ic_base.specs.declared.record.Batch.{Batch}
use Rattle.def_log.specs.Changes.{counted}
use Rattle.def_log.specs.Frame.{batches_from}
use Rattle.def_log.specs.Log.{◌>>=◌, Placed, placed_by}
use Rattle.def_log.specs.Sizes.{gate_behind, payload_count}
use Rattle.ic_gate.specs.Reading.{batches_behind}
use Rattle.ic_gate.specs.RecordLoads.{AreRead, FailsToRead}
use Rattle.ic_gate.proofs.LoadedPlaces.{all_records, all_places, as_many, beside}
use Rattle.ic_gate.proofs.ReadLogs.{end, fails_in_frame}
use Rattle.ic_gate.proofs.TailWalks.{no_slots, walk_behind}
use Rattle.ic_gate.proofs.tail_load.tail_of.Goals as goal

pub returns-in_err-closed-clause-bad : goal.returns-in_err-closed-clause-bad
returns-in_err-closed-clause-bad c =
    let p = err_from_is_err_and c.from_residual.result c.from_residual.ensures.1 in
    rw (p.1, p.2) (λ place e. ap (λ (f : Result (List Batch) ℕ). f >>= λ bs. placed_by c.args.slot bs) (ap (batches_behind c.args.slot c.args.start) (sym c.deref.ensures.value) ∙ c.in_err-closed.ensures.bad place e))

pub returns-in_err-all-clause-bad : goal.returns-in_err-all-clause-bad
returns-in_err-all-clause-bad c =
    let p = err_from_is_err_and c.from_residual-in_err-all.result c.from_residual-in_err-all.ensures.1 in
    let slot = c.args.slot in
    let start = c.args.start in
    let items = c.args.bytes.items in
    let v = c.deref.ensures.value in
    let read = batches_behind slot start items in
    let closed = c.in_ok-closed.closed in
    let at : gate_behind start read ≡ Some closed.at = ap (λ (l : List ℕ). gate_behind start (batches_behind slot start l)) (sym v) ∙ c.in_ok-closed.ensures.at in
    let forced : counted read ≡ Some closed.forced = ap (λ (l : List ℕ). counted (batches_behind slot start l)) (sym v) ∙ c.in_ok-closed.ensures.forced in
    let ends = end [] start closed.at closed.forced read (ap (gate_behind start) (no_slots read) ∙ at) (ap counted (no_slots read) ∙ forced) in
    let reader = c.new-reader.result in
    let rest_is : reader.rest ≡ items = c.new-reader.ensures.rest in
    let whole : batches_from (length reader.rest) start reader.rest ≡ Ok ends.batches = subst (λ (l : List ℕ). batches_from (length l) start l ≡ Ok ends.batches) (sym rest_is) (walk_behind slot start items ends.batches ends.are) in
    let fails = (c.in_err-all.ensures {u = tt}).refused ends.batches whole in
    rw (p.1, p.2) (λ place e. ap (λ (f : Result (List Batch) ℕ). f >>= λ bs. placed_by slot bs) ends.are ∙ subst (FailsToRead (placed_by slot ends.batches)) e fails)

pub returns-in_err-all-clause-why : goal.returns-in_err-all-clause-why
returns-in_err-all-clause-why c =
    let p = err_from_is_err_and c.from_residual-in_err-all.result c.from_residual-in_err-all.ensures.1 in
    let slot = c.args.slot in
    let start = c.args.start in
    let items = c.args.bytes.items in
    let v = c.deref.ensures.value in
    let read = batches_behind slot start items in
    let closed = c.in_ok-closed.closed in
    let at : gate_behind start read ≡ Some closed.at = ap (λ (l : List ℕ). gate_behind start (batches_behind slot start l)) (sym v) ∙ c.in_ok-closed.ensures.at in
    let forced : counted read ≡ Some closed.forced = ap (λ (l : List ℕ). counted (batches_behind slot start l)) (sym v) ∙ c.in_ok-closed.ensures.forced in
    let ends = end [] start closed.at closed.forced read (ap (gate_behind start) (no_slots read) ∙ at) (ap counted (no_slots read) ∙ forced) in
    let reader = c.new-reader.result in
    let rest_is : reader.rest ≡ items = c.new-reader.ensures.rest in
    let whole : batches_from (length reader.rest) start reader.rest ≡ Ok ends.batches = subst (λ (l : List ℕ). batches_from (length l) start l ≡ Ok ends.batches) (sym rest_is) (walk_behind slot start items ends.batches ends.are) in
    rw (p.1, p.2) (fails_in_frame (placed_by slot ends.batches) c.in_err-all.field-0.0 ((c.in_err-all.ensures {u = tt}).refused ends.batches whole))

pub of-requires : goal.of-requires
of-requires c =
    let slot = c.args.slot in
    let start = c.args.start in
    let items = c.args.bytes.items in
    let v = c.deref.ensures.value in
    let read = batches_behind slot start items in
    let closed = c.in_ok-closed.closed in
    let at : gate_behind start read ≡ Some closed.at = ap (λ (l : List ℕ). gate_behind start (batches_behind slot start l)) (sym v) ∙ c.in_ok-closed.ensures.at in
    let forced : counted read ≡ Some closed.forced = ap (λ (l : List ℕ). counted (batches_behind slot start l)) (sym v) ∙ c.in_ok-closed.ensures.forced in
    let ends = end [] start closed.at closed.forced read (ap (gate_behind start) (no_slots read) ∙ at) (ap counted (no_slots read) ∙ forced) in
    let reader = c.new-reader.result in
    let rest_is : reader.rest ≡ items = c.new-reader.ensures.rest in
    let whole : batches_from (length reader.rest) start reader.rest ≡ Ok ends.batches = subst (λ (l : List ℕ). batches_from (length l) start l ≡ Ok ends.batches) (sym rest_is) (walk_behind slot start items ends.batches ends.are) in
    let all = c.in_ok-all.all in
    let e = (c.in_ok-all.ensures {u = tt}).read ends.batches whole in
    let none = c.new-reader.ensures.records in
    let places = all_places reader all _ _ e none (Some []) (c.new-reader.ensures.places ∙ ap (λ (l : List ℕ). Some l) c.new.ensures) in
    let records = all_records reader all _ _ e none in
    as_many all e.placed records places

pub returns-clause-step : goal.returns-clause-step
returns-clause-step c =
    let slot = c.args.slot in
    let start = c.args.start in
    let items = c.args.bytes.items in
    let v = c.deref.ensures.value in
    let read = batches_behind slot start items in
    let closed = c.in_ok-closed.closed in
    let at : gate_behind start read ≡ Some closed.at = ap (λ (l : List ℕ). gate_behind start (batches_behind slot start l)) (sym v) ∙ c.in_ok-closed.ensures.at in
    let forced : counted read ≡ Some closed.forced = ap (λ (l : List ℕ). counted (batches_behind slot start l)) (sym v) ∙ c.in_ok-closed.ensures.forced in
    let ends = end [] start closed.at closed.forced read (ap (gate_behind start) (no_slots read) ∙ at) (ap counted (no_slots read) ∙ forced) in
    let reader = c.new-reader.result in
    let rest_is : reader.rest ≡ items = c.new-reader.ensures.rest in
    let whole : batches_from (length reader.rest) start reader.rest ≡ Ok ends.batches = subst (λ (l : List ℕ). batches_from (length l) start l ≡ Ok ends.batches) (sym rest_is) (walk_behind slot start items ends.batches ends.are) in
    let all = c.in_ok-all.all in
    let e = (c.in_ok-all.ensures {u = tt}).read ends.batches whole in
    let none = c.new-reader.ensures.records in
    let places = all_places reader all _ _ e none (Some []) (c.new-reader.ensures.places ∙ ap (λ (l : List ℕ). Some l) c.new.ensures) in
    let records = all_records reader all _ _ e none in
    let same : c.of.result ≡ e.placed = beside all e.placed records places c.of.result c.of.ensures in
    record {
      batches = ends.batches;
      frame = ends.are;
      gate_is = ends.gate_is;
      forced_is = ends.forced_is;
      are_read = subst (λ (l : List Placed). AreRead (placed_by slot ends.batches) (payload_count ends.batches) l) (sym same) e.are_read;
    }
