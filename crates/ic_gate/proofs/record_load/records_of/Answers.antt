use Rattle.std.proofs.Common.{◌≡◌, ◌∙◌, ap, sym, subst, ℕ, ◌+◌, ◌-◌, ◌≤◌, List, length, take, drop, arith}
use Rattle.std.specs.Prelude.{Ok, Err}
use Rattle.std.proofs.lemmas.List.{take_rest, length-drop}
use Rattle.std.proofs.lemmas.Result.{err_from_is_err_and}
use Rattle.ic_base.specs.declared.limits.TheConstants.{FIRST_GATE, LOG_BYTES}
use Rattle.def_log.specs.Frame.{batches_from}
use Rattle.def_log.specs.Loads.{placed_log_for}
use Rattle.def_log.specs.Log.{placed_with}
use Rattle.ic_gate.specs.RecordLoads.{HoldRecords}
use Rattle.ic_gate.specs.Refusals.{IsNotForeign}
use Rattle.ic_gate.proofs.Headers.{head_refused}
use Rattle.ic_gate.proofs.LoadedPlaces.{all_records, all_places}
use Rattle.ic_gate.proofs.ReadLogs.{end, not_foreign, fails_in_file, frame_refused, walk_refused, records_refused, held}
use Rattle.ic_gate.proofs.record_load.records_of.Goals as goal

pub returns-in_err-check_header-clause-bad : goal.returns-in_err-check_header-clause-bad
returns-in_err-check_header-clause-bad c =
    let p = err_from_is_err_and c.from_residual.result c.from_residual.ensures.1 in
    let owner = c.args.owner in
    let file = c.deref-file.result.now in
    rw (p.1, p.2) (λ place e. subst (λ (l : List ℕ). placed_log_for owner l ≡ Err place) c.deref-file.ensures.value (frame_refused owner file place (head_refused owner file place (c.in_err-check_header.ensures.bad place e))))

pub returns-in_err-check_header-clause-not_foreign : goal.returns-in_err-check_header-clause-not_foreign
returns-in_err-check_header-clause-not_foreign c =
    let p = err_from_is_err_and c.from_residual.result c.from_residual.ensures.1 in
    rw (p.1, p.2) (λ place e. subst (IsNotForeign c.args.fingerprint.now) c.deref-file.ensures.value (c.in_err-check_header.ensures.not_foreign place e))

pub returns-in_err-closed-clause-bad : goal.returns-in_err-closed-clause-bad
returns-in_err-closed-clause-bad c =
    let p = err_from_is_err_and c.from_residual-in_err-closed.result c.from_residual-in_err-closed.ensures.1 in
    let v = c.deref-file.ensures.value in
    let file = c.deref-file.result.now in
    let items = c.args.bytes.items in
    let h = c.in_ok-check_header.ensures in
    let short : length file ≤ LOG_BYTES = omega (arith, c.requires, ap length v) in
    let slots = c.as_slice-slots.result.now in
    let listed = c.as_slice-slots.ensures.offsets ∙ c.in_ok-directory.ensures in
    rw (p.1, p.2) (λ place e. subst (λ (l : List ℕ). placed_log_for c.args.owner l ≡ Err place) v (walk_refused c.args.owner file short h.long h.letters h.owner slots listed place (c.in_err-closed.ensures.bad place e)))

pub records_on-requires-clause-short : goal.records_on-requires-clause-short
records_on-requires-clause-short c =
    let items = c.args.bytes.items in
    let there : c.new-reader.result.rest ≡ drop FIRST_GATE items = c.new-reader.ensures.rest in
    let long : FIRST_GATE ≤ length c.deref-file.result.now = c.in_ok-check_header.ensures.long in
    let short : FIRST_GATE + length c.new-reader.result.rest ≤ LOG_BYTES = omega (arith, c.requires, ap length c.deref-file.ensures.value, long, ap length there, length-drop FIRST_GATE items) in
    short

pub returns-in_err-all-clause-bad : goal.returns-in_err-all-clause-bad
returns-in_err-all-clause-bad c =
    let p = err_from_is_err_and c.from_residual-in_err-all.result c.from_residual-in_err-all.ensures.1 in
    let v = c.deref-file.ensures.value in
    let file = c.deref-file.result.now in
    let items = c.args.bytes.items in
    let h = c.in_ok-check_header.ensures in
    let short : length file ≤ LOG_BYTES = omega (arith, c.requires, ap length v) in
    let slots = c.as_slice-slots.result.now in
    let listed = c.as_slice-slots.ensures.offsets ∙ c.in_ok-directory.ensures in
    let closed = c.in_ok-closed.closed in
    let ends = end slots FIRST_GATE closed.at closed.forced _ c.in_ok-closed.ensures.at c.in_ok-closed.ensures.forced in
    let rest = c.new-reader.result.rest in
    let there : rest ≡ drop FIRST_GATE items = c.new-reader.ensures.rest in
    let same : take (length file - FIRST_GATE) (drop FIRST_GATE file) ≡ rest = take_rest file FIRST_GATE ∙ ap (drop FIRST_GATE) v ∙ sym there in
    let whole : batches_from (length rest) FIRST_GATE rest ≡ Ok ends.batches = subst (λ (l : List ℕ). batches_from (length l) FIRST_GATE l ≡ Ok ends.batches) same ends.are in
    let fails = (c.in_err-all.ensures {u = tt}).refused ends.batches whole in
    rw (p.1, p.2) (λ place e. subst (λ (l : List ℕ). placed_log_for c.args.owner l ≡ Err place) v (records_refused c.args.owner file short h.long h.letters h.owner slots listed closed.at closed.forced ends c.in_err-all.field-0.0 fails place e))

pub returns-in_err-all-clause-foreign : goal.returns-in_err-all-clause-foreign
returns-in_err-all-clause-foreign c =
    let p = err_from_is_err_and c.from_residual-in_err-all.result c.from_residual-in_err-all.ensures.1 in
    let v = c.deref-file.ensures.value in
    let file = c.deref-file.result.now in
    let items = c.args.bytes.items in
    let h = c.in_ok-check_header.ensures in
    let short : length file ≤ LOG_BYTES = omega (arith, c.requires, ap length v) in
    let slots = c.as_slice-slots.result.now in
    let listed = c.as_slice-slots.ensures.offsets ∙ c.in_ok-directory.ensures in
    let closed = c.in_ok-closed.closed in
    let ends = end slots FIRST_GATE closed.at closed.forced _ c.in_ok-closed.ensures.at c.in_ok-closed.ensures.forced in
    let rest = c.new-reader.result.rest in
    let there : rest ≡ drop FIRST_GATE items = c.new-reader.ensures.rest in
    let same : take (length file - FIRST_GATE) (drop FIRST_GATE file) ≡ rest = take_rest file FIRST_GATE ∙ ap (drop FIRST_GATE) v ∙ sym there in
    let whole : batches_from (length rest) FIRST_GATE rest ≡ Ok ends.batches = subst (λ (l : List ℕ). batches_from (length l) FIRST_GATE l ≡ Ok ends.batches) same ends.are in
    let fails = (c.in_err-all.ensures {u = tt}).refused ends.batches whole in
    rw (p.1, p.2) (λ kept is. absurd (not_foreign (placed_with slots ends.batches) c.in_err-all.field-0.0 kept fails is))

pub returns-in_err-all-clause-why : goal.returns-in_err-all-clause-why
returns-in_err-all-clause-why c =
    let p = err_from_is_err_and c.from_residual-in_err-all.result c.from_residual-in_err-all.ensures.1 in
    let v = c.deref-file.ensures.value in
    let file = c.deref-file.result.now in
    let items = c.args.bytes.items in
    let h = c.in_ok-check_header.ensures in
    let short : length file ≤ LOG_BYTES = omega (arith, c.requires, ap length v) in
    let slots = c.as_slice-slots.result.now in
    let listed = c.as_slice-slots.ensures.offsets ∙ c.in_ok-directory.ensures in
    let closed = c.in_ok-closed.closed in
    let ends = end slots FIRST_GATE closed.at closed.forced _ c.in_ok-closed.ensures.at c.in_ok-closed.ensures.forced in
    let rest = c.new-reader.result.rest in
    let there : rest ≡ drop FIRST_GATE items = c.new-reader.ensures.rest in
    let same : take (length file - FIRST_GATE) (drop FIRST_GATE file) ≡ rest = take_rest file FIRST_GATE ∙ ap (drop FIRST_GATE) v ∙ sym there in
    let whole : batches_from (length rest) FIRST_GATE rest ≡ Ok ends.batches = subst (λ (l : List ℕ). batches_from (length l) FIRST_GATE l ≡ Ok ends.batches) same ends.are in
    let fails = (c.in_err-all.ensures {u = tt}).refused ends.batches whole in
    rw (p.1, p.2) (fails_in_file (placed_with slots ends.batches) c.in_err-all.field-0.0 fails)

pub returns-clause-step : goal.returns-clause-step
returns-clause-step c =
    let v = c.deref-file.ensures.value in
    let file = c.deref-file.result.now in
    let items = c.args.bytes.items in
    let h = c.in_ok-check_header.ensures in
    let short : length file ≤ LOG_BYTES = omega (arith, c.requires, ap length v) in
    let slots = c.as_slice-slots.result.now in
    let listed = c.as_slice-slots.ensures.offsets ∙ c.in_ok-directory.ensures in
    let closed = c.in_ok-closed.closed in
    let ends = end slots FIRST_GATE closed.at closed.forced _ c.in_ok-closed.ensures.at c.in_ok-closed.ensures.forced in
    let rest = c.new-reader.result.rest in
    let there : rest ≡ drop FIRST_GATE items = c.new-reader.ensures.rest in
    let same : take (length file - FIRST_GATE) (drop FIRST_GATE file) ≡ rest = take_rest file FIRST_GATE ∙ ap (drop FIRST_GATE) v ∙ sym there in
    let whole : batches_from (length rest) FIRST_GATE rest ≡ Ok ends.batches = subst (λ (l : List ℕ). batches_from (length l) FIRST_GATE l ≡ Ok ends.batches) same ends.are in
    let reader = c.new-reader in
    let e = (c.in_ok-all.ensures {u = tt}).read ends.batches whole in
    let in_file : HoldRecords file closed.at closed.forced slots e.placed = held c.args.owner file short h.long h.letters h.owner slots listed closed.at closed.forced ends e.placed e.are_read in
    record {
      placed = e.placed;
      hold = subst (λ (l : List ℕ). HoldRecords l closed.at closed.forced c.in_ok-directory.directory e.placed) v (subst (λ (s : List ℕ). HoldRecords file closed.at closed.forced s e.placed) c.as_slice-slots.ensures.offsets in_file);
      same = all_records reader.result c.in_ok-all.all _ _ e reader.ensures.records;
      placed_same = all_places reader.result c.in_ok-all.all _ _ e reader.ensures.records c.args.places reader.ensures.places;
    }
