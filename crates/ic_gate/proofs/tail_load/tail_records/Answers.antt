use Rattle.std.proofs.Common.{◌≡◌, ◌∙◌, ap, sym, subst, ℕ, ◌+◌, List, [], Option, Some, None, length, take, drop, arith}
use Rattle.std.specs.Prelude.{Ok}
use Rattle.std.proofs.lemmas.List.{append-nil}
use Rattle.std.proofs.lemmas.Result.{err_from_is_err_and}
use Rattle.ic_base.specs.declared.limits.TheConstants.{LOG_BYTES}
use Rattle.def_log.specs.Frame.{batches_from}
use Rattle.def_log.specs.Loading.{first_batch}
use Rattle.def_log.specs.Log.{placed_at, placed_by, ends_with_checkpoint}
use Rattle.def_log.specs.Sizes.{payload_count}
use Rattle.def_log.proofs.Keeps.{is_whole}
use Rattle.ic_gate.specs.Gates.{batch_behind}
use Rattle.ic_gate.specs.Readers.{IsReadOn}
use Rattle.ic_gate.specs.RecordLoads.{AreRead}
use Rattle.ic_gate.proofs.ReadBatches.{found_same}
use Rattle.ic_gate.proofs.Readers.{payload_is, places_none}
use Rattle.ic_gate.proofs.RecordWalks.{nothing_read}
use Rattle.ic_gate.proofs.TailWalks.{one_first, rest_inside, rest_fails, idle_first, tail_used, no_slot_used}
use Rattle.ic_gate.proofs.tail_load.tail_records.Goals.{in_default-slot-via-in-Some-slot-2+else-not-ends, in_default-slot-via-in_default-slot}
use Rattle.ic_gate.proofs.tail_load.tail_records.Goals as goal

pub read_on-requires-clause-inside : goal.read_on-requires-clause-inside
read_on-requires-clause-inside c =
    let start = c.args.start in
    let rest = c.args.reader.rest in
    let payload = c.in-Some.payload.now in
    let b = batch_behind start payload in
    let found : first_batch start rest ≡ Ok (Some b) = ap (first_batch start) (sym c.rest.ensures) ∙ found_same start c.rest.result.now _ _ c.in_ok-payload.ensures.found c.in-Some.is in
    let there : take (length payload) (drop 5 rest) ≡ payload = sym (payload_is start rest b found) in
    (is_whole start rest b found).fits

pub records_on-requires-clause-short : goal.records_on-requires-clause-short
records_on-requires-clause-short c =
    let start = c.args.start in
    let rest = c.args.reader.rest in
    let payload = c.in-Some.payload.now in
    let b = batch_behind start payload in
    let found : first_batch start rest ≡ Ok (Some b) = ap (first_batch start) (sym c.rest.ensures) ∙ found_same start c.rest.result.now _ _ c.in_ok-payload.ensures.found c.in-Some.is in
    let there : take (length payload) (drop 5 rest) ≡ payload = sym (payload_is start rest b found) in
    omega (arith, rest_inside start LOG_BYTES rest b found c.requires.short, ap length (c.in_ok-first.ensures {u = tt}).rest)

pub returns-in-None-clause-read : goal.returns-in-None-clause-read
returns-in-None-clause-read c bs whole =
    let start = c.args.start in
    let rest = c.args.reader.rest in
    let none : first_batch start rest ≡ Ok None = ap (first_batch start) (sym c.rest.ensures) ∙ found_same start c.rest.result.now _ _ c.in_ok-payload.ensures.found c.in_default.is in
    record {
      placed = [];
      are_read = subst (λ (s : Option ℕ). AreRead (placed_by s bs) (payload_count bs) []) (sym c.in-None.is) (nothing_read start rest none bs whole);
      behind = sym (append-nil c.args.reader.records);
      placed_behind = places_none c.args.reader.places;
    }

pub returns-in_err-all-clause-refused : goal.returns-in_err-all-clause-refused
returns-in_err-all-clause-refused c =
    let p = err_from_is_err_and c.from_residual-in_err-all.result c.from_residual-in_err-all.ensures.1 in
    let start = c.args.start in
    let rest = c.args.reader.rest in
    let payload = c.in-Some.payload.now in
    let b = batch_behind start payload in
    let found : first_batch start rest ≡ Ok (Some b) = ap (first_batch start) (sym c.rest.ensures) ∙ found_same start c.rest.result.now _ _ c.in_ok-payload.ensures.found c.in-Some.is in
    let there : take (length payload) (drop 5 rest) ≡ payload = sym (payload_is start rest b found) in
    let first = c.in_ok-first.first in
    let e = c.in_ok-first.ensures {u = tt} in
    let read : IsReadOn c.args.reader (placed_at b.at b.payload) (length b.payload) first = subst (λ (x : List ℕ). IsReadOn c.args.reader (placed_at (start + 5) x) (length payload) first) there e.read in
    rw (p.1, p.2) (λ bs whole.
    let q = one_first start rest b bs found whole in
    let on_rest : batches_from (length first.rest) (start + (5 + length payload)) first.rest ≡ Ok q.0 = subst (λ (l : List ℕ). batches_from (length l) (start + (5 + length payload)) l ≡ Ok q.0) (sym e.rest) q.2 in
    rest_fails c.args.slot b q.0 bs q.1 c.args.reader first read c.in_err-all.field-0.0 ((c.in_err-all.ensures {u = tt}).refused q.0 on_rest))

pub returns-in-Some-slot-2-clause-refused : goal.returns-in-Some-slot-2-clause-refused
returns-in-Some-slot-2-clause-refused c bs whole =
    let start = c.args.start in
    let rest = c.args.reader.rest in
    let payload = c.in-Some.payload.now in
    let b = batch_behind start payload in
    let found : first_batch start rest ≡ Ok (Some b) = ap (first_batch start) (sym c.rest.ensures) ∙ found_same start c.rest.result.now _ _ c.in_ok-payload.ensures.found c.in-Some.is in
    let there : take (length payload) (drop 5 rest) ≡ payload = sym (payload_is start rest b found) in
    let first = c.in_ok-first.first in
    let e = c.in_ok-first.ensures {u = tt} in
    let read : IsReadOn c.args.reader (placed_at b.at b.payload) (length b.payload) first = subst (λ (x : List ℕ). IsReadOn c.args.reader (placed_at (start + 5) x) (length payload) first) there e.read in
    let q = one_first start rest b bs found whole in
    let on_rest : batches_from (length first.rest) (start + (5 + length payload)) first.rest ≡ Ok q.0 = subst (λ (l : List ℕ). batches_from (length l) (start + (5 + length payload)) l ≡ Ok q.0) (sym e.rest) q.2 in
    let told : c.in_ok-first.ends ≡ ends_with_checkpoint b = e.ends ∙ ap (λ (x : List ℕ). ends_with_checkpoint (batch_behind start x)) there in
    let on = (c.in_ok-all.ensures {u = tt}).read q.0 on_rest in
    idle_first c.args.slot b q.0 bs q.1 c.args.reader first read c.in_ok-all.all on c.in_ok-first.ends told c.in-Some-slot-2.place c.in-Some-slot-2.is c.if-not-ends.true

pub returns-in_default-slot-clause-read : goal.returns-in_default-slot-clause-read
returns-in_default-slot-clause-read c bs whole =
    let start = c.args.start in
    let rest = c.args.reader.rest in
    let payload = c.in-Some.payload.now in
    let b = batch_behind start payload in
    let found : first_batch start rest ≡ Ok (Some b) = ap (first_batch start) (sym c.rest.ensures) ∙ found_same start c.rest.result.now _ _ c.in_ok-payload.ensures.found c.in-Some.is in
    let there : take (length payload) (drop 5 rest) ≡ payload = sym (payload_is start rest b found) in
    let first = c.in_ok-first.first in
    let e = c.in_ok-first.ensures {u = tt} in
    let read : IsReadOn c.args.reader (placed_at b.at b.payload) (length b.payload) first = subst (λ (x : List ℕ). IsReadOn c.args.reader (placed_at (start + 5) x) (length payload) first) there e.read in
    let q = one_first start rest b bs found whole in
    let on_rest : batches_from (length first.rest) (start + (5 + length payload)) first.rest ≡ Ok q.0 = subst (λ (l : List ℕ). batches_from (length l) (start + (5 + length payload)) l ≡ Ok q.0) (sym e.rest) q.2 in
    let told : c.in_ok-first.ends ≡ ends_with_checkpoint b = e.ends ∙ ap (λ (x : List ℕ). ends_with_checkpoint (batch_behind start x)) there in
    let on = (c.in_ok-all.ensures {u = tt}).read q.0 on_rest in
    elim c.in_default-slot.branch [
      | in_default-slot-via-in-Some-slot-2+else-not-ends w ↦ tail_used c.args.slot b q.0 bs q.1 c.args.reader first read c.in_ok-all.all on c.in_ok-first.ends told w.in-Some-slot-2.place w.in-Some-slot-2.is w.if-not-ends.false
      | in_default-slot-via-in_default-slot w ↦ no_slot_used c.args.slot b q.0 bs q.1 c.args.reader first read c.in_ok-all.all on c.in_ok-first.ends told w.in_default-slot.is
    ]
