-- Reading the records of a tail where they lie.
use Rattle.std.proofs.Common.{◌≡◌, ◌∙◌, refl, sym, ap, subst, cond, arith, ℕ, ◌+◌, ◌-◌, ◌≤◌, Bool, true, false, List, [], ◌∷◌, ◌++◌, length, drop, append_assoc, Option, Some, None}
use Rattle.std.specs.Prelude.{Result, Ok, Err}
use Rattle.std.proofs.lemmas.List.{length-drop, drop-drop, map-append}
use Rattle.std.proofs.lemmas.List.Sums.{sum_by-cons}
use Rattle.ic_base.specs.declared.record.Batch.{Batch}
use Rattle.ic_base.specs.declared.record.Record.{Record}
use Rattle.def_log.specs.Directory.{unless_bad}
use Rattle.def_log.specs.Frame.{with_batch, with_slots, batches_from}
use Rattle.def_log.specs.Loading.{first_batch}
use Rattle.def_log.specs.Log.{◌>>=◌, Placed, placed_at, placed_in, placed_with, placed_by, records_in, idle_slot, ends_with_checkpoint}
use Rattle.def_log.specs.Sizes.{payload_count}
use Rattle.def_log.proofs.Keeps.{is_whole}
use Rattle.def_log.proofs.Steps.{behind, followed, step}
use Rattle.def_log.proofs.Tails.{enough}
use Rattle.ic_wire.proofs.Placing.{with_front}
use Rattle.ic_gate.specs.Reading.{is_open_front, batches_behind}
use Rattle.ic_gate.specs.Readers.{ReadSoFar, with_places, IsReadOn}
use Rattle.ic_gate.specs.RecordLoads.{FailsToRead}
use Rattle.ic_gate.specs.declared.refusals.LoadWhy.{LoadWhy}
use Rattle.ic_gate.specs.declared.refusals.LoadWhy.TheVariants.{Bad, Foreign, Failed, Stopped, Memory}
use Rattle.ic_gate.proofs.PlacedRecords.{both_fit, both_long}
use Rattle.ic_gate.proofs.ReadBatches.{same_batches}
use Rattle.ic_gate.proofs.Readers.{places_both}

-- no slot is looked at
pub no_slots : (r : Result (List Batch) ℕ) → with_slots [] r ≡ r
no_slots (Ok bs) = refl
no_slots (Err place) = refl

no_slot : (r : Result (List Placed) ℕ) → (r >>= λ rs. Ok rs) ≡ r
no_slot (Ok rs) = refl
no_slot (Err place) = refl

-- the batches of a tail whose gate was looked at
pub walk_behind : (slot : Option ℕ) (gate : ℕ) (bytes : List ℕ) (bs : List Batch) → batches_behind slot gate bytes ≡ Ok bs → batches_from (length bytes) gate bytes ≡ Ok bs
walk_behind None gate bytes bs e = e
walk_behind (Some place) gate bytes bs e = at (is_open_front bytes) e
  where
    at : (t : Bool) → cond t (batches_from (length bytes) gate bytes) (Err place) ≡ Ok bs → batches_from (length bytes) gate bytes ≡ Ok bs
    at true d = d
    at false d = absurd (cc d)

parts : (gate : ℕ) (bytes : List ℕ) (b : Batch) (bs : List Batch) → first_batch gate bytes ≡ Ok (Some b) → batches_from (length bytes) gate bytes ≡ Ok bs
    → (rest : List Batch) × (bs ≡ b ∷ rest) × (batches_from (length (behind b bytes)) (gate + 5 + length b.payload) (behind b bytes) ≡ Ok rest)
parts gate [] b bs e whole = absurd (cc e)
parts gate (byte ∷ more) b bs e whole =
    let next : ℕ = gate + 5 + length b.payload in
    let left : List ℕ = behind b (byte ∷ more) in
    let fewer : length left ≡ length (byte ∷ more) - 5 - length b.payload = length-drop (length b.payload) (drop 5 (byte ∷ more)) ∙ ap (λ k. k - length b.payload) (length-drop 5 (byte ∷ more)) in
    let fuel : batches_from (length left) next left ≡ batches_from (length more) next left = enough (length left) (length more) next left (omega arith) (omega (arith, fewer)) in
    at (batches_from (length left) next left) refl (ap (with_batch b) fuel ∙ ap (followed (length more) gate (byte ∷ more)) (sym e) ∙ sym (step (length more) gate (byte ∷ more)) ∙ whole)
  where
    at : (r : Result (List Batch) ℕ) → batches_from (length (behind b (byte ∷ more))) (gate + 5 + length b.payload) (behind b (byte ∷ more)) ≡ r → with_batch b r ≡ Ok bs
        → (rest : List Batch) × (bs ≡ b ∷ rest) × (batches_from (length (behind b (byte ∷ more))) (gate + 5 + length b.payload) (behind b (byte ∷ more)) ≡ Ok rest)
    at (Ok rest) d f = (rest, same_batches bs (b ∷ rest) (sym f), d)
    at (Err place) d f = absurd (cc f)

-- the first batch, and those that stand behind it
pub one_first : (gate : ℕ) (bytes : List ℕ) (b : Batch) (bs : List Batch) → first_batch gate bytes ≡ Ok (Some b) → batches_from (length bytes) gate bytes ≡ Ok bs
    → (rest : List Batch) × (bs ≡ b ∷ rest)
    × (batches_from (length (drop (5 + length b.payload) bytes)) (gate + (5 + length b.payload)) (drop (5 + length b.payload) bytes) ≡ Ok rest)
one_first gate bytes b bs e whole =
    let p = parts gate bytes b bs e whole in
    let place : gate + 5 + length b.payload ≡ gate + (5 + length b.payload) = omega arith in
    let there : behind b bytes ≡ drop (5 + length b.payload) bytes = drop-drop (length b.payload) 5 bytes in (
      p.0,
      p.1,
      subst (λ (l : List ℕ). batches_from (length l) (gate + (5 + length b.payload)) l ≡ Ok p.0) there (subst (λ (k : ℕ). batches_from (length (behind b bytes)) k (behind b bytes) ≡ Ok p.0) place p.2),
    )

pub rest_inside : (gate top : ℕ) (bytes : List ℕ) (b : Batch) → first_batch gate bytes ≡ Ok (Some b) → gate + length bytes ≤ top → gate + (5 + length b.payload) + length (drop (5 + length b.payload) bytes) ≤ top
rest_inside gate top bytes b e short = omega (arith, short, (is_whole gate bytes b e).fits, length-drop (5 + length b.payload) bytes)

-- behind records that were read, the slot is looked at
abbrev judged : Option ℕ → List Batch → Result (List Placed) ℕ → Result (List Placed) ℕ
judged slot bs read = read >>= λ rs. unless_bad (idle_slot slot bs) rs

-- the records of a tail's first batch, and of those behind it, that a reader has behind what it had
module _ (slot : Option ℕ) (b : Batch) (rest bs : List Batch) (same : bs ≡ b ∷ rest) (none first : ReadSoFar) (read : IsReadOn none (placed_at b.at b.payload) (length b.payload) first) where
  both : placed_in bs ≡ with_front read.placed (placed_with [] rest)
  both =
      ap placed_in same
      ∙ ap (λ (r : Result (List Placed) ℕ). r >>= λ xs. (placed_in rest >>= λ ys. Ok (xs ++ ys))) read.are_read.are
      ∙ ap (with_front read.placed) (sym (no_slot (placed_in rest)))

  -- the bytes of those behind it are no records
  pub rest_fails : (why : LoadWhy) → FailsToRead (placed_with [] rest) why → FailsToRead (placed_by slot bs) why
  rest_fails (Bad place) fails = ap (judged slot bs) (both ∙ ap (with_front read.placed) fails)
  rest_fails (Foreign kept) fails = fails
  rest_fails Failed fails = fails
  rest_fails Stopped fails = fails
  rest_fails Memory fails = fails

  module _ (all : ReadSoFar) (on : IsReadOn first (placed_with [] rest) (payload_count rest) all) (ends : Bool) (told : ends ≡ ends_with_checkpoint b) where
    abbrev placed : List Placed
    placed = read.placed ++ on.placed

    whole : placed_in bs ≡ Ok placed
    whole = both ∙ ap (with_front read.placed) on.are_read.are

    -- the slot's batch doesn't end with a checkpoint
    pub idle_first : (place : ℕ) → slot ≡ Some place → ends ≡ false → placed_by slot bs ≡ Err place
    idle_first place is not =
        ap (judged slot bs) whole
        ∙ ap (λ (cs : List Batch). unless_bad (idle_slot slot cs) placed) same
        ∙ ap (λ (s : Option ℕ). unless_bad (idle_slot s (b ∷ rest)) placed) is
        ∙ ap (λ (t : Bool). unless_bad (cond t None (Some place)) placed) (sym told ∙ not)

    tail_whole : idle_slot slot (b ∷ rest) ≡ None → IsReadOn none (placed_by slot bs) (payload_count bs) all
    tail_whole good = record {
      placed = placed;
      are_read = record {
        are = ap (judged slot bs) whole ∙ ap (λ (cs : List Batch). unless_bad (idle_slot slot cs) placed) same ∙ ap (λ (o : Option ℕ). unless_bad o placed) good;
        fit = both_fit read.placed on.placed read.are_read.fit on.are_read.fit;
        long = omega (
          arith,
          ap payload_count same,
          sum_by-cons (λ (c : Batch). length c.payload) b rest,
          read.are_read.long,
          on.are_read.long,
          both_long read.placed on.placed,
        );
      };
      behind = on.behind ∙ ap (λ (l : List Record). l ++ records_in on.placed) read.behind ∙ append_assoc none.records (records_in read.placed) (records_in on.placed)
          ∙ ap (λ (l : List Record). none.records ++ l) (sym (map-append (λ (p : Placed). p.1) read.placed on.placed));
      placed_behind = on.placed_behind ∙ ap (λ o. with_places o on.placed) read.placed_behind ∙ places_both none.places read.placed on.placed;
    }

    pub tail_used : (place : ℕ) → slot ≡ Some place → ends ≡ true → IsReadOn none (placed_by slot bs) (payload_count bs) all
    tail_used place is does = tail_whole (ap (λ (s : Option ℕ). idle_slot s (b ∷ rest)) is ∙ ap (λ (t : Bool). cond t None (Some place)) (sym told ∙ does))

    pub no_slot_used : slot ≡ None → IsReadOn none (placed_by slot bs) (payload_count bs) all
    no_slot_used is = tail_whole (ap (λ (s : Option ℕ). idle_slot s (b ∷ rest)) is)
