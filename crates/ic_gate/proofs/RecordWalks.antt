-- Reading the records of the batches of a file where they lie.
use Rattle.std.proofs.Common.{◌≡◌, ℕ, ◌+◌, ◌-◌, ◌≤◌, List, [], ◌∷◌, ◌++◌, length, drop, Some, None, refl, sym, ap, ◌∙◌, append_assoc, arith}
use Rattle.std.specs.Prelude.{Result, Ok, Err}
use Rattle.std.specs.List.{AllByRecursion}
use Rattle.std.proofs.lemmas.List.{append-nil, drop-drop, map-append}
use Rattle.ic_base.specs.declared.record.Batch.{Batch}
use Rattle.ic_base.specs.declared.record.Record.{Record}
use Rattle.def_log.specs.Directory.{first_slot, first_bad_slot}
use Rattle.def_log.specs.Frame.{batches_from}
use Rattle.def_log.specs.Loading.{first_batch}
use Rattle.def_log.specs.Log.{Placed, placed_at, placed_in, placed_with, records_in, ends_with_checkpoint}
use Rattle.def_log.specs.Sizes.{span, payload_count}
use Rattle.def_log.proofs.Spans.{span-push, payload_count-push}
use Rattle.def_state.specs.Positions.{end_of}
use Rattle.ic_wire.specs.Placed.{PlacedFits}
use Rattle.ic_wire.proofs.Placing.{with_front}
use Rattle.ic_gate.specs.Readers.{ReadSoFar, with_places, IsReadOn}
use Rattle.ic_gate.specs.RecordLoads.{AreRead, FailsToRead}
use Rattle.ic_gate.specs.Refusals.{IsPlace}
use Rattle.ic_gate.specs.Slots.{bad_behind}
use Rattle.ic_gate.specs.declared.refusals.LoadWhy.{LoadWhy}
use Rattle.ic_gate.specs.declared.refusals.LoadWhy.TheVariants.{Bad, Foreign, Failed, Stopped, Memory}
use Rattle.ic_gate.proofs.PlacedRecords.{both_fit, both_long, read_on, fails_on}
use Rattle.ic_gate.proofs.ReadBatches.{IsReadTo, same_batches, all_read, refused, fits, one_more, goes_on, gate_there, at_first}
use Rattle.ic_gate.proofs.Readers.{places_both, places_none}
use Rattle.ic_gate.proofs.RecordLoads.{unread, idle, judged_well}

-- these are the records of the batches before the gate, and so far the slots were looked at
pub record AreReadTo (start : ℕ) (bytes slots : List ℕ) (gate : ℕ) (so_far : Result ℕ ℕ) (records : List Placed) : Type 0 where
  pub batches : List Batch
  pub read : IsReadTo start bytes batches gate
  pub place : gate ≡ start + span batches
  pub front : (bs : List Batch) → placed_in (batches ++ bs) ≡ with_front records (placed_in bs)
  pub fit : AllByRecursion PlacedFits records
  pub long : payload_count batches ≡ end_of (records_in records)
  pub judged : (bs : List Batch) → first_bad_slot ends_with_checkpoint first_slot slots (batches ++ bs) ≡ bad_behind slots so_far bs

-- a reader has them behind what it had, and hasn't looked at the bytes from the gate on
pub record IsWalkedTo (before : ReadSoFar) (start : ℕ) (bytes slots : List ℕ) (gate : ℕ) (so_far : Result ℕ ℕ) (all : ReadSoFar) : Type 0 where
  pub records : List Placed
  pub behind : all.records ≡ before.records ++ records_in records
  pub placed_behind : all.places ≡ with_places before.places records
  pub left : all.rest ≡ drop (gate - start) bytes
  pub are : AreReadTo start bytes slots gate so_far records

none_read : (start : ℕ) (bytes slots : List ℕ) → AreReadTo start bytes slots start (Ok 0) []
none_read start bytes slots = record {
  batches = [];
  read = at_first start bytes;
  place = omega arith;
  front = λ bs. alone (placed_in bs);
  fit = tt;
  long = refl;
  judged = λ bs. refl;
}
  where
    alone : (r : Result (List Placed) ℕ) → r ≡ with_front [] r
    alone (Ok rs) = refl
    alone (Err place) = refl

pub none_walked : (reader : ReadSoFar) (start : ℕ) (slots : List ℕ) → IsWalkedTo reader start reader.rest slots start (Ok 0) reader
none_walked reader start slots =
    let none : start - start ≡ 0 = omega arith in
    record {
      records = [];
      behind = sym (append-nil reader.records);
      placed_behind = places_none reader.places;
      left = ap (λ k. drop k reader.rest) (sym none);
      are = none_read start reader.rest slots;
    }

-- where the frame is refused there are no batches
pub no_batches : (why : LoadWhy) (r : Result (List Batch) ℕ) → IsPlace why → ((place : ℕ) → why ≡ Bad place → r ≡ Err place) → (bs : List Batch) → r ≡ Ok bs → (read : Result (List Placed) ℕ) → FailsToRead read why
no_batches (Bad place) r is bad bs e read = let at : r ≡ Err place = bad place refl in absurd (cc)
no_batches (Foreign kept) r is bad bs e read = absurd is
no_batches Failed r is bad bs e read = absurd is
no_batches Stopped r is bad bs e read = absurd is
no_batches Memory r is bad bs e read = absurd is

module _ (start : ℕ) (bytes slots : List ℕ) (gate : ℕ) (so_far : Result ℕ ℕ) (records : List Placed) (are : AreReadTo start bytes slots gate so_far records) (inside : gate - start ≤ length bytes) where
  abbrev here : List ℕ
  here = drop (gate - start) bytes

  pub gate_refused : (at : ℕ) → first_batch gate here ≡ Err at → batches_from (length bytes) start bytes ≡ Err at
  gate_refused at e = refused start bytes are.batches gate are.place inside are.read at e

  module _ (b : Batch) (found : first_batch gate here ≡ Ok (Some b)) where
    pub next_inside : gate + (5 + length b.payload) ≤ start + length bytes
    next_inside = omega (arith, are.place, fits start bytes are.batches gate are.place inside are.read b found)

    -- the records of one batch more
    read_further : (more : List Placed) (next : Result ℕ ℕ) → AreRead (placed_at b.at b.payload) (length b.payload) more → ((bs : List Batch) → bad_behind slots next bs ≡ bad_behind slots so_far (b ∷ bs))
        → AreReadTo start bytes slots (gate + (5 + length b.payload)) next (records ++ more)
    read_further more next e on = record {
      batches = are.batches ++ b ∷ [];
      read = let sum : gate + 5 + length b.payload ≡ gate + (5 + length b.payload) = omega arith in rw (← sum) (one_more start bytes are.batches gate are.place inside are.read b found);
      place = omega (arith, are.place, span-push are.batches b);
      front = λ bs. ap placed_in (append_assoc are.batches (b ∷ []) bs) ∙ are.front (b ∷ bs) ∙ read_on records more b bs e.are;
      fit = both_fit records more are.fit e.fit;
      long = omega (arith, payload_count-push are.batches b, are.long, e.long, both_long records more);
      judged = λ bs. ap (first_bad_slot ends_with_checkpoint first_slot slots) (append_assoc are.batches (b ∷ []) bs) ∙ are.judged (b ∷ bs) ∙ sym (on bs);
    }

    pub more_behind : (before all more : ReadSoFar) (next : Result ℕ ℕ) → all.records ≡ before.records ++ records_in records → all.places ≡ with_places before.places records → all.rest ≡ here
        → IsReadOn all (placed_at b.at b.payload) (length b.payload) more → more.rest ≡ drop (5 + length b.payload) all.rest → ((bs : List Batch) → bad_behind slots next bs ≡ bad_behind slots so_far (b ∷ bs))
        → IsWalkedTo before start bytes slots (gate + (5 + length b.payload)) next more
    more_behind before all more next same places left e rest on =
        let past : gate - start + (5 + length b.payload) ≡ gate + (5 + length b.payload) - start = omega (arith, are.place) in
        record {
          records = records ++ e.placed;
          behind = e.behind ∙ ap (λ (l : List Record). l ++ records_in e.placed) same ∙ append_assoc before.records (records_in records) (records_in e.placed)
              ∙ ap (λ (l : List Record). before.records ++ l) (sym (map-append (λ (p : Placed). p.1) records e.placed));
          placed_behind = e.placed_behind ∙ ap (λ o. with_places o e.placed) places ∙ places_both before.places records e.placed;
          left = rest ∙ ap (drop (5 + length b.payload)) left ∙ drop-drop (5 + length b.payload) (gate - start) bytes ∙ ap (λ k. drop k bytes) past;
          are = read_further e.placed next e.are_read on;
        }

    -- its bytes are no records
    pub batch_refused : (why : LoadWhy) → FailsToRead (placed_at b.at b.payload) why → (bs : List Batch) → batches_from (length bytes) start bytes ≡ Ok bs → FailsToRead (placed_with slots bs) why
    batch_refused why fails bs is =
        let rest = goes_on start bytes are.batches gate are.place inside are.read b found bs is in
        unread slots bs why (fails_on records b rest.0 (placed_in bs) why (ap placed_in rest.1 ∙ are.front (b ∷ rest.0)) fails)

  -- the gate is closed
  module _ (closed : first_batch gate here ≡ Ok None) (bs : List Batch) (whole : batches_from (length bytes) start bytes ≡ Ok bs) where
    batches_same : bs ≡ are.batches ++ []
    batches_same =
        same_batches bs are.batches (sym whole ∙ all_read start bytes are.batches gate are.place inside are.read (gate_there gate here _ closed) closed)
        ∙ sym (append-nil are.batches)

    placed : placed_in bs ≡ Ok records
    placed = ap placed_in batches_same ∙ are.front [] ∙ ap (λ (l : List Placed). Ok l) (append-nil records)

    bad_slot : first_bad_slot ends_with_checkpoint first_slot slots bs ≡ bad_behind slots so_far []
    bad_slot = ap (first_bad_slot ends_with_checkpoint first_slot slots) batches_same ∙ are.judged []

    pub slot_refused : (place : ℕ) → bad_behind slots so_far [] ≡ Some place → placed_with slots bs ≡ Err place
    slot_refused place e = idle slots bs records place placed (bad_slot ∙ e)

    pub records_read : bad_behind slots so_far [] ≡ None → AreRead (placed_with slots bs) (payload_count bs) records
    records_read e =
        judged_well slots bs records (payload_count bs) (bad_slot ∙ e)
        (record { are = placed; fit = are.fit; long = ap payload_count (batches_same ∙ append-nil are.batches) ∙ are.long })

-- where no batch stands no record is read
pub nothing_read : (gate : ℕ) (rest : List ℕ) → first_batch gate rest ≡ Ok None → (bs : List Batch) → batches_from (length rest) gate rest ≡ Ok bs → AreRead (placed_with [] bs) (payload_count bs) []
nothing_read gate rest closed bs whole =
    let none : gate - gate ≡ 0 = omega arith in
    records_read gate rest [] gate (Ok 0) [] (none_read gate rest []) (omega arith) (ap (λ k. first_batch gate (drop k rest)) none ∙ closed) bs whole refl
