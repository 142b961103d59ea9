-- A log of the former format that reads is migrated to one that reads, with the same records.
use Rattle.std.proofs.Common.{◌≡◌, ℕ, ◌+◌, ◌^◌, ◌<◌, ◌≤◌, List, [], ◌∷◌, ◌++◌, length, get_or, take, drop, refl, sym, ap, ◌∙◌, append_assoc, arith}
use Rattle.std.specs.Prelude.{Result, Ok, Err, Option}
use Rattle.std.specs.List.{AllByRecursion}
use Rattle.std.proofs.lemmas.List.{length-append, length-drop, length-take, take_at, drop_at}
use Rattle.std.proofs.Math.Seq.{get_or-append_seam}
use Rattle.ic_base.specs.declared.limits.TheConstants.{FIRST_GATE, LOG_BYTES, SLOTS}
use Rattle.ic_base.specs.declared.record.Batch.{Batch}
use Rattle.ic_base.specs.declared.record.Record.{Record}
use Rattle.def_log.specs.Directory.{directory, first_slot, first_bad_slot, slots_in, unless_bad}
use Rattle.def_log.specs.Frame.{letters, header, batches, placed, any_batch, frame_of, fingerprint_in, owner_in}
use Rattle.def_log.specs.Laws.{AreSlots}
use Rattle.def_log.specs.Log.{◌>>=◌, Placed, placed_in, placed_with, records_in, ends_with_checkpoint, placed_log_of}
use Rattle.def_log.proofs.Frames.{frame_closed, length-header, slots_of_header}
use Rattle.def_former.specs.Frame.{former_frame_of}
use Rattle.def_former.specs.Laws.{IsLogFor, MigratedReadsTheSame}
use Rattle.def_former.specs.Log.{former_log_of}
use Rattle.def_former.specs.Migrated.{payloads_of, checkpoint_gates, slots_for, migrated}
use Rattle.def_former.proofs.Frames.{IsFormerFrame, former_parts, payloads_fit, length-batches, batches_short}
use Rattle.def_former.proofs.Records.{moved_in}
use Rattle.def_former.proofs.Slots.{all_take, named, within}

-- the records of a log whose batches are these
records_of_is : (r : Result (List Placed) ℕ) (rs : List Record) → r >>= (λ ps. Ok (records_in ps)) ≡ Ok rs → (ps : List Placed) × (r ≡ Ok ps) × (records_in ps ≡ rs)
records_of_is (Err place) rs e = absurd (cc e)
records_of_is (Ok ps) rs e = (ps, refl, cc e)

placed_are : (old : List ℕ) (bs : List Batch) (rs : List Record) → former_frame_of old ≡ Ok bs → former_log_of old ≡ Ok rs → (ps : List Placed) × (placed_in bs ≡ Ok ps) × (records_in ps ≡ rs)
placed_are old bs rs frame log =
    records_of_is (placed_in bs) rs (sym (ap (λ (r : Result (List Batch) ℕ). r >>= (λ bs. placed_in bs) >>= (λ ps. Ok (records_in ps))) frame) ∙ log)

-- what the header tells
module _ (fingerprint : List ℕ) (owner : ℕ) (slots more : List ℕ) (print : length fingerprint ≡ 32) where
  pub told_fingerprint : fingerprint_in (header fingerprint owner slots ++ more) ≡ fingerprint
  told_fingerprint =
      let behind : List ℕ = owner ∷ (directory slots ++ more) in
      let parts : header fingerprint owner slots ++ more ≡ letters ++ (fingerprint ++ behind) = grind (arith, append_assoc) in
      ap (λ (l : List ℕ). take 32 (drop 8 l)) parts ∙ ap (take 32) (drop_at letters (fingerprint ++ behind) 8 refl) ∙ take_at fingerprint behind 32 print

  pub told_owner : owner_in (header fingerprint owner slots ++ more) ≡ owner
  told_owner =
      let behind : List ℕ = directory slots ++ more in
      let parts : header fingerprint owner slots ++ more ≡ (letters ++ fingerprint) ++ (owner ∷ behind) = grind (arith, append_assoc) in
      ap (λ (l : List ℕ). get_or l 40 0) parts ∙ at (letters ++ fingerprint) (omega (arith, print, length-append letters fingerprint)) behind
    where
      at : (front : List ℕ) → length front ≡ 40 → (rest : List ℕ) → get_or (front ++ (owner ∷ rest)) 40 0 ≡ owner
      at front len rest = ap (λ k. get_or (front ++ (owner ∷ rest)) k 0) (sym len) ∙ get_or-append_seam front owner rest 0

module _ (fingerprint : List ℕ) (owner : ℕ) (old : List ℕ) (bs : List Batch) (rs : List Record) (print : length fingerprint ≡ 32) (frame : former_frame_of old ≡ Ok bs) (log : former_log_of old ≡ Ok rs) where
  abbrev ps : List (List ℕ)
  ps = payloads_of bs

  abbrev slots : List ℕ
  slots = slots_for ps

  abbrev file : List ℕ
  file = migrated fingerprint owner bs

  f : IsFormerFrame old bs
  f = former_parts old bs frame

  -- the batches stand behind the header, and end far below the limit
  top : FIRST_GATE + length (batches ps) + 1 ≤ LOG_BYTES
  top = omega (arith, length-batches bs, batches_short old bs f)

  few : length slots ≤ SLOTS
  few = omega (arith, length-take SLOTS (checkpoint_gates (placed FIRST_GATE ps)))

  small : AllByRecursion (λ o. o < 2 ^ 64) slots
  small =
      let end : ℕ = FIRST_GATE + length (batches ps) in
      all_take (λ o. (FIRST_GATE ≤ o) × (o ≤ end)) (λ o. o < 2 ^ 64) (λ o is. omega (arith, is.1, top)) SLOTS (checkpoint_gates (placed FIRST_GATE ps))
      (within ends_with_checkpoint FIRST_GATE FIRST_GATE end ps (omega arith) (omega arith))

  are_slots : AreSlots slots ps
  are_slots = record { few = few; small = small; named = named ends_with_checkpoint any_batch (λ b is. refl) SLOTS first_slot FIRST_GATE ps }

  size : length file ≤ LOG_BYTES
  size = omega (
    arith,
    top,
    length-header fingerprint owner slots print few,
    length-append (header fingerprint owner slots) (batches ps ++ 0 ∷ []),
    length-append (batches ps) (0 ∷ []),
  )

  batches_same : frame_of file ≡ Ok (placed FIRST_GATE ps)
  batches_same = frame_closed fingerprint owner slots ps 0 [] print are_slots (payloads_fit (length old) 40 (drop 40 old) bs f.batches_same (omega (arith, f.short, length-drop 40 old))) (omega arith) size

  slots_same : slots_in file ≡ slots
  slots_same = slots_of_header fingerprint owner slots print few (batches ps ++ 0 ∷ []) small

  pub is_log : IsLogFor fingerprint owner bs rs file
  is_log =
      let read = placed_are old bs rs frame log in
      let moved = moved_in bs FIRST_GATE read.0 read.1 in
      let found : placed_log_of file ≡ Ok moved.places =
      ap (λ (r : Result (List Batch) ℕ). r >>= (λ bs. placed_with (slots_in file) bs)) batches_same
      ∙ ap (λ (l : List ℕ). placed_with l (placed FIRST_GATE ps)) slots_same
      ∙ ap (λ (r : Result (List Placed) ℕ). r >>= (λ rs. unless_bad (first_bad_slot ends_with_checkpoint first_slot slots (placed FIRST_GATE ps)) rs)) moved.is
      ∙ ap (λ (o : Option ℕ). unless_bad o moved.places) (named ends_with_checkpoint ends_with_checkpoint (λ b is. is) SLOTS first_slot FIRST_GATE ps) in
      record {
        records = ap (λ (r : Result (List Placed) ℕ). r >>= (λ ps. Ok (records_in ps))) found ∙ ap (λ (l : List Record). Ok l) (moved.same ∙ read.2);
        batches = batches_same;
        slots = slots_same;
        fingerprint_same = told_fingerprint fingerprint owner slots (batches ps ++ 0 ∷ []) print;
        owner_same = told_owner fingerprint owner slots (batches ps ++ 0 ∷ []) print;
        short = size;
      }

pub reads_the_same : MigratedReadsTheSame
reads_the_same fingerprint owner old bs rs print frame log = is_log fingerprint owner old bs rs print frame log
