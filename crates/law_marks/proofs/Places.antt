-- The records of a log with their places, behind a force.
use Rattle.std.proofs.Common.{◌≡◌, refl, ◌∙◌, ap, ℕ, List, [], ◌∷◌, ◌++◌, Option, Some, None}
use Rattle.std.specs.Prelude.{Result, Ok, Err}
use Rattle.ic_base.specs.declared.record.Batch.{Batch}
use Rattle.def_log.specs.Changes.{IsSameLog, IsForced}
use Rattle.def_log.specs.Directory.{first_slot, slots_in, first_bad_slot, unless_bad}
use Rattle.def_log.specs.Frame.{any_batch, frame_of}
use Rattle.def_log.specs.Log.{◌>>=◌, Placed, placed_at, placed_in, placed_with, ends_with_checkpoint, placed_log_of, log_of, records_in}
use Rattle.def_log.proofs.Forces.{named_more}
use Rattle.def_log.proofs.Tails.{frame_parts}
use Rattle.law_marks.proofs.Reading.{placed-push}

-- a log whose records are read: its batches, and its slots
pub record IsPlacedLog (bytes : List ℕ) (ps : List Placed) : Type 0 where
  pub bs : List Batch
  pub frame : frame_of bytes ≡ Ok bs
  pub places : placed_in bs ≡ Ok ps
  pub slots : first_bad_slot ends_with_checkpoint first_slot (slots_in bytes) bs ≡ None

pub place-parts : (bytes : List ℕ) (ps : List Placed) → placed_log_of bytes ≡ Ok ps → IsPlacedLog bytes ps
place-parts bytes ps e = at (frame_of bytes) refl e
  where
    slotted : (bs : List Batch) (rs : List Placed) → placed_in bs ≡ Ok rs → (o : Option ℕ) → first_bad_slot ends_with_checkpoint first_slot (slots_in bytes) bs ≡ o → unless_bad o rs ≡ Ok ps → frame_of bytes ≡ Ok bs → IsPlacedLog bytes ps
    slotted bs rs g None h d f = record { bs = bs; frame = f; places = g ∙ d; slots = h }
    slotted bs rs g (Some place) h d f = absurd (cc d)

    placed : (bs : List Batch) (r : Result (List Placed) ℕ) → placed_in bs ≡ r → (r >>= λ rs. unless_bad (first_bad_slot ends_with_checkpoint first_slot (slots_in bytes) bs) rs) ≡ Ok ps → frame_of bytes ≡ Ok bs → IsPlacedLog bytes ps
    placed bs (Ok rs) g d f = slotted bs rs g (first_bad_slot ends_with_checkpoint first_slot (slots_in bytes) bs) refl d f
    placed bs (Err place) g d f = absurd (cc d)

    at : (r : Result (List Batch) ℕ) → frame_of bytes ≡ r → (r >>= λ bs. placed_with (slots_in bytes) bs) ≡ Ok ps → IsPlacedLog bytes ps
    at (Ok bs) f d = placed bs (placed_in bs) refl d f
    at (Err place) f d = absurd (cc d)

pub places-whole : (bytes : List ℕ) (ps : List Placed) → IsPlacedLog bytes ps → placed_log_of bytes ≡ Ok ps
places-whole bytes ps l =
    ap (λ (r : Result (List Batch) ℕ). r >>= λ bs. placed_with (slots_in bytes) bs) l.frame
    ∙ ap (λ (r : Result (List Placed) ℕ). r >>= λ rs. unless_bad (first_bad_slot ends_with_checkpoint first_slot (slots_in bytes) l.bs) rs) l.places
    ∙ ap (λ o. unless_bad o ps) l.slots

-- a log of no batches has no records
pub no_places : (bytes : List ℕ) → frame_of bytes ≡ Ok [] → placed_log_of bytes ≡ Ok []
no_places bytes e = places-whole bytes [] (record { bs = []; frame = e; places = refl; slots = by (slots_in bytes) (frame_parts bytes [] e).slots_same })
  where
    by : (slots : List ℕ) → first_bad_slot any_batch first_slot slots [] ≡ None → first_bad_slot ends_with_checkpoint first_slot slots [] ≡ None
    by [] e = e
    by (o ∷ os) e = e

pub no_records : (bytes : List ℕ) → frame_of bytes ≡ Ok [] → log_of bytes ≡ Ok []
no_records bytes e = ap (λ (r : Result (List Placed) ℕ). r >>= λ ps. Ok (records_in ps)) (no_places bytes e)

-- what reads as before
pub same-places : (start : ℕ) (old new : List ℕ) (ps : List Placed) → placed_log_of old ≡ Ok ps → IsSameLog start old new → placed_log_of new ≡ Ok ps
same-places start old new ps e s =
    let l = place-parts old ps e in
    places-whole new ps (record { bs = l.bs; frame = s.batches l.bs l.frame; places = l.places; slots = ap (λ slots. first_bad_slot ends_with_checkpoint first_slot slots l.bs) s.slots ∙ l.slots })

-- one batch more
pub adds-places : (start at : ℕ) (old new payload : List ℕ) (ps qs : List Placed) → placed_log_of old ≡ Ok ps → placed_at at payload ≡ Ok qs → IsForced start old new at payload → placed_log_of new ≡ Ok (ps ++ qs)
adds-places start at old new payload ps qs e read f =
    let l = place-parts old ps e in
    let b : Batch = record { at = at; payload = payload } in
    places-whole new (ps ++ qs) (record {
      bs = l.bs ++ b ∷ [];
      frame = f.batch l.bs l.frame;
      places = placed-push l.bs b ps qs l.places read;
      slots = ap (λ slots. first_bad_slot ends_with_checkpoint first_slot slots (l.bs ++ b ∷ [])) f.slots ∙ named_more ends_with_checkpoint first_slot (slots_in old) l.bs (b ∷ []) l.slots;
    })
