-- What stands behind writes over the front of a file.
use Rattle.std.proofs.Common.{◌≡◌, inl, inr, sym, ◌∙◌, ℕ, ◌+◌, ◌<◌, ◌≤◌, List, [], ◌∷◌, length, get_or, arith}
use Rattle.std.proofs.lemmas.Bool.{cases_lt}
use Rattle.def_log.specs.Torn.{Write, written, all_written}
use Rattle.def_log.proofs.Stops.{length-written}
use Rattle.ic_disk.specs.TornDisks.{AreReached}
use Rattle.ic_disk.proofs.Overlays.{written_before, written_within, written_behind}

-- over the front of a file that the writes reach stands what stands over the file
pub same_front : (front file : List ℕ) (writes : List Write) → AreReached front writes → length front ≤ length file → ((i : ℕ) → i < length front → get_or front i 0 ≡ get_or file i 0) → (i : ℕ) → i < length (all_written front writes)
    → get_or (all_written front writes) i 0 ≡ get_or (all_written file writes) i 0
same_front front file [] reached le same i within = same i within
same_front front file (w ∷ writes) reached le same i within =
    same_front (written front w.0 w.1) (written file w.0 w.1) writes reached.1 (omega (arith, le, length-written front w.1 w.0 reached.0, length-written file w.1 w.0 far)) step i within
  where
    far : w.0 ≤ length file
    far = omega (arith, le, reached.0)

    step : (i : ℕ) → i < length (written front w.0 w.1) → get_or (written front w.0 w.1) i 0 ≡ get_or (written file w.0 w.1) i 0
    step i within = elim (cases_lt i w.0) [
      | inl earlier ↦ written_before front w.1 w.0 reached.0 i earlier ∙ same i (omega (arith, earlier, reached.0)) ∙ sym (written_before file w.1 w.0 far i earlier)
      | inr here ↦ elim (cases_lt i (w.0 + length w.1)) [
        | inl inner ↦ written_within front w.1 w.0 reached.0 i here inner ∙ sym (written_within file w.1 w.0 far i here inner)
        | inr outer ↦ written_behind front w.1 w.0 reached.0 i outer ∙ same i (omega (arith, within, outer, length-written front w.1 w.0 reached.0)) ∙ sym (written_behind file w.1 w.0 far i outer)
      ]
    ]
