-- How the file reads that a stop within a mark leaves.
use Rattle.std.proofs.Common.{◌≡◌, inl, inr, ◌∙◌, sym, ap, ℕ, ◌+◌, ◌-◌, ◌<◌, ◌≤◌, ◌^◌, Bool, true, false, cond, List, [], ◌∷◌, length, drop, arith}
use Rattle.std.specs.Prelude.{nat_le}
use Rattle.ic_base.specs.declared.limits.TheConstants.{FIRST_GATE, SLOTS}
use Rattle.ic_base.specs.declared.events.Fill.{Fill}
use Rattle.def_log.specs.Changes.{IsOldOrMarked}
use Rattle.def_log.specs.Directory.{slot_place, slots_in}
use Rattle.def_log.specs.Gated.{GatedWrite, put_behind, gate_opened, slot_write}
use Rattle.def_log.specs.Stops.{writes_torn}
use Rattle.def_log.specs.Torn.{written, standing, torn}
use Rattle.def_log.proofs.Gates.{IsPartly}
use Rattle.def_log.proofs.Marks.{torn_behind, same_batches, inside, behind, torn_gate, whole}
use Rattle.def_log.proofs.Stops.{length-written, standing_fits}
use Rattle.def_log.proofs.TornBatches.{written_partly}

-- the log reads as before, or has the slot more, and stands behind its header as it did
abbrev pub IsMarkTorn : ℕ → List ℕ → ℕ → List ℕ → Type 0
IsMarkTorn start old offset new = IsOldOrMarked start old offset new × (drop FIRST_GATE new ≡ drop FIRST_GATE old)

-- a gated write never makes a file shorter
pub no_shorter : (old : List ℕ) (w : GatedWrite) → w.gate + 1 ≤ length old → (call keep : ℕ) (fill : Fill) → length old ≤ length (writes_torn call keep fill old (w ∷ []))
no_shorter old w within call keep fill = at (nat_le call 4) (nat_le call 2)
  where
    put : length old ≤ length (put_behind old w)
    put = omega (arith, length-written old w.bytes (w.gate + 1) within)

    at : (forcing first : Bool) → length old ≤ length (cond forcing (cond first (torn old ((w.gate + 1, w.bytes) ∷ []) keep fill) (torn (put_behind old w) ((w.gate, 1 ∷ []) ∷ []) keep fill)) (gate_opened old w))
    at true true = omega (arith, length-written old (standing keep fill w.bytes) (w.gate + 1) within)
    at true false = omega (arith, put, length-written (put_behind old w) (standing keep fill (1 ∷ [])) w.gate (omega (arith, put, within)))
    at false first = omega (arith, put, length-written (put_behind old w) (1 ∷ []) w.gate (omega (arith, put, within)))

module _ (start : ℕ) (high : FIRST_GATE ≤ start) (old : List ℕ) (offset i : ℕ) (count : length (slots_in old) ≡ i) (few : i < SLOTS) (long : FIRST_GATE ≤ length old) (small : offset < 2 ^ 64) where
  abbrev bytes : List ℕ
  bytes = (slot_write i offset).bytes

  abbrev place : ℕ
  place = slot_place i

  here : place < length old
  here = inside start high old offset i count few long

  abbrev mid : List ℕ
  mid = put_behind old (slot_write i offset)

  at-gate : (new : List ℕ) → IsPartly place 1 mid new → IsMarkTorn start old offset new
  at-gate new part = (torn_gate start high old offset i count few long new part small, behind start high old offset i count few long new part)

  -- at each device call of a mark, and behind them
  pub mark_leaves : (call keep : ℕ) (fill : Fill) → IsMarkTorn start old offset (writes_torn call keep fill old (slot_write i offset ∷ []))
  mark_leaves call keep fill = at (nat_le call 4) (nat_le call 2)
    where
      at : (within first : Bool) → IsMarkTorn start old offset (cond within (cond first (torn old ((place + 1, bytes) ∷ []) keep fill) (torn mid ((place, 1 ∷ []) ∷ []) keep fill)) (gate_opened old (slot_write i offset)))
      at true true =
          let st : List ℕ = standing keep fill bytes in
          let part : IsPartly (place + 1) (length bytes) old (written old (place + 1) st) = written_partly old st (place + 1) (length bytes) (omega (arith, here)) (standing_fits keep fill bytes) in
          (inl (torn_behind start high old offset i count few long (written old (place + 1) st) part), same_batches start high old offset i count few long (written old (place + 1) st) part)
      at true false =
          let st : List ℕ = standing keep fill (1 ∷ []) in
          at-gate (written mid place st) (written_partly mid st place 1 (omega (arith, here, length-written old bytes (place + 1) (omega (arith, here)))) (standing_fits keep fill (1 ∷ [])))
      at false first = at-gate (gate_opened old (slot_write i offset)) (whole start high old offset i count few long)
