-- How the file reads that a stop within a force leaves.
use Rattle.std.proofs.Common.{◌≡◌, ◌∙◌, sym, ap, ℕ, ◌+◌, ◌-◌, ◌<◌, ◌≤◌, Bool, true, false, cond, List, [], ◌∷◌, ◌++◌, length, take, drop, Some, append_assoc, arith}
use Rattle.std.specs.Prelude.{nat_le}
use Rattle.std.proofs.lemmas.List.{take_at, drop_at, drop-drop, length-take, length-drop, length-append}
use Rattle.ic_base.specs.declared.limits.TheConstants.{FIRST_GATE, LOG_BYTES}
use Rattle.ic_base.specs.declared.events.Fill.{Fill}
use Rattle.def_log.specs.Changes.{gate_from, is_start}
use Rattle.def_log.specs.Directory.{slots_in}
use Rattle.def_log.specs.Gated.{put_behind, gate_opened, batch_write}
use Rattle.def_log.specs.Loads.{behind_gate}
use Rattle.def_log.specs.Stops.{writes_torn}
use Rattle.def_log.specs.Torn.{written, standing, torn}
use Rattle.def_log.proofs.Forces.{IsByGate, inside, torn_behind, torn_gate, force_opens}
use Rattle.def_log.proofs.Frames.{IsPayload}
use Rattle.def_log.proofs.Gates.{IsPartly}
use Rattle.def_log.proofs.Stops.{length-written, standing_fits}

module _ (old st : List ℕ) (at count : ℕ) (inside : at ≤ length old) (short : length st ≤ count) where
  front : length (take at old) ≡ at
  front = omega (arith, length-take at old, inside)

  both : length (take at old ++ st) ≡ at + length st
  both = omega (arith, length-append (take at old) st, front)

  tail : drop (at + length st) (written old at st) ≡ drop (at + length st) old
  tail = drop_at (take at old ++ st) (drop (at + length st) old) (at + length st) both

  -- a write of which a part stands
  pub written_partly : IsPartly at count old (written old at st)
  written_partly =
      let rest : List ℕ = drop (at + length st) old in
      let whole : length (written old at st) ≡ at + length st + (length old - (at + length st)) = omega (arith, length-append (take at old ++ st) rest, both, length-drop (at + length st) old) in
      let more : at + length st + (count - length st) ≡ at + count = omega (arith, short) in
      record {
        before = ap (take at) (append_assoc (take at old) st rest) ∙ take_at (take at old) (st ++ rest) at front;
        behind =
            ap (λ n. drop n (written old at st)) (sym more) ∙ sym (drop-drop (count - length st) (at + length st) (written old at st)) ∙ ap (drop (count - length st)) tail
            ∙ drop-drop (count - length st) (at + length st) old ∙ ap (λ n. drop n old) more;
        no_shorter = omega (arith, whole);
        no_longer = omega (arith, whole, short, inside);
      }

-- at each device call of a force, and behind them
module _ (start gate : ℕ) (old : List ℕ) (at_gate : gate_from start old ≡ Some gate) (begun : is_start start (slots_in old) ≡ true) (high : FIRST_GATE ≤ start) (p : List ℕ) (is : IsPayload p) (fits : gate + 6 + length p ≤ LOG_BYTES) where
  pub stop_leaves : (call keep : ℕ) (fill : Fill) → IsByGate start old gate p (writes_torn call keep fill old (batch_write gate p ∷ []))
  stop_leaves call keep fill = at (nat_le call 4) (nat_le call 2)
    where
      here : gate < length old
      here = inside start gate old at_gate begun high

      mid : List ℕ
      mid = put_behind old (batch_write gate p)

      long : gate ≤ length mid
      long = omega (arith, here, length-written old (behind_gate p) (gate + 1) (omega (arith, here)))

      at : (within first : Bool) → IsByGate start old gate p (cond within (cond first (torn old ((gate + 1, behind_gate p) ∷ []) keep fill) (torn mid ((gate, 1 ∷ []) ∷ []) keep fill)) (gate_opened old (batch_write gate p)))
      at true true =
          let st : List ℕ = standing keep fill (behind_gate p) in
          torn_behind start gate old at_gate begun high p is fits (written old (gate + 1) st) (written_partly old st (gate + 1) (length (behind_gate p)) (omega (arith, here)) (standing_fits keep fill (behind_gate p)))
      at true false =
          let st : List ℕ = standing keep fill (1 ∷ []) in
          torn_gate start gate old at_gate begun high p is fits (written mid gate st) (written_partly mid st gate 1 long (standing_fits keep fill (1 ∷ [])))
      at false first = force_opens start gate old at_gate begun high p is fits
