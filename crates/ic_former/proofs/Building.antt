-- How the file of a migrated log grows.
use Rattle.std.proofs.Common.{◌≡◌, ◌∙◌, ap, sym, refl, ℕ, zero, suc, ◌+◌, ◌-◌, ◌*◌, ◌<◌, ◌≤◌, Bool, true, false, cond, List, [], ◌∷◌, ◌++◌, length, get_or, take, drop, replicate, append_assoc, arith}
use Rattle.std.specs.Prelude.{map, flat_map, nat_lt, ◌&&◌}
use Rattle.std.specs.List.{filter}
use Rattle.std.specs.Int.{w64, to_be_bytes}
use Rattle.std.proofs.lemmas.List.{append-nil, length-append, drop_more, get_or-map, take_all, replicate-append-replicate}
use Rattle.std.proofs.lemmas.Bool.Decides.{nat_tests}
use Rattle.ic_base.specs.declared.limits.TheConstants.{FIRST_GATE, SLOTS}
use Rattle.ic_base.specs.declared.record.Batch.{Batch}
use Rattle.def_log.specs.Directory.{open_slot, closed_slots}
use Rattle.def_log.specs.Frame.{letters, header, batch, batches, placed}
use Rattle.def_log.specs.Log.{ends_with_checkpoint}
use Rattle.def_log.specs.Sizes.{span}
use Rattle.def_former.specs.Migrated.{payloads_of, checkpoint_gates}
use Rattle.ic_former.specs.Slots.{with_slot}

-- the batches up to one of them, and that one
pub span-next : (bs : List Batch) (i : ℕ) (d : Batch) → i < length bs → span (take (i + 1) bs) ≡ span (take i bs) + (5 + length (get_or bs i d).payload)
span-next [] i d lt = absurd (omega (arith, lt))
span-next (b ∷ bs) zero d lt = let one : 0 + 1 ≡ suc 0 = omega arith in ap (λ k. span (take k (b ∷ bs))) one ∙ omega arith
span-next (b ∷ bs) (suc i) d lt = let more : suc i + 1 ≡ suc (i + 1) = omega arith in ap (λ k. span (take k (b ∷ bs))) more ∙ omega (arith, span-next bs i d (omega (arith, lt)))

pub span-take : (bs : List Batch) (i : ℕ) → span (take i bs) ≤ span bs
span-take bs zero = omega arith
span-take [] (suc i) = omega arith
span-take (b ∷ bs) (suc i) = omega (arith, span-take bs i)

-- the payloads from one of them on
pub payloads-drop : (bs : List Batch) (i : ℕ) (d : Batch) → i < length bs → payloads_of (drop i bs) ≡ (get_or bs i d).payload ∷ payloads_of (drop (i + 1) bs)
payloads-drop bs i d lt = ap payloads_of (drop_more bs i d lt)

-- one batch more behind what stands
pub batch_pushed : (bytes p : List ℕ) (ps : List (List ℕ)) → (bytes ++ 1 ∷ batch p) ++ batches ps ≡ bytes ++ batches (p ∷ ps)
batch_pushed bytes p ps = append_assoc bytes (1 ∷ batch p) (batches ps)

-- one slot more
pub slot_pushed : (bytes slots : List ℕ) (i d : ℕ) → i < length slots → ((bytes ++ 1 ∷ []) ++ to_be_bytes w64 (get_or slots i d)) ++ flat_map open_slot (drop (i + 1) slots) ≡ bytes ++ flat_map open_slot (drop i slots)
slot_pushed bytes slots i d lt =
    let o : ℕ = get_or slots i d in
    let rest : List ℕ = flat_map open_slot (drop (i + 1) slots) in
    ap (λ (l : List ℕ). l ++ rest) (append_assoc bytes (1 ∷ []) (to_be_bytes w64 o))
    ∙ append_assoc bytes (open_slot o) rest
    ∙ sym (ap (λ (l : List ℕ). bytes ++ flat_map open_slot l) (drop_more slots i d lt))

closed_zeros : (n : ℕ) → closed_slots n ≡ replicate (9 * n) 0
unfolding closed_slots
closed_zeros zero = refl
closed_zeros (suc n) =
    let more : 9 * suc n ≡ 9 + 9 * n = omega arith in
    ap (λ (l : List ℕ). replicate 9 0 ++ l) (closed_zeros n) ∙ replicate-append-replicate 9 (9 * n) 0 ∙ ap (λ k. replicate k 0) (sym more)

open_long : (slots : List ℕ) → length (flat_map open_slot slots) ≡ 9 * length slots
open_long [] = refl
open_long (o ∷ os) = omega (arith, open_long os, length-append (open_slot o) (flat_map open_slot os))

-- the header's front, filled up with zeros
pub filled_up : (fingerprint : List ℕ) (owner : ℕ) (slots bytes : List ℕ) (size : ℕ) → length fingerprint ≡ 32 → length slots ≤ SLOTS → bytes ≡ letters ++ (fingerprint ++ owner ∷ flat_map open_slot slots) → size ≡ 41 + 9 * length slots
    → take FIRST_GATE bytes ++ replicate (FIRST_GATE - size) 0 ≡ header fingerprint owner slots
filled_up fingerprint owner slots bytes size print few e is =
    let opened : List ℕ = flat_map open_slot slots in
    let front : List ℕ = letters ++ (fingerprint ++ owner ∷ opened) in
    let left : ℕ = SLOTS - length slots in
    let count : length bytes ≡ 41 + 9 * length slots = ap length e ∙ omega (arith, print, open_long slots, length-append fingerprint (owner ∷ opened)) in
    let whole : take FIRST_GATE bytes ≡ bytes = take_all FIRST_GATE bytes (omega (arith, count, few)) in
    let closed : FIRST_GATE - size ≡ 9 * left = omega (arith, is, few) in
    ap (λ (l : List ℕ). l ++ replicate (FIRST_GATE - size) 0) (whole ∙ e)
    ∙ ap (λ k. front ++ replicate k 0) closed
    ∙ ap (λ (l : List ℕ). front ++ l) (sym (closed_zeros left))
    ∙ grind (arith, append_assoc)

-- the slots so far, and those that the payloads left come to, of which the first stands behind this gate
abbrev pub slots_with : List ℕ → ℕ → List (List ℕ) → List ℕ
slots_with slots gate ps = slots ++ take (SLOTS - length slots) (checkpoint_gates (placed gate ps))

-- there are no payloads left
pub none_left : (slots : List ℕ) (gate : ℕ) → slots_with slots gate [] ≡ slots
none_left slots gate = ap (λ l. slots ++ l) (none (SLOTS - length slots)) ∙ append-nil slots
  where
    none : (n : ℕ) → take {A = ℕ} n [] ≡ []
    none zero = refl
    none (suc n) = refl

module _ (slots : List ℕ) (gate : ℕ) (p : List ℕ) (ps : List (List ℕ)) where
  abbrev next : ℕ
  next = gate + 5 + length p

  abbrev b : Batch
  b = record { at = gate + 5; payload = p }

  found : (t : Bool) → ends_with_checkpoint b ≡ t → checkpoint_gates (placed gate (p ∷ ps)) ≡ map (λ b. b.at - 5) (cond t (b ∷ filter ends_with_checkpoint (placed next ps)) (filter ends_with_checkpoint (placed next ps)))
  found t is = ap (λ t. map (λ b. b.at - 5) (cond t (b ∷ filter ends_with_checkpoint (placed next ps)) (filter ends_with_checkpoint (placed next ps)))) is

  -- a batch that ends with no checkpoint
  pub passed_over : ends_with_checkpoint b ≡ false → slots_with slots gate (p ∷ ps) ≡ slots_with slots next ps
  passed_over is = ap (λ l. slots ++ take (SLOTS - length slots) l) (found false is)

  -- all slots are used
  pub all_used : SLOTS ≤ length slots → slots_with slots gate (p ∷ ps) ≡ slots_with slots next ps
  all_used full =
      let none : SLOTS - length slots ≡ 0 = omega (arith, full) in
      ap (λ n. slots ++ take n (checkpoint_gates (placed gate (p ∷ ps)))) none ∙ sym (ap (λ n. slots ++ take n (checkpoint_gates (placed next ps))) none)

  -- one that does, and a slot for it
  pub one_more : ends_with_checkpoint b ≡ true → length slots < SLOTS → slots_with slots gate (p ∷ ps) ≡ slots_with (slots ++ gate ∷ []) next ps
  one_more is few =
      let rest : List ℕ = checkpoint_gates (placed next ps) in
      let left : ℕ = SLOTS - length (slots ++ gate ∷ []) in
      let count : SLOTS - length slots ≡ suc left = omega (arith, few, length-append slots (gate ∷ [])) in
      let here : gate + 5 - 5 ≡ gate = omega arith in
      ap (λ l. slots ++ take (SLOTS - length slots) l) (found true is)
      ∙ ap (λ n. slots ++ take n ((gate + 5 - 5) ∷ rest)) count
      ∙ ap (λ (g : ℕ). slots ++ g ∷ take left rest) here
      ∙ sym (append_assoc slots (gate ∷ []) (take left rest))

  -- behind the batch, whatever it ends with
  pub one_step : (ends : Bool) → ends_with_checkpoint b ≡ ends → slots_with slots gate (p ∷ ps) ≡ slots_with (with_slot ends gate slots) next ps
  one_step ends is = at ends is (nat_lt (length slots) SLOTS) refl
    where
      at : (t : Bool) → ends_with_checkpoint b ≡ t → (s : Bool) → nat_lt (length slots) SLOTS ≡ s → slots_with slots gate (p ∷ ps) ≡ slots_with (cond (t && s) (slots ++ gate ∷ []) slots) next ps
      at false is s few = passed_over is
      at true is true few = one_more is (let lt : length slots < SLOTS = grind (arith, nat_tests) in lt)
      at true is false few = all_used (let le : SLOTS ≤ length slots = grind (arith, nat_tests) in le)

-- there are no more of them than a log has
pub few_still : (ends : Bool) (gate : ℕ) (slots new : List ℕ) → new ≡ with_slot ends gate slots → length slots ≤ SLOTS → length new ≤ SLOTS
few_still ends gate slots new is few = omega (arith, ap length is, at ends (nat_lt (length slots) SLOTS) refl)
  where
    at : (t s : Bool) → nat_lt (length slots) SLOTS ≡ s → length (cond (t && s) (slots ++ gate ∷ []) slots) ≤ SLOTS
    at false s e = few
    at true false e = few
    at true true e = let lt : length slots < SLOTS = grind (arith, nat_tests) in omega (arith, lt, length-append slots (gate ∷ []))

-- whether the batch at a place ends with a checkpoint
pub ends_here : (ends : List Bool) (bs : List Batch) (i : ℕ) (d : Bool) (other : Batch) → ends ≡ map ends_with_checkpoint bs → i < length bs → get_or ends i d ≡ ends_with_checkpoint (get_or bs i other)
ends_here ends bs i d other same lt = ap (λ l. get_or l i d) same ∙ get_or-map ends_with_checkpoint bs i other d lt
