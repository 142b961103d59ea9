-- Packets on their lanes, and packets put out one after another.
use Rattle.std.proofs.Common.{◌≡◌, ◌∙◌, sym, ap, ℕ, zero, suc, ◌+◌, ◌-◌, ◌*◌, ◌<◌, ◌==◌, Bool, ◌⊎◌, inl, inr, List, [], ◌∷◌, ◌++◌, length, map, arith, append_assoc, true, false, cond, refl, set, get_or, Some}
use Rattle.std.specs.Prelude.{◌&&◌, nat_lt, slice_get, find}
use Rattle.std.specs.List.{range_with_len}
use Rattle.std.proofs.lemmas.Bool.{cases_eq, eq-eqb, ne_eqb, both_ways, and_parts, ltb-true}
use Rattle.std.proofs.lemmas.List.{length-append, map-append}
use Rattle.std.proofs.Math.ListN.{length-set}
use Rattle.ic_base.specs.declared.limits.TheConstants.{COMPONENTS}
use Rattle.ic_base.specs.declared.messages.ComId.{ComId}
use Rattle.ic_base.specs.declared.messages.Packet.{Packet}
use Rattle.def_step.specs.Packets.{sender_of, receiver_of}
use Rattle.def_step.specs.World.{nth, goes}
use Rattle.ic_network.specs.Lanes.{numbers_from, is_on, is_waiting, waits_as, without_wait, if_some, IsFirst}
use Rattle.ic_network.specs.Networks.{Network, with_put, with_puts, are_components, lane_between, lane_of, IsSorted}
use Rattle.ic_network.proofs.Listing.{found-same, listed, listed-push}

same-place : (s r f t : ℕ) → r < COMPONENTS → t < COMPONENTS → (s * COMPONENTS + r == f * COMPONENTS + t) ≡ ((f == s) && (t == r))
same-place s r f t b d = by (cases_eq f s) (cases_eq t r)
  where
    by : (f ≡ s) ⊎ (f ≡ s → ⊥) → (t ≡ r) ⊎ (t ≡ r → ⊥) → (s * COMPONENTS + r == f * COMPONENTS + t) ≡ ((f == s) && (t == r))
    by (inl e) (inl g) = eq-eqb (s * COMPONENTS + r) (f * COMPONENTS + t) (omega arith) ∙ sym (ap (λ x. x && (t == r)) (eq-eqb f s e) ∙ eq-eqb t r g)
    by (inl e) (inr g) = ne_eqb (s * COMPONENTS + r) (f * COMPONENTS + t) (λ z. g (omega arith)) ∙ sym (ap (λ x. x && (t == r)) (eq-eqb f s e) ∙ ne_eqb t r g)
    by (inr e) g = ne_eqb (s * COMPONENTS + r) (f * COMPONENTS + t) (λ z. e (omega arith)) ∙ sym (ap (λ x. x && (t == r)) (ne_eqb f s e))

within : (a b : ℕ) → are_components a b ≡ true → (a < COMPONENTS) × (b < COMPONENTS)
within a b e = let both = and_parts (nat_lt a COMPONENTS) (nat_lt b COMPONENTS) e in (ltb-true a COMPONENTS both.0, ltb-true b COMPONENTS both.1)

-- no other pair has the lane of one that a scenario may have
same-lane : (s r f t : ℕ) → are_components f t ≡ true → (lane_between s r == lane_between f t) ≡ ((f == s) && (t == r))
same-lane s r f t own =
    ap (λ b. lane_between s r == cond b (f * COMPONENTS + t) (COMPONENTS * COMPONENTS)) own ∙ by (are_components s r) refl
  where
    below : (f < COMPONENTS) × (t < COMPONENTS)
    below = within f t own

    other : (a b : ℕ) → are_components a b ≡ false → ((f == a) && (t == b)) ≡ false
    other a b e = each (cases_eq f a) (cases_eq t b)
      where
        each : (f ≡ a) ⊎ (f ≡ a → ⊥) → (t ≡ b) ⊎ (t ≡ b → ⊥) → ((f == a) && (t == b)) ≡ false
        each (inl g) (inl i) = absurd (both_ways (are_components a b) e (ap (λ x. are_components x b) (sym g) ∙ ap (are_components f) (sym i) ∙ own))
        each (inl g) (inr i) = ap (λ x. x && (t == b)) (eq-eqb f a g) ∙ ne_eqb t b i
        each (inr g) i = ap (λ x. x && (t == b)) (ne_eqb f a g)

    by : (b : Bool) → are_components s r ≡ b → (cond b (s * COMPONENTS + r) (COMPONENTS * COMPONENTS) == f * COMPONENTS + t) ≡ ((f == s) && (t == r))
    by true e = same-place s r f t (within s r e).1 below.1
    by false e = ne_eqb (COMPONENTS * COMPONENTS) (f * COMPONENTS + t) (λ z. absurd (omega (arith, below.0, below.1))) ∙ sym (other s r e)

on-lane : (packets : List Packet) (from to : ComId) (lane k : ℕ) → are_components from.0 to.0 ≡ true → lane ≡ lane_between from.0 to.0 → k < length packets → is_on (map lane_of packets) lane k ≡ goes from to (slice_get packets k)
on-lane [] from to lane k own e l = absurd (omega arith)
on-lane (p ∷ ps) from to lane zero own e l = ap (λ n. lane_of p == n) e ∙ same-lane (sender_of p).0 (receiver_of p).0 from.0 to.0 own
on-lane (p ∷ ps) from to lane (suc k) own e l = on-lane ps from to lane k own e (omega arith)

pub found-pair : (packets : List Packet) (lanes : List ℕ) (waits : List Bool) (waiting : ℕ) (from to : ComId) (lane : ℕ) → are_components from.0 to.0 ≡ true → lane ≡ lane_between from.0 to.0 → IsSorted packets lanes waits waiting → find (λ i. is_on lanes lane (i - 1)) (numbers_from 1 waits) ≡ find (λ i. goes from to (nth packets i)) (numbers_from 1 waits)
found-pair packets lanes waits waiting from to lane own e h =
    found-same (λ i. is_on lanes lane (i - 1)) (λ i. goes from to (nth packets i)) 1 waits (λ k l.
    let place : 1 + k - 1 ≡ k = omega arith in
    let number : suc k ≡ 1 + k = omega arith in
    ap (λ ls. is_on ls lane (1 + k - 1)) h.on_lane
    ∙ ap (is_on (map lane_of packets) lane) place
    ∙ on-lane packets from to lane k own e (omega (arith, h.waits_len))
    ∙ ap (λ i. goes from to (nth packets i)) number
    )

-- the first packet between two components that waits is the one that a walk over all of them finds
pub walked : (packets : List Packet) (waits : List Bool) (from to : ComId) (number : ℕ) → IsFirst (λ k. is_waiting waits k && goes from to (slice_get packets k)) 0 (length waits) number → if_some number ≡ find (λ i. goes from to (nth packets i)) (numbers_from 1 waits)
walked packets waits from to number h =
    listed (λ i. goes from to (nth packets i)) (λ k. goes from to (slice_get packets k)) waits number (λ k. let next : suc k ≡ 1 + k = omega arith in ap (λ i. goes from to (nth packets i)) next) h

pub read-packet : (packets : List Packet) (place : ℕ) (p : Packet) → place < length packets → p ≡ get_or packets place p → slice_get packets place ≡ Some p
read-packet [] place p l is = absurd (omega arith)
read-packet (q ∷ packets) zero p l is = ap (λ x. Some x) (sym is)
read-packet (q ∷ packets) (suc place) p l is = read-packet packets place p (omega arith) is

pub waits-number : (waits : List Bool) (place : ℕ) → waits_as waits (place + 1) ≡ is_waiting waits place
waits-number waits place =
    let same : place + 1 - 1 ≡ place = omega arith in
    ap (λ b. cond b false (is_waiting waits (place + 1 - 1))) (ne_eqb (place + 1) 0 (λ e. omega arith)) ∙ ap (is_waiting waits) same

-- a walk over all packets has passed this one
pub passed : (packets : List Packet) (waits : List Bool) (from to : ComId) (place : ℕ) → ((k : ℕ) → k < place → (is_waiting waits k && goes from to (slice_get packets k)) ≡ false) → (is_waiting waits place && goes from to (slice_get packets place)) ≡ false → (k : ℕ) → k < place + 1 → (is_waiting waits k && goes from to (slice_get packets k)) ≡ false
passed packets waits from to place before here k l = by (cases_eq k place)
  where
    by : (k ≡ place) ⊎ (k ≡ place → ⊥) → (is_waiting waits k && goes from to (slice_get packets k)) ≡ false
    by (inl e) = ap (λ j. is_waiting waits j && goes from to (slice_get packets j)) e ∙ here
    by (inr d) = before k (omega arith)

range-next : (a n : ℕ) → range_with_len a (suc n) ≡ range_with_len a n ++ (a + n) ∷ []
range-next a zero = let zeroth : a ≡ a + 0 = omega arith in ap (λ i. i ∷ []) zeroth
range-next a (suc n) = let moved : a + 1 + n ≡ a + suc n = omega arith in ap (λ l. a ∷ l) (range-next (a + 1) n ∙ ap (λ i. range_with_len (a + 1) n ++ i ∷ []) moved)

-- one packet more
pub puts-next : (n : Network) (puts : List Packet) (p : Packet) → with_put (with_puts n puts) p ≡ with_puts n (puts ++ p ∷ [])
puts-next n puts p =
    let P : List Packet → List ℕ → Network = λ ps ws. record { packets = ps; waiting = ws } in
    let more : suc (length puts) ≡ length (puts ++ p ∷ []) = omega (arith, length-append puts (p ∷ [])) in
    let last : length (n.packets ++ puts) + 1 ≡ length n.packets + 1 + length puts = omega (arith, length-append n.packets puts) in
    ap (λ ps. P ps ((n.waiting ++ range_with_len (length n.packets + 1) (length puts)) ++ (length (n.packets ++ puts) + 1) ∷ [])) (append_assoc n.packets puts (p ∷ []))
    ∙ ap (λ ws. P (n.packets ++ (puts ++ p ∷ [])) ws) (
    ap (λ i. (n.waiting ++ range_with_len (length n.packets + 1) (length puts)) ++ i ∷ []) last
    ∙ append_assoc n.waiting (range_with_len (length n.packets + 1) (length puts)) ((length n.packets + 1 + length puts) ∷ [])
    ∙ ap (λ l. n.waiting ++ l) (sym (range-next (length n.packets + 1) (length puts)) ∙ ap (range_with_len (length n.packets + 1)) more)
    )

-- one packet more is on its lane, and waits
pub sorted-put : (packets : List Packet) (lanes : List ℕ) (waits : List Bool) (waiting : ℕ) (p : Packet) (as_packets : List Packet) (as_lanes : List ℕ) (as_waits : List Bool) (from to : ComId) (lane : ℕ) → IsSorted packets lanes waits waiting → as_packets ≡ packets ++ p ∷ [] → as_lanes ≡ lanes ++ lane ∷ [] → as_waits ≡ waits ++ true ∷ [] → from ≡ sender_of p → to ≡ receiver_of p → lane ≡ lane_between from.0 to.0 → IsSorted as_packets as_lanes as_waits (waiting + 1)
sorted-put packets lanes waits waiting p as_packets as_lanes as_waits from to lane h ps ls ws f t on = record {
  on_lane = ls ∙ ap (λ l. l ++ lane ∷ []) h.on_lane ∙ ap (λ n. map lane_of packets ++ n ∷ []) (on ∙ ap (λ (c : ComId). lane_between c.0 to.0) f ∙ ap (λ (c : ComId). lane_between (sender_of p).0 c.0) t) ∙ sym (ap (map lane_of) ps ∙ map-append lane_of packets (p ∷ []));
  waits_len = omega (arith, ap length ws, ap length ps, length-append waits (true ∷ []), length-append packets (p ∷ []), h.waits_len);
  counted = omega (arith, h.counted, ap (λ l. length (numbers_from 1 l)) ws, ap length (listed-push 1 waits), length-append (numbers_from 1 waits) ((1 + length waits) ∷ []));
}

-- one waits no longer
pub sorted-off : (number : ℕ) (packets : List Packet) (lanes : List ℕ) (waits : List Bool) (waiting : ℕ) (as_lanes : List ℕ) (as_waits : List Bool) (as_waiting : ℕ) → IsSorted packets lanes waits waiting → as_lanes ≡ lanes → as_waits ≡ without_wait number waits → as_waiting ≡ length (numbers_from 1 (without_wait number waits)) → IsSorted packets as_lanes as_waits as_waiting
sorted-off number packets lanes waits waiting as_lanes as_waits as_waiting h ls ws count = record {
  on_lane = ls ∙ h.on_lane;
  waits_len = ap length ws ∙ as-long number waits ∙ h.waits_len;
  counted = count ∙ sym (ap (λ l. length (numbers_from 1 l)) ws);
}
  where
    as-long : (n : ℕ) (w : List Bool) → length (without_wait n w) ≡ length w
    as-long n w = by (n == 0)
      where
        by : (b : Bool) → length (cond b w (set w (n - 1) false)) ≡ length w
        by true = refl
        by false = length-set w (n - 1) false
