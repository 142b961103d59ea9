-- How a log reads behind a force, and within one.
use Rattle.std.proofs.Common.{◌≡◌, ◌≢◌, ◌⊎◌, inl, inr, ⊎_elim, ℕ, zero, suc, ◌+◌, ◌-◌, ◌<◌, ◌≤◌, Bool, true, false, cond, List, [], ◌∷◌, ◌++◌, length, get_or, take, drop, Option, Some, None, refl, sym, ap, subst, ◌∙◌, append_assoc, arith}
use Rattle.ic_base.specs.declared.limits.TheConstants.{FIRST_GATE, LOG_BYTES}
use Rattle.std.specs.Prelude.{Result, Ok, Err, nat_lt, ◌==◌, ◌||◌}
use Rattle.std.specs.List.{AllByRecursion}
use Rattle.std.specs.Int.{w32, from_be_bytes, to_be_bytes}
use Rattle.std.proofs.lemmas.Bool.{cases_eq}
use Rattle.std.proofs.lemmas.Bool.Decides.{nat_tests}
use Rattle.std.proofs.lemmas.List.{append-nil, length-drop, length-append, drop-drop}
use Rattle.ic_base.specs.declared.record.Batch.{Batch}
use Rattle.def_log.specs.Changes.{IsTornWrite, IsOfSame, IsSameLog, IsForced, IsOldOrForced, AreNamed, gate_from, counted, forced_from, is_start}
use Rattle.def_log.specs.Directory.{first_slot, slots_in, first_bad_slot}
use Rattle.def_log.specs.Frame.{letters, any_batch, with_batch, batches_from, batches_at, first_difference, frame_of}
use Rattle.def_log.specs.Gated.{gate_opened, batch_write}
use Rattle.def_log.specs.Loading.{opened, first_batch}
use Rattle.def_log.specs.Loads.{behind_gate}
use Rattle.def_log.specs.Sizes.{span, payload_count, gate_behind, gate_in}
use Rattle.def_log.specs.Stops.{is_open_at}
use Rattle.def_log.proofs.Frames.{IsPayload, one_more, closed}
use Rattle.def_log.proofs.Gates.{IsPartly, partly, IsShut, shut_long, shut_same, part_same, rest, put, put_length, image_length, image_front, image_from, opened_partly, opened_gate}
use Rattle.def_log.proofs.Keeps.{keeps, none_yet, span_fits, first_of_all, is_whole}
use Rattle.def_log.proofs.Marks.{header_slots, front_same}
use Rattle.def_log.proofs.Spans.{span-push, payload_count-push, fewer}
use Rattle.def_log.proofs.Steps.{behind, followed, step, other_side}
use Rattle.def_log.proofs.Tails.{IsNamed, further, IsFrame, frame_parts, frame_whole, split, enough, starts}

not_some : (place : ℕ) → ◌≡◌ {A = Option ℕ} (Some place) None → ⊥
not_some place e = cc

-- any of the slots, and not the last alone, names a batch
any_named : (test : Batch → Bool) (g place : ℕ) (os : List ℕ) (bs : List Batch) → first_bad_slot test place os bs ≡ None → is_start g os ≡ true → (g ≡ FIRST_GATE) ⊎ IsNamed test g bs
any_named test g place [] bs e at = inl (grind (arith, nat_tests))
any_named test g place (o ∷ os) [] e at = absurd (not_some place e)
any_named test g place (o ∷ os) (b ∷ bs) e at =
    here (λ d s. any_named test g (place + 9) os bs d s) (λ d. any_named test g place (o ∷ os) bs d at) (b.at == o + 5) refl e
  where
    on : (g ≡ FIRST_GATE) ⊎ IsNamed test g bs → (g ≡ FIRST_GATE) ⊎ IsNamed test g (b ∷ bs)
    on found = ⊎_elim (λ first. inl first) (λ named. inr (further test g b bs named)) found

    named : (first_bad_slot test (place + 9) os bs ≡ None → is_start g os ≡ true → (g ≡ FIRST_GATE) ⊎ IsNamed test g bs) → first_bad_slot test (place + 9) os bs ≡ None → b.at ≡ o + 5 → test b ≡ true → (t : Bool) → (g == o) ≡ t → t || is_start g os ≡ true → (g ≡ FIRST_GATE) ⊎ IsNamed test g (b ∷ bs)
    named others d is passes true same s =
        let at : g ≡ o = grind (arith, nat_tests) in
        inr (record { before = []; batch = b; rest = bs; is = refl; at = omega (arith, is, at); passes = passes })
    named others d is passes false same s = on (others d s)

    passed : (first_bad_slot test (place + 9) os bs ≡ None → is_start g os ≡ true → (g ≡ FIRST_GATE) ⊎ IsNamed test g bs) → b.at ≡ o + 5 → (t : Bool) → test b ≡ t → cond t (first_bad_slot test (place + 9) os bs) (Some place) ≡ None → (g ≡ FIRST_GATE) ⊎ IsNamed test g (b ∷ bs)
    passed others is true passes d = named others d is passes (g == o) refl at
    passed others is false passes d = absurd (not_some place d)

    here : (first_bad_slot test (place + 9) os bs ≡ None → is_start g os ≡ true → (g ≡ FIRST_GATE) ⊎ IsNamed test g bs) → (first_bad_slot test place (o ∷ os) bs ≡ None → (g ≡ FIRST_GATE) ⊎ IsNamed test g bs)
        → (t : Bool) → (b.at == o + 5) ≡ t → cond t (cond (test b) (first_bad_slot test (place + 9) os bs) (Some place)) (first_bad_slot test place (o ∷ os) bs) ≡ None → (g ≡ FIRST_GATE) ⊎ IsNamed test g (b ∷ bs)
    here others rest true same d = passed others (grind (arith, nat_tests)) (test b) refl d
    here others rest false same d = on (rest d)

span-append : (bs cs : List Batch) → span (bs ++ cs) ≡ span bs + span cs
span-append [] cs = omega arith
span-append (b ∷ bs) cs = omega (arith, span-append bs cs)

ok_batches : (a b : List Batch) → ◌≡◌ {A = Result (List Batch) ℕ} (Ok a) (Ok b) → a ≡ b
ok_batches a b e = cc

-- the batches from a named gate on are the last ones
from_named : (test : Batch → Bool) (bytes : List ℕ) (bs post : List Batch) (g : ℕ) → IsFrame bytes bs → IsNamed test g bs → batches_at g bytes ≡ Ok post → g + span post ≡ FIRST_GATE + span bs
from_named test bytes bs post g f n e =
    let last : List Batch = n.batch ∷ n.rest in
    let there : ℕ = FIRST_GATE + span n.before in
    let cut = split n.before last (length bytes) FIRST_GATE (drop FIRST_GATE bytes) (f.batches_same ∙ ap (λ (b : List Batch). Ok b) n.is) in
    let here = subst (λ (b : List ℕ). batches_from (length bytes - length n.before) there b ≡ Ok last) (drop-drop (span n.before) FIRST_GATE bytes) cut in
    let few : length n.before ≤ span n.before = fewer n.before in
    let again : batches_at there bytes ≡ Ok last = enough (length bytes) (length bytes - length n.before) there (drop there bytes) (omega (arith, length-drop there bytes)) (omega (arith, length-drop there bytes, few)) ∙ here in
    let place = is_whole there (drop there bytes) n.batch (starts (length bytes) there (drop there bytes) n.batch n.rest again) in
    let same : there ≡ g = omega (arith, place.at, n.at) in
    let is : post ≡ last = ok_batches post last (sym e ∙ ap (λ k. batches_at k bytes) (sym same) ∙ again) in
    omega (arith, same, ap span is, ap span n.is, span-append n.before last)

-- an open gate has a batch, or is refused
opened_is_some : (gate : ℕ) (bytes : List ℕ) → opened gate bytes ≡ Ok None → ⊥
opened_is_some gate bytes e =
    let size : ℕ = from_be_bytes w32 (take 4 bytes) in
    let more : List ℕ = drop 4 bytes in
    let one = other_side (nat_lt (length bytes) 4) (Err (gate + 1 + length bytes)) _ (Ok None) (λ no. cc) e in
    let two = other_side (size == 0) (Err (gate + 1)) _ (Ok None) (λ no. cc) one.1 in
    let three = other_side (nat_lt (length more) size) (Err (gate + 1 + length bytes)) (Ok (Some (record { at = gate + 5; payload = take size more }))) (Ok None) (λ no. cc) two.1 in
    let last : ◌≡◌ {A = Result (Option Batch) ℕ} (Ok (Some (record { at = gate + 5; payload = take size more }))) (Ok None) = three.1 in
    cc

not_empty : (b : Batch) (r : Result (List Batch) ℕ) → with_batch b r ≡ Ok [] → ⊥
not_empty b (Ok bs) e = cc
not_empty b (Err place) e = cc

none_followed : (n gate : ℕ) (bytes : List ℕ) (r : Result (Option Batch) ℕ) → followed n gate bytes r ≡ Ok [] → r ≡ Ok None
none_followed n gate bytes (Err place) e = cc
none_followed n gate bytes (Ok None) e = refl
none_followed n gate bytes (Ok (Some b)) e = absurd (not_empty b (batches_from n (gate + 5 + length b.payload) (behind b bytes)) e)

opens_one : (gate byte : ℕ) (bytes : List ℕ) → byte ≡ 1 → first_batch gate (byte ∷ bytes) ≡ opened gate bytes
opens_one gate byte bytes is = ap (λ n. first_batch gate (n ∷ bytes)) is

-- behind the batches stands a gate that isn't open
pub closed_gate : (n gate : ℕ) (bytes : List ℕ) (bs : List Batch) → batches_from n gate bytes ≡ Ok bs → length bs < n → IsShut (drop (span bs) bytes)
closed_gate zero gate bytes bs all few = absurd (omega arith)
closed_gate (suc n) gate [] bs all few = cc
closed_gate (suc n) gate (byte ∷ bytes) [] all few = λ is.
    opened_is_some gate bytes (sym (opens_one gate byte bytes is) ∙ none_followed n gate (byte ∷ bytes) (first_batch gate (byte ∷ bytes)) (sym (step n gate (byte ∷ bytes)) ∙ all))
closed_gate (suc n) gate (byte ∷ bytes) (b ∷ bs) all few =
    let parts = first_of_all n gate (byte ∷ bytes) b bs all in
    let last : drop (span bs) (behind b (byte ∷ bytes)) ≡ drop (span (b ∷ bs)) (byte ∷ bytes) =
    ap (drop (span bs)) (drop-drop (length b.payload) 5 (byte ∷ bytes)) ∙ drop-drop (span bs) (5 + length b.payload) (byte ∷ bytes) in
    subst IsShut last (closed_gate n (gate + 5 + length b.payload) (behind b (byte ∷ bytes)) bs parts.1 (omega arith))

-- no batch stands at a gate that isn't open
shut_closed : (n gate : ℕ) (bytes : List ℕ) → IsShut bytes → batches_from n gate bytes ≡ Ok []
shut_closed n gate [] shut = absurd shut
shut_closed n gate (byte ∷ bytes) shut = closed n gate byte bytes shut

-- a walk from a gate, up to the closed gate, and what stands from there on
goes_on : (start : ℕ) (old new : List ℕ) (bs cs : List Batch) (j : ℕ) → batches_at start old ≡ Ok bs → take (start + span bs) new ≡ take (start + span bs) old → length bs + j ≡ length new
    → batches_from j (start + span bs) (drop (start + span bs) new) ≡ Ok cs → batches_at start new ≡ Ok (bs ++ cs)
goes_on start old new bs cs j found same fuel others =
    keeps (length old) (length new) j start (drop start old) (drop start new) bs cs found
    (part_same start (start + span bs) (span bs) new old same (omega arith))
    (ap (batches_from j (start + span bs)) (drop-drop (span bs) start new) ∙ others)
    (sym fuel)

-- slots name batches, whatever stands behind them
pub named_more : (test : Batch → Bool) (place : ℕ) (os : List ℕ) (bs cs : List Batch) → first_bad_slot test place os bs ≡ None → first_bad_slot test place os (bs ++ cs) ≡ None
named_more test place [] bs cs e = refl
named_more test place (o ∷ os) [] cs e = absurd (not_some place e)
named_more test place (o ∷ os) (b ∷ bs) cs e = at (λ d. named_more test (place + 9) os bs cs d) (λ d. named_more test place (o ∷ os) bs cs d) (b.at == o + 5) (test b) e
  where
    at : (first_bad_slot test (place + 9) os bs ≡ None → first_bad_slot test (place + 9) os (bs ++ cs) ≡ None) → (first_bad_slot test place (o ∷ os) bs ≡ None → first_bad_slot test place (o ∷ os) (bs ++ cs) ≡ None)
        → (t u : Bool) → cond t (cond u (first_bad_slot test (place + 9) os bs) (Some place)) (first_bad_slot test place (o ∷ os) bs) ≡ None → cond t (cond u (first_bad_slot test (place + 9) os (bs ++ cs)) (Some place)) (first_bad_slot test place (o ∷ os) (bs ++ cs)) ≡ None
    at others next true true d = others d
    at others next true false d = absurd (not_some place d)
    at others next false u d = next d

-- each batch begins below the end of all
pub begin_below : (n gate : ℕ) (bytes : List ℕ) (bs : List Batch) → batches_from n gate bytes ≡ Ok bs → AllByRecursion (λ b. b.at < gate + span bs) bs
begin_below n gate bytes [] e = tt
begin_below zero gate bytes (b ∷ bs) e = absurd (none_yet gate bytes b bs e)
begin_below (suc n) gate bytes (b ∷ bs) e =
    let parts = first_of_all n gate bytes b bs e in
    let place = is_whole gate bytes b parts.0 in
    (omega (arith, place.at, place.some), further_on bs (begin_below n (gate + 5 + length b.payload) (behind b bytes) bs parts.1))
  where
    further_on : (cs : List Batch) → AllByRecursion (λ c. c.at < gate + 5 + length b.payload + span bs) cs → AllByRecursion (λ c. c.at < gate + span (b ∷ bs)) cs
    further_on [] all = tt
    further_on (c ∷ cs) all = (omega (arith, all.0), further_on cs all.1)

-- and one slot more names the batch that comes last
pub named_last : (test : Batch → Bool) (place : ℕ) (os : List ℕ) (bs : List Batch) (b : Batch) (o : ℕ) → b.at ≡ o + 5 → test b ≡ true → AllByRecursion (λ c. c.at < o + 5) bs → first_bad_slot test place os bs ≡ None → first_bad_slot test place (os ++ o ∷ []) (bs ++ b ∷ []) ≡ None
named_last test place [] [] b o is passes below e = at (b.at == o + 5) (grind (arith, nat_tests))
  where
    at : (t : Bool) → t ≡ true → cond t (cond (test b) None (Some place)) (Some place) ≡ None
    at true y = ap (λ u. cond u None (Some place)) passes
    at false n = absurd (cc n)
named_last test place [] (c ∷ bs) b o is passes below e =
    let other : (c.at == o + 5) ≡ false = let lt : c.at < o + 5 = below.0 in grind (arith, nat_tests) in
    ap (λ t. cond t (cond (test c) None (Some place)) (first_bad_slot test place (o ∷ []) (bs ++ b ∷ []))) other ∙ named_last test place [] bs b o is passes below.1 refl
named_last test place (p ∷ os) [] b o is passes below e = absurd (not_some place e)
named_last test place (p ∷ os) (c ∷ bs) b o is passes below e =
    at (λ d. named_last test (place + 9) os bs b o is passes below.1 d) (λ d. named_last test place (p ∷ os) bs b o is passes below.1 d) (c.at == p + 5) (test c) e
  where
    at : (first_bad_slot test (place + 9) os bs ≡ None → first_bad_slot test (place + 9) (os ++ o ∷ []) (bs ++ b ∷ []) ≡ None) → (first_bad_slot test place (p ∷ os) bs ≡ None → first_bad_slot test place (p ∷ os ++ o ∷ []) (bs ++ b ∷ []) ≡ None)
        → (t u : Bool) → cond t (cond u (first_bad_slot test (place + 9) os bs) (Some place)) (first_bad_slot test place (p ∷ os) bs) ≡ None → cond t (cond u (first_bad_slot test (place + 9) (os ++ o ∷ []) (bs ++ b ∷ [])) (Some place)) (first_bad_slot test place (p ∷ os ++ o ∷ []) (bs ++ b ∷ [])) ≡ None
    at others next true true d = others d
    at others next true false d = absurd (not_some place d)
    at others next false u d = next d

-- a walk whose closed gate is known
pub gate_parts : (start : ℕ) (r : Result (List Batch) ℕ) (gate : ℕ) → gate_behind start r ≡ Some gate → (bs : List Batch) × (r ≡ Ok bs) × (gate ≡ start + span bs)
gate_parts start (Ok bs) gate e = (bs, refl, cc)
gate_parts start (Err place) gate e = cc

some_same : {a b : ℕ} → ◌≡◌ {A = Option ℕ} (Some a) (Some b) → a ≡ b
some_same e = cc

-- where the whole frame is whole, its closed gate is that behind the batches from a gate on
pub gate_of_whole : (start gate : ℕ) (old : List ℕ) → gate_from start old ≡ Some gate → is_start start (slots_in old) ≡ true → (bs : List Batch) → IsFrame old bs → gate ≡ FIRST_GATE + span bs
gate_of_whole start gate old at_gate begun bs f =
    let tail = gate_parts start (batches_at start old) gate at_gate in
    elim (any_named any_batch start first_slot (slots_in old) bs f.slots_same begun) [
      | inl first ↦ let same : tail.0 ≡ bs = ok_batches tail.0 bs (sym tail.1 ∙ ap (λ k. batches_at k old) first ∙ f.batches_same) in omega (arith, tail.2, first, ap span same)
      | inr named ↦ omega (arith, tail.2, from_named any_batch old bs tail.0 start f named tail.1)
    ]

pub length_behind : (p : List ℕ) → length (behind_gate p) ≡ 5 + length p
length_behind p = omega (arith, length-append (to_be_bytes w32 (length p) ++ p) (0 ∷ []), length-append (to_be_bytes w32 (length p)) p)

-- a batch behind an open gate, and a closed gate behind it
one_batch : (n gate : ℕ) (p l : List ℕ) → IsPayload p → batches_from (suc n) gate (1 ∷ (behind_gate p ++ l)) ≡ Ok (record { at = gate + 5; payload = p } ∷ [])
one_batch n gate p l is =
    ap (λ (k : List ℕ). batches_from (suc n) gate (1 ∷ (to_be_bytes w32 (length p) ++ k))) (append_assoc p (0 ∷ []) l)
    ∙ one_more n gate p (0 ∷ l) is
    ∙ ap (with_batch (record { at = gate + 5; payload = p })) (closed n (gate + 5 + length p) 0 l (omega arith))

-- a gate that isn't open
pub shut_at : (bytes : List ℕ) (gate : ℕ) → IsShut (drop gate bytes) → is_open_at bytes gate ≡ false
shut_at [] zero shut = absurd shut
shut_at [] (suc gate) shut = absurd shut
shut_at (b ∷ bytes) zero shut = let other : b ≢ 1 = shut in grind (arith, nat_tests)
shut_at (b ∷ bytes) (suc gate) shut = shut_at bytes gate shut

-- the log reads as before and the gate isn't open, or it has one whole batch more, behind an open gate
abbrev pub IsByGate : ℕ → List ℕ → ℕ → List ℕ → List ℕ → Type 0
IsByGate start old gate payload new = (IsSameLog start old new × (is_open_at new gate ≡ false)) ⊎ (IsForced start old new (gate + 5) payload × (is_open_at new gate ≡ true))

-- a log is counted from its first gate on
pub first_starts : (slots : List ℕ) → is_start FIRST_GATE slots ≡ true
first_starts [] = refl
first_starts (o ∷ slots) = at (FIRST_GATE == o) (first_starts slots)
  where
    at : (t : Bool) → is_start FIRST_GATE slots ≡ true → t || is_start FIRST_GATE slots ≡ true
    at true e = refl
    at false e = e

pub gate_of_first : (old : List ℕ) (gate : ℕ) → gate_in old ≡ Some gate → gate_from FIRST_GATE old ≡ Some gate
gate_of_first old gate at_gate =
    let parts = gate_parts FIRST_GATE (frame_of old) gate at_gate in
    ap (gate_behind FIRST_GATE) (frame_parts old parts.0 parts.1).batches_same ∙ ap (λ (n : ℕ). Some n) (sym parts.2)

-- a file whose closed gate stands behind the batches from a gate on, which is the first one or one that a slot names
module _ (start gate : ℕ) (old : List ℕ) (at_gate : gate_from start old ≡ Some gate) (begun : is_start start (slots_in old) ≡ true) (high : FIRST_GATE ≤ start) where
  tail : (bs : List Batch) × (batches_at start old ≡ Ok bs) × (gate ≡ start + span bs)
  tail = gate_parts start (batches_at start old) gate at_gate

  pub inside : gate < length old
  inside = omega (arith, tail.2, span_fits (length old) start (drop start old) tail.0 tail.1, length-drop start old)

  pub shut : IsShut (drop gate old)
  shut =
      let few : length tail.0 < length old = omega (arith, fewer tail.0, span_fits (length old) start (drop start old) tail.0 tail.1, length-drop start old) in
      let there : drop (span tail.0) (drop start old) ≡ drop gate old = drop-drop (span tail.0) start old ∙ ap (λ n. drop n old) (sym tail.2) in
      subst IsShut there (closed_gate (length old) start (drop start old) tail.0 tail.1 few)

  whole_gate : (bs : List Batch) → IsFrame old bs → gate ≡ FIRST_GATE + span bs
  whole_gate bs f = gate_of_whole start gate old at_gate begun bs f

  -- up to the closed gate the file is the same, and from there on stand these batches
  module _ (new : List ℕ) (cs : List Batch) (same : take gate new ≡ take gate old) (long : gate < length new)
      (more : (j : ℕ) → 1 ≤ j → batches_from j gate (drop gate new) ≡ Ok cs) where
    header : take FIRST_GATE new ≡ take FIRST_GATE old
    header = part_same 0 gate FIRST_GATE new old same (omega (arith, high, tail.2))

    slots : slots_in new ≡ slots_in old
    slots = header_slots old new header

    of_same : IsOfSame old new
    of_same = front_same FIRST_GATE old new (omega arith) header

    walks : (from : ℕ) (bs : List Batch) → batches_at from old ≡ Ok bs → gate ≡ from + span bs → batches_at from new ≡ Ok (bs ++ cs)
    walks from bs found here =
        let j : ℕ = length new - length bs in
        let few : length bs ≤ span bs = fewer bs in
        let fuel : length bs + j ≡ length new = omega (arith, few, here, long) in
        goes_on from old new bs cs j found (subst (λ n. take n new ≡ take n old) here same) fuel
        (subst (λ n. batches_from j n (drop n new) ≡ Ok cs) here (more j (omega (arith, fuel, few, here, long))))

    frames : length new ≤ LOG_BYTES → (bs : List Batch) → frame_of old ≡ Ok bs → frame_of new ≡ Ok (bs ++ cs)
    frames short bs e =
        let f = frame_parts old bs e in
        let here = whole_gate bs f in
        frame_whole new (bs ++ cs) (record {
          short = short;
          letters_same = ap (first_difference letters) (part_same 0 FIRST_GATE 8 new old header (omega arith)) ∙ f.letters_same;
          long = omega (arith, long, high, tail.2);
          batches_same = walks FIRST_GATE bs f.batches_same here;
          slots_same = ap (λ (l : List ℕ). first_bad_slot any_batch first_slot l (bs ++ cs)) slots ∙ named_more any_batch first_slot (slots_in old) bs cs f.slots_same;
        })

  -- the gate isn't open
  pub still : (new : List ℕ) → take gate new ≡ take gate old → IsShut (drop gate new) → (length old ≤ LOG_BYTES → length new ≤ LOG_BYTES) → IsSameLog start old new × (is_open_at new gate ≡ false)
  still new same closed short =
      let long : gate < length new = omega (arith, shut_long (drop gate new) closed, length-drop gate new) in
      let more : (j : ℕ) → 1 ≤ j → batches_from j gate (drop gate new) ≡ Ok [] = λ j one. shut_closed j gate (drop gate new) closed in
      let kept : IsSameLog start old new = record {
        batches = λ bs e. frames new [] same long more (short (frame_parts old bs e).short) bs e ∙ ap (λ (l : List Batch). Ok l) (append-nil bs);
        tail = walks new [] same long more start tail.0 tail.1 tail.2 ∙ ap (λ (l : List Batch). Ok l) (append-nil tail.0) ∙ sym tail.1;
        slots = slots new [] same long more;
        same = of_same new [] same long more;
      } in
      (kept, shut_at new gate closed)

  -- a force of a payload at that gate
  module _ (p : List ℕ) (is : IsPayload p) (fits : gate + 6 + length p ≤ LOG_BYTES) where
    abbrev bytes : List ℕ
    bytes = (batch_write gate p).bytes

    -- the batch is cut short behind a gate that is closed
    pub torn_behind : (new : List ℕ) → IsPartly (gate + 1) (length bytes) old new → IsByGate start old gate p new
    torn_behind new torn =
        inl (still new
        (part_same 0 (gate + 1) gate new old torn.before (omega arith))
        (shut_same (drop gate old) (drop gate new) (part_same gate (gate + 1) 1 new old torn.before (omega arith)) shut)
        (λ short. omega (arith, torn.no_longer, short, length_behind p, fits)))

    -- the batch is whole, and something stands at the gate
    module _ (new : List ℕ) (torn : IsPartly gate 1 (put old bytes gate inside) new) where
      grown : length old ≤ LOG_BYTES → length new ≤ LOG_BYTES
      grown short = omega (arith, image_length old bytes gate inside new torn, put_length old bytes gate inside, length-append bytes (rest old bytes gate inside), length_behind p, length-drop (gate + 1 + length bytes) old, short, fits)

      front : take gate new ≡ take gate old
      front = image_front old bytes gate inside new torn

      from : drop gate new ≡ get_or new gate 0 ∷ (bytes ++ rest old bytes gate inside)
      from = image_from old bytes gate inside new torn

      long_enough : gate < length new
      long_enough = omega (arith, image_length old bytes gate inside new torn, put_length old bytes gate inside)

      opens : get_or new gate 0 ≡ 1 → (j : ℕ) → 1 ≤ j → batches_from j gate (drop gate new) ≡ Ok (record { at = gate + 5; payload = p } ∷ [])
      opens one zero some = absurd (omega (arith, some))
      opens one (suc j) some =
          ap (batches_from (suc j) gate) from ∙ ap (λ b. batches_from (suc j) gate (b ∷ (bytes ++ rest old bytes gate inside))) one ∙ one_batch j gate p (rest old bytes gate inside) is

      stands : get_or new gate 0 ≡ 1 → IsForced start old new (gate + 5) p
      stands one =
          let added : List Batch = record { at = gate + 5; payload = p } ∷ [] in
          record {
            batch = λ bs e. frames new added front long_enough (opens one) (grown (frame_parts old bs e).short) bs e;
            tail = λ bs e. walks new added front long_enough (opens one) start bs e (subst (λ l. gate ≡ start + span l) (ok_batches tail.0 bs (sym tail.1 ∙ e)) tail.2);
            slots = slots new added front long_enough (opens one);
            same = of_same new added front long_enough (opens one);
          }

      pub torn_gate : IsByGate start old gate p new
      torn_gate = elim (cases_eq (get_or new gate 0) 1) [
        | inl one ↦ inr (stands one, ap (λ n. n == 1) one)
        | inr other ↦ inl (still new front (subst IsShut (sym from) other) grown)
      ]

    -- whatever a crash leaves
    pub force_leaves : (new : List ℕ) → IsTornWrite (batch_write gate p) old new → IsByGate start old gate p new
    force_leaves new torn = elim torn [
      | inl first ↦ torn_behind new (partly (gate + 1) (length bytes) old new first)
      | inr second ↦ torn_gate new (partly gate 1 (put old bytes gate inside) new second)
    ]

    pub force_reads : (new : List ℕ) → IsTornWrite (batch_write gate p) old new → IsOldOrForced start old (gate + 5) p new
    force_reads new torn = elim (force_leaves new torn) [ inl same ↦ inl same.0 | inr forced ↦ inr forced.0 ]

    abbrev forced : List ℕ
    forced = gate_opened old (batch_write gate p)

    whole : IsPartly gate 1 (put old bytes gate inside) forced
    whole = opened_partly old bytes gate inside

    -- behind both writes
    pub force_opens : IsByGate start old gate p forced
    force_opens = torn_gate forced whole

    pub is_forced : IsForced start old forced (gate + 5) p
    is_forced = stands forced whole (opened_gate old bytes gate inside)

    new_tail : batches_at start forced ≡ Ok (tail.0 ++ record { at = gate + 5; payload = p } ∷ [])
    new_tail =
        let added : List Batch = record { at = gate + 5; payload = p } ∷ [] in
        walks forced added (front forced whole) (long_enough forced whole) (opens forced whole (opened_gate old bytes gate inside)) start tail.0 tail.1 tail.2

    pub forced_gate : gate_from start forced ≡ Some (gate + (5 + length p))
    forced_gate =
        ap (gate_behind start) new_tail
        ∙ ap (λ n. Some (start + n)) (span-push tail.0 (record { at = gate + 5; payload = p })) ∙ ap (λ (n : ℕ). Some n) (omega (arith, tail.2))

    pub forced_count : (count : ℕ) → forced_from start old ≡ Some count → forced_from start forced ≡ Some (count + length p)
    forced_count count counts =
        let had : payload_count tail.0 ≡ count = some_same (sym (ap counted tail.1) ∙ counts) in
        ap counted new_tail ∙ ap (λ (n : ℕ). Some n) (payload_count-push tail.0 (record { at = gate + 5; payload = p })) ∙ ap (λ n. Some (n + length p)) had

    -- and the batch may be marked
    pub may_be_marked : (bs : List Batch) → frame_of old ≡ Ok bs → AreNamed (slots_in forced ++ gate ∷ []) (bs ++ record { at = gate + 5; payload = p } ∷ [])
    may_be_marked bs e =
        let f = frame_parts old bs e in
        let here = whole_gate bs f in
        let added : List Batch = record { at = gate + 5; payload = p } ∷ [] in
        let same = slots forced added (front forced whole) (long_enough forced whole) (opens forced whole (opened_gate old bytes gate inside)) in
        ap (λ (l : List ℕ). first_bad_slot any_batch first_slot (l ++ gate ∷ []) (bs ++ added)) same
        ∙ named_last any_batch first_slot (slots_in old) bs (record { at = gate + 5; payload = p }) gate refl refl (below bs (begin_below (length old) FIRST_GATE (drop FIRST_GATE old) bs f.batches_same) (omega (arith, here))) f.slots_same
      where
        below : (cs : List Batch) {top : ℕ} → AllByRecursion (λ c. c.at < top) cs → top ≤ gate → AllByRecursion (λ c. c.at < gate + 5) cs
        below [] all le = tt
        below (c ∷ cs) all le = (omega (arith, all.0, le), below cs all.1 le)
