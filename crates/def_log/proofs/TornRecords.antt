-- What a stop leaves of a log of records of any kind reads as before the step or as behind it.
use Rattle.std.proofs.Common.{◌≡◌, refl, ◌∙◌, ap, sym, subst, ℕ, zero, suc, ◌+◌, ◌-◌, ◌^◌, ◌<◌, ◌≤◌, nat_le, Bool, true, false, cond, List, [], ◌∷◌, ◌++◌, length, map, take, drop, replicate, Some, ◌⊎◌, inl, inr, ⊎_elim, arith}
use Rattle.ic_base.specs.declared.limits.TheConstants.{FIRST_GATE, LOG_BYTES}
use Rattle.std.specs.Prelude.{◌==◌, Result, Ok, Err}
use Rattle.std.specs.List.{AllByRecursion}
use Rattle.std.proofs.lemmas.Bool.{cases_eq}
use Rattle.std.proofs.lemmas.List.{append_assoc, map-append, take_at, drop_at, length-append, length-take-le}
use Rattle.ic_base.specs.declared.events.Fill.{Fill}
use Rattle.ic_base.specs.declared.events.Fill.TheVariants.{Old, Byte}
use Rattle.ic_base.specs.declared.events.Stop.{Stop}
use Rattle.ic_base.specs.declared.record.Batch.{Batch}
use Rattle.def_log.specs.Changes.{gate_from, is_start}
use Rattle.def_log.specs.Directory.{slots_in}
use Rattle.def_log.specs.Frame.{frame_of}
use Rattle.def_log.specs.Loads.{behind_gate}
use Rattle.def_log.specs.Log.{◌>>=◌}
use Rattle.def_log.specs.Sizes.{span, gate_in}
use Rattle.def_log.specs.Gated.{GatedWrite, gate_opened, batch_write}
use Rattle.def_log.specs.Stops.{writes_torn, stop_torn, is_open_at}
use Rattle.def_log.specs.Torn.{written, standing, torn}
use Rattle.def_log.proofs.Forces as forces
use Rattle.def_log.proofs.Forces.{length_behind, shut_at, gate_parts, first_starts, gate_of_first}
use Rattle.def_log.proofs.Gates.{IsShut, shut_same, part_same, rest, put_front, put_length, opened_length}
use Rattle.def_log.proofs.Stops.{written_none}
use Rattle.def_log.proofs.Tails.{frame_parts}

open-at : (bytes : List ℕ) (gate : ℕ) (rest : List ℕ) → drop gate bytes ≡ 1 ∷ rest → is_open_at bytes gate ≡ true
open-at [] zero rest e = absurd (cc e)
open-at [] (suc n) rest e = absurd (cc e)
open-at (b ∷ bs) zero rest e = let is : b ≡ 1 = cc e in ap (λ m. m == 1) is
open-at (b ∷ bs) (suc n) rest e = open-at bs n rest e

standing-one : (keep : ℕ) (fill : Fill) → (standing keep fill (1 ∷ []) ≡ []) ⊎ ((y : ℕ) × (standing keep fill (1 ∷ []) ≡ y ∷ []))
standing-one zero Old = inl refl
standing-one zero (Byte b) = inr (b, refl)
standing-one (suc zero) Old = inr (1, refl)
standing-one (suc zero) (Byte b) = inr (1, refl)
standing-one (suc (suc k)) Old = inr (1, refl)
standing-one (suc (suc k)) (Byte b) = inr (1, ap (λ n. 1 ∷ replicate n b) (nothing k))
  where
    nothing : (n : ℕ) → 1 - suc (suc n) ≡ 0
    nothing n = omega arith

-- records of a kind: how batches are read as records with their places, by the open slots too, and how records are spelled; the batch of such
-- records is read as these
module _ {R : Type 0} (placed_by : List ℕ → List Batch → Result (List (ℕ × R)) ℕ) (payload : List R → List ℕ) (Fits : R → Type 0) (some-bytes : (rs : List R) → 0 < length rs → 1 ≤ length (payload rs))
    (push : (slots : List ℕ) (bs : List Batch) (b : Batch) (ps : List (ℕ × R)) (rs : List R) → AllByRecursion Fits rs → b.payload ≡ payload rs → placed_by slots bs ≡ Ok ps → (qs : List (ℕ × R)) × (placed_by slots (bs ++ b ∷ []) ≡ Ok (ps ++ qs)) × (map (λ q. q.1) qs ≡ rs)) where
  abbrev records : List (ℕ × R) → List R
  records ps = map (λ p. p.1) ps

  abbrev log : List ℕ → Result (List R) ℕ
  log bytes = (frame_of bytes >>= placed_by (slots_in bytes)) >>= (λ ps. Ok (records ps))

  -- what is read has a frame
  pub record IsLogOf (bytes : List ℕ) (rs : List R) : Type 0 where
    pub batches : List Batch
    pub frame : frame_of bytes ≡ Ok batches
    pub places : List (ℕ × R)
    pub placed : placed_by (slots_in bytes) batches ≡ Ok places
    pub records : records places ≡ rs

  read-log : (bytes : List ℕ) (rs : List R) → log bytes ≡ Ok rs → IsLogOf bytes rs
  read-log bytes rs e = at (frame_of bytes) refl e
    where
      in_batches : (bs : List Batch) → frame_of bytes ≡ Ok bs → (r : Result (List (ℕ × R)) ℕ) → placed_by (slots_in bytes) bs ≡ r → r >>= (λ ps. Ok (records ps)) ≡ Ok rs → IsLogOf bytes rs
      in_batches bs f (Err place) g k = absurd (cc k)
      in_batches bs f (Ok ps) g k = record { batches = bs; frame = f; places = ps; placed = g; records = same (records ps) k }
        where
          same : (l : List R) → ◌≡◌ {A = Result (List R) ℕ} (Ok l) (Ok rs) → l ≡ rs
          same l h = cc h

      at : (r : Result (List Batch) ℕ) → frame_of bytes ≡ r → (r >>= placed_by (slots_in bytes)) >>= (λ ps. Ok (records ps)) ≡ Ok rs → IsLogOf bytes rs
      at (Err place) f k = absurd (cc k)
      at (Ok bs) f k = in_batches bs f (placed_by (slots_in bytes) bs) refl k

  log-whole : (bytes : List ℕ) (bs : List Batch) (ps : List (ℕ × R)) → frame_of bytes ≡ Ok bs → placed_by (slots_in bytes) bs ≡ Ok ps → log bytes ≡ Ok (records ps)
  log-whole bytes bs ps f g = ap (λ r. (r >>= placed_by (slots_in bytes)) >>= (λ qs. Ok (records qs))) f ∙ ap (λ (r : Result (List (ℕ × R)) ℕ). r >>= (λ qs. Ok (records qs))) g

  same-records : (r : Result (List R) ℕ) (a b : List R) → r ≡ Ok a → r ≡ Ok b → a ≡ b
  same-records r a b e f = cc (e, f)

  module _ (old : List ℕ) (gate : ℕ) (added before left : List R) (reads-old : log old ≡ Ok before) (at_gate : gate_in old ≡ Some gate) where
    parts : (bs : List Batch) × (frame_of old ≡ Ok bs) × (gate ≡ FIRST_GATE + span bs)
    parts = gate_parts FIRST_GATE (frame_of old) gate at_gate

    here : gate_from FIRST_GATE old ≡ Some gate
    here = gate_of_first old gate at_gate

    begun : is_start FIRST_GATE (slots_in old) ≡ true
    begun = first_starts (slots_in old)

    high : FIRST_GATE ≤ FIRST_GATE
    high = omega arith

    inside : gate < length old
    inside = forces.inside FIRST_GATE gate old here begun high

    shut : IsShut (drop gate old)
    shut = forces.shut FIRST_GATE gate old here begun high

    -- what the batches of the file are read as
    read-old : (placed_by (slots_in old) parts.0) >>= (λ qs. Ok (records qs)) ≡ Ok before
    read-old = sym (ap (λ r. (r >>= placed_by (slots_in old)) >>= (λ qs. Ok (records qs))) parts.1) ∙ reads-old

    -- the bytes up to the gate are the same, and the gate isn't open
    still : (new : List ℕ) → take gate new ≡ take gate old → IsShut (drop gate new) → log new ≡ Ok left → left ≡ before
    still new same closed reads =
        let y = read-log new left reads in
        let z = (forces.still FIRST_GATE gate old here begun high new same closed (λ was. (frame_parts new y.batches y.frame).short)).0 in
        same-records (log new) left before reads
        (ap (λ r. (r >>= placed_by (slots_in new)) >>= (λ qs. Ok (records qs))) (z.batches parts.0 parts.1) ∙ ap (λ l. (placed_by l parts.0) >>= (λ qs. Ok (records qs))) z.slots ∙ read-old)

    -- something is written behind the gate
    staged-front : (s : List ℕ) → take (gate + 1) (written old (gate + 1) s) ≡ take (gate + 1) old
    staged-front s = put_front old s gate inside

    behind-shut : (s : List ℕ) → IsShut (drop gate (written old (gate + 1) s))
    behind-shut s = shut_same (drop gate old) (drop gate (written old (gate + 1) s)) (part_same gate (gate + 1) 1 (written old (gate + 1) s) old (staged-front s) (omega arith)) shut

    behind-only : (s : List ℕ) → log (written old (gate + 1) s) ≡ Ok left → left ≡ before
    behind-only s reads =
        still (written old (gate + 1) s) (part_same 0 (gate + 1) gate (written old (gate + 1) s) old (staged-front s) (omega arith)) (behind-shut s) reads

    -- the gate's byte is written
    module _ (some : 0 < length added) (fits : AllByRecursion Fits added) where
      abbrev pub p : List ℕ
      p = payload added

      long : 1 ≤ length p
      long = some-bytes added some

      abbrev step : GatedWrite
      step = batch_write gate p

      opened : log (gate_opened old step) ≡ Ok left → left ≡ before ++ added
      opened reads =
          let new : List ℕ = gate_opened old step in
          let y = read-log new left reads in
          let short = (frame_parts new y.batches y.frame).short in
          let room : gate + 6 + length p ≤ LOG_BYTES =
          omega (arith, short, opened_length old (behind_gate p) gate inside, put_length old (behind_gate p) gate inside, length-append (behind_gate p) (rest old (behind_gate p) gate inside), length_behind p) in
          let small : length p < 2 ^ 32 = omega (arith, room) in
          let b : Batch = record { at = gate + 5; payload = p } in
          let forced = forces.is_forced FIRST_GATE gate old here begun high p (long, small) room in
          let frame : frame_of new ≡ Ok (parts.0 ++ b ∷ []) = forced.batch parts.0 parts.1 in
          let o = read-log old before reads-old in
          let same : o.batches ≡ parts.0 = same-batches (frame_of old) o.batches parts.0 o.frame parts.1 in
          let q = push (slots_in new) parts.0 b o.places added fits refl (ap (λ l. placed_by l parts.0) forced.slots ∙ subst (λ l. placed_by (slots_in old) l ≡ Ok o.places) same o.placed) in
          same-records (log new) left (before ++ added) reads
          (log-whole new (parts.0 ++ b ∷ []) (o.places ++ q.0) frame q.1 ∙ ap (λ (l : List R). Ok l) (map-append (λ (r : ℕ × R). r.1) o.places q.0 ∙ ap (λ l. l ++ records q.0) o.records ∙ ap (λ l. before ++ l) q.2))
        where
          same-batches : (r : Result (List Batch) ℕ) (a c : List Batch) → r ≡ Ok a → r ≡ Ok c → a ≡ c
          same-batches r a c e g = cc (e, g)

      abbrev pub Reads : List ℕ → Type 0
      Reads new = ((is_open_at new gate ≡ false) × (left ≡ before)) ⊎ ((is_open_at new gate ≡ true) × (left ≡ before ++ added))

      gate-written : (y : ℕ) → log (written (written old (gate + 1) (behind_gate p)) gate (y ∷ [])) ≡ Ok left → Reads (written (written old (gate + 1) (behind_gate p)) gate (y ∷ []))
      gate-written y reads = elim (cases_eq y 1) [
        | inl one ↦
            inr (open-at new gate (drop (gate + 1) mid) (behind ∙ ap (λ n. n ∷ drop (gate + 1) mid) one), opened (subst (λ n. log (written (written old (gate + 1) (behind_gate p)) gate (n ∷ [])) ≡ Ok left) one reads))
        | inr other ↦ inl (shut_at new gate (subst IsShut (sym behind) other), still new front (subst IsShut (sym behind) other) reads)
      ]
        where
          mid : List ℕ
          mid = written old (gate + 1) (behind_gate p)

          new : List ℕ
          new = written mid gate (y ∷ [])

          mid_front : take gate mid ≡ take gate old
          mid_front = part_same 0 (gate + 1) gate mid old (staged-front (behind_gate p)) (omega arith)

          gate_length : length (take gate mid) ≡ gate
          gate_length = ap length mid_front ∙ length-take-le gate old (omega (arith, inside))

          is : new ≡ take gate mid ++ (y ∷ drop (gate + 1) mid)
          is = append_assoc (take gate mid) (y ∷ []) (drop (gate + 1) mid)

          front : take gate new ≡ take gate old
          front = ap (take gate) is ∙ take_at (take gate mid) (y ∷ drop (gate + 1) mid) gate gate_length ∙ mid_front

          behind : drop gate new ≡ y ∷ drop (gate + 1) mid
          behind = ap (drop gate) is ∙ drop_at (take gate mid) (y ∷ drop (gate + 1) mid) gate gate_length

      at-gate : (stop : Stop) → log (torn (written old (gate + 1) (behind_gate p)) ((gate, 1 ∷ []) ∷ []) stop.keep stop.fill) ≡ Ok left → Reads (torn (written old (gate + 1) (behind_gate p)) ((gate, 1 ∷ []) ∷ []) stop.keep stop.fill)
      at-gate stop reads = ⊎_elim
          (λ none.
          let same = ap (written (written old (gate + 1) (behind_gate p)) gate) none ∙ written_none (written old (gate + 1) (behind_gate p)) gate in
          subst Reads (sym same) (inl (shut_at (written old (gate + 1) (behind_gate p)) gate (behind-shut (behind_gate p)), behind-only (behind_gate p) (subst (λ l. log l ≡ Ok left) same reads))))
          (λ y.
          let same = ap (written (written old (gate + 1) (behind_gate p)) gate) y.1 in
          subst Reads (sym same) (gate-written y.0 (subst (λ l. log l ≡ Ok left) same reads)))
          (standing-one stop.keep stop.fill)

      -- a stop within a load leaves the file as it was, and one within the force the batch or not, as its gate tells
      pub reads-by-gate : (stop : Stop) (loads : ℕ) → log (stop_torn stop loads old (step ∷ [])) ≡ Ok left → Reads (stop_torn stop loads old (step ∷ []))
      reads-by-gate stop loads = loading (nat_le stop.call loads)
        where
          call : ℕ
          call = stop.call - loads

          in_force : (within first : Bool) → log (cond within (cond first (torn old ((gate + 1, behind_gate p) ∷ []) stop.keep stop.fill) (torn (written old (gate + 1) (behind_gate p)) ((gate, 1 ∷ []) ∷ []) stop.keep stop.fill)) (gate_opened old step)) ≡ Ok left
              → Reads (cond within (cond first (torn old ((gate + 1, behind_gate p) ∷ []) stop.keep stop.fill) (torn (written old (gate + 1) (behind_gate p)) ((gate, 1 ∷ []) ∷ []) stop.keep stop.fill)) (gate_opened old step))
          in_force true true reads =
              inl (shut_at (torn old ((gate + 1, behind_gate p) ∷ []) stop.keep stop.fill) gate (behind-shut (standing stop.keep stop.fill (behind_gate p))), behind-only (standing stop.keep stop.fill (behind_gate p)) reads)
          in_force true false reads = at-gate stop reads
          in_force false first reads = gate-written 1 reads

          loading : (b : Bool) → log (cond b old (writes_torn call stop.keep stop.fill old (step ∷ []))) ≡ Ok left → Reads (cond b old (writes_torn call stop.keep stop.fill old (step ∷ [])))
          loading true reads = inl (shut_at old gate shut, same-records (log old) left before reads reads-old)
          loading false reads = in_force (nat_le call 4) (nat_le call 2) reads

  -- before the step the gate's byte isn't 1
  pub shut-before : (gate : ℕ) (old : List ℕ) (before : List R) → log old ≡ Ok before → gate_in old ≡ Some gate → is_open_at old gate ≡ false
  shut-before gate old before reads-old at_gate = shut_at old gate (shut old gate [] before before reads-old at_gate)
