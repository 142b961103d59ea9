-- The records that are read from bytes have their bytes.
use Rattle.std.proofs.Common.{◌≡◌, refl, subst, ℕ, zero, suc, ◌+◌, ◌-◌, ◌==◌, nat_lt, Bool, true, false, not, List, [], ◌∷◌, ◌++◌, length, take, drop, Option, Some, None, Result, Ok, Err, arith}
use Rattle.std.specs.Prelude.{if◌then◌else◌, ok_or, IfOk}
use Rattle.std.specs.Int.{w32, from_be_bytes}
use Rattle.std.specs.List.{AllByRecursion}
use Rattle.ic_base.specs.declared.record.Batch.{Batch}
use Rattle.ic_base.specs.declared.record.Record.{Record}
use Rattle.ic_base.specs.declared.limits.TheConstants.{FIRST_GATE}
use Rattle.def_log.specs.Frame.{with_batch, batches_from}
use Rattle.def_log.specs.Laws.{IsBytes}
use Rattle.def_log.specs.Log.{◌>>=◌, Placed, placed_up_to, placed_at, placed_in, log_of}
use Rattle.def_log.specs.Reading.{record_at}
use Rattle.def_log.specs.Spelling.{Fits}
use Rattle.def_log.proofs.Tails.{frame_parts, log_parts}
use Rattle.def_log.proofs.Takes.{record_takes}
use Rattle.law_run.proofs.ImageBytes.{AreBytes}
use Rattle.law_settle.proofs.Tables.{all-map}
use Rattle.law_settle.proofs.Walks.{all-append}
use Rattle.law_syntax.proofs.Entries.{then-ok, same-ok}

-- bytes -------------------------------------------------------------------------------------------

each-byte : (bytes : List ℕ) → IsBytes bytes → AreBytes bytes
each-byte [] h = tt
each-byte (b ∷ bs) h = (h 0, each-byte bs (λ i. h (suc i)))

by-place : (bytes : List ℕ) → AreBytes bytes → IsBytes bytes
by-place [] h i = omega arith
by-place (b ∷ bs) h zero = h.0
by-place (b ∷ bs) h (suc i) = by-place bs h.1 i

taken-bytes : (n : ℕ) (bytes : List ℕ) → AreBytes bytes → AreBytes (take n bytes)
taken-bytes zero bytes h = tt
taken-bytes (suc n) [] h = tt
taken-bytes (suc n) (b ∷ bs) h = (h.0, taken-bytes n bs h.1)

left-bytes : (n : ℕ) (bytes : List ℕ) → AreBytes bytes → AreBytes (drop n bytes)
left-bytes zero bytes h = h
left-bytes (suc n) [] h = tt
left-bytes (suc n) (b ∷ bs) h = left-bytes n bs h.1

-- records -----------------------------------------------------------------------------------------

cut-off : (o : Option (Record × List ℕ)) (place : ℕ) (f : List ℕ → Result (List Placed) ℕ) (rs : List Placed) → (ok_or o place >>= λ first. (f first.1 >>= λ others. Ok ((place, first.0) ∷ others))) ≡ Ok rs
    → (first : Record × List ℕ) × (others : List Placed) × (o ≡ Some first) × (f first.1 ≡ Ok others) × ((place, first.0) ∷ others ≡ rs)
cut-off None place f rs e = absurd (cc e)
cut-off (Some first) place f rs e = let y = then-ok (f first.1) (λ others. Ok ((place, first.0) ∷ others)) rs e in (first, y.0, refl, y.1, same-ok {E = ℕ} ((place, first.0) ∷ y.0) rs y.2)

abbrev PlacedFits : List Placed → Type 0
PlacedFits rs = AllByRecursion (λ r. Fits r.1) rs

placed-fit : (n end : ℕ) (bytes : List ℕ) (rs : List Placed) → IsBytes bytes → placed_up_to n end bytes ≡ Ok rs → PlacedFits rs
unfolding placed_up_to
placed-fit zero end [] rs h e = subst PlacedFits (same-ok {E = ℕ} [] rs e) tt
placed-fit (suc n) end [] rs h e = subst PlacedFits (same-ok {E = ℕ} [] rs e) tt
placed-fit zero end (b ∷ bytes) rs h e = absurd (cc e)
placed-fit (suc n) end (b ∷ bytes) rs h e =
    let p = cut-off (record_at (b ∷ bytes)) (end - length (b ∷ bytes)) (placed_up_to n end) rs e in
    let t = record_takes (b ∷ bytes) p.0.0 p.0.1 h p.2 in
    subst PlacedFits p.4 (t.1, placed-fit n end p.0.1 p.1 t.0.rest_fits p.3)

both-fit : (xs ys : List Placed) → PlacedFits xs → PlacedFits ys → PlacedFits (xs ++ ys)
both-fit xs ys x y = all-append (λ r. Fits r.1) xs ys x y

batches-fit : (bs : List Batch) (rs : List Placed) → AllByRecursion (λ b. IsBytes b.payload) bs → placed_in bs ≡ Ok rs → PlacedFits rs
batches-fit [] rs h e = subst PlacedFits (same-ok {E = ℕ} [] rs e) tt
batches-fit (b ∷ bs) rs h e =
    let x = then-ok (placed_at b.at b.payload) (λ first. placed_in bs >>= λ others. Ok (first ++ others)) rs e in
    let y = then-ok (placed_in bs) (λ others. Ok (x.0 ++ others)) rs x.2 in
    subst PlacedFits (same-ok {E = ℕ} (x.0 ++ y.0) rs y.2) (both-fit x.0 y.0 (placed-fit (length b.payload) (b.at + length b.payload) b.payload x.0 h.0 x.1) (batches-fit bs y.0 h.1 y.1))

-- batches -----------------------------------------------------------------------------------------

abbrev BatchesFit : Result (List Batch) ℕ → Type 0
BatchesFit r = IfOk r (AllByRecursion (λ b. IsBytes b.payload))

with-fits : (b : Batch) (r : Result (List Batch) ℕ) → IsBytes b.payload → BatchesFit r → BatchesFit (with_batch b r)
with-fits b (Ok bs) h k = (h, k)
with-fits b (Err place) h k = tt

chosen-fits : (b : Bool) (x y : Result (List Batch) ℕ) → BatchesFit x → BatchesFit y → BatchesFit (if b then x else y)
chosen-fits true x y h k = h
chosen-fits false x y h k = k

from-fits : (n gate : ℕ) (bytes : List ℕ) → AreBytes bytes → BatchesFit (batches_from n gate bytes)
from-fits n gate [] h = none n
  where
    none : (m : ℕ) → BatchesFit (batches_from m gate [])
    none zero = tt
    none (suc m) = tt
from-fits zero gate (b ∷ rest) h = tt
from-fits (suc n) gate (b ∷ rest) h =
    let size = from_be_bytes w32 (take 4 rest) in
    let more = drop 4 rest in
    let own = left-bytes 4 rest h.1 in
    chosen-fits (not (b == 1)) (Ok []) _ tt
    (chosen-fits (nat_lt (length rest) 4) (Err (gate + 1 + length rest)) _ tt
    (chosen-fits (size == 0) (Err (gate + 1)) _ tt
    (chosen-fits (nat_lt (length more) size) (Err (gate + 1 + length rest)) _ tt
    (with-fits (record { at = gate + 5; payload = take size more }) (batches_from n (gate + 5 + size) (drop size more)) (by-place (take size more) (taken-bytes size more own)) (from-fits n (gate + 5 + size) (drop size more) (left-bytes size more own))))))

pub log_fits : (file : List ℕ) (log : List Record) → IsBytes file → log_of file ≡ Ok log → AllByRecursion Fits log
log_fits file log h e =
    let l = log_parts file log e in
    let own = subst BatchesFit (frame_parts file l.bs l.frame).batches_same (from-fits (length file) FIRST_GATE (drop FIRST_GATE file) (left-bytes FIRST_GATE file (each-byte file h))) in
    subst (AllByRecursion Fits) l.records (all-map (λ r. Fits r.1) Fits (λ r. r.1) (λ r k. k) l.ps (batches-fit l.bs l.ps own l.places))
