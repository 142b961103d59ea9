-- Records that are read off batches, and how long these are.
use Rattle.std.proofs.Common.{◌≡◌, ◌∙◌, sym, ap, refl, arith, ℕ, zero, suc, ◌+◌, ◌-◌, List, [], ◌∷◌, ◌++◌, length, append_assoc, length-append, Option, Some, None}
use Rattle.std.specs.Prelude.{Result, Ok, Err, ok_or}
use Rattle.std.specs.List.{AllByRecursion}
use Rattle.std.proofs.lemmas.List.{map-append}
use Rattle.std.proofs.lemmas.List.Sums.{sum_by-append, sum_by-cons}
use Rattle.ic_base.specs.declared.record.Batch.{Batch}
use Rattle.ic_base.specs.declared.record.Record.{Record}
use Rattle.def_log.specs.Log.{Placed, placed_up_to, placed_at, placed_in, records_in, ◌>>=◌}
use Rattle.def_log.specs.Reading.{record_at}
use Rattle.def_log.specs.Spelling.{spelling}
use Rattle.def_log.proofs.Takes.{IsBytes, record_takes}
use Rattle.def_state.specs.Positions.{record_length, end_of}
use Rattle.ic_gate.specs.declared.refusals.LoadWhy.{LoadWhy}
use Rattle.ic_gate.specs.declared.refusals.LoadWhy.TheVariants.{Bad, Foreign, Failed, Stopped, Memory}
use Rattle.ic_wire.specs.Placed.{PlacedFits}
use Rattle.ic_wire.proofs.Placing.{with_front}
use Rattle.ic_gate.proofs.Lengths.{spelling-length}
use Rattle.ic_gate.specs.RecordLoads.{AreRead, FailsToRead}

-- the records behind a first one are those that were read
pub cut_off : (o : Option (Record × List ℕ)) (place : ℕ) (f : List ℕ → Result (List Placed) ℕ) (rs : List Placed) → (ok_or o place >>= λ first. (f first.1 >>= λ others. Ok ((place, first.0) ∷ others))) ≡ Ok rs
    → (first : Record × List ℕ) × (others : List Placed) × (o ≡ Some first) × (f first.1 ≡ Ok others) × ((place, first.0) ∷ others ≡ rs)
cut_off None place f rs e = absurd (cc)
cut_off (Some first) place f rs e = behind (f first.1) refl e
  where
    behind : (r : Result (List Placed) ℕ) → f first.1 ≡ r → (r >>= λ others. Ok ((place, first.0) ∷ others)) ≡ Ok rs
        → (x : Record × List ℕ) × (others : List Placed) × (Some first ≡ Some x) × (f x.1 ≡ Ok others) × ((place, x.0) ∷ others ≡ rs)
    behind (Ok others) is k = (first, others, refl, is, cc)
    behind (Err at) is k = absurd (cc)

-- bytes that are records are as long as these
long_up_to : (n end : ℕ) (bytes : List ℕ) (rs : List Placed) → IsBytes bytes → placed_up_to n end bytes ≡ Ok rs → length bytes ≡ end_of (records_in rs)
unfolding placed_up_to
long_up_to zero end [] rs fits e = let none : [] ≡ rs = cc in ap (λ (l : List Placed). end_of (records_in l)) none
long_up_to (suc n) end [] rs fits e = let none : [] ≡ rs = cc in ap (λ (l : List Placed). end_of (records_in l)) none
long_up_to zero end (b ∷ bytes) rs fits e = absurd (cc)
long_up_to (suc n) end (b ∷ bytes) rs fits e =
    let place = end - length (b ∷ bytes) in
    let p = cut_off (record_at (b ∷ bytes)) place (placed_up_to n end) rs e in
    let first = p.0 in
    let takes = (record_takes (b ∷ bytes) first.0 first.1 fits p.2).0 in
    let later = long_up_to n end first.1 p.1 takes.rest_fits p.3 in
    let whole : end_of (first.0 ∷ records_in p.1) ≡ end_of (records_in rs) = ap (λ (l : List Placed). end_of (records_in l)) p.4 in
    let sum : length (b ∷ bytes) ≡ length (spelling first.0 ++ first.1) = ap length takes.parts in
    let long : length (b ∷ bytes) ≡ length (spelling first.0) + length first.1 = sum ∙ length-append (spelling first.0) first.1 in
    let count : end_of (first.0 ∷ records_in p.1) ≡ record_length first.0 + end_of (records_in p.1) = sum_by-cons record_length first.0 (records_in p.1) in
    let head = spelling-length first.0 in
    omega (arith, long, head, later, whole, count)

pub placed_long : (at : ℕ) (bytes : List ℕ) (rs : List Placed) → IsBytes bytes → placed_at at bytes ≡ Ok rs → length bytes ≡ end_of (records_in rs)
placed_long at bytes rs fits e = long_up_to (length bytes) (at + length bytes) bytes rs fits e

pub both_fit : (xs ys : List Placed) → AllByRecursion PlacedFits xs → AllByRecursion PlacedFits ys → AllByRecursion PlacedFits (xs ++ ys)
both_fit [] ys h k = k
both_fit (x ∷ xs) ys h k = (h.0, both_fit xs ys h.1 k)

pub both_long : (xs ys : List Placed) → end_of (records_in (xs ++ ys)) ≡ end_of (records_in xs) + end_of (records_in ys)
both_long xs ys = ap end_of (map-append (λ (r : Placed). r.1) xs ys) ∙ sum_by-append record_length (records_in xs) (records_in ys)

-- the records of one batch more
pub read_on : (front first : List Placed) (b : Batch) (bs : List Batch) → placed_at b.at b.payload ≡ Ok first → with_front front (placed_in (b ∷ bs)) ≡ with_front (front ++ first) (placed_in bs)
read_on front first b bs e = ap (λ r. with_front front (r >>= λ xs. (placed_in bs >>= λ ys. Ok (xs ++ ys)))) e ∙ regrouped (placed_in bs)
  where
    regrouped : (r : Result (List Placed) ℕ) → with_front front (r >>= λ ys. Ok (first ++ ys)) ≡ with_front (front ++ first) r
    regrouped (Ok ys) = ap (λ (l : List Placed). Ok l) (sym (append_assoc front first ys))
    regrouped (Err place) = refl

-- why one of the batches isn't read is why all of them aren't
pub fails_on : (front : List Placed) (b : Batch) (bs : List Batch) (all : Result (List Placed) ℕ) (why : LoadWhy) → all ≡ with_front front (placed_in (b ∷ bs)) → FailsToRead (placed_at b.at b.payload) why → FailsToRead all why
fails_on front b bs all (Bad place) is fails = is ∙ ap (λ r. with_front front (r >>= λ xs. (placed_in bs >>= λ ys. Ok (xs ++ ys)))) fails
fails_on front b bs all (Foreign kept) is fails = fails
fails_on front b bs all Failed is fails = fails
fails_on front b bs all Stopped is fails = fails
fails_on front b bs all Memory is fails = fails

-- the records of a payload
pub read_payload : (at : ℕ) (payload : List ℕ) (rs : List Placed) → IsBytes payload → placed_at at payload ≡ Ok rs → AllByRecursion PlacedFits rs → AreRead (placed_at at payload) (length payload) rs
read_payload at payload rs fits read fit = record { are = read; fit = fit; long = placed_long at payload rs fits read }
