-- Reading records with their places, one after the other.
use Rattle.std.proofs.Common.{◌≡◌, ℕ, suc, ◌-◌, ◌+◌, ◌<◌, List, [], ◌∷◌, ◌++◌, length, Some, None, refl, sym, ap, ◌∙◌, append_assoc, arith}
use Rattle.std.specs.Prelude.{Result, Ok, Err, ok_or}
use Rattle.std.specs.List.{AllByRecursion}
use Rattle.std.proofs.lemmas.List.{append-nil}
use Rattle.ic_base.specs.declared.record.Batch.{Batch}
use Rattle.def_log.specs.Log.{◌>>=◌}
use Rattle.def_two.specs.declared.moves.Record2.{Record2}
use Rattle.def_two.specs.Records.{record2_at}
use Rattle.def_two.specs.Logs.{Placed2, placed2_up_to, placed2_at, placed2_in}
use Rattle.ic_gate.specs.declared.refusals.LoadWhy.{LoadWhy}
use Rattle.ic_gate.specs.declared.refusals.LoadWhy.TheVariants.{Bad, Foreign, Failed, Stopped, Memory}
use Rattle.ic_two.specs.Reading.{PlacedFits2, FailsToRead}

-- what was read before, and what is still read
abbrev pub with_front : List Placed2 → Result (List Placed2) ℕ → Result (List Placed2) ℕ
with_front front read = read >>= λ rs. Ok (front ++ rs)

regroup : (front : List Placed2) (r : Placed2) (read : Result (List Placed2) ℕ) → with_front front (read >>= λ rs. Ok (r ∷ rs)) ≡ with_front (front ++ r ∷ []) read
regroup front r (Ok rs) = ap (λ (ps : List Placed2). Ok ps) (simp append_assoc)
regroup front r (Err place) = refl

one_more : (n end : ℕ) (bytes : List ℕ) → 0 < length bytes
    → placed2_up_to (suc n) end bytes ≡ (ok_or (record2_at bytes) (end - length bytes) >>= λ first. (placed2_up_to n end first.1 >>= λ rs. Ok ((end - length bytes, first.0) ∷ rs)))
unfolding placed2_up_to
one_more n end [] some = absurd (omega arith)
one_more n end (b ∷ bytes) some = refl

no_more : (n end : ℕ) → placed2_up_to n end [] ≡ Ok []
unfolding placed2_up_to
no_more n end = refl

pub goes_on : (front : List Placed2) (n i end : ℕ) (bytes : List ℕ) (r : Record2) (more : List ℕ) (total : Result (List Placed2) ℕ) → i < n → 0 < length bytes → record2_at bytes ≡ Some (r, more)
    → with_front front (placed2_up_to (n - i) end bytes) ≡ total → with_front (front ++ (end - length bytes, r) ∷ []) (placed2_up_to (n - (i + 1)) end more) ≡ total
goes_on front n i end bytes r more total lt some h so_far =
    let k : n - i ≡ suc (n - (i + 1)) = omega arith in
    let one : with_front front (placed2_up_to (n - i) end bytes) ≡ with_front (front ++ (end - length bytes, r) ∷ []) (placed2_up_to (n - (i + 1)) end more) =
    rw (k, one_more (n - (i + 1)) end bytes some, h) (regroup front (end - length bytes, r) (placed2_up_to (n - (i + 1)) end more)) in
    sym one ∙ so_far

pub stops : (front : List Placed2) (n i end : ℕ) (bytes : List ℕ) (total : Result (List Placed2) ℕ) → i < n → 0 < length bytes → record2_at bytes ≡ None
    → with_front front (placed2_up_to (n - i) end bytes) ≡ total → total ≡ Err (end - length bytes)
stops front n i end bytes total lt some h so_far =
    let k : n - i ≡ suc (n - (i + 1)) = omega arith in
    let one : with_front front (placed2_up_to (n - i) end bytes) ≡ Err (end - length bytes) = rw (k, one_more (n - (i + 1)) end bytes some, h) refl in
    sym so_far ∙ one

pub is_done : (front : List Placed2) (n end : ℕ) (bytes : List ℕ) (total : Result (List Placed2) ℕ) → length bytes ≡ 0 → with_front front (placed2_up_to n end bytes) ≡ total → total ≡ Ok front
is_done front n end [] total none so_far =
    let one : with_front front (placed2_up_to n end []) ≡ Ok front = rw (no_more n end) (ap (λ (ps : List Placed2). Ok ps) (append-nil front)) in
    sym so_far ∙ one
is_done front n end (b ∷ bytes) total none so_far = absurd (omega (arith, none))

pub all_push : (xs : List Placed2) (x : Placed2) → AllByRecursion PlacedFits2 xs → PlacedFits2 x → AllByRecursion PlacedFits2 (xs ++ x ∷ [])
all_push [] x h p = (p, tt)
all_push (y ∷ ys) x h p = (h.0, all_push ys x h.1 p)

pub both_fit : (xs ys : List Placed2) → AllByRecursion PlacedFits2 xs → AllByRecursion PlacedFits2 ys → AllByRecursion PlacedFits2 (xs ++ ys)
both_fit [] ys h k = k
both_fit (x ∷ xs) ys h k = (h.0, both_fit xs ys h.1 k)

-- the records of one batch more
pub read_on : (front first : List Placed2) (b : Batch) (bs : List Batch) → placed2_at b.at b.payload ≡ Ok first → with_front front (placed2_in (b ∷ bs)) ≡ with_front (front ++ first) (placed2_in bs)
read_on front first b bs e = ap (λ r. with_front front (r >>= λ xs. (placed2_in bs >>= λ ys. Ok (xs ++ ys)))) e ∙ regrouped (placed2_in bs)
  where
    regrouped : (r : Result (List Placed2) ℕ) → with_front front (r >>= λ ys. Ok (first ++ ys)) ≡ with_front (front ++ first) r
    regrouped (Ok ys) = ap (λ (l : List Placed2). Ok l) (sym (append_assoc front first ys))
    regrouped (Err place) = refl

-- why one of the batches isn't read is why all of them aren't
pub fails_on : (front : List Placed2) (b : Batch) (bs : List Batch) (all : Result (List Placed2) ℕ) (why : LoadWhy) → all ≡ with_front front (placed2_in (b ∷ bs)) → FailsToRead (placed2_at b.at b.payload) why → FailsToRead all why
fails_on front b bs all (Bad place) is fails = is ∙ ap (λ r. with_front front (r >>= λ xs. (placed2_in bs >>= λ ys. Ok (xs ++ ys)))) fails
fails_on front b bs all (Foreign kept) is fails = fails
fails_on front b bs all Failed is fails = fails
fails_on front b bs all Stopped is fails = fails
fails_on front b bs all Memory is fails = fails
