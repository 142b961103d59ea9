-- Reading records with their places, one after the other.
use Rattle.std.proofs.Common.{◌≡◌, ℕ, zero, suc, ◌-◌, ◌+◌, ◌<◌, ◌≤◌, List, [], ◌∷◌, ◌++◌, length, Some, None, refl, sym, ap, ◌∙◌, append_assoc, arith}
use Rattle.std.specs.Prelude.{Result, Ok, Err, ok_or}
use Rattle.std.proofs.lemmas.List.{append-nil}
use Rattle.ic_base.specs.declared.record.Record.{Record}
use Rattle.def_log.specs.Reading.{record_at}
use Rattle.std.specs.List.{AllByRecursion}
use Rattle.def_log.specs.Spelling.{Fits}
use Rattle.def_log.specs.Log.{Placed, ◌>>=◌, placed_up_to, placed_at, records_of, records_in}
use Rattle.ic_wire.specs.declared.WireRefused.TheVariants.{BadAt}
use Rattle.ic_wire.specs.Placed.{PlacedFits}

-- what was read before, and what is still read
abbrev pub with_front : List Placed → Result (List Placed) ℕ → Result (List Placed) ℕ
with_front front read = read >>= λ rs. Ok (front ++ rs)

regroup : (front : List Placed) (r : Placed) (read : Result (List Placed) ℕ) → with_front front (read >>= λ rs. Ok (r ∷ rs)) ≡ with_front (front ++ r ∷ []) read
regroup front r (Ok rs) = ap (λ (ps : List Placed). Ok ps) (simp append_assoc)
regroup front r (Err place) = refl

one_more : (n end : ℕ) (bytes : List ℕ) → 0 < length bytes
    → placed_up_to (suc n) end bytes ≡ (ok_or (record_at bytes) (end - length bytes) >>= λ first. (placed_up_to n end first.1 >>= λ rs. Ok ((end - length bytes, first.0) ∷ rs)))
unfolding placed_up_to
one_more n end [] some = absurd (omega arith)
one_more n end (b ∷ bytes) some = refl

no_more : (n end : ℕ) → placed_up_to n end [] ≡ Ok []
unfolding placed_up_to
no_more zero end = refl
no_more (suc n) end = refl

pub goes_on : (front : List Placed) (n i end : ℕ) (bytes : List ℕ) (r : Record) (more : List ℕ) (total : Result (List Placed) ℕ) → i < n → 0 < length bytes → record_at bytes ≡ Some (r, more)
    → with_front front (placed_up_to (n - i) end bytes) ≡ total → with_front (front ++ (end - length bytes, r) ∷ []) (placed_up_to (n - (i + 1)) end more) ≡ total
goes_on front n i end bytes r more total lt some h so_far =
    let k : n - i ≡ suc (n - (i + 1)) = omega arith in
    let one : with_front front (placed_up_to (n - i) end bytes) ≡ with_front (front ++ (end - length bytes, r) ∷ []) (placed_up_to (n - (i + 1)) end more) =
    rw (k, one_more (n - (i + 1)) end bytes some, h) (regroup front (end - length bytes, r) (placed_up_to (n - (i + 1)) end more)) in
    sym one ∙ so_far

pub stops : (front : List Placed) (n i end : ℕ) (bytes : List ℕ) (total : Result (List Placed) ℕ) → i < n → 0 < length bytes → record_at bytes ≡ None
    → with_front front (placed_up_to (n - i) end bytes) ≡ total → total ≡ Err (end - length bytes)
stops front n i end bytes total lt some h so_far =
    let k : n - i ≡ suc (n - (i + 1)) = omega arith in
    let one : with_front front (placed_up_to (n - i) end bytes) ≡ Err (end - length bytes) = rw (k, one_more (n - (i + 1)) end bytes some, h) refl in
    sym so_far ∙ one

pub is_done : (front : List Placed) (n end : ℕ) (bytes : List ℕ) (total : Result (List Placed) ℕ) → length bytes ≡ 0 → with_front front (placed_up_to n end bytes) ≡ total → total ≡ Ok front
is_done front n end [] total none so_far =
    let one : with_front front (placed_up_to n end []) ≡ Ok front = rw (no_more n end) (ap (λ (ps : List Placed). Ok ps) (append-nil front)) in
    sym so_far ∙ one
is_done front n end (b ∷ bytes) total none so_far = absurd (omega (arith, none))

-- records that stand there, those that were read, and what is still read
pub record IsOn (before records : List Placed) (at : ℕ) (bytes rest : List ℕ) : Type 0 where
  pub more : List Placed
  pub behind : records ≡ before ++ more
  pub fuel : length rest + length more ≤ length bytes
  pub same : with_front more (placed_up_to (length bytes - length more) (at + length bytes) rest) ≡ placed_at at bytes
  pub fit : AllByRecursion PlacedFits more

-- nothing is read yet
pub starts : (before : List Placed) (at : ℕ) (bytes : List ℕ) → IsOn before before at bytes bytes
starts before at bytes = record {
  more = [];
  behind = sym (append-nil before);
  fuel = omega arith;
  same = ap (λ k. with_front [] (placed_up_to k (at + length bytes) bytes)) (omega arith) ∙ alone_front (placed_up_to (length bytes) (at + length bytes) bytes);
  fit = tt;
}
  where
    alone_front : (r : Result (List Placed) ℕ) → with_front [] r ≡ r
    alone_front (Ok rs) = refl
    alone_front (Err place) = refl

pub bad_is : (m n : ℕ) → BadAt m ≡ BadAt n → m ≡ n
bad_is m n e = cc

-- the records alone
pub alone : (bytes : List ℕ) (rs : List Placed) → placed_at 0 bytes ≡ Ok rs → records_of bytes ≡ Ok (records_in rs)
alone bytes rs e = rw e refl

pub none_alone : (bytes : List ℕ) (place : ℕ) → placed_at 0 bytes ≡ Err place → records_of bytes ≡ Err place
none_alone bytes place e = rw e refl

pub all_alone : (rs : List Placed) → AllByRecursion PlacedFits rs → AllByRecursion Fits (records_in rs)
all_alone [] h = tt
all_alone (r ∷ rs) h = (h.0, all_alone rs h.1)
