-- Whether batches end with a checkpoint, and that their records are read.
use Rattle.std.proofs.Common.{◌≡◌, ◌∙◌, ap, ℕ, zero, suc, ◌+◌, List, [], ◌∷◌, ◌++◌, length, get_or, arith}
use Rattle.std.specs.Prelude.{Result, Ok, Err}
use Rattle.ic_base.specs.declared.record.Batch.{Batch}
use Rattle.def_log.specs.Log.{◌>>=◌, Placed, placed_at, placed_in, records_in, is_checkpoint, end_with_checkpoint}
use Rattle.ic_former.specs.Reading.{IsReadable, FailsToRead}
use Rattle.ic_former.specs.declared.refusals.LoadWhy.{LoadWhy}
use Rattle.ic_former.specs.declared.refusals.LoadWhy.TheVariants.{Bad, Foreign, Failed, Stopped, Memory}

-- the last of the records
pub last_ends : (ps : List Placed) (i : ℕ) (p : Placed) → i + 1 ≡ length ps → p ≡ get_or ps i p → is_checkpoint p.1 ≡ end_with_checkpoint (records_in ps)
last_ends [] i p last is = absurd (omega (arith, last))
last_ends (q ∷ []) zero p last is = ap (λ (x : Placed). is_checkpoint x.1) is
last_ends (q ∷ []) (suc i) p last is = absurd (omega (arith, last))
last_ends (q ∷ r ∷ ps) zero p last is = absurd (omega (arith, last))
last_ends (q ∷ r ∷ ps) (suc i) p last is = last_ends (r ∷ ps) i p (omega (arith, last)) is

-- Records that are read, and those that are still to be read, come to all of them: it is known whether all are read just as soon as it
-- is known of those that are left.
pub record IsReadUpTo (all left : Result (List Placed) ℕ) : Type 0 where
  pub done : IsReadable left → IsReadable all
  pub fails : (place : ℕ) → left ≡ Err place → all ≡ Err place

pub nothing_read : (all : Result (List Placed) ℕ) → IsReadUpTo all all
nothing_read all = record { done = λ is. is; fails = λ place e. e }

-- one batch more is read
pub one_read : (all : Result (List Placed) ℕ) (b : Batch) (bs : List Batch) → IsReadUpTo all (placed_in (b ∷ bs)) → IsReadable (placed_at b.at b.payload) → IsReadUpTo all (placed_in bs)
one_read all b bs so_far read = record {
  done = λ rest. so_far.done (read.0 ++ rest.0, together ∙ ap (λ (r : Result (List Placed) ℕ). r >>= (λ others. Ok (read.0 ++ others))) rest.1);
  fails = λ place e. so_far.fails place (together ∙ ap (λ (r : Result (List Placed) ℕ). r >>= (λ others. Ok (read.0 ++ others))) e);
}
  where
    together : placed_in (b ∷ bs) ≡ placed_in bs >>= (λ others. Ok (read.0 ++ others))
    together = ap (λ (r : Result (List Placed) ℕ). r >>= (λ first. placed_in bs >>= (λ others. Ok (first ++ others)))) read.1

-- a batch that isn't read
pub one_fails : (all : Result (List Placed) ℕ) (b : Batch) (bs : List Batch) (why : LoadWhy) → IsReadUpTo all (placed_in (b ∷ bs)) → FailsToRead (placed_at b.at b.payload) why → FailsToRead all why
one_fails all b bs (Bad place) so_far e = so_far.fails place (ap (λ (r : Result (List Placed) ℕ). r >>= (λ first. placed_in bs >>= (λ others. Ok (first ++ others)))) e)
one_fails all b bs (Foreign kept) so_far e = absurd e
one_fails all b bs Failed so_far e = absurd e
one_fails all b bs Stopped so_far e = absurd e
one_fails all b bs Memory so_far e = tt
