-- Records that fit are read back from their payload.
use Rattle.std.proofs.Common.{◌≡◌, refl, ◌∙◌, ap, sym, ℕ, zero, suc, ◌-◌, ◌≤◌, List, [], ◌∷◌, ◌++◌, length, Some, arith}
use Rattle.std.specs.Prelude.{Result, Ok, Err, ok_or}
use Rattle.std.specs.List.{AllByRecursion}
use Rattle.std.proofs.lemmas.List.{append-nil, length-append, append_assoc}
use Rattle.def_two.specs.declared.moves.Record2.{Record2}
use Rattle.def_two.specs.declared.moves.Record2.TheVariants.{Begun, Verdict, Ready, Ended}
use Rattle.ic_base.specs.declared.record.Batch.{Batch}
use Rattle.def_log.specs.Log.{◌>>=◌}
use Rattle.def_two.specs.Records.{record2_at, spelling2, payload2_of, Fits2}
use Rattle.def_two.specs.Logs.{Placed2, placed2_up_to, placed2_at, placed2_in, records2_in}
use Rattle.law_two_run.proofs.Again.{record2_again}

pub spelled-some : (r : Record2) → 1 ≤ length (spelling2 r)
spelled-some (Begun m) = omega arith
spelled-some (Verdict n r) = omega arith
spelled-some (Ready m) = omega arith
spelled-some (Ended n agreed) = omega arith

-- bytes are read as these records
pub record AreRead (r : Result (List Placed2) ℕ) (rs : List Record2) : Type 0 where
  pub places : List Placed2
  pub is : r ≡ Ok places
  pub records : records2_in places ≡ rs

read-one : (n end : ℕ) (bytes rest : List ℕ) (r : Record2) (rs : List Record2) → 1 ≤ length bytes → record2_at bytes ≡ Some (r, rest) → AreRead (placed2_up_to n end rest) rs → AreRead (placed2_up_to (suc n) end bytes) (r ∷ rs)
unfolding placed2_up_to
read-one n end [] rest r rs long e more = absurd (omega (arith, long))
read-one n end (b ∷ bytes) rest r rs long e more = record {
  places = (end - length (b ∷ bytes), r) ∷ more.places;
  is = ap (λ o. ok_or o (end - length (b ∷ bytes)) >>= (λ first. placed2_up_to n end first.1 >>= (λ others. Ok ((end - length (b ∷ bytes), first.0) ∷ others)))) e
      ∙ ap (λ x. x >>= (λ others. Ok ((end - length (b ∷ bytes), r) ∷ others))) more.is;
  records = ap (λ l. r ∷ l) more.records;
}

read-none : (n end : ℕ) → AreRead (placed2_up_to n end []) []
unfolding placed2_up_to
read-none n end = record { places = []; is = refl; records = refl }

pub read-all : (rs : List Record2) (n end : ℕ) → AllByRecursion Fits2 rs → length (payload2_of rs) ≤ n → AreRead (placed2_up_to n end (payload2_of rs)) rs
read-all [] n end fits le = read-none n end
read-all (r ∷ rs) zero end fits le = absurd (omega (arith, le, spelled-some r, length-append (spelling2 r) (payload2_of rs)))
read-all (r ∷ rs) (suc n) end fits le =
    read-one n end (spelling2 r ++ payload2_of rs) (payload2_of rs) r rs (omega (arith, spelled-some r, length-append (spelling2 r) (payload2_of rs)))
    (record2_again r (payload2_of rs) fits.0) (read-all rs n end fits.1 (omega (arith, le, spelled-some r, length-append (spelling2 r) (payload2_of rs))))

-- one batch more
pub placed-push : (bs : List Batch) (b : Batch) (ps qs : List Placed2) → placed2_in bs ≡ Ok ps → placed2_at b.at b.payload ≡ Ok qs → placed2_in (bs ++ b ∷ []) ≡ Ok (ps ++ qs)
placed-push [] b ps qs e f =
    ap (λ (r : Result (List Placed2) ℕ). r >>= (λ first. placed2_in [] >>= (λ others. Ok (first ++ others)))) f ∙ none ps e
  where
    no-places : (l : List Placed2) → ◌≡◌ {A = Result (List Placed2) ℕ} (Ok []) (Ok l) → [] ≡ l
    no-places l g = cc g

    none : (l : List Placed2) → ◌≡◌ {A = Result (List Placed2) ℕ} (Ok []) (Ok l) → ◌≡◌ {A = Result (List Placed2) ℕ} (Ok (qs ++ [])) (Ok (l ++ qs))
    none l g = ap (λ (z : List Placed2). Ok z) (append-nil qs ∙ ap (λ (z : List Placed2). z ++ qs) (no-places l g))
placed-push (c ∷ bs) b ps qs e f = at (λ others d. placed-push bs b others qs d f) (placed2_at c.at c.payload) refl (placed2_in bs) refl e
  where
    same : (x y z : List Placed2) → ◌≡◌ {A = Result (List Placed2) ℕ} (Ok (x ++ y)) (Ok z) → x ++ y ≡ z
    same x y z h = cc h

    at : ((others : List Placed2) → placed2_in bs ≡ Ok others → placed2_in (bs ++ b ∷ []) ≡ Ok (others ++ qs)) → (r : Result (List Placed2) ℕ) → placed2_at c.at c.payload ≡ r → (s : Result (List Placed2) ℕ) → placed2_in bs ≡ s → r >>= (λ first. s >>= (λ others. Ok (first ++ others))) ≡ Ok ps → placed2_in (c ∷ bs ++ b ∷ []) ≡ Ok (ps ++ qs)
    at more (Err place) a s d g = absurd (cc g)
    at more (Ok first) a (Err place) d g = absurd (cc g)
    at more (Ok first) a (Ok others) d g =
        ap (λ (r : Result (List Placed2) ℕ). r >>= (λ x. placed2_in (bs ++ b ∷ []) >>= (λ y. Ok (x ++ y)))) a
        ∙ ap (λ (r : Result (List Placed2) ℕ). r >>= (λ y. Ok (first ++ y))) (more others d)
        ∙ ap (λ (z : List Placed2). Ok z) (sym (append_assoc first others qs) ∙ ap (λ (z : List Placed2). z ++ qs) (same first others ps g))
