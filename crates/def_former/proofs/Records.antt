-- Records that are read at another place are the same.
use Rattle.std.proofs.Common.{◌≡◌, ℕ, zero, suc, ◌+◌, ◌-◌, List, [], ◌∷◌, ◌++◌, length, Option, Some, None, refl, sym, ap, ◌∙◌}
use Rattle.std.specs.Prelude.{Result, Ok, Err, ok_or, option_map, Bool, false}
use Rattle.std.proofs.lemmas.List.{map-append}
use Rattle.ic_base.specs.declared.record.Batch.{Batch}
use Rattle.ic_base.specs.declared.record.Record.{Record}
use Rattle.def_log.specs.Frame.{placed}
use Rattle.def_log.specs.Log.{◌>>=◌, Placed, placed_up_to, placed_at, placed_in, records_in, end_with_checkpoint, ends_with_checkpoint}
use Rattle.def_log.specs.Reading.{record_at}
use Rattle.def_former.specs.Migrated.{payloads_of}

-- the records without their places, if they are read
abbrev pub bare : Result (List Placed) ℕ → Option (List Record)
bare (Ok rs) = Some (records_in rs)
bare (Err place) = None

-- one record before others
behind_first : (x : Record) (here there : ℕ) (r s : Result (List Placed) ℕ) → bare r ≡ bare s → bare (r >>= (λ others. Ok ((here, x) ∷ others))) ≡ bare (s >>= (λ others. Ok ((there, x) ∷ others)))
behind_first x here there r s e = added here r ∙ ap (option_map (λ l. x ∷ l)) e ∙ sym (added there s)
  where
    added : (place : ℕ) (r : Result (List Placed) ℕ) → bare (r >>= (λ others. Ok ((place, x) ∷ others))) ≡ option_map (λ l. x ∷ l) (bare r)
    added place (Ok rs) = refl
    added place (Err at) = refl

pub bare_up_to : (n end there : ℕ) (bytes : List ℕ) → bare (placed_up_to n end bytes) ≡ bare (placed_up_to n there bytes)
unfolding placed_up_to
bare_up_to n end there [] = refl
bare_up_to zero end there (b ∷ bytes) = refl
bare_up_to (suc n) end there (b ∷ bytes) = at (λ rest. bare_up_to n end there rest) (record_at (b ∷ bytes))
  where
    at : ((rest : List ℕ) → bare (placed_up_to n end rest) ≡ bare (placed_up_to n there rest)) → (o : Option (Record × List ℕ))
        → bare (ok_or o (end - length (b ∷ bytes)) >>= (λ first. placed_up_to n end first.1 >>= (λ others. Ok ((end - length (b ∷ bytes), first.0) ∷ others))))
        ≡ bare (ok_or o (there - length (b ∷ bytes)) >>= (λ first. placed_up_to n there first.1 >>= (λ others. Ok ((there - length (b ∷ bytes), first.0) ∷ others))))
    at again None = refl
    at again (Some x) = behind_first x.0 (end - length (b ∷ bytes)) (there - length (b ∷ bytes)) (placed_up_to n end x.1) (placed_up_to n there x.1) (again x.1)

-- a batch ends with a Checkpoint wherever it stands
pub ends_anywhere : (at there : ℕ) (payload : List ℕ) → ends_with_checkpoint (record { at = at; payload = payload }) ≡ ends_with_checkpoint (record { at = there; payload = payload })
ends_anywhere at there payload = same (placed_at at payload) (placed_at there payload) (bare_up_to (length payload) (at + length payload) (there + length payload) payload)
  where
    ends : Result (List Placed) ℕ → Bool
    ends r = elim r [ Ok rs ↦ end_with_checkpoint (records_in rs) | Err place ↦ false ]

    ends_bare : Option (List Record) → Bool
    ends_bare o = elim o [ Some rs ↦ end_with_checkpoint rs | None ↦ false ]

    is : (r : Result (List Placed) ℕ) → ends r ≡ ends_bare (bare r)
    is (Ok rs) = refl
    is (Err place) = refl

    same : (r s : Result (List Placed) ℕ) → bare r ≡ bare s → ends r ≡ ends s
    same r s e = is r ∙ ap ends_bare e ∙ sym (is s)

-- these records are read, perhaps at other places
pub record AreSame (r : Result (List Placed) ℕ) (rs : List Record) : Type 0 where
  pub places : List Placed
  pub is : r ≡ Ok places
  pub same : records_in places ≡ rs

ok_is : (a b : List Placed) → ◌≡◌ {A = Result (List Placed) ℕ} (Ok a) (Ok b) → a ≡ b
ok_is a b e = cc e

same_records : (r : Result (List Placed) ℕ) (rs : List Record) → bare r ≡ Some rs → AreSame r rs
same_records (Ok ps) rs e = record { places = ps; is = refl; same = cc e }
same_records (Err place) rs e = absurd (cc e)

pub moved_at : (at there : ℕ) (bytes : List ℕ) (rs : List Placed) → placed_at at bytes ≡ Ok rs → AreSame (placed_at there bytes) (records_in rs)
moved_at at there bytes rs e = same_records (placed_at there bytes) (records_in rs) (bare_up_to (length bytes) (there + length bytes) (at + length bytes) bytes ∙ ap bare e)

-- the records of batches with the same payloads
pub moved_in : (bs : List Batch) (gate : ℕ) (rs : List Placed) → placed_in bs ≡ Ok rs → AreSame (placed_in (placed gate (payloads_of bs))) (records_in rs)
moved_in [] gate rs e = record { places = []; is = refl; same = ap records_in (ok_is [] rs e) }
moved_in (b ∷ bs) gate rs e = at (λ others d. moved_in bs (gate + 5 + length b.payload) others d) (placed_at b.at b.payload) refl (placed_in bs) refl e
  where
    rest : List Batch
    rest = placed (gate + 5 + length b.payload) (payloads_of bs)

    at : ((others : List Placed) → placed_in bs ≡ Ok others → AreSame (placed_in rest) (records_in others)) → (r : Result (List Placed) ℕ) → placed_at b.at b.payload ≡ r → (s : Result (List Placed) ℕ) → placed_in bs ≡ s
        → r >>= (λ first. s >>= (λ others. Ok (first ++ others))) ≡ Ok rs → AreSame (placed_in (placed gate (payloads_of (b ∷ bs)))) (records_in rs)
    at again (Err place) a s d e = absurd (cc e)
    at again (Ok first) a (Err place) d e = absurd (cc e)
    at again (Ok first) a (Ok others) d e =
        let one = moved_at b.at (gate + 5) b.payload first a in
        let more = again others d in
        record {
          places = one.places ++ more.places;
          is =
              ap (λ (r : Result (List Placed) ℕ). r >>= (λ x. placed_in rest >>= (λ y. Ok (x ++ y)))) one.is
              ∙ ap (λ (r : Result (List Placed) ℕ). r >>= (λ y. Ok (one.places ++ y))) more.is;
          same =
              map-append (λ (p : Placed). p.1) one.places more.places
              ∙ ap (λ l. l ++ records_in more.places) one.same ∙ ap (λ l. records_in first ++ l) more.same
              ∙ sym (map-append (λ (p : Placed). p.1) first others) ∙ ap records_in (ok_is (first ++ others) rs e);
        }
