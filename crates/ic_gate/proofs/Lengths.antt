-- How long the spellings of records are.
use Rattle.std.proofs.Common.{◌≡◌, ℕ, ℤ, ◌*◌, List, [], ◌∷◌, ◌++◌, length, refl, arith, length-append, flat_map, Option, Some, None}
use Rattle.std.proofs.lemmas.List.Sums.{sum_by-cons}
use Rattle.std.specs.Int.{w16, w32, w64, cast_unsigned, to_be_bytes}
use Rattle.ic_base.specs.declared.messages.AbortCause.{AbortCause}
use Rattle.ic_base.specs.declared.messages.AbortCause.TheVariants as causes
use Rattle.ic_base.specs.declared.record.Record.{Record}
use Rattle.ic_base.specs.declared.record.Record.TheVariants.{Take, TakeWhole, Input, Value, Outcome, Released, Shown, Checkpoint, Epoch, Decided}
use Rattle.def_log.specs.Spelling.{spelling, spellings, number, value, args, session, ending, write}
use Rattle.def_log.proofs.Again.{wide16, wide32, wide64}
use Rattle.def_state.specs.Positions.{cause_length, record_length, end_of}

values_long : (xs : List ℤ) → length (flat_map value xs) ≡ 8 * length xs
values_long [] = refl
values_long (x ∷ xs) = omega (arith, length-append (value x) (flat_map value xs), wide64.len (cast_unsigned w64 x), values_long xs)

writes_long : (ws : List (ℕ × ℤ)) → length (flat_map write ws) ≡ 10 * length ws
writes_long [] = refl
writes_long (w ∷ ws) = omega (arith, length-append (write w) (flat_map write ws), length-append (to_be_bytes w16 w.0) (value w.1), wide16.len w.0, wide64.len (cast_unsigned w64 w.1), writes_long ws)

ending_long : (cause : Option AbortCause) → length (ending cause) ≡ cause_length cause
ending_long None = refl
ending_long (Some (causes.Need line)) = omega (arith, wide32.len line)
ending_long (Some (causes.Held holder n)) = omega (arith, wide64.len n)
ending_long (Some (causes.Epoch old present)) = omega (arith, length-append (number old) (number present), wide64.len old, wide64.len present)

-- the bytes of a record
pub spelling-length : (r : Record) → length (spelling r) ≡ record_length r
spelling-length (Take from k stamp) = omega (arith, length-append (number k) (number stamp), wide64.len k, wide64.len stamp)
spelling-length (TakeWhole from k stamp handler xs) =
    omega (arith, length-append (number k ++ number stamp) (handler ∷ args xs), length-append (number k) (number stamp), wide64.len k, wide64.len stamp, values_long xs)
spelling-length (Input stamp handler xs) = omega (arith, length-append (number stamp) (handler ∷ args xs), wide64.len stamp, values_long xs)
spelling-length (Value n place s x) =
    omega (arith, length-append (number n ++ to_be_bytes w16 place ++ session s) (value x), length-append (number n ++ to_be_bytes w16 place) (session s), length-append (number n) (to_be_bytes w16 place), length-append (number s.epoch) (number s.counter), wide64.len n, wide16.len place, wide64.len s.epoch, wide64.len s.counter, wide64.len (cast_unsigned w64 x))
spelling-length (Outcome stamp n abort) =
    omega (arith, length-append (number stamp ++ number n) (ending abort), length-append (number stamp) (number n), wide64.len stamp, wide64.len n, ending_long abort)
spelling-length (Released to k) = omega (arith, wide64.len k)
spelling-length (Shown m) = omega (arith, wide64.len m)
spelling-length (Checkpoint image) = omega (arith, length-append (to_be_bytes w32 (length image)) image, wide32.len (length image))
spelling-length (Epoch epoch) = omega (arith, wide64.len epoch)
spelling-length (Decided stamp c n writes) =
    omega (arith, length-append (number stamp) (c.0 ∷ (number n ++ to_be_bytes w16 (length writes) ++ flat_map write writes)), length-append (number n ++ to_be_bytes w16 (length writes)) (flat_map write writes), length-append (number n) (to_be_bytes w16 (length writes)), wide64.len stamp, wide64.len n, wide16.len (length writes), writes_long writes)

-- the bytes of records in a row
pub spellings-length : (rs : List Record) → length (spellings rs) ≡ end_of rs
spellings-length [] = refl
spellings-length (r ∷ rs) = omega (arith, length-append (spelling r) (spellings rs), sum_by-cons record_length r rs, spelling-length r, spellings-length rs)
