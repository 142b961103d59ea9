-- The files of the bank's scene are taken up.
use Rattle.std.proofs.Common.{◌≡◌, refl, ℕ, zero, suc, ◌<◌, Bool, true, ◌&&◌, List, [], ◌∷◌, ◌++◌, length, replicate, slice_get, unwrap_or, inl, None, Ok, false, arith}
use Rattle.std.specs.Prelude.{nat_le}
use Rattle.std.specs.List.{AllByRecursion, list_all}
use Rattle.std.proofs.lemmas.Bool.{leb-true}
use Rattle.std.specs.declared.alloc.Global.{Global}
use Rattle.ic_base.specs.declared.limits.TheConstants.{FIRST_GATE, SLOTS}
use Rattle.ic_base.specs.declared.events.What.TheVariants as whats
use Rattle.def_log.specs.Directory.{closed_slots}
use Rattle.def_log.specs.Frame.{letters, header, batches, placed, at_rest}
use Rattle.def_log.specs.Laws.{IsBytes}
use Rattle.def_log.specs.Loads.{payload_of}
use Rattle.def_log.specs.Log.{◌>>=◌, placed_in, placed_up_to, records_in, log_of}
use Rattle.def_log.specs.Reading.{record_at, answer_at, session_at, value_at, decided_at, writes_at, outcome_at, ending_at, held_at, checkpoint_at, taken_at, input_at, com_at as read_com, tested_at, args_at, values_at}
use Rattle.def_run.specs.CoreSteps.{forced_of}
use Rattle.def_run.specs.Openings.{found_refusal}
use Rattle.def_run.specs.SystemStates.{IsLog, KeepsLog, has_disk}
use Rattle.def_plain.specs.Scenes.{com_at}
use Rattle.law_found.specs.Trade.{trade, trade_logs, bank_log, buyer_log, clerk_log}
use Rattle.law_found.proofs.Bank.{logs_are_sound}
use Rattle.law_run.specs.Images.{IsOwnLog}
use Rattle.law_run.proofs.Opening.{images_are_not_refused}
use Rattle.law_scene.specs.Bank.{files, found, FilesAreTakenUp}
use Rattle.law_run.proofs.Rests.{rest-log}

-- bytes ---------------------------------------------------------------------------------------------------

abbrev AreBytes : List ℕ → Type 0
AreBytes bytes = AllByRecursion (λ b. b < 256) bytes

each-byte : (bytes : List ℕ) → IsBytes bytes → AreBytes bytes
each-byte [] h = tt
each-byte (b ∷ bs) h = (h 0, each-byte bs (λ i. h (suc i)))

by-place : (bytes : List ℕ) → AreBytes bytes → IsBytes bytes
by-place [] h i = omega arith
by-place (b ∷ bs) h zero = h.0
by-place (b ∷ bs) h (suc i) = by-place bs h.1 i

both-bytes : (xs ys : List ℕ) → AreBytes xs → AreBytes ys → AreBytes (xs ++ ys)
both-bytes [] ys h k = k
both-bytes (x ∷ xs) ys h k = (h.0, both-bytes xs ys h.1 k)

tested : (bytes : List ℕ) → list_all (λ b. nat_le b 255) bytes ≡ true → AreBytes bytes
tested [] e = tt
tested (b ∷ bs) e = at (nat_le b 255) refl (λ rest. tested bs rest) e
  where
    at : (t : Bool) → nat_le b 255 ≡ t → (list_all (λ b. nat_le b 255) bs ≡ true → AreBytes bs) → (t && list_all (λ b. nat_le b 255) bs) ≡ true → AreBytes (b ∷ bs)
    at true is more rest = let l = leb-true b 255 is in (omega (arith, l), more rest)
    at false is more rest = absurd (cc rest)

slots-bytes : (n : ℕ) → AreBytes (closed_slots n)
unfolding closed_slots
slots-bytes zero = tt
slots-bytes (suc n) = both-bytes (0 ∷ replicate 8 0) (closed_slots n) (tested (0 ∷ replicate 8 0) refl) (slots-bytes n)

file-bytes : (f : List ℕ) (owner : ℕ) (payload : List ℕ) → IsBytes f → owner < 256 → list_all (λ b. nat_le b 255) (batches (payload ∷ [])) ≡ true → IsBytes (at_rest f owner [] (payload ∷ []))
file-bytes f owner payload print small all =
    by-place (at_rest f owner [] (payload ∷ []))
    (both-bytes (header f owner []) (batches (payload ∷ []) ++ 0 ∷ [])
    (both-bytes letters (f ++ owner ∷ closed_slots SLOTS) (tested letters refl) (both-bytes f (owner ∷ closed_slots SLOTS) (each-byte f print) (small, slots-bytes SLOTS)))
    (both-bytes (batches (payload ∷ [])) (0 ∷ []) (tested (batches (payload ∷ [])) all) (tested (0 ∷ []) refl)))

-- logs ----------------------------------------------------------------------------------------------------

bank-read : (placed_in (placed FIRST_GATE (payload_of bank_log ∷ [])) >>= (λ rs. Ok (records_in rs))) ≡ Ok bank_log
unfolding placed_up_to record_at decided_at writes_at value_at read_com tested_at
bank-read = refl

buyer-read : (placed_in (placed FIRST_GATE (payload_of buyer_log ∷ [])) >>= (λ rs. Ok (records_in rs))) ≡ Ok buyer_log
unfolding placed_up_to record_at input_at args_at values_at answer_at session_at value_at outcome_at ending_at checkpoint_at tested_at
buyer-read = refl

clerk-read : (placed_in (placed FIRST_GATE (payload_of clerk_log ∷ [])) >>= (λ rs. Ok (records_in rs))) ≡ Ok clerk_log
unfolding placed_up_to record_at input_at args_at values_at value_at outcome_at ending_at held_at taken_at read_com tested_at
clerk-read = refl

module _ (a : Global) (f : List ℕ) (long : length f ≡ 32) where
  bank-log : IsLog f 0 (at_rest f 0 [] (payload_of bank_log ∷ [])) bank_log
  bank-log = rest-log f 0 (payload_of bank_log ∷ []) long ((omega arith, omega arith), tt) (omega arith) bank_log bank-read

  buyer-log : IsLog f 1 (at_rest f 1 [] (payload_of buyer_log ∷ [])) buyer_log
  buyer-log = rest-log f 1 (payload_of buyer_log ∷ []) long ((omega arith, omega arith), tt) (omega arith) buyer_log buyer-read

  clerk-log : IsLog f 2 (at_rest f 2 [] (payload_of clerk_log ∷ [])) clerk_log
  clerk-log = rest-log f 2 (payload_of clerk_log ∷ []) long ((omega arith, omega arith), tt) (omega arith) clerk_log clerk-read

  kept-at : (n : ℕ) → KeepsLog f (com_at n) (unwrap_or (slice_get (files f) n) []) (slice_get (found a f).world.nodes n)
  kept-at zero = bank-log
  kept-at (suc zero) = buyer-log
  kept-at (suc (suc zero)) = clerk-log
  kept-at (suc (suc (suc n))) = tt

  own-at : (n : ℕ) → has_disk (trade a) (record { 0 = n }) ≡ true → IsOwnLog f (com_at n) (unwrap_or (slice_get (files f) n) [])
  own-at zero e = (bank-log.own, bank-log.owned)
  own-at (suc zero) e = (buyer-log.own, buyer-log.owned)
  own-at (suc (suc zero)) e = (clerk-log.own, clerk-log.owned)
  own-at (suc (suc (suc n))) e = absurd (cc e)

  reads-at : (n : ℕ) → has_disk (trade a) (record { 0 = n }) ≡ true → log_of (unwrap_or (slice_get (files f) n) []) ≡ Ok (forced_of (slice_get (found a f).world.nodes n))
  reads-at zero e = bank-log.holds
  reads-at (suc zero) e = buyer-log.holds
  reads-at (suc (suc zero)) e = clerk-log.holds
  reads-at (suc (suc (suc n))) e = absurd (cc e)

  unrefused : found_refusal (trade a) f (files f) ≡ None
  unrefused = images_are_not_refused (trade a) f (found a f) (whats.Crash (record { 0 = 0 })) (λ c. record { found = []; size = 0; free = true; left = []; is_open = false }) (files f) (λ c disk. inl (reads-at c.0 disk)) (λ c disk. own-at c.0 disk)

  bytes-at : IsBytes f → (n : ℕ) → IsBytes (unwrap_or (slice_get (files f) n) [])
  bytes-at print zero = file-bytes f 0 (payload_of bank_log) print (omega arith) refl
  bytes-at print (suc zero) = file-bytes f 1 (payload_of buyer_log) print (omega arith) refl
  bytes-at print (suc (suc zero)) = file-bytes f 2 (payload_of clerk_log) print (omega arith) refl
  bytes-at print (suc (suc (suc n))) = by-place [] tt

pub files_are_taken_up : FilesAreTakenUp
files_are_taken_up a f long print = (
  unrefused a f long,
  record { found = record { logs = trade_logs; world = refl; files = refl; kept = λ c. kept-at a f long c.0 }; bytes = λ c. bytes-at a f long print c.0; sound = logs_are_sound a },
)
