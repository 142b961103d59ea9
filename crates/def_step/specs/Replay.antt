-- A recovery: the records behind the last checkpoint, played again until a Take waits for its content.
use Rattle.std.specs.Prelude.{ℕ, suc, ◌+◌, ◌-◌, Bool, true, false, cond, List, [], ◌∷◌, length, Option, Some, None, is_some, option_map, option_and_then}
use Rattle.ic_base.specs.declared.messages.ComId.{ComId}
use Rattle.ic_base.specs.declared.messages.Msg.{Msg}
use Rattle.ic_base.specs.declared.scenario.Program.{Program}
use Rattle.ic_base.specs.declared.record.Record.{Record}
use Rattle.ic_base.specs.declared.record.Record.TheVariants.{Take, Checkpoint}
use Rattle.def_state.specs.Names.{Identity}
use Rattle.def_state.specs.Fits.{fits}
use Rattle.def_state.specs.Image.{read_image}
use Rattle.def_state.specs.Vol.{Vol, first_vol, standing, record_in, numbers_fit}

-- a state, and the records that are still to be played: none, or a waiting Take first
pub record Playing : Type 0 where
  pub vol : Vol
  pub rest : List Record

abbrev pub image_in : Record → Option (List ℕ)
image_in (Checkpoint image) = Some image
image_in _ = None

-- the message that a Take waits for
abbrev pub waits_for : Record → Option Identity
waits_for (Take from k stamp) = Some (record { peer = from; k = k })
waits_for _ = None

abbrev pub stamp_waiting : Record → Option ℕ
stamp_waiting (Take from k stamp) = Some stamp
stamp_waiting _ = None

-- a record is a misfit, waits, or is played, and then `later` is what becomes of the others
abbrev pub turn : Program → ComId → Vol → Record → List Record → Option Playing → Option Playing
turn program c v r rs later =
    cond (fits program c (standing program c v) r)
    (cond (is_some (waits_for r))
    (Some (record { vol = v; rest = r ∷ rs }))
    (cond (numbers_fit (record_in program c 0 None v r)) later None))
    None

-- the records from here on; None where one is a misfit
abbrev pub play_records : Program → ComId → Vol → List Record → Option Playing
play_records program c v [] = Some (record { vol = v; rest = [] })
play_records program c v (r ∷ rs) = let later = play_records program c (record_in program c 0 None v r) rs in turn program c v r rs later

-- the waiting Take with its content, then the records behind it
abbrev pub feed : Program → ComId → Vol → Msg → List Record → Option Playing
feed program c v m [] = Some (record { vol = v; rest = [] })
feed program c v m (r ∷ rs) =
    cond (numbers_fit (record_in program c 0 (Some m) v r)) (play_records program c (record_in program c 0 (Some m) v r) rs) None

abbrev pub has_image : List Record → Bool
has_image [] = false
has_image (r ∷ rs) = cond (is_some (image_in r)) true (has_image rs)

abbrev pub image_or : Option (List ℕ) → Option (List ℕ) → Option (List ℕ)
image_or None other = other
image_or (Some image) other = Some image

-- the image of the last checkpoint
abbrev pub last_image : List Record → Option (List ℕ)
last_image [] = None
last_image (r ∷ rs) = image_or (last_image rs) (image_in r)

-- the records behind the last checkpoint, or all
abbrev pub behind_checkpoint : List Record → List Record
behind_checkpoint [] = []
behind_checkpoint (r ∷ rs) = cond (has_image rs) (behind_checkpoint rs) (cond (is_some (image_in r)) rs (r ∷ rs))

-- where a recovery begins
abbrev pub start_at : Program → ComId → Option (List ℕ) → Option Vol
start_at program c None = Some (first_vol program c)
start_at program c (Some image) = read_image program c image

-- a record that makes this state is a misfit where a number passes its limit, else the first one behind it is
abbrev pub misfit_behind : Vol → Option ℕ → Option ℕ
misfit_behind v later = cond (numbers_fit v) (option_map suc later) (Some 0)

-- a record is a misfit, or waits, or is played, and then `later` is the first misfit among the others
abbrev pub misfit_at : Program → ComId → Vol → Record → Option ℕ → Option ℕ
misfit_at program c v r later =
    cond (fits program c (standing program c v) r)
    (cond (is_some (waits_for r)) None (misfit_behind (record_in program c 0 None v r) later))
    (Some 0)

-- the place, counted from 0, of the first misfit among records that are played from here on until one waits
abbrev pub misfit_from : Program → ComId → Vol → List Record → Option ℕ
misfit_from program c v [] = None
misfit_from program c v (r ∷ rs) = let later = misfit_from program c (record_in program c 0 None v r) rs in misfit_at program c v r later

-- the same among a waiting Take that is fed, and the records behind it
abbrev pub misfit_fed : Program → ComId → Vol → Msg → List Record → Option ℕ
misfit_fed program c v m [] = None
misfit_fed program c v m (r ∷ rs) =
    misfit_behind (record_in program c 0 (Some m) v r) (misfit_from program c (record_in program c 0 (Some m) v r) rs)

-- the number of records that a recovery passes over, the last checkpoint among them
abbrev pub passed_over : List Record → ℕ
passed_over records = length records - length (behind_checkpoint records)

-- the place of the record that refuses a recovery: the last checkpoint, if its image isn't read, or the first misfit behind it
abbrev pub recovery_misfit : Program → ComId → List Record → Option Vol → Option ℕ
recovery_misfit program c records None = Some (passed_over records - 1)
recovery_misfit program c records (Some v) = option_map (λ i. passed_over records + i) (misfit_from program c v (behind_checkpoint records))

abbrev pub misfit_of : Program → ComId → List Record → Option ℕ
misfit_of program c records = recovery_misfit program c records (start_at program c (last_image records))

-- a whole recovery; None where it meets a misfit
abbrev pub recovered : Program → ComId → List Record → Option Playing
recovered program c records = option_and_then (λ v. play_records program c v (behind_checkpoint records)) (start_at program c (last_image records))
