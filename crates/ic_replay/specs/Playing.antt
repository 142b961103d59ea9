-- Records that are played one after another.
use Rattle.std.specs.Prelude.{◌≡◌, ◌+◌, ◌<◌, ◌≤◌, ⊤, ℕ, Bool, true, false, List, [], ◌∷◌, length, drop, Option, Some, None, option_map}
use Rattle.ic_base.specs.declared.messages.ComId.{ComId}
use Rattle.ic_base.specs.declared.messages.Msg.{Msg}
use Rattle.ic_base.specs.declared.scenario.Program.{Program}
use Rattle.ic_base.specs.declared.record.Record.{Record}
use Rattle.ic_base.specs.declared.record.Record.TheVariants.{Take}
use Rattle.def_state.specs.Vol.{Vol, record_in, numbers_fit}
use Rattle.def_step.specs.Replay.{play_records, misfit_from, feed, misfit_fed}
use Rattle.ic_replay.specs.declared.refusals.ReplayRefused.{ReplayRefused}
use Rattle.ic_replay.specs.declared.refusals.ReplayRefused.TheVariants.{Misfit, Memory}
use Rattle.ic_replay.specs.Applying.{IsNewMessage}

-- the record is done, and no number passes its limit; or one would, and nothing is done
abbrev pub IsDone : Program → ComId → ℕ → Option Msg → Vol → Record → Vol → Bool → Type 0
IsDone program c at content old r new true = (new ≡ record_in program c at content old r) × (numbers_fit new ≡ true)
IsDone program c at content old r new false = (new ≡ old) × (numbers_fit (record_in program c at content old r) ≡ false)

-- nothing is still to be played, or a message that is waited for, and is new, first
abbrev pub IsWaiting : Vol → List Record → Type 0
IsWaiting v [] = ⊤
IsWaiting v (Take from k stamp ∷ rs) = IsNewMessage v from k
IsWaiting v (r ∷ rs) = ⊥

-- a place among the records from `first` on, counted from the first of all
abbrev pub counted_from : ℕ → Option ℕ → Option ℕ
counted_from first place = option_map (λ i. first + i) place

-- the records from one on are played until one waits
pub record ArePlayed (program : Program) (c : ComId) (records : List Record) (old : Vol) (first : ℕ) (new : Vol) (next : ℕ) : Type 0 where
  pub playing : play_records program c old (drop first records) ≡ Some (record { vol = new; rest = drop next records })
  pub waiting : IsWaiting new (drop next records)
  pub limits : numbers_fit new ≡ true
  pub behind : first ≤ next
  pub within : next ≤ length records

-- why they aren't: the first misfit, counted from the first of all
abbrev pub StopPlaying : Program → ComId → List Record → Vol → ℕ → ReplayRefused → Type 0
StopPlaying program c records old first (Misfit i) = (play_records program c old (drop first records) ≡ None) × (counted_from first (misfit_from program c old (drop first records)) ≡ Some i) × (i < length records)
StopPlaying program c records old first Memory = ⊤

-- the record at a place is played with its message, and those behind it until one waits
pub record AreFed (program : Program) (c : ComId) (records : List Record) (m : Msg) (old : Vol) (place : ℕ) (new : Vol) (next : ℕ) : Type 0 where
  pub playing : feed program c old m (drop place records) ≡ Some (record { vol = new; rest = drop next records })
  pub waiting : IsWaiting new (drop next records)
  pub limits : numbers_fit new ≡ true
  pub behind : place < next
  pub within : next ≤ length records

-- why they aren't
abbrev pub StopFeeding : Program → ComId → List Record → Msg → Vol → ℕ → ReplayRefused → Type 0
StopFeeding program c records m old place (Misfit i) = (feed program c old m (drop place records) ≡ None) × (counted_from place (misfit_fed program c old m (drop place records)) ≡ Some i) × (i < length records)
StopFeeding program c records m old place Memory = ⊤
