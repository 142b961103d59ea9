-- What a step makes of an engine.
use Rattle.std.specs.Prelude.{◌≡◌, ℕ, ◌<◌, ◌≤◌, ◌++◌, ◌∷◌, [], List, nat_lt, ◌||◌, Bool, true, false, IsTrue, Option, Some, option_to_list, cond, ◌==◌, ⊤}
use Rattle.ic_base.specs.declared.messages.ComId.{ComId}
use Rattle.ic_base.specs.declared.messages.Session.{Session}
use Rattle.ic_base.specs.declared.record.Record.{Record}
use Rattle.ic_base.specs.declared.limits.TheConstants.{GREATEST_NUMBER}
use Rattle.def_step.specs.Tcom.{Tcom, Served, unless_below, unless_decided, on_commit, of_old_epoch, sitting_in}
use Rattle.ic_tcom.specs.declared.answers.Serving.{Serving}
use Rattle.ic_tcom.specs.declared.answers.Serving.TheVariants.{Answered, Decides, Full}
use Rattle.def_state.specs.Names.{number_of}
use Rattle.ic_tcom.specs.EngineState.{EngineState, over, entered, Keeps, IsDecision}

abbrev pub is_past : Tcom → Bool
is_past x = nat_lt GREATEST_NUMBER x.book.clock || nat_lt GREATEST_NUMBER x.counter

-- an answer is given at once; a decision is only told, with its record and its answer; where a limit would be passed nothing is done
abbrev pub CarriesOut : (List Record → Served) → EngineState → EngineState → Serving → Type 0
CarriesOut step old new (Answered puts) = (records : List Record) → step records ≡ record { tcom = over records new; adds = []; puts = option_to_list puts }
CarriesOut step old new (Decides r answer) =
    (new ≡ old) × IsDecision old r × ((records : List Record) → step records ≡ record { tcom = over (records ++ r ∷ []) (entered old r); adds = r ∷ []; puts = answer ∷ [] })
CarriesOut step old new Full = (new ≡ old) × ((records : List Record) → IsTrue (is_past (step records).tcom))

-- a Commit, where the transaction is decided so, if it is
abbrev pub commits : ComId → ComId → ℕ → ℕ → Session → ℕ → Tcom → Option ℕ → Served
commits t c n place session stamp x decided =
    unless_below c n x
    (unless_decided t c n place (Some session) x decided
    (cond (session.epoch == x.book.epoch)
    (on_commit t place stamp session x (sitting_in x session c n))
    (of_old_epoch t c n place session x)))

-- the same over each log whose decisions it holds
abbrev pub CarriesOutOverItsLog : (List Record → Served) → EngineState → EngineState → Serving → Type 0
CarriesOutOverItsLog step old new (Answered puts) = (records : List Record) → Keeps records old → step records ≡ record { tcom = over records new; adds = []; puts = option_to_list puts }
CarriesOutOverItsLog step old new (Decides r answer) =
    (new ≡ old) × IsDecision old r
    × ((records : List Record) → Keeps records old → step records ≡ record { tcom = over (records ++ r ∷ []) (entered old r); adds = r ∷ []; puts = answer ∷ [] })
CarriesOutOverItsLog step old new Full = (new ≡ old) × ((records : List Record) → Keeps records old → IsTrue (is_past (step records).tcom))

-- the book is as it was, and no least number falls
abbrev pub GoesOn : EngineState → EngineState → Type 0
GoesOn old new = (new.book ≡ old.book) × ((c : ComId) → number_of 1 old.least c ≤ number_of 1 new.least c)

-- a decision that is told can be entered without memory
abbrev pub HasRoomFor : ℕ → Serving → Type 0
HasRoomFor spare (Answered puts) = ⊤
HasRoomFor spare (Decides r answer) = 0 < spare
HasRoomFor spare Full = ⊤

abbrev pub is_full : Serving → Bool
is_full (Answered puts) = false
is_full (Decides r answer) = false
is_full Full = true
