-- The logs of a bank, a buyer and a clerk as the files of a run that is taken up: a purchase that committed, with a checkpoint behind it, and a
-- booking that was aborted.
use Rattle.std.specs.Prelude.{◌≡◌, ℕ, List, [], ◌∷◌, length, None}
use Rattle.std.specs.declared.alloc.Global.{Global}
use Rattle.def_log.specs.Frame.{at_rest}
use Rattle.def_log.specs.Laws.{IsBytes}
use Rattle.def_log.specs.Loads.{payload_of}
use Rattle.def_run.specs.Openings.{TakesUpSound, found_world, found_refusal}
use Rattle.def_run.specs.SystemStates.{SystemState}
use Rattle.law_found.specs.SceneWorlds.{trade_world}
use Rattle.law_found.specs.Trade.{trade, bank_log, buyer_log, clerk_log, trade_logs}
use Rattle.law_run.specs.ProgramBytes.{HasBytes}
use Rattle.law_run.specs.WorldBytes.{WorldFits}

-- each log in one batch
abbrev pub files : List ℕ → List (List ℕ)
files f = at_rest f 0 [] (payload_of bank_log ∷ []) ∷ at_rest f 1 [] (payload_of buyer_log ∷ []) ∷ at_rest f 2 [] (payload_of clerk_log ∷ []) ∷ []

-- all components down over them
abbrev pub found : Global → List ℕ → SystemState
found a f = record { world = found_world (trade a) trade_logs; files = files f }

-- with whatever fingerprint f of 32 bytes: no run is refused over these files, and it begins soundly
abbrev pub FilesAreTakenUp : Type 0
FilesAreTakenUp = (a : Global) (f : List ℕ) → length f ≡ 32 → IsBytes f → (found_refusal (trade a) f (files f) ≡ None) × TakesUpSound (trade a) f (files f) (found a f)

-- each number of the program has its bytes, and so has each record, packet and value of the world in which all components are up over these logs
abbrev pub NumbersHaveBytes : Type 0
NumbersHaveBytes = (a : Global) → HasBytes (trade a) × WorldFits trade_world
