-- The records of a log of the former format, or the place at which its bytes are refused.
use Rattle.std.specs.Prelude.{ℕ, List, Result, Ok}
use Rattle.ic_base.specs.declared.record.Record.{Record}
use Rattle.def_log.specs.Log.{◌>>=◌, Placed, placed_in, records_in}
use Rattle.def_former.specs.Frame.{former_frame_of}

-- The records with their places, or the place at which the bytes are refused: the whole frame is looked at first, then the records.
abbrev pub placed_former_log_of : List ℕ → Result (List Placed) ℕ
placed_former_log_of bytes = do
  bs ← former_frame_of bytes
  placed_in bs

-- the records of a log of the former format, or the place at which its bytes are refused
abbrev pub former_log_of : List ℕ → Result (List Record) ℕ
former_log_of bytes = do
  rs ← placed_former_log_of bytes
  Ok (records_in rs)
