-- The scene has all the facts of the invariant, in its logs and in a world that is up.
use Rattle.std.specs.Prelude.{[]}
use Rattle.std.specs.declared.alloc.Global.{Global}
use Rattle.def_facts.specs.Sound.{AreSound}
use Rattle.def_facts.specs.World.{LogsExplained}
use Rattle.law_found.specs.Trade.{trade, trade_logs, trade_past}

-- the logs, with all that was put out and received
abbrev pub LogsAreExplained : Type 0
LogsAreExplained = (a : Global) → LogsExplained (trade a) [] trade_logs trade_logs trade_past

-- so they are sound
abbrev pub LogsAreSound : Type 0
LogsAreSound = (a : Global) → AreSound (trade a) trade_logs
