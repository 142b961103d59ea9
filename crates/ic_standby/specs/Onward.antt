-- Records that are all played from a state on, each with its message at hand.
use Rattle.std.specs.Prelude.{◌≡◌, ℕ, ◌<◌, ⊤, true, false, List, length, drop, Option, Some, None}
use Rattle.ic_base.specs.declared.messages.ComId.{ComId}
use Rattle.ic_base.specs.declared.messages.Msg.{Msg}
use Rattle.ic_base.specs.declared.scenario.Program.{Program}
use Rattle.ic_base.specs.declared.record.Record.{Record}
use Rattle.def_state.specs.Hist.{Contents}
use Rattle.def_state.specs.Vol.{Vol, numbers_fit}
use Rattle.def_standby.specs.Standbys.{content_of, is_missing, play_all, stops_at}
use Rattle.ic_replay.specs.declared.refusals.ReplayRefused.{ReplayRefused}
use Rattle.ic_replay.specs.declared.refusals.ReplayRefused.TheVariants.{Misfit, Memory}
use Rattle.ic_replay.specs.Preparing.{has_content}
use Rattle.ic_replay.specs.Playing.{counted_from}

-- the record takes no message by identity, or this one, which is at hand
pub record IsAtHand (contents : Contents) (r : Record) (content : Option Msg) : Type 0 where
  pub there : is_missing contents r ≡ false
  pub is : content_of contents r ≡ content
  pub has : has_content content r ≡ true

-- the records behind the first `have` are all played, each Take with its content
pub record PlaysThrough (program : Program) (c : ComId) (contents : Contents) (old : Vol) (have : ℕ) (records : List Record) (new : Vol) : Type 0 where
  pub playing : play_all program c contents old (drop have records) ≡ Some new
  pub limits : numbers_fit new ≡ true

-- why they aren't: the first that is a misfit or has no content, counted from the first of all
abbrev pub StopsShort : Program → ComId → Contents → Vol → ℕ → List Record → ReplayRefused → Type 0
StopsShort program c contents v have records (Misfit i) =
    (play_all program c contents v (drop have records) ≡ None) × (counted_from have (stops_at program c contents v (drop have records)) ≡ Some i) × (i < length records)
StopsShort program c contents v have records Memory = ⊤
