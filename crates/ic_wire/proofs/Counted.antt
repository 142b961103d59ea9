-- A record that is read has numbers within their limits, so it can be written again.
use Rattle.std.specs.Prelude.{◌≤◌, List, [], ◌∷◌, Option, Some, None}
use Rattle.std.specs.List.{AllByRecursion}
use Rattle.ic_base.specs.declared.messages.AbortCause.{AbortCause}
use Rattle.ic_base.specs.declared.messages.AbortCause.TheVariants as causes
use Rattle.ic_base.specs.declared.record.Record.{Record}
use Rattle.ic_base.specs.declared.record.Record.TheVariants.{Take, TakeWhole, Input, Value, Outcome, Released, Shown, Checkpoint, Epoch, Decided}
use Rattle.def_log.specs.Spelling.{Fits, IsEnding}
use Rattle.ic_wire.specs.Placed.{IsCounted, IsCountedCause}

counted-cause : (abort : Option AbortCause) → IsEnding abort → IsCountedCause abort
counted-cause None h = tt
counted-cause (Some (causes.Need line)) h = tt
counted-cause (Some (causes.Held holder n)) h = h
counted-cause (Some (causes.Epoch old present)) h = h

pub counted : (r : Record) → Fits r → IsCounted r
counted (Take from k stamp) h = h
counted (TakeWhole from k stamp handler xs) h = (h.0, h.1, h.2)
counted (Input stamp handler xs) h = h.0
counted (Value n place s x) h = (h.0, h.2, h.3)
counted (Outcome stamp n abort) h = (h.0, h.1, counted-cause abort h.2)
counted (Released to k) h = h
counted (Shown m) h = h
counted (Checkpoint image) h = h.0
counted (Epoch epoch) h = h
counted (Decided stamp c n writes) h = (h.0, h.1, h.2, h.3)

pub all_counted : (rs : List Record) → AllByRecursion Fits rs → AllByRecursion IsCounted rs
all_counted [] h = tt
all_counted (r ∷ rs) h = (counted r h.0, all_counted rs h.1)
