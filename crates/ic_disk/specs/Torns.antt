-- A disk with a stop, by the words of the disk below it.
use Rattle.std.specs.Prelude.{◌≡◌, ◌⊎◌, ◌-◌, Bool, true, false, not, ◌&&◌, min, List, ℕ, Option, Some, None}
use Rattle.ic_base.specs.declared.events.Fill.TheVariants.{Old}
use Rattle.ic_base.specs.declared.events.Stop.{Stop}
use Rattle.def_log.specs.Torn.{all_written}
use Rattle.ic_disk.specs.Causes.{Rose}
use Rattle.ic_disk.specs.Stops.{Script}
use Rattle.ic_disk.specs.TornDisks.{Torn, TornBy, need, is_none_held, shown}
use Rattle.ic_disk.specs.declared.disk.Disk.{Ghosts}

abbrev pub torn : {D : Type 0} → Ghosts D → Ghosts (Torn D)
torn d = record {
  tells = λ t. d.tells t.inner;
  seen = λ t. all_written (d.seen t.inner) t.held;
  keeps = λ t. d.keeps t.inner;
  may_leave = λ t image. (image ≡ all_written (d.seen t.inner) t.held) ⊎ TornBy t.held (d.may_leave t.inner) image;
  moment = λ t. d.moment t.inner;
  left_since = λ t. d.left_since t.inner;
  settled = λ t. is_none_held t.held && d.settled t.inner;
  faults = λ t. d.faults t.inner;
  spare = λ t. min t.room (d.spare t.inner - need t.held);
  stopped = λ t. (t.stopped ≡ true) ⊎ d.stopped t.inner;
  calls = λ t. t.made;
  calls_within = λ t. d.calls t.inner;
  stop = λ t. record { script = shown t.stopped t.script; synced = d.seen t.inner; waiting = t.held };
}

-- a stop is set, and wasn't reached
abbrev pub is_waiting : Option Script → Bool
is_waiting None = false
is_waiting (Some s) = not s.reached

-- A stop is set on a disk that wasn't reached, so the disk doesn't stand stopped by one.
abbrev pub is_working : {D : Type 0} → Ghosts D → D → Bool
is_working d disk = is_waiting (d.stop disk).script

-- the stop that is set where none is asked for: it is never reached
abbrev pub or_never : Option Stop → Stop
or_never None = record { call = 0; keep = 0; fill = Old }
or_never (Some stop) = stop

module _ {D : Type 0} (b : Ghosts D) where
  -- what the disk reads
  abbrev pub file : Torn D → List ℕ
  file x = (torn b).seen x

  -- the disk has failed, or the disk below it stands stopped
  abbrev pub HasFault : Torn D → Torn D → Type 0
  HasFault old new = Rose (b.faults old.inner) (b.faults new.inner) ⊎ b.stopped new.inner
