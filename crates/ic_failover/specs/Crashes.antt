-- What a crash leaves on the way of a run with a standby, over the disks of a call.
use Rattle.std.specs.Prelude.{◌≡◌, ℕ, false, List, [], ◌∷◌, ◌++◌, Option, Some}
use Rattle.ic_base.specs.declared.events.What.{What}
use Rattle.def_run.specs.CoreSteps.{is_full_at}
use Rattle.def_run.specs.SystemStates.{SystemState, Transition, last_state}
use Rattle.ic_disk.specs.declared.disk.Disk as disk
use Rattle.ic_disk.specs.declared.sink.Sink as sink
use Rattle.ic_failover.specs.Moments.{Moment, step_of, done_in, moment_pieces}
use Rattle.ic_failover.specs.Worlds.{as_texts}
use Rattle.ic_failover.specs.declared.texts.FailoverTexts.{FailoverTexts}
use Rattle.ic_run.specs.Crashes.{AreLeftAt}
use Rattle.ic_run.specs.Openings.{IsOpened, files_on, TheyTell}
use Rattle.ic_run.specs.Runs.{LeavesJustFiles, AreLeftFrom, AreBetween, Outlasts}
use Rattle.ic_run.specs.declared.opening.Opening.TheVariants.{Anew}

module _ {D : Type 0} (b : disk.Ghosts D) {K : Type 0} (k : sink.Ghosts K) (r : FailoverTexts) (disks now : List D) (before after : K) where
  -- A run began over blank disks and came through these moments. Each event and each takeover was done before its line was put, behind the
  -- lines of all moments before it, and outlasts a crash from then on; and a crash behind the opening leaves of each disk a log that lies on
  -- the way.
  pub record CameTo (p : SystemState) (moments : List Moment) (tried : Option What) : Type 0 where
    pub opened : TheyTell b r.program disks → IsOpened Anew r.program r.fingerprint (files_on b r.program disks) p
    -- the disks as the opening left them
    pub first : List D
    pub begins : AreBetween b r.program disks now p [] (done_in r.who moments) tried first
    pub outlast : (us ws : List Moment) (m : Moment) (v : Transition) → moments ≡ us ++ m ∷ ws → step_of r.who m ≡ Some v → Outlasts b k (as_texts r) Anew disks now before after (moment_pieces r 1 us) p (done_in r.who us) v (done_in r.who ws) tried

  -- the disks that are handed back hold what the state behind these moments has, and a crash leaves just that
  pub record HoldAll (p : SystemState) (moments : List Moment) : Type 0 where
    pub files : TheyTell b r.program disks → (last_state p (done_in r.who moments)).files ≡ files_on b r.program now
    pub durable : LeavesJustFiles b r.program now

  -- Behind these moments this event was tried; of a shipment and a takeover, which force nothing, this is a crash of their component. The disks
  -- before it: a crash of the whole machine since then leaves of all disks together the records that are forced, or these with all that the
  -- event forces, if it passes no limit.
  pub record WasTried (p : SystemState) (moments : List Moment) (what : What) : Type 0 where
    pub was : List D
    pub before_it : AreBetween b r.program disks now p (done_in r.who moments) [] (Some what) was
    pub within : TheyTell b r.program disks → is_full_at r.program (last_state p (done_in r.who moments)) what ≡ false → (images : List (List ℕ)) → AreLeftFrom b r.program was now images → AreLeftAt r.program (last_state p (done_in r.who moments)) (Some what) images
