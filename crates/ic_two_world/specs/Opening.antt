-- Where a world of moves begins, and why there is none.
use Rattle.std.specs.Prelude.{◌≡◌, ◌⊎◌, ◌≤◌, ⊤, ℕ, true, false, List, [], length, map, Option, Some, slice_get}
use Rattle.def_log.specs.Frame as frames
use Rattle.def_log.specs.Images.{LeavesJust}
use Rattle.def_two.specs.declared.script.TwoWhy.{TwoWhy}
use Rattle.def_two.specs.declared.script.TwoWhy.TheVariants as starts
use Rattle.def_two.specs.CoreSteps.{IsStarted2}
use Rattle.def_two.specs.Chief.{nothing_heard}
use Rattle.def_two.specs.Moves.{Openings}
use Rattle.def_two.specs.Refusals.{first_not_blank}
use Rattle.def_two.specs.World.{first_world2}
use Rattle.ic_disk.specs.Causes.{Rose}
use Rattle.ic_disk.specs.Disk.{Keeps}
use Rattle.ic_disk.specs.TornDisks.{Torn}
use Rattle.ic_disk.specs.declared.disk.Disk.{Ghosts}
use Rattle.ic_gate.specs.declared.refusals.LoadWhy.{LoadWhy}
use Rattle.ic_gate.specs.declared.refusals.LoadWhy.TheVariants as loads
use Rattle.ic_seat.specs.Seats.{site_of, heard_in, disk_in, is_up, IsSeatOf, Stands}
use Rattle.ic_disk.specs.Torns.{torn, file}
use Rattle.ic_seat.specs.declared.seat.Seat.{Seat}
use Rattle.ic_two_world.specs.Views.{seats_of, openings_of, print_of, world_of, state_of, KeepModel, IsGoing}
use Rattle.ic_two_world.specs.declared.opening.TwoStart.{TwoStart}
use Rattle.ic_two_world.specs.declared.world.TwoWorld.{TwoWorld}

-- why a component's log isn't made, as the refusal of a world
abbrev pub start_why : ℕ → LoadWhy → TwoWhy
start_why c (loads.Bad place) = starts.Failed c
start_why c (loads.Foreign kept) = starts.Failed c
start_why c loads.Failed = starts.Failed c
start_why c loads.Stopped = starts.Failed c
start_why c loads.Memory = starts.Memory

-- What a disk holds is as the definition says. A fault of a disk is told where no lower one isn't blank; want of memory may come before.
abbrev pub IsStartRefused2 : Option TwoWhy → TwoWhy → Type 0
IsStartRefused2 met (starts.NotBlank c) = met ≡ Some (starts.NotBlank c)
IsStartRefused2 met (starts.Failed c) = (k : ℕ) → met ≡ Some (starts.NotBlank k) → c ≤ k
IsStartRefused2 met starts.Memory = ⊤

module _ {D : Type 0} {d : Ghosts (Torn D)} where
  -- the disk below a component
  abbrev pub inner_in : Seat (Torn D) d → D
  inner_in x = (disk_in x).inner

  abbrev pub disks_under : List (Seat (Torn D) d) → List D
  disks_under xs = map inner_in xs

module _ {D : Type 0} (b : Ghosts D) where
  abbrev pub AllTell : List D → Type 0
  AllTell disks = (k : ℕ) (disk : D) → slice_get disks k ≡ Some disk → b.tells disk

  abbrev pub AllKeep : List D → Type 0
  AllKeep disks = (k : ℕ) (disk : D) → slice_get disks k ≡ Some disk → b.keeps disk

  -- what they read
  abbrev pub files_on : List D → List (List ℕ)
  files_on disks = map (λ disk. b.seen disk) disks

  -- where it tells its bytes, it has none
  abbrev pub IsBlank : D → Type 0
  IsBlank disk = b.tells disk → b.seen disk ≡ []

  abbrev pub AreBlank : List D → Type 0
  AreBlank disks = (k : ℕ) (disk : D) → slice_get disks k ≡ Some disk → IsBlank disk

  -- the disks are kept, each in its place
  pub record AreKept (olds news : List D) : Type 0 where
    pub count : length news ≡ length olds
    pub each : (k : ℕ) (old new : D) → slice_get olds k ≡ Some old → slice_get news k ≡ Some new → Keeps b old new

  -- the device failed, or stands stopped
  abbrev pub HasFailed : D → D → Type 0
  HasFailed old new = Rose (b.faults old) (b.faults new) ⊎ b.stopped new

  -- why a disk isn't taken as a blank one
  abbrev pub IsNoBlank : ℕ → D → D → TwoWhy → Type 0
  IsNoBlank c old new (starts.NotBlank k) = (k ≡ c) × (b.tells old → b.seen old ≡ [] → ⊥) × (b.tells old → b.seen new ≡ b.seen old)
  IsNoBlank c old new (starts.Failed k) = (k ≡ c) × HasFailed old new
  IsNoBlank c old new starts.Memory = ⊥

  -- the disk of this number failed
  abbrev pub IsStartFailed : List D → List D → TwoWhy → Type 0
  IsStartFailed olds news (starts.Failed c) = (old : D) × (new : D) × (slice_get olds c ≡ Some old) × (slice_get news c ≡ Some new) × HasFailed old new
  IsStartFailed olds news why = ⊤

  -- where a disk isn't blank they were only asked, and each reads as before
  abbrev pub StayBy : List D → List D → TwoWhy → Type 0
  StayBy olds news (starts.NotBlank c) = (k : ℕ) (old new : D) → slice_get olds k ≡ Some old → slice_get news k ≡ Some new → b.tells old → b.seen new ≡ b.seen old
  StayBy olds news why = ⊤

  -- why no world begins over these disks
  pub record IsNotStarted (olds news : List D) (why : TwoWhy) : Type 0 where
    pub refused : AllTell olds → IsStartRefused2 (first_not_blank 0 (files_on olds)) why
    pub failed : IsStartFailed olds news why
    pub stay : StayBy olds news why

  -- each disk is below a component that is down and may begin
  pub record AreOn (disks : List D) (xs : List (Seat (Torn D) (torn b))) : Type 0 where
    pub under : disks_under xs ≡ disks
    pub each : (k : ℕ) (x : Seat (Torn D) (torn b)) → slice_get xs k ≡ Some x → (is_up x ≡ false) × Stands (torn b) x

  -- it is up in its place over a log without a record, on a disk that was this one
  pub record IsBegun (openings : Openings) (print : List ℕ) (c : ℕ) (disk : D) (x : Seat (Torn D) (torn b)) : Type 0 where
    pub site : site_of x ≡ record { up = true; log = [] }
    pub heard : heard_in x ≡ nothing_heard
    pub stands : Stands (torn b) x
    pub seated : IsSeatOf openings c x
    pub fresh : b.tells disk → file b (disk_in x) ≡ frames.fresh print c
    pub leaves : b.keeps disk → LeavesJust ((torn b).may_leave (disk_in x)) (frames.fresh print c)

  -- all of these are up over such logs
  pub record AreBegun (openings : Openings) (print : List ℕ) (disks : List D) (xs : List (Seat (Torn D) (torn b))) : Type 0 where
    pub kept : AreKept disks (disks_under xs)
    pub each : (c : ℕ) (disk : D) (x : Seat (Torn D) (torn b)) → slice_get disks c ≡ Some disk → slice_get xs c ≡ Some x → IsBegun openings print c disk x

  -- one doesn't come up
  pub record FailsToBegin (disks : List D) (xs : List (Seat (Torn D) (torn b))) (why : TwoWhy) : Type 0 where
    pub kept : AreKept disks (disks_under xs)
    pub is : (c : ℕ) × (own : LoadWhy) × (why ≡ start_why c own)
    pub failed : IsStartFailed disks (disks_under xs) why

  -- a crash leaves of each disk just a log of no batches
  abbrev pub LeavesFresh : List ℕ → List (Seat (Torn D) (torn b)) → Type 0
  LeavesFresh print xs = (c : ℕ) (x : Seat (Torn D) (torn b)) → slice_get xs c ≡ Some x → LeavesJust ((torn b).may_leave (disk_in x)) (frames.fresh print c)

  -- all components are up over fresh logs
  pub record Starts2 (openings : Openings) (print : List ℕ) (disks : List D) (new : TwoWorld (Torn D) (torn b)) : Type 0 where
    pub world : world_of new ≡ first_world2 openings
    pub state : AllTell disks → IsStarted2 openings print (files_on disks) (state_of new)
    pub keeps : AllKeep disks → KeepModel (seats_of new)
    pub goes_on : IsGoing (torn b) new
    pub leaves : AllKeep disks → LeavesFresh print (seats_of new)
    pub kept : AreKept disks (disks_under (seats_of new))
    pub own : openings_of new ≡ openings
    pub named : print_of new ≡ print

  -- why none starts, with the disks handed back in order
  pub record FailsToStart2 (disks : List D) (refused : TwoStart D) : Type 0 where
    pub why : IsNotStarted disks refused.disks.items refused.why
    pub kept : AreKept disks refused.disks.items
