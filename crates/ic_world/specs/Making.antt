-- How the components of a world are made over its disks, one after another.
use Rattle.std.specs.Prelude.{◌≡◌, ◌⊎◌, ◌++◌, ℕ, ◌<◌, true, false, List, [], ◌∷◌, length, map, drop, Option, Some, None, is_some, slice_get, Ok, Err}
use Rattle.ic_base.specs.declared.messages.ComId.{ComId}
use Rattle.ic_base.specs.declared.record.Record.{Record}
use Rattle.ic_base.specs.declared.refusals.StartWhy.{StartWhy}
use Rattle.ic_base.specs.declared.refusals.StartWhy.TheVariants as starts
use Rattle.ic_base.specs.declared.scenario.Component.{Component as Declared}
use Rattle.ic_base.specs.declared.scenario.Program.{Program}
use Rattle.def_log.specs.Frame.{IsForeign, fresh}
use Rattle.def_log.specs.Loads.{placed_log_for}
use Rattle.def_log.specs.Log.{log_of}
use Rattle.def_run.specs.Openings.{IsStartRefused, if_disk, unless_blank, start_refusal, found_refusal}
use Rattle.def_run.specs.SystemStates.{KeepsLog, file_in, has_disk}
use Rattle.def_step.specs.World.{Down, External, first_node}
use Rattle.ic_disk.specs.Causes.{Rose}
use Rattle.ic_disk.specs.Disk.{Keeps}
use Rattle.ic_disk.specs.TornDisks.{Torn}
use Rattle.ic_disk.specs.declared.disk.Disk.{Ghosts}
use Rattle.ic_gate.specs.Refusals.{IsNotForeign}
use Rattle.ic_gate.specs.declared.refusals.LoadRefused.{LoadRefused}
use Rattle.ic_gate.specs.declared.refusals.LoadWhy.{LoadWhy}
use Rattle.ic_gate.specs.declared.refusals.LoadWhy.TheVariants as loads
use Rattle.ic_disk.specs.Torns.{torn}
use Rattle.ic_node.specs.Views as parts
use Rattle.ic_node.specs.declared.component.Component.{Component as Part}
use Rattle.ic_world.specs.Opening.{disks_in, disks_under, places, start_why, AllTell, files_on, EachMeets, LeavesNoMore, IsStartFailed, AllStay, FailsToOpen}
use Rattle.ic_world.specs.Views.{components_of, world_of, print_of, received_of, played_of, is_over}
use Rattle.ic_world.specs.declared.making.Beginning.{Beginning}
use Rattle.ic_world.specs.declared.making.Beginning.TheVariants.{Fresh, Found}
use Rattle.ic_world.specs.declared.opening.StartRefused.{StartRefused}
use Rattle.ic_world.specs.declared.world.World.{World}

module _ {D : Type 0} (b : Ghosts D) where
  -- where it tells its bytes, it has none
  abbrev pub IsBlank : D → Type 0
  IsBlank disk = b.tells disk → b.seen disk ≡ []

  -- none of these that tells its bytes has one, each reads as it did before, and nothing was told of one
  pub record AreBlank (program : Program) (old new : List D) : Type 0 where
    pub blank : (k : ℕ) (disk : D) → slice_get new k ≡ Some disk → IsBlank disk
    pub same : AllTell b old → map (λ disk. b.seen disk) new ≡ map (λ disk. b.seen disk) old
    pub untold : AllTell b old → start_refusal program (files_on b program old) ≡ None

  -- why a disk isn't taken as a blank one
  abbrev pub IsNoBlank : ComId → D → D → StartWhy → Type 0
  IsNoBlank c old new (starts.NotBlank d) = b.tells old → (unless_blank c (b.seen old) ≡ Some (starts.NotBlank d)) × (b.seen new ≡ b.seen old)
  IsNoBlank c old new (starts.Failed d) = (d ≡ c) × (Rose (b.faults old) (b.faults new) ⊎ b.stopped new) × (b.tells old → b.settled old ≡ true → b.seen new ≡ b.seen old)
  IsNoBlank c old new why = ⊥

  -- why not all are taken as blank, and what stands then
  pub record IsNoneBlank (program : Program) (old new : List D) (why : StartWhy) : Type 0 where
    pub met : AllTell b old → IsStartRefused (start_refusal program (files_on b program old)) why
    pub failed : IsStartFailed b program old new why
    pub stay : AllStay b why old new

  -- the disk is kept, and a crash meanwhile leaves what it might have left before
  abbrev pub IsOnlyRead : D → D → Type 0
  IsOnlyRead old new = Keeps b old new × LeavesNoMore b old new

  -- the disks of the first components were asked, the first ones of these, and are blank
  pub record AreAsked (program : Program) (disks : List D) (i next : ℕ) (now : List D) : Type 0 where
    pub read : EachMeets IsOnlyRead disks now
    pub left : drop i (places program.components disks) ≡ places (drop i program.components) (drop next disks)
    pub enough : length (drop next disks) ≡ disks_in (drop i program.components)
    pub later : drop next now ≡ drop next disks
    pub blank : (k : ℕ) (disk : D) → k < next → slice_get disks k ≡ Some disk → IsBlank disk
    pub still : (k : ℕ) (disk : D) → k < next → slice_get now k ≡ Some disk → IsBlank disk
    pub untold : AllTell b disks → (c : ComId) → c.0 < i → if_disk program c (unless_blank c (file_in (files_on b program disks) c)) ≡ None

  -- a component may begin so over this disk
  abbrev pub MayBegin : Beginning → D → Type 0
  MayBegin Fresh disk = IsBlank disk
  MayBegin Found disk = Unit {0}

  abbrev pub MayBeginAt : Beginning → Option D → Type 0
  MayBeginAt way None = Unit {0}
  MayBeginAt way (Some disk) = MayBegin way disk

  abbrev pub MayBeginOver : Beginning → List D → Type 0
  MayBeginOver way disks = (k : ℕ) (disk : D) → slice_get disks k ≡ Some disk → MayBegin way disk

  -- the disk is kept; and where its log is found, it is only read
  abbrev pub KeepsBy : Beginning → D → D → Type 0
  KeepsBy Fresh old new = Keeps b old new
  KeepsBy Found old new = IsOnlyRead old new

  -- it is up as its program declares it, over a fresh log
  pub record IsFresh (program : Program) (c : ComId) (print : List ℕ) (x : Part (Torn D) (torn b)) : Type 0 where
    pub first : (declared : Declared) → slice_get program.components c.0 ≡ Some declared → parts.node_of x ≡ first_node program c declared.kind
    pub fresh : parts.Tells x → parts.file_of x ≡ fresh print c.0

  -- it is down over the log that this disk holds
  pub record IsFoundOn (old : D) (x : Part (Torn D) (torn b)) : Type 0 where
    pub records : List Record
    pub down : parts.node_of x ≡ Down records
    pub read : b.tells old → log_of (b.seen old) ≡ Ok records
    pub bytes : b.tells old → parts.file_of x ≡ b.seen old

  abbrev pub BeginsAs : Beginning → Program → ComId → List ℕ → D → Part (Torn D) (torn b) → Type 0
  BeginsAs Fresh program c print old x = IsFresh program c print x
  BeginsAs Found program c print old x = IsFoundOn old x

  -- the component begins so over this disk
  pub record IsMadeOn (way : Beginning) (program : Program) (c : ComId) (print : List ℕ) (old : D) (x : Part (Torn D) (torn b)) : Type 0 where
    pub disk : Torn D
    pub which : parts.com_of x ≡ c
    pub going : parts.is_over x ≡ false
    pub has : parts.disk_of x ≡ Some disk
    pub kept : KeepsBy way old disk.inner
    pub logs : parts.Tells x → KeepsLog print c (parts.file_of x) (Some (parts.node_of x))
    pub begins : BeginsAs way program c print old x

  -- it is outside, and has no disk
  pub record IsOutside (c : ComId) (x : Part (Torn D) (torn b)) : Type 0 where
    pub node : parts.node_of x ≡ External
    pub which : parts.com_of x ≡ c
    pub going : parts.is_over x ≡ false

  abbrev pub IsMadeOver : Beginning → Program → ComId → List ℕ → Option D → Part (Torn D) (torn b) → Type 0
  IsMadeOver way program c print None x = IsOutside c x
  IsMadeOver way program c print (Some old) x = IsMadeOn way program c print old x

  -- the disk failed, or stands stopped itself; or memory is wanting
  abbrev pub is_fault : D → D → LoadWhy → Type 0
  is_fault old new (loads.Bad place) = ⊥
  is_fault old new (loads.Foreign kept) = ⊥
  is_fault old new loads.Failed = Rose (b.faults old) (b.faults new)
  is_fault old new loads.Stopped = b.stopped new
  is_fault old new loads.Memory = Unit {0}

  -- what the disk holds is the cause, or one of these
  abbrev pub is_log_cause : ComId → List ℕ → D → D → LoadWhy → Type 0
  is_log_cause c print old new (loads.Bad place) = b.tells old → (placed_log_for c.0 (b.seen old) ≡ Err place) × IsNotForeign print (b.seen old)
  is_log_cause c print old new (loads.Foreign kept) = b.tells old → IsForeign print (b.seen old) kept
  is_log_cause c print old new why = is_fault old new why

  abbrev pub is_cause : Beginning → ComId → List ℕ → D → D → LoadWhy → Type 0
  is_cause Fresh c print old new why = is_fault old new why
  is_cause Found c print old new why = is_log_cause c print old new why

  -- why no component is made over this disk, which is kept; one outside is always made
  abbrev pub FailsOver : Beginning → ComId → List ℕ → Option D → LoadRefused (Torn D) → Type 0
  FailsOver way c print None refused = ⊥
  FailsOver way c print (Some old) refused = KeepsBy way old refused.disk.inner × is_cause way c print old refused.disk.inner refused.why

  -- the component in this place is the one made there
  pub record IsPlaced (way : Beginning) (program : Program) (print : List ℕ) (disks : List D) (c : ComId) (x : Part (Torn D) (torn b)) : Type 0 where
    pub place : Option D
    pub at : slice_get (places program.components disks) c.0 ≡ Some place
    pub has : is_some place ≡ has_disk program c
    pub made : IsMadeOver way program c print place x

  -- the first components are made, over the first of the disks, and these are left
  pub record Stands (way : Beginning) (program : Program) (print : List ℕ) (disks : List D) (made : List (Part (Torn D) (torn b))) (rest : List D) : Type 0 where
    pub each : (c : ComId) (x : Part (Torn D) (torn b)) → slice_get made c.0 ≡ Some x → IsPlaced way program print disks c x
    pub left : drop (length made) (places program.components disks) ≡ places (drop (length made) program.components) rest
    pub enough : length rest ≡ disks_in (drop (length made) program.components)
    pub kept : EachMeets (KeepsBy way) disks (disks_under made ++ rest)
    pub untouched : drop (length (disks_under made)) disks ≡ rest

  -- all are made
  pub record AreMade (way : Beginning) (program : Program) (print : List ℕ) (disks : List D) (made : List (Part (Torn D) (torn b))) : Type 0 where
    pub count : length made ≡ length program.components
    pub kept : EachMeets (KeepsBy way) disks (disks_under made)
    pub each : (c : ComId) (x : Part (Torn D) (torn b)) → slice_get made c.0 ≡ Some x → IsPlaced way program print disks c x

  abbrev pub refusal_over : Beginning → Program → List ℕ → List D → Option StartWhy
  refusal_over Fresh program print disks = start_refusal program (files_on b program disks)
  refusal_over Found program print disks = found_refusal program print (files_on b program disks)

  -- the component c isn't made, and this is why none begins
  pub record FailsAt (way : Beginning) (program : Program) (print : List ℕ) (disks : List D) (c : ComId) (refused : LoadRefused (Torn D)) (made : List (Part (Torn D) (torn b))) (rest : List D) : Type 0 where
    pub why : AllTell b disks → IsStartRefused (refusal_over way program print disks) (start_why c refused.why)
    pub failed : IsStartFailed b program disks (disks_under made ++ refused.disk.inner ∷ rest) (start_why c refused.why)
    pub kept : EachMeets (KeepsBy way) disks (disks_under made ++ refused.disk.inner ∷ rest)

  -- why none begins, and how the disks are kept meanwhile
  pub record FailsToMake (way : Beginning) (program : Program) (print : List ℕ) (disks : List D) (refused : StartRefused D) : Type 0 where
    pub opens : FailsToOpen b program (refusal_over way program print disks) disks refused
    pub kept : EachMeets (KeepsBy way) disks refused.disks.items

  -- a world of components that were made, with nothing put out, received or shown
  pub record Opens (way : Beginning) (program : Program) (print : List ℕ) (disks : List D) (new : World (Torn D) (torn b)) : Type 0 where
    pub components : AreMade way program print disks (components_of new)
    pub packets : (world_of new).packets ≡ []
    pub waiting : (world_of new).waiting ≡ []
    pub showings : (world_of new).showings ≡ []
    pub is_own : print_of new ≡ print
    pub received : received_of new ≡ 0
    pub played : played_of new ≡ 0
    pub going : is_over new ≡ false
