-- What the recovery of a Tcom comes to over the disk of a component that is down, whose stop doesn't lie within the load.
use Rattle.std.specs.Prelude.{◌≡◌, ◌⊎◌, ◌<◌, ◌≤◌, ℕ, ◌+◌, ◌-◌, true, false, List, [], ◌∷◌, Some, Result, Ok, Err}
use Rattle.ic_base.specs.declared.events.Stop.{Stop}
use Rattle.ic_base.specs.declared.messages.ComId.{ComId}
use Rattle.ic_base.specs.declared.record.Record.{Record}
use Rattle.ic_base.specs.declared.record.Record.TheVariants.{Epoch}
use Rattle.ic_base.specs.declared.scenario.Program.{Program}
use Rattle.def_log.specs.Changes.{IsOfSame}
use Rattle.def_log.specs.Log.{log_of}
use Rattle.def_log.specs.Sizes.{size_in}
use Rattle.def_log.specs.Gated.{log_writes}
use Rattle.def_log.specs.Stops.{stop_torn}
use Rattle.def_step.specs.Tcom.{Book, book_of, lacks_epoch, recover_tcom}
use Rattle.ic_disk.specs.TornDisks.{Torn}
use Rattle.ic_disk.specs.declared.disk.Disk.{Ghosts}
use Rattle.ic_gate.specs.declared.refusals.LoadRefused.{LoadRefused}
use Rattle.ic_tcom.specs.Recovering as tcom_recovery
use Rattle.ic_tcom.specs.Views.{component_of, com_of, disk_of, is_closed}
use Rattle.ic_tcom.specs.declared.tcom.Tcom.{Tcom}
use Rattle.ic_node.specs.ComingUp.{fails_to_come_up}
use Rattle.ic_disk.specs.Torns.{file, torn, is_working}
use Rattle.ic_node.specs.declared.up.Recovery.{Recovery}
use Rattle.ic_node.specs.declared.up.Recovery.TheVariants.{Up, Cut}

module _ {D : Type 0} (b : Ghosts D) where
  -- why a Tcom doesn't come up: for its frame, a misfit or the want of a next epoch, or for its disk
  abbrev pub TcomFails : Program → ComId → Torn D → List ℕ → LoadRefused (Torn D) → Type 0
  TcomFails program c old print refused = fails_to_come_up b (λ bytes place. tcom_recovery.bad_place program c bytes ≡ Some place) old print refused.disk refused.why

  -- the stop cut the force of the next epoch's record off, and left its image
  pub record TcomIsCut (program : Program) (c : ComId) (old : Torn D) (stop : Stop) (new : Torn D) : Type 0 where
    pub records : List Record
    pub size : ℕ
    pub book : Book
    pub gives : book_of program c records ≡ Some book
    pub room : lacks_epoch size book ≡ false
    pub read : b.tells old.inner → log_of (file b old) ≡ Ok records
    pub sized : b.tells old.inner → size_in (file b old) ≡ Some size
    pub later : 3 < stop.call
    pub within : stop.call ≤ 7
    pub image : b.tells old.inner → file b new ≡ stop_torn stop 3 (file b old) (log_writes (file b old) (size - 1) (Epoch (book.epoch + 1) ∷ []))
    pub halted : (new.stopped ≡ true) ⊎ b.stopped new.inner

  module _ {d : Ghosts (Torn D)} where
    -- the Tcom that the log on the disk stands for, in the next epoch, whose record is forced; the stop isn't reached
    pub record TcomIsUp (program : Program) (c : ComId) (old : Torn D) (stop : Stop) (new : Tcom (Torn D) d) : Type 0 where
      pub records : List Record
      pub size : ℕ
      pub step : recover_tcom program c size records ≡ Some (component_of new)
      pub read : b.tells old.inner → log_of (file b old) ≡ Ok records
      pub sized : b.tells old.inner → size_in (file b old) ≡ Some size
      pub log : b.tells old.inner → log_of (file b (disk_of new)) ≡ Ok (component_of new).records
      pub whose : b.tells old.inner → IsOfSame (file b old) (file b (disk_of new))
      pub later : 1 ≤ stop.call → 7 < stop.call
      pub which : com_of new ≡ c
      pub is_open : is_closed new ≡ false
      pub works : is_working (torn b) (disk_of new) ≡ true

    -- it is up, or the stop cut it off
    abbrev pub TcomEnds : Program → ComId → Torn D → Stop → Recovery (Torn D) d → Type 0
    TcomEnds program c old stop (Up t) = TcomIsUp program c old stop t
    TcomEnds program c old stop (Cut disk) = TcomIsCut program c old stop disk

-- its disk, which is handed back where there is no component
abbrev pub tcom_disk : {D : Type 0} {d : Ghosts D} → Result (Recovery D d) (LoadRefused D) → D
tcom_disk (Ok (Up t)) = disk_of t
tcom_disk (Ok (Cut disk)) = disk
tcom_disk (Err refused) = refused.disk
