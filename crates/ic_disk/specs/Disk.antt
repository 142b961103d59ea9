-- What calls over a disk keep of it, how many device calls they make, and what a crash within them leaves.
use Rattle.std.specs.Prelude.{◌≡◌, ◌↔◌, ◌+◌, ◌≤◌, ℕ, Bool, true, false, List, length, Some}
use Rattle.def_log.specs.Images.{LeavesJust, LeavesOnly}
use Rattle.ic_disk.specs.Stops.{Script, DeviceCall, IsSameStop, Obeys}
use Rattle.ic_disk.specs.declared.disk.Disk.{Ghosts}

module _ {D : Type 0} (d : Ghosts D) where
  -- calls keep the disk: it tells its bytes, and keeps the disk model, just where it did, and its count of faults hasn't fallen
  pub record Keeps (old new : D) : Type 0 where
    pub tells : d.tells old ↔ d.tells new
    pub keeps : d.keeps old ↔ d.keeps new
    pub later : d.faults old ≤ d.faults new

  -- No device call is made: the disk is kept, has the same bytes and no fault more, stands stopped just where it did, and its
  -- stop isn't touched.
  pub record Rests (old new : D) : Type 0 where
    pub tells : d.tells old ↔ d.tells new
    pub keeps : d.keeps old ↔ d.keeps new
    pub seen : d.tells old → d.seen new ≡ d.seen old
    pub settled : d.settled old ≡ true → d.settled new ≡ true
    pub faults : d.faults new ≡ d.faults old
    pub stopped : d.stopped old ↔ d.stopped new
    pub calls : d.calls new ≡ d.calls old
    pub stop : IsSameStop (d.tells old) (d.stop old) (d.stop new)

  -- These device calls are made, in this order, and no other: all of them where the call is done, and else some first ones, none
  -- of them behind the call at which a stop is set; and they come to what a stop that is set lets them come to.
  pub record Makes (calls : List DeviceCall) (ok : Bool) (failed : Type 0) (old new : D) : Type 0 where
    pub all : ok ≡ true → d.calls new ≡ d.calls old + length calls
    pub most : d.calls new ≤ d.calls old + length calls
    pub by_stop : (s : Script) → (d.stop old).script ≡ Some s → s.reached ≡ false → 1 ≤ s.left → d.calls new ≤ d.calls old + s.left
    pub stop : Obeys (d.tells old) failed calls (d.stop old) ok (d.seen new) (d.stop new)

  -- where the disk keeps the disk model, a crash at each moment of the calls, and behind them, leaves bytes that have P
  pub record CrashLeaves (old new : D) (P : List ℕ → Type 0) : Type 0 where
    pub any_moment : d.keeps old → LeavesOnly d.moment d.left_since old new P
    pub behind : d.keeps old → (image : List ℕ) → d.may_leave new image → P image

  -- these bytes stand on the disk: it reads them, nothing waits for a sync, and a crash leaves just what is read
  pub record IsSynced (old new : D) (bytes : List ℕ) : Type 0 where
    pub reads : d.tells old → d.seen new ≡ bytes
    pub settled : d.settled new ≡ true
    pub durable : d.keeps old → LeavesJust (d.may_leave new) (d.seen new)
