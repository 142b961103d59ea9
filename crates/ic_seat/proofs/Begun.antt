-- A component that begins over a log that is made on its disk, on which a stop is set that is never reached.
use Rattle.std.proofs.Common.{◌≡◌, refl, sym, subst, true, false, ℕ, List, Option, Some, None}
use Rattle.std.specs.Prelude.{Result, Ok, Err, IfOk, IfErr, is_ok}
use Rattle.ic_disk.specs.Armings.{set_by}
use Rattle.ic_disk.specs.Causes.{Rose}
use Rattle.ic_disk.specs.Disk.{Keeps, Makes}
use Rattle.ic_disk.specs.Stops.{DeviceCall}
use Rattle.ic_disk.specs.TornDisks.{Torn}
use Rattle.ic_disk.specs.declared.disk.Disk.{Ghosts}
use Rattle.ic_disk.proofs.Disks.{makes_refused}
use Rattle.ic_gate.specs.Calls.{IsFault}
use Rattle.ic_gate.specs.Creating.{create_calls}
use Rattle.ic_gate.specs.Logs as logs
use Rattle.ic_gate.specs.declared.log.Log.{Log}
use Rattle.ic_gate.specs.declared.refusals.LoadRefused.{LoadRefused}
use Rattle.ic_gate.specs.declared.refusals.LoadWhy.{LoadWhy}
use Rattle.ic_gate.specs.declared.refusals.LoadWhy.TheVariants as load
use Rattle.def_two.specs.Moves.{Openings}
use Rattle.def_two.specs.declared.moves.Record2.{Record2}
use Rattle.ic_two.specs.Books.{IsForMemory}
use Rattle.ic_seat.specs.Opening.{IsFirst, IsMade, fails_by, Starts, FailsToStart}
use Rattle.ic_seat.specs.Recovering.{disk_loaded}
use Rattle.ic_seat.specs.Seats.{disk_in, Stands}
use Rattle.ic_disk.specs.Torns.{torn, or_never, file}
use Rattle.ic_seat.specs.declared.seat.Seat.{Seat}
use Rattle.ic_seat.specs.declared.seat.Seat.TheVariants.{Down}
use Rattle.ic_disk.proofs.Armed.{IsArmed, works_runs, none_held, works_on, never_reached, stopped_below, kept_by}

pub made_calls : {D : Type 0} (d : Ghosts D) (cs : List DeviceCall) (disk : D) (log : Log D d) (openings : Openings) (c : ℕ) (r : Result (Seat D d) (LoadRefused D)) → Makes d cs true ⊥ disk (logs.disk_of log)
    → IfOk r (IsFirst openings c log) → IfErr r (IsForMemory log) → Makes d cs (is_ok r) (IsFault r) disk (disk_loaded r)
made_calls d cs disk log openings c (Ok x) made first none = subst (λ y. Makes d cs true ⊥ disk y) (sym first.disk) made
made_calls d cs disk log openings c (Err refused) made none memory = subst (λ y. Makes d cs false (refused.why ≡ load.Failed) disk y) (sym memory.disk) (makes_refused (refused.why ≡ load.Failed) made)

module _ {D : Type 0} (b : Ghosts D) (openings : Openings) (c : ℕ) (print : List ℕ) (old : Torn D) (kept : Option (List Record2)) (stands : Stands (torn b) (Down old kept)) (a : Torn D) (set1 : a ≡ record old { script = Some (set_by (or_never None)) }) where
  armed : IsArmed b (or_never None) old a
  armed = record { set = set1; runs = works_runs b old stands.works }

  tells1 : b.tells old.inner → b.tells a.inner
  tells1 told = subst (λ (x : Torn D). b.tells x.inner) (sym set1) told

  pub begun : (failed : Type 0) (s : Seat (Torn D) (torn b)) → IsMade (torn b) openings c print a s → Makes (torn b) (create_calls print c) true failed a (disk_in s) → Starts b openings c print (Down old kept) s
  begun failed s new made = record {
    site = new.site;
    heard = new.heard;
    stands = record {
      is_open_now = new.stays_open;
      works = works_on b (b.tells a.inner) failed (create_calls print c) (or_never None) old a (disk_in s) armed (file b (disk_in s)) made.stop;
      rests = none_held (disk_in s).held (b.settled (disk_in s).inner) new.settled;
    };
    seated = new.seated;
    fresh = λ told. new.fresh (tells1 told);
    leaves = λ keeps. new.leaves (subst (λ (x : Torn D). b.keeps x.inner) (sym set1) keeps);
  }

  pub begun_keeps : (r : Torn D) → Keeps (torn b) a r → Keeps (torn b) old r
  begun_keeps r k = kept_by b old a r r _ r.script set1 refl k

  pub not_begun : (failed : Type 0) (r : Torn D) (why : LoadWhy) → fails_by (torn b) a r why → Makes (torn b) (create_calls print c) false failed a r → FailsToStart b (Down old kept) (Down r kept) why
  not_begun failed r (load.Bad place) f made = f
  not_begun failed r (load.Foreign other) f made = f
  not_begun failed r load.Failed f made = subst (λ (x : Torn D). Rose (b.faults x.inner) (b.faults r.inner)) set1 f
  not_begun failed r load.Stopped f made = stopped_below b r (never_reached b (b.tells a.inner) failed (create_calls print c) (or_never None) old a r armed refl (file b r) made.stop) f
  not_begun failed r load.Memory f made = tt
