-- A Pcom comes up over a disk whose stop doesn't lie within the load.
use Rattle.std.proofs.Common.{◌≡◌, ◌∙◌, sym, ap, subst, ℕ, true, false, List, length, Some, arith}
use Rattle.ic_base.specs.declared.events.Stop.{Stop}
use Rattle.ic_base.specs.declared.messages.ComId.{ComId}
use Rattle.ic_base.specs.declared.scenario.Program.{Program}
use Rattle.def_log.specs.Frame.{IsForeign}
use Rattle.def_log.specs.Log.{tail_of}
use Rattle.def_step.specs.Pcom as step
use Rattle.ic_disk.specs.Armings.{set_by}
use Rattle.ic_disk.specs.Causes.{Rose}
use Rattle.ic_disk.specs.Disk.{Keeps, Makes}
use Rattle.ic_disk.specs.TornDisks.{Torn}
use Rattle.ic_disk.specs.declared.disk.Disk.{Ghosts}
use Rattle.ic_gate.specs.Reading.{tail_calls}
use Rattle.ic_gate.specs.Refusals.{IsNotForeign}
use Rattle.ic_gate.specs.declared.refusals.LoadWhy.{LoadWhy}
use Rattle.ic_gate.specs.declared.refusals.LoadWhy.TheVariants.{Bad, Foreign, Failed, Stopped, Memory}
use Rattle.ic_pcom.specs.Recovering.{ComesUp, RefusesToComeUp, bad_place}
use Rattle.ic_pcom.specs.Views.{disk_of, IsSamePcom}
use Rattle.ic_pcom.specs.declared.pcom.Pcom.{Pcom}
use Rattle.ic_pcom.specs.declared.step.Step.{Step}
use Rattle.ic_node.specs.ComingUp.{IsBeyondLoad, PcomIsUp, fails_to_come_up}
use Rattle.ic_disk.specs.Torns.{file, torn}
use Rattle.ic_disk.proofs.Armed.{IsArmed, runs_on, works_armed, stopped_below}
use Rattle.ic_node.proofs.LoadCuts.{beyond_stop}
use Rattle.ic_node.proofs.Loads.{rests_of}

module _ {D : Type 0} (b : Ghosts D) (program : Program) (c : ComId) (stop : Stop) (old armed : Torn D) (is : IsArmed b stop old armed) where
  told : b.tells old.inner → b.tells armed.inner
  told h = subst (λ (x : Torn D). b.tells x.inner) (sym is.set) h

  same_file : file b armed ≡ file b old
  same_file = ap (file b) is.set

  -- it is up, and a stop is set again that is never reached
  pub up_is : (print : List ℕ) (s n : Pcom (Torn D) (torn b)) (told_step : Step) (never : Stop) (failed : Type 0) → ComesUp (torn b) program c armed print s told_step → Makes (torn b) tail_calls true failed armed (disk_of s)
      → IsSamePcom s n → disk_of n ≡ record (disk_of s) { script = Some (set_by never) } → PcomIsUp b program c old (n, told_step)
  up_is print s n told_step never failed up made like set = record {
    records = up.records;
    result = up.result;
    step = up.step;
    leads = like.same ∙ up.leads;
    tells = up.tells;
    read = λ h. ap tail_of (sym same_file) ∙ up.read (told h);
    bytes = λ h. ap (file b) set ∙ up.bytes (told h) ∙ same_file;
    played = omega (arith, up.played, like.played, ap (λ (x : step.Pcom). length x.rest) like.same);
    which = like.which ∙ up.which;
    is_open = like.closed ∙ up.is_open;
    works = works_armed b never (disk_of s) (disk_of n) (record { set = set; runs = runs_on b (b.tells armed.inner) failed tail_calls stop old armed (disk_of s) is (file b (disk_of s)) made.stop });
  }

  -- why it doesn't come up
  pub up_fails : ((disk : D) → b.keeps disk → b.tells disk) → (print : List ℕ) (new : Torn D) (why : LoadWhy) (failed : Type 0) → IsBeyondLoad 4 stop → RefusesToComeUp (torn b) program c armed print new why → Keeps (torn b) armed new → Makes (torn b) tail_calls false failed armed new
      → fails_to_come_up b (λ bytes place. bad_place program c bytes ≡ Some place) old print new why
  up_fails tells print new (Bad place) failed beyond refused keeps made = λ h. (ap (bad_place program c) (sym same_file) ∙ refused.place (told h), subst (IsNotForeign print) same_file (refused.not_foreign (told h)))
  up_fails tells print new (Foreign kept) failed beyond refused keeps made = λ h. subst (λ (l : List ℕ). IsForeign print l kept) same_file (refused (told h)).0
  up_fails tells print new Failed failed beyond refused keeps made = subst (λ (x : Torn D). Rose (b.faults x.inner) (b.faults new.inner)) is.set refused
  up_fails tells print new Stopped failed beyond refused keeps made = stopped_below b new (beyond_stop b stop old armed is failed tail_calls (file b new) new beyond made.stop) refused
  up_fails tells print new Memory failed beyond refused keeps made = rests_of b stop old armed is tells new keeps refused
