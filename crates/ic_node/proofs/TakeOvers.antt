-- A Pcom that is down comes up as its standby.
use Rattle.std.proofs.Common.{◌≡◌, ◌∙◌, sym, ap, subst, inl, inr, ℕ, true, false, List, [], Option, Some, arith}
use Rattle.std.specs.Prelude.{Ok}
use Rattle.ic_base.specs.declared.events.Stop.{Stop}
use Rattle.ic_base.specs.declared.messages.ComId.{ComId}
use Rattle.ic_base.specs.declared.scenario.Program.{Program}
use Rattle.def_log.specs.Frame.{IsForeign, fingerprint_in, owner_in}
use Rattle.def_log.specs.Log.{log_of}
use Rattle.def_run.specs.CoreSteps.{forced_of}
use Rattle.def_run.specs.SystemStates.{KeepsLog, IsLog}
use Rattle.def_state.specs.Hist.{Contents}
use Rattle.def_state.specs.Vol.{Vol}
use Rattle.def_step.specs.Pcom as step
use Rattle.def_step.specs.World as world
use Rattle.def_step.specs.World.{Runs}
use Rattle.ic_disk.specs.Armings.{set_by}
use Rattle.ic_disk.specs.Causes.{Rose}
use Rattle.ic_disk.specs.Disk.{Makes}
use Rattle.law_tail.specs.Wholes.{with_earlier}
use Rattle.ic_disk.specs.Disk.{Keeps}
use Rattle.ic_disk.specs.TornDisks.{Torn}
use Rattle.ic_disk.specs.Torns.{file, torn}
use Rattle.ic_disk.specs.declared.disk.Disk.{Ghosts}
use Rattle.ic_disk.proofs.Armed.{IsArmed, runs_on, works_armed, stopped_below}
use Rattle.ic_gate.specs.Reading.{load_calls}
use Rattle.ic_gate.specs.Refusals.{IsNotForeign}
use Rattle.ic_gate.specs.declared.refusals.LoadWhy.{LoadWhy}
use Rattle.ic_gate.specs.declared.refusals.LoadWhy.TheVariants as whys
use Rattle.ic_pcom.specs.Adopting.{Adopts, RefusesToAdopt, stop_in}
use Rattle.ic_pcom.specs.Views as pcoms
use Rattle.ic_pcom.specs.Views.{disk_of as pcom_disk, IsSamePcom}
use Rattle.ic_pcom.specs.declared.pcom.Pcom.{Pcom}
use Rattle.ic_node.specs.ComingUp.{IsBeyondLoad, fails_to_come_up}
use Rattle.ic_node.specs.Faults.{has_fault}
use Rattle.ic_node.specs.Loading.{refusal_of}
use Rattle.ic_node.specs.Nodes.{node_with, disk_in, read_of}
use Rattle.ic_node.specs.TakingOver.{PcomIsOver, TakesOver, FailsToTakeOver}
use Rattle.ic_node.specs.Views.{node_of, disk_of, file_of, com_of, is_over, Tells}
use Rattle.ic_node.specs.declared.component.Component.{Component}
use Rattle.ic_node.specs.declared.node.Node.TheVariants.{Per, Off}
use Rattle.ic_node.proofs.LoadCuts.{beyond_stop}
use Rattle.ic_node.proofs.Tails.{none_earlier}
use Rattle.ic_node.proofs.Recoveries.{was, down, tells, old_file, stands, same_records}
use Rattle.ic_node.specs.Meeting.{rests_on}
use Rattle.ic_node.proofs.Loads.{rests_of}

-- over a disk whose stop isn't reached
module _ {D : Type 0} (b : Ghosts D) (program : Program) (c : ComId) (contents : Contents) (v : Vol) (have : ℕ) (stop : Stop) (old armed : Torn D) (is : IsArmed b stop old armed) where
  told : b.tells old.inner → b.tells armed.inner
  told h = subst (λ (x : Torn D). b.tells x.inner) (sym is.set) h

  same_file : file b armed ≡ file b old
  same_file = ap (file b) is.set

  -- it is up, and a stop is set again that is never reached
  pub over_is : (print : List ℕ) (s n : Pcom (Torn D) (torn b)) (never : Stop) (failed : Type 0) → Adopts (torn b) program c armed print contents v have s → Makes (torn b) load_calls true failed armed (pcom_disk s)
      → IsSamePcom s n → pcom_disk n ≡ record (pcom_disk s) { script = Some (set_by never) } → PcomIsOver b program c contents v have old n
  over_is print s n never failed up made like set = record {
    records = up.records;
    state = up.state;
    plays = up.plays;
    leads = like.same ∙ up.leads;
    read = λ h. ap log_of (sym same_file) ∙ up.read (told h);
    bytes = λ h. ap (file b) set ∙ up.bytes (told h) ∙ same_file;
    played = omega (arith, up.played, like.played);
    which = like.which ∙ up.which;
    is_open = like.closed ∙ up.is_open;
    works = works_armed b never (pcom_disk s) (pcom_disk n) (record { set = set; runs = runs_on b (b.tells armed.inner) failed load_calls stop old armed (pcom_disk s) is (file b (pcom_disk s)) made.stop });
  }

  -- why it doesn't come up
  pub over_fails : ((disk : D) → b.keeps disk → b.tells disk) → (print : List ℕ) (new : Torn D) (why : LoadWhy) (failed : Type 0) → IsBeyondLoad 3 stop → RefusesToAdopt (torn b) program c armed print contents v have new why → Keeps (torn b) armed new → Makes (torn b) load_calls false failed armed new
      → fails_to_come_up b (λ bytes place. stop_in program c contents v have bytes ≡ Some place) old print new why
  over_fails tells print new (whys.Bad place) failed beyond refused keeps made = λ h. (ap (stop_in program c contents v have) (sym same_file) ∙ refused.place (told h), subst (IsNotForeign print) same_file (refused.not_foreign (told h)))
  over_fails tells print new (whys.Foreign kept) failed beyond refused keeps made = λ h. subst (λ (l : List ℕ). IsForeign print l kept) same_file (refused (told h)).0
  over_fails tells print new whys.Failed failed beyond refused keeps made = subst (λ (x : Torn D). Rose (b.faults x.inner) (b.faults new.inner)) is.set refused
  over_fails tells print new whys.Stopped failed beyond refused keeps made = stopped_below b new (beyond_stop b stop old armed is failed load_calls (file b new) new beyond made.stop) refused
  over_fails tells print new whys.Memory failed beyond refused keeps made = rests_of b stop old armed is tells new keeps refused

module _ {D : Type 0} (b : Ghosts D) (program : Program) (old : Component (Torn D) (torn b)) (x : Torn D) (is : old.node ≡ Off x) (going : is_over old ≡ false) (contents : Contents) (v : Vol) (have : ℕ) where
  -- it isn't taken over
  pub not_over : (given : List ℕ) (new : Component (Torn D) (torn b)) (y : Torn D) (why : LoadWhy) → disk_of new ≡ Some y → fails_to_come_up b (λ bytes place. stop_in program (com_of old) contents v have bytes ≡ Some place) x given y why
      → FailsToTakeOver b program given old contents v have new (refusal_of why)
  not_over given new y (whys.Bad place) now bad = λ told. ap (stop_in program (com_of old) contents v have) (old_file b old x is going) ∙ (bad (tells b old x is going told)).0
  not_over given new y (whys.Foreign kept) now foreign = λ told. subst (λ (l : List ℕ). IsForeign given l kept) (sym (old_file b old x is going)) (foreign (tells b old x is going told))
  not_over given new y whys.Failed now rose = subst (λ (o : Option (Torn D)). has_fault b o (disk_of new)) (sym (was b old x is going)) (subst (λ (o : Option (Torn D)). has_fault b (Some x) o) (sym now) (inl rose))
  not_over given new y whys.Stopped now below = subst (λ (o : Option (Torn D)). has_fault b o (disk_of new)) (sym (was b old x is going)) (subst (λ (o : Option (Torn D)). has_fault b (Some x) o) (sym now) (inr below))
  not_over given new y whys.Memory now rests = subst (rests_on (torn b)) (sym now) rests

  -- it is
  module _ (q : Pcom (Torn D) (torn b)) (over : PcomIsOver b program (com_of old) contents v have x q) where
    -- its file holds its records
    pub over_stands : Keeps (torn b) x (pcoms.disk_of q) → b.tells (pcoms.disk_of q).inner → log_of (file b (pcoms.disk_of q)) ≡ Ok (pcoms.component_of q).log.forced
    over_stands keeps told =
        let h = keeps.tells.1 told in
        ap log_of (over.bytes h) ∙ over.read h ∙ ap (λ (p : step.Pcom). Ok p.log.forced) (sym over.leads)

    pub is_taken_over : (new : Component (Torn D) (torn b)) → new.node ≡ Per q → new.kept ≡ [] → com_of new ≡ com_of old → is_over new ≡ false → TakesOver program old contents v have new (pcoms.played_of q)
    is_taken_over new per none same going_on = record {
      found = over.records;
      state = over.state;
      plays = over.plays;
      up = runs ∙ ap (λ (p : step.Pcom). Runs p) over.leads;
      count = over.played;
      reads = λ told. same_records (log_of (file b x)) over.records (forced_of (Some (node_of old))) (over.read (tells b old x is going told)) (ap log_of (sym (old_file b old x is going)) ∙ stands b old x is going told);
      file = same_bytes;
      goes_on = record {
        same = same;
        open_still = going_on;
        logs = λ told print logs.
            let log : IsLog print (com_of old).0 (file_of old) old.kept = subst (λ (n : world.Node). KeepsLog print (com_of old) (file_of old) (Some n)) (down b old x is going) logs in
            subst (λ (n : world.Node). KeepsLog print (com_of new) (file_of new) (Some n)) (sym runs) (record {
              own = ap fingerprint_in (same_bytes told) ∙ log.own;
              owned = ap owner_in (same_bytes told) ∙ log.owned ∙ sym (ap (λ (c : ComId). c.0) same);
              holds = ap log_of (same_bytes told ∙ old_file b old x is going) ∙ over.read (tells b old x is going told) ∙ ap (λ (p : step.Pcom). Ok p.log.forced) (sym over.leads);
            });
      };
    }
      where
        runs : node_of new ≡ Runs (pcoms.component_of q)
        runs = ap (node_with new.kept) per ∙ ap (λ ks. Runs (with_earlier ks (pcoms.component_of q))) none ∙ ap Runs (none_earlier (pcoms.component_of q))

        same_bytes : Tells old → file_of new ≡ file_of old
        same_bytes told = ap (λ n. read_of (torn b) (disk_in n)) per ∙ over.bytes (tells b old x is going told) ∙ sym (old_file b old x is going)
