-- A run in which nothing goes wrong does all that was to be done, or reaches a limit.
use Rattle.std.proofs.Common.{◌≡◌, ◌∙◌, sym, subst, refl, ℕ, List, Option, Some, None, ◌⊎◌, inl, inr, ⊎_elim}
use Rattle.std.specs.Prelude.{codes}
use Rattle.ic_base.specs.declared.events.What.{What}
use Rattle.ic_base.specs.declared.refusals.StartWhy.{StartWhy}
use Rattle.ic_base.specs.declared.refusals.StartWhy.TheVariants as starts
use Rattle.ic_base.specs.declared.refusals.WorldRefused.{WorldRefused}
use Rattle.ic_base.specs.declared.refusals.WorldRefused.TheVariants as refused
use Rattle.ic_base.specs.declared.scenario.Program.{Program}
use Rattle.def_run.specs.Executions.{Agenda, Next}
use Rattle.def_run.specs.Openings.{IsStartRefused, BeginsSound}
use Rattle.def_run.specs.SystemStates.{SystemState, Transition, last_state}
use Rattle.ic_disk.specs.Causes.{Rose}
use Rattle.ic_disk.specs.declared.disk.Disk as disk
use Rattle.ic_disk.specs.declared.sink.Sink as sink
use Rattle.ic_report.specs.Ends.{EndsAs, EndsWith}
use Rattle.ic_report.specs.Outputs.{Puts, FailsToPut}
use Rattle.ic_report.proofs.Outputs.{puts_then_fails}
use Rattle.ic_report.specs.declared.ending.Why.{Why}
use Rattle.ic_report.specs.declared.ending.Why.TheVariants.{Fault as AFault, Print, Memory}
use Rattle.ic_plan.specs.declared.run_texts.RunTexts.{RunTexts}
use Rattle.ic_run.specs.Causes.{MeetsSoundLogs}
use Rattle.ic_run.specs.Completing.{IsOfLimit, NothingFails, EndsAtLimit, Completes}
use Rattle.ic_run.specs.Openings.{IsOpened, opening_refusal, files_on}
use Rattle.ic_run.specs.Runs.{IsStartFault, IsFault, CameTo, IsRefusedAt, IsUntold, EndsUnopened, EndsRefused, EndsUntold, Runs}
use Rattle.ic_run.specs.Worlds.{lines_of}
use Rattle.ic_run.specs.Whys.{why_of_start, why_of_world}
use Rattle.ic_run.specs.declared.opening.Opening.{Opening}
use Rattle.ic_run.specs.declared.opening.Opening.TheVariants.{Anew, Found}
use Rattle.ic_run.specs.Agendas.{MayRun}

module _ {D : Type 0} (b : disk.Ghosts D) {K : Type 0} (k : sink.Ghosts K) (r : RunTexts) (opening : Opening) (disks now : List D) (before after : K) (calm : NothingFails b k r.program r.fingerprint opening disks now before after) where
  -- where a run may open, it does, unless memory is wanting
  pub opens-so : (tool : List ℕ) (status : ℕ) → EndsUnopened b k r opening disks now before after tool status → status ≡ 12
  opens-so tool status e = by e.why (e.cause calm.tell) e.fault e.ends
    where
      by : (why : StartWhy) → IsStartRefused (opening_refusal opening r.program r.fingerprint (files_on b r.program disks)) why → IsStartFault b disks now why → EndsAs k tool (Some r.program) (why_of_start r.fingerprint why) before after status → status ≡ 12
      by (starts.NotBlank c) cause fault ends = absurd (let e : ◌≡◌ {A = Option StartWhy} None (Some (starts.NotBlank c)) = sym calm.opens ∙ cause in cc)
      by (starts.Failed c) cause fault ends = absurd (calm.working c fault)
      by (starts.Bad c place) cause fault ends = absurd (let e : ◌≡◌ {A = Option StartWhy} None (Some (starts.Bad c place)) = sym calm.opens ∙ cause in cc)
      by (starts.Foreign c kept) cause fault ends = absurd (let e : ◌≡◌ {A = Option StartWhy} None (Some (starts.Foreign c kept)) = sym calm.opens ∙ cause in cc)
      by starts.Memory cause fault ends = ends.0

  -- an output that failed has failed since the call began
  pub no-print : (front back : List (List ℕ)) (told mid : K) → after ≡ mid → Puts k front before told → FailsToPut k back told mid → ⊥
  no-print front back told mid same printed fails = calm.output (subst (λ o. Rose (k.faults before) (k.faults o)) (sym same) (puts_then_fails k front back before told mid printed fails).failed)

  module _ (may : MayRun r) (lines : List Transition → List (List ℕ)) (p : SystemState) (vs : List Transition) where
    -- the run began soundly
    began : (agenda : Agenda) (tried : Option What) → CameTo b k r opening disks now before after lines p vs agenda tried → BeginsSound r.program r.fingerprint (files_on b r.program disks) p
    began agenda tried came = by opening refl
      where
        by : (o : Opening) → opening ≡ o → BeginsSound r.program r.fingerprint (files_on b r.program disks) p
        by Anew is = (came.anew is calm.tell).1
        by Found is = calm.sound is p (subst (λ o. IsOpened o r.program r.fingerprint (files_on b r.program disks) p) is (came.opened calm.tell))

    module _ (agenda : Agenda) (tried : Next) (mid : K) (why : WorldRefused) (x : IsRefusedAt b k r opening disks now before after lines p vs agenda tried mid why) where
      -- an event is refused for a limit, or for want of memory
      pub only-limits : IsOfLimit why ⊎ (why ≡ refused.Memory)
      only-limits = by why (x.sound (calm.tell, began agenda (Some tried.event.what) x.came)) x.fault
        where
          by : (w : WorldRefused) → MeetsSoundLogs r.program (last_state p vs) tried.event.what w → IsFault b disks now w → IsOfLimit w ⊎ (w ≡ refused.Memory)
          by (refused.Limit which) meets fault = inl tt
          by (refused.LogFull c) meets fault = inl tt
          by (refused.Bad c place) meets fault = inl meets.0
          by (refused.Foreign c kept) meets fault = absurd meets
          by (refused.Failed c) meets fault = absurd (calm.working c fault)
          by refused.Memory meets fault = inr refl

-- want of memory has status 12
pub memory-ends : {K : Type 0} (k : sink.Ghosts K) (tool : List ℕ) (program : Option Program) (given : List ℕ) (why : WorldRefused) (mid after : K) (status : ℕ) → why ≡ refused.Memory → EndsAs k tool program (why_of_world given why) mid after status → status ≡ 12
memory-ends k tool program given why mid after status is ends = (subst (λ w. EndsAs k tool program (why_of_world given w) mid after status) is ends).0

module _ {D : Type 0} (b : disk.Ghosts D) {K : Type 0} (k : sink.Ghosts K) (r : RunTexts) (opening : Opening) (disks now : List D) (before after : K) (may : MayRun r) (calm : NothingFails b k r.program r.fingerprint opening disks now before after) where
  refused-at : (status : ℕ) → EndsRefused b k r opening disks now before after status → (status ≡ 12) ⊎ EndsAtLimit b k r opening disks now before after status
  refused-at status e =
      ⊎_elim (λ limit. inr (e, limit)) (λ memory. inl (memory-ends k (codes "icrun") (Some r.program) r.fingerprint e.why e.mid after status memory e.ends))
      (only-limits b k r opening disks now before after calm may (lines_of r) e.p e.transitions e.agenda e.tried e.mid e.why e.refused)

  untold : (status : ℕ) → EndsUntold b k r opening disks now before after status → status ≡ 12
  untold status e = by e.why e.untold e.ends
    where
      by : (why : Why) → IsUntold b k r opening disks now before after e.mid why → EndsWith k (Some r.program) why e.mid after status → status ≡ 12
      by (AFault fault) x ends = absurd (elim (x.untold) as (λ u. ⊥) [ inl l ↦ l.fails | inr s ↦ s.fails ])
      by Print x ends = absurd (elim (x.untold) as (λ u. ⊥) [
        | inl l ↦ no-print b k r opening disks now before after calm _ _ x.told e.mid ends.1 l.printed l.fails
        | inr s ↦ no-print b k r opening disks now before after calm _ _ x.told e.mid ends.1 s.printed s.fails
      ])
      by Memory x ends = ends.0

pub completes : {D : Type 0} (b : disk.Ghosts D) {K : Type 0} (k : sink.Ghosts K) (r : RunTexts) (opening : Opening) (disks now : List D) (before after : K) → MayRun r → (status : ℕ) → Runs b k r opening disks now before after status → Completes b k r opening disks now before after status
completes b k r opening disks now before after may status (inl done) calm = inl done.0
completes b k r opening disks now before after may status (inr (inl e)) calm = inr (inl (opens-so b k r opening disks now before after calm (codes "icrun") status e))
completes b k r opening disks now before after may status (inr (inr (inl e))) calm = inr (refused-at b k r opening disks now before after may calm status e)
completes b k r opening disks now before after may status (inr (inr (inr e))) calm = inr (inl (untold b k r opening disks now before after may calm status e))
