-- Where nothing goes wrong all is done, or a limit is reached.
use Rattle.std.proofs.Common.{◌≡◌, ◌∙◌, sym, subst, refl, ◌⊎◌, inl, inr, ⊎_elim, ℕ, List, [], ◌∷◌, length, Some, None}
use Rattle.def_two.specs.declared.script.TwoRefused.{TwoRefused}
use Rattle.def_two.specs.declared.script.TwoRefused.TheVariants as refused
use Rattle.def_two.specs.declared.script.TwoWhy.{TwoWhy}
use Rattle.def_two.specs.declared.script.TwoWhy.TheVariants as starts
use Rattle.def_two.specs.CoreSteps.{last_state2}
use Rattle.def_two.specs.Ends.{AreOpenings}
use Rattle.def_two.specs.Refusals.{met2}
use Rattle.def_two.specs.Script.{TheScript, openings_of}
use Rattle.law_two_run.proofs.Meeting.{executions_meet}
use Rattle.ic_disk.specs.declared.disk.Disk as disk
use Rattle.ic_disk.specs.declared.sink.Sink as sink
use Rattle.ic_report.specs.Outputs.{Puts, FailsToPut}
use Rattle.ic_two_world.specs.Opening.{IsNotStarted, files_on}
use Rattle.ic_two_world.proofs.Lists.{none-some}
use Rattle.ic_more.specs.Completing.{IsOfLimit, NothingFails, EndsAtLimit, Completes}
use Rattle.ic_more.specs.Ends.{EndsWith, why_of_start, why_of_step}
use Rattle.ic_more.specs.Runs.{Runs, IsRefused, NeverBegan, WentNoFurther, WasUntold}
use Rattle.ic_more.specs.declared.ending.Why2.{Why2}
use Rattle.ic_more.specs.declared.ending.Why2.TheVariants.{Memory}

module _ {D : Type 0} (b : disk.Ghosts D) {K : Type 0} (k : sink.Ghosts K) (s : TheScript) (print : List ℕ) (disks now : List D) (before after : K) (opened : AreOpenings (openings_of s)) (long : length print ≡ 32) (u : NothingFails b k s print disks now before after) where
  -- no world fails to begin, but for memory
  no-start : (why : TwoWhy) → IsNotStarted b disks now why → why_of_start why ≡ Memory
  no-start (starts.NotBlank c) f = none-some (starts.NotBlank c) (sym u.blank ∙ f.refused u.sound.0)
  no-start (starts.Failed c) f = absurd (u.working c f.failed.0 f.failed.1 f.failed.2 f.failed.3 f.failed.4)
  no-start starts.Memory f = refl

  none-met : (why : TwoRefused) (f : IsRefused b s print disks now why) → met2 (openings_of s) print (last_state2 f.p f.steps) f.event ≡ None
  none-met why f = executions_meet (openings_of s) print s.events (files_on b disks) f.p f.steps f.rest f.event opened long (f.came.started u.sound.0) (f.came.executes u.sound)

  -- no event is refused, but for a limit or for memory
  no-step : (why : TwoRefused) → IsRefused b s print disks now why → IsOfLimit why ⊎ (why_of_step print why ≡ Memory)
  no-step refused.Packets f = inl tt
  no-step (refused.LogFull c) f = inl tt
  no-step (refused.Bad c place) f = none-some (refused.Bad c place) (sym (none-met (refused.Bad c place) f) ∙ f.cause u.sound)
  no-step (refused.Foreign c kept) f = none-some (refused.Foreign c kept) (sym (none-met (refused.Foreign c kept) f) ∙ f.cause u.sound)
  no-step (refused.Failed c) f = absurd (u.working c f.fault.0 f.fault.1 f.fault.2 f.fault.3 f.fault.4)
  no-step refused.Memory f = inr refl

  ends-memory : (why : Why2) (status : ℕ) → why ≡ Memory → EndsWith k (Some s) why before after status → status ≡ 12
  ends-memory why status is ends = (subst (λ w. EndsWith k (Some s) w before after status) is ends).0

  done-or-short : (status : ℕ) → Runs b s print disks now k before after status → (status ≡ 0) ⊎ ((status ≡ 12) ⊎ EndsAtLimit b k s print disks now before after status)
  done-or-short status (inl d) = by d.ends
    where
      by : ((status ≡ 0) × Puts k (d.lines ∷ []) before after) ⊎ ((status ≡ 9) × FailsToPut k (d.lines ∷ []) before after) → (status ≡ 0) ⊎ ((status ≡ 12) ⊎ EndsAtLimit b k s print disks now before after status)
      by (inl printed) = inl printed.0
      by (inr failed) = absurd (u.output failed.1.failed)
  done-or-short status (inr x) = inr (by x.comes)
    where
      by : NeverBegan b s print disks now x.why ⊎ (WentNoFurther b s print disks now x.why ⊎ WasUntold b s print disks now x.why) → (status ≡ 12) ⊎ EndsAtLimit b k s print disks now before after status
      by (inl f) = inl (ends-memory x.why status (f.is ∙ no-start f.start f.cause) x.ends)
      by (inr (inl f)) = ⊎_elim (λ limit. inr (record { why = x.why; short = f; limit = limit; ends = x.ends })) (λ memory. inl (ends-memory x.why status (f.is ∙ memory) x.ends)) (no-step f.step f.refused)
      by (inr (inr f)) = inl (ends-memory x.why status f.is x.ends)

module _ {D : Type 0} (b : disk.Ghosts D) {K : Type 0} (k : sink.Ghosts K) (s : TheScript) (print : List ℕ) (disks now : List D) (before after : K) where
  pub completes : (status : ℕ) → AreOpenings (openings_of s) → length print ≡ 32 → Runs b s print disks now k before after status → Completes b k s print disks now before after status
  completes status opened long runs u = done-or-short b k s print disks now before after opened long u status runs
