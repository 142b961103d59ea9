-- The disks of a call come back, but for want of memory.
use Rattle.std.proofs.Common.{◌≡◌, ◌∙◌, sym, ap, subst, ℕ, ◌≤◌, arith, ◌⊎◌, inl, inr, List, length, Option, Some, None, option_map}
use Rattle.std.specs.Prelude.{codes, IfSome, Result, Ok, Err}
use Rattle.std.proofs.lemmas.Option.{same_Some}
use Rattle.ic_base.specs.declared.scenario.Program.{Program}
use Rattle.ic_disk.specs.TornDisks.{Torn}
use Rattle.ic_disk.specs.Torns.{torn}
use Rattle.ic_disk.specs.declared.disk.Disk as disk
use Rattle.ic_disk.specs.declared.sink.Sink as sink
use Rattle.ic_joins.specs.Threads.{FailsToRun}
use Rattle.ic_joins.specs.declared.threads.ThreadsRefused.{ThreadsRefused}
use Rattle.ic_joins.specs.declared.threads.ThreadsRefused.TheVariants as threads
use Rattle.ic_plan.specs.declared.run_texts.RunTexts.{RunTexts}
use Rattle.ic_report.specs.Ends.{EndsAs}
use Rattle.ic_report.specs.declared.ending.Why.{Why}
use Rattle.ic_report.specs.declared.ending.Why.TheVariants.{Memory}
use Rattle.ic_run.specs.Lending.{left_over, merged}
use Rattle.ic_run.proofs.Places.{all_count, lent_count, merged_count}
use Rattle.ic_run.proofs.Programs.{enough_back, other_disk}
use Rattle.ic_world.specs.Opening.{disks_in}
use Rattle.ic_threads.specs.Runs.{HandsBack, IsUnthreaded, LivesOver, IsToldBy, put_in}

-- so many, by their list
pub counted-back : {A D : Type 0} (n : ℕ) (o : Option A) (items : A → List D) → IfSome o (λ v. length (items v) ≡ n) → IfSome (option_map items o) (λ xs. length xs ≡ n)
counted-back n None items h = tt
counted-back n (Some v) items h = h

pub counted-there : {A D : Type 0} (n : ℕ) (o : Option A) (items : A → List D) → IfSome (option_map items o) (λ xs. length xs ≡ n) → IfSome o (λ v. length (items v) ≡ n)
counted-there n None items h = tt
counted-there n (Some v) items h = h

-- disks that come back are handed back in their places
hands : {D : Type 0} (program : Program) (disks back : List D) → length program.components ≤ length disks → length back ≡ disks_in program.components → HandsBack program disks (merged program.components (left_over program.components disks) back)
hands program disks back few count =
    let xs = program.components in
    record {
      count = omega (arith, merged_count xs (left_over xs disks) back count (enough_back program disks back few count), all_count xs disks few, lent_count xs disks few, count);
      others = other_disk program disks back few count;
    }

module _ {D : Type 0} (b : disk.Ghosts D) (r : RunTexts) where
  -- as many come back as were given
  pub refused-count : (disks : List D) (t : ThreadsRefused D (Torn D) (torn b)) (back : Option (List D)) (why : Why) → FailsToRun b r.program r.fingerprint disks t → IsUnthreaded r t back why → length disks ≡ disks_in r.program.components → IfSome back (λ xs. length xs ≡ disks_in r.program.components)
  refused-count disks t None why fails told n = tt
  refused-count disks (threads.Start s) (Some xs) why fails told n = ap (λ (l : List D). length l) (same_Some xs s.disks.items told.0) ∙ fails.opens.count ∙ n
  refused-count disks (threads.Run x) (Some xs) why fails (inl h) n = ap (λ (l : List D). length l) (same_Some xs _ h.0.is) ∙ h.0.count
  refused-count disks (threads.Run x) (Some xs) why fails (inr h) n = absurd (cc h.0)
  refused-count disks threads.Memory (Some xs) why fails told n = absurd (cc told.0)

  -- none come back where memory was wanting
  none-back : (t : ThreadsRefused D (Torn D) (torn b)) (why : Why) → IsUnthreaded r t None why → why ≡ Memory
  none-back (threads.Start s) why told = absurd (cc told.0)
  none-back (threads.Run x) why (inl h) = absurd (cc h.0.is)
  none-back (threads.Run x) why (inr h) = h.1
  none-back threads.Memory why told = told.1

  module _ {K : Type 0} (k : sink.Ghosts K) (before mid after : K) (status : ℕ) where
    pub wants-memory : (why : Why) → why ≡ Memory → EndsAs k (codes "iclive") (Some r.program) why mid after status → status ≡ 12
    wants-memory why is ends = (subst (λ w. EndsAs k (codes "iclive") (Some r.program) w mid after status) is ends).0

    memory-wanted : (disks : List D) (result : Result Unit Why) → LivesOver b k r disks None before mid result → IsToldBy b k r result mid after status → status ≡ 12
    memory-wanted disks (Ok x) lives ends = absurd (cc lives.some)
    memory-wanted disks (Err why) (inl u) ends = wants-memory why u.memory ends
    memory-wanted disks (Err why) (inr (inl u)) ends = wants-memory why (none-back u.refused why u.told) ends
    memory-wanted disks (Err why) (inr (inr e)) ends = absurd (cc e.some)

    pub handed-back : (disks taken left now : List D) (back : Option (List D)) (result : Result Unit Why) → length r.program.components ≤ length disks → left ≡ left_over r.program.components disks → now ≡ put_in r.program left back → IfSome back (λ xs. length xs ≡ disks_in r.program.components) → LivesOver b k r taken back before mid result → IsToldBy b k r result mid after status
        → (status ≡ 12) ⊎ HandsBack r.program disks now
    handed-back disks taken left now None result few rest put count lives ends = inl (memory-wanted taken result lives ends)
    handed-back disks taken left now (Some back) result few rest put count lives ends =
        inr (subst (HandsBack r.program disks) (sym (put ∙ ap (λ l. merged r.program.components l back) rest)) (hands r.program disks back few count))
