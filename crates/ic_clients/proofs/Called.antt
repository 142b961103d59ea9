-- A run with clients over the disks of a call, which are as many as a scenario may have components.
use Rattle.std.proofs.Common.{◌≡◌, ◌∙◌, sym, ap, subst, refl, ℕ, ◌≤◌, arith, List, length, Some, inl, inr}
use Rattle.std.specs.Prelude.{Result, Ok, Err}
use Rattle.std.specs.List.{AllByRecursion}
use Rattle.ic_base.specs.declared.limits.TheConstants.{COMPONENTS}
use Rattle.ic_disk.specs.declared.disk.Disk as disk
use Rattle.ic_disk.specs.declared.sink.Sink as sink
use Rattle.ic_plan.specs.Numbering.{IsNumberedFor}
use Rattle.ic_plan.specs.declared.run_texts.RunTexts.{RunTexts}
use Rattle.ic_plan.specs.declared.verb.Inputs.TheVariants.{Numbered as AreNumbered}
use Rattle.ic_report.specs.Ends.{EndsAs}
use Rattle.ic_report.specs.declared.ending.Why.{Why}
use Rattle.ic_run.specs.Lending.{lent, left_over, merged}
use Rattle.ic_run.specs.Runs.{HandsBack}
use Rattle.ic_run.specs.declared.opening.Opening.TheVariants.{Anew}
use Rattle.ic_run.proofs.Places.{merged_same}
use Rattle.ic_run.proofs.Ran.{is-unopened}
use Rattle.ic_run.specs.Agendas.{MayRun}
use Rattle.ic_run.proofs.Whole.{KeptBack, handed-back, untried}
use Rattle.ic_clients.specs.Runs.{IsDone, Runs, Serves}
use Rattle.ic_clients.specs.Worlds.{RunsOver}
use Rattle.ic_clients.proofs.Over.{all-kept}
use Rattle.ic_clients.proofs.Ran.{is-done, is-short}
use Rattle.ic_clients.proofs.Served.{is-served}

module _ {D : Type 0} (b : disk.Ghosts D) {K : Type 0} (k : sink.Ghosts K) (tool : List ℕ) (r : RunTexts) (disks : List D) (few : length r.program.components ≤ COMPONENTS) (all : length disks ≡ COMPONENTS) where
  pub enough : length r.program.components ≤ length disks
  enough = omega (arith, few, all)

  module _ (before mid : K) (back : List D) (result : Result Unit Why) {taken : List D} (is : taken ≡ lent r.program.components disks) (over : RunsOver b k r taken back before mid result) where
    ran : RunsOver b k r (lent r.program.components disks) back before mid result
    ran = subst (λ l. RunsOver b k r l back before mid result) is over

    pub all-back : KeptBack b k r Anew disks enough before back
    all-back = all-kept b k r disks enough before mid back result ran

    module _ {left now : List D} (left-is : left ≡ left_over r.program.components disks) (put : now ≡ merged r.program.components left back) where
      abbrev now-of : List D → List D
      now-of l = merged r.program.components (left_over r.program.components disks) l

      now-is : now-of back ≡ now
      now-is = sym (put ∙ ap (λ l. merged r.program.components l back) left-is)

      pub call-hands : HandsBack b r.program disks now
      call-hands = subst (λ l. HandsBack b r.program disks l) now-is (handed-back b k r Anew disks enough before back all-back)

      module _ (may : MayRun r) (numbers : AllByRecursion (IsNumberedFor AreNumbered) r.schedule.events) where
        pub call-done : (x : Unit) → result ≡ Ok x → Runs b k tool r disks now before mid 0
        call-done x done =
            let y = subst (λ z. RunsOver b k r (lent r.program.components disks) back before mid z) done ran in
            inl (refl, subst (λ l. IsDone b k r disks l before mid) (ap now-of (sym y.back) ∙ now-is) (is-done b k r disks enough before may numbers y.long y.old y.new y.opens mid y.ran))

        pub call-short : ((disk : D) → b.keeps disk → b.may_leave disk (b.seen disk)) → (after : K) (why : Why) (status : ℕ) → result ≡ Err why → EndsAs k tool (Some r.program) why mid after status → Runs b k tool r disks now before after status
        call-short may_stay after why status short ends = by (subst (λ z. RunsOver b k r (lent r.program.components disks) back before mid z) short ran)
          where
            by : RunsOver b k r (lent r.program.components disks) back before mid (Err why) → Runs b k tool r disks now before after status
            by (inl u) =
                subst (λ l. Runs b k tool r disks l before after status) (sym (merged_same r.program.components disks enough) ∙ ap now-of (sym u.stay) ∙ now-is)
                (inr (inl (untried b k r Anew disks enough before tool after why status u.memory (subst (λ m. EndsAs k tool (Some r.program) why m after status) u.silent ends))))
            by (inr (inl u)) =
                subst (λ l. Runs b k tool r disks l before after status) (ap now-of (sym u.1.back) ∙ now-is) (inr (inl (is-unopened b k r Anew disks enough before after tool may_stay u.1.refused mid why status u.0 u.1.told u.1.fails ends)))
            by (inr (inr y)) =
                subst (λ l. Runs b k tool r disks l before after status) (ap now-of (sym y.back) ∙ now-is) (is-short b k r disks enough before may numbers y.long y.old y.new y.opens tool may_stay after mid status why y.ran ends)

        pub call-serves : (x : Unit) → result ≡ Ok x → Serves b k tool r disks now before mid 0
        call-serves x done zero tell = is-served b k tool r disks now before mid 0 may numbers tell back (subst (λ z. RunsOver b k r (lent r.program.components disks) back before mid z) done ran)
