-- A run over the disks of a call, which are as many as a scenario may have components.
use Rattle.std.proofs.Common.{◌≡◌, ◌∙◌, sym, ap, subst, ℕ, ◌≤◌, arith, List, length, Some}
use Rattle.std.specs.Prelude.{Result, Ok, Err}
use Rattle.ic_base.specs.declared.limits.TheConstants.{COMPONENTS}
use Rattle.ic_disk.specs.declared.disk.Disk as disk
use Rattle.ic_disk.specs.declared.sink.Sink as sink
use Rattle.ic_run.specs.Lending.{lent, left_over, merged}
use Rattle.ic_report.specs.Ends.{EndsWith}
use Rattle.ic_report.specs.declared.ending.Why.{Why}
use Rattle.ic_plan.specs.declared.run_texts.RunTexts.{RunTexts}
use Rattle.ic_run.specs.Runs.{HandsBack, Runs}
use Rattle.ic_run.specs.Worlds.{RunsOver}
use Rattle.ic_run.specs.declared.opening.Opening.{Opening}
use Rattle.ic_run.specs.Agendas.{MayRun}
use Rattle.ic_run.proofs.Whole.{KeptBack, kept-back, handed-back, whole-done, short-done}

module _ {D : Type 0} (b : disk.Ghosts D) {K : Type 0} (k : sink.Ghosts K) (r : RunTexts) (opening : Opening) (disks : List D) (few : length r.program.components ≤ COMPONENTS) (all : length disks ≡ COMPONENTS) where
  pub enough : length r.program.components ≤ length disks
  enough = omega (arith, few, all)

  module _ (before mid : K) (back : List D) (result : Result Unit Why) {taken : List D} (is : taken ≡ lent r.program.components disks) (over : RunsOver b k r opening taken back before mid result) where
    ran : RunsOver b k r opening (lent r.program.components disks) back before mid result
    ran = subst (λ l. RunsOver b k r opening l back before mid result) is over

    pub all-back : KeptBack b k r opening disks enough before back
    all-back = kept-back b k r opening disks enough before mid back result ran

    module _ {left now : List D} (left-is : left ≡ left_over r.program.components disks) (put : now ≡ merged r.program.components left back) where
      now-is : merged r.program.components (left_over r.program.components disks) back ≡ now
      now-is = sym (put ∙ ap (λ l. merged r.program.components l back) left-is)

      pub call-hands : HandsBack b r.program disks now
      call-hands = subst (λ l. HandsBack b r.program disks l) now-is (handed-back b k r opening disks enough before back all-back)

      pub call-done : MayRun r → (x : Unit) → result ≡ Ok x → Runs b k r opening disks now before mid 0
      call-done may x done = subst (λ l. Runs b k r opening disks l before mid 0) now-is (whole-done b k r opening disks enough before may mid back result x done ran)

      pub call-short : ((disk : D) → b.keeps disk → b.may_leave disk (b.seen disk)) → MayRun r → (after : K) (why : Why) (status : ℕ) → result ≡ Err why → EndsWith k (Some r.program) why mid after status → Runs b k r opening disks now before after status
      call-short may_stay may after why status short ends = subst (λ l. Runs b k r opening disks l before after status) now-is (short-done b k r opening disks enough before may may_stay mid after back result why status short ran ends)
