-- What a call over the disks of its components comes to.
use Rattle.std.proofs.Common.{◌≡◌, ◌∙◌, sym, ap, subst, refl, ℕ, ◌≤◌, List, length, Some, inr, arith}
use Rattle.std.specs.Prelude.{Result, Ok, Err, codes}
use Rattle.ic_base.specs.declared.limits.TheConstants.{COMPONENTS}
use Rattle.ic_disk.specs.declared.disk.Disk as disk
use Rattle.ic_disk.specs.declared.sink.Sink as sink
use Rattle.ic_lines.specs.declared.lines.Lines as source
use Rattle.ic_plan.specs.declared.run_texts.ServedTexts.{ServedTexts}
use Rattle.ic_report.specs.Ends.{EndsAs}
use Rattle.ic_report.specs.declared.ending.Why.{Why}
use Rattle.ic_run.specs.Lending.{lent, left_over, merged}
use Rattle.ic_run.specs.Runs.{HandsBack}
use Rattle.ic_world.specs.Opening.{AllKept}
use Rattle.ic_serve.specs.Runs.{OverDisks, Runs}
use Rattle.ic_serve.proofs.Handed.{call-hands}

module _ {D : Type 0} (b : disk.Ghosts D) {K : Type 0} (k : sink.Ghosts K) (r : ServedTexts) {I : Type 0} (i : source.Ghosts I) (disks : List D) (few : length r.program.components ≤ COMPONENTS) (all : length disks ≡ COMPONENTS) where
  pub enough : length r.program.components ≤ length disks
  enough = omega (arith, few, all)

  module _ (lines now : I) (before mid : K) (back : List D) (result : Result Unit Why) {taken : List D} (is : taken ≡ lent r.program.components disks) (over : OverDisks b k r i lines taken before now back mid result) (kept : AllKept b taken back) where
    over-lent : OverDisks b k r i lines (lent r.program.components disks) before now back mid result
    over-lent = subst (λ l. OverDisks b k r i lines l before now back mid result) is over

    pub lent-kept : AllKept b (lent r.program.components disks) back
    lent-kept = subst (λ l. AllKept b l back) is kept

    module _ {left behind : List D} (left-is : left ≡ left_over r.program.components disks) (put : behind ≡ merged r.program.components left back) where
      behind-is : behind ≡ merged r.program.components (left_over r.program.components disks) back
      behind-is = put ∙ ap (λ l. merged r.program.components l back) left-is

      pub hands-back : HandsBack b r.program disks behind
      hands-back = subst (λ l. HandsBack b r.program disks l) (sym behind-is) (call-hands b r.program disks enough back lent-kept)

      pub served-all : (x : Unit) → result ≡ Ok x → Runs b k r i lines disks before now behind mid 0
      served-all x done = inr (record { back = back; mid = mid; result = Ok x; serves = subst (λ z. OverDisks b k r i lines (lent r.program.components disks) before now back mid z) done over-lent; place = behind-is; ends = (refl, refl) })

      pub stopped-short : (after : K) (why : Why) (status : ℕ) → result ≡ Err why → EndsAs k (codes "icserve") (Some r.program) why mid after status → Runs b k r i lines disks before now behind after status
      stopped-short after why status short ends = inr (record { back = back; mid = mid; result = Err why; serves = subst (λ z. OverDisks b k r i lines (lent r.program.components disks) before now back mid z) short over-lent; place = behind-is; ends = ends })
