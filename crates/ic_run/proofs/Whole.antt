-- A run over the disks that were taken out of those of a call, as one over all of them.
use Rattle.std.proofs.Common.{◌≡◌, ◌∙◌, sym, ap, subst, refl, ℕ, ◌≤◌, List, length, Option, Some, inl, inr}
use Rattle.std.specs.Prelude.{slice_get, codes, Result, Ok, Err}
use Rattle.ic_base.specs.declared.refusals.StartWhy.{StartWhy}
use Rattle.ic_base.specs.declared.refusals.StartWhy.TheVariants as starts
use Rattle.ic_disk.specs.Disk.{Keeps}
use Rattle.ic_disk.specs.declared.disk.Disk as disk
use Rattle.ic_disk.specs.declared.sink.Sink as sink
use Rattle.ic_disk.proofs.Disks.{Keeps-refl}
use Rattle.ic_run.specs.Lending.{lent, left_over, merged}
use Rattle.ic_run.proofs.Places.{lent_count, merged_same}
use Rattle.ic_report.specs.Ends.{EndsAs, EndsWith}
use Rattle.ic_report.specs.declared.ending.Why.{Why}
use Rattle.ic_report.specs.declared.ending.Why.TheVariants.{Memory}
use Rattle.ic_plan.specs.declared.run_texts.RunTexts.{RunTexts}
use Rattle.ic_world.specs.Opening as opens
use Rattle.ic_world.specs.Opening.{disks_in, disks_under, Stays}
use Rattle.ic_world.specs.Views.{components_of}
use Rattle.ic_world.proofs.Makings.{kept-count, kept-at}
use Rattle.ic_world.proofs.Places.{same-some}
use Rattle.ic_run.specs.Runs.{HandsBack, IsDone, EndsUnopened, Runs}
use Rattle.ic_run.specs.Worlds.{FailsToOpen, RunsWhole, RunsShort, RunsIn, IsUnopened, RunsOver}
use Rattle.ic_run.specs.declared.opening.Opening.{Opening}
use Rattle.ic_run.specs.declared.opening.Opening.TheVariants.{Anew, Found}
use Rattle.ic_run.proofs.Came.{hands, kept-new}
use Rattle.ic_run.proofs.Over.{whole-keeps, short-keeps}
use Rattle.ic_run.proofs.Ran.{is-done, is-short, is-unopened, stays-self}
use Rattle.ic_run.specs.Agendas.{MayRun}

module _ {D : Type 0} (b : disk.Ghosts D) {K : Type 0} (k : sink.Ghosts K) (r : RunTexts) (opening : Opening) (disks : List D) (few : length r.program.components ≤ length disks) (before : K) where
  abbrev pub given : List D
  given = lent r.program.components disks

  abbrev pub now-of : List D → List D
  now-of back = merged r.program.components (left_over r.program.components disks) back

  -- as many disks are handed back as were taken out, each kept
  pub record KeptBack (back : List D) : Type 0 where
    pub count : length back ≡ disks_in r.program.components
    pub kept : (i : ℕ) (old new : D) → slice_get given i ≡ Some old → slice_get back i ≡ Some new → Keeps b old new

  -- nothing was touched
  same-back : (back : List D) → back ≡ given → KeptBack back
  same-back back is = record {
    count = ap length is ∙ lent_count r.program.components disks few;
    kept = λ i old new at now. subst (Keeps b old) (same-some old new (sym at ∙ sym (ap (λ l. slice_get l i) is) ∙ now)) (Keeps-refl {d = b} old);
  }

  failed-of : (back : List D) (why : Why) (u : IsUnopened b k r opening given back why) (met : Option StartWhy) → opens.FailsToOpen b r.program met given u.refused → KeptBack back
  failed-of back why u met f = record {
    count = ap length u.back ∙ f.count ∙ lent_count r.program.components disks few;
    kept = λ i old new at now. f.kept i old new at (sym (ap (λ l. slice_get l i) u.back) ∙ now);
  }

  failed-back : (back : List D) (why : Why) → IsUnopened b k r opening given back why → KeptBack back
  failed-back back why u = by opening u.fails (failed-of back why u)
    where
      by : (o : Opening) → FailsToOpen b o r.program r.fingerprint given u.refused → ((met : Option StartWhy) → opens.FailsToOpen b r.program met given u.refused → KeptBack back) → KeptBack back
      by Anew f of = of _ f.opens
      by Found f of = of _ f.0

  whole-back : (mid : K) (back : List D) → RunsIn b k (λ old new. RunsWhole k r old new before mid) r opening given back → KeptBack back
  whole-back mid back x =
      let keeps = whole-keeps b k r opening given x.old x.new before mid x.opens x.ran in
      let all = kept-new b r opening disks few x.old x.opens x.new keeps in
      record {
        count = ap length x.back ∙ sym (kept-count b given (disks_under (components_of x.new)) all) ∙ lent_count r.program.components disks few;
        kept = λ i old new at now. kept-at b given (disks_under (components_of x.new)) all i old new at (sym (ap (λ l. slice_get l i) x.back) ∙ now);
      }

  short-back : (mid : K) (back : List D) (why : Why) → RunsIn b k (λ old new. RunsShort b k r old new before mid why) r opening given back → KeptBack back
  short-back mid back why x =
      let keeps = short-keeps b k r opening given x.old x.new before mid x.opens why x.ran in
      let all = kept-new b r opening disks few x.old x.opens x.new keeps in
      record {
        count = ap length x.back ∙ sym (kept-count b given (disks_under (components_of x.new)) all) ∙ lent_count r.program.components disks few;
        kept = λ i old new at now. kept-at b given (disks_under (components_of x.new)) all i old new at (sym (ap (λ l. slice_get l i) x.back) ∙ now);
      }

  pub kept-back : (mid : K) (back : List D) (result : Result Unit Why) → RunsOver b k r opening given back before mid result → KeptBack back
  kept-back mid back (Ok x) ran = whole-back mid back ran
  kept-back mid back (Err why) (inl u) = same-back back u.stay
  kept-back mid back (Err why) (inr (inl u)) = failed-back back why u.1
  kept-back mid back (Err why) (inr (inr x)) = short-back mid back why x

  pub handed-back : (back : List D) → KeptBack back → HandsBack b r.program disks (now-of back)
  handed-back back kept = hands b r.program disks few back kept.count kept.kept

  -- want of memory before a world opened
  pub untried : (tool : List ℕ) (after : K) (why : Why) (status : ℕ) → why ≡ Memory → EndsAs k tool (Some r.program) why before after status → EndsUnopened b k r opening disks disks before after tool status
  untried tool after why status memory ends = record {
    why = starts.Memory;
    cause = λ tell. tt;
    fault = tt;
    stay = λ anew tell some c old new at now. subst (Stays b starts.Memory old) (same-some old new (sym at ∙ now)) (stays-self b starts.Memory old);
    same = λ found c old new at now keeps just. ap (λ d. b.seen d) (same-some new old (sym now ∙ at));
    ends = subst (λ w. EndsAs k tool (Some r.program) w before after status) memory ends;
  }

  -- what was done, by the result
  module _ (may : MayRun r) where
    pub whole-done : (mid : K) (back : List D) (result : Result Unit Why) (x : Unit) → result ≡ Ok x → RunsOver b k r opening given back before mid result → Runs b k r opening disks (now-of back) before mid 0
    whole-done mid back result x is ran =
        let y = subst (λ z. RunsOver b k r opening given back before mid z) is ran in
        inl (refl, subst (λ l. IsDone b k r opening disks (now-of l) before mid) (sym y.back) (is-done b k r opening disks few before mid may y.long y.old y.new y.opens y.ran))

    pub short-done : ((disk : D) → b.keeps disk → b.may_leave disk (b.seen disk)) → (mid after : K) (back : List D) (result : Result Unit Why) (why : Why) (status : ℕ) → result ≡ Err why → RunsOver b k r opening given back before mid result → EndsWith k (Some r.program) why mid after status → Runs b k r opening disks (now-of back) before after status
    short-done may_stay mid after back result why status is ran ends = by (subst (λ z. RunsOver b k r opening given back before mid z) is ran)
      where
        by : RunsOver b k r opening given back before mid (Err why) → Runs b k r opening disks (now-of back) before after status
        by (inl u) =
            let all : now-of back ≡ disks = ap now-of u.stay ∙ merged_same r.program.components disks few in
            subst (λ l. Runs b k r opening disks l before after status) (sym all) (inr (inl (untried (codes "icrun") after why status u.memory (subst (λ m. EndsWith k (Some r.program) why m after status) u.silent ends))))
        by (inr (inl u)) = subst (λ l. Runs b k r opening disks (now-of l) before after status) (sym u.1.back) (inr (inl (is-unopened b k r opening disks few before after (codes "icrun") may_stay u.1.refused mid why status u.0 u.1.told u.1.fails ends)))
        by (inr (inr x)) = subst (λ l. Runs b k r opening disks (now-of l) before after status) (sym x.back) (is-short b k r opening disks few before after may x.long x.old x.new x.opens may_stay mid why status x.ran ends)
