-- The disks of a world that started and over which orders were carried out.
use Rattle.std.proofs.Common.{◌≡◌, ◌∙◌, sym, ap, subst, ◌≤◌, List, length, OnOk, IfErr, ◌⊎◌, inl, inr}
use Rattle.std.specs.Prelude.{slice_get, Result, Ok, Err}
use Rattle.ic_disk.specs.TornDisks.{Torn}
use Rattle.ic_disk.specs.Torns.{torn}
use Rattle.ic_disk.specs.declared.disk.Disk as disk
use Rattle.ic_disk.specs.declared.sink.Sink as sink
use Rattle.ic_failover.proofs.Keeping.{carry_keeps, settle_keeps, through_keeps}
use Rattle.ic_failover.specs.Carrying.{Stage, FailsToCarryAll, FailsToSettle}
use Rattle.ic_failover.specs.Worlds.{as_texts, Begins, RunsWhole, RunsShort, RunsOver}
use Rattle.ic_failover.specs.declared.texts.FailoverTexts.{FailoverTexts}
use Rattle.ic_report.specs.declared.ending.Why.{Why}
use Rattle.ic_run.proofs.Came.{kept-new}
use Rattle.ic_run.proofs.Lasting.{keeps-self}
use Rattle.ic_run.proofs.Opened.{opened-new}
use Rattle.ic_run.proofs.Places.{lent_count}
use Rattle.ic_run.proofs.Under.{all-under}
use Rattle.ic_run.proofs.Whole.{KeptBack, kept-back}
use Rattle.ic_run.specs.Lending.{lent}
use Rattle.ic_run.specs.Running.{KeepsAll}
use Rattle.ic_run.specs.Worlds.{Opens, RunsIn}
use Rattle.ic_run.specs.declared.opening.Opening.TheVariants.{Anew}
use Rattle.ic_world.proofs.Makings.{kept-count, kept-at}
use Rattle.ic_world.specs.Opening.{disks_under}
use Rattle.ic_world.specs.Views.{components_of}
use Rattle.ic_world.specs.declared.world.World.{World}

module _ {D : Type 0} (b : disk.Ghosts D) {K : Type 0} (k : sink.Ghosts K) (r : FailoverTexts) (given : List D) (old new : World (Torn D) (torn b)) (before after : K) (opened : Opens b Anew r.program r.fingerprint given old) where
  begun-keeps : (a : Stage (torn b) K) → Begins r old before a → KeepsAll a.world new → KeepsAll old new
  begun-keeps a begins keeps = subst (λ z. KeepsAll z new) begins.world keeps

  whole-keeps : RunsWhole k r old new before after → KeepsAll old new
  whole-keeps w = begun-keeps w.through.first w.through.begins (through_keeps k r w.through.first new w.mid w.shipped w.tally w.through.went)

  pub short-keeps : (why : Why) → RunsShort b k r old new before after why → KeepsAll old new
  short-keeps why (inl c) = by c.short.was
    where
      by : FailsToCarryAll b k r c.short.first new after c.cut ⊎ FailsToSettle b k r c.short.first new after c.cut → KeepsAll old new
      by (inl f) = begun-keeps c.short.first c.short.begins (carry_keeps b k r c.short.first new after c.cut f)
      by (inr f) = begun-keeps c.short.first c.short.begins (settle_keeps b k r c.short.first new after c.cut f)
  short-keeps why (inr (inl u)) = begun-keeps u.through.first u.through.begins (through_keeps k r u.through.first new u.mid u.shipped u.tally u.through.went)
  short-keeps why (inr (inr u)) = subst (λ z. KeepsAll old z) (sym u.1) (keeps-self old)

  ran-keeps : {T : Type 0} (result : Result T Why) → OnOk result (RunsWhole k r old new before after) → IfErr result (RunsShort b k r old new before after) → KeepsAll old new
  ran-keeps (Ok x) done short = whole-keeps done
  ran-keeps (Err why) done short = short-keeps why short

  pub count-under : {T : Type 0} (result : Result T Why) → OnOk result (RunsWhole k r old new before after) → IfErr result (RunsShort b k r old new before after) → length (disks_under (components_of new)) ≡ length given
  count-under result done short =
      sym (kept-count b (disks_under (components_of old)) (disks_under (components_of new)) (all-under b old new (ran-keeps result done short)))
      ∙ sym (kept-count b given (disks_under (components_of old)) (opened-new b r.program r.fingerprint given old Anew opened).disks)

  pub ran-over : length r.fingerprint ≡ 32 → (back : List D) → back ≡ disks_under (components_of new) → (result : Result Unit Why) → OnOk result (RunsWhole k r old new before after) → IfErr result (RunsShort b k r old new before after) → RunsOver b k r given back before after result
  ran-over long back is (Ok x) done short = record { old = old; new = new; opens = opened; ran = done; back = is; long = long }
  ran-over long back is (Err why) done short = inr (inr (record { old = old; new = new; opens = opened; ran = short; back = is; long = long }))

-- as many disks are handed back as were taken out, each kept
module _ {D : Type 0} (b : disk.Ghosts D) {K : Type 0} (k : sink.Ghosts K) (r : FailoverTexts) (disks : List D) (few : length r.program.components ≤ length disks) (before mid : K) where
  in-back : (Ran : World (Torn D) (torn b) → World (Torn D) (torn b) → Type 0) → ((old new : World (Torn D) (torn b)) → Opens b Anew r.program r.fingerprint (lent r.program.components disks) old → Ran old new → KeepsAll old new) → (back : List D) → RunsIn b k Ran (as_texts r) Anew (lent r.program.components disks) back → KeptBack b k (as_texts r) Anew disks few before back
  in-back Ran keeps back x =
      let all = kept-new b (as_texts r) Anew disks few x.old x.opens x.new (keeps x.old x.new x.opens x.ran) in
      record {
        count = ap length x.back ∙ sym (kept-count b (lent r.program.components disks) (disks_under (components_of x.new)) all) ∙ lent_count r.program.components disks few;
        kept = λ i old new at now. kept-at b (lent r.program.components disks) (disks_under (components_of x.new)) all i old new at (sym (ap (λ l. slice_get l i) x.back) ∙ now);
      }

  pub all-kept : (back : List D) (result : Result Unit Why) → RunsOver b k r (lent r.program.components disks) back before mid result → KeptBack b k (as_texts r) Anew disks few before back
  all-kept back (Ok x) ran = in-back (λ old new. RunsWhole k r old new before mid) (λ old new opened done. whole-keeps b k r (lent r.program.components disks) old new before mid opened done) back ran
  all-kept back (Err why) (inl u) = kept-back b k (as_texts r) Anew disks few before mid back (Err why) (inl u)
  all-kept back (Err why) (inr (inl u)) = kept-back b k (as_texts r) Anew disks few before mid back (Err why) (inr (inl u))
  all-kept back (Err why) (inr (inr x)) = in-back (λ old new. RunsShort b k r old new before mid why) (λ old new opened short. short-keeps b k r (lent r.program.components disks) old new before mid opened why short) back x
