-- The disks of a world that started and over which clients were served.
use Rattle.std.proofs.Common.{◌≡◌, ◌∙◌, sym, ap, ◌≤◌, List, length, OnOk, IfErr, ◌⊎◌, inl, inr}
use Rattle.std.specs.Prelude.{slice_get, Result, Ok, Err}
use Rattle.ic_disk.specs.TornDisks.{Torn}
use Rattle.ic_disk.specs.Torns.{torn}
use Rattle.ic_disk.specs.declared.disk.Disk as disk
use Rattle.ic_disk.specs.declared.sink.Sink as sink
use Rattle.ic_plan.specs.declared.run_texts.RunTexts.{RunTexts}
use Rattle.ic_report.specs.declared.ending.Why.{Why}
use Rattle.ic_run.specs.Lending.{lent}
use Rattle.ic_run.specs.Running.{KeepsAll}
use Rattle.ic_run.specs.Worlds.{Opens, RunsIn}
use Rattle.ic_run.specs.declared.opening.Opening.TheVariants.{Anew}
use Rattle.ic_run.specs.declared.running.Cut.{Cut}
use Rattle.ic_run.specs.declared.running.Cut.TheVariants as cuts
use Rattle.ic_run.proofs.Came.{kept-new}
use Rattle.ic_run.proofs.Opened.{opened-new}
use Rattle.ic_run.proofs.Places.{lent_count}
use Rattle.ic_run.proofs.Under.{all-under}
use Rattle.ic_run.proofs.Whole.{KeptBack, kept-back}
use Rattle.ic_run.proofs.Worlds.{keeps-more}
use Rattle.ic_settle.specs.Policies.{intervals_of}
use Rattle.ic_world.specs.Opening.{disks_under}
use Rattle.ic_world.specs.Views.{components_of}
use Rattle.ic_world.specs.declared.world.World.{World}
use Rattle.ic_world.proofs.Makings.{kept-count, kept-at}
use Rattle.ic_clients.specs.Working.{LinesUntold, NoteUntold, ClientsCut}
use Rattle.ic_clients.specs.Worlds.{items_of, RunsWhole, RunsShort, RunsOver}

module _ {D : Type 0} (b : disk.Ghosts D) {K : Type 0} (k : sink.Ghosts K) (r : RunTexts) (given : List D) (old new : World (Torn D) (torn b)) (before after : K) (opened : Opens b Anew r.program r.fingerprint given old) where
  untold-keeps : (cut : Cut) → LinesUntold k r.program (intervals_of r.policy) r.policy.report (items_of r) r.schedule.halts old new before after cut ⊎ NoteUntold k r.program (intervals_of r.policy) r.policy.report (items_of r) old new before after cut → KeepsAll old new
  untold-keeps cut (inl u) = u.leads.disks
  untold-keeps cut (inr u) = u.worked_off.leads.disks

  cut-keeps : (cut : Cut) → ClientsCut b k r.program (intervals_of r.policy) r.policy.report (items_of r) r.schedule.halts old new before after cut → KeepsAll old new
  cut-keeps (cuts.Refused w) was = keeps-more old was.now new was.event.what was.leads.disks was.disks
  cut-keeps cuts.Print was = untold-keeps cuts.Print was
  cut-keeps cuts.Memory was = untold-keeps cuts.Memory was

  pub short-keeps : (why : Why) → RunsShort b k r old new before after why → KeepsAll old new
  short-keeps why (inl c) = cut-keeps c.cut c.was
  short-keeps why (inr u) = u.ran.leads.disks

  ran-keeps : {T : Type 0} (result : Result T Why) → OnOk result (RunsWhole k r old new before after) → IfErr result (RunsShort b k r old new before after) → KeepsAll old new
  ran-keeps (Ok x) done short = done.ran.leads.disks
  ran-keeps (Err why) done short = short-keeps why short

  pub count-under : {T : Type 0} (result : Result T Why) → OnOk result (RunsWhole k r old new before after) → IfErr result (RunsShort b k r old new before after) → length (disks_under (components_of new)) ≡ length given
  count-under result done short =
      sym (kept-count b (disks_under (components_of old)) (disks_under (components_of new)) (all-under b old new (ran-keeps result done short)))
      ∙ sym (kept-count b given (disks_under (components_of old)) (opened-new b r.program r.fingerprint given old Anew opened).disks)

  pub ran-over : length r.fingerprint ≡ 32 → (back : List D) → back ≡ disks_under (components_of new) → (result : Result Unit Why) → OnOk result (RunsWhole k r old new before after) → IfErr result (RunsShort b k r old new before after) → RunsOver b k r given back before after result
  ran-over long back is (Ok x) done short = record { old = old; new = new; opens = opened; ran = done; back = is; long = long }
  ran-over long back is (Err why) done short = inr (inr (record { old = old; new = new; opens = opened; ran = short; back = is; long = long }))

-- as many disks are handed back as were taken out, each kept
module _ {D : Type 0} (b : disk.Ghosts D) {K : Type 0} (k : sink.Ghosts K) (r : RunTexts) (disks : List D) (few : length r.program.components ≤ length disks) (before mid : K) where
  in-back : (Ran : World (Torn D) (torn b) → World (Torn D) (torn b) → Type 0) → ((old new : World (Torn D) (torn b)) → Opens b Anew r.program r.fingerprint (lent r.program.components disks) old → Ran old new → KeepsAll old new) → (back : List D) → RunsIn b k Ran r Anew (lent r.program.components disks) back → KeptBack b k r Anew disks few before back
  in-back Ran keeps back x =
      let all = kept-new b r Anew disks few x.old x.opens x.new (keeps x.old x.new x.opens x.ran) in
      record {
        count = ap length x.back ∙ sym (kept-count b (lent r.program.components disks) (disks_under (components_of x.new)) all) ∙ lent_count r.program.components disks few;
        kept = λ i old new at now. kept-at b (lent r.program.components disks) (disks_under (components_of x.new)) all i old new at (sym (ap (λ l. slice_get l i) x.back) ∙ now);
      }

  pub all-kept : (back : List D) (result : Result Unit Why) → RunsOver b k r (lent r.program.components disks) back before mid result → KeptBack b k r Anew disks few before back
  all-kept back (Ok x) ran = in-back (λ old new. RunsWhole k r old new before mid) (λ old new opened done. done.ran.leads.disks) back ran
  all-kept back (Err why) (inl u) = kept-back b k r Anew disks few before mid back (Err why) (inl u)
  all-kept back (Err why) (inr (inl u)) = kept-back b k r Anew disks few before mid back (Err why) (inr (inl u))
  all-kept back (Err why) (inr (inr x)) = in-back (λ old new. RunsShort b k r old new before mid why) (λ old new opened short. short-keeps b k r (lent r.program.components disks) old new before mid opened why short) back x
