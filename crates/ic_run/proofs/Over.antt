-- The disks of a world that opened and was run.
use Rattle.std.proofs.Common.{◌≡◌, ◌∙◌, sym, List, length, OnOk, IfErr, inl, inr}
use Rattle.std.specs.Prelude.{Result, Ok, Err}
use Rattle.ic_disk.specs.TornDisks.{Torn}
use Rattle.ic_disk.specs.declared.disk.Disk as disk
use Rattle.ic_disk.specs.declared.sink.Sink as sink
use Rattle.ic_run.specs.Running.{KeepsAll, pieces_of, WasCut}
use Rattle.ic_run.specs.declared.running.Cut.{Cut}
use Rattle.ic_run.specs.declared.running.Cut.TheVariants as cuts
use Rattle.ic_run.proofs.Worlds.{keeps-more}
use Rattle.ic_disk.specs.Torns.{torn}
use Rattle.ic_report.specs.declared.ending.Why.{Why}
use Rattle.ic_settle.specs.Policies.{intervals_of}
use Rattle.ic_plan.specs.declared.run_texts.RunTexts.{RunTexts}
use Rattle.ic_world.specs.Opening.{disks_under}
use Rattle.ic_world.specs.Views.{components_of}
use Rattle.ic_world.specs.declared.world.World.{World}
use Rattle.ic_world.proofs.Makings.{kept-count}
use Rattle.ic_run.specs.Worlds.{Opens, RunsWhole, RunsShort, RunsOver, agenda_of}
use Rattle.ic_run.specs.declared.opening.Opening.{Opening}
use Rattle.ic_run.proofs.Opened.{opened-new}
use Rattle.ic_run.proofs.Under.{all-under}

module _ {D : Type 0} (b : disk.Ghosts D) {K : Type 0} (k : sink.Ghosts K) (r : RunTexts) (opening : Opening) (given : List D) (old new : World (Torn D) (torn b)) (before after : K) (opened : Opens b opening r.program r.fingerprint given old) where
  cut-keeps : (cut : Cut) → WasCut b k r.program (intervals_of r.policy) (pieces_of r.program r.policy.report) 0 (agenda_of r) old new before after cut → KeepsAll old new
  cut-keeps (cuts.Refused w) was = keeps-more old was.now new was.event.what was.goes.disks was.disks
  cut-keeps cuts.Print was = was.goes.disks
  cut-keeps cuts.Memory was = was.goes.disks

  pub short-keeps : (why : Why) → RunsShort b k r old new before after why → KeepsAll old new
  short-keeps why (inl c) = cut-keeps c.cut c.was
  short-keeps why (inr u) = u.goes.disks

  pub whole-keeps : RunsWhole k r old new before after → KeepsAll old new
  whole-keeps done = done.goes.disks

  ran-keeps : {T : Type 0} (result : Result T Why) → OnOk result (RunsWhole k r old new before after) → IfErr result (RunsShort b k r old new before after) → KeepsAll old new
  ran-keeps (Ok x) done short = done.goes.disks
  ran-keeps (Err why) done short = short-keeps why short

  pub count-under : {T : Type 0} (result : Result T Why) → OnOk result (RunsWhole k r old new before after) → IfErr result (RunsShort b k r old new before after) → length (disks_under (components_of new)) ≡ length given
  count-under result done short =
      sym (kept-count b (disks_under (components_of old)) (disks_under (components_of new)) (all-under b old new (ran-keeps result done short)))
      ∙ sym (kept-count b given (disks_under (components_of old)) (opened-new b r.program r.fingerprint given old opening opened).disks)

  pub ran-over : length r.fingerprint ≡ 32 → (back : List D) → back ≡ disks_under (components_of new) → (result : Result Unit Why) → OnOk result (RunsWhole k r old new before after) → IfErr result (RunsShort b k r old new before after) → RunsOver b k r opening given back before after result
  ran-over long back is (Ok x) done short = record { old = old; new = new; opens = opened; ran = done; back = is; long = long }
  ran-over long back is (Err why) done short = inr (inr (record { old = old; new = new; opens = opened; ran = short; back = is; long = long }))
