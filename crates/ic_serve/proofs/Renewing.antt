-- Lines that are served over a world that opened, and over that world renewed.
use Rattle.std.proofs.Common.{◌≡◌, ◌∙◌, sym, subst, refl, length, List, IfOk, IfErr, Option, Some}
use Rattle.std.specs.Prelude.{Result, Ok, IfSome}
use Rattle.ic_disk.specs.TornDisks.{Torn}
use Rattle.ic_disk.specs.Torns.{torn}
use Rattle.ic_disk.specs.declared.disk.Disk as disk
use Rattle.ic_disk.specs.declared.sink.Sink as sink
use Rattle.ic_lines.specs.declared.lines.Lines as source
use Rattle.ic_plan.specs.declared.run_texts.ServedTexts.{ServedTexts}
use Rattle.ic_report.specs.declared.ending.Why.{Why}
use Rattle.ic_report.specs.declared.ending.Why.TheVariants.{Memory}
use Rattle.ic_run.specs.Running.{KeepsAll}
use Rattle.ic_run.proofs.Under.{all-under}
use Rattle.ic_world.specs.Allowing.{GoesOn}
use Rattle.ic_world.specs.Opening.{AllKept, Finds, disks_under}
use Rattle.ic_world.specs.Renewing.{Renews}
use Rattle.ic_world.specs.Views.{components_of, print_of}
use Rattle.ic_world.specs.declared.world.World.{World}
use Rattle.ic_world.proofs.Makings.{kept-trans}
use Rattle.ic_serve.specs.Opening.{Opens}
use Rattle.ic_serve.specs.Reading.{MayBeServed}
use Rattle.ic_serve.specs.Runs.{Between, StretchOver, ServesWorlds, StopsShort, at_opening}
use Rattle.ic_serve.specs.Serving.{Moment}
use Rattle.ic_serve.specs.Worlds.{ServesWorld, StopsWorld}
use Rattle.ic_serve.specs.declared.line.Line as code
use Rattle.ic_serve.specs.declared.stretch.First.TheVariants.{Opening, Line as ALine}
use Rattle.ic_serve.proofs.Handed.{stretch-kept}
use Rattle.ic_serve.proofs.Stretches.{stretch-over, one-more, no-more}

module _ {D : Type 0} (b : disk.Ghosts D) {K : Type 0} (k : sink.Ghosts K) (r : ServedTexts) {I : Type 0} (i : source.Ghosts I) (begin : Moment (torn b) I K) where
  -- what stands between two worlds, the first of which is to be renewed
  abbrev pub behind : Moment (torn b) I K → Between D I K
  behind m = record { source = m.source; service = m.service; disks = disks_under (components_of m.world); out = m.out }

  abbrev pub started : List D → Between D I K
  started disks = record { source = begin.source; service = begin.service; disks = disks; out = begin.out }

  -- over whatever disks the first world opened
  abbrev pub FromOpening : (Between D I K → Type 0) → Type 0
  FromOpening P = (disks : List D) → Opens b r.program r.fingerprint disks begin.world → P (started disks)

  -- worlds were served up to this one, which is renewed for a line
  pub record IsServedUpTo (m : Moment (torn b) I K) (line : code.Line) : Type 0 where
    pub goes_on : GoesOn r.program m.world
    pub count : length (components_of m.world) ≡ length r.program.components
    pub print : print_of m.world ≡ r.fingerprint
    pub serves : FromOpening (λ s. ServesWorlds b k r i s (ALine line) (behind m))
    pub may : MayBeServed r.program line
    pub kept : AllKept b (disks_under (components_of begin.world)) (disks_under (components_of m.world))

  module _ (long : length r.fingerprint ≡ 32) (now : Moment (torn b) I K) where
    -- the first of them
    pub first-over : KeepsAll begin.world now.world → (result : Result (Option code.Line) Why) → IfOk result (ServesWorld b k r i Opening begin now) → IfErr result (StopsWorld b k r i Opening begin now) → FromOpening (λ s. StretchOver b k r i Opening s (behind now) result)
    first-over keeps result serves short disks opens =
        stretch-over b k r i long Opening begin.source now.source begin.service now.service disks begin.out now.out begin.world now.world opens keeps (disks_under (components_of now.world)) refl result serves short

    pub first-served : length (components_of begin.world) ≡ length r.program.components → print_of begin.world ≡ r.fingerprint → KeepsAll begin.world now.world → (next : Option code.Line) (line : code.Line) → next ≡ Some line → ServesWorld b k r i Opening begin now next → IfSome next (MayBeServed r.program) → IsServedUpTo now line
    first-served count print keeps next line some serves may = record {
      goes_on = serves.settled.goes_on;
      count = keeps.count ∙ count;
      print = keeps.print ∙ print;
      serves = λ disks opens. one-more b k r i (started disks) (started disks) Opening at_opening (behind now) (Ok next) (first-over keeps (Ok next) serves tt disks opens) line next refl some;
      may = subst (λ o. IfSome o (MayBeServed r.program)) some may;
      kept = all-under b begin.world now.world keeps;
    }

    module _ (was : Moment (torn b) I K) (line : code.Line) (up : IsServedUpTo was line) where
      -- memory was wanting for the next one
      pub unrenewed : (w : World (Torn D) (torn b)) → disks_under (components_of w) ≡ disks_under (components_of was.world) → FromOpening (λ s. StopsShort b k r i s (record { source = was.source; service = was.service; disks = disks_under (components_of w); out = was.out }) Memory)
      unrenewed w same disks opens =
          let P : List D → Type 0 = λ l. StopsShort b k r i (started disks) (record { source = was.source; service = was.service; disks = l; out = was.out }) Memory in
          subst P (sym same) (no-more b k r i (started disks) (behind was) (ALine line) (up.serves disks opens))

      module _ (old : World (Torn D) (torn b)) (renews : Renews b was.world old) where
        pub finds : Finds b r.program r.fingerprint (disks_under (components_of was.world)) old
        finds = subst (λ print. Finds b r.program print (disks_under (components_of was.world)) old) up.print (renews r.program up.goes_on.made up.count)

        abbrev opened : Moment (torn b) I K
        opened = record { source = was.source; service = was.service; world = old; out = was.out }

        pub next-kept : KeepsAll old now.world → AllKept b (disks_under (components_of begin.world)) (disks_under (components_of now.world))
        next-kept keeps =
            kept-trans b (disks_under (components_of begin.world)) (disks_under (components_of was.world)) (disks_under (components_of now.world)) up.kept
            (stretch-kept b r.program r.fingerprint (ALine line) (disks_under (components_of was.world)) old now.world finds keeps)

        pub next-over : KeepsAll old now.world → (result : Result (Option code.Line) Why) → IfOk result (ServesWorld b k r i (ALine line) opened now) → IfErr result (StopsWorld b k r i (ALine line) opened now) → StretchOver b k r i (ALine line) (behind was) (behind now) result
        next-over keeps result serves short =
            stretch-over b k r i long (ALine line) was.source now.source was.service now.service (disks_under (components_of was.world)) was.out now.out old now.world finds keeps (disks_under (components_of now.world)) refl result serves short

        pub next-served : KeepsAll old now.world → (next : Option code.Line) (another : code.Line) → next ≡ Some another → ServesWorld b k r i (ALine line) opened now next → IfSome next (MayBeServed r.program) → IsServedUpTo now another
        next-served keeps next another some serves may = record {
          goes_on = serves.settled.goes_on;
          count = keeps.count ∙ finds.is_new.count;
          print = keeps.print ∙ finds.is_new.is_own;
          serves = λ disks opens. one-more b k r i (started disks) (behind was) (ALine line) (up.serves disks opens) (behind now) (Ok next) (next-over keeps (Ok next) serves tt) another next refl some;
          may = subst (λ o. IfSome o (MayBeServed r.program)) some may;
          kept = next-kept keeps;
        }
