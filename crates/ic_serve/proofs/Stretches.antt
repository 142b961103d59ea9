-- Lines that are served over one world, and over the next one.
use Rattle.std.proofs.Common.{◌≡◌, ◌∙◌, sym, ap, subst, refl, length, List, IfOk, IfErr, Option, Some, None, inl, inr}
use Rattle.std.specs.Prelude.{Result, Ok, Err}
use Rattle.ic_disk.specs.TornDisks.{Torn}
use Rattle.ic_disk.specs.Torns.{torn}
use Rattle.ic_disk.specs.declared.disk.Disk as disk
use Rattle.ic_disk.specs.declared.sink.Sink as sink
use Rattle.ic_lines.specs.declared.lines.Lines as source
use Rattle.ic_plan.specs.declared.run_texts.ServedTexts.{ServedTexts}
use Rattle.ic_report.specs.declared.ending.Why.{Why}
use Rattle.ic_run.specs.Running.{KeepsAll}
use Rattle.ic_world.specs.Opening.{disks_under}
use Rattle.ic_world.specs.Views.{components_of}
use Rattle.ic_world.specs.declared.world.World.{World}
use Rattle.ic_report.specs.declared.ending.Why.TheVariants.{Memory}
use Rattle.ic_serve.specs.Runs.{Between, OpensFor, StretchOver, ServesWorlds, ServesToEnd, StopsShort, HoldSound, KnowsDisksFor, AreSound, behind_another, first_behind, stopped}
use Rattle.ic_serve.specs.Serving.{Moment, IsSettledFrom}
use Rattle.ic_serve.specs.Worlds.{IsTakenUp, Begins, HasServed, FailsToServeOn, EndsWorld, FailsToEnd, ServesWorld, StopsWorld, unserved_on, unended}
use Rattle.ic_serve.specs.declared.line.Line as code
use Rattle.ic_serve.specs.declared.service.Service.{Service}
use Rattle.law_run.specs.ProgramBytes.{IsFit}
use Rattle.ic_serve.proofs.Handed.{opened-forced}
use Rattle.ic_serve.proofs.Sound.{stands-soundly, stretch-sound, worlds-sound}
use Rattle.ic_serve.specs.declared.stretch.First.{First}
use Rattle.ic_serve.specs.declared.stretch.First.TheVariants.{Line as ALine}

module _ {D : Type 0} (b : disk.Ghosts D) {K : Type 0} (k : sink.Ghosts K) (r : ServedTexts) {I : Type 0} (i : source.Ghosts I) (long : length r.fingerprint ≡ 32) (first : First) (lines lines_now : I) (service service_now : Service) (disks : List D) (before after : K) (old new : World (Torn D) (torn b)) where
  pub stretch-over : OpensFor b r.program r.fingerprint first disks old → KeepsAll old new → (back : List D) → back ≡ disks_under (components_of new) → (result : Result (Option code.Line) Why)
      → IfOk result (ServesWorld b k r i first (record { source = lines; service = service; world = old; out = before }) (record { source = lines_now; service = service_now; world = new; out = after }))
      → IfErr result (StopsWorld b k r i first (record { source = lines; service = service; world = old; out = before }) (record { source = lines_now; service = service_now; world = new; out = after }))
      → StretchOver b k r i first (record { source = lines; service = service; disks = disks; out = before }) (record { source = lines_now; service = service_now; disks = back; out = after }) result
  stretch-over opens kept back is (Ok next) done short = record { old = old; new = new; opens = opens; stands = stands-soundly b r.program r.fingerprint long first disks old opens; forced = opened-forced b r.program r.fingerprint first disks old opens; serves = done; disks = kept; back = is; sound = sound }
    where
      was : Moment (torn b) I K
      was = record { source = lines; service = service; world = old; out = before }

      now : Moment (torn b) I K
      now = record { source = lines_now; service = service_now; world = new; out = after }

      sound : IsFit r.program → HoldSound b r.program r.fingerprint first disks → KnowsDisksFor b r.program r.fingerprint first service.front.taken disks → HoldSound b r.program r.fingerprint (first_behind next) back × KnowsDisksFor b r.program r.fingerprint (first_behind next) service_now.front.taken back
      sound fit h requests =
          let P : List D → Type 0 = λ l. HoldSound b r.program r.fingerprint (first_behind next) l × KnowsDisksFor b r.program r.fingerprint (first_behind next) service_now.front.taken l in
          subst P (sym is) (stretch-sound b k r i long first disks old new opens fit h kept done.settled next was now refl refl requests done)
  stretch-over opens kept back is (Err why) done short = stopped old new opens (stands-soundly b r.program r.fingerprint long first disks old opens) short kept is

-- a world that was just opened was taken up
module _ {D : Type 0} (b : disk.Ghosts D) {d : disk.Ghosts (Torn D)} {K : Type 0} (k : sink.Ghosts K) (r : ServedTexts) {I : Type 0} (i : source.Ghosts I) (first : First) (was opened : Moment d I K) (up : IsTakenUp b k r first was.service opened.service was.world opened.world was.out opened.out) (same : opened.source ≡ was.source) where
  begins : Begins b k r i first was opened
  begins = record { up = up; source = same }

  pub stops-serving : (now : Moment d I K) (why : Why) → FailsToServeOn b k r i opened now why → StopsWorld b k r i first was now why
  stops-serving now why fails = unserved_on opened begins fails

  module _ (rest : Moment d I K) (next other : Option code.Line) (is : next ≡ other) (served : HasServed b k r i opened rest next) (now : Moment d I K) (stays : now.source ≡ rest.source) where
    served-as : HasServed b k r i opened rest other
    served-as = let P : Option code.Line → Type 0 = λ o. HasServed b k r i opened rest o in subst P is served

    pub ends-world : EndsWorld b k r i other rest now → IsSettledFrom r.program was.world now.world → ServesWorld b k r i first was now other
    ends-world ends from = record { opened = opened; rest = rest; begins = begins; served = served-as; ends = ends; settled = from; source = stays }

    pub stops-ending : (why : Why) → FailsToEnd b k r i other rest now why → StopsWorld b k r i first was now why
    stops-ending why fails = unended opened rest other begins served-as fails stays

-- from a start worlds were served one behind another, up to what comes first over the next one
module _ {D : Type 0} (b : disk.Ghosts D) {K : Type 0} (k : sink.Ghosts K) (r : ServedTexts) {I : Type 0} (i : source.Ghosts I) (start here : Between D I K) (first : First) (so_far : ServesWorlds b k r i start first here) where
  -- the run can't go on
  pub no-more : StopsShort b k r i start here Memory
  no-more = record { first = first; last = here; serves = so_far; sound = worlds-sound b k r i start first here so_far; stops = inr (refl, refl) }

  module _ (now : Between D I K) (result : Result (Option code.Line) Why) (over : StretchOver b k r i first here now result) where
    over-as : (other : Result (Option code.Line) Why) → result ≡ other → StretchOver b k r i first here now other
    over-as other is = let P : Result (Option code.Line) Why → Type 0 = λ x. StretchOver b k r i first here now x in subst P is over

    pub one-more : (line : code.Line) (next : Option code.Line) → result ≡ Ok next → next ≡ Some line → ServesWorlds b k r i start (ALine line) now
    one-more line next is some = behind_another so_far (over-as (Ok (Some line)) (is ∙ ap (λ o. Ok o) some))

    pub to-end : (next : Option code.Line) → result ≡ Ok next → next ≡ None → ServesToEnd b k r i start now
    to-end next is none = record { first = first; last = here; serves = so_far; ends = last; sound = so; sound_behind = λ fit h. let z = so fit h in (last.sound fit z.0 z.1).0 }
      where
        last : StretchOver b k r i first here now (Ok None)
        last = over-as (Ok None) (is ∙ ap (λ o. Ok o) none)

        so : AreSound b k r i start first here
        so = worlds-sound b k r i start first here so_far

    pub stops-short : (why : Why) → result ≡ Err why → StopsShort b k r i start now why
    stops-short why is = record { first = first; last = here; serves = so_far; sound = worlds-sound b k r i start first here so_far; stops = inl (over-as (Err why) is) }
