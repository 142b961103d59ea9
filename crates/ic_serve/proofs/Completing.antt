-- A call in which nothing goes wrong serves all lines, or reaches a limit.
use Rattle.std.proofs.Common.{◌≡◌, ◌∙◌, sym, ap, subst, refl, ℕ, ◌≤◌, length, List, ◌⊎◌, inl, inr, Some}
use Rattle.std.specs.Prelude.{Result, Ok, Err, codes}
use Rattle.law_run.specs.ProgramBytes.{IsFit}
use Rattle.ic_disk.specs.Causes.{Rose}
use Rattle.ic_disk.specs.declared.disk.Disk as disk
use Rattle.ic_disk.specs.declared.sink.Sink as sink
use Rattle.ic_lines.specs.declared.lines.Lines as source
use Rattle.ic_plan.specs.declared.run_texts.ServedTexts.{ServedTexts}
use Rattle.ic_report.specs.Ends.{EndsAs}
use Rattle.ic_report.specs.declared.ending.Why.{Why}
use Rattle.ic_report.specs.declared.ending.Why.TheVariants.{Print, Memory}
use Rattle.ic_run.proofs.Came.{failed-at}
use Rattle.ic_run.specs.Lending.{lent}
use Rattle.ic_run.specs.Runs.{HasFailed}
use Rattle.ic_world.proofs.Makings.{kept-trans}
use Rattle.ic_world.specs.Opening.{AllKept}
use Rattle.ic_serve.proofs.Handed.{back-count}
use Rattle.ic_serve.proofs.Stopping.{CauseOf, of_memory, of_disk, of_source, of_output, of_limit, stretch-cause, stops-kept, worlds-later, cause-since}
use Rattle.ic_serve.specs.Completing.{EndsAtLimit, Completes}
use Rattle.ic_serve.specs.Runs.{Between, HoldSound, ServesOver, StopsShort, StopsStretch, Ends, Runs, WasServed}
use Rattle.ic_serve.specs.declared.stretch.First.TheVariants.{Opening}

module _ {D : Type 0} (b : disk.Ghosts D) {K : Type 0} (k : sink.Ghosts K) (r : ServedTexts) {I : Type 0} (i : source.Ghosts I) where
  module _ (start now : Between D I K) (why : Why) (s : StopsShort b k r i start now why) where
    -- why lines weren't all served
    short-cause : IsFit r.program → HoldSound b r.program r.fingerprint Opening start.disks → CauseOf b k r i start now why
    short-cause fit h = cause-since b k r i start s.last now why (worlds-later b k r i start s.first s.last s.serves) (by s.stops)
      where
        by : StopsStretch b k r i s.first s.last now why ⊎ ((why ≡ Memory) × (now ≡ s.last)) → CauseOf b k r i s.last now why
        by (inl stops) = stretch-cause b k r i s.first s.last now why fit (s.sound fit h).0 stops
        by (inr m) = of_memory m.0

    short-kept : AllKept b start.disks now.disks
    short-kept = by s.stops
      where
        before : AllKept b start.disks s.last.disks
        before = (worlds-later b k r i start s.first s.last s.serves).disks

        by : StopsStretch b k r i s.first s.last now why ⊎ ((why ≡ Memory) × (now ≡ s.last)) → AllKept b start.disks now.disks
        by (inl stops) = kept-trans b start.disks s.last.disks now.disks before (stops-kept b k r i s.first s.last now why stops)
        by (inr m) = subst (λ (n : Between D I K). AllKept b start.disks n.disks) (sym m.1) before

  module _ (lines : I) (disks : List D) (before : K) (lines_now : I) (now : List D) (after : K) (status : ℕ) (fit : IsFit r.program) (few : length r.program.components ≤ length disks) where
    served : WasServed b k r i lines disks before lines_now now after status → Completes b k r i lines disks before lines_now now after status
    served s calm = by s.result refl s.serves.serves s.ends
      where
        from : Between D I K
        from = record { source = lines; service = s.serves.service; disks = lent r.program.components disks; out = before }

        to : Between D I K
        to = record { source = lines_now; service = s.serves.behind; disks = s.back; out = s.mid }

        by : (result : Result Unit Why) → s.result ≡ result → ServesOver b k r i from to result → Ends b k r i lines disks before lines_now now after status s.mid result → (status ≡ 0) ⊎ ((status ≡ 12) ⊎ EndsAtLimit b k r i lines disks before lines_now now after status)
        by (Ok x) is over ends = inl ends.0
        by (Err why) is over ends = at (short-cause from to why over fit calm.sound)
          where
            ends-as : (other : Why) → why ≡ other → EndsAs k (codes "icserve") (Some r.program) other s.mid after status
            ends-as other same = subst (λ w. EndsAs k (codes "icserve") (Some r.program) w s.mid after status) same ends

            at : CauseOf b k r i from to why → (status ≡ 0) ⊎ ((status ≡ 12) ⊎ EndsAtLimit b k r i lines disks before lines_now now after status)
            at (of_memory memory) = inr (inl (ends-as Memory memory).0)
            at (of_disk c f) =
                let count = back-count b r.program disks few s.back (short-kept from to why over) in
                absurd (calm.working c (subst (λ l. HasFailed b disks l c) (sym s.place) (failed-at b r.program disks few s.back count c f.before f.now f.has f.was f.is f.fault)))
            at (of_source rose) = absurd (calm.source rose)
            at (of_output print rose) = absurd (calm.output (subst (λ o. Rose (k.faults before) (k.faults o)) (sym (ends-as Print print).1) rose))
            at (of_limit w same limit) = inr (inr (record { served = s; why = w; is = is ∙ ap Err same; limit = limit }))

    pub completes : Runs b k r i lines disks before lines_now now after status → Completes b k r i lines disks before lines_now now after status
    completes (inl u) calm = inr (inl u.memory)
    completes (inr s) calm = served s calm
