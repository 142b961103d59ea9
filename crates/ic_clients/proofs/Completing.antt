-- A run with clients in which nothing goes wrong does all that was to be done, or reaches a limit.
use Rattle.std.proofs.Common.{◌≡◌, ℕ, List, Some, ◌⊎◌, inl, inr, ⊎_elim}
use Rattle.ic_disk.specs.declared.disk.Disk as disk
use Rattle.ic_disk.specs.declared.sink.Sink as sink
use Rattle.ic_plan.specs.declared.run_texts.RunTexts.{RunTexts}
use Rattle.ic_report.specs.Ends.{EndsAs}
use Rattle.ic_report.specs.Outputs.{Puts}
use Rattle.ic_report.specs.declared.ending.Why.{Why}
use Rattle.ic_report.specs.declared.ending.Why.TheVariants.{Fault as AFault, Print, Memory}
use Rattle.ic_run.specs.Completing.{IsOfLimit, NothingFails}
use Rattle.ic_run.specs.Summaries.{FailsToTell}
use Rattle.ic_run.specs.declared.opening.Opening.TheVariants.{Anew}
use Rattle.ic_run.proofs.Completing.{opens-so, no-print, only-limits, memory-ends}
use Rattle.ic_run.specs.Agendas.{MayRun}
use Rattle.ic_clients.specs.Completing.{Completes}
use Rattle.ic_clients.specs.Moments.{done_in}
use Rattle.ic_clients.specs.Runs.{lines_before, texts_done, IsUntold, LinesUntold, NoteUntold, SummaryUntold, EndsRefused, EndsUntold, Runs}
use Rattle.ic_clients.proofs.Ran.{texts-may}

module _ {D : Type 0} (b : disk.Ghosts D) {K : Type 0} (k : sink.Ghosts K) (tool : List ℕ) (r : RunTexts) (disks now : List D) (before after : K) (status : ℕ) (may : MayRun r) (calm : NothingFails b k r.program r.fingerprint Anew disks now before after) where
  refused-at : (e : EndsRefused b k tool r disks now before after status) → (status ≡ 12) ⊎ IsOfLimit e.why
  refused-at e =
      ⊎_elim (λ limit. inr limit) (λ memory. inl (memory-ends k tool (Some r.program) r.fingerprint e.why e.mid after status memory e.ends))
      (only-limits b k (texts_done b r disks e.p e.moments e.items) Anew disks now before after calm (texts-may b r disks may e.p e.moments e.items.left e.items.stands) (lines_before r e.moments) e.p (done_in e.moments) e.agenda e.tried e.mid e.why e.refused)

  -- some pieces weren't printed
  abbrev FailsWithin : Why → K → Type 0
  FailsWithin why mid = (front : List (List ℕ)) × (back : List (List ℕ)) × (told : K) × Puts k front before told × FailsToTell k back told mid why

  -- what wasn't told wasn't printed, or memory was wanting
  fails-within : (why : Why) (mid : K) → IsUntold b k r disks now before after mid why → FailsWithin why mid ⊎ (why ≡ Memory)
  fails-within why mid y = by y.untold
    where
      by : LinesUntold b k r disks now before after y.moments y.told mid why ⊎ (NoteUntold b k r disks now before after y.p y.moments y.came y.told mid why ⊎ SummaryUntold b k r disks now before after y.p y.moments y.came y.told mid why) → FailsWithin why mid ⊎ (why ≡ Memory)
      by (inl l) = inl (_, _, y.told, l.printed, l.fails)
      by (inr (inl n)) = ⊎_elim (λ z. inl (_, _, y.told, n.printed, z.3)) (λ z. inr z.0) n.untold
      by (inr (inr s)) = inl (_, _, y.told, s.printed, s.fails)

  untold : EndsUntold b k tool r disks now before after status → status ≡ 12
  untold e = by e.why (fails-within e.why e.mid e.untold) e.ends
    where
      by : (why : Why) → FailsWithin why e.mid ⊎ (why ≡ Memory) → EndsAs k tool (Some r.program) why e.mid after status → status ≡ 12
      by (AFault fault) (inl f) ends = absurd f.4
      by (AFault fault) (inr e) ends = absurd (cc e)
      by Print (inl f) ends = absurd (no-print b k r Anew disks now before after calm f.0 f.1 f.2 e.mid ends.1 f.3 f.4)
      by Print (inr e) ends = absurd (cc e)
      by Memory f ends = ends.0

pub completes : {D : Type 0} (b : disk.Ghosts D) {K : Type 0} (k : sink.Ghosts K) (tool : List ℕ) (r : RunTexts) (disks now : List D) (before after : K) (status : ℕ) → MayRun r → Runs b k tool r disks now before after status → Completes b k tool r disks now before after status
completes b k tool r disks now before after status may (inl done) calm = inl done.0
completes b k tool r disks now before after status may (inr (inl e)) calm = inr (inl (opens-so b k r Anew disks now before after calm tool status e))
completes b k tool r disks now before after status may (inr (inr (inl e))) calm = inr (⊎_elim (λ memory. inl memory) (λ limit. inr (e, limit)) (refused-at b k tool r disks now before after status may calm e))
completes b k tool r disks now before after status may (inr (inr (inr e))) calm = inr (inl (untold b k tool r disks now before after status may calm e))
