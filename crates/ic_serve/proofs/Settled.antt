-- Behind what is done of a served run the world goes on, with nothing left to do, or its disks are kept at least.
use Rattle.std.proofs.Common.{◌≡◌, sym, ap, subst, ℕ, ◌≤◌, false, length, List, [], ◌∷◌, None, inl, inr}
use Rattle.std.specs.List.{AllByRecursion}
use Rattle.ic_base.specs.declared.events.Event.{Event}
use Rattle.ic_base.specs.declared.events.What.TheVariants as whats
use Rattle.ic_base.specs.declared.limits.TheConstants.{COMPONENTS}
use Rattle.ic_base.specs.declared.report.ReportLevel.{ReportLevel}
use Rattle.ic_base.specs.declared.scenario.Program.{Program}
use Rattle.def_run.specs.Executions.{Agenda, agenda_behind, whole_agenda}
use Rattle.def_run.specs.CrashFree.{EndsCrashFree}
use Rattle.def_run.specs.SystemStates.{SystemState, Transition, last_state, without_stop}
use Rattle.def_facts.specs.Logs.{Logs}
use Rattle.def_plain.specs.Plain.{PlainWorld}
use Rattle.def_serve.specs.Lines.{Line, Asks, Gives, Checkpoints, Values, Refused, input_for}
use Rattle.def_step.specs.Settle.{PolicyIntervals, next_event}
use Rattle.law_client.specs.Rounds.{Stands}
use Rattle.law_run.specs.ProgramBytes.{IsFit}
use Rattle.law_run.proofs.Along.{at-the-end}
use Rattle.law_run.proofs.Complete.{none-left}
use Rattle.law_run.proofs.HasImages.{all-has}
use Rattle.law_run.specs.Executions.{here_along}
use Rattle.law_settle.proofs.Ending.{settled_ends_crash_free}
use Rattle.law_settle.proofs.Quiet.{no_event_where_settled}
use Rattle.ic_disk.specs.TornDisks.{Torn}
use Rattle.ic_disk.specs.declared.disk.Disk as disk
use Rattle.ic_disk.specs.declared.sink.Sink as sink
use Rattle.ic_plan.specs.declared.run_texts.ServedTexts.{ServedTexts}
use Rattle.ic_report.specs.declared.ending.Why.{Why}
use Rattle.ic_run.specs.Running.{Follows, Goes, KeepsAll}
use Rattle.ic_run.specs.declared.running.Cut.{Cut}
use Rattle.ic_run.specs.declared.running.Cut.TheVariants as cuts
use Rattle.ic_run.proofs.Lasting.{keeps-self}
use Rattle.ic_run.proofs.Onward.{keeps-then}
use Rattle.ic_run.proofs.Worlds.{keeps-more, tells-on}
use Rattle.ic_run.specs.Agendas.{MayCome}
use Rattle.ic_settle.specs.Policies.{intervals_of}
use Rattle.ic_world.specs.Allowing.{GoesOn}
use Rattle.ic_world.specs.Views.{world_of, state_of, print_of, Tells}
use Rattle.ic_world.specs.declared.world.World.{World}
use Rattle.ic_serve.specs.Gathering.{Gathered, FailsToGather}
use Rattle.ic_serve.specs.Reading.{line_as, MayBeServed}
use Rattle.ic_serve.specs.Serving.{IsSettledFrom, IsDone, FailsToDo, FailsToServe, agenda_for}
use Rattle.ic_serve.specs.Worlds.{FailsToSettle, FailsToAnswerFirst, FailsToTakeUp, FailsToGiveUp, checkpoints_of, unfit, unsettled, unanswered}
use Rattle.ic_plan.specs.declared.served.ServedLine.TheVariants as plans
use Rattle.ic_serve.specs.declared.line.Line as code
use Rattle.ic_serve.specs.declared.line.Line.TheVariants.{Served, Bad}
use Rattle.ic_serve.specs.declared.service.Service.{Service}
use Rattle.ic_serve.specs.declared.stretch.First.{First}
use Rattle.ic_serve.specs.declared.stretch.First.TheVariants.{Opening, Line as ALine}
use Rattle.ic_serve.specs.declared.telling.Form.{Form}
use Rattle.ic_serve.specs.declared.telling.Form.TheVariants.{Following}

pub follows-halts : (program : Program) (x : PolicyIntervals) (a b : Agenda) (p : SystemState) (vs : List Transition) → Follows program x a p vs b → b.halts ≡ a.halts
follows-halts program x a b p [] f = ap (λ (z : Agenda). z.halts) (sym f)
follows-halts program x a b p (v ∷ vs) f = follows-halts program x (agenda_behind a f.0 v.trace) b v.state vs f.4

-- what a line comes to may come
abbrev pub LineMay : Program → Line → Type 0
LineMay program (Asks r) = MayCome program (input_for r)
LineMay program (Gives r) = MayCome program (input_for r)
LineMay program (Checkpoints c) = MayCome program (without_stop (whats.Checkpoint c))
LineMay program Values = Unit {0}
LineMay program (Refused number cause) = Unit {0}

pub line-may : (program : Program) (number : ℕ) (line : code.Line) → MayBeServed program line → LineMay program (line_as number line)
line-may program number (Served (plans.Asks r)) may = may
line-may program number (Served (plans.Gives r)) may = may
line-may program number (Served (plans.Checkpoints c)) may = may
line-may program number (Served plans.Values) may = tt
line-may program number (Bad cause) may = tt

-- where nothing is left to do
ends-there : (program : Program) (print : List ℕ) (found : Logs) (p : SystemState) → IsFit program → Stands program print found p → next_event p.world ≡ None → (v : PlainWorld) × EndsCrashFree program found p.world v
ends-there program print found p fit f quiet =
    settled_ends_crash_free program found f.here p.world fit.playable f.explained.explained ((no_event_where_settled program found f.here p.world f.explained.explained.0 f.explained.explained.1).0 quiet)

module _ {D : Type 0} {d : disk.Ghosts D} (program : Program) where
  abbrev pub StandsAt : Logs → World D d → Type 0
  StandsAt found w = Stands program (print_of w) found (state_of w)

  -- behind transitions of an agenda whose events may come
  pub stands-behind : (x : PolicyIntervals) (events : List Event) (old new : World D d) (vs : List Transition) (b : Agenda) → AllByRecursion (MayCome program) events → Goes program x (whole_agenda events false) old vs b new → (found : Logs) → IsFit program → Tells old → StandsAt found old → StandsAt found new
  stands-behind x events old new vs b may run found fit tells f =
      let l = at-the-end program (print_of old) x (whole_agenda events false) b (state_of old) vs found f.here fit.playable fit.flat fit.bytes (λ e in-it. (all-has (MayCome program) events e may in-it).event) f.keeps (run.executes tells) f.explained in
      let P : SystemState → Type 0 = λ p. Stands program (print_of old) found p in
      let Q : List ℕ → Type 0 = λ print. Stands program print found (state_of new) in
      let last : P (last_state (state_of old) vs) = record { here = here_along f.here (state_of old) vs; explained = l.explained; keeps = l.keeps } in
      subst Q (sym run.disks.print) (subst P run.ends last)

  -- behind an agenda that doesn't halt
  pub gathered-settles : (x : PolicyIntervals) (level : ReportLevel) (form : Form) (events : List Event) (was now : Service) (old new : World D d) → AllByRecursion (MayCome program) events → length program.components ≤ COMPONENTS → Gathered program x level form (whole_agenda events false) was now old new → IsSettledFrom program old new
  gathered-settles x level form events was now old new may few g = record {
    goes_on = record { few = few; made = g.executed.goes.made; going = g.executed.goes.going };
    settled = quiet;
    disks = g.executed.goes.disks;
    crash_free = λ found fit tells f. record { stands = there found fit tells f; ends = ends-there program (print_of new) found (state_of new) fit (there found fit tells f) quiet };
  }
    where
      quiet : next_event (world_of new) ≡ None
      quiet = none-left (world_of new) x g.executed.agenda (follows-halts program x (whole_agenda events false) g.executed.agenda _ g.executed.transitions g.executed.goes.follows) g.executed.nothing

      there : (found : Logs) → IsFit program → Tells old → StandsAt found old → StandsAt found new
      there = stands-behind x events old new g.executed.transitions g.executed.agenda may g.executed.goes

  -- where the world stays
  pub stays-settled : (old new : World D d) → GoesOn program old → next_event (world_of old) ≡ None → new ≡ old → IsSettledFrom program old new
  stays-settled old new on settled same =
      let P : World D d → Type 0 = λ w. IsSettledFrom program old w in
      subst P (sym same) (record {
        goes_on = on;
        settled = settled;
        disks = keeps-self old;
        crash_free = λ found fit tells f. record { stands = f; ends = ends-there program (print_of old) found (state_of old) fit f settled };
      })

  -- behind a line
  pub done-settles : (x : PolicyIntervals) (level : ReportLevel) (line : Line) (was now : Service) (old new : World D d) → LineMay program line → GoesOn program old → next_event (world_of old) ≡ None → IsDone program x level line was now old new → IsSettledFrom program old new
  done-settles x level (Asks r) was now old new may on settled (inl g) = gathered-settles x level _ (input_for r ∷ []) was now old new (may, tt) on.few g.1
  done-settles x level (Asks r) was now old new may on settled (inr a) = stays-settled old new on settled a.stays
  done-settles x level (Gives r) was now old new may on settled g = gathered-settles x level _ (input_for r ∷ []) was now old new (may, tt) on.few g
  done-settles x level (Checkpoints c) was now old new may on settled g = gathered-settles x level _ (without_stop (whats.Checkpoint c) ∷ []) was now old new (may, tt) on.few g
  done-settles x level Values was now old new may on settled g = stays-settled old new on settled g.1
  done-settles x level (Refused number cause) was now old new may on settled g = stays-settled old new on settled g.1

  -- the count of lines stays behind a line
  pub done-lines : (x : PolicyIntervals) (level : ReportLevel) (line : Line) (was now : Service) (old new : World D d) → IsDone program x level line was now old new → now.lines ≡ was.lines
  done-lines x level (Asks r) was now old new (inl g) = g.1.lines
  done-lines x level (Asks r) was now old new (inr a) = a.told.lines
  done-lines x level (Gives r) was now old new g = g.lines
  done-lines x level (Checkpoints c) was now old new g = g.lines
  done-lines x level Values was now old new g = g.0.lines
  done-lines x level (Refused number cause) was now old new g = g.0.lines

  -- behind more
  pub settled-then : (old mid new : World D d) → IsSettledFrom program old mid → IsSettledFrom program mid new → IsSettledFrom program old new
  settled-then old mid new first second = record {
    goes_on = second.goes_on;
    settled = second.settled;
    disks = keeps-then old mid new first.disks second.disks;
    crash_free = λ found fit tells f. second.crash_free found fit (tells-on old mid first.disks tells) (first.crash_free found fit tells f).stands;
  }

-- cut off -------------------------------------------------------------------------------------------

module _ {D : Type 0} {d : disk.Ghosts D} where
  same-kept : (old new : World D d) → new ≡ old → KeepsAll old new
  same-kept old new same = subst (λ w. KeepsAll old w) (sym same) (keeps-self old)

module _ {D : Type 0} (b : disk.Ghosts D) {d : disk.Ghosts (Torn D)} (program : Program) (x : PolicyIntervals) (level : ReportLevel) where
  gather-keeps : (form : Form) (a : Agenda) (was : Service) (old new : World (Torn D) d) (cut : Cut) → FailsToGather b program x level form a was old new cut → KeepsAll old new
  gather-keeps form a was old new (cuts.Refused why) f = let w = f.was_cut in keeps-more old w.now new w.event.what w.goes.disks w.disks
  gather-keeps form a was old new cuts.Print f = f.was_cut.goes.disks
  gather-keeps form a was old new cuts.Memory f = f.was_cut.goes.disks

  do-keeps : (line : Line) (was : Service) (old new : World (Torn D) d) (cut : Cut) → FailsToDo b program x level line was old new cut → KeepsAll old new
  do-keeps line was old new cut (inl (e, is, may, f)) = gather-keeps e.1 (agenda_for e.0) was old new cut f
  do-keeps line was old new cut (inr (memory, same)) = same-kept old new same

  pub serve-keeps : {K : Type 0} (k : sink.Ghosts K) (print : List ℕ) (line : Line) (was : Service) (old new : World (Torn D) d) (before after : K) (why : Why) → FailsToServe b program x level k print line was old new before after why → KeepsAll old new
  serve-keeps k print line was old new before after why (inl (cut, is, f, silent)) = do-keeps line was old new cut f
  serve-keeps k print line was old new before after why (inr (keeps, f)) = keeps

module _ {D : Type 0} (b : disk.Ghosts D) {d : disk.Ghosts (Torn D)} (r : ServedTexts) where
  settle-keeps : (events : List Event) (was : Service) (old new : World (Torn D) d) (why : Why) → FailsToSettle b r events was old new why → KeepsAll old new
  settle-keeps events was old new why (cut, is, may, f) = gather-keeps b r.program (intervals_of r.policy) r.policy.report Following (whole_agenda events false) was old new cut f

  pub give-up-keeps : (was : Service) (old new : World (Torn D) d) (why : Why) → FailsToGiveUp b r was old new why → KeepsAll old new
  give-up-keeps was old new why (inl f) = settle-keeps (checkpoints_of r.program) was old new why f
  give-up-keeps was old new why (inr (memory, keeps)) = keeps

  module _ {K : Type 0} (k : sink.Ghosts K) where
    first-keeps : (first : First) (was : Service) (old new : World (Torn D) d) (before after : K) (why : Why) → FailsToAnswerFirst b k r first was old new before after why → KeepsAll old new
    first-keeps Opening was old new before after why (f, same) = same-kept old new same
    first-keeps (ALine line) was old new before after why f = serve-keeps b r.program (intervals_of r.policy) r.policy.report k r.fingerprint _ was old new before after why f

    pub take-up-keeps : (first : First) (was : Service) (old new : World (Torn D) d) (before after : K) (why : Why) → FailsToTakeUp b k r first was old new before after why → KeepsAll old new
    take-up-keeps first was old new before after why (unfit f same silent) = same-kept old new same
    take-up-keeps first was old new before after why (unsettled loaded f silent) = settle-keeps [] loaded old new why f
    take-up-keeps first was old new before after why (unanswered loaded settled mid done from f) = keeps-then old mid new from.disks (first-keeps first settled mid new before after why f)
