-- What a run with a standby promises where its status is 0.
use Rattle.std.proofs.Common.{◌≡◌, ◌∙◌, sym, ap, subst, refl, ℕ, suc, ◌+◌, ◌<◌, arith, Bool, true, List, [], ◌∷◌, ◌++◌, None, Some}
use Rattle.std.specs.Prelude.{min, not}
use Rattle.std.specs.List.{AllByRecursion}
use Rattle.ic_base.specs.Programs.{is_a_pcom}
use Rattle.ic_base.specs.declared.events.Trace.{Trace}
use Rattle.ic_base.specs.declared.scenario.Program.{Program}
use Rattle.def_failover.specs.Orders.{Side, failover, played_over}
use Rattle.def_failover.specs.Promises.{RunsFailover}
use Rattle.def_failover.specs.Telling.{summary_of}
use Rattle.def_failover.specs.declared.note.Note.{Note}
use Rattle.def_report.specs.Summaries.{summary_lines}
use Rattle.def_rounds.specs.Rounds.{Round, AreRounds, numbers_of, state_after, transitions_of}
use Rattle.def_run.specs.Executions.{IsComplete, next, whole_agenda}
use Rattle.def_run.specs.Openings.{IsStarted}
use Rattle.def_run.specs.Reports.{played_in}
use Rattle.def_run.specs.SystemStates.{SystemState, Transition, last_state, traces_of}
use Rattle.def_standby.specs.Standbys.{first_standby}
use Rattle.def_standby.specs.declared.orders.Order.{Order}
use Rattle.def_standby.specs.declared.orders.Order.TheVariants.{Ship, TakeOver, Run}
use Rattle.def_step.specs.World as definition
use Rattle.ic_disk.specs.declared.disk.Disk as disk
use Rattle.ic_disk.specs.declared.sink.Sink as sink
use Rattle.ic_failover.proofs.Rounds.{AreRounded, all_rounded, traces-append}
use Rattle.ic_failover.specs.Asking.{MayBeOrdered}
use Rattle.ic_failover.specs.Carrying.{Stage, WentThrough, intervals_for, telling_for}
use Rattle.ic_failover.specs.Serving.{IsServed, report_pieces, rounds_pieces}
use Rattle.ic_failover.specs.Worlds.{as_texts, summary_with, Begins, RunsWhole}
use Rattle.ic_failover.specs.declared.texts.FailoverTexts.{FailoverTexts}
use Rattle.ic_report.proofs.Outputs.{puts_then}
use Rattle.ic_report.specs.Outputs.{Puts}
use Rattle.ic_run.specs.Lending.{lent}
use Rattle.ic_run.specs.Openings.{files_on, TheyTell}
use Rattle.ic_run.specs.Running.{all_pieces, Executed}
use Rattle.ic_run.specs.Summaries.{summed}
use Rattle.ic_run.specs.Tallies.{Counts}
use Rattle.ic_run.specs.Worlds.{RunsIn}
use Rattle.ic_run.specs.declared.opening.Opening.TheVariants.{Anew}
use Rattle.ic_run.specs.declared.tally.Tally.{Tally}
use Rattle.ic_world.specs.Acting.{GREATEST}
use Rattle.ic_world.specs.Views.{world_of, state_of, print_of, played_of, Tells}
use Rattle.ic_world.specs.declared.world.World.{World}
use Rattle.law_run.specs.ProgramBytes.{IsFit}
use Rattle.law_failover.proofs.Serving.{failover_runs_serve}
use Rattle.law_failover.proofs.Standing.{failover_runs_stand, failover_runs_end}
use Rattle.law_failover.specs.Failover.{OrderMayCome, BeginsFailover}
use Rattle.law_run.proofs.HasImages.{all-has}

-- texts of which the laws speak
pub record MayServe (r : FailoverTexts) : Type 0 where
  pub fit : IsFit r.program
  pub pcom : is_a_pcom r.program r.who ≡ true
  pub orders : AllByRecursion (MayBeOrdered r.program) r.orders.orders

pub may-come : (program : Program) (o : Order) → MayBeOrdered program o → OrderMayCome program o
may-come program (Run e) m = m.event
may-come program Ship m = tt
may-come program TakeOver m = tt

-- the summary is that of what was counted
summary-is : (program : Program) (settled : Bool) (ts : List Trace) (tally : Tally) (n played : ℕ) (v w : definition.World) → Counts ts tally → n ≡ played → v ≡ w → summed program settled tally n v ≡ summary_of program settled ts played w
summary-is program settled ts tally n played v w counts same ends = rw (counts.taken, counts.kept, counts.lost, counts.missed, counts.first, counts.again, same, ends) refl

-- below the greatest number each record that was played is counted
all-played : (first mid last shipped by more onward total : ℕ) → first ≡ 0 → mid ≡ min (first + by) GREATEST → last ≡ min (mid + onward) GREATEST → last < GREATEST → shipped ≡ more → by + more ≡ total → last + shipped ≡ total + onward
all-played first mid last shipped by more onward total none m l few s t = grind arith

module _ {D : Type 0} {d : disk.Ghosts D} {K : Type 0} (k : sink.Ghosts K) (r : FailoverTexts) (old new : World D d) (before after : K) (tells : Tells old) (own : print_of old ≡ r.fingerprint) (unplayed : played_of old ≡ 0) (w : RunsWhole k r old new before after) where
  abbrev first : Stage d K
  first = w.through.first

  abbrev b : Begins r old before first
  b = w.through.begins

  abbrev went : WentThrough k r first new w.mid w.shipped w.tally
  went = w.through.went

  pub tells-first : Tells first.world
  tells-first = subst (λ z. Tells z) (sym b.world) tells

  abbrev done : AreRounded k r r.orders.orders first went.mid
  done = all_rounded k r r.orders.orders first went.mid tells-first went.carried

  abbrev onward : Executed k r.program (intervals_for r) (telling_for r) went.mid.tally (whole_agenda [] r.orders.halts) went.mid.world new went.mid.out w.mid w.tally
  onward = went.settled

  abbrev pub start : SystemState
  start = state_of first.world

  abbrev pub rounds : List (Round Side Note)
  rounds = done.rounds

  abbrev pub transitions : List Transition
  transitions = onward.transitions

  pub starts : start ≡ state_of old
  starts = ap (λ z. state_of z) b.world

  print : print_of first.world ≡ r.fingerprint
  print = ap (λ z. print_of z) b.world ∙ own

  side : first.beside.side ≡ Some (first_standby r.program r.who)
  side = ap (λ z. z.side) b.beside

  ends : last_state (state_after start rounds) transitions ≡ state_of new
  ends = ap (λ p. last_state p transitions) done.state ∙ onward.goes.ends

  settles-mid : IsComplete r.program (print_of went.mid.world) (intervals_for r) (whole_agenda [] r.orders.halts) (state_of went.mid.world) transitions
  settles-mid =
      let S : SystemState → Type 0 = λ s. next s.world (intervals_for r) onward.agenda ≡ None in
      record { agenda = onward.agenda; executes = onward.goes.executes done.tells; nothing = subst S (sym onward.goes.ends) onward.nothing }

  pub runs : RunsFailover r.program r.who r.fingerprint (intervals_for r) r.orders.orders r.orders.halts start rounds transitions
  runs =
      let R : List ℕ → Side → Type 0 = λ f s. AreRounds (failover r.program r.who f) r.program f (intervals_for r) s start r.orders.orders rounds in
      let C : List ℕ → SystemState → Type 0 = λ f p. IsComplete r.program f (intervals_for r) (whole_agenda [] r.orders.halts) p transitions in
      record {
        rounds = subst (λ f. R f (Some (first_standby r.program r.who))) print (subst (λ s. R (print_of first.world) s) side done.are);
        settles = subst (λ p. C r.fingerprint p) (sym done.state) (subst (λ f. C f (state_of went.mid.world)) (done.print ∙ print) settles-mid);
      }

  -- the pieces of the summary
  abbrev total : ℕ
  total = played_over (failover r.program r.who r.fingerprint) (Some (first_standby r.program r.who)) start rounds

  total-is : done.by + done.more ≡ total
  total-is =
      let T : List ℕ → Side → Type 0 = λ f s. done.by + done.more ≡ played_over (failover r.program r.who f) s start rounds in
      subst (λ f. T f (Some (first_standby r.program r.who))) print (subst (λ s. T (print_of first.world) s) side done.total)

  shipped-is : w.shipped ≡ done.more
  shipped-is =
      let none : first.beside.shipped ≡ 0 = ap (λ z. z.shipped) b.beside in
      omega (arith, went.all_shipped, done.shipped, none)

  played-is : played_of new + w.shipped ≡ total + played_in (state_after start rounds) transitions
  played-is =
      all-played (played_of first.world) (played_of went.mid.world) (played_of new) w.shipped done.by done.more (played_in (state_after start rounds) transitions) total (ap (λ z. played_of z) b.world ∙ unplayed) done.played
      (subst (λ p. played_of new ≡ min (played_of went.mid.world + played_in p transitions) GREATEST) (sym done.state) onward.goes.played) w.few shipped-is total-is

  counted : Counts (traces_of (transitions_of rounds ++ transitions)) w.tally
  counted = subst (λ l. Counts l w.tally) (sym (traces-append (transitions_of rounds) transitions)) (onward.counts (traces_of (transitions_of rounds)) (done.counts [] b.counts))

  abbrev summary : List ℕ
  summary = summary_lines r.program (summary_of r.program (not r.orders.halts) (traces_of (transitions_of rounds ++ transitions)) (total + played_in (state_after start rounds) transitions) (last_state (state_after start rounds) transitions).world)

  summary-same : summary_with r w.tally w.shipped new ≡ summary
  summary-same =
      ap (summary_lines r.program)
      (summary-is r.program (not r.orders.halts) (traces_of (transitions_of rounds ++ transitions)) w.tally (played_of new + w.shipped) (total + played_in (state_after start rounds) transitions) (world_of new) (last_state (state_after start rounds) transitions).world counted played-is
      (ap (λ (s : SystemState). s.world) (sym ends)))

  numbers : went.mid.tally.events ≡ numbers_of rounds
  numbers = omega (arith, done.numbered, b.numbered)

  pub printed : Puts k (report_pieces r start rounds transitions) before after
  printed =
      let of_orders : List (List ℕ) = rounds_pieces r 1 r.orders.orders rounds in
      let of_settling : List (List ℕ) = all_pieces (telling_for r) (suc (numbers_of rounds)) (traces_of transitions) in
      puts_then k (of_orders ++ of_settling) (summary ∷ []) before w.mid after
      (puts_then k of_orders of_settling before went.mid.out w.mid
      (subst (λ o. Puts k of_orders o went.mid.out) b.out_is (subst (λ n. Puts k (rounds_pieces r (suc n) r.orders.orders rounds) first.out went.mid.out) b.numbered done.printed))
      (subst (λ n. Puts k (all_pieces (telling_for r) (suc n) (traces_of transitions)) went.mid.out w.mid) numbers onward.printed))
      (subst (λ l. Puts k (l ∷ []) w.mid after) summary-same w.summary)

module _ {D : Type 0} (b : disk.Ghosts D) {K : Type 0} (k : sink.Ghosts K) (r : FailoverTexts) (disks : List D) (before after : K) (status : ℕ) (may : MayServe r) (tell : TheyTell b r.program disks) where
  pub is-served : (back : List D) → RunsIn b k (λ old new. RunsWhole k r old new before after) (as_texts r) Anew (lent r.program.components disks) back → IsServed b k r disks before after status
  is-served back y = record {
    p = p;
    rounds = rs;
    transitions = vs;
    opened = opened;
    runs = ran;
    printed = printed k r y.old y.new before after here own none y.ran;
    stands = failover_runs_stand r.program r.who r.fingerprint (intervals_for r) r.orders.orders r.orders.halts p rs vs begins;
    ends = λ no-halt. failover_runs_end r.program r.who r.fingerprint (intervals_for r) r.orders.orders p rs vs (subst (λ h. BeginsFailover r.program r.who r.fingerprint (intervals_for r) r.orders.orders h p rs vs) no-halt begins);
    serves = failover_runs_serve r.program r.who r.fingerprint (intervals_for r) r.orders.orders r.orders.halts p rs vs begins;
  }
    where
      here : Tells y.old
      here = y.opens.is_new.tells tell

      own : print_of y.old ≡ r.fingerprint
      own = y.opens.is_new.is_own

      none : played_of y.old ≡ 0
      none = y.opens.is_new.played

      p : SystemState
      p = start k r y.old y.new before after here own none y.ran

      rs : List (Round Side Note)
      rs = rounds k r y.old y.new before after here own none y.ran

      vs : List Transition
      vs = transitions k r y.old y.new before after here own none y.ran

      ran : RunsFailover r.program r.who r.fingerprint (intervals_for r) r.orders.orders r.orders.halts p rs vs
      ran = runs k r y.old y.new before after here own none y.ran

      opened : IsStarted r.program r.fingerprint (files_on b r.program disks) p
      opened = subst (λ s. IsStarted r.program r.fingerprint (files_on b r.program disks) s) (sym (starts k r y.old y.new before after here own none y.ran)) (y.opens.state tell)

      begins : BeginsFailover r.program r.who r.fingerprint (intervals_for r) r.orders.orders r.orders.halts p rs vs
      begins = record {
        fit = may.fit;
        pcom = may.pcom;
        may = λ o in-it. may-come r.program o (all-has (MayBeOrdered r.program) r.orders.orders o may.orders in-it);
        long = y.long;
        files = files_on b r.program disks;
        started = opened;
        runs = ran;
      }
