-- A run on its way: what it came through was counted and printed.
use Rattle.std.proofs.Common.{◌≡◌, ◌∙◌, refl, sym, ap, subst, ℕ, suc, ◌+◌, ◌≤◌, false, List, [], ◌∷◌, ◌++◌, length, append_assoc, length-append, arith, Option, Some, None}
use Rattle.std.proofs.lemmas.List.{append-nil}
use Rattle.ic_base.specs.declared.events.Trace.{Trace}
use Rattle.ic_base.specs.declared.refusals.WorldRefused.{WorldRefused}
use Rattle.ic_base.specs.declared.scenario.Program.{Program}
use Rattle.def_run.specs.Executions as executions
use Rattle.def_run.specs.SystemStates.{Transition, traces_of}
use Rattle.def_step.specs.Settle.{PolicyIntervals}
use Rattle.ic_disk.specs.TornDisks.{Torn}
use Rattle.ic_disk.specs.declared.disk.Disk as disk
use Rattle.ic_disk.specs.declared.sink.Sink as sink
use Rattle.ic_run.specs.Advancing.{AdvancesBy, Advances, FailsToAdvance}
use Rattle.ic_run.specs.Agendas.{agenda_of, IsReady}
use Rattle.ic_run.specs.Running.{Telling, all_pieces, lines_behind, CrashLeavesWay, Goes, AllOutlast, WasRefused, WasCutOff, WasCut, FailsToTell}
use Rattle.ic_run.specs.Tallies.{Counts}
use Rattle.ic_run.specs.declared.agenda.Agenda.{Agenda}
use Rattle.ic_run.specs.declared.running.Cut.{Cut}
use Rattle.ic_run.specs.declared.running.Cut.TheVariants as cuts
use Rattle.ic_run.specs.declared.tally.Tally.{Tally}
use Rattle.ic_report.proofs.Outputs.{puts_nothing, puts_then}
use Rattle.ic_report.specs.Outputs.{Puts}
use Rattle.ic_disk.specs.Torns.{torn}
use Rattle.ic_world.specs.Acting.{GREATEST}
use Rattle.ic_world.specs.Allowing.{IsMadeFor}
use Rattle.ic_world.specs.Standing.{ArePlaced}
use Rattle.ic_world.specs.Views.{components_of, world_of, state_of, played_of, is_over}
use Rattle.ic_world.specs.declared.world.World.{World}
use Rattle.ic_run.proofs.More.{traces-more, traces-length, pieces-more}
use Rattle.ic_run.proofs.Lasting.{between-now, between-next, outlast-tried, outlast-taken, outlast-none}
use Rattle.ic_run.proofs.Worlds.{goes-further, crash-further, goes-nowhere}

module _ {D : Type 0} {d : disk.Ghosts D} {K : Type 0} (k : sink.Ghosts K) where
  pub record IsUnderWay (program : Program) (x : PolicyIntervals) (tell : Telling) (was : Tally) (a : executions.Agenda) (old new : World D d) (before after : K) (agenda : Agenda) (tally : Tally) : Type 0 where
    pub transitions : List Transition
    pub goes : Goes program x a old transitions (agenda_of agenda) new
    pub counts : (told : List Trace) → Counts told was → Counts (told ++ traces_of transitions) tally
    pub numbered : tally.events ≡ was.events + length transitions
    pub printed : Puts k (all_pieces tell (suc was.events) (traces_of transitions)) before after
    pub outlast : AllOutlast k program (lines_behind tell was.events) old new before transitions None
    pub ready : IsReady program new agenda

  module _ (program : Program) (x : PolicyIntervals) (tell : Telling) (was : Tally) (a : executions.Agenda) (old mid new : World D d) (before now after : K) (one two : Agenda) (tally : Tally) (run : IsUnderWay program x tell was a old mid before now one tally) (t : Trace) (by : AdvancesBy program x one two mid new t) where
    abbrev pub traces : List Trace
    traces = traces_of run.transitions

    abbrev pub last : Transition
    last = record { trace = t; state = state_of new }

    abbrev pub all : List Transition
    all = run.transitions ++ last ∷ []

    abbrev pub pieces : List (List ℕ)
    pieces = tell (suc tally.events) t

    pieces-is : all_pieces tell (suc was.events) (traces_of all) ≡ all_pieces tell (suc was.events) traces ++ pieces
    pieces-is =
        let same : suc was.events + length traces ≡ suc tally.events = omega (arith, run.numbered, traces-length run.transitions) in
        ap (λ ts. all_pieces tell (suc was.events) ts) (traces-more run.transitions last)
        ∙ pieces-more tell (suc was.events) traces t ∙ ap (λ n. all_pieces tell (suc was.events) traces ++ tell n t) same

    goes : Goes program x a old all (agenda_of two) new
    goes = goes-further program x a old mid new run.transitions one two t run.goes by

    -- all that was done outlasts a crash, before the lines of the last event are put
    outlast : CrashLeavesWay program new [] None new → AllOutlast k program (lines_behind tell was.events) old new before all None
    outlast rests =
        outlast-taken k program (lines_behind tell was.events) old mid new before run.transitions run.goes.ends last now
        (outlast-tried k program (lines_behind tell was.events) old mid new before run.transitions run.goes.ends t.event.what by.disks by.crash run.outlast)
        (between-next program old mid new run.transitions t.event.what run.goes.ends run.goes.disks run.goes.made run.goes.going by.disks by.crash)
        (between-now program old mid new all goes.ends goes.disks goes.made goes.going rests) run.printed by.disks by.crash

    pub run-further : (more : Tally) → CrashLeavesWay program new [] None new → ((ts : List Trace) → Counts ts tally → Counts (ts ++ t ∷ []) more) → more.events ≡ suc tally.events → Puts k pieces now after → IsUnderWay program x tell was a old new before after two more
    run-further more rests counts one-more printed =
        let P : List Trace → Type 0 = λ ts. Counts ts more in
        let Q : List (List ℕ) → Type 0 = λ ps. Puts k ps before after in
        record {
          transitions = all;
          goes = goes;
          counts = λ told c. subst P (append_assoc told traces (t ∷ []) ∙ ap (λ (ts : List Trace). told ++ ts) (sym (traces-more run.transitions last))) (counts (told ++ traces) (run.counts told c));
          numbered = omega (arith, one-more, run.numbered, length-append run.transitions (last ∷ []));
          printed = subst Q (sym pieces-is) (puts_then k (all_pieces tell (suc was.events) traces) pieces before now after run.printed printed);
          outlast = outlast rests;
          ready = by.ready;
        }

    pub further-is : (more : Tally) (rests : CrashLeavesWay program new [] None new) (counts : (ts : List Trace) → Counts ts tally → Counts (ts ++ t ∷ []) more) (one-more : more.events ≡ suc tally.events) (printed : Puts k pieces now after) → (run-further more rests counts one-more printed).transitions ≡ all
    unfolding run-further
    further-is more rests counts one-more printed = refl

    -- its lines aren't printed
    pub run-cut_off : (cut : Cut) → CrashLeavesWay program new [] None new → FailsToTell k pieces now after cut → WasCutOff k program x tell was.events a old new before after cut
    run-cut_off cut rests fails =
        let P : ℕ → Type 0 = λ n. FailsToTell k (tell n t) now after cut in
        let same : suc tally.events ≡ suc was.events + length run.transitions = omega (arith, run.numbered) in
        record {
          transitions = run.transitions;
          last = last;
          agenda = agenda_of two;
          goes = goes;
          now = now;
          printed = run.printed;
          fails = subst P same fails;
          outlast = outlast rests;
        }

module _ {D : Type 0} (b : disk.Ghosts D) {d : disk.Ghosts (Torn D)} {K : Type 0} (k : sink.Ghosts K) where
  -- the event that is next is refused
  pub run-refused : {program : Program} {x : PolicyIntervals} {tell : Telling} {was : Tally} {a : executions.Agenda} {old mid new : World (Torn D) d} {before after : K} {agenda : Agenda} {tally : Tally} {why : WorldRefused}
      → IsUnderWay k program x tell was a old mid before after agenda tally → FailsToAdvance b program x agenda mid new why → WasRefused b k program x (lines_behind tell was.events) a old new before after why
  run-refused {program} {x} {tell} {was} {a} {old} {mid} {new} {before} {after} {agenda} {tally} {why} run f = record {
    transitions = run.transitions;
    agenda = agenda_of agenda;
    now = mid;
    goes = run.goes;
    event = f.event;
    left = f.left;
    next = f.next;
    fails = f.fails;
    disks = f.disks;
    crash = crash-further program old mid new run.transitions f.event.what run.goes.ends run.goes.disks run.goes.crash f.crash;
    printed = run.printed;
    outlast = outlast-tried k program (lines_behind tell was.events) old mid new before run.transitions run.goes.ends f.event.what f.disks f.crash run.outlast;
    here = between-next program old mid new run.transitions f.event.what run.goes.ends run.goes.disks run.goes.made run.goes.going f.disks f.crash;
    within = f.crash;
  }

  pub run-cut : (program : Program) (x : PolicyIntervals) (tell : Telling) (was : Tally) (a : executions.Agenda) (old mid new : World (Torn D) d) (before now after : K) (one two : Agenda) (tally : Tally) (run : IsUnderWay k program x tell was a old mid before now one tally) (t : Trace) → AdvancesBy program x one two mid new t
      → (cut : Cut) → CrashLeavesWay program new [] None new → FailsToTell k (tell (suc tally.events) t) now after cut → WasCut b k program x tell was.events a old new before after cut
  run-cut program x tell was a old mid new before now after one two tally run t by (cuts.Refused why) rests fails = absurd fails
  run-cut program x tell was a old mid new before now after one two tally run t by cuts.Print rests fails = run-cut_off k program x tell was a old mid new before now after one two tally run t by cuts.Print rests fails
  run-cut program x tell was a old mid new before now after one two tally run t by cuts.Memory rests fails = run-cut_off k program x tell was a old mid new before now after one two tally run t by cuts.Memory rests fails

-- at its beginning ----------------------------------------------------------------------------------

module _ {D : Type 0} (b : disk.Ghosts D) (only_now : (disk : D) (image : List ℕ) → b.keeps disk → b.left_since disk (b.moment disk) image → b.may_leave disk image) (tells : (disk : D) → b.keeps disk → b.tells disk) {K : Type 0} (k : sink.Ghosts K) where
  pub run-begins : (program : Program) (x : PolicyIntervals) (tell : Telling) (was : Tally) (w : World (Torn D) (torn b)) (out : K) (agenda : Agenda)
      → IsMadeFor program (world_of w) → is_over w ≡ false → ArePlaced (components_of w) → played_of w ≤ GREATEST → IsReady program w agenda → IsUnderWay k program x tell was (agenda_of agenda) w w out out agenda was
  run-begins program x tell was w out agenda made going placed few ready = record {
    transitions = [];
    goes = goes-nowhere b only_now tells program x (agenda_of agenda) w made going placed few;
    counts = λ told c. let P : List Trace → Type 0 = λ ts. Counts ts was in subst P (sym (append-nil told)) c;
    numbered = omega arith;
    printed = puts_nothing k out;
    outlast = outlast-none k program (lines_behind tell was.events) w w out;
    ready = ready;
  }

  pub begins-is : (program : Program) (x : PolicyIntervals) (tell : Telling) (was : Tally) (w : World (Torn D) (torn b)) (out : K) (agenda : Agenda) (made : IsMadeFor program (world_of w)) (going : is_over w ≡ false) (placed : ArePlaced (components_of w)) (few : played_of w ≤ GREATEST) (ready : IsReady program w agenda) → (run-begins program x tell was w out agenda made going placed few ready).transitions ≡ []
  unfolding run-begins
  begins-is program x tell was w out agenda made going placed few ready = refl

-- an event that was done
pub advanced : {D : Type 0} {d : disk.Ghosts D} {program : Program} {x : PolicyIntervals} {one two : Agenda} {old new : World D d} (o : Option Trace) (t : Trace) → o ≡ Some t → Advances program x one two old new o → AdvancesBy program x one two old new t
advanced {D} {d} {program} {x} {one} {two} {old} {new} o t is by = let P : Option Trace → Type 0 = λ o. Advances program x one two old new o in subst P is by
