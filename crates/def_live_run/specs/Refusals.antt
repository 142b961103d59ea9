-- Why a live run is refused: what a berth's turn or flush met, with the berth's own counts.
use Rattle.std.specs.Prelude.{◌≡◌, ◌⊎◌, ℕ, ◌+◌, Bool, ◌&&◌, not, cond, List, [], ◌∷◌, length, Option, Some, None, option_map}
use Rattle.std.proofs.Common.{inl, inr}
use Rattle.ic_base.specs.declared.messages.ComId.{ComId}
use Rattle.ic_base.specs.declared.refusals.WorldRefused.{WorldRefused}
use Rattle.ic_base.specs.declared.refusals.WorldRefused.TheVariants as refused
use Rattle.ic_base.specs.declared.scenario.Program.{Program}
use Rattle.ic_base.specs.Programs.{same_com}
use Rattle.def_step.specs.Calls.{receives}
use Rattle.def_step.specs.Settle.{PolicyIntervals}
use Rattle.def_run.specs.Executions.{first_of, is_input}
use Rattle.def_run.specs.Refusals.{LiveCounts, IsLiveRefused}
use Rattle.def_run.specs.SystemStates.{SystemState}
use Rattle.def_live.specs.Turns.{Berth, Pop, Choice, Unlisted, ArePopsOf, alone, choice, coms_from, event_of, flushes, senders_of}
use Rattle.def_live.specs.Runs.{Live, LiveStep, LiveRun, last_live}

-- what a berth is asked for: a turn, on what it popped, or a flush
pub data Visit : Type 0 where
  Turn : (pops : List Pop) → Visit
  Flush : Visit

-- the event that it comes to, if there is one
abbrev pub event_for : Program → PolicyIntervals → ComId → Berth → Visit → Option Choice
event_for program policy c a (Turn pops) = choice program policy c a.part.node (a.turns + 1) a.left pops
event_for program policy c a Flush = option_map Unlisted (flushes program c a.part.node)

-- the pops are those of such a turn
abbrev pub IsVisit : Program → PolicyIntervals → ComId → Berth → Visit → Type 0
IsVisit program policy c a (Turn pops) = ArePopsOf policy c a.part.node (senders_of program c) pops
IsVisit program policy c a Flush = Unit {0}

-- the world of the component alone, with what its disk reads, in which the event of a choice is tried
abbrev pub tried_in : Program → ComId → Berth → Choice → SystemState
tried_in program c a x = record { world = alone program c a.part.node x a.part.showings; files = a.files }

-- counts ------------------------------------------------------------------------------------------

abbrev pub nothing_counted : LiveCounts
nothing_counted = record { received = 0; inputs = 0; packets = 0 }

-- one more where it holds
abbrev pub one_if : Bool → ℕ
one_if b = cond b 1 0

-- What an event adds to the counts of its berth, with so many packets that it put out: a receipt is counted where its step makes one, also
-- one that a stop then lost; an input that was missed is none. A packet that met a full lane was put out.
abbrev pub adds_to_counts : Program → ComId → Berth → Choice → ℕ → LiveCounts → LiveCounts
adds_to_counts program c a x puts counts = record {
  received = counts.received + one_if (receives program (tried_in program c a x).world (event_of c x).what && not (is_input (event_of c x).what));
  inputs = counts.inputs + one_if (receives program (tried_in program c a x).world (event_of c x).what && is_input (event_of c x).what);
  packets = counts.packets + puts;
}

abbrev pub counts_behind : Program → ComId → Berth → Option Choice → ℕ → LiveCounts → LiveCounts
counts_behind program c a None puts counts = counts
counts_behind program c a (Some x) puts counts = adds_to_counts program c a x puts counts

-- what a step of a live run was
abbrev pub visit_of : {program : Program} {fingerprint : List ℕ} {policy : PolicyIntervals} {c : ComId} {s t : Live} → LiveStep program fingerprint policy c s t → Visit
visit_of l = elim l.does [ inl turn ↦ Turn l.pops | inr flush ↦ Flush ]

-- what the berth of c counted along turns and flushes of all
abbrev pub counts_along : (program : Program) (fingerprint : List ℕ) (policy : PolicyIntervals) (c : ComId) (s : Live) (xs : List (ComId × Live)) → LiveRun program fingerprint policy s xs → LiveCounts → LiveCounts
counts_along program fingerprint policy c s [] run counts = counts
counts_along program fingerprint policy c s (x ∷ xs) run counts =
    counts_along program fingerprint policy c x.1 xs run.1 (cond (same_com c x.0) (counts_behind program x.0 (s.berths x.0) (event_for program policy x.0 (s.berths x.0) (visit_of run.0)) (length run.0.puts) counts) counts)

-- refusals ----------------------------------------------------------------------------------------

-- The event of a berth isn't done, or its packets aren't pushed: it is refused as in a world that has the component alone, over its own disk
-- and with its own counts. First come the receipts, then a full log, then what is met on the disk, last the packets, behind the step; a fault
-- of the disk and want of memory may come before.
pub record IsBerthRefused (program : Program) (fingerprint : List ℕ) (policy : PolicyIntervals) (c : ComId) (a : Berth) (counts : LiveCounts) (why : WorldRefused) : Type 0 where
  pub visit : Visit
  pub is_visit : IsVisit program policy c a visit
  pub choice : Choice
  pub asked : event_for program policy c a visit ≡ Some choice
  pub cause : IsLiveRefused program fingerprint (tried_in program c a choice) counts (event_of c choice) why

-- why a berth was refused, and what it had counted before
pub record BerthRefused : Type 0 where
  pub why : WorldRefused
  pub counts : LiveCounts

-- the answer of the lowest component that has one
abbrev pub lowest : (ComId → Option BerthRefused) → List ComId → Option BerthRefused
lowest answers [] = None
lowest answers (c ∷ cs) = first_of (answers c) (lowest answers cs)

-- Behind these turns and flushes the berths that have an answer were refused, each at the visit behind its last one; of several the lowest
-- component answers.
pub record IsLiveRunRefused (program : Program) (fingerprint : List ℕ) (policy : PolicyIntervals) (s : Live) (xs : List (ComId × Live)) (answers : ComId → Option BerthRefused) (answer : BerthRefused) : Type 0 where
  pub run : LiveRun program fingerprint policy s xs
  pub refused : (c : ComId) (r : BerthRefused) → answers c ≡ Some r → (r.counts ≡ counts_along program fingerprint policy c s xs run nothing_counted) × IsBerthRefused program fingerprint policy c ((last_live s xs).berths c) r.counts r.why
  pub is_lowest : lowest answers (coms_from 0 program.components) ≡ Some answer

-- A live run whose berths have these answers is refused for want of memory, with nothing counted, or as one of its berths is.
abbrev pub WhyRefused : Program → List ℕ → PolicyIntervals → Live → List (ComId × Live) → (ComId → Option BerthRefused) → BerthRefused → Type 0
WhyRefused program fingerprint policy s xs answers r = (r ≡ record { why = refused.Memory; counts = nothing_counted }) ⊎ IsLiveRunRefused program fingerprint policy s xs answers r
