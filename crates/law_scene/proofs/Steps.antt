-- Each event of the scene is a core step.
use Rattle.std.proofs.Common.{◌≡◌, refl, ◌∙◌, ap, sym, ℕ, zero, suc, ◌==◌, ℤ, pos, nat_lt, Bool, true, false, not, ◌&&◌, ◌||◌, List, [], ◌∷◌, length, map, slice_get, unwrap_or, Option, Some, None, option_map, Ok, arith}
use Rattle.std.proofs.lemmas.Bool.{eqb-true}
use Rattle.std.specs.declared.alloc.Global.{Global}
use Rattle.ic_base.specs.declared.events.Answer.{Answer}
use Rattle.ic_base.specs.declared.events.Answer.TheVariants as answers
use Rattle.ic_base.specs.declared.events.What.{What}
use Rattle.ic_base.specs.declared.events.What.TheVariants as whats
use Rattle.ic_base.specs.declared.played.Played.{Played}
use Rattle.ic_base.specs.declared.record.Record.{Record}
use Rattle.ic_base.specs.declared.limits.TheConstants.{SLOTS}
use Rattle.def_log.specs.Directory.{slots_in}
use Rattle.def_log.specs.Frame.{at_rest}
use Rattle.def_log.specs.Log.{log_of}
use Rattle.def_log.specs.Sizes.{size_in}
use Rattle.def_log.specs.Spelling.{spelling}
use Rattle.def_play.proofs.Handlers.{add_plays}
use Rattle.def_plain.specs.Scenes.{com_at}
use Rattle.def_state.specs.Vol.{first_vol, numbers_fit}
use Rattle.def_step.specs.Calls.{node_is_full}
use Rattle.def_step.specs.Pcom.{Pcom, Gives, decide, is_replaying, needed_fetch, nothing_at_all, stands_at, told}
use Rattle.def_step.specs.Room.{has_no_room, is_empty}
use Rattle.def_step.specs.World.{Node, Runs, Down, After, DiskOutcome, behind, cut_off, done_as, happens, input_answer, up_answer}
use Rattle.def_step.proofs.Inputs.{input_step, replayed_input, with_input}
use Rattle.def_step.specs.Settle.{asked_of}
use Rattle.def_run.specs.CoreSteps.{CoreStep, is_full_at, is_stopped, forced_of}
use Rattle.def_run.specs.SystemStates.{KeepsLog, KeepsLogs, is_com, without_stop}
use Rattle.law_scene.specs.Tally.{program, adds, one_input, both_inputs, tally, stands, begins, behind_one, downs, behind_both, answered}
use Rattle.law_scene.proofs.Files.{Reads, reads_none, reads_one, reads_both}

-- what the disk decides: what a load reads, and the size of its log
abbrev finds : List Record → ℕ → DiskOutcome
finds log size = record { found = log; size = size; free = true; left = []; is_open = false }

never : {A : Type 0} → false ≡ true → A
never e = absurd (cc e)

not-both : {A : Type 0} (b : Bool) → b ≡ true → b ≡ false → A
not-both b is other = never (sym other ∙ is)

not-zero : {A : Type 0} (n : ℕ) → (suc n == 0) ≡ true → A
not-zero n e = let none = eqb-true (suc n) 0 e in absurd (omega (arith, none))

keeps : (f : List ℕ) (node : Node) (log : List Record) → KeepsLog f (com_at 0) (at_rest f 0 [] (map spelling log)) (Some node) → KeepsLogs f (stands f node log)
keeps f node log k c = at c.0
  where
    at : (n : ℕ) → KeepsLog f (com_at n) (unwrap_or (slice_get (at_rest f 0 [] (map spelling log) ∷ []) n) []) (slice_get (node ∷ []) n)
    at zero = k
    at (suc n) = tt

-- an event of the one component, in which no stop is reached
core : (a : Global) (f : List ℕ) (node after : Node) (log now : List Record) (size : ℕ) (what : What) (answer : Answer) → Reads f log size → KeepsLog f (com_at 0) (at_rest f 0 [] (map spelling now)) (Some after) →
    asked_of what answer ≡ Some (com_at 0) → is_stopped answer ≡ false → (forced_of (Some after) ≡ forced_of (Some node) → now ≡ log) →
    happens (program a) (stands f node log).world (without_stop what) (finds log size) ≡ Some (record { world = (stands f after now).world; trace = (answered what answer (stands f after now)).trace }) →
    is_full_at (program a) (stands f node log) what ≡ false → CoreStep (program a) f (stands f node log) (without_stop what) (answered what answer (stands f after now)).trace (stands f after now)
core a f node after log now size what answer r kept asked going same is fits = record {
  outcome = finds log size;
  happens = is;
  fits = fits;
  disk = λ c e. let here : (c.0 == 0) ≡ true = ap (is_com c) (sym asked) ∙ e in record {
    found = read c.0 here;
    size = long c.0 here;
    free = free c.0 here;
    torn = λ k. not-both (is_stopped answer) k going;
    same = λ k l. stay c.0 here l;
  };
  others = λ c e. other c.0 (ap (is_com c) (sym asked) ∙ e);
  logs = keeps f after now kept;
}
  where
    old : List ℕ
    old = at_rest f 0 [] (map spelling log)

    new : List ℕ
    new = at_rest f 0 [] (map spelling now)

    read : (n : ℕ) → (n == 0) ≡ true → log_of (unwrap_or (slice_get (old ∷ []) n) []) ≡ Ok log
    read zero e = r.log.holds
    read (suc n) e = not-zero n e

    long : (n : ℕ) → (n == 0) ≡ true → size_in (unwrap_or (slice_get (old ∷ []) n) []) ≡ Some size
    long zero e = r.size
    long (suc n) e = not-zero n e

    free : (n : ℕ) → (n == 0) ≡ true → true ≡ nat_lt (length (slots_in (unwrap_or (slice_get (old ∷ []) n) []))) SLOTS
    free zero e = ap (λ (l : List ℕ). nat_lt (length l) SLOTS) (sym r.slots)
    free (suc n) e = not-zero n e

    stay : (n : ℕ) → (n == 0) ≡ true → forced_of (slice_get (after ∷ []) n) ≡ forced_of (slice_get (node ∷ []) n) → unwrap_or (slice_get (new ∷ []) n) [] ≡ unwrap_or (slice_get (old ∷ []) n) []
    stay zero e l = ap (λ log. at_rest f 0 [] (map spelling log)) (same l)
    stay (suc n) e l = refl

    other : (n : ℕ) → (n == 0) ≡ false → unwrap_or (slice_get (new ∷ []) n) [] ≡ unwrap_or (slice_get (old ∷ []) n) []
    other zero e = never (sym e)
    other (suc n) e = refl

-- an input: its handler adds -----------------------------------------------------------------------------

-- what the world comes to where the handler plays so
abbrev given : Global → Pcom → ℤ → Played → Option After
given a p n r = Some (behind (record { nodes = Runs p ∷ []; packets = []; waiting = []; showings = [] }) (without_stop (adds n)) (com_at 0) (done_as (input_answer p) (input_step (program a) (com_at 0) p 0 (n ∷ []) r)))

-- whether its log or a number is full
abbrev fills : Global → Pcom → ℤ → ℕ → Played → Bool
fills a p n size r =
    not (is_replaying p)
    && not (is_empty (decide (program a) (com_at 0) p (Gives 0 (n ∷ []))).adds)
    && (has_no_room size (with_input (com_at 0) p 0 (n ∷ []) r).log.buffered || not (numbers_fit (with_input (com_at 0) p 0 (n ∷ []) r).vol))

-- of a log of this size
abbrev is_full : Global → Pcom → ℤ → Option ℕ → Bool
is_full a p n size = elim size [ None ↦ false | Some z ↦ node_is_full (program a) (com_at 0) (Gives 0 (n ∷ [])) z (Runs p) ]

pub first_input : (a : Global) (f : List ℕ) → length f ≡ 32 → CoreStep (program a) f (begins a f) (without_stop (adds (pos 5))) (answered (adds (pos 5)) answers.Taken (behind_one a f)).trace (behind_one a f)
first_input a f long =
    core a f (Runs (tally a (pos 0) 0 [])) (Runs (tally a (pos 5) 1 one_input)) [] one_input 9258 (adds (pos 5)) answers.Taken (reads_none f long) (reads_one f long).log refl refl (λ e. absurd (cc e))
    (ap (given a (tally a (pos 0) 0 []) (pos 5)) (add_plays (pos 0 ∷ []) (pos 5 ∷ []) [] []))
    (ap (is_full a (tally a (pos 0) 0 []) (pos 5)) (reads_none f long).size ∙ ap (fills a (tally a (pos 0) 0 []) (pos 5) 9258) (add_plays (pos 0 ∷ []) (pos 5 ∷ []) [] []))

pub second_input : (a : Global) (f : List ℕ) → length f ≡ 32 → CoreStep (program a) f (behind_one a f) (without_stop (adds (pos 7))) (answered (adds (pos 7)) answers.Taken (behind_both a f)).trace (behind_both a f)
second_input a f long =
    core a f (Runs (tally a (pos 5) 1 one_input)) (Runs (tally a (pos 12) 2 both_inputs)) one_input both_inputs 9282 (adds (pos 7)) answers.Taken (reads_one f long) (reads_both f long).log refl refl (λ e. absurd (cc e))
    (ap (given a (tally a (pos 5) 1 one_input) (pos 7)) (add_plays (pos 5 ∷ []) (pos 7 ∷ []) [] []))
    (ap (is_full a (tally a (pos 5) 1 one_input) (pos 7)) (reads_one f long).size ∙ ap (fills a (tally a (pos 5) 1 one_input) (pos 7) 9282) (add_plays (pos 5 ∷ []) (pos 7 ∷ []) [] []))

-- the crash and the recovery -------------------------------------------------------------------------------

pub the_crash : (a : Global) (f : List ℕ) → length f ≡ 32 → CoreStep (program a) f (behind_one a f) (without_stop (whats.Crash (com_at 0))) (answered (whats.Crash (com_at 0)) answers.Ended (downs f)).trace (downs f)
the_crash a f long =
    core a f (Runs (tally a (pos 5) 1 one_input)) (Down one_input) one_input one_input 9282 (whats.Crash (com_at 0)) answers.Ended (reads_one f long) (reads_one f long).log refl refl (λ e. refl) refl refl

-- what the recovery comes to where the handler plays so
abbrev back : Global → Played → Option After
back a r =
    option_map (behind (record { nodes = Down one_input ∷ []; packets = []; waiting = []; showings = [] }) (without_stop (whats.Recover (com_at 0))) (com_at 0))
    (option_map (cut_off None (finds one_input 9282) (Down one_input) answers.Stopped)
    (option_map (λ t. done_as (up_answer t.pcom) t)
    (option_map (λ x. told (stands_at (record { forced = one_input; buffered = [] }) x) (needed_fetch (com_at 0) x.rest) nothing_at_all)
    (replayed_input (com_at 0) (first_vol (program a) (com_at 0)) 1 0 (pos 5 ∷ []) r))))

pub the_recovery : (a : Global) (f : List ℕ) → length f ≡ 32 → CoreStep (program a) f (downs f) (without_stop (whats.Recover (com_at 0))) (answered (whats.Recover (com_at 0)) answers.Up (behind_one a f)).trace (behind_one a f)
the_recovery a f long =
    core a f (Down one_input) (Runs (tally a (pos 5) 1 one_input)) one_input one_input 9282 (whats.Recover (com_at 0)) answers.Up (reads_one f long) (reads_one f long).log refl refl (λ e. refl)
    (ap (back a) (add_plays (pos 0 ∷ []) (pos 5 ∷ []) [] [])) refl
