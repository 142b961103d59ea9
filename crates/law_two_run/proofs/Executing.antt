-- Executions over fresh logs on blank disks.
use Rattle.std.proofs.Common.{◌≡◌, refl, ◌∙◌, ap, sym, subst, ℕ, zero, suc, ◌<◌, ◌≤◌, true, List, [], ◌∷◌, ◌++◌, length, map, Option, Some, None, arith, ◌⊎◌, inl, inr}
use Rattle.std.specs.Prelude.{⊤, Contains, MatchOption, Ok, slice_get}
use Rattle.std.specs.List.{AllByRecursion}
use Rattle.std.proofs.lemmas.List.Elements.{Contains-push, Contains-push_cases}
use Rattle.std.proofs.lemmas.Option.{same_Some}
use Rattle.def_log.specs.Frame.{fresh, fingerprint_in, owner_in}
use Rattle.def_log.specs.Log.{◌>>=◌}
use Rattle.law_marks.proofs.NewLogs.{fresh_frame, fresh_print, fresh_owner}
use Rattle.def_two.specs.declared.moves.Record2.{Record2}
use Rattle.def_two.specs.declared.script.Event2.{Event2}
use Rattle.def_two.specs.Moves.{Openings, nth_book}
use Rattle.def_two.specs.World.{World2, Site, site_at, log_in, log_at, book_at, first_world2, next_event2}
use Rattle.def_two.specs.Runs.{Called, call_of, would_add, Transition2, Leads, IsRun, Follows, last_of, worlds_of}
use Rattle.def_two.specs.Ends.{AreOpenings, StandsBothOrNeither, EndsBothOrNeither}
use Rattle.def_two.specs.Facts.{BookFacts, Holds}
use Rattle.def_two.specs.Records.{Fits2}
use Rattle.def_two.specs.Logs.{log2_of, placed2_in, records2_in}
use Rattle.def_two.specs.CoreSteps.{SystemState2, SystemStep, file2_of, IsLog2, KeepsLogs2, CoreStep2, IsStarted2, Executes2, last_state2}
use Rattle.def_two.specs.Both.{without_files, worlds_in}
use Rattle.law_two.proofs.Lists.{none-some, in-head, only}
use Rattle.law_two.proofs.Books.{first_facts}
use Rattle.law_two.proofs.Standing.{first_holds, step_holds, book_facts}
use Rattle.law_two.proofs.Ending.{runs_end, runs_stand}
use Rattle.law_two_run.specs.Runs.{ForcesFit, ExecutionsEndBothOrNeither}
use Rattle.law_two_run.proofs.Leading.{core_steps_lead}
use Rattle.law_two_run.proofs.Fitting.{FitsLogs, AllBounded, all-append, event_fits}
use Rattle.law_two_run.proofs.Adding.{Added, event_grows}

-- what an execution keeps
pub record Stands (books : Openings) (fingerprint : List ℕ) (past : List World2) (p : SystemState2) : Type 0 where
  pub there : Contains past p.world
  pub holds : Holds books past p.world
  pub logs : FitsLogs p.world
  pub bounded : AllBounded books past
  pub kept : KeepsLogs2 fingerprint p

-- each book of a world in which the invariant holds has its facts
bounded-at : (books : Openings) (past : List World2) (w : World2) → AreOpenings books → Holds books past w → (b : ℕ) → BookFacts b (nth_book books b) (book_at books w b)
bounded-at books past w o h zero = first_facts 0 [] (λ key. omega arith)
bounded-at books past w o h (suc b) = book_facts books past w b o h

forces-fit : (books : Openings) (fingerprint : List ℕ) (past : List World2) (p : SystemState2) (v : SystemStep) → AreOpenings books → Stands books fingerprint past p → CoreStep2 books fingerprint p v.event v.disk v.state → ForcesFit books p v.event
forces-fit books fingerprint past p v o s step = event_fits books past p o s.holds s.logs s.bounded v.event.what step.event.0 step.fits

leads : (books : Openings) (fingerprint : List ℕ) (past : List World2) (p : SystemState2) (v : SystemStep) → AreOpenings books → Stands books fingerprint past p → CoreStep2 books fingerprint p v.event v.disk v.state →
    Leads books p.world (record { event = v.event; disk = v.disk; world = v.state.world })
leads books fingerprint past p v o s step = core_steps_lead books fingerprint p v.event v.disk v.state s.kept (forces-fit books fingerprint past p v o s step) step

-- a core step keeps it
pub stands-on : (books : Openings) (fingerprint : List ℕ) (past : List World2) (p : SystemState2) (v : SystemStep) → AreOpenings books → Stands books fingerprint past p → CoreStep2 books fingerprint p v.event v.disk v.state → Stands books fingerprint (past ++ v.state.world ∷ []) v.state
stands-on books fingerprint past p v o s step = record {
  there = Contains-push past v.state.world;
  holds = holds;
  logs = λ c. log-fits c (event_grows books p.world v.state.world v.event.what v.event.stop v.disk lead.disk lead.happens c);
  bounded = λ u k b. bounded u b (Contains-push_cases past v.state.world u k);
  kept = step.logs;
}
  where
    lead : Leads books p.world (record { event = v.event; disk = v.disk; world = v.state.world })
    lead = leads books fingerprint past p v o s step

    holds : Holds books (past ++ v.state.world ∷ []) v.state.world
    holds = step_holds books past p.world (record { event = v.event; disk = v.disk; world = v.state.world }) s.there s.holds lead

    adds-fit : (y : Option Called) → AllByRecursion Fits2 (elim y as (λ z. List Record2) [ None ↦ [] | Some z ↦ would_add books p.world z ]) → AllByRecursion Fits2 (Added books p.world y)
    adds-fit None f = tt
    adds-fit (Some y) f = f

    log-fits : (c : ℕ) → (log_at v.state.world c ≡ log_at p.world c) ⊎ (log_at v.state.world c ≡ log_at p.world c ++ Added books p.world (call_of p.world v.event.what)) → AllByRecursion Fits2 (log_at v.state.world c)
    log-fits c (inl e) = subst (AllByRecursion Fits2) (sym e) (s.logs c)
    log-fits c (inr e) =
        subst (AllByRecursion Fits2) (sym e) (all-append Fits2 (log_at p.world c) (Added books p.world (call_of p.world v.event.what)) (s.logs c) (adds-fit (call_of p.world v.event.what) (forces-fit books fingerprint past p v o s step)))

    bounded : (u : World2) (b : ℕ) → Contains past u ⊎ (v.state.world ≡ u) → BookFacts b (nth_book books b) (book_at books u b)
    bounded u b (inl k) = s.bounded u k b
    bounded u b (inr e) = subst (λ z. BookFacts b (nth_book books b) (book_at books z b)) e (bounded-at books (past ++ v.state.world ∷ []) v.state.world o holds b)

follows : (books : Openings) (fingerprint : List ℕ) (past : List World2) (events : List Event2) (p : SystemState2) (vs : List SystemStep) → AreOpenings books → Stands books fingerprint past p → Executes2 books fingerprint events p vs [] →
    Follows books events p.world (without_files vs) []
follows books fingerprint past events p [] o s run = run
follows books fingerprint past events p (v ∷ vs) o s run =
    (run.0, run.1, leads books fingerprint past p v o s run.2, follows books fingerprint (past ++ v.state.world ∷ []) run.0 v.state vs o (stands-on books fingerprint past p v o s run.2) run.3)

as-run : (books : Openings) (events : List Event2) (w : World2) (vs : List Transition2) (rest : List Event2) → Follows books events w vs rest → IsRun books w vs
as-run books events w [] rest f = tt
as-run books events w (v ∷ vs) rest f = (f.2, as-run books f.0 v.world vs rest f.3)

-- the start --------------------------------------------------------------------------------------

pub fresh-log : (fingerprint : List ℕ) (owner : ℕ) → length fingerprint ≡ 32 → log2_of (fresh fingerprint owner) ≡ Ok []
fresh-log fingerprint owner long = ap (λ r. (r >>= placed2_in) >>= (λ rs. Ok (records2_in rs))) (fresh_frame fingerprint owner long)

-- a component of the first world is one of the books or the chief, over no records
first-site : (books : Openings) (c : ℕ) (s : Site) → site_at (first_world2 books) c ≡ Some s → (c ≤ length books) × (s.log ≡ [])
first-site books zero s e = (omega arith, ap (λ (z : Site). z.log) (sym (same_Some (record { up = true; log = [] }) s e)))
first-site books (suc c) s e = let z = at books c e in (omega (arith, z.0), z.1)
  where
    at : (bs : List (List ℕ)) (i : ℕ) → slice_get (map (λ (o : List ℕ). record { up = true; log = [] }) bs) i ≡ Some s → (i < length bs) × (s.log ≡ [])
    at [] i f = none-some s f
    at (o ∷ bs) zero f = (omega arith, ap (λ (z : Site). z.log) (sym (same_Some (record { up = true; log = [] }) s f)))
    at (o ∷ bs) (suc i) f = let z = at bs i f in (omega (arith, z.0), z.1)

pub starts : (books : Openings) (fingerprint : List ℕ) (before : List (List ℕ)) (p : SystemState2) → AreOpenings books → length fingerprint ≡ 32 → IsStarted2 books fingerprint before p → Stands books fingerprint (first_world2 books ∷ []) p
starts books fingerprint before p o long start = record {
  there = subst (Contains (first_world2 books ∷ [])) (sym start.world) (in-head (first_world2 books) []);
  holds = subst (Holds books (first_world2 books ∷ [])) (sym start.world) (first_holds books);
  logs = λ c. subst (λ w. AllByRecursion Fits2 (log_at w c)) (sym start.world) (none c (site_at (first_world2 books) c) refl);
  bounded = λ u k b. subst (λ w. BookFacts b (nth_book books b) (book_at books w b)) (only (first_world2 books) u k) (bounded-at books (first_world2 books ∷ []) (first_world2 books) o (first_holds books) b);
  kept = λ c. subst (λ w. MatchOption (site_at w c) ⊤ (λ s. IsLog2 fingerprint c (file2_of p c) s.log)) (sym start.world) (keeps c (site_at (first_world2 books) c) refl);
}
  where
    none : (c : ℕ) (q : Option Site) → site_at (first_world2 books) c ≡ q → AllByRecursion Fits2 (log_at (first_world2 books) c)
    none c None e = subst (λ z. AllByRecursion Fits2 (log_in z)) (sym e) tt
    none c (Some s) e = subst (λ z. AllByRecursion Fits2 (log_in z)) (sym e) (subst (AllByRecursion Fits2) (sym (first-site books c s e).1) tt)

    keeps : (c : ℕ) (q : Option Site) → site_at (first_world2 books) c ≡ q → MatchOption q ⊤ (λ s. IsLog2 fingerprint c (file2_of p c) s.log)
    keeps c None e = tt
    keeps c (Some s) e =
        let z = first-site books c s e in
        let file : file2_of p c ≡ fresh fingerprint c = start.fresh c z.0 in
        record {
          own = ap fingerprint_in file ∙ fresh_print fingerprint c long;
          owned = ap owner_in file ∙ fresh_owner fingerprint c long;
          holds = ap log2_of file ∙ fresh-log fingerprint c long ∙ ap Ok (sym z.1);
        }

last-world : (p : SystemState2) (vs : List SystemStep) → (last_state2 p vs).world ≡ last_of p.world (without_files vs)
last-world p [] = refl
last-world p (v ∷ vs) = last-world v.state vs

same-worlds : (vs : List SystemStep) → map (λ (v : SystemStep). v.state.world) vs ≡ map (λ (v : Transition2). v.world) (without_files vs)
same-worlds [] = refl
same-worlds (v ∷ vs) = ap (λ l. v.state.world ∷ l) (same-worlds vs)

pub executions_end : ExecutionsEndBothOrNeither
executions_end books fingerprint events before p vs o long start run nothing = (stands, ends)
  where
    world : (last_state2 p vs).world ≡ last_of (first_world2 books) (without_files vs)
    world = last-world p vs ∙ ap (λ w. last_of w (without_files vs)) start.world

    worlds : worlds_in p vs ≡ worlds_of (first_world2 books) (without_files vs)
    worlds = ap (λ w. w ∷ map (λ (v : SystemStep). v.state.world) vs) start.world ∙ ap (λ l. first_world2 books ∷ l) (same-worlds vs)

    through : Follows books events (first_world2 books) (without_files vs) []
    through = subst (λ w. Follows books events w (without_files vs) []) start.world (follows books fingerprint (first_world2 books ∷ []) events p vs o (starts books fingerprint before p o long start) run)

    stands : StandsBothOrNeither books (worlds_in p vs) (last_state2 p vs).world
    stands =
        subst (λ ws. StandsBothOrNeither books ws (last_state2 p vs).world) (sym worlds)
        (subst (StandsBothOrNeither books (worlds_of (first_world2 books) (without_files vs))) (sym world) (runs_stand books (without_files vs) o (as-run books events (first_world2 books) (without_files vs) [] through)))

    ends : EndsBothOrNeither books (without_files vs)
    ends = runs_end books events (without_files vs) o (record { follows = through; nothing = ap next_event2 (sym world) ∙ nothing })
