-- The events of a script one after another, and what settles the world behind them.
use Rattle.std.proofs.Common.{◌≡◌, ◌∙◌, refl, sym, ap, subst, ℕ, zero, suc, ◌+◌, ◌<◌, List, [], ◌∷◌, ◌++◌, length, map, drop, Option, Some, None, option_map, arith}
use Rattle.std.specs.Prelude.{slice_get, get_or}
use Rattle.std.specs.List.{AllByRecursion}
use Rattle.std.proofs.lemmas.Option.{slice_get-get_or}
use Rattle.def_log.specs.Torn.{all_written}
use Rattle.def_two.specs.declared.script.Event2.{Event2}
use Rattle.def_two.specs.declared.script.What2.{What2}
use Rattle.def_two.specs.declared.script.TwoRefused.{TwoRefused}
use Rattle.def_two.specs.CoreSteps.{SystemState2, SystemStep, CoreStep2, Executes2, last_state2}
use Rattle.def_two.specs.Moves.{Openings}
use Rattle.def_two.specs.Runs.{next2, IsEvent2}
use Rattle.def_two.specs.World.{World2, happens2, next_event2}
use Rattle.ic_disk.specs.TornDisks.{Torn}
use Rattle.ic_disk.specs.Torns.{torn}
use Rattle.ic_disk.specs.declared.disk.Disk.{Ghosts}
use Rattle.ic_moves.specs.Chiefs as chiefs
use Rattle.ic_seat.specs.Seats.{disk_in, Stands}
use Rattle.ic_seat.specs.declared.seat.Seat.{Seat}
use Rattle.ic_two_world.specs.Executing.{Follows2, Goes2, Executed2, WasRefused2}
use Rattle.ic_two_world.specs.Opening.{disks_under, files_on}
use Rattle.ic_two_world.specs.Stepping.{IsSameScript, Steps2, FailsToStep2}
use Rattle.ic_two_world.specs.Views.{seats_of, openings_of, print_of, network_of, world_of, state_of, file_in, without_stop, KeepModel, GoesOn, IsGoing}
use Rattle.ic_two_world.specs.declared.world.TwoWorld.{TwoWorld}
use Rattle.ic_two_world.proofs.Kept.{disks-self, disks-trans, disks-model}
use Rattle.ic_two_world.proofs.Lists.{some-is}
use Rattle.ic_two_world.proofs.Settled.{left_as_one, lowers, settles-line}

-- one more step -----------------------------------------------------------------------------------

pub last-on : (p : SystemState2) (vs : List SystemStep) (v : SystemStep) → last_state2 p (vs ++ v ∷ []) ≡ v.state
last-on p [] v = refl
last-on p (u ∷ us) v = last-on u.state us v

follows-on : (openings : Openings) (events : List Event2) (p : SystemState2) (vs : List SystemStep) (rest : List Event2) (v : SystemStep) (more : List Event2) → Follows2 openings events p.world vs rest → next2 (last_state2 p vs).world rest ≡ Some (record { event = v.event; rest = more })
    → happens2 openings (last_state2 p vs).world v.event v.disk ≡ Some v.state.world → Follows2 openings events p.world (vs ++ v ∷ []) more
follows-on openings events p [] rest v more f next happens = (more, ap (next2 p.world) f ∙ next, happens, refl)
follows-on openings events p (u ∷ us) rest v more f next happens = (f.0, f.1, f.2, follows-on openings f.0 u.state us rest v more f.3 next happens)

executes-on : (openings : Openings) (print : List ℕ) (events : List Event2) (p : SystemState2) (vs : List SystemStep) (rest : List Event2) (v : SystemStep) (more : List Event2) → Executes2 openings print events p vs rest
    → next2 (last_state2 p vs).world rest ≡ Some (record { event = v.event; rest = more }) → CoreStep2 openings print (last_state2 p vs) v.event v.disk v.state → Executes2 openings print events p (vs ++ v ∷ []) more
executes-on openings print events p [] rest v more f next step = (more, ap (next2 p.world) f ∙ next, step, refl)
executes-on openings print events p (u ∷ us) rest v more f next step = (f.0, f.1, f.2, executes-on openings print f.0 u.state us rest v more f.3 next step)

-- the next event of a script
pub script-next : (w : World2) (events : List Event2) (i : ℕ) (e : Event2) → slice_get events i ≡ Some e → next2 w (drop i events) ≡ Some (record { event = e; rest = drop (i + 1) events })
script-next w events i e at = let same : suc i ≡ i + 1 = omega arith in by events i at ∙ ap (λ k. Some (record { event = e; rest = drop k events })) same
  where
    by : (xs : List Event2) (k : ℕ) → slice_get xs k ≡ Some e → next2 w (drop k xs) ≡ Some (record { event = e; rest = drop (suc k) xs })
    by [] k f = absurd (cc)
    by (x ∷ xs) zero f = let is : x ≡ e = cc in ap (λ (z : Event2). Some (record { event = z; rest = xs })) is
    by (x ∷ xs) (suc k) f = by xs k f

-- behind a script what settles is next
pub settling-next : (w : World2) (what : What2) → next_event2 w ≡ Some what → next2 w [] ≡ Some (record { event = without_stop what; rest = [] })
settling-next w what e = ap (option_map (λ (x : What2). record { event = without_stop x; rest = [] })) e

-- an event that settles, with what it does
pub settles-by : (o : Option What2) (result : Option Event2) (e : Event2) → result ≡ option_map without_stop o → result ≡ Some e → (what : What2) × (o ≡ Some what) × (without_stop what ≡ e)
settles-by None result e is at = let none : None ≡ Some e = sym is ∙ at in absurd (cc)
settles-by (Some what) result e is at = let same : ◌≡◌ {A = Option Event2} (Some (without_stop what)) (Some e) = sym is ∙ at in (what, refl, some-is (without_stop what) e same)

pub all-at : {A : Type 0} (P : A → Type 0) (xs : List A) (i : ℕ) (x : A) → AllByRecursion P xs → slice_get xs i ≡ Some x → P x
all-at P [] i x all e = absurd (cc)
all-at P (y ∷ ys) zero x all e = let is : y ≡ x = cc in subst P is all.0
all-at P (y ∷ ys) (suc i) x all e = all-at P ys i x all.1 e

module _ {D : Type 0} (b : Ghosts D) where
  -- nothing waits for a sync, so the disks below read the same
  files-rest : (xs : List (Seat (Torn D) (torn b))) → ((k : ℕ) (x : Seat (Torn D) (torn b)) → slice_get xs k ≡ Some x → Stands (torn b) x) → map file_in xs ≡ files_on b (disks_under xs)
  files-rest [] stand = refl
  files-rest (x ∷ xs) stand = ap (λ held. all_written (b.seen (disk_in x).inner) held ∷ map file_in xs) (stand 0 x refl).rests ∙ ap (λ l. b.seen (disk_in x).inner ∷ l) (files-rest xs (λ k. stand (suc k)))

  abbrev World : Type 0
  World = TwoWorld (Torn D) (torn b)

  same-going : (old new : World) → IsSameScript b old new → GoesOn (torn b) (openings_of old) (print_of old) (seats_of new) (network_of new) → IsGoing (torn b) new
  same-going old new same going =
      subst (λ bs. GoesOn (torn b) (chiefs.openings_of bs) (print_of new) (seats_of new) (network_of new)) (sym same.books) (subst (λ p. GoesOn (torn b) (openings_of old) p (seats_of new) (network_of new)) (sym same.print) going)

  -- a step goes on
  pub steps-going : (old new : World) (e : Event2) → Steps2 b old e new → IsGoing (torn b) new
  steps-going old new e step = same-going old new step.rest.same step.leads.goes_on

  pub goes-first : (events : List Event2) (w : World) → IsGoing (torn b) w → Goes2 b events w [] events w
  goes-first events w going = record {
    follows = refl;
    executes = λ keeps. refl;
    ends = refl;
    files = files-rest (seats_of w) (λ k x e. (going.seated k x e).stands);
    same = record { books = refl; print = refl };
    disks = disks-self (torn b) (seats_of w);
    going = going;
  }

  -- on the way, with these events of the script left
  abbrev pub IsUnderWay : List Event2 → World → List Event2 → World → Type 0
  IsUnderWay events old rest new = (steps : List SystemStep) × Goes2 b events old steps rest new

  pub goes-further : (events : List Event2) (old here new : World) (rest : List Event2) (e : Event2) (more : List Event2) → IsUnderWay events old rest here → next2 (world_of here) rest ≡ Some (record { event = e; rest = more }) → Steps2 b here e new → IsUnderWay events old more new
  goes-further events old here new rest e more (vs, goes) next step = (
    vs ++ v ∷ [],
    record {
      follows = follows-on (openings_of old) events (state_of old) vs rest v more goes.follows next-last happens;
      executes = λ keeps. executes-on (openings_of old) (print_of old) events (state_of old) vs rest v more (goes.executes keeps) next-last (core keeps);
      ends = last-on (state_of old) vs v;
      files = files-rest (seats_of new) (λ k x f. ((steps-going here new e step).seated k x f).stands);
      same = record { books = step.rest.same.books ∙ goes.same.books; print = step.rest.same.print ∙ goes.same.print };
      disks = disks-trans (torn b) (seats_of old) (seats_of here) (seats_of new) goes.disks step.rest.disks;
      going = steps-going here new e step;
    },
  )
    where
      v : SystemStep
      v = record { event = e; disk = step.leads.outcome; state = state_of new }

      last-is : last_state2 (state_of old) vs ≡ state_of here
      last-is = goes.ends

      next-last : next2 (last_state2 (state_of old) vs).world rest ≡ Some (record { event = e; rest = more })
      next-last = ap (λ (s : SystemState2). next2 s.world rest) last-is ∙ next

      own : openings_of here ≡ openings_of old
      own = ap chiefs.openings_of goes.same.books

      happens : happens2 (openings_of old) (last_state2 (state_of old) vs).world e step.leads.outcome ≡ Some (world_of new)
      happens = ap (λ (s : SystemState2). happens2 (openings_of old) s.world e step.leads.outcome) last-is ∙ ap (λ o. happens2 o (world_of here) e step.leads.outcome) (sym own) ∙ step.leads.happens

      core : KeepModel (seats_of old) → CoreStep2 (openings_of old) (print_of old) (last_state2 (state_of old) vs) e step.leads.outcome (state_of new)
      core keeps =
          subst (λ s. CoreStep2 (openings_of old) (print_of old) s e step.leads.outcome (state_of new)) (sym last-is)
          (subst (λ o. CoreStep2 o (print_of old) (state_of here) e step.leads.outcome (state_of new)) own
          (subst (λ p. CoreStep2 (openings_of here) p (state_of here) e step.leads.outcome (state_of new)) goes.same.print (step.leads.core (disks-model (torn b) (seats_of old) (seats_of here) goes.disks keeps))))

  pub goes-refused : (events : List Event2) (old here new : World) (rest : List Event2) (e : Event2) (more : List Event2) (why : TwoRefused) → IsUnderWay events old rest here → next2 (world_of here) rest ≡ Some (record { event = e; rest = more }) → FailsToStep2 b here e new why
      → WasRefused2 b events old new why
  goes-refused events old here new rest e more why (vs, goes) next fails = record { steps = vs; rest = rest; here = here; goes = goes; event = e; more = more; next = next; fails = fails }

  -- at an event of the script
  module _ (events : List Event2) (old here new : World) (i : ℕ) (e : Event2) (l : i < length events) (way : IsUnderWay events old (drop i events) here) where
    pub script-further : Steps2 b here (get_or events i e) new → IsUnderWay events old (drop (i + 1) events) new
    script-further step = goes-further events old here new (drop i events) (get_or events i e) (drop (i + 1) events) way (script-next (world_of here) events i (get_or events i e) (slice_get-get_or events i e l)) step

    pub script-refused : (why : TwoRefused) → FailsToStep2 b here (get_or events i e) new why → WasRefused2 b events old new why
    script-refused why fails =
        goes-refused events old here new (drop i events) (get_or events i e) (drop (i + 1) events) why way (script-next (world_of here) events i (get_or events i e) (slice_get-get_or events i e l)) fails

  -- at one that settles
  module _ (events : List Event2) (old here new : World) (way : IsUnderWay events old [] here) (what : What2) (next : next_event2 (world_of here) ≡ Some what) where
    pub settling-further : Steps2 b here (without_stop what) new → IsUnderWay events old [] new
    settling-further step = goes-further events old here new [] (without_stop what) [] way (settling-next (world_of here) what next) step

    pub settling-refused : (why : TwoRefused) → FailsToStep2 b here (without_stop what) new why → WasRefused2 b events old new why
    settling-refused why fails = goes-refused events old here new [] (without_stop what) [] why way (settling-next (world_of here) what next) fails

    pub settling-lowers : Steps2 b here (without_stop what) new → left_as_one (world_of new) < left_as_one (world_of here)
    settling-lowers step = lowers (torn b) here new way.1.going (steps-going here new (without_stop what) step) what step.leads.outcome next step.leads.happens

  pub goes-settled : (events : List Event2) (old new : World) → IsUnderWay events old [] new → next_event2 (world_of new) ≡ None → Executed2 b events old new
  goes-settled events old new (vs, goes) nothing = record { steps = vs; goes = goes; nothing = nothing }

  -- an event of the script stays one, and what settles is one
  pub event-there : (events : List Event2) (old here : World) (rest : List Event2) (i : ℕ) (e : Event2) → IsUnderWay events old rest here → AllByRecursion (IsEvent2 (openings_of old)) events → slice_get events i ≡ Some e → IsEvent2 (openings_of here) e
  event-there events old here rest i e (vs, goes) all at = subst (λ bs. IsEvent2 (chiefs.openings_of bs) e) (sym goes.same.books) (all-at (IsEvent2 (openings_of old)) events i e all at)

  pub settling-there : (here : World) (what : What2) → next_event2 (world_of here) ≡ Some what → IsEvent2 (openings_of here) (without_stop what)
  settling-there here what next = (settles-line (openings_of here) (world_of here) what next, tt)
