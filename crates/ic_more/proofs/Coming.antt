-- From a world that began over disks to what its run comes to over them.
use Rattle.std.proofs.Common.{◌≡◌, ◌∙◌, sym, ap, subst, refl, ◌⊎◌, inl, inr, ℕ, ◌≤◌, List, [], length, arith, Some}
use Rattle.std.specs.Prelude.{slice_get, Result, Ok, Err, IfOk, IfErr}
use Rattle.std.proofs.lemmas.List.{length-map}
use Rattle.def_two.specs.declared.script.Event2.{Event2}
use Rattle.def_two.specs.declared.script.TwoRefused.{TwoRefused}
use Rattle.def_two.specs.declared.script.TwoRefused.TheVariants as refused
use Rattle.def_two.specs.declared.script.TwoWhy.TheVariants as starts
use Rattle.def_two.specs.CoreSteps.{SystemState2, SystemStep}
use Rattle.def_two.specs.Ends.{AreOpenings}
use Rattle.def_two.specs.Printed.{two_lines}
use Rattle.def_two.specs.Refusals.{IsRefused2}
use Rattle.def_two.specs.Runs.{next2}
use Rattle.def_two.specs.Script.{TheScript, openings_of}
use Rattle.def_two.specs.World.{IsSettled2}
use Rattle.law_two.proofs.Lowering.{nothing_is_left}
use Rattle.ic_disk.specs.Causes.{Rose}
use Rattle.ic_disk.specs.Disk.{Keeps}
use Rattle.ic_disk.specs.TornDisks.{Torn}
use Rattle.ic_disk.specs.Torns.{torn}
use Rattle.ic_disk.specs.declared.disk.Disk.{Ghosts}
use Rattle.ic_moves.specs.Chiefs as chiefs
use Rattle.ic_seat.specs.declared.seat.Seat.{Seat}
use Rattle.ic_two_world.specs.Executing.{Follows2, Goes2, Executed2, WasRefused2}
use Rattle.ic_two_world.specs.Opening.{inner_in, disks_under, AllKeep, AreKept, HasFailed, Starts2}
use Rattle.ic_two_world.specs.Stepping.{IsFailed2, IsOfEvent}
use Rattle.ic_two_world.specs.Views as views
use Rattle.ic_two_world.specs.Views.{seats_of, world_of, state_of, KeepsDisks}
use Rattle.ic_two_world.specs.declared.world.TwoWorld.{TwoWorld}
use Rattle.ic_two_world.proofs.Beginning.{under-there}
use Rattle.ic_two_world.proofs.Disks.{kept-self, kept-trans}
use Rattle.ic_two_world.proofs.Ending.{executes, nothing-next, both-or-neither}
use Rattle.ic_two_world.proofs.Kept.{disks-model}
use Rattle.ic_two_world.proofs.Lists.{some-is, get-within, get-there}
use Rattle.ic_more.specs.Ends.{why_of_step}
use Rattle.ic_more.specs.Running.{Tells, FailsToTell}
use Rattle.ic_more.specs.Runs.{CameTo, IsCompleted, IsFault, WentNoFurther, RunsOver}
use Rattle.ic_more.specs.declared.ending.Why2.{Why2}
use Rattle.ic_more.specs.declared.ending.Why2.TheVariants.{Memory}

rose-before : (l m n : ℕ) → l ≤ m → Rose m n → Rose l n
rose-before l m n less rose = grind (arith, less, rose)

module _ {D : Type 0} (b : Ghosts D) where
  -- the disk in a place is that below a component
  seat-over : (xs : List (Seat (Torn D) (torn b))) (k : ℕ) (disk : D) → slice_get (disks_under xs) k ≡ Some disk → (x : Seat (Torn D) (torn b)) × (slice_get xs k ≡ Some x) × (inner_in x ≡ disk)
  seat-over xs k disk e =
      let x = get-there xs k (omega (arith, get-within (disks_under xs) k disk e, length-map xs inner_in)) in
      (x.0, x.1, some-is (inner_in x.0) disk (sym (under-there xs k x.0 x.1) ∙ e))

  pub under-kept : (xs ys : List (Seat (Torn D) (torn b))) → KeepsDisks (torn b) xs ys → AreKept b (disks_under xs) (disks_under ys)
  under-kept xs ys p = record {
    count = length-map ys inner_in ∙ p.count ∙ sym (length-map xs inner_in);
    each = λ k old new e f.
        let x = seat-over xs k old e in
        let y = seat-over ys k new f in
        let kept = p.each k x.0 y.0 x.1 y.1 in
        subst (λ z. Keeps b z new) x.2 (subst (λ z. Keeps b (inner_in x.0) z) y.2 (record { tells = kept.tells; keeps = kept.keeps; later = kept.later }));
  }

  has-failed : (old mid new : D) → Keeps b old mid → Rose (b.faults mid) (b.faults new) ⊎ b.stopped new → HasFailed b old new
  has-failed old mid new kept (inl rose) = inl (rose-before (b.faults old) (b.faults mid) (b.faults new) kept.later rose)
  has-failed old mid new kept (inr stopped) = inr stopped

  module _ (s : TheScript) (print : List ℕ) (disks : List D) where
    fault-of : (xs ys : List (Seat (Torn D) (torn b))) (why : TwoRefused) → AreKept b disks (disks_under xs) → IsFailed2 b xs ys why → IsFault b s print disks (disks_under ys) why
    fault-of xs ys (refused.Failed c) kept f =
        let x = f.0 in
        let y = f.1 in
        let there = under-there xs c x f.2 in
        let old = get-there disks c (omega (arith, get-within (disks_under xs) c (inner_in x) there, kept.count)) in
        (old.0, inner_in y, old.1, under-there ys c y f.3, has-failed old.0 (inner_in x) (inner_in y) (kept.each c old.0 (inner_in x) old.1 there) f.4)
    fault-of xs ys refused.Packets kept f = tt
    fault-of xs ys (refused.LogFull c) kept f = tt
    fault-of xs ys (refused.Bad c place) kept f = tt
    fault-of xs ys (refused.Foreign c held) kept f = tt
    fault-of xs ys refused.Memory kept f = tt

    module _ (opened : AreOpenings (openings_of s)) (long : length print ≡ 32) (first : TwoWorld (Torn D) (torn b)) (begun : Starts2 b (openings_of s) print disks first) where
      came : (steps : List SystemStep) (rest : List Event2) (new : TwoWorld (Torn D) (torn b)) → Goes2 b s.events first steps rest new → CameTo b s print disks (state_of first) steps rest
      came steps rest new goes = record {
        world = begun.world;
        follows = subst (λ o. Follows2 o s.events (world_of first) steps rest) begun.own goes.follows;
        started = begun.state;
        executes = λ sound. executes b (openings_of s) print disks sound.0 sound.1 opened long first begun s.events steps rest new goes;
      }

      -- the refusal, by the script and the fingerprint of the run
      refused-as : (new : TwoWorld (Torn D) (torn b)) (why : TwoRefused) (f : WasRefused2 b s.events first new why) → AllKeep b disks → IsRefused2 (openings_of s) print (state_of f.here) f.event why
      refused-as new why f keep =
          subst (λ o. IsRefused2 o print (state_of f.here) f.event why) (ap chiefs.openings_of f.goes.same.books ∙ begun.own)
          (subst (λ p. IsRefused2 (views.openings_of f.here) p (state_of f.here) f.event why) (f.goes.same.print ∙ begun.named) (f.fails.refused (disks-model (torn b) (seats_of first) (seats_of f.here) f.goes.disks (begun.keeps keep))))

      -- the disks on the way
      kept-to : (steps : List SystemStep) (rest : List Event2) (new : TwoWorld (Torn D) (torn b)) → Goes2 b s.events first steps rest new → AreKept b disks (disks_under (seats_of new))
      kept-to steps rest new goes = kept-trans b disks (disks_under (seats_of first)) (disks_under (seats_of new)) begun.kept (under-kept (seats_of first) (seats_of new) goes.disks)

      pub done-kept : (new : TwoWorld (Torn D) (torn b)) → Executed2 b s.events first new → AreKept b disks (disks_under (seats_of new))
      done-kept new done = kept-to done.steps [] new done.goes

      pub refused-kept : (new : TwoWorld (Torn D) (torn b)) (why : TwoRefused) → WasRefused2 b s.events first new why → AreKept b disks (disks_under (seats_of new))
      refused-kept new why f =
          kept-trans b disks (disks_under (seats_of f.here)) (disks_under (seats_of new)) (kept-to f.steps f.rest f.here f.goes) (under-kept (seats_of f.here) (seats_of new) f.fails.rest.disks)

      pub completed : (new : TwoWorld (Torn D) (torn b)) (done : Executed2 b s.events first new) (lines : List ℕ) → lines ≡ two_lines s (world_of new) → IsCompleted b s print disks (disks_under (seats_of new)) lines
      completed new done lines says =
          let printed = says ∙ ap (λ (q : SystemState2). two_lines s q.world) (sym done.goes.ends) in
          record {
            p = state_of first;
            steps = done.steps;
            came = came done.steps [] new done.goes;
            settled = subst (λ (q : SystemState2). IsSettled2 q.world) (sym done.goes.ends) ((nothing_is_left (views.openings_of new) (world_of new) done.goes.going.settles).0 done.nothing);
            printed = printed;
            both = λ sound.
                let law = both-or-neither b (openings_of s) print disks sound.0 sound.1 opened long first begun s.events new done in
                record {
                  first = state_of first;
                  started = begun.state sound.0;
                  steps = done.steps;
                  executes = executes b (openings_of s) print disks sound.0 sound.1 opened long first begun s.events done.steps [] new done.goes;
                  nothing = nothing-next b (openings_of s) print disks sound.0 sound.1 opened long first begun s.events new done;
                  files = ap (λ (q : SystemState2). q.files) done.goes.ends ∙ done.goes.files;
                  printed = printed;
                  stands = law.0;
                  ends = law.1;
                };
          }

      pub went-no-further : (new : TwoWorld (Torn D) (torn b)) (why : TwoRefused) → WasRefused2 b s.events first new why → WentNoFurther b s print disks (disks_under (seats_of new)) (why_of_step print why)
      went-no-further new why f = record {
        step = why;
        is = refl;
        refused = record {
          p = state_of first;
          steps = f.steps;
          rest = f.rest;
          came = came f.steps f.rest f.here f.goes;
          event = f.event;
          more = f.more;
          next = ap (λ (q : SystemState2). next2 q.world f.rest) f.goes.ends ∙ f.next;
          cause = λ sound. subst (λ (q : SystemState2). IsRefused2 (openings_of s) print q f.event why) (sym f.goes.ends) (refused-as new why f sound.1);
          fault = fault-of (seats_of f.here) (seats_of new) why (kept-to f.steps f.rest f.here f.goes) f.fails.failed;
          of_event = subst (λ (q : SystemState2). IsOfEvent q.world f.event.what why) (sym f.goes.ends) f.fails.of_event;
        };
      }

      pub runs-over : (new : TwoWorld (Torn D) (torn b)) (r : Result (List ℕ) Why2) → IfOk r (Tells b s first new) → IfErr r (FailsToTell b s print first new) → RunsOver b s print disks (disks_under (seats_of new)) r
      runs-over new (Ok lines) done short = record { kept = done-kept new done.executed; comes = completed new done.executed lines done.says }
      runs-over new (Err why) done (inl cut) = record {
        kept = refused-kept new cut.step cut.refused;
        comes = inr (inl (subst (WentNoFurther b s print disks (disks_under (seats_of new))) (sym cut.is) (went-no-further new cut.step cut.refused)));
      }
      runs-over new (Err why) done (inr untold) = record {
        kept = done-kept new untold.executed;
        comes = inr (inr (record { lines = two_lines s (world_of new); is = untold.is; completed = completed new untold.executed (two_lines s (world_of new)) refl }));
      }

  -- no memory for a run, before it begins
  pub no-memory : (s : TheScript) (print : List ℕ) (disks : List D) → RunsOver b s print disks disks (Err Memory)
  no-memory s print disks = record { kept = kept-self b disks; comes = inl (record { start = starts.Memory; is = refl; cause = record { refused = λ told. tt; failed = tt; stay = tt } }) }

  -- a run leaves as many components as there were
  pub same-count : (s : TheScript) (print : List ℕ) (first new : TwoWorld (Torn D) (torn b)) (r : Result (List ℕ) Why2) → IfOk r (Tells b s first new) → IfErr r (FailsToTell b s print first new) → length (seats_of new) ≡ length (seats_of first)
  same-count s print first new (Ok lines) done short = done.executed.goes.disks.count
  same-count s print first new (Err why) done (inl cut) = cut.refused.fails.rest.disks.count ∙ cut.refused.goes.disks.count
  same-count s print first new (Err why) done (inr untold) = untold.executed.goes.disks.count
