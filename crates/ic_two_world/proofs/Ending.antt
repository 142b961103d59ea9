-- A script that is run from blank disks: both books or neither.
use Rattle.std.proofs.Common.{◌≡◌, ◌∙◌, sym, ap, subst, ℕ, List, [], length, None}
use Rattle.def_two.specs.declared.script.Event2.{Event2}
use Rattle.def_two.specs.declared.script.TwoRefused.{TwoRefused}
use Rattle.def_two.specs.declared.script.TwoRefused.TheVariants as refused
use Rattle.def_two.specs.Both.{without_files, worlds_in}
use Rattle.def_two.specs.CoreSteps.{SystemState2, SystemStep, IsStarted2, Executes2, last_state2}
use Rattle.def_two.specs.Ends.{AreOpenings, StandsBothOrNeither, EndsBothOrNeither}
use Rattle.def_two.specs.Moves.{Openings}
use Rattle.def_two.specs.Refusals.{met2, IsRefused2}
use Rattle.def_two.specs.World.{next_event2}
use Rattle.law_two_run.proofs.Executing.{executions_end}
use Rattle.law_two_run.proofs.Meeting.{executions_meet}
use Rattle.ic_disk.specs.TornDisks.{Torn}
use Rattle.ic_disk.specs.Torns.{torn}
use Rattle.ic_disk.specs.declared.disk.Disk.{Ghosts}
use Rattle.ic_moves.specs.Chiefs as chiefs
use Rattle.ic_two_world.specs.Executing.{Goes2, Executed2, WasRefused2}
use Rattle.ic_two_world.specs.Opening.{AllTell, AllKeep, files_on, Starts2}
use Rattle.ic_two_world.specs.Views.{openings_of, state_of}
use Rattle.ic_two_world.specs.declared.world.TwoWorld.{TwoWorld}
use Rattle.ic_two_world.proofs.Kept.{disks-model}
use Rattle.ic_two_world.proofs.Settled.{some-none}

module _ {D : Type 0} (b : Ghosts D) (openings : Openings) (print : List ℕ) (disks : List D) (tell : AllTell b disks) (keep : AllKeep b disks) (opened : AreOpenings openings) (long : length print ≡ 32)
    (first : TwoWorld (Torn D) (torn b)) (starts : Starts2 b openings print disks first) (events : List Event2) where
  pub started : IsStarted2 openings print (files_on b disks) (state_of first)
  started = starts.state tell

  -- what goes on from there is an execution of the script's books and fingerprint
  pub executes : (vs : List SystemStep) (rest : List Event2) (new : TwoWorld (Torn D) (torn b)) → Goes2 b events first vs rest new → Executes2 openings print events (state_of first) vs rest
  executes vs rest new goes =
      subst (λ o. Executes2 o print events (state_of first) vs rest) starts.own
      (subst (λ p. Executes2 (openings_of first) p events (state_of first) vs rest) starts.named (goes.executes (starts.keeps keep)))

  module _ (new : TwoWorld (Torn D) (torn b)) (done : Executed2 b events first new) where
    last-is : last_state2 (state_of first) done.steps ≡ state_of new
    last-is = done.goes.ends

    pub nothing-next : next_event2 (last_state2 (state_of first) done.steps).world ≡ None
    nothing-next = ap (λ (s : SystemState2). next_event2 s.world) last-is ∙ done.nothing

    pub both-or-neither : StandsBothOrNeither openings (worlds_in (state_of first) done.steps) (last_state2 (state_of first) done.steps).world × EndsBothOrNeither openings (without_files done.steps)
    both-or-neither = executions_end openings print events (files_on b disks) (state_of first) done.steps opened long started (executes done.steps [] new done.goes) nothing-next

  module _ (new : TwoWorld (Torn D) (torn b)) where
    none-met : (why : TwoRefused) (f : WasRefused2 b events first new why) → met2 openings print (state_of f.here) f.event ≡ None
    none-met why f =
        ap (λ (s : SystemState2). met2 openings print s f.event) (sym f.goes.ends)
        ∙ executions_meet openings print events (files_on b disks) (state_of first) f.steps f.rest f.event opened long started (executes f.steps f.rest f.here f.goes)

    refused-as : (why : TwoRefused) (f : WasRefused2 b events first new why) → IsRefused2 openings print (state_of f.here) f.event why
    refused-as why f =
        subst (λ o. IsRefused2 o print (state_of f.here) f.event why) (ap chiefs.openings_of f.goes.same.books ∙ starts.own)
        (subst (λ p. IsRefused2 (openings_of f.here) p (state_of f.here) f.event why) (f.goes.same.print ∙ starts.named) (f.fails.refused (disks-model (torn b) _ _ f.goes.disks (starts.keeps keep))))

    -- no recovery meets a bad log or a foreign one
    pub never-bad : (c place : ℕ) → WasRefused2 b events first new (refused.Bad c place) → ⊥
    never-bad c place f = some-none (refused.Bad c place) (sym (refused-as (refused.Bad c place) f) ∙ none-met (refused.Bad c place) f)

    pub never-foreign : (c : ℕ) (kept : List ℕ) → WasRefused2 b events first new (refused.Foreign c kept) → ⊥
    never-foreign c kept f = some-none (refused.Foreign c kept) (sym (refused-as (refused.Foreign c kept) f) ∙ none-met (refused.Foreign c kept) f)
