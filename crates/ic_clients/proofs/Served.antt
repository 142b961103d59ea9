-- What a run with status 0 promises its clients.
use Rattle.std.proofs.Common.{◌≡◌, ◌∙◌, sym, ap, subst, ℕ, Bool, List, [], ◌∷◌, ◌++◌, map}
use Rattle.std.specs.Prelude.{Contains, not}
use Rattle.std.specs.List.{AllByRecursion}
use Rattle.std.proofs.lemmas.List.{append-nil}
use Rattle.def_client.specs.Clients.{Item, clients}
use Rattle.def_client.specs.Fronts.{Front}
use Rattle.def_client.specs.Promises.{EachOnce, RunsClients}
use Rattle.def_client.specs.declared.asked.Asked.{Asked}
use Rattle.def_facts.specs.World.{forced_logs}
use Rattle.def_plain.specs.Plain.{PlainWorld}
use Rattle.def_rounds.specs.Rounds.{Round, AreRounds, side_after, state_after, transitions_of}
use Rattle.def_run.specs.CrashFree.{StandsCrashFree}
use Rattle.def_run.specs.Executions.{Executes, next, whole_agenda}
use Rattle.def_run.specs.SystemStates.{SystemState, Transition, last_state}
use Rattle.def_step.specs.Settle.{PolicyIntervals}
use Rattle.ic_disk.specs.declared.disk.Disk as disk
use Rattle.ic_disk.specs.declared.sink.Sink as sink
use Rattle.ic_plan.specs.declared.run_texts.RunTexts.{RunTexts}
use Rattle.ic_report.specs.Outputs.{Puts}
use Rattle.ic_report.proofs.Outputs.{puts_then}
use Rattle.ic_run.specs.Lending.{lent}
use Rattle.ic_run.specs.Openings.{TheyTell}
use Rattle.ic_run.specs.Summaries.{summary_in}
use Rattle.ic_run.specs.Worlds.{RunsIn}
use Rattle.ic_run.specs.declared.opening.Opening.TheVariants.{Anew}
use Rattle.ic_run.specs.Agendas.{MayRun}
use Rattle.ic_settle.specs.Policies.{intervals_of}
use Rattle.ic_world.specs.Views.{state_of, print_of, Tells}
use Rattle.law_client.specs.Clients.{ItemMayCome}
use Rattle.law_client.proofs.Served.{client_runs_stand, client_runs_serve}
use Rattle.ic_clients.specs.Moments.{Did, done_in, moments_of, moment_pieces}
use Rattle.ic_clients.specs.Working.{RanClients, begun_for}
use Rattle.ic_clients.specs.Worlds.{items_of, RunsWhole}
use Rattle.ic_plan.specs.Numbering.{IsNumberedFor}
use Rattle.ic_plan.specs.declared.verb.Inputs.TheVariants.{Numbered as AreNumbered}
use Rattle.ic_clients.specs.Runs.{IsServed}
use Rattle.ic_clients.proofs.Items.{are-clients, items-come}
use Rattle.ic_clients.proofs.Joined.{stands-done, stands-ends}
use Rattle.ic_clients.proofs.Rounds.{are-rounds}

module _ {D : Type 0} (b : disk.Ghosts D) {K : Type 0} (k : sink.Ghosts K) (tool : List ℕ) (r : RunTexts) (disks now : List D) (before after : K) (status : ℕ) (may : MayRun r) (numbers : AllByRecursion (IsNumberedFor AreNumbered) r.schedule.events) (tell : TheyTell b r.program disks) where
  pub is-served : (back : List D) → RunsIn b k (λ old new. RunsWhole k r old new before after) r Anew (lent r.program.components disks) back → IsServed b k tool r disks now before after status
  is-served back y = record {
    p = p;
    rounds = rs;
    transitions = vs;
    opened = y.opens.state tell;
    runs = runs;
    printed = subst (λ l. Puts k l before after) pieces (puts_then k (moment_pieces r.program r.policy.report 1 ran.moments) (summary_in r.program settled p (done_in ran.moments) ∷ []) before y.ran.mid after ran.printed y.ran.summary);
    stands = stood.0;
    once = stood.1;
    ends = λ no-halt. client_runs_serve r.program r.fingerprint x (items_of r) p rs vs _ may.fit come y.long (y.opens.state tell)
        (subst (λ h. RunsClients r.program r.fingerprint x (items_of r) h p rs vs) no-halt runs);
  }
    where
      x : PolicyIntervals
      x = intervals_of r.policy

      settled : Bool
      settled = not r.schedule.halts

      ran : RanClients k r.program x r.policy.report (items_of r) r.schedule.halts y.old y.new before y.ran.mid y.ran.tally
      ran = y.ran.ran

      p : SystemState
      p = state_of y.old

      rs : List (Round Front Asked)
      rs = ran.stands.rounds

      vs : List Transition
      vs = ran.stands.transitions

      own : print_of y.old ≡ r.fingerprint
      own = y.opens.is_new.is_own

      all : items_of r ≡ ran.stands.first
      all = ran.stands.are ∙ ap (λ l. ran.stands.first ++ l) ran.all ∙ append-nil ran.stands.first

      told-here : Tells y.old
      told-here = y.opens.is_new.tells tell

      rounds : AreRounds clients r.program r.fingerprint x [] p (items_of r) rs
      rounds = subst (λ l. AreRounds clients r.program r.fingerprint x [] p l rs) (sym all) (subst (λ f. AreRounds clients r.program f x [] p ran.stands.first rs) own (are-rounds (Tells y.old) r.program (print_of y.old) x told-here [] p ran.stands.first rs ran.stands.follows))

      begun-is : whole_agenda [] r.schedule.halts ≡ ran.stands.begun
      begun-is = subst (λ l. begun_for (state_after p rs).world (side_after clients [] rs) r.schedule.halts l ≡ ran.stands.begun) ran.all ran.stands.begins

      executes : Executes r.program r.fingerprint x (whole_agenda [] r.schedule.halts) (state_after p rs) vs ran.agenda
      executes = subst (λ a. Executes r.program r.fingerprint x a (state_after p rs) vs ran.agenda) (sym begun-is) (subst (λ f. Executes r.program f x ran.stands.begun (state_after p rs) vs ran.agenda) own (ran.stands.onward.executes told-here))

      done : done_in ran.moments ≡ transitions_of rs ++ vs
      done = stands-done (Tells y.old) r.program (print_of y.old) x (items_of r) r.schedule.halts p ran.moments ran.agenda ran.stands

      last : last_state (state_after p rs) vs ≡ state_of y.new
      last = sym (stands-ends (Tells y.old) r.program (print_of y.old) x (items_of r) r.schedule.halts p ran.moments ran.agenda ran.stands) ∙ ran.leads.ends

      runs : RunsClients r.program r.fingerprint x (items_of r) r.schedule.halts p rs vs
      runs = record {
        allowed = are-clients r may numbers;
        rounds = rounds;
        settles = record { agenda = ran.agenda; executes = executes; nothing = ap (λ (s : SystemState). next s.world x ran.agenda) last ∙ ran.nothing };
      }

      come : (i : Item) → Contains (items_of r) i → ItemMayCome r.program i
      come = items-come r may

      stood : ((v : PlainWorld) × StandsCrashFree r.program [] (last_state (state_after p rs) vs).world v) × EachOnce r.program (forced_logs (last_state (state_after p rs) vs).world)
      stood = client_runs_stand r.program r.fingerprint x (items_of r) r.schedule.halts p rs vs _ may.fit come y.long (y.opens.state tell) runs

      pieces : moment_pieces r.program r.policy.report 1 ran.moments ++ summary_in r.program settled p (done_in ran.moments) ∷ [] ≡ moment_pieces r.program r.policy.report 1 (moments_of (items_of r) rs ++ map Did vs) ++ summary_in r.program settled p (transitions_of rs ++ vs) ∷ []
      pieces = ap (λ l. moment_pieces r.program r.policy.report 1 l ++ summary_in r.program settled p (done_in ran.moments) ∷ []) (ran.stands.all ∙ ap (λ l. moments_of l rs ++ map Did vs) (sym all))
          ∙ ap (λ l. moment_pieces r.program r.policy.report 1 (moments_of (items_of r) rs ++ map Did vs) ++ summary_in r.program settled p l ∷ []) done
