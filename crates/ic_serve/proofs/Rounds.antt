-- A line that was done is a round of a served life, and keeps its promise.
use Rattle.std.proofs.Common.{◌≡◌, ◌∙◌, sym, ap, subst, refl, ℕ, ℤ, ◌≤◌, length, true, false, List, [], ◌∷◌, ◌++◌, Option, Some, None, inl, inr, ⊎_elim}
use Rattle.std.proofs.lemmas.List.Elements.{filter-append}
use Rattle.std.specs.List.{AllByRecursion}
use Rattle.std.specs.Prelude.{Ok, Contains, IsTrue, slice_get, fold, filter_map}
use Rattle.std.specs.Option.{IsSomeAnd}
use Rattle.def_client.specs.Fronts.{Front, Given, Request, is_numbered, ask, asked_of, saw}
use Rattle.def_client.specs.Rebuilding.{numbered}
use Rattle.def_client.specs.declared.asked.Asked.{Asked}
use Rattle.def_client.specs.declared.asked.Asked.TheVariants.{New, Pending, Again, Differs}
use Rattle.def_facts.specs.Logs.{Logs, log_at}
use Rattle.def_facts.specs.World.{forced_logs, whole_logs}
use Rattle.def_plain.specs.History.{history_of}
use Rattle.def_plain.specs.Plain.{plain_run_of}
use Rattle.def_rounds.specs.Rounds.{Turn, Happens, Answers, Round, Ran, Told, Leapt, AreRounds, IsRound, state_behind, side_behind}
use Rattle.def_run.specs.CrashFree.{input_in, received_by}
use Rattle.def_run.specs.SystemStates.{SystemState, traces_of, without_stop}
use Rattle.law_run.proofs.Gaining.{executions_gain_inputs}
use Rattle.law_run.proofs.HasImages.{all-has}
use Rattle.ic_run.specs.Agendas.{MayCome}
use Rattle.def_run.specs.Executions.{next, whole_agenda}
use Rattle.def_serve.specs.Lines.{Line, Note, Asks, Gives, Checkpoints, Values, Refused, IsAnswered as NoteAnswered, AreTold, IsBad, input_for, turn, turn_of, serving}
use Rattle.def_step.specs.Settle.{PolicyIntervals, next_event}
use Rattle.def_syntax.specs.Allowed.{Names, Handles}
use Rattle.def_syntax.specs.Schedule as syntax
use Rattle.ic_base.specs.Programs.{is_a_pcom, is_pcom, declares}
use Rattle.ic_base.specs.declared.events.Event.{Event}
use Rattle.ic_base.specs.declared.events.What.TheVariants as whats
use Rattle.ic_base.specs.declared.limits.TheConstants.{COMPONENTS}
use Rattle.ic_base.specs.declared.messages.ComId.{ComId}
use Rattle.ic_base.specs.declared.messages.Kind.{Kind}
use Rattle.ic_base.specs.declared.messages.Kind.TheVariants.{Pcom, Tcom, Xcom}
use Rattle.ic_base.specs.declared.report.ReportLevel.{ReportLevel}
use Rattle.ic_base.specs.declared.scenario.Component.{Component}
use Rattle.ic_base.specs.declared.scenario.Program.{Program}
use Rattle.law_client.specs.Rounds.{Stands}
use Rattle.law_run.specs.ProgramBytes.{IsFit}
use Rattle.law_replay.proofs.Lists.{head-or-tail, empty}
use Rattle.law_serve.specs.Serving.{LineMayCome}
use Rattle.law_syntax.specs.Events.{IsEvent}
use Rattle.law_serve.proofs.Fronts.{served_fronts_have_all, seen-own}
use Rattle.law_serve.proofs.Kept.{seeing_fronts_tell_first, served_fronts_tell_first, again_tells_first}
use Rattle.law_serve.proofs.Replies.{seeing_fronts_tell, served_fronts_tell}
use Rattle.law_serve.proofs.Serving.{lines-may, stretches_serve}
use Rattle.law_serve.proofs.Staying.{AllStopless}
use Rattle.law_serve.specs.Replies.{KnowsLogs, IsFirstOutput}
use Rattle.ic_client.specs.Seeing.{TakenAlike}
use Rattle.ic_disk.specs.declared.disk.Disk as disk
use Rattle.ic_world.specs.Views.{world_of, state_of, print_of, Tells}
use Rattle.ic_world.specs.declared.world.World.{World}
use Rattle.ic_serve.specs.Gathering.{Gathered}
use Rattle.ic_serve.specs.Serving.{IsDone, KeepsRequests, ServesLine, agenda_for}
use Rattle.ic_serve.specs.declared.service.Service.{Service}
use Rattle.ic_serve.specs.declared.telling.Form.{Form}
use Rattle.ic_serve.proofs.Settled.{LineMay, gathered-settles}

-- lines that may come -------------------------------------------------------------------------------

pcom-of : (program : Program) (c : ComId) (handler count : ℕ) → Names program c (Handles handler count) → is_a_pcom program c ≡ true
pcom-of program c handler count n = at (slice_get program.components c.0) n.holds
  where
    kind : (k : Kind) → IsTrue (syntax.is_pcom k) → is_pcom k ≡ true
    kind Pcom t = refl
    kind Tcom t = absurd (cc t)
    kind Xcom t = absurd (cc t)

    at : (o : Option Component) → IsSomeAnd o (Handles handler count) → declares (λ d. is_pcom d.kind) o ≡ true
    at None n = absurd n
    at (Some y) n = kind y.kind n.0

line-comes : (program : Program) (line : Line) → LineMay program line → LineMayCome program line
line-comes program (Asks r) may = (pcom-of program r.who r.handler _ may.allowed, may.event)
line-comes program (Gives r) may = (pcom-of program r.who r.handler _ may.allowed, may.event)
line-comes program (Checkpoints c) may = tt
line-comes program Values may = tt
line-comes program (Refused number cause) may = tt

alone-comes : (program : Program) (line : Line) → LineMay program line → (l : Line) → Contains (line ∷ []) l → LineMayCome program l
alone-comes program line may l h = subst (LineMayCome program) (⊎_elim (λ k. k) (λ k. empty l k) (head-or-tail line l [] h)) (line-comes program line may)

-- behind what is done of an agenda --------------------------------------------------------------------

pub gathering-keeps : {D : Type 0} {d : disk.Ghosts D} (program : Program) (x : PolicyIntervals) (level : ReportLevel) (form : Form) (events : List Event) (was now : Service) (old new : World D d) → AllByRecursion (MayCome program) events → AllStopless events → length program.components ≤ COMPONENTS → Gathered program x level form (whole_agenda events false) was now old new → KeepsRequests program was.front.taken now.front.taken old new
gathering-keeps program x level form events was now old new may none few g found front fit tells f whole alike knows =
    let run = g.executed.goes in
    let ts = traces_of g.executed.transitions in
    let a = whole_agenda events false in
    let are : (e : Event) → Contains events e → IsEvent program e = λ e in-it. (all-has (MayCome program) events e may in-it).event in
    let P : SystemState → Type 0 = λ p. KnowsLogs program (fold saw front ts) (forced_logs p.world) in (
      fold saw front ts,
      g.seen front alike,
      subst P run.ends (record {
        requests = λ c pcom.
            let was = filter_map input_in (log_at (forced_logs (world_of old)) c) in
            seen-own c ts front ∙ ap (λ l. l ++ numbered (filter_map (received_by c) ts)) (knows.requests c pcom)
            ∙ sym (filter-append (λ (y : Given). is_numbered y.1) was (filter_map (received_by c) ts))
            ∙ ap numbered (sym (executions_gain_inputs program (print_of old) x a g.executed.agenda (state_of old) g.executed.transitions found f.here fit.playable fit.flat fit.bytes are f.keeps (run.executes tells) f.explained c pcom));
        replies = seeing_fronts_tell program (print_of old) x events g.executed.agenda (state_of old) g.executed.transitions found front fit are none f (run.executes tells) knows.replies;
        firsts =
            seeing_fronts_tell_first program (print_of old) x events g.executed.agenda (state_of old) g.executed.transitions found front fit are none f (run.executes tells) whole
            (subst (λ (p : SystemState). forced_logs p.world ≡ whole_logs p.world) (sym run.ends) ((gathered-settles program x level form events was now old new may few g).crash_free found fit tells f).ends.1.whole) knows.replies knows.firsts;
      }),
    )

-- rounds --------------------------------------------------------------------------------------------

alike-asks : (front other : Front) (r : Request) → TakenAlike front other → ask front r ≡ ask other r
alike-asks front other r alike = ap (λ o. asked_of o r) (alike r.who r.args)

other-turn : (front : Front) (r : Request) (a : Asked) → (a ≡ New → ⊥) → turn_of front r a ≡ Answers (NoteAnswered a) front
other-turn front r New other = absurd (other refl)
other-turn front r Pending other = refl
other-turn front r (Again m args) other = refl
other-turn front r Differs other = refl

module _ (program : Program) (x : PolicyIntervals) where
  -- what is answered again has no step
  told-stays : (print : List ℕ) (front : Front) (p : SystemState) (line : Line) (r : Request) (m : ℕ) (args : List ℤ) → line ≡ Asks r → ask front r ≡ Again m args → (round : Round Front Note) → IsRound serving program print x front p line round → state_behind p round ≡ p
  told-stays print front p line r m args is asked (Ran vs) z =
      let turns : turn p.world front line ≡ Answers (NoteAnswered (Again m args)) front = ap (turn p.world front) is ∙ ap (turn_of front r) asked in
      let e : ◌≡◌ {A = Turn Front Note} (Answers (NoteAnswered (Again m args)) front) (Happens z.0) = sym turns ∙ z.1 in
      absurd (cc e)
  told-stays print front p line r m args is asked (Told note behind) z = refl
  told-stays print front p line r m args is asked (Leapt note behind q) z = absurd z.1

module _ {D : Type 0} {d : disk.Ghosts D} (program : Program) (x : PolicyIntervals) (level : ReportLevel) where
  record IsRoundOf (front : Front) (line : Line) (kept : Front) (old new : World D d) : Type 0 where
    round : Round Front Note
    is : IsRound serving program (print_of old) x front (state_of old) line round
    ends : state_behind (state_of old) round ≡ state_of new
    alike : TakenAlike kept (side_behind serving front round)

  ran : (line : Line) (e : Event) (form : Form) (was now : Service) (old new : World D d) (front : Front) → Gathered program x level form (agenda_for e) was now old new → turn (world_of old) front line ≡ Happens e → Tells old → TakenAlike was.front.taken front → IsRoundOf front line now.front.taken old new
  ran line e form was now old new front g turns tells alike =
      let P : SystemState → Type 0 = λ p. next p.world x g.executed.agenda ≡ None in
      record {
        round = Ran g.executed.transitions;
        is = (e, turns, record { agenda = g.executed.agenda; executes = g.executed.goes.executes tells; nothing = subst P (sym g.executed.goes.ends) g.executed.nothing });
        ends = g.executed.goes.ends;
        alike = g.seen front alike;
      }

  told : (line : Line) (note : Note) (was now : Service) (old new : World D d) (front : Front) → now.front.taken ≡ was.front.taken → new ≡ old → turn (world_of old) front line ≡ Answers note front → TakenAlike was.front.taken front → IsRoundOf front line now.front.taken old new
  told line note was now old new front same stays turns alike =
      let P : Front → Type 0 = λ f. TakenAlike f front in
      record { round = Told note front; is = turns; ends = ap (λ w. state_of w) (sym stays); alike = subst P (sym same) alike }

  done-round : (line : Line) (was now : Service) (old new : World D d) (front : Front) → IsDone program x level line was now old new → Tells old → TakenAlike was.front.taken front → IsRoundOf front line now.front.taken old new
  done-round (Asks r) was now old new front (inl g) tells alike = ran (Asks r) (input_for r) _ was now old new front g.1 (ap (turn_of front r) (sym (alike-asks was.front.taken front r alike) ∙ g.0)) tells alike
  done-round (Asks r) was now old new front (inr a) tells alike =
      told (Asks r) (NoteAnswered a.answer) was now old new front a.told.front a.stays (ap (turn_of front r) (sym (alike-asks was.front.taken front r alike) ∙ sym a.asked) ∙ other-turn front r a.answer a.other) alike
  done-round (Gives r) was now old new front g tells alike = ran (Gives r) (input_for r) _ was now old new front g refl tells alike
  done-round (Checkpoints c) was now old new front g tells alike = ran (Checkpoints c) (without_stop (whats.Checkpoint c)) _ was now old new front g refl tells alike
  done-round Values was now old new front g tells alike = told Values AreTold was now old new front g.0.front g.1 refl alike
  done-round (Refused number cause) was now old new front g tells alike = told (Refused number cause) (IsBad number cause) was now old new front g.0.front g.1 refl alike

  pub serves-line : (line : Line) (was mid : Service) (old new : World D d) (kept : Front) → LineMay program line → next_event (world_of old) ≡ None → IsDone program x level line was mid old new → kept ≡ mid.front.taken
      → (found : Logs) (front : Front) → IsFit program → Tells old → Stands program (print_of old) found (state_of old) → TakenAlike was.front.taken front → KnowsLogs program front (forced_logs (world_of old)) → ServesLine program x level found front line kept old new
  serves-line line was mid old new kept may quiet done same found front fit tells f alike knows =
      let z = done-round line was mid old new front done tells alike in
      let come = alone-comes program line may in
      let are : AreRounds serving program (print_of old) x front (state_of old) (line ∷ []) (z.round ∷ []) = (z.is, tt) in
      let P : Front → Type 0 = λ f. TakenAlike f (side_behind serving front z.round) in
      let Q : SystemState → Type 0 = λ p. KnowsLogs program (side_behind serving front z.round) (forced_logs p.world) in
      record {
        round = z.round;
        is = z.is;
        ends = z.ends;
        alike = subst P (sym same) z.alike;
        knows = subst Q z.ends (record {
          requests = served_fronts_have_all program (print_of old) x found front (state_of old) (line ∷ []) (z.round ∷ []) fit (lines-may program (line ∷ []) come) f knows.requests are;
          replies = served_fronts_tell program (print_of old) x found front (state_of old) (line ∷ []) (z.round ∷ []) fit (lines-may program (line ∷ []) come) f knows.replies are;
          firsts = served_fronts_tell_first program (print_of old) x found front (state_of old) (line ∷ []) (z.round ∷ []) fit (lines-may program (line ∷ []) come) f quiet knows.replies knows.firsts are;
        });
        promise = stretches_serve program (print_of old) x found front (record { opened = state_of old; settled = []; lines = line ∷ []; rounds = z.round ∷ [] }) fit come f quiet knows.requests are;
        again = λ r m args v is asked ends.
            let R : SystemState → Type 0 = λ p. plain_run_of program (history_of program (forced_logs p.world)) ≡ Ok v in
            let stays : state_of new ≡ state_of old = sym z.ends ∙ told-stays program x (print_of old) front (state_of old) line r m args is asked z.round z.is in
            let T : SystemState → Type 0 = λ p. IsFirstOutput (forced_logs p.world) v r.who (record { request = r; reply = Some (m, args) }) (m, args) in
            subst T (sym stays) (again_tells_first program (forced_logs (world_of old)) front r m args v knows.firsts (line-comes program (Asks r) (subst (LineMay program) is may)).0 asked (subst R stays ends.sound.legal));
      }
