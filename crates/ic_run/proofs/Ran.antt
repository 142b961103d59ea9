-- What a run over the disks of the components comes to, as a run over the disks of a call.
use Rattle.std.proofs.Common.{◌≡◌, ◌∙◌, sym, ap, subst, refl, ℕ, suc, ◌+◌, ◌≤◌, arith, true, false, List, [], ◌∷◌, ◌++◌, length, Some, None, inl, inr, ⊎_elim}
use Rattle.std.specs.Prelude.{slice_get, is_some}
use Rattle.std.proofs.lemmas.List.{append-nil}
use Rattle.ic_base.specs.declared.messages.ComId.{ComId}
use Rattle.ic_base.specs.declared.refusals.StartWhy.{StartWhy}
use Rattle.ic_base.specs.declared.refusals.StartWhy.TheVariants as starts
use Rattle.ic_base.specs.declared.refusals.WorldRefused.{WorldRefused}
use Rattle.ic_base.specs.declared.refusals.WorldRefused.TheVariants as refused
use Rattle.def_log.specs.Images.{LeavesJust}
use Rattle.def_run.specs.CoreSteps.{is_full_at}
use Rattle.def_run.specs.Executions.{next, received_in}
use Rattle.def_run.specs.Refusals as refusals
use Rattle.def_run.specs.SystemStates.{SystemState, Transition, KeepsLogs, last_state, has_disk}
use Rattle.ic_disk.specs.TornDisks.{Torn}
use Rattle.ic_disk.specs.declared.disk.Disk as disk
use Rattle.ic_disk.specs.declared.sink.Sink as sink
use Rattle.ic_run.specs.Running as execution
use Rattle.ic_run.specs.Running.{Goes, KeepsAll, pieces_of, WasCut, WasRefused, WasCutOff}
use Rattle.ic_run.specs.declared.running.Cut.{Cut}
use Rattle.ic_run.specs.declared.running.Cut.TheVariants as cuts
use Rattle.ic_run.proofs.Worlds.{keeps-more, tells-on}
use Rattle.ic_run.specs.Lending.{lent, left_over, merged}
use Rattle.ic_run.proofs.Places.{lent_count}
use Rattle.ic_run.proofs.Programs.{each_place}
use Rattle.ic_disk.specs.Torns.{torn}
use Rattle.ic_report.specs.Ends.{EndsAs, EndsWith}
use Rattle.ic_report.specs.declared.ending.Why.{Why}
use Rattle.ic_report.specs.declared.ending.Why.TheVariants.{Print, Memory}
use Rattle.ic_settle.specs.Policies.{intervals_of}
use Rattle.ic_plan.specs.declared.run_texts.RunTexts.{RunTexts}
use Rattle.ic_world.specs.Opening as opens
use Rattle.ic_world.specs.Opening.{disks_in, disks_under, IsNewWorld, Stays}
use Rattle.ic_world.specs.Stepping.{IsPastCount, StayAtRest, StayBy, IsFailed}
use Rattle.ic_world.specs.declared.opening.StartRefused.{StartRefused}
use Rattle.ic_world.proofs.Durable.{files-durable}
use Rattle.ic_world.proofs.Makings.{each-at}
use Rattle.ic_world.specs.Views.{components_of, state_of, received_of, Tells}
use Rattle.ic_world.specs.declared.world.World.{World}
use Rattle.ic_run.specs.Openings.{TheyTell, opening_refusal, files_on}
use Rattle.ic_run.specs.Crashes.{AreAtRest}
use Rattle.ic_run.specs.Runs.{IsFault, IsStartFault, IsDone, IsRefusedAt, IsUntold, EndsUnopened, Runs}
use Rattle.ic_run.specs.Summaries.{FailsToTell}
use Rattle.ic_run.specs.Whys.{why_of_start, why_of_cut}
use Rattle.ic_run.specs.Worlds.{Opens, FailsToOpen, RunsWhole, RunsShort, IsUnsummed, lines_of, agenda_of}
use Rattle.ic_run.specs.declared.opening.Opening.{Opening}
use Rattle.ic_run.specs.declared.opening.Opening.TheVariants.{Anew, Found}
use Rattle.ic_run.proofs.Came.{came-to, new-world, files-new, placed-in, just-files, are-between, left-at, left-now, at-rest, failed-at, fault-at}
use Rattle.ic_run.proofs.Standing.{comes-to-rest, comes-to-end, meets-sound}
use Rattle.ic_run.specs.Agendas.{MayRun}

pub stays-self : {D : Type 0} (b : disk.Ghosts D) (w : StartWhy) (d : D) → Stays b w d d
stays-self b (starts.NotBlank c) d = λ tell. refl
stays-self b (starts.Failed c) d = λ tell settled. refl
stays-self b (starts.Bad c place) d = λ tell settled. refl
stays-self b (starts.Foreign c kept) d = λ tell settled. refl
stays-self b starts.Memory d = λ tell settled. refl

module _ {D : Type 0} (b : disk.Ghosts D) {K : Type 0} (k : sink.Ghosts K) (r : RunTexts) (opening : Opening) (disks : List D) (few : length r.program.components ≤ length disks) (before after : K) where
  abbrev pub given : List D
  given = lent r.program.components disks

  abbrev pub back-in : List D → List D
  back-in back = merged r.program.components (left_over r.program.components disks) back

  module _ (may : MayRun r) (long : length r.fingerprint ≡ 32) (old new : World (Torn D) (torn b)) (opened : Opens b opening r.program r.fingerprint given old) where
    fresh : IsNewWorld b r.program r.fingerprint given old
    fresh = new-world b r opening disks few old opened

    abbrev pub now : List D
    now = back-in (disks_under (components_of new))

    pub is-done : RunsWhole k r old new before after → IsDone b k r opening disks now before after
    is-done whole =
        let S : SystemState → Type 0 = λ s. next s.world (intervals_of r.policy) whole.agenda ≡ None in
        let nothing : S (last_state (state_of old) whole.transitions) = subst S (sym whole.goes.ends) whole.nothing in
        let came = came-to b r opening disks few old opened k before after new whole.goes.disks may long (lines_of r) whole.transitions whole.agenda None new whole.goes whole.goes.crash whole.outlast tt in
        record {
          p = state_of old;
          transitions = whole.transitions;
          agenda = whole.agenda;
          came = came;
          nothing = nothing;
          files = λ tell. ap (λ (s : SystemState). s.files) whole.goes.ends ∙ files-new b r opening disks few old opened new whole.goes.disks whole.goes.going;
          durable = just-files b r opening disks few old opened new whole.goes.disks whole.goes.going (files-durable new whole.goes.going);
          printed = whole.printed;
          settled = λ o no-halt. comes-to-rest r may (files_on b r.program disks) (state_of old) whole.transitions whole.agenda (came.executes o.0) o.1 no-halt nothing;
          ends = λ o no-halt. comes-to-end r may (files_on b r.program disks) (state_of old) whole.transitions whole.agenda (came.executes o.0) o.1 no-halt nothing;
        }

    -- a run that ends before its end --------------------------------------------------------------

    pub is-refused-at : (lines : List Transition → List (List ℕ)) → ((disk : D) → b.keeps disk → b.may_leave disk (b.seen disk)) → (mid : K) (why : WorldRefused) (was : WasRefused b k r.program (intervals_of r.policy) lines (agenda_of r) old new before mid why) → IsRefusedAt b k r opening disks now before after lines (state_of old) was.transitions was.agenda (record { event = was.event; left = was.left }) mid why
    is-refused-at lines may_stay mid why was =
        let keeps = keeps-more old was.now new was.event.what was.goes.disks was.disks in
        let S : SystemState → Type 0 = λ s. next s.world (intervals_of r.policy) was.agenda ≡ Some (record { event = was.event; left = was.left }) in
        let C : List ℕ → SystemState → ℕ → Type 0 = λ print s n. refusals.IsRefused r.program print s n was.event why in
        let is-next : S (last_state (state_of old) was.transitions) = subst S (sym was.goes.ends) was.next in
        let received : received_of was.now ≡ received_in r.program (state_of old) was.transitions = omega (arith, was.goes.received, fresh.received) in
        let came = came-to b r opening disks few old opened k before after new keeps may long lines was.transitions was.agenda (Some was.event.what) was.now was.goes was.crash was.outlast (was.event, was.left, refl, is-next) in
        let cause : TheyTell b r.program disks → refusals.IsRefused r.program r.fingerprint (last_state (state_of old) was.transitions) (received_in r.program (state_of old) was.transitions) was.event why = λ tell.
        subst (λ n. C r.fingerprint (last_state (state_of old) was.transitions) n) received
        (subst (λ s. C r.fingerprint s (received_of was.now)) (sym was.goes.ends)
        (subst (λ print. C print (state_of was.now) (received_of was.now)) (was.goes.disks.print ∙ fresh.is_own)
        (was.fails.why_refused (tells-on old was.now was.goes.disks (fresh.tells tell)))))
        in
        record {
          came = came;
          next = is-next;
          cause = cause;
          sound = λ o. meets-sound r may (files_on b r.program disks) (state_of old) was.transitions was.agenda (came.executes o.0) o.1 (received_in r.program (state_of old) was.transitions) was.event why (cause o.0);
          count = λ which is.
              let R : SystemState → ℕ → Type 0 = λ s n. IsPastCount r.program s.world n was.event which in
              subst (λ s. R s (received_in r.program (state_of old) was.transitions)) (sym was.goes.ends) (subst (λ n. R (state_of was.now) n) received (was.fails.count which is));
          fault = fault-of why was.fails.failed;
          printed = was.printed;
          was = placed-in b r opening disks few old opened was.now;
          before_it = are-between b r opening disks few old opened new keeps was.transitions [] (Some was.event.what) was.now was.here;
          stay = λ is. ap (λ cs. back-in (disks_under cs)) (let P : WorldRefused → Type 0 = λ w. StayBy was.now new w in subst P is was.fails.stay);
          within = λ tell. left-at b r opening disks few old opened was.now new was.goes.disks keeps was.transitions was.event was.goes.ends was.goes.made was.disks was.within;
          on_way = λ tell keep. record {
            front = was.transitions;
            back = [];
            is = sym (append-nil was.transitions);
            left = ⊎_elim
                (λ fits. left-at b r opening disks few old opened was.now new was.goes.disks keeps was.transitions was.event was.goes.ends was.goes.made was.disks was.within (fits-here (fits (tells-on old was.now was.goes.disks (fresh.tells tell)))) (files_on b r.program now)
                (left-now b r opening disks few old opened was.now new was.goes.disks keeps may_stay was.here.later keep))
                (λ rests. inl (still-rests rests (tells-on old was.now was.goes.disks (fresh.tells tell)) (came.logs tell) keep))
                was.fails.rests;
          };
        }
      where
        fits-here : is_full_at r.program (state_of was.now) was.event.what ≡ false → is_full_at r.program (last_state (state_of old) was.transitions) was.event.what ≡ false
        fits-here fits = ap (λ (s : SystemState). is_full_at r.program s was.event.what) was.goes.ends ∙ fits

        still-rests : StayAtRest was.now new → Tells was.now → KeepsLogs r.fingerprint (last_state (state_of old) was.transitions) → ((c : ComId) (x : D) → has_disk r.program c ≡ true → slice_get now c.0 ≡ Some x → b.keeps x)
            → AreAtRest r.program (last_state (state_of old) was.transitions) (files_on b r.program now)
        still-rests rests tells logs keep =
            subst (λ (s : SystemState). AreAtRest r.program s (files_on b r.program now)) (sym was.goes.ends)
            (at-rest b r opening disks few old opened was.now new was.goes.disks (keeps-more old was.now new was.event.what was.goes.disks was.disks) may_stay r.fingerprint (subst (λ (s : SystemState). KeepsLogs r.fingerprint s) was.goes.ends logs) was.goes.made (rests.0 tells) rests.1 keep)

        fault-of : (w : WorldRefused) → IsFailed b was.now new w → IsFault b disks now w
        fault-of (refused.Failed c) f = fault-at b r opening disks few old opened was.now new was.goes.disks (keeps-more old was.now new was.event.what was.goes.disks was.disks) c f.0 f.1 f.2 f.3 f.4
        fault-of (refused.Limit which) f = tt
        fault-of (refused.LogFull c) f = tt
        fault-of (refused.Bad c place) f = tt
        fault-of (refused.Foreign c kept) f = tt
        fault-of refused.Memory f = tt

    lines-untold : (mid : K) (cut : Cut) (why : Why) → ((pieces : List (List ℕ)) (told : K) → execution.FailsToTell k pieces told mid cut → FailsToTell k pieces told mid why)
        → WasCutOff k r.program (intervals_of r.policy) (pieces_of r.program r.policy.report) 0 (agenda_of r) old new before mid cut → IsUntold b k r opening disks now before after mid why
    lines-untold mid cut why fails was = record {
      p = state_of old;
      transitions = was.transitions ++ was.last ∷ [];
      agenda = was.agenda;
      came = came-to b r opening disks few old opened k before after new was.goes.disks may long (lines_of r) (was.transitions ++ was.last ∷ []) was.agenda None new was.goes was.goes.crash was.outlast tt;
      files = λ tell. ap (λ (s : SystemState). s.files) was.goes.ends ∙ files-new b r opening disks few old opened new was.goes.disks was.goes.going;
      durable = just-files b r opening disks few old opened new was.goes.disks was.goes.going (files-durable new was.goes.going);
      told = was.now;
      untold = inl (record {
        front = was.transitions;
        last = was.last;
        is = refl;
        printed = was.printed;
        fails = subst (λ n. FailsToTell k (pieces_of r.program r.policy.report n was.last.trace) was.now mid why) number (fails (pieces_of r.program r.policy.report (1 + length was.transitions) was.last.trace) was.now was.fails);
      });
    }
      where
        number : 1 + length was.transitions ≡ suc (length was.transitions)
        number = omega arith

    summary-untold : (mid : K) (why : Why) → IsUnsummed k r old new before mid why → IsUntold b k r opening disks now before after mid why
    summary-untold mid why was =
        let S : SystemState → Type 0 = λ s. next s.world (intervals_of r.policy) was.agenda ≡ None in
        record {
          p = state_of old;
          transitions = was.transitions;
          agenda = was.agenda;
          came = came-to b r opening disks few old opened k before after new was.goes.disks may long (lines_of r) was.transitions was.agenda None new was.goes was.goes.crash was.outlast tt;
          files = λ tell. ap (λ (s : SystemState). s.files) was.goes.ends ∙ files-new b r opening disks few old opened new was.goes.disks was.goes.going;
          durable = just-files b r opening disks few old opened new was.goes.disks was.goes.going (files-durable new was.goes.going);
          told = was.mid;
          untold = inr (record { nothing = subst S (sym was.goes.ends) was.nothing; printed = was.printed; fails = was.fails });
        }

    pub is-short : ((disk : D) → b.keeps disk → b.may_leave disk (b.seen disk)) → (mid : K) (why : Why) (status : ℕ) → RunsShort b k r old new before mid why → EndsWith k (Some r.program) why mid after status → Runs b k r opening disks now before after status
    is-short may_stay mid why status (inl c) ends = by c.cut c.told c.was
      where
        by : (cut : Cut) → why ≡ why_of_cut r.fingerprint cut → WasCut b k r.program (intervals_of r.policy) (pieces_of r.program r.policy.report) 0 (agenda_of r) old new before mid cut → Runs b k r opening disks now before after status
        by (cuts.Refused w) told was = inr (inr (inl (record { why = w; mid = mid; p = state_of old; transitions = was.transitions; agenda = was.agenda; tried = record { event = was.event; left = was.left }; refused = is-refused-at (lines_of r) may_stay mid w was; ends = subst (λ z. EndsWith k (Some r.program) z mid after status) told ends })))
        by cuts.Print told was = inr (inr (inr (record { why = why; mid = mid; untold = subst (λ z. IsUntold b k r opening disks now before after mid z) (sym told) (lines-untold mid cuts.Print Print (λ pieces t f. f) was); ends = ends })))
        by cuts.Memory told was = inr (inr (inr (record { why = why; mid = mid; untold = subst (λ z. IsUntold b k r opening disks now before after mid z) (sym told) (lines-untold mid cuts.Memory Memory (λ pieces t f. f) was); ends = ends })))
    is-short may_stay mid why status (inr u) ends = inr (inr (inr (record { why = why; mid = mid; untold = summary-untold mid why u; ends = ends })))

  -- no world opened
  opening-fails : (o : Opening) (refusal : StartRefused D) → FailsToOpen b o r.program r.fingerprint given refusal → opens.FailsToOpen b r.program (opening_refusal o r.program r.fingerprint (files_on b r.program disks)) given refusal
  opening-fails Anew refusal f = f.opens
  opening-fails Found refusal f = f.0

  start-fault : (back : List D) → length back ≡ disks_in r.program.components → (w : StartWhy) → opens.IsStartFailed b r.program given back w → IsStartFault b disks (back-in back) w
  start-fault back count (starts.Failed c) f = failed-at b r.program disks few back count c f.before f.now f.has f.was f.is f.fault
  start-fault back count (starts.NotBlank c) f = tt
  start-fault back count (starts.Bad c place) f = tt
  start-fault back count (starts.Foreign c kept) f = tt
  start-fault back count starts.Memory f = tt

  -- what is only read stays, where no write waits
  only-read : ((disk : D) → b.keeps disk → b.may_leave disk (b.seen disk)) → (refusal : StartRefused D) → FailsToOpen b Found r.program r.fingerprint given refusal → (i : ℕ) (old new : D) → slice_get given i ≡ Some old → slice_get refusal.disks.items i ≡ Some new
      → b.keeps old → LeavesJust (b.may_leave old) (b.seen old) → b.seen new ≡ b.seen old
  only-read may_stay refusal f i old new at is keeps just =
      just (b.seen new) ((each-at (opens.LeavesNoMore b) given refusal.disks.items f.1 i old new at is).behind keeps (b.seen new) (may_stay new ((f.0.kept i old new at is).keeps.0 keeps)))

  pub is-unopened : (tool : List ℕ) → ((disk : D) → b.keeps disk → b.may_leave disk (b.seen disk)) → (refusal : StartRefused D) (mid : K) (why : Why) (status : ℕ) → mid ≡ before → why ≡ why_of_start r.fingerprint refusal.why → FailsToOpen b opening r.program r.fingerprint given refusal → EndsAs k tool (Some r.program) why mid after status
      → EndsUnopened b k r opening disks (back-in refusal.disks.items) before after tool status
  is-unopened tool may_stay refusal mid why status silent told fails ends =
      let f = opening-fails opening refusal fails in
      let count : length refusal.disks.items ≡ disks_in r.program.components = f.count ∙ lent_count r.program.components disks few in
      record {
        why = refusal.why;
        cause = λ tell. f.why tell;
        fault = start-fault refusal.disks.items count refusal.why f.failed;
        stay = λ anew tell some. each_place r.program (Stays b refusal.why) disks refusal.disks.items few count (stays-self b refusal.why)
            ((subst (λ o. FailsToOpen b o r.program r.fingerprint given refusal) anew fails).stay tell (subst (λ o. is_some (opening_refusal o r.program r.fingerprint (files_on b r.program disks)) ≡ true) anew some));
        same = λ found. each_place r.program (λ old new. b.keeps old → LeavesJust (b.may_leave old) (b.seen old) → b.seen new ≡ b.seen old) disks refusal.disks.items few count (λ d keeps just. refl)
            (only-read may_stay refusal (subst (λ o. FailsToOpen b o r.program r.fingerprint given refusal) found fails));
        ends = subst (λ m. EndsAs k tool (Some r.program) (why_of_start r.fingerprint refusal.why) m after status) silent (subst (λ z. EndsAs k tool (Some r.program) z mid after status) told ends);
      }
