-- Why a world that was opened over sound logs isn't served to its end.
use Rattle.std.proofs.Common.{◌≡◌, ◌∙◌, sym, ap, subst, refl, ℕ, ◌+◌, ◌≤◌, le_refl, arith, false, List, [], ◌∷◌, length, Option, Some, None, inl, inr}
use Rattle.std.specs.List.{AllByRecursion}
use Rattle.std.specs.Prelude.{slice_get, not, cond, Bool, true, Result, Ok, Err}
use Rattle.ic_base.specs.declared.events.Event.{Event}
use Rattle.ic_base.specs.declared.limits.TheConstants.{LOG_BYTES}
use Rattle.ic_base.specs.declared.messages.ComId.{ComId}
use Rattle.ic_base.specs.declared.refusals.StartWhy.{StartWhy}
use Rattle.ic_base.specs.declared.refusals.StartWhy.TheVariants as starts
use Rattle.ic_base.specs.declared.refusals.WorldRefused.{WorldRefused}
use Rattle.ic_base.specs.declared.refusals.WorldRefused.TheVariants as refused
use Rattle.ic_base.specs.declared.report.Fault.{Fault as Faults}
use Rattle.ic_base.specs.declared.report.Fault.TheVariants as faults
use Rattle.ic_base.specs.declared.report.ReportLevel.{ReportLevel}
use Rattle.ic_base.specs.declared.scenario.Component.{Component as Declared}
use Rattle.ic_base.specs.declared.scenario.Program.{Program}
use Rattle.def_facts.specs.Logs.{Logs}
use Rattle.def_facts.specs.World.{forced_logs, whole_logs}
use Rattle.def_report.specs.Summaries.{summary_lines}
use Rattle.def_plain.specs.History.{history_of}
use Rattle.def_plain.specs.Plain.{plain_run_of}
use Rattle.def_run.specs.Executions.{first_of, whole_agenda}
use Rattle.def_run.specs.Openings.{IsStartRefused, if_disk, unless_blank, first_told, start_refusal, found_refusal}
use Rattle.def_run.specs.Refusals.{IsRefused}
use Rattle.def_run.specs.Reports.{logs_of}
use Rattle.def_run.specs.SystemStates.{SystemState, has_disk, file_in}
use Rattle.def_serve.specs.Lines.{Line}
use Rattle.def_step.specs.Settle.{PolicyIntervals}
use Rattle.law_client.specs.Rounds.{Stands}
use Rattle.law_run.specs.ProgramBytes.{IsFit}
use Rattle.law_replay.proofs.Narrowing.{forced_family}
use Rattle.law_run.proofs.Meeting.{events_meet_sound_logs}
use Rattle.law_sound.proofs.Sound.{families_are_sound}
use Rattle.ic_disk.specs.Causes.{Rose}
use Rattle.ic_disk.specs.TornDisks.{Torn}
use Rattle.ic_disk.specs.Torns.{torn}
use Rattle.ic_disk.specs.declared.disk.Disk as disk
use Rattle.ic_disk.specs.declared.sink.Sink as sink
use Rattle.ic_lines.specs.declared.lines.Lines as source
use Rattle.ic_node.specs.Faults.{HasFault, has_fault}
use Rattle.ic_node.specs.Meeting.{kept_disk}
use Rattle.ic_node.specs.Views.{disk_of}
use Rattle.ic_node.specs.declared.component.Component.{Component}
use Rattle.ic_plan.specs.declared.run_texts.ServedTexts.{ServedTexts}
use Rattle.ic_report.specs.Outputs.{FailsToPut}
use Rattle.ic_report.specs.declared.ending.Why.{Why}
use Rattle.ic_report.specs.declared.ending.Why.TheVariants.{Fault, Print, Memory}
use Rattle.ic_run.proofs.Lasting.{keeps-self}
use Rattle.ic_run.proofs.Onward.{keeps-then}
use Rattle.ic_run.proofs.Under.{HasOwn, under-at}
use Rattle.ic_run.proofs.WorldFiles.{has-at, own-made}
use Rattle.ic_run.proofs.Worlds.{tells-on}
use Rattle.ic_run.specs.Agendas.{MayCome}
use Rattle.ic_run.specs.Completing.{IsOfLimit}
use Rattle.ic_run.specs.Running.{KeepsAll}
use Rattle.ic_run.specs.Summaries.{summed, FailsToTell}
use Rattle.ic_run.specs.Whys.{why_of_world, why_of_cut, why_of_start}
use Rattle.ic_run.specs.declared.running.Cut.{Cut}
use Rattle.ic_run.specs.declared.running.Cut.TheVariants as cuts
use Rattle.ic_settle.specs.Policies.{intervals_of}
use Rattle.ic_world.proofs.Lists.{get-there, get-within}
use Rattle.ic_world.proofs.Makings.{kept-count, kept-at, kept-all, kept-trans, fault-since}
use Rattle.ic_world.specs.Opening.{HasFailed, IsStartFailed, AllKept, disks_under, files_on, is_outside, place_in}
use Rattle.ic_world.specs.Stepping.{IsFailed}
use Rattle.ic_world.specs.Views.{components_of, world_of, state_of, print_of, received_of, played_of, Tells}
use Rattle.ic_world.specs.declared.opening.StartRefused.{StartRefused}
use Rattle.ic_world.specs.declared.world.World.{World}
use Rattle.ic_serve.proofs.Handed.{fails, refused-kept, opened-new, opened-forced, stretch-kept}
use Rattle.ic_serve.proofs.Settled.{stands-behind}
use Rattle.ic_serve.proofs.Sound.{tells-opened, not-blank, asked-same, asked-tell}
use Rattle.ic_serve.specs.Answering.{FailsToAnswer}
use Rattle.ic_serve.specs.Fronts.{RefusesLogs}
use Rattle.ic_serve.specs.Gathering.{FailsToGather}
use Rattle.ic_serve.specs.Opening.{IsOther}
use Rattle.ic_serve.specs.Reading.{FailsToRead, line_as}
use Rattle.ic_serve.specs.Runs.{Between, AreUnrefused, HoldSound, OpensFor, FailsToOpenFor, ServesStretch, ServesWorlds, StopsStretch, at_opening, behind_another, unopened, stopped}
use Rattle.ic_serve.specs.Serving.{IsSettledFrom, FailsToDo, FailsToServe, Moment, Serves, no_line, passed_over, was_served}
use Rattle.ic_serve.specs.Worlds.{FailsToSettle, FailsToTakeUp, FailsToAnswerFirst, AnswersFirst, IsTakenUp, HasServed, StopsFor, FailsToEnd, StopsWorld, checkpoints_of, unfit, unsettled, unanswered, unread, unserved, short, untaken, unserved_on, unended}
use Rattle.ic_serve.specs.declared.line.Line as code
use Rattle.ic_serve.specs.declared.service.Service.{Service}
use Rattle.ic_serve.specs.declared.stretch.First.{First}
use Rattle.ic_serve.specs.declared.stretch.First.TheVariants.{Opening, Line as ALine}
use Rattle.ic_serve.specs.declared.telling.Form.{Form}
use Rattle.ic_serve.specs.declared.telling.Form.TheVariants.{Following}

-- a count that rose has risen since before
pub rose-wider : (first before now last : ℕ) → first ≤ before → now ≤ last → Rose before now → Rose first last
rose-wider first before now last one two rose = omega (arith, one, two, rose)

-- what a start is refused for --------------------------------------------------------------------------

first-or : (P : StartWhy → Type 0) (one rest : Option StartWhy) → ((w : StartWhy) → one ≡ Some w → P w) → ((w : StartWhy) → rest ≡ Some w → P w) → (w : StartWhy) → first_of one rest ≡ Some w → P w
first-or P (Some v) rest one more w is = one w is
first-or P None rest one more w is = more w is

told-is : (P : StartWhy → Type 0) (test : ComId → Option StartWhy) → ((c : ComId) (w : StartWhy) → test c ≡ Some w → P w) → (i : ℕ) (xs : List Declared) (w : StartWhy) → first_told test i xs ≡ Some w → P w
told-is P test each i [] w is = absurd (cc)
told-is P test each i (x ∷ xs) w is = first-or P (test (record { 0 = i })) (first_told test (i + 1) xs) (each (record { 0 = i })) (told-is P test each (i + 1) xs) w is

abbrev IsBlankness : StartWhy → Type 0
IsBlankness w = IsOther w → ⊥

-- only for a disk that isn't blank
only-blankness : (program : Program) (files : List (List ℕ)) (w : StartWhy) → start_refusal program files ≡ Some w → IsBlankness w
only-blankness program files = told-is IsBlankness (λ c. if_disk program c (unless_blank c (file_in files c))) (λ c w is. by (has_disk program c) c (file_in files c) w is) 0 program.components
  where
    by : (has : Bool) (c : ComId) (file : List ℕ) (w : StartWhy) → cond has (unless_blank c file) None ≡ Some w → IsBlankness w
    by false c file w is = absurd (cc)
    by true c [] w is = absurd (cc)
    by true c (x ∷ xs) w is = subst IsBlankness (let e : ◌≡◌ {A = Option StartWhy} (Some (starts.NotBlank c)) (Some w) = is in ap (λ (o : Option StartWhy). elim o [ Some v ↦ v | None ↦ w ]) e) (λ other. other)

-- causes -----------------------------------------------------------------------------------------------

module _ {D : Type 0} (b : disk.Ghosts D) {K : Type 0} (k : sink.Ghosts K) (program : Program) (print : List ℕ) {I : Type 0} (i : source.Ghosts I) where
  -- what is wanting where a run stops: memory, a disk, the source of lines or the output; or a limit is reached
  pub data Cause (lines lines_now : I) (disks now : List D) (before after : K) (why : Why) : Type 0 where
    of_memory : why ≡ Memory → Cause lines lines_now disks now before after why
    of_disk : (c : ComId) → HasFailed b program c disks now → Cause lines lines_now disks now before after why
    of_source : Rose (i.faults lines) (i.faults lines_now) → Cause lines lines_now disks now before after why
    of_output : why ≡ Print → Rose (k.faults before) (k.faults after) → Cause lines lines_now disks now before after why
    of_limit : (w : WorldRefused) → why ≡ why_of_world print w → IsOfLimit w → Cause lines lines_now disks now before after why

module _ {D : Type 0} (b : disk.Ghosts D) (program : Program) where
  -- a disk that failed has failed since it was kept
  pub failed-since : (disks mid now : List D) (c : ComId) → AllKept b disks mid → HasFailed b program c mid now → HasFailed b program c disks now
  failed-since disks mid now c kept f =
      let was = get-there disks (place_in program c) (omega (arith, get-within mid (place_in program c) f.before f.was, kept-count b disks mid kept)) in
      record { before = was.0; now = f.now; has = f.has; was = was.1; is = f.is; fault = fault-since b was.0 f.before f.now (kept-at b disks mid kept (place_in program c) was.0 f.before was.1 f.was) f.fault }

  module _ (print : List ℕ) (first : First) (disks : List D) (old new : World (Torn D) (torn b)) (opened : OpensFor b program print first disks old) (keeps : KeepsAll old new) where
    own-old : (j : ℕ) (x : Declared) (p : Component (Torn D) (torn b)) → slice_get program.components j ≡ Some x → slice_get (components_of old) j ≡ Some p → HasOwn b x (disk_of p)
    own-old = own-made b program old (opened-new b program print first disks old opened).2.made

    module _ (w : World (Torn D) (torn b)) (kw : KeepsAll old w) where
      count-at : length (components_of w) ≡ length program.components
      count-at = kw.count ∙ (opened-new b program print first disks old opened).2.count

      own-at : (j : ℕ) (x : Declared) (q : Component (Torn D) (torn b)) → slice_get program.components j ≡ Some x → slice_get (components_of w) j ≡ Some q → HasOwn b x (disk_of q)
      own-at j x q at is =
          let p = get-there (components_of old) j (omega (arith, get-within (components_of w) j q is, kw.count)) in
          by (disk_of p.0) (disk_of q) (kw.kept j p.0 q p.1 is) (own-old j x p.0 at p.1)
        where
          by : (o n : Option (Torn D)) → kept_disk (torn b) o n → HasOwn b x o → HasOwn b x n
          by None None k own = own
          by None (Some u) k own = absurd k
          by (Some t) None k own = absurd k
          by (Some t) (Some u) k own = own

      under : (c : ComId) (p : Component (Torn D) (torn b)) (t : Torn D) → slice_get (components_of w) c.0 ≡ Some p → disk_of p ≡ Some t → slice_get (disks_under (components_of w)) (place_in program c) ≡ Some t.inner
      under c p t at is = under-at b program.components (components_of w) count-at own-at c.0 p t at is

    -- a disk that failed in an event has failed since the world opened
    pub failed-in : (w : World (Torn D) (torn b)) → KeepsAll old w → (c : ComId) (p q : Component (Torn D) (torn b)) → slice_get (components_of w) c.0 ≡ Some p → slice_get (components_of new) c.0 ≡ Some q → HasFault b p q → HasFailed b program c disks (disks_under (components_of new))
    failed-in w kw c p q at is fault = by (disk_of p) (disk_of q) refl refl fault
      where
        there : (h : Bool) → false ≡ not h → h ≡ true
        there true e = refl
        there false e = absurd (cc e)

        by : (o n : Option (Torn D)) → disk_of p ≡ o → disk_of q ≡ n → has_fault b o n → HasFailed b program c disks (disks_under (components_of new))
        by None n po qo f = absurd f
        by (Some t) None po qo f = absurd f
        by (Some t) (Some u) po qo f =
            let d = get-there program.components c.0 (omega (arith, get-within (components_of new) c.0 q is, count-at new keeps)) in
            let inside : is_outside d.0.kind ≡ false = subst (λ o. HasOwn b d.0 o) qo (own-at new keeps c.0 d.0 q d.1 is) in
            failed-since disks (disks_under (components_of w)) (disks_under (components_of new)) c (stretch-kept b program print first disks old w opened kw)
            (record { before = t.inner; now = u.inner; has = there (has_disk program c) (sym inside ∙ has-at program c d.0 d.1); was = under w kw c p t at po; is = under new keeps c q u is qo; fault = f })

-- at a world -------------------------------------------------------------------------------------------

-- the history of the logs of a world that stands is legal
legal-there : (program : Program) (print : List ℕ) (found : Logs) (p : SystemState) → Stands program print found p → (entry : ℕ) → plain_run_of program (history_of program (forced_logs p.world)) ≡ Err entry → ⊥
legal-there program print found p f entry is =
    let good = f.explained.explained in
    let s = families_are_sound program found (forced_logs p.world) (whole_logs p.world) (forced_logs p.world) good.0 good.1.logs (forced_family program found (forced_logs p.world) (whole_logs p.world) good.0 good.1.logs) in
    let e : ◌≡◌ {A = Result _ ℕ} (Ok s.0) (Err entry) = sym s.1.legal ∙ is in
    absurd (cc e)

-- an output that failed, or want of memory
module _ {D : Type 0} (b : disk.Ghosts D) {K : Type 0} (k : sink.Ghosts K) (program : Program) (print : List ℕ) {I : Type 0} (i : source.Ghosts I) (lines lines_now : I) (disks now : List D) (start before after : K) (later : k.faults start ≤ k.faults before) where
  of-put : (pieces : List (List ℕ)) → FailsToPut k pieces before after → Cause b k program print i lines lines_now disks now start after Print
  of-put pieces f = of_output refl (rose-wider (k.faults start) (k.faults before) (k.faults after) (k.faults after) later (le_refl (k.faults after)) f.failed)

  pub answer-cause : (why : Why) → FailsToAnswer k before after why → Cause b k program print i lines lines_now disks now start after why
  answer-cause (Fault fault) f = absurd f
  answer-cause Print f = of-put (f.0 ∷ []) f.1
  answer-cause Memory f = of_memory refl

  pub tell-cause : (pieces : List (List ℕ)) (why : Why) → FailsToTell k pieces before after why → Cause b k program print i lines lines_now disks now start after why
  tell-cause pieces (Fault fault) f = absurd f
  tell-cause pieces Print f = of-put pieces f
  tell-cause pieces Memory f = of_memory refl

-- a read that failed
read-cause : {D : Type 0} (b : disk.Ghosts D) {K : Type 0} (k : sink.Ghosts K) (program : Program) (print : List ℕ) {I : Type 0} (i : source.Ghosts I) (start lines lines_now : I) (disks now : List D) (before after : K) → i.faults start ≤ i.faults lines → (why : Why) → FailsToRead i lines lines_now why → Cause b k program print i start lines_now disks now before after why
read-cause b k program print i start lines lines_now disks now before after later (Fault fault) f = by fault f
  where
    by : (fault : Faults) → FailsToRead i lines lines_now (Fault fault) → Cause b k program print i start lines_now disks now before after (Fault fault)
    by faults.Read f = of_source (rose-wider (i.faults start) (i.faults lines) (i.faults lines_now) (i.faults lines_now) later (le_refl (i.faults lines_now)) f)
    by faults.Usage f = absurd f
    by (faults.Scenario line cause) f = absurd f
    by (faults.Schedule line cause) f = absurd f
    by (faults.Policy why) f = absurd f
    by (faults.Foreign c kept given) f = absurd f
    by (faults.Bad c place) f = absurd f
    by (faults.Illegal entry) f = absurd f
    by faults.Receipts f = absurd f
    by faults.Packets f = absurd f
    by (faults.LogFull c) f = absurd f
    by (faults.Disk c) f = absurd f
    by (faults.NotBlank c) f = absurd f
read-cause b k program print i start lines lines_now disks now before after later Print f = absurd f
read-cause b k program print i start lines lines_now disks now before after later Memory f = of_memory refl

-- what the logs of a world are refused for, whose history is legal
refuses-short : {D : Type 0} {d : disk.Ghosts D} (program : Program) (w : World D d) → ((entry : ℕ) → plain_run_of program (history_of program (logs_of (world_of w))) ≡ Err entry → ⊥) → (why : Why) → RefusesLogs program w why → why ≡ Memory
refuses-short program w legal (Fault fault) f = by fault f
  where
    by : (fault : Faults) → RefusesLogs program w (Fault fault) → Fault fault ≡ Memory
    by (faults.Illegal entry) f = absurd (legal entry f)
    by faults.Read f = absurd f
    by faults.Usage f = absurd f
    by (faults.Scenario line cause) f = absurd f
    by (faults.Schedule line cause) f = absurd f
    by (faults.Policy why) f = absurd f
    by (faults.Foreign c kept given) f = absurd f
    by (faults.Bad c place) f = absurd f
    by faults.Receipts f = absurd f
    by faults.Packets f = absurd f
    by (faults.LogFull c) f = absurd f
    by (faults.Disk c) f = absurd f
    by (faults.NotBlank c) f = absurd f
refuses-short program w legal Print f = absurd f
refuses-short program w legal Memory f = refl

-- along what is served, the counts of faults don't fall
module _ {D : Type 0} {d : disk.Ghosts D} (program : Program) (x : PolicyIntervals) (level : ReportLevel) {K : Type 0} (k : sink.Ghosts K) {I : Type 0} (i : source.Ghosts I) where
  pub serves-later : (m n : Moment d I K) → Serves program x level i k m n → (i.faults m.source ≤ i.faults n.source) × (k.faults m.out ≤ k.faults n.out)
  serves-later _ _ (no_line {m}) = (le_refl (i.faults m.source), le_refl (k.faults m.out))
  serves-later _ _ (passed_over {m} {n} {source} {next} {read} s reads none) = let z = serves-later m n s in (omega (arith, z.0, reads.reads.later), z.1)
  serves-later _ _ (was_served {m} {n} {source} {next} {after} {world} {out} {read} {line} s reads some served) =
      let z = serves-later m n s in
      (omega (arith, z.0, reads.reads.later), omega (arith, z.1, served.answers.answers.put.later))

module _ {D : Type 0} (b : disk.Ghosts D) {d : disk.Ghosts (Torn D)} {K : Type 0} (k : sink.Ghosts K) (r : ServedTexts) where
  answers-later : (first : First) (was now : Service) (old new : World (Torn D) d) (before after : K) → AnswersFirst b k r first was now old new before after → k.faults before ≤ k.faults after
  answers-later Opening was now old new before after a = a.0.answers.put.later
  answers-later (ALine line) was now old new before after a = a.answers.answers.put.later

module _ {D : Type 0} (b : disk.Ghosts D) {d : disk.Ghosts (Torn D)} {K : Type 0} (k : sink.Ghosts K) (r : ServedTexts) {I : Type 0} (i : source.Ghosts I) where
  -- the counts of faults behind some lines
  pub rest-later : (m n : Moment d I K) (next : Option code.Line) → HasServed b k r i m n next → (i.faults m.source ≤ i.faults n.source) × (k.faults m.out ≤ k.faults n.out)
  rest-later m n next s =
      let z = serves-later r.program (intervals_of r.policy) r.policy.report k i m s.last s.serves in
      let put : k.faults m.out ≤ k.faults n.out = subst (λ o. k.faults m.out ≤ k.faults o) (sym s.silent) z.1 in
      (omega (arith, z.0, s.reads.reads.later), put)

-- over a world that was opened over sound logs
module _ {D : Type 0} (b : disk.Ghosts D) {K : Type 0} (k : sink.Ghosts K) (r : ServedTexts) {I : Type 0} (i : source.Ghosts I) (first : First) (disks : List D) (old new : World (Torn D) (torn b)) (opened : OpensFor b r.program r.fingerprint first disks old) (keeps : KeepsAll old new) (fit : IsFit r.program) (tell : Tells old) (found : Logs) (begun : Stands r.program (print_of old) found (state_of old)) where
  -- a world on the way stands
  record IsHere (w : World (Torn D) (torn b)) : Type 0 where
    kept : KeepsAll old w
    tells : Tells w
    stands : Stands r.program (print_of w) found (state_of w)

  here-old : IsHere old
  here-old = record { kept = keeps-self old; tells = tell; stands = begun }

  here-on : (v w : World (Torn D) (torn b)) → IsSettledFrom r.program v w → IsHere v → IsHere w
  here-on v w s h = record { kept = keeps-then old v w h.kept s.disks; tells = tells-on v w s.disks h.tells; stands = (s.crash_free found fit h.tells h.stands).stands }

  here-same : (v w : World (Torn D) (torn b)) → w ≡ v → IsHere v → IsHere w
  here-same v w same h = subst IsHere (sym same) h

  here-served : (m n : Moment (torn b) I K) → Serves r.program (intervals_of r.policy) r.policy.report i k m n → IsHere m.world → IsHere n.world
  here-served _ _ (no_line {m}) h = h
  here-served _ _ (passed_over {m} {n} {source} {next} {read} s reads none) h = here-served m n s h
  here-served _ _ (was_served {m} {n} {source} {next} {after} {world} {out} {read} {line} s reads some served) h = here-on n.world world served.settled (here-served m n s h)

  here-first : (f : First) (was now : Service) (v w : World (Torn D) (torn b)) (before after : K) → AnswersFirst b k r f was now v w before after → IsHere v → IsHere w
  here-first Opening was now v w before after a h = here-same v w a.1 h
  here-first (ALine line) was now v w before after a h = here-on v w a.settled h

  here-up : (f : First) (was now : Service) (w : World (Torn D) (torn b)) (before after : K) → IsTakenUp b k r f was now old w before after → IsHere w
  here-up f was now w before after up = here-first f up.settled now up.mid w before after up.answers (here-on old up.mid up.from here-old)

  abbrev pub back : List D
  back = disks_under (components_of new)

  module _ (lines lines_now : I) (before after : K) where
    abbrev pub Causes : Why → Type 0
    Causes why = Cause b k r.program r.fingerprint i lines lines_now disks back before after why

    -- an event was refused
    refused-cause : (now : World (Torn D) (torn b)) → IsHere now → (e : Event) (w : WorldRefused) → (Tells now → IsRefused r.program (print_of now) (state_of now) (received_of now) e w) → IsFailed b now new w → Causes (why_of_world r.fingerprint w)
    refused-cause now h e (refused.Limit which) why failed = of_limit (refused.Limit which) refl tt
    refused-cause now h e (refused.LogFull c) why failed = of_limit (refused.LogFull c) refl tt
    refused-cause now h e (refused.Bad c place) why failed =
        let m = events_meet_sound_logs r.program (print_of now) found h.stands.here (state_of now) e (refused.Bad c place) fit.playable fit.bytes h.stands.keeps h.stands.explained (why h.tells) in
        of_limit (refused.Bad c place) refl (ap (λ (w : WorldRefused). elim w [ refused.Bad t n ↦ n | _ ↦ place ]) m.1)
    refused-cause now h e (refused.Foreign c kept) why failed =
        let m = events_meet_sound_logs r.program (print_of now) found h.stands.here (state_of now) e (refused.Foreign c kept) fit.playable fit.bytes h.stands.keeps h.stands.explained (why h.tells) in
        let is : refused.Foreign c kept ≡ refused.Bad m.0 LOG_BYTES = m.1 in
        absurd (cc is)
    refused-cause now h e (refused.Failed c) why failed = of_disk c (failed-in b r.program r.fingerprint first disks old new opened keeps now h.kept c failed.0 failed.1 failed.2 failed.3 failed.4)
    refused-cause now h e refused.Memory why failed = of_memory refl

    -- an event wasn't done, or its lines weren't gathered
    gather-cause : (form : Form) (events : List Event) (was : Service) (v : World (Torn D) (torn b)) → AllByRecursion (MayCome r.program) events → IsHere v → (cut : Cut) → FailsToGather b r.program (intervals_of r.policy) r.policy.report form (whole_agenda events false) was v new cut → Causes (why_of_cut r.fingerprint cut)
    gather-cause form events was v may h cuts.Print f = absurd (omega (arith, f.was_cut.fails.failed))
    gather-cause form events was v may h cuts.Memory f = of_memory refl
    gather-cause form events was v may h (cuts.Refused w) f =
        let z = f.was_cut in
        let stands = stands-behind r.program (intervals_of r.policy) events v z.now z.transitions z.agenda may z.goes found fit h.tells h.stands in
        refused-cause z.now (record { kept = keeps-then old v z.now h.kept z.goes.disks; tells = tells-on v z.now z.goes.disks h.tells; stands = stands }) z.event w z.fails.why_refused z.fails.failed

    as-why : (cut : Cut) (why : Why) → why ≡ why_of_cut r.fingerprint cut → Causes (why_of_cut r.fingerprint cut) → Causes why
    as-why cut why is c = subst Causes (sym is) c

    settle-cause : (events : List Event) (was : Service) (v : World (Torn D) (torn b)) (why : Why) → IsHere v → FailsToSettle b r events was v new why → Causes why
    settle-cause events was v why h (cut, is, may, f) = as-why cut why is (gather-cause Following events was v may h cut f)

    do-cause : (line : Line) (was : Service) (v : World (Torn D) (torn b)) (cut : Cut) → IsHere v → FailsToDo b r.program (intervals_of r.policy) r.policy.report line was v new cut → Causes (why_of_cut r.fingerprint cut)
    do-cause line was v cut h (inl (e, is, may, f)) = gather-cause e.1 (e.0 ∷ []) was v (may, tt) h cut f
    do-cause line was v cut h (inr (memory, same)) = of_memory (ap (why_of_cut r.fingerprint) memory)

    serve-cause : (line : Line) (was : Service) (v : World (Torn D) (torn b)) (at : K) (why : Why) → k.faults before ≤ k.faults at → IsHere v → FailsToServe b r.program (intervals_of r.policy) r.policy.report k r.fingerprint line was v new at after why → Causes why
    serve-cause line was v at why later h (inl (cut, is, f, silent)) = as-why cut why is (do-cause line was v cut h f)
    serve-cause line was v at why later h (inr (kept, f)) = answer-cause b k r.program r.fingerprint i lines lines_now disks back before at after later why f

    first-cause : (f : First) (was : Service) (v : World (Torn D) (torn b)) (at : K) (why : Why) → k.faults before ≤ k.faults at → IsHere v → FailsToAnswerFirst b k r f was v new at after why → Causes why
    first-cause Opening was v at why later h (f, same) = answer-cause b k r.program r.fingerprint i lines lines_now disks back before at after later why f
    first-cause (ALine line) was v at why later h f = serve-cause (line_as was.lines line) was v at why later h f

    -- it wasn't taken up
    take-up-cause : (was : Service) (why : Why) → FailsToTakeUp b k r first was old new before after why → Causes why
    take-up-cause was why (unfit f same silent) = of_memory (refuses-short r.program old legal why f)
      where
        legal : (entry : ℕ) → plain_run_of r.program (history_of r.program (logs_of (world_of old))) ≡ Err entry → ⊥
        legal entry is = legal-there r.program (print_of old) found (state_of old) begun entry (let P : Logs → Type 0 = λ l. plain_run_of r.program (history_of r.program l) ≡ Err entry in subst P (opened-forced b r.program r.fingerprint first disks old opened) is)
    take-up-cause was why (unsettled loaded f silent) = settle-cause [] loaded old why here-old f
    take-up-cause was why (unanswered loaded settled mid done from f) = first-cause first settled mid before why (le_refl (k.faults before)) (here-on old mid from here-old) f

    -- a line behind those that were served isn't
    stops-cause : (at now : Moment (torn b) I K) (why : Why) → now.source ≡ lines_now → now.world ≡ new → now.out ≡ after → i.faults lines ≤ i.faults at.source → k.faults before ≤ k.faults at.out → IsHere at.world → StopsFor b k r i at now why → Causes why
    stops-cause at now why source-is world-is out-is read put h (unread f silent same) = read-cause b k r.program r.fingerprint i lines at.source lines_now disks back before after read why (let P : I → Type 0 = λ s. FailsToRead i at.source s why in subst P source-is f)
    stops-cause at now why source-is world-is out-is read put h (unserved got next line reads is f) =
        let P : World (Torn D) (torn b) → K → Type 0 = λ w o. FailsToServe b r.program (intervals_of r.policy) r.policy.report k r.fingerprint line next at.world w at.out o why in
        serve-cause line next at.world at.out why put h (subst (P new) out-is (subst (λ w. P w now.out) world-is f))
    stops-cause at now why source-is world-is out-is read put h (short memory silent same) = of_memory memory

    -- nor what ends it
    end-cause : (next : Option code.Line) (rest now : Moment (torn b) I K) (why : Why) → now.world ≡ new → now.out ≡ after → k.faults before ≤ k.faults rest.out → IsHere rest.world → FailsToEnd b k r i next rest now why → Causes why
    end-cause None rest now why world-is out-is put h (f, same) =
        let pieces : List (List ℕ) = summary_lines r.program (summed r.program true rest.service.tally (rest.service.played + played_of rest.world) (world_of rest.world)) ∷ [] in
        let P : K → Type 0 = λ o. FailsToTell k pieces rest.out o why in
        tell-cause b k r.program r.fingerprint i lines lines_now disks back before rest.out after put pieces why (subst P out-is f)
    end-cause (Some line) rest now why world-is out-is put h (inl f, silent) = settle-cause (checkpoints_of r.program) rest.service rest.world why h (let P : World (Torn D) (torn b) → Type 0 = λ w. FailsToSettle b r (checkpoints_of r.program) rest.service rest.world w why in subst P world-is f)
    end-cause (Some line) rest now why world-is out-is put h (inr (memory, kept), silent) = of_memory memory

    pub world-cause : (was now : Service) (why : Why) → StopsWorld b k r i first (record { source = lines; service = was; world = old; out = before }) (record { source = lines_now; service = now; world = new; out = after }) why → Causes why
    world-cause was now why (untaken f same) = take-up-cause was why f
    world-cause was now why (unserved_on m begins f) =
        let up = begins.up in
        let z = serves-later r.program (intervals_of r.policy) r.policy.report k i m f.last f.serves in
        let read : i.faults lines ≤ i.faults m.source = subst (λ s. i.faults lines ≤ i.faults s) (sym begins.source) (le_refl (i.faults lines)) in
        let put : k.faults before ≤ k.faults m.out = answers-later b k r first up.settled m.service up.mid m.world before m.out up.answers in
        stops-cause f.last (record { source = lines_now; service = now; world = new; out = after }) why refl refl refl (omega (arith, read, z.0)) (omega (arith, put, z.1)) (here-served m f.last f.serves (here-up first was m.service m.world before m.out up)) f.stops
    world-cause was now why (unended m rest next begins s f same) =
        let up = begins.up in
        let z = rest-later b k r i m rest next s in
        let put : k.faults before ≤ k.faults m.out = answers-later b k r first up.settled m.service up.mid m.world before m.out up.answers in
        end-cause next rest (record { source = lines_now; service = now; world = new; out = after }) why refl refl (omega (arith, put, z.1)) (here-same s.last.world rest.world s.world (here-served m s.last s.serves (here-up first was m.service m.world before m.out up))) f

-- over disks -------------------------------------------------------------------------------------------

module _ {D : Type 0} (b : disk.Ghosts D) {K : Type 0} (k : sink.Ghosts K) (r : ServedTexts) {I : Type 0} (i : source.Ghosts I) where
  abbrev pub CauseOf : Between D I K → Between D I K → Why → Type 0
  CauseOf was now why = Cause b k r.program r.fingerprint i was.source now.source was.disks now.disks was.out now.out why

  module _ (was now : Between D I K) (refused : StartRefused D) (behind : now.disks ≡ refused.disks.items) where
    -- what the disks hold isn't why no world opened over them
    unmet : (given : List D) → AllKept b was.disks given → (met : Option StartWhy) (why : StartWhy) → (met ≡ Some why → ⊥) → IsStartRefused met why → IsStartFailed b r.program given refused.disks.items why → CauseOf was now (why_of_start r.fingerprint why)
    unmet given kept met (starts.NotBlank c) other is failed = absurd (other is)
    unmet given kept met (starts.Bad c place) other is failed = absurd (other is)
    unmet given kept met (starts.Foreign c own) other is failed = absurd (other is)
    unmet given kept met (starts.Failed c) other is failed = of_disk c (subst (λ l. HasFailed b r.program c was.disks l) (sym behind) (failed-since b r.program was.disks given refused.disks.items c kept failed))
    unmet given kept met starts.Memory other is failed = of_memory refl

    none-met : (met : Option StartWhy) → met ≡ None → met ≡ Some refused.why → ⊥
    none-met met none is = absurd (let e : ◌≡◌ {A = Option StartWhy} None (Some refused.why) = sym none ∙ is in cc)

    open-cause : (first : First) → HoldSound b r.program r.fingerprint first was.disks → FailsToOpenFor b r.program r.fingerprint first was.disks refused → CauseOf was now (why_of_start r.fingerprint refused.why)
    open-cause Opening h (inl (f, other)) =
        unmet was.disks (kept-all b was.disks) (start_refusal r.program (files_on b r.program was.disks)) refused.why (λ is. only-blankness r.program (files_on b r.program was.disks) refused.why is other) (f.opens.why h.tell) f.opens.failed
    open-cause Opening h (inr (asked, begun, f)) =
        unmet asked.disks.items (fails b r.program r.fingerprint was.disks asked begun.fails.opens) (found_refusal r.program r.fingerprint (files_on b r.program asked.disks.items)) refused.why (by h.opens) (f.why (asked-tell b r.program r.fingerprint was.disks asked begun h.tell)) f.failed
      where
        by : AreUnrefused b r.program r.fingerprint Opening was.disks → found_refusal r.program r.fingerprint (files_on b r.program asked.disks.items) ≡ Some refused.why → ⊥
        by (inl none) is = absurd (let e : ◌≡◌ {A = Option StartWhy} None (Some (starts.NotBlank begun.who)) = sym none ∙ not-blank b r.program r.fingerprint was.disks asked begun h.tell in cc)
        by (inr none) is = none-met (found_refusal r.program r.fingerprint (files_on b r.program asked.disks.items)) (ap (found_refusal r.program r.fingerprint) (asked-same b r.program r.fingerprint was.disks asked begun h.tell) ∙ none) is
    open-cause (ALine line) h f = absurd f

  -- over disks that hold sound logs
  pub stretch-cause : (first : First) (was now : Between D I K) (why : Why) → IsFit r.program → HoldSound b r.program r.fingerprint first was.disks → StopsStretch b k r i first was now why → CauseOf was now why
  stretch-cause first was now why fit h (unopened refused is f same silent) = subst (CauseOf was now) (sym is) (open-cause was now refused same first h f)
  stretch-cause first was now why fit h (stopped old new opened stands stops keeps back) =
      let P : List D → Type 0 = λ l. Cause b k r.program r.fingerprint i was.source now.source was.disks l was.out now.out why in
      subst P (sym back) (world-cause b k r i first was.disks old new opened keeps fit (tells-opened b r.program r.fingerprint first was.disks old opened h.tell) (forced_logs (world_of old)) (stands fit h) was.source now.source was.out now.out was.service now.service why stops)

  -- the disks that are handed back are kept
  pub stops-kept : (first : First) (was now : Between D I K) (why : Why) → StopsStretch b k r i first was now why → AllKept b was.disks now.disks
  stops-kept first was now why (unopened refused is f same silent) = subst (AllKept b was.disks) (sym same) (refused-kept b r.program r.fingerprint first was.disks refused f)
  stops-kept first was now why (stopped old new opened stands stops keeps back) = subst (AllKept b was.disks) (sym back) (stretch-kept b r.program r.fingerprint first was.disks old new opened keeps)

  -- along worlds the disks are kept, and the counts of faults don't fall
  pub record IsLater (was now : Between D I K) : Type 0 where
    pub disks : AllKept b was.disks now.disks
    pub source : i.faults was.source ≤ i.faults now.source
    pub out : k.faults was.out ≤ k.faults now.out

  stretch-later : (first : First) (was now : Between D I K) (line : code.Line) → ServesStretch b k r i first was now (Some line) → IsLater was now
  stretch-later first was now line s =
      let w = s.serves in
      let m = w.opened in
      let up = w.begins.up in
      let z = rest-later b k r i m w.rest (Some line) w.served in
      record {
        disks = subst (AllKept b was.disks) (sym s.back) (stretch-kept b r.program r.fingerprint first was.disks s.old s.new s.opens s.disks);
        source = let begins : m.source ≡ was.source = w.begins.source in let ends : now.source ≡ w.rest.source = w.source in subst (λ x. i.faults was.source ≤ i.faults x) (sym ends) (subst (λ x. i.faults x ≤ i.faults w.rest.source) begins z.0);
        out =
            let put : k.faults was.out ≤ k.faults m.out = answers-later b k r first up.settled m.service up.mid m.world was.out m.out up.answers in
            subst (λ o. k.faults was.out ≤ k.faults o) (sym w.ends.1) (omega (arith, put, z.1));
      }

  module _ (start : Between D I K) where
    pub worlds-later : (first : First) (here : Between D I K) → ServesWorlds b k r i start first here → IsLater start here
    worlds-later Opening here at_opening = record { disks = kept-all b start.disks; source = le_refl (i.faults start.source); out = le_refl (k.faults start.out) }
    worlds-later (ALine line) here (behind_another {first} {m} s stretch) =
        let z = worlds-later first m s in
        let one = stretch-later first m here line stretch in
        record { disks = kept-trans b start.disks m.disks here.disks z.disks one.disks; source = omega (arith, z.source, one.source); out = omega (arith, z.out, one.out) }

  -- what is wanting since a start
  pub cause-since : (start was now : Between D I K) (why : Why) → IsLater start was → CauseOf was now why → CauseOf start now why
  cause-since start was now why l (of_memory memory) = of_memory memory
  cause-since start was now why l (of_disk c f) = of_disk c (failed-since b r.program start.disks was.disks now.disks c l.disks f)
  cause-since start was now why l (of_source rose) = of_source (rose-wider (i.faults start.source) (i.faults was.source) (i.faults now.source) (i.faults now.source) l.source (le_refl (i.faults now.source)) rose)
  cause-since start was now why l (of_output print rose) = of_output print (rose-wider (k.faults start.out) (k.faults was.out) (k.faults now.out) (k.faults now.out) l.out (le_refl (k.faults now.out)) rose)
  cause-since start was now why l (of_limit w is limit) = of_limit w is limit
