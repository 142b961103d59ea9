-- What a run with clients over the disks of the components comes to, as one over the disks of a call.
use Rattle.std.proofs.Common.{◌≡◌, ◌∙◌, sym, ap, subst, refl, ℕ, suc, ◌≤◌, List, [], ◌∷◌, ◌++◌, length, Option, Some, None, ◌⊎◌, inl, inr}
use Rattle.std.specs.Prelude.{not}
use Rattle.std.specs.List.{AllByRecursion}
use Rattle.std.proofs.lemmas.List.{append-nil}
use Rattle.ic_base.specs.declared.events.Event.{Event}
use Rattle.ic_base.specs.declared.events.What.{What}
use Rattle.ic_base.specs.declared.refusals.WorldRefused.{WorldRefused}
use Rattle.def_client.specs.Clients.{Item, clients, turn}
use Rattle.def_client.specs.Fronts.{Front}
use Rattle.def_client.specs.Promises.{EachOnce, IsClients}
use Rattle.def_client.specs.declared.asked.Asked.{Asked}
use Rattle.def_facts.specs.World.{forced_logs}
use Rattle.def_rounds.specs.Rounds.{Answers, side_after, state_after}
use Rattle.def_run.specs.Executions.{Agenda, Next, Executes, next, whole_agenda}
use Rattle.def_run.specs.SystemStates.{SystemState, Transition, last_state}
use Rattle.def_step.specs.Settle.{PolicyIntervals}
use Rattle.ic_disk.specs.TornDisks.{Torn}
use Rattle.ic_disk.specs.Torns.{torn}
use Rattle.ic_disk.specs.declared.disk.Disk as disk
use Rattle.ic_disk.specs.declared.sink.Sink as sink
use Rattle.ic_plan.specs.Numbering.{IsNumberedFor}
use Rattle.ic_plan.specs.declared.run_texts.RunTexts.{RunTexts}
use Rattle.ic_plan.specs.declared.verb.Inputs.TheVariants.{Numbered as AreNumbered}
use Rattle.ic_report.specs.Ends.{EndsAs}
use Rattle.ic_report.specs.Outputs.{Puts}
use Rattle.ic_report.proofs.Outputs.{puts_then}
use Rattle.ic_report.specs.declared.ending.Why.{Why}
use Rattle.ic_report.specs.declared.ending.Why.TheVariants.{Print, Memory}
use Rattle.ic_run.specs.Agendas as agendas
use Rattle.ic_run.specs.Lending.{lent, left_over, merged}
use Rattle.ic_run.specs.Openings.{files_on, TheyTell}
use Rattle.ic_run.specs.Running as running
use Rattle.ic_run.specs.Running.{Goes, Leads, WasRefused}
use Rattle.ic_run.specs.Summaries.{summary_in, FailsToTell}
use Rattle.ic_run.specs.Whys.{why_of_cut}
use Rattle.ic_run.specs.Worlds.{Opens, agenda_of}
use Rattle.ic_run.specs.declared.opening.Opening.TheVariants.{Anew}
use Rattle.ic_run.specs.declared.running.Cut.{Cut}
use Rattle.ic_run.specs.declared.tally.Tally.{Tally}
use Rattle.ic_run.specs.declared.running.Cut.TheVariants as cuts
use Rattle.ic_run.proofs.Came.{came-to, new-world, files-new, just-files}
use Rattle.ic_run.proofs.Ran.{is-refused-at}
use Rattle.ic_run.proofs.Standing.{comes-to-rest}
use Rattle.ic_run.specs.Agendas.{MayRun}
use Rattle.ic_settle.specs.Policies.{intervals_of}
use Rattle.ic_world.specs.Opening.{disks_under, IsNewWorld}
use Rattle.ic_world.specs.Views.{components_of, world_of, state_of, print_of, Tells}
use Rattle.ic_world.specs.declared.world.World.{World}
use Rattle.ic_world.proofs.Durable.{files-durable}
use Rattle.law_client.specs.Clients.{ItemMayCome}
use Rattle.law_client.proofs.Served.{requests_stand_once_on_way}
use Rattle.ic_clients.specs.Moments.{Moment, Did, item_pieces, note_pieces, moment_pieces, moments_of, done_in, event_of}
use Rattle.ic_clients.specs.Runs.{lines_before, StandsOver, texts_of, ItemsCame, CameTo, IsWorkedOff, IsDone, IsUntold, EndsRefused, Runs}
use Rattle.ic_clients.specs.Working.{StandsAt, EachOutlasts, AllWorkedOff, LinesUntold, NoteUntold, IsRefused, ClientsCut, begun_for}
use Rattle.ic_clients.specs.Worlds.{items_of, RunsWhole, RunsShort, IsUnsummed}
use Rattle.ic_clients.proofs.Items.{are-clients, items-come, each-comes, in-first, in-rest, done-come, begun-comes, comes-behind}
use Rattle.ic_clients.proofs.Joined.{IsOneRun, stands-run, stands-ends}
use Rattle.ic_clients.proofs.Moments.{CutAt, cut-done, all-before}
use Rattle.ic_clients.proofs.Rounds.{run-told, items-told, are-rounds}

-- a run of the events that were done may be made
pub texts-may : {D : Type 0} (b : disk.Ghosts D) (r : RunTexts) (disks : List D) (may : MayRun r) (p : SystemState) (moments : List Moment) (left : Agenda) (s : StandsOver b r disks p moments left) → MayRun (texts_of b r disks p moments left s)
texts-may b r disks may p moments left s = record {
  fit = may.fit;
  events = done-come MayCome s.first s.rounds s.begun.left (in-first (λ i. MayCome (event_of i)) (items_of r) s.first s.rest s.are (each-comes r may))
      (subst (λ (a : Agenda). AllByRecursion MayCome a.left) s.begins
      (begun-comes (state_after p s.rounds).world (side_after clients [] s.rounds) r.schedule.halts MayCome s.rest (in-rest (λ i. MayCome (event_of i)) (items_of r) s.first s.rest s.are (each-comes r may))));
}
  where
    MayCome : Event → Type 0
    MayCome = agendas.MayCome r.program

module _ {D : Type 0} (b : disk.Ghosts D) {K : Type 0} (k : sink.Ghosts K) (r : RunTexts) (disks : List D) (few : length r.program.components ≤ length disks) (before : K) (may : MayRun r) (numbers : AllByRecursion (IsNumberedFor AreNumbered) r.schedule.events) (long : length r.fingerprint ≡ 32) (old new : World (Torn D) (torn b)) (opened : Opens b Anew r.program r.fingerprint (lent r.program.components disks) old) where
  abbrev x : PolicyIntervals
  x = intervals_of r.policy

  abbrev p : SystemState
  p = state_of old

  abbrev pub now : List D
  now = merged r.program.components (left_over r.program.components disks) (disks_under (components_of new))

  fresh : IsNewWorld b r.program r.fingerprint (lent r.program.components disks) old
  fresh = new-world b r Anew disks few old opened

  module _ (moments : List Moment) (left : Agenda) (s : StandsAt (Tells old) r.program (print_of old) x (items_of r) r.schedule.halts p moments left) where
    -- what stands over the world stands over the disks of the call
    abbrev over : StandsOver b r disks p moments left
    over = record {
      first = s.first;
      rest = s.rest;
      are = s.are;
      rounds = s.rounds;
      transitions = s.transitions;
      all = s.all;
      follows = items-told r.program x fresh.tells fresh.is_own [] p s.first s.rounds s.follows;
      begun = s.begun;
      begins = s.begins;
      onward = run-told r.program x fresh.tells fresh.is_own s.begun (state_after p s.rounds) s.transitions left s.onward;
    }

    abbrev texts : RunTexts
    texts = texts_of b r disks p moments left over

    -- it is one run of the events that were done
    one : IsOneRun (Tells old) r.program (print_of old) x (agenda_of texts) p (done_in moments) left
    one = stands-run (Tells old) r.program (print_of old) x (items_of r) r.schedule.halts p moments left s

    ends-at : last_state p (done_in moments) ≡ last_state (state_after p s.rounds) s.transitions
    ends-at = stands-ends (Tells old) r.program (print_of old) x (items_of r) r.schedule.halts p moments left s

    goes : (there : World (Torn D) (torn b)) → Leads r.program old (done_in moments) there → Goes r.program x (agenda_of texts) old (done_in moments) one.agenda there
    goes there l = record {
      executes = one.run.executes;
      follows = one.run.follows;
      ends = l.ends;
      disks = l.disks;
      others = l.others;
      crash = l.crash;
      received = l.received;
      played = l.played;
      made = l.made;
      going = l.going;
    }

    -- no request stands twice in a log
    once : TheyTell b r.program disks → EachOnce r.program (forced_logs (last_state p (done_in moments)).world)
    once tell =
        let rest : List Item = s.rest in
        let front : Front = side_after clients [] s.rounds in
        let q : SystemState = state_after p s.rounds in
        let runs : Executes r.program r.fingerprint x (begun_for q.world front r.schedule.halts rest) q s.transitions left = subst (λ (a : Agenda). Executes r.program r.fingerprint x a q s.transitions left) (sym s.begins) (over.onward.executes tell) in
        subst (λ (z : SystemState). EachOnce r.program (forced_logs z.world)) (sym ends-at)
        (requests_stand_once_on_way r.program r.fingerprint x s.first p s.rounds s.transitions _ may.fit (in-first (ItemMayCome r.program) (items_of r) s.first rest s.are (items-come r may)) long (opened.state tell) (in-first IsClients (items_of r) s.first rest s.are (are-clients r may numbers))
        (are-rounds (TheyTell b r.program disks) r.program r.fingerprint x tell [] p s.first s.rounds over.follows)
        (comes-behind q.world front r.schedule.halts r.program r.fingerprint x q s.transitions left rest refl (in-rest IsClients (items_of r) s.first rest s.are (are-clients r may numbers)) (in-rest (ItemMayCome r.program) (items_of r) s.first rest s.are (items-come r may)) runs))

    abbrev items : ItemsCame b r disks p moments
    items = record { left = left; stands = over; once = once }

    -- each event outlasts a crash, with the lines before it
    outlast-lines : (there : World (Torn D) (torn b)) (tried : Option What) → EachOutlasts k r.program x r.policy.report 0 old there before moments tried → running.AllOutlast k r.program (lines_before r moments) old there before (done_in moments) tried
    outlast-lines there tried each us ws v is =
        let c : CutAt moments us v ws = cut-done moments us ws v is in
        subst (λ (ms : List Moment). running.Outlasts k r.program (moment_pieces r.program r.policy.report 1 ms) old there before us v ws tried) c.lines
        (subst (λ (z : List Transition). running.Outlasts k r.program (moment_pieces r.program r.policy.report 1 c.front) old there before us v z tried) c.behind
        (subst (λ (z : List Transition). running.Outlasts k r.program (moment_pieces r.program r.policy.report 1 c.front) old there before z v (done_in c.back) tried) c.before (each c.front c.back v c.are)))

    -- where it goes on, it came to these moments
    module _ (after : K) (l : Leads r.program old (done_in moments) new) (each : EachOutlasts k r.program x r.policy.report 0 old new before moments None) where
      abbrev came : CameTo b k r disks now before after p moments
      came = record {
        items = items;
        agenda = one.agenda;
        came = came-to b texts Anew disks few old opened k before after new l.disks (texts-may b r disks may p moments left over) long (lines_before r moments) (done_in moments) one.agenda None new (goes new l) l.crash (outlast-lines new None each) tt;
        files = λ tell. ap (λ (z : SystemState). z.files) l.ends ∙ files-new b r Anew disks few old opened new l.disks l.going;
        durable = just-files b r Anew disks few old opened new l.disks l.going (files-durable new l.going);
      }

      worked-off : s.rest ≡ [] → next (world_of new) x left ≡ None → IsWorkedOff b k r disks now before after p moments came
      worked-off all nothing = record { all = all; nothing = subst (λ (z : SystemState). next z.world x left ≡ None) (sym l.ends) nothing }

  -- a run that did all
  pub is-done : (after : K) → RunsWhole k r old new before after → IsDone b k r disks now before after
  is-done after y =
      let ran = y.ran in
      record {
        p = p;
        moments = ran.moments;
        came = came ran.moments ran.agenda ran.stands after ran.leads ran.outlast;
        worked_off = worked-off ran.moments ran.agenda ran.stands after ran.leads ran.outlast ran.all ran.nothing;
        printed = puts_then k (moment_pieces r.program r.policy.report 1 ran.moments) (summary_in r.program (not r.schedule.halts) p (done_in ran.moments) ∷ []) before y.mid after ran.printed y.summary;
        settled = λ tell no-halt.
            let s = ran.stands in
            let came-so = came ran.moments ran.agenda s after ran.leads ran.outlast in
            let off = worked-off ran.moments ran.agenda s after ran.leads ran.outlast ran.all ran.nothing in
            let begun : whole_agenda [] r.schedule.halts ≡ s.begun = subst (λ l. begun_for (state_after p s.rounds).world (side_after clients [] s.rounds) r.schedule.halts l ≡ s.begun) ran.all s.begins in
            comes-to-rest (texts ran.moments ran.agenda s) (texts-may b r disks may p ran.moments ran.agenda (over ran.moments ran.agenda s)) (files_on b r.program disks) p (done_in ran.moments) came-so.agenda (came-so.came.executes tell) (came-so.came.anew refl tell).1
            (ap (λ (a : Agenda). a.halts) (sym begun) ∙ no-halt) ((one ran.moments ran.agenda s).same ∙ off.nothing);
      }

  -- a run that ends before its end ----------------------------------------------------------------

  summary-untold : (after mid : K) (why : Why) → IsUnsummed k r old new before mid why → IsUntold b k r disks now before after mid why
  summary-untold after mid why y =
      let ran = y.ran in
      record {
        p = p;
        moments = ran.moments;
        came = came ran.moments ran.agenda ran.stands after ran.leads ran.outlast;
        told = y.mid;
        untold = inr (inr (record { worked_off = worked-off ran.moments ran.agenda ran.stands after ran.leads ran.outlast ran.all ran.nothing; printed = ran.printed; fails = y.fails }));
      }

  lines-untold : (after mid : K) (cut : Cut) (why : Why) → ((pieces : List (List ℕ)) (told : K) → running.FailsToTell k pieces told mid cut → FailsToTell k pieces told mid why) → LinesUntold k r.program x r.policy.report (items_of r) r.schedule.halts old new before mid cut → IsUntold b k r disks now before after mid why
  lines-untold after mid cut why fails u = record {
    p = p;
    moments = u.moments ++ Did u.last ∷ [];
    came = came (u.moments ++ Did u.last ∷ []) u.agenda u.stands after u.leads u.outlast;
    told = u.now;
    untold = inl (record { front = u.moments; last = u.last; is = refl; printed = u.printed; fails = fails (item_pieces r.program r.policy.report (suc (length u.moments)) u.last.trace) u.now u.fails });
  }

  -- behind items that were worked off nothing is done yet
  module _ (items first : List Item) (item : Item) (rest : List Item) (are : items ≡ first ++ item ∷ rest) (front : Front) (mid : K) (tally : Tally) (w : AllWorkedOff k r.program x r.policy.report first front old new before mid tally) where
    abbrev nothing-begun : StandsAt (Tells old) r.program (print_of old) x items r.schedule.halts p (moments_of first w.rounds) (begun_for (state_after p w.rounds).world (side_after clients [] w.rounds) r.schedule.halts (item ∷ rest))
    nothing-begun = record {
      first = first;
      rest = item ∷ rest;
      are = are;
      rounds = w.rounds;
      transitions = [];
      all = sym (append-nil (moments_of first w.rounds));
      follows = w.follows;
      begun = begun_for (state_after p w.rounds).world (side_after clients [] w.rounds) r.schedule.halts (item ∷ rest);
      begins = refl;
      onward = record { follows = refl; executes = λ t. refl };
    }

  note-untold : (after mid : K) (cut : Cut) (why : Why) → ((pieces : List (List ℕ)) (told : K) → running.FailsToTell k pieces told mid cut → FailsToTell k pieces told mid why) → (cut ≡ cuts.Memory → why ≡ Memory) → NoteUntold k r.program x r.policy.report (items_of r) old new before mid cut → IsUntold b k r disks now before after mid why
  note-untold after mid cut why fails memory u =
      let w = u.worked_off in
      let s = nothing-begun (items_of r) u.first u.item u.rest u.are u.front u.now u.tally w in
      let moments : List Moment = moments_of u.first w.rounds in
      let left : Agenda = begun_for (state_after p w.rounds).world (side_after clients [] w.rounds) r.schedule.halts (u.item ∷ u.rest) in
      let number : suc u.tally.events ≡ suc (length moments) = ap suc w.numbered in
      record {
        p = p;
        moments = moments;
        came = came moments left s after w.leads w.outlast;
        told = u.now;
        untold = inr (inl (record {
          item = u.item;
          later = u.rest;
          is = refl;
          none = refl;
          printed = w.printed;
          untold = by u.untold number (sym w.leads.ends) w.seen;
        }));
      }
    where
      by : ((answer : Asked) × (turn (world_of new) u.front u.item ≡ Answers answer u.front) × running.FailsToTell k (note_pieces r.program r.policy.report (suc u.tally.events) u.item answer) u.now mid cut) ⊎ ((cut ≡ cuts.Memory) × (mid ≡ u.now))
          → suc u.tally.events ≡ suc (length (moments_of u.first u.worked_off.rounds)) → state_of new ≡ last_state p (done_in (moments_of u.first u.worked_off.rounds)) → u.front ≡ side_after clients [] u.worked_off.rounds
          → ((answer : Asked) × (front : Front) × (turn (last_state p (done_in (moments_of u.first u.worked_off.rounds))).world (side_after clients [] u.worked_off.rounds) u.item ≡ Answers answer front) × FailsToTell k (note_pieces r.program r.policy.report (suc (length (moments_of u.first u.worked_off.rounds))) u.item answer) u.now mid why) ⊎ ((why ≡ Memory) × (mid ≡ u.now))
      by (inl y) number state seen =
          inl (
            y.0,
            u.front,
            subst (λ (z : SystemState). turn z.world (side_after clients [] u.worked_off.rounds) u.item ≡ Answers y.0 u.front) state (subst (λ f. turn (world_of new) f u.item ≡ Answers y.0 u.front) seen y.1),
            subst (λ n. FailsToTell k (note_pieces r.program r.policy.report n u.item y.0) u.now mid why) number (fails (note_pieces r.program r.policy.report (suc u.tally.events) u.item y.0) u.now y.2),
          )
      by (inr y) number state seen = inr (memory y.0, y.1)

  module _ (tool : List ℕ) (may_stay : (disk : D) → b.keeps disk → b.may_leave disk (b.seen disk)) (after mid : K) (status : ℕ) where
    ends-refused : (why : WorldRefused) → IsRefused b k r.program x r.policy.report (items_of r) r.schedule.halts old new before mid why → EndsAs k tool (Some r.program) (why_of_cut r.fingerprint (cuts.Refused why)) mid after status → EndsRefused b k tool r disks now before after status
    ends-refused why f ends =
        let one-run = one f.moments f.agenda f.stands in
        let tried : Next = record { event = f.event; left = f.left } in
        let was : WasRefused b k r.program x (lines_before r f.moments) (agenda_of (texts f.moments f.agenda f.stands)) old new before mid why = record {
          transitions = done_in f.moments;
          agenda = one-run.agenda;
          now = f.now;
          goes = goes f.moments f.agenda f.stands f.now f.leads;
          event = f.event;
          left = f.left;
          next = subst (λ (z : SystemState). next z.world x one-run.agenda ≡ next z.world x f.agenda) f.leads.ends one-run.same ∙ f.next;
          fails = f.fails;
          disks = f.disks;
          crash = f.crash;
          printed = subst (λ (ms : List Moment). Puts k (moment_pieces r.program r.policy.report 1 ms) before mid) (all-before f.moments) f.printed;
          outlast = outlast-lines f.moments f.agenda f.stands new (Some f.event.what) f.outlast;
          here = f.here;
          within = f.within;
        } in
        record {
          why = why;
          mid = mid;
          p = p;
          moments = f.moments;
          items = items f.moments f.agenda f.stands;
          agenda = one-run.agenda;
          tried = tried;
          next = subst (λ (z : SystemState). next z.world x f.agenda ≡ Some tried) (sym f.leads.ends) f.next;
          refused = is-refused-at b k (texts f.moments f.agenda f.stands) Anew disks few before after (texts-may b r disks may p f.moments f.agenda (over f.moments f.agenda f.stands)) long old new opened (lines_before r f.moments) may_stay mid why was;
          ends = ends;
        }

    untold-cut : (cut : Cut) (why : Why) → ((pieces : List (List ℕ)) (told : K) → running.FailsToTell k pieces told mid cut → FailsToTell k pieces told mid why) → (cut ≡ cuts.Memory → why ≡ Memory)
        → LinesUntold k r.program x r.policy.report (items_of r) r.schedule.halts old new before mid cut ⊎ NoteUntold k r.program x r.policy.report (items_of r) old new before mid cut → EndsAs k tool (Some r.program) why mid after status → Runs b k tool r disks now before after status
    untold-cut cut why fails memory (inl u) ends = inr (inr (inr (record { why = why; mid = mid; untold = lines-untold after mid cut why fails u; ends = ends })))
    untold-cut cut why fails memory (inr u) ends = inr (inr (inr (record { why = why; mid = mid; untold = note-untold after mid cut why fails memory u; ends = ends })))

    cut-short : (cut : Cut) → ClientsCut b k r.program x r.policy.report (items_of r) r.schedule.halts old new before mid cut → EndsAs k tool (Some r.program) (why_of_cut r.fingerprint cut) mid after status → Runs b k tool r disks now before after status
    cut-short (cuts.Refused why) was ends = inr (inr (inl (ends-refused why was ends)))
    cut-short cuts.Print was ends = untold-cut cuts.Print Print (λ pieces told f. f) (λ e. absurd (cc e)) was ends
    cut-short cuts.Memory was ends = untold-cut cuts.Memory Memory (λ pieces told f. f) (λ e. refl) was ends

    pub is-short : (why : Why) → RunsShort b k r old new before mid why → EndsAs k tool (Some r.program) why mid after status → Runs b k tool r disks now before after status
    is-short why (inl c) ends = cut-short c.cut c.was (subst (λ z. EndsAs k tool (Some r.program) z mid after status) c.told ends)
    is-short why (inr u) ends = inr (inr (inr (record { why = why; mid = mid; untold = summary-untold after mid why u; ends = ends })))
