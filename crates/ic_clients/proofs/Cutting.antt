-- Why a run with clients goes no further, behind the items that were worked off.
use Rattle.std.proofs.Common.{◌≡◌, ◌∙◌, sym, ap, subst, refl, ℕ, suc, ◌+◌, Bool, true, List, [], ◌∷◌, ◌++◌, map, length, length-append, append_assoc, arith, take, drop, get_or, ◌<◌, Option, Some, None, ◌⊎◌, inl, inr}
use Rattle.ic_base.specs.declared.events.Event.{Event}
use Rattle.ic_base.specs.declared.events.Trace.{Trace}
use Rattle.ic_base.specs.declared.events.What.{What}
use Rattle.ic_base.specs.declared.refusals.WorldRefused.{WorldRefused}
use Rattle.ic_base.specs.declared.report.ReportLevel.{ReportLevel}
use Rattle.ic_base.specs.declared.scenario.Program.{Program}
use Rattle.def_client.specs.Clients.{Item, clients, turn, item_of}
use Rattle.def_client.specs.Fronts.{Front}
use Rattle.def_client.specs.declared.asked.Asked.{Asked}
use Rattle.def_rounds.specs.Rounds.{Answers, side_after}
use Rattle.def_run.specs.Executions.{Agenda, Executes, whole_agenda}
use Rattle.def_run.specs.SystemStates.{SystemState, Transition, traces_of}
use Rattle.def_step.specs.Settle.{PolicyIntervals}
use Rattle.ic_disk.specs.TornDisks.{Torn}
use Rattle.ic_disk.specs.declared.disk.Disk as disk
use Rattle.ic_disk.specs.declared.sink.Sink as sink
use Rattle.ic_report.specs.Outputs.{Puts}
use Rattle.ic_report.proofs.Outputs.{puts_then}
use Rattle.ic_run.specs.Running.{all_pieces, lines_behind, Follows, Leads, KeepsAll, Goes, CrashLeavesWay, IsBetween, AllOutlast, WasRefused, WasCutOff, WasCut, FailsToTell}
use Rattle.ic_run.specs.Tallies.{Counts}
use Rattle.ic_run.specs.declared.running.Cut.{Cut}
use Rattle.ic_run.specs.declared.running.Cut.TheVariants as cuts
use Rattle.ic_run.specs.declared.tally.Tally.{Tally}
use Rattle.ic_run.proofs.Onward.{crash-then, leads-of, leads-then, between-second}
use Rattle.ic_run.proofs.Worlds.{tells-on, keeps-more}
use Rattle.ic_world.specs.Views.{world_of, state_of, print_of, Tells}
use Rattle.ic_world.specs.declared.world.World.{World}
use Rattle.ic_clients.specs.Moments.{Moment, Did, item_pieces, note_pieces, moment_pieces, moments_of, done_in}
use Rattle.ic_clients.specs.Working.{StandsAt, EachOutlasts, Pursued, AllWorkedOff, RanClients, LinesUntold, NoteUntold, IsRefused, FailsToWork, FailsToWorkAll, ClientsCut, begun_by, begun_for}
use Rattle.ic_clients.proofs.Moments.{done-append, done-did, did-length, did-more, traces-append, pieces-behind, pieces-did}
use Rattle.ic_clients.proofs.Results.{cut-map}
use Rattle.ic_clients.proofs.Worked.{each-did, each-then}

module _ {D : Type 0} {d : disk.Ghosts D} {K : Type 0} (k : sink.Ghosts K) (program : Program) (x : PolicyIntervals) (level : ReportLevel) (items first rest : List Item) (halts : Bool) (are : items ≡ first ++ rest) (front : Front) (old mid : World D d) (before now : K) (was : Tally) (w : AllWorkedOff k program x level first front old mid before now was) where
  abbrev pub moments-with : List Transition → List Moment
  moments-with vs = moments_of first w.rounds ++ map Did vs

  done-with : (vs : List Transition) → done_in (moments-with vs) ≡ done_in (moments_of first w.rounds) ++ vs
  done-with vs = done-append (moments_of first w.rounds) (map Did vs) ∙ ap (λ l. done_in (moments_of first w.rounds) ++ l) (done-did vs)

  number-with : suc was.events ≡ 1 + length (moments_of first w.rounds)
  number-with = omega (arith, w.numbered)

  from-none : was.events ≡ 0 + length (moments_of first w.rounds)
  from-none = omega (arith, w.numbered)

  -- what is told of the transitions behind
  pieces-with : (vs : List Transition) → moment_pieces program level 1 (moments-with vs) ≡ moment_pieces program level 1 (moments_of first w.rounds) ++ all_pieces (item_pieces program level) (suc was.events) (traces_of vs)
  pieces-with vs =
      let told : List (List ℕ) = moment_pieces program level 1 (moments_of first w.rounds) in
      pieces-behind program level 1 (moments_of first w.rounds) (map Did vs)
      ∙ ap (λ n. told ++ moment_pieces program level n (map Did vs)) (sym number-with)
      ∙ ap (λ l. told ++ l) (pieces-did program level (suc was.events) vs)

  module _ (a : Agenda) (begins : begun_for (world_of mid) front halts rest ≡ a) where
    -- what is to be done behind the items came so far
    stands-at : (vs : List Transition) (b : Agenda) (there : World D d) → Goes program x a mid vs b there → StandsAt (Tells old) program (print_of old) x items halts (state_of old) (moments-with vs) b
    stands-at vs b there g =
        let B : SystemState → Front → Type 0 = λ s f. begun_for s.world f halts rest ≡ a in
        let F : SystemState → Type 0 = λ s. Follows program x a s vs b in
        let X : List ℕ → SystemState → Type 0 = λ print s. Executes program print x a s vs b in
        record {
          first = first;
          rest = rest;
          are = are;
          rounds = w.rounds;
          transitions = vs;
          all = refl;
          follows = w.follows;
          begun = a;
          begins = subst (λ s. B s (side_after clients [] w.rounds)) (sym w.ends) (subst (λ f. B (state_of mid) f) w.seen begins);
          onward = record {
            follows = subst F (sym w.ends) g.follows;
            executes = λ tells. subst (X (print_of old)) (sym w.ends) (subst (λ print. X print (state_of mid)) w.leads.disks.print (g.executes (tells-on old mid w.leads.disks tells)));
          };
        }

    leads-with : (vs : List Transition) (there : World D d) → Leads program mid vs there → Leads program old (done_in (moments-with vs)) there
    leads-with vs there l = let L : List Transition → Type 0 = λ z. Leads program old z there in subst L (sym (done-with vs)) (leads-then program old mid there (done_in (moments_of first w.rounds)) vs w.leads l)

    printed-with : (vs : List Transition) (there : K) → Puts k (all_pieces (item_pieces program level) (suc was.events) (traces_of vs)) now there → Puts k (moment_pieces program level 1 (moments-with vs)) before there
    printed-with vs there printed =
        subst (λ ps. Puts k ps before there) (sym (pieces-with vs))
        (puts_then k (moment_pieces program level 1 (moments_of first w.rounds)) (all_pieces (item_pieces program level) (suc was.events) (traces_of vs)) before now there w.printed printed)

    outlast-with : (vs : List Transition) (tried : Option What) (there : World D d) → KeepsAll mid there → CrashLeavesWay program mid vs tried there → AllOutlast k program (lines_behind (item_pieces program level) was.events) mid there now vs tried → EachOutlasts k program x level 0 old there before (moments-with vs) tried
    outlast-with vs tried there later way all =
        let W : List Transition → Type 0 = λ l. CrashLeavesWay program mid l tried there in
        each-then k program x level 0 old mid there before now (moments_of first w.rounds) (map Did vs) tried w.leads later (subst W (sym (done-did vs)) way) w.printed w.outlast
        (subst (λ n. EachOutlasts k program x level n mid there now (map Did vs) tried) from-none (each-did k program x level was.events mid there now vs tried all))

    -- with none left, all was done
    pub all-ran : (new : World D d) (after : K) (behind : Front) (tally : Tally) → rest ≡ [] → Pursued k program x level was a front behind mid new now after tally → RanClients k program x level items halts old new before after tally
    unfolding stands-at
    all-ran new after behind tally none p =
        let run = p.executed in
        let vs : List Transition = run.transitions in
        let C : List Trace → Type 0 = λ ts. Counts ts tally in
        record {
          moments = moments-with vs;
          agenda = run.agenda;
          stands = stands-at vs run.agenda new run.goes;
          all = none;
          nothing = run.nothing;
          leads = leads-with vs new (leads-of run.goes);
          counts = subst C (sym (ap traces_of (done-with vs) ∙ traces-append (done_in (moments_of first w.rounds)) vs)) (run.counts (traces_of (done_in (moments_of first w.rounds))) w.counts);
          numbered = omega (arith, run.numbered, w.numbered, length-append (moments_of first w.rounds) (map Did vs), did-length vs);
          printed = printed-with vs after run.printed;
          outlast = outlast-with vs None new run.goes.disks run.goes.crash run.outlast;
        }

    pub lines-untold : (new : World D d) (after : K) (cut : Cut) → WasCutOff k program x (item_pieces program level) was.events a mid new now after cut → LinesUntold k program x level items halts old new before after cut
    lines-untold new after cut c =
        let vs : List Transition = c.transitions ++ c.last ∷ [] in
        let us : List Moment = moments-with c.transitions in
        let same : moments-with vs ≡ us ++ Did c.last ∷ [] =
        ap (λ (l : List Moment). moments_of first w.rounds ++ l) (did-more c.transitions c.last) ∙ sym (append_assoc (moments_of first w.rounds) (map Did c.transitions) (Did c.last ∷ [])) in
        let number : suc was.events + length c.transitions ≡ suc (length us) = omega (arith, w.numbered, length-append (moments_of first w.rounds) (map Did c.transitions), did-length c.transitions) in
        let T : ℕ → Type 0 = λ n. FailsToTell k (item_pieces program level n c.last.trace) c.now after cut in
        record {
          moments = us;
          last = c.last;
          agenda = c.agenda;
          stands = subst (λ l. StandsAt (Tells old) program (print_of old) x items halts (state_of old) l c.agenda) same (stands-at vs c.agenda new c.goes);
          leads = subst (λ l. Leads program old (done_in l) new) same (leads-with vs new (leads-of c.goes));
          now = c.now;
          printed = printed-with c.transitions c.now c.printed;
          fails = subst T number c.fails;
          outlast = subst (λ l. EachOutlasts k program x level 0 old new before l None) same (outlast-with vs None new c.goes.disks c.goes.crash c.outlast);
        }

module _ {D : Type 0} (b : disk.Ghosts D) {d : disk.Ghosts (Torn D)} {K : Type 0} (k : sink.Ghosts K) (program : Program) (x : PolicyIntervals) (level : ReportLevel) (items first rest : List Item) (halts : Bool) (are : items ≡ first ++ rest) (front : Front) (old mid new : World (Torn D) d) (before now after : K) (was : Tally) (w : AllWorkedOff k program x level first front old mid before now was) where
  module _ (a : Agenda) (begins : begun_for (world_of mid) front halts rest ≡ a) where
    is-refused : (why : WorldRefused) → WasRefused b k program x (lines_behind (item_pieces program level) was.events) a mid new now after why → IsRefused b k program x level items halts old new before after why
    is-refused why r =
        let vs : List Transition = r.transitions in
        let ms : List Moment = moments-with k program x level items first rest halts are front old mid before now was w vs in
        let done = done-with k program x level items first rest halts are front old mid before now was w vs in
        let later = keeps-more mid r.now new r.event.what r.goes.disks r.disks in
        let W : List Transition → Type 0 = λ l. CrashLeavesWay program old l (Some r.event.what) new in
        let B : List Transition → Type 0 = λ l. IsBetween program old new l [] (Some r.event.what) r.now in
        record {
          moments = ms;
          agenda = r.agenda;
          stands = stands-at k program x level items first rest halts are front old mid before now was w a begins vs r.agenda r.now r.goes;
          now = r.now;
          leads = leads-with k program x level items first rest halts are front old mid before now was w a begins vs r.now (leads-of r.goes);
          event = r.event;
          left = r.left;
          next = r.next;
          fails = r.fails;
          disks = r.disks;
          crash = subst W (sym done) (crash-then program old mid new (done_in (moments_of first w.rounds)) vs (Some r.event.what) w.leads.ends w.leads.disks w.leads.crash r.crash);
          printed = printed-with k program x level items first rest halts are front old mid before now was w a begins vs after r.printed;
          outlast = outlast-with k program x level items first rest halts are front old mid before now was w a begins vs (Some r.event.what) new later r.crash r.outlast;
          here = subst B (sym done) (between-second program old mid new (done_in (moments_of first w.rounds)) vs (Some r.event.what) w.leads.ends w.leads.disks later r.crash vs [] r.now r.here);
          within = r.within;
        }

    pub cut-behind : (cut : Cut) → WasCut b k program x (item_pieces program level) was.events a mid new now after cut → ClientsCut b k program x level items halts old new before after cut
    cut-behind (cuts.Refused why) c = is-refused why c
    cut-behind cuts.Print c = inl (lines-untold k program x level items first rest halts are front old mid before now was w a begins new after cuts.Print c)
    cut-behind cuts.Memory c = inl (lines-untold k program x level items first rest halts are front old mid before now was w a begins new after cuts.Memory c)

module _ {D : Type 0} (b : disk.Ghosts D) {d : disk.Ghosts (Torn D)} {K : Type 0} (k : sink.Ghosts K) (program : Program) (x : PolicyIntervals) (level : ReportLevel) (items first rest : List Item) (item : Item) (halts : Bool) (are : items ≡ first ++ item ∷ rest) (front : Front) (old mid new : World (Torn D) d) (before now after : K) (was : Tally) (w : AllWorkedOff k program x level first front old mid before now was) where
  -- why it isn't, with no step
  abbrev pub IsUntold : Cut → Type 0
  IsUntold c = ((answer : Asked) × (turn (world_of mid) front item ≡ Answers answer front) × FailsToTell k (note_pieces program level (suc was.events) item answer) now after c) ⊎ ((c ≡ cuts.Memory) × (after ≡ now))

  -- a first item that isn't worked off
  pub work-cut : (cut : Cut) → FailsToWork b k program x level item was front mid new now after cut → ClientsCut b k program x level items halts old new before after cut
  work-cut cut (inl f) = cut-behind b k program x level items first (item ∷ rest) halts are front old mid new before now after was w (whole_agenda (f.0 ∷ []) true) (ap begun_by f.1) cut f.2
  work-cut cut (inr f) = subst (λ z. ClientsCut b k program x level items halts old z before after cut) (sym f.0) (noted cut f.1)
    where
      refused : (why : WorldRefused) → IsUntold (cuts.Refused why) → ⊥
      refused why (inl y) = y.2
      refused why (inr z) = cc z.0

      untold : (c : Cut) → IsUntold c → NoteUntold k program x level items old mid before after c
      untold c u = record { first = first; item = item; rest = rest; are = are; front = front; tally = was; now = now; worked_off = w; untold = u }

      noted : (c : Cut) → IsUntold c → ClientsCut b k program x level items halts old mid before after c
      noted (cuts.Refused why) u = absurd (refused why u)
      noted cuts.Print u = inr (untold cuts.Print u)
      noted cuts.Memory u = inr (untold cuts.Memory u)

module _ {D : Type 0} (b : disk.Ghosts D) {d : disk.Ghosts (Torn D)} {K : Type 0} (k : sink.Ghosts K) (program : Program) (x : PolicyIntervals) (level : ReportLevel) (old new : World (Torn D) d) (before after : K) where
  pub all-cut : (items : List Item) (halts : Bool) (cut : Cut) → FailsToWorkAll b k program x level items old new before after cut → ClientsCut b k program x level items halts old new before after cut
  all-cut items halts cut f = work-cut b k program x level items f.first f.rest f.item halts f.are f.front old f.mid new before f.now after f.tally f.worked_off cut f.fails

  -- at an event of a schedule
  pub fails-at : (events : List Event) (i : ℕ) (e : Event) (front : Front) (mid : World (Torn D) d) (now : K) (was : Tally) (cut : Cut) → i < length events → AllWorkedOff k program x level (map item_of (take i events)) front old mid before now was → FailsToWork b k program x level (item_of (get_or events i e)) was front mid new now after cut
      → FailsToWorkAll b k program x level (map item_of events) old new before after cut
  fails-at events i e front mid now was cut within w f = record {
    first = map item_of (take i events);
    item = item_of (get_or events i e);
    rest = map item_of (drop (suc i) events);
    are = cut-map item_of events i e within;
    front = front;
    mid = mid;
    tally = was;
    now = now;
    worked_off = w;
    fails = f;
  }
