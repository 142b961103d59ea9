-- Items that are worked off, one after another.
use Rattle.std.proofs.Common.{◌≡◌, ◌∙◌, sym, ap, subst, refl, ℕ, suc, ◌+◌, ◌≤◌, true, false, List, [], ◌∷◌, ◌++◌, map, take, get_or, ◌<◌, length, length-append, arith, Option, None, ◌⊎◌, inl, inr}
use Rattle.std.proofs.lemmas.List.{append-nil, map_more}
use Rattle.ic_base.specs.declared.events.Event.{Event}
use Rattle.ic_base.specs.declared.events.Trace.{Trace}
use Rattle.ic_base.specs.declared.events.What.{What}
use Rattle.ic_base.specs.declared.report.ReportLevel.{ReportLevel}
use Rattle.ic_base.specs.declared.scenario.Program.{Program}
use Rattle.def_client.specs.Clients.{Item, clients, turn, item_of}
use Rattle.def_client.specs.Fronts.{Front}
use Rattle.def_client.specs.declared.asked.Asked.{Asked}
use Rattle.def_rounds.specs.Rounds.{Happens, Answers, Ran, Told, side_behind, side_after, state_behind}
use Rattle.def_run.specs.Executions.{next, whole_agenda}
use Rattle.def_run.specs.SystemStates.{SystemState, Transition, traces_of}
use Rattle.def_step.specs.Settle.{PolicyIntervals}
use Rattle.ic_disk.specs.declared.disk.Disk as disk
use Rattle.ic_disk.specs.declared.sink.Sink as sink
use Rattle.ic_report.specs.Outputs.{Puts}
use Rattle.ic_report.proofs.Outputs.{puts_nothing, puts_then}
use Rattle.ic_run.specs.Running.{all_pieces, lines_behind, Leads, KeepsAll, CrashLeavesWay, Outlasts, AllOutlast}
use Rattle.ic_run.specs.Tallies.{Counts}
use Rattle.ic_run.specs.declared.tally.Tally.{Tally}
use Rattle.ic_run.proofs.Nexts.{agenda_with}
use Rattle.ic_run.proofs.Onward.{cut-of, leads-of, leads-then, outlasts-first, outlasts-second}
use Rattle.ic_run.proofs.Worlds.{tells-on, goes-nowhere}
use Rattle.ic_disk.specs.TornDisks.{Torn}
use Rattle.ic_disk.specs.Torns.{torn}
use Rattle.ic_world.specs.Acting.{GREATEST}
use Rattle.ic_world.specs.Allowing.{IsMadeFor}
use Rattle.ic_world.specs.Standing.{ArePlaced}
use Rattle.ic_world.specs.Views.{components_of, world_of, state_of, print_of, played_of, is_over, Tells}
use Rattle.ic_world.specs.declared.world.World.{World}
use Rattle.ic_clients.specs.Moments.{Moment, Did, Noted, item_pieces, note_pieces, moment_pieces, moments_in, moments_of, done_in}
use Rattle.ic_clients.specs.Working.{FollowsItem, EachOutlasts, Pursued, WorkedOff, AllWorkedOff}
use Rattle.ic_clients.proofs.Moments.{done-append, done-did, did-length, traces-append, pieces-behind, pieces-did, SplitAt, split-did, none-there, noted-none}
use Rattle.ic_clients.proofs.Rounds.{side-more, after-more, item-told, follows-more, moments-more}

-- what outlasts a crash -------------------------------------------------------------------------------

module _ {D : Type 0} {d : disk.Ghosts D} {K : Type 0} (k : sink.Ghosts K) (program : Program) (x : PolicyIntervals) (level : ReportLevel) (number : ℕ) where
  -- transitions alone
  pub each-did : (old new : World D d) (before : K) (vs : List Transition) (tried : Option What) → AllOutlast k program (lines_behind (item_pieces program level) number) old new before vs tried → EachOutlasts k program x level number old new before (map Did vs) tried
  each-did old new before vs tried all us ws v is =
      let s : SplitAt vs us ws v = split-did vs us ws v is in
      let told : List (List ℕ) = all_pieces (item_pieces program level) (suc number) (traces_of s.front) in
      let pieces : moment_pieces program level (suc number) us ≡ told = ap (moment_pieces program level (suc number)) s.before ∙ pieces-did program level (suc number) s.front in
      let front : done_in us ≡ s.front = ap done_in s.before ∙ done-did s.front in
      let back : done_in ws ≡ s.back = ap done_in s.behind ∙ done-did s.back in
      subst (λ (z : List (List ℕ)). Outlasts k program z old new before (done_in us) v (done_in ws) tried) (sym pieces)
      (subst (λ (z : List Transition). Outlasts k program told old new before z v (done_in ws) tried) (sym front)
      (subst (λ (z : List Transition). Outlasts k program told old new before s.front v z tried) (sym back) (all s.front s.back v s.are)))

  -- moments in a row
  module _ (old mid new : World D d) (before now : K) (ms ns : List Moment) (tried : Option What) (first : Leads program old (done_in ms) mid) (later : KeepsAll mid new) (way : CrashLeavesWay program mid (done_in ns) tried new) (printed : Puts k (moment_pieces program level (suc number) ms) before now) where
    pub each-then : EachOutlasts k program x level number old mid before ms None → EachOutlasts k program x level (number + length ms) mid new now ns tried → EachOutlasts k program x level number old new before (ms ++ ns) tried
    each-then one two us ws v is = by (cut-of ms ns us ws (Did v) is)
      where
        by : ((rest : List Moment) × (ms ≡ us ++ Did v ∷ rest) × (ws ≡ rest ++ ns)) ⊎ ((rest : List Moment) × (us ≡ ms ++ rest) × (ns ≡ rest ++ Did v ∷ ws)) → Outlasts k program (moment_pieces program level (suc number) us) old new before (done_in us) v (done_in ws) tried
        by (inl l) =
            let cut : done_in ms ≡ done_in us ++ v ∷ done_in l.0 = ap done_in l.1 ∙ done-append us (Did v ∷ l.0) in
            subst (λ (z : List Transition). Outlasts k program (moment_pieces program level (suc number) us) old new before (done_in us) v z tried) (sym (ap done_in l.2 ∙ done-append l.0 ns))
            (outlasts-first program old mid new (done_in ms) (done_in ns) tried first.ends first.disks later way k (moment_pieces program level (suc number) us) before (done_in us) (done_in l.0) v cut (one us l.0 v l.1))
        by (inr r) =
            let same : suc number + length ms ≡ suc (number + length ms) = omega arith in
            let front : List (List ℕ) = moment_pieces program level (suc number) ms in
            let back : List (List ℕ) = moment_pieces program level (suc (number + length ms)) r.0 in
            let pieces : moment_pieces program level (suc number) us ≡ front ++ back =
            ap (moment_pieces program level (suc number)) r.1 ∙ pieces-behind program level (suc number) ms r.0 ∙ ap (λ m. front ++ moment_pieces program level m r.0) same in
            subst (λ (z : List (List ℕ)). Outlasts k program z old new before (done_in us) v (done_in ws) tried) (sym pieces)
            (subst (λ (z : List Transition). Outlasts k program (front ++ back) old new before z v (done_in ws) tried) (sym (ap done_in r.1 ∙ done-append ms r.0))
            (outlasts-second program old mid new (done_in ms) (done_in ns) tried first.ends first.disks later way k back before (done_in r.0) (done_in ws) v front now printed (two r.0 ws v r.2)))

-- one item --------------------------------------------------------------------------------------------

module _ {D : Type 0} {d : disk.Ghosts D} {K : Type 0} (k : sink.Ghosts K) (program : Program) (x : PolicyIntervals) (level : ReportLevel) (i : Item) (was : Tally) (here behind : Front) (old new : World D d) (before after : K) (tally : Tally) where
  -- it happened
  pub worked-ran : (e : Event) → turn (world_of old) here i ≡ Happens e → Pursued k program x level was (whole_agenda (e ∷ []) true) here behind old new before after tally → WorkedOff k program x level i was here behind old new before after tally
  worked-ran e is p =
      let run = p.executed in
      let vs : List Transition = run.transitions in
      let S : SystemState → Type 0 = λ s. next s.world x run.agenda ≡ None in
      let nothing = subst S (sym run.goes.ends) run.nothing in
      let L : List Transition → Type 0 = λ z. Leads program old z new in
      let C : List Trace → List Transition → Type 0 = λ told z. Counts (told ++ traces_of z) tally in
      record {
        round = Ran vs;
        follows = (e, run.agenda, is, record { follows = run.goes.follows; executes = run.goes.executes }, nothing);
        seen = p.seen;
        ends = run.goes.ends;
        leads = subst L (sym (done-did vs)) (leads-of run.goes);
        counts = λ told c. subst (C told) (sym (done-did vs)) (run.counts told c);
        numbered = run.numbered ∙ ap (λ n. was.events + n) (sym (did-length vs));
        printed = subst (λ ps. Puts k ps before after) (sym (pieces-did program level (suc was.events) vs)) run.printed;
        outlast = each-did k program x level was.events old new before vs None run.outlast;
      }

  -- the same, as an agenda of one event has it, by what is seen of it
  pub worked-new : (e : Event) (left : List Event) (seen : Front) → left ≡ e ∷ [] → seen ≡ here → turn (world_of old) here i ≡ Happens e → Pursued k program x level was (agenda_with left true None) seen behind old new before after tally → WorkedOff k program x level i was here behind old new before after tally
  worked-new e left seen only same is p =
      let P : List Event → Front → Type 0 = λ l f. Pursued k program x level was (agenda_with l true None) f behind old new before after tally in
      worked-ran e is (subst (λ l. P l here) only (subst (λ f. P left f) same p))

  -- it was answered with no step
  pub worked-noted : (answer : Asked) → turn (world_of old) here i ≡ Answers answer here → behind ≡ here → state_of old ≡ state_of new → Leads program old [] new → ((ts : List Trace) → Counts ts was → Counts ts tally) → tally.events ≡ suc was.events → Puts k (note_pieces program level (suc was.events) i answer) before after
      → WorkedOff k program x level i was here behind old new before after tally
  worked-noted answer is same ends leads counts one-more printed =
      let C : List Trace → Type 0 = λ ts. Counts ts tally in
      record {
        round = Told answer here;
        follows = is;
        seen = same;
        ends = ends;
        leads = leads;
        counts = λ told c. subst C (sym (append-nil told)) (counts told c);
        numbered = omega (arith, one-more);
        printed = subst (λ ps. Puts k ps before after) (sym (append-nil (note_pieces program level (suc was.events) i answer))) printed;
        outlast = λ us ws v cut. absurd (noted-none (Noted i answer) us ws v refl cut);
      }

-- a world stays
module _ {D : Type 0} (b : disk.Ghosts D) (only_now : (disk : D) (image : List ℕ) → b.keeps disk → b.left_since disk (b.moment disk) image → b.may_leave disk image) (tells : (disk : D) → b.keeps disk → b.tells disk) where
  pub leads-nowhere : (program : Program) (w : World (Torn D) (torn b)) → IsMadeFor program (world_of w) → is_over w ≡ false → ArePlaced (components_of w) → played_of w ≤ GREATEST → Leads program w [] w
  leads-nowhere program w made going placed few =
      let x : PolicyIntervals = record { force_every = 0; checkpoint_every = 0 } in
      leads-of (goes-nowhere b only_now tells program x (whole_agenda [] true) w made going placed few)

-- all -------------------------------------------------------------------------------------------------

module _ {D : Type 0} {d : disk.Ghosts D} {K : Type 0} (k : sink.Ghosts K) (program : Program) (x : PolicyIntervals) (level : ReportLevel) where
  pub all-none : (front : Front) (w : World D d) (out : K) (tally : Tally) → front ≡ [] → Leads program w [] w → Counts [] tally → tally.events ≡ 0 → AllWorkedOff k program x level [] front w w out out tally
  all-none front w out tally none leads counts first = record {
    rounds = [];
    follows = tt;
    seen = none;
    ends = refl;
    leads = leads;
    counts = counts;
    numbered = first;
    printed = puts_nothing k out;
    outlast = λ us ws v is. absurd (none-there us ws (Did v) is);
  }

  module _ (items : List Item) (i : Item) (front behind : Front) (old mid new : World D d) (before now after : K) (was tally : Tally) (a : AllWorkedOff k program x level items front old mid before now was) (w : WorkedOff k program x level i was front behind mid new now after tally) where
    pub all-more : AllWorkedOff k program x level (items ++ i ∷ []) behind old new before after tally
    all-more =
        let p : SystemState = state_of old in
        let ns : List Moment = moments_in i w.round in
        let us : List Moment = moments_of items a.rounds in
        let all : moments_of (items ++ i ∷ []) (a.rounds ++ w.round ∷ []) ≡ us ++ ns = moments-more (Tells old) program (print_of old) x i w.round [] p items a.rounds a.follows in
        let F : Front → SystemState → Type 0 = λ f s. FollowsItem (Tells old) program (print_of old) x f s i w.round in
        let here : F front (state_of mid) = item-told program x (tells-on old mid a.leads.disks) a.leads.disks.print front (state_of mid) i w.round w.follows in
        let L : List Transition → Type 0 = λ l. Leads program old l new in
        let C : List Trace → Type 0 = λ ts. Counts ts tally in
        let done : done_in (moments_of (items ++ i ∷ []) (a.rounds ++ w.round ∷ [])) ≡ done_in us ++ done_in ns = ap done_in all ∙ done-append us ns in
        let first : was.events ≡ 0 + length us = omega (arith, a.numbered) in
        let number : 1 + length us ≡ suc was.events = omega (arith, a.numbered) in
        let pieces : moment_pieces program level 1 (us ++ ns) ≡ moment_pieces program level 1 us ++ moment_pieces program level (suc was.events) ns =
        pieces-behind program level 1 us ns ∙ ap (λ n. moment_pieces program level 1 us ++ moment_pieces program level n ns) number in
        record {
          rounds = a.rounds ++ w.round ∷ [];
          follows = follows-more (Tells old) program (print_of old) x i w.round [] p items a.rounds a.follows (subst (λ s. F (side_after clients [] a.rounds) s) (sym a.ends) (subst (λ f. F f (state_of mid)) a.seen here));
          seen = w.seen ∙ ap (λ f. side_behind clients f w.round) a.seen ∙ sym (side-more [] a.rounds w.round);
          ends = after-more p a.rounds w.round ∙ ap (λ s. state_behind s w.round) a.ends ∙ w.ends;
          leads = subst L (sym done) (leads-then program old mid new (done_in us) (done_in ns) a.leads w.leads);
          counts = subst C (sym (ap traces_of done ∙ traces-append (done_in us) (done_in ns))) (w.counts (traces_of (done_in us)) a.counts);
          numbered = omega (arith, w.numbered, a.numbered, ap length all, length-append us ns);
          printed = subst (λ ps. Puts k ps before after) (sym (ap (moment_pieces program level 1) all ∙ pieces)) (puts_then k (moment_pieces program level 1 us) (moment_pieces program level (suc was.events) ns) before now after a.printed w.printed);
          outlast =
              subst (λ (l : List Moment). EachOutlasts k program x level 0 old new before l None) (sym all)
              (each-then k program x level 0 old mid new before now us ns None a.leads w.leads.disks w.leads.crash a.printed a.outlast (subst (λ n. EachOutlasts k program x level n mid new now ns None) first w.outlast));
        }

  -- one event of a schedule more
  pub all-further : (events : List Event) (n : ℕ) (e : Event) (front behind : Front) (old mid new : World D d) (before now after : K) (was tally : Tally) → n < length events → AllWorkedOff k program x level (map item_of (take n events)) front old mid before now was → WorkedOff k program x level (item_of (get_or events n e)) was front behind mid new now after tally
      → AllWorkedOff k program x level (map item_of (take (n + 1) events)) behind old new before after tally
  all-further events n e front behind old mid new before now after was tally within a w =
      subst (λ (l : List Item). AllWorkedOff k program x level l behind old new before after tally) (sym (map_more item_of events n e within))
      (all-more (map item_of (take n events)) (item_of (get_or events n e)) front behind old mid new before now after was tally a w)
