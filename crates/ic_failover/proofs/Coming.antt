-- From worlds to the disks of a call: what a crash leaves on the way of a run with a standby.
use Rattle.std.proofs.Common.{◌≡◌, ◌∙◌, sym, ap, subst, refl, ℕ, suc, ◌+◌, ◌≤◌, true, false, List, [], ◌∷◌, ◌++◌, map, length, arith, Option, Some, None, ◌⊎◌, inl, inr}
use Rattle.std.proofs.lemmas.List.{append-nil}
use Rattle.ic_base.specs.declared.events.Event.{Event}
use Rattle.ic_base.specs.declared.events.What.{What}
use Rattle.ic_base.specs.declared.events.What.TheVariants.{Crash}
use Rattle.ic_base.specs.Programs.{is_a_pcom}
use Rattle.ic_base.specs.declared.limits.TheConstants.{COMPONENTS}
use Rattle.ic_base.specs.declared.refusals.WorldRefused.{WorldRefused}
use Rattle.def_failover.specs.declared.note.Note.{Note}
use Rattle.def_run.specs.Executions.{Agenda, whole_agenda}
use Rattle.def_run.specs.SystemStates.{SystemState, Transition, last_state, without_stop}
use Rattle.def_standby.specs.declared.orders.Order.{Order}
use Rattle.def_standby.specs.declared.orders.Order.TheVariants.{Ship, TakeOver, Run}
use Rattle.ic_disk.specs.TornDisks.{Torn}
use Rattle.ic_disk.specs.Torns.{torn}
use Rattle.ic_disk.specs.declared.disk.Disk as disk
use Rattle.ic_disk.specs.declared.sink.Sink as sink
use Rattle.ic_failover.proofs.Lasting.{Lasts, Passed, lasts-did, passed-run, lasts-then, passed-then, over-disks, over-logs, lasts-none, lasts-took, AllPassed, all-passed}
use Rattle.ic_failover.proofs.Moments.{done-append, done-did, done-here, none-there, pieces-behind, pieces-did}
use Rattle.ic_failover.specs.Carrying.{Stage, Acts, CarriesAll, GoesOn, WentThrough, FailsToCarry, FailsToCarryAll, FailsToSettle, intervals_for, telling_for}
use Rattle.ic_failover.specs.Crashes.{CameTo, HoldAll, WasTried}
use Rattle.ic_failover.specs.Moments.{Moment, Did, Took, done_in, moment_pieces}
use Rattle.ic_failover.specs.Sides.{Beside}
use Rattle.ic_failover.specs.Taking as taking
use Rattle.ic_failover.specs.Worlds.{as_texts, Begins, RunsThrough, StopsShort, RunsUntold}
use Rattle.ic_failover.specs.declared.texts.FailoverTexts.{FailoverTexts}
use Rattle.ic_report.proofs.Outputs.{puts_then}
use Rattle.ic_report.specs.Outputs.{Puts}
use Rattle.ic_run.proofs.Came.{files-new, placed-in, just-files, are-between, left-at}
use Rattle.ic_run.proofs.Lasting.{keeps-self, between-next}
use Rattle.ic_run.proofs.More.{last-behind}
use Rattle.ic_run.proofs.Onward.{between-second}
use Rattle.ic_run.proofs.Worlds.{keeps-more}
use Rattle.ic_run.specs.Lending.{lent}
use Rattle.ic_run.specs.Running.{KeepsAll, IsBetween, WasRefused, WasCutOff, lines_behind}
use Rattle.ic_run.specs.Worlds.{Opens}
use Rattle.ic_run.specs.declared.opening.Opening.TheVariants.{Anew}
use Rattle.ic_run.specs.declared.running.Cut.{Cut}
use Rattle.ic_run.specs.declared.running.Cut.TheVariants as cuts
use Rattle.ic_report.specs.declared.ending.Why.{Why}
use Rattle.ic_run.specs.declared.tally.Tally.{Tally}
use Rattle.ic_world.proofs.Crashes.{crash-none}
use Rattle.ic_world.proofs.Durable.{files-durable}
use Rattle.ic_world.specs.Stepping.{KeepsDisks, CrashLeavesLogs}
use Rattle.ic_world.specs.Views.{state_of, is_over}
use Rattle.ic_world.specs.declared.world.World.{World}

module _ {D : Type 0} (b : disk.Ghosts D) (only_now : (disk : D) (image : List ℕ) → b.keeps disk → b.left_since disk (b.moment disk) image → b.may_leave disk image) (tells : (disk : D) → b.keeps disk → b.tells disk) {K : Type 0} (k : sink.Ghosts K) (r : FailoverTexts) (disks : List D) (enough : length r.program.components ≤ length disks) (few : length r.program.components ≤ COMPONENTS)
    (pcom : is_a_pcom r.program r.who ≡ true) (old : World (Torn D) (torn b)) (opened : Opens b Anew r.program r.fingerprint (lent r.program.components disks) old) (before after : K) where
  abbrev pub placed : World (Torn D) (torn b) → List D
  placed w = placed-in b (as_texts r) Anew disks enough old opened w

  abbrev p : SystemState
  p = state_of old

  -- moments that last, over the disks of the call
  pub came-to : (new : World (Torn D) (torn b)) (ms : List Moment) (tried : Option What) → Lasts k r 0 old new before ms tried → CameTo b k r disks (placed new) before after p ms tried
  came-to new ms tried l = record {
    opened = opened.state;
    first = placed old;
    begins = are-between b (as_texts r) Anew disks enough old opened new l.disks [] (done_in r.who ms) tried old
        (record { state = refl; disks = keeps-self old; later = l.disks; made = opened.is_new.made; going = opened.is_new.going; durable = files-durable old opened.is_new.going; crash = l.crash });
    outlast = λ us ws m v is step.
        let x = l.outlast us ws m v is step in
        record {
          was = placed x.was;
          held = placed x.held;
          told = x.told;
          before_it = are-between b (as_texts r) Anew disks enough old opened new l.disks (done_in r.who us) (v ∷ done_in r.who ws) tried x.was x.before_it;
          behind_it = are-between b (as_texts r) Anew disks enough old opened new l.disks (done_in r.who us ++ v ∷ []) (done_in r.who ws) tried x.held x.behind_it;
          printed = x.printed;
          within = λ tell. left-at b (as_texts r) Anew disks enough old opened x.was x.held x.before_it.disks x.behind_it.disks (done_in r.who us) v.trace.event x.before_it.state x.before_it.made x.disks x.within
              (l.fits (opened.is_new.tells tell) (done_in r.who us) (done_in r.who ws) v (ap (done_in r.who) is ∙ done-append r.who us (m ∷ ws) ∙ ap (λ vs. done_in r.who us ++ vs) (done-here r.who m v ws step)));
        };
  }

  pub hold-all : (new : World (Torn D) (torn b)) (ms : List Moment) → KeepsAll old new → is_over new ≡ false → last_state p (done_in r.who ms) ≡ state_of new → HoldAll b k r disks (placed new) before after p ms
  hold-all new ms keeps going ends = record {
    files = λ tell. ap (λ (s : SystemState). s.files) ends ∙ files-new b (as_texts r) Anew disks enough old opened new keeps going;
    durable = just-files b (as_texts r) Anew disks enough old opened new keeps going (files-durable new going);
  }

  was-tried : (was new : World (Torn D) (torn b)) (ms : List Moment) (what : What) → KeepsAll old new → IsBetween r.program old new (done_in r.who ms) [] (Some what) was → KeepsDisks was what new → CrashLeavesLogs r.program was what new → WasTried b k r disks (placed new) before after p ms what
  was-tried was new ms what keeps m kept logs = record {
    was = placed was;
    before_it = are-between b (as_texts r) Anew disks enough old opened new keeps (done_in r.who ms) [] (Some what) was m;
    within = λ tell. left-at b (as_texts r) Anew disks enough old opened was new m.disks keeps (done_in r.who ms) (without_stop what) m.state m.made kept logs;
  }

  -- behind the first orders ------------------------------------------------------------------------

  module _ (a : Stage (torn b) K) (begins : Begins r old before a) (os : List Order) (m : Stage (torn b) K) (carried : CarriesAll k r os a m) where
    go : GoesOn r a.world
    go = subst (λ z. GoesOn r z) (sym begins.world) (record { few = few; going = opened.is_new.going; made = opened.is_new.made; pcom = pcom })

    all : AllPassed b only_now tells k r a m
    all = all-passed b only_now tells k r os a m go carried

    -- from the world that opened
    passed : Passed k r 0 old m.world before m.out all.moments
    passed =
        subst (λ o. Passed k r 0 old m.world o m.out all.moments) begins.out_is
        (subst (λ w. Passed k r 0 w m.world a.out m.out all.moments) begins.world (subst (λ n. Passed k r n a.world m.world a.out m.out all.moments) begins.numbered all.passed))

    number : m.tally.events ≡ 0 + length all.moments
    number = all.numbered ∙ ap (λ n. n + length all.moments) begins.numbered

    -- transitions behind them
    lasts-behind : (new : World (Torn D) (torn b)) (ns : List Moment) (tried : Option What) → Lasts k r m.tally.events m.world new m.out ns tried → Lasts k r 0 old new before (all.moments ++ ns) tried
    lasts-behind new ns tried l = lasts-then k r 0 old m.world new before m.out all.moments ns tried passed (subst (λ n. Lasts k r n m.world new m.out ns tried) number l)

    printed-behind : (vs : List Transition) (there : K) → Puts k (lines_behind (telling_for r) m.tally.events vs) m.out there → Puts k (moment_pieces r 1 (all.moments ++ map Did vs)) before there
    printed-behind vs there printed =
        let front : List (List ℕ) = moment_pieces r 1 all.moments in
        let n : suc m.tally.events ≡ 1 + length all.moments = omega (arith, number) in
        subst (λ ps. Puts k ps before there) (sym (pieces-behind r 1 all.moments (map Did vs) ∙ ap (λ i. front ++ moment_pieces r i (map Did vs)) (sym n) ∙ ap (λ ps. front ++ ps) (pieces-did r (suc m.tally.events) vs)))
        (puts_then k front (lines_behind (telling_for r) m.tally.events vs) before m.out there passed.printed printed)

    done-with : (vs : List Transition) → done_in r.who (all.moments ++ map Did vs) ≡ done_in r.who all.moments ++ vs
    done-with vs = done-append r.who all.moments (map Did vs) ∙ ap (λ l. done_in r.who all.moments ++ l) (done-did r.who vs)

    -- a refusal ------------------------------------------------------------------------------------

    -- a refusal, with what was tried
    record RefusedAt (new : World (Torn D) (torn b)) (mid : K) : Type 0 where
      moments : List Moment
      what : What
      came : CameTo b k r disks (placed new) before after p moments (Some what)
      tried : WasTried b k r disks (placed new) before after p moments what
      printed : Puts k (moment_pieces r 1 moments) before mid

    event-refused : (agenda : Agenda) (new : World (Torn D) (torn b)) (mid : K) (why : WorldRefused) → WasRefused b k r.program (intervals_for r) (lines_behind (telling_for r) m.tally.events) agenda m.world new m.out mid why → RefusedAt new mid
    event-refused agenda new mid why was =
        let vs : List Transition = was.transitions in
        let what : What = was.event.what in
        let later : KeepsAll m.world new = keeps-more m.world was.now new what was.goes.disks was.disks in
        let l = lasts-behind new (map Did vs) (Some what) (lasts-did k r m.tally.events agenda was.agenda m.world new m.out vs (Some what) was.goes.executes later was.crash was.outlast) in
        let B : List Transition → Type 0 = λ z. IsBetween r.program old new z [] (Some what) was.now in
        let here : B (done_in r.who (all.moments ++ map Did vs)) =
        subst B (sym (done-with vs)) (between-second r.program old m.world new (done_in r.who all.moments) vs (Some what) passed.ends passed.lasts.disks later was.crash vs [] was.now was.here) in
        record {
          moments = all.moments ++ map Did vs;
          what = what;
          came = came-to new (all.moments ++ map Did vs) (Some what) l;
          tried = was-tried was.now new (all.moments ++ map Did vs) what l.disks here was.disks was.within;
          printed = printed-behind vs mid was.printed;
        }

    -- of a shipment or a takeover
    order-tried : (new : World (Torn D) (torn b)) → KeepsDisks m.world (Crash r.who) new → CrashLeavesLogs r.program m.world (Crash r.who) new → RefusedAt new m.out
    order-tried new kept logs =
        let what : What = Crash r.who in
        let x = between-next r.program m.world m.world new [] what refl (keeps-self m.world) all.goes.made all.goes.going kept logs in
        let l : Lasts k r 0 old new before (all.moments ++ []) (Some what) =
        lasts-behind new [] (Some what) (record { disks = x.later; crash = x.crash; outlast = λ us ws n v is step. absurd (none-there us ws n is); fits = λ told us ws v is. absurd (none-there us ws v is) }) in
        let same : Lasts k r 0 old new before all.moments (Some what) = subst (λ ms. Lasts k r 0 old new before ms (Some what)) (append-nil all.moments) l in
        record {
          moments = all.moments;
          what = what;
          came = came-to new all.moments (Some what) same;
          tried = was-tried m.world new all.moments what same.disks (between-next r.program old m.world new (done_in r.who all.moments) what passed.ends passed.lasts.disks all.goes.made all.goes.going kept logs) kept logs;
          printed = passed.printed;
        }

    ship-refused : RefusedAt m.world m.out
    ship-refused =
        order-tried m.world (over-disks r m.world m.world (record { print = refl; count = refl; kept = (keeps-self m.world).kept r.who.0; others = λ i other. refl }))
        (crash-none b only_now tells r.program m.world m.world (Crash r.who) refl (m.world.placed all.goes.going))

    order-refused : (o : Order) (new : World (Torn D) (torn b)) (mid : K) (why : WorldRefused) → FailsToCarry b k r o m new mid (cuts.Refused why) → RefusedAt new mid
    order-refused (Run e) new mid why f = event-refused (whole_agenda (e ∷ []) true) new mid why f
    order-refused Ship new mid why (inl u) = absurd u.fails
    order-refused Ship new mid why (inr (out_is, same, f)) = subst (λ o. RefusedAt new o) (sym out_is) (subst (λ w. RefusedAt w m.out) (sym same) ship-refused)
    order-refused TakeOver new mid why (inl u) = absurd u.fails
    order-refused TakeOver new mid why (inr f) = subst (λ o. RefusedAt new o) (sym f.0) (by f.1)
      where
        by : taking.FailsToTake b r.program r.who m.world new m.beside (cuts.Refused why) → RefusedAt new m.out
        by (inl w) = order-tried new (over-disks r m.world new w.others) (over-logs r m.world new w.crash)
        by (inr z) = absurd (cc (z.0))

    -- another end ----------------------------------------------------------------------------------

    record EndedAt (new : World (Torn D) (torn b)) : Type 0 where
      moments : List Moment
      came : CameTo b k r disks (placed new) before after p moments None
      holds : HoldAll b k r disks (placed new) before after p moments

    ended-behind : (new : World (Torn D) (torn b)) (ns : List Moment) → Lasts k r m.tally.events m.world new m.out ns None → last_state (state_of m.world) (done_in r.who ns) ≡ state_of new → is_over new ≡ false → EndedAt new
    ended-behind new ns l ends going =
        let all-last = lasts-behind new ns None l in
        let behind : last_state p (done_in r.who (all.moments ++ ns)) ≡ state_of new =
        ap (last_state p) (done-append r.who all.moments ns) ∙ last-behind p (done_in r.who all.moments) (done_in r.who ns) ∙ ap (λ (s : SystemState). last_state s (done_in r.who ns)) passed.ends ∙ ends in
        record { moments = all.moments ++ ns; came = came-to new (all.moments ++ ns) None all-last; holds = hold-all new (all.moments ++ ns) all-last.disks going behind }

    stays : EndedAt m.world
    stays = ended-behind m.world [] (lasts-none b only_now tells k r m.tally.events m.world m.out all.goes.going) refl all.goes.going

    cut-ended : (agenda : Agenda) (new : World (Torn D) (torn b)) (mid : K) (cut : Cut) → WasCutOff k r.program (intervals_for r) (telling_for r) m.tally.events agenda m.world new m.out mid cut → EndedAt new
    cut-ended agenda new mid cut was =
        let vs : List Transition = was.transitions ++ was.last ∷ [] in
        ended-behind new (map Did vs) (lasts-did k r m.tally.events agenda was.agenda m.world new m.out vs None was.goes.executes was.goes.disks was.goes.crash was.outlast)
        (ap (last_state (state_of m.world)) (done-did r.who vs) ∙ was.goes.ends) was.goes.going

    acts-ended : (o : Order) (note : Note) (new : World (Torn D) (torn b)) (x : Beside) → Acts r o m.world m.beside note new x → EndedAt new
    acts-ended (Run e) note new x acts = absurd acts
    acts-ended Ship note new x acts = subst EndedAt (sym acts.0) stays
    acts-ended TakeOver note new x (inl acts) = subst EndedAt (sym acts.0) stays
    acts-ended TakeOver note new x (inr acts) =
        ended-behind new (Took note (state_of new) ∷ []) (lasts-took b only_now tells k r m.tally.events acts.0 note m.world new m.out m.beside x all.goes acts.2) refl acts.2.takes.going

    order-ended : (o : Order) (new : World (Torn D) (torn b)) (mid : K) (cut : Cut) → ((w : WorldRefused) → cut ≡ cuts.Refused w → ⊥) → ((e : Event) → o ≡ Run e → EndedAt new) → FailsToCarry b k r o m new mid cut → EndedAt new
    order-ended (Run e) new mid cut other ran f = ran e refl
    order-ended Ship new mid cut other ran (inl u) = acts-ended Ship u.note new u.beside u.acts
    order-ended Ship new mid cut other ran (inr f) = subst EndedAt (sym f.1) stays
    order-ended TakeOver new mid cut other ran (inl u) = acts-ended TakeOver u.note new u.beside u.acts
    order-ended TakeOver new mid cut other ran (inr f) = by f.1
      where
        by : taking.FailsToTake b r.program r.who m.world new m.beside cut → EndedAt new
        by (inl w) = absurd (other w.why w.is)
        by (inr z) = subst EndedAt (sym z.1) stays

  -- a call -----------------------------------------------------------------------------------------

  pub record Refused (new : World (Torn D) (torn b)) (mid : K) : Type 0 where
    pub moments : List Moment
    pub what : What
    pub came : CameTo b k r disks (placed new) before after p moments (Some what)
    pub tried : WasTried b k r disks (placed new) before after p moments what
    pub printed : Puts k (moment_pieces r 1 moments) before mid

  pub short-refused : (new : World (Torn D) (torn b)) (mid : K) (why : WorldRefused) → StopsShort b k r old new before mid (cuts.Refused why) → Refused new mid
  short-refused new mid why s = by s.was
    where
      by : FailsToCarryAll b k r s.first new mid (cuts.Refused why) ⊎ FailsToSettle b k r s.first new mid (cuts.Refused why) → Refused new mid
      by (inl f) =
          let x = order-refused s.first s.begins f.first f.mid f.carried f.order new mid why f.fails in
          record { moments = x.moments; what = x.what; came = x.came; tried = x.tried; printed = x.printed }
      by (inr f) =
          let x = event-refused s.first s.begins r.orders.orders f.mid f.carried (whole_agenda [] r.orders.halts) new mid why f.cut_off in
          record { moments = x.moments; what = x.what; came = x.came; tried = x.tried; printed = x.printed }

  pub record Ended (new : World (Torn D) (torn b)) : Type 0 where
    pub moments : List Moment
    pub came : CameTo b k r disks (placed new) before after p moments None
    pub holds : HoldAll b k r disks (placed new) before after p moments

  short-ended-print : (new : World (Torn D) (torn b)) (mid : K) → StopsShort b k r old new before mid cuts.Print → Ended new
  short-ended-print new mid s = by s.was
    where
      by : FailsToCarryAll b k r s.first new mid cuts.Print ⊎ FailsToSettle b k r s.first new mid cuts.Print → Ended new
      by (inl f) = order f.order refl
        where
          order : (o : Order) → f.order ≡ o → Ended new
          order (Run e) is =
              let x = cut-ended s.first s.begins f.first f.mid f.carried (whole_agenda (e ∷ []) true) new mid cuts.Print (subst (λ o. FailsToCarry b k r o f.mid new mid cuts.Print) is f.fails) in
              record { moments = x.moments; came = x.came; holds = x.holds }
          order Ship is =
              let x = order-ended s.first s.begins f.first f.mid f.carried Ship new mid cuts.Print (λ w e. cc e) (λ e same. absurd (cc same)) (subst (λ o. FailsToCarry b k r o f.mid new mid cuts.Print) is f.fails) in
              record { moments = x.moments; came = x.came; holds = x.holds }
          order TakeOver is =
              let x = order-ended s.first s.begins f.first f.mid f.carried TakeOver new mid cuts.Print (λ w e. cc e) (λ e same. absurd (cc same)) (subst (λ o. FailsToCarry b k r o f.mid new mid cuts.Print) is f.fails) in
              record { moments = x.moments; came = x.came; holds = x.holds }
      by (inr f) =
          let x = cut-ended s.first s.begins r.orders.orders f.mid f.carried (whole_agenda [] r.orders.halts) new mid cuts.Print f.cut_off in
          record { moments = x.moments; came = x.came; holds = x.holds }

  short-ended-memory : (new : World (Torn D) (torn b)) (mid : K) → StopsShort b k r old new before mid cuts.Memory → Ended new
  short-ended-memory new mid s = by s.was
    where
      by : FailsToCarryAll b k r s.first new mid cuts.Memory ⊎ FailsToSettle b k r s.first new mid cuts.Memory → Ended new
      by (inl f) = order f.order refl
        where
          order : (o : Order) → f.order ≡ o → Ended new
          order (Run e) is =
              let x = cut-ended s.first s.begins f.first f.mid f.carried (whole_agenda (e ∷ []) true) new mid cuts.Memory (subst (λ o. FailsToCarry b k r o f.mid new mid cuts.Memory) is f.fails) in
              record { moments = x.moments; came = x.came; holds = x.holds }
          order Ship is =
              let x = order-ended s.first s.begins f.first f.mid f.carried Ship new mid cuts.Memory (λ w e. cc e) (λ e same. absurd (cc same)) (subst (λ o. FailsToCarry b k r o f.mid new mid cuts.Memory) is f.fails) in
              record { moments = x.moments; came = x.came; holds = x.holds }
          order TakeOver is =
              let x = order-ended s.first s.begins f.first f.mid f.carried TakeOver new mid cuts.Memory (λ w e. cc e) (λ e same. absurd (cc same)) (subst (λ o. FailsToCarry b k r o f.mid new mid cuts.Memory) is f.fails) in
              record { moments = x.moments; came = x.came; holds = x.holds }
      by (inr f) =
          let x = cut-ended s.first s.begins r.orders.orders f.mid f.carried (whole_agenda [] r.orders.halts) new mid cuts.Memory f.cut_off in
          record { moments = x.moments; came = x.came; holds = x.holds }

  -- all was done
  pub record Whole (new : World (Torn D) (torn b)) (mid : K) : Type 0 where
    pub moments : List Moment
    pub came : CameTo b k r disks (placed new) before after p moments None
    pub holds : HoldAll b k r disks (placed new) before after p moments
    pub printed : Puts k (moment_pieces r 1 moments) before mid

  pub through-whole : (new : World (Torn D) (torn b)) (mid : K) (shipped : ℕ) (tally : Tally) → RunsThrough k r old new before mid shipped tally → Whole new mid
  through-whole new mid shipped tally t =
      let w : WentThrough k r t.first new mid shipped tally = t.went in
      let one = passed t.first t.begins r.orders.orders w.mid w.carried in
      let behind = all t.first t.begins r.orders.orders w.mid w.carried in
      let two = passed-run k r w.mid.tally tally (whole_agenda [] r.orders.halts) w.mid.world new w.mid.out mid w.settled in
      let ns : List Moment = map Did w.settled.transitions in
      let whole = passed-then k r 0 old w.mid.world new before w.mid.out mid behind.moments ns one (subst (λ n. Passed k r n w.mid.world new w.mid.out mid ns) (number t.first t.begins r.orders.orders w.mid w.carried) two) in
      record {
        moments = behind.moments ++ ns;
        came = came-to new (behind.moments ++ ns) None whole.lasts;
        holds = hold-all new (behind.moments ++ ns) whole.lasts.disks w.settled.goes.going whole.ends;
        printed = whole.printed;
      }

  pub untold-ended : (new : World (Torn D) (torn b)) (mid : K) (why : Why) → RunsUntold b k r old new before mid why → Ended new
  untold-ended new mid why (inl s) = short-ended-print new mid s.1
  untold-ended new mid why (inr (inl s)) = short-ended-memory new mid s.1
  untold-ended new mid why (inr (inr (inl u))) = let x = through-whole new u.mid u.shipped u.tally u.through in record { moments = x.moments; came = x.came; holds = x.holds }
  untold-ended new mid why (inr (inr (inr z))) = subst Ended (sym z.1) (record {
    moments = [];
    came = came-to old [] None (lasts-none b only_now tells k r 0 old before opened.is_new.going);
    holds = hold-all old [] (keeps-self old) opened.is_new.going refl;
  })
