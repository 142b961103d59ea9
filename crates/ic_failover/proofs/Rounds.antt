-- Orders that were carried out are rounds, where the disks tell their bytes.
use Rattle.std.proofs.Common.{◌≡◌, ◌∙◌, refl, ap, sym, subst, ℕ, suc, ◌+◌, ◌-◌, min, List, [], ◌∷◌, ◌++◌, length, drop, Some, None, arith, inl, inr, append_assoc}
use Rattle.std.specs.Prelude.{fold}
use Rattle.std.proofs.lemmas.List.{append-nil, length-drop}
use Rattle.ic_base.specs.declared.events.Event.{Event}
use Rattle.ic_base.specs.declared.events.Trace.{Trace}
use Rattle.ic_base.specs.declared.messages.ComId.{ComId}
use Rattle.ic_base.specs.declared.record.Record.{Record}
use Rattle.ic_base.specs.declared.scenario.Program.{Program}
use Rattle.def_failover.specs.Orders.{Side, had_by, turn, take_turn, leap, failover, played_by, played_over}
use Rattle.def_failover.specs.declared.note.Note.{Note}
use Rattle.def_failover.specs.declared.note.Note.TheVariants as notes
use Rattle.def_rounds.specs.Rounds.{Turn, Answers, Leaps, Round, Ran, Told, Leapt, IsRound, AreRounds, side_behind, side_after, state_behind, state_after, numbers_in, numbers_of, transitions_in, transitions_of}
use Rattle.def_run.specs.Executions.{next}
use Rattle.def_run.specs.Reports.{played_in}
use Rattle.def_run.specs.SystemStates.{SystemState, Transition, traces_of}
use Rattle.def_standby.specs.Standbys.{Standby, contents_to}
use Rattle.def_standby.specs.TakeOvers.{TakesOver}
use Rattle.def_standby.specs.declared.orders.Order.{Order}
use Rattle.def_standby.specs.declared.orders.Order.TheVariants.{Ship, TakeOver, Run}
use Rattle.def_step.specs.World.{Node, Down, node_at}
use Rattle.def_step.specs.World as definition
use Rattle.ic_disk.specs.declared.disk.Disk as disk
use Rattle.ic_disk.specs.declared.sink.Sink as sink
use Rattle.ic_failover.proofs.Keeping.{carries_keep}
use Rattle.ic_failover.specs.Carrying.{Stage, Acts, Carries, CarriesAll, IsTold, Happened, intervals_for}
use Rattle.ic_failover.specs.Serving.{round_pieces, rounds_pieces}
use Rattle.ic_failover.specs.Taking.{TookOver}
use Rattle.ic_failover.specs.declared.texts.FailoverTexts.{FailoverTexts}
use Rattle.ic_report.specs.Outputs.{Puts}
use Rattle.ic_report.proofs.Outputs.{puts_then, puts_nothing}
use Rattle.ic_run.proofs.Worlds.{tells-on, still-more}
use Rattle.ic_run.specs.Tallies.{Counts}
use Rattle.ic_world.specs.Acting.{GREATEST}
use Rattle.ic_world.specs.Views.{world_of, state_of, print_of, played_of, Tells}

-- an event leaves what stands beside the world
stays : (s : Side) (ts : List Trace) → fold (λ (side : Side) (t : Trace). side) s ts ≡ s
stays s [] = refl
stays s (t ∷ ts) = stays s ts

-- which takeover it is
leaps-by : (program : Program) (c : ComId) (w : definition.World) (s : Standby) (records : List Record) → node_at w c ≡ Some (Down records) → turn program c w (Some s) TakeOver ≡ Leaps (notes.Done (length (drop s.have records))) None
leaps-by program c w s records down = ap (take_turn program c (Some s)) down

pub traces-append : (us vs : List Transition) → traces_of (us ++ vs) ≡ traces_of us ++ traces_of vs
traces-append [] vs = refl
traces-append (u ∷ us) vs = ap (λ l. u.trace ∷ l) (traces-append us vs)

module _ {D : Type 0} {d : disk.Ghosts D} {K : Type 0} (k : sink.Ghosts K) (r : FailoverTexts) where
  -- one order, as a round
  pub record IsRounded (o : Order) (a b : Stage d K) : Type 0 where
    pub round : Round Side Note
    pub is : IsRound (failover r.program r.who (print_of a.world)) r.program (print_of a.world) (intervals_for r) a.beside.side (state_of a.world) o round
    pub side : side_behind (failover r.program r.who (print_of a.world)) a.beside.side round ≡ b.beside.side
    pub state : state_behind (state_of a.world) round ≡ state_of b.world
    pub counts : (told : List Trace) → Counts told a.tally → Counts (told ++ traces_of (transitions_in round)) b.tally
    pub numbered : b.tally.events ≡ a.tally.events + numbers_in round
    pub printed : Puts k (round_pieces r (suc a.tally.events) o round) a.out b.out
    pub by : ℕ
    pub played : played_of b.world ≡ min (played_of a.world + by) GREATEST
    pub more : ℕ
    pub shipped : b.beside.shipped ≡ a.beside.shipped + more
    pub total : by + more ≡ played_by a.beside.side (state_of a.world) round

  happened-round : (e : Event) (a b : Stage d K) → Tells a.world → Happened k r e a b → IsRounded (Run e) a b
  happened-round e a b tells h =
      let x = h.executed in
      let vs : List Transition = x.transitions in
      let S : SystemState → Type 0 = λ s. next s.world (intervals_for r) x.agenda ≡ None in
      record {
        round = Ran vs;
        is = (e, refl, record { agenda = x.agenda; executes = x.goes.executes tells; nothing = subst S (sym x.goes.ends) x.nothing });
        side = stays a.beside.side (traces_of vs) ∙ sym (ap (λ z. z.side) h.same);
        state = x.goes.ends;
        counts = x.counts;
        numbered = x.numbered;
        printed = x.printed;
        by = played_in (state_of a.world) vs;
        played = x.goes.played;
        more = 0;
        shipped = omega (arith, ap (λ z. z.shipped) h.same);
        total = omega arith;
      }

  -- an answer with no step
  answered-round : (o : Order) (note : Note) (a b : Stage d K) → b.world ≡ a.world → turn r.program r.who (world_of a.world) a.beside.side o ≡ Answers note b.beside.side → b.beside.shipped ≡ a.beside.shipped + (had_by b.beside.side - had_by a.beside.side) → IsTold k r o note a b → IsRounded o a b
  answered-round o note a b same is ships t =
      let C : List Trace → Type 0 = λ ts. Counts ts b.tally in
      let w = a.world in
      record {
        round = Told note b.beside.side;
        is = is;
        side = refl;
        state = ap (λ z. state_of z) (sym same);
        counts = λ told c. subst C (sym (append-nil told)) (t.counts told c);
        numbered = omega (arith, t.numbered);
        printed = t.printed;
        by = 0;
        played = ap (λ z. played_of z) same ∙ omega (arith, w.plays);
        more = had_by b.beside.side - had_by a.beside.side;
        shipped = ships;
        total = omega arith;
      }

  taken-round : (played : ℕ) (a b : Stage d K) → Tells a.world → TookOver r.program r.who a.world b.world a.beside played b.beside → IsTold k r TakeOver (notes.Done played) a b → IsRounded TakeOver a b
  taken-round played a b tells over t =
      let C : List Trace → Type 0 = λ ts. Counts ts b.tally in
      let s = over.standby in
      let through : TakesOver r.program (print_of a.world) r.who (contents_to r.who (world_of a.world).packets) s played (state_of a.world) (state_of b.world) = over.takes.told tells in
      let number : length (drop s.have through.records) ≡ played = omega (arith, length-drop s.have through.records, through.steps) in
      let N : ℕ → Turn Side Note = λ n. Leaps (notes.Done n) None in
      let is : turn r.program r.who (world_of a.world) a.beside.side TakeOver ≡ Leaps (notes.Done played) None =
      ap (λ z. turn r.program r.who (world_of a.world) z TakeOver) over.stood ∙ leaps-by r.program r.who (world_of a.world) s through.records through.down ∙ ap N number in
      let L : Side → Type 0 = λ z. leap r.program r.who (print_of a.world) z (state_of a.world) (notes.Done played) (state_of b.world) in
      record {
        round = Leapt (notes.Done played) None (state_of b.world);
        is = (is, subst L (sym over.stood) through);
        side = sym over.gone;
        state = refl;
        counts = λ told c. subst C (sym (append-nil told)) (t.counts told c);
        numbered = omega (arith, t.numbered);
        printed = t.printed;
        by = played;
        played = over.takes.played_is;
        more = 0;
        shipped = omega (arith, over.shipped);
        total = omega arith;
      }

  pub rounded : (o : Order) (a b : Stage d K) → Tells a.world → Carries k r o a b → IsRounded o a b
  rounded (Run e) a b tells c = happened-round e a b tells c
  rounded Ship a b tells c = answered-round Ship c.0 a b c.1.acts.0 c.1.acts.1.turn_is c.1.acts.1.shipped c.1
  rounded TakeOver a b tells c = by c.1.acts
    where
      by : Acts r TakeOver a.world a.beside c.0 b.world b.beside → IsRounded TakeOver a b
      by (inl t) = answered-round TakeOver c.0 a b t.0 t.1.turn_is t.1.shipped c.1
      by (inr t) = taken-round t.0 a b tells t.2 (subst (λ n. IsTold k r TakeOver n a b) t.1 c.1)

  -- all of them
  pub record AreRounded (os : List Order) (a b : Stage d K) : Type 0 where
    pub rounds : List (Round Side Note)
    pub are : AreRounds (failover r.program r.who (print_of a.world)) r.program (print_of a.world) (intervals_for r) a.beside.side (state_of a.world) os rounds
    pub side : side_after (failover r.program r.who (print_of a.world)) a.beside.side rounds ≡ b.beside.side
    pub state : state_after (state_of a.world) rounds ≡ state_of b.world
    pub tells : Tells b.world
    pub print : print_of b.world ≡ print_of a.world
    pub counts : (told : List Trace) → Counts told a.tally → Counts (told ++ traces_of (transitions_of rounds)) b.tally
    pub numbered : b.tally.events ≡ a.tally.events + numbers_of rounds
    pub printed : Puts k (rounds_pieces r (suc a.tally.events) os rounds) a.out b.out
    pub by : ℕ
    pub played : played_of b.world ≡ min (played_of a.world + by) GREATEST
    pub more : ℕ
    pub shipped : b.beside.shipped ≡ a.beside.shipped + more
    pub total : by + more ≡ played_over (failover r.program r.who (print_of a.world)) a.beside.side (state_of a.world) rounds

  none-rounded : (a : Stage d K) → Tells a.world → AreRounded [] a a
  none-rounded a tells =
      let C : List Trace → Type 0 = λ ts. Counts ts a.tally in
      let w = a.world in
      record {
        rounds = [];
        are = tt;
        side = refl;
        state = refl;
        tells = tells;
        print = refl;
        counts = λ told c. subst C (sym (append-nil told)) c;
        numbered = omega arith;
        printed = puts_nothing k a.out;
        by = 0;
        played = omega (arith, w.plays);
        more = 0;
        shipped = omega arith;
        total = refl;
      }

  further-rounded : (o : Order) (os : List Order) (a m b : Stage d K) → IsRounded o a m → print_of m.world ≡ print_of a.world → AreRounded os m b → AreRounded (o ∷ os) a b
  further-rounded o os a m b x same y =
      let ways = failover r.program r.who (print_of a.world) in
      let C : List Trace → Type 0 = λ ts. Counts ts b.tally in
      let F : Side → SystemState → List ℕ → Type 0 = λ s p f. AreRounds (failover r.program r.who f) r.program f (intervals_for r) s p os y.rounds in
      let A : Side → List ℕ → Type 0 = λ s f. side_after (failover r.program r.who f) s y.rounds ≡ b.beside.side in
      let T : Side → SystemState → List ℕ → Type 0 = λ s p f. y.by + y.more ≡ played_over (failover r.program r.who f) s p y.rounds in
      let n : suc a.tally.events + numbers_in x.round ≡ suc m.tally.events = omega (arith, x.numbered) in
      record {
        rounds = x.round ∷ y.rounds;
        are = (x.is, subst (λ s. F s (state_behind (state_of a.world) x.round) (print_of a.world)) (sym x.side) (subst (λ p. F m.beside.side p (print_of a.world)) (sym x.state) (subst (λ f. F m.beside.side (state_of m.world) f) same y.are)));
        side = subst (λ s. A s (print_of a.world)) (sym x.side) (subst (λ f. A m.beside.side f) same y.side);
        state = ap (λ p. state_after p y.rounds) x.state ∙ y.state;
        tells = y.tells;
        print = y.print ∙ same;
        counts = λ told c. subst C (append_assoc told (traces_of (transitions_in x.round)) (traces_of (transitions_of y.rounds)) ∙ ap (λ l. told ++ l) (sym (traces-append (transitions_in x.round) (transitions_of y.rounds)))) (y.counts (told ++ traces_of (transitions_in x.round)) (x.counts told c));
        numbered = omega (arith, x.numbered, y.numbered);
        printed =
            puts_then k (round_pieces r (suc a.tally.events) o x.round) (rounds_pieces r (suc a.tally.events + numbers_in x.round) os y.rounds) a.out m.out b.out x.printed
            (subst (λ i. Puts k (rounds_pieces r i os y.rounds) m.out b.out) (sym n) y.printed);
        by = x.by + y.by;
        played = still-more (played_of a.world) (played_of m.world) (played_of b.world) x.by y.by GREATEST x.played y.played;
        more = x.more + y.more;
        shipped = omega (arith, x.shipped, y.shipped);
        total =
            let t = subst (λ s. T s (state_behind (state_of a.world) x.round) (print_of a.world)) (sym x.side) (subst (λ p. T m.beside.side p (print_of a.world)) (sym x.state) (subst (λ f. T m.beside.side (state_of m.world) f) same y.total)) in
            omega (arith, x.total, t);
      }

  pub all_rounded : (os : List Order) (a b : Stage d K) → Tells a.world → CarriesAll k r os a b → AreRounded os a b
  all_rounded [] a b tells same = subst (λ z. AreRounded [] a z) same (none-rounded a tells)
  all_rounded (o ∷ os) a b tells c =
      let keeps = carries_keep k r o a c.0 c.1 in
      further-rounded o os a c.0 b (rounded o a c.0 tells c.1) keeps.print (all_rounded os c.0 b (tells-on a.world c.0.world keeps tells) c.2)
