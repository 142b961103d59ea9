-- What a front sees of the events that are done.
use Rattle.std.proofs.Common.{◌≡◌, ◌∙◌, sym, ap, subst, refl, ℕ, ℤ, suc, ◌<◌, ◌≤◌, Bool, true, false, cond, List, [], ◌∷◌, ◌++◌, Option, Some, None, inl, inr}
use Rattle.std.specs.Prelude.{◌&&◌, fold}
use Rattle.std.specs.List.{cons_option}
use Rattle.std.proofs.lemmas.Option.{same_Some, none-some}
use Rattle.ic_base.specs.declared.events.Event.{Event}
use Rattle.ic_base.specs.declared.events.Stop.{Stop}
use Rattle.ic_base.specs.declared.events.Trace.{Trace}
use Rattle.ic_base.specs.declared.events.What.{What}
use Rattle.ic_base.specs.declared.events.What.TheVariants.{Input, Deliver, Lose, Packet as Numbered, Force, Checkpoint, Resend, Emit, Crash, Recover}
use Rattle.ic_base.specs.declared.messages.ComId.{ComId}
use Rattle.ic_base.specs.declared.report.ReportLevel.{ReportLevel}
use Rattle.ic_base.specs.declared.scenario.Program.{Program}
use Rattle.ic_base.specs.Programs.{same_com}
use Rattle.def_client.specs.Clients.{turn, turn_of, item_of}
use Rattle.def_client.specs.Fronts.{Request, Front, ask, saw, taken_under}
use Rattle.def_client.specs.declared.asked.Asked.{Asked}
use Rattle.def_client.specs.declared.asked.Asked.TheVariants.{New, Pending, Again, Differs}
use Rattle.def_rounds.specs.Rounds.{Happens, Answers}
use Rattle.def_run.specs.CrashFree.{is_received, received_by}
use Rattle.def_run.specs.Executions as executions
use Rattle.def_run.specs.Executions.{Next, next, is_input, agenda_behind}
use Rattle.def_run.specs.SystemStates.{Transition, traces_of}
use Rattle.def_step.specs.Settle.{PolicyIntervals}
use Rattle.def_step.specs.World as definition
use Rattle.law_client.proofs.Fronts.{new-is-none}
use Rattle.law_client.proofs.Once.{received-here}
use Rattle.law_client.proofs.Quiet.{IsQuiet, rest-next, quiet-receives}
use Rattle.law_replay.proofs.Lists.{same-com}
use Rattle.ic_client.specs.Fronts.{FrontState, MaySee}
use Rattle.ic_disk.specs.declared.disk.Disk as disk
use Rattle.ic_disk.specs.declared.sink.Sink as sink
use Rattle.ic_run.proofs.Nexts.{agenda_with}
use Rattle.ic_run.proofs.More.{traces-more}
use Rattle.ic_run.proofs.Runs.{IsUnderWay, run-further, further-is, run-begins, begins-is}
use Rattle.ic_run.specs.Advancing.{AdvancesBy, Advances}
use Rattle.ic_run.specs.Agendas.{agenda_of, IsReady}
use Rattle.ic_run.specs.Running.{CrashLeavesWay}
use Rattle.ic_run.specs.Tallies.{Counts}
use Rattle.ic_run.specs.declared.agenda.Agenda.{Agenda}
use Rattle.ic_run.specs.declared.tally.Tally.{Tally}
use Rattle.ic_disk.specs.TornDisks.{Torn}
use Rattle.ic_disk.specs.Torns.{torn}
use Rattle.ic_report.specs.Outputs.{Puts}
use Rattle.ic_world.specs.Acting.{GREATEST}
use Rattle.ic_world.specs.Allowing.{IsMadeFor}
use Rattle.ic_world.specs.Standing.{ArePlaced}
use Rattle.ic_world.specs.Views.{components_of, world_of, state_of, played_of, is_over}
use Rattle.ic_world.specs.declared.world.World.{World}
use Rattle.ic_clients.specs.Moments.{item_pieces}
use Rattle.ic_clients.specs.Working.{MayFollow, answered_by, Pursued}

-- what is answered, and what comes of it ------------------------------------------------------------

module _ (w : definition.World) (front : Front) where
  pub happens-new : (what : What) (stop : Option Stop) → answered_by what front ≡ New → turn w front (item_of (record { what = what; stop = stop })) ≡ Happens (record { what = what; stop = stop })
  happens-new (Input c h xs) stop is = ap (turn_of front (record { who = c; handler = h; args = xs }) stop) is
  happens-new (Deliver c d) stop is = refl
  happens-new (Lose c d) stop is = refl
  happens-new (Numbered i) stop is = refl
  happens-new (Force c) stop is = refl
  happens-new (Checkpoint c) stop is = refl
  happens-new (Resend c) stop is = refl
  happens-new (Emit c) stop is = refl
  happens-new (Crash c) stop is = refl
  happens-new (Recover c) stop is = refl

  other-turn : (r : Request) (stop : Option Stop) (a : Asked) → (a ≡ New → ⊥) → turn_of front r stop a ≡ Answers a front
  other-turn r stop New other = absurd (other refl)
  other-turn r stop Pending other = refl
  other-turn r stop (Again m args) other = refl
  other-turn r stop Differs other = refl

  pub answers-other : (what : What) (stop : Option Stop) (a : Asked) → a ≡ answered_by what front → (a ≡ New → ⊥) → turn w front (item_of (record { what = what; stop = stop })) ≡ Answers a front
  answers-other (Input c h xs) stop a is other =
      let r : Request = record { who = c; handler = h; args = xs } in
      ap (turn_of front r stop) (sym is) ∙ other-turn r stop a other
  answers-other (Deliver c d) stop a is other = absurd (other is)
  answers-other (Lose c d) stop a is other = absurd (other is)
  answers-other (Numbered i) stop a is other = absurd (other is)
  answers-other (Force c) stop a is other = absurd (other is)
  answers-other (Checkpoint c) stop a is other = absurd (other is)
  answers-other (Resend c) stop a is other = absurd (other is)
  answers-other (Emit c) stop a is other = absurd (other is)
  answers-other (Crash c) stop a is other = absurd (other is)
  answers-other (Recover c) stop a is other = absurd (other is)

-- what may be seen ----------------------------------------------------------------------------------

no-cons : (o : Option (ℕ × List ℤ)) → cons_option o [] ≡ [] → o ≡ None
no-cons None e = refl
no-cons (Some x) e = absurd (cc e)

-- an event that is no input
pub quiet-see : (f : FrontState) (t : Trace) → is_input t.event.what ≡ false → MaySee f t
quiet-see f t quiet c x got = absurd (none-some x (sym (no-cons (received_by c t) (quiet-receives c (t ∷ []) (quiet, tt))) ∙ got))

-- a request that is new there
new-see : (f : FrontState) (r : Request) (t : Trace) → t.event.what ≡ Input r.who r.handler r.args → ask f.taken r ≡ New → 0 < f.spare → MaySee f t
new-see f r t is new spare c x got = (at (same_com c r.who) (is_received t.answer) refl (sym (received-here c t r is) ∙ got), spare)
  where
    none : taken_under f.taken r.who r.args ≡ None
    none = new-is-none (taken_under f.taken r.who r.args) r new

    at : (p q : Bool) → same_com c r.who ≡ p → cond (p && q) (Some (r.handler, r.args)) None ≡ Some x → taken_under f.taken c x.1 ≡ None
    at true true e g =
        let T : ComId → List ℤ → Type 0 = λ d args. taken_under f.taken d args ≡ None in
        subst (λ (y : ℕ × List ℤ). T c y.1) (same_Some (r.handler, r.args) x g) (subst (λ d. T d r.args) (sym (same-com c r.who e)) none)
    at true false e g = absurd (none-some x g)
    at false q e g = absurd (none-some x g)

pub may-see : (f : FrontState) (what : What) (t : Trace) → t.event.what ≡ what → answered_by what f.taken ≡ New → 0 < f.spare → MaySee f t
may-see f (Input c h xs) t is new spare = new-see f (record { who = c; handler = h; args = xs }) t is new spare
may-see f (Deliver c d) t is new spare = quiet-see f t (ap is_input is)
may-see f (Lose c d) t is new spare = quiet-see f t (ap is_input is)
may-see f (Numbered i) t is new spare = quiet-see f t (ap is_input is)
may-see f (Force c) t is new spare = quiet-see f t (ap is_input is)
may-see f (Checkpoint c) t is new spare = quiet-see f t (ap is_input is)
may-see f (Resend c) t is new spare = quiet-see f t (ap is_input is)
may-see f (Emit c) t is new spare = quiet-see f t (ap is_input is)
may-see f (Crash c) t is new spare = quiet-see f t (ap is_input is)
may-see f (Recover c) t is new spare = quiet-see f t (ap is_input is)

-- the event that is next may be seen, and nothing of the schedule is left behind it
pub next-may : (f : FrontState) (w : definition.World) (x : PolicyIntervals) (halts : Bool) (all : List Event) (last : Option ComId) (t : Trace) (left : List Event) → MayFollow f (agenda_with all halts last) → next w x (agenda_with all halts last) ≡ Some (record { event = t.event; left = left }) → MaySee f t × (left ≡ [])
next-may f w x halts all last t left (inl empty) is =
    let quiet = subst IsQuiet (ap (λ l. next w x (agenda_with l halts last)) (sym empty) ∙ is) (rest-next w x halts last) in
    (quiet-see f t quiet.0, quiet.1)
next-may f w x halts all last t left (inr one) is =
    let e : Event = one.0 in
    let only : Some (record { event = e; left = [] }) ≡ Some (record { event = t.event; left = left }) =
    ap (λ o. next w x (agenda_with (e ∷ []) halts o)) (sym one.2) ∙ ap (λ l. next w x (agenda_with l halts last)) (sym one.1) ∙ is in
    let same : ◌≡◌ {A = Next} (record { event = e; left = [] }) (record { event = t.event; left = left }) = same_Some _ _ only in
    (one.3 t (ap (λ (n : Next). n.event) (sym same)), ap (λ (n : Next). n.left) (sym same))

-- the front along the way -----------------------------------------------------------------------------

pub fold-more : (front : Front) (ts : List Trace) (t : Trace) → fold saw front (ts ++ t ∷ []) ≡ saw (fold saw front ts) t
fold-more front [] t = refl
fold-more front (u ∷ us) t = fold-more (saw front u) us t

module _ {D : Type 0} {d : disk.Ghosts D} {K : Type 0} (k : sink.Ghosts K) where
  -- A run on its way, and the front that saw all that was done
  pub record IsSeen (program : Program) (x : PolicyIntervals) (level : ReportLevel) (was : Tally) (a : executions.Agenda) (here : Front) (old new : World D d) (before after : K) (agenda : Agenda) (tally : Tally) (front : FrontState) : Type 0 where
    pub run : IsUnderWay k program x (item_pieces program level) was a old new before after agenda tally
    pub seen : front.taken ≡ fold saw here (traces_of run.transitions)
    pub may : MayFollow front (agenda_of agenda)

  -- the event that is next may be seen by it
  pub seen-next : {program : Program} {x : PolicyIntervals} {level : ReportLevel} {was : Tally} {a : executions.Agenda} {here : Front} {old mid new : World D d} {before after : K} {one two : Agenda} {tally : Tally} {front : FrontState} {t : Trace}
      → IsSeen program x level was a here old mid before after one tally front → AdvancesBy program x one two mid new t → MaySee front t
  seen-next {x = x} {mid = mid} {one = one} {front = front} {t = t} s by = (next-may front (world_of mid) x one.halts one.left.now one.last t by.left s.may by.next).0

  -- behind it no event of the schedule is left
  pub seen-left : {program : Program} {x : PolicyIntervals} {mid new : World D d} {one two : Agenda} {t : Trace} (front behind : FrontState) → MayFollow front (agenda_of one) → AdvancesBy program x one two mid new t → MayFollow behind (agenda_of two)
  seen-left {x = x} {mid = mid} {one = one} {two = two} {t = t} front behind may by =
      inl (ap (λ (a : executions.Agenda). a.left) by.behind ∙ (next-may front (world_of mid) x one.halts one.left.now one.last t by.left may by.next).1)

  module _ (program : Program) (x : PolicyIntervals) (level : ReportLevel) (was : Tally) (a : executions.Agenda) (here : Front) (old mid new : World D d) (before now after : K) (one two : Agenda) (tally : Tally) (front behind : FrontState) (s : IsSeen program x level was a here old mid before now one tally front) (t : Trace) (by : AdvancesBy program x one two mid new t) where
    abbrev pub last : Transition
    last = record { trace = t; state = state_of new }

    pub seen-further : (more : Tally) → CrashLeavesWay program new [] None new → ((ts : List Trace) → Counts ts tally → Counts (ts ++ t ∷ []) more) → more.events ≡ suc tally.events → Puts k (item_pieces program level (suc tally.events) t) now after → behind.taken ≡ saw front.taken t → IsSeen program x level was a here old new before after two more behind
    seen-further more rests counts one-more printed sees =
        let us : List Transition = s.run.transitions in
        record {
          run = run-further k program x (item_pieces program level) was a old mid new before now after one two tally s.run t by more rests counts one-more printed;
          seen =
              sees ∙ ap (λ f. saw f t) s.seen ∙ sym (fold-more here (traces_of us) t) ∙ ap (λ ts. fold saw here ts) (sym (traces-more us last))
              ∙ ap (λ (vs : List Transition). fold saw here (traces_of vs)) (sym (further-is k program x (item_pieces program level) was a old mid new before now after one two tally s.run t by more rests counts one-more printed));
          may = seen-left front behind s.may by;
        }

  -- nothing is left to do
  pub seen-ended : {program : Program} {x : PolicyIntervals} {level : ReportLevel} {was : Tally} {a : executions.Agenda} {here : Front} {old mid : World D d} {before after : K} {agenda : Agenda} {tally : Tally} {front : FrontState} (new : World D d)
      → IsSeen program x level was a here old mid before after agenda tally front → next (world_of mid) x (agenda_of agenda) ≡ None → new ≡ mid → Pursued k program x level was a here front.taken old new before after tally
  seen-ended {program} {x} {level} {was} {a} {here} {old} {mid} {before} {after} {agenda} {tally} {front} new s nothing same =
      let P : World D d → Type 0 = λ w. Pursued k program x level was a here front.taken old w before after tally in
      subst P (sym same) (record {
        executed = record {
          transitions = s.run.transitions;
          agenda = agenda_of agenda;
          goes = s.run.goes;
          nothing = nothing;
          counts = s.run.counts;
          numbered = s.run.numbered;
          printed = s.run.printed;
          outlast = s.run.outlast;
        };
        seen = s.seen;
      })

module _ {D : Type 0} (b : disk.Ghosts D) (only_now : (disk : D) (image : List ℕ) → b.keeps disk → b.left_since disk (b.moment disk) image → b.may_leave disk image) (tells : (disk : D) → b.keeps disk → b.tells disk) {K : Type 0} (k : sink.Ghosts K) where
  pub seen-begins : (program : Program) (x : PolicyIntervals) (level : ReportLevel) (was : Tally) (w : World (Torn D) (torn b)) (out : K) (agenda : Agenda) (front : FrontState)
      → IsMadeFor program (world_of w) → is_over w ≡ false → ArePlaced (components_of w) → played_of w ≤ GREATEST → IsReady program w agenda → MayFollow front (agenda_of agenda) → IsSeen k program x level was (agenda_of agenda) front.taken w w out out agenda was front
  seen-begins program x level was w out agenda front made going placed few ready may = record {
    run = run-begins b only_now tells k program x (item_pieces program level) was w out agenda made going placed few ready;
    seen = ap (λ (vs : List Transition). fold saw front.taken (traces_of vs)) (sym (begins-is b only_now tells k program x (item_pieces program level) was w out agenda made going placed few ready));
    may = may;
  }

-- no event was done
pub stopped : {D : Type 0} {d : disk.Ghosts D} (program : Program) (x : PolicyIntervals) (one two : Agenda) {old new : World D d} (o : Option Trace) → o ≡ None → Advances program x one two old new o → (next (world_of old) x (agenda_of one) ≡ None) × (new ≡ old)
stopped program x one two {old} {new} o is by = let P : Option Trace → Type 0 = λ o. Advances program x one two old new o in subst P is by
