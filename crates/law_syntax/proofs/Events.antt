-- The events of a schedule's text are such of which the laws speak.
use Rattle.std.proofs.Common.{◌≡◌, refl, ◌∙◌, ap, subst, ℕ, suc, ◌+◌, ◌==◌, nat_lt, Bool, true, false, ℤ, List, [], ◌∷◌, ◌++◌, length, slice_get, Option, Some, None, option_map, Result, Ok, Err, arith, ◌⊎◌, inl, inr}
use Rattle.std.specs.Prelude.{⊤, MatchOption, Contains, IsSomeAnd, IfOk, FitsSigned, if◌then◌else◌, bytes_eq, ok_or}
use Rattle.std.specs.List.{AllByRecursion}
use Rattle.std.specs.Int.{w64}
use Rattle.std.proofs.lemmas.Option.{same_Some}
use Rattle.ic_base.specs.declared.limits.TheConstants.{TEXT_BYTES}
use Rattle.ic_base.specs.declared.messages.ComId.{ComId}
use Rattle.ic_base.specs.declared.messages.Kind.{Kind}
use Rattle.ic_base.specs.declared.events.Event.{Event}
use Rattle.ic_base.specs.declared.events.Stop.{Stop}
use Rattle.ic_base.specs.declared.events.What.{What}
use Rattle.ic_base.specs.declared.events.What.TheVariants as whats
use Rattle.ic_base.specs.declared.refusals.Cause.{Cause}
use Rattle.ic_base.specs.declared.refusals.Cause.TheVariants.{Arity, Structure, Limit}
use Rattle.ic_base.specs.declared.scenario.Component.{Component}
use Rattle.ic_base.specs.declared.scenario.Handler.{Handler}
use Rattle.ic_base.specs.declared.scenario.Program.{Program}
use Rattle.ic_base.specs.Programs.{declares, takes_args, has_handler}
use Rattle.def_syntax.specs.Allowed.{Handles, MayHappen}
use Rattle.def_syntax.specs.Schedule
use Rattle.def_syntax.specs.Schedule.{RawEvent, EventLine, InputOf, DeliverOf, LoseOf, PacketOf, ForceOf, CheckpointOf, ResendOf, EmitOf, CrashOf, RecoverOf, Halt, within, fill_of, stop_parts, stop_of, is_word, values_then_stop, at_one, alone, input_of, deliver_of, lose_of, packet_of, halt_of, Forms, forms, client_forms, entry_of, named_from, handler_from, com_of, known, input_with, input_at, event_of, is_halt, token_events, line_events, all_events, schedule_in}
use Rattle.def_syntax.specs.Scenario.{Refusal, at_line}
use Rattle.def_syntax.specs.SyntaxLines.{both}
use Rattle.def_syntax.specs.Text.{◌>>=◌, Token, schedule_tokens_of, lines_of, numbered}
use Rattle.law_replay.proofs.Lists.{none-some, empty, head-or-tail, self-number}
use Rattle.law_syntax.proofs.Entries.{same-ok, then-ok, TokenFits, line-tokens-fit, RawFits, EntryFits, AllFit, all-forms, all-client-forms, entry-fits}
use Rattle.law_syntax.specs.Events.{HasHandler, HasValues, IsCounted, IsEvent, SchedulesHaveEvents, ClientSchedulesHaveEvents, AllowedHaveHandlers}

-- names -------------------------------------------------------------------------------------------

com-is : (i : ℕ) (test : Kind → Bool) (name : List ℕ) (cs : List Component) (j : ℕ) (c : Component) → named_from i test name cs ≡ Some (j, c) → (k : ℕ) × (j ≡ i + k) × (slice_get cs k ≡ Some c)
com-is i test name [] j c e = none-some (j, c) e
com-is i test name (d ∷ ds) j c e = at (bytes_eq name d.name) (test d.kind) e (λ f. com-is (suc i) test name ds j c f)
  where
    here : ◌≡◌ {A = ℕ × Component} (i, d) (j, c) → (k : ℕ) × (j ≡ i + k) × (slice_get (d ∷ ds) k ≡ Some c)
    here f = (0, first i j (ap (λ (x : ℕ × Component). x.0) f), ap (λ (x : ℕ × Component). Some x.1) f)
      where
        first : (a b : ℕ) → a ≡ b → b ≡ a + 0
        first a b g = omega (arith, g)

    next : (k : ℕ) × (j ≡ suc i + k) × (slice_get ds k ≡ Some c) → (k : ℕ) × (j ≡ i + k) × (slice_get (d ∷ ds) k ≡ Some c)
    next x = (suc x.0, more j i x.0 x.1, x.2)
      where
        more : (a b k : ℕ) → a ≡ suc b + k → a ≡ b + suc k
        more a b k g = omega (arith, g)

    at : (b t : Bool) → (if b then (if t then Some (i, d) else None) else named_from (suc i) test name ds) ≡ Some (j, c) → (named_from (suc i) test name ds ≡ Some (j, c) → (k : ℕ) × (j ≡ suc i + k) × (slice_get ds k ≡ Some c)) → (k : ℕ) × (j ≡ i + k) × (slice_get (d ∷ ds) k ≡ Some c)
    at true true f more = here (same_Some (i, d) (j, c) f)
    at true false f more = none-some (j, c) f
    at false t f more = next (more f)

handler-is : (i : ℕ) (name : List ℕ) (hs : List Handler) (j : ℕ) (h : Handler) → handler_from i name hs ≡ Some (j, h) → (k : ℕ) × (j ≡ i + k) × (slice_get hs k ≡ Some h)
handler-is i name [] j h e = none-some (j, h) e
handler-is i name (d ∷ ds) j h e = at (bytes_eq name d.name) e (λ f. handler-is (suc i) name ds j h f)
  where
    here : ◌≡◌ {A = ℕ × Handler} (i, d) (j, h) → (k : ℕ) × (j ≡ i + k) × (slice_get (d ∷ ds) k ≡ Some h)
    here f = (0, first i j (ap (λ (x : ℕ × Handler). x.0) f), ap (λ (x : ℕ × Handler). Some x.1) f)
      where
        first : (a b : ℕ) → a ≡ b → b ≡ a + 0
        first a b g = omega (arith, g)

    next : (k : ℕ) × (j ≡ suc i + k) × (slice_get ds k ≡ Some h) → (k : ℕ) × (j ≡ i + k) × (slice_get (d ∷ ds) k ≡ Some h)
    next x = (suc x.0, more j i x.0 x.1, x.2)
      where
        more : (a b k : ℕ) → a ≡ suc b + k → a ≡ b + suc k
        more a b k g = omega (arith, g)

    at : (b : Bool) → (if b then Some (i, d) else handler_from (suc i) name ds) ≡ Some (j, h) → (handler_from (suc i) name ds ≡ Some (j, h) → (k : ℕ) × (j ≡ suc i + k) × (slice_get ds k ≡ Some h)) → (k : ℕ) × (j ≡ i + k) × (slice_get (d ∷ ds) k ≡ Some h)
    at true f more = here (same_Some (i, d) (j, h) f)
    at false f more = next (more f)

-- what a component's place and a handler's place give
has-it : (program : Program) (c : ComId) (handler : ℕ) (args : List ℤ) (d : Component) (h : Handler) → slice_get program.components c.0 ≡ Some d → slice_get d.handlers handler ≡ Some h → (h.params == length args) ≡ true → has_handler program c handler args ≡ true
has-it program c handler args d h is own same = ap (declares (λ x. takes_args (slice_get x.handlers handler) args)) is ∙ ap (λ o. takes_args o args) own ∙ same

pub allowed_have_handlers : AllowedHaveHandlers
allowed_have_handlers program e allowed = at e.what allowed
  where
    takes : (c : ComId) (handler : ℕ) (args : List ℤ) (d : Component) → slice_get program.components c.0 ≡ Some d → (o : Option Handler) → slice_get d.handlers handler ≡ o → IsSomeAnd o (λ h. h.params ≡ length args) → has_handler program c handler args ≡ true
    takes c handler args d is None own k = absurd k
    takes c handler args d is (Some h) own k = has-it program c handler args d h is own (ap (λ n. n == length args) k ∙ self-number (length args))

    input : (c : ComId) (handler : ℕ) (args : List ℤ) (o : Option Component) → slice_get program.components c.0 ≡ o → IsSomeAnd o (Handles handler (length args)) → has_handler program c handler args ≡ true
    input c handler args None is k = absurd k
    input c handler args (Some d) is k = takes c handler args d is (slice_get d.handlers handler) refl k.1

    at : (what : What) → MayHappen program what → HasHandler program what
    at (whats.Input c handler args) k = input c handler args (slice_get program.components c.0) refl k.holds
    at (whats.Deliver from to) k = tt
    at (whats.Lose from to) k = tt
    at (whats.Packet n) k = tt
    at (whats.Force c) k = tt
    at (whats.Checkpoint c) k = tt
    at (whats.Resend c) k = tt
    at (whats.Emit c) k = tt
    at (whats.Crash c) k = tt
    at (whats.Recover c) k = tt

-- the events of a line ------------------------------------------------------------------------------

abbrev AreSuch : Program → Result (List Event) Cause → Type 0
AreSuch program r = IfOk r (AllByRecursion (IsEvent program))

knows : (program : Program) (s : Option Stop) (o : Option What) → IsCounted s → MatchOption o ⊤ (λ what. HasHandler program what × HasValues what) → AreSuch program (known s o)
knows program s None count k = tt
knows program s (Some what) count k = (record { handler = k.0; values = k.1; stop = count }, tt)

input-such : (program : Program) (s : Option Stop) (xs : List ℤ) (name h : List ℕ) → AllByRecursion (FitsSigned w64) xs → IsCounted s → (o : Option (ℕ × Component)) → named_from 0 Schedule.is_pcom name program.components ≡ o → AreSuch program (input_at s xs h o)
input-such program s xs name h fit count None e = tt
input-such program s xs name h fit count (Some c) e = with-handler (handler_from 0 h c.1.handlers) refl
  where
    own : (k : ℕ) × (c.0 ≡ 0 + k) × (slice_get program.components k ≡ Some c.1)
    own = com-is 0 Schedule.is_pcom name program.components c.0 c.1 e

    such : (g : ℕ × Handler) → handler_from 0 h c.1.handlers ≡ Some g → (b : Bool) → (length xs == g.1.params) ≡ b → AreSuch program (if b then known s (Some (whats.Input (record { 0 = c.0 }) g.0 xs)) else Err Arity)
    such g f true same =
        let z = handler-is 0 h c.1.handlers g.0 g.1 f in
        knows program s (Some (whats.Input (record { 0 = c.0 }) g.0 xs)) count
        (has-it program (record { 0 = c.0 }) g.0 xs c.1 g.1 (ap (slice_get program.components) (zero-more c.0 own.0 own.1) ∙ own.2) (ap (slice_get c.1.handlers) (zero-more g.0 z.0 z.1) ∙ z.2) (turned (length xs) g.1.params same), fit)
      where
        zero-more : (a k : ℕ) → a ≡ 0 + k → a ≡ k
        zero-more a k q = omega (arith, q)

        turned : (a b : ℕ) → (a == b) ≡ true → (b == a) ≡ true
        turned a b q = grind arith
    such g f false same = tt

    with-handler : (o : Option (ℕ × Handler)) → handler_from 0 h c.1.handlers ≡ o → AreSuch program (input_with s xs c.0 o)
    with-handler None f = tt
    with-handler (Some g) f = such g f (length xs == g.1.params) refl

of-com : (program : Program) (s : Option Stop) (f : ComId → What) → ((c : ComId) → HasHandler program (f c) × HasValues (f c)) → (o : Option ComId) → IsCounted s → AreSuch program (known s (option_map f o))
of-com program s f h None count = tt
of-com program s f h (Some c) count = knows program s (Some (f c)) count (h c)

of-two : (program : Program) (s : Option Stop) (f : ComId → ComId → What) → ((c d : ComId) → HasHandler program (f c d) × HasValues (f c d)) → (o q : Option ComId) → IsCounted s → AreSuch program (known s (both f o q))
of-two program s f h None q count = tt
of-two program s f h (Some c) None count = tt
of-two program s f h (Some c) (Some d) count = knows program s (Some (f c d)) count (h c d)

event-such : (program : Program) (raw : RawEvent) (s : Option Stop) → RawFits raw → IsCounted s → AreSuch program (event_of program (raw, s))
unfolding event_of
event-such program (InputOf c h xs) s fit count = input-such program s xs c h fit count (named_from 0 Schedule.is_pcom c program.components) refl
event-such program (DeliverOf from to) s fit count = of-two program s whats.Deliver (λ c d. (tt, tt)) (com_of program Schedule.is_inside from) (com_of program Schedule.is_inside to) count
event-such program (LoseOf from to) s fit count = of-two program s whats.Lose (λ c d. (tt, tt)) (com_of program Schedule.is_inside from) (com_of program Schedule.is_inside to) count
event-such program (PacketOf n) s fit count = knows program s (Some (whats.Packet n)) count (tt, tt)
event-such program (ForceOf c) s fit count = of-com program s whats.Force (λ c. (tt, tt)) (com_of program Schedule.is_inside c) count
event-such program (CheckpointOf c) s fit count = of-com program s whats.Checkpoint (λ c. (tt, tt)) (com_of program Schedule.is_inside c) count
event-such program (ResendOf c) s fit count = of-com program s whats.Resend (λ c. (tt, tt)) (com_of program Schedule.is_inside c) count
event-such program (EmitOf c) s fit count = of-com program s whats.Emit (λ c. (tt, tt)) (com_of program Schedule.is_inside c) count
event-such program (CrashOf c) s fit count = of-com program s whats.Crash (λ c. (tt, tt)) (com_of program Schedule.is_inside c) count
event-such program (RecoverOf c) s fit count = of-com program s whats.Recover (λ c. (tt, tt)) (com_of program Schedule.is_inside c) count
event-such program Halt s fit count = tt

-- of a text -----------------------------------------------------------------------------------------

as-ok : {A E : Type 0} (P : A → Type 0) (r : Result A E) (x : A) → r ≡ Ok x → IfOk r P → P x
as-ok P r x e h = subst (λ z. IfOk z P) e h

tokens-such : (fs : Forms) → AllFit fs → (program : Program) (halts : Bool) (ts : List Token) (y : List Event × Bool) → AllByRecursion TokenFits ts → token_events fs program halts ts ≡ Ok y → AllByRecursion (IsEvent program) y.0
tokens-such fs fit program halts [] y h e = subst (λ (z : List Event × Bool). AllByRecursion (IsEvent program) z.0) (same-ok {E = Cause} ([], halts) y e) tt
tokens-such fs fit program true (t ∷ ts) y h e = absurd (cc e)
tokens-such fs fit program false (t ∷ ts) y h e = at (entry_of fs (t ∷ ts)) (entry-fits fs fit (t ∷ ts) h) e
  where
    at : (o : Option EventLine) → MatchOption o ⊤ EntryFits → (ok_or o Structure >>= (λ x. event_of program x >>= (λ events. Ok (events, is_halt x)))) ≡ Ok y → AllByRecursion (IsEvent program) y.0
    at None k f = absurd (cc f)
    at (Some x) k f =
        let z = then-ok (event_of program x) (λ events. Ok (events, is_halt x)) y f in
        subst (λ (q : List Event × Bool). AllByRecursion (IsEvent program) q.0) (same-ok {E = Cause} (z.0, is_halt x) y z.2) (as-ok (AllByRecursion (IsEvent program)) (event_of program x) z.0 z.1 (event-such program x.0 x.1 k.0 k.1))

line-such : (fs : Forms) → AllFit fs → (program : Program) (halts : Bool) (line : List ℕ) (y : List Event × Bool) → line_events fs program halts line ≡ Ok y → AllByRecursion (IsEvent program) y.0
unfolding line_events
line-such fs fit program halts line y e =
    let x = then-ok (schedule_tokens_of line) (token_events fs program halts) y e in tokens-such fs fit program halts x.0 y (line-tokens-fit [] line x.0 x.1) x.2

pub at-line-ok : {A : Type 0} (n : ℕ) (r : Result A Cause) (x : A) → at_line n r ≡ Ok x → r ≡ Ok x
at-line-ok n (Ok y) x e = ap (λ z. Ok z) (same-ok {E = Refusal} y x e)
at-line-ok n (Err k) x e = absurd (cc e)

all-such : (fs : Forms) → AllFit fs → (program : Program) (halts : Bool) (ls : List (ℕ × List ℕ)) (y : List Event × Bool) → all_events fs program halts ls ≡ Ok y → AllByRecursion (IsEvent program) y.0
unfolding all_events
all-such fs fit program halts [] y e = subst (λ (z : List Event × Bool). AllByRecursion (IsEvent program) z.0) (same-ok {E = Refusal} ([], halts) y e) tt
all-such fs fit program halts (l ∷ ls) y e =
    let x = then-ok (at_line l.0 (line_events fs program halts l.1)) (λ x. all_events fs program x.1 ls >>= (λ rest. Ok (x.0 ++ rest.0, rest.1))) y e in
    let r = then-ok (all_events fs program x.0.1 ls) (λ rest. Ok (x.0.0 ++ rest.0, rest.1)) y x.2 in
    subst (λ (z : List Event × Bool). AllByRecursion (IsEvent program) z.0) (same-ok {E = Refusal} (x.0.0 ++ r.0.0, r.0.1) y r.2)
    (all-append (IsEvent program) x.0.0 r.0.0 (line-such fs fit program halts l.1 x.0 (at-line-ok l.0 (line_events fs program halts l.1) x.0 x.1)) (all-such fs fit program x.0.1 ls r.0 r.1))
  where
    all-append : {A : Type 0} (P : A → Type 0) (xs ys : List A) → AllByRecursion P xs → AllByRecursion P ys → AllByRecursion P (xs ++ ys)
    all-append P [] zs a b = b
    all-append P (q ∷ qs) zs a b = (a.0, all-append P qs zs a.1 b)

each-such : (program : Program) (es : List Event) (e : Event) → AllByRecursion (IsEvent program) es → Contains es e → IsEvent program e
each-such program [] e h c = empty e c
each-such program (d ∷ ds) e h c = at (head-or-tail d e ds c) (each-such program ds e h.1)
  where
    at : (d ≡ e) ⊎ Contains ds e → (Contains ds e → IsEvent program e) → IsEvent program e
    at (inl same) more = subst (IsEvent program) same h.0
    at (inr k) more = more k

have-events : (fs : Forms) → AllFit fs → (program : Program) (text : List ℕ) (events : List Event) (halts : Bool) → schedule_in fs program text ≡ Ok (events, halts) → (e : Event) → Contains events e → IsEvent program e
unfolding schedule_in
have-events fs fit program text events halts e = at (nat_lt TEXT_BYTES (length text)) e
  where
    at : (b : Bool) → (if b then Err (0, Limit) else all_events fs program false (numbered 1 (lines_of text))) ≡ Ok (events, halts) → (e : Event) → Contains events e → IsEvent program e
    at true f = absurd (cc f)
    at false f = λ d k. each-such program events d (all-such fs fit program false (numbered 1 (lines_of text)) (events, halts) f) k

pub schedules_have_events : SchedulesHaveEvents
schedules_have_events = have-events forms all-forms

pub client_schedules_have_events : ClientSchedulesHaveEvents
client_schedules_have_events = have-events client_forms all-client-forms
