-- Each event of a schedule with a standby is such of which the laws speak.
use Rattle.std.proofs.Common.{◌≡◌, refl, subst, ℕ, ◌==◌, ◌<◌, nat_lt, Bool, true, false, ℤ, List, [], ◌∷◌, ◌++◌, length, map, Option, Some, None, option_map, Result, Ok, Err, arith}
use Rattle.std.specs.Prelude.{⊤, MatchOption, IfOk, FitsSigned, if◌then◌else◌, ok_or, option_and_then}
use Rattle.std.specs.List.{AllByRecursion}
use Rattle.std.specs.Int.{w64}
use Rattle.std.proofs.lemmas.Bool.Decides.{nat_tests}
use Rattle.ic_base.specs.declared.events.Event.{Event}
use Rattle.ic_base.specs.declared.events.Stop.{Stop}
use Rattle.ic_base.specs.declared.events.What.{What}
use Rattle.ic_base.specs.declared.events.What.TheVariants as whats
use Rattle.ic_base.specs.declared.limits.TheConstants.{TEXT_BYTES}
use Rattle.ic_base.specs.declared.messages.ComId.{ComId}
use Rattle.ic_base.specs.declared.refusals.Cause.{Cause}
use Rattle.ic_base.specs.declared.refusals.Cause.TheVariants.{Arity, Structure, Limit}
use Rattle.ic_base.specs.declared.scenario.Component.{Component}
use Rattle.ic_base.specs.declared.scenario.Handler.{Handler}
use Rattle.ic_base.specs.declared.scenario.Program.{Program}
use Rattle.def_standby.specs.Reading.{order_words, order_of, order_alone, as_orders, order_or_event, line_orders, all_orders, orders_of}
use Rattle.def_standby.specs.declared.orders.Order.{Order}
use Rattle.def_standby.specs.declared.orders.Order.TheVariants.{Ship, TakeOver, Run}
use Rattle.def_syntax.specs.Scenario.{Refusal, at_line}
use Rattle.def_syntax.specs.Schedule
use Rattle.def_syntax.specs.Schedule.{RawEvent, EventLine, InputOf, DeliverOf, LoseOf, PacketOf, ForceOf, CheckpointOf, ResendOf, EmitOf, CrashOf, RecoverOf, Halt, forms, entry_of, named_from, handler_from, com_of, known, input_with, input_at, event_of, is_halt, token_events}
use Rattle.def_syntax.specs.SyntaxLines.{both, name_in}
use Rattle.def_syntax.specs.Text.{◌>>=◌, Token, look_up, schedule_tokens_of, lines_of, numbered}
use Rattle.ic_disk.specs.Causes.{IsTooLong}
use Rattle.ic_failover.specs.Asking.{MayBeOrdered}
use Rattle.ic_plan.specs.Asking.{Held, Holds}
use Rattle.ic_plan.specs.Orders.{IsAllowedOrder}
use Rattle.law_syntax.proofs.Entries.{same-ok, then-ok, TokenFits, line-tokens-fit, RawFits, EntryFits, all-forms, entry-fits}
use Rattle.law_syntax.proofs.Events.{allowed_have_handlers, at-line-ok}
use Rattle.law_syntax.specs.Events.{HasValues, IsCounted}

-- its values have 64 bits, and its stop is counted from 1
abbrev IsWritten : Event → Type 0
IsWritten e = HasValues e.what × IsCounted e.stop

abbrev AreWritten : Result (List Event) Cause → Type 0
AreWritten r = IfOk r (AllByRecursion IsWritten)

knows : (s : Option Stop) (o : Option What) → IsCounted s → MatchOption o ⊤ HasValues → AreWritten (known s o)
knows s None count k = tt
knows s (Some what) count k = ((k, count), tt)

input-written : (s : Option Stop) (xs : List ℤ) (h : List ℕ) → AllByRecursion (FitsSigned w64) xs → IsCounted s → (o : Option (ℕ × Component)) → AreWritten (input_at s xs h o)
input-written s xs h fit count None = tt
input-written s xs h fit count (Some c) = with-handler (handler_from 0 h c.1.handlers)
  where
    such : (g : ℕ × Handler) (b : Bool) → AreWritten (if b then known s (Some (whats.Input (record { 0 = c.0 }) g.0 xs)) else Err Arity)
    such g true = knows s (Some (whats.Input (record { 0 = c.0 }) g.0 xs)) count fit
    such g false = tt

    with-handler : (o : Option (ℕ × Handler)) → AreWritten (input_with s xs c.0 o)
    with-handler None = tt
    with-handler (Some g) = such g (length xs == g.1.params)

of-com : (s : Option Stop) (f : ComId → What) → ((c : ComId) → HasValues (f c)) → (o : Option ComId) → IsCounted s → AreWritten (known s (option_map f o))
of-com s f h None count = tt
of-com s f h (Some c) count = knows s (Some (f c)) count (h c)

of-two : (s : Option Stop) (f : ComId → ComId → What) → ((c d : ComId) → HasValues (f c d)) → (o q : Option ComId) → IsCounted s → AreWritten (known s (both f o q))
of-two s f h None q count = tt
of-two s f h (Some c) None count = tt
of-two s f h (Some c) (Some d) count = knows s (Some (f c d)) count (h c d)

event-written : (program : Program) (raw : RawEvent) (s : Option Stop) → RawFits raw → IsCounted s → AreWritten (event_of program (raw, s))
unfolding event_of
event-written program (InputOf c h xs) s fit count = input-written s xs h fit count (named_from 0 Schedule.is_pcom c program.components)
event-written program (DeliverOf from to) s fit count = of-two s whats.Deliver (λ c d. tt) (com_of program Schedule.is_inside from) (com_of program Schedule.is_inside to) count
event-written program (LoseOf from to) s fit count = of-two s whats.Lose (λ c d. tt) (com_of program Schedule.is_inside from) (com_of program Schedule.is_inside to) count
event-written program (PacketOf n) s fit count = knows s (Some (whats.Packet n)) count tt
event-written program (ForceOf c) s fit count = of-com s whats.Force (λ c. tt) (com_of program Schedule.is_inside c) count
event-written program (CheckpointOf c) s fit count = of-com s whats.Checkpoint (λ c. tt) (com_of program Schedule.is_inside c) count
event-written program (ResendOf c) s fit count = of-com s whats.Resend (λ c. tt) (com_of program Schedule.is_inside c) count
event-written program (EmitOf c) s fit count = of-com s whats.Emit (λ c. tt) (com_of program Schedule.is_inside c) count
event-written program (CrashOf c) s fit count = of-com s whats.Crash (λ c. tt) (com_of program Schedule.is_inside c) count
event-written program (RecoverOf c) s fit count = of-com s whats.Recover (λ c. tt) (com_of program Schedule.is_inside c) count
event-written program Halt s fit count = tt

as-ok : {A E : Type 0} (P : A → Type 0) (r : Result A E) (x : A) → r ≡ Ok x → IfOk r P → P x
as-ok P r x e h = subst (λ z. IfOk z P) e h

tokens-written : (program : Program) (halts : Bool) (ts : List Token) (y : List Event × Bool) → AllByRecursion TokenFits ts → token_events forms program halts ts ≡ Ok y → AllByRecursion IsWritten y.0
tokens-written program halts [] y h e = subst (λ (z : List Event × Bool). AllByRecursion IsWritten z.0) (same-ok {E = Cause} ([], halts) y e) tt
tokens-written program true (t ∷ ts) y h e = absurd (cc e)
tokens-written program false (t ∷ ts) y h e = at (entry_of forms (t ∷ ts)) (entry-fits forms all-forms (t ∷ ts) h) e
  where
    at : (o : Option EventLine) → MatchOption o ⊤ EntryFits → (ok_or o Structure >>= (λ x. event_of program x >>= (λ events. Ok (events, is_halt x)))) ≡ Ok y → AllByRecursion IsWritten y.0
    at None k f = absurd (cc f)
    at (Some x) k f =
        let z = then-ok (event_of program x) (λ events. Ok (events, is_halt x)) y f in
        subst (λ (q : List Event × Bool). AllByRecursion IsWritten q.0) (same-ok {E = Cause} (z.0, is_halt x) y z.2) (as-ok (AllByRecursion IsWritten) (event_of program x) z.0 z.1 (event-written program x.0 x.1 k.0 k.1))

-- orders ----------------------------------------------------------------------------------------------

abbrev IsWrittenOrder : Order → Type 0
IsWrittenOrder (Run e) = IsWritten e
IsWrittenOrder o = ⊤

as-events : (es : List Event) → AllByRecursion IsWritten es → AllByRecursion IsWrittenOrder (map Run es)
as-events [] h = tt
as-events (e ∷ es) h = (h.0, as-events es h.1)

-- the orders that have a word are no events
word-order : (word : List ℕ) (o : Order) → look_up word order_words ≡ Some o → IsWrittenOrder o
word-order word o e = grind arith

line-written : (program : Program) (halts : Bool) (line : List ℕ) (y : List Order × Bool) → line_orders program halts line ≡ Ok y → AllByRecursion IsWrittenOrder y.0
unfolding line_orders
line-written program halts line y e =
    let x = then-ok (schedule_tokens_of line) (λ ts. order_or_event (order_of ts) program halts ts) y e in
    at x.0 (order_of x.0) refl (line-tokens-fit [] line x.0 x.1) x.2
  where
    events : (r : Result (List Event × Bool) Cause) → ((z : List Event × Bool) → r ≡ Ok z → AllByRecursion IsWritten z.0) → as_orders r ≡ Ok y → AllByRecursion IsWrittenOrder y.0
    events (Err cause) h f = absurd (cc f)
    events (Ok z) h f = subst (λ (q : List Order × Bool). AllByRecursion IsWrittenOrder q.0) (same-ok {E = Cause} (map Run z.0, z.1) y f) (as-events z.0 (h z refl))

    alone : (o : Order) (ts : List Token) → IsWrittenOrder o → order_alone halts o ts ≡ Ok y → AllByRecursion IsWrittenOrder y.0
    alone o ts h f = by halts ts f
      where
        by : (b : Bool) (us : List Token) → order_alone b o us ≡ Ok y → AllByRecursion IsWrittenOrder y.0
        by false (u ∷ []) g = subst (λ (q : List Order × Bool). AllByRecursion IsWrittenOrder q.0) (same-ok {E = Cause} (o ∷ [], false) y g) (h, tt)
        by false [] g = absurd (cc g)
        by false (u ∷ v ∷ us) g = absurd (cc g)
        by true us g = absurd (cc g)

    named : (ts : List Token) (o : Order) → order_of ts ≡ Some o → IsWrittenOrder o
    named [] o f = absurd (cc f)
    named (t ∷ ts) o f = word (name_in t) f
      where
        word : (n : Option (List ℕ)) → option_and_then (λ w. look_up w order_words) n ≡ Some o → IsWrittenOrder o
        word None g = absurd (cc g)
        word (Some w) g = word-order w o g

    at : (ts : List Token) (o : Option Order) → order_of ts ≡ o → AllByRecursion TokenFits ts → order_or_event o program halts ts ≡ Ok y → AllByRecursion IsWrittenOrder y.0
    at ts None is fit f = events (token_events forms program halts ts) (λ z g. tokens-written program halts ts z fit g) f
    at ts (Some o) is fit f = alone o ts (named ts o is) f

all-append : {A : Type 0} (P : A → Type 0) (xs ys : List A) → AllByRecursion P xs → AllByRecursion P ys → AllByRecursion P (xs ++ ys)
all-append P [] zs a b = b
all-append P (q ∷ qs) zs a b = (a.0, all-append P qs zs a.1 b)

all-written : (program : Program) (halts : Bool) (ls : List (ℕ × List ℕ)) (y : List Order × Bool) → all_orders program halts ls ≡ Ok y → AllByRecursion IsWrittenOrder y.0
unfolding all_orders
all-written program halts [] y e = subst (λ (z : List Order × Bool). AllByRecursion IsWrittenOrder z.0) (same-ok {E = Refusal} ([], halts) y e) tt
all-written program halts (l ∷ ls) y e =
    let x = then-ok (at_line l.0 (line_orders program halts l.1)) (λ x. all_orders program x.1 ls >>= (λ rest. Ok (x.0 ++ rest.0, rest.1))) y e in
    let r = then-ok (all_orders program x.0.1 ls) (λ rest. Ok (x.0.0 ++ rest.0, rest.1)) y x.2 in
    subst (λ (z : List Order × Bool). AllByRecursion IsWrittenOrder z.0) (same-ok {E = Refusal} (x.0.0 ++ r.0.0, r.0.1) y r.2)
    (all-append IsWrittenOrder x.0.0 r.0.0 (line-written program halts l.1 x.0 (at-line-ok l.0 (line_orders program halts l.1) x.0 x.1)) (all-written program x.0.1 ls r.0 r.1))

each-may : (program : Program) (os : List Order) → AllByRecursion (IsAllowedOrder program) os → AllByRecursion IsWrittenOrder os → AllByRecursion (MayBeOrdered program) os
each-may program [] a h = tt
each-may program (Run e ∷ os) a h = (record { allowed = a.0; event = record { handler = allowed_have_handlers program e a.0; values = h.0.0; stop = h.0.1 } }, each-may program os a.1 h.1)
each-may program (Ship ∷ os) a h = (tt, each-may program os a.1 h.1)
each-may program (TakeOver ∷ os) a h = (tt, each-may program os a.1 h.1)

pub orders_may : (program : Program) (text : List ℕ) (orders : List Order) (halts : Bool) → orders_of program text ≡ Ok (orders, halts) → AllByRecursion (IsAllowedOrder program) orders → AllByRecursion (MayBeOrdered program) orders
unfolding orders_of
orders_may program text orders halts e allowed = at (nat_lt TEXT_BYTES (length text)) e
  where
    at : (b : Bool) → (if b then Err (0, Limit) else all_orders program false (numbered 1 (lines_of text))) ≡ Ok (orders, halts) → AllByRecursion (MayBeOrdered program) orders
    at true f = absurd (cc f)
    at false f = each-may program orders allowed (all-written program false (numbered 1 (lines_of text)) (orders, halts) f)

-- a text that is too long
orders-too-long : (p : Program) (text : List ℕ) → TEXT_BYTES < length text → orders_of p text ≡ Err (0, Limit)
unfolding orders_of
orders-too-long p text lt = grind (arith, nat_tests)

pub long_orders : (p : Program) (held : Held) (name : List ℕ) → IsTooLong (held name) TEXT_BYTES → Holds held name (λ text. orders_of p text ≡ Err (0, Limit))
long_orders p held name long = record { text = long.0; there = long.1; says = orders-too-long p long.0 long.2 }
