-- Each input of a schedule with numbered clients has the two numbers of its request.
use Rattle.std.proofs.Common.{◌≡◌, refl, subst, ℕ, ◌==◌, nat_lt, Bool, true, false, ℤ, pos, negsuc, List, [], ◌∷◌, ◌++◌, length, Option, Some, None, option_map, Result, Ok, Err}
use Rattle.std.specs.Prelude.{⊤, MatchOption, IfOk, IsTrue, if◌then◌else◌, bytes_eq, ok_or, option_and_then}
use Rattle.std.specs.List.{AllByRecursion}
use Rattle.ic_base.specs.declared.limits.TheConstants.{TEXT_BYTES}
use Rattle.ic_base.specs.declared.messages.ComId.{ComId}
use Rattle.ic_base.specs.declared.events.Event.{Event}
use Rattle.ic_base.specs.declared.events.Schedule.{Schedule}
use Rattle.ic_base.specs.declared.events.Stop.{Stop}
use Rattle.ic_base.specs.declared.events.What.{What}
use Rattle.ic_base.specs.declared.events.What.TheVariants as whats
use Rattle.ic_base.specs.declared.refusals.Cause.{Cause}
use Rattle.ic_base.specs.declared.refusals.Cause.TheVariants.{Arity, Structure, Limit}
use Rattle.ic_base.specs.declared.scenario.Component.{Component}
use Rattle.ic_base.specs.declared.scenario.Handler.{Handler}
use Rattle.ic_base.specs.declared.scenario.Program.{Program}
use Rattle.def_syntax.specs.Schedule.{RawEvent, EventLine, InputOf, DeliverOf, LoseOf, PacketOf, ForceOf, CheckpointOf, ResendOf, EmitOf, CrashOf, RecoverOf, Halt, within, stop_of, values_then_stop, at_one, alone, request_of, packet_of, halt_of, Forms, client_forms, entry_of, is_inside, is_pcom, named_from, handler_from, com_of, known, input_with, input_at, event_of, is_halt, token_events, line_events, all_events, schedule_in}
use Rattle.def_syntax.specs.Scenario.{Refusal, at_line}
use Rattle.def_syntax.specs.SyntaxLines.{both, name_in, one_name, name_then}
use Rattle.def_syntax.specs.Text.{◌>>=◌, Token, Number, Name, Fixed_word, Operator, look_up, schedule_tokens_of, lines_of, numbered}
use Rattle.law_syntax.proofs.Entries.{same-ok, then-ok}
use Rattle.law_syntax.proofs.Events.{at-line-ok}
use Rattle.ic_plan.specs.Asking.{SaysSchedule}
use Rattle.ic_plan.specs.Numbering.{HasNumbers, IsNumberedFor}
use Rattle.ic_plan.specs.Verbs.{forms_for}
use Rattle.ic_plan.specs.declared.verb.Inputs.{Inputs}
use Rattle.ic_plan.specs.declared.verb.Inputs.TheVariants.{Plain, Numbered}
use Rattle.def_client.specs.Fronts.{is_numbered}

-- events as they are written ------------------------------------------------------------------------

abbrev RawNumbered : RawEvent → Type 0
RawNumbered (InputOf c handler xs) = IsTrue (is_numbered xs)
RawNumbered _ = ⊤

abbrev EntryNumbered : EventLine → Type 0
EntryNumbered e = RawNumbered e.0

abbrev FormNumbered : (List Token → Option EventLine) → Type 0
FormNumbered form = (ts : List Token) → MatchOption (form ts) ⊤ EntryNumbered

mapped-numbered : {X : Type 0} (f : X → EventLine) → ((x : X) → EntryNumbered (f x)) → (o : Option X) → MatchOption (option_map f o) ⊤ EntryNumbered
mapped-numbered f h None = tt
mapped-numbered f h (Some x) = h x

packet-numbered : FormNumbered packet_of
packet-numbered [] = tt
packet-numbered (t ∷ ts) = at (within 1 _ t) (stop_of ts)
  where
    at : (n : Option ℕ) (o : Option (Option Stop)) → MatchOption (both (λ n s. (PacketOf n, s)) n o) ⊤ EntryNumbered
    at None o = tt
    at (Some n) None = tt
    at (Some n) (Some s) = tt

halt-numbered : FormNumbered halt_of
halt-numbered [] = tt
halt-numbered (t ∷ ts) = tt

-- the numbers stand in front of the values
pair-numbered : (x y : ℤ) (c h : Option (List ℕ)) (o : Option (List ℤ × Option Stop)) →
    MatchOption (option_map (λ (z : List ℕ × (List ℕ × (List ℤ × Option Stop))). (InputOf z.0 z.1.0 z.1.1.0, z.1.1.1)) (both (λ n z. (n, z)) c (both (λ n z. (n, z)) h (option_map (λ (z : List ℤ × Option Stop). (x ∷ z.0, z.1)) (option_map (λ (z : List ℤ × Option Stop). (y ∷ z.0, z.1)) o))))) ⊤ EntryNumbered
pair-numbered x y None h o = tt
pair-numbered x y (Some c) None o = tt
pair-numbered x y (Some c) (Some h) None = tt
pair-numbered x y (Some c) (Some h) (Some z) = refl

request-numbered : FormNumbered request_of
request-numbered [] = tt
request-numbered (u ∷ []) = tt
request-numbered (u ∷ q ∷ []) = tt
request-numbered (u ∷ q ∷ c ∷ []) = tt
request-numbered (Number (pos x) ∷ Number (pos y) ∷ c ∷ h ∷ ts) = pair-numbered (pos x) (pos y) (name_in c) (name_in h) (values_then_stop ts)
request-numbered (Number (pos x) ∷ Number (negsuc y) ∷ c ∷ h ∷ ts) = tt
request-numbered (Number (pos x) ∷ Name w ∷ c ∷ h ∷ ts) = tt
request-numbered (Number (pos x) ∷ Fixed_word w ∷ c ∷ h ∷ ts) = tt
request-numbered (Number (pos x) ∷ Operator w ∷ c ∷ h ∷ ts) = tt
request-numbered (Number (negsuc x) ∷ q ∷ c ∷ h ∷ ts) = tt
request-numbered (Name w ∷ q ∷ c ∷ h ∷ ts) = tt
request-numbered (Fixed_word w ∷ q ∷ c ∷ h ∷ ts) = tt
request-numbered (Operator w ∷ q ∷ c ∷ h ∷ ts) = tt

abbrev AllNumbered : Forms → Type 0
AllNumbered fs = AllByRecursion (λ (e : List ℕ × (List Token → Option EventLine)). FormNumbered e.1) fs

one-numbered : (f : List ℕ → RawEvent) → ((n : List ℕ) → RawNumbered (f n)) → FormNumbered (at_one f)
one-numbered f h ts = mapped-numbered (λ x. (f x.0, x.1)) (λ x. h x.0) (name_then stop_of ts)

alone-numbered : (f : List ℕ → RawEvent) → ((n : List ℕ) → RawNumbered (f n)) → FormNumbered (alone f)
alone-numbered f h ts = mapped-numbered (λ n. (f n, None)) (λ n. h n) (one_name ts)

client-forms : AllNumbered client_forms
client-forms = (
  request-numbered,
  (
    (λ ts. mapped-numbered (λ x. (DeliverOf x.0 x.1.0, x.1.1)) (λ x. tt) (name_then (name_then stop_of) ts)),
    (
      packet-numbered,
      (
        (λ ts. mapped-numbered (λ x. (LoseOf x.0 x.1, None)) (λ x. tt) (name_then one_name ts)),
        (
          one-numbered ForceOf (λ n. tt),
          (
            one-numbered CheckpointOf (λ n. tt),
            (
              alone-numbered ResendOf (λ n. tt),
              (alone-numbered EmitOf (λ n. tt), (alone-numbered CrashOf (λ n. tt), (one-numbered RecoverOf (λ n. tt), (halt-numbered, tt)))),
            ),
          ),
        ),
      ),
    ),
  ),
)

entry-numbered : (fs : Forms) → AllNumbered fs → FormNumbered (entry_of fs)
unfolding entry_of
entry-numbered fs all [] = tt
entry-numbered fs all (t ∷ ts) = named (name_in t)
  where
    found : (word : List ℕ) (es : Forms) → AllNumbered es → MatchOption (look_up word es) ⊤ FormNumbered
    found word [] h = tt
    found word (e ∷ es) h = at (bytes_eq word e.0) (found word es h.1)
      where
        at : (b : Bool) → MatchOption (look_up word es) ⊤ FormNumbered → MatchOption (if b then Some e.1 else look_up word es) ⊤ FormNumbered
        at true more = h.0
        at false more = more

    formed : (o : Option (List Token → Option EventLine)) → MatchOption o ⊤ FormNumbered → MatchOption (option_and_then (λ (form : List Token → Option EventLine). form ts) o) ⊤ EntryNumbered
    formed None h = tt
    formed (Some form) h = h ts

    named : (o : Option (List ℕ)) → MatchOption (option_and_then (λ n. option_and_then (λ (form : List Token → Option EventLine). form ts) (look_up n fs)) o) ⊤ EntryNumbered
    named None = tt
    named (Some n) = formed (look_up n fs) (found n fs all)

-- the events of a line ------------------------------------------------------------------------------

abbrev Numbers : Event → Type 0
Numbers e = HasNumbers e.what

abbrev AreSuch : Result (List Event) Cause → Type 0
AreSuch r = IfOk r (AllByRecursion Numbers)

knows : (s : Option Stop) (o : Option What) → MatchOption o ⊤ HasNumbers → AreSuch (known s o)
knows s None h = tt
knows s (Some what) h = (h, tt)

input-such : (s : Option Stop) (xs : List ℤ) (h : List ℕ) → IsTrue (is_numbered xs) → (o : Option (ℕ × Component)) → AreSuch (input_at s xs h o)
input-such s xs h k None = tt
input-such s xs h k (Some c) = with-handler (handler_from 0 h c.1.handlers)
  where
    counted : (g : ℕ × Handler) (b : Bool) → AreSuch (if b then known s (Some (whats.Input (record { 0 = c.0 }) g.0 xs)) else Err Arity)
    counted g true = (k, tt)
    counted g false = tt

    with-handler : (o : Option (ℕ × Handler)) → AreSuch (input_with s xs c.0 o)
    with-handler None = tt
    with-handler (Some g) = counted g (length xs == g.1.params)

of-com : (s : Option Stop) (f : ComId → What) → ((c : ComId) → HasNumbers (f c)) → (o : Option ComId) → AreSuch (known s (option_map f o))
of-com s f h None = tt
of-com s f h (Some c) = knows s (Some (f c)) (h c)

of-two : (s : Option Stop) (f : ComId → ComId → What) → ((c d : ComId) → HasNumbers (f c d)) → (o q : Option ComId) → AreSuch (known s (both f o q))
of-two s f h None q = tt
of-two s f h (Some c) None = tt
of-two s f h (Some c) (Some d) = knows s (Some (f c d)) (h c d)

event-such : (p : Program) (raw : RawEvent) (s : Option Stop) → RawNumbered raw → AreSuch (event_of p (raw, s))
unfolding event_of
event-such p (InputOf c h xs) s k = input-such s xs h k (named_from 0 is_pcom c p.components)
event-such p (DeliverOf from to) s k = of-two s whats.Deliver (λ c d. tt) (com_of p is_inside from) (com_of p is_inside to)
event-such p (LoseOf from to) s k = of-two s whats.Lose (λ c d. tt) (com_of p is_inside from) (com_of p is_inside to)
event-such p (PacketOf n) s k = knows s (Some (whats.Packet n)) tt
event-such p (ForceOf c) s k = of-com s whats.Force (λ c. tt) (com_of p is_inside c)
event-such p (CheckpointOf c) s k = of-com s whats.Checkpoint (λ c. tt) (com_of p is_inside c)
event-such p (ResendOf c) s k = of-com s whats.Resend (λ c. tt) (com_of p is_inside c)
event-such p (EmitOf c) s k = of-com s whats.Emit (λ c. tt) (com_of p is_inside c)
event-such p (CrashOf c) s k = of-com s whats.Crash (λ c. tt) (com_of p is_inside c)
event-such p (RecoverOf c) s k = of-com s whats.Recover (λ c. tt) (com_of p is_inside c)
event-such p Halt s k = tt

-- of a text -----------------------------------------------------------------------------------------

as-ok : {A E : Type 0} (P : A → Type 0) (r : Result A E) (x : A) → r ≡ Ok x → IfOk r P → P x
as-ok P r x e h = subst (λ z. IfOk z P) e h

abbrev Such : List Event × Bool → Type 0
Such y = AllByRecursion Numbers y.0

tokens-such : (fs : Forms) → AllNumbered fs → (p : Program) (halts : Bool) (ts : List Token) (y : List Event × Bool) → token_events fs p halts ts ≡ Ok y → Such y
tokens-such fs all p halts [] y e = subst Such (same-ok {E = Cause} ([], halts) y e) tt
tokens-such fs all p true (t ∷ ts) y e = absurd (cc e)
tokens-such fs all p false (t ∷ ts) y e = at (entry_of fs (t ∷ ts)) (entry-numbered fs all (t ∷ ts)) e
  where
    at : (o : Option EventLine) → MatchOption o ⊤ EntryNumbered → (ok_or o Structure >>= (λ x. event_of p x >>= (λ events. Ok (events, is_halt x)))) ≡ Ok y → Such y
    at None k f = absurd (cc f)
    at (Some x) k f =
        let z = then-ok (event_of p x) (λ events. Ok (events, is_halt x)) y f in
        subst Such (same-ok {E = Cause} (z.0, is_halt x) y z.2) (as-ok (AllByRecursion Numbers) (event_of p x) z.0 z.1 (event-such p x.0 x.1 k))

line-such : (fs : Forms) → AllNumbered fs → (p : Program) (halts : Bool) (line : List ℕ) (y : List Event × Bool) → line_events fs p halts line ≡ Ok y → Such y
unfolding line_events
line-such fs all p halts line y e = let x = then-ok (schedule_tokens_of line) (token_events fs p halts) y e in tokens-such fs all p halts x.0 y x.2

all-such : (fs : Forms) → AllNumbered fs → (p : Program) (halts : Bool) (ls : List (ℕ × List ℕ)) (y : List Event × Bool) → all_events fs p halts ls ≡ Ok y → Such y
unfolding all_events
all-such fs all p halts [] y e = subst Such (same-ok {E = Refusal} ([], halts) y e) tt
all-such fs all p halts (l ∷ ls) y e =
    let x = then-ok (at_line l.0 (line_events fs p halts l.1)) (λ x. all_events fs p x.1 ls >>= (λ rest. Ok (x.0 ++ rest.0, rest.1))) y e in
    let r = then-ok (all_events fs p x.0.1 ls) (λ rest. Ok (x.0.0 ++ rest.0, rest.1)) y x.2 in
    subst Such (same-ok {E = Refusal} (x.0.0 ++ r.0.0, r.0.1) y r.2)
    (all-append x.0.0 r.0.0 (line-such fs all p halts l.1 x.0 (at-line-ok l.0 (line_events fs p halts l.1) x.0 x.1)) (all-such fs all p x.0.1 ls r.0 r.1))
  where
    all-append : (xs ys : List Event) → AllByRecursion Numbers xs → AllByRecursion Numbers ys → AllByRecursion Numbers (xs ++ ys)
    all-append [] zs a b = b
    all-append (q ∷ qs) zs a b = (a.0, all-append qs zs a.1 b)

text-such : (fs : Forms) → AllNumbered fs → (p : Program) (text : List ℕ) (y : List Event × Bool) → schedule_in fs p text ≡ Ok y → Such y
unfolding schedule_in
text-such fs all p text y e = at (nat_lt TEXT_BYTES (length text)) e
  where
    at : (b : Bool) → (if b then Err (0, Limit) else all_events fs p false (numbered 1 (lines_of text))) ≡ Ok y → Such y
    at true f = absurd (cc f)
    at false f = all-such fs all p false (numbered 1 (lines_of text)) y f

any : (es : List Event) → AllByRecursion (IsNumberedFor Plain) es
any [] = tt
any (e ∷ es) = (tt, any es)

pub each_numbered : (inputs : Inputs) (p : Program) (s : Schedule) (text : List ℕ) → SaysSchedule (forms_for inputs) p s text → AllByRecursion (IsNumberedFor inputs) s.events
each_numbered Plain p s text says = any s.events
each_numbered Numbered p s text says = text-such client_forms client-forms p text (s.events, s.halts) says
