-- The inputs of lines that are served are such of which the laws speak.
use Rattle.std.proofs.Common.{◌≡◌, subst, ℕ, ◌==◌, Bool, true, false, ℤ, List, [], ◌∷◌, length, Option, Some, None, Result, Ok, Err}
use Rattle.std.specs.Prelude.{⊤, MatchOption, IfOk, IfSome, FitsSigned, if◌then◌else◌, bytes_eq, ok_or, option_map, codes}
use Rattle.std.specs.List.{AllByRecursion}
use Rattle.std.specs.Int.{w64}
use Rattle.std.proofs.lemmas.Option.{same_Some}
use Rattle.ic_base.specs.declared.events.Event.{Event}
use Rattle.ic_base.specs.declared.messages.ComId.{ComId}
use Rattle.ic_base.specs.declared.events.What.TheVariants as whats
use Rattle.ic_base.specs.declared.refusals.Cause.{Cause}
use Rattle.ic_base.specs.declared.refusals.Cause.TheVariants.{Structure, Unknown, Arity}
use Rattle.ic_base.specs.declared.scenario.Component.{Component}
use Rattle.ic_base.specs.declared.scenario.Handler.{Handler}
use Rattle.ic_base.specs.declared.scenario.Program.{Program}
use Rattle.def_client.specs.Fronts.{Request}
use Rattle.def_serve.specs.Lines as lines
use Rattle.def_serve.specs.Lines.{Line, input_for}
use Rattle.def_serve.specs.Reading.{Form, request_of_events, request_at, line_of, checkpoint_at, gives_line, asks_line, checkpoint_line, values_line, line_with, token_line}
use Rattle.def_syntax.specs.Allowed.{IsAllowed}
use Rattle.def_syntax.specs.Schedule.{EventLine, InputOf, DeliverOf, LoseOf, PacketOf, ForceOf, CheckpointOf, ResendOf, EmitOf, CrashOf, RecoverOf, Halt, input_of, request_of, com_of, is_inside, is_pcom, named_from, handler_from, known, input_with, input_at}
use Rattle.def_syntax.specs.SyntaxLines.{name_in, one_name}
use Rattle.def_syntax.specs.Text.{◌>>=◌, Token, schedule_tokens_of}
use Rattle.law_syntax.proofs.Entries.{same-ok, then-ok, TokenFits, line-tokens-fit, EntryFits, all-forms, all-client-forms}
use Rattle.law_syntax.proofs.Events.{allowed_have_handlers}
use Rattle.law_syntax.specs.Events.{IsEvent}
use Rattle.ic_plan.specs.Served.{request_seen, line_seen, event_in, ReadsAs}
use Rattle.ic_plan.specs.declared.served.ServedLine.{ServedLine}
use Rattle.ic_plan.specs.declared.served.ServedLine.TheVariants.{Asks, Gives, Checkpoints, Values}

-- each value of a line's request has 64 bits with a sign
abbrev RequestFits : Request → Type 0
RequestFits r = AllByRecursion (FitsSigned w64) r.args

abbrev LineFits : Line → Type 0
LineFits (lines.Asks r) = RequestFits r
LineFits (lines.Gives r) = RequestFits r
LineFits (lines.Checkpoints c) = ⊤
LineFits lines.Values = ⊤
LineFits (lines.Refused number cause) = ⊤

abbrev with_request : List Event → Result Request Cause
with_request events = ok_or (request_of_events events) Unknown

input-fits : (args : List ℤ) (h : List ℕ) (o : Option (ℕ × Component)) → AllByRecursion (FitsSigned w64) args → IfOk (input_at None args h o >>= with_request) RequestFits
input-fits args h None k = tt
input-fits args h (Some c) k = with-handler (handler_from 0 h c.1.handlers)
  where
    counted : (g : ℕ × Handler) (b : Bool) → IfOk ((if b then known None (Some (whats.Input (record { 0 = c.0 }) g.0 args)) else Err Arity) >>= with_request) RequestFits
    counted g true = k
    counted g false = tt

    with-handler : (o : Option (ℕ × Handler)) → IfOk (input_with None args c.0 o >>= with_request) RequestFits
    with-handler None = tt
    with-handler (Some g) = counted g (length args == g.1.params)

request-fits : (p : Program) (o : Option EventLine) → MatchOption o ⊤ EntryFits → IfOk (request_at p o) RequestFits
request-fits p None k = tt
request-fits p (Some (InputOf name h args, None)) k = input-fits args h (named_from 0 is_pcom name p.components) k.0
request-fits p (Some (InputOf name h args, Some s)) k = tt
request-fits p (Some (DeliverOf from to, s)) k = tt
request-fits p (Some (LoseOf from to, s)) k = tt
request-fits p (Some (PacketOf n, s)) k = tt
request-fits p (Some (ForceOf c, s)) k = tt
request-fits p (Some (CheckpointOf c, s)) k = tt
request-fits p (Some (ResendOf c, s)) k = tt
request-fits p (Some (EmitOf c, s)) k = tt
request-fits p (Some (CrashOf c, s)) k = tt
request-fits p (Some (RecoverOf c, s)) k = tt
request-fits p (Some (Halt, s)) k = tt

line-fits : (kind : Request → Line) → ((r : Request) → RequestFits r → LineFits (kind r)) → (read : Result Request Cause) → IfOk read RequestFits → IfOk (line_of kind read) LineFits
line-fits kind f (Ok r) k = f r k
line-fits kind f (Err cause) k = tt

checkpoint-fits : (p : Program) (o : Option (List ℕ)) → IfOk (checkpoint_at p o) LineFits
checkpoint-fits p None = tt
checkpoint-fits p (Some name) = at (com_of p is_inside name)
  where
    at : (o : Option ComId) → IfOk (ok_or (option_map lines.Checkpoints o) Unknown) LineFits
    at None = tt
    at (Some c) = tt

values-fit : (p : Program) (ts : List Token) → IfOk (values_line p ts) LineFits
values-fit p [] = tt
values-fit p (t ∷ ts) = tt

word-fits : (p : Program) (word : List ℕ) (ts : List Token) → AllByRecursion TokenFits ts → IfOk (line_with p word ts) LineFits
unfolding line_with
word-fits p word ts h = at (bytes_eq word (codes "input")) (bytes_eq word (codes "client")) (bytes_eq word (codes "checkpoint")) (bytes_eq word (codes "values"))
  where
    at : (a b c d : Bool) → IfOk (ok_or (if a then Some gives_line else (if b then Some asks_line else (if c then Some checkpoint_line else (if d then Some values_line else None)))) Structure >>= (λ (f : Form). f p ts)) LineFits
    at true b c d = line-fits lines.Gives (λ r k. k) (request_at p (input_of ts)) (request-fits p (input_of ts) (all-forms.0 ts h))
    at false true c d = line-fits lines.Asks (λ r k. k) (request_at p (request_of ts)) (request-fits p (request_of ts) (all-client-forms.0 ts h))
    at false false true d = checkpoint-fits p (one_name ts)
    at false false false true = values-fit p ts
    at false false false false = tt

as-ok : {A E : Type 0} (P : A → Type 0) (r : Result A E) (x : A) → r ≡ Ok x → IfOk r P → P x
as-ok P r x e h = subst (λ z. IfOk z P) e h

tokens-fit : (p : Program) (ts : List Token) (l : Line) → AllByRecursion TokenFits ts → token_line p ts ≡ Ok (Some l) → LineFits l
tokens-fit p [] l h e = absurd (cc e)
tokens-fit p (t ∷ ts) l h e =
    let word = then-ok (ok_or (name_in t) Structure) (λ word. line_with p word ts >>= (λ line. Ok (Some line))) (Some l) e in
    let line = then-ok (line_with p word.0 ts) (λ line. Ok (Some line)) (Some l) word.2 in
    subst LineFits (same_Some line.0 l (same-ok {E = Cause} (Some line.0) (Some l) line.2)) (as-ok LineFits (line_with p word.0 ts) line.0 line.1 (word-fits p word.0 ts h.1))

served-event : (p : Program) (l : ServedLine) → LineFits (line_seen l) → IfSome (event_in l) (IsAllowed p) → IfSome (event_in l) (IsEvent p)
served-event p (Asks r) fit k = record { handler = allowed_have_handlers p (input_for (request_seen r)) k; values = fit; stop = tt }
served-event p (Gives r) fit k = record { handler = allowed_have_handlers p (input_for (request_seen r)) k; values = fit; stop = tt }
served-event p (Checkpoints c) fit k = record { handler = tt; values = tt; stop = tt }
served-event p Values fit k = tt

-- the events of what the tokens of a line give
pub served_events : (p : Program) (line : List ℕ) (ts : List Token) (r : Result (Option ServedLine) Cause) → schedule_tokens_of line ≡ Ok ts → ReadsAs (option_map line_seen) (token_line p ts) r
    → IfOk r (λ o. IfSome o (λ l. IfSome (event_in l) (IsAllowed p))) → IfOk r (λ o. IfSome o (λ l. IfSome (event_in l) (IsEvent p)))
served_events p line ts (Ok (Some l)) e read k = served-event p l (tokens-fit p ts (line_seen l) (line-tokens-fit [] line ts e) read) k
served_events p line ts (Ok None) e read k = tt
served_events p line ts (Err cause) e read k = tt
