-- What the lines of a schedule are made of: numbers have 64 bits, and the device calls of a stop are counted from 1.
use Rattle.std.proofs.Common.{◌≡◌, refl, subst, ℕ, zero, suc, ◌<◌, ◌≤◌, ◌==◌, nat_le, Bool, true, false, cond, ◌&&◌, ℤ, pos, negsuc, List, [], ◌∷◌, Option, Some, None, option_map, option_and_then, Result, Ok, Err, arith}
use Rattle.std.specs.Prelude.{⊤, MatchOption, FitsSigned, if◌then◌else◌, codes, neg_ℤ, bytes_eq}
use Rattle.std.specs.List.{AllByRecursion, list_all}
use Rattle.std.specs.Int.{w64}
use Rattle.std.proofs.lemmas.Option.{same_Some}
use Rattle.ic_base.specs.declared.events.Fill.TheVariants.{Old}
use Rattle.ic_base.specs.declared.events.Stop.{Stop}
use Rattle.ic_base.specs.declared.refusals.Cause.{Cause}
use Rattle.ic_base.specs.declared.refusals.Cause.TheVariants.{NotText}
use Rattle.def_syntax.specs.Schedule
use Rattle.def_syntax.specs.Schedule.{RawEvent, EventLine, InputOf, DeliverOf, LoseOf, PacketOf, ForceOf, CheckpointOf, ResendOf, EmitOf, CrashOf, RecoverOf, Halt, within, fill_of, stop_parts, stop_of, is_word, values_then_stop, at_one, alone, input_of, deliver_of, lose_of, packet_of, halt_of, is_count, request_of, Forms, forms_but_inputs, forms, client_forms, entry_of, named_from, handler_from, com_of, known, input_with, input_at, event_of, is_halt, token_events, line_events, all_events}
use Rattle.def_syntax.specs.SyntaxLines.{both, name_in, one_name, name_then}
use Rattle.def_syntax.specs.Text.{◌>>=◌, Token, Number, Name, Fixed_word, Operator, Fixed, look_up, natural, at_most, number_of, or_else, token_with, with_token, all_tokens, tokens_with, is_name, words_of, operators, is_text}
use Rattle.law_replay.proofs.Lists.{none-some, mapped}
use Rattle.law_syntax.specs.Events.{IsCounted}

-- options and results -----------------------------------------------------------------------------

pub both-some : {X Y Z : Type 0} (f : X → Y → Z) (x : Option X) (y : Option Y) (z : Z) → both f x y ≡ Some z → (a : X) × (b : Y) × (x ≡ Some a) × (y ≡ Some b) × (f a b ≡ z)
both-some f (Some x) (Some y) z e = (x, y, refl, refl, same_Some (f x y) z e)
both-some f (Some x) None z e = none-some z e
both-some f None y z e = none-some z e

pub then-some : {A B : Type 0} (o : Option A) (f : A → Option B) (y : B) → option_and_then f o ≡ Some y → (x : A) × (o ≡ Some x) × (f x ≡ Some y)
then-some None f y e = none-some y e
then-some (Some x) f y e = (x, refl, e)

pub same-ok : {A E : Type 0} (x y : A) → ◌≡◌ {A = Result A E} (Ok x) (Ok y) → x ≡ y
same-ok x y e = cc e

pub then-ok : {A B E : Type 0} (r : Result A E) (f : A → Result B E) (y : B) → (r >>= f) ≡ Ok y → (x : A) × (r ≡ Ok x) × (f x ≡ Ok y)
then-ok (Ok x) f y e = (x, refl, e)
then-ok (Err k) f y e = absurd (cc e)

-- numbers -----------------------------------------------------------------------------------------

at-most-is : (limit : ℕ) (o : Option ℕ) (n : ℕ) → at_most limit o ≡ Some n → n ≤ limit
at-most-is limit None n e = none-some n e
at-most-is limit (Some m) n e = at (nat_le m limit) refl e
  where
    at : (b : Bool) → nat_le m limit ≡ b → cond b (Some m) None ≡ Some n → n ≤ limit
    at true is f = subst (λ k. k ≤ limit) (same_Some m n f) (grind arith)
    at false is f = none-some n f

negative-fits : (n : ℕ) → n ≤ 9223372036854775808 → FitsSigned w64 (neg_ℤ (pos n))
negative-fits zero h = record { sfits = omega arith }
negative-fits (suc n) h = record { sfits = omega (arith, h) }

number-fits : (word : List ℕ) (z : ℤ) → number_of word ≡ Some z → FitsSigned w64 z
number-fits [] z e = none-some z e
number-fits (b ∷ bs) z e = at (b == 45) e
  where
    at : (m : Bool) → cond m (option_map (λ n. neg_ℤ (pos n)) (at_most 9223372036854775808 (natural bs))) (option_map pos (at_most 9223372036854775807 (natural (b ∷ bs)))) ≡ Some z → FitsSigned w64 z
    at true f = let x = mapped (λ n. neg_ℤ (pos n)) (at_most 9223372036854775808 (natural bs)) z f in subst (FitsSigned w64) x.2 (negative-fits x.0 (at-most-is 9223372036854775808 (natural bs) x.0 x.1))
    at false f =
        let x = mapped pos (at_most 9223372036854775807 (natural (b ∷ bs))) z f in
        let le = at-most-is 9223372036854775807 (natural (b ∷ bs)) x.0 x.1 in subst (FitsSigned w64) x.2 (record { sfits = omega (arith, le) })

-- tokens ------------------------------------------------------------------------------------------

abbrev pub TokenFits : Token → Type 0
TokenFits (Number z) = FitsSigned w64 z
TokenFits (Name n) = ⊤
TokenFits (Fixed_word f) = ⊤
TokenFits (Operator op) = ⊤

pub or-fits : {X : Type 0} (P : X → Type 0) (a b : Option X) → MatchOption a ⊤ P → MatchOption b ⊤ P → MatchOption (or_else a b) ⊤ P
or-fits P None b x y = y
or-fits P (Some t) b x y = x

token-fits : (words : List (List ℕ × Fixed)) (word : List ℕ) → MatchOption (token_with words word) ⊤ TokenFits
unfolding token_with
token-fits words word =
    or-fits TokenFits (option_map Fixed_word (look_up word words)) _ (fixed (look_up word words))
    (or-fits TokenFits (if is_name word then Some (Name word) else None) _ (name (is_name word))
    (or-fits TokenFits (option_map Number (number_of word)) (option_map Operator (look_up word operators)) (number (number_of word) refl) (operator (look_up word operators))))
  where
    fixed : (o : Option Fixed) → MatchOption (option_map Fixed_word o) ⊤ TokenFits
    fixed None = tt
    fixed (Some f) = tt

    name : (b : Bool) → MatchOption (if b then Some (Name word) else None) ⊤ TokenFits
    name true = tt
    name false = tt

    number : (o : Option ℤ) → number_of word ≡ o → MatchOption (option_map Number o) ⊤ TokenFits
    number None e = tt
    number (Some z) e = number-fits word z e

    operator : (o : Option _) → MatchOption (option_map Operator o) ⊤ TokenFits
    operator None = tt
    operator (Some op) = tt

pub tokens-fit : (words : List (List ℕ × Fixed)) (ws : List (ℕ × List ℕ)) (ts : List Token) → all_tokens words ws ≡ Ok ts → AllByRecursion TokenFits ts
tokens-fit words [] ts e = subst (AllByRecursion TokenFits) (same-ok {E = Cause} [] ts e) tt
tokens-fit words (w ∷ ws) ts e = at (token_with words w.1) (token-fits words w.1) (all_tokens words ws) refl e (λ us f. tokens-fit words ws us f)
  where
    at : (o : Option Token) → MatchOption o ⊤ TokenFits → (r : Result (List Token) Cause) → all_tokens words ws ≡ r → with_token o r ≡ Ok ts → ((us : List Token) → all_tokens words ws ≡ Ok us → AllByRecursion TokenFits us) → AllByRecursion TokenFits ts
    at None h r is f more = absurd (cc f)
    at (Some t) h (Ok us) is f more = subst (AllByRecursion TokenFits) (same-ok {E = Cause} (t ∷ us) ts f) (h, more us is)
    at (Some t) h (Err cause) is f more = absurd (cc f)

pub line-tokens-fit : (words : List (List ℕ × Fixed)) (line : List ℕ) (ts : List Token) → tokens_with words line ≡ Ok ts → AllByRecursion TokenFits ts
line-tokens-fit words line ts e = at (list_all is_text line) e
  where
    at : (b : Bool) → (if b then all_tokens words (words_of line) else Err NotText) ≡ Ok ts → AllByRecursion TokenFits ts
    at true f = tokens-fit words (words_of line) ts f
    at false f = absurd (cc f)

-- stops -------------------------------------------------------------------------------------------

within-is : (low high : ℕ) (t : Token) (n : ℕ) → within low high t ≡ Some n → low ≤ n
within-is low high (Number (pos m)) n e = at (nat_le low m) (nat_le m high) refl e
  where
    at : (a b : Bool) → nat_le low m ≡ a → (if a && b then Some m else None) ≡ Some n → low ≤ n
    at true true is f = subst (λ k. low ≤ k) (same_Some m n f) (grind arith)
    at true false is f = none-some n f
    at false b is f = none-some n f
within-is low high (Number (negsuc m)) n e = none-some n e
within-is low high (Name w) n e = none-some n e
within-is low high (Fixed_word w) n e = none-some n e
within-is low high (Operator op) n e = none-some n e

parts-count : (ts : List Token) (s : Stop) → stop_parts ts ≡ Some s → 0 < s.call
parts-count [] s e = none-some s e
parts-count (call ∷ []) s e = let x = mapped (λ c. Schedule.stop c 0 Old) (within 1 16 call) s e in subst (λ (z : Stop). 0 < z.call) x.2 (within-is 1 16 call x.0 x.1)
parts-count (call ∷ keep ∷ []) s e =
    let x = both-some (λ c k. Schedule.stop c k Old) (within 1 16 call) (within 0 4294967295 keep) s e in subst (λ (z : Stop). 0 < z.call) x.4 (within-is 1 16 call x.0 x.2)
parts-count (call ∷ keep ∷ fill ∷ []) s e =
    let x = both-some (λ c (z : Stop). record z { call = c }) (within 1 16 call) (both (λ k f. Schedule.stop 1 k f) (within 0 4294967295 keep) (fill_of fill)) s e in
    subst (λ (z : Stop). 0 < z.call) x.4 (within-is 1 16 call x.0 x.2)
parts-count (call ∷ keep ∷ fill ∷ t ∷ ts) s e = none-some s e

stops-count : (ts : List Token) → MatchOption (stop_of ts) ⊤ IsCounted
stops-count [] = tt
stops-count (t ∷ ts) = at (is_word (codes "stop") t)
  where
    some : (o : Option Stop) → stop_parts ts ≡ o → MatchOption (option_map Some o) ⊤ IsCounted
    some None e = tt
    some (Some s) e = parts-count ts s e

    at : (b : Bool) → MatchOption (if b then option_map Some (stop_parts ts) else None) ⊤ IsCounted
    at true = some (stop_parts ts) refl
    at false = tt

-- events as they are written ------------------------------------------------------------------------

abbrev pub RawFits : RawEvent → Type 0
RawFits (InputOf c handler xs) = AllByRecursion (FitsSigned w64) xs
RawFits _ = ⊤

abbrev pub EntryFits : EventLine → Type 0
EntryFits e = RawFits e.0 × IsCounted e.1

pub map-fits : {A B : Type 0} (P : A → Type 0) (Q : B → Type 0) (f : A → B) (o : Option A) → ((x : A) → P x → Q (f x)) → MatchOption o ⊤ P → MatchOption (option_map f o) ⊤ Q
map-fits P Q f None h x = tt
map-fits P Q f (Some y) h x = h y x

-- what a form of a line gives
abbrev pub FormFits : {X : Type 0} → (X → Type 0) → (List Token → Option X) → Type 0
FormFits P form = (ts : List Token) → AllByRecursion TokenFits ts → MatchOption (form ts) ⊤ P

abbrev pub Behind : {X : Type 0} → (X → Type 0) → List ℕ × X → Type 0
Behind P x = P x.1

pub named-fits : {X : Type 0} (P : X → Type 0) (rest : List Token → Option X) → FormFits P rest → FormFits (Behind P) (name_then rest)
named-fits P rest h [] x = tt
named-fits P rest h (t ∷ ts) x = at (name_in t) (rest ts) (h ts x.1)
  where
    at : (n : Option (List ℕ)) (o : Option _) → MatchOption o ⊤ P → MatchOption (both (λ a b. (a, b)) n o) ⊤ (Behind P)
    at None o k = tt
    at (Some n) None k = tt
    at (Some n) (Some y) k = k

stop-form : FormFits IsCounted stop_of
stop-form ts h = stops-count ts

-- values, and a stop
abbrev ValuesStop : List ℤ × Option Stop → Type 0
ValuesStop x = AllByRecursion (FitsSigned w64) x.0 × IsCounted x.1

values-form : FormFits ValuesStop values_then_stop
values-form [] h = (tt, tt)
values-form (Number z ∷ ts) h = map-fits ValuesStop ValuesStop (λ x. (z ∷ x.0, x.1)) (values_then_stop ts) (λ x k. ((h.0, k.0), k.1)) (values-form ts h.1)
values-form (Name n ∷ ts) h = map-fits IsCounted ValuesStop (λ s. ([], s)) (stop_of (Name n ∷ ts)) (λ s k. (tt, k)) (stops-count (Name n ∷ ts))
values-form (Fixed_word n ∷ ts) h = map-fits IsCounted ValuesStop (λ s. ([], s)) (stop_of (Fixed_word n ∷ ts)) (λ s k. (tt, k)) (stops-count (Fixed_word n ∷ ts))
values-form (Operator n ∷ ts) h = map-fits IsCounted ValuesStop (λ s. ([], s)) (stop_of (Operator n ∷ ts)) (λ s k. (tt, k)) (stops-count (Operator n ∷ ts))

input-form : FormFits EntryFits input_of
input-form ts h = map-fits (Behind (Behind ValuesStop)) EntryFits (λ x. (InputOf x.0 x.1.0 x.1.1.0, x.1.1.1)) (name_then (name_then values_then_stop) ts) (λ x k. k)
    (named-fits (Behind ValuesStop) (name_then values_then_stop) (named-fits ValuesStop values_then_stop values-form) ts h)

deliver-form : FormFits EntryFits deliver_of
deliver-form ts h = map-fits (Behind (Behind IsCounted)) EntryFits (λ x. (DeliverOf x.0 x.1.0, x.1.1)) (name_then (name_then stop_of) ts) (λ x k. (tt, k)) (named-fits (Behind IsCounted) (name_then stop_of) (named-fits IsCounted stop_of stop-form) ts h)

lose-form : FormFits EntryFits lose_of
lose-form ts h = at (name_then one_name ts)
  where
    at : (o : Option (List ℕ × List ℕ)) → MatchOption (option_map (λ x. (LoseOf x.0 x.1, None)) o) ⊤ EntryFits
    at None = tt
    at (Some x) = (tt, tt)

packet-form : FormFits EntryFits packet_of
packet-form [] h = tt
packet-form (t ∷ ts) h = at (within 1 _ t) (stop_of ts) (stops-count ts)
  where
    at : (n : Option ℕ) (o : Option (Option Stop)) → MatchOption o ⊤ IsCounted → MatchOption (both (λ n s. (PacketOf n, s)) n o) ⊤ EntryFits
    at None o k = tt
    at (Some n) None k = tt
    at (Some n) (Some s) k = (tt, k)

one-form : (f : List ℕ → RawEvent) → ((n : List ℕ) → RawFits (f n)) → FormFits EntryFits (at_one f)
one-form f g ts h = map-fits (Behind IsCounted) EntryFits (λ x. (f x.0, x.1)) (name_then stop_of ts) (λ x k. (g x.0, k)) (named-fits IsCounted stop_of stop-form ts h)

alone-form : (f : List ℕ → RawEvent) → ((n : List ℕ) → RawFits (f n)) → FormFits EntryFits (alone f)
alone-form f g ts h = at (one_name ts)
  where
    at : (o : Option (List ℕ)) → MatchOption (option_map (λ n. (f n, None)) o) ⊤ EntryFits
    at None = tt
    at (Some n) = (g n, tt)

halt-form : FormFits EntryFits halt_of
halt-form [] h = (tt, tt)
halt-form (t ∷ ts) h = tt

found-fits : {X : Type 0} (P : X → Type 0) (word : List ℕ) (es : List (List ℕ × X)) → AllByRecursion (λ e. P e.1) es → MatchOption (look_up word es) ⊤ P
found-fits P word [] h = tt
found-fits P word (e ∷ es) h = at (bytes_eq word e.0) (found-fits P word es h.1)
  where
    at : (b : Bool) → MatchOption (look_up word es) ⊤ P → MatchOption (if b then Some e.1 else look_up word es) ⊤ P
    at true more = h.0
    at false more = more

request-form : FormFits EntryFits request_of
request-form [] k = tt
request-form (u ∷ []) k = tt
request-form (u ∷ q ∷ []) k = tt
request-form (u ∷ q ∷ c ∷ []) k = tt
request-form (u ∷ q ∷ c ∷ h ∷ ts) k = at (is_count u && is_count q)
  where
    at : (b : Bool) → MatchOption (if b then input_of (c ∷ h ∷ u ∷ q ∷ ts) else None) ⊤ EntryFits
    at true = input-form (c ∷ h ∷ u ∷ q ∷ ts) (k.1.1.0, (k.1.1.1.0, (k.0, (k.1.0, k.1.1.1.1))))
    at false = tt

-- what each form of a line gives
abbrev pub AllFit : Forms → Type 0
AllFit fs = AllByRecursion (λ (e : List ℕ × (List Token → Option EventLine)). FormFits EntryFits e.1) fs

forms-but-inputs : AllFit forms_but_inputs
forms-but-inputs = (deliver-form, (packet-form, (lose-form, (one-form ForceOf (λ n. tt), (one-form CheckpointOf (λ n. tt), (alone-form ResendOf (λ n. tt), (alone-form EmitOf (λ n. tt), (alone-form CrashOf (λ n. tt), (one-form RecoverOf (λ n. tt), (halt-form, tt))))))))))

pub all-forms : AllFit forms
all-forms = (input-form, forms-but-inputs)

pub all-client-forms : AllFit client_forms
all-client-forms = (request-form, forms-but-inputs)

pub entry-fits : (fs : Forms) → AllFit fs → FormFits EntryFits (entry_of fs)
unfolding entry_of
entry-fits fs fit [] h = tt
entry-fits fs fit (t ∷ ts) h = at (name_in t)
  where
    by : (o : Option (List Token → Option EventLine)) → MatchOption o ⊤ (FormFits EntryFits) → MatchOption (option_and_then (λ (form : List Token → Option EventLine). form ts) o) ⊤ EntryFits
    by None k = tt
    by (Some form) k = k ts h.1

    at : (n : Option (List ℕ)) → MatchOption (option_and_then (λ n. option_and_then (λ (form : List Token → Option EventLine). form ts) (look_up n fs)) n) ⊤ EntryFits
    at None = tt
    at (Some n) = by (look_up n fs) (found-fits (FormFits EntryFits) n fs fit)
