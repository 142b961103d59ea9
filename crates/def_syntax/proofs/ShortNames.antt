-- The names that a line declares have 32 letters at most.
use Rattle.std.proofs.Common.{◌≡◌, ◌∙◌, sym, ap, refl, subst, arith, ◌<◌, ◌≤◌, ℕ, ℤ, List, [], ◌∷◌, length, Bool, true, false, ◌&&◌, Option, Some, None, option_map, Result, Ok, Err, ok_or, nat_lt, if◌then◌else◌}
use Rattle.std.specs.List.{list_all}
use Rattle.std.proofs.lemmas.Bool.Decides.{nat_tests}
use Rattle.ic_base.specs.declared.scenario.Op.{Op}
use Rattle.ic_base.specs.declared.refusals.Cause.{Cause}
use Rattle.ic_base.specs.declared.refusals.Cause.TheVariants.{NotText, Structure}
use Rattle.def_syntax.specs.Text.{◌>>=◌, Fixed, XcomWord, TcomWord, PcomWord, ImmediateWord, VarWord, KeyWord, OnWord, SetWord, SendWord, OutWord, IfWord, ElseWord, TxnWord, GetWord, PutWord, NeedWord, EndWord, Token, Number, Name, Fixed_word, Operator, or_else, is_name, is_text, words_of, look_up, number_of, operators, fixed_words, token_with, with_token, all_tokens, tokens_of}
use Rattle.def_syntax.specs.SyntaxLines.{SyntaxLine, XcomItem, TcomItem, PcomItem, KeyItem, VarItem, OnItem, IfItem, TxnItem, GetItem, NeedItem, ElseItem, EndItem, name_in, names_of, one_name, name_then, one_number, is_immediate, raw_expr_of, raw_operands_of, nothing_behind, item_with, said, line_item}
use Rattle.def_syntax.specs.Scope.{declares}
use Rattle.def_syntax.specs.Grammar.{NumberedLine, Says, no_line, blank_line, item_line}
use Rattle.def_syntax.proofs.Parts.{both_parts, map_parts}
use Rattle.def_syntax.proofs.Fitting.{AreShort, HaveShort}

abbrev IsShort : Token → Type 0
IsShort (Name n) = length n ≤ 32
IsShort _ = Unit {0}

abbrev AllShort : List Token → Type 0
AllShort [] = Unit {0}
AllShort (t ∷ ts) = IsShort t × AllShort ts

both_true : (a b : Bool) → (a && b) ≡ true → (a ≡ true) × (b ≡ true)
both_true true true e = (refl, refl)
both_true true false e = absurd (cc)
both_true false b e = absurd (cc)

name_short : (w : List ℕ) → is_name w ≡ true → length w ≤ 32
name_short [] e = absurd (cc)
name_short (b ∷ bs) e =
    let x = (both_true _ (nat_lt (length bs) 32) e).1 in
    let y : length bs < 32 = grind (arith, nat_tests) in
    omega (arith, y)

token_short : (word : List ℕ) (a : Option Fixed) (b : Bool) (c : Option ℤ) (d : Option Op) (t : Token) → is_name word ≡ b
    → or_else (option_map Fixed_word a) (or_else (if b then Some (Name word) else None) (or_else (option_map Number c) (option_map Operator d))) ≡ Some t → IsShort t
token_short word (Some w) b c d t n e = let x : Fixed_word w ≡ t = cc in subst IsShort x tt
token_short word None true c d t n e = let x : Name word ≡ t = cc in subst IsShort x (name_short word n)
token_short word None false (Some z) d t n e = let x : Number z ≡ t = cc in subst IsShort x tt
token_short word None false None (Some op) t n e = let x : Operator op ≡ t = cc in subst IsShort x tt
token_short word None false None None t n e = absurd (cc)

pub token_is_short : (words : List (List ℕ × Fixed)) (word : List ℕ) (t : Token) → token_with words word ≡ Some t → IsShort t
unfolding token_with
token_is_short words word t e = token_short word (look_up word words) (is_name word) (number_of word) (look_up word operators) t refl e

with_short : (a : Option Token) (r : Result (List Token) Cause) (ts : List Token) → ((t : Token) → a ≡ Some t → IsShort t) → ((us : List Token) → r ≡ Ok us → AllShort us) → with_token a r ≡ Ok ts → AllShort ts
with_short None r ts f g e = absurd (cc)
with_short (Some t) (Err c) ts f g e = absurd (cc)
with_short (Some t) (Ok us) ts f g e = let x : t ∷ us ≡ ts = cc in subst AllShort x (f t refl, g us refl)

all_short : (words : List (List ℕ × Fixed)) (ws : List (ℕ × List ℕ)) (ts : List Token) → all_tokens words ws ≡ Ok ts → AllShort ts
all_short words [] ts e = let x : [] ≡ ts = cc in subst AllShort x tt
all_short words (w ∷ ws) ts e = with_short (token_with words w.1) (all_tokens words ws) ts (token_is_short words w.1) (all_short words ws) e

tokens_short : (b : Bool) (r : Result (List Token) Cause) (ts : List Token) → ((us : List Token) → r ≡ Ok us → AllShort us) → (if b then r else Err NotText) ≡ Ok ts → AllShort ts
tokens_short true r ts f e = f ts e
tokens_short false r ts f e = absurd (cc)

line_short : (line : List ℕ) (ts : List Token) → tokens_of line ≡ Ok ts → AllShort ts
line_short line ts e = tokens_short (list_all is_text line) (all_tokens fixed_words (words_of line)) ts (all_short fixed_words (words_of line)) e

-- names among short tokens
short_in : (t : Token) (n : List ℕ) → IsShort t → name_in t ≡ Some n → length n ≤ 32
short_in (Name m) n s e = let x : m ≡ n = cc in subst (λ (n : List ℕ). length n ≤ 32) x s
short_in (Number z) n s e = absurd (cc)
short_in (Fixed_word w) n s e = absurd (cc)
short_in (Operator op) n s e = absurd (cc)

short_one : (ts : List Token) (n : List ℕ) → AllShort ts → one_name ts ≡ Some n → length n ≤ 32
short_one [] n s e = absurd (cc)
short_one (t ∷ []) n s e = short_in t n s.0 e
short_one (t ∷ u ∷ ts) n s e = absurd (cc)

short_names : (ts : List Token) (ns : List (List ℕ)) → AllShort ts → names_of ts ≡ Some ns → AreShort ns
short_names [] ns s e = let x : [] ≡ ns = cc in subst AreShort x tt
short_names (t ∷ ts) ns s e =
    let b = both_parts (λ x xs. x ∷ xs) (name_in t) (names_of ts) ns e in
    subst AreShort (sym b.4) (short_in t b.0 s.0 b.2, short_names ts b.1 s.1 b.3)

abbrev ShortFirst : {X : Type 0} → (List Token → Option X) → List ℕ × X → Type 0
ShortFirst rest x = (length x.0 ≤ 32) × ((ts : List Token) × AllShort ts × (rest ts ≡ Some x.1))

short_then : {X : Type 0} (rest : List Token → Option X) (ts : List Token) (x : List ℕ × X) → AllShort ts → name_then rest ts ≡ Some x → ShortFirst rest x
short_then rest [] x s e = absurd (cc)
short_then rest (t ∷ ts) x s e =
    let b = both_parts (λ n x. (n, x)) (name_in t) (rest ts) x e in
    (subst (λ (n : List ℕ). length n ≤ 32) (sym (ap (λ (x : _ × _). x.0) b.4)) (short_in t b.0 s.0 b.2), (ts, s.1, b.3 ∙ ap Some (sym (ap (λ (x : _ × _). x.1) b.4))))

-- an item that declares nothing, or one name
nothing_declared : {X : Type 0} (f : X → SyntaxLine) (o : Option X) (item : SyntaxLine) → ((x : X) → AreShort (declares (f x))) → option_map f o ≡ Some item → AreShort (declares item)
nothing_declared f None item g e = absurd (cc)
nothing_declared f (Some x) item g e = let y : f x ≡ item = cc in subst (λ (i : SyntaxLine). AreShort (declares i)) y (g x)

alone : (i item : SyntaxLine) (ts : List Token) → AreShort (declares i) → nothing_behind i ts ≡ Some item → AreShort (declares item)
alone i item [] s e = let x : i ≡ item = cc in subst (λ (i : SyntaxLine). AreShort (declares i)) x s
alone i item (t ∷ ts) s e = absurd (cc)

declared_short : (w : Fixed) (ts : List Token) (item : SyntaxLine) → AllShort ts → item_with w ts ≡ Some item → AreShort (declares item)
unfolding item_with
declared_short XcomWord ts item s e = let m = map_parts XcomItem (one_name ts) item e in subst (λ (i : SyntaxLine). AreShort (declares i)) (sym m.2) (short_one ts m.0 s m.1, tt)
declared_short TcomWord ts item s e = let m = map_parts TcomItem (one_name ts) item e in subst (λ (i : SyntaxLine). AreShort (declares i)) (sym m.2) (short_one ts m.0 s m.1, tt)
declared_short PcomWord ts item s e =
    let m = map_parts (λ (x : List ℕ × Bool). PcomItem x.0 x.1) (name_then is_immediate ts) item e in
    subst (λ (i : SyntaxLine). AreShort (declares i)) (sym m.2) ((short_then is_immediate ts m.0 s m.1).0, tt)
declared_short ImmediateWord ts item s e = absurd (cc)
declared_short VarWord ts item s e =
    let m = map_parts (λ (x : List ℕ × ℤ). VarItem x.0 x.1) (name_then one_number ts) item e in
    subst (λ (i : SyntaxLine). AreShort (declares i)) (sym m.2) ((short_then one_number ts m.0 s m.1).0, tt)
declared_short KeyWord ts item s e =
    let m = map_parts (λ (x : List ℕ × ℤ). KeyItem x.0 x.1) (name_then one_number ts) item e in
    subst (λ (i : SyntaxLine). AreShort (declares i)) (sym m.2) ((short_then one_number ts m.0 s m.1).0, tt)
declared_short OnWord ts item s e =
    let m = map_parts (λ (x : List ℕ × List (List ℕ)). OnItem x.0 x.1) (name_then names_of ts) item e in
    let k = short_then names_of ts m.0 s m.1 in
    subst (λ (i : SyntaxLine). AreShort (declares i)) (sym m.2) (k.0, short_names k.1.0 m.0.1 k.1.1 k.1.2)
declared_short SetWord ts item s e = nothing_declared _ (name_then raw_expr_of ts) item (λ x. tt) e
declared_short SendWord ts item s e = nothing_declared _ (name_then (name_then raw_operands_of) ts) item (λ x. tt) e
declared_short OutWord ts item s e = nothing_declared _ (name_then raw_operands_of ts) item (λ x. tt) e
declared_short IfWord ts item s e = nothing_declared IfItem (raw_expr_of ts) item (λ x. tt) e
declared_short ElseWord ts item s e = alone ElseItem item ts tt e
declared_short TxnWord ts item s e = nothing_declared TxnItem (one_name ts) item (λ x. tt) e
declared_short GetWord ts item s e =
    let m = map_parts (λ (x : List ℕ × List ℕ). GetItem x.0 x.1) (name_then one_name ts) item e in
    subst (λ (i : SyntaxLine). AreShort (declares i)) (sym m.2) ((short_then one_name ts m.0 s m.1).0, tt)
declared_short PutWord ts item s e = nothing_declared _ (name_then raw_expr_of ts) item (λ x. tt) e
declared_short NeedWord ts item s e = nothing_declared NeedItem (raw_expr_of ts) item (λ x. tt) e
declared_short EndWord ts item s e = alone EndItem item ts tt e

with_item : (o : Option SyntaxLine) (item : SyntaxLine) → ((i : SyntaxLine) → o ≡ Some i → AreShort (declares i)) → (ok_or o Structure >>= (λ (i : SyntaxLine). Ok (Some i))) ≡ Ok (Some item) → AreShort (declares item)
with_item None item f e = absurd (cc)
with_item (Some i) item f e = let x : i ≡ item = cc in subst (λ (i : SyntaxLine). AreShort (declares i)) x (f i refl)

said_short : (ts : List Token) (item : SyntaxLine) → AllShort ts → said ts ≡ Ok (Some item) → AreShort (declares item)
said_short [] item s e = absurd (cc)
said_short (Fixed_word w ∷ ts) item s e = with_item (item_with w ts) item (λ i k. declared_short w ts i s.1 k) e
said_short (Number z ∷ ts) item s e = absurd (cc)
said_short (Name n ∷ ts) item s e = absurd (cc)
said_short (Operator op ∷ ts) item s e = absurd (cc)

tokens_said : (r : Result (List Token) Cause) (item : SyntaxLine) → ((ts : List Token) → r ≡ Ok ts → AllShort ts) → (r >>= said) ≡ Ok (Some item) → AreShort (declares item)
tokens_said (Err c) item f e = absurd (cc)
tokens_said (Ok ts) item f e = said_short ts item (f ts refl) e

pub item_short : (line : List ℕ) (item : SyntaxLine) → line_item line ≡ Ok (Some item) → AreShort (declares item)
unfolding line_item
item_short line item e = tokens_said (tokens_of line) item (line_short line) e

pub says_short : {n : ℕ} {lines : List (List ℕ)} {is : List NumberedLine} → Says n lines is → HaveShort is
says_short no_line = tt
says_short (blank_line e s) = says_short s
says_short (item_line {l = l} {i = i} e s) = (item_short l i e, says_short s)
