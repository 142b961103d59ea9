-- The numbers that a text says as a scenario have their bytes.
use Rattle.std.proofs.Common.{◌≡◌, refl, subst, ℕ, suc, ◌+◌, ◌<◌, ◌≤◌, ◌^◌, ◌==◌, nat_lt, Bool, true, false, ◌&&◌, ℤ, pos, negsuc, List, [], ◌∷◌, ◌++◌, length, reverse, Option, Some, None, option_map, Result, Ok, Err, arith}
use Rattle.std.specs.Prelude.{⊤, MatchOption, ok_or, if◌then◌else◌}
use Rattle.std.specs.List.{AllByRecursion, list_all}
use Rattle.ic_base.specs.declared.limits.TheConstants.{TEXT_BYTES}
use Rattle.ic_base.specs.declared.refusals.Cause.{Cause}
use Rattle.ic_base.specs.declared.refusals.Cause.TheVariants.{Structure, Limit, Arity}
use Rattle.ic_base.specs.declared.scenario.Expr.{Expr}
use Rattle.ic_base.specs.declared.scenario.Expr.TheVariants.{One, Two}
use Rattle.ic_base.specs.declared.scenario.Operand.{Operand}
use Rattle.ic_base.specs.declared.scenario.Operand.TheVariants as operands
use Rattle.ic_base.specs.declared.scenario.Program.{Program}
use Rattle.def_syntax.specs.Blocks.{Block, TcomBlock, PcomBlock, HandlerBlock, PartStart, Part, OtherPart, Then}
use Rattle.def_syntax.specs.Blocks as blocks
use Rattle.def_syntax.specs.Lines.{Line, Var, Key, Set, Send, Out, If, Txn, Get, Put, Need, Else, End, program_lines}
use Rattle.def_syntax.specs.Names.{place_of, found, meaning, operand_of, operands_of, expr_of, com_id, one_line, key_of, sent, sent_to, ended, resolved}
use Rattle.def_syntax.specs.Scenario.{Refusal, IsScenario, at_line, seen_behind, checked, named, resolved_if, all_named, scenario_of}
use Rattle.def_syntax.specs.Scope.{Declared, Frame, Scope, empty_scope, latest, locals_of, names}
use Rattle.def_syntax.specs.SyntaxLines.{RawOperand, Digits, Named, RawExpr, Single, Double, SyntaxLine, XcomItem, TcomItem, PcomItem, KeyItem, VarItem, OnItem, SetItem, SendItem, OutItem, IfItem, TxnItem, GetItem, PutItem, NeedItem, ElseItem, EndItem, raw_operand_of, raw_operands_of, both, operator_in, raw_expr_of, one_name, name_then, names_of, one_number, is_immediate, nothing_behind, item_with, item_of, said, line_item}
use Rattle.def_syntax.specs.Text.{◌>>=◌, Fixed, XcomWord, TcomWord, PcomWord, ImmediateWord, VarWord, KeyWord, OnWord, SetWord, SendWord, OutWord, IfWord, ElseWord, TxnWord, GetWord, PutWord, NeedWord, EndWord, Token, Number, Name, Fixed_word, Operator, fixed_words, tokens_of, look_up, onto_first, lines_of, numbered}
use Rattle.law_replay.proofs.Lists.{both-true}
use Rattle.law_settle.proofs.Walks.{all-append}
use Rattle.law_syntax.proofs.Entries.{TokenFits, FormFits, Behind, or-fits, map-fits, named-fits, then-ok, same-ok, line-tokens-fit}
use Rattle.law_syntax.proofs.Events.{at-line-ok}
use Rattle.law_run.specs.ProgramBytes.{IsWord, is_word, operand_fits, expr_fits}

word-true : (z : ℤ) → IsWord z → is_word z ≡ true
word-true (pos n) h = below n h.sfits
  where
    below : (m : ℕ) → m < 2 ^ 63 → nat_lt m (2 ^ 63) ≡ true
    below m f = grind arith
word-true (negsuc n) h = below n h.sfits
  where
    below : (m : ℕ) → m < 2 ^ 63 → nat_lt m (2 ^ 63) ≡ true
    below m f = grind arith

-- a line as it is written -------------------------------------------------------------------------

abbrev RawFits : RawOperand → Type 0
RawFits (Digits z) = IsWord z
RawFits (Named n) = ⊤

abbrev RawExprFits : RawExpr → Type 0
RawExprFits (Single x) = RawFits x
RawExprFits (Double x op y) = RawFits x × RawFits y

abbrev ItemFits : SyntaxLine → Type 0
ItemFits (VarItem n z) = IsWord z
ItemFits (KeyItem n z) = IsWord z
ItemFits (SetItem v e) = RawExprFits e
ItemFits (SendItem p h xs) = AllByRecursion RawFits xs
ItemFits (OutItem x xs) = AllByRecursion RawFits xs
ItemFits (IfItem e) = RawExprFits e
ItemFits (PutItem k e) = RawExprFits e
ItemFits (NeedItem e) = RawExprFits e
ItemFits item = ⊤

both-fits : {X Y Z : Type 0} (P : X → Type 0) (Q : Y → Type 0) (R : Z → Type 0) (f : X → Y → Z) (x : Option X) (y : Option Y) → ((a : X) (b : Y) → P a → Q b → R (f a b)) → MatchOption x ⊤ P → MatchOption y ⊤ Q → MatchOption (both f x y) ⊤ R
both-fits P Q R f None y k g h = tt
both-fits P Q R f (Some a) None k g h = tt
both-fits P Q R f (Some a) (Some b) k g h = k a b g h

anything : {X : Type 0} (o : Option X) → MatchOption o ⊤ (λ x. ⊤)
anything None = tt
anything (Some x) = tt

operand-said : (t : Token) → TokenFits t → MatchOption (raw_operand_of t) ⊤ RawFits
operand-said (Number z) h = h
operand-said (Name n) h = tt
operand-said (Fixed_word f) h = tt
operand-said (Operator op) h = tt

operands-said : FormFits (AllByRecursion RawFits) raw_operands_of
operands-said [] h = tt
operands-said (t ∷ ts) h = both-fits RawFits (AllByRecursion RawFits) (AllByRecursion RawFits) (λ x xs. x ∷ xs) (raw_operand_of t) (raw_operands_of ts) (λ x xs k l. (k, l)) (operand-said t h.0) (operands-said ts h.1)

expr-said : FormFits RawExprFits raw_expr_of
expr-said [] h = tt
expr-said (t ∷ []) h = map-fits RawFits RawExprFits Single (raw_operand_of t) (λ x k. k) (operand-said t h.0)
expr-said (t ∷ o ∷ []) h = tt
expr-said (t ∷ o ∷ u ∷ []) h =
    both-fits RawFits (λ y. RawFits y.1) RawExprFits (λ x y. Double x y.0 y.1) (raw_operand_of t) (both (λ op y. (op, y)) (operator_in o) (raw_operand_of u)) (λ x y k l. (k, l)) (operand-said t h.0)
    (both-fits (λ op. ⊤) RawFits (λ y. RawFits y.1) (λ op y. (op, y)) (operator_in o) (raw_operand_of u) (λ op y k l. l) (anything (operator_in o)) (operand-said u h.1.1.0))
expr-said (t ∷ o ∷ u ∷ v ∷ ts) h = tt

number-said : FormFits IsWord one_number
number-said [] h = tt
number-said (Number z ∷ []) h = h.0
number-said (Number z ∷ t ∷ ts) h = tt
number-said (Name n ∷ ts) h = tt
number-said (Fixed_word f ∷ ts) h = tt
number-said (Operator op ∷ ts) h = tt

alone-said : (item : SyntaxLine) (ts : List Token) → ItemFits item → MatchOption (nothing_behind item ts) ⊤ ItemFits
alone-said item [] h = h
alone-said item (t ∷ ts) h = tt

with-said : (w : Fixed) → FormFits ItemFits (item_with w)
unfolding item_with
with-said XcomWord ts h = map-fits (λ n. ⊤) ItemFits XcomItem (one_name ts) (λ x k. tt) (anything (one_name ts))
with-said TcomWord ts h = map-fits (λ n. ⊤) ItemFits TcomItem (one_name ts) (λ x k. tt) (anything (one_name ts))
with-said PcomWord ts h = map-fits (λ n. ⊤) ItemFits (λ x. PcomItem x.0 x.1) (name_then is_immediate ts) (λ x k. tt) (anything (name_then is_immediate ts))
with-said ImmediateWord ts h = tt
with-said VarWord ts h = map-fits (Behind IsWord) ItemFits (λ x. VarItem x.0 x.1) (name_then one_number ts) (λ x k. k) (named-fits IsWord one_number number-said ts h)
with-said KeyWord ts h = map-fits (Behind IsWord) ItemFits (λ x. KeyItem x.0 x.1) (name_then one_number ts) (λ x k. k) (named-fits IsWord one_number number-said ts h)
with-said OnWord ts h = map-fits (λ n. ⊤) ItemFits (λ x. OnItem x.0 x.1) (name_then names_of ts) (λ x k. tt) (anything (name_then names_of ts))
with-said SetWord ts h = map-fits (Behind RawExprFits) ItemFits (λ x. SetItem x.0 x.1) (name_then raw_expr_of ts) (λ x k. k) (named-fits RawExprFits raw_expr_of expr-said ts h)
with-said SendWord ts h =
    map-fits (Behind (Behind (AllByRecursion RawFits))) ItemFits (λ x. SendItem x.0 x.1.0 x.1.1) (name_then (name_then raw_operands_of) ts) (λ x k. k)
    (named-fits (Behind (AllByRecursion RawFits)) (name_then raw_operands_of) (named-fits (AllByRecursion RawFits) raw_operands_of operands-said) ts h)
with-said OutWord ts h = map-fits (Behind (AllByRecursion RawFits)) ItemFits (λ x. OutItem x.0 x.1) (name_then raw_operands_of ts) (λ x k. k) (named-fits (AllByRecursion RawFits) raw_operands_of operands-said ts h)
with-said IfWord ts h = map-fits RawExprFits ItemFits IfItem (raw_expr_of ts) (λ x k. k) (expr-said ts h)
with-said ElseWord ts h = alone-said ElseItem ts tt
with-said TxnWord ts h = map-fits (λ n. ⊤) ItemFits TxnItem (one_name ts) (λ x k. tt) (anything (one_name ts))
with-said GetWord ts h = map-fits (λ n. ⊤) ItemFits (λ x. GetItem x.0 x.1) (name_then one_name ts) (λ x k. tt) (anything (name_then one_name ts))
with-said PutWord ts h = map-fits (Behind RawExprFits) ItemFits (λ x. PutItem x.0 x.1) (name_then raw_expr_of ts) (λ x k. k) (named-fits RawExprFits raw_expr_of expr-said ts h)
with-said NeedWord ts h = map-fits RawExprFits ItemFits NeedItem (raw_expr_of ts) (λ x k. k) (expr-said ts h)
with-said EndWord ts h = alone-said EndItem ts tt

item-said : FormFits ItemFits item_of
item-said [] h = tt
item-said (Number z ∷ ts) h = tt
item-said (Name n ∷ ts) h = tt
item-said (Fixed_word w ∷ ts) h = with-said w ts h.1
item-said (Operator op ∷ ts) h = tt

line-said : (line : List ℕ) (s : Option SyntaxLine) → line_item line ≡ Ok s → MatchOption s ⊤ ItemFits
unfolding line_item
line-said line s e = let x = then-ok (tokens_of line) said s e in at x.0 (line-tokens-fit fixed_words line x.0 x.1) x.2
  where
    some : (o : Option SyntaxLine) → MatchOption o ⊤ ItemFits → (ok_or o Structure >>= (λ item. Ok (Some item))) ≡ Ok s → MatchOption s ⊤ ItemFits
    some None h f = absurd (cc f)
    some (Some item) h f = subst (λ o. MatchOption o ⊤ ItemFits) (same-ok {E = Cause} (Some item) s f) h

    at : (ts : List Token) → AllByRecursion TokenFits ts → said ts ≡ Ok s → MatchOption s ⊤ ItemFits
    at [] h f = subst (λ o. MatchOption o ⊤ ItemFits) (same-ok {E = Cause} None s f) tt
    at (t ∷ ts) h f = some (item_of (t ∷ ts)) (item-said (t ∷ ts) h) f

-- a line of the program ---------------------------------------------------------------------------

-- its numbers are values, and the line of a `need` has 32 bits
abbrev pub NumbersFit : Line → Type 0
NumbersFit (Var n z) = IsWord z
NumbersFit (Key n z) = IsWord z
NumbersFit (Set v e) = expr_fits e ≡ true
NumbersFit (Send p h xs) = list_all operand_fits xs ≡ true
NumbersFit (Out x xs) = list_all operand_fits xs ≡ true
NumbersFit (If e) = expr_fits e ≡ true
NumbersFit (Put k e) = expr_fits e ≡ true
NumbersFit (Need line e) = nat_lt line (2 ^ 32) && expr_fits e ≡ true
NumbersFit l = ⊤

abbrev OperandFits : Operand → Type 0
OperandFits o = operand_fits o ≡ true

meaning-fits : (seen : Scope) (n : List ℕ) → MatchOption (meaning seen n) ⊤ OperandFits
meaning-fits seen n =
    or-fits OperandFits (option_map operands.Var (place_of n (latest seen).vars)) _ (map-fits (λ i. ⊤) OperandFits operands.Var (place_of n (latest seen).vars) (λ i k. refl) (anything (place_of n (latest seen).vars)))
    (or-fits OperandFits (option_map operands.Param (place_of n seen.params)) _ (map-fits (λ i. ⊤) OperandFits operands.Param (place_of n seen.params) (λ i k. refl) (anything (place_of n seen.params)))
    (map-fits (λ i. ⊤) OperandFits operands.Local (look_up n (locals_of seen)) (λ i k. refl) (anything (look_up n (locals_of seen)))))

operand-fits : (seen : Scope) (x : RawOperand) → RawFits x → MatchOption (operand_of seen x) ⊤ OperandFits
operand-fits seen (Digits z) h = word-true z h
operand-fits seen (Named n) h = meaning-fits seen n

operands-fit : (seen : Scope) (xs : List RawOperand) → AllByRecursion RawFits xs → MatchOption (operands_of seen xs) ⊤ (λ os. list_all operand_fits os ≡ true)
operands-fit seen [] h = refl
operands-fit seen (x ∷ xs) h =
    both-fits OperandFits (λ os. list_all operand_fits os ≡ true) (λ os. list_all operand_fits os ≡ true) (λ o os. o ∷ os) (operand_of seen x) (operands_of seen xs)
    (λ o os k l. both-true (operand_fits o) (list_all operand_fits os) k l) (operand-fits seen x h.0) (operands-fit seen xs h.1)

abbrev ExprFits : Expr → Type 0
ExprFits e = expr_fits e ≡ true

expr-fits : (seen : Scope) (e : RawExpr) → RawExprFits e → MatchOption (expr_of seen e) ⊤ ExprFits
expr-fits seen (Single x) h = map-fits OperandFits ExprFits One (operand_of seen x) (λ o k. k) (operand-fits seen x h)
expr-fits seen (Double x op y) h = both-fits OperandFits OperandFits ExprFits (λ a b. Two a op b) (operand_of seen x) (operand_of seen y) (λ a b k l. both-true (operand_fits a) (operand_fits b) k l) (operand-fits seen x h.0) (operand-fits seen y h.1)

abbrev AllNumbersFit : List Line → Type 0
AllNumbersFit ls = AllByRecursion NumbersFit ls

-- what comes of a line without a refusal
abbrev Comes : Result (List Line) Cause → Type 0
Comes r = (lines : List Line) → r ≡ Ok lines → AllNumbersFit lines

comes : (ls : List Line) → AllNumbersFit ls → Comes (Ok ls)
comes ls h lines e = subst AllNumbersFit (same-ok {E = Cause} ls lines e) h

one-comes : (o : Option Line) → MatchOption o ⊤ NumbersFit → Comes (one_line o)
one-comes None h lines e = absurd (cc e)
one-comes (Some l) h lines e = comes (l ∷ []) (h, tt) lines e

sent-comes : (to : ℕ) (h count : Option ℕ) (os : Option (List Operand)) → MatchOption os ⊤ (λ os. list_all operand_fits os ≡ true) → Comes (sent to h count os)
sent-comes to None count os k lines e = absurd (cc e)
sent-comes to (Some h) None os k lines e = absurd (cc e)
sent-comes to (Some h) (Some count) None k lines e = absurd (cc e)
sent-comes to (Some h) (Some count) (Some os) k lines e = at (length os == count) e
  where
    at : (b : Bool) → (if b then Ok (Send (com_id to) h os ∷ []) else Err Arity) ≡ Ok lines → AllNumbersFit lines
    at true f = comes (Send (com_id to) h os ∷ []) (k, tt) lines f
    at false f = absurd (cc f)

ended-fit : (fs : List Frame) → AllNumbersFit (ended fs)
ended-fit [] = (tt, tt)
ended-fit (f ∷ fs) = at f.block
  where
    at : (b : Block) → AllNumbersFit (elim b [ Then part ↦ Else ∷ End ∷ [] | _ ↦ End ∷ [] ])
    at TcomBlock = (tt, tt)
    at PcomBlock = (tt, tt)
    at HandlerBlock = (tt, tt)
    at PartStart = (tt, tt)
    at Part = (tt, tt)
    at OtherPart = (tt, tt)
    at (Then part) = (tt, (tt, tt))
    at (blocks.Else part) = (tt, tt)

resolved-fits : (all : List Declared) (seen : Scope) (line : ℕ) (item : SyntaxLine) → line < 2 ^ 32 → ItemFits item → Comes (resolved all seen line item)
unfolding resolved
resolved-fits all seen line (XcomItem n) le h = comes _ (tt, (tt, tt))
resolved-fits all seen line (TcomItem n) le h = comes _ (tt, tt)
resolved-fits all seen line (PcomItem n immediate) le h = comes _ (tt, tt)
resolved-fits all seen line (KeyItem n z) le h = comes (Key n z ∷ []) (h, tt)
resolved-fits all seen line (VarItem n z) le h = comes (Var n z ∷ []) (h, tt)
resolved-fits all seen line (OnItem n ps) le h = comes _ (tt, tt)
resolved-fits all seen line (SetItem v e) le h =
    one-comes (both Set (place_of v (latest seen).vars) (expr_of seen e)) (both-fits (λ i. ⊤) ExprFits NumbersFit Set (place_of v (latest seen).vars) (expr_of seen e) (λ i x k l. l) (anything (place_of v (latest seen).vars)) (expr-fits seen e h))
resolved-fits all seen line (SendItem p m xs) le h = at (found _ p all)
  where
    at : (o : Option (ℕ × Declared)) → Comes (sent_to seen m xs o)
    at None lines e = absurd (cc e)
    at (Some c) lines e = sent-comes c.0 (place_of m (names c.1.handlers)) (look_up m c.1.handlers) (operands_of seen xs) (operands-fit seen xs h) lines e
resolved-fits all seen line (OutItem x xs) le h = at (found _ x all)
  where
    at : (o : Option (ℕ × Declared)) → Comes (one_line (both (λ (c : ℕ × Declared) os. Out (com_id c.0) os) o (operands_of seen xs)))
    at o = one-comes (both (λ (c : ℕ × Declared) os. Out (com_id c.0) os) o (operands_of seen xs)) (both-fits (λ i. ⊤) (λ os. list_all operand_fits os ≡ true) NumbersFit (λ (c : ℕ × Declared) os. Out (com_id c.0) os) o (operands_of seen xs) (λ i x k l. l) (anything o) (operands-fit seen xs h))
resolved-fits all seen line (IfItem e) le h = one-comes (option_map If (expr_of seen e)) (map-fits ExprFits NumbersFit If (expr_of seen e) (λ x k. k) (expr-fits seen e h))
resolved-fits all seen line (TxnItem t) le h = at (found _ t all)
  where
    at : (o : Option (ℕ × Declared)) → Comes (one_line (option_map (λ (c : ℕ × Declared). Txn (com_id c.0)) o))
    at None lines e = absurd (cc e)
    at (Some c) lines e = comes _ (tt, tt) lines e
resolved-fits all seen line (GetItem n k) le h = at (key_of all seen k)
  where
    at : (o : Option ℕ) → Comes (one_line (option_map (Get seen.gets) o))
    at None lines e = absurd (cc e)
    at (Some c) lines e = comes _ (tt, tt) lines e
resolved-fits all seen line (PutItem k e) le h = one-comes (both Put (key_of all seen k) (expr_of seen e)) (both-fits (λ i. ⊤) ExprFits NumbersFit Put (key_of all seen k) (expr_of seen e) (λ i x k l. l) (anything (key_of all seen k)) (expr-fits seen e h))
resolved-fits all seen line (NeedItem e) le h = one-comes (option_map (Need line) (expr_of seen e)) (map-fits ExprFits NumbersFit (Need line) (expr_of seen e) (λ x k. both-true (nat_lt line (2 ^ 32)) (expr_fits x) (below line le) k) (expr-fits seen e h))
  where
    below : (m : ℕ) → m < 2 ^ 32 → nat_lt m (2 ^ 32) ≡ true
    below m f = grind arith
resolved-fits all seen line ElseItem le h = comes _ (tt, tt)
resolved-fits all seen line EndItem le h = comes (ended seen.frames) (ended-fit seen.frames)

named-comes : (all : List Declared) (seen : Scope) (n : ℕ) (line : List ℕ) → n < 2 ^ 32 → Comes (named all seen n line)
unfolding named
named-comes all seen n line le lines e = let x = then-ok (line_item line) (resolved_if all seen n) lines e in at x.0 (line-said line x.0 x.1) x.2
  where
    at : (o : Option SyntaxLine) → MatchOption o ⊤ ItemFits → resolved_if all seen n o ≡ Ok lines → AllNumbersFit lines
    at None h f = comes [] tt lines f
    at (Some item) h f = resolved-fits all seen n item le h lines f

-- the text ----------------------------------------------------------------------------------------

all-come : (all : List Declared) (seen : Scope) (n : ℕ) (ls : List (List ℕ)) (lines : List Line) → n + length ls ≤ 2 ^ 32 → all_named all seen (numbered n ls) ≡ Ok lines → AllNumbersFit lines
unfolding all_named
all-come all seen n [] lines le e = subst AllNumbersFit (same-ok {E = Refusal} [] lines e) tt
all-come all seen n (l ∷ ls) lines le e =
    let rest : Scope → Result (List Line) Refusal = λ next. all_named all next (numbered (n + 1) ls) in
    let x = then-ok (at_line n (named all seen n l)) (λ first. at_line n (seen_behind seen l) >>= (λ next. rest next >>= (λ more. Ok (first ++ more)))) lines e in
    let y = then-ok (at_line n (seen_behind seen l)) (λ next. rest next >>= (λ more. Ok (x.0 ++ more))) lines x.2 in
    let z = then-ok (rest y.0) (λ more. Ok (x.0 ++ more)) lines y.2 in
    subst AllNumbersFit (same-ok {E = Refusal} (x.0 ++ z.0) lines z.2)
    (all-append NumbersFit x.0 z.0 (named-comes all seen n l (omega (arith, le)) x.0 (at-line-ok n (named all seen n l) x.0 x.1)) (all-come all y.0 (n + 1) ls z.0 (omega (arith, le)) z.1))

first-long : (b : ℕ) (ls : List (List ℕ)) → length (onto_first b ls) ≤ length ls + 1
first-long b [] = omega arith
first-long b (l ∷ ls) = omega arith

lines-few : (text : List ℕ) → length (lines_of text) ≤ length text
unfolding lines_of
lines-few [] = omega arith
lines-few (b ∷ bs) = at (b == 10) (lines-few bs)
  where
    at : (x : Bool) → length (lines_of bs) ≤ length bs → length (if x then [] ∷ lines_of bs else onto_first b (lines_of bs)) ≤ suc (length bs)
    at true h = omega (arith, h)
    at false h = let f = first-long b (lines_of bs) in omega (arith, h, f)

pub numbers-fit : (text : List ℕ) (program : Program) → IsScenario text program → AllNumbersFit (program_lines program)
unfolding scenario_of
numbers-fit text program e = at (nat_lt TEXT_BYTES (length text)) refl e
  where
    at : (b : Bool) → nat_lt TEXT_BYTES (length text) ≡ b → (if b then Err (0, Limit) else (checked (length (numbered 1 (lines_of text)) + 1) empty_scope (numbered 1 (lines_of text)) >>= (λ (seen : Scope). all_named (reverse seen.components) empty_scope (numbered 1 (lines_of text))))) ≡ Ok (program_lines program) → AllNumbersFit (program_lines program)
    at true is f = absurd (cc f)
    at false is f =
        let x = then-ok (checked (length (numbered 1 (lines_of text)) + 1) empty_scope (numbered 1 (lines_of text))) (λ (seen : Scope). all_named (reverse seen.components) empty_scope (numbered 1 (lines_of text))) (program_lines program) f in
        all-come (reverse x.0.components) empty_scope 1 (lines_of text) (program_lines program) (few (length (lines_of text)) (length text) (lines-few text) is) x.2
      where
        few : (m n : ℕ) → m ≤ n → nat_lt TEXT_BYTES n ≡ false → 1 + m ≤ 2 ^ 32
        few m n le g = let k = not_above n g in omega (arith, le, k)
          where
            not_above : (n : ℕ) → nat_lt TEXT_BYTES n ≡ false → n ≤ TEXT_BYTES
            not_above n g = grind arith
