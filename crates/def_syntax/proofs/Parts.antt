-- What is known of a line that is taken, and of names that stand for something.
use Rattle.std.proofs.Common.{◌≡◌, ◌∙◌, sym, ap, refl, ℕ, List, [], ◌∷◌, length, Bool, true, false, ◌||◌, Option, Some, None, option_map, ◌==◌, Ok, Err, ok_or, if◌then◌else◌, arith}
use Rattle.std.specs.List.{list_any}
use Rattle.std.proofs.lemmas.Bool.Decides.{nat_tests}
use Rattle.ic_base.specs.declared.scenario.Operand.{Operand}
use Rattle.ic_base.specs.declared.refusals.Cause.TheVariants.{Structure, Twice, Limit, Arity}
use Rattle.def_syntax.specs.Text.{◌>>=◌}
use Rattle.def_syntax.specs.SyntaxLines.{SyntaxLine, RawOperand, Digits, Named, RawExpr, Single, Double, both}
use Rattle.def_syntax.specs.Blocks.{BlockAction}
use Rattle.def_syntax.specs.Scope.{Declared, Scope, latest, locals_of, declares, is_reserved, is_out_of_place, move_in, move_of, is_twice, passes, behind, scope_with}
use Rattle.def_syntax.specs.Names.{operand_of, operands_of, expr_of, one_line, com_id, sent}
use Rattle.def_syntax.specs.Lines.{Line, Send}
use Rattle.def_syntax.specs.Grammar.{Around, operand_in, operands_in, expr_in}

-- a line that may stand behind the lines so far
pub record Taken (seen : Scope) (item : SyntaxLine) (next : Scope) : Type 0 where
  pub move : BlockAction
  pub free : list_any is_reserved (declares item) ≡ false
  pub placed : is_out_of_place seen item ≡ false
  pub moves : move_in seen.frames item ≡ Some move
  pub new : is_twice seen item ≡ false
  pub within : passes seen item ≡ false
  pub next_is : next ≡ behind move item seen

abbrev pub Checks : Bool → Bool → Bool → Bool → Option BlockAction → (BlockAction → Scope) → Scope → Type 0
Checks a b t l m f next = (move : BlockAction) × (a ≡ false) × (b ≡ false) × (m ≡ Some move) × (t ≡ false) × (l ≡ false) × (next ≡ f move)

checks : (a b t l : Bool) (m : Option BlockAction) (f : BlockAction → Scope) (seen next : Scope)
    → (ok_or (if a || b then None else m) Structure >>= (λ move. (if t then Err Twice else Ok seen) >>= (λ (n : Scope). (if l then Err Limit else Ok seen) >>= (λ (w : Scope). Ok (f move))))) ≡ Ok next
    → Checks a b t l m f next
checks true b t l m f seen next e = absurd (cc)
checks false true t l m f seen next e = absurd (cc)
checks false false t l None f seen next e = absurd (cc)
checks false false true l (Some move) f seen next e = absurd (cc)
checks false false false true (Some move) f seen next e = absurd (cc)
checks false false false false (Some move) f seen next e = (move, refl, refl, refl, refl, refl, cc)

pub taken : (seen : Scope) (item : SyntaxLine) (next : Scope) → scope_with seen item ≡ Ok next → Taken seen item next
unfolding scope_with move_of
taken seen item next e =
    let c = checks (list_any is_reserved (declares item)) (is_out_of_place seen item) (is_twice seen item) (passes seen item) (move_in seen.frames item) (λ move. behind move item seen) seen next e in
    record { move = c.0; free = c.1; placed = c.2; moves = c.3; new = c.4; within = c.5; next_is = c.6 }

-- an operand's meaning hangs on the names that are seen alone
abbrev pub around : List Declared → Scope → Around
around all seen = record { all = all; me = (latest seen).name; vars = (latest seen).vars; params = seen.params }

pub same_operand : (all : List Declared) (seen : Scope) (x : RawOperand) → operand_of seen x ≡ operand_in (around all seen) (locals_of seen) x
same_operand all seen (Digits z) = refl
same_operand all seen (Named n) = refl

pub same_operands : (all : List Declared) (seen : Scope) (xs : List RawOperand) → operands_of seen xs ≡ operands_in (around all seen) (locals_of seen) xs
same_operands all seen [] = refl
same_operands all seen (x ∷ xs) = ap (λ o. both (λ o os. o ∷ os) o (operands_of seen xs)) (same_operand all seen x) ∙ ap (λ os. both (λ o os. o ∷ os) (operand_in (around all seen) (locals_of seen) x) os) (same_operands all seen xs)

pub same_expr : (all : List Declared) (seen : Scope) (e : RawExpr) → expr_of seen e ≡ expr_in (around all seen) (locals_of seen) e
same_expr all seen (Single (Digits z)) = refl
same_expr all seen (Single (Named n)) = refl
same_expr all seen (Double (Digits z) op (Digits y)) = refl
same_expr all seen (Double (Digits z) op (Named m)) = refl
same_expr all seen (Double (Named n) op (Digits y)) = refl
same_expr all seen (Double (Named n) op (Named m)) = refl

pub one_line_parts : (o : Option Line) (ls : List Line) → one_line o ≡ Ok ls → (l : Line) × (o ≡ Some l) × (ls ≡ l ∷ [])
one_line_parts None ls e = absurd (cc)
one_line_parts (Some l) ls e = (l, refl, cc)

pub both_parts : {X Y Z : Type 0} (f : X → Y → Z) (x : Option X) (y : Option Y) (z : Z) → both f x y ≡ Some z → (a : X) × (b : Y) × (x ≡ Some a) × (y ≡ Some b) × (z ≡ f a b)
both_parts f None y z e = absurd (cc)
both_parts f (Some a) None z e = absurd (cc)
both_parts f (Some a) (Some b) z e = (a, b, refl, refl, cc)

pub map_parts : {X Z : Type 0} (f : X → Z) (x : Option X) (z : Z) → option_map f x ≡ Some z → (a : X) × (x ≡ Some a) × (z ≡ f a)
map_parts f None z e = absurd (cc)
map_parts f (Some a) z e = (a, refl, cc)

equal : (a b : ℕ) → (a == b) ≡ true → a ≡ b
equal a b e = grind (arith, nat_tests)

abbrev pub Sent : ℕ → Option ℕ → Option ℕ → Option (List Operand) → List Line → Type 0
Sent to h count xs ls = (i : ℕ) × (os : List Operand) × (h ≡ Some i) × (count ≡ Some (length os)) × (xs ≡ Some os) × (ls ≡ Send (com_id to) i os ∷ [])

counted : (to i k : ℕ) (os : List Operand) (b : Bool) → (length os == k) ≡ b → (ls : List Line) → (if b then Ok (Send (com_id to) i os ∷ []) else Err Arity) ≡ Ok ls → Sent to (Some i) (Some k) (Some os) ls
counted to i k os true t ls e = (i, os, refl, ap Some (sym (equal (length os) k t)), refl, cc)
counted to i k os false t ls e = absurd (cc)

pub sent_parts : (to : ℕ) (h count : Option ℕ) (xs : Option (List Operand)) (ls : List Line) → sent to h count xs ≡ Ok ls → Sent to h count xs ls
sent_parts to None count xs ls e = absurd (cc)
sent_parts to (Some i) None xs ls e = absurd (cc)
sent_parts to (Some i) (Some k) None ls e = absurd (cc)
sent_parts to (Some i) (Some k) (Some os) ls e = counted to i k os (length os == k) refl ls e
