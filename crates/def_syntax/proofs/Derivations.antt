-- The grammar by relations derives what the two passes read: one item in front of what follows.
use Rattle.std.proofs.Common.{◌≡◌, ◌∙◌, sym, ap, refl, subst, arith, inl, inr, ◌<◌, ◌≤◌, ℕ, ℤ, suc, List, [], ◌∷◌, ◌++◌, map, length, flat_map, Bool, true, false, ◌||◌, Option, Some, None, option_map, option_and_then, Ok, nat_lt, nat_le, bytes_eq}
use Rattle.std.specs.List.{list_any}
use Rattle.std.proofs.lemmas.Bool.Decides.{nat_tests}
use Rattle.ic_base.specs.declared.messages.Kind.TheVariants.{Pcom, Tcom}
use Rattle.def_syntax.specs.SyntaxLines.{RawOperand, RawExpr, SyntaxLine, KeyItem, VarItem, OnItem, SetItem, SendItem, OutItem, IfItem, TxnItem, GetItem, PutItem, NeedItem, ElseItem, EndItem}
use Rattle.def_syntax.specs.Blocks.{Block, TcomBlock, PcomBlock, HandlerBlock, PartStart, Part, OtherPart, Then, Else, BlockAction, Turn, Finish, in_block}
use Rattle.def_syntax.specs.Scope.{Declared, Frame, Scope, names, is_in, has_twice, is_reserved, frame, moved}
use Rattle.def_syntax.specs.Names.{place_of, found, com_id, one_line, sent_to, ended, resolved}
use Rattle.def_syntax.specs.Lines.{Line}
use Rattle.def_syntax.specs.Lines as grammar
use Rattle.def_syntax.specs.Grammar.{NumberedLine, Locals, Around, Plain, PartOf, Here, ahead, no_statement, set, send, out, choice, lone_choice, txn, get, put, need, no_key, key, no_var, var, no_handler, handler, MayCome, Components}
use Rattle.def_syntax.proofs.Parts.{same_expr, same_operands, one_line_parts, both_parts, map_parts, sent_parts}
use Rattle.def_syntax.proofs.Stacks.{framed, IsPlain, in_handler, in_then, in_else, in_other, IsInPart, at_start, in_part, part_then, part_else, IsStack, in_tcom, in_pcom, outer, inner, depth_under, is_part, context_if, here, Goal, UpTo, UpToEnd, UpToElse, last_of, KeysRest, HandlersRest, VarsRest, PcomRest, around_in, RestOf, Rest, RestBehind, is_body, more, then_more, in_front, any_tcom, length_depth, stack_plain, stack_part, plain_block, part_block, with_locals, start}
use Rattle.def_syntax.proofs.Stacks as stacks

abbrev pub state : List Declared → List Frame → List (List ℕ) → ℕ → ℕ → List ℕ → Scope
state cs fs ps s g t = record { components = cs; frames = fs; params = ps; statements = s; gets = g; tcom = t }

-- behind the item the open blocks are such as there may be, and what follows it goes on from in front of it
pub record Steps (all : List Declared) (seen : Scope) (n : ℕ) (item : SyntaxLine) (lines : List Line) (next : Scope) : Type 0 where
  pub stack : IsStack next.components next.frames
  pub back : (is : List NumberedLine) (ls : List Line) → RestBehind all next is ls → RestBehind all seen ((n, item) ∷ is) (lines ++ ls)

-- tests as orders
pub neither : (a b : Bool) → (a || b) ≡ false → (a ≡ false) × (b ≡ false)
neither true b e = absurd (cc)
neither false true e = absurd (cc)
neither false false e = (refl, refl)

below : (n s : ℕ) → nat_le n s ≡ false → s < n
below n s e = grind (arith, nat_tests)

up_to : (n s : ℕ) → nat_lt n s ≡ false → s ≤ n
up_to n s e = grind (arith, nat_tests)

shallow : (f g : Frame) (gs : List Frame) → nat_lt 17 (length (f ∷ g ∷ gs)) ≡ false → depth_under (g ∷ gs) < 16
shallow f g gs e = let l = length_depth g gs in let u : length (f ∷ g ∷ gs) ≤ 17 = up_to 17 (length (f ∷ g ∷ gs)) e in omega (arith, l, u)

-- one line of a program in front
front : (all cs : List Declared) (ps : List (List ℕ)) (t : List ℕ) (fs : List Frame) (s g : ℕ) (is : List NumberedLine) (l : Line) (lines ls : List Line)
    → lines ≡ l ∷ [] → Rest all cs ps t fs s g is (l ∷ ls) → Rest all cs ps t fs s g is (lines ++ ls)
front all cs ps t fs s g is l lines ls e r = subst (λ (z : List Line). Rest all cs ps t fs s g is (z ++ ls)) (sym e) r

pub set_back : (all cs : List Declared) (ps : List (List ℕ)) (t : List ℕ) (f : Frame) (fs : List Frame) (s g n : ℕ) (v : List ℕ) (e : RawExpr) (lines : List Line) (is : List NumberedLine) (ls : List Line)
    → is_body f.block ≡ true → nat_le 256 s ≡ false → resolved all (state cs (f ∷ fs) ps s g t) n (SetItem v e) ≡ Ok lines
    → Rest all cs ps t (f ∷ fs) (suc s) g is ls → Rest all cs ps t (f ∷ fs) s g ((n, SetItem v e) ∷ is) (lines ++ ls)
unfolding resolved
set_back all cs ps t f fs s g n v e lines is ls b w d r =
    let seen = state cs (f ∷ fs) ps s g t in
    let l = one_line_parts _ lines d in
    let x = both_parts grammar.Set _ _ l.0 l.1 in
    front all cs ps t (f ∷ fs) s g _ (grammar.Set x.0 x.1) lines ls (l.2 ∙ ap (λ k. k ∷ []) x.4)
    (in_front all cs ps f.block (here t f fs) f.locals (Rest all cs ps t fs) s g (suc s) g _ is _ ls b (λ q k. set (below 256 s w) x.2 (sym (same_expr all seen e) ∙ x.3) k) r)

plain_spot : (t : List ℕ) (b : Block) → is_part b ≡ false → context_if t (is_part b) ≡ Plain
plain_spot t b e = ap (context_if t) e

part_spot : (t : List ℕ) (b : Block) → is_part b ≡ true → context_if t (is_part b) ≡ PartOf t
part_spot t b e = ap (context_if t) e

pub send_back : (all cs : List Declared) (ps : List (List ℕ)) (t : List ℕ) (f : Frame) (fs : List Frame) (s g n : ℕ) (p h : List ℕ) (xs : List RawOperand) (c : Option (ℕ × Declared)) (lines : List Line) (is : List NumberedLine) (ls : List Line)
    → is_body f.block ≡ true → is_part f.block ≡ false → (nat_le 256 s || nat_lt 8 (length xs)) ≡ false → bytes_eq p (last_of cs).name ≡ false
    → found Pcom p all ≡ c → sent_to (state cs (f ∷ fs) ps s g t) h xs c ≡ Ok lines
    → Rest all cs ps t (f ∷ fs) (suc s) g is ls → Rest all cs ps t (f ∷ fs) s g ((n, SendItem p h xs) ∷ is) (lines ++ ls)
send_back all cs ps t f fs s g n p h xs None lines is ls b o w me e d r = absurd (cc)
send_back all cs ps t f fs s g n p h xs (Some c) lines is ls b o w me e d r =
    let seen = state cs (f ∷ fs) ps s g t in
    let x = sent_parts c.0 _ _ _ lines d in
    let k = neither (nat_le 256 s) (nat_lt 8 (length xs)) w in
    front all cs ps t (f ∷ fs) s g _ (grammar.Send (com_id c.0) x.0 x.1) lines ls x.5
    (in_front all cs ps f.block (here t f fs) f.locals (Rest all cs ps t fs) s g (suc s) g _ is _ ls b
    (λ q k1. send (plain_spot t f.block o) (below 256 s k.0) (up_to 8 (length xs) k.1) me e x.2 (sym (same_operands all seen xs) ∙ x.4) x.3 k1) r)

pub out_back : (all cs : List Declared) (ps : List (List ℕ)) (t : List ℕ) (f : Frame) (fs : List Frame) (s g n : ℕ) (x : List ℕ) (xs : List RawOperand) (lines : List Line) (is : List NumberedLine) (ls : List Line)
    → is_body f.block ≡ true → is_part f.block ≡ false → (nat_le 256 s || nat_lt 8 (length xs)) ≡ false → resolved all (state cs (f ∷ fs) ps s g t) n (OutItem x xs) ≡ Ok lines
    → Rest all cs ps t (f ∷ fs) (suc s) g is ls → Rest all cs ps t (f ∷ fs) s g ((n, OutItem x xs) ∷ is) (lines ++ ls)
unfolding resolved
out_back all cs ps t f fs s g n x xs lines is ls b o w d r =
    let seen = state cs (f ∷ fs) ps s g t in
    let l = one_line_parts _ lines d in
    let y = both_parts (λ (c : ℕ × Declared) os. grammar.Out (com_id c.0) os) _ _ l.0 l.1 in
    let k = neither (nat_le 256 s) (nat_lt 8 (length xs)) w in
    front all cs ps t (f ∷ fs) s g _ (grammar.Out (com_id y.0.0) y.1) lines ls (l.2 ∙ ap (λ k. k ∷ []) y.4)
    (in_front all cs ps f.block (here t f fs) f.locals (Rest all cs ps t fs) s g (suc s) g _ is _ ls b
    (λ q k1. out (plain_spot t f.block o) (below 256 s k.0) (up_to 8 (length xs) k.1) y.2 (sym (same_operands all seen xs) ∙ y.3) k1) r)

pub if_back : (all cs : List Declared) (ps : List (List ℕ)) (t : List ℕ) (f u : Frame) (us : List Frame) (s g n : ℕ) (e : RawExpr) (lines : List Line) (is : List NumberedLine) (ls : List Line)
    → is_body f.block ≡ true → (nat_le 256 s || nat_lt 17 (length (f ∷ u ∷ us))) ≡ false → resolved all (state cs (f ∷ u ∷ us) ps s g t) n (IfItem e) ≡ Ok lines
    → Rest all cs ps t (frame (Then (is_part f.block)) ∷ f ∷ u ∷ us) (suc s) g is ls → Rest all cs ps t (f ∷ u ∷ us) s g ((n, IfItem e) ∷ is) (lines ++ ls)
unfolding resolved
if_back all cs ps t f u us s g n e lines is ls b w d (inl r) =
    let seen = state cs (f ∷ u ∷ us) ps s g t in
    let l = one_line_parts _ lines d in
    let x = map_parts grammar.If _ l.0 l.1 in
    let k = neither (nat_le 256 s) (nat_lt 17 (length (f ∷ u ∷ us))) w in
    front all cs ps t (f ∷ u ∷ us) s g _ (grammar.If x.0) lines ls (l.2 ∙ ap (λ k. k ∷ []) x.2)
    (in_front all cs ps f.block (here t f (u ∷ us)) f.locals (Rest all cs ps t (u ∷ us)) s g r.rest.statements r.rest.gets _ r.rest.items _ r.rest.lines b
    (λ q k1. choice (below 256 s k.0) (shallow f u us k.1) (sym (same_expr all seen e) ∙ x.1) r.derived r.rest.derived k1) r.rest.rest)
if_back all cs ps t f u us s g n e lines is ls b w d (inr r) =
    let seen = state cs (f ∷ u ∷ us) ps s g t in
    let l = one_line_parts _ lines d in
    let x = map_parts grammar.If _ l.0 l.1 in
    let k = neither (nat_le 256 s) (nat_lt 17 (length (f ∷ u ∷ us))) w in
    front all cs ps t (f ∷ u ∷ us) s g _ (grammar.If x.0) lines ls (l.2 ∙ ap (λ k. k ∷ []) x.2)
    (in_front all cs ps f.block (here t f (u ∷ us)) f.locals (Rest all cs ps t (u ∷ us)) s g r.statements r.gets _ r.items _ r.lines b
    (λ q k1. lone_choice (below 256 s k.0) (shallow f u us k.1) (sym (same_expr all seen e) ∙ x.1) r.derived k1) r.rest)

pub txn_back : (all cs : List Declared) (ps : List (List ℕ)) (t : List ℕ) (f u : Frame) (us : List Frame) (s g n : ℕ) (v : List ℕ) (lines : List Line) (is : List NumberedLine) (ls : List Line)
    → IsPlain (f ∷ u ∷ us) → is_body f.block ≡ true → is_part f.block ≡ false → (nat_le 256 s || nat_lt 17 (length (f ∷ u ∷ us))) ≡ false → resolved all (state cs (f ∷ u ∷ us) ps s g t) n (TxnItem v) ≡ Ok lines
    → Rest all cs ps v (frame PartStart ∷ f ∷ u ∷ us) (suc s) g is ls → Rest all cs ps t (f ∷ u ∷ us) s g ((n, TxnItem v) ∷ is) (lines ++ ls)
unfolding resolved
txn_back all cs ps t f u us s g n v lines is ls i b o w d r =
    let l = one_line_parts _ lines d in
    let x = map_parts (λ (c : ℕ × Declared). grammar.Txn (com_id c.0)) _ l.0 l.1 in
    let k = neither (nat_le 256 s) (nat_lt 17 (length (f ∷ u ∷ us))) w in
    front all cs ps t (f ∷ u ∷ us) s g _ (grammar.Txn (com_id x.0.0)) lines ls (l.2 ∙ ap (λ k. k ∷ []) x.2)
    (in_front all cs ps f.block (here t f (u ∷ us)) f.locals (Rest all cs ps t (u ∷ us)) s g r.1.rest.statements r.1.rest.gets _ r.1.rest.items _ r.1.rest.lines b
    (λ q k1. txn (plain_spot t f.block o) (below 256 s k.0) (shallow f u us k.1) x.1 r.0 r.1.derived r.1.rest.derived k1)
    (any_tcom all cs ps v t (f ∷ u ∷ us) i r.1.rest.statements r.1.rest.gets r.1.rest.items r.1.rest.lines r.1.rest.rest))

-- a statement of a part: in a block of statements, or as the first of the part
pub get_back : (all cs : List Declared) (ps : List (List ℕ)) (t : List ℕ) (f : Frame) (fs : List Frame) (s g n : ℕ) (v k : List ℕ) (lines : List Line) (is : List NumberedLine) (ls : List Line)
    → is_body f.block ≡ true → is_part f.block ≡ true → nat_le 256 s ≡ false → is_reserved v ≡ false
    → is_in v ((last_of cs).vars ++ ps ++ names (f.locals ++ flat_map (λ (f : Frame). f.locals) fs)) ≡ false
    → one_line (option_map (grammar.Get g) (option_and_then (λ (x : ℕ × Declared). place_of k x.1.keys) (found Tcom t all))) ≡ Ok lines
    → Rest all cs ps t (framed f.block (f.locals ++ (v, g) ∷ []) ∷ fs) (suc s) (suc g) is ls → Rest all cs ps t (f ∷ fs) s g ((n, GetItem v k) ∷ is) (lines ++ ls)
get_back all cs ps t f fs s g n v k lines is ls b o w free new d r =
    let l = one_line_parts _ lines d in
    let x = map_parts (grammar.Get g) _ l.0 l.1 in
    front all cs ps t (f ∷ fs) s g _ (grammar.Get g x.0) lines ls (l.2 ∙ ap (λ k. k ∷ []) x.2)
    (in_front all cs ps f.block (here t f fs) (f.locals ++ (v, g) ∷ []) (Rest all cs ps t fs) s g (suc s) (suc g) _ is _ ls b
    (λ q k1. get (part_spot t f.block o) (below 256 s w) free new x.1 k1) r)

pub get_first : (all cs : List Declared) (ps : List (List ℕ)) (t : List ℕ) (fs : List Frame) (s g n : ℕ) (v k : List ℕ) (lines : List Line) (is : List NumberedLine) (ls : List Line)
    → nat_le 256 s ≡ false → is_reserved v ≡ false
    → is_in v ((last_of cs).vars ++ ps ++ names (flat_map (λ (f : Frame). f.locals) fs)) ≡ false
    → one_line (option_map (grammar.Get g) (option_and_then (λ (x : ℕ × Declared). place_of k x.1.keys) (found Tcom t all))) ≡ Ok lines
    → Rest all cs ps t (framed Part ((v, g) ∷ []) ∷ fs) (suc s) (suc g) is ls → Rest all cs ps t (frame PartStart ∷ fs) s g ((n, GetItem v k) ∷ is) (lines ++ ls)
get_first all cs ps t fs s g n v k lines is ls w free new d r =
    let l = one_line_parts _ lines d in
    let x = map_parts (grammar.Get g) _ l.0 l.1 in
    front all cs ps t (frame PartStart ∷ fs) s g _ (grammar.Get g x.0) lines ls (l.2 ∙ ap (λ k. k ∷ []) x.2)
    (refl, more (λ q k1. get refl (below 256 s w) free new x.1 k1) r)

pub put_back : (all cs : List Declared) (ps : List (List ℕ)) (t : List ℕ) (f : Frame) (fs : List Frame) (s g n : ℕ) (k : List ℕ) (e : RawExpr) (lines : List Line) (is : List NumberedLine) (ls : List Line)
    → is_body f.block ≡ true → is_part f.block ≡ true → nat_le 256 s ≡ false → resolved all (state cs (f ∷ fs) ps s g t) n (PutItem k e) ≡ Ok lines
    → Rest all cs ps t (f ∷ fs) (suc s) g is ls → Rest all cs ps t (f ∷ fs) s g ((n, PutItem k e) ∷ is) (lines ++ ls)
unfolding resolved
put_back all cs ps t f fs s g n k e lines is ls b o w d r =
    let seen = state cs (f ∷ fs) ps s g t in
    let l = one_line_parts _ lines d in
    let x = both_parts grammar.Put _ _ l.0 l.1 in
    front all cs ps t (f ∷ fs) s g _ (grammar.Put x.0 x.1) lines ls (l.2 ∙ ap (λ k. k ∷ []) x.4)
    (in_front all cs ps f.block (here t f fs) f.locals (Rest all cs ps t fs) s g (suc s) g _ is _ ls b
    (λ q k1. put (part_spot t f.block o) (below 256 s w) x.2 (sym (same_expr all seen e) ∙ x.3) k1) r)

pub put_first : (all cs : List Declared) (ps : List (List ℕ)) (t : List ℕ) (fs : List Frame) (s g n : ℕ) (k : List ℕ) (e : RawExpr) (lines : List Line) (is : List NumberedLine) (ls : List Line)
    → nat_le 256 s ≡ false → resolved all (state cs (frame PartStart ∷ fs) ps s g t) n (PutItem k e) ≡ Ok lines
    → Rest all cs ps t (frame Part ∷ fs) (suc s) g is ls → Rest all cs ps t (frame PartStart ∷ fs) s g ((n, PutItem k e) ∷ is) (lines ++ ls)
unfolding resolved
put_first all cs ps t fs s g n k e lines is ls w d r =
    let seen = state cs (frame PartStart ∷ fs) ps s g t in
    let l = one_line_parts _ lines d in
    let x = both_parts grammar.Put _ _ l.0 l.1 in
    front all cs ps t (frame PartStart ∷ fs) s g _ (grammar.Put x.0 x.1) lines ls (l.2 ∙ ap (λ k. k ∷ []) x.4)
    (refl, more (λ q k1. put refl (below 256 s w) x.2 (sym (same_expr all seen e) ∙ x.3) k1) r)

pub need_back : (all cs : List Declared) (ps : List (List ℕ)) (t : List ℕ) (f : Frame) (fs : List Frame) (s g n : ℕ) (e : RawExpr) (lines : List Line) (is : List NumberedLine) (ls : List Line)
    → is_body f.block ≡ true → is_part f.block ≡ true → nat_le 256 s ≡ false → resolved all (state cs (f ∷ fs) ps s g t) n (NeedItem e) ≡ Ok lines
    → Rest all cs ps t (f ∷ fs) (suc s) g is ls → Rest all cs ps t (f ∷ fs) s g ((n, NeedItem e) ∷ is) (lines ++ ls)
unfolding resolved
need_back all cs ps t f fs s g n e lines is ls b o w d r =
    let seen = state cs (f ∷ fs) ps s g t in
    let l = one_line_parts _ lines d in
    let x = map_parts (grammar.Need n) _ l.0 l.1 in
    front all cs ps t (f ∷ fs) s g _ (grammar.Need n x.0) lines ls (l.2 ∙ ap (λ k. k ∷ []) x.2)
    (in_front all cs ps f.block (here t f fs) f.locals (Rest all cs ps t fs) s g (suc s) g _ is _ ls b
    (λ q k1. need (part_spot t f.block o) (below 256 s w) (sym (same_expr all seen e) ∙ x.1) k1) r)

-- an `else`, behind which the other part stands
pub else_back : (all cs : List Declared) (ps : List (List ℕ)) (t : List ℕ) (b : Block) (own : Locals) (fs : List Frame) (s g n : ℕ) (m : BlockAction) (lines : List Line) (is : List NumberedLine) (ls : List Line)
    → in_block b ElseItem ≡ Some m → lines ≡ grammar.Else ∷ []
    → Rest all cs ps t (moved m (framed b own ∷ fs)) s g is ls → Rest all cs ps t (framed b own ∷ fs) s g ((n, ElseItem) ∷ is) (lines ++ ls)
unfolding in_block
else_back all cs ps t (Then part) own fs s g n m lines is ls e l r =
    let w : Turn (Else part) ≡ m = cc in
    let q = subst (λ (m : BlockAction). Rest all cs ps t (moved m (framed (Then part) own ∷ fs)) s g is ls) (sym w) r in
    front all cs ps t (framed (Then part) own ∷ fs) s g _ grammar.Else lines ls l
    (inl (record { statements = s; gets = g; number = n; items = is; lines = ls; derived = no_statement; rest = q }))
else_back all cs ps t Part own fs s g n m lines is ls e l r =
    let w : Turn OtherPart ≡ m = cc in
    let q = subst (λ (m : BlockAction). Rest all cs ps t (moved m (framed Part own ∷ fs)) s g is ls) (sym w) r in
    front all cs ps t (framed Part own ∷ fs) s g _ grammar.Else lines ls l
    (record { statements = s; gets = g; number = n; items = is; lines = ls; derived = no_statement; rest = q })
else_back all cs ps t (Else true) own fs s g n m lines is ls e l r = absurd (cc)
else_back all cs ps t (Else false) own fs s g n m lines is ls e l r = absurd (cc)
else_back all cs ps t _ own fs s g n m lines is ls e l r = absurd (cc)

-- the blocks behind an `else`
then_other : (c : Declared) (cs : List Declared) (p : Bool) (own : Locals) (fs : List Frame) → IsStack (c ∷ cs) (framed (Then p) own ∷ fs) → IsStack (c ∷ cs) (frame (Else p) ∷ fs)
then_other c cs false own _ (outer (in_then i)) = outer (in_else i)
then_other c cs true own _ (inner (part_then i)) = inner (part_else i)
then_other c cs false own _ (inner i) = elim i [ ]
then_other c cs true own _ (outer i) = elim i [ ]

part_other : (c : Declared) (cs : List Declared) (own : Locals) (fs : List Frame) → IsStack (c ∷ cs) (framed Part own ∷ fs) → IsStack (c ∷ cs) (frame OtherPart ∷ fs)
part_other c cs own _ (inner (in_part i)) = outer (in_other i)
part_other c cs own _ (outer i) = elim i [ ]

pub else_stack : (c : Declared) (cs : List Declared) (b : Block) (own : Locals) (fs : List Frame) (m : BlockAction)
    → IsStack (c ∷ cs) (framed b own ∷ fs) → in_block b ElseItem ≡ Some m → IsStack (c ∷ cs) (moved m (framed b own ∷ fs))
unfolding in_block
else_stack c cs (Then p) own fs m i e = let w : Turn (Else p) ≡ m = cc in subst (λ (m : BlockAction). IsStack (c ∷ cs) (moved m (framed (Then p) own ∷ fs))) w (then_other c cs p own fs i)
else_stack c cs Part own fs m i e = let w : Turn OtherPart ≡ m = cc in subst (λ (m : BlockAction). IsStack (c ∷ cs) (moved m (framed Part own ∷ fs))) w (part_other c cs own fs i)
else_stack c cs (Else true) own fs m i e = absurd (cc)
else_stack c cs (Else false) own fs m i e = absurd (cc)
else_stack c cs _ own fs m i e = absurd (cc)

-- the end of a block
closed : {a : Around} {h : Here} {k : Goal} {item : SyntaxLine} {front : List Line} (s g n : ℕ) (is : List NumberedLine) (ls : List Line) → k s g is ls → UpTo a h item front k (ahead s g ((n, item) ∷ is) (front ++ ls))
closed s g n is ls r = record { statements = s; gets = g; number = n; items = is; lines = ls; derived = no_statement; rest = r }

no_more_handlers : (all : List Declared) (c : Declared) (cs : List Declared) (hs : List (List ℕ × ℕ)) (n : ℕ) (is : List NumberedLine) (ls : List Line) → c.handlers ≡ hs → Components all (c ∷ cs) (is, ls) → PcomRest all (c ∷ cs) hs ((n, EndItem) ∷ is) (grammar.End ∷ ls)
no_more_handlers all c cs [] n is ls e r = record {
  vars = c.vars;
  items = (n, EndItem) ∷ is;
  lines = grammar.End ∷ ls;
  derived = no_var;
  rest = record { handlers = c.handlers; number = n; items = is; lines = ls; derived = no_handler; rest = r };
}
no_more_handlers all c cs (h ∷ hs) n is ls e r = record { handlers = c.handlers; number = n; items = is; lines = ls; derived = no_handler; rest = r }

pub end_back : (all cs : List Declared) (ps : List (List ℕ)) (t : List ℕ) (f : Frame) (fs : List Frame) (s g n : ℕ) (m : BlockAction) (lines : List Line) (is : List NumberedLine) (ls : List Line)
    → IsStack cs (f ∷ fs) → in_block f.block EndItem ≡ Some m → lines ≡ ended (f ∷ fs)
    → Rest all cs ps t (moved m (f ∷ fs)) s g is ls → Rest all cs ps t (f ∷ fs) s g ((n, EndItem) ∷ is) (lines ++ ls)
unfolding in_block
end_back all _ ps t _ _ s g n m lines is ls (in_tcom {c = c} {cs = cs}) e l r =
    let w : Finish ≡ m = cc in
    let q = subst (λ (m : BlockAction). Rest all (c ∷ cs) ps t (moved m (frame TcomBlock ∷ [])) s g is ls) (sym w) r in
    front all (c ∷ cs) ps t (frame TcomBlock ∷ []) s g _ grammar.End lines ls l (record { keys = c.keys; number = n; items = is; lines = ls; derived = no_key; rest = q })
end_back all _ ps t _ _ s g n m lines is ls (in_pcom {c = c} {cs = cs}) e l r =
    let w : Finish ≡ m = cc in
    let q = subst (λ (m : BlockAction). Rest all (c ∷ cs) ps t (moved m (frame PcomBlock ∷ [])) s g is ls) (sym w) r in
    front all (c ∷ cs) ps t (frame PcomBlock ∷ []) s g _ grammar.End lines ls l (no_more_handlers all c cs c.handlers n is ls refl q)
end_back all _ ps t _ _ s g n m lines is ls (outer {c = c} {cs = cs} (in_handler {ls = own})) e l r =
    let w : Finish ≡ m = cc in
    let fs = framed HandlerBlock own ∷ frame PcomBlock ∷ [] in
    let q = subst (λ (m : BlockAction). Rest all (c ∷ cs) ps t (moved m fs) s g is ls) (sym w) r in
    front all (c ∷ cs) ps t fs s g _ grammar.End lines ls l (closed s g n is ls q)
end_back all _ ps t _ _ s g n m lines is ls (outer {c = c} {cs = cs} (in_then {ls = own} {fs = fs} i)) e l r =
    let w : Finish ≡ m = cc in
    let q = subst (λ (m : BlockAction). Rest all (c ∷ cs) ps t (moved m (framed (Then false) own ∷ fs)) s g is ls) (sym w) r in
    subst (λ (z : List Line). Rest all (c ∷ cs) ps t (framed (Then false) own ∷ fs) s g ((n, EndItem) ∷ is) (z ++ ls)) (sym l) (inr (closed s g n is ls q))
end_back all _ ps t _ _ s g n m lines is ls (outer {c = c} {cs = cs} (in_else {ls = own} {fs = fs} i)) e l r =
    let w : Finish ≡ m = cc in
    let q = subst (λ (m : BlockAction). Rest all (c ∷ cs) ps t (moved m (framed (Else false) own ∷ fs)) s g is ls) (sym w) r in
    front all (c ∷ cs) ps t (framed (Else false) own ∷ fs) s g _ grammar.End lines ls l (closed s g n is ls q)
end_back all _ ps t _ _ s g n m lines is ls (outer {c = c} {cs = cs} (in_other {ls = own} {fs = fs} i)) e l r =
    let w : Finish ≡ m = cc in
    let q = subst (λ (m : BlockAction). Rest all (c ∷ cs) ps t (moved m (framed OtherPart own ∷ fs)) s g is ls) (sym w) r in
    front all (c ∷ cs) ps t (framed OtherPart own ∷ fs) s g _ grammar.End lines ls l (closed s g n is ls q)
end_back all _ ps t _ _ s g n m lines is ls (inner (at_start i)) e l r = absurd (cc)
end_back all _ ps t _ _ s g n m lines is ls (inner (in_part i)) e l r = absurd (cc)
end_back all _ ps t _ _ s g n m lines is ls (inner {c = c} {cs = cs} (part_then {ls = own} {fs = fs} i)) e l r =
    let w : Finish ≡ m = cc in
    let q = subst (λ (m : BlockAction). Rest all (c ∷ cs) ps t (moved m (framed (Then true) own ∷ fs)) s g is ls) (sym w) r in
    subst (λ (z : List Line). Rest all (c ∷ cs) ps t (framed (Then true) own ∷ fs) s g ((n, EndItem) ∷ is) (z ++ ls)) (sym l) (inr (closed s g n is ls q))
end_back all _ ps t _ _ s g n m lines is ls (inner {c = c} {cs = cs} (part_else {ls = own} {fs = fs} i)) e l r =
    let w : Finish ≡ m = cc in
    let q = subst (λ (m : BlockAction). Rest all (c ∷ cs) ps t (moved m (framed (Else true) own ∷ fs)) s g is ls) (sym w) r in
    front all (c ∷ cs) ps t (framed (Else true) own ∷ fs) s g _ grammar.End lines ls l (closed s g n is ls q)

pub end_stack : (cs : List Declared) (f : Frame) (fs : List Frame) (m : BlockAction) → IsStack cs (f ∷ fs) → in_block f.block EndItem ≡ Some m → IsStack cs (moved m (f ∷ fs))
unfolding in_block
end_stack _ _ _ m (in_tcom {c = c} {cs = cs}) e = let w : Finish ≡ m = cc in subst (λ (m : BlockAction). IsStack (c ∷ cs) (moved m (frame TcomBlock ∷ []))) w stacks.outside
end_stack _ _ _ m (in_pcom {c = c} {cs = cs}) e = let w : Finish ≡ m = cc in subst (λ (m : BlockAction). IsStack (c ∷ cs) (moved m (frame PcomBlock ∷ []))) w stacks.outside
end_stack _ _ _ m (outer {c = c} {cs = cs} (in_handler {ls = own})) e = let w : Finish ≡ m = cc in subst (λ (m : BlockAction). IsStack (c ∷ cs) (moved m (framed HandlerBlock own ∷ frame PcomBlock ∷ []))) w in_pcom
end_stack _ _ _ m (outer {c = c} {cs = cs} (in_then {ls = own} {fs = fs} i)) e = let w : Finish ≡ m = cc in subst (λ (m : BlockAction). IsStack (c ∷ cs) (moved m (framed (Then false) own ∷ fs))) w (stack_plain c cs fs i)
end_stack _ _ _ m (outer {c = c} {cs = cs} (in_else {ls = own} {fs = fs} i)) e = let w : Finish ≡ m = cc in subst (λ (m : BlockAction). IsStack (c ∷ cs) (moved m (framed (Else false) own ∷ fs))) w (stack_plain c cs fs i)
end_stack _ _ _ m (outer {c = c} {cs = cs} (in_other {ls = own} {fs = fs} i)) e = let w : Finish ≡ m = cc in subst (λ (m : BlockAction). IsStack (c ∷ cs) (moved m (framed OtherPart own ∷ fs))) w (stack_plain c cs fs i)
end_stack _ _ _ m (inner (at_start i)) e = absurd (cc)
end_stack _ _ _ m (inner (in_part i)) e = absurd (cc)
end_stack _ _ _ m (inner {c = c} {cs = cs} (part_then {ls = own} {fs = fs} i)) e = let w : Finish ≡ m = cc in subst (λ (m : BlockAction). IsStack (c ∷ cs) (moved m (framed (Then true) own ∷ fs))) w (stack_part c cs fs i)
end_stack _ _ _ m (inner {c = c} {cs = cs} (part_else {ls = own} {fs = fs} i)) e = let w : Finish ≡ m = cc in subst (λ (m : BlockAction). IsStack (c ∷ cs) (moved m (framed (Else true) own ∷ fs))) w (stack_part c cs fs i)

-- keys, variables and handlers
pub key_back : (all : List Declared) (c : Declared) (cs : List Declared) (n : ℕ) (k : List ℕ) (z : ℤ) (lines : List Line) (is : List NumberedLine) (ls : List Line)
    → is_reserved k ≡ false → is_in k c.keys ≡ false → nat_le 1024 (length c.keys) ≡ false → lines ≡ grammar.Key k z ∷ []
    → KeysRest all (record c { keys = c.keys ++ k ∷ [] } ∷ cs) is ls → KeysRest all (c ∷ cs) ((n, KeyItem k z) ∷ is) (lines ++ ls)
key_back all c cs n k z lines is ls free new few l r =
    subst (λ (x : List Line). KeysRest all (c ∷ cs) ((n, KeyItem k z) ∷ is) (x ++ ls)) (sym l)
    (record { keys = r.keys; number = r.number; items = r.items; lines = r.lines; derived = key free new (below 1024 (length c.keys) few) r.derived; rest = r.rest })

none_yet : {X : Type 0} (hs : List X) → nat_lt 0 (length hs) ≡ false → hs ≡ []
none_yet [] e = refl
none_yet (h ∷ hs) e = let u : length (h ∷ hs) ≤ 0 = up_to 0 (length (h ∷ hs)) e in absurd (omega (arith, u))

pub var_back : (all : List Declared) (c : Declared) (cs : List Declared) (n : ℕ) (v : List ℕ) (z : ℤ) (lines : List Line) (is : List NumberedLine) (ls : List Line)
    → is_reserved v ≡ false → nat_lt 0 (length c.handlers) ≡ false → is_in v c.vars ≡ false → nat_le 32 (length c.vars) ≡ false → lines ≡ grammar.Var v z ∷ []
    → PcomRest all (record c { vars = c.vars ++ v ∷ [] } ∷ cs) c.handlers is ls → PcomRest all (c ∷ cs) c.handlers ((n, VarItem v z) ∷ is) (lines ++ ls)
var_back all c cs n v z lines is ls free none new few l r =
    let e = none_yet c.handlers none in
    let q : VarsRest all (record c { vars = c.vars ++ v ∷ [] } ∷ cs) is ls = subst (λ (hs : List (List ℕ × ℕ)). PcomRest all (record c { vars = c.vars ++ v ∷ [] } ∷ cs) hs is ls) e r in
    subst (λ (hs : List (List ℕ × ℕ)). PcomRest all (c ∷ cs) hs ((n, VarItem v z) ∷ is) (lines ++ ls)) (sym e)
    (subst (λ (x : List Line). VarsRest all (c ∷ cs) ((n, VarItem v z) ∷ is) (x ++ ls)) (sym l)
    (record {
      vars = q.vars;
      items = q.items;
      lines = q.lines;
      derived = var free new (below 32 (length c.vars) few) q.derived;
      rest = record { handlers = q.rest.handlers; number = q.rest.number; items = q.rest.items; lines = q.rest.lines; derived = q.rest.derived; rest = q.rest.rest };
    }))

behind_handler : (all : List Declared) (c : Declared) (cs : List Declared) (hs : List (List ℕ × ℕ)) (h : List ℕ × ℕ) (is : List NumberedLine) (ls : List Line)
    → PcomRest all (c ∷ cs) (hs ++ h ∷ []) is ls → HandlersRest all (c ∷ cs) c.vars is ls
behind_handler all c cs [] h is ls r = r
behind_handler all c cs (i ∷ hs) h is ls r = r

before_handler : (all : List Declared) (c : Declared) (cs : List Declared) (hs : List (List ℕ × ℕ)) (is : List NumberedLine) (ls : List Line)
    → HandlersRest all (c ∷ cs) c.vars is ls → PcomRest all (c ∷ cs) hs is ls
before_handler all c cs [] is ls r = record { vars = c.vars; items = is; lines = ls; derived = no_var; rest = r }
before_handler all c cs (i ∷ hs) is ls r = r

pub on_back : (all : List Declared) (c : Declared) (cs : List Declared) (t : List ℕ) (n : ℕ) (m : List ℕ) (ps : List (List ℕ)) (lines : List Line) (is : List NumberedLine) (ls : List Line)
    → list_any is_reserved (m ∷ ps) ≡ false → (is_in m (names c.handlers) || has_twice ps || list_any (λ p. is_in p c.vars) ps) ≡ false
    → (nat_le 64 (length c.handlers) || nat_lt 8 (length ps)) ≡ false → lines ≡ grammar.On m (length ps) ∷ []
    → Rest all (record c { handlers = c.handlers ++ (m, length ps) ∷ [] } ∷ cs) ps t (frame HandlerBlock ∷ frame PcomBlock ∷ []) 0 0 is ls
    → PcomRest all (c ∷ cs) c.handlers ((n, OnItem m ps) ∷ is) (lines ++ ls)
on_back all c cs t n m ps lines is ls free new few l r =
    let q = behind_handler all (record c { handlers = c.handlers ++ (m, length ps) ∷ [] }) cs c.handlers (m, length ps) r.items r.lines r.rest in
    let d = neither (is_in m (names c.handlers) || has_twice ps) (list_any (λ p. is_in p c.vars) ps) new in
    let e = neither (is_in m (names c.handlers)) (has_twice ps) d.0 in
    let k = neither (nat_le 64 (length c.handlers)) (nat_lt 8 (length ps)) few in
    subst (λ (x : List Line). PcomRest all (c ∷ cs) c.handlers ((n, OnItem m ps) ∷ is) (x ++ ls)) (sym l)
    (before_handler all c cs c.handlers _ _
    (record {
      handlers = q.handlers;
      number = q.number;
      items = q.items;
      lines = q.lines;
      derived = handler free e.0 e.1 d.1 (below 64 (length c.handlers) k.0) (up_to 8 (length ps) k.1) r.derived q.derived;
      rest = q.rest;
    }))

-- components
pub may_come : (n : List ℕ) (cs : List Declared) → (is_reserved n || false) ≡ false → is_in n (map (λ (c : Declared). c.name) cs) ≡ false → nat_le 32 (length cs) ≡ false → MayCome n cs
may_come n cs free new few = record { free = (neither (is_reserved n) false free).0; new = new; few = below 32 (length cs) few }
