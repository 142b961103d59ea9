-- The passes take what the grammar by relations derives: statements, handlers and components.
use Rattle.std.proofs.Common.{◌≡◌, ◌∙◌, sym, ap, refl, subst, arith, ◌<◌, ◌≤◌, ℕ, suc, List, [], ◌∷◌, ◌++◌, length, Bool, true, false, Some, Ok, nat_lt, bytes_eq}
use Rattle.ic_base.specs.declared.messages.Kind.TheVariants.{Pcom, Tcom, Xcom}
use Rattle.ic_base.specs.declared.scenario.Operand.{Operand}
use Rattle.ic_base.specs.declared.scenario.Expr.{Expr}
use Rattle.def_syntax.specs.Text.{look_up}
use Rattle.def_syntax.specs.SyntaxLines.{RawOperand, RawExpr, SyntaxLine, SetItem, SendItem, OutItem, IfItem, TxnItem, GetItem, PutItem, NeedItem, ElseItem, EndItem, both}
use Rattle.def_syntax.specs.Blocks.{Block, HandlerBlock, PartStart, Part, OtherPart, Then, Else, BlockAction, Stay, Begin, Turn, Finish, in_block}
use Rattle.def_syntax.specs.Scope.{Declared, Frame, Scope, is_in, is_reserved, frame, names, noted, behind, is_twice, passes, scope_with}
use Rattle.def_syntax.specs.Names.{place_of, found, com_id, one_line, key_of, expr_of, operands_of, ended, resolved}
use Rattle.def_syntax.specs.Lines.{Line}
use Rattle.def_syntax.specs.Lines as grammar
use Rattle.def_syntax.specs.Grammar.{NumberedLine, Locals, TxnContext, Plain, PartOf, Here, locals_in, inside, key_in, expr_in, operands_in, Ahead, begins_part, Statements, no_statement, set, send, out, choice, lone_choice, txn, get, put, need}
use Rattle.def_syntax.proofs.Parts.{same_expr, same_operands, taken}
use Rattle.def_syntax.proofs.Stacks.{framed, depth_under, is_part, context_if, here, around_in, is_body, length_depth}
use Rattle.def_syntax.proofs.Derivations.{state}
use Rattle.def_syntax.proofs.Taking.{Ends, done, next, takes, named_one, named_both, named_map, named_sent, not_below, not_above, neither_is, set_stays, if_begins, send_stays, out_stays, txn_begins, get_stays, put_stays, need_stays}

-- in a part the latest Tcom is that of the part
spot_of_plain : (t : List ℕ) (p : Bool) → context_if t p ≡ Plain → p ≡ false
spot_of_plain t true e = absurd (cc)
spot_of_plain t false e = refl

spot_of_part : (t u : List ℕ) (p : Bool) → context_if t p ≡ PartOf u → (p ≡ true) × (t ≡ u)
spot_of_part t u true e = (refl, cc)
spot_of_part t u false e = absurd (cc)

same_spot : (t u : List ℕ) (p : Bool) → (p ≡ true → u ≡ t) → context_if t p ≡ context_if u p
same_spot t u true e = ap PartOf (sym (e refl))
same_spot t u false e = refl

same_here : (t u : List ℕ) (b : Block) (own : Locals) (fs : List Frame) → (is_part b ≡ true → u ≡ t) → here t (framed b own) fs ≡ here u (framed b own) fs
same_here t u b own fs e = ap (λ (s : TxnContext). record (here t (framed b own) fs) { context = s }) (same_spot t u (is_part b) e)

-- behind statements of a block: it may have more locals, and outside parts another Tcom may be the latest
abbrev pub Behind : List Declared → List Declared → List (List ℕ) → List ℕ → Block → List Frame → Ahead → Type 0
Behind all cs ps t b fs q = (u : List ℕ) (own : Locals) → (is_part b ≡ true → u ≡ t) → Ends all (state cs (framed b own ∷ fs) ps q.statements q.gets u) q.items q.lines

expr_here : (all cs : List Declared) (ps : List (List ℕ)) (t : List ℕ) (f : Frame) (fs : List Frame) (s g : ℕ) (h : Here) (e : RawExpr) (x : Expr)
    → h ≡ here t f fs → expr_in (around_in all cs ps) (locals_in h) e ≡ Some x → expr_of (state cs (f ∷ fs) ps s g t) e ≡ Some x
expr_here all cs ps t f fs s g h e x i d = same_expr all (state cs (f ∷ fs) ps s g t) e ∙ subst (λ (h : Here). expr_in (around_in all cs ps) (locals_in h) e ≡ Some x) i d

operands_here : (all cs : List Declared) (ps : List (List ℕ)) (t : List ℕ) (f : Frame) (fs : List Frame) (s g : ℕ) (h : Here) (xs : List RawOperand) (os : List Operand)
    → h ≡ here t f fs → operands_in (around_in all cs ps) (locals_in h) xs ≡ Some os → operands_of (state cs (f ∷ fs) ps s g t) xs ≡ Some os
operands_here all cs ps t f fs s g h xs os i d = same_operands all (state cs (f ∷ fs) ps s g t) xs ∙ subst (λ (h : Here). operands_in (around_in all cs ps) (locals_in h) xs ≡ Some os) i d

taken_set : (all cs : List Declared) (ps : List (List ℕ)) (t : List ℕ) (b : Block) (own : Locals) (fs : List Frame) (s g n i : ℕ) (h : Here) (v : List ℕ) (e : RawExpr) (x : Expr) (is : List NumberedLine) (ls : List Line)
    → is_body b ≡ true → h ≡ here t (framed b own) fs → s < 256 → place_of v (around_in all cs ps).vars ≡ Some i → expr_in (around_in all cs ps) (locals_in h) e ≡ Some x
    → Ends all (state cs (framed b own ∷ fs) ps (suc s) g t) is ls → Ends all (state cs (framed b own ∷ fs) ps s g t) ((n, SetItem v e) ∷ is) (grammar.Set i x ∷ ls)
unfolding noted passes is_twice resolved
taken_set all cs ps t b own fs s g n i h v e x is ls body w l p d r =
    next (takes (state cs (framed b own ∷ fs) ps s g t) (SetItem v e) Stay refl refl (set_stays b v e body) refl (not_below 256 s l))
    (named_one _ _ (named_both grammar.Set _ _ i x p (expr_here all cs ps t (framed b own) fs s g h e x w d))) r

taken_send : (all cs : List Declared) (ps : List (List ℕ)) (t : List ℕ) (b : Block) (own : Locals) (fs : List Frame) (s g n i : ℕ) (h : Here) (p m : List ℕ) (xs : List RawOperand) (c : ℕ × Declared) (os : List Operand) (is : List NumberedLine) (ls : List Line)
    → is_body b ≡ true → is_part b ≡ false → h ≡ here t (framed b own) fs → s < 256 → length xs ≤ 8 → bytes_eq p (around_in all cs ps).me ≡ false
    → found Pcom p all ≡ Some c → place_of m (names c.1.handlers) ≡ Some i → operands_in (around_in all cs ps) (locals_in h) xs ≡ Some os → look_up m c.1.handlers ≡ Some (length os)
    → Ends all (state cs (framed b own ∷ fs) ps (suc s) g t) is ls → Ends all (state cs (framed b own ∷ fs) ps s g t) ((n, SendItem p m xs) ∷ is) (grammar.Send (com_id c.0) i os ∷ ls)
unfolding noted passes is_twice resolved
taken_send all cs ps t b own fs s g n i h p m xs c os is ls body outside w l few me f at d count r =
    next {ls = grammar.Send (com_id c.0) i os ∷ []} (takes (state cs (framed b own ∷ fs) ps s g t) (SendItem p m xs) Stay refl me (send_stays b p m xs body outside) refl (neither_is _ _ (not_below 256 s l) (not_above 8 (length xs) few)))
    (rw f (named_sent c.0 _ _ _ i os at count (operands_here all cs ps t (framed b own) fs s g h xs os w d))) r

taken_out : (all cs : List Declared) (ps : List (List ℕ)) (t : List ℕ) (b : Block) (own : Locals) (fs : List Frame) (s g n : ℕ) (h : Here) (x : List ℕ) (xs : List RawOperand) (c : ℕ × Declared) (os : List Operand) (is : List NumberedLine) (ls : List Line)
    → is_body b ≡ true → is_part b ≡ false → h ≡ here t (framed b own) fs → s < 256 → length xs ≤ 8
    → found Xcom x all ≡ Some c → operands_in (around_in all cs ps) (locals_in h) xs ≡ Some os
    → Ends all (state cs (framed b own ∷ fs) ps (suc s) g t) is ls → Ends all (state cs (framed b own ∷ fs) ps s g t) ((n, OutItem x xs) ∷ is) (grammar.Out (com_id c.0) os ∷ ls)
unfolding noted passes is_twice resolved
taken_out all cs ps t b own fs s g n h x xs c os is ls body outside w l few f d r =
    next (takes (state cs (framed b own ∷ fs) ps s g t) (OutItem x xs) Stay refl refl (out_stays b x xs body outside) refl (neither_is _ _ (not_below 256 s l) (not_above 8 (length xs) few)))
    (named_one _ _ (named_both (λ (c : ℕ × Declared) os. grammar.Out (com_id c.0) os) _ _ c os f (operands_here all cs ps t (framed b own) fs s g h xs os w d))) r

not_deep : (f u : Frame) (us : List Frame) → depth_under (u ∷ us) < 16 → nat_lt 17 (length (f ∷ u ∷ us)) ≡ false
not_deep f u us l = let d = length_depth u us in not_above 17 (length (f ∷ u ∷ us)) (omega (arith, d, l))

taken_if : (all cs : List Declared) (ps : List (List ℕ)) (t : List ℕ) (b : Block) (own : Locals) (u : Frame) (us : List Frame) (s g n : ℕ) (h : Here) (e : RawExpr) (x : Expr) (is : List NumberedLine) (ls : List Line)
    → is_body b ≡ true → h ≡ here t (framed b own) (u ∷ us) → s < 256 → h.depth < 16 → expr_in (around_in all cs ps) (locals_in h) e ≡ Some x
    → Ends all (state cs (frame (Then (is_part b)) ∷ framed b own ∷ u ∷ us) ps (suc s) g t) is ls → Ends all (state cs (framed b own ∷ u ∷ us) ps s g t) ((n, IfItem e) ∷ is) (grammar.If x ∷ ls)
unfolding noted passes is_twice resolved
taken_if all cs ps t b own u us s g n h e x is ls body w l deep d r =
    next (takes (state cs (framed b own ∷ u ∷ us) ps s g t) (IfItem e) (Begin (Then (is_part b))) refl refl (if_begins b e body) refl
    (neither_is _ _ (not_below 256 s l) (not_deep (framed b own) u us (subst (λ (h : Here). h.depth < 16) w deep))))
    (named_one _ _ (named_map grammar.If _ x (expr_here all cs ps t (framed b own) (u ∷ us) s g h e x w d))) r

taken_txn : (all cs : List Declared) (ps : List (List ℕ)) (t : List ℕ) (b : Block) (own : Locals) (u : Frame) (us : List Frame) (s g n : ℕ) (h : Here) (v : List ℕ) (c : ℕ × Declared) (is : List NumberedLine) (ls : List Line)
    → is_body b ≡ true → is_part b ≡ false → h ≡ here t (framed b own) (u ∷ us) → s < 256 → h.depth < 16 → found Tcom v all ≡ Some c
    → Ends all (state cs (frame PartStart ∷ framed b own ∷ u ∷ us) ps (suc s) g v) is ls → Ends all (state cs (framed b own ∷ u ∷ us) ps s g t) ((n, TxnItem v) ∷ is) (grammar.Txn (com_id c.0) ∷ ls)
unfolding noted passes is_twice resolved
taken_txn all cs ps t b own u us s g n h v c is ls body outside w l deep f r =
    next (takes (state cs (framed b own ∷ u ∷ us) ps s g t) (TxnItem v) (Begin PartStart) refl refl (txn_begins b v body outside) refl
    (neither_is _ _ (not_below 256 s l) (not_deep (framed b own) u us (subst (λ (h : Here). h.depth < 16) w deep))))
    (named_one _ _ (named_map (λ (c : ℕ × Declared). grammar.Txn (com_id c.0)) _ c f)) r

taken_get : (all cs : List Declared) (ps : List (List ℕ)) (t : List ℕ) (b : Block) (own : Locals) (fs : List Frame) (s g n i : ℕ) (h : Here) (x k : List ℕ) (is : List NumberedLine) (ls : List Line)
    → is_body b ≡ true → is_part b ≡ true → h ≡ here t (framed b own) fs → s < 256 → is_reserved x ≡ false → is_in x ((around_in all cs ps).vars ++ ps ++ names (locals_in h)) ≡ false → key_in (around_in all cs ps) t k ≡ Some i
    → Ends all (state cs (framed b (own ++ (x, g) ∷ []) ∷ fs) ps (suc s) (suc g) t) is ls → Ends all (state cs (framed b own ∷ fs) ps s g t) ((n, GetItem x k) ∷ is) (grammar.Get g i ∷ ls)
unfolding noted passes is_twice resolved
taken_get all cs ps t b own fs s g n i h x k is ls body part w l free new d r =
    next (takes (state cs (framed b own ∷ fs) ps s g t) (GetItem x k) Stay (neither_is _ _ free refl) refl (get_stays b x k body part)
    (subst (λ (h : Here). is_in x ((around_in all cs ps).vars ++ ps ++ names (locals_in h)) ≡ false) w new) (not_below 256 s l))
    (named_one _ _ (named_map (grammar.Get g) _ i d)) r

taken_put : (all cs : List Declared) (ps : List (List ℕ)) (t : List ℕ) (b : Block) (own : Locals) (fs : List Frame) (s g n i : ℕ) (h : Here) (k : List ℕ) (e : RawExpr) (x : Expr) (is : List NumberedLine) (ls : List Line)
    → is_body b ≡ true → is_part b ≡ true → h ≡ here t (framed b own) fs → s < 256 → key_in (around_in all cs ps) t k ≡ Some i → expr_in (around_in all cs ps) (locals_in h) e ≡ Some x
    → Ends all (state cs (framed b own ∷ fs) ps (suc s) g t) is ls → Ends all (state cs (framed b own ∷ fs) ps s g t) ((n, PutItem k e) ∷ is) (grammar.Put i x ∷ ls)
unfolding noted passes is_twice resolved
taken_put all cs ps t b own fs s g n i h k e x is ls body part w l place d r =
    next (takes (state cs (framed b own ∷ fs) ps s g t) (PutItem k e) Stay refl refl (put_stays b k e body part) refl (not_below 256 s l))
    (named_one _ _ (named_both grammar.Put _ _ i x place (expr_here all cs ps t (framed b own) fs s g h e x w d))) r

taken_need : (all cs : List Declared) (ps : List (List ℕ)) (t : List ℕ) (b : Block) (own : Locals) (fs : List Frame) (s g n : ℕ) (h : Here) (e : RawExpr) (x : Expr) (is : List NumberedLine) (ls : List Line)
    → is_body b ≡ true → is_part b ≡ true → h ≡ here t (framed b own) fs → s < 256 → expr_in (around_in all cs ps) (locals_in h) e ≡ Some x
    → Ends all (state cs (framed b own ∷ fs) ps (suc s) g t) is ls → Ends all (state cs (framed b own ∷ fs) ps s g t) ((n, NeedItem e) ∷ is) (grammar.Need n x ∷ ls)
unfolding noted passes is_twice resolved
taken_need all cs ps t b own fs s g n h e x is ls body part w l d r =
    next (takes (state cs (framed b own ∷ fs) ps s g t) (NeedItem e) Stay refl refl (need_stays b e body part) refl (not_below 256 s l))
    (named_one _ _ (named_map (grammar.Need n) _ x (expr_here all cs ps t (framed b own) fs s g h e x w d))) r

-- `else` and `end`
taken_else : (all cs : List Declared) (ps : List (List ℕ)) (t : List ℕ) (b c : Block) (own : Locals) (fs : List Frame) (s g n : ℕ) (is : List NumberedLine) (ls : List Line)
    → in_block b ElseItem ≡ Some (Turn c) → Ends all (state cs (frame c ∷ fs) ps s g t) is ls → Ends all (state cs (framed b own ∷ fs) ps s g t) ((n, ElseItem) ∷ is) (grammar.Else ∷ ls)
unfolding noted passes is_twice resolved
taken_else all cs ps t b c own fs s g n is ls e r = next (takes (state cs (framed b own ∷ fs) ps s g t) ElseItem (Turn c) refl refl e refl refl) refl r

pub taken_end : (all cs : List Declared) (ps : List (List ℕ)) (t : List ℕ) (b : Block) (own : Locals) (fs : List Frame) (s g n : ℕ) (front : List Line) (is : List NumberedLine) (ls : List Line)
    → in_block b EndItem ≡ Some Finish → ended (framed b own ∷ fs) ≡ front → Ends all (state cs fs ps s g t) is ls → Ends all (state cs (framed b own ∷ fs) ps s g t) ((n, EndItem) ∷ is) (front ++ ls)
unfolding noted passes is_twice resolved
taken_end all cs ps t b own fs s g n front is ls e l r = next (takes (state cs (framed b own ∷ fs) ps s g t) EndItem Finish refl refl e refl refl) (ap (λ ls. Ok ls) l) r

-- the first statement of a part
same_get : (cs : List Declared) (ps : List (List ℕ)) (t : List ℕ) (fs : List Frame) (s g : ℕ) (x k : List ℕ) (mid : Scope)
    → scope_with (state cs (frame Part ∷ fs) ps s g t) (GetItem x k) ≡ Ok mid → scope_with (state cs (frame PartStart ∷ fs) ps s g t) (GetItem x k) ≡ Ok mid
unfolding noted passes is_twice in_block
same_get cs ps t fs s g x k mid e =
    let d = taken (state cs (frame Part ∷ fs) ps s g t) (GetItem x k) mid e in
    let w : Stay ≡ d.move = let z = d.moves in cc in
    takes (state cs (frame PartStart ∷ fs) ps s g t) (GetItem x k) (Turn Part) d.free d.placed refl d.new d.within
    ∙ ap (λ (z : Scope). Ok z) (sym (d.next_is ∙ ap (λ (m : BlockAction). behind m (GetItem x k) (state cs (frame Part ∷ fs) ps s g t)) (sym w)))

same_put : (cs : List Declared) (ps : List (List ℕ)) (t : List ℕ) (fs : List Frame) (s g : ℕ) (k : List ℕ) (f : RawExpr) (mid : Scope)
    → scope_with (state cs (frame Part ∷ fs) ps s g t) (PutItem k f) ≡ Ok mid → scope_with (state cs (frame PartStart ∷ fs) ps s g t) (PutItem k f) ≡ Ok mid
unfolding noted passes is_twice in_block
same_put cs ps t fs s g k f mid e =
    let d = taken (state cs (frame Part ∷ fs) ps s g t) (PutItem k f) mid e in
    let w : Stay ≡ d.move = let z = d.moves in cc in
    takes (state cs (frame PartStart ∷ fs) ps s g t) (PutItem k f) (Turn Part) d.free d.placed refl d.new d.within
    ∙ ap (λ (z : Scope). Ok z) (sym (d.next_is ∙ ap (λ (m : BlockAction). behind m (PutItem k f) (state cs (frame Part ∷ fs) ps s g t)) (sym w)))

named_same : (all cs : List Declared) (ps : List (List ℕ)) (t : List ℕ) (fs : List Frame) (s g n : ℕ) (k : List ℕ) (f : RawExpr)
    → resolved all (state cs (frame PartStart ∷ fs) ps s g t) n (PutItem k f) ≡ resolved all (state cs (frame Part ∷ fs) ps s g t) n (PutItem k f)
unfolding resolved
named_same all cs ps t fs s g n k f =
    ap (λ x. one_line (both grammar.Put (key_of all (state cs (frame Part ∷ fs) ps s g t) k) x)) (same_expr all (state cs (frame PartStart ∷ fs) ps s g t) f ∙ sym (same_expr all (state cs (frame Part ∷ fs) ps s g t) f))

started_at : (all cs : List Declared) (ps : List (List ℕ)) (t : List ℕ) (fs : List Frame) (s g n : ℕ) (item : SyntaxLine) (mid : Scope) (is : List NumberedLine) (ls rest : List Line)
    → begins_part ((n, item) ∷ is) ≡ true → scope_with (state cs (frame Part ∷ fs) ps s g t) item ≡ Ok mid → resolved all (state cs (frame Part ∷ fs) ps s g t) n item ≡ Ok ls → Ends all mid is rest
    → Ends all (state cs (frame PartStart ∷ fs) ps s g t) ((n, item) ∷ is) (ls ++ rest)
unfolding resolved
started_at all cs ps t fs s g n (GetItem x k) mid is ls rest b e d r = next (same_get cs ps t fs s g x k mid e) d r
started_at all cs ps t fs s g n (PutItem k f) mid is ls rest b e d r = next (same_put cs ps t fs s g k f mid e) (named_same all cs ps t fs s g n k f ∙ d) r
started_at all cs ps t fs s g n _ mid is ls rest b e d r = absurd (cc)

started : (all : List Declared) (seen : Scope) (cs : List Declared) (ps : List (List ℕ)) (t : List ℕ) (fs : List Frame) (s g : ℕ) (is : List NumberedLine) (ls : List Line)
    → seen ≡ state cs (frame Part ∷ fs) ps s g t → begins_part is ≡ true → Ends all seen is ls → Ends all (state cs (frame PartStart ∷ fs) ps s g t) is ls
started all seen cs ps t fs s g _ _ w b (done e a) = absurd (cc)
started all seen cs ps t fs s g _ _ w b (next {mid = mid} {n = n} {item = item} {is = is} {ls = ls} {rest = rest} e d r) =
    started_at all cs ps t fs s g n item mid is ls rest b (subst (λ (z : Scope). scope_with z item ≡ Ok mid) w e) (subst (λ (z : Scope). resolved all z n item ≡ Ok ls) w d) r

-- statements of a block
unfolded_else : (p : Bool) → in_block (Then p) ElseItem ≡ Some (Turn (Else p))
unfolding in_block
unfolded_else p = refl

part_else : in_block Part ElseItem ≡ Some (Turn OtherPart)
unfolding in_block
part_else = refl

then_end : (p : Bool) → in_block (Then p) EndItem ≡ Some Finish
unfolding in_block
then_end p = refl

else_end : (p : Bool) → in_block (Else p) EndItem ≡ Some Finish
unfolding in_block
else_end p = refl

other_end : in_block OtherPart EndItem ≡ Some Finish
unfolding in_block
other_end = refl

pub handler_end : in_block HandlerBlock EndItem ≡ Some Finish
unfolding in_block
handler_end = refl

-- the Tcom that was the latest is so again, or doesn't matter
before_that : (b : Block) (t u v : List ℕ) → (is_part b ≡ true → u ≡ t) → (is_part b ≡ true → v ≡ u) → is_part b ≡ true → v ≡ t
before_that b t u v e d i = d i ∙ e i

not_part : (b : Block) (t v : List ℕ) → is_part b ≡ false → is_part b ≡ true → v ≡ t
not_part b t v e i = let z : true ≡ false = sym i ∙ e in absurd (cc)

pub accepted : (all cs : List Declared) (ps : List (List ℕ)) (b : Block) (u : Frame) (us : List Frame) {h : Here} {p q : Ahead} → Statements (around_in all cs ps) h p q
    → (t : List ℕ) (own : Locals) → is_body b ≡ true → h ≡ here t (framed b own) (u ∷ us) → Behind all cs ps t b (u ∷ us) q
    → Ends all (state cs (framed b own ∷ u ∷ us) ps p.statements p.gets t) p.items p.lines
accepted all cs ps b u us no_statement t own body w k = k t own (λ i. refl)
accepted all cs ps b u us (set {h = h} {s = s} {g = g} {n = n} {i = i} {v = v} {e = e} {x = x} {is = is} {ls = ls} l p d r) t own body w k =
    taken_set all cs ps t b own (u ∷ us) s g n i h v e x is ls body w l p d (accepted all cs ps b u us r t own body w k)
accepted all cs ps b u us (send {h = h} {s = s} {g = g} {n = n} {i = i} {p = p} {m = m} {xs = xs} {c = c} {os = os} {is = is} {ls = ls} o l few me f at d count r) t own body w k =
    let outside = spot_of_plain t (is_part b) (sym (ap (λ (h : Here). h.context) w) ∙ o) in
    taken_send all cs ps t b own (u ∷ us) s g n i h p m xs c os is ls body outside w l few me f at d count (accepted all cs ps b u us r t own body w k)
accepted all cs ps b u us (out {h = h} {s = s} {g = g} {n = n} {x = x} {xs = xs} {c = c} {os = os} {is = is} {ls = ls} o l few f d r) t own body w k =
    let outside = spot_of_plain t (is_part b) (sym (ap (λ (h : Here). h.context) w) ∙ o) in
    taken_out all cs ps t b own (u ∷ us) s g n h x xs c os is ls body outside w l few f d (accepted all cs ps b u us r t own body w k)
accepted all cs ps b u us (choice {h = h} {s = s} {g = g} {n = n} {e = e} {x = x} {is = is} {ls = ls} {s1 = s1} {g1 = g1} {n1 = n1} {is1 = is1} {ls1 = ls1} {s2 = s2} {g2 = g2} {n2 = n2} {is2 = is2} {ls2 = ls2} l deep d r r1 r2) t own body w k =
    let f = framed b own in
    taken_if all cs ps t b own u us s g n h e x is ls body w l deep d
    (accepted all cs ps (Then (is_part b)) f (u ∷ us) r t [] refl (ap (λ (h : Here). inside h.context h) w) (λ t1 own1 e1.
    taken_else all cs ps t1 (Then (is_part b)) (Else (is_part b)) own1 (f ∷ u ∷ us) s1 g1 n1 is1 ls1 (unfolded_else (is_part b))
    (accepted all cs ps (Else (is_part b)) f (u ∷ us) r1 t1 [] refl (ap (λ (h : Here). inside h.context h) (w ∙ same_here t t1 b own (u ∷ us) e1)) (λ t2 own2 e2.
    taken_end all cs ps t2 (Else (is_part b)) own2 (f ∷ u ∷ us) s2 g2 n2 (grammar.End ∷ []) is2 ls2 (else_end (is_part b)) refl
    (accepted all cs ps b u us r2 t2 own body (w ∙ same_here t t2 b own (u ∷ us) (before_that b t t1 t2 e1 e2)) (λ t3 own3 e3. k t3 own3 (before_that b t t2 t3 (before_that b t t1 t2 e1 e2) e3)))))))
accepted all cs ps b u us (lone_choice {h = h} {s = s} {g = g} {n = n} {e = e} {x = x} {is = is} {ls = ls} {s1 = s1} {g1 = g1} {n1 = n1} {is1 = is1} {ls1 = ls1} l deep d r r1) t own body w k =
    let f = framed b own in
    taken_if all cs ps t b own u us s g n h e x is ls body w l deep d
    (accepted all cs ps (Then (is_part b)) f (u ∷ us) r t [] refl (ap (λ (h : Here). inside h.context h) w) (λ t1 own1 e1.
    taken_end all cs ps t1 (Then (is_part b)) own1 (f ∷ u ∷ us) s1 g1 n1 (grammar.Else ∷ grammar.End ∷ []) is1 ls1 (then_end (is_part b)) refl
    (accepted all cs ps b u us r1 t1 own body (w ∙ same_here t t1 b own (u ∷ us) e1) (λ t3 own3 e3. k t3 own3 (before_that b t t1 t3 e1 e3)))))
accepted all cs ps b u us (txn {h = h} {s = s} {g = g} {n = n} {t = v} {c = c} {is = is} {ls = ls} {s1 = s1} {g1 = g1} {n1 = n1} {is1 = is1} {ls1 = ls1} {s2 = s2} {g2 = g2} {n2 = n2} {is2 = is2} {ls2 = ls2} o l deep f1 begins r r1 r2) t own body w k =
    let f = framed b own in
    let outside = spot_of_plain t (is_part b) (sym (ap (λ (h : Here). h.context) w) ∙ o) in
    taken_txn all cs ps t b own u us s g n h v c is ls body outside w l deep f1
    (started all _ cs ps v (f ∷ u ∷ us) (suc s) g is ls refl begins
    (accepted all cs ps Part f (u ∷ us) r v [] refl (ap (inside (PartOf v)) w) (λ t1 own1 e1.
    taken_else all cs ps t1 Part OtherPart own1 (f ∷ u ∷ us) s1 g1 n1 is1 ls1 part_else
    (accepted all cs ps OtherPart f (u ∷ us) r1 t1 [] refl (ap (inside Plain) w) (λ t2 own2 e2.
    taken_end all cs ps t2 OtherPart own2 (f ∷ u ∷ us) s2 g2 n2 (grammar.End ∷ []) is2 ls2 other_end refl
    (accepted all cs ps b u us r2 t2 own body (w ∙ same_here t t2 b own (u ∷ us) (not_part b t t2 outside)) (λ t3 own3 e3. k t3 own3 (not_part b t t3 outside))))))))
accepted all cs ps b u us (get {h = h} {s = s} {g = g} {n = n} {i = i} {t = v} {x = x} {k = name} {is = is} {ls = ls} o l free new d r) t own body w k =
    let part = spot_of_part t v (is_part b) (sym (ap (λ (h : Here). h.context) w) ∙ o) in
    taken_get all cs ps t b own (u ∷ us) s g n i h x name is ls body part.0 w l free new (subst (λ (z : List ℕ). key_in (around_in all cs ps) z name ≡ Some i) (sym part.1) d)
    (accepted all cs ps b u us r t (own ++ (x, g) ∷ []) body (ap (λ (h : Here). record h { own = h.own ++ (x, g) ∷ [] }) w) k)
accepted all cs ps b u us (put {h = h} {s = s} {g = g} {n = n} {i = i} {t = v} {k = name} {e = e} {x = x} {is = is} {ls = ls} o l d1 d r) t own body w k =
    let part = spot_of_part t v (is_part b) (sym (ap (λ (h : Here). h.context) w) ∙ o) in
    taken_put all cs ps t b own (u ∷ us) s g n i h name e x is ls body part.0 w l (subst (λ (z : List ℕ). key_in (around_in all cs ps) z name ≡ Some i) (sym part.1) d1) d
    (accepted all cs ps b u us r t own body w k)
accepted all cs ps b u us (need {h = h} {s = s} {g = g} {n = n} {t = v} {e = e} {x = x} {is = is} {ls = ls} o l d r) t own body w k =
    let part = spot_of_part t v (is_part b) (sym (ap (λ (h : Here). h.context) w) ∙ o) in
    taken_need all cs ps t b own (u ∷ us) s g n h e x is ls body part.0 w l d (accepted all cs ps b u us r t own body w k)
