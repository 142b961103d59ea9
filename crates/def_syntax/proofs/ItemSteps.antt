-- Each item leads from what may be seen to what may be seen, and the grammar goes on in front of it.
use Rattle.std.proofs.Common.{◌≡◌, ◌∙◌, sym, ap, refl, subst, ◌⊎◌, inl, inr, ℕ, ℤ, List, [], ◌∷◌, ◌++◌, flat_map, Bool, true, false, Some, Result, Ok, nat_le}
use Rattle.std.specs.List.{list_any}
use Rattle.ic_base.specs.declared.messages.Kind.TheVariants.{Pcom}
use Rattle.ic_base.specs.declared.refusals.Cause.{Cause}
use Rattle.def_syntax.specs.SyntaxLines.{RawOperand, RawExpr, SyntaxLine, XcomItem, TcomItem, PcomItem, KeyItem, VarItem, OnItem, SetItem, SendItem, OutItem, IfItem, TxnItem, GetItem, PutItem, NeedItem, ElseItem, EndItem}
use Rattle.def_syntax.specs.Blocks.{Block, TcomBlock, PcomBlock, HandlerBlock, PartStart, Part, OtherPart, Then, Else, BlockAction, Stay, Begin, Turn, in_block}
use Rattle.def_syntax.specs.Scope.{Declared, Frame, Scope, names, is_in, is_reserved, declares, frame, noted, behind, is_twice, passes, is_out_of_place, move_in}
use Rattle.def_syntax.specs.Names.{found, resolved}
use Rattle.def_syntax.specs.Lines.{Line}
use Rattle.def_syntax.specs.Grammar.{Components, xcom, tcom, pcom}
use Rattle.def_syntax.proofs.Stacks.{framed, IsPlain, in_handler, in_then, in_else, in_other, IsInPart, at_start, in_part, part_then, part_else, IsStack, in_tcom, in_pcom, outer, inner, is_part, Rest, is_body, plain_block, part_block, with_locals, start}
use Rattle.def_syntax.proofs.Stacks as stacks
use Rattle.def_syntax.proofs.Moves.{no_xcom, no_tcom, no_pcom, key_moves, var_moves, on_moves, set_moves, send_moves, out_moves, txn_moves, if_moves, get_moves, put_moves, need_moves, IsInsidePart, IsFirst}
use Rattle.def_syntax.proofs.Derivations.{state, Steps, neither, set_back, send_back, out_back, if_back, txn_back, get_back, get_first, put_back, put_first, need_back, else_back, else_stack, end_back, end_stack, key_back, var_back, on_back, may_come}

-- what the checks say of an item
pub record Checked (all : List Declared) (seen : Scope) (n : ℕ) (item : SyntaxLine) (lines : List Line) (m : BlockAction) : Type 0 where
  pub free : list_any is_reserved (declares item) ≡ false
  pub placed : is_out_of_place seen item ≡ false
  pub moves : move_in seen.frames item ≡ Some m
  pub new : is_twice seen item ≡ false
  pub within : passes seen item ≡ false
  pub means : resolved all seen n item ≡ Ok lines

abbrev pub Step : List Declared → Scope → SyntaxLine → Type 0
Step all seen item = (n : ℕ) (lines : List Line) (m : BlockAction) → IsStack seen.components seen.frames → Checked all seen n item lines m → Steps all seen n item lines (behind m item seen)

-- where the item leads is known
led : (all : List Declared) (seen : Scope) (n : ℕ) (item : SyntaxLine) (lines : List Line) (m k : BlockAction) → m ≡ k → Steps all seen n item lines (behind k item seen) → Steps all seen n item lines (behind m item seen)
led all seen n item lines m k e r = subst (λ (x : BlockAction). Steps all seen n item lines (behind x item seen)) (sym e) r

pub step_set : (all cs : List Declared) (fs : List Frame) (ps : List (List ℕ)) (s g : ℕ) (t : List ℕ) (v : List ℕ) (e : RawExpr) → Step all (state cs fs ps s g t) (SetItem v e)
unfolding noted passes
step_set all cs [] ps s g t v e n lines m i c = absurd (let x = c.moves in cc)
step_set all cs (f ∷ fs) ps s g t v e n lines m i c =
    let w = set_moves f.block v e m c.moves in
    led all _ n (SetItem v e) lines m Stay w.1 (record { stack = i; back = λ is ls r. set_back all cs ps t f fs s g n v e lines is ls w.0 c.within c.means r })

pub step_send : (all cs : List Declared) (fs : List Frame) (ps : List (List ℕ)) (s g : ℕ) (t : List ℕ) (p h : List ℕ) (xs : List RawOperand) → Step all (state cs fs ps s g t) (SendItem p h xs)
unfolding noted passes resolved
step_send all cs [] ps s g t p h xs n lines m i c = absurd (let x = c.moves in cc)
step_send all cs (f ∷ fs) ps s g t p h xs n lines m i c =
    let w = send_moves f.block p h xs m c.moves in
    led all _ n (SendItem p h xs) lines m Stay w.2
    (record { stack = i; back = λ is ls r. send_back all cs ps t f fs s g n p h xs (found Pcom p all) lines is ls w.0 w.1 c.within c.placed refl c.means r })

pub step_out : (all cs : List Declared) (fs : List Frame) (ps : List (List ℕ)) (s g : ℕ) (t : List ℕ) (x : List ℕ) (xs : List RawOperand) → Step all (state cs fs ps s g t) (OutItem x xs)
unfolding noted passes
step_out all cs [] ps s g t x xs n lines m i c = absurd (let x = c.moves in cc)
step_out all cs (f ∷ fs) ps s g t x xs n lines m i c =
    let w = out_moves f.block x xs m c.moves in
    led all _ n (OutItem x xs) lines m Stay w.2 (record { stack = i; back = λ is ls r. out_back all cs ps t f fs s g n x xs lines is ls w.0 w.1 c.within c.means r })

pub step_need : (all cs : List Declared) (fs : List Frame) (ps : List (List ℕ)) (s g : ℕ) (t : List ℕ) (e : RawExpr) → Step all (state cs fs ps s g t) (NeedItem e)
unfolding noted passes
step_need all cs [] ps s g t e n lines m i c = absurd (let x = c.moves in cc)
step_need all cs (f ∷ fs) ps s g t e n lines m i c =
    let w = need_moves f.block e m c.moves in
    led all _ n (NeedItem e) lines m Stay w.2 (record { stack = i; back = λ is ls r. need_back all cs ps t f fs s g n e lines is ls w.0 w.1 c.within c.means r })

then_plain : (c : Declared) (cs : List Declared) (f u : Frame) (us : List Frame) → IsPlain (f ∷ u ∷ us) → IsStack (c ∷ cs) (frame (Then (is_part f.block)) ∷ f ∷ u ∷ us)
then_plain c cs f u us i = subst (λ (p : Bool). IsStack (c ∷ cs) (frame (Then p) ∷ f ∷ u ∷ us)) (sym (plain_block f (u ∷ us) i)) (outer (in_then i))

then_part : (c : Declared) (cs : List Declared) (f u : Frame) (us : List Frame) → IsInPart (f ∷ u ∷ us) → IsStack (c ∷ cs) (frame (Then (is_part f.block)) ∷ f ∷ u ∷ us)
then_part c cs f u us i = subst (λ (p : Bool). IsStack (c ∷ cs) (frame (Then p) ∷ f ∷ u ∷ us)) (sym (part_block f (u ∷ us) i)) (inner (part_then i))

pub step_if : (all cs : List Declared) (fs : List Frame) (ps : List (List ℕ)) (s g : ℕ) (t : List ℕ) (e : RawExpr) → Step all (state cs fs ps s g t) (IfItem e)
unfolding noted passes
step_if all _ _ ps s g t e n lines m stacks.outside k = absurd (let x = k.moves in cc)
step_if all _ _ ps s g t e n lines m in_tcom k = absurd (let x = if_moves TcomBlock e m k.moves in let y = x.0 in cc)
step_if all _ _ ps s g t e n lines m in_pcom k = absurd (let x = if_moves PcomBlock e m k.moves in let y = x.0 in cc)
step_if all _ _ ps s g t e n lines m (outer {c = c} {cs = cs} {f = f} {g = u} {gs = us} i) k =
    let w = if_moves f.block e m k.moves in
    led all _ n (IfItem e) lines m (Begin (Then (is_part f.block))) w.1
    (record { stack = then_plain c cs f u us i; back = λ is ls r. if_back all (c ∷ cs) ps t f u us s g n e lines is ls w.0 k.within k.means r })
step_if all _ _ ps s g t e n lines m (inner {c = c} {cs = cs} {f = f} {g = u} {gs = us} i) k =
    let w = if_moves f.block e m k.moves in
    led all _ n (IfItem e) lines m (Begin (Then (is_part f.block))) w.1
    (record { stack = then_part c cs f u us i; back = λ is ls r. if_back all (c ∷ cs) ps t f u us s g n e lines is ls w.0 k.within k.means r })

pub step_txn : (all cs : List Declared) (fs : List Frame) (ps : List (List ℕ)) (s g : ℕ) (t : List ℕ) (v : List ℕ) → Step all (state cs fs ps s g t) (TxnItem v)
unfolding noted passes
step_txn all _ _ ps s g t v n lines m stacks.outside k = absurd (let x = k.moves in cc)
step_txn all _ _ ps s g t v n lines m in_tcom k = absurd (let x = txn_moves TcomBlock v m k.moves in let y = x.0 in cc)
step_txn all _ _ ps s g t v n lines m in_pcom k = absurd (let x = txn_moves PcomBlock v m k.moves in let y = x.0 in cc)
step_txn all _ _ ps s g t v n lines m (outer {c = c} {cs = cs} {f = f} {g = u} {gs = us} i) k =
    let w = txn_moves f.block v m k.moves in
    led all _ n (TxnItem v) lines m (Begin PartStart) w.2
    (record { stack = inner (at_start i); back = λ is ls r. txn_back all (c ∷ cs) ps t f u us s g n v lines is ls i w.0 w.1 k.within k.means r })
step_txn all _ _ ps s g t v n lines m (inner {f = f} {g = u} {gs = us} i) k =
    absurd (let w = txn_moves f.block v m k.moves in let x = w.1 in let y = part_block f (u ∷ us) i in let z : true ≡ false = sym y ∙ x in cc)

-- statements of a part stand in parts alone
not_body : (b : Block) (m : BlockAction) → is_body b ≡ false → is_part b ≡ false → IsInsidePart b m ⊎ IsFirst b m → ⊥
not_body b m x y (inl w) = let z = w.0 in let u : true ≡ false = sym z ∙ x in cc
not_body b m x y (inr w) = let z = w.0 in let u : is_part b ≡ true = ap is_part z in let v : true ≡ false = sym u ∙ y in cc

not_plain : (f : Frame) (fs : List Frame) (m : BlockAction) → IsPlain (f ∷ fs) → IsInsidePart f.block m ⊎ IsFirst f.block m → ⊥
not_plain f fs m i (inl w) = let x = plain_block f fs i in let y = w.1 in let z : true ≡ false = sym y ∙ x in cc
not_plain f fs m i (inr w) = let x = plain_block f fs i in let y = ap is_part w.0 in let z : true ≡ false = sym y ∙ x in cc

-- the first statement of a part
first_get : (all : List Declared) (c : Declared) (cs : List Declared) (f u : Frame) (us : List Frame) (ps : List (List ℕ)) (s g : ℕ) (t : List ℕ) (v k : List ℕ) (n : ℕ) (lines : List Line)
    → (f ≡ frame PartStart) × IsPlain (u ∷ us) → Checked all (state (c ∷ cs) (f ∷ u ∷ us) ps s g t) n (GetItem v k) lines (Turn Part)
    → Steps all (state (c ∷ cs) (f ∷ u ∷ us) ps s g t) n (GetItem v k) lines (behind (Turn Part) (GetItem v k) (state (c ∷ cs) (f ∷ u ∷ us) ps s g t))
unfolding noted passes is_twice resolved
first_get all c cs f u us ps s g t v k n lines w h =
    let free = (neither (is_reserved v) false h.free).0 in
    let new = subst (λ (f : Frame). is_in v (c.vars ++ ps ++ names (flat_map (λ (f : Frame). f.locals) (f ∷ u ∷ us))) ≡ false) w.0 h.new in
    subst (λ (f : Frame). Steps all (state (c ∷ cs) (f ∷ u ∷ us) ps s g t) n (GetItem v k) lines (behind (Turn Part) (GetItem v k) (state (c ∷ cs) (f ∷ u ∷ us) ps s g t))) (sym w.0)
    (record { stack = inner (in_part w.1); back = λ is ls r. get_first all (c ∷ cs) ps t (u ∷ us) s g n v k lines is ls h.within free new h.means r })

pub step_get : (all cs : List Declared) (fs : List Frame) (ps : List (List ℕ)) (s g : ℕ) (t : List ℕ) (v k : List ℕ) → Step all (state cs fs ps s g t) (GetItem v k)
unfolding noted passes is_twice resolved
step_get all _ _ ps s g t v k n lines m stacks.outside h = absurd (let x = h.moves in cc)
step_get all _ _ ps s g t v k n lines m in_tcom h = absurd (not_body TcomBlock m refl refl (get_moves TcomBlock v k m h.moves))
step_get all _ _ ps s g t v k n lines m in_pcom h = absurd (not_body PcomBlock m refl refl (get_moves PcomBlock v k m h.moves))
step_get all _ _ ps s g t v k n lines m (outer {f = f} {g = u} {gs = us} i) h = absurd (not_plain f (u ∷ us) m i (get_moves f.block v k m h.moves))
step_get all _ _ ps s g t v k n lines m (inner {c = c} {cs = cs} {f = f} {g = u} {gs = us} i) h =
    elim (get_moves f.block v k m h.moves) [
      | inl w ↦ led all _ n (GetItem v k) lines m Stay w.2
          (record {
            stack = inner (with_locals f (u ∷ us) (f.locals ++ (v, g) ∷ []) i w.0);
            back = λ is ls r. get_back all (c ∷ cs) ps t f (u ∷ us) s g n v k lines is ls w.0 w.1 h.within (neither (is_reserved v) false h.free).0 h.new h.means r;
          })
      | inr w ↦ led all _ n (GetItem v k) lines m (Turn Part) w.1
          (first_get all c cs f u us ps s g t v k n lines (start f (u ∷ us) i w.0)
          (record { free = h.free; placed = h.placed; moves = subst (λ (x : BlockAction). in_block f.block (GetItem v k) ≡ Some x) w.1 h.moves; new = h.new; within = h.within; means = h.means }))
    ]

first_put : (all : List Declared) (c : Declared) (cs : List Declared) (f u : Frame) (us : List Frame) (ps : List (List ℕ)) (s g : ℕ) (t : List ℕ) (k : List ℕ) (e : RawExpr) (n : ℕ) (lines : List Line)
    → (f ≡ frame PartStart) × IsPlain (u ∷ us) → nat_le 256 s ≡ false → resolved all (state (c ∷ cs) (f ∷ u ∷ us) ps s g t) n (PutItem k e) ≡ Ok lines
    → Steps all (state (c ∷ cs) (f ∷ u ∷ us) ps s g t) n (PutItem k e) lines (behind (Turn Part) (PutItem k e) (state (c ∷ cs) (f ∷ u ∷ us) ps s g t))
unfolding noted
first_put all c cs f u us ps s g t k e n lines w within means =
    let d = subst (λ (f : Frame). resolved all (state (c ∷ cs) (f ∷ u ∷ us) ps s g t) n (PutItem k e) ≡ Ok lines) w.0 means in
    subst (λ (f : Frame). Steps all (state (c ∷ cs) (f ∷ u ∷ us) ps s g t) n (PutItem k e) lines (behind (Turn Part) (PutItem k e) (state (c ∷ cs) (f ∷ u ∷ us) ps s g t))) (sym w.0)
    (record { stack = inner (in_part w.1); back = λ is ls r. put_first all (c ∷ cs) ps t (u ∷ us) s g n k e lines is ls within d r })

pub step_put : (all cs : List Declared) (fs : List Frame) (ps : List (List ℕ)) (s g : ℕ) (t : List ℕ) (k : List ℕ) (e : RawExpr) → Step all (state cs fs ps s g t) (PutItem k e)
unfolding noted passes
step_put all _ _ ps s g t k e n lines m stacks.outside h = absurd (let x = h.moves in cc)
step_put all _ _ ps s g t k e n lines m in_tcom h = absurd (not_body TcomBlock m refl refl (put_moves TcomBlock k e m h.moves))
step_put all _ _ ps s g t k e n lines m in_pcom h = absurd (not_body PcomBlock m refl refl (put_moves PcomBlock k e m h.moves))
step_put all _ _ ps s g t k e n lines m (outer {f = f} {g = u} {gs = us} i) h = absurd (not_plain f (u ∷ us) m i (put_moves f.block k e m h.moves))
step_put all _ _ ps s g t k e n lines m (inner {c = c} {cs = cs} {f = f} {g = u} {gs = us} i) h =
    elim (put_moves f.block k e m h.moves) [
      | inl w ↦ led all _ n (PutItem k e) lines m Stay w.2 (record { stack = inner i; back = λ is ls r. put_back all (c ∷ cs) ps t f (u ∷ us) s g n k e lines is ls w.0 w.1 h.within h.means r })
      | inr w ↦ led all _ n (PutItem k e) lines m (Turn Part) w.1 (first_put all c cs f u us ps s g t k e n lines (start f (u ∷ us) i w.0) h.within h.means)
    ]

abbrev means_lines : List Line → Result (List Line) Cause
means_lines ls = Ok ls

ok_lines : (a b : List Line) → means_lines a ≡ means_lines b → b ≡ a
ok_lines a b e = cc

pub step_else : (all cs : List Declared) (fs : List Frame) (ps : List (List ℕ)) (s g : ℕ) (t : List ℕ) → Step all (state cs fs ps s g t) ElseItem
unfolding noted resolved
step_else all _ [] ps s g t n lines m i h = absurd (let x = h.moves in cc)
step_else all [] (f ∷ fs) ps s g t n lines m i h = elim i [ ]
step_else all (c ∷ cs) (f ∷ fs) ps s g t n lines m i h =
    record { stack = else_stack c cs f.block f.locals fs m i h.moves; back = λ is ls r. else_back all (c ∷ cs) ps t f.block f.locals fs s g n m lines is ls h.moves (ok_lines _ lines h.means) r }

pub step_end : (all cs : List Declared) (fs : List Frame) (ps : List (List ℕ)) (s g : ℕ) (t : List ℕ) → Step all (state cs fs ps s g t) EndItem
unfolding noted resolved
step_end all _ [] ps s g t n lines m i h = absurd (let x = h.moves in cc)
step_end all cs (f ∷ fs) ps s g t n lines m i h =
    record { stack = end_stack cs f fs m i h.moves; back = λ is ls r. end_back all cs ps t f fs s g n m lines is ls i h.moves (ok_lines _ lines h.means) r }

abbrev is_component : Block → Bool
is_component TcomBlock = true
is_component PcomBlock = true
is_component _ = false

-- no component's block is a block of statements
not_component : (b : Block) → is_component b ≡ true → (f : Frame) (fs : List Frame) → IsPlain (f ∷ fs) ⊎ IsInPart (f ∷ fs) → f.block ≡ b → ⊥
not_component b e _ _ (inl in_handler) w = let x : is_component HandlerBlock ≡ true = ap is_component w ∙ e in cc
not_component b e _ _ (inl (in_then i)) w = let x : is_component (Then false) ≡ true = ap is_component w ∙ e in cc
not_component b e _ _ (inl (in_else i)) w = let x : is_component (Else false) ≡ true = ap is_component w ∙ e in cc
not_component b e _ _ (inl (in_other i)) w = let x : is_component OtherPart ≡ true = ap is_component w ∙ e in cc
not_component b e _ _ (inr (at_start i)) w = let x : is_component PartStart ≡ true = ap is_component w ∙ e in cc
not_component b e _ _ (inr (in_part i)) w = let x : is_component Part ≡ true = ap is_component w ∙ e in cc
not_component b e _ _ (inr (part_then i)) w = let x : is_component (Then true) ≡ true = ap is_component w ∙ e in cc
not_component b e _ _ (inr (part_else i)) w = let x : is_component (Else true) ≡ true = ap is_component w ∙ e in cc

-- a line of a component outside its handlers
pub step_key : (all cs : List Declared) (fs : List Frame) (ps : List (List ℕ)) (s g : ℕ) (t : List ℕ) (k : List ℕ) (z : ℤ) → Step all (state cs fs ps s g t) (KeyItem k z)
unfolding noted passes is_twice resolved
step_key all _ _ ps s g t k z n lines m stacks.outside h = absurd (let x = h.moves in cc)
step_key all _ _ ps s g t k z n lines m in_pcom h = absurd (let x = (key_moves PcomBlock k z m h.moves).0 in cc)
step_key all _ _ ps s g t k z n lines m (outer {f = f} {g = u} {gs = us} i) h = absurd (not_component TcomBlock refl f (u ∷ us) (inl i) (key_moves f.block k z m h.moves).0)
step_key all _ _ ps s g t k z n lines m (inner {f = f} {g = u} {gs = us} i) h = absurd (not_component TcomBlock refl f (u ∷ us) (inr i) (key_moves f.block k z m h.moves).0)
step_key all _ _ ps s g t k z n lines m (in_tcom {c = c} {cs = cs}) h =
    led all _ n (KeyItem k z) lines m Stay (key_moves TcomBlock k z m h.moves).1
    (record { stack = in_tcom; back = λ is ls r. key_back all c cs n k z lines is ls (neither (is_reserved k) false h.free).0 h.new h.within (ok_lines _ lines h.means) r })

pub step_var : (all cs : List Declared) (fs : List Frame) (ps : List (List ℕ)) (s g : ℕ) (t : List ℕ) (v : List ℕ) (z : ℤ) → Step all (state cs fs ps s g t) (VarItem v z)
unfolding noted passes is_twice resolved
step_var all _ _ ps s g t v z n lines m stacks.outside h = absurd (let x = h.moves in cc)
step_var all _ _ ps s g t v z n lines m in_tcom h = absurd (let x = (var_moves TcomBlock v z m h.moves).0 in cc)
step_var all _ _ ps s g t v z n lines m (outer {f = f} {g = u} {gs = us} i) h = absurd (not_component PcomBlock refl f (u ∷ us) (inl i) (var_moves f.block v z m h.moves).0)
step_var all _ _ ps s g t v z n lines m (inner {f = f} {g = u} {gs = us} i) h = absurd (not_component PcomBlock refl f (u ∷ us) (inr i) (var_moves f.block v z m h.moves).0)
step_var all _ _ ps s g t v z n lines m (in_pcom {c = c} {cs = cs}) h =
    led all _ n (VarItem v z) lines m Stay (var_moves PcomBlock v z m h.moves).1
    (record { stack = in_pcom; back = λ is ls r. var_back all c cs n v z lines is ls (neither (is_reserved v) false h.free).0 h.placed h.new h.within (ok_lines _ lines h.means) r })

pub step_on : (all cs : List Declared) (fs : List Frame) (ps : List (List ℕ)) (s g : ℕ) (t : List ℕ) (w : List ℕ) (qs : List (List ℕ)) → Step all (state cs fs ps s g t) (OnItem w qs)
unfolding noted passes is_twice resolved
step_on all _ _ ps s g t w qs n lines m stacks.outside h = absurd (let x = h.moves in cc)
step_on all _ _ ps s g t w qs n lines m in_tcom h = absurd (let x = (on_moves TcomBlock w qs m h.moves).0 in cc)
step_on all _ _ ps s g t w qs n lines m (outer {f = f} {g = u} {gs = us} i) h = absurd (not_component PcomBlock refl f (u ∷ us) (inl i) (on_moves f.block w qs m h.moves).0)
step_on all _ _ ps s g t w qs n lines m (inner {f = f} {g = u} {gs = us} i) h = absurd (not_component PcomBlock refl f (u ∷ us) (inr i) (on_moves f.block w qs m h.moves).0)
step_on all _ _ ps s g t w qs n lines m (in_pcom {c = c} {cs = cs}) h =
    led all _ n (OnItem w qs) lines m (Begin HandlerBlock) (on_moves PcomBlock w qs m h.moves).1
    (record { stack = outer in_handler; back = λ is ls r. on_back all c cs t n w qs lines is ls h.free h.new h.within (ok_lines _ lines h.means) r })

-- a component
pub step_xcom : (all cs : List Declared) (fs : List Frame) (ps : List (List ℕ)) (s g : ℕ) (t : List ℕ) (x : List ℕ) → Step all (state cs fs ps s g t) (XcomItem x)
unfolding noted passes is_twice resolved
step_xcom all cs [] ps s g t x n lines m i h =
    led all _ n (XcomItem x) lines m Stay (cc)
    (record {
      stack = stacks.outside;
      back = λ is ls r.
          subst (λ (z : List Line). Components all cs ((n, XcomItem x) ∷ is, z ++ ls)) (sym (ok_lines _ lines h.means)) (xcom (may_come x cs h.free h.new h.within) r);
    })
step_xcom all cs (f ∷ fs) ps s g t x n lines m i h = absurd (no_xcom f.block x m h.moves)

pub step_tcom : (all cs : List Declared) (fs : List Frame) (ps : List (List ℕ)) (s g : ℕ) (t : List ℕ) (x : List ℕ) → Step all (state cs fs ps s g t) (TcomItem x)
unfolding noted passes is_twice resolved
step_tcom all cs [] ps s g t x n lines m i h =
    led all _ n (TcomItem x) lines m (Begin TcomBlock) (cc)
    (record {
      stack = in_tcom;
      back = λ is ls r.
          subst (λ (z : List Line). Components all cs ((n, TcomItem x) ∷ is, z ++ ls)) (sym (ok_lines _ lines h.means)) (tcom (may_come x cs h.free h.new h.within) r.derived r.rest);
    })
step_tcom all cs (f ∷ fs) ps s g t x n lines m i h = absurd (no_tcom f.block x m h.moves)

pub step_pcom : (all cs : List Declared) (fs : List Frame) (ps : List (List ℕ)) (s g : ℕ) (t : List ℕ) (x : List ℕ) (b : Bool) → Step all (state cs fs ps s g t) (PcomItem x b)
unfolding noted passes is_twice resolved
step_pcom all cs [] ps s g t x b n lines m i h =
    led all _ n (PcomItem x b) lines m (Begin PcomBlock) (cc)
    (record {
      stack = in_pcom;
      back = λ is ls r.
          subst (λ (z : List Line). Components all cs ((n, PcomItem x b) ∷ is, z ++ ls)) (sym (ok_lines _ lines h.means)) (pcom (may_come x cs h.free h.new h.within) r.derived r.rest.derived r.rest.rest);
    })
step_pcom all cs (f ∷ fs) ps s g t x b n lines m i h = absurd (no_pcom f.block x b m h.moves)

-- any item
pub step_item : (all : List Declared) (seen : Scope) (item : SyntaxLine) → Step all seen item
step_item all seen (XcomItem x) = step_xcom all seen.components seen.frames seen.params seen.statements seen.gets seen.tcom x
step_item all seen (TcomItem x) = step_tcom all seen.components seen.frames seen.params seen.statements seen.gets seen.tcom x
step_item all seen (PcomItem x b) = step_pcom all seen.components seen.frames seen.params seen.statements seen.gets seen.tcom x b
step_item all seen (KeyItem k z) = step_key all seen.components seen.frames seen.params seen.statements seen.gets seen.tcom k z
step_item all seen (VarItem v z) = step_var all seen.components seen.frames seen.params seen.statements seen.gets seen.tcom v z
step_item all seen (OnItem w qs) = step_on all seen.components seen.frames seen.params seen.statements seen.gets seen.tcom w qs
step_item all seen (SetItem v e) = step_set all seen.components seen.frames seen.params seen.statements seen.gets seen.tcom v e
step_item all seen (SendItem p h xs) = step_send all seen.components seen.frames seen.params seen.statements seen.gets seen.tcom p h xs
step_item all seen (OutItem x xs) = step_out all seen.components seen.frames seen.params seen.statements seen.gets seen.tcom x xs
step_item all seen (IfItem e) = step_if all seen.components seen.frames seen.params seen.statements seen.gets seen.tcom e
step_item all seen (TxnItem v) = step_txn all seen.components seen.frames seen.params seen.statements seen.gets seen.tcom v
step_item all seen (GetItem v k) = step_get all seen.components seen.frames seen.params seen.statements seen.gets seen.tcom v k
step_item all seen (PutItem k e) = step_put all seen.components seen.frames seen.params seen.statements seen.gets seen.tcom k e
step_item all seen (NeedItem e) = step_need all seen.components seen.frames seen.params seen.statements seen.gets seen.tcom e
step_item all seen ElseItem = step_else all seen.components seen.frames seen.params seen.statements seen.gets seen.tcom
step_item all seen EndItem = step_end all seen.components seen.frames seen.params seen.statements seen.gets seen.tcom
