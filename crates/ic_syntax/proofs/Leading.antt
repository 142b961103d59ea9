-- Where a line that may stand in the text leads, the lines of a program for which it stands lead too.
use Rattle.std.proofs.Common.{◌≡◌, ◌∙◌, sym, ap, refl, subst, arith, inl, inr, ℕ, ℤ, zero, suc, List, [], ◌∷◌, ◌++◌, length, length-append, Bool, true, false, Option, Some, None, IsSome, IsOk, option_and_then, Result, Ok, nat_lt}
use Rattle.std.proofs.lemmas.Bool.Decides.{nat_tests}
use Rattle.ic_base.specs.declared.messages.Kind.TheVariants.{Pcom}
use Rattle.ic_base.specs.declared.refusals.Cause.{Cause}
use Rattle.def_syntax.specs.SyntaxLines.{RawOperand, RawExpr, SyntaxLine, XcomItem, TcomItem, PcomItem, KeyItem, VarItem, OnItem, SetItem, SendItem, OutItem, IfItem, TxnItem, GetItem, PutItem, NeedItem, ElseItem, EndItem}
use Rattle.def_syntax.specs.Blocks.{Block, TcomBlock, PcomBlock, HandlerBlock, PartStart, Part, OtherPart, Then, Else, BlockAction, Stay, Begin, Turn, Finish, in_block}
use Rattle.def_syntax.specs.Text.{look_up}
use Rattle.def_syntax.specs.Scope.{Declared, Frame, Scope, names, frame, noted, behind}
use Rattle.def_syntax.specs.Names.{place_of, found, com_id, operands_of, sent_to, resolved}
use Rattle.def_syntax.specs.Lines.{Line}
use Rattle.def_syntax.specs.Lines as grammar
use Rattle.def_syntax.specs.Scenario.{at_end, seen_if, resolved_if, checked}
use Rattle.def_syntax.proofs.Parts.{taken, one_line_parts, both_parts, map_parts, sent_parts}
use Rattle.def_syntax.proofs.Stacks.{framed, is_body}
use Rattle.def_syntax.proofs.Moves.{no_xcom, no_tcom, no_pcom, key_moves, var_moves, on_moves, set_moves, send_moves, out_moves, txn_moves, if_moves, get_moves, put_moves, need_moves}
use Rattle.def_syntax.proofs.Derivations.{state}
use Rattle.def_syntax.proofs.ItemSteps.{Checked}
use Rattle.ic_syntax.specs.BuilderStates.{First, Second, BuilderState, AtTop, InComponent, InHandler, behind_handling}
use Rattle.ic_syntax.specs.BuilderStates as spots
use Rattle.ic_syntax.specs.Places.{all_behind, part_as, IsInParts, handler, part, IsAt, at_top, in_tcom, in_pcom, in_handler, LeadsTo}

-- these lines lead from a spot to where the text leads
abbrev pub Led : List Line → BuilderState → List Declared → List Frame → Type 0
Led ls s cs fs = (t : BuilderState) × (all_behind ls s ≡ Some t) × IsAt cs fs t

one_behind : (l : Line) (ls : List Line) (s t : BuilderState) → ls ≡ l ∷ [] → all_behind (l ∷ []) s ≡ Some t → all_behind ls s ≡ Some t
one_behind l ls s t e w = ap (λ (x : List Line). all_behind x s) e ∙ w

pub first_stands : (f : BuilderState → Option BuilderState) (o : Option BuilderState) → IsSome (option_and_then f o) → IsSome o
first_stands f None e = e
first_stands f (Some s) e = refl

pub same_state : (o : Option BuilderState) (s t : BuilderState) → o ≡ Some s → o ≡ Some t → s ≡ t
same_state o s t e w = let x : Some s ≡ Some t = sym e ∙ w in cc

-- a statement, in a block of statements
stays : (cs : List Declared) (f : Frame) (fs : List Frame) (s : BuilderState) (l : Line) (ls : List Line)
    → ls ≡ l ∷ [] → is_body f.block ≡ true → ((k h : ℕ) (ps : List spots.Part) → behind_handling l k h ps ≡ Some (InHandler k h ps)) → IsAt cs (f ∷ fs) s → Led ls s cs (f ∷ fs)
stays _ _ _ _ l ls e b g in_tcom = absurd (cc)
stays _ _ _ _ l ls e b g (in_pcom w) = absurd (cc)
stays _ f fs _ l ls e b g (in_handler {handlers = h} {ps = ps} w i) = (InHandler 0 h ps, one_behind l ls _ _ e (rw (g 0 h ps) refl), in_handler w i)

-- the begin of an `if` or a `txn`
begins : (cs : List Declared) (f : Frame) (fs : List Frame) (s : BuilderState) (b : Block) (l : Line) (ls : List Line)
    → ls ≡ l ∷ [] → is_body f.block ≡ true → part_as b ≡ Some First → ((k h : ℕ) (ps : List spots.Part) → behind_handling l k h ps ≡ Some (InHandler k h (First ∷ ps))) → IsAt cs (f ∷ fs) s → Led ls s cs (frame b ∷ f ∷ fs)
begins _ _ _ _ x l ls e b a g in_tcom = absurd (cc)
begins _ _ _ _ x l ls e b a g (in_pcom w) = absurd (cc)
begins _ f fs _ x l ls e b a g (in_handler {handlers = h} {ps = ps} w i) = (InHandler 0 h (First ∷ ps), one_behind l ls _ _ e (rw (g 0 h ps) refl), in_handler w (part a i))

-- the same blocks with other locals
other_locals : (f : Frame) (fs : List Frame) (own : List (List ℕ × ℕ)) (ps : List spots.Part) → IsInParts (f ∷ fs) ps → IsInParts (framed f.block own ∷ fs) ps
other_locals _ _ own _ handler = handler
other_locals _ _ own _ (part w i) = part w i

-- the first statement of a part
begun : (f : Frame) (fs : List Frame) (own : List (List ℕ × ℕ)) (ps : List spots.Part) → f.block ≡ PartStart → IsInParts (f ∷ fs) ps → IsInParts (framed Part own ∷ fs) ps
begun _ _ own _ e handler = absurd (let x = ap part_as e in cc)
begun _ _ own _ e (part w i) = part (ap part_as (sym e) ∙ w) i

starts : (cs : List Declared) (f : Frame) (fs : List Frame) (own : List (List ℕ × ℕ)) (s : BuilderState) (l : Line) (ls : List Line)
    → ls ≡ l ∷ [] → f.block ≡ PartStart → ((k h : ℕ) (ps : List spots.Part) → behind_handling l k h ps ≡ Some (InHandler k h ps)) → IsAt cs (f ∷ fs) s → Led ls s cs (framed Part own ∷ fs)
starts _ _ _ own _ l ls e b g in_tcom = absurd (let x = ap part_as b in cc)
starts _ _ _ own _ l ls e b g (in_pcom w) = absurd (let x = ap part_as b in cc)
starts _ f fs own _ l ls e b g (in_handler {handlers = h} {ps = ps} w i) = (InHandler 0 h ps, one_behind l ls _ _ e (rw (g 0 h ps) refl), in_handler w (begun f fs own ps b i))

-- a `get` that isn't the first statement of its part
gets : (cs : List Declared) (f : Frame) (fs : List Frame) (own : List (List ℕ × ℕ)) (s : BuilderState) (l : Line) (ls : List Line)
    → ls ≡ l ∷ [] → is_body f.block ≡ true → ((k h : ℕ) (ps : List spots.Part) → behind_handling l k h ps ≡ Some (InHandler k h ps)) → IsAt cs (f ∷ fs) s → Led ls s cs (framed f.block own ∷ fs)
gets _ _ _ own _ l ls e b g in_tcom = absurd (cc)
gets _ _ _ own _ l ls e b g (in_pcom w) = absurd (cc)
gets _ f fs own _ l ls e b g (in_handler {handlers = h} {ps = ps} w i) = (InHandler 0 h ps, one_behind l ls _ _ e (rw (g 0 h ps) refl), in_handler w (other_locals f fs own ps i))

-- where the lines of an item lead
abbrev pub Leads : List Declared → Scope → SyntaxLine → Type 0
Leads all seen item = (n : ℕ) (lines : List Line) (m : BlockAction) (s : BuilderState) → LeadsTo seen s → Checked all seen n item lines m → Led lines s (behind m item seen).components (behind m item seen).frames

moved_so : (seen : Scope) (item : SyntaxLine) (lines : List Line) (s : BuilderState) (m k : BlockAction) → m ≡ k → Led lines s (behind k item seen).components (behind k item seen).frames → Led lines s (behind m item seen).components (behind m item seen).frames
moved_so seen item lines s m k e r = subst (λ (x : BlockAction). Led lines s (behind x item seen).components (behind x item seen).frames) (sym e) r

lead_set : (all cs : List Declared) (fs : List Frame) (ps : List (List ℕ)) (u g : ℕ) (t : List ℕ) (v : List ℕ) (e : RawExpr) → Leads all (state cs fs ps u g t) (SetItem v e)
unfolding noted resolved
lead_set all cs [] ps u g t v e n lines m s i c = absurd (let x = c.moves in cc)
lead_set all cs (f ∷ fs) ps u g t v e n lines m s i c =
    let w = set_moves f.block v e m c.moves in
    let l = one_line_parts _ lines c.means in
    let x = both_parts grammar.Set _ _ l.0 l.1 in
    moved_so (state cs (f ∷ fs) ps u g t) (SetItem v e) lines s m Stay w.1 (stays cs f fs s (grammar.Set x.0 x.1) lines (l.2 ∙ ap (λ k. k ∷ []) x.4) w.0 (λ k h qs. refl) i)

lead_send : (all cs : List Declared) (fs : List Frame) (ps : List (List ℕ)) (u g : ℕ) (t : List ℕ) (p h : List ℕ) (xs : List RawOperand) (c : Option (ℕ × Declared)) (lines : List Line) (s : BuilderState)
    → sent_to (state cs fs ps u g t) h xs c ≡ Ok lines → (x : Line) × (lines ≡ x ∷ []) × ((k h : ℕ) (ps : List spots.Part) → behind_handling x k h ps ≡ Some (InHandler k h ps))
lead_send all cs fs ps u g t p h xs None lines s d = absurd (cc)
lead_send all cs fs ps u g t p h xs (Some c) lines s d = let x = sent_parts c.0 (place_of h (names c.1.handlers)) (look_up h c.1.handlers) (operands_of (state cs fs ps u g t) xs) lines d in (grammar.Send (com_id c.0) x.0 x.1, x.5, λ k j qs. refl)

lead_message : (all cs : List Declared) (fs : List Frame) (ps : List (List ℕ)) (u g : ℕ) (t : List ℕ) (p h : List ℕ) (xs : List RawOperand) → Leads all (state cs fs ps u g t) (SendItem p h xs)
unfolding noted resolved
lead_message all cs [] ps u g t p h xs n lines m s i c = absurd (let x = c.moves in cc)
lead_message all cs (f ∷ fs) ps u g t p h xs n lines m s i c =
    let w = send_moves f.block p h xs m c.moves in
    let l = lead_send all cs (f ∷ fs) ps u g t p h xs (found Pcom p all) lines s c.means in
    moved_so (state cs (f ∷ fs) ps u g t) (SendItem p h xs) lines s m Stay w.2 (stays cs f fs s l.0 lines l.1 w.0 l.2 i)

lead_out : (all cs : List Declared) (fs : List Frame) (ps : List (List ℕ)) (u g : ℕ) (t : List ℕ) (x : List ℕ) (xs : List RawOperand) → Leads all (state cs fs ps u g t) (OutItem x xs)
unfolding noted resolved
lead_out all cs [] ps u g t x xs n lines m s i c = absurd (let z = c.moves in cc)
lead_out all cs (f ∷ fs) ps u g t x xs n lines m s i c =
    let w = out_moves f.block x xs m c.moves in
    let l = one_line_parts _ lines c.means in
    let y = both_parts (λ (c : ℕ × Declared) os. grammar.Out (com_id c.0) os) _ _ l.0 l.1 in
    moved_so (state cs (f ∷ fs) ps u g t) (OutItem x xs) lines s m Stay w.2 (stays cs f fs s (grammar.Out (com_id y.0.0) y.1) lines (l.2 ∙ ap (λ k. k ∷ []) y.4) w.0 (λ k h qs. refl) i)

lead_need : (all cs : List Declared) (fs : List Frame) (ps : List (List ℕ)) (u g : ℕ) (t : List ℕ) (e : RawExpr) → Leads all (state cs fs ps u g t) (NeedItem e)
unfolding noted resolved
lead_need all cs [] ps u g t e n lines m s i c = absurd (let x = c.moves in cc)
lead_need all cs (f ∷ fs) ps u g t e n lines m s i c =
    let w = need_moves f.block e m c.moves in
    let l = one_line_parts _ lines c.means in
    let x = map_parts (grammar.Need n) _ l.0 l.1 in
    moved_so (state cs (f ∷ fs) ps u g t) (NeedItem e) lines s m Stay w.2 (stays cs f fs s (grammar.Need n x.0) lines (l.2 ∙ ap (λ k. k ∷ []) x.2) w.0 (λ k h qs. refl) i)

lead_choice : (all cs : List Declared) (fs : List Frame) (ps : List (List ℕ)) (u g : ℕ) (t : List ℕ) (e : RawExpr) → Leads all (state cs fs ps u g t) (IfItem e)
unfolding noted resolved
lead_choice all cs [] ps u g t e n lines m s i c = absurd (let x = c.moves in cc)
lead_choice all cs (f ∷ fs) ps u g t e n lines m s i c =
    let w = if_moves f.block e m c.moves in
    let l = one_line_parts _ lines c.means in
    let x = map_parts grammar.If _ l.0 l.1 in
    moved_so (state cs (f ∷ fs) ps u g t) (IfItem e) lines s m _ w.1 (begins cs f fs s (Then _) (grammar.If x.0) lines (l.2 ∙ ap (λ k. k ∷ []) x.2) w.0 refl (λ k h qs. refl) i)

lead_txn : (all cs : List Declared) (fs : List Frame) (ps : List (List ℕ)) (u g : ℕ) (t : List ℕ) (v : List ℕ) → Leads all (state cs fs ps u g t) (TxnItem v)
unfolding noted resolved
lead_txn all cs [] ps u g t v n lines m s i c = absurd (let x = c.moves in cc)
lead_txn all cs (f ∷ fs) ps u g t v n lines m s i c =
    let w = txn_moves f.block v m c.moves in
    let l = one_line_parts _ lines c.means in
    let x = map_parts (λ (c : ℕ × Declared). grammar.Txn (com_id c.0)) _ l.0 l.1 in
    moved_so (state cs (f ∷ fs) ps u g t) (TxnItem v) lines s m (Begin PartStart) w.2 (begins cs f fs s PartStart (grammar.Txn (com_id x.0.0)) lines (l.2 ∙ ap (λ k. k ∷ []) x.2) w.0 refl (λ k h qs. refl) i)

lead_get : (all cs : List Declared) (fs : List Frame) (ps : List (List ℕ)) (u g : ℕ) (t : List ℕ) (v k : List ℕ) → Leads all (state cs fs ps u g t) (GetItem v k)
unfolding noted resolved
lead_get all cs [] ps u g t v k n lines m s i c = absurd (let x = c.moves in cc)
lead_get all cs (f ∷ fs) ps u g t v k n lines m s i c =
    let l = one_line_parts _ lines c.means in
    let x = map_parts (grammar.Get g) _ l.0 l.1 in
    let e = l.2 ∙ ap (λ k. k ∷ []) x.2 in
    elim (get_moves f.block v k m c.moves) [
      | inl w ↦ moved_so (state cs (f ∷ fs) ps u g t) (GetItem v k) lines s m Stay w.2 (gets cs f fs (f.locals ++ (v, g) ∷ []) s (grammar.Get g x.0) lines e w.0 (λ k h qs. refl) i)
      | inr w ↦ moved_so (state cs (f ∷ fs) ps u g t) (GetItem v k) lines s m (Turn Part) w.1 (starts cs f fs ((v, g) ∷ []) s (grammar.Get g x.0) lines e w.0 (λ k h qs. refl) i)
    ]

lead_put : (all cs : List Declared) (fs : List Frame) (ps : List (List ℕ)) (u g : ℕ) (t : List ℕ) (k : List ℕ) (e : RawExpr) → Leads all (state cs fs ps u g t) (PutItem k e)
unfolding noted resolved
lead_put all cs [] ps u g t k e n lines m s i c = absurd (let x = c.moves in cc)
lead_put all cs (f ∷ fs) ps u g t k e n lines m s i c =
    let l = one_line_parts _ lines c.means in
    let x = both_parts grammar.Put _ _ l.0 l.1 in
    let y = l.2 ∙ ap (λ k. k ∷ []) x.4 in
    elim (put_moves f.block k e m c.moves) [
      | inl w ↦ moved_so (state cs (f ∷ fs) ps u g t) (PutItem k e) lines s m Stay w.2 (stays cs f fs s (grammar.Put x.0 x.1) lines y w.0 (λ k h qs. refl) i)
      | inr w ↦ moved_so (state cs (f ∷ fs) ps u g t) (PutItem k e) lines s m (Turn Part) w.1 (starts cs f fs [] s (grammar.Put x.0 x.1) lines y w.0 (λ k h qs. refl) i)
    ]

abbrev means_lines : List Line → Result (List Line) Cause
means_lines ls = Ok ls

same_lines : (a b : List Line) → means_lines a ≡ means_lines b → b ≡ a
same_lines a b e = cc

-- the other part of an `if` or a `txn`
turns : (cs : List Declared) (b o : Block) (own : List (List ℕ × ℕ)) (fs : List Frame) (s : BuilderState) (lines : List Line)
    → lines ≡ grammar.Else ∷ [] → part_as b ≡ Some First → part_as o ≡ Some Second → IsAt cs (framed b own ∷ fs) s → Led lines s cs (frame o ∷ fs)
turns _ _ o _ _ _ lines e a w in_tcom = absurd (cc)
turns _ _ o _ _ _ lines e a w (in_pcom h) = absurd (cc)
turns _ _ o _ _ _ lines e a w (in_handler h handler) = absurd (cc)
turns _ _ o _ _ _ lines e a w (in_handler {handlers = k} h (part {p = First} {ps = ps} x i)) = (InHandler 0 k (Second ∷ ps), one_behind grammar.Else lines _ _ e refl, in_handler h (part w i))
turns _ _ o _ _ _ lines e a w (in_handler h (part {p = Second} x i)) = absurd (let y = sym a ∙ x in cc)

else_moves : (b : Block) (m : BlockAction) → in_block b ElseItem ≡ Some m → (o : Block) × (m ≡ Turn o) × (part_as b ≡ Some First) × (part_as o ≡ Some Second)
unfolding in_block
else_moves (Then p) m e = (Else p, cc, refl, refl)
else_moves Part m e = (OtherPart, cc, refl, refl)
else_moves (Else true) m e = absurd (cc)
else_moves (Else false) m e = absurd (cc)
else_moves _ m e = absurd (cc)

lead_else : (all cs : List Declared) (fs : List Frame) (ps : List (List ℕ)) (u g : ℕ) (t : List ℕ) → Leads all (state cs fs ps u g t) ElseItem
unfolding noted resolved
lead_else all cs [] ps u g t n lines m s i c = absurd (let x = c.moves in cc)
lead_else all cs (f ∷ fs) ps u g t n lines m s i c =
    let w = else_moves f.block m c.moves in
    moved_so (state cs (f ∷ fs) ps u g t) ElseItem lines s m (Turn w.0) w.1 (turns cs f.block w.0 f.locals fs s lines (same_lines _ lines c.means) w.2 w.3 i)

-- the end of a block
finishes : (b : Block) (m : BlockAction) → in_block b EndItem ≡ Some m → m ≡ Finish
unfolding in_block
finishes PartStart m e = absurd (cc)
finishes Part m e = absurd (cc)
finishes (Then true) m e = cc
finishes (Then false) m e = cc
finishes (Else true) m e = cc
finishes (Else false) m e = cc
finishes _ m e = cc

lead_end : (all cs : List Declared) (fs : List Frame) (ps : List (List ℕ)) (u g : ℕ) (t : List ℕ) → Leads all (state cs fs ps u g t) EndItem
unfolding noted resolved in_block
lead_end all _ _ ps u g t n lines m _ at_top c = absurd (let x = c.moves in cc)
lead_end all _ _ ps u g t n lines m _ (in_tcom {c = d} {cs = cs} {own = own} {keys = k}) c =
    moved_so (state (d ∷ cs) (framed TcomBlock own ∷ []) ps u g t) EndItem lines (InComponent k 0) m Finish (finishes TcomBlock m c.moves) (AtTop, one_behind grammar.End lines _ _ (same_lines _ lines c.means) refl, at_top)
lead_end all _ _ ps u g t n lines m _ (in_pcom {c = d} {cs = cs} {own = own} {handlers = h} w) c =
    moved_so (state (d ∷ cs) (framed PcomBlock own ∷ []) ps u g t) EndItem lines (InComponent 0 h) m Finish (finishes PcomBlock m c.moves) (AtTop, one_behind grammar.End lines _ _ (same_lines _ lines c.means) refl, at_top)
lead_end all _ _ ps u g t n lines m _ (in_handler {c = d} {cs = cs} {handlers = h} w (handler {own = own} {around = around})) c =
    moved_so (state (d ∷ cs) (framed HandlerBlock own ∷ framed PcomBlock around ∷ []) ps u g t) EndItem lines (InHandler 0 h []) m Finish (finishes HandlerBlock m c.moves)
    (InComponent 0 (suc h), one_behind grammar.End lines _ _ (same_lines _ lines c.means) refl, in_pcom w)
lead_end all _ _ ps u g t n lines m _ (in_handler {c = d} {cs = cs} {handlers = h} w (part {b = Then x} {own = own} {fs = fs} {p = First} {ps = qs} y i)) c =
    moved_so (state (d ∷ cs) (framed (Then x) own ∷ fs) ps u g t) EndItem lines (InHandler 0 h (First ∷ qs)) m Finish (finishes (Then x) m c.moves)
    (InHandler 0 h qs, ap (λ (z : List Line). all_behind z (InHandler 0 h (First ∷ qs))) (same_lines _ lines c.means), in_handler w i)
lead_end all _ _ ps u g t n lines m _ (in_handler {c = d} {cs = cs} {handlers = h} w (part {b = Else x} {own = own} {fs = fs} {p = Second} {ps = qs} y i)) c =
    moved_so (state (d ∷ cs) (framed (Else x) own ∷ fs) ps u g t) EndItem lines (InHandler 0 h (Second ∷ qs)) m Finish (finishes (Else x) m c.moves)
    (InHandler 0 h qs, one_behind grammar.End lines _ _ (same_lines _ lines c.means) refl, in_handler w i)
lead_end all _ _ ps u g t n lines m _ (in_handler {c = d} {cs = cs} {handlers = h} w (part {b = OtherPart} {own = own} {fs = fs} {p = Second} {ps = qs} y i)) c =
    moved_so (state (d ∷ cs) (framed OtherPart own ∷ fs) ps u g t) EndItem lines (InHandler 0 h (Second ∷ qs)) m Finish (finishes OtherPart m c.moves)
    (InHandler 0 h qs, one_behind grammar.End lines _ _ (same_lines _ lines c.means) refl, in_handler w i)
lead_end all _ _ ps u g t n lines m _ (in_handler w (part {b = Then x} {p = Second} y i)) c = absurd (cc)
lead_end all _ _ ps u g t n lines m _ (in_handler w (part {b = Else x} {p = First} y i)) c = absurd (cc)
lead_end all _ _ ps u g t n lines m _ (in_handler w (part {b = OtherPart} {p = First} y i)) c = absurd (cc)
lead_end all _ _ ps u g t n lines m _ (in_handler w (part {b = TcomBlock} y i)) c = absurd (cc)
lead_end all _ _ ps u g t n lines m _ (in_handler w (part {b = PcomBlock} y i)) c = absurd (cc)
lead_end all _ _ ps u g t n lines m _ (in_handler w (part {b = HandlerBlock} y i)) c = absurd (cc)
lead_end all _ _ ps u g t n lines m _ (in_handler w (part {b = PartStart} y i)) c = absurd (let x = c.moves in cc)
lead_end all _ _ ps u g t n lines m _ (in_handler w (part {b = Part} y i)) c = absurd (let x = c.moves in cc)

-- no component's block is one of a handler
not_of_parts : (f : Frame) (fs : List Frame) (ps : List spots.Part) (b : Block) → f.block ≡ b → part_as b ≡ None → (b ≡ HandlerBlock → ⊥) → IsInParts (f ∷ fs) ps → ⊥
not_of_parts _ _ _ b e n x handler = x (sym e)
not_of_parts _ _ _ b e n x (part y i) = let z = sym y ∙ ap part_as e ∙ n in cc

not_tcom : TcomBlock ≡ HandlerBlock → ⊥
not_tcom e = cc

not_pcom : PcomBlock ≡ HandlerBlock → ⊥
not_pcom e = cc

lead_key : (all cs : List Declared) (fs : List Frame) (ps : List (List ℕ)) (u g : ℕ) (t : List ℕ) (k : List ℕ) (z : ℤ) → Leads all (state cs fs ps u g t) (KeyItem k z)
unfolding noted resolved
lead_key all _ _ ps u g t k z n lines m _ at_top c = absurd (let x = c.moves in cc)
lead_key all _ _ ps u g t k z n lines m _ (in_tcom {c = d} {cs = cs} {own = own} {keys = l}) c =
    moved_so (state (d ∷ cs) (framed TcomBlock own ∷ []) ps u g t) (KeyItem k z) lines (InComponent l 0) m Stay (key_moves TcomBlock k z m c.moves).1
    (InComponent (suc l) 0, one_behind (grammar.Key k z) lines _ _ (same_lines _ lines c.means) refl, in_tcom)
lead_key all _ _ ps u g t k z n lines m _ (in_pcom w) c = absurd (let x = (key_moves PcomBlock k z m c.moves).0 in cc)
lead_key all _ [] ps u g t k z n lines m _ (in_handler w i) c = elim i [ ]
lead_key all _ (f ∷ fs) ps u g t k z n lines m _ (in_handler {ps = qs} w i) c = absurd (not_of_parts f fs qs TcomBlock (key_moves f.block k z m c.moves).0 refl not_tcom i)

none_declared : (h k : ℕ) → k ≡ h → nat_lt 0 k ≡ false → h ≡ 0
none_declared h k e w = grind (arith, nat_tests)

lead_var : (all cs : List Declared) (fs : List Frame) (ps : List (List ℕ)) (u g : ℕ) (t : List ℕ) (v : List ℕ) (z : ℤ) → Leads all (state cs fs ps u g t) (VarItem v z)
unfolding noted resolved
lead_var all _ _ ps u g t v z n lines m _ at_top c = absurd (let x = c.moves in cc)
lead_var all _ _ ps u g t v z n lines m _ in_tcom c = absurd (let x = (var_moves TcomBlock v z m c.moves).0 in cc)
lead_var all _ _ ps u g t v z n lines m _ (in_pcom {c = d} {cs = cs} {own = own} {handlers = zero} w) c =
    moved_so (state (d ∷ cs) (framed PcomBlock own ∷ []) ps u g t) (VarItem v z) lines (InComponent 0 0) m Stay (var_moves PcomBlock v z m c.moves).1
    (InComponent 0 0, one_behind (grammar.Var v z) lines _ _ (same_lines _ lines c.means) refl, in_pcom w)
lead_var all _ _ ps u g t v z n lines m _ (in_pcom {c = d} {handlers = suc h} w) c = absurd (let x = none_declared (suc h) (length d.handlers) w c.placed in cc)
lead_var all _ [] ps u g t v z n lines m _ (in_handler w i) c = elim i [ ]
lead_var all _ (f ∷ fs) ps u g t v z n lines m _ (in_handler {ps = qs} w i) c = absurd (not_of_parts f fs qs PcomBlock (var_moves f.block v z m c.moves).0 refl not_pcom i)

one_more : {X : Type 0} (xs : List X) (x : X) (h : ℕ) → length xs ≡ h → length (xs ++ x ∷ []) ≡ suc h
one_more xs x h e = let l = length-append xs (x ∷ []) in omega (arith, l, e)

lead_on : (all cs : List Declared) (fs : List Frame) (ps : List (List ℕ)) (u g : ℕ) (t : List ℕ) (w : List ℕ) (qs : List (List ℕ)) → Leads all (state cs fs ps u g t) (OnItem w qs)
unfolding noted resolved
lead_on all _ _ ps u g t w qs n lines m _ at_top c = absurd (let x = c.moves in cc)
lead_on all _ _ ps u g t w qs n lines m _ in_tcom c = absurd (let x = (on_moves TcomBlock w qs m c.moves).0 in cc)
lead_on all _ _ ps u g t w qs n lines m _ (in_pcom {c = d} {cs = cs} {own = own} {handlers = h} y) c =
    moved_so (state (d ∷ cs) (framed PcomBlock own ∷ []) ps u g t) (OnItem w qs) lines (InComponent 0 h) m (Begin HandlerBlock) (on_moves PcomBlock w qs m c.moves).1
    (InHandler 0 h [], one_behind (grammar.On w (length qs)) lines _ _ (same_lines _ lines c.means) refl, in_handler (one_more d.handlers (w, length qs) h y) handler)
lead_on all _ [] ps u g t w qs n lines m _ (in_handler y i) c = elim i [ ]
lead_on all _ (f ∷ fs) ps u g t w qs n lines m _ (in_handler {ps = rs} y i) c = absurd (not_of_parts f fs rs PcomBlock (on_moves f.block w qs m c.moves).0 refl not_pcom i)

-- a component
lead_xcom : (all cs : List Declared) (fs : List Frame) (ps : List (List ℕ)) (u g : ℕ) (t : List ℕ) (x : List ℕ) → Leads all (state cs fs ps u g t) (XcomItem x)
unfolding noted resolved
lead_xcom all cs [] ps u g t x n lines m _ at_top c =
    moved_so (state cs [] ps u g t) (XcomItem x) lines AtTop m Stay (let y = c.moves in cc) (AtTop, ap (λ (z : List Line). all_behind z AtTop) (same_lines _ lines c.means), at_top)
lead_xcom all _ [] ps u g t x n lines m _ (in_handler y i) c = elim i [ ]
lead_xcom all cs (f ∷ fs) ps u g t x n lines m s i c = absurd (no_xcom f.block x m c.moves)

lead_tcom : (all cs : List Declared) (fs : List Frame) (ps : List (List ℕ)) (u g : ℕ) (t : List ℕ) (x : List ℕ) → Leads all (state cs fs ps u g t) (TcomItem x)
unfolding noted resolved
lead_tcom all cs [] ps u g t x n lines m _ at_top c =
    moved_so (state cs [] ps u g t) (TcomItem x) lines AtTop m (Begin TcomBlock) (let y = c.moves in cc) (InComponent 0 0, ap (λ (z : List Line). all_behind z AtTop) (same_lines _ lines c.means), in_tcom)
lead_tcom all _ [] ps u g t x n lines m _ (in_handler y i) c = elim i [ ]
lead_tcom all cs (f ∷ fs) ps u g t x n lines m s i c = absurd (no_tcom f.block x m c.moves)

lead_pcom : (all cs : List Declared) (fs : List Frame) (ps : List (List ℕ)) (u g : ℕ) (t : List ℕ) (x : List ℕ) (b : Bool) → Leads all (state cs fs ps u g t) (PcomItem x b)
unfolding noted resolved
lead_pcom all cs [] ps u g t x b n lines m _ at_top c =
    moved_so (state cs [] ps u g t) (PcomItem x b) lines AtTop m (Begin PcomBlock) (let y = c.moves in cc) (InComponent 0 0, ap (λ (z : List Line). all_behind z AtTop) (same_lines _ lines c.means), in_pcom refl)
lead_pcom all _ [] ps u g t x b n lines m _ (in_handler y i) c = elim i [ ]
lead_pcom all cs (f ∷ fs) ps u g t x b n lines m s i c = absurd (no_pcom f.block x b m c.moves)

-- any item
lead_item : (all : List Declared) (seen : Scope) (item : SyntaxLine) → Leads all seen item
lead_item all seen (XcomItem x) = lead_xcom all seen.components seen.frames seen.params seen.statements seen.gets seen.tcom x
lead_item all seen (TcomItem x) = lead_tcom all seen.components seen.frames seen.params seen.statements seen.gets seen.tcom x
lead_item all seen (PcomItem x b) = lead_pcom all seen.components seen.frames seen.params seen.statements seen.gets seen.tcom x b
lead_item all seen (KeyItem k z) = lead_key all seen.components seen.frames seen.params seen.statements seen.gets seen.tcom k z
lead_item all seen (VarItem v z) = lead_var all seen.components seen.frames seen.params seen.statements seen.gets seen.tcom v z
lead_item all seen (OnItem w qs) = lead_on all seen.components seen.frames seen.params seen.statements seen.gets seen.tcom w qs
lead_item all seen (SetItem v e) = lead_set all seen.components seen.frames seen.params seen.statements seen.gets seen.tcom v e
lead_item all seen (SendItem p h xs) = lead_message all seen.components seen.frames seen.params seen.statements seen.gets seen.tcom p h xs
lead_item all seen (OutItem x xs) = lead_out all seen.components seen.frames seen.params seen.statements seen.gets seen.tcom x xs
lead_item all seen (IfItem e) = lead_choice all seen.components seen.frames seen.params seen.statements seen.gets seen.tcom e
lead_item all seen (TxnItem v) = lead_txn all seen.components seen.frames seen.params seen.statements seen.gets seen.tcom v
lead_item all seen (GetItem v k) = lead_get all seen.components seen.frames seen.params seen.statements seen.gets seen.tcom v k
lead_item all seen (PutItem k e) = lead_put all seen.components seen.frames seen.params seen.statements seen.gets seen.tcom k e
lead_item all seen (NeedItem e) = lead_need all seen.components seen.frames seen.params seen.statements seen.gets seen.tcom e
lead_item all seen ElseItem = lead_else all seen.components seen.frames seen.params seen.statements seen.gets seen.tcom
lead_item all seen EndItem = lead_end all seen.components seen.frames seen.params seen.statements seen.gets seen.tcom

abbrev seen_so : Scope → Result Scope Cause
seen_so seen = Ok seen

-- a line, with an item or without a token
pub leads : (all : List Declared) (n : ℕ) (seen next : Scope) (said : Option SyntaxLine) (lines : List Line) (s : BuilderState)
    → LeadsTo seen s → resolved_if all seen n said ≡ Ok lines → seen_if seen said ≡ Ok next → Led lines s next.components next.frames
leads all n seen next None lines s i a b =
    let x : seen_so seen ≡ seen_so next = b in
    let e : seen ≡ next = cc in
    (s, ap (λ (z : List Line). all_behind z s) (same_lines [] lines a), subst (λ (z : Scope). LeadsTo z s) e i)
leads all n seen next (Some item) lines s i a b =
    let d = taken seen item next b in
    subst (λ (z : Scope). Led lines s z.components z.frames) (sym d.next_is)
    (lead_item all seen item n lines d.move s i (record { free = d.free; placed = d.placed; moves = d.moves; new = d.new; within = d.within; means = a }))

at_end_top : (last : ℕ) (cs : List Declared) (fs : List Frame) (seen : Scope) (s : BuilderState) → IsOk (at_end last fs seen) → IsAt cs fs s → s ≡ AtTop
at_end_top last cs [] seen _ e at_top = refl
at_end_top last _ [] seen _ e (in_handler w i) = elim i [ ]
at_end_top last cs (f ∷ fs) seen s e i = absurd (cc)

-- at the end of a text that the first pass takes
pub ends_at_top : (last : ℕ) (seen : Scope) (s : BuilderState) → IsOk (checked last seen []) → LeadsTo seen s → s ≡ AtTop
unfolding checked
ends_at_top last seen s e i = at_end_top last seen.components seen.frames seen s e i
