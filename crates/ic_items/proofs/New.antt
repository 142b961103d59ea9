-- Names that are new.
use Rattle.std.proofs.Common.{◌≡◌, ◌++◌, ◌∷◌, [], ◌∙◌, ℕ, List, false, map, reverse, ap, sym, refl}
use Rattle.std.specs.Prelude.{◌||◌, bytes_eq}
use Rattle.std.proofs.lemmas.List.{map-append}
use Rattle.std.proofs.lemmas.List.Folds.{list_any-append}
use Rattle.std.proofs.lemmas.List.Sorted.{list_any-IsPermutation, IsPermutation-reverse}
use Rattle.def_syntax.specs.Blocks.{BlockAction, Stay, Begin, Turn, Finish}
use Rattle.def_syntax.specs.SyntaxLines.{SyntaxLine, XcomItem, TcomItem, PcomItem, KeyItem, VarItem, OnItem, SetItem, SendItem, OutItem, IfItem, TxnItem, GetItem, PutItem, NeedItem, ElseItem, EndItem}
use Rattle.def_syntax.specs.Scope.{Declared, Frame, Scope, is_in, is_twice, latest, moved, names}
use Rattle.ic_items.specs.Views.{locals_in}
use Rattle.ic_items.proofs.Tables.{list_any-map}
use Rattle.ic_items.proofs.Twice.{neither}

-- a component has a name, whichever stands first
pub is_in-reverse : (n : List ℕ) (cs : List Declared) → is_in n (map (λ (c : Declared). c.name) (reverse cs)) ≡ is_in n (map (λ (c : Declared). c.name) cs)
is_in-reverse n cs =
    list_any-map (λ m. bytes_eq n m) (λ (c : Declared). c.name) (reverse cs) ∙ sym (list_any-IsPermutation (λ (c : Declared). bytes_eq n c.name) cs (reverse cs) (IsPermutation-reverse cs))
    ∙ sym (list_any-map (λ m. bytes_eq n m) (λ (c : Declared). c.name) cs)

is_in-both : (n : List ℕ) (xs ys : List (List ℕ)) → is_in n (xs ++ ys) ≡ false → (is_in n xs ≡ false) × (is_in n ys ≡ false)
is_in-both n xs ys h = neither (is_in n xs) (is_in n ys) (sym (list_any-append (λ m. bytes_eq n m) xs ys) ∙ h)

outer_new : (n : List ℕ) (f : Frame) (fs : List Frame) → is_in n (names (locals_in (f ∷ fs))) ≡ false → is_in n (names (locals_in fs)) ≡ false
outer_new n f fs h = (is_in-both n (names f.locals) (names (locals_in fs)) (ap (is_in n) (sym (map-append (λ (x : List ℕ × ℕ). x.0) f.locals (locals_in fs))) ∙ h)).1

moved_new : (n : List ℕ) (m : BlockAction) (fs : List Frame) → is_in n (names (locals_in fs)) ≡ false → is_in n (names (locals_in (moved m fs))) ≡ false
moved_new n Stay fs h = h
moved_new n (Begin b) fs h = h
moved_new n (Turn b) [] h = refl
moved_new n (Turn b) (f ∷ fs) h = outer_new n f fs h
moved_new n Finish [] h = refl
moved_new n Finish (f ∷ fs) h = outer_new n f fs h

local_new : (n : List ℕ) (m : BlockAction) (xs : List (List ℕ)) (fs : List Frame) → is_in n (xs ++ names (locals_in fs)) ≡ false → is_in n (xs ++ names (locals_in (moved m fs))) ≡ false
local_new n m xs fs h =
    let parts = is_in-both n xs (names (locals_in fs)) h in
    list_any-append (λ k. bytes_eq n k) xs (names (locals_in (moved m fs))) ∙ ap (λ b. b || is_in n (names (locals_in (moved m fs)))) parts.0 ∙ moved_new n m fs parts.1

-- what a line declares anew stays new where blocks are opened or closed
pub new_behind : (m : BlockAction) (seen : Scope) (item : SyntaxLine) → is_twice seen item ≡ false → is_twice (record seen { frames = moved m seen.frames }) item ≡ false
unfolding is_twice
new_behind m seen (XcomItem n) h = h
new_behind m seen (TcomItem n) h = h
new_behind m seen (PcomItem n immediate) h = h
new_behind m seen (KeyItem n z) h = h
new_behind m seen (VarItem n z) h = h
new_behind m seen (OnItem n ps) h = h
new_behind m seen (SetItem v e) h = h
new_behind m seen (SendItem p k xs) h = h
new_behind m seen (OutItem x xs) h = h
new_behind m seen (IfItem e) h = h
new_behind m seen (TxnItem t) h = h
new_behind m seen (GetItem n k) h = local_new n m ((latest seen).vars ++ seen.params) seen.frames h
new_behind m seen (PutItem k e) h = h
new_behind m seen (NeedItem e) h = h
new_behind m seen ElseItem h = h
new_behind m seen EndItem h = h
