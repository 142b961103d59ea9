-- How operands and names are read one after another.
use Rattle.std.proofs.Common.{◌≡◌, List, [], ◌∷◌, ◌++◌, Option, None, Some, option_map, sym, ap, refl, append_assoc}
use Rattle.def_syntax.specs.Text.{Token}
use Rattle.def_syntax.specs.SyntaxLines.{both}

abbrev pub all_read : {X : Type 0} → (Token → Option X) → List Token → Option (List X)
all_read read [] = Some []
all_read read (t ∷ ts) = both (λ x xs. x ∷ xs) (read t) (all_read read ts)

-- those that are read already, and those behind
abbrev pub behind : {X : Type 0} → List X → Option (List X) → Option (List X)
behind front rest = option_map (λ xs. front ++ xs) rest

one_more : {X : Type 0} (front : List X) (x : X) (rest : Option (List X)) → behind front (both (λ y ys. y ∷ ys) (Some x) rest) ≡ behind (front ++ x ∷ []) rest
one_more front x None = refl
one_more front x (Some xs) = ap Some (sym (append_assoc front (x ∷ []) xs))

pub read_more : {X : Type 0} (read : Token → Option X) (front : List X) (x : X) (t : Token) (ts us : List Token) → us ≡ t ∷ ts → read t ≡ Some x → behind front (all_read read us) ≡ behind (front ++ x ∷ []) (all_read read ts)
read_more read front x t ts us e r = rw e (rw r (one_more front x (all_read read ts)))

pub read_none : {X : Type 0} (read : Token → Option X) (front : List X) (t : Token) (ts us : List Token) → us ≡ t ∷ ts → read t ≡ None → behind front (all_read read us) ≡ None
read_none read front t ts us e r = rw e (rw r refl)
