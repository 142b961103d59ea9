-- How the lines of a handler in the making go on.
use Rattle.std.proofs.Common.{◌≡◌, List, [], ◌∷◌, ◌++◌, map, sym, ap, ◌∙◌, append_assoc}
use Rattle.std.proofs.lemmas.List.{append-nil}
use Rattle.ic_base.specs.declared.scenario.Stmt.{Stmt}
use Rattle.def_syntax.specs.Lines.{Line, joined, body_lines}
use Rattle.ic_syntax.specs.declared.handler_builder.OpenBlock.{OpenBlock}
use Rattle.ic_syntax.specs.Views.{outer_lines}

-- one thing more
pub joined_push : {X : Type 0} (f : X → List Line) (xs : List X) (x : X) → joined (map f (xs ++ x ∷ [])) ≡ joined (map f xs) ++ f x
joined_push f [] x = append-nil (f x)
joined_push f (y ∷ xs) x = ap (λ (l : List Line). f y ++ l) (joined_push f xs x) ∙ sym (append_assoc (f y) (joined (map f xs)) (f x))

-- the same behind other lines
pub joined_more : {X : Type 0} (f : X → List Line) (front : List Line) (xs ys : List X) (x : X) → ys ≡ xs ++ x ∷ [] → front ++ joined (map f ys) ≡ front ++ joined (map f xs) ++ f x
joined_more f front xs ys x e = ap (λ zs. front ++ joined (map f zs)) e ∙ ap (λ (l : List Line). front ++ l) (joined_push f xs x) ∙ sym (append_assoc front (joined (map f xs)) (f x))

abbrev pub around : List OpenBlock → List Line
around os = joined (map outer_lines os)

-- one part more
pub around_push : (os : List OpenBlock) (o : OpenBlock) → around (os ++ o ∷ []) ≡ around os ++ outer_lines o
around_push os o = joined_push outer_lines os o

-- a part is opened behind these statements
pub opened : (os qs : List OpenBlock) (o : OpenBlock) (bs : List Line) (ts : List Stmt) (l : Line) → qs ≡ os ++ o ∷ [] → ts ≡ [] → outer_lines o ≡ bs ++ l ∷ [] → around qs ++ body_lines ts ≡ around os ++ bs ++ l ∷ []
opened os qs o bs ts l q t e =
    ap (λ (ss : List Stmt). around qs ++ body_lines ss) t ∙ append-nil (around qs) ∙ ap around q ∙ around_push os o ∙ ap (λ (ls : List Line). around os ++ ls) e ∙ sym (append_assoc (around os) bs (l ∷ []))

-- the second part is opened behind the statements of the first
pub turned_lines : (os rs qs : List OpenBlock) (o p : OpenBlock) (bs : List Line) (ts : List Stmt) (l : Line) → os ≡ rs ++ o ∷ [] → qs ≡ rs ++ p ∷ [] → ts ≡ [] → outer_lines p ≡ outer_lines o ++ (bs ++ l ∷ []) → around qs ++ body_lines ts ≡ around os ++ bs ++ l ∷ []
turned_lines os rs qs o p bs ts l i q t e =
    ap (λ (ss : List Stmt). around qs ++ body_lines ss) t ∙ append-nil (around qs) ∙ ap around q ∙ around_push rs p ∙ ap (λ (ls : List Line). around rs ++ ls) e
    ∙ sym (append_assoc (around rs) (outer_lines o) (bs ++ l ∷ [])) ∙ ap (λ (ls : List Line). ls ++ (bs ++ l ∷ [])) (sym (around_push rs o) ∙ ap around (sym i)) ∙ sym (append_assoc (around os) bs (l ∷ []))

-- the open statement is ended behind the statements of its second part
pub closed_lines : (os rs : List OpenBlock) (o : OpenBlock) (bs cs : List Line) (l : Line) → os ≡ rs ++ o ∷ [] → cs ≡ outer_lines o ++ (bs ++ l ∷ []) → around rs ++ cs ≡ around os ++ bs ++ l ∷ []
closed_lines os rs o bs cs l i e =
    ap (λ (ls : List Line). around rs ++ ls) e
    ∙ sym (append_assoc (around rs) (outer_lines o) (bs ++ l ∷ [])) ∙ ap (λ (ls : List Line). ls ++ (bs ++ l ∷ [])) (sym (around_push rs o) ∙ ap around (sym i)) ∙ sym (append_assoc (around os) bs (l ∷ []))
