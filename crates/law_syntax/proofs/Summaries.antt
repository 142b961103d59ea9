-- What the lines of a program tell of its components: their kinds, the number of their keys, and the numbers of parameters of their
-- handlers.
use Rattle.std.proofs.Common.{◌≡◌, refl, ◌∙◌, ap, sym, ℕ, suc, ◌+◌, ℤ, List, [], ◌∷◌, ◌++◌, map, length, reverse, arith}
use Rattle.std.specs.List.{AllByRecursion}
use Rattle.std.proofs.lemmas.List.{append_assoc, append-nil, reverse-append}
use Rattle.ic_base.specs.declared.messages.Kind.{Kind}
use Rattle.ic_base.specs.declared.scenario.Component.{Component}
use Rattle.ic_base.specs.declared.scenario.Handler.{Handler}
use Rattle.ic_base.specs.declared.scenario.Stmt.{Stmt}
use Rattle.ic_base.specs.declared.scenario.Stmt as stmt
use Rattle.def_syntax.specs.Lines.{Line, Head, Var, Key, On, Set, Send, Out, If, Txn, Get, Put, Need, Else, End, joined, stmt_lines, body_lines, handler_lines, component_lines}
use Rattle.def_syntax.proofs.StatementLines.{set_lines, send_lines, out_lines, if_lines, txn_lines, get_lines, put_lines, need_lines}
use Rattle.law_replay.proofs.ByKind.{Kinds, each_of}

pub record Summary : Type 0 where
  pub kind : Kind
  pub keys : ℕ
  pub params : List ℕ

-- the latest component stands first
abbrev pub noted : List Summary → Line → List Summary
noted xs (Head n kind immediate) = record { kind = kind; keys = 0; params = [] } ∷ xs
noted [] (Key n z) = []
noted (x ∷ xs) (Key n z) = record x { keys = x.keys + 1 } ∷ xs
noted [] (On n params) = []
noted (x ∷ xs) (On n params) = record x { params = x.params ++ params ∷ [] } ∷ xs
noted xs (Var n z) = xs
noted xs (Set v e) = xs
noted xs (Send to h es) = xs
noted xs (Out to es) = xs
noted xs (If e) = xs
noted xs (Txn t) = xs
noted xs (Get n k) = xs
noted xs (Put k e) = xs
noted xs (Need line e) = xs
noted xs Else = xs
noted xs End = xs

abbrev pub summed : List Summary → List Line → List Summary
summed xs [] = xs
summed xs (l ∷ ls) = summed (noted xs l) ls

-- a component's own
abbrev pub params_of : List Handler → List ℕ
params_of hs = map (λ h. h.params) hs

abbrev pub summary_of : Component → Summary
summary_of d = record { kind = d.kind; keys = length d.keys; params = params_of d.handlers }

-- statements tell nothing --------------------------------------------------------------------------------

TellsNothing : List Line → Type 0
TellsNothing ls = (xs : List Summary) (rest : List Line) → summed xs (ls ++ rest) ≡ summed xs rest

both-tell : (xs ys : List Line) → TellsNothing xs → TellsNothing ys → TellsNothing (xs ++ ys)
unfolding TellsNothing
both-tell xs ys a b zs rest = ap (summed zs) (append_assoc xs ys rest) ∙ a zs (ys ++ rest) ∙ b zs rest

Quiet : Stmt → Type 0
Quiet s = TellsNothing (stmt_lines s)

body-quiet : (ss : List Stmt) → AllByRecursion Quiet ss → TellsNothing (body_lines ss)
unfolding TellsNothing Quiet
body-quiet [] h = λ xs rest. refl
body-quiet (s ∷ ss) h = both-tell (stmt_lines s) (body_lines ss) h.0 (body-quiet ss h.1)

one-quiet : (s : Stmt) (l : Line) → stmt_lines s ≡ l ∷ [] → ((xs : List Summary) → noted xs l ≡ xs) → Quiet s
unfolding TellsNothing Quiet
one-quiet s l is quiet xs rest = ap (λ ls. summed xs (ls ++ rest)) is ∙ ap (λ ys. summed ys rest) (quiet xs)

block-quiet : (s : Stmt) (l : Line) (a b : List Stmt) → stmt_lines s ≡ l ∷ (body_lines a ++ Else ∷ (body_lines b ++ End ∷ [])) → ((xs : List Summary) → noted xs l ≡ xs) → AllByRecursion Quiet a → AllByRecursion Quiet b → Quiet s
unfolding TellsNothing Quiet
block-quiet s l a b is quiet x y xs rest =
    ap (λ ls. summed xs (ls ++ rest)) is
    ∙ ap (λ ys. summed ys ((body_lines a ++ Else ∷ (body_lines b ++ End ∷ [])) ++ rest)) (quiet xs)
    ∙ ap (summed xs) (append_assoc (body_lines a) (Else ∷ (body_lines b ++ End ∷ [])) rest ∙ ap (λ ls. body_lines a ++ Else ∷ ls) (append_assoc (body_lines b) (End ∷ []) rest))
    ∙ body-quiet a x xs (Else ∷ (body_lines b ++ End ∷ rest))
    ∙ body-quiet b y xs (End ∷ rest)

kinds : Kinds Quiet
kinds = record {
  set = λ i e. one-quiet (stmt.Set i e) (Set i e) (set_lines i e) (λ xs. refl);
  send = λ to n es. one-quiet (stmt.Send to n es) (Send to n es) (send_lines to n es) (λ xs. refl);
  out = λ to es. one-quiet (stmt.Out to es) (Out to es) (out_lines to es) (λ xs. refl);
  choice = λ e a b x y. block-quiet (stmt.If e a b) (If e) a.stmts.items b.stmts.items (if_lines e a b (body_lines a.stmts.items) (body_lines b.stmts.items) refl refl) (λ xs. refl) x y;
  part = λ t a b x y. block-quiet (stmt.Txn t a b) (Txn t) a.stmts.items b.stmts.items (txn_lines t a b (body_lines a.stmts.items) (body_lines b.stmts.items) refl refl) (λ xs. refl) x y;
  get = λ i key. one-quiet (stmt.Get i key) (Get i key) (get_lines i key) (λ xs. refl);
  put = λ key e. one-quiet (stmt.Put key e) (Put key e) (put_lines key e) (λ xs. refl);
  need = λ line e. one-quiet (stmt.Need line e) (Need line e) (need_lines line e) (λ xs. refl);
}

-- components --------------------------------------------------------------------------------------------

vars-tell : (vs : List (List ℕ × ℤ)) (xs : List Summary) (rest : List Line) → summed xs (map (λ x. Var x.0 x.1) vs ++ rest) ≡ summed xs rest
vars-tell [] xs rest = refl
vars-tell (v ∷ vs) xs rest = vars-tell vs xs rest

keys-tell : (ks : List (List ℕ × ℤ)) (x : Summary) (xs : List Summary) (rest : List Line) → summed (x ∷ xs) (map (λ k. Key k.0 k.1) ks ++ rest) ≡ summed (record x { keys = x.keys + length ks } ∷ xs) rest
keys-tell [] x xs rest = ap (λ n. summed (record x { keys = n } ∷ xs) rest) (plus x.keys)
  where
    plus : (n : ℕ) → n ≡ n + 0
    plus n = omega arith
keys-tell (k ∷ ks) x xs rest = keys-tell ks (record x { keys = x.keys + 1 }) xs rest ∙ ap (λ n. summed (record x { keys = n } ∷ xs) rest) (plus x.keys (length ks))
  where
    plus : (n m : ℕ) → (n + 1) + m ≡ n + suc m
    plus n m = omega arith

handlers-tell : (hs : List Handler) (x : Summary) (xs : List Summary) (rest : List Line) → summed (x ∷ xs) (joined (map handler_lines hs) ++ rest) ≡ summed (record x { params = x.params ++ params_of hs } ∷ xs) rest
unfolding TellsNothing
handlers-tell [] x xs rest = ap (λ l. summed (record x { params = l } ∷ xs) rest) (sym (append-nil x.params))
handlers-tell (h ∷ hs) x xs rest =
    ap (summed (x ∷ xs)) (append_assoc (handler_lines h) (joined (map handler_lines hs)) rest)
    ∙ ap (summed (record x { params = x.params ++ h.params ∷ [] } ∷ xs)) (append_assoc (body_lines h.body.stmts.items) (End ∷ []) (joined (map handler_lines hs) ++ rest))
    ∙ body-quiet h.body.stmts.items (each_of Quiet kinds h.body.stmts.items) (record x { params = x.params ++ h.params ∷ [] } ∷ xs) (End ∷ (joined (map handler_lines hs) ++ rest))
    ∙ handlers-tell hs (record x { params = x.params ++ h.params ∷ [] }) xs rest
    ∙ ap (λ l. summed (record x { params = l } ∷ xs) rest) (append_assoc x.params (h.params ∷ []) (params_of hs))

component-tells : (d : Component) (xs : List Summary) (rest : List Line) → summed xs (component_lines d ++ rest) ≡ summed (summary_of d ∷ xs) rest
component-tells d xs rest =
    let vs = map (λ (x : List ℕ × ℤ). Var x.0 x.1) d.vars in
    let ks = map (λ (x : List ℕ × ℤ). Key x.0 x.1) d.keys in
    let hs = joined (map handler_lines d.handlers) in
    let x : Summary = record { kind = d.kind; keys = 0; params = [] } in
    ap (summed (x ∷ xs)) (append_assoc (vs ++ ks ++ hs) (End ∷ []) rest ∙ append_assoc (vs ++ ks) hs (End ∷ rest) ∙ append_assoc vs ks (hs ++ End ∷ rest))
    ∙ vars-tell d.vars (x ∷ xs) (ks ++ (hs ++ End ∷ rest))
    ∙ keys-tell d.keys x xs (hs ++ End ∷ rest)
    ∙ ap (λ n. summed (record x { keys = n } ∷ xs) (hs ++ End ∷ rest)) (zero-plus (length d.keys))
    ∙ handlers-tell d.handlers (record x { keys = length d.keys }) xs (End ∷ rest)
  where
    zero-plus : (n : ℕ) → 0 + n ≡ n
    zero-plus n = omega arith

-- all components of a program, the latest first
pub program-tells : (ds : List Component) (xs : List Summary) → summed xs (joined (map component_lines ds)) ≡ reverse (map summary_of ds) ++ xs
program-tells [] xs = refl
program-tells (d ∷ ds) xs =
    component-tells d xs (joined (map component_lines ds)) ∙ program-tells ds (summary_of d ∷ xs)
    ∙ sym (ap (λ l. l ++ xs) (reverse-append (summary_of d ∷ []) (map summary_of ds)) ∙ append_assoc (reverse (map summary_of ds)) (summary_of d ∷ []) xs)
