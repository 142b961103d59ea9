-- What the grammar derives passes no limit.
use Rattle.std.proofs.Common.{◌≡◌, ◌∙◌, sym, ap, refl, subst, ◌≤◌, ℕ, suc, List, [], ◌∷◌, ◌++◌, length, Some}
use Rattle.ic_base.specs.declared.scenario.Operand.{Operand}
use Rattle.def_syntax.specs.SyntaxLines.{RawOperand}
use Rattle.def_syntax.specs.Scope.{Declared, declares}
use Rattle.def_syntax.specs.Lines.{Line}
use Rattle.def_syntax.proofs.Parts.{both_parts}
use Rattle.def_syntax.specs.Bounds.{Count, AllFit}
use Rattle.def_syntax.specs.Grammar.{NumberedLine, Locals, Around, Here, locals_in, operands_in, Ahead, Statements, no_statement, set, send, out, choice, lone_choice, txn, get, put, need, Open, Keys, no_key, key, Vars, no_var, var, Handlers, no_handler, handler, Components, no_component, xcom, tcom, pcom}

-- names that are short enough
abbrev pub AreShort : List (List ℕ) → Type 0
AreShort [] = Unit {0}
AreShort (n ∷ ns) = (length n ≤ 32) × AreShort ns

abbrev pub HaveShort : List NumberedLine → Type 0
HaveShort [] = Unit {0}
HaveShort (w ∷ ws) = AreShort (declares w.1) × HaveShort ws

abbrev pub counts : ℕ → ℕ → ℕ → ℕ → ℕ → ℕ → Count
counts c v k h s d = record { components = c; vars = v; keys = k; handlers = h; statements = s; nesting = d }

-- the items behind have short names too, and if the lines behind fit so do those in front
pub record Onward (from to : List NumberedLine) (before after : Type 0) : Type 0 where
  pub short : HaveShort to
  pub back : after → before

abbrev pub At : ℕ → ℕ → ℕ → ℕ → ℕ → Ahead → Type 0
At c v k h d p = AllFit (counts c v k h p.statements d) p.lines

-- as many operands as there are written
many : (a : Around) (locals : Locals) (xs : List RawOperand) (os : List Operand) → operands_in a locals xs ≡ Some os → length os ≡ length xs
many a locals [] os e = let x : os ≡ [] = cc in ap length x
many a locals (x ∷ xs) os e =
    let b = both_parts (λ o os. o ∷ os) _ _ os e in
    ap length b.4 ∙ ap suc (many a locals xs b.1 b.3)

few : (a : Around) (locals : Locals) (xs : List RawOperand) (os : List Operand) → operands_in a locals xs ≡ Some os → length xs ≤ 8 → length os ≤ 8
few a locals xs os e l = subst (λ k. k ≤ 8) (sym (many a locals xs os e)) l

pub fit_statements : {a : Around} {b : Here} {p q : Ahead} (c v k h : ℕ) → Statements a b p q → HaveShort p.items → Onward p.items q.items (At c v k h b.depth p) (At c v k h b.depth q)
fit_statements c v k h no_statement i = record { short = i; back = λ x. x }
fit_statements c v k h (set s x1 x2 d) i = let r = fit_statements c v k h d i.1 in record { short = r.short; back = λ x. (s, r.back x) }
fit_statements {a = a} c v k h (send {h = here} {xs = xs} {os = os} x1 s n x2 x3 x4 o x6 d) i = let r = fit_statements c v k h d i.1 in record { short = r.short; back = λ x. ((s, few a (locals_in here) xs os o n), r.back x) }
fit_statements {a = a} c v k h (out {h = here} {xs = xs} {os = os} x1 s n x2 o d) i = let r = fit_statements c v k h d i.1 in record { short = r.short; back = λ x. ((s, few a (locals_in here) xs os o n), r.back x) }
fit_statements c v k h (choice s l x1 d d1 d2) i =
    let r = fit_statements c v k h d i.1 in
    let r1 = fit_statements c v k h d1 r.short.1 in
    let r2 = fit_statements c v k h d2 r1.short.1 in
    record { short = r2.short; back = λ x. ((s, l), r.back (tt, r1.back (tt, r2.back x))) }
fit_statements c v k h (lone_choice s l x1 d d1) i =
    let r = fit_statements c v k h d i.1 in
    let r1 = fit_statements c v k h d1 r.short.1 in
    record { short = r1.short; back = λ x. ((s, l), r.back (tt, (tt, r1.back x))) }
fit_statements c v k h (txn x1 s l x2 x3 d d1 d2) i =
    let r = fit_statements c v k h d i.1 in
    let r1 = fit_statements c v k h d1 r.short.1 in
    let r2 = fit_statements c v k h d2 r1.short.1 in
    record { short = r2.short; back = λ x. ((s, l), r.back (tt, r1.back (tt, r2.back x))) }
fit_statements c v k h (get x1 s x2 x3 x4 d) i = let r = fit_statements c v k h d i.1 in record { short = r.short; back = λ x. (s, r.back x) }
fit_statements c v k h (put x1 s x2 x3 d) i = let r = fit_statements c v k h d i.1 in record { short = r.short; back = λ x. (s, r.back x) }
fit_statements c v k h (need x1 s x2 d) i = let r = fit_statements c v k h d i.1 in record { short = r.short; back = λ x. (s, r.back x) }

-- one name more
longer : {X : Type 0} (xs : List X) (x : X) → length (xs ++ x ∷ []) ≡ suc (length xs)
longer [] x = refl
longer (y ∷ xs) x = ap suc (longer xs x)

-- at a place outside the handlers, whatever the latest handler has
abbrev pub AtAny : ℕ → ℕ → ℕ → ℕ → List Line → Type 0
AtAny c v k h ls = (s : ℕ) → AllFit (counts c v k h s 0) ls

pub fit_keys : {ks all : List (List ℕ)} {p q : Open} (c : ℕ) → Keys ks p all q → HaveShort p.0 → Onward p.0 q.0 (AtAny c 0 (length ks) 0 p.1) (AtAny c 0 (length all) 0 q.1)
fit_keys c no_key i = record { short = i; back = λ x. x }
fit_keys c (key {ks = ks} {k = n} {ls = ls} x1 x2 l d) i =
    let r = fit_keys c d i.1 in
    record { short = r.short; back = λ x s. ((l, i.0.0), subst (λ m. AllFit (counts c 0 m 0 s 0) ls) (longer ks n) (r.back x s)) }

pub fit_vars : {vs all : List (List ℕ)} {p q : Open} (c : ℕ) → Vars vs p all q → HaveShort p.0 → Onward p.0 q.0 (AtAny c (length vs) 0 0 p.1) (AtAny c (length all) 0 0 q.1)
fit_vars c no_var i = record { short = i; back = λ x. x }
fit_vars c (var {vs = vs} {v = n} {ls = ls} x1 x2 l d) i =
    let r = fit_vars c d i.1 in
    record { short = r.short; back = λ x s. ((l, i.0.0), subst (λ m. AllFit (counts c m 0 0 s 0) ls) (longer vs n) (r.back x s)) }

pub fit_handlers : {all : List Declared} {me : List ℕ} {vs : List (List ℕ)} {hs every : List (List ℕ × ℕ)} {p q : Open} (c : ℕ) → Handlers all me vs hs p every q → HaveShort p.0
    → Onward p.0 q.0 (AtAny c (length vs) 0 (length hs) p.1) (AtAny c (length vs) 0 (length every) q.1)
fit_handlers c no_handler i = record { short = i; back = λ x. x }
fit_handlers {vs = vs} c (handler {hs = hs} {m = m} {ps = ps} {s = s1} {ls1 = ls1} x1 x2 x3 x4 l n d d1) i =
    let r = fit_statements c (length vs) 0 (suc (length hs)) d i.1 in
    let r1 = fit_handlers c d1 r.short.1 in
    record {
      short = r1.short;
      back = λ x s. ((l, i.0.0, n), r.back (tt, subst (λ h. AllFit (counts c (length vs) 0 h s1 0) ls1) (longer hs (m, length ps)) (r1.back x s1)));
    }

pub fit_components : {all cs : List Declared} {p : Open} (v k h : ℕ) → Components all cs p → HaveShort p.0 → AtAny (length cs) v k h p.1
fit_components v k h (no_component e) i s = tt
fit_components v k h (xcom m d) i s = ((m.few, i.0.0), (tt, fit_components 0 0 0 d i.1 s))
fit_components v k h (tcom {cs = cs} {ks = ks} m d d1) i s =
    let r = fit_keys (suc (length cs)) d i.1 in
    ((m.few, i.0.0), r.back (λ s1. (tt, fit_components 0 (length ks) 0 d1 r.short.1 s1)) s)
fit_components v k h (pcom {cs = cs} {vs = vs} {hs = hs} m d d1 d2) i s =
    let r = fit_vars (suc (length cs)) d i.1 in
    let r1 = fit_handlers (suc (length cs)) d1 r.short in
    ((m.few, i.0.0), r.back (r1.back (λ s1. (tt, fit_components (length vs) 0 (length hs) d2 r1.short.1 s1))) s)
