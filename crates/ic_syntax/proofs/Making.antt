-- Each derivation is that of a program.
use Rattle.std.proofs.Common.{◌≡◌, ◌∙◌, ◌⊎◌, inl, inr, refl, sym, ap, ◌<◌, ◌≤◌, ◌+◌, ◌^◌, ℕ, ℤ, suc, false, List, [], ◌∷◌, ◌++◌, map, length, append_assoc, append-nil, arith}
use Rattle.std.specs.Prelude.{Result, Ok, Err}
use Rattle.ic_base.specs.declared.refusals.Cause.{Cause}
use Rattle.ic_base.specs.declared.messages.Kind.TheVariants.{Pcom, Tcom, Xcom}
use Rattle.ic_base.specs.declared.scenario.Stmt.{Stmt}
use Rattle.ic_base.specs.declared.scenario.Stmt.TheVariants as stmt
use Rattle.ic_base.specs.declared.scenario.Handler.{Handler}
use Rattle.ic_base.specs.declared.scenario.Component.{Component}
use Rattle.ic_base.specs.declared.scenario.Program.{Program}
use Rattle.def_syntax.specs.Scope.{Declared}
use Rattle.def_syntax.specs.Names.{com_id}
use Rattle.def_syntax.specs.Lines.{Head, Var, Key, On, Set, Send, Out, If, Txn, Get, Put, Need, Else, End, stmt_lines, body_lines, handler_lines, component_lines, joined, program_lines}
use Rattle.def_syntax.specs.Grammar.{Around, Here, Ahead, Statements, no_statement, set, send, out, choice, lone_choice, txn, get, put, need, Open, Keys, no_key, key, Vars, no_var, var, Handlers, no_handler, handler, Components, no_component, xcom, tcom, pcom, Derives}
use Rattle.def_syntax.specs.Scenario.{Refusal, scenario_of, IsScenario, IsRefused}
use Rattle.def_syntax.proofs.Grammars.{is_derived}
use Rattle.def_syntax.proofs.StatementLines.{Lines, set_lines, send_lines, out_lines, if_lines, txn_lines, get_lines, put_lines, need_lines, var_line, key_line, body}

-- statements with the lines between two places
record Made (p q : Ahead) : Type 0 where
  stmts : List Stmt
  lines_are : p.lines ≡ body_lines stmts ++ q.lines
  counted : length stmts + p.statements ≤ q.statements
  few : q.statements ≤ 256

-- a statement in front of others
in_front : (s : Stmt) (ss : List Stmt) (front ls rest : Lines) → stmt_lines s ≡ front → ls ≡ body_lines ss ++ rest → front ++ ls ≡ body_lines (s ∷ ss) ++ rest
in_front s ss front ls rest d e =
    ap (λ (x : Lines). front ++ x) e ∙ sym (append_assoc front (body_lines ss) rest) ∙ ap (λ (x : Lines). (x ++ body_lines ss) ++ rest) (sym d)

-- two parts in front of others
in_parts : (first second rest : Lines) → (first ++ Else ∷ (second ++ End ∷ [])) ++ rest ≡ first ++ Else ∷ (second ++ End ∷ rest)
in_parts first second rest = append_assoc first (Else ∷ (second ++ End ∷ [])) rest ∙ ap (λ (x : Lines). first ++ Else ∷ x) (append_assoc second (End ∷ []) rest)

small : (n s t : ℕ) → n + s ≤ t → t ≤ 256 → n < 2 ^ 63
small n s t h few = omega (arith, h, few)

made : {a : Around} {h : Here} {p q : Ahead} → Statements a h p q → p.statements ≤ 256 → Made p q
made no_statement few = record { stmts = []; lines_are = refl; counted = omega arith; few = few }
made (set {s = s} {i = i} {x = x} {q = q} less v e d) few =
    let m = made d less in
    record { stmts = stmt.Set i x ∷ m.stmts; lines_are = in_front (stmt.Set i x) m.stmts (Set i x ∷ []) _ q.lines (set_lines i x) m.lines_are; counted = omega (arith, m.counted); few = m.few }
made (send {i = i} {c = c} {os = os} {q = q} plain less eight other at on values count d) few =
    let m = made d less in
    record { stmts = stmt.Send (com_id c.0) i os ∷ m.stmts; lines_are = in_front (stmt.Send (com_id c.0) i os) m.stmts (Send (com_id c.0) i os ∷ []) _ q.lines (send_lines (com_id c.0) i os) m.lines_are; counted = omega (arith, m.counted); few = m.few }
made (out {c = c} {os = os} {q = q} plain less eight at values d) few =
    let m = made d less in
    record { stmts = stmt.Out (com_id c.0) os ∷ m.stmts; lines_are = in_front (stmt.Out (com_id c.0) os) m.stmts (Out (com_id c.0) os ∷ []) _ q.lines (out_lines (com_id c.0) os) m.lines_are; counted = omega (arith, m.counted); few = m.few }
made (choice {s = s} {x = x} {s1 = s1} {s2 = s2} {q = q} less deep e d d1 d2) few =
    let m = made d less in
    let m1 = made d1 m.few in
    let m2 = made d2 m1.few in
    let first = body m.stmts (small (length m.stmts) (suc s) s1 m.counted m.few) in
    let second = body m1.stmts (small (length m1.stmts) s1 s2 m1.counted m1.few) in
    let there = m.lines_are ∙ ap (λ (y : Lines). body_lines m.stmts ++ Else ∷ y) m1.lines_are ∙ sym (in_parts (body_lines m.stmts) (body_lines m1.stmts) _) in
    record {
      stmts = stmt.If x first second ∷ m2.stmts;
      lines_are = ap (λ (y : Lines). If x ∷ y) there ∙ in_front (stmt.If x first second) m2.stmts _ _ q.lines (if_lines x first second (body_lines m.stmts) (body_lines m1.stmts) refl refl) m2.lines_are;
      counted = omega (arith, m.counted, m1.counted, m2.counted);
      few = m2.few;
    }
made (lone_choice {s = s} {x = x} {s1 = s1} {q = q} less deep e d d1) few =
    let m = made d less in
    let m1 = made d1 m.few in
    let first = body m.stmts (small (length m.stmts) (suc s) s1 m.counted m.few) in
    let second = body [] (omega arith) in
    let there = m.lines_are ∙ sym (in_parts (body_lines m.stmts) [] _) in
    record {
      stmts = stmt.If x first second ∷ m1.stmts;
      lines_are = ap (λ (y : Lines). If x ∷ y) there ∙ in_front (stmt.If x first second) m1.stmts _ _ q.lines (if_lines x first second (body_lines m.stmts) [] refl refl) m1.lines_are;
      counted = omega (arith, m.counted, m1.counted);
      few = m1.few;
    }
made (txn {s = s} {c = c} {s1 = s1} {s2 = s2} {q = q} plain less deep at begins d d1 d2) few =
    let m = made d less in
    let m1 = made d1 m.few in
    let m2 = made d2 m1.few in
    let first = body m.stmts (small (length m.stmts) (suc s) s1 m.counted m.few) in
    let second = body m1.stmts (small (length m1.stmts) s1 s2 m1.counted m1.few) in
    let there = m.lines_are ∙ ap (λ (y : Lines). body_lines m.stmts ++ Else ∷ y) m1.lines_are ∙ sym (in_parts (body_lines m.stmts) (body_lines m1.stmts) _) in
    record {
      stmts = stmt.Txn (com_id c.0) first second ∷ m2.stmts;
      lines_are = ap (λ (y : Lines). Txn (com_id c.0) ∷ y) there ∙ in_front (stmt.Txn (com_id c.0) first second) m2.stmts _ _ q.lines (txn_lines (com_id c.0) first second (body_lines m.stmts) (body_lines m1.stmts) refl refl) m2.lines_are;
      counted = omega (arith, m.counted, m1.counted, m2.counted);
      few = m2.few;
    }
made (get {g = g} {i = i} {q = q} part less free new at d) few =
    let m = made d less in
    record { stmts = stmt.Get g i ∷ m.stmts; lines_are = in_front (stmt.Get g i) m.stmts (Get g i ∷ []) _ q.lines (get_lines g i) m.lines_are; counted = omega (arith, m.counted); few = m.few }
made (put {i = i} {x = x} {q = q} part less at e d) few =
    let m = made d less in
    record { stmts = stmt.Put i x ∷ m.stmts; lines_are = in_front (stmt.Put i x) m.stmts (Put i x ∷ []) _ q.lines (put_lines i x) m.lines_are; counted = omega (arith, m.counted); few = m.few }
made (need {n = n} {x = x} {q = q} part less e d) few =
    let m = made d less in
    record { stmts = stmt.Need n x ∷ m.stmts; lines_are = in_front (stmt.Need n x) m.stmts (Need n x ∷ []) _ q.lines (need_lines n x) m.lines_are; counted = omega (arith, m.counted); few = m.few }

-- the keys, the variables and the handlers between two places
made_keys : {ks every : List (List ℕ)} {p q : Open} → Keys ks p every q → (cells : List (List ℕ × ℤ)) × (p.1 ≡ map key_line cells ++ q.1)
made_keys no_key = ([], refl)
made_keys (key {k = k} {z = z} free new few d) = let m = made_keys d in ((k, z) ∷ m.0, ap (λ (ls : Lines). Key k z ∷ ls) m.1)

made_vars : {vs every : List (List ℕ)} {p q : Open} → Vars vs p every q → (cells : List (List ℕ × ℤ)) × (p.1 ≡ map var_line cells ++ q.1)
made_vars no_var = ([], refl)
made_vars (var {v = v} {z = z} free new few d) = let m = made_vars d in ((v, z) ∷ m.0, ap (λ (ls : Lines). Var v z ∷ ls) m.1)

made_handlers : {all : List Declared} {me : List ℕ} {vars : List (List ℕ)} {hs every : List (List ℕ × ℕ)} {p q : Open} → Handlers all me vars hs p every q → (handlers : List Handler) × (p.1 ≡ joined (map handler_lines handlers) ++ q.1)
made_handlers no_handler = ([], refl)
made_handlers (handler {m = name} {ps = ps} {s = s} {q = q} free new twice vars few eight d d1) =
    let m = made d (omega arith) in
    let rest = made_handlers d1 in
    let h : Handler = record { name = name; params = length ps; body = body m.stmts (small (length m.stmts) 0 s m.counted m.few) } in
    let inside = body_lines m.stmts in
    let others = joined (map handler_lines rest.0) in (
      h ∷ rest.0,
      ap (λ (ls : Lines). On name (length ps) ∷ ls) (m.lines_are ∙ ap (λ (ls : Lines). inside ++ End ∷ ls) rest.1 ∙ sym (append_assoc inside (End ∷ []) (others ++ q.1)))
          ∙ sym (append_assoc (handler_lines h) others q.1),
    )

-- a component in front of others
joined_more : (c : Component) (cs : List Component) (ls rest : Lines) → ls ≡ component_lines c ++ rest → rest ≡ joined (map component_lines cs) → ls ≡ joined (map component_lines (c ∷ cs))
joined_more c cs ls rest d e = d ∙ ap (λ (r : Lines). component_lines c ++ r) e

-- how the lists of a Tcom and of a Pcom stand in their lines
in_tcom : (ks rest : Lines) → ks ++ End ∷ rest ≡ ((ks ++ []) ++ End ∷ []) ++ rest
in_tcom ks rest = sym (append_assoc (ks ++ []) (End ∷ []) rest ∙ ap (λ (x : Lines). x ++ End ∷ rest) (append-nil ks))

in_pcom : (vs hs rest : Lines) → vs ++ (hs ++ End ∷ rest) ≡ (((vs ++ []) ++ hs) ++ End ∷ []) ++ rest
in_pcom vs hs rest = sym (append_assoc ((vs ++ []) ++ hs) (End ∷ []) rest ∙ append_assoc (vs ++ []) hs (End ∷ rest) ∙ ap (λ (x : Lines). x ++ (hs ++ End ∷ rest)) (append-nil vs))

-- the components of a text
made_components : {all cs : List Declared} {p : Open} → Components all cs p → (components : List Component) × (p.1 ≡ joined (map component_lines components))
made_components (no_component e) = ([], refl)
made_components (xcom {n = n} may d) =
    let rest = made_components d in
    (record { name = n; kind = Xcom; immediate = false; vars = []; keys = []; handlers = [] } ∷ rest.0, ap (λ (ls : Lines). Head n Xcom false ∷ End ∷ ls) rest.1)
made_components (tcom {n = n} {ls1 = ls1} may d d1) =
    let cells = made_keys d in
    let rest = made_components d1 in
    let c : Component = record { name = n; kind = Tcom; immediate = false; vars = []; keys = cells.0; handlers = [] } in
    (c ∷ rest.0, joined_more c rest.0 _ ls1 (ap (λ (ls : Lines). Head n Tcom false ∷ ls) (cells.1 ∙ in_tcom (map key_line cells.0) ls1)) rest.1)
made_components (pcom {n = n} {immediate = immediate} {ls1 = ls1} may d d1 d2) =
    let cells = made_vars d in
    let handlers = made_handlers d1 in
    let rest = made_components d2 in
    let c : Component = record { name = n; kind = Pcom; immediate = immediate; vars = cells.0; keys = []; handlers = handlers.0 } in
    (c ∷ rest.0, joined_more c rest.0 _ ls1 (ap (λ (ls : Lines). Head n Pcom immediate ∷ ls) (cells.1 ∙ ap (λ (ls : Lines). map var_line cells.0 ++ ls) handlers.1 ∙ in_pcom (map var_line cells.0) (joined (map handler_lines handlers.0)) ls1)) rest.1)

-- the program of a derivation
made_program : (text : List ℕ) (ls : Lines) → Derives text ls → (p : Program) × (ls ≡ program_lines p)
made_program text ls d = let m = made_components d.components in (record { components = m.0 }, m.1)

one_of : (text : List ℕ) (r : Result Lines Refusal) → scenario_of text ≡ r → ((p : Program) × IsScenario text p) ⊎ ((line : ℕ) × (cause : Cause) × IsRefused text line cause)
one_of text (Ok ls) e = let m = made_program text ls (is_derived text ls e) in inl (m.0, e ∙ ap (λ (x : Lines). Ok x) m.1)
one_of text (Err x) e = inr (x.0, x.1, e)

-- every text is a scenario or refused
pub one_or_other : (text : List ℕ) → ((p : Program) × IsScenario text p) ⊎ ((line : ℕ) × (cause : Cause) × IsRefused text line cause)
one_or_other text = one_of text (scenario_of text) refl
