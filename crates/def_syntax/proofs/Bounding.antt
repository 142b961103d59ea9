-- Where no line passes a limit the lists of a program pass none.
use Rattle.std.proofs.Common.{◌≡◌, ◌∙◌, ap, refl, arith, ◌≤◌, ◌+◌, ℕ, ℤ, suc, List, [], ◌∷◌, ◌++◌, map, length}
use Rattle.std.specs.List.{AllByRecursion}
use Rattle.std.proofs.lemmas.List.Elements.{All-from_recursion}
use Rattle.ic_base.specs.declared.scenario.Component.{Component}
use Rattle.ic_base.specs.declared.scenario.Handler.{Handler}
use Rattle.ic_base.specs.declared.scenario.Program.{Program}
use Rattle.def_syntax.specs.Lines.{Line, joined, body_lines, handler_lines, component_lines, program_lines}
use Rattle.def_syntax.specs.Lines as grammar
use Rattle.def_syntax.specs.Bounds.{Count, counted, AllFit, IsLimited, KeepsLimits, nothing_counted}
use Rattle.def_syntax.proofs.Keeping.{after, after_append, Keeps, keep_both, keep_end, keep_body}

fit_split : (c : Count) (a b : List Line) → AllFit c (a ++ b) → AllFit c a × AllFit (after c a) b
fit_split c [] b f = (tt, f)
fit_split c (l ∷ a) b f = let r = fit_split (counted l c) a b f.1 in ((f.0, r.0), r.1)

abbrev var_lines : List (List ℕ × ℤ) → List Line
var_lines vs = map (λ x. grammar.Var x.0 x.1) vs

abbrev key_lines : List (List ℕ × ℤ) → List Line
key_lines ks = map (λ x. grammar.Key x.0 x.1) ks

few_vars : (vs : List (List ℕ × ℤ)) (c : Count) → AllFit c (var_lines vs) → c.vars ≤ 32 → c.vars + length vs ≤ 32
few_vars [] c f l = omega (arith, l)
few_vars (v ∷ vs) c f l = let r = few_vars vs (counted (grammar.Var v.0 v.1) c) f.1 (omega (arith, f.0.0)) in omega (arith, r)

few_keys : (ks : List (List ℕ × ℤ)) (c : Count) → AllFit c (key_lines ks) → c.keys ≤ 1024 → c.keys + length ks ≤ 1024
few_keys [] c f l = omega (arith, l)
few_keys (k ∷ ks) c f l = let r = few_keys ks (counted (grammar.Key k.0 k.1) c) f.1 (omega (arith, f.0.0)) in omega (arith, r)

-- variables and keys leave the others as they are
abbrev SameBut : Count → Count → Type 0
SameBut c d = (d.components ≡ c.components) × (d.handlers ≡ c.handlers)

after_vars : (vs : List (List ℕ × ℤ)) (c : Count) → SameBut c (after c (var_lines vs)) × ((after c (var_lines vs)).keys ≡ c.keys)
after_vars [] c = ((refl, refl), refl)
after_vars (v ∷ vs) c = after_vars vs (counted (grammar.Var v.0 v.1) c)

after_keys : (ks : List (List ℕ × ℤ)) (c : Count) → SameBut c (after c (key_lines ks))
after_keys [] c = (refl, refl)
after_keys (k ∷ ks) c = after_keys ks (counted (grammar.Key k.0 k.1) c)

abbrev body_end : Handler → List Line
body_end h = body_lines h.body.stmts.items ++ grammar.End ∷ []

keep_handler : (h : Handler) → Keeps (body_end h)
keep_handler h = keep_both (body_lines h.body.stmts.items) (grammar.End ∷ []) (keep_body h.body.stmts.items) keep_end

abbrev IsFew : Handler → Type 0
IsFew h = (length h.name ≤ 32) × (h.params ≤ 8)

few_handlers : (hs : List Handler) (c : Count) → AllFit c (joined (map handler_lines hs)) → c.handlers ≤ 64 → (c.handlers + length hs ≤ 64) × AllByRecursion IsFew hs
few_handlers [] c f l = (omega (arith, l), tt)
few_handlers (h ∷ hs) c f l =
    let d = counted (grammar.On h.name h.params) c in
    let s = fit_split d (body_end h) (joined (map handler_lines hs)) f.1 in
    let k = (keep_handler h d).handlers in
    let below = f.0.0 in
    let r = few_handlers hs (after d (body_end h)) s.1 (omega (arith, k, below)) in
    let z = r.0 in
    (omega (arith, z, k), ((f.0.1, f.0.2), r.1))

after_handlers : (hs : List Handler) (c : Count) → (after c (joined (map handler_lines hs))).components ≡ c.components
after_handlers [] c = refl
after_handlers (h ∷ hs) c =
    let d = counted (grammar.On h.name h.params) c in
    ap (λ (x : Count). x.components) (after_append d (body_end h) (joined (map handler_lines hs))) ∙ after_handlers hs (after d (body_end h)) ∙ (keep_handler h d).components

names_few : (hs : List Handler) → AllByRecursion IsFew hs → AllByRecursion (λ (h : Handler). length h.name ≤ 32) hs
names_few [] a = tt
names_few (h ∷ hs) a = (a.0.0, names_few hs a.1)

params_few : (hs : List Handler) → AllByRecursion IsFew hs → AllByRecursion (λ (h : Handler). h.params ≤ 8) hs
params_few [] a = tt
params_few (h ∷ hs) a = (a.0.1, params_few hs a.1)

-- the lines of a component behind its head
abbrev inner_lines : Component → List Line
inner_lines c = var_lines c.vars ++ key_lines c.keys ++ joined (map handler_lines c.handlers) ++ grammar.End ∷ []

limited : (c : Component) (d : Count) → AllFit d (component_lines c) → IsLimited c × ((after d (component_lines c)).components ≡ suc d.components)
limited c d f =
    let e = counted (grammar.Head c.name c.kind c.immediate) d in
    let v = var_lines c.vars in
    let k = key_lines c.keys in
    let h = joined (map handler_lines c.handlers) in
    let x = fit_split e (v ++ k ++ h) (grammar.End ∷ []) f.1 in
    let y = fit_split e (v ++ k) h x.0 in
    let z = fit_split e v k y.0 in
    let av = after_vars c.vars e in
    let ak = after_keys c.keys (after e v) in
    let join : after e (v ++ k) ≡ after (after e v) k = after_append e v k in
    let no_keys : (after e v).keys ≡ 0 = av.1 in
    let no_handlers : (after e (v ++ k)).handlers ≡ 0 = ap (λ (x : Count). x.handlers) join ∙ ak.1 ∙ av.0.1 in
    let vars = few_vars c.vars e z.0 (omega arith) in
    let keys = few_keys c.keys (after e v) z.1 (omega (arith, no_keys)) in
    let handlers = few_handlers c.handlers (after e (v ++ k)) y.1 (omega (arith, no_handlers)) in
    let number = handlers.0 in (
      record {
        name = f.0.1;
        vars = omega (arith, vars);
        keys = omega (arith, keys, no_keys);
        handlers = omega (arith, number, no_handlers);
        names = All-from_recursion (λ (h : Handler). length h.name ≤ 32) c.handlers (names_few c.handlers handlers.1);
        params = All-from_recursion (λ (h : Handler). h.params ≤ 8) c.handlers (params_few c.handlers handlers.1);
      },
      ap (λ (x : Count). x.components) (after_append e (v ++ k ++ h) (grammar.End ∷ []))
          ∙ ap (λ (x : Count). x.components) (after_append e (v ++ k) h) ∙ after_handlers c.handlers (after e (v ++ k)) ∙ ap (λ (x : Count). x.components) join ∙ ak.0 ∙ av.0.0,
    )

few_components : (cs : List Component) (d : Count) → AllFit d (joined (map component_lines cs)) → d.components ≤ 32 → (d.components + length cs ≤ 32) × AllByRecursion IsLimited cs
few_components [] d f l = (omega (arith, l), tt)
few_components (c ∷ cs) d f l =
    let s = fit_split d (component_lines c) (joined (map component_lines cs)) f in
    let x = limited c d s.0 in
    let e = x.1 in
    let below = s.0.0.0 in
    let r = few_components cs (after d (component_lines c)) s.1 (omega (arith, e, below)) in
    let z = r.0 in
    (omega (arith, z, e), (x.0, r.1))

pub lists_limited : (p : Program) → AllFit nothing_counted (program_lines p) → KeepsLimits p
lists_limited p f =
    let r = few_components p.components nothing_counted f (omega arith) in
    let few = r.0 in
    record { lines = f; components = omega (arith, few); each = All-from_recursion IsLimited p.components r.1 }
