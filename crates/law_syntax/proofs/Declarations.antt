-- A program has what its text declares: each component of its kind, with as many keys, and handlers with as many parameters.
use Rattle.std.proofs.Common.{◌≡◌, refl, ◌∙◌, ap, sym, subst, ℕ, suc, ◌+◌, ◌<◌, ◌==◌, nat_lt, Bool, true, false, cond, List, [], ◌∷◌, ◌++◌, map, length, reverse, slice_get, Option, Some, None, option_map, arith}
use Rattle.std.specs.Prelude.{bytes_eq, if◌then◌else◌}
use Rattle.std.specs.List.{position_from}
use Rattle.std.proofs.lemmas.List.{append-nil, map-append, reverse-append, reverse-reverse}
use Rattle.std.proofs.lemmas.Iterator.Adapters.{position_from-zero}
use Rattle.std.proofs.lemmas.Option.{same_Some, slice_get-map}
use Rattle.ic_base.specs.declared.messages.Kind.{Kind}
use Rattle.ic_base.specs.declared.messages.Kind.TheVariants.{Pcom, Tcom, Xcom}
use Rattle.ic_base.specs.declared.scenario.Component.{Component}
use Rattle.ic_base.specs.declared.scenario.Handler.{Handler}
use Rattle.ic_base.specs.declared.scenario.Program.{Program}
use Rattle.ic_base.specs.Programs.{declares, is_pcom, is_tcom, is_xcom, is_a_pcom, is_a_tcom, is_an_xcom, has_key}
use Rattle.def_syntax.specs.Text.{look_up}
use Rattle.def_syntax.specs.Scope.{Declared, names}
use Rattle.def_syntax.specs.Names.{is_kind, place_of, found_from, found, com_id}
use Rattle.def_syntax.specs.Lines.{program_lines}
use Rattle.def_syntax.specs.Grammar.{Around, Here, Ahead, Statements, no_statement, set, send, out, choice, lone_choice, txn, get, put, need, Open, Keys, no_key, key, Vars, no_var, var, Handlers, no_handler, handler, Components, no_component, xcom, tcom, pcom}
use Rattle.law_replay.proofs.Lists.{none-some}
use Rattle.law_syntax.specs.Placed.{has_params, takes_values}
use Rattle.law_syntax.proofs.Summaries.{Summary, summed, summary_of, program-tells}

-- what is declared of a component
abbrev pub declared : Declared → Summary
declared d = record { kind = d.kind; keys = length d.keys; params = map (λ h. h.1) d.handlers }

-- the lines of a derivation tell what it declares -----------------------------------------------------------

statements-tell : {a : Around} {h : Here} {p q : Ahead} → Statements a h p q → (xs : List Summary) → summed xs p.lines ≡ summed xs q.lines
statements-tell no_statement xs = refl
statements-tell (set x1 x2 x3 d) xs = statements-tell d xs
statements-tell (send x1 x2 x3 x4 x5 x6 x7 x8 d) xs = statements-tell d xs
statements-tell (out x1 x2 x3 x4 x5 d) xs = statements-tell d xs
statements-tell (choice x1 x2 x3 d d1 d2) xs = statements-tell d xs ∙ statements-tell d1 xs ∙ statements-tell d2 xs
statements-tell (lone_choice x1 x2 x3 d d1) xs = statements-tell d xs ∙ statements-tell d1 xs
statements-tell (txn x1 x2 x3 x4 x5 d d1 d2) xs = statements-tell d xs ∙ statements-tell d1 xs ∙ statements-tell d2 xs
statements-tell (get x1 x2 x3 x4 x5 d) xs = statements-tell d xs
statements-tell (put x1 x2 x3 x4 d) xs = statements-tell d xs
statements-tell (need x1 x2 x3 d) xs = statements-tell d xs

longer : {X : Type 0} (xs : List X) (x : X) → length (xs ++ x ∷ []) ≡ length xs + 1
longer [] x = refl
longer (y ∷ xs) x = let e = longer xs x in omega (arith, e)

keys-told : {ks every : List (List ℕ)} {p q : Open} → Keys ks p every q → (x : Summary) (xs : List Summary) → summed (record x { keys = length ks } ∷ xs) p.1 ≡ summed (record x { keys = length every } ∷ xs) q.1
keys-told no_key x xs = refl
keys-told (key {ks = ks} {k = k} {ls = ls} x1 x2 x3 d) x xs = ap (λ n. summed (record x { keys = n } ∷ xs) ls) (sym (longer ks k)) ∙ keys-told d x xs

vars-told : {vs every : List (List ℕ)} {p q : Open} → Vars vs p every q → (xs : List Summary) → summed xs p.1 ≡ summed xs q.1
vars-told no_var xs = refl
vars-told (var x1 x2 x3 d) xs = vars-told d xs

handlers-told : {all : List Declared} {me : List ℕ} {vars : List (List ℕ)} {hs every : List (List ℕ × ℕ)} {p q : Open} → Handlers all me vars hs p every q → (x : Summary) (xs : List Summary) →
    summed (record x { params = map (λ h. h.1) hs } ∷ xs) p.1 ≡ summed (record x { params = map (λ h. h.1) every } ∷ xs) q.1
handlers-told no_handler x xs = refl
handlers-told (handler {hs = hs} {m = m} {ps = ps} {ls1 = ls1} x1 x2 x3 x4 x5 x6 d d1) x xs =
    statements-tell d (record x { params = map (λ h. h.1) hs ++ length ps ∷ [] } ∷ xs)
    ∙ ap (λ l. summed (record x { params = l } ∷ xs) ls1) (sym (map-append (λ (h : List ℕ × ℕ). h.1) hs ((m, length ps) ∷ [])))
    ∙ handlers-told d1 x xs

components-told : {all cs : List Declared} {p : Open} → Components all cs p → summed (map declared cs) p.1 ≡ map declared (reverse all)
components-told (no_component {cs = cs} e) = ap (map declared) (sym (ap reverse e ∙ reverse-reverse cs))
components-told (xcom x1 d) = components-told d
components-told (tcom {cs = cs} {ks = ks} x1 d d1) = keys-told d (record { kind = Tcom; keys = 0; params = [] }) (map declared cs) ∙ components-told d1
components-told (pcom {cs = cs} {hs = hs} x1 d d1 d2) =
    vars-told d (record { kind = Pcom; keys = 0; params = [] } ∷ map declared cs) ∙ handlers-told d1 (record { kind = Pcom; keys = 0; params = [] }) (map declared cs) ∙ components-told d2

reversed-map : {X Y : Type 0} (f : X → Y) (xs : List X) → map f (reverse xs) ≡ reverse (map f xs)
reversed-map f [] = refl
reversed-map f (x ∷ xs) =
    ap (map f) (reverse-append (x ∷ []) xs) ∙ map-append f (reverse xs) (x ∷ []) ∙ ap (λ l. l ++ f x ∷ []) (reversed-map f xs) ∙ sym (reverse-append (f x ∷ []) (map f xs))

-- so the program has what is declared
pub same-summaries : (program : Program) (all : List Declared) (items : _) → Components all [] (items, program_lines program) → map summary_of program.components ≡ map declared all
same-summaries program all items d =
    let told = sym (program-tells program.components [] ∙ append-nil (reverse (map summary_of program.components))) ∙ components-told d ∙ reversed-map declared all in
    sym (reverse-reverse (map summary_of program.components)) ∙ ap reverse told ∙ reverse-reverse (map declared all)

-- names -------------------------------------------------------------------------------------------------------

same-kind : (j k : Kind) → is_kind j k ≡ true → k ≡ j
same-kind Pcom Pcom e = refl
same-kind Tcom Tcom e = refl
same-kind Xcom Xcom e = refl
same-kind Pcom Tcom e = absurd (cc)
same-kind Pcom Xcom e = absurd (cc)
same-kind Tcom Pcom e = absurd (cc)
same-kind Tcom Xcom e = absurd (cc)
same-kind Xcom Pcom e = absurd (cc)
same-kind Xcom Tcom e = absurd (cc)

-- a component that is found stands in its place, of this name and kind
pub record Found (kind : Kind) (n : List ℕ) (cs : List Declared) (i : ℕ) (d : Declared) : Type 0 where
  pub there : slice_get cs i ≡ Some d
  pub name : bytes_eq n d.name ≡ true
  pub is_kind : d.kind ≡ kind

found-at : (i : ℕ) (kind : Kind) (n : List ℕ) (cs : List Declared) (c : ℕ × Declared) → found_from i kind n cs ≡ Some c → (j : ℕ) × (c.0 ≡ i + j) × Found kind n cs j c.1
found-at i kind n [] c e = none-some c e
found-at i kind n (x ∷ cs) c e = at (bytes_eq n x.name) refl e (found-at (suc i) kind n cs c)
  where
    here : (b : Bool) → is_kind kind x.kind ≡ b → bytes_eq n x.name ≡ true → (if b then Some (i, x) else None) ≡ Some c → (j : ℕ) × (c.0 ≡ i + j) × Found kind n (x ∷ cs) j c.1
    here true k is f =
        let same = same_Some (i, x) c f in
        subst (λ (y : ℕ × Declared). (j : ℕ) × (y.0 ≡ i + j) × Found kind n (x ∷ cs) j y.1) same (0, (omega arith), record { there = refl; name = is; is_kind = same-kind kind x.kind k })
    here false k is f = none-some c f

    at : (b : Bool) → bytes_eq n x.name ≡ b → (if b then (if is_kind kind x.kind then Some (i, x) else None) else found_from (suc i) kind n cs) ≡ Some c → (found_from (suc i) kind n cs ≡ Some c → (j : ℕ) × (c.0 ≡ suc i + j) × Found kind n cs j c.1)
        → (j : ℕ) × (c.0 ≡ i + j) × Found kind n (x ∷ cs) j c.1
    at true is f more = here (is_kind kind x.kind) refl is f
    at false is f more = let z = more f in (suc z.0, omega (arith, z.1), record { there = z.2.there; name = z.2.name; is_kind = z.2.is_kind })

pub found-is : (kind : Kind) (n : List ℕ) (cs : List Declared) (c : ℕ × Declared) → found kind n cs ≡ Some c → Found kind n cs c.0 c.1
found-is kind n cs c e = let z = found-at 0 kind n cs c e in subst (λ i. Found kind n cs i c.1) (zero-plus z.0 ∙ sym z.1) z.2
  where
    zero-plus : (k : ℕ) → k ≡ 0 + k
    zero-plus k = omega arith

-- a name has its place within the list
pub place-within : (n : List ℕ) (ns : List (List ℕ)) (i : ℕ) → place_of n ns ≡ Some i → i < length ns
place-within n ns i e = let z = at 0 ns (sym (position_from-zero (bytes_eq n) ns) ∙ e) in omega (arith, z)
  where
    at : (k : ℕ) (xs : List (List ℕ)) → position_from (bytes_eq n) k xs ≡ Some i → i < k + length xs
    at k [] f = none-some i f
    at k (x ∷ xs) f = by (bytes_eq n x) f (at (k + 1) xs)
      where
        by : (b : Bool) → cond b (Some k) (position_from (bytes_eq n) (k + 1) xs) ≡ Some i → (position_from (bytes_eq n) (k + 1) xs ≡ Some i → i < (k + 1) + length xs) → i < k + suc (length xs)
        by true g more = let same = same_Some k i g in omega (arith, same)
        by false g more = let z = more g in omega (arith, z)

-- the handler at the place of a name has as many parameters as stand with the name
pub handler-place : (m : List ℕ) (hs : List (List ℕ × ℕ)) (i n : ℕ) → place_of m (names hs) ≡ Some i → look_up m hs ≡ Some n → slice_get (map (λ h. h.1) hs) i ≡ Some n
handler-place m hs i n e f = let z = at 0 hs (sym (position_from-zero (bytes_eq m) (names hs)) ∙ e) f in ap (slice_get (map (λ (h : List ℕ × ℕ). h.1) hs)) (z.1 ∙ zero-plus z.0) ∙ z.2
  where
    zero-plus : (k : ℕ) → 0 + k ≡ k
    zero-plus k = omega arith

    at : (k : ℕ) (xs : List (List ℕ × ℕ)) → position_from (bytes_eq m) k (names xs) ≡ Some i → look_up m xs ≡ Some n → (j : ℕ) × (i ≡ k + j) × (slice_get (map (λ h. h.1) xs) j ≡ Some n)
    at k [] g l = none-some i g
    at k (x ∷ xs) g l = by (bytes_eq m x.0) g l (at (k + 1) xs)
      where
        by : (b : Bool) → cond b (Some k) (position_from (bytes_eq m) (k + 1) (names xs)) ≡ Some i → (if b then Some x.1 else look_up m xs) ≡ Some n → (position_from (bytes_eq m) (k + 1) (names xs) ≡ Some i → look_up m xs ≡ Some n → (j : ℕ) × (i ≡ (k + 1) + j) × (slice_get (map (λ (h : List ℕ × ℕ). h.1) xs) j ≡ Some n))
            → (j : ℕ) × (i ≡ k + j) × (slice_get (map (λ (h : List ℕ × ℕ). h.1) (x ∷ xs)) j ≡ Some n)
        by true g2 l2 more = let same = same_Some k i g2 in (0, omega (arith, same), l2)
        by false g2 l2 more = let z = more g2 l2 in (suc z.0, omega (arith, z.1), z.2)

-- the program at a declared place ------------------------------------------------------------------------------

module _ (program : Program) (all : List Declared) (same : map summary_of program.components ≡ map declared all) where
  pub component-at : (i : ℕ) (d : Declared) → slice_get all i ≡ Some d → (x : Component) × (slice_get program.components i ≡ Some x) × (summary_of x ≡ declared d)
  component-at i d e = at (slice_get program.components i) refl (sym (slice_get-map summary_of program.components i) ∙ ap (λ l. slice_get l i) same ∙ slice_get-map declared all i ∙ ap (option_map declared) e)
    where
      at : (o : Option Component) → slice_get program.components i ≡ o → option_map summary_of o ≡ Some (declared d) → (x : Component) × (slice_get program.components i ≡ Some x) × (summary_of x ≡ declared d)
      at None is f = none-some (declared d) f
      at (Some x) is f = (x, is, same_Some (summary_of x) (declared d) f)

  declares-at : (test : Component → Bool) (i : ℕ) (x : Component) → slice_get program.components i ≡ Some x → test x ≡ true → declares test (slice_get program.components i) ≡ true
  declares-at test i x e h = ap (declares test) e ∙ h

  pub tcom-found : (n : List ℕ) (c : ℕ × Declared) → found Tcom n all ≡ Some c → is_a_tcom program (com_id c.0) ≡ true
  tcom-found n c e = let f = found-is Tcom n all c e in let x = component-at c.0 c.1 f.there in declares-at (λ d. is_tcom d.kind) c.0 x.0 x.1 (ap (λ (s : Summary). is_tcom s.kind) x.2 ∙ ap is_tcom f.is_kind)

  pub xcom-found : (n : List ℕ) (c : ℕ × Declared) → found Xcom n all ≡ Some c → is_an_xcom program (com_id c.0) ≡ true
  xcom-found n c e = let f = found-is Xcom n all c e in let x = component-at c.0 c.1 f.there in declares-at (λ d. is_xcom d.kind) c.0 x.0 x.1 (ap (λ (s : Summary). is_xcom s.kind) x.2 ∙ ap is_xcom f.is_kind)

  pub pcom-found : (n : List ℕ) (c : ℕ × Declared) → found Pcom n all ≡ Some c → is_a_pcom program (com_id c.0) ≡ true
  pcom-found n c e = let f = found-is Pcom n all c e in let x = component-at c.0 c.1 f.there in declares-at (λ d. is_pcom d.kind) c.0 x.0 x.1 (ap (λ (s : Summary). is_pcom s.kind) x.2 ∙ ap is_pcom f.is_kind)

  lt-true : (m n : ℕ) → m < n → nat_lt m n ≡ true
  lt-true m n lt = grind (arith, lt)

  pub key-found : (t k : List ℕ) (c : ℕ × Declared) (i : ℕ) → found Tcom t all ≡ Some c → place_of k c.1.keys ≡ Some i → has_key program (com_id c.0) i ≡ true
  key-found t k c i e p =
      let f = found-is Tcom t all c e in
      let x = component-at c.0 c.1 f.there in
      let long : length x.0.keys ≡ length c.1.keys = ap (λ (s : Summary). s.keys) x.2 in
      declares-at (λ d. nat_lt i (length d.keys)) c.0 x.0 x.1 (ap (nat_lt i) long ∙ lt-true i (length c.1.keys) (place-within k c.1.keys i p))

  pub handler-found : (n m : List ℕ) (c : ℕ × Declared) (i k : ℕ) → found Pcom n all ≡ Some c → place_of m (names c.1.handlers) ≡ Some i → look_up m c.1.handlers ≡ Some k → takes_values program (com_id c.0) i k ≡ true
  handler-found n m c i k e p l =
      let f = found-is Pcom n all c e in
      let x = component-at c.0 c.1 f.there in
      declares-at (λ d. has_params k (slice_get d.handlers i)) c.0 x.0 x.1 (at x.0 (slice_get x.0.handlers i) refl (sym (slice_get-map (λ (h : Handler). h.params) x.0.handlers i) ∙ ap (λ (s : Summary). slice_get s.params i) x.2 ∙ handler-place m c.1.handlers i k p l))
    where
      equal : (a : ℕ) → (a == a) ≡ true
      equal a = grind arith

      at : (d : Component) (o : Option Handler) → slice_get d.handlers i ≡ o → option_map (λ (h : Handler). h.params) o ≡ Some k → has_params k (slice_get d.handlers i) ≡ true
      at d None is g = none-some k g
      at d (Some h) is g = ap (has_params k) is ∙ ap (λ z. z == k) (same_Some h.params k g) ∙ equal k
