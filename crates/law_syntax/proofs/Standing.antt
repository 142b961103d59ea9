-- The lines that the grammar derives stand as it lets them.
use Rattle.std.proofs.Common.{◌≡◌, refl, ◌∙◌, ap, sym, subst, ℕ, zero, suc, pred, ◌==◌, Bool, true, false, not, List, [], ◌∷◌, ◌++◌, map, length, reverse, slice_get, Some, None, is_some, is_none, option_and_then, arith}
use Rattle.std.specs.Prelude.{bytes_eq}
use Rattle.std.proofs.lemmas.List.{append_assoc, append-nil, length-reverse, reverse-append}
use Rattle.std.proofs.lemmas.Option.{same_Some}
use Rattle.ic_base.specs.declared.messages.Kind.TheVariants.{Pcom, Tcom, Xcom}
use Rattle.ic_base.specs.declared.scenario.Program.{Program}
use Rattle.ic_base.specs.Programs.{is_a_pcom, is_an_xcom, is_other_pcom, has_key}
use Rattle.def_syntax.specs.Scope.{Declared, component}
use Rattle.def_syntax.specs.Names.{place_of, found, com_id}
use Rattle.def_syntax.specs.Lines.{Line}
use Rattle.def_syntax.specs.Grammar.{Around, TxnContext, Plain, PartOf, Here, inside, Ahead, begins_part, key_in, Statements, no_statement, set, send, out, choice, lone_choice, txn, get, put, need, Open, Keys, no_key, key, Vars, no_var, var, Handlers, no_handler, handler, Components, no_component, xcom, tcom, pcom}
use Rattle.law_replay.proofs.Lists.{true-false, both-true}
use Rattle.law_syntax.specs.Placed.{Place, in_part, takes_values}
use Rattle.law_syntax.proofs.Walks.{Walk, plain, place_in, own_id, begins, AllStand}
use Rattle.law_syntax.proofs.Summaries.{summary_of}
use Rattle.law_syntax.proofs.Declarations.{declared, found-is, tcom-found, xcom-found, pcom-found, key-found, handler-found}

-- a part's lines begin as its items do
begins-back : {a : Around} {h : Here} {p q : Ahead} → Statements a h p q → begins_part q.items ≡ false → begins_part p.items ≡ true → begins p.lines ≡ true
begins-back no_statement ends is = true-false (sym ends ∙ is)
begins-back (set x1 x2 x3 d) ends is = true-false is
begins-back (send x1 x2 x3 x4 x5 x6 x7 x8 d) ends is = true-false is
begins-back (out x1 x2 x3 x4 x5 d) ends is = true-false is
begins-back (choice x1 x2 x3 d d1 d2) ends is = true-false is
begins-back (lone_choice x1 x2 x3 d d1) ends is = true-false is
begins-back (txn x1 x2 x3 x4 x5 d d1 d2) ends is = true-false is
begins-back (get x1 x2 x3 x4 x5 d) ends is = refl
begins-back (put x1 x2 x3 x4 d) ends is = refl
begins-back (need x1 x2 x3 d) ends is = true-false is

module _ (program : Program) (all : List Declared) (same : map summary_of program.components ≡ map declared all) where
  -- where a context is in the program
  abbrev IsPlace : TxnContext → Place → Type 0
  IsPlace Plain x = x ≡ None
  IsPlace (PartOf t) x = (c : ℕ × Declared) × (found Tcom t all ≡ Some c) × (x ≡ Some (com_id c.0))

  -- the walk is where the derivation is
  record IsAt (a : Around) (h : Here) (w : Walk) : Type 0 where
    all_is : a.all ≡ all
    me : (d : Declared) × (slice_get all (pred w.coms) ≡ Some d) × (d.name ≡ a.me)
    place : IsPlace h.context (place_in w.blocks)

  abbrev At : Walk → Ahead → Type 0
  At w p = AllStand program (record w { count = p.statements }) p.lines

  plain-place : (h : TxnContext) (x : Place) → h ≡ Plain → IsPlace h x → x ≡ None
  plain-place h x e i = subst (λ k. IsPlace k x) e i

  part-place : (h : TxnContext) (t : List ℕ) (x : Place) → h ≡ PartOf t → IsPlace h x → (c : ℕ × Declared) × (found Tcom t all ≡ Some c) × (x ≡ Some (com_id c.0))
  part-place h t x e i = subst (λ k. IsPlace k x) e i

  key-place : (a : Around) (h : TxnContext) (t k : List ℕ) (i : ℕ) (x : Place) → a.all ≡ all → h ≡ PartOf t → key_in a t k ≡ Some i → IsPlace h x → in_part (λ c. has_key program c i) x ≡ true
  key-place a h t k i x all_is e f is =
      let z = part-place h t x e is in
      let at : place_of k z.0.1.keys ≡ Some i = ap (option_and_then (λ (c : ℕ × Declared). place_of k c.1.keys)) (sym z.1 ∙ sym (ap (found Tcom t) all_is)) ∙ f in
      ap (in_part (λ c. has_key program c i)) z.2 ∙ key-found program all same t k z.0 i z.1 at

  some-place : (h : TxnContext) (t : List ℕ) (x : Place) → h ≡ PartOf t → IsPlace h x → is_some x ≡ true
  some-place h t x e is = let z = part-place h t x e is in ap is_some z.2

  -- a Pcom of another name is another Pcom
  other-pcom : (n me : List ℕ) (c : ℕ × Declared) (m : ℕ) (d : Declared) → found Pcom n all ≡ Some c → slice_get all m ≡ Some d → d.name ≡ me → bytes_eq n me ≡ false → is_other_pcom program (com_id m) (com_id c.0) ≡ true
  other-pcom n me c m d e is name apart = both-true (is_a_pcom program (com_id c.0)) (not (m == c.0)) (pcom-found program all same n c e) (at (m == c.0) refl)
    where
      equal-numbers : (a b : ℕ) → (a == b) ≡ true → a ≡ b
      equal-numbers a b f = grind arith

      at : (b : Bool) → (m == c.0) ≡ b → not b ≡ true
      at false f = refl
      at true f =
          let x = found-is Pcom n all c e in
          let one : d ≡ c.1 = same_Some d c.1 (sym is ∙ ap (slice_get all) (equal-numbers m c.0 f) ∙ x.there) in
          true-false (sym apart ∙ ap (bytes_eq n) (sym name ∙ ap (λ (y : Declared). y.name) one) ∙ x.name)

  long-place : (h : TxnContext) (x : Place) → h ≡ Plain → IsPlace h x → is_none x ≡ true
  long-place h x e is = ap is_none (plain-place h x e is)

  stands-back : {a : Around} {h : Here} {p q : Ahead} → Statements a h p q → (w : Walk) → IsAt a h w → At w q → At w p
  stands-back no_statement w i x = x
  stands-back (set less x2 x3 d) w i x = (less, stands-back d w i x)
  stands-back {a = a} {h = h} (send {p = n} {m = m} {c = c} {os = os} x1 less x3 other at on values count d) w i x = (
    (
      less,
      both-true (is_none (place_in w.blocks)) _ (long-place h.context (place_in w.blocks) x1 i.place)
          (both-true (is_other_pcom program (own_id w) (com_id c.0)) (takes_values program (com_id c.0) _ (length os))
          (other-pcom n a.me c (pred w.coms) i.me.0 (sym (ap (found Pcom n) i.all_is) ∙ at) i.me.1 i.me.2 other) (handler-found program all same n m c _ (length os) (sym (ap (found Pcom n) i.all_is) ∙ at) on count)),
    ),
    stands-back d w i x,
  )
  stands-back {a = a} {h = h} (out {x = n} {c = c} x1 less x3 at values d) w i x = (
    (less, both-true (is_none (place_in w.blocks)) (is_an_xcom program (com_id c.0)) (long-place h.context (place_in w.blocks) x1 i.place) (xcom-found program all same n c (sym (ap (found Xcom n) i.all_is) ∙ at))),
    stands-back d w i x,
  )
  stands-back {a = a} {h = h} (choice less x2 x3 d d1 d2) w i x =
      let v : Walk = record w { blocks = record { now = place_in w.blocks; other = place_in w.blocks } ∷ w.blocks } in
      let j : IsAt a (inside h.context h) v = record { all_is = i.all_is; me = i.me; place = i.place } in
      (less, stands-back d v j (tt, stands-back d1 v j (tt, stands-back d2 w i x)))
  stands-back {a = a} {h = h} (lone_choice less x2 x3 d d1) w i x =
      let v : Walk = record w { blocks = record { now = place_in w.blocks; other = place_in w.blocks } ∷ w.blocks } in
      let j : IsAt a (inside h.context h) v = record { all_is = i.all_is; me = i.me; place = i.place } in
      (less, stands-back d v j (tt, (tt, stands-back d1 w i x)))
  stands-back {a = a} {h = h} (txn {t = t} {c = c} x1 less x3 at begin d d1 d2) w i x =
      let there = sym (ap (found Tcom t) i.all_is) ∙ at in
      let v : Walk = record w { blocks = record { now = Some (com_id c.0); other = None } ∷ w.blocks } in
      let u : Walk = record w { blocks = record { now = None; other = None } ∷ w.blocks } in
      let j : IsAt a (inside (PartOf t) h) v = record { all_is = i.all_is; me = i.me; place = (c, there, refl) } in
      let k : IsAt a (inside Plain h) u = record { all_is = i.all_is; me = i.me; place = refl } in
      ((less, long-place h.context (place_in w.blocks) x1 i.place, tcom-found program all same t c there, begins-back d refl begin), stands-back d v j (tt, stands-back d1 u k (tt, stands-back d2 w i x)))
  stands-back {a = a} {h = h} (get {i = n} {t = t} {k = k} x1 less x3 x4 at d) w i x = (
    (less, key-place a h.context t k n (place_in w.blocks) i.all_is x1 at i.place),
    stands-back d w (record { all_is = i.all_is; me = i.me; place = i.place }) x,
  )
  stands-back {a = a} {h = h} (put {i = n} {t = t} {k = k} x1 less at x4 d) w i x = ((less, key-place a h.context t k n (place_in w.blocks) i.all_is x1 at i.place), stands-back d w i x)
  stands-back {a = a} {h = h} (need {t = t} x1 less x3 d) w i x = ((less, some-place h.context t (place_in w.blocks) x1 i.place), stands-back d w i x)

  -- outside handlers, whatever is counted
  abbrev AtAny : Walk → List Line → Type 0
  AtAny w ls = (n : ℕ) → AllStand program (record w { count = n }) ls

  keys-back : {ks every : List (List ℕ)} {p q : Open} → Keys ks p every q → (w : Walk) → AtAny w q.1 → AtAny w p.1
  keys-back no_key w x = x
  keys-back (key x1 x2 x3 d) w x = λ n. (tt, keys-back d w x n)

  vars-back : {vs every : List (List ℕ)} {p q : Open} → Vars vs p every q → (w : Walk) → AtAny w q.1 → AtAny w p.1
  vars-back no_var w x = x
  vars-back (var x1 x2 x3 d) w x = λ n. (tt, vars-back d w x n)

  handlers-back : {every : List Declared} {me : List ℕ} {vars : List (List ℕ)} {hs others : List (List ℕ × ℕ)} {p q : Open} → Handlers every me vars hs p others q → every ≡ all → (w : Walk) → (d : Declared) × (slice_get all (pred w.coms) ≡ Some d) × (d.name ≡ me) → AtAny w q.1 → AtAny w p.1
  handlers-back no_handler all_is w mine x = x
  handlers-back (handler {s = s} x1 x2 x3 x4 x5 x6 d d1) all_is w mine x =
      let v : Walk = record w { blocks = plain ∷ w.blocks } in
      λ n. (tt, stands-back d v (record { all_is = all_is; me = mine; place = refl }) (tt, handlers-back d1 all_is w mine x s))

  -- the components so far are the first of all
  front-of-all : {every cs : List Declared} {p : Open} → Components every cs p → (more : List Declared) × (every ≡ reverse cs ++ more)
  front-of-all (no_component {cs = cs} e) = ([], e ∙ sym (append-nil (reverse cs)))
  front-of-all (xcom {cs = cs} {n = n} x1 d) = let z = front-of-all d in (component n Xcom ∷ z.0, z.1 ∙ shift (component n Xcom) cs z.0)
    where
      shift : (c : Declared) (xs more : List Declared) → reverse (c ∷ xs) ++ more ≡ reverse xs ++ c ∷ more
      shift c xs more = ap (λ l. l ++ more) (reverse-append (c ∷ []) xs) ∙ append_assoc (reverse xs) (c ∷ []) more
  front-of-all (tcom {cs = cs} {n = n} {ks = ks} x1 d d1) = let z = front-of-all d1 in (record (component n Tcom) { keys = ks } ∷ z.0, z.1 ∙ shift (record (component n Tcom) { keys = ks }) cs z.0)
    where
      shift : (c : Declared) (xs more : List Declared) → reverse (c ∷ xs) ++ more ≡ reverse xs ++ c ∷ more
      shift c xs more = ap (λ l. l ++ more) (reverse-append (c ∷ []) xs) ∙ append_assoc (reverse xs) (c ∷ []) more
  front-of-all (pcom {cs = cs} {n = n} {vs = vs} {hs = hs} x1 d d1 d2) = let z = front-of-all d2 in (record (component n Pcom) { vars = vs; handlers = hs } ∷ z.0, z.1 ∙ shift (record (component n Pcom) { vars = vs; handlers = hs }) cs z.0)
    where
      shift : (c : Declared) (xs more : List Declared) → reverse (c ∷ xs) ++ more ≡ reverse xs ++ c ∷ more
      shift c xs more = ap (λ l. l ++ more) (reverse-append (c ∷ []) xs) ∙ append_assoc (reverse xs) (c ∷ []) more

  get-behind : (xs ys : List Declared) (d : Declared) (n : ℕ) → n ≡ length xs → slice_get (xs ++ d ∷ ys) n ≡ Some d
  get-behind [] ys d zero e = refl
  get-behind [] ys d (suc n) e = absurd (omega (arith, e))
  get-behind (x ∷ xs) ys d zero e = absurd (omega (arith, e))
  get-behind (x ∷ xs) ys d (suc n) e = get-behind xs ys d n (omega (arith, e))

  latest-at : (cs more : List Declared) (d : Declared) (m : ℕ) → all ≡ reverse (d ∷ cs) ++ more → m ≡ length cs → slice_get all m ≡ Some d
  latest-at cs more d m e long =
      ap (λ l. slice_get l m) (e ∙ ap (λ l. l ++ more) (reverse-append (d ∷ []) cs) ∙ append_assoc (reverse cs) (d ∷ []) more) ∙ get-behind (reverse cs) more d m (long ∙ sym (length-reverse cs))

  pub components-back : {every cs : List Declared} {p : Open} → Components every cs p → every ≡ all → (w : Walk) → w.coms ≡ length cs → AtAny w p.1
  components-back (no_component e) all_is w long = λ n. tt
  components-back (xcom x1 d) all_is w long = λ n. (tt, (tt, components-back d all_is (record w { coms = suc w.coms }) (ap suc long) n))
  components-back (tcom x1 d d1) all_is w long =
      let v : Walk = record w { coms = suc w.coms; blocks = plain ∷ w.blocks } in
      λ n. (tt, keys-back d v (λ m. (tt, components-back d1 all_is (record w { coms = suc w.coms }) (ap suc long) m)) n)
  components-back (pcom {cs = cs} {n = name} {vs = vs} {hs = hs} x1 d d1 d2) all_is w long =
      let v : Walk = record w { coms = suc w.coms; blocks = plain ∷ w.blocks } in
      let z = front-of-all d2 in
      let mine = latest-at cs z.0 (record (component name Pcom) { vars = vs; handlers = hs }) w.coms (sym all_is ∙ z.1) long in
      λ n. (tt, vars-back d v (handlers-back d1 all_is v (record (component name Pcom) { vars = vs; handlers = hs }, mine, refl) (λ m. (tt, components-back d2 all_is (record w { coms = suc w.coms }) (ap suc long) m))) n)
