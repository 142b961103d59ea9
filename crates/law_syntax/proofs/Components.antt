-- Where the lines of a program stand as the grammar lets them, so do the statements of its handlers.
use Rattle.std.proofs.Common.{◌≡◌, refl, ◌∙◌, ap, subst, ℕ, zero, suc, ◌+◌, ℤ, List, [], ◌∷◌, ◌++◌, map, slice_get, Option, Some, None, option_and_then, arith}
use Rattle.std.proofs.lemmas.List.{append_assoc}
use Rattle.std.proofs.lemmas.Option.{same_Some}
use Rattle.ic_base.specs.declared.scenario.Component.{Component}
use Rattle.ic_base.specs.declared.scenario.Handler.{Handler}
use Rattle.ic_base.specs.declared.scenario.Program.{Program}
use Rattle.def_play.specs.Playing.{stmts_of}
use Rattle.def_syntax.specs.Lines.{Line, Var, Key, End, joined, body_lines, handler_lines, component_lines, program_lines}
use Rattle.def_syntax.specs.Names.{com_id}
use Rattle.law_replay.proofs.Lists.{none-some}
use Rattle.law_syntax.specs.Placed.{shapes, ArePlaced, IsPlaced}
use Rattle.law_syntax.proofs.Walks.{Walk, plain, own_id, AllStand, body-placed}

module _ (program : Program) where
  behind-vars : (w : Walk) (vs : List (List ℕ × ℤ)) (rest : List Line) → AllStand program w (map (λ x. Var x.0 x.1) vs ++ rest) → AllStand program w rest
  behind-vars w [] rest h = h
  behind-vars w (v ∷ vs) rest h = behind-vars w vs rest h.1

  behind-keys : (w : Walk) (ks : List (List ℕ × ℤ)) (rest : List Line) → AllStand program w (map (λ x. Key x.0 x.1) ks ++ rest) → AllStand program w rest
  behind-keys w [] rest h = h
  behind-keys w (k ∷ ks) rest h = behind-keys w ks rest h.1

  -- a list of handlers of the component in which the walk is
  record Handled (w : Walk) (hs : List Handler) (rest : List Line) : Type 0 where
    placed : (i : ℕ) (h : Handler) → slice_get hs i ≡ Some h → ArePlaced program (own_id w) h.body.stmts.items
    count : ℕ
    after : AllStand program (record w { count = count }) rest

  handled : (w : Walk) (hs : List Handler) (rest : List Line) → AllStand program w (joined (map handler_lines hs) ++ rest) → Handled w hs rest
  handled w [] rest a = record { placed = λ i h e. none-some h e; count = w.count; after = a }
  handled w (h ∷ hs) rest a =
      let others = joined (map handler_lines hs) ++ rest in
      let b = subst (AllStand program w) (append_assoc (handler_lines h) (joined (map handler_lines hs)) rest) a in
      let here : Walk = record w { count = 0; blocks = plain ∷ w.blocks } in
      let x = body-placed program h.body.stmts.items here (End ∷ others) (omega arith) (subst (AllStand program here) (append_assoc (body_lines h.body.stmts.items) (End ∷ []) others) b.1) in
      let r = handled (record w { count = 0 + (shapes program (own_id w) h.body.stmts.items).size }) hs rest x.2.1 in
      record { placed = at (record { stand = x.0; few = let few = x.1 in omega (arith, few) }) r.placed; count = r.count; after = r.after }
    where
      at : ArePlaced program (own_id w) h.body.stmts.items → ((i : ℕ) (g : Handler) → slice_get hs i ≡ Some g → ArePlaced program (own_id w) g.body.stmts.items) → (i : ℕ) (g : Handler) → slice_get (h ∷ hs) i ≡ Some g → ArePlaced program (own_id w) g.body.stmts.items
      at first more zero g e = subst (λ (z : Handler). ArePlaced program (own_id w) z.body.stmts.items) (same_Some h g e) first
      at first more (suc i) g e = more i g e

  component-lines : (d : Component) (w : Walk) (rest : List Line) → AllStand program w (component_lines d ++ rest) →
      ((i : ℕ) (h : Handler) → slice_get d.handlers i ≡ Some h → ArePlaced program (com_id w.coms) h.body.stmts.items) × (n : ℕ) × AllStand program (record w { coms = suc w.coms; count = n }) rest
  component-lines d w rest a =
      let vs = map (λ (x : List ℕ × ℤ). Var x.0 x.1) d.vars in
      let ks = map (λ (x : List ℕ × ℤ). Key x.0 x.1) d.keys in
      let hs = joined (map handler_lines d.handlers) in
      let inside : Walk = record w { coms = suc w.coms; blocks = plain ∷ w.blocks } in
      let b = subst (AllStand program inside) (append_assoc (vs ++ ks ++ hs) (End ∷ []) rest ∙ append_assoc (vs ++ ks) hs (End ∷ rest) ∙ append_assoc vs ks (hs ++ End ∷ rest)) a.1 in
      let x = handled inside d.handlers (End ∷ rest) (behind-keys inside d.keys (hs ++ End ∷ rest) (behind-vars inside d.vars (ks ++ (hs ++ End ∷ rest)) b)) in
      (x.placed, x.count, x.after.1)

  all-components : (ds : List Component) (w : Walk) → AllStand program w (joined (map component_lines ds)) → (j : ℕ) (d : Component) → slice_get ds j ≡ Some d → (i : ℕ) (h : Handler) → slice_get d.handlers i ≡ Some h → ArePlaced program (com_id (w.coms + j)) h.body.stmts.items
  all-components [] w a j d e = none-some d e
  all-components (x ∷ ds) w a j d e = let z = component-lines x w (joined (map component_lines ds)) a in at z.0 (λ k. all-components ds (record w { coms = suc w.coms; count = z.1 }) z.2 k d) j e
    where
      plus : (m n : ℕ) → suc m + n ≡ m + suc n
      plus m n = omega arith

      plus-zero : (m : ℕ) → m ≡ m + 0
      plus-zero m = omega arith

      at : ((i : ℕ) (h : Handler) → slice_get x.handlers i ≡ Some h → ArePlaced program (com_id w.coms) h.body.stmts.items)
          → ((k : ℕ) → slice_get ds k ≡ Some d → (i : ℕ) (h : Handler) → slice_get d.handlers i ≡ Some h → ArePlaced program (com_id (suc w.coms + k)) h.body.stmts.items)
          → (k : ℕ) → slice_get (x ∷ ds) k ≡ Some d → (i : ℕ) (h : Handler) → slice_get d.handlers i ≡ Some h → ArePlaced program (com_id (w.coms + k)) h.body.stmts.items
      at first more zero f i h g = subst (λ m. ArePlaced program (com_id m) h.body.stmts.items) (plus-zero w.coms) (first i h (ap (λ (y : Component). slice_get y.handlers i) (same_Some x d f) ∙ g))
      at first more (suc k) f i h g = subst (λ m. ArePlaced program (com_id m) h.body.stmts.items) (plus w.coms k) (more k f i h g)

abbrev pub beginning : Walk
beginning = record { coms = 0; count = 0; blocks = [] }

pub lines-are-placed : (program : Program) → AllStand program beginning (program_lines program) → IsPlaced program
lines-are-placed program a c handler = at (slice_get program.components c.0) refl
  where
    nothing : ArePlaced program c []
    nothing = record { stand = refl; few = omega arith }

    zero-plus : (n : ℕ) → 0 + n ≡ n
    zero-plus n = omega arith

    by : (d : Component) → slice_get program.components c.0 ≡ Some d → (o : Option Handler) → slice_get d.handlers handler ≡ o → ArePlaced program c (stmts_of o)
    by d is None e = nothing
    by d is (Some h) e = subst (λ m. ArePlaced program (com_id m) h.body.stmts.items) (zero-plus c.0) (all-components program program.components beginning a c.0 d is handler h e)

    at : (o : Option Component) → slice_get program.components c.0 ≡ o → ArePlaced program c (stmts_of (option_and_then (λ x. slice_get x.handlers handler) o))
    at None is = nothing
    at (Some d) is = by d is (slice_get d.handlers handler) refl
