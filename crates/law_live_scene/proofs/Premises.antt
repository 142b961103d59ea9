-- What the laws ask of the scene's program and of its events.
use Rattle.std.proofs.Common.{◌≡◌, refl, ◌∙◌, ap, sym, subst, ℕ, ◌≤◌, zero, suc, pos, true, ◌&&◌, List, [], ◌∷◌, None, lit≤, ◌⊎◌, inl, inr, ◌<◌, arith}
use Rattle.std.specs.Prelude.{Contains, slice_index_or}
use Rattle.std.specs.declared.alloc.Global.{Global}
use Rattle.ic_base.specs.declared.limits.TheConstants.{STATEMENTS, VALUES}
use Rattle.ic_base.specs.declared.events.Event.{Event}
use Rattle.ic_base.specs.declared.messages.ComId.{ComId}
use Rattle.ic_base.specs.declared.scenario.Expr.TheVariants.{One, Two}
use Rattle.ic_base.specs.declared.scenario.Handler.{Handler}
use Rattle.ic_base.specs.declared.scenario.Op.TheVariants.{Add}
use Rattle.ic_base.specs.declared.scenario.Operand.TheVariants.{Number, Var, Param}
use Rattle.ic_base.specs.declared.scenario.Stmt.{Stmt}
use Rattle.ic_base.specs.declared.scenario.Stmt.TheOpen.{Set, Send, Txn, Put}
use Rattle.def_facts.specs.Flat.{HasFlatParts}
use Rattle.def_facts.specs.Playable.{IsPlayable}
use Rattle.def_play.specs.Playing.{stmts_of, handler_of}
use Rattle.def_play.specs.Scenes.{order}
use Rattle.def_plain.specs.Scenes.{com_at}
use Rattle.def_live.specs.Turns.{is_own}
use Rattle.law_replay.proofs.Lists.{empty, head-or-tail}
use Rattle.law_syntax.specs.Events.{IsEvent}
use Rattle.law_syntax.specs.Placed.{Shape, shape_stmt, all_shapes, shapes, ArePlaced, IsPlaced}
use Rattle.law_syntax.proofs.Shapes.{shape-Set, shape-Send, shape-Put, shape-Txn}
use Rattle.law_syntax.proofs.FlatParts.{placed_have_flat_parts}
use Rattle.law_syntax.proofs.Playables.{placed_are_playable}
use Rattle.law_run.specs.ProgramBytes.{HasBytes, both_fit, stmts_fit}
use Rattle.law_run.specs.Ends.{AreEvents}
use Rattle.law_run.proofs.Plays.{fits-Set, fits-Send, fits-Put, fits-Txn}
use Rattle.law_live.specs.Berths.{OwnEvents}
use Rattle.law_live_scene.specs.Chain.{chain, charge, charge_part, shop, till, bank}
use Rattle.law_live_scene.specs.Scene.{give_order, crash_shop, pick, shop_first, till_first, bank_first, nobody}

-- of a list of one
one : {A : Type 0} (P : A → Type 0) (x y : A) → Contains (x ∷ []) y → P x → P y
one P x y h is = at (head-or-tail x y [] h)
  where
    at : (x ≡ y) ⊎ Contains [] y → P y
    at (inl e) = subst P e is
    at (inr t) = empty y t

both : {A : Type 0} (x y : A) (xs ys : List A) → x ≡ y → xs ≡ ys → x ∷ xs ≡ y ∷ ys
both x y xs ys head tail = ap (λ z. z ∷ xs) head ∙ ap (λ zs. y ∷ zs) tail

module _ (a : Global) (c : ComId) where
  abbrev the-count : Shape
  the-count = shape_stmt (chain a) c (Set 0 (Two (Var 0) Add (Number (pos 1))))

  abbrev the-send : Shape
  the-send = shape_stmt (chain a) c (Send till 0 (Param 0 ∷ []))

  order-shapes : shapes (chain a) c (order till) ≡ all_shapes (the-count ∷ the-send ∷ [])
  order-shapes = ap all_shapes (both _ _ _ _ (shape-Set (chain a) c _ _) (both _ _ [] [] (shape-Send (chain a) c _ _ _) refl))

  abbrev the-put : Shape
  the-put = shape_stmt (chain a) c (Put 0 (One (Param 0)))

  put-shapes : shapes (chain a) c charge_part ≡ all_shapes (the-put ∷ [])
  put-shapes = ap all_shapes (both _ _ [] [] (shape-Put (chain a) c 0 (One (Param 0))) refl)

  abbrev the-charge : Shape → Shape
  the-charge x = shape_stmt (chain a) c (Txn bank x (all_shapes []))

  charge-shapes : shapes (chain a) c (charge a) ≡ all_shapes (the-charge (all_shapes (the-put ∷ [])) ∷ [])
  charge-shapes = ap all_shapes (both _ _ [] [] (shape-Txn (chain a) c _ _ _ ∙ ap the-charge put-shapes) refl)

-- handlers by their shape
placed-of : (a : Global) (c : ComId) (ss : List Stmt) (x : Shape) → shapes (chain a) c ss ≡ x → x.stands None ≡ true → x.size ≤ STATEMENTS → ArePlaced (chain a) c ss
placed-of a c ss x e stand few = record { stand = ap (λ z. z.stands None) e ∙ stand; few = subst (λ z. z.size ≤ STATEMENTS) (sym e) few }

placed-at : (a : Global) (n h : ℕ) → ArePlaced (chain a) (com_at n) (stmts_of (handler_of (chain a) (com_at n) h))
placed-at a zero zero = placed-of a shop (order till) _ (order-shapes a shop) refl (lit≤ tt)
placed-at a zero (suc h) = record { stand = refl; few = lit≤ tt }
placed-at a (suc zero) zero = placed-of a till (charge a) _ (charge-shapes a till) refl (lit≤ tt)
placed-at a (suc zero) (suc h) = record { stand = refl; few = lit≤ tt }
placed-at a (suc (suc zero)) h = record { stand = refl; few = lit≤ tt }
placed-at a (suc (suc (suc n))) h = record { stand = refl; few = lit≤ tt }

chain-placed : (a : Global) → IsPlaced (chain a)
chain-placed a c h = placed-at a c.0 h

pub playable : (a : Global) → IsPlayable (chain a)
playable a = placed_are_playable (chain a) (chain-placed a)

pub flat : (a : Global) → HasFlatParts (chain a)
flat a = placed_have_flat_parts (chain a) (chain-placed a)

-- bytes -----------------------------------------------------------------------------------------------------

fits-at : (a : Global) (n h : ℕ) → stmts_fit (stmts_of (handler_of (chain a) (com_at n) h)) ≡ true
fits-at a zero zero = ap both_fit (both _ _ _ _ (fits-Set 0 (Two (Var 0) Add (Number (pos 1)))) (both _ _ [] [] (fits-Send till 0 (Param 0 ∷ [])) refl))
fits-at a zero (suc h) = refl
fits-at a (suc zero) zero = ap both_fit (both _ _ [] [] (fits-Txn bank _ _ ∙ ap (λ b. b && true) (ap both_fit (both _ _ [] [] (fits-Put 0 (One (Param 0))) refl))) refl)
fits-at a (suc zero) (suc h) = refl
fits-at a (suc (suc zero)) h = refl
fits-at a (suc (suc (suc n))) h = refl

-- of one handler
few-params : (h : Handler) → h.params ≤ VALUES → (k : ℕ) (d : Handler) → k < 1 → (slice_index_or (h ∷ []) k d).params ≤ VALUES
few-params h few zero d lt = few
few-params h few (suc k) d lt = let no : ⊥ = omega (arith, lt) in absurd no

pub bytes : (a : Global) → HasBytes (chain a)
bytes a = record {
  components = lit≤ tt;
  each = (
    record { vars = lit≤ tt; keys = lit≤ tt; handlers = lit≤ tt; params = λ k d lt. few-params _ (lit≤ tt) k d lt; first_vars = (record { sfits = lit≤ tt }, tt); first_keys = tt },
    (
      record { vars = lit≤ tt; keys = lit≤ tt; handlers = lit≤ tt; params = λ k d lt. few-params _ (lit≤ tt) k d lt; first_vars = tt; first_keys = tt },
      (record { vars = lit≤ tt; keys = lit≤ tt; handlers = lit≤ tt; params = λ k d lt. let no : ⊥ = omega (arith, lt) in absurd no; first_vars = tt; first_keys = (record { sfits = lit≤ tt }, tt) }, tt),
    ),
  );
  handlers = λ c h. fits-at a c.0 h;
}

-- events ----------------------------------------------------------------------------------------------------

pub own : (a : Global) (c : ComId) → OwnEvents (chain a) c (pick shop_first till_first bank_first nobody c.0).left
own a c = at c.0
  where
    at : (n : ℕ) → OwnEvents (chain a) (com_at n) (pick shop_first till_first bank_first nobody n).left
    at zero e h = by (head-or-tail give_order e (crash_shop ∷ []) h)
      where
        by : (give_order ≡ e) ⊎ Contains (crash_shop ∷ []) e → IsEvent (chain a) e × (is_own shop e.what ≡ true)
        by (inl is) = subst (λ (z : Event). IsEvent (chain a) z × (is_own shop z.what ≡ true)) is (record { handler = refl; values = (record { sfits = lit≤ tt }, tt); stop = tt }, refl)
        by (inr more) = one (λ (z : Event). IsEvent (chain a) z × (is_own shop z.what ≡ true)) crash_shop e more (record { handler = tt; values = tt; stop = tt }, refl)
    at (suc zero) e h = empty e h
    at (suc (suc zero)) e h = empty e h
    at (suc (suc (suc n))) e h = empty e h

pub none-left : (a : Global) → AreEvents (chain a) []
none-left a e h = empty e h
