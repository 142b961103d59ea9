-- The statements of the scene's program stand where the grammar lets them, so it is playable.
use Rattle.std.proofs.Common.{◌≡◌, refl, ◌∙◌, ap, sym, subst, ℕ, ◌≤◌, zero, suc, pos, true, List, [], ◌∷◌, None, lit≤}
use Rattle.std.specs.declared.alloc.Global.{Global}
use Rattle.ic_base.specs.declared.limits.TheConstants.{STATEMENTS}
use Rattle.ic_base.specs.declared.messages.ComId.{ComId}
use Rattle.ic_base.specs.declared.scenario.Expr.TheVariants.{One, Two}
use Rattle.ic_base.specs.declared.scenario.Op.TheVariants.{Add}
use Rattle.ic_base.specs.declared.scenario.Operand.TheVariants.{Number, Var, Param}
use Rattle.ic_base.specs.declared.scenario.Stmt.{Stmt}
use Rattle.ic_base.specs.declared.scenario.Stmt.TheOpen.{Set, Send, Txn, Put}
use Rattle.def_play.specs.Playing.{stmts_of, handler_of}
use Rattle.def_play.specs.Scenes.{add}
use Rattle.def_plain.specs.Scenes.{com_at}
use Rattle.law_syntax.specs.Placed.{Shape, shape_stmt, all_shapes, shapes, ArePlaced, IsPlaced}
use Rattle.law_syntax.proofs.Shapes.{shape-Set, shape-Send, shape-Put, shape-Txn}
use Rattle.law_syntax.proofs.FlatParts.{placed_have_flat_parts}
use Rattle.law_syntax.proofs.Playables.{placed_are_playable}
use Rattle.law_found.specs.Trade.{put_part, buy, fail, book, trade}
use Rattle.law_found.specs.ScenePrograms.{SceneIsPlayable, SceneHasFlatParts}
use Rattle.law_found.proofs.ScenePlays.{both}

module _ (a : Global) (c : ComId) where
  abbrev the-put : Shape
  the-put = shape_stmt (trade a) c (Put 0 (One (Param 0)))

  put-shapes : shapes (trade a) c put_part ≡ all_shapes (the-put ∷ [])
  put-shapes = ap all_shapes (both _ _ [] [] (shape-Put (trade a) c 0 (One (Param 0))) refl)

  abbrev the-fail : Shape
  the-fail = shape_stmt (trade a) c (Set 0 (Two (Var 0) Add (Number (pos 1))))

  fail-shapes : shapes (trade a) c fail ≡ all_shapes (the-fail ∷ [])
  fail-shapes = ap all_shapes (both _ _ [] [] (shape-Set (trade a) c 0 (Two (Var 0) Add (Number (pos 1)))) refl)

  abbrev the-add : Shape
  the-add = shape_stmt (trade a) c (Set 0 (Two (Var 0) Add (Param 0)))

  pub add-shapes : shapes (trade a) c add ≡ all_shapes (the-add ∷ [])
  add-shapes = ap all_shapes (both _ _ [] [] (shape-Set (trade a) c 0 (Two (Var 0) Add (Param 0))) refl)

  abbrev the-buy : Shape → Shape
  the-buy x = shape_stmt (trade a) c (Txn (com_at 0) x (all_shapes []))

  abbrev the-send : Shape
  the-send = shape_stmt (trade a) c (Send (com_at 2) 1 (Param 0 ∷ []))

  pub buy-shapes : shapes (trade a) c (buy a) ≡ all_shapes (the-buy (all_shapes (the-put ∷ [])) ∷ the-send ∷ [])
  buy-shapes = ap all_shapes (both _ _ _ _ (shape-Txn (trade a) c _ _ _ ∙ ap the-buy put-shapes) (both _ _ [] [] (shape-Send (trade a) c _ _ _) refl))

  abbrev the-book : Shape → Shape → Shape
  the-book x y = shape_stmt (trade a) c (Txn (com_at 0) x y)

  pub book-shapes : shapes (trade a) c (book a) ≡ all_shapes (the-book (all_shapes (the-put ∷ [])) (all_shapes (the-fail ∷ [])) ∷ [])
  book-shapes =
      ap all_shapes (both _ _ [] [] (shape-Txn (trade a) c _ _ _ ∙ ap (λ x. the-book x (shapes (trade a) c fail)) put-shapes ∙ ap (the-book (all_shapes (the-put ∷ []))) fail-shapes) refl)

-- handlers by their shape
placed-of : (a : Global) (c : ComId) (ss : List Stmt) (x : Shape) → shapes (trade a) c ss ≡ x → x.stands None ≡ true → x.size ≤ STATEMENTS → ArePlaced (trade a) c ss
placed-of a c ss x e stand few = record { stand = ap (λ z. z.stands None) e ∙ stand; few = subst (λ z. z.size ≤ STATEMENTS) (sym e) few }

at : (a : Global) (n h : ℕ) → ArePlaced (trade a) (com_at n) (stmts_of (handler_of (trade a) (com_at n) h))
at a zero h = record { stand = refl; few = lit≤ tt }
at a (suc zero) zero = placed-of a (com_at 1) (buy a) _ (buy-shapes a (com_at 1)) refl (lit≤ tt)
at a (suc zero) (suc h) = record { stand = refl; few = lit≤ tt }
at a (suc (suc zero)) zero = placed-of a (com_at 2) (book a) _ (book-shapes a (com_at 2)) refl (lit≤ tt)
at a (suc (suc zero)) (suc zero) = placed-of a (com_at 2) add _ (add-shapes a (com_at 2)) refl (lit≤ tt)
at a (suc (suc zero)) (suc (suc h)) = record { stand = refl; few = lit≤ tt }
at a (suc (suc (suc n))) h = record { stand = refl; few = lit≤ tt }

trade-placed : (a : Global) → IsPlaced (trade a)
trade-placed a c h = at a c.0 h

pub scene_is_playable : SceneIsPlayable
scene_is_playable a = placed_are_playable (trade a) (trade-placed a)

pub scene_has_flat_parts : SceneHasFlatParts
scene_has_flat_parts a = placed_have_flat_parts (trade a) (trade-placed a)
