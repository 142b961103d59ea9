-- How the handlers of the scene play.
use Rattle.std.proofs.Common.{◌≡◌, refl, ◌∙◌, ap, ℤ, pos, List, [], ◌∷◌, map}
use Rattle.std.specs.declared.alloc.Global.{Global}
use Rattle.ic_base.specs.declared.messages.Done.{Done}
use Rattle.ic_base.specs.declared.scenario.Expr.TheVariants.{One, Two}
use Rattle.ic_base.specs.declared.scenario.Op.TheVariants.{Add}
use Rattle.ic_base.specs.declared.scenario.Operand.TheVariants.{Number, Var, Param}
use Rattle.ic_base.specs.declared.scenario.Stmt.TheOpen.{Stmt-F, Set, Send, Txn, Put}
use Rattle.def_play.specs.Playing.{Change, turn, stmt_turn, in_turn, played}
use Rattle.def_play.proofs.Folds.{all_turns, turn-Set, turn-Send, turn-Txn, turn-Put}
use Rattle.def_play.proofs.Handlers.{changes, comes_to, add_plays}
use Rattle.def_plain.specs.Scenes.{com_at}
use Rattle.law_found.specs.Trade.{put_part, buy, fail, book, trade}

pub both : {A : Type 0} (x y : A) (xs ys : List A) → x ≡ y → xs ≡ ys → x ∷ xs ≡ y ∷ ys
both x y xs ys head tail = ap (λ z. z ∷ xs) head ∙ ap (λ zs. y ∷ zs) tail

put-turns : (args now : List ℤ) → map (turn args now) put_part ≡ changes args now (Put 0 (One (Param 0)) ∷ [])
put-turns args now = both _ _ _ _ (turn-Put args now _ _) refl

fail-turns : (args now : List ℤ) → map (turn args now) fail ≡ changes args now (Set 0 (Two (Var 0) Add (Number (pos 1))) ∷ [])
fail-turns args now = both _ _ _ _ (turn-Set args now _ _) refl

-- the transactions, with what their bodies make
abbrev pub open_buy : List ℤ → List ℤ → Stmt-F Change Change
open_buy args now = Txn (com_at 0) (in_turn (changes args now (Put 0 (One (Param 0)) ∷ []))) (in_turn [])

abbrev pub open_book : List ℤ → List ℤ → Stmt-F Change Change
open_book args now = Txn (com_at 0) (in_turn (changes args now (Put 0 (One (Param 0)) ∷ []))) (in_turn (changes args now (Set 0 (Two (Var 0) Add (Number (pos 1))) ∷ [])))

buy-turns : (a : Global) (args now : List ℤ) → map (turn args now) (buy a) ≡ changes args now (open_buy args now ∷ Send (com_at 2) 1 (Param 0 ∷ []) ∷ [])
buy-turns a args now =
    both _ _ _ _ (turn-Txn args now _ _ _ ∙ ap (λ fs. stmt_turn args now (Txn (com_at 0) (in_turn fs) (in_turn []))) (put-turns args now)) (both _ _ _ _ (turn-Send args now _ _ _) refl)

book-turns : (a : Global) (args now : List ℤ) → map (turn args now) (book a) ≡ changes args now (open_book args now ∷ [])
book-turns a args now =
    both _ _ _ _
    (turn-Txn args now _ _ _ ∙ ap (λ fs. stmt_turn args now (Txn (com_at 0) (in_turn fs) (all_turns args now fail))) (put-turns args now)
    ∙ ap (λ fs. stmt_turn args now (Txn (com_at 0) (in_turn (changes args now (Put 0 (One (Param 0)) ∷ []))) (in_turn fs))) (fail-turns args now)) refl

pub buy-plays : (a : Global) (vars args : List ℤ) (done : List Done) (now : List ℤ) → played (trade a) (com_at 1) 0 vars args done now ≡ comes_to (changes args now (open_buy args now ∷ Send (com_at 2) 1 (Param 0 ∷ []) ∷ [])) vars done
buy-plays a vars args done now = ap (λ fs. comes_to fs vars done) (buy-turns a args now)

pub book-plays : (a : Global) (vars args : List ℤ) (done : List Done) (now : List ℤ) → played (trade a) (com_at 2) 0 vars args done now ≡ comes_to (changes args now (open_book args now ∷ [])) vars done
book-plays a vars args done now = ap (λ fs. comes_to fs vars done) (book-turns a args now)

pub note-plays : (a : Global) (vars args : List ℤ) (done : List Done) (now : List ℤ) → played (trade a) (com_at 2) 1 vars args done now ≡ comes_to (changes args now (Set 0 (Two (Var 0) Add (Param 0)) ∷ [])) vars done
note-plays a vars args done now = add_plays vars args done now
