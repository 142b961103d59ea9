-- Where no answer is missing, answers behind the others change nothing.
use Rattle.std.proofs.Common.{◌≡◌, refl, ◌∙◌, sym, ap, subst, ⊎_elim, inl, inr, ◌⊎◌, ℕ, zero, suc, ℤ, Bool, true, false, cond, List, [], ◌∷◌, ◌++◌, map, take, drop, slice_get, Option, Some, None}
use Rattle.std.proofs.lemmas.List.{take-append-drop, append-nil}
use Rattle.std.specs.Prelude.{⊤, slice_set}
use Rattle.std.specs.List.{AllByRecursion}
use Rattle.ic_base.specs.declared.messages.ComId.{ComId}
use Rattle.ic_base.specs.declared.messages.Done.{Done}
use Rattle.ic_base.specs.declared.messages.Done.TheVariants.{Committed, Aborted}
use Rattle.ic_base.specs.declared.messages.Request.{Request}
use Rattle.ic_base.specs.declared.played.Played.{Played}
use Rattle.ic_base.specs.declared.played.Played.TheVariants.{Asks, Ready, NeedFails, Ends}
use Rattle.ic_base.specs.declared.scenario.Operand.{Operand}
use Rattle.ic_base.specs.declared.scenario.Operand.TheVariants.{Number, Var, Param, Local}
use Rattle.ic_base.specs.declared.scenario.Expr.{Expr}
use Rattle.ic_base.specs.declared.scenario.Expr.TheVariants.{One, Two}
use Rattle.ic_base.specs.declared.scenario.Stmt.{Stmt}
use Rattle.def_play.specs.Playing.{Change, Evaluation, Part, Turn, Goes, Stops, turn, and_then, choose, holds, asked, ready, transaction, operand_value, expr_value, op_value, no_part, start, result_of, played_all}
use Rattle.def_play.proofs.Folds.{all_turns, turn-Set, turn-Send, turn-Out, turn-If, turn-Txn, turn-Get, turn-Put, turn-Need}
use Rattle.ic_eval.specs.Laws.{HasMore, LacksNone}
use Rattle.def_play.proofs.ByKind.{Kinds, each_of}

-- the course with other results left
abbrev with_left : Evaluation → List Done → Evaluation
with_left s left = record s { left = left }

-- a turn that asks nothing comes to the same, with more behind the results left
abbrev Keeps : Turn → Turn → Type 0
Keeps (Goes s) y = (left : List Done) × ((y ≡ Goes (with_left s left)) × HasMore s.left left)
Keeps (Stops (Asks t q)) y = ⊤
Keeps (Stops (Ready t)) y = y ≡ Stops (Ready t)
Keeps (Stops (NeedFails t line)) y = y ≡ Stops (NeedFails t line)
Keeps (Stops (Ends vars sends outs)) y = y ≡ Stops (Ends vars sends outs)

abbrev in_part : ComId → List ℤ → Part
in_part t answers = record { tcom = t; answers = answers }

-- a change keeps its turn where answers come behind
abbrev IsSteady : (List ℤ → Change) → Type 0
IsSteady f =
    (now more : List ℤ) (t : ComId) (answers behind : List ℤ) (s : Evaluation) (left : List Done) → HasMore s.left left
    → Keeps (f now (in_part t answers) s) (f (now ++ more) (in_part t (answers ++ behind)) (with_left s left))

keeps_by : (x x' y y' : Turn) → x ≡ x' → y ≡ y' → Keeps x' y' → Keeps x y
keeps_by x x' y y' ex ey h =
    let P : Turn → Type 0 = λ z. Keeps z y in
    let Q : Turn → Type 0 = λ z. Keeps x' z in
    subst P (sym ex) (subst Q (sym ey) h)

-- operands don't see the results
operand_same : (args : List ℤ) (s : Evaluation) (left : List Done) (o : Operand) → operand_value args (with_left s left) o ≡ operand_value args s o
operand_same args s left (Number n) = refl
operand_same args s left (Var i) = refl
operand_same args s left (Param i) = refl
operand_same args s left (Local i) = refl

expr_same : (args : List ℤ) (s : Evaluation) (left : List Done) (e : Expr) → expr_value args (with_left s left) e ≡ expr_value args s e
expr_same args s left (One a) = operand_same args s left a
expr_same args s left (Two a op b) =
    ap (λ x. op_value op x (operand_value args (with_left s left) b)) (operand_same args s left a)
    ∙ ap (op_value op (operand_value args s a)) (operand_same args s left b)

operands_same : (args : List ℤ) (s : Evaluation) (left : List Done) (es : List Operand) → map (operand_value args (with_left s left)) es ≡ map (operand_value args s) es
operands_same args s left [] = refl
operands_same args s left (e ∷ es) =
    ap (λ x. x ∷ map (operand_value args (with_left s left)) es) (operand_same args s left e)
    ∙ ap (λ xs. operand_value args s e ∷ xs) (operands_same args s left es)

then_keeps : (x y : Turn) (g h : Evaluation → Turn) → Keeps x y → ((s : Evaluation) (left : List Done) → HasMore s.left left → Keeps (g s) (h (with_left s left))) → Keeps (and_then x g) (and_then y h)
then_keeps (Goes s) y g h k more = keeps_by _ _ _ _ refl (ap (λ z. and_then z h) k.1.0) (more s k.0 k.1.1)
then_keeps (Stops (Asks t q)) y g h k more = tt
then_keeps (Stops (Ready t)) y g h k more = ap (λ z. and_then z h) k
then_keeps (Stops (NeedFails t line)) y g h k more = ap (λ z. and_then z h) k
then_keeps (Stops (Ends vars sends outs)) y g h k more = ap (λ z. and_then z h) k

abbrev IsSteadyStmt : Stmt → Type 0
IsSteadyStmt s = (args : List ℤ) → IsSteady (λ now. turn args now s)

pub all_steady : (ss : List Stmt) → AllByRecursion IsSteadyStmt ss → (args : List ℤ) → IsSteady (λ now. all_turns args now ss)
all_steady [] each args now more t answers behind s left h = (left, (refl, h))
all_steady (x ∷ ss) each args now more t answers behind s left h =
    then_keeps _ _ _ _ (each.0 args now more t answers behind s left h) (λ u l g. all_steady ss each.1 args now more t answers behind u l g)

chosen_keeps : (b : Bool) (f g f' g' : Change) (p p' : Part) (s s' : Evaluation) → Keeps (f p s) (f' p' s') → Keeps (g p s) (g' p' s') → Keeps (choose b f g p s) (choose b f' g' p' s')
chosen_keeps true f g f' g' p p' s s' x y = x
chosen_keeps false f g f' g' p p' s s' x y = y

needed_keeps : (b : Bool) (t : ComId) (line : ℕ) (s : Evaluation) (left : List Done) → HasMore s.left left → Keeps (cond b (Goes s) (Stops (NeedFails t line))) (cond b (Goes (with_left s left)) (Stops (NeedFails t line)))
needed_keeps true t line s left h = (left, (refl, h))
needed_keeps false t line s left h = refl

got_behind : (xs ys : List ℤ) (i : ℕ) (v : ℤ) → slice_get xs i ≡ Some v → slice_get (xs ++ ys) i ≡ Some v
got_behind [] ys i v h = absurd (cc)
got_behind (x ∷ xs) ys zero v h = h
got_behind (x ∷ xs) ys (suc i) v h = got_behind xs ys i v h

asked_keeps : (t : ComId) (q r : Request) (o o' : Option ℤ) (f g : ℤ → Turn) → ((v : ℤ) → o ≡ Some v → o' ≡ Some v) → ((v : ℤ) → Keeps (f v) (g v)) → Keeps (asked t q o f) (asked t r o' g)
asked_keeps t q r None o' f g same k = tt
asked_keeps t q r (Some v) o' f g same k = keeps_by _ _ _ _ refl (ap (λ z. asked t r z g) (same v refl)) (k v)

ready_keeps : (t : ComId) (x y : Turn) → Keeps x y → Keeps (ready t x) (ready t y)
ready_keeps t (Goes s) y k = ap (ready t) k.1.0
ready_keeps t (Stops (Asks u q)) y k = tt
ready_keeps t (Stops (Ready u)) y k = ap (ready t) k
ready_keeps t (Stops (NeedFails u line)) y k = ap (ready t) k
ready_keeps t (Stops (Ends vars sends outs)) y k = ap (ready t) k

-- a transaction, by the results that are left
part_keeps : (f g : List ℤ → Change) → IsSteady f → IsSteady g → (now more : List ℤ) (t u : ComId) (answers behind : List ℤ) (s : Evaluation) (done left : List Done) → HasMore done left → Keeps (transaction now u (f now) (g now) done (in_part t answers) (with_left s done)) (transaction (now ++ more) u (f (now ++ more)) (g (now ++ more)) left (in_part t (answers ++ behind)) (with_left s left))
part_keeps f g a b now more t u answers behind s [] [] h = ready_keeps u _ _ (a now more u now more (record s { left = []; place = 0 }) [] h)
part_keeps f g a b now more t u answers behind s [] (d ∷ left) h = absurd h
part_keeps f g a b now more t u answers behind s (Aborted ∷ done) [] h = absurd h
part_keeps f g a b now more t u answers behind s (Aborted ∷ done) (Aborted ∷ left) h = b now more t answers behind (with_left s done) left h
part_keeps f g a b now more t u answers behind s (Aborted ∷ done) (Committed ys ∷ left) h = absurd h
part_keeps f g a b now more t u answers behind s (Committed xs ∷ done) [] h = absurd h
part_keeps f g a b now more t u answers behind s (Committed xs ∷ done) (Aborted ∷ left) h = absurd h
part_keeps f g a b now more t u answers behind s (Committed xs ∷ done) (Committed ys ∷ left) h =
    keeps_by _ _ _ _ refl (ap (λ z. f (now ++ more) (in_part u z) (record s { left = left; place = 0 })) h.0.1) (a now more u xs h.0.0 (record s { left = done; place = 0 }) left h.1)

stmts_steady : Kinds IsSteadyStmt
stmts_steady = record {
  set = λ i e args now more t answers behind s left h.
      keeps_by _ _ _ _ (ap (λ f. f (in_part t answers) s) (turn-Set args now i e)) (ap (λ f. f (in_part t (answers ++ behind)) (with_left s left)) (turn-Set args (now ++ more) i e))
      (left, (ap (λ v. Goes (record s { left = left; vars = slice_set s.vars i v })) (expr_same args s left e), h));
  send = λ to n es args now more t answers behind s left h.
      keeps_by _ _ _ _ (ap (λ f. f (in_part t answers) s) (turn-Send args now to n es)) (ap (λ f. f (in_part t (answers ++ behind)) (with_left s left)) (turn-Send args (now ++ more) to n es))
      (left, (ap (λ vs. Goes (record s { left = left; sends = s.sends ++ record { to = to; handler = n; args = vs } ∷ [] })) (operands_same args s left es), h));
  out = λ to es args now more t answers behind s left h.
      keeps_by _ _ _ _ (ap (λ f. f (in_part t answers) s) (turn-Out args now to es)) (ap (λ f. f (in_part t (answers ++ behind)) (with_left s left)) (turn-Out args (now ++ more) to es))
      (left, (ap (λ vs. Goes (record s { left = left; outs = s.outs ++ record { to = to; args = vs } ∷ [] })) (operands_same args s left es), h));
  choice = λ e a b x y args now more t answers behind s left h.
      keeps_by _ _ _ _ (ap (λ f. f (in_part t answers) s) (turn-If args now e a b))
      (ap (λ f. f (in_part t (answers ++ behind)) (with_left s left)) (turn-If args (now ++ more) e a b)
      ∙ ap (λ v. choose (holds v) (all_turns args (now ++ more) a.stmts.items) (all_turns args (now ++ more) b.stmts.items) (in_part t (answers ++ behind)) (with_left s left)) (expr_same args s left e))
      (chosen_keeps (holds (expr_value args s e)) _ _ _ _ _ _ _ _ (all_steady a.stmts.items x args now more t answers behind s left h) (all_steady b.stmts.items y args now more t answers behind s left h));
  part = λ u a b x y args now more t answers behind s left h.
      keeps_by _ _ _ _ (ap (λ f. f (in_part t answers) s) (turn-Txn args now u a b)) (ap (λ f. f (in_part t (answers ++ behind)) (with_left s left)) (turn-Txn args (now ++ more) u a b))
      (part_keeps (λ z. all_turns args z a.stmts.items) (λ z. all_turns args z b.stmts.items) (all_steady a.stmts.items x args) (all_steady b.stmts.items y args) now more t u answers behind s s.left left h);
  get = λ i key args now more t answers behind s left h.
      keeps_by _ _ _ _ (ap (λ f. f (in_part t answers) s) (turn-Get args now i key)) (ap (λ f. f (in_part t (answers ++ behind)) (with_left s left)) (turn-Get args (now ++ more) i key))
      (asked_keeps t _ _ _ _ _ _ (got_behind answers behind s.place) (λ v. (left, (refl, h))));
  put = λ key e args now more t answers behind s left h.
      keeps_by _ _ _ _ (ap (λ f. f (in_part t answers) s) (turn-Put args now key e)) (ap (λ f. f (in_part t (answers ++ behind)) (with_left s left)) (turn-Put args (now ++ more) key e))
      (asked_keeps t _ _ _ _ _ _ (got_behind answers behind s.place) (λ v. (left, (refl, h))));
  need = λ line e args now more t answers behind s left h.
      keeps_by _ _ _ _ (ap (λ f. f (in_part t answers) s) (turn-Need args now line e))
      (ap (λ f. f (in_part t (answers ++ behind)) (with_left s left)) (turn-Need args (now ++ more) line e)
      ∙ ap (λ v. cond (holds v) (Goes (with_left s left)) (Stops (NeedFails t line))) (expr_same args s left e))
      (needed_keeps (holds (expr_value args s e)) t line s left h);
}

kept_result : (x y : Turn) → Keeps x y → LacksNone (result_of x) → result_of y ≡ result_of x
kept_result (Goes s) y k lacks = ap result_of k.1.0
kept_result (Stops (Asks t q)) y k lacks = absurd (lacks t q refl)
kept_result (Stops (Ready t)) y k lacks = ap result_of k
kept_result (Stops (NeedFails t line)) y k lacks = ap result_of k
kept_result (Stops (Ends vars sends outs)) y k lacks = ap result_of k

pub surplus : (stmts : List Stmt) (vars args : List ℤ) (done longer : List Done) (now more : List ℤ) → HasMore done longer → LacksNone (played_all stmts vars args done now) → played_all stmts vars args longer (now ++ more) ≡ played_all stmts vars args done now
surplus stmts vars args done longer now more h lacks =
    kept_result _ _ (all_steady stmts (each_of IsSteadyStmt stmts_steady stmts) args now more no_part.tcom [] [] (start vars done) longer h) lacks

same_more : (done : List Done) → HasMore done done
same_more [] = tt
same_more (Aborted ∷ done) = same_more done
same_more (Committed xs ∷ done) = (([], sym (append-nil xs)), same_more done)

-- an answer that asks, or one that lacks nothing
asks_or_not : (r : Played) → ((t : ComId) × ((q : Request) × (r ≡ Asks t q))) ⊎ LacksNone r
asks_or_not (Asks t q) = inl (t, (q, refl))
asks_or_not (Ready u) = inr (λ t q h. absurd (cc))
asks_or_not (NeedFails u line) = inr (λ t q h. absurd (cc))
asks_or_not (Ends vars sends outs) = inr (λ t q h. absurd (cc))

-- where a part asks with some answers, it asks with the first of them
pub asks_before : (stmts : List Stmt) (vars args : List ℤ) (done : List Done) (now : List ℤ) (n : ℕ) (t : ComId) (q : Request) → played_all stmts vars args done now ≡ Asks t q → (u : ComId) × ((r : Request) × (played_all stmts vars args done (take n now) ≡ Asks u r))
asks_before stmts vars args done now n t q h =
    ⊎_elim (λ x. x)
    (λ lacks. absurd (lacks t q (sym (surplus stmts vars args done done (take n now) (drop n now) (same_more done) lacks) ∙ ap (played_all stmts vars args done) (take-append-drop n now) ∙ h)))
    (asks_or_not (played_all stmts vars args done (take n now)))
