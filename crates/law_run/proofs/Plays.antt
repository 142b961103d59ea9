-- A play whose values have their bytes comes to such.
use Rattle.std.proofs.Common.{◌≡◌, refl, ◌∙◌, ap, sym, subst, ℕ, zero, suc, ◌+◌, ◌<◌, ◌≤◌, ◌^◌, ◌==◌, nat_lt, nat_le, Bool, true, false, cond, not, ◌&&◌, ℤ, pos, negsuc, List, [], ◌∷◌, ◌++◌, map, length, slice_get, Option, Some, None, option_map, arith}
use Rattle.std.specs.Prelude.{⊤, MatchOption, slice_set, unwrap_or, find, int_lt, int_le, ◌+ℤ◌, ◌-ℤ◌, ◌*ℤ◌}
use Rattle.std.specs.Int.{w64, saturate_signed}
use Rattle.std.specs.List.{AllByRecursion, list_all}
use Rattle.std.specs.Ordering.{int_eq}
use Rattle.std.proofs.lemmas.List.{length-map}
use Rattle.ic_base.specs.declared.limits.TheConstants.{VALUES}
use Rattle.ic_base.specs.declared.messages.ComId.{ComId}
use Rattle.ic_base.specs.declared.messages.Done.{Done}
use Rattle.ic_base.specs.declared.messages.Done.TheVariants.{Committed, Aborted}
use Rattle.ic_base.specs.declared.messages.Request.{Request}
use Rattle.ic_base.specs.declared.messages.Request.TheVariants.{Get as AGet, Put as APut}
use Rattle.ic_base.specs.declared.played.Played.TheVariants.{NeedFails}
use Rattle.ic_base.specs.declared.scenario.Body.{Body}
use Rattle.ic_base.specs.declared.scenario.Expr.{Expr}
use Rattle.ic_base.specs.declared.scenario.Expr.TheVariants.{One, Two}
use Rattle.ic_base.specs.declared.scenario.Op.{Op}
use Rattle.ic_base.specs.declared.scenario.Op.TheVariants.{Add, Sub, Mul, Less, AtMost, Equal, NotEqual, AtLeast, Greater}
use Rattle.ic_base.specs.declared.scenario.Operand.{Operand}
use Rattle.ic_base.specs.declared.scenario.Operand.TheVariants.{Number, Var, Param, Local}
use Rattle.ic_base.specs.declared.scenario.Program.{Program}
use Rattle.ic_base.specs.declared.scenario.Stmt.{Stmt}
use Rattle.ic_base.specs.declared.scenario.Stmt as stmt
use Rattle.ic_base.specs.declared.scenario.Stmt.TheOpen.{Set, Send, Out, If, Txn, Get, Put, Need}
use Rattle.ic_base.specs.declared.scenario.Stmt.TheVariants.{rolls-Set, rolls-Send, rolls-Out, rolls-If, rolls-Txn, rolls-Get, rolls-Put, rolls-Need}
use Rattle.ic_base.specs.declared.scenario.Stmt.TheFolds.{fold-Body, fold-roll-Stmt, fold_out-Body}
use Rattle.def_play.specs.Playing.{Evaluation, Part, Turn, Goes, Stops, Change, value_at, local_value, operand_value, truth, op_value, expr_value, holds, choose, and_then, in_turn, asked, ready, transaction, stmt_turn, turn, no_part, start, result_of, played, stmts_of, handler_of}
use Rattle.def_play.proofs.Folds.{all_turns, turn-Set, turn-Send, turn-Out, turn-If, turn-Txn, turn-Get, turn-Put, turn-Need}
use Rattle.law_replay.proofs.ByKind.{Kinds, each_of}
use Rattle.law_replay.proofs.Lists.{front, back, at_most}
use Rattle.law_settle.proofs.Tables.{all-push}
use Rattle.law_step.proofs.Nodes.{set-long}
use Rattle.law_settle.proofs.Walks.{all-at}
use Rattle.law_run.specs.ProgramBytes.{IsWord, AreWords, is_word, operand_fits, expr_fits, stmt_fits, body_fits, fits_stmt, stmts_fit, HasBytes, RequestFits, DoneFits, SendFits, OutFits, PlayedFits}

-- values ------------------------------------------------------------------------------------------

pub word-is : (z : ℤ) → is_word z ≡ true → IsWord z
word-is (pos n) e = record { sfits = below n (2 ^ 63) e }
  where
    below : (a b : ℕ) → nat_lt a b ≡ true → a < b
    below a b f = grind arith
word-is (negsuc n) e = record { sfits = below n (2 ^ 63) e }
  where
    below : (a b : ℕ) → nat_lt a b ≡ true → a < b
    below a b f = grind arith

pub zero-word : IsWord (pos 0)
zero-word = record { sfits = omega arith }

truth-word : (b : Bool) → IsWord (truth b)
truth-word true = record { sfits = omega arith }
truth-word false = zero-word

saturated-word : (z : ℤ) → IsWord (saturate_signed w64 z)
saturated-word (pos n) = record { sfits = omega arith }
saturated-word (negsuc n) = record { sfits = omega arith }

op-word : (op : Op) (x y : ℤ) → IsWord (op_value op x y)
op-word Add x y = saturated-word (x +ℤ y)
op-word Sub x y = saturated-word (x -ℤ y)
op-word Mul x y = saturated-word (x *ℤ y)
op-word Less x y = truth-word (int_lt x y)
op-word AtMost x y = truth-word (int_le x y)
op-word Equal x y = truth-word (int_eq x y)
op-word NotEqual x y = truth-word (not (int_eq x y))
op-word AtLeast x y = truth-word (int_le y x)
op-word Greater x y = truth-word (int_lt y x)

pub value-word : (xs : List ℤ) (i : ℕ) → AreWords xs → IsWord (value_at xs i)
value-word xs i h = at (slice_get xs i) refl
  where
    at : (o : Option ℤ) → slice_get xs i ≡ o → IsWord (unwrap_or o (pos 0))
    at None e = zero-word
    at (Some z) e = all-at IsWord xs i z h e

local-word : (locals : List (ℕ × ℤ)) (i : ℕ) → AllByRecursion (λ b. IsWord b.1) locals → IsWord (local_value locals i)
local-word [] i h = zero-word
local-word (b ∷ bs) i h = at (b.0 == i) (local-word bs i h.1)
  where
    at : (t : Bool) → IsWord (local_value bs i) → IsWord (unwrap_or (option_map (λ y. y.1) (cond t (Some b) (find (λ y. y.0 == i) bs))) (pos 0))
    at true more = h.0
    at false more = more

pub all-set : {A : Type 0} (P : A → Type 0) (xs : List A) (i : ℕ) (x : A) → AllByRecursion P xs → P x → AllByRecursion P (slice_set xs i x)
all-set P [] i x h k = tt
all-set P (y ∷ ys) zero x h k = (k, h.1)
all-set P (y ∷ ys) (suc i) x h k = (h.0, all-set P ys i x h.1 k)

-- what a played handler has come to
pub record EvalFits (u : Evaluation) : Type 0 where
  pub vars : AreWords u.vars
  pub few : length u.vars < 2 ^ 8
  pub locals : AllByRecursion (λ b. IsWord b.1) u.locals
  pub sends : AllByRecursion SendFits u.sends
  pub outs : AllByRecursion OutFits u.outs
  pub left : AllByRecursion DoneFits u.left

operand-word : (args : List ℤ) (u : Evaluation) (o : Operand) → AreWords args → EvalFits u → operand_fits o ≡ true → IsWord (operand_value args u o)
operand-word args u (Number z) h x e = word-is z e
operand-word args u (Var i) h x e = value-word u.vars i x.vars
operand-word args u (Param i) h x e = value-word args i h
operand-word args u (Local i) h x e = local-word u.locals i x.locals

operand-words : (args : List ℤ) (u : Evaluation) (os : List Operand) → AreWords args → EvalFits u → list_all operand_fits os ≡ true → AreWords (map (operand_value args u) os)
operand-words args u [] h x e = tt
operand-words args u (o ∷ os) h x e = (operand-word args u o h x (front (operand_fits o) (list_all operand_fits os) e), operand-words args u os h x (back (operand_fits o) (list_all operand_fits os) e))

expr-word : (args : List ℤ) (u : Evaluation) (e : Expr) → AreWords args → EvalFits u → expr_fits e ≡ true → IsWord (expr_value args u e)
expr-word args u (One a) h x e = operand-word args u a h x e
expr-word args u (Two a op b) h x e = op-word op (operand_value args u a) (operand_value args u b)

-- statements --------------------------------------------------------------------------------------

abbrev TurnFits : Turn → Type 0
TurnFits (Goes u) = EvalFits u
TurnFits (Stops r) = PlayedFits r

abbrev PlaysFit : Stmt → Type 0
PlaysFit s = fits_stmt s ≡ true → (args now : List ℤ) (p : Part) (u : Evaluation) → AreWords args → AreWords now → AreWords p.answers → EvalFits u → TurnFits (turn args now s p u)

abbrev PlayFit : List Stmt → Type 0
PlayFit ss = stmts_fit ss ≡ true → (args now : List ℤ) (p : Part) (u : Evaluation) → AreWords args → AreWords now → AreWords p.answers → EvalFits u → TurnFits (all_turns args now ss p u)

then-fits : (t : Turn) (more : Evaluation → Turn) → TurnFits t → ((u : Evaluation) → EvalFits u → TurnFits (more u)) → TurnFits (and_then t more)
then-fits (Goes u) more h k = k u h
then-fits (Stops r) more h k = h

all-play : (ss : List Stmt) → AllByRecursion PlaysFit ss → PlayFit ss
all-play [] h e args now p u ha hn hp x = x
all-play (s ∷ ss) h e args now p u ha hn hp x =
    then-fits (turn args now s p u) (in_turn (map (turn args now) ss) p) (h.0 (front (fits_stmt s) (stmts_fit ss) e) args now p u ha hn hp x) (λ v y. all-play ss h.1 (back (fits_stmt s) (stmts_fit ss) e) args now p v ha hn hp y)

fits-body : (b : Body) → fold-Body Bool Bool stmt_fits body_fits b ≡ stmts_fit b.stmts.items
fits-body b = fold_out-Body Bool Bool stmt_fits body_fits b

pub fits-Set : (i : ℕ) (e : Expr) → fits_stmt (stmt.Set i e) ≡ expr_fits e
fits-Set i e = ap fits_stmt (sym (rolls-Set i e)) ∙ fold-roll-Stmt Bool Bool stmt_fits body_fits (Set i e)

pub fits-Send : (to : ComId) (h : ℕ) (es : List Operand) → fits_stmt (stmt.Send to h es) ≡ list_all operand_fits es
fits-Send to h es = ap fits_stmt (sym (rolls-Send to h es)) ∙ fold-roll-Stmt Bool Bool stmt_fits body_fits (Send to h es)

pub fits-Out : (to : ComId) (es : List Operand) → fits_stmt (stmt.Out to es) ≡ nat_le (length es) VALUES && list_all operand_fits es
fits-Out to es = ap fits_stmt (sym (rolls-Out to es)) ∙ fold-roll-Stmt Bool Bool stmt_fits body_fits (Out to es)

pub fits-Put : (key : ℕ) (e : Expr) → fits_stmt (stmt.Put key e) ≡ expr_fits e
fits-Put key e = ap fits_stmt (sym (rolls-Put key e)) ∙ fold-roll-Stmt Bool Bool stmt_fits body_fits (Put key e)

pub fits-Get : (i key : ℕ) → fits_stmt (stmt.Get i key) ≡ true
fits-Get i key = ap fits_stmt (sym (rolls-Get i key)) ∙ fold-roll-Stmt Bool Bool stmt_fits body_fits (Get i key)

pub fits-Need : (line : ℕ) (e : Expr) → fits_stmt (stmt.Need line e) ≡ nat_lt line (2 ^ 32) && expr_fits e
fits-Need line e = ap fits_stmt (sym (rolls-Need line e)) ∙ fold-roll-Stmt Bool Bool stmt_fits body_fits (Need line e)

pub fits-If : (e : Expr) (a b : Body) → fits_stmt (stmt.If e a b) ≡ expr_fits e && (stmts_fit a.stmts.items && stmts_fit b.stmts.items)
fits-If e a b =
    ap fits_stmt (sym (rolls-If e a b)) ∙ fold-roll-Stmt Bool Bool stmt_fits body_fits (If e a b)
    ∙ ap (λ x. expr_fits e && (x && fold-Body Bool Bool stmt_fits body_fits b)) (fits-body a) ∙ ap (λ x. expr_fits e && (stmts_fit a.stmts.items && x)) (fits-body b)

pub fits-Txn : (t : ComId) (a b : Body) → fits_stmt (stmt.Txn t a b) ≡ stmts_fit a.stmts.items && stmts_fit b.stmts.items
fits-Txn t a b =
    ap fits_stmt (sym (rolls-Txn t a b)) ∙ fold-roll-Stmt Bool Bool stmt_fits body_fits (Txn t a b)
    ∙ ap (λ x. x && fold-Body Bool Bool stmt_fits body_fits b) (fits-body a) ∙ ap (λ x. stmts_fit a.stmts.items && x) (fits-body b)

by-turn : (f g : Change) (p : Part) (u : Evaluation) → f ≡ g → TurnFits (g p u) → TurnFits (f p u)
by-turn f g p u e h = subst (λ (z : Change). TurnFits (z p u)) (sym e) h

chosen-fits : (b : Bool) (f g : Change) (p : Part) (u : Evaluation) → TurnFits (f p u) → TurnFits (g p u) → TurnFits (choose b f g p u)
chosen-fits true f g p u x y = x
chosen-fits false f g p u x y = y

asked-fits : (t : ComId) (q : Request) (o : Option ℤ) (more : ℤ → Turn) → RequestFits q → MatchOption o ⊤ (λ z. TurnFits (more z)) → TurnFits (asked t q o more)
asked-fits t q None more h k = h
asked-fits t q (Some z) more h k = k

answer-word : (answers : List ℤ) (i : ℕ) → AreWords answers → MatchOption (slice_get answers i) ⊤ IsWord
answer-word answers i h = at (slice_get answers i) refl
  where
    at : (o : Option ℤ) → slice_get answers i ≡ o → MatchOption o ⊤ IsWord
    at None e = tt
    at (Some z) e = all-at IsWord answers i z h e

ready-fits : (t : ComId) (r : Turn) → TurnFits r → TurnFits (ready t r)
ready-fits t (Goes u) h = tt
ready-fits t (Stops r) h = h

part-fits : (t : ComId) (a b : List Stmt) → PlayFit a → PlayFit b → stmts_fit a ≡ true → stmts_fit b ≡ true → (args now : List ℤ) (left : List Done) (p : Part) (u : Evaluation) → AreWords args → AreWords now → AreWords p.answers → EvalFits u → AllByRecursion DoneFits left
    → TurnFits (transaction now t (all_turns args now a) (all_turns args now b) left p u)
part-fits t a b x y ea eb args now (Aborted ∷ left) p u ha hn hp h l = y eb args now p (record u { left = left }) ha hn hp (record { vars = h.vars; few = h.few; locals = h.locals; sends = h.sends; outs = h.outs; left = l.1 })
part-fits t a b x y ea eb args now (Committed answers ∷ left) p u ha hn hp h l =
    x ea args now (record { tcom = t; answers = answers }) (record u { left = left; place = 0 }) ha hn l.0 (record { vars = h.vars; few = h.few; locals = h.locals; sends = h.sends; outs = h.outs; left = l.1 })
part-fits t a b x y ea eb args now [] p u ha hn hp h l =
    ready-fits t (all_turns args now a (record { tcom = t; answers = now }) (record u { place = 0 }))
    (x ea args now (record { tcom = t; answers = now }) (record u { place = 0 }) ha hn hn (record { vars = h.vars; few = h.few; locals = h.locals; sends = h.sends; outs = h.outs; left = h.left }))

needed-fits : (b : Bool) (t : ComId) (line : ℕ) (u : Evaluation) → line < 2 ^ 32 → EvalFits u → TurnFits (cond b (Goes u) (Stops (NeedFails t line)))
needed-fits true t line u lt h = h
needed-fits false t line u lt h = lt

below : (a b : ℕ) → nat_lt a b ≡ true → a < b
below a b e = grind arith

kinds : Kinds PlaysFit
kinds = record {
  set = λ i e ok args now p u ha hn hp h. by-turn (turn args now (stmt.Set i e)) (stmt_turn args now (Set i e)) p u (turn-Set args now i e)
      (record {
        vars = all-set IsWord u.vars i (expr_value args u e) h.vars (expr-word args u e ha h (sym (fits-Set i e) ∙ ok));
        few = subst (λ n. n < 2 ^ 8) (sym (set-long u.vars i (expr_value args u e))) h.few;
        locals = h.locals;
        sends = h.sends;
        outs = h.outs;
        left = h.left;
      });
  send = λ to n es ok args now p u ha hn hp h. by-turn (turn args now (stmt.Send to n es)) (stmt_turn args now (Send to n es)) p u (turn-Send args now to n es)
      (record {
        vars = h.vars;
        few = h.few;
        locals = h.locals;
        sends = all-push SendFits u.sends (record { to = to; handler = n; args = map (operand_value args u) es }) h.sends (operand-words args u es ha h (sym (fits-Send to n es) ∙ ok));
        outs = h.outs;
        left = h.left;
      });
  out = λ to es ok args now p u ha hn hp h.
      let k = sym (fits-Out to es) ∙ ok in
      by-turn (turn args now (stmt.Out to es)) (stmt_turn args now (Out to es)) p u (turn-Out args now to es)
      (record {
        vars = h.vars;
        few = h.few;
        locals = h.locals;
        sends = h.sends;
        outs = all-push OutFits u.outs (record { to = to; args = map (operand_value args u) es }) h.outs (record {
          few = subst (λ m. m ≤ VALUES) (sym (length-map es (operand_value args u))) (at_most (length es) VALUES (front (nat_le (length es) VALUES) (list_all operand_fits es) k));
          args = operand-words args u es ha h (back (nat_le (length es) VALUES) (list_all operand_fits es) k);
        });
        left = h.left;
      });
  choice = λ e a b x y ok args now p u ha hn hp h.
      let k = back (expr_fits e) (stmts_fit a.stmts.items && stmts_fit b.stmts.items) (sym (fits-If e a b) ∙ ok) in
      by-turn (turn args now (stmt.If e a b)) (stmt_turn args now (If e (all_turns args now a.stmts.items) (all_turns args now b.stmts.items))) p u (turn-If args now e a b)
      (chosen-fits (holds (expr_value args u e)) (all_turns args now a.stmts.items) (all_turns args now b.stmts.items) p u
      (all-play a.stmts.items x (front (stmts_fit a.stmts.items) (stmts_fit b.stmts.items) k) args now p u ha hn hp h) (all-play b.stmts.items y (back (stmts_fit a.stmts.items) (stmts_fit b.stmts.items) k) args now p u ha hn hp h));
  part = λ t a b x y ok args now p u ha hn hp h.
      let k = sym (fits-Txn t a b) ∙ ok in
      by-turn (turn args now (stmt.Txn t a b)) (stmt_turn args now (Txn t (all_turns args now a.stmts.items) (all_turns args now b.stmts.items))) p u (turn-Txn args now t a b)
      (part-fits t a.stmts.items b.stmts.items (all-play a.stmts.items x) (all-play b.stmts.items y) (front (stmts_fit a.stmts.items) (stmts_fit b.stmts.items) k) (back (stmts_fit a.stmts.items) (stmts_fit b.stmts.items) k) args now u.left p u ha hn hp h h.left);
  get = λ i key ok args now p u ha hn hp h. by-turn (turn args now (stmt.Get i key)) (stmt_turn args now (Get i key)) p u (turn-Get args now i key)
      (asked-fits p.tcom (AGet key) (slice_get p.answers u.place) (λ v. Goes (record u { locals = u.locals ++ (i, v) ∷ []; place = u.place + 1 })) tt (got i u h (slice_get p.answers u.place) (answer-word p.answers u.place hp)));
  put = λ key e ok args now p u ha hn hp h. by-turn (turn args now (stmt.Put key e)) (stmt_turn args now (Put key e)) p u (turn-Put args now key e)
      (asked-fits p.tcom (APut key (expr_value args u e)) (slice_get p.answers u.place) (λ v. Goes (record u { place = u.place + 1 })) (expr-word args u e ha h (sym (fits-Put key e) ∙ ok)) (wrote u h (slice_get p.answers u.place)));
  need = λ line e ok args now p u ha hn hp h.
      let k = sym (fits-Need line e) ∙ ok in
      by-turn (turn args now (stmt.Need line e)) (stmt_turn args now (Need line e)) p u (turn-Need args now line e) (needed-fits (holds (expr_value args u e)) p.tcom line u (below line (2 ^ 32) (front (nat_lt line (2 ^ 32)) (expr_fits e) k)) h);
}
  where
    got : (i : ℕ) (u : Evaluation) → EvalFits u → (o : Option ℤ) → MatchOption o ⊤ IsWord → MatchOption o ⊤ (λ v. TurnFits (Goes (record u { locals = u.locals ++ (i, v) ∷ []; place = u.place + 1 })))
    got i u h None k = tt
    got i u h (Some v) k = record { vars = h.vars; few = h.few; locals = all-push (λ b. IsWord b.1) u.locals (i, v) h.locals k; sends = h.sends; outs = h.outs; left = h.left }

    wrote : (u : Evaluation) → EvalFits u → (o : Option ℤ) → MatchOption o ⊤ (λ v. TurnFits (Goes (record u { place = u.place + 1 })))
    wrote u h None = tt
    wrote u h (Some v) = record { vars = h.vars; few = h.few; locals = h.locals; sends = h.sends; outs = h.outs; left = h.left }

result-fits : (t : Turn) → TurnFits t → PlayedFits (result_of t)
result-fits (Goes u) h = record { vars = h.vars; few = h.few; sends = h.sends; outs = h.outs }
result-fits (Stops r) h = h

pub play_fits : (program : Program) (c : ComId) (handler : ℕ) (vars args : List ℤ) (done : List Done) (now : List ℤ) → HasBytes program → AreWords vars → length vars < 2 ^ 8 → AreWords args → AllByRecursion DoneFits done → AreWords now → PlayedFits (played program c handler vars args done now)
play_fits program c handler vars args done now bytes hv few ha hd hn =
    let ss : List Stmt = stmts_of (handler_of program c handler) in
    result-fits (all_turns args now ss no_part (start vars done)) (all-play ss (each_of PlaysFit kinds ss) (bytes.handlers c handler) args now no_part (start vars done) ha hn tt (record { vars = hv; few = few; locals = tt; sends = tt; outs = tt; left = hd }))
