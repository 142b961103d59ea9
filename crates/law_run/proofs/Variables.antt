-- A Pcom has as many variables as it began with, whatever it plays.
use Rattle.std.proofs.Common.{◌≡◌, refl, ◌∙◌, sym, subst, ℕ, ◌+◌, Bool, true, false, cond, ℤ, List, [], ◌∷◌, ◌++◌, map, length, slice_get, Option, Some, None}
use Rattle.std.specs.Prelude.{⊤}
use Rattle.std.specs.List.{AllByRecursion}
use Rattle.ic_base.specs.declared.messages.ComId.{ComId}
use Rattle.ic_base.specs.declared.messages.Done.{Done}
use Rattle.ic_base.specs.declared.messages.Done.TheVariants.{Committed, Aborted}
use Rattle.ic_base.specs.declared.messages.Request.{Request}
use Rattle.ic_base.specs.declared.messages.Request.TheVariants.{Get as AGet, Put as APut}
use Rattle.ic_base.specs.declared.played.Played.{Played}
use Rattle.ic_base.specs.declared.played.Played.TheVariants.{Asks, Ready, NeedFails, Ends}
use Rattle.ic_base.specs.declared.scenario.Program.{Program}
use Rattle.ic_base.specs.declared.scenario.Stmt.{Stmt}
use Rattle.ic_base.specs.declared.scenario.Stmt as stmt
use Rattle.ic_base.specs.declared.scenario.Stmt.TheOpen.{Set, Send, Out, If, Txn, Get, Put, Need}
use Rattle.def_play.specs.Playing.{Evaluation, Part, Turn, Goes, Stops, Change, expr_value, holds, choose, and_then, in_turn, asked, ready, transaction, stmt_turn, turn, no_part, start, result_of, played, stmts_of, handler_of}
use Rattle.def_play.proofs.Folds.{all_turns, turn-Set, turn-Send, turn-Out, turn-If, turn-Txn, turn-Get, turn-Put, turn-Need}
use Rattle.def_plain.specs.declared.world.InHand.{InHand}
use Rattle.def_plain.specs.declared.world.PlainPcom.{PlainPcom}
use Rattle.def_plain.specs.Cell.{Touch, TakesMessage, TakesInput, SeesAbort, SeesCommit, cell_step, come_to, plays_on, hand_played, new_in_hand, transaction_ends}
use Rattle.law_replay.proofs.ByKind.{Kinds, each_of}
use Rattle.law_replay.proofs.Lists.{none-some, provided-is}
use Rattle.law_step.proofs.Nodes.{set-long}

-- plays -------------------------------------------------------------------------------------------

-- a handling that ends leaves so many
abbrev HasVars : ℕ → Played → Type 0
HasVars n (Ends vars sends outs) = length vars ≡ n
HasVars n (Asks t q) = ⊤
HasVars n (Ready t) = ⊤
HasVars n (NeedFails t line) = ⊤

abbrev TurnHas : ℕ → Turn → Type 0
TurnHas n (Goes u) = length u.vars ≡ n
TurnHas n (Stops r) = HasVars n r

abbrev PlayHas : Stmt → Type 0
PlayHas s = (n : ℕ) (args now : List ℤ) (p : Part) (u : Evaluation) → length u.vars ≡ n → TurnHas n (turn args now s p u)

abbrev PlaysHave : List Stmt → Type 0
PlaysHave ss = (n : ℕ) (args now : List ℤ) (p : Part) (u : Evaluation) → length u.vars ≡ n → TurnHas n (all_turns args now ss p u)

then-has : (n : ℕ) (t : Turn) (more : Evaluation → Turn) → TurnHas n t → ((u : Evaluation) → length u.vars ≡ n → TurnHas n (more u)) → TurnHas n (and_then t more)
then-has n (Goes u) more h k = k u h
then-has n (Stops r) more h k = h

all-have : (ss : List Stmt) → AllByRecursion PlayHas ss → PlaysHave ss
all-have [] h n args now p u x = x
all-have (s ∷ ss) h n args now p u x = then-has n (turn args now s p u) (in_turn (map (turn args now) ss) p) (h.0 n args now p u x) (λ v y. all-have ss h.1 n args now p v y)

by-turn : (n : ℕ) (f g : Change) (p : Part) (u : Evaluation) → f ≡ g → TurnHas n (g p u) → TurnHas n (f p u)
by-turn n f g p u e h = subst (λ (z : Change). TurnHas n (z p u)) (sym e) h

chosen-has : (n : ℕ) (b : Bool) (f g : Change) (p : Part) (u : Evaluation) → TurnHas n (f p u) → TurnHas n (g p u) → TurnHas n (choose b f g p u)
chosen-has n true f g p u x y = x
chosen-has n false f g p u x y = y

asked-has : (n : ℕ) (t : ComId) (q : Request) (o : Option ℤ) (more : ℤ → Turn) → ((z : ℤ) → TurnHas n (more z)) → TurnHas n (asked t q o more)
asked-has n t q None more h = tt
asked-has n t q (Some z) more h = h z

ready-has : (n : ℕ) (t : ComId) (r : Turn) → TurnHas n r → TurnHas n (ready t r)
ready-has n t (Goes u) h = tt
ready-has n t (Stops r) h = h

part-has : (n : ℕ) (t : ComId) (a b : List Stmt) → PlaysHave a → PlaysHave b → (args now : List ℤ) (left : List Done) (p : Part) (u : Evaluation) → length u.vars ≡ n → TurnHas n (transaction now t (all_turns args now a) (all_turns args now b) left p u)
part-has n t a b x y args now (Aborted ∷ left) p u h = y n args now p (record u { left = left }) h
part-has n t a b x y args now (Committed answers ∷ left) p u h = x n args now (record { tcom = t; answers = answers }) (record u { left = left; place = 0 }) h
part-has n t a b x y args now [] p u h = ready-has n t (all_turns args now a (record { tcom = t; answers = now }) (record u { place = 0 })) (x n args now (record { tcom = t; answers = now }) (record u { place = 0 }) h)

needed-has : (n : ℕ) (b : Bool) (t : ComId) (line : ℕ) (u : Evaluation) → length u.vars ≡ n → TurnHas n (cond b (Goes u) (Stops (NeedFails t line)))
needed-has n true t line u h = h
needed-has n false t line u h = tt

kinds : Kinds PlayHas
kinds = record {
  set = λ i e n args now p u x. by-turn n (turn args now (stmt.Set i e)) (stmt_turn args now (Set i e)) p u (turn-Set args now i e) (set-long u.vars i (expr_value args u e) ∙ x);
  send = λ to h es n args now p u x. by-turn n (turn args now (stmt.Send to h es)) (stmt_turn args now (Send to h es)) p u (turn-Send args now to h es) x;
  out = λ to es n args now p u x. by-turn n (turn args now (stmt.Out to es)) (stmt_turn args now (Out to es)) p u (turn-Out args now to es) x;
  choice = λ e a b x y n args now p u h.
      by-turn n (turn args now (stmt.If e a b)) (stmt_turn args now (If e (all_turns args now a.stmts.items) (all_turns args now b.stmts.items))) p u (turn-If args now e a b)
      (chosen-has n (holds (expr_value args u e)) (all_turns args now a.stmts.items) (all_turns args now b.stmts.items) p u (all-have a.stmts.items x n args now p u h) (all-have b.stmts.items y n args now p u h));
  part = λ t a b x y n args now p u h.
      by-turn n (turn args now (stmt.Txn t a b)) (stmt_turn args now (Txn t (all_turns args now a.stmts.items) (all_turns args now b.stmts.items))) p u (turn-Txn args now t a b)
      (part-has n t a.stmts.items b.stmts.items (all-have a.stmts.items x) (all-have b.stmts.items y) args now u.left p u h);
  get = λ i key n args now p u x.
      by-turn n (turn args now (stmt.Get i key)) (stmt_turn args now (Get i key)) p u (turn-Get args now i key)
      (asked-has n p.tcom (AGet key) (slice_get p.answers u.place) (λ v. Goes (record u { locals = u.locals ++ (i, v) ∷ []; place = u.place + 1 })) (λ v. x));
  put = λ key e n args now p u x.
      by-turn n (turn args now (stmt.Put key e)) (stmt_turn args now (Put key e)) p u (turn-Put args now key e)
      (asked-has n p.tcom (APut key (expr_value args u e)) (slice_get p.answers u.place) (λ v. Goes (record u { place = u.place + 1 })) (λ v. x));
  need = λ line e n args now p u x. by-turn n (turn args now (stmt.Need line e)) (stmt_turn args now (Need line e)) p u (turn-Need args now line e) (needed-has n (holds (expr_value args u e)) p.tcom line u x);
}

result-has : (n : ℕ) (t : Turn) → TurnHas n t → HasVars n (result_of t)
result-has n (Goes u) h = h
result-has n (Stops r) h = h

play-has : (program : Program) (c : ComId) (handler : ℕ) (vars args : List ℤ) (done : List Done) (now : List ℤ) → HasVars (length vars) (played program c handler vars args done now)
play-has program c handler vars args done now =
    let ss : List Stmt = stmts_of (handler_of program c handler) in
    result-has (length vars) (all_turns args now ss no_part (start vars done)) (all-have ss (each_of PlayHas kinds ss) (length vars) args now no_part (start vars done) refl)

-- cells -------------------------------------------------------------------------------------------

come-has : (p : PlainPcom) (r : Played) → HasVars (length p.vars) r → length (come_to p r).vars ≡ length p.vars
come-has p (Ends vars sends outs) h = h
come-has p (Asks t q) h = refl
come-has p (Ready t) h = refl
come-has p (NeedFails t line) h = refl

plays-have : (program : Program) (c : ComId) (p : PlainPcom) (hand : InHand) → length (plays_on program c p hand).vars ≡ length p.vars
plays-have program c p hand = come-has (record p { hand = Some hand }) (hand_played program c p hand []) (play-has program c hand.handler p.vars hand.args hand.done [])

ends-have : (program : Program) (c : ComId) (p q : PlainPcom) (n : ℕ) (d : Done) (o : Option InHand) → transaction_ends program c p n d o ≡ Some q → length q.vars ≡ length p.vars
ends-have program c p q n d None e = none-some q e
ends-have program c p q n d (Some hand) e = subst (λ (z : PlainPcom). length z.vars ≡ length p.vars) (provided-is _ _ q e) (plays-have program c p (record hand { done = hand.done ++ d ∷ [] }))

pub cell-vars : (program : Program) (c : ComId) (p q : PlainPcom) (t : Touch) → cell_step program c p t ≡ Some q → length q.vars ≡ length p.vars
cell-vars program c p q (TakesMessage s k handler args) e = subst (λ (z : PlainPcom). length z.vars ≡ length p.vars) (provided-is _ _ q e) (plays-have program c (record p { receipts = p.receipts ++ (s, k) ∷ [] }) (new_in_hand handler args))
cell-vars program c p q (TakesInput handler args) e = subst (λ (z : PlainPcom). length z.vars ≡ length p.vars) (provided-is _ _ q e) (plays-have program c p (new_in_hand handler args))
cell-vars program c p q (SeesAbort n) e = ends-have program c p q n Aborted p.hand e
cell-vars program c p q (SeesCommit n answers) e = ends-have program c p q n (Committed answers) p.hand e
