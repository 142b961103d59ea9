-- Whether a play comes to the end of its handler doesn't depend on the answers to the open transaction.
use Rattle.std.proofs.Common.{◌≡◌, refl, sym, subst, ℕ, ℤ, Bool, true, false, cond, List, [], ◌∷◌, map, slice_get, Option, Some, None}
use Rattle.std.specs.Prelude.{⊤}
use Rattle.std.specs.List.{AllByRecursion}
use Rattle.ic_base.specs.declared.messages.ComId.{ComId}
use Rattle.ic_base.specs.declared.messages.Done.{Done}
use Rattle.ic_base.specs.declared.messages.Done.TheVariants.{Committed, Aborted}
use Rattle.ic_base.specs.declared.messages.Request.{Request}
use Rattle.ic_base.specs.declared.messages.Request.TheVariants.{Get as AGet, Put as APut}
use Rattle.ic_base.specs.declared.played.Played.{Played}
use Rattle.ic_base.specs.declared.played.Played.TheVariants.{Asks, Ready, NeedFails, Ends}
use Rattle.ic_base.specs.declared.scenario.Stmt.{Stmt}
use Rattle.ic_base.specs.declared.scenario.Stmt as stmt
use Rattle.ic_base.specs.declared.scenario.Stmt.TheOpen.{Set, Send, Out, Get, Put, Need}
use Rattle.ic_base.specs.declared.scenario.Program.{Program}
use Rattle.def_play.specs.Playing.{Evaluation, Part, Turn, Goes, Stops, Change, turn, stmt_turn, in_turn, and_then, asked, ready, transaction, choose, holds, expr_value, no_part, start, result_of, played, stmts_of, handler_of}
use Rattle.def_play.proofs.Folds.{turn-Set, turn-Send, turn-Out, turn-If, turn-Txn, turn-Get, turn-Put, turn-Need, all_turns}
use Rattle.law_replay.proofs.ByKind.{Kinds, each_of}

-- a play that stops before the handler's end
abbrev pub IsStop : Played → Type 0
IsStop (Ends vars sends outs) = ⊥
IsStop (Asks t q) = ⊤
IsStop (Ready t) = ⊤
IsStop (NeedFails t line) = ⊤

-- both go on alike, or both stop before the end
abbrev Alike : Turn → Turn → Type 0
Alike (Goes s) (Goes t) = s ≡ t
Alike (Goes s) (Stops b) = ⊥
Alike (Stops a) (Goes t) = ⊥
Alike (Stops a) (Stops b) = IsStop a × IsStop b

then-alike : (t u : Turn) (f g : Evaluation → Turn) → Alike t u → ((s : Evaluation) → Alike (f s) (g s)) → Alike (and_then t f) (and_then u g)
then-alike (Goes s) (Goes t) f g e h = subst (λ z. Alike (f s) (g z)) e (h s)
then-alike (Goes s) (Stops b) f g e h = absurd e
then-alike (Stops a) (Goes t) f g e h = absurd e
then-alike (Stops a) (Stops b) f g e h = e

abbrev PlaysAlike : Stmt → Type 0
PlaysAlike s = (args now other : List ℤ) (p : Part) (c : Evaluation) → Alike (turn args now s p c) (turn args other s p c)

abbrev PlayAlike : List Stmt → Type 0
PlayAlike ss = (args now other : List ℤ) (p : Part) (c : Evaluation) → Alike (all_turns args now ss p c) (all_turns args other ss p c)

all-alike : (ss : List Stmt) → AllByRecursion PlaysAlike ss → PlayAlike ss
all-alike [] h args now other p c = refl
all-alike (s ∷ ss) h args now other p c =
    then-alike (turn args now s p c) (turn args other s p c) (in_turn (map (turn args now) ss) p) (in_turn (map (turn args other) ss) p) (h.0 args now other p c) (λ z. all-alike ss h.1 args now other p z)

-- by what the statements make
by-turns : (f g f2 g2 : Change) (p : Part) (c : Evaluation) → f ≡ f2 → g ≡ g2 → Alike (f2 p c) (g2 p c) → Alike (f p c) (g p c)
by-turns f g f2 g2 p c e d h = subst (λ (z : Change). Alike (z p c) (g p c)) (sym e) (subst (λ (z : Change). Alike (f2 p c) (z p c)) (sym d) h)

asked-alike : (t : ComId) (q : Request) (o : Option ℤ) (f : ℤ → Evaluation) → Alike (asked t q o (λ v. Goes (f v))) (asked t q o (λ v. Goes (f v)))
asked-alike t q None f = (tt, tt)
asked-alike t q (Some v) f = refl

chosen-alike : (b : Bool) (f g f2 g2 : Change) (p : Part) (c : Evaluation) → Alike (f p c) (f2 p c) → Alike (g p c) (g2 p c) → Alike (choose b f g p c) (choose b f2 g2 p c)
chosen-alike true f g f2 g2 p c x y = x
chosen-alike false f g f2 g2 p c x y = y

needed-alike : (b : Bool) (t : ComId) (line : ℕ) (c : Evaluation) → Alike (cond b (Goes c) (Stops (NeedFails t line))) (cond b (Goes c) (Stops (NeedFails t line)))
needed-alike true t line c = refl
needed-alike false t line c = (tt, tt)

-- the end of an open part is a stop
both-ready : (t : ComId) (r r2 u u2 : Turn) → Alike r r2 → Alike u u2 → Alike (ready t r) (ready t u)
both-ready t (Goes s) r2 (Goes v) u2 x y = (tt, tt)
both-ready t (Goes s) r2 (Stops b) (Goes v) x y = absurd y
both-ready t (Goes s) r2 (Stops b) (Stops d) x y = (tt, y.0)
both-ready t (Stops a) (Goes z) u u2 x y = absurd x
both-ready t (Stops a) (Stops z) (Goes v) u2 x y = (x.0, tt)
both-ready t (Stops a) (Stops z) (Stops b) (Goes v) x y = absurd y
both-ready t (Stops a) (Stops z) (Stops b) (Stops d) x y = (x.0, y.0)

part-alike : (t : ComId) (a b : List Stmt) → PlayAlike a → PlayAlike b → (args now other : List ℤ) (left : List Done) (p : Part) (c : Evaluation)
    → Alike (transaction now t (all_turns args now a) (all_turns args now b) left p c) (transaction other t (all_turns args other a) (all_turns args other b) left p c)
part-alike t a b x y args now other (Aborted ∷ left) p c = y args now other p (record c { left = left })
part-alike t a b x y args now other (Committed answers ∷ left) p c = x args now other (record { tcom = t; answers = answers }) (record c { left = left; place = 0 })
part-alike t a b x y args now other [] p c =
    let at : Part = record { tcom = t; answers = now } in
    let on : Part = record { tcom = t; answers = other } in
    let s : Evaluation = record c { place = 0 } in
    both-ready t (all_turns args now a at s) (all_turns args other a at s) (all_turns args other a on s) (all_turns args now a on s) (x args now other at s) (x args other now on s)

kinds : Kinds PlaysAlike
kinds = record {
  set = λ i e args now other p c. by-turns (turn args now (stmt.Set i e)) (turn args other (stmt.Set i e)) (stmt_turn args now (Set i e)) (stmt_turn args other (Set i e)) p c (turn-Set args now i e) (turn-Set args other i e) refl;
  send = λ to h es args now other p c. by-turns (turn args now (stmt.Send to h es)) (turn args other (stmt.Send to h es)) (stmt_turn args now (Send to h es)) (stmt_turn args other (Send to h es)) p c (turn-Send args now to h es) (turn-Send args other to h es) refl;
  out = λ to es args now other p c. by-turns (turn args now (stmt.Out to es)) (turn args other (stmt.Out to es)) (stmt_turn args now (Out to es)) (stmt_turn args other (Out to es)) p c (turn-Out args now to es) (turn-Out args other to es) refl;
  choice = λ e a b x y args now other p c.
      subst (λ (z : Change). Alike (z p c) (turn args other (stmt.If e a b) p c)) (sym (turn-If args now e a b))
      (subst (λ (z : Change). Alike (choose (holds (expr_value args c e)) (all_turns args now a.stmts.items) (all_turns args now b.stmts.items) p c) (z p c)) (sym (turn-If args other e a b))
      (chosen-alike (holds (expr_value args c e)) (all_turns args now a.stmts.items) (all_turns args now b.stmts.items) (all_turns args other a.stmts.items) (all_turns args other b.stmts.items) p c (all-alike a.stmts.items x args now other p c) (all-alike b.stmts.items y args now other p c)));
  part = λ t a b x y args now other p c.
      subst (λ (z : Change). Alike (z p c) (turn args other (stmt.Txn t a b) p c)) (sym (turn-Txn args now t a b))
      (subst (λ (z : Change). Alike (transaction now t (all_turns args now a.stmts.items) (all_turns args now b.stmts.items) c.left p c) (z p c)) (sym (turn-Txn args other t a b))
      (part-alike t a.stmts.items b.stmts.items (all-alike a.stmts.items x) (all-alike b.stmts.items y) args now other c.left p c));
  get = λ i key args now other p c. by-turns (turn args now (stmt.Get i key)) (turn args other (stmt.Get i key)) (stmt_turn args now (Get i key)) (stmt_turn args other (Get i key)) p c (turn-Get args now i key) (turn-Get args other i key) (asked-alike p.tcom (AGet key) (slice_get p.answers c.place) _);
  put = λ key e args now other p c. by-turns (turn args now (stmt.Put key e)) (turn args other (stmt.Put key e)) (stmt_turn args now (Put key e)) (stmt_turn args other (Put key e)) p c (turn-Put args now key e) (turn-Put args other key e) (asked-alike p.tcom (APut key (expr_value args c e)) (slice_get p.answers c.place) _);
  need = λ line e args now other p c. by-turns (turn args now (stmt.Need line e)) (turn args other (stmt.Need line e)) (stmt_turn args now (Need line e)) (stmt_turn args other (Need line e)) p c (turn-Need args now line e) (turn-Need args other line e) (needed-alike (holds (expr_value args c e)) p.tcom line c);
}

ended-alike : (t u : Turn) → Alike t u → IsStop (result_of t) → IsStop (result_of u)
ended-alike (Goes s) (Goes v) e stop = absurd stop
ended-alike (Goes s) (Stops b) e stop = absurd e
ended-alike (Stops a) (Goes v) e stop = absurd e
ended-alike (Stops a) (Stops b) e stop = e.1

-- a play that stops before the end with some answers stops so with any others
pub stops_with : (program : Program) (c : ComId) (h : ℕ) (vars args : List ℤ) (done : List Done) (now other : List ℤ) → IsStop (played program c h vars args done now) → IsStop (played program c h vars args done other)
stops_with program c h vars args done now other stop =
    let ss : List Stmt = stmts_of (handler_of program c h) in
    ended-alike (all_turns args now ss no_part (start vars done)) (all_turns args other ss no_part (start vars done)) (all-alike ss (each_of PlaysAlike kinds ss) args now other no_part (start vars done)) stop
