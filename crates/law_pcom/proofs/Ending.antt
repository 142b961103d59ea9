-- A part that has asked doesn't end its handling, whatever it is answered.
use Rattle.std.proofs.Common.{◌≡◌, refl, ◌∙◌, ap, sym, subst, ℕ, ℤ, Bool, true, false, cond, List, [], ◌∷◌, slice_get, Option, Some, None}
use Rattle.std.specs.Prelude.{⊤}
use Rattle.std.specs.List.{AllByRecursion}
use Rattle.ic_base.specs.declared.messages.ComId.{ComId}
use Rattle.ic_base.specs.declared.messages.Done.{Done}
use Rattle.ic_base.specs.declared.messages.Done.TheVariants.{Committed, Aborted}
use Rattle.ic_base.specs.declared.messages.Request.{Request}
use Rattle.ic_base.specs.declared.messages.Request.TheVariants.{Get as AGet, Put as APut}
use Rattle.ic_base.specs.declared.messages.Out.{Out as Shown}
use Rattle.ic_base.specs.declared.messages.Send.{Send as Sent}
use Rattle.ic_base.specs.declared.played.Played.{Played}
use Rattle.ic_base.specs.declared.played.Played.TheVariants.{Asks, Ready, NeedFails, Ends}
use Rattle.ic_base.specs.declared.scenario.Program.{Program}
use Rattle.ic_base.specs.declared.scenario.Stmt.{Stmt}
use Rattle.ic_base.specs.declared.scenario.Stmt as stmt
use Rattle.ic_base.specs.declared.scenario.Stmt.TheOpen.{Set, Send, Out, If, Txn, Get, Put, Need}
use Rattle.def_play.specs.Playing.{Evaluation, Part, Turn, Goes, Stops, Change, turn, stmt_turn, and_then, asked, ready, transaction, choose, holds, expr_value, result_of, no_part, start, stmts_of, handler_of}
use Rattle.def_play.proofs.Folds.{all_turns, turn-Set, turn-Get, turn-Txn, turn-If, turn-Send, turn-Out, turn-Put, turn-Need}
use Rattle.law_pcom.specs.Mirroring.{NoPartEnds}
use Rattle.law_replay.proofs.ByKind.{Kinds, each_of}

abbrev NotEnds : Played → Type 0
NotEnds (Ends vars sends outs) = ⊥
NotEnds r = ⊤

-- a turn doesn't stop at an end
abbrev NoEnd : Turn → Type 0
NoEnd (Goes s) = ⊤
NoEnd (Stops r) = NotEnds r

-- a turn goes on where another one does, and stops where it does
abbrev Alike : Turn → Turn → Type 0
Alike (Goes s) u = u ≡ Goes s
Alike (Stops r) u = (x : Played) × (u ≡ Stops x) × NotEnds x

-- with any answers a statement doesn't stop at an end, and stops where it does without
record Halts (s : Stmt) : Type 0 where
  no_end : (args now : List ℤ) (p : Part) (c : Evaluation) → NoEnd (turn args now s p c)
  alike : (args now : List ℤ) (p : Part) (c : Evaluation) → Alike (turn args [] s p c) (turn args now s p c)

then-no-end : (u : Turn) (more : Evaluation → Turn) → NoEnd u → ((c : Evaluation) → NoEnd (more c)) → NoEnd (and_then u more)
then-no-end (Goes s) more x y = y s
then-no-end (Stops r) more x y = x

then-alike : (u v : Turn) (more later : Evaluation → Turn) → Alike u v → ((c : Evaluation) → Alike (more c) (later c)) → Alike (and_then u more) (and_then v later)
then-alike (Goes s) v more later x y = subst (λ w. Alike (more s) (and_then w later)) (sym x) (y s)
then-alike (Stops r) v more later x y = (x.0, ap (λ w. and_then w later) x.1, x.2)

all-no-end : (ss : List Stmt) → AllByRecursion Halts ss → (args now : List ℤ) (p : Part) (c : Evaluation) → NoEnd (all_turns args now ss p c)
all-no-end [] h args now p c = tt
all-no-end (s ∷ ss) h args now p c = then-no-end (turn args now s p c) (all_turns args now ss p) (h.0.no_end args now p c) (λ x. all-no-end ss h.1 args now p x)

all-alike : (ss : List Stmt) → AllByRecursion Halts ss → (args now : List ℤ) (p : Part) (c : Evaluation) → Alike (all_turns args [] ss p c) (all_turns args now ss p c)
all-alike [] h args now p c = refl
all-alike (s ∷ ss) h args now p c = then-alike (turn args [] s p c) (turn args now s p c) (all_turns args [] ss p) (all_turns args now ss p) (h.0.alike args now p c) (λ x. all-alike ss h.1 args now p x)

-- by what a statement does
halts : (s : Stmt) (f : List ℤ → List ℤ → Change) → ((args now : List ℤ) → turn args now s ≡ f args now) → ((args now : List ℤ) (p : Part) (c : Evaluation) → NoEnd (f args now p c)) → ((args now : List ℤ) (p : Part) (c : Evaluation) → Alike (f args [] p c) (f args now p c)) → Halts s
halts s f is x y = record {
  no_end = λ args now p c. subst (λ g. NoEnd (g p c)) (sym (is args now)) (x args now p c);
  alike = λ args now p c. subst (λ g. Alike (g p c) (turn args now s p c)) (sym (is args [])) (subst (λ g. Alike (f args [] p c) (g p c)) (sym (is args now)) (y args now p c));
}

asked-no-end : (t : ComId) (q : Request) (o : Option ℤ) (more : ℤ → Evaluation) → NoEnd (asked t q o (λ v. Goes (more v)))
asked-no-end t q None more = tt
asked-no-end t q (Some v) more = tt

asked-alike : (t : ComId) (q : Request) (o : Option ℤ) (more : ℤ → Evaluation) → Alike (asked t q o (λ v. Goes (more v))) (asked t q o (λ v. Goes (more v)))
asked-alike t q None more = (Asks t q, refl, tt)
asked-alike t q (Some v) more = refl

ready-no-end : (t : ComId) (u : Turn) → NoEnd u → NoEnd (ready t u)
ready-no-end t (Goes s) x = tt
ready-no-end t (Stops r) x = x

-- both stop
ready-alike : (t : ComId) (u v : Turn) → NoEnd v → Alike (ready t u) (ready t v)
ready-alike t (Goes s) (Goes z) x = (Ready t, refl, tt)
ready-alike t (Goes s) (Stops r) x = (r, refl, x)
ready-alike t (Stops q) (Goes z) x = (Ready t, refl, tt)
ready-alike t (Stops q) (Stops r) x = (r, refl, x)

needs-no-end : (b : Bool) (c : Evaluation) (t : ComId) (line : ℕ) → NoEnd (cond b (Goes c) (Stops (NeedFails t line)))
needs-no-end true c t line = tt
needs-no-end false c t line = tt

needs-alike : (b : Bool) (c : Evaluation) (t : ComId) (line : ℕ) → Alike (cond b (Goes c) (Stops (NeedFails t line))) (cond b (Goes c) (Stops (NeedFails t line)))
needs-alike true c t line = refl
needs-alike false c t line = (NeedFails t line, refl, tt)

choice-no-end : (b : Bool) (f g : Change) (p : Part) (c : Evaluation) → NoEnd (f p c) → NoEnd (g p c) → NoEnd (choose b f g p c)
choice-no-end true f g p c x y = x
choice-no-end false f g p c x y = y

choice-alike : (b : Bool) (f g h k : Change) (p : Part) (c : Evaluation) → Alike (f p c) (h p c) → Alike (g p c) (k p c) → Alike (choose b f g p c) (choose b h k p c)
choice-alike true f g h k p c x y = x
choice-alike false f g h k p c x y = y

part-no-end : (a b : List Stmt) → AllByRecursion Halts a → AllByRecursion Halts b → (args now : List ℤ) (t : ComId) (left : List Done) (p : Part) (c : Evaluation) → NoEnd (transaction now t (all_turns args now a) (all_turns args now b) left p c)
part-no-end a b x y args now t [] p c = ready-no-end t (all_turns args now a (record { tcom = t; answers = now }) (record c { place = 0 })) (all-no-end a x args now (record { tcom = t; answers = now }) (record c { place = 0 }))
part-no-end a b x y args now t (Aborted ∷ left) p c = all-no-end b y args now p (record c { left = left })
part-no-end a b x y args now t (Committed answers ∷ left) p c = all-no-end a x args now (record { tcom = t; answers = answers }) (record c { left = left; place = 0 })

part-alike : (a b : List Stmt) → AllByRecursion Halts a → AllByRecursion Halts b → (args now : List ℤ) (t : ComId) (left : List Done) (p : Part) (c : Evaluation) → Alike (transaction [] t (all_turns args [] a) (all_turns args [] b) left p c) (transaction now t (all_turns args now a) (all_turns args now b) left p c)
part-alike a b x y args now t [] p c = ready-alike t (all_turns args [] a (record { tcom = t; answers = [] }) (record c { place = 0 })) (all_turns args now a (record { tcom = t; answers = now }) (record c { place = 0 })) (all-no-end a x args now (record { tcom = t; answers = now }) (record c { place = 0 }))
part-alike a b x y args now t (Aborted ∷ left) p c = all-alike b y args now p (record c { left = left })
part-alike a b x y args now t (Committed answers ∷ left) p c = all-alike a x args now (record { tcom = t; answers = answers }) (record c { left = left; place = 0 })

kinds : Kinds Halts
kinds = record {
  set = λ i e. halts (stmt.Set i e) (λ args now. stmt_turn args now (Set i e)) (λ args now. turn-Set args now i e) (λ args now p c. tt) (λ args now p c. refl);
  send = λ to h es. halts (stmt.Send to h es) (λ args now. stmt_turn args now (Send to h es)) (λ args now. turn-Send args now to h es) (λ args now p c. tt) (λ args now p c. refl);
  out = λ to es. halts (stmt.Out to es) (λ args now. stmt_turn args now (Out to es)) (λ args now. turn-Out args now to es) (λ args now p c. tt) (λ args now p c. refl);
  choice = λ e a b x y. halts (stmt.If e a b) (λ args now. stmt_turn args now (If e (all_turns args now a.stmts.items) (all_turns args now b.stmts.items))) (λ args now. turn-If args now e a b)
      (λ args now p c. choice-no-end (holds (expr_value args c e)) (all_turns args now a.stmts.items) (all_turns args now b.stmts.items) p c (all-no-end a.stmts.items x args now p c) (all-no-end b.stmts.items y args now p c))
      (λ args now p c. choice-alike (holds (expr_value args c e)) (all_turns args [] a.stmts.items) (all_turns args [] b.stmts.items) (all_turns args now a.stmts.items) (all_turns args now b.stmts.items) p c (all-alike a.stmts.items x args now p c) (all-alike b.stmts.items y args now p c));
  part = λ t a b x y. halts (stmt.Txn t a b) (λ args now. stmt_turn args now (Txn t (all_turns args now a.stmts.items) (all_turns args now b.stmts.items))) (λ args now. turn-Txn args now t a b)
      (λ args now p c. part-no-end a.stmts.items b.stmts.items x y args now t c.left p c) (λ args now p c. part-alike a.stmts.items b.stmts.items x y args now t c.left p c);
  get = λ i key. halts (stmt.Get i key) (λ args now. stmt_turn args now (Get i key)) (λ args now. turn-Get args now i key) (λ args now p c. asked-no-end p.tcom (AGet key) (slice_get p.answers c.place) _) (λ args now p c. asked-alike p.tcom (AGet key) (slice_get p.answers c.place) _);
  put = λ key e. halts (stmt.Put key e) (λ args now. stmt_turn args now (Put key e)) (λ args now. turn-Put args now key e) (λ args now p c. asked-no-end p.tcom (APut key (expr_value args c e)) (slice_get p.answers c.place) _) (λ args now p c. asked-alike p.tcom (APut key (expr_value args c e)) (slice_get p.answers c.place) _);
  need = λ line e. halts (stmt.Need line e) (λ args now. stmt_turn args now (Need line e)) (λ args now. turn-Need args now line e) (λ args now p c. needs-no-end (holds (expr_value args c e)) c p.tcom line) (λ args now p c. needs-alike (holds (expr_value args c e)) c p.tcom line);
}

ends-nowhere : (u v : Turn) (t : ComId) (q : Request) (last : List ℤ) (sends : List Sent) (outs : List Shown) → Alike u v → result_of u ≡ Asks t q → result_of v ≡ Ends last sends outs → ⊥
ends-nowhere (Goes s) v t q last sends outs x e f = cc
ends-nowhere (Stops r) v t q last sends outs x e f = not_end x.0 x.2 (sym (ap result_of x.1) ∙ f)
  where
    not_end : (z : Played) → NotEnds z → z ≡ Ends last sends outs → ⊥
    not_end (Ends a b d) y k = y
    not_end (Asks a b) y k = cc
    not_end (Ready a) y k = cc
    not_end (NeedFails a b) y k = cc

pub no_part_ends : (program : Program) → NoPartEnds program
no_part_ends program c vars hand t q now last sends outs e f =
    let ss = stmts_of (handler_of program c hand.handler) in
    ends-nowhere (all_turns hand.args [] ss no_part (start vars hand.done)) (all_turns hand.args now ss no_part (start vars hand.done)) t q last sends outs (all-alike ss (each_of Halts kinds ss) hand.args now no_part (start vars hand.done)) e f
