-- A part in which no transaction stands stays on its Tcom.
use Rattle.std.proofs.Common.{◌≡◌, refl, ◌∙◌, ap, sym, subst, ℕ, ℤ, Bool, true, false, cond, ◌&&◌, List, [], ◌∷◌, slice_get, Option, Some, None}
use Rattle.std.specs.Prelude.{⊤}
use Rattle.std.specs.List.{AllByRecursion}
use Rattle.std.proofs.lemmas.Bool.{and_parts}
use Rattle.ic_base.specs.declared.messages.ComId.{ComId}
use Rattle.ic_base.specs.declared.messages.Done.{Done}
use Rattle.ic_base.specs.declared.messages.Done.TheVariants.{Committed, Aborted}
use Rattle.ic_base.specs.declared.messages.Request.{Request}
use Rattle.ic_base.specs.declared.messages.Request.TheVariants.{Get as AGet, Put as APut}
use Rattle.ic_base.specs.declared.played.Played.{Played}
use Rattle.ic_base.specs.declared.played.Played.TheVariants.{Asks, Ready, NeedFails}
use Rattle.ic_base.specs.declared.scenario.Body.{Body}
use Rattle.ic_base.specs.declared.scenario.Expr.{Expr}
use Rattle.ic_base.specs.declared.scenario.Stmt.{Stmt}
use Rattle.ic_base.specs.declared.scenario.Stmt as stmt
use Rattle.ic_base.specs.declared.scenario.Stmt.TheOpen.{Set, Send, Out, If, Txn, Get, Put, Need}
use Rattle.def_play.specs.Playing.{Evaluation, Part, Turn, Goes, Stops, Change, turn, stmt_turn, and_then, asked, ready, transaction, choose, holds, expr_value, result_of, no_part, start, stmts_of, handler_of}
use Rattle.def_play.proofs.Folds.{all_turns, turn-Set, turn-Get, turn-Txn, turn-If, turn-Send, turn-Out, turn-Put, turn-Need}
use Rattle.law_pcom.specs.Pending.{StaysOn}
use Rattle.def_facts.specs.Flat.{flat, all_flat}
use Rattle.law_replay.proofs.FlatShapes.{flat-If, flat-Txn}
use Rattle.law_pcom.specs.Flat.{FlatPartsStay}
use Rattle.law_replay.proofs.ByKind.{Kinds, each_of}
use Rattle.law_replay.proofs.Lists.{true-false}

-- a turn within a part
abbrev On : ComId → Turn → Type 0
On t (Goes s) = ⊤
On t (Stops r) = StaysOn t r

-- a turn goes on where another one does; where that asks, it stays there
abbrev Alike : Turn → Turn → Type 0
Alike (Goes s) u = u ≡ Goes s
Alike (Stops r) u = (x : Played) × (u ≡ Stops x) × ((t : ComId) (q : Request) → r ≡ Asks t q → StaysOn t x)

record Stays (s : Stmt) : Type 0 where
  inner : (flat s).0 ≡ true → (args now : List ℤ) (p : Part) (c : Evaluation) → On p.tcom (turn args now s p c)
  outer : (flat s).1 ≡ true → (args now : List ℤ) (p : Part) (c : Evaluation) → Alike (turn args [] s p c) (turn args now s p c)

same-alike : (u : Turn) → Alike u u
same-alike (Goes s) = refl
same-alike (Stops r) = (r, refl, λ t q e. subst (StaysOn t) (sym e) refl)

then-on : (t : ComId) (u : Turn) (more : Evaluation → Turn) → On t u → ((c : Evaluation) → On t (more c)) → On t (and_then u more)
then-on t (Goes s) more x y = y s
then-on t (Stops r) more x y = x

then-alike : (u v : Turn) (more later : Evaluation → Turn) → Alike u v → ((c : Evaluation) → Alike (more c) (later c)) → Alike (and_then u more) (and_then v later)
then-alike (Goes s) v more later x y = subst (λ w. Alike (more s) (and_then w later)) (sym x) (y s)
then-alike (Stops r) v more later x y = (x.0, ap (λ w. and_then w later) x.1, x.2)

all-on : (ss : List Stmt) → AllByRecursion Stays ss → (all_flat ss).0 ≡ true → (args now : List ℤ) (p : Part) (c : Evaluation) → On p.tcom (all_turns args now ss p c)
all-on [] h e args now p c = tt
all-on (s ∷ ss) h e args now p c =
    let b = and_parts (flat s).0 (all_flat ss).0 e in
    then-on p.tcom (turn args now s p c) (all_turns args now ss p) (h.0.inner b.0 args now p c) (λ x. all-on ss h.1 b.1 args now p x)

all-alike : (ss : List Stmt) → AllByRecursion Stays ss → (all_flat ss).1 ≡ true → (args now : List ℤ) (p : Part) (c : Evaluation) → Alike (all_turns args [] ss p c) (all_turns args now ss p c)
all-alike [] h e args now p c = refl
all-alike (s ∷ ss) h e args now p c =
    let b = and_parts (flat s).1 (all_flat ss).1 e in
    then-alike (turn args [] s p c) (turn args now s p c) (all_turns args [] ss p) (all_turns args now ss p) (h.0.outer b.0 args now p c) (λ x. all-alike ss h.1 b.1 args now p x)

-- by what a statement does, where the answers don't matter to it
simple : (s : Stmt) (f : List ℤ → Change) → ((args now : List ℤ) → turn args now s ≡ f args) → ((args : List ℤ) (p : Part) (c : Evaluation) → On p.tcom (f args p c)) → Stays s
simple s f is x = record {
  inner = λ e args now p c. subst (λ g. On p.tcom (g p c)) (sym (is args now)) (x args p c);
  outer = λ e args now p c. subst (λ g. Alike (g p c) (turn args now s p c)) (is args now ∙ sym (is args [])) (same-alike (turn args now s p c));
}

asked-on : (t : ComId) (q : Request) (o : Option ℤ) (more : ℤ → Evaluation) → On t (asked t q o (λ v. Goes (more v)))
asked-on t q None more = refl
asked-on t q (Some v) more = tt

needs-on : (b : Bool) (c : Evaluation) (t : ComId) (line : ℕ) → On t (cond b (Goes c) (Stops (NeedFails t line)))
needs-on true c t line = tt
needs-on false c t line = tt

choice-on : (t : ComId) (b : Bool) (f g : Change) (p : Part) (c : Evaluation) → On t (f p c) → On t (g p c) → On t (choose b f g p c)
choice-on t true f g p c x y = x
choice-on t false f g p c x y = y

choice-alike : (b : Bool) (f g h k : Change) (p : Part) (c : Evaluation) → Alike (f p c) (h p c) → Alike (g p c) (k p c) → Alike (choose b f g p c) (choose b h k p c)
choice-alike true f g h k p c x y = x
choice-alike false f g h k p c x y = y

asks-on : (t u : ComId) (r : Played) (q : Request) → StaysOn t r → r ≡ Asks u q → t ≡ u
asks-on t u r q x e = sym (subst (StaysOn t) e x)

ready-on : (t : ComId) (u : Turn) → On t u → (x : Played) × (ready t u ≡ Stops x) × StaysOn t x
ready-on t (Goes s) x = (Ready t, refl, refl)
ready-on t (Stops r) x = (r, refl, x)

ready-alike : (t : ComId) (u v : Turn) → On t u → On t v → Alike (ready t u) (ready t v)
ready-alike t u v x y =
    let a = ready-on t u x in
    let b = ready-on t v y in
    subst (λ w. Alike w (ready t v)) (sym a.1) (b.0, b.1, λ k q e. subst (λ z. StaysOn z b.0) (asks-on t k a.0 q a.2 e) b.2)

part-alike : (a b : List Stmt) → AllByRecursion Stays a → AllByRecursion Stays b → (all_flat a).0 ≡ true → (all_flat a).1 ≡ true → (all_flat b).1 ≡ true → (args now : List ℤ) (t : ComId) (left : List Done) (p : Part) (c : Evaluation) → Alike (transaction [] t (all_turns args [] a) (all_turns args [] b) left p c) (transaction now t (all_turns args now a) (all_turns args now b) left p c)
part-alike a b x y d e f args now t [] p c =
    ready-alike t (all_turns args [] a (record { tcom = t; answers = [] }) (record c { place = 0 })) (all_turns args now a (record { tcom = t; answers = now }) (record c { place = 0 }))
    (all-on a x d args [] (record { tcom = t; answers = [] }) (record c { place = 0 })) (all-on a x d args now (record { tcom = t; answers = now }) (record c { place = 0 }))
part-alike a b x y d e f args now t (Aborted ∷ left) p c = all-alike b y f args now p (record c { left = left })
part-alike a b x y d e f args now t (Committed answers ∷ left) p c = all-alike a x e args now (record { tcom = t; answers = answers }) (record c { left = left; place = 0 })

if-stays : (e : Expr) (a b : Body) → AllByRecursion Stays a.stmts.items → AllByRecursion Stays b.stmts.items → Stays (stmt.If e a b)
if-stays e a b x y = record {
  inner = λ is args now p c.
      let z = and_parts (all_flat a.stmts.items).0 (all_flat b.stmts.items).0 (sym (ap (λ (w : Bool × Bool). w.0) (flat-If e a b)) ∙ is) in
      subst (λ g. On p.tcom (g p c)) (sym (turn-If args now e a b)) (choice-on p.tcom (holds (expr_value args c e)) (all_turns args now a.stmts.items) (all_turns args now b.stmts.items) p c (all-on a.stmts.items x z.0 args now p c) (all-on b.stmts.items y z.1 args now p c));
  outer = λ is args now p c.
      let z = and_parts (all_flat a.stmts.items).1 (all_flat b.stmts.items).1 (sym (ap (λ (w : Bool × Bool). w.1) (flat-If e a b)) ∙ is) in
      subst (λ g. Alike (g p c) (turn args now (stmt.If e a b) p c)) (sym (turn-If args [] e a b))
      (subst (λ g. Alike (stmt_turn args [] (If e (all_turns args [] a.stmts.items) (all_turns args [] b.stmts.items)) p c) (g p c)) (sym (turn-If args now e a b))
      (choice-alike (holds (expr_value args c e)) (all_turns args [] a.stmts.items) (all_turns args [] b.stmts.items) (all_turns args now a.stmts.items) (all_turns args now b.stmts.items) p c (all-alike a.stmts.items x z.0 args now p c) (all-alike b.stmts.items y z.1 args now p c)));
}

txn-stays : (t : ComId) (a b : Body) → AllByRecursion Stays a.stmts.items → AllByRecursion Stays b.stmts.items → Stays (stmt.Txn t a b)
txn-stays t a b x y = record {
  inner = λ is. true-false (sym (ap (λ (w : Bool × Bool). w.0) (flat-Txn t a b)) ∙ is);
  outer = λ is args now p c.
      let z = and_parts ((all_flat a.stmts.items).0 && (all_flat a.stmts.items).1) (all_flat b.stmts.items).1 (sym (ap (λ (w : Bool × Bool). w.1) (flat-Txn t a b)) ∙ is) in
      let w = and_parts (all_flat a.stmts.items).0 (all_flat a.stmts.items).1 z.0 in
      subst (λ g. Alike (g p c) (turn args now (stmt.Txn t a b) p c)) (sym (turn-Txn args [] t a b))
      (subst (λ g. Alike (stmt_turn args [] (Txn t (all_turns args [] a.stmts.items) (all_turns args [] b.stmts.items)) p c) (g p c)) (sym (turn-Txn args now t a b))
      (part-alike a.stmts.items b.stmts.items x y w.0 w.1 z.1 args now t c.left p c));
}

kinds : Kinds Stays
kinds = record {
  set = λ i e. simple (stmt.Set i e) (λ args. stmt_turn args [] (Set i e)) (λ args now. turn-Set args now i e) (λ args p c. tt);
  send = λ to h es. simple (stmt.Send to h es) (λ args. stmt_turn args [] (Send to h es)) (λ args now. turn-Send args now to h es) (λ args p c. tt);
  out = λ to es. simple (stmt.Out to es) (λ args. stmt_turn args [] (Out to es)) (λ args now. turn-Out args now to es) (λ args p c. tt);
  choice = if-stays;
  part = txn-stays;
  get = λ i key. simple (stmt.Get i key) (λ args. stmt_turn args [] (Get i key)) (λ args now. turn-Get args now i key) (λ args p c. asked-on p.tcom (AGet key) (slice_get p.answers c.place) _);
  put = λ key e. simple (stmt.Put key e) (λ args. stmt_turn args [] (Put key e)) (λ args now. turn-Put args now key e) (λ args p c. asked-on p.tcom (APut key (expr_value args c e)) (slice_get p.answers c.place) _);
  need = λ line e. simple (stmt.Need line e) (λ args. stmt_turn args [] (Need line e)) (λ args now. turn-Need args now line e) (λ args p c. needs-on (holds (expr_value args c e)) c p.tcom line);
}

stays-there : (u v : Turn) (t : ComId) (q : Request) → Alike u v → result_of u ≡ Asks t q → StaysOn t (result_of v)
stays-there (Goes s) v t q x e = absurd (cc)
stays-there (Stops r) v t q x e = subst (StaysOn t) (sym (ap result_of x.1)) (x.2 t q e)

pub flat_parts_stay : FlatPartsStay
flat_parts_stay program is c vars hand t q now e =
    let ss = stmts_of (handler_of program c hand.handler) in
    stays-there (all_turns hand.args [] ss no_part (start vars hand.done)) (all_turns hand.args now ss no_part (start vars hand.done)) t q (all-alike ss (each_of Stays kinds ss) (is c hand.handler) hand.args now no_part (start vars hand.done)) e
