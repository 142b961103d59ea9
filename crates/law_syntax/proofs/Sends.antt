-- What a handler whose statements are placed sends and shows.
use Rattle.std.proofs.Common.{◌≡◌, refl, ◌∙◌, ap, sym, subst, ℕ, ℤ, Bool, true, false, cond, ◌&&◌, ◌==◌, List, [], ◌∷◌, map, length, slice_get, Option, Some, None, is_none, ◌⊎◌, inl, inr}
use Rattle.std.specs.Prelude.{⊤, Contains}
use Rattle.std.specs.List.{AllByRecursion}
use Rattle.std.proofs.lemmas.List.{length-map}
use Rattle.std.proofs.lemmas.List.Elements.{Contains-push_cases}
use Rattle.ic_base.specs.declared.messages.ComId.{ComId}
use Rattle.ic_base.specs.declared.messages.Done.{Done}
use Rattle.ic_base.specs.declared.messages.Done.TheVariants.{Committed, Aborted}
use Rattle.ic_base.specs.declared.messages.Out.{Out as Shown}
use Rattle.ic_base.specs.declared.messages.Request.{Request}
use Rattle.ic_base.specs.declared.messages.Request.TheVariants.{Get as AGet, Put as APut}
use Rattle.ic_base.specs.declared.messages.Send.{Send as Sent}
use Rattle.ic_base.specs.declared.played.Played.{Played}
use Rattle.ic_base.specs.declared.played.Played.TheVariants.{Asks, Ready, NeedFails, Ends}
use Rattle.ic_base.specs.declared.scenario.Component.{Component}
use Rattle.ic_base.specs.declared.scenario.Handler.{Handler}
use Rattle.ic_base.specs.declared.scenario.Program.{Program}
use Rattle.ic_base.specs.declared.scenario.Stmt.{Stmt}
use Rattle.ic_base.specs.declared.scenario.Stmt as stmt
use Rattle.ic_base.specs.declared.scenario.Stmt.TheOpen.{Set, Send, Out, Get, Put, Need}
use Rattle.ic_base.specs.Programs.{declares, takes_args, has_handler, is_other_pcom, is_a_tcom, is_an_xcom}
use Rattle.def_play.specs.Playing.{Evaluation, Part, Turn, Goes, Stops, Change, turn, stmt_turn, and_then, asked, ready, transaction, choose, holds, expr_value, operand_value}
use Rattle.def_play.proofs.Folds.{all_turns, turn-Set, turn-Send, turn-Out, turn-If, turn-Txn, turn-Get, turn-Put, turn-Need}
use Rattle.law_replay.proofs.ByKind.{Kinds, each_of}
use Rattle.law_replay.proofs.Lists.{front, back}
use Rattle.law_syntax.specs.Placed.{Place, has_params, takes_values, shape, shapes}
use Rattle.law_syntax.proofs.Shapes.{shape-Send, shape-Out, shape-If, shape-Txn}

-- as many values as the handler has parameters
pub has-values : (program : Program) (c : ComId) (h n : ℕ) (args : List ℤ) → length args ≡ n → takes_values program c h n ≡ true → has_handler program c h args ≡ true
has-values program c h n args long e = at (slice_get program.components c.0) e
  where
    by : (o : Option Handler) → has_params n o ≡ true → takes_args o args ≡ true
    by None f = f
    by (Some x) f = ap (λ k. x.params == k) long ∙ f

    at : (o : Option Component) → declares (λ d. has_params n (slice_get d.handlers h)) o ≡ true → declares (λ d. takes_args (slice_get d.handlers h) args) o ≡ true
    at None f = f
    at (Some d) f = by (slice_get d.handlers h) f

module _ (program : Program) (c : ComId) where
  pub record Fit (u : Evaluation) : Type 0 where
    pub sends : (x : Sent) → Contains u.sends x → (is_other_pcom program c x.to ≡ true) × (has_handler program x.to x.handler x.args ≡ true)
    pub outs : (o : Shown) → Contains u.outs o → is_an_xcom program o.to ≡ true

  -- a stop isn't the end of the handler
  abbrev pub NoEnd : Played → Type 0
  NoEnd (Ends vars sends outs) = ⊥
  NoEnd (Asks t q) = ⊤
  NoEnd (Ready t) = ⊤
  NoEnd (NeedFails t line) = ⊤

  abbrev pub GoesWell : Turn → Type 0
  GoesWell (Goes u) = Fit u
  GoesWell (Stops r) = NoEnd r

  abbrev SendsWell : Stmt → Type 0
  SendsWell s = (x : Place) → (shape program c s).stands x ≡ true → (args now : List ℤ) (p : Part) (u : Evaluation) → Fit u → GoesWell (turn args now s p u)

  abbrev SendWell : List Stmt → Type 0
  SendWell ss = (x : Place) → (shapes program c ss).stands x ≡ true → (args now : List ℤ) (p : Part) (u : Evaluation) → Fit u → GoesWell (all_turns args now ss p u)

  then-well : (t : Turn) (more : Evaluation → Turn) → GoesWell t → ((u : Evaluation) → Fit u → GoesWell (more u)) → GoesWell (and_then t more)
  then-well (Goes u) more x y = y u x
  then-well (Stops r) more x y = x

  all-well : (ss : List Stmt) → AllByRecursion SendsWell ss → SendWell ss
  all-well [] h x e args now p u fit = fit
  all-well (s ∷ ss) h x e args now p u fit =
      then-well (turn args now s p u) (all_turns args now ss p) (h.0 x (front ((shape program c s).stands x) ((shapes program c ss).stands x) e) args now p u fit) (λ v y. all-well ss h.1 x (back ((shape program c s).stands x) ((shapes program c ss).stands x) e) args now p v y)

  -- the same sends and outs
  same-fit : (u v : Evaluation) → v.sends ≡ u.sends → v.outs ≡ u.outs → Fit u → Fit v
  same-fit u v s o x = record { sends = λ y h. x.sends y (subst (λ l. Contains l y) s h); outs = λ y h. x.outs y (subst (λ l. Contains l y) o h) }

  by-turn : (f g : Change) (p : Part) (u : Evaluation) → f ≡ g → GoesWell (g p u) → GoesWell (f p u)
  by-turn f g p u e h = subst (λ (z : Change). GoesWell (z p u)) (sym e) h

  chosen-well : (b : Bool) (f g : Change) (p : Part) (u : Evaluation) → GoesWell (f p u) → GoesWell (g p u) → GoesWell (choose b f g p u)
  chosen-well true f g p u x y = x
  chosen-well false f g p u x y = y

  asked-well : (t : ComId) (q : Request) (o : Option ℤ) (more : ℤ → Evaluation) → ((v : ℤ) → Fit (more v)) → GoesWell (asked t q o (λ v. Goes (more v)))
  asked-well t q None more x = tt
  asked-well t q (Some v) more x = x v

  needed-well : (b : Bool) (t : ComId) (line : ℕ) (u : Evaluation) → Fit u → GoesWell (cond b (Goes u) (Stops (NeedFails t line)))
  needed-well true t line u x = x
  needed-well false t line u x = tt

  ready-well : (t : ComId) (r : Turn) → GoesWell r → GoesWell (ready t r)
  ready-well t (Goes u) x = tt
  ready-well t (Stops r) x = x

  part-well : (t : ComId) (a b : List Stmt) → SendWell a → SendWell b → (shapes program c a).stands (Some t) ≡ true → (shapes program c b).stands None ≡ true → (args now : List ℤ) (left : List Done) (p : Part) (u : Evaluation) → Fit u →
      GoesWell (transaction now t (all_turns args now a) (all_turns args now b) left p u)
  part-well t a b x y i j args now (Aborted ∷ left) p u fit = y None j args now p (record u { left = left }) (same-fit u (record u { left = left }) refl refl fit)
  part-well t a b x y i j args now (Committed xs ∷ left) p u fit = x (Some t) i args now (record { tcom = t; answers = xs }) (record u { left = left; place = 0 }) (same-fit u (record u { left = left; place = 0 }) refl refl fit)
  part-well t a b x y i j args now [] p u fit =
      ready-well t (all_turns args now a (record { tcom = t; answers = now }) (record u { place = 0 })) (x (Some t) i args now (record { tcom = t; answers = now }) (record u { place = 0 }) (same-fit u (record u { place = 0 }) refl refl fit))

  kinds : Kinds SendsWell
  kinds = record {
    set = λ i e x h args now p u fit. by-turn (turn args now (stmt.Set i e)) (stmt_turn args now (Set i e)) p u (turn-Set args now i e) (same-fit u _ refl refl fit);
    send = λ to h es x st args now p u fit.
        let z = sym (ap (λ y. y.stands x) (shape-Send program c to h es)) ∙ st in
        let y = back (is_none x) (is_other_pcom program c to && takes_values program to h (length es)) z in
        let one : Sent = record { to = to; handler = h; args = map (operand_value args u) es } in
        by-turn (turn args now (stmt.Send to h es)) (stmt_turn args now (Send to h es)) p u (turn-Send args now to h es) (record {
          sends = λ s has. new-send u one (front (is_other_pcom program c to) (takes_values program to h (length es)) y) (has-values program to h (length es) one.args (length-map es (operand_value args u)) (back (is_other_pcom program c to) (takes_values program to h (length es)) y)) fit s (Contains-push_cases u.sends one s has);
          outs = fit.outs;
        });
    out = λ to es x st args now p u fit.
        let z = sym (ap (λ y. y.stands x) (shape-Out program c to es)) ∙ st in
        let one : Shown = record { to = to; args = map (operand_value args u) es } in
        by-turn (turn args now (stmt.Out to es)) (stmt_turn args now (Out to es)) p u (turn-Out args now to es) (record {
          sends = fit.sends;
          outs = λ o has. new-out u one (back (is_none x) (is_an_xcom program to) z) fit o (Contains-push_cases u.outs one o has);
        });
    choice = λ e a b x y at st args now p u fit.
        let z = sym (ap (λ k. k.stands at) (shape-If program c e a b)) ∙ st in
        by-turn (turn args now (stmt.If e a b)) _ p u (turn-If args now e a b)
        (chosen-well (holds (expr_value args u e)) (all_turns args now a.stmts.items) (all_turns args now b.stmts.items) p u
        (all-well a.stmts.items x at (front ((shapes program c a.stmts.items).stands at) ((shapes program c b.stmts.items).stands at) z) args now p u fit)
        (all-well b.stmts.items y at (back ((shapes program c a.stmts.items).stands at) ((shapes program c b.stmts.items).stands at) z) args now p u fit));
    part = λ t a b x y at st args now p u fit.
        let sa = shapes program c a.stmts.items in
        let sb = shapes program c b.stmts.items in
        let z = sym (ap (λ k. k.stands at) (shape-Txn program c t a b)) ∙ st in
        let d = back (is_a_tcom program t) (sa.request && (sa.stands (Some t) && sb.stands None)) (back (is_none at) (is_a_tcom program t && (sa.request && (sa.stands (Some t) && sb.stands None))) z) in
        let k = back sa.request (sa.stands (Some t) && sb.stands None) d in
        by-turn (turn args now (stmt.Txn t a b)) _ p u (turn-Txn args now t a b)
        (part-well t a.stmts.items b.stmts.items (all-well a.stmts.items x) (all-well b.stmts.items y) (front (sa.stands (Some t)) (sb.stands None) k) (back (sa.stands (Some t)) (sb.stands None) k) args now u.left p u fit);
    get = λ i key x st args now p u fit. by-turn (turn args now (stmt.Get i key)) (stmt_turn args now (Get i key)) p u (turn-Get args now i key) (asked-well p.tcom (AGet key) (slice_get p.answers u.place) _ (λ v. same-fit u _ refl refl fit));
    put = λ key e x st args now p u fit. by-turn (turn args now (stmt.Put key e)) (stmt_turn args now (Put key e)) p u (turn-Put args now key e) (asked-well p.tcom (APut key (expr_value args u e)) (slice_get p.answers u.place) _ (λ v. same-fit u _ refl refl fit));
    need = λ line e x st args now p u fit. by-turn (turn args now (stmt.Need line e)) (stmt_turn args now (Need line e)) p u (turn-Need args now line e) (needed-well (holds (expr_value args u e)) p.tcom line u fit);
  }
    where
      new-send : (u : Evaluation) (one : Sent) → is_other_pcom program c one.to ≡ true → has_handler program one.to one.handler one.args ≡ true → Fit u → (s : Sent) → Contains u.sends s ⊎ (one ≡ s) → (is_other_pcom program c s.to ≡ true) × (has_handler program s.to s.handler s.args ≡ true)
      new-send u one to takes fit s (inl h) = fit.sends s h
      new-send u one to takes fit s (inr e) = subst (λ (z : Sent). (is_other_pcom program c z.to ≡ true) × (has_handler program z.to z.handler z.args ≡ true)) e (to, takes)

      new-out : (u : Evaluation) (one : Shown) → is_an_xcom program one.to ≡ true → Fit u → (o : Shown) → Contains u.outs o ⊎ (one ≡ o) → is_an_xcom program o.to ≡ true
      new-out u one to fit o (inl h) = fit.outs o h
      new-out u one to fit o (inr e) = subst (λ (z : Shown). is_an_xcom program z.to ≡ true) e to

  -- where a handler goes to its end, all that it sends and shows fits
  pub goes-well : (ss : List Stmt) → (shapes program c ss).stands None ≡ true → (args now : List ℤ) (p : Part) (u : Evaluation) → Fit u → GoesWell (all_turns args now ss p u)
  goes-well ss e args now p u fit = all-well ss (each_of SendsWell kinds ss) None e args now p u fit
