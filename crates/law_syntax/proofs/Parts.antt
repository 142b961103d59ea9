-- How the part of a transaction plays: it asks its own Tcom for keys that this one has, passes a request for each of its statements at
-- most, and doesn't depend on results or on the answers of other parts.
use Rattle.std.proofs.Common.{◌≡◌, refl, ◌∙◌, ap, sym, subst, ℕ, zero, suc, ◌+◌, ◌<◌, ◌≤◌, ℤ, Bool, true, false, cond, List, [], ◌∷◌, ◌++◌, map, length, slice_get, slice_set, Option, Some, None, arith, ◌⊎◌, inl, inr}
use Rattle.std.specs.Prelude.{⊤}
use Rattle.std.specs.List.{AllByRecursion}
use Rattle.ic_base.specs.declared.messages.ComId.{ComId}
use Rattle.ic_base.specs.declared.messages.Done.{Done}
use Rattle.ic_base.specs.declared.messages.Request.{Request}
use Rattle.ic_base.specs.declared.messages.Request.TheVariants.{Get as AGet, Put as APut}
use Rattle.ic_base.specs.declared.played.Played.{Played}
use Rattle.ic_base.specs.declared.played.Played.TheVariants.{Asks, Ready, NeedFails, Ends}
use Rattle.ic_base.specs.declared.scenario.Operand.{Operand}
use Rattle.ic_base.specs.declared.scenario.Operand.TheVariants.{Number, Var, Param, Local}
use Rattle.ic_base.specs.declared.scenario.Expr.{Expr}
use Rattle.ic_base.specs.declared.scenario.Expr.TheVariants.{One, Two}
use Rattle.ic_base.specs.declared.scenario.Program.{Program}
use Rattle.ic_base.specs.declared.scenario.Stmt.{Stmt}
use Rattle.ic_base.specs.declared.scenario.Stmt as stmt
use Rattle.ic_base.specs.declared.scenario.Stmt.TheOpen.{Set, Get}
use Rattle.ic_base.specs.Programs.{has_key}
use Rattle.def_play.specs.Playing.{Evaluation, Part, Turn, Goes, Stops, Change, turn, stmt_turn, and_then, asked, choose, holds, op_value, expr_value, operand_value}
use Rattle.def_play.proofs.Folds.{all_turns, turn-Set, turn-If, turn-Get, turn-Put, turn-Need}
use Rattle.def_step.specs.Packets.{key_of}
use Rattle.law_replay.proofs.ByKind.{Kinds, each_of}
use Rattle.law_replay.proofs.Lists.{true-false, front, back}
use Rattle.law_syntax.specs.Placed.{shape, shapes}
use Rattle.law_syntax.proofs.Shapes.{shape-Set, shape-Send, shape-Out, shape-If, shape-Txn, shape-Get, shape-Put, shape-Need}

-- values depend on variables and locals alone ---------------------------------------------------------

same-operand : (args : List ℤ) (u v : Evaluation) (o : Operand) → u.vars ≡ v.vars → u.locals ≡ v.locals → operand_value args u o ≡ operand_value args v o
same-operand args u v (Number n) a b = refl
same-operand args u v (Var i) a b = ap (λ l. operand_value args (record u { vars = l }) (Var i)) a
same-operand args u v (Param i) a b = refl
same-operand args u v (Local i) a b = ap (λ l. operand_value args (record u { locals = l }) (Local i)) b

pub same-value : (args : List ℤ) (u v : Evaluation) (e : Expr) → u.vars ≡ v.vars → u.locals ≡ v.locals → expr_value args u e ≡ expr_value args v e
same-value args u v (One x) a b = same-operand args u v x a b
same-value args u v (Two x op y) a b = ap (λ z. op_value op z (operand_value args u y)) (same-operand args u v x a b) ∙ ap (op_value op (operand_value args v x)) (same-operand args u v y a b)

pub same-values : (args : List ℤ) (u v : Evaluation) (es : List Operand) → u.vars ≡ v.vars → u.locals ≡ v.locals → map (operand_value args u) es ≡ map (operand_value args v) es
same-values args u v [] a b = refl
same-values args u v (o ∷ es) a b = ap (λ z. z ∷ map (operand_value args u) es) (same-operand args u v o a b) ∙ ap (λ l. operand_value args v o ∷ l) (same-values args u v es a b)

-- how it plays ------------------------------------------------------------------------------------------

-- with some results left, and some answers of the open transaction
abbrev pub Run : Type 0
Run = List Done → List ℤ → Turn

-- it stops within the part on t, having passed fewer than n requests behind this place
abbrev pub HaltsOn : Program → ComId → ℕ → List ℤ → Played → Type 0
HaltsOn program t n answers (Asks u q) = (u ≡ t) × (has_key program t (key_of q) ≡ true) × (length answers < n)
HaltsOn program t n answers (NeedFails u line) = ⊤
HaltsOn program t n answers (Ready u) = ⊥
HaltsOn program t n answers (Ends vars sends outs) = ⊥

pub record GoesOn (run : Run) (place n : ℕ) : Type 0 where
  pub to : Evaluation
  pub goes : (left : List Done) (now : List ℤ) → run left now ≡ Goes (record to { left = left })
  pub within : to.place ≤ place + n

pub record StopsThere (program : Program) (t : ComId) (run : Run) (answers : List ℤ) (n : ℕ) : Type 0 where
  pub result : Played
  pub stops : (left : List Done) (now : List ℤ) → run left now ≡ Stops result
  pub halts : HaltsOn program t n answers result

abbrev pub Plays : Program → ComId → Run → List ℤ → ℕ → ℕ → Type 0
Plays program t run answers place n = GoesOn run place n ⊎ StopsThere program t run answers (place + n)

none-past : (xs : List ℤ) (i : ℕ) → slice_get xs i ≡ None → length xs < i + 1
none-past [] i h = omega arith
none-past (x ∷ xs) zero h = absurd (cc)
none-past (x ∷ xs) (suc i) h = omega (arith, none-past xs i h)

module _ (program : Program) (c : ComId) where
  abbrev run-of : List ℤ → Stmt → Part → Evaluation → Run
  run-of args s p u left now = turn args now s p (record u { left = left })

  abbrev pub run-all : List ℤ → List Stmt → Part → Evaluation → Run
  run-all args ss p u left now = all_turns args now ss p (record u { left = left })

  record PlaysPart (s : Stmt) : Type 0 where
    plays : (p : Part) → (shape program c s).stands (Some p.tcom) ≡ true → (args : List ℤ) (u : Evaluation) → Plays program p.tcom (run-of args s p u) p.answers u.place (shape program c s).size
    -- a request without an answer is asked
    asks : (p : Part) → (shape program c s).request ≡ true → p.answers ≡ [] → (args now : List ℤ) (u : Evaluation) → (q : Request) × (turn args now s p u ≡ Stops (Asks p.tcom q))

  halts-more : (t : ComId) (m n : ℕ) (answers : List ℤ) (r : Played) → m ≤ n → HaltsOn program t m answers r → HaltsOn program t n answers r
  halts-more t m n answers (Asks u q) le h = (h.0, h.1, omega (arith, h.2, le))
  halts-more t m n answers (NeedFails u line) le h = tt
  halts-more t m n answers (Ready u) le h = h
  halts-more t m n answers (Ends vars sends outs) le h = h

  plays-more : (t : ComId) (run : Run) (answers : List ℤ) (place m n : ℕ) → m ≤ n → Plays program t run answers place m → Plays program t run answers place n
  plays-more t run answers place m n le (inl x) = inl (record { to = x.to; goes = x.goes; within = omega (arith, x.within, le) })
  plays-more t run answers place m n le (inr x) = inr (record { result = x.result; stops = x.stops; halts = halts-more t (place + m) (place + n) answers x.result (omega (arith, le)) x.halts })

  plays-by : (t : ComId) (run other : Run) (answers : List ℤ) (place n : ℕ) → ((left : List Done) (now : List ℤ) → run left now ≡ other left now) → Plays program t other answers place n → Plays program t run answers place n
  plays-by t run other answers place n same (inl x) = inl (record { to = x.to; goes = λ left now. same left now ∙ x.goes left now; within = x.within })
  plays-by t run other answers place n same (inr x) = inr (record { result = x.result; stops = λ left now. same left now ∙ x.stops left now; halts = x.halts })

  plays-then : (t : ComId) (run : Run) (more : List ℤ → Evaluation → Turn) (answers : List ℤ) (place m n : ℕ) → Plays program t run answers place m → ((u : Evaluation) → Plays program t (λ left now. more now (record u { left = left })) answers u.place n) → Plays program t (λ left now. and_then (run left now) (more now)) answers place (m + n)
  plays-then t run more answers place m n (inr x) y = inr (record { result = x.result; stops = λ left now. ap (λ z. and_then z (more now)) (x.stops left now); halts = halts-more t (place + m) (place + (m + n)) answers x.result (omega arith) x.halts })
  plays-then t run more answers place m n (inl x) y = at (y x.to)
    where
      at : Plays program t (λ left now. more now (record x.to { left = left })) answers x.to.place n → Plays program t (λ left now. and_then (run left now) (more now)) answers place (m + n)
      at (inl z) = inl (record { to = z.to; goes = λ left now. ap (λ w. and_then w (more now)) (x.goes left now) ∙ z.goes left now; within = omega (arith, x.within, z.within) })
      at (inr z) = inr (record { result = z.result; stops = λ left now. ap (λ w. and_then w (more now)) (x.goes left now) ∙ z.stops left now; halts = halts-more t (x.to.place + n) (place + (m + n)) answers z.result (omega (arith, x.within)) z.halts })

  all-play : (ss : List Stmt) → AllByRecursion PlaysPart ss → (p : Part) → (shapes program c ss).stands (Some p.tcom) ≡ true → (args : List ℤ) (u : Evaluation) → Plays program p.tcom (run-all args ss p u) p.answers u.place (shapes program c ss).size
  all-play [] h p e args u = inl (record { to = u; goes = λ left now. refl; within = omega arith })
  all-play (s ∷ ss) h p e args u =
      plays-then p.tcom (run-of args s p u) (λ now. all_turns args now ss p) p.answers u.place (shape program c s).size (shapes program c ss).size (h.0.plays p (front ((shape program c s).stands (Some p.tcom)) ((shapes program c ss).stands (Some p.tcom)) e) args u)
      (λ v. all-play ss h.1 p (back ((shape program c s).stands (Some p.tcom)) ((shapes program c ss).stands (Some p.tcom)) e) args v)

  chosen-plays : (b : Bool) (f g : List ℤ → Change) (p : Part) (u : Evaluation) (place m n : ℕ) → Plays program p.tcom (λ left now. f now p (record u { left = left })) p.answers place m → Plays program p.tcom (λ left now. g now p (record u { left = left })) p.answers place n
      → Plays program p.tcom (λ left now. choose b (f now) (g now) p (record u { left = left })) p.answers place (1 + (m + n))
  chosen-plays true f g p u place m n x y = plays-more p.tcom _ p.answers place m (1 + (m + n)) (omega arith) x
  chosen-plays false f g p u place m n x y = plays-more p.tcom _ p.answers place n (1 + (m + n)) (omega arith) y

  needed-plays : (b : Bool) (t : ComId) (line : ℕ) (answers : List ℤ) (u : Evaluation) → Plays program t (λ left now. cond b (Goes (record u { left = left })) (Stops (NeedFails t line))) answers u.place 1
  needed-plays true t line answers u = inl (record { to = u; goes = λ left now. refl; within = omega arith })
  needed-plays false t line answers u = inr (record { result = NeedFails t line; stops = λ left now. refl; halts = tt })

  asked-plays : (t : ComId) (q : Request) (answers : List ℤ) (u : Evaluation) (o : Option ℤ) (more : ℤ → Evaluation) → slice_get answers u.place ≡ o → has_key program t (key_of q) ≡ true → ((v : ℤ) → (more v).place ≡ u.place + 1) → Plays program t (λ left now. asked t q o (λ v. Goes (record (more v) { left = left }))) answers u.place 1
  asked-plays t q answers u None more is key at = inr (record { result = Asks t q; stops = λ left now. refl; halts = (refl, key, none-past answers u.place is) })
  asked-plays t q answers u (Some v) more is key at = inl (record { to = more v; goes = λ left now. refl; within = omega (arith, at v) })

  asked-nothing : (t : ComId) (q : Request) (answers : List ℤ) (place : ℕ) (more : ℤ → Turn) → answers ≡ [] → asked t q (slice_get answers place) more ≡ Stops (Asks t q)
  asked-nothing t q answers place more none = ap (λ l. asked t q (slice_get l place) more) none

  no-request : {A : Type 0} (b : Bool) → b ≡ false → b ≡ true → A
  no-request b is e = true-false (sym is ∙ e)

  kinds : Kinds PlaysPart
  kinds = record {
    set = λ i e. record {
      plays = λ p st args u. subst (λ x. Plays program p.tcom (run-of args (stmt.Set i e) p u) p.answers u.place x.size) (sym (shape-Set program c i e))
          (plays-by p.tcom (run-of args (stmt.Set i e) p u) (λ left now. stmt_turn args now (Set i e) p (record u { left = left })) p.answers u.place 1 (λ left now. ap (λ (f : Change). f p (record u { left = left })) (turn-Set args now i e))
          (inl (record { to = record u { vars = _ }; goes = λ left now. ap (λ x. Goes (record u { vars = slice_set u.vars i x; left = left })) (same-value args (record u { left = left }) u e refl refl); within = omega arith })));
      asks = λ p r none args now u. no-request (shape program c (stmt.Set i e)).request (ap (λ x. x.request) (shape-Set program c i e)) r;
    };
    send = λ to h es. record {
      plays = λ p st args u. true-false (sym (ap (λ x. x.stands (Some p.tcom)) (shape-Send program c to h es)) ∙ st);
      asks = λ p r none args now u. no-request (shape program c (stmt.Send to h es)).request (ap (λ x. x.request) (shape-Send program c to h es)) r;
    };
    out = λ to es. record {
      plays = λ p st args u. true-false (sym (ap (λ x. x.stands (Some p.tcom)) (shape-Out program c to es)) ∙ st);
      asks = λ p r none args now u. no-request (shape program c (stmt.Out to es)).request (ap (λ x. x.request) (shape-Out program c to es)) r;
    };
    choice = λ e a b x y. record {
      plays = λ p st args u.
          let sa = shapes program c a.stmts.items in
          let sb = shapes program c b.stmts.items in
          let z = sym (ap (λ k. k.stands (Some p.tcom)) (shape-If program c e a b)) ∙ st in
          subst (λ k. Plays program p.tcom (run-of args (stmt.If e a b) p u) p.answers u.place k.size) (sym (shape-If program c e a b))
          (plays-by p.tcom (run-of args (stmt.If e a b) p u) (λ left now. choose (holds (expr_value args u e)) (all_turns args now a.stmts.items) (all_turns args now b.stmts.items) p (record u { left = left })) p.answers u.place (1 + (sa.size + sb.size))
          (λ left now. ap (λ (f : Change). f p (record u { left = left })) (turn-If args now e a b) ∙ ap (λ v. choose (holds v) (all_turns args now a.stmts.items) (all_turns args now b.stmts.items) p (record u { left = left })) (same-value args (record u { left = left }) u e refl refl))
          (chosen-plays (holds (expr_value args u e)) (λ now. all_turns args now a.stmts.items) (λ now. all_turns args now b.stmts.items) p u u.place sa.size sb.size
          (all-play a.stmts.items x p (front (sa.stands (Some p.tcom)) (sb.stands (Some p.tcom)) z) args u) (all-play b.stmts.items y p (back (sa.stands (Some p.tcom)) (sb.stands (Some p.tcom)) z) args u)));
      asks = λ p r none args now u. no-request (shape program c (stmt.If e a b)).request (ap (λ k. k.request) (shape-If program c e a b)) r;
    };
    part = λ t a b x y. record {
      plays = λ p st args u. true-false (sym (ap (λ k. k.stands (Some p.tcom)) (shape-Txn program c t a b)) ∙ st);
      asks = λ p r none args now u. no-request (shape program c (stmt.Txn t a b)).request (ap (λ k. k.request) (shape-Txn program c t a b)) r;
    };
    get = λ i key. record {
      plays = λ p st args u.
          subst (λ k. Plays program p.tcom (run-of args (stmt.Get i key) p u) p.answers u.place k.size) (sym (shape-Get program c i key))
          (plays-by p.tcom (run-of args (stmt.Get i key) p u) (λ left now. stmt_turn args now (Get i key) p (record u { left = left })) p.answers u.place 1 (λ left now. ap (λ (f : Change). f p (record u { left = left })) (turn-Get args now i key))
          (asked-plays p.tcom (AGet key) p.answers u (slice_get p.answers u.place) (λ v. record u { locals = u.locals ++ (i, v) ∷ []; place = u.place + 1 }) refl (sym (ap (λ k. k.stands (Some p.tcom)) (shape-Get program c i key)) ∙ st) (λ v. refl)));
      asks = λ p r none args now u. (AGet key, ap (λ (f : Change). f p u) (turn-Get args now i key) ∙ asked-nothing p.tcom (AGet key) p.answers u.place _ none);
    };
    put = λ key e. record {
      plays = λ p st args u.
          subst (λ k. Plays program p.tcom (run-of args (stmt.Put key e) p u) p.answers u.place k.size) (sym (shape-Put program c key e))
          (plays-by p.tcom (run-of args (stmt.Put key e) p u) (λ left now. asked p.tcom (APut key (expr_value args u e)) (slice_get p.answers u.place) (λ v. Goes (record u { place = u.place + 1; left = left }))) p.answers u.place 1
          (λ left now. ap (λ (f : Change). f p (record u { left = left })) (turn-Put args now key e) ∙ ap (λ x. asked p.tcom (APut key x) (slice_get p.answers u.place) (λ v. Goes (record u { place = u.place + 1; left = left }))) (same-value args (record u { left = left }) u e refl refl))
          (asked-plays p.tcom (APut key (expr_value args u e)) p.answers u (slice_get p.answers u.place) (λ v. record u { place = u.place + 1 }) refl (sym (ap (λ k. k.stands (Some p.tcom)) (shape-Put program c key e)) ∙ st) (λ v. refl)));
      asks = λ p r none args now u. (APut key (expr_value args u e), ap (λ (f : Change). f p u) (turn-Put args now key e) ∙ asked-nothing p.tcom (APut key (expr_value args u e)) p.answers u.place _ none);
    };
    need = λ line e. record {
      plays = λ p st args u.
          subst (λ k. Plays program p.tcom (run-of args (stmt.Need line e) p u) p.answers u.place k.size) (sym (shape-Need program c line e))
          (plays-by p.tcom (run-of args (stmt.Need line e) p u) (λ left now. cond (holds (expr_value args u e)) (Goes (record u { left = left })) (Stops (NeedFails p.tcom line))) p.answers u.place 1
          (λ left now. ap (λ (f : Change). f p (record u { left = left })) (turn-Need args now line e) ∙ ap (λ x. cond (holds x) (Goes (record u { left = left })) (Stops (NeedFails p.tcom line))) (same-value args (record u { left = left }) u e refl refl))
          (needed-plays (holds (expr_value args u e)) p.tcom line p.answers u));
      asks = λ p r none args now u. no-request (shape program c (stmt.Need line e)).request (ap (λ k. k.request) (shape-Need program c line e)) r;
    };
  }

  -- a part that begins with a request asks it where there is no answer
  pub asks-first : (ss : List Stmt) → (shapes program c ss).request ≡ true → (p : Part) → p.answers ≡ [] → (args now : List ℤ) (u : Evaluation) → (q : Request) × (all_turns args now ss p u ≡ Stops (Asks p.tcom q))
  asks-first [] r p none args now u = true-false r
  asks-first (s ∷ ss) r p none args now u =
      let x = (each_of PlaysPart kinds (s ∷ ss)).0.asks p r none args now u in (x.0, ap (λ z. and_then z (all_turns args now ss p)) x.1)

  pub part-plays : (ss : List Stmt) (p : Part) → (shapes program c ss).stands (Some p.tcom) ≡ true → (args : List ℤ) (u : Evaluation) → Plays program p.tcom (run-all args ss p u) p.answers u.place (shapes program c ss).size
  part-plays ss p e args u = all-play ss (each_of PlaysPart kinds ss) p e args u
