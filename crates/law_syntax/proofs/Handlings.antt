-- How a handler plays on results that it came to itself: each result is used in turn, and the first transaction without one waits.
use Rattle.std.proofs.Common.{◌≡◌, refl, ◌∙◌, ap, sym, subst, ℕ, ◌+◌, ◌<◌, ◌≤◌, ℤ, Bool, true, false, ◌&&◌, List, [], ◌∷◌, ◌++◌, length, slice_set, Some, None, arith, ◌⊎◌, inl, inr}
use Rattle.std.specs.Prelude.{⊤}
use Rattle.std.specs.List.{AllByRecursion}
use Rattle.std.proofs.lemmas.List.{append_assoc}
use Rattle.ic_base.specs.declared.limits.TheConstants.{STATEMENTS}
use Rattle.ic_base.specs.declared.messages.ComId.{ComId}
use Rattle.ic_base.specs.declared.messages.Done.{Done}
use Rattle.ic_base.specs.declared.messages.Done.TheVariants.{Committed, Aborted}
use Rattle.ic_base.specs.declared.messages.Request.{Request}
use Rattle.ic_base.specs.declared.played.Played.{Played}
use Rattle.ic_base.specs.declared.played.Played.TheVariants.{Asks, Ready, NeedFails, Ends}
use Rattle.ic_base.specs.declared.scenario.Program.{Program}
use Rattle.ic_base.specs.declared.scenario.Stmt.{Stmt}
use Rattle.ic_base.specs.declared.scenario.Stmt as stmt
use Rattle.ic_base.specs.Programs.{is_a_tcom, has_key}
use Rattle.def_play.specs.Playing.{Evaluation, Part, Turn, Goes, Stops, Change, turn, and_then, ready, transaction, choose, holds, expr_value}
use Rattle.def_play.proofs.Folds.{all_turns, turn-Set, turn-Send, turn-Out, turn-If, turn-Txn}
use Rattle.def_step.specs.Packets.{key_of}
use Rattle.law_replay.proofs.ByKind.{Kinds, each_of}
use Rattle.law_replay.proofs.Lists.{true-false, front, back}
use Rattle.law_syntax.specs.Placed.{shape, shapes}
use Rattle.law_syntax.proofs.Shapes.{shape-If, shape-Txn, shape-Get, shape-Put, shape-Need}
use Rattle.law_syntax.proofs.Parts.{Run, Plays, HaltsOn, same-value, same-values, run-all, asks-first, part-plays}

-- a result that a play comes to: it goes on, or it was open where the part was aborted, or at its end where it committed
abbrev pub Meets : Turn → Done → Type 0
Meets (Goes u) d = ⊤
Meets (Stops (Ready t)) (Committed now) = ⊤
Meets (Stops (Asks t q)) Aborted = ⊤
Meets (Stops r) d = ⊥

abbrev pub answers_in : Done → List ℤ
answers_in (Committed now) = now
answers_in Aborted = []

-- each result is one that the play with those before it comes to
abbrev pub IsOwn : Run → List Done → Type 0
IsOwn run left = (pre post : List Done) (d : Done) → left ≡ pre ++ d ∷ post → Meets (run pre (answers_in d)) d

-- it uses some results, whatever stands behind them, and goes on
pub record Passes (run : Run) (left : List Done) : Type 0 where
  pub to : Evaluation
  pub used : List Done
  pub rest : left ≡ used ++ to.left
  pub goes : (more : List Done) (now : List ℤ) → run (used ++ more) now ≡ Goes (record to { left = more })

-- it stops within the part on t
abbrev pub StopsOn : Program → ComId → List ℤ → Played → Type 0
StopsOn program t now (Asks u q) = (u ≡ t) × (has_key program t (key_of q) ≡ true) × (length now < 256)
StopsOn program t now (Ready u) = (u ≡ t) × (now ≡ [] → ⊥)
StopsOn program t now (NeedFails u line) = now ≡ [] → ⊥
StopsOn program t now (Ends vars sends outs) = ⊥

pub record Waits (program : Program) (run : Run) (left : List Done) : Type 0 where
  pub tcom : ComId
  pub is_tcom : is_a_tcom program tcom ≡ true
  pub stops : (now : List ℤ) → (r : Played) × (run left now ≡ Stops r) × StopsOn program tcom now r

abbrev pub Handles : Program → Run → List Done → Type 0
Handles program run left = IsOwn run left → Passes run left ⊎ Waits program run left

module _ (program : Program) (c : ComId) where
  abbrev run-of : List ℤ → Stmt → Part → Evaluation → Run
  run-of args s p u left now = turn args now s p (record u { left = left })

  abbrev HandlesWell : Stmt → Type 0
  HandlesWell s = (shape program c s).stands None ≡ true → (shape program c s).size ≤ STATEMENTS → (args : List ℤ) (p : Part) (u : Evaluation) (left : List Done) → Handles program (run-of args s p u) left

  abbrev HandleWell : List Stmt → Type 0
  HandleWell ss = (shapes program c ss).stands None ≡ true → (shapes program c ss).size ≤ STATEMENTS → (args : List ℤ) (p : Part) (u : Evaluation) (left : List Done) → Handles program (run-all program c args ss p u) left

  -- another way to say the same run
  handles-by : (run other : Run) (left : List Done) → ((l : List Done) (now : List ℤ) → run l now ≡ other l now) → Handles program other left → Handles program run left
  handles-by run other left same h own = at (h (λ pre post d e. subst (λ z. Meets z d) (same pre (answers_in d)) (own pre post d e)))
    where
      at : Passes other left ⊎ Waits program other left → Passes run left ⊎ Waits program run left
      at (inl x) = inl (record { to = x.to; used = x.used; rest = x.rest; goes = λ more now. same (x.used ++ more) now ∙ x.goes more now })
      at (inr x) = inr (record { tcom = x.tcom; is_tcom = x.is_tcom; stops = λ now. let z = x.stops now in (z.0, same left now ∙ z.1, z.2) })

  meets-first : (t : Turn) (more : Evaluation → Turn) (d : Done) → Meets (and_then t more) d → Meets t d
  meets-first (Goes u) more d m = tt
  meets-first (Stops r) more d m = m

  -- statements one behind the other
  handles-then : (run : Run) (more : List ℤ → Evaluation → Turn) (left : List Done) → Handles program run left → ((u : Evaluation) (l : List Done) → Handles program (λ k now. more now (record u { left = k })) l) → Handles program (λ l now. and_then (run l now) (more now)) left
  handles-then run more left h g own = at (h (λ pre post d e. meets-first (run pre (answers_in d)) (more (answers_in d)) d (own pre post d e)))
    where
      whole : Run
      whole l now = and_then (run l now) (more now)

      at : Passes run left ⊎ Waits program run left → Passes whole left ⊎ Waits program whole left
      at (inr x) = inr (record { tcom = x.tcom; is_tcom = x.is_tcom; stops = λ now. let z = x.stops now in (z.0, ap (λ w. and_then w (more now)) z.1, z.2) })
      at (inl x) = next (g x.to x.to.left later)
        where
          later : IsOwn (λ k now. more now (record x.to { left = k })) x.to.left
          later pre post d e =
              subst (λ z. Meets z d) (ap (λ w. and_then w (more (answers_in d))) (x.goes pre (answers_in d)))
              (own (x.used ++ pre) post d (x.rest ∙ ap (λ l. x.used ++ l) e ∙ sym (append_assoc x.used pre (d ∷ post))))

          next : Passes (λ k now. more now (record x.to { left = k })) x.to.left ⊎ Waits program (λ k now. more now (record x.to { left = k })) x.to.left → Passes whole left ⊎ Waits program whole left
          next (inl y) = inl (record {
            to = y.to;
            used = x.used ++ y.used;
            rest = x.rest ∙ ap (λ l. x.used ++ l) y.rest ∙ sym (append_assoc x.used y.used y.to.left);
            goes = λ others now.
                ap (λ l. whole l now) (append_assoc x.used y.used others) ∙ ap (λ w. and_then w (more now)) (x.goes (y.used ++ others) now) ∙ y.goes others now;
          })
          next (inr y) = inr (record {
            tcom = y.tcom;
            is_tcom = y.is_tcom;
            stops = λ now. let z = y.stops now in (z.0, ap (λ l. whole l now) x.rest ∙ ap (λ w. and_then w (more now)) (x.goes x.to.left now) ∙ z.1, z.2);
          })

  -- a statement that uses no result
  handles-here : (run : Run) (u : Evaluation) (left : List Done) → ((l : List Done) (now : List ℤ) → run l now ≡ Goes (record u { left = l })) → Handles program run left
  handles-here run u left goes own = inl (record { to = record u { left = left }; used = []; rest = refl; goes = goes })

  all-handle : (ss : List Stmt) → AllByRecursion HandlesWell ss → HandleWell ss
  all-handle [] h st few args p u left = λ own. inl (record { to = record u { left = left }; used = []; rest = refl; goes = λ more now. refl })
  all-handle (s ∷ ss) h st few args p u left =
      handles-then (run-of args s p u) (λ now. all_turns args now ss p) left (h.0 (front ((shape program c s).stands None) ((shapes program c ss).stands None) st) (omega (arith, few)) args p u left)
      (λ v l. all-handle ss h.1 (back ((shape program c s).stands None) ((shapes program c ss).stands None) st) (omega (arith, few)) args p v l)

  chosen-handles : (b : Bool) (f g : List ℤ → Change) (p : Part) (u : Evaluation) (left : List Done) → Handles program (λ l now. f now p (record u { left = l })) left → Handles program (λ l now. g now p (record u { left = l })) left → Handles program (λ l now. choose b (f now) (g now) p (record u { left = l })) left
  chosen-handles true f g p u left x y = x
  chosen-handles false f g p u left x y = y

  -- transactions ----------------------------------------------------------------------------------------

  module _ (args : List ℤ) (t : ComId) (a b : List Stmt) (p : Part) (u : Evaluation) (is : is_a_tcom program t ≡ true) (request : (shapes program c a).request ≡ true) (st : (shapes program c a).stands (Some t) ≡ true) (few : (shapes program c a).size < 256) where
    abbrev part-run : List ℤ → Run
    part-run answers = run-all program c args a (record { tcom = t; answers = answers }) (record u { place = 0 })

    abbrev txn-run : Run
    txn-run left now = transaction now t (all_turns args now a) (all_turns args now b) left p (record u { left = left })

    plays-with : (answers : List ℤ) → Plays program t (part-run answers) answers 0 (shapes program c a).size
    plays-with answers = part-plays program c a (record { tcom = t; answers = answers }) st args (record u { place = 0 })

    -- without an answer the part asks
    asks-now : (now : List ℤ) → now ≡ [] → (q : Request) × (part-run now [] now ≡ Stops (Asks t q))
    asks-now now none = asks-first program c a request (record { tcom = t; answers = now }) none args now (record u { place = 0; left = [] })

    not-going : {A : Type 0} (now : List ℤ) (v : Evaluation) → part-run now [] now ≡ Goes v → now ≡ [] → A
    not-going now v e none = let q = asks-now now none in absurd (differ v q.0 (sym e ∙ q.1))
      where
        differ : (w : Evaluation) (q : Request) → Goes w ≡ Stops (Asks t q) → ⊥
        differ w q f = absurd (cc)

    not-failing : {A : Type 0} (now : List ℤ) (x : ComId) (line : ℕ) → part-run now [] now ≡ Stops (NeedFails x line) → now ≡ [] → A
    not-failing now x line e none = let q = asks-now now none in absurd (differ q.0 (sym e ∙ q.1))
      where
        differ : (q : Request) → Stops (NeedFails x line) ≡ Stops (Asks t q) → ⊥
        differ q f = absurd (cc)

    -- the present part
    open-part : (now : List ℤ) → (r : Played) × (txn-run [] now ≡ Stops r) × StopsOn program t now r
    open-part now = at (plays-with now)
      where
        halted : (r : Played) → part-run now [] now ≡ Stops r → HaltsOn program t (0 + (shapes program c a).size) now r → StopsOn program t now r
        halted (Asks x q) e h = (h.0, h.1, omega (arith, h.2, few))
        halted (NeedFails x line) e h = not-failing now x line e
        halted (Ready x) e h = absurd h
        halted (Ends vars sends outs) e h = h

        at : Plays program t (part-run now) now 0 (shapes program c a).size → (r : Played) × (txn-run [] now ≡ Stops r) × StopsOn program t now r
        at (inl x) = (Ready t, ap (ready t) (x.goes [] now), (refl, not-going now (record x.to { left = [] }) (x.goes [] now)))
        at (inr x) = (x.result, ap (ready t) (x.stops [] now), halted x.result (x.stops [] now) x.halts)

    -- a part that committed goes to its end
    committed-part : (xs : List ℤ) (left : List Done) → Meets (txn-run [] xs) (Committed xs) → Passes txn-run (Committed xs ∷ left)
    committed-part xs left meets = at (plays-with xs)
      where
        never : {A : Type 0} (r : Played) → HaltsOn program t (0 + (shapes program c a).size) xs r → Meets (Stops r) (Committed xs) → A
        never (Asks x q) h m = absurd m
        never (NeedFails x line) h m = absurd m
        never (Ready x) h m = absurd h
        never (Ends vars sends outs) h m = absurd h

        at : Plays program t (part-run xs) xs 0 (shapes program c a).size → Passes txn-run (Committed xs ∷ left)
        at (inl x) = record { to = record x.to { left = left }; used = Committed xs ∷ []; rest = refl; goes = λ more now. x.goes more now }
        at (inr x) = never x.result x.halts (subst (λ z. Meets z (Committed xs)) (ap (ready t) (x.stops [] xs)) meets)

    aborted-part : (left : List Done) → Handles program (run-all program c args b p u) left → Handles program txn-run (Aborted ∷ left)
    aborted-part left h own = at (h (λ pre post d e. own (Aborted ∷ pre) post d (ap (λ l. Aborted ∷ l) e)))
      where
        at : Passes (run-all program c args b p u) left ⊎ Waits program (run-all program c args b p u) left → Passes txn-run (Aborted ∷ left) ⊎ Waits program txn-run (Aborted ∷ left)
        at (inl x) = inl (record { to = x.to; used = Aborted ∷ x.used; rest = ap (λ l. Aborted ∷ l) x.rest; goes = x.goes })
        at (inr x) = inr (record { tcom = x.tcom; is_tcom = x.is_tcom; stops = x.stops })

    txn-handles : ((left : List Done) → Handles program (run-all program c args b p u) left) → (left : List Done) → Handles program txn-run left
    txn-handles other [] own = inr (record { tcom = t; is_tcom = is; stops = open-part })
    txn-handles other (Committed xs ∷ left) own = inl (committed-part xs left (own [] left (Committed xs) refl))
    txn-handles other (Aborted ∷ left) own = aborted-part left (other left) own

  no-place : {A : Type 0} (b : Bool) → b ≡ false → b ≡ true → A
  no-place b is e = true-false (sym is ∙ e)

  kinds : Kinds HandlesWell
  kinds = record {
    set = λ i e st few args p u left.
        handles-here (run-of args (stmt.Set i e) p u) (record u { vars = slice_set u.vars i (expr_value args u e) }) left
        (λ l now. ap (λ (f : Change). f p (record u { left = l })) (turn-Set args now i e) ∙ ap (λ x. Goes (record u { vars = slice_set u.vars i x; left = l })) (same-value args (record u { left = l }) u e refl refl));
    send = λ to h es st few args p u left.
        handles-here (run-of args (stmt.Send to h es) p u) (record u { sends = _ }) left
        (λ l now. ap (λ (f : Change). f p (record u { left = l })) (turn-Send args now to h es) ∙ ap (λ x. Goes (record u { sends = u.sends ++ record { to = to; handler = h; args = x } ∷ []; left = l })) (same-values args (record u { left = l }) u es refl refl));
    out = λ to es st few args p u left.
        handles-here (run-of args (stmt.Out to es) p u) (record u { outs = _ }) left
        (λ l now. ap (λ (f : Change). f p (record u { left = l })) (turn-Out args now to es) ∙ ap (λ x. Goes (record u { outs = u.outs ++ record { to = to; args = x } ∷ []; left = l })) (same-values args (record u { left = l }) u es refl refl));
    choice = λ e a b x y st few args p u left.
        let sa = shapes program c a.stmts.items in
        let sb = shapes program c b.stmts.items in
        let z = sym (ap (λ k. k.stands None) (shape-If program c e a b)) ∙ st in
        let long : 1 + (sa.size + sb.size) ≤ STATEMENTS = subst (λ k. k.size ≤ STATEMENTS) (shape-If program c e a b) few in
        handles-by (run-of args (stmt.If e a b) p u) (λ l now. choose (holds (expr_value args u e)) (all_turns args now a.stmts.items) (all_turns args now b.stmts.items) p (record u { left = l })) left
        (λ l now. ap (λ (f : Change). f p (record u { left = l })) (turn-If args now e a b) ∙ ap (λ v. choose (holds v) (all_turns args now a.stmts.items) (all_turns args now b.stmts.items) p (record u { left = l })) (same-value args (record u { left = l }) u e refl refl))
        (chosen-handles (holds (expr_value args u e)) (λ now. all_turns args now a.stmts.items) (λ now. all_turns args now b.stmts.items) p u left
        (all-handle a.stmts.items x (front (sa.stands None) (sb.stands None) z) (omega (arith, long)) args p u left) (all-handle b.stmts.items y (back (sa.stands None) (sb.stands None) z) (omega (arith, long)) args p u left));
    part = λ t a b x y st few args p u left.
        let sa = shapes program c a.stmts.items in
        let sb = shapes program c b.stmts.items in
        let z = sym (ap (λ k. k.stands None) (shape-Txn program c t a b)) ∙ st in
        let long : 1 + (sa.size + sb.size) ≤ STATEMENTS = subst (λ k. k.size ≤ STATEMENTS) (shape-Txn program c t a b) few in
        let d = back (is_a_tcom program t) (sa.request && (sa.stands (Some t) && sb.stands None)) z in
        let k = back sa.request (sa.stands (Some t) && sb.stands None) d in
        handles-by (run-of args (stmt.Txn t a b) p u) (λ l now. transaction now t (all_turns args now a.stmts.items) (all_turns args now b.stmts.items) l p (record u { left = l })) left
        (λ l now. ap (λ (f : Change). f p (record u { left = l })) (turn-Txn args now t a b))
        (txn-handles args t a.stmts.items b.stmts.items p u (front (is_a_tcom program t) (sa.request && (sa.stands (Some t) && sb.stands None)) z) (front sa.request (sa.stands (Some t) && sb.stands None) d) (front (sa.stands (Some t)) (sb.stands None) k) (omega (arith, long))
        (λ l. all-handle b.stmts.items y (back (sa.stands (Some t)) (sb.stands None) k) (omega (arith, long)) args p u l) left);
    get = λ i key st few args p u left. no-place ((shape program c (stmt.Get i key)).stands None) (ap (λ k. k.stands None) (shape-Get program c i key)) st;
    put = λ key e st few args p u left. no-place ((shape program c (stmt.Put key e)).stands None) (ap (λ k. k.stands None) (shape-Put program c key e)) st;
    need = λ line e st few args p u left. no-place ((shape program c (stmt.Need line e)).stands None) (ap (λ k. k.stands None) (shape-Need program c line e)) st;
  }

  -- the statements of a handler
  pub handles-well : (ss : List Stmt) → (shapes program c ss).stands None ≡ true → (shapes program c ss).size ≤ STATEMENTS → (args : List ℤ) (p : Part) (u : Evaluation) (left : List Done) → Handles program (run-all program c args ss p u) left
  handles-well ss = all-handle ss (each_of HandlesWell kinds ss)
