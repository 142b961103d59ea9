-- A walk over the lines of a program: in which component, and in which block of a handler a line stands.
use Rattle.std.proofs.Common.{◌≡◌, refl, ◌∙◌, ap, sym, subst, ℕ, suc, pred, ◌+◌, ◌<◌, ◌≤◌, Bool, true, false, ◌&&◌, List, [], ◌∷◌, ◌++◌, length, Some, None, is_some, is_none, arith}
use Rattle.std.specs.Prelude.{⊤}
use Rattle.std.specs.List.{AllByRecursion}
use Rattle.std.proofs.lemmas.List.{append_assoc}
use Rattle.ic_base.specs.declared.limits.TheConstants.{STATEMENTS}
use Rattle.ic_base.specs.declared.messages.ComId.{ComId}
use Rattle.ic_base.specs.declared.scenario.Body.{Body}
use Rattle.ic_base.specs.declared.scenario.Expr.{Expr}
use Rattle.ic_base.specs.declared.scenario.Program.{Program}
use Rattle.ic_base.specs.declared.scenario.Stmt.{Stmt}
use Rattle.ic_base.specs.declared.scenario.Stmt as stmt
use Rattle.ic_base.specs.declared.scenario.Stmt.TheOpen as opens
use Rattle.ic_base.specs.Programs.{is_a_tcom, is_an_xcom, is_other_pcom, has_key}
use Rattle.def_syntax.specs.Lines.{Line, Head, Var, Key, On, Set, Send, Out, If, Txn, Get, Put, Need, Else, End, stmt_lines, body_lines}
use Rattle.def_syntax.specs.Names.{com_id}
use Rattle.def_syntax.proofs.StatementLines.{set_lines, send_lines, out_lines, if_lines, txn_lines, get_lines, put_lines, need_lines}
use Rattle.law_replay.proofs.ByKind.{Kinds, each_of}
use Rattle.law_syntax.specs.Placed.{Place, in_part, takes_values, Shape, shape_stmt, shape, shapes}
use Rattle.law_syntax.proofs.Shapes.{shape-Set, shape-Send, shape-Out, shape-If, shape-Txn, shape-Get, shape-Put, shape-Need}
use Rattle.law_replay.proofs.Lists.{both-true}

-- an open block: where its statements stand, and where those behind its `else`
pub record Block : Type 0 where
  pub now : Place
  pub other : Place

-- how many components have begun, how many statements the handler has so far, and the open blocks
pub record Walk : Type 0 where
  pub coms : ℕ
  pub count : ℕ
  pub blocks : List Block

abbrev pub plain : Block
plain = record { now = None; other = None }

abbrev pub place_in : List Block → Place
place_in [] = None
place_in (b ∷ bs) = b.now

abbrev pub turned : List Block → List Block
turned [] = []
turned (b ∷ bs) = record { now = b.other; other = b.other } ∷ bs

abbrev pub ended : List Block → List Block
ended [] = []
ended (b ∷ bs) = bs

-- the component in which a line stands
abbrev pub own_id : Walk → ComId
own_id w = com_id (pred w.coms)

abbrev pub next : Line → Walk → Walk
next (Head n kind immediate) w = record w { coms = suc w.coms; blocks = plain ∷ w.blocks }
next (Var n z) w = w
next (Key n z) w = w
next (On n params) w = record w { count = 0; blocks = plain ∷ w.blocks }
next (Set v e) w = record w { count = suc w.count }
next (Send to h es) w = record w { count = suc w.count }
next (Out to es) w = record w { count = suc w.count }
next (If e) w = record w { count = suc w.count; blocks = record { now = place_in w.blocks; other = place_in w.blocks } ∷ w.blocks }
next (Txn t) w = record w { count = suc w.count; blocks = record { now = Some t; other = None } ∷ w.blocks }
next (Get n k) w = record w { count = suc w.count }
next (Put k e) w = record w { count = suc w.count }
next (Need line e) w = record w { count = suc w.count }
next Else w = record w { blocks = turned w.blocks }
next End w = record w { blocks = ended w.blocks }

-- a part begins with a request
abbrev pub begins : List Line → Bool
begins (Get n k ∷ ls) = true
begins (Put k e ∷ ls) = true
begins ls = false

-- the line may stand there, before these
abbrev pub Stands : Program → Walk → Line → List Line → Type 0
Stands program w (Set v e) ls = w.count < STATEMENTS
Stands program w (Send to h es) ls = (w.count < STATEMENTS) × (is_none (place_in w.blocks) && (is_other_pcom program (own_id w) to && takes_values program to h (length es)) ≡ true)
Stands program w (Out to es) ls = (w.count < STATEMENTS) × (is_none (place_in w.blocks) && is_an_xcom program to ≡ true)
Stands program w (If e) ls = w.count < STATEMENTS
Stands program w (Txn t) ls = (w.count < STATEMENTS) × (is_none (place_in w.blocks) ≡ true) × (is_a_tcom program t ≡ true) × (begins ls ≡ true)
Stands program w (Get n k) ls = (w.count < STATEMENTS) × (in_part (λ t. has_key program t k) (place_in w.blocks) ≡ true)
Stands program w (Put k e) ls = (w.count < STATEMENTS) × (in_part (λ t. has_key program t k) (place_in w.blocks) ≡ true)
Stands program w (Need line e) ls = (w.count < STATEMENTS) × (is_some (place_in w.blocks) ≡ true)
Stands program w l ls = ⊤

abbrev pub AllStand : Program → Walk → List Line → Type 0
AllStand program w [] = ⊤
AllStand program w (l ∷ ls) = Stands program w l ls × AllStand program (next l w) ls

-- so many statements on
abbrev pub on : ℕ → Walk → Walk
on n w = record w { count = w.count + n }

module _ (program : Program) where
  -- what the lines of a statement say of it, and of the lines behind them
  record Through (w : Walk) (x : Shape) (rest : List Line) : Type 0 where
    fits : x.stands (place_in w.blocks) ≡ true
    few : w.count + x.size ≤ STATEMENTS
    after : AllStand program (on x.size w) rest

  record Walked (s : Stmt) : Type 0 where
    goes : (w : Walk) (rest : List Line) → AllStand program w (stmt_lines s ++ rest) → Through w (shape program (own_id w) s) rest
    first : (c : ComId) (rest : List Line) → begins (stmt_lines s ++ rest) ≡ (shape program c s).request

  count-plus : (w : Walk) (m n : ℕ) → on n (on m w) ≡ on (m + n) w
  count-plus w m n = ap (λ k. record w { count = k }) (plus w.count m n)
    where
      plus : (a b d : ℕ) → (a + b) + d ≡ a + (b + d)
      plus a b d = omega arith

  same-count : (w : Walk) (m n : ℕ) → m ≡ n → record w { count = m } ≡ record w { count = n }
  same-count w m n e = ap (λ k. record w { count = k }) e

  all-goes : (ss : List Stmt) → AllByRecursion Walked ss → (w : Walk) (rest : List Line) → w.count ≤ STATEMENTS → AllStand program w (body_lines ss ++ rest) → Through w (shapes program (own_id w) ss) rest
  all-goes [] h w rest le x = record { fits = refl; few = omega (arith, le); after = subst (λ v. AllStand program v rest) (same-count w w.count (w.count + 0) (omega arith)) x }
  all-goes (s ∷ ss) h w rest le x =
      let a = h.0.goes w (body_lines ss ++ rest) (subst (AllStand program w) (append_assoc (stmt_lines s) (body_lines ss) rest) x) in
      let b = all-goes ss h.1 (on (shape program (own_id w) s).size w) rest a.few a.after in
      record {
        fits = both-true ((shape program (own_id w) s).stands (place_in w.blocks)) ((shapes program (own_id w) ss).stands (place_in w.blocks)) a.fits b.fits;
        few = let f = b.few in omega (arith, f);
        after = subst (λ v. AllStand program v rest) (count-plus w (shape program (own_id w) s).size (shapes program (own_id w) ss).size) b.after;
      }

  -- a statement of one line
  single : (s : Stmt) (l : Line) (x : ComId → Shape) → stmt_lines s ≡ l ∷ [] → ((c : ComId) → shape program c s ≡ x c) → ((c : ComId) → (x c).size ≡ 1) → ((c : ComId) (rest : List Line) → begins (l ∷ rest) ≡ (x c).request)
      → ((w : Walk) (rest : List Line) → next l w ≡ record w { count = suc w.count }) → ((w : Walk) (rest : List Line) → Stands program w l rest → (w.count < STATEMENTS) × ((x (own_id w)).stands (place_in w.blocks) ≡ true)) → Walked s
  single s l x is sh one begin goes_on stands = record {
    goes = λ w rest h.
        let k = subst (λ ls. AllStand program w (ls ++ rest)) is h in
        let z = stands w rest k.0 in
        subst (λ y. Through w y rest) (sym (sh (own_id w))) (record {
          fits = z.1;
          few = let size = one (own_id w) in omega (arith, z.0, size);
          after = subst (λ v. AllStand program v rest) (goes_on w rest ∙ same-count w (suc w.count) (w.count + (x (own_id w)).size) (let size = one (own_id w) in omega (arith, size))) k.1;
        });
    first = λ c rest. ap (λ ls. begins (ls ++ rest)) is ∙ begin c rest ∙ ap (λ y. y.request) (sym (sh c));
  }

  -- two bodies with their `else` and `end`
  split-bodies : (w : Walk) (xs ys rest : List Line) → AllStand program w ((xs ++ Else ∷ (ys ++ End ∷ [])) ++ rest) → AllStand program w (xs ++ Else ∷ (ys ++ End ∷ rest))
  split-bodies w xs ys rest = subst (AllStand program w) (append_assoc xs (Else ∷ (ys ++ End ∷ [])) rest ∙ ap (λ ls. xs ++ Else ∷ ls) (append_assoc ys (End ∷ []) rest))

  -- both bodies of a block, the second behind its `else`
  record Both (w : Walk) (now other : Place) (a b : List Stmt) (rest : List Line) : Type 0 where
    first : (shapes program (own_id w) a).stands now ≡ true
    second : (shapes program (own_id w) b).stands other ≡ true
    few : w.count + ((shapes program (own_id w) a).size + (shapes program (own_id w) b).size) ≤ STATEMENTS
    after : AllStand program (on ((shapes program (own_id w) a).size + (shapes program (own_id w) b).size) w) rest

  bodies : (w : Walk) (now other : Place) (a b : List Stmt) (rest : List Line) → AllByRecursion Walked a → AllByRecursion Walked b → w.count ≤ STATEMENTS → AllStand program (record w { blocks = record { now = now; other = other } ∷ w.blocks }) (body_lines a ++ Else ∷ (body_lines b ++ End ∷ rest)) → Both w now other a b rest
  bodies w now other a b rest x y le h =
      let p = all-goes a x (record w { blocks = record { now = now; other = other } ∷ w.blocks }) (Else ∷ (body_lines b ++ End ∷ rest)) le h in
      let q = all-goes b y (record w { count = w.count + (shapes program (own_id w) a).size; blocks = record { now = other; other = other } ∷ w.blocks }) (End ∷ rest) p.few p.after.1 in
      record {
        first = p.fits;
        second = q.fits;
        few = let f = q.few in omega (arith, f);
        after = subst (λ v. AllStand program v rest) (count-plus w (shapes program (own_id w) a).size (shapes program (own_id w) b).size) q.after.1;
      }

  plus-one : (w : Walk) (n : ℕ) → on n (record w { count = suc w.count }) ≡ on (1 + n) w
  plus-one w n = same-count w (suc w.count + n) (w.count + (1 + n)) (omega arith)

  if-walked : (e : Expr) (a b : Body) → AllByRecursion Walked a.stmts.items → AllByRecursion Walked b.stmts.items → Walked (stmt.If e a b)
  if-walked e a b x y = record {
    goes = λ w rest h.
        let k = subst (λ ls. AllStand program w (ls ++ rest)) (if_lines e a b (body_lines a.stmts.items) (body_lines b.stmts.items) refl refl) h in
        let z = bodies (record w { count = suc w.count }) (place_in w.blocks) (place_in w.blocks) a.stmts.items b.stmts.items rest x y k.0 (split-bodies (next (If e) w) (body_lines a.stmts.items) (body_lines b.stmts.items) rest k.1) in
        subst (λ s. Through w s rest) (sym (shape-If program (own_id w) e a b)) (record {
          fits = both-true ((shapes program (own_id w) a.stmts.items).stands (place_in w.blocks)) ((shapes program (own_id w) b.stmts.items).stands (place_in w.blocks)) z.first z.second;
          few = let f = z.few in omega (arith, f);
          after = subst (λ v. AllStand program v rest) (plus-one w ((shapes program (own_id w) a.stmts.items).size + (shapes program (own_id w) b.stmts.items).size)) z.after;
        });
    first = λ c rest. ap (λ ls. begins (ls ++ rest)) (if_lines e a b (body_lines a.stmts.items) (body_lines b.stmts.items) refl refl) ∙ ap (λ s. s.request) (sym (shape-If program c e a b));
  }

  -- the lines of a body begin as its shape says, where none stands behind
  begins-so : (c : ComId) (ss : List Stmt) (rest : List Line) → AllByRecursion Walked ss → begins (body_lines ss ++ Else ∷ rest) ≡ true → (shapes program c ss).request ≡ true
  begins-so c [] rest h e = e
  begins-so c (s ∷ ss) rest h e = sym (ap begins (append_assoc (stmt_lines s) (body_lines ss) (Else ∷ rest)) ∙ h.0.first c (body_lines ss ++ Else ∷ rest)) ∙ e

  txn-walked : (t : ComId) (a b : Body) → AllByRecursion Walked a.stmts.items → AllByRecursion Walked b.stmts.items → Walked (stmt.Txn t a b)
  txn-walked t a b x y = record {
    goes = λ w rest h.
        let sa = shapes program (own_id w) a.stmts.items in
        let sb = shapes program (own_id w) b.stmts.items in
        let k = subst (λ ls. AllStand program w (ls ++ rest)) (txn_lines t a b (body_lines a.stmts.items) (body_lines b.stmts.items) refl refl) h in
        let z = bodies (record w { count = suc w.count }) (Some t) None a.stmts.items b.stmts.items rest x y k.0.0 (split-bodies (next (Txn t) w) (body_lines a.stmts.items) (body_lines b.stmts.items) rest k.1) in
        let request = begins-so (own_id w) a.stmts.items (body_lines b.stmts.items ++ End ∷ rest) x
        (sym (ap begins (append_assoc (body_lines a.stmts.items) (Else ∷ (body_lines b.stmts.items ++ End ∷ [])) rest ∙ ap (λ ls. body_lines a.stmts.items ++ Else ∷ ls) (append_assoc (body_lines b.stmts.items) (End ∷ []) rest))) ∙ k.0.3)
        in
        subst (λ s. Through w s rest) (sym (shape-Txn program (own_id w) t a b)) (record {
          fits = both-true (is_none (place_in w.blocks)) (is_a_tcom program t && (sa.request && (sa.stands (Some t) && sb.stands None))) k.0.1
              (both-true (is_a_tcom program t) (sa.request && (sa.stands (Some t) && sb.stands None)) k.0.2 (both-true sa.request (sa.stands (Some t) && sb.stands None) request (both-true (sa.stands (Some t)) (sb.stands None) z.first z.second)));
          few = let f = z.few in omega (arith, f);
          after = subst (λ v. AllStand program v rest) (plus-one w (sa.size + sb.size)) z.after;
        });
    first = λ c rest. ap (λ ls. begins (ls ++ rest)) (txn_lines t a b (body_lines a.stmts.items) (body_lines b.stmts.items) refl refl) ∙ ap (λ s. s.request) (sym (shape-Txn program c t a b));
  }

  kinds : Kinds Walked
  kinds = record {
    set = λ i e. single (stmt.Set i e) (Set i e) (λ c. shape_stmt program c (opens.Set i e)) (set_lines i e) (λ c. shape-Set program c i e) (λ c. refl) (λ c rest. refl) (λ w rest. refl) (λ w rest h. (h, refl));
    send = λ to n es. single (stmt.Send to n es) (Send to n es) (λ c. shape_stmt program c (opens.Send to n es)) (send_lines to n es) (λ c. shape-Send program c to n es) (λ c. refl) (λ c rest. refl) (λ w rest. refl) (λ w rest h. h);
    out = λ to es. single (stmt.Out to es) (Out to es) (λ c. shape_stmt program c (opens.Out to es)) (out_lines to es) (λ c. shape-Out program c to es) (λ c. refl) (λ c rest. refl) (λ w rest. refl) (λ w rest h. h);
    choice = if-walked;
    part = txn-walked;
    get = λ i key. single (stmt.Get i key) (Get i key) (λ c. shape_stmt program c (opens.Get i key)) (get_lines i key) (λ c. shape-Get program c i key) (λ c. refl) (λ c rest. refl) (λ w rest. refl) (λ w rest h. h);
    put = λ key e. single (stmt.Put key e) (Put key e) (λ c. shape_stmt program c (opens.Put key e)) (put_lines key e) (λ c. shape-Put program c key e) (λ c. refl) (λ c rest. refl) (λ w rest. refl) (λ w rest h. h);
    need = λ line e. single (stmt.Need line e) (Need line e) (λ c. shape_stmt program c (opens.Need line e)) (need_lines line e) (λ c. shape-Need program c line e) (λ c. refl) (λ c rest. refl) (λ w rest. refl) (λ w rest h. h);
  }

  -- the lines of a handler's statements
  pub body-placed : (ss : List Stmt) (w : Walk) (rest : List Line) → w.count ≤ STATEMENTS → AllStand program w (body_lines ss ++ rest)
      → ((shapes program (own_id w) ss).stands (place_in w.blocks) ≡ true) × (w.count + (shapes program (own_id w) ss).size ≤ STATEMENTS) × AllStand program (on (shapes program (own_id w) ss).size w) rest
  body-placed ss w rest le h = let x = all-goes ss (each_of Walked kinds ss) w rest le h in (x.fits, x.few, x.after)
