-- A part makes fewer requests than its handler has statements.
use Rattle.std.proofs.Common.{◌≡◌, refl, ◌∙◌, sym, ap, subst, ⊎_elim, inl, inr, ◌⊎◌, ℕ, zero, suc, ◌+◌, ◌<◌, ◌≤◌, ℤ, Bool, true, false, cond, List, [], ◌∷◌, ◌++◌, map, length, slice_get, Option, Some, None, arith}
use Rattle.std.specs.Prelude.{⊤}
use Rattle.std.specs.List.{AllByRecursion}
use Rattle.std.proofs.lemmas.List.Sums.{sum_by-cons}
use Rattle.ic_base.specs.declared.messages.ComId.{ComId}
use Rattle.ic_base.specs.declared.messages.Done.{Done}
use Rattle.ic_base.specs.declared.messages.Done.TheVariants.{Committed, Aborted}
use Rattle.ic_base.specs.declared.messages.Request.{Request}
use Rattle.ic_base.specs.declared.messages.Request.TheVariants.{Get as AGet, Put as APut}
use Rattle.ic_base.specs.declared.played.Played.{Played}
use Rattle.ic_base.specs.declared.played.Played.TheVariants.{Asks, Ready, NeedFails, Ends}
use Rattle.ic_base.specs.declared.scenario.Stmt.{Stmt}
use Rattle.def_play.specs.Playing.{Change, Evaluation, Part, Turn, Goes, Stops, turn, and_then, choose, holds, asked, ready, transaction, expr_value, no_part, start, result_of, played_all}
use Rattle.def_play.proofs.Folds.{all_turns, turn-Set, turn-Send, turn-Out, turn-If, turn-Txn, turn-Get, turn-Put, turn-Need}
use Rattle.ic_eval.specs.Counts.{count_of, count_of_all}
use Rattle.ic_eval.proofs.Counts.{count_of-Set, count_of-Send, count_of-Out, count_of-If, count_of-Txn, count_of-Get, count_of-Put, count_of-Need}
use Rattle.def_play.proofs.ByKind.{Kinds, each_of}

-- what asks is the present part, with few answers; or else it asks so whatever the present part is answered
abbrev AsksEarly : (List ℤ → Turn) → ℕ → List ℤ → List ℤ → Evaluation → Played → Type 0
AsksEarly run n now answers s r = (length now + 1 < n) ⊎ (((other : List ℤ) → run other ≡ Stops r) × ((length answers < s.place + n) ⊎ (s.left ≡ [] → ⊥)))

-- a turn of n statements passes at most n requests
abbrev Passes : (List ℤ → Turn) → ℕ → List ℤ → List ℤ → Evaluation → Turn → Type 0
Passes run n now answers s (Goes u) = ((other : List ℤ) → run other ≡ Goes u) × (u.place ≤ s.place + n) × (s.left ≡ [] → u.left ≡ [])
Passes run n now answers s (Stops (Asks t q)) = AsksEarly run n now answers s (Asks t q)
Passes run n now answers s (Stops (Ready t)) = ⊤
Passes run n now answers s (Stops (NeedFails t line)) = ⊤
Passes run n now answers s (Stops (Ends vars sends outs)) = ⊤

abbrev PassesFew : (List ℤ → Change) → ℕ → Type 0
PassesFew f n = (now : List ℤ) (p : Part) (s : Evaluation) → Passes (λ other. f other p s) n now p.answers s (f now p s)

-- another way to say the same run
run_by : (run to : List ℤ → Turn) (n : ℕ) (now answers : List ℤ) (s : Evaluation) (x y : Turn) → ((other : List ℤ) → run other ≡ to other) → x ≡ y → Passes to n now answers s y → Passes run n now answers s x
run_by run to n now answers s x (Goes u) same is h =
    let P : Turn → Type 0 = Passes run n now answers s in
    subst P (sym is) ((λ o. same o ∙ h.0 o), h.1, h.2)
run_by run to n now answers s x (Stops (Asks t q)) same is h =
    let P : Turn → Type 0 = Passes run n now answers s in
    subst P (sym is) (⊎_elim (λ few. inl few) (λ k. inr ((λ o. same o ∙ k.0 o), k.1)) h)
run_by run to n now answers s x (Stops (Ready t)) same is h = let P : Turn → Type 0 = Passes run n now answers s in subst P (sym is) tt
run_by run to n now answers s x (Stops (NeedFails t line)) same is h = let P : Turn → Type 0 = Passes run n now answers s in subst P (sym is) tt
run_by run to n now answers s x (Stops (Ends vars sends outs)) same is h = let P : Turn → Type 0 = Passes run n now answers s in subst P (sym is) tt

-- a greater number, the same or other results left, and the same or another place
passes_more : (run : List ℤ → Turn) (m n : ℕ) (now answers : List ℤ) (s : Evaluation) (x : Turn) → m ≤ n → Passes run m now answers s x → Passes run n now answers s x
passes_more run m n now answers s (Goes u) le h = (h.0, omega (arith, h.1, le), h.2)
passes_more run m n now answers s (Stops (Asks t q)) le h =
    ⊎_elim (λ few. inl (omega (arith, few, le))) (λ k. inr (k.0, ⊎_elim (λ few. inl (omega (arith, few, le))) (λ some. inr some) k.1)) h
passes_more run m n now answers s (Stops (Ready t)) le h = tt
passes_more run m n now answers s (Stops (NeedFails t line)) le h = tt
passes_more run m n now answers s (Stops (Ends vars sends outs)) le h = tt

-- statements behind one that goes on
goes_on : (run : List ℤ → Turn) (g : List ℤ → Change) (m n : ℕ) (now : List ℤ) (p : Part) (s u : Evaluation) (y : Turn) → ((other : List ℤ) → run other ≡ g other p u) → u.place ≤ s.place + m → (s.left ≡ [] → u.left ≡ []) → Passes (λ other. g other p u) n now p.answers u y → Passes run (m + n) now p.answers s y
goes_on run g m n now p s u (Goes w) same le none h = ((λ o. same o ∙ h.0 o), omega (arith, le, h.1), (λ e. h.2 (none e)))
goes_on run g m n now p s u (Stops (Asks t q)) same le none h =
    ⊎_elim (λ few. inl (omega (arith, few))) (λ k. inr ((λ o. same o ∙ k.0 o), ⊎_elim (λ few. inl (omega (arith, few, le))) (λ some. inr (λ e. some (none e))) k.1)) h
goes_on run g m n now p s u (Stops (Ready t)) same le none h = tt
goes_on run g m n now p s u (Stops (NeedFails t line)) same le none h = tt
goes_on run g m n now p s u (Stops (Ends vars sends outs)) same le none h = tt

then_passes : (run : List ℤ → Turn) (g : List ℤ → Change) (m n : ℕ) (now : List ℤ) (p : Part) (s : Evaluation) (x : Turn) → PassesFew g n → Passes run m now p.answers s x → Passes (λ other. and_then (run other) (g other p)) (m + n) now p.answers s (and_then x (g now p))
then_passes run g m n now p s (Goes u) few h =
    goes_on (λ o. and_then (run o) (g o p)) g m n now p s u (g now p u) (λ o. ap (λ z. and_then z (g o p)) (h.0 o)) h.1 h.2 (few now p u)
then_passes run g m n now p s (Stops (Asks t q)) few h =
    ⊎_elim (λ some. inl (omega (arith, some))) (λ k. inr ((λ o. ap (λ z. and_then z (g o p)) (k.0 o)), ⊎_elim (λ some. inl (omega (arith, some))) (λ some. inr some) k.1)) h
then_passes run g m n now p s (Stops (Ready t)) few h = tt
then_passes run g m n now p s (Stops (NeedFails t line)) few h = tt
then_passes run g m n now p s (Stops (Ends vars sends outs)) few h = tt

abbrev PassesFewStmt : Stmt → Type 0
PassesFewStmt s = (args : List ℤ) → PassesFew (λ now. turn args now s) (count_of s)

place_of : (n : ℕ) → n ≤ n + 0
place_of n = omega arith

pub all_pass : (ss : List Stmt) → AllByRecursion PassesFewStmt ss → (args : List ℤ) → PassesFew (λ now. all_turns args now ss) (count_of_all ss)
all_pass [] each args now p s = ((λ o. refl), place_of s.place, (λ e. e))
all_pass (x ∷ ss) each args now p s =
    let P : ℕ → Type 0 = λ n. Passes (λ o. all_turns args o (x ∷ ss) p s) n now p.answers s (all_turns args now (x ∷ ss) p s) in
    subst P (sym (sum_by-cons (λ n. n) (count_of x) (map count_of ss)))
    (then_passes (λ o. turn args o x p s) (λ o. all_turns args o ss) (count_of x) (count_of_all ss) now p s (turn args now x p s) (all_pass ss each.1 args) (each.0 args now p s))

chosen_passes : (b : Bool) (f g : List ℤ → Change) (m n : ℕ) (now : List ℤ) (p : Part) (s : Evaluation) → PassesFew f m → PassesFew g n → Passes (λ other. choose b (f other) (g other) p s) (1 + (m + n)) now p.answers s (choose b (f now) (g now) p s)
chosen_passes true f g m n now p s a b = passes_more _ m (1 + (m + n)) now p.answers s _ (omega arith) (a now p s)
chosen_passes false f g m n now p s a b = passes_more _ n (1 + (m + n)) now p.answers s _ (omega arith) (b now p s)

-- statements that begin where a result was left
left_passes : (run : List ℤ → Turn) (m n : ℕ) (now answers own : List ℤ) (s v : Evaluation) (x : Turn) → m ≤ n → v.place ≤ s.place → (s.left ≡ [] → ⊥) → Passes run m now own v x → Passes run n now answers s x
left_passes run m n now answers own s v (Goes u) le at some h = (h.0, omega (arith, h.1, le, at), (λ e. absurd (some e)))
left_passes run m n now answers own s v (Stops (Asks t q)) le at some h = ⊎_elim (λ few. inl (omega (arith, few, le))) (λ k. inr (k.0, inr some)) h
left_passes run m n now answers own s v (Stops (Ready t)) le at some h = tt
left_passes run m n now answers own s v (Stops (NeedFails t line)) le at some h = tt
left_passes run m n now answers own s v (Stops (Ends vars sends outs)) le at some h = tt

-- the present part
ready_passes : (t : ComId) (run to : List ℤ → Turn) (m n : ℕ) (now answers : List ℤ) (s v : Evaluation) (x : Turn) → 1 + m ≤ n → v.place ≡ 0 → v.left ≡ [] → Passes to m now now v x → Passes run n now answers s (ready t x)
ready_passes t run to m n now answers s v (Goes u) le at none h = tt
ready_passes t run to m n now answers s v (Stops (Asks u q)) le at none h =
    ⊎_elim (λ few. inl (omega (arith, few, le))) (λ k. ⊎_elim (λ few. inl (omega (arith, few, le, at))) (λ some. absurd (some none)) k.1) h
ready_passes t run to m n now answers s v (Stops (Ready u)) le at none h = tt
ready_passes t run to m n now answers s v (Stops (NeedFails u line)) le at none h = tt
ready_passes t run to m n now answers s v (Stops (Ends vars sends outs)) le at none h = tt

some_left : (d : Done) (done : List Done) → d ∷ done ≡ [] → ⊥
some_left d done e = absurd (cc)

part_passes : (t : ComId) (f g : List ℤ → Change) (m n : ℕ) (now : List ℤ) (p : Part) (s : Evaluation) (left : List Done) → PassesFew f m → PassesFew g n → Passes (λ other. transaction other t (f other) (g other) left p (record s { left = left })) (1 + (m + n)) now p.answers (record s { left = left }) (transaction now t (f now) (g now) left p (record s { left = left }))
part_passes t f g m n now p s [] a b =
    ready_passes t _ (λ o. f o (record { tcom = t; answers = now }) (record s { left = []; place = 0 })) m (1 + (m + n)) now p.answers (record s { left = [] }) (record s { left = []; place = 0 }) _ (omega arith) refl refl (a now (record { tcom = t; answers = now }) (record s { left = []; place = 0 }))
part_passes t f g m n now p s (Aborted ∷ left) a b =
    left_passes _ n (1 + (m + n)) now p.answers p.answers (record s { left = Aborted ∷ left }) (record s { left = left }) _ (omega arith) (omega arith) (some_left Aborted left) (b now p (record s { left = left }))
part_passes t f g m n now p s (Committed xs ∷ left) a b =
    left_passes _ m (1 + (m + n)) now p.answers xs (record s { left = Committed xs ∷ left }) (record s { left = left; place = 0 }) _ (omega arith) (omega arith) (some_left (Committed xs) left) (a now (record { tcom = t; answers = xs }) (record s { left = left; place = 0 }))

none_past : (xs : List ℤ) (i : ℕ) → slice_get xs i ≡ None → length xs < i + 1
none_past [] i h = omega arith
none_past (x ∷ xs) zero h = absurd (cc)
none_past (x ∷ xs) (suc i) h = omega (arith, none_past xs i h)

asked_passes : (t : ComId) (q : Request) (answers now : List ℤ) (s : Evaluation) (o : Option ℤ) (more : ℤ → Evaluation) → slice_get answers s.place ≡ o → ((v : ℤ) → (more v).place ≡ s.place + 1) → ((v : ℤ) → (more v).left ≡ s.left) → Passes (λ other. asked t q o (λ v. Goes (more v))) 1 now answers s (asked t q o (λ v. Goes (more v)))
asked_passes t q answers now s None more is at left = inr ((λ o. refl), inl (none_past answers s.place is))
asked_passes t q answers now s (Some v) more is at left = ((λ o. refl), omega (arith, at v), (λ e. left v ∙ e))

goes_passes : (n : ℕ) (now answers : List ℤ) (s u : Evaluation) → u.place ≡ s.place → u.left ≡ s.left → Passes (λ other. Goes u) n now answers s (Goes u)
goes_passes n now answers s u at left = ((λ o. refl), omega (arith, at), (λ e. left ∙ e))

needed_passes : (b : Bool) (t : ComId) (line n : ℕ) (now answers : List ℤ) (s : Evaluation) → Passes (λ other. cond b (Goes s) (Stops (NeedFails t line))) n now answers s (cond b (Goes s) (Stops (NeedFails t line)))
needed_passes true t line n now answers s = goes_passes n now answers s s refl refl
needed_passes false t line n now answers s = tt

-- a change of a known number of statements
few_by : (f g : List ℤ → Change) (m n : ℕ) → ((other : List ℤ) → f other ≡ g other) → m ≡ n → PassesFew g n → PassesFew f m
few_by f g m n same is h now p s =
    let P : ℕ → Type 0 = λ k. Passes (λ o. f o p s) k now p.answers s (f now p s) in
    subst P (sym is) (run_by (λ o. f o p s) (λ o. g o p s) n now p.answers s (f now p s) (g now p s) (λ o. ap (λ z. z p s) (same o)) (ap (λ z. z p s) (same now)) (h now p s))

stmts_pass : Kinds PassesFewStmt
stmts_pass = record {
  set = λ i e args. few_by _ _ _ 1 (λ o. turn-Set args o i e) (count_of-Set i e) (λ now p s. goes_passes 1 now p.answers s _ refl refl);
  send = λ to h es args. few_by _ _ _ 1 (λ o. turn-Send args o to h es) (count_of-Send to h es) (λ now p s. goes_passes 1 now p.answers s _ refl refl);
  out = λ to es args. few_by _ _ _ 1 (λ o. turn-Out args o to es) (count_of-Out to es) (λ now p s. goes_passes 1 now p.answers s _ refl refl);
  choice = λ e a b x y args. few_by _ _ _ _ (λ o. turn-If args o e a b) (count_of-If e a b)
      (λ now p s. chosen_passes (holds (expr_value args s e)) (λ o. all_turns args o a.stmts.items) (λ o. all_turns args o b.stmts.items) (count_of_all a.stmts.items) (count_of_all b.stmts.items) now p s (all_pass a.stmts.items x args) (all_pass b.stmts.items y args));
  part = λ t a b x y args. few_by _ _ _ _ (λ o. turn-Txn args o t a b) (count_of-Txn t a b)
      (λ now p s. part_passes t (λ o. all_turns args o a.stmts.items) (λ o. all_turns args o b.stmts.items) (count_of_all a.stmts.items) (count_of_all b.stmts.items) now p s s.left (all_pass a.stmts.items x args) (all_pass b.stmts.items y args));
  get = λ i key args. few_by _ _ _ 1 (λ o. turn-Get args o i key) (count_of-Get i key)
      (λ now p s. asked_passes p.tcom (AGet key) p.answers now s (slice_get p.answers s.place) (λ v. record s { locals = s.locals ++ (i, v) ∷ []; place = s.place + 1 }) refl (λ v. refl) (λ v. refl));
  put = λ key e args. few_by _ _ _ 1 (λ o. turn-Put args o key e) (count_of-Put key e)
      (λ now p s. asked_passes p.tcom (APut key (expr_value args s e)) p.answers now s (slice_get p.answers s.place) (λ v. record s { place = s.place + 1 }) refl (λ v. refl) (λ v. refl));
  need = λ line e args. few_by _ _ _ 1 (λ o. turn-Need args o line e) (count_of-Need line e)
      (λ now p s. needed_passes (holds (expr_value args s e)) p.tcom line 1 now p.answers s);
}

asks_whatever : (run : List ℤ → Turn) (n : ℕ) (now : List ℤ) (s : Evaluation) (x : Turn) (other : List ℤ) (t : ComId) (q : Request) → n ≤ 256 → 255 ≤ length now → Passes run n now [] s x → result_of x ≡ Asks t q → result_of (run other) ≡ Asks t q
asks_whatever run n now s (Goes u) other t q few many h is = absurd (cc)
asks_whatever run n now s (Stops (Asks u r)) other t q few many h is = ⊎_elim (λ le. absurd (omega (arith, le, few, many))) (λ k. ap result_of (k.0 other) ∙ is) h
asks_whatever run n now s (Stops (Ready u)) other t q few many h is = absurd (cc)
asks_whatever run n now s (Stops (NeedFails u line)) other t q few many h is = absurd (cc)
asks_whatever run n now s (Stops (Ends vars sends outs)) other t q few many h is = absurd (cc)

-- with 255 answers, what asks isn't the present part
pub asks_no_more : (stmts : List Stmt) (vars args : List ℤ) (done : List Done) (now other : List ℤ) (t : ComId) (q : Request) → count_of_all stmts ≤ 256 → 255 ≤ length now → played_all stmts vars args done now ≡ Asks t q → played_all stmts vars args done other ≡ Asks t q
asks_no_more stmts vars args done now other t q few many is =
    asks_whatever (λ o. all_turns args o stmts no_part (start vars done)) (count_of_all stmts) now (start vars done) (all_turns args now stmts no_part (start vars done)) other t q few many (all_pass stmts (each_of PassesFewStmt stmts_pass stmts) args now no_part (start vars done)) is
