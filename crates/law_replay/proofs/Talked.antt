-- What a replayed state says of its transactions: each answer was asked for, all are of one session, and stand in the order of their places.
use Rattle.std.proofs.Common.{◌≡◌, refl, ◌∙◌, ap, sym, subst, ℕ, zero, suc, ◌+◌, ◌<◌, true, false, not, ◌&&◌, ◌==◌, List, [], ◌∷◌, ◌++◌, length, map, take, ℤ, Option, Some, None, option_map, is_none, arith, ◌⊎◌, inl, inr}
use Rattle.std.specs.Prelude.{⊤}
use Rattle.std.proofs.lemmas.Option.{same_Some}
use Rattle.ic_base.specs.declared.messages.ComId.{ComId}
use Rattle.ic_base.specs.declared.messages.Done.{Done}
use Rattle.ic_base.specs.declared.messages.Request.{Request}
use Rattle.ic_base.specs.declared.messages.Session.{Session}
use Rattle.ic_base.specs.declared.played.Played.{Played}
use Rattle.ic_base.specs.declared.played.Played.TheVariants.{Asks, Ready, NeedFails, Ends}
use Rattle.ic_base.specs.declared.scenario.Program.{Program}
use Rattle.ic_base.specs.declared.record.Record.{Record}
use Rattle.def_play.specs.Playing.{played, handler_of}
use Rattle.def_plain.specs.declared.world.PlainPcom.{PlainPcom}
use Rattle.def_plain.specs.declared.world.InHand.{InHand}
use Rattle.def_plain.specs.Cell.{Touch, TakesMessage, TakesInput, SeesAbort, SeesCommit, cell_step, come_to, plays_on, transaction_ends, hand_played, new_in_hand, has_taken, takes}
use Rattle.def_state.specs.Txn.{Stage, Idle, Waiting, Answered, Committing}
use Rattle.def_state.specs.Hist.{Hist, is_at_request, hand_plays, first_stage, opened}
use Rattle.def_facts.specs.Logs.{values_of, Got, in_places}
use Rattle.def_facts.specs.Playable.{AreResults, IsResult}
use Rattle.law_replay.specs.Asking.{TxnAsked}
use Rattle.law_replay.proofs.Lists.{none-some, clash, provided-is}
use Rattle.law_replay.proofs.Results.{no-results, more-results}

-- what is in hand: the results that it had are those that its parts came to, and its part asked t first
pub record Opened (program : Program) (c : ComId) (p : PlainPcom) (t : ComId) : Type 0 where
  pub hand : InHand
  pub is_hand : p.hand ≡ Some hand
  pub results : AreResults program c hand.handler p.vars hand.args hand.done
  pub request : Request
  pub asks : played program c hand.handler p.vars hand.args hand.done [] ≡ Asks t request

-- where the open transaction stands, with the answers recorded of it
abbrev pub StageIs : Program → ComId → List Got → PlainPcom → List ℤ → Stage → Type 0
StageIs program c gots p now Idle = p.hand ≡ None
StageIs program c gots p now (Waiting t place session q) =
    (x : Opened program c p t) × (length now ≡ place) × (hand_plays program c p.vars now x.hand ≡ Asks t q) × (((place ≡ 0) × (session ≡ None)) ⊎ ((s : Session) × (session ≡ Some s) × (gots ≡ in_places 0 s now)))
StageIs program c gots p now (Answered t place session q) = Opened program c p t × (gots ≡ in_places 0 session now)
StageIs program c gots p now (Committing t place session) =
    (x : Opened program c p t) × (length now ≡ place) × (0 < place) × (hand_plays program c p.vars now x.hand ≡ Ready t) × (gots ≡ in_places 0 session now)

pub record Talking (program : Program) (c : ComId) (rs : List Record) (h : Hist) : Type 0 where
  pub stage : StageIs program c (values_of rs h.plain.begun) h.plain h.now h.stage
  pub each : (n : ℕ) → TxnAsked program c (values_of rs n) (opened h n)

-- lists -----------------------------------------------------------------------------------------------

pub places-snoc : (p : ℕ) (s : Session) (vs : List ℤ) (v : ℤ) → in_places p s (vs ++ v ∷ []) ≡ in_places p s vs ++ record { place = p + length vs; session = s; value = v } ∷ []
places-snoc p s [] v = ap (λ i. record { place = i; session = s; value = v } ∷ []) (plus p)
  where
    plus : (n : ℕ) → n ≡ n + 0
    plus n = omega arith
places-snoc p s (x ∷ vs) v =
    ap (λ l. record { place = p; session = s; value = x } ∷ l) (places-snoc (p + 1) s vs v ∙ ap (λ i. in_places (p + 1) s vs ++ record { place = i; session = s; value = v } ∷ []) (plus p (length vs)))
  where
    plus : (n m : ℕ) → (n + 1) + m ≡ n + suc m
    plus n m = omega arith

pub take-front : (i : ℕ) (vs : List ℤ) (v : ℤ) → i < length vs → take i (vs ++ v ∷ []) ≡ take i vs
take-front zero vs v lt = refl
take-front (suc i) [] v lt = absurd (none i lt)
  where
    none : (n : ℕ) → suc n < 0 → ⊥
    none n l = omega (arith, l)
take-front (suc i) (x ∷ vs) v lt = ap (λ l. x ∷ l) (take-front i vs v (less i (length vs) lt))
  where
    less : (n m : ℕ) → suc n < suc m → n < m
    less n m l = omega (arith, l)

pub take-whole : (i : ℕ) (vs : List ℤ) (v : ℤ) → i ≡ length vs → take i (vs ++ v ∷ []) ≡ vs
take-whole zero [] v e = refl
take-whole zero (x ∷ vs) v e = absurd (none (length vs) e)
  where
    none : (n : ℕ) → 0 ≡ suc n → ⊥
    none n l = omega (arith, l)
take-whole (suc i) [] v e = absurd (none i e)
  where
    none : (n : ℕ) → suc n ≡ 0 → ⊥
    none n l = omega (arith, l)
take-whole (suc i) (x ∷ vs) v e = ap (λ l. x ∷ l) (take-whole i vs v (same i (length vs) e))
  where
    same : (n m : ℕ) → suc n ≡ suc m → n ≡ m
    same n m l = omega (arith, l)

pub empty-of : {A : Type 0} (xs : List A) → length xs ≡ 0 → xs ≡ []
empty-of [] e = refl
empty-of (x ∷ xs) e = absurd (none (length xs) e)
  where
    none : (n : ℕ) → suc n ≡ 0 → ⊥
    none n l = omega (arith, l)

pub no-gots : (gots : List Got) → map (λ (g : Got). g.value) gots ≡ [] → gots ≡ []
no-gots [] e = refl
no-gots (g ∷ gots) e = absurd (cc)

-- a touch ---------------------------------------------------------------------------------------------

-- what a cell that has played on has in hand is what it played
pub come-hand : (p : PlainPcom) (hand x : InHand) (r : Played) → (come_to (record p { hand = Some hand }) r).hand ≡ Some x → (hand ≡ x) × ((come_to (record p { hand = Some hand }) r).vars ≡ p.vars)
come-hand p hand x (Ends vars sends outs) e = none-some x e
come-hand p hand x (Asks t q) e = (same_Some hand x e, refl)
come-hand p hand x (Ready t) e = (same_Some hand x e, refl)
come-hand p hand x (NeedFails t line) e = (same_Some hand x e, refl)

-- the results that the touch leaves in hand
pub AllResults : Program → ComId → PlainPcom → Type 0
AllResults program c p = (x : InHand) → p.hand ≡ Some x → AreResults program c x.handler p.vars x.args x.done

pub plays-results : (program : Program) (c : ComId) (p : PlainPcom) (hand : InHand) → AreResults program c hand.handler p.vars hand.args hand.done → AllResults program c (plays_on program c p hand)
unfolding AllResults
plays-results program c p hand are x e =
    let y = come-hand p hand x (hand_played program c p hand []) e in
    subst (λ (z : InHand). AreResults program c z.handler (plays_on program c p hand).vars z.args z.done) y.0 (subst (λ vs. AreResults program c hand.handler vs hand.args hand.done) (sym y.1) are)

-- a list with one more item, split
pub snoc-split : {A : Type 0} (xs pre post : List A) (y d : A) → xs ++ y ∷ [] ≡ pre ++ d ∷ post → ((more : List A) × (xs ≡ pre ++ d ∷ more)) ⊎ ((xs ≡ pre) × (y ≡ d))
snoc-split {A} [] [] post y d e = inr (refl, ap head e)
  where
    head : List A → A
    head [] = y
    head (a ∷ l) = a
snoc-split [] (x ∷ []) post y d e = absurd (cc)
snoc-split [] (x ∷ z ∷ pre) post y d e = absurd (cc)
snoc-split {A} (x ∷ xs) [] post y d e = inl (xs, ap (λ a. a ∷ xs) (ap head e))
  where
    head : List A → A
    head [] = x
    head (a ∷ l) = a
snoc-split {A} (x ∷ xs) (z ∷ pre) post y d e = by (snoc-split xs pre post y d (ap tail e))
  where
    tail : List A → List A
    tail [] = []
    tail (a ∷ l) = l

    head : List A → A
    head [] = x
    head (a ∷ l) = a

    by : ((more : List A) × (xs ≡ pre ++ d ∷ more)) ⊎ ((xs ≡ pre) × (y ≡ d)) → ((more : List A) × (x ∷ xs ≡ (z ∷ pre) ++ d ∷ more)) ⊎ ((x ∷ xs ≡ z ∷ pre) × (y ≡ d))
    by (inl a) = inl (a.0, ap (λ b. b ∷ xs) (ap head e) ∙ ap (λ l. z ∷ l) a.1)
    by (inr a) = inr (ap (λ b. b ∷ xs) (ap head e) ∙ ap (λ l. z ∷ l) a.0, a.1)

pub ends-results : (program : Program) (c : ComId) (p q : PlainPcom) (n : ℕ) (d : Done) (o : Option InHand) → ((x : InHand) → o ≡ Some x → AreResults program c x.handler p.vars x.args x.done × IsResult program c x.handler p.vars x.args x.done d) → transaction_ends program c p n d o ≡ Some q → AllResults program c q
ends-results program c p q n d None are e = none-some q e
ends-results program c p q n d (Some x) are e =
    let y = are x refl in
    subst (AllResults program c) (provided-is (p.begun == n) (plays_on program c p (record x { done = x.done ++ d ∷ [] })) q e)
    (plays-results program c p (record x { done = x.done ++ d ∷ [] }) (more-results program c x.handler p.vars x.args x.done d y.0 y.1))

pub new-results : (program : Program) (c : ComId) (p : PlainPcom) (handler : ℕ) (args : List ℤ) → AllResults program c (plays_on program c p (new_in_hand handler args))
new-results program c p handler args = plays-results program c p (new_in_hand handler args) (no-results program c handler p.vars args)

-- what a touch may leave
unfoldable pub Touching : Program → ComId → PlainPcom → Touch → Type 0
Touching program c p (TakesMessage s k h args) = ⊤
Touching program c p (TakesInput h args) = ⊤
Touching program c p (SeesAbort n) = (x : InHand) → p.hand ≡ Some x → AreResults program c x.handler p.vars x.args x.done × IsResult program c x.handler p.vars x.args x.done Done.Aborted
Touching program c p (SeesCommit n now) = (x : InHand) → p.hand ≡ Some x → AreResults program c x.handler p.vars x.args x.done × IsResult program c x.handler p.vars x.args x.done (Done.Committed now)

pub touch-results : (program : Program) (c : ComId) (p q : PlainPcom) (t : Touch) → Touching program c p t → cell_step program c p t ≡ Some q → AllResults program c q
unfolding Touching
touch-results program c p q (TakesMessage s k h args) are e =
    subst (AllResults program c) (provided-is (is_none p.hand && not (has_taken p s k)) (plays_on program c (record p { receipts = p.receipts ++ (s, k) ∷ [] }) (new_in_hand h args)) q e) (new-results program c (record p { receipts = p.receipts ++ (s, k) ∷ [] }) h args)
touch-results program c p q (TakesInput h args) are e = subst (AllResults program c) (provided-is (is_none p.hand && takes (handler_of program c h) args) (plays_on program c p (new_in_hand h args)) q e) (new-results program c p h args)
touch-results program c p q (SeesAbort n) are e = ends-results program c p q n Done.Aborted p.hand are e
touch-results program c p q (SeesCommit n now) are e = ends-results program c p q n (Done.Committed now) p.hand are e

-- a cell that has just played on stands at the first request of a part, or has nothing in hand
pub stage-first : (program : Program) (c : ComId) (gots : List Got) (p : PlainPcom) (o : Option InHand) → p.hand ≡ o → is_at_request (option_map (hand_plays program c p.vars []) o) ≡ true → AllResults program c p → StageIs program c gots p [] (first_stage (option_map (hand_plays program c p.vars []) o))
unfolding AllResults
stage-first program c gots p None is ask are = is
stage-first program c gots p (Some x) is ask are = at (hand_plays program c p.vars [] x) refl ask
  where
    at : (r : Played) → hand_plays program c p.vars [] x ≡ r → is_at_request (Some r) ≡ true → StageIs program c gots p [] (first_stage (Some r))
    at (Asks t q) e ok = (record { hand = x; is_hand = is; results = are x is; request = q; asks = e }, refl, e, inl (refl, refl))
    at (Ready t) e ok = clash false ok refl
    at (NeedFails t line) e ok = clash false ok refl
    at (Ends vars sends outs) e ok = clash false ok refl

pub map-places : (p : ℕ) (session : Session) (vs : List ℤ) → map (λ g. g.value) (in_places p session vs) ≡ vs
map-places p session [] = refl
map-places p session (v ∷ vs) = ap (λ l. v ∷ l) (map-places (p + 1) session vs)
