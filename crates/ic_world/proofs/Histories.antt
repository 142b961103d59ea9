-- How many entries the merged history of a world's logs has.
use Rattle.std.proofs.Common.{◌≡◌, ◌∙◌, ◌⊎◌, inl, inr, refl, sym, ap, ℕ, zero, suc, ◌+◌, ◌<◌, ◌≤◌, min, Bool, true, false, cond, List, [], ◌∷◌, ◌++◌, map, length, length-append, drop, drop-cons, get_or, arith}
use Rattle.std.proofs.lemmas.Bool.{cases_lt}
use Rattle.std.proofs.lemmas.List.{drop_all}
use Rattle.ic_base.specs.declared.messages.ComId.{ComId}
use Rattle.ic_base.specs.declared.scenario.Component.{Component}
use Rattle.ic_base.specs.declared.record.Record.{Record}
use Rattle.def_plain.specs.History.{log_entries, entries_from, placed, in_order}

-- an order keeps the length
placed_long : {A : Type 0} (lt : A → A → Bool) (e : A) (xs : List A) → length (placed lt e xs) ≡ suc (length xs)
placed_long lt e [] = refl
placed_long lt e (x ∷ xs) = by (lt x e) (placed_long lt e xs)
  where
    by : (b : Bool) → length (placed lt e xs) ≡ suc (length xs) → length (cond b (x ∷ placed lt e xs) (e ∷ x ∷ xs)) ≡ suc (suc (length xs))
    by true more = ap suc more
    by false more = refl

pub ordered_long : {A : Type 0} (lt : A → A → Bool) (xs : List A) → length (in_order lt xs) ≡ length xs
ordered_long lt [] = refl
ordered_long lt (x ∷ xs) = placed_long lt x (in_order lt xs) ∙ ap suc (ordered_long lt xs)

-- the entries from one component on are its own and those behind
pub next_counted : (i : ℕ) (xs : List Component) (logs : List (List Record)) (x : Component) (log : List Record) → i < length xs → i < length logs → x ≡ get_or xs i x → log ≡ get_or logs i log
    → length (entries_from i (drop i xs) (drop i logs)) ≡ length (log_entries x.kind (record { 0 = i }) log) + length (entries_from (i + 1) (drop (i + 1) xs) (drop (i + 1) logs))
next_counted i xs logs x log few less at held =
    let xs_so : drop i xs ≡ x ∷ drop (suc i) xs = drop-cons xs i x few ∙ ap (λ y. y ∷ drop (suc i) xs) (sym at) in
    let logs_so : drop i logs ≡ log ∷ drop (suc i) logs = drop-cons logs i log less ∙ ap (λ l. l ∷ drop (suc i) logs) (sym held) in
    let next : suc i ≡ i + 1 = omega arith in
    ap (λ ys. length (entries_from i ys (drop i logs))) xs_so ∙ ap (λ ls. length (entries_from i (x ∷ drop (suc i) xs) ls)) logs_so
    ∙ length-append (log_entries x.kind (record { 0 = i }) log) (entries_from (i + 1) (drop (suc i) xs) (drop (suc i) logs))
    ∙ ap (λ k. length (log_entries x.kind (record { 0 = i }) log) + length (entries_from (i + 1) (drop k xs) (drop k logs))) next

-- past the last component or the last log there is no entry more
none_from : (i : ℕ) (xs : List Component) (logs : List (List Record)) → (xs ≡ []) ⊎ (logs ≡ []) → entries_from i xs logs ≡ []
none_from i [] logs h = refl
none_from i (x ∷ xs) [] h = refl
none_from i (x ∷ xs) (log ∷ logs) (inl h) = absurd (cc)
none_from i (x ∷ xs) (log ∷ logs) (inr h) = absurd (cc)

pub none_left : (i : ℕ) (xs : List Component) (logs : List (List Record)) → min (length xs) (length logs) ≤ i → entries_from i (drop i xs) (drop i logs) ≡ []
none_left i xs logs past = by (cases_lt i (length xs))
  where
    by : (i < length xs) ⊎ (length xs ≤ i) → entries_from i (drop i xs) (drop i logs) ≡ []
    by (inl within) = none_from i (drop i xs) (drop i logs) (inr (drop_all i logs (omega (arith, within, past))))
    by (inr beyond) = none_from i (drop i xs) (drop i logs) (inl (drop_all i xs beyond))

-- one component more
pub one_more : (i n more sum total : ℕ) (xs : List Component) (logs : List (List Record)) (x : Component) (log : List Record) → i < length xs → i < length logs → x ≡ get_or xs i x → log ≡ get_or logs i log
    → n + length (entries_from i (drop i xs) (drop i logs)) ≡ total → more ≡ length (log_entries x.kind (record { 0 = i }) log) → sum ≡ n + more → sum + length (entries_from (i + 1) (drop (i + 1) xs) (drop (i + 1) logs)) ≡ total
one_more i n more sum total xs logs x log few less at held so_far own is = let next = next_counted i xs logs x log few less at held in omega (arith, so_far, own, is, next)

-- the log of a component
get_mapped : {X Y : Type 0} (f : X → Y) (xs : List X) (i : ℕ) (x : X) → get_or (map f xs) i (f x) ≡ f (get_or xs i x)
get_mapped f [] i x = refl
get_mapped f (y ∷ ys) zero x = refl
get_mapped f (y ∷ ys) (suc i) x = get_mapped f ys i x

map_long : {X Y : Type 0} (f : X → Y) (xs : List X) → length (map f xs) ≡ length xs
map_long f [] = refl
map_long f (x ∷ xs) = ap suc (map_long f xs)

pub log_there : {X Y Z : Type 0} (f : X → Y) (g : Y → Z) (xs : List X) (i : ℕ) (x : X) → x ≡ get_or xs i x → g (f x) ≡ get_or (map g (map f xs)) i (g (f x))
log_there f g xs i x at = ap (λ z. g (f z)) at ∙ ap g (sym (get_mapped f xs i x)) ∙ sym (get_mapped g (map f xs) i (f x))

pub logs_long : {X Y Z : Type 0} (f : X → Y) (g : Y → Z) (xs : List X) → length (map g (map f xs)) ≡ length xs
logs_long f g xs = map_long g (map f xs) ∙ map_long f xs
