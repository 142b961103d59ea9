-- Which component has which of the disks, and what is made so far.
use Rattle.std.proofs.Common.{◌≡◌, ◌∙◌, sym, ap, refl, ℕ, zero, suc, ◌+◌, ◌<◌, ◌≤◌, Bool, true, false, ◌⊎◌, inl, inr, List, [], ◌∷◌, ◌++◌, length, map, arith, Option, Some, None}
use Rattle.std.specs.Prelude.{slice_get, take, drop, cond, not, is_some, option_to_list, option_map, unwrap_or, ◌||◌}
use Rattle.ic_base.specs.declared.messages.ComId.{ComId}
use Rattle.ic_base.specs.declared.messages.Kind.{Kind}
use Rattle.ic_base.specs.declared.messages.Kind.TheVariants as kinds
use Rattle.ic_base.specs.declared.scenario.Component.{Component}
use Rattle.ic_base.specs.declared.scenario.Program.{Program}
use Rattle.ic_base.specs.declared.refusals.StartWhy.{StartWhy}
use Rattle.ic_base.specs.declared.refusals.StartWhy.TheVariants as starts
use Rattle.ic_base.specs.Programs.{declares, is_pcom, is_tcom}
use Rattle.def_run.specs.Executions.{first_of}
use Rattle.def_run.specs.Openings.{IsToldFrom, first_told}
use Rattle.def_run.specs.SystemStates.{has_disk}
use Rattle.ic_world.specs.Opening.{is_outside, disks_in, files_of, places}
use Rattle.ic_world.proofs.Lists.{get-map}

pub same-some : {X : Type 0} (x y : X) → Some x ≡ Some y → x ≡ y
same-some x y e = ap (λ o. elim o [ None ↦ x | Some z ↦ z ]) e

pub snoc-get : {X : Type 0} (xs : List X) (y x : X) (k : ℕ) → slice_get (xs ++ y ∷ []) k ≡ Some x → (slice_get xs k ≡ Some x) ⊎ ((k ≡ length xs) × (x ≡ y))
snoc-get [] y x zero e = inr (refl, sym (same-some y x e))
snoc-get [] y x (suc k) e = absurd (cc)
snoc-get (z ∷ xs) y x zero e = inl e
snoc-get (z ∷ xs) y x (suc k) e = by (snoc-get xs y x k e)
  where
    by : (slice_get xs k ≡ Some x) ⊎ ((k ≡ length xs) × (x ≡ y)) → (slice_get xs k ≡ Some x) ⊎ ((suc k ≡ suc (length xs)) × (x ≡ y))
    by (inl h) = inl h
    by (inr h) = inr (ap suc h.0, h.1)

pub from-drop : {X : Type 0} (xs : List X) (n : ℕ) (y : X) (ys : List X) → drop n xs ≡ y ∷ ys → slice_get xs n ≡ Some y
from-drop [] zero y ys e = absurd (cc)
from-drop [] (suc n) y ys e = absurd (cc)
from-drop (x ∷ xs) zero y ys e = ap (λ (l : List _). slice_get l 0) e
from-drop (x ∷ xs) (suc n) y ys e = from-drop xs n y ys e

pub next-drop : {X : Type 0} (xs : List X) (n : ℕ) (y : X) (ys : List X) → drop n xs ≡ y ∷ ys → drop (n + 1) xs ≡ ys
next-drop [] zero y ys e = absurd (cc)
next-drop [] (suc n) y ys e = absurd (cc)
next-drop (x ∷ xs) zero y ys e = ap (λ (l : List _). drop 1 l) e
next-drop (x ∷ xs) (suc n) y ys e = let one : suc n + 1 ≡ suc (n + 1) = omega arith in ap (λ m. drop m (x ∷ xs)) one ∙ next-drop xs n y ys e

pub at-drop : {X : Type 0} (xs : List X) (n : ℕ) (x : X) → slice_get xs n ≡ Some x → drop n xs ≡ x ∷ drop (n + 1) xs
at-drop [] n x e = absurd (cc)
at-drop (y ∷ xs) zero x e = ap (λ z. z ∷ xs) (same-some y x e)
at-drop (y ∷ xs) (suc n) x e = let one : suc (n + 1) ≡ suc n + 1 = omega arith in at-drop xs n x e ∙ ap (λ m. x ∷ drop m (y ∷ xs)) one

outside-not : (o s : Bool) → s ≡ not o → o ≡ not s
outside-not true s e = ap not (sym e)
outside-not false s e = ap not (sym e)

pub places-step : {D : Type 0} (d : Component) (ds : List Component) (place : Option D) (rest : List D) → is_some place ≡ not (is_outside d.kind) → places (d ∷ ds) (option_to_list place ++ rest) ≡ place ∷ places ds rest
places-step d ds None [] h = refl
places-step d ds None (f ∷ rest) h = ap (λ o. cond o (None ∷ places ds (f ∷ rest)) (Some f ∷ places ds rest)) (outside-not (is_outside d.kind) false h)
places-step d ds (Some f) rest h = ap (λ o. cond o (None ∷ places ds (f ∷ rest)) (Some f ∷ places ds rest)) (outside-not (is_outside d.kind) true h)

pub enough-step : {D : Type 0} (d : Component) (ds : List Component) (place : Option D) (rest : List D) → is_some place ≡ not (is_outside d.kind) → length (option_to_list place ++ rest) ≡ disks_in (d ∷ ds) → length rest ≡ disks_in ds
enough-step d ds None rest h e = e ∙ ap (λ o. cond o (disks_in ds) (1 + disks_in ds)) (outside-not (is_outside d.kind) false h)
enough-step d ds (Some f) rest h e =
    let more : suc (length rest) ≡ 1 + disks_in ds = e ∙ ap (λ o. cond o (disks_in ds) (1 + disks_in ds)) (outside-not (is_outside d.kind) true h) in
    omega (arith, more)

-- those of the first components, and those of the rest
pub disks-split : (xs : List Component) (n : ℕ) → disks_in xs ≡ disks_in (take n xs) + disks_in (drop n xs)
disks-split [] zero = refl
disks-split [] (suc n) = refl
disks-split (x ∷ xs) zero = omega arith
disks-split (x ∷ xs) (suc n) = by (is_outside x.kind) (disks-split xs n)
  where
    by : (o : Bool) → disks_in xs ≡ disks_in (take n xs) + disks_in (drop n xs) → cond o (disks_in xs) (1 + disks_in xs) ≡ cond o (disks_in (take n xs)) (1 + disks_in (take n xs)) + disks_in (drop n xs)
    by true e = e
    by false e = omega (arith, e)

pub some-left : {D : Type 0} (d : Component) (ds : List Component) (rest : List D) → length rest ≡ disks_in (d ∷ ds) → is_outside d.kind ≡ false → 0 < length rest
some-left d ds rest e h =
    let more : length rest ≡ 1 + disks_in ds = e ∙ ap (λ o. cond o (disks_in ds) (1 + disks_in ds)) h in
    omega (arith, more)

kept-kind : (k : Kind) → not (is_outside k) ≡ (is_pcom k || is_tcom k)
kept-kind kinds.Pcom = refl
kept-kind kinds.Tcom = refl
kept-kind kinds.Xcom = refl

pub has-at : (program : Program) (c : ComId) (d : Component) (s : Bool) → slice_get program.components c.0 ≡ Some d → s ≡ not (is_outside d.kind) → s ≡ has_disk program c
has-at program c d s e h = h ∙ kept-kind d.kind ∙ ap (λ (o : Option Component). declares (λ x. is_pcom x.kind) o || declares (λ x. is_tcom x.kind) o) (sym e)

-- a disk that a component has is one of them
pub places-in : {D : Type 0} (xs : List Component) (ds : List D) (k : ℕ) (d : D) → slice_get (places xs ds) k ≡ Some (Some d) → (j : ℕ) × (slice_get ds j ≡ Some d)
places-in [] ds k d e = absurd (cc)
places-in (x ∷ xs) [] zero d e = absurd (let f : None ≡ Some d = same-some None (Some d) e in cc)
places-in (x ∷ xs) [] (suc k) d e = places-in xs [] k d e
places-in (x ∷ xs) (f ∷ ds) k d e = by (λ i g. places-in xs (f ∷ ds) i d g) (λ i g. places-in xs ds i d g) (is_outside x.kind) k e
  where
    by : ((i : ℕ) → slice_get (places xs (f ∷ ds)) i ≡ Some (Some d) → (j : ℕ) × (slice_get (f ∷ ds) j ≡ Some d)) → ((i : ℕ) → slice_get (places xs ds) i ≡ Some (Some d) → (j : ℕ) × (slice_get ds j ≡ Some d)) → (o : Bool) (i : ℕ) → slice_get (cond o (None ∷ places xs (f ∷ ds)) (Some f ∷ places xs ds)) i ≡ Some (Some d) → (j : ℕ) × (slice_get (f ∷ ds) j ≡ Some d)
    by same less true zero g = absurd (let h : None ≡ Some d = same-some None (Some d) g in cc)
    by same less true (suc i) g = same i g
    by same less false zero g = (zero, same-some (Some f) (Some d) g)
    by same less false (suc i) g = let r = less i g in (suc r.0, r.1)

abbrev pub file_at : {D : Type 0} → (D → List ℕ) → Option D → List ℕ
file_at seen None = []
file_at seen (Some disk) = seen disk

pub files-so : {D : Type 0} (seen : D → List ℕ) (xs : List Component) (ds : List D) → files_of xs (map seen ds) ≡ map (λ o. file_at seen o) (places xs ds)
files-so seen [] ds = refl
files-so seen (x ∷ xs) [] = ap (λ l. [] ∷ l) (files-so seen xs [])
files-so seen (x ∷ xs) (f ∷ ds) = by (files-so seen xs (f ∷ ds)) (files-so seen xs ds) (is_outside x.kind)
  where
    by : files_of xs (map seen (f ∷ ds)) ≡ map (λ o. file_at seen o) (places xs (f ∷ ds)) → files_of xs (map seen ds) ≡ map (λ o. file_at seen o) (places xs ds) → (o : Bool) → cond o ([] ∷ files_of xs (seen f ∷ map seen ds)) (seen f ∷ files_of xs (map seen ds)) ≡ map (λ p. file_at seen p) (cond o (None ∷ places xs (f ∷ ds)) (Some f ∷ places xs ds))
    by same less true = ap (λ l. [] ∷ l) same
    by same less false = ap (λ l. seen f ∷ l) less

-- past the last component there is no file
pub files-none : {D : Type 0} (seen : D → List ℕ) (xs : List Component) (ds : List D) (k : ℕ) → slice_get (places xs ds) k ≡ None → unwrap_or (slice_get (files_of xs (map seen ds)) k) [] ≡ []
files-none seen xs ds k is =
    ap (λ l. unwrap_or (slice_get l k) []) (files-so seen xs ds)
    ∙ ap (λ p. unwrap_or p []) (get-map (λ p. file_at seen p) (places xs ds) k)
    ∙ ap (λ p. unwrap_or (option_map (λ q. file_at seen q) p) []) is

pub places-count : {D : Type 0} (xs : List Component) (ds : List D) → length (places xs ds) ≡ length xs
places-count [] ds = refl
places-count (x ∷ xs) [] = ap suc (places-count xs [])
places-count (x ∷ xs) (f ∷ ds) = by (places-count xs (f ∷ ds)) (places-count xs ds) (is_outside x.kind)
  where
    by : length (places xs (f ∷ ds)) ≡ length xs → length (places xs ds) ≡ length xs → (o : Bool) → length (cond o (None ∷ places xs (f ∷ ds)) (Some f ∷ places xs ds)) ≡ suc (length xs)
    by same less true = ap suc same
    by same less false = ap suc less

-- the lowest component of which something is told
pub told-first : (test : ComId → Option StartWhy) (xs : List Component) (i n : ℕ) (w : StartWhy) → n < length xs → ((k : ℕ) → k < n → test (record { 0 = i + k }) ≡ None) → test (record { 0 = i + n }) ≡ Some w → first_told test i xs ≡ Some w
told-first test [] i n w l none some = absurd (omega arith)
told-first test (x ∷ xs) i zero w l none some =
    let here : i ≡ i + 0 = omega arith in
    ap (λ m. first_of (test (record { 0 = m })) (first_told test (i + 1) xs)) here ∙ ap (λ o. first_of o (first_told test (i + 1) xs)) some
told-first test (x ∷ xs) i (suc n) w l none some =
    let here : i ≡ i + 0 = omega arith in
    ap (λ m. first_of (test (record { 0 = m })) (first_told test (i + 1) xs)) here
    ∙ ap (λ o. first_of o (first_told test (i + 1) xs)) (none 0 (omega arith))
    ∙ told-first test xs (i + 1) n w (omega arith)
    (λ k m. let shift : (i + 1) + k ≡ i + suc k = omega arith in ap (λ j. test (record { 0 = j })) shift ∙ none (suc k) (omega arith))
    (let shift : (i + 1) + n ≡ i + suc n = omega arith in ap (λ j. test (record { 0 = j })) shift ∙ some)

-- what is told of a later component is told from an earlier one on
told-earlier : (m n : ℕ) → m ≤ n → (w : StartWhy) → IsToldFrom n w → IsToldFrom m w
told-earlier m n l (starts.NotBlank c) f = omega (arith, l, f)
told-earlier m n l (starts.Bad c place) f = omega (arith, l, f)
told-earlier m n l (starts.Foreign c kept) f = omega (arith, l, f)
told-earlier m n l (starts.Failed c) f = omega (arith, l, f)
told-earlier m n l starts.Memory f = tt

-- where nothing is told of the first components, what is told is of one behind them
pub told-from : (test : ComId → Option StartWhy) → ((c : ComId) (w : StartWhy) → test c ≡ Some w → IsToldFrom c.0 w) → (xs : List Component) (i n : ℕ) → ((k : ℕ) → k < n → test (record { 0 = i + k }) ≡ None) → (w : StartWhy) → first_told test i xs ≡ Some w → IsToldFrom (i + n) w
told-from test own [] i n none w e = absurd (cc)
told-from test own (x ∷ xs) i n none w e = by (λ m some f. told-from test own xs (i + 1) m some w f) (test (record { 0 = i })) refl n none
  where
    by : ((m : ℕ) → ((k : ℕ) → k < m → test (record { 0 = (i + 1) + k }) ≡ None) → first_told test (i + 1) xs ≡ Some w → IsToldFrom ((i + 1) + m) w) → (o : Option StartWhy) → test (record { 0 = i }) ≡ o → (n : ℕ) → ((k : ℕ) → k < n → test (record { 0 = i + k }) ≡ None) → IsToldFrom (i + n) w
    by later (Some v) is zero none =
        let same : v ≡ w = same-some v w (ap (λ o. first_of o (first_told test (i + 1) xs)) (sym is) ∙ e) in
        told-earlier (i + 0) i (omega arith) w (own (record { 0 = i }) w (is ∙ ap Some same))
    by later (Some v) is (suc n) none = absurd (let here : i ≡ i + 0 = omega arith in let f : ◌≡◌ {A = Option StartWhy} None (Some v) = sym (none 0 (omega arith)) ∙ ap (λ m. test (record { 0 = m })) (sym here) ∙ is in cc)
    by later None is zero none = told-earlier (i + 0) ((i + 1) + 0) (omega arith) w (later 0 (λ k m. absurd (omega (arith, m))) (ap (λ o. first_of o (first_told test (i + 1) xs)) (sym is) ∙ e))
    by later None is (suc n) none =
        told-earlier (i + suc n) ((i + 1) + n) (omega arith) w
        (later n (λ k m. let shift : (i + 1) + k ≡ i + suc k = omega arith in ap (λ j. test (record { 0 = j })) shift ∙ none (suc k) (omega (arith, m)))
        (ap (λ o. first_of o (first_told test (i + 1) xs)) (sym is) ∙ e))

-- nothing is told of any
pub untold-all : (test : ComId → Option StartWhy) (xs : List Component) (i : ℕ) → ((k : ℕ) → k < length xs → test (record { 0 = i + k }) ≡ None) → first_told test i xs ≡ None
untold-all test [] i none = refl
untold-all test (x ∷ xs) i none =
    let here : i ≡ i + 0 = omega arith in
    ap (λ m. first_of (test (record { 0 = m })) (first_told test (i + 1) xs)) here
    ∙ ap (λ o. first_of o (first_told test (i + 1) xs)) (none 0 (omega arith))
    ∙ untold-all test xs (i + 1) (λ k l. let shift : (i + 1) + k ≡ i + suc k = omega arith in ap (λ j. test (record { 0 = j })) shift ∙ none (suc k) (omega arith))
