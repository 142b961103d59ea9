-- Each kind of step keeps the rule of a lane.
use Rattle.std.proofs.Common.{◌≡◌, ◌≢◌, ℕ, zero, suc, true, false, true≢false, List, [], ◌∷◌, ◌++◌, length, set, sym, refl, ap, ◌∙◌, subst, ⊎_elim, append_assoc, arith, length-append, ◌≤◌, ◌<◌}
use Rattle.std.specs.Prelude.{Contains, slice_index_or, Option, None, Some, MatchOption}
use Rattle.std.proofs.lemmas.List.Elements.{Contains-append_left, Contains-append_cases}
use mathlib.Core.Option.{some, some-ne-none}
use lib.ListN.{get_elem?}
use Rattle.crossbeam_queue.specs.Fifo.{Pushes, Pops, Forks, Merges, Learns}
use Rattle.crossbeam_queue.proofs.Lists.{at_set, at_snoc}
use Rattle.ic_base.specs.declared.messages.Msg.{Msg}
use Rattle.ic_base.specs.declared.messages.Packet.{Packet}
use Rattle.ic_base.specs.declared.messages.Packet.TheVariants.{Data}
use Rattle.ic_lane.specs.declared.line.Seen.{Seen}
use Rattle.def_live.specs.Lanes.{HasOneContent}
use Rattle.ic_lane.specs.Lanes.{seen, Fits, Keeps, IsFresh}

at_end : (l : List Seen) (a b : Seen) (j : ℕ) → get_elem? l j ≢ some b → get_elem? (l ++ a ∷ []) j ≡ some b → j ≡ length l
at_end [] a b zero n e = refl
at_end [] a b (suc j) n e = absurd (some-ne-none b (sym e))
at_end (x ∷ xs) a b zero n e = absurd (n e)
at_end (x ∷ xs) a b (suc j) n e = ap suc (at_end xs a b j n e)

abbrev All : (ℕ → Seen → Type 0) → List Seen → Type 0
All F views = (pass : ℕ) (v : Seen) → get_elem? views pass ≡ some v → F pass v

all_set : (F : ℕ → Seen → Type 0) (views : List Seen) (pass : ℕ) (w : Seen) → F pass w → ((j : ℕ) (u : Seen) → j ≢ pass → get_elem? views j ≡ some u → F j u) → All F (set views pass w)
all_set F views pass w mine others j u e = ⊎_elim (λ (x : (j ≡ pass) × (w ≡ u)). subst (λ (y : ℕ × Seen). F y.0 y.1) (λ i. (sym x.0 i, x.1 i)) mine)
    (λ (x : (j ≢ pass) × (get_elem? views j ≡ some u)). others j u x.0 x.1) (at_set views pass j w u e)

-- the only one of a list
alone : (x y : Packet) → Contains (x ∷ []) y → x ≡ y
alone x y h = at h.0 h.1 h.2
  where
    at : (k : ℕ) → k < 1 → slice_index_or (x ∷ []) k y ≡ y → x ≡ y
    at zero small e = e
    at (suc k) small e = absurd (omega (arith, small))

-- one more that is fresh
pub one_more : (xs : List Packet) (p : Packet) → HasOneContent xs → IsFresh xs p → HasOneContent (xs ++ p ∷ [])
one_more xs p one fresh m n at_m at_n k =
    ⊎_elim
    (λ (l : Contains xs (Data m)). ⊎_elim (λ (r : Contains xs (Data n)). one m n l r k) (λ (r : Contains (p ∷ []) (Data n)). fresh n m (alone p (Data n) r) l k) (Contains-append_cases xs (p ∷ []) (Data n) at_n))
    (λ (l : Contains (p ∷ []) (Data m)). ⊎_elim (λ (r : Contains xs (Data n)). sym (fresh m n (alone p (Data m) l) r (sym k))) (λ (r : Contains (p ∷ []) (Data n)). same m n (sym (alone p (Data m) l) ∙ alone p (Data n) r)) (Contains-append_cases xs (p ∷ []) (Data n) at_n))
    (Contains-append_cases xs (p ∷ []) (Data m) at_m)
  where
    same : (m n : Msg) → Data m ≡ Data n → m ≡ n
    same m n e = grind (arith, e)

-- what begins such a list is one
pub one_front : (xs ys : List Packet) → HasOneContent (xs ++ ys) → HasOneContent xs
one_front xs ys one m n at_m at_n k = one m n (Contains-append_left xs ys (Data m) at_m) (Contains-append_left xs ys (Data n) at_n) k

pub none_yet : HasOneContent []
none_yet m n at_m at_n k = absurd (omega (arith, at_m.1))

pub begins : (honest : Type 0) → Keeps honest [] (seen true true [] [] ∷ [])
begins honest = (0, 0, [], [], refl, all_set (Fits 0 0 [] []) (seen true true [] [] ∷ []) 0 (seen true true [] []) ((λ _. (refl, refl)), λ _. (refl, refl)) (λ j u other e. absurd (other (at_end [] _ u j (λ x. some-ne-none u (sym x)) e))), λ _. none_yet)

pub sends : (honest : Type 0) (n pass : ℕ) (v : Seen) (x : Packet) → v.pushes ≡ true → (honest → IsFresh v.sent x)
    → Pushes (Keeps honest) n pass v x (λ w. w ≡ seen v.pushes v.pops (v.sent ++ x ∷ []) v.received)
sends honest n pass v x may fresh items views _ h at = let w : Seen = seen v.pushes v.pops (v.sent ++ x ∷ []) v.received in let mine = h.5 pass v at in let sent = h.2 ++ x ∷ [] in (
  w,
  (
    h.0,
    h.1,
    sent,
    h.3,
    ap (λ l. l ++ x ∷ []) h.4 ∙ append_assoc h.3 items (x ∷ []),
    all_set (Fits h.0 h.1 sent h.3) views pass w ((λ _. ((mine.0 may).0, ap (λ l. l ++ x ∷ []) (mine.0 may).1)), mine.1)
        (λ j u other e. ((λ p. absurd (other (((h.5 j u e).0 p).0 ∙ sym (mine.0 may).0))), (h.5 j u e).1)),
    λ y. one_more h.2 x (h.6 y) (subst (λ l. IsFresh l x) (mine.0 may).1 (fresh y)),
  ),
  refl,
)

pub fills : (honest : Type 0) (pass : ℕ) (v : Seen) → v.pushes ≡ true → Learns (Keeps honest) pass v (λ items. length items ≤ length v.sent)
fills honest pass v may items views h at = let e : v.sent ≡ h.3 ++ items = ((h.5 pass v at).0 may).1 ∙ h.4 in omega (arith, ap (λ (l : List Packet). length l) e, length-append h.3 items)

pub takes : (honest : Type 0) (pass : ℕ) (v : Seen) → v.pops ≡ true
    → Pops (Keeps honest) pass v (λ x w. (w ≡ seen v.pushes v.pops v.sent (v.received ++ x ∷ [])) × (honest → HasOneContent (v.received ++ x ∷ [])))
takes honest pass v may x items views h at = let w : Seen = seen v.pushes v.pops v.sent (v.received ++ x ∷ []) in let mine = h.5 pass v at in let received = h.3 ++ x ∷ [] in
    let split : h.2 ≡ received ++ items = h.4 ∙ sym (append_assoc h.3 (x ∷ []) items) in (
      w,
      (
        h.0,
        h.1,
        h.2,
        received,
        split,
        all_set (Fits h.0 h.1 h.2 received) views pass w (mine.0, λ _. ((mine.1 may).0, ap (λ l. l ++ x ∷ []) (mine.1 may).1))
            (λ j u other e. ((h.5 j u e).0, λ p. absurd (other (((h.5 j u e).1 p).0 ∙ sym (mine.1 may).0)))),
        h.6,
      ),
      (refl, λ y. subst (λ l. HasOneContent (l ++ x ∷ [])) (sym (mine.1 may).1) (one_front received items (subst HasOneContent split (h.6 y)))),
    )

pub forks : (honest : Type 0) (pass : ℕ) (v : Seen) → v.pushes ≡ true → v.pops ≡ true → Forks (Keeps honest) pass v (seen true false v.sent []) (seen false true [] v.received)
forks honest pass v a b items views h at = let l : Seen = seen true false v.sent [] in let r : Seen = seen false true [] v.received in let mine = h.5 pass v at in let vs : List Seen = set views pass l in
    let Old : ℕ → Seen → Type 0 = λ j u. (u.pushes ≡ true → (j ≡ h.0) × (u.sent ≡ h.2)) × (u.pops ≢ true) in
    let old : All Old vs = all_set Old views pass l ((λ _. mine.0 a), λ p. true≢false (sym p)) (λ j u other e. ((h.5 j u e).0, λ p. other (((h.5 j u e).1 p).0 ∙ sym (mine.1 b).0))) in (
      h.0,
      length vs,
      h.2,
      h.3,
      h.4,
      (λ j u e. ⊎_elim (λ x. ((old j u x).0, λ p. absurd ((old j u x).1 p)))
          (λ (is : r ≡ u). ((λ p. absurd (true≢false (sym (ap (λ (y : Seen). y.pushes) is ∙ p)))), λ p. (at_end vs r u j (λ x. (old j u x).1 p) e, ap (λ (y : Seen). y.received) (sym is) ∙ (mine.1 b).1))) (at_snoc vs r u j e)),
      h.6,
    )

pub merges : (honest : Type 0) (pass : ℕ) (v : Seen) (other : ℕ) (u : Seen) → v.pushes ≡ true → u.pops ≡ true → Merges (Keeps honest) pass v other u (seen true true v.sent u.received) (seen false false [] [])
merges honest pass v other u a b items views h at two at' = let both : Seen = seen true true v.sent u.received in let mine = h.5 pass v at in let vs : List Seen = set views pass both in
    let was : get_elem? views other ≡ some u = ⊎_elim (λ x. absurd (two x.0)) (λ x. x.1) (at_set views pass other both u at') in let theirs = (h.5 other u was).1 b in
    let Now : ℕ → Seen → Type 0 = λ j y. j ≢ other → Fits h.0 pass h.2 h.3 j y in
    let now : All Now vs = all_set Now views pass both (λ _. ((λ _. mine.0 a), λ _. (refl, theirs.1))) (λ j y _ e apart. ((h.5 j y e).0, λ p. absurd (apart (((h.5 j y e).1 p).0 ∙ sym theirs.0)))) in
    (h.0, pass, h.2, h.3, h.4, all_set (Fits h.0 pass h.2 h.3) vs other (seen false false [] []) ((λ p. absurd (true≢false (sym p))), λ p. absurd (true≢false (sym p))) (λ j y apart e. now j y e apart), h.6)

pub totals : (honest : Type 0) (pass : ℕ) (v : Seen) → v.pushes ≡ true → v.pops ≡ true → Learns (Keeps honest) pass v (λ items. v.sent ≡ v.received ++ items)
totals honest pass v a b items views h at = let mine = h.5 pass v at in (mine.0 a).1 ∙ h.4 ∙ ap (λ l. l ++ items) (sym (mine.1 b).1)

-- what the receiver has after a pop
pub popped : (honest A : Type 0) (v w : Seen) (r : Option Packet) → v ≡ seen false true [] v.received → (honest → HasOneContent v.received)
    → MatchOption r ((w ≡ v) × A) (λ x. (w ≡ seen v.pushes v.pops v.sent (v.received ++ x ∷ [])) × (honest → HasOneContent (v.received ++ x ∷ [])))
    → (w ≡ seen false true [] w.received) × (honest → HasOneContent w.received)
popped honest A v w None is one m = (m.0 ∙ is ∙ ap (λ (u : Seen). seen false true [] u.received) (sym m.0), λ y. subst (λ (u : Seen). HasOneContent u.received) (sym m.0) (one y))
popped honest A v w (Some x) is one m =
    let end : List Packet = v.received ++ x ∷ [] in
    let e : w ≡ seen false true [] end = m.0 ∙ ap (λ (u : Seen). seen u.pushes u.pops u.sent end) is in
    (e ∙ ap (λ (u : Seen). seen false true [] u.received) (sym e), λ y. subst (λ (u : Seen). HasOneContent u.received) (sym e) (m.1 y))

-- what the sender has after a push that adds
pub pushed : (honest : Type 0) (v w : Seen) (x : Packet) → v ≡ seen true false v.sent [] → (honest → HasOneContent v.sent) → (honest → IsFresh v.sent x)
    → w ≡ seen v.pushes v.pops (v.sent ++ x ∷ []) v.received → (w ≡ seen true false w.sent []) × (honest → HasOneContent w.sent)
pushed honest v w x is one fresh m =
    let end : List Packet = v.sent ++ x ∷ [] in
    let e : w ≡ seen true false end [] = m ∙ ap (λ (u : Seen). seen u.pushes u.pops end u.received) is in
    (e ∙ ap (λ (u : Seen). seen true false u.sent []) (sym e), λ y. subst (λ (u : Seen). HasOneContent u.sent) (sym e) (one_more v.sent x (one y) (fresh y)))
