-- The making of all lanes.
use Rattle.std.proofs.Common.{◌≡◌, ◌≢◌, ℕ, ◌<◌, ◌+◌, List, [], ◌∷◌, ◌++◌, length, sym, refl, ap, ◌∙◌, subst, ⊎_elim, arith, length-append}
use Rattle.std.specs.Prelude.{slice_get, Some}
use Rattle.std.proofs.lemmas.Option.{slice_get_within}
use Rattle.ic_lane.specs.Lanes.{Out, In}
use Rattle.ic_live.specs.Grids.{placed, Blank, Grows, GrowsTo, IsGrid}
use Rattle.ic_turn.proofs.Places.{there, get_more}
use Rattle.std.proofs.lemmas.Option.{same_Some}
use Rattle.ic_live.proofs.Closings.{get_placed, length_placed, get_front, get_last}

pub grows_none : (olds : List (List In)) → GrowsTo 0 [] olds olds
grows_none olds = (refl, refl, λ j is rest at_is at_rest. ((λ small. absurd (omega (arith, small))), λ _. same_Some is rest (sym at_is ∙ at_rest)))

pub grows_more : (at : ℕ) (row row' : List Out) (olds mids news : List (List In)) (o : Out) (x : In) (left : List In) → at < length mids → GrowsTo at row olds mids → slice_get mids at ≡ Some left → news ≡ placed mids at (left ++ x ∷ []) → row' ≡ row ++ o ∷ [] → Blank o x
    → GrowsTo (at + 1) row' olds news
grows_more at row row' olds mids news o x left small g at_left is_news is_row blank = subst (λ (t : List Out × List (List In)). GrowsTo (at + 1) t.0 olds t.1) (λ i. (sym is_row i, sym is_news i)) (
  length_placed mids at (left ++ x ∷ []) ∙ g.0,
  omega (arith, length-append row (o ∷ []), g.1),
  λ j is rest at_is at_rest. ⊎_elim
      (λ (h : (j ≡ at) × (is ≡ left ++ x ∷ [])).
      let same : left ≡ rest = (g.2 j left rest (subst (λ (k : ℕ). slice_get mids k ≡ Some left) (sym h.0) at_left) at_rest).1 (omega (arith, h.0)) in
      let here : slice_get (row ++ o ∷ []) j ≡ Some o = subst (λ (k : ℕ). slice_get (row ++ o ∷ []) k ≡ Some o) (g.1 ∙ sym h.0) (get_last row o) in (
        (λ _. (o, x, here, h.1 ∙ ap (λ l. l ++ x ∷ []) same, blank)),
        λ far. absurd (omega (arith, far, h.0)),
      ))
      (λ (h : (j ≢ at) × (slice_get mids j ≡ Some is)).
      let old = g.2 j is rest h.1 at_rest in (
        (λ near. let less : j < at = omega (arith, near, h.0) in let w = old.0 less in (w.0, w.1, get_front row (o ∷ []) w.0 j w.2, w.3, w.4)),
        λ far. old.1 (omega (arith, far)),
      ))
      (get_placed mids at j (left ++ x ∷ []) is at_is),
)

pub grows_end : (at : ℕ) (row : List Out) (olds news : List (List In)) → GrowsTo at row olds news → at ≡ length olds → Grows row olds news
grows_end at row olds news g e = (g.0, g.1 ∙ e, λ j is rest at_is at_rest. (g.2 j is rest at_is at_rest).0 (omega (arith, e, slice_get_within olds j rest at_rest)))

pub grid_none : IsGrid 0 [] []
grid_none = (refl, (λ i os at. absurd (grind (arith, at))), (λ j is at. absurd (grind (arith, at))), λ i j os o is x at_os at_o at_is at_x. absurd (grind (arith, at_os)))

-- one more receiver with no end
pub grid_wider : (n : ℕ) (ins ins' : List (List In)) (ends : List In) → IsGrid n [] ins → ends ≡ [] → ins' ≡ ins ++ ends ∷ [] → IsGrid (n + 1) [] ins'
grid_wider n ins ins' ends g none is = subst (IsGrid (n + 1) []) (sym is) (
  omega (arith, length-append ins (ends ∷ []), g.0),
  (λ i os at. absurd (grind (arith, at))),
  (λ j es at. ⊎_elim (λ (h : (j ≡ length ins) × (es ≡ ends)). ap (λ (l : List In). length l) (h.1 ∙ none)) (λ (h : (j < length ins) × (slice_get ins j ≡ Some es)). g.2 j es h.1) (get_more ins ends es j at)),
  λ i j os o is x at_os at_o at_is at_x. absurd (grind (arith, at_os)),
)

-- one more sender
pub grid_longer : (n : ℕ) (outs outs' : List (List Out)) (row : List Out) (ins news : List (List In)) → IsGrid n outs ins → Grows row ins news → outs' ≡ outs ++ row ∷ [] → IsGrid n outs' news
grid_longer n outs outs' row ins news g w is = subst (λ (l : List (List Out)). IsGrid n l news) (sym is) (
  w.0 ∙ g.0,
  (λ i os at. ⊎_elim (λ (h : (i ≡ length outs) × (os ≡ row)). ap (λ (l : List Out). length l) h.1 ∙ w.1 ∙ g.0) (λ (h : (i < length outs) × (slice_get outs i ≡ Some os)). g.1 i os h.1) (get_more outs row os i at)),
  (λ j es at. let rest = there ins news j es w.0 at in let h = w.2 j es rest.0 at rest.1 in
      omega (arith, ap (λ (l : List In). length l) h.3, length-append rest.0 (h.1 ∷ []), g.2 j rest.0 rest.1, length-append outs (row ∷ []))),
  λ i j os o es x at_os at_o at_es at_x.
      let rest = there ins news j es w.0 at_es in
      let h = w.2 j es rest.0 at_es rest.1 in
      let long : length rest.0 ≡ length outs = g.2 j rest.0 rest.1 in
      let at_x' : slice_get (rest.0 ++ h.1 ∷ []) i ≡ Some x = subst (λ (l : List In). slice_get l i ≡ Some x) h.3 at_x in
      ⊎_elim
      (λ (q : (i ≡ length outs) × (os ≡ row)).
      let is_o : o ≡ h.0 = same_Some o h.0 (sym at_o ∙ subst (λ (l : List Out). slice_get l j ≡ Some h.0) (sym q.1) h.2) in
      let is_x : x ≡ h.1 = ⊎_elim (λ v. v.1) (λ v. absurd (omega (arith, q.0, long, v.0))) (get_more rest.0 h.1 x i at_x') in
      subst (λ (t : Out × In). Blank t.0 t.1) (λ k. (sym is_o k, sym is_x k)) h.4)
      (λ (q : (i < length outs) × (slice_get outs i ≡ Some os)).
      g.3 i j os o rest.0 x q.1 at_o rest.1 (⊎_elim (λ v. absurd (omega (arith, q.0, long, v.0))) (λ v. v.1) (get_more rest.0 h.1 x i at_x')))
      (get_more outs row os i at_os),
)
