-- What the components of a live run showed, each by itself.
use Rattle.std.proofs.Common.{◌≡◌, ◌∙◌, sym, ap, refl, ℕ, zero, suc, ◌+◌, ◌<◌, Bool, true, false, cond, ◌||◌, List, [], ◌∷◌, ◌++◌, map, filter, length, drop, get_or, Some, option_map}
use Rattle.std.specs.Prelude.{slice_get}
use Rattle.std.proofs.lemmas.Bool.{both_ways}
use Rattle.std.proofs.lemmas.List.{append-nil, drop_more, map-append}
use Rattle.std.proofs.lemmas.List.Elements.{filter-append}
use Rattle.std.proofs.lemmas.Option.{same_Some}
use Rattle.ic_base.specs.declared.messages.ComId.{ComId}
use Rattle.ic_base.specs.declared.messages.Output.{Output}
use Rattle.ic_base.specs.Programs.{same_com}
use Rattle.def_facts.specs.World.{is_by, shown_by}
use Rattle.ic_disk.specs.declared.disk.Disk.{Ghosts}
use Rattle.ic_node.specs.Views.{com_of}
use Rattle.ic_node.specs.declared.component.Component.{Component}
use Rattle.ic_turn.specs.Progresses.{shown_of}
use Rattle.ic_turn.specs.declared.progress.Progress.{Progress}
use Rattle.ic_live.specs.Ends.{is_among, AreApart}
use Rattle.ic_live.proofs.Ends.{same-com, self-com, among-there}
use Rattle.ic_world.proofs.Lists.{get-map}
use Rattle.ic_joins.specs.Showing.{showings_of}

-- of two lists of showings
shown-both : (c : ComId) (xs ys : List (ComId × Output)) → shown_by c (xs ++ ys) ≡ shown_by c xs ++ shown_by c ys
shown-both c xs ys = ap (map (λ (x : ComId × Output). x.1)) (filter-append (is_by c) xs ys) ∙ map-append (λ (x : ComId × Output). x.1) (filter (is_by c) xs) (filter (is_by c) ys)

-- those of one component are its own
shown-own : (c b : ComId) (os : List Output) → same_com c b ≡ true → shown_by c (map (λ (o : Output). (b, o)) os) ≡ os
shown-own c b [] e = refl
shown-own c b (o ∷ os) e = ap (λ t. map (λ (x : ComId × Output). x.1) (cond t ((b, o) ∷ filter (is_by c) (map (λ (o : Output). (b, o)) os)) (filter (is_by c) (map (λ (o : Output). (b, o)) os)))) e ∙ ap (λ l. o ∷ l) (shown-own c b os e)

shown-other : (c b : ComId) (os : List Output) → same_com c b ≡ false → shown_by c (map (λ (o : Output). (b, o)) os) ≡ []
shown-other c b [] e = refl
shown-other c b (o ∷ os) e = ap (λ t. map (λ (x : ComId × Output). x.1) (cond t ((b, o) ∷ filter (is_by c) (map (λ (o : Output). (b, o)) os)) (filter (is_by c) (map (λ (o : Output). (b, o)) os)))) e ∙ shown-other c b os e

module _ {D : Type 0} {d : Ghosts D} where
  -- one that is none of these showed nothing
  pub shown-none : (c : ComId) (xs : List (Component D d)) (ps : List Progress) → is_among (map (λ (x : Component D d). com_of x) xs) c ≡ false → shown_by c (showings_of xs ps) ≡ []
  shown-none c [] ps e = refl
  shown-none c (x ∷ xs) [] e = refl
  shown-none c (x ∷ xs) (p ∷ ps) e = by (same_com c (com_of x)) refl e (shown-none c xs ps)
    where
      by : (b : Bool) → same_com c (com_of x) ≡ b → (b || is_among (map (λ (x : Component D d). com_of x) xs) c) ≡ false → (is_among (map (λ (x : Component D d). com_of x) xs) c ≡ false → shown_by c (showings_of xs ps) ≡ []) → shown_by c (showings_of (x ∷ xs) (p ∷ ps)) ≡ []
      by true is f more = absurd (both_ways true f refl)
      by false is f more = shown-both c (map (λ (o : Output). (com_of x, o)) (shown_of p)) (showings_of xs ps) ∙ ap (λ l. l ++ shown_by c (showings_of xs ps)) (shown-other c (com_of x) (shown_of p) is) ∙ more f

  -- one of these, each of which comes once, showed what it showed
  pub shown-one : (c : ComId) (xs : List (Component D d)) (ps : List Progress) (k : ℕ) (x : Component D d) (p : Progress) → AreApart (map (λ (x : Component D d). com_of x) xs) → slice_get xs k ≡ Some x → slice_get ps k ≡ Some p → com_of x ≡ c → shown_by c (showings_of xs ps) ≡ shown_of p
  shown-one c [] ps k x p apart e f is = absurd (cc e)
  shown-one c (y ∷ xs) [] k x p apart e f is = absurd (cc f)
  shown-one c (y ∷ xs) (q ∷ ps) zero x p apart e f is =
      let same : com_of y ≡ c = ap (λ (z : Component D d). com_of z) (same_Some y x e) ∙ is in
      shown-both c (map (λ (o : Output). (com_of y, o)) (shown_of q)) (showings_of xs ps)
      ∙ ap (λ l. l ++ shown_by c (showings_of xs ps)) (shown-own c (com_of y) (shown_of q) (ap (same_com c) same ∙ self-com c))
      ∙ ap (λ l. shown_of q ++ l) (shown-none c xs ps (ap (is_among (map (λ (x : Component D d). com_of x) xs)) (sym same) ∙ apart.0))
      ∙ append-nil (shown_of q) ∙ ap shown_of (same_Some q p f)
  shown-one c (y ∷ xs) (q ∷ ps) (suc k) x p apart e f is = by (same_com c (com_of y)) refl (shown-one c xs ps k x p apart.1 e f is)
    where
      among : is_among (map (λ (x : Component D d). com_of x) xs) c ≡ true
      among = among-there (map (λ (x : Component D d). com_of x) xs) k c (get-map (λ (x : Component D d). com_of x) xs k ∙ ap (option_map (λ (x : Component D d). com_of x)) e ∙ ap (λ z. Some z) is)

      by : (b : Bool) → same_com c (com_of y) ≡ b → shown_by c (showings_of xs ps) ≡ shown_of p → shown_by c (showings_of (y ∷ xs) (q ∷ ps)) ≡ shown_of p
      by true same more = absurd (both_ways (is_among (map (λ (x : Component D d). com_of x) xs) (com_of y)) apart.0 (ap (is_among (map (λ (x : Component D d). com_of x) xs)) (sym (same-com c (com_of y) same)) ∙ among))
      by false other more =
          shown-both c (map (λ (o : Output). (com_of y, o)) (shown_of q)) (showings_of xs ps)
          ∙ ap (λ l. l ++ shown_by c (showings_of xs ps)) (shown-other c (com_of y) (shown_of q) other)
          ∙ more

  -- as far as a loop has come
  pub showings-next : (xs : List (Component D d)) (ps : List Progress) (i : ℕ) (x : Component D d) (p : Progress) → i < length xs → i < length ps → x ≡ get_or xs i x → p ≡ get_or ps i p
      → showings_of (drop i xs) (drop i ps) ≡ map (λ (o : Output). (com_of x, o)) (shown_of p) ++ showings_of (drop (i + 1) xs) (drop (i + 1) ps)
  showings-next xs ps i x p small there is at =
      let P : List (Component D d) × List Progress → List (ComId × Output) = λ z. showings_of z.0 z.1 in
      ap P (λ j. (drop_more xs i x small j, drop_more ps i p there j)) ∙ ap (λ z. map (λ (o : Output). (com_of z, o)) (shown_of (get_or ps i p)) ++ showings_of (drop (i + 1) xs) (drop (i + 1) ps)) (sym is)
      ∙ ap (λ q. map (λ (o : Output). (com_of x, o)) (shown_of q) ++ showings_of (drop (i + 1) xs) (drop (i + 1) ps)) (sym at)
