-- The disks of the first components taken out, or put back, and those of the others still to come.
use Rattle.std.proofs.Common.{◌≡◌, ◌∙◌, sym, ap, refl, ℕ, ◌+◌, ◌<◌, ◌≤◌, Bool, true, false, List, [], ◌∷◌, ◌++◌, length, length-append, append_assoc, drop, get_or, arith, Some}
use Rattle.std.specs.Prelude.{slice_get, not}
use Rattle.std.specs.List.{insert, remove}
use Rattle.std.proofs.lemmas.List.{append-nil, drop_all}
use Rattle.ic_base.specs.declared.scenario.Component.{Component}
use Rattle.ic_world.specs.Opening.{is_outside, disks_in}
use Rattle.ic_world.proofs.Places.{at-drop}
use Rattle.ic_run.specs.Lending.{lent, left_over, merged}
use Rattle.ic_run.proofs.Places.{disks_few, count_outside, count_inside, lent_outside, lent_inside, left_outside, left_inside, merged_outside, merged_inside}

pub not_of : (r o b : Bool) → r ≡ not o → r ≡ b → o ≡ not b
not_of r true b e f = sym (ap not (sym f ∙ e))
not_of r false b e f = sym (ap not (sym f ∙ e))

module _ {D : Type 0} where
  -- the one behind the first ones
  pub remove_behind : (front : List D) (d : D) (rest : List D) → remove (front ++ d ∷ rest) (length front) ≡ front ++ rest
  remove_behind [] d rest = refl
  remove_behind (x ∷ front) d rest = ap (λ l. x ∷ l) (remove_behind front d rest)

  pub insert_behind : (front : List D) (d : D) (rest : List D) → insert (front ++ rest) (length front) d ≡ front ++ d ∷ rest
  insert_behind [] d rest = refl
  insert_behind (x ∷ front) d rest = ap (λ l. x ∷ l) (insert_behind front d rest)

  -- The disks of the first i components are taken out of these. Before place `at` stand those that stay.
  pub record Takes (xs : List Component) (disks : List D) (i at : ℕ) (taken now : List D) : Type 0 where
    pub stay : List D
    pub rest : List D
    pub are : now ≡ stay ++ rest
    pub place : at ≡ length stay
    pub lends : taken ++ lent (drop i xs) rest ≡ lent xs disks
    pub leaves : stay ++ left_over (drop i xs) rest ≡ left_over xs disks
    pub enough : length (drop i xs) ≤ length rest
    pub few : length taken ≤ i

  pub takes_none : (xs : List Component) (disks : List D) → length xs ≤ length disks → Takes xs disks 0 0 [] disks
  takes_none xs disks enough = record { stay = []; rest = disks; are = refl; place = refl; lends = refl; leaves = refl; enough = enough; few = omega arith }

  get_behind : (front : List D) (e : D) (rest : List D) (d : D) → get_or (front ++ e ∷ rest) (length front) d ≡ e
  get_behind [] e rest d = refl
  get_behind (x ∷ front) e rest d = get_behind front e rest d

  -- one more behind the first ones
  shifted : (front : List D) (d : D) (rest : List D) → front ++ d ∷ rest ≡ (front ++ d ∷ []) ++ rest
  shifted front d rest = sym (append_assoc front (d ∷ []) rest)

  more_by_one : (front : List D) (d : D) → length (front ++ d ∷ []) ≡ length front + 1
  more_by_one front d = length-append front (d ∷ [])

  module _ (xs : List Component) (disks : List D) (i at : ℕ) (taken now : List D) (t : Takes xs disks i at taken now) where
    -- all are taken out
    pub takes_all : length xs ≤ i → (taken ≡ lent xs disks) × (now ≡ left_over xs disks)
    takes_all over =
        let none : drop i xs ≡ [] = drop_all i xs over in (
          sym (append-nil taken) ∙ ap (λ (l : List Component). taken ++ lent l t.rest) (sym none) ∙ t.lends,
          t.are ∙ ap (λ (l : List Component). t.stay ++ left_over l t.rest) (sym none) ∙ t.leaves,
        )

    module _ (x : Component) (there : slice_get xs i ≡ Some x) where
      split : drop i xs ≡ x ∷ drop (i + 1) xs
      split = at-drop xs i x there

      -- the next component's disk is there
      pub takes_within : at < length now
      takes_within = omega (arith, t.place, ap length t.are, length-append t.stay t.rest, t.enough, ap length split)

      pub takes_inside : is_outside x.kind ≡ false → (d : D) → d ≡ get_or now at d → (next : ℕ) (more left : List D) → next ≡ at → more ≡ taken ++ d ∷ [] → left ≡ remove now at → Takes xs disks (i + 1) next more left
      takes_inside is d value next more left n m l = by t.rest t.are t.lends t.leaves t.enough
        where
          by : (rest : List D) → now ≡ t.stay ++ rest → taken ++ lent (drop i xs) rest ≡ lent xs disks → t.stay ++ left_over (drop i xs) rest ≡ left_over xs disks → length (drop i xs) ≤ length rest → Takes xs disks (i + 1) next more left
          by [] are lends leaves enough = absurd (omega (arith, enough, ap length split))
          by (e ∷ rest) are lends leaves enough =
              let same : d ≡ e = value ∙ ap (λ l. get_or l at d) are ∙ ap (λ n. get_or (t.stay ++ e ∷ rest) n d) t.place ∙ get_behind t.stay e rest d in
              record {
                stay = t.stay;
                rest = rest;
                are = l ∙ ap (λ l. remove l at) are ∙ ap (remove (t.stay ++ e ∷ rest)) t.place ∙ remove_behind t.stay e rest;
                place = n ∙ t.place;
                lends =
                    ap (λ l. l ++ lent (drop (i + 1) xs) rest) m ∙ append_assoc taken (d ∷ []) (lent (drop (i + 1) xs) rest) ∙ ap (λ z. taken ++ z ∷ lent (drop (i + 1) xs) rest) same
                    ∙ ap (λ l. taken ++ l) (sym (lent_inside x (drop (i + 1) xs) e rest is)) ∙ ap (λ l. taken ++ lent l (e ∷ rest)) (sym split) ∙ lends;
                leaves = ap (λ l. t.stay ++ l) (sym (left_inside x (drop (i + 1) xs) e rest is)) ∙ ap (λ l. t.stay ++ left_over l (e ∷ rest)) (sym split) ∙ leaves;
                enough = omega (arith, enough, ap length split);
                few = omega (arith, t.few, ap length m, more_by_one taken d);
              }

      pub takes_outside : is_outside x.kind ≡ true → (next : ℕ) (more left : List D) → next ≡ at + 1 → more ≡ taken → left ≡ now → Takes xs disks (i + 1) next more left
      takes_outside is next more left n m l = by t.rest t.are t.lends t.leaves t.enough
        where
          by : (rest : List D) → now ≡ t.stay ++ rest → taken ++ lent (drop i xs) rest ≡ lent xs disks → t.stay ++ left_over (drop i xs) rest ≡ left_over xs disks → length (drop i xs) ≤ length rest → Takes xs disks (i + 1) next more left
          by [] are lends leaves enough = absurd (omega (arith, enough, ap length split))
          by (e ∷ rest) are lends leaves enough = record {
            stay = t.stay ++ e ∷ [];
            rest = rest;
            are = l ∙ are ∙ shifted t.stay e rest;
            place = omega (arith, n, t.place, more_by_one t.stay e);
            lends = ap (λ l. l ++ lent (drop (i + 1) xs) rest) m ∙ ap (λ l. taken ++ l) (sym (lent_outside x (drop (i + 1) xs) e rest is)) ∙ ap (λ l. taken ++ lent l (e ∷ rest)) (sym split) ∙ lends;
            leaves =
                sym (shifted t.stay e (left_over (drop (i + 1) xs) rest))
                ∙ ap (λ l. t.stay ++ l) (sym (left_outside x (drop (i + 1) xs) e rest is)) ∙ ap (λ l. t.stay ++ left_over l (e ∷ rest)) (sym split) ∙ leaves;
            enough = omega (arith, enough, ap length split);
            few = omega (arith, t.few, ap length m);
          }

  -- the disks of the first i components stand in their places, and these of the others are left to put back
  pub record Gives (xs : List Component) (others disks : List D) (i : ℕ) (left now : List D) : Type 0 where
    pub front : List D
    pub rest : List D
    pub are : now ≡ front ++ rest
    pub place : i ≡ length front
    pub gives : front ++ merged (drop i xs) rest left ≡ merged xs others disks
    pub count : length left ≡ disks_in (drop i xs)
    pub enough : length (drop i xs) ≤ length rest + length left

  pub gives_none : (xs : List Component) (others disks : List D) → length disks ≡ disks_in xs → length xs ≤ length others + length disks → Gives xs others disks 0 disks others
  gives_none xs others disks count enough = record { front = []; rest = others; are = refl; place = refl; gives = refl; count = count; enough = enough }

  module _ (xs : List Component) (others disks : List D) (i : ℕ) (left now : List D) (g : Gives xs others disks i left now) where
    -- all stand in their places
    pub gives_all : length xs ≤ i → now ≡ merged xs others disks
    gives_all over = g.are ∙ ap (λ (l : List Component). g.front ++ merged l g.rest left) (sym (drop_all i xs over)) ∙ g.gives

    -- the next place is one of these, or behind them
    pub gives_within : i ≤ length now
    gives_within = omega (arith, g.place, ap length g.are, length-append g.front g.rest)

    module _ (x : Component) (there : slice_get xs i ≡ Some x) where
      next : drop i xs ≡ x ∷ drop (i + 1) xs
      next = at-drop xs i x there

      -- a disk is left for a component that has one
      pub gives_some : is_outside x.kind ≡ false → 0 < length left
      gives_some is = omega (arith, g.count, ap disks_in next, count_inside x (drop (i + 1) xs) is)

      pub gives_inside : is_outside x.kind ≡ false → (d : D) (more then : List D) → left ≡ d ∷ more → then ≡ insert now i d → Gives xs others disks (i + 1) more then
      gives_inside is d more then e n = record {
        front = g.front ++ d ∷ [];
        rest = g.rest;
        are = n ∙ ap (λ l. insert l i d) g.are ∙ ap (λ n. insert (g.front ++ g.rest) n d) g.place ∙ insert_behind g.front d g.rest ∙ shifted g.front d g.rest;
        place = omega (arith, g.place, more_by_one g.front d);
        gives =
            sym (shifted g.front d (merged (drop (i + 1) xs) g.rest more)) ∙ ap (λ l. g.front ++ l) (sym (merged_inside x (drop (i + 1) xs) g.rest d more is))
            ∙ ap (λ l. g.front ++ merged l g.rest (d ∷ more)) (sym next) ∙ ap (λ l. g.front ++ merged (drop i xs) g.rest l) (sym e) ∙ g.gives;
        count = omega (arith, ap length e, g.count, ap disks_in next, count_inside x (drop (i + 1) xs) is);
        enough = omega (arith, ap length e, g.enough, ap length next);
      }

      pub gives_outside : is_outside x.kind ≡ true → (more then : List D) → more ≡ left → then ≡ now → Gives xs others disks (i + 1) more then
      gives_outside is more then m n = by g.rest g.are g.gives g.enough
        where
          by : (rest : List D) → now ≡ g.front ++ rest → g.front ++ merged (drop i xs) rest left ≡ merged xs others disks → length (drop i xs) ≤ length rest + length left → Gives xs others disks (i + 1) more then
          by [] are gives enough = absurd (omega (arith, enough, ap length next, g.count, ap disks_in next, count_outside x (drop (i + 1) xs) is, disks_few (drop (i + 1) xs)))
          by (r ∷ rest) are gives enough = record {
            front = g.front ++ r ∷ [];
            rest = rest;
            are = n ∙ are ∙ shifted g.front r rest;
            place = omega (arith, g.place, more_by_one g.front r);
            gives =
                ap (λ l. (g.front ++ r ∷ []) ++ merged (drop (i + 1) xs) rest l) m ∙ sym (shifted g.front r (merged (drop (i + 1) xs) rest left)) ∙ ap (λ l. g.front ++ l) (sym (merged_outside x (drop (i + 1) xs) r rest left is))
                ∙ ap (λ l. g.front ++ merged l (r ∷ rest) left) (sym next) ∙ gives;
            count = ap length m ∙ g.count ∙ ap disks_in next ∙ count_outside x (drop (i + 1) xs) is;
            enough = omega (arith, enough, ap length next, ap length m);
          }
