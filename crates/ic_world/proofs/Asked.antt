-- The lengths of the disks, as they are asked one after another.
use Rattle.std.proofs.Common.{◌≡◌, ◌∙◌, sym, ap, subst, refl, ℕ, zero, suc, ◌+◌, ◌-◌, ◌<◌, ◌≤◌, true, false, ◌⊎◌, inl, inr, List, [], ◌∷◌, length, get_or, arith, Option, Some, None}
use Rattle.std.specs.Prelude.{◌++◌, slice_get, slice_set, drop, cond, not, is_some, option_to_list}
use Rattle.std.proofs.lemmas.Bool.{cases_eq}
use Rattle.std.proofs.lemmas.List.{drop_all, length-drop}
use Rattle.std.proofs.lemmas.Option.{slice_get-get_or}
use Rattle.ic_base.specs.declared.messages.ComId.{ComId}
use Rattle.ic_base.specs.declared.messages.Kind.{Kind}
use Rattle.ic_base.specs.declared.messages.Kind.TheVariants as kinds
use Rattle.ic_base.specs.declared.scenario.Component.{Component}
use Rattle.ic_base.specs.declared.scenario.Program.{Program}
use Rattle.ic_base.specs.declared.refusals.StartWhy.{StartWhy}
use Rattle.ic_base.specs.declared.refusals.StartWhy.TheVariants as starts
use Rattle.def_run.specs.Executions.{first_of}
use Rattle.def_run.specs.Openings.{IsStartRefused, IsToldFrom, if_disk, unless_blank, first_told, start_refusal}
use Rattle.def_run.specs.SystemStates.{file_in, has_disk}
use Rattle.ic_disk.specs.declared.disk.Disk.{Ghosts}
use Rattle.ic_world.specs.Opening.{is_outside, disks_in, place_in, places, AllTell, EachMeets, AllKept, files_on, HasFailed, IsStartFailed, Stays, AllStay}
use Rattle.ic_world.specs.declared.making.Beginning.TheVariants.{Found}
use Rattle.ic_world.specs.Making.{IsBlank, IsNoBlank, IsOnlyRead, IsNoneBlank, AreBlank, AreAsked}
use Rattle.ic_world.proofs.Lists.{get-drop, get-within, get-set_same, get-set_other, map-same, drop-set, same-com}
use Rattle.ic_world.proofs.Makings.{by-all, by-kept, kept-at, read-set, kept-count, kept-tell, file-there}
use Rattle.ic_world.proofs.Places.{disks-split, same-some, from-drop, next-drop, at-drop, places-step, enough-step, some-left, has-at, told-first, told-from, untold-all}
use Rattle.ic_world.proofs.Refused.{own_blank, own_if_disk}

not-outside : (k : Kind) → (k ≡ kinds.Xcom → ⊥) → is_outside k ≡ false
not-outside kinds.Pcom other = refl
not-outside kinds.Tcom other = refl
not-outside kinds.Xcom other = absurd (other refl)

lt_or_le : (m n : ℕ) → (m < n) ⊎ (n ≤ m)
lt_or_le zero zero = inr (omega arith)
lt_or_le zero (suc n) = inl (omega arith)
lt_or_le (suc m) zero = inr (omega arith)
lt_or_le (suc m) (suc n) = by (lt_or_le m n)
  where
    by : (m < n) ⊎ (n ≤ m) → (suc m < suc n) ⊎ (suc n ≤ suc m)
    by (inl l) = inl (omega (arith, l))
    by (inr l) = inr (omega (arith, l))

module _ {D : Type 0} (b : Ghosts D) (program : Program) (disks : List D) where
  abbrev test : ComId → Option StartWhy
  test c = if_disk program c (unless_blank c (file_in (files_on b program disks) c))

  pub asked-first : ((disk : D) (image : List ℕ) → b.keeps disk → b.left_since disk (b.moment disk) image → b.may_leave disk image) → length disks ≡ disks_in program.components → AreAsked b program disks 0 0 disks
  asked-first only_now count = record {
    read = by-all b only_now Found disks;
    left = refl;
    enough = count;
    later = refl;
    blank = λ k disk l. absurd (omega arith);
    still = λ k disk l. absurd (omega arith);
    untold = λ all c l. absurd (omega arith);
  }

  -- one more component is passed of which nothing is told
  untold-more : (i : ℕ) → ((c : ComId) → c.0 < i → test c ≡ None) → test (record { 0 = i }) ≡ None → (c : ComId) → c.0 < i + 1 → test c ≡ None
  untold-more i before here c l = by (cases_eq c.0 i)
    where
      by : (c.0 ≡ i) ⊎ (c.0 ≡ i → ⊥) → test c ≡ None
      by (inl e) = subst (λ z. test z ≡ None) (same-com (record { 0 = i }) c (sym e)) here
      by (inr other) = before c (omega arith)

  module _ (i next : ℕ) (now : List D) (a : AreAsked b program disks i next now) (d : Component) (at : slice_get program.components i ≡ Some d) where
    abbrev here : ComId
    here = record { 0 = i }

    asked-kept : AllKept b disks now
    asked-kept = by-kept b Found disks now a.read

    -- each that was asked reads as before
    asked-stay : (k : ℕ) (x y : D) → slice_get disks k ≡ Some x → slice_get now k ≡ Some y → b.tells x → b.seen y ≡ b.seen x
    asked-stay k x y e f told = by (lt_or_le k next)
      where
        by : (k < next) ⊎ (next ≤ k) → b.seen y ≡ b.seen x
        by (inl l) = a.still k y l f ((kept-at b disks now asked-kept k x y e f).tells.0 told) ∙ sym (a.blank k x l e told)
        by (inr l) =
            let place : next + (k - next) ≡ k = omega arith in
            let same : Some y ≡ Some x = sym f ∙ ap (slice_get now) (sym place) ∙ sym (get-drop now next (k - next)) ∙ ap (λ ds. slice_get ds (k - next)) a.later ∙ get-drop disks next (k - next) ∙ ap (slice_get disks) place ∙ e in
            ap b.seen (same-some y x same)

    -- its place among the disks
    module _ (place : Option D) (rest : List D) (split : drop next disks ≡ option_to_list place ++ rest) (fits : is_some place ≡ not (is_outside d.kind)) where
      place-here : drop i (places program.components disks) ≡ place ∷ places (drop (i + 1) program.components) rest
      place-here =
          a.left
          ∙ ap (λ l. places l (drop next disks)) (at-drop program.components i d at)
          ∙ ap (λ r. places (d ∷ drop (i + 1) program.components) r) split
          ∙ places-step d (drop (i + 1) program.components) place rest fits

      at-place : slice_get (places program.components disks) i ≡ Some place
      at-place = from-drop (places program.components disks) i place (places (drop (i + 1) program.components) rest) place-here

      left-next : drop (i + 1) (places program.components disks) ≡ places (drop (i + 1) program.components) rest
      left-next = next-drop (places program.components disks) i place (places (drop (i + 1) program.components) rest) place-here

      enough-next : length rest ≡ disks_in (drop (i + 1) program.components)
      enough-next = enough-step d (drop (i + 1) program.components) place rest fits (ap length (sym split) ∙ a.enough ∙ ap disks_in (at-drop program.components i d at))

      has-here : is_some place ≡ has_disk program here
      has-here = has-at program here d (is_some place) at fits

    asked-some : is_outside d.kind ≡ false → next < length now
    asked-some inside = omega (arith, some-left d (drop (i + 1) program.components) (drop next disks) (a.enough ∙ ap disks_in (at-drop program.components i d at)) inside, length-drop next disks, kept-count b disks now asked-kept)

    -- it is outside
    asked-outside : is_outside d.kind ≡ true → AreAsked b program disks (i + 1) next now
    asked-outside out =
        let fits : false ≡ not (is_outside d.kind) = sym (ap not out) in
        record {
          read = a.read;
          left = left-next None (drop next disks) refl fits;
          enough = enough-next None (drop next disks) refl fits;
          later = a.later;
          blank = a.blank;
          still = a.still;
          untold = λ all. untold-more i (a.untold all) (ap (λ h. cond h (unless_blank here (file_in (files_on b program disks) here)) None) (sym (has-here None (drop next disks) refl fits)));
        }

    -- it has the next disk
    module _ (inside : is_outside d.kind ≡ false) (old : D) (is : slice_get now next ≡ Some old) where
      fits : true ≡ not (is_outside d.kind)
      fits = sym (ap not inside)

      split : drop next disks ≡ old ∷ drop (next + 1) disks
      split = by (at-drop now next old is)
        where
          by : drop next now ≡ old ∷ drop (next + 1) now → drop next disks ≡ old ∷ drop (next + 1) disks
          by e = let same = sym a.later ∙ e in same ∙ ap (λ l. old ∷ l) (sym (next-drop disks next old (drop (next + 1) now) same))

      old-is : slice_get disks next ≡ Some old
      old-is = from-drop disks next old (drop (next + 1) disks) split

      file-here : file_in (files_on b program disks) here ≡ b.seen old
      file-here = file-there b program disks here (Some old) (at-place (Some old) (drop (next + 1) disks) split fits)

      asked-blank : (new : D) → IsOnlyRead b old new → IsBlank b old → IsBlank b new → AreAsked b program disks (i + 1) (next + 1) (slice_set now next new)
      asked-blank new kept blank still = record {
        read = read-set b disks now next old new a.read is kept;
        left = left-next (Some old) (drop (next + 1) disks) split fits;
        enough = enough-next (Some old) (drop (next + 1) disks) split fits;
        later = drop-set now next new ∙ next-drop now next old (drop (next + 1) disks) (a.later ∙ split);
        blank = λ k disk l e. first k disk e (cases_eq k next) l;
        still = λ k disk l e. then k disk e (cases_eq k next) l;
        untold = λ all. untold-more i (a.untold all) (ap (λ h. cond h (unless_blank here (file_in (files_on b program disks) here)) None) (sym (has-here (Some old) (drop (next + 1) disks) split fits)) ∙ ap (unless_blank here) (file-here ∙ blank (all next old old-is)));
      }
        where
          first : (k : ℕ) (disk : D) → slice_get disks k ≡ Some disk → (k ≡ next) ⊎ (k ≡ next → ⊥) → k < next + 1 → IsBlank b disk
          first k disk e (inl same) l = subst (λ z. IsBlank b z) (same-some old disk (sym old-is ∙ ap (slice_get disks) (sym same) ∙ e)) blank
          first k disk e (inr other) l = a.blank k disk (omega arith) e

          then : (k : ℕ) (disk : D) → slice_get (slice_set now next new) k ≡ Some disk → (k ≡ next) ⊎ (k ≡ next → ⊥) → k < next + 1 → IsBlank b disk
          then k disk e (inl same) l = subst (λ z. IsBlank b z) (same-some new disk (sym (get-set_same now next new (get-within now next old is)) ∙ ap (slice_get (slice_set now next new)) (sym same) ∙ e)) still
          then k disk e (inr other) l = a.still k disk (omega arith) (sym (get-set_other now next k new other) ∙ e)

      -- it isn't blank, and no disk before it is told of
      told-so : AllTell b disks → (w : StartWhy) → unless_blank here (b.seen old) ≡ Some w → start_refusal program (files_on b program disks) ≡ Some w
      told-so all w e =
          told-first test program.components 0 i w (get-within program.components i d at)
          (λ k l. let none : 0 + k ≡ k = omega arith in ap (λ m. test (record { 0 = m })) none ∙ a.untold all (record { 0 = k }) l)
          (let none : 0 + i ≡ i = omega arith in
          ap (λ m. test (record { 0 = m })) none
          ∙ ap (λ h. cond h (unless_blank here (file_in (files_on b program disks) here)) None) (sym (has-here (Some old) (drop (next + 1) disks) split fits))
          ∙ ap (unless_blank here) file-here
          ∙ e)

      met-so : (new : D) (why : StartWhy) → IsNoBlank b here old new why → AllTell b disks → IsStartRefused (start_refusal program (files_on b program disks)) why
      met-so new (starts.NotBlank c) un all = told-so all (starts.NotBlank c) (un (all next old old-is)).0
      met-so new (starts.Bad c place) un all = absurd un
      met-so new (starts.Foreign c kept) un all = absurd un
      met-so new (starts.Failed c) un all = λ why e. let same : 0 + i ≡ i = omega arith in
          subst (λ d. IsToldFrom d why) (same ∙ ap (λ (d : ComId). d.0) (sym un.0))
          (told-from test (λ d. own_if_disk program d (unless_blank d (file_in (files_on b program disks) d)) (own_blank d (file_in (files_on b program disks) d))) program.components 0 i
          (λ k l. let none : 0 + k ≡ k = omega arith in ap (λ m. test (record { 0 = m })) none ∙ a.untold all (record { 0 = k }) l) why e)
      met-so new starts.Memory un all = absurd un

      place-is : length disks ≡ disks_in program.components → place_in program here ≡ next
      place-is count = omega (arith, disks-split program.components i, count, a.enough, length-drop next disks, get-within disks next old old-is)

      failed-so : length disks ≡ disks_in program.components → (new : D) (why : StartWhy) → IsNoBlank b here old new why → IsStartFailed b program disks (slice_set now next new) why
      failed-so count new (starts.NotBlank c) un = tt
      failed-so count new (starts.Bad c place) un = tt
      failed-so count new (starts.Foreign c kept) un = tt
      failed-so count new (starts.Failed c) un =
          subst (λ e. HasFailed b program e disks (slice_set now next new)) (sym un.0) (record {
            before = old;
            now = new;
            has = sym (has-here (Some old) (drop (next + 1) disks) split fits);
            was = ap (slice_get disks) (place-is count) ∙ old-is;
            is = ap (slice_get (slice_set now next new)) (place-is count) ∙ get-set_same now next new (get-within now next old is);
            fault = un.1;
          })
      failed-so count new starts.Memory un = tt

      stays-so : (new : D) (why : StartWhy) → IsNoBlank b here old new why → AllStay b why disks (slice_set now next new)
      stays-so new why un k x y e f = by (cases_eq k next)
        where
          asked : (why : StartWhy) → IsNoBlank b here old new why → Stays b why old new
          asked (starts.NotBlank c) un = λ told. (un told).1
          asked (starts.Bad c place) un = absurd un
          asked (starts.Foreign c kept) un = absurd un
          asked (starts.Failed c) un = un.2
          asked starts.Memory un = absurd un

          still-so : (why : StartWhy) → (b.tells x → b.seen y ≡ b.seen x) → Stays b why x y
          still-so (starts.NotBlank c) h = h
          still-so (starts.Bad c place) h = λ told settled. h told
          still-so (starts.Foreign c kept) h = λ told settled. h told
          still-so (starts.Failed c) h = λ told settled. h told
          still-so starts.Memory h = λ told settled. h told

          by : (k ≡ next) ⊎ (k ≡ next → ⊥) → Stays b why x y
          by (inl same) =
              let was : old ≡ x = same-some old x (sym old-is ∙ ap (slice_get disks) (sym same) ∙ e) in
              let now-is : new ≡ y = same-some new y (sym (get-set_same now next new (get-within now next old is)) ∙ ap (slice_get (slice_set now next new)) (sym same) ∙ f) in
              subst (λ z. Stays b why z y) was (subst (λ z. Stays b why old z) now-is (asked why un))
          by (inr other) = still-so why (asked-stay k x y e (sym (get-set_other now next k new other) ∙ f))

      asked-refused : length disks ≡ disks_in program.components → (new : D) (why : StartWhy) → IsNoBlank b here old new why → IsNoneBlank b program disks (slice_set now next new) why
      asked-refused count new why un = record { met = met-so new why un; failed = failed-so count new why un; stay = stays-so new why un }

  -- as the code reads a component
  module _ (i next : ℕ) (now : List D) (a : AreAsked b program disks i next now) (xs : List Component) (same : xs ≡ program.components) (default : Component) (l : i < length xs) where
    there : slice_get program.components i ≡ Some (get_or xs i default)
    there = ap (λ ys. slice_get ys i) (sym same) ∙ slice_get-get_or xs i default l

    pub pass-outside : (get_or xs i default).kind ≡ kinds.Xcom → AreAsked b program disks (i + 1) next now
    pass-outside is = asked-outside i next now a (get_or xs i default) there (ap is_outside is)

    module _ (inside : (get_or xs i default).kind ≡ kinds.Xcom → ⊥) where
      has-next : next < length now
      has-next = asked-some i next now a (get_or xs i default) there (not-outside (get_or xs i default).kind inside)

      module _ (other new : D) (kept : IsOnlyRead b (get_or now next other) new) where
        pub pass-blank : IsBlank b (get_or now next other) → IsBlank b new → AreAsked b program disks (i + 1) (next + 1) (slice_set now next new)
        pass-blank = asked-blank i next now a (get_or xs i default) there (not-outside (get_or xs i default).kind inside) (get_or now next other) (slice_get-get_or now next other has-next) new kept

        pub pass-refused : length disks ≡ disks_in program.components → (why : StartWhy) → IsNoBlank b (record { 0 = i }) (get_or now next other) new why → IsNoneBlank b program disks (slice_set now next new) why
        pass-refused count = asked-refused i next now a (get_or xs i default) there (not-outside (get_or xs i default).kind inside) (get_or now next other) (slice_get-get_or now next other has-next) count new

        pub pass-read : EachMeets (IsOnlyRead b) disks (slice_set now next new)
        pass-read = read-set b disks now next (get_or now next other) new a.read (slice_get-get_or now next other has-next) kept

  pub asked-all : (i next : ℕ) (now : List D) → length program.components ≤ i → AreAsked b program disks i next now → AreBlank b program disks now
  asked-all i next now last a = record {
    blank = λ k disk e. a.still k disk (omega (arith, get-within now k disk e, same-count, past)) e;
    same = λ all. map-same (λ disk. b.seen disk) (λ disk. b.seen disk) now disks (sym same-count) (λ k new old e f. a.still k new (omega (arith, get-within now k new e, same-count, past)) e (kept-tell b disks now kept all k new e) ∙ sym (a.blank k old (omega (arith, get-within disks k old f, past)) f (all k old f)));
    untold = λ all. untold-all test program.components 0 (λ k l. let none : 0 + k ≡ k = omega arith in ap (λ m. test (record { 0 = m })) none ∙ a.untold all (record { 0 = k }) (omega (arith, l, last)));
  }
    where
      kept : AllKept b disks now
      kept = by-kept b Found disks now a.read

      same-count : length disks ≡ length now
      same-count = kept-count b disks now kept

      past : length disks ≤ next
      past = omega (arith, length-drop next disks, a.enough, ap disks_in (drop_all i program.components last))
