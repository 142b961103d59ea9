-- The first and the last state of each walk over components and disks, and what each step does.
use Rattle.std.proofs.Common.{◌≡◌, ◌∙◌, sym, ap, refl, ℕ, ◌+◌, ◌<◌, ◌≤◌, List, [], ◌∷◌, ◌++◌, length, length-append, reverse, arith, get_or, Ok, Err}
use Rattle.std.specs.Prelude.{slice_get, slice_set, Result, IfOk}
use Rattle.std.proofs.lemmas.Option.{slice_get-get_or}
use Rattle.def_two.specs.declared.script.TwoWhy.{TwoWhy}
use Rattle.std.proofs.lemmas.List.{append-nil, reverse-append}
use Rattle.def_two.specs.Moves.{Openings}
use Rattle.ic_disk.specs.Disk.{Keeps}
use Rattle.ic_disk.specs.TornDisks.{Torn}
use Rattle.ic_disk.specs.declared.disk.Disk.{Ghosts}
use Rattle.ic_disk.specs.Torns.{torn}
use Rattle.ic_seat.specs.declared.seat.Seat.{Seat}
use Rattle.ic_two_world.specs.Opening.{inner_in, disks_under, AreOn, AreBegun, AreKept, IsBlank, IsNoBlank, IsNotStarted}
use Rattle.ic_two_world.proofs.Beginning.{ArePut, AreComing}
use Rattle.ic_two_world.proofs.Disks.{append-twice, reverse-twice, AreAsked, asked-kept, asked-step, asked-refused}
use Rattle.ic_two_world.proofs.Lists.{none-some, get-within}

module _ {D : Type 0} {d : Ghosts (Torn D)} where
  pub take-first : (back : List D) (seats turned : List (Seat (Torn D) d)) → turned ≡ reverse seats → back ++ disks_under (reverse turned) ≡ back ++ disks_under seats
  take-first back seats turned e = ap (λ l. back ++ disks_under l) (ap reverse e ∙ reverse-twice seats)

  pub take-step : (back more : List D) (was left : List (Seat (Torn D) d)) (x : Seat (Torn D) d) → was ≡ left ++ x ∷ [] → more ≡ back ++ inner_in x ∷ [] → more ++ disks_under (reverse left) ≡ back ++ disks_under (reverse was)
  take-step back more was left x last added =
      ap (λ l. l ++ disks_under (reverse left)) added ∙ append-twice back (inner_in x ∷ []) (disks_under (reverse left))
      ∙ ap (λ l. back ++ disks_under l) (sym (ap reverse last ∙ reverse-append left (x ∷ [])))

  pub take-end : (back all : List D) (left : List (Seat (Torn D) d)) → left ≡ [] → back ++ disks_under (reverse left) ≡ all → back ≡ all
  take-end back all left none taken = sym (append-nil back) ∙ ap (λ l. back ++ disks_under (reverse l)) (sym none) ∙ taken

module _ {D : Type 0} (b : Ghosts D) where
  pub put-first : (all turned : List D) (xs : List (Seat (Torn D) (torn b))) → turned ≡ reverse all → xs ≡ [] → ArePut b all turned xs
  put-first all turned xs e none = record {
    under = ap (λ l. disks_under l ++ reverse turned) none ∙ ap reverse e ∙ reverse-twice all;
    each = λ k x at. none-some x (sym (ap (λ l. slice_get l k) none) ∙ at);
  }

  pub put-end : (all left : List D) (xs : List (Seat (Torn D) (torn b))) → ArePut b all left xs → left ≡ [] → AreOn b all xs
  put-end all left xs put none = record {
    under = sym (append-nil (disks_under xs)) ∙ ap (λ l. disks_under xs ++ reverse l) (sym none) ∙ put.under;
    each = put.each;
  }

  pub coming-all : (openings : Openings) (print : List ℕ) (disks : List D) (i : ℕ) (xs : List (Seat (Torn D) (torn b))) → length xs ≤ i → AreComing b openings print disks i xs → AreBegun b openings print disks xs
  coming-all openings print disks i xs all so-far = record {
    kept = so-far.kept;
    each = λ c disk x e f. so-far.up c disk x (omega (arith, get-within xs c x f, all)) e f;
  }

pub one-more : {X : Type 0} (all left : List X) (x : X) → all ≡ left ++ x ∷ [] → length all ≡ length left + 1
one-more all left x e = ap length e ∙ length-append left (x ∷ [])

pub ok-of : {T E P : Type 0} (r : Result T E) → ((e : E) → r ≡ Err e → ⊥) → IfOk r (λ u. P) → P
ok-of (Ok u) unlike p = p
ok-of (Err e) unlike p = absurd (unlike e refl)

-- one more disk is asked
module _ {D : Type 0} (b : Ghosts D) (olds : List D) (i : ℕ) (now : List D) (so-far : AreAsked b olds i now) (within : i < length now) (other y : D) (new : Keeps b (get_or now i other) y) where
  pub ask-kept : AreKept b olds (slice_set now i y)
  ask-kept = asked-kept b olds i now so-far (get_or now i other) y (slice_get-get_or now i other within) new

  pub ask-step : IsBlank b (get_or now i other) → IsBlank b y → AreAsked b olds (i + 1) (slice_set now i y)
  ask-step was is = asked-step b olds i now so-far (get_or now i other) y (slice_get-get_or now i other within) new was is

  pub ask-refused : (why : TwoWhy) → IsNoBlank b i (get_or now i other) y why → IsNotStarted b olds (slice_set now i y) why
  ask-refused = asked-refused b olds i now so-far (get_or now i other) y (slice_get-get_or now i other within) new
