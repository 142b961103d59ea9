-- A message found by its identity, and what is made of its row.
use Rattle.std.proofs.Common.{◌≡◌, ◌∙◌, sym, ap, refl, ℕ, zero, suc, ◌<◌, Bool, true, false, cond, List, [], ◌∷◌, length, map, get_or, Option, Some, None, option_map}
use Rattle.std.specs.Prelude.{◌&&◌, nat_le, slice_get, slice_set, find}
use Rattle.std.specs.List.{list_any}
use Rattle.std.proofs.lemmas.Option.{slice_get-map}
use Rattle.std.proofs.lemmas.Bool.{both_ways}
use Rattle.def_state.specs.Names.{Identity, Numbers}
use Rattle.def_state.specs.Outbox.{Held, is_held_as, mark_stable}
use Rattle.ic_index.specs.Alone.{StandsAlone}
use Rattle.ic_index.proofs.Alone.{alone-by_name, none-by_name, alone-map, none-map, alone-find_both, none-find_both}
use Rattle.ic_index.proofs.Reading.{get-read}
use Rattle.ic_out.specs.declared.outbox.Row.{Row}
use Rattle.ic_out.specs.Views.{held_of, name_of, IsMarked, IsKept}
use Rattle.ic_out.proofs.Kept.{IsRowMarked, kept-mark}

names-of_held : (rows : List Row) → map (λ h. record { peer = h.msg.to; k = h.msg.k }) (map held_of rows) ≡ map name_of rows
names-of_held [] = refl
names-of_held (r ∷ rows) = ap (λ l. name_of r ∷ l) (names-of_held rows)

pub found-alone : (rows : List Row) (names : List Identity) (x : Identity) (i : ℕ) (r : Row) → map name_of rows ≡ names → slice_get names i ≡ Some x → ((j : ℕ) → slice_get names j ≡ Some x → Some i ≡ Some j) → i < length rows → r ≡ get_or rows i r → StandsAlone (is_held_as x) (map held_of rows) i (held_of r)
found-alone rows names x i r named found once l read =
    let N = names-of_held rows ∙ named in
    let there = slice_get-map held_of rows i ∙ ap (option_map held_of) (get-read rows i r l read) in
    alone-by_name (λ h. record { peer = h.msg.to; k = h.msg.k }) (map held_of rows) x i (held_of r) (ap (λ l. slice_get l i) N ∙ found) (λ j s. once j (ap (λ l. slice_get l j) (sym N) ∙ s)) there

pub found-none : (rows : List Row) (names : List Identity) (x : Identity) (o : Option ℕ) → map name_of rows ≡ names → o ≡ None → ((j : ℕ) → slice_get names j ≡ Some x → o ≡ Some j) → list_any (is_held_as x) (map held_of rows) ≡ false
found-none rows names x o named none once =
    let N = names-of_held rows ∙ named in
    none-by_name (λ h. record { peer = h.msg.to; k = h.msg.k }) (map held_of rows) x o none (λ j s. once j (ap (λ l. slice_get l j) (sym N) ∙ s))

unmarked : (x : Identity) (h : Held) → is_held_as x h ≡ false → mark_stable x h ≡ h
unmarked x h e = let P : Bool → Held = λ b. record h { stable = cond b true h.stable } in ap P e

pub stable-alone : (x : Identity) (hs : List Held) (i : ℕ) (h : Held) → StandsAlone (is_held_as x) hs i h → map (mark_stable x) hs ≡ slice_set hs i (record h { stable = true })
stable-alone x hs i h a =
    let P : Bool → List Held = λ b. slice_set hs i (record h { stable = cond b true h.stable }) in
    alone-map (is_held_as x) (mark_stable x) (unmarked x) hs i h a ∙ ap P a.passes

pub stable-none : (x : Identity) (hs : List Held) → list_any (is_held_as x) hs ≡ false → map (mark_stable x) hs ≡ hs
stable-none x hs e = none-map (is_held_as x) (mark_stable x) (unmarked x) hs e

pub fetch-alone : (x : Identity) (forced : ℕ) (hs : List Held) (i : ℕ) (h : Held) (b : Bool) → StandsAlone (is_held_as x) hs i h → nat_le h.at forced ≡ b → option_map (λ z. z.msg) (find (λ z. is_held_as x z && nat_le z.at forced) hs) ≡ cond b (Some h.msg) None
fetch-alone x forced hs i h true a e = ap (option_map (λ z. z.msg)) (alone-find_both (is_held_as x) (λ z. nat_le z.at forced) hs i h a ∙ ap (λ b. cond b (Some h) None) e)
fetch-alone x forced hs i h false a e = ap (option_map (λ z. z.msg)) (alone-find_both (is_held_as x) (λ z. nat_le z.at forced) hs i h a ∙ ap (λ b. cond b (Some h) None) e)

pub fetch-none : (x : Identity) (forced : ℕ) (hs : List Held) → list_any (is_held_as x) hs ≡ false → option_map (λ z. z.msg) (find (λ z. is_held_as x z && nat_le z.at forced) hs) ≡ None
fetch-none x forced hs e = ap (option_map (λ z. z.msg)) (none-find_both (is_held_as x) (λ z. nat_le z.at forced) hs e)

-- the row that is written again
pub marked-row : (rows : List Row) (i : ℕ) (new : Row) → IsMarked (slice_get (map held_of rows) i) (held_of new) → (r : Row) × ((slice_get rows i ≡ Some r) × IsRowMarked r new)
marked-row [] i new m = absurd m
marked-row (r ∷ rows) zero new m = (r, (refl, record { msg = m.msg; at = m.at; put = m.put; unput = λ u. unput r.put refl (m.put) u }))
  where
    unput : (b : Bool) → r.put ≡ b → (r.put ≡ true → new.put ≡ true) → new.put ≡ false → r.put ≡ false
    unput true e keeps u = absurd (true-false new.put (keeps e) u)
      where
        true-false : (b : Bool) → b ≡ true → b ≡ false → ⊥
        true-false b t f = both_ways b f t
    unput false e keeps u = e
marked-row (r ∷ rows) (suc i) new m = marked-row rows i new m

pub kept-marked : (rows : List Row) (names : List Identity) (links : Numbers) (first quiet i : ℕ) (new : Row) → IsKept rows names links first quiet → IsMarked (slice_get (map held_of rows) i) (held_of new) → IsKept (slice_set rows i new) names links first quiet
kept-marked rows names links first quiet i new h m =
    let row = marked-row rows i new m in
    kept-mark rows names links first quiet i row.0 new h row.1.0 row.1.1
