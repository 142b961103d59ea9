-- What a read shows of a file and the writes over it.
use Rattle.std.proofs.Common.{◌≡◌, ◌⊎◌, inl, inr, sym, ap, ◌∙◌, ℕ, ◌+◌, ◌-◌, ◌<◌, ◌≤◌, min, List, ◌++◌, length, get_or, take, drop, replicate, refl, append_assoc, arith}
use Rattle.std.proofs.lemmas.Bool.{cases_lt}
use Rattle.std.proofs.lemmas.List.{length-take-le, length-drop, length-append, get_or-take, get_or-drop, get_or_append_left, get_or-append_right, get_or-replicate, get_or_past, length-replicate, ext_get_or}
use Rattle.def_log.specs.Torn.{written}
use Rattle.def_log.proofs.Stops.{length-written}
use Rattle.ic_disk.specs.TornDisks.{Shows}

-- what stands at each place of a written file
module _ (file bytes : List ℕ) (at : ℕ) (le : at ≤ length file) where
  front : length (take at file) ≡ at
  front = length-take-le at file le

  fronts : length (take at file ++ bytes) ≡ at + length bytes
  fronts = omega (arith, front, length-append (take at file) bytes)

  parts : written file at bytes ≡ take at file ++ (bytes ++ drop (at + length bytes) file)
  parts = append_assoc (take at file) bytes (drop (at + length bytes) file)

  pub written_before : (i : ℕ) → i < at → get_or (written file at bytes) i 0 ≡ get_or file i 0
  written_before i before =
      ap (λ (l : List ℕ). get_or l i 0) parts ∙ get_or_append_left (take at file) (bytes ++ drop (at + length bytes) file) 0 i (omega (arith, front, before)) ∙ get_or-take at file i 0 before

  pub written_within : (i : ℕ) → at ≤ i → i < at + length bytes → get_or (written file at bytes) i 0 ≡ get_or bytes (i - at) 0
  written_within i here within =
      ap (λ (l : List ℕ). get_or l i 0) parts ∙ get_or-append_right (take at file) (bytes ++ drop (at + length bytes) file) at i 0 front here
      ∙ get_or_append_left bytes (drop (at + length bytes) file) 0 (i - at) (omega (arith, here, within))

  pub written_behind : (i : ℕ) → at + length bytes ≤ i → get_or (written file at bytes) i 0 ≡ get_or file i 0
  written_behind i behind =
      let place : at + length bytes + (i - (at + length bytes)) ≡ i = omega (arith, behind) in
      get_or-append_right (take at file ++ bytes) (drop (at + length bytes) file) (at + length bytes) i 0 fronts behind ∙ get_or-drop (at + length bytes) file (i - (at + length bytes)) 0 ∙ ap (λ n. get_or file n 0) place

-- a write that covers none of the shown bytes
pub shows_apart : (at place : ℕ) (file bytes shown : List ℕ) → (length shown ≤ place - at) ⊎ (length bytes ≤ at - place) → place ≤ length file → Shows at file shown → Shows at (written file place bytes) shown
shows_apart at place file bytes shown (inl before) le shows i within = shows i within ∙ sym (written_before file bytes place le (at + i) (omega (arith, before, within)))
shows_apart at place file bytes shown (inr behind) le shows i within = elim (cases_lt (at + i) place) [
  | inl earlier ↦ shows i within ∙ sym (written_before file bytes place le (at + i) earlier)
  | inr later ↦ shows i within ∙ sym (written_behind file bytes place le (at + i) (omega (arith, behind, later)))
]

-- a write that covers some of them
module _ (at place : ℕ) (file bytes shown : List ℕ) (start skip count : ℕ) (starts : start ≡ place - at) (skips : skip ≡ at - place) (inside : start < length shown) (some : skip < length bytes)
    (counts : count ≡ min (length shown - start) (length bytes - skip)) (le : place ≤ length file) (shows : Shows at file shown) where
  middle : List ℕ
  middle = take count (drop skip bytes)

  covered : length middle ≡ count
  unfolding middle
  covered = length-take-le count (drop skip bytes) (omega (arith, counts, length-drop skip bytes))

  place_of : (i : ℕ) → i < length shown → get_or (written shown start middle) i 0 ≡ get_or (written file place bytes) (at + i) 0
  unfolding middle
  place_of i within = elim (cases_lt i start) [
    | inl earlier ↦ written_before shown middle start (omega (arith, inside)) i earlier ∙ shows i within ∙ sym (written_before file bytes place le (at + i) (omega (arith, starts, earlier)))
    | inr here ↦ elim (cases_lt i (start + count)) [
      | inl inner ↦
          let at_same : skip + (i - start) ≡ at + i - place = omega (arith, starts, skips, here, inner, counts) in
          written_within shown middle start (omega (arith, inside)) i here (omega (arith, covered, inner))
          ∙ get_or-take count (drop skip bytes) (i - start) 0 (omega (arith, here, inner)) ∙ get_or-drop skip bytes (i - start) 0 ∙ ap (λ n. get_or bytes n 0) at_same
          ∙ sym (written_within file bytes place le (at + i) (omega (arith, starts, here)) (omega (arith, starts, skips, here, inner, counts)))
      | inr outer ↦
          written_behind shown middle start (omega (arith, inside)) i (omega (arith, covered, outer)) ∙ shows i within
          ∙ sym (written_behind file bytes place le (at + i) (omega (arith, starts, skips, outer, counts, within, inside, some)))
    ]
  ]

  pub shows_over : Shows at (written file place bytes) (written shown start (take count (drop skip bytes)))
  unfolding middle
  shows_over i within = place_of i (omega (arith, within, length-written shown middle start (omega (arith, inside)), covered, counts))

-- the bytes of a file from an offset on, as far as there are some, and zeros behind them
pub shows_below : (file below : List ℕ) (at from part count : ℕ) → from ≡ min at (length file) → part ≡ min (length file - from) count → below ≡ take part (drop from file)
    → Shows at file (below ++ replicate (count - length below) 0)
shows_below file below at from part count begins parts is i within =
    let long : length below ≡ part = ap length is ∙ length-take-le part (drop from file) (omega (arith, parts, length-drop from file)) in
    let all : i < count = omega (arith, within, length-append below (replicate (count - length below) 0), length-replicate {A = ℕ} (count - length below) 0, long, parts) in
    elim (cases_lt i part) [
      | inl inner ↦
          let same : from + i ≡ at + i = omega (arith, begins, parts, inner) in
          get_or_append_left below (replicate (count - length below) 0) 0 i (omega (arith, long, inner)) ∙ ap (λ (l : List ℕ). get_or l i 0) is
          ∙ get_or-take part (drop from file) i 0 inner ∙ get_or-drop from file i 0 ∙ ap (λ n. get_or file n 0) same
      | inr outer ↦
          let past : length file ≤ at + i = omega (arith, begins, parts, outer, all) in
          get_or-append_right below (replicate (count - length below) 0) (length below) i 0 refl (omega (arith, long, outer))
          ∙ get_or-replicate (count - length below) (i - length below) 0 0 (omega (arith, long, outer, all)) ∙ sym (get_or_past file (at + i) 0 past)
    ]

-- what is shown of a file's range
pub shows_is : (whole shown : List ℕ) (at count : ℕ) → Shows at whole shown → length shown ≡ count → at + count ≤ length whole → shown ≡ take count (drop at whole)
shows_is whole shown at count shows long within =
    let parts : length (take count (drop at whole)) ≡ count = length-take-le count (drop at whole) (omega (arith, within, length-drop at whole)) in
    ext_get_or 0 shown (take count (drop at whole)) (long ∙ sym parts)
    (λ i inside. shows i inside ∙ sym (get_or-drop at whole i 0) ∙ sym (get_or-take count (drop at whole) i 0 (omega (arith, inside, long))))
