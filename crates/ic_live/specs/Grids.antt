-- The two ends of each lane, side by side after the joins: outs by sender, ins by receiver.
use Rattle.std.specs.Prelude.{◌≡◌, ℕ, ◌<◌, ◌≤◌, List, [], ◌∷◌, ◌++◌, length, slice_get, slice_set, slice_index_or, Some}
use Rattle.atomic_table.specs.Seated.{TableId}
use mathlib.Core.List.{IsPrefix}
use Rattle.ic_lane.specs.Lanes.{Out, In}

abbrev pub SameLane : Out → In → Type 0
SameLane o x = o.lane ≡ x.lane

abbrev pub InOrder : Out → In → Type 0
InOrder o x = IsPrefix x.received o.sent

-- the fact holds of the two ends of each lane
abbrev pub Paired : (Out → In → Type 0) → List (List Out) → List (List In) → Type 0
Paired P outs ins = (i j : ℕ) (os : List Out) (o : Out) (is : List In) (x : In) → slice_get outs i ≡ Some os → slice_get os j ≡ Some o → slice_get ins j ≡ Some is → slice_get is i ≡ Some x → P o x

-- each row of the one has as many as the other has rows
abbrev pub IsSquare : List (List Out) → List (List In) → Type 0
IsSquare outs ins = ((i : ℕ) (os : List Out) → slice_get outs i ≡ Some os → length os ≡ length ins) × ((j : ℕ) (is : List In) → slice_get ins j ≡ Some is → length is ≡ length outs)

-- the row of one sender fits the last ends of all receivers
abbrev pub FitsRow : List Out → List (List In) → Type 0
FitsRow row ins = (length row ≤ length ins) × ((j : ℕ) (o : Out) (is : List In) → slice_get row j ≡ Some o → slice_get ins j ≡ Some is → (rest : List In) × (x : In) × (is ≡ rest ++ x ∷ []) × SameLane o x)

-- the last end of each receiver is off, and the fact holds of it and the sender's
abbrev pub Peels : List Out → List (List In) → List (List In) → Type 0
Peels row olds news = (length news ≡ length olds)
    × ((j : ℕ) (is rest : List In) → slice_get olds j ≡ Some is → slice_get news j ≡ Some rest
    → ((o : Out) → slice_get row j ≡ Some o → (x : In) × (is ≡ rest ++ x ∷ []) × InOrder o x) × (length row ≤ j → rest ≡ is))

-- a new lane
abbrev pub Blank : Out → In → Type 0
Blank o x = (o.lane ≡ x.lane) × (o.sent ≡ []) × (o.fulls ≡ 0) × (x.received ≡ [])

-- each receiver has one more end, of a new lane whose other end the row has
abbrev pub Grows : List Out → List (List In) → List (List In) → Type 0
Grows row olds news = (length news ≡ length olds) × (length row ≡ length olds)
    × ((j : ℕ) (is rest : List In) → slice_get news j ≡ Some is → slice_get olds j ≡ Some rest → (o : Out) × (x : In) × (slice_get row j ≡ Some o) × (is ≡ rest ++ x ∷ []) × Blank o x)

-- the same, as far as a place
abbrev pub GrowsTo : ℕ → List Out → List (List In) → List (List In) → Type 0
GrowsTo at row olds news = (length news ≡ length olds) × (length row ≡ at)
    × ((j : ℕ) (is rest : List In) → slice_get news j ≡ Some is → slice_get olds j ≡ Some rest
    → (j < at → (o : Out) × (x : In) × (slice_get row j ≡ Some o) × (is ≡ rest ++ x ∷ []) × Blank o x) × (at ≤ j → is ≡ rest))

-- so many receivers, with an end of each sender there is
abbrev pub IsGrid : ℕ → List (List Out) → List (List In) → Type 0
IsGrid n outs ins = (length ins ≡ n) × ((i : ℕ) (os : List Out) → slice_get outs i ≡ Some os → length os ≡ n) × ((j : ℕ) (is : List In) → slice_get ins j ≡ Some is → length is ≡ length outs) × Paired Blank outs ins

-- these ends at a place
abbrev pub placed : List (List In) → ℕ → List In → List (List In)
placed olds at ends = slice_set (slice_set olds at []) at ends

-- the lane of each pair is the scene's
abbrev pub AreLanes : (ℕ → ℕ → TableId) → List (List Out) → Type 0
AreLanes lane outs = (i j : ℕ) (os : List Out) (o : Out) → slice_get outs i ≡ Some os → slice_get os j ≡ Some o → o.lane ≡ lane i j

-- the lane from i to j, by the senders' ends
abbrev pub lane_at : List (List Out) → ℕ → ℕ → TableId
lane_at outs i j = (slice_index_or (slice_index_or outs i []) j (record { lane = record { words = 0; slots = 0; views_name = 0; atom = 0; block = 0; offset = 0; slot_names = [] }; capacity = 0; sent = []; fulls = 0 })).lane
