-- The scenario and the schedule that `make` runs: a chain of orders over three Pcoms and a bank, with losses and crashes drawn from a number.
use Rattle.std.specs.Prelude.{ℕ, zero, suc, ◌+◌, ◌*◌, ◌/◌, ◌%◌, List, [], ◌∷◌, ◌++◌, flat_map, slice_get, unwrap_or, codes, decimal}

-- lines of a text, each with its end
abbrev pub text_of : List (List ℕ) → List ℕ
text_of ls = flat_map (λ l. l ++ 10 ∷ []) ls

abbrev pub large_scenario : List ℕ
large_scenario = text_of (
    codes "xcom desk"
    ∷ codes "pcom shop"
    ∷ codes "  var orders 0"
    ∷ codes "  on order n"
    ∷ codes "    set orders orders + 1"
    ∷ codes "    send store take n"
    ∷ codes "  end"
    ∷ codes "end"
    ∷ codes "pcom store"
    ∷ codes "  var stock 100000"
    ∷ codes "  on take n"
    ∷ codes "    set stock stock - n"
    ∷ codes "    send till charge n"
    ∷ codes "  end"
    ∷ codes "end"
    ∷ codes "pcom till"
    ∷ codes "  var ok 0"
    ∷ codes "  var bad 0"
    ∷ codes "  on charge n"
    ∷ codes "    txn bank"
    ∷ codes "      get x a"
    ∷ codes "      need x >= n"
    ∷ codes "      put a x - n"
    ∷ codes "      get y b"
    ∷ codes "      put b y + n"
    ∷ codes "      set ok ok + 1"
    ∷ codes "    else"
    ∷ codes "      set bad bad + 1"
    ∷ codes "    end"
    ∷ codes "    out desk ok"
    ∷ codes "  end"
    ∷ codes "end"
    ∷ codes "tcom bank"
    ∷ codes "  key a 100000"
    ∷ codes "  key b 0"
    ∷ codes "end"
    ∷ []
    )

-- the number behind a number
abbrev pub drawn : ℕ → ℕ
drawn x = (x * 1103515245 + 12345) % 2147483648

-- the lines of each draw
abbrev pub draws : List (List (List ℕ))
draws =
    (codes "deliver shop store" ∷ [])
    ∷ (codes "deliver store till" ∷ [])
    ∷ (codes "deliver till bank" ∷ [])
    ∷ (codes "deliver bank till" ∷ [])
    ∷ (codes "lose shop store" ∷ [])
    ∷ (codes "lose store till" ∷ [])
    ∷ (codes "force store" ∷ [])
    ∷ (codes "force till" ∷ [])
    ∷ (codes "crash store" ∷ codes "recover store" ∷ [])
    ∷ (codes "crash till" ∷ codes "recover till" ∷ [])
    ∷ (codes "checkpoint store" ∷ [])
    ∷ (codes "checkpoint till" ∷ [])
    ∷ []

abbrev pub lines_at : ℕ → List (List ℕ)
lines_at x = unwrap_or (slice_get draws ((x / 65536) % 12)) []

-- the lines of the input number i, and of the three draws behind x
abbrev pub input_lines : ℕ → ℕ → List (List ℕ)
input_lines i x =
    (codes "input shop order " ++ decimal (1 + i % 5)) ∷ (lines_at (drawn x) ++ (lines_at (drawn (drawn x)) ++ lines_at (drawn (drawn (drawn x)))))

-- so many inputs from number i on
abbrev pub inputs_from : ℕ → ℕ → ℕ → List (List ℕ)
inputs_from zero i x = []
inputs_from (suc n) i x = input_lines i x ++ inputs_from n (i + 1) (drawn (drawn (drawn x)))

-- the schedule of two hundred orders that a number gives
abbrev pub large_schedule : ℕ → List ℕ
large_schedule number = text_of (inputs_from 200 1 number)
