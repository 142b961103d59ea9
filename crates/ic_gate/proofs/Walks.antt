-- The records of a log from a gate on, and those that stand before it.
use Rattle.std.proofs.Common.{◌≡◌, ◌⊎◌, inl, inr, ⊎_elim, ◌∙◌, sym, ap, refl, subst, arith, cond, ℕ, ◌+◌, ◌-◌, ◌≤◌, Bool, true, false, List, [], ◌∷◌, ◌++◌, length, drop, Option, Some, None}
use Rattle.std.specs.Prelude.{Result, Ok, Err, ◌==◌, ◌||◌}
use Rattle.std.specs.List.{AllByRecursion}
use Rattle.std.proofs.lemmas.Bool.Decides.{nat_tests}
use Rattle.std.proofs.lemmas.List.{length-drop, drop-drop, map-append}
use Rattle.ic_base.specs.declared.limits.TheConstants.{FIRST_GATE}
use Rattle.ic_base.specs.declared.record.Batch.{Batch}
use Rattle.ic_base.specs.declared.record.Record.{Record}
use Rattle.def_log.specs.Changes.{IsForced, is_start}
use Rattle.def_log.specs.Directory.{first_slot, slots_in, first_bad_slot, unless_bad}
use Rattle.def_log.specs.Frame.{any_batch, batches_from, batches_at}
use Rattle.def_log.specs.Log.{◌>>=◌, Placed, placed_in, records_in, log_of}
use Rattle.def_log.specs.Sizes.{span}
use Rattle.def_log.specs.Spelling.{spellings, Fits}
use Rattle.def_log.proofs.Keeps.{is_whole}
use Rattle.def_log.proofs.Spans.{fewer}
use Rattle.def_log.proofs.Tails.{IsNamed, further, IsFrame, split, enough, starts, placed_split, frame_parts, log_parts}
use Rattle.law_marks.proofs.Reading.{read-all, placed-push}
use Rattle.ic_gate.specs.RecordFiles.{placed_from, records_from}

-- the batches from a gate on, and their records
pub record IsWalk (start : ℕ) (bytes : List ℕ) (rs : List Record) : Type 0 where
  pub bs : List Batch
  pub ps : List Placed
  pub batches : batches_at start bytes ≡ Ok bs
  pub places : placed_in bs ≡ Ok ps
  pub records : records_in ps ≡ rs

pub walk_parts : (start : ℕ) (bytes : List ℕ) (rs : List Record) → records_from start bytes ≡ Ok rs → IsWalk start bytes rs
walk_parts start bytes rs e = at (batches_at start bytes) refl e
  where
    placed : (bs : List Batch) → batches_at start bytes ≡ Ok bs → (r : Result (List Placed) ℕ) → placed_in bs ≡ r → (r >>= λ ps. Ok (records_in ps)) ≡ Ok rs → IsWalk start bytes rs
    placed bs b (Ok ps) p d = record { bs = bs; ps = ps; batches = b; places = p; records = cc d }
    placed bs b (Err place) p d = absurd (cc d)

    at : (r : Result (List Batch) ℕ) → batches_at start bytes ≡ r → ((r >>= placed_in) >>= λ ps. Ok (records_in ps)) ≡ Ok rs → IsWalk start bytes rs
    at (Ok bs) b d = placed bs b (placed_in bs) refl d
    at (Err place) b d = absurd (cc d)

pub places_walk : (start : ℕ) (bytes : List ℕ) (bs : List Batch) (ps : List Placed) → batches_at start bytes ≡ Ok bs → placed_in bs ≡ Ok ps → placed_from start bytes ≡ Ok ps
places_walk start bytes bs ps b p = ap (λ (r : Result (List Batch) ℕ). r >>= placed_in) b ∙ p

-- places that were read are those of the records
pub records_walk : (start : ℕ) (bytes : List ℕ) (ps : List Placed) → placed_from start bytes ≡ Ok ps → records_from start bytes ≡ Ok (records_in ps)
records_walk start bytes ps e = ap (λ (r : Result (List Placed) ℕ). r >>= λ ps. Ok (records_in ps)) e

walk_whole : (start : ℕ) (bytes : List ℕ) (bs : List Batch) (ps : List Placed) → batches_at start bytes ≡ Ok bs → placed_in bs ≡ Ok ps → records_from start bytes ≡ Ok (records_in ps)
walk_whole start bytes bs ps b p = records_walk start bytes ps (places_walk start bytes bs ps b p)

-- records of batches, behind which a slot was looked at
pub placed_alone : (bad : Option ℕ) (r : Result (List Placed) ℕ) (ps : List Placed) → (r >>= λ rs. unless_bad bad rs) ≡ Ok ps → r ≡ Ok ps
placed_alone bad (Err place) ps e = absurd (cc e)
placed_alone (Some place) (Ok rs) ps e = absurd (cc e)
placed_alone None (Ok rs) ps e = e

-- the same batches have the same records
pub same_walk : (start : ℕ) (old new : List ℕ) → batches_at start new ≡ batches_at start old → records_from start new ≡ records_from start old
same_walk start old new e = ap (λ (r : Result (List Batch) ℕ). (r >>= placed_in) >>= λ ps. Ok (records_in ps)) e

-- one batch more are the records that it holds
pub more_walk : (start at : ℕ) (old new : List ℕ) (before added : List Record) → AllByRecursion Fits added → records_from start old ≡ Ok before → IsForced start old new at (spellings added) → records_from start new ≡ Ok (before ++ added)
more_walk start at old new before added fits e f =
    let w = walk_parts start old before e in
    let b : Batch = record { at = at; payload = spellings added } in
    let q = read-all added (length (spellings added)) (at + length (spellings added)) fits (omega arith) in
    walk_whole start new (w.bs ++ b ∷ []) (w.ps ++ q.places) (f.tail w.bs w.batches) (placed-push w.bs b w.ps q.places w.places q.is)
    ∙ ap (λ (l : List Record). Ok l) (map-append (λ (p : Placed). p.1) w.ps q.places ∙ ap (λ l. l ++ records_in q.places) w.records ∙ ap (λ l. before ++ l) q.records)

-- the records of a whole log are those from its first gate on
pub first_walk : (bytes : List ℕ) (rs : List Record) → log_of bytes ≡ Ok rs → records_from FIRST_GATE bytes ≡ Ok rs
first_walk bytes rs e =
    let l = log_parts bytes rs e in
    walk_whole FIRST_GATE bytes l.bs l.ps (frame_parts bytes l.bs l.frame).batches_same l.places ∙ ap (λ (r : List Record). Ok r) l.records

not_some : (place : ℕ) → ◌≡◌ {A = Option ℕ} (Some place) None → ⊥
not_some place e = cc

-- a gate at which a log may begin is the first one, or that of a batch
begins : (g place : ℕ) (os : List ℕ) (bs : List Batch) → first_bad_slot any_batch place os bs ≡ None → is_start g os ≡ true → (g ≡ FIRST_GATE) ⊎ IsNamed any_batch g bs
begins g place [] bs e at = inl (grind (arith, nat_tests))
begins g place (o ∷ os) [] e at = absurd (not_some place e)
begins g place (o ∷ os) (b ∷ bs) e at =
    here (λ d s. begins g (place + 9) os bs d s) (λ d. begins g place (o ∷ os) bs d at) (b.at == o + 5) refl e
  where
    on : (g ≡ FIRST_GATE) ⊎ IsNamed any_batch g bs → (g ≡ FIRST_GATE) ⊎ IsNamed any_batch g (b ∷ bs)
    on found = ⊎_elim (λ first. inl first) (λ named. inr (further any_batch g b bs named)) found

    named : (first_bad_slot any_batch (place + 9) os bs ≡ None → is_start g os ≡ true → (g ≡ FIRST_GATE) ⊎ IsNamed any_batch g bs) → first_bad_slot any_batch (place + 9) os bs ≡ None → b.at ≡ o + 5 → (t : Bool) → (g == o) ≡ t → t || is_start g os ≡ true
        → (g ≡ FIRST_GATE) ⊎ IsNamed any_batch g (b ∷ bs)
    named others d is true same s =
        let at : g ≡ o = grind (arith, nat_tests) in
        inr (record { before = []; batch = b; rest = bs; is = refl; at = omega (arith, is, at); passes = refl })
    named others d is false same s = on (others d s)

    here : (first_bad_slot any_batch (place + 9) os bs ≡ None → is_start g os ≡ true → (g ≡ FIRST_GATE) ⊎ IsNamed any_batch g bs) → (first_bad_slot any_batch place (o ∷ os) bs ≡ None → (g ≡ FIRST_GATE) ⊎ IsNamed any_batch g bs)
        → (t : Bool) → (b.at == o + 5) ≡ t → cond t (first_bad_slot any_batch (place + 9) os bs) (first_bad_slot any_batch place (o ∷ os) bs) ≡ None → (g ≡ FIRST_GATE) ⊎ IsNamed any_batch g (b ∷ bs)
    here others rest true same d = named others d (grind (arith, nat_tests)) (g == o) refl at
    here others rest false same d = on (rest d)

-- the batches from a batch's gate on are that one and those behind it
from_batch : (bytes : List ℕ) (bs : List Batch) (g : ℕ) → IsFrame bytes bs → (n : IsNamed any_batch g bs) → batches_at g bytes ≡ Ok (n.batch ∷ n.rest)
from_batch bytes bs g f n =
    let last : List Batch = n.batch ∷ n.rest in
    let there : ℕ = FIRST_GATE + span n.before in
    let cut = split n.before last (length bytes) FIRST_GATE (drop FIRST_GATE bytes) (f.batches_same ∙ ap (λ (b : List Batch). Ok b) n.is) in
    let here = subst (λ (b : List ℕ). batches_from (length bytes - length n.before) there b ≡ Ok last) (drop-drop (span n.before) FIRST_GATE bytes) cut in
    let few : length n.before ≤ span n.before = fewer n.before in
    let again : batches_at there bytes ≡ Ok last = enough (length bytes) (length bytes - length n.before) there (drop there bytes) (omega (arith, length-drop there bytes)) (omega (arith, length-drop there bytes, few)) ∙ here in
    let place = is_whole there (drop there bytes) n.batch (starts (length bytes) there (drop there bytes) n.batch n.rest again) in
    let same : there ≡ g = omega (arith, place.at, n.at) in
    ap (λ k. batches_at k bytes) (sym same) ∙ again

-- The records of a whole log end with those from a gate on, at which a log may begin: the first one, or one that an open slot names.
pub log_walk : (start : ℕ) (bytes : List ℕ) (rs : List Record) → log_of bytes ≡ Ok rs → is_start start (slots_in bytes) ≡ true → (front : List Record) × (records : List Record) × (records_from start bytes ≡ Ok records) × (rs ≡ front ++ records)
log_walk start bytes rs e begun =
    let l = log_parts bytes rs e in
    let f = frame_parts bytes l.bs l.frame in
    elim (begins start first_slot (slots_in bytes) l.bs f.slots_same begun) [
      | inl first ↦ ([], rs, ap (λ n. records_from n bytes) first ∙ first_walk bytes rs e, refl)
      | inr n ↦ let p = placed_split n.before (n.batch ∷ n.rest) l.ps (ap placed_in (sym n.is) ∙ l.places) in (
        records_in p.front,
        records_in p.behind,
        walk_whole start bytes (n.batch ∷ n.rest) p.behind (from_batch bytes l.bs start f n) p.second,
        sym l.records ∙ ap records_in p.is ∙ map-append (λ (r : Placed). r.1) p.front p.behind,
      )
    ]

pub same_records : (a b : List Record) → ◌≡◌ {A = Result (List Record) ℕ} (Ok a) (Ok b) → a ≡ b
same_records a b e = cc

-- so where both are read, they differ in what stands before that gate
pub walk_front : (start : ℕ) (bytes : List ℕ) (rs records : List Record) → log_of bytes ≡ Ok rs → is_start start (slots_in bytes) ≡ true → records_from start bytes ≡ Ok records → (front : List Record) × (rs ≡ front ++ records)
walk_front start bytes rs records e begun read =
    let w = log_walk start bytes rs e begun in
    (w.0, w.3 ∙ ap (λ l. w.0 ++ l) (same_records w.1 records (sym w.2 ∙ read)))
