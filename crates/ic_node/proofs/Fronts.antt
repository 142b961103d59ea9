-- The records of a whole log with their places, and those from a gate on.
use Rattle.std.proofs.Common.{◌≡◌, ◌⊎◌, inl, inr, ⊎_elim, ◌∙◌, sym, ap, refl, subst, arith, cond, ℕ, ◌+◌, ◌-◌, ◌≤◌, Bool, true, false, List, [], ◌∷◌, ◌++◌, length, drop, Option, Some, None}
use Rattle.std.specs.Prelude.{suc, Result, Ok, Err, ◌==◌, ◌||◌}
use Rattle.std.proofs.lemmas.Bool.Decides.{nat_tests}
use Rattle.std.proofs.lemmas.List.{length-drop, drop-drop, map-append, length-map}
use Rattle.ic_base.specs.declared.limits.TheConstants.{FIRST_GATE}
use Rattle.ic_base.specs.declared.record.Batch.{Batch}
use Rattle.ic_base.specs.declared.record.Record.{Record}
use Rattle.def_log.specs.Changes.{is_start}
use Rattle.def_log.specs.Directory.{first_slot, slots_in, first_bad_slot, unless_bad}
use Rattle.def_log.specs.Frame.{any_batch, batches_from, batches_at, frame_of, owner_in}
use Rattle.def_log.specs.Loads.{placed_log_for, placed_tail_for}
use Rattle.def_log.specs.Log.{◌>>=◌, Placed, placed_in, placed_by, placed_with, placed_log_of, placed_tail_of, records_in, log_of, ends_with_checkpoint}
use Rattle.def_log.specs.Sizes.{span}
use Rattle.def_log.specs.Tail.{tail_gate, tail_slot, tail_frame_of}
use Rattle.law_marks.proofs.Owners.{owned}
use Rattle.def_log.proofs.Keeps.{is_whole}
use Rattle.def_log.proofs.Spans.{fewer}
use Rattle.def_log.proofs.Tails.{IsNamed, further, IsFrame, split, enough, starts, placed_split, frame_parts, log_parts}
use Rattle.def_run.specs.Refusals.{place_of}
use Rattle.ic_gate.specs.RecordFiles.{placed_from}
use Rattle.def_step.specs.Replay.{has_image}
use Rattle.law_tail.proofs.Tails.{tail-begins}
use Rattle.ic_gate.proofs.TailLoads.{tail_places}
use Rattle.ic_gate.proofs.Walks.{places_walk}

not_some : (place : ℕ) → ◌≡◌ {A = Option ℕ} (Some place) None → ⊥
not_some place e = cc

-- a gate at which a log may begin is the first one, or that of a batch
begins : (g place : ℕ) (os : List ℕ) (bs : List Batch) → first_bad_slot any_batch place os bs ≡ None → is_start g os ≡ true → (g ≡ FIRST_GATE) ⊎ IsNamed any_batch g bs
begins g place [] bs e at = inl (grind (arith, nat_tests))
begins g place (o ∷ os) [] e at = absurd (not_some place e)
begins g place (o ∷ os) (b ∷ bs) e at =
    here (λ d s. begins g (place + 9) os bs d s) (λ d. begins g place (o ∷ os) bs d at) (b.at == o + 5) refl e
  where
    on : (g ≡ FIRST_GATE) ⊎ IsNamed any_batch g bs → (g ≡ FIRST_GATE) ⊎ IsNamed any_batch g (b ∷ bs)
    on found = ⊎_elim (λ first. inl first) (λ named. inr (further any_batch g b bs named)) found

    named : (first_bad_slot any_batch (place + 9) os bs ≡ None → is_start g os ≡ true → (g ≡ FIRST_GATE) ⊎ IsNamed any_batch g bs) → first_bad_slot any_batch (place + 9) os bs ≡ None → b.at ≡ o + 5 → (t : Bool) → (g == o) ≡ t → t || is_start g os ≡ true
        → (g ≡ FIRST_GATE) ⊎ IsNamed any_batch g (b ∷ bs)
    named others d is true same s =
        let at : g ≡ o = grind (arith, nat_tests) in
        inr (record { before = []; batch = b; rest = bs; is = refl; at = omega (arith, is, at); passes = refl })
    named others d is false same s = on (others d s)

    here : (first_bad_slot any_batch (place + 9) os bs ≡ None → is_start g os ≡ true → (g ≡ FIRST_GATE) ⊎ IsNamed any_batch g bs) → (first_bad_slot any_batch place (o ∷ os) bs ≡ None → (g ≡ FIRST_GATE) ⊎ IsNamed any_batch g bs)
        → (t : Bool) → (b.at == o + 5) ≡ t → cond t (first_bad_slot any_batch (place + 9) os bs) (first_bad_slot any_batch place (o ∷ os) bs) ≡ None → (g ≡ FIRST_GATE) ⊎ IsNamed any_batch g (b ∷ bs)
    here others rest true same d = named others d (grind (arith, nat_tests)) (g == o) refl at
    here others rest false same d = on (rest d)

-- the batches from a batch's gate on are that one and those behind it
from_batch : (bytes : List ℕ) (bs : List Batch) (g : ℕ) → IsFrame bytes bs → (n : IsNamed any_batch g bs) → batches_at g bytes ≡ Ok (n.batch ∷ n.rest)
from_batch bytes bs g f n =
    let last : List Batch = n.batch ∷ n.rest in
    let there : ℕ = FIRST_GATE + span n.before in
    let cut = split n.before last (length bytes) FIRST_GATE (drop FIRST_GATE bytes) (f.batches_same ∙ ap (λ (b : List Batch). Ok b) n.is) in
    let here = subst (λ (b : List ℕ). batches_from (length bytes - length n.before) there b ≡ Ok last) (drop-drop (span n.before) FIRST_GATE bytes) cut in
    let few : length n.before ≤ span n.before = fewer n.before in
    let again : batches_at there bytes ≡ Ok last = enough (length bytes) (length bytes - length n.before) there (drop there bytes) (omega (arith, length-drop there bytes)) (omega (arith, length-drop there bytes, few)) ∙ here in
    let place = is_whole there (drop there bytes) n.batch (starts (length bytes) there (drop there bytes) n.batch n.rest again) in
    let same : there ≡ g = omega (arith, place.at, n.at) in
    ap (λ k. batches_at k bytes) (sym same) ∙ again

-- the records of a log with their places
placed_whole : (bytes : List ℕ) (bs : List Batch) (ps : List Placed) → frame_of bytes ≡ Ok bs → placed_in bs ≡ Ok ps → first_bad_slot ends_with_checkpoint first_slot (slots_in bytes) bs ≡ None → placed_log_of bytes ≡ Ok ps
placed_whole bytes bs ps frame places slots =
    ap (λ (r : Result (List Batch) ℕ). r >>= λ x. placed_with (slots_in bytes) x) frame
    ∙ ap (λ (r : Result (List Placed) ℕ). r >>= λ rs. unless_bad (first_bad_slot ends_with_checkpoint first_slot (slots_in bytes) bs) rs) places
    ∙ ap (λ (o : Option ℕ). unless_bad o ps) slots

-- what is placed before a gate at which a log may begin, and from it on
pub record IsFront (start : ℕ) (bytes : List ℕ) : Type 0 where
  pub front : List Placed
  pub own : List Placed
  pub whole : placed_log_of bytes ≡ Ok (front ++ own)
  pub walk : placed_from start bytes ≡ Ok own

pub front_placed : (start : ℕ) (bytes : List ℕ) (rs : List Record) → log_of bytes ≡ Ok rs → is_start start (slots_in bytes) ≡ true → IsFront start bytes
front_placed start bytes rs e begun =
    let l = log_parts bytes rs e in
    let f = frame_parts bytes l.bs l.frame in
    let whole = placed_whole bytes l.bs l.ps l.frame l.places l.slots in
    elim (begins start first_slot (slots_in bytes) l.bs f.slots_same begun) [
      | inl first ↦ record { front = []; own = l.ps; whole = whole; walk = places_walk start bytes l.bs l.ps (ap (λ n. batches_at n bytes) first ∙ f.batches_same) l.places }
      | inr n ↦ let p = placed_split n.before (n.batch ∷ n.rest) l.ps (ap placed_in (sym n.is) ∙ l.places) in record {
        front = p.front;
        own = p.behind;
        whole = whole ∙ ap (λ (ps : List Placed). Ok ps) p.is;
        walk = places_walk start bytes (n.batch ∷ n.rest) p.behind (from_batch bytes l.bs start f n) p.second;
      }
    ]

-- the records of the tail of a log that is read
pub record IsTailRead (bytes : List ℕ) (rs : List Record) : Type 0 where
  pub own : List Placed
  pub earlier : List Record
  pub tail : placed_tail_of bytes ≡ Ok own
  pub walk : placed_from (tail_gate bytes) bytes ≡ Ok own
  pub all : rs ≡ earlier ++ records_in own
  pub begins : (earlier ≡ []) ⊎ (has_image (records_in own) ≡ true)

tail_places_of : (r : Result (List Placed) ℕ) (rs : List Record) → (r >>= λ ps. Ok (records_in ps)) ≡ Ok rs → (ps : List Placed) × (r ≡ Ok ps) × (rs ≡ records_in ps)
tail_places_of (Ok ps) rs e = (ps, refl, cc e)
tail_places_of (Err place) rs e = absurd (cc e)

pub tail_placed : (bytes : List ℕ) (rs : List Record) → log_of bytes ≡ Ok rs → IsTailRead bytes rs
tail_placed bytes rs e =
    let t = tail-begins bytes rs e in
    let p = tail_places_of (placed_tail_of bytes) t.1 t.2 in
    record {
      own = p.0;
      earlier = t.0;
      tail = p.1;
      walk = tail_places bytes p.0 p.1;
      all = t.3 ∙ ap (λ (l : List Record). t.0 ++ l) p.2;
      begins = subst (λ (l : List Record). (t.0 ≡ []) ⊎ (has_image l ≡ true)) p.2 t.4;
    }

-- the tail of a component's own log
pub tail_for : (owner : ℕ) (bytes : List ℕ) → owner_in bytes ≡ owner → placed_tail_for owner bytes ≡ placed_tail_of bytes
tail_for owner bytes own = ap (λ (f : Result (List Batch) ℕ). f >>= λ bs. placed_by (tail_slot bytes) bs) (owned owner bytes (tail_frame_of bytes) own)

pub whole_for : (owner : ℕ) (bytes : List ℕ) → owner_in bytes ≡ owner → placed_log_for owner bytes ≡ placed_log_of bytes
whole_for owner bytes own = ap (λ (f : Result (List Batch) ℕ). f >>= λ bs. placed_with (slots_in bytes) bs) (owned owner bytes (frame_of bytes) own)

-- isn't refused where the log is read
pub not_refused_tail : (owner : ℕ) (bytes : List ℕ) (place : ℕ) (rs : List Record) → owner_in bytes ≡ owner → placed_tail_for owner bytes ≡ Err place → log_of bytes ≡ Ok rs → ⊥
not_refused_tail owner bytes place rs own bad reads =
    let t = tail_placed bytes rs reads in
    let clash : ◌≡◌ {A = Result (List Placed) ℕ} (Ok t.own) (Err place) = sym t.tail ∙ sym (tail_for owner bytes own) ∙ bad in
    cc

-- a record behind the front has its place
pub place_behind : (front own : List Placed) (i : ℕ) → place_of (front ++ own) (length front + i) ≡ place_of own i
place_behind [] own i = let none : 0 + i ≡ i = omega arith in ap (place_of own) none
place_behind (p ∷ front) own i =
    let next : length (p ∷ front) + i ≡ suc (length front + i) = omega arith in
    ap (place_of (p ∷ front ++ own)) next ∙ place_behind front own i

pub records_split : (front own : List Placed) → records_in (front ++ own) ≡ records_in front ++ records_in own
records_split front own = map-append (λ (p : Placed). p.1) front own

pub records_long : (ps : List Placed) → length (records_in ps) ≡ length ps
records_long ps = length-map ps (λ (p : Placed). p.1)
