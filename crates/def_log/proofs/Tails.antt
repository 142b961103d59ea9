-- The records of a whole log end with those of its tail.
use Rattle.std.proofs.Common.{◌≡◌, ◌⊎◌, inl, inr, ℕ, zero, suc, ◌+◌, ◌-◌, ◌≤◌, Bool, true, false, cond, List, [], ◌∷◌, ◌++◌, length, get_or, take, drop, Option, Some, None, refl, sym, ap, subst, ◌∙◌, append_assoc, arith}
use Rattle.ic_base.specs.declared.limits.TheConstants.{FIRST_GATE, LOG_BYTES}
use Rattle.std.specs.Prelude.{Result, Ok, Err, nat_le, nat_lt, ◌&&◌, ◌==◌}
use Rattle.std.proofs.lemmas.Bool.Decides.{nat_tests}
use Rattle.std.proofs.lemmas.List.{drop-drop, length-drop, get_or-drop, map-append}
use Rattle.ic_base.specs.declared.record.Batch.{Batch}
use Rattle.ic_base.specs.declared.record.Record.{Record}
use Rattle.def_log.specs.Directory.{first_slot, slots_in, first_bad_slot, unless_bad, slot_place, last_slot, last_offset}
use Rattle.def_log.specs.Frame.{letters, any_batch, batches_from, batches_at, first_difference, with_batch, with_slots, behind_letters, behind_header, frame_of}
use Rattle.def_log.specs.Loading.{first_batch}
use Rattle.ic_base.specs.declared.record.Record.TheVariants.{Take, TakeWhole, Input, Value, Outcome, Released, Shown, Checkpoint, Epoch, Decided}
use Rattle.def_log.specs.Laws.{HasCheckpoint}
use Rattle.def_log.specs.Log.{◌>>=◌, end_with_checkpoint, Placed, placed_at, placed_in, records_in, ends_with_checkpoint, placed_log_of, log_of, idle_slot, placed_tail_of, tail_of}
use Rattle.def_log.specs.Sizes.{span}
use Rattle.def_log.specs.Tail.{tail_gate, tail_slot, batches_by, tail_frame_of}
use Rattle.def_log.proofs.Frames.{header_passed}
use Rattle.def_log.proofs.Keeps.{first_of_all, none_yet, is_whole}
use Rattle.def_log.proofs.Spans.{fewer as span_long}
use Rattle.def_log.proofs.Steps.{behind, followed, step, other_side, not_less, is_opened}

-- the batches behind some of them stand where those end
pub split : (pre post : List Batch) (n gate : ℕ) (bytes : List ℕ) → batches_from n gate bytes ≡ Ok (pre ++ post)
    → batches_from (n - length pre) (gate + span pre) (drop (span pre) bytes) ≡ Ok post
split [] post n gate bytes e =
    let here : gate + 0 ≡ gate = omega arith in
    let left : n - 0 ≡ n = omega arith in
    ap (λ k. batches_from k (gate + 0) bytes) left ∙ ap (λ g. batches_from n g bytes) here ∙ e
split (b ∷ pre) post zero gate bytes e = absurd (none_yet gate bytes b (pre ++ post) e)
split (b ∷ pre) post (suc n) gate bytes e =
    let parts = first_of_all n gate bytes b (pre ++ post) e in
    let there : gate + span (b ∷ pre) ≡ gate + 5 + length b.payload + span pre = omega arith in
    let last : drop (span pre) (behind b bytes) ≡ drop (span (b ∷ pre)) bytes =
    ap (drop (span pre)) (drop-drop (length b.payload) 5 bytes) ∙ drop-drop (span pre) (5 + length b.payload) bytes in
    let left : suc n - length (b ∷ pre) ≡ n - length pre = omega arith in
    ap (λ k. batches_from k (gate + span (b ∷ pre)) (drop (span (b ∷ pre)) bytes)) left
    ∙ ap (λ g. batches_from (n - length pre) g (drop (span (b ∷ pre)) bytes)) there
    ∙ ap (batches_from (n - length pre) (gate + 5 + length b.payload + span pre)) (sym last)
    ∙ split pre post n (gate + 5 + length b.payload) (behind b bytes) parts.1

-- more steps than bytes change nothing
pub enough : (n k gate : ℕ) (bytes : List ℕ) → length bytes ≤ n → length bytes ≤ k → batches_from n gate bytes ≡ batches_from k gate bytes
enough n k gate [] le more = refl
enough zero k gate (byte ∷ rest) le more = absurd (omega (arith, le))
enough (suc n) zero gate (byte ∷ rest) le more = absurd (omega (arith, more))
enough (suc n) (suc k) gate (byte ∷ rest) le more =
    step n gate (byte ∷ rest)
    ∙ same (λ g bytes less. enough n k g bytes (omega (arith, less, le)) (omega (arith, less, more))) (first_batch gate (byte ∷ rest)) refl
    ∙ sym (step k gate (byte ∷ rest))
  where
    same : ((g : ℕ) (bytes : List ℕ) → length bytes ≤ length rest → batches_from n g bytes ≡ batches_from k g bytes) → (r : Result (Option Batch) ℕ) → first_batch gate (byte ∷ rest) ≡ r → followed n gate (byte ∷ rest) r ≡ followed k gate (byte ∷ rest) r
    same again (Err place) e = refl
    same again (Ok None) e = refl
    same again (Ok (Some b)) e =
        let whole = is_whole gate (byte ∷ rest) b e in
        let bytes : List ℕ = byte ∷ rest in
        ap (with_batch b) (again (gate + 5 + length b.payload) (behind b bytes) (omega (arith, whole.fits, length-drop (length b.payload) (drop 5 bytes), length-drop 5 bytes)))

-- the batch that the last of some slots names, among the others
pub record IsNamed (test : Batch → Bool) (offset : ℕ) (bs : List Batch) : Type 0 where
  pub before : List Batch
  pub batch : Batch
  pub rest : List Batch
  pub is : bs ≡ before ++ batch ∷ rest
  pub at : batch.at ≡ offset + 5
  pub passes : test batch ≡ true

pub further : (test : Batch → Bool) (offset : ℕ) (b : Batch) (bs : List Batch) → IsNamed test offset bs → IsNamed test offset (b ∷ bs)
further test offset b bs n = record { before = b ∷ n.before; batch = n.batch; rest = n.rest; is = ap (λ l. b ∷ l) n.is; at = n.at; passes = n.passes }

not_some : (place : ℕ) → ◌≡◌ {A = Option ℕ} (Some place) None → ⊥
not_some place e = cc

pub last_named : (test : Batch → Bool) (place o : ℕ) (os : List ℕ) (bs : List Batch) → first_bad_slot test place (o ∷ os) bs ≡ None → IsNamed test (last_offset o os) bs
last_named test place o os [] e = absurd (not_some place e)
last_named test place o os (b ∷ bs) e = at (λ q p ps d. last_named test q p ps bs d) (b.at == o + 5) refl e
  where
    found : ((q p : ℕ) (ps : List ℕ) → first_bad_slot test q (p ∷ ps) bs ≡ None → IsNamed test (last_offset p ps) bs) → b.at ≡ o + 5 → test b ≡ true → (os : List ℕ) → first_bad_slot test (place + 9) os bs ≡ None → IsNamed test (last_offset o os) (b ∷ bs)
    found again is passes [] e = record { before = []; batch = b; rest = bs; is = refl; at = is; passes = passes }
    found again is passes (p ∷ os) e = further test (last_offset p os) b bs (again (place + 9) p os e)

    tested : ((q p : ℕ) (ps : List ℕ) → first_bad_slot test q (p ∷ ps) bs ≡ None → IsNamed test (last_offset p ps) bs) → b.at ≡ o + 5 → (t : Bool) → test b ≡ t → cond t (first_bad_slot test (place + 9) os bs) (Some place) ≡ None → IsNamed test (last_offset o os) (b ∷ bs)
    tested again is true passes e = found again is passes os e
    tested again is false passes e = absurd (not_some place e)

    at : ((q p : ℕ) (ps : List ℕ) → first_bad_slot test q (p ∷ ps) bs ≡ None → IsNamed test (last_offset p ps) bs) → (t : Bool) → (b.at == o + 5) ≡ t → cond t (cond (test b) (first_bad_slot test (place + 9) os bs) (Some place)) (first_bad_slot test place (o ∷ os) bs) ≡ None → IsNamed test (last_offset o os) (b ∷ bs)
    at again true same e = tested again (grind (arith, nat_tests)) (test b) refl e
    at again false same e = further test (last_offset o os) b bs (again place o os e)

-- the first of the batches stands at the gate
pub starts : (n gate : ℕ) (bytes : List ℕ) (b : Batch) (bs : List Batch) → batches_from n gate bytes ≡ Ok (b ∷ bs) → first_batch gate bytes ≡ Ok (Some b)
starts zero gate bytes b bs e = absurd (none_yet gate bytes b bs e)
starts (suc n) gate bytes b bs e = (first_of_all n gate bytes b bs e).0

-- where a batch stands, its gate is open
open_there : (gate : ℕ) (bytes : List ℕ) (b : Batch) → first_batch gate bytes ≡ Ok (Some b) → (get_or bytes 0 0 == 1) ≡ true
open_there gate [] b e = cc
open_there gate (byte ∷ rest) b e = (is_opened gate byte rest b e).gate_open

-- records of batches, and of those behind them
pub record IsSplit (pre post : List Batch) (ps : List Placed) : Type 0 where
  pub front : List Placed
  pub behind : List Placed
  pub first : placed_in pre ≡ Ok front
  pub second : placed_in post ≡ Ok behind
  pub is : ps ≡ front ++ behind

ok_is : (a b : List Placed) → ◌≡◌ {A = Result (List Placed) ℕ} (Ok a) (Ok b) → a ≡ b
ok_is a b e = cc

pub placed_split : (pre post : List Batch) (ps : List Placed) → placed_in (pre ++ post) ≡ Ok ps → IsSplit pre post ps
placed_split [] post ps e = record { front = []; behind = ps; first = refl; second = e; is = refl }
placed_split (b ∷ pre) post ps e = one (λ others d. placed_split pre post others d) (placed_at b.at b.payload) refl (placed_in (pre ++ post)) refl e
  where
    one : ((others : List Placed) → placed_in (pre ++ post) ≡ Ok others → IsSplit pre post others) → (r : Result (List Placed) ℕ) → placed_at b.at b.payload ≡ r → (s : Result (List Placed) ℕ) → placed_in (pre ++ post) ≡ s → r >>= (λ first. s >>= (λ others. Ok (first ++ others))) ≡ Ok ps → IsSplit (b ∷ pre) post ps
    one again (Err place) a s d e = absurd (cc e)
    one again (Ok first) a (Err place) d e = absurd (cc e)
    one again (Ok first) a (Ok others) d e =
        let more = again others d in
        record {
          front = first ++ more.front;
          behind = more.behind;
          first = ap (λ (r : Result (List Placed) ℕ). r >>= (λ x. placed_in pre >>= (λ y. Ok (x ++ y)))) a ∙ ap (λ (r : Result (List Placed) ℕ). r >>= (λ y. Ok (first ++ y))) more.first;
          second = more.second;
          is = sym (ok_is (first ++ others) ps e) ∙ ap (λ l. first ++ l) more.is ∙ sym (append_assoc first more.front more.behind);
        }

-- the parts of a whole frame
pub record IsFrame (bytes : List ℕ) (bs : List Batch) : Type 0 where
  pub short : length bytes ≤ LOG_BYTES
  pub letters_same : first_difference letters (take 8 bytes) ≡ None
  pub long : FIRST_GATE ≤ length bytes
  pub batches_same : batches_at FIRST_GATE bytes ≡ Ok bs
  pub slots_same : first_bad_slot any_batch first_slot (slots_in bytes) bs ≡ None

-- what stands behind a header that is passed
pub record IsPassed (behind : Result (List Batch) ℕ) (bytes : List ℕ) (bs : List Batch) : Type 0 where
  pub short : length bytes ≤ LOG_BYTES
  pub letters_same : first_difference letters (take 8 bytes) ≡ None
  pub long : FIRST_GATE ≤ length bytes
  pub is : behind ≡ Ok bs

letters_passed : (behind : Result (List Batch) ℕ) (bytes : List ℕ) (found : Option ℕ) (bs : List Batch) → behind_letters behind bytes found ≡ Ok bs → (found ≡ None) × (FIRST_GATE ≤ length bytes) × (behind ≡ Ok bs)
letters_passed behind bytes (Some place) bs e = cc
letters_passed behind bytes None bs e =
    let long = other_side (nat_lt (length bytes) FIRST_GATE) (Err (length bytes)) behind (Ok bs) (λ differs. cc) e in
    (refl, not_less (length bytes) FIRST_GATE long.0, long.1)

pub is_passed : (behind : Result (List Batch) ℕ) (bytes : List ℕ) (bs : List Batch) → behind_header behind bytes ≡ Ok bs → IsPassed behind bytes bs
is_passed behind bytes bs e =
    let short = other_side (nat_lt LOG_BYTES (length bytes)) (Err LOG_BYTES) (behind_letters behind bytes (first_difference letters (take 8 bytes))) (Ok bs) (λ differs. cc) e in
    let parts = letters_passed behind bytes (first_difference letters (take 8 bytes)) bs short.1 in
    record { short = not_less LOG_BYTES (length bytes) short.0; letters_same = parts.0; long = parts.1; is = parts.2 }

not_bad : {A : Type 0} (o : Option ℕ) (x y : A) → ◌≡◌ {A = Result A ℕ} (unless_bad o x) (Ok y) → (o ≡ None) × (x ≡ y)
not_bad (Some place) x y e = absurd (cc e)
not_bad None x y e = (refl, cc e)

slots_passed : (slots : List ℕ) (r : Result (List Batch) ℕ) (bs : List Batch) → with_slots slots r ≡ Ok bs → (r ≡ Ok bs) × (first_bad_slot any_batch first_slot slots bs ≡ None)
slots_passed slots (Err place) bs e = absurd (cc e)
slots_passed slots (Ok cs) bs e =
    let parts = not_bad (first_bad_slot any_batch first_slot slots cs) cs bs e in
    (ap (λ (l : List Batch). Ok l) parts.1, subst (λ (l : List Batch). first_bad_slot any_batch first_slot slots l ≡ None) parts.1 parts.0)

pub frame_parts : (bytes : List ℕ) (bs : List Batch) → frame_of bytes ≡ Ok bs → IsFrame bytes bs
unfolding frame_of
frame_parts bytes bs e =
    let p = is_passed (with_slots (slots_in bytes) (batches_at FIRST_GATE bytes)) bytes bs e in
    let q = slots_passed (slots_in bytes) (batches_at FIRST_GATE bytes) bs p.is in
    record { short = p.short; letters_same = p.letters_same; long = p.long; batches_same = q.0; slots_same = q.1 }

pub frame_whole : (bytes : List ℕ) (bs : List Batch) → IsFrame bytes bs → frame_of bytes ≡ Ok bs
unfolding frame_of
frame_whole bytes bs f =
    header_passed (with_slots (slots_in bytes) (batches_at FIRST_GATE bytes)) bytes f.short f.long f.letters_same
    ∙ ap (with_slots (slots_in bytes)) f.batches_same
    ∙ ap (λ (o : Option ℕ). unless_bad o bs) f.slots_same

-- the parts of a log
pub record IsLog (bytes : List ℕ) (rs : List Record) : Type 0 where
  pub bs : List Batch
  pub ps : List Placed
  pub frame : frame_of bytes ≡ Ok bs
  pub places : placed_in bs ≡ Ok ps
  pub slots : first_bad_slot ends_with_checkpoint first_slot (slots_in bytes) bs ≡ None
  pub records : records_in ps ≡ rs

records_of_is : (r : Result (List Placed) ℕ) (rs : List Record) → r >>= (λ ps. Ok (records_in ps)) ≡ Ok rs → (ps : List Placed) × (r ≡ Ok ps) × (records_in ps ≡ rs)
records_of_is (Err place) rs e = absurd (cc e)
records_of_is (Ok ps) rs e = (ps, refl, cc e)

in_frame : (bytes : List ℕ) (r : Result (List Batch) ℕ) (s : List Batch → Result (List Placed) ℕ) (ps : List Placed) → r >>= s ≡ Ok ps → (bs : List Batch) × (r ≡ Ok bs) × (s bs ≡ Ok ps)
in_frame bytes (Err place) s ps e = absurd (cc e)
in_frame bytes (Ok bs) s ps e = (bs, refl, e)

in_places : (r : Result (List Placed) ℕ) (o : Option ℕ) (ps : List Placed) → r >>= (λ rs. unless_bad o rs) ≡ Ok ps → (r ≡ Ok ps) × (o ≡ None)
in_places (Err place) o ps e = absurd (cc e)
in_places (Ok rs) o ps e = let parts = not_bad o rs ps e in (ap (λ (l : List Placed). Ok l) parts.1, parts.0)

pub log_parts : (bytes : List ℕ) (rs : List Record) → log_of bytes ≡ Ok rs → IsLog bytes rs
log_parts bytes rs e =
    let a = records_of_is (placed_log_of bytes) rs e in
    let b = in_frame bytes (frame_of bytes) (λ bs. placed_in bs >>= (λ rs. unless_bad (first_bad_slot ends_with_checkpoint first_slot (slots_in bytes) bs) rs)) a.0 a.1 in
    let c = in_places (placed_in b.0) (first_bad_slot ends_with_checkpoint first_slot (slots_in bytes) b.0) a.0 b.2 in
    record { bs = b.0; ps = a.0; frame = b.1; places = c.0; slots = c.1; records = a.2 }

-- records that end with a Checkpoint
ends_is : (rs : List Record) → end_with_checkpoint rs ≡ true → (init : List Record) × (image : List ℕ) × (rs ≡ init ++ Checkpoint image ∷ [])
ends_is [] e = absurd (cc e)
ends_is (Checkpoint image ∷ []) e = ([], image, refl)
ends_is (Take from k stamp ∷ []) e = absurd (cc e)
ends_is (TakeWhole from k stamp handler xs ∷ []) e = absurd (cc e)
ends_is (Input stamp handler xs ∷ []) e = absurd (cc e)
ends_is (Value n place session x ∷ []) e = absurd (cc e)
ends_is (Outcome stamp n abort ∷ []) e = absurd (cc e)
ends_is (Released to k ∷ []) e = absurd (cc e)
ends_is (Shown m ∷ []) e = absurd (cc e)
ends_is (Epoch epoch ∷ []) e = absurd (cc e)
ends_is (Decided stamp c n writes ∷ []) e = absurd (cc e)
ends_is (r ∷ s ∷ rs) e = let more = ends_is (s ∷ rs) e in (r ∷ more.0, more.1, ap (λ l. r ∷ l) more.2)

-- the records of the first batch come first
first_placed : (b : Batch) (bs : List Batch) (ps : List Placed) → placed_in (b ∷ bs) ≡ Ok ps → (first : List Placed) × (others : List Placed) × (placed_at b.at b.payload ≡ Ok first) × (ps ≡ first ++ others)
first_placed b bs ps e = at (placed_at b.at b.payload) refl (placed_in bs) e
  where
    at : (r : Result (List Placed) ℕ) → placed_at b.at b.payload ≡ r → (s : Result (List Placed) ℕ) → r >>= (λ first. s >>= (λ others. Ok (first ++ others))) ≡ Ok ps → (first : List Placed) × (others : List Placed) × (placed_at b.at b.payload ≡ Ok first) × (ps ≡ first ++ others)
    at (Err place) f s d = absurd (cc d)
    at (Ok first) f (Err place) d = absurd (cc d)
    at (Ok first) f (Ok others) d = (first, others, f, sym (ok_is (first ++ others) ps d))

-- a batch that ends with a Checkpoint comes first
has_checkpoint : (b : Batch) (bs : List Batch) (ps : List Placed) → placed_in (b ∷ bs) ≡ Ok ps → ends_with_checkpoint b ≡ true → HasCheckpoint (records_in ps)
has_checkpoint b bs ps e ends =
    let f = first_placed b bs ps e in
    let last : end_with_checkpoint (records_in f.0) ≡ true = sym (ap (λ r. elim r [ Ok rs ↦ end_with_checkpoint (records_in rs) | Err place ↦ false ]) f.2) ∙ ends in
    let is = ends_is (records_in f.0) last in
    (is.0, is.1, records_in f.1, ap records_in f.3 ∙ map-append (λ (p : Placed). p.1) f.0 f.1 ∙ ap (λ l. l ++ records_in f.1) is.2 ∙ append_assoc is.0 (Checkpoint is.1 ∷ []) (records_in f.1))

-- the tail of a log is the end of its records
pub record IsTail (bytes : List ℕ) (rs : List Record) : Type 0 where
  pub front : List Record
  pub tail : List Record
  pub read : tail_of bytes ≡ Ok tail
  pub is : rs ≡ front ++ tail
  pub begins : (front ≡ []) ⊎ HasCheckpoint tail

module _ (bytes : List ℕ) (rs : List Record) (l : IsLog bytes rs) where
  f : IsFrame bytes l.bs
  f = frame_parts bytes l.bs l.frame

  -- the tail's batches, and its records
  tail_is : (slot : Option ℕ) (gate : ℕ) (bs : List Batch) (ps : List Placed) → batches_by slot gate bytes ≡ Ok bs → placed_in bs ≡ Ok ps → idle_slot slot bs ≡ None → tail_slot bytes ≡ slot → tail_gate bytes ≡ gate → tail_of bytes ≡ Ok (records_in ps)
  unfolding tail_frame_of
  tail_is slot gate bs ps found places ends same there =
      let frame : tail_frame_of bytes ≡ Ok bs =
      header_passed (batches_by (tail_slot bytes) (tail_gate bytes) bytes) bytes f.short f.long f.letters_same
      ∙ ap (λ s. batches_by s (tail_gate bytes) bytes) same ∙ ap (λ g. batches_by slot g bytes) there ∙ found in
      let read : placed_tail_of bytes ≡ Ok ps =
      ap (λ (r : Result (List Batch) ℕ). r >>= (λ bs. placed_in bs >>= (λ rs. unless_bad (idle_slot (tail_slot bytes) bs) rs))) frame
      ∙ ap (λ (r : Result (List Placed) ℕ). r >>= (λ rs. unless_bad (idle_slot (tail_slot bytes) bs) rs)) places
      ∙ ap (λ s. unless_bad (idle_slot s bs) ps) same
      ∙ ap (λ (o : Option ℕ). unless_bad o ps) ends in
      ap (λ (r : Result (List Placed) ℕ). r >>= (λ ps. Ok (records_in ps))) read

  at_first : slots_in bytes ≡ [] → IsTail bytes rs
  at_first none = record {
    front = [];
    tail = rs;
    read = tail_is None FIRST_GATE l.bs l.ps f.batches_same l.places refl (ap last_slot none) (ap (last_offset FIRST_GATE) none) ∙ ap (λ (r : List Record). Ok r) l.records;
    is = refl;
    begins = inl refl;
  }

  at_slot : (o : ℕ) (os : List ℕ) → slots_in bytes ≡ o ∷ os → IsTail bytes rs
  at_slot o os some =
      let n = last_named ends_with_checkpoint first_slot o os l.bs (subst (λ (s : List ℕ). first_bad_slot ends_with_checkpoint first_slot s l.bs ≡ None) some l.slots) in
      let gate : ℕ = last_offset o os in
      let post : List Batch = n.batch ∷ n.rest in
      let whole : batches_at FIRST_GATE bytes ≡ Ok (n.before ++ post) = f.batches_same ∙ ap (λ (b : List Batch). Ok b) n.is in
      let cut = split n.before post (length bytes) FIRST_GATE (drop FIRST_GATE bytes) whole in
      let from : drop (span n.before) (drop FIRST_GATE bytes) ≡ drop (FIRST_GATE + span n.before) bytes = drop-drop (span n.before) FIRST_GATE bytes in
      let here = subst (λ (b : List ℕ). batches_from (length bytes - length n.before) (FIRST_GATE + span n.before) b ≡ Ok post) from cut in
      let there : ℕ = FIRST_GATE + span n.before in
      let fewer : length n.before ≤ span n.before = span_long n.before in
      let fuel : length (drop there bytes) ≤ length bytes - length n.before = omega (arith, length-drop there bytes, fewer) in
      let again : batches_at there bytes ≡ Ok post = enough (length bytes) (length bytes - length n.before) there (drop there bytes) (omega (arith, length-drop there bytes)) fuel ∙ here in
      let first = starts (length bytes) there (drop there bytes) n.batch n.rest again in
      let place = is_whole there (drop there bytes) n.batch first in
      let same : there ≡ gate = omega (arith, place.at, n.at) in
      let open_gate : (get_or bytes gate 0 == 1) ≡ true =
      let zero_on : there + 0 ≡ gate = omega (arith, same) in
      ap (λ k. get_or bytes k 0 == 1) (sym zero_on) ∙ ap (λ b. b == 1) (sym (get_or-drop there bytes 0 0)) ∙ open_there there (drop there bytes) n.batch first in
      let high : nat_le FIRST_GATE gate ≡ true = let le : FIRST_GATE ≤ gate = omega (arith, same) in grind (arith, nat_tests) in
      let found : batches_by (last_slot (o ∷ os)) gate bytes ≡ Ok post =
      ap (λ t. cond (t && (get_or bytes gate 0 == 1)) (batches_at gate bytes) (Err (slot_place (length os)))) high
      ∙ ap (λ t. cond t (batches_at gate bytes) (Err (slot_place (length os)))) open_gate
      ∙ ap (λ g. batches_at g bytes) (sym same) ∙ again in
      let parts = placed_split n.before post l.ps (ap placed_in (sym n.is) ∙ l.places) in
      let ends : idle_slot (last_slot (o ∷ os)) post ≡ None = ap (λ t. cond t None (Some (slot_place (length os)))) n.passes in
      record {
        front = records_in parts.front;
        tail = records_in parts.behind;
        read = tail_is (last_slot (o ∷ os)) gate post parts.behind found parts.second ends (ap last_slot some) (ap (last_offset FIRST_GATE) some);
        is = sym l.records ∙ ap records_in parts.is ∙ map-append (λ (p : Placed). p.1) parts.front parts.behind;
        begins = inr (has_checkpoint n.batch n.rest parts.behind parts.second n.passes);
      }

  at_slots : (s : List ℕ) → slots_in bytes ≡ s → IsTail bytes rs
  at_slots [] e = at_first e
  at_slots (o ∷ os) e = at_slot o os e

  pub is_tail : IsTail bytes rs
  is_tail = at_slots (slots_in bytes) refl

pub tail_is_end : (bytes : List ℕ) (rs : List Record) → log_of bytes ≡ Ok rs → (front : List Record) × (tail : List Record) × (tail_of bytes ≡ Ok tail) × (rs ≡ front ++ tail) × ((front ≡ []) ⊎ HasCheckpoint tail)
tail_is_end bytes rs e = let t = is_tail bytes rs (log_parts bytes rs e) in (t.front, t.tail, t.read, t.is, t.begins)
