-- Records and their bytes.
use Rattle.std.proofs.Common.{◌≡◌, ◌∙◌, sym, ap, refl, subst, cond, arith, ℕ, zero, suc, ◌+◌, ◌-◌, ◌<◌, Bool, true, false, List, [], ◌∷◌, ◌++◌, length, take, drop, map, get_or, length-append, take-append-drop}
use Rattle.std.specs.Prelude.{Result, Ok, ◌==◌, is_some, slice_get, Option, Some, None, IfSome}
use Rattle.std.specs.List.{AllByRecursion}
use Rattle.std.proofs.Math.Seq.{take-append-add, take-append_seam, drop-append_seam, get_or-append-add, get_or-drop}
use Rattle.std.proofs.lemmas.Grind.{flat_map-append}
use Rattle.std.proofs.lemmas.List.{append-nil, get_or-map, map_push, take_more, take_rest, length-drop}
use Rattle.std.proofs.lemmas.Option.{slice_get-get_or, get_or_from_slice_get}
use Rattle.ic_base.specs.declared.record.Record.{Record}
use Rattle.ic_base.specs.declared.record.Record.TheVariants.{Take, TakeWhole, Input, Value, Outcome, Released, Shown, Checkpoint, Epoch, Decided}
use Rattle.def_log.specs.Log.{◌>>=◌, Placed, placed_up_to, placed_at, records_in, records_of, is_checkpoint, end_with_checkpoint}
use Rattle.def_log.specs.Reading.{record_at}
use Rattle.def_log.specs.Spelling.{spelling, spellings, Fits}
use Rattle.def_log.proofs.Again.{record_again}
use Rattle.def_log.proofs.Takes.{IsBytes, record_takes}
use Rattle.def_step.specs.Replay.{behind_checkpoint, has_image, image_in}
use Rattle.law_marks.proofs.Reading.{read-all, spelled-some}
use Rattle.ic_wire.specs.Placed.{PlacedFits}
use Rattle.ic_wire.proofs.Ranges.{all_push}
use Rattle.ic_gate.specs.RecordFiles.{read_or_none}
use Rattle.ic_gate.specs.Encoding.{tag_of, kind_of, ends_of, decoded, Encode}
use Rattle.ic_gate.proofs.PlacedRecords.{cut_off}
use Rattle.ic_gate.proofs.SlotWalks.{image_is, last_is}

-- bytes that spell records are read as these
pub decodes : (bytes : List ℕ) (rs : List Record) → bytes ≡ spellings rs → AllByRecursion Fits rs → decoded bytes ≡ rs
decodes bytes rs same fit =
    let q = read-all rs (length (spellings rs)) (0 + length (spellings rs)) fit (omega arith) in
    let read : records_of (spellings rs) ≡ Ok (records_in q.places) = ap (λ (r : Result (List Placed) ℕ). r >>= λ ps. Ok (records_in ps)) q.is in
    ap decoded same ∙ ap read_or_none read ∙ q.records

module _ (bytes ends : List ℕ) (rs : List Record) where
  -- what an encoding is seen as
  pub seen : Encode bytes ends rs → decoded bytes ≡ rs
  seen e = decodes bytes rs e.spelled e.fit

  pub closed : Encode bytes ends rs → Encode bytes ends (decoded bytes)
  closed e = subst (λ (l : List Record). Encode bytes ends l) (sym (seen e)) e

  pub opened : Encode bytes ends (decoded bytes) → decoded bytes ≡ rs → Encode bytes ends rs
  opened e is = subst (λ (l : List Record). Encode bytes ends l) is e

pub spelled-append : (rs ss : List Record) → spellings (rs ++ ss) ≡ spellings rs ++ spellings ss
spelled-append rs ss = flat_map-append spelling rs ss

pub long-append : (rs ss : List Record) → length (spellings (rs ++ ss)) ≡ length (spellings rs) + length (spellings ss)
long-append rs ss = ap length (spelled-append rs ss) ∙ length-append (spellings rs) (spellings ss)

pub long-take : (n : ℕ) (rs : List Record) → length (spellings (take n rs)) + length (spellings (drop n rs)) ≡ length (spellings rs)
long-take n rs = sym (long-append (take n rs) (drop n rs)) ∙ ap (λ (l : List Record). length (spellings l)) (take-append-drop n rs)

-- one record more ends where all do
pub ends_of-push : (rs : List Record) (r : Record) → ends_of (rs ++ r ∷ []) ≡ ends_of rs ++ length (spellings (rs ++ r ∷ [])) ∷ []
ends_of-push [] r = ap (λ n. n ∷ []) (ap length (sym (append-nil (spelling r))))
ends_of-push (q ∷ rs) r =
    ap (λ l. length (spelling q) ∷ map (λ end. length (spelling q) + end) l) (ends_of-push rs r)
    ∙ ap (λ l. length (spelling q) ∷ l) (map_push (λ end. length (spelling q) + end) (ends_of rs) (length (spellings (rs ++ r ∷ []))))
    ∙ ap (λ n. length (spelling q) ∷ (map (λ end. length (spelling q) + end) (ends_of rs) ++ n ∷ [])) (sym (length-append (spelling q) (spellings (rs ++ r ∷ []))))

pub ends_of-length : (rs : List Record) → length (ends_of rs) ≡ length rs
ends_of-length [] = refl
ends_of-length (r ∷ rs) = ap suc (mapped (ends_of rs) ∙ ends_of-length rs)
  where
    mapped : (l : List ℕ) → length (map (λ end. length (spelling r) + end) l) ≡ length l
    mapped [] = refl
    mapped (x ∷ xs) = ap suc (mapped xs)

-- where the first ones end
pub ends_of-get : (rs : List Record) (n : ℕ) → n < length rs → get_or (ends_of rs) n 0 ≡ length (spellings (take (suc n) rs))
ends_of-get [] n lt = absurd (omega (arith, lt))
ends_of-get (r ∷ rs) zero lt = ap length (sym (append-nil (spelling r)))
ends_of-get (r ∷ rs) (suc n) lt =
    let less : n < length rs = omega (arith, lt) in
    get_or-map (λ end. length (spelling r) + end) (ends_of rs) n 0 0 (omega (arith, less, ends_of-length rs))
    ∙ ap (λ end. length (spelling r) + end) (ends_of-get rs n less)
    ∙ sym (length-append (spelling r) (spellings (take (suc n) rs)))

pub ends_of-take : (n : ℕ) (rs : List Record) → take n (ends_of rs) ≡ ends_of (take n rs)
ends_of-take zero rs = refl
ends_of-take (suc n) [] = refl
ends_of-take (suc n) (r ∷ rs) = ap (λ l. length (spelling r) ∷ l) (mapped n (ends_of rs) ∙ ap (map (λ end. length (spelling r) + end)) (ends_of-take n rs))
  where
    mapped : (n : ℕ) (l : List ℕ) → take n (map (λ end. length (spelling r) + end) l) ≡ map (λ end. length (spelling r) + end) (take n l)
    mapped zero l = refl
    mapped (suc n) [] = refl
    mapped (suc n) (x ∷ xs) = ap (λ l. (length (spelling r) + x) ∷ l) (mapped n xs)

-- the bytes of the first ones, and of the others
pub first_bytes : (n : ℕ) (rs : List Record) → take (length (spellings (take n rs))) (spellings rs) ≡ spellings (take n rs)
first_bytes n rs =
    ap (take (length (spellings (take n rs)))) (ap spellings (sym (take-append-drop n rs)) ∙ spelled-append (take n rs) (drop n rs))
    ∙ take-append_seam (spellings (take n rs)) (spellings (drop n rs))

pub later_bytes : (n : ℕ) (rs : List Record) → drop (length (spellings (take n rs))) (spellings rs) ≡ spellings (drop n rs)
later_bytes n rs =
    ap (drop (length (spellings (take n rs)))) (ap spellings (sym (take-append-drop n rs)) ∙ spelled-append (take n rs) (drop n rs))
    ∙ drop-append_seam (spellings (take n rs)) (spellings (drop n rs))

pub all_both : (rs ss : List Record) → AllByRecursion Fits rs → AllByRecursion Fits ss → AllByRecursion Fits (rs ++ ss)
all_both [] ss f h = h
all_both (r ∷ rs) ss f h = (f.0, all_both rs ss f.1 h)

pub all_first : (n : ℕ) (rs : List Record) → AllByRecursion Fits rs → AllByRecursion Fits (take n rs)
all_first zero rs f = tt
all_first (suc n) [] f = tt
all_first (suc n) (r ∷ rs) f = (f.0, all_first n rs f.1)

pub all_later : (n : ℕ) (rs : List Record) → AllByRecursion Fits rs → AllByRecursion Fits (drop n rs)
all_later zero rs f = f
all_later (suc n) [] f = tt
all_later (suc n) (r ∷ rs) f = all_later n rs f.1

pub nothing : (bytes ends : List ℕ) → bytes ≡ [] → ends ≡ [] → Encode bytes ends []
nothing bytes ends none at = record { spelled = none; fit = tt; ended = at }

-- one record more
pub pushed : (bytes ends : List ℕ) (rs : List Record) (r : Record) (more ended : List ℕ) (n : ℕ) → Encode bytes ends rs → Fits r → more ≡ bytes ++ spelling r → ended ≡ ends ++ n ∷ [] → n ≡ length more → Encode more ended (rs ++ r ∷ [])
pushed bytes ends rs r more ended n e fit spelt at end =
    let spells : more ≡ spellings (rs ++ r ∷ []) = spelt ∙ ap (λ (l : List ℕ). l ++ spelling r) e.spelled ∙ ap (λ (l : List ℕ). spellings rs ++ l) (sym (append-nil (spelling r))) ∙ sym (spelled-append rs (r ∷ [])) in
    record {
      spelled = spells;
      fit = all_push Fits rs r e.fit fit;
      ended = at ∙ ap (λ (l : List ℕ). l ++ n ∷ []) e.ended ∙ ap (λ (m : ℕ). ends_of rs ++ m ∷ []) (end ∙ ap length spells) ∙ sym (ends_of-push rs r);
    }

-- the first ones alone
pub cut : (bytes ends : List ℕ) (rs : List Record) (n : ℕ) → Encode bytes ends rs → Encode (take (length (spellings (take n rs))) bytes) (take n ends) (take n rs)
cut bytes ends rs n e = record {
  spelled = ap (take (length (spellings (take n rs)))) e.spelled ∙ first_bytes n rs;
  fit = all_first n rs e.fit;
  ended = ap (take n) e.ended ∙ ends_of-take n rs;
}

-- the record at a place
pub some_at : (rs : List Record) (i : ℕ) → i < length rs → (r : Record) × (slice_get rs i ≡ Some r)
some_at [] i lt = absurd (omega (arith, lt))
some_at (q ∷ rs) i lt = (get_or (q ∷ rs) i q, slice_get-get_or (q ∷ rs) i q lt)

-- it stands behind the ends of those before it
pub within : (rs : List Record) (i : ℕ) → i < length rs → length (spellings (take i rs)) < length (spellings rs)
within [] i lt = absurd (omega (arith, lt))
within (q ∷ rs) zero lt = omega (arith, spelled-some q, length-append (spelling q) (spellings rs))
within (q ∷ rs) (suc i) lt = omega (arith, within rs i (omega (arith, lt)), length-append (spelling q) (spellings rs), length-append (spelling q) (spellings (take i rs)))

-- the others begin with it
next_at : (rs : List Record) (i : ℕ) (r : Record) → slice_get rs i ≡ Some r → drop i rs ≡ r ∷ drop (suc i) rs
next_at [] i r e = absurd (cc e)
next_at (q ∷ rs) zero r e = let same : q ≡ r = cc e in ap (λ x. x ∷ rs) same
next_at (q ∷ rs) (suc i) r e = next_at rs i r e

-- the kind of a record tells the number with which its spelling begins
pub aborted_tag : (r : Record) → kind_of r ≡ 11 → 5 ≡ tag_of r
aborted_tag (Take from k stamp) e = absurd (omega (arith, e))
aborted_tag (TakeWhole from k stamp handler xs) e = absurd (omega (arith, e))
aborted_tag (Input stamp handler xs) e = absurd (omega (arith, e))
aborted_tag (Value n place s x) e = absurd (omega (arith, e))
aborted_tag (Outcome stamp n None) e = refl
aborted_tag (Outcome stamp n (Some cause)) e = refl
aborted_tag (Released to k) e = absurd (omega (arith, e))
aborted_tag (Shown m) e = absurd (omega (arith, e))
aborted_tag (Checkpoint image) e = absurd (omega (arith, e))
aborted_tag (Epoch epoch) e = absurd (omega (arith, e))
aborted_tag (Decided stamp c n writes) e = absurd (omega (arith, e))

pub other_tag : (r : Record) → (kind_of r ≡ 11 → ⊥) → kind_of r ≡ tag_of r
other_tag (Take from k stamp) other = refl
other_tag (TakeWhole from k stamp handler xs) other = refl
other_tag (Input stamp handler xs) other = refl
other_tag (Value n place s x) other = refl
other_tag (Outcome stamp n None) other = refl
other_tag (Outcome stamp n (Some cause)) other = absurd (other refl)
other_tag (Released to k) other = refl
other_tag (Shown m) other = refl
other_tag (Checkpoint image) other = refl
other_tag (Epoch epoch) other = refl
other_tag (Decided stamp c n writes) other = refl

-- the kinds of the first ones
pub kinds_first : (n : ℕ) (rs : List Record) → take n (map kind_of rs) ≡ map kind_of (take n rs)
kinds_first zero rs = refl
kinds_first (suc n) [] = refl
kinds_first (suc n) (r ∷ rs) = ap (λ (l : List ℕ). kind_of r ∷ l) (kinds_first n rs)

-- bytes that are there
pub some_kept : (spelled : Option (List Record)) (rs all : List Record) → IfSome spelled (λ l. l ≡ rs) → spelled ≡ Some all → all ≡ rs
some_kept None rs all are e = absurd (cc e)
some_kept (Some l) rs all are e = let same : l ≡ all = cc e in sym same ∙ are

-- that number tells whether it is a checkpoint
pub checkpoint_tag : (r : Record) → (tag_of r == 8) ≡ is_checkpoint r
checkpoint_tag (Take from k stamp) = refl
checkpoint_tag (TakeWhole from k stamp handler xs) = refl
checkpoint_tag (Input stamp handler xs) = refl
checkpoint_tag (Value n place s x) = refl
checkpoint_tag (Outcome stamp n abort) = refl
checkpoint_tag (Released to k) = refl
checkpoint_tag (Shown m) = refl
checkpoint_tag (Checkpoint image) = refl
checkpoint_tag (Epoch epoch) = refl
checkpoint_tag (Decided stamp c n writes) = refl

-- the last of those behind the first ones
pub last_of : (rs : List Record) (n : ℕ) (b : Bool) → n < length rs → ((r : Record) → slice_get rs (length rs - 1) ≡ Some r → b ≡ is_checkpoint r) → b ≡ end_with_checkpoint (drop n rs)
last_of rs n b lt is =
    let at = some_at rs (length rs - 1) (omega (arith, lt)) in
    let r = at.0 in
    let sum : n + (length rs - 1 - n) ≡ length rs - 1 = omega (arith, lt) in
    let there : get_or (drop n rs) (length rs - 1 - n) r ≡ r = get_or-drop n rs (length rs - 1 - n) r ∙ ap (λ k. get_or rs k r) sum ∙ get_or_from_slice_get rs (length rs - 1) r r at.1 in
    is r at.1 ∙ sym (image_is r) ∙ last_is (drop n rs) (length rs - 1 - n) r (omega (arith, lt, length-drop n rs)) (sym there)

-- the records behind the last checkpoint
has_at : (rs : List Record) (i : ℕ) (r : Record) → slice_get rs i ≡ Some r → is_checkpoint r ≡ true → has_image rs ≡ true
has_at [] i r e is = absurd (cc e)
has_at (q ∷ rs) zero r e is = let same : q ≡ r = cc e in ap (λ (b : Bool). cond b true (has_image rs)) (image_is q ∙ ap is_checkpoint same ∙ is)
has_at (q ∷ rs) (suc i) r e is = both (is_some (image_in q)) (has_image rs) (has_at rs i r e is)
  where
    both : (a b : Bool) → b ≡ true → cond a true b ≡ true
    both true b e = refl
    both false b e = e

pub behind_at : (rs : List Record) (i : ℕ) (r : Record) → slice_get rs i ≡ Some r → is_checkpoint r ≡ true → has_image (drop (suc i) rs) ≡ false → behind_checkpoint rs ≡ drop (suc i) rs
behind_at [] i r e is none = absurd (cc e)
behind_at (q ∷ rs) zero r e is none =
    let same : q ≡ r = cc e in
    ap (λ (b : Bool). cond b (behind_checkpoint rs) (cond (is_some (image_in q)) rs (q ∷ rs))) none ∙ ap (λ (b : Bool). cond b rs (q ∷ rs)) (image_is q ∙ ap is_checkpoint same ∙ is)
behind_at (q ∷ rs) (suc i) r e is none =
    ap (λ (b : Bool). cond b (behind_checkpoint rs) (cond (is_some (image_in q)) rs (q ∷ rs))) (has_at rs i r e is) ∙ behind_at rs i r e is none

neither : (a b : Bool) → cond a true b ≡ false → (a ≡ false) × (b ≡ false)
neither true b e = absurd (cc e)
neither false b e = (refl, e)

pub behind_none : (rs : List Record) → has_image rs ≡ false → behind_checkpoint rs ≡ rs
behind_none [] e = refl
behind_none (q ∷ rs) e =
    let p = neither (is_some (image_in q)) (has_image rs) e in
    ap (λ (b : Bool). cond b (behind_checkpoint rs) (cond (is_some (image_in q)) rs (q ∷ rs))) p.1 ∙ ap (λ (b : Bool). cond b rs (q ∷ rs)) p.0

-- one more that is none
pub none_yet : (rs : List Record) (back i : ℕ) → back < length rs → i + 1 + back ≡ length rs → ((r : Record) → slice_get rs i ≡ Some r → is_checkpoint r ≡ false) → has_image (drop (length rs - back) rs) ≡ false → has_image (drop (length rs - (back + 1)) rs) ≡ false
none_yet rs back i lt sum is none =
    let at = some_at rs i (omega (arith, lt, sum)) in
    let r = at.0 in
    let here : length rs - (back + 1) ≡ i = omega (arith, lt, sum) in
    let next : length rs - back ≡ suc i = omega (arith, lt, sum) in
    ap (λ n. has_image (drop n rs)) here ∙ ap has_image (next_at rs i r at.1)
    ∙ ap (λ (b : Bool). cond b true (has_image (drop (suc i) rs))) (image_is r ∙ is r at.1) ∙ ap (λ n. has_image (drop n rs)) (sym next) ∙ none

-- bytes that are records are read
pub reads : (bytes : List ℕ) (rs : List Record) → bytes ≡ spellings rs → AllByRecursion Fits rs → (ps : List Placed) × (placed_at 0 bytes ≡ Ok ps) × (records_in ps ≡ rs)
reads bytes rs same fit =
    let q = read-all rs (length (spellings rs)) (0 + length (spellings rs)) fit (omega arith) in
    (q.places, ap (placed_at 0) same ∙ q.is, q.records)

-- the record at a place among them is read off the bytes from there on
pub one_read : (bytes : List ℕ) (rs : List Record) (i from : ℕ) → bytes ≡ spellings rs → AllByRecursion Fits rs → i < length rs → from ≡ length (spellings (take i rs))
    → (r : Record) × (slice_get rs i ≡ Some r) × (record_at (take (length bytes - from) (drop from bytes)) ≡ Some (r, spellings (drop (suc i) rs)))
one_read bytes rs i from same fit lt begin =
    let at = some_at rs i lt in
    let r = at.0 in
    let fits : AllByRecursion Fits (r ∷ drop (suc i) rs) = subst (λ (l : List Record). AllByRecursion Fits l) (next_at rs i r at.1) (all_later i rs fit) in
    let there : take (length bytes - from) (drop from bytes) ≡ spelling r ++ spellings (drop (suc i) rs) =
    take_rest bytes from ∙ ap (λ k. drop k bytes) begin ∙ ap (drop (length (spellings (take i rs)))) same ∙ later_bytes i rs ∙ ap spellings (next_at rs i r at.1) in
    (r, at.1, ap record_at there ∙ record_again r (spellings (drop (suc i) rs)) fits.0)

-- bytes that are read as records spell these
spelled_up : (n end : ℕ) (bytes : List ℕ) (ps : List Placed) → IsBytes bytes → placed_up_to n end bytes ≡ Ok ps → bytes ≡ spellings (records_in ps)
unfolding placed_up_to
spelled_up zero end [] ps fits e = let none : [] ≡ ps = cc e in ap (λ (l : List Placed). spellings (records_in l)) none
spelled_up (suc n) end [] ps fits e = let none : [] ≡ ps = cc e in ap (λ (l : List Placed). spellings (records_in l)) none
spelled_up zero end (b ∷ bytes) ps fits e = absurd (cc e)
spelled_up (suc n) end (b ∷ bytes) ps fits e =
    let p = cut_off (record_at (b ∷ bytes)) (end - length (b ∷ bytes)) (placed_up_to n end) ps e in
    let first = p.0 in
    let takes = (record_takes (b ∷ bytes) first.0 first.1 fits p.2).0 in
    let later = spelled_up n end first.1 p.1 takes.rest_fits p.3 in
    takes.parts ∙ ap (λ (l : List ℕ). spelling first.0 ++ l) later ∙ ap (λ (l : List Placed). spellings (records_in l)) p.4

pub spelled_by : (at : ℕ) (bytes : List ℕ) (ps : List Placed) → IsBytes bytes → placed_at at bytes ≡ Ok ps → bytes ≡ spellings (records_in ps)
spelled_by at bytes ps fits e = spelled_up (length bytes) (at + length bytes) bytes ps fits e

pub fits_in : (ps : List Placed) → AllByRecursion PlacedFits ps → AllByRecursion Fits (records_in ps)
fits_in [] h = tt
fits_in (p ∷ ps) h = (h.0, fits_in ps h.1)

-- one end more
pub next_end : (rs : List Record) (i : ℕ) (ends ended : List ℕ) (n : ℕ) → i < length rs → ends ≡ ends_of (take i rs) → ended ≡ ends ++ n ∷ [] → n ≡ length (spellings (take (i + 1) rs)) → ended ≡ ends_of (take (i + 1) rs)
next_end rs i ends ended n lt so_far at is =
    let p = some_at rs i lt in
    let r = p.0 in
    let next : take (i + 1) rs ≡ take i rs ++ r ∷ [] = take_more rs i r lt ∙ ap (λ x. take i rs ++ x ∷ []) (get_or_from_slice_get rs i r r p.1) in
    at ∙ ap (λ (l : List ℕ). l ++ n ∷ []) so_far ∙ ap (λ (m : ℕ). ends_of (take i rs) ++ m ∷ []) (is ∙ ap (λ (l : List Record). length (spellings l)) next) ∙ sym (ends_of-push (take i rs) r) ∙ ap ends_of (sym next)

-- and one behind other records
pub end_on : (rs ss : List Record) (i : ℕ) (ends ended : List ℕ) (before end : ℕ) → i < length ss → ends ≡ ends_of (rs ++ take i ss) → ended ≡ ends ++ (before + end) ∷ [] → before ≡ length (spellings rs) → end ≡ length (spellings (take (i + 1) ss)) → ended ≡ ends_of (rs ++ take (i + 1) ss)
end_on rs ss i ends ended before end lt so_far at begin is =
    let on : length rs + i + 1 ≡ length rs + (i + 1) = omega arith in
    let there : take (length rs + i + 1) (rs ++ ss) ≡ rs ++ take (i + 1) ss = ap (λ k. take k (rs ++ ss)) on ∙ take-append-add rs ss (i + 1) in
    let whole : length (spellings (take (length rs + i + 1) (rs ++ ss))) ≡ length (spellings rs) + length (spellings (take (i + 1) ss)) = ap (λ (l : List Record). length (spellings l)) there ∙ long-append rs (take (i + 1) ss) in
    next_end (rs ++ ss) (length rs + i) ends ended (before + end) (omega (arith, lt, length-append rs ss)) (so_far ∙ ap ends_of (sym (take-append-add rs ss i))) at (omega (arith, whole, begin, is)) ∙ ap ends_of there

-- records behind others
pub joined : (bytes more all ended : List ℕ) (rs ss : List Record) → bytes ≡ spellings rs → AllByRecursion Fits rs → more ≡ spellings ss → AllByRecursion Fits ss → all ≡ bytes ++ more → ended ≡ ends_of (rs ++ ss) → Encode all ended (rs ++ ss)
joined bytes more all ended rs ss first fit then fits is at = record {
  spelled = is ∙ ap (λ (l : List ℕ). l ++ more) first ∙ ap (λ (l : List ℕ). spellings rs ++ l) then ∙ sym (spelled-append rs ss);
  fit = all_both rs ss fit fits;
  ended = at;
}

-- an encoding that another's bytes and ends are
pub same_encoding : (bytes ends more ended : List ℕ) (rs : List Record) → Encode bytes ends rs → more ≡ bytes → ended ≡ ends → Encode more ended rs
same_encoding bytes ends more ended rs e b at = record { spelled = b ∙ e.spelled; fit = e.fit; ended = at ∙ e.ended }
