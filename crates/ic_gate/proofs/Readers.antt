-- Reading the records of batches where they lie.
use Rattle.std.proofs.Common.{◌≡◌, ◌∙◌, sym, ap, refl, subst, arith, ℕ, ◌+◌, ◌-◌, ◌<◌, ◌≤◌, Bool, false, List, [], ◌∷◌, ◌++◌, length, take, drop, map, append_assoc, length-append, Option, Some, None}
use Rattle.std.specs.Borrow.{Bor}
use Rattle.std.specs.Prelude.{Result, Ok, Err, is_some, option_map}
use Rattle.std.specs.List.{AllByRecursion, copy_within}
use Rattle.std.proofs.lemmas.List.{append-nil, drop-drop, length-drop, length-take-le, map-append, map_push}
use Rattle.std.proofs.lemmas.List.Edits.{take-paste, drop-paste, length-paste}
use Rattle.ic_base.specs.declared.record.Batch.{Batch}
use Rattle.ic_base.specs.declared.record.Record.{Record}
use Rattle.def_log.specs.Loading.{first_batch}
use Rattle.def_log.specs.Log.{Placed, placed_up_to, placed_at, records_in, end_with_checkpoint}
use Rattle.def_log.specs.Reading.{record_at}
use Rattle.def_log.specs.Spelling.{spelling, spellings, Fits}
use Rattle.def_log.proofs.Keeps.{payload_length}
use Rattle.def_log.proofs.Steps.{is_opened}
use Rattle.def_log.proofs.Takes.{IsBytes, record_takes}
use Rattle.def_step.specs.Replay.{image_in}
use Rattle.law_marks.proofs.Reading.{spelled-some}
use Rattle.ic_wire.specs.Placed.{PlacedFits}
use Rattle.ic_wire.proofs.Placing.{with_front, goes_on, stops, is_done}
use Rattle.ic_wire.proofs.Ranges.{all_push}
use Rattle.ic_gate.specs.Encoding.{ends_of, decoded, kind_of, Encode}
use Rattle.ic_gate.specs.Gates.{batch_behind}
use Rattle.ic_gate.specs.Readers.{ReadSoFar, HoldsRead, with_places, IsReadOn, IsMarked}
use Rattle.ic_gate.proofs.Encodings.{closed, seen, long-append, ends_of-push, joined, spelled_by, fits_in}
use Rattle.ic_gate.proofs.PlacedRecords.{read_payload}
use Rattle.ic_gate.proofs.ReadBatches.{found_same}
use Rattle.ic_gate.proofs.SlotWalks.{image_is}

-- the payload of the batch that was found
pub payload_is : (gate : ℕ) (bytes : List ℕ) (b : Batch) → first_batch gate bytes ≡ Ok (Some b) → b.payload ≡ take (length b.payload) (drop 5 bytes)
payload_is gate [] b e = cc
payload_is gate (byte ∷ rest) b e =
    let o = is_opened gate byte rest b e in
    ap (λ (d : Batch). d.payload) o.is ∙ ap (λ n. take n (drop 4 rest)) (sym (payload_length gate byte rest b o))

-- it stands in the bytes that weren't looked at
pub found_there : (gate : ℕ) (bytes : List ℕ) (found : Option (Bor (List ℕ))) (p : Bor (List ℕ)) → first_batch gate bytes ≡ Ok (option_map (λ (q : Bor (List ℕ)). batch_behind gate q.now) found) → found ≡ Some p
    → first_batch gate bytes ≡ Ok (Some (batch_behind gate (take (length p.now) (drop 5 bytes))))
found_there gate bytes found p e is =
    let there : first_batch gate bytes ≡ Ok (Some (batch_behind gate p.now)) = found_same gate bytes found (Some p) e is in
    there ∙ ap (λ (l : List ℕ). Ok (Some (batch_behind gate l))) (payload_is gate bytes (batch_behind gate p.now) there)

-- places behind others
pub places_both : (places : Option (List ℕ)) (xs ys : List Placed) → with_places (with_places places xs) ys ≡ with_places places (xs ++ ys)
places_both None xs ys = refl
places_both (Some all) xs ys = ap (λ (l : List ℕ). Some l) (append_assoc all (map (λ (r : Placed). r.0) xs) (map (λ (r : Placed). r.0) ys) ∙ ap (λ (l : List ℕ). all ++ l) (sym (map-append (λ (r : Placed). r.0) xs ys)))

pub places_none : (places : Option (List ℕ)) → places ≡ with_places places []
places_none None = refl
places_none (Some all) = ap (λ (l : List ℕ). Some l) (sym (append-nil all))

places_push : (before now more : Option (List ℕ)) (ps : List Placed) (p : Placed) → now ≡ with_places before ps → more ≡ option_map (λ (all : List ℕ). all ++ p.0 ∷ []) now → more ≡ with_places before (ps ++ p ∷ [])
places_push before now more ps p is e = e ∙ ap (λ o. with_places o (p ∷ [])) is ∙ places_both before ps (p ∷ [])

-- the last of the records
last_pushed : (rs : List Record) (r : Record) → is_some (image_in r) ≡ end_with_checkpoint (rs ++ r ∷ [])
last_pushed [] r = image_is r
last_pushed (q ∷ []) r = image_is r
last_pushed (q ∷ p ∷ rs) r = last_pushed (p ∷ rs) r

-- where records behind others end
ends_of-append : (rs ss : List Record) → ends_of (rs ++ ss) ≡ ends_of rs ++ map (λ end. length (spellings rs) + end) (ends_of ss)
ends_of-append [] ss = sym (same (ends_of ss))
  where
    same : (l : List ℕ) → map (λ end. 0 + end) l ≡ l
    same [] = refl
    same (x ∷ xs) = let e : 0 + x ≡ x = omega arith in ap (λ (n : ℕ). n ∷ map (λ end. 0 + end) xs) e ∙ ap (λ (l : List ℕ). x ∷ l) (same xs)
ends_of-append (r ∷ rs) ss =
    let n : ℕ = length (spelling r) in
    let m : ℕ = length (spellings rs) in
    ap (λ (l : List ℕ). n ∷ l)
    (ap (map (λ end. n + end)) (ends_of-append rs ss)
    ∙ map-append (λ end. n + end) (ends_of rs) (map (λ end. m + end) (ends_of ss))
    ∙ ap (λ (l : List ℕ). map (λ end. n + end) (ends_of rs) ++ l) (moved (length (spellings (r ∷ rs))) n m (length-append (spelling r) (spellings rs)) (ends_of ss)))
  where
    moved : (all n m : ℕ) → all ≡ n + m → (l : List ℕ) → map (λ end. n + end) (map (λ end. m + end) l) ≡ map (λ end. all + end) l
    moved all n m is [] = refl
    moved all n m is (x ∷ xs) = let sum : n + (m + x) ≡ all + x = omega (arith, is) in ap (λ k. k ∷ map (λ end. n + end) (map (λ end. m + end) xs)) sum ∙ ap (λ (l : List ℕ). (all + x) ∷ l) (moved all n m is xs)

alone_front : (r : Result (List Placed) ℕ) → with_front [] r ≡ r
alone_front (Ok rs) = refl
alone_front (Err place) = refl

-- of a payload that begins at a place in the file these records were looked at: where they end, behind so many bytes, their kinds and
-- their places stand behind others
pub record AreMarked (before kinds : List ℕ) (places : Option (List ℕ)) (kept at : ℕ) (payload rest ends tags : List ℕ) (now : Option (List ℕ)) (last : Bool) : Type 0 where
  pub records : List Placed
  pub bytes : IsBytes rest
  pub fuel : length rest + length records ≤ length payload
  pub same : with_front records (placed_up_to (length payload - length records) (at + length payload) rest) ≡ placed_at at payload
  pub fit : AllByRecursion PlacedFits records
  pub done : length (spellings (records_in records)) + length rest ≡ length payload
  pub ended : ends ≡ before ++ map (λ end. kept + end) (ends_of (records_in records))
  pub kinds_are : tags ≡ kinds ++ map kind_of (records_in records)
  pub placed : now ≡ with_places places records
  pub tells : last ≡ end_with_checkpoint (records_in records)

module _ (before kinds : List ℕ) (places : Option (List ℕ)) (kept at : ℕ) (payload : List ℕ) where
  all_left : length payload - 0 ≡ length payload
  all_left = omega arith

  pub none_marked : (rest : List ℕ) → rest ≡ payload → IsBytes payload → AreMarked before kinds places kept at payload rest before kinds places false
  none_marked rest is bytes =
      record {
        records = [];
        bytes = subst IsBytes (sym is) bytes;
        fuel = omega (arith, ap length is);
        same = ap (λ (l : List ℕ). with_front [] (placed_up_to (length payload - 0) (at + length payload) l)) is ∙ ap (λ n. with_front [] (placed_up_to n (at + length payload) payload)) all_left ∙ alone_front (placed_at at payload);
        fit = tt;
        done = omega (arith, ap length is);
        ended = sym (append-nil before);
        kinds_are = sym (append-nil kinds);
        placed = places_none places;
        tells = refl;
      }

  module _ (rest ends tags : List ℕ) (now : Option (List ℕ)) (last : Bool) (m : AreMarked before kinds places kept at payload rest ends tags now last) where
    left : 0 < length rest → length m.records < length payload
    left some = omega (arith, some, m.fuel)

    -- where the next one begins
    begins : length rest ≤ length payload
    begins = omega (arith, m.done)

    -- one record more
    pub marked_on : (r : Record) (more ended tagged : List ℕ) (next : Option (List ℕ)) (tells : Bool) (place : ℕ) → 0 < length rest → record_at rest ≡ Some (r, more) → Fits r → place ≡ at + (length payload - length rest)
        → ended ≡ ends ++ (kept + (length payload - length more)) ∷ [] → tagged ≡ tags ++ kind_of r ∷ [] → next ≡ option_map (λ (all : List ℕ). all ++ place ∷ []) now → tells ≡ is_some (image_in r)
        → AreMarked before kinds places kept at payload more ended tagged next tells
    marked_on r more ended tagged next tells place some read fits here is kind then told =
        let takes = (record_takes rest r more m.bytes read).0 in
        let sum : length rest ≡ length (spelling r) + length more = ap length takes.parts ∙ length-append (spelling r) more in
        let p : Placed = (at + length payload - length rest, r) in
        let rs = records_in m.records in
        let whole : records_in (m.records ++ p ∷ []) ≡ rs ++ r ∷ [] = map_push (λ (q : Placed). q.1) m.records p in
        let long : length (spellings (rs ++ r ∷ [])) ≡ length (spellings rs) + length (spelling r) = long-append rs (r ∷ []) ∙ ap (λ (l : List ℕ). length (spellings rs) + length l) (append-nil (spelling r)) in
        let len : length (m.records ++ p ∷ []) ≡ length m.records + 1 = length-append m.records (p ∷ []) in
        let end : kept + (length payload - length more) ≡ kept + length (spellings (rs ++ r ∷ [])) = omega (arith, long, sum, m.done) in
        let spot : place ≡ at + length payload - length rest = omega (arith, here, begins) in
        let less : length more < length rest = omega (arith, sum, spelled-some r) in
        record {
          records = m.records ++ p ∷ [];
          bytes = takes.rest_fits;
          fuel = omega (arith, len, m.fuel, less);
          same = ap (λ n. with_front (m.records ++ p ∷ []) (placed_up_to (length payload - n) (at + length payload) more)) len
              ∙ goes_on m.records (length payload) (length m.records) (at + length payload) rest r more (placed_at at payload) (left some) some read m.same;
          fit = all_push PlacedFits m.records p m.fit fits;
          done = omega (arith, m.done, sum, long, ap (λ (l : List Record). length (spellings l)) whole);
          ended = is ∙ ap (λ (l : List ℕ). l ++ (kept + (length payload - length more)) ∷ []) m.ended
              ∙ append_assoc before (map (λ end. kept + end) (ends_of rs)) ((kept + (length payload - length more)) ∷ [])
              ∙ ap (λ n. before ++ (map (λ end. kept + end) (ends_of rs) ++ n ∷ [])) end
              ∙ ap (λ (l : List ℕ). before ++ l) (sym (map_push (λ end. kept + end) (ends_of rs) (length (spellings (rs ++ r ∷ [])))))
              ∙ ap (λ (l : List ℕ). before ++ map (λ end. kept + end) l) (sym (ends_of-push rs r))
              ∙ ap (λ (l : List Record). before ++ map (λ end. kept + end) (ends_of l)) (sym whole);
          kinds_are = kind ∙ ap (λ (l : List ℕ). l ++ kind_of r ∷ []) m.kinds_are
              ∙ append_assoc kinds (map kind_of rs) (kind_of r ∷ [])
              ∙ ap (λ (l : List ℕ). kinds ++ l) (sym (map_push kind_of rs r))
              ∙ ap (λ (l : List Record). kinds ++ map kind_of l) (sym whole);
          placed = places_push places now next m.records p m.placed (then ∙ ap (λ k. option_map (λ (all : List ℕ). all ++ k ∷ []) now) spot);
          tells = told ∙ last_pushed rs r ∙ ap end_with_checkpoint (sym whole);
        }

    -- no record begins here
    pub marks_end : 0 < length rest → record_at rest ≡ None → placed_at at payload ≡ Err (at + (length payload - length rest))
    marks_end some none =
        let spot : at + length payload - length rest ≡ at + (length payload - length rest) = omega (arith, begins) in
        stops m.records (length payload) (length m.records) (at + length payload) rest (placed_at at payload) (left some) some none m.same ∙ ap (λ (k : ℕ). Err k) spot

    -- all were looked at
    pub all_marked : length rest ≡ 0 → IsBytes payload → IsMarked before kinds places kept at payload ends tags now last
    all_marked empty bytes =
        let read : placed_at at payload ≡ Ok m.records = is_done m.records (length payload - length m.records) (at + length payload) rest (placed_at at payload) empty m.same in
        record {
          placed = m.records;
          are_read = read_payload at payload m.records bytes read m.fit;
          spelled = spelled_by at payload m.records bytes read;
          ended = m.ended;
          kinds_behind = m.kinds_are;
          placed_behind = m.placed;
          tells = m.tells;
        }

-- the payload of the next batch among the bytes of a reader
module _ (self : ReadSoFar) (items ends kinds shown : List ℕ) (places : Option (List ℕ)) (kept gate count : ℕ) (held : HoldsRead items kept gate ends kinds) (seen_is : record { records = decoded (take kept items); places = places; rest = drop gate items } ≡ self)
    (inside : 5 + count ≤ length self.rest) (same : shown ≡ items) where
  abbrev slice : List ℕ
  slice = take (gate + 5 + count - (gate + 5)) (drop (gate + 5) shown)

  abbrev payload : List ℕ
  payload = take count (drop 5 self.rest)

  rest_is : drop gate items ≡ self.rest
  rest_is = ap (λ (r : ReadSoFar). r.rest) seen_is

  whole : gate + 5 + count ≤ length shown
  whole = omega (arith, inside, ap length rest_is, length-drop gate items, held.inside, ap length same)

  cut : take (gate + 5 + count - (gate + 5)) (drop (gate + 5) items) ≡ payload
  cut =
      let n : gate + 5 + count - (gate + 5) ≡ count = omega arith in
      ap (λ k. take k (drop (gate + 5) items)) n ∙ ap (take count) (sym (drop-drop 5 gate items)) ∙ ap (λ (l : List ℕ). take count (drop 5 l)) rest_is

  pub slice_is : slice ≡ payload
  slice_is = ap (λ (l : List ℕ). take (gate + 5 + count - (gate + 5)) (drop (gate + 5) l)) same ∙ cut

  slice_long : length slice ≡ count
  slice_long = ap length slice_is ∙ length-take-le count (drop 5 self.rest) (omega (arith, inside, length-drop 5 self.rest))

  -- it is moved behind the records so far
  module _ (moved : List ℕ) (is : moved ≡ copy_within items (gate + 5) (gate + 5 + count) kept) where
    low : kept ≤ length items
    low = omega (arith, held.below, held.inside)

    n_is : gate + 5 + count - (gate + 5) ≡ count
    n_is = omega arith

    enough : count ≤ length (drop (gate + 5) items)
    enough = omega (arith, length-drop (gate + 5) items, whole, ap length same)

    copied : moved ≡ take kept items ++ take count (drop (gate + 5) items) ++ drop (kept + count) items
    copied = is ∙ ap (λ k. take kept items ++ take k (drop (gate + 5) items) ++ drop (kept + k) items) n_is

    front : take (kept + count) moved ≡ take kept items ++ payload
    front =
        ap (take (kept + count)) copied ∙ take-paste items kept (drop (gate + 5) items) count low enough
        ∙ ap (λ (l : List ℕ). take kept items ++ l) (ap (λ k. take k (drop (gate + 5) items)) (sym n_is) ∙ cut)

    back : drop (kept + count) moved ≡ drop (kept + count) items
    back = ap (drop (kept + count)) copied ∙ drop-paste items kept (drop (gate + 5) items) count low enough

    pub moved_rest : drop (gate + 5 + count) moved ≡ drop (5 + count) self.rest
    moved_rest =
        let k : ℕ = gate + 5 + count - (kept + count) in
        let sum : kept + count + k ≡ gate + 5 + count = omega (arith, held.below) in
        let on : gate + 5 + count ≡ gate + (5 + count) = omega arith in
        ap (λ n. drop n moved) (sym sum) ∙ sym (drop-drop k (kept + count) moved) ∙ ap (drop k) back ∙ drop-drop k (kept + count) items
        ∙ ap (λ n. drop n items) (sum ∙ on) ∙ sym (drop-drop (5 + count) gate items) ∙ ap (drop (5 + count)) rest_is

    module _ (at : ℕ) (ended tags : List ℕ) (now : Option (List ℕ)) (last : Bool) (m : IsMarked ends kinds places kept at slice ended tags now last) where
      read_here : placed_at at payload ≡ Ok m.placed
      read_here = ap (placed_at at) (sym slice_is) ∙ m.are_read.are

      encodes : Encode (take (kept + count) moved) ended (decoded (take kept items) ++ records_in m.placed)
      encodes =
          let rs = decoded (take kept items) in
          let long : kept ≡ length (spellings rs) = sym (length-take-le kept items low) ∙ ap length held.encoded.spelled in
          joined (take kept items) payload (take (kept + count) moved) ended rs (records_in m.placed) held.encoded.spelled held.encoded.fit (sym slice_is ∙ m.spelled) (fits_in m.placed m.are_read.fit) front
          (m.ended ∙ ap (λ (l : List ℕ). l ++ map (λ end. kept + end) (ends_of (records_in m.placed))) held.encoded.ended
          ∙ ap (λ n. ends_of rs ++ map (λ end. n + end) (ends_of (records_in m.placed))) long ∙ sym (ends_of-append rs (records_in m.placed)))

      pub holds_on : HoldsRead moved (kept + count) (gate + 5 + count) ended tags
      holds_on = record {
        encoded = closed (take (kept + count) moved) ended (decoded (take kept items) ++ records_in m.placed) encodes;
        kinds_are = m.kinds_behind ∙ ap (λ (l : List ℕ). l ++ map kind_of (records_in m.placed)) held.kinds_are
            ∙ sym (map-append kind_of (decoded (take kept items)) (records_in m.placed))
            ∙ ap (map kind_of) (sym (seen (take (kept + count) moved) ended (decoded (take kept items) ++ records_in m.placed) encodes));
        below = omega (arith, held.below);
        inside = omega (arith, whole, ap length same, ap length copied, length-paste items kept (drop (gate + 5) items) count (omega (arith, whole, held.below, ap length same)) enough);
      }

      pub is_read_on : IsReadOn self (placed_at at payload) count (record { records = decoded (take (kept + count) moved); places = now; rest = drop (gate + 5 + count) moved })
      is_read_on = record {
        placed = m.placed;
        are_read = record { are = read_here; fit = m.are_read.fit; long = sym slice_long ∙ m.are_read.long };
        behind = seen (take (kept + count) moved) ended (decoded (take kept items) ++ records_in m.placed) encodes ∙ ap (λ (r : ReadSoFar). r.records ++ records_in m.placed) seen_is;
        placed_behind = m.placed_behind ∙ ap (λ (r : ReadSoFar). with_places r.places m.placed) seen_is;
      }

      pub ends_told : last ≡ elim (placed_at at payload) [ Ok rs ↦ end_with_checkpoint (records_in rs) | Err place ↦ false ]
      ends_told = m.tells ∙ sym (ap (λ (r : Result (List Placed) ℕ). elim r [ Ok rs ↦ end_with_checkpoint (records_in rs) | Err place ↦ false ]) read_here)
