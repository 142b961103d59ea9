-- Records beside their places.
use Rattle.std.proofs.Common.{◌≡◌, ◌∙◌, sym, ap, refl, ℕ, List, [], ◌∷◌, ◌++◌, length, map, Option, Some}
use Rattle.std.specs.Prelude.{Result, option_map}
use Rattle.std.specs.List.{zip}
use Rattle.std.proofs.lemmas.List.{length-map}
use Rattle.std.proofs.lemmas.Slice.Zip.{firsts-zip, seconds-zip}
use Rattle.ic_base.specs.declared.record.Record.{Record}
use Rattle.def_log.specs.Log.{Placed, records_in}
use Rattle.ic_gate.specs.Readers.{ReadSoFar, with_places, IsReadOn}

-- the places alone
abbrev pub firsts : List Placed → List ℕ
firsts ps = map (λ (r : Placed). r.0) ps

-- what records beside their places are seen as
module _ (places : List ℕ) (records : List Record) (all : List Placed) (many : length places ≡ length records) (is : zip places records ≡ all) where
  pub records_are : records_in all ≡ records
  records_are = ap records_in (sym is) ∙ seconds-zip places records (sym many)

  pub places_are : firsts all ≡ places
  places_are = ap firsts (sym is) ∙ firsts-zip places records (sym many)

-- places and records that are taken apart, beside each other again
pub zip-parts : (ps : List Placed) → zip (firsts ps) (records_in ps) ≡ ps
zip-parts [] = refl
zip-parts (p ∷ ps) = ap (λ (l : List Placed). p ∷ l) (zip-parts ps)

-- a reader that began with no record and with no place
module _ (before after : ReadSoFar) (read : Result (List Placed) ℕ) (bytes : ℕ) (e : IsReadOn before read bytes after) (none : before.records ≡ []) where
  pub all_records : after.records ≡ records_in e.placed
  all_records = e.behind ∙ ap (λ (l : List Record). l ++ records_in e.placed) none

  pub all_places : (places : Option (List ℕ)) → before.places ≡ places → after.places ≡ with_places places e.placed
  all_places places is = e.placed_behind ∙ ap (λ (o : Option (List ℕ)). with_places o e.placed) is

-- the places of records that were read, beside these
module _ (after : ReadSoFar) (ps : List Placed) (records : after.records ≡ records_in ps) (places : after.places ≡ with_places (Some []) ps) where
  pub as_many : option_map length after.places ≡ Some (length after.records)
  as_many = ap (option_map length) places ∙ ap (λ (n : ℕ). Some n) (length-map ps (λ (r : Placed). r.0) ∙ sym (length-map ps (λ (r : Placed). r.1)) ∙ ap length (sym records))

  pub beside : (all : List Placed) → ((l : List ℕ) → after.places ≡ Some l → all ≡ zip l after.records) → all ≡ ps
  beside all is = is (firsts ps) places ∙ ap (zip (firsts ps)) records ∙ zip-parts ps
