-- How a log of no batches reads.
use Rattle.std.proofs.Common.{◌≡◌, ◌∙◌, ap, sym, refl, ℕ, ◌-◌, take, get_or, ◌+◌, List, [], ◌∷◌, ◌++◌, length, Some, arith}
use Rattle.ic_base.specs.declared.limits.TheConstants.{FIRST_GATE}
use Rattle.std.specs.Prelude.{Result, Ok}
use Rattle.std.proofs.Math.Seq.{take-append_seam}
use Rattle.std.proofs.lemmas.List.{length-append, append_assoc, drop_at, get_or-drop}
use Rattle.def_log.specs.Changes.{gate_from, counted, forced_from}
use Rattle.def_log.specs.Directory.{directory, first_slot, first_bad_slot, slots_in}
use Rattle.def_log.specs.Frame.{letters, header, batches_at, frame_of, fingerprint_in, owner_in, fresh}
use Rattle.def_log.specs.Log.{◌>>=◌, Placed, ends_with_checkpoint, records_in, log_of}
use Rattle.def_log.specs.Sizes.{gate_behind}
use Rattle.def_log.proofs.Frames.{length-header, slots_of_header, frame_closed}
use Rattle.def_log.proofs.Tails.{frame_parts}
use Rattle.law_marks.proofs.Places.{places-whole}

module _ (fingerprint : List ℕ) (owner : ℕ) (print : length fingerprint ≡ 32) where
  pub fresh_frame : frame_of (fresh fingerprint owner) ≡ Ok []
  fresh_frame =
      frame_closed fingerprint owner [] [] 0 [] print (record { few = omega arith; small = tt; named = refl }) tt (omega arith)
      (omega (arith, length-header fingerprint owner [] print (omega arith), length-append (header fingerprint owner []) (0 ∷ [])))

  fresh_walk : batches_at FIRST_GATE (fresh fingerprint owner) ≡ Ok []
  fresh_walk = (frame_parts (fresh fingerprint owner) [] fresh_frame).batches_same

  pub fresh_gate : gate_from FIRST_GATE (fresh fingerprint owner) ≡ Some FIRST_GATE
  fresh_gate = ap (gate_behind FIRST_GATE) fresh_walk ∙ ap (λ (n : ℕ). Some n) (omega arith)

  pub fresh_count : forced_from FIRST_GATE (fresh fingerprint owner) ≡ Some 0
  fresh_count = ap counted fresh_walk

  pub fresh_slots : slots_in (fresh fingerprint owner) ≡ []
  fresh_slots = slots_of_header fingerprint owner [] print (omega arith) (0 ∷ []) tt

-- whose log a header tells
module _ (fingerprint : List ℕ) (owner : ℕ) (slots more : List ℕ) (print : length fingerprint ≡ 32) where
  abbrev behind : List ℕ
  behind = owner ∷ (directory slots ++ more)

  parts : header fingerprint owner slots ++ more ≡ (letters ++ fingerprint) ++ behind
  parts = grind (arith, append_assoc)

  pub print_told : fingerprint_in (header fingerprint owner slots ++ more) ≡ fingerprint
  print_told =
      let others : header fingerprint owner slots ++ more ≡ letters ++ (fingerprint ++ behind) = grind (arith, append_assoc) in
      ap fingerprint_in others ∙ ap (take 32) (drop_at letters (fingerprint ++ behind) 8 (omega arith)) ∙ ap (λ n. take n (fingerprint ++ behind)) (sym print) ∙ take-append_seam fingerprint behind

  pub owner_told : owner_in (header fingerprint owner slots ++ more) ≡ owner
  owner_told =
      let long : length (letters ++ fingerprint) ≡ 40 = omega (arith, print, length-append letters fingerprint) in
      ap owner_in parts ∙ sym (get_or-drop 40 ((letters ++ fingerprint) ++ behind) 0 0) ∙ ap (λ (l : List ℕ). get_or l 0 0) (drop_at (letters ++ fingerprint) behind 40 (omega (arith, long)))

-- a log of no batches is its component's, and has no records
pub fresh_print : (fingerprint : List ℕ) (owner : ℕ) → length fingerprint ≡ 32 → fingerprint_in (fresh fingerprint owner) ≡ fingerprint
fresh_print fingerprint owner print = print_told fingerprint owner [] (0 ∷ []) print

pub fresh_owner : (fingerprint : List ℕ) (owner : ℕ) → length fingerprint ≡ 32 → owner_in (fresh fingerprint owner) ≡ owner
fresh_owner fingerprint owner print = owner_told fingerprint owner [] (0 ∷ []) print

pub fresh_log : (fingerprint : List ℕ) (owner : ℕ) → length fingerprint ≡ 32 → log_of (fresh fingerprint owner) ≡ Ok []
fresh_log fingerprint owner print =
    ap (λ (r : Result (List Placed) ℕ). r >>= λ rs. Ok (records_in rs)) (places-whole (fresh fingerprint owner) [] (record {
      bs = [];
      frame = fresh_frame fingerprint owner print;
      places = refl;
      slots = ap (λ slots. first_bad_slot ends_with_checkpoint first_slot slots []) (fresh_slots fingerprint owner print);
    }))
