-- Reading the batches of a file one after the other.
use Rattle.std.proofs.Common.{◌≡◌, inl, inr, ℕ, suc, ◌+◌, ◌-◌, ◌<◌, ◌≤◌, List, [], ◌∷◌, ◌++◌, length, take, drop, Option, Some, None, refl, sym, ap, ◌∙◌, arith}
use Rattle.std.specs.Prelude.{Result, Ok, Err}
use Rattle.std.proofs.lemmas.Bool.{cases_lt}
use Rattle.std.proofs.lemmas.List.{nil_from_length, take_rest, append-nil, drop-drop, length-append, length-drop}
use Rattle.std.proofs.lemmas.List.Elements.{All-push}
use Rattle.ic_base.specs.declared.record.Batch.{Batch}
use Rattle.def_log.specs.Frame.{with_batch, batches_from}
use Rattle.def_log.specs.Sizes.{span}
use Rattle.ic_former.specs.Gates.{AreBelow}
use Rattle.def_log.specs.Loading.{first_batch}
use Rattle.def_log.proofs.Spans.{with_all, with_all-push, fewer}
use Rattle.def_log.proofs.Steps.{behind, followed, step}
use Rattle.def_log.proofs.Keeps.{is_whole}

err_same : (a b : ℕ) → ◌≡◌ {A = Result (Option Batch) ℕ} (Err a) (Err b) → a ≡ b
err_same a b e = cc

-- what a slice holds
pub from_rest : (bytes : List ℕ) (gate past : ℕ) (r : Result (Option Batch) ℕ) → first_batch gate (take (length bytes - past) (drop past bytes)) ≡ r → first_batch gate (drop past bytes) ≡ r
from_rest bytes gate past r e = sym (ap (first_batch gate) (take_rest bytes past)) ∙ e

-- of bytes that stand from a gate on: the batches so far, and those behind so many bytes, are all
abbrev pub IsReadTo : ℕ → List ℕ → List Batch → ℕ → Type 0
IsReadTo start bytes bs gate = (n : ℕ) → n + length bs ≡ length bytes → with_all bs (batches_from n gate (drop (gate - start) bytes)) ≡ batches_from (length bytes) start bytes

module _ (start : ℕ) (bytes : List ℕ) (bs : List Batch) (gate : ℕ) (place : gate ≡ start + span bs) (inside : gate - start ≤ length bytes) (read : IsReadTo start bytes bs gate) where
  -- how many batches may still come
  abbrev left : ℕ
  left = length bytes - length bs - 1

  abbrev here : List ℕ
  here = drop (gate - start) bytes

  module _ (some : 0 < length here) where
    fuel : suc left + length bs ≡ length bytes
    fuel = omega (arith, fewer bs, place, some, length-drop (gate - start) bytes)

    all : with_all bs (followed left gate here (first_batch gate here)) ≡ batches_from (length bytes) start bytes
    all = ap (with_all bs) (sym (step left gate here)) ∙ read (suc left) fuel

    -- no batch stands at the gate
    pub all_read : first_batch gate here ≡ Ok None → batches_from (length bytes) start bytes ≡ Ok bs
    all_read e = sym all ∙ ap (λ (r : Result (Option Batch) ℕ). with_all bs (followed left gate here r)) e ∙ ap (λ (l : List Batch). Ok l) (append-nil bs)

  -- the file ends here, or what stands at the gate is refused
  pub refused : (at : ℕ) → first_batch gate here ≡ Err at → batches_from (length bytes) start bytes ≡ Err at
  refused at e = elim (cases_lt (length bs) (length bytes)) [
    | inl more ↦ let n : suc left + length bs ≡ length bytes = omega (arith, more) in
        sym (ap (with_all bs) (sym (step left gate here)) ∙ read (suc left) n) ∙ ap (λ (r : Result (Option Batch) ℕ). with_all bs (followed left gate here r)) e
    | inr none ↦ let n : 0 + length bs ≡ length bytes = omega (arith, none, fewer bs, place, inside) in
        sym (read 0 n) ∙ ap (with_all bs) (no_more (at_end (omega (arith, none, fewer bs, place, inside))) e)
  ]
    where
      at_end : length bytes ≤ gate - start → drop (gate - start) bytes ≡ []
      at_end le = nil_from_length (drop (gate - start) bytes) (omega (arith, le, length-drop (gate - start) bytes))

      no_more : drop (gate - start) bytes ≡ [] → first_batch gate (drop (gate - start) bytes) ≡ Err at → batches_from 0 gate (drop (gate - start) bytes) ≡ Err at
      no_more none e = ap (batches_from 0 gate) none ∙ ap (λ (k : ℕ). Err k) (err_same gate at (sym (ap (first_batch gate) none) ∙ e))

  pub fits : (b : Batch) → first_batch gate here ≡ Ok (Some b) → gate - start + 5 + length b.payload ≤ length bytes
  fits b e = omega (arith, (is_whole gate here b e).fits, length-drop (gate - start) bytes)

  pub still_below : (top : ℕ) → start + length bytes ≤ top → AreBelow top bs → (b : Batch) → first_batch gate here ≡ Ok (Some b) → AreBelow top (bs ++ b ∷ [])
  still_below top short so_far b e =
      All-push (λ (c : Batch). c.at + length c.payload ≤ top) bs b so_far (omega (arith, (is_whole gate here b e).at, fits b e, short, place))

  pub one_more : (b : Batch) → first_batch gate here ≡ Ok (Some b) → IsReadTo start bytes (bs ++ b ∷ []) (gate + 5 + length b.payload)
  one_more b e n count =
      let next : ℕ = gate + 5 + length b.payload in
      let more : suc n + length bs ≡ length bytes = omega (arith, count, length-append bs (b ∷ [])) in
      let past : gate - start + 5 + length b.payload ≡ next - start = omega (arith, place) in
      let rest : behind b here ≡ drop (next - start) bytes = ap (drop (length b.payload)) (drop-drop 5 (gate - start) bytes) ∙ drop-drop (length b.payload) (gate - start + 5) bytes ∙ ap (λ k. drop k bytes) past in
      with_all-push bs b (batches_from n next (drop (next - start) bytes))
      ∙ ap (λ (l : List ℕ). with_all bs (with_batch b (batches_from n next l))) (sym rest)
      ∙ ap (λ (r : Result (Option Batch) ℕ). with_all bs (followed n gate here r)) (sym e)
      ∙ ap (with_all bs) (sym (step n gate here))
      ∙ read (suc n) more

-- a gate that is there
pub gate_there : (gate : ℕ) (bytes : List ℕ) (found : Option Batch) → first_batch gate bytes ≡ Ok found → 0 < length bytes
gate_there gate [] found e = cc
gate_there gate (byte ∷ rest) found e = omega arith

-- no batch is read yet
pub at_first : (gate : ℕ) (bytes : List ℕ) → IsReadTo gate bytes [] gate
at_first gate bytes n count =
    let none : gate - gate ≡ 0 = omega arith in
    let all : n ≡ length bytes = omega (arith, count) in
    all_of (batches_from n gate (drop (gate - gate) bytes)) ∙ ap (λ k. batches_from n gate (drop k bytes)) none ∙ ap (λ k. batches_from k gate bytes) all
  where
    all_of : (r : Result (List Batch) ℕ) → with_all [] r ≡ r
    all_of (Ok bs) = refl
    all_of (Err place) = refl

pub none_below : (top : ℕ) → AreBelow top []
none_below top k d le = absurd (omega (arith, le))
