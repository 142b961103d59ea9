-- Where a recovery is refused for what the file holds, the definitions refuse it too.
use Rattle.std.proofs.Common.{◌≡◌, ◌∙◌, ◌⊎◌, inl, inr, refl, sym, ap, ℕ, ◌+◌, Bool, true, false, cond, List, [], ◌∷◌, ◌++◌, length, length-append, Option, Some, None, option_map, arith}
use Rattle.std.specs.Prelude.{Result, Ok, Err, unwrap_or}
use Rattle.ic_base.specs.declared.limits.TheConstants.{LOG_BYTES}
use Rattle.ic_base.specs.declared.messages.ComId.{ComId}
use Rattle.ic_base.specs.declared.record.Batch.{Batch}
use Rattle.ic_base.specs.declared.record.Record.{Record}
use Rattle.ic_base.specs.declared.refusals.WorldRefused.{WorldRefused}
use Rattle.ic_base.specs.declared.refusals.WorldRefused.TheVariants as refused
use Rattle.ic_base.specs.declared.scenario.Program.{Program}
use Rattle.ic_base.specs.Programs.{is_a_tcom}
use Rattle.def_log.specs.Directory.{slots_in}
use Rattle.def_log.specs.Frame.{owner_in}
use Rattle.def_log.specs.Loads.{Load, Holds, Foreign, Bad, framed, frame_for, placed_log_for, placed_tail_for}
use Rattle.def_log.specs.Log.{Placed, placed_with, log_of, records_in, ◌>>=◌}
use Rattle.def_log.specs.Sizes.{size_in}
use Rattle.def_log.specs.Tail.{tail_gate}
use Rattle.def_run.specs.Executions.{first_of}
use Rattle.def_run.specs.Refusals.{bad_at, tcom_refusal, pcom_refusal, epoch_refusal, misfit_refusal, records_refusal, recovery_refusal, place_of}
use Rattle.def_step.specs.Replay.{misfit_of, has_image}
use Rattle.def_step.specs.Tcom.{Book, book_of, book_misfit, lacks_epoch}
use Rattle.ic_gate.specs.Refusals.{IsNotForeign}
use Rattle.law_tail.proofs.Tails.{misfit-same}
use Rattle.ic_gate.proofs.Headers.{tail_starts}
use Rattle.ic_gate.proofs.LoadAnswers.{own_load, frame_alone}
use Rattle.ic_pcom.specs.Recovering.{misfit_place, bad_place}
use Rattle.ic_tcom.specs.Recovering as tcom_recovery
use Rattle.ic_tcom.specs.Recovering.{or_else, epoch_place, place_in}
use Rattle.ic_node.proofs.Fronts.{IsFront, IsTailRead, front_placed, tail_placed, tail_for, whole_for, place_behind, records_split, records_long}
use Rattle.ic_node.proofs.Tails.{same_read}

-- a recovery is refused by what its load answers
abbrev refuse : Program → ComId → List ℕ → Load → Option WorldRefused
refuse program c file l = elim l [ Holds batches ↦ records_refusal program c file | Foreign kept ↦ Some (refused.Foreign c kept) | Bad place ↦ Some (refused.Bad c place) ]

-- the records of a component's file that isn't foreign decide its recovery
by_records : (program : Program) (given : List ℕ) (c : ComId) (file : List ℕ) → IsNotForeign given file
    → recovery_refusal program given c file ≡ elim (placed_log_for c.0 file) [ Ok records ↦ misfit_refusal program c file records | Err at ↦ Some (refused.Bad c at) ]
by_records program given c file not_foreign = ap (refuse program c file) (own_load given c.0 file not_foreign) ∙ at (frame_for c.0 file) refl
  where
    decide : Result (List Placed) ℕ → Option WorldRefused
    decide r = elim r [ Ok records ↦ misfit_refusal program c file records | Err at ↦ Some (refused.Bad c at) ]

    at : (r : Result (List Batch) ℕ) → frame_for c.0 file ≡ r → refuse program c file (framed r) ≡ decide (r >>= λ bs. placed_with (slots_in file) bs)
    at (Err p) f = refl
    at (Ok bs) f = ap (λ (r : Result (List Batch) ℕ). decide (r >>= λ bs. placed_with (slots_in file) bs)) (frame_alone c.0 file bs f)

at_place : (c : ComId) (rs : List Placed) (o : Option ℕ) (place : ℕ) → option_map (place_of rs) o ≡ Some place → option_map (bad_at c rs) o ≡ Some (refused.Bad c place)
at_place c rs None place e = cc
at_place c rs (Some i) place e = let same : place_of rs i ≡ place = cc in ap (λ n. Some (refused.Bad c n)) same

-- the first misfit of a log is that of its tail
misfit_whole : (program : Program) (c : ComId) (front own : List Placed) → (length front ≡ 0) ⊎ (has_image (records_in own) ≡ true) → misfit_of program c (records_in (front ++ own)) ≡ option_map (λ i. length front + i) (misfit_of program c (records_in own))
misfit_whole program c front own (inr image) =
    ap (misfit_of program c) (records_split front own) ∙ misfit-same program c (records_in front) (records_in own) image ∙ ap (λ n. option_map (λ i. n + i) (misfit_of program c (records_in own))) (records_long front)
misfit_whole program c [] own (inl none) = by (misfit_of program c (records_in own))
  where
    by : (o : Option ℕ) → o ≡ option_map (λ i. 0 + i) o
    by None = refl
    by (Some i) = ap (λ (n : ℕ). Some n) (omega arith)
misfit_whole program c (p ∷ front) own (inl none) = absurd (omega (arith, none))

-- and stands at the same place
misfit_there : (c : ComId) (front own : List Placed) (o : Option ℕ) (place : ℕ) → option_map (place_of own) o ≡ Some place → option_map (place_of (front ++ own)) (option_map (λ i. length front + i) o) ≡ Some place
misfit_there c front own None place e = cc
misfit_there c front own (Some i) place e = let same : place_of own i ≡ place = cc in ap (λ n. Some n) (place_behind front own i ∙ same)

-- a Pcom is refused at the place of its misfit, which its tail tells
pub pcom_refused : (program : Program) (given : List ℕ) (c : ComId) (file : List ℕ) (place : ℕ) (rs : List Record) → is_a_tcom program c ≡ false → log_of file ≡ Ok rs → owner_in file ≡ c.0 → IsNotForeign given file → bad_place program c file ≡ Some place
    → recovery_refusal program given c file ≡ Some (refused.Bad c place)
pcom_refused program given c file place rs pcom reads own not_foreign bad =
    by_records program given c file not_foreign
    ∙ ap (λ (r : Result (List Placed) ℕ). elim r [ Ok records ↦ misfit_refusal program c file records | Err at ↦ Some (refused.Bad c at) ]) (whole_for c.0 file own ∙ front.whole)
    ∙ ap (λ t. cond t (tcom_refusal program c (unwrap_or (size_in file) 0) (front.front ++ front.own)) (option_map (bad_at c (front.front ++ front.own)) (misfit_of program c (records_in (front.front ++ front.own))))) pcom
    ∙ at_place c (front.front ++ front.own) (misfit_of program c (records_in (front.front ++ front.own))) place
    (ap (option_map (place_of (front.front ++ front.own))) (misfit_whole program c front.front front.own begins) ∙ misfit_there c front.front front.own (misfit_of program c (records_in front.own)) place (ap (misfit_place program c) (sym there) ∙ bad))
  where
    tail : IsTailRead file rs
    tail = tail_placed file rs reads

    front : IsFront (tail_gate file) file
    front = front_placed (tail_gate file) file rs reads (tail_starts (slots_in file))

    same : front.own ≡ tail.own
    same = let both : ◌≡◌ {A = Result (List Placed) ℕ} (Ok front.own) (Ok tail.own) = sym front.walk ∙ tail.walk in cc

    there : placed_tail_for c.0 file ≡ Ok front.own
    there = tail_for c.0 file own ∙ tail.tail ∙ ap (λ (l : List Placed). Ok l) (sym same)

    all : rs ≡ records_in front.front ++ records_in front.own
    all = same_read _ _ (sym reads ∙ ap (λ (r : Result (List Placed) ℕ). r >>= λ ps. Ok (records_in ps)) front.whole) ∙ records_split front.front front.own

    none_before : tail.earlier ≡ [] → length front.front ≡ 0
    none_before none =
        omega (
          arith,
          records_long front.front,
          ap length all,
          ap length tail.all,
          ap length none,
          length-append tail.earlier (records_in tail.own),
          length-append (records_in front.front) (records_in front.own),
          ap (λ (l : List Placed). length (records_in l)) same,
        )

    begins : (length front.front ≡ 0) ⊎ (has_image (records_in front.own) ≡ true)
    begins = elim tail.begins [ inl none ↦ inl (none_before none) | inr image ↦ inr (ap (λ (l : List Placed). has_image (records_in l)) same ∙ image) ]

-- a Tcom at that of its misfit, or where its next epoch would stand for which there is no room
at_epoch : (c : ComId) (size : ℕ) (rs : List Placed) (misfit : Option ℕ) (o : Option Book) (place : ℕ) → or_else (option_map (place_of rs) misfit) (epoch_place size o) ≡ Some place → first_of (option_map (bad_at c rs) misfit) (epoch_refusal c size o) ≡ Some (refused.Bad c place)
at_epoch c size rs (Some i) o place e = let same : place_of rs i ≡ place = cc in ap (λ n. Some (refused.Bad c n)) same
at_epoch c size rs None None place e = absurd (cc)
at_epoch c size rs None (Some b) place e = by (lacks_epoch size b) e
  where
    by : (t : Bool) → cond t (Some LOG_BYTES) None ≡ Some place → cond t (Some (refused.Bad c LOG_BYTES)) None ≡ Some (refused.Bad c place)
    by true is = let same : LOG_BYTES ≡ place = cc in ap (λ n. Some (refused.Bad c n)) same
    by false is = absurd (cc)

pub tcom_refused : (program : Program) (given : List ℕ) (c : ComId) (file : List ℕ) (place : ℕ) → is_a_tcom program c ≡ true → IsNotForeign given file → tcom_recovery.bad_place program c file ≡ Some place
    → recovery_refusal program given c file ≡ Some (refused.Bad c place)
tcom_refused program given c file place tcom not_foreign bad = by_records program given c file not_foreign ∙ by (placed_log_for c.0 file) bad
  where
    by : (r : Result (List Placed) ℕ) → place_in program c (unwrap_or (size_in file) 0) r ≡ Some place → elim r [ Ok records ↦ misfit_refusal program c file records | Err at ↦ Some (refused.Bad c at) ] ≡ Some (refused.Bad c place)
    by (Ok rs) e =
        ap (λ t. cond t (tcom_refusal program c (unwrap_or (size_in file) 0) rs) (pcom_refusal program c rs)) tcom
        ∙ at_epoch c (unwrap_or (size_in file) 0) rs (book_misfit program c (records_in rs)) (book_of program c (records_in rs)) place e
    by (Err at) e = let same : at ≡ place = cc in ap (λ n. Some (refused.Bad c n)) same
