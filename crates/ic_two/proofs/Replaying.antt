-- The records of a chief's log that are still to be taken in.
use Rattle.std.proofs.Common.{◌≡◌, ◌∙◌, ap, sym, arith, ℕ, ◌+◌, ◌<◌, zero, suc, List, [], ◌∷◌, length, drop, get_or, drop-cons, add-one, cond, ◌&&◌, true, Some}
use Rattle.std.specs.List.{AllByRecursion}
use Rattle.def_two.specs.declared.moves.Record2.{Record2}
use Rattle.def_two.specs.declared.moves.Record2.TheVariants.{Begun, Verdict, Ready, Ended}
use Rattle.def_two.specs.declared.moves.Ruling.{Ruling}
use Rattle.def_two.specs.declared.moves.Ruling.TheVariants.{Yes, No}
use Rattle.def_two.specs.declared.moves.Cause2.TheVariants.{Short, Over}
use Rattle.def_two.specs.declared.moves.Move.{Move}
use Rattle.def_two.specs.declared.states.Docket.{Docket}
use Rattle.def_two.specs.Moves.{Openings}
use Rattle.def_two.specs.Chief.{docket_fits, docketed, docket_after, dockets_fit}
use Rattle.def_two.specs.Records.{Fits2, MoveFits, RulingFits, IsCounted2, IsCountedMove, IsCountedRuling}
use Rattle.def_two.specs.Logs.{Placed2, records2_in}
use Rattle.def_two.specs.Refusals.{chief_misfit}
use Rattle.ic_two.specs.Reading.{PlacedFits2}

-- those from a place on are the one there and those behind it
one_on : (ps : List Placed2) (i : ℕ) (d : Placed2) → i < length ps → drop i ps ≡ get_or ps i d ∷ drop (i + 1) ps
one_on ps i d lt =
    let parts : drop i ps ≡ get_or ps i d ∷ drop (suc i) ps = drop-cons ps i d lt in
    parts ∙ ap (λ k. get_or ps i d ∷ drop k ps) (sym (add-one i))

-- what holds of all holds of one
fits_at : (ps : List Placed2) (i : ℕ) (d : Placed2) → i < length ps → AllByRecursion PlacedFits2 ps → Fits2 (get_or ps i d).1
fits_at [] i d lt all = absurd (omega (arith, lt))
fits_at (p ∷ ps) zero d lt all = all.0
fits_at (p ∷ ps) (suc i) d lt all = fits_at ps i d (omega (arith, lt)) all.1

-- a record with the fields of a log has no number past its limit
counted_move : (m : Move) → MoveFits m → IsCountedMove m
counted_move m fits = (fits.0, fits.1, fits.3)

counted_ruling : (r : Ruling) → RulingFits r → IsCountedRuling r
counted_ruling Yes fits = tt
counted_ruling (No b (Short value held)) fits = fits.0
counted_ruling (No b (Over value held)) fits = fits.0

counted : (r : Record2) → Fits2 r → IsCounted2 r
counted (Begun m) fits = counted_move m fits
counted (Verdict n r) fits = (fits.0, counted_ruling r fits.1)
counted (Ready m) fits = counted_move m fits
counted (Ended n agreed) fits = fits

-- the numbers of the record at a place
pub counted_at : (ps : List Placed2) (i : ℕ) (d : Placed2) → i < length ps → AllByRecursion PlacedFits2 ps → IsCounted2 (get_or ps i d).1
counted_at ps i d lt all = counted (get_or ps i d).1 (fits_at ps i d lt all)

-- the record at a place fits, and is taken in
module _ (books : Openings) (x mid now : Docket) (ps : List Placed2) (i : ℕ) (d : Placed2) (lt : i < length ps) (fits : docket_fits books x (get_or ps i d).1 ≡ true) (same : mid ≡ x) (then_on : now ≡ docketed mid (get_or ps i d).1) where
  next : now ≡ docketed x (get_or ps i d).1
  next = then_on ∙ ap (λ s. docketed s (get_or ps i d).1) same

  pub docket_on : docket_after now (records2_in (drop (i + 1) ps)) ≡ docket_after x (records2_in (drop i ps))
  docket_on = ap (λ s. docket_after s (records2_in (drop (i + 1) ps))) next ∙ ap (λ (l : List Placed2). docket_after x (records2_in l)) (sym (one_on ps i d lt))

  pub good_on : dockets_fit books now (records2_in (drop (i + 1) ps)) ≡ dockets_fit books x (records2_in (drop i ps))
  good_on =
      ap (λ s. dockets_fit books s (records2_in (drop (i + 1) ps))) next
      ∙ sym (ap (λ z. z && dockets_fit books (docketed x (get_or ps i d).1) (records2_in (drop (i + 1) ps))) fits)
      ∙ ap (λ (l : List Placed2). dockets_fit books x (records2_in l)) (sym (one_on ps i d lt))

  pub misfit_on : chief_misfit books now (drop (i + 1) ps) ≡ chief_misfit books x (drop i ps)
  misfit_on =
      ap (λ s. chief_misfit books s (drop (i + 1) ps)) next
      ∙ sym (ap (λ z. cond z (chief_misfit books (docketed x (get_or ps i d).1) (drop (i + 1) ps)) (Some (get_or ps i d).0)) fits)
      ∙ ap (chief_misfit books x) (sym (one_on ps i d lt))
