-- The place of a record among the places of all.
use Rattle.std.proofs.Common.{◌≡◌, ◌∙◌, refl, sym, ap, ℕ, zero, suc, ◌<◌, List, [], ◌∷◌, length, get_or, arith, Some, option_map}
use Rattle.std.proofs.lemmas.List.{length-map}
use Rattle.ic_base.specs.declared.messages.ComId.{ComId}
use Rattle.ic_base.specs.declared.record.Record.{Record}
use Rattle.ic_base.specs.declared.scenario.Program.{Program}
use Rattle.def_log.specs.Log.{Placed, records_in}
use Rattle.def_run.specs.Refusals.{place_of}
use Rattle.def_step.specs.Replay.{misfit_of}
use Rattle.ic_replay.specs.Replaying.{FailsToBegin}
use Rattle.ic_replay.specs.declared.refusals.ReplayRefused.{ReplayRefused}
use Rattle.ic_replay.specs.declared.refusals.ReplayRefused.TheVariants.{Misfit, Memory}
use Rattle.ic_pcom.specs.Places.{places_of}
use Rattle.ic_pcom.specs.Plays.{misfit_place}

pub place_of-places : (rs : List Placed) (i x : ℕ) → i < length rs → place_of rs i ≡ get_or (places_of rs) i x
place_of-places [] i x within = absurd (omega (arith, within))
place_of-places (r ∷ rs) zero x within = refl
place_of-places (r ∷ rs) (suc i) x within = place_of-places rs i x (omega (arith, within))

-- a misfit that a replay tells by its number, told by its place
pub misfit_told : (program : Program) (c : ComId) (rs : List Placed) (records : List Record) (places : List ℕ) (why : ReplayRefused) (i x : ℕ) → records ≡ records_in rs → places ≡ places_of rs → why ≡ Misfit i
    → FailsToBegin program c records why → misfit_place program c rs ≡ Some (get_or places i x)
misfit_told program c rs records places Memory i x alone stand is fails = absurd (cc)
misfit_told program c rs records places (Misfit j) i x alone stand is fails =
    let same : j ≡ i = cc in
    let within : i < length rs = omega (arith, same, fails.2, ap length alone, length-map rs (λ (r : Placed). r.1)) in
    ap (λ l. option_map (place_of rs) (misfit_of program c l)) (sym alone) ∙ ap (option_map (place_of rs)) fails.1
    ∙ ap (λ n. Some (place_of rs n)) same ∙ ap Some (place_of-places rs i x within ∙ ap (λ l. get_or l i x) (sym stand))
