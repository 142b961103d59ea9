-- The place in the file of the misfit that a replay meets when it is fed.
use Rattle.std.proofs.Common.{◌≡◌, ◌∙◌, refl, ap, ℕ, ◌+◌, ◌-◌, ◌<◌, Bool, true, false, cond, List, length, length-append, get_or, arith, Option, Some, None, option_map}
use Rattle.std.specs.Prelude.{◌&&◌, slice_get}
use Rattle.std.proofs.lemmas.Option.{get_or_from_slice_get}
use Rattle.std.proofs.lemmas.List.{length-map}
use Rattle.ic_base.specs.declared.messages.ComId.{ComId}
use Rattle.ic_base.specs.declared.messages.Msg.{Msg}
use Rattle.ic_base.specs.declared.messages.Packet.TheVariants.{Data}
use Rattle.ic_base.specs.declared.scenario.Program.{Program}
use Rattle.def_log.specs.Log.{Placed}
use Rattle.ic_gate.specs.RecordFiles.{placed_from}
use Rattle.def_run.specs.Refusals.{place_of}
use Rattle.def_step.specs.Packets.{fits_pcom}
use Rattle.def_step.specs.Pcom.{Pcom, is_needed, all_of}
use Rattle.def_step.specs.Replay.{misfit_fed}
use Rattle.ic_pcom.proofs.Places.{place_of-places}
use Rattle.ic_replay.specs.Playing.{counted_from}
use Rattle.ic_pcom.specs.Logs.{placed_or_none, places_read}
use Rattle.ic_pcom.specs.Stepping.{fed_place}

if_both : (b : Bool) (x : Option ℕ) → b ≡ true → cond b x None ≡ x
if_both true x is = refl
if_both false x is = cc

counted_place : (rs : List Placed) (len rest before n : ℕ) (mf : Option ℕ) → len - rest ≡ before → counted_from before mf ≡ Some n → option_map (λ i. place_of rs (len - rest + i)) mf ≡ Some (place_of rs n)
counted_place rs len rest before n None is counted = cc
counted_place rs len rest before n (Some j) is counted =
    let there : before + j ≡ n = cc in
    let same : len - rest + j ≡ n = omega (arith, is, there) in
    ap (λ i. Some (place_of rs i)) same

-- the misfit that is met as the message is fed is told by the place of its record
pub fed_at : (program : Program) (c : ComId) (start : ℕ) (file : List ℕ) (q : Pcom) (m : Msg) (places : List ℕ) (before n place : ℕ)
    → (fits_pcom program c (Data m) && is_needed q.rest m) ≡ true
    → places_read (placed_from start file) ≡ places → length places ≡ length q.log.forced
    → length q.log.buffered ≡ 0 → before + length q.rest ≡ length q.log.forced
    → counted_from before (misfit_fed program c q.vol m q.rest) ≡ Some n → n < before + length q.rest
    → slice_get places n ≡ Some place
    → fed_place program c start file q (Data m) ≡ Some place
fed_at program c start file q m places before n place both read many none behind counted within at =
    let rs = placed_or_none (placed_from start file) in
    let len : length (all_of q.log) - length q.rest ≡ before = omega (arith, length-append q.log.forced q.log.buffered, none, behind) in
    let short : n < length rs = omega (arith, within, behind, many, ap length read, length-map rs (λ (r : Placed). r.0)) in
    if_both (fits_pcom program c (Data m) && is_needed q.rest m) _ both
    ∙ counted_place rs (length (all_of q.log)) (length q.rest) before n (misfit_fed program c q.vol m q.rest) len counted
    ∙ ap Some (place_of-places rs n place short ∙ ap (λ (l : List ℕ). get_or l n place) read ∙ get_or_from_slice_get places n place place at)
