-- What comes of a shipment, by its answer.
use Rattle.std.proofs.Common.{◌≡◌, ◌∙◌, refl, sym, ap, ℕ, ◌+◌, ◌<◌, ◌≤◌, true, cond, List, length, Option, Some, None, arith}
use Rattle.std.specs.Prelude.{nat_lt, option_map}
use Rattle.std.proofs.lemmas.Bool.{lt-ltb, le-ltb}
use Rattle.ic_base.specs.declared.messages.ComId.{ComId}
use Rattle.ic_base.specs.declared.record.Record.{Record}
use Rattle.ic_base.specs.declared.scenario.Program.{Program}
use Rattle.def_standby.specs.Standbys.{Standby, stops_at, missing_as, first_missing, shipping}
use Rattle.def_standby.specs.declared.shipped.Shipped.TheVariants.{Applied, Early, Again, Missing}
use Rattle.def_state.specs.Hist.{Contents}
use Rattle.def_state.specs.Vol.{Vol, first_vol, numbers_fit}
use Rattle.ic_standby.specs.Onward.{PlaysThrough, StopsShort}
use Rattle.ic_replay.specs.Playing.{counted_from}
use Rattle.ic_replay.specs.Replaying.{identity_of}
use Rattle.ic_replay.specs.declared.refusals.ReplayRefused.{ReplayRefused}
use Rattle.ic_replay.specs.declared.refusals.ReplayRefused.TheVariants.{Misfit, Memory}
use Rattle.ic_standby.specs.Shipping.{Ships, FailsToShip}

pub first_fits : (program : Program) (c : ComId) (v : Vol) → v ≡ first_vol program c → numbers_fit v ≡ true
first_fits program c v is = ap numbers_fit is

module _ (program : Program) (c : ComId) (contents : Contents) (s : Standby) (first : ℕ) (records : List Record) where
  pub ships_early : s.have < first → Ships program c contents s first records (Early s.have) s
  ships_early less = record {
    answers = sym (ap (λ b. cond b (Early s.have) (cond (nat_lt first s.have) (Again s.have) (missing_as (first_missing contents records)))) (lt-ltb s.have first less));
    leaves = refl;
  }

  past : first ≤ s.have → shipping contents s first records ≡ cond (nat_lt first s.have) (Again s.have) (missing_as (first_missing contents records))
  past more = ap (λ b. cond b (Early s.have) (cond (nat_lt first s.have) (Again s.have) (missing_as (first_missing contents records)))) (le-ltb s.have first more)

  pub ships_again : first < s.have → Ships program c contents s first records (Again s.have) s
  ships_again less =
      let more : first ≤ s.have = omega (arith, less) in
      record {
        answers = sym (past more ∙ ap (λ b. cond b (Again s.have) (missing_as (first_missing contents records))) (lt-ltb first s.have less));
        leaves = refl;
      }

  looked : first ≤ s.have → s.have ≤ first → shipping contents s first records ≡ missing_as (first_missing contents records)
  looked more less = past more ∙ ap (λ b. cond b (Again s.have) (missing_as (first_missing contents records))) (le-ltb first s.have less)

  pub ships_missing : (x : ComId × ℕ) → first ≤ s.have → s.have ≤ first → option_map identity_of (Some x) ≡ first_missing contents records → Ships program c contents s first records (Missing x.0 x.1) s
  ships_missing x more less is = record { answers = sym (looked more less ∙ ap missing_as (sym is)); leaves = refl }

  pub ships_applied : (v : Vol) (have : ℕ) → first ≤ s.have → s.have ≤ first → None ≡ first_missing contents records → PlaysThrough program c contents s.state 0 records v → have ≡ s.have + length records → Ships program c contents s first records Applied (record { state = v; have = have })
  ships_applied v have more less is plays counts = record {
    answers = sym (looked more less ∙ ap missing_as (sym is));
    leaves = ap (λ (o : Option Vol). option_map (λ w. record { state = w; have = s.have + length records }) o) plays.playing ∙ ap (λ (n : ℕ). Some (made v n)) (sym counts);
  }
    where
      made : Vol → ℕ → Standby
      made w n = record { state = w; have = n }

  counted-none : (o : Option ℕ) → counted_from 0 o ≡ o
  counted-none None = refl
  counted-none (Some i) = ap (λ (n : ℕ). Some n) (omega arith)

  pub fails_to_ship : (why : ReplayRefused) → first ≤ s.have → s.have ≤ first → None ≡ first_missing contents records → StopsShort program c contents s.state 0 records why → FailsToShip program c contents s first records why
  fails_to_ship (Misfit i) more less is stops = (looked more less ∙ ap missing_as (sym is), stops.0, sym (counted-none (stops_at program c contents s.state records)) ∙ stops.1, stops.2)
  fails_to_ship Memory more less is stops = tt
