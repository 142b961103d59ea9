-- What a shipment of all that is forced comes to.
use Rattle.std.proofs.Common.{◌≡◌, ◌∙◌, refl, ap, sym, ℕ, zero, suc, ◌+◌, ◌<◌, min, false, cond, List, [], ◌∷◌, ◌++◌, length, drop, Option, Some, None, arith}
use Rattle.std.specs.Prelude.{option_map, option_and_then, is_some}
use Rattle.std.proofs.lemmas.Bool.{le-ltb}
use Rattle.ic_base.specs.declared.messages.ComId.{ComId}
use Rattle.ic_base.specs.declared.record.Record.{Record}
use Rattle.ic_base.specs.declared.scenario.Program.{Program}
use Rattle.def_failover.specs.Orders.{Side, holds_of, applied, shipped, turn}
use Rattle.def_failover.specs.declared.note.Note.TheVariants as notes
use Rattle.def_rounds.specs.Rounds.{Answers}
use Rattle.def_run.specs.CoreSteps.{forced_of}
use Rattle.def_standby.specs.Standbys.{Standby, Arises, ships_all, first_missing, missing_as, shipping, shipped_to, play_all, contents_to}
use Rattle.def_standby.specs.declared.orders.Order.TheVariants.{Ship}
use Rattle.def_standby.specs.declared.shipped.Shipped.{Shipped}
use Rattle.def_standby.specs.declared.shipped.Shipped.TheVariants.{Applied, Early, Again}
use Rattle.def_state.specs.Hist.{Contents}
use Rattle.def_state.specs.Names.{Identity}
use Rattle.def_state.specs.Vol.{Vol, first_vol}
use Rattle.def_step.specs.Settle.{is_down, replays}
use Rattle.def_step.specs.World.{World, node_at}
use Rattle.ic_failover.proofs.Answering.{is_shipped, missing_stops}
use Rattle.ic_failover.specs.Shipping.{IsAnswered}
use Rattle.ic_failover.specs.Sides.{Beside}
use Rattle.law_replay.proofs.Lists.{mapped}

-- what stands behind a place, or nothing where it is past the end
drop-none : {A : Type 0} (n : ℕ) → drop {A = A} n [] ≡ []
drop-none zero = refl
drop-none (suc n) = refl

pub drop_min : {A : Type 0} (xs : List A) (n : ℕ) → drop (min (length xs) n) xs ≡ drop n xs
drop_min [] n = drop-none (min 0 n) ∙ sym (drop-none n)
drop_min (x ∷ xs) zero =
    let same : min (length (x ∷ xs)) 0 ≡ 0 = omega arith in
    ap (λ k. drop k (x ∷ xs)) same
drop_min (x ∷ xs) (suc n) =
    let same : min (length (x ∷ xs)) (suc n) ≡ suc (min (length xs) n) = omega arith in
    ap (λ k. drop k (x ∷ xs)) same ∙ drop_min xs n

-- a state that shipments made, and one more
ships-more : (program : Program) (c : ComId) (contents : Contents) (v w : Vol) (rs : List Record) → play_all program c contents v rs ≡ Some w → (u : Vol) (ss : List (Contents × List Record)) → ships_all program c u ss ≡ Some v → ships_all program c u (ss ++ (contents, rs) ∷ []) ≡ Some w
ships-more program c contents v w rs e u [] f =
    let same : u ≡ v = cc f in
    ap (λ z. option_and_then (λ y. Some y) (play_all program c contents z rs)) same ∙ ap (option_and_then (λ y. Some y)) e
ships-more program c contents v w rs e u (s ∷ ss) f = at (play_all program c s.0 u s.1) f (λ y g. ships-more program c contents v w rs e y ss g)
  where
    at : (o : Option Vol) → option_and_then (λ y. ships_all program c y ss) o ≡ Some v → ((y : Vol) → ships_all program c y ss ≡ Some v → ships_all program c y (ss ++ (contents, rs) ∷ []) ≡ Some w) → option_and_then (λ y. ships_all program c y (ss ++ (contents, rs) ∷ [])) o ≡ Some w
    at None g h = absurd (cc g)
    at (Some y) g h = h y g

pub arises_more : (program : Program) (c : ComId) (contents : Contents) (v w : Vol) (rs : List Record) → Arises program c v → play_all program c contents v rs ≡ Some w → Arises program c w
arises_more program c contents v w rs a e = record { shipments = a.shipments ++ (contents, rs) ∷ []; made = ships-more program c contents v w rs e (first_vol program c) a.shipments a.made }

-- a shipment that isn't played doesn't play
module _ (program : Program) (c : ComId) (contents : Contents) (s : Standby) (records : List Record) where
  none-stops : play_all program c contents s.state records ≡ None → shipped_to program c contents s records ≡ None
  none-stops e = ap (option_map (λ v. record { state = v; have = s.have + length records })) e

  pub misfit_stops : play_all program c contents s.state records ≡ None → shipped_to program c contents s records ≡ None
  misfit_stops e = none-stops e

  pub unapplied_stops : (answer : Shipped) → answer ≡ shipping contents s s.have records → (answer ≡ Applied → ⊥) → shipped_to program c contents s records ≡ None
  unapplied_stops answer is other = by (first_missing contents records) refl
    where
      same : shipping contents s s.have records ≡ missing_as (first_missing contents records)
      same = ap (λ b. cond b (Early s.have) (cond b (Again s.have) (missing_as (first_missing contents records)))) (le-ltb s.have s.have (omega arith))

      by : (o : Option Identity) → first_missing contents records ≡ o → shipped_to program c contents s records ≡ None
      by None e = absurd (other (is ∙ same ∙ ap missing_as e))
      by (Some x) e = none-stops (missing_stops program c contents s.state records (ap is_some e))

abbrev pub made-of : ℕ → List Record → Vol → Standby
made-of have rs v = record { state = v; have = have + length rs }

module _ (program : Program) (c : ComId) (w : World) (s : Standby) (up : holds_of is_down (node_at w c) ≡ false) (goes_on : holds_of replays (node_at w c) ≡ false) where
  abbrev with-standby : Standby → Beside
  with-standby t = record { side = Some t; shipped = t.have }

  turn-is : turn program c w (Some s) Ship ≡ shipped program c w (drop s.have (forced_of (node_at w c))) s
  turn-is = is_shipped program c w (with-standby s) up goes_on

  pub all_empty : (l : List Record) → l ≡ drop s.have (forced_of (node_at w c)) → l ≡ [] → IsAnswered program c w Ship (record { side = Some s; shipped = s.have }) notes.Empty (record { side = Some s; shipped = s.have })
  all_empty l is none = record { turn_is = turn-is ∙ ap (λ z. shipped program c w z s) (sym is ∙ none); plays = λ k. cc k; shipped = omega arith }

  cases : (l : List Record) (o : Option Standby) → 0 < length l → shipped_to program c (contents_to c w.packets) s l ≡ o → shipped program c w l s ≡ applied program c s o
  cases [] o some e = absurd (omega (arith, some))
  cases (r ∷ rs) o some e = ap (applied program c s) e

  pub all_applied : (l : List Record) (t : Standby) → l ≡ drop s.have (forced_of (node_at w c)) → 0 < length l → shipped_to program c (contents_to c w.packets) s l ≡ Some t → IsAnswered program c w Ship (record { side = Some s; shipped = s.have }) (notes.Applied t.have) (record { side = Some t; shipped = t.have })
  all_applied l t is some e =
      let v = mapped (made-of s.have l) (play_all program c (contents_to c w.packets) s.state l) t e in
      record {
        turn_is = turn-is ∙ ap (λ z. shipped program c w z s) (sym is) ∙ cases l (Some t) some e;
        plays = λ k. cc k;
        shipped = omega (arith, ap (λ (z : Standby). z.have) v.2);
      }

  pub all_bad : (l : List Record) → l ≡ drop s.have (forced_of (node_at w c)) → 0 < length l → shipped_to program c (contents_to c w.packets) s l ≡ None → (behind : Side) × (turn program c w (Some s) Ship ≡ Answers notes.Bad behind)
  all_bad l is some e = (Some s, turn-is ∙ ap (λ z. shipped program c w z s) (sym is) ∙ cases l None some e)
