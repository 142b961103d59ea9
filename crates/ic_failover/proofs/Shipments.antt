-- What a shipment of the standby's records comes to, by what the standby says.
use Rattle.std.proofs.Common.{◌≡◌, ◌∙◌, refl, ap, sym, subst, ℕ, ◌<◌, arith, nat_eq, Bool, false, true≢false, List, [], ◌∷◌, length, drop, Some, None}
use Rattle.std.specs.Prelude.{filter_map}
use Rattle.ic_base.specs.declared.messages.ComId.{ComId}
use Rattle.ic_base.specs.declared.messages.Msg.{Msg}
use Rattle.ic_base.specs.declared.record.Record.{Record}
use Rattle.ic_base.specs.declared.scenario.Program.{Program}
use Rattle.def_facts.specs.Logs.{message_in}
use Rattle.def_failover.specs.Orders.{Side, holds_of, turn}
use Rattle.def_failover.specs.declared.note.Note.TheVariants as notes
use Rattle.def_rounds.specs.Rounds.{Answers}
use Rattle.def_run.specs.CoreSteps.{forced_of}
use Rattle.def_standby.specs.Standbys.{Standby, Arises, contents_among, contents_to, play_all, shipping, shipped_to}
use Rattle.def_standby.specs.declared.orders.Order.TheVariants.{Ship}
use Rattle.def_standby.specs.declared.shipped.Shipped.{Shipped}
use Rattle.def_standby.specs.declared.shipped.Shipped.TheVariants.{Applied}
use Rattle.def_state.specs.Hist.{Contents}
use Rattle.def_step.specs.Settle.{is_down, replays}
use Rattle.def_step.specs.World.{World, node_at}
use Rattle.ic_failover.proofs.Shipped.{all_applied, all_bad, arises_more, misfit_stops, unapplied_stops, made-of}
use Rattle.ic_failover.specs.Shipping.{IsAnswered}
use Rattle.ic_replay.specs.declared.refusals.ReplayRefused.{ReplayRefused}
use Rattle.ic_replay.specs.declared.refusals.ReplayRefused.TheVariants.{Misfit}
use Rattle.ic_standby.specs.Shipping.{Ships, LeavesStandby, FailsToShip}
use Rattle.law_replay.proofs.Lists.{mapped}

pub none_from : {A : Type 0} (l : List A) → length l ≡ 0 → l ≡ []
none_from [] e = refl
none_from (x ∷ l) e = absurd (omega (arith, e))

pub some_from : {A : Type 0} (l : List A) (b : Bool) → b ≡ nat_eq (length l) 0 → b ≡ false → 0 < length l
some_from [] b e f = absurd (true≢false (sym e ∙ f))
some_from (x ∷ l) b e f = omega arith

module _ (program : Program) (c : ComId) (w : World) (s : Standby) (up : holds_of is_down (node_at w c) ≡ false) (goes_on : holds_of replays (node_at w c) ≡ false) (l : List Record) (are : l ≡ drop s.have (forced_of (node_at w c))) (some : 0 < length l)
    (which : ComId) (is : which ≡ c) (msgs : List Msg) (brought : msgs ≡ filter_map message_in w.packets) (first : ℕ) (behind : first ≡ s.have) where
  -- with the contents that the packets bring
  by-contents : (P : Contents → ℕ → Type 0) → P (contents_among which msgs) first → P (contents_to c w.packets) s.have
  by-contents P p = subst (λ n. P (contents_to c w.packets) n) behind (subst (λ (ms : List Msg). P (contents_among c ms) first) brought (subst (λ (d : ComId). P (contents_among d msgs) first) is p))

  module _ (answer : Shipped) (t : Standby) (ships : Ships program which (contents_among which msgs) s first l answer t) where
    played : answer ≡ Applied → shipped_to program c (contents_to c w.packets) s l ≡ Some t
    played so =
        let P : Shipped → Type 0 = λ a. LeavesStandby program which (contents_among which msgs) s l a t in
        by-contents (λ k n. shipped_to program c k s l ≡ Some t) (subst (λ (d : ComId). shipped_to program d (contents_among which msgs) s l ≡ Some t) is (subst P so ships.leaves))

    pub applied_by : answer ≡ Applied → IsAnswered program c w Ship (record { side = Some s; shipped = s.have }) (notes.Applied t.have) (record { side = Some t; shipped = t.have })
    applied_by so = all_applied program c w s up goes_on l t are some (played so)

    pub arises_by : answer ≡ Applied → Arises program c s.state → Arises program c t.state
    arises_by so a =
        let v = mapped (made-of s.have l) (play_all program c (contents_to c w.packets) s.state l) t (played so) in
        arises_more program c (contents_to c w.packets) s.state t.state l a (v.1 ∙ ap Some (ap (λ (z : Standby). z.state) v.2))

    pub other_by : (answer ≡ Applied → ⊥) → (behind : Side) × (turn program c w (Some s) Ship ≡ Answers notes.Bad behind)
    other_by other =
        let told = by-contents (λ k n. answer ≡ shipping k s n l) ships.answers in
        all_bad program c w s up goes_on l are some (unapplied_stops program c (contents_to c w.packets) s l answer told other)

  pub misfit_by : (why : ReplayRefused) (i : ℕ) → why ≡ Misfit i → FailsToShip program which (contents_among which msgs) s first l why → (behind : Side) × (turn program c w (Some s) Ship ≡ Answers notes.Bad behind)
  misfit_by why i so fails =
      let f = subst (λ (e : ReplayRefused). FailsToShip program which (contents_among which msgs) s first l e) so fails in
      let stops = by-contents (λ k n. play_all program c k s.state l ≡ None) (subst (λ (d : ComId). play_all program d (contents_among which msgs) s.state l ≡ None) is f.1) in
      all_bad program c w s up goes_on l are some (misfit_stops program c (contents_to c w.packets) s l stops)
