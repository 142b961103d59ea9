-- A state that shipments made is such as a replay comes to.
use Rattle.std.proofs.Common.{◌≡◌, ◌∙◌, refl, ap, sym, subst, ℕ, ◌≤◌, Bool, true, false, cond, ◌⊎◌, inl, inr, List, [], ◌∷◌, arith, Some, None}
use Rattle.std.specs.Prelude.{◌&&◌, not}
use Rattle.std.proofs.lemmas.Bool.{cases_eq}
use Rattle.std.proofs.lemmas.Option.{same_Some, option_and_then_some}
use Rattle.ic_base.specs.declared.messages.ComId.{ComId}
use Rattle.ic_base.specs.declared.record.Record.{Record}
use Rattle.ic_base.specs.declared.scenario.Program.{Program}
use Rattle.def_facts.specs.Playable.{IsPlayable}
use Rattle.def_state.specs.Fits.{fits}
use Rattle.def_state.specs.Hist.{Contents}
use Rattle.def_state.specs.Vol.{Vol, first_vol, standing, numbers_fit, regenerated, with_put_mark}
use Rattle.def_step.specs.Pcom.{Pcom, log_end}
use Rattle.def_step.specs.World.{World, Node, Runs, node_at}
use Rattle.law_replay.proofs.Lists.{none-some}
use Rattle.law_settle.specs.Kept.{NamesKept, PutsToKept}
use Rattle.law_settle.specs.Represented.{HandFits, TablesFit, IsRepresented}
use Rattle.law_settle.proofs.Addresses.{fits_kept, record_keeps_names}
use Rattle.law_settle.proofs.Hands.{fits_follow, record_keeps_hand}
use Rattle.law_settle.proofs.Kept.{first-kept}
use Rattle.law_settle.proofs.Putting.{regenerated-names}
use Rattle.law_settle.proofs.Tables.{outbox_maps, record_keeps_tables, tables_weaken}
use Rattle.law_settle.proofs.Walks.{set-here}
use Rattle.law_sound.proofs.Stepping.{set-other}
use Rattle.def_standby.specs.Standbys.{content_of, is_missing, played_on, play_all, ships_all, Arises}
use Rattle.def_standby.specs.TakeOvers.{taken_over, world_over}
use Rattle.law_standby.specs.Represented.{TakeOversKeepRepresented}

-- what a replay keeps of a state
pub record StateFits (program : Program) (c : ComId) (v : Vol) : Type 0 where
  pub hand : HandFits program c v
  pub tables : TablesFit 0 v
  pub names : NamesKept program v

none-less : 0 ≤ 0
none-less = omega arith

first-fits : (program : Program) (c : ComId) → StateFits program c (first_vol program c)
first-fits program c = record {
  hand = refl;
  tables = record { held = tt; shelved = tt; receipts = tt; ended = none-less };
  names = first-kept program c;
}

-- records that are all played
pub all-fit : (program : Program) (c : ComId) (contents : Contents) (v : Vol) (rs : List Record) (w : Vol) → IsPlayable program → StateFits program c v → play_all program c contents v rs ≡ Some w → StateFits program c w
all-fit program c contents v [] w good x e = subst (StateFits program c) (same_Some v w e) x
all-fit program c contents v (r ∷ rs) w good x e =
    at (fits program c (standing program c v) r) refl (is_missing contents r) (numbers_fit now) e
    (λ ok f.
    let next = record_keeps_hand program c 0 (content_of contents r) v r good x.hand (fits_follow program c v r ok) in
    all-fit program c contents now rs w good (record {
      hand = next;
      tables = record_keeps_tables program c 0 0 (content_of contents r) v r none-less x.tables;
      names = record_keeps_names program c 0 (content_of contents r) v r good next (fits_kept program c (standing program c v) r ok) x.names;
    }) f)
  where
    now : Vol
    now = played_on program c contents v r

    at : (b : Bool) → fits program c (standing program c v) r ≡ b → (m n : Bool) → cond (b && not m && n) (play_all program c contents now rs) None ≡ Some w
        → (fits program c (standing program c v) r ≡ true → play_all program c contents now rs ≡ Some w → StateFits program c w) → StateFits program c w
    at false ok m n f more = none-some w f
    at true ok true n f more = none-some w f
    at true ok false false f more = none-some w f
    at true ok false true f more = more ok f

pub arisen-fit : (program : Program) (c : ComId) (v : Vol) → IsPlayable program → Arises program c v → StateFits program c v
arisen-fit program c v good a = by (first_vol program c) a.shipments (first-fits program c) a.made
  where
    by : (u : Vol) (ss : List (Contents × List Record)) → StateFits program c u → ships_all program c u ss ≡ Some v → StateFits program c v
    by u [] x e = subst (StateFits program c) (same_Some u v e) x
    by u (s ∷ ss) x e = option_and_then_some _ (play_all program c s.0 u s.1) v e (λ w is f. by w ss (all-fit program c s.0 u s.1 w good x is) f)

regenerated-tables : (n : ℕ) (v : Vol) → TablesFit n v → TablesFit n (regenerated v)
regenerated-tables n v x = record { held = outbox_maps n v.outbox with_put_mark (λ h. refl) (λ h. refl) x.held; shelved = x.shelved; receipts = x.receipts; ended = x.ended }

over-fits : (program : Program) (c : ComId) (log : List Record) (v : Vol) → StateFits program c v → IsRepresented program c (taken_over log v) × PutsToKept program (taken_over log v)
over-fits program c log v x =
    let n : ℕ = log_end (taken_over log v) in
    let low : 0 ≤ n = omega arith in (
      record { hand = x.hand; tables = regenerated-tables n v (tables_weaken 0 n v low x.tables); rest = tt; forced = λ e. refl },
      record { state = regenerated-names program v x.names; rest = tt },
    )

-- which component stands in a place of the world
set-or-not : (w : World) (c : ComId) (p : Pcom) (d : ComId) (q : Pcom) → node_at (world_over w c p) d ≡ Some (Runs q) → ((c ≡ d) × (p ≡ q)) ⊎ (node_at w d ≡ Some (Runs q))
set-or-not w c p d q e = by (cases_eq c.0 d.0)
  where
    runs : (a b : Pcom) → ◌≡◌ {A = Node} (Runs a) (Runs b) → a ≡ b
    runs a b same = cc

    by : (c.0 ≡ d.0) ⊎ (c.0 ≡ d.0 → ⊥) → ((c ≡ d) × (p ≡ q)) ⊎ (node_at w d ≡ Some (Runs q))
    by (inl s) =
        let same : c ≡ d = ap (λ n. record { 0 = n }) s in
        inl (same, runs p q (set-here w.nodes c.0 (Runs p) (Runs q) (subst (λ (z : ComId). node_at (world_over w c p) z ≡ Some (Runs q)) (sym same) e)))
    by (inr o) = inr (sym (set-other w.nodes c.0 d.0 (Runs p) o) ∙ e)

pub take_overs_keep_represented : TakeOversKeepRepresented
take_overs_keep_represented program w c contents v later log rest good a e represented puts =
    let p = taken_over log later in
    let x = over-fits program c log later (all-fit program c contents v rest later good (arisen-fit program c v good a) e) in (
      λ d q is. by-represented d q x.0 (set-or-not w c p d q is),
      record { packets = puts.packets; components = λ d q is. by-kept d q x.1 (set-or-not w c p d q is) },
    )
  where
    by-represented : (d : ComId) (q : Pcom) → IsRepresented program c (taken_over log later) → ((c ≡ d) × (taken_over log later ≡ q)) ⊎ (node_at w d ≡ Some (Runs q)) → IsRepresented program d q
    by-represented d q x (inl s) = subst (λ (z : Pcom). IsRepresented program d z) s.1 (subst (λ (z : ComId). IsRepresented program z (taken_over log later)) s.0 x)
    by-represented d q x (inr o) = represented d q o

    by-kept : (d : ComId) (q : Pcom) → PutsToKept program (taken_over log later) → ((c ≡ d) × (taken_over log later ≡ q)) ⊎ (node_at w d ≡ Some (Runs q)) → PutsToKept program q
    by-kept d q x (inl s) = subst (λ (z : Pcom). PutsToKept program z) s.1 x
    by-kept d q x (inr o) = puts.components d q o
