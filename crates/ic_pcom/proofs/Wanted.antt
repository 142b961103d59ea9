-- The message that a replay waits for.
use Rattle.std.proofs.Common.{◌≡◌, ◌∙◌, refl, sym, ap, ℕ, ◌≤◌, Bool, true, false, cond, List, ◌∷◌, length, arith, Option, Some, None}
use Rattle.std.proofs.lemmas.Bool.{and_parts}
use Rattle.std.proofs.lemmas.Bool.Decides.{nat_tests}
use Rattle.std.specs.Prelude.{◌&&◌, nat_le, is_some, option_and_then}
use Rattle.ic_base.specs.declared.limits.TheConstants.{COMPONENTS, GREATEST_NUMBER}
use Rattle.ic_base.specs.declared.messages.ComId.{ComId}
use Rattle.ic_base.specs.declared.messages.Msg.{Msg}
use Rattle.ic_base.specs.declared.messages.Packet.TheVariants.{Data}
use Rattle.ic_base.specs.declared.record.Record.{Record}
use Rattle.ic_base.specs.declared.record.Record.TheVariants.{Take, TakeWhole, Input, Value, Outcome, Released, Shown, Checkpoint, Epoch, Decided}
use Rattle.ic_base.specs.declared.scenario.Program.{Program}
use Rattle.ic_base.specs.Programs.{is_other_pcom, is_number, has_handler}
use Rattle.def_log.specs.Spelling.{IsCom}
use Rattle.def_state.specs.Names.{Identity, same_identity}
use Rattle.def_step.specs.Packets.{fits_pcom}
use Rattle.def_step.specs.Pcom.{is_needed, needed}
use Rattle.ic_pcom.proofs.Peers.{FromCom, other_is_com}

same_parts : (x y : Identity) → same_identity x y ≡ true → (x.peer.0 ≡ y.peer.0) × (x.k ≡ y.k)
same_parts x y h = grind (arith, nat_tests)

same_is : (x y : Identity) → same_identity x y ≡ true → x ≡ y
same_is x y h =
    let parts = same_parts x y h in
    let peers : x.peer ≡ y.peer = ap (λ n. record { 0 = n }) parts.0 in
    let P : ComId → Identity = λ c. record { peer = c; k = x.k } in
    let K : ℕ → Identity = λ k. record { peer = y.peer; k = k } in
    ap P peers ∙ ap K parts.1

needs_by : (y : Identity) (o : Option Identity) → is_some (option_and_then (λ x. cond (same_identity x y) (Some x) None) o) ≡ true → o ≡ Some y
needs_by y None is = cc
needs_by y (Some x) is = by (same_identity x y) refl is
  where
    by : (b : Bool) → same_identity x y ≡ b → is_some (cond b (Some x) None) ≡ true → ◌≡◌ {A = Option Identity} (Some x) (Some y)
    by true same is = ap (λ (i : Identity). Some i) (same_is x y same)
    by false same is = cc

-- it is needed
pub needs : (program : Program) (c : ComId) (rest : List Record) (m : Msg) → (fits_pcom program c (Data m) && is_needed rest m) ≡ true → needed rest ≡ Some (record { peer = m.from; k = m.k })
needs program c rest m both = needs_by (record { peer = m.from; k = m.k }) (needed rest) (and_parts (fits_pcom program c (Data m)) (is_needed rest m) both).1

-- its sender is a component that a scenario may have
pub wanted_peer : (program : Program) (c : ComId) (rest : List Record) (m : Msg) → length program.components ≤ COMPONENTS → (fits_pcom program c (Data m) && is_needed rest m) ≡ true → IsCom m.from
wanted_peer program c rest m few both =
    let fit = (and_parts (fits_pcom program c (Data m)) (is_needed rest m) both).0 in
    other_is_com program c m.from few (and_parts (is_other_pcom program c m.from) (is_number m.k && (nat_le m.stamp GREATEST_NUMBER && has_handler program c m.handler m.args)) fit).0

-- and the record that waits takes it from there
pub takes_from : (rest : List Record) (from : ComId) (k : ℕ) → IsCom from → needed rest ≡ Some (record { peer = from; k = k }) → (r : Record) (rs : List Record) → rest ≡ r ∷ rs → FromCom r
takes_from rest from k is waits r rs first = by r (ap needed (sym first) ∙ waits)
  where
    by : (s : Record) → needed (s ∷ rs) ≡ Some (record { peer = from; k = k }) → FromCom s
    by (Take f j stamp) at =
        let same : ◌≡◌ {A = Identity} (record { peer = f; k = j }) (record { peer = from; k = k }) = cc in
        let n : f.0 ≡ from.0 = ap (λ (i : Identity). i.peer.0) same in
        omega (arith, n, is)
    by (TakeWhole f j stamp handler args) at = cc
    by (Input stamp handler args) at = tt
    by (Value n place session value) at = tt
    by (Outcome stamp n abort) at = tt
    by (Released to j) at = tt
    by (Shown m) at = tt
    by (Checkpoint image) at = tt
    by (Epoch epoch) at = tt
    by (Decided stamp c n writes) at = tt
