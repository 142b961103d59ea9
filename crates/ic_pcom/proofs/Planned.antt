-- The one record of a step leads to the state that was prepared.
use Rattle.std.proofs.Common.{◌≡◌, ◌∙◌, sym, ap, refl, subst, arith, Bool, true, false, List, [], ◌∷◌, ◌++◌, length, None}
use Rattle.std.specs.Prelude.{not, IfSome, IsTrue}
use Rattle.ic_base.specs.declared.messages.ComId.{ComId}
use Rattle.ic_base.specs.declared.record.Record.{Record}
use Rattle.ic_base.specs.declared.scenario.Program.{Program}
use Rattle.def_state.specs.Positions.{end_of}
use Rattle.def_state.specs.Vol.{Vol, record_in}
use Rattle.def_step.specs.Pcom as step
use Rattle.def_step.specs.Pcom.{Call, Log, Effects, all_of, absorb, absorb_choice, decide, is_replaying, marked}
use Rattle.def_step.specs.Room.{is_empty}
use Rattle.ic_disk.specs.declared.disk.Disk.{Ghosts}
use Rattle.ic_pcom.specs.Effects.{effects_of}
use Rattle.ic_pcom.specs.declared.effects.Effects as given
use Rattle.ic_gate.specs.RecordLogs.{records_of}
use Rattle.ic_replay.proofs.Recording.{applied_is}
use Rattle.ic_replay.specs.Applying.{applied, TakesNew}
use Rattle.ic_replay.specs.Preparing.{preparation, has_content, has_place}
use Rattle.ic_replay.specs.declared.prepared.Prepared.{Prepared}
use Rattle.ic_pcom.specs.Carrying.{absorbed, last_in, led, up}
use Rattle.ic_pcom.specs.Deciding.{IsDecided, IsReady}
use Rattle.ic_pcom.specs.Stages.{vol_of, rest_of, is_up}
use Rattle.ic_pcom.specs.Views.{component_of, com_of}
use Rattle.ic_pcom.specs.declared.pcom.Pcom.{Pcom}
use Rattle.ic_pcom.proofs.Leading.{AreLed, absorbs_at_once}

pub one_leads : (program : Program) (c : ComId) (l : Log) (v : Vol) (e : Effects) (r : Record) (p : Prepared) → e.adds ≡ r ∷ [] → e.marks ≡ None → has_content e.content r ≡ true → p ≡ preparation program c e.content v r
    → absorb_choice program c e (up l v) ≡ absorbed (up l v) e.adds (led c p l v e.adds)
one_leads program c l v e r p one marks has prepared =
    let w = led c p l v e.adds in
    let at = end_of (all_of l ++ r ∷ []) in
    let leads : w ≡ record_in program c at e.content v r =
    ap (λ (a : List Record). led c p l v a) one ∙ ap (λ (x : Prepared). applied c at x v r) prepared ∙ applied_is program c at e.content v r has in
    let all : AreLed program c e.content e.marks (up l v) (r ∷ []) w = (marks, leads) in
    ap (λ (a : List Record). absorb program c e.content (marked (up l v) e.marks) a) one
    ∙ absorbs_at_once program c e.content e.marks (up l v) (r ∷ []) w all
    ∙ ap (λ (a : List Record). absorbed (up l v) a w) (sym one)

pub empty_is : (rs : List Record) → is_empty rs ≡ true → rs ≡ []
empty_is [] none = refl
empty_is (r ∷ rs) none = cc

not_false : (b : Bool) → not b ≡ false → b ≡ true
not_false true is = refl
not_false false is = cc

not_true : (b : Bool) → not b ≡ true → b ≡ false
not_true true is = cc
not_true false is = refl

module _ {D : Type 0} {d : Ghosts D} (p : Pcom D d) where
  -- one that doesn't replay is up
  pub up_is : is_replaying (component_of p) ≡ false → is_up p.stage ≡ true
  up_is replays = p.rests ∙ not_false (is_empty (rest_of p.stage)) replays

  pub replays_is : is_replaying (component_of p) ≡ true → is_up p.stage ≡ false
  replays_is replays = p.rests ∙ not_true (is_empty (rest_of p.stage)) replays

  -- it is its log and its state
  pub stands_up : (v : Vol) → is_up p.stage ≡ true → vol_of p.stage ≡ v → component_of p ≡ up (records_of p.log) v
  stands_up v is of =
      ap (λ (x : Vol). record { log = records_of p.log; vol = x; rest = rest_of p.stage }) of
      ∙ ap (λ (r : List Record). record { log = records_of p.log; vol = v; rest = r }) (empty_is (rest_of p.stage) (sym p.rests ∙ is))

  -- what was decided, with its one record
  pub one_decided : (program : Program) (call : Call) (v : Vol) (e : given.Effects) (r : Record) (prepared : Prepared) → component_of p ≡ up (records_of p.log) v
      → decide program (com_of p) (up (records_of p.log) v) call ≡ effects_of e
      → e.adds ≡ r ∷ [] → (effects_of e).marks ≡ None → has_content e.content r ≡ true → prepared ≡ preparation program (com_of p) e.content v r
      → IsDecided program p call e prepared
  one_decided program call v e r prepared here dec one marks has is =
      let Is : step.Pcom → Type 0 = λ q. absorb_choice program (com_of p) (effects_of e) q ≡ absorbed q e.adds (led (com_of p) prepared (records_of p.log) q.vol e.adds) in
      record {
        decides = ap (λ (q : step.Pcom). decide program (com_of p) q call) here ∙ dec;
        leads = subst Is (sym here) (one_leads program (com_of p) (records_of p.log) v (effects_of e) r prepared one marks has is);
      }

-- a step of one record is ready
pub one_ready : (v : Vol) (e : given.Effects) (r : Record) → e.adds ≡ r ∷ [] → TakesNew v r → IsTrue (has_place v r) → IsReady v e
one_ready v e r one new place =
    let New : List Record → Type 0 = λ a. IfSome (last_in a) (TakesNew v) in
    let Place : List Record → Type 0 = λ a. IfSome (last_in a) (λ r. IsTrue (has_place v r)) in
    record { some = omega (arith, ap length one); new = subst New (sym one) new; place = subst Place (sym one) place }
