-- A step that does nothing.
use Rattle.std.proofs.Common.{◌≡◌, ◌∙◌, sym, ap, refl, Bool, true, false, cond, List, [], ◌∷◌, length, drop, arith, Option, Some, None}
use Rattle.std.specs.Prelude.{not, ◌||◌, ◌&&◌, nat_lt}
use Rattle.ic_base.specs.declared.messages.ComId.{ComId}
use Rattle.ic_base.specs.declared.messages.Msg.{Msg}
use Rattle.ic_base.specs.declared.messages.Packet.{Packet}
use Rattle.def_state.specs.Names.{Identity}
use Rattle.def_state.specs.Txn.{is_committing}
use Rattle.std.proofs.Math.Seq.{drop-length}
use Rattle.std.proofs.lemmas.Bool.{le-ltb}
use Rattle.ic_base.specs.declared.record.Record.{Record}
use Rattle.ic_base.specs.declared.scenario.Program.{Program}
use Rattle.def_state.specs.Vol.{Vol, numbers_fit}
use Rattle.def_step.specs.Pcom as step
use Rattle.def_step.specs.Pcom.{Call, Effects, pcom_step, decide, absorb, absorb_choice, carry_out, marked, is_full, is_replaying, Log}
use Rattle.def_step.specs.Room.{is_empty, has_no_room}
use Rattle.ic_disk.specs.declared.disk.Disk.{Ghosts}
use Rattle.ic_gate.specs.declared.refusals.StepRefused.{StepRefused}
use Rattle.ic_gate.specs.declared.refusals.StepRefused.TheVariants.{Failed, Stopped, Full, Memory}
use Rattle.ic_gate.specs.RecordLogs.{records_of}
use Rattle.ic_gate.specs.RecordCalls.{size_with}
use Rattle.ic_pcom.specs.Carrying.{finished, up}
use Rattle.ic_gate.specs.RecordCommits.{forced_if, split_if}
use Rattle.ic_pcom.specs.Stepping.{forced_by, step_of, IsFull, Does, FailsToStep, FailsToGet, packet_refusal}
use Rattle.ic_pcom.specs.Views.{component_of, com_of, size_of, told_nothing}
use Rattle.ic_pcom.specs.Views as views
use Rattle.ic_pcom.specs.declared.pcom.Pcom.{Pcom}
use Rattle.ic_pcom.specs.declared.step.Step.{Step}
use Rattle.ic_pcom.proofs.Finishes.{batch_is}

-- no more records stand, so none was forced
pub none_forced : (b : Bool) (l new : Log) → new ≡ split_if b l → new.forced ≡ l.forced → forced_if b l ≡ []
none_forced b l new is same =
    sym (batch_is b l) ∙ ap (λ (x : Log). drop (length l.forced) x.forced) (sym is) ∙ ap (λ fs. drop (length l.forced) fs) same ∙ drop-length l.forced

-- from a state to itself nothing is to be forced
must_none : (v : Vol) → step.must_force v v ≡ false
must_none v =
    ap (λ b. b || (nat_lt (step.place_of v.txn.stage) (step.place_of v.txn.stage) && is_committing v.txn.stage)) (le-ltb v.txn.begun v.txn.begun (omega arith))
    ∙ ap (λ b. b && is_committing v.txn.stage) (le-ltb (step.place_of v.txn.stage) (step.place_of v.txn.stage) (omega arith))

-- a step that puts out its answers alone
pub quiet_is : (c : ComId) (l : Log) (v : Vol) (answers : List Packet) → finished c v (record step.nothing_at_all { answers = answers }) (up l v) ≡ step.told (up l v) answers (record step.nothing_at_all { answers = answers })
quiet_is c l v answers = ap (λ b. step.told (step.force_if b (up l v)) answers (record step.nothing_at_all { answers = answers })) (must_none v)

-- a step that adds no record passes no limit
pub no_limit : {D : Type 0} {d : Ghosts D} (program : Program) (p : Pcom D d) (call : Call) (v : Vol) (e : Effects)
    → component_of p ≡ up (records_of p.log) v → decide program (com_of p) (up (records_of p.log) v) call ≡ e → e.adds ≡ [] → IsFull program p call false
no_limit program p call v e here decides none =
    let q = up (records_of p.log) v in
    let w = absorb_choice program (com_of p) (decide program (com_of p) q call) q in
    ap (λ (x : step.Pcom). is_full program (com_of p) (size_of p) x call) here
    ∙ ap (λ (a : List Record). not (is_empty a) && (has_no_room (size_of p) w.log.buffered || not (numbers_fit w.vol))) (ap (λ (x : Effects). x.adds) decides ∙ none)

-- a step that does nothing
module _ {D : Type 0} {d : Ghosts D} (program : Program) (p : Pcom D d) (call : Call) where
  pub idles : step_of program p call ≡ Some (step.told (component_of p) [] step.nothing_at_all) → IsFull program p call false → views.is_closed p ≡ false → (t : Step) → t ≡ told_nothing → Does program p call p t
  idles makes room opened t is = record {
    result = step.told (component_of p) [] step.nothing_at_all;
    step = makes;
    leads = refl;
    tells = is;
    room = room;
    size = ap (size_with (size_of p)) (sym (ap (forced_by (component_of p)) makes ∙ drop-length (component_of p).log.forced));
    played = refl;
    is_open = opened;
  }

  -- one that replays passes no limit
  pub replays_within : is_replaying (component_of p) ≡ true → IsFull program p call false
  replays_within replays =
      let q = component_of p in
      let w = absorb_choice program (com_of p) (decide program (com_of p) q call) q in
      ap (λ (b : Bool). not b && not (is_empty (decide program (com_of p) q call).adds) && (has_no_room (size_of p) w.log.buffered || not (numbers_fit w.vol))) replays

  -- one that replays, and isn't changed by the call
  pub replays_idly : is_replaying (component_of p) ≡ true → step.replay_step program (com_of p) (component_of p) call ≡ step.stays (component_of p) [] → step_of program p call ≡ Some (step.told (component_of p) [] step.nothing_at_all)
  replays_idly replays stays =
      let q = component_of p in
      ap (λ (b : Bool). cond b (step.replay_step program (com_of p) q call) (Some (step.carry_out program (com_of p) q (decide program (com_of p) q call)))) replays ∙ stays

  -- one that is up, of which nothing is asked
  pub stands_idly : (v : Vol) → component_of p ≡ up (records_of p.log) v → decide program (com_of p) (up (records_of p.log) v) call ≡ step.nothing_at_all → step_of program p call ≡ Some (step.told (component_of p) [] step.nothing_at_all)
  stands_idly v here none =
      let l = records_of p.log in
      ap (λ (q : step.Pcom). pcom_step program (com_of p) q call) here
      ∙ ap (λ (e : Effects). Some (step.carry_out program (com_of p) (up l v) e)) none
      ∙ ap (λ (t : step.StepResult). Some t) (quiet_is (com_of p) l v [])
      ∙ ap (λ (q : step.Pcom). Some (step.told q [] step.nothing_at_all)) (sym here)

-- what is still to be played stays as it is where a component is up
rest_absorbed : (program : Program) (c : ComId) (content : Option Msg) (p : step.Pcom) (rs : List Record) → (absorb program c content p rs).rest ≡ p.rest
rest_absorbed program c content p [] = refl
rest_absorbed program c content p (r ∷ rs) = rest_absorbed program c content (step.append program c content p r) rs

rest_marked : (p : step.Pcom) (m : Option Identity) → (marked p m).rest ≡ p.rest
rest_marked p None = refl
rest_marked p (Some x) = refl

rest_forced : (b : Bool) (p : step.Pcom) → (step.force_if b p).rest ≡ p.rest
rest_forced true p = refl
rest_forced false p = refl

rest_covered : (b : Bool) (p : step.Pcom) → (step.cover_if b p).rest ≡ p.rest
rest_covered true p = refl
rest_covered false p = refl

rest_put : (b : Bool) (p : step.Pcom) (d : Effects) (xs ys : List Packet) → (cond b (step.told p xs d) (step.told (step.after_tail p) ys d)).pcom.rest ≡ p.rest
rest_put true p d xs ys = refl
rest_put false p d xs ys = refl

rest_stays : (program : Program) (c : ComId) (p : step.Pcom) (d : Effects) → (carry_out program c p d).pcom.rest ≡ p.rest
rest_stays program c p d =
    let q = absorb_choice program c d p in
    let f = d.forces || step.must_force p.vol q.vol in
    rest_put d.is_quiet (step.force_where p.vol d q) d _ _
    ∙ rest_covered d.covers (step.force_if f q)
    ∙ rest_forced f q
    ∙ rest_absorbed program c d.content (marked p d.marks) d.adds
    ∙ rest_marked p d.marks

-- a step at a component that is up plays nothing
pub plays_none : {D : Type 0} {d : Ghosts D} (program : Program) (p : Pcom D d) (call : Call) (new : Pcom D d) (told : Step) → is_replaying (component_of p) ≡ false → Does program p call new told → (component_of new).rest ≡ (component_of p).rest
plays_none program p call new told is_up does =
    let q = component_of p in
    let goes = carry_out program (com_of p) q (decide program (com_of p) q call) in
    let makes : step_of program p call ≡ Some goes = ap (λ (b : Bool). cond b (step.replay_step program (com_of p) q call) (Some goes)) is_up in
    let both : ◌≡◌ {A = Option step.StepResult} (Some goes) (Some does.result) = sym makes ∙ does.step in
    let same : goes ≡ does.result = cc in
    ap (λ (x : step.Pcom). x.rest) does.leads ∙ ap (λ (t : step.StepResult). t.pcom.rest) (sym same) ∙ rest_stays program (com_of p) q (decide program (com_of p) q call)

-- a refusal of its step is that of the packet
pub gets_fails : {D : Type 0} {d : Ghosts D} (program : Program) (p : Pcom D d) (packet : Packet) (new : Pcom D d) (why : StepRefused) → FailsToStep program p (step.Gets packet) new why → FailsToGet program p packet new (packet_refusal why)
gets_fails program p packet new Failed fails = fails
gets_fails program p packet new Stopped fails = fails
gets_fails program p packet new Full fails = fails
gets_fails program p packet new Memory fails = fails
