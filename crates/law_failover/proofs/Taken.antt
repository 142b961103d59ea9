-- In a run from blank disks each message that a record takes by its identity was put out in the run.
use Rattle.std.proofs.Common.{◌≡◌, refl, ◌∙◌, ap, sym, subst, ℕ, ◌+◌, max, ◌==◌, Bool, true, false, cond, ◌||◌, List, [], ◌∷◌, ◌++◌, Option, Some, None, is_none, option_map, ⊎_elim, ℤ}
use Rattle.std.specs.Prelude.{⊤, Contains, filter_map, find, option_and_then}
use Rattle.std.specs.Option.{option_or}
use Rattle.std.proofs.lemmas.List.{append-nil, append_assoc}
use Rattle.std.proofs.lemmas.List.Elements.{Contains-append_cases, filter_map-append}
use Rattle.std.proofs.lemmas.List.Folds.{find-append}
use Rattle.std.proofs.lemmas.Option.{same_Some}
use Rattle.ic_base.specs.declared.messages.AbortCause.TheVariants.{Need}
use Rattle.ic_base.specs.declared.messages.ComId.{ComId}
use Rattle.ic_base.specs.declared.messages.Decision.{Decision}
use Rattle.ic_base.specs.declared.messages.Decision.TheVariants.{Committed, Aborted}
use Rattle.ic_base.specs.declared.messages.Msg.{Msg}
use Rattle.ic_base.specs.declared.messages.Output.{Output}
use Rattle.ic_base.specs.declared.messages.Packet.{Packet}
use Rattle.ic_base.specs.declared.messages.Session.{Session}
use Rattle.ic_base.specs.declared.messages.Packet.TheVariants.{Data, Stable, Installed, Fetch, Op, OpReply, Commit, Outcome, Drop}
use Rattle.ic_base.specs.declared.events.What.{What}
use Rattle.ic_base.specs.declared.events.What.TheVariants.{Input, Deliver, Lose, Packet as Numbered, Force, Checkpoint, Resend, Emit, Crash, Recover}
use Rattle.ic_base.specs.declared.record.Record.{Record}
use Rattle.ic_base.specs.declared.record.Record.TheVariants as records
use Rattle.ic_base.specs.declared.scenario.Program.{Program}
use Rattle.ic_base.specs.Programs.{same_com, is_immediate}
use Rattle.def_state.specs.Image.{image_of}
use Rattle.def_state.specs.Inbox
use Rattle.def_state.specs.Outbox
use Rattle.def_state.specs.Shelf
use Rattle.def_state.specs.Txn
use Rattle.def_step.specs.Calls.{Called, called, call_of, delivery_of}
use Rattle.def_step.specs.Packets.{receiver_of, fits_pcom}
use Rattle.def_step.specs.Pcom.{Pcom, Call, Gives, Gets, Forces, Checkpoints, Resends, Emits, Effects, StepResult, Took, Busy, Changed, all_of, is_replaying, in_hand, forced_end, decide, on_packet, on_data, on_reply, on_outcome, on_emit, need_records, fails_with, level_answer, take_record, just_tail, nothing_at_all, carry_out, absorb_choice, must_force, force_log, pcom_step, replay_step}
use Rattle.def_step.specs.World.{World, oldest_of, packet_at}
use Rattle.def_facts.specs.Logs.{message_in, has_identity}
use Rattle.def_standby.specs.Standbys.{goes_to, contents_to, is_missing}
use Rattle.law_replay.proofs.Lists.{none-some, empty, head-or-tail, self-com, self-number, both-true}
use Rattle.law_step.proofs.Shapes.{step-shape, carried-log, chosen-log}

-- each message that one of these records takes by its identity is among the packets
abbrev pub AllAtHand : ComId → List Packet → List Record → Type 0
AllAtHand c packets rs = (r : Record) → Contains rs r → is_missing (contents_to c packets) r ≡ false

-- a packet among others ---------------------------------------------------------------------------

found-there : (test : Msg → Bool) (packets : List Packet) (m : Msg) → Contains packets (Data m) → test m ≡ true → is_none (find test (filter_map message_in packets)) ≡ false
found-there test [] m h passes = empty (Data m) h
found-there test (x ∷ xs) m h passes = ⊎_elim (λ k. here x (sym k)) (λ k. later x (found-there test xs m k passes)) (head-or-tail x (Data m) xs h)
  where
    first : (y : Msg) (b : Bool) → test y ≡ b → (b ≡ false → is_none (find test (filter_map message_in xs)) ≡ false) → is_none (cond b (Some y) (find test (filter_map message_in xs))) ≡ false
    first y true e rest = refl
    first y false e rest = rest refl

    here : (p : Packet) → Data m ≡ p → is_none (find test (filter_map message_in (p ∷ xs))) ≡ false
    here p e = subst (λ (q : Packet). is_none (find test (filter_map message_in (q ∷ xs))) ≡ false) e (ap (λ b. is_none (cond b (Some m) (find test (filter_map message_in xs)))) passes)

    later : (p : Packet) → is_none (find test (filter_map message_in xs)) ≡ false → is_none (find test (filter_map message_in (p ∷ xs))) ≡ false
    later (Data y) e = first y (test y) refl (λ k. e)
    later (Stable from to k) e = e
    later (Installed from to k) e = e
    later (Fetch from to k) e = e
    later (Op from to n place session request) e = e
    later (OpReply from to n place session value) e = e
    later (Commit from to n place session stamp) e = e
    later (Outcome from to n place session decision) e = e
    later (Drop from to n) e = e

-- among more packets they are there too
more-at-hand : (c : ComId) (packets more : List Packet) (r : Record) → is_missing (contents_to c packets) r ≡ false → is_missing (contents_to c (packets ++ more)) r ≡ false
more-at-hand c packets more (records.Take s k stamp) e =
    ap (λ l. is_none (find (goes_to c s k) l)) (filter_map-append message_in packets more)
    ∙ ap is_none (find-append (goes_to c s k) (filter_map message_in packets) (filter_map message_in more)) ∙ at (contents_to c packets s k) (find (goes_to c s k) (filter_map message_in more)) e
  where
    at : (o p : Option Msg) → is_none o ≡ false → is_none (option_or o p) ≡ false
    at (Some m) p f = refl
    at None p f = absurd (cc f)
more-at-hand c packets more (records.TakeWhole s k stamp handler args) e = refl
more-at-hand c packets more (records.Input stamp handler args) e = refl
more-at-hand c packets more (records.Value n place session value) e = refl
more-at-hand c packets more (records.Outcome stamp n abort) e = refl
more-at-hand c packets more (records.Released to k) e = refl
more-at-hand c packets more (records.Shown m) e = refl
more-at-hand c packets more (records.Checkpoint image) e = refl
more-at-hand c packets more (records.Epoch epoch) e = refl
more-at-hand c packets more (records.Decided stamp d n writes) e = refl

pub all-more : (c : ComId) (packets more : List Packet) (rs : List Record) → AllAtHand c packets rs → AllAtHand c (packets ++ more) rs
all-more c packets more rs f r h = more-at-hand c packets more r (f r h)

-- a record that takes nothing by its identity
plain-at-hand : (c : ComId) (packets : List Packet) (r : Record) → is_missing (λ s k. None) r ≡ false → is_missing (contents_to c packets) r ≡ false
plain-at-hand c packets (records.Take s k stamp) e = absurd (cc e)
plain-at-hand c packets (records.TakeWhole s k stamp handler args) e = refl
plain-at-hand c packets (records.Input stamp handler args) e = refl
plain-at-hand c packets (records.Value n place session value) e = refl
plain-at-hand c packets (records.Outcome stamp n abort) e = refl
plain-at-hand c packets (records.Released to k) e = refl
plain-at-hand c packets (records.Shown m) e = refl
plain-at-hand c packets (records.Checkpoint image) e = refl
plain-at-hand c packets (records.Epoch epoch) e = refl
plain-at-hand c packets (records.Decided stamp d n writes) e = refl

-- what a step adds ----------------------------------------------------------------------------------

module _ (c : ComId) (packets : List Packet) where
  none-at-hand : AllAtHand c packets []
  none-at-hand r h = empty r h

  one-at-hand : (x : Record) → is_missing (contents_to c packets) x ≡ false → AllAtHand c packets (x ∷ [])
  one-at-hand x e r h = ⊎_elim (λ k. subst (λ z. is_missing (contents_to c packets) z ≡ false) k e) (λ k. empty r k) (head-or-tail x r [] h)

  two-at-hand : (x y : Record) → is_missing (contents_to c packets) x ≡ false → is_missing (contents_to c packets) y ≡ false → AllAtHand c packets (x ∷ y ∷ [])
  two-at-hand x y e f r h = ⊎_elim (λ k. subst (λ z. is_missing (contents_to c packets) z ≡ false) k e) (λ k. one-at-hand y f r k) (head-or-tail x r (y ∷ []) h)

  data-at-hand : (program : Program) (p : Pcom) (m : Msg) → m.to ≡ c → Contains packets (Data m) → AllAtHand c packets (on_data program c p m).adds
  data-at-hand program p m to there = at (Inbox.is_taken p.vol.inbox (record { peer = m.from; k = m.k })) (in_hand p)
    where
      goes : goes_to c m.from m.k m ≡ true
      goes = both-true (has_identity m.from m.k m) (same_com c m.to) (both-true (same_com m.from m.from) (m.k == m.k) (self-com m.from) (self-number m.k)) (ap (same_com c) to ∙ self-com c)

      taken : (b : Bool) → is_missing (contents_to c packets) (cond b (records.TakeWhole m.from m.k (max p.vol.clock m.stamp + 1) m.handler m.args) (records.Take m.from m.k (max p.vol.clock m.stamp + 1))) ≡ false
      taken true = refl
      taken false = found-there (goes_to c m.from m.k) packets m there goes

      at : (a b : Bool) → AllAtHand c packets (cond a (record just_tail { answers = level_answer c m (Inbox.level p.vol.inbox (record { peer = m.from; k = m.k }) (forced_end p)) }) (cond b (record nothing_at_all { word = Busy }) (record just_tail { word = Took; content = Some m; adds = take_record program c p.vol m ∷ []; forces = is_immediate program c }))).adds
      at true b = none-at-hand
      at false true = none-at-hand
      at false false = one-at-hand (take_record program c p.vol m) (taken (is_immediate program c))

  reply-at-hand : (program : Program) (p : Pcom) (n place : ℕ) (session : Session) (o : Option ℤ) → AllAtHand c packets (on_reply program c p.vol n place session o).adds
  reply-at-hand program p n place session None = none-at-hand
  reply-at-hand program p n place session (Some value) = at (fails_with program c p.vol value)
    where
      at : (o : Option ℕ) → AllAtHand c packets (records.Value n place session value ∷ need_records p.vol o)
      at None = one-at-hand (records.Value n place session value) refl
      at (Some line) = two-at-hand (records.Value n place session value) (records.Outcome (p.vol.clock + 1) p.vol.txn.begun (Some (Need line))) refl refl

  outcome-at-hand : (p : Pcom) (o : Option Decision) → AllAtHand c packets (on_outcome p.vol o).adds
  outcome-at-hand p None = none-at-hand
  outcome-at-hand p (Some (Committed stamp)) = one-at-hand (records.Outcome (max p.vol.clock stamp + 1) p.vol.txn.begun None) refl
  outcome-at-hand p (Some (Aborted cause)) = one-at-hand (records.Outcome (p.vol.clock + 1) p.vol.txn.begun (Some cause)) refl

  packet-at-hand : (program : Program) (p : Pcom) (packet : Packet) → receiver_of packet ≡ c → Contains packets packet → AllAtHand c packets (on_packet program c p packet).adds
  packet-at-hand program p (Data m) to there = data-at-hand program p m to there
  packet-at-hand program p (Stable from to k) is there = none-at-hand
  packet-at-hand program p (Installed from to k) is there = at (Outbox.is_held p.vol.outbox (record { peer = from; k = k }))
    where
      at : (b : Bool) → AllAtHand c packets (cond b (record just_tail { adds = records.Released from k ∷ []; word = Changed }) just_tail).adds
      at true = one-at-hand (records.Released from k) refl
      at false = none-at-hand
  packet-at-hand program p (Fetch from to k) is there = none-at-hand
  packet-at-hand program p (OpReply from to n place session value) is there = reply-at-hand program p n place session (Txn.reply p.vol.txn (OpReply from to n place session value))
  packet-at-hand program p (Outcome from to n place session decision) is there = outcome-at-hand p (Txn.outcome p.vol.txn (Outcome from to n place session decision))
  packet-at-hand program p (Op from to n place session request) is there = none-at-hand
  packet-at-hand program p (Commit from to n place session stamp) is there = none-at-hand
  packet-at-hand program p (Drop from to n) is there = none-at-hand

  -- the packet of a call goes to c and was put out
  abbrev pub CallBrings : Call → Type 0
  CallBrings (Gets packet) = (receiver_of packet ≡ c) × Contains packets packet
  CallBrings _ = ⊤

  emit-at-hand : (o : Option Output) → AllAtHand c packets (on_emit o).adds
  emit-at-hand None = none-at-hand
  emit-at-hand (Some o) = one-at-hand (records.Shown o.m) refl

  decided-at-hand : (program : Program) (p : Pcom) (call : Call) → CallBrings call → AllAtHand c packets (decide program c p call).adds
  decided-at-hand program p (Gives handler args) b = at (in_hand p)
    where
      at : (b : Bool) → AllAtHand c packets (cond b nothing_at_all (record just_tail { word = Took; adds = records.Input (p.vol.clock + 1) handler args ∷ []; forces = true })).adds
      at true = none-at-hand
      at false = one-at-hand (records.Input (p.vol.clock + 1) handler args) refl
  decided-at-hand program p (Gets packet) b = at (fits_pcom program c packet)
    where
      at : (f : Bool) → AllAtHand c packets (cond f (on_packet program c p packet) nothing_at_all).adds
      at true = packet-at-hand program p packet b.0 b.1
      at false = none-at-hand
  decided-at-hand program p Forces b = none-at-hand
  decided-at-hand program p Checkpoints b = at (in_hand p)
    where
      at : (b : Bool) → AllAtHand c packets (cond b nothing_at_all (record just_tail { adds = records.Checkpoint (image_of p.vol) ∷ []; forces = true; covers = true })).adds
      at true = none-at-hand
      at false = one-at-hand (records.Checkpoint (image_of p.vol)) refl
  decided-at-hand program p Resends b = none-at-hand
  decided-at-hand program p Emits b = emit-at-hand (Shelf.next_due p.vol.shelf (forced_end p))

  -- all records behind a step
  pub step-at-hand : (program : Program) (p : Pcom) (call : Call) (t : StepResult) → CallBrings call → pcom_step program c p call ≡ Some t → AllAtHand c packets (all_of p.log) → AllAtHand c packets (all_of t.pcom.log)
  step-at-hand program p call t brings ran f = at (is_replaying p) refl ran
    where
      at : (b : Bool) → is_replaying p ≡ b → cond b (replay_step program c p call) (Some (carry_out program c p (decide program c p call))) ≡ Some t → AllAtHand c packets (all_of t.pcom.log)
      at true is k =
          let s = step-shape program c p call t ran in
          subst (AllAtHand c packets) (sym (s.all ∙ ap (λ l. all_of p.log ++ l) (s.replays is) ∙ append-nil (all_of p.log))) f
      at false is k = subst (λ (z : StepResult). AllAtHand c packets (all_of z.pcom.log)) (same_Some (carry_out program c p (decide program c p call)) t k)
          (subst (AllAtHand c packets) (sym all) both)
        where
          d : Effects
          d = decide program c p call

          whole : all_of (absorb_choice program c d p).log ≡ all_of p.log ++ d.adds
          whole = ap all_of (chosen-log program c d p) ∙ sym (append_assoc p.log.forced p.log.buffered d.adds)

          all : all_of (carry_out program c p d).pcom.log ≡ all_of p.log ++ d.adds
          all = ap all_of (carried-log program c p d) ∙ when (d.forces || must_force p.vol (absorb_choice program c d p).vol) ∙ whole
            where
              when : (b : Bool) → all_of (cond b (force_log (absorb_choice program c d p).log) (absorb_choice program c d p).log) ≡ all_of (absorb_choice program c d p).log
              when true = append-nil (all_of (absorb_choice program c d p).log)
              when false = refl

          both : AllAtHand c packets (all_of p.log ++ d.adds)
          both r h = ⊎_elim (f r) (decided-at-hand program p call brings r) (Contains-append_cases (all_of p.log) d.adds r h)

-- the packet that an event delivers goes to the component that it calls
pub call-brings : (w : World) (what : What) (d : ComId) (call : Call) → ((packet : Packet) → call ≡ Gets packet → Contains w.packets packet) → call_of w what ≡ Some (called d call) → CallBrings d w.packets call
call-brings w what d (Gives handler args) put e = tt
call-brings w what d Forces put e = tt
call-brings w what d Checkpoints put e = tt
call-brings w what d Resends put e = tt
call-brings w what d Emits put e = tt
call-brings w what d (Gets packet) put e = (by what e, put packet refl)
  where
    delivered : (o : Option Packet) → option_map delivery_of o ≡ Some (called d (Gets packet)) → receiver_of packet ≡ d
    delivered None k = absurd (none-some (called d (Gets packet)) k)
    delivered (Some p) k = same (same_Some (delivery_of p) (called d (Gets packet)) k)
      where
        who : Called → ComId
        who x = x.who

        brought : Called → Packet
        brought x = elim x.call [ Gets q ↦ q | _ ↦ p ]

        same : delivery_of p ≡ called d (Gets packet) → receiver_of packet ≡ d
        same h = ap receiver_of (sym (ap brought h)) ∙ ap who h

    same-call : (c : ComId) (k : Call) → Some (called c k) ≡ Some (called d (Gets packet)) → k ≡ Gets packet
    same-call c k h = ap (λ (x : Called). x.call) (same_Some (called c k) (called d (Gets packet)) h)

    by : (k : What) → call_of w k ≡ Some (called d (Gets packet)) → receiver_of packet ≡ d
    by (Deliver from to) h = oldest (oldest_of w from to) h
      where
        oldest : (o : Option ℕ) → option_map delivery_of (option_and_then (packet_at w) o) ≡ Some (called d (Gets packet)) → receiver_of packet ≡ d
        oldest None g = absurd (none-some (called d (Gets packet)) g)
        oldest (Some i) g = delivered (packet_at w i) g
    by (Numbered i) h = delivered (packet_at w i) h
    by (Input c handler args) h = absurd (let k = same-call c (Gives handler args) h in cc k)
    by (Lose from to) h = absurd (cc h)
    by (Force c) h = absurd (let k = same-call c Forces h in cc k)
    by (Checkpoint c) h = absurd (let k = same-call c Checkpoints h in cc k)
    by (Resend c) h = absurd (let k = same-call c Resends h in cc k)
    by (Emit c) h = absurd (let k = same-call c Emits h in cc k)
    by (Crash c) h = absurd (cc h)
    by (Recover c) h = absurd (cc h)
