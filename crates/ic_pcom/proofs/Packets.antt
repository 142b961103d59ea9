-- The records that a packet or an emit leads to: the last of them may be applied in the state before the step, and leads to the state behind it.
use Rattle.std.proofs.Common.{◌≡◌, ◌∙◌, sym, ap, refl, subst, ℕ, ◌+◌, ◌<◌, ℤ, true, false, List, [], ◌∷◌, ◌++◌, length, arith, Option, Some, None}
use Rattle.std.specs.Prelude.{option_map, option_and_then, max, IfSome, is_some, IsTrue}
use Rattle.std.proofs.lemmas.Bool.{and_parts, leb-true, cond_both}
use Rattle.ic_base.specs.declared.limits.TheConstants.{GREATEST_NUMBER}
use Rattle.ic_base.specs.declared.messages.AbortCause.TheVariants.{Need}
use Rattle.ic_base.specs.declared.messages.ComId.{ComId}
use Rattle.ic_base.specs.declared.messages.Decision.{Decision}
use Rattle.ic_base.specs.declared.messages.Decision.TheVariants.{Committed, Aborted}
use Rattle.ic_base.specs.declared.messages.Msg.{Msg}
use Rattle.ic_base.specs.declared.messages.Packet.{Packet}
use Rattle.ic_base.specs.declared.messages.Packet.TheVariants.{Data, Stable, Installed, Fetch, Op, OpReply, Commit, Outcome, Drop}
use Rattle.ic_base.specs.declared.messages.Output.{Output}
use Rattle.ic_base.specs.declared.messages.Session.{Session}
use Rattle.ic_base.specs.declared.played.Played.{Played}
use Rattle.ic_base.specs.declared.played.Played.TheVariants.{Asks, Ready, NeedFails, Ends}
use Rattle.ic_base.specs.declared.record.Record.{Record}
use Rattle.ic_base.specs.declared.record.Record.TheVariants.{Take, TakeWhole, Value, Outcome as Ended, Released, Shown}
use Rattle.ic_base.specs.declared.scenario.Program.{Program}
use Rattle.ic_base.specs.Programs.{is_immediate, is_number, is_other_pcom}
use Rattle.def_plain.specs.declared.world.InHand.{InHand}
use Rattle.def_state.specs.Fits.{failed_line}
use Rattle.def_state.specs.Hist.{hand_plays}
use Rattle.def_state.specs.Inbox as inbox
use Rattle.def_state.specs.Names.{Identity}
use Rattle.def_state.specs.Outbox as sent
use Rattle.def_state.specs.Positions.{end_of}
use Rattle.def_state.specs.Shelf.{next_due}
use Rattle.def_state.specs.Txn as txn
use Rattle.def_state.specs.Vol.{Vol}
use Rattle.def_step.specs.Packets.{fits_pcom}
use Rattle.def_step.specs.Pcom as step
use Rattle.def_step.specs.Pcom.{Log, Call, Gets, Effects, all_of, absorb_choice, decide, just_tail, nothing_at_all, Changed, Took, Busy, take_record, level_answer, fails_with, need_records, need_abort, on_packet, on_data, on_reply, on_outcome, on_installed, on_emit, Emits}
use Rattle.ic_disk.specs.declared.disk.Disk.{Ghosts}
use Rattle.ic_pcom.specs.Effects.{effects_of}
use Rattle.ic_pcom.specs.declared.effects.Effects as given
use Rattle.ic_gate.specs.RecordLogs.{records_of}
use Rattle.ic_replay.proofs.Recording.{need_is}
use Rattle.ic_replay.specs.Applying.{applied, TakesNew, IsNewMessage}
use Rattle.ic_replay.specs.Preparing.{preparation, has_content, has_place}
use Rattle.ic_replay.specs.declared.prepared.Prepared.{Prepared}
use Rattle.ic_pcom.specs.Carrying.{absorbed, last_in, led, up}
use Rattle.ic_pcom.specs.Deciding.{IsDecided, IsReady}
use Rattle.ic_pcom.specs.Views.{component_of, com_of}
use Rattle.ic_pcom.specs.declared.pcom.Pcom.{Pcom}
use Rattle.ic_pcom.proofs.Lasts.{some_is}
use Rattle.ic_pcom.proofs.Leading.{AreLed, absorbs_at_once}
use Rattle.ic_pcom.proofs.Planned.{one_leads}

fails_at : (f : InHand → Played) (hand : Option InHand) (line : ℕ) → option_and_then (λ h. failed_line (f h)) hand ≡ Some line → (t : ComId) × (option_map f hand ≡ Some (NeedFails t line))
fails_at f None line is = absurd (cc)
fails_at f (Some hand) line is = by (f hand) is
  where
    by : (p : Played) → failed_line p ≡ Some line → (t : ComId) × (◌≡◌ {A = Option Played} (Some p) (Some (NeedFails t line)))
    by (Ends vars sends outs) is = absurd (cc)
    by (Asks t request) is = absurd (cc)
    by (Ready t) is = absurd (cc)
    by (NeedFails t x) is = let same : x ≡ line = cc in (t, ap (λ (n : ℕ). Some (NeedFails t n)) same)

module _ (program : Program) (c : ComId) (l : Log) (v : Vol) where
  -- The records of a step, added one by one, lead to the state that is prepared for the last one in the state before the step. What
  -- that one takes is new.
  pub record AreLeading (e : Effects) : Type 0 where
    pub leads : (p : Prepared) → 0 < length e.adds → ((r : Record) → last_in e.adds ≡ Some r → p ≡ preparation program c e.content v r) → absorb_choice program c e (up l v) ≡ absorbed (up l v) e.adds (led c p l v e.adds)
    pub takes : IfSome (last_in e.adds) (TakesNew v)

  none_leads : (e : Effects) → e.adds ≡ [] → AreLeading e
  none_leads e none =
      let New : List Record → Type 0 = λ a. IfSome (last_in a) (TakesNew v) in
      record { leads = λ p some is. absurd (omega (arith, some, ap length none)); takes = subst New (sym none) tt }

  one_lead : (e : Effects) (r : Record) → e.adds ≡ r ∷ [] → e.marks ≡ None → has_content e.content r ≡ true → TakesNew v r → AreLeading e
  one_lead e r one marks has new =
      let New : List Record → Type 0 = λ a. IfSome (last_in a) (TakesNew v) in
      record { leads = λ p some is. one_leads program c l v e r p one marks has (is r (ap last_in one)); takes = subst New (sym one) new }

  -- a new message: the record takes it
  takes_new : (m : Msg) → fits_pcom program c (Data m) ≡ true → inbox.is_taken v.inbox (record { peer = m.from; k = m.k }) ≡ false → TakesNew v (take_record program c v m)
  takes_new m fits new =
      let fine = and_parts (is_other_pcom program c m.from) _ fits in
      let number = and_parts (is_number m.k) _ fine.1 in
      let both = and_parts _ _ number.0 in
      let is : IsNewMessage v m.from m.k = record { first = leb-true 1 m.k both.0; last = leb-true m.k GREATEST_NUMBER both.1; new = new } in
      let stamp = max v.clock m.stamp + 1 in
      cond_both (is_immediate program c) (TakeWhole m.from m.k stamp m.handler m.args) (Take m.from m.k stamp) (TakesNew v) (λ whole. is) (λ named. is)

  data_leads : (m : Msg) → fits_pcom program c (Data m) ≡ true → AreLeading (on_data program c (up l v) m)
  data_leads m fits =
      let x : Identity = record { peer = m.from; k = m.k } in
      let old : Effects = record just_tail { answers = level_answer c m (inbox.level v.inbox x (end_of l.forced)) } in
      let takes : Effects = record just_tail { word = Took; content = Some m; adds = take_record program c v m ∷ []; forces = is_immediate program c } in
      let busy : Effects = record nothing_at_all { word = Busy } in
      cond_both (inbox.is_taken v.inbox x) old _ AreLeading
      (λ known. none_leads old refl)
      (λ new. cond_both (is_some v.hand) busy takes AreLeading (λ held. none_leads busy refl) (λ free. one_lead takes (take_record program c v m) refl refl refl (takes_new m fits new)))

  installed_leads : (from : ComId) (k : ℕ) → AreLeading (on_installed (up l v) (record { peer = from; k = k }))
  installed_leads from k =
      let frees : Effects = record just_tail { adds = Released from k ∷ []; word = Changed } in
      cond_both (sent.is_held v.outbox (record { peer = from; k = k })) frees just_tail AreLeading (λ held. one_lead frees (Released from k) refl refl refl tt) (λ no. none_leads just_tail refl)

  -- a value, and with a need that then fails its abort behind it
  value_leads : (n place : ℕ) (session : Session) (value : ℤ) (line : Option ℕ) → fails_with program c v value ≡ line
      → AreLeading (record just_tail { word = Changed; adds = Value n place session value ∷ need_records v line; aborted = need_abort v line })
  value_leads n place session value None is =
      one_lead (record just_tail { word = Changed; adds = Value n place session value ∷ [] }) (Value n place session value) refl refl refl tt
  value_leads n place session value (Some line) is =
      let r = Value n place session value in
      let s = Ended (v.clock + 1) v.txn.begun (Some (Need line)) in
      let adds = r ∷ s ∷ [] in
      let behind = end_of (all_of l ++ adds) in
      let fails = fails_at (hand_plays program c v.vars (v.now ++ value ∷ [])) v.hand line is in
      record {
        leads = λ p some from.
            let w = led c p l v adds in
            let all : AreLed program c None None (up l v) adds w = (
              refl,
              λ at. ap (λ (x : Prepared). applied c behind x v s) (from s refl) ∙ need_is program c at behind v v.txn.begun place session value fails.0 line (v.clock + 1) (Need line) fails.1,
            ) in
            absorbs_at_once program c None None (up l v) adds w all;
        takes = tt;
      }

  reply_leads : (n place : ℕ) (session : Session) (answer : Option ℤ) → AreLeading (on_reply program c v n place session answer)
  reply_leads n place session None = none_leads just_tail refl
  reply_leads n place session (Some value) = value_leads n place session value (fails_with program c v value) refl

  outcome_leads : (decision : Option Decision) → AreLeading (on_outcome v decision)
  outcome_leads None = none_leads just_tail refl
  outcome_leads (Some (Committed stamp)) =
      let r = Ended (max v.clock stamp + 1) v.txn.begun None in
      one_lead (record just_tail { word = Changed; adds = r ∷ [] }) r refl refl refl tt
  outcome_leads (Some (Aborted cause)) =
      let r = Ended (v.clock + 1) v.txn.begun (Some cause) in
      one_lead (record just_tail { word = Changed; adds = r ∷ []; aborted = Some (v.txn.begun, cause) }) r refl refl refl tt

  fitting_leads : (p : Packet) → fits_pcom program c p ≡ true → AreLeading (on_packet program c (up l v) p)
  fitting_leads (Data m) fits = data_leads m fits
  fitting_leads (Stable from to k) fits = none_leads _ refl
  fitting_leads (Installed from to k) fits = installed_leads from k
  fitting_leads (Fetch from to k) fits = none_leads _ refl
  fitting_leads (Op from to n place session request) fits = none_leads _ refl
  fitting_leads (OpReply from to n place session value) fits = reply_leads n place session (txn.reply v.txn (OpReply from to n place session value))
  fitting_leads (Commit from to n place session stamp) fits = none_leads _ refl
  fitting_leads (Outcome from to n place session decision) fits = outcome_leads (txn.outcome v.txn (Outcome from to n place session decision))
  fitting_leads (Drop from to n) fits = none_leads _ refl

  -- an output that is due is shown
  shown_leads : (o : Option Output) → AreLeading (on_emit o)
  shown_leads None = none_leads nothing_at_all refl
  shown_leads (Some o) = one_lead (record just_tail { adds = Shown o.m ∷ []; shown = Some o }) (Shown o.m) refl refl refl tt

  pub emit_leads : AreLeading (decide program c (up l v) Emits)
  emit_leads = shown_leads (next_due v.shelf (end_of l.forced))

  pub packet_leads : (p : Packet) → AreLeading (decide program c (up l v) (Gets p))
  packet_leads p = cond_both (fits_pcom program c p) (on_packet program c (up l v) p) nothing_at_all AreLeading (λ fits. fitting_leads p fits) (λ no. none_leads nothing_at_all refl)

-- what is added where an output is shown
pub shows : (o : Option Output) → 0 < length (on_emit o).adds → (m : ℕ) × (last_in (on_emit o).adds ≡ Some (Shown m))
shows None some = absurd (omega (arith, some))
shows (Some o) some = (o.m, refl)

module _ {D : Type 0} {d : Ghosts D} (p : Pcom D d) where
  -- what was decided, with the last of its records prepared
  pub led_decided : (program : Program) (call : Call) (v : Vol) (e : given.Effects) (r : Record) (prepared : Prepared) → component_of p ≡ up (records_of p.log) v
      → decide program (com_of p) (up (records_of p.log) v) call ≡ effects_of e → AreLeading program (com_of p) (records_of p.log) v (effects_of e)
      → 0 < length e.adds → last_in e.adds ≡ Some r → prepared ≡ preparation program (com_of p) e.content v r → IsDecided program p call e prepared
  led_decided program call v e r prepared here dec leading some last is =
      let Is : step.Pcom → Type 0 = λ q. absorb_choice program (com_of p) (effects_of e) q ≡ absorbed q e.adds (led (com_of p) prepared (records_of p.log) q.vol e.adds) in
      record {
        decides = ap (λ (q : step.Pcom). decide program (com_of p) q call) here ∙ dec;
        leads = subst Is (sym here) (leading.leads prepared some (λ s from. is ∙ ap (λ (x : Record). preparation program (com_of p) e.content v x) (some_is r s (sym last ∙ from))));
      }

pub led_ready : (program : Program) (c : ComId) (l : Log) (v : Vol) (e : given.Effects) (r : Record) → AreLeading program c l v (effects_of e) → 0 < length e.adds → last_in e.adds ≡ Some r → IsTrue (has_place v r) → IsReady v e
led_ready program c l v e r leading some last place =
    let Place : Option Record → Type 0 = λ o. IfSome o (λ x. IsTrue (has_place v x)) in
    record { some = some; new = leading.takes; place = subst Place (sym last) place }
