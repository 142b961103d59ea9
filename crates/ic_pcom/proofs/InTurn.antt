-- What a Pcom owes, put together.
use Rattle.std.proofs.Common.{◌≡◌, ℕ, nat_le, Bool, true, false, ◌&&◌, cond, List, [], ◌++◌, map, Option, Some, None, option_map, option_and_then, option_to_list, refl, ◌∙◌, ap, sym, append_assoc}
use Rattle.ic_base.specs.declared.messages.ComId.{ComId}
use Rattle.ic_base.specs.declared.messages.Packet.{Packet}
use Rattle.ic_base.specs.declared.messages.Packet.TheVariants.{Data}
use Rattle.ic_base.specs.declared.record.Record.{Record}
use Rattle.def_state.specs.Vol.{Vol}
use Rattle.def_state.specs.Positions.{end_of}
use Rattle.def_state.specs.Inbox.{acks}
use Rattle.def_state.specs.Outbox.{unstable, due_messages}
use Rattle.def_state.specs.Txn.{pending}
use Rattle.def_step.specs.Pcom.{Pcom, Log, forced_end, last_drop, all_owed, ack_packet, drop_packet, tail_packets}

module _ (c : ComId) (p : Pcom) (forced : ℕ) (at : forced_end p ≡ forced) where
  abbrev pending-packets : List Packet
  pending-packets = option_to_list (pending c p.vol.txn p.vol.clock)

  -- the messages, the Drop behind them, and what is pending behind both
  pub owed-in_turn : (messages drop packets all : List Packet) → messages ≡ map Data (unstable p.vol.outbox forced) → last_drop c p ≡ drop →
      packets ≡ messages ++ drop → all ≡ packets ++ pending-packets → all_owed c p ≡ all
  owed-in_turn messages drop packets all are-messages is-drop are-packets are-all =
      ap (λ n. (map Data (unstable p.vol.outbox n) ++ last_drop c p) ++ pending-packets) at
      ∙ ap (λ xs. (xs ++ last_drop c p) ++ pending-packets) (sym are-messages)
      ∙ ap (λ d. (messages ++ d) ++ pending-packets) is-drop
      ∙ ap (λ x. x ++ pending-packets) (sym are-packets)
      ∙ sym are-all

if-drop : {A B : Type 0} (f : A → B) (b : Bool) (o : Option A) → option_to_list (cond b (option_map f o) None) ≡ cond b (map f (option_to_list o)) []
if-drop f false o = refl
if-drop f true None = refl
if-drop f true (Some x) = refl

if-came : {A : Type 0} (b : Bool) (o : Option A) → option_to_list (cond b o None) ≡ cond b (option_to_list o) []
if-came false o = refl
if-came true o = refl

-- what is put behind one another, is put in one
joined : {A : Type 0} (old acks due drop came first second third all : List A) → first ≡ old ++ acks → second ≡ first ++ due → third ≡ second ++ drop → all ≡ third ++ came → all ≡ old ++ (((acks ++ due) ++ drop) ++ came)
joined old acks due drop came first second third all a b d e =
    e
    ∙ ap (λ x. x ++ came) (d ∙ ap (λ x. x ++ drop) (b ∙ ap (λ x. x ++ due) a))
    ∙ ap (λ x. (x ++ drop) ++ came) (append_assoc old acks due)
    ∙ ap (λ x. x ++ came) (append_assoc old (acks ++ due) drop)
    ∙ append_assoc old ((acks ++ due) ++ drop) came

module _ (c : ComId) (came : Bool) (log : Log) (rest : List Record) (v : Vol) (forced : ℕ) (at : end_of log.forced ≡ forced) where
  -- what a step puts out behind its answers
  pub tail-in_turn : (old first second third all : List Packet) (drop last : Option Packet) →
      first ≡ old ++ map (ack_packet c) (acks v.inbox forced) → second ≡ first ++ map Data (due_messages v.outbox forced) →
      drop ≡ cond (v.owes_drop && nat_le v.ended_at forced) (option_map (drop_packet c) v.txn.last) None → third ≡ second ++ option_to_list drop →
      last ≡ cond came (pending c v.txn v.clock) None → all ≡ third ++ option_to_list last →
      all ≡ old ++ tail_packets c came (record { log = log; vol = v; rest = rest })
  tail-in_turn old first second third all drop last is-first is-second is-drop is-third is-last is-all =
      joined old _ _ _ _ first second third all is-first is-second (is-third ∙ ap (λ d. second ++ d) (ap option_to_list is-drop ∙ if-drop (drop_packet c) (v.owes_drop && nat_le v.ended_at forced) v.txn.last))
      (is-all ∙ ap (λ d. third ++ d) (ap option_to_list is-last ∙ if-came came (pending c v.txn v.clock)))
      ∙ sym (ap put-at at)
    where
      put-at : ℕ → List Packet
      put-at n =
          old ++ (((map (ack_packet c) (acks v.inbox n) ++ map Data (due_messages v.outbox n)) ++ cond (v.owes_drop && nat_le v.ended_at n) (map (drop_packet c) (option_to_list v.txn.last)) []) ++ cond came (option_to_list (pending c v.txn v.clock)) [])

-- a test of what is in hand, played first
pub played-first : {A B C : Type 0} (f : A → B) (g : B → Option C) (o : Option A) → option_and_then g (option_map f o) ≡ option_and_then (λ x. g (f x)) o
played-first f g None = refl
played-first f g (Some x) = refl
