-- The world of the scene is explained.
use Rattle.std.proofs.Common.{◌≡◌, refl, ◌∙◌, ap, sym, subst, ℕ, zero, suc, ◌≤◌, ◌==◌, ℤ, true, List, [], find, length, Option, Some, arith, ◌⊎◌, inl, inr}
use Rattle.std.specs.Prelude.{⊤, Contains, IsSomeAnd, IsTrue, MatchOption}
use Rattle.std.specs.declared.alloc.Global.{Global}
use Rattle.std.proofs.lemmas.Option.{same_Some}
use Rattle.ic_base.specs.declared.messages.AbortCause.TheVariants.{Epoch as Epochs}
use Rattle.ic_base.specs.declared.messages.ComId.{ComId}
use Rattle.ic_base.specs.declared.messages.Decision.{Decision}
use Rattle.ic_base.specs.declared.messages.Decision.TheVariants.{Aborted}
use Rattle.ic_base.specs.declared.messages.Packet.{Packet}
use Rattle.ic_base.specs.declared.messages.Packet.TheVariants as packets
use Rattle.ic_base.specs.declared.messages.Session.{Session}
use Rattle.ic_base.specs.declared.record.Record.{Record}
use Rattle.ic_base.specs.Programs.{is_a_pcom, same_com}
use Rattle.def_plain.specs.Scenes.{com_at}
use Rattle.def_state.specs.Names.{Identity}
use Rattle.def_state.specs.Positions.{end_of}
use Rattle.def_state.specs.Outbox.{Held}
use Rattle.def_state.specs.Inbox.{Receipt}
use Rattle.def_state.specs.Hist.{Hist}
use Rattle.def_state.specs.Mirrors.{Mirrors}
use Rattle.def_step.specs.Packets.{sender_of}
use Rattle.def_step.specs.Tcom.{Verdict, decided_at, is_of}
use Rattle.def_step.specs.World.{node_at}
use Rattle.def_facts.specs.Logs.{log_at, is_kept, has_outcome, last_shown}
use Rattle.def_facts.specs.Pcom.{state_after, IsForcedWith, MayInstall, VolatileFacts}
use Rattle.def_facts.specs.Tcom.{TcomStateFacts}
use Rattle.def_facts.specs.World.{HasRequest, HasCommit, ShowingFacts, PacketFacts, IsMirrored, IsServed, kind_of, is_of_kind, forced_logs, whole_logs, shown_by}
use Rattle.law_replay.proofs.Lists.{true-false, empty, equal-numbers, back, mapped, some-at}
use Rattle.law_replay.proofs.Members.{found as there-is}
use Rattle.law_found.specs.Trade.{trade, the_session, other_put, the_note, bought, told, buyer_log, clerk_log, bank_sent, buyer_received, clerk_received, trade_past}
use Rattle.law_found.specs.SceneWorlds.{bank, buyer, clerk, the_book, trade_world, WorldIsExplained}
use Rattle.law_found.proofs.Bank.{OfReply, logs_are_explained}
use Rattle.law_found.proofs.SceneRecords.{each}
use Rattle.law_found.proofs.SceneStates.{buyer-replays, clerk-replays}

zero-le : (n : ℕ) → 0 ≤ n
zero-le n = omega arith

-- all is forced, and may leave
forced : (log : List Record) (P : Type 0) → P → IsForcedWith log log 0 P
forced log P h = (zero-le (end_of log), ((λ p. zero-le (end_of log)), (λ le. h)))

module _ (a : Global) where
  buyer-state : VolatileFacts (trade a) (com_at 1) buyer buyer_received
  buyer-state = record {
    played = buyer_log;
    rest_stands = refl;
    mirrors = some-at (Mirrors buyer.vol) (state_after (trade a) (com_at 1) buyer_received buyer_log) bought (buyer-replays a) (record { vars = refl; clock = refl; hand = refl; now = refl; txn = refl; held = refl; links = refl; taken = refl; waiting = refl; made = refl });
    rest_waits = tt;
    rest_forced = λ is. refl;
    inputs_forced = refl;
    held_at = λ x h.
        each (λ (y : Held). IsForcedWith buyer_log buyer_log y.at (IsSomeAnd (state_after (trade a) (com_at 1) buyer_received buyer_log) (λ g. Contains g.sent y.msg))) buyer.vol.outbox.held
        (forced buyer_log _ (some-at (λ (g : Hist). Contains g.sent the_note) (state_after (trade a) (com_at 1) buyer_received buyer_log) bought (buyer-replays a) (0, omega arith, refl)), tt) x h;
    shelved_at = λ x h. empty x h;
    received_at = λ x h. empty x h;
    ended_at = λ t n is. forced buyer_log (IsTrue (has_outcome buyer_log n)) (subst (λ m. IsTrue (has_outcome buyer_log m)) (ap (λ (x : ComId × ℕ). x.1) (same_Some (com_at 0, 1) (t, n) is)) refl);
    receipt_taken = λ x h. empty x h;
    stable_received = λ x h is. each (λ (y : Held). Contains buyer_received (packets.Stable y.msg.to (com_at 1) y.msg.k)) buyer.vol.outbox.held ((2, omega arith, refl), tt) x h;
    installed_kept = λ x h. empty x h;
    open_begun = λ is. true-false (sym is);
    committing_forced = λ up is. true-false is;
  }

  clerk-state : VolatileFacts (trade a) (com_at 2) clerk clerk_received
  clerk-state = record {
    played = clerk_log;
    rest_stands = refl;
    mirrors = some-at (Mirrors clerk.vol) (state_after (trade a) (com_at 2) clerk_received clerk_log) told (clerk-replays a) (record { vars = refl; clock = refl; hand = refl; now = refl; txn = refl; held = refl; links = refl; taken = refl; waiting = refl; made = refl });
    rest_waits = tt;
    rest_forced = λ is. refl;
    inputs_forced = refl;
    held_at = λ x h. empty x h;
    shelved_at = λ x h. empty x h;
    received_at = λ x h.
        each (λ (y : Receipt). IsForcedWith clerk_log clerk_log y.at (IsSomeAnd (state_after (trade a) (com_at 2) clerk_received clerk_log) (λ g. Contains g.plain.receipts (y.name.peer, y.name.k)))) clerk.vol.inbox.receipts
        (forced clerk_log _ (some-at (λ (g : Hist). Contains g.plain.receipts (com_at 1, 1)) (state_after (trade a) (com_at 2) clerk_received clerk_log) told (clerk-replays a) (0, omega arith, refl)), tt) x h;
    ended_at = λ t n is. forced clerk_log (IsTrue (has_outcome clerk_log n)) (subst (λ m. IsTrue (has_outcome clerk_log m)) (ap (λ (x : ComId × ℕ). x.1) (same_Some (com_at 0, 1) (t, n) is)) refl);
    receipt_taken = λ x h. each (λ (y : Receipt). Contains clerk.vol.inbox.taken y.name) clerk.vol.inbox.receipts ((0, omega arith, refl), tt) x h;
    stable_received = λ x h is. empty x h;
    installed_kept = λ x h may. each (λ (y : Identity). MayInstall clerk y → IsTrue (is_kept clerk_log y)) clerk.vol.inbox.taken (never, tt) x h may;
    open_begun = λ is. true-false (sym is);
    committing_forced = λ up is. true-false is;
  }
    where
      one : Identity
      one = record { peer = com_at 1; k = 1 }

      -- the receipt is open, and not covered
      never : MayInstall clerk one → IsTrue (is_kept clerk_log one)
      never (inl none) = true-false (sym none)
      never (inr r) = each (λ (y : Receipt). IsTrue y.covered → IsTrue (is_kept clerk_log one)) clerk.vol.inbox.receipts ((λ covered. true-false covered), tt) r.0 r.1 r.3

  bank-state : TcomStateFacts (trade a) (com_at 0) bank bank_sent (trade_past.received (com_at 0))
  bank-state = record {
    books = refl;
    sessions = λ s h. empty s h;
    one_session = λ r s h. empty r h;
    one_holder = λ r s key h. empty r h;
    declared = λ s key h. empty s h;
    own_numbers = λ r s h. empty r h;
    reply_counter = λ c n place session v h is. each (OfReply (λ d m p s x. s.counter ≤ 1)) bank_sent (omega arith, (tt, (tt, tt))) (packets.OpReply (com_at 0) c n place session v) h;
    reply_sitting = λ s c n place v h. empty s h;
    least_told = λ c. inl refl;
    decided_served = λ c n stamp e. served c n stamp e;
  }
    where
      served : (c : ComId) (n stamp : ℕ) → decided_at the_book c n ≡ Some stamp → n ≤ 1
      served c n stamp e =
          let v = mapped (λ (v : Verdict). v.stamp) (find (is_of c n) the_book.decided) stamp e in
          let z = there-is (is_of c n) the_book.decided v.0 v.1 in
          subst (λ m. m ≤ 1) (sym (equal-numbers n v.0.n (back (same_com c v.0.peer) (n == v.0.n) z.1))) (each (λ (w : Verdict). w.n ≤ 1) the_book.decided (omega arith, tt) v.0 z.0)

  -- what is said of an outcome among the packets
  abbrev OfOutcome : (ComId → ComId → ℕ → ℕ → Option Session → Decision → Type 0) → Packet → Type 0
  OfOutcome P (packets.Outcome from to n place session d) = P from to n place session d
  OfOutcome P p = ⊤

  abbrev NoEpoch : Decision → Type 0
  NoEpoch (Aborted (Epochs x y)) = ⊥
  NoEpoch d = ⊤

  packet-facts : PacketFacts trade_world trade_past
  packet-facts = record {
    sent = each (λ p. Contains (trade_past.sent (sender_of p)) p) trade_world.packets
        ((0, omega arith, refl), ((1, omega arith, refl), ((2, omega arith, refl), ((0, omega arith, refl), ((1, omega arith, refl), ((2, omega arith, refl), ((3, omega arith, refl), ((0, omega arith, refl), ((1, omega arith, refl), ((2, omega arith, refl), tt))))))))));
    numbered = λ i h. empty i h;
    epochs_rise = λ t c n place session x y h.
        absurd (each (OfOutcome (λ f d m p s e. NoEpoch e)) trade_world.packets (tt, (tt, (tt, (tt, (tt, (tt, (tt, (tt, (tt, (tt, tt)))))))))) (packets.Outcome t c n place session (Aborted (Epochs x y))) h);
    one_owner = λ t c d n m i j session v w h k.
        let x = owner t c n i session v h in let y = owner t d m j session w k in (x.0 ∙ sym y.0, x.1 ∙ sym y.1);
    outcomes_answer = λ t c n place session d h.
        each (OfOutcome (λ f e m p s z. HasRequest trade_world.packets e f m p s ⊎ HasCommit trade_world.packets e f m p s)) trade_world.packets
        (tt, (inl (other_put, (7, omega arith, refl)), (inr (the_session, 1, refl, (4, omega arith, refl)), (tt, (tt, (tt, (tt, (tt, (tt, (tt, tt)))))))))) (packets.Outcome t c n place session d) h;
  }
    where
      owner : (t c : ComId) (n i : ℕ) (session : Session) (v : ℤ) → Contains trade_world.packets (packets.OpReply t c n i session v) → (c ≡ com_at 1) × (n ≡ 1)
      owner t c n i session v h = each (OfReply (λ d m p s x. (d ≡ com_at 1) × (m ≡ 1))) trade_world.packets ((refl, refl), (tt, (tt, (tt, (tt, (tt, (tt, (tt, (tt, (tt, tt)))))))))) (packets.OpReply t c n i session v) h

pub world_is_explained : WorldIsExplained
world_is_explained a = record {
  kinds = λ c. kind c.0;
  logs = logs_are_explained a;
  pcoms = λ c. pcom c.0;
  tcoms = λ t. tcom t.0;
  packets = packet-facts a;
  showings = λ c is. shows c.0 is;
  shown_by = λ c o h. empty (c, o) h;
}
  where
    kind : (i : ℕ) → is_of_kind (kind_of (trade a) (com_at i)) (node_at trade_world (com_at i)) ≡ true
    kind zero = refl
    kind (suc zero) = refl
    kind (suc (suc zero)) = refl
    kind (suc (suc (suc i))) = refl

    pcom : (i : ℕ) → MatchOption (node_at trade_world (com_at i)) ⊤ (IsMirrored (trade a) (com_at i) (trade_past.received (com_at i)))
    pcom zero = tt
    pcom (suc zero) = buyer-state a
    pcom (suc (suc zero)) = clerk-state a
    pcom (suc (suc (suc i))) = tt

    tcom : (i : ℕ) → MatchOption (node_at trade_world (com_at i)) ⊤ (IsServed (trade a) (com_at i) (trade_past.sent (com_at i)) (trade_past.received (com_at i)))
    tcom zero = bank-state a
    tcom (suc zero) = tt
    tcom (suc (suc zero)) = tt
    tcom (suc (suc (suc i))) = tt

    none-shown : (log : List Record) (h : Hist) → last_shown log ≡ 0 → ShowingFacts [] log log 0 h []
    none-shown log h none = record {
      top = 0;
      found_forced = zero-le (last_shown log);
      forced_all = le-same (last_shown log);
      recorded_shown = omega (arith, none);
      top_made = zero-le (length h.plain.outs);
      here_recorded = zero-le (last_shown log);
      firsts_are = refl;
      each_made = λ o x. empty o x;
    }
      where
        le-same : (n : ℕ) → n ≤ n
        le-same n = omega arith

    shows : (i : ℕ) → IsTrue (is_a_pcom (trade a) (com_at i)) → IsSomeAnd (state_after (trade a) (com_at i) (trade_past.received (com_at i)) (log_at (forced_logs trade_world) (com_at i)))
        (λ h. ShowingFacts (log_at [] (com_at i)) (log_at (forced_logs trade_world) (com_at i)) (log_at (whole_logs trade_world) (com_at i)) 0 h (shown_by (com_at i) trade_world.showings))
    shows zero is = true-false is
    shows (suc zero) is = some-at (λ h. ShowingFacts [] buyer_log buyer_log 0 h []) (state_after (trade a) (com_at 1) buyer_received buyer_log) bought (buyer-replays a) (none-shown buyer_log bought refl)
    shows (suc (suc zero)) is =
        some-at (λ h. ShowingFacts [] clerk_log clerk_log 0 h []) (state_after (trade a) (com_at 2) clerk_received clerk_log) told (clerk-replays a)
        (none-shown clerk_log told refl)
    shows (suc (suc (suc i))) is = true-false is
