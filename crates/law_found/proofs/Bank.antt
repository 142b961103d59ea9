-- The facts of the bank, and what joins the logs.
use Rattle.std.proofs.Common.{◌≡◌, refl, ◌∙◌, ap, sym, subst, ℕ, zero, suc, ◌<◌, ◌≤◌, ℤ, pos, false, List, [], ◌∷◌, length, slice_get, Option, Some, None, arith, inl}
use Rattle.std.specs.Prelude.{⊤, Contains, IsSomeAnd, IsTrue, MatchOption}
use Rattle.std.specs.declared.alloc.Global.{Global}
use Rattle.std.proofs.lemmas.Option.{same_Some}
use Rattle.ic_base.specs.declared.messages.AbortCause.{AbortCause}
use Rattle.ic_base.specs.declared.messages.AbortCause.TheVariants.{Epoch as Epochs}
use Rattle.ic_base.specs.declared.messages.ComId.{ComId}
use Rattle.ic_base.specs.declared.messages.Decision.TheVariants.{Committed, Aborted}
use Rattle.ic_base.specs.declared.messages.Packet.{Packet}
use Rattle.ic_base.specs.declared.messages.Packet.TheVariants as packets
use Rattle.ic_base.specs.declared.messages.Request.{Request}
use Rattle.ic_base.specs.declared.messages.Session.{Session}
use Rattle.ic_base.specs.declared.record.Record.{Record}
use Rattle.ic_base.specs.declared.record.Record.TheVariants.{Outcome, Decided}
use Rattle.ic_base.specs.Programs.{is_a_pcom, is_a_tcom}
use Rattle.def_plain.specs.History.{pcom_entry}
use Rattle.def_plain.specs.Scenes.{com_at}
use Rattle.def_step.specs.Packets.{sender_of, receiver_of}
use Rattle.def_step.specs.Tcom.{book_of}
use Rattle.def_facts.specs.Logs.{log_at, before_outcome, decisions_on}
use Rattle.def_facts.specs.Pcom.{PcomLogFacts}
use Rattle.def_facts.specs.Tcom.{DecidedFacts, AbortIs, is_answer, TcomLogFacts}
use Rattle.def_facts.specs.World.{IsBelow, InOrder}
use Rattle.law_replay.proofs.Lists.{none-some, true-false, empty}
use Rattle.law_replay.proofs.Prefixes.{prefix-self}
use Rattle.law_replay.proofs.Narrowing.{forced_family}
use Rattle.law_sound.proofs.Deciding.{decision-record}
use Rattle.law_sound.proofs.Given.{stands-in}
use Rattle.law_sound.proofs.Sound.{families_are_sound}
use Rattle.law_found.specs.Trade.{trade, the_session, the_put, other_put, bank_log, buyer_log, clerk_log, trade_logs, bank_sent, bank_received, buyer_received, clerk_received, trade_past}
use Rattle.law_found.specs.SceneExplained.{LogsAreExplained, LogsAreSound}
use Rattle.law_found.proofs.SceneRecords.{each, Splits, at-split}
use Rattle.law_found.proofs.SceneFacts.{buyer-facts, clerk-facts}

-- of an answer, of an outcome that commits or aborts, of a decision
abbrev pub OfReply : (ComId → ℕ → ℕ → Session → ℤ → Type 0) → Packet → Type 0
OfReply P (packets.OpReply from to n place session v) = P to n place session v
OfReply P p = ⊤

abbrev OfCommit : (ComId → ℕ → ℕ → Type 0) → Packet → Type 0
OfCommit P (packets.Outcome from to n place session (Committed stamp)) = P to n stamp
OfCommit P p = ⊤

abbrev OfAbort : (ComId → ℕ → ℕ → Option Session → AbortCause → Type 0) → Packet → Type 0
OfAbort P (packets.Outcome from to n place session (Aborted cause)) = P to n place session cause
OfAbort P p = ⊤

abbrev OfDecision : (ℕ → ComId → ℕ → Type 0) → Record → Type 0
OfDecision P (Decided stamp c n writes) = P stamp c n
OfDecision P r = ⊤

abbrev OfEpochAbort : Type 0 → Record → Type 0
OfEpochAbort P (Outcome stamp n (Some (Epochs x y))) = P
OfEpochAbort P r = ⊤

module _ (a : Global) where
  abbrev Says : List Record → Record → List Record → Type 0
  Says pre (Decided stamp c n writes) post = IsSomeAnd (book_of (trade a) (com_at 0) pre) (λ b. DecidedFacts (com_at 0) 0 bank_sent bank_received pre b stamp c n writes)
  Says pre r post = ⊤

  bank-says : Splits Says [] bank_log
  bank-says = (
    record {
      place = 1;
      session = the_session;
      asked_at = 1;
      commit_received = (2, omega arith, refl);
      stamp_above = λ le. omega arith;
      in_epoch = λ le. refl;
      requests = the_put ∷ [];
      few = omega arith;
      requests_received = one;
      writes_are = refl;
      replies_are = λ i v h. subst (λ j. slice_get (pos 30 ∷ []) j ≡ Some v) (sym (reply i v h).0) (ap (λ x. Some x) (sym (reply i v h).1));
    },
    tt,
  )
    where
      one : (i : ℕ) (q : Request) → slice_get (the_put ∷ []) i ≡ Some q → (s : Option Session) × (0 < i → s ≡ Some the_session) × Contains bank_received (packets.Op (com_at 1) (com_at 0) 1 i s q)
      one zero q e = (None, (λ lt. absurd (omega (arith, lt))), subst (λ x. Contains bank_received (packets.Op (com_at 1) (com_at 0) 1 0 None x)) (same_Some the_put q e) (0, omega arith, refl))
      one (suc i) q e = none-some q e

      reply : (i : ℕ) (v : ℤ) → Contains bank_sent (packets.OpReply (com_at 0) (com_at 1) 1 i the_session v) → (i ≡ 0) × (v ≡ pos 30)
      reply i v h = each (OfReply (λ c n place s x. (place ≡ 0) × (x ≡ pos 30))) bank_sent ((refl, refl), (tt, (tt, tt))) (packets.OpReply (com_at 0) (com_at 1) 1 i the_session v) h

  pub bank-facts : TcomLogFacts (trade a) (com_at 0) 0 bank_log bank_sent bank_received
  bank-facts = record {
    reads = refl;
    reply_epoch = λ c n place session v h. each (OfReply (λ d m p s x. s.epoch ≤ 1)) bank_sent (omega arith, (tt, (tt, tt))) (packets.OpReply (com_at 0) c n place session v) h;
    reply_once = λ c n place session v w h k. the-value c n place session v h ∙ sym (the-value c n place session w k);
    decisions = λ pre post stamp c n writes st. at-split Says [] bank_log bank-says pre (Decided stamp c n writes) post st;
    commits_stand = λ c n place session stamp h. each (OfCommit (λ d m s. Contains (decisions_on bank_log d m) s)) bank_sent (tt, (tt, ((0, omega arith, refl), tt))) (packets.Outcome (com_at 0) c n place session (Committed stamp)) h;
    aborts_are = λ c n place session cause h. each (OfAbort (λ d m p s x. AbortIs (com_at 0) bank_log 0 bank_received d m p s x)) bank_sent (tt, ((other_put, (1, omega arith, refl)), (tt, tt))) (packets.Outcome (com_at 0) c n place session (Aborted cause)) h;
    answers_only = each (λ p. IsTrue (is_answer p)) bank_sent (refl, (refl, (refl, tt)));
  }
    where
      the-value : (c : ComId) (n place : ℕ) (session : Session) (v : ℤ) → Contains bank_sent (packets.OpReply (com_at 0) c n place session v) → v ≡ pos 30
      the-value c n place session v h = each (OfReply (λ d m p s x. x ≡ pos 30)) bank_sent (refl, (tt, (tt, tt))) (packets.OpReply (com_at 0) c n place session v) h

-- the one decision ------------------------------------------------------------------------------------------

abbrev IsTheOne : ℕ → ComId → ℕ → Type 0
IsTheOne at c n = (at ≡ 2) × (c ≡ com_at 1) × (n ≡ 1)

decided-is : (t c : ComId) (n at : ℕ) → Contains (decisions_on (log_at trade_logs t) c n) at → IsTheOne at c n × (t ≡ com_at 0)
decided-is t c n at has = by t.0 (decision-record (log_at trade_logs t) c n at has)
  where
    by : (i : ℕ) → (w : List (ℕ × ℤ)) × Contains (log_at trade_logs (com_at i)) (Decided at c n w) → IsTheOne at c n × (com_at i ≡ com_at 0)
    by zero w = (each (OfDecision IsTheOne) bank_log ((refl, refl, refl), tt) (Decided at c n w.0) w.1, refl)
    by (suc zero) w = absurd (each (OfDecision (λ s d m. ⊥)) buyer_log (tt, (tt, (tt, (tt, tt)))) (Decided at c n w.0) w.1)
    by (suc (suc zero)) w = absurd (each (OfDecision (λ s d m. ⊥)) clerk_log (tt, (tt, (tt, tt))) (Decided at c n w.0) w.1)
    by (suc (suc (suc i))) w = empty (Decided at c n w.0) w.1

order : InOrder trade_logs
order = record {
  own = λ t c n at has r b.
      let d = decided-is t c n at has in
      let c_is = d.0.1 in
      let n_is = d.0.2 in
      subst (λ (u : ComId). MatchOption (pcom_entry c r) ⊤ (λ e. IsBelow e.stamp c at u)) (sym d.1)
      (subst (λ s. MatchOption (pcom_entry c r) ⊤ (λ e. IsBelow e.stamp c s (com_at 0))) (sym d.0.0)
      (subst (λ (x : ComId). MatchOption (pcom_entry x r) ⊤ (λ e. IsBelow e.stamp x 2 (com_at 0))) (sym c_is)
      (each (λ q. MatchOption (pcom_entry (com_at 1) q) ⊤ (λ e. IsBelow e.stamp (com_at 1) 2 (com_at 0))) (before_outcome buyer_log 1) (inl (omega arith), (tt, tt)) r
      (subst (λ m. Contains (before_outcome buyer_log m) r) n_is (subst (λ (x : ComId). Contains (before_outcome (log_at trade_logs x) n) r) c_is b)))));
  earlier = λ t u c n m at early has too lt.
      let x = (decided-is t c n at has).0.2 in
      let y = (decided-is u c m early too).0.2 in absurd (omega (arith, x, y, lt));
}

no-epochs : (i : ℕ) (stamp n x y : ℕ) → Contains (log_at trade_logs (com_at i)) (Outcome stamp n (Some (Epochs x y))) → ⊥
no-epochs zero stamp n x y h = each (OfEpochAbort ⊥) bank_log (tt, tt) (Outcome stamp n (Some (Epochs x y))) h
no-epochs (suc zero) stamp n x y h = each (OfEpochAbort ⊥) buyer_log (tt, (tt, (tt, (tt, tt)))) (Outcome stamp n (Some (Epochs x y))) h
no-epochs (suc (suc zero)) stamp n x y h = each (OfEpochAbort ⊥) clerk_log (tt, (tt, (tt, tt))) (Outcome stamp n (Some (Epochs x y))) h
no-epochs (suc (suc (suc i))) stamp n x y h = empty (Outcome stamp n (Some (Epochs x y))) h

-- each packet that was received was put out
abbrev Came : ℕ → Packet → Type 0
Came i p = (receiver_of p ≡ com_at i) × Contains (trade_past.sent (sender_of p)) p

came : (i : ℕ) (p : Packet) → Contains (trade_past.received (com_at i)) p → Came i p
came zero = each (Came 0) bank_received ((refl, (0, omega arith, refl)), ((refl, (0, omega arith, refl)), ((refl, (1, omega arith, refl)), tt)))
came (suc zero) = each (Came 1) buyer_received ((refl, (0, omega arith, refl)), ((refl, (2, omega arith, refl)), ((refl, (2, omega arith, refl)), tt)))
came (suc (suc zero)) = each (Came 2) clerk_received ((refl, (1, omega arith, refl)), ((refl, (2, omega arith, refl)), tt))
came (suc (suc (suc i))) = λ p h. empty p h

pub logs_are_explained : LogsAreExplained
logs_are_explained a = record {
  one_each = (refl, refl);
  found_forced = λ c. (log_at trade_logs c, refl);
  forced_all = λ c. prefix-self (log_at trade_logs c);
  pcoms = λ c is. pcom c.0 is;
  tcoms = λ t is. tcom t.0 is;
  others = λ c x y. other c.0 x y;
  network = λ c p h. came c.0 p h;
  in_order = order;
  epochs_rise = λ c pre post stamp n x y st. absurd (no-epochs c.0 stamp n x y (stands-in (log_at trade_logs c) pre post (Outcome stamp n (Some (Epochs x y))) st));
}
  where
    pcom : (i : ℕ) → IsTrue (is_a_pcom (trade a) (com_at i)) → PcomLogFacts (trade a) (com_at i) (log_at trade_logs (com_at i)) (log_at trade_logs (com_at i)) (trade_past.sent (com_at i)) (trade_past.received (com_at i))
    pcom zero is = true-false is
    pcom (suc zero) is = buyer-facts a
    pcom (suc (suc zero)) is = clerk-facts a
    pcom (suc (suc (suc i))) is = true-false is

    tcom : (i : ℕ) → IsTrue (is_a_tcom (trade a) (com_at i)) → (log_at trade_logs (com_at i) ≡ log_at trade_logs (com_at i)) × TcomLogFacts (trade a) (com_at i) (length (log_at [] (com_at i))) (log_at trade_logs (com_at i)) (trade_past.sent (com_at i)) (trade_past.received (com_at i))
    tcom zero is = (refl, bank-facts a)
    tcom (suc zero) is = true-false is
    tcom (suc (suc zero)) is = true-false is
    tcom (suc (suc (suc i))) is = true-false is

    other : (i : ℕ) → is_a_pcom (trade a) (com_at i) ≡ false → is_a_tcom (trade a) (com_at i) ≡ false → (log_at trade_logs (com_at i) ≡ []) × (trade_past.sent (com_at i) ≡ [])
    other zero x y = true-false (sym y)
    other (suc zero) x y = true-false (sym x)
    other (suc (suc zero)) x y = true-false (sym x)
    other (suc (suc (suc i))) x y = (refl, refl)

pub logs_are_sound : LogsAreSound
logs_are_sound a = families_are_sound (trade a) [] trade_logs trade_logs trade_logs trade_past (logs_are_explained a) (forced_family (trade a) [] trade_logs trade_logs trade_past (logs_are_explained a))
