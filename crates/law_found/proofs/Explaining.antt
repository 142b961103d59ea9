-- The facts of a Tcom over found logs, and the whole.
use Rattle.std.proofs.Common.{◌≡◌, refl, ◌∙◌, ap, sym, subst, ℕ, ◌≤◌, true, false, List, ◌∷◌, length, ℤ, Option, Some, ◌⊎◌, inl, inr}
use Rattle.std.specs.Prelude.{Contains, IsTrue, IsFalse}
use Rattle.std.proofs.lemmas.List.Elements.{Contains-append_right}
use Rattle.std.proofs.lemmas.Option.{same_Some}
use Rattle.ic_base.specs.declared.messages.ComId.{ComId}
use Rattle.ic_base.specs.declared.messages.Session.{Session}
use Rattle.ic_base.specs.declared.messages.AbortCause.{AbortCause}
use Rattle.ic_base.specs.declared.messages.Decision.{Decision}
use Rattle.ic_base.specs.declared.messages.Decision.TheVariants.{Committed, Aborted}
use Rattle.ic_base.specs.declared.messages.Packet.{Packet}
use Rattle.ic_base.specs.declared.messages.Packet.TheVariants as packets
use Rattle.ic_base.specs.declared.scenario.Program.{Program}
use Rattle.ic_base.specs.declared.record.Record.TheVariants.{Value, Outcome}
use Rattle.def_plain.specs.Plain.{PlainWorld}
use Rattle.def_state.specs.Hist.{Begun}
use Rattle.def_step.specs.Packets.{sender_of}
use Rattle.def_facts.specs.Logs.{Logs, log_at, decisions_on}
use Rattle.law_found.specs.Past.{packets_told}
use Rattle.law_replay.proofs.Prefixes.{prefix-self}
use Rattle.law_replay.proofs.Lists.{in-head, open-content, clash}
use Rattle.law_replay.proofs.Lists.{contains-split}
use Rattle.law_found.proofs.Past.{in-sent, from-sent, from-received, begun_of, Origin, origin}
use Rattle.law_found.proofs.Pcoms.{Found, past_told, one-kind, value-in, asked-of}
use Rattle.law_found.proofs.Told.{not-committed}
use Rattle.law_found.proofs.Lasting.{reply-tcom, pcom-facts}
use Rattle.def_facts.specs.Logs.{epoch_of}
use Rattle.def_facts.specs.Tcom.{AbortIs, is_answer, TcomLogFacts}
use Rattle.ic_base.specs.declared.messages.AbortCause.TheVariants.{Epoch as Epochs}
use Rattle.ic_base.specs.Programs.{is_a_pcom, is_a_tcom}
use Rattle.law_found.specs.Past.{FoundLogsAreExplained}
use Rattle.law_found.proofs.Ordered.{logs_are_in_order}
use Rattle.law_found.proofs.Putting.{sender-is}
use Rattle.law_found.proofs.Deciding.{decided-facts}
use Rattle.law_replay.proofs.Members.{no-items}

-- the Tcom ------------------------------------------------------------------------------------------------

tcom-facts : (program : Program) (logs : Logs) (w : PlainWorld) → Found program logs w → (t : ComId) → IsTrue (is_a_tcom program t) → TcomLogFacts program t (length (log_at logs t)) (log_at logs t) ((past_told program logs w).sent t) ((past_told program logs w).received t)
tcom-facts program logs w f t is_t = record {
  reads = f.sound.tcoms_read t is_t;
  reply_epoch = reply_epoch;
  reply_once = reply_once;
  decisions = decided-facts program logs w f t is_t;
  commits_stand = commits_stand;
  aborts_are = aborts_are;
  answers_only = answers_only;
}
  where
    sent : List Packet
    sent = (past_told program logs w).sent t

    received : List Packet
    received = (past_told program logs w).received t

    of : (p : Packet) → Contains sent p → Origin program logs w p
    of p h = origin program logs w p (from-sent (packets_told program logs w) t p h).0

    reply_epoch : (c : ComId) (n place : ℕ) (session : Session) (v : ℤ) → Contains sent (packets.OpReply t c n place session v) → session.epoch ≤ epoch_of (log_at logs t)
    reply_epoch c n place session v h =
        let o = of (packets.OpReply t c n place session v) h in
        let z = contains-split (log_at logs c) (Value n place session v) o.stands in
        let x = open-content (λ (b : Begun). session.epoch ≤ epoch_of (log_at logs b.tcom)) (begun_of program logs w c n) (f.sound.value_epoch c z.0 z.1 n place session v z.2) in
        subst (λ u. session.epoch ≤ epoch_of (log_at logs u)) (ap (λ (b : Begun). b.tcom) (same_Some x.0 o.begun (sym x.1 ∙ o.is_begun)) ∙ o.is_tcom) x.2

    reply_once : (c : ComId) (n place : ℕ) (session : Session) (v u : ℤ) → Contains sent (packets.OpReply t c n place session v) → Contains sent (packets.OpReply t c n place session u) → v ≡ u
    reply_once c n place session v u h k =
        let o = of (packets.OpReply t c n place session v) h in
        let r = of (packets.OpReply t c n place session u) k in
        let a = asked-of program logs w f c (reply-tcom program logs w f t c n place session v o).0 n in
        same_Some v u (sym (value-in program logs w c n a place session v o.stands).0 ∙ (value-in program logs w c n a place session u r.stands).0)

    stamp-of : (a b : ℕ) → Committed a ≡ Committed b → a ≡ b
    stamp-of a b e = ap number e
      where
        number : Decision → ℕ
        number (Committed i) = i
        number (Aborted cause) = 0

    commits_stand : (c : ComId) (n place : ℕ) (session : Option Session) (stamp : ℕ) → Contains sent (packets.Outcome t c n place session (Committed stamp)) → Contains (decisions_on (log_at logs t) c n) stamp
    commits_stand c n place session stamp h =
        let o = of (packets.Outcome t c n place session (Committed stamp)) h in
        subst (Contains (decisions_on (log_at logs t) c n)) (stamp-of o.stamp stamp o.is_decision) (subst (λ u. Contains (decisions_on (log_at logs u) c n) o.stamp) o.is_tcom o.decided)

    aborts_are : (c : ComId) (n place : ℕ) (session : Option Session) (cause : AbortCause) → Contains sent (packets.Outcome t c n place session (Aborted cause)) → AbortIs t (log_at logs t) (length (log_at logs t)) received c n place session cause
    aborts_are c n place session cause h = let o = of (packets.Outcome t c n place session (Aborted cause)) h in absurd (differ o.stamp o.is_decision)
      where
        differ : (i : ℕ) → Committed i ≡ Aborted cause → ⊥
        differ i e = cc

    answers_only : (p : Packet) → Contains sent p → IsTrue (is_answer p)
    answers_only p h = by (sender-is program logs w f p (of p h))
      where
        by : ((is_answer p ≡ true) × IsTrue (is_a_tcom program (sender_of p))) ⊎ ((is_answer p ≡ false) × IsTrue (is_a_pcom program (sender_of p))) → IsTrue (is_answer p)
        by (inl x) = x.0
        by (inr x) = one-kind program t (subst (λ u. IsTrue (is_a_pcom program u)) (from-sent (packets_told program logs w) t p h).1 x.1) is_t

-- the whole -----------------------------------------------------------------------------------------------

pub found_logs_are_explained : FoundLogsAreExplained
found_logs_are_explained program logs w play list sound = record {
  one_each = (list.one_each, list.one_each);
  found_forced = λ c. prefix-self (log_at logs c);
  forced_all = λ c. prefix-self (log_at logs c);
  pcoms = λ c is. pcom-facts program logs w f c is;
  tcoms = λ t is. (refl, tcom-facts program logs w f t is);
  others = λ c p t. (list.others c p t, no-items ((past_told program logs w).sent c) (λ x h. nobody c p t x h));
  network = λ c p h. let x = from-received (packets_told program logs w) c p h in (x.1, in-sent (packets_told program logs w) (sender_of p) p x.0 refl);
  in_order = logs_are_in_order program logs w list sound;
  epochs_rise = λ c pre post stamp n x y st has. not-committed program logs w f c n stamp (Epochs x y) (subst (λ l. Contains l (Outcome stamp n (Some (Epochs x y)))) (sym st) (Contains-append_right pre (Outcome stamp n (Some (Epochs x y)) ∷ post) (Outcome stamp n (Some (Epochs x y))) (in-head (Outcome stamp n (Some (Epochs x y))) post))) has;
}
  where
    f : Found program logs w
    f = record { play = play; list = list; sound = sound }

    nobody : (c : ComId) → IsFalse (is_a_pcom program c) → IsFalse (is_a_tcom program c) → (p : Packet) → Contains ((past_told program logs w).sent c) p → ⊥
    nobody c not_p not_t p h = by (sender-is program logs w f p (origin program logs w p x.0))
      where
        x : Contains (packets_told program logs w) p × (sender_of p ≡ c)
        x = from-sent (packets_told program logs w) c p h

        by : ((is_answer p ≡ true) × IsTrue (is_a_tcom program (sender_of p))) ⊎ ((is_answer p ≡ false) × IsTrue (is_a_pcom program (sender_of p))) → ⊥
        by (inl y) = clash (is_a_tcom program c) (subst (λ u. IsTrue (is_a_tcom program u)) x.1 y.1) not_t
        by (inr y) = clash (is_a_pcom program c) (subst (λ u. IsTrue (is_a_pcom program u)) x.1 y.1) not_p
