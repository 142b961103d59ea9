-- What the step of a Tcom keeps, and so the world behind it is explained.
use Rattle.std.proofs.Common.{◌≡◌, refl, ◌∙◌, ap, sym, subst, ℕ, ◌<◌, ◌≤◌, Bool, true, false, cond, ℤ, List, [], ◌∷◌, ◌++◌, filter, length, Option, Some, inl, inr, ⊎_elim, arith}
use Rattle.std.specs.Prelude.{Contains, IsSome, MatchOption, ⊤}
use Rattle.std.proofs.lemmas.List.{append-nil, length-append}
use Rattle.std.proofs.lemmas.List.Elements.{Contains-append_left, Contains-append_right, Contains-append_cases}
use Rattle.ic_base.specs.declared.messages.AbortCause.TheVariants.{Epoch as Epochs}
use Rattle.ic_base.specs.declared.messages.ComId.{ComId}
use Rattle.ic_base.specs.declared.messages.Decision.TheVariants.{Aborted}
use Rattle.ic_base.specs.declared.messages.Session.{Session}
use Rattle.ic_base.specs.declared.messages.Packet.{Packet}
use Rattle.ic_base.specs.declared.messages.Packet.TheVariants as packets
use Rattle.ic_base.specs.declared.scenario.Program.{Program}
use Rattle.ic_base.specs.declared.record.Record.TheVariants as records
use Rattle.ic_base.specs.Programs.{same_com, is_a_tcom}
use Rattle.def_step.specs.Packets.{sender_of, receiver_of}
use Rattle.def_step.specs.Tcom.{Tcom, Served, book_of, tcom_step}
use Rattle.def_step.specs.World.{World, Serves, node_at, served_as}
use Rattle.def_facts.specs.Logs.{Logs, log_at, IsPrefixOf, decisions_on}
use Rattle.def_facts.specs.Tcom.{TcomLogFacts, TcomStateFacts, DecidedFacts, OneOwner}
use Rattle.def_facts.specs.World.{Past, InOrder, IsExplainedBy, IsServed, forced_of, records_of, forced_logs, whole_logs, is_of_kind, kind_of}
use Rattle.law_replay.proofs.Lists.{true-false, in-head, empty, head-or-tail, open-content, same-com, self-com}
use Rattle.law_replay.proofs.Members.{filter-has, filter-in}
use Rattle.law_replay.proofs.Prefixes.{prefix-trans}
use Rattle.law_tcom.specs.Engine.{IsRight, Asks}
use Rattle.law_tcom.proofs.Engines.{steps_keep_owners}
use Rattle.law_tcom.proofs.Lives.{new_aborts_rise, steps_keep_answering}
use Rattle.law_tcom.proofs.Recovering.{steps_keep_states, steps_keep_logs, moments_keep_logs, steps_add}
use Rattle.law_tcom.proofs.Rights.{puts_are_right}
use Rattle.law_step.proofs.Cross.{IsWith}
use Rattle.law_step.proofs.Nodes.{log-here}
use Rattle.law_step.proofs.Ordering.{not-both, undecided-order, decided-order}
use Rattle.law_step.proofs.PcomSteps.{same-owner}
use Rattle.law_step.proofs.Stepped.{Stepped}
use Rattle.law_step.proofs.TcomSteps.{serves-tcom, serving-stays, AddsOne, adds-one, no-outcome, logs-received, has-reply}

-- one owner of each session of t, among all packets of a world
owners : (t u : ComId) (xs ys : List Packet) → ((q : Packet) → Contains ys q → sender_of q ≡ t) → (OneOwner t (filter (λ q. same_com t (sender_of q)) xs) → OneOwner t (filter (λ q. same_com t (sender_of q)) xs ++ ys)) → OneOwner u xs → OneOwner u (xs ++ ys)
owners t u xs ys from keeps one = by (same_com t u) refl
  where
    narrow : (c : ComId) (n i : ℕ) (session : Session) (v : ℤ) → Contains (xs ++ ys) (packets.OpReply t c n i session v) → Contains (filter (λ q. same_com t (sender_of q)) xs ++ ys) (packets.OpReply t c n i session v)
    narrow c n i session v h = ⊎_elim
        (λ k. Contains-append_left (filter (λ q. same_com t (sender_of q)) xs) ys (packets.OpReply t c n i session v) (filter-in (λ q. same_com t (sender_of q)) xs (packets.OpReply t c n i session v) k (self-com t)))
        (λ k. Contains-append_right (filter (λ q. same_com t (sender_of q)) xs) ys (packets.OpReply t c n i session v) k)
        (Contains-append_cases xs ys (packets.OpReply t c n i session v) h)

    by : (b : Bool) → same_com t u ≡ b → OneOwner u (xs ++ ys)
    by false apart = same-owner u xs ys (λ c n i session v h. true-false (sym apart ∙ ap (same_com t) (from (packets.OpReply u c n i session v) h) ∙ self-com t)) one
    by true same = subst (λ d. OneOwner d (xs ++ ys)) (same-com t u same) (λ c d n m i j session v w hv hw.
        keeps (λ c2 d2 n2 m2 i2 j2 s2 v2 w2 a b. subst (λ z. OneOwner z xs) (sym (same-com t u same)) one c2 d2 n2 m2 i2 j2 s2 v2 w2 (filter-has (λ q. same_com t (sender_of q)) xs (packets.OpReply t c2 n2 i2 s2 v2) a).0 (filter-has (λ q. same_com t (sender_of q)) xs (packets.OpReply t d2 m2 j2 s2 w2) b).0)
        c d n m i j session v w (narrow c n i session v hv) (narrow d m j session w hw))

right-sender : (t : ComId) (x : Tcom) (p q : Packet) → IsRight t x p q → sender_of q ≡ t
right-sender t x p (packets.OpReply from c n place session v) r = r.0
right-sender t x p (packets.Outcome from c n place session d) r = r.0
right-sender t x p (packets.Data m) r = absurd r
right-sender t x p (packets.Stable from to k) r = absurd r
right-sender t x p (packets.Installed from to k) r = absurd r
right-sender t x p (packets.Fetch from to k) r = absurd r
right-sender t x p (packets.Op from to n place session q) r = absurd r
right-sender t x p (packets.Commit from to n place session stamp) r = absurd r
right-sender t x p (packets.Drop from to n) r = absurd r

pub tcom-stepped : (program : Program) (found : Logs) (here : ComId → ℕ) (w : World) (past : Past) (t : ComId) (x : Tcom) (number : ℕ) (p : Packet) → IsExplainedBy program found here w past → node_at w t ≡ Some (Serves x) → receiver_of p ≡ t → Contains w.packets p →
    Stepped program found w past t (Serves x) (p ∷ []) (served_as program t number p (tcom_step program t x p)) (here t)
tcom-stepped program found here w past t x number p f is_node to here_is = record {
  is_node = is_node;
  kind = serving-stays x v.tcom (kind_of program t);
  found_forced = prefix-trans (log_at found t) (log_at (forced_logs w) t) v.tcom.records (f.logs.found_forced t) (subst (λ l. IsPrefixOf l v.tcom.records) (sym (log-here forced_of w t (Serves x) is_node)) (v.adds, added));
  pcom = λ is. not-both program t is tcom;
  tcom = λ is. (refl, steps_keep_logs program t (length (log_at found t)) x (past.sent t) (past.received t) p to within state logs);
  other = λ a b. true-false (sym b ∙ tcom);
  got_sent = got_sent;
  in_order = order;
  epochs_rise = λ pre post stamp n a b st has. no-outcome program t v.tcom.records stamp n (Some (Epochs a b)) moments.reads (subst (λ l. Contains l (records.Outcome stamp n (Some (Epochs a b)))) (sym st) (Contains-append_right pre (records.Outcome stamp n (Some (Epochs a b)) ∷ post) (records.Outcome stamp n (Some (Epochs a b))) (in-head (records.Outcome stamp n (Some (Epochs a b))) post)));
  mirrored = tt;
  served = steps_keep_states program t x (past.sent t) (past.received t) p to state;
  senders = senders;
  aborts_rise = rises;
  one_owner = λ u. owners t u w.packets v.puts senders
      (steps_keep_owners program t x (past.sent t) (past.received t) (filter (λ q. same_com t (sender_of q)) w.packets) p to state
      (λ q h. let y = filter-has (λ q. same_com t (sender_of q)) w.packets q h in subst (λ d. Contains (past.sent d) q) (sym (same-com t (sender_of q) y.1)) (f.packets.sent q y.0)))
      (f.packets.one_owner u);
  outcomes_answer = steps_keep_answering program t x (past.sent t) (past.received t) w.packets p to state here_is f.packets.outcomes_answer;
  showing = λ is. not-both program t is tcom;
  shows = λ o e. absurd (cc);
}
  where
    v : Served
    v = tcom_step program t x p

    tcom : is_a_tcom program t ≡ true
    tcom = serves-tcom program t x (ap (is_of_kind (kind_of program t)) (sym is_node) ∙ f.kinds t)

    whole : log_at (whole_logs w) t ≡ x.records
    whole = log-here records_of w t (Serves x) is_node

    state : TcomStateFacts program t x (past.sent t) (past.received t)
    state = subst (λ o. MatchOption o ⊤ (IsServed program t (past.sent t) (past.received t))) is_node (f.tcoms t)

    logs : TcomLogFacts program t (length (log_at found t)) x.records (past.sent t) (past.received t)
    logs = subst (λ l. TcomLogFacts program t (length (log_at found t)) l (past.sent t) (past.received t)) (log-here records_of w t (Serves x) is_node) (f.logs.tcoms t tcom).1

    prefix : IsPrefixOf (log_at found t) x.records
    prefix = subst (IsPrefixOf (log_at found t)) (log-here forced_of w t (Serves x) is_node) (f.logs.found_forced t)

    within : length (log_at found t) ≤ length x.records
    within = omega (arith, ap length prefix.1, length-append (log_at found t) prefix.0)

    added : (tcom_step program t x p).tcom.records ≡ x.records ++ (tcom_step program t x p).adds
    added = steps_add program t x p

    got_sent : (q : Packet) → Contains (p ∷ []) q → (receiver_of q ≡ t) × Contains (past.sent (sender_of q)) q
    got_sent q h = ⊎_elim (λ e. subst (λ z. (receiver_of z ≡ t) × Contains (past.sent (sender_of z)) z) e (to, f.packets.sent p here_is)) (λ k. empty q k) (head-or-tail p q [] h)

    moments : TcomLogFacts program t (length (log_at found t)) (tcom_step program t x p).tcom.records (past.sent t) (past.received t ++ p ∷ [])
    moments = (moments_keep_logs program t (length (log_at found t)) x (past.sent t) (past.received t) p to within state logs).1

    right : (q : Packet) → Contains (tcom_step program t x p).puts q → IsRight t (tcom_step program t x p).tcom p q
    right q h = puts_are_right program t x (past.sent t) (past.received t) p q state h

    senders : (q : Packet) → Contains (tcom_step program t x p).puts q → sender_of q ≡ t
    senders q h = right-sender t (tcom_step program t x p).tcom p q (right q h)

    rises : (u e : ComId) (n place : ℕ) (session : Option Session) (a b : ℕ) → Contains (tcom_step program t x p).puts (packets.Outcome u e n place session (Aborted (Epochs a b))) → a < b
    rises u e n place session a b h =
        let r = right (packets.Outcome u e n place session (Aborted (Epochs a b))) h in
        let s : Session = r.2.0 in
        let is : session ≡ Some s = r.2.1 in
        let back = has-reply program found (forced_logs w) (whole_logs w) past f.logs t e n place s p to (f.packets.sent p here_is) (subst (Asks p e n place) is r.1) in
        new_aborts_rise program t (length (log_at found t)) x (past.sent t) (past.received t) p e n place s a b to within state logs
        (subst (λ z. Contains (tcom_step program t x p).puts (packets.Outcome t e n place z (Aborted (Epochs a b)))) is (subst (λ z. Contains (tcom_step program t x p).puts (packets.Outcome z e n place session (Aborted (Epochs a b)))) r.0 h))
        (back.0, back.1, Contains-append_left (past.sent t) (tcom_step program t x p).puts (packets.OpReply t e n back.0 s back.1) back.2)

    order : (later : Logs) → IsWith (whole_logs w) t (tcom_step program t x p).tcom.records later → InOrder later
    order later k = by (adds-one program t x p)
      where
        by : AddsOne (tcom_step program t x p) → InOrder later
        by (inl none) = undecided-order program found (forced_logs w) (whole_logs w) past f.logs t (tcom_step program t x p).tcom.records tcom
            (λ d n. ap (λ l. decisions_on l d n) (added ∙ ap (λ l. x.records ++ l) none ∙ append-nil x.records ∙ sym (log-here records_of w t (Serves x) is_node))) later k
        by (inr one) =
            let grown : (tcom_step program t x p).tcom.records ≡ x.records ++ records.Decided one.0 one.1 one.2 one.3 ∷ [] = added ∙ ap (λ l. x.records ++ l) one.4 in
            let all : (tcom_step program t x p).tcom.records ≡ log_at (whole_logs w) t ++ records.Decided one.0 one.1 one.2 one.3 ∷ [] = grown ∙ ap (λ l. l ++ records.Decided one.0 one.1 one.2 one.3 ∷ []) (sym (log-here records_of w t (Serves x) is_node)) in
            let b = open-content (λ b. DecidedFacts t (length (log_at found t)) (past.sent t) (past.received t ++ p ∷ []) (log_at (whole_logs w) t) b one.0 one.1 one.2 one.3) (book_of program t (log_at (whole_logs w) t)) (moments.decisions (log_at (whole_logs w) t) [] one.0 one.1 one.2 one.3 all) in
            decided-order program found (forced_logs w) (whole_logs w) (record { sent = past.sent; received = λ e. cond (same_com t e) (past.received e ++ p ∷ []) (past.received e) })
            (logs-received program found (forced_logs w) (whole_logs w) past f.logs t (p ∷ []) got_sent) t one.1 b.0 one.0 one.2 one.3 tcom
            (subst (λ r. DecidedFacts t (length (log_at found t)) (past.sent t) r (log_at (whole_logs w) t) b.0 one.0 one.1 one.2 one.3) (sym (ap (λ v. cond v (past.received t ++ p ∷ []) (past.received t)) (self-com t))) b.2)
            (subst (λ l. IsSome (book_of program t l)) all moments.reads) later (record { here = k.here ∙ all; others = k.others })
