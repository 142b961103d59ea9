-- A component that does nothing, and one that is stopped or crashes, keep the world explained.
use Rattle.std.proofs.Common.{◌≡◌, refl, ◌∙◌, ap, sym, subst, ℕ, ◌≤◌, true, List, [], ◌∷◌, ◌++◌, length, slice_set, Option, Some, None, option_to_list, arith}
use Rattle.std.specs.Prelude.{IsTrue, IsSomeAnd, MatchOption, ⊤}
use Rattle.std.specs.List.{list_any}
use Rattle.std.proofs.lemmas.List.{append-nil, length-append}
use Rattle.std.proofs.lemmas.List.Elements.{Contains-append_left}
use Rattle.std.proofs.lemmas.List.Folds.{list_any-append}
use Rattle.ic_base.specs.declared.messages.ComId.{ComId}
use Rattle.ic_base.specs.declared.messages.Kind.{Kind}
use Rattle.ic_base.specs.declared.messages.Kind.TheVariants as kinds
use Rattle.ic_base.specs.declared.messages.Packet.{Packet}
use Rattle.ic_base.specs.declared.messages.AbortCause.TheVariants.{Epoch as Epochs}
use Rattle.ic_base.specs.declared.events.Answer.{Answer}
use Rattle.ic_base.specs.declared.scenario.Program.{Program}
use Rattle.ic_base.specs.declared.record.Record.{Record}
use Rattle.ic_base.specs.declared.record.Record.TheVariants.{Outcome}
use Rattle.ic_base.specs.Programs.{is_a_pcom, is_a_tcom}
use Rattle.def_step.specs.World.{World, Node, Runs, Serves, Down, External, Done, node_at, just}
use Rattle.def_facts.specs.Logs.{Logs, log_at, IsPrefixOf, has_commit, commits, last_shown}
use Rattle.def_facts.specs.Pcom.{state_after, PcomLogFacts}
use Rattle.def_facts.specs.Tcom.{TcomLogFacts, OneOwner}
use Rattle.def_facts.specs.World.{Past, InOrder, ShowingFacts, IsExplainedBy, IsMirrored, IsServed, OutcomesAnswer, forced_of, records_of, forced_logs, whole_logs, is_of_kind, kind_of, shown_by}
use Rattle.law_replay.proofs.Lists.{empty, open-content, some-at, true-false, or-left}
use Rattle.law_replay.proofs.Prefixes.{prefix-self, stands-more}
use Rattle.law_replay.proofs.Narrowing.{in-order, pcoms_narrow}
use Rattle.law_step.proofs.Cross.{IsWith}
use Rattle.law_step.proofs.Nodes.{each-com, log-here, set-with}
use Rattle.law_step.proofs.Showings.{showing-stays}
use Rattle.law_step.proofs.Stepped.{Stepped}

-- nothing more ------------------------------------------------------------------------------------------

pub same-log : (program : Program) (c : ComId) (f a : List Record) (s r : List Packet) → PcomLogFacts program c f a s r → PcomLogFacts program c f a (s ++ []) (r ++ [])
same-log program c f a s r x = subst (λ z. PcomLogFacts program c f a z (r ++ [])) (sym (append-nil s)) (subst (PcomLogFacts program c f a s) (sym (append-nil r)) x)

pub same-book : (program : Program) (c : ComId) (old : ℕ) (a : List Record) (s r : List Packet) → TcomLogFacts program c old a s r → TcomLogFacts program c old a (s ++ []) (r ++ [])
same-book program c old a s r x = subst (λ z. TcomLogFacts program c old a z (r ++ [])) (sym (append-nil s)) (subst (TcomLogFacts program c old a s) (sym (append-nil r)) x)

-- the facts of a node are those of its log
pub node-logs : (program : Program) (found : Logs) (here : ComId → ℕ) (w : World) (past : Past) (c : ComId) (node : Node) → IsExplainedBy program found here w past → node_at w c ≡ Some node → IsTrue (is_a_pcom program c) → PcomLogFacts program c (forced_of node) (records_of node) (past.sent c) (past.received c)
node-logs program found here w past c node f is pcom =
    subst (λ l. PcomLogFacts program c l (records_of node) (past.sent c) (past.received c)) (log-here forced_of w c node is)
    (subst (λ l. PcomLogFacts program c (log_at (forced_logs w) c) l (past.sent c) (past.received c)) (log-here records_of w c node is) (f.logs.pcoms c pcom))

pub node-book : (program : Program) (found : Logs) (here : ComId → ℕ) (w : World) (past : Past) (c : ComId) (node : Node) → IsExplainedBy program found here w past → node_at w c ≡ Some node → IsTrue (is_a_tcom program c) →
    (forced_of node ≡ records_of node) × TcomLogFacts program c (length (log_at found c)) (records_of node) (past.sent c) (past.received c)
node-book program found here w past c node f is tcom =
    let x = f.logs.tcoms c tcom in
    (sym (log-here forced_of w c node is) ∙ x.0 ∙ log-here records_of w c node is, subst (λ l. TcomLogFacts program c (length (log_at found c)) l (past.sent c) (past.received c)) (log-here records_of w c node is) x.1)

pub node-showing : (program : Program) (found : Logs) (here : ComId → ℕ) (w : World) (past : Past) (c : ComId) (node : Node) → IsExplainedBy program found here w past → node_at w c ≡ Some node → IsTrue (is_a_pcom program c) →
    IsSomeAnd (state_after program c (past.received c) (forced_of node)) (λ h. ShowingFacts (log_at found c) (forced_of node) (records_of node) (here c) h (shown_by c w.showings))
node-showing program found here w past c node f is pcom =
    subst (λ l. IsSomeAnd (state_after program c (past.received c) l) (λ h. ShowingFacts (log_at found c) l (records_of node) (here c) h (shown_by c w.showings))) (log-here forced_of w c node is)
    (subst (λ l. IsSomeAnd (state_after program c (past.received c) (log_at (forced_logs w) c)) (λ h. ShowingFacts (log_at found c) (log_at (forced_logs w) c) l (here c) h (shown_by c w.showings))) (log-here records_of w c node is) (f.showings c pcom))

pub node-found : (program : Program) (found : Logs) (here : ComId → ℕ) (w : World) (past : Past) (c : ComId) (node : Node) → IsExplainedBy program found here w past → node_at w c ≡ Some node → IsPrefixOf (log_at found c) (forced_of node)
node-found program found here w past c node f is = subst (IsPrefixOf (log_at found c)) (log-here forced_of w c node is) (f.logs.found_forced c)

-- logs that are with what stood are the same
pub same-order : (all later : Logs) (c : ComId) (log : List Record) → log_at all c ≡ log → IsWith all c log later → InOrder all → InOrder later
same-order all later c log is k x = in-order later all (each-com c (λ e. IsPrefixOf (log_at later e) (log_at all e))
    (subst (λ l. IsPrefixOf l (log_at all c)) (sym k.here) (subst (IsPrefixOf log) (sym is) (prefix-self log))) (λ e apart. subst (λ l. IsPrefixOf l (log_at all e)) (sym (k.others e apart)) (prefix-self (log_at all e)))) x

-- packets that stay
pub same-owners : (t : ComId) (xs : List Packet) → OneOwner t xs → OneOwner t (xs ++ [])
same-owners t xs x = subst (OneOwner t) (sym (append-nil xs)) x

pub same-outcomes : (xs : List Packet) → OutcomesAnswer xs → OutcomesAnswer (xs ++ [])
same-outcomes xs x = subst OutcomesAnswer (sym (append-nil xs)) x

-- a component that does nothing
pub still-stepped : (program : Program) (found : Logs) (here : ComId → ℕ) (w : World) (past : Past) (c : ComId) (node : Node) (answer : Answer) → IsExplainedBy program found here w past → node_at w c ≡ Some node → Stepped program found w past c node [] (just node answer) (here c)
still-stepped program found here w past c node answer f is = record {
  is_node = is;
  kind = λ e. e;
  found_forced = node-found program found here w past c node f is;
  pcom = λ p. same-log program c (forced_of node) (records_of node) (past.sent c) (past.received c) (node-logs program found here w past c node f is p);
  tcom = λ t. let x = node-book program found here w past c node f is t in (x.0, same-book program c (length (log_at found c)) (records_of node) (past.sent c) (past.received c) x.1);
  other = λ a b. let x = f.logs.others c a b in (sym (log-here records_of w c node is) ∙ x.0, append-nil (past.sent c) ∙ x.1);
  got_sent = λ p h. empty p h;
  in_order = λ later k. same-order (whole_logs w) later c (records_of node) (log-here records_of w c node is) k f.logs.in_order;
  epochs_rise = λ pre post stamp n x y st has. f.logs.epochs_rise c pre post stamp n x y (log-here records_of w c node is ∙ st) (subst (λ l. has_commit l n ≡ true) (append-nil (past.sent c)) has);
  mirrored = subst (λ r. IsMirrored program c r node) (sym (append-nil (past.received c))) (subst (λ o. MatchOption o ⊤ (IsMirrored program c (past.received c))) is (f.pcoms c));
  served = subst (λ s. IsServed program c s (past.received c ++ []) node) (sym (append-nil (past.sent c))) (subst (λ r. IsServed program c (past.sent c) r node) (sym (append-nil (past.received c))) (subst (λ o. MatchOption o ⊤ (IsServed program c (past.sent c) (past.received c))) is (f.tcoms c)));
  senders = λ p h. empty p h;
  aborts_rise = λ t e n place session x y h. empty _ h;
  one_owner = λ t. same-owners t w.packets (f.packets.one_owner t);
  outcomes_answer = same-outcomes w.packets f.packets.outcomes_answer;
  showing = λ p. subst (λ l. IsSomeAnd (state_after program c (past.received c ++ []) (forced_of node)) (λ h. ShowingFacts (log_at found c) (forced_of node) (records_of node) (here c) h l)) (sym (append-nil (shown_by c w.showings)))
      (subst (λ r. IsSomeAnd (state_after program c r (forced_of node)) (λ h. ShowingFacts (log_at found c) (forced_of node) (records_of node) (here c) h (shown_by c w.showings))) (sym (append-nil (past.received c))) (node-showing program found here w past c node f is p));
  shows = λ o e. absurd (cc);
}

-- a stop ------------------------------------------------------------------------------------------------

-- less was put out
unsent : (program : Program) (c : ComId) (f a : List Record) (s puts r : List Packet) → PcomLogFacts program c f a (s ++ puts) r → PcomLogFacts program c f a s r
unsent program c f a s puts r x = record {
  consistent = x.consistent;
  whole = record {
    replays = x.whole.replays;
    take_received = x.whole.take_received;
    whole_received = x.whole.whole_received;
    image_is = x.whole.image_is;
    value_received = x.whole.value_received;
    commit_received = x.whole.commit_received;
    abort_received = λ pre post n stamp cause st no_need has. x.whole.abort_received pre post n stamp cause st no_need (more n has);
    release_received = x.whole.release_received;
    need_recorded = x.whole.need_recorded;
  };
  lasting = record { packets_true = λ p h. x.lasting.packets_true p (Contains-append_left s puts p h); ends_well = x.lasting.ends_well };
  ends_well = x.ends_well;
}
  where
    more : (n : ℕ) → has_commit s n ≡ true → has_commit (s ++ puts) n ≡ true
    more n e = list_any-append (commits n) s puts ∙ or-left (list_any (commits n) s) (list_any (commits n) puts) e

down-kind : (node : Node) (log : List Record) → (node ≡ External → ⊥) → (k : Option Kind) → is_of_kind k (Some node) ≡ true → is_of_kind k (Some (Down log)) ≡ true
down-kind node log apart None e = e
down-kind (Runs p) log apart (Some kinds.Pcom) e = refl
down-kind (Runs p) log apart (Some kinds.Tcom) e = true-false e
down-kind (Runs p) log apart (Some kinds.Xcom) e = true-false e
down-kind (Serves x) log apart (Some kinds.Pcom) e = true-false e
down-kind (Serves x) log apart (Some kinds.Tcom) e = refl
down-kind (Serves x) log apart (Some kinds.Xcom) e = true-false e
down-kind (Down l) log apart (Some kinds.Pcom) e = refl
down-kind (Down l) log apart (Some kinds.Tcom) e = refl
down-kind (Down l) log apart (Some kinds.Xcom) e = true-false e
down-kind External log apart (Some k) e = absurd (apart refl)

forced-within : (node : Node) → IsPrefixOf (forced_of node) (records_of node)
forced-within (Runs p) = (p.log.buffered, refl)
forced-within (Serves x) = ([], sym (append-nil x.records))
forced-within (Down log) = ([], sym (append-nil log))
forced-within External = ([], refl)

prefix-none : (xs ys : List Record) → IsPrefixOf xs ys → ys ≡ [] → xs ≡ []
prefix-none [] ys p e = refl
prefix-none (x ∷ xs) ys p e = at (xs ++ p.0) (sym p.1 ∙ e)
  where
    at : (l : List Record) → x ∷ l ≡ [] → x ∷ xs ≡ []
    at l f = absurd (cc)

-- a step that is cut off behind its force: its records stand, nothing of it was put out or shown
pub stopped : (program : Program) (found : Logs) (here : ComId → ℕ) (w : World) (past : Past) (c : ComId) (node : Node) (got : List Packet) (d : Done) (life : ℕ) (answer : Answer) → IsExplainedBy program found here w past → Stepped program found w past c node got d life → (node ≡ External → ⊥) →
    (IsTrue (is_a_tcom program c) → TcomLogFacts program c (length (log_at found c)) (records_of d.node) (past.sent c) (past.received c ++ got)) → d.shown ≡ None → Stepped program found w past c node got (just (Down (forced_of d.node)) answer) 0
stopped program found here w past c node got d life answer f s disk book none = record {
  is_node = s.is_node;
  kind = down-kind node (forced_of d.node) disk (kind_of program c);
  found_forced = s.found_forced;
  pcom = λ p. subst (λ z. PcomLogFacts program c (forced_of d.node) (forced_of d.node) z (past.received c ++ got)) (sym (append-nil (past.sent c)))
      (let x = s.pcom p in pcoms_narrow program c (forced_of d.node) (records_of d.node) (forced_of d.node) (forced_of d.node) (past.sent c) (past.received c ++ got) (prefix-self (forced_of d.node)) (prefix-self (forced_of d.node)) (forced-within d.node) x.lasting.ends_well x.lasting.ends_well
      (unsent program c (forced_of d.node) (records_of d.node) (past.sent c) d.puts (past.received c ++ got) x));
  tcom = λ t. (refl, subst (λ z. TcomLogFacts program c (length (log_at found c)) (forced_of d.node) z (past.received c ++ got)) (sym (append-nil (past.sent c))) (subst (λ l. TcomLogFacts program c (length (log_at found c)) l (past.sent c) (past.received c ++ got)) (sym (s.tcom t).0) (book t)));
  other = λ a b. (prefix-none (forced_of d.node) (records_of d.node) (forced-within d.node) (s.other a b).0, append-nil (past.sent c) ∙ (f.logs.others c a b).1);
  got_sent = s.got_sent;
  in_order = λ later k. order later k;
  epochs_rise = λ pre post stamp n x y st has. s.epochs_rise pre (post ++ (forced-within d.node).0) stamp n x y (stands-more (records_of d.node) (forced_of d.node) (forced-within d.node).0 pre post (Outcome stamp n (Some (Epochs x y))) (forced-within d.node).1 st)
      (list_any-append (commits n) (past.sent c) d.puts ∙ or-left (list_any (commits n) (past.sent c)) (list_any (commits n) d.puts) (subst (λ l. has_commit l n ≡ true) (append-nil (past.sent c)) has));
  mirrored = tt;
  served = tt;
  senders = λ p h. empty p h;
  aborts_rise = λ t e n place session x y h. empty _ h;
  one_owner = λ t. same-owners t w.packets (f.packets.one_owner t);
  outcomes_answer = same-outcomes w.packets f.packets.outcomes_answer;
  showing = λ p.
      let h = open-content (λ h. ShowingFacts (log_at found c) (forced_of d.node) (records_of d.node) life h (shown_by c w.showings ++ option_to_list d.shown)) (state_after program c (past.received c ++ got) (forced_of d.node)) (s.showing p) in
      some-at (λ z. ShowingFacts (log_at found c) (forced_of d.node) (forced_of d.node) 0 z (shown_by c w.showings ++ [])) (state_after program c (past.received c ++ got) (forced_of d.node)) h.0 h.1
      (showing-stays (log_at found c) (forced_of d.node) (records_of d.node) (forced_of d.node) (forced_of d.node) life 0 h.0 h.0 (shown_by c w.showings ++ []) (subst (λ o. ShowingFacts (log_at found c) (forced_of d.node) (records_of d.node) life h.0 (shown_by c w.showings ++ option_to_list o)) none h.2)
      (prefix-self h.0.plain.outs) h.2.found_forced (self (last_shown (forced_of d.node))) h.2.forced_all (least (last_shown (forced_of d.node))));
  shows = λ o e. absurd (cc);
}
  where
    self : (n : ℕ) → n ≤ n
    self n = omega arith

    least : (n : ℕ) → 0 ≤ n
    least n = omega arith

    order : (later : Logs) → IsWith (whole_logs w) c (forced_of d.node) later → InOrder later
    order later k =
        let all = slice_set (whole_logs w) c.0 (records_of d.node) in
        let x : IsWith (whole_logs w) c (records_of d.node) all = set-with records_of w c node (records_of d.node) s.is_node in
        in-order later all (each-com c (λ e. IsPrefixOf (log_at later e) (log_at all e))
        (subst (λ l. IsPrefixOf l (log_at all c)) (sym k.here) (subst (IsPrefixOf (forced_of d.node)) (sym x.here) (forced-within d.node)))
        (λ e apart. subst (λ l. IsPrefixOf l (log_at all e)) (sym (k.others e apart)) (subst (IsPrefixOf (log_at (whole_logs w) e)) (sym (x.others e apart)) (prefix-self (log_at (whole_logs w) e)))))
        (s.in_order all x)

-- the log found is no longer than what is forced
pub found-within : (program : Program) (found : Logs) (here : ComId → ℕ) (w : World) (past : Past) (c : ComId) (node : Node) → IsExplainedBy program found here w past → node_at w c ≡ Some node → length (log_at found c) ≤ length (forced_of node)
found-within program found here w past c node f is = let p = node-found program found here w past c node f is in omega (arith, ap length p.1, length-append (log_at found c) p.0)
