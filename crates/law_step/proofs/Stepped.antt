-- A world in which one component has made a step is explained, where the component's own facts and what joins it to the others are kept.
use Rattle.std.proofs.Common.{◌≡◌, refl, ◌∙◌, ap, sym, subst, ℕ, zero, suc, ◌+◌, ◌<◌, ◌≤◌, ◌==◌, Bool, true, false, cond, List, [], ◌∷◌, ◌++◌, map, filter, length, slice_get, Option, Some, None, option_to_list, ◌⊎◌, inl, inr, ⊎_elim, arith}
use Rattle.std.specs.Prelude.{Contains, IsTrue, IsFalse, IsSome, IsSomeAnd, MatchOption, ⊤}
use Rattle.std.specs.List.{range_with_len}
use Rattle.std.proofs.lemmas.List.{append-nil}
use Rattle.std.proofs.lemmas.List.Elements.{Contains-append_left, Contains-append_right, Contains-append_cases, filter-append}
use Rattle.std.proofs.lemmas.List.{map-append}
use Rattle.ic_base.specs.declared.messages.ComId.{ComId}
use Rattle.ic_base.specs.declared.messages.Output.{Output}
use Rattle.ic_base.specs.declared.messages.Session.{Session}
use Rattle.ic_base.specs.declared.messages.AbortCause.TheVariants.{Epoch as Epochs}
use Rattle.ic_base.specs.declared.messages.Decision.TheVariants.{Aborted}
use Rattle.ic_base.specs.declared.messages.Packet.{Packet}
use Rattle.ic_base.specs.declared.messages.Packet.TheVariants as packets
use Rattle.ic_base.specs.declared.scenario.Program.{Program}
use Rattle.ic_base.specs.declared.record.Record.{Record}
use Rattle.ic_base.specs.declared.record.Record.TheVariants.{Outcome}
use Rattle.ic_base.specs.Programs.{same_com, is_a_pcom, is_a_tcom}
use Rattle.def_step.specs.Packets.{sender_of, receiver_of}
use Rattle.def_step.specs.World.{World, Node, Runs, Serves, Down, External, Done, node_at, packet_at, nth, world_with}
use Rattle.def_facts.specs.Logs.{Logs, log_at, IsPrefixOf, Stands, has_commit}
use Rattle.def_facts.specs.Pcom.{state_after, PcomLogFacts}
use Rattle.def_facts.specs.Tcom.{TcomLogFacts, OneOwner}
use Rattle.def_facts.specs.World.{Past, InOrder, ShowingFacts, IsMirrored, IsServed, IsExplainedBy, OutcomesAnswer, forced_of, records_of, forced_logs, whole_logs, is_by, shown_by, is_of_kind, kind_of}
use Rattle.law_replay.proofs.Lists.{self-com, head-or-tail, empty, true-false}
use Rattle.law_step.proofs.Cross.{IsWith}
use Rattle.law_step.proofs.Nodes.{each-com, log-same, log-other, logs-long, node-same, node-other}

-- the past in which c put out and received more
abbrev pub past_with : Past → ComId → List Packet → List Packet → Past
past_with past c puts got = record {
  sent = λ e. cond (same_com c e) (past.sent e ++ puts) (past.sent e);
  received = λ e. cond (same_com c e) (past.received e ++ got) (past.received e);
}

-- the greatest outputs of the present lives, with that of c
abbrev pub here_with : (ComId → ℕ) → ComId → ℕ → ComId → ℕ
here_with here c life e = cond (same_com c e) life (here e)

-- what a step of c from a node keeps, having got these packets
pub record Stepped (program : Program) (found : Logs) (w : World) (past : Past) (c : ComId) (node : Node) (got : List Packet) (d : Done) (life : ℕ) : Type 0 where
  pub is_node : node_at w c ≡ Some node
  pub kind : is_of_kind (kind_of program c) (Some node) ≡ true → is_of_kind (kind_of program c) (Some d.node) ≡ true
  pub found_forced : IsPrefixOf (log_at found c) (forced_of d.node)
  pub pcom : IsTrue (is_a_pcom program c) → PcomLogFacts program c (forced_of d.node) (records_of d.node) (past.sent c ++ d.puts) (past.received c ++ got)
  pub tcom : IsTrue (is_a_tcom program c) → (forced_of d.node ≡ records_of d.node) × TcomLogFacts program c (length (log_at found c)) (records_of d.node) (past.sent c ++ d.puts) (past.received c ++ got)
  pub other : IsFalse (is_a_pcom program c) → IsFalse (is_a_tcom program c) → (records_of d.node ≡ []) × (past.sent c ++ d.puts ≡ [])
  pub got_sent : (p : Packet) → Contains got p → (receiver_of p ≡ c) × Contains (past.sent (sender_of p)) p
  pub in_order : (all : Logs) → IsWith (whole_logs w) c (records_of d.node) all → InOrder all
  pub epochs_rise : (pre post : List Record) (stamp n x y : ℕ) → Stands (records_of d.node) pre (Outcome stamp n (Some (Epochs x y))) post → IsTrue (has_commit (past.sent c ++ d.puts) n) → x < y
  pub mirrored : IsMirrored program c (past.received c ++ got) d.node
  pub served : IsServed program c (past.sent c ++ d.puts) (past.received c ++ got) d.node
  pub senders : (p : Packet) → Contains d.puts p → sender_of p ≡ c
  pub aborts_rise : (t e : ComId) (n place : ℕ) (session : Option Session) (x y : ℕ) → Contains d.puts (packets.Outcome t e n place session (Aborted (Epochs x y))) → x < y
  pub one_owner : (t : ComId) → OneOwner t (w.packets ++ d.puts)
  pub outcomes_answer : OutcomesAnswer (w.packets ++ d.puts)
  pub showing : IsTrue (is_a_pcom program c) → IsSomeAnd (state_after program c (past.received c ++ got) (forced_of d.node)) (λ h. ShowingFacts (log_at found c) (forced_of d.node) (records_of d.node) life h (shown_by c w.showings ++ option_to_list d.shown))
  pub shows : (o : Output) → d.shown ≡ Some o → IsTrue (is_a_pcom program c)

pub forced-all : (node : Node) → IsPrefixOf (forced_of node) (records_of node)
forced-all (Runs p) = (p.log.buffered, refl)
forced-all (Serves x) = ([], sym (append-nil x.records))
forced-all (Down log) = ([], sym (append-nil log))
forced-all External = ([], refl)

-- the packets ---------------------------------------------------------------------------------------

nth-front : {A : Type 0} (xs ys : List A) (i : ℕ) → IsSome (nth xs i) → IsSome (nth (xs ++ ys) i)
nth-front xs ys zero some = true-false some
nth-front xs ys (suc i) some = at xs i some
  where
    at : (zs : List _) (j : ℕ) → IsSome (slice_get zs j) → IsSome (slice_get (zs ++ ys) j)
    at [] j s = true-false s
    at (z ∷ zs) zero s = refl
    at (z ∷ zs) (suc j) s = at zs j s

within : {A : Type 0} (us : List A) (k : ℕ) → k < length us → IsSome (slice_get us k)
within [] k h = absurd (omega (arith, h))
within (u ∷ us) zero h = refl
within (u ∷ us) (suc k) h = within us k (omega (arith, h))

behind : {A : Type 0} (zs ys : List A) (j : ℕ) → length zs ≤ j → j < length zs + length ys → IsSome (slice_get (zs ++ ys) j)
behind [] ys j le l = within ys j (omega (arith, l))
behind (z ∷ zs) ys zero le l = refl
behind (z ∷ zs) ys (suc j) le l = behind zs ys j (omega (arith, le)) (omega (arith, l))

nth-behind : {A : Type 0} (xs ys : List A) (i : ℕ) → length xs < i → i ≤ length xs + length ys → IsSome (nth (xs ++ ys) i)
nth-behind xs ys zero lt le = absurd (omega (arith, lt))
nth-behind xs ys (suc i) lt le = behind xs ys i (omega (arith, lt)) (omega (arith, le))

range-within : (from n i : ℕ) → Contains (range_with_len from n) i → (from ≤ i) × (i < from + n)
range-within from zero i h = empty i h
range-within from (suc n) i h = by (head-or-tail from i (range_with_len (from + 1) n) h) (range-within (from + 1) n i)
  where
    by : (from ≡ i) ⊎ Contains (range_with_len (from + 1) n) i → (Contains (range_with_len (from + 1) n) i → (from + 1 ≤ i) × (i < from + 1 + n)) → (from ≤ i) × (i < from + suc n)
    by (inl e) more = (omega (arith, e), omega (arith, e))
    by (inr k) more = let y = more k in (omega (arith, y.0), omega (arith, y.1))

numbered : (w : World) (puts : List Packet) → ((i : ℕ) → Contains w.waiting i → IsSome (packet_at w i)) → (i : ℕ) → Contains (w.waiting ++ range_with_len (length w.packets + 1) (length puts)) i → IsSome (nth (w.packets ++ puts) i)
numbered w puts old i h = by (Contains-append_cases w.waiting (range_with_len (length w.packets + 1) (length puts)) i h)
  where
    by : Contains w.waiting i ⊎ Contains (range_with_len (length w.packets + 1) (length puts)) i → IsSome (nth (w.packets ++ puts) i)
    by (inl k) = nth-front w.packets puts i (old i k)
    by (inr k) = let y = range-within (length w.packets + 1) (length puts) i k in nth-behind w.packets puts i (omega (arith, y.0)) (omega (arith, y.1))

-- the showings --------------------------------------------------------------------------------------

flip-com : (a b : ComId) → same_com a b ≡ false → same_com b a ≡ false
flip-com a b e = turn a.0 b.0 e
  where
    turn : (m n : ℕ) → (m == n) ≡ false → (n == m) ≡ false
    turn m n f = grind (arith, f)

pub shown-same : (c : ComId) (xs : List (ComId × Output)) (o : Option Output) → shown_by c (xs ++ map (λ y. (c, y)) (option_to_list o)) ≡ shown_by c xs ++ option_to_list o
shown-same c xs o = ap (map (λ x. x.1)) (filter-append (is_by c) xs (map (λ y. (c, y)) (option_to_list o))) ∙ map-append (λ x. x.1) (filter (is_by c) xs) (filter (is_by c) (map (λ y. (c, y)) (option_to_list o))) ∙ ap (λ l. shown_by c xs ++ l) (at o)
  where
    at : (u : Option Output) → shown_by c (map (λ y. (c, y)) (option_to_list u)) ≡ option_to_list u
    at None = refl
    at (Some y) = ap (λ b. map (λ (x : ComId × Output). x.1) (cond b ((c, y) ∷ []) [])) (self-com c)

pub shown-other : (c e : ComId) (xs : List (ComId × Output)) (o : Option Output) → same_com c e ≡ false → shown_by e (xs ++ map (λ y. (c, y)) (option_to_list o)) ≡ shown_by e xs
shown-other c e xs o apart = ap (map (λ x. x.1)) (filter-append (is_by e) xs (map (λ y. (c, y)) (option_to_list o)) ∙ ap (λ l. filter (is_by e) xs ++ l) (at o) ∙ append-nil (filter (is_by e) xs))
  where
    at : (u : Option Output) → filter (is_by e) (map (λ y. (c, y)) (option_to_list u)) ≡ []
    at None = refl
    at (Some y) = ap (λ b. cond b ((c, y) ∷ []) []) (flip-com c e apart)

-- the whole -----------------------------------------------------------------------------------------

-- the same facts of equal things
pcom-facts : (program : Program) (c : ComId) (f g a b : List Record) (s u r v : List Packet) → g ≡ f → b ≡ a → u ≡ s → v ≡ r → PcomLogFacts program c f a s r → PcomLogFacts program c g b u v
pcom-facts program c f g a b s u r v ef ea es er x =
    subst (λ z. PcomLogFacts program c z b u v) (sym ef) (subst (λ z. PcomLogFacts program c f z u v) (sym ea) (subst (λ z. PcomLogFacts program c f a z v) (sym es) (subst (λ z. PcomLogFacts program c f a s z) (sym er) x)))

tcom-facts : (program : Program) (c : ComId) (old : ℕ) (f g a b : List Record) (s u r v : List Packet) → g ≡ f → b ≡ a → u ≡ s → v ≡ r → (f ≡ a) × TcomLogFacts program c old a s r → (g ≡ b) × TcomLogFacts program c old b u v
tcom-facts program c old f g a b s u r v ef ea es er x =
    (ef ∙ x.0 ∙ sym ea, subst (λ z. TcomLogFacts program c old z u v) (sym ea) (subst (λ z. TcomLogFacts program c old a z v) (sym es) (subst (λ z. TcomLogFacts program c old a s z) (sym er) x.1)))

showing-facts : (program : Program) (c : ComId) (found f g a b : List Record) (here life : ℕ) (r v : List Packet) (xs ys : List Output) → g ≡ f → b ≡ a → life ≡ here → v ≡ r → ys ≡ xs →
    IsSomeAnd (state_after program c r f) (λ h. ShowingFacts found f a here h xs) → IsSomeAnd (state_after program c v g) (λ h. ShowingFacts found g b life h ys)
showing-facts program c found f g a b here life r v xs ys ef ea eh er ex x =
    subst (λ z. IsSomeAnd (state_after program c v z) (λ h. ShowingFacts found z b life h ys)) (sym ef)
    (subst (λ z. IsSomeAnd (state_after program c v f) (λ h. ShowingFacts found f z life h ys)) (sym ea)
    (subst (λ z. IsSomeAnd (state_after program c v f) (λ h. ShowingFacts found f a z h ys)) (sym eh)
    (subst (λ z. IsSomeAnd (state_after program c z f) (λ h. ShowingFacts found f a here h ys)) (sym er)
    (subst (λ z. IsSomeAnd (state_after program c r f) (λ h. ShowingFacts found f a here h z)) (sym ex) x))))

mirrored-at : (program : Program) (c : ComId) (o u : Option Node) (r v : List Packet) → u ≡ o → v ≡ r → MatchOption o ⊤ (IsMirrored program c r) → MatchOption u ⊤ (IsMirrored program c v)
mirrored-at program c o u r v eo er x = subst (λ z. MatchOption z ⊤ (IsMirrored program c v)) (sym eo) (subst (λ z. MatchOption o ⊤ (IsMirrored program c z)) (sym er) x)

served-at : (program : Program) (c : ComId) (o u : Option Node) (s z r v : List Packet) → u ≡ o → z ≡ s → v ≡ r → MatchOption o ⊤ (IsServed program c s r) → MatchOption u ⊤ (IsServed program c z v)
served-at program c o u s z r v eo es er x = subst (λ y. MatchOption y ⊤ (IsServed program c z v)) (sym eo) (subst (λ y. MatchOption o ⊤ (IsServed program c y v)) (sym es) (subst (λ y. MatchOption o ⊤ (IsServed program c s y)) (sym er) x))

pub stepped : (program : Program) (found : Logs) (here : ComId → ℕ) (w : World) (past : Past) (c : ComId) (node : Node) (got : List Packet) (d : Done) (life : ℕ) → IsExplainedBy program found here w past → Stepped program found w past c node got d life →
    IsExplainedBy program found (here_with here c life) (world_with w c d) (past_with past c d.puts got)
stepped program found here w past c node got d life f s = record {
  kinds = each-com c (λ e. is_of_kind (kind_of program e) (node_at (world_with w c d) e) ≡ true)
      (ap (is_of_kind (kind_of program c)) (node-same w c d node s.is_node) ∙ s.kind (ap (is_of_kind (kind_of program c)) (sym s.is_node) ∙ f.kinds c))
      (λ e apart. ap (is_of_kind (kind_of program e)) (node-other w c e d apart) ∙ f.kinds e);
  logs = record {
    one_each = (logs-long forced_of w c d ∙ f.logs.one_each.0, logs-long records_of w c d ∙ f.logs.one_each.1);
    found_forced = each-com c (λ e. IsPrefixOf (log_at found e) (log_at (forced_logs (world_with w c d)) e))
        (subst (IsPrefixOf (log_at found c)) (sym forced) s.found_forced)
        (λ e apart. subst (IsPrefixOf (log_at found e)) (sym (log-other forced_of w c e d apart)) (f.logs.found_forced e));
    forced_all = each-com c (λ e. IsPrefixOf (log_at (forced_logs (world_with w c d)) e) (log_at (whole_logs (world_with w c d)) e))
        (subst (IsPrefixOf (log_at (forced_logs (world_with w c d)) c)) (sym whole) (subst (λ l. IsPrefixOf l (records_of d.node)) (sym forced) (forced-all d.node)))
        (λ e apart. subst (IsPrefixOf (log_at (forced_logs (world_with w c d)) e)) (sym (log-other records_of w c e d apart)) (subst (λ l. IsPrefixOf l (log_at (whole_logs w) e)) (sym (log-other forced_of w c e d apart)) (f.logs.forced_all e)));
    pcoms = each-com c (λ e. IsTrue (is_a_pcom program e) → PcomLogFacts program e (log_at (forced_logs (world_with w c d)) e) (log_at (whole_logs (world_with w c d)) e) ((past_with past c d.puts got).sent e) ((past_with past c d.puts got).received e))
        (λ is. pcom-facts program c (forced_of d.node) _ (records_of d.node) _ (past.sent c ++ d.puts) _ (past.received c ++ got) _ forced whole sent received (s.pcom is))
        (λ e apart is. pcom-facts program e (log_at (forced_logs w) e) _ (log_at (whole_logs w) e) _ (past.sent e) _ (past.received e) _ (log-other forced_of w c e d apart) (log-other records_of w c e d apart) (sent-other e apart) (received-other e apart) (f.logs.pcoms e is));
    tcoms = each-com c (λ e. IsTrue (is_a_tcom program e) → (log_at (forced_logs (world_with w c d)) e ≡ log_at (whole_logs (world_with w c d)) e) × TcomLogFacts program e (length (log_at found e)) (log_at (whole_logs (world_with w c d)) e) ((past_with past c d.puts got).sent e) ((past_with past c d.puts got).received e))
        (λ is. tcom-facts program c (length (log_at found c)) (forced_of d.node) _ (records_of d.node) _ (past.sent c ++ d.puts) _ (past.received c ++ got) _ forced whole sent received (s.tcom is))
        (λ e apart is. tcom-facts program e (length (log_at found e)) (log_at (forced_logs w) e) _ (log_at (whole_logs w) e) _ (past.sent e) _ (past.received e) _ (log-other forced_of w c e d apart) (log-other records_of w c e d apart) (sent-other e apart) (received-other e apart) (f.logs.tcoms e is));
    others = each-com c (λ e. IsFalse (is_a_pcom program e) → IsFalse (is_a_tcom program e) → (log_at (whole_logs (world_with w c d)) e ≡ []) × ((past_with past c d.puts got).sent e ≡ []))
        (λ a b. let x = s.other a b in (whole ∙ x.0, sent ∙ x.1))
        (λ e apart a b. let x = f.logs.others e a b in (log-other records_of w c e d apart ∙ x.0, sent-other e apart ∙ x.1));
    network = each-com c (λ e. (p : Packet) → Contains ((past_with past c d.puts got).received e) p → (receiver_of p ≡ e) × Contains ((past_with past c d.puts got).sent (sender_of p)) p)
        (λ p h. ⊎_elim (λ k. let y = f.logs.network c p k in (y.0, sent-more (sender_of p) p y.1)) (λ k. let y = s.got_sent p k in (y.0, sent-more (sender_of p) p y.1)) (Contains-append_cases (past.received c) got p (subst (λ l. Contains l p) received h)))
        (λ e apart p h. let y = f.logs.network e p (subst (λ l. Contains l p) (received-other e apart) h) in (y.0, sent-more (sender_of p) p y.1));
    in_order = s.in_order (whole_logs (world_with w c d)) (record { here = whole; others = λ e apart. log-other records_of w c e d apart });
    epochs_rise = each-com c (λ e. (pre post : List Record) (stamp n x y : ℕ) → Stands (log_at (whole_logs (world_with w c d)) e) pre (Outcome stamp n (Some (Epochs x y))) post → IsTrue (has_commit ((past_with past c d.puts got).sent e) n) → x < y)
        (λ pre post stamp n x y st has. s.epochs_rise pre post stamp n x y (sym whole ∙ st) (subst (λ l. has_commit l n ≡ true) sent has))
        (λ e apart pre post stamp n x y st has. f.logs.epochs_rise e pre post stamp n x y (sym (log-other records_of w c e d apart) ∙ st) (subst (λ l. has_commit l n ≡ true) (sent-other e apart) has));
  };
  pcoms = each-com c (λ e. MatchOption (node_at (world_with w c d) e) ⊤ (IsMirrored program e ((past_with past c d.puts got).received e)))
      (mirrored-at program c (Some d.node) _ (past.received c ++ got) _ (node-same w c d node s.is_node) received s.mirrored)
      (λ e apart. mirrored-at program e (node_at w e) _ (past.received e) _ (node-other w c e d apart) (received-other e apart) (f.pcoms e));
  tcoms = each-com c (λ e. MatchOption (node_at (world_with w c d) e) ⊤ (IsServed program e ((past_with past c d.puts got).sent e) ((past_with past c d.puts got).received e)))
      (served-at program c (Some d.node) _ (past.sent c ++ d.puts) _ (past.received c ++ got) _ (node-same w c d node s.is_node) sent received s.served)
      (λ e apart. served-at program e (node_at w e) _ (past.sent e) _ (past.received e) _ (node-other w c e d apart) (sent-other e apart) (received-other e apart) (f.tcoms e));
  packets = record {
    sent = λ p h. ⊎_elim (λ k. sent-more (sender_of p) p (f.packets.sent p k)) (λ k. subst (λ e. Contains ((past_with past c d.puts got).sent e) p) (sym (s.senders p k)) (subst (λ l. Contains l p) (sym sent) (Contains-append_right (past.sent c) d.puts p k))) (Contains-append_cases w.packets d.puts p h);
    numbered = numbered w d.puts f.packets.numbered;
    epochs_rise = λ t e n place session x y h. ⊎_elim (f.packets.epochs_rise t e n place session x y) (s.aborts_rise t e n place session x y) (Contains-append_cases w.packets d.puts (packets.Outcome t e n place session (Aborted (Epochs x y))) h);
    one_owner = s.one_owner;
    outcomes_answer = s.outcomes_answer;
  };
  showings = each-com c (λ e. IsTrue (is_a_pcom program e) → IsSomeAnd (state_after program e ((past_with past c d.puts got).received e) (log_at (forced_logs (world_with w c d)) e)) (λ h. ShowingFacts (log_at found e) (log_at (forced_logs (world_with w c d)) e) (log_at (whole_logs (world_with w c d)) e) (here_with here c life e) h (shown_by e (world_with w c d).showings)))
      (λ is. showing-facts program c (log_at found c) (forced_of d.node) _ (records_of d.node) _ life _ (past.received c ++ got) _ (shown_by c w.showings ++ option_to_list d.shown) _ forced whole (ap (λ b. cond b life (here c)) (self-com c)) received (shown-same c w.showings d.shown) (s.showing is))
      (λ e apart is. showing-facts program e (log_at found e) (log_at (forced_logs w) e) _ (log_at (whole_logs w) e) _ (here e) _ (past.received e) _ (shown_by e w.showings) _ (log-other forced_of w c e d apart) (log-other records_of w c e d apart) (ap (λ b. cond b life (here e)) apart) (received-other e apart) (shown-other c e w.showings d.shown apart) (f.showings e is));
  shown_by = λ e o h. ⊎_elim (f.shown_by e o) (λ k. new e o d.shown refl k) (Contains-append_cases w.showings (map (λ y. (c, y)) (option_to_list d.shown)) (e, o) h);
}
  where
    forced : log_at (forced_logs (world_with w c d)) c ≡ forced_of d.node
    forced = log-same forced_of w c d node s.is_node

    whole : log_at (whole_logs (world_with w c d)) c ≡ records_of d.node
    whole = log-same records_of w c d node s.is_node

    sent : (past_with past c d.puts got).sent c ≡ past.sent c ++ d.puts
    sent = ap (λ b. cond b (past.sent c ++ d.puts) (past.sent c)) (self-com c)

    received : (past_with past c d.puts got).received c ≡ past.received c ++ got
    received = ap (λ b. cond b (past.received c ++ got) (past.received c)) (self-com c)

    sent-other : (e : ComId) → same_com c e ≡ false → (past_with past c d.puts got).sent e ≡ past.sent e
    sent-other e apart = ap (λ b. cond b (past.sent e ++ d.puts) (past.sent e)) apart

    received-other : (e : ComId) → same_com c e ≡ false → (past_with past c d.puts got).received e ≡ past.received e
    received-other e apart = ap (λ b. cond b (past.received e ++ got) (past.received e)) apart

    sent-more : (e : ComId) (p : Packet) → Contains (past.sent e) p → Contains ((past_with past c d.puts got).sent e) p
    sent-more e p h = at (same_com c e)
      where
        at : (b : Bool) → Contains (cond b (past.sent e ++ d.puts) (past.sent e)) p
        at true = Contains-append_left (past.sent e) d.puts p h
        at false = h

    new : (e : ComId) (o : Output) (u : Option Output) → d.shown ≡ u → Contains {X = ComId × Output} (map (λ y. (c, y)) (option_to_list u)) (e, o) → IsTrue (is_a_pcom program e)
    new e o None is h = empty (e, o) h
    new e o (Some y) is h = by (head-or-tail (c, y) (e, o) [] h)
      where
        by : (◌≡◌ {A = ComId × Output} (c, y) (e, o)) ⊎ Contains {X = ComId × Output} [] (e, o) → IsTrue (is_a_pcom program e)
        by (inl k) = subst (λ z. is_a_pcom program z ≡ true) (ap (λ (z : ComId × Output). z.0) k) (s.shows y is)
        by (inr k) = empty (e, o) k
