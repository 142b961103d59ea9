-- A component that comes up over its log keeps the world explained.
use Rattle.std.proofs.Common.{◌≡◌, refl, ◌∙◌, ap, sym, subst, ℕ, ◌+◌, ◌≤◌, Bool, true, false, cond, ◌||◌, List, [], ◌∷◌, ◌++◌, map, length, Option, Some, None, option_map, option_and_then, option_to_list, arith}
use Rattle.std.specs.Prelude.{Contains, IsTrue, IsSomeAnd, slice_get}
use Rattle.std.specs.List.{list_any}
use Rattle.std.proofs.lemmas.List.{append-nil, append_assoc, length-append}
use Rattle.std.proofs.lemmas.List.Elements.{Contains-append_right, filter_map-append}
use Rattle.std.proofs.lemmas.List.Folds.{list_any-append}
use Rattle.std.proofs.lemmas.Option.{same_Some}
use Rattle.ic_base.specs.declared.messages.ComId.{ComId}
use Rattle.ic_base.specs.declared.messages.Kind.{Kind}
use Rattle.ic_base.specs.declared.messages.Kind.TheVariants as kinds
use Rattle.ic_base.specs.declared.messages.Packet.{Packet}
use Rattle.ic_base.specs.declared.messages.Packet.TheVariants as packets
use Rattle.ic_base.specs.declared.messages.AbortCause.TheVariants.{Epoch as Epochs}
use Rattle.ic_base.specs.declared.messages.Decision.TheVariants.{Aborted}
use Rattle.ic_base.specs.declared.events.Answer.{Answer}
use Rattle.ic_base.specs.declared.scenario.Component.{Component}
use Rattle.ic_base.specs.declared.scenario.Program.{Program}
use Rattle.ic_base.specs.declared.record.Record.{Record}
use Rattle.ic_base.specs.declared.record.Record.TheVariants as records
use Rattle.ic_base.specs.Programs.{is_a_pcom, is_a_tcom, is_pcom, is_tcom, declares}
use Rattle.def_state.specs.Names.{Identity}
use Rattle.def_state.specs.Vol.{Vol}
use Rattle.def_step.specs.Replay.{recovered}
use Rattle.def_step.specs.Pcom.{Pcom, Log, StepResult, all_of, told, stands_at, standing_at, needed, needed_fetch, fetch_packet, nothing_at_all, recover_pcom}
use Rattle.def_step.specs.Tcom.{Tcom, Book, book_of, lacks_epoch, in_next_epoch, in_next_epoch_if, recover_tcom}
use Rattle.def_step.specs.World.{World, Runs, Serves, Down, node_at, just, done_as}
use Rattle.def_facts.specs.Logs.{Logs, log_at, IsPrefixOf, has_commit, commits, last_shown, decisions_on, decides_txn}
use Rattle.def_facts.specs.Pcom.{state_after, IsTrueOf}
use Rattle.def_facts.specs.Tcom.{TcomLogFacts, TcomStateFacts}
use Rattle.def_facts.specs.World.{Past, ShowingFacts, IsExplainedBy, records_of, forced_logs, whole_logs, is_of_kind, kind_of, shown_by}
use Rattle.law_replay.proofs.Lists.{none-some, true-false, empty, in-head, open-content, some-at, mapped}
use Rattle.law_replay.proofs.Prefixes.{prefix-self}
use Rattle.law_tcom.proofs.Recovering.{recoveries_keep_states, recoveries_keep_logs}
use Rattle.law_pcom.specs.Recovering.{ImagesRead}
use Rattle.law_pcom.specs.Stepping.{StepKept}
use Rattle.law_pcom.proofs.Joined.{pcoms_recover}
use Rattle.law_step.proofs.Nodes.{log-here}
use Rattle.law_step.proofs.Ordering.{not-both, undecided-order}
use Rattle.law_step.proofs.PcomSteps.{true-sender, same-owner, same-answers}
use Rattle.law_step.proofs.Showings.{showing-stays}
use Rattle.law_step.proofs.Stepped.{Stepped}
use Rattle.law_step.proofs.Stops.{same-book, node-logs, node-book, node-found, node-showing, same-order, same-owners, same-outcomes}
use Rattle.law_step.proofs.TcomSteps.{no-outcome}

-- a node that is down is of a Pcom or of a Tcom
pub down-pcom : (program : Program) (c : ComId) (log : List Record) → is_of_kind (kind_of program c) (Some (Down log)) ≡ true → is_a_tcom program c ≡ false → is_a_pcom program c ≡ true
down-pcom program c log e free = at (slice_get program.components c.0) e free
  where
    by : (k : Kind) → is_of_kind (Some k) (Some (Down log)) ≡ true → is_tcom k ≡ false → is_pcom k ≡ true
    by kinds.Pcom f g = refl
    by kinds.Tcom f g = true-false (sym g)
    by kinds.Xcom f g = true-false f

    at : (o : Option Component) → is_of_kind (option_map (λ d. d.kind) o) (Some (Down log)) ≡ true → declares (λ d. is_tcom d.kind) o ≡ false → declares (λ d. is_pcom d.kind) o ≡ true
    at None f g = true-false f
    at (Some d) f g = by d.kind f g

runs-kind : (program : Program) (c : ComId) (q : Pcom) → is_a_pcom program c ≡ true → is_of_kind (kind_of program c) (Some (Runs q)) ≡ true
runs-kind program c q e = at (slice_get program.components c.0) e
  where
    by : (k : Kind) → is_pcom k ≡ true → is_of_kind (Some k) (Some (Runs q)) ≡ true
    by kinds.Pcom f = refl
    by kinds.Tcom f = true-false f
    by kinds.Xcom f = true-false f

    at : (o : Option Component) → declares (λ d. is_pcom d.kind) o ≡ true → is_of_kind (option_map (λ d. d.kind) o) (Some (Runs q)) ≡ true
    at None f = true-false f
    at (Some d) f = by d.kind f

serves-kind : (program : Program) (c : ComId) (x : Tcom) → is_a_tcom program c ≡ true → is_of_kind (kind_of program c) (Some (Serves x)) ≡ true
serves-kind program c x e = at (slice_get program.components c.0) e
  where
    by : (k : Kind) → is_tcom k ≡ true → is_of_kind (Some k) (Some (Serves x)) ≡ true
    by kinds.Pcom f = true-false f
    by kinds.Tcom f = refl
    by kinds.Xcom f = true-false f

    at : (o : Option Component) → declares (λ d. is_tcom d.kind) o ≡ true → is_of_kind (option_map (λ d. d.kind) o) (Some (Serves x)) ≡ true
    at None f = true-false f
    at (Some d) f = by d.kind f

-- a Pcom ------------------------------------------------------------------------------------------------

-- what comes up stands over its log, shows nothing and puts out no Commit
pub record Comes (log : List Record) (t : StepResult) : Type 0 where
  pub is_log : t.pcom.log ≡ record { forced = log; buffered = [] }
  pub shows : t.shown ≡ None
  pub calm : (n : ℕ) → list_any (commits n) t.puts ≡ false

pub comes-up : (program : Program) (c : ComId) (log : List Record) (t : StepResult) → recover_pcom program c log ≡ Some t → Comes log t
comes-up program c log t e =
    let x = mapped (λ x. told (stands_at (record { forced = log; buffered = [] }) x) (needed_fetch c x.rest) nothing_at_all) (recovered program c log) t e in
    subst (Comes log) x.2 (record { is_log = standing (record { forced = log; buffered = [] }) x.0.vol x.0.rest; shows = refl; calm = λ n. fetches n (needed x.0.rest) })
  where
    standing : (l : Log) (v : Vol) (rest : List Record) → (standing_at l v rest).log ≡ l
    standing l v [] = refl
    standing l v (r ∷ rs) = refl

    fetches : (n : ℕ) (o : Option Identity) → list_any (commits n) (map (fetch_packet c) (option_to_list o)) ≡ false
    fetches n None = refl
    fetches n (Some x) = refl

-- what comes up over its log with the facts of a Pcom
pub pcom-comes : (program : Program) (found : Logs) (here : ComId → ℕ) (w : World) (past : Past) (c : ComId) (log : List Record) (t : StepResult) (answer : Answer) → IsExplainedBy program found here w past → node_at w c ≡ Some (Down log) → is_a_pcom program c ≡ true → Comes log t → StepKept program c (past.sent c) (past.received c) t →
    Stepped program found w past c (Down log) [] (done_as answer t) 0
pcom-comes program found here w past c log t answer f is pcom up here-kept = record {
  is_node = is;
  kind = λ k. runs-kind program c t.pcom pcom;
  found_forced = subst (IsPrefixOf (log_at found c)) (sym forced) (node-found program found here w past c (Down log) f is);
  pcom = λ p. kept.0;
  tcom = λ k. not-both program c pcom k;
  other = λ a b. true-false (sym a ∙ pcom);
  got_sent = λ p h. empty p h;
  in_order = λ later k. same-order (whole_logs w) later c (all_of t.pcom.log) (log-here records_of w c (Down log) is ∙ sym whole) k f.logs.in_order;
  epochs_rise = λ pre post stamp n x y st has. f.logs.epochs_rise c pre post stamp n x y (log-here records_of w c (Down log) is ∙ sym whole ∙ st) (only n (has_commit (past.sent c) n) refl (sym (list_any-append (commits n) (past.sent c) t.puts) ∙ has));
  mirrored = kept.1;
  served = tt;
  senders = λ x h. true-sender program c t.pcom.log.forced (past.received c ++ []) x (mine x h);
  aborts_rise = λ u d n place session x y h. absurd (mine (packets.Outcome u d n place session (Aborted (Epochs x y))) h);
  one_owner = λ u. same-owner u w.packets t.puts (λ d n i session v h. mine (packets.OpReply u d n i session v) h) (f.packets.one_owner u);
  outcomes_answer = same-answers w.packets t.puts (λ u d n place session x h. mine (packets.Outcome u d n place session x) h) f.packets.outcomes_answer;
  showing = λ p. showing p;
  shows = λ o k. pcom;
}
  where
    forced : t.pcom.log.forced ≡ log
    forced = ap (λ (l : Log). l.forced) up.is_log

    whole : all_of t.pcom.log ≡ log
    whole = ap all_of up.is_log ∙ append-nil log

    kept : StepKept program c (past.sent c) (past.received c ++ []) t
    kept = subst (λ r. StepKept program c (past.sent c) r t) (sym (append-nil (past.received c))) here-kept

    mine : (x : Packet) → Contains t.puts x → IsTrueOf program c t.pcom.log.forced (past.received c ++ []) x
    mine x h = kept.0.lasting.packets_true x (Contains-append_right (past.sent c) t.puts x h)

    only : (n : ℕ) (b : Bool) → has_commit (past.sent c) n ≡ b → (b || has_commit t.puts n) ≡ true → has_commit (past.sent c) n ≡ true
    only n true k h = k
    only n false k h = true-false (sym (up.calm n) ∙ h)

    self : (n : ℕ) → n ≤ n
    self n = omega arith

    least : (n : ℕ) → 0 ≤ n
    least n = omega arith

    showing : IsTrue (is_a_pcom program c) → IsSomeAnd (state_after program c (past.received c ++ []) t.pcom.log.forced) (λ h. ShowingFacts (log_at found c) t.pcom.log.forced (all_of t.pcom.log) 0 h (shown_by c w.showings ++ option_to_list t.shown))
    showing p =
        let x = open-content (λ h. ShowingFacts (log_at found c) log log (here c) h (shown_by c w.showings)) (state_after program c (past.received c) log) (node-showing program found here w past c (Down log) f is p) in
        subst (λ o. IsSomeAnd (state_after program c (past.received c ++ []) t.pcom.log.forced) (λ h. ShowingFacts (log_at found c) t.pcom.log.forced (all_of t.pcom.log) 0 h (shown_by c w.showings ++ option_to_list o))) (sym up.shows)
        (subst (λ l. IsSomeAnd (state_after program c (past.received c ++ []) t.pcom.log.forced) (λ h. ShowingFacts (log_at found c) t.pcom.log.forced (all_of t.pcom.log) 0 h l)) (sym (append-nil (shown_by c w.showings)))
        (subst (λ r. IsSomeAnd (state_after program c r t.pcom.log.forced) (λ h. ShowingFacts (log_at found c) t.pcom.log.forced (all_of t.pcom.log) 0 h (shown_by c w.showings))) (sym (append-nil (past.received c)))
        (subst (λ l. IsSomeAnd (state_after program c (past.received c) l) (λ h. ShowingFacts (log_at found c) l (all_of t.pcom.log) 0 h (shown_by c w.showings))) (sym forced)
        (subst (λ l. IsSomeAnd (state_after program c (past.received c) log) (λ h. ShowingFacts (log_at found c) log l 0 h (shown_by c w.showings))) (sym whole)
        (some-at (λ h. ShowingFacts (log_at found c) log log 0 h (shown_by c w.showings)) (state_after program c (past.received c) log) x.0 x.1
        (showing-stays (log_at found c) log log log log (here c) 0 x.0 x.0 (shown_by c w.showings) x.2 (prefix-self x.0.plain.outs) x.2.found_forced (self (last_shown log)) (self (last_shown log)) (least (last_shown log))))))))

pub pcom-recovered : (program : Program) (found : Logs) (here : ComId → ℕ) (w : World) (past : Past) (c : ComId) (log : List Record) (t : StepResult) (answer : Answer) → IsExplainedBy program found here w past → node_at w c ≡ Some (Down log) → is_a_pcom program c ≡ true → ImagesRead program c (past.received c) log → recover_pcom program c log ≡ Some t →
    Stepped program found w past c (Down log) [] (done_as answer t) 0
pcom-recovered program found here w past c log t answer f is pcom images e =
    pcom-comes program found here w past c log t answer f is pcom (comes-up program c log t e) (pcoms_recover program c (past.sent c) (past.received c) log t images (node-logs program found here w past c (Down log) f is pcom) e)

-- a Tcom ------------------------------------------------------------------------------------------------

pub epoch-added : (program : Program) (c : ComId) (size : ℕ) (log : List Record) (x : Tcom) → recover_tcom program c size log ≡ Some x → (epoch : ℕ) × (x.records ≡ log ++ records.Epoch epoch ∷ [])
epoch-added program c size log x e = at (book_of program c log) e
  where
    by : (b : Book) (lacks : Bool) → cond lacks None (Some (in_next_epoch log b)) ≡ Some x → (epoch : ℕ) × (x.records ≡ log ++ records.Epoch epoch ∷ [])
    by b true f = none-some x f
    by b false f = (b.epoch + 1, ap (λ (y : Tcom). y.records) (sym (same_Some (in_next_epoch log b) x f)))

    at : (o : Option Book) → option_and_then (in_next_epoch_if size log) o ≡ Some x → (epoch : ℕ) × (x.records ≡ log ++ records.Epoch epoch ∷ [])
    at None f = none-some x f
    at (Some b) f = by b (lacks_epoch size b) f

pub tcom-recovered : (program : Program) (found : Logs) (here : ComId → ℕ) (w : World) (past : Past) (c : ComId) (size : ℕ) (log : List Record) (x : Tcom) (answer : Answer) → IsExplainedBy program found here w past → node_at w c ≡ Some (Down log) → is_a_tcom program c ≡ true → recover_tcom program c size log ≡ Some x →
    Stepped program found w past c (Down log) [] (just (Serves x) answer) 0
tcom-recovered program found here w past c size log x answer f is tcom e = record {
  is_node = is;
  kind = λ k. serves-kind program c x tcom;
  found_forced = let p = node-found program found here w past c (Down log) f is in subst (IsPrefixOf (log_at found c)) (sym added.1) (p.0 ++ records.Epoch added.0 ∷ [], ap (λ l. l ++ records.Epoch added.0 ∷ []) p.1 ∙ append_assoc (log_at found c) p.0 (records.Epoch added.0 ∷ []));
  pcom = λ p. not-both program c p tcom;
  tcom = λ k. (refl, same-book program c (length (log_at found c)) x.records (past.sent c) (past.received c) facts);
  other = λ a b. true-false (sym b ∙ tcom);
  got_sent = λ p h. empty p h;
  in_order = λ later k. undecided-order program found (forced_logs w) (whole_logs w) past f.logs c x.records tcom
      (λ d n. ap (λ l. decisions_on l d n) added.1 ∙ filter_map-append (decides_txn d n) log (records.Epoch added.0 ∷ []) ∙ append-nil (decisions_on log d n) ∙ ap (λ l. decisions_on l d n) (sym (log-here records_of w c (Down log) is))) later k;
  epochs_rise = λ pre post stamp n a b st has. no-outcome program c x.records stamp n (Some (Epochs a b)) facts.reads (subst (λ l. Contains l (records.Outcome stamp n (Some (Epochs a b)))) (sym st) (Contains-append_right pre (records.Outcome stamp n (Some (Epochs a b)) ∷ post) (records.Outcome stamp n (Some (Epochs a b))) (in-head (records.Outcome stamp n (Some (Epochs a b))) post)));
  mirrored = tt;
  served = subst (λ s. TcomStateFacts program c x s (past.received c ++ [])) (sym (append-nil (past.sent c))) (subst (TcomStateFacts program c x (past.sent c)) (sym (append-nil (past.received c))) (recoveries_keep_states program c (length (log_at found c)) size log x (past.sent c) (past.received c) e old));
  senders = λ p h. empty p h;
  aborts_rise = λ t d n place session a b h. empty _ h;
  one_owner = λ t. same-owners t w.packets (f.packets.one_owner t);
  outcomes_answer = same-outcomes w.packets f.packets.outcomes_answer;
  showing = λ p. not-both program c p tcom;
  shows = λ o k. absurd (cc);
}
  where
    added : (epoch : ℕ) × (x.records ≡ log ++ records.Epoch epoch ∷ [])
    added = epoch-added program c size log x e

    old : TcomLogFacts program c (length (log_at found c)) log (past.sent c) (past.received c)
    old = (node-book program found here w past c (Down log) f is tcom).1

    facts : TcomLogFacts program c (length (log_at found c)) x.records (past.sent c) (past.received c)
    facts = recoveries_keep_logs program c (length (log_at found c)) size log x (past.sent c) (past.received c) e
        (let p = node-found program found here w past c (Down log) f is in omega (arith, ap length p.1, length-append (log_at found c) p.0)) old
