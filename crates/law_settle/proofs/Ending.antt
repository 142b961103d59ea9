-- A settled world ends as the crash-free world of its merged logs.
use Rattle.std.proofs.Common.{◌≡◌, refl, ◌∙◌, ap, sym, subst, ℕ, Bool, true, false, [], drop, Option, Some, None, option_map, is_none}
use Rattle.std.specs.Prelude.{⊤, Contains, MatchOption, Result, Ok, slice_get, unwrap_or}
use Rattle.std.specs.Result.{IsOkAnd}
use Rattle.std.proofs.lemmas.Option.{same_Some}
use Rattle.ic_base.specs.declared.messages.ComId.{ComId}
use Rattle.ic_base.specs.declared.messages.Entry.{Entry}
use Rattle.ic_base.specs.declared.messages.Kind.{Kind}
use Rattle.ic_base.specs.declared.messages.Kind.TheVariants as kinds
use Rattle.ic_base.specs.declared.scenario.Component.{Component}
use Rattle.ic_base.specs.declared.scenario.Program.{Program}
use Rattle.ic_base.specs.Programs.{is_a_pcom, is_tcom, declares}
use Rattle.def_plain.specs.Plain.{PlainWorld, pcom_at, ledger_at, plain_run_of}
use Rattle.def_plain.specs.History.{history_of}
use Rattle.def_state.specs.Txn.{Stage, Idle, Waiting, Answered, Committing, is_idle, is_committing, tcom_of}
use Rattle.def_state.specs.Hist.{Hist, number_outputs}
use Rattle.def_step.specs.Pcom.{Pcom}
use Rattle.def_step.specs.Tcom.{Tcom, book_of}
use Rattle.def_step.specs.World.{World, Node, Runs, Serves, Down, External, node_at}
use Rattle.def_step.specs.Settle.{is_down, replays, has_in_hand, IsSettled}
use Rattle.def_facts.specs.Logs.{Logs, log_at, contents_in, decides_txn, last_shown}
use Rattle.def_facts.specs.Sound.{IsSound, state_in, history_before, is_unrecorded}
use Rattle.def_facts.specs.Playable.{IsPlayable}
use Rattle.def_facts.specs.Tcom.{TcomStateFacts}
use Rattle.def_facts.specs.World.{Past, IsExplainedBy, IsServed, forced_of, forced_logs, whole_logs, is_of_kind, kind_of, firsts}
use Rattle.law_sound.proofs.Agreeing.{ledgers_agree}
use Rattle.law_replay.proofs.Narrowing.{forced_family}
use Rattle.law_sound.proofs.Sound.{families_are_sound}
use Rattle.law_sound.proofs.Contents.{states_agree}
use Rattle.law_sound.specs.Assembly.{LedgersAgree}
use Rattle.law_sound.specs.Sound.{FamiliesAreSound, StatesAgree}
use Rattle.def_run.specs.CrashFree.{HasValuesOf}
use Rattle.law_replay.proofs.Committing.{hands_are_open}
use Rattle.law_sound.proofs.Deciding.{commits-is}
use Rattle.law_replay.proofs.Lists.{at-some, true-false, some-at}
use Rattle.law_sound.proofs.Histories.{history_has_entries}
use Rattle.law_sound.proofs.Reaching.{unrecorded-is}
use Rattle.law_sound.proofs.Rising.{history_rises}
use Rattle.law_replay.proofs.Lists.{before-all}
use Rattle.def_run.specs.CrashFree.{EndsCrashFree}
use Rattle.law_settle.specs.Ends.{SettledEndsCrashFree}
use Rattle.law_settle.proofs.Commits.{commits_counted}
use Rattle.law_settle.proofs.Inputs.{inputs_in_order}
use Rattle.law_settle.proofs.Messages.{messages_counted}
use Rattle.law_settle.proofs.Once.{messages_stand_once}
use Rattle.law_settle.proofs.Done.{SettledAt, settled-at, logs-forced, showings-done, none-hand}
use Rattle.law_settle.proofs.Finding.{each_fails}
use Rattle.law_replay.proofs.Members.{none_contained, either_none, mapped_at, mapped-keeps}
use Rattle.law_settle.proofs.Mutual.{forced-explained}
use Rattle.law_settle.proofs.Quiet.{pcom_facts_at}

-- a transaction that is committing isn't closed
idle-committing : {B : Type 0} (s : Stage) → is_idle s ≡ true → is_committing s ≡ true → B
idle-committing Idle e f = true-false f
idle-committing (Waiting t p s q) e f = true-false f
idle-committing (Answered t p s q) e f = true-false f
idle-committing (Committing t p s) e f = true-false e

pub tcom-kind : (o : Option Component) (t : Tcom) → is_of_kind (option_map (λ d. d.kind) o) (Some (Serves t)) ≡ true → declares (λ d. is_tcom d.kind) o ≡ true
tcom-kind None t e = true-false e
tcom-kind (Some d) t e = at d.kind e
  where
    at : (k : Kind) → is_of_kind (Some k) (Some (Serves t)) ≡ true → is_tcom k ≡ true
    at kinds.Tcom f = refl
    at kinds.Pcom f = true-false f
    at kinds.Xcom f = true-false f

-- each commit of a Pcom with nothing in hand is recorded
all-recorded : (program : Program) (found : Logs) (w : World) (past : Past) (c : ComId) (v : PlainWorld) → IsSound program (forced_logs w) v → (a : SettledAt program w past c) → a.state.plain.hand ≡ None → state_in program (forced_logs w) v c ≡ Some a.state
    → (e : Entry) → Contains (history_of program (forced_logs w)) e → is_unrecorded (log_at (forced_logs w) c) c e.act ≡ false
all-recorded program found w past c v sound a free is e has = at (is_unrecorded (log_at (forced_logs w) c) c e.act) refl
  where
    at : (b : Bool) → is_unrecorded (log_at (forced_logs w) c) c e.act ≡ b → is_unrecorded (log_at (forced_logs w) c) c e.act ≡ false
    at false f = f
    at true f =
        let u = unrecorded-is (log_at (forced_logs w) c) c e.act f in
        let x = history_has_entries program (forced_logs w) e has in
        let y = commits-is x.1 x.0 c u.0 x.2 e x.5 u.1 in
        let stands = mapped-keeps (decides_txn c u.0) (log_at (forced_logs w) x.0) x.2 y.1 x.4 y.2 in
        let open_one = at-some (λ (h : Hist). (is_committing h.stage ≡ true) × (tcom_of h.stage ≡ Some x.0) × (h.plain.begun ≡ u.0)) (state_in program (forced_logs w) v c) a.state is (sound.unrecorded x.0 c u.0 y.1 stands u.2) in
        idle-committing a.state.stage (sym (hands_are_open program c (contents_in (past.received c)) (log_at (forced_logs w) c) a.state a.state_is) ∙ ap is_none free) open_one.0

ok-at : {A E : Type 0} (P : A → Type 0) (r : Result A E) (x : A) → r ≡ Ok x → IsOkAnd r P → P x
ok-at P r x e h = subst (λ o. IsOkAnd o P) e h

-- the cell of the crash-free world
cell-is : (program : Program) (found : Logs) (w : World) (past : Past) (c : ComId) (v : PlainWorld) → IsSound program (forced_logs w) v → is_a_pcom program c ≡ true → (a : SettledAt program w past c) → a.state.plain.hand ≡ None → state_in program (forced_logs w) v c ≡ Some a.state → pcom_at v c ≡ Some a.state.plain
cell-is program found w past c v sound pcom a free is =
    let agrees = at-some (λ (h : Hist). IsOkAnd (plain_run_of program (history_before program (forced_logs w) c)) (λ u. pcom_at u c ≡ Some h.plain)) (state_in program (forced_logs w) v c) a.state is (sound.agrees c pcom) in
    let whole : history_before program (forced_logs w) c ≡ history_of program (forced_logs w) =
    before-all (λ e. is_unrecorded (log_at (forced_logs w) c) c e.act) (history_of program (forced_logs w)) (none_contained (λ (e : Entry). is_unrecorded (log_at (forced_logs w) c) c e.act) (history_of program (forced_logs w)) (all-recorded program found w past c v sound a free is))
    in
    ok-at (λ u. pcom_at u c ≡ Some a.state.plain) (plain_run_of program (history_of program (forced_logs w))) v sound.legal (subst (λ es. IsOkAnd (plain_run_of program es) (λ u. pcom_at u c ≡ Some a.state.plain)) whole agrees)

module _ (sound_families : FamiliesAreSound) (states : StatesAgree) (ledgers : LedgersAgree) (program : Program) (found : Logs) (here : ComId → ℕ) (w : World) (past : Past) (good : IsExplainedBy program found here w past) (playable : IsPlayable program) (settled : IsSettled w) (v : PlainWorld) (sound : IsSound program (forced_logs w) v) where
  hand-free : (c : ComId) (a : SettledAt program w past c) → a.state.plain.hand ≡ None
  hand-free c a = sym a.mirrors.hand ∙ none-hand a.node.vol.hand (each_fails has_in_hand w.nodes c.0 (Runs a.node) settled.none_in_hand a.is)

  the-cell : (c : ComId) → is_a_pcom program c ≡ true → (a : SettledAt program w past c) → pcom_at v c ≡ Some a.state.plain
  the-cell c pcom a =
      cell-is program found w past c v sound pcom a (hand-free c a) (states program found (forced_logs w) past v (forced-explained program found here w past good) sound.legal c pcom ∙ a.state_is)

  values-at : (c : ComId) (o : Option Node) → node_at w c ≡ o → MatchOption o ⊤ (HasValuesOf v c)
  values-at c None is = tt
  values-at c (Some (Runs p)) is =
      let pcom = pcom_facts_at program found here w past c p good is in
      let a = settled-at program found here w past c good settled pcom in
      let same : a.node ≡ p = same-node a.node p (sym a.is ∙ is) in
      some-at (λ x. x.vars ≡ p.vol.vars) (pcom_at v c) a.state.plain (the-cell c pcom a) (sym a.mirrors.vars ∙ ap (λ (q : Pcom). q.vol.vars) same)
    where
      same-node : (x y : Pcom) → Some (Runs x) ≡ Some (Runs y) → x ≡ y
      same-node x y e = let f : Runs x ≡ Runs y = same_Some (Runs x) (Runs y) e in (cc)
  values-at c (Some (Serves t)) is =
      let tcom = tcom-kind (slice_get program.components c.0) t (ap (is_of_kind (kind_of program c)) (sym is) ∙ good.kinds c) in
      let facts : TcomStateFacts program c t (past.sent c) (past.received c) = subst (λ o. MatchOption o ⊤ (IsServed program c (past.sent c) (past.received c))) is (good.tcoms c) in
      at-some (λ b. ledger_at v c ≡ Some b.ledger) (book_of program c (log_at (forced_logs w) c)) t.book
      (ap (λ o. book_of program c (unwrap_or o [])) (mapped_at forced_of w.nodes c.0 (Serves t) is) ∙ facts.books)
      (ledgers program found (forced_logs w) past v (forced-explained program found here w past good) sound.legal c tcom)
  values-at c (Some (Down log)) is = true-false (sym (each_fails is_down w.nodes c.0 (Down log) (either_none is_down replays w.nodes settled.all_up).0 is))
  values-at c (Some External) is = tt

  ends : EndsCrashFree program found w v
  ends = record {
    sound = sound;
    whole = logs-forced w settled;
    extends = good.logs.found_forced;
    values = λ c. values-at c (node_at w c) refl;
    outputs = λ c pcom.
        let a = settled-at program found here w past c good settled pcom in
        some-at (λ x. firsts c w.showings ≡ drop (last_shown (log_at found c)) (number_outputs 1 x.outs)) (pcom_at v c) a.state.plain (the-cell c pcom a) (showings-done program found here w past c good settled pcom a);
    messages =
        messages_counted program found (forced_logs w) past v (forced-explained program found here w past good) sound.legal
        (λ s pcom. let a = settled-at program found here w past s good settled pcom in (a.state, a.state_is, the-cell s pcom a))
        (messages_stand_once program found here w past playable good settled);
    commits = λ c n pcom.
        let a = settled-at program found here w past c good settled pcom in
        let fx = forced-explained program found here w past good in
        commits_counted program found (forced_logs w) past fx c n a.state pcom a.state_is (all-recorded program found w past c v sound a (hand-free c a) (states program found (forced_logs w) past v fx sound.legal c pcom ∙ a.state_is));
    inputs = λ c pcom. let a = settled-at program found here w past c good settled pcom in inputs_in_order program (forced_logs w) c (contents_in (past.received c)) a.state pcom a.state_is (history_rises program found (forced_logs w) past (forced-explained program found here w past good));
  }

pub settled_ends_crash_free : SettledEndsCrashFree
settled_ends_crash_free program found here w playable explained settled =
    let past = explained.0 in
    let good = explained.1 in
    let s = families_are_sound program found (forced_logs w) (whole_logs w) (forced_logs w) past good.logs (forced_family program found (forced_logs w) (whole_logs w) past good.logs) in
    (s.0, ends families_are_sound states_agree ledgers_agree program found here w past good playable settled s.0 s.1)
