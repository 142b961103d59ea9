-- What the step of a Pcom keeps, and so the world behind it is explained.
use Rattle.std.proofs.Common.{◌≡◌, refl, ◌∙◌, ap, sym, subst, ℕ, ◌+◌, ◌<◌, Bool, true, false, ◌||◌, nat_le, ℤ, List, [], ◌∷◌, ◌++◌, drop, Option, Some, None, option_map, option_to_list, find, ⊎_elim, arith}
use Rattle.std.specs.Prelude.{Contains, IsTrue, IsSome, IsSomeAnd, MatchOption, ⊤, slice_get}
use Rattle.std.specs.List.{list_any}
use Rattle.std.proofs.lemmas.List.{append-nil, append_assoc}
use Rattle.std.proofs.lemmas.List.Elements.{Contains-append_right, Contains-append_cases}
use Rattle.std.proofs.lemmas.List.Folds.{list_any-append}
use Rattle.std.proofs.lemmas.List.Sums.{fold_push}
use Rattle.std.proofs.lemmas.Option.{same_Some}
use Rattle.ic_base.specs.declared.messages.AbortCause.TheVariants.{Epoch as Epochs}
use Rattle.ic_base.specs.declared.messages.ComId.{ComId}
use Rattle.ic_base.specs.declared.messages.Decision.TheVariants.{Aborted}
use Rattle.ic_base.specs.declared.messages.Out.{Out}
use Rattle.ic_base.specs.declared.messages.Output.{Output}
use Rattle.ic_base.specs.declared.messages.Session.{Session}
use Rattle.ic_base.specs.declared.messages.Packet.{Packet}
use Rattle.ic_base.specs.declared.messages.Packet.TheVariants as packets
use Rattle.ic_base.specs.declared.events.Answer.{Answer}
use Rattle.ic_base.specs.declared.scenario.Program.{Program}
use Rattle.ic_base.specs.declared.record.Record.{Record}
use Rattle.ic_base.specs.declared.record.Record.TheVariants as records
use Rattle.ic_base.specs.Programs.{is_a_pcom}
use Rattle.def_state.specs.Shelf
use Rattle.def_state.specs.Shelf.{Waiting}
use Rattle.def_state.specs.Fits.{is_number_of}
use Rattle.def_state.specs.Hist.{Hist, outputs_of, number_outputs}
use Rattle.def_step.specs.Packets.{sender_of, receiver_of}
use Rattle.def_step.specs.Pcom.{Pcom, Call, Gives, Gets, Forces, Checkpoints, Resends, Emits, StepResult, all_of, is_replaying, forced_end, pcom_step}
use Rattle.def_step.specs.World.{World, Runs, node_at, done_as}
use Rattle.def_facts.specs.Logs.{Logs, log_at, IsPrefixOf, Stands, IsConsistent, has_commit, has_outcome, last_shown, shown_by as recorded_as, commits, contents_in, ends_txn}
use Rattle.def_facts.specs.Pcom.{state_after, IsTrueOf, PcomLogFacts, VolatileFacts}
use Rattle.def_facts.specs.Playable.{IsPlayable}
use Rattle.def_facts.specs.World.{Past, ShowingFacts, IsExplainedBy, IsMirrored, forced_of, records_of, forced_logs, whole_logs, is_of_kind, kind_of, shown_by}
use Rattle.law_replay.proofs.Growing.{states_grow, prefixes_replay}
use Rattle.law_replay.proofs.Lists.{true-false, in-head, contains-split, some-of, open-content, at-some, some-at, mapped, equal-numbers, self-number, at_most}
use Rattle.law_replay.proofs.Members.{any-has, contains_any, found, mapped-keeps}
use Rattle.law_replay.proofs.Prefixes.{prefix-self, prefix-trans}
use Rattle.law_replay.proofs.Shown.{shown-up-to}
use Rattle.law_replay.proofs.Receiving.{section-state}
use Rattle.law_pcom.specs.Pending.{PartsStay}
use Rattle.law_pcom.specs.Stepping.{got, IsFor, StepKept}
use Rattle.law_pcom.specs.Within.{IsGiven, IsWithin}
use Rattle.law_pcom.proofs.Joined.{pcom_steps_keep}
use Rattle.law_pcom.proofs.Oldest.{due-oldest}
use Rattle.law_pcom.proofs.Standing.{alike}
use Rattle.law_pcom.proofs.Upkeep.{up-of}
use Rattle.law_step.proofs.Choices.{is_shown, abort_in, none-shown, IsOpen}
use Rattle.law_step.proofs.Shapes.{Shape, step-shape}
use Rattle.law_step.proofs.Nodes.{log-here}
use Rattle.law_step.proofs.Ordering.{not-both, pcom-order}
use Rattle.law_step.proofs.Showings.{showing-stays, showing-next}
use Rattle.law_step.proofs.Stepped.{Stepped}
use Rattle.law_step.proofs.PcomSteps.{runs-pcom, kind-stays, true-sender, consistent, same-owner, same-answers, open-unended}

-- the greatest output that was shown in this life
abbrev pub shown_or : ℕ → Option Output → ℕ
shown_or n None = n
shown_or n (Some o) = o.m

-- an output that is due was made by the forced records, and is the next that the log shows
pub due-made : (program : Program) (c : ComId) (received : List Packet) (p : Pcom) → VolatileFacts program c p received → (o : Output) → Shelf.next_due p.vol.shelf (forced_end p) ≡ Some o → IsSomeAnd (state_after program c received p.log.forced) (λ h. Contains (outputs_of h) o)
due-made program c received p v o e =
    let y = mapped (λ (w : Waiting). w.output) (find (λ (w : Waiting). nat_le w.at (forced_end p)) p.vol.shelf.waiting) o e in
    let z = found (λ (w : Waiting). nat_le w.at (forced_end p)) p.vol.shelf.waiting y.0 y.1 in
    subst (λ i. IsSomeAnd (state_after program c received p.log.forced) (λ h. Contains (outputs_of h) i)) y.2 ((v.shelved_at y.0 z.0).1.1 (at_most y.0.at (forced_end p) z.1))

pub due-next : (program : Program) (c : ComId) (sent received : List Packet) (p : Pcom) → PcomLogFacts program c p.log.forced (all_of p.log) sent received → VolatileFacts program c p received → is_replaying p ≡ false → (o : Output) → Shelf.next_due p.vol.shelf (forced_end p) ≡ Some o → o.m ≡ last_shown (all_of p.log) + 1
due-next program c sent received p logs v up o e =
    let u = up-of program c sent received p up logs v in
    let first = due-oldest program c sent received p u o e in
    let s = shown-up-to program c (contents_in received) (all_of p.log) u.follows.state u.follows.is_state in
    number (drop u.follows.state.shown u.follows.state.plain.outs) u.follows.state.shown s.count
    (sym (ap (λ b. is_number_of b o.m) ((alike program c p.vol u.follows.state u.follows.mirrors).oldest ∙ ap (λ l. option_map (λ (z : Output). z.m) (slice_get l 0)) s.rest)) ∙ first)
  where
    number : (os : List Out) (n : ℕ) → n ≡ last_shown (all_of p.log) → is_number_of (option_map (λ (z : Output). z.m) (slice_get (number_outputs (n + 1) os) 0)) o.m ≡ true → o.m ≡ last_shown (all_of p.log) + 1
    number [] n count f = true-false f
    number (x ∷ os) n count f = sym (equal-numbers (n + 1) o.m f) ∙ ap (λ i. i + 1) count

record PcomStep (program : Program) (found : Logs) (here : ComId → ℕ) (w : World) (past : Past) (c : ComId) (p : Pcom) (call : Call) (t : StepResult) : Type 0 where
  explained : IsExplainedBy program found here w past
  is_node : node_at w c ≡ Some (Runs p)
  kept : StepKept program c (past.sent c) (past.received c ++ got call) t
  shape : Shape p call t
  came : (x : Packet) → Contains (got call) x → (receiver_of x ≡ c) × Contains w.packets x

-- what the parts of the step keep -------------------------------------------------------------------------

whole-is : (program : Program) (found : Logs) (here : ComId → ℕ) (w : World) (past : Past) (c : ComId) (p : Pcom) (call : Call) (t : StepResult) → PcomStep program found here w past c p call t → log_at (whole_logs w) c ≡ all_of p.log
whole-is program found here w past c p call t s = log-here records_of w c (Runs p) s.is_node

forced-is : (program : Program) (found : Logs) (here : ComId → ℕ) (w : World) (past : Past) (c : ComId) (p : Pcom) (call : Call) (t : StepResult) → PcomStep program found here w past c p call t → log_at (forced_logs w) c ≡ p.log.forced
forced-is program found here w past c p call t s = log-here forced_of w c (Runs p) s.is_node

volatile-is : (program : Program) (found : Logs) (here : ComId → ℕ) (w : World) (past : Past) (c : ComId) (p : Pcom) (call : Call) (t : StepResult) → PcomStep program found here w past c p call t → VolatileFacts program c p (past.received c)
volatile-is program found here w past c p call t s = subst (λ o. MatchOption o ⊤ (IsMirrored program c (past.received c))) s.is_node (s.explained.pcoms c)

is-pcom : (program : Program) (found : Logs) (here : ComId → ℕ) (w : World) (past : Past) (c : ComId) (p : Pcom) (call : Call) (t : StepResult) → PcomStep program found here w past c p call t → is_a_pcom program c ≡ true
is-pcom program found here w past c p call t s = runs-pcom program c p (ap (is_of_kind (kind_of program c)) (sym s.is_node) ∙ s.explained.kinds c)

logs-are : (program : Program) (found : Logs) (here : ComId → ℕ) (w : World) (past : Past) (c : ComId) (p : Pcom) (call : Call) (t : StepResult) → PcomStep program found here w past c p call t → PcomLogFacts program c p.log.forced (all_of p.log) (past.sent c) (past.received c)
logs-are program found here w past c p call t s =
    subst (λ l. PcomLogFacts program c l (all_of p.log) (past.sent c) (past.received c)) (forced-is program found here w past c p call t s)
    (subst (λ l. PcomLogFacts program c (log_at (forced_logs w) c) l (past.sent c) (past.received c)) (whole-is program found here w past c p call t s) (s.explained.logs.pcoms c (is-pcom program found here w past c p call t s)))

pub forced-grows : (p : Pcom) (call : Call) (t : StepResult) → Shape p call t → IsPrefixOf p.log.forced t.pcom.log.forced
forced-grows p call t s = ⊎_elim (λ e. subst (IsPrefixOf p.log.forced) (sym e) (prefix-self p.log.forced))
    (λ e. subst (IsPrefixOf p.log.forced) (sym (e ∙ s.all)) (p.log.buffered ++ s.adds, append_assoc p.log.forced p.log.buffered s.adds)) s.forced

epochs : (program : Program) (found : Logs) (here : ComId → ℕ) (w : World) (past : Past) (c : ComId) (p : Pcom) (call : Call) (t : StepResult) → PcomStep program found here w past c p call t →
    (pre post : List Record) (stamp n x y : ℕ) → Stands (all_of t.pcom.log) pre (records.Outcome stamp n (Some (Epochs x y))) post → IsTrue (has_commit (past.sent c ++ t.puts) n) → x < y
epochs program found here w past c p call t s pre post stamp n x y st has =
    ⊎_elim older newer (Contains-append_cases (all_of p.log) s.shape.adds (records.Outcome stamp n (Some (Epochs x y))) (subst (λ l. Contains l (records.Outcome stamp n (Some (Epochs x y)))) (sym st ∙ s.shape.all) (Contains-append_right pre (records.Outcome stamp n (Some (Epochs x y)) ∷ post) (records.Outcome stamp n (Some (Epochs x y))) (in-head (records.Outcome stamp n (Some (Epochs x y))) post))))
  where
    -- a Commit that is put out is of a transaction that has no outcome
    unended : (q : Packet) → Contains t.puts q → commits n q ≡ true → has_outcome (all_of t.pcom.log) n ≡ true → ⊥
    unended (packets.Commit a b m place session at) h e ended =
        open-unended program c (past.received c ++ got call) t.pcom n s.kept.1 s.kept.0.whole.replays (subst (IsOpen t.pcom.vol) (sym (equal-numbers n m e)) (s.shape.commits a b m place session at h)) ended
    unended (packets.Data m) h e ended = true-false e
    unended (packets.Stable a b k) h e ended = true-false e
    unended (packets.Installed a b k) h e ended = true-false e
    unended (packets.Fetch a b k) h e ended = true-false e
    unended (packets.Op a b m place session q) h e ended = true-false e
    unended (packets.OpReply a b m place session v) h e ended = true-false e
    unended (packets.Outcome a b m place session d) h e ended = true-false e
    unended (packets.Drop a b m) h e ended = true-false e

    ended : has_outcome (all_of t.pcom.log) n ≡ true
    ended = contains_any (ends_txn n) (all_of t.pcom.log) (records.Outcome stamp n (Some (Epochs x y))) (subst (λ l. Contains l (records.Outcome stamp n (Some (Epochs x y)))) (sym st) (Contains-append_right pre (records.Outcome stamp n (Some (Epochs x y)) ∷ post) (records.Outcome stamp n (Some (Epochs x y))) (in-head (records.Outcome stamp n (Some (Epochs x y))) post))) (self-number n)

    before : (b : Bool) → has_commit (past.sent c) n ≡ b → (b || has_commit t.puts n) ≡ true → has_commit (past.sent c) n ≡ true
    before true e f = e
    before false e f = let z = any-has (commits n) t.puts f in absurd (unended z.0 z.1 z.2 ended)

    older : Contains (all_of p.log) (records.Outcome stamp n (Some (Epochs x y))) → x < y
    older h =
        let z = contains-split (all_of p.log) (records.Outcome stamp n (Some (Epochs x y))) h in
        s.explained.logs.epochs_rise c z.0 z.1 stamp n x y (whole-is program found here w past c p call t s ∙ z.2)
        (before (has_commit (past.sent c) n) refl (sym (list_any-append (commits n) (past.sent c) t.puts) ∙ has))

    newer : Contains s.shape.adds (records.Outcome stamp n (Some (Epochs x y))) → x < y
    newer h =
        let z = s.shape.aborts (Epochs x y) (mapped-keeps abort_in s.shape.adds (records.Outcome stamp n (Some (Epochs x y))) (Epochs x y) h refl) refl in
        s.explained.packets.epochs_rise z.0 z.1 z.2 z.3 z.4 x y (s.came (packets.Outcome z.0 z.1 z.2 z.3 z.4 (Aborted (Epochs x y))) z.5).1

showing : (program : Program) (found : Logs) (here : ComId → ℕ) (w : World) (past : Past) (c : ComId) (p : Pcom) (call : Call) (t : StepResult) → PcomStep program found here w past c p call t →
    IsSomeAnd (state_after program c (past.received c ++ got call) t.pcom.log.forced) (λ h. ShowingFacts (log_at found c) t.pcom.log.forced (all_of t.pcom.log) (shown_or (here c) t.shown) h (shown_by c w.showings ++ option_to_list t.shown))
showing program found here w past c p call t s = ⊎_elim silent shows s.shape.shows
  where
    is : is_a_pcom program c ≡ true
    is = is-pcom program found here w past c p call t s

    old : (h : Hist) × (state_after program c (past.received c) p.log.forced ≡ Some h) × ShowingFacts (log_at found c) p.log.forced (all_of p.log) (here c) h (shown_by c w.showings)
    old = open-content (λ h. ShowingFacts (log_at found c) p.log.forced (all_of p.log) (here c) h (shown_by c w.showings)) (state_after program c (past.received c) p.log.forced)
        (subst (λ l. IsSomeAnd (state_after program c (past.received c) l) (λ h. ShowingFacts (log_at found c) l (all_of p.log) (here c) h (shown_by c w.showings))) (forced-is program found here w past c p call t s)
        (subst (λ l. IsSomeAnd (state_after program c (past.received c) (log_at (forced_logs w) c)) (λ h. ShowingFacts (log_at found c) (log_at (forced_logs w) c) l (here c) h (shown_by c w.showings))) (whole-is program found here w past c p call t s) (s.explained.showings c is)))

    later : state_after program c (past.received c ++ got call) p.log.forced ≡ Some old.0
    later = section-state program c (past.received c) (got call) p.log.forced old.0 old.1

    -- the forced state behind the step
    now : (g : Hist) × (state_after program c (past.received c ++ got call) t.pcom.log.forced ≡ Some g)
    now = let y = some-of (state_after program c (past.received c ++ got call) (all_of t.pcom.log)) s.kept.0.whole.replays in
        let z = prefixes_replay program c (contents_in (past.received c ++ got call)) t.pcom.log.forced t.pcom.log.buffered y.0 y.1 in (z.0, z.1)

    grows : IsPrefixOf old.0.plain.outs now.0.plain.outs
    grows =
        let pre = forced-grows p call t s.shape in
        let z = prefixes_replay program c (contents_in (past.received c ++ got call)) p.log.forced pre.0 now.0 (ap (state_after program c (past.received c ++ got call)) (sym pre.1) ∙ now.1) in
        let same : z.0 ≡ old.0 = same_Some z.0 old.0 (sym z.1 ∙ later) in
        subst (λ (y : Hist). IsPrefixOf y.plain.outs now.0.plain.outs) same (states_grow program c (contents_in (past.received c ++ got call)) pre.0 z.0 now.0 z.2).outs

    silent : (t.shown ≡ None) × (list_any is_shown s.shape.adds ≡ false) → IsSomeAnd (state_after program c (past.received c ++ got call) t.pcom.log.forced) (λ h. ShowingFacts (log_at found c) t.pcom.log.forced (all_of t.pcom.log) (shown_or (here c) t.shown) h (shown_by c w.showings ++ option_to_list t.shown))
    silent y =
        let all : last_shown (all_of t.pcom.log) ≡ last_shown (all_of p.log) = ap last_shown s.shape.all ∙ none-shown (all_of p.log) s.shape.adds y.1 in
        let f = old.2 in
        some-at (λ h. ShowingFacts (log_at found c) t.pcom.log.forced (all_of t.pcom.log) (shown_or (here c) t.shown) h (shown_by c w.showings ++ option_to_list t.shown)) (state_after program c (past.received c ++ got call) t.pcom.log.forced) now.0 now.1
        (subst (λ o. ShowingFacts (log_at found c) t.pcom.log.forced (all_of t.pcom.log) (shown_or (here c) o) now.0 (shown_by c w.showings ++ option_to_list o)) (sym y.0)
        (subst (λ l. ShowingFacts (log_at found c) t.pcom.log.forced (all_of t.pcom.log) (here c) now.0 l) (sym (append-nil (shown_by c w.showings)))
        (⊎_elim
        (λ e. let same = ap last_shown e in showing-stays (log_at found c) p.log.forced (all_of p.log) t.pcom.log.forced (all_of t.pcom.log) (here c) (here c) old.0 now.0 (shown_by c w.showings) old.2 grows (omega (arith, same, f.found_forced)) (omega (arith, same, all, f.forced_all)) (omega (arith, all)) (omega (arith, all, f.here_recorded)))
        (λ e. let same = ap last_shown e in showing-stays (log_at found c) p.log.forced (all_of p.log) t.pcom.log.forced (all_of t.pcom.log) (here c) (here c) old.0 now.0 (shown_by c w.showings) old.2 grows (omega (arith, same, all, f.found_forced, f.forced_all)) (omega (arith, same)) (omega (arith, all)) (omega (arith, all, f.here_recorded)))
        s.shape.forced)))

    shows : (o : Output) × (t.shown ≡ Some o) × (Shelf.next_due p.vol.shelf (forced_end p) ≡ Some o) × (s.shape.adds ≡ records.Shown o.m ∷ []) × (t.pcom.log.forced ≡ p.log.forced) × (is_replaying p ≡ false) →
        IsSomeAnd (state_after program c (past.received c ++ got call) t.pcom.log.forced) (λ h. ShowingFacts (log_at found c) t.pcom.log.forced (all_of t.pcom.log) (shown_or (here c) t.shown) h (shown_by c w.showings ++ option_to_list t.shown))
    shows y =
        let made = at-some (λ h. Contains (outputs_of h) y.0) (state_after program c (past.received c) p.log.forced) old.0 old.1 (due-made program c (past.received c) p (volatile-is program found here w past c p call t s) y.0 y.2) in
        let next = due-next program c (past.sent c) (past.received c) p (logs-are program found here w past c p call t s) (volatile-is program found here w past c p call t s) y.5 y.0 y.2 in
        let all : last_shown (all_of t.pcom.log) ≡ y.0.m = ap last_shown (s.shape.all ∙ ap (λ l. all_of p.log ++ l) y.3) ∙ fold_push recorded_as 0 (all_of p.log) (records.Shown y.0.m) in
        subst (λ o. IsSomeAnd (state_after program c (past.received c ++ got call) t.pcom.log.forced) (λ h. ShowingFacts (log_at found c) t.pcom.log.forced (all_of t.pcom.log) (shown_or (here c) o) h (shown_by c w.showings ++ option_to_list o))) (sym y.1)
        (subst (λ l. IsSomeAnd (state_after program c (past.received c ++ got call) l) (λ h. ShowingFacts (log_at found c) l (all_of t.pcom.log) y.0.m h (shown_by c w.showings ++ y.0 ∷ []))) (sym y.4)
        (some-at (λ h. ShowingFacts (log_at found c) p.log.forced (all_of t.pcom.log) y.0.m h (shown_by c w.showings ++ y.0 ∷ [])) (state_after program c (past.received c ++ got call) p.log.forced) old.0 later
        (showing-next (log_at found c) p.log.forced (all_of p.log) (all_of t.pcom.log) (here c) old.0 (shown_by c w.showings) y.0 old.2 made next all)))

no-answer : (program : Program) (c : ComId) (log : List Record) (received : List Packet) (t e : ComId) (n i : ℕ) (session : Session) (v : ℤ) → IsTrueOf program c log received (packets.OpReply t e n i session v) → ⊥
no-answer program c log received t e n i session v x = x

-- the step of a Pcom, as the world makes it
pub pcom-stepped : (program : Program) (found : Logs) (here : ComId → ℕ) (w : World) (past : Past) (c : ComId) (p : Pcom) (call : Call) (t : StepResult) (answer : Answer) → IsPlayable program → PartsStay program → IsGiven program c call → IsWithin program c p call → IsExplainedBy program found here w past →
    node_at w c ≡ Some (Runs p) → ((x : Packet) → Contains (got call) x → (receiver_of x ≡ c) × Contains w.packets x) → pcom_step program c p call ≡ Some t → Stepped program found w past c (Runs p) (got call) (done_as answer t) (shown_or (here c) t.shown)
pcom-stepped program found here w past c p call t answer good stay given within f is_node came e = record {
  is_node = is_node;
  kind = kind-stays p t.pcom (kind_of program c);
  found_forced = prefix-trans (log_at found c) (log_at (forced_logs w) c) t.pcom.log.forced (f.logs.found_forced c) (subst (λ l. IsPrefixOf l t.pcom.log.forced) (sym (log-here forced_of w c (Runs p) is_node)) (forced-grows p call t shape));
  pcom = λ is. kept.0;
  tcom = λ is. not-both program c pcom is;
  other = λ a b. true-false (sym a ∙ pcom);
  got_sent = got_sent;
  in_order = λ later v. pcom-order program found (forced_logs w) (whole_logs w) past f.logs c (got call) shape.adds pcom (subst (λ l. IsSome (state_after program c (past.received c ++ got call) l)) grown kept.0.whole.replays) later (record { here = v.here ∙ grown; others = v.others });
  epochs_rise = epochs program found here w past c p call t all;
  mirrored = kept.1;
  served = tt;
  senders = λ x h. true-sender program c t.pcom.log.forced (past.received c ++ got call) x (mine x h);
  aborts_rise = λ u d n place session x y h. absurd (mine (packets.Outcome u d n place session (Aborted (Epochs x y))) h);
  one_owner = λ u. same-owner u w.packets t.puts (λ d n i session v h. mine (packets.OpReply u d n i session v) h) (f.packets.one_owner u);
  outcomes_answer = same-answers w.packets t.puts (λ u d n place session x h. mine (packets.Outcome u d n place session x) h) f.packets.outcomes_answer;
  showing = λ is. showing program found here w past c p call t all;
  shows = λ o h. pcom;
}
  where
    pcom : is_a_pcom program c ≡ true
    pcom = runs-pcom program c p (ap (is_of_kind (kind_of program c)) (sym is_node) ∙ f.kinds c)

    got_sent : (x : Packet) → Contains (got call) x → (receiver_of x ≡ c) × Contains (past.sent (sender_of x)) x
    got_sent x h = let y = came x h in (y.0, f.packets.sent x y.1)

    same : IsConsistent (past.received c ++ got call)
    same = consistent program found (forced_logs w) (whole_logs w) past f.logs c (got call) got_sent

    for_c : (k : Call) → ((x : Packet) → Contains (got k) x → receiver_of x ≡ c) → IsFor c k
    for_c (Gives handler args) k = tt
    for_c (Gets packet) k = k packet (in-head packet [])
    for_c Forces k = tt
    for_c Checkpoints k = tt
    for_c Resends k = tt
    for_c Emits k = tt

    whole : log_at (whole_logs w) c ≡ all_of p.log
    whole = log-here records_of w c (Runs p) is_node

    kept : StepKept program c (past.sent c) (past.received c ++ got call) t
    kept = pcom_steps_keep program c (past.sent c) (past.received c) p call t good stay given within (for_c call (λ x h. (came x h).0)) same
        (subst (λ l. PcomLogFacts program c l (all_of p.log) (past.sent c) (past.received c)) (log-here forced_of w c (Runs p) is_node) (subst (λ l. PcomLogFacts program c (log_at (forced_logs w) c) l (past.sent c) (past.received c)) whole (f.logs.pcoms c pcom)))
        (subst (λ o. MatchOption o ⊤ (IsMirrored program c (past.received c))) is_node (f.pcoms c)) e

    shape : Shape p call t
    shape = step-shape program c p call t e

    all : PcomStep program found here w past c p call t
    all = record { explained = f; is_node = is_node; kept = kept; shape = shape; came = came }

    grown : all_of t.pcom.log ≡ log_at (whole_logs w) c ++ shape.adds
    grown = shape.all ∙ ap (λ l. l ++ shape.adds) (sym whole)

    mine : (x : Packet) → Contains t.puts x → IsTrueOf program c t.pcom.log.forced (past.received c ++ got call) x
    mine x h = kept.0.lasting.packets_true x (Contains-append_right (past.sent c) t.puts x h)
