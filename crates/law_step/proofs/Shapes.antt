-- What a Pcom's step does to its log, what it shows, and when it puts out a Commit.
use Rattle.std.proofs.Common.{◌≡◌, refl, ◌∙◌, ap, sym, subst, ℕ, Bool, true, false, cond, ◌&&◌, ◌||◌, nat_lt, List, [], ◌∷◌, ◌++◌, map, Option, Some, None, option_map, option_to_list, ◌⊎◌, inl, inr, ⊎_elim, arith}
use Rattle.std.specs.Prelude.{Contains}
use Rattle.std.specs.List.{list_any}
use Rattle.std.proofs.lemmas.List.{append-nil, append_assoc}
use Rattle.std.proofs.lemmas.Option.{same_Some}
use Rattle.ic_base.specs.declared.messages.ComId.{ComId}
use Rattle.ic_base.specs.declared.messages.Msg.{Msg}
use Rattle.ic_base.specs.declared.messages.Output.{Output}
use Rattle.ic_base.specs.declared.messages.Session.{Session}
use Rattle.ic_base.specs.declared.messages.Packet.{Packet}
use Rattle.ic_base.specs.declared.messages.Packet.TheVariants.{Data, Stable, Installed, Fetch, Op, OpReply, Commit, Outcome, Drop}
use Rattle.ic_base.specs.declared.scenario.Program.{Program}
use Rattle.ic_base.specs.declared.record.Record.{Record}
use Rattle.ic_base.specs.declared.record.Record.TheVariants as records
use Rattle.def_state.specs.Names.{Identity}
use Rattle.def_state.specs.Outbox
use Rattle.def_state.specs.Outbox.{Held}
use Rattle.def_state.specs.Shelf
use Rattle.def_state.specs.Txn.{is_committing}
use Rattle.def_state.specs.Vol.{Vol}
use Rattle.def_step.specs.Packets.{fits_pcom}
use Rattle.def_step.specs.Replay.{feed, Playing}
use Rattle.def_step.specs.Pcom.{Pcom, Log, Call, Gives, Gets, Forces, Checkpoints, Resends, Emits, Effects, Fed, StepResult, all_of, is_replaying, force_if, force_log, cover_if, force_where, append, absorb, absorb_choice, marked, put_out, told, after_tail, tail_packets, decide, on_emit, just_tail, nothing_at_all, forced_end, must_force, came_to_first, came_further, place_of, carry_out, pcom_step, replay_step, packet_at_replay, stays, fed, stands_at, standing_at, needed_fetch, needed, fetch_packet, is_needed}
use Rattle.law_replay.proofs.Lists.{none-some, true-false, empty}
use Rattle.law_replay.proofs.Members.{map-has}
use Rattle.law_pcom.specs.Stepping.{got}
use Rattle.law_step.proofs.Choices.{is_shown, AbortsCome, CommitsOpen, IsOpen, Chosen, none-come, no-commit-data, both-commit, tail-commits, call-chosen}

marked-log : (p : Pcom) (o : Option Identity) → (marked p o).log ≡ p.log
marked-log p None = refl
marked-log p (Some x) = refl

marked-txn : (p : Pcom) (o : Option Identity) → (marked p o).vol.txn ≡ p.vol.txn
marked-txn p None = refl
marked-txn p (Some x) = refl

absorbed-log : (program : Program) (c : ComId) (content : Option Msg) (q : Pcom) (rs : List Record) → (absorb program c content q rs).log ≡ record { forced = q.log.forced; buffered = q.log.buffered ++ rs }
absorbed-log program c content q [] = ap (λ l. record { forced = q.log.forced; buffered = l }) (sym (append-nil q.log.buffered))
absorbed-log program c content q (r ∷ rs) = absorbed-log program c content (append program c content q r) rs ∙ ap (λ l. record { forced = q.log.forced; buffered = l }) (append_assoc q.log.buffered (r ∷ []) rs)

pub chosen-log : (program : Program) (c : ComId) (d : Effects) (p : Pcom) → (absorb_choice program c d p).log ≡ record { forced = p.log.forced; buffered = p.log.buffered ++ d.adds }
chosen-log program c d p = absorbed-log program c d.content (marked p d.marks) d.adds ∙ ap (λ (l : Log). record { forced = l.forced; buffered = l.buffered ++ d.adds }) (marked-log p d.marks)

below : (n : ℕ) → nat_lt n n ≡ false
below n = grind arith

pub same-txn : (v w : Vol) → w.txn ≡ v.txn → must_force v w ≡ false
same-txn v w txn =
    ap (λ x. nat_lt v.txn.begun x.begun || (nat_lt (place_of v.txn.stage) (place_of x.stage) && is_committing x.stage)) txn
    ∙ ap (λ b. b || (nat_lt (place_of v.txn.stage) (place_of v.txn.stage) && is_committing v.txn.stage)) (below v.txn.begun)
    ∙ ap (λ b. b && is_committing v.txn.stage) (below (place_of v.txn.stage))

-- the log is as it was but for what is added, and all of it is forced or no more than before
pub record Shape (p : Pcom) (call : Call) (t : StepResult) : Type 0 where
  pub adds : List Record
  pub all : all_of t.pcom.log ≡ all_of p.log ++ adds
  pub replays : is_replaying p ≡ true → adds ≡ []
  pub forced : (t.pcom.log.forced ≡ p.log.forced) ⊎ (t.pcom.log.forced ≡ all_of t.pcom.log)
  pub aborts : AbortsCome (got call) adds
  pub shows : ((t.shown ≡ None) × (list_any is_shown adds ≡ false)) ⊎ ((o : Output) × (t.shown ≡ Some o) × (Shelf.next_due p.vol.shelf (forced_end p) ≡ Some o) × (adds ≡ records.Shown o.m ∷ []) × (t.pcom.log.forced ≡ p.log.forced) × (is_replaying p ≡ false))
  pub commits : CommitsOpen t.pcom.vol t.puts

covered-log : (b : Bool) (q : Pcom) → (cover_if b q).log ≡ q.log
covered-log true q = refl
covered-log false q = refl

covered-txn : (b : Bool) (q : Pcom) → (cover_if b q).vol.txn ≡ q.vol.txn
covered-txn true q = refl
covered-txn false q = refl

forced-txn : (b : Bool) (q : Pcom) → (force_if b q).vol.txn ≡ q.vol.txn
forced-txn true q = refl
forced-txn false q = refl

forced-log : (b : Bool) (q : Pcom) → (force_if b q).log ≡ cond b (force_log q.log) q.log
forced-log true q = refl
forced-log false q = refl

put-log : (c : ComId) (before : Vol) (d : Effects) (q : Pcom) → (put_out c before d q).pcom.log ≡ q.log
put-log c before d q = at d.is_quiet
  where
    at : (b : Bool) → (cond b (told q d.answers d) (told (after_tail q) (d.answers ++ tail_packets c (came_to_first before q.vol || came_further before q.vol) q) d)).pcom.log ≡ q.log
    at true = refl
    at false = refl

put-shown : (c : ComId) (before : Vol) (d : Effects) (q : Pcom) → (put_out c before d q).shown ≡ d.shown
put-shown c before d q = at d.is_quiet
  where
    at : (b : Bool) → (cond b (told q d.answers d) (told (after_tail q) (d.answers ++ tail_packets c (came_to_first before q.vol || came_further before q.vol) q) d)).shown ≡ d.shown
    at true = refl
    at false = refl

put-commits : (c : ComId) (before : Vol) (d : Effects) (q : Pcom) → CommitsOpen q.vol d.answers → CommitsOpen (put_out c before d q).pcom.vol (put_out c before d q).puts
put-commits c before d q answers = at d.is_quiet
  where
    at : (b : Bool) → CommitsOpen (cond b (told q d.answers d) (told (after_tail q) (d.answers ++ tail_packets c (came_to_first before q.vol || came_further before q.vol) q) d)).pcom.vol (cond b (told q d.answers d) (told (after_tail q) (d.answers ++ tail_packets c (came_to_first before q.vol || came_further before q.vol) q) d)).puts
    at true = answers
    at false = both-commit (after_tail q).vol d.answers (tail_packets c (came_to_first before q.vol || came_further before q.vol) q) answers (tail-commits c (came_to_first before q.vol || came_further before q.vol) q)

-- what is chosen is absorbed, and forced where it must be
pub carried-log : (program : Program) (c : ComId) (p : Pcom) (d : Effects) → (carry_out program c p d).pcom.log ≡ cond (d.forces || must_force p.vol (absorb_choice program c d p).vol) (force_log (absorb_choice program c d p).log) (absorb_choice program c d p).log
carried-log program c p d =
    put-log c p.vol d (force_where p.vol d (absorb_choice program c d p))
    ∙ covered-log d.covers (force_if (d.forces || must_force p.vol (absorb_choice program c d p).vol) (absorb_choice program c d p))
    ∙ forced-log (d.forces || must_force p.vol (absorb_choice program c d p).vol) (absorb_choice program c d p)

carried-shape : (program : Program) (c : ComId) (p : Pcom) (call : Call) (d : Effects) → is_replaying p ≡ false → Chosen (got call) p d → Shape p call (carry_out program c p d)
carried-shape program c p call d up x = record {
  adds = d.adds;
  all = all;
  replays = λ e. true-false (sym up ∙ e);
  forced = forced;
  aborts = x.aborts;
  shows = ⊎_elim (λ y. inl (put-shown c p.vol d (force_where p.vol d q) ∙ y.0, y.1)) (λ y. inr (y.0, put-shown c p.vol d (force_where p.vol d q) ∙ ap (λ (z : Effects). z.shown) y.2, y.1, ap (λ (z : Effects). z.adds) y.2, quiet y.0 y.2, up)) x.shows;
  commits = put-commits c p.vol d (force_where p.vol d q) (λ e to n place session stamp h. answer e to n place session stamp h x.calm);
}
  where
    q : Pcom
    q = absorb_choice program c d p

    flag : Bool
    flag = d.forces || must_force p.vol q.vol

    log : (carry_out program c p d).pcom.log ≡ cond (d.forces || must_force p.vol (absorb_choice program c d p).vol) (force_log (absorb_choice program c d p).log) (absorb_choice program c d p).log
    log = carried-log program c p d

    whole : all_of (absorb_choice program c d p).log ≡ all_of p.log ++ d.adds
    whole = ap all_of (chosen-log program c d p) ∙ sym (append_assoc p.log.forced p.log.buffered d.adds)

    all : all_of (carry_out program c p d).pcom.log ≡ all_of p.log ++ d.adds
    all = ap all_of log ∙ at (d.forces || must_force p.vol (absorb_choice program c d p).vol) ∙ whole
      where
        at : (b : Bool) → all_of (cond b (force_log (absorb_choice program c d p).log) (absorb_choice program c d p).log) ≡ all_of (absorb_choice program c d p).log
        at true = append-nil (all_of (absorb_choice program c d p).log)
        at false = refl

    unforced : (absorb_choice program c d p).log.forced ≡ p.log.forced
    unforced = ap (λ (l : Log). l.forced) (chosen-log program c d p)

    forced : ((carry_out program c p d).pcom.log.forced ≡ p.log.forced) ⊎ ((carry_out program c p d).pcom.log.forced ≡ all_of (carry_out program c p d).pcom.log)
    forced = subst (λ (l : Log). (l.forced ≡ p.log.forced) ⊎ (l.forced ≡ all_of l)) (sym log) (at (d.forces || must_force p.vol (absorb_choice program c d p).vol))
      where
        at : (b : Bool) → ((cond b (force_log (absorb_choice program c d p).log) (absorb_choice program c d p).log).forced ≡ p.log.forced) ⊎ ((cond b (force_log (absorb_choice program c d p).log) (absorb_choice program c d p).log).forced ≡ all_of (cond b (force_log (absorb_choice program c d p).log) (absorb_choice program c d p).log))
        at true = inr (sym (append-nil (all_of (absorb_choice program c d p).log)))
        at false = inl (ap (λ (l : Log). l.forced) (chosen-log program c d p))

    quiet : (o : Output) → d ≡ on_emit (Some o) → (carry_out program c p d).pcom.log.forced ≡ p.log.forced
    quiet o is = subst (λ z. (carry_out program c p z).pcom.log.forced ≡ p.log.forced) (sym is)
        (ap (λ (l : Log). l.forced) (put-log c p.vol (on_emit (Some o)) (force_where p.vol (on_emit (Some o)) (absorb_choice program c (on_emit (Some o)) p))
        ∙ ap (λ b. (force_if b (absorb_choice program c (on_emit (Some o)) p)).log) (same-txn p.vol (absorb_choice program c (on_emit (Some o)) p).vol refl)))

    txn : d.adds ≡ [] → (absorb_choice program c d p).vol.txn ≡ p.vol.txn
    txn none = ap (λ l. (absorb program c d.content (marked p d.marks) l).vol.txn) none ∙ marked-txn p d.marks

    answer : (e to : ComId) (n place : ℕ) (session : Session) (stamp : ℕ) → Contains d.answers (Commit e to n place session stamp) → (d.answers ≡ []) ⊎ (d.adds ≡ []) → IsOpen (force_where p.vol d (absorb_choice program c d p)).vol n
    answer e to n place session stamp h (inl none) = empty _ (subst (λ l. Contains l (Commit e to n place session stamp)) none h)
    answer e to n place session stamp h (inr none) =
        let same : (force_where p.vol d (absorb_choice program c d p)).vol.txn ≡ p.vol.txn = covered-txn d.covers (force_if (d.forces || must_force p.vol (absorb_choice program c d p).vol) (absorb_choice program c d p)) ∙ forced-txn (d.forces || must_force p.vol (absorb_choice program c d p).vol) (absorb_choice program c d p) ∙ txn none in
        let y = x.commits e to n place session stamp h in
        (ap (λ z. is_committing z.stage) same ∙ y.0, ap (λ z. z.begun) same ∙ y.1)

-- while it replays, the log stays
still : (p : Pcom) (call : Call) (q : Pcom) (puts : List Packet) (d : Effects) → q.log ≡ p.log → d.shown ≡ None → CommitsOpen q.vol puts → Shape p call (told q puts d)
still p call q puts d same none commits = record {
  adds = [];
  all = ap all_of same ∙ sym (append-nil (all_of p.log));
  replays = λ e. refl;
  forced = inl (ap (λ (l : Log). l.forced) same);
  aborts = λ cause h. none-come (got call) cause h;
  shows = inl (none, refl);
  commits = commits;
}

fetch-commits : (c : ComId) (o : Option Identity) (v : Vol) → CommitsOpen v (map (fetch_packet c) (option_to_list o))
fetch-commits c o v e to n place session stamp h = let y = map-has (fetch_packet c) (option_to_list o) (Commit e to n place session stamp) h in absurd (cc (y.2))

none-commits : (v : Vol) → CommitsOpen v []
none-commits v e to n place session stamp h = empty _ h

stays-shape : (p : Pcom) (call : Call) (puts : List Packet) (t : StepResult) → CommitsOpen p.vol puts → stays p puts ≡ Some t → Shape p call t
stays-shape p call puts t commits e = subst (Shape p call) (same_Some (told p puts nothing_at_all) t e) (still p call p puts nothing_at_all refl refl commits)

pub standing-log : (l : Log) (v : Vol) (rest : List Record) → (standing_at l v rest).log ≡ l
standing-log l v [] = refl
standing-log l v (r ∷ rs) = refl

fed-shape : (c : ComId) (p : Pcom) (call : Call) (q : Pcom) → q.log ≡ p.log → Shape p call (fed c q)
fed-shape c p call q same = at (is_replaying q)
  where
    at : (b : Bool) → Shape p call (cond b (told q [] (record nothing_at_all { word = Fed })) (told (after_tail q) (tail_packets c false q) (record just_tail { word = Fed })))
    at true = still p call q [] (record nothing_at_all { word = Fed }) same refl (none-commits q.vol)
    at false = still p call (after_tail q) (tail_packets c false q) (record just_tail { word = Fed }) same refl (tail-commits c false q)

replay-shape : (program : Program) (c : ComId) (p : Pcom) (call : Call) (t : StepResult) → replay_step program c p call ≡ Some t → Shape p call t
replay-shape program c p (Gives handler args) t e = stays-shape p _ [] t (none-commits p.vol) e
replay-shape program c p Forces t e = stays-shape p _ [] t (none-commits p.vol) e
replay-shape program c p Checkpoints t e = stays-shape p _ [] t (none-commits p.vol) e
replay-shape program c p Resends t e = stays-shape p _ (needed_fetch c p.rest) t (fetch-commits c (needed p.rest) p.vol) e
replay-shape program c p Emits t e = stays-shape p _ [] t (none-commits p.vol) e
replay-shape program c p (Gets packet) t e = at (fits_pcom program c packet) e
  where
    by : (x : Packet) → packet_at_replay program c p x ≡ Some t → Shape p (Gets packet) t
    by (Data m) f = when (is_needed p.rest m) f
      where
        played : (o : Option Playing) → option_map (λ x. fed c (stands_at p.log x)) o ≡ Some t → Shape p (Gets packet) t
        played None g = absurd (none-some t g)
        played (Some x) g = subst (Shape p (Gets packet)) (same_Some (fed c (stands_at p.log x)) t g) (fed-shape c p (Gets packet) (stands_at p.log x) (standing-log p.log x.vol x.rest))

        when : (b : Bool) → cond b (option_map (λ x. fed c (stands_at p.log x)) (feed program c p.vol m p.rest)) (stays p []) ≡ Some t → Shape p (Gets packet) t
        when true g = played (feed program c p.vol m p.rest) g
        when false g = stays-shape p (Gets packet) [] t (none-commits p.vol) g
    by (Fetch from to k) f = stays-shape p (Gets packet) (map Data (option_to_list (Outbox.fetch p.vol.outbox (record { peer = from; k = k }) (forced_end p)))) t (no-commit-data (option_to_list (Outbox.fetch p.vol.outbox (record { peer = from; k = k }) (forced_end p))) p.vol) f
    by (Stable from to k) f = stays-shape p (Gets packet) [] t (none-commits p.vol) f
    by (Installed from to k) f = stays-shape p (Gets packet) [] t (none-commits p.vol) f
    by (Op from to n place session request) f = stays-shape p (Gets packet) [] t (none-commits p.vol) f
    by (OpReply from to n place session value) f = stays-shape p (Gets packet) [] t (none-commits p.vol) f
    by (Commit from to n place session stamp) f = stays-shape p (Gets packet) [] t (none-commits p.vol) f
    by (Outcome from to n place session decision) f = stays-shape p (Gets packet) [] t (none-commits p.vol) f
    by (Drop from to n) f = stays-shape p (Gets packet) [] t (none-commits p.vol) f

    at : (b : Bool) → cond b (packet_at_replay program c p packet) (stays p []) ≡ Some t → Shape p (Gets packet) t
    at true f = by packet f
    at false f = stays-shape p (Gets packet) [] t (none-commits p.vol) f

pub step-shape : (program : Program) (c : ComId) (p : Pcom) (call : Call) (t : StepResult) → pcom_step program c p call ≡ Some t → Shape p call t
step-shape program c p call t e = at (is_replaying p) refl e
  where
    at : (b : Bool) → is_replaying p ≡ b → cond b (replay_step program c p call) (Some (carry_out program c p (decide program c p call))) ≡ Some t → Shape p call t
    at true up f = replay-shape program c p call t f
    at false up f = subst (Shape p call) (same_Some (carry_out program c p (decide program c p call)) t f) (carried-shape program c p call (decide program c p call) up (call-chosen program c p call))
