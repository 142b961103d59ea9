-- A step of a Pcom keeps it represented.
use Rattle.std.proofs.Common.{◌≡◌, refl, ◌∙◌, ap, sym, subst, ℕ, ◌+◌, ◌≤◌, ◌==◌, Bool, true, false, cond, not, ◌&&◌, ◌||◌, List, [], ◌∷◌, ◌++◌, ℤ, Option, Some, None, option_map, is_none, is_some, arith}
use Rattle.std.specs.Prelude.{⊤, MatchOption, max}
use Rattle.std.proofs.lemmas.Option.{same_Some}
use Rattle.std.proofs.lemmas.List.{append_assoc, append-nil}
use Rattle.ic_base.specs.declared.messages.ComId.{ComId}
use Rattle.ic_base.specs.declared.messages.Msg.{Msg}
use Rattle.ic_base.specs.declared.messages.Output.{Output}
use Rattle.ic_base.specs.declared.messages.Decision.{Decision}
use Rattle.ic_base.specs.declared.messages.Decision.TheVariants.{Committed, Aborted}
use Rattle.ic_base.specs.declared.messages.Session.{Session}
use Rattle.ic_base.specs.declared.messages.Packet.{Packet}
use Rattle.ic_base.specs.declared.messages.Packet.TheVariants.{Data, Stable, Installed, Fetch, Op, OpReply, Commit, Outcome, Drop}
use Rattle.ic_base.specs.declared.scenario.Program.{Program}
use Rattle.ic_base.specs.declared.record.Record.{Record}
use Rattle.ic_base.specs.declared.record.Record.TheVariants.{Take, TakeWhole, Input, Value, Released, Checkpoint}
use Rattle.ic_base.specs.Programs.{is_immediate}
use Rattle.def_state.specs.Names.{Identity}
use Rattle.def_state.specs.Positions.{end_of}
use Rattle.def_state.specs.Outbox
use Rattle.def_state.specs.Outbox.{Held, mark_put, mark_stable}
use Rattle.def_state.specs.Inbox
use Rattle.def_state.specs.Shelf
use Rattle.def_state.specs.Txn
use Rattle.def_state.specs.Txn.{is_on, is_idle, is_awaited_at, is_committing, accepts}
use Rattle.def_state.specs.Image.{image_of}
use Rattle.def_state.specs.Vol.{Vol, regenerated, with_put_mark}
use Rattle.def_step.specs.Packets.{fits_pcom}
use Rattle.def_step.specs.Replay.{feed, recovered}
use Rattle.def_step.specs.Pcom.{Log, all_of, Pcom, forced_end, log_end, is_empty, is_replaying, in_hand, Call, Gives, Gets, Forces, Checkpoints, Resends, Emits, Effects, just_tail, nothing_at_all, take_record, level_answer, on_data, on_installed, on_reply, on_outcome, on_packet, on_emit, need_records, fails_with, decide, marked, append, absorb, must_force, force_if, cover_if, after_tail, StepResult, told, Busy, Took, Fed, Changed, force_where, absorb_choice, carry_out, tail_packets, came_to_first, came_further, fed, standing_at, stands_at, is_needed, needed_fetch, packet_at_replay, replay_step, stays, pcom_step, recover_pcom, fresh_pcom}
use Rattle.def_facts.specs.Playable.{IsPlayable}
use Rattle.def_plain.specs.declared.world.InHand.{InHand}
use Rattle.law_settle.specs.Measure.{BeginsWithTake, CanSettle}
use Rattle.law_settle.specs.Represented.{OpenHand, HandFits, TablesFit, RestFits, IsRepresented}
use Rattle.law_settle.proofs.Hands.{MayFollow, record_keeps_hand}
use Rattle.law_settle.proofs.Tables.{outbox_maps, covered-fits, told-fits, tables_weaken, record_keeps_tables}
use Rattle.law_settle.proofs.Replaying.{PlayingFits, fed_fits}
use Rattle.law_settle.proofs.Images.{recovered_fits, first_fits}
use Rattle.law_replay.proofs.Lists.{true-false, none-some, back, mapped}
use Rattle.law_replay.proofs.Records.{end-prefix}

-- changes of marks --------------------------------------------------------------------------------

marked-tables : (n : ℕ) (p : Pcom) (o : Option Identity) → TablesFit n p.vol → TablesFit n (marked p o).vol
marked-tables n p None x = x
marked-tables n p (Some y) x = record { held = outbox_maps n p.vol.outbox (mark_stable y) (λ h. refl) (λ h. refl) x.held; shelved = x.shelved; receipts = x.receipts; ended = x.ended }

tail-tables : (n : ℕ) (p : Pcom) → TablesFit n p.vol → TablesFit n (after_tail p).vol
tail-tables n p x = record { held = outbox_maps n p.vol.outbox (mark_put (forced_end p)) (λ h. refl) (λ h. refl) x.held; shelved = x.shelved; receipts = told-fits n (forced_end p) p.vol.inbox x.receipts; ended = x.ended }

regenerated-tables : (n : ℕ) (v : Vol) → TablesFit n v → TablesFit n (regenerated v)
regenerated-tables n v x = record { held = outbox_maps n v.outbox with_put_mark (λ h. refl) (λ h. refl) x.held; shelved = x.shelved; receipts = x.receipts; ended = x.ended }

-- one that doesn't replay -------------------------------------------------------------------------

pub record LiveFits (program : Program) (c : ComId) (p : Pcom) : Type 0 where
  pub hand : HandFits program c p.vol
  pub tables : TablesFit (log_end p) p.vol
  pub live : is_replaying p ≡ false

le-self : (n : ℕ) → n ≤ n
le-self n = omega arith

is-le : (m n : ℕ) → m ≡ n → m ≤ n
is-le m n e = omega (arith, e)

pub append-keeps : (program : Program) (c : ComId) (content : Option Msg) (p : Pcom) (r : Record) → IsPlayable program → LiveFits program c p → MayFollow p.vol r → LiveFits program c (append program c content p r)
append-keeps program c content p r good x ok = record {
  hand = record_keeps_hand program c (end_of (all_of p.log ++ r ∷ [])) content p.vol r good x.hand ok;
  tables = tables_weaken (end_of (all_of p.log ++ r ∷ [])) (log_end (append program c content p r)) (append program c content p r).vol
      (is-le (end_of (all_of p.log ++ r ∷ [])) (log_end (append program c content p r)) (ap end_of (append_assoc p.log.forced p.log.buffered (r ∷ []))))
      (record_keeps_tables program c (end_of (all_of p.log ++ r ∷ [])) (end_of (all_of p.log ++ r ∷ [])) content p.vol r (le-self (end_of (all_of p.log ++ r ∷ []))) (tables_weaken (log_end p) (end_of (all_of p.log ++ r ∷ [])) p.vol (end-prefix (all_of p.log) (r ∷ [])) x.tables));
  live = x.live;
}

-- records that may follow one after another
unfoldable pub FollowAll : Program → ComId → Option Msg → Pcom → List Record → Type 0
FollowAll program c content p [] = ⊤
FollowAll program c content p (r ∷ rs) = MayFollow p.vol r × FollowAll program c content (append program c content p r) rs

absorb-keeps : (program : Program) (c : ComId) (content : Option Msg) (p : Pcom) (rs : List Record) → IsPlayable program → LiveFits program c p → FollowAll program c content p rs → LiveFits program c (absorb program c content p rs)
unfolding FollowAll
absorb-keeps program c content p [] good x ok = x
absorb-keeps program c content p (r ∷ rs) good x ok = absorb-keeps program c content (append program c content p r) rs good (append-keeps program c content p r good x ok.0) ok.1

force-keeps : (program : Program) (c : ComId) (b : Bool) (p : Pcom) → LiveFits program c p → LiveFits program c (force_if b p)
force-keeps program c false p x = x
force-keeps program c true p x = record {
  hand = x.hand;
  tables = tables_weaken (log_end p) (log_end (force_if true p)) p.vol (is-le (log_end p) (log_end (force_if true p)) (ap end_of (sym (append-nil (all_of p.log))))) x.tables;
  live = x.live;
}

cover-keeps : (program : Program) (c : ComId) (b : Bool) (p : Pcom) → LiveFits program c p → LiveFits program c (cover_if b p)
cover-keeps program c false p x = x
cover-keeps program c true p x = record { hand = x.hand; tables = record { held = x.tables.held; shelved = x.tables.shelved; receipts = covered-fits (log_end p) (log_end p) p.vol.inbox x.tables.receipts; ended = x.tables.ended }; live = x.live }

pub marked-keeps : (program : Program) (c : ComId) (p : Pcom) (o : Option Identity) → LiveFits program c p → LiveFits program c (marked p o)
marked-keeps program c p None x = x
marked-keeps program c p (Some y) x = record { hand = x.hand; tables = marked-tables (log_end p) p (Some y) x.tables; live = x.live }

tail-keeps : (program : Program) (c : ComId) (p : Pcom) → LiveFits program c p → LiveFits program c (after_tail p)
tail-keeps program c p x = record { hand = x.hand; tables = tail-tables (log_end p) p x.tables; live = x.live }

live-represented : (program : Program) (c : ComId) (p : Pcom) → LiveFits program c p → IsRepresented program c p
live-represented program c p x = record { hand = x.hand; tables = x.tables; rest = at p.rest x.live; forced = λ e. true-false (sym x.live ∙ e) }
  where
    at : (rs : List Record) → not (is_empty rs) ≡ false → RestFits p.vol rs
    at [] e = tt
    at (r ∷ rs) e = true-false (sym e)

put-keeps : (program : Program) (c : ComId) (b : Bool) (quiet loud : List Packet) (d : Effects) (q : Pcom) → LiveFits program c q → IsRepresented program c (cond b (told q quiet d) (told (after_tail q) loud d)).pcom
put-keeps program c true quiet loud d q x = live-represented program c q x
put-keeps program c false quiet loud d q x = live-represented program c (after_tail q) (tail-keeps program c q x)

-- what a choice adds may follow
unfoldable pub Follows : Program → ComId → Pcom → Effects → Type 0
Follows program c p d = FollowAll program c d.content (marked p d.marks) d.adds

carry-keeps : (program : Program) (c : ComId) (p : Pcom) (d : Effects) → IsPlayable program → LiveFits program c p → Follows program c p d → IsRepresented program c (carry_out program c p d).pcom
unfolding Follows
carry-keeps program c p d good x ok =
    let q = absorb_choice program c d p in
    let f = force_where p.vol d q in
    put-keeps program c d.is_quiet d.answers (d.answers ++ tail_packets c (came_to_first p.vol f.vol || came_further p.vol f.vol) f) d f
    (cover-keeps program c d.covers (force_if (d.forces || must_force p.vol q.vol) q)
    (force-keeps program c (d.forces || must_force p.vol q.vol) q (absorb-keeps program c d.content (marked p d.marks) d.adds good (marked-keeps program c p d.marks x) ok)))

-- what is decided ---------------------------------------------------------------------------------

none-free : {A : Type 0} (o : Option A) → is_some o ≡ false → is_none o ≡ true
none-free None e = refl
none-free (Some x) e = true-false (sym e)

data-follows : (program : Program) (c : ComId) (p : Pcom) (m : Msg) → Follows program c p (on_data program c p m)
unfolding Follows FollowAll
data-follows program c p m = at (Inbox.is_taken p.vol.inbox (record { peer = m.from; k = m.k })) (in_hand p) refl (is_immediate program c)
  where
    record-follows : (b : Bool) → is_none p.vol.hand ≡ true → MayFollow p.vol (cond b (TakeWhole m.from m.k (max p.vol.clock m.stamp + 1) m.handler m.args) (Take m.from m.k (max p.vol.clock m.stamp + 1)))
    record-follows true free = free
    record-follows false free = free

    at : (taken b : Bool) → in_hand p ≡ b → (whole : Bool) → Follows program c p (cond taken (record just_tail { answers = level_answer c m (Inbox.level p.vol.inbox (record { peer = m.from; k = m.k }) (forced_end p)) }) (cond b (record nothing_at_all { word = Busy }) (record just_tail { word = Took; content = Some m; adds = take_record program c p.vol m ∷ []; forces = is_immediate program c })))
    at true b e whole = tt
    at false true e whole = tt
    at false false e whole = (record-follows (is_immediate program c) (none-free p.vol.hand e), tt)

reply-awaited : (x : Txn.Txn) (from to : ComId) (n place : ℕ) (session : Session) (value answer : ℤ) → Txn.reply x (OpReply from to n place session value) ≡ Some answer → is_awaited_at x.stage place session ≡ true
reply-awaited x from to n place session value answer e = at (is_on x.stage from && ((n == x.begun) && is_awaited_at x.stage place session)) refl e
  where
    at : (b : Bool) → is_on x.stage from && ((n == x.begun) && is_awaited_at x.stage place session) ≡ b → cond b (Some value) None ≡ Some answer → is_awaited_at x.stage place session ≡ true
    at true is f = back (n == x.begun) _ (back (is_on x.stage from) _ is)
    at false is f = none-some answer f

outcome-accepted : (x : Txn.Txn) (from to : ComId) (n place : ℕ) (session : Option Session) (decision other : Decision) → Txn.outcome x (Outcome from to n place session decision) ≡ Some other → accepts x.stage place session other ≡ true
outcome-accepted x from to n place session decision other e = at (is_on x.stage from && ((n == x.begun) && accepts x.stage place session decision)) refl e
  where
    at : (b : Bool) → is_on x.stage from && ((n == x.begun) && accepts x.stage place session decision) ≡ b → cond b (Some decision) None ≡ Some other → accepts x.stage place session other ≡ true
    at true is f = subst (λ d. accepts x.stage place session d ≡ true) (same_Some decision other f) (back (n == x.begun) _ (back (is_on x.stage from) _ is))
    at false is f = none-some other f

reply-follows : (program : Program) (c : ComId) (p : Pcom) (n place : ℕ) (session : Session) (o : Option ℤ) → ((value : ℤ) → o ≡ Some value → is_awaited_at p.vol.txn.stage place session ≡ true) → Follows program c p (on_reply program c p.vol n place session o)
unfolding Follows FollowAll
reply-follows program c p n place session None h = tt
reply-follows program c p n place session (Some value) h = (h value refl, at (fails_with program c p.vol value))
  where
    at : (o : Option ℕ) → FollowAll program c None (append program c None p (Value n place session value)) (need_records p.vol o)
    at None = tt
    at (Some line) = (tt, tt)

outcome-follows : (program : Program) (c : ComId) (p : Pcom) (place : ℕ) (session : Option Session) (o : Option Decision) → ((d : Decision) → o ≡ Some d → accepts p.vol.txn.stage place session d ≡ true) → Follows program c p (on_outcome p.vol o)
unfolding Follows FollowAll
outcome-follows program c p place session None h = tt
outcome-follows program c p place session (Some (Committed stamp)) h = (h (Committed stamp) refl, tt)
outcome-follows program c p place session (Some (Aborted cause)) h = (tt, tt)

installed-follows : (program : Program) (c : ComId) (p : Pcom) (x : Identity) → Follows program c p (on_installed p x)
unfolding Follows FollowAll
installed-follows program c p x = at (Outbox.is_held p.vol.outbox x)
  where
    at : (b : Bool) → Follows program c p (cond b (record just_tail { adds = Released x.peer x.k ∷ []; word = Changed }) just_tail)
    at true = (tt, tt)
    at false = tt

packet-follows : (program : Program) (c : ComId) (p : Pcom) (packet : Packet) → Follows program c p (on_packet program c p packet)
unfolding Follows FollowAll
packet-follows program c p (Data m) = data-follows program c p m
packet-follows program c p (Stable from to k) = tt
packet-follows program c p (Installed from to k) = installed-follows program c p (record { peer = from; k = k })
packet-follows program c p (Fetch from to k) = tt
packet-follows program c p (OpReply from to n place session value) =
    reply-follows program c p n place session (Txn.reply p.vol.txn (OpReply from to n place session value)) (λ answer e. reply-awaited p.vol.txn from to n place session value answer e)
packet-follows program c p (Outcome from to n place session decision) =
    outcome-follows program c p place session (Txn.outcome p.vol.txn (Outcome from to n place session decision)) (λ d e. outcome-accepted p.vol.txn from to n place session decision d e)
packet-follows program c p (Op from to n place session request) = tt
packet-follows program c p (Commit from to n place session stamp) = tt
packet-follows program c p (Drop from to n) = tt

chosen-follows : (program : Program) (c : ComId) (p : Pcom) (b : Bool) (d : Effects) → (b ≡ true → Follows program c p d) → Follows program c p (cond b d nothing_at_all)
unfolding Follows FollowAll
chosen-follows program c p true d h = h refl
chosen-follows program c p false d h = tt

free-follows : (program : Program) (c : ComId) (p : Pcom) (b : Bool) (d : Effects) → (b ≡ false → Follows program c p d) → Follows program c p (cond b nothing_at_all d)
unfolding Follows FollowAll
free-follows program c p false d h = h refl
free-follows program c p true d h = tt

emit-follows : (program : Program) (c : ComId) (p : Pcom) (o : Option Output) → Follows program c p (on_emit o)
unfolding Follows FollowAll
emit-follows program c p None = tt
emit-follows program c p (Some o) = (tt, tt)

pub decided-follows : (program : Program) (c : ComId) (p : Pcom) (call : Call) → Follows program c p (decide program c p call)
unfolding Follows FollowAll
decided-follows program c p (Gives handler args) = free-follows program c p (in_hand p) (record just_tail { word = Took; adds = Input (p.vol.clock + 1) handler args ∷ []; forces = true }) (λ e. (none-free p.vol.hand e, tt))
decided-follows program c p (Gets packet) = chosen-follows program c p (fits_pcom program c packet) (on_packet program c p packet) (λ e. packet-follows program c p packet)
decided-follows program c p Forces = tt
decided-follows program c p Checkpoints = free-follows program c p (in_hand p) (record just_tail { adds = Checkpoint (image_of p.vol) ∷ []; forces = true; covers = true }) (λ e. (tt, tt))
decided-follows program c p Resends = tt
decided-follows program c p Emits = emit-follows program c p (Shelf.next_due p.vol.shelf (forced_end p))

-- replaying ---------------------------------------------------------------------------------------

zero-le : (n : ℕ) → 0 ≤ n
zero-le n = omega arith

stands-represented : (program : Program) (c : ComId) (log : Log) (v : Vol) (rest : List Record) → HandFits program c v → TablesFit (end_of (all_of log)) v → RestFits v rest → log.buffered ≡ [] → IsRepresented program c (standing_at log v rest)
stands-represented program c log v [] hand tables fits e = record { hand = hand; tables = regenerated-tables (end_of (all_of log)) v tables; rest = tt; forced = λ f. true-false f }
stands-represented program c log v (r ∷ rs) hand tables fits e = record { hand = hand; tables = tables; rest = fits; forced = λ f. e }

tail-represented : (program : Program) (c : ComId) (p : Pcom) → IsRepresented program c p → IsRepresented program c (after_tail p)
tail-represented program c p x = record { hand = x.hand; tables = tail-tables (log_end p) p x.tables; rest = at p.rest x.rest; forced = x.forced }
  where
    at : (rs : List Record) → RestFits p.vol rs → RestFits (after_tail p).vol rs
    at [] e = tt
    at (r ∷ rs) e = e

fed-represented : (program : Program) (c : ComId) (p : Pcom) → IsRepresented program c p → IsRepresented program c (fed c p).pcom
fed-represented program c p x = at (is_replaying p)
  where
    at : (b : Bool) → IsRepresented program c (cond b (told p [] (record nothing_at_all { word = Fed })) (told (after_tail p) (tail_packets c false p) (record just_tail { word = Fed }))).pcom
    at true = x
    at false = tail-represented program c p x

packet-represented : (program : Program) (c : ComId) (p : Pcom) (packet : Packet) (t : StepResult) → IsPlayable program → p.log.buffered ≡ [] → IsRepresented program c p → packet_at_replay program c p packet ≡ Some t → IsRepresented program c t.pcom
packet-represented program c p (Data m) t good none x e = at (is_needed p.rest m) e
  where
    at : (b : Bool) → cond b (option_map (λ y. fed c (stands_at p.log y)) (feed program c p.vol m p.rest)) (stays p []) ≡ Some t → IsRepresented program c t.pcom
    at false f = subst (λ (z : StepResult). IsRepresented program c z.pcom) (same_Some (told p [] nothing_at_all) t f) x
    at true f =
        let y = mapped (λ y. fed c (stands_at p.log y)) (feed program c p.vol m p.rest) t f in
        let q : PlayingFits program c (log_end p) y.0 = fed_fits program c (log_end p) p.vol m p.rest y.0 good x.hand x.tables x.rest y.1 in
        subst (λ (z : StepResult). IsRepresented program c z.pcom) y.2 (fed-represented program c (stands_at p.log y.0) (stands-represented program c p.log y.0.vol y.0.rest q.hand q.tables q.rest none))
packet-represented program c p (Fetch from to k) t good none x e = subst (λ (z : StepResult). IsRepresented program c z.pcom) (same_Some _ t e) x
packet-represented program c p (Stable from to k) t good none x e = subst (λ (z : StepResult). IsRepresented program c z.pcom) (same_Some _ t e) x
packet-represented program c p (Installed from to k) t good none x e = subst (λ (z : StepResult). IsRepresented program c z.pcom) (same_Some _ t e) x
packet-represented program c p (OpReply from to n place session value) t good none x e = subst (λ (z : StepResult). IsRepresented program c z.pcom) (same_Some _ t e) x
packet-represented program c p (Outcome from to n place session decision) t good none x e = subst (λ (z : StepResult). IsRepresented program c z.pcom) (same_Some _ t e) x
packet-represented program c p (Op from to n place session request) t good none x e = subst (λ (z : StepResult). IsRepresented program c z.pcom) (same_Some _ t e) x
packet-represented program c p (Commit from to n place session stamp) t good none x e = subst (λ (z : StepResult). IsRepresented program c z.pcom) (same_Some _ t e) x
packet-represented program c p (Drop from to n) t good none x e = subst (λ (z : StepResult). IsRepresented program c z.pcom) (same_Some _ t e) x

replay-represented : (program : Program) (c : ComId) (p : Pcom) (call : Call) (t : StepResult) → IsPlayable program → p.log.buffered ≡ [] → IsRepresented program c p → replay_step program c p call ≡ Some t → IsRepresented program c t.pcom
replay-represented program c p (Gives handler args) t good none x e = subst (λ (z : StepResult). IsRepresented program c z.pcom) (same_Some _ t e) x
replay-represented program c p (Gets packet) t good none x e = at (fits_pcom program c packet) e
  where
    at : (b : Bool) → cond b (packet_at_replay program c p packet) (stays p []) ≡ Some t → IsRepresented program c t.pcom
    at true f = packet-represented program c p packet t good none x f
    at false f = subst (λ (z : StepResult). IsRepresented program c z.pcom) (same_Some (told p [] nothing_at_all) t f) x
replay-represented program c p Forces t good none x e = subst (λ (z : StepResult). IsRepresented program c z.pcom) (same_Some _ t e) x
replay-represented program c p Checkpoints t good none x e = subst (λ (z : StepResult). IsRepresented program c z.pcom) (same_Some _ t e) x
replay-represented program c p Resends t good none x e = subst (λ (z : StepResult). IsRepresented program c z.pcom) (same_Some _ t e) x
replay-represented program c p Emits t good none x e = subst (λ (z : StepResult). IsRepresented program c z.pcom) (same_Some _ t e) x

-- a step, a recovery and the first state ----------------------------------------------------------

pub step_represented : (program : Program) (c : ComId) (p : Pcom) (call : Call) (t : StepResult) → IsPlayable program → IsRepresented program c p → pcom_step program c p call ≡ Some t → IsRepresented program c t.pcom
step_represented program c p call t good x e = at (is_replaying p) refl e
  where
    at : (b : Bool) → is_replaying p ≡ b → cond b (replay_step program c p call) (Some (carry_out program c p (decide program c p call))) ≡ Some t → IsRepresented program c t.pcom
    at true is f = replay-represented program c p call t good (x.forced is) x f
    at false is f =
        subst (λ (z : StepResult). IsRepresented program c z.pcom) (same_Some (carry_out program c p (decide program c p call)) t f)
        (carry-keeps program c p (decide program c p call) good (record { hand = x.hand; tables = x.tables; live = is }) (decided-follows program c p call))

pub recover_represented : (program : Program) (c : ComId) (records : List Record) (t : StepResult) → IsPlayable program → recover_pcom program c records ≡ Some t → IsRepresented program c t.pcom
recover_represented program c records t good e =
    let log : Log = record { forced = records; buffered = [] } in
    let y = mapped (λ y. told (stands_at (record { forced = records; buffered = [] }) y) (needed_fetch c y.rest) nothing_at_all) (recovered program c records) t e in
    let q : PlayingFits program c 0 y.0 = recovered_fits program c records y.0 good y.1 in
    subst (λ (z : StepResult). IsRepresented program c z.pcom) y.2
    (stands-represented program c log y.0.vol y.0.rest q.hand (tables_weaken 0 (end_of (all_of log)) y.0.vol (zero-le (end_of (all_of log))) q.tables) q.rest refl)

pub fresh_represented : (program : Program) (c : ComId) → IsRepresented program c (fresh_pcom program c)
fresh_represented program c = let f = first_fits program c in record { hand = f.0; tables = f.1; rest = tt; forced = λ e. true-false e }

-- what settling needs -----------------------------------------------------------------------------

takes-first : (v : Vol) (rs : List Record) → RestFits v rs → BeginsWithTake rs
takes-first v [] x = tt
takes-first v (r ∷ rs) x = x.0

pub represented_settles : (program : Program) (c : ComId) (p : Pcom) → IsRepresented program c p → CanSettle p
represented_settles program c p x = record { hand_open = at p.vol.hand x.hand; rest_waits = takes-first p.vol p.rest x.rest; replays_forced = x.forced }
  where
    at : (o : Option InHand) → MatchOption o (is_idle p.vol.txn.stage ≡ true) (OpenHand program c p.vol.vars p.vol.now p.vol.txn.stage) → is_some o ≡ not (is_idle p.vol.txn.stage)
    at None y = sym (ap not y)
    at (Some hand) y = sym (ap not y.is_open)
