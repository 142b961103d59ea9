-- What a Pcom chooses to do: what it adds and shows, and when it puts out a Commit.
use Rattle.std.proofs.Common.{◌≡◌, refl, ◌∙◌, ap, sym, subst, ℕ, ◌+◌, max, Bool, true, false, cond, ◌&&◌, ◌||◌, ◌==◌, nat_le, List, [], ◌∷◌, ◌++◌, map, fold, ℤ, Option, Some, None, option_to_list, ◌⊎◌, inl, inr, ⊎_elim}
use Rattle.std.specs.Prelude.{Contains}
use Rattle.std.specs.List.{list_any, filter_map}
use Rattle.std.proofs.lemmas.List.Elements.{Contains-append_cases}
use Rattle.std.proofs.lemmas.List.Sums.{fold-append}
use Rattle.std.proofs.lemmas.Option.{same_Some}
use Rattle.ic_base.specs.declared.messages.AbortCause.{AbortCause}
use Rattle.ic_base.specs.declared.messages.AbortCause.TheVariants.{Need}
use Rattle.ic_base.specs.declared.messages.ComId.{ComId}
use Rattle.ic_base.specs.declared.messages.Decision.{Decision}
use Rattle.ic_base.specs.declared.messages.Decision.TheVariants.{Committed, Aborted}
use Rattle.ic_base.specs.declared.messages.Level.{Level}
use Rattle.ic_base.specs.declared.messages.Level.TheVariants as levels
use Rattle.ic_base.specs.declared.messages.Msg.{Msg}
use Rattle.ic_base.specs.declared.messages.Output.{Output}
use Rattle.ic_base.specs.declared.messages.Session.{Session}
use Rattle.ic_base.specs.declared.messages.Packet.{Packet}
use Rattle.ic_base.specs.declared.messages.Packet.TheVariants.{Data, Stable, Installed, Fetch, Op, OpReply, Commit, Outcome, Drop}
use Rattle.ic_base.specs.declared.scenario.Program.{Program}
use Rattle.ic_base.specs.declared.record.Record.{Record}
use Rattle.ic_base.specs.declared.record.Record.TheVariants as records
use Rattle.ic_base.specs.Programs.{is_immediate}
use Rattle.def_state.specs.Names.{Identity}
use Rattle.def_state.specs.Inbox
use Rattle.def_state.specs.Inbox.{Ack}
use Rattle.def_state.specs.Outbox
use Rattle.def_state.specs.Outbox.{Held}
use Rattle.def_state.specs.Shelf
use Rattle.def_state.specs.Txn
use Rattle.def_state.specs.Txn.{Stage, Idle, Waiting, Answered, Committing, is_committing}
use Rattle.def_state.specs.Image.{image_of}
use Rattle.def_state.specs.Vol.{Vol}
use Rattle.def_step.specs.Packets.{fits_pcom}
use Rattle.def_step.specs.Pcom.{Pcom, Call, Gives, Gets, Forces, Checkpoints, Resends, Emits, Effects, Took, Busy, Changed, tail_packets, ack_packet, ack_at, drop_packet, last_drop, owes_drop, all_owed, decide, on_packet, on_data, on_reply, on_outcome, on_emit, need_records, need_abort, take_record, level_answer, fails_with, just_tail, nothing_at_all, in_hand, forced_end}
use Rattle.def_facts.specs.Logs.{last_shown, shown_by}
use Rattle.def_facts.specs.Pcom.{is_need}
use Rattle.law_replay.proofs.Lists.{none-some, true-false, in-head, empty, head-or-tail}
use Rattle.law_replay.proofs.Members.{map-has}
use Rattle.law_pcom.specs.Stepping.{got}

-- records that are read ---------------------------------------------------------------------------------

abbrev pub is_shown : Record → Bool
is_shown (records.Shown m) = true
is_shown _ = false

abbrev pub abort_in : Record → Option AbortCause
abort_in (records.Outcome stamp n (Some cause)) = Some cause
abort_in _ = None

pub none-shown : (xs ys : List Record) → list_any is_shown ys ≡ false → last_shown (xs ++ ys) ≡ last_shown xs
none-shown xs ys e = fold-append shown_by 0 xs ys ∙ at ys (last_shown xs) e
  where
    one : (r : Record) (m : ℕ) → is_shown r ≡ false → shown_by m r ≡ m
    one (records.Shown n) m f = true-false (sym f)
    one (records.Take s k stamp) m f = refl
    one (records.TakeWhole s k stamp handler args) m f = refl
    one (records.Input stamp handler args) m f = refl
    one (records.Value n place session value) m f = refl
    one (records.Outcome stamp n abort) m f = refl
    one (records.Released to k) m f = refl
    one (records.Checkpoint image) m f = refl
    one (records.Epoch epoch) m f = refl
    one (records.Decided stamp d n writes) m f = refl

    both : (a b : Bool) → (a || b) ≡ false → (a ≡ false) × (b ≡ false)
    both true b f = absurd (cc)
    both false b f = (refl, f)

    at : (rs : List Record) (m : ℕ) → list_any is_shown rs ≡ false → fold shown_by m rs ≡ m
    at [] m f = refl
    at (r ∷ rs) m f = let y = both (is_shown r) (list_any is_shown rs) f in ap (λ i. fold shown_by i rs) (one r m y.0) ∙ at rs m y.1

-- what is chosen ------------------------------------------------------------------------------------------

-- an abort that isn't a failed need is one of a packet that came
abbrev pub Comes : List Packet → AbortCause → Type 0
Comes xs cause = (from : ComId) × (to : ComId) × (n : ℕ) × (place : ℕ) × (session : Option Session) × Contains xs (Outcome from to n place session (Aborted cause))

abbrev pub AbortsCome : List Packet → List Record → Type 0
AbortsCome xs adds = (cause : AbortCause) → Contains (filter_map abort_in adds) cause → is_need cause ≡ false → Comes xs cause

-- nothing is shown, or the first output that is due, with a record of it that isn't forced by itself
abbrev pub Shows : Pcom → Effects → Type 0
Shows p d = ((d.shown ≡ None) × (list_any is_shown d.adds ≡ false)) ⊎ ((o : Output) × (Shelf.next_due p.vol.shelf (forced_end p) ≡ Some o) × (d ≡ on_emit (Some o)))

-- a Commit among the answers is that of the open transaction
abbrev pub IsOpen : Vol → ℕ → Type 0
IsOpen v n = (is_committing v.txn.stage ≡ true) × (v.txn.begun ≡ n)

abbrev pub CommitsOpen : Vol → List Packet → Type 0
CommitsOpen v xs = (e to : ComId) (n place : ℕ) (session : Session) (stamp : ℕ) → Contains xs (Commit e to n place session stamp) → IsOpen v n

pub record Chosen (xs : List Packet) (p : Pcom) (d : Effects) : Type 0 where
  pub aborts : AbortsCome xs d.adds
  pub shows : Shows p d
  pub commits : CommitsOpen p.vol d.answers
  pub calm : d.answers ≡ [] ⊎ (d.adds ≡ [])

pub none-come : (xs : List Packet) → (cause : AbortCause) → Contains [] cause → is_need cause ≡ false → Comes xs cause
none-come xs cause h e = empty cause h

plainly : (xs : List Packet) (p : Pcom) (d : Effects) → filter_map abort_in d.adds ≡ [] → list_any is_shown d.adds ≡ false → d.shown ≡ None → d.answers ≡ [] → Chosen xs p d
plainly xs p d aborts shown none answers = record {
  aborts = λ cause h. none-come xs cause (subst (λ l. Contains l cause) aborts h);
  shows = inl (none, shown);
  commits = λ e to n place session stamp h. empty _ (subst (λ l. Contains l (Commit e to n place session stamp)) answers h);
  calm = inl answers;
}

answering : (xs : List Packet) (p : Pcom) (d : Effects) → d.adds ≡ [] → d.shown ≡ None → CommitsOpen p.vol d.answers → Chosen xs p d
answering xs p d adds none commits = record {
  aborts = λ cause h. none-come xs cause (subst (λ l. Contains (filter_map abort_in l) cause) adds h);
  shows = inl (none, ap (list_any is_shown) adds);
  commits = commits;
  calm = inr adds;
}

pub no-commit-data : (ms : List Msg) (v : Vol) → CommitsOpen v (map Data ms)
no-commit-data ms v e to n place session stamp h = let y = map-has Data ms (Commit e to n place session stamp) h in absurd (cc (y.2))

level-commits : (c : ComId) (m : Msg) (l : Level) (v : Vol) → CommitsOpen v (level_answer c m l)
level-commits c m levels.Nothing v e to n place session stamp h = empty _ h
level-commits c m levels.Taken v e to n place session stamp h = empty _ h
level-commits c m levels.Stable v e to n place session stamp h = ⊎_elim (λ k. absurd (cc k)) (λ k. empty _ k) (head-or-tail (Stable c m.from m.k) (Commit e to n place session stamp) [] h)
level-commits c m levels.Installed v e to n place session stamp h = ⊎_elim (λ k. absurd (cc k)) (λ k. empty _ k) (head-or-tail (Installed c m.from m.k) (Commit e to n place session stamp) [] h)

drop-commits : (c : ComId) (o : Option (ComId × ℕ)) (v : Vol) → CommitsOpen v (map (drop_packet c) (option_to_list o))
drop-commits c o v e to n place session stamp h = let y = map-has (drop_packet c) (option_to_list o) (Commit e to n place session stamp) h in absurd (cc (y.2))

pending-commits : (c : ComId) (v : Vol) → CommitsOpen v (option_to_list (Txn.pending c v.txn v.clock))
pending-commits c v e to n place session stamp h = at v.txn.stage refl h
  where
    at : (s : Stage) → v.txn.stage ≡ s → Contains (option_to_list (Txn.pending_at c v.txn.begun v.clock s)) (Commit e to n place session stamp) → IsOpen v n
    at Idle is k = empty _ k
    at (Waiting t p r q) is k = ⊎_elim (λ z. absurd (cc z)) (λ z. empty _ z) (head-or-tail (Op c t v.txn.begun p r q) (Commit e to n place session stamp) [] k)
    at (Answered t p r q) is k = ⊎_elim (λ z. absurd (cc z)) (λ z. empty _ z) (head-or-tail (Op c t v.txn.begun p (Some r) q) (Commit e to n place session stamp) [] k)
    at (Committing t p r) is k = ⊎_elim (λ z. (ap is_committing is, ap number z)) (λ z. empty _ z) (head-or-tail (Commit c t v.txn.begun p r v.clock) (Commit e to n place session stamp) [] k)
      where
        number : Packet → ℕ
        number (Commit a b i j u w) = i
        number _ = 0

pub both-commit : (v : Vol) (xs ys : List Packet) → CommitsOpen v xs → CommitsOpen v ys → CommitsOpen v (xs ++ ys)
both-commit v xs ys a b e to n place session stamp h = ⊎_elim (a e to n place session stamp) (b e to n place session stamp) (Contains-append_cases xs ys (Commit e to n place session stamp) h)

if-commit : (v : Vol) (b : Bool) (xs : List Packet) → CommitsOpen v xs → CommitsOpen v (cond b xs [])
if-commit v true xs a = a
if-commit v false xs a = λ e to n place session stamp h. empty _ h

owed-commits : (c : ComId) (p : Pcom) → CommitsOpen p.vol (all_owed c p)
owed-commits c p = both-commit p.vol (map Data (Outbox.unstable p.vol.outbox (forced_end p)) ++ last_drop c p) (option_to_list (Txn.pending c p.vol.txn p.vol.clock))
    (both-commit p.vol (map Data (Outbox.unstable p.vol.outbox (forced_end p))) (last_drop c p) (no-commit-data (Outbox.unstable p.vol.outbox (forced_end p)) p.vol) (if-commit p.vol (nat_le p.vol.ended_at (forced_end p)) (map (drop_packet c) (option_to_list p.vol.txn.last)) (drop-commits c p.vol.txn.last p.vol)))
    (pending-commits c p.vol)

acks-commit : (c : ComId) (xs : List Ack) (v : Vol) → CommitsOpen v (map (ack_packet c) xs)
acks-commit c xs v e to n place session stamp h = let y = map-has (ack_packet c) xs (Commit e to n place session stamp) h in at y.0.name y.0.level y.2
  where
    at : (x : Identity) (l : Level) → ack_at c x l ≡ Commit e to n place session stamp → IsOpen v n
    at x levels.Nothing k = absurd (cc k)
    at x levels.Taken k = absurd (cc k)
    at x levels.Stable k = absurd (cc k)
    at x levels.Installed k = absurd (cc k)

pub tail-commits : (c : ComId) (came : Bool) (p : Pcom) → CommitsOpen p.vol (tail_packets c came p)
tail-commits c came p = both-commit p.vol _ _
    (both-commit p.vol (map (ack_packet c) (Inbox.acks p.vol.inbox (forced_end p)) ++ map Data (Outbox.due_messages p.vol.outbox (forced_end p))) (cond (owes_drop p) (map (drop_packet c) (option_to_list p.vol.txn.last)) [])
    (both-commit p.vol (map (ack_packet c) (Inbox.acks p.vol.inbox (forced_end p))) (map Data (Outbox.due_messages p.vol.outbox (forced_end p))) (acks-commit c (Inbox.acks p.vol.inbox (forced_end p)) p.vol) (no-commit-data (Outbox.due_messages p.vol.outbox (forced_end p)) p.vol))
    (if-commit p.vol (owes_drop p) (map (drop_packet c) (option_to_list p.vol.txn.last)) (drop-commits c p.vol.txn.last p.vol)))
    (if-commit p.vol came (option_to_list (Txn.pending c p.vol.txn p.vol.clock)) (pending-commits c p.vol))

-- the choices ---------------------------------------------------------------------------------------------

quiet-chosen : (xs : List Packet) (p : Pcom) → Chosen xs p nothing_at_all
quiet-chosen xs p = plainly xs p nothing_at_all refl refl refl refl

taken-chosen : (program : Program) (c : ComId) (xs : List Packet) (p : Pcom) (m : Msg) (b : Bool) → Chosen xs p (record just_tail { word = Took; content = Some m; adds = cond b (records.TakeWhole m.from m.k (max p.vol.clock m.stamp + 1) m.handler m.args) (records.Take m.from m.k (max p.vol.clock m.stamp + 1)) ∷ []; forces = b })
taken-chosen program c xs p m true = plainly xs p _ refl refl refl refl
taken-chosen program c xs p m false = plainly xs p _ refl refl refl refl

data-chosen : (program : Program) (c : ComId) (xs : List Packet) (p : Pcom) (m : Msg) → Chosen xs p (on_data program c p m)
data-chosen program c xs p m = at (Inbox.is_taken p.vol.inbox (record { peer = m.from; k = m.k })) (in_hand p)
  where
    at : (a b : Bool) → Chosen xs p (cond a (record just_tail { answers = level_answer c m (Inbox.level p.vol.inbox (record { peer = m.from; k = m.k }) (forced_end p)) }) (cond b (record nothing_at_all { word = Busy }) (record just_tail { word = Took; content = Some m; adds = take_record program c p.vol m ∷ []; forces = is_immediate program c })))
    at true b = answering xs p _ refl refl (level-commits c m (Inbox.level p.vol.inbox (record { peer = m.from; k = m.k }) (forced_end p)) p.vol)
    at false true = plainly xs p _ refl refl refl refl
    at false false = taken-chosen program c xs p m (is_immediate program c)

reply-chosen : (program : Program) (c : ComId) (xs : List Packet) (p : Pcom) (n place : ℕ) (session : Session) (o : Option ℤ) → Chosen xs p (on_reply program c p.vol n place session o)
reply-chosen program c xs p n place session None = plainly xs p _ refl refl refl refl
reply-chosen program c xs p n place session (Some value) = at (fails_with program c p.vol value)
  where
    at : (o : Option ℕ) → Chosen xs p (record just_tail { word = Changed; adds = records.Value n place session value ∷ need_records p.vol o; aborted = need_abort p.vol o })
    at None = plainly xs p _ refl refl refl refl
    at (Some line) = record {
      aborts = λ cause h no_need. ⊎_elim (λ k. true-false (sym no_need ∙ ap is_need (sym k))) (λ k. empty cause k) (head-or-tail (Need line) cause [] h);
      shows = inl (refl, refl);
      commits = λ e to i j s stamp h. empty _ h;
      calm = inl refl;
    }

outcome-chosen : (xs : List Packet) (p : Pcom) (from to : ComId) (n place : ℕ) (session : Option Session) (decision : Decision) → Contains xs (Outcome from to n place session decision) → (o : Option Decision) → Txn.outcome p.vol.txn (Outcome from to n place session decision) ≡ o → Chosen xs p (on_outcome p.vol o)
outcome-chosen xs p from to n place session decision here None is = plainly xs p _ refl refl refl refl
outcome-chosen xs p from to n place session decision here (Some (Committed stamp)) is = plainly xs p _ refl refl refl refl
outcome-chosen xs p from to n place session decision here (Some (Aborted cause)) is = record {
  aborts = λ y h no_need. ⊎_elim (λ k. (from, to, n, place, session, subst (λ z. Contains xs (Outcome from to n place session z)) (chosen (Txn.is_on p.vol.txn.stage from && ((n == p.vol.txn.begun) && Txn.accepts p.vol.txn.stage place session decision)) is ∙ ap Aborted k) here)) (λ k. empty y k) (head-or-tail cause y [] h);
  shows = inl (refl, refl);
  commits = λ e u i j s stamp h. empty _ h;
  calm = inl refl;
}
  where
    chosen : (b : Bool) → cond b (Some decision) None ≡ Some (Aborted cause) → decision ≡ Aborted cause
    chosen true e = same_Some decision (Aborted cause) e
    chosen false e = none-some (Aborted cause) e

packet-chosen : (program : Program) (c : ComId) (p : Pcom) (packet : Packet) → Chosen (packet ∷ []) p (on_packet program c p packet)
packet-chosen program c p (Data m) = data-chosen program c (Data m ∷ []) p m
packet-chosen program c p (Stable from to k) = plainly _ p _ refl refl refl refl
packet-chosen program c p (Installed from to k) = at (Outbox.is_held p.vol.outbox (record { peer = from; k = k }))
  where
    at : (b : Bool) → Chosen (Installed from to k ∷ []) p (cond b (record just_tail { adds = records.Released from k ∷ []; word = Changed }) just_tail)
    at true = plainly _ p _ refl refl refl refl
    at false = plainly _ p _ refl refl refl refl
packet-chosen program c p (Fetch from to k) = answering _ p _ refl refl (no-commit-data (option_to_list (Outbox.fetch p.vol.outbox (record { peer = from; k = k }) (forced_end p))) p.vol)
packet-chosen program c p (OpReply from to n place session value) = reply-chosen program c _ p n place session (Txn.reply p.vol.txn (OpReply from to n place session value))
packet-chosen program c p (Outcome from to n place session decision) = outcome-chosen _ p from to n place session decision (in-head _ []) (Txn.outcome p.vol.txn (Outcome from to n place session decision)) refl
packet-chosen program c p (Op from to n place session request) = quiet-chosen _ p
packet-chosen program c p (Commit from to n place session stamp) = quiet-chosen _ p
packet-chosen program c p (Drop from to n) = quiet-chosen _ p

emits-chosen : (xs : List Packet) (p : Pcom) (o : Option Output) → Shelf.next_due p.vol.shelf (forced_end p) ≡ o → Chosen xs p (on_emit o)
emits-chosen xs p None is = plainly xs p _ refl refl refl refl
emits-chosen xs p (Some o) is = record { aborts = λ cause h. none-come xs cause h; shows = inr (o, is, refl); commits = λ e u i j s stamp h. empty _ h; calm = inl refl }

pub call-chosen : (program : Program) (c : ComId) (p : Pcom) (call : Call) → Chosen (got call) p (decide program c p call)
call-chosen program c p (Gives handler args) = at (in_hand p)
  where
    at : (b : Bool) → Chosen [] p (cond b nothing_at_all (record just_tail { word = Took; adds = records.Input (p.vol.clock + 1) handler args ∷ []; forces = true }))
    at true = quiet-chosen [] p
    at false = plainly [] p _ refl refl refl refl
call-chosen program c p (Gets packet) = at (fits_pcom program c packet)
  where
    at : (b : Bool) → Chosen (packet ∷ []) p (cond b (on_packet program c p packet) nothing_at_all)
    at true = packet-chosen program c p packet
    at false = quiet-chosen (packet ∷ []) p
call-chosen program c p Forces = plainly [] p _ refl refl refl refl
call-chosen program c p Checkpoints = at (in_hand p)
  where
    at : (b : Bool) → Chosen [] p (cond b nothing_at_all (record just_tail { adds = records.Checkpoint (image_of p.vol) ∷ []; forces = true; covers = true }))
    at true = quiet-chosen [] p
    at false = plainly [] p _ refl refl refl refl
call-chosen program c p Resends = answering [] p _ refl refl (owed-commits c p)
call-chosen program c p Emits = emits-chosen [] p (Shelf.next_due p.vol.shelf (forced_end p)) refl
