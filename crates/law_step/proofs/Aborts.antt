-- Why a Pcom aborts a transaction, and that it puts out no abort.
use Rattle.std.proofs.Common.{◌≡◌, refl, ◌∙◌, ap, sym, subst, ℕ, ◌+◌, ◌==◌, Bool, true, false, ◌&&◌, ◌||◌, cond, nat_le, ℤ, List, [], ◌∷◌, ◌++◌, map, Option, Some, None, option_map, option_to_list, ⊎_elim, arith}
use Rattle.std.specs.Prelude.{Contains}
use Rattle.std.proofs.lemmas.Bool.{and_parts}
use Rattle.std.proofs.lemmas.List.Elements.{Contains-append_cases}
use Rattle.std.proofs.lemmas.Option.{same_Some}
use Rattle.ic_base.specs.declared.messages.ComId.{ComId}
use Rattle.ic_base.specs.declared.messages.Level.{Level}
use Rattle.ic_base.specs.declared.messages.Level.TheVariants.{Nothing, Taken, Stable as Stands, Installed as Kept}
use Rattle.ic_base.specs.declared.messages.Msg.{Msg}
use Rattle.ic_base.specs.declared.messages.Output.{Output}
use Rattle.ic_base.specs.declared.messages.Session.{Session}
use Rattle.ic_base.specs.declared.messages.AbortCause.{AbortCause}
use Rattle.ic_base.specs.declared.messages.AbortCause.TheVariants.{Need, Held, Epoch as Epochs}
use Rattle.ic_base.specs.declared.messages.Decision.{Decision}
use Rattle.ic_base.specs.declared.messages.Decision.TheVariants.{Committed, Aborted}
use Rattle.ic_base.specs.declared.messages.Packet.{Packet}
use Rattle.ic_base.specs.declared.messages.Packet.TheVariants.{Data, Stable, Installed, Fetch, Op, OpReply, Commit, Outcome, Drop}
use Rattle.ic_base.specs.declared.scenario.Program.{Program}
use Rattle.ic_base.specs.declared.record.Record.TheVariants.{Input, Released, Checkpoint}
use Rattle.ic_base.specs.Programs.{is_immediate}
use Rattle.def_state.specs.Image.{image_of}
use Rattle.def_state.specs.Inbox
use Rattle.def_state.specs.Inbox.{Ack}
use Rattle.def_state.specs.Outbox
use Rattle.def_state.specs.Shelf
use Rattle.def_state.specs.Txn.{Txn, Stage, Idle, Waiting, Answered, Committing, is_on, is_awaited_at, accepts, reply, outcome, pending, pending_at}
use Rattle.def_state.specs.Vol.{Vol}
use Rattle.def_step.specs.Packets.{fits_pcom}
use Rattle.def_step.specs.Replay.{feed, Playing}
use Rattle.def_step.specs.Pcom.{Pcom, Call, Gives, Gets, Forces, Checkpoints, Resends, Emits, Effects, Took, Busy, Changed, Fed, StepResult, ack_packet, ack_at, drop_packet, last_drop, owes_drop, all_owed, tail_packets, after_tail, told, came_to_first, came_further, put_out, force_where, absorb_choice, carry_out, decide, on_packet, on_reply, on_outcome, on_emit, need_abort, take_record, level_answer, fails_with, just_tail, nothing_at_all, in_hand, forced_end, is_replaying, needed, needed_fetch, fetch_packet, is_needed, fed, stays, stands_at, packet_at_replay, replay_step, pcom_step}
use Rattle.law_replay.proofs.Lists.{none-some, empty, head-or-tail, mapped}
use Rattle.law_replay.proofs.Members.{map-has}
use Rattle.law_step.specs.Causes.{IsTold}

same-number : (m n : ℕ) → (m == n) ≡ true → m ≡ n
same-number m n e = grind (arith, e)

chosen-some : {A : Type 0} (b : Bool) (x y : A) → cond b (Some x) None ≡ Some y → (b ≡ true) × (x ≡ y)
chosen-some true x y e = (refl, same_Some x y e)
chosen-some false x y e = none-some y e

reply-number : (x : Txn) (from to : ComId) (m place : ℕ) (session : Session) (value v : ℤ) → reply x (OpReply from to m place session value) ≡ Some v → (m ≡ x.begun) × (value ≡ v)
reply-number x from to m place session value v e =
    let z = chosen-some (is_on x.stage from && ((m == x.begun) && is_awaited_at x.stage place session)) value v e in
    (same-number m x.begun (and_parts (m == x.begun) (is_awaited_at x.stage place session) (and_parts (is_on x.stage from) ((m == x.begun) && is_awaited_at x.stage place session) z.0).1).0, z.1)

outcome-number : (x : Txn) (from to : ComId) (m place : ℕ) (session : Option Session) (d k : Decision) → outcome x (Outcome from to m place session d) ≡ Some k → (m ≡ x.begun) × (d ≡ k)
outcome-number x from to m place session d k e =
    let z = chosen-some (is_on x.stage from && ((m == x.begun) && accepts x.stage place session d)) d k e in
    (same-number m x.begun (and_parts (m == x.begun) (accepts x.stage place session d) (and_parts (is_on x.stage from) ((m == x.begun) && accepts x.stage place session d) z.0).1).0, z.1)

-- why it aborts ---------------------------------------------------------------------------------------------

-- an abort that a call tells, of a packet that came
abbrev pub Told : Program → ComId → Pcom → Call → Option (ℕ × AbortCause) → Type 0
Told program c p call o = (n : ℕ) (cause : AbortCause) → ◌≡◌ {A = Option (ℕ × AbortCause)} o (Some (n, cause)) → (packet : Packet) × (call ≡ Gets packet) × (p.vol.txn.begun ≡ n) × IsTold program c p packet n cause

-- no Tcom tells of a failed need
abbrev pub NeverNeed : Call → Type 0
NeverNeed call = (from to : ComId) (m place : ℕ) (session : Option Session) (line : ℕ) → call ≡ Gets (Outcome from to m place session (Aborted (Need line))) → ⊥

none-told : (program : Program) (c : ComId) (p : Pcom) (call : Call) (o : Option (ℕ × AbortCause)) → o ≡ None → Told program c p call o
none-told program c p call o e n cause is = absurd (cc (e, is))

same-pair : (a b : ℕ) (x y : AbortCause) → ◌≡◌ {A = Option (ℕ × AbortCause)} (Some (a, x)) (Some (b, y)) → (a ≡ b) × (x ≡ y)
same-pair a b x y e = let z = same_Some (a, x) (b, y) e in (ap (λ (u : ℕ × AbortCause). u.0) z, ap (λ (u : ℕ × AbortCause). u.1) z)

reply-told : (program : Program) (c : ComId) (p : Pcom) (from to : ComId) (m place : ℕ) (session : Session) (value : ℤ) → (o : Option ℤ) → reply p.vol.txn (OpReply from to m place session value) ≡ o → Told program c p (Gets (OpReply from to m place session value)) (on_reply program c p.vol m place session o).aborted
reply-told program c p from to m place session value None e = none-told program c p _ None refl
reply-told program c p from to m place session value (Some v) e = at (fails_with program c p.vol v) refl
  where
    packet : Packet
    packet = OpReply from to m place session value

    by : (line n : ℕ) (cause : AbortCause) → fails_with program c p.vol v ≡ Some line → p.vol.txn.begun ≡ n → Need line ≡ cause → IsTold program c p packet n cause
    by line n cause fails is same =
        let z = reply-number p.vol.txn from to m place session value v e in
        subst (IsTold program c p packet n) same
        (from, to, place, session, value, ap (λ k. OpReply from to k place session value) (z.0 ∙ is), e ∙ ap Some (sym z.1), ap (fails_with program c p.vol) z.1 ∙ fails)

    at : (o : Option ℕ) → fails_with program c p.vol v ≡ o → Told program c p (Gets packet) (need_abort p.vol o)
    at None f = none-told program c p (Gets packet) None refl
    at (Some line) f = λ n cause is. let z = same-pair p.vol.txn.begun n (Need line) cause is in (packet, refl, z.0, by line n cause f z.0 z.1)

outcome-told : (program : Program) (c : ComId) (p : Pcom) (from to : ComId) (m place : ℕ) (session : Option Session) (d : Decision) → NeverNeed (Gets (Outcome from to m place session d)) → (o : Option Decision) → outcome p.vol.txn (Outcome from to m place session d) ≡ o → Told program c p (Gets (Outcome from to m place session d)) (on_outcome p.vol o).aborted
outcome-told program c p from to m place session d never None e = none-told program c p _ None refl
outcome-told program c p from to m place session d never (Some (Committed stamp)) e = none-told program c p _ None refl
outcome-told program c p from to m place session d never (Some (Aborted cause)) e = λ n other is.
    let z = same-pair p.vol.txn.begun n cause other is in
    let y = outcome-number p.vol.txn from to m place session d (Aborted cause) e in
    (packet, refl, z.0, by n other (ap (λ k. Outcome from to k place session d) (y.0 ∙ z.0) ∙ ap (Outcome from to n place session) (y.1 ∙ ap Aborted z.1)) (e ∙ ap (λ k. Some (Aborted k)) z.1))
  where
    packet : Packet
    packet = Outcome from to m place session d

    by : (n : ℕ) (k : AbortCause) → packet ≡ Outcome from to n place session (Aborted k) → outcome p.vol.txn packet ≡ Some (Aborted k) → IsTold program c p packet n k
    by n (Need line) same f = absurd (never from to n place session line (ap Gets same))
    by n (Held holder j) same f = (from, to, place, session, same, f)
    by n (Epochs a b) same f = (from, to, place, session, same, f)

cond-told : (program : Program) (c : ComId) (p : Pcom) (call : Call) (b : Bool) (d e : Effects) → Told program c p call d.aborted → Told program c p call e.aborted → Told program c p call (cond b d e).aborted
cond-told program c p call true d e f g = f
cond-told program c p call false d e f g = g

packet-told : (program : Program) (c : ComId) (p : Pcom) (packet : Packet) → NeverNeed (Gets packet) → Told program c p (Gets packet) (on_packet program c p packet).aborted
packet-told program c p (Data m) never =
    cond-told program c p (Gets (Data m)) (Inbox.is_taken p.vol.inbox (record { peer = m.from; k = m.k })) _ _ (none-told program c p (Gets (Data m)) None refl)
    (cond-told program c p (Gets (Data m)) (in_hand p) _ _ (none-told program c p (Gets (Data m)) None refl) (none-told program c p (Gets (Data m)) None refl))
packet-told program c p (Stable from to k) never = none-told program c p (Gets (Stable from to k)) None refl
packet-told program c p (Installed from to k) never = cond-told program c p (Gets (Installed from to k)) (Outbox.is_held p.vol.outbox (record { peer = from; k = k })) _ _ (none-told program c p (Gets (Installed from to k)) None refl) (none-told program c p (Gets (Installed from to k)) None refl)
packet-told program c p (Fetch from to k) never = none-told program c p (Gets (Fetch from to k)) None refl
packet-told program c p (Op from to n place session q) never = none-told program c p (Gets (Op from to n place session q)) None refl
packet-told program c p (OpReply from to n place session value) never = reply-told program c p from to n place session value (reply p.vol.txn (OpReply from to n place session value)) refl
packet-told program c p (Commit from to n place session stamp) never = none-told program c p (Gets (Commit from to n place session stamp)) None refl
packet-told program c p (Outcome from to n place session d) never = outcome-told program c p from to n place session d never (outcome p.vol.txn (Outcome from to n place session d)) refl
packet-told program c p (Drop from to n) never = none-told program c p (Gets (Drop from to n)) None refl

decided-told : (program : Program) (c : ComId) (p : Pcom) (call : Call) → NeverNeed call → Told program c p call (decide program c p call).aborted
decided-told program c p (Gives handler args) never = cond-told program c p (Gives handler args) (in_hand p) _ _ (none-told program c p (Gives handler args) None refl) (none-told program c p (Gives handler args) None refl)
decided-told program c p (Gets packet) never = cond-told program c p (Gets packet) (fits_pcom program c packet) (on_packet program c p packet) nothing_at_all (packet-told program c p packet never) (none-told program c p (Gets packet) None refl)
decided-told program c p Forces never = none-told program c p Forces None refl
decided-told program c p Checkpoints never = cond-told program c p Checkpoints (in_hand p) _ _ (none-told program c p Checkpoints None refl) (none-told program c p Checkpoints None refl)
decided-told program c p Resends never = none-told program c p Resends None refl
decided-told program c p Emits never = at (Shelf.next_due p.vol.shelf (forced_end p))
  where
    at : (o : Option Output) → Told program c p Emits (on_emit o).aborted
    at None = none-told program c p Emits None refl
    at (Some y) = none-told program c p Emits None refl

-- what it puts out ------------------------------------------------------------------------------------------

abbrev pub is_refusal : Packet → Bool
is_refusal (Outcome t c n place session (Aborted cause)) = true
is_refusal _ = false

unfoldable pub NoneRefused : List Packet → Type 0
NoneRefused xs = (u : Packet) → Contains xs u → is_refusal u ≡ false

none-refused : NoneRefused []
unfolding NoneRefused
none-refused u h = empty u h

one-refused : (x : Packet) → is_refusal x ≡ false → NoneRefused (x ∷ [])
unfolding NoneRefused
one-refused x e u h = ⊎_elim (λ same. ap is_refusal (sym same) ∙ e) (λ z. empty u z) (head-or-tail x u [] h)

both-refused : (xs ys : List Packet) → NoneRefused xs → NoneRefused ys → NoneRefused (xs ++ ys)
unfolding NoneRefused
both-refused xs ys f g u h = ⊎_elim (f u) (g u) (Contains-append_cases xs ys u h)

pub map-refused : {A : Type 0} (f : A → Packet) (xs : List A) → ((x : A) → is_refusal (f x) ≡ false) → NoneRefused (map f xs)
unfolding NoneRefused
map-refused f xs e u h = let y = map-has f xs u h in ap is_refusal (sym y.2) ∙ e y.0

cond-refused : (b : Bool) (xs ys : List Packet) → NoneRefused xs → NoneRefused ys → NoneRefused (cond b xs ys)
cond-refused true xs ys f g = f
cond-refused false xs ys f g = g

ack-refused : (c : ComId) (a : Ack) → is_refusal (ack_packet c a) ≡ false
ack-refused c a = at a.level
  where
    at : (l : Level) → is_refusal (ack_at c a.name l) ≡ false
    at Nothing = refl
    at Taken = refl
    at Stands = refl
    at Kept = refl

pending-refused : (c : ComId) (x : Txn) (clock : ℕ) → NoneRefused (option_to_list (pending c x clock))
pending-refused c x clock = at x.stage
  where
    at : (s : Stage) → NoneRefused (option_to_list (pending_at c x.begun clock s))
    at Idle = none-refused
    at (Waiting t place session q) = one-refused (Op c t x.begun place session q) refl
    at (Answered t place session q) = one-refused (Op c t x.begun place (Some session) q) refl
    at (Committing t place session) = one-refused (Commit c t x.begun place session clock) refl

tail-refused : (c : ComId) (came : Bool) (p : Pcom) → NoneRefused (tail_packets c came p)
tail-refused c came p =
    both-refused ((map (ack_packet c) (Inbox.acks p.vol.inbox (forced_end p)) ++ map Data (Outbox.due_messages p.vol.outbox (forced_end p))) ++ cond (owes_drop p) (map (drop_packet c) (option_to_list p.vol.txn.last)) []) (cond came (option_to_list (pending c p.vol.txn p.vol.clock)) [])
    (both-refused (map (ack_packet c) (Inbox.acks p.vol.inbox (forced_end p)) ++ map Data (Outbox.due_messages p.vol.outbox (forced_end p))) (cond (owes_drop p) (map (drop_packet c) (option_to_list p.vol.txn.last)) [])
    (both-refused (map (ack_packet c) (Inbox.acks p.vol.inbox (forced_end p))) (map Data (Outbox.due_messages p.vol.outbox (forced_end p)))
    (map-refused (ack_packet c) (Inbox.acks p.vol.inbox (forced_end p)) (ack-refused c)) (map-refused Data (Outbox.due_messages p.vol.outbox (forced_end p)) (λ m. refl)))
    (cond-refused (owes_drop p) (map (drop_packet c) (option_to_list p.vol.txn.last)) [] (map-refused (drop_packet c) (option_to_list p.vol.txn.last) (λ y. refl)) none-refused))
    (cond-refused came (option_to_list (pending c p.vol.txn p.vol.clock)) [] (pending-refused c p.vol.txn p.vol.clock) none-refused)

owed-refused : (c : ComId) (p : Pcom) → NoneRefused (all_owed c p)
owed-refused c p =
    both-refused (map Data (Outbox.unstable p.vol.outbox (forced_end p)) ++ last_drop c p) (option_to_list (pending c p.vol.txn p.vol.clock))
    (both-refused (map Data (Outbox.unstable p.vol.outbox (forced_end p))) (last_drop c p) (map-refused Data (Outbox.unstable p.vol.outbox (forced_end p)) (λ m. refl))
    (cond-refused (nat_le p.vol.ended_at (forced_end p)) (map (drop_packet c) (option_to_list p.vol.txn.last)) [] (map-refused (drop_packet c) (option_to_list p.vol.txn.last) (λ y. refl)) none-refused))
    (pending-refused c p.vol.txn p.vol.clock)

level-refused : (c : ComId) (m : Msg) (l : Level) → NoneRefused (level_answer c m l)
level-refused c m Nothing = none-refused
level-refused c m Taken = none-refused
level-refused c m Stands = one-refused (Stable c m.from m.k) refl
level-refused c m Kept = one-refused (Installed c m.from m.k) refl

AnswersWell : Effects → Type 0
AnswersWell d = NoneRefused d.answers

cond-answers : (b : Bool) (d e : Effects) → AnswersWell d → AnswersWell e → AnswersWell (cond b d e)
cond-answers true d e f g = f
cond-answers false d e f g = g

reply-answers : (program : Program) (c : ComId) (v : Vol) (n place : ℕ) (session : Session) (o : Option ℤ) → AnswersWell (on_reply program c v n place session o)
unfolding AnswersWell
reply-answers program c v n place session None = none-refused
reply-answers program c v n place session (Some value) = none-refused

outcome-answers : (v : Vol) (o : Option Decision) → AnswersWell (on_outcome v o)
unfolding AnswersWell
outcome-answers v None = none-refused
outcome-answers v (Some (Committed stamp)) = none-refused
outcome-answers v (Some (Aborted cause)) = none-refused

packet-answers : (program : Program) (c : ComId) (p : Pcom) (packet : Packet) → AnswersWell (on_packet program c p packet)
unfolding AnswersWell
packet-answers program c p (Data m) = at (Inbox.is_taken p.vol.inbox (record { peer = m.from; k = m.k })) (in_hand p)
  where
    at : (a b : Bool) → NoneRefused (cond a (record just_tail { answers = level_answer c m (Inbox.level p.vol.inbox (record { peer = m.from; k = m.k }) (forced_end p)) }) (cond b (record nothing_at_all { word = Busy }) (record just_tail { word = Took; content = Some m; adds = take_record program c p.vol m ∷ []; forces = is_immediate program c }))).answers
    at true b = level-refused c m (Inbox.level p.vol.inbox (record { peer = m.from; k = m.k }) (forced_end p))
    at false true = none-refused
    at false false = none-refused
packet-answers program c p (Stable from to k) = none-refused
packet-answers program c p (Installed from to k) = at (Outbox.is_held p.vol.outbox (record { peer = from; k = k }))
  where
    at : (b : Bool) → NoneRefused (cond b (record just_tail { adds = Released from k ∷ []; word = Changed }) just_tail).answers
    at true = none-refused
    at false = none-refused
packet-answers program c p (Fetch from to k) = map-refused Data (option_to_list (Outbox.fetch p.vol.outbox (record { peer = from; k = k }) (forced_end p))) (λ m. refl)
packet-answers program c p (Op from to n place session q) = none-refused
packet-answers program c p (OpReply from to n place session value) = reply-answers program c p.vol n place session (reply p.vol.txn (OpReply from to n place session value))
packet-answers program c p (Commit from to n place session stamp) = none-refused
packet-answers program c p (Outcome from to n place session d) = outcome-answers p.vol (outcome p.vol.txn (Outcome from to n place session d))
packet-answers program c p (Drop from to n) = none-refused

decided-answers : (program : Program) (c : ComId) (p : Pcom) (call : Call) → AnswersWell (decide program c p call)
unfolding AnswersWell
decided-answers program c p (Gives handler args) = cond-answers (in_hand p) nothing_at_all (record just_tail { word = Took; adds = Input (p.vol.clock + 1) handler args ∷ []; forces = true }) none-refused none-refused
decided-answers program c p (Gets packet) = cond-answers (fits_pcom program c packet) (on_packet program c p packet) nothing_at_all (packet-answers program c p packet) none-refused
decided-answers program c p Forces = none-refused
decided-answers program c p Checkpoints = cond-answers (in_hand p) nothing_at_all (record just_tail { adds = Checkpoint (image_of p.vol) ∷ []; forces = true; covers = true }) none-refused none-refused
decided-answers program c p Resends = owed-refused c p
decided-answers program c p Emits = at (Shelf.next_due p.vol.shelf (forced_end p))
  where
    at : (o : Option Output) → NoneRefused (on_emit o).answers
    at None = none-refused
    at (Some y) = none-refused

-- a step -----------------------------------------------------------------------------------------------------

pub record PcomTells (program : Program) (c : ComId) (p : Pcom) (call : Call) (t : StepResult) : Type 0 where
  pub told : Told program c p call t.aborted
  pub none : NoneRefused t.puts

put-tells : (program : Program) (c : ComId) (p : Pcom) (call : Call) (before : Vol) (d : Effects) (q : Pcom) → Told program c p call d.aborted → NoneRefused d.answers → PcomTells program c p call (put_out c before d q)
put-tells program c p call before d q f g = at d.is_quiet
  where
    came : Bool
    came = came_to_first before q.vol || came_further before q.vol

    at : (b : Bool) → PcomTells program c p call (cond b (told q d.answers d) (told (after_tail q) (d.answers ++ tail_packets c (came_to_first before q.vol || came_further before q.vol) q) d))
    at true = record { told = f; none = g }
    at false = record { told = f; none = both-refused d.answers (tail_packets c came q) g (tail-refused c came q) }

stays-tells : (program : Program) (c : ComId) (p : Pcom) (call : Call) (puts : List Packet) (t : StepResult) → NoneRefused puts → stays p puts ≡ Some t → PcomTells program c p call t
stays-tells program c p call puts t f e = subst (PcomTells program c p call) (same_Some (told p puts nothing_at_all) t e) (record { told = none-told program c p call None refl; none = f })

fed-tells : (program : Program) (c : ComId) (p : Pcom) (call : Call) (q : Pcom) → PcomTells program c p call (fed c q)
fed-tells program c p call q = at (is_replaying q)
  where
    at : (b : Bool) → PcomTells program c p call (cond b (told q [] (record nothing_at_all { word = Fed })) (told (after_tail q) (tail_packets c false q) (record just_tail { word = Fed })))
    at true = record { told = none-told program c p call None refl; none = none-refused }
    at false = record { told = none-told program c p call None refl; none = tail-refused c false q }

replay-tells : (program : Program) (c : ComId) (p : Pcom) (call : Call) (t : StepResult) → replay_step program c p call ≡ Some t → PcomTells program c p call t
replay-tells program c p (Gives handler args) t e = stays-tells program c p (Gives handler args) [] t none-refused e
replay-tells program c p Forces t e = stays-tells program c p Forces [] t none-refused e
replay-tells program c p Checkpoints t e = stays-tells program c p Checkpoints [] t none-refused e
replay-tells program c p Resends t e = stays-tells program c p Resends (needed_fetch c p.rest) t (map-refused (fetch_packet c) (option_to_list (needed p.rest)) (λ x. refl)) e
replay-tells program c p Emits t e = stays-tells program c p Emits [] t none-refused e
replay-tells program c p (Gets packet) t e = at (fits_pcom program c packet) e
  where
    still : stays p [] ≡ Some t → PcomTells program c p (Gets packet) t
    still f = stays-tells program c p (Gets packet) [] t none-refused f

    by : (x : Packet) → packet_at_replay program c p x ≡ Some t → PcomTells program c p (Gets packet) t
    by (Data m) f = when (is_needed p.rest m) f
      where
        when : (b : Bool) → cond b (option_map (λ x. fed c (stands_at p.log x)) (feed program c p.vol m p.rest)) (stays p []) ≡ Some t → PcomTells program c p (Gets packet) t
        when true g = let x = mapped (λ (x : Playing). fed c (stands_at p.log x)) (feed program c p.vol m p.rest) t g in subst (PcomTells program c p (Gets packet)) x.2 (fed-tells program c p (Gets packet) (stands_at p.log x.0))
        when false g = still g
    by (Fetch from to k) f = stays-tells program c p (Gets packet) (map Data (option_to_list (Outbox.fetch p.vol.outbox (record { peer = from; k = k }) (forced_end p)))) t (map-refused Data (option_to_list (Outbox.fetch p.vol.outbox (record { peer = from; k = k }) (forced_end p))) (λ m. refl)) f
    by (Stable from to k) f = still f
    by (Installed from to k) f = still f
    by (Op from to n place session request) f = still f
    by (OpReply from to n place session value) f = still f
    by (Commit from to n place session stamp) f = still f
    by (Outcome from to n place session decision) f = still f
    by (Drop from to n) f = still f

    at : (b : Bool) → cond b (packet_at_replay program c p packet) (stays p []) ≡ Some t → PcomTells program c p (Gets packet) t
    at true f = by packet f
    at false f = still f

pub pcom-tells : (program : Program) (c : ComId) (p : Pcom) (call : Call) (t : StepResult) → NeverNeed call → pcom_step program c p call ≡ Some t → PcomTells program c p call t
unfolding AnswersWell
pcom-tells program c p call t never e = at (is_replaying p) e
  where
    d : Effects
    d = decide program c p call

    at : (b : Bool) → cond b (replay_step program c p call) (Some (carry_out program c p (decide program c p call))) ≡ Some t → PcomTells program c p call t
    at true f = replay-tells program c p call t f
    at false f = subst (PcomTells program c p call) (same_Some (carry_out program c p d) t f) (put-tells program c p call p.vol d (force_where p.vol d (absorb_choice program c d p)) (decided-told program c p call never) (decided-answers program c p call))
