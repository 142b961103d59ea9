-- A Pcom's step keeps its log's records, and puts out packets, that have their bytes.
use Rattle.std.proofs.Common.{◌≡◌, refl, sym, subst, ℕ, ◌+◌, Bool, true, false, cond, ◌||◌, ℤ, List, [], ◌∷◌, ◌++◌, map, Option, Some, None, option_map, nat_le}
use Rattle.std.specs.Prelude.{option_to_list}
use Rattle.std.specs.List.{AllByRecursion}
use Rattle.std.proofs.lemmas.Option.{same_Some}
use Rattle.ic_base.specs.declared.messages.ComId.{ComId}
use Rattle.ic_base.specs.declared.messages.Decision.{Decision}
use Rattle.ic_base.specs.declared.messages.Decision.TheVariants.{Committed, Aborted}
use Rattle.ic_base.specs.declared.messages.Level.{Level}
use Rattle.ic_base.specs.declared.messages.Level.TheVariants as levels
use Rattle.ic_base.specs.declared.messages.Msg.{Msg}
use Rattle.ic_base.specs.declared.messages.Output.{Output}
use Rattle.ic_base.specs.declared.messages.Packet.{Packet}
use Rattle.ic_base.specs.declared.messages.Packet.TheVariants.{Data, Stable, Installed, Fetch, Op, OpReply, Commit, Outcome, Drop}
use Rattle.ic_base.specs.declared.record.Record.{Record}
use Rattle.ic_base.specs.declared.record.Record.TheVariants.{Released, Checkpoint, Input}
use Rattle.ic_base.specs.declared.scenario.Program.{Program}
use Rattle.ic_base.specs.Programs.{is_immediate}
use Rattle.def_log.specs.Spelling.{Fits}
use Rattle.def_state.specs.Image.{image_of}
use Rattle.def_state.specs.Inbox
use Rattle.def_state.specs.Inbox.{Ack}
use Rattle.def_state.specs.Names.{Identity}
use Rattle.def_state.specs.Outbox
use Rattle.def_state.specs.Shelf
use Rattle.def_state.specs.Txn
use Rattle.def_state.specs.Txn.{Stage, Idle, Waiting, Answered, Committing, pending_at}
use Rattle.def_step.specs.Packets.{fits_pcom}
use Rattle.def_step.specs.Replay.{feed, recovered}
use Rattle.def_step.specs.Pcom.{Pcom, forced_end, is_replaying, in_hand, Call, Gives, Gets, Forces, Checkpoints, Resends, Emits, Effects, Busy, Took, Fed, Changed, just_tail, nothing_at_all, take_record, level_answer, on_data, on_reply, on_outcome, on_packet, on_emit, decide, drop_packet, all_owed, marked, absorb, must_force, force_if, cover_if, came_to_first, came_further, ack_at, ack_packet, owes_drop, tail_packets, after_tail, StepResult, told, carry_out, fetch_packet, needed, needed_fetch, stands_at, fed, is_needed, stays, packet_at_replay, replay_step, pcom_step, recover_pcom, is_full}
use Rattle.law_replay.proofs.Lists.{mapped}
use Rattle.law_settle.proofs.Walks.{all-append}
use Rattle.law_run.specs.ProgramBytes.{AreWords, HasBytes}
use Rattle.law_run.specs.WorldBytes.{LogFits, PacketFits}
use Rattle.law_run.proofs.Hists.{RequestOf}
use Rattle.law_run.proofs.Deciding.{Known, GotFits, CallFits, decided_fits}
use Rattle.law_step.proofs.Shapes.{standing-log}
use Rattle.law_run.proofs.Living.{ContentFits, LiveFits, absorb-fits, marked-fits, force-fits, cover-fits}

-- packets -----------------------------------------------------------------------------------------

-- packets of a kind that has no value
mapped-fit : {A : Type 0} (f : A → Packet) → ((x : A) → PacketFits (f x)) → (xs : List A) → AllByRecursion PacketFits (map f xs)
mapped-fit f h [] = tt
mapped-fit f h (x ∷ xs) = (h x, mapped-fit f h xs)

ack-fits : (c : ComId) (x : Identity) (l : Level) → PacketFits (ack_at c x l)
ack-fits c x levels.Nothing = tt
ack-fits c x levels.Taken = tt
ack-fits c x levels.Stable = tt
ack-fits c x levels.Installed = tt

cond-fit : (b : Bool) (xs ys : List Packet) → AllByRecursion PacketFits xs → AllByRecursion PacketFits ys → AllByRecursion PacketFits (cond b xs ys)
cond-fit true xs ys x y = x
cond-fit false xs ys x y = y

pending-fits : (c : ComId) (n clock : ℕ) (s : Stage) → RequestOf s → AllByRecursion PacketFits (option_to_list (pending_at c n clock s))
pending-fits c n clock Idle h = tt
pending-fits c n clock (Waiting t place session q) h = (h, tt)
pending-fits c n clock (Answered t place session q) h = (h, tt)
pending-fits c n clock (Committing t place session) h = (tt, tt)

drops-fit : (c : ComId) (o : Option (ComId × ℕ)) → AllByRecursion PacketFits (map (drop_packet c) (option_to_list o))
drops-fit c o = mapped-fit (drop_packet c) (λ x. tt) (option_to_list o)

tail-fits : (c : ComId) (came : Bool) (p : Pcom) → (came ≡ true → RequestOf p.vol.txn.stage) → AllByRecursion PacketFits (tail_packets c came p)
tail-fits c came p h =
    all-append PacketFits _ _
    (all-append PacketFits _ _
    (all-append PacketFits _ _ (mapped-fit (ack_packet c) (λ a. ack-fits c a.name a.level) (Inbox.acks p.vol.inbox (forced_end p))) (mapped-fit Data (λ m. tt) (Outbox.due_messages p.vol.outbox (forced_end p))))
    (cond-fit (owes_drop p) (map (drop_packet c) (option_to_list p.vol.txn.last)) [] (drops-fit c p.vol.txn.last) tt))
    (at came h)
  where
    at : (b : Bool) → (b ≡ true → RequestOf p.vol.txn.stage) → AllByRecursion PacketFits (cond b (option_to_list (Txn.pending c p.vol.txn p.vol.clock)) [])
    at true k = pending-fits c p.vol.txn.begun p.vol.clock p.vol.txn.stage (k refl)
    at false k = tt

owed-fit : (c : ComId) (p : Pcom) → RequestOf p.vol.txn.stage → AllByRecursion PacketFits (all_owed c p)
owed-fit c p h =
    all-append PacketFits _ _
    (all-append PacketFits _ _ (mapped-fit Data (λ m. tt) (Outbox.unstable p.vol.outbox (forced_end p))) (cond-fit (nat_le p.vol.ended_at (forced_end p)) (map (drop_packet c) (option_to_list p.vol.txn.last)) [] (drops-fit c p.vol.txn.last) tt))
    (pending-fits c p.vol.txn.begun p.vol.clock p.vol.txn.stage h)

-- what is decided ---------------------------------------------------------------------------------

-- the answers of a choice, and the content of what it takes
record ChoiceFits (d : Effects) : Type 0 where
  answers : AllByRecursion PacketFits d.answers
  content : ContentFits d.content

none-fits : ChoiceFits nothing_at_all
none-fits = record { answers = tt; content = tt }

level-fits : (c : ComId) (m : Msg) (l : Level) → AllByRecursion PacketFits (level_answer c m l)
level-fits c m levels.Nothing = tt
level-fits c m levels.Taken = tt
level-fits c m levels.Stable = (tt, tt)
level-fits c m levels.Installed = (tt, tt)

data-fits : (program : Program) (c : ComId) (p : Pcom) (m : Msg) → AreWords m.args → ChoiceFits (on_data program c p m)
data-fits program c p m words = at (Inbox.is_taken p.vol.inbox (record { peer = m.from; k = m.k })) (in_hand p)
  where
    at : (taken b : Bool) → ChoiceFits (cond taken (record just_tail { answers = level_answer c m (Inbox.level p.vol.inbox (record { peer = m.from; k = m.k }) (forced_end p)) }) (cond b (record nothing_at_all { word = Busy }) (record just_tail { word = Took; content = Some m; adds = take_record program c p.vol m ∷ []; forces = is_immediate program c })))
    at true b = record { answers = level-fits c m (Inbox.level p.vol.inbox (record { peer = m.from; k = m.k }) (forced_end p)); content = tt }
    at false true = record { answers = tt; content = tt }
    at false false = record { answers = tt; content = words }

packet-choice : (program : Program) (c : ComId) (p : Pcom) (packet : Packet) → GotFits packet → ChoiceFits (on_packet program c p packet)
packet-choice program c p (Data m) got = data-fits program c p m got
packet-choice program c p (Stable from to k) got = record { answers = tt; content = tt }
packet-choice program c p (Installed from to k) got = at (Outbox.is_held p.vol.outbox (record { peer = from; k = k }))
  where
    at : (b : Bool) → ChoiceFits (cond b (record just_tail { adds = Released from k ∷ []; word = Changed }) just_tail)
    at true = record { answers = tt; content = tt }
    at false = record { answers = tt; content = tt }
packet-choice program c p (Fetch from to k) got = record { answers = mapped-fit Data (λ m. tt) _; content = tt }
packet-choice program c p (OpReply from to n place session value) got = at (Txn.reply p.vol.txn (OpReply from to n place session value))
  where
    at : (o : Option ℤ) → ChoiceFits (on_reply program c p.vol n place session o)
    at None = record { answers = tt; content = tt }
    at (Some v) = record { answers = tt; content = tt }
packet-choice program c p (Outcome from to n place session decision) got = at (Txn.outcome p.vol.txn (Outcome from to n place session decision))
  where
    at : (o : Option Decision) → ChoiceFits (on_outcome p.vol o)
    at None = record { answers = tt; content = tt }
    at (Some (Committed stamp)) = record { answers = tt; content = tt }
    at (Some (Aborted cause)) = record { answers = tt; content = tt }
packet-choice program c p (Op from to n place session request) got = none-fits
packet-choice program c p (Commit from to n place session stamp) got = none-fits
packet-choice program c p (Drop from to n) got = none-fits

choice-fits : (program : Program) (c : ComId) (p : Pcom) (call : Call) → CallFits program c call → RequestOf p.vol.txn.stage → ChoiceFits (decide program c p call)
choice-fits program c p (Gives handler args) got h = at (in_hand p)
  where
    at : (b : Bool) → ChoiceFits (cond b nothing_at_all (record just_tail { word = Took; adds = Input (p.vol.clock + 1) handler args ∷ []; forces = true }))
    at true = none-fits
    at false = record { answers = tt; content = tt }
choice-fits program c p (Gets packet) got h = at (fits_pcom program c packet)
  where
    at : (b : Bool) → ChoiceFits (cond b (on_packet program c p packet) nothing_at_all)
    at true = packet-choice program c p packet got
    at false = none-fits
choice-fits program c p Forces got h = record { answers = tt; content = tt }
choice-fits program c p Checkpoints got h = at (in_hand p)
  where
    at : (b : Bool) → ChoiceFits (cond b nothing_at_all (record just_tail { adds = Checkpoint (image_of p.vol) ∷ []; forces = true; covers = true }))
    at true = none-fits
    at false = record { answers = tt; content = tt }
choice-fits program c p Resends got h = record { answers = owed-fit c p h; content = tt }
choice-fits program c p Emits got h = at (Shelf.next_due p.vol.shelf (forced_end p))
  where
    at : (o : Option Output) → ChoiceFits (on_emit o)
    at None = none-fits
    at (Some o) = record { answers = tt; content = tt }

-- the step ----------------------------------------------------------------------------------------

pub record StepFits (t : StepResult) : Type 0 where
  pub log : LogFits t.pcom.log
  pub puts : AllByRecursion PacketFits t.puts

put-fits : (c : ComId) (b came : Bool) (d : Effects) (q : Pcom) → AllByRecursion PacketFits d.answers → LiveFits q → StepFits (cond b (told q d.answers d) (told (after_tail q) (d.answers ++ tail_packets c came q) d))
put-fits c true came d q answers x = record { log = x.log; puts = answers }
put-fits c false came d q answers x = record { log = x.log; puts = all-append PacketFits d.answers (tail_packets c came q) answers (tail-fits c came q (λ e. x.vol.request)) }

live-fits : (program : Program) (c : ComId) (size : ℕ) (p : Pcom) (call : Call) → HasBytes program → is_replaying p ≡ false → LogFits p.log → Known program c p.vol → CallFits program c call → is_full program c size p call ≡ false → StepFits (carry_out program c p (decide program c p call))
live-fits program c size p call bytes live log x got e =
    let d = decide program c p call in
    let k = choice-fits program c p call got x.values.request in
    let m = marked p d.marks in
    let q = absorb program c d.content m d.adds in
    let f = force_if (d.forces || must_force p.vol q.vol) q in
    let g = cover_if d.covers f in
    put-fits c d.is_quiet (came_to_first p.vol g.vol || came_further p.vol g.vol) d g k.answers
    (cover-fits d.covers f (force-fits (d.forces || must_force p.vol q.vol) q (absorb-fits program c d.content m d.adds bytes k.content (marked-fits p d.marks (record { log = log; vol = x.values })) (decided_fits program c size p call bytes live x got e))))

-- a replay puts out no request --------------------------------------------------------------------

fetch-fits : (c : ComId) (rs : List Record) → AllByRecursion PacketFits (needed_fetch c rs)
fetch-fits c rs = mapped-fit (fetch_packet c) (λ x. tt) (option_to_list (needed rs))

fed-fits : (c : ComId) (p : Pcom) → LogFits p.log → StepFits (fed c p)
fed-fits c p x = at (is_replaying p)
  where
    at : (b : Bool) → StepFits (cond b (told p [] (record nothing_at_all { word = Fed })) (told (after_tail p) (tail_packets c false p) (record just_tail { word = Fed })))
    at true = record { log = x; puts = tt }
    at false = record { log = x; puts = tail-fits c false p (λ e. absurd (cc e)) }

stays-fits : (p : Pcom) (puts : List Packet) (t : StepResult) → LogFits p.log → AllByRecursion PacketFits puts → stays p puts ≡ Some t → StepFits t
stays-fits p puts t x y e = subst StepFits (same_Some (told p puts nothing_at_all) t e) (record { log = x; puts = y })

packet-replay-fits : (program : Program) (c : ComId) (p : Pcom) (packet : Packet) (t : StepResult) → LogFits p.log → packet_at_replay program c p packet ≡ Some t → StepFits t
packet-replay-fits program c p (Data m) t x e = at (is_needed p.rest m) e
  where
    at : (b : Bool) → cond b (option_map (λ y. fed c (stands_at p.log y)) (feed program c p.vol m p.rest)) (stays p []) ≡ Some t → StepFits t
    at true f =
        let y = mapped (λ y. fed c (stands_at p.log y)) (feed program c p.vol m p.rest) t f in
        subst StepFits y.2 (fed-fits c (stands_at p.log y.0) (subst LogFits (sym (standing-log p.log y.0.vol y.0.rest)) x))
    at false f = stays-fits p [] t x tt f
packet-replay-fits program c p (Fetch from to k) t x e = stays-fits p _ t x (mapped-fit Data (λ m. tt) _) e
packet-replay-fits program c p (Stable from to k) t x e = stays-fits p [] t x tt e
packet-replay-fits program c p (Installed from to k) t x e = stays-fits p [] t x tt e
packet-replay-fits program c p (Op from to n place session request) t x e = stays-fits p [] t x tt e
packet-replay-fits program c p (OpReply from to n place session value) t x e = stays-fits p [] t x tt e
packet-replay-fits program c p (Commit from to n place session stamp) t x e = stays-fits p [] t x tt e
packet-replay-fits program c p (Outcome from to n place session decision) t x e = stays-fits p [] t x tt e
packet-replay-fits program c p (Drop from to n) t x e = stays-fits p [] t x tt e

replay-fits : (program : Program) (c : ComId) (p : Pcom) (call : Call) (t : StepResult) → LogFits p.log → replay_step program c p call ≡ Some t → StepFits t
replay-fits program c p (Gets packet) t x e = at (fits_pcom program c packet) e
  where
    at : (b : Bool) → cond b (packet_at_replay program c p packet) (stays p []) ≡ Some t → StepFits t
    at true f = packet-replay-fits program c p packet t x f
    at false f = stays-fits p [] t x tt f
replay-fits program c p Resends t x e = stays-fits p (needed_fetch c p.rest) t x (fetch-fits c p.rest) e
replay-fits program c p (Gives handler args) t x e = stays-fits p [] t x tt e
replay-fits program c p Forces t x e = stays-fits p [] t x tt e
replay-fits program c p Checkpoints t x e = stays-fits p [] t x tt e
replay-fits program c p Emits t x e = stays-fits p [] t x tt e

-- a step, of a Pcom of which all is known where it doesn't replay
pub step_fits : (program : Program) (c : ComId) (size : ℕ) (p : Pcom) (call : Call) (t : StepResult) → HasBytes program → LogFits p.log → (is_replaying p ≡ false → Known program c p.vol) → CallFits program c call → is_full program c size p call ≡ false → pcom_step program c p call ≡ Some t → StepFits t
step_fits program c size p call t bytes log known got e ran = at (is_replaying p) refl ran
  where
    at : (b : Bool) → is_replaying p ≡ b → cond b (replay_step program c p call) (Some (carry_out program c p (decide program c p call))) ≡ Some t → StepFits t
    at true on f = replay-fits program c p call t log f
    at false on f = subst StepFits (same_Some (carry_out program c p (decide program c p call)) t f) (live-fits program c size p call bytes on log (known on) got e)

pub recover_fits : (program : Program) (c : ComId) (records : List Record) (t : StepResult) → AllByRecursion Fits records → recover_pcom program c records ≡ Some t → StepFits t
recover_fits program c records t fit e =
    let y = mapped (λ y. told (stands_at (record { forced = records; buffered = [] }) y) (needed_fetch c y.rest) nothing_at_all) (recovered program c records) t e in
    subst StepFits y.2 (record { log = subst LogFits (sym (standing-log (record { forced = records; buffered = [] }) y.0.vol y.0.rest)) (record { forced = fit; buffered = tt }); puts = fetch-fits c y.0.rest })
