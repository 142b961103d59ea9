-- A step over the tail of a log, and over the whole.
use Rattle.std.proofs.Common.{◌≡◌, refl, sym, ap, ◌∙◌, ℕ, zero, suc, ◌+◌, ◌<◌, Bool, true, false, cond, not, ◌&&◌, ◌||◌, nat_le, List, [], ◌∷◌, ◌++◌, map, Option, Some, None, arith}
use Rattle.std.specs.Prelude.{ℤ, is_some, option_map, option_and_then, option_to_list}
use Rattle.std.proofs.lemmas.List.{append_assoc}
use Rattle.std.proofs.lemmas.List.Sums.{sum_by-append}
use Rattle.ic_base.specs.declared.messages.ComId.{ComId}
use Rattle.ic_base.specs.declared.messages.Msg.{Msg}
use Rattle.ic_base.specs.declared.messages.Session.{Session}
use Rattle.ic_base.specs.declared.messages.Decision.{Decision}
use Rattle.ic_base.specs.declared.messages.Decision.TheVariants.{Committed, Aborted}
use Rattle.ic_base.specs.declared.messages.Packet.{Packet}
use Rattle.ic_base.specs.declared.messages.Packet.TheVariants.{Data, Stable, Installed, Fetch, Op, OpReply, Commit, Outcome, Drop}
use Rattle.ic_base.specs.declared.scenario.Program.{Program}
use Rattle.ic_base.specs.declared.record.Record.{Record}
use Rattle.ic_base.specs.declared.record.Record.TheVariants.{Take, TakeWhole, Input, Value, Outcome as Ended, Released, Shown, Checkpoint, Epoch, Decided}
use Rattle.ic_base.specs.Programs.{is_immediate}
use Rattle.def_state.specs.Names.{Identity}
use Rattle.def_state.specs.Positions.{record_length, end_of}
use Rattle.def_state.specs.Fits.{fits}
use Rattle.def_state.specs.Outbox
use Rattle.def_state.specs.Inbox
use Rattle.def_state.specs.Shelf
use Rattle.def_state.specs.Txn
use Rattle.def_state.specs.Vol.{Vol, record_in, numbers_fit, standing}
use Rattle.def_step.specs.Packets.{fits_pcom}
use Rattle.def_step.specs.Room.{is_empty, has_no_room}
use Rattle.def_step.specs.Replay.{Playing, has_image, start_at, last_image, behind_checkpoint, turn, play_records, feed, recovered, waits_for}
use Rattle.def_step.specs.Pcom.{Pcom, Log, all_of, forced_end, log_end, Call, Gives, Gets, Forces, Checkpoints, Resends, Emits, Took, Fed, Busy, Changed, Same, Effects, just_tail, nothing_at_all, level_answer, take_record, on_data, on_packet, in_hand, need_records, need_abort, fails_with, on_reply, on_outcome, drop_packet, all_owed, last_drop, on_emit, decide, marked, append, absorb, came_to_first, came_further, must_force, force_if, cover_if, ack_packet, owes_drop, tail_packets, after_tail, told, put_out, force_where, absorb_choice, carry_out, needed_fetch, standing_at, stands_at, fed, is_needed, stays, packet_at_replay, replay_step, is_replaying, pcom_step, recover_pcom, is_full}
use Rattle.law_tail.specs.Wholes.{shifted, shifted_outbox, shifted_inbox, shifted_shelf, shifted_vol, with_earlier, told_with_earlier}
use Rattle.law_tail.proofs.Shifted.{le-shifted, held-shifted, may-shifted, due-shifted, unstable-shifted, fetch-shifted, put-shifted, stable-shifted, level-shifted, cover-shifted, acks-shifted, told-shifted, next-shifted, record-shifted, fits-shifted, regenerated-shifted, image-shifted, fixed}
use Rattle.law_settle.specs.Represented.{HandFits, TablesFit}
use Rattle.law_settle.proofs.Images.{starts-fit}
use Rattle.law_tail.proofs.Tails.{recovered-same}

-- where records end ------------------------------------------------------------------------------

ends : (earlier rs : List Record) → end_of (earlier ++ rs) ≡ end_of earlier + end_of rs
ends earlier rs = sum_by-append record_length earlier rs

forced-same : (earlier : List Record) (p : Pcom) → forced_end (with_earlier earlier p) ≡ end_of earlier + forced_end p
forced-same earlier p = ends earlier p.log.forced

all-same : (earlier : List Record) (p : Pcom) → all_of (with_earlier earlier p).log ≡ earlier ++ all_of p.log
all-same earlier p = append_assoc earlier p.log.forced p.log.buffered

log-same : (earlier : List Record) (p : Pcom) → log_end (with_earlier earlier p) ≡ end_of earlier + log_end p
log-same earlier p = ap end_of (all-same earlier p) ∙ ends earlier (all_of p.log)

-- a record has bytes
some-bytes : (r : Record) → 0 < record_length r
some-bytes (Take from k stamp) = omega arith
some-bytes (TakeWhole from k stamp handler args) = omega arith
some-bytes (Input stamp handler args) = omega arith
some-bytes (Value n place session value) = omega arith
some-bytes (Ended stamp n abort) = omega arith
some-bytes (Released to k) = omega arith
some-bytes (Shown m) = omega arith
some-bytes (Checkpoint image) = omega arith
some-bytes (Epoch epoch) = omega arith
some-bytes (Decided stamp c n writes) = omega arith

moved : (n at : ℕ) → 0 < at → n + at ≡ shifted n at
moved n zero lt = absurd (omega (arith, lt))
moved n (suc at) lt = refl

-- behind one record more
behind-same : (earlier : List Record) (p : Pcom) (r : Record) → end_of (all_of (with_earlier earlier p).log ++ r ∷ []) ≡ shifted (end_of earlier) (end_of (all_of p.log ++ r ∷ []))
behind-same earlier p r =
    ap (λ rs. end_of (rs ++ r ∷ [])) (all-same earlier p)
    ∙ ap end_of (append_assoc earlier (all_of p.log) (r ∷ []))
    ∙ ends earlier (all_of p.log ++ r ∷ [])
    ∙ moved (end_of earlier) (end_of (all_of p.log ++ r ∷ [])) (omega (arith, sum_by-append record_length (all_of p.log) (r ∷ []), some-bytes r))

-- what a step is to do ---------------------------------------------------------------------------

need-same : (n : ℕ) (v : Vol) (o : Option ℕ) → need_records (shifted_vol n v) o ≡ need_records v o
need-same n v None = refl
need-same n v (Some line) = refl

abort-same : (n : ℕ) (v : Vol) (o : Option ℕ) → need_abort (shifted_vol n v) o ≡ need_abort v o
abort-same n v None = refl
abort-same n v (Some line) = refl

reply-same : (program : Program) (c : ComId) (n : ℕ) (v : Vol) (m place : ℕ) (session : Session) (o : Option ℤ) → on_reply program c (shifted_vol n v) m place session o ≡ on_reply program c v m place session o
reply-same program c n v m place session None = refl
reply-same program c n v m place session (Some value) =
    ap (λ rs. record just_tail { word = Changed; adds = Value m place session value ∷ rs; aborted = need_abort (shifted_vol n v) (fails_with program c v value) }) (need-same n v (fails_with program c v value))
    ∙ ap (λ a. record just_tail { word = Changed; adds = Value m place session value ∷ need_records v (fails_with program c v value); aborted = a }) (abort-same n v (fails_with program c v value))

outcome-same : (n : ℕ) (v : Vol) (o : Option Decision) → on_outcome (shifted_vol n v) o ≡ on_outcome v o
outcome-same n v None = refl
outcome-same n v (Some (Committed stamp)) = refl
outcome-same n v (Some (Aborted cause)) = refl

data-same : (program : Program) (c : ComId) (earlier : List Record) (p : Pcom) (m : Msg) → on_data program c (with_earlier earlier p) m ≡ on_data program c p m
data-same program c earlier p m =
    ap
    (λ l. cond (Inbox.is_taken p.vol.inbox (record { peer = m.from; k = m.k })) (record just_tail { answers = level_answer c m l })
    (cond (in_hand p) (record nothing_at_all { word = Busy }) (record just_tail { word = Took; content = Some m; adds = take_record program c p.vol m ∷ []; forces = is_immediate program c })))
    (ap (Inbox.level (shifted_inbox (end_of earlier) p.vol.inbox) (record { peer = m.from; k = m.k })) (forced-same earlier p)
    ∙ level-shifted (end_of earlier) p.vol.inbox (record { peer = m.from; k = m.k }) (forced_end p))

packet-same : (program : Program) (c : ComId) (earlier : List Record) (p : Pcom) (packet : Packet) → on_packet program c (with_earlier earlier p) packet ≡ on_packet program c p packet
packet-same program c earlier p (Data m) = data-same program c earlier p m
packet-same program c earlier p (Stable from to k) =
    ap (λ t. record just_tail { marks = Some (record { peer = from; k = k }); word = cond t Changed Same }) (may-shifted (end_of earlier) p.vol.outbox (record { peer = from; k = k }))
packet-same program c earlier p (Installed from to k) =
    ap (λ t. cond t (record just_tail { adds = Released from k ∷ []; word = Changed }) just_tail) (held-shifted (end_of earlier) p.vol.outbox (record { peer = from; k = k }))
packet-same program c earlier p (Fetch from to k) =
    ap (λ o. record just_tail { answers = map Data (option_to_list o) })
    (ap (Outbox.fetch (shifted_outbox (end_of earlier) p.vol.outbox) (record { peer = from; k = k })) (forced-same earlier p)
    ∙ fetch-shifted (end_of earlier) p.vol.outbox (record { peer = from; k = k }) (forced_end p))
packet-same program c earlier p (OpReply from to n place session value) = reply-same program c (end_of earlier) p.vol n place session (Txn.reply p.vol.txn (OpReply from to n place session value))
packet-same program c earlier p (Outcome from to n place session decision) = outcome-same (end_of earlier) p.vol (Txn.outcome p.vol.txn (Outcome from to n place session decision))
packet-same program c earlier p (Op from to n place session request) = refl
packet-same program c earlier p (Commit from to n place session stamp) = refl
packet-same program c earlier p (Drop from to n) = refl

-- the outcome that ended the last transaction is forced in both or in neither
drop-forced : (earlier : List Record) (p : Pcom) → nat_le (shifted (end_of earlier) p.vol.ended_at) (forced_end (with_earlier earlier p)) ≡ nat_le p.vol.ended_at (forced_end p)
drop-forced earlier p = ap (nat_le (shifted (end_of earlier) p.vol.ended_at)) (forced-same earlier p) ∙ le-shifted (end_of earlier) p.vol.ended_at (forced_end p)

owed-same : (c : ComId) (earlier : List Record) (p : Pcom) → all_owed c (with_earlier earlier p) ≡ all_owed c p
owed-same c earlier p =
    ap (λ ms. (map Data ms ++ last_drop c (with_earlier earlier p)) ++ option_to_list (Txn.pending c p.vol.txn p.vol.clock))
    (ap (Outbox.unstable (shifted_outbox (end_of earlier) p.vol.outbox)) (forced-same earlier p) ∙ unstable-shifted (end_of earlier) p.vol.outbox (forced_end p))
    ∙ ap (λ t. (map Data (Outbox.unstable p.vol.outbox (forced_end p)) ++ cond t (map (drop_packet c) (option_to_list p.vol.txn.last)) []) ++ option_to_list (Txn.pending c p.vol.txn p.vol.clock)) (drop-forced earlier p)

decide-same : (program : Program) (c : ComId) (earlier : List Record) (p : Pcom) (call : Call) → decide program c (with_earlier earlier p) call ≡ decide program c p call
decide-same program c earlier p (Gives handler args) = refl
decide-same program c earlier p (Gets packet) = ap (λ d. cond (fits_pcom program c packet) d nothing_at_all) (packet-same program c earlier p packet)
decide-same program c earlier p Forces = refl
decide-same program c earlier p Checkpoints =
    ap (λ image. cond (in_hand p) nothing_at_all (record just_tail { adds = Checkpoint image ∷ []; forces = true; covers = true })) (image-shifted (end_of earlier) p.vol)
decide-same program c earlier p Resends = ap (λ xs. record nothing_at_all { answers = xs }) (owed-same c earlier p)
decide-same program c earlier p Emits =
    ap on_emit (ap (Shelf.next_due (shifted_shelf (end_of earlier) p.vol.shelf)) (forced-same earlier p) ∙ next-shifted (end_of earlier) p.vol.shelf (forced_end p))

-- what it does -----------------------------------------------------------------------------------

marked-same : (earlier : List Record) (p : Pcom) (o : Option Identity) → marked (with_earlier earlier p) o ≡ with_earlier earlier (marked p o)
marked-same earlier p None = refl
marked-same earlier p (Some x) = ap (λ o. record (with_earlier earlier p) { vol = record (shifted_vol (end_of earlier) p.vol) { outbox = o } }) (stable-shifted (end_of earlier) p.vol.outbox x)

append-same : (program : Program) (c : ComId) (content : Option Msg) (earlier : List Record) (p : Pcom) (r : Record) → append program c content (with_earlier earlier p) r ≡ with_earlier earlier (append program c content p r)
append-same program c content earlier p r =
    ap (λ v. record { log = record { forced = earlier ++ p.log.forced; buffered = p.log.buffered ++ r ∷ [] }; vol = v; rest = p.rest })
    (ap (λ at. record_in program c at content (shifted_vol (end_of earlier) p.vol) r) (behind-same earlier p r)
    ∙ record-shifted program c (end_of earlier) (end_of (all_of p.log ++ r ∷ [])) content p.vol r)

absorb-same : (program : Program) (c : ComId) (content : Option Msg) (earlier : List Record) (p : Pcom) (rs : List Record) → absorb program c content (with_earlier earlier p) rs ≡ with_earlier earlier (absorb program c content p rs)
absorb-same program c content earlier p [] = refl
absorb-same program c content earlier p (r ∷ rs) =
    ap (λ q. absorb program c content q rs) (append-same program c content earlier p r) ∙ absorb-same program c content earlier (append program c content p r) rs

choice-same : (program : Program) (c : ComId) (earlier : List Record) (d : Effects) (p : Pcom) → absorb_choice program c d (with_earlier earlier p) ≡ with_earlier earlier (absorb_choice program c d p)
choice-same program c earlier d p =
    ap (λ q. absorb program c d.content q d.adds) (marked-same earlier p d.marks) ∙ absorb-same program c d.content earlier (marked p d.marks) d.adds

force-same : (t : Bool) (earlier : List Record) (p : Pcom) → force_if t (with_earlier earlier p) ≡ with_earlier earlier (force_if t p)
force-same true earlier p = ap (λ rs. record (with_earlier earlier p) { log = record { forced = rs; buffered = [] } }) (all-same earlier p)
force-same false earlier p = refl

cover-same : (t : Bool) (earlier : List Record) (p : Pcom) → cover_if t (with_earlier earlier p) ≡ with_earlier earlier (cover_if t p)
cover-same true earlier p =
    ap (λ i. record (with_earlier earlier p) { vol = record (shifted_vol (end_of earlier) p.vol) { inbox = i } })
    (ap (Inbox.cover (shifted_inbox (end_of earlier) p.vol.inbox)) (log-same earlier p) ∙ cover-shifted (end_of earlier) p.vol.inbox (log_end p))
cover-same false earlier p = refl

where-same : (before : Vol) (d : Effects) (earlier : List Record) (p : Pcom) → force_where (shifted_vol (end_of earlier) before) d (with_earlier earlier p) ≡ with_earlier earlier (force_where before d p)
where-same before d earlier p =
    ap (cover_if d.covers) (force-same (d.forces || must_force before p.vol) earlier p) ∙ cover-same d.covers earlier (force_if (d.forces || must_force before p.vol) p)

owes-same : (earlier : List Record) (p : Pcom) → owes_drop (with_earlier earlier p) ≡ owes_drop p
owes-same earlier p = ap (λ t. p.vol.owes_drop && t) (drop-forced earlier p)

tail-same : (c : ComId) (came : Bool) (earlier : List Record) (p : Pcom) → tail_packets c came (with_earlier earlier p) ≡ tail_packets c came p
tail-same c came earlier p =
    ap (λ xs. ((map (ack_packet c) xs ++ map Data (Outbox.due_messages (shifted_outbox (end_of earlier) p.vol.outbox) (forced_end (with_earlier earlier p)))) ++ cond (owes_drop (with_earlier earlier p)) (map (drop_packet c) (option_to_list p.vol.txn.last)) []) ++ cond came (option_to_list (Txn.pending c p.vol.txn p.vol.clock)) [])
    (ap (Inbox.acks (shifted_inbox (end_of earlier) p.vol.inbox)) (forced-same earlier p) ∙ acks-shifted (end_of earlier) p.vol.inbox (forced_end p))
    ∙ ap (λ ms. ((map (ack_packet c) (Inbox.acks p.vol.inbox (forced_end p)) ++ map Data ms) ++ cond (owes_drop (with_earlier earlier p)) (map (drop_packet c) (option_to_list p.vol.txn.last)) []) ++ cond came (option_to_list (Txn.pending c p.vol.txn p.vol.clock)) [])
    (ap (Outbox.due_messages (shifted_outbox (end_of earlier) p.vol.outbox)) (forced-same earlier p) ∙ due-shifted (end_of earlier) p.vol.outbox (forced_end p))
    ∙ ap (λ t. ((map (ack_packet c) (Inbox.acks p.vol.inbox (forced_end p)) ++ map Data (Outbox.due_messages p.vol.outbox (forced_end p))) ++ cond t (map (drop_packet c) (option_to_list p.vol.txn.last)) []) ++ cond came (option_to_list (Txn.pending c p.vol.txn p.vol.clock)) [])
    (owes-same earlier p)

after-same : (earlier : List Record) (p : Pcom) → after_tail (with_earlier earlier p) ≡ with_earlier earlier (after_tail p)
after-same earlier p =
    ap (λ i. record (with_earlier earlier p) { vol = record (shifted_vol (end_of earlier) p.vol) { inbox = i; outbox = Outbox.all_put (shifted_outbox (end_of earlier) p.vol.outbox) (forced_end (with_earlier earlier p)); owes_drop = p.vol.owes_drop && not (owes_drop (with_earlier earlier p)) } })
    (ap (Inbox.all_told (shifted_inbox (end_of earlier) p.vol.inbox)) (forced-same earlier p) ∙ told-shifted (end_of earlier) p.vol.inbox (forced_end p))
    ∙ ap (λ o. record (with_earlier earlier p) { vol = record (shifted_vol (end_of earlier) p.vol) { inbox = shifted_inbox (end_of earlier) (Inbox.all_told p.vol.inbox (forced_end p)); outbox = o; owes_drop = p.vol.owes_drop && not (owes_drop (with_earlier earlier p)) } })
    (ap (Outbox.all_put (shifted_outbox (end_of earlier) p.vol.outbox)) (forced-same earlier p) ∙ put-shifted (end_of earlier) p.vol.outbox (forced_end p))
    ∙ ap (λ t. record (with_earlier earlier p) { vol = record (shifted_vol (end_of earlier) p.vol) { inbox = shifted_inbox (end_of earlier) (Inbox.all_told p.vol.inbox (forced_end p)); outbox = shifted_outbox (end_of earlier) (Outbox.all_put p.vol.outbox (forced_end p)); owes_drop = p.vol.owes_drop && not t } })
    (owes-same earlier p)

out-same : (c : ComId) (before : Vol) (d : Effects) (earlier : List Record) (p : Pcom) → put_out c (shifted_vol (end_of earlier) before) d (with_earlier earlier p) ≡ told_with_earlier earlier (put_out c before d p)
out-same c before d earlier p = at d.is_quiet
  where
    came : Bool
    came = came_to_first before p.vol || came_further before p.vol

    at : (t : Bool) → cond t (told (with_earlier earlier p) d.answers d) (told (after_tail (with_earlier earlier p)) (d.answers ++ tail_packets c came (with_earlier earlier p)) d) ≡ told_with_earlier earlier (cond t (told p d.answers d) (told (after_tail p) (d.answers ++ tail_packets c came p) d))
    at true = refl
    at false =
        ap (λ q. told q (d.answers ++ tail_packets c came (with_earlier earlier p)) d) (after-same earlier p)
        ∙ ap (λ xs. told (with_earlier earlier (after_tail p)) (d.answers ++ xs) d) (tail-same c came earlier p)

carry-same : (program : Program) (c : ComId) (earlier : List Record) (p : Pcom) (d : Effects) → carry_out program c (with_earlier earlier p) d ≡ told_with_earlier earlier (carry_out program c p d)
carry-same program c earlier p d =
    ap (λ q. put_out c (shifted_vol (end_of earlier) p.vol) d (force_where (shifted_vol (end_of earlier) p.vol) d q)) (choice-same program c earlier d p)
    ∙ ap (put_out c (shifted_vol (end_of earlier) p.vol) d) (where-same p.vol d earlier (absorb_choice program c d p))
    ∙ out-same c p.vol d earlier (force_where p.vol d (absorb_choice program c d p))

-- replaying --------------------------------------------------------------------------------------

abbrev shifted_playing : ℕ → Playing → Playing
shifted_playing n x = record { vol = shifted_vol n x.vol; rest = x.rest }

play-same : (program : Program) (c : ComId) (n : ℕ) (v : Vol) (rs : List Record) → play_records program c (shifted_vol n v) rs ≡ option_map (shifted_playing n) (play_records program c v rs)
play-same program c n v [] = refl
play-same program c n v (r ∷ rs) =
    ap (λ o. turn program c (shifted_vol n v) r rs o)
    (ap (λ w. play_records program c w rs) (record-shifted program c n 0 None v r) ∙ play-same program c n (record_in program c 0 None v r) rs)
    ∙ ap (λ t. cond t (cond (is_some (waits_for r)) (Some (record { vol = shifted_vol n v; rest = r ∷ rs })) (cond (numbers_fit (record_in program c 0 None (shifted_vol n v) r)) (option_map (shifted_playing n) later) None)) None) (fits-shifted program c n v r)
    ∙ ap (λ w. cond (fits program c (standing program c v) r) (cond (is_some (waits_for r)) (Some (record { vol = shifted_vol n v; rest = r ∷ rs })) (cond (numbers_fit w) (option_map (shifted_playing n) later) None)) None) (record-shifted program c n 0 None v r)
    ∙ at (fits program c (standing program c v) r) (is_some (waits_for r)) (numbers_fit (record_in program c 0 None v r))
  where
    later : Option Playing
    later = play_records program c (record_in program c 0 None v r) rs

    at : (t u s : Bool) → cond t (cond u (Some (record { vol = shifted_vol n v; rest = r ∷ rs })) (cond s (option_map (shifted_playing n) later) None)) None ≡ option_map (shifted_playing n) (cond t (cond u (Some (record { vol = v; rest = r ∷ rs })) (cond s later None)) None)
    at false u s = refl
    at true true s = refl
    at true false true = refl
    at true false false = refl

feed-same : (program : Program) (c : ComId) (n : ℕ) (v : Vol) (m : Msg) (rs : List Record) → feed program c (shifted_vol n v) m rs ≡ option_map (shifted_playing n) (feed program c v m rs)
feed-same program c n v m [] = refl
feed-same program c n v m (r ∷ rs) =
    ap (λ w. cond (numbers_fit w) (play_records program c w rs) None) (record-shifted program c n 0 (Some m) v r)
    ∙ ap (λ o. cond (numbers_fit (record_in program c 0 (Some m) v r)) o None) (play-same program c n (record_in program c 0 (Some m) v r) rs)
    ∙ at (numbers_fit (record_in program c 0 (Some m) v r)) (play_records program c (record_in program c 0 (Some m) v r) rs)
  where
    at : (t : Bool) (o : Option Playing) → cond t (option_map (shifted_playing n) o) None ≡ option_map (shifted_playing n) (cond t o None)
    at true o = refl
    at false o = refl

standing-same : (earlier : List Record) (p : Pcom) (v : Vol) (rest : List Record) → standing_at (with_earlier earlier p).log (shifted_vol (end_of earlier) v) rest ≡ with_earlier earlier (standing_at p.log v rest)
standing-same earlier p v [] = ap (λ w. record { log = (with_earlier earlier p).log; vol = w; rest = [] }) (regenerated-shifted (end_of earlier) v)
standing-same earlier p v (r ∷ rs) = refl

fed-same : (c : ComId) (earlier : List Record) (p : Pcom) → fed c (with_earlier earlier p) ≡ told_with_earlier earlier (fed c p)
fed-same c earlier p = at (is_replaying p)
  where
    at : (t : Bool) → cond t (told (with_earlier earlier p) [] (record nothing_at_all { word = Fed })) (told (after_tail (with_earlier earlier p)) (tail_packets c false (with_earlier earlier p)) (record just_tail { word = Fed })) ≡ told_with_earlier earlier (cond t (told p [] (record nothing_at_all { word = Fed })) (told (after_tail p) (tail_packets c false p) (record just_tail { word = Fed })))
    at true = refl
    at false =
        ap (λ q. told q (tail_packets c false (with_earlier earlier p)) (record just_tail { word = Fed })) (after-same earlier p)
        ∙ ap (λ xs. told (with_earlier earlier (after_tail p)) xs (record just_tail { word = Fed })) (tail-same c false earlier p)

fed-behind : (c : ComId) (earlier : List Record) (p : Pcom) (o : Option Playing) → option_map (λ x. fed c (stands_at (with_earlier earlier p).log x)) (option_map (shifted_playing (end_of earlier)) o) ≡ option_map (told_with_earlier earlier) (option_map (λ x. fed c (stands_at p.log x)) o)
fed-behind c earlier p None = refl
fed-behind c earlier p (Some x) = ap (λ q. Some (fed c q)) (standing-same earlier p x.vol x.rest) ∙ ap (λ y. Some y) (fed-same c earlier (stands_at p.log x))

replayed-same : (program : Program) (c : ComId) (earlier : List Record) (p : Pcom) (packet : Packet) → packet_at_replay program c (with_earlier earlier p) packet ≡ option_map (told_with_earlier earlier) (packet_at_replay program c p packet)
replayed-same program c earlier p (Data m) =
    ap (λ o. cond (is_needed p.rest m) (option_map (λ x. fed c (stands_at (with_earlier earlier p).log x)) o) (stays (with_earlier earlier p) [])) (feed-same program c (end_of earlier) p.vol m p.rest)
    ∙ ap (λ o. cond (is_needed p.rest m) o (stays (with_earlier earlier p) [])) (fed-behind c earlier p (feed program c p.vol m p.rest))
    ∙ at (is_needed p.rest m)
  where
    at : (t : Bool) → cond t (option_map (told_with_earlier earlier) (option_map (λ x. fed c (stands_at p.log x)) (feed program c p.vol m p.rest))) (stays (with_earlier earlier p) []) ≡ option_map (told_with_earlier earlier) (cond t (option_map (λ x. fed c (stands_at p.log x)) (feed program c p.vol m p.rest)) (stays p []))
    at true = refl
    at false = refl
replayed-same program c earlier p (Fetch from to k) =
    ap (λ o. stays (with_earlier earlier p) (map Data (option_to_list o)))
    (ap (Outbox.fetch (shifted_outbox (end_of earlier) p.vol.outbox) (record { peer = from; k = k })) (forced-same earlier p)
    ∙ fetch-shifted (end_of earlier) p.vol.outbox (record { peer = from; k = k }) (forced_end p))
replayed-same program c earlier p (Stable from to k) = refl
replayed-same program c earlier p (Installed from to k) = refl
replayed-same program c earlier p (Op from to n place session request) = refl
replayed-same program c earlier p (OpReply from to n place session value) = refl
replayed-same program c earlier p (Commit from to n place session stamp) = refl
replayed-same program c earlier p (Outcome from to n place session decision) = refl
replayed-same program c earlier p (Drop from to n) = refl

replay-same : (program : Program) (c : ComId) (earlier : List Record) (p : Pcom) (call : Call) → replay_step program c (with_earlier earlier p) call ≡ option_map (told_with_earlier earlier) (replay_step program c p call)
replay-same program c earlier p (Gets packet) =
    ap (λ o. cond (fits_pcom program c packet) o (stays (with_earlier earlier p) [])) (replayed-same program c earlier p packet) ∙ at (fits_pcom program c packet)
  where
    at : (t : Bool) → cond t (option_map (told_with_earlier earlier) (packet_at_replay program c p packet)) (stays (with_earlier earlier p) []) ≡ option_map (told_with_earlier earlier) (cond t (packet_at_replay program c p packet) (stays p []))
    at true = refl
    at false = refl
replay-same program c earlier p Resends = refl
replay-same program c earlier p (Gives handler args) = refl
replay-same program c earlier p Forces = refl
replay-same program c earlier p Checkpoints = refl
replay-same program c earlier p Emits = refl

step-same : (program : Program) (c : ComId) (earlier : List Record) (p : Pcom) (call : Call) → pcom_step program c (with_earlier earlier p) call ≡ option_map (told_with_earlier earlier) (pcom_step program c p call)
step-same program c earlier p call =
    ap (λ o. cond (is_replaying p) o (Some (carry_out program c (with_earlier earlier p) (decide program c (with_earlier earlier p) call)))) (replay-same program c earlier p call)
    ∙ ap (λ d. cond (is_replaying p) (option_map (told_with_earlier earlier) (replay_step program c p call)) (Some (carry_out program c (with_earlier earlier p) d))) (decide-same program c earlier p call)
    ∙ ap (λ x. cond (is_replaying p) (option_map (told_with_earlier earlier) (replay_step program c p call)) (Some x)) (carry-same program c earlier p (decide program c p call))
    ∙ at (is_replaying p)
  where
    at : (t : Bool) → cond t (option_map (told_with_earlier earlier) (replay_step program c p call)) (Some (told_with_earlier earlier (carry_out program c p (decide program c p call)))) ≡ option_map (told_with_earlier earlier) (cond t (replay_step program c p call) (Some (carry_out program c p (decide program c p call))))
    at true = refl
    at false = refl

full-same : (program : Program) (c : ComId) (earlier : List Record) (p : Pcom) (call : Call) (size : ℕ) → is_full program c size (with_earlier earlier p) call ≡ is_full program c size p call
full-same program c earlier p call size =
    ap (λ d. not (is_replaying p) && not (is_empty d.adds) && (has_no_room size (absorb_choice program c d (with_earlier earlier p)).log.buffered || not (numbers_fit (absorb_choice program c d (with_earlier earlier p)).vol))) (decide-same program c earlier p call)
    ∙ ap (λ q. not (is_replaying p) && not (is_empty (decide program c p call).adds) && (has_no_room size q.log.buffered || not (numbers_fit q.vol))) (choice-same program c earlier (decide program c p call) p)

pub steps-same : (program : Program) (c : ComId) (earlier : List Record) (p : Pcom) (call : Call)
    → (pcom_step program c (with_earlier earlier p) call ≡ option_map (told_with_earlier earlier) (pcom_step program c p call))
    × ((size : ℕ) → is_full program c size (with_earlier earlier p) call ≡ is_full program c size p call)
steps-same program c earlier p call = (step-same program c earlier p call, full-same program c earlier p call)

-- what is recovered stands at 0
recovered-there : (program : Program) (c : ComId) (n : ℕ) (records : List Record) → recovered program c records ≡ option_map (shifted_playing n) (recovered program c records)
recovered-there program c n records = at (start_at program c (last_image records)) (starts-fit program c (last_image records))
  where
    at : (o : Option Vol) → ((v : Vol) → o ≡ Some v → HandFits program c v × TablesFit 0 v) → option_and_then (λ v. play_records program c v (behind_checkpoint records)) o ≡ option_map (shifted_playing n) (option_and_then (λ v. play_records program c v (behind_checkpoint records)) o)
    at None fit = refl
    at (Some v) fit = ap (λ w. play_records program c w (behind_checkpoint records)) (sym (fixed n v (fit v refl).1)) ∙ play-same program c n v (behind_checkpoint records)

pub comes-up-same : (program : Program) (c : ComId) (earlier tail : List Record) → has_image tail ≡ true → recover_pcom program c (earlier ++ tail) ≡ option_map (told_with_earlier earlier) (recover_pcom program c tail)
comes-up-same program c earlier tail e =
    ap (option_map (λ x. told (stands_at whole x) (needed_fetch c x.rest) nothing_at_all)) (recovered-same program c earlier tail e ∙ recovered-there program c (end_of earlier) tail)
    ∙ at (recovered program c tail)
  where
    whole : Log
    whole = record { forced = earlier ++ tail; buffered = [] }

    over : Log
    over = record { forced = tail; buffered = [] }

    at : (o : Option Playing) → option_map (λ x. told (stands_at whole x) (needed_fetch c x.rest) nothing_at_all) (option_map (shifted_playing (end_of earlier)) o) ≡ option_map (told_with_earlier earlier) (option_map (λ x. told (stands_at over x) (needed_fetch c x.rest) nothing_at_all) o)
    at None = refl
    at (Some x) = ap (λ p. Some (told p (needed_fetch c x.rest) nothing_at_all)) (standing-same earlier (record { log = over; vol = x.vol; rest = x.rest }) x.vol x.rest)
