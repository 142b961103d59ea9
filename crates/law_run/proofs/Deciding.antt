-- The records that a Pcom decides on have their bytes, where no limit is passed.
use Rattle.std.proofs.Common.{◌≡◌, refl, ◌∙◌, ap, sym, subst, ℕ, ◌+◌, ◌<◌, ◌≤◌, ◌^◌, ◌==◌, nat_le, nat_lt, max, Bool, true, false, cond, not, ◌&&◌, ◌||◌, ℤ, List, [], ◌∷◌, ◌++◌, length, Option, Some, None, option_map, arith}
use Rattle.std.specs.Prelude.{⊤, find}
use Rattle.std.specs.List.{AllByRecursion}
use Rattle.std.proofs.lemmas.List.Sums.{sum_by-append}
use Rattle.std.proofs.lemmas.Option.{same_Some}
use Rattle.ic_base.specs.declared.limits.TheConstants.{GREATEST_NUMBER, LOG_BYTES}
use Rattle.ic_base.specs.declared.messages.AbortCause.{AbortCause}
use Rattle.ic_base.specs.declared.messages.AbortCause.TheVariants.{Need, Held, Epoch as Epochs}
use Rattle.ic_base.specs.declared.messages.ComId.{ComId}
use Rattle.ic_base.specs.declared.messages.Decision.{Decision}
use Rattle.ic_base.specs.declared.messages.Decision.TheVariants.{Committed, Aborted}
use Rattle.ic_base.specs.declared.messages.Msg.{Msg}
use Rattle.ic_base.specs.declared.messages.Packet.{Packet}
use Rattle.ic_base.specs.declared.messages.Packet.TheVariants.{Data, Stable, Installed, Fetch, Op, OpReply, Commit, Outcome, Drop}
use Rattle.ic_base.specs.declared.messages.Session.{Session}
use Rattle.ic_base.specs.declared.played.Played.{Played}
use Rattle.ic_base.specs.declared.played.Played.TheVariants.{Asks, Ready, NeedFails, Ends}
use Rattle.ic_base.specs.declared.record.Record.{Record}
use Rattle.ic_base.specs.declared.record.Record.TheVariants.{Take, TakeWhole, Input, Value, Outcome as Ended, Released, Checkpoint}
use Rattle.ic_base.specs.declared.scenario.Program.{Program}
use Rattle.ic_base.specs.Programs.{same_com, is_pcom, is_a_pcom, is_a_tcom, is_other_pcom, is_number, is_immediate, has_handler, session_fits}
use Rattle.def_log.specs.Spelling.{Fits, IsCount, IsCom, IsEnding}
use Rattle.def_state.specs.Fits.{failed_line}
use Rattle.def_state.specs.Hist.{hand_plays}
use Rattle.def_state.specs.Image.{image_of}
use Rattle.def_state.specs.Inbox
use Rattle.def_state.specs.Outbox
use Rattle.def_state.specs.Positions.{end_of, record_length}
use Rattle.def_state.specs.Shelf
use Rattle.def_state.specs.Txn
use Rattle.def_state.specs.Txn.{Stage, Idle, Waiting, Answered, Committing, is_on, is_awaited_at, accepts}
use Rattle.def_state.specs.Vol.{Vol, numbers_fit, take_in_hand, receive, end_txn}
use Rattle.def_step.specs.Packets.{fits_pcom, if_session_fits, decision_fits, cause_fits}
use Rattle.def_step.specs.Room.{has_no_room, is_empty}
use Rattle.def_step.specs.Pcom.{Pcom, forced_end, is_replaying, in_hand, Call, Gives, Gets, Forces, Checkpoints, Resends, Emits, Effects, Busy, Took, Changed, just_tail, nothing_at_all, take_record, level_answer, on_data, on_installed, on_reply, on_outcome, on_packet, on_emit, need_records, need_abort, fails_with, decide, append, absorb_choice, is_full}
use Rattle.law_image.specs.Readable.{OutputFits}
use Rattle.law_replay.proofs.Lists.{none-some, true-false, front, back, passed, at_most, equal-numbers}
use Rattle.law_replay.proofs.Members.{found}
use Rattle.law_settle.proofs.Images.{bound}
use Rattle.law_settle.proofs.Tables.{all-push}
use Rattle.law_run.specs.ProgramBytes.{IsWord, AreWords, HasBytes, PlayedFits}
use Rattle.law_run.proofs.Hists.{declared-com}
use Rattle.law_run.proofs.HasImages.{handler-fits, all-has}
use Rattle.law_run.proofs.ImageBytes.{AreBytes}
use Rattle.law_run.proofs.Living.{VolFits, hand-fits, play-clock}

-- what is known of a live Pcom: its values and outputs have their bytes, its open transaction makes no more requests than it may, and
-- its image is made of bytes, where it isn't longer than a record may be
pub record Known (program : Program) (c : ComId) (v : Vol) : Type 0 where
  pub values : VolFits v
  pub outputs : AllByRecursion (λ w. OutputFits w.output) v.shelf.waiting
  pub places : (place : ℕ) (session : Session) → is_awaited_at v.txn.stage place session ≡ true → place < 2 ^ 16
  pub image : length (image_of v) < 2 ^ 32 → AreBytes (image_of v)

-- a packet, and a call
abbrev pub GotFits : Packet → Type 0
GotFits (Data m) = AreWords m.args
GotFits (OpReply from to n place session value) = IsWord value
GotFits _ = ⊤

abbrev pub CallFits : Program → ComId → Call → Type 0
CallFits program c (Gives handler args) = (has_handler program c handler args ≡ true) × AreWords args
CallFits program c (Gets packet) = GotFits packet
CallFits program c _ = ⊤

-- the limits --------------------------------------------------------------------------------------

abbrev full_with : Program → ComId → ℕ → Pcom → Effects → Bool
full_with program c size p d = not (is_replaying p) && not (is_empty d.adds) && (has_no_room size (absorb_choice program c d p).log.buffered || not (numbers_fit (absorb_choice program c d p).vol))

record Within (size : ℕ) (q : Pcom) : Type 0 where
  room : has_no_room size q.log.buffered ≡ false
  clock : q.vol.clock ≤ GREATEST_NUMBER

within : (program : Program) (c : ComId) (size : ℕ) (p : Pcom) (d : Effects) → is_replaying p ≡ false → is_empty d.adds ≡ false → full_with program c size p d ≡ false → Within size (absorb_choice program c d p)
within program c size p d live some e =
    let q = absorb_choice program c d p in
    let x = parts (is_replaying p) (is_empty d.adds) (has_no_room size q.log.buffered) (numbers_fit q.vol) live some e in
    record { room = x.0; clock = at_most q.vol.clock GREATEST_NUMBER (front (nat_le q.vol.clock GREATEST_NUMBER) _ x.1) }
  where
    parts : (a b m n : Bool) → a ≡ false → b ≡ false → not a && not b && (m || not n) ≡ false → (m ≡ false) × (n ≡ true)
    parts true b m n f g h = true-false (sym f)
    parts false true m n f g h = true-false (sym g)
    parts false false true n f g h = true-false (sym h)
    parts false false false true f g h = (refl, refl)
    parts false false false false f g h = true-false (sym h)

-- what the records of a choice have
AddsFit : Program → ComId → ℕ → Pcom → Effects → Type 0
AddsFit program c size p d = full_with program c size p d ≡ false → AllByRecursion Fits d.adds

pub count-is : (n : ℕ) → is_number n ≡ true → IsCount n
count-is n e = (at_most 1 n (front (nat_le 1 n) (nat_le n GREATEST_NUMBER) e), at_most n GREATEST_NUMBER (back (nat_le 1 n) (nat_le n GREATEST_NUMBER) e))

other-com : (program : Program) (c d : ComId) → HasBytes program → is_other_pcom program c d ≡ true → IsCom d
other-com program c d bytes e = declared-com program d (λ x. is_pcom x.kind) bytes (front (is_a_pcom program d) (not (same_com c d)) e)

-- inputs and messages -----------------------------------------------------------------------------

input-fits : (program : Program) (c : ComId) (size : ℕ) (p : Pcom) (handler : ℕ) (args : List ℤ) → HasBytes program → is_replaying p ≡ false → has_handler program c handler args ≡ true → AreWords args → AddsFit program c size p (decide program c p (Gives handler args))
unfolding AddsFit
input-fits program c size p handler args bytes live own words = at (in_hand p)
  where
    at : (b : Bool) → AddsFit program c size p (cond b nothing_at_all (record just_tail { word = Took; adds = Input (p.vol.clock + 1) handler args ∷ []; forces = true }))
    at true = λ e. tt
    at false = λ e.
        let w = within program c size p (record just_tail { word = Took; adds = Input (p.vol.clock + 1) handler args ∷ []; forces = true }) live refl e in
        let h = handler-fits program c handler args bytes own in
        ((subst (λ n. n ≤ GREATEST_NUMBER) (play-clock program c _ (take_in_hand p.vol (p.vol.clock + 1) handler args)) w.clock, (h.0, h.1, words)), tt)

take-fits : (program : Program) (c : ComId) (size : ℕ) (p : Pcom) (m : Msg) → HasBytes program → is_replaying p ≡ false → fits_pcom program c (Data m) ≡ true → AreWords m.args → AddsFit program c size p (on_data program c p m)
unfolding AddsFit
take-fits program c size p m bytes live ok words = at (Inbox.is_taken p.vol.inbox (record { peer = m.from; k = m.k })) (in_hand p)
  where
    from : IsCom m.from
    from = other-com program c m.from bytes (front (is_other_pcom program c m.from) _ ok)

    rest : is_number m.k && (nat_le m.stamp GREATEST_NUMBER && has_handler program c m.handler m.args) ≡ true
    rest = back (is_other_pcom program c m.from) _ ok

    stamp : ℕ
    stamp = max p.vol.clock m.stamp + 1

    by : (b : Bool) → is_immediate program c ≡ b → full_with program c size p (record just_tail { word = Took; content = Some m; adds = cond b (TakeWhole m.from m.k (max p.vol.clock m.stamp + 1) m.handler m.args) (Take m.from m.k (max p.vol.clock m.stamp + 1)) ∷ []; forces = is_immediate program c }) ≡ false
        → AllByRecursion Fits (cond b (TakeWhole m.from m.k (max p.vol.clock m.stamp + 1) m.handler m.args) (Take m.from m.k (max p.vol.clock m.stamp + 1)) ∷ [])
    by true is e =
        let w = within program c size p (record just_tail { word = Took; content = Some m; adds = TakeWhole m.from m.k (max p.vol.clock m.stamp + 1) m.handler m.args ∷ []; forces = is_immediate program c }) live refl e in
        let h = handler-fits program c m.handler m.args bytes (back (nat_le m.stamp GREATEST_NUMBER) _ (back (is_number m.k) _ rest)) in
        ((from, count-is m.k (front (is_number m.k) _ rest), subst (λ n. n ≤ GREATEST_NUMBER) (play-clock program c _ (take_in_hand (receive p.vol m.from m.k _ true) (max p.vol.clock m.stamp + 1) m.handler m.args)) w.clock, (h.0, h.1, words)), tt)
    by false is e =
        let w = within program c size p (record just_tail { word = Took; content = Some m; adds = Take m.from m.k (max p.vol.clock m.stamp + 1) ∷ []; forces = is_immediate program c }) live refl e in
        ((from, count-is m.k (front (is_number m.k) _ rest), subst (λ n. n ≤ GREATEST_NUMBER) (play-clock program c _ (take_in_hand (receive p.vol m.from m.k _ false) (max p.vol.clock m.stamp + 1) m.handler m.args)) w.clock), tt)

    at : (taken b : Bool) → AddsFit program c size p (cond taken (record just_tail { answers = level_answer c m (Inbox.level p.vol.inbox (record { peer = m.from; k = m.k }) (forced_end p)) }) (cond b (record nothing_at_all { word = Busy }) (record just_tail { word = Took; content = Some m; adds = take_record program c p.vol m ∷ []; forces = is_immediate program c })))
    at true b = λ e. tt
    at false true = λ e. tt
    at false false = by (is_immediate program c) refl

-- transactions ------------------------------------------------------------------------------------

record ReplyParts (x : Txn.Txn) (n place : ℕ) (session : Session) (value answer : ℤ) : Type 0 where
  number : n ≡ x.begun
  awaited : is_awaited_at x.stage place session ≡ true
  same : value ≡ answer

reply-parts : (x : Txn.Txn) (from to : ComId) (n place : ℕ) (session : Session) (value answer : ℤ) → Txn.reply x (OpReply from to n place session value) ≡ Some answer → ReplyParts x n place session value answer
reply-parts x from to n place session value answer e =
    let y = passed (is_on x.stage from && ((n == x.begun) && is_awaited_at x.stage place session)) (Some value) answer e in
    let z = back (is_on x.stage from) ((n == x.begun) && is_awaited_at x.stage place session) y.0 in
    record { number = equal-numbers n x.begun (front (n == x.begun) _ z); awaited = back (n == x.begun) _ z; same = same_Some value answer y.1 }

failed-low : (r : Played) (line : ℕ) → PlayedFits r → failed_line r ≡ Some line → line < 2 ^ 32
failed-low (Asks t q) line h e = none-some line e
failed-low (Ready t) line h e = none-some line e
failed-low (NeedFails t l) line h e = subst (λ n. n < 2 ^ 32) (same_Some l line e) h
failed-low (Ends vars sends outs) line h e = none-some line e

fails-low : (program : Program) (c : ComId) (v : Vol) (value : ℤ) (line : ℕ) → HasBytes program → VolFits v → IsWord value → fails_with program c v value ≡ Some line → line < 2 ^ 32
fails-low program c v value line bytes x word e =
    let y = bound v.hand (λ hand. failed_line (hand_plays program c v.vars (v.now ++ value ∷ []) hand)) line e in
    failed-low (hand_plays program c v.vars (v.now ++ value ∷ []) y.0) line (hand-fits program c v (v.now ++ value ∷ []) y.0 bytes x (all-push IsWord v.now value x.now word) y.1) y.2

reply-fits : (program : Program) (c : ComId) (size : ℕ) (p : Pcom) (from to : ComId) (n place : ℕ) (session : Session) (value : ℤ) → HasBytes program → is_replaying p ≡ false → Known program c p.vol → fits_pcom program c (OpReply from to n place session value) ≡ true → IsWord value →
    (o : Option ℤ) → Txn.reply p.vol.txn (OpReply from to n place session value) ≡ o → AddsFit program c size p (on_reply program c p.vol n place session o)
unfolding AddsFit
reply-fits program c size p from to n place session value bytes live x ok word None is = λ e. tt
reply-fits program c size p from to n place session value bytes live x ok word (Some answer) is = λ e.
    let y = reply-parts p.vol.txn from to n place session value answer is in
    let two = back (is_a_tcom program from) (is_number n && session_fits session) ok in
    let count = count-is n (front (is_number n) (session_fits session) two) in
    let own = back (is_number n) (session_fits session) two in (
      (count, x.places place session y.awaited, at_most session.epoch GREATEST_NUMBER (front (nat_le session.epoch GREATEST_NUMBER) _ own), at_most session.counter GREATEST_NUMBER (back (nat_le session.epoch GREATEST_NUMBER) _ own), subst IsWord y.same word),
      failing (fails_with program c p.vol answer) refl e (subst IsCount y.number count) (subst IsWord y.same word),
    )
  where
    failing : (o : Option ℕ) → fails_with program c p.vol answer ≡ o
        → full_with program c size p (record just_tail { word = Changed; adds = Value n place session answer ∷ need_records p.vol o; aborted = need_abort p.vol o }) ≡ false → IsCount p.vol.txn.begun → IsWord answer → AllByRecursion Fits (need_records p.vol o)
    failing None f e count own = tt
    failing (Some line) f e count own =
        let d : Effects = record just_tail { word = Changed; adds = Value n place session answer ∷ Ended (p.vol.clock + 1) p.vol.txn.begun (Some (Need line)) ∷ []; aborted = need_abort p.vol (Some line) } in
        let w = within program c size p d live refl e in
        ((subst (λ k. k ≤ GREATEST_NUMBER) (play-clock program c _ (end_txn (append program c None p (Value n place session answer)).vol (p.vol.clock + 1) _ (Some (Need line)))) w.clock, count, fails-low program c p.vol answer line bytes x.values own f), tt)

outcome-number : (x : Txn.Txn) (from to : ComId) (n place : ℕ) (session : Option Session) (decision other : Decision) → Txn.outcome x (Outcome from to n place session decision) ≡ Some other → (n ≡ x.begun) × (decision ≡ other)
outcome-number x from to n place session decision other e =
    let y = passed (is_on x.stage from && ((n == x.begun) && accepts x.stage place session decision)) (Some decision) other e in
    (equal-numbers n x.begun (front (n == x.begun) _ (back (is_on x.stage from) _ y.0)), same_Some decision other y.1)

ending-fits : (program : Program) (cause : AbortCause) → HasBytes program → cause_fits program cause ≡ true → IsEnding (Some cause)
ending-fits program (Need line) bytes e = true-false e
ending-fits program (Held holder n) bytes e = (declared-com program holder (λ x. is_pcom x.kind) bytes (front (is_a_pcom program holder) _ e), count-is n (back (is_a_pcom program holder) _ e))
ending-fits program (Epochs old present) bytes e = (at_most old GREATEST_NUMBER (front (nat_le old GREATEST_NUMBER) _ e), at_most present GREATEST_NUMBER (back (nat_le old GREATEST_NUMBER) _ e))

outcome-fits : (program : Program) (c : ComId) (size : ℕ) (p : Pcom) (from to : ComId) (n place : ℕ) (session : Option Session) (decision : Decision) → HasBytes program → is_replaying p ≡ false → fits_pcom program c (Outcome from to n place session decision) ≡ true →
    (o : Option Decision) → Txn.outcome p.vol.txn (Outcome from to n place session decision) ≡ o → AddsFit program c size p (on_outcome p.vol o)
unfolding AddsFit
outcome-fits program c size p from to n place session decision bytes live ok None is = λ e. tt
outcome-fits program c size p from to n place session decision bytes live ok (Some other) is = at other refl
  where
    y : (n ≡ p.vol.txn.begun) × (decision ≡ other)
    y = outcome-number p.vol.txn from to n place session decision other is

    two : is_number n && (if_session_fits session && decision_fits program decision) ≡ true
    two = back (is_a_tcom program from) _ ok

    count : IsCount p.vol.txn.begun
    count = subst IsCount y.0 (count-is n (front (is_number n) _ two))

    decided : decision_fits program other ≡ true
    decided = subst (λ d. decision_fits program d ≡ true) y.1 (back (if_session_fits session) _ (back (is_number n) _ two))

    at : (d : Decision) → other ≡ d → full_with program c size p (on_outcome p.vol (Some d)) ≡ false → AllByRecursion Fits (on_outcome p.vol (Some d)).adds
    at (Committed stamp) same e =
        let w = within program c size p (on_outcome p.vol (Some (Committed stamp))) live refl e in
        ((subst (λ k. k ≤ GREATEST_NUMBER) (play-clock program c _ (end_txn p.vol (max p.vol.clock stamp + 1) _ None)) w.clock, count, tt), tt)
    at (Aborted cause) same e =
        let w = within program c size p (on_outcome p.vol (Some (Aborted cause))) live refl e in
        ((subst (λ k. k ≤ GREATEST_NUMBER) (play-clock program c _ (end_txn p.vol (p.vol.clock + 1) _ (Some cause))) w.clock, count, ending-fits program cause bytes (subst (λ d. decision_fits program d ≡ true) same decided)), tt)

installed-fits : (program : Program) (c : ComId) (size : ℕ) (p : Pcom) (from : ComId) (k : ℕ) → HasBytes program → is_other_pcom program c from && is_number k ≡ true → AddsFit program c size p (on_installed p (record { peer = from; k = k }))
unfolding AddsFit
installed-fits program c size p from k bytes ok = at (Outbox.is_held p.vol.outbox (record { peer = from; k = k }))
  where
    at : (b : Bool) → AddsFit program c size p (cond b (record just_tail { adds = Released from k ∷ []; word = Changed }) just_tail)
    at true = λ e. ((other-com program c from bytes (front (is_other_pcom program c from) (is_number k) ok), count-is k (back (is_other_pcom program c from) (is_number k) ok)), tt)
    at false = λ e. tt

-- packets -----------------------------------------------------------------------------------------

packet-fits : (program : Program) (c : ComId) (size : ℕ) (p : Pcom) (packet : Packet) → HasBytes program → is_replaying p ≡ false → Known program c p.vol → fits_pcom program c packet ≡ true → GotFits packet → AddsFit program c size p (on_packet program c p packet)
unfolding AddsFit
packet-fits program c size p (Data m) bytes live x ok got = take-fits program c size p m bytes live ok got
packet-fits program c size p (Stable from to k) bytes live x ok got = λ e. tt
packet-fits program c size p (Installed from to k) bytes live x ok got = installed-fits program c size p from k bytes ok
packet-fits program c size p (Fetch from to k) bytes live x ok got = λ e. tt
packet-fits program c size p (OpReply from to n place session value) bytes live x ok got = reply-fits program c size p from to n place session value bytes live x ok got (Txn.reply p.vol.txn (OpReply from to n place session value)) refl
packet-fits program c size p (Outcome from to n place session decision) bytes live x ok got = outcome-fits program c size p from to n place session decision bytes live ok (Txn.outcome p.vol.txn (Outcome from to n place session decision)) refl
packet-fits program c size p (Op from to n place session request) bytes live x ok got = λ e. tt
packet-fits program c size p (Commit from to n place session stamp) bytes live x ok got = λ e. tt
packet-fits program c size p (Drop from to n) bytes live x ok got = λ e. tt

-- checkpoints -------------------------------------------------------------------------------------

last-length : (xs : List Record) (r : Record) → record_length r ≤ end_of (xs ++ r ∷ [])
last-length xs r = omega (arith, sum_by-append record_length xs (r ∷ []))

never-empty : (xs : List Record) (r : Record) → is_empty (xs ++ r ∷ []) ≡ false
never-empty [] r = refl
never-empty (x ∷ xs) r = refl

has-room : (size : ℕ) (xs : List Record) (r : Record) → has_no_room size (xs ++ r ∷ []) ≡ false → record_length r ≤ LOG_BYTES
has-room size xs r e = fits (record_length r) (end_of (xs ++ r ∷ [])) size (last-length xs r) (ap (λ b. not b && nat_lt LOG_BYTES (size + 5 + end_of (xs ++ r ∷ []))) (sym (never-empty xs r)) ∙ e)
  where
    fits : (l m n : ℕ) → l ≤ m → nat_lt LOG_BYTES (n + 5 + m) ≡ false → l ≤ LOG_BYTES
    fits l m n le f = let h = over (n + 5 + m) f in omega (arith, le, h)
      where
        over : (k : ℕ) → nat_lt LOG_BYTES k ≡ false → k ≤ LOG_BYTES
        over k g = grind arith

checkpoint-fits : (program : Program) (c : ComId) (size : ℕ) (p : Pcom) → is_replaying p ≡ false → Known program c p.vol → AddsFit program c size p (decide program c p Checkpoints)
unfolding AddsFit
checkpoint-fits program c size p live x = at (in_hand p) refl
  where
    at : (b : Bool) → in_hand p ≡ b → AddsFit program c size p (cond b nothing_at_all (record just_tail { adds = Checkpoint (image_of p.vol) ∷ []; forces = true; covers = true }))
    at true is = λ e. tt
    at false is = λ e.
        let w = within program c size p (record just_tail { adds = Checkpoint (image_of p.vol) ∷ []; forces = true; covers = true }) live refl e in
        let le = has-room size p.log.buffered (Checkpoint (image_of p.vol)) w.room in
        let small = below (length (image_of p.vol)) le in
        ((small, x.image small), tt)
      where
        below : (n : ℕ) → 5 + n ≤ LOG_BYTES → n < 2 ^ 32
        below n h = omega (arith, h)

emit-fits : (program : Program) (c : ComId) (size : ℕ) (p : Pcom) → Known program c p.vol → AddsFit program c size p (decide program c p Emits)
unfolding AddsFit
emit-fits program c size p x = at (find (λ w. nat_le w.at (forced_end p)) p.vol.shelf.waiting) refl
  where
    at : (o : Option Shelf.Waiting) → find (λ w. nat_le w.at (forced_end p)) p.vol.shelf.waiting ≡ o → AddsFit program c size p (on_emit (option_map (λ w. w.output) o))
    at None is = λ e. tt
    at (Some w) is = λ e. ((all-has (λ (y : Shelf.Waiting). OutputFits y.output) p.vol.shelf.waiting w x.outputs (found (λ y. nat_le y.at (forced_end p)) p.vol.shelf.waiting w is).0).m, tt)

-- what is decided on has its bytes
pub decided_fits : (program : Program) (c : ComId) (size : ℕ) (p : Pcom) (call : Call) → HasBytes program → is_replaying p ≡ false → Known program c p.vol → CallFits program c call → is_full program c size p call ≡ false → AllByRecursion Fits (decide program c p call).adds
unfolding AddsFit
decided_fits program c size p (Gives handler args) bytes live x got e = input-fits program c size p handler args bytes live got.0 got.1 e
decided_fits program c size p (Gets packet) bytes live x got e = at (fits_pcom program c packet) refl e
  where
    at : (b : Bool) → fits_pcom program c packet ≡ b → full_with program c size p (cond b (on_packet program c p packet) nothing_at_all) ≡ false → AllByRecursion Fits (cond b (on_packet program c p packet) nothing_at_all).adds
    at true ok f = packet-fits program c size p packet bytes live x ok got f
    at false ok f = tt
decided_fits program c size p Forces bytes live x got e = tt
decided_fits program c size p Checkpoints bytes live x got e = checkpoint-fits program c size p live x e
decided_fits program c size p Resends bytes live x got e = tt
decided_fits program c size p Emits bytes live x got e = emit-fits program c size p x e
