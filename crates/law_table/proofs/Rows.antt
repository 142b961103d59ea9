-- The rows of a Pcom.
use Rattle.std.proofs.Common.{◌≡◌, refl, ◌∙◌, ap, sym, subst, ℕ, ◌+◌, ℤ, Bool, true, false, ◌||◌, ◌&&◌, cond, List, [], ◌∷◌, ◌++◌, Option, Some, None, option_map, append_assoc, append-nil}
use Rattle.std.specs.Prelude.{nat_lt}
use Rattle.std.proofs.lemmas.Option.{same_Some}
use Rattle.ic_base.specs.declared.messages.ComId.{ComId}
use Rattle.ic_base.specs.declared.messages.Decision.TheVariants.{Committed, Aborted}
use Rattle.ic_base.specs.declared.messages.Msg.{Msg}
use Rattle.ic_base.specs.declared.messages.Packet.{Packet}
use Rattle.ic_base.specs.declared.messages.Packet.TheVariants.{Data, Stable, Installed, Fetch, Op, OpReply, Commit, Outcome, Drop}
use Rattle.ic_base.specs.declared.messages.Session.{Session}
use Rattle.ic_base.specs.declared.record.Record.{Record}
use Rattle.ic_base.specs.declared.record.Record.TheVariants as records
use Rattle.ic_base.specs.declared.scenario.Program.{Program}
use Rattle.ic_base.specs.Programs.{is_immediate}
use Rattle.def_state.specs.Image.{image_of}
use Rattle.def_state.specs.Inbox
use Rattle.def_state.specs.Outbox
use Rattle.def_state.specs.Shelf
use Rattle.def_state.specs.Txn
use Rattle.def_state.specs.Txn.{is_committing}
use Rattle.def_state.specs.Vol.{Vol}
use Rattle.def_step.specs.Packets.{fits_pcom}
use Rattle.def_step.specs.Replay.{Playing, feed}
use Rattle.def_step.specs.Pcom.{Pcom, Log, Call, Gives, Gets, Forces, Checkpoints, Resends, Emits, Effects, StepKind, Took, Fed, Busy, Changed, Same, StepResult, absorb_choice, after_tail, all_owed, carry_out, came_further, came_to_first, cover_if, decide, fed, force_if, force_log, force_where, forced_end, in_hand, is_needed, is_replaying, just_tail, level_answer, must_force, need_abort, need_records, needed_fetch, nothing_at_all, on_emit, on_outcome, on_packet, on_reply, packet_at_replay, place_of, put_out, replay_step, stands_at, stays, tail_packets, take_record, told}
use Rattle.law_step.proofs.Shapes.{carried-log, chosen-log, same-txn, standing-log}
use Rattle.law_table.specs.Rows.{Does, Stays, IsSilent, Tells, IsStep, with_records, names, Inputs, NewMessages, BusyMessages, KnownMessages, Stables, Installeds, Fetches, Replies, Outcomes, Strangers, Forcings, Checkpointings, Resendings, Emittings, Replayings}

-- a step that is carried out ----------------------------------------------------------------------------

-- what is forced, covered and put out leaves the transaction
kept-txn : (c : ComId) (before : Vol) (d : Effects) (force cover : Bool) (q : Pcom) → (put_out c before d (cover_if cover (force_if force q))).pcom.vol.txn ≡ q.vol.txn
kept-txn c before d force cover q = put d.is_quiet (cover_if cover (force_if force q)) ∙ covered cover (force_if force q) ∙ forced force
  where
    put : (b : Bool) (z : Pcom) → (cond b (told z d.answers d) (told (after_tail z) (d.answers ++ tail_packets c (came_to_first before z.vol || came_further before z.vol) z) d)).pcom.vol.txn ≡ z.vol.txn
    put true z = refl
    put false z = refl

    covered : (b : Bool) (z : Pcom) → (cover_if b z).vol.txn ≡ z.vol.txn
    covered true z = refl
    covered false z = refl

    forced : (b : Bool) → (force_if b q).vol.txn ≡ q.vol.txn
    forced true = refl
    forced false = refl

same-force : (v w z : Vol) → w.txn ≡ z.txn → must_force v w ≡ must_force v z
same-force v w z e = ap (λ x. nat_lt v.txn.begun x.begun || (nat_lt (place_of v.txn.stage) (place_of x.stage) && is_committing x.stage)) e

added : (l : Log) (rs : List Record) (b : Bool) → cond b (force_log (record { forced = l.forced; buffered = l.buffered ++ rs })) (record { forced = l.forced; buffered = l.buffered ++ rs }) ≡ with_records l rs b
added l rs true = ap (λ z. record { forced = z; buffered = [] }) (sym (append_assoc l.forced l.buffered rs))
added l rs false = refl

does-log : (program : Program) (c : ComId) (p : Pcom) (d : Effects) → (carry_out program c p d).pcom.log ≡ with_records p.log d.adds (d.forces || must_force p.vol (carry_out program c p d).pcom.vol)
does-log program c p d =
    let q : Pcom = absorb_choice program c d p in
    let flag : Bool = d.forces || must_force p.vol q.vol in
    let same : must_force p.vol q.vol ≡ must_force p.vol (carry_out program c p d).pcom.vol = sym (same-force p.vol (carry_out program c p d).pcom.vol q.vol (kept-txn c p.vol d flag d.covers q)) in
    carried-log program c p d ∙ ap (λ (l : Log). cond flag (force_log l) l) (chosen-log program c d p) ∙ added p.log d.adds flag ∙ ap (λ b. with_records p.log d.adds (d.forces || b)) same

put-puts : (c : ComId) (before : Vol) (d : Effects) (z : Pcom) → (due : List Packet) × ((put_out c before d z).puts ≡ d.answers ++ due)
put-puts c before d z = at d.is_quiet
  where
    at : (b : Bool) → (due : List Packet) × ((cond b (told z d.answers d) (told (after_tail z) (d.answers ++ tail_packets c (came_to_first before z.vol || came_further before z.vol) z) d)).puts ≡ d.answers ++ due)
    at true = ([], sym (append-nil d.answers))
    at false = (tail_packets c (came_to_first before z.vol || came_further before z.vol) z, refl)

put-told : (c : ComId) (before : Vol) (d : Effects) (z : Pcom) → ((put_out c before d z).shown ≡ d.shown) × ((put_out c before d z).aborted ≡ d.aborted)
put-told c before d z = at d.is_quiet
  where
    at : (b : Bool) → ((cond b (told z d.answers d) (told (after_tail z) (d.answers ++ tail_packets c (came_to_first before z.vol || came_further before z.vol) z) d)).shown ≡ d.shown) × ((cond b (told z d.answers d) (told (after_tail z) (d.answers ++ tail_packets c (came_to_first before z.vol || came_further before z.vol) z) d)).aborted ≡ d.aborted)
    at true = (refl, refl)
    at false = (refl, refl)

-- rows from what was decided ------------------------------------------------------------------------------

ran : (program : Program) (c : ComId) (p : Pcom) (call : Call) (t : StepResult) (d : Effects) → IsStep program c p call t → decide program c p call ≡ d → carry_out program c p d ≡ t
ran program c p call t d s is =
    ap (carry_out program c p) (sym is)
    ∙ same_Some (carry_out program c p (decide program c p call)) t (sym (ap (λ b. cond b (replay_step program c p call) (Some (carry_out program c p (decide program c p call)))) s.0) ∙ s.1)

does : (program : Program) (c : ComId) (p : Pcom) (call : Call) (t : StepResult) (d : Effects) → IsStep program c p call t → decide program c p call ≡ d → Does p t d.adds d.forces d.answers × Tells t d.shown d.aborted
does program c p call t d s is =
    subst (λ (t : StepResult). Does p t d.adds d.forces d.answers × Tells t d.shown d.aborted) (ran program c p call t d s is)
    (record { log = does-log program c p d; puts = put-puts c p.vol d (force_where p.vol d (absorb_choice program c d p)) }, put-told c p.vol d (force_where p.vol d (absorb_choice program c d p)))

stands : (program : Program) (c : ComId) (p : Pcom) (call : Call) (t : StepResult) (word : StepKind) (puts : List Packet) → IsStep program c p call t → decide program c p call ≡ record nothing_at_all { word = word; answers = puts } → Stays p t puts
stands program c p call t word puts s is =
    subst (λ t. Stays p t puts)
    (sym (ap (λ b. told (force_if b p) puts (record nothing_at_all { word = word; answers = puts })) (same-txn p.vol p.vol refl)) ∙ ran program c p call t (record nothing_at_all { word = word; answers = puts }) s is)
    (record { same = refl; just = refl; silent = (refl, refl) })

-- inputs and messages ---------------------------------------------------------------------------------------

abbrev with_input : Pcom → ℕ → List ℤ → Effects
with_input p handler args = record just_tail { word = Took; adds = records.Input (p.vol.clock + 1) handler args ∷ []; forces = true }

pub inputs : Inputs
inputs program c p handler args t s = (
  λ free. does program c p (Gives handler args) t (with_input p handler args) s (ap (λ b. cond b nothing_at_all (with_input p handler args)) free),
  λ busy. stands program c p (Gives handler args) t Same [] s (ap (λ b. cond b nothing_at_all (with_input p handler args)) busy),
)

-- a packet that fits
fitting : (program : Program) (c : ComId) (p : Pcom) (packet : Packet) → fits_pcom program c packet ≡ true → decide program c p (Gets packet) ≡ on_packet program c p packet
fitting program c p packet fits = ap (λ b. cond b (on_packet program c p packet) nothing_at_all) fits

abbrev with_message : Program → ComId → Pcom → Msg → Effects
with_message program c p m = record just_tail { word = Took; content = Some m; adds = take_record program c p.vol m ∷ []; forces = is_immediate program c }

abbrev known : ComId → Pcom → Msg → Effects
known c p m = record just_tail { answers = level_answer c m (Inbox.level p.vol.inbox (names m.from m.k) (forced_end p)) }

abbrev unless_known : Program → ComId → Pcom → Msg → Bool → Bool → Effects
unless_known program c p m taken busy = cond taken (known c p m) (cond busy (record nothing_at_all { word = Busy }) (with_message program c p m))

pub new_messages : NewMessages
new_messages program c p m t s fits fresh free = does program c p (Gets (Data m)) t (with_message program c p m) s
    (fitting program c p (Data m) fits ∙ ap (λ b. unless_known program c p m b (in_hand p)) fresh ∙ ap (unless_known program c p m false) free)

pub busy_messages : BusyMessages
busy_messages program c p m t s fits fresh busy = stands program c p (Gets (Data m)) t Busy [] s
    (fitting program c p (Data m) fits ∙ ap (λ b. unless_known program c p m b (in_hand p)) fresh ∙ ap (unless_known program c p m false) busy)

pub known_messages : KnownMessages
known_messages program c p m t s fits taken = does program c p (Gets (Data m)) t (known c p m) s (fitting program c p (Data m) fits ∙ ap (λ b. unless_known program c p m b (in_hand p)) taken)

-- other packets -----------------------------------------------------------------------------------------------

pub stables : Stables
stables program c from to p k t s fits = does program c p (Gets (Stable from to k)) t (on_packet program c p (Stable from to k)) s (fitting program c p (Stable from to k) fits)

pub fetches : Fetches
fetches program c from to p k t s fits = does program c p (Gets (Fetch from to k)) t (on_packet program c p (Fetch from to k)) s (fitting program c p (Fetch from to k) fits)

abbrev releases : ComId → ℕ → Effects
releases from k = record just_tail { adds = records.Released from k ∷ []; word = Changed }

pub installeds : Installeds
installeds program c from to p k t s fits = (
  λ held. does program c p (Gets (Installed from to k)) t (releases from k) s (fitting program c p (Installed from to k) fits ∙ ap (λ b. cond b (releases from k) just_tail) held),
  λ gone. does program c p (Gets (Installed from to k)) t just_tail s (fitting program c p (Installed from to k) fits ∙ ap (λ b. cond b (releases from k) just_tail) gone),
)

abbrev with_value : Vol → ℕ → ℕ → Session → ℤ → Option ℕ → Effects
with_value v n place session value line = record just_tail { word = Changed; adds = records.Value n place session value ∷ need_records v line; aborted = need_abort v line }

pub replies : Replies
replies program c from to p n place session value answer t s fits = (
  λ none. does program c p (Gets (OpReply from to n place session answer)) t just_tail s (fitting program c p (OpReply from to n place session answer) fits ∙ ap (on_reply program c p.vol n place session) none),
  λ some fine. does program c p (Gets (OpReply from to n place session answer)) t (with_value p.vol n place session value None) s
      (fitting program c p (OpReply from to n place session answer) fits ∙ ap (on_reply program c p.vol n place session) some ∙ ap (with_value p.vol n place session value) fine),
  λ line some fails. does program c p (Gets (OpReply from to n place session answer)) t (with_value p.vol n place session value (Some line)) s
      (fitting program c p (OpReply from to n place session answer) fits ∙ ap (on_reply program c p.vol n place session) some ∙ ap (with_value p.vol n place session value) fails),
)

pub outcomes : Outcomes
outcomes program c from to p n place session decision t s fits = (
  λ none. does program c p (Gets (Outcome from to n place session decision)) t just_tail s (fitting program c p (Outcome from to n place session decision) fits ∙ ap (on_outcome p.vol) none),
  λ stamp some. does program c p (Gets (Outcome from to n place session decision)) t (on_outcome p.vol (Some (Committed stamp))) s (fitting program c p (Outcome from to n place session decision) fits ∙ ap (on_outcome p.vol) some),
  λ cause some. does program c p (Gets (Outcome from to n place session decision)) t (on_outcome p.vol (Some (Aborted cause))) s (fitting program c p (Outcome from to n place session decision) fits ∙ ap (on_outcome p.vol) some),
)

pub strangers : Strangers
strangers program c p packet t s strange = stands program c p (Gets packet) t Same [] s (ap (λ b. cond b (on_packet program c p packet) nothing_at_all) strange)

-- upkeep --------------------------------------------------------------------------------------------------------

pub forcings : Forcings
forcings program c p t s = does program c p Forces t (record just_tail { forces = true }) s refl

abbrev with_image : Pcom → Effects
with_image p = record just_tail { adds = records.Checkpoint (image_of p.vol) ∷ []; forces = true; covers = true }

pub checkpointings : Checkpointings
checkpointings program c p t s = (
  λ free. does program c p Checkpoints t (with_image p) s (ap (λ b. cond b nothing_at_all (with_image p)) free),
  λ busy. stands program c p Checkpoints t Same [] s (ap (λ b. cond b nothing_at_all (with_image p)) busy),
)

pub resendings : Resendings
resendings program c p t s = stands program c p Resends t Same (all_owed c p) s refl

pub emittings : Emittings
emittings program c p t s = (
  λ none. stands program c p Emits t Same [] s (ap on_emit none),
  λ o some. does program c p Emits t (on_emit (Some o)) s (ap on_emit some),
)

-- a replay --------------------------------------------------------------------------------------------------------

abbrev Still : Pcom → StepResult → Type 0
Still p t = (t.pcom.log ≡ p.log) × IsSilent t

stays-still : (p : Pcom) (puts : List Packet) (t : StepResult) → stays p puts ≡ Some t → Still p t
stays-still p puts t e = subst (Still p) (same_Some (told p puts nothing_at_all) t e) (refl, (refl, refl))

fed-still : (c : ComId) (p q : Pcom) → q.log ≡ p.log → Still p (fed c q)
fed-still c p q same = at (is_replaying q)
  where
    at : (b : Bool) → Still p (cond b (told q [] (record nothing_at_all { word = Fed })) (told (after_tail q) (tail_packets c false q) (record just_tail { word = Fed })))
    at true = (same, (refl, refl))
    at false = (same, (refl, refl))

replay-still : (program : Program) (c : ComId) (p : Pcom) (call : Call) (t : StepResult) → replay_step program c p call ≡ Some t → Still p t
replay-still program c p (Gives handler args) t e = stays-still p [] t e
replay-still program c p Forces t e = stays-still p [] t e
replay-still program c p Checkpoints t e = stays-still p [] t e
replay-still program c p Resends t e = stays-still p (needed_fetch c p.rest) t e
replay-still program c p Emits t e = stays-still p [] t e
replay-still program c p (Gets packet) t e = at (fits_pcom program c packet) e
  where
    by : (x : Packet) → packet_at_replay program c p x ≡ Some t → Still p t
    by (Data m) f = when (is_needed p.rest m) f
      where
        played : (o : Option Playing) → option_map (λ x. fed c (stands_at p.log x)) o ≡ Some t → Still p t
        played None g = absurd (cc g)
        played (Some x) g = subst (Still p) (same_Some (fed c (stands_at p.log x)) t g) (fed-still c p (stands_at p.log x) (standing-log p.log x.vol x.rest))

        when : (b : Bool) → cond b (option_map (λ x. fed c (stands_at p.log x)) (feed program c p.vol m p.rest)) (stays p []) ≡ Some t → Still p t
        when true g = played (feed program c p.vol m p.rest) g
        when false g = stays-still p [] t g
    by (Fetch from to k) f = stays-still p _ t f
    by (Stable from to k) f = stays-still p [] t f
    by (Installed from to k) f = stays-still p [] t f
    by (Op from to n place session request) f = stays-still p [] t f
    by (OpReply from to n place session value) f = stays-still p [] t f
    by (Commit from to n place session stamp) f = stays-still p [] t f
    by (Outcome from to n place session decision) f = stays-still p [] t f
    by (Drop from to n) f = stays-still p [] t f

    at : (b : Bool) → cond b (packet_at_replay program c p packet) (stays p []) ≡ Some t → Still p t
    at true f = by packet f
    at false f = stays-still p [] t f

pub replayings : Replayings
replayings program c p call t replays e = replay-still program c p call t (sym (ap (λ b. cond b (replay_step program c p call) (Some (carry_out program c p (decide program c p call)))) replays) ∙ e)
