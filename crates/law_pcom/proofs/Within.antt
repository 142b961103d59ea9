-- A step that passes no limit adds records that the replay takes, call by call.
use Rattle.std.proofs.Common.{◌≡◌, refl, ◌∙◌, ap, sym, subst, ℕ, ◌+◌, ◌<◌, max, nat_le, nat_lt, Bool, true, false, cond, not, ◌&&◌, ◌||◌, ◌==◌, List, [], ◌∷◌, ◌++◌, map, ℤ, Option, Some, None, option_map, option_and_then, is_none, is_some, slice_get, arith}
use Rattle.std.specs.Prelude.{Contains, IsSome}
use Rattle.std.proofs.lemmas.Bool.{and_parts}
use Rattle.std.proofs.lemmas.List.{append-nil, append_assoc}
use Rattle.std.proofs.lemmas.List.Elements.{Contains-push}
use Rattle.ic_base.specs.declared.messages.AbortCause.{AbortCause}
use Rattle.ic_base.specs.declared.messages.AbortCause.TheVariants.{Need, Held as HeldBy, Epoch as Epochs}
use Rattle.ic_base.specs.declared.messages.ComId.{ComId}
use Rattle.ic_base.specs.declared.messages.Decision.{Decision}
use Rattle.ic_base.specs.declared.messages.Decision.TheVariants.{Committed, Aborted}
use Rattle.ic_base.specs.declared.messages.Msg.{Msg}
use Rattle.ic_base.specs.declared.limits.TheConstants.{GREATEST_NUMBER}
use Rattle.ic_base.specs.declared.messages.Output.{Output}
use Rattle.ic_base.specs.declared.messages.Session.{Session}
use Rattle.ic_base.specs.declared.messages.Packet.{Packet}
use Rattle.ic_base.specs.declared.messages.Packet.TheVariants.{Data, Stable, Installed, Fetch, Op, OpReply, Commit, Outcome, Drop}
use Rattle.ic_base.specs.declared.scenario.Component.{Component}
use Rattle.ic_base.specs.declared.scenario.Program.{Program}
use Rattle.ic_base.specs.declared.scenario.Handler.{Handler}
use Rattle.ic_base.specs.declared.record.Record.{Record}
use Rattle.ic_base.specs.declared.record.Record.TheVariants.{Take, TakeWhole, Input, Value, Outcome as Ended, Released, Shown, Checkpoint}
use Rattle.ic_base.specs.Programs.{is_immediate, is_other_pcom, has_handler, declares, takes_args, is_a_tcom, is_number}
use Rattle.def_play.specs.Playing.{handler_of}
use Rattle.def_plain.specs.Cell.{TakesMessage, SeesAbort, SeesCommit, takes}
use Rattle.def_state.specs.Names.{Identity}
use Rattle.def_state.specs.Positions.{end_of}
use Rattle.def_state.specs.Inbox
use Rattle.def_state.specs.Outbox
use Rattle.def_state.specs.Shelf
use Rattle.def_state.specs.Shelf.{Waiting}
use Rattle.def_state.specs.Txn
use Rattle.def_state.specs.Txn.{is_on, is_awaited_at, is_idle, is_committing, accepts, same_place, answered_in}
use Rattle.def_state.specs.Fits.{Standing, fits, may_take, may_end, is_number_of}
use Rattle.def_state.specs.Hist.{Hist, apply, recorded, standing_of, played_on, receipt_identity, is_in, hand_plays, answered}
use Rattle.def_state.specs.Image.{image_of}
use Rattle.def_state.specs.Vol
use Rattle.def_state.specs.Vol.{Vol, standing, record_in}
use Rattle.def_state.specs.Mirrors.{Mirrors}
use Rattle.def_step.specs.Packets.{fits_pcom, decision_fits, if_session_fits}
use Rattle.def_step.specs.Pcom.{Pcom, Call, Gives, Gets, Forces, Checkpoints, Resends, Emits, Effects, all_of, is_replaying, is_full, is_empty, has_no_room, decide, absorb_choice, append, on_packet, on_data, need_records, on_reply, on_outcome, on_emit, in_hand, forced_end, nothing_at_all, just_tail, fails_with, level_answer, need_abort, Took, Busy, Changed}
use Rattle.def_facts.specs.Logs.{IsConsistent, contents_in}
use Rattle.def_facts.specs.Pcom.{state_after}
use Rattle.def_facts.specs.Playable.{IsPlayable}
use Rattle.law_replay.proofs.Lists.{true-false, both-true, self-number, at-some}
use Rattle.law_replay.proofs.Closing.{idle-staged}
use Rattle.law_pcom.specs.Mirroring.{Sits}
use Rattle.law_pcom.specs.Stepping.{got}
use Rattle.law_pcom.specs.Upkeep.{UpFacts}
use Rattle.law_pcom.specs.Within.{IsGiven, StepsReplay}
use Rattle.law_pcom.proofs.Ending.{no_part_ends}
use Rattle.law_pcom.proofs.Calls.{chosen}
use Rattle.law_pcom.proofs.Following.{after-push}
use Rattle.law_pcom.proofs.Living.{lives}
use Rattle.law_pcom.proofs.Oldest.{due-oldest}
use Rattle.law_pcom.proofs.Playing.{records_mirror}
use Rattle.law_pcom.proofs.Recorded.{EndsAs, takes-message, takes-input, ends-part}
use Rattle.law_pcom.proofs.Replies.{fails-alike}
use Rattle.law_pcom.proofs.Standing.{fits_both, alike}
use Rattle.law_pcom.proofs.Steps.{content-is}
use Rattle.law_pcom.proofs.Upkeep.{up-of, up-receives}

-- what is known of the component
pub record AtCall (program : Program) (c : ComId) (sent received : List Packet) (p : Pcom) : Type 0 where
  pub good : IsPlayable program
  pub up : UpFacts program c sent received p

abbrev pub Takes : Program → ComId → List Packet → Pcom → List Record → Type 0
Takes program c received p adds = IsSome (state_after program c received (all_of p.log ++ adds))

none-added : (program : Program) (c : ComId) (sent received : List Packet) (p : Pcom) → AtCall program c sent received p → Takes program c received p []
none-added program c sent received p x = ap is_some (ap (state_after program c received) (append-nil (all_of p.log)) ∙ x.up.follows.is_state)

-- one record that fits the live state, and is recorded in the replayed one
one-added : (program : Program) (c : ComId) (sent received : List Packet) (p : Pcom) (x : AtCall program c sent received p) (r : Record) → fits program c (standing program c p.vol) r ≡ true → (g : Hist) × (recorded program c (contents_in received) x.up.follows.state r ≡ Some g) → Takes program c received p (r ∷ [])
one-added program c sent received p x r fit g =
    ap is_some (after-push program c received (all_of p.log) r x.up.follows.state g.0 x.up.follows.is_state (ap (λ b. cond b (recorded program c (contents_in received) x.up.follows.state r) None) (sym (fits_both program c p.vol x.up.follows.state r x.up.follows.mirrors) ∙ fit) ∙ g.1))

above : (n : ℕ) → nat_lt n (n + 1) ≡ true
above n = grind arith

above-both : (n m : ℕ) → nat_lt n (max n m + 1) ≡ true
above-both n m = over n (max n m + 1) (more n m)
  where
    more : (a b : ℕ) → a < max a b + 1
    more a b = omega arith

    over : (a b : ℕ) → a < b → nat_lt a b ≡ true
    over a b lt = grind (arith, lt)

sits-of : (program : Program) (c : ComId) (sent received : List Packet) (p : Pcom) (x : AtCall program c sent received p) → Sits program c x.up.follows.state
sits-of program c sent received p x = (lives program c (contents_in received) (all_of p.log) x.up.follows.state x.up.follows.is_state).sits

free-of : (b : Bool) → b ≡ false → not b ≡ true
free-of false e = refl
free-of true e = true-false (sym e)

is-free : (program : Program) (c : ComId) (sent received : List Packet) (p : Pcom) (x : AtCall program c sent received p) → in_hand p ≡ false → (is_none p.vol.hand ≡ true) × (is_none x.up.follows.state.plain.hand ≡ true)
is-free program c sent received p x e = (none p.vol.hand e, ap is_none (sym x.up.follows.mirrors.hand) ∙ none p.vol.hand e)
  where
    none : {A : Type 0} (o : Option A) → is_some o ≡ false → is_none o ≡ true
    none None f = refl
    none (Some y) f = true-false (sym f)

-- the handler is there, with its number of arguments
handler-there : (program : Program) (c : ComId) (handler : ℕ) (args : List ℤ) → has_handler program c handler args ≡ true → takes (handler_of program c handler) args ≡ true
handler-there program c handler args e = at (slice_get program.components c.0) e
  where
    taken : (o : Option Handler) → takes_args o args ≡ true → takes o args ≡ true
    taken None f = true-false f
    taken (Some h) f = f

    at : (o : Option Component) → declares (λ d. takes_args (slice_get d.handlers handler) args) o ≡ true → takes (option_and_then (λ d. slice_get d.handlers handler) o) args ≡ true
    at None f = true-false f
    at (Some d) f = taken (slice_get d.handlers handler) f

-- an input ----------------------------------------------------------------------------------------

input-added : (program : Program) (c : ComId) (sent received : List Packet) (p : Pcom) (x : AtCall program c sent received p) (at handler : ℕ) (args : List ℤ) → in_hand p ≡ false → has_handler program c handler args ≡ true → Vol.numbers_fit (record_in program c at None p.vol (Input (p.vol.clock + 1) handler args)) ≡ true →
    Takes program c received p (Input (p.vol.clock + 1) handler args ∷ [])
input-added program c sent received p x at handler args free there fit =
    one-added program c sent received p x (Input (p.vol.clock + 1) handler args)
    (both-true (nat_lt p.vol.clock (p.vol.clock + 1)) (is_none p.vol.hand && has_handler program c handler args) (above p.vol.clock) (both-true (is_none p.vol.hand) (has_handler program c handler args) (is-free program c sent received p x free).0 there))
    (takes-input program c (contents_in received) (all_of p.log) x.up.follows.state at p.vol (p.vol.clock + 1) handler args x.good x.up.follows.is_state (sits-of program c sent received p x) x.up.follows.mirrors (is-free program c sent received p x free).1 (handler-there program c handler args there) fit)

-- a message ---------------------------------------------------------------------------------------

message-added : (program : Program) (c : ComId) (sent received : List Packet) (p : Pcom) (x : AtCall program c sent received p) (at : ℕ) (m : Msg) (whole : Bool) → is_immediate program c ≡ whole → contents_in received m.from m.k ≡ Some m → is_other_pcom program c m.from ≡ true → has_handler program c m.handler m.args ≡ true →
    Inbox.is_taken p.vol.inbox (record { peer = m.from; k = m.k }) ≡ false → in_hand p ≡ false →
    let r = cond whole (TakeWhole m.from m.k (max p.vol.clock m.stamp + 1) m.handler m.args) (Take m.from m.k (max p.vol.clock m.stamp + 1)) in
    Vol.numbers_fit (record_in program c at (Some m) p.vol r) ≡ true → Takes program c received p (r ∷ [])
message-added program c sent received p x at m whole lazy content other there new free fit = by whole lazy fit
  where
    stamp : ℕ
    stamp = max p.vol.clock m.stamp + 1

    v : Vol
    v = p.vol

    name : Identity
    name = record { peer = m.from; k = m.k }

    fresh : (not (Inbox.is_taken p.vol.inbox (record { peer = m.from; k = m.k }))) ≡ true
    fresh = free-of (Inbox.is_taken p.vol.inbox (record { peer = m.from; k = m.k })) new

    unread : is_in (map receipt_identity x.up.follows.state.plain.receipts) (record { peer = m.from; k = m.k }) ≡ false
    unread = sym ((alike program c p.vol x.up.follows.state x.up.follows.mirrors).has_taken (record { peer = m.from; k = m.k })) ∙ new

    both : (b : Bool) → (b ≡ true) → (is_none p.vol.hand && (b && (is_other_pcom program c m.from && not (Inbox.is_taken p.vol.inbox (record { peer = m.from; k = m.k }))))) ≡ true
    both b e =
        both-true (is_none p.vol.hand) (b && (is_other_pcom program c m.from && not (Inbox.is_taken p.vol.inbox (record { peer = m.from; k = m.k })))) (is-free program c sent received p x free).0
        (both-true b (is_other_pcom program c m.from && not (Inbox.is_taken p.vol.inbox (record { peer = m.from; k = m.k }))) e (both-true (is_other_pcom program c m.from) (not (Inbox.is_taken p.vol.inbox (record { peer = m.from; k = m.k }))) other fresh))

    by : (b : Bool) → is_immediate program c ≡ b → Vol.numbers_fit (record_in program c at (Some m) p.vol (cond b (TakeWhole m.from m.k (max p.vol.clock m.stamp + 1) m.handler m.args) (Take m.from m.k (max p.vol.clock m.stamp + 1)))) ≡ true →
        Takes program c received p (cond b (TakeWhole m.from m.k (max p.vol.clock m.stamp + 1) m.handler m.args) (Take m.from m.k (max p.vol.clock m.stamp + 1)) ∷ [])
    by true e f =
        one-added program c sent received p x (TakeWhole m.from m.k (max p.vol.clock m.stamp + 1) m.handler m.args)
        (both-true (nat_lt p.vol.clock (max p.vol.clock m.stamp + 1)) (may_take program c (standing program c p.vol) true m.from m.k && has_handler program c m.handler m.args) (above-both p.vol.clock m.stamp)
        (both-true (may_take program c (standing program c p.vol) true m.from m.k) (has_handler program c m.handler m.args) (both (is_immediate program c) e) there))
        (takes-message program c (contents_in received) (all_of p.log) x.up.follows.state at p.vol m.from m.k (max p.vol.clock m.stamp + 1) true m.handler m.args x.good x.up.follows.is_state (sits-of program c sent received p x) x.up.follows.mirrors (is-free program c sent received p x free).1 unread f)
    by false e f =
        let g = takes-message program c (contents_in received) (all_of p.log) x.up.follows.state at p.vol m.from m.k (max p.vol.clock m.stamp + 1) false m.handler m.args x.good x.up.follows.is_state (sits-of program c sent received p x) x.up.follows.mirrors (is-free program c sent received p x free).1 unread f in
        one-added program c sent received p x (Take m.from m.k (max p.vol.clock m.stamp + 1))
        (both-true (nat_lt p.vol.clock (max p.vol.clock m.stamp + 1)) (may_take program c (standing program c p.vol) false m.from m.k) (above-both p.vol.clock m.stamp) (both (not (is_immediate program c)) (free-of (is_immediate program c) e)))
        (g.0, ap (λ o. played_on program c x.up.follows.state (max p.vol.clock m.stamp + 1) (option_map (λ (y : Msg). TakesMessage m.from m.k y.handler y.args) o)) content ∙ g.1)

-- an outcome --------------------------------------------------------------------------------------

-- an outcome that ends the open transaction of a replayed state
outcome-recorded : (program : Program) (c : ComId) (received : List Packet) (log : List Record) (h : Hist) (at : ℕ) (v : Vol) (stamp n : ℕ) (abort : Option AbortCause) → IsPlayable program → state_after program c received log ≡ Some h → Mirrors v h → EndsAs h.stage abort → n ≡ h.plain.begun →
    Vol.numbers_fit (record_in program c at None v (Ended stamp n abort)) ≡ true → (g : Hist) × (recorded program c (contents_in received) h (Ended stamp n abort) ≡ Some g)
outcome-recorded program c received log h at v stamp n None good e m ends number fit =
    ends-part program c (contents_in received) log h at v stamp n None (SeesCommit n h.now) good e m ends (ap (λ i. h.plain.begun == i) number ∙ self-number h.plain.begun) (λ p. refl) fit
outcome-recorded program c received log h at v stamp n (Some cause) good e m ends number fit =
    ends-part program c (contents_in received) log h at v stamp n (Some cause) (SeesAbort n) good e m ends (ap (λ i. h.plain.begun == i) number ∙ self-number h.plain.begun) (λ p. refl) fit

-- how it may end, by the live state
abbrev Accepted : Standing → Option AbortCause → Type 0
Accepted s abort = may_end s.stage s.failed abort ≡ true

ends-as : (s : Standing) (abort : Option AbortCause) → Accepted s abort → EndsAs s.stage abort
ends-as s None e = e
ends-as s (Some (Need line)) e = busy (is_idle s.stage) (and_parts (not (is_idle s.stage)) (is_number_of s.failed line) e).0
  where
    busy : (b : Bool) → not b ≡ true → b ≡ false
    busy false f = refl
    busy true f = true-false f
ends-as s (Some (HeldBy holder n)) e = busy (is_idle s.stage) (and_parts (not (is_idle s.stage)) (is_none s.failed) e).0
  where
    busy : (b : Bool) → not b ≡ true → b ≡ false
    busy false f = refl
    busy true f = true-false f
ends-as s (Some (Epochs old present)) e = busy (is_idle s.stage) (and_parts (not (is_idle s.stage)) (is_none s.failed) e).0
  where
    busy : (b : Bool) → not b ≡ true → b ≡ false
    busy false f = refl
    busy true f = true-false f

outcome-added : (program : Program) (c : ComId) (sent received : List Packet) (p : Pcom) (x : AtCall program c sent received p) (at stamp : ℕ) (abort : Option AbortCause) → nat_lt p.vol.clock stamp ≡ true → Accepted (standing program c p.vol) abort →
    Vol.numbers_fit (record_in program c at None p.vol (Ended stamp p.vol.txn.begun abort)) ≡ true → Takes program c received p (Ended stamp p.vol.txn.begun abort ∷ [])
outcome-added program c sent received p x at stamp abort later accepted fit =
    one-added program c sent received p x (Ended stamp p.vol.txn.begun abort)
    (both-true (nat_lt p.vol.clock stamp) ((p.vol.txn.begun == p.vol.txn.begun) && may_end p.vol.txn.stage (standing program c p.vol).failed abort) later
    (both-true (p.vol.txn.begun == p.vol.txn.begun) (may_end p.vol.txn.stage (standing program c p.vol).failed abort) (self-number p.vol.txn.begun) accepted))
    (outcome-recorded program c received (all_of p.log) x.up.follows.state at p.vol stamp p.vol.txn.begun abort x.good x.up.follows.is_state x.up.follows.mirrors (subst (λ s. EndsAs s abort) (ap (λ y. y.stage) x.up.follows.mirrors.txn) (ends-as (standing program c p.vol) abort accepted)) (ap (λ y. y.begun) x.up.follows.mirrors.txn) fit)

-- the choices -------------------------------------------------------------------------------------

-- behind what the choice adds no number passes its limit
abbrev pub Fit : Program → ComId → Pcom → Effects → Type 0
Fit program c p d = is_empty d.adds ≡ false → Vol.numbers_fit (absorb_choice program c d p).vol ≡ true

gives-taken : (program : Program) (c : ComId) (sent received : List Packet) (p : Pcom) (x : AtCall program c sent received p) (handler : ℕ) (args : List ℤ) → has_handler program c handler args ≡ true → (b : Bool) → in_hand p ≡ b →
    let d = cond b nothing_at_all (record just_tail { word = Took; adds = Input (p.vol.clock + 1) handler args ∷ []; forces = true }) in Fit program c p d → Takes program c received p d.adds
gives-taken program c sent received p x handler args there true is fit = none-added program c sent received p x
gives-taken program c sent received p x handler args there false is fit = input-added program c sent received p x (end_of (all_of p.log ++ Input (p.vol.clock + 1) handler args ∷ [])) handler args is there (fit refl)

data-taken : (program : Program) (c : ComId) (sent received : List Packet) (p : Pcom) (x : AtCall program c sent received p) (m : Msg) → contents_in received m.from m.k ≡ Some m → is_other_pcom program c m.from ≡ true → has_handler program c m.handler m.args ≡ true → Fit program c p (on_data program c p m) → Takes program c received p (on_data program c p m).adds
data-taken program c sent received p x m content other there = by (Inbox.is_taken p.vol.inbox (record { peer = m.from; k = m.k })) refl (in_hand p) refl (is_immediate program c) refl
  where
    choice : Bool → Bool → Bool → Effects
    choice a b d =
        cond a (record just_tail { answers = level_answer c m (Inbox.level p.vol.inbox (record { peer = m.from; k = m.k }) (forced_end p)) })
        (cond b (record nothing_at_all { word = Busy })
        (record just_tail { word = Took; content = Some m; adds = cond d (TakeWhole m.from m.k (max p.vol.clock m.stamp + 1) m.handler m.args) (Take m.from m.k (max p.vol.clock m.stamp + 1)) ∷ []; forces = d }))

    by : (a : Bool) → Inbox.is_taken p.vol.inbox (record { peer = m.from; k = m.k }) ≡ a → (b : Bool) → in_hand p ≡ b → (d : Bool) → is_immediate program c ≡ d → Fit program c p (choice a b d) → Takes program c received p (choice a b d).adds
    by true taken b is d lazy fit = none-added program c sent received p x
    by false taken true is d lazy fit = none-added program c sent received p x
    by false taken false is d lazy fit = message-added program c sent received p x (end_of (all_of p.log ++ cond d (TakeWhole m.from m.k (max p.vol.clock m.stamp + 1) m.handler m.args) (Take m.from m.k (max p.vol.clock m.stamp + 1)) ∷ [])) m d lazy content other there taken is (fit refl)

installed-taken : (program : Program) (c : ComId) (sent received : List Packet) (p : Pcom) (x : AtCall program c sent received p) (i : Identity) (b : Bool) → Outbox.is_held p.vol.outbox i ≡ b → Takes program c received p (cond b (record just_tail { adds = Released i.peer i.k ∷ []; word = Changed }) just_tail).adds
installed-taken program c sent received p x i true is = one-added program c sent received p x (Released i.peer i.k) is (_, refl)
installed-taken program c sent received p x i false is = none-added program c sent received p x

emits-taken : (program : Program) (c : ComId) (sent received : List Packet) (p : Pcom) (x : AtCall program c sent received p) (o : Option Output) → Shelf.next_due p.vol.shelf (forced_end p) ≡ o → Takes program c received p (on_emit o).adds
emits-taken program c sent received p x None is = none-added program c sent received p x
emits-taken program c sent received p x (Some o) is = one-added program c sent received p x (Shown o.m) (due-oldest program c sent received p x.up o is) (_, refl)

image-taken : (program : Program) (c : ComId) (sent received : List Packet) (p : Pcom) (x : AtCall program c sent received p) (b : Bool) → in_hand p ≡ b → Takes program c received p (cond b nothing_at_all (record just_tail { adds = Checkpoint (image_of p.vol) ∷ []; forces = true; covers = true })).adds
image-taken program c sent received p x true is = none-added program c sent received p x
image-taken program c sent received p x false is = one-added program c sent received p x (Checkpoint (image_of p.vol)) (is-free program c sent received p x is).0 (_, refl)

-- nothing fails
calm : (program : Program) (c : ComId) (sent received : List Packet) (p : Pcom) (x : AtCall program c sent received p) → (standing program c p.vol).failed ≡ None
calm program c sent received p x =
    (alike program c p.vol x.up.follows.state x.up.follows.mirrors).failed
    ∙ at-some (λ (h : Hist). (standing_of program c h).failed ≡ None) (state_after program c received (all_of p.log)) x.up.follows.state x.up.follows.is_state x.up.logs.ends_well

outcome-taken : (program : Program) (c : ComId) (sent received : List Packet) (p : Pcom) (x : AtCall program c sent received p) (from : ComId) (n place : ℕ) (session : Option Session) (decision : Decision) → decision_fits program decision ≡ true →
    (o : Option Decision) → Txn.outcome p.vol.txn (Outcome from c n place session decision) ≡ o → Fit program c p (on_outcome p.vol o) → Takes program c received p (on_outcome p.vol o).adds
outcome-taken program c sent received p x from n place session decision fits None is fit = none-added program c sent received p x
outcome-taken program c sent received p x from n place session decision fits (Some d) is fit = by d (subst (λ z. decision_fits program z ≡ true) y.1 fits) (subst (λ z. accepts p.vol.txn.stage place session z ≡ true) y.1 z.1) fit
  where
    y : ((is_on p.vol.txn.stage from && ((n == p.vol.txn.begun) && accepts p.vol.txn.stage place session decision)) ≡ true) × (decision ≡ d)
    y = chosen (is_on p.vol.txn.stage from && ((n == p.vol.txn.begun) && accepts p.vol.txn.stage place session decision)) decision d is

    z : ((n == p.vol.txn.begun) ≡ true) × (accepts p.vol.txn.stage place session decision ≡ true)
    z = and_parts (n == p.vol.txn.begun) (accepts p.vol.txn.stage place session decision) (and_parts (is_on p.vol.txn.stage from) ((n == p.vol.txn.begun) && accepts p.vol.txn.stage place session decision) y.0).1

    busy : (s : Txn.Stage) → same_place s place session ≡ true → is_idle s ≡ false
    busy Txn.Idle f = true-false f
    busy (Txn.Waiting t i r q) f = refl
    busy (Txn.Answered t i r q) f = refl
    busy (Txn.Committing t i r) f = refl

    open_and_calm : accepts p.vol.txn.stage place session (Aborted (Epochs 0 0)) ≡ true → (not (is_idle p.vol.txn.stage) && is_none (standing program c p.vol).failed) ≡ true
    open_and_calm f = both-true (not (is_idle p.vol.txn.stage)) (is_none (standing program c p.vol).failed) (ap not (busy p.vol.txn.stage f)) (ap is_none (calm program c sent received p x))

    by : (d : Decision) → decision_fits program d ≡ true → accepts p.vol.txn.stage place session d ≡ true → Fit program c p (on_outcome p.vol (Some d)) → Takes program c received p (on_outcome p.vol (Some d)).adds
    by (Committed stamp) a b f = outcome-added program c sent received p x (end_of (all_of p.log ++ Ended (max p.vol.clock stamp + 1) p.vol.txn.begun None ∷ [])) (max p.vol.clock stamp + 1) None (above-both p.vol.clock stamp) b (f refl)
    by (Aborted (Need line)) a b f = true-false a
    by (Aborted (HeldBy holder m)) a b f = outcome-added program c sent received p x (end_of (all_of p.log ++ Ended (p.vol.clock + 1) p.vol.txn.begun (Some (HeldBy holder m)) ∷ [])) (p.vol.clock + 1) (Some (HeldBy holder m)) (above p.vol.clock) (open_and_calm b) (f refl)
    by (Aborted (Epochs old present)) a b f = outcome-added program c sent received p x (end_of (all_of p.log ++ Ended (p.vol.clock + 1) p.vol.txn.begun (Some (Epochs old present)) ∷ [])) (p.vol.clock + 1) (Some (Epochs old present)) (above p.vol.clock) (open_and_calm b) (f refl)

-- an answer, and the outcome of a need that fails with it
reply-taken : (program : Program) (c : ComId) (sent received : List Packet) (p : Pcom) (x : AtCall program c sent received p) (from : ComId) (n place : ℕ) (session : Session) (value : ℤ) →
    (o : Option ℤ) → Txn.reply p.vol.txn (OpReply from c n place session value) ≡ o → Fit program c p (on_reply program c p.vol n place session o) → Takes program c received p (on_reply program c p.vol n place session o).adds
reply-taken program c sent received p x from n place session value None is fit = none-added program c sent received p x
reply-taken program c sent received p x from n place session value (Some answer) is fit = by (fails_with program c p.vol answer) refl fit
  where
    y : ((is_on p.vol.txn.stage from && ((n == p.vol.txn.begun) && is_awaited_at p.vol.txn.stage place session)) ≡ true) × (value ≡ answer)
    y = chosen (is_on p.vol.txn.stage from && ((n == p.vol.txn.begun) && is_awaited_at p.vol.txn.stage place session)) value answer is

    awaited : ((n == p.vol.txn.begun) && is_awaited_at p.vol.txn.stage place session) ≡ true
    awaited = (and_parts (is_on p.vol.txn.stage from) ((n == p.vol.txn.begun) && is_awaited_at p.vol.txn.stage place session) y.0).1

    h : Hist
    h = x.up.follows.state

    g : Hist
    g = answered program c x.up.follows.state session (x.up.follows.state.now ++ answer ∷ [])

    applied : apply program c (contents_in received) x.up.follows.state (Value n place session answer) ≡ Some (answered program c x.up.follows.state session (x.up.follows.state.now ++ answer ∷ []))
    applied = ap (λ b. cond b (recorded program c (contents_in received) x.up.follows.state (Value n place session answer)) None) (sym (fits_both program c p.vol x.up.follows.state (Value n place session answer) x.up.follows.mirrors) ∙ awaited)

    state : state_after program c received (all_of p.log ++ Value n place session answer ∷ []) ≡ Some (answered program c x.up.follows.state session (x.up.follows.state.now ++ answer ∷ []))
    state = after-push program c received (all_of p.log) (Value n place session answer) x.up.follows.state (answered program c x.up.follows.state session (x.up.follows.state.now ++ answer ∷ [])) x.up.follows.is_state applied

    waits : (s : Txn.Stage) → is_awaited_at s place session ≡ true → is_idle s ≡ false
    waits Txn.Idle f = true-false f
    waits (Txn.Waiting t i r q) f = refl
    waits (Txn.Answered t i r q) f = refl
    waits (Txn.Committing t i r) f = refl

    busy : is_idle (answered program c x.up.follows.state session (x.up.follows.state.now ++ answer ∷ [])).stage ≡ false
    busy =
        idle-staged x.up.follows.state.stage session (option_map (hand_plays program c x.up.follows.state.plain.vars (x.up.follows.state.now ++ answer ∷ [])) x.up.follows.state.plain.hand)
        ∙ ap is_idle (sym (ap (λ z. z.stage) x.up.follows.mirrors.txn)) ∙ waits p.vol.txn.stage (and_parts (n == p.vol.txn.begun) (is_awaited_at p.vol.txn.stage place session) awaited).1

    by : (o : Option ℕ) → fails_with program c p.vol answer ≡ o → Fit program c p (record just_tail { word = Changed; adds = Value n place session answer ∷ need_records p.vol o; aborted = need_abort p.vol o }) → Takes program c received p (Value n place session answer ∷ need_records p.vol o)
    by None fails f = ap is_some state
    by (Some line) fails f =
        let at = end_of (all_of p.log ++ Value n place session answer ∷ []) in
        let v = record_in program c (end_of (all_of p.log ++ Value n place session answer ∷ [])) None p.vol (Value n place session answer) in
        let m : Mirrors (record_in program c (end_of (all_of p.log ++ Value n place session answer ∷ [])) None p.vol (Value n place session answer)) (answered program c x.up.follows.state session (x.up.follows.state.now ++ answer ∷ [])) =
        records_mirror program c (end_of (all_of p.log ++ Value n place session answer ∷ [])) (contents_in received) None p.vol x.up.follows.state (answered program c x.up.follows.state session (x.up.follows.state.now ++ answer ∷ [])) (Value n place session answer) (no_part_ends program) (sits-of program c sent received p x) tt x.up.follows.mirrors applied in
        let number : p.vol.txn.begun ≡ x.up.follows.state.plain.begun = ap (λ z. z.begun) x.up.follows.mirrors.txn in
        let k = outcome-recorded program c received (all_of p.log ++ Value n place session answer ∷ []) (answered program c x.up.follows.state session (x.up.follows.state.now ++ answer ∷ [])) (end_of (all_of (append program c None p (Value n place session answer)).log ++ Ended (p.vol.clock + 1) p.vol.txn.begun (Some (Need line)) ∷ [])) v (p.vol.clock + 1) p.vol.txn.begun (Some (Need line)) x.good state m busy number (f refl) in
        ap is_some (ap (state_after program c received) (sym (append_assoc (all_of p.log) (Value n place session answer ∷ []) (Ended (p.vol.clock + 1) p.vol.txn.begun (Some (Need line)) ∷ [])))
        ∙ after-push program c received (all_of p.log ++ Value n place session answer ∷ []) (Ended (p.vol.clock + 1) p.vol.txn.begun (Some (Need line))) (answered program c x.up.follows.state session (x.up.follows.state.now ++ answer ∷ [])) k.0 state
        (ap (λ b. cond b (recorded program c (contents_in received) (answered program c x.up.follows.state session (x.up.follows.state.now ++ answer ∷ [])) (Ended (p.vol.clock + 1) p.vol.txn.begun (Some (Need line)))) None) fitting ∙ k.1))
      where
        fitting : fits program c (standing_of program c (answered program c x.up.follows.state session (x.up.follows.state.now ++ answer ∷ []))) (Ended (p.vol.clock + 1) p.vol.txn.begun (Some (Need line))) ≡ true
        fitting =
            both-true (nat_lt x.up.follows.state.clock (p.vol.clock + 1)) ((p.vol.txn.begun == x.up.follows.state.plain.begun) && (not (is_idle (answered program c x.up.follows.state session (x.up.follows.state.now ++ answer ∷ [])).stage) && is_number_of (standing_of program c (answered program c x.up.follows.state session (x.up.follows.state.now ++ answer ∷ []))).failed line))
            (ap (λ i. nat_lt i (p.vol.clock + 1)) (sym x.up.follows.mirrors.clock) ∙ above p.vol.clock)
            (both-true (p.vol.txn.begun == x.up.follows.state.plain.begun) (not (is_idle (answered program c x.up.follows.state session (x.up.follows.state.now ++ answer ∷ [])).stage) && is_number_of (standing_of program c (answered program c x.up.follows.state session (x.up.follows.state.now ++ answer ∷ []))).failed line)
            (ap (λ i. i == x.up.follows.state.plain.begun) (ap (λ z. z.begun) x.up.follows.mirrors.txn) ∙ self-number x.up.follows.state.plain.begun)
            (both-true (not (is_idle (answered program c x.up.follows.state session (x.up.follows.state.now ++ answer ∷ [])).stage)) (is_number_of (standing_of program c (answered program c x.up.follows.state session (x.up.follows.state.now ++ answer ∷ []))).failed line) (ap not busy)
            (ap (λ o. is_number_of o line) (fails-alike program c p.vol x.up.follows.state session answer x.up.follows.mirrors ∙ fails) ∙ self-number line)))

packet-taken : (program : Program) (c : ComId) (sent received : List Packet) (p : Pcom) (x : AtCall program c sent received p) (packet : Packet) → IsConsistent received → Contains received packet → fits_pcom program c packet ≡ true → Fit program c p (on_packet program c p packet) → Takes program c received p (on_packet program c p packet).adds
packet-taken program c sent received p x (Data m) same here fits fit =
    let a = and_parts (is_other_pcom program c m.from) (is_number m.k && (nat_le m.stamp GREATEST_NUMBER && has_handler program c m.handler m.args)) fits in
    let b = and_parts (is_number m.k) (nat_le m.stamp GREATEST_NUMBER && has_handler program c m.handler m.args) a.1 in
    data-taken program c sent received p x m (content-is received m same here) a.0 (and_parts (nat_le m.stamp GREATEST_NUMBER) (has_handler program c m.handler m.args) b.1).1 fit
packet-taken program c sent received p x (Stable from to k) same here fits fit = none-added program c sent received p x
packet-taken program c sent received p x (Installed from to k) same here fits fit = installed-taken program c sent received p x (record { peer = from; k = k }) (Outbox.is_held p.vol.outbox (record { peer = from; k = k })) refl
packet-taken program c sent received p x (Fetch from to k) same here fits fit = none-added program c sent received p x
packet-taken program c sent received p x (OpReply from to n place session value) same here fits fit = reply-taken program c sent received p x from n place session value (Txn.reply p.vol.txn (OpReply from to n place session value)) refl fit
packet-taken program c sent received p x (Outcome from to n place session decision) same here fits fit =
    outcome-taken program c sent received p x from n place session decision
    (and_parts (if_session_fits session) (decision_fits program decision) (and_parts (is_number n) (if_session_fits session && decision_fits program decision) (and_parts (is_a_tcom program from) (is_number n && (if_session_fits session && decision_fits program decision)) fits).1).1).1
    (Txn.outcome p.vol.txn (Outcome from to n place session decision)) refl fit
packet-taken program c sent received p x (Op from to n place session request) same here fits fit = none-added program c sent received p x
packet-taken program c sent received p x (Commit from to n place session stamp) same here fits fit = none-added program c sent received p x
packet-taken program c sent received p x (Drop from to n) same here fits fit = none-added program c sent received p x

call-taken : (program : Program) (c : ComId) (sent received : List Packet) (p : Pcom) (call : Call) (x : AtCall program c sent (received ++ got call) p) → IsGiven program c call → IsConsistent (received ++ got call) → Fit program c p (decide program c p call) → Takes program c (received ++ got call) p (decide program c p call).adds
call-taken program c sent received p (Gives handler args) x given same fit = gives-taken program c sent (received ++ []) p x handler args given (in_hand p) refl fit
call-taken program c sent received p Forces x given same fit = none-added program c sent (received ++ []) p x
call-taken program c sent received p Checkpoints x given same fit = image-taken program c sent (received ++ []) p x (in_hand p) refl
call-taken program c sent received p Resends x given same fit = none-added program c sent (received ++ []) p x
call-taken program c sent received p Emits x given same fit = emits-taken program c sent (received ++ []) p x (Shelf.next_due p.vol.shelf (forced_end p)) refl
call-taken program c sent received p (Gets packet) x given same fit = by (fits_pcom program c packet) refl fit
  where
    by : (b : Bool) → fits_pcom program c packet ≡ b → Fit program c p (cond b (on_packet program c p packet) nothing_at_all) → Takes program c (received ++ packet ∷ []) p (cond b (on_packet program c p packet) nothing_at_all).adds
    by true is f = packet-taken program c sent (received ++ packet ∷ []) p x packet same (Contains-push received packet) is f
    by false is f = none-added program c sent (received ++ packet ∷ []) p x

-- the limits say so of each choice
within-fit : (program : Program) (c : ComId) (size : ℕ) (p : Pcom) (call : Call) → is_full program c size p call ≡ false → is_replaying p ≡ false → Fit program c p (decide program c p call)
within-fit program c size p call full up some =
    by (is_replaying p) (is_empty (decide program c p call).adds) (has_no_room size (absorb_choice program c (decide program c p call) p).log.buffered) (Vol.numbers_fit (absorb_choice program c (decide program c p call) p).vol) up some full
  where
    by : (a b d e : Bool) → a ≡ false → b ≡ false → (not a && not b && (d || not e)) ≡ false → e ≡ true
    by true b d e f g k = true-false (sym f)
    by false true d e f g k = true-false (sym g)
    by false false true e f g k = true-false (sym k)
    by false false false true f g k = refl
    by false false false false f g k = true-false (sym k)

pub steps_replay : StepsReplay
steps_replay program c sent received p call good given within same up logs vol =
    call-taken program c sent received p call
    (record { good = good; up = up-receives program c sent received (got call) p same (up-of program c sent received p up logs vol) }) given same (within-fit program c within.0 p call within.1 up)
