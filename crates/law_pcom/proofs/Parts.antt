-- The parts of a step: a record buffered, all forced, and packets put out.
use Rattle.std.proofs.Common.{◌≡◌, refl, ◌∙◌, ap, sym, subst, ℕ, ◌+◌, ◌<◌, Bool, true, false, cond, not, ◌&&◌, ◌||◌, ◌==◌, nat_lt, ◌⊎◌, inl, inr, ⊎_elim, List, [], ◌∷◌, ◌++◌, map, Option, Some, None, option_map, option_and_then, option_to_list, is_some, is_none, arith}
use Rattle.std.specs.Prelude.{Contains, IsSomeAnd, IsSome, MatchOption, ⊤}
use Rattle.std.specs.List.{list_any}
use Rattle.std.proofs.lemmas.List.{append-nil, append_assoc}
use Rattle.std.proofs.lemmas.List.Elements.{Contains-append_cases}
use Rattle.std.proofs.lemmas.Option.{none-some, same_Some}
use Rattle.ic_base.specs.declared.messages.ComId.{ComId}
use Rattle.ic_base.specs.declared.messages.Msg.{Msg}
use Rattle.ic_base.specs.declared.messages.Level.{Level}
use Rattle.ic_base.specs.declared.messages.Level.TheVariants.{Nothing, Taken, Stable as Stands, Installed as Kept}
use Rattle.ic_base.specs.declared.messages.Packet.{Packet}
use Rattle.ic_base.specs.declared.messages.Packet.TheVariants.{Data, Op, Commit}
use Rattle.ic_base.specs.declared.messages.Done.{Done}
use Rattle.ic_base.specs.declared.messages.Done.TheVariants as dones
use Rattle.ic_base.specs.declared.played.Played.{Played}
use Rattle.ic_base.specs.declared.played.Played.TheVariants.{Asks, Ready, NeedFails, Ends}
use Rattle.ic_base.specs.declared.scenario.Program.{Program}
use Rattle.ic_base.specs.declared.record.Record.{Record}
use Rattle.def_plain.specs.declared.world.PlainPcom.{PlainPcom}
use Rattle.def_plain.specs.declared.world.InHand.{InHand}
use Rattle.def_plain.specs.Cell.{Touch, TakesMessage, TakesInput, SeesAbort, SeesCommit, cell_step, come_to, plays_on, transaction_ends, hand_played, new_in_hand, has_taken, takes}
use Rattle.def_play.specs.Playing.{handler_of}
use Rattle.def_state.specs.Names.{Identity}
use Rattle.def_state.specs.Inbox
use Rattle.def_state.specs.Inbox.{Ack}
use Rattle.def_state.specs.Outbox
use Rattle.def_state.specs.Txn
use Rattle.def_state.specs.Txn.{Stage, Idle, Waiting, Answered, Committing, is_idle, is_committing, tcom_of}
use Rattle.def_state.specs.Fits.{failed_line}
use Rattle.def_state.specs.Hist.{Hist, apply, apply_all, first_hist, hand_plays, is_at_request, opened, standing_of}
use Rattle.def_state.specs.Vol.{Vol}
use Rattle.def_state.specs.Mirrors.{Mirrors}
use Rattle.def_step.specs.Pcom.{Pcom, Effects, all_of, force_log, append, after_tail, tail_packets, ack_packet, ack_at, drop_packet, owes_drop, forced_end, put_out, told, came_to_first, came_further}
use Rattle.def_facts.specs.Logs.{contents_in, has_outcome, is_input, commits}
use Rattle.def_facts.specs.Pcom.{state_after, begun_in, IsTrueOf, EndsWell, IsNeedOutcome, PrefixFacts, PcomLogFacts}
use Rattle.law_replay.proofs.Prefixes.{prefix-self}
use Rattle.law_replay.proofs.Growing.{applied_twice}
use Rattle.law_replay.proofs.Narrowing.{pcoms_narrow}
use Rattle.law_replay.proofs.Receiving.{pcoms_put}
use Rattle.law_replay.proofs.Committing.{hands_are_open, outcomes_close}
use Rattle.law_replay.proofs.Lists.{head-or-tail, true-false, empty, provided-is}
use Rattle.law_replay.proofs.Lists.{in-head, in-tail, equal-numbers}
use Rattle.law_pcom.specs.Mirroring.{IsContentOf, NoPartEnds}
use Rattle.law_pcom.specs.Keeping.{Follows, Marks}
use Rattle.law_pcom.specs.Recording.{IsFounded, FollowsNeed}
use Rattle.law_pcom.specs.Tailing.{TxnForced, PendingIsTrue}
use Rattle.law_pcom.specs.Upkeep.{UpFacts, HalfFacts}
use Rattle.law_pcom.specs.Stepping.{StepKept}
use Rattle.law_pcom.proofs.Lists.{false-true}
use Rattle.law_pcom.proofs.Following.{behind, follows-append, marks-forced}
use Rattle.law_pcom.proofs.Living.{open_begun}
use Rattle.law_replay.proofs.Applying.{Touches}
use Rattle.law_pcom.proofs.Recording.{records_keep_prefix_facts}
use Rattle.law_pcom.proofs.Tailing.{tail-true, ack_part, due_part, drop_part, ask_part}
use Rattle.law_pcom.proofs.Upkeep.{up-tail, of-up}
use Rattle.law_replay.proofs.Members.{map-has}

-- a record buffered ---------------------------------------------------------------------------------

pub all-append : (program : Program) (c : ComId) (content : Option Msg) (q : Pcom) (r : Record) → all_of (append program c content q r).log ≡ all_of q.log ++ r ∷ []
all-append program c content q r = sym (append_assoc q.log.forced q.log.buffered (r ∷ []))

abbrev pub half-of : (program : Program) (c : ComId) (sent received : List Packet) (q : Pcom) → UpFacts program c sent received q → HalfFacts program c sent received q
half-of program c sent received q f = record { rest = f.rest; consistent = f.logs.consistent; whole = f.logs.whole; lasting = f.logs.lasting; follows = f.follows }

pub half-append : (program : Program) (c : ComId) (sent received : List Packet) (content : Option Msg) (q : Pcom) (r : Record) (f : HalfFacts program c sent received q) (g : Hist) →
    NoPartEnds program → IsContentOf (contents_in received) r content → apply program c (contents_in received) f.follows.state r ≡ Some g → IsFounded program c (all_of q.log) sent received f.follows.state r → FollowsNeed program c (all_of q.log) f.follows.state r →
    HalfFacts program c sent received (append program c content q r)
half-append program c sent received content q r f g no_end is e founded need = record {
  rest = f.rest;
  consistent = f.consistent;
  whole = subst (λ l. PrefixFacts program c l sent received) (sym (all-append program c content q r)) (records_keep_prefix_facts program c (all_of q.log) sent received f.follows.state g r f.whole f.follows.is_state e founded need);
  lasting = f.lasting;
  follows = subst (Follows program c received (append program c content q r).vol) (sym (all-append program c content q r)) (follows-append program c received content q.vol (all_of q.log) r f.follows g no_end is e);
}

-- all forced ----------------------------------------------------------------------------------------

pub open-there : (program : Program) (c : ComId) (received : List Packet) (v : Vol) (log : List Record) (h : Hist) → state_after program c received log ≡ Some h → Mirrors v h → is_idle v.txn.stage ≡ false → IsSome (begun_in program c received log v.txn.begun)
open-there program c received v log h e m is = at (tcom_of h.stage) refl (ap is_idle (sym stage) ∙ is)
  where
    stage : v.txn.stage ≡ h.stage
    stage = ap (λ x. x.stage) m.txn

    no_tcom : (s : Stage) → tcom_of s ≡ None → is_idle s ≡ true
    no_tcom Idle f = refl
    no_tcom (Waiting t p s q) f = absurd (cc)
    no_tcom (Answered t p s q) f = absurd (cc)
    no_tcom (Committing t p s) f = absurd (cc)

    at : (o : Option ComId) → tcom_of h.stage ≡ o → is_idle h.stage ≡ false → IsSome (begun_in program c received log v.txn.begun)
    at None f busy = false-true (is_idle h.stage) busy (no_tcom h.stage f)
    at (Some t) f busy =
        let b = open_begun program c (contents_in received) log h t e f in
        ap is_some (ap (option_and_then (λ x. opened x v.txn.begun)) e ∙ ap (opened h) (ap (λ x. x.begun) m.txn) ∙ b.1)

pub txn-forced : (program : Program) (c : ComId) (received : List Packet) (v : Vol) (all : List Record) → Follows program c received v all → TxnForced program c received v all
txn-forced program c received v all f = record {
  open_begun = open-there program c received v all f.state f.is_state f.mirrors;
  committing_forced = λ is. subst (λ o. IsSomeAnd o (λ h. h.stage ≡ v.txn.stage)) (sym f.is_state) (sym (ap (λ x. x.stage) f.mirrors.txn));
}

pub all-forced : (q : Pcom) → all_of (force_log q.log) ≡ all_of q.log
all-forced q = append-nil (all_of q.log)

pub half-forced : (program : Program) (c : ComId) (sent received : List Packet) (q : Pcom) → HalfFacts program c sent received q → EndsWell program c received (all_of q.log) → UpFacts program c sent received (record q { log = force_log q.log })
half-forced program c sent received q f well = record {
  rest = f.rest;
  logs = subst (λ l. PcomLogFacts program c (all_of q.log) l sent received) (sym (all-forced q))
      (pcoms_narrow program c q.log.forced (all_of q.log) (all_of q.log) (all_of q.log) sent received (q.log.buffered, refl) (prefix-self (all_of q.log)) (prefix-self (all_of q.log)) well well
      (record { consistent = f.consistent; whole = f.whole; lasting = f.lasting; ends_well = well }));
  follows = subst (Follows program c received q.vol) (sym (all-forced q)) f.follows;
  marks = marks-forced program c received q.vol (all_of q.log) f.follows;
  txn = let x = txn-forced program c received q.vol (all_of q.log) f.follows in record { open_begun = x.open_begun; committing_forced = x.committing_forced };
  inputs = refl;
}

-- nothing forced
pub half-buffered : (program : Program) (c : ComId) (sent received : List Packet) (q : Pcom) → HalfFacts program c sent received q → EndsWell program c received (all_of q.log) → Marks program c received q.vol q.log.forced → TxnForced program c received q.vol q.log.forced → list_any is_input q.log.buffered ≡ false → UpFacts program c sent received q
half-buffered program c sent received q f well marks txn inputs = record {
  rest = f.rest;
  logs = record { consistent = f.consistent; whole = f.whole; lasting = f.lasting; ends_well = well };
  follows = f.follows;
  marks = marks;
  txn = txn;
  inputs = inputs;
}

-- put out -------------------------------------------------------------------------------------------

-- the packet may be put out: it is true, and asks to commit only what has no outcome
pub record MayPut (program : Program) (c : ComId) (received : List Packet) (q : Pcom) (x : Packet) : Type 0 where
  pub is_true : IsTrueOf program c q.log.forced received x
  pub fresh : (n : ℕ) → commits n x ≡ true → has_outcome (all_of q.log) n ≡ false

pub up-put : (program : Program) (c : ComId) (sent received : List Packet) (q : Pcom) (ps : List Packet) → ((x : Packet) → Contains ps x → MayPut program c received q x) → UpFacts program c sent received q → UpFacts program c (sent ++ ps) received q
up-put program c sent received q [] may f = subst (λ l. UpFacts program c l received q) (sym (append-nil sent)) f
up-put program c sent received q (p ∷ ps) may f =
    subst (λ l. UpFacts program c l received q) (append_assoc sent (p ∷ []) ps) (up-put program c (sent ++ p ∷ []) received q ps (λ x h. may x (in-tail p x ps h)) (one (may p (in-head p ps))))
  where
    one : MayPut program c received q p → UpFacts program c (sent ++ p ∷ []) received q
    one m = record {
      rest = f.rest;
      logs = pcoms_put program c q.log.forced (all_of q.log) sent received p m.is_true m.fresh f.logs;
      follows = f.follows;
      marks = f.marks;
      txn = f.txn;
      inputs = f.inputs;
    }

-- a committing transaction has no outcome
pub pending-fresh : (program : Program) (c : ComId) (sent received : List Packet) (q : Pcom) (x : Packet) → UpFacts program c sent received q → Txn.pending c q.vol.txn q.vol.clock ≡ Some x → (n : ℕ) → commits n x ≡ true → has_outcome (all_of q.log) n ≡ false
pending-fresh program c sent received q x f is n e = at q.vol.txn.stage refl is
  where
    stage : q.vol.txn.stage ≡ f.follows.state.stage
    stage = ap (λ y. y.stage) f.follows.mirrors.txn

    closed : (b : Bool) → has_outcome (all_of q.log) n ≡ b → is_idle q.vol.txn.stage ≡ false → n ≡ q.vol.txn.begun → has_outcome (all_of q.log) n ≡ false
    closed false has busy same = has
    closed true has busy same = ⊎_elim
        (λ lt. absurd (later lt (same ∙ ap (λ y. y.begun) f.follows.mirrors.txn)))
        (λ z. false-true (is_idle f.follows.state.stage) (ap is_idle (sym stage) ∙ busy) z.1)
        (outcomes_close program c (contents_in received) (all_of q.log) n (first_hist program c) f.follows.state f.follows.is_state has)
      where
        later : n < f.follows.state.plain.begun → n ≡ f.follows.state.plain.begun → ⊥
        later lt eq = omega (arith, lt, eq)

    by : (s : Stage) → is_idle s ≡ false → q.vol.txn.stage ≡ s → (p : Packet) → p ≡ x → (commits n p ≡ true → n ≡ q.vol.txn.begun) → has_outcome (all_of q.log) n ≡ false
    by s busy is_stage p same number = closed (has_outcome (all_of q.log) n) refl (ap is_idle is_stage ∙ busy) (number (ap (commits n) same ∙ e))

    at : (s : Stage) → q.vol.txn.stage ≡ s → Txn.pending_at c q.vol.txn.begun q.vol.clock s ≡ Some x → has_outcome (all_of q.log) n ≡ false
    at Idle is_stage y = absurd (none-some x y)
    at (Waiting t place session request) is_stage y = by (Waiting t place session request) refl is_stage (Op c t q.vol.txn.begun place session request) (same_Some _ x y) (λ z. true-false z)
    at (Answered t place session request) is_stage y = by (Answered t place session request) refl is_stage (Op c t q.vol.txn.begun place (Some session) request) (same_Some _ x y) (λ z. true-false z)
    at (Committing t place session) is_stage y = by (Committing t place session) refl is_stage (Commit c t q.vol.txn.begun place session q.vol.clock) (same_Some _ x y) (λ z. equal-numbers n q.vol.txn.begun z)

pub tail-fresh : (program : Program) (c : ComId) (sent received : List Packet) (came : Bool) (q : Pcom) (x : Packet) → UpFacts program c sent received q → Contains (tail_packets c came q) x → (n : ℕ) → commits n x ≡ true → has_outcome (all_of q.log) n ≡ false
tail-fresh program c sent received came q x f h n e = by (Contains-append_cases ((ack_part c q ++ due_part q) ++ drop_part c q) (ask_part c came q) x h)
  where
    never : (p : Packet) → p ≡ x → commits n p ≡ false → has_outcome (all_of q.log) n ≡ false
    never p same no_commit = false-true (commits n p) no_commit (ap (commits n) same ∙ e)

    ack : (i : Identity) (l : Level) → commits n (ack_at c i l) ≡ false
    ack i Nothing = refl
    ack i Taken = refl
    ack i Stands = refl
    ack i Kept = refl

    by_drop : (b : Bool) → Contains (cond b (map (drop_packet c) (option_to_list q.vol.txn.last)) []) x → has_outcome (all_of q.log) n ≡ false
    by_drop true k = let y = map-has (drop_packet c) (option_to_list q.vol.txn.last) x k in never (drop_packet c y.0) y.2 refl
    by_drop false k = empty x k

    by_ask : (b : Bool) → Contains (cond b (option_to_list (Txn.pending c q.vol.txn q.vol.clock)) []) x → has_outcome (all_of q.log) n ≡ false
    by_ask false k = empty x k
    by_ask true k = asked (Txn.pending c q.vol.txn q.vol.clock) refl k
      where
        asked : (o : Option Packet) → Txn.pending c q.vol.txn q.vol.clock ≡ o → Contains (option_to_list o) x → has_outcome (all_of q.log) n ≡ false
        asked None is z = empty x z
        asked (Some p) is z = ⊎_elim (λ same. pending-fresh program c sent received q x f (is ∙ ap (λ y. Some y) same) n e) (λ w. empty x w) (head-or-tail p x [] z)

    front : Contains (ack_part c q) x ⊎ Contains (due_part q) x → has_outcome (all_of q.log) n ≡ false
    front (inl k) = let y = map-has (ack_packet c) (Inbox.acks q.vol.inbox (forced_end q)) x k in never (ack_packet c y.0) y.2 (ack y.0.name y.0.level)
    front (inr k) = let y = map-has Data (Outbox.due_messages q.vol.outbox (forced_end q)) x k in never (Data y.0) y.2 refl

    middle : Contains (ack_part c q ++ due_part q) x ⊎ Contains (drop_part c q) x → has_outcome (all_of q.log) n ≡ false
    middle (inl k) = front (Contains-append_cases (ack_part c q) (due_part q) x k)
    middle (inr k) = by_drop (owes_drop q) k

    by : Contains ((ack_part c q ++ due_part q) ++ drop_part c q) x ⊎ Contains (ask_part c came q) x → has_outcome (all_of q.log) n ≡ false
    by (inl k) = middle (Contains-append_cases (ack_part c q ++ due_part q) (drop_part c q) x k)
    by (inr k) = by_ask came k

-- a step that isn't quiet puts out its answers and the tail
pub put-kept : (program : Program) (c : ComId) (sent received : List Packet) (before : Vol) (d : Effects) (q : Pcom) → d.is_quiet ≡ false → UpFacts program c sent received q → PendingIsTrue program c received q.vol q.log.forced → ((x : Packet) → Contains d.answers x → MayPut program c received q x) →
    StepKept program c sent received (put_out c before d q)
put-kept program c sent received before d q loud f pending may = at d.is_quiet loud
  where
    came : Bool
    came = came_to_first before q.vol || came_further before q.vol

    all : (x : Packet) → Contains (d.answers ++ tail_packets c came q) x → MayPut program c received q x
    all x h = ⊎_elim (may x) (λ k. record { is_true = tail-true program c received came q (all_of q.log) f.follows (behind program c received q.log.forced q.log.buffered f.follows.state f.follows.is_state) f.marks (λ y. pending) x k; fresh = tail-fresh program c sent received came q x f k })
        (Contains-append_cases d.answers (tail_packets c came q) x h)

    done : UpFacts program c (sent ++ (d.answers ++ tail_packets c came q)) received (after_tail q)
    done = up-tail program c (sent ++ (d.answers ++ tail_packets c came q)) received q (up-put program c sent received q (d.answers ++ tail_packets c came q) all f)

    at : (b : Bool) → b ≡ false → StepKept program c sent received (cond b (told q d.answers d) (told (after_tail q) (d.answers ++ tail_packets c (came_to_first before q.vol || came_further before q.vol) q) d))
    at true e = true-false (sym e)
    at false e = (done.logs, of-up program c (sent ++ (d.answers ++ tail_packets c came q)) received (after_tail q) done)

-- a quiet one its answers alone
pub quiet-kept : (program : Program) (c : ComId) (sent received : List Packet) (q : Pcom) (d : Effects) (answers : List Packet) → UpFacts program c sent received q → ((x : Packet) → Contains answers x → MayPut program c received q x) → StepKept program c sent received (told q answers d)
quiet-kept program c sent received q d answers f may =
    let done = up-put program c sent received q answers may f in
    (done.logs, of-up program c (sent ++ answers) received q done)

-- what is forced where, and what ends well --------------------------------------------------------

pub one-applied : (program : Program) (c : ComId) (received : List Packet) (all : List Record) (h : Hist) (r : Record) → state_after program c received all ≡ Some h → IsSome (state_after program c received (all ++ r ∷ [])) → (g : Hist) × (apply program c (contents_in received) h r ≡ Some g)
one-applied program c received all h r e some = at (apply program c (contents_in received) h r) refl
  where
    is : state_after program c received (all ++ r ∷ []) ≡ apply program c (contents_in received) h r
    is = applied_twice program c (contents_in received) (Some (first_hist program c)) all (r ∷ []) ∙ ap (λ o. apply_all program c (contents_in received) o (r ∷ [])) e

    at : (o : Option Hist) → apply program c (contents_in received) h r ≡ o → (g : Hist) × (apply program c (contents_in received) h r ≡ Some g)
    at None f = true-false (sym (ap is_some (is ∙ f)) ∙ some)
    at (Some g) f = (g, f)

-- a log that ends well has no failed need to record
pub well-needs : (program : Program) (c : ComId) (received : List Packet) (all : List Record) (h : Hist) (r : Record) → state_after program c received all ≡ Some h → EndsWell program c received all → FollowsNeed program c all h r
well-needs program c received all h r e well pre n place session value is =
    subst (λ o. MatchOption o ⊤ (λ line. IsNeedOutcome n line r)) (sym (subst (λ o. IsSomeAnd o (λ x. (standing_of program c x).failed ≡ None)) e well)) tt

-- behind a touch nothing fails
asks-well : (program : Program) (c : ComId) (g : Hist) → g.now ≡ [] → is_at_request (option_map (hand_plays program c g.plain.vars []) g.plain.hand) ≡ true → (standing_of program c g).failed ≡ None
asks-well program c g now asks = ap (λ xs. option_and_then (λ hand. failed_line (hand_plays program c g.plain.vars xs hand)) g.plain.hand) now ∙ at g.plain.hand asks
  where
    no_line : (r : Played) → is_at_request (Some r) ≡ true → failed_line r ≡ None
    no_line (Asks t q) e = refl
    no_line (Ready t) e = refl
    no_line (NeedFails t line) e = true-false e
    no_line (Ends vars sends outs) e = refl

    at : (o : Option InHand) → is_at_request (option_map (hand_plays program c g.plain.vars []) o) ≡ true → option_and_then (λ hand. failed_line (hand_plays program c g.plain.vars [] hand)) o ≡ None
    at None e = refl
    at (Some hand) e = no_line (hand_plays program c g.plain.vars [] hand) e

pub touch-well : (program : Program) (c : ComId) (received : List Packet) (all : List Record) (h g : Hist) (r : Record) → state_after program c received all ≡ Some g → Touches program c (contents_in received) h g r → EndsWell program c received all
touch-well program c received all h g r e t = subst (λ o. IsSomeAnd o (λ x. (standing_of program c x).failed ≡ None)) (sym e) (asks-well program c g t.now t.asks)

-- a touch begins a transaction, or nothing is in hand
comes : (p : PlainPcom) (r : Played) → ((come_to p r).begun ≡ p.begun + 1) ⊎ ((come_to p r).hand ≡ None)
comes p (Ends vars sends outs) = inr refl
comes p (Asks t q) = inl refl
comes p (Ready t) = inl refl
comes p (NeedFails t line) = inl refl

plays : (program : Program) (c : ComId) (p q : PlainPcom) (hand : InHand) → plays_on program c p hand ≡ q → (q.begun ≡ p.begun + 1) ⊎ (q.hand ≡ None)
plays program c p q hand e = subst (λ x. (x.begun ≡ p.begun + 1) ⊎ (x.hand ≡ None)) e (comes (record p { hand = Some hand }) (hand_played program c p hand []))

ends : (program : Program) (c : ComId) (p q : PlainPcom) (n : ℕ) (d : Done) (o : Option InHand) → transaction_ends program c p n d o ≡ Some q → (q.begun ≡ p.begun + 1) ⊎ (q.hand ≡ None)
ends program c p q n d None e = absurd (none-some q e)
ends program c p q n d (Some hand) e = plays program c p q (record hand { done = hand.done ++ d ∷ [] }) (provided-is (p.begun == n) _ q e)

cell-begins : (program : Program) (c : ComId) (p q : PlainPcom) (t : Touch) → cell_step program c p t ≡ Some q → (q.begun ≡ p.begun + 1) ⊎ (q.hand ≡ None)
cell-begins program c p q (TakesMessage s k h args) e = plays program c (record p { receipts = p.receipts ++ (s, k) ∷ [] }) q (new_in_hand h args) (provided-is (is_none p.hand && not (has_taken p s k)) _ q e)
cell-begins program c p q (TakesInput h args) e = plays program c p q (new_in_hand h args) (provided-is (is_none p.hand && takes (handler_of program c h) args) _ q e)
cell-begins program c p q (SeesAbort n) e = ends program c p q n dones.Aborted p.hand e
cell-begins program c p q (SeesCommit n answers) e = ends program c p q n (dones.Committed answers) p.hand e

-- where it must not force, a touch leaves no transaction open
pub touch-idle : (program : Program) (c : ComId) (received : List Packet) (all : List Record) (h g : Hist) (r : Record) (v w : Vol) → Touches program c (contents_in received) h g r → state_after program c received all ≡ Some g → Mirrors v h → Mirrors w g → came_to_first v w ≡ false → is_idle w.txn.stage ≡ true
touch-idle program c received all h g r v w t e m n free = ⊎_elim rose emptied (cell-begins program c h.plain g.plain t.touch t.step)
  where
    rises : (a b : ℕ) → b ≡ a + 1 → nat_lt a b ≡ true
    rises a b f = grind arith

    rose : g.plain.begun ≡ h.plain.begun + 1 → is_idle w.txn.stage ≡ true
    rose more = false-true (came_to_first v w) free (rises v.txn.begun w.txn.begun (ap (λ x. x.begun) n.txn ∙ more ∙ ap (λ x. x + 1) (sym (ap (λ x. x.begun) m.txn))))

    emptied : g.plain.hand ≡ None → is_idle w.txn.stage ≡ true
    emptied none = ap (λ x. is_idle x.stage) n.txn ∙ sym (hands_are_open program c (contents_in received) all g e) ∙ ap is_none none

pub idle-txn : (program : Program) (c : ComId) (received : List Packet) (v : Vol) (forced : List Record) → is_idle v.txn.stage ≡ true → TxnForced program c received v forced
idle-txn program c received v forced idle = record {
  open_begun = λ is. false-true (is_idle v.txn.stage) is idle;
  committing_forced = λ is. committing v.txn.stage idle is;
}
  where
    committing : (s : Stage) → is_idle s ≡ true → is_committing s ≡ true → IsSomeAnd (state_after program c received forced) (λ h. h.stage ≡ v.txn.stage)
    committing Idle a b = true-false b
    committing (Waiting t p s q) a b = true-false a
    committing (Answered t p s q) a b = true-false a
    committing (Committing t p s) a b = true-false a
