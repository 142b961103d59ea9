-- What a Resend puts out, what a delivery takes off, and what comes up.
use Rattle.std.proofs.Common.{◌≡◌, refl, ◌∙◌, ap, sym, subst, ℕ, suc, ◌<◌, ◌≤◌, ◌==◌, Bool, true, false, cond, not, ◌&&◌, List, [], ◌∷◌, ◌++◌, length, map, filter, Option, Some, None, option_map, option_and_then, is_some, arith, inl}
use Rattle.ic_base.specs.declared.limits.TheConstants.{PACKETS}
use Rattle.std.specs.Prelude.{option_to_list, find}
use Rattle.std.specs.List.{list_any}
use Rattle.std.proofs.lemmas.Option.{same_Some}
use Rattle.ic_base.specs.declared.messages.ComId.{ComId}
use Rattle.ic_base.specs.declared.messages.Msg.{Msg}
use Rattle.ic_base.specs.declared.messages.Packet.{Packet}
use Rattle.ic_base.specs.declared.messages.Packet.TheVariants.{Data}
use Rattle.ic_base.specs.declared.events.Answer.TheVariants as answers
use Rattle.ic_base.specs.declared.events.What.TheVariants.{Resend, Recover}
use Rattle.ic_base.specs.declared.scenario.Program.{Program}
use Rattle.ic_base.specs.declared.record.Record.{Record}
use Rattle.ic_base.specs.declared.record.Record.TheVariants.{Take, TakeWhole, Value, Outcome, Released, Shown, Epoch, Decided, Checkpoint}
use Rattle.ic_base.specs.declared.record.Record.TheVariants.{Input as Inputs}
use Rattle.ic_base.specs.Programs.{is_a_tcom, same_com}
use Rattle.def_state.specs.Outbox
use Rattle.def_state.specs.Txn
use Rattle.def_state.specs.Txn.{Stage, Idle, Waiting, Answered, Committing, is_idle}
use Rattle.def_step.specs.Packets.{sender_of, receiver_of}
use Rattle.def_step.specs.Pcom.{Pcom, StepResult, Gets, Resends, forced_end, is_empty, is_replaying, in_hand, carry_out, pcom_step, nothing_at_all, needed_fetch, all_owed, last_drop, told, recover_pcom}
use Rattle.def_step.specs.Tcom.{recover_tcom}
use Rattle.def_step.specs.World.{World, Node, Runs, Serves, Down, External, DiskOutcome, Done, After, just, node_at, packet_at, oldest_of, goes, no_longer, takes_off, happens, does, does_or_stops, calls, delivers, delivers_oldest, done_as, answer_of, up_answer, cut_off, comes_up, recovers, behind, world_with}
use Rattle.def_step.specs.Settle.{is_down, first_stamp, first_number, delivery, oldest, left}
use Rattle.law_settle.specs.Measure.{BeginsWithTake, IsLower, without_stop}
use Rattle.law_settle.proofs.Common.{filter-le, append-none}
use Rattle.law_settle.proofs.Lower.{NodeLower, node_lowers, delivery_lowers}
use Rattle.law_settle.proofs.Running.{ran, live_step, replay_is}
use Rattle.law_settle.proofs.Lowering.{Lowered, pcom-lowers}
use Rattle.law_replay.proofs.Lists.{self-number, true-false, none-some, none-is, mapped}
use Rattle.law_replay.proofs.Members.{cons-nil}

-- resend ------------------------------------------------------------------------------------------

-- what waits at a Take asks for its message
asks-for : (c : ComId) (rest : List Record) (s : ℕ) → first_stamp rest ≡ Some s → needed_fetch c rest ≡ [] → ⊥
asks-for c [] s e none = none-some s e
asks-for c (Take from k stamp ∷ rs) s e none = cons-nil _ _ none
asks-for c (TakeWhole from k stamp handler args ∷ rs) s e none = none-some s e
asks-for c (Inputs stamp handler args ∷ rs) s e none = none-some s e
asks-for c (Value n place session value ∷ rs) s e none = none-some s e
asks-for c (Outcome stamp n abort ∷ rs) s e none = none-some s e
asks-for c (Released to k ∷ rs) s e none = none-some s e
asks-for c (Shown m ∷ rs) s e none = none-some s e
asks-for c (Checkpoint image ∷ rs) s e none = none-some s e
asks-for c (Epoch epoch ∷ rs) s e none = none-some s e
asks-for c (Decided stamp d n writes ∷ rs) s e none = none-some s e

replays-where : (rest : List Record) (s : ℕ) → first_stamp rest ≡ Some s → not (is_empty rest) ≡ true
replays-where [] s e = none-some s e
replays-where (r ∷ rs) s e = refl

-- what doesn't wait at a stamp doesn't replay
pub live_where : (rest : List Record) → BeginsWithTake rest → first_stamp rest ≡ None → not (is_empty rest) ≡ false
live_where [] takes e = refl
live_where (Take from k stamp ∷ rs) takes e = none-is stamp e
live_where (TakeWhole from k stamp handler args ∷ rs) takes e = true-false takes
live_where (Inputs stamp handler args ∷ rs) takes e = true-false takes
live_where (Value n place session value ∷ rs) takes e = true-false takes
live_where (Outcome stamp n abort ∷ rs) takes e = true-false takes
live_where (Released to k ∷ rs) takes e = true-false takes
live_where (Shown m ∷ rs) takes e = true-false takes
live_where (Checkpoint image ∷ rs) takes e = true-false takes
live_where (Epoch epoch ∷ rs) takes e = true-false takes
live_where (Decided stamp d n writes ∷ rs) takes e = true-false takes

pub replay_resend_lowers : (program : Program) (w : World) (x : DiskOutcome) (c : ComId) (p : Pcom) (s : ℕ) (a : After) → node_at w c ≡ Some (Runs p) → first_stamp p.rest ≡ Some s → happens program w (without_stop (Resend c)) x ≡ Some a → length a.world.packets ≤ PACKETS → Lowered w a
replay_resend_lowers program w x c p s a is waits e short =
    pcom-lowers program w (Resend c) x c 0 Resends p (told p (needed_fetch c p.rest) nothing_at_all) a is (replay_is program c p Resends (replays-where p.rest s waits)) e short
    (λ none. absurd (asks-for c p.rest s waits none))

-- a live one that owes something puts it out
owing-lowers : (program : Program) (w : World) (x : DiskOutcome) (c : ComId) (p : Pcom) (a : After) → node_at w c ≡ Some (Runs p) → is_replaying p ≡ false → (all_owed c p ≡ [] → ⊥) → happens program w (without_stop (Resend c)) x ≡ Some a → length a.world.packets ≤ PACKETS → Lowered w a
owing-lowers program w x c p a is live some e short =
    pcom-lowers program w (Resend c) x c 0 Resends p (carry_out program c p (record nothing_at_all { answers = all_owed c p })) a is
    (live_step program c p Resends (record nothing_at_all { answers = all_owed c p }) live refl) e short (λ none. absurd (some none))

-- an open transaction has something pending
is-pending : (c : ComId) (n clock : ℕ) (s : Stage) → is_idle s ≡ false → option_to_list (Txn.pending_at c n clock s) ≡ [] → ⊥
is-pending c n clock Idle e none = true-false (sym e)
is-pending c n clock (Waiting t place session request) e none = cons-nil _ _ none
is-pending c n clock (Answered t place session request) e none = cons-nil _ _ none
is-pending c n clock (Committing t place session) e none = cons-nil _ _ none

turned : (a b : Bool) → a ≡ not b → a ≡ true → b ≡ false
turned a true e h = true-false (sym e ∙ h)
turned a false e h = refl

pub hand_resend_lowers : (program : Program) (w : World) (x : DiskOutcome) (c : ComId) (p : Pcom) (a : After) → node_at w c ≡ Some (Runs p) → is_replaying p ≡ false → is_some p.vol.hand ≡ not (is_idle p.vol.txn.stage) → in_hand p ≡ true → happens program w (without_stop (Resend c)) x ≡ Some a → length a.world.packets ≤ PACKETS → Lowered w a
hand_resend_lowers program w x c p a is live matches some e short =
    owing-lowers program w x c p a is live
    (λ none. is-pending c p.vol.txn.begun p.vol.clock p.vol.txn.stage (turned (is_some p.vol.hand) (is_idle p.vol.txn.stage) matches some)
    (append-none (map Data (Outbox.unstable p.vol.outbox (forced_end p)) ++ last_drop c p) (option_to_list (Txn.pending c p.vol.txn p.vol.clock)) none).1) e short

mapped-none : (ms : List Msg) (test : Msg → Bool) → list_any test ms ≡ true → map Data ms ≡ [] → ⊥
mapped-none [] test some none = true-false some
mapped-none (m ∷ ms) test some none = cons-nil _ _ none

pub owed_resend_lowers : (program : Program) (w : World) (x : DiskOutcome) (c : ComId) (p : Pcom) (test : Msg → Bool) (a : After) → node_at w c ≡ Some (Runs p) → is_replaying p ≡ false → list_any test (Outbox.unstable p.vol.outbox (forced_end p)) ≡ true → happens program w (without_stop (Resend c)) x ≡ Some a → length a.world.packets ≤ PACKETS → Lowered w a
owed_resend_lowers program w x c p test a is live some e short =
    owing-lowers program w x c p a is live
    (λ none. mapped-none (Outbox.unstable p.vol.outbox (forced_end p)) test some
    (append-none (map Data (Outbox.unstable p.vol.outbox (forced_end p))) (last_drop c p)
    (append-none (map Data (Outbox.unstable p.vol.outbox (forced_end p)) ++ last_drop c p) (option_to_list (Txn.pending c p.vol.txn p.vol.clock)) none).0).0) e short

-- deliver -----------------------------------------------------------------------------------------

-- a packet that comes leaves a component as down as it was
same-down : (program : Program) (c : ComId) (n : Node) (i : ℕ) (packet : Packet) (d : Done) → does program c n i (Gets packet) ≡ Some d → is_down d.node ≡ is_down n
same-down program c (Runs p) i packet d e =
    let t = mapped (λ u. done_as (answer_of p i (Gets packet) u) u) (pcom_step program c p (Gets packet)) d e in ap (λ (z : Done). is_down z.node) (sym t.2)
same-down program c (Serves y) i packet d e = ap (λ (z : Done). is_down z.node) (sym (same_Some _ d e))
same-down program c (Down records) i packet d e = ap (λ (z : Done). is_down z.node) (sym (same_Some _ d e))
same-down program c External i packet d e = ap (λ (z : Done). is_down z.node) (sym (same_Some _ d e))

taken-off : (i : ℕ) (is : List ℕ) → length (no_longer i (i ∷ is)) < length (i ∷ is)
taken-off i is = subst (λ b. length (cond (not b) (i ∷ filter (λ j. not (i == j)) is) (filter (λ j. not (i == j)) is)) < suc (length is)) (sym (self-number i)) (filter-le (λ j. not (i == j)) is)

goes-itself : (p : Packet) → goes (sender_of p) (receiver_of p) (Some p) ≡ true
goes-itself p = ap (λ b. b && same_com (receiver_of p) (receiver_of p)) (self-number (sender_of p).0) ∙ self-number (receiver_of p).0

-- the oldest waiting packet is the oldest of its link
is-oldest : (w : World) (p : Packet) (i : ℕ) (is : List ℕ) → w.waiting ≡ i ∷ is → packet_at w i ≡ Some p → oldest_of w (sender_of p) (receiver_of p) ≡ Some i
is-oldest w p i is waits at =
    ap (find (λ j. goes (sender_of p) (receiver_of p) (packet_at w j))) waits
    ∙ ap (λ b. cond b (Some i) (find (λ j. goes (sender_of p) (receiver_of p) (packet_at w j)) is)) (ap (goes (sender_of p) (receiver_of p)) at ∙ goes-itself p)

delivered : (program : Program) (w : World) (x : DiskOutcome) (p : Packet) (i : ℕ) (a : After) → length (no_longer i w.waiting) < length w.waiting
    → calls program (takes_off w i) (without_stop (delivery p)) x (receiver_of p) i (Gets p) ≡ Some a → length a.world.packets ≤ PACKETS → Lowered w a
delivered program w x p i a fewer e short = at (node_at w (receiver_of p)) refl
  where
    at : (o : Option Node) → node_at w (receiver_of p) ≡ o → Lowered w a
    at None is = none-some a (sym (ap (λ o. option_map (behind (takes_off w i) (without_stop (delivery p)) (receiver_of p)) (option_and_then (λ node. does_or_stops program (receiver_of p) node None x i (Gets p)) o)) is) ∙ e)
    at (Some n) is =
        let r = ran program (takes_off w i) (delivery p) x (receiver_of p) i (Gets p) n a is e in
        subst (λ v. IsLower (left v) (left w)) r.2
        (delivery_lowers w i (receiver_of p) n r.0 is (subst (λ (v : World). length v.packets ≤ PACKETS) (sym r.2) short) fewer (same-down program (receiver_of p) n i p r.0 r.1))

pub delivery_event_lowers : (program : Program) (w : World) (x : DiskOutcome) (p : Packet) (a : After) → oldest w ≡ Some p → happens program w (without_stop (delivery p)) x ≡ Some a → length a.world.packets ≤ PACKETS → Lowered w a
delivery_event_lowers program w x p a is e short = at w.waiting refl
  where
    at : (is : List ℕ) → w.waiting ≡ is → Lowered w a
    at [] h = none-some p (sym (ap (λ l. option_and_then (packet_at w) (first_number l)) h) ∙ is)
    at (i ∷ js) h =
        let here : packet_at w i ≡ Some p = sym (ap (λ l. option_and_then (packet_at w) (first_number l)) h) ∙ is in
        delivered program w x p i a (subst (λ l. length (no_longer i l) < length l) (sym h) (taken-off i js))
        (sym (ap (delivers_oldest program w (without_stop (delivery p)) x) (is-oldest w p i js h here) ∙ ap (delivers program w (without_stop (delivery p)) x i) here) ∙ e) short

-- recover -----------------------------------------------------------------------------------------

comes-up : (program : Program) (c : ComId) (size : ℕ) (records : List Record) (d : Done) → comes_up program c size records ≡ Some d → is_down d.node ≡ false
comes-up program c size records d e = at (is_a_tcom program c) e
  where
    at : (b : Bool) → cond b (option_map (λ x. just (Serves x) answers.Up) (recover_tcom program c size records)) (option_map (λ t. done_as (up_answer t.pcom) t) (recover_pcom program c records)) ≡ Some d → is_down d.node ≡ false
    at true f = let t = mapped (λ x. just (Serves x) answers.Up) (recover_tcom program c size records) d f in ap (λ (z : Done). is_down z.node) (sym t.2)
    at false f = let t = mapped (λ (t : StepResult). done_as (up_answer t.pcom) t) (recover_pcom program c records) d f in ap (λ (z : Done). is_down z.node) (sym t.2)

up-lowers : (m : Node) (records : List Record) → is_down m ≡ false → NodeLower m (Down records)
up-lowers m records up = inl (omega (arith, ap {B = ℕ} (λ b. cond b 1 0) up))

pub recovery_lowers : (program : Program) (w : World) (x : DiskOutcome) (c : ComId) (records : List Record) (a : After) → node_at w c ≡ Some (Down records) → happens program w (without_stop (Recover c)) x ≡ Some a → length a.world.packets ≤ PACKETS → Lowered w a
recovery_lowers program w x c records a is e short =
    at (comes_up program c x.size x.found) refl (sym (ap (λ o. option_map (behind w (without_stop (Recover c)) c) (option_and_then (recovers program c None x) o)) is) ∙ e)
  where
    at : (o : Option Done) → comes_up program c x.size x.found ≡ o → option_map (behind w (without_stop (Recover c)) c) (option_map (cut_off None x (Down records) answers.Stopped) o) ≡ Some a → Lowered w a
    at None h f = none-some a f
    at (Some d) h f =
        let same : world_with w c d ≡ a.world = ap (λ (z : After). z.world) (same_Some (behind w (without_stop (Recover c)) c d) a f) in
        subst (λ v. IsLower (left v) (left w)) same
        (node_lowers w c (Down records) d is (subst (λ (v : World). length v.packets ≤ PACKETS) (sym same) short) (λ none. up-lowers d.node records (comes-up program c x.size x.found d h)))
