-- What the steps of an event keep of each component and of each packet, the event keeps of the world.
use Rattle.std.proofs.Common.{◌≡◌, refl, ◌∙◌, ap, sym, subst, ℕ, zero, suc, ◌==◌, Bool, true, false, cond, List, [], ◌∷◌, ◌++◌, slice_get, Option, Some, None, option_map, option_and_then}
use Rattle.std.specs.Prelude.{⊤, MatchOption, slice_set, is_some}
use Rattle.std.specs.List.{AllByRecursion}
use Rattle.std.proofs.lemmas.Option.{same_Some}
use Rattle.ic_base.specs.declared.messages.ComId.{ComId}
use Rattle.ic_base.specs.declared.messages.Packet.{Packet}
use Rattle.ic_base.specs.declared.events.Answer.{Answer}
use Rattle.ic_base.specs.declared.events.Answer.TheVariants as answers
use Rattle.ic_base.specs.declared.events.Event.{Event}
use Rattle.ic_base.specs.declared.events.Stop.{Stop}
use Rattle.ic_base.specs.declared.events.What.{What}
use Rattle.ic_base.specs.declared.events.What.TheVariants.{Input, Deliver, Lose, Packet as Numbered, Force, Checkpoint, Resend, Emit, Crash, Recover}
use Rattle.ic_base.specs.declared.scenario.Program.{Program}
use Rattle.ic_base.specs.declared.record.Record.{Record}
use Rattle.ic_base.specs.Programs.{same_com}
use Rattle.def_step.specs.Calls.{called, call_of, delivery_of}
use Rattle.def_step.specs.Packets.{sender_of, receiver_of}
use Rattle.def_step.specs.Settle.{asked_of}
use Rattle.def_step.specs.Pcom.{Call, Gives, Gets, Forces, Checkpoints, Resends, Emits}
use Rattle.def_step.specs.World.{World, Node, Runs, Serves, Down, External, DiskOutcome, Done, After, just, answer_stopped, node_at, does, does_or_stops, cut_off, is_reached, device_calls, crashes, comes_up, recovers, takes_off, goes, nth, packet_at, oldest_of, happens, happens_as, calls, delivers, delivers_oldest, loses, loses_oldest, behind, unchanged, world_with, load_calls}
use Rattle.def_run.specs.CoreSteps.{is_stopped}
use Rattle.law_replay.proofs.Members.{found}
use Rattle.law_replay.proofs.Lists.{equal-numbers, none-some, true-false, back, same-com, mapped, apart-numbers as different}
use Rattle.law_sound.proofs.Stepping.{set-other as set-there}

-- lists -------------------------------------------------------------------------------------------

pub all-append : {A : Type 0} (P : A → Type 0) (xs ys : List A) → AllByRecursion P xs → AllByRecursion P ys → AllByRecursion P (xs ++ ys)
all-append P [] ys x y = y
all-append P (z ∷ zs) ys x y = (x.0, all-append P zs ys x.1 y)

pub all-front : {A : Type 0} (P : A → Type 0) (xs ys : List A) → AllByRecursion P (xs ++ ys) → AllByRecursion P xs
all-front P [] ys h = tt
all-front P (x ∷ xs) ys h = (h.0, all-front P xs ys h.1)

pub all-behind : {A : Type 0} (P : A → Type 0) (xs ys : List A) → AllByRecursion P (xs ++ ys) → AllByRecursion P ys
all-behind P [] ys h = h
all-behind P (x ∷ xs) ys h = all-behind P xs ys h.1

pub all-at : {A : Type 0} (P : A → Type 0) (xs : List A) (i : ℕ) (x : A) → AllByRecursion P xs → slice_get xs i ≡ Some x → P x
all-at P [] i x h e = none-some x e
all-at P (y ∷ ys) zero x h e = subst P (same_Some y x e) h.0
all-at P (y ∷ ys) (suc i) x h e = all-at P ys i x h.1 e

-- one place set
pub set-here : {X : Type 0} (xs : List X) (i : ℕ) (x y : X) → slice_get (slice_set xs i x) i ≡ Some y → x ≡ y
set-here [] i x y e = none-some y e
set-here (z ∷ zs) zero x y e = same_Some x y e
set-here (z ∷ zs) (suc i) x y e = set-here zs i x y e

-- what is kept ------------------------------------------------------------------------------------

-- of each component, and of each packet that was put out
pub record Holds (P : ComId → Node → Type 0) (Q : Packet → Type 0) (w : World) : Type 0 where
  pub nodes : (c : ComId) (n : Node) → node_at w c ≡ Some n → P c n
  pub packets : AllByRecursion Q w.packets

-- of what a step makes
pub record Makes (P : ComId → Node → Type 0) (Q : Packet → Type 0) (c : ComId) (d : Done) : Type 0 where
  pub node : P c d.node
  pub puts : AllByRecursion Q d.puts

-- by the steps that an event may have: what its stop leaves, a crash, a call and a recovery
pub record StepsKeep (program : Program) (P : ComId → Node → Type 0) (Q : Packet → Type 0) (w : World) (e : Event) (x : DiskOutcome) (a : After) : Type 0 where
  pub left : (c : ComId) → is_some e.stop ≡ true → is_stopped a.trace.answer ≡ true → asked_of e.what a.trace.answer ≡ Some c → P c (Down x.left)
  pub crashed : (c : ComId) (n : Node) → P c n → Makes P Q c (crashes n)
  pub done : (c : ComId) (n : Node) (number : ℕ) (call : Call) (d : Done) → call_of w e.what ≡ Some (called c call) → node_at w c ≡ Some n → P c n → does program c n number call ≡ Some d → Makes P Q c d
  pub up : (c : ComId) (log : List Record) (d : Done) → e.what ≡ Recover c → node_at w c ≡ Some (Down log) → comes_up program c x.size x.found ≡ Some d → Makes P Q c d

-- the packet of a call was put out
abbrev CallHas : (Packet → Type 0) → Call → Type 0
CallHas Q (Gives handler args) = ⊤
CallHas Q (Gets packet) = Q packet
CallHas Q Forces = ⊤
CallHas Q Checkpoints = ⊤
CallHas Q Resends = ⊤
CallHas Q Emits = ⊤

nth-all : (Q : Packet → Type 0) (ps : List Packet) (i : ℕ) → AllByRecursion Q ps → MatchOption (option_map delivery_of (nth ps i)) ⊤ (λ x. CallHas Q x.call)
nth-all Q ps zero h = tt
nth-all Q ps (suc i) h = at (slice_get ps i) refl
  where
    at : (o : Option Packet) → slice_get ps i ≡ o → MatchOption (option_map delivery_of o) ⊤ (λ x. CallHas Q x.call)
    at None e = tt
    at (Some p) e = all-at Q ps i p h e

call-has : (Q : Packet → Type 0) (w : World) (what : What) → AllByRecursion Q w.packets → MatchOption (call_of w what) ⊤ (λ x. CallHas Q x.call)
call-has Q w (Input c handler args) h = tt
call-has Q w (Deliver from to) h = at (oldest_of w from to)
  where
    at : (o : Option ℕ) → MatchOption (option_map delivery_of (option_and_then (packet_at w) o)) ⊤ (λ x. CallHas Q x.call)
    at None = tt
    at (Some i) = nth-all Q w.packets i h
call-has Q w (Lose from to) h = tt
call-has Q w (Numbered i) h = nth-all Q w.packets i h
call-has Q w (Force c) h = tt
call-has Q w (Checkpoint c) h = tt
call-has Q w (Resend c) h = tt
call-has Q w (Emit c) h = tt
call-has Q w (Crash c) h = tt
call-has Q w (Recover c) h = tt

pub called_packet : (Q : Packet → Type 0) (w : World) (what : What) (c : ComId) (packet : Packet) → AllByRecursion Q w.packets → call_of w what ≡ Some (called c (Gets packet)) → Q packet
called_packet Q w what c packet h e = subst (λ o. MatchOption o ⊤ (λ x. CallHas Q x.call)) e (call-has Q w what h)

-- a step of c
set-holds : (P : ComId → Node → Type 0) (Q : Packet → Type 0) (w : World) (c : ComId) (d : Done) → Holds P Q w → Makes P Q c d → Holds P Q (world_with w c d)
set-holds P Q w c d h m = record { nodes = λ e n is. at e n is (c.0 == e.0) refl; packets = all-append Q w.packets d.puts h.packets m.puts }
  where
    at : (e : ComId) (n : Node) → node_at (world_with w c d) e ≡ Some n → (b : Bool) → (c.0 == e.0) ≡ b → P e n
    at e n is true same =
        let k : c.0 ≡ e.0 = equal-numbers c.0 e.0 same in
        subst (λ i. P (record { 0 = i }) n) k
        (subst (P c) (set-here w.nodes c.0 d.node n (subst (λ i. slice_get (slice_set w.nodes c.0 d.node) i ≡ Some n) (sym k) is)) m.node)
    at e n is false other = h.nodes e n (sym (set-there w.nodes c.0 e.0 d.node (different c.0 e.0 other)) ∙ is)

-- what is reached is there
stop-is : (stop : Option Stop) (calls : ℕ) → is_reached stop calls ≡ true → is_some stop ≡ true
stop-is None calls e = true-false e
stop-is (Some s) calls e = refl

-- what a stop cuts off
cut-makes : (P : ComId → Node → Type 0) (Q : Packet → Type 0) (c : ComId) (stop : Option Stop) (x : DiskOutcome) (node : Node) (answer : Answer) (d m : Done) → cut_off stop x node answer d ≡ m → (is_some stop ≡ true → m.answer ≡ answer → P c (Down x.left)) → Makes P Q c d → Makes P Q c m
cut-makes P Q c stop x node answer d m e left h = at (is_reached stop (device_calls x.free node d.node)) refl e
  where
    at : (b : Bool) → is_reached stop (device_calls x.free node d.node) ≡ b → cond b (just (Down x.left) answer) d ≡ m → Makes P Q c m
    at true is f = subst (Makes P Q c) f (record { node = left (stop-is stop (device_calls x.free node d.node) is) (ap (λ (z : Done). z.answer) (sym f)); puts = tt })
    at false is f = subst (Makes P Q c) f h

-- the answer of a step that was cut off says so
cut-stops : (number : ℕ) (is_open : Bool) (call : Call) → is_stopped (answer_stopped number is_open call) ≡ true
cut-stops number true (Gives handler args) = refl
cut-stops number false (Gives handler args) = refl
cut-stops number is_open (Gets packet) = refl
cut-stops number is_open Forces = refl
cut-stops number is_open Checkpoints = refl
cut-stops number is_open Resends = refl
cut-stops number is_open Emits = refl

module _ (program : Program) (P : ComId → Node → Type 0) (Q : Packet → Type 0) (w : World) (e : Event) (x : DiskOutcome) (a : After) (h : Holds P Q w) (k : StepsKeep program P Q w e x a) where
  after-step : (v : World) (c : ComId) (d : Done) → Holds P Q v → behind v e c d ≡ a → Makes P Q c d → Holds P Q a.world
  after-step v c d hv s m = subst (λ (z : After). Holds P Q z.world) s (set-holds P Q v c d hv m)

  same-holds : (b : After) → Some b ≡ Some a → Holds P Q b.world → Holds P Q a.world
  same-holds b s y = subst (λ (z : After). Holds P Q z.world) (same_Some b a s) y

  -- where the network alone differs
  calls-hold : (waits : List ℕ) (c : ComId) (number : ℕ) (call : Call) → call_of w e.what ≡ Some (called c call) → (a.trace.answer ≡ answer_stopped number x.is_open call → asked_of e.what a.trace.answer ≡ Some c) → calls program (record w { waiting = waits }) e x c number call ≡ Some a → Holds P Q a.world
  calls-hold waits c number call is owner ran = at (node_at w c) refl ran
    where
      v : World
      v = record w { waiting = waits }

      at : (o : Option Node) → node_at w c ≡ o → option_map (behind (record w { waiting = waits }) e c) (option_and_then (λ node. does_or_stops program c node e.stop x number call) o) ≡ Some a → Holds P Q a.world
      at None there f = none-some a f
      at (Some n) there f =
          let m = mapped (behind (record w { waiting = waits }) e c) (does_or_stops program c n e.stop x number call) a f in
          let d = mapped (cut_off e.stop x n (answer_stopped number x.is_open call)) (does program c n number call) m.0 m.1 in
          after-step (record w { waiting = waits }) c m.0 (record { nodes = h.nodes; packets = h.packets }) m.2
          (cut-makes P Q c e.stop x n (answer_stopped number x.is_open call) d.0 m.0 d.2
          (λ there s. k.left c there (ap (λ (z : After). is_stopped z.trace.answer) (sym m.2) ∙ ap is_stopped s ∙ cut-stops number x.is_open call) (owner (ap (λ (z : After). z.trace.answer) (sym m.2) ∙ s)))
          (k.done c n number call d.0 is there (h.nodes c n there) d.1))

  delivers-hold : (i : ℕ) (o : Option Packet) → (option_map delivery_of o ≡ call_of w e.what) → ((p : Packet) → o ≡ Some p → a.trace.answer ≡ answer_stopped i x.is_open (Gets p) → asked_of e.what a.trace.answer ≡ Some (receiver_of p)) → delivers program w e x i o ≡ Some a → Holds P Q a.world
  delivers-hold i None is owner ran = same-holds (unchanged w e answers.Unknown) ran h
  delivers-hold i (Some p) is owner ran = calls-hold (takes_off w i).waiting (receiver_of p) i (Gets p) (sym is) (owner p refl) ran

  oldest-holds : (from to : ComId) → e.what ≡ Deliver from to → (o : Option ℕ) → oldest_of w from to ≡ o → delivers_oldest program w e x o ≡ Some a → Holds P Q a.world
  oldest-holds from to is None there ran = same-holds (unchanged w e answers.Empty) ran h
  oldest-holds from to is (Some i) there ran =
      delivers-hold i (packet_at w i) (ap (λ o. option_map delivery_of (option_and_then (packet_at w) o)) (sym there) ∙ sym (ap (call_of w) is))
      (λ p f t. ap (λ z. asked_of z a.trace.answer) is ∙ ap (λ d. Some d) (to-is p f)) ran
    where
      to-is : (p : Packet) → packet_at w i ≡ Some p → to ≡ receiver_of p
      to-is p f = same-com to (receiver_of p) (back (same_com from (sender_of p)) (same_com to (receiver_of p)) (subst (λ u. goes from to u ≡ true) f (found (λ j. goes from to (packet_at w j)) w.waiting i there).1))

  loses-holds : (i : ℕ) (o : Option Packet) → Holds P Q (loses w e i o).world
  loses-holds i None = h
  loses-holds i (Some p) = record { nodes = h.nodes; packets = h.packets }

  loses-oldest-holds : (o : Option ℕ) → Holds P Q (loses_oldest w e o).world
  loses-oldest-holds None = h
  loses-oldest-holds (Some i) = loses-holds i (packet_at w i)

  -- a recovery
  stopped-holds : (c : ComId) (m : Done) → e.what ≡ Recover c → is_some e.stop ≡ true → behind w e c m ≡ a → m ≡ just (Down x.left) answers.Stopped → Makes P Q c m
  stopped-holds c m is some s f = subst (Makes P Q c) (sym f) (record { node = k.left c some (ap (λ (z : After). is_stopped z.trace.answer) (sym s) ∙ ap (λ (z : Done). is_stopped z.answer) f) (ap (λ y. asked_of y a.trace.answer) is); puts = tt })

  recovers-holds : (c : ComId) (n : Node) (m : Done) → e.what ≡ Recover c → node_at w c ≡ Some n → behind w e c m ≡ a → recovers program c e.stop x n ≡ Some m → Makes P Q c m
  recovers-holds c (Down records) m is there s ran = at (is_reached e.stop (load_calls program c)) refl ran
    where
      at : (b : Bool) → is_reached e.stop (load_calls program c) ≡ b → cond b (Some (just (Down x.left) answers.Stopped)) (option_map (cut_off e.stop x (Down records) answers.Stopped) (comes_up program c x.size x.found)) ≡ Some m → Makes P Q c m
      at true on f = stopped-holds c m is (stop-is e.stop (load_calls program c) on) s (sym (same_Some (just (Down x.left) answers.Stopped) m f))
      at false on f =
          let d = mapped (cut_off e.stop x (Down records) answers.Stopped) (comes_up program c x.size x.found) m f in
          cut-makes P Q c e.stop x (Down records) answers.Stopped d.0 m d.2 (λ some z. k.left c some (ap (λ (y : After). is_stopped y.trace.answer) (sym s) ∙ ap is_stopped z) (ap (λ y. asked_of y a.trace.answer) is)) (k.up c records d.0 is there d.1)
  recovers-holds c (Runs p) m is there s ran = subst (Makes P Q c) (same_Some (just (Runs p) answers.Already) m ran) (record { node = h.nodes c (Runs p) there; puts = tt })
  recovers-holds c (Serves t) m is there s ran = subst (Makes P Q c) (same_Some (just (Serves t) answers.Already) m ran) (record { node = h.nodes c (Serves t) there; puts = tt })
  recovers-holds c External m is there s ran = subst (Makes P Q c) (same_Some (just External answers.Already) m ran) (record { node = h.nodes c External there; puts = tt })

  recover-holds : (c : ComId) → e.what ≡ Recover c → option_map (behind w e c) (option_and_then (recovers program c e.stop x) (node_at w c)) ≡ Some a → Holds P Q a.world
  recover-holds c is ran = at (node_at w c) refl ran
    where
      at : (o : Option Node) → node_at w c ≡ o → option_map (behind w e c) (option_and_then (recovers program c e.stop x) o) ≡ Some a → Holds P Q a.world
      at None there f = none-some a f
      at (Some n) there f = let m = mapped (behind w e c) (recovers program c e.stop x n) a f in after-step w c m.0 h m.2 (recovers-holds c n m.0 is there m.2 m.1)

  crash-holds : (c : ComId) → option_map (λ node. behind w e c (crashes node)) (node_at w c) ≡ Some a → Holds P Q a.world
  crash-holds c ran =
      let m = mapped (λ node. behind w e c (crashes node)) (node_at w c) a ran in
      after-step w c (crashes m.0) h m.2 (k.crashed c m.0 (h.nodes c m.0 m.1))

  event-holds : (what : What) → e.what ≡ what → happens_as program w e x what ≡ Some a → Holds P Q a.world
  event-holds (Input c handler args) is ran = calls-hold w.waiting c 0 (Gives handler args) (ap (call_of w) is) (λ t. ap (λ y. asked_of y a.trace.answer) is) ran
  event-holds (Deliver from to) is ran = oldest-holds from to is (oldest_of w from to) refl ran
  event-holds (Lose from to) is ran = same-holds (loses_oldest w e (oldest_of w from to)) ran (loses-oldest-holds (oldest_of w from to))
  event-holds (Numbered i) is ran = delivers-hold i (packet_at w i) (sym (ap (call_of w) is)) (λ p f t. ap (λ y. asked_of y a.trace.answer) is ∙ ap (asked_of (Numbered i)) t) ran
  event-holds (Force c) is ran = calls-hold w.waiting c 0 Forces (ap (call_of w) is) (λ t. ap (λ y. asked_of y a.trace.answer) is) ran
  event-holds (Checkpoint c) is ran = calls-hold w.waiting c 0 Checkpoints (ap (call_of w) is) (λ t. ap (λ y. asked_of y a.trace.answer) is) ran
  event-holds (Resend c) is ran = calls-hold w.waiting c 0 Resends (ap (call_of w) is) (λ t. ap (λ y. asked_of y a.trace.answer) is) ran
  event-holds (Emit c) is ran = calls-hold w.waiting c 0 Emits (ap (call_of w) is) (λ t. ap (λ y. asked_of y a.trace.answer) is) ran
  event-holds (Crash c) is ran = crash-holds c ran
  event-holds (Recover c) is ran = recover-holds c is ran

pub event_holds : (program : Program) (P : ComId → Node → Type 0) (Q : Packet → Type 0) (w : World) (e : Event) (x : DiskOutcome) (a : After) → Holds P Q w → StepsKeep program P Q w e x a → happens program w e x ≡ Some a → Holds P Q a.world
event_holds program P Q w e x a h k ran = event-holds program P Q w e x a h k e.what refl ran
