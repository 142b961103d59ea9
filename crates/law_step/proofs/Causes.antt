-- Each abort that an event tells or puts out has its cause.
use Rattle.std.proofs.Common.{◌≡◌, refl, ◌∙◌, ap, sym, subst, ℕ, Bool, true, false, cond, List, [], ◌++◌, Option, Some, None, option_map, option_and_then, option_to_list, slice_get}
use Rattle.std.specs.Prelude.{Contains}
use Rattle.std.proofs.lemmas.List.{append-nil}
use Rattle.std.proofs.lemmas.Option.{same_Some}
use Rattle.ic_base.specs.declared.messages.ComId.{ComId}
use Rattle.ic_base.specs.declared.messages.Session.{Session}
use Rattle.ic_base.specs.declared.messages.AbortCause.{AbortCause}
use Rattle.ic_base.specs.declared.messages.AbortCause.TheVariants.{Need}
use Rattle.ic_base.specs.declared.messages.Decision.TheVariants.{Aborted}
use Rattle.ic_base.specs.declared.messages.Packet.{Packet}
use Rattle.ic_base.specs.declared.messages.Packet.TheVariants as packets
use Rattle.ic_base.specs.declared.events.Answer.{Answer}
use Rattle.ic_base.specs.declared.events.Answer.TheVariants as answers
use Rattle.ic_base.specs.declared.events.Event.{Event}
use Rattle.ic_base.specs.declared.events.Stop.{Stop}
use Rattle.ic_base.specs.declared.events.What.{What}
use Rattle.ic_base.specs.declared.events.What.TheVariants.{Input, Deliver, Lose, Packet as Numbered, Force, Checkpoint, Resend, Emit, Crash, Recover}
use Rattle.ic_base.specs.declared.scenario.Program.{Program}
use Rattle.ic_base.specs.declared.record.Record.{Record}
use Rattle.ic_base.specs.Programs.{is_a_tcom}
use Rattle.def_step.specs.Calls.{called, delivery_of, call_of}
use Rattle.def_step.specs.Packets.{receiver_of}
use Rattle.def_step.specs.Pcom.{Pcom, Call, Gives, Gets, Forces, Checkpoints, Resends, Emits, StepResult, needed_fetch, needed, fetch_packet, told, stands_at, nothing_at_all, pcom_step, recover_pcom}
use Rattle.def_step.specs.Replay.{Playing, recovered}
use Rattle.def_step.specs.Tcom.{Tcom, recover_tcom}
use Rattle.def_step.specs.World.{World, Node, Runs, Serves, Down, External, Done, DiskOutcome, After, node_at, packet_at, oldest_of, takes_off, behind, unchanged, just, done_as, does, does_or_stops, tcom_does, answer_of, answer_stopped, up_answer, device_calls, is_reached, cut_off, calls, crashes, comes_up, recovers, delivers, delivers_oldest, loses, loses_oldest, happens_as, load_calls}
use Rattle.def_facts.specs.Logs.{Logs}
use Rattle.def_facts.specs.World.{IsExplained, forced_logs}
use Rattle.law_replay.proofs.Lists.{none-some, empty, mapped}
use Rattle.law_sound.proofs.Explained.{cut-sound, forced-cut, invariant_gives_explained}
use Rattle.law_step.specs.Causes.{Refuses, Aborts, TellsCauses, EventsTellCauses}
use Rattle.law_step.proofs.Aborts.{NoneRefused, map-refused, pcom-tells}
use Rattle.law_step.proofs.Events.{nth-has}
use Rattle.law_step.proofs.Refusals.{tcom-caused}

-- in an explained world no Tcom has told of a failed need
never-need : (program : Program) (found : Logs) (here : ComId → ℕ) (w : World) → IsExplained program found here w → (from to : ComId) (m place : ℕ) (session : Option Session) (line : ℕ) → Contains w.packets (packets.Outcome from to m place session (Aborted (Need line))) → ⊥
never-need program found here w f from to m place session line h =
    let cut = forced-cut program found here w f.0 f.1 in
    let v = cut-sound program found here w f.0 f.1 (forced_logs w) cut in
    (invariant_gives_explained program found here w f).1.packets (packets.Outcome from to m place session (Aborted (Need line))) h (forced_logs w) v.0 cut v.1

-- what one component does -------------------------------------------------------------------------------------

abbrev pub calls_on : World → Event → ComId → Call → Type 0
calls_on w e c call = (packet : Packet) → call ≡ Gets packet → (call_of w e.what ≡ Some (called c (Gets packet))) × Contains w.packets packet

-- what is done tells and puts out no abort but with its cause
pub record NodeTells (program : Program) (w : World) (e : Event) (d : Done) : Type 0 where
  pub aborts : (n : ℕ) (cause : AbortCause) → d.aborted ≡ Some (n, cause) → Aborts program w e n cause
  pub refuses : (t c : ComId) (n place : ℕ) (session : Option Session) (cause : AbortCause) → Contains d.puts (packets.Outcome t c n place session (Aborted cause)) → Refuses program w e t c n place session cause

quiet-node : (program : Program) (w : World) (e : Event) (d : Done) → d.aborted ≡ None → NoneRefused d.puts → NodeTells program w e d
unfolding NoneRefused
quiet-node program w e d a puts = record {
  aborts = λ n cause is. absurd (cc (a, is));
  refuses = λ t c n place session cause h. absurd (cc (puts _ h));
}

nothing-refused : NoneRefused []
unfolding NoneRefused
nothing-refused u h = empty u h

pcom-node : (program : Program) (w : World) (e : Event) (c : ComId) (p : Pcom) (call : Call) (t : StepResult) (answer : Answer) → calls_on w e c call → ((from to : ComId) (m place : ℕ) (session : Option Session) (line : ℕ) → Contains w.packets (packets.Outcome from to m place session (Aborted (Need line))) → ⊥) → node_at w c ≡ Some (Runs p) → pcom_step program c p call ≡ Some t → NodeTells program w e (done_as answer t)
unfolding NoneRefused
pcom-node program w e c p call t answer on never is ran =
    let z = pcom-tells program c p call t (λ from to m place session line same. never from to m place session line (on _ same).1) ran in
    record {
      aborts = λ n cause k. let y = z.told n cause k in let o = on y.0 y.1 in record { who = c; pcom = p; runs = is; is_last = y.2; packet = y.0; came = o.1; call = o.0; why = y.3 };
      refuses = λ u d n place session cause h. absurd (cc (z.none _ h));
    }

tcom-node : (program : Program) (w : World) (e : Event) (c : ComId) (x : Tcom) (number : ℕ) (call : Call) → calls_on w e c call → node_at w c ≡ Some (Serves x) → NodeTells program w e (tcom_does program c x number call)
tcom-node program w e c x number (Gets p) on is = record {
  aborts = λ n cause k. absurd (cc k);
  refuses = λ t d n place session cause h.
      let z = tcom-caused program c x p (packets.Outcome t d n place session (Aborted cause)) h in
      let o = on p refl in
      record { tcom = x; serves = ap (node_at w) z.0 ∙ is; packet = p; came = o.1; call = o.0 ∙ ap (λ u. Some (called u (Gets p))) (sym z.0); why = z.1 };
}
tcom-node program w e c x number (Gives handler args) on is = quiet-node program w e _ refl nothing-refused
tcom-node program w e c x number Forces on is = quiet-node program w e _ refl nothing-refused
tcom-node program w e c x number Checkpoints on is = quiet-node program w e _ refl nothing-refused
tcom-node program w e c x number Resends on is = quiet-node program w e _ refl nothing-refused
tcom-node program w e c x number Emits on is = quiet-node program w e _ refl nothing-refused

does-tells : (program : Program) (w : World) (e : Event) (c : ComId) (node : Node) (number : ℕ) (call : Call) (d : Done) → calls_on w e c call → ((from to : ComId) (m place : ℕ) (session : Option Session) (line : ℕ) → Contains w.packets (packets.Outcome from to m place session (Aborted (Need line))) → ⊥) → node_at w c ≡ Some node → does program c node number call ≡ Some d → NodeTells program w e d
does-tells program w e c (Runs p) number call d on never is ran =
    let t = mapped (λ t. done_as (answer_of p number call t) t) (pcom_step program c p call) d ran in
    subst (NodeTells program w e) t.2 (pcom-node program w e c p call t.0 (answer_of p number call t.0) on never is t.1)
does-tells program w e c (Serves x) number call d on never is ran = subst (NodeTells program w e) (same_Some (tcom_does program c x number call) d ran) (tcom-node program w e c x number call on is)
does-tells program w e c (Down log) number call d on never is ran = subst (NodeTells program w e) (same_Some _ d ran) (quiet-node program w e _ refl nothing-refused)
does-tells program w e c External number call d on never is ran = subst (NodeTells program w e) (same_Some _ d ran) (quiet-node program w e _ refl nothing-refused)

cut-tells : (program : Program) (w : World) (e : Event) (stop : Option Stop) (x : DiskOutcome) (node : Node) (answer : Answer) (d later : Done) → NodeTells program w e d → cut_off stop x node answer d ≡ later → NodeTells program w e later
cut-tells program w e stop x node answer d later f same = at (is_reached stop (device_calls x.free node d.node)) same
  where
    at : (b : Bool) → cond b (just (Down x.left) answer) d ≡ later → NodeTells program w e later
    at true k = subst (NodeTells program w e) k (quiet-node program w e _ refl nothing-refused)
    at false k = subst (NodeTells program w e) k f

-- events ------------------------------------------------------------------------------------------------------

-- behind an event of c; w is the world before it, and u that one in which its packet waits no longer
led : (program : Program) (w u : World) (e : Event) (c : ComId) (d : Done) → u.packets ≡ w.packets → NodeTells program w e d → TellsCauses program w e (behind u e c d)
led program w u e c d same f = record { aborts = f.aborts; refuses = f.refuses; grows = ap (λ l. l ++ d.puts) same }

still : (program : Program) (w u : World) (e : Event) (answer : Answer) → u.packets ≡ w.packets → TellsCauses program w e (unchanged u e answer)
still program w u e answer same = record {
  aborts = λ n cause k. absurd (cc k);
  refuses = λ t c n place session cause h. absurd (empty _ h);
  grows = same ∙ sym (append-nil w.packets);
}

call-tells : (program : Program) (w u : World) (e : Event) (x : DiskOutcome) (c : ComId) (number : ℕ) (call : Call) (a : After) → calls_on w e c call → ((from to : ComId) (m place : ℕ) (session : Option Session) (line : ℕ) → Contains w.packets (packets.Outcome from to m place session (Aborted (Need line))) → ⊥) → u.packets ≡ w.packets → u.nodes ≡ w.nodes → calls program u e x c number call ≡ Some a → TellsCauses program w e a
call-tells program w u e x c number call a on never same nodes ran =
    let d = mapped (behind u e c) (option_and_then (λ node. does_or_stops program c node e.stop x number call) (node_at u c)) a ran in
    subst (TellsCauses program w e) d.2 (led program w u e c d.0 same (by (node_at u c) refl d.0 d.1))
  where
    by : (o : Option Node) → node_at u c ≡ o → (d : Done) → option_and_then (λ node. does_or_stops program c node e.stop x number call) o ≡ Some d → NodeTells program w e d
    by None is d g = none-some d g
    by (Some node) is d g =
        let z = mapped (cut_off e.stop x node (answer_stopped number x.is_open call)) (does program c node number call) d g in
        cut-tells program w e e.stop x node (answer_stopped number x.is_open call) z.0 d (does-tells program w e c node number call z.0 on never (ap (λ l. slice_get l c.0) (sym nodes) ∙ is) z.1) z.2

recovered-tells : (program : Program) (w : World) (e : Event) (c : ComId) (log : List Record) (t : StepResult) (answer : Answer) → recover_pcom program c log ≡ Some t → NodeTells program w e (done_as answer t)
recovered-tells program w e c log t answer k =
    let x = mapped (λ (x : Playing). told (stands_at (record { forced = log; buffered = [] }) x) (needed_fetch c x.rest) nothing_at_all) (recovered program c log) t k in
    subst (λ (z : StepResult). NodeTells program w e (done_as answer z)) x.2 (quiet-node program w e _ refl (map-refused (fetch_packet c) (option_to_list (needed x.0.rest)) (λ y. refl)))

up-quiet : (program : Program) (w : World) (e : Event) (c : ComId) (size : ℕ) (log : List Record) (d : Done) → comes_up program c size log ≡ Some d → NodeTells program w e d
up-quiet program w e c size log d k = at (is_a_tcom program c) k
  where
    at : (b : Bool) → cond b (option_map (λ x. just (Serves x) answers.Up) (recover_tcom program c size log)) (option_map (λ t. done_as (up_answer t.pcom) t) (recover_pcom program c log)) ≡ Some d → NodeTells program w e d
    at true g = let x = mapped (λ (x : Tcom). just (Serves x) answers.Up) (recover_tcom program c size log) d g in subst (NodeTells program w e) x.2 (quiet-node program w e _ refl nothing-refused)
    at false g = let t = mapped (λ (t : StepResult). done_as (up_answer t.pcom) t) (recover_pcom program c log) d g in subst (NodeTells program w e) t.2 (recovered-tells program w e c log t.0 (up_answer t.0.pcom) t.1)

recovery-tells : (program : Program) (w : World) (e : Event) (c : ComId) (stop : Option Stop) (x : DiskOutcome) (node : Node) (d : Done) → recovers program c stop x node ≡ Some d → NodeTells program w e d
recovery-tells program w e c stop x (Runs p) d k = subst (NodeTells program w e) (same_Some _ d k) (quiet-node program w e _ refl nothing-refused)
recovery-tells program w e c stop x (Serves t) d k = subst (NodeTells program w e) (same_Some _ d k) (quiet-node program w e _ refl nothing-refused)
recovery-tells program w e c stop x External d k = subst (NodeTells program w e) (same_Some _ d k) (quiet-node program w e _ refl nothing-refused)
recovery-tells program w e c stop x (Down log) d k = at (is_reached stop (load_calls program c)) k
  where
    at : (b : Bool) → cond b (Some (just (Down x.left) answers.Stopped)) (option_map (cut_off stop x (Down log) answers.Stopped) (comes_up program c x.size x.found)) ≡ Some d → NodeTells program w e d
    at true g = subst (NodeTells program w e) (same_Some _ d g) (quiet-node program w e _ refl nothing-refused)
    at false g = let z = mapped (cut_off stop x (Down log) answers.Stopped) (comes_up program c x.size x.found) d g in cut-tells program w e stop x (Down log) answers.Stopped z.0 d (up-quiet program w e c x.size x.found z.0 z.1) z.2

got-same : (p q : Packet) → Gets p ≡ Gets q → p ≡ q
got-same p q e = cc e

pub events_tell_causes : EventsTellCauses
events_tell_causes program found here w e x a f ran = by e.what refl ran
  where
    never : (from to : ComId) (m place : ℕ) (session : Option Session) (line : ℕ) → Contains w.packets (packets.Outcome from to m place session (Aborted (Need line))) → ⊥
    never = never-need program found here w f

    plain : (what : What) (c : ComId) (k : Call) → ((p : Packet) → k ≡ Gets p → ⊥) → calls program w e x c 0 k ≡ Some a → TellsCauses program w e a
    plain what c k other went = call-tells program w w e x c 0 k a (λ p same. absurd (other p same)) never refl refl went

    delivered : (i : ℕ) (o : Option Packet) → packet_at w i ≡ o → ((p : Packet) → o ≡ Some p → call_of w e.what ≡ Some (delivery_of p)) → delivers program w e x i o ≡ Some a → TellsCauses program w e a
    delivered i None there on went = subst (TellsCauses program w e) (same_Some (unchanged w e answers.Unknown) a went) (still program w w e answers.Unknown refl)
    delivered i (Some p) there on went =
        call-tells program w (takes_off w i) e x (receiver_of p) i (Gets p) a
        (λ q same. let is : p ≡ q = got-same p q same in (on p refl ∙ ap (λ z. Some (called (receiver_of p) (Gets z))) is, subst (Contains w.packets) is (nth-has w.packets i p there)))
        never refl refl went

    by : (what : What) → e.what ≡ what → happens_as program w e x what ≡ Some a → TellsCauses program w e a
    by (Input c handler args) is went = plain (Input c handler args) c (Gives handler args) (λ p k. cc k) went
    by (Force c) is went = plain (Force c) c Forces (λ p k. cc k) went
    by (Checkpoint c) is went = plain (Checkpoint c) c Checkpoints (λ p k. cc k) went
    by (Resend c) is went = plain (Resend c) c Resends (λ p k. cc k) went
    by (Emit c) is went = plain (Emit c) c Emits (λ p k. cc k) went
    by (Numbered i) is went = delivered i (packet_at w i) refl (λ p k. ap (call_of w) is ∙ ap (option_map delivery_of) k) went
    by (Deliver from to) is went = oldest (oldest_of w from to) refl went
      where
        oldest : (o : Option ℕ) → oldest_of w from to ≡ o → delivers_oldest program w e x o ≡ Some a → TellsCauses program w e a
        oldest None o k = subst (TellsCauses program w e) (same_Some (unchanged w e answers.Empty) a k) (still program w w e answers.Empty refl)
        oldest (Some i) o k = delivered i (packet_at w i) refl (λ p g. ap (call_of w) is ∙ ap (λ u. option_map delivery_of (option_and_then (packet_at w) u)) o ∙ ap (option_map delivery_of) g) k
    by (Lose from to) is went = subst (TellsCauses program w e) (same_Some (loses_oldest w e (oldest_of w from to)) a went) (lost (oldest_of w from to))
      where
        lost : (o : Option ℕ) → TellsCauses program w e (loses_oldest w e o)
        lost None = still program w w e answers.Empty refl
        lost (Some i) = gone (packet_at w i)
          where
            gone : (o : Option Packet) → TellsCauses program w e (loses w e i o)
            gone None = still program w w e answers.Empty refl
            gone (Some p) = still program w (takes_off w i) e _ refl
    by (Crash c) is went =
        let n = mapped (λ node. behind w e c (crashes node)) (node_at w c) a went in
        subst (TellsCauses program w e) n.2 (led program w w e c (crashes n.0) refl (crashed n.0))
      where
        crashed : (node : Node) → NodeTells program w e (crashes node)
        crashed (Runs p) = quiet-node program w e _ refl nothing-refused
        crashed (Serves t) = quiet-node program w e _ refl nothing-refused
        crashed (Down log) = quiet-node program w e _ refl nothing-refused
        crashed External = quiet-node program w e _ refl nothing-refused
    by (Recover c) is went =
        let d = mapped (behind w e c) (option_and_then (recovers program c e.stop x) (node_at w c)) a went in
        subst (TellsCauses program w e) d.2 (led program w w e c d.0 refl (up (node_at w c) d.0 d.1))
      where
        up : (o : Option Node) (d : Done) → option_and_then (recovers program c e.stop x) o ≡ Some d → NodeTells program w e d
        up None d k = none-some d k
        up (Some node) d k = recovery-tells program w e c e.stop x node d k
