-- What a berth's rule gives, as the readers of its component tell.
use Rattle.std.proofs.Common.{◌≡◌, refl, sym, ap, ◌∙◌, ℕ, suc, ◌==◌, ◌%◌, Bool, true, false, not, cond, ◌&&◌, List, [], ◌∷◌, ◌++◌, map, length, arith, Option, Some, None, option_map, option_to_list}
use Rattle.std.specs.Prelude.{is_some, nat_lt, nat_le}
use Rattle.std.proofs.lemmas.Bool.Decides.{nat_tests}
use Rattle.std.proofs.lemmas.Option.{same_Some}
use Rattle.ic_base.specs.declared.messages.ComId.{ComId}
use Rattle.ic_base.specs.declared.messages.Output.{Output}
use Rattle.ic_base.specs.declared.messages.Packet.{Packet}
use Rattle.ic_base.specs.declared.messages.Packet.TheVariants.{Data}
use Rattle.ic_base.specs.declared.record.Record.{Record}
use Rattle.ic_base.specs.declared.events.Answer.TheVariants as answers
use Rattle.ic_base.specs.declared.events.What.{What}
use Rattle.ic_base.specs.declared.events.What.TheVariants.{Force, Checkpoint, Resend, Emit}
use Rattle.ic_base.specs.declared.scenario.Program.{Program}
use Rattle.def_state.specs.Outbox as Outbox
use Rattle.def_state.specs.Shelf as Shelf
use Rattle.def_state.specs.Txn as Txn
use Rattle.def_state.specs.Txn.{Stage, Idle, Waiting, Answered, Committing}
use Rattle.def_run.specs.Executions.{first_of}
use Rattle.def_step.specs.Pcom.{Pcom, Call, Forces, Emits, Resends, StepResult, pcom_step, replay_step, carry_out, decide, on_emit, is_replaying, is_empty, forced_end, all_owed, last_drop, drop_packet, needed, needed_fetch, fetch_packet}
use Rattle.def_step.specs.World.{Node, Runs, Serves, Down, External, Done, no_packets, done_as, answer_of, does}
use Rattle.law_tail.specs.Wholes.{with_earlier}
use Rattle.ic_node.proofs.Earlier.{done_over, does_over}
use Rattle.def_step.specs.Settle.{PolicyIntervals, reaches, replays, buffered, has_in_hand, since_checkpoint, has_due}
use Rattle.def_live.specs.Turns.{policy_of, would_do, if_does, tells_something, unasked, RESEND_EVERY}

-- no count reaches none
reaches-none : (every : ℕ) → reaches every 0 ≡ false
reaches-none every = grind (arith, nat_tests)

pub policy_at : (x : PolicyIntervals) (c : ComId) (node : Node) → policy_of x c node ≡ cond (replays node) None (cond (reaches x.force_every (buffered node)) (Some (Force c)) (cond (not (has_in_hand node) && reaches x.checkpoint_every (since_checkpoint node)) (Some (Checkpoint c)) None))
policy_at x c (Runs p) = refl
policy_at x c (Serves t) = rw (reaches-none x.force_every, reaches-none x.checkpoint_every) refl
policy_at x c (Down records) = rw (reaches-none x.force_every, reaches-none x.checkpoint_every) refl
policy_at x c External = rw (reaches-none x.force_every, reaches-none x.checkpoint_every) refl

-- what a step would do -----------------------------------------------------------------------------------------

pub emits-do : (program : Program) (c : ComId) (node : Node) → would_do program c node Emits ≡ has_due node
emits-do program c (Runs p) = by (is_replaying p)
  where
    shows : (o : Option Output) → tells_something (cond (is_some (carry_out program c p (on_emit o)).shown) answers.Ended answers.Idle) ≡ is_some o
    shows None = refl
    shows (Some o) = refl

    by : (r : Bool) → elim (option_map (λ t. done_as (cond r answers.Replaying (cond (is_some t.shown) answers.Ended answers.Idle)) t) (cond r (replay_step program c p Emits) (Some (carry_out program c p (decide program c p Emits))))) [ None ↦ false | Some d ↦ tells_something d.answer ] ≡ (not r && is_some (Shelf.next_due p.vol.shelf (forced_end p)))
    by true = refl
    by false = shows (Shelf.next_due p.vol.shelf (forced_end p))
emits-do program c (Serves t) = refl
emits-do program c (Down records) = refl
emits-do program c External = refl

forced-or_not : (xs : List Record) → tells_something (cond (is_empty xs) answers.Idle answers.Ended) ≡ nat_lt 0 (length xs)
forced-or_not [] = grind (arith, nat_tests)
forced-or_not (x ∷ xs) = some (length xs)
  where
    some : (n : ℕ) → true ≡ nat_lt 0 (suc n)
    some n = grind (arith, nat_tests)

none-buffered : false ≡ nat_lt 0 0
none-buffered = grind (arith, nat_tests)

pub forces-do : (program : Program) (c : ComId) (node : Node) → would_do program c node Forces ≡ nat_lt 0 (buffered node)
forces-do program c (Runs p) = by (is_replaying p) ∙ forced-or_not p.log.buffered
  where
    by : (r : Bool) → elim (option_map (λ t. done_as (cond (is_empty p.log.buffered) answers.Idle answers.Ended) t) (cond r (replay_step program c p Forces) (Some (carry_out program c p (decide program c p Forces))))) [ None ↦ false | Some d ↦ tells_something d.answer ] ≡ tells_something (cond (is_empty p.log.buffered) answers.Idle answers.Ended)
    by true = refl
    by false = refl
forces-do program c (Serves t) = none-buffered
forces-do program c (Down records) = none-buffered
forces-do program c External = none-buffered

-- whether something is put out again doesn't hang on who puts it out
none-both : (xs ys : List Packet) → no_packets (xs ++ ys) ≡ (no_packets xs && no_packets ys)
none-both [] ys = refl
none-both (x ∷ xs) ys = refl

none-mapped : {A : Type 0} (f g : A → Packet) (xs : List A) → no_packets (map f xs) ≡ no_packets (map g xs)
none-mapped f g [] = refl
none-mapped f g (x ∷ xs) = refl

pending-any : (c e : ComId) (n clock : ℕ) (stage : Stage) → no_packets (option_to_list (Txn.pending_at c n clock stage)) ≡ no_packets (option_to_list (Txn.pending_at e n clock stage))
pending-any c e n clock Idle = refl
pending-any c e n clock (Waiting t place session request) = refl
pending-any c e n clock (Answered t place session request) = refl
pending-any c e n clock (Committing t place session) = refl

drop-any : (c e : ComId) (p : Pcom) → no_packets (last_drop c p) ≡ no_packets (last_drop e p)
drop-any c e p = by (nat_le p.vol.ended_at (forced_end p))
  where
    by : (b : Bool) → no_packets (cond b (map (drop_packet c) (option_to_list p.vol.txn.last)) []) ≡ no_packets (cond b (map (drop_packet e) (option_to_list p.vol.txn.last)) [])
    by true = none-mapped (drop_packet c) (drop_packet e) (option_to_list p.vol.txn.last)
    by false = refl

owed-any : (c e : ComId) (p : Pcom) → no_packets (all_owed c p) ≡ no_packets (all_owed e p)
owed-any c e p =
    none-both (held ++ last_drop c p) (pending c)
    ∙ ap (λ b. b && no_packets (pending c)) (none-both held (last_drop c p) ∙ ap (λ b. no_packets held && b) (drop-any c e p) ∙ sym (none-both held (last_drop e p)))
    ∙ ap (λ b. no_packets (held ++ last_drop e p) && b) (pending-any c e p.vol.txn.begun p.vol.clock p.vol.txn.stage)
    ∙ sym (none-both (held ++ last_drop e p) (pending e))
  where
    held : List Packet
    held = map Data (Outbox.unstable p.vol.outbox (forced_end p))

    pending : ComId → List Packet
    pending d = option_to_list (Txn.pending d p.vol.txn p.vol.clock)

idle-not : (b : Bool) → tells_something (cond b answers.Idle answers.Ended) ≡ not b
idle-not true = refl
idle-not false = refl

pub resends-do : (program : Program) (c e : ComId) (p : Pcom) (t : StepResult) → pcom_step program e p Resends ≡ Some t → would_do program c (Runs p) Resends ≡ not (no_packets t.puts)
resends-do program c e p t is = by (is_replaying p) is
  where
    by : (r : Bool) → cond r (replay_step program e p Resends) (Some (carry_out program e p (decide program e p Resends))) ≡ Some t
        → elim (option_map (λ s. done_as (cond (no_packets s.puts) answers.Idle answers.Ended) s) (cond r (replay_step program c p Resends) (Some (carry_out program c p (decide program c p Resends))))) [ None ↦ false | Some d ↦ tells_something d.answer ] ≡ not (no_packets t.puts)
    by true k = idle-not (no_packets (needed_fetch c p.rest)) ∙ ap not (none-mapped (fetch_packet c) (fetch_packet e) (option_to_list (needed p.rest)) ∙ ap (λ (s : StepResult). no_packets s.puts) (same_Some _ t k))
    by false k = idle-not (no_packets (all_owed c p)) ∙ ap not (owed-any c e p ∙ ap (λ (s : StepResult). no_packets s.puts) (same_Some _ t k))

-- the first that does something -----------------------------------------------------------------------------

pub quick-first : (program : Program) (c : ComId) (node : Node) → cond (has_due node) (Some (Emit c)) (cond (nat_lt 0 (buffered node)) (Some (Force c)) None) ≡ first_of (if_does program c node Emits (Emit c)) (if_does program c node Forces (Force c))
quick-first program c node = ap (λ b. cond b (Some (Emit c)) (cond (nat_lt 0 (buffered node)) (Some (Force c)) None)) (sym (emits-do program c node)) ∙ ap (λ b. cond (would_do program c node Emits) (Some (Emit c)) (cond b (Some (Force c)) None)) (sym (forces-do program c node)) ∙ by (would_do program c node Emits)
  where
    rest : Option What
    rest = if_does program c node Forces (Force c)

    by : (b : Bool) → cond b (Some (Emit c)) (cond (would_do program c node Forces) (Some (Force c)) None) ≡ first_of (cond b (Some (Emit c)) None) (cond (would_do program c node Forces) (Some (Force c)) None)
    by true = refl
    by false = refl

pub unasked-first : (program : Program) (c : ComId) (node : Node) (number : ℕ) (quick : Option What) (resends : Bool) → resends ≡ ((number % RESEND_EVERY == 0) && would_do program c node Resends) → quick ≡ first_of (if_does program c node Emits (Emit c)) (if_does program c node Forces (Force c))
    → cond resends (Some (Resend c)) quick ≡ unasked program c node number
unasked-first program c node number quick resends is rest = ap (λ b. cond b (Some (Resend c)) quick) is ∙ by (number % RESEND_EVERY == 0) (would_do program c node Resends) ∙ ap (first_of (cond (number % RESEND_EVERY == 0) (if_does program c node Resends (Resend c)) None)) rest
  where
    by : (a b : Bool) → cond (a && b) (Some (Resend c)) quick ≡ first_of (cond a (cond b (Some (Resend c)) None) None) quick
    by true true = refl
    by true false = refl
    by false b = refl

-- how many things are put out again
none-counted : (xs : List Packet) → no_packets xs ≡ (length xs == 0)
none-counted [] = grind (arith, nat_tests)
none-counted (x ∷ xs) = some (length xs)
  where
    some : (n : ℕ) → false ≡ (suc n == 0)
    some n = grind (arith, nat_tests)

pub resends-counted : (program : Program) (c e : ComId) (p : Pcom) (t : StepResult) (puts : List Packet) (n : ℕ) → pcom_step program e p Resends ≡ Some t → puts ≡ t.puts → n ≡ length puts → not (n == 0) ≡ would_do program c (Runs p) Resends
resends-counted program c e p t puts n is told count = ap (λ k. not (k == 0)) (count ∙ ap (λ xs. length xs) told) ∙ ap not (sym (none-counted t.puts)) ∙ sym (resends-do program c e p t is)

-- the records before its own change nothing of what a Pcom would do
pub would-over : (program : Program) (c : ComId) (earlier : List Record) (p : Pcom) (call : Call) → would_do program c (Runs (with_earlier earlier p)) call ≡ would_do program c (Runs p) call
would-over program c earlier p call = ap told (does_over program c earlier p 0 call) ∙ by (pcom_step program c p call)
  where
    told : Option Done → Bool
    told o = elim o [ None ↦ false | Some d ↦ tells_something d.answer ]

    by : (o : Option StepResult) → told (option_map (done_over earlier 0 p call) o) ≡ told (option_map (λ t. done_as (answer_of p 0 call t) t) o)
    by None = refl
    by (Some t) = refl

-- at the turns that ask for a Resend
pub resends-at : (program : Program) (c : ComId) (node : Node) (p : Pcom) (number : ℕ) (does : Bool) → number % RESEND_EVERY ≡ 0 → node ≡ Runs p → does ≡ would_do program c (Runs p) Resends → does ≡ ((number % RESEND_EVERY == 0) && would_do program c node Resends)
resends-at program c node p number does due is d = d ∙ ap (λ z. would_do program c z Resends) (sym is) ∙ ap (λ b. b && would_do program c node Resends) (zero (number % RESEND_EVERY) due)
  where
    zero : (n : ℕ) → n ≡ 0 → true ≡ (n == 0)
    zero n e = grind (arith, nat_tests, e)
