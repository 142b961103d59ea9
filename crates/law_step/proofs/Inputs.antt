-- What a step of a Pcom adds to the inputs of its log, its stop reached or not.
use Rattle.std.proofs.Common.{◌≡◌, refl, ◌∙◌, ap, sym, subst, ℕ, ◌<◌, Bool, true, false, cond, ◌||◌, nat_le, nat_lt, max, ◌+◌, List, [], ◌∷◌, ◌++◌, length, ℤ, Option, Some, None, option_to_list, ◌⊎◌, inl, inr, ⊎_elim, arith, drop}
use Rattle.std.specs.Prelude.{filter_map}
use Rattle.std.specs.List.{cons_option, list_any}
use Rattle.std.proofs.lemmas.List.{append-nil, append_assoc}
use Rattle.std.proofs.lemmas.List.Elements.{filter_map-append}
use Rattle.std.proofs.lemmas.Option.{same_Some}
use Rattle.ic_base.specs.declared.messages.ComId.{ComId}
use Rattle.ic_base.specs.declared.messages.Decision.{Decision}
use Rattle.ic_base.specs.declared.messages.Decision.TheVariants.{Committed, Aborted}
use Rattle.ic_base.specs.declared.messages.Msg.{Msg}
use Rattle.ic_base.specs.declared.messages.Output.{Output}
use Rattle.ic_base.specs.declared.messages.Packet.{Packet}
use Rattle.ic_base.specs.declared.messages.Packet.TheVariants.{Data, Stable, Installed, Fetch, Op, OpReply, Commit, Outcome, Drop}
use Rattle.ic_base.specs.declared.messages.Session.{Session}
use Rattle.ic_base.specs.declared.events.Answer.{Answer}
use Rattle.ic_base.specs.declared.events.Answer.TheVariants as answers
use Rattle.ic_base.specs.declared.events.Stop.{Stop}
use Rattle.ic_base.specs.declared.scenario.Program.{Program}
use Rattle.ic_base.specs.declared.record.Record.{Record}
use Rattle.ic_base.specs.declared.record.Record.TheVariants as records
use Rattle.ic_base.specs.Programs.{is_immediate}
use Rattle.def_state.specs.Inbox
use Rattle.def_state.specs.Outbox
use Rattle.def_state.specs.Shelf
use Rattle.def_state.specs.Txn
use Rattle.def_state.specs.Image.{image_of}
use Rattle.def_state.specs.Vol.{Vol}
use Rattle.def_step.specs.Packets.{fits_pcom}
use Rattle.def_step.specs.Pcom.{Pcom, Log, Call, Gives, Gets, Forces, Checkpoints, Resends, Emits, Effects, Took, Busy, Changed, StepResult, level_answer, all_of, is_replaying, in_hand, force_log, decide, on_packet, on_data, on_reply, on_outcome, on_emit, need_records, fails_with, just_tail, nothing_at_all, take_record, forced_end, must_force, absorb_choice, carry_out, replay_step, told, pcom_step}
use Rattle.def_step.specs.World.{Node, Runs, Down, Done, DiskOutcome, just, done_as, input_answer, answer_of, answer_stopped, device_calls, is_reached, cut_off, force_calls}
use Rattle.def_run.specs.CrashFree.{input_in, is_received}
use Rattle.def_facts.specs.Logs.{is_input}
use Rattle.def_facts.specs.World.{forced_of}
use Rattle.law_replay.proofs.Lists.{true-false, clash}
use Rattle.law_step.proofs.Shapes.{step-shape, same-txn, chosen-log, carried-log}
use Rattle.law_syntax.specs.Events.{IsCounted}

-- inputs of records -----------------------------------------------------------------------------------------

none-in : (rs : List Record) → list_any is_input rs ≡ false → filter_map input_in rs ≡ []
none-in [] e = refl
none-in (r ∷ rs) e = at r e (none-in rs)
  where
    at : (q : Record) → (is_input q || list_any is_input rs) ≡ false → (list_any is_input rs ≡ false → filter_map input_in rs ≡ []) → cons_option (input_in q) (filter_map input_in rs) ≡ []
    at (records.Input stamp handler args) f more = true-false (sym f)
    at (records.Take s k stamp) f more = more f
    at (records.TakeWhole s k stamp handler args) f more = more f
    at (records.Value n place session value) f more = more f
    at (records.Outcome stamp n abort) f more = more f
    at (records.Released to k) f more = more f
    at (records.Shown m) f more = more f
    at (records.Checkpoint image) f more = more f
    at (records.Epoch epoch) f more = more f
    at (records.Decided stamp d n writes) f more = more f

-- behind what was forced stands what was buffered, which has no input, and what is added
behind-forced : (forced buffered adds : List Record) → list_any is_input buffered ≡ false → filter_map input_in (forced ++ (buffered ++ adds)) ≡ filter_map input_in forced ++ filter_map input_in adds
behind-forced forced buffered adds none =
    filter_map-append input_in forced (buffered ++ adds) ∙ ap (λ l. filter_map input_in forced ++ l) (filter_map-append input_in buffered adds ∙ ap (λ l. l ++ filter_map input_in adds) (none-in buffered none))

-- what a Pcom chooses -----------------------------------------------------------------------------------------

-- no input is added
abbrev Quiet : Effects → Type 0
Quiet d = filter_map input_in d.adds ≡ []

take-quiet : (from : ComId) (k stamp handler : ℕ) (args : List ℤ) (content : Option Msg) (b : Bool) → Quiet (record just_tail { word = Took; content = content; adds = cond b (records.TakeWhole from k stamp handler args) (records.Take from k stamp) ∷ []; forces = b })
take-quiet from k stamp handler args content true = refl
take-quiet from k stamp handler args content false = refl

data-quiet : (program : Program) (c : ComId) (p : Pcom) (m : Msg) → Quiet (on_data program c p m)
data-quiet program c p m = at (Inbox.is_taken p.vol.inbox (record { peer = m.from; k = m.k })) (in_hand p)
  where
    at : (a b : Bool) → Quiet (cond a (record just_tail { answers = level_answer c m (Inbox.level p.vol.inbox (record { peer = m.from; k = m.k }) (forced_end p)) }) (cond b (record nothing_at_all { word = Busy }) (record just_tail { word = Took; content = Some m; adds = take_record program c p.vol m ∷ []; forces = is_immediate program c })))
    at true b = refl
    at false true = refl
    at false false = take-quiet m.from m.k (max p.vol.clock m.stamp + 1) m.handler m.args (Some m) (is_immediate program c)

reply-quiet : (program : Program) (c : ComId) (v : Vol) (n place : ℕ) (session : Session) (o : Option ℤ) → Quiet (on_reply program c v n place session o)
reply-quiet program c v n place session None = refl
reply-quiet program c v n place session (Some value) = at (fails_with program c v value)
  where
    at : (o : Option ℕ) → filter_map input_in (need_records v o) ≡ []
    at None = refl
    at (Some line) = refl

outcome-quiet : (v : Vol) (o : Option Decision) → Quiet (on_outcome v o)
outcome-quiet v None = refl
outcome-quiet v (Some (Committed stamp)) = refl
outcome-quiet v (Some (Aborted cause)) = refl

packet-quiet : (program : Program) (c : ComId) (p : Pcom) (packet : Packet) → Quiet (on_packet program c p packet)
packet-quiet program c p (Data m) = data-quiet program c p m
packet-quiet program c p (Stable from to k) = refl
packet-quiet program c p (Installed from to k) = at (Outbox.is_held p.vol.outbox (record { peer = from; k = k }))
  where
    at : (b : Bool) → Quiet (cond b (record just_tail { adds = records.Released from k ∷ []; word = Changed }) just_tail)
    at true = refl
    at false = refl
packet-quiet program c p (Fetch from to k) = refl
packet-quiet program c p (OpReply from to n place session value) = reply-quiet program c p.vol n place session (Txn.reply p.vol.txn (OpReply from to n place session value))
packet-quiet program c p (Outcome from to n place session decision) = outcome-quiet p.vol (Txn.outcome p.vol.txn (Outcome from to n place session decision))
packet-quiet program c p (Op from to n place session request) = refl
packet-quiet program c p (Commit from to n place session stamp) = refl
packet-quiet program c p (Drop from to n) = refl

gets-quiet : (program : Program) (c : ComId) (p : Pcom) (packet : Packet) → Quiet (decide program c p (Gets packet))
gets-quiet program c p packet = at (fits_pcom program c packet)
  where
    at : (b : Bool) → Quiet (cond b (on_packet program c p packet) nothing_at_all)
    at true = packet-quiet program c p packet
    at false = refl

checkpoint-quiet : (program : Program) (c : ComId) (p : Pcom) → Quiet (decide program c p Checkpoints)
checkpoint-quiet program c p = at (in_hand p)
  where
    at : (b : Bool) → Quiet (cond b nothing_at_all (record just_tail { adds = records.Checkpoint (image_of p.vol) ∷ []; forces = true; covers = true }))
    at true = refl
    at false = refl

emit-quiet : (o : Option Output) → Quiet (on_emit o)
emit-quiet None = refl
emit-quiet (Some o) = refl

-- what a Pcom does --------------------------------------------------------------------------------------------

-- the input of a call that is answered so
abbrev pub input_as : Call → Answer → Option (ℕ × List ℤ)
input_as (Gives handler args) answer = cond (is_received answer) (Some (handler, args)) None
input_as _ answer = None

-- what a component does with a call gains that input
abbrev pub Gains : Node → Call → Done → Type 0
Gains node call d = filter_map input_in (forced_of d.node) ≡ filter_map input_in (forced_of node) ++ option_to_list (input_as call d.answer)

-- the log is forced so far, and gains what is added
abbrev Grows : Pcom → Effects → Log → Type 0
Grows p d l = (l.forced ≡ p.log.forced) ⊎ (l.forced ≡ p.log.forced ++ (p.log.buffered ++ d.adds))

carried-grows : (program : Program) (c : ComId) (p : Pcom) (d : Effects) → Grows p d (carry_out program c p d).pcom.log
carried-grows program c p d = subst (Grows p d) (sym (carried-log program c p d)) (at (d.forces || must_force p.vol (absorb_choice program c d p).vol))
  where
    chosen : (absorb_choice program c d p).log ≡ record { forced = p.log.forced; buffered = p.log.buffered ++ d.adds }
    chosen = chosen-log program c d p

    at : (b : Bool) → Grows p d (cond b (force_log (absorb_choice program c d p).log) (absorb_choice program c d p).log)
    at true = inr (ap all_of chosen)
    at false = inl (ap (λ (l : Log). l.forced) chosen)

-- all is forced where the choice says so
carried-forces : (program : Program) (c : ComId) (p : Pcom) (d : Effects) → d.forces ≡ true → (carry_out program c p d).pcom.log.forced ≡ p.log.forced ++ (p.log.buffered ++ d.adds)
carried-forces program c p d forces =
    ap (λ (l : Log). l.forced) (carried-log program c p d)
    ∙ ap (λ (b : Bool). (cond (b || must_force p.vol (absorb_choice program c d p).vol) (force_log (absorb_choice program c d p).log) (absorb_choice program c d p).log).forced) forces
    ∙ ap all_of (chosen-log program c d p)

quiet-carried : (program : Program) (c : ComId) (p : Pcom) (d : Effects) → list_any is_input p.log.buffered ≡ false → Quiet d → filter_map input_in (carry_out program c p d).pcom.log.forced ≡ filter_map input_in p.log.forced
quiet-carried program c p d none quiet = ⊎_elim (λ same. ap (filter_map input_in) same)
    (λ all. ap (filter_map input_in) all ∙ behind-forced p.log.forced p.log.buffered d.adds none ∙ ap (λ l. filter_map input_in p.log.forced ++ l) quiet ∙ append-nil (filter_map input_in p.log.forced))
    (carried-grows program c p d)

-- while it replays nothing is added
quiet-replay : (program : Program) (c : ComId) (p : Pcom) (call : Call) (t : StepResult) → list_any is_input p.log.buffered ≡ false → is_replaying p ≡ true → pcom_step program c p call ≡ Some t → filter_map input_in t.pcom.log.forced ≡ filter_map input_in p.log.forced
quiet-replay program c p call t none up ran =
    let s = step-shape program c p call t ran in
    ⊎_elim (λ same. ap (filter_map input_in) same)
    (λ all.
    let whole : t.pcom.log.forced ≡ p.log.forced ++ (p.log.buffered ++ []) = all ∙ s.all ∙ ap (λ l. all_of p.log ++ l) (s.replays up) ∙ append_assoc p.log.forced p.log.buffered [] in
    ap (filter_map input_in) whole ∙ behind-forced p.log.forced p.log.buffered [] none ∙ append-nil (filter_map input_in p.log.forced))
    s.forced

pub none-more : (xs ys : List (ℕ × List ℤ)) (o : Option (ℕ × List ℤ)) → ys ≡ xs → o ≡ None → ys ≡ xs ++ option_to_list o
none-more xs ys o e none = e ∙ sym (append-nil xs) ∙ ap (λ u. xs ++ option_to_list u) (sym none)

stepped : (program : Program) (c : ComId) (p : Pcom) (call : Call) (t : StepResult) → is_replaying p ≡ false → pcom_step program c p call ≡ Some t → carry_out program c p (decide program c p call) ≡ t
stepped program c p call t up ran = same_Some (carry_out program c p (decide program c p call)) t (ap (λ b. cond b (replay_step program c p call) (Some (carry_out program c p (decide program c p call)))) (sym up) ∙ ran)

pcom-gains : (program : Program) (c : ComId) (p : Pcom) (number : ℕ) (call : Call) (t : StepResult) → list_any is_input p.log.buffered ≡ false → pcom_step program c p call ≡ Some t → Gains (Runs p) call (done_as (answer_of p number call t) t)
pcom-gains program c p number call t none ran = at (is_replaying p) refl
  where
    quietly : Quiet (decide program c p call) → is_replaying p ≡ false → filter_map input_in t.pcom.log.forced ≡ filter_map input_in p.log.forced
    quietly quiet up = ap (λ (z : StepResult). filter_map input_in z.pcom.log.forced) (sym (stepped program c p call t up ran)) ∙ quiet-carried program c p (decide program c p call) none quiet

    missed : (k : Call) → is_replaying p ≡ true → input_as k (answer_of p number k t) ≡ None
    missed (Gives handler args) up = ap {B = Option (ℕ × List ℤ)} (λ b. cond (is_received (cond b answers.MissedReplaying (cond (in_hand p) answers.MissedBusy answers.Taken))) (Some (handler, args)) None) up
    missed (Gets packet) up = refl
    missed Forces up = refl
    missed Checkpoints up = refl
    missed Resends up = refl
    missed Emits up = refl

    at : (b : Bool) → is_replaying p ≡ b → filter_map input_in t.pcom.log.forced ≡ filter_map input_in p.log.forced ++ option_to_list (input_as call (answer_of p number call t))
    at true up = none-more (filter_map input_in p.log.forced) (filter_map input_in t.pcom.log.forced) (input_as call (answer_of p number call t)) (quiet-replay program c p call t none up ran) (missed call up)
    at false up = by call ran quietly
      where
        more : (k : Call) → ((Quiet (decide program c p k)) → is_replaying p ≡ false → filter_map input_in t.pcom.log.forced ≡ filter_map input_in p.log.forced) → Quiet (decide program c p k) → input_as k (answer_of p number k t) ≡ None
            → filter_map input_in t.pcom.log.forced ≡ filter_map input_in p.log.forced ++ option_to_list (input_as k (answer_of p number k t))
        more k go quiet told = none-more (filter_map input_in p.log.forced) (filter_map input_in t.pcom.log.forced) (input_as k (answer_of p number k t)) (go quiet up) told

        given : (handler : ℕ) (args : List ℤ) (busy : Bool) → in_hand p ≡ busy → carry_out program c p (decide program c p (Gives handler args)) ≡ t
            → filter_map input_in t.pcom.log.forced ≡ filter_map input_in p.log.forced ++ option_to_list (input_as (Gives handler args) (input_answer p))
        given handler args true busy same =
            let choice : decide program c p (Gives handler args) ≡ nothing_at_all = ap (λ b. cond b nothing_at_all (record just_tail { word = Took; adds = records.Input (p.vol.clock + 1) handler args ∷ []; forces = true })) busy in
            none-more (filter_map input_in p.log.forced) (filter_map input_in t.pcom.log.forced) (input_as (Gives handler args) (input_answer p))
            (ap (λ (z : StepResult). filter_map input_in z.pcom.log.forced) (sym same) ∙ quiet-carried program c p (decide program c p (Gives handler args)) none (ap (λ (d : Effects). filter_map input_in d.adds) choice))
            (ap {B = Option (ℕ × List ℤ)} (λ b. cond (is_received (cond b answers.MissedReplaying (cond (in_hand p) answers.MissedBusy answers.Taken))) (Some (handler, args)) None) up
            ∙ ap {B = Option (ℕ × List ℤ)} (λ b. cond (is_received (cond b answers.MissedBusy answers.Taken)) (Some (handler, args)) None) busy)
        given handler args false busy same =
            let choice : decide program c p (Gives handler args) ≡ record just_tail { word = Took; adds = records.Input (p.vol.clock + 1) handler args ∷ []; forces = true } = ap (λ b. cond b nothing_at_all (record just_tail { word = Took; adds = records.Input (p.vol.clock + 1) handler args ∷ []; forces = true })) busy in
            ap (λ (z : StepResult). filter_map input_in z.pcom.log.forced) (sym same)
            ∙ ap (filter_map input_in) (carried-forces program c p (decide program c p (Gives handler args)) (ap (λ (d : Effects). d.forces) choice))
            ∙ behind-forced p.log.forced p.log.buffered (decide program c p (Gives handler args)).adds none
            ∙ ap (λ (d : Effects). filter_map input_in p.log.forced ++ filter_map input_in d.adds) choice
            ∙ sym (ap {B = List (ℕ × List ℤ)} (λ b. filter_map input_in p.log.forced ++ option_to_list (cond (is_received (cond b answers.MissedReplaying (cond (in_hand p) answers.MissedBusy answers.Taken))) (Some (handler, args)) None)) up
            ∙ ap {B = List (ℕ × List ℤ)} (λ b. filter_map input_in p.log.forced ++ option_to_list (cond (is_received (cond b answers.MissedBusy answers.Taken)) (Some (handler, args)) None)) busy)

        by : (k : Call) → pcom_step program c p k ≡ Some t → (Quiet (decide program c p k) → is_replaying p ≡ false → filter_map input_in t.pcom.log.forced ≡ filter_map input_in p.log.forced)
            → filter_map input_in t.pcom.log.forced ≡ filter_map input_in p.log.forced ++ option_to_list (input_as k (answer_of p number k t))
        by (Gives handler args) went go = given handler args (in_hand p) refl (stepped program c p (Gives handler args) t up went)
        by (Gets packet) went go = more (Gets packet) go (gets-quiet program c p packet) refl
        by Forces went go = more Forces go refl refl
        by Checkpoints went go = more Checkpoints go (checkpoint-quiet program c p) refl
        by Resends went go = more Resends go refl refl
        by Emits went go = more Emits go (emit-quiet (Shelf.next_due p.vol.shelf (forced_end p))) refl

-- a stop ------------------------------------------------------------------------------------------------------

-- where an input forces something, it is taken
grown-taken : (program : Program) (c : ComId) (p : Pcom) (handler : ℕ) (args : List ℤ) (t : StepResult) → pcom_step program c p (Gives handler args) ≡ Some t → nat_lt (length p.log.forced) (length t.pcom.log.forced) ≡ true → input_answer p ≡ answers.Taken
grown-taken program c p handler args t ran grew = at (is_replaying p) (in_hand p) refl refl
  where
    self : (n : ℕ) → nat_lt n n ≡ false
    self n = grind arith

    stays-so : {B : Type 0} → t.pcom.log.forced ≡ p.log.forced → B
    stays-so same = clash (nat_lt (length p.log.forced) (length t.pcom.log.forced)) grew (ap (λ (l : List Record). nat_lt (length p.log.forced) (length l)) same ∙ self (length p.log.forced))

    at : (a b : Bool) → is_replaying p ≡ a → in_hand p ≡ b → input_answer p ≡ answers.Taken
    at true b up busy =
        let same : told p [] nothing_at_all ≡ t = same_Some (told p [] nothing_at_all) t (ap (λ z. cond z (replay_step program c p (Gives handler args)) (Some (carry_out program c p (decide program c p (Gives handler args))))) (sym up) ∙ ran) in
        stays-so (ap (λ (z : StepResult). z.pcom.log.forced) (sym same))
    at false true up busy =
        let choice : decide program c p (Gives handler args) ≡ nothing_at_all = ap (λ b. cond b nothing_at_all (record just_tail { word = Took; adds = records.Input (p.vol.clock + 1) handler args ∷ []; forces = true })) busy in
        stays-so
        (ap (λ (z : StepResult). z.pcom.log.forced) (sym (stepped program c p (Gives handler args) t up ran))
        ∙ ap (λ d. (carry_out program c p d).pcom.log.forced) choice
        ∙ ap (λ (l : Log). l.forced) (carried-log program c p nothing_at_all)
        ∙ ap (λ (b : Bool). (cond b (force_log p.log) p.log).forced) (same-txn p.vol p.vol refl))
    at false false up busy =
        ap (λ b. cond b answers.MissedReplaying (cond (in_hand p) answers.MissedBusy answers.Taken)) up ∙ ap (λ b. cond b answers.MissedBusy answers.Taken) busy

-- nothing of an input is told as received where its record wasn't kept
lost-input : (number : ℕ) (call : Call) → input_as call (answer_stopped number false call) ≡ None
lost-input number (Gives handler args) = refl
lost-input number (Gets packet) = refl
lost-input number Forces = refl
lost-input number Checkpoints = refl
lost-input number Resends = refl
lost-input number Emits = refl

-- kept, it is told as if it had been taken
kept-input : (number n : ℕ) (call : Call) (p : Pcom) (t : StepResult) → ((handler : ℕ) (args : List ℤ) → call ≡ Gives handler args → input_answer p ≡ answers.Taken) → input_as call (answer_of p n call t) ≡ input_as call (answer_stopped number true call)
kept-input number n (Gives handler args) p t taken = ap {B = Option (ℕ × List ℤ)} (λ a. cond (is_received a) (Some (handler, args)) None) (taken handler args refl)
kept-input number n (Gets packet) p t taken = refl
kept-input number n Forces p t taken = refl
kept-input number n Checkpoints p t taken = refl
kept-input number n Resends p t taken = refl
kept-input number n Emits p t taken = refl

-- what a stop leaves of a log, by the gate's byte
abbrev pub Left : DiskOutcome → Node → Done → Type 0
Left x node d = ((x.is_open ≡ false) × (x.left ≡ forced_of node)) ⊎ ((x.is_open ≡ true) × (x.left ≡ forced_of d.node))

pub nothing-reached : {B : Type 0} (stop : Option Stop) → IsCounted stop → is_reached stop 0 ≡ true → B
nothing-reached None counted e = true-false e
nothing-reached (Some s) counted e = absurd (none s.call counted e)
  where
    none : (n : ℕ) → 0 < n → nat_le n 0 ≡ true → ⊥
    none n lt f = grind (arith, lt, f)

pub pcom-cut : (program : Program) (c : ComId) (p : Pcom) (number : ℕ) (call : Call) (t : StepResult) (stop : Option Stop) (x : DiskOutcome) (later : Done) → IsCounted stop → list_any is_input p.log.buffered ≡ false → pcom_step program c p call ≡ Some t →
    (later.answer ≡ answer_stopped number x.is_open call → Left x (Runs p) (done_as (answer_of p number call t) t)) → cut_off stop x (Runs p) (answer_stopped number x.is_open call) (done_as (answer_of p number call t) t) ≡ later → Gains (Runs p) call later
pcom-cut program c p number call t stop x later counted none ran left e = at (nat_lt (length p.log.forced) (length t.pcom.log.forced)) refl
  where
    closed : just (Down x.left) (answer_stopped number x.is_open call) ≡ later → x.is_open ≡ false → x.left ≡ p.log.forced → Gains (Runs p) call later
    closed same lost is =
        subst (Gains (Runs p) call) same
        (none-more (filter_map input_in p.log.forced) (filter_map input_in x.left) (input_as call (answer_stopped number x.is_open call)) (ap (filter_map input_in) is) (ap (λ b. input_as call (answer_stopped number b call)) lost ∙ lost-input number call))

    kept : nat_lt (length p.log.forced) (length t.pcom.log.forced) ≡ true → just (Down x.left) (answer_stopped number x.is_open call) ≡ later → x.is_open ≡ true → x.left ≡ t.pcom.log.forced → Gains (Runs p) call later
    kept grew same opened is =
        subst (Gains (Runs p) call) same
        (ap (filter_map input_in) is ∙ pcom-gains program c p number call t none ran
        ∙ ap (λ o. filter_map input_in p.log.forced ++ option_to_list o)
        (kept-input number number call p t (λ handler args k. grown-taken program c p handler args t (ap (pcom_step program c p) (sym k) ∙ ran) grew) ∙ ap (λ b. input_as call (answer_stopped number b call)) (sym opened)))

    cut : (b : Bool) → nat_lt (length p.log.forced) (length t.pcom.log.forced) ≡ true → cond b (just (Down x.left) (answer_stopped number x.is_open call)) (done_as (answer_of p number call t) t) ≡ later → Gains (Runs p) call later
    cut false grew same = subst (Gains (Runs p) call) same (pcom-gains program c p number call t none ran)
    cut true grew same = ⊎_elim (λ y. closed same y.0 y.1) (λ y. kept grew same y.0 y.1) (left (ap (λ (z : Done). z.answer) (sym same)))

    at : (b : Bool) → nat_lt (length p.log.forced) (length t.pcom.log.forced) ≡ b → Gains (Runs p) call later
    at true grew = cut (is_reached stop (device_calls x.free (Runs p) (Runs t.pcom))) grew e
    at false stays_so = quietly (is_reached stop 0) refl (ap (λ b. cond (is_reached stop (cond b (force_calls x.free (drop (length p.log.forced) t.pcom.log.forced)) 0)) (just (Down x.left) (answer_stopped number x.is_open call)) (done_as (answer_of p number call t) t)) (sym stays_so) ∙ e)
      where
        quietly : (b : Bool) → is_reached stop 0 ≡ b → cond b (just (Down x.left) (answer_stopped number x.is_open call)) (done_as (answer_of p number call t) t) ≡ later → Gains (Runs p) call later
        quietly true reached same = nothing-reached stop counted reached
        quietly false reached same = subst (Gains (Runs p) call) same (pcom-gains program c p number call t none ran)
