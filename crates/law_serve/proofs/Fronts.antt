-- The front of a served life has just the requests of its logs.
use Rattle.def_client.specs.declared.asked.Asked.{Asked}
use Rattle.def_client.specs.declared.asked.Asked.TheVariants.{Pending, Again, New, Differs}
use Rattle.std.proofs.Common.{◌≡◌, ◌∙◌, refl, ap, sym, ℕ, suc, zero, ◌+◌, ◌<◌, ◌==◌, arith, Bool, true, false, cond, ◌&&◌, ◌||◌, List, [], ◌∷◌, ◌++◌, ℤ, Option, Some, None, option_to_list, slice_get, unwrap_or}
use Rattle.std.specs.Prelude.{filter_map, fold}
use Rattle.std.specs.List.{cons_option}
use Rattle.std.proofs.lemmas.List.{append-nil, append_assoc}
use Rattle.std.proofs.lemmas.List.Elements.{filter_map-append, filter-append}
use Rattle.ic_base.specs.declared.messages.ComId.{ComId}
use Rattle.ic_base.specs.declared.messages.Output.{Output}
use Rattle.ic_base.specs.declared.events.What.{What}
use Rattle.ic_base.specs.declared.events.What.TheVariants as whats
use Rattle.ic_base.specs.declared.events.Trace.{Trace}
use Rattle.ic_base.specs.declared.record.Record.{Record}
use Rattle.ic_base.specs.declared.record.Record.TheVariants as records
use Rattle.ic_base.specs.declared.scenario.Program.{Program}
use Rattle.ic_base.specs.Programs.{same_com}
use Rattle.def_facts.specs.Logs.{Logs, log_at}
use Rattle.def_plain.specs.Plain.{PlainWorld, counted}
use Rattle.def_run.specs.CrashFree.{input_in, received_by, is_received}
use Rattle.def_client.specs.Fronts.{Request, Taken, Front, Given, is_numbered, same_numbers, taken_under, asked_of, ask, takes, saw, saw_event}
use Rattle.def_client.specs.Rebuilding.{requests_of, numbered, own, saw_record, shows_if, front_of_log, front_from, outputs_at}
use Rattle.law_client.proofs.Fronts.{push-own, shows-keeps, showing-keeps, given, has_one, new-has-none}
use Rattle.def_facts.specs.World.{forced_logs}
use Rattle.def_step.specs.Settle.{PolicyIntervals}
use Rattle.def_step.specs.World.{World}
use Rattle.def_rounds.specs.Rounds.{Turn, Answers, Round, Ran, Told, Leapt, AreRounds, IsRound, side_behind, side_after, state_behind, transitions_in, transitions_of}
use Rattle.def_run.specs.SystemStates.{SystemState, Transition, traces_of}
use Rattle.def_serve.specs.Lines.{Line, Asks, Gives, Checkpoints, Values, Refused, Note, turn, turn_of, serving}
use Rattle.law_client.proofs.Along.{all-gain}
use Rattle.law_client.proofs.Once.{traces-append}
use Rattle.law_serve.specs.Fronts.{RebuiltFrontsHaveAll, NewWhereNone, ServedFrontsHaveAll}

-- a request that is taken, numbered or not
pub takes-own : (c : ComId) (r : Request) (front : Front) → requests_of c (takes r front) ≡ requests_of c front ++ numbered (option_to_list (cond (same_com c r.who) (Some (given r.handler r.args)) None))
takes-own c r front = at (is_numbered r.args) refl
  where
    t : Taken
    t = record { request = r; reply = None }

    kept : (b : Bool) → is_numbered r.args ≡ true → option_to_list (cond b (Some (given r.handler r.args)) None) ≡ numbered (option_to_list (cond b (Some (given r.handler r.args)) None))
    kept true e = sym (ap (λ z. cond z (given r.handler r.args ∷ []) []) e)
    kept false e = refl

    left : (b : Bool) → is_numbered r.args ≡ false → [] ≡ numbered (option_to_list (cond b (Some (given r.handler r.args)) None))
    left true e = sym (ap (λ z. cond z (given r.handler r.args ∷ []) []) e)
    left false e = refl

    at : (b : Bool) → is_numbered r.args ≡ b → requests_of c (cond b (front ++ t ∷ []) front) ≡ requests_of c front ++ numbered (option_to_list (cond (same_com c r.who) (Some (given r.handler r.args)) None))
    at true e = push-own c front t ∙ ap (λ l. requests_of c front ++ l) (kept (same_com c r.who) e)
    at false e = sym (append-nil (requests_of c front)) ∙ ap (λ l. requests_of c front ++ l) (left (same_com c r.who) e)

-- a log ------------------------------------------------------------------------------------------------

-- the input of a record, if the log is that of c
abbrev pub input_if : Bool → Record → Option Given
input_if b r = cond b (input_in r) None

no-input : (b : Bool) → [] ≡ numbered (option_to_list (cond b None None))
no-input true = refl
no-input false = refl

same-then : (c d : ComId) (front new : Front) → requests_of c new ≡ requests_of c front → requests_of c new ≡ requests_of c front ++ numbered (option_to_list (cond (same_com c d) None None))
same-then c d front new e = e ∙ sym (append-nil (requests_of c front)) ∙ ap (λ l. requests_of c front ++ l) (no-input (same_com c d))

shown-own : (c d : ComId) (o : Option Output) (front : Front) → requests_of c (shows_if d o front) ≡ requests_of c front
shown-own c d None front = refl
shown-own c d (Some o) front = shows-keeps c d o front

record-own : (c d : ComId) (outs : List Output) (front : Front) (r : Record) → requests_of c (saw_record d outs front r) ≡ requests_of c front ++ numbered (option_to_list (input_if (same_com c d) r))
record-own c d outs front (records.Input stamp handler args) = takes-own c (record { who = d; handler = handler; args = args }) front
record-own c d outs front (records.Shown m) = same-then c d front (shows_if d (counted outs m) front) (shown-own c d (counted outs m) front)
record-own c d outs front (records.Take s k stamp) = same-then c d front front refl
record-own c d outs front (records.TakeWhole s k stamp handler args) = same-then c d front front refl
record-own c d outs front (records.Value n place session value) = same-then c d front front refl
record-own c d outs front (records.Outcome stamp n abort) = same-then c d front front refl
record-own c d outs front (records.Released to k) = same-then c d front front refl
record-own c d outs front (records.Checkpoint image) = same-then c d front front refl
record-own c d outs front (records.Epoch epoch) = same-then c d front front refl
record-own c d outs front (records.Decided stamp e n writes) = same-then c d front front refl

pub numbered-cons : (o : Option Given) (xs : List Given) → numbered (cons_option o xs) ≡ numbered (option_to_list o) ++ numbered xs
numbered-cons None xs = refl
numbered-cons (Some x) xs = at (is_numbered x.1)
  where
    at : (b : Bool) → cond b (x ∷ numbered xs) (numbered xs) ≡ cond b (x ∷ []) [] ++ numbered xs
    at true = refl
    at false = refl

log-own : (c d : ComId) (outs : List Output) (front : Front) (log : List Record) → requests_of c (fold (saw_record d outs) front log) ≡ requests_of c front ++ numbered (filter_map (input_if (same_com c d)) log)
log-own c d outs front [] = sym (append-nil (requests_of c front))
log-own c d outs front (r ∷ rs) =
    log-own c d outs (saw_record d outs front r) rs ∙ ap (λ l. l ++ numbered (filter_map (input_if (same_com c d)) rs)) (record-own c d outs front r)
    ∙ append_assoc (requests_of c front) (numbered (option_to_list (input_if (same_com c d) r))) (numbered (filter_map (input_if (same_com c d)) rs))
    ∙ ap (λ l. requests_of c front ++ l) (sym (numbered-cons (input_if (same_com c d) r) (filter_map (input_if (same_com c d)) rs)))

all-in : (log : List Record) → filter_map (input_if true) log ≡ filter_map input_in log
all-in [] = refl
all-in (r ∷ rs) = ap (cons_option (input_in r)) (all-in rs)

none-in : (log : List Record) → filter_map (input_if false) log ≡ []
none-in [] = refl
none-in (r ∷ rs) = none-in rs

own-log : (c d : ComId) (outs : List Output) (log : List Record) → same_com c d ≡ true → requests_of c (front_of_log d outs log) ≡ numbered (filter_map input_in log)
own-log c d outs log e = log-own c d outs [] log ∙ ap (λ b. numbered (filter_map (input_if b) log)) e ∙ ap numbered (all-in log)

other-log : (c d : ComId) (outs : List Output) (log : List Record) → same_com c d ≡ false → requests_of c (front_of_log d outs log) ≡ []
other-log c d outs log e = log-own c d outs [] log ∙ ap (λ b. numbered (filter_map (input_if b) log)) e ∙ ap numbered (none-in log)

-- all logs -----------------------------------------------------------------------------------------------

same-number : (m n : ℕ) → m ≡ n → (m == n) ≡ true
same-number m n e = grind (arith, e)

apart : (m n k : ℕ) → m ≡ n + suc k → (m == n) ≡ false
apart m n k e = grind (arith, e)

below : (m n : ℕ) → m < n → (m == n) ≡ false
below m n e = grind (arith, e)

abbrev pub numbered-com : ℕ → ComId
numbered-com i = record { 0 = i }

above : (v : PlainWorld) (i : ℕ) (logs : Logs) (c : ComId) → c.0 < i → requests_of c (front_from v i logs) ≡ []
above v i [] c lt = refl
above v i (log ∷ logs) c lt =
    filter_map-append (own c) (front_of_log (numbered-com i) (outputs_at v (numbered-com i)) log) (front_from v (i + 1) logs)
    ∙ ap (λ l. l ++ requests_of c (front_from v (i + 1) logs)) (other-log c (numbered-com i) (outputs_at v (numbered-com i)) log (below c.0 i lt)) ∙ above v (i + 1) logs c (omega (arith, lt))

at-place : (v : PlainWorld) (i k : ℕ) (logs : Logs) (c : ComId) → c.0 ≡ i + k → requests_of c (front_from v i logs) ≡ numbered (filter_map input_in (unwrap_or (slice_get logs k) []))
at-place v i k [] c e = refl
at-place v i zero (log ∷ logs) c e =
    filter_map-append (own c) (front_of_log (numbered-com i) (outputs_at v (numbered-com i)) log) (front_from v (i + 1) logs)
    ∙ ap (λ l. l ++ requests_of c (front_from v (i + 1) logs)) (own-log c (numbered-com i) (outputs_at v (numbered-com i)) log (same-number c.0 i (omega (arith, e))))
    ∙ ap (λ l. numbered (filter_map input_in log) ++ l) (above v (i + 1) logs c (omega (arith, e))) ∙ append-nil (numbered (filter_map input_in log))
at-place v i (suc k) (log ∷ logs) c e =
    filter_map-append (own c) (front_of_log (numbered-com i) (outputs_at v (numbered-com i)) log) (front_from v (i + 1) logs)
    ∙ ap (λ l. l ++ requests_of c (front_from v (i + 1) logs)) (other-log c (numbered-com i) (outputs_at v (numbered-com i)) log (apart c.0 i k e)) ∙ at-place v (i + 1) k logs c (omega (arith, e))

pub rebuilt_fronts_have_all : RebuiltFrontsHaveAll
rebuilt_fronts_have_all program v logs c pcom = at-place v 0 c.0 logs c (omega arith)

-- new where none stands ------------------------------------------------------------------------------------

un-numbered : (args ys : List ℤ) → is_numbered ys ≡ false → same_numbers args ys ≡ false
un-numbered [] ys e = refl
un-numbered (u ∷ []) ys e = refl
un-numbered (u ∷ q ∷ us) [] e = refl
un-numbered (u ∷ q ∷ us) (v ∷ []) e = refl
un-numbered (u ∷ q ∷ us) (v ∷ r ∷ vs) e = absurd (cc e)

any-numbered : (args : List ℤ) (xs : List Given) → has_one args (numbered xs) ≡ has_one args xs
any-numbered args [] = refl
any-numbered args (x ∷ xs) = at (is_numbered x.1) refl (any-numbered args xs)
  where
    at : (b : Bool) → is_numbered x.1 ≡ b → has_one args (numbered xs) ≡ has_one args xs → has_one args (cond b (x ∷ numbered xs) (numbered xs)) ≡ (same_numbers args x.1 || has_one args xs)
    at true e f = ap (λ z. same_numbers args x.1 || z) f
    at false e f = f ∙ sym (ap (λ z. z || has_one args xs) (un-numbered args x.1 e))

none-taken : (c : ComId) (args : List ℤ) (front : Front) → has_one args (requests_of c front) ≡ false → taken_under front c args ≡ None
none-taken c args [] e = refl
none-taken c args (t ∷ ts) e = at (same_com c t.request.who) (same_numbers args t.request.args) refl (none-taken c args ts) e
  where
    at : (b d : Bool) → same_numbers args t.request.args ≡ d → (has_one args (requests_of c ts) ≡ false → taken_under ts c args ≡ None) → has_one args (cons_option (cond b (Some (given t.request.handler t.request.args)) None) (requests_of c ts)) ≡ false →
        cond (b && d) (Some t) (taken_under ts c args) ≡ None
    at true true q f e = absurd (cc (q, e))
    at true false q f e = f (ap (λ z. z || has_one args (requests_of c ts)) (sym q) ∙ e)
    at false true q f e = f e
    at false false q f e = f e

pub new_where_none : NewWhereNone
new_where_none program front logs r has pcom =
    let same : has_one r.args (requests_of r.who front) ≡ has_one r.args (filter_map input_in (log_at logs r.who)) = ap (has_one r.args) (has r.who pcom) ∙ any-numbered r.args (filter_map input_in (log_at logs r.who)) in
    (λ e. sym same ∙ new-has-none front r e, λ e. ap (λ o. asked_of o r) (none-taken r.who r.args front (same ∙ e)))

-- while lines are served -----------------------------------------------------------------------------------

event-own : (c : ComId) (what : What) (received : Bool) (front : Front) → requests_of c (saw_event what received front) ≡ requests_of c front ++ numbered (option_to_list (elim what [ whats.Input d handler args ↦ cond (same_com c d && received) (Some (given handler args)) None | _ ↦ None ]))
event-own c (whats.Input d handler args) true front = takes-own c (record { who = d; handler = handler; args = args }) front ∙ ap (λ b. requests_of c front ++ numbered (option_to_list (cond b (Some (given handler args)) None))) (sym (and-true (same_com c d)))
  where
    and-true : (b : Bool) → b && true ≡ b
    and-true true = refl
    and-true false = refl
event-own c (whats.Input d handler args) false front = sym (append-nil (requests_of c front)) ∙ ap (λ b. requests_of c front ++ numbered (option_to_list (cond b (Some (given handler args)) None))) (sym (and-false (same_com c d)))
  where
    and-false : (b : Bool) → b && false ≡ false
    and-false true = refl
    and-false false = refl
event-own c (whats.Deliver d e) received front = sym (append-nil (requests_of c front))
event-own c (whats.Lose d e) received front = sym (append-nil (requests_of c front))
event-own c (whats.Packet i) received front = sym (append-nil (requests_of c front))
event-own c (whats.Force d) received front = sym (append-nil (requests_of c front))
event-own c (whats.Checkpoint d) received front = sym (append-nil (requests_of c front))
event-own c (whats.Resend d) received front = sym (append-nil (requests_of c front))
event-own c (whats.Emit d) received front = sym (append-nil (requests_of c front))
event-own c (whats.Crash d) received front = sym (append-nil (requests_of c front))
event-own c (whats.Recover d) received front = sym (append-nil (requests_of c front))

trace-own : (c : ComId) (t : Trace) (front : Front) → requests_of c (saw front t) ≡ requests_of c front ++ numbered (option_to_list (received_by c t))
trace-own c t front = showing-keeps c t.event.what t.shown (saw_event t.event.what (is_received t.answer) front) ∙ event-own c t.event.what (is_received t.answer) front

-- a front that saw these traces has the requests of what was received
pub seen-own : (c : ComId) (ts : List Trace) (front : Front) → requests_of c (fold saw front ts) ≡ requests_of c front ++ numbered (filter_map (received_by c) ts)
seen-own c [] front = sym (append-nil (requests_of c front))
seen-own c (t ∷ ts) front =
    let one = option_to_list (received_by c t) in
    seen-own c ts (saw front t) ∙ ap (λ l. l ++ numbered (filter_map (received_by c) ts)) (trace-own c t front)
    ∙ append_assoc (requests_of c front) (numbered one) (numbered (filter_map (received_by c) ts))
    ∙ ap (λ l. requests_of c front ++ l) (more (received_by c t) (filter_map (received_by c) ts))
  where
    more : (o : Option Given) (xs : List Given) → numbered (option_to_list o) ++ numbered xs ≡ numbered (cons_option o xs)
    more None xs = refl
    more (Some x) xs = sym (filter-append (λ (y : Given). is_numbered y.1) (x ∷ []) xs)

module _ (program : Program) (fingerprint : List ℕ) (x : PolicyIntervals) (c : ComId) where
  pub told-kept : (w : World) (front behind : Front) (i : Line) (note : Note) → turn w front i ≡ Answers note behind → behind ≡ front
  told-kept w front behind (Asks r) note h = at (ask front r) h
    where
      kept : Turn Front Note → Front
      kept (Answers n b) = b
      kept _ = front

      at : (a : Asked) → turn_of front r a ≡ Answers note behind → behind ≡ front
      at New k = absurd (cc k)
      at Pending k = sym (ap kept k)
      at (Again m args) k = sym (ap kept k)
      at Differs k = sym (ap kept k)
  told-kept w front behind (Gives r) note h = absurd (cc h)
  told-kept w front behind (Checkpoints d) note h = absurd (cc h)
  told-kept w front behind Values note h = sym (ap kept h)
    where
      kept : Turn Front Note → Front
      kept (Answers n b) = b
      kept _ = front
  told-kept w front behind (Refused number cause) note h = sym (ap kept h)
    where
      kept : Turn Front Note → Front
      kept (Answers n b) = b
      kept _ = front

  round-own : (front : Front) (p : SystemState) (i : Line) (r : Round Front Note) → IsRound serving program fingerprint x front p i r → requests_of c (side_behind serving front r) ≡ requests_of c front ++ numbered (filter_map (received_by c) (traces_of (transitions_in r)))
  round-own front p i (Ran vs) is = seen-own c (traces_of vs) front
  round-own front p i (Told note behind) is = ap (requests_of c) (told-kept p.world front behind i note is) ∙ sym (append-nil (requests_of c front))
  round-own front p i (Leapt note behind q) is = absurd is.1

  rounds-own : (front : Front) (p : SystemState) (lines : List Line) (rs : List (Round Front Note)) → AreRounds serving program fingerprint x front p lines rs → requests_of c (side_after serving front rs) ≡ requests_of c front ++ numbered (filter_map (received_by c) (traces_of (transitions_of rs)))
  rounds-own front p [] [] are = sym (append-nil (requests_of c front))
  rounds-own front p [] (r ∷ rs) are = absurd are
  rounds-own front p (i ∷ is) [] are = absurd are
  rounds-own front p (i ∷ is) (r ∷ rs) are =
      let by : List Transition → List Given = λ vs. filter_map (received_by c) (traces_of vs) in
      let same : by (transitions_in r ++ transitions_of rs) ≡ by (transitions_in r) ++ by (transitions_of rs) =
      ap (filter_map (received_by c)) (traces-append program fingerprint x c (transitions_in r) (transitions_of rs)) ∙ filter_map-append (received_by c) (traces_of (transitions_in r)) (traces_of (transitions_of rs)) in
      rounds-own (side_behind serving front r) (state_behind p r) is rs are.1 ∙ ap (λ l. l ++ numbered (by (transitions_of rs))) (round-own front p i r are.0)
      ∙ append_assoc (requests_of c front) (numbered (by (transitions_in r))) (numbered (by (transitions_of rs)))
      ∙ ap (λ l. requests_of c front ++ l) (sym (filter-append (λ (y : Given). is_numbered y.1) (by (transitions_in r)) (by (transitions_of rs))) ∙ ap numbered (sym same))

pub served_fronts_have_all : ServedFrontsHaveAll
served_fronts_have_all program fingerprint x found front p lines rs fit may f has are c pcom =
    let got = filter_map (received_by c) (traces_of (transitions_of rs)) in
    let was = filter_map input_in (log_at (forced_logs p.world) c) in
    rounds-own program fingerprint x c front p lines rs are ∙ ap (λ l. l ++ numbered got) (has c pcom)
    ∙ sym (filter-append (λ (y : Given). is_numbered y.1) was got)
    ∙ ap numbered (sym (all-gain serving program fingerprint x found fit (λ s q r note k g. absurd k) front p lines rs may are f c pcom))
