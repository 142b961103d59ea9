-- The replies of a front are outputs of the crash-free world.
use Rattle.std.proofs.Common.{◌≡◌, ◌∙◌, refl, ap, sym, subst, ℕ, ℤ, zero, suc, ◌+◌, ◌<◌, ◌≤◌, arith, Bool, true, false, ◌&&◌, cond, List, [], ◌∷◌, ◌++◌, length, Option, Some, None, is_none, ◌⊎◌, inl, inr}
use Rattle.std.specs.Prelude.{Contains, IsSomeAnd, Ok, fold, slice_get, unwrap_or}
use Rattle.std.proofs.lemmas.List.{append_assoc, length-append}
use Rattle.std.proofs.lemmas.List.Sums.{fold_push}
use Rattle.std.proofs.lemmas.Option.{same_Some}
use Rattle.ic_base.specs.declared.messages.ComId.{ComId}
use Rattle.ic_base.specs.declared.messages.Out.{Out}
use Rattle.ic_base.specs.declared.messages.Output.{Output}
use Rattle.ic_base.specs.declared.messages.Packet.{Packet}
use Rattle.ic_base.specs.declared.events.Event.{Event}
use Rattle.ic_base.specs.declared.events.What.{What}
use Rattle.ic_base.specs.declared.events.What.TheVariants.{Input, Deliver, Lose, Packet as Numbered, Force, Checkpoint, Resend, Emit, Crash, Recover}
use Rattle.ic_base.specs.declared.events.Trace.{Trace}
use Rattle.ic_base.specs.declared.record.Record.{Record}
use Rattle.ic_base.specs.declared.record.Record.TheVariants as records
use Rattle.ic_base.specs.declared.scenario.Program.{Program}
use Rattle.ic_base.specs.Programs.{same_com, is_a_pcom}
use Rattle.def_client.specs.Fronts.{Request, Taken, Front, is_numbered, is_under, same_numbers, taken_under, takes, replies_to, shows, saw, saw_event, saw_showing}
use Rattle.def_client.specs.Rebuilding.{saw_record, shows_if, front_of_log, front_from, front_of, outputs_at}
use Rattle.def_facts.specs.Logs.{Logs, log_at, shown_by, IsPrefixOf, contents_in}
use Rattle.def_facts.specs.Pcom.{state_after}
use Rattle.def_facts.specs.Sound.{IsSound, state_in}
use Rattle.def_facts.specs.World.{Past, IsExplainedBy, ShowingFacts, forced_logs, whole_logs}
use Rattle.def_facts.specs.World as worlds
use Rattle.def_plain.specs.History.{history_of}
use Rattle.def_plain.specs.Plain.{PlainWorld, plain_run_of, pcom_at, counted}
use Rattle.def_plain.specs.declared.world.PlainPcom.{PlainPcom}
use Rattle.def_rounds.specs.Rounds.{Happens, Round, Ran, Told, Leapt, IsRound, side_behind, state_behind}
use Rattle.def_run.specs.CoreSteps.{CoreStep}
use Rattle.def_run.specs.CrashFree.{is_received}
use Rattle.def_run.specs.Executions.{Agenda, Executes, agenda_behind, whole_agenda}
use Rattle.def_run.specs.SystemStates.{is_of, SystemState, Transition, KeepsLogs, last_state, traces_of}
use Rattle.def_serve.specs.Lines.{Line, Note, turn, serving}
use Rattle.def_state.specs.Hist.{Hist, after, outputs_of, number_outputs}
use Rattle.def_step.specs.Settle.{PolicyIntervals}
use Rattle.def_step.specs.World.{World}
use Rattle.law_client.proofs.Along.{one-comes, round-stands}
use Rattle.law_client.proofs.Replies.{both-true, same-request}
use Rattle.law_client.proofs.Shown.{Shows, executions-gather}
use Rattle.law_client.specs.Rounds.{Stands}
use Rattle.law_run.specs.ProgramBytes.{IsFit}
use Rattle.law_replay.proofs.Growing.{prefixes_replay, states_grow}
use Rattle.law_replay.proofs.Lists.{none-some, in-head, in-tail, same-com, contains-split, open-content, at-some}
use Rattle.law_replay.proofs.Narrowing.{forced_explained}
use Rattle.law_replay.proofs.Outputs.{number-more}
use Rattle.law_replay.proofs.Prefixes.{prefix-self, prefix-trans}
use Rattle.law_replay.proofs.Receiving.{section-state}
use Rattle.law_replay.proofs.Shown.{shown-up-to}
use Rattle.law_run.proofs.Agendas.{next-is}
use Rattle.law_run.proofs.Steps.{core_steps_keep, disk-tells, passes-none, reads-images}
use Rattle.law_run.specs.Executions.{IsExplainedInBytes, MayCome}
use Rattle.law_run.specs.WorldBytes.{WorldFits}
use Rattle.law_sound.proofs.Contents.{states_agree}
use Rattle.law_sound.proofs.Explained.{cut-sound, forced-cut, invariant_gives_explained}
use Rattle.law_sound.proofs.Given.{Given, given, to-world}
use Rattle.law_sound.proofs.Outputs.{outputs_are_plain}
use Rattle.law_step.proofs.Events.{events_go_on}
use Rattle.law_step.proofs.Stopping.{leaves-either}
use Rattle.law_step.specs.Steps.{DiskFits, here_behind}
use Rattle.law_syntax.proofs.Entries.{same-ok}
use Rattle.law_syntax.specs.Events.{IsEvent}
use Rattle.law_serve.proofs.Fronts.{told-kept}
use Rattle.law_serve.proofs.Staying.{AllStopless, runs-stopless, event-stopless, grows-along}
use Rattle.law_serve.specs.Replies.{IsReplyOf, TellsOutputs, RebuiltFrontsTellOutputs, SeeingFrontsTellOutputs, ServedFrontsTellOutputs}

-- what a front keeps of what is shown ----------------------------------------------------------------

-- the request that is found has the numbers
pub found-under : (front : Front) (c : ComId) (args : List ℤ) (t : Taken) → taken_under front c args ≡ Some t → is_under c args t.request ≡ true
found-under [] c args t e = none-some t e
found-under (x ∷ xs) c args t e = at (is_under c args x.request) refl e (found-under xs c args t)
  where
    at : (b : Bool) → is_under c args x.request ≡ b → cond b (Some x) (taken_under xs c args) ≡ Some t → (taken_under xs c args ≡ Some t → is_under c args t.request ≡ true) → is_under c args t.request ≡ true
    at true is f more = subst (λ (z : Taken). is_under c args z.request ≡ true) (same_Some x t f) is
    at false is f more = more f

pub taken-joined : (xs ys : Front) (c : ComId) (args : List ℤ) (t : Taken) → taken_under (xs ++ ys) c args ≡ Some t → (taken_under xs c args ≡ Some t) ⊎ (taken_under ys c args ≡ Some t)
taken-joined [] ys c args t e = inr e
taken-joined (x ∷ xs) ys c args t e = at (is_under c args x.request) e (taken-joined xs ys c args t)
  where
    at : (b : Bool) → cond b (Some x) (taken_under (xs ++ ys) c args) ≡ Some t → (taken_under (xs ++ ys) c args ≡ Some t → (taken_under xs c args ≡ Some t) ⊎ (taken_under ys c args ≡ Some t)) → (cond b (Some x) (taken_under xs c args) ≡ Some t) ⊎ (taken_under ys c args ≡ Some t)
    at true f more = inl f
    at false f more = more f

-- one that is found behind a showing was found before it
pub record WasThere (d : ComId) (o : Output) (front : Front) (c : ComId) (args : List ℤ) (t : Taken) : Type 0 where
  pub was : Taken
  pub found : taken_under front c args ≡ Some was
  pub is : replies_to d o was ≡ t

pub was-there : (d : ComId) (o : Output) (front : Front) (c : ComId) (args : List ℤ) (t : Taken) → taken_under (shows d o front) c args ≡ Some t → WasThere d o front c args t
was-there d o [] c args t e = none-some t e
was-there d o (x ∷ xs) c args t e =
    at (is_under c args x.request) refl (sym (ap (λ r. cond (is_under c args r) (Some (replies_to d o x)) (taken_under (shows d o xs) c args)) (same-request d o x)) ∙ e) (was-there d o xs c args t)
  where
    at : (b : Bool) → is_under c args x.request ≡ b → cond b (Some (replies_to d o x)) (taken_under (shows d o xs) c args) ≡ Some t → (taken_under (shows d o xs) c args ≡ Some t → WasThere d o xs c args t) → WasThere d o (x ∷ xs) c args t
    at true is f more = record { was = x; found = ap (λ b. cond b (Some x) (taken_under xs c args)) is; is = same_Some (replies_to d o x) t f }
    at false is f more = let z = more f in record { was = z.was; found = ap (λ b. cond b (Some x) (taken_under xs c args)) is ∙ z.found; is = z.is }

module _ (program : Program) (Good : ComId → Output → Type 0) where
  -- the reply is a good output of c, with the numbers of the request
  abbrev Known : ComId → Taken → ℕ × List ℤ → Type 0
  Known c t reply = (o : Output) × (o.m ≡ reply.0) × (o.args ≡ reply.1) × (same_numbers o.args t.request.args ≡ true) × Good c o

  abbrev AllKnown : Front → Type 0
  AllKnown front = (c : ComId) (args : List ℤ) (t : Taken) (reply : ℕ × List ℤ) → is_a_pcom program c ≡ true → taken_under front c args ≡ Some t → t.reply ≡ Some reply → Known c t reply

  none-known : AllKnown []
  none-known c args t reply pcom e g = none-some t e

  joined-known : (xs ys : Front) → AllKnown xs → AllKnown ys → AllKnown (xs ++ ys)
  joined-known xs ys f g c args t reply pcom e h = at (taken-joined xs ys c args t e)
    where
      at : (taken_under xs c args ≡ Some t) ⊎ (taken_under ys c args ≡ Some t) → Known c t reply
      at (inl k) = f c args t reply pcom k h
      at (inr k) = g c args t reply pcom k h

  one-known : (r : Request) → AllKnown (record { request = r; reply = None } ∷ [])
  one-known r c args t reply pcom e g = at (is_under c args r) e
    where
      first : Taken
      first = record { request = r; reply = None }

      at : (b : Bool) → cond b (Some first) None ≡ Some t → Known c t reply
      at true f = none-some reply (ap (λ (z : Taken). z.reply) (same_Some first t f) ∙ g)
      at false f = none-some t f

  takes-known : (r : Request) (front : Front) → AllKnown front → AllKnown (takes r front)
  takes-known r front f = at (is_numbered r.args)
    where
      at : (b : Bool) → AllKnown (cond b (front ++ record { request = r; reply = None } ∷ []) front)
      at true = joined-known front (record { request = r; reply = None } ∷ []) f (one-known r)
      at false = f

  shows-known : (d : ComId) (o : Output) (front : Front) → (is_a_pcom program d ≡ true → Good d o) → AllKnown front → AllKnown (shows d o front)
  shows-known d o front good f c args t reply pcom e g = at (is_under d o.args u.request && is_none u.reply) refl z.is
    where
      z : WasThere d o front c args t
      z = was-there d o front c args t e

      u : Taken
      u = z.was

      at : (b : Bool) → (is_under d o.args u.request && is_none u.reply) ≡ b → cond b (record u { reply = Some (o.m, o.args) }) u ≡ t → Known c t reply
      at false is same = subst (λ (y : Taken). Known c y reply) same (f c args u reply pcom z.found (ap (λ (y : Taken). y.reply) same ∙ g))
      at true is same =
          let both = both-true (is_under d o.args u.request) (is_none u.reply) is in
          let shown = both-true (same_com d u.request.who) (same_numbers o.args u.request.args) both.0 in
          let asked = both-true (same_com c u.request.who) (same_numbers args u.request.args) (found-under front c args u z.found) in
          let one : d ≡ c = same-com d u.request.who shown.0 ∙ sym (same-com c u.request.who asked.0) in
          let told : (o.m, o.args) ≡ reply = same_Some (o.m, o.args) reply (ap (λ (y : Taken). y.reply) same ∙ g) in (
            o,
            ap (λ (y : ℕ × List ℤ). y.0) told,
            ap (λ (y : ℕ × List ℤ). y.1) told,
            ap (λ (y : Taken). same_numbers o.args y.request.args) (sym same) ∙ shown.1,
            subst (λ k. Good k o) one (good (subst (λ k. is_a_pcom program k ≡ true) (sym one) pcom)),
          )

  saw-known : (t : Trace) (front : Front) → ((c : ComId) (o : Output) → is_a_pcom program c ≡ true → Shows c o t → Good c o) → AllKnown front → AllKnown (saw front t)
  saw-known t front good f = by t.event.what refl
    where
      received : (r : Request) (b : Bool) → AllKnown (cond b (takes r front) front)
      received r true = takes-known r front f
      received r false = f

      shown : (c : ComId) → t.event.what ≡ Emit c → (o : Option (Output × Bool)) → t.shown ≡ o → AllKnown (saw_showing (Emit c) o front)
      shown c what None is = f
      shown c what (Some x) is = shows-known c x.0 front (λ pcom. good c x.0 pcom (record { again = x.1; what = what; is = is })) f

      by : (what : What) → t.event.what ≡ what → AllKnown (saw_showing what t.shown (saw_event what (is_received t.answer) front))
      by (Input d handler args) is = received (record { who = d; handler = handler; args = args }) (is_received t.answer)
      by (Emit c) is = shown c is t.shown refl
      by (Deliver d g) is = f
      by (Lose d g) is = f
      by (Numbered i) is = f
      by (Force d) is = f
      by (Checkpoint d) is = f
      by (Resend d) is = f
      by (Crash d) is = f
      by (Recover d) is = f

  all-saw-known : (ts : List Trace) (front : Front) → ((c : ComId) (o : Output) (t : Trace) → is_a_pcom program c ≡ true → Contains ts t → Shows c o t → Good c o) → AllKnown front → AllKnown (fold saw front ts)
  all-saw-known [] front good f = f
  all-saw-known (t ∷ ts) front good f = all-saw-known ts (saw front t) (λ c o u pcom h s. good c o u pcom (in-tail t u ts h) s) (saw-known t front (λ c o pcom s. good c o t pcom (in-head t ts) s) f)

  -- what records tell
  record-known : (d : ComId) (outs : List Output) (front : Front) (r : Record) → ((m : ℕ) (o : Output) → r ≡ records.Shown m → counted outs m ≡ Some o → is_a_pcom program d ≡ true → Good d o) → AllKnown front → AllKnown (saw_record d outs front r)
  record-known d outs front (records.Input stamp handler args) good f = takes-known (record { who = d; handler = handler; args = args }) front f
  record-known d outs front (records.Shown m) good f = at (counted outs m) refl
    where
      at : (o : Option Output) → counted outs m ≡ o → AllKnown (shows_if d o front)
      at None is = f
      at (Some o) is = shows-known d o front (good m o refl is) f
  record-known d outs front (records.Take s n stamp) good f = f
  record-known d outs front (records.TakeWhole s n stamp handler args) good f = f
  record-known d outs front (records.Outcome stamp n abort) good f = f
  record-known d outs front (records.Value n place session value) good f = f
  record-known d outs front (records.Released to n) good f = f
  record-known d outs front (records.Checkpoint image) good f = f
  record-known d outs front (records.Epoch epoch) good f = f
  record-known d outs front (records.Decided stamp c n writes) good f = f

  log-known : (d : ComId) (outs : List Output) (log : List Record) (front : Front) → ((m : ℕ) (o : Output) → Contains log (records.Shown m) → counted outs m ≡ Some o → is_a_pcom program d ≡ true → Good d o) → AllKnown front → AllKnown (fold (saw_record d outs) front log)
  log-known d outs [] front good f = f
  log-known d outs (r ∷ rs) front good f =
      log-known d outs rs (saw_record d outs front r) (λ m o h. good m o (in-tail r (records.Shown m) rs h))
      (record-known d outs front r (λ m o is. good m o (subst (λ z. Contains (r ∷ rs) z) is (in-head r rs))) f)

  logs-known : (v : PlainWorld) (i : ℕ) (logs : Logs) → ((j n : ℕ) (log : List Record) (m : ℕ) (o : Output) → i + j ≡ n → slice_get logs j ≡ Some log → Contains log (records.Shown m) → counted (outputs_at v (record { 0 = n })) m ≡ Some o → is_a_pcom program (record { 0 = n }) ≡ true → Good (record { 0 = n }) o) → AllKnown (front_from v i logs)
  logs-known v i [] good = none-known
  logs-known v i (log ∷ logs) good =
      let c : ComId = record { 0 = i } in
      joined-known (front_of_log c (outputs_at v c) log) (front_from v (i + 1) logs) (log-known c (outputs_at v c) log [] (λ m o h. good 0 i log m o (omega arith) refl h) none-known)
      (logs-known v (i + 1) logs (λ j n l m o is at. good (suc j) n l m o (omega (arith, is)) at))

-- logs that are the same for each component
pub same-lists : (xs ys : Logs) → length xs ≡ length ys → ((c : ComId) → log_at xs c ≡ log_at ys c) → xs ≡ ys
same-lists [] [] long same = refl
same-lists [] (y ∷ ys) long same = absurd (omega (arith, long))
same-lists (x ∷ xs) [] long same = absurd (omega (arith, long))
same-lists (x ∷ xs) (y ∷ ys) long same = ap (λ l. l ∷ xs) (same (record { 0 = 0 })) ∙ ap (λ l. y ∷ l) (same-lists xs ys (omega (arith, long)) (λ c. same (record { 0 = suc c.0 })))

-- what was shown was put out ---------------------------------------------------------------------------

got-front : (n : ℕ) (xs ys : List Out) (i : ℕ) (o : Output) → slice_get (number_outputs n (xs ++ ys)) i ≡ Some o → i < length xs → Contains (number_outputs n xs) o
got-front n [] ys i o e less = absurd (omega (arith, less))
got-front n (x ∷ xs) ys zero o e less = subst (λ z. Contains (number_outputs n (x ∷ xs)) z) (same_Some (record { m = n; to = x.to; args = x.args }) o e) (in-head _ (number_outputs (n + 1) xs))
got-front n (x ∷ xs) ys (suc i) o e less = in-tail _ o (number_outputs (n + 1) xs) (got-front (n + 1) xs ys i o e (omega (arith, less)))

pub counted-front : (xs ys : List Out) (m : ℕ) (o : Output) → counted (number_outputs 1 (xs ++ ys)) m ≡ Some o → m ≤ length xs → Contains (number_outputs 1 xs) o
counted-front xs ys zero o e less = none-some o e
counted-front xs ys (suc i) o e less = got-front 1 xs ys i o e (omega (arith, less))

-- what a log has as shown is among as many outputs as it put out
shown-made : (program : Program) (c : ComId) (received : List Packet) (log : List Record) (h : Hist) (m : ℕ) → state_after program c received log ≡ Some h → Contains log (records.Shown m) → m ≤ length h.plain.outs
shown-made program c received log h m is there =
    let s = contains-split log (records.Shown m) there in
    let front = s.0 ++ records.Shown m ∷ [] in
    let whole : log ≡ front ++ s.1 = s.2 ∙ sym (append_assoc s.0 (records.Shown m ∷ []) s.1) in
    let g = prefixes_replay program c (contents_in received) front s.1 h (ap (after program c (contents_in received)) (sym whole) ∙ is) in
    let x = shown-up-to program c (contents_in received) front g.0 g.1 in
    let grown = (states_grow program c (contents_in received) s.1 g.0 h g.2).outs in
    omega (arith, x.count, fold_push shown_by 0 s.0 (records.Shown m), x.within, ap length grown.1, length-append g.0.plain.outs grown.0)

-- a state that grew has what it put out before
pub outs-on : (program : Program) (c : ComId) (received more : List Packet) (log rest : List Record) (g h : Hist) → state_after program c received log ≡ Some g → state_after program c (received ++ more) (log ++ rest) ≡ Some h → IsPrefixOf g.plain.outs h.plain.outs
outs-on program c received more log rest g h was is =
    let kept = section-state program c received more log g was in
    let z = prefixes_replay program c (contents_in (received ++ more)) log rest h is in
    let same : z.0 ≡ g = same_Some z.0 g (sym z.1 ∙ kept) in
    let grown = (states_grow program c (contents_in (received ++ more)) rest z.0 h z.2).outs in
    subst (λ (y : Hist). IsPrefixOf y.plain.outs h.plain.outs) same grown

-- what a state put out is an output of the crash-free world
pub made-stands : (program : Program) (v : PlainWorld) (c : ComId) (h : Hist) (o : Output) → IsSomeAnd (pcom_at v c) (λ (p : PlainPcom). IsPrefixOf h.plain.outs p.outs) → Contains (outputs_of h) o → Contains (outputs_at v c) o
made-stands program v c h o plain made =
    let p = open-content (λ (p : PlainPcom). IsPrefixOf h.plain.outs p.outs) (pcom_at v c) plain in
    subst (λ q. Contains (rebuilt q) o) (sym p.1) (subst (λ l. Contains (number_outputs 1 l) o) (sym p.2.1) (number-more 1 h.plain.outs p.2.0 o made))
  where
    rebuilt : Option PlainPcom → List Output
    rebuilt None = []
    rebuilt (Some p) = number_outputs 1 p.outs

-- over one world ---------------------------------------------------------------------------------------

-- what the records of each Pcom put out, with the messages of the crash-free world
abbrev pub PutOut : Program → Logs → PlainWorld → ComId → Output → Type 0
PutOut program logs v c o = IsSomeAnd (state_in program logs v c) (λ (h : Hist). Contains (outputs_of h) o)

module _ (program : Program) (found : Logs) (here : ComId → ℕ) (w : World) (past : Past) (f : IsExplainedBy program found here w past) (v : PlainWorld) (run : plain_run_of program (history_of program (forced_logs w)) ≡ Ok v) where
  pub known-given : Given program found (forced_logs w) past v
  known-given = record { explains = forced_explained program found (forced_logs w) (whole_logs w) past f.logs; run = run }

  pub the-state : (c : ComId) → is_a_pcom program c ≡ true → (h : Hist) × (state_after program c (past.received c) (log_at (forced_logs w) c) ≡ Some h) × ShowingFacts (log_at found c) (log_at (forced_logs w) c) (log_at (whole_logs w) c) (here c) h (worlds.shown_by c w.showings)
  the-state c pcom = open-content _ (state_after program c (past.received c) (log_at (forced_logs w) c)) (f.showings c pcom)

  put-out-so : (c : ComId) (o : Output) (h : Hist) → is_a_pcom program c ≡ true → state_after program c (past.received c) (log_at (forced_logs w) c) ≡ Some h → Contains (outputs_of h) o → PutOut program (forced_logs w) v c o
  put-out-so c o h pcom is made = to-world known-given c pcom (λ (g : Hist). Contains (outputs_of g) o) (subst (λ z. IsSomeAnd z (λ (g : Hist). Contains (outputs_of g) o)) (sym is) made)

  -- the crash-free world has all that a state put out
  pub plain-has : (c : ComId) (h : Hist) → is_a_pcom program c ≡ true → state_after program c (past.received c) (log_at (forced_logs w) c) ≡ Some h → IsSomeAnd (pcom_at v c) (λ (p : PlainPcom). IsPrefixOf h.plain.outs p.outs)
  plain-has c h pcom is = at-some (λ (z : Hist). IsSomeAnd (pcom_at v c) (λ (p : PlainPcom). IsPrefixOf z.plain.outs p.outs)) (state_in program (forced_logs w) v c) h (states_agree program found (forced_logs w) past v known-given.explains run c pcom ∙ is) (outputs_are_plain program found (forced_logs w) past v known-given.explains run c pcom)

  -- an output of the crash-free world
  pub put-out-stands : (c : ComId) (o : Output) → is_a_pcom program c ≡ true → PutOut program (forced_logs w) v c o → Contains (outputs_at v c) o
  put-out-stands c o pcom out =
      let h = open-content (λ (z : Hist). Contains (outputs_of z) o) (state_in program (forced_logs w) v c) out in
      made-stands program v c h.0 o (at-some (λ (z : Hist). IsSomeAnd (pcom_at v c) (λ (p : PlainPcom). IsPrefixOf z.plain.outs p.outs)) (state_in program (forced_logs w) v c) h.0 h.1 (outputs_are_plain program found (forced_logs w) past v known-given.explains run c pcom)) h.2

  -- a reply is what the crash-free world has
  replies-so : (front : Front) → AllKnown program (PutOut program (forced_logs w) v) front → TellsOutputs program (forced_logs w) front
  replies-so front all u c args t reply runs pcom e g =
      let k = all c args t reply pcom e g in
      subst (λ z. IsReplyOf program (forced_logs w) z c t reply) (same-ok {E = ℕ} v u (sym run ∙ runs)) (record { output = k.0; number = k.1; values = k.2; own = k.3; put_out = k.4; stands = put-out-stands c k.0 pcom k.4 })

  -- what the logs have as shown
  shown-put-out : (c : ComId) (m : ℕ) (o : Output) → Contains (log_at (forced_logs w) c) (records.Shown m) → counted (outputs_at v c) m ≡ Some o → is_a_pcom program c ≡ true → PutOut program (forced_logs w) v c o
  shown-put-out c m o there is pcom =
      let h = the-state c pcom in
      let few = shown-made program c (past.received c) (log_at (forced_logs w) c) h.0 m h.1 there in
      let p = open-content (λ (p : PlainPcom). IsPrefixOf h.0.plain.outs p.outs) (pcom_at v c) (plain-has c h.0 pcom h.1) in
      put-out-so c o h.0 pcom h.1 (counted-front h.0.plain.outs p.2.0 m o (sym (ap (λ q. counted (rebuilt q) m) p.1 ∙ ap (λ l. counted (number_outputs 1 l) m) p.2.1) ∙ is) few)
    where
      rebuilt : Option PlainPcom → List Output
      rebuilt None = []
      rebuilt (Some p) = number_outputs 1 p.outs

  rebuilt-known : AllKnown program (PutOut program (forced_logs w) v) (front_of v (forced_logs w))
  rebuilt-known =
      logs-known program (PutOut program (forced_logs w) v) v 0 (forced_logs w)
      (λ j n log m o is at there. shown-put-out (record { 0 = n }) m o (subst (λ l. Contains l (records.Shown m)) (sym (let same : n ≡ j = omega (arith, is) in ap (λ k. unwrap_or (slice_get (forced_logs w) k) []) same ∙ ap (λ o. unwrap_or o []) at)) there))

pub rebuilt_fronts_tell : RebuiltFrontsTellOutputs
rebuilt_fronts_tell program found here w v x run = replies-so program found here w x.0 x.1 v run (front_of v (forced_logs w)) (rebuilt-known program found here w x.0 x.1 v run)

-- along an execution -----------------------------------------------------------------------------------

-- a past that goes on from another one
pub record Further (program : Program) (found : Logs) (past : Past) (w : World) : Type 0 where
  pub here : ComId → ℕ
  pub later : Past
  pub explained : IsExplainedBy program found here w later
  pub received : (c : ComId) → IsPrefixOf (past.received c) (later.received c)

module _ (program : Program) (fingerprint : List ℕ) (found : Logs) (fit : IsFit program) where
  pub step-on : (here : ComId → ℕ) (past : Past) (p : SystemState) (v : Transition) → IsEvent program v.trace.event → KeepsLogs fingerprint p → (step : CoreStep program fingerprint p v.trace.event v.trace v.state) → IsExplainedBy program found here p.world past → WorldFits p.world → Further program found past v.state.world
  step-on here past p v event keeps step f bytes = record { here = here_behind here p.world v.state.world; later = z.0; explained = z.1; received = z.2 }
    where
      kept : IsExplainedInBytes program found here p.world
      kept = record { explained = (past, f); bytes = bytes }

      fits : (d : ComId) → is_of v.trace.event v.trace d ≡ true → DiskFits program p.world v.trace.event step.outcome (record { world = v.state.world; trace = v.trace }) d
      fits d is =
          let t = disk-tells program fingerprint found here p v fit.playable fit.bytes event keeps step kept d is in
          record { found = t.found; left = λ stopped. leaves-either program p.world v.trace.event step.outcome d (t.left stopped) }

      z : (later : Past) × IsExplainedBy program found (here_behind here p.world v.state.world) v.state.world later × ((d : ComId) → IsPrefixOf (past.received d) (later.received d))
      z = events_go_on program found here p.world v.trace.event step.outcome (record { world = v.state.world; trace = v.trace }) past fit.playable fit.flat event (passes-none program fingerprint p v.trace.event.what keeps step.fits)
          fits (reads-images program found p.world v.trace.event.what fit.playable fit.bytes bytes) step.happens f

  pub run-on : (x : PolicyIntervals) (a b : Agenda) (here : ComId → ℕ) (past : Past) (p : SystemState) (vs : List Transition) → MayCome program a → KeepsLogs fingerprint p → Executes program fingerprint x a p vs b → IsExplainedBy program found here p.world past → WorldFits p.world → Further program found past (last_state p vs).world
  run-on x a b here past p [] may keeps runs f bytes = record { here = here; later = past; explained = f; received = λ c. prefix-self (past.received c) }
  run-on x a b here past p (v ∷ vs) may keeps runs f bytes =
      let next = next-is program p.world x a _ may runs.1 in
      let one = step-on here past p v next.event keeps runs.2 f bytes in
      let more = (core_steps_keep program fingerprint found here p v fit.playable fit.flat fit.bytes next.event keeps runs.2 (record { explained = (past, f); bytes = bytes })).bytes in
      let rest = run-on x (agenda_behind a runs.0 v.trace) b one.here one.later v.state vs next.left runs.2.logs runs.3 one.explained more in
      record { here = rest.here; later = rest.later; explained = rest.explained; received = λ c. prefix-trans (past.received c) (one.later.received c) (rest.later.received c) (one.received c) (rest.received c) }

-- from one world to another, over events that have no stop
module _ (program : Program) (fingerprint : List ℕ) (x : PolicyIntervals) (events : List Event) (b : Agenda) (p : SystemState) (vs : List Transition) (found : Logs) (fit : IsFit program) (may : (e : Event) → Contains events e → IsEvent program e) (none : AllStopless events) (s : Stands program fingerprint found p) (runs : Executes program fingerprint x (whole_agenda events false) p vs b) where
  abbrev pub past : Past
  past = s.explained.explained.0

  abbrev pub f : IsExplainedBy program found s.here p.world past
  f = s.explained.explained.1

  abbrev pub w : World
  w = (last_state p vs).world

  pub end : Further program found past w
  end = run-on program fingerprint found fit x (whole_agenda events false) b s.here past p vs may s.keeps runs f s.explained.bytes

  pub sound : (v : PlainWorld) × IsSound program (forced_logs w) v
  sound = cut-sound program found end.here w end.later end.explained (forced_logs w) (forced-cut program found end.here w end.later end.explained)

  pub grows : (c : ComId) → IsPrefixOf (log_at (forced_logs p.world) c) (log_at (forced_logs w) c)
  grows = grows-along program fingerprint x b found s.here p vs fit (runs-stopless program fingerprint x (whole_agenda events false) b p vs none runs) (record { agenda = whole_agenda events false; may = may; keeps = s.keeps; runs = runs; explained = s.explained })

  -- what was put out before
  pub start : (v : PlainWorld) × Given program found (forced_logs p.world) past v
  start = given program found (forced_logs p.world) past (forced_explained program found (forced_logs p.world) (whole_logs p.world) past f.logs)

  -- the states of a Pcom
  pub record Between (c : ComId) : Type 0 where
    pub old : Hist
    pub old_is : state_after program c (past.received c) (log_at (forced_logs p.world) c) ≡ Some old
    pub new : Hist
    pub new_is : state_after program c (end.later.received c) (log_at (forced_logs w) c) ≡ Some new
    pub outs : IsPrefixOf old.plain.outs new.plain.outs

  pub between : (c : ComId) → is_a_pcom program c ≡ true → Between c
  between c pcom =
      let g = the-state program found s.here p.world past f start.0 start.1.run c pcom in
      let h = the-state program found end.here w end.later end.explained sound.0 sound.1.legal c pcom in
      let more = end.received c in
      let rest = grows c in
      record {
        old = g.0;
        old_is = g.1;
        new = h.0;
        new_is = h.1;
        outs = outs-on program c (past.received c) more.0 (log_at (forced_logs p.world) c) rest.0 g.0 h.0 g.1 (ap (λ r. state_after program c r (log_at (forced_logs p.world) c ++ rest.0)) (sym more.1) ∙ ap (state_after program c (end.later.received c)) (sym rest.1) ∙ h.1);
      }

  pub put-out-still : (c : ComId) (o : Output) → is_a_pcom program c ≡ true → PutOut program (forced_logs p.world) start.0 c o → PutOut program (forced_logs w) sound.0 c o
  put-out-still c o pcom was =
      let g = open-content (λ (h : Hist). Contains (outputs_of h) o) (state_in program (forced_logs p.world) start.0 c) was in
      let y = between c pcom in
      let same : y.old ≡ g.0 = same_Some y.old g.0 (sym y.old_is ∙ (sym (states_agree program found (forced_logs p.world) past start.0 start.1.explains start.1.run c pcom) ∙ g.1)) in
      put-out-so program found end.here w end.later end.explained sound.0 sound.1.legal c o y.new pcom y.new_is
      (subst (λ l. Contains (number_outputs 1 l) o) (sym y.outs.1) (number-more 1 y.old.plain.outs y.outs.0 o (subst (λ (z : Hist). Contains (outputs_of z) o) (sym same) g.2)))

  pub shown-put-out-there : (c : ComId) (o : Output) (t : Trace) → is_a_pcom program c ≡ true → Contains (traces_of vs) t → Shows c o t → PutOut program (forced_logs w) sound.0 c o
  shown-put-out-there c o t pcom there shows =
      (invariant_gives_explained program found end.here w (end.later, end.explained)).1.showings c o ((executions-gather program fingerprint x (whole_agenda events false) b p vs runs).shows c o t there shows) (forced_logs w) sound.0 (forced-cut program found end.here w end.later end.explained) sound.1

pub seeing_fronts_tell : SeeingFrontsTellOutputs
seeing_fronts_tell program fingerprint x events b p vs found front fit may none s runs tells =
    let e = end program fingerprint x events b p vs found fit may none s runs in
    let v = sound program fingerprint x events b p vs found fit may none s runs in
    replies-so program found e.here (last_state p vs).world e.later e.explained v.0 v.1.legal (fold saw front (traces_of vs))
    (all-saw-known program (PutOut program (forced_logs (last_state p vs).world) v.0) (traces_of vs) front (shown-put-out-there program fingerprint x events b p vs found fit may none s runs) kept)
  where
    kept : AllKnown program (PutOut program (forced_logs (last_state p vs).world) (sound program fingerprint x events b p vs found fit may none s runs).0) front
    kept c args t reply pcom h g =
        let first = start program fingerprint x events b p vs found fit may none s runs in
        let k = tells first.0 c args t reply first.1.run pcom h g in
        (k.output, k.number, k.values, k.own, put-out-still program fingerprint x events b p vs found fit may none s runs c k.output pcom k.put_out)

-- along rounds -----------------------------------------------------------------------------------------

pub round-tells : (program : Program) (fingerprint : List ℕ) (x : PolicyIntervals) (found : Logs) (front : Front) (p : SystemState) (i : Line) (r : Round Front Note) → IsFit program → ((e : Event) → turn p.world front i ≡ Happens e → IsEvent program e) → Stands program fingerprint found p → TellsOutputs program (forced_logs p.world) front →
    IsRound serving program fingerprint x front p i r → TellsOutputs program (forced_logs (state_behind p r).world) (side_behind serving front r)
round-tells program fingerprint x found front p i (Ran vs) fit may s tells is =
    seeing_fronts_tell program fingerprint x (is.0 ∷ []) is.2.agenda p vs found front fit (one-comes program is.0 false (may is.0 is.1)) (event-stopless p.world front i is.0 is.1, tt) s is.2.executes tells
round-tells program fingerprint x found front p i (Told note behind) fit may s tells is = subst (TellsOutputs program (forced_logs p.world)) (sym (told-kept program fingerprint x (record { 0 = 0 }) p.world front behind i note is)) tells
round-tells program fingerprint x found front p i (Leapt note behind q) fit may s tells is = absurd is.1

pub served_fronts_tell : ServedFrontsTellOutputs
served_fronts_tell program fingerprint x found front p [] [] fit may s tells are = tells
served_fronts_tell program fingerprint x found front p [] (r ∷ rs) fit may s tells are = absurd are
served_fronts_tell program fingerprint x found front p (i ∷ is) [] fit may s tells are = absurd are
served_fronts_tell program fingerprint x found front p (i ∷ is) (r ∷ rs) fit may s tells are =
    served_fronts_tell program fingerprint x found (side_behind serving front r) (state_behind p r) is rs fit (λ j h. may j (in-tail i j is h))
    (round-stands serving program fingerprint x found fit (λ t q o note k g. absurd k) front p i r (may i (in-head i is) p.world front) are.0 s)
    (round-tells program fingerprint x found front p i r fit (may i (in-head i is) p.world front) s tells are.0) are.1
