-- A core step keeps a world explained.
use Rattle.std.proofs.Common.{◌≡◌, refl, subst, ℕ, ◌+◌, false, List, Option, Some, None, option_map, Ok, Err, Result, arith, drop, zero, suc, length, [], ◌∷◌, inl, inr, ⊎_elim}
use Rattle.std.specs.Prelude.{MatchOption, ⊤, unwrap_or}
use Rattle.ic_base.specs.declared.limits.TheConstants.{FIRST_GATE}
use Rattle.ic_base.specs.declared.events.What.{What}
use Rattle.ic_base.specs.declared.scenario.Program.{Program}
use Rattle.ic_base.specs.declared.record.Record.{Record}
use Rattle.ic_base.specs.declared.record.Batch.{Batch}
use Rattle.def_log.specs.Directory.{slots_in}
use Rattle.def_log.specs.Frame.{frame_of}
use Rattle.def_log.specs.Log.{◌>>=◌, placed_with, records_in, log_of}
use Rattle.def_log.specs.Sizes.{gate_behind, gate_in, span, size_in}
use Rattle.def_step.specs.Calls.{Called, call_of, node_is_full}
use Rattle.def_step.specs.Pcom.{Call, Gives, Gets, Forces, Checkpoints, Resends, Emits}
use Rattle.def_step.specs.World.{Node, Runs, Serves, Down, External, node_at, After, happens}
use Rattle.def_run.specs.SystemStates.{SystemState, KeepsLog, KeepsLogs, file_of, without_stop, is_com}
use Rattle.def_run.specs.CoreSteps.{is_call_full, is_full_at}
use Rattle.law_step.specs.Steps.{PassesNoLimit, LeavesOne, LeavesByGate}
use Rattle.law_step.proofs.Events.{events_keep_explained}
use Rattle.law_run.specs.Executions.{IsExplainedInBytes, CoreStepsKeepExplained}
use Rattle.std.proofs.Common.{◌-◌, ◌∙◌, ap, sym, nat_le, true, cond, arith}
use Rattle.ic_base.specs.declared.messages.ComId.{ComId}
use Rattle.std.proofs.lemmas.Option.{same_Some}
use Rattle.ic_base.specs.declared.events.Stop.{Stop}
use Rattle.def_log.specs.Sizes.{gate_in}
use Rattle.def_log.specs.Gated.{GatedWrite, log_writes}
use Rattle.def_log.specs.Stops.{writes_torn, stop_torn, is_open_at}
use Rattle.def_step.specs.World.{DiskOutcome}
use Rattle.def_run.specs.SystemStates.{Transition, is_of}
use Rattle.def_run.specs.CoreSteps.{CoreStep, MeetsDisk, IsTornAt, IsTornBy, is_stopped, loads_first, would_force}
use Rattle.def_run.specs.CoreSteps.{forced_of as on_disk}
use Rattle.def_facts.specs.Logs.{Logs, log_at}
use Rattle.law_replay.proofs.Lists.{none-some, self-com}
use Rattle.law_run.proofs.Torn.{torn_reads, gates_are_shut}
use Rattle.law_step.proofs.Stopping.{Torn, stops-leave, leaves-either}
use Rattle.law_step.proofs.Tearing.{IsOnDisk}
use Rattle.ic_base.specs.declared.events.What.TheVariants.{Input, Deliver, Lose, Packet as Numbered, Force, Checkpoint, Resend, Emit, Crash, Recover}
use Rattle.def_step.specs.World.{World}
use Rattle.law_pcom.proofs.Images.{images_are_read}
use Rattle.law_step.specs.Inputs.{DiskTells}
use Rattle.law_step.specs.Steps.{ReadsImages}
use Rattle.ic_base.specs.declared.events.Event.{Event}
use Rattle.std.specs.List.{AllByRecursion}
use Rattle.def_log.specs.Spelling.{Fits}
use Rattle.def_facts.specs.World.{forced_logs, forced_of}
use Rattle.law_step.proofs.Nodes.{log-is}
use Rattle.law_syntax.specs.Events.{IsEvent}
use Rattle.law_run.specs.ProgramBytes.{HasBytes}
use Rattle.law_run.specs.WorldBytes.{NodeFits, WorldFits}
use Rattle.def_facts.specs.Playable.{IsPlayable}
use Rattle.def_step.specs.Settle.{asked_of}
use Rattle.law_run.proofs.WorldBytes.{events_keep_bytes}
use Rattle.law_run.proofs.Knowing.{images_have_bytes}

-- a log that is read has a size
pub size-some : (file : List ℕ) (records : List Record) → log_of file ≡ Ok records → (n : ℕ) × (size_in file ≡ Some n)
size-some file records e = at (frame_of file) e
  where
    at : (r : Result (List Batch) ℕ) → ((r >>= placed_with (slots_in file)) >>= (λ rs. Ok (records_in rs))) ≡ Ok records → (n : ℕ) × (option_map (λ gate. gate + 1) (gate_behind FIRST_GATE r) ≡ Some n)
    at (Ok bs) k = (FIRST_GATE + span bs + 1, refl)
    at (Err place) k = absurd (cc)

pub passes-none : (program : Program) (fingerprint : List ℕ) (p : SystemState) (what : What) → KeepsLogs fingerprint p → is_full_at program p what ≡ false → PassesNoLimit program p.world what
passes-none program fingerprint p what keeps = at (call_of p.world what)
  where
    at : (o : Option Called) → elim o [ None ↦ false | Some x ↦ is_call_full program p x ] ≡ false → MatchOption o ⊤ (λ x. MatchOption (node_at p.world x.who) ⊤ (λ node. (size : ℕ) × (node_is_full program x.who x.call size node ≡ false)))
    at None e = tt
    at (Some x) e = by (node_at p.world x.who) (keeps x.who) e
      where
        of : (n : Node) → KeepsLog fingerprint x.who (file_of p x.who) (Some n) → (o : Option ℕ) → size_in (file_of p x.who) ≡ o → elim o [ None ↦ false | Some size ↦ node_is_full program x.who x.call size n ] ≡ false → (size : ℕ) × (node_is_full program x.who x.call size n ≡ false)
        of n k (Some size) is f = (size, f)
        of (Runs q) k None is f = let s = size-some (file_of p x.who) q.log.forced k.holds in absurd (cc (s.1, is))
        of (Serves t) k None is f = let s = size-some (file_of p x.who) t.records k.holds in absurd (cc (s.1, is))
        of (Down log) k None is f = let s = size-some (file_of p x.who) log k.holds in absurd (cc (s.1, is))
        of External k None is f = (0, none x.call)
          where
            none : (call : Call) → node_is_full program x.who call 0 External ≡ false
            none (Gives handler args) = refl
            none (Gets packet) = refl
            none Forces = refl
            none Checkpoints = refl
            none Resends = refl
            none Emits = refl

        by : (o : Option Node) → KeepsLog fingerprint x.who (file_of p x.who) o → elim o [ None ↦ false | Some node ↦ elim (size_in (file_of p x.who)) [ None ↦ false | Some size ↦ node_is_full program x.who x.call size node ] ] ≡ false → MatchOption o ⊤ (λ node. (size : ℕ) × (node_is_full program x.who x.call size node ≡ false))
        by None k f = tt
        by (Some n) k f = of n k (size_in (file_of p x.who)) refl f

pub same-read : (r : Result (List Record) ℕ) (a b : List Record) → r ≡ Ok a → r ≡ Ok b → a ≡ b
same-read r a b e f = cc (e, f)

-- what a disk has, of a component that has one
pub on-log : (fingerprint : List ℕ) (c : ComId) (file : List ℕ) (o : Option Node) → KeepsLog fingerprint c file o → IsOnDisk o → log_of file ≡ Ok (on_disk o)
on-log fingerprint c file None k on = absurd on
on-log fingerprint c file (Some (Runs p)) k on = k.holds
on-log fingerprint c file (Some (Serves t)) k on = k.holds
on-log fingerprint c file (Some (Down log)) k on = k.holds
on-log fingerprint c file (Some External) k on = absurd on

pub gate-of : (file : List ℕ) (size : ℕ) → size_in file ≡ Some size → gate_in file ≡ Some (size - 1)
gate-of file size e = at (gate_in file) e
  where
    back : (gate : ℕ) → option_map (λ g. g + 1) (Some gate) ≡ Some size → gate ≡ size - 1
    back gate k = less gate size (same_Some (gate + 1) size k)
      where
        less : (g n : ℕ) → g + 1 ≡ n → g ≡ n - 1
        less g n h = omega (arith, h)

    at : (o : Option ℕ) → option_map (λ g. g + 1) o ≡ Some size → o ≡ Some (size - 1)
    at None k = none-some size k
    at (Some gate) k = ap (λ g. Some g) (back gate k)

pub loaded-file : (stop : Stop) (loads : ℕ) (old : List ℕ) (writes : List GatedWrite) → nat_le stop.call loads ≡ true → stop_torn stop loads old writes ≡ old
loaded-file stop loads old writes e = ap (λ b. cond b old (writes_torn (stop.call - loads) stop.keep stop.fill old writes)) e

-- what a component has on its disk is its log
pub disk-log : (w : World) (c : ComId) → on_disk (node_at w c) ≡ log_at (forced_logs w) c
disk-log w c = at (node_at w c) ∙ sym (log-is forced_of w c)
  where
    at : (o : Option Node) → on_disk o ≡ unwrap_or (option_map forced_of o) []
    at None = refl
    at (Some (Runs p)) = refl
    at (Some (Serves t)) = refl
    at (Some (Down log)) = refl
    at (Some External) = refl

-- without its stop an event is one that may come
pub without-event : (program : Program) (e : Event) → IsEvent program e → IsEvent program (without_stop e.what)
without-event program e event = record { handler = event.handler; values = event.values; stop = tt }

pub disk-fits : (o : Option Node) → MatchOption o ⊤ NodeFits → AllByRecursion Fits (on_disk o)
disk-fits None h = tt
disk-fits (Some (Runs p)) h = h.forced
disk-fits (Some (Serves t)) h = h.records
disk-fits (Some (Down log)) h = h
disk-fits (Some External) h = tt

pub node-fits : (w : World) (c : ComId) → WorldFits w → MatchOption (node_at w c) ⊤ NodeFits
node-fits w c h = at (node_at w c) refl
  where
    at : (o : Option Node) → node_at w c ≡ o → MatchOption o ⊤ NodeFits
    at None e = tt
    at (Some n) e = h.nodes c n e

pub drop-fits : (n : ℕ) (rs : List Record) → AllByRecursion Fits rs → AllByRecursion Fits (drop n rs)
drop-fits zero rs h = h
drop-fits (suc n) [] h = tt
drop-fits (suc n) (r ∷ rs) h = drop-fits n rs h.1

-- what is met of a core step, beside the step itself
record Meets (program : Program) (fingerprint : List ℕ) (found : Logs) (here : ComId → ℕ) (p : SystemState) (e : Event) : Type 0 where
  play : IsPlayable program
  bytes : HasBytes program
  event : IsEvent program e
  keeps : KeepsLogs fingerprint p
  fits : is_full_at program p e.what ≡ false
  kept : IsExplainedInBytes program found here p.world

-- where a load reads the log that stands, each number has its bytes behind the event without its stop
behind-fits : (program : Program) (fingerprint : List ℕ) (found : Logs) (here : ComId → ℕ) (p : SystemState) (e : Event) (x : DiskOutcome) (a : After) → Meets program fingerprint found here p e → ((c : ComId) (log : List Record) → e.what ≡ Recover c → node_at p.world c ≡ Some (Down log) → x.found ≡ log) →
    happens program p.world (without_stop e.what) x ≡ Some a → WorldFits a.world
behind-fits program fingerprint found here p e x a m loads ran =
    events_keep_bytes program found here p.world (without_stop e.what) x a m.bytes m.play (without-event program e m.event) (passes-none program fingerprint p e.what m.keeps m.fits)
    (λ c log is down. subst (AllByRecursion Fits) (sym (loads c log is down)) (m.kept.bytes.nodes c (Down log) down)) (λ c there stopped asked. absurd (cc there)) m.kept.explained m.kept.bytes ran

-- the records that an event would force have their bytes
would-fit : (program : Program) (fingerprint : List ℕ) (found : Logs) (here : ComId → ℕ) (p : SystemState) (e : Event) (x : DiskOutcome) (c : ComId) → Meets program fingerprint found here p e → ((c : ComId) (log : List Record) → e.what ≡ Recover c → node_at p.world c ≡ Some (Down log) → x.found ≡ log) →
    AllByRecursion Fits (would_force program p.world e.what x c)
would-fit program fingerprint found here p e x c m loads = at (happens program p.world (without_stop e.what) x) refl
  where
    at : (o : Option After) → happens program p.world (without_stop e.what) x ≡ o → AllByRecursion Fits (elim o [ None ↦ [] | Some a ↦ drop (length (on_disk (node_at p.world c))) (on_disk (node_at a.world c)) ])
    at None is = tt
    at (Some a) is =
        drop-fits (length (on_disk (node_at p.world c))) (on_disk (node_at a.world c)) (disk-fits (node_at a.world c) (node-fits a.world c (behind-fits program fingerprint found here p e x a m loads is)))

-- a load of the event's component reads the log that stands
loads-log : (fingerprint : List ℕ) (program : Program) (p : SystemState) (v : Transition) (x : DiskOutcome) → KeepsLogs fingerprint p → ((c : ComId) → is_of v.trace.event v.trace c ≡ true → MeetsDisk program x p v.trace.event v.trace c v.state) → (c : ComId) (log : List Record) → v.trace.event.what ≡ Recover c → node_at p.world c ≡ Some (Down log) → x.found ≡ log
loads-log fingerprint program p v x keeps disk c log is down =
    same-read (log_of (file_of p c)) x.found log (disk c (ap (λ w. is_com c (asked_of w v.trace.answer)) is ∙ self-com c)).found (subst (KeepsLog fingerprint c (file_of p c)) down (keeps c)).holds

torn-disk : (program : Program) (fingerprint : List ℕ) (found : Logs) (here : ComId → ℕ) (p : SystemState) (v : Transition) (x : DiskOutcome) (c : ComId) → Meets program fingerprint found here p v.trace.event → ((c : ComId) → is_of v.trace.event v.trace c ≡ true → MeetsDisk program x p v.trace.event v.trace c v.state) → is_of v.trace.event v.trace c ≡ true → is_stopped v.trace.answer ≡ true → Torn program p.world v.trace.event x c
torn-disk program fingerprint found here p v x c m disks is stopped = record {
  loaded = λ log down. same-read (log_of (file_of p c)) x.found log disk.found (subst (KeepsLog fingerprint c (file_of p c)) down (m.keeps c)).holds;
  early = λ stop stops on early.
      let t = torn_at stop stops in
      let was : file_of v.state c ≡ file_of p c = t.image ∙ loaded-file stop (loads_first program c (node_at p.world c)) (file_of p c) (log_writes (file_of p c) (x.size - 1) (would_force program p.world v.trace.event.what x c)) early in (
        t.gate_byte ∙ ap (λ l. is_open_at l (x.size - 1)) was ∙ gates_are_shut (x.size - 1) (file_of p c) (on_disk (node_at p.world c)) (on-log fingerprint c (file_of p c) (node_at p.world c) (m.keeps c) on) (gate-of (file_of p c) x.size disk.size),
        same-read (log_of (file_of p c)) x.left (on_disk (node_at p.world c)) (ap log_of (sym was) ∙ t.left) (on-log fingerprint c (file_of p c) (node_at p.world c) (m.keeps c) on),
      );
  late = λ stop stops on some.
      let t = torn_at stop stops in
      let gate : x.is_open ≡ is_open_at (stop_torn stop (loads_first program c (node_at p.world c)) (file_of p c) (log_writes (file_of p c) (x.size - 1) (would_force program p.world v.trace.event.what x c))) (x.size - 1) = t.gate_byte ∙ ap (λ l. is_open_at l (x.size - 1)) t.image in
      ⊎_elim (λ y. inl (gate ∙ y.0, y.1)) (λ y. inr (gate ∙ y.0, y.1))
      (torn_reads stop (loads_first program c (node_at p.world c)) (x.size - 1) (file_of p c) (would_force program p.world v.trace.event.what x c) (on_disk (node_at p.world c)) x.left (on-log fingerprint c (file_of p c) (node_at p.world c) (m.keeps c) on)
      (gate-of (file_of p c) x.size disk.size) some (would-fit program fingerprint found here p v.trace.event x c m (loads-log fingerprint program p v x m.keeps disks)) (ap log_of (sym t.image) ∙ t.left));
}
  where
    disk : MeetsDisk program x p v.trace.event v.trace c v.state
    disk = disks c is

    torn_at : (stop : Stop) → v.trace.event.stop ≡ Some stop → IsTornAt x stop (loads_first program c (node_at p.world c)) (x.size - 1) (would_force program p.world v.trace.event.what x c) (file_of p c) (file_of v.state c)
    torn_at stop stops = subst (IsTornBy program x p v.trace.event c v.state) stops (disk.torn stopped)

-- images whose states have their bytes are read
pub reads-images : (program : Program) (found : Logs) (w : World) (what : What) → IsPlayable program → HasBytes program → WorldFits w → ReadsImages program found w what
reads-images program found w (Recover c) play bytes fits = λ log here past down pcom f. images_are_read program c (past.received c) log (images_have_bytes program found here w past c log bytes play fits f down pcom)
reads-images program found w (Input c handler args) play bytes fits = tt
reads-images program found w (Deliver from to) play bytes fits = tt
reads-images program found w (Lose from to) play bytes fits = tt
reads-images program found w (Numbered i) play bytes fits = tt
reads-images program found w (Force c) play bytes fits = tt
reads-images program found w (Checkpoint c) play bytes fits = tt
reads-images program found w (Resend c) play bytes fits = tt
reads-images program found w (Emit c) play bytes fits = tt
reads-images program found w (Crash c) play bytes fits = tt

-- what a stop leaves is the log before the step, or the one behind it where the gate's byte is 1
leaves-by-gate : (program : Program) (fingerprint : List ℕ) (found : Logs) (here : ComId → ℕ) (p : SystemState) (v : Transition) → IsPlayable program → HasBytes program → IsEvent program v.trace.event → KeepsLogs fingerprint p → (step : CoreStep program fingerprint p v.trace.event v.trace v.state) → IsExplainedInBytes program found here p.world
    → (c : ComId) → is_of v.trace.event v.trace c ≡ true → is_stopped v.trace.answer ≡ true → LeavesByGate program p.world v.trace.event step.outcome c
leaves-by-gate program fingerprint found here p v play bytes event keeps step kept c is stopped = stops-leave program p.world v.trace.event step.outcome (record { world = v.state.world; trace = v.trace }) event.stop
    (λ f mine. torn-disk program fingerprint found here p v step.outcome f (record { play = play; bytes = bytes; event = event; keeps = keeps; fits = step.fits; kept = kept }) step.disk mine stopped) step.happens c is stopped

-- it tells its disk's log and what its stop leaves
pub disk-tells : (program : Program) (fingerprint : List ℕ) (found : Logs) (here : ComId → ℕ) (p : SystemState) (v : Transition) → IsPlayable program → HasBytes program → IsEvent program v.trace.event → KeepsLogs fingerprint p → (step : CoreStep program fingerprint p v.trace.event v.trace v.state) → IsExplainedInBytes program found here p.world
    → (c : ComId) → is_of v.trace.event v.trace c ≡ true → DiskTells program p.world v.trace.event step.outcome (record { world = v.state.world; trace = v.trace }) c
disk-tells program fingerprint found here p v play bytes event keeps step kept c is = record {
  found = λ log down. same-read (log_of (file_of p c)) step.outcome.found log (step.disk c is).found (subst (KeepsLog fingerprint c (file_of p c)) down (keeps c)).holds;
  left = leaves-by-gate program fingerprint found here p v play bytes event keeps step kept c is;
}

pub core_steps_keep : CoreStepsKeepExplained
core_steps_keep program fingerprint found here p v play flat bytes event keeps step kept = record {
  explained = events_keep_explained program found here p.world v.trace.event step.outcome a play flat event limits
      (λ c is. record {
        found = λ log down. same-read (log_of (file_of p c)) step.outcome.found log (step.disk c is).found (subst (KeepsLog fingerprint c (file_of p c)) down (keeps c)).holds;
        left = leaves c is;
      })
      (reads-images program found p.world v.trace.event.what play bytes kept.bytes) step.happens kept.explained;
  bytes = events_keep_bytes program found here p.world v.trace.event step.outcome a bytes play event limits
      (λ c log is down. subst (AllByRecursion Fits) (sym (loads c log is down)) (kept.bytes.nodes c (Down log) down))
      (λ c there stopped asked. left c (leaves c (ap (is_com c) asked ∙ self-com c) stopped)) kept.explained kept.bytes step.happens;
}
  where
    a : After
    a = record { world = v.state.world; trace = v.trace }

    limits : PassesNoLimit program p.world v.trace.event.what
    limits = passes-none program fingerprint p v.trace.event.what keeps step.fits

    m : Meets program fingerprint found here p v.trace.event
    m = record { play = play; bytes = bytes; event = event; keeps = keeps; fits = step.fits; kept = kept }

    loads : (c : ComId) (log : List Record) → v.trace.event.what ≡ Recover c → node_at p.world c ≡ Some (Down log) → step.outcome.found ≡ log
    loads = loads-log fingerprint program p v step.outcome keeps step.disk

    leaves : (c : ComId) → is_of v.trace.event v.trace c ≡ true → is_stopped v.trace.answer ≡ true → LeavesOne program p.world v.trace.event step.outcome c
    leaves c is stopped = leaves-either program p.world v.trace.event step.outcome c (leaves-by-gate program fingerprint found here p v play bytes event keeps step kept c is stopped)

    log-fits : (w : World) (c : ComId) → WorldFits w → AllByRecursion Fits (log_at (forced_logs w) c)
    log-fits w c h = subst (AllByRecursion Fits) (disk-log w c) (disk-fits (node_at w c) (node-fits w c h))

    -- what a stop leaves is the log before the step or the one behind it
    left : (c : ComId) → LeavesOne program p.world v.trace.event step.outcome c → AllByRecursion Fits step.outcome.left
    left c (inl is) = subst (AllByRecursion Fits) (sym is) (log-fits p.world c kept.bytes)
    left c (inr y) = subst (AllByRecursion Fits) (sym y.2) (log-fits y.0.world c (behind-fits program fingerprint found here p v.trace.event step.outcome y.0 m loads y.1))
