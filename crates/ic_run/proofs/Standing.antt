-- What a run comes to by the laws of executions, against the crash-free world.
use Rattle.std.proofs.Common.{◌≡◌, ◌∙◌, subst, ℕ, Bool, false, List, [], length, None}
use Rattle.std.specs.List.{}
use Rattle.ic_base.specs.declared.events.Event.{Event}
use Rattle.ic_base.specs.declared.messages.Packet.TheVariants.{Data}
use Rattle.ic_base.specs.declared.refusals.WorldRefused.{WorldRefused}
use Rattle.ic_base.specs.declared.refusals.WorldRefused.TheVariants as refused
use Rattle.def_facts.specs.Explained.{IsExplainedWorld}
use Rattle.def_facts.specs.World.{IsExplained, forced_logs, whole_logs}
use Rattle.def_plain.specs.Plain.{PlainWorld}
use Rattle.def_run.specs.CrashFree.{EndsCrashFree}
use Rattle.def_run.specs.Executions.{Agenda, Executes, next, whole_agenda}
use Rattle.def_run.specs.SystemStates.{SystemState, Transition, KeepsLogs, last_state}
use Rattle.def_run.specs.Openings.{BeginsSound}
use Rattle.def_run.specs.Refusals.{IsRefused}
use Rattle.def_step.specs.Settle.{IsSettled}
use Rattle.ic_run.specs.Agendas.{MayCome, MayRun}
use Rattle.ic_run.specs.Causes.{ShowAgainBehindCrashes, AbortWithCause, MeetsSoundLogs}
use Rattle.ic_run.specs.Contents.{HaveOneContent, LedgersAreOfDecisions}
use Rattle.ic_settle.specs.Policies.{intervals_of}
use Rattle.ic_plan.specs.declared.run_texts.RunTexts.{RunTexts}
use Rattle.law_run.proofs.HasImages.{all-has}
use Rattle.law_run.specs.Ends.{AreEvents, ComesToStand}
use Rattle.law_run.proofs.Aborts.{aborts_have_causes}
use Rattle.law_run.proofs.Again.{shown_again}
use Rattle.law_run.proofs.Along.{executions_keep_logs, at-the-end}
use Rattle.law_run.proofs.Complete.{halts-same, none-left, runs_stand, runs_end}
use Rattle.law_run.proofs.Meeting.{runs_meet_sound_logs}
use Rattle.law_run.proofs.Starts.{starts_are_explained, beginnings_are_explained}
use Rattle.law_run.specs.Executions.{here_along}
use Rattle.law_settle.proofs.Quiet.{no_event_where_settled}
use Rattle.law_sound.proofs.Explained.{invariant_gives_explained}
use Rattle.law_sound.proofs.Messages.{one_content}
use Rattle.law_tcom.proofs.Books.{books_are_of_logs, decided_at_most_once}
use Rattle.ic_run.specs.Openings.{IsOpened}
use Rattle.ic_run.specs.Worlds.{agenda_of}
use Rattle.ic_run.specs.declared.opening.Opening.{Opening}
use Rattle.ic_run.specs.declared.opening.Opening.TheVariants.{Anew, Found}

module _ (r : RunTexts) (may : MayRun r) where
  pub are-events : AreEvents r.program r.schedule.events
  are-events e in-it = (all-has (MayCome r.program) r.schedule.events e may.events in-it).event

  module _ (files : List (List ℕ)) (p : SystemState) where
    -- each disk holds what its component has forced
    pub keeps-first : length r.fingerprint ≡ 32 → (opening : Opening) → IsOpened opening r.program r.fingerprint files p → KeepsLogs r.fingerprint p
    keeps-first long Anew start = (starts_are_explained r.program r.fingerprint files p may.fit.playable may.fit.bytes long start).1
    keeps-first long Found found = found.kept

    module _ (vs : List Transition) (agenda : Agenda) (executes : Executes r.program r.fingerprint (intervals_of r.policy) (agenda_of r) p vs agenda) where
      pub keeps-last : KeepsLogs r.fingerprint p → KeepsLogs r.fingerprint (last_state p vs)
      keeps-last keeps = executions_keep_logs r.program r.fingerprint (intervals_of r.policy) (agenda_of r) agenda p vs keeps executes

      pub comes-to-stand : BeginsSound r.program r.fingerprint files p → ComesToStand r.program (forced_logs p.world) vs (last_state p vs).world
      comes-to-stand begins = runs_stand r.program r.fingerprint files (intervals_of r.policy) r.schedule.events r.schedule.halts agenda p vs may.fit.playable may.fit.flat may.fit.bytes are-events begins executes

      last-explained : BeginsSound r.program r.fingerprint files p → IsExplained r.program (forced_logs p.world) (here_along (λ c. 0) p vs) (last_state p vs).world
      last-explained begins =
          let begun = beginnings_are_explained r.program r.fingerprint files p may.fit.playable may.fit.bytes begins in
          (at-the-end r.program r.fingerprint (intervals_of r.policy) (agenda_of r) agenda p vs (forced_logs p.world) (λ c. 0) may.fit.playable may.fit.flat may.fit.bytes are-events begun.1 executes begun.0).explained.explained

      pub comes-explained : BeginsSound r.program r.fingerprint files p → IsExplainedWorld r.program (last_state p vs).world
      comes-explained begins = invariant_gives_explained r.program (forced_logs p.world) (here_along (λ c. 0) p vs) (last_state p vs).world (last-explained begins)

      pub comes-contents : BeginsSound r.program r.fingerprint files p → HaveOneContent (last_state p vs).world.packets
      comes-contents begins m n put too from to k =
          let w = (last_state p vs).world in
          let x = last-explained begins in
          one_content r.program (forced_logs p.world) (forced_logs w) (whole_logs w) x.0 x.1.logs m.from n.from m n (x.1.packets.sent (Data m) put) (x.1.packets.sent (Data n) too) from to k

      pub comes-decided : BeginsSound r.program r.fingerprint files p → LedgersAreOfDecisions r.program (last_state p vs).world
      comes-decided begins t x at =
          let book = ((comes-explained begins).1.tcoms t x at).book in
          ((books_are_of_logs r.program t x.records x.book book).ledger, λ c n. decided_at_most_once r.program t x.records x.book c n book)

      pub comes-again : BeginsSound r.program r.fingerprint files p → ShowAgainBehindCrashes p vs
      comes-again begins us ms ws v w is =
          let begun = beginnings_are_explained r.program r.fingerprint files p may.fit.playable may.fit.bytes begins in
          let R : List Transition → Type 0 = λ l. Executes r.program r.fingerprint (intervals_of r.policy) (agenda_of r) p l agenda in
          shown_again r.program r.fingerprint (intervals_of r.policy) (agenda_of r) agenda p us ms ws v w (forced_logs p.world) (λ c. 0) may.fit.playable may.fit.flat may.fit.bytes are-events begun.1 (subst R is executes) begun.0

      pub comes-caused : BeginsSound r.program r.fingerprint files p → p.world.packets ≡ [] → AbortWithCause r.program p vs
      comes-caused begins none us ws w is =
          let begun = beginnings_are_explained r.program r.fingerprint files p may.fit.playable may.fit.bytes begins in
          let R : List Transition → Type 0 = λ l. Executes r.program r.fingerprint (intervals_of r.policy) (agenda_of r) p l agenda in
          aborts_have_causes r.program r.fingerprint (intervals_of r.policy) (agenda_of r) agenda p us ws w (forced_logs p.world) (λ c. 0) may.fit.playable may.fit.flat may.fit.bytes are-events begun.1 (subst R is executes) begun.0 none

      pub comes-to-rest : BeginsSound r.program r.fingerprint files p → r.schedule.halts ≡ false → next (last_state p vs).world (intervals_of r.policy) agenda ≡ None → IsSettled (last_state p vs).world
      comes-to-rest begins no-halt nothing =
          let last = last-explained begins in
          let going : agenda.halts ≡ false = halts-same r.program r.fingerprint (intervals_of r.policy) (agenda_of r) agenda p vs executes ∙ no-halt in
          (no_event_where_settled r.program (forced_logs p.world) (here_along (λ c. 0) p vs) (last_state p vs).world last.0 last.1).0 (none-left (last_state p vs).world (intervals_of r.policy) agenda going nothing)

      pub comes-to-end : BeginsSound r.program r.fingerprint files p → r.schedule.halts ≡ false → next (last_state p vs).world (intervals_of r.policy) agenda ≡ None → (v : PlainWorld) × EndsCrashFree r.program (forced_logs p.world) (last_state p vs).world v
      comes-to-end begins no-halt nothing =
          let R : Bool → Type 0 = λ h. Executes r.program r.fingerprint (intervals_of r.policy) (whole_agenda r.schedule.events h) p vs agenda in
          (runs_end r.program r.fingerprint files (intervals_of r.policy) r.schedule.events p vs may.fit.playable may.fit.flat may.fit.bytes are-events begins
          (record { agenda = agenda; executes = subst R no-halt executes; nothing = nothing })).1

      -- over sound logs no foreign log is met, and a bad one only where a Tcom has no next epoch
      pub meets-sound : BeginsSound r.program r.fingerprint files p → (received : ℕ) (e : Event) (why : WorldRefused) → IsRefused r.program r.fingerprint (last_state p vs) received e why → MeetsSoundLogs r.program (last_state p vs) e.what why
      meets-sound begins received e (refused.Bad t place) cause =
          (runs_meet_sound_logs r.program r.fingerprint files (intervals_of r.policy) r.schedule.events r.schedule.halts agenda p vs received e may.fit.playable may.fit.flat may.fit.bytes are-events begins executes).0 t place cause
      meets-sound begins received e (refused.Foreign c kept) cause =
          (runs_meet_sound_logs r.program r.fingerprint files (intervals_of r.policy) r.schedule.events r.schedule.halts agenda p vs received e may.fit.playable may.fit.flat may.fit.bytes are-events begins executes).1 c kept cause
      meets-sound begins received e (refused.Limit which) cause = tt
      meets-sound begins received e (refused.LogFull c) cause = tt
      meets-sound begins received e (refused.Failed c) cause = tt
      meets-sound begins received e refused.Memory cause = tt
