-- What an audit of the logs of a run comes to.
use Rattle.std.proofs.Common.{◌≡◌, refl, ◌∙◌, ap, sym, ℕ, suc, true, false, List, [], ◌∷◌, map, length, slice_get, Option, Some, None, option_map, option_and_then, Ok}
use Rattle.std.specs.Prelude.{⊤, MatchOption, sum_by}
use Rattle.std.proofs.lemmas.Option.{slice_get-map, same_Some}
use Rattle.ic_base.specs.declared.messages.ComId.{ComId}
use Rattle.ic_base.specs.declared.scenario.Program.{Program}
use Rattle.def_plain.specs.declared.world.PlainCom.{PlainCom}
use Rattle.def_plain.specs.declared.world.PlainCom.TheVariants as coms
use Rattle.def_plain.specs.History.{history_of}
use Rattle.def_plain.specs.Plain.{PlainWorld, as_pcom, as_ledger, pcom_at}
use Rattle.def_report.specs.Summaries.{audit_lines}
use Rattle.def_step.specs.World.{World, Node, Runs, Serves, Down, External, node_at}
use Rattle.def_run.specs.Audits.{values_in, outputs_in, audit_of_run}
use Rattle.def_run.specs.CrashFree.{HasValuesOf, EndsCrashFree}
use Rattle.def_run.specs.Executions.{whole_agenda}
use Rattle.def_run.specs.SystemStates.{last_state}
use Rattle.def_facts.specs.Logs.{Logs}
use Rattle.def_facts.specs.World.{IsExplained, forced_logs, is_of_kind}
use Rattle.law_sound.specs.Assembly.{kind_in}
use Rattle.law_sound.proofs.RunKinds.{runs_keep_kinds}
use Rattle.law_replay.proofs.Lists.{none-some, true-false, at-some}
use Rattle.law_sound.proofs.Explained.{cut-sound, forced-cut}
use Rattle.law_run.specs.Audits.{SoundLogsHaveAudits, RunsHaveAudits, CompleteRunsHaveAudits, values_on}
use Rattle.law_run.specs.Executions.{here_along}
use Rattle.law_run.proofs.Along.{at-the-end}
use Rattle.law_run.proofs.Complete.{complete_runs_end}
use Rattle.law_run.proofs.Starts.{beginnings_are_explained}

pub sound_logs_have_audits : SoundLogsHaveAudits
sound_logs_have_audits program logs v sound = ap (audit_of_run program (history_of program logs)) sound.legal

pub runs_have_audits : RunsHaveAudits
runs_have_audits program fingerprint before x events halts b p vs play flat bytes may begins runs =
    let f = beginnings_are_explained program fingerprint before p play bytes begins in
    let e = (at-the-end program fingerprint x (whole_agenda events halts) b p vs (forced_logs p.world) (λ c. 0) play flat bytes may f.1 runs f.0).explained.explained in
    let w = (last_state p vs).world in
    let s = cut-sound program (forced_logs p.world) (here_along (λ c. 0) p vs) w e.0 e.1 (forced_logs w) (forced-cut program (forced_logs p.world) (here_along (λ c. 0) p vs) w e.0 e.1) in
    (s.0, s.1, sound_logs_have_audits program (forced_logs w) s.0 s.1)

-- values --------------------------------------------------------------------------------------------

-- two lists with the same places are equal
same-places : {A : Type 0} (xs ys : List A) → ((i : ℕ) → slice_get xs i ≡ slice_get ys i) → xs ≡ ys
same-places [] [] h = refl
same-places [] (y ∷ ys) h = none-some y (h 0)
same-places (x ∷ xs) [] h = none-some x (sym (h 0))
same-places (x ∷ xs) (y ∷ ys) h = ap (λ z. z ∷ xs) (same_Some x y (h 0)) ∙ ap (λ l. y ∷ l) (same-places xs ys (λ i. h (suc i)))

-- a component that stands with the values of the crash-free world, at its place there
at-place : (v : PlainWorld) (c : ComId) (o : Option PlainCom) (n : Option Node) → slice_get v c.0 ≡ o → is_of_kind (option_map kind_in o) n ≡ true → MatchOption n ⊤ (HasValuesOf v c) → option_map values_in o ≡ option_map values_on n
at-place v c None None is kind has = refl
at-place v c None (Some n) is kind has = true-false kind
at-place v c (Some (coms.Pcom q)) (Some (Runs p)) is kind has = ap Some (at-some (λ x. x.vars ≡ p.vol.vars) (pcom_at v c) q (ap (option_and_then as_pcom) is) has)
at-place v c (Some (coms.Pcom q)) (Some (Down log)) is kind has = absurd has
at-place v c (Some (coms.Pcom q)) (Some (Serves t)) is kind has = true-false kind
at-place v c (Some (coms.Pcom q)) (Some External) is kind has = true-false kind
at-place v c (Some (coms.Pcom q)) None is kind has = true-false kind
at-place v c (Some (coms.Tcom ledger)) (Some (Serves t)) is kind has = sym (ap (option_and_then as_ledger) is) ∙ has
at-place v c (Some (coms.Tcom ledger)) (Some (Down log)) is kind has = absurd has
at-place v c (Some (coms.Tcom ledger)) (Some (Runs p)) is kind has = true-false kind
at-place v c (Some (coms.Tcom ledger)) (Some External) is kind has = true-false kind
at-place v c (Some (coms.Tcom ledger)) None is kind has = true-false kind
at-place v c (Some coms.Xcom) (Some External) is kind has = refl
at-place v c (Some coms.Xcom) (Some (Runs p)) is kind has = true-false kind
at-place v c (Some coms.Xcom) (Some (Serves t)) is kind has = true-false kind
at-place v c (Some coms.Xcom) (Some (Down log)) is kind has = true-false kind
at-place v c (Some coms.Xcom) None is kind has = true-false kind

same-values : (program : Program) (found : Logs) (here : ComId → ℕ) (w : World) (v : PlainWorld) → IsExplained program found here w → EndsCrashFree program found w v → map values_in v ≡ map values_on w.nodes
same-values program found here w v f ends = same-places (map values_in v) (map values_on w.nodes) (λ i. slice_get-map values_in v i ∙ at (record { 0 = i }) ∙ sym (slice_get-map values_on w.nodes i))
  where
    kind : (c : ComId) → is_of_kind (option_map kind_in (slice_get v c.0)) (node_at w c) ≡ true
    kind c =
        ap (λ k. is_of_kind k (node_at w c))
        (sym (slice_get-map kind_in v c.0) ∙ ap (λ l. slice_get l c.0) (runs_keep_kinds program (history_of program (forced_logs w)) v ends.sound.legal) ∙ slice_get-map (λ d. d.kind) program.components c.0)
        ∙ f.1.kinds c

    at : (c : ComId) → option_map values_in (slice_get v c.0) ≡ option_map values_on (node_at w c)
    at c = at-place v c (slice_get v c.0) (node_at w c) refl (kind c) (ends.values c)

pub complete_runs_have_audits : CompleteRunsHaveAudits
complete_runs_have_audits program fingerprint before x events p vs play flat bytes may begins run =
    let f = beginnings_are_explained program fingerprint before p play bytes begins in
    let e = (at-the-end program fingerprint x (whole_agenda events false) run.agenda p vs (forced_logs p.world) (λ c. 0) play flat bytes may f.1 run.executes f.0).explained.explained in
    let w = (last_state p vs).world in
    let v = complete_runs_end program fingerprint x events p vs (forced_logs p.world) (λ c. 0) play flat bytes may f.1 f.0 run in (
      v.0,
      v.1,
      sound_logs_have_audits program (forced_logs w) v.0 v.1.sound
          ∙ ap (λ values. Ok (audit_lines program values (sum_by outputs_in v.0) (length (history_of program (forced_logs w))))) (same-values program (forced_logs p.world) (here_along (λ c. 0) p vs) w v.0 e v.1),
    )
