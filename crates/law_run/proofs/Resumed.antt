-- A run is taken up from what another one leaves on its disks.
use Rattle.std.proofs.Common.{◌≡◌, refl, ◌∙◌, sym, subst, Bool, true, false, ◌||◌, Option, Some, None, option_map, inl, inr, List, ℕ}
use Rattle.std.specs.Prelude.{slice_get}
use Rattle.ic_base.specs.declared.messages.ComId.{ComId}
use Rattle.ic_base.specs.declared.messages.Kind.{Kind}
use Rattle.ic_base.specs.declared.messages.Kind.TheVariants as kinds
use Rattle.ic_base.specs.declared.scenario.Component.{Component}
use Rattle.ic_base.specs.declared.scenario.Program.{Program}
use Rattle.ic_base.specs.Programs.{declares, is_pcom, is_tcom}
use Rattle.def_step.specs.World.{Node, Runs, Serves, Down, External, node_at}
use Rattle.def_run.specs.CoreSteps.{forced_of as on_disk}
use Rattle.def_run.specs.Executions.{whole_agenda}
use Rattle.def_log.specs.Laws.{IsBytes}
use Rattle.def_run.specs.Openings.{BeginsSound, IsFound}
use Rattle.def_run.specs.SystemStates.{SystemState, KeepsLogs, has_disk, file_of, last_state}
use Rattle.def_facts.specs.Logs.{Logs, log_at}
use Rattle.def_facts.specs.Sound.{AreSound}
use Rattle.def_facts.specs.World.{IsExplained, forced_logs, is_of_kind, kind_of}
use Rattle.law_found.specs.Past.{IsLogList}
use Rattle.law_replay.proofs.Lists.{true-false}
use Rattle.law_sound.proofs.Explained.{cut-sound}
use Rattle.law_step.proofs.Tearing.{IsOnDisk}
use Rattle.law_run.specs.Ends.{RunsAreTakenUp}
use Rattle.law_run.specs.Executions.{here_along}
use Rattle.law_run.proofs.Along.{at-the-end, executions_keep_logs}
use Rattle.law_run.proofs.Images.{found-reads, without-log}
use Rattle.law_run.proofs.Starts.{beginnings_are_explained, found-list}
use Rattle.law_run.proofs.Steps.{disk-log, on-log}

-- a component that has a disk stands with its log on it
pub stands-on-disk : (program : Program) (c : ComId) (n : Option Node) → is_of_kind (kind_of program c) n ≡ true → has_disk program c ≡ true → IsOnDisk n
stands-on-disk program c n kind disk = at (slice_get program.components c.0) n kind disk
  where
    by : (k : Kind) (m : Option Node) → is_of_kind (Some k) m ≡ true → is_pcom k || is_tcom k ≡ true → IsOnDisk m
    by k (Some (Runs p)) e f = tt
    by k (Some (Serves t)) e f = tt
    by k (Some (Down log)) e f = tt
    by kinds.Pcom (Some External) e f = true-false e
    by kinds.Tcom (Some External) e f = true-false e
    by kinds.Xcom (Some External) e f = true-false f
    by kinds.Pcom None e f = true-false e
    by kinds.Tcom None e f = true-false e
    by kinds.Xcom None e f = true-false f

    at : (o : Option Component) (m : Option Node) → is_of_kind (option_map (λ d. d.kind) o) m ≡ true → declares (λ d. is_pcom d.kind) o || declares (λ d. is_tcom d.kind) o ≡ true → IsOnDisk m
    at None m e f = true-false f
    at (Some d) m e f = by d.kind m e f

-- What an explained world keeps on its disks is taken up: whatever is found over them begins soundly, with the logs that stood there.
module _ (program : Program) (fingerprint : List ℕ) (found : Logs) (here : ComId → ℕ) (p r : SystemState) (f : IsExplained program found here p.world) (keeps : KeepsLogs fingerprint p) (start : IsFound program fingerprint p.files r) where
  list : IsLogList program (forced_logs r.world)
  list = subst (λ v. IsLogList program (forced_logs v)) (sym start.world) (found-list program start.logs)

  pub same-found : (c : ComId) → log_at (forced_logs r.world) c ≡ log_at (forced_logs p.world) c
  same-found c = at (has_disk program c) refl
    where
      at : (d : Bool) → has_disk program c ≡ d → log_at (forced_logs r.world) c ≡ log_at (forced_logs p.world) c
      at false none = without-log program found here p.world f r.world list c none
      at true disk =
          found-reads program fingerprint p.files r c (on_disk (node_at p.world c)) start disk (on-log fingerprint c (file_of p c) (node_at p.world c) (keeps c) (stands-on-disk program c (node_at p.world c) (f.1.kinds c) disk))
          ∙ disk-log p.world c

  pub found-soundly : ((c : ComId) → IsBytes (file_of p c)) → BeginsSound program fingerprint p.files r
  found-soundly are = inr (record { found = start; bytes = are; sound = cut-sound program found here p.world f.0 f.1 (forced_logs r.world) (list.one_each ∙ sym f.1.logs.one_each.1, λ c. inl (same-found c)) })

pub runs_are_taken_up : RunsAreTakenUp
runs_are_taken_up program fingerprint before x events halts b p r vs play flat bytes may begins runs start are =
    let q = last_state p vs in
    let h = here_along (λ c. 0) p vs in
    (found-soundly program fingerprint (forced_logs p.world) h q r explained keeps start are, same-found program fingerprint (forced_logs p.world) h q r explained keeps start)
  where
    explained : IsExplained program (forced_logs p.world) (here_along (λ c. 0) p vs) (last_state p vs).world
    explained =
        let g = beginnings_are_explained program fingerprint before p play bytes begins in
        (at-the-end program fingerprint x (whole_agenda events halts) b p vs (forced_logs p.world) (λ c. 0) play flat bytes may g.1 runs g.0).explained.explained

    keeps : KeepsLogs fingerprint (last_state p vs)
    keeps =
        let g = beginnings_are_explained program fingerprint before p play bytes begins in
        executions_keep_logs program fingerprint x (whole_agenda events halts) b p vs g.1 runs
