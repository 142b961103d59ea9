-- What a run or a crash of the machine leaves on the disks is not refused when it is found.
use Rattle.std.proofs.Common.{◌≡◌, refl, ◌∙◌, ap, ℕ, ◌+◌, Bool, true, false, cond, List, [], ◌∷◌, ◌++◌, Option, Some, None, Ok, Err, inl, inr}
use Rattle.ic_base.specs.declared.messages.ComId.{ComId}
use Rattle.ic_base.specs.declared.record.Record.{Record}
use Rattle.ic_base.specs.declared.refusals.StartWhy.{StartWhy}
use Rattle.ic_base.specs.declared.refusals.StartWhy.TheVariants as starts
use Rattle.ic_base.specs.declared.scenario.Component.{Component}
use Rattle.ic_base.specs.declared.scenario.Program.{Program}
use Rattle.def_log.specs.Frame.{fingerprint_in}
use Rattle.def_log.specs.Loads.{Holds, Foreign, Bad}
use Rattle.def_step.specs.World.{Node, Runs, Serves, Down, External, node_at}
use Rattle.def_run.specs.CoreSteps.{would_force}
use Rattle.def_run.specs.CoreSteps.{forced_of as on_disk}
use Rattle.def_run.specs.Executions.{first_of, whole_agenda}
use Rattle.def_run.specs.Openings.{first_told, if_disk, log_refusal, records_refusal, found_refusal}
use Rattle.def_run.specs.SystemStates.{SystemState, IsLog, KeepsLog, KeepsLogs, file_in, file_of, has_disk, last_state}
use Rattle.def_facts.specs.Logs.{Logs}
use Rattle.def_facts.specs.World.{IsExplained, forced_logs}
use Rattle.law_step.proofs.Tearing.{IsOnDisk}
use Rattle.law_run.specs.Ends.{LeftLogsAreNotRefused}
use Rattle.law_run.specs.Executions.{here_along}
use Rattle.law_run.specs.Images.{ReadsAsOne, ImagesAreNotRefused, IsOwnLog}
use Rattle.law_run.proofs.Along.{at-the-end}
use Rattle.law_run.proofs.Meeting.{read-log}
use Rattle.law_run.proofs.Resumed.{stands-on-disk}
use Rattle.law_run.proofs.Starts.{beginnings_are_explained}

-- where nothing is told of any component, nothing is told
none-told : (test : ComId → Option StartWhy) → ((c : ComId) → test c ≡ None) → (i : ℕ) (xs : List Component) → first_told test i xs ≡ None
none-told test none i [] = refl
none-told test none i (x ∷ xs) = ap (λ o. first_of o (first_told test (i + 1) xs)) (none (record { 0 = i })) ∙ none-told test none (i + 1) xs

-- nothing is told of a file that is a log of this scenario
log-unrefused : (fingerprint : List ℕ) (c : ComId) (file : List ℕ) (log : List Record) → IsLog fingerprint c.0 file log → log_refusal fingerprint c file ≡ None
log-unrefused fingerprint c file log is =
    let x = read-log fingerprint c.0 file log is in
    ap (λ l. elim l [
      | Holds batches ↦ records_refusal c file
      | Foreign kept ↦ Some (starts.Foreign c kept)
      | Bad place ↦ Some (starts.Bad c place)
    ]) x.loads ∙ ap (λ r. elim r [ Ok records ↦ None | Err place ↦ Some (starts.Bad c place) ]) x.reads

-- the disk of each component that has one is a log of this scenario
abbrev HoldLogs : Program → List ℕ → List (List ℕ) → Type 0
HoldLogs program fingerprint files = (c : ComId) → has_disk program c ≡ true → (log : List Record) × IsLog fingerprint c.0 (file_in files c) log

logs-unrefused : (program : Program) (fingerprint : List ℕ) (files : List (List ℕ)) → HoldLogs program fingerprint files → found_refusal program fingerprint files ≡ None
logs-unrefused program fingerprint files logs = none-told (λ c. if_disk program c (log_refusal fingerprint c (file_in files c))) (λ c. at c (has_disk program c) (logs c)) 0 program.components
  where
    at : (c : ComId) (b : Bool) → (b ≡ true → (log : List Record) × IsLog fingerprint c.0 (file_in files c) log) → cond b (log_refusal fingerprint c (file_in files c)) None ≡ None
    at c true log = let l = log refl in log-unrefused fingerprint c (file_in files c) l.0 l.1
    at c false log = refl

-- the log of a component that stands on its disk
kept-log : (fingerprint : List ℕ) (c : ComId) (file : List ℕ) (n : Option Node) → KeepsLog fingerprint c file n → IsOnDisk n → (log : List Record) × IsLog fingerprint c.0 file log
kept-log fingerprint c file None k on = absurd on
kept-log fingerprint c file (Some (Runs p)) k on = (p.log.forced, k)
kept-log fingerprint c file (Some (Serves t)) k on = (t.records, k)
kept-log fingerprint c file (Some (Down log)) k on = (log, k)
kept-log fingerprint c file (Some External) k on = absurd on

-- what an explained world keeps on its disks isn't refused
pub explained-unrefused : (program : Program) (fingerprint : List ℕ) (found : Logs) (here : ComId → ℕ) (p : SystemState) → IsExplained program found here p.world → KeepsLogs fingerprint p → found_refusal program fingerprint p.files ≡ None
explained-unrefused program fingerprint found here p f keeps = logs-unrefused program fingerprint p.files (λ c disk. kept-log fingerprint c (file_of p c) (node_at p.world c) (keeps c) (stands-on-disk program c (node_at p.world c) (f.1.kinds c) disk))

pub left_logs_are_not_refused : LeftLogsAreNotRefused
left_logs_are_not_refused program fingerprint before x events halts b p vs play flat bytes may begins runs =
    let g = beginnings_are_explained program fingerprint before p play bytes begins in
    let l = at-the-end program fingerprint x (whole_agenda events halts) b p vs (forced_logs p.world) (λ c. 0) play flat bytes may g.1 runs g.0 in
    explained-unrefused program fingerprint (forced_logs p.world) (here_along (λ c. 0) p vs) (last_state p vs) l.explained.explained l.keeps

pub images_are_not_refused : ImagesAreNotRefused
images_are_not_refused program fingerprint p what x images are own = logs-unrefused program fingerprint images (λ c disk. at c (on_disk (node_at p.world c)) (would_force program p.world what (x c) c) (own c disk) (are c disk))
  where
    at : (c : ComId) (before added : List Record) → IsOwnLog fingerprint c (file_in images c) → ReadsAsOne before added (file_in images c) → (log : List Record) × IsLog fingerprint c.0 (file_in images c) log
    at c before added mine (inl reads) = (before, record { own = mine.0; owned = mine.1; holds = reads })
    at c before added mine (inr reads) = (before ++ added, record { own = mine.0; owned = mine.1; holds = reads })
