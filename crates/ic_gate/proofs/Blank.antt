-- A log that was made on a blank disk has no record.
use Rattle.std.proofs.Common.{◌≡◌, ◌∙◌, ap, sym, ℕ, List, [], length}
use Rattle.std.specs.Prelude.{Ok}
use Rattle.def_log.specs.Frame.{frame_of}
use Rattle.def_log.specs.Log.{log_of}
use Rattle.ic_base.specs.declared.record.Record.{Record}
use Rattle.ic_disk.specs.declared.disk.Disk.{Ghosts}
use Rattle.ic_gate.specs.Calls.{Creates}
use Rattle.ic_gate.specs.Logs.{disk_of, start_of}
use Rattle.ic_gate.specs.RecordFiles.{records_from}
use Rattle.ic_gate.specs.declared.log.Log.{Log}
use Rattle.law_marks.proofs.NewLogs.{fresh_frame, fresh_log}
use Rattle.ic_gate.proofs.Walks.{first_walk}

pub made-blank : {D : Type 0} {d : Ghosts D} {old : D} {fingerprint : List ℕ} {owner : ℕ} {log : Log D d} → Creates d old fingerprint owner log → d.tells old → length fingerprint ≡ 32 → frame_of (d.seen (disk_of log)) ≡ Ok []
made-blank {fingerprint = fingerprint} {owner = owner} made told long = ap frame_of (made.bytes told) ∙ fresh_frame fingerprint owner long

pub made-empty : {D : Type 0} {d : Ghosts D} {old : D} {fingerprint : List ℕ} {owner : ℕ} {log : Log D d} → Creates d old fingerprint owner log → d.tells old → length fingerprint ≡ 32 → (records : List Record) → records ≡ [] → log_of (d.seen (disk_of log)) ≡ Ok records
made-empty {fingerprint = fingerprint} {owner = owner} made told long records none = ap log_of (made.bytes told) ∙ fresh_log fingerprint owner long ∙ ap (λ (l : List Record). Ok l) (sym none)

pub made-walk : {D : Type 0} {d : Ghosts D} {old : D} {fingerprint : List ℕ} {owner : ℕ} {log : Log D d} → Creates d old fingerprint owner log → d.tells old → length fingerprint ≡ 32 → (records : List Record) → records ≡ [] → records_from (start_of log) (d.seen (disk_of log)) ≡ Ok records
made-walk {d = d} {log = log} made told long records none = ap (λ n. records_from n (d.seen (disk_of log))) made.start ∙ first_walk (d.seen (disk_of log)) records (made-empty made told long records none)
