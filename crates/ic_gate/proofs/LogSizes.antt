-- The size of a log whose records are read, its open slots, and what stands before where it begins.
use Rattle.std.proofs.Common.{◌≡◌, ◌∙◌, ap, sym, ℕ, ◌+◌, false, List, [], ◌∷◌, ◌++◌, length, Some, option_map}
use Rattle.std.specs.Prelude.{Ok}
use Rattle.ic_base.specs.declared.limits.TheConstants.{FIRST_GATE}
use Rattle.ic_base.specs.declared.record.Record.{Record}
use Rattle.def_log.specs.Changes.{gate_from, is_start}
use Rattle.def_log.specs.Directory.{slots_in}
use Rattle.def_log.specs.Log.{log_of}
use Rattle.def_log.specs.Sizes.{size_in}
use Rattle.ic_disk.specs.declared.disk.Disk.{Ghosts}
use Rattle.ic_gate.specs.Logs as logs
use Rattle.ic_gate.specs.RecordFiles.{records_from}
use Rattle.ic_gate.specs.RecordLogs.{records_of, disk_of, start_of, size_of, used_of, is_closed}
use Rattle.ic_gate.specs.declared.log.Log.{Log}
use Rattle.ic_gate.specs.declared.record_log.RecordLog.{RecordLog}
use Rattle.ic_gate.proofs.Naming.{size_of_whole}
use Rattle.ic_gate.proofs.RecordFiles.{read_is, size_there}
use Rattle.ic_gate.proofs.Walks.{same_records, first_walk, log_walk, walk_front}

none_behind : (front rs : List Record) → [] ≡ front ++ rs → rs ≡ []
none_behind [] rs e = sym e
none_behind (r ∷ front) rs e = absurd (cc e)

module _ {D : Type 0} {d : Ghosts D} where
  -- where the file holds no record, none is read from where the log begins on
  pub none_walk : (log : Log D d) → d.tells (logs.disk_of log) → logs.is_closed log ≡ false → log_of (d.seen (logs.disk_of log)) ≡ Ok [] → records_from (logs.start_of log) (d.seen (logs.disk_of log)) ≡ Ok []
  none_walk log told up e =
      let w = log_walk log.start (d.seen log.disk) [] e (ap (is_start log.start) (log.listed told up) ∙ log.begun) in
      w.2 ∙ ap (λ (rs : List Record). Ok rs) (none_behind w.0 w.1 w.3)

  pub size_is : (log : Log D d) (rs : List Record) → d.tells (logs.disk_of log) → logs.is_closed log ≡ false → log_of (d.seen (logs.disk_of log)) ≡ Ok rs → size_in (d.seen (logs.disk_of log)) ≡ Some (logs.size_of log)
  size_is log rs told up e =
      let s = size_there (d.seen log.disk) rs e in
      s.1 ∙ ap (λ (n : ℕ). Some n) (size_of_whole log.start log.gate s.0 (d.seen log.disk) (log.at_gate told up) (ap (is_start log.start) (log.listed told up) ∙ log.begun) s.1)

  pub size_stands : (l : RecordLog D d) (rs : List Record) → d.tells (disk_of l) → is_closed l ≡ false → log_of (d.seen (disk_of l)) ≡ Ok rs → size_in (d.seen (disk_of l)) ≡ Some (size_of l)
  size_stands l rs told up e = size_is l.log rs told up e

  -- the closed gate stands behind the batches from where its records begin on, whatever stands before them
  pub size_walks : (l : RecordLog D d) → d.tells (disk_of l) → is_closed l ≡ false → option_map (λ gate. gate + 1) (gate_from (start_of l) (d.seen (disk_of l))) ≡ Some (size_of l)
  size_walks l told up = ap (option_map (λ gate. gate + 1)) (l.log.at_gate told up)

  -- so where the whole file has a size, it is that
  pub size_agrees : (l : RecordLog D d) → d.tells (disk_of l) → is_closed l ≡ false → (size : ℕ) → size_in (d.seen (disk_of l)) ≡ Some size → size ≡ size_of l
  size_agrees l told up size e = size_of_whole l.log.start l.log.gate size (d.seen (disk_of l)) (l.log.at_gate told up) (ap (is_start l.log.start) (l.log.listed told up) ∙ l.log.begun) e

  -- the records that are read from where it begins on
  pub walk_stands : (l : RecordLog D d) → d.tells (disk_of l) → is_closed l ≡ false → records_from (start_of l) (d.seen (disk_of l)) ≡ Ok (records_of l).forced
  walk_stands l told up = read_is _ _ (l.whole told up) (l.on_disk told up)

  -- where the whole file is read, its records end with them
  pub front_stands : (l : RecordLog D d) (rs : List Record) → d.tells (disk_of l) → is_closed l ≡ false → log_of (d.seen (disk_of l)) ≡ Ok rs → (front : List Record) × (rs ≡ front ++ (records_of l).forced)
  front_stands l rs told up e = walk_front (start_of l) (d.seen (disk_of l)) rs (records_of l).forced e (ap (is_start (start_of l)) (l.log.listed told up) ∙ l.log.begun) (walk_stands l told up)

  -- and are those, where it begins at the first gate
  pub whole_stands : (l : RecordLog D d) (rs : List Record) → d.tells (disk_of l) → is_closed l ≡ false → start_of l ≡ FIRST_GATE → log_of (d.seen (disk_of l)) ≡ Ok rs → rs ≡ (records_of l).forced
  whole_stands l rs told up first e = same_records rs (records_of l).forced (sym (first_walk (d.seen (disk_of l)) rs e) ∙ ap (λ n. records_from n (d.seen (disk_of l))) (sym first) ∙ walk_stands l told up)

  -- the open slots of the file are as many as the log counts
  pub used_stands : (l : RecordLog D d) → d.tells (disk_of l) → is_closed l ≡ false → used_of l ≡ length (slots_in (d.seen (disk_of l)))
  used_stands l told up = ap length (sym (l.log.listed told up))
