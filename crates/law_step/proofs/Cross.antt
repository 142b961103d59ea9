-- What joins the components stays when the log of one of them grows.
use Rattle.std.specs.Prelude.{◌≡◌, false, List}
use Rattle.ic_base.specs.declared.messages.ComId.{ComId}
use Rattle.ic_base.specs.declared.record.Record.{Record}
use Rattle.ic_base.specs.Programs.{same_com}
use Rattle.def_facts.specs.Logs.{Logs, log_at}

-- the logs are these, but of one component this one
pub record IsWith (logs : Logs) (c : ComId) (log : List Record) (more : Logs) : Type 0 where
  pub here : log_at more c ≡ log
  pub others : (e : ComId) → same_com c e ≡ false → log_at more e ≡ log_at logs e
