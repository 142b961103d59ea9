use Rattle.std.proofs.Common.{◌≡◌, ◌∙◌, sym, ap, subst, refl, List, [], Ok}
use Rattle.ic_base.specs.declared.record.Record.{Record}
use Rattle.def_log.specs.Log.{log_of}
use Rattle.def_state.specs.Vol.{Vol}
use Rattle.def_step.specs.Pcom.{Log}
use Rattle.ic_ckpt.specs.Views.{seen}
use Rattle.ic_gate.specs.RecordLogs as records
use Rattle.ic_gate.proofs.LogSizes.{none_walk}
use Rattle.law_marks.proofs.Places.{no_records}
use Rattle.ic_pcom.specs.Carrying.{up}
use Rattle.ic_pcom.proofs.pcom.Pcom.fresh.Goals as goal

pub new-requires-in-Ok-clause-read : goal.new-requires-in-Ok-clause-read
new-requires-in-Ok-clause-read g c = λ told.
    none_walk c.args.log told c.requires.open (no_records _ (c.requires.blank told)) ∙ ap (λ (rs : List Record). Ok rs) (sym c.new.ensures)

pub returns-in-Ok-clause-step : goal.returns-in-Ok-clause-step
returns-in-Ok-clause-step g c =
    let n = c.new-in-Ok.ensures in
    let l : Log = record { forced = []; buffered = [] } in
    let log : records.records_of c.new-in-Ok.result ≡ l = ap (λ (fs : List Record). record { forced = fs; buffered = (records.records_of c.new-in-Ok.result).buffered }) (n.forced ∙ c.new.ensures) ∙ ap (λ (bs : List Record). record { forced = []; buffered = bs }) n.buffered in
    record {
      first = ap (λ (k : Log). up k (seen c.in-Ok.state)) log ∙ ap (λ (v : Vol). up l v) (c.in-Ok.ensures {u = tt});
      which = refl;
      disk = n.disk;
      start = n.start;
      size = n.size;
      is_open = refl;
      played = refl;
      log = λ told. ap (λ (disk : g.row.D.Denot). log_of (g.D.Disk.seen disk)) n.disk ∙ no_records _ (c.requires.blank (subst g.D.Disk.tells n.disk told));
    }
