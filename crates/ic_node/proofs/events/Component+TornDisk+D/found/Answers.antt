use Rattle.std.proofs.Common.{◌∙◌, refl, ap}
use Rattle.std.specs.Prelude.{is_ok}
use Rattle.def_log.specs.Frame.{fingerprint_in, owner_in}
use Rattle.def_log.specs.Log.{log_of}
use Rattle.ic_node.specs.Standing.{read_or_none}
use Rattle.ic_node.proofs.events.Component+TornDisk+D.found.Goals as goal

pub invariant_of-result : goal.invariant_of-result
invariant_of-result g c =
    let e = c.in_ok-disk.ensures {u = tt} in
    record {
      opened = λ up. refl;
      which = λ up. refl;
      working = λ up. e.step.works;
      on_disk = λ up told. ap (λ f. read_or_none (log_of f)) (e.step.bytes (e.disk.tells.1 told)) ∙ ap read_or_none (e.step.read (e.disk.tells.1 told));
      whole = λ up told. ap (λ f. is_ok (log_of f)) (e.step.bytes (e.disk.tells.1 told)) ∙ ap is_ok (e.step.read (e.disk.tells.1 told));
      owned = λ up told. ap owner_in (e.step.bytes (e.disk.tells.1 told)) ∙ e.step.owned (e.disk.tells.1 told);
      durable = λ up. e.step.durable;
      settled = λ up. e.step.settled;
      begun = λ going. refl;
      writable = λ up. ∣ tt ∣₁;
    }

pub returns-clause-step : goal.returns-clause-step
returns-clause-step g c =
    let e = c.in_ok-disk.ensures {u = tt} in
    record {
      records = c.in_ok-disk.kept;
      down = refl;
      which = refl;
      going = refl;
      read = e.step.read;
      bytes = e.step.bytes;
      logs = λ told. record {
        own = ap fingerprint_in (e.step.bytes (e.disk.tells.1 told)) ∙ e.step.own (e.disk.tells.1 told);
        owned = ap owner_in (e.step.bytes (e.disk.tells.1 told)) ∙ e.step.owned (e.disk.tells.1 told);
        holds = ap log_of (e.step.bytes (e.disk.tells.1 told)) ∙ e.step.read (e.disk.tells.1 told);
      };
    }
