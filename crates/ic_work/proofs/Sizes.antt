-- A log that is read has a size.
use Rattle.std.proofs.Common.{◌≡◌, ◌∙◌, sym, ap, ℕ, List, Option, Some, Ok}
use Rattle.std.specs.Prelude.{unwrap_or}
use Rattle.ic_base.specs.declared.record.Record.{Record}
use Rattle.def_log.specs.Log.{log_of}
use Rattle.def_log.specs.Sizes.{size_in}
use Rattle.ic_gate.proofs.RecordFiles.{size_there}

pub sized : (file : List ℕ) (rs : List Record) → log_of file ≡ Ok rs → size_in file ≡ Some (unwrap_or (size_in file) 0)
sized file rs e =
    let s = size_there file rs e in
    s.1 ∙ sym (ap (λ (o : Option ℕ). Some (unwrap_or o 0)) s.1)
