-- The status of a call that ends for a cause isn't 0.
use Rattle.std.proofs.Common.{◌≡◌, ◌∙◌, sym, ℕ, List, Option, inl, inr}
use Rattle.ic_base.specs.declared.report.Fault.{Fault}
use Rattle.ic_base.specs.declared.report.Fault.TheVariants as faults
use Rattle.ic_base.specs.declared.scenario.Program.{Program}
use Rattle.def_report.specs.Faults.{status_of}
use Rattle.ic_disk.specs.declared.sink.Sink.{Ghosts}
use Rattle.ic_report.specs.Ends.{EndsAs}
use Rattle.ic_report.specs.declared.ending.Why.{Why}
use Rattle.ic_report.specs.declared.ending.Why.TheVariants.{Fault as AFault, Print, Memory}

no-fault : (fault : Fault) → status_of fault ≡ 0 → ⊥
no-fault faults.Usage e = cc e
no-fault (faults.Scenario line cause) e = cc e
no-fault (faults.Schedule line cause) e = cc e
no-fault (faults.Policy why) e = cc e
no-fault (faults.Foreign c kept given) e = cc e
no-fault (faults.Bad c place) e = cc e
no-fault (faults.Illegal entry) e = cc e
no-fault faults.Receipts e = cc e
no-fault faults.Packets e = cc e
no-fault (faults.LogFull c) e = cc e
no-fault faults.Read e = cc e
no-fault (faults.Disk c) e = cc e
no-fault (faults.NotBlank c) e = cc e

other : (status n : ℕ) → status ≡ n → status ≡ 0 → n ≡ 0
other status n is zero = sym is ∙ zero

pub never-done : {K : Type 0} (k : Ghosts K) (tool : List ℕ) (program : Option Program) (why : Why) (old new : K) (status : ℕ) → EndsAs k tool program why old new status → status ≡ 0 → ⊥
never-done k tool program (AFault fault) old new status (inl e) zero = no-fault fault (other status (status_of fault) e.0 zero)
never-done k tool program (AFault fault) old new status (inr (inl e)) zero = cc (other status 9 e.0 zero)
never-done k tool program (AFault fault) old new status (inr (inr e)) zero = cc (other status 12 e.0 zero)
never-done k tool program Print old new status e zero = cc (other status 9 e.0 zero)
never-done k tool program Memory old new status e zero = cc (other status 12 e.0 zero)
