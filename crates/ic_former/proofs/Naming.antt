-- A device's fault by the names of a load's refusals.
use Rattle.std.proofs.Common.{◌≡◌, ap}
use Rattle.std.specs.Prelude.{Result, Err}
use Rattle.ic_disk.specs.declared.disk.DiskError.{DiskError}
use Rattle.ic_disk.specs.declared.disk.DiskError.TheVariants as disk
use Rattle.ic_former.specs.declared.refusals.LoadWhy.{LoadWhy}
use Rattle.ic_former.specs.declared.refusals.LoadWhy.TheVariants as load
use Rattle.ic_former.specs.Refusals.{why_of}

same_error : {T : Type 0} (e : DiskError) → ◌≡◌ {A = Result T DiskError} (Err e) (Err disk.Failed) → e ≡ disk.Failed
same_error e f = cc

-- what fails a load
pub fails_load : {T U : Type 0} (e : DiskError) → ◌≡◌ {A = Result T DiskError} (Err e) (Err disk.Failed) → ◌≡◌ {A = Result U LoadWhy} (Err (why_of e)) (Err load.Failed)
fails_load {T} {U} e f = ap (λ (x : DiskError). let r : Result U LoadWhy = Err (why_of x) in r) (same_error {T = T} e f)
