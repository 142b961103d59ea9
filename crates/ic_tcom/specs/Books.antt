-- Which record a book takes in.
use Rattle.std.specs.Prelude.{◌≡◌, ◌≤◌, None, ⊤}
use Rattle.ic_base.specs.declared.record.Record.{Record}
use Rattle.ic_base.specs.declared.record.Record.TheVariants.{Decided, Epoch}
use Rattle.ic_base.specs.declared.limits.TheConstants.{GREATEST_NUMBER}
use Rattle.def_step.specs.Tcom.{Book, decided_at}

-- a decision on a transaction that isn't decided; no stamp and no epoch above the limit
abbrev pub MayEnter : Book → Record → Type 0
MayEnter b (Decided stamp c n writes) = (decided_at b c n ≡ None) × (stamp ≤ GREATEST_NUMBER)
MayEnter b (Epoch epoch) = epoch ≤ GREATEST_NUMBER
MayEnter b _ = ⊤
