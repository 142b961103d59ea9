-- Sessions: as they begin, and among others.
use Rattle.std.specs.Prelude.{ℕ, ◌==◌, Bool, not, ◌&&◌, cond, List, [], map}
use Rattle.std.specs.List.{list_any}
use Rattle.ic_base.specs.declared.messages.ComId.{ComId}
use Rattle.ic_base.specs.declared.messages.Session.{Session}
use Rattle.def_step.specs.Tcom.{Sitting, sits_for}

-- a session without a request
abbrev pub fresh_sitting : Session → ComId → ℕ → Sitting
fresh_sitting session peer n = record { session = session; peer = peer; n = n; answers = []; keys = []; writes = [] }

-- the session is of another transaction, and holds the key
abbrev pub holds_for_another : ComId → ℕ → ℕ → Sitting → Bool
holds_for_another peer n key s = list_any (λ k. k == key) s.keys && not (sits_for peer n s)

-- the session of its transaction is this one
abbrev pub with_sitting : Sitting → List Sitting → List Sitting
with_sitting s = map (λ r. cond (sits_for s.peer s.n r) s r)
