-- How the requests that were taken are kept.
use Rattle.std.specs.Prelude.{◌≡◌, ℕ, ℤ, ◌<◌, ◌==◌, Bool, ◌&&◌, List, ◌∷◌, Option, Some, None}
use Rattle.std.specs.List.{AllByRecursion, IsDistinct}
use Rattle.std.specs.Map.{keys_of}
use Rattle.std.specs.Ordering.{int_eq}
use Rattle.ic_base.specs.declared.messages.ComId.{ComId}
use Rattle.ic_base.specs.declared.events.Trace.{Trace}
use Rattle.def_run.specs.CrashFree.{received_by}
use Rattle.def_client.specs.Fronts.{Taken, Front, taken_under}
use Rattle.ic_client.specs.declared.front.Numbers.{Numbers}
use Rattle.ic_client.specs.declared.front.Row.{Row}

-- the requests that were taken, and for how many more there is room
pub record FrontState : Type 0 where
  pub taken : Front
  pub spare : ℕ

abbrev pub taken_of : Numbers × Row → Taken
taken_of e = record { request = record { who = record { 0 = e.0.who }; handler = e.1.handler; args = e.1.args }; reply = e.1.reply }

-- the numbers of a request with these values
abbrev pub numbers_in : ComId → List ℤ → Option Numbers
numbers_in c (u ∷ q ∷ rest) = Some (record { who = c.0; client = u; request = q })
numbers_in c _ = None

-- a request is kept under its numbers
abbrev pub IsNumbered : Numbers × Row → Type 0
IsNumbered e = numbers_in (record { 0 = e.0.who }) e.1.args ≡ Some e.0

abbrev pub same : Numbers → Numbers → Bool
same x y = (x.who == y.who) && (int_eq x.client y.client && int_eq x.request y.request)

-- each request is kept under its numbers, and no two under the same
abbrev pub AreKept : List (Numbers × Row) → Type 0
AreKept es = AllByRecursion IsNumbered es × IsDistinct same (keys_of es)

-- no request is taken with the numbers of an input that the trace takes, and there is room for it
abbrev pub MaySee : FrontState → Trace → Type 0
MaySee f t = (c : ComId) (x : ℕ × List ℤ) → received_by c t ≡ Some x → (taken_under f.taken c x.1 ≡ None) × (0 < f.spare)
