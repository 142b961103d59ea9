-- What a Tcom keeps of its decisions, and what it forgets.
use Rattle.std.specs.Prelude.{◌≡◌, ℕ, ◌<◌, ◌≤◌, List, Option, Some, None, IsSome}
use Rattle.ic_base.specs.declared.messages.ComId.{ComId}
use Rattle.ic_base.specs.declared.messages.Session.{Session}
use Rattle.ic_base.specs.declared.messages.Packet.{Packet}
use Rattle.ic_base.specs.declared.scenario.Program.{Program}
use Rattle.def_step.specs.Tcom.{Tcom, decided_at, kept_at, least_of, silent, tcom_step}
use Rattle.def_facts.specs.Tcom.{TcomStateFacts}
use Rattle.law_tcom.specs.Engine.{Asks, HasStarted}

-- of each component at most one decision is kept: that of the least number served
abbrev pub KeptIsLeast : Type 0
KeptIsLeast = (program : Program) (t : ComId) (x : Tcom) (sent received : List Packet) (c : ComId) (n stamp : ℕ) → TcomStateFacts program t x sent received → kept_at x c n ≡ Some stamp → n ≡ least_of x c

-- an Op or a Commit of a transaction that is served no longer is answered by nothing and adds nothing, whatever was decided
abbrev pub ForgottenIsSilent : Type 0
ForgottenIsSilent = (program : Program) (t : ComId) (x : Tcom) (p : Packet) (c : ComId) (n place : ℕ) (session : Option Session) → Asks p c n place session → n < least_of x c → tcom_step program t x p ≡ silent x

-- a Tcom that has just come up keeps the last decision of each component; of one without a decision it serves all numbers
abbrev pub StartsKeepTheLast : Type 0
StartsKeepTheLast = (program : Program) (t : ComId) (x : Tcom) (c : ComId) → HasStarted program t x →
    ((n stamp : ℕ) → 1 ≤ n → decided_at x.book c n ≡ Some stamp → (n ≤ least_of x c) × IsSome (kept_at x c (least_of x c)))
    × (((n : ℕ) → decided_at x.book c n ≡ None) → least_of x c ≡ 1)
