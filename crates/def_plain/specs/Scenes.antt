-- Three small scenarios, with histories and the worlds that they lead to.
use Rattle.std.specs.Prelude.{ℕ, ℤ, pos, false, List, [], ◌∷◌, None}
use Rattle.std.specs.declared.alloc.Global.{Global}
use Rattle.std.proofs.Common.{lit<}
use Rattle.ic_base.specs.declared.messages.ComId.{ComId}
use Rattle.ic_base.specs.declared.messages.Kind.TheVariants as kind
use Rattle.ic_base.specs.declared.messages.Entry.{Entry}
use Rattle.ic_base.specs.declared.messages.Act.TheVariants as act
use Rattle.ic_base.specs.declared.scenario.Body.{Body}
use Rattle.ic_base.specs.declared.scenario.Handler.{Handler}
use Rattle.ic_base.specs.declared.scenario.Component.{Component}
use Rattle.ic_base.specs.declared.scenario.Program.{Program}
use Rattle.ic_base.specs.declared.record.Record.{Record}
use Rattle.ic_base.specs.declared.record.Record.TheVariants.{Take, Input, Value, Outcome, Shown, Decided}
use Rattle.def_play.specs.Scenes.{body, add, order, left, take, pay}
use Rattle.def_plain.specs.declared.world.PlainCom.TheVariants.{Pcom, Tcom, Xcom}
use Rattle.def_plain.specs.Plain.{PlainWorld}
use Rattle.def_plain.specs.History.{entry}

abbrev pub com_at : ℕ → ComId
com_at n = record { 0 = n }

-- a handler with one parameter
abbrev pub on : Body → Handler
on b = record { name = []; params = 1; body = b }

abbrev pub pcom_with : List (List ℕ × ℤ) → List Handler → Component
pcom_with vars handlers = record { name = []; kind = kind.Pcom; immediate = false; vars = vars; keys = []; handlers = handlers }

abbrev pub tcom_with : List (List ℕ × ℤ) → Component
tcom_with keys = record { name = []; kind = kind.Tcom; immediate = false; vars = []; keys = keys; handlers = [] }

abbrev pub xcom : Component
xcom = record { name = []; kind = kind.Xcom; immediate = false; vars = []; keys = []; handlers = [] }

-- one tally
abbrev pub tally : Global → Program
tally a = record { components = pcom_with (([], pos 0) ∷ []) (on (body a add (lit< tt)) ∷ []) ∷ [] }

-- two inputs, and the sum
abbrev pub two_inputs : List Entry
two_inputs = entry (com_at 0) 1 (act.Input 0 (pos 5 ∷ [])) ∷ entry (com_at 0) 2 (act.Input 0 (pos 7 ∷ [])) ∷ []

abbrev pub summed : PlainWorld
summed = Pcom (record { vars = pos 12 ∷ []; hand = None; sent = []; receipts = []; outs = []; begun = 0 }) ∷ []

-- a desk, a shop and a store
abbrev pub trade : Global → Program
trade a =
    record {
      components = xcom
          ∷ pcom_with (([], pos 0) ∷ []) (on (body a (order (com_at 2)) (lit< tt)) ∷ on (body a (left (com_at 0)) (lit< tt)) ∷ [])
          ∷ pcom_with (([], pos 10) ∷ []) (on (body a (take (com_at 1)) (lit< tt)) ∷ [])
          ∷ [];
    }

-- an order, its message to the store, and the answer
abbrev pub one_order : List Entry
one_order =
    entry (com_at 1) 1 (act.Input 0 (pos 3 ∷ []))
    ∷ entry (com_at 2) 2 (act.Take (com_at 1) 1)
    ∷ entry (com_at 1) 3 (act.Take (com_at 2) 1)
    ∷ []

abbrev pub ordered : PlainWorld
ordered =
    Xcom
    ∷ Pcom (record { vars = pos 1 ∷ []; hand = None; sent = record { to = com_at 2; handler = 0; args = pos 3 ∷ [] } ∷ []; receipts = (com_at 2, 1) ∷ []; outs = record { to = com_at 0; args = pos 7 ∷ [] } ∷ []; begun = 0 })
    ∷ Pcom (record { vars = pos 7 ∷ []; hand = None; sent = record { to = com_at 1; handler = 1; args = pos 7 ∷ [] } ∷ []; receipts = (com_at 1, 1) ∷ []; outs = []; begun = 0 })
    ∷ []

-- a bank and a payer
abbrev pub payment : Global → Program
payment a =
    record {
      components = tcom_with (([], pos 100) ∷ ([], pos 0) ∷ [])
          ∷ pcom_with (([], pos 0) ∷ ([], pos 0) ∷ []) (on (body a (pay a (com_at 0)) (lit< tt)) ∷ [])
          ∷ [];
    }

-- a payment of 30 that commits
abbrev pub one_payment : List Entry
one_payment = entry (com_at 1) 1 (act.Input 0 (pos 30 ∷ [])) ∷ entry (com_at 0) 2 (act.Commit (com_at 1) 1) ∷ []

abbrev pub paid : PlainWorld
paid =
    Tcom (pos 70 ∷ pos 30 ∷ [])
    ∷ Pcom (record { vars = pos 1 ∷ pos 0 ∷ []; hand = None; sent = []; receipts = []; outs = []; begun = 1 })
    ∷ []

-- the logs of a desk, a shop and a store behind that order
abbrev pub order_logs : List (List Record)
order_logs =
    []
    ∷ (Input 1 0 (pos 3 ∷ []) ∷ Take (com_at 2) 1 3 ∷ Shown 1 ∷ [])
    ∷ (Take (com_at 1) 1 2 ∷ [])
    ∷ []

-- the logs of a bank and a payer behind that payment
abbrev pub payment_logs : List (List Record)
payment_logs =
    (Decided 2 (com_at 1) 1 ((0, pos 70) ∷ (1, pos 30) ∷ []) ∷ [])
    ∷ (Input 1 0 (pos 30 ∷ []) ∷ Value 1 0 (record { epoch = 1; counter = 1 }) (pos 100) ∷ Outcome 3 1 None ∷ [])
    ∷ []
