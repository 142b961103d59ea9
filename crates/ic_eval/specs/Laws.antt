-- What holds of every play.
use Rattle.std.specs.Prelude.{◌≡◌, ◌≤◌, ◌<◌, ℕ, ℤ, List, [], ◌∷◌, ◌++◌, ◌-◌, length, take, slice_get, Some, ⊤}
use Rattle.ic_base.specs.declared.limits.TheConstants.{REQUESTS, STATEMENTS}
use Rattle.ic_base.specs.declared.messages.ComId.{ComId}
use Rattle.ic_base.specs.declared.messages.Done.{Done}
use Rattle.ic_base.specs.declared.messages.Done.TheVariants.{Committed, Aborted}
use Rattle.ic_base.specs.declared.messages.Out.{Out}
use Rattle.ic_base.specs.declared.messages.Request.{Request}
use Rattle.ic_base.specs.declared.messages.Send.{Send}
use Rattle.ic_base.specs.declared.played.Played.{Played}
use Rattle.ic_base.specs.declared.played.Played.TheVariants.{Asks, Ready, NeedFails, Ends}
use Rattle.ic_base.specs.declared.scenario.Stmt.{Stmt}
use Rattle.def_play.specs.Playing.{played_all}
use Rattle.def_play.specs.Ledger.{Talk, whole_part, answered, answers_on, ledger_after_all}
use Rattle.ic_eval.specs.Counts.{count_of_all}

-- no play comes to two of the four answers
abbrev pub ExcludeEachOther : Type 0
ExcludeEachOther =
    (r : Played) (t u : ComId) (q : Request) (line : ℕ) (vars : List ℤ) (sends : List Send) (outs : List Out)
    → (r ≡ Asks t q → r ≡ Ready u → ⊥)
    × (r ≡ Asks t q → r ≡ NeedFails u line → ⊥)
    × (r ≡ Asks t q → r ≡ Ends vars sends outs → ⊥)
    × (r ≡ Ready t → r ≡ NeedFails u line → ⊥)
    × (r ≡ Ready t → r ≡ Ends vars sends outs → ⊥)
    × (r ≡ NeedFails t line → r ≡ Ends vars sends outs → ⊥)

-- a play lacks no answer
abbrev pub LacksNone : Played → Type 0
LacksNone r = (t : ComId) (q : Request) → r ≡ Asks t q → ⊥

-- the same results, each committed one with answers behind its own, or with none
abbrev pub HasMore : List Done → List Done → Type 0
HasMore [] [] = ⊤
HasMore (Aborted ∷ done) (Aborted ∷ longer) = HasMore done longer
HasMore (Committed answers ∷ done) (Committed more ∷ longer) = ((behind : List ℤ) × (more ≡ answers ++ behind)) × HasMore done longer
HasMore done longer = ⊥

-- where no answer is missing, answers behind the others change nothing
abbrev pub IgnoresSurplus : Type 0
IgnoresSurplus =
    (stmts : List Stmt) (vars args : List ℤ) (done longer : List Done) (now more : List ℤ) → HasMore done longer
    → LacksNone (played_all stmts vars args done now)
    → played_all stmts vars args longer (now ++ more) ≡ played_all stmts vars args done now

-- a part that asks with some answers asked behind each of them, and asks the same with others that begin alike
abbrev pub IsDetermined : Type 0
IsDetermined =
    (stmts : List Stmt) (vars args : List ℤ) (done : List Done) (now other : List ℤ) (n : ℕ) (t : ComId) (q : Request) → take n now ≡ take n other
    → played_all stmts vars args done now ≡ Asks t q
    → (u : ComId) × ((r : Request) × ((played_all stmts vars args done (take n now) ≡ Asks u r) × (played_all stmts vars args done (take n other) ≡ Asks u r)))

-- what a part that plays by its answers asks with these, one request for each
abbrev pub AreRequests : (List ℤ → Played) → List ℤ → List Request → Type 0
AreRequests play answers qs =
    (length answers ≡ length qs) × ((n : ℕ) (q : Request) → slice_get qs n ≡ Some q → (t : ComId) × (play (take n answers) ≡ Asks t q))

-- with one answer less than the most requests a part asks no more; what asks then is a result that lacks an answer, whatever the part is answered
abbrev pub AsksNoMore : Type 0
AsksNoMore =
    (stmts : List Stmt) (vars args : List ℤ) (done : List Done) (now other : List ℤ) (t : ComId) (q : Request) → count_of_all stmts ≤ STATEMENTS
    → REQUESTS - 1 ≤ length now
    → played_all stmts vars args done now ≡ Asks t q
    → played_all stmts vars args done other ≡ Asks t q

-- a part of a handler with no more statements than it may have makes fewer requests than it may
abbrev pub AsksFew : Type 0
AsksFew =
    (stmts : List Stmt) (vars args : List ℤ) (done : List Done) (now : List ℤ) (qs : List Request) → count_of_all stmts ≤ STATEMENTS
    → AreRequests (played_all stmts vars args done) now qs
    → LacksNone (played_all stmts vars args done now)
    → length qs < REQUESTS

-- a part that is ready with what its requests get on a ledger is whole there
abbrev pub IsWholeWhereReady : Type 0
IsWholeWhereReady =
    (stmts : List Stmt) (vars args : List ℤ) (done : List Done) (ledger now : List ℤ) (t : ComId) (qs : List Request) → count_of_all stmts ≤ STATEMENTS
    → AreRequests (played_all stmts vars args done) now qs
    → now ≡ answers_on ledger qs
    → played_all stmts vars args done now ≡ Ready t
    → whole_part (played_all stmts vars args done) ledger ≡ Some (t, answered ledger qs)

-- a part that is whole on a ledger is ready with what its requests get there
abbrev pub IsReadyWhereWhole : Type 0
IsReadyWhereWhole =
    (stmts : List Stmt) (vars args : List ℤ) (done : List Done) (ledger : List ℤ) (t : ComId) (x : Talk)
    → whole_part (played_all stmts vars args done) ledger ≡ Some (t, x)
    → (played_all stmts vars args done x.answers ≡ Ready t)
    × AreRequests (played_all stmts vars args done) x.answers x.asked
    × (x.answers ≡ answers_on ledger x.asked)
    × (x.ledger ≡ ledger_after_all ledger x.asked)
