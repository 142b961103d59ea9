-- How many statements there are, each with those inside it; `else` and `end` are none.
use Rattle.std.specs.Prelude.{ℕ, ◌+◌, List, map, sum}
use Rattle.ic_base.specs.declared.scenario.Stmt.{Stmt}
use Rattle.ic_base.specs.declared.scenario.Stmt.TheOpen.{Stmt-F, Body-F, If, Txn}
use Rattle.ic_base.specs.declared.scenario.Stmt.TheFolds.{fold-Stmt}

-- one statement, with the number of each body in its place
abbrev pub stmt_count : Stmt-F ℕ ℕ → ℕ
stmt_count (If e then other) = 1 + (then + other)
stmt_count (Txn t part other) = 1 + (part + other)
stmt_count _ = 1

abbrev pub body_count : Body-F ℕ ℕ → ℕ
body_count b = sum b.stmts.items

-- a statement with those inside it
abbrev pub count_of : Stmt → ℕ
count_of = fold-Stmt ℕ ℕ stmt_count body_count

-- statements in order, with those inside them
abbrev pub count_of_all : List Stmt → ℕ
count_of_all ss = sum (map count_of ss)
