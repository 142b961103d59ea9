-- A course as the code keeps it.
use Rattle.std.specs.Prelude.{ℕ, ℤ, pos, List, map, drop, find, ◌==◌, Option, None, Some, option_map, unwrap_or}
use Rattle.ic_base.specs.declared.messages.Done.{Done}
use Rattle.ic_base.specs.declared.played.Played.{Played}
use Rattle.def_play.specs.Playing as playing
use Rattle.ic_base.specs.declared.scenario.Stmt.{Stmt}
use Rattle.ic_eval.specs.declared.evaluation.Local.{Local}
use Rattle.ic_eval.specs.declared.evaluation.Part.{Part}
use Rattle.ic_eval.specs.declared.evaluation.Handling.{Handling}
use Rattle.ic_eval.specs.declared.evaluation.Evaluation.{Evaluation}

-- the locals that are bound, each with its value
abbrev pub locals_seen : List Local → List (ℕ × ℤ)
locals_seen locals = map (λ (l : Local). (l.number, l.value)) locals

-- what a local was bound to, or 0 where it wasn't, as the code finds it
abbrev pub bound_value : List Local → ℕ → ℤ
bound_value locals i = unwrap_or (option_map (λ (l : Local). l.value) (find (λ (l : Local). l.number == i) locals)) (pos 0)

-- the course, with the results that no transaction has used yet
abbrev pub seen : Evaluation → List Done → playing.Evaluation
seen c done = record { vars = c.vars; locals = locals_seen c.locals; sends = c.sends; outs = c.outs; left = drop c.met done; place = c.place }

-- the transaction that is being played
abbrev pub part_seen : Part → playing.Part
part_seen p = record { tcom = p.tcom; answers = p.answers.now }

-- what a statement of a handling makes of a course
abbrev pub turn_of : Handling → Stmt → playing.Change
turn_of h = playing.turn h.args h.answers.now

-- where a list of statements comes to
abbrev pub came : Option Played → playing.Evaluation → playing.Turn
came None s = playing.Goes s
came (Some r) s = playing.Stops r
