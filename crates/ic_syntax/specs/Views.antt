-- The lines that a program in the making has so far.
use Rattle.std.specs.Prelude.{List, [], ◌∷◌, ◌++◌, map}
use Rattle.ic_base.specs.declared.scenario.Component.{Component}
use Rattle.def_syntax.specs.Lines as grammar
use Rattle.def_syntax.specs.Lines.{joined, body_lines, handler_lines, component_lines, program_lines}
use Rattle.ic_syntax.specs.declared.program_line.Line.{Line}
use Rattle.ic_syntax.specs.declared.program_line.Line.TheVariants as lines
use Rattle.ic_syntax.specs.declared.handler_builder.OpenBlock.{OpenBlock}
use Rattle.ic_syntax.specs.declared.handler_builder.OpenBlock.TheVariants as outers
use Rattle.ic_syntax.specs.declared.handler_builder.HandlerBuilder.{HandlerBuilder}
use Rattle.ic_syntax.specs.declared.builder.OpenItem.{OpenItem}
use Rattle.ic_syntax.specs.declared.builder.OpenItem.TheVariants.{Outside, Inside, Handling}
use Rattle.ic_syntax.specs.declared.builder.ProgramBuilder.{ProgramBuilder}

abbrev pub line_seen : Line → grammar.Line
line_seen (lines.Head n kind immediate) = grammar.Head n kind immediate
line_seen (lines.Var n z) = grammar.Var n z
line_seen (lines.Key n z) = grammar.Key n z
line_seen (lines.On n count) = grammar.On n count
line_seen (lines.Set v e) = grammar.Set v e
line_seen (lines.Send p h xs) = grammar.Send p h xs
line_seen (lines.Out x xs) = grammar.Out x xs
line_seen (lines.If e) = grammar.If e
line_seen (lines.Txn t) = grammar.Txn t
line_seen (lines.Get n k) = grammar.Get n k
line_seen (lines.Put k e) = grammar.Put k e
line_seen (lines.Need line e) = grammar.Need line e
line_seen lines.Else = grammar.Else
line_seen lines.End = grammar.End

-- the statements in front of an open one, and its lines so far
abbrev pub outer_lines : OpenBlock → List grammar.Line
outer_lines (outers.Then ss e) = body_lines ss.items ++ grammar.If e ∷ []
outer_lines (outers.Else ss e a) = body_lines ss.items ++ grammar.If e ∷ (body_lines a.stmts.items ++ grammar.Else ∷ [])
outer_lines (outers.Part ss t) = body_lines ss.items ++ grammar.Txn t ∷ []
outer_lines (outers.Other ss t a) = body_lines ss.items ++ grammar.Txn t ∷ (body_lines a.stmts.items ++ grammar.Else ∷ [])

-- the lines of an open handler
abbrev pub script_lines : HandlerBuilder → List grammar.Line
script_lines s = grammar.On s.name s.params ∷ (joined (map outer_lines s.outer.items) ++ body_lines s.body.items)

-- the lines of an open component, with those of its ended handlers
abbrev pub open_lines : Component → List grammar.Line
open_lines c = grammar.Head c.name c.kind c.immediate ∷ (map (λ x. grammar.Var x.0 x.1) c.vars ++ map (λ x. grammar.Key x.0 x.1) c.keys ++ joined (map handler_lines c.handlers))

abbrev pub place_lines : OpenItem → List grammar.Line
place_lines Outside = []
place_lines (Inside c) = open_lines c
place_lines (Handling c s) = open_lines c ++ script_lines s

abbrev pub builder_lines : ProgramBuilder → List grammar.Line
builder_lines d = joined (map component_lines d.components) ++ place_lines d.place
