-- Where the next line of a program in the making stands, and where each line leads.
use Rattle.std.specs.Prelude.{ℕ, zero, suc, List, [], ◌∷◌, map, reverse, length, Option, Some, None, option_map}
use Rattle.ic_base.specs.declared.scenario.Component.{Component}
use Rattle.def_syntax.specs.Lines.{Line, Head, Var, Key, On, Set, Send, Out, If, Txn, Get, Put, Need, Else, End}
use Rattle.ic_syntax.specs.declared.handler_builder.OpenBlock.{OpenBlock}
use Rattle.ic_syntax.specs.declared.handler_builder.OpenBlock.TheVariants as outers
use Rattle.ic_syntax.specs.declared.handler_builder.HandlerBuilder.{HandlerBuilder}
use Rattle.ic_syntax.specs.declared.builder.OpenItem.{OpenItem}
use Rattle.ic_syntax.specs.declared.builder.OpenItem.TheVariants.{Outside, Inside, Handling}

-- an open part of an `if` or a `txn`
pub data Part : Type 0 where
  First Second : Part

-- outside all components; in a component with so many keys and handlers so far; in a handler of such a one, in these open parts, the
-- innermost first
pub data BuilderState : Type 0 where
  AtTop : BuilderState
  InComponent : ℕ → ℕ → BuilderState
  InHandler : ℕ → ℕ → List Part → BuilderState

-- the open parts of a handler behind a line, where it may stand there
abbrev pub parts_behind : Line → List Part → Option (List Part)
parts_behind (Set v e) ps = Some ps
parts_behind (Send p h xs) ps = Some ps
parts_behind (Out x xs) ps = Some ps
parts_behind (If e) ps = Some (First ∷ ps)
parts_behind (Txn t) ps = Some (First ∷ ps)
parts_behind (Get n k) ps = Some ps
parts_behind (Put k e) ps = Some ps
parts_behind (Need line e) ps = Some ps
parts_behind Else (First ∷ ps) = Some (Second ∷ ps)
parts_behind End (Second ∷ ps) = Some ps
parts_behind _ _ = None

-- behind a line outside all components, in one, and in a handler
abbrev pub behind_top : Line → Option BuilderState
behind_top (Head n kind immediate) = Some (InComponent 0 0)
behind_top _ = None

abbrev pub behind_inside : Line → ℕ → ℕ → Option BuilderState
behind_inside (Var n z) zero zero = Some (InComponent 0 0)
behind_inside (Key n z) keys zero = Some (InComponent (suc keys) 0)
behind_inside (On n params) keys handlers = Some (InHandler keys handlers [])
behind_inside End keys handlers = Some AtTop
behind_inside _ keys handlers = None

abbrev pub behind_handling : Line → ℕ → ℕ → List Part → Option BuilderState
behind_handling End keys handlers [] = Some (InComponent keys (suc handlers))
behind_handling line keys handlers ps = option_map (InHandler keys handlers) (parts_behind line ps)

-- where a line leads, where it may stand there
abbrev pub behind : Line → BuilderState → Option BuilderState
behind line AtTop = behind_top line
behind line (InComponent keys handlers) = behind_inside line keys handlers
behind line (InHandler keys handlers ps) = behind_handling line keys handlers ps

abbrev pub part_of : OpenBlock → Part
part_of (outers.Then ss e) = First
part_of (outers.Else ss e a) = Second
part_of (outers.Part ss t) = First
part_of (outers.Other ss t a) = Second

abbrev pub script_parts : HandlerBuilder → List Part
script_parts s = reverse (map part_of s.outer.items)

abbrev pub component_state : Component → BuilderState
component_state c = InComponent (length c.keys) (length c.handlers)

abbrev pub state_of : OpenItem → BuilderState
state_of Outside = AtTop
state_of (Inside c) = component_state c
state_of (Handling c s) = InHandler (length c.keys) (length c.handlers) (script_parts s)
