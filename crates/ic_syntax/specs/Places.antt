-- Where a program in the making stands, by the blocks that the lines so far have opened.
use Rattle.std.specs.Prelude.{◌≡◌, ℕ, suc, List, [], ◌∷◌, length, Option, Some, None, option_and_then}
use Rattle.def_syntax.specs.Blocks.{Block, TcomBlock, PcomBlock, HandlerBlock, PartStart, Part, OtherPart, Then, Else}
use Rattle.def_syntax.specs.Scope.{Declared, Frame, Scope}
use Rattle.def_syntax.specs.Lines.{Line}
use Rattle.ic_syntax.specs.BuilderStates as spots
use Rattle.ic_syntax.specs.BuilderStates.{First, Second, BuilderState, AtTop, InComponent, InHandler, behind}

-- where lines lead one after the other, where each of them may stand
abbrev pub all_behind : List Line → BuilderState → Option BuilderState
all_behind [] spot = Some spot
all_behind (l ∷ ls) spot = option_and_then (all_behind ls) (behind l spot)

-- the part of an `if` or a `txn` that a block is
abbrev pub part_as : Block → Option spots.Part
part_as (Then part) = Some First
part_as (Else part) = Some Second
part_as PartStart = Some First
part_as Part = Some First
part_as OtherPart = Some Second
part_as _ = None

-- the blocks of a handler and in it, and its open parts
pub data IsInParts : List Frame → List spots.Part → Type 0 where
  handler : {own around : List (List ℕ × ℕ)} → IsInParts (record { block = HandlerBlock; locals = own } ∷ record { block = PcomBlock; locals = around } ∷ []) []
  part : {b : Block} {own : List (List ℕ × ℕ)} {fs : List Frame} {p : spots.Part} {ps : List spots.Part} → part_as b ≡ Some p → IsInParts fs ps → IsInParts (record { block = b; locals = own } ∷ fs) (p ∷ ps)

-- behind these components and in these blocks; a Tcom has no handlers, and a Pcom has no keys and the handlers that are declared, the open
-- one among them
pub data IsAt : List Declared → List Frame → BuilderState → Type 0 where
  at_top : {cs : List Declared} → IsAt cs [] AtTop
  in_tcom : {c : Declared} {cs : List Declared} {own : List (List ℕ × ℕ)} {keys : ℕ} → IsAt (c ∷ cs) (record { block = TcomBlock; locals = own } ∷ []) (InComponent keys 0)
  in_pcom : {c : Declared} {cs : List Declared} {own : List (List ℕ × ℕ)} {handlers : ℕ} → length c.handlers ≡ handlers → IsAt (c ∷ cs) (record { block = PcomBlock; locals = own } ∷ []) (InComponent 0 handlers)
  in_handler : {c : Declared} {cs : List Declared} {fs : List Frame} {handlers : ℕ} {ps : List spots.Part} → length c.handlers ≡ suc handlers → IsInParts fs ps → IsAt (c ∷ cs) fs (InHandler 0 handlers ps)

-- the lines so far lead there
abbrev pub LeadsTo : Scope → BuilderState → Type 0
LeadsTo seen spot = IsAt seen.components seen.frames spot
