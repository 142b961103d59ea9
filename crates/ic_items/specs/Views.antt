-- What the values of the reader stand for in the grammar.
use Rattle.std.specs.Prelude.{◌≡◌, ℕ, List, [], map, flat_map, Result, Err}
use Rattle.ic_base.specs.declared.refusals.Cause.{Cause}
use Rattle.ic_base.specs.declared.refusals.Cause.TheVariants.{Memory}
use Rattle.ic_items.specs.declared.syntax_line.RawOperand.{RawOperand}
use Rattle.ic_items.specs.declared.syntax_line.RawOperand.TheVariants as terms
use Rattle.ic_items.specs.declared.syntax_line.RawExpr.{RawExpr}
use Rattle.ic_items.specs.declared.syntax_line.RawExpr.TheVariants as formulas
use Rattle.ic_items.specs.declared.syntax_line.SyntaxLine.{SyntaxLine}
use Rattle.ic_items.specs.declared.syntax_line.SyntaxLine.TheVariants as items
use Rattle.ic_items.specs.declared.blocks.Block.{Block}
use Rattle.ic_items.specs.declared.blocks.Block.TheVariants as blocks
use Rattle.ic_items.specs.declared.blocks.BlockAction.{BlockAction}
use Rattle.ic_items.specs.declared.blocks.BlockAction.TheVariants as moves
use Rattle.def_syntax.specs.SyntaxLines as grammar
use Rattle.def_syntax.specs.Blocks as grammar_blocks
use Rattle.def_syntax.specs.Scope.{Frame, Scope}

abbrev pub term_seen : RawOperand → grammar.RawOperand
term_seen (terms.Digits z) = grammar.Digits z
term_seen (terms.Named n) = grammar.Named n

abbrev pub terms_seen : List RawOperand → List grammar.RawOperand
terms_seen xs = map term_seen xs

abbrev pub formula_seen : RawExpr → grammar.RawExpr
formula_seen (formulas.Single x) = grammar.Single (term_seen x)
formula_seen (formulas.Double x op y) = grammar.Double (term_seen x) op (term_seen y)

abbrev pub item_seen : SyntaxLine → grammar.SyntaxLine
item_seen (items.Xcom n) = grammar.XcomItem n
item_seen (items.Tcom n) = grammar.TcomItem n
item_seen (items.Pcom n immediate) = grammar.PcomItem n immediate
item_seen (items.Key n z) = grammar.KeyItem n z
item_seen (items.Var n z) = grammar.VarItem n z
item_seen (items.On n ps) = grammar.OnItem n ps
item_seen (items.Set v e) = grammar.SetItem v (formula_seen e)
item_seen (items.Send p h xs) = grammar.SendItem p h (terms_seen xs)
item_seen (items.Out x xs) = grammar.OutItem x (terms_seen xs)
item_seen (items.If e) = grammar.IfItem (formula_seen e)
item_seen (items.Txn t) = grammar.TxnItem t
item_seen (items.Get n k) = grammar.GetItem n k
item_seen (items.Put k e) = grammar.PutItem k (formula_seen e)
item_seen (items.Need e) = grammar.NeedItem (formula_seen e)
item_seen items.Else = grammar.ElseItem
item_seen items.End = grammar.EndItem

abbrev pub block_seen : Block → grammar_blocks.Block
block_seen blocks.Tcom = grammar_blocks.TcomBlock
block_seen blocks.Pcom = grammar_blocks.PcomBlock
block_seen blocks.Handler = grammar_blocks.HandlerBlock
block_seen blocks.PartStart = grammar_blocks.PartStart
block_seen blocks.Part = grammar_blocks.Part
block_seen blocks.OtherPart = grammar_blocks.OtherPart
block_seen (blocks.Then part) = grammar_blocks.Then part
block_seen (blocks.Else part) = grammar_blocks.Else part

abbrev pub move_seen : BlockAction → grammar_blocks.BlockAction
move_seen moves.Stay = grammar_blocks.Stay
move_seen (moves.Begin b) = grammar_blocks.Begin (block_seen b)
move_seen (moves.Turn b) = grammar_blocks.Turn (block_seen b)
move_seen moves.Finish = grammar_blocks.Finish

-- the cause is want of memory, or the one for which the reading is refused
abbrev pub Fails : {A : Type 0} → Result A Cause → Cause → Type 0
Fails read cause = (cause ≡ Memory → ⊥) → read ≡ Err cause

-- what is seen, with no open block
abbrev pub without_frames : Scope → Scope
without_frames seen = record seen { frames = [] }

-- the locals of these blocks
abbrev pub locals_in : List Frame → List (List ℕ × ℕ)
locals_in fs = flat_map (λ (f : Frame). f.locals) fs
