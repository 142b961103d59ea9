-- The limits that the open blocks have no part in.
use Rattle.std.proofs.Common.{◌≡◌, Bool, true, false, refl}
use Rattle.std.specs.Prelude.{◌||◌}
use Rattle.def_syntax.specs.SyntaxLines.{SyntaxLine, XcomItem, TcomItem, PcomItem, KeyItem, VarItem, OnItem, SetItem, SendItem, OutItem, IfItem, TxnItem, GetItem, PutItem, NeedItem, ElseItem, EndItem}
use Rattle.def_syntax.specs.Scope.{Scope, passes, is_long, is_deep}
use Rattle.ic_items.specs.Views.{without_frames}

first_false : (a b : Bool) → (a || b) ≡ false → (a || false) ≡ false
first_false true b h = h
first_false false b h = refl

-- a line that passes no limit passes none with no block open
pub passes_without : (seen : Scope) (item : SyntaxLine) → passes seen item ≡ false → passes (without_frames seen) item ≡ false
unfolding passes
passes_without seen (XcomItem n) h = h
passes_without seen (TcomItem n) h = h
passes_without seen (PcomItem n immediate) h = h
passes_without seen (KeyItem n z) h = h
passes_without seen (VarItem n z) h = h
passes_without seen (OnItem n ps) h = h
passes_without seen (SetItem v e) h = h
passes_without seen (SendItem p k xs) h = h
passes_without seen (OutItem x xs) h = h
passes_without seen (IfItem e) h = first_false (is_long seen) (is_deep seen) h
passes_without seen (TxnItem t) h = first_false (is_long seen) (is_deep seen) h
passes_without seen (GetItem n k) h = h
passes_without seen (PutItem k e) h = h
passes_without seen (NeedItem e) h = h
passes_without seen ElseItem h = h
passes_without seen EndItem h = h
