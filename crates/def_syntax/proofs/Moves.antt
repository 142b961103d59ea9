-- In which blocks an item may stand, and where it leads.
use Rattle.std.proofs.Common.{◌≡◌, ◌⊎◌, inl, inr, ℕ, ℤ, List, Bool, true, false, Some, refl}
use Rattle.def_syntax.specs.SyntaxLines.{RawOperand, RawExpr, XcomItem, TcomItem, PcomItem, KeyItem, VarItem, OnItem, SetItem, SendItem, OutItem, IfItem, TxnItem, GetItem, PutItem, NeedItem}
use Rattle.def_syntax.specs.Blocks.{Block, TcomBlock, PcomBlock, HandlerBlock, PartStart, Part, OtherPart, Then, Else, BlockAction, Stay, Begin, Turn, in_block}
use Rattle.def_syntax.proofs.Stacks.{is_part, is_body}

pub no_xcom : (b : Block) (n : List ℕ) (m : BlockAction) → in_block b (XcomItem n) ≡ Some m → ⊥
unfolding in_block
no_xcom (Then true) n m e = cc
no_xcom (Then false) n m e = cc
no_xcom (Else true) n m e = cc
no_xcom (Else false) n m e = cc
no_xcom _ n m e = cc

pub no_tcom : (b : Block) (n : List ℕ) (m : BlockAction) → in_block b (TcomItem n) ≡ Some m → ⊥
unfolding in_block
no_tcom (Then true) n m e = cc
no_tcom (Then false) n m e = cc
no_tcom (Else true) n m e = cc
no_tcom (Else false) n m e = cc
no_tcom _ n m e = cc

pub no_pcom : (b : Block) (n : List ℕ) (i : Bool) (m : BlockAction) → in_block b (PcomItem n i) ≡ Some m → ⊥
unfolding in_block
no_pcom (Then true) n i m e = cc
no_pcom (Then false) n i m e = cc
no_pcom (Else true) n i m e = cc
no_pcom (Else false) n i m e = cc
no_pcom _ n i m e = cc

pub key_moves : (b : Block) (n : List ℕ) (z : ℤ) (m : BlockAction) → in_block b (KeyItem n z) ≡ Some m → (b ≡ TcomBlock) × (m ≡ Stay)
unfolding in_block
key_moves TcomBlock n z m e = (refl, cc)
key_moves (Then true) n z m e = absurd (cc)
key_moves (Then false) n z m e = absurd (cc)
key_moves (Else true) n z m e = absurd (cc)
key_moves (Else false) n z m e = absurd (cc)
key_moves _ n z m e = absurd (cc)

pub var_moves : (b : Block) (n : List ℕ) (z : ℤ) (m : BlockAction) → in_block b (VarItem n z) ≡ Some m → (b ≡ PcomBlock) × (m ≡ Stay)
unfolding in_block
var_moves PcomBlock n z m e = (refl, cc)
var_moves (Then true) n z m e = absurd (cc)
var_moves (Then false) n z m e = absurd (cc)
var_moves (Else true) n z m e = absurd (cc)
var_moves (Else false) n z m e = absurd (cc)
var_moves _ n z m e = absurd (cc)

pub on_moves : (b : Block) (n : List ℕ) (ps : List (List ℕ)) (m : BlockAction) → in_block b (OnItem n ps) ≡ Some m → (b ≡ PcomBlock) × (m ≡ Begin HandlerBlock)
unfolding in_block
on_moves PcomBlock n ps m e = (refl, cc)
on_moves (Then true) n ps m e = absurd (cc)
on_moves (Then false) n ps m e = absurd (cc)
on_moves (Else true) n ps m e = absurd (cc)
on_moves (Else false) n ps m e = absurd (cc)
on_moves _ n ps m e = absurd (cc)

pub set_moves : (b : Block) (v : List ℕ) (x : RawExpr) (m : BlockAction) → in_block b (SetItem v x) ≡ Some m → (is_body b ≡ true) × (m ≡ Stay)
unfolding in_block
set_moves TcomBlock v x m e = absurd (cc)
set_moves PcomBlock v x m e = absurd (cc)
set_moves PartStart v x m e = absurd (cc)
set_moves (Then true) v x m e = (refl, cc)
set_moves (Then false) v x m e = (refl, cc)
set_moves (Else true) v x m e = (refl, cc)
set_moves (Else false) v x m e = (refl, cc)
set_moves HandlerBlock v x m e = (refl, cc)
set_moves Part v x m e = (refl, cc)
set_moves OtherPart v x m e = (refl, cc)

abbrev pub IsOutsideParts : Block → BlockAction → BlockAction → Type 0
IsOutsideParts b m wanted = (is_body b ≡ true) × (is_part b ≡ false) × (m ≡ wanted)

pub send_moves : (b : Block) (p h : List ℕ) (xs : List RawOperand) (m : BlockAction) → in_block b (SendItem p h xs) ≡ Some m → IsOutsideParts b m Stay
unfolding in_block
send_moves TcomBlock p h xs m e = absurd (cc)
send_moves PcomBlock p h xs m e = absurd (cc)
send_moves PartStart p h xs m e = absurd (cc)
send_moves Part p h xs m e = absurd (cc)
send_moves (Then true) p h xs m e = absurd (cc)
send_moves (Else true) p h xs m e = absurd (cc)
send_moves (Then false) p h xs m e = (refl, refl, cc)
send_moves (Else false) p h xs m e = (refl, refl, cc)
send_moves HandlerBlock p h xs m e = (refl, refl, cc)
send_moves OtherPart p h xs m e = (refl, refl, cc)

pub out_moves : (b : Block) (x : List ℕ) (xs : List RawOperand) (m : BlockAction) → in_block b (OutItem x xs) ≡ Some m → IsOutsideParts b m Stay
unfolding in_block
out_moves TcomBlock x xs m e = absurd (cc)
out_moves PcomBlock x xs m e = absurd (cc)
out_moves PartStart x xs m e = absurd (cc)
out_moves Part x xs m e = absurd (cc)
out_moves (Then true) x xs m e = absurd (cc)
out_moves (Else true) x xs m e = absurd (cc)
out_moves (Then false) x xs m e = (refl, refl, cc)
out_moves (Else false) x xs m e = (refl, refl, cc)
out_moves HandlerBlock x xs m e = (refl, refl, cc)
out_moves OtherPart x xs m e = (refl, refl, cc)

pub txn_moves : (b : Block) (t : List ℕ) (m : BlockAction) → in_block b (TxnItem t) ≡ Some m → IsOutsideParts b m (Begin PartStart)
unfolding in_block
txn_moves TcomBlock t m e = absurd (cc)
txn_moves PcomBlock t m e = absurd (cc)
txn_moves PartStart t m e = absurd (cc)
txn_moves Part t m e = absurd (cc)
txn_moves (Then true) t m e = absurd (cc)
txn_moves (Else true) t m e = absurd (cc)
txn_moves (Then false) t m e = (refl, refl, cc)
txn_moves (Else false) t m e = (refl, refl, cc)
txn_moves HandlerBlock t m e = (refl, refl, cc)
txn_moves OtherPart t m e = (refl, refl, cc)

pub if_moves : (b : Block) (x : RawExpr) (m : BlockAction) → in_block b (IfItem x) ≡ Some m → (is_body b ≡ true) × (m ≡ Begin (Then (is_part b)))
unfolding in_block
if_moves TcomBlock x m e = absurd (cc)
if_moves PcomBlock x m e = absurd (cc)
if_moves PartStart x m e = absurd (cc)
if_moves Part x m e = (refl, cc)
if_moves (Then true) x m e = (refl, cc)
if_moves (Else true) x m e = (refl, cc)
if_moves (Then false) x m e = (refl, cc)
if_moves (Else false) x m e = (refl, cc)
if_moves HandlerBlock x m e = (refl, cc)
if_moves OtherPart x m e = (refl, cc)

-- in the part of a transaction, or as its first statement
abbrev pub IsInsidePart : Block → BlockAction → Type 0
IsInsidePart b m = (is_body b ≡ true) × (is_part b ≡ true) × (m ≡ Stay)

abbrev pub IsFirst : Block → BlockAction → Type 0
IsFirst b m = (b ≡ PartStart) × (m ≡ Turn Part)

pub get_moves : (b : Block) (n k : List ℕ) (m : BlockAction) → in_block b (GetItem n k) ≡ Some m → IsInsidePart b m ⊎ IsFirst b m
unfolding in_block
get_moves TcomBlock n k m e = absurd (cc)
get_moves PcomBlock n k m e = absurd (cc)
get_moves HandlerBlock n k m e = absurd (cc)
get_moves OtherPart n k m e = absurd (cc)
get_moves (Then false) n k m e = absurd (cc)
get_moves (Else false) n k m e = absurd (cc)
get_moves PartStart n k m e = inr (refl, cc)
get_moves Part n k m e = inl (refl, refl, cc)
get_moves (Then true) n k m e = inl (refl, refl, cc)
get_moves (Else true) n k m e = inl (refl, refl, cc)

pub put_moves : (b : Block) (k : List ℕ) (x : RawExpr) (m : BlockAction) → in_block b (PutItem k x) ≡ Some m → IsInsidePart b m ⊎ IsFirst b m
unfolding in_block
put_moves TcomBlock k x m e = absurd (cc)
put_moves PcomBlock k x m e = absurd (cc)
put_moves HandlerBlock k x m e = absurd (cc)
put_moves OtherPart k x m e = absurd (cc)
put_moves (Then false) k x m e = absurd (cc)
put_moves (Else false) k x m e = absurd (cc)
put_moves PartStart k x m e = inr (refl, cc)
put_moves Part k x m e = inl (refl, refl, cc)
put_moves (Then true) k x m e = inl (refl, refl, cc)
put_moves (Else true) k x m e = inl (refl, refl, cc)

pub need_moves : (b : Block) (x : RawExpr) (m : BlockAction) → in_block b (NeedItem x) ≡ Some m → IsInsidePart b m
unfolding in_block
need_moves TcomBlock x m e = absurd (cc)
need_moves PcomBlock x m e = absurd (cc)
need_moves HandlerBlock x m e = absurd (cc)
need_moves OtherPart x m e = absurd (cc)
need_moves (Then false) x m e = absurd (cc)
need_moves (Else false) x m e = absurd (cc)
need_moves PartStart x m e = absurd (cc)
need_moves Part x m e = (refl, refl, cc)
need_moves (Then true) x m e = (refl, refl, cc)
need_moves (Else true) x m e = (refl, refl, cc)
