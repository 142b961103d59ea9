-- What is still to come where some blocks are open.
use Rattle.std.proofs.Common.{◌≡◌, ◌⊎◌, inl, inr, ℕ, suc, List, [], ◌∷◌, ◌++◌, length, Bool, true, false, ap, refl, sym, subst, flat_map}
use Rattle.def_syntax.specs.SyntaxLines.{SyntaxLine, ElseItem, EndItem}
use Rattle.def_syntax.specs.Blocks.{Block, TcomBlock, PcomBlock, HandlerBlock, PartStart, Part, OtherPart, Then, Else}
use Rattle.def_syntax.specs.Scope.{Declared, Frame, Scope, nobody, frame, with_latest}
use Rattle.def_syntax.specs.Lines.{Line}
use Rattle.def_syntax.specs.Lines as grammar
use Rattle.def_syntax.specs.Grammar.{NumberedLine, Locals, Around, TxnContext, Plain, PartOf, Here, Ahead, ahead, begins_part, Statements, Keys, Vars, Handlers, Components}

abbrev pub framed : Block → Locals → Frame
framed b ls = record { block = b; locals = ls }

-- the open blocks that there may be: of statements outside the parts of transactions, and inside one
pub data IsPlain : List Frame → Type 0 where
  in_handler : {ls : Locals} → IsPlain (framed HandlerBlock ls ∷ frame PcomBlock ∷ [])
  in_then : {ls : Locals} {fs : List Frame} → IsPlain fs → IsPlain (framed (Then false) ls ∷ fs)
  in_else : {ls : Locals} {fs : List Frame} → IsPlain fs → IsPlain (framed (Else false) ls ∷ fs)
  in_other : {ls : Locals} {fs : List Frame} → IsPlain fs → IsPlain (framed OtherPart ls ∷ fs)

pub data IsInPart : List Frame → Type 0 where
  at_start : {fs : List Frame} → IsPlain fs → IsInPart (frame PartStart ∷ fs)
  in_part : {ls : Locals} {fs : List Frame} → IsPlain fs → IsInPart (framed Part ls ∷ fs)
  part_then : {ls : Locals} {fs : List Frame} → IsInPart fs → IsInPart (framed (Then true) ls ∷ fs)
  part_else : {ls : Locals} {fs : List Frame} → IsInPart fs → IsInPart (framed (Else true) ls ∷ fs)

-- behind these components: none need be there where no block is open
pub data IsStack : List Declared → List Frame → Type 0 where
  outside : {cs : List Declared} → IsStack cs []
  in_tcom : {c : Declared} {cs : List Declared} → IsStack (c ∷ cs) (frame TcomBlock ∷ [])
  in_pcom : {c : Declared} {cs : List Declared} → IsStack (c ∷ cs) (frame PcomBlock ∷ [])
  outer : {c : Declared} {cs : List Declared} {f g : Frame} {gs : List Frame} → IsPlain (f ∷ g ∷ gs) → IsStack (c ∷ cs) (f ∷ g ∷ gs)
  inner : {c : Declared} {cs : List Declared} {f g : Frame} {gs : List Frame} → IsInPart (f ∷ g ∷ gs) → IsStack (c ∷ cs) (f ∷ g ∷ gs)

abbrev pub depth_under : List Frame → ℕ
depth_under [] = 0
depth_under (f ∷ []) = 0
depth_under (f ∷ g ∷ gs) = suc (depth_under (g ∷ gs))

abbrev pub is_part : Block → Bool
is_part (Then p) = p
is_part (Else p) = p
is_part PartStart = true
is_part Part = true
is_part _ = false

abbrev pub context_if : List ℕ → Bool → TxnContext
context_if t true = PartOf t
context_if t false = Plain

abbrev pub here : List ℕ → Frame → List Frame → Here
here t f fs = record { context = context_if t (is_part f.block); depth = depth_under fs; outer = flat_map (λ (f : Frame). f.locals) fs; own = f.locals }

-- what has to follow at a place: its statements and locals so far, and what is to come
abbrev pub Goal : Type 1
Goal = ℕ → ℕ → List NumberedLine → List Line → Type 0

-- statements up to this line, which stands for these lines, and what follows
pub record UpTo (a : Around) (h : Here) (item : SyntaxLine) (front : List Line) (k : Goal) (p : Ahead) : Type 0 where
  pub statements : ℕ
  pub gets : ℕ
  pub number : ℕ
  pub items : List NumberedLine
  pub lines : List Line
  pub derived : Statements a h p (ahead statements gets ((number, item) ∷ items) (front ++ lines))
  pub rest : k statements gets items lines

abbrev pub UpToEnd : Around → Here → Goal → Goal
UpToEnd a h k s g is ls = UpTo a h EndItem (grammar.End ∷ []) k (ahead s g is ls)

abbrev pub UpToElse : Around → Here → Goal → Goal
UpToElse a h k s g is ls = UpTo a h ElseItem (grammar.Else ∷ []) k (ahead s g is ls)

abbrev pub UpToBareEnd : Around → Here → Goal → Goal
UpToBareEnd a h k s g is ls = UpTo a h EndItem (grammar.Else ∷ grammar.End ∷ []) k (ahead s g is ls)

-- the `else` part beside a part
abbrev pub beside : TxnContext → Here → Here
beside context h = record h { context = context; own = [] }

abbrev pub last_of : List Declared → Declared
last_of cs = elim cs [ [] ↦ nobody | c ∷ cs ↦ c ]

pub record KeysRest (all cs : List Declared) (is : List NumberedLine) (ls : List Line) : Type 0 where
  pub keys : List (List ℕ)
  pub number : ℕ
  pub items : List NumberedLine
  pub lines : List Line
  pub derived : Keys (last_of cs).keys (is, ls) keys ((number, EndItem) ∷ items, grammar.End ∷ lines)
  pub rest : Components all (with_latest (λ c. record c { keys = keys }) cs) (items, lines)

pub record HandlersRest (all cs : List Declared) (vars : List (List ℕ)) (is : List NumberedLine) (ls : List Line) : Type 0 where
  pub handlers : List (List ℕ × ℕ)
  pub number : ℕ
  pub items : List NumberedLine
  pub lines : List Line
  pub derived : Handlers all (last_of cs).name vars (last_of cs).handlers (is, ls) handlers ((number, EndItem) ∷ items, grammar.End ∷ lines)
  pub rest : Components all (with_latest (λ c. record c { vars = vars; handlers = handlers }) cs) (items, lines)

pub record VarsRest (all cs : List Declared) (is : List NumberedLine) (ls : List Line) : Type 0 where
  pub vars : List (List ℕ)
  pub items : List NumberedLine
  pub lines : List Line
  pub derived : Vars (last_of cs).vars (is, ls) vars (items, lines)
  pub rest : HandlersRest all cs vars items lines

-- variables come in front of the handlers alone
abbrev pub PcomRest : List Declared → List Declared → List (List ℕ × ℕ) → List NumberedLine → List Line → Type 0
PcomRest all cs [] is ls = VarsRest all cs is ls
PcomRest all cs (h ∷ hs) is ls = HandlersRest all cs (last_of cs).vars is ls

abbrev pub around_in : List Declared → List Declared → List (List ℕ) → Around
around_in all cs ps = record { all = all; me = (last_of cs).name; vars = (last_of cs).vars; params = ps }

-- what has to follow in a block
abbrev pub RestOf : List Declared → List Declared → List (List ℕ) → Block → Here → Goal → Goal
RestOf all cs ps TcomBlock h k s g is ls = KeysRest all cs is ls
RestOf all cs ps PcomBlock h k s g is ls = PcomRest all cs (last_of cs).handlers is ls
RestOf all cs ps HandlerBlock h k s g is ls = UpToEnd (around_in all cs ps) h k s g is ls
RestOf all cs ps (Then part) h k s g is ls = UpToElse (around_in all cs ps) h (UpToEnd (around_in all cs ps) (beside h.context h) k) s g is ls ⊎ UpToBareEnd (around_in all cs ps) h k s g is ls
RestOf all cs ps (Else part) h k s g is ls = UpToEnd (around_in all cs ps) h k s g is ls
RestOf all cs ps PartStart h k s g is ls = (begins_part is ≡ true) × UpToElse (around_in all cs ps) h (UpToEnd (around_in all cs ps) (beside Plain h) k) s g is ls
RestOf all cs ps Part h k s g is ls = UpToElse (around_in all cs ps) h (UpToEnd (around_in all cs ps) (beside Plain h) k) s g is ls
RestOf all cs ps OtherPart h k s g is ls = UpToEnd (around_in all cs ps) h k s g is ls

-- what has to follow in all open blocks, the innermost first
abbrev pub Rest : List Declared → List Declared → List (List ℕ) → List ℕ → List Frame → Goal
Rest all cs ps t [] s g is ls = Components all cs (is, ls)
Rest all cs ps t (f ∷ fs) s g is ls = RestOf all cs ps f.block (here t f fs) (Rest all cs ps t fs) s g is ls

-- the same behind what is seen
abbrev pub RestBehind : List Declared → Scope → List NumberedLine → List Line → Type 0
RestBehind all seen is ls = Rest all seen.components seen.params seen.tcom seen.frames seen.statements seen.gets is ls

-- a block of statements, in which a statement may stand at once
abbrev pub is_body : Block → Bool
is_body TcomBlock = false
is_body PcomBlock = false
is_body PartStart = false
is_body _ = true

-- statements in front of those that lead up to a line
pub more : {a : Around} {h i : Here} {item : SyntaxLine} {front : List Line} {k : Goal} {p q : Ahead}
    → ((r : Ahead) → Statements a i q r → Statements a h p r) → UpTo a i item front k q → UpTo a h item front k p
more f r = record { statements = r.statements; gets = r.gets; number = r.number; items = r.items; lines = r.lines; derived = f _ r.derived; rest = r.rest }

pub then_more : {a : Around} {h : Here} {item : SyntaxLine} {front : List Line} {k j : Goal} {p : Ahead}
    → ((s g : ℕ) (is : List NumberedLine) (ls : List Line) → k s g is ls → j s g is ls) → UpTo a h item front k p → UpTo a h item front j p
then_more f r = record { statements = r.statements; gets = r.gets; number = r.number; items = r.items; lines = r.lines; derived = r.derived; rest = f _ _ _ _ r.rest }

-- a statement in front of what has to follow in a block of statements; it may have declared locals of the block
pub in_front : (all cs : List Declared) (ps : List (List ℕ)) (b : Block) (h : Here) (own : Locals) (k : Goal) (s g s1 g1 : ℕ) (is is1 : List NumberedLine) (ls ls1 : List Line)
    → is_body b ≡ true
    → ((r : Ahead) → Statements (around_in all cs ps) (record h { own = own }) (ahead s1 g1 is1 ls1) r → Statements (around_in all cs ps) h (ahead s g is ls) r)
    → RestOf all cs ps b (record h { own = own }) k s1 g1 is1 ls1 → RestOf all cs ps b h k s g is ls
in_front all cs ps TcomBlock h own k s g s1 g1 is is1 ls ls1 body f r = absurd (cc)
in_front all cs ps PcomBlock h own k s g s1 g1 is is1 ls ls1 body f r = absurd (cc)
in_front all cs ps PartStart h own k s g s1 g1 is is1 ls ls1 body f r = absurd (cc)
in_front all cs ps HandlerBlock h own k s g s1 g1 is is1 ls ls1 body f r = more f r
in_front all cs ps (Then part) h own k s g s1 g1 is is1 ls ls1 body f (inl r) = inl (more f r)
in_front all cs ps (Then part) h own k s g s1 g1 is is1 ls ls1 body f (inr r) = inr (more f r)
in_front all cs ps (Else part) h own k s g s1 g1 is is1 ls ls1 body f r = more f r
in_front all cs ps Part h own k s g s1 g1 is is1 ls ls1 body f r = more f r
in_front all cs ps OtherPart h own k s g s1 g1 is is1 ls ls1 body f r = more f r

-- outside the parts of transactions the latest Tcom doesn't matter
pub any_tcom : (all cs : List Declared) (ps : List (List ℕ)) (t u : List ℕ) (fs : List Frame) → IsPlain fs → (s g : ℕ) (is : List NumberedLine) (ls : List Line) → Rest all cs ps t fs s g is ls → Rest all cs ps u fs s g is ls
any_tcom all cs ps t u fs in_handler s g is ls r = r
any_tcom all cs ps t u fs (in_then i) s g is ls (inl r) = inl (then_more (λ s1 g1 is1 ls1. then_more (any_tcom all cs ps t u _ i)) r)
any_tcom all cs ps t u fs (in_then i) s g is ls (inr r) = inr (then_more (any_tcom all cs ps t u _ i) r)
any_tcom all cs ps t u fs (in_else i) s g is ls r = then_more (any_tcom all cs ps t u _ i) r
any_tcom all cs ps t u fs (in_other i) s g is ls r = then_more (any_tcom all cs ps t u _ i) r

pub length_depth : (f : Frame) (fs : List Frame) → length (f ∷ fs) ≡ suc (depth_under (f ∷ fs))
length_depth f [] = refl
length_depth f (g ∷ gs) = ap suc (length_depth g gs)

-- under an open block of statements there is another
abbrev pub IsDouble : List Frame → Type 0
IsDouble fs = (f : Frame) × (g : Frame) × (gs : List Frame) × (fs ≡ f ∷ g ∷ gs)

plain_double : (fs : List Frame) → IsPlain fs → IsDouble fs
plain_double _ (in_handler {ls = ls}) = (framed HandlerBlock ls, frame PcomBlock, [], refl)
plain_double _ (in_then {ls = ls} {fs = fs} i) = let d = plain_double fs i in (framed (Then false) ls, d.0, d.1 ∷ d.2, ap (λ gs. framed (Then false) ls ∷ gs) d.3)
plain_double _ (in_else {ls = ls} {fs = fs} i) = let d = plain_double fs i in (framed (Else false) ls, d.0, d.1 ∷ d.2, ap (λ gs. framed (Else false) ls ∷ gs) d.3)
plain_double _ (in_other {ls = ls} {fs = fs} i) = let d = plain_double fs i in (framed OtherPart ls, d.0, d.1 ∷ d.2, ap (λ gs. framed OtherPart ls ∷ gs) d.3)

part_double : (fs : List Frame) → IsInPart fs → IsDouble fs
part_double _ (at_start {fs = fs} i) = let d = plain_double fs i in (frame PartStart, d.0, d.1 ∷ d.2, ap (λ gs. frame PartStart ∷ gs) d.3)
part_double _ (in_part {ls = ls} {fs = fs} i) = let d = plain_double fs i in (framed Part ls, d.0, d.1 ∷ d.2, ap (λ gs. framed Part ls ∷ gs) d.3)
part_double _ (part_then {ls = ls} {fs = fs} i) = let d = part_double fs i in (framed (Then true) ls, d.0, d.1 ∷ d.2, ap (λ gs. framed (Then true) ls ∷ gs) d.3)
part_double _ (part_else {ls = ls} {fs = fs} i) = let d = part_double fs i in (framed (Else true) ls, d.0, d.1 ∷ d.2, ap (λ gs. framed (Else true) ls ∷ gs) d.3)

pub stack_plain : (c : Declared) (cs : List Declared) (fs : List Frame) → IsPlain fs → IsStack (c ∷ cs) fs
stack_plain c cs fs i = let d = plain_double fs i in subst (λ gs. IsStack (c ∷ cs) gs) (sym d.3) (outer (subst IsPlain d.3 i))

pub stack_part : (c : Declared) (cs : List Declared) (fs : List Frame) → IsInPart fs → IsStack (c ∷ cs) fs
stack_part c cs fs i = let d = part_double fs i in subst (λ gs. IsStack (c ∷ cs) gs) (sym d.3) (inner (subst IsInPart d.3 i))

pub plain_block : (f : Frame) (fs : List Frame) → IsPlain (f ∷ fs) → is_part f.block ≡ false
plain_block _ _ in_handler = refl
plain_block _ _ (in_then i) = refl
plain_block _ _ (in_else i) = refl
plain_block _ _ (in_other i) = refl

pub part_block : (f : Frame) (fs : List Frame) → IsInPart (f ∷ fs) → is_part f.block ≡ true
part_block _ _ (at_start i) = refl
part_block _ _ (in_part i) = refl
part_block _ _ (part_then i) = refl
part_block _ _ (part_else i) = refl

-- a block of a part with other locals
pub with_locals : (f : Frame) (fs : List Frame) (ls : Locals) → IsInPart (f ∷ fs) → is_body f.block ≡ true → IsInPart (framed f.block ls ∷ fs)
with_locals _ _ ls (at_start i) b = absurd (cc)
with_locals _ _ ls (in_part i) b = in_part i
with_locals _ _ ls (part_then i) b = part_then i
with_locals _ _ ls (part_else i) b = part_else i

pub start : (f : Frame) (fs : List Frame) → IsInPart (f ∷ fs) → f.block ≡ PartStart → (f ≡ frame PartStart) × IsPlain fs
start _ _ (at_start i) e = (refl, i)
start _ _ (in_part i) e = absurd (cc)
start _ _ (part_then i) e = absurd (cc)
start _ _ (part_else i) e = absurd (cc)
