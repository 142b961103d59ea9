-- The passes take what the grammar by relations derives: one line, and where it leads.
use Rattle.std.proofs.Common.{◌≡◌, ap, refl, arith, ◌<◌, ◌≤◌, ℕ, List, [], ◌∷◌, ◌++◌, length, reverse, Bool, true, false, ◌||◌, Option, Some, None, option_map, Ok, Err, ok_or, nat_lt, nat_le, ◌==◌, if◌then◌else◌}
use Rattle.std.specs.List.{list_any}
use Rattle.std.proofs.lemmas.Bool.Decides.{nat_tests}
use Rattle.ic_base.specs.declared.scenario.Operand.{Operand}
use Rattle.ic_base.specs.declared.refusals.Cause.TheVariants.{Structure, Twice, Limit}
use Rattle.def_syntax.specs.Text.{◌>>=◌, numbered}
use Rattle.def_syntax.specs.SyntaxLines.{RawOperand, RawExpr, SyntaxLine, SetItem, SendItem, OutItem, IfItem, TxnItem, GetItem, PutItem, NeedItem, both}
use Rattle.def_syntax.specs.Blocks.{Block, TcomBlock, PcomBlock, HandlerBlock, PartStart, Part, OtherPart, Then, Else, BlockAction, Stay, Begin, in_block}
use Rattle.def_syntax.specs.Scope.{Declared, Frame, Scope, declares, is_reserved, is_out_of_place, move_in, move_of, is_twice, passes, behind, scope_with}
use Rattle.def_syntax.specs.Names.{com_id, one_line, sent, resolved}
use Rattle.def_syntax.specs.Lines.{Line, Send}
use Rattle.def_syntax.specs.Scenario.{seen_behind, at_end, checked, named, all_named}
use Rattle.def_syntax.specs.Grammar.{NumberedLine, Says, no_line, blank_line, item_line}
use Rattle.def_syntax.proofs.Stacks.{is_part, is_body}

-- from what is seen the items lead to the end of the text, and stand for these lines
pub data Ends (all : List Declared) : Scope → List NumberedLine → List Line → Type 0 where
  done : {seen : Scope} → seen.frames ≡ [] → all ≡ reverse seen.components → Ends all seen [] []
  next : {seen mid : Scope} {n : ℕ} {item : SyntaxLine} {is : List NumberedLine} {ls rest : List Line} → scope_with seen item ≡ Ok mid → resolved all seen n item ≡ Ok ls → Ends all mid is rest → Ends all seen ((n, item) ∷ is) (ls ++ rest)

goes : (a b t l : Bool) (m : Option BlockAction) (k : BlockAction) (f : BlockAction → Scope) (seen : Scope) → a ≡ false → b ≡ false → m ≡ Some k → t ≡ false → l ≡ false
    → (ok_or (if a || b then None else m) Structure >>= (λ move. (if t then Err Twice else Ok seen) >>= (λ (n : Scope). (if l then Err Limit else Ok seen) >>= (λ (w : Scope). Ok (f move))))) ≡ Ok (f k)
goes true b t l m k f seen x y z u v = absurd (cc)
goes false true t l m k f seen x y z u v = absurd (cc)
goes false false true l m k f seen x y z u v = absurd (cc)
goes false false false true m k f seen x y z u v = absurd (cc)
goes false false false false None k f seen x y z u v = absurd (cc)
goes false false false false (Some j) k f seen x y z u v = let w : j ≡ k = cc in ap (λ j. Ok (f j)) w

pub takes : (seen : Scope) (item : SyntaxLine) (m : BlockAction) → list_any is_reserved (declares item) ≡ false → is_out_of_place seen item ≡ false → move_in seen.frames item ≡ Some m → is_twice seen item ≡ false → passes seen item ≡ false
    → scope_with seen item ≡ Ok (behind m item seen)
unfolding scope_with move_of
takes seen item m x y z u v = goes (list_any is_reserved (declares item)) (is_out_of_place seen item) (is_twice seen item) (passes seen item) (move_in seen.frames item) m (λ m. behind m item seen) seen x y z u v

-- both passes come to the end
pub record Passed (all : List Declared) (n last : ℕ) (lines : List (List ℕ)) (seen : Scope) (out : List Line) : Type 0 where
  pub final : Scope
  pub first : checked last seen (numbered n lines) ≡ Ok final
  pub second : all_named all seen (numbered n lines) ≡ Ok out
  pub all_is : all ≡ reverse final.components

at_last : (last : ℕ) (fs : List Frame) (seen : Scope) → fs ≡ [] → at_end last fs seen ≡ Ok seen
at_last last [] seen e = refl
at_last last (f ∷ fs) seen e = absurd (cc)

pub passed : (all : List Declared) (last : ℕ) {n : ℕ} {lines : List (List ℕ)} {is : List NumberedLine} (seen : Scope) (out : List Line) → Says n lines is → Ends all seen is out → Passed all n last lines seen out
unfolding checked all_named seen_behind named
passed all last seen _ no_line (done e a) = record { final = seen; first = at_last last seen.frames seen e; second = refl; all_is = a }
passed all last seen out (blank_line w s) ends =
    let r = passed all last seen out s ends in
    record { final = r.final; first = rw w r.first; second = rw w (rw r.second refl); all_is = r.all_is }
passed all last seen _ (item_line w s) (next {mid = mid} {ls = ls} {rest = rest} a b ends) =
    let r = passed all last mid rest s ends in
    record { final = r.final; first = rw w (rw a r.first); second = rw w (rw b (rw a (rw r.second refl))); all_is = r.all_is }

-- names that stand for something
pub named_one : (o : Option Line) (l : Line) → o ≡ Some l → one_line o ≡ Ok (l ∷ [])
named_one o l e = rw e refl

pub named_both : {X Y Z : Type 0} (f : X → Y → Z) (x : Option X) (y : Option Y) (a : X) (b : Y) → x ≡ Some a → y ≡ Some b → both f x y ≡ Some (f a b)
named_both f x y a b e k = rw e (rw k refl)

pub named_map : {X Z : Type 0} (f : X → Z) (x : Option X) (a : X) → x ≡ Some a → option_map f x ≡ Some (f a)
named_map f x a e = rw e refl

equals : (a : ℕ) → (a == a) ≡ true
equals a = grind (arith, nat_tests)

pub named_sent : (to : ℕ) (h count : Option ℕ) (xs : Option (List Operand)) (i : ℕ) (os : List Operand) → h ≡ Some i → count ≡ Some (length os) → xs ≡ Some os → sent to h count xs ≡ Ok (Send (com_id to) i os ∷ [])
named_sent to h count xs i os a b c = rw a (rw b (rw c (rw (equals (length os)) refl)))

-- tests
pub not_below : (n s : ℕ) → s < n → nat_le n s ≡ false
not_below n s l = grind (arith, nat_tests)

pub not_above : (n s : ℕ) → s ≤ n → nat_lt n s ≡ false
not_above n s l = grind (arith, nat_tests)

pub neither_is : (a b : Bool) → a ≡ false → b ≡ false → (a || b) ≡ false
neither_is a b x y = rw x y

-- where an item may stand
pub set_stays : (b : Block) (v : List ℕ) (e : RawExpr) → is_body b ≡ true → in_block b (SetItem v e) ≡ Some Stay
unfolding in_block
set_stays TcomBlock v e x = absurd (cc)
set_stays PcomBlock v e x = absurd (cc)
set_stays PartStart v e x = absurd (cc)
set_stays (Then true) v e x = refl
set_stays (Then false) v e x = refl
set_stays (Else true) v e x = refl
set_stays (Else false) v e x = refl
set_stays HandlerBlock v e x = refl
set_stays Part v e x = refl
set_stays OtherPart v e x = refl

pub if_begins : (b : Block) (e : RawExpr) → is_body b ≡ true → in_block b (IfItem e) ≡ Some (Begin (Then (is_part b)))
unfolding in_block
if_begins TcomBlock e x = absurd (cc)
if_begins PcomBlock e x = absurd (cc)
if_begins PartStart e x = absurd (cc)
if_begins (Then true) e x = refl
if_begins (Then false) e x = refl
if_begins (Else true) e x = refl
if_begins (Else false) e x = refl
if_begins HandlerBlock e x = refl
if_begins Part e x = refl
if_begins OtherPart e x = refl

pub send_stays : (b : Block) (p h : List ℕ) (xs : List RawOperand) → is_body b ≡ true → is_part b ≡ false → in_block b (SendItem p h xs) ≡ Some Stay
unfolding in_block
send_stays TcomBlock p h xs x y = absurd (cc)
send_stays PcomBlock p h xs x y = absurd (cc)
send_stays PartStart p h xs x y = absurd (cc)
send_stays Part p h xs x y = absurd (cc)
send_stays (Then true) p h xs x y = absurd (cc)
send_stays (Else true) p h xs x y = absurd (cc)
send_stays (Then false) p h xs x y = refl
send_stays (Else false) p h xs x y = refl
send_stays HandlerBlock p h xs x y = refl
send_stays OtherPart p h xs x y = refl

pub out_stays : (b : Block) (n : List ℕ) (xs : List RawOperand) → is_body b ≡ true → is_part b ≡ false → in_block b (OutItem n xs) ≡ Some Stay
unfolding in_block
out_stays TcomBlock n xs x y = absurd (cc)
out_stays PcomBlock n xs x y = absurd (cc)
out_stays PartStart n xs x y = absurd (cc)
out_stays Part n xs x y = absurd (cc)
out_stays (Then true) n xs x y = absurd (cc)
out_stays (Else true) n xs x y = absurd (cc)
out_stays (Then false) n xs x y = refl
out_stays (Else false) n xs x y = refl
out_stays HandlerBlock n xs x y = refl
out_stays OtherPart n xs x y = refl

pub txn_begins : (b : Block) (t : List ℕ) → is_body b ≡ true → is_part b ≡ false → in_block b (TxnItem t) ≡ Some (Begin PartStart)
unfolding in_block
txn_begins TcomBlock t x y = absurd (cc)
txn_begins PcomBlock t x y = absurd (cc)
txn_begins PartStart t x y = absurd (cc)
txn_begins Part t x y = absurd (cc)
txn_begins (Then true) t x y = absurd (cc)
txn_begins (Else true) t x y = absurd (cc)
txn_begins (Then false) t x y = refl
txn_begins (Else false) t x y = refl
txn_begins HandlerBlock t x y = refl
txn_begins OtherPart t x y = refl

pub get_stays : (b : Block) (n k : List ℕ) → is_body b ≡ true → is_part b ≡ true → in_block b (GetItem n k) ≡ Some Stay
unfolding in_block
get_stays TcomBlock n k x y = absurd (cc)
get_stays PcomBlock n k x y = absurd (cc)
get_stays PartStart n k x y = absurd (cc)
get_stays HandlerBlock n k x y = absurd (cc)
get_stays OtherPart n k x y = absurd (cc)
get_stays (Then false) n k x y = absurd (cc)
get_stays (Else false) n k x y = absurd (cc)
get_stays (Then true) n k x y = refl
get_stays (Else true) n k x y = refl
get_stays Part n k x y = refl

pub put_stays : (b : Block) (k : List ℕ) (e : RawExpr) → is_body b ≡ true → is_part b ≡ true → in_block b (PutItem k e) ≡ Some Stay
unfolding in_block
put_stays TcomBlock k e x y = absurd (cc)
put_stays PcomBlock k e x y = absurd (cc)
put_stays PartStart k e x y = absurd (cc)
put_stays HandlerBlock k e x y = absurd (cc)
put_stays OtherPart k e x y = absurd (cc)
put_stays (Then false) k e x y = absurd (cc)
put_stays (Else false) k e x y = absurd (cc)
put_stays (Then true) k e x y = refl
put_stays (Else true) k e x y = refl
put_stays Part k e x y = refl

pub need_stays : (b : Block) (e : RawExpr) → is_body b ≡ true → is_part b ≡ true → in_block b (NeedItem e) ≡ Some Stay
unfolding in_block
need_stays TcomBlock e x y = absurd (cc)
need_stays PcomBlock e x y = absurd (cc)
need_stays PartStart e x y = absurd (cc)
need_stays HandlerBlock e x y = absurd (cc)
need_stays OtherPart e x y = absurd (cc)
need_stays (Then false) e x y = absurd (cc)
need_stays (Else false) e x y = absurd (cc)
need_stays (Then true) e x y = refl
need_stays (Else true) e x y = refl
need_stays Part e x y = refl
