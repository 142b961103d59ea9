-- What is left behind one step of one component.
use Rattle.std.proofs.Common.{◌≡◌, refl, ◌∙◌, ap, sym, subst, ℕ, suc, ◌+◌, ◌*◌, ◌^◌, ◌<◌, ◌≤◌, cond, List, [], ◌∷◌, ◌++◌, length, map, Some, arith, inl, inr, length-append}
use Rattle.ic_base.specs.declared.limits.TheConstants.{PACKETS}
use Rattle.std.specs.Prelude.{◌-◌, fold, slice_set, slice_get, sum_by, count_by, Contains}
use Rattle.std.specs.List.{range_with_len}
use Rattle.std.proofs.lemmas.List.{append-nil}
use Rattle.ic_base.specs.declared.messages.ComId.{ComId}
use Rattle.ic_base.specs.declared.messages.Packet.{Packet}
use Rattle.def_step.specs.World.{World, Node, Done, node_at, world_with, takes_off, no_longer}
use Rattle.def_step.specs.Settle.{is_down, unshown, buffered, since_checkpoint, left}
use Rattle.law_settle.specs.Measure.{IsLower, LowerIsLess}
use Rattle.law_settle.proofs.Common.{sum-set}

-- 1 of a component that is down
abbrev pub down_mark : Node → ℕ
down_mark n = cond (is_down n) 1 0

abbrev pub later_marks : List (Node → ℕ)
later_marks = unshown ∷ buffered ∷ since_checkpoint ∷ []

-- what one node has left
abbrev pub NodeLower : Node → Node → Type 0
NodeLower m n = IsLower (down_mark m ∷ unshown m ∷ buffered m ∷ since_checkpoint m ∷ []) (down_mark n ∷ unshown n ∷ buffered n ∷ since_checkpoint n ∷ [])

abbrev at_node : Node → List (Node → ℕ) → List ℕ
at_node n fs = map (λ f. f n) fs

abbrev in_sum : List Node → List (Node → ℕ) → List ℕ
in_sum ns fs = map (λ f. sum_by f ns) fs

sums-lower : (ns : List Node) (i : ℕ) (n m : Node) → slice_get ns i ≡ Some n → (fs : List (Node → ℕ)) → IsLower (at_node m fs) (at_node n fs) → IsLower (in_sum (slice_set ns i m) fs) (in_sum ns fs)
sums-lower ns i n m is [] h = h
sums-lower ns i n m is (f ∷ fs) (inl less) = inl (omega (arith, sum-set f ns i n m is, less))
sums-lower ns i n m is (f ∷ fs) (inr h) = inr (omega (arith, sum-set f ns i n m is, h.0), sums-lower ns i n m is fs h.1)

-- a member that stays, put in behind the first
put-in : (d e x y : ℕ) (ds es : List ℕ) → x ≡ y → IsLower (d ∷ ds) (e ∷ es) → IsLower (d ∷ x ∷ ds) (e ∷ y ∷ es)
put-in d e x y ds es same (inl less) = inl less
put-in d e x y ds es same (inr h) = inr (h.0, inr (same, h.1))

abbrev left_with : World → List Node → List ℕ → List Packet → List ℕ
left_with w ns waiting ps =
    (PACKETS - length (w.packets ++ ps)) ∷ count_by is_down ns ∷ length (waiting ++ range_with_len (length w.packets + 1) (length ps))
    ∷ sum_by unshown ns ∷ sum_by buffered ns ∷ sum_by since_checkpoint ns ∷ []

-- a packet more lowers the first member
packets-lower : (m n k : ℕ) → m ≡ n + suc k → m ≤ PACKETS → PACKETS - m < PACKETS - n
packets-lower m n k e le = omega (arith, e, le)

one-more : (xs : List Packet) (p : Packet) (ps : List Packet) → length (xs ++ p ∷ ps) ≡ length xs + suc (length ps)
one-more xs p ps = length-append xs (p ∷ ps)

same-length : {X : Type 0} (xs : List X) → length (xs ++ []) ≡ length xs
same-length xs = ap length (append-nil xs)

-- a step of c that puts something out, or leaves less at c
pub node_lowers : (w : World) (c : ComId) (n : Node) (d : Done) → node_at w c ≡ Some n → length (world_with w c d).packets ≤ PACKETS → (d.puts ≡ [] → NodeLower d.node n) → IsLower (left (world_with w c d)) (left w)
node_lowers w c n d is short less = at d.puts refl
  where
    ns : List Node
    ns = slice_set w.nodes c.0 d.node

    at : (ps : List Packet) → d.puts ≡ ps → IsLower (left_with w (slice_set w.nodes c.0 d.node) w.waiting d.puts) (left w)
    at [] e =
        subst (λ ps. IsLower (left_with w (slice_set w.nodes c.0 d.node) w.waiting ps) (left w)) (sym e)
        (inr (
          ap (λ k. PACKETS - k) (same-length w.packets),
          put-in (count_by is_down (slice_set w.nodes c.0 d.node)) (count_by is_down w.nodes) (length (w.waiting ++ [])) (length w.waiting) (in_sum (slice_set w.nodes c.0 d.node) later_marks) (in_sum w.nodes later_marks) (same-length w.waiting)
              (sums-lower w.nodes c.0 n d.node is (down_mark ∷ later_marks) (less e)),
        ))
    at (p ∷ ps) e = inl (packets-lower (length (w.packets ++ d.puts)) (length w.packets) (length ps) (ap (λ l. length (w.packets ++ l)) e ∙ one-more w.packets p ps) short)

same-mark : (m n : Node) → is_down m ≡ is_down n → down_mark m ≡ down_mark n
same-mark m n same = ap {B = ℕ} (λ b. cond b 1 0) same

-- a waiting packet is taken off, and its component is down or up as before
pub delivery_lowers : (w : World) (i : ℕ) (c : ComId) (n : Node) (d : Done) → node_at w c ≡ Some n → length (world_with (takes_off w i) c d).packets ≤ PACKETS → length (no_longer i w.waiting) < length w.waiting → is_down d.node ≡ is_down n
    → IsLower (left (world_with (takes_off w i) c d)) (left w)
delivery_lowers w i c n d is short fewer same = at d.puts refl
  where
    at : (ps : List Packet) → d.puts ≡ ps → IsLower (left_with w (slice_set w.nodes c.0 d.node) (no_longer i w.waiting) d.puts) (left w)
    at [] e =
        subst (λ ps. IsLower (left_with w (slice_set w.nodes c.0 d.node) (no_longer i w.waiting) ps) (left w)) (sym e)
        (inr (
          ap (λ k. PACKETS - k) (same-length w.packets),
          inr (omega (arith, sum-set down_mark w.nodes c.0 n d.node is, same-mark d.node n same), inl (omega (arith, same-length (no_longer i w.waiting), fewer))),
        ))
    at (p ∷ ps) e = inl (packets-lower (length (w.packets ++ d.puts)) (length w.packets) (length ps) (ap (λ l. length (w.packets ++ l)) e ∙ one-more w.packets p ps) short)

-- as one number -----------------------------------------------------------------------------------

Small : List ℕ → Type 0
Small xs = (n : ℕ) → Contains xs n → n < 2 ^ 80

falls : (xs ys : List ℕ) (m n : ℕ) → length xs ≡ length ys → m < n → ((k : ℕ) → Contains xs k → k < 2 ^ 80) → fold (λ k x. k * 2 ^ 80 + x) m xs < fold (λ k x. k * 2 ^ 80 + x) n ys
falls [] [] m n same less small = less
falls [] (y ∷ ys) m n same less small = absurd (omega (arith, same))
falls (x ∷ xs) [] m n same less small = absurd (omega (arith, same))
falls (x ∷ xs) (y ∷ ys) m n same less small =
    falls xs ys (m * 2 ^ 80 + x) (n * 2 ^ 80 + y) (omega (arith, same)) (step (small x (0, omega arith, refl))) (λ k has. small k (suc has.0, omega (arith, has.1), has.2))
  where
    step : x < 2 ^ 80 → m * 2 ^ 80 + x < n * 2 ^ 80 + y
    step s = omega (arith, less, s)

lower-falls : (xs ys : List ℕ) (m : ℕ) → length xs ≡ length ys → ((k : ℕ) → Contains xs k → k < 2 ^ 80) → IsLower xs ys → fold (λ k x. k * 2 ^ 80 + x) m xs < fold (λ k x. k * 2 ^ 80 + x) m ys
lower-falls [] ys m same small h = absurd h
lower-falls (x ∷ xs) [] m same small h = absurd h
lower-falls (x ∷ xs) (y ∷ ys) m same small (inl less) =
    falls xs ys (m * 2 ^ 80 + x) (m * 2 ^ 80 + y) (omega (arith, same)) (omega (arith, less)) (λ k has. small k (suc has.0, omega (arith, has.1), has.2))
lower-falls (x ∷ xs) (y ∷ ys) m same small (inr h) =
    subst (λ z. fold (λ k x. k * 2 ^ 80 + x) (m * 2 ^ 80 + x) xs < fold (λ k x. k * 2 ^ 80 + x) (m * 2 ^ 80 + z) ys) h.0
    (lower-falls xs ys (m * 2 ^ 80 + x) (omega (arith, same)) (λ k has. small k (suc has.0, omega (arith, has.1), has.2)) h.1)

pub lower_is_less : LowerIsLess
lower_is_less v w small h = lower-falls (left v) (left w) 0 refl small h
